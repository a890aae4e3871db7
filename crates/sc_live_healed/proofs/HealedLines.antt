-- The lines that heal, as lines of a walk: any lines without orders, a `settle` line, and turns; no line behind the first ones crashes an actor.
use Rattle.std.proofs.Common.{◌≡◌, ℕ, ◌||◌, not, Bool, true, false, List, [], ◌∷◌, ◌++◌, map, append_assoc, refl, sym, ◌∙◌, ap, subst}
use Rattle.std.specs.List.{flat_map, list_any}
use Rattle.std.proofs.lemmas.Bool.{and_parts}
use Rattle.sc_base.specs.Definitions.{Each, client_actor}
use Rattle.sc_words.proofs.PaxosProofs.PaxosLemmas.{Each-append}
use Rattle.sc_node_table.specs.Values.{OrderLine}
use Rattle.sc_actor.specs.declared.schedules.Line.TheVariants.{Settle as SettleLine}
use Rattle.sc_scenario.specs.declared.scenario.scenarios.Scenario.{Scenario}
use Rattle.sc_scenario.specs.declared.scenario.scenarios.SchedLine.{SchedLine}
use Rattle.sc_scenario.specs.declared.scenario.scenarios.SchedLine.TheVariants.{Tick, Crash, Told, Settle}
use Rattle.sc_meaning.specs.sound.SoundDefinitions.{line_of, schedule}
use Rattle.sc_live_orderly.specs.OrderlyDefinitions.{Kick, Ticks, Starts, Turn, kick_line, turn_lines}
use Rattle.sc_live_orderly.proofs.PassedTasks.{flat_append}
use Rattle.sc_live_healed.proofs.RowsWithoutOrders.{IsWithoutOrders, Spares}
use Rattle.sc_live_healed.specs.HealedDefinitions.{crashes, is_order, lives, NodeTurn, ClientTurn, node_lines, client_line, client_lines, IsHealed}

-- the turn of a node, and of a client
abbrev pub node_turn : NodeTurn → Turn
node_turn turn = record { kick = Ticks; who = turn.node; most = turn.most }

abbrev pub client_turn : ClientTurn → Turn
client_turn turn = record { kick = turn.kick; who = client_actor turn.client; most = turn.most }

-- the turns of a sweep and of clients
abbrev pub turns_of : List NodeTurn → List ClientTurn → List Turn
turns_of sweep asks = map node_turn sweep ++ map client_turn asks

map_append : {X Y : Type 0} (f : X → Y) (xs ys : List X) → map f (xs ++ ys) ≡ map f xs ++ map f ys
map_append f [] ys = refl
map_append f (x ∷ xs) ys = ap (λ zs. f x ∷ zs) (map_append f xs ys)

nodes_are : (sweep : List NodeTurn) → map line_of (flat_map node_lines sweep) ≡ flat_map turn_lines (map node_turn sweep)
nodes_are [] = refl
nodes_are (turn ∷ sweep) = ap (λ ls. line_of (Tick turn.node) ∷ SettleLine turn.most ∷ ls) (nodes_are sweep)

client_line_is : (kick : Kick) (client : ℕ) → line_of (client_line kick client) ≡ kick_line kick (client_actor client)
client_line_is Ticks client = refl
client_line_is Starts client = refl

pub clients_are : (asks : List ClientTurn) → map line_of (flat_map client_lines asks) ≡ flat_map turn_lines (map client_turn asks)
clients_are [] = refl
clients_are (turn ∷ asks) =
    ap (λ l. l ∷ SettleLine turn.most ∷ map line_of (flat_map client_lines asks)) (client_line_is turn.kick turn.client)
    ∙ ap (λ ls. kick_line turn.kick (client_actor turn.client) ∷ SettleLine turn.most ∷ ls) (clients_are asks)

-- the lines up to these turns of clients
abbrev pub lines_to : List SchedLine → ℕ → List NodeTurn → List ClientTurn → List SchedLine
lines_to before most sweep done = before ++ Settle most ∷ flat_map node_lines sweep ++ flat_map client_lines done

-- as lines of a walk they are lines, a `settle` line and turns
pub lines_are_turns : (before : List SchedLine) (most : ℕ) (sweep : List NodeTurn) (done : List ClientTurn) → map line_of (lines_to before most sweep done) ≡ map line_of before ++ SettleLine most ∷ flat_map turn_lines (turns_of sweep done)
lines_are_turns before most sweep done =
    let first : List SchedLine = before ++ (Settle most ∷ flat_map node_lines sweep) in
    let last = map line_of (flat_map client_lines done) in
    map_append line_of first (flat_map client_lines done)
    ∙ (ap (λ ls. ls ++ last) (map_append line_of before (Settle most ∷ flat_map node_lines sweep))
    ∙ (append_assoc (map line_of before) (SettleLine most ∷ map line_of (flat_map node_lines sweep)) last
    ∙ ap (λ ls. map line_of before ++ (SettleLine most ∷ ls))
    (ap (λ ls. ls ++ last) (nodes_are sweep) ∙ (ap (λ ls. flat_map turn_lines (map node_turn sweep) ++ ls) (clients_are done) ∙ sym (flat_append turn_lines (map node_turn sweep) (map client_turn done))))))

-- all lines are those up to some turns, and the others
pub lines_go_on : (before : List SchedLine) (most : ℕ) (sweep : List NodeTurn) (done rest : List ClientTurn) → map line_of (lines_to before most sweep (done ++ rest)) ≡ map line_of (lines_to before most sweep done) ++ map line_of (flat_map client_lines rest)
lines_go_on before most sweep done rest =
    let first : List SchedLine = before ++ (Settle most ∷ flat_map node_lines sweep) in
    ap (λ ls. map line_of (first ++ ls)) (flat_append client_lines done rest)
    ∙ (ap (λ ls. map line_of ls) (sym (append_assoc first (flat_map client_lines done) (flat_map client_lines rest)))
    ∙ map_append line_of (lines_to before most sweep done) (flat_map client_lines rest))

-- ---- no orders

or_none : (a b : Bool) → (a || b) ≡ false → (a ≡ false) × (b ≡ false)
or_none false b e = (refl, e)
or_none true b e = absurd (cc)

line_untold : (line : SchedLine) → is_order line ≡ false → IsWithoutOrders (line_of line)
line_untold (Told node order) e = absurd (cc)
line_untold _ e = refl

lines_untold : (lines : List SchedLine) → list_any is_order lines ≡ false → Each IsWithoutOrders (map line_of lines)
lines_untold [] e = tt
lines_untold (line ∷ lines) e = (let p = or_none (is_order line) (list_any is_order lines) e in (line_untold line p.0, lines_untold lines p.1))

turns_untold : (turns : List Turn) → Each (IsWithoutOrders {O = OrderLine}) (flat_map turn_lines turns)
turns_untold [] = tt
turns_untold (turn ∷ turns) = (by turn.kick, (refl, turns_untold turns))
  where
    by : (kick : Kick) → IsWithoutOrders {O = OrderLine} (kick_line kick turn.who)
    by Ticks = refl
    by Starts = refl

-- no line that heals gives an order
pub healed_untold : (scenario : Scenario) → IsHealed scenario → Each IsWithoutOrders (schedule scenario)
healed_untold scenario h =
    subst (Each IsWithoutOrders) (sym (ap (λ ls. map line_of ls) h.lines_are ∙ lines_are_turns h.before h.most h.sweep h.asks))
    (Each-append IsWithoutOrders (map line_of h.before) (SettleLine h.most ∷ flat_map turn_lines (turns_of h.sweep h.asks)) (lines_untold h.before h.no_orders) (refl, turns_untold (turns_of h.sweep h.asks)))

-- ---- no crashes

line_spares : (who : ℕ) (line : SchedLine) → crashes who line ≡ false → Spares who (line_of line)
line_spares who (Crash node) e = e
line_spares who _ e = tt

pub lines_spare : (who : ℕ) (lines : List SchedLine) → list_any (crashes who) lines ≡ false → Each (Spares who) (map line_of lines)
lines_spare who [] e = tt
lines_spare who (line ∷ lines) e = (let p = or_none (crashes who line) (list_any (crashes who) lines) e in (line_spares who line p.0, lines_spare who lines p.1))

-- no line crashes who lives
pub living_spared : (scenario : Scenario) (who : ℕ) → lives scenario who ≡ true → Each (Spares who) (schedule scenario)
living_spared scenario who l = lines_spare who scenario.lines (by (list_any (crashes who) scenario.lines) (and_parts _ (not (list_any (crashes who) scenario.lines)) l).1)
  where
    by : (b : Bool) → not b ≡ true → b ≡ false
    by false e = refl
    by true e = cc
