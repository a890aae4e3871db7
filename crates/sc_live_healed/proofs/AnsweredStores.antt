-- A store that healed answers: each client that a turn kicks has all its replies behind the turn, or the node that it asked last has crashed; and where no line crashes a node, all its replies.
use Rattle.std.proofs.Common.{◌≡◌, ℕ, ◌^◌, ◌≤◌, ◌&&◌, ◌||◌, not, nat_le, eqb, false, true, true≢false, Bool, List, [], ◌∷◌, ◌++◌, length, length-append, map, ◌⊎◌, inl, inr, refl, sym, ◌∙◌, ap, subst, arith, append_assoc}
use Rattle.std.specs.List.{flat_map, list_any}
use Rattle.std.proofs.lemmas.Bool.{cases_Bool, ne_eqb, and_from, le-leb}
use Rattle.std.proofs.lemmas.List.Folds.{list_any-append}
use Rattle.sc_base.specs.Definitions.{Among, Each, client_actor}
use Rattle.sc_words.proofs.PaxosProofs.PaxosLemmas.{Each-among, Each-from_All, find_found}
use Rattle.sc_node_table.specs.Values.{Seat, Base, OrderLine, Mail, Node}
use Rattle.sc_actor.specs.declared.schedules.Line.{Line}
use Rattle.sc_actor.specs.declared.schedules.Line.TheVariants.{Crash as CrashLine}
use Rattle.sc_actor.specs.Definitions.{value, is_quiet, has_crashed, has_started, unsettled, tasks_of, System, IsLawful, IsWhole}
use Rattle.sc_actor.proofs.Lemmas.{lawful-prefix, Stands}
use Rattle.sc_node_table.specs.NodeDefinitions.{NodeState, ReplicaState}
use Rattle.sc_scenario.specs.declared.scenario.scenarios.Scenario.{Scenario}
use Rattle.sc_scenario.specs.declared.scenario.scenarios.Asks.{Asks as Requests}
use Rattle.sc_scenario.specs.declared.scenario.scenarios.SchedLine.{SchedLine}
use Rattle.sc_scenario.specs.declared.scenario.scenarios.SchedLine.TheVariants.{Crash, Settle}
use Rattle.sc_scenario.specs.scenario.Definitions.{IsValid, IsBounded, IsBoundedLine, IsBoundedClient}
use Rattle.sc_scenario.proofs.ScenarioProofs.Lemmas.{valid_scenarios_are_bounded}
use Rattle.sc_meaning.specs.sound.SoundDefinitions.{Lawful, Whole, Player, as_nodes, births, line_of, player_table, schedule, system_of}
use Rattle.sc_live_orderly.specs.OrderlyDefinitions.{Ticks, Starts, HasTurns, IsTurn}
use Rattle.sc_live_orderly.proofs.PassedTasks.{flat_append}
use Rattle.sc_live_orderly.proofs.TakenTurns.{turns_taken}
use Rattle.sc_live_healed.proofs.FixedJournals.{Rows, IsOf, AreWithoutOrders}
use Rattle.sc_live_healed.proofs.HealedIdle.{sweep_ticks, ends_quiet, replicas_rest, healed_stores_stay_idle}
use Rattle.sc_live_healed.proofs.HealedLines.{client_turn, clients_are, lines_spare, turns_of, lines_to, lines_are_turns, lines_go_on, healed_untold}
use Rattle.sc_live_healed.proofs.LivingSeats.{node_found, node_numbered}
use Rattle.sc_live_healed.proofs.ShorterSchedules.{WholePrefix, whole_prefix}
use Rattle.sc_live_healed.proofs.RowsWithoutOrders.{Spares, rows_untold, rows_spare}
use Rattle.sc_live_orderly.proofs.TakenTurns.{turns_from}
use Rattle.sc_live_healed.proofs.CrashedNodes.{has_crash, line_crashes, asks_spare}
use Rattle.sc_live_healed.proofs.AnsweredTurns.{turn_answers}
use Rattle.sc_live_healed.specs.HealedDefinitions.{crashes, lives, HasLivingMajorities, NodeTurn, ClientTurn, node_lines, client_lines, IsHealed, IsIdle, IsAtEnd, IsKicked, HasReplies, AskedACrashedNode, HealedStoresAnswer}

-- the lines up to some turns of clients, and those of the other turns
lines_apart : (before : List SchedLine) (most : ℕ) (sweep : List NodeTurn) (done rest : List ClientTurn) → lines_to before most sweep (done ++ rest) ≡ lines_to before most sweep done ++ flat_map client_lines rest
lines_apart before most sweep done rest =
    let first : List SchedLine = before ++ (Settle most ∷ flat_map node_lines sweep) in
    ap (λ ls. first ++ ls) (flat_append client_lines done rest) ∙ sym (append_assoc first (flat_map client_lines done) (flat_map client_lines rest))

-- a line that crashes a node is among the prefix where it is not among the others
crash_here : (node : ℕ) (lines first others : List SchedLine) → lines ≡ first ++ others → list_any (crashes node) others ≡ false → list_any (crashes node) lines ≡ true → list_any (crashes node) first ≡ true
crash_here node lines first others e none some = alone (list_any (crashes node) first) (list_any (crashes node) others) none (sym (ap (λ ls. list_any (crashes node) ls) e ∙ list_any-append (crashes node) first others) ∙ some)
  where
    alone : (a b : Bool) → b ≡ false → (a || b) ≡ true → a ≡ true
    alone true b f e = refl
    alone false b f e = absurd (true≢false (sym e ∙ f))

module _ (words : ℕ → ℕ → ℕ × ℕ) (scenario : Scenario) (journal : Rows) (healed : IsHealed scenario) (valid : IsValid scenario) (majorities : HasLivingMajorities scenario) (lawful : Lawful as_nodes words scenario journal) (few : length journal ≤ 2 ^ 28) where
  abbrev system : System Player Mail OrderLine
  system = system_of as_nodes words scenario

  bounded : IsBounded scenario
  bounded = valid_scenarios_are_bounded scenario valid

  abbrev lines_of : List ClientTurn → List (Line OrderLine)
  lines_of done = map line_of (lines_to healed.before healed.most healed.sweep done)

  -- ---- who has crashed

  -- no line crashes a client
  client_spared : (asks : Requests) → Among asks scenario.clients → Each (Spares {O = OrderLine} (client_actor asks.client)) (schedule scenario)
  client_spared asks a = by scenario.lines (Each-from_All (IsBoundedLine scenario.nodes scenario.clients) scenario.lines bounded.lines)
    where
      least : 1 ≤ asks.client
      least = (Each-among IsBoundedClient scenario.clients asks (Each-from_All IsBoundedClient scenario.clients bounded.clients) a).0.0

      one : (line : SchedLine) → IsBoundedLine scenario.nodes scenario.clients line → Spares {O = OrderLine} (client_actor asks.client) (line_of line)
      one (Crash node) b = (let high = b.1 in let most = bounded.nodes.1 in let up = least in ne_eqb node (client_actor asks.client) (λ e. absurd (omega (arith, high, most, up, e))))
      one _ b = tt

      by : (lines : List SchedLine) → Each (IsBoundedLine scenario.nodes scenario.clients) lines → Each (Spares {O = OrderLine} (client_actor asks.client)) (map line_of lines)
      by [] b = tt
      by (line ∷ lines) b = (one line b.0, by lines b.1)

  -- ---- the ends of lines

  module _ (done rest : List ClientTurn) (asks_are : healed.asks ≡ done ++ rest) (rows more : Rows) (journal_is : journal ≡ rows ++ more) (rows_lawful : IsLawful system (lines_of done) rows) (rows_whole : IsWhole system (lines_of done) rows) (rows_uncut : unsettled system (lines_of done) rows ≡ false) where
    lawful_rows : Lawful as_nodes words scenario rows
    lawful_rows = lawful-prefix system (schedule scenario) rows more (subst (Lawful as_nodes words scenario) journal_is lawful)

    untold_rows : AreWithoutOrders words scenario bounded healed.no_policy rows
    untold_rows = rows_untold system (schedule scenario) rows (healed_untold scenario healed) lawful_rows

    few_rows : length rows ≤ 2 ^ 28
    few_rows = (let parts = ap length journal_is ∙ length-append rows more in omega (arith, parts, few))

    taken : (before : Rows) × HasTurns system before (turns_of healed.sweep done) rows
    taken =
        let turned = lines_are_turns healed.before healed.most healed.sweep done in
        turns_taken system (map line_of healed.before) healed.most (turns_of healed.sweep done) rows (subst (λ ls. IsLawful system ls rows) turned rows_lawful) (subst (λ ls. IsWhole system ls rows) turned rows_whole)
        (subst (λ ls. unsettled system ls rows ≡ false) turned rows_uncut)

    quiet_rows : is_quiet system rows ≡ true
    quiet_rows = ends_quiet system taken.0 (turns_of healed.sweep done) rows taken.1

    -- whoever has not crashed lives
    lives_so : (node : ℕ) → 1 ≤ node → node ≤ scenario.nodes → has_crashed rows node ≡ false → lives scenario node ≡ true
    lives_so node low high alive = elim (cases_Bool (list_any (crashes node) scenario.lines)) [
      | inr none ↦ and_from (nat_le 1 node && nat_le node scenario.nodes) (not (list_any (crashes node) scenario.lines)) (and_from (nat_le 1 node) (nat_le node scenario.nodes) (le-leb 1 node low) (le-leb node scenario.nodes high)) (ap not none)
      | inl some ↦
          let first : List SchedLine = lines_to healed.before healed.most healed.sweep done in
          let parts : scenario.lines ≡ first ++ flat_map client_lines rest =
          healed.lines_are ∙ ap (λ asks. lines_to healed.before healed.most healed.sweep asks) asks_are ∙ lines_apart healed.before healed.most healed.sweep done rest in
          let here : list_any (crashes node) first ≡ true = crash_here node scenario.lines first (flat_map client_lines rest) parts (asks_spare node rest) some in
          let split = has_crash node first here in
          let mapped : lines_of done ≡ map line_of split.pre ++ CrashLine node ∷ map line_of split.post = ap (λ ls. map line_of ls) split.lines_are ∙ map_parts split.pre (Crash node ∷ split.post) in
          absurd (true≢false (sym (line_crashes system (map line_of split.pre) (map line_of split.post) node rows (subst (λ ls. IsLawful system ls rows) mapped rows_lawful) (subst (λ ls. IsWhole system ls rows) mapped rows_whole) _ (node_found scenario node low high)) ∙ alive))
    ]
      where
        map_parts : (xs ys : List SchedLine) → map line_of (xs ++ ys) ≡ map line_of xs ++ map line_of ys
        map_parts [] ys = refl
        map_parts (x ∷ xs) ys = ap (λ ls. line_of x ∷ ls) (map_parts xs ys)

    -- each replica that runs at a node that has not crashed is idle
    rest_idle : (other : Seat Player) → IsOf scenario other → (node : NodeState) → value player_table other rows ≡ Node node → has_crashed rows other.who ≡ false → Each (λ (r : ReplicaState). r.running ≡ true → IsIdle r) node.replicas
    rest_idle other of node e alive =
        let numbered = node_numbered scenario other (find_found (λ (x : Seat Player). eqb x.who other.who) (births as_nodes scenario) other of).0 rows node e in
        replicas_rest words scenario bounded healed.no_policy majorities taken.0 rows (turns_of healed.sweep done) taken.1 lawful_rows untold_rows few_rows
        (λ who l. (let swept = healed.swept who l in sweep_ticks who swept.0 healed.sweep (map client_turn done) swept.1 swept.2)) other of node e (lives_so other.who numbered.0 numbered.1 alive)

  -- ---- one turn of a client

  module _ (uncut : unsettled system (schedule scenario) journal ≡ false) (whole : Whole as_nodes words scenario journal) (done rest : List ClientTurn) (turn : ClientTurn) (asks : Requests) (asks_are : healed.asks ≡ done ++ turn ∷ rest) (among : Among asks scenario.clients) (same : asks.client ≡ turn.client) where
    abbrev last : List ClientTurn
    last = done ++ turn ∷ []

    abbrev others : List (Line OrderLine)
    others = map line_of (flat_map client_lines rest)

    abbrev own : List (Line OrderLine)
    own = map line_of (flat_map client_lines (turn ∷ []))

    later_are : healed.asks ≡ last ++ rest
    later_are = asks_are ∙ sym (append_assoc done (turn ∷ []) rest)

    all_lines : schedule scenario ≡ lines_of last ++ others
    all_lines =
        ap (λ ls. map line_of ls) healed.lines_are
        ∙ (ap (λ turns. map line_of (lines_to healed.before healed.most healed.sweep turns)) later_are ∙ lines_go_on healed.before healed.most healed.sweep last rest)

    -- the prefix behind the turn
    late : WholePrefix system (lines_of last) others journal (subst (λ ls. IsLawful system ls journal) all_lines lawful) (subst (λ ls. IsWhole system ls journal) all_lines whole)
    late = whole_prefix system (lines_of last) others journal (subst (λ ls. IsLawful system ls journal) all_lines lawful) (subst (λ ls. IsWhole system ls journal) all_lines whole) (subst (λ ls. unsettled system ls journal ≡ false) all_lines uncut)

    turn_lines_are : lines_of last ≡ lines_of done ++ own
    turn_lines_are = lines_go_on healed.before healed.most healed.sweep done (turn ∷ [])

    late_lawful : IsLawful system (lines_of done ++ own) late.rows
    late_lawful = subst (λ ls. IsLawful system ls late.rows) turn_lines_are late.lawful_first

    late_whole : IsWhole system (lines_of done ++ own) late.rows
    late_whole = subst (λ ls. IsWhole system ls late.rows) turn_lines_are late.whole_first

    late_uncut : unsettled system (lines_of done ++ own) late.rows ≡ false
    late_uncut = subst (λ ls. unsettled system ls late.rows ≡ false) turn_lines_are late.uncut

    -- and the one before it
    early : WholePrefix system (lines_of done) own late.rows late_lawful late_whole
    early = whole_prefix system (lines_of done) own late.rows late_lawful late_whole late_uncut

    early_is : journal ≡ early.rows ++ (early.more ++ late.more)
    early_is = late.journal_is ∙ ap (λ (rs : Rows). rs ++ late.more) early.journal_is ∙ append_assoc early.rows early.more late.more

    early_quiet : is_quiet system early.rows ≡ true
    early_quiet = quiet_rows done (turn ∷ rest) asks_are early.rows (early.more ++ late.more) early_is early.lawful_first early.whole_first early.uncut

    late_quiet : is_quiet system late.rows ≡ true
    late_quiet = quiet_rows last rest later_are late.rows late.more late.journal_is late.lawful_first late.whole_first late.uncut

    turns : HasTurns system early.rows (client_turn turn ∷ []) late.rows
    turns =
        turns_from system (lines_of done ++ own) late.rows late_lawful late_whole late_uncut (client_turn turn ∷ []) early.rows early.more early.k early.c early_quiet early.journal_is
        (subst (λ ls. Stands system (lines_of done ++ own) early.rows (flat_map (tasks_of system.words) ls) early.k early.c) (clients_are (turn ∷ [])) early.stands)

    the_turn : IsTurn system early.rows (client_turn turn) late.rows
    the_turn = subst (λ (rs : Rows). IsTurn system early.rows (client_turn turn) rs) turns.2.1 turns.1

    at_early : IsAtEnd words scenario healed done journal early.rows
    at_early = record { later = early.more ++ late.more; goes_on = early_is; lawful = early.lawful_first; whole = early.whole_first; quiet = early_quiet }

    at_late : IsAtEnd words scenario healed last journal late.rows
    at_late = record { later = late.more; goes_on = late.journal_is; lawful = late.lawful_first; whole = late.whole_first; quiet = late_quiet }

    late_rows_lawful : Lawful as_nodes words scenario late.rows
    late_rows_lawful = lawful_rows last rest later_are late.rows late.more late.journal_is late.lawful_first late.whole_first late.uncut

    answers : IsKicked turn early.rows → HasReplies scenario asks late.rows ⊎ AskedACrashedNode scenario asks late.rows
    answers kicked = by scenario.groups refl
      where
        by : (bases : List Base) → scenario.groups ≡ bases → HasReplies scenario asks late.rows ⊎ AskedACrashedNode scenario asks late.rows
        by [] none = inl (λ one more e. absurd (no_group (sym none ∙ e)))
          where
            no_group : {x : Base} {xs : List Base} → ◌≡◌ {A = List Base} [] (x ∷ xs) → ⊥
            no_group e = cc
        by (base ∷ bases) are =
            turn_answers words scenario bounded healed.no_policy asks among base bases are early.rows (client_turn turn) late.rows the_turn (ap client_actor (sym same))
            (untold_rows last rest later_are late.rows late.more late.journal_is late.lawful_first late.whole_first late.uncut) late_rows_lawful
            (rows_spare system (client_actor asks.client) (schedule scenario) early.rows (client_spared asks among) (lawful_rows done (turn ∷ rest) asks_are early.rows (early.more ++ late.more) early_is early.lawful_first early.whole_first early.uncut))
            (rest_idle done (turn ∷ rest) asks_are early.rows (early.more ++ late.more) early_is early.lawful_first early.whole_first early.uncut)
            (rest_idle last rest later_are late.rows late.more late.journal_is late.lawful_first late.whole_first late.uncut)
            (subst (λ n. ((has_started early.rows (client_actor n) ≡ true) × (turn.kick ≡ Ticks)) ⊎ ((has_started early.rows (client_actor n) ≡ false) × (turn.kick ≡ Starts))) (sym same) kicked)

    -- where no line crashes a node, the client has all replies
    answers_all : ((node : ℕ) → list_any (crashes node) scenario.lines ≡ false) → IsKicked turn early.rows → HasReplies scenario asks late.rows
    answers_all spared kicked = elim (answers kicked) [
      | inl replies ↦ replies
      | inr k ↦ absurd (true≢false (sym k.crashed ∙ rows_spare system k.node (schedule scenario) late.rows (lines_spare k.node scenario.lines (spared k.node)) late_rows_lawful))
    ]

-- Each whole lawful journal of a valid scenario whose lines heal, with living majorities, in which no line was cut off, heals the store.
pub healed_stores_answer : HealedStoresAnswer
healed_stores_answer words scenario journal healed valid majorities lawful whole uncut few = record {
  idle = healed_stores_stay_idle words scenario journal healed valid majorities lawful whole uncut few;
  answers = λ done rest turn asks asks_are among same. (
    (early words scenario journal healed valid majorities lawful few uncut whole done rest turn asks asks_are among same).rows,
    (late words scenario journal healed valid majorities lawful few uncut whole done rest turn asks asks_are among same).rows,
    at_early words scenario journal healed valid majorities lawful few uncut whole done rest turn asks asks_are among same,
    at_late words scenario journal healed valid majorities lawful few uncut whole done rest turn asks asks_are among same,
    λ kicked. answers words scenario journal healed valid majorities lawful few uncut whole done rest turn asks asks_are among same kicked,
  );
  all = λ spared done rest turn asks asks_are among same. (
    (early words scenario journal healed valid majorities lawful few uncut whole done rest turn asks asks_are among same).rows,
    (late words scenario journal healed valid majorities lawful few uncut whole done rest turn asks asks_are among same).rows,
    at_early words scenario journal healed valid majorities lawful few uncut whole done rest turn asks asks_are among same,
    at_late words scenario journal healed valid majorities lawful few uncut whole done rest turn asks asks_are among same,
    λ kicked. answers_all words scenario journal healed valid majorities lawful few uncut whole done rest turn asks asks_are among same spared kicked,
  );
}
