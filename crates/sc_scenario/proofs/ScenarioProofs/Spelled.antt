-- What the words of a line spell: groups of nodes, lines of the schedule, orders.
use Rattle.std.proofs.Common.{◌≡◌, ◌<◌, ◌≤◌, ◌+◌, ◌^◌, ◌||◌, eqb, ltb, leb, ℕ, List, [], ◌∷◌, ◌++◌, Some, None, Bool, true, false, if◌then◌else◌, refl, sym, ap, subst, inl, inr, arith, is_none, true≢false}
use Rattle.std.specs.Prelude.{Ok}
use Rattle.std.specs.Option.{option_map}
use Rattle.std.specs.List.{All, list_any}
use Rattle.std.proofs.lemmas.Bool.{or_parts, eqb-true, eq-eqb, ltb-false, leb-true}
use Rattle.std.proofs.lemmas.Option.{none-some, same_Some}
use Rattle.std.proofs.lemmas.List.Elements.{All-nil, All-cons, All-push, All-head, All-tail}
use Rattle.sc_base.proofs.Lemmas.{and_then-some, map-some}
use Rattle.sc_base.specs.Definitions.{most_nodes, most_clients, client_actor, number_of, IsRoster, with_member, add_error}
use Rattle.sc_words.specs.declared.commands.orders.Order.{Order}
use Rattle.sc_words.specs.declared.commands.orders.Order.TheVariants.{Join, Leave, Split, Merge, Repart, Migrate}
use Rattle.sc_texts.specs.lines.Definitions.{or_reason, nth, count_in}
use Rattle.sc_scenario.specs.scenario.Definitions.{nodes_with, joined_by, joined_by_all, most_mails, most_deliveries, most_workers, last_storm, is_client, actor_in, line_in, name_in, last_position, order_in, is_actor, is_order_known, is_line_known, has_stranger, IsBoundedLine, IsBoundedOrder, IsActor, IsUpTo}
use Rattle.sc_texts.specs.declared.lines.reasons.Reason.TheVariants.{WrongCount, BadNumber}
use Rattle.sc_texts.specs.declared.lines.kinds.LineKind.{LineKind}
use Rattle.sc_texts.specs.declared.lines.kinds.LineKind.TheVariants as kind
use Rattle.sc_texts.specs.declared.lines.kinds.OrderKind.{OrderKind}
use Rattle.sc_texts.specs.declared.lines.kinds.OrderKind.TheVariants as what
use Rattle.sc_scenario.specs.declared.scenario.scenarios.Asks.{Asks}
use Rattle.sc_scenario.specs.declared.scenario.scenarios.SchedLine.{SchedLine}
use Rattle.sc_scenario.specs.declared.scenario.scenarios.SchedLine.TheVariants.{Go, Deliver, Drop, Again, Tick, Crash, Settle, Free, Storm}
use Rattle.sc_texts.proofs.LinesProofs.Lemmas.{is_up_to, counted}
use Rattle.sc_scenario.proofs.ScenarioProofs.Results.{err_ok, same_Ok, or_reason_ok}
use Rattle.sc_scenario.proofs.ScenarioProofs.Rosters.{roster_with, all_with}
use Rattle.std.proofs.Math.Bool.{or-true}

-- ---- the nodes of a group

pub joined_case : (b : Bool) (members : List ℕ) (node : ℕ) → is_none (add_error members node) ≡ b → IsRoster members → IsRoster (if b then with_member members node else members)
joined_case true members node e is = roster_with members node is e
joined_case false members node e is = is

pub all_case : (P : ℕ → Type 0) (b : Bool) (members : List ℕ) (node : ℕ) → All P members → P node → All P (if b then with_member members node else members)
all_case P true members node all here = all_with P members node all here
all_case P false members node all here = all

pub joined_is : (nodes members : List ℕ) → IsRoster members → IsRoster (joined_by_all members nodes)
joined_is [] members is = is
joined_is (node ∷ nodes) members is = joined_is nodes (joined_by members node) (joined_case (is_none (add_error members node)) members node refl is)

pub joined_all : (P : ℕ → Type 0) (nodes members : List ℕ) → All P members → All P nodes → All P (joined_by_all members nodes)
joined_all P [] members all more = all
joined_all P (node ∷ nodes) members all more =
    joined_all P nodes (joined_by members node) (all_case P (is_none (add_error members node)) members node all (All-head P node nodes more)) (All-tail P node nodes more)

pub nodes_up : (words : List (List ℕ)) (nodes more : List ℕ) → All (IsUpTo most_nodes) nodes → nodes_with nodes words ≡ Some more → All (IsUpTo most_nodes) more
nodes_up [] nodes more all e = subst (All (IsUpTo most_nodes)) (same_Some nodes more e) all
nodes_up (word ∷ words) nodes more all e =
    let b = and_then-some (λ node. nodes_with (nodes ++ node ∷ []) words) (count_in most_nodes word) more e in
    nodes_up words (nodes ++ b.0 ∷ []) more (All-push (IsUpTo most_nodes) nodes b.0 all (counted most_nodes word b.0 b.1)) b.2

pub no_stranger : (most : ℕ) (nodes : List ℕ) → has_stranger most nodes ≡ false → All (IsUpTo most_nodes) nodes → All (IsUpTo most) nodes
no_stranger most [] e all = All-nil (IsUpTo most)
no_stranger most (node ∷ nodes) e all =
    let parts = or_parts (ltb most node) (has_stranger most nodes) e in
    let up = All-head (IsUpTo most_nodes) node nodes all in
    All-cons (IsUpTo most) node nodes (up.0, ltb-false most node parts.0) (no_stranger most nodes parts.1 (All-tail (IsUpTo most_nodes) node nodes all))

-- ---- the schedule

-- a client among those with a section, by its number as an actor
abbrev pub Found : List Asks → ℕ → Type 0
Found clients who = (client : ℕ) × (who ≡ client_actor client) × (is_client clients client ≡ true)

abbrev pub has_actor : List Asks → ℕ → Bool
has_actor clients who = list_any (λ asks. eqb (client_actor asks.client) who) clients

pub found_by : (asks : Asks) (clients : List Asks) (who : ℕ) → (has_actor clients who ≡ true → Found clients who) → (b : Bool) → eqb (client_actor asks.client) who ≡ b → (b || has_actor clients who) ≡ true → Found (asks ∷ clients) who
found_by asks clients who more true h e =
    (asks.client, sym (eqb-true (client_actor asks.client) who h), ap (λ b. b || is_client clients asks.client) (eq-eqb asks.client asks.client refl))
found_by asks clients who more false h e =
    let m = more e in
    (m.0, m.1, subst (λ c. (eqb asks.client m.0 || c) ≡ true) (sym m.2) (or-true (eqb asks.client m.0)))

pub found : (clients : List Asks) (who : ℕ) → has_actor clients who ≡ true → Found clients who
found [] who e = absurd (true≢false (sym e))
found (asks ∷ clients) who e =
    found_by asks clients who (λ h. found clients who h) (eqb (client_actor asks.client) who) refl e

pub actor_case : (nodes : ℕ) (clients : List Asks) (who : ℕ) (b : Bool) → leb who nodes ≡ b → 1 ≤ who → (b || has_actor clients who) ≡ true → IsActor nodes clients who
actor_case nodes clients who true h some e = inl (some, leb-true who nodes h)
actor_case nodes clients who false h some e = inr (found clients who e)

pub actor_is : (nodes : ℕ) (clients : List Asks) (who : ℕ) → 1 ≤ who → is_actor nodes clients who ≡ true → IsActor nodes clients who
actor_is nodes clients who some e = actor_case nodes clients who (leb who nodes) refl some e

pub some_by : (digits : List ℕ) (node client : Bool) (who : ℕ)
    → (if node then count_in most_nodes digits else if client then option_map (λ c. client_actor c) (count_in most_clients digits) else None) ≡ Some who → 1 ≤ who
some_by digits true client who e = (counted most_nodes digits who e).0
some_by digits false true who e = let m = map-some (λ c. client_actor c) (count_in most_clients digits) who e in let same : 32 + m.0 ≡ who = m.2 in omega (arith, same)
some_by digits false false who e = absurd (none-some who e)

pub some_actor : (word : List ℕ) (who : ℕ) → actor_in word ≡ Some who → 1 ≤ who
some_actor [] who e = absurd (none-some who e)
some_actor (letter ∷ digits) who e = some_by digits (eqb letter 110) (eqb letter 99) who e

pub node_is : (nodes : ℕ) (word : List ℕ) (node : ℕ) → count_in most_nodes word ≡ Some node → leb node nodes ≡ true → IsUpTo nodes node
node_is nodes word node e h = ((counted most_nodes word node e).0, leb-true node nodes h)

-- what a line was read from holds of the line
abbrev pub Played : ℕ → List Asks → SchedLine → Type 0
Played nodes clients line = is_line_known nodes clients line ≡ true → IsBoundedLine nodes clients line

pub line_is : (nodes : ℕ) (clients : List Asks) (k : LineKind) (words : List (List ℕ)) (line : SchedLine) → line_in k words ≡ Ok line → Played nodes clients line
line_is nodes clients kind.Go words line e =
    let g = or_reason_ok (count_in most_clients (nth words 1)) BadNumber (λ client. Ok (Go client)) line e in
    subst (Played nodes clients) (same_Ok _ line g.2) (λ h. h)
line_is nodes clients kind.Deliver words line e =
    let g = or_reason_ok (actor_in (nth words 1)) BadNumber (λ who. or_reason (count_in most_mails (nth words 2)) BadNumber (λ k. Ok (Deliver who k))) line e in
    let k = or_reason_ok (count_in most_mails (nth words 2)) BadNumber (λ k. Ok (Deliver g.0 k)) line g.2 in
    subst (Played nodes clients) (same_Ok _ line k.2) (λ h. (actor_is nodes clients g.0 (some_actor (nth words 1) g.0 g.1) h, counted most_mails (nth words 2) k.0 k.1))
line_is nodes clients kind.Drop words line e =
    let g = or_reason_ok (actor_in (nth words 1)) BadNumber (λ who. or_reason (count_in most_mails (nth words 2)) BadNumber (λ k. Ok (Drop who k))) line e in
    let k = or_reason_ok (count_in most_mails (nth words 2)) BadNumber (λ k. Ok (Drop g.0 k)) line g.2 in
    subst (Played nodes clients) (same_Ok _ line k.2) (λ h. (actor_is nodes clients g.0 (some_actor (nth words 1) g.0 g.1) h, counted most_mails (nth words 2) k.0 k.1))
line_is nodes clients kind.Again words line e =
    let g = or_reason_ok (count_in most_mails (nth words 1)) BadNumber (λ mail. Ok (Again mail)) line e in
    subst (Played nodes clients) (same_Ok _ line g.2) (λ h. counted most_mails (nth words 1) g.0 g.1)
line_is nodes clients kind.Tick words line e =
    let g = or_reason_ok (actor_in (nth words 1)) BadNumber (λ who. Ok (Tick who)) line e in
    subst (Played nodes clients) (same_Ok _ line g.2) (λ h. actor_is nodes clients g.0 (some_actor (nth words 1) g.0 g.1) h)
line_is nodes clients kind.Crash words line e =
    let g = or_reason_ok (count_in most_nodes (nth words 1)) BadNumber (λ node. Ok (Crash node)) line e in
    subst (Played nodes clients) (same_Ok _ line g.2) (λ h. node_is nodes (nth words 1) g.0 g.1 h)
line_is nodes clients kind.Settle words line e =
    let g = or_reason_ok (count_in most_deliveries (nth words 1)) BadNumber (λ most. Ok (Settle most)) line e in
    subst (Played nodes clients) (same_Ok _ line g.2) (λ h. counted most_deliveries (nth words 1) g.0 g.1)
line_is nodes clients kind.Free words line e =
    let g = or_reason_ok (count_in most_deliveries (nth words 1)) BadNumber (λ most. or_reason (count_in most_workers (nth words 2)) BadNumber (λ workers. Ok (Free most workers))) line e in
    let w = or_reason_ok (count_in most_workers (nth words 2)) BadNumber (λ workers. Ok (Free g.0 workers)) line g.2 in
    subst (Played nodes clients) (same_Ok _ line w.2) (λ h. (counted most_deliveries (nth words 1) g.0 g.1, counted most_workers (nth words 2) w.0 w.1))
line_is nodes clients kind.Storm words line e =
    let g = or_reason_ok (number_of (nth words 1) last_storm) BadNumber (λ number. or_reason (count_in most_deliveries (nth words 2)) BadNumber (λ most. Ok (Storm number most))) line e in
    let k = or_reason_ok (count_in most_deliveries (nth words 2)) BadNumber (λ most. Ok (Storm g.0 most)) line g.2 in
    subst (Played nodes clients) (same_Ok _ line k.2) (λ h. (is_up_to last_storm (nth words 1) g.0 g.1, counted most_deliveries (nth words 2) k.0 k.1))

-- what an order was read from holds of the order
abbrev pub Ordered : ℕ → Order → Type 0
Ordered nodes order = is_order_known nodes order ≡ true → IsBoundedOrder nodes order

-- a position that is read is one of the circle
position_is : (word : List ℕ) (at : ℕ) → number_of word last_position ≡ Some at → at < 2 ^ 32
position_is word at e = let low = is_up_to last_position word at e in omega (arith, low)

pub order_is : (nodes : ℕ) (k : OrderKind) (words : List (List ℕ)) (order : Order) → order_in k words ≡ Ok order → Ordered nodes order
order_is nodes what.Join words order e =
    let g = or_reason_ok (count_in most_nodes (nth words 3)) BadNumber (λ node. or_reason (name_in (nth words 4)) BadNumber (λ group. Ok (Join node group))) order e in
    let n = or_reason_ok (name_in (nth words 4)) BadNumber (λ group. Ok (Join g.0 group)) order g.2 in
    subst (Ordered nodes) (same_Ok _ order n.2) (λ h. node_is nodes (nth words 3) g.0 g.1 h)
order_is nodes what.Leave words order e =
    let g = or_reason_ok (count_in most_nodes (nth words 3)) BadNumber (λ node. or_reason (name_in (nth words 4)) BadNumber (λ group. Ok (Leave node group))) order e in
    let n = or_reason_ok (name_in (nth words 4)) BadNumber (λ group. Ok (Leave g.0 group)) order g.2 in
    subst (Ordered nodes) (same_Ok _ order n.2) (λ h. node_is nodes (nth words 3) g.0 g.1 h)
order_is nodes what.Split words order e =
    let g = or_reason_ok (name_in (nth words 3)) BadNumber (λ group. or_reason (number_of (nth words 4) last_position) BadNumber (λ at. Ok (Split group at))) order e in
    let p = or_reason_ok (number_of (nth words 4) last_position) BadNumber (λ at. Ok (Split g.0 at)) order g.2 in
    subst (Ordered nodes) (same_Ok _ order p.2) (λ h. position_is (nth words 4) p.0 p.1)
order_is nodes what.Merge words order e =
    let g = or_reason_ok (name_in (nth words 3)) BadNumber (λ group. Ok (Merge group)) order e in
    subst (Ordered nodes) (same_Ok _ order g.2) (λ h. tt)
order_is nodes what.Repart words order e =
    let g = or_reason_ok (name_in (nth words 3)) BadNumber (λ group. or_reason (number_of (nth words 4) last_position) BadNumber (λ at. Ok (Repart group at))) order e in
    let p = or_reason_ok (number_of (nth words 4) last_position) BadNumber (λ at. Ok (Repart g.0 at)) order g.2 in
    subst (Ordered nodes) (same_Ok _ order p.2) (λ h. position_is (nth words 4) p.0 p.1)
order_is nodes what.Migrate words order e =
    let g = or_reason_ok (name_in (nth words 3)) BadNumber (λ group. or_reason (count_in most_nodes (nth words 4)) BadNumber (λ node. Ok (Migrate group node))) order e in
    let n = or_reason_ok (count_in most_nodes (nth words 4)) BadNumber (λ node. Ok (Migrate g.0 node)) order g.2 in
    subst (Ordered nodes) (same_Ok _ order n.2) (λ h. node_is nodes (nth words 4) n.0 n.1 h)
order_is nodes what.Short words order e = absurd (err_ok WrongCount order e)
