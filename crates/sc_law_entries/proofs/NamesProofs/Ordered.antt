-- What an order and a policy queue is allowed in the log of its group.
use Rattle.std.proofs.Common.{◌≡◌, ℕ, ◌≤◌, ◌&&◌, Bool, nat_le, List, [], ◌∷◌, ◌++◌, true, Option, Some, None, inl, refl, sym, ◌∙◌, ap, subst}
use Rattle.std.specs.Prelude.{is_none}
use Rattle.std.proofs.lemmas.Bool.{cond-true, and_from, le-leb}
use Rattle.sc_base.specs.Definitions.{Among, Drawer, next_name}
use Rattle.sc_node_table.specs.Values.{Draw, Command, Order, OrderLine, OrderRefusal, Mail, Tick, Row, Node}
use Rattle.sc_words.specs.declared.commands.orders.Order.TheVariants as An
use Rattle.sc_actor.specs.Definitions.{value}
use Rattle.sc_node_table.specs.NodeDefinitions.{NodeState, group_of_order, names_after_ticks, ordered_command, takes_name, untaken, queued_or_refused, ordered_row, names_after_tick, pumped, ReplicaState}
use Rattle.sc_paxos_law.proofs.Lemmas.{Among-left, Among-right}
use Rattle.sc_meaning.specs.sound.SoundDefinitions.{Ahead, Player, player_table, node_seat}
use Rattle.sc_scenario.specs.declared.scenario.scenarios.Scenario.{Scenario}
use Rattle.sc_law_entries.specs.ring.RingDefinitions.{Sources, IsAllowed, Stories}
use Rattle.sc_law_entries.specs.names.NameDefinitions.{Rows, Owned, drawn_for, waited, wished_at, drawn_wishing, drawn_ticking, names_drawn, drawn_at, is_node_of, owner_in, IsAtPosition, TakesOrder, TakenOrdersAreAllowed, TakesWish, TakenWishesAreAllowed, OrdersAreQueued}
use Rattle.sc_law_entries.proofs.NamesProofs.Counters.{drawn_are_owned}
use Rattle.sc_law_entries.proofs.NamesProofs.Wished.{wished_of}

module _ (ahead : Ahead) (scenario : Scenario) (before : Rows) (row : Row Mail OrderLine) (later : Rows) (line : OrderLine) (node : NodeState) (r : ReplicaState) (takes : TakesOrder ahead scenario before row line node r) where
  abbrev owned : Owned
  owned = record { name = next_name node.draws; group = group_of_order line.order }

  -- it draws the next name, if it takes one
  pub it_draws : takes_name line.order ≡ true → drawn_at ahead scenario before row ≡ owned ∷ []
  it_draws named =
      cond-true (is_node_of scenario row.who) (names_drawn (value player_table (node_seat ahead scenario.groups scenario.policy row.who) before) row.event) []
      (and_from (nat_le 1 row.who) (nat_le row.who scenario.nodes) (le-leb 1 row.who takes.low) (le-leb row.who scenario.nodes takes.high))
      ∙ ap (λ (p : Player). names_drawn p row.event) takes.value_is
      ∙ ap (λ event. names_drawn (Node node) event) takes.event_is
      ∙ ap (λ (o : Option ReplicaState). drawn_for node.draws line o) takes.found
      ∙ cond-true (takes_name line.order && is_none (untaken node.draws line r)) (owned ∷ []) []
      (and_from (takes_name line.order) (is_none (untaken node.draws line r)) named (ap (λ (o : Option OrderRefusal). is_none o) takes.taken))

  pub it_is_owned : takes_name line.order ≡ true → owner_in ahead scenario (before ++ row ∷ later) (next_name node.draws) ≡ Some (group_of_order line.order)
  it_is_owned named = (drawn_are_owned ahead scenario before row later owned (subst (Among owned) (sym (it_draws named)) (inl refl))).1

allowed_for : (sources : Sources) (stories : Stories) (name : Draw) (number : ℕ) (order : Order) → IsAtPosition order → (takes_name order ≡ true → sources.owner name ≡ Some (group_of_order order))
    → IsAllowed sources stories (group_of_order order) (ordered_command name number order)
allowed_for sources stories name number (An.Join node group) at own = tt
allowed_for sources stories name number (An.Leave node group) at own = tt
allowed_for sources stories name number (An.Split group position) at own = (own refl, at)
allowed_for sources stories name number (An.Merge group) at own = (own refl, tt)
allowed_for sources stories name number (An.Repart group position) at own = (own refl, at)
allowed_for sources stories name number (An.Migrate group node) at own = (own refl, tt)

pub orders_are_allowed : TakenOrdersAreAllowed
orders_are_allowed ahead scenario before row later line node r takes at request stories =
    allowed_for (record { owner = owner_in ahead scenario (before ++ row ∷ later); request = request }) stories (next_name node.draws) line.number line.order at
    (it_is_owned ahead scenario before row later line node r takes)

-- ---- a policy

-- what a tick draws
pub it_ticks : (ahead : Ahead) (scenario : Scenario) (before : Rows) (row : Row Mail OrderLine) (node : NodeState) → 1 ≤ row.who → row.who ≤ scenario.nodes
    → value player_table (node_seat ahead scenario.groups scenario.policy row.who) before ≡ Node node → row.event ≡ Tick → drawn_at ahead scenario before row ≡ drawn_ticking node.policy node.draws node.replicas
it_ticks ahead scenario before row node low high value_is event_is =
    cond-true (is_node_of scenario row.who) (names_drawn (value player_table (node_seat ahead scenario.groups scenario.policy row.who) before) row.event) []
    (and_from (nat_le 1 row.who) (nat_le row.who scenario.nodes) (le-leb 1 row.who low) (le-leb row.who scenario.nodes high))
    ∙ ap (λ (p : Player). names_drawn p row.event) value_is
    ∙ ap (λ event. names_drawn (Node node) event) event_is

-- what the replica after these draws is drawn
ticking_among : (on : Bool) (drawer : Drawer) (older newer : List ReplicaState) (r : ReplicaState) (owned : Owned) → Among owned (drawn_wishing (names_after_ticks on drawer older) (wished_at on r) (waited r)) → Among owned (drawn_ticking on drawer (older ++ r ∷ newer))
unfolding names_after_ticks
ticking_among on drawer [] newer r owned a = Among-left owned (drawn_wishing drawer (wished_at on r) (waited r)) (drawn_ticking on (names_after_tick on drawer r) newer) a
ticking_among on drawer (s ∷ older) newer r owned a =
    Among-right owned (drawn_wishing drawer (wished_at on s) (waited s)) (drawn_ticking on (names_after_tick on drawer s) (older ++ r ∷ newer)) (ticking_among on (names_after_tick on drawer s) older newer r owned a)

module _ (ahead : Ahead) (scenario : Scenario) (before : Rows) (row : Row Mail OrderLine) (later : Rows) (line : OrderLine) (node : NodeState) (older newer : List ReplicaState) (r : ReplicaState) (takes : TakesWish ahead scenario before row line node older newer r) where
  abbrev drawer : Drawer
  drawer = names_after_ticks node.policy node.draws older

  abbrev its : Owned
  its = record { name = next_name drawer; group = group_of_order line.order }

  -- its name is drawn in the row
  wish_draws : takes_name line.order ≡ true → Among its (drawn_at ahead scenario before row)
  wish_draws named =
      let taken = takes.taken in
      let one : drawn_for drawer line (Some (waited r)) ≡ its ∷ [] = cond-true (takes_name line.order && is_none (untaken drawer line (waited r))) (its ∷ []) []
      (and_from (takes_name line.order) (is_none (untaken drawer line (waited r))) named (ap (λ (o : Option OrderRefusal). is_none o) taken)) in
      let here : drawn_wishing drawer (wished_at node.policy r) (waited r) ≡ its ∷ [] = ap (λ (o : Option OrderLine). drawn_wishing drawer o (waited r)) takes.wished ∙ one in
      let all : drawn_at ahead scenario before row ≡ drawn_ticking node.policy node.draws (older ++ r ∷ newer) =
      it_ticks ahead scenario before row node takes.low takes.high takes.value_is takes.event_is ∙ ap (drawn_ticking node.policy node.draws) takes.replicas_are in
      subst (Among its) (sym all) (ticking_among node.policy node.draws older newer r its (subst (Among its) (sym here) (inl refl)))

  -- so it is owned
  pub wish_is_owned : takes_name line.order ≡ true → owner_in ahead scenario (before ++ row ∷ later) (next_name drawer) ≡ Some (group_of_order line.order)
  wish_is_owned named = (drawn_are_owned ahead scenario before row later its (wish_draws named)).1

pub wishes_are_allowed : TakenWishesAreAllowed
wishes_are_allowed ahead scenario before row later line node older newer r takes at request stories =
    let name = next_name (names_after_ticks node.policy node.draws older) in
    let sources : Sources = record { owner = owner_in ahead scenario (before ++ row ∷ later); request = request } in
    subst (λ (group : Draw). IsAllowed sources stories group (ordered_command name line.number line.order)) (wished_of node.policy r line takes.wished)
    (allowed_for sources stories name line.number line.order at (wish_is_owned ahead scenario before row later line node older newer r takes))

queued_by : (o : Option OrderRefusal) (number : ℕ) (command : Command) (r : ReplicaState) (mails : List Mail) → o ≡ None → queued_or_refused o number command (r, mails) ≡ pumped (record r { backlog = r.backlog ++ command ∷ [] }, mails)
queued_by None number command r mails e = refl
queued_by (Some why) number command r mails e = cc

pub orders_are_queued : OrdersAreQueued
unfolding ordered_row
orders_are_queued drawer line r mails taken = queued_by (untaken drawer line r) line.number (ordered_command (next_name drawer) line.number line.order) r mails taken
