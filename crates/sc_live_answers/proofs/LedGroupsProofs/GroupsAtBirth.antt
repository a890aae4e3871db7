-- Each group of a lawful journal is one of the scenario, or no node has a replica of it at the births; so it is well led then.
use Rattle.std.proofs.Common.{◌≡◌, ℕ, eqb, false, true≢false, List, [], ◌∷◌, find, map, Some, None, ◌⊎◌, inl, inr, refl, sym, ◌∙◌, ap, subst, arith}
use Rattle.std.specs.List.{filter}
use Rattle.std.proofs.lemmas.Bool.{cases_Bool, cond_both, cond-false}
use Rattle.sc_base.specs.Definitions.{Among, Each, same_draw, is_member}
use Rattle.sc_node_table.specs.Values.{Draw, Base, Route, Seat}
use Rattle.sc_base.proofs.Lemmas.{draw_is, same_name}
use Rattle.sc_words.proofs.PaxosProofs.PaxosLemmas.{Each-append}
use Rattle.sc_scenario.specs.scenario.Definitions.{ValidScenariosAreBounded}
use Rattle.sc_scenario.specs.declared.scenario.scenarios.Asks.{Asks}
use Rattle.sc_scenario.specs.declared.scenario.scenarios.Scenario.{Scenario}
use Rattle.sc_node_table.specs.NodeDefinitions.{born_replicas, replica_of, born_replica, slots_ahead, numbers_from}
use Rattle.sc_meaning.specs.sound.SoundDefinitions.{Player, node_seat, client_seat, client_seats, route_of, births, as_nodes}
use Rattle.sc_law_entries.specs.logs.LogDefinitions.{Rows}
use Rattle.sc_law_entries.specs.ring.RingDefinitions.{Sources}
use Rattle.sc_law_entries.specs.names.NameDefinitions.{OtherNamesAreFree, TakenOrdersAreAllowed, TakenWishesAreAllowed, WishesAreAtPositions, owner_in}
use Rattle.sc_law_groups.specs.whole.WholeDefinitions.{BeginsWell, section_op, OrdersAreAllowed, ValidScenariosBeginWell}
use Rattle.sc_law_groups.proofs.WholeProofs.WholeLemmas.{orders_allowed}
use Rattle.sc_live_journals.specs.rows.RowDefinitions.{replicas_of, replica_in, view_at, begun_course}
use Rattle.sc_live_journals.specs.logs.LogDefinitions.{logged_sets, IsGroupOf, SlotsHaveRosters}
use Rattle.sc_live_journals.proofs.LogsProofs.GroupLogLemmas.{found, stay}
use Rattle.sc_live_journals.specs.groups.GroupDefinitions.{BeginsSo, ScenariosBeginLed, ChildrenBeginLed, ScenariosBeginTaught, ChildrenBeginTaught}
use Rattle.sc_live_answers.specs.AnswerDefinitions.{over_at, GroupsBeginStanding, EndsAreLogged, GroupsBeginTaught, GroupsAreBornOrNot, GroupsBeginLed}

-- ---- no player has a replica of a group with another name at the births

module _ (name : Draw) where
  -- none of these groups has the name
  abbrev Nameless : List Base → Type 0
  Nameless groups = (other : Base) → Among other groups → other.core.id ≡ name → ⊥

  none_born : (me : ℕ) (groups : List Base) → Nameless groups → replica_of name (born_replicas slots_ahead me groups) ≡ None
  none_born me [] none = refl
  none_born me (b ∷ groups) none =
      let rest = none_born me groups (λ other a. none other (inr a)) in
      cond_both (is_member b.core.members me) (b ∷ filter (λ x. is_member x.core.members me) groups) (filter (λ x. is_member x.core.members me) groups) (λ l. replica_of name (map (λ y. born_replica slots_ahead me y) l) ≡ None)
      (λ _. cond-false (same_draw b.core.id name) (Some (born_replica slots_ahead me b)) (replica_of name (born_replicas slots_ahead me groups)) (other_name b (λ fact. none b (inl refl) fact)) ∙ rest) (λ _. rest)
    where
      other_name : (x : Base) → (x.core.id ≡ name → ⊥) → same_draw x.core.id name ≡ false
      other_name x ne = elim (cases_Bool (same_draw x.core.id name)) [ inl t ↦ absurd (ne (draw_is x.core.id name t)) | inr f ↦ f ]

  -- a player has none
  abbrev HasNone : Seat Player → Type 0
  HasNone seat = replica_of name (replicas_of seat.actor) ≡ None

  none_found : (seats : List (Seat Player)) (who : ℕ) → Each HasNone seats → replica_in name [] (find (λ other. eqb other.who who) seats) ≡ None
  none_found [] who each = refl
  none_found (seat ∷ seats) who each = cond_both (eqb seat.who who) (Some seat) (find (λ other. eqb other.who who) seats) (λ o. replica_in name [] o ≡ None) (λ _. each.0) (λ _. none_found seats who each.1)

  module _ (scenario : Scenario) (none : Nameless scenario.groups) where
    nodes_none : (numbers : List ℕ) → Each HasNone (map (node_seat as_nodes scenario.groups scenario.policy) numbers)
    nodes_none [] = tt
    nodes_none (n ∷ numbers) = (none_born n scenario.groups none, nodes_none numbers)

    clients_none : (groups : List Base) (clients : List Asks) → Each HasNone (client_seats groups clients)
    clients_none [] clients = tt
    clients_none (b ∷ groups) clients = by clients
      where
        by : (cs : List Asks) → Each HasNone (map (client_seat (route_of b)) cs)
        by [] = tt
        by (c ∷ cs) = (refl, by cs)

    unborn : (who : ℕ) → view_at (births as_nodes scenario) [] name who ≡ None
    unborn who =
        none_found (births as_nodes scenario) who
        (Each-append HasNone (map (node_seat as_nodes scenario.groups scenario.policy) (numbers_from 1 scenario.nodes)) (client_seats scenario.groups scenario.clients) (nodes_none (numbers_from 1 scenario.nodes)) (clients_none scenario.groups scenario.clients))

  -- one of these has the name, or none
  one_or_none : (groups : List Base) → ((one : Base) × Among one groups × (one.core.id ≡ name)) ⊎ Nameless groups
  one_or_none [] = inr (λ other a fact. absurd a)
  one_or_none (b ∷ groups) = elim (cases_Bool (same_draw b.core.id name)) [
    | inl t ↦ inl (b, inl refl, draw_is b.core.id name t)
    | inr f ↦ elim (one_or_none groups) [ inl r ↦ inl (r.0, inr r.1, r.2) | inr none ↦ inr (behind f none) ]
  ]
    where
      behind : same_draw b.core.id name ≡ false → Nameless groups → Nameless (b ∷ groups)
      behind f none other (inl same) fact = true≢false (sym (same_name b.core.id name (ap (λ (x : Base). x.core.id) same ∙ fact)) ∙ f)
      behind f none other (inr a) fact = none other a fact

-- ---- a group of the journal is one of the scenario, or unborn

module _ (bounded : ValidScenariosAreBounded) (begin : ValidScenariosBeginWell) (allowed : TakenOrdersAreAllowed) (wishes : TakenWishesAreAllowed) (positions : WishesAreAtPositions) (free : OtherNamesAreFree) where
  module _ (words : ℕ → ℕ → ℕ × ℕ) (scenario : Scenario) (journal : Rows) (base : Base) (group : IsGroupOf as_nodes words scenario journal base) where
    abbrev sources : Sources
    sources = record { owner = owner_in as_nodes scenario journal; request = section_op scenario }

    abbrev route : Route
    route = route_of (begin (owner_in as_nodes scenario journal) (free as_nodes scenario journal) as_nodes group.open_slots scenario group.valid).first

    well : BeginsWell sources as_nodes scenario route
    well = (begin (owner_in as_nodes scenario journal) (free as_nodes scenario journal) as_nodes group.open_slots scenario group.valid).well

    orders : OrdersAreAllowed sources as_nodes scenario journal
    orders = orders_allowed as_nodes words scenario (bounded scenario group.valid) allowed wishes positions journal group.lawful

    -- a group of the scenario with its name is the group
    its_own : (one : Base) → Among one scenario.groups → one.core.id ≡ base.core.id → Among base scenario.groups
    its_own one a fact =
        let later = (stay sources as_nodes words scenario route well journal orders group.lawful [] journal refl).groups one a in
        subst (λ b. Among b scenario.groups) ((found sources as_nodes words scenario route well journal orders group.lawful).apart one base later group.stands fact) a

  pub born_or_not : GroupsAreBornOrNot
  born_or_not words scenario journal base group = elim (one_or_none base.core.id scenario.groups) [
    | inl r ↦ inl (its_own words scenario journal base group r.0 r.1 r.2)
    | inr none ↦ inr (unborn base.core.id scenario none)
  ]

-- ---- so it is well led at the births, and its members learn all entries

module _ (bounded : ValidScenariosAreBounded) (born : GroupsAreBornOrNot) (rosters : SlotsHaveRosters) (standing : GroupsBeginStanding) (ends : EndsAreLogged) where
  module _ (words : ℕ → ℕ → ℕ × ℕ) (scenario : Scenario) (journal : Rows) (base : Base) (group : IsGroupOf as_nodes words scenario journal base) where
    begins_so : BeginsSo (logged_sets as_nodes base journal) (over_at as_nodes base journal) base
    begins_so = record {
      sets = rosters.first as_nodes words scenario journal base group;
      stands = ends.begins as_nodes words scenario journal base group 1 (omega arith);
      early = ends.begins as_nodes words scenario journal base group 0 (omega arith);
      rosters = rosters.rosters as_nodes words scenario journal base group;
    }

  pub groups_begin_led : ScenariosBeginLed → ChildrenBeginLed → GroupsBeginLed
  groups_begin_led begin_led children_led words by scenario journal base group = elim (born words scenario journal base group) [
    | inl own ↦ (
      begun_course base,
      begin_led (logged_sets as_nodes base journal) (over_at as_nodes base journal) by words scenario base (bounded scenario group.valid) own (begins_so words scenario journal base group),
    )
    | inr unborn ↦ (
      begun_course base,
      children_led (logged_sets as_nodes base journal) (over_at as_nodes base journal) by words (births as_nodes scenario) [] base (begins_so words scenario journal base group)
          (standing.first as_nodes words scenario journal base group) unborn (λ who. refl),
    )
  ]

  pub groups_begin_taught : ScenariosBeginTaught → ChildrenBeginTaught → GroupsBeginTaught
  groups_begin_taught begin_taught children_taught words by scenario journal base group = elim (born words scenario journal base group) [
    | inl own ↦ begin_taught (logged_sets as_nodes base journal) (over_at as_nodes base journal) by words scenario base (bounded scenario group.valid) own (begins_so words scenario journal base group)
    | inr unborn ↦ children_taught (logged_sets as_nodes base journal) (over_at as_nodes base journal) by words (births as_nodes scenario) base (standing.first as_nodes words scenario journal base group) unborn (begins_so words scenario journal base group)
  ]
