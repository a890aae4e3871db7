-- The nodes that links and routes name were members, by the logs of a lawful journal.
use Rattle.std.proofs.Common.{◌≡◌, ℕ, ◌≤◌, ◌⊎◌, List, [], ◌∷◌, ◌++◌, length, take, Some, inl, inr, refl, sym, ◌∙◌, ap, subst, arith, length-append}
use Rattle.std.proofs.lemmas.Option.{same_Some}
use Rattle.sc_base.specs.Definitions.{Among, IsRoster, is_member}
use Rattle.sc_node_table.specs.Values.{Draw, Command, Base, Free, Route}
use Rattle.sc_group_table.specs.machine.MachineDefinitions.{Group, group_of, state_after}
use Rattle.sc_scenario.specs.scenario.Definitions.{place_right, base_at, IsValid, ValidScenariosAreBounded}
use Rattle.sc_scenario.specs.declared.scenario.scenarios.Scenario.{Scenario}
use Rattle.sc_meaning.specs.sound.SoundDefinitions.{groups_at, entries_at, world_at, decided_log, decided_state, as_nodes, Lawful, route_of}
use Rattle.sc_meaning.specs.declared.entries.LogEntry.{LogEntry}
use Rattle.sc_meaning.specs.entries.EntryDefinitions.{StoreWorld, first_world, named_group, world_of}
use Rattle.sc_meaning.proofs.EntriesProofs.EntryLemmas.{world_append}
use Rattle.sc_law_entries.specs.history.HistoryDefinitions.{log_in}
use Rattle.sc_law_entries.proofs.HistoryProofs.HistoryLemmas.{logs_make_states}
use Rattle.sc_law_entries.specs.ring.RingDefinitions.{Sources, first_recorded}
use Rattle.sc_law_entries.proofs.RingProofs.RingLemmas.{store_after}
use Rattle.sc_law_entries.specs.logs.LogDefinitions.{Rows, AreFound, DecideInTurn}
use Rattle.sc_law_entries.proofs.LogsProofs.LogLemmas.{stays_there, log_append, deciding_rows, groups_are_found, JournalFacts, IsBorn, state_there}
use Rattle.sc_law_entries.specs.names.NameDefinitions.{OtherNamesAreFree, TakenOrdersAreAllowed, TakenWishesAreAllowed, WishesAreAtPositions, owner_in}
use Rattle.sc_law_groups.specs.whole.WholeDefinitions.{BeginsWell, IsReady, section_op, OrdersAreAllowed, ValidScenariosBeginWell}
use Rattle.sc_law_groups.proofs.WholeProofs.WholeLemmas.{holds, members_stay_rosters, orders_allowed, Holds}
use Rattle.sc_live_answers.specs.AnswerDefinitions.{WasMember, WereMembers, AreAllFree, LinksWereMembers}
use Rattle.sc_live_answers.proofs.LinksProofs.LinkOutcomes.{Good, IsLinkedSo}
use Rattle.sc_live_answers.proofs.LinksProofs.LinkEntries.{groups_then, Come, all_linked, moved}
use Rattle.sc_live_steps.proofs.OrderStepsProofs.OrderStepLemmas.{right_none}
pub use Rattle.sc_law_groups.proofs.WholeProofs.LineGroups.{of_up_to}
use Rattle.sc_law_groups.proofs.WholeProofs.LineGroups.{in_up_to, right_in}

-- ---- two prefixes of a list

record IsAhead {X : Type 0} (prefix more first rest : List X) : Type 0 where
  mid : List X
  fact : prefix ≡ first ++ mid
  left : rest ≡ mid ++ more

record IsBehind {X : Type 0} (prefix more first rest : List X) : Type 0 where
  mid : List X
  fact : first ≡ prefix ++ mid
  left : more ≡ mid ++ rest

head_is : {X : Type 0} (x y : X) (xs ys : List X) → x ∷ xs ≡ y ∷ ys → (x ≡ y) × (xs ≡ ys)
head_is x y xs ys e = (cc, cc)

two_prefixes : {X : Type 0} (prefix more first rest : List X) → prefix ++ more ≡ first ++ rest → IsAhead prefix more first rest ⊎ IsBehind prefix more first rest
two_prefixes prefix more [] rest e = inl (record { mid = prefix; fact = refl; left = sym e })
two_prefixes [] more (y ∷ first) rest e = inr (record { mid = y ∷ first; fact = refl; left = e })
two_prefixes (x ∷ prefix) more (y ∷ first) rest e =
    let h = head_is x y (prefix ++ more) (first ++ rest) e in
    elim (two_prefixes prefix more first rest h.1) [
      | inl a ↦ inl (record { mid = a.mid; fact = ap (λ z. z ∷ prefix) h.0 ∙ ap (λ l. y ∷ l) a.fact; left = a.left })
      | inr b ↦ inr (record { mid = b.mid; fact = ap (λ z. z ∷ first) (sym h.0) ∙ ap (λ l. x ∷ l) b.fact; left = b.left })
    ]

take_prefix : {X : Type 0} (xs ys : List X) → take (length xs) (xs ++ ys) ≡ xs
take_prefix [] ys = refl
take_prefix (x ∷ xs) ys = ap (λ l. x ∷ l) (take_prefix xs ys)

module _ (bounded : ValidScenariosAreBounded) (begin : ValidScenariosBeginWell) (allowed : TakenOrdersAreAllowed) (wishes : TakenWishesAreAllowed) (positions : WishesAreAtPositions) (free : OtherNamesAreFree) where
  module _ (words : ℕ → ℕ → ℕ × ℕ) (scenario : Scenario) (rows : Rows) (valid : IsValid scenario) (lawful : Lawful as_nodes words scenario rows) where
    abbrev pub sources : Sources
    sources = record { owner = owner_in as_nodes scenario rows; request = section_op scenario }

    pub ready : IsReady sources as_nodes scenario
    ready = begin (owner_in as_nodes scenario rows) (free as_nodes scenario rows) as_nodes refl scenario valid

    pub well : BeginsWell sources as_nodes scenario (route_of ready.first)
    well = ready.well

    orders : OrdersAreAllowed sources as_nodes scenario rows
    orders = orders_allowed as_nodes words scenario (bounded scenario valid) allowed wishes positions rows lawful

    all : Holds sources as_nodes words scenario (route_of ready.first) well.place well.seats well.asks rows
    all = holds sources as_nodes words scenario (route_of ready.first) well.place well.seats well.asks well.apart well.fresh rows orders lawful

    pub turn : DecideInTurn sources as_nodes scenario.groups [] rows
    turn = all.turn

    pub told : JournalFacts sources as_nodes scenario.groups rows
    told = deciding_rows sources as_nodes scenario.groups well.place rows turn

    pub found : AreFound as_nodes scenario.groups rows
    found = groups_are_found sources as_nodes scenario.groups well.place rows turn

    abbrev entries : List LogEntry
    entries = entries_at as_nodes scenario.groups rows

    pub roster_of : (base : Base) → Among base (groups_at as_nodes scenario.groups rows) → IsRoster base.core.members
    roster_of base a = (all.fresh base a).roster

    abbrev Were : Draw → ℕ → Type 0
    Were name node = WasMember scenario rows name node

    -- a group after a prefix of the entries is one after a prefix of its log
    record IsAfter (base : Base) (u : Group) : Type 0 where
      after : ℕ
      within : after ≤ length (decided_log as_nodes base rows)
      fact : u ≡ state_after (group_of base) (take after (decided_log as_nodes base rows))

    after_prefix : (base : Base) (b : IsBorn scenario.groups entries base (decided_log as_nodes base rows)) (prefix more : List LogEntry) → entries ≡ prefix ++ more → (u : Group) → named_group base.core.id (world_of scenario.groups prefix).groups ≡ Some u → IsAfter base u
    after_prefix base b prefix more are u found_ = elim (two_prefixes prefix more b.first b.rest (sym are ∙ b.are)) [
      | inl a ↦ (
          let log : List Command = log_in base.core.id a.mid in
          let whole : decided_log as_nodes base rows ≡ log ++ log_in base.core.id more = sym b.log_is ∙ (ap (log_in base.core.id) a.left ∙ log_append base.core.id a.mid more) in
          let there : named_group base.core.id (world_of scenario.groups prefix).groups ≡ Some (state_after (group_of base) log) =
          ap (λ es. named_group base.core.id (world_of scenario.groups es).groups) a.fact
          ∙ (ap (λ (w : StoreWorld). named_group base.core.id w.groups) (world_append (first_world scenario.groups) b.first a.mid) ∙ logs_make_states (world_of scenario.groups b.first) base.core.id (group_of base) b.there a.mid) in
          let len = ap length whole in
          let both = length-append log (log_in base.core.id more) in
          record {
            after = length log;
            within = omega (arith, len, both);
            fact = same_Some u (state_after (group_of base) log) (sym found_ ∙ there) ∙ ap (state_after (group_of base)) (sym (ap (take (length log)) whole ∙ take_prefix log (log_in base.core.id more)));
          })
      | inr h ↦ (
          let none : log_in base.core.id h.mid ≡ [] = right_none (log_in base.core.id prefix) (log_in base.core.id h.mid) (sym (log_append base.core.id prefix h.mid) ∙ (ap (log_in base.core.id) (sym h.fact) ∙ b.silent)) in
          let there : named_group base.core.id (world_of scenario.groups b.first).groups ≡ Some u =
          ap (λ es. named_group base.core.id (world_of scenario.groups es).groups) h.fact
          ∙ (ap (λ (w : StoreWorld). named_group base.core.id w.groups) (world_append (first_world scenario.groups) prefix h.mid)
          ∙ (logs_make_states (world_of scenario.groups prefix) base.core.id u found_ h.mid ∙ ap (λ cs. Some (state_after u cs)) none)) in
          record { after = 0; within = omega arith; fact = same_Some u (group_of base) (sym there ∙ b.there) })
    ]

    were : (prefix more : List LogEntry) → entries ≡ prefix ++ more → (name : Draw) (u : Group) → groups_then sources scenario.groups well.place entries told.allowed prefix name ≡ Some u → Good Were name u.core.members
    were prefix more are name u e =
        let there : named_group name (world_of scenario.groups prefix).groups ≡ Some u = ap (λ (w : StoreWorld). named_group name w.groups) (sym (store_after (first_recorded scenario.groups) prefix)) ∙ e in
        let last = stays_there (world_of scenario.groups prefix) name u there more in
        let whole : named_group name (world_at as_nodes scenario.groups rows).groups ≡ Some last.0 =
        ap (λ es. named_group name (world_of scenario.groups es).groups) are ∙ (ap (λ (w : StoreWorld). named_group name w.groups) (world_append (first_world scenario.groups) prefix more) ∙ last.1) in
        let who = told.who name last.0 whole in
        let a = after_prefix who.0 (told.born who.0 who.1) prefix more are u (ap (λ n. named_group n (world_of scenario.groups prefix).groups) who.2 ∙ there) in
        let roster = members_stay_rosters (group_of who.0) (take a.after (decided_log as_nodes who.0 rows)) (roster_of who.0 (found.all who.0 who.1)) in (
          subst (λ (g : Group). 1 ≤ length g.core.members) (sym a.fact) roster.some,
          λ node m. record { base = who.0; among = found.all who.0 who.1; named = who.2; after = a.after; within = a.within; member = ap (λ (g : Group). is_member g.core.members node) (sym a.fact) ∙ m },
        )

    begins : (base : Base) → Among base scenario.groups → Good Were base.core.succ.group base.core.succ.members
    begins base a =
        let b = bounded scenario valid in
        let at = of_up_to b.starts (length b.starts) base (subst (Among base) b.groups a) in
        let right = place_right b.starts at.0 in
        let inside = right_in b.starts at.0 at.1 in
        let other = base_at b.starts right in
        let among : Among other scenario.groups = subst (Among other) (sym b.groups) (in_up_to b.starts (length b.starts) right inside) in
        subst (λ (x : Base). Good Were x.core.succ.group x.core.succ.members) at.2 (
          (b.each right (record { lo = 0; members = [] }) inside).roster.some,
          λ node m. record { base = other; among = found.first other among; named = refl; after = 0; within = omega arith; member = m },
        )

    module _ (all_free : AreAllFree scenario rows) where
      -- the group of a name at the end is one of the journal
      free_then : (name : Draw) (u : Group) → groups_then sources scenario.groups well.place entries told.allowed entries name ≡ Some u → u.core.lock ≡ Free
      free_then name u e =
          let there : named_group name (world_at as_nodes scenario.groups rows).groups ≡ Some u = ap (λ (w : StoreWorld). named_group name w.groups) (sym (store_after (first_recorded scenario.groups) entries)) ∙ e in
          let who = told.who name u there in
          let state = state_there sources as_nodes scenario.groups well.place rows told who.0 who.1 in
          ap (λ (g : Group). g.core.lock) (same_Some u (decided_state as_nodes who.0 rows) (sym there ∙ (ap (λ n. named_group n (world_at as_nodes scenario.groups rows).groups) (sym who.2) ∙ state))) ∙ all_free who.0 (found.all who.0 who.1)

      module _ (base : Base) (a : Among base (groups_at as_nodes scenario.groups rows)) where
        there_now : groups_then sources scenario.groups well.place entries told.allowed entries base.core.id ≡ Some (decided_state as_nodes base rows)
        there_now = ap (λ (w : StoreWorld). named_group base.core.id w.groups) (store_after (first_recorded scenario.groups) entries) ∙ state_there sources as_nodes scenario.groups well.place rows told base (found.only base a)

        linked : IsLinkedSo Were (Come sources scenario.groups well.place entries told.allowed Were were) (λ name node w. inl w) (decided_state as_nodes base rows).core
        linked = (all_linked sources scenario.groups well.place entries told.allowed Were were begins).0 base.core.id (decided_state as_nodes base rows) there_now

        pub link_were : WereMembers scenario rows (decided_state as_nodes base rows).core.succ.group (decided_state as_nodes base rows).core.succ.members
        link_were =
            let l = linked.succ in
            record { some = l.0; each = λ node m. moved sources scenario.groups well.place entries told.allowed Were were (decided_state as_nodes base rows).core.succ.group (free_then (decided_state as_nodes base rows).core.succ.group) node (l.1 node m) }

        pub route_were : (into : Route) → (decided_state as_nodes base rows).core.gone ≡ Some into → WereMembers scenario rows into.group into.members
        route_were into e = (let g = linked.gone into e in record { some = g.0; each = g.1 })

  pub links_were_members : LinksWereMembers
  links_were_members = record {
    links = λ words scenario rows base valid lawful all_free a. link_were words scenario rows valid lawful all_free base a;
    routes = λ words scenario rows base into valid lawful all_free a e. route_were words scenario rows valid lawful all_free base a into e;
  }
