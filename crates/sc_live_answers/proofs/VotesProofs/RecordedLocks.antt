-- What a journal records of its replicas' locks, and of what they have in flight.
use Rattle.std.proofs.Common.{◌≡◌, ℕ, ◌≤◌, List, ◌++◌, drop, length, Some, refl, sym, ◌∙◌, ap, subst}
use Rattle.std.proofs.lemmas.Option.{same_Some}
use Rattle.sc_base.specs.Definitions.{Among, Each, united}
use Rattle.sc_node_table.specs.Values.{Draw, Seat, Offer, Watch, Command, Finish, Prepared, RecordVote, Watched, Base, Route, Frozen, Outcome, Merged, Flight}
use Rattle.sc_words.specs.declared.commands.bodies.Body.TheVariants as At
use Rattle.sc_words.specs.declared.commands.votes.Vote.TheVariants as Vows
use Rattle.sc_group_table.specs.machine.MachineDefinitions.{Group, group_of, state_after}
use Rattle.sc_node_table.specs.NodeDefinitions.{NodeState, ReplicaState}
use Rattle.sc_words.proofs.PaxosProofs.PaxosLemmas.{Each-weaker}
use Rattle.sc_paxos_law.specs.PaxosLawDefinitions.{IsLog}
use Rattle.sc_scenario.specs.scenario.Definitions.{IsValid, ValidScenariosAreBounded}
use Rattle.sc_scenario.specs.declared.scenario.scenarios.Scenario.{Scenario}
use Rattle.sc_meaning.specs.sound.SoundDefinitions.{entries_at, groups_at, decided_log, Lawful, Player, as_nodes, route_of}
use Rattle.sc_law_entries.specs.ring.RingDefinitions.{Sources, Story, unsigned, unsigned_watch}
use Rattle.sc_law_entries.specs.logs.LogDefinitions.{AllowsAsItStands, GroupAllows}
use Rattle.sc_law_entries.proofs.LogsProofs.LogLemmas.{states_allow, groups_allow_others, deciding_rows}
use Rattle.sc_law_entries.specs.names.NameDefinitions.{OtherNamesAreFree, TakenOrdersAreAllowed, TakenWishesAreAllowed, WishesAreAtPositions, owner_in}
use Rattle.sc_law_groups.proofs.GroupProofs.GroupLemmas.{Part, entry_offered, h_of, IsFlying, rule, Each-take, each_got}
use Rattle.sc_law_groups.specs.whole.WholeDefinitions.{BeginsWell, IsFresh, OrdersAreAllowed, IsHeardAt, MayQueue, stories_at, MergesFit, PartiesAreApart, ValidScenariosBeginWell}
use Rattle.sc_law_groups.proofs.WholeProofs.WholeLemmas.{BeginsShared, hears_merges, none_split, splits_fit, parties_are_apart, merges_fit, goes_on_from, orders_allowed, stands_heard, stands_offer, stands_watch, Holds}
use Rattle.sc_live_steps.specs.calm.CalmDefinitions.{Rows}
use Rattle.sc_live_journals.specs.logs.LogDefinitions.{HasReplica, IsGroupOf}
use Rattle.sc_live_journals.proofs.LogsProofs.GroupLogLemmas.{along, flying, found, prefixes, part, stay, whole}
use Rattle.sc_live_answers.specs.AnswerDefinitions.{MergesEndAtOwner, IsTakenBy, OutcomesAreTaken, IsAllowedBy, LockIsRecorded, ReplicasAreRecorded, sources_of}
use Rattle.sc_live_answers.proofs.LinksProofs.MergeStories.{stories_home}
use Rattle.sc_live_answers.proofs.VotesProofs.Outcomes.{outcomes_fit}

module _ (bounded : ValidScenariosAreBounded) (begin : ValidScenariosBeginWell) (allowed : TakenOrdersAreAllowed) (wishes : TakenWishesAreAllowed) (positions : WishesAreAtPositions) (free : OtherNamesAreFree) where
  -- a group of first rows is one of the journal
  stays_named : (words : ℕ → ℕ → ℕ × ℕ) (scenario : Scenario) (journal rows more : Rows) (base : Base) → IsValid scenario → Lawful as_nodes words scenario journal → journal ≡ rows ++ more → Among base (groups_at as_nodes scenario.groups rows)
      → IsGroupOf as_nodes words scenario journal base
  stays_named words scenario journal rows more base valid lawful fact among =
      let ready = begin (owner_in as_nodes scenario journal) (free as_nodes scenario journal) as_nodes refl scenario valid in
      record {
        open_slots = refl;
        valid = valid;
        lawful = lawful;
        stands = subst (λ xs. Among base (groups_at as_nodes scenario.groups xs)) (sym fact)
            ((stay (sources_of scenario journal) as_nodes words scenario (route_of ready.first) ready.well journal (orders_allowed as_nodes words scenario (bounded scenario valid) allowed wishes positions journal lawful) lawful rows more fact).groups base among);
      }

  module _ (words : ℕ → ℕ → ℕ × ℕ) (scenario : Scenario) (journal : Rows) (base : Base) (group : IsGroupOf as_nodes words scenario journal base) where
    abbrev sources : Sources
    sources = sources_of scenario journal

    abbrev route : Route
    route = route_of (begin (owner_in as_nodes scenario journal) (free as_nodes scenario journal) as_nodes group.open_slots scenario group.valid).first

    well : BeginsWell sources as_nodes scenario route
    well = (begin (owner_in as_nodes scenario journal) (free as_nodes scenario journal) as_nodes group.open_slots scenario group.valid).well

    orders : OrdersAreAllowed sources as_nodes scenario journal
    orders = orders_allowed as_nodes words scenario (bounded scenario group.valid) allowed wishes positions journal group.lawful

    all : Holds sources as_nodes words scenario route well.place well.seats well.asks journal
    all = whole sources as_nodes words scenario route well journal orders group.lawful

    abbrev log : List Command
    log = decided_log as_nodes base journal

    abbrev Queues : Command → Type 0
    Queues command = MayQueue sources as_nodes scenario journal base command

    its : Part as_nodes scenario scenario.groups (groups_at as_nodes scenario.groups journal) route (MayQueue sources as_nodes scenario) (IsHeardAt sources as_nodes scenario) journal base
    its = part sources as_nodes words scenario route well journal orders group.lawful base group.stands

    fresh : IsFresh base
    fresh = all.fresh base group.stands

    -- each entry was queued
    queued : Each Queues log
    queued = each_got Queues log (λ place c at. (let offer = entry_offered as_nodes base journal its.lawful place c at in its.requested offer.0 offer.1 c offer.2))

    shared : (c : Command) → Queues c → BeginsShared c
    shared c m tx body order fact = (subst Queues fact m).0.1

    -- what was recorded of all
    apart_so : PartiesAreApart (stories_at as_nodes scenario.groups journal)
    apart_so = parties_are_apart sources scenario.groups well.place (entries_at as_nodes scenario.groups journal) (deciding_rows sources as_nodes scenario.groups well.place journal all.turn).allowed

    fit_so : MergesFit (stories_at as_nodes scenario.groups journal)
    fit_so =
        merges_fit sources scenario.groups (λ b a. all.fresh b ((found sources as_nodes words scenario route well journal orders group.lawful).first b a)) (entries_at as_nodes scenario.groups journal)
        (deciding_rows sources as_nodes scenario.groups well.place journal all.turn).allowed

    apart_by : (tx one other : Draw) (offer : Offer) (watch : Watch) → IsAllowedBy scenario journal one (Prepared tx offer) → IsAllowedBy scenario journal other (Watched tx watch) → one ≡ other → ⊥
    apart_by tx one other offer watch o w e =
        let same = same_Some w.0 o.0 (sym w.1 ∙ o.1) in
        apart_so tx o.0 o.1 (unsigned offer) (unsigned_watch watch) o.2 (ap (λ (y : Story). y.watch) (sym same) ∙ w.2) (o.3 ∙ (e ∙ sym w.3))

    fits_by : (tx one other : Draw) (offer : Offer) (frozen : Frozen) (by : ℕ) → offer.body ≡ At.Merge → IsAllowedBy scenario journal one (Prepared tx offer) → IsAllowedBy scenario journal other (RecordVote tx (Vows.Yes frozen) by)
        → length (united offer.members frozen.members) ≤ 9
    fits_by tx one other offer frozen by merge o v =
        let same = same_Some v.0 o.0 (sym v.1 ∙ o.1) in
        fit_so tx o.0 o.1 (unsigned offer) o.2 merge frozen (ap (λ (y : Story). y.vote) (sym same) ∙ v.2)

    taken_by : (tx one two three : Draw) (outcome : Outcome) (offer : Offer) (frozen : Frozen) (by : ℕ) → IsAllowedBy scenario journal one (Finish tx outcome) → IsAllowedBy scenario journal two (Prepared tx offer)
        → IsAllowedBy scenario journal three (RecordVote tx (Vows.Yes frozen) by) → IsTakenBy outcome (unsigned offer) frozen
    taken_by tx one two three outcome offer frozen by e o v =
        let ended = same_Some o.0 e.0 (sym o.1 ∙ e.1) in
        let cast = same_Some v.0 e.0 (sym v.1 ∙ e.1) in
        outcomes_fit sources scenario.groups (entries_at as_nodes scenario.groups journal) well.place (deciding_rows sources as_nodes scenario.groups well.place journal all.turn).allowed tx e.0 e.1 outcome e.2
        (unsigned offer) (ap (λ (y : Story). y.offer) (sym ended) ∙ o.2) frozen (ap (λ (y : Story). y.vote) (sym cast) ∙ v.2)

    -- a group that is merged goes into the coordinator
    home_by : (tx one other : Draw) (offer : Offer) (into : Route) → IsAllowedBy scenario journal one (Prepared tx offer) → IsAllowedBy scenario journal other (Finish tx (Merged into)) → (sources.owner tx ≡ Some into.group) × (into.group ≡ one → ⊥)
    home_by tx one other offer into o e =
        let same = same_Some e.0 o.0 (sym e.1 ∙ o.1) in
        let h = stories_home sources scenario.groups (entries_at as_nodes scenario.groups journal) well.place (deciding_rows sources as_nodes scenario.groups well.place journal all.turn).allowed tx o.0 o.1 in
        let home = h.home into (ap (λ (y : Story). y.outcome) (sym same) ∙ e.2) in
        (h.drawn ∙ ap Some (sym home), λ fact. h.apart (unsigned offer) o.2 (o.3 ∙ (sym fact ∙ home)))

    -- ---- a replica

    module _ (rows : Rows) (seat : Seat Player) (node : NodeState) (r : ReplicaState) (has : HasReplica as_nodes scenario journal base rows seat node r) where
      flights_so : Each (λ (flight : Flight Command). IsAllowedBy scenario journal base.core.id flight.value) r.leader.flights
      flights_so =
          Each-weaker (IsFlying as_nodes base (h_of journal base) r.leader.ballot) (λ (flight : Flight Command). IsAllowedBy scenario journal base.core.id flight.value)
          (λ flight flies. (its.requested r.leader.ballot flight.slot flight.value flies.0).0) r.leader.flights
          (flying sources as_nodes words scenario route well journal orders group.lawful base group.stands rows seat node r has)

      -- the log that it has executed
      executed_log : (executed : List Command) × IsLog (rule as_nodes base) (h_of journal base) executed × (r.group ≡ state_after (group_of base) executed)
      executed_log = (let k = along sources as_nodes words scenario route well journal orders group.lawful base group.stands rows seat node r has group.open_slots in (k.whole, k.is_log, k.group_is))

      abbrev state : Group
      state = state_after (group_of base) executed_log.0

      queues : Each Queues executed_log.0
      queues =
          subst (Each Queues) (prefixes sources as_nodes words scenario route well journal orders group.lawful base group.stands executed_log.0 executed_log.1).1
          (Each-take Queues (length executed_log.0) log queued)

      allows : (other : Draw) (command : Command) → AllowsAsItStands sources base.core.id state other command → IsAllowedBy scenario journal other command
      allows other command stands =
          states_allow sources as_nodes scenario.groups well.place journal all.turn base group.stands executed_log.0 (drop (length executed_log.0) log)
          (goes_on_from as_nodes base journal its.lawful executed_log.0 executed_log.1) other command stands

      al : GroupAllows sources base.core.id state
      al = groups_allow_others sources base.core.id state

      state_tells : LockIsRecorded scenario journal base.core.id state
      state_tells = record {
        offers = λ tx body order heard lock offer e. allows offer.part (Prepared tx offer) (al.offers tx body order heard lock offer e);
        asks = λ tx body order heard lock watch e. allows watch.part (Watched tx watch) (al.asks tx body order heard lock watch e);
        heard = λ tx body order heard lock. (
          hears_merges (group_of base) executed_log.0 fresh.free tx body order heard lock,
          allows base.core.id (RecordVote tx (Vows.Yes heard.frozen) 0) (stands_heard sources base.core.id state tx body order heard lock base.core.id 0),
        );
        splits = splits_fit (group_of base) executed_log.0 (Each-weaker Queues BeginsShared shared executed_log.0 queues) fresh.roster (none_split (group_of base) fresh.free);
        promises = λ tx offer lock. (
          allows base.core.id (Prepared tx offer) (stands_offer sources base.core.id state tx offer lock),
          allows base.core.id (RecordVote tx (Vows.Yes (Rattle.sc_group_table.specs.machine.Plans.frozen_of state)) 0) (al.promises tx offer lock base.core.id 0),
        );
        watches = λ tx watch lock. allows base.core.id (Watched tx watch) (stands_watch sources base.core.id state tx watch lock);
      }

      locks_so : LockIsRecorded scenario journal base.core.id r.group
      locks_so = subst (LockIsRecorded scenario journal base.core.id) (sym executed_log.2) state_tells

  pub replicas_are_recorded : ReplicasAreRecorded
  replicas_are_recorded = record {
    groups = stays_named;
    locks = λ words scenario journal base group rows seat node r has. locks_so words scenario journal base group rows seat node r has;
    flights = λ words scenario journal base group rows seat node r has. flights_so words scenario journal base group rows seat node r has;
    apart = λ words scenario journal base group tx one other offer watch o w e. apart_by words scenario journal base group tx one other offer watch o w e;
    fits = λ words scenario journal base group tx one other offer frozen by merge o v. fits_by words scenario journal base group tx one other offer frozen by merge o v;
  }

  pub merges_end_at_owner : MergesEndAtOwner
  merges_end_at_owner words scenario journal base group tx one other offer into o e = home_by words scenario journal base group tx one other offer into o e

  pub outcomes_taken : OutcomesAreTaken
  outcomes_taken words scenario journal base group tx one two three outcome offer frozen by e o v = taken_by words scenario journal base group tx one two three outcome offer frozen by e o v
