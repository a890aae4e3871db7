-- Which groups go is known after one more delivery while an order is under way.
use Rattle.std.proofs.Common.{◌≡◌, ◌⊎◌, ℕ, true, false, true≢false, List, [], ◌∷◌, ◌++◌, Option, Some, None, is_some, inl, inr, refl, sym, ◌∙◌, ap, subst, arith, append_assoc}
use Rattle.std.proofs.lemmas.Option.{none-some, same_Some}
use Rattle.sc_base.specs.Definitions.{Among, Each}
use Rattle.sc_node_table.specs.Values.{Draw, Seat, Deliver, Command, Split, Begin, Base, Route, Flight}
use Rattle.sc_actor.specs.Definitions.{row_of}
use Rattle.sc_group_table.specs.machine.MachineDefinitions.{Group}
use Rattle.sc_node_table.specs.NodeDefinitions.{Place, ReplicaState, born_replica, listed, next, slots_ahead}
use Rattle.sc_words.proofs.PaxosProofs.PaxosLemmas.{Each-among}
use Rattle.sc_scenario.specs.declared.scenario.scenarios.Scenario.{Scenario}
use Rattle.sc_meaning.specs.sound.SoundDefinitions.{groups_at, Player, as_nodes, births, player_table}
use Rattle.sc_live_steps.specs.following.FollowingDefinitions.{Course}
use Rattle.sc_live_steps.specs.calm.CalmDefinitions.{StandsQuiet, Rows}
use Rattle.sc_live_journals.specs.groups.GroupDefinitions.{RowElects, RowLeads, RowMakes, RowPasses, RowRests, RowTakes}
use Rattle.sc_live_journals.specs.logs.LogDefinitions.{IsGroupOf, logged_sets}
use Rattle.sc_live_journals.proofs.LogsProofs.GroupLogLemmas.{views_are_replicas}
use Rattle.sc_live_steps.specs.orders.OrderDefinitions.{OfQuestion, OfVote, OfOutcome, LastTakes, OneTakes, TwoTakes, LastFreed, OneFreed, TwoFreed, IsStepOf, BeginsDeal, ByRest, ByOrder, ByChange, ByDeal, ByPassing, ByAsking, ByTaking, ByVote, ByNo, ByHearing, ByDeciding, ByEnd, work_by, works, Turn, First, Lone, Next, Answers, Asking, Bond, Bound, Elsewhere, Ends, Errand, Here, Opens, Question, Records, Reply, Scene, Unbound, Work, is_watch, Asks, Closes, ClosesBoth, Deal, Filed, IsAt, Leg, Mailed, Ordered, Recorded, Replied, SentOn, Stage, Still, Weighs, asked_one, bound_by, closing, coordinator, heard, parties_of, party_of}
use Rattle.sc_live_journals.specs.rows.RowDefinitions.{view_at, IsReplicasRow, with_event}
use Rattle.sc_live_journals.specs.scenes.SceneDefinitions.{IsNowhere, GoesBy, scene_at}
use Rattle.sc_live_plain.specs.PlainDefinitions.{replicas_after}
use Rattle.sc_live_answers.specs.AnswerDefinitions.{Executed, HasDone, HasStepped, Rested, doer, doers_of, EndingGroupsGoOn, HasBegun, HasMerged, IsGoingSince, NoneGone, OwnerStood, WasGone, IsReachedSo, AreSent, IsYoungAt, PrefixesAreFound, EndsAreLogged, GroupsBeginStanding, over_at, tx_of, IsSentStep, ReplicasRunLogs, state_at, slot_leaders_at, IsAllowedBy, ReplicasAreRecorded, sources_of, LeadsSince, ContinuesSince}
use Rattle.sc_live_answers.proofs.OrdersProofs.OrderDeliveries.{there_or}
use Rattle.sc_live_answers.proofs.WorkProofs.LeaderDeeds.{lead_runs_so, lead_works, one_not_none, same_one}
use Rattle.sc_live_answers.proofs.RestProofs.LeaderWork.{IsWorkAt, OfOrder, OfOutcome, OfQuestion, OfVote, at_stage, was_there}
use Rattle.sc_live_answers.proofs.LedGroupsProofs.MergedGroups.{IsMergedBy, goes_by}
use Rattle.sc_live_answers.proofs.BallotsProofs.NewestReplicas.{no_further}
use Rattle.sc_live_answers.proofs.LedGroupsProofs.GuidedGroups.{named_there}
use Rattle.sc_live_answers.proofs.WorkProofs.PartiesSinceQuiet.{base_of, flights_at, led_first, locks_at}
use Rattle.sc_live_answers.proofs.WorkProofs.LeaderDeliveries.{Comes, goes_on}
use Rattle.sc_live_answers.proofs.OrdersProofs.OrderFactsAfterDeliveries.{step_tx}

-- ---- stages

-- a stage is of a transaction that has begun
abbrev IsOf : Stage → Draw → Type 0
IsOf stage tx = (tx_of stage ≡ Some tx) × HasBegun stage

abbrev Named : Type 0
Named = Draw × Here

bond_in : (x y : Named) → x ≡ y → x.1.bond ≡ y.1.bond
bond_in x y e = ap (λ (n : Named). n.1.bond) e

-- only a group that is bound in the transaction of a stage is bound
abbrev Binds : Draw → List Named → Type 0
Binds own named = (x : Named) (tx : Draw) → Among x named → x.1.bond ≡ Bound tx → own ≡ tx

same_bound : (own tx : Draw) → Bound own ≡ Bound tx → own ≡ tx
same_bound own tx e = cc

heard_binds : (own : Draw) (turn : Turn) → Binds own (heard own turn)
heard_binds own First x tx a b = absurd a
heard_binds own Lone x tx a b = absurd a
heard_binds own (Next part host) x tx (inl e) b = same_bound own tx (bond_in (part, record { bond = Bound own; work = []; errands = [] }) x e ∙ b)
heard_binds own (Next part host) x tx (inr a) b = absurd a

no_asking : (own t asked : Draw) (turn : Turn) (tx : Draw) → Asking t asked turn ≡ Bound tx → own ≡ tx
no_asking own t asked turn tx e = absurd cc

no_unbound : (own tx : Draw) → Unbound ≡ Bound tx → own ≡ tx
no_unbound own tx e = absurd cc

only_yes : (own : Draw) (agreed : _) (tx : Draw) → bound_by agreed own ≡ Bound tx → own ≡ tx
only_yes own true tx e = same_bound own tx e
only_yes own false tx e = no_unbound own tx e

closing_binds : (own : Draw) (leg : Leg) (host : ℕ) (tx : Draw) → (closing own leg host).bond ≡ Bound tx → own ≡ tx
closing_binds own Mailed host tx e = same_bound own tx e
closing_binds own Filed host tx e = same_bound own tx e

-- of the groups of a transaction that is not decided
deal_binds : (deal : Deal) (work : List Work) (errands : List Errand) (bond : Bond) (its_work : List Work) (its_errands : List Errand) → ((tx : Draw) → bond ≡ Bound tx → deal.tx ≡ tx)
    → Binds deal.tx (coordinator deal work errands ∷ asked_one deal bond its_work its_errands ∷ heard deal.tx deal.turn)
deal_binds deal work errands bond its_work its_errands k x tx (inl e) b = no_asking deal.tx deal.tx deal.asked deal.turn tx (bond_in (coordinator deal work errands) x e ∙ b)
deal_binds deal work errands bond its_work its_errands k x tx (inr (inl e)) b = k tx (bond_in (asked_one deal bond its_work its_errands) x e ∙ b)
deal_binds deal work errands bond its_work its_errands k x tx (inr (inr a)) b = heard_binds deal.tx deal.turn x tx a b

bound_of : (stage : Stage) (x : Named) (tx : Draw) → Among x (parties_of stage) → x.1.bond ≡ Bound tx → IsOf stage tx
bound_of Still x tx a b = absurd a
bound_of (Ordered group chief work) x tx (inl e) b = absurd (let bad : Unbound ≡ Bound tx = bond_in (group, record { bond = Unbound; work = work ∷ []; errands = [] }) x e ∙ b in cc)
bound_of (Ordered group chief work) x tx (inr a) b = absurd a
bound_of (Asks deal to) x tx a b = (ap Some (deal_binds deal [] [] Unbound [] (Question deal.tx deal.coord (is_watch deal.turn) deal.chief to ∷ []) (no_unbound deal.tx) x tx a b), tt)
bound_of (SentOn deal) x tx a b = (ap Some (deal_binds deal [] (Elsewhere deal.tx deal.chief ∷ []) Unbound [] [] (no_unbound deal.tx) x tx a b), tt)
bound_of (Weighs deal host) x tx a b = (ap Some (deal_binds deal [] [] Unbound (Answers deal.tx deal.coord (is_watch deal.turn) deal.chief ∷ []) [] (no_unbound deal.tx) x tx a b), tt)
bound_of (Replied deal agreed host) x tx a b = (ap Some (deal_binds deal [] (Reply deal.tx (is_watch deal.turn) agreed host deal.chief ∷ []) (bound_by agreed deal.tx) [] [] (only_yes deal.tx agreed) x tx a b), tt)
bound_of (Recorded deal agreed host) x tx a b = (ap Some (deal_binds deal (Records deal.tx (is_watch deal.turn) agreed host ∷ []) [] (bound_by agreed deal.tx) [] [] (only_yes deal.tx agreed) x tx a b), tt)
bound_of (Closes own party) x tx (inl e) b = (ap Some (closing_binds own party.leg party.host tx (bond_in (party_of own party) x e ∙ b)), tt)
bound_of (Closes own party) x tx (inr a) b = absurd a
bound_of (ClosesBoth own one two) x tx (inl e) b = (ap Some (closing_binds own one.leg one.host tx (bond_in (party_of own one) x e ∙ b)), tt)
bound_of (ClosesBoth own one two) x tx (inr (inl e)) b = (ap Some (closing_binds own two.leg two.host tx (bond_in (party_of own two) x e ∙ b)), tt)
bound_of (ClosesBoth own one two) x tx (inr (inr a)) b = absurd a

-- the work by which a party ends is of such a stage
ends_of : (now : Scene) (stage : Stage) (name tx : Draw) → IsAt stage now → IsWorkAt stage name (Ends tx) → IsOf stage tx
ends_of now stage name tx at (OfOutcome t k ending) = bound_of stage (name, ending.here) tx ending.party (ending.bound ∙ ap Bound (let same : t ≡ tx = cc in same))
ends_of now stage name tx at (OfOrder chief e) = absurd (subst (λ x. IsAt x now) e at).sound
ends_of now stage name tx at (OfQuestion deal host e own k) = absurd (let bad : Answers deal.tx deal.coord (is_watch deal.turn) deal.chief ≡ Ends tx = k in cc)
ends_of now stage name tx at (OfVote deal agreed host e own k) = absurd (let bad : Records deal.tx (is_watch deal.turn) agreed host ≡ Ends tx = k in cc)

-- by a step a transaction had begun before, or begins
begun_before : (group : Draw) (stage later : Stage) → IsStepOf group stage later → HasBegun later → HasBegun stage ⊎ BeginsDeal group stage later
begun_before group stage later (ByRest e) h = inl (subst HasBegun e h)
begun_before group stage later (ByOrder s) h = absurd (subst HasBegun s.after_is h)
begun_before group stage later (ByChange s) h = absurd (subst HasBegun s.after_is h)
begun_before group stage later (ByDeal s) h = inr s
begun_before group stage later (ByPassing s) h = inl (subst HasBegun (sym s.before_is) tt)
begun_before group stage later (ByAsking s) h = inl (subst HasBegun (sym s.before_is) tt)
begun_before group stage later (ByTaking (OfQuestion s)) h = inl (subst HasBegun (sym s.before_is) tt)
begun_before group stage later (ByTaking (OfVote s)) h = inl (subst HasBegun (sym s.before_is) tt)
begun_before group stage later (ByTaking (OfOutcome (LastTakes tx party e l o f))) h = inl (subst HasBegun (sym e) tt)
begun_before group stage later (ByTaking (OfOutcome (OneTakes tx one two e l o f))) h = inl (subst HasBegun (sym e) tt)
begun_before group stage later (ByTaking (OfOutcome (TwoTakes tx one two e l o f))) h = inl (subst HasBegun (sym e) tt)
begun_before group stage later (ByVote s) h = inl (subst HasBegun (sym s.before_is) tt)
begun_before group stage later (ByNo s) h = inl (subst HasBegun (sym s.before_is) tt)
begun_before group stage later (ByHearing s) h = inl (subst HasBegun (sym s.before_is) tt)
begun_before group stage later (ByDeciding s) h = inl (subst HasBegun (sym s.before_is) tt)
begun_before group stage later (ByEnd (LastFreed tx party e l o f)) h = inl (subst HasBegun (sym e) tt)
begun_before group stage later (ByEnd (OneFreed tx one two e l o f)) h = inl (subst HasBegun (sym e) tt)
begun_before group stage later (ByEnd (TwoFreed tx one two e l o f)) h = inl (subst HasBegun (sym e) tt)

-- what opens a transaction was drawn for its group
owner_is : (scenario : Scenario) (journal : Rows) (name tx : Draw) (c : Command) → work_by c ≡ Some (Opens tx) → IsAllowedBy scenario journal name c → (sources_of scenario journal).owner tx ≡ Some name
owner_is scenario journal name tx (Split at child order) e a = (let same : child ≡ tx = cc in subst (λ t. (sources_of scenario journal).owner t ≡ Some name) same a.0)
owner_is scenario journal name tx (Begin t body order) e a = (let same : t ≡ tx = cc in subst (λ x. (sources_of scenario journal).owner x ≡ Some name) same a.0)
owner_is scenario journal name tx _ e a = absurd cc

-- ---- a delivery

module _ (tells : ReplicasAreRecorded) (found_law : PrefixesAreFound) (logs_law : ReplicasRunLogs) (ends_law : EndsAreLogged) (begins_law : GroupsBeginStanding) (words : ℕ → ℕ → ℕ × ℕ) (scenario : Scenario) (first : Base) (journal quiet rows : Rows) (seat : Seat Player) (number : ℕ) (stage : Stage)
    (g : ContinuesSince words scenario first journal quiet rows seat number stage) (sent : AreSent words scenario journal rows)
    (steps : (base : Base) (among : Among base (groups_at as_nodes scenario.groups journal))
    → IsSentStep (logged_sets as_nodes base journal) (over_at as_nodes base journal) (slot_leaders_at as_nodes scenario base journal) words (births as_nodes scenario) rows seat (Deliver number) base (sent base among).course)
    (reached : (base : Base) (among : Among base (groups_at as_nodes scenario.groups journal)) → IsReachedSo (births as_nodes scenario) rows base (sent base among).course)
    (young : (base : Base) → Among base (groups_at as_nodes scenario.groups journal) → IsNowhere (births as_nodes scenario) rows base.core.id → IsYoungAt words (births as_nodes scenario) (with_event rows seat (Deliver number)) base)
    (leads : (name : Draw) (node : ℕ) (r : ReplicaState) → view_at (births as_nodes scenario) rows name node ≡ Some r → r.running ≡ true → LeadsSince words scenario first journal quiet rows name node r stage)
    (goes : IsGoingSince scenario journal quiet rows stage) where
  abbrev all : List (Seat Player)
  all = births as_nodes scenario

  abbrev then : Rows
  then = with_event rows seat (Deliver number)

  abbrev more : Rows
  more = row_of player_table seat rows (Deliver number) ∷ g.goes.prefix.more

  before_is : journal ≡ rows ++ more
  before_is = g.goes.prefix.fact ∙ append_assoc rows (row_of player_table seat rows (Deliver number) ∷ []) g.goes.prefix.more

  -- a replica's state is the log's
  module _ (base : Base) (group : IsGroupOf as_nodes words scenario journal base) where
    state_is : (xs rest : Rows) → journal ≡ xs ++ rest → (who : ℕ) (r : ReplicaState) → view_at (births as_nodes scenario) xs base.core.id who ≡ Some r → r.group ≡ state_at as_nodes base journal (next r)
    state_is xs rest fact who r e =
        let v = views_are_replicas as_nodes words scenario journal base group xs rest fact who r e in
        (logs_law as_nodes words scenario journal base group xs v.0 v.1 r v.2).1

    over_is : (xs rest : Rows) → journal ≡ xs ++ rest → (who : ℕ) (r : ReplicaState) (into : Route) → view_at (births as_nodes scenario) xs base.core.id who ≡ Some r → r.group.core.gone ≡ Some into → over_at as_nodes base journal (next r) ≡ true
    over_is xs rest fact who r into e gone = ap (λ (x : Group). is_some x.core.gone) (sym (state_is xs rest fact who r e)) ∙ ap is_some gone

  -- ---- the group that begins a transaction

  -- no replica of a group that stood in the quiet was gone
  stood_none : (name : Draw) → StandsQuiet (replicas_after scenario quiet) name → NoneGone scenario quiet name
  stood_none name s who r e = by r.group.core.gone refl
    where
      view : (node : ℕ) (x : ReplicaState) → replicas_after scenario quiet name node ≡ Some x → view_at (births as_nodes scenario) quiet name node ≡ Some x
      view node x h = g.seen name node ∙ h

      by : (o : Option Route) → r.group.core.gone ≡ o → r.group.core.gone ≡ None
      by None gone = gone
      by (Some into) gone =
          let b = base_of tells words scenario first journal quiet rows more before_is g.calm g.rests g.seen name (who, r, view who r e) in
          let at : (node : ℕ) (x : ReplicaState) → replicas_after scenario quiet name node ≡ Some x → view_at (births as_nodes scenario) quiet b.0.core.id node ≡ Some x = λ node x h. ap (λ n. view_at (births as_nodes scenario) quiet n node) b.2 ∙ view node x h in
          let over = over_is b.0 b.1 quiet g.rests.prefix.more g.rests.prefix.fact who r into (at who r e) gone in
          let last = ends_law.stays as_nodes b.0 journal (next r) (next s.lead) (s.newest.most who r e) over in
          let stands : over_at as_nodes b.0 journal (next s.lead) ≡ false = ap (λ (x : Group). is_some x.core.gone) (sym (state_is b.0 b.1 quiet g.rests.prefix.more g.rests.prefix.fact s.lead.me s.lead (at s.lead.me s.lead s.newest.is_there))) ∙ ap is_some s.stands in
          absurd (true≢false (sym last ∙ stands))

  module _ (group : Draw) (deal : Deal) (to : ℕ) (was : stage ≡ Ordered group deal.chief (Opens deal.tx)) (coord : deal.coord ≡ group) (stands : IsAt (Asks deal to) (scene_at (births as_nodes scenario) (with_event rows seat (Deliver number)))) where
    at : IsAt (Ordered group deal.chief (Opens deal.tx)) (scene_at (births as_nodes scenario) rows)
    at = subst (λ x. IsAt x (scene_at all rows)) was g.untouched.stands

    d : HasDone (births as_nodes scenario) quiet rows (doer group deal.chief [])
    d = (subst (λ x. Each (HasDone all quiet rows) (doers_of x)) was g.true_since.done).0

    to_ : Comes words (births as_nodes scenario) rows seat number g.goes.seated g.goes.timely g.finds (stage, g.untouched.stands) group deal.chief d.now
    to_ = goes_on words all rows seat number g.goes.seated g.goes.timely g.finds (stage, g.untouched.stands) group d.now (lead_runs_so all rows group deal.chief d.now at.leads.0 d.fact) deal.chief d.fact

    had : works d.now ≡ Opens deal.tx ∷ []
    had = lead_works all rows group deal.chief d.now at.leads.0 d.fact ∙ ap (λ (h : Here). h.work) at.parties.0.0

    has : works to_.0 ≡ []
    has = lead_works all then group deal.chief to_.0 (ap (scene_at all then).lead (sym coord) ∙ stands.leads.0) to_.1 ∙ (ap (λ n. ((scene_at all then).at n).work) (sym coord) ∙ ap (λ (h : Here). h.work) stands.parties.0.0)

    drawn : (sources_of scenario journal).owner deal.tx ≡ Some group
    drawn = by to_.2
      where
        by : HasStepped d.now to_.0 → (sources_of scenario journal).owner deal.tx ≡ Some group
        by (Rested same rest) = elim rest [
          | inl idle ↦ absurd (one_not_none (Opens deal.tx) (works d.now) had idle)
          | inr some ↦ absurd (some has)
        ]
        by (Executed flight work among one fact none made) =
            let same : work ≡ Opens deal.tx = same_one work (Opens deal.tx) (sym one ∙ had) in
            owner_is scenario journal group deal.tx flight.value (fact ∙ ap Some same)
            (Each-among (λ (f : Flight Command). IsAllowedBy scenario journal group f.value) d.now.leader.flights flight
            (flights_at tells words scenario first journal quiet rows more before_is g.calm g.rests g.seen group deal.chief d.now (deal.chief, d.first, d.was) d.fact) among)

    opened_stood : OwnerStood scenario journal quiet deal.tx
    opened_stood name e =
        let s = led_first tells words scenario first journal quiet rows more before_is g.calm g.rests g.seen (doer group deal.chief []) d in
        stood_none name (subst (StandsQuiet (replicas_after scenario quiet)) (same_Some group name (sym drawn ∙ e)) s.0)

  -- ---- the groups that go

  module _ (base : Base) (among : Among base (groups_at as_nodes scenario.groups journal)) where
    abbrev Went : Route → Type 0
    Went into = WasGone scenario quiet base.core.id ⊎ HasMerged scenario journal quiet goes.tx base.core.id into

    group_is : IsGroupOf as_nodes words scenario journal base
    group_is = record { open_slots = refl; valid = g.calm.valid; lawful = g.calm.lawful; stands = among }

    abbrev s : IsSentStep (logged_sets as_nodes base journal) (over_at as_nodes base journal) (slot_leaders_at as_nodes scenario base journal) words (births as_nodes scenario) rows seat (Deliver number) base (sent base among).course
    s = steps base among

    -- the one that leads goes by the end of what it promised
    merged : (r : ReplicaState) (into : Route) → view_at (births as_nodes scenario) rows base.core.id seat.who ≡ Some r → r.running ≡ true → (flight : Flight Command) → Among flight r.leader.flights → IsMergedBy r.group flight.value into → Went into
    merged r into has runs flight in_flight m =
        let l = leads base.core.id seat.who r has runs in
        let work : work_by flight.value ≡ Some (Ends m.tx) = ap work_by m.fact in
        let of = ends_of (scene_at all rows) stage base.core.id m.tx g.untouched.stands (at_stage tells words scenario first journal quiet rows base.core.id seat.who r stage l flight in_flight (Ends m.tx) work) in
        let there = was_there tells words scenario first journal quiet rows base.core.id seat.who r stage l flight in_flight (Ends m.tx) work in
        let same : m.tx ≡ goes.tx = (subst (λ o. Each (λ other. other ≡ goes.tx) (listed o)) of.0 goes.same).0 in
        let allowed = Each-among (λ (f : Flight Command). IsAllowedBy scenario journal base.core.id f.value) r.leader.flights flight
        (flights_at tells words scenario first journal quiet rows more before_is g.calm g.rests g.seen base.core.id seat.who r there has) in_flight in
        let promised = ((locks_at tells words scenario first journal quiet rows more before_is g.calm g.rests g.seen base.core.id seat.who r there has).promises m.tx m.offer m.lock).0 in
        inr (subst (λ t. HasMerged scenario journal quiet t base.core.id into) same (record {
          offer = m.offer;
          offered = promised;
          ended = subst (IsAllowedBy scenario journal base.core.id) m.fact allowed;
          stood = subst (OwnerStood scenario journal quiet) (sym same) (goes.stood of.1);
        }))

    module _ (node : ℕ) (r : ReplicaState) (into : Route) (has : view_at (births as_nodes scenario) (with_event rows seat (Deliver number)) base.core.id node ≡ Some r) (gone : r.group.core.gone ≡ Some into) where
      -- who is gone has executed all
      last : next r ≡ s.step.later.newest
      last =
          let low = s.step.led.rests (next r) (over_is base group_is then g.goes.prefix.more g.goes.prefix.fact node r into has gone) in
          let high = no_further _ _ _ words all then base s.step.later node r s.step.led has in
          omega (arith, low, high)

      same_state : (xs rest : Rows) → journal ≡ xs ++ rest → (who : ℕ) (x : ReplicaState) → view_at (births as_nodes scenario) xs base.core.id who ≡ Some x → next x ≡ s.step.later.newest → x.group.core.gone ≡ Some into
      same_state xs rest fact who x e newest =
          ap (λ (y : Group). y.core.gone)
          (state_is base group_is xs rest fact who x e ∙ (ap (state_at as_nodes base journal) (newest ∙ sym last) ∙ sym (state_is base group_is then g.goes.prefix.more g.goes.prefix.fact node r has)))
          ∙ gone

      -- where the newest state is that of before, one was gone before
      stays : s.step.later.newest ≡ (sent base among).course.newest → Went into
      stays same = elim (there_or all rows base.core.id) [
        | inl there ↦ (let x = reached base among there in goes.went base.core.id x.0 x.1 into x.2 (same_state rows more before_is x.0 x.1 x.2 (x.3 ∙ sym same)))
        | inr nowhere ↦ elim ((young base among nowhere).born node) [
          | inl none ↦ absurd (none-some r (sym none ∙ has))
          | inr born ↦ absurd (none-some into
              (sym (begins_law.stands as_nodes words scenario journal base group_is) ∙ (ap (λ (x : ReplicaState). x.group.core.gone) (same_Some (born_replica slots_ahead node base) r (sym born ∙ has)) ∙ gone)))
        ]
      ]

      -- where the newest state is a later one, the leader executed the entry
      led_on : (x : ReplicaState) (after : Place) → IsReplicasRow (births as_nodes scenario) rows seat (Deliver number) base.core.id (Some x) after → x.running ≡ true → s.step.later.newest ≡ next after.0 → Went into
      led_on x after row runs newest = by to.2
        where
          to : Comes words (births as_nodes scenario) rows seat number g.goes.seated g.goes.timely g.finds (stage, g.untouched.stands) base.core.id seat.who x
          to = goes_on words all rows seat number g.goes.seated g.goes.timely g.finds (stage, g.untouched.stands) base.core.id x runs seat.who row.was

          is_gone : to.0.group.core.gone ≡ Some into
          is_gone = same_state then g.goes.prefix.more g.goes.prefix.fact seat.who to.0 to.1 (ap next (same_Some to.0 after.0 (sym to.1 ∙ row.fact)) ∙ sym newest)

          by : HasStepped x to.0 → Went into
          by (Rested same rest) = goes.went base.core.id seat.who x into row.was (ap (λ (y : Group). y.core.gone) (sym same) ∙ is_gone)
          by (Executed flight work in_flight one fact none made) = elim (goes_by x.group into flight.value (ap (λ (y : Group). y.core.gone) (sym made) ∙ is_gone)) [
            | inl already ↦ goes.went base.core.id seat.who x into row.was already
            | inr m ↦ merged x into row.was runs flight in_flight m
          ]

      went_here : Went into
      went_here = elim s.step.row [
        | RowPasses e idle ↦ stays (ap (λ (c : Course). c.newest) e)
        | RowRests e x after row off still kind ↦ stays (ap (λ (c : Course). c.newest) e)
        | RowTakes e x after mark row taken steps_by kind ↦ stays (ap (λ (c : Course). c.newest) e)
        | RowMakes e from slot state sets row taken logs kind ↦ stays (ap (λ (c : Course). c.newest) e)
        | RowLeads x after row runs counts l e ↦ led_on x after row runs (ap (λ (c : Course). c.newest) e)
        | RowElects x after ballot row off self_election e ↦ stays (ap (λ (c : Course). c.newest) e)
      ]

  went_after : (name : Draw) (node : ℕ) (r : ReplicaState) (into : Route) → view_at (births as_nodes scenario) (with_event rows seat (Deliver number)) name node ≡ Some r → r.group.core.gone ≡ Some into → WasGone scenario quiet name ⊎ HasMerged scenario journal quiet goes.tx name into
  went_after name node r into e gone =
      let named = named_there found_law words scenario journal then g.calm g.goes.prefix name (node, r, e) in
      subst (λ n. WasGone scenario quiet n ⊎ HasMerged scenario journal quiet goes.tx n into) named.2 (went_here named.0 named.1 node r into (ap (λ n. view_at all then n node) named.2 ∙ e) gone)

  -- ---- the transaction

  module _ (later : Stage) (stands : IsAt later (scene_at (births as_nodes scenario) (with_event rows seat (Deliver number)))) where
    by_step : (by : GoesBy rows (Deliver number) stage later) → HasBegun later → OwnerStood scenario journal quiet goes.tx
    by_step by h = elim (begun_before by.group stage later by.step h) [
      | inl before ↦ goes.stood before
      | inr s ↦ (
          let same : s.deal.tx ≡ goes.tx = (subst (λ x. Each (λ other. other ≡ goes.tx) (listed (tx_of x))) s.before_is goes.same).0 in
          subst (OwnerStood scenario journal quiet) same (opened_stood by.group s.deal s.to s.before_is s.coord_is (subst (λ x. IsAt x (scene_at all then)) s.after_is stands)))
    ]

    stood_after : (later ≡ stage) ⊎ GoesBy rows (Deliver number) stage later → HasBegun later → OwnerStood scenario journal quiet goes.tx
    stood_after (inl e) h = goes.stood (subst HasBegun e h)
    stood_after (inr by) h = by_step by h

    same_after : (later ≡ stage) ⊎ GoesBy rows (Deliver number) stage later → Each (λ other. other ≡ goes.tx) (listed (tx_of later))
    same_after (inl e) = subst (λ x. Each (λ other. other ≡ goes.tx) (listed (tx_of x))) (sym e) goes.same
    same_after (inr by) = step_tx (λ other. other ≡ goes.tx) by.group stage later by.step (λ still. by.begins still) goes.same

    pub going_after : (later ≡ stage) ⊎ GoesBy rows (Deliver number) stage later → IsGoingSince scenario journal quiet (with_event rows seat (Deliver number)) later
    going_after next_is = record { tx = goes.tx; same = same_after next_is; stood = stood_after next_is; went = went_after }

pub ending_groups_go_on : ReplicasAreRecorded → PrefixesAreFound → ReplicasRunLogs → EndsAreLogged → GroupsBeginStanding → EndingGroupsGoOn
ending_groups_go_on tells found_law logs_law ends_law begins_law words scenario first journal quiet rows seat number stage later g sent steps reached young leads stands next_is goes =
    going_after tells found_law logs_law ends_law begins_law words scenario first journal quiet rows seat number stage g sent steps reached young leads goes later stands next_is
