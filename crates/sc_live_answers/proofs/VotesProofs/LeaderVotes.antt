-- A vote at the leader, by the one command that is in flight there.
use Rattle.std.proofs.Common.{Bool, List, None, Option, Some, [], ap, arith, eqb, false, inl, inr, option_map, refl, subst, sym, true, true≢false, ℕ, ◌++◌, ◌+◌, ◌<◌, ◌∙◌, ◌∷◌, ◌≡◌, ◌≤◌}
use Rattle.std.proofs.lemmas.Bool.{cases_Bool, eqb-true}
use Rattle.std.specs.Prelude.{is_none}
use Rattle.sc_node_table.specs.Values.{Seat, Deliver, Ballot, Draw, Command, Begin, Call, Finish, GiveUp, Join, Leave, Noop, Prepared, RecordVote, RecordWatch, Split, Watched, Base, Free, Mail, Accepted, Flight}
use Rattle.sc_base.specs.Definitions.{Among, Each, least_of}
use Rattle.sc_live_answers.proofs.LedMailProofs.FollowerMail.{view_here, row_here}
use Rattle.sc_live_answers.proofs.LedMailProofs.LeaderMail.{free_of, leads, leads_alone, named_so, takes, the_scene, works_one}
use Rattle.sc_live_answers.proofs.BallotsProofs.NewestReplicas.{newest_after, stopped_newest}
use Rattle.sc_live_answers.specs.AnswerDefinitions.{IsHere, IsGuided, IsOrdersAlone, IsTrueEntry, StagesExpectWork, VotesAreFound, WorkExpects}
use Rattle.sc_live_journals.specs.groups.GroupDefinitions.{IsSlotKept}
use Rattle.sc_live_steps.specs.calm.CalmDefinitions.{Rows}
use Rattle.sc_live_steps.proofs.OrderStepsProofs.OrderStepLemmas.{votes-count-alone, orders-leave, votes-leave, among-left, among-right, cases-draw, ends-leave, records-leave, watch-records-leave, entries-run-alone}
use Rattle.sc_live_steps.specs.orders.OrderDefinitions.{EntryLeaves, bond_of, work_by, works, works_flying, works_in, works_ready, results, FliesLone, Answers, Asking, Bond, Bound, Changes, Elsewhere, Ends, Errand, First, Here, IsNone, Lone, Next, Opens, Question, Records, Reply, Result, Scene, Turn, Unbound, Work, free, is_watch, Closes, ClosesBoth, Filed, IsOrder, IsSound, IsUnderWay, IsVote, Leg, Mailed, Ordered, Recorded, Replied, SentOn, Stage, Still, Weighs, bound_by, closing, heard, parties_of, Asks as AsksStage}
use Rattle.sc_live_journals.proofs.RowsProofs.RowLemmas.{known, found_name}
use Rattle.sc_live_journals.specs.rows.RowDefinitions.{progress_at, with_event}
use Rattle.sc_live_journals.proofs.ScenesProofs.SceneLemmas.{fly_lone, quiet_over, tell}
use Rattle.sc_live_journals.specs.scenes.SceneDefinitions.{IsEntry, StaysIn, Aborted, Changed, Decided, Ended, FindsFlight, Heard, Late, Opened, Voted, IsThere, IsWork, scene_at, LeadsAlone, NewestAreBound}
use Rattle.sc_words.specs.commands.CommandDefinitions.{is_alone, is_changed}
use Rattle.sc_live_steps.proofs.FollowingProofs.FollowingLemmas.{same_mark, order_is_kept}
use Rattle.sc_live_steps.specs.following.FollowingDefinitions.{Votes, mark_of, ActsAlone, IsLeadOf}
use Rattle.sc_group_table.specs.machine.MachineDefinitions.{Group, applied, vote_of}
use Rattle.sc_node_table.specs.NodeDefinitions.{NodeState, Place, ReplicaState, next, mailed}
use Rattle.sc_words.proofs.PaxosProofs.PaxosLemmas.{Each-among, find_found}
use Rattle.sc_words.specs.paxos.PaxosDefinitions.{flight_at}
use Rattle.sc_meaning.specs.sound.SoundDefinitions.{Player}
use Rattle.sc_words.specs.declared.commands.votes.Past.TheVariants as Cast
use Rattle.sc_words.specs.declared.commands.votes.Vote.TheVariants as Says
use Rattle.sc_live_answers.proofs.VotesProofs.CountableVotes.{only_work, work_flies}
use Rattle.sc_live_answers.proofs.BallotsProofs.RowsWithoutRounds.{work_act}
use Rattle.sc_live_answers.proofs.VotesProofs.TransactionTurns.{first_turn}

-- ---- what a group waits for by its work

abbrev Fits : Here → Type 0
Fits here = (work : Work) → here.work ≡ work ∷ [] → WorkExpects work here.bond

none_fits : (bond : Bond) (errands : List Errand) → Fits (record { bond = bond; work = []; errands = errands })
none_fits bond errands work e = absurd (not_one work e)
  where
    not_one : (work : Work) → ◌≡◌ {A = List Work} [] (work ∷ []) → ⊥
    not_one work e = cc

same_work : (work other : Work) → ◌≡◌ {A = List Work} (work ∷ []) (other ∷ []) → work ≡ other
same_work work other e = cc

one_fits : (bond : Bond) (work : Work) (errands : List Errand) → WorkExpects work bond → Fits (record { bond = bond; work = work ∷ []; errands = errands })
one_fits bond work errands k other e = subst (λ w. WorkExpects w bond) (same_work work other e) k

order_fits : (work : Work) → IsOrder work → WorkExpects work Unbound
order_fits Changes o = refl
order_fits (Opens tx) o = refl
order_fits _ o = absurd o

heard_fits : (tx : Draw) (turn : Turn) → Each (λ party. Fits party.1) (heard tx turn)
heard_fits tx First = tt
heard_fits tx Lone = tt
heard_fits tx (Next part host) = (none_fits (Bound tx) [], tt)

closing_fits : (tx : Draw) (leg : Leg) (host : ℕ) → Fits (closing tx leg host)
closing_fits tx Mailed host = none_fits (Bound tx) (Result tx host ∷ [])
closing_fits tx Filed host = one_fits (Bound tx) (Ends tx) [] refl

stage_fits : (stage : Stage) → IsSound stage → Each (λ party. Fits party.1) (parties_of stage)
stage_fits Still s = tt
stage_fits (Ordered group chief work) s = (one_fits Unbound work [] (order_fits work s), tt)
stage_fits (AsksStage deal to) s = (none_fits (Asking deal.tx deal.asked deal.turn) [], (none_fits Unbound (Question deal.tx deal.coord (is_watch deal.turn) deal.chief to ∷ []), heard_fits deal.tx deal.turn))
stage_fits (SentOn deal) s = (none_fits (Asking deal.tx deal.asked deal.turn) (Elsewhere deal.tx deal.chief ∷ []), (none_fits Unbound [], heard_fits deal.tx deal.turn))
stage_fits (Weighs deal host) s = (none_fits (Asking deal.tx deal.asked deal.turn) [], (one_fits Unbound (Answers deal.tx deal.coord (is_watch deal.turn) deal.chief) [] refl, heard_fits deal.tx deal.turn))
stage_fits (Replied deal agreed host) s =
    (none_fits (Asking deal.tx deal.asked deal.turn) (Reply deal.tx (is_watch deal.turn) agreed host deal.chief ∷ []), (none_fits (bound_by agreed deal.tx) [], heard_fits deal.tx deal.turn))
stage_fits (Recorded deal agreed host) s =
    (one_fits (Asking deal.tx deal.asked deal.turn) (Records deal.tx (is_watch deal.turn) agreed host) [] (deal.asked, deal.turn, refl, refl, s), (none_fits (bound_by agreed deal.tx) [], heard_fits deal.tx deal.turn))
stage_fits (Closes tx party) s = (closing_fits tx party.leg party.host, tt)
stage_fits (ClosesBoth tx one two) s = (closing_fits tx one.leg one.host, (closing_fits tx two.leg two.host, tt))

parties_fit : (now : Scene) (group : Draw) (named : List (Draw × Here)) → Each (λ party. now.at party.0 ≡ party.1) named → Each (λ party. Fits party.1) named → (IsNone group named → now.at group ≡ free) → Fits (now.at group)
parties_fit now group [] are fit none = subst Fits (sym (none tt)) (none_fits Unbound [])
parties_fit now group (party ∷ named) are fit none = elim (cases-draw group party.0) [
  | inl fact ↦ subst Fits (sym (ap now.at fact ∙ are.0)) fit.0
  | inr apart ↦ parties_fit now group named are.1 fit.1 (λ more. none (apart, more))
]

-- In each stage a group waits for its leader's work, by its bond.
pub stages_expect_work : StagesExpectWork
stages_expect_work now group work under = parties_fit now group (parties_of under.0) under.1.parties.0 (stage_fits under.0 under.1.sound) (under.1.parties.1 group) work

-- ---- commands

-- what a command has to find, if it is work
abbrev ExpectsBy : Option Work → Bond → Type 0
ExpectsBy None bond = Unit {0}
ExpectsBy (Some work) bond = WorkExpects work bond

no_work : (work : Work) → ◌≡◌ {A = Option Work} None (Some work) → ⊥
no_work work e = cc

yes_only : (turn : Turn) → is_watch turn ≡ true → IsVote turn false → ⊥
yes_only First e v = true≢false (sym e)
yes_only Lone e v = true≢false (sym v)
yes_only (Next part host) e v = true≢false (sym v)

-- ---- a vote

module _ (words : ℕ → ℕ → ℕ × ℕ) (births : List (Seat Player)) (rows : Rows) (seat : Seat Player) (number : ℕ) (mail : Mail) (base : Base) (node : NodeState) (r : ReplicaState) (named : Draw) (ballot : Ballot) (slot : ℕ)
    (h : IsHere words births rows seat number mail base node r) (runs : r.running ≡ true) (body : mail.body ≡ Accepted named ballot slot) where
  abbrev g : IsGuided words births rows seat (Deliver number) base
  g = h.guided

  own_name : r.group.core.id ≡ base.core.id
  own_name = found_name base.core.id node.replicas r h.here

  lead : IsLeadOf g.at (progress_at births rows base g.course) r
  lead = (leads words births rows seat number mail base node r h runs).0

  lead_alone : LeadsAlone births rows base.core.id seat.who r
  lead_alone = leads_alone words births rows seat number mail base node r h runs

  abbrev after : Place
  after = (mailed mail.from mail.body (r, [])).0

  known_slot : slot < g.course.bound
  known_slot =
      let own = named_so words births rows seat number mail base node r h runs named (Accepted named ballot slot) body refl in
      let fact : mark_of base.core.id mail.from mail.body ≡ Some (Votes mail.from ballot slot) =
      ap (mark_of base.core.id mail.from) body ∙ (ap (λ n. mark_of base.core.id mail.from (Accepted n ballot slot)) own ∙ same_mark base.core.id (Votes mail.from ballot slot)) in
      known g.at words births rows seat node base g.course (the_scene words births rows seat number mail base node r h runs) number mail (takes words births rows seat number mail base node r h runs) (Votes mail.from ballot slot) fact

  -- ---- the one command

  module _ (flight : Flight Command) (flies : FliesLone flight r) (is_work : IsWork flight.value) where
    -- if the leader stops, it has executed it
    execution : after.0.running ≡ false → after.0.group ≡ (applied r.group flight.value).0
    execution stops = elim (votes-count-alone mail.from named ballot slot flight r flies) [
      | inl w ↦ absurd (true≢false (sym runs ∙ (sym w.running ∙ (ap (λ b. (mailed mail.from b (r, [])).0.0.running) (sym body) ∙ stops))))
      | inr d ↦ ap (λ b. (mailed mail.from b (r, [])).0.0.group) body ∙ (ap (λ (p : Place). p.0.group) d.fact ∙ ((entries-run-alone flight.value is_work.0 d.readied d.lone is_work.1).group ∙ ap (λ x. (applied x flight.value).0) d.group))
    ]

    -- the state of a leader that stops is the newest
    newest_is : (bond : Bond) → bond_of (applied r.group flight.value).0.core ≡ bond → after.0.running ≡ false → NewestAreBound births (with_event rows seat (Deliver number)) base.core.id bond
    newest_is bond leaves stops =
        let row = row_here words births rows seat number mail base node r h in
        let there : IsThere births rows base.core.id = (seat.who, r, view_here words births rows seat number mail base node r h) in
        let last = stopped_newest words births rows seat (Deliver number) base g h.taking.timely r after row runs stops in
        let same : g.bonds g.step.later.newest ≡ bond = ap g.bonds last ∙ (sym (g.is_bound seat.who after.0 row.fact) ∙ (ap (λ (x : Group). bond_of x.core) (execution stops) ∙ leaves)) in
        subst (NewestAreBound births (with_event rows seat (Deliver number)) base.core.id) same (newest_after words births rows seat (Deliver number) base g h.taking.timely there)

    entry : (work : Work) (bond : Bond) (sent : List (Draw × List Errand)) (command : Command) → flight.value ≡ command → work_by command ≡ Some work → EntryLeaves bond sent command seat.who r.group
        → IsEntry births rows seat number mail base.core.id work bond sent flight.value r
    entry work bond sent command e w l = record {
      work_is = ap work_by e ∙ w;
      leaves = subst (λ c. EntryLeaves bond sent c seat.who r.group) (sym e) l;
      newest = newest_is bond (ap (λ c. bond_of (applied r.group c).0.core) e ∙ l.bond_is);
    }

    -- one that asks in the group's name
    asking : (work : Work) (bond : Bond) (tx asked : Draw) (watch : Bool) (to : ℕ) (command : Command) → flight.value ≡ command → work_by command ≡ Some work
        → EntryLeaves bond ((asked, Question tx r.group.core.id watch seat.who to ∷ []) ∷ []) command seat.who r.group
        → IsEntry births rows seat number mail base.core.id work bond ((asked, Question tx base.core.id watch seat.who to ∷ []) ∷ []) flight.value r
    asking work bond tx asked watch to command e w l =
        entry work bond ((asked, Question tx base.core.id watch seat.who to ∷ []) ∷ []) command e w (subst (λ n. EntryLeaves bond ((asked, Question tx n watch seat.who to ∷ []) ∷ []) command seat.who r.group) own_name l)

    changes : (work : Work) (command : Command) → IsOrder work → flight.value ≡ command → work_by command ≡ Some work → bond_of r.group.core ≡ Unbound → EntryLeaves Unbound [] command seat.who r.group → FindsFlight births rows seat number mail base.core.id r slot
    changes work command o e w b l = Changed flight work flies h.me_is (subst (λ x. IsEntry births rows seat number mail base.core.id work x [] flight.value r) (sym b) (entry work Unbound [] command e w l)) o

    free_lock : bond_of r.group.core ≡ Unbound → r.group.core.lock ≡ Free
    free_lock b = quiet_over.free births rows base.core.id seat.who r lead_alone ((tell.led births rows base.core.id seat.who r lead_alone).1.0 ∙ b)

    stays_so : (command : Command) → flight.value ≡ command → StaysIn command r.me r.group → StaysIn flight.value r.me r.group
    stays_so command e s = subst (λ c. StaysIn c r.me r.group) (sym e) s

    other_so : (asked : Draw) → (asked ≡ r.group.core.id → ⊥) → asked ≡ base.core.id → ⊥
    other_so asked apart fact = apart (fact ∙ sym own_name)

    by_command : (command : Command) → flight.value ≡ command → IsWork command → ExpectsBy (work_by command) (bond_of r.group.core) → IsTrueEntry r.me r.group command → FindsFlight births rows seat number mail base.core.id r slot
    by_command Noop e w k t = absurd (no_work w.0 w.1)
    by_command (Call client seq op) e w k t = absurd (no_work w.0 w.1)
    by_command (Join who order) e w k t = changes Changes (Join who order) tt e refl k (orders-leave.join who order seat.who r.group (free_lock k))
    by_command (Leave who order) e w k t = changes Changes (Leave who order) tt e refl k (orders-leave.leave who order seat.who r.group (free_lock k))
    by_command (Split at child order) e w k t = elim (cases_Bool (is_alone r.group.core)) [
      | inl lone ↦ changes (Opens child) (Split at child order) tt e refl k (orders-leave.alone at child order seat.who r.group (free_lock k) lone)
      | inr others ↦ elim (cases_Bool (is_changed (applied r.group (Split at child order)).1)) [
        | inl changed ↦ (let a = t others changed in
            Opened flight child r.group.core.succ.group true (least_of r.group.core.succ.members) flies h.me_is
            (asking (Opens child) (Asking child r.group.core.succ.group Lone) child r.group.core.succ.group true (least_of r.group.core.succ.members) (Split at child order) e refl (orders-leave.split at child order seat.who r.group others changed))
            (stays_so (Split at child order) e a.0) (other_so r.group.core.succ.group a.1))
        | inr not_changed ↦ changes (Opens child) (Split at child order) tt e refl k (orders-leave.split_not at child order seat.who r.group (free_lock k) not_changed)
      ]
    ]
    by_command (Begin tx begun order) e w k t = elim (cases_Bool (is_changed (applied r.group (Begin tx begun order)).1)) [
      | inl changed ↦ (let a = t changed in
          Opened flight tx r.group.core.succ.group false (least_of r.group.core.succ.members) flies h.me_is
          (asking (Opens tx) (Asking tx r.group.core.succ.group First) tx r.group.core.succ.group false (least_of r.group.core.succ.members) (Begin tx begun order) e refl (orders-leave.begin tx begun order seat.who r.group a.0 changed))
          (stays_so (Begin tx begun order) e a.1.0) (other_so r.group.core.succ.group a.1.1))
      | inr not_changed ↦ changes (Opens tx) (Begin tx begun order) tt e refl k (orders-leave.begin_not tx begun order seat.who r.group (free_lock k) not_changed)
    ]
    by_command (Prepared tx offer) e w k t =
        let why = vote_of r.group.core offer in
        Voted flight tx offer.coord false (is_none why) offer.by flies h.me_is
        (entry (Answers tx offer.coord false offer.by) (bound_by (is_none why) tx) ((offer.coord, Reply tx false (is_none why) seat.who offer.by ∷ []) ∷ []) (Prepared tx offer) e refl (votes-leave.prepared tx offer why seat.who r.group (free_lock k) t.0 refl)) k
        (stays_so (Prepared tx offer) e t.1) (λ bad. absurd (true≢false (sym bad)))
    by_command (Watched tx watch) e w k t =
        Voted flight tx watch.coord true true watch.by flies h.me_is
        (entry (Answers tx watch.coord true watch.by) (bound_by true tx) ((watch.coord, Reply tx true true seat.who watch.by ∷ []) ∷ []) (Watched tx watch) e refl (votes-leave.watched tx watch seat.who r.group t.0 t.1.0)) k
        (stays_so (Watched tx watch) e t.1.1) (λ same. refl)
    by_command (RecordVote tx (Says.No why) by) e w k t =
        Aborted flight tx by flies h.me_is (entry (Records tx false false by) Unbound [] (RecordVote tx (Says.No why) by) e refl (records-leave.no tx k.0 why by seat.who r.group (k.2 ∙ ap (Asking tx k.0) (first_turn k.1 k.3))))
    by_command (RecordVote tx (Says.Yes frozen) by) e w k t =
        let first : bond_of r.group.core ≡ Asking tx k.0 First = k.2 ∙ ap (Asking tx k.0) (first_turn k.1 k.3) in
        elim t [
          | inl d ↦ Decided flight tx k.0 First by flies h.me_is (entry (Records tx false true by) Unbound (results tx k.0 First by) (RecordVote tx (Says.Yes frozen) by) e refl (records-leave.decides tx k.0 frozen d.0 by seat.who r.group first d.1)) first
          | inr c ↦ Heard flight tx k.0 frozen.succ.group by (least_of frozen.succ.members) flies h.me_is
              (asking (Records tx false true by) (Asking tx frozen.succ.group (Next k.0 by)) tx frozen.succ.group true (least_of frozen.succ.members) (RecordVote tx (Says.Yes frozen) by) e refl (records-leave.hears tx k.0 frozen by seat.who r.group first c.0)) first
              (stays_so (RecordVote tx (Says.Yes frozen) by) e c.1.0.0) (other_so frozen.succ.group c.1.0.1, c.1.1 k.0 first)
        ]
    by_command (RecordWatch tx Cast.Yes by) e w k t =
        let so = t.0 k.0 k.1 k.2 in
        Decided flight tx k.0 k.1 by flies h.me_is
        (entry (Records tx (is_watch k.1) true by) Unbound (results tx k.0 k.1 by) (RecordWatch tx Cast.Yes by) e (ap (λ x. Some (Records tx x true by)) (sym k.3)) (watch-records-leave tx k.0 k.1 t.1.0 by seat.who r.group k.2 k.3 so.0 so.1 t.1.1)) k.2
    by_command (RecordWatch tx (Cast.No why) by) e w k t = absurd (yes_only k.1 k.3 k.4)
    by_command (RecordWatch tx Cast.Ended by) e w k t = absurd (yes_only k.1 k.3 k.4)
    by_command (GiveUp tx) e w k t = absurd k
    by_command (Finish tx outcome) e w k t = Ended flight tx flies h.me_is (entry (Ends tx) Unbound [] (Finish tx outcome) e refl (ends-leave tx outcome t.0 seat.who r.group k t.1))

  -- ---- what is in flight at the slot

  module _ (under : IsUnderWay (scene_at births rows)) (lone : IsOrdersAlone r) (kept : IsSlotKept r) (are_true : Each (λ flight. IsTrueEntry r.me r.group flight.value) r.leader.flights) where
    by_flight : (o : Option (Flight Command)) → flight_at slot r.leader.flights ≡ o → FindsFlight births rows seat number mail base.core.id r slot
    by_flight None e = Late e
    by_flight (Some flight) e =
        let f = find_found (λ (x : Flight Command). eqb x.slot slot) r.leader.flights flight e in
        let at_slot : flight.slot ≡ slot = eqb-true flight.slot slot f.1 in
        let work : IsWork flight.value = Each-among (λ (x : Flight Command). IsWork x.value) r.leader.flights flight lone.flights f.0 in
        let so : IsTrueEntry r.me r.group flight.value = Each-among (λ (x : Flight Command). IsTrueEntry r.me r.group x.value) r.leader.flights flight are_true f.0 in
        let low : next r ≤ flight.slot = Each-among (λ (x : Flight Command). next r ≤ x.slot) r.leader.flights flight kept.0.0.0 f.0 in
        let acts : ActsAlone g.course r = order_is_kept.alone g.at g.course r lead.led (g.led.orderly seat.who r (view_here words births rows seat number mail base node r h) runs) in
        let bound : g.course.bound ≡ next r + 1 = acts slot flight.value (omega (arith, low, at_slot)) (inl (ap (option_map (λ (x : Flight Command). x.value)) e)) (work_act flight.value work.0 work.1) in
        let place : flight.slot ≡ next r = (let top = known_slot in omega (arith, low, at_slot, bound, top)) in
        let one = works_one words births rows seat number mail base node r h runs under in
        let some : Among work.0 (works r) =
        among-right work.0 (works_in r.acts) (works_in r.backlog ++ (works_flying r.leader.flights ++ works_ready r.ready))
        (among-right work.0 (works_in r.backlog) (works_flying r.leader.flights ++ works_ready r.ready)
        (among-left work.0 (works_flying r.leader.flights) (works_ready r.ready) (work_flies r.leader.flights flight work.0 f.0 work.1))) in
        let only : works r ≡ work.0 ∷ [] = one.1 ∙ only_work one.0 work.0 (subst (Among work.0) one.1 some) in
        let flies = fly_lone work.0 flight r runs (free_of words births rows seat number mail base node r h runs) only lone.flights lone.ready f.0 place in
        let reported = tell.led births rows base.core.id seat.who r lead_alone in
        let expects : WorkExpects work.0 (bond_of r.group.core) = subst (WorkExpects work.0) reported.1.0 (stages_expect_work (scene_at births rows) base.core.id work.0 under (reported.1.1 ∙ only)) in
        by_command flight flies work flight.value refl work (subst (λ o. ExpectsBy o (bond_of r.group.core)) (sym work.1) expects) so

    found_at : FindsFlight births rows seat number mail base.core.id r slot
    found_at = by_flight (flight_at slot r.leader.flights) refl

-- A vote at the leader finds nothing in flight at its slot, or the one command that is there, of one of the kinds of entries, where only work is in flight and that is true.
pub votes_found : VotesAreFound
votes_found words births rows seat number mail base node r named ballot slot h runs body under lone kept are_true = found_at words births rows seat number mail base node r named ballot slot h runs body under lone kept are_true
