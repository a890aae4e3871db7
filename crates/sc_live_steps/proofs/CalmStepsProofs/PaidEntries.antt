-- Entries that a leader executes one after another raise nothing, where each is paid for.
use Rattle.std.proofs.Common.{◌≡◌, ℕ, ◌+◌, ◌*◌, ◌≤◌, Bool, true, false, List, [], ◌∷◌, length, sum_by, Option, Some, None, ◌⊎◌, inl, inr, refl, sym, ◌∙◌, ap, subst, arith}
use Rattle.sc_node_table.specs.Values.{Draw, Command, Noop, Call, Join, Leave, Split, Begin, Prepared, RecordVote, GiveUp, Finish, Watched, RecordWatch, Past, Vote, Mail, Report}
use Rattle.sc_words.specs.declared.commands.votes.Past.TheVariants as Cast
use Rattle.sc_words.specs.commands.CommandDefinitions.{is_changed}
use Rattle.sc_base.specs.Definitions.{is_member, least_of}
use Rattle.sc_group_table.specs.machine.MachineDefinitions.{Group, applied}
use Rattle.sc_words.specs.paxos.PaxosDefinitions.{must, LogState, next_of}
use Rattle.sc_node_table.specs.NodeDefinitions.{ended, stopped, entered, looked, executed_one, next_child, next_ready, ending, executed_ready, executed, pumped, ReplicaState, Place, Executed, childless, next, members, without_slot}
use Rattle.sc_law_walks.specs.WalkDefinitions.{IfThere}
use Rattle.sc_live_steps.specs.calm.CalmDefinitions.{AreBounded, EndsAfter, LeavesFew, IsWatchPaid, IsPaid, MayGoOn, ArePaid, AllPaid, said_place, newcomers, AreNines, MayPump, IsChange, LeadsOn, StopsAfter, ExecutesFreely, Ways, election, offered_owes, mail_owes, place_owes}
use Rattle.sc_live_steps.proofs.CalmStepsProofs.PumpPotential.{pump_owes}
use Rattle.sc_law_walks.proofs.WalkLemmas.{entered_next, idle_pump}
use Rattle.sc_live_steps.proofs.CalmStepsProofs.LearnRows.{IsFresh, looked_fresh, unbound_new}
use Rattle.sc_live_steps.proofs.CalmStepsProofs.CountedPotential.{Counts, counted_ends, counted_owes, leaving_owes, left_stays, looked_stays, left_stops, stops_idle}
use Rattle.sc_live_steps.proofs.CalmStepsProofs.MemberChanges.{silent_said, changes_owe, leader_leaves}
use Rattle.sc_live_steps.proofs.CalmStepsProofs.CallEntries.{call_leads, call_said, call_owes}
use Rattle.sc_live_steps.proofs.CalmStepsProofs.TransactionEntries.{SaysMost, few_added, begin_new, split_new, prepared_new, watched_new, finish_new, begin_said, split_said, split_alone_said, prepared_said, watched_said, finish_said, vote_said, vote_quiet_said, vote_new, watch_said, watch_first_said}
use Rattle.sc_live_steps.proofs.CalmStepsProofs.StoppedReplicas.{idle_paid}
use Rattle.sc_live_steps.proofs.CalmStepsProofs.GoneLeaders.{ending_owes, ends_paid}
use Rattle.sc_live_steps.proofs.CalmStepsProofs.PumpInvariants.{pumped_goes_on, entered_nines}

module _ (ways : Ways) where
  -- ---- one entry

  -- one that leads on, with what it says and whom it adds
  leads_owes : (command : Command) (place : Place) (said : ℕ) → LeadsOn command place.0 → SaysMost ways command place.0 place.1 said → 8 + said + 3 * length (newcomers command place.0) ≤ offered_owes ways.most command
      → place_owes ways (executed_one true command place) ≤ place_owes ways place
  leads_owes command place said leads says paid = counted_owes ways command place said leads.counting leads.stands leads.stays says.0 says.1 paid

  stops_owes : (command : Command) (place : Place) (said : ℕ) → StopsAfter command place.0 → SaysMost ways command place.0 place.1 said → 8 + said + 3 * length (newcomers command place.0) + election ≤ offered_owes ways.most command
      → place_owes ways (executed_one true command place) ≤ place_owes ways place
  stops_owes command place said stops says paid = leaving_owes ways command place said stops.counting stops.stands stops.leaves stops.flights stops.alone stops.backlog says.0 says.1 paid

  watching_owes : (tx : Draw) (vote : Past) (by : ℕ) (place : Place) → IsWatchPaid tx vote by place.0 → place_owes ways (executed_one true (RecordWatch tx vote by) place) ≤ place_owes ways place
  watching_owes tx Cast.Yes by place (few, inl leads) =
      let new = few_added (RecordWatch tx Cast.Yes by) place.0 few in
      leads_owes (RecordWatch tx Cast.Yes by) place 62 leads (watch_said ways tx by place.0 place.1) (omega (arith, new))
  watching_owes tx Cast.Yes by place (few, inr ends) =
      let new = ends.1 in
      stops_owes (RecordWatch tx Cast.Yes by) place 31 ends.2 (watch_first_said ways tx by place.0 place.1 ends.0) (omega (arith, new))
  watching_owes tx (Cast.No why) by place paid = absurd paid
  watching_owes tx Cast.Ended by place paid = absurd paid

  -- one that asks adds nobody
  voting_owes : AreBounded ways → (tx : Draw) (vote : Vote) (by : ℕ) (place : Place) → LeavesFew (RecordVote tx vote by) place.0 → LeadsOn (RecordVote tx vote by) place.0 → place_owes ways (executed_one true (RecordVote tx vote by) place) ≤ place_owes ways place
  voting_owes bounded tx vote from place few leads = by (is_changed (applied place.0.group (RecordVote tx vote from)).1) refl
    where
      by : (b : Bool) → is_changed (applied place.0.group (RecordVote tx vote from)).1 ≡ b → place_owes ways (executed_one true (RecordVote tx vote from) place) ≤ place_owes ways place
      by true asks =
          let new = vote_new ways bounded tx vote from place.0 asks in
          leads_owes (RecordVote tx vote from) place (159 + 2 * ways.most) leads (vote_said ways bounded tx vote from place.0 place.1) (omega (arith, new))
      by false quiet =
          let new = few_added (RecordVote tx vote from) place.0 few in
          leads_owes (RecordVote tx vote from) place 31 leads (vote_quiet_said ways bounded tx vote from place.0 place.1 quiet) (omega (arith, new))

  paid_owes : (command : Command) (place : Place) → AreBounded ways → IsPaid command place.0 → place_owes ways (executed_one true command place) ≤ place_owes ways place
  paid_owes Noop place bounded paid = changes_owe ways Noop place tt paid
  paid_owes (Call client seq op) place bounded (counting, served) = call_owes ways client seq op place counting served
  paid_owes (Join node order) place bounded paid = changes_owe ways (Join node order) place tt paid
  paid_owes (Leave node order) place bounded (inl leads) = changes_owe ways (Leave node order) place tt leads
  paid_owes (Leave node order) place bounded (inr stops) = leader_leaves ways node order place stops
  paid_owes (Split at child order) place bounded (free, inl leads) =
      let new = split_new at child order place.0 in
      leads_owes (Split at child order) place (159 + 2 * ways.most) leads (split_said ways bounded at child order place.0 place.1 free) (omega (arith, new))
  paid_owes (Split at child order) place bounded (free, inr stops) =
      let new = split_new at child order place.0 in
      stops_owes (Split at child order) place 0 stops.1 (split_alone_said ways bounded at child order place.0 place.1 free stops.0) (omega (arith, new))
  paid_owes (Begin tx body order) place bounded paid =
      let new = begin_new tx body order place.0 in
      leads_owes (Begin tx body order) place (215 + 4 * ways.most) paid (begin_said ways bounded tx body order place.0 place.1) (omega (arith, new))
  paid_owes (Prepared tx offer) place bounded paid =
      let new = prepared_new tx offer place.0 in
      leads_owes (Prepared tx offer) place (187 + 2 * ways.most) paid (prepared_said ways tx offer place.0 place.1) (omega (arith, new))
  paid_owes (RecordVote tx vote by) place bounded (few, inl leads) = voting_owes bounded tx vote by place few leads
  paid_owes (RecordVote tx vote by) place bounded (few, inr stops) =
      let new = few_added (RecordVote tx vote by) place.0 few in
      stops_owes (RecordVote tx vote by) place 31 stops.1 (vote_quiet_said ways bounded tx vote by place.0 place.1 stops.0) (omega (arith, new))
  paid_owes (GiveUp tx) place bounded paid = absurd paid
  paid_owes (Finish tx outcome) place bounded (inl leads) =
      let new = finish_new tx outcome place.0 in
      leads_owes (Finish tx outcome) place 0 leads (finish_said ways tx outcome place.0 place.1) (omega (arith, new))
  paid_owes (Finish tx outcome) place bounded (inr ends) =
      let new = finish_new tx outcome place.0 in
      let says = finish_said ways tx outcome place.0 place.1 in
      ending_owes ways (Finish tx outcome) place 0 ends says.0 says.1 (omega (arith, new))
  paid_owes (Watched tx watch) place bounded paid =
      let new = watched_new tx watch place.0 in
      leads_owes (Watched tx watch) place 131 paid (watched_said ways tx watch place.0 place.1) (omega (arith, new))
  paid_owes (RecordWatch tx vote by) place bounded paid = watching_owes tx vote by place paid

  -- ---- those that are ready, and the pump after each

  pump_goes : (place : Place) → MayGoOn place.0 → place_owes ways (pumped place) ≤ place_owes ways place
  pump_goes place may = by place.0.running refl
    where
      by : (b : Bool) → place.0.running ≡ b → place_owes ways (pumped place) ≤ place_owes ways place
      by true runs = let m = may runs in pump_owes ways place m.unbound m.few
      by false off = let same = ap (place_owes ways) (idle_pump place off) in omega (arith, same)

  -- a step that raises nothing, and may go on
  abbrev Goes : Place → Executed → Type 0
  Goes place step = (place_owes ways step.0 ≤ place_owes ways place) × MayGoOn step.0.0

  all_ready_owe : AreBounded ways → (es : List (ℕ × Command)) (place : Place) → ArePaid es place → Goes place (executed_ready es place)
  unfolding executed_ready
  all_ready_owe bounded [] place may = (omega arith, may)
  all_ready_owe bounded (e ∷ es) place paid = by (next_ready place.0) paid (λ p q. all_ready_owe bounded es p q)
    where
      by : (o : Option Command) → IfThere (λ command. IsPaid command place.0 × ArePaid es (executed_one true command place)) (MayGoOn place.0) o → ((p : Place) → ArePaid es p → Goes p (executed_ready es p)) →
          Goes place (elim o [ None ↦ childless place | Some command ↦ ending (next_child command place.0) (executed_ready es (executed_one true command place)) ])
      by None may more = (omega arith, may)
      by (Some command) both more =
          let one = paid_owes command place bounded both.0 in
          let rest = more (executed_one true command place) both.1 in
          let low = rest.0 in
          let end = (executed_ready es (executed_one true command place)).0 in
          let last = pump_goes end rest.1 in
          (omega (arith, one, low, last), pumped_goes_on end rest.1)

  -- ---- the whole

  pub execution_owes : (command : Command) (place : Place) → AreBounded ways → AllPaid command place → ExecutesFreely ways command place
  unfolding executed
  execution_owes command place bounded all =
      let one = paid_owes command place bounded all.0 in
      let next_place = executed_one true command place in
      let rest = all_ready_owe bounded next_place.0.ready next_place all.1 in
      let low = rest.0 in
      let last = pump_goes (executed_ready next_place.0.ready next_place).0 rest.1 in
      omega (arith, one, low, last)

-- ---- an entry behind which nothing is ready

none_paid : (place : Place) → place.0.ready ≡ [] → MayGoOn place.0 → ArePaid place.0.ready place
none_paid place none may = subst (λ (es : List (ℕ × Command)). ArePaid es place) (sym none) may

fresh_paid : (place : Place) → IsFresh place → ArePaid place.0.ready place
fresh_paid place (inl off) = idle_paid place.0.ready place off
fresh_paid place (inr new) = none_paid place new.0 (λ runs. record { unbound = λ slot at. unbound_new place.0.leader new.1 slot; few = new.2 })

kept_sets : (hint : Option ℕ) (r : ReplicaState) (mails : List Mail) → AreNines r.sets → AreNines (stopped hint (r, mails)).0.sets
unfolding ended
kept_sets hint r mails nines = nines

module _ (ways : Ways) (command : Command) (before : Place) (may : MayPump before.0) (few : length (members (entered command before.0)) ≤ 9) where
  -- where a leader goes on
  pub after_counting : (said : ℕ) (r : ReplicaState) (mails : List Mail) → Counts ways command said before (r, mails) → MayPump r
  after_counting said r mails counts = record {
    unbound = λ slot at.
        (let up : next r ≡ next before.0 + 1 = ap (λ (l : LogState Command). next_of l) counts.log ∙ entered_next command before.0 in
        ap (λ (reports : List (Report Command)). must slot (record r.leader { reports = reports })) counts.reports ∙ may.unbound slot (omega (arith, up, at)));
    few = subst AreNines (sym counts.sets) (entered_nines command before.0 may.few few);
  }

  leads_paid : (said : ℕ) → LeadsOn command before.0 → without_slot before.0.ready (next before.0) ≡ [] → (said_place command before).0 ≡ entered command before.0
      → sum_by (mail_owes ways) (said_place command before).1 ≤ sum_by (mail_owes ways) before.1 + said → ArePaid (executed_one true command before).0.ready (executed_one true command before)
  leads_paid said leads alone state reported =
      counted_ends ways (λ p. ArePaid p.0.ready p) command before said leads.counting state reported
      (λ r mails counts.
      let gone = ap (λ (g : Group). g.core.gone) counts.group_is ∙ leads.stands in
      let mine = ap (λ n. is_member (members r) n) counts.me_is ∙ (ap (λ (g : Group). is_member g.core.members before.0.me) counts.group_is ∙ leads.stays) in
      let same = ap looked (left_stays r mails counts.running gone mine) ∙ looked_stays r mails counts.running in
      subst (λ (p : Place). ArePaid p.0.ready p) (sym same) (none_paid (r, mails) (counts.ready ∙ alone) (λ runs. after_counting said r mails counts)))

  stops_paid : (said : ℕ) → StopsAfter command before.0 → (said_place command before).0 ≡ entered command before.0
      → sum_by (mail_owes ways) (said_place command before).1 ≤ sum_by (mail_owes ways) before.1 + said → ArePaid (executed_one true command before).0.ready (executed_one true command before)
  stops_paid said stops state reported =
      counted_ends ways (λ p. ArePaid p.0.ready p) command before said stops.counting state reported
      (λ r mails counts.
      let gone = ap (λ (g : Group). g.core.gone) counts.group_is ∙ stops.stands in
      let other = ap (λ n. is_member (members r) n) counts.me_is ∙ (ap (λ (g : Group). is_member g.core.members before.0.me) counts.group_is ∙ stops.leaves) in
      let place : Place = stopped (Some (least_of (members r))) (r, mails) in
      let same = left_stops ways r mails counts.running gone other in
      let idle = stops_idle ways (Some (least_of (members r))) r mails (counts.flights ∙ stops.flights) (counts.ready ∙ stops.alone) (counts.backlog ∙ stops.backlog) in
      let nines = (after_counting said r mails counts).few in
      subst (λ (p : Place). ArePaid (looked p).0.ready (looked p)) (sym same) (fresh_paid (looked place) (looked_fresh place.0 place.1 idle.0 (kept_sets (Some (least_of (members r))) r mails nines))))

-- ---- by the kind of the entry

-- it does not matter how far it is to one that runs
pub near : Ways
near = record { far = λ group node. 0; most = 0; asked_group = λ tx. None }

near_bounded : AreBounded near
unfolding near
near_bounded = λ group node. omega arith

-- what an entry says
record IsSaid (command : Command) (place : Place) : Type 0 where
  pub most : ℕ
  pub says : SaysMost near command place.0 place.1 most

-- what an entry says, and whether the replica leads on after it
abbrev Follows : Command → Place → Type 0
Follows command place = IsSaid command place × (LeadsOn command place.0 ⊎ (StopsAfter command place.0 ⊎ EndsAfter command place.0))

change_said : (command : Command) (place : Place) → IsChange command → IsSaid command place
change_said command place fact =
    let said = silent_said near command place.0 place.1 fact in
    let reported = said.1 in
    record { most = 0; says = (said.0, omega (arith, reported)) }

watch_ends : (tx : Draw) (vote : Past) (by : ℕ) (place : Place) → IsWatchPaid tx vote by place.0 → Follows (RecordWatch tx vote by) place
watch_ends tx Cast.Yes by place (few, inl leads) = (record { most = 62; says = watch_said near tx by place.0 place.1 }, inl leads)
watch_ends tx Cast.Yes by place (few, inr ends) = (record { most = 62; says = watch_said near tx by place.0 place.1 }, inr (inl ends.2))
watch_ends tx (Cast.No why) by place paid = absurd paid
watch_ends tx Cast.Ended by place paid = absurd paid

paid_ends : (command : Command) (place : Place) → IsPaid command place.0 → Follows command place
paid_ends Noop place paid = (change_said Noop place tt, inl paid)
paid_ends (Call client seq op) place (counting, served) = (record { most = 1; says = call_said near client seq op place.0 place.1 served }, inl (call_leads client seq op place.0 counting served))
paid_ends (Join node order) place paid = (change_said (Join node order) place tt, inl paid)
paid_ends (Leave node order) place (inl leads) = (change_said (Leave node order) place tt, inl leads)
paid_ends (Leave node order) place (inr stops) = (change_said (Leave node order) place tt, inr (inl stops))
paid_ends (Split at child order) place (free, inl leads) = (record { most = _; says = split_said near near_bounded at child order place.0 place.1 free }, inl leads)
paid_ends (Split at child order) place (free, inr stops) = (record { most = _; says = split_said near near_bounded at child order place.0 place.1 free }, inr (inl stops.1))
paid_ends (Begin tx body order) place paid = (record { most = _; says = begin_said near near_bounded tx body order place.0 place.1 }, inl paid)
paid_ends (Prepared tx offer) place paid = (record { most = _; says = prepared_said near tx offer place.0 place.1 }, inl paid)
paid_ends (RecordVote tx vote by) place (few, inl leads) = (record { most = _; says = vote_said near near_bounded tx vote by place.0 place.1 }, inl leads)
paid_ends (RecordVote tx vote by) place (few, inr stops) = (record { most = _; says = vote_said near near_bounded tx vote by place.0 place.1 }, inr (inl stops.1))
paid_ends (GiveUp tx) place paid = absurd paid
paid_ends (Finish tx outcome) place (inl leads) = (record { most = 0; says = finish_said near tx outcome place.0 place.1 }, inl leads)
paid_ends (Finish tx outcome) place (inr ends) = (record { most = 0; says = finish_said near tx outcome place.0 place.1 }, inr (inr ends))
paid_ends (Watched tx watch) place paid = (record { most = _; says = watched_said near tx watch place.0 place.1 }, inl paid)
paid_ends (RecordWatch tx vote by) place paid = watch_ends tx vote by place paid

-- A paid entry behind which nothing is ready needs no more than that, where the replica may pump.
pub lone_paid : (command : Command) (place : Place) → IsPaid command place.0 → without_slot place.0.ready (next place.0) ≡ [] → MayPump place.0 → LeavesFew command place.0 → AllPaid command place
lone_paid command place paid alone may few =
    let follows = paid_ends command place paid in
    let said = follows.0 in
    elim (follows.1) [
      | inl leads ↦ (paid, leads_paid near command place may few said.most leads alone said.says.0 said.says.1)
      | inr other ↦ elim other [
        | inl stops ↦ (paid, stops_paid near command place may few said.most stops said.says.0 said.says.1)
        | inr ends ↦ (paid, ends_paid near command place said.most ends said.says.0 said.says.1)
      ]
    ]
