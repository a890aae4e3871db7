-- What a group that is well led is in a quiet journal.
use Rattle.std.proofs.Common.{◌≡◌, ℕ, ◌≤◌, ◌||◌, not, true, false, true≢false, List, [], ◌∷◌, length, Some, inl, inr, sym, ◌∙◌, ap, subst, arith}
use Rattle.std.proofs.lemmas.Bool.{cases_Bool, or_left, or_right}
use Rattle.sc_node_table.specs.Values.{Base, Seat}
use Rattle.sc_base.specs.Definitions.{is_majority, IsRoster, is_member}
use Rattle.sc_actor.specs.Definitions.{is_quiet}
use Rattle.sc_live_orderly.specs.OrderlyDefinitions.{is_born, AreInTime}
use Rattle.sc_words.specs.paxos.PaxosDefinitions.{below}
use Rattle.sc_node_table.specs.NodeDefinitions.{ReplicaState, next, first_set, may_offer, settled}
use Rattle.sc_meaning.specs.sound.SoundDefinitions.{Player}
use Rattle.sc_live_steps.specs.calm.CalmDefinitions.{players, MayVote, Rows}
use Rattle.sc_live_steps.specs.following.FollowingDefinitions.{Course, Progress, Sets, members_at, IsOpen, SlotLeaders, hinted, AreAt, IsLeadOf}
use Rattle.sc_live_steps.proofs.CalmStepsProofs.CalmStepLemmas.{unbound_new}
use Rattle.sc_live_journals.specs.rows.RowDefinitions.{IsEvenAt, view_at, next_in, promise_in, progress_at, marks_at}
use Rattle.sc_live_journals.proofs.RowsProofs.RowLemmas.{quiet_rests, same_some}
use Rattle.sc_live_journals.specs.groups.GroupDefinitions.{Ends, hint_in, hints_at, IsWellLed, IsLedQuietly, QuietGroupsAreLed}
use Rattle.sc_base.proofs.Lemmas.{and_both as both}
use Rattle.sc_live_steps.proofs.FollowingProofs.FollowingLemmas.{decided as all_decide}
use Rattle.sc_live_journals.proofs.RowsProofs.EvenGroups.{none_pending}

-- the members of the first open slot
pub first_at : (at : Sets) (slot : ℕ) (sets : List (List ℕ)) → AreAt at slot sets → 1 ≤ length sets → at slot ≡ first_set sets
first_at at slot [] are some = absurd (omega (arith, some))
first_at at slot (set ∷ sets) are some = are.0

module _ (at : Sets) (over : Ends) (by : SlotLeaders) (words : ℕ → ℕ → ℕ × ℕ) (births : List (Seat Player)) (rows : Rows) (base : Base) (course : Course) (lead : ReplicaState) (rosters : (slot : ℕ) → IsRoster (at slot)) (timely : AreInTime (players words births) rows)
    (quiet : is_quiet (players words births) rows ≡ true) (strangers : (who : ℕ) → is_born (players words births) who ≡ false → marks_at (players words births) rows base.core.id who ≡ []) (was : IsWellLed at over by words births rows base course)
    (stands : course.gone ≡ false) (there : view_at births rows base.core.id course.ballot.node ≡ Some lead) where
  abbrev now : Progress
  now = progress_at births rows base course

  even : IsEvenAt at births rows base course
  even = quiet_rests at words births rows base course rosters timely quiet strangers was.followed

  leads : IsLeadOf at now lead
  leads = even.lead stands lead there

  me : course.ballot.node ≡ lead.me
  me = leads.led.mine

  ballot : lead.leader.ballot ≡ course.ballot
  ballot = leads.led.may.ballot

  place : (node : ℕ) (r : ReplicaState) → view_at births rows base.core.id node ≡ Some r → now.next node ≡ next r
  place node r e = ap (next_in base node) e

  may_vote : (node : ℕ) (r : ReplicaState) → view_at births rows base.core.id node ≡ Some r → r.me ≡ node → IsOpen at course.newest node → (node ≡ lead.me → ⊥) → MayVote lead r
  may_vote node r e own open_ ne = record {
    hint_is =
        sym (ap (hint_in base) e)
        ∙ (ap (λ ms. hinted at by (now.promise node) (hints_at births rows base node) ms) (sym (none_pending words births rows base timely quiet strangers node))
        ∙ (was.heeded.ends leads.runs node (λ fact. ne (fact ∙ me)) open_ ∙ ap Some me));
    promised = λ later.
        (let led = even.led stands in (
          sym (ap (promise_in base) e) ∙ (led.voters node open_ ∙ sym ballot),
          ap (is_member lead.leader.promisers) own ∙ (sym (leads.counted node) ∙ led.counted (sym leads.led.first ∙ later) node open_),
        ));
  }

  not_below : (node : ℕ) (r : ReplicaState) → view_at births rows base.core.id node ≡ Some r → below lead.leader.ballot r.acceptor.promised ≡ false
  not_below node r e = ap (λ b. below b r.acceptor.promised) ballot ∙ (ap (below course.ballot) (sym (ap (promise_in base) e)) ∙ even.even.promised node)

  -- all that decide the next slot have promised
  majority : lead.leader.is_first ≡ false → is_majority (first_set lead.sets) lead.leader.promisers ≡ true
  majority later =
      let ahead = leads.led.ahead in
      let firsts : at course.newest ≡ first_set lead.sets = ap at leads.newest ∙ first_at at (next lead) lead.sets leads.led.may.sets (omega (arith, ahead)) in
      all_decide (first_set lead.sets) lead.leader.promisers (subst (λ ms. 1 ≤ length ms) firsts (rosters course.newest).some)
      (λ node m. sym (leads.counted node) ∙ (even.led stands).counted (sym leads.led.first ∙ later) node
      (record { slot = course.newest; from = omega arith; to = omega arith; decides = ap (λ ms. is_member ms node) firsts ∙ m }))

  settled_lead : settled lead ≡ true
  settled_lead =
      let low = not_below course.ballot.node lead there in
      both lead.running (may_offer lead (first_set lead.sets)) leads.led.running
      (both (not (below lead.leader.ballot lead.acceptor.promised)) (lead.leader.is_first || is_majority (first_set lead.sets) lead.leader.promisers) (ap not low)
      (elim (cases_Bool lead.leader.is_first) [
        | inl first ↦ or_left lead.leader.is_first (is_majority (first_set lead.sets) lead.leader.promisers) first
        | inr later ↦ or_right lead.leader.is_first (is_majority (first_set lead.sets) lead.leader.promisers) (majority later)
      ]))

  quietly : IsLedQuietly at births rows base course lead
  quietly = record {
    leads = leads;
    runs = leads.led.running;
    mine = leads.led.member;
    settled_is = settled_lead;
    unbound = λ slot low. unbound_new lead.leader (was.orderly course.ballot.node lead there leads.led.running).plain slot;
    orderly = was.orderly course.ballot.node lead there leads.led.running;
    alone = λ node r e runs. (let fact = even.alone node r e runs in same_some (view_at births rows base.core.id course.ballot.node) r lead (subst (λ n. view_at births rows base.core.id n ≡ Some r) fact e) there);
    most = λ node r e. (let most = even.even.most node in let here = place node r e in let newest = leads.newest in omega (arith, most, here, newest));
    member = λ node r e m. sym (place node r e) ∙ (even.even.members node (ap (λ ms. is_member ms node) (ap (members_at at) leads.newest ∙ leads.led.was) ∙ m) ∙ leads.newest);
    promised = not_below;
    voter = may_vote;
  }

-- In a quiet journal a group that is well led and stands has one that leads, and no other runs; none is further, and each other that decides an open slot may vote; and of one that is gone none runs.
pub quiet_groups_led : QuietGroupsAreLed
quiet_groups_led = record {
  stands = λ at over by words births rows base course lead rosters timely quiet strangers was stands there. quietly at over by words births rows base course lead rosters timely quiet strangers was stands there;
  gone = λ at over by words births rows base course was gone node r e. elim (cases_Bool r.running) [
    | inl runs ↦ absurd (true≢false (sym gone ∙ (was.followed.given.gives node r e runs).0.stands))
    | inr off ↦ off
  ];
}
