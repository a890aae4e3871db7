-- Whom a replica's table takes for the leader is what the mark of a mail says.
use Rattle.std.proofs.Common.{◌≡◌, ℕ, suc, ◌+◌, ◌<◌, ◌≤◌, not, eqb, Bool, true, false, true≢false, cond, List, [], length, Option, Some, None, ◌⊎◌, inl, inr, refl, sym, ◌∙◌, ap, subst, arith}
use Rattle.std.specs.Prelude.{is_some}
use Rattle.std.proofs.lemmas.Bool.{cases_eq, eqb-true, lt-leb}
use Rattle.sc_node_table.specs.Values.{Ballot, Command, Base, Route, Mail, Report}
use Rattle.sc_base.specs.Definitions.{is_member, least_of}
use Rattle.sc_words.specs.declared.paxos.answers.AcceptAnswer.TheVariants as Asked
use Rattle.sc_words.specs.declared.paxos.answers.PrepareAnswer.TheVariants as Answers
use Rattle.sc_words.specs.paxos.PaxosDefinitions.{accepted as accepted_by, after_accept, after_promise, reports_from, below, prepared}
use Rattle.sc_words.proofs.PaxosProofs.PaxosLemmas.{at_least_itself}
use Rattle.sc_node_table.specs.NodeDefinitions.{elected, stopped, entered, is_among, looked_for, looked, executed_one, executed_ready, executed, install_to, jumped, pumped, ReplicaState, Place, Executed, next, members, last_slot, forgotten, looked_up, took_over, install_row, mailed, promise_to, promised, prepare_row, accepted_to, took, accept_row}
use Rattle.sc_law_walks.specs.WalkDefinitions.{GoesOn}
use Rattle.sc_law_walks.proofs.WalkLemmas.{idle_ready, idle_pump}
use Rattle.sc_live_steps.specs.following.FollowingDefinitions.{Asks, Installs, members_at, HintsFollow, IsHeir, HeirsElect, LeadersLeaveLast, IsInTime, Stays}
use Rattle.sc_live_steps.proofs.FollowingProofs.HintRows.{nodes_heed}
use Rattle.sc_live_steps.proofs.FollowingProofs.FollowerTables.{over, place2, over_off, looks, looked_same, told_is}
use Rattle.sc_live_steps.proofs.FollowingProofs.MailTables.{not_refused, saw_either, jumped_keeps, made_is}

-- ---- Accept and Prepare

accept_hint : (ballot : Ballot) (slot : ℕ) (command : Command) (r : ReplicaState) → IsInTime (Asks ballot slot) r → GoesOn ballot r → r.acceptor.floor < next r → r.running ≡ false → (accept_row ballot.node ballot slot command (r, [])).0.hint ≡ Some ballot.node
unfolding accept_row took
accept_hint ballot slot command r fit goes low off = saw_either (λ p. (took ballot.node report p).0.hint ≡ Some ballot.node) ballot r [] goes (by ballot) (by r.top)
  where
    report : Report Command
    report = record { slot = slot; ballot = ballot; value = command }

    may : below ballot r.acceptor.promised ≡ false
    may = subst (λ b. below ballot b ≡ false) fit.2 (at_least_itself ballot)

    out : (q : ReplicaState) → (cond q.running q (record q { hint = Some ballot.node })).hint ≡ cond q.running q.hint (Some ballot.node)
    out q = split q.running
      where
        split : (b : Bool) → (cond b q (record q { hint = Some ballot.node })).hint ≡ cond b q.hint (Some ballot.node)
        split true = refl
        split false = refl

    by : (top : Ballot) → (took ballot.node report (record r { top = top }, [])).0.hint ≡ Some ballot.node
    by top =
        let at = fit.1 in
        let q : ReplicaState = record r { top = top; acceptor = after_accept report r.acceptor } in
        subst (λ b. (cond {A = Place} b (install_to ballot.node (record r { top = top }, [])) (accepted_to ballot.node ballot slot (accepted_by report r.acceptor) (record r { top = top }, []))).0.hint ≡ Some ballot.node) (sym (lt-leb slot r.acceptor.floor (omega (arith, at, low))))
        (subst (λ b. (accepted_to ballot.node ballot slot (cond (not b) (Asked.Accepted, after_accept report r.acceptor) (Asked.Ignored r.acceptor.promised, r.acceptor)) (record r { top = top }, [])).0.hint ≡ Some ballot.node) (sym may)
        (out q ∙ ap (λ b. cond b r.hint (Some ballot.node)) off))

prepare_hint : (ballot : Ballot) (from_slot : ℕ) (r : ReplicaState) → GoesOn ballot r → r.acceptor.floor < from_slot → r.running ≡ false → (prepare_row ballot.node ballot from_slot (r, [])).0.hint ≡ cond (below r.acceptor.promised ballot) (Some ballot.node) r.hint
unfolding prepare_row promised
prepare_hint ballot from_slot r goes low off = saw_either (λ p. (promised ballot.node ballot from_slot p).0.hint ≡ cond (below r.acceptor.promised ballot) (Some ballot.node) r.hint) ballot r [] goes (by ballot) (by r.top)
  where
    reports : List (Report Command)
    reports = reports_from from_slot r.acceptor.accepted

    out : (q : ReplicaState) (b : Bool) → b ≡ false → (cond b q (record q { hint = Some ballot.node })).hint ≡ Some ballot.node
    out q true e = absurd (true≢false e)
    out q false e = refl

    by : (top : Ballot) → (promised ballot.node ballot from_slot (record r { top = top }, [])).0.hint ≡ cond (below r.acceptor.promised ballot) (Some ballot.node) r.hint
    by top =
        subst (λ b. (cond {A = Place} b (install_to ballot.node (record r { top = top }, [])) (promise_to ballot.node ballot (prepared ballot from_slot r.acceptor) (record r { top = top }, []))).0.hint ≡ cond (below r.acceptor.promised ballot) (Some ballot.node) r.hint)
        (sym (lt-leb from_slot r.acceptor.floor low)) (either (below r.acceptor.promised ballot))
      where
        either : (b : Bool) → (promise_to ballot.node ballot (cond b (Answers.Promise reports, after_promise ballot r.acceptor) (Answers.Ignored r.acceptor.promised, r.acceptor)) (record r { top = top }, [])).0.hint ≡ cond b (Some ballot.node) r.hint
        either true = out (record r { top = top; acceptor = after_promise ballot r.acceptor }) r.running off
        either false = refl

-- ---- Learn

-- whom one looks for that does not elect itself
looked_hint : (r : ReplicaState) (mails : List Mail) → r.running ≡ false → Stays r → r.group.core.gone ≡ None → (looked (r, mails)).0.hint ≡ cond (is_among (members r) r.hint) r.hint (Some (least_of (members r)))
unfolding looked
looked_hint r mails off stays stands =
    subst (λ b. (cond {A = Place} b (r, mails) (looked_for r.group.core.gone (r, mails))).0.hint ≡ cond (is_among (members r) r.hint) r.hint (Some (least_of (members r)))) (sym off)
    (subst (λ gone. (looked_for gone (r, mails)).0.hint ≡ cond (is_among (members r) r.hint) r.hint (Some (least_of (members r)))) (sym stands) (by (is_among (members r) r.hint) (eqb (least_of (members r)) r.me) refl refl))
  where
    by : (b c : Bool) → is_among (members r) r.hint ≡ b → eqb (least_of (members r)) r.me ≡ c
        → (cond {A = Place} b (r, mails) (cond c (elected (record r { hint = Some r.me }, mails)) (record r { hint = Some (least_of (members r)) }, mails))).0.hint ≡ cond b r.hint (Some (least_of (members r)))
    by true c among least = refl
    by false false among least = refl
    by false true among least = elim stays [
      | inl t ↦ absurd (true≢false (sym t ∙ among))
      | inr (inl apart) ↦ absurd (apart (eqb-true (least_of (members r)) r.me least))
      | inr (inr went) ↦ (let bad : None ≡ Some went.0 = sym stands ∙ went.1 in cc)
    ]

module _ (command : Command) (r : ReplicaState) (off : r.running ≡ false) (none : r.leader.flights ≡ []) (stays : Stays (entered command r)) (stands : (entered command r).group.core.gone ≡ None) where
  abbrev Hinted : Place → Type 0
  Hinted place = place.0.hint ≡ cond (is_among (members (entered command r)) r.hint) r.hint (Some (least_of (members (entered command r))))

  entered_hint : (entered command r).hint ≡ r.hint
  unfolding entered forgotten
  entered_hint = refl

  one_hint : Hinted (executed_one false command (r, []))
  one_hint = looks command r off none Hinted (looked_hint (over command r off none) (place2 command r off none).1 (over_off command r off none) stays stands ∙ ap (λ h. cond (is_among (members (entered command r)) h) h (Some (least_of (members (entered command r))))) entered_hint)

  one_off : (executed_one false command (r, [])).0.running ≡ false
  one_off = looks command r off none (λ p. p.0.running ≡ false) (looked_same (λ p. p.0.running ≡ false) (over command r off none) (place2 command r off none).1 (over_off command r off none) stays (λ hint. over_off command r off none))

  executed_hint : Hinted (executed false command (r, [])).0
  unfolding executed
  executed_hint =
      let place : Place = executed_one false command (r, []) in
      let same : pumped (executed_ready place.0.ready place).0 ≡ place = ap (λ (step : Executed). pumped step.0) (idle_ready place.0.ready place one_off) ∙ idle_pump place one_off in
      subst Hinted (sym same) one_hint

-- ---- Install

install_hint : (from slot : ℕ) (base : Base) (sets : List (List ℕ)) (r : ReplicaState) → IsInTime (Installs slot) r → r.running ≡ false → slot ≤ last_slot → length sets ≡ length r.sets → is_member base.core.members from ≡ true
    → (install_row from slot base sets (r, [])).0.hint ≡ Some from
unfolding install_row took_over looked_up
install_hint from slot base sets r fit off low sized mine =
    subst (λ b. (cond {A = Place} b (r, []) (took_over from slot base sets (r, []))).0.hint ≡ Some from) (sym (not_refused slot sets r fit low sized))
    (subst (λ (p : Place). (looked_up from (jumped slot base sets p.0, p.1)).0.hint ≡ Some from) (sym (ap (λ b. cond {A = Place} b (stopped (Some from) (r, [])) (r, [])) off))
    (subst (λ b. (cond {A = Place} b (record (jumped slot base sets r) { hint = Some from }, []) (looked (jumped slot base sets r, []))).0.hint ≡ Some from) (sym (ap (λ m. is_member m from) (jumped_keeps slot base sets r).2 ∙ mine)) refl))

-- ---- the whole

-- A replica's table that does not run takes for the leader whom the mark of a mail says.
pub hints_follow : HintsFollow
unfolding mailed
hints_follow = record {
  accept = λ at by ballot slot command r fit goes low off. accept_hint ballot slot command r fit goes low off;
  prepare = λ at by ballot from_slot r fit goes low off. prepare_hint ballot from_slot r goes low off;
  learn = λ at by from slot command r fit off none low stays stands same.
      told_is (λ p. p.0.hint ≡ cond (is_among (members_at at (slot + 1)) r.hint) r.hint (Some (least_of (members_at at (slot + 1))))) from slot command r fit.1 low
      (subst (λ m. (executed false command (r, [])).0.0.hint ≡ cond (is_among m r.hint) r.hint (Some (least_of m))) (sym same) (executed_hint command r off none stays stands));
  install = λ at by slot base sets r fit off low sized mine. install_hint (by slot) slot base sets r fit off low sized mine;
  made = λ at by promise hint me group slot base sets mine. ap (λ (p : Place). p.0.hint) (made_is me (by slot) group slot base sets mine);
}

-- ---- who elects itself

kept_after : (command : Command) (r : ReplicaState) → ((entered command r).hint ≡ r.hint) × ((entered command r).me ≡ r.me) × ((entered command r).top ≡ r.top)
unfolding entered forgotten
kept_after command r = (refl, refl, refl)

-- A replica that learns an entry by which it is to lead next elects itself, if it has a later round, and by any other entry it does not.
pub heirs_elect : HeirsElect
heirs_elect at by now hints marks slot rest command r h fact told = elim (nodes_heed.told at by now hints marks r.me slot rest h told.other fact) [
  | inl m ↦ inl (inl (hinted ∙ m))
  | inr (inl least) ↦ inl (inr (inl (λ e. least (ap least_of told.members_are ∙ (e ∙ kept.1)))))
  | inr (inr last) ↦ by_gone last (entered command r).group.core.gone refl
]
  where
    kept : ((entered command r).hint ≡ r.hint) × ((entered command r).me ≡ r.me) × ((entered command r).top ≡ r.top)
    kept = kept_after command r

    hinted : is_among (members (entered command r)) (entered command r).hint ≡ is_among (members_at at (slot + 1)) (hints r.me)
    hinted = ap (λ m. is_among m (entered command r).hint) (sym told.members_are) ∙ ap (is_among (members_at at (slot + 1))) (kept.0 ∙ told.hint)

    by_gone : (now.course.running ≡ false) × (suc slot ≡ now.course.newest) → (o : Option Route) → (entered command r).group.core.gone ≡ o → Stays (entered command r) ⊎ IsHeir now slot command r
    by_gone last (Some into) e = inl (inr (inr (into, e)))
    by_gone last None e = elim (cases_eq (least_of (members (entered command r))) (entered command r).me) [
      | inr ne ↦ inl (inr (inl ne))
      | inl mine ↦ (let stands : now.course.gone ≡ false = sym (told.ends last.1) ∙ ap is_some e in
          let newest : now.course.newest ≡ slot + 1 = (let l = last.1 in omega (arith, l)) in
          inr (record {
            idle = last.0;
            stands = stands;
            last = last.1;
            may = λ round. record {
              stands = e;
              hint = hinted ∙ subst (λ n. is_among (members_at at n) (hints r.me) ≡ false) newest (nodes_heed.last at by now hints marks r.me slot rest h last.0 stands fact last.1);
              least = mine;
              round = (let same = ap (λ (b : Ballot). b.round) kept.2 in omega (arith, same, round));
            };
          }))
    ]

-- ---- a leader leaves last

-- A leader's row in the table is one of a leader that leaves last, where it counts the entries that it executes, and nobody comes by one by which it goes.
pub leaders_leave_last : LeadersLeaveLast
leaders_leave_last at by now taken r after was l counts alone = record {
  counts = counts;
  stayed = λ slot least most. ap (is_member (members_at at (slot + 1))) was.led.mine ∙ l.stayed slot (let fact = was.newest in omega (arith, least, fact)) most;
  alone = alone;
}
