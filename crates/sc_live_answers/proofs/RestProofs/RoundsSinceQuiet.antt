-- The rounds of a group since a quiet prefix: the ballot that it had there, and what its replicas saw.
use Rattle.std.proofs.Common.{◌≡◌, ℕ, ◌+◌, ◌≤◌, true, false, List, [], ◌∷◌, Option, Some, None, inl, inr, refl, sym, ◌∙◌, ap, subst, arith}
use Rattle.std.proofs.lemmas.Bool.{cases_Bool}
use Rattle.sc_base.specs.Definitions.{Among, least_of}
use Rattle.sc_node_table.specs.Values.{Ballot, Base, Deliver}
use Rattle.sc_actor.specs.declared.rows.Event.TheVariants.{Told}
use Rattle.sc_scenario.specs.declared.scenario.scenarios.Scenario.{Scenario}
use Rattle.sc_node_table.specs.NodeDefinitions.{ReplicaState}
use Rattle.sc_meaning.specs.sound.SoundDefinitions.{births, as_nodes}
use Rattle.sc_live_steps.specs.calm.CalmDefinitions.{players, Rows}
use Rattle.sc_live_steps.specs.following.FollowingDefinitions.{pledged, Course, Sets, members_at, IsOpen, SlotLeaders}
use Rattle.sc_live_steps.proofs.FollowingProofs.FollowingLemmas.{least_in}
use Rattle.sc_live_steps.specs.orders.OrderDefinitions.{Work, Deal, Stage, Still, Asks}
use Rattle.sc_live_journals.specs.rows.RowDefinitions.{view_at, marks_at, promise_in}
use Rattle.sc_live_journals.specs.groups.GroupDefinitions.{Ends, ScenariosAreWellBorn}
use Rattle.sc_live_journals.proofs.GroupsProofs.GroupLemmas.{replicas_kept, scenarios_kept_born}
use Rattle.sc_live_journals.specs.mail.MailDefinitions.{JournalsKeepIdle}
use Rattle.sc_live_journals.specs.scenes.SceneDefinitions.{IsThere, IsFresh, AreUntouched}
use Rattle.sc_live_journals.proofs.ScenesProofs.SceneLemmas.{asked_fresh}
use Rattle.sc_live_answers.specs.AnswerDefinitions.{IsSentThrough, top_in, HasMembers, StaysGone, OrdersKeepRounds, RequestsKeepBallots, SameViewsKeepBallot, RoundsAreSeen}
use Rattle.sc_live_answers.proofs.QuietProofs.EvenReplicas.{leader, has_one, even, over_then}
use Rattle.sc_live_answers.proofs.BallotsProofs.JournalHints.{calm_of}
use Rattle.sc_live_answers.proofs.BallotsProofs.HintedMarks.{round_most, member_open}
use Rattle.sc_live_answers.proofs.BallotsProofs.RoundBounds.{works_lead, gone_then, on_then, told_then, round_then}

-- the one that leads is the same, and has its ballot
pub same_keep : SameViewsKeepBallot
same_keep words at over by scenario quiet rows base t u born there same runs =
    let lead = leader words at over by (births as_nodes scenario) quiet base t (born there) runs in
    let was = (t.led.followed.given.gives t.course.ballot.node lead.0 lead.1 lead.2).0 in
    let fact = (u.led.followed.given.gives t.course.ballot.node lead.0 (same t.course.ballot.node ∙ lead.1) lead.2).0 in
    (sym fact.led.may.ballot ∙ was.led.may.ballot, fact.runs)

-- ---- in quiet

module _ (words : ℕ → ℕ → ℕ × ℕ) (at : Sets) (over : Ends) (by : SlotLeaders) (scenario : Scenario) (quiet : Rows) (base : Base) (q : IsSentThrough at over by words (births as_nodes scenario) quiet base) (none : (who : ℕ) → marks_at (players words (births as_nodes scenario)) quiet base.core.id who ≡ []) where
  -- where none leads, the group is gone
  quiet_gone : q.course.running ≡ false → StaysGone q.course.ballot q.course
  quiet_gone off = record { ballot = refl; off = off; gone = over_then words at over by (births as_nodes scenario) quiet base q none off }

  module _ (born : HasMembers (births as_nodes scenario) quiet base) (most : ℕ) (some : 1 ≤ most) (low : (node : ℕ) (r : ReplicaState) → view_at (births as_nodes scenario) quiet base.core.id node ≡ Some r → r.top.round ≤ most) where
    abbrev least : ℕ
    least = least_of (members_at at q.course.newest)

    there_round : IsThere (births as_nodes scenario) quiet base.core.id → q.course.ballot.round ≤ most
    there_round there =
        let all_ = births as_nodes scenario in
        let course = q.course in
        let member = least_in (members_at at course.newest) (q.one.log.rosters (course.newest + 3)).some in
        let next = (even words at over by all_ quiet base q none).0.members least member in
        let some_ = q.led.followed.follows.some in
        let one = has_one words at over by all_ quiet base q (born there) least (omega (arith, next, some_)) in
        let opened : IsOpen at course.newest least = member_open at least course.newest course.newest (omega arith) (omega arith) member in
        let promise : pledged (promise_in base (view_at all_ quiet base.core.id least)) [] ≡ course.ballot = ap (pledged (promise_in base (view_at all_ quiet base.core.id least))) (sym (none least)) ∙ (q.led.followed.follows.ready least opened).promised in
        let here : one.0.acceptor.promised ≡ course.ballot = sym (ap (promise_in base) one.1) ∙ promise in
        let kept = (replicas_kept all_ quiet base.core.id least one.0 (scenarios_kept_born scenario) one.1).0 in
        let up = round_most one.0.top one.0.acceptor.promised kept.1 in
        let same = ap (λ (b : Ballot). b.round) here in
        let end = low least one.0 one.1 in
        omega (arith, up, same, end)

    quiet_round : q.course.ballot.round ≤ most
    quiet_round = by_view (view_at (births as_nodes scenario) quiet base.core.id base.core.first) refl
      where
        by_view : (o : Option ReplicaState) → view_at (births as_nodes scenario) quiet base.core.id base.core.first ≡ o → q.course.ballot.round ≤ most
        by_view (Some r) e = there_round (base.core.first, r, e)
        by_view None e = (let first : q.course.ballot.round ≡ 1 = ap (λ (c : Course). c.ballot.round) (q.led.young e) in omega (arith, first, some))

-- No replica saw a later round than its group's ballot has, and each saw the first; and in quiet a group's ballot has no later round than its replicas saw.
pub rounds_seen : RoundsAreSeen
rounds_seen = record {
  most = λ at over by words births rows base t node r view. round_most t.course.ballot r.top (t.asked.seen node r view);
  least = λ at by words births rows base course rising node r view. (let first = round_most (top_in base (view_at births rows base.core.id node)) _ (rising.home.first node) in let top = ap (λ o. (top_in base o).round) view in omega (arith, first, top));
  quiet = λ words at over by scenario quiet base q none born most some low. quiet_round words at over by scenario quiet base q none born most some low;
}

-- ---- while an order is under way

pub orders_keep : JournalsKeepIdle → ScenariosAreWellBorn → OrdersKeepRounds
orders_keep idle wb = record {
  told = λ words at over by scenario quiet seat line base stage timely born q s none.
      let calm = calm_of words scenario quiet seat (Told line) timely in
      let same = told_then words at over by scenario quiet seat (Told line) base idle (wb scenario) timely born calm q s tt in (
        λ runs. record { one = inl same; leads = λ m. same },
        λ off. gone_then words at over by scenario quiet seat (Told line) base idle (wb scenario) timely born calm q s q.course.ballot (quiet_gone words at over by scenario quiet base q none off),
      );
  delivered = λ words at over by scenario quiet rows seat number base stage later timely born q t s members untouched goes was.
      let calm = calm_of words scenario rows seat (Deliver number) timely in (
        λ runs. round_then words at over by scenario rows seat (Deliver number) base idle (wb scenario) timely born calm t s stage untouched.stands q.course.ballot later goes (λ none. absurd none)
            (λ deal to fact named. asked_same words at over by scenario quiet rows base q t members stage untouched deal to fact named runs) (was.0 runs),
        λ off. gone_then words at over by scenario rows seat (Deliver number) base idle (wb scenario) timely born calm t s q.course.ballot (was.1 off),
      );
  few = λ quiet stage name course since. elim (cases_Bool quiet.running) [
    | inl runs ↦ elim ((since.0 runs).one) [ inl same ↦ (let e = ap (λ (b : Ballot). b.round) same in omega (arith, e)) | inr low ↦ low.0 ]
    | inr off ↦ (let e = ap (λ (b : Ballot). b.round) (since.1 off).ballot in omega (arith, e))
  ];
}
  where
    asked_same : (words : ℕ → ℕ → ℕ × ℕ) (at : Sets) (over : Ends) (by : SlotLeaders) (scenario : Scenario) (quiet rows : Rows) (base : Base) (q : IsSentThrough at over by words (births as_nodes scenario) quiet base) (t : IsSentThrough at over by words (births as_nodes scenario) rows base)
        → HasMembers (births as_nodes scenario) quiet base → (stage : Stage) → AreUntouched words (births as_nodes scenario) quiet rows stage → (deal : Deal) (to : ℕ) → stage ≡ Asks deal to → deal.asked ≡ base.core.id → q.course.running ≡ true
        → (t.course.ballot ≡ q.course.ballot) × (t.course.running ≡ true)
    asked_same words at over by scenario quiet rows base q t members stage untouched deal to fact named runs =
        let here : AreUntouched words (births as_nodes scenario) quiet rows (Asks deal to) = subst (AreUntouched words (births as_nodes scenario) quiet rows) fact untouched in
        let fresh : IsFresh (Asks deal to) base.core.id = subst (IsFresh (Asks deal to)) named (asked_fresh _ deal to here.stands) in
        let there : IsThere (births as_nodes scenario) quiet base.core.id = subst (IsThere (births as_nodes scenario) quiet) named here.parties.1.0 in
        same_keep words at over by scenario quiet rows base q t members there (here.views base.core.id fresh there) runs

-- ---- while clients ask

works_none : (works : List Work) → ((work : Work) → Among work works → ⊥) → works ≡ []
works_none [] none = refl
works_none (work ∷ works) none = absurd (none work (inl refl))

pub requests_keep : JournalsKeepIdle → ScenariosAreWellBorn → RequestsKeepBallots
requests_keep idle wb = record {
  begins = λ words at over by scenario quiet base q none. (λ runs. (refl, runs), λ off. quiet_gone words at over by scenario quiet base q none off);
  goes_on = λ words at over by scenario rows seat event base quiet timely born t s none was.
      let calm = calm_of words scenario rows seat event timely in (
        λ runs. (let w = was.0 runs in let on = on_then words at over by scenario rows seat event base idle (wb scenario) timely born calm t s none w.1 in (on.0 ∙ w.0, on.1)),
        λ off. gone_then words at over by scenario rows seat event base idle (wb scenario) timely born calm t s quiet.ballot (was.1 off),
      );
  still = λ words at over by scenario rows base t still seat born r view runs. works_none _ (λ work among. (works_lead words at over by scenario rows base t Still still seat born r view runs work among).1);
}
