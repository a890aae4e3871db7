-- What keeps a group following its leader, row by row.
use Rattle.std.proofs.Common.{◌≡◌, ℕ, true, true≢false, List, Option, Some, inl, inr, refl, sym, ◌∙◌, ap, subst}
use Rattle.std.proofs.lemmas.Bool.{cases_eq}
use Rattle.sc_node_table.specs.Values.{Ballot, Draw, Base, OrderLine, Seat, Event}
use Rattle.sc_base.specs.Definitions.{IsRoster}
use Rattle.sc_actor.specs.Definitions.{mails, row_of}
use Rattle.sc_live_orderly.specs.OrderlyDefinitions.{AreInTime}
use Rattle.sc_node_table.specs.NodeDefinitions.{ReplicaState, Place, next}
use Rattle.sc_meaning.specs.sound.SoundDefinitions.{Player, player_table}
use Rattle.sc_live_steps.specs.calm.CalmDefinitions.{players, Rows}
use Rattle.sc_live_steps.specs.following.FollowingDefinitions.{Course, Progress, Sets, IsLeadOf, IsRow, IsIdle, Takes, Elects, marks_for}
use Rattle.sc_live_steps.proofs.FollowingProofs.FollowingLemmas.{self_election-keeps, idle-keeps, takes-keeps, leads-keeps}
use Rattle.sc_live_journals.specs.rows.RowDefinitions.{view_at, next_in, promise_in, progress_at, marks_at, taken_mark, IsLedBy, IsCourseOf, IsFollowedAt, LeavesLead, RowsKeepFollowing, led_course, elected_course, LedBy, with_event, IsKind, IsReplicasRow}
use Rattle.sc_live_journals.proofs.RowsProofs.LeadersInGroups.{leads_too}
use Rattle.sc_live_journals.proofs.RowsProofs.RowMarks.{rows_are}
use Rattle.sc_live_journals.proofs.RowsProofs.ReplicaViews.{view_others}

pub same_some : {X : Type 0} (o : Option X) (one two : X) → o ≡ Some one → o ≡ Some two → one ≡ two
same_some o one two e f = (let both : Some one ≡ Some two = sym e ∙ f in cc)

module _ (at : Sets) (words : ℕ → ℕ → ℕ × ℕ) (births : List (Seat Player)) (rows : Rows) (seat : Seat Player) (event : Event OrderLine) (base : Base) where
  abbrev then_ : Rows
  then_ = with_event rows seat event

  abbrev name : Draw
  name = base.core.id

  pub others : (node : ℕ) → (node ≡ seat.who → ⊥) → view_at births then_ name node ≡ view_at births rows name node
  others node ne = view_others births rows (row_of player_table seat rows event) name node ne

  -- ---- the course

  module _ (course : Course) (was : IsCourseOf at births rows base course) where
    -- one that leads is at the node of the ballot
    lead_me : (node : ℕ) (r : ReplicaState) → IsLeadOf at (progress_at births rows base course) r → node ≡ course.ballot.node → node ≡ r.me
    lead_me node r l fact = fact ∙ l.led.mine

    pub stays_led : (node : ℕ) (r : ReplicaState) → view_at births rows name node ≡ Some r → view_at births then_ name node ≡ Some r → r.running ≡ true → IsLeadOf at (progress_at births then_ base course) r × (node ≡ course.ballot.node)
    stays_led node r before after runs =
        let old = was.gives node r before runs in
        let me = lead_me node r old.0 old.1 in (
          leads_too at (progress_at births rows base course) (progress_at births then_ base course) r refl
              (subst (λ n. (progress_at births then_ base course).next n ≡ next r) me (ap (next_in base node) after)) (subst (λ n. (progress_at births then_ base course).promise n ≡ r.acceptor.promised) me (ap (promise_in base) after)) old.0,
          old.1,
        )

    -- it is the same after a row that leaves the one that leads
    pub course_stays : LeavesLead at births rows seat event base course → IsCourseOf at births then_ base course
    course_stays leaves = record {
      gives = λ node r e runs. elim (cases_eq node seat.who) [
        | inl fact ↦ (let own = leaves.own r (subst (λ n. view_at births then_ name n ≡ Some r) fact e) runs in (own.0, fact ∙ own.1))
        | inr ne ↦ stays_led node r (sym (others node ne) ∙ e) e runs
      ];
      runs = λ c. elim (cases_eq course.ballot.node seat.who) [
        | inl fact ↦ subst (λ n. IsLedBy base course (view_at births then_ name n)) (sym fact) (leaves.runs c (sym fact))
        | inr ne ↦ subst (IsLedBy base course) (sym (others course.ballot.node ne)) (was.runs c)
      ];
    }

    -- the course after a row of the leader
    pub course_led : (r : ReplicaState) (after : Place) → IsReplicasRow births rows seat event name (Some r) after → (led : LedBy at births rows seat event base course after) → IsCourseOf at births then_ base (led_course led.bound course after.0)
    course_led r after row led = record {
      gives = λ node other e runs. elim (cases_eq node seat.who) [
        | inl fact ↦ (let same : after.0 ≡ other = same_some (view_at births then_ name seat.who) after.0 other row.fact (subst (λ n. view_at births then_ name n ≡ Some other) fact e) in
            (subst (IsLeadOf at (progress_at births then_ base (led_course led.bound course after.0))) same (led.goes_on (ap (λ (x : ReplicaState). x.running) same ∙ runs)), fact ∙ led.leads.mine))
        | inr ne ↦ absurd (ne ((was.gives node other (sym (others node ne) ∙ e) runs).1 ∙ sym led.leads.mine))
      ];
      runs = λ c. subst (λ n. IsLedBy base (led_course led.bound course after.0) (view_at births then_ name n)) led.leads.mine (subst (IsLedBy base (led_course led.bound course after.0)) (sym row.fact) c);
    }

    -- the course after a row in which a node elects itself
    pub course_elected : (ballot : Ballot) (r : ReplicaState) (after : Place) → IsReplicasRow births rows seat event name (Some r) after → IsKind (Elects at) births rows seat event base course (elected_course course ballot) → after.0.running ≡ true
        → IsLeadOf at (progress_at births then_ base (elected_course course ballot)) after.0 → IsCourseOf at births then_ base (elected_course course ballot)
    course_elected ballot r after row self_election running lead = record {
      gives = λ node other e runs. elim (cases_eq node seat.who) [
        | inl fact ↦ (let same : after.0 ≡ other = same_some (view_at births then_ name seat.who) after.0 other row.fact (subst (λ n. view_at births then_ name n ≡ Some other) fact e) in
            (subst (IsLeadOf at (progress_at births then_ base (elected_course course ballot))) same lead, fact ∙ sym self_election.mine))
        | inr ne ↦ absurd (true≢false (sym (was.gives node other (sym (others node ne) ∙ e) runs).0.runs ∙ self_election.idle))
      ];
      runs = λ c. subst (λ n. IsLedBy base (elected_course course ballot) (view_at births then_ name n)) (sym self_election.mine) (subst (IsLedBy base (elected_course course ballot)) (sym row.fact) running);
    }

  -- ---- the rows

  module _ (rosters : (slot : ℕ) → IsRoster (at slot)) (timely : AreInTime (players words births) (with_event rows seat event)) (course : Course) (was : IsFollowedAt at words births rows base course) where
    abbrev now : Progress
    now = progress_at births rows base course

    row_in : (after : Course) → IsRow now (progress_at births then_ base after) seat.who (taken_mark name (mails rows) event) (λ who. marks_for name who (row_of player_table seat rows event).sent) (marks_at (players words births) rows name) (marks_at (players words births) then_ name)
    row_in after = rows_are words births rows (row_of player_table seat rows event) base course after timely

    pub keeps_idle : LeavesLead at births rows seat event base course → IsKind IsIdle births rows seat event base course course → IsFollowedAt at words births then_ base course
    keeps_idle leaves idle = record {
      follows = idle-keeps now (progress_at births then_ base course) seat.who (taken_mark name (mails rows) event) (λ who. marks_for name who (row_of player_table seat rows event).sent) (marks_at (players words births) rows name)
          (marks_at (players words births) then_ name) (row_in course) idle at was.follows;
      given = course_stays course was.given leaves;
    }

    pub keeps_taking : LeavesLead at births rows seat event base course → IsKind (Takes at) births rows seat event base course course → IsFollowedAt at words births then_ base course
    keeps_taking leaves takes = record {
      follows = takes-keeps at now (progress_at births then_ base course) seat.who (taken_mark name (mails rows) event) (λ who. marks_for name who (row_of player_table seat rows event).sent) (marks_at (players words births) rows name)
          (marks_at (players words births) then_ name) (row_in course) takes was.follows;
      given = course_stays course was.given leaves;
    }

    pub keeps_leading : (r : ReplicaState) (after : Place) → IsReplicasRow births rows seat event name (Some r) after → (led : LedBy at births rows seat event base course after) → IsFollowedAt at words births then_ base (led_course led.bound course after.0)
    keeps_leading r after row led = record {
      follows = leads-keeps at now (progress_at births then_ base (led_course led.bound course after.0)) seat.who (taken_mark name (mails rows) event) (λ who. marks_for name who (row_of player_table seat rows event).sent)
          (marks_at (players words births) rows name) (marks_at (players words births) then_ name) rosters (row_in (led_course led.bound course after.0)) led.leads was.follows;
      given = course_led course was.given r after row led;
    }

    pub keeps_electing : (ballot : Ballot) (r : ReplicaState) (after : Place) → IsReplicasRow births rows seat event name (Some r) after → IsKind (Elects at) births rows seat event base course (elected_course course ballot) → after.0.running ≡ true
        → IsLeadOf at (progress_at births then_ base (elected_course course ballot)) after.0 → IsFollowedAt at words births then_ base (elected_course course ballot)
    keeps_electing ballot r after row self_election running lead = record {
      follows = self_election-keeps at now (progress_at births then_ base (elected_course course ballot)) seat.who (taken_mark name (mails rows) event) (λ who. marks_for name who (row_of player_table seat rows event).sent)
          (marks_at (players words births) rows name) (marks_at (players words births) then_ name) rosters (row_in (elected_course course ballot)) self_election was.follows;
      given = course_elected course was.given ballot r after row self_election running lead;
    }

-- A group that follows its leader after some rows does so after one more that comes in time: one that does nothing in the group, of a node that takes a mail, of the leader, or of one that elects itself.
pub rows_keep : RowsKeepFollowing
rows_keep = record {
  idle = λ at words births rows seat event base course rosters timely was leaves idle. keeps_idle at words births rows seat event base rosters timely course was leaves idle;
  takes = λ at words births rows seat event base course rosters timely was leaves takes. keeps_taking at words births rows seat event base rosters timely course was leaves takes;
  leads = λ at words births rows seat event base course r after rosters timely was row led. keeps_leading at words births rows seat event base rosters timely course was r after row led;
  self_election = λ at words births rows seat event base course ballot r after rosters timely was row self_election running lead. keeps_electing at words births rows seat event base rosters timely course was ballot r after row self_election running lead;
}
