-- An event that does nothing in a group leaves it well led, also where a replica is created; and so does all mail of agreement.
use Rattle.std.proofs.Common.{◌≡◌, ℕ, ◌+◌, ◌<◌, true, List, None, Some, inl, inr, refl, sym, ◌∙◌, ap, subst, arith}
use Rattle.std.proofs.lemmas.Bool.{eqb-true}
use Rattle.sc_node_table.specs.Values.{Base, OrderLine, Seat, Event}
use Rattle.sc_base.specs.Definitions.{IsRoster, is_member}
use Rattle.sc_live_orderly.specs.OrderlyDefinitions.{AreInTime}
use Rattle.sc_node_table.specs.NodeDefinitions.{ReplicaState, born_replica, slots_ahead}
use Rattle.sc_meaning.specs.sound.SoundDefinitions.{Player}
use Rattle.sc_live_steps.specs.calm.CalmDefinitions.{players, Rows}
use Rattle.sc_live_steps.specs.following.FollowingDefinitions.{Course, Sets, SlotLeaders, IsOrderly}
use Rattle.sc_live_steps.proofs.FollowingProofs.FollowingLemmas.{leaders_begin}
use Rattle.sc_live_journals.specs.rows.RowDefinitions.{view_at, begun_course, IsLedBy, with_event, IsIdleIn, IsBornOr}
use Rattle.sc_live_journals.proofs.RowsProofs.RowLemmas.{same_some, leads_stay}
use Rattle.sc_live_journals.specs.groups.GroupDefinitions.{RowPasses, IsLedStep, Ends, hint_in, IsWellLed, IsLogOf, MailsKeepLed, OthersKeepLed, IsStage}
use Rattle.sc_live_journals.proofs.GroupsProofs.LearningReplicas.{learns}
use Rattle.sc_live_journals.proofs.GroupsProofs.NodeMail.{accepts, prepares, installs, passes_vote, passes_promise, stays_aside, makes, stays_ordered}
use Rattle.sc_live_journals.proofs.GroupsProofs.Rows.{rows_keep_led}

module _ (at : Sets) (over : Ends) (by : SlotLeaders) (words : ℕ → ℕ → ℕ × ℕ) (births : List (Seat Player)) (rows : Rows) (seat : Seat Player) (event : Event OrderLine) (base : Base) (course : Course) (log : IsLogOf at by)
    (timely : AreInTime (players words births) (with_event rows seat event)) (was : IsWellLed at over by words births rows base course) where
  abbrev stage : IsStage at over by words births rows seat event base course
  stage = record { rosters = log.rosters; timely = timely; was = was }

  by_same : view_at births (with_event rows seat event) base.core.id seat.who ≡ view_at births rows base.core.id seat.who → IsIdleIn births rows seat event base → IsLedStep at over by words births rows seat event base course
  by_same same idle = record {
    later = course;
    led = rows_keep_led.idle at over by words births rows seat event base course stage
        (record { lead = leads_stay.same at words births rows seat event base course was.followed same; orderly = λ r e runs. was.orderly seat.who r (sym same ∙ e) runs; there = λ none. sym same ∙ none }) (idle course) (ap (hint_in base) same);
    row = RowPasses refl (record { idle = idle; view = inl same });
  }

  module _ (same : (slot : ℕ) → slot < 1 + slots_ahead → at slot ≡ base.core.members) (first : is_member base.core.members base.core.first ≡ true) (stands : base.core.gone ≡ None) where
    by_born : IsBornOr base seat.who (view_at births (with_event rows seat event) base.core.id seat.who) (view_at births rows base.core.id seat.who) → IsIdleIn births rows seat event base → IsLedStep at over by words births rows seat event base course
    by_born (inl stays) idle = by_same stays idle
    by_born (inr makes_) idle =
        let roster : IsRoster base.core.members = subst IsRoster (same 0 (omega arith)) (log.rosters 0) in
        record {
          later = course;
          led = rows_keep_led.idle at over by words births rows seat event base course stage
              (record {
                lead = leads_stay.born at births rows seat event base course same roster first stands (λ who. was.young (ap (view_at births rows base.core.id) (sym who) ∙ makes_.0))
                    (λ runs mine.
                    (let begins : course ≡ begun_course base = subst (IsLedBy base course) makes_.0 (subst (λ n. IsLedBy base course (view_at births rows base.core.id n)) (sym mine) (was.followed.given.runs runs)) in
                    mine ∙ ap (λ (c : Course). c.ballot.node) begins))
                    makes_.1;
                orderly = λ r e runs.
                    (let own : born_replica slots_ahead seat.who base ≡ r = same_some (view_at births (with_event rows seat event) base.core.id seat.who) (born_replica slots_ahead seat.who base) r makes_.1 e in
                    let who : base.core.first ≡ seat.who = eqb-true base.core.first seat.who (ap (λ (x : ReplicaState). x.running) own ∙ runs) in
                    subst IsOrderly own (leaders_begin at seat.who base same who (subst (λ n. is_member base.core.members n ≡ true) who first) stands roster).1);
                there = λ none. (let bad : Some (born_replica slots_ahead seat.who base) ≡ None = sym makes_.1 ∙ none in cc);
              })
              (idle course) (ap (hint_in base) makes_.1 ∙ sym (ap (hint_in base) makes_.0));
          row = RowPasses refl (record { idle = idle; view = inr makes_ });
        }

-- A row that does nothing in a group leaves it well led, also where a node makes its replica at the group's birth.
pub others_keep_led : OthersKeepLed
others_keep_led = record {
  alone = λ at over by words births rows seat event base course log timely was leaves. by_same at over by words births rows seat event base course log timely was leaves.view leaves.idle;
  creation = λ at over by words births rows seat event base course log timely was same first stands leaves. by_born at over by words births rows seat event base course log timely was same first stands leaves.view leaves.idle;
}

-- A mail of agreement that comes to a node of its group leaves the group well led: what asks to accept or to promise, an entry that is the log's, by which the one elects itself that is to lead next, and nobody else, a state that is the log's, and whatever else comes to one that does not lead.
pub mails_keep_led : MailsKeepLed
mails_keep_led = record {
  accept = λ at over by words births rows seat number mail node base course r ballot slot command s takes has from body. accepts at over by words births rows seat node base course s number mail takes r has ballot slot command from body;
  prepare = λ at over by words births rows seat number mail node base course r ballot from_slot s takes has from body. prepares at over by words births rows seat node base course s number mail takes r has ballot from_slot from body;
  learn = λ at over by words births rows seat number mail node base course r slot command s takes has body low logs rounds. learns at over by words births rows seat node base course s number mail takes r has slot command body low logs rounds;
  install = λ at over by words births rows seat number mail node base course r slot state sets s takes has body logs. installs at over by words births rows seat node base course s number mail takes r has slot state sets body logs;
  made = λ at over by words births rows seat number mail node base course slot state sets s takes me none body logs. makes at over by words births rows seat node base course s number mail takes slot state sets me none body logs;
  vote = λ at over by words births rows seat number mail node base course r ballot slot s takes has body off. passes_vote at over by words births rows seat node base course s number mail takes r has ballot slot body off;
  promise = λ at over by words births rows seat number mail node base course r ballot reports s takes has body off. passes_promise at over by words births rows seat node base course s number mail takes r has ballot reports body off;
  aside = λ at over by words births rows seat number mail node base course r s takes has group aside off. stays_aside at over by words births rows seat node base course s number mail takes r has group aside off;
  order = λ at over by words births rows seat line node base course r s timely has group off. stays_ordered at over by words births rows seat node base course s line r timely has group off;
}
