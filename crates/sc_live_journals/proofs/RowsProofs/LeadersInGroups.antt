-- A leader's row in its table is one in its group.
use Rattle.std.proofs.Common.{◌≡◌, ℕ, eqb, List, Some, inl, inr, refl, sym, ◌∙◌, ap, subst}
use Rattle.std.proofs.lemmas.Bool.{cond-true, eq-eqb}
use Rattle.sc_base.specs.Definitions.{Among}
use Rattle.sc_node_table.specs.Values.{Base, OrderLine, Seat, Event}
use Rattle.sc_actor.specs.Definitions.{mails, row_of}
use Rattle.sc_node_table.specs.NodeDefinitions.{ReplicaState, Place, name_of, next}
use Rattle.sc_meaning.specs.sound.SoundDefinitions.{Player, player_table}
use Rattle.sc_live_steps.specs.calm.CalmDefinitions.{Rows}
use Rattle.sc_live_steps.specs.following.FollowingDefinitions.{IsLed, Mark, Asks, Course, Progress, Sets, IsLeadOf, progress_by, LeadsInto, IsOffered, Leads, marks_for}
use Rattle.sc_live_journals.specs.rows.RowDefinitions.{next_in, promise_in, progress_at, taken_mark, led_course, LedBy, StepsLead, with_event, IsReplicasRow}

-- one leads where it does so in another progress with the same course, in which it is and has promised the same
pub leads_too : (at : Sets) (one two : Progress) (r : ReplicaState) → one.course ≡ two.course → two.next r.me ≡ next r → two.promise r.me ≡ r.acceptor.promised → IsLeadOf at one r → IsLeadOf at two r
leads_too at one two r same here promised l = record {
  led = subst (λ (c : Course). IsLed at c r) same l.led;
  newest = sym (ap (λ (c : Course). c.newest) same) ∙ l.newest;
  runs = sym (ap (λ (c : Course). c.running) same) ∙ l.runs;
  stands = sym (ap (λ (c : Course). c.gone) same) ∙ l.stands;
  executed = here;
  promise = promised;
  voters = λ slot. sym (ap (λ (c : Course). c.voters slot) same) ∙ l.voters slot;
  polled = l.polled;
  counted = λ node. sym (ap (λ (c : Course). c.counted node) same) ∙ l.counted node;
}

module _ (at : Sets) (births : List (Seat Player)) (rows : Rows) (seat : Seat Player) (event : Event OrderLine) (base : Base) (course : Course) (r : ReplicaState) (after : Place)
    (row : IsReplicasRow births rows seat event base.core.id (Some r) after) (named : name_of r ≡ base.core.id) (me : r.me ≡ seat.who)
    (into : LeadsInto at (progress_at births rows base course) (taken_mark base.core.id (mails rows) event) r after) where
  abbrev now : Progress
  now = progress_at births rows base course

  -- the progress after it, by the replica alone and by all rows
  abbrev one : Progress
  one = progress_by into.bound now after.0

  abbrev two : Progress
  two = progress_at births (with_event rows seat event) base (led_course into.bound course after.0)

  abbrev own_sent : ℕ → List Mark
  own_sent who = marks_for (name_of r) who after.1

  abbrev all_sent : ℕ → List Mark
  all_sent who = marks_for base.core.id who (row_of player_table seat rows event).sent

  sent_same : (who : ℕ) → all_sent who ≡ own_sent who
  sent_same who = row.sends who ∙ ap (λ n. marks_for n who after.1) (sym named)

  mine : seat.who ≡ after.0.me
  mine = sym me ∙ sym into.me

  here : two.next seat.who ≡ one.next seat.who
  here = ap (next_in base seat.who) row.fact ∙ sym (cond-true (eqb seat.who after.0.me) (next after.0) (now.next seat.who) (eq-eqb seat.who after.0.me mine))

  promised : two.promise seat.who ≡ one.promise seat.who
  promised = ap (promise_in base) row.fact ∙ sym (cond-true (eqb seat.who after.0.me) after.0.acceptor.promised (now.promise seat.who) (eq-eqb seat.who after.0.me mine))

  offered_too : (slot : ℕ) (voters : List ℕ) → IsOffered at course own_sent slot voters → IsOffered at course all_sent slot voters
  offered_too slot voters o = record { from = o.from; none = o.none; asks = λ who m. subst (Among (Asks course.ballot slot)) (sym (sent_same who)) (o.asks who m) }

  leads : Leads at now two seat.who (taken_mark base.core.id (mails rows) event) all_sent
  leads =
      let l : Leads at now one seat.who (taken_mark base.core.id (mails rows) event) own_sent = subst (λ n. Leads at now one n (taken_mark base.core.id (mails rows) event) own_sent) me into.leads in
      record {
        runs = l.runs;
        mine = l.mine;
        takes = l.takes;
        executed = l.executed;
        newest = l.newest;
        next = here ∙ l.next;
        promise = promised ∙ l.promise;
        ballot = l.ballot;
        first = l.first;
        within = l.within;
        bound = l.bound;
        high = l.high;
        stays = l.stays;
        leaves = l.leaves;
        stops = l.stops;
        offers = l.offers;
        sends = λ who. sent_same who ∙ l.sends who;
        asks = l.asks;
        unvoted = l.unvoted;
        flying = l.flying;
        kept = l.kept;
        grown = λ slot voters e. elim (l.grown slot voters e) [ inl o ↦ inl (offered_too slot voters o) | inr c ↦ inr c ];
        counted = l.counted;
        counts = l.counts;
      }

  pub led : LedBy at births rows seat event base course after
  led = record {
    bound = into.bound;
    leads = leads;
    goes_on = λ runs. leads_too at one two after.0 refl (at_own (λ n. two.next n ≡ next after.0) (ap (next_in base seat.who) row.fact)) (at_own (λ n. two.promise n ≡ after.0.acceptor.promised) (ap (promise_in base) row.fact)) (into.goes_on runs);
  }
    where
      at_own : (P : ℕ → Type 0) → P seat.who → P after.0.me
      at_own P p = subst P mine p

-- A leader's row in its table is one in its group, whatever it takes; and where it leads on, it leads in the group's course after it.
pub steps_lead : StepsLead
steps_lead at births rows seat event base course r after row named me into = led at births rows seat event base course r after row named me into
