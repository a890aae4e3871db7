-- The replica that leads is left as it is by rows of others, and by its own where it only accepts or promises.
use Rattle.std.proofs.Common.{◌≡◌, ℕ, ◌+◌, ◌<◌, ◌&&◌, nat_le, Bool, true, false, true≢false, cond, List, [], Option, Some, None, refl, sym, ◌∙◌, ap, subst}
use Rattle.std.proofs.lemmas.Bool.{eqb-true, eq-eqb}
use Rattle.sc_node_table.specs.Values.{Ballot, Draw, Command, Base, OrderLine, Prepare, Accept, Seat, Event, AcceptAnswer, PrepareAnswer, Report}
use Rattle.sc_base.specs.Definitions.{IsRoster, is_member}
use Rattle.sc_words.specs.declared.paxos.answers.AcceptAnswer.TheVariants as Asked
use Rattle.sc_words.specs.declared.paxos.answers.PrepareAnswer.TheVariants as Prepared
use Rattle.sc_words.specs.paxos.PaxosDefinitions.{accepted as accepted_by, AcceptorState, below, prepared}
use Rattle.sc_node_table.specs.NodeDefinitions.{saw, stopped, install_to, ReplicaState, Place, name_of, next, first_ballot, born_replica, mailed, slots_ahead, hinted, promise_to, promised, prepare_row, accepted_to, took, accept_row}
use Rattle.sc_law_walks.specs.WalkDefinitions.{GoesOn}
use Rattle.sc_law_walks.proofs.WalkLemmas.{either_way}
use Rattle.sc_meaning.specs.sound.SoundDefinitions.{Player}
use Rattle.sc_live_steps.specs.calm.CalmDefinitions.{Rows}
use Rattle.sc_live_steps.specs.following.FollowingDefinitions.{IsLed, Course, Progress, Sets, IsLeadOf}
use Rattle.sc_live_journals.specs.rows.RowDefinitions.{view_at, next_in, promise_in, progress_at, begun_course, IsLedBy, IsFollowedAt, LeavesLead, LeadsStay, with_event, IsReplicasRow}
use Rattle.sc_live_journals.proofs.RowsProofs.ScenarioGroups.{born_leads}
use Rattle.sc_live_journals.proofs.RowsProofs.FollowingRows.{same_some, stays_led}

-- ---- one that accepts or promises

-- a replica with another acceptor, another hint, and another ballot seen
record IsLike (r other : ReplicaState) : Type 0 where
  acceptor : AcceptorState Command
  hint : Option ℕ
  top : Ballot
  fact : other ≡ record r { acceptor = acceptor; hint = hint; top = top }

module _ (r : ReplicaState) where
  abbrev Like : Place → Type 0
  Like place = IsLike r place.0

  -- what holds whichever ballot is the greatest that it saw
  saw_like : (P : Place → Type 0) (ballot : Ballot) → GoesOn ballot r → ((top : Ballot) → P (record r { top = top }, [])) → P (saw ballot (r, []))
  unfolding saw
  saw_like P ballot goes p = by (below r.top ballot)
    where
      by : (b : Bool) → P (cond {A = Place} (r.running && below r.leader.ballot ballot) (stopped (Some ballot.node) (cond b (record r { top = ballot }) r, [])) (cond b (record r { top = ballot }) r, []))
      by true = subst (λ c. P (cond {A = Place} c (stopped (Some ballot.node) (record r { top = ballot }, [])) (record r { top = ballot }, []))) (sym goes) (p ballot)
      by false = subst (λ c. P (cond {A = Place} c (stopped (Some ballot.node) (r, [])) (r, []))) (sym goes) (p r.top)

  hinted_like : (ballot top : Ballot) (acceptor : AcceptorState Command) → IsLike r (hinted ballot (record r { acceptor = acceptor; top = top }))
  hinted_like ballot top acceptor = by r.running
    where
      by : (b : Bool) → IsLike r (cond b (record r { acceptor = acceptor; top = top }) (record r { acceptor = acceptor; top = top; hint = Some ballot.node }))
      by true = record { acceptor = acceptor; hint = r.hint; top = top; fact = refl }
      by false = record { acceptor = acceptor; hint = Some ballot.node; top = top; fact = refl }

  sent_like : (from : ℕ) (top : Ballot) → Like (install_to from (record r { top = top }, []))
  unfolding install_to
  sent_like from top = record { acceptor = r.acceptor; hint = r.hint; top = top; fact = refl }

  accepted_like : (from : ℕ) (ballot : Ballot) (slot : ℕ) (top : Ballot) (p : AcceptAnswer × AcceptorState Command) → Like (accepted_to from ballot slot p (record r { top = top }, []))
  accepted_like from ballot slot top (Asked.Accepted, acceptor) = hinted_like ballot top acceptor
  accepted_like from ballot slot top (Asked.Ignored was, acceptor) = record { acceptor = acceptor; hint = r.hint; top = top; fact = refl }

  took_like : (from : ℕ) (report : Report Command) (top : Ballot) → Like (took from report (record r { top = top }, []))
  unfolding took
  took_like from report top =
      either_way Like (nat_le report.slot r.acceptor.floor) (install_to from (record r { top = top }, [])) (accepted_to from report.ballot report.slot (accepted_by report r.acceptor) (record r { top = top }, [])) (sent_like from top)
      (accepted_like from report.ballot report.slot top (accepted_by report r.acceptor))

  accept_like : (from : ℕ) (ballot : Ballot) (slot : ℕ) (command : Command) → GoesOn ballot r → IsLike r (mailed from (Accept (name_of r) ballot slot command) (r, [])).0.0
  unfolding mailed accept_row
  accept_like from ballot slot command goes = saw_like (λ p. Like (took from (record { slot = slot; ballot = ballot; value = command }) p)) ballot goes (λ top. took_like from (record { slot = slot; ballot = ballot; value = command }) top)

  promise_like : (from : ℕ) (ballot top : Ballot) (p : PrepareAnswer Command × AcceptorState Command) → Like (promise_to from ballot p (record r { top = top }, []))
  promise_like from ballot top (Prepared.Promise reports, acceptor) = hinted_like ballot top acceptor
  promise_like from ballot top (Prepared.Ignored was, acceptor) = record { acceptor = acceptor; hint = r.hint; top = top; fact = refl }

  promised_like : (from : ℕ) (ballot : Ballot) (from_slot : ℕ) (top : Ballot) → Like (promised from ballot from_slot (record r { top = top }, []))
  unfolding promised
  promised_like from ballot from_slot top =
      either_way Like (nat_le from_slot r.acceptor.floor) (install_to from (record r { top = top }, [])) (promise_to from ballot (prepared ballot from_slot r.acceptor) (record r { top = top }, [])) (sent_like from top)
      (promise_like from ballot top (prepared ballot from_slot r.acceptor))

  prepare_like : (from : ℕ) (ballot : Ballot) (from_slot : ℕ) → GoesOn ballot r → IsLike r (mailed from (Prepare (name_of r) ballot from_slot) (r, [])).0.0
  unfolding mailed prepare_row
  prepare_like from ballot from_slot goes = saw_like (λ p. Like (promised from ballot from_slot p)) ballot goes (λ top. promised_like from ballot from_slot top)

-- it leads on
like_leads : (at : Sets) (one two : Progress) (r : ReplicaState) (acceptor : AcceptorState Command) (hint : Option ℕ) (top : Ballot) → one.course ≡ two.course → two.next r.me ≡ next r → two.promise r.me ≡ acceptor.promised → IsLeadOf at one r
    → IsLeadOf at two (record r { acceptor = acceptor; hint = hint; top = top })
like_leads at one two r acceptor hint top same here promised l =
    let led = l.led in
    let may = led.may in
    let other : ReplicaState = record r { acceptor = acceptor; hint = hint; top = top } in
    record {
      led = subst (λ (c : Course). IsLed at c other) same (record {
        running = led.running;
        stands = led.stands;
        first = led.first;
        mine = led.mine;
        member = led.member;
        was = led.was;
        ahead = led.ahead;
        roster = led.roster;
        may = record { ballot = may.ballot; sets = may.sets; low = may.low; high = may.high; taken = may.taken; free = may.free };
      });
      newest = sym (ap (λ (c : Course). c.newest) same) ∙ l.newest;
      runs = sym (ap (λ (c : Course). c.running) same) ∙ l.runs;
      stands = sym (ap (λ (c : Course). c.gone) same) ∙ l.stands;
      executed = here;
      promise = promised;
      voters = λ slot. sym (ap (λ (c : Course). c.voters slot) same) ∙ l.voters slot;
      polled = l.polled;
      counted = λ node. sym (ap (λ (c : Course). c.counted node) same) ∙ l.counted node;
    }

-- ---- all ways

module _ (at : Sets) (births : List (Seat Player)) (rows : Rows) (seat : Seat Player) (event : Event OrderLine) (base : Base) (course : Course) where
  abbrev then_ : Rows
  then_ = with_event rows seat event

  abbrev now : Progress
  now = progress_at births rows base course

  abbrev after_ : Progress
  after_ = progress_at births then_ base course

  abbrev name : Draw
  name = base.core.id

  same_leaves : (words : ℕ → ℕ → ℕ × ℕ) → IsFollowedAt at words births rows base course → view_at births then_ name seat.who ≡ view_at births rows name seat.who → LeavesLead at births rows seat event base course
  same_leaves words was stays = record {
    own = λ r e runs. stays_led at words births rows seat event base course was.given seat.who r (sym stays ∙ e) e runs;
    runs = λ c fact. subst (IsLedBy base course) (sym stays) (subst (λ n. IsLedBy base course (view_at births rows name n)) (sym fact) (was.given.runs c));
  }

  quiet_leaves : (r : ReplicaState) → view_at births then_ name seat.who ≡ Some r → r.running ≡ false → (course.running ≡ true → seat.who ≡ course.ballot.node → ⊥) → LeavesLead at births rows seat event base course
  quiet_leaves r fact off apart = record {
    own = λ other e runs. absurd (true≢false (sym runs ∙ (ap (λ (x : ReplicaState). x.running) (same_some (view_at births then_ name seat.who) other r e fact) ∙ off)));
    runs = λ c mine. absurd (apart c mine);
  }

  born_leaves : ((slot : ℕ) → slot < 1 + slots_ahead → at slot ≡ base.core.members) → IsRoster base.core.members → is_member base.core.members base.core.first ≡ true → base.core.gone ≡ None → (seat.who ≡ base.core.first → course ≡ begun_course base)
      → (course.running ≡ true → seat.who ≡ course.ballot.node → seat.who ≡ base.core.first) → view_at births then_ name seat.who ≡ Some (born_replica slots_ahead seat.who base) → LeavesLead at births rows seat event base course
  born_leaves same roster first stands begun_ mine fact = record {
    own = λ r e runs.
        (let own : born_replica slots_ahead seat.who base ≡ r = same_some (view_at births then_ name seat.who) (born_replica slots_ahead seat.who base) r fact e in
        let who : base.core.first ≡ seat.who = eqb-true base.core.first seat.who (ap (λ (x : ReplicaState). x.running) own ∙ runs) in
        let begins : course ≡ begun_course base = begun_ (sym who) in (
          subst (IsLeadOf at after_) (ap (λ n. born_replica slots_ahead n base) who ∙ own)
              (born_leads at base after_ same roster first stands begins (subst (λ n. after_.next n ≡ 1) (sym who) (ap (next_in base seat.who) fact)) (subst (λ n. after_.promise n ≡ first_ballot base.core) (sym who) (ap (promise_in base) fact))),
          sym who ∙ sym (ap (λ (c : Course). c.ballot.node) begins),
        ));
    runs = λ c lead. subst (IsLedBy base course) (sym fact) (eq-eqb base.core.first seat.who (sym (mine c lead)));
  }

  like_leaves : (words : ℕ → ℕ → ℕ × ℕ) (r : ReplicaState) (after : Place) → IsFollowedAt at words births rows base course → r.me ≡ seat.who → IsLike r after.0 → IsReplicasRow births rows seat event name (Some r) after → LeavesLead at births rows seat event base course
  like_leaves words r after was me like row = record {
    own = λ other e runs.
        (let same : after.0 ≡ other = same_some (view_at births then_ name seat.who) after.0 other row.fact e in
        let new : ReplicaState = record r { acceptor = like.acceptor; hint = like.hint; top = like.top } in
        let fact : other ≡ new = sym same ∙ like.fact in
        let here : view_at births then_ name seat.who ≡ Some new = row.fact ∙ ap Some like.fact in
        let old = was.given.gives seat.who r row.was (sym (ap (λ (x : ReplicaState). x.running) fact) ∙ runs) in (
          subst (IsLeadOf at after_) (sym fact)
              (like_leads at now after_ r like.acceptor like.hint like.top refl (subst (λ n. after_.next n ≡ next r) (sym me) (ap (next_in base seat.who) here)) (subst (λ n. after_.promise n ≡ like.acceptor.promised) (sym me) (ap (promise_in base) here)) old.0),
          old.1,
        ));
    runs = λ c lead.
        (let running : r.running ≡ true = subst (IsLedBy base course) row.was (subst (λ n. IsLedBy base course (view_at births rows name n)) (sym lead) (was.given.runs c)) in
        subst (IsLedBy base course) (sym row.fact) (ap (λ (x : ReplicaState). x.running) like.fact ∙ running));
  }

-- The replica that leads a group is left as it is by a row of another, by one in which it is made, and by its own where it accepts or promises.
pub leads_stay : LeadsStay
leads_stay = record {
  same = λ at words births rows seat event base course was stays. same_leaves at births rows seat event base course words was stays;
  quiet = λ at births rows seat event base course r fact off apart. quiet_leaves at births rows seat event base course r fact off apart;
  born = λ at births rows seat event base course same roster first stands begun_ mine fact. born_leaves at births rows seat event base course same roster first stands begun_ mine fact;
  accepts = λ at words births rows seat event base course from slot ballot command r was me goes row. like_leaves at births rows seat event base course words r _ was me (accept_like r from ballot slot command goes) row;
  promises = λ at words births rows seat event base course from from_slot ballot r was me goes row. like_leaves at births rows seat event base course words r _ was me (prepare_like r from ballot from_slot goes) row;
}
