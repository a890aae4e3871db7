-- In a quiet journal a leader has nothing in flight or ready.
use Rattle.std.proofs.Common.{◌≡◌, ℕ, ◌≤◌, ◌+◌, ◌&&◌, ◌||◌, not, nat_lt, Bool, true, false, true≢false, cond, List, [], ◌∷◌, length, Option, Some, None, inl, inr, refl, sym, ◌∙◌, ap, arith}
use Rattle.std.specs.Prelude.{is_some}
use Rattle.std.specs.Option.{option_map}
use Rattle.std.proofs.lemmas.Bool.{eq-eqb, lt-ltb, le-ltb, cases_lt}
use Rattle.sc_base.specs.Definitions.{Each}
use Rattle.sc_node_table.specs.Values.{Command, Flight}
use Rattle.sc_words.specs.paxos.PaxosDefinitions.{flight_at, kept_voters}
use Rattle.sc_node_table.specs.NodeDefinitions.{has_room, ReplicaState, next, last_slot, either, flying, taken_at, at_slot}
use Rattle.sc_live_steps.specs.following.FollowingDefinitions.{Progress, Sets, IsLeadOf}
use Rattle.sc_live_journals.specs.rows.RowDefinitions.{IsEvenAt, progress_at}
use Rattle.sc_live_journals.proofs.RowsProofs.RowLemmas.{quiet_rests}
use Rattle.sc_live_journals.specs.groups.GroupDefinitions.{IsCleared, QuietLeadersRest, IsLedQuietly}
use Rattle.sc_live_journals.proofs.GroupsProofs.QuietGroups.{quiet_groups_led}

-- what is asked of none of three is the other one
past_three : {X : Type 0} (a b c : Bool) (x : Option X) → a ≡ true → b ≡ false → c ≡ false → cond (not a || (b || c)) None x ≡ None → x ≡ None
past_three true false false x ea eb ec e = e
past_three false b c x ea eb ec e = absurd (true≢false (sym ea))
past_three true true c x ea eb ec e = absurd (true≢false eb)
past_three true false true x ea eb ec e = absurd (true≢false ec)

past_both : {X : Type 0} (a b : Bool) (x : Option X) → a ≡ true → b ≡ true → cond (a && b) x None ≡ None → x ≡ None
past_both true true x ea eb e = e
past_both false b x ea eb e = absurd (true≢false (sym ea))
past_both true false x ea eb e = absurd (true≢false (sym eb))

pub none_mapped : {X Y : Type 0} (f : X → Y) (o : Option X) → option_map f o ≡ None → o ≡ None
none_mapped f None e = refl
none_mapped f (Some x) e = cc

pub none_first : {X : Type 0} (a b : Option X) → either a b ≡ None → a ≡ None
none_first None b e = refl
none_first (Some x) b e = cc

none_second : {X : Type 0} (a b : Option X) → either a b ≡ None → b ≡ None
none_second None b e = e
none_second (Some x) b e = cc

-- where none is at a slot from one on, and all are from it on, there is none
no_flights : (from : ℕ) (flights : List (Flight Command)) → Each (λ flight. from ≤ flight.slot) flights → ((slot : ℕ) → from ≤ slot → flight_at slot flights ≡ None) → flights ≡ []
no_flights from [] all none = refl
no_flights from (flight ∷ flights) all none =
    let bad : Some flight ≡ None = sym (ap (λ b. cond b (Some flight) (flight_at flight.slot flights)) (eq-eqb flight.slot flight.slot refl)) ∙ none flight.slot all.0 in cc

no_ready : (from : ℕ) (entries : List (ℕ × Command)) → Each (λ entry. from ≤ entry.0) entries → ((slot : ℕ) → from ≤ slot → at_slot entries slot ≡ None) → entries ≡ []
no_ready from [] all none = refl
no_ready from (e ∷ entries) all none =
    let bad : Some e.1 ≡ None = sym (ap (λ b. cond b (Some e.1) (at_slot entries e.0)) (eq-eqb e.0 e.0 refl)) ∙ none e.0 all.0 in cc

module _ (at : Sets) (now : Progress) (lead : ReplicaState) (leads : IsLeadOf at now lead) (unvoted : (slot : ℕ) → now.course.voters slot ≡ None) (room : next lead ≤ last_slot) (cleared : IsCleared lead) where
  has : has_room lead ≡ true
  has = (let ahead = leads.led.ahead in lt-ltb (next lead) (last_slot + length lead.sets) (omega (arith, room, ahead)))

  unready : at_slot lead.ready (next lead) ≡ None
  unready = past_both lead.running (has_room lead) (at_slot lead.ready (next lead)) leads.led.running has cleared.done

  unflown : flight_at (next lead) lead.leader.flights ≡ None
  unflown =
      none_mapped (λ (flight : Flight Command). kept_voters flight.voters) (flight_at (next lead) lead.leader.flights)
      (past_three lead.running (nat_lt (next lead) (next lead)) (is_some (at_slot lead.ready (next lead))) (option_map (λ (flight : Flight Command). kept_voters flight.voters) (flight_at (next lead) lead.leader.flights))
      leads.led.running (le-ltb (next lead) (next lead) (omega arith)) (ap is_some unready) (sym (leads.voters (next lead)) ∙ unvoted (next lead)))

  untaken : taken_at lead (next lead) ≡ None
  untaken = ap (λ (o : Option (Flight Command)). either (option_map (λ flight. flight.value) o) (at_slot lead.ready (next lead))) unflown ∙ unready

  -- nothing was offered that is not executed
  low : now.course.bound ≤ next lead
  low = elim (cases_lt (next lead) now.course.bound) [
    | inl lt ↦ absurd (true≢false (sym (leads.led.may.taken (next lead) (omega arith) lt) ∙ ap is_some untaken))
    | inr ge ↦ ge
  ]

  none : (slot : ℕ) → next lead ≤ slot → taken_at lead slot ≡ None
  none slot from = leads.led.may.free slot (let l = low in omega (arith, l, from))

  pub empty_flights : lead.leader.flights ≡ []
  empty_flights = no_flights (next lead) lead.leader.flights cleared.flights
      (λ slot from. none_mapped (λ (flight : Flight Command). flight.value) (flight_at slot lead.leader.flights) (none_first (flying lead slot) (at_slot lead.ready slot) (none slot from)))

  pub empty_ready : lead.ready ≡ []
  empty_ready = no_ready (next lead) lead.ready cleared.ready (λ slot from. none_second (flying lead slot) (at_slot lead.ready slot) (none slot from))

-- In a quiet journal the one that leads a group that stands leads at rest, with nothing in flight or ready, where what it has in flight and ready is at slots that are not executed.
pub quiet_leaders_rest : QuietLeadersRest
quiet_leaders_rest at over by words births rows base course lead rosters timely quiet strangers was stands there room cleared tops =
    let now : Progress = progress_at births rows base course in
    let even : IsEvenAt at births rows base course = quiet_rests at words births rows base course rosters timely quiet strangers was.followed in
    let leads : IsLeadOf at now lead = even.lead stands lead there in
    let led : IsLedQuietly at births rows base course lead = quiet_groups_led.stands at over by words births rows base course lead rosters timely quiet strangers was stands there in
    record {
      flights = empty_flights at now lead leads even.even.none room cleared;
      ready = empty_ready at now lead leads even.even.none room cleared;
      leads = record {
        running = led.runs;
        mine = led.mine;
        settled_is = led.settled_is;
        unbound = led.unbound;
        top_is = (tops.2 led.runs).0;
        hint_is = (tops.2 led.runs).1 ∙ ap Some (sym tops.0);
      };
    }
