-- A leader's pump offers one command at a slot, and anything but a call or a filler alone.
use Rattle.std.proofs.Common.{◌≡◌, ℕ, zero, suc, ◌+◌, ◌*◌, ◌<◌, ◌≤◌, ◌&&◌, ◌||◌, not, eqb, Bool, true, false, true≢false, cond, List, [], ◌∷◌, ◌++◌, length, Option, Some, None, inl, inr, refl, sym, ◌∙◌, ap, subst, arith}
use Rattle.std.specs.Prelude.{is_some, nat_le}
use Rattle.std.specs.List.{list_any}
use Rattle.std.specs.Option.{option_map}
use Rattle.std.proofs.lemmas.Bool.{and_parts, cases_Bool, cases_eq, cases_lt, eqb-true, eq-eqb, ltb-true, or_cases, or_left, or_right}
use Rattle.std.proofs.lemmas.List.Folds.{list_any-append}
use Rattle.std.proofs.lemmas.List.Sums.{sum_by-cons}
use Rattle.sc_node_table.specs.Values.{Command, Noop, Call, Core, AnswerBody, Mail, Accept, Flight, Report}
use Rattle.sc_base.specs.Definitions.{votes_of, is_majority, is_member}
use Rattle.sc_words.specs.paxos.PaxosDefinitions.{below, chosen_value, names_above, must_without, flight_at, without_flight, with_voters}
use Rattle.sc_node_table.specs.NodeDefinitions.{answered, sent_all, Found, is_act, waits, turned_down, next_queued, from_backlog, from_acts, from_queues, found_by, found_for, offered, pumped_from, pumped, ReplicaState, Place, listed, name_of, next, settled, may_offer, either, taken_at, flying, taken_from, under_way, is_idle, first_set, last_slot, at_slot, with_slot, numbers_from}
use Rattle.sc_live_steps.specs.following.FollowingDefinitions.{AreApart, HasBallot, IsOrderly}
use Rattle.sc_live_steps.proofs.FollowingProofs.FlightSlots.{flight_out, slot_in, slot_over, polled_here, polled_out}
use Rattle.sc_live_steps.proofs.FollowingProofs.LeaderTables.{none_taken}
use Rattle.sc_live_steps.proofs.FollowingProofs.Offers.{offered_is}
use Rattle.sc_live_steps.proofs.FollowingProofs.LeaderTables.{none_there as none_is}
use Rattle.sc_live_steps.proofs.FollowingProofs.Offers.{old_found as pushed_at}

-- ---- flights apart

-- where they are apart, a slot whose first flight goes has none
pub apart_gone : (slot : ℕ) (fs : List (Flight Command)) → AreApart fs → flight_at slot (without_flight slot fs) ≡ None
apart_gone slot [] a = refl
apart_gone slot (f ∷ fs) a = by (eqb f.slot slot) refl (apart_gone slot fs a.1)
  where
    by : (b : Bool) → eqb f.slot slot ≡ b → flight_at slot (without_flight slot fs) ≡ None → flight_at slot (cond b fs (f ∷ without_flight slot fs)) ≡ None
    by true t rest = subst (λ n. flight_at n fs ≡ None) (eqb-true f.slot slot t) a.0
    by false t rest = ap (λ b. cond b (Some f) (flight_at slot (without_flight slot fs))) t ∙ rest

-- a flight that goes leaves none where there was none
gone_none : (slot other : ℕ) (fs : List (Flight Command)) → AreApart fs → flight_at other fs ≡ None → flight_at other (without_flight slot fs) ≡ None
gone_none slot other fs a e = elim (cases_eq other slot) [
  | inl fact ↦ subst (λ n. flight_at n (without_flight slot fs) ≡ None) (sym fact) (apart_gone slot fs a)
  | inr ne ↦ flight_out slot other fs ne ∙ e
]

pub apart_without : (slot : ℕ) (fs : List (Flight Command)) → AreApart fs → AreApart (without_flight slot fs)
apart_without slot [] a = tt
apart_without slot (f ∷ fs) a = by (eqb f.slot slot) (apart_without slot fs a.1)
  where
    by : (b : Bool) → AreApart (without_flight slot fs) → AreApart (cond b fs (f ∷ without_flight slot fs))
    by true rest = a.1
    by false rest = (gone_none slot f.slot fs a.1 a.0, rest)

still_none : (slot other : ℕ) (voters : Option (List ℕ)) (fs : List (Flight Command)) → flight_at other fs ≡ None → flight_at other (with_voters slot voters fs) ≡ None
still_none slot other voters fs e = elim (cases_eq other slot) [
  | inl fact ↦ subst (λ n. flight_at n (with_voters slot voters fs) ≡ None) (sym fact) (polled_here slot voters fs ∙ ap (λ o. option_map (λ (f : Flight Command). record f { voters = voters }) o) (subst (λ n. flight_at n fs ≡ None) fact e))
  | inr ne ↦ polled_out slot other voters fs ne ∙ e
]

pub apart_polled : (slot : ℕ) (voters : Option (List ℕ)) (fs : List (Flight Command)) → AreApart fs → AreApart (with_voters slot voters fs)
apart_polled slot voters [] a = tt
apart_polled slot voters (f ∷ fs) a = by (eqb f.slot slot) (apart_polled slot voters fs a.1)
  where
    by : (b : Bool) → AreApart (with_voters slot voters fs) → AreApart (cond b ((record f { voters = voters }) ∷ fs) (f ∷ with_voters slot voters fs))
    by true rest = (a.0, a.1)
    by false rest = (still_none slot f.slot voters fs a.0, rest)

pushed_here : (fs : List (Flight Command)) (new : Flight Command) → flight_at new.slot fs ≡ None → flight_at new.slot (fs ++ new ∷ []) ≡ Some new
pushed_here [] new e = ap (λ b. cond b (Some new) None) (eq-eqb new.slot new.slot refl)
pushed_here (f ∷ fs) new e = by (eqb f.slot new.slot) e (λ i. pushed_here fs new i)
  where
    by : (b : Bool) → cond b (Some f) (flight_at new.slot fs) ≡ None → (flight_at new.slot fs ≡ None → flight_at new.slot (fs ++ new ∷ []) ≡ Some new) → cond b (Some f) (flight_at new.slot (fs ++ new ∷ [])) ≡ Some new
    by true i rest = cc
    by false i rest = rest i

pub apart_pushed : (fs : List (Flight Command)) (new : Flight Command) → AreApart fs → flight_at new.slot fs ≡ None → AreApart (fs ++ new ∷ [])
apart_pushed [] new a e = (refl, tt)
apart_pushed (f ∷ fs) new a e = by (eqb f.slot new.slot) refl e (λ i. apart_pushed fs new a.1 i)
  where
    by : (b : Bool) → eqb f.slot new.slot ≡ b → cond b (Some f) (flight_at new.slot fs) ≡ None → (flight_at new.slot fs ≡ None → AreApart (fs ++ new ∷ [])) → (flight_at f.slot (fs ++ new ∷ []) ≡ None) × AreApart (fs ++ new ∷ [])
    by true t i rest = cc
    by false t i rest = (pushed_at f.slot fs new (λ fact. true≢false (sym (eq-eqb f.slot new.slot (sym fact)) ∙ t)) ∙ a.0, rest i)

-- ---- what is under way

-- what is taken at one of these slots is seen there
seen_from : (r : ReplicaState) (count from slot : ℕ) (command : Command) → from ≤ slot → slot < from + count → taken_at r slot ≡ Some command → is_act command ≡ true → list_any is_act (taken_from r (numbers_from from count)) ≡ true
seen_from r zero from slot command least most e act = absurd (omega (arith, least, most))
seen_from r (suc count) from slot command least most e act =
    list_any-append is_act (listed (taken_at r from)) (taken_from r (numbers_from (from + 1) count))
    ∙ elim (cases_eq from slot) [
      | inl fact ↦ or_left (list_any is_act (listed (taken_at r from))) (list_any is_act (taken_from r (numbers_from (from + 1) count)))
          (ap (λ o. list_any is_act (listed o)) (ap (taken_at r) fact ∙ e) ∙ or_left (is_act command) false act)
      | inr ne ↦ or_right (list_any is_act (listed (taken_at r from))) (list_any is_act (taken_from r (numbers_from (from + 1) count)))
          (seen_from r count (from + 1) slot command (apart ne) (omega (arith, most)) e act)
    ]
  where
    apart : (from ≡ slot → ⊥) → from + 1 ≤ slot
    apart ne = elim (cases_lt from slot) [ inl lt ↦ omega (arith, lt) | inr ge ↦ absurd (ne (omega (arith, least, ge))) ]

-- where nothing is under way, nothing is taken there
idle_from : (r : ReplicaState) (count from slot : ℕ) → from ≤ slot → slot < from + count → length (taken_from r (numbers_from from count)) ≡ 0 → is_some (taken_at r slot) ≡ true → ⊥
idle_from r zero from slot least most none some = omega (arith, least, most)
idle_from r (suc count) from slot least most none some = by (taken_at r from) refl none (λ low e. idle_from r count (from + 1) slot low (omega (arith, most)) e some)
  where
    by : (o : Option Command) → taken_at r from ≡ o → length (listed o ++ taken_from r (numbers_from (from + 1) count)) ≡ 0 → (from + 1 ≤ slot → length (taken_from r (numbers_from (from + 1) count)) ≡ 0 → ⊥) → ⊥
    by (Some c) fact e more = omega (arith, e)
    by None fact e more = elim (cases_lt from slot) [
      | inl lt ↦ more (omega (arith, lt)) e
      | inr ge ↦ (let same : from ≡ slot = omega (arith, least, ge) in true≢false (sym some ∙ ap is_some (ap (taken_at r) (sym same) ∙ fact)))
    ]

-- ---- what is found

-- nothing but calls and fillers is under way, and if it is anything else, nothing is
pub record MayBegin (r : ReplicaState) (command : Command) : Type 0 where
  pub quiet : list_any is_act (under_way r) ≡ false
  pub idle : is_act command ≡ true → is_idle r ≡ true

-- a command that does not wait is a call or a filler, or nothing is under way
not_waiting : (idle : Bool) (core : Core) (command : Command) → waits idle core.lock command ≡ false → is_act command ≡ true → idle ≡ true
not_waiting idle core command w act = by command w act
  where
    idle_by : (b : Bool) (idle : Bool) → (b || not idle) ≡ false → idle ≡ true
    idle_by true idle e = absurd (true≢false e)
    idle_by false true e = refl
    idle_by false false e = absurd (true≢false e)

    by : (command : Command) → waits idle core.lock command ≡ false → is_act command ≡ true → idle ≡ true
    by Noop w act = absurd (true≢false (sym act))
    by (Call client seq op) w act = absurd (true≢false (sym act))
    by _ w act = idle_by _ idle w

call_idle : (me : ℕ) (idle : Bool) (core : Core) (backlog : List Command) (mails : List Mail) (command : Command) → (next_queued me idle core backlog mails).0 ≡ Some command → is_act command ≡ true → idle ≡ true
unfolding next_queued
call_idle me idle core [] mails command e act = cc
call_idle me idle core (head ∷ backlog) mails command e act = by (waits idle core.lock head) refl (turned_down core head) e (λ more i. call_idle me idle core backlog more command i act)
  where
    by : (b : Bool) → waits idle core.lock head ≡ b → (o : Option AnswerBody)
        → (cond {A = Option Command × List Command × List Mail} b (None, head ∷ backlog, mails) (elim o [ None ↦ (Some head, backlog, mails) | Some answer ↦ next_queued me idle core backlog (answered me core.id answer head mails) ])).0 ≡ Some command
        → ((more : List Mail) → (next_queued me idle core backlog more).0 ≡ Some command → idle ≡ true) → idle ≡ true
    by true w o e more = cc
    by false w None e more = (let same : head ≡ command = cc in not_waiting idle core head w (ap is_act same ∙ act))
    by false w (Some answer) e more = more (answered me core.id answer head mails) e

module _ (P : Found → Type 0) (r : ReplicaState) (mails : List Mail) (plain : r.leader.reports ≡ [])
    (p : (o : Option Command) (acts backlog : List Command) (more : List Mail) → ((command : Command) → o ≡ Some command → MayBegin r command) → P (o, (record r { acts = acts; backlog = backlog }, more))) where
  nothing : (acts backlog : List Command) (more : List Mail) → P (None, (record r { acts = acts; backlog = backlog }, more))
  nothing acts backlog more = p None acts backlog more (λ command e. cc)

  calls_may : list_any is_act (under_way r) ≡ false → P (from_backlog (r, mails))
  unfolding from_backlog
  calls_may quiet =
      let found = next_queued r.me (is_idle r) r.group.core r.backlog mails in
      p found.0 r.acts found.1 found.2 (λ command e. record { quiet = quiet; idle = λ act. call_idle r.me (is_idle r) r.group.core r.backlog mails command e act })

  acts_may : list_any is_act (under_way r) ≡ false → (acts : List Command) → P (from_acts acts (r, mails))
  acts_may quiet [] = calls_may quiet
  acts_may quiet (act ∷ acts) = by (is_idle r) refl
    where
      by : (b : Bool) → is_idle r ≡ b → P (cond b (Some act, (record r { acts = acts }, mails)) (None, (r, mails)))
      by true t = p (Some act) acts r.backlog mails (λ command e. record { quiet = quiet; idle = λ _. t })
      by false f = nothing r.acts r.backlog mails

  queues_may : P (from_queues (r, mails))
  unfolding from_queues
  queues_may = by (list_any is_act (under_way r)) refl
    where
      by : (b : Bool) → list_any is_act (under_way r) ≡ b → P (cond b (None, (r, mails)) (from_acts r.acts (r, mails)))
      by true t = nothing r.acts r.backlog mails
      by false f = acts_may f r.acts

  found_may : (slot : ℕ) → P (found_for slot (r, mails))
  unfolding found_for
  found_may slot = subst (λ (rs : List (Report Command)). P (found_by (must_without (names_above slot rs) (chosen_value slot rs)) (r, mails))) (sym plain) queues_may

-- ---- one more is offered

-- nothing is taken behind the open slots
abbrev pub IsBounded : ReplicaState → Type 0
IsBounded r = (slot : ℕ) → next r + length r.sets ≤ slot → taken_at r slot ≡ None

module _ (r : ReplicaState) (o : IsOrderly r) (bounded : IsBounded r) (slot : ℕ) (command : Command) (least : next r ≤ slot) (most : slot < next r + length r.sets) (free : taken_at r slot ≡ None) (may : MayBegin r command) (has : HasBallot r) (acts backlog : List Command) where
  abbrev new : Flight Command
  new = record { slot = slot; value = command; voters = None }

  abbrev pub begins : ReplicaState
  begins = record r { leader = record r.leader { flights = r.leader.flights ++ new ∷ [] }; acts = acts; backlog = backlog }

  same_at : (s : ℕ) → (s ≡ slot → ⊥) → taken_at begins s ≡ taken_at r s
  same_at s ne = ap (λ (f : Option (Flight Command)). either (option_map (λ (x : Flight Command). x.value) f) (at_slot r.ready s)) (pushed_at s r.leader.flights new (λ e. ne (sym e)))

  here_at : taken_at begins slot ≡ Some command
  here_at = ap (λ (f : Option (Flight Command)). either (option_map (λ (x : Flight Command). x.value) f) (at_slot r.ready slot)) (pushed_here r.leader.flights new (none_taken r slot free).0)

  within : (s : ℕ) → is_some (taken_at r s) ≡ true → s < next r + length r.sets
  within s some = elim (cases_lt s (next r + length r.sets)) [ inl lt ↦ lt | inr ge ↦ absurd (true≢false (sym some ∙ ap is_some (bounded s ge))) ]

  -- no act was taken before
  none_before : (s : ℕ) (c : Command) → next r ≤ s → taken_at r s ≡ Some c → is_act c ≡ true → ⊥
  none_before s c from e act = true≢false (sym (seen_from r (length r.sets) (next r) s c from (within s (ap is_some e)) e act) ∙ may.quiet)

  alone_then : (s other : ℕ) (c : Command) → next r ≤ s → taken_at begins s ≡ Some c → is_act c ≡ true → next r ≤ other → is_some (taken_at begins other) ≡ true → other ≡ s
  alone_then s other c from e act from_other some = elim (cases_eq s slot) [
    | inr ne ↦ absurd (none_before s c from (sym (same_at s ne) ∙ e) act)
    | inl fact ↦ elim (cases_eq other slot) [
      | inl its ↦ its ∙ sym fact
      | inr apart ↦ (let before : is_some (taken_at r other) ≡ true = ap is_some (sym (same_at other apart)) ∙ some in
          let mine : Some command ≡ Some c = sym here_at ∙ (ap (taken_at begins) (sym fact) ∙ e) in
          let same : command ≡ c = some_same mine in
          absurd (idle_from r (length r.sets) (next r) other from_other (within other before) (eqb-true (length (under_way r)) 0 (may.idle (ap is_act same ∙ act))) before))
    ]
  ]
    where
      some_same : {x y : Command} → Some x ≡ Some y → x ≡ y
      some_same e = cc

  pub begins_orderly : IsOrderly begins
  begins_orderly = record {
    apart = apart_pushed r.leader.flights new o.apart (none_taken r slot free).0;
    single = λ s from some. elim (cases_eq s slot) [
      | inl fact ↦ absurd (true≢false (sym some ∙ ap is_some (ap (at_slot r.ready) fact ∙ (none_taken r slot free).1)))
      | inr ne ↦ pushed_at s r.leader.flights new (λ e. ne (sym e)) ∙ o.single s from some
    ];
    alone = alone_then;
    plain = o.plain;
    asked = λ s from some. has;
  }

  pub begins_bounded : IsBounded begins
  begins_bounded s past = same_at s (λ fact. omega (arith, past, most, fact)) ∙ bounded s past

-- ---- the pump

orderly_from : (slot : ℕ) (sets : List (List ℕ)) (r : ReplicaState) (mails : List Mail) → IsOrderly r → IsBounded r → HasBallot r → next r ≤ slot → slot + length sets ≡ next r + length r.sets → IsOrderly (pumped_from slot sets (r, mails)).0
unfolding pumped_from
orderly_from slot [] r mails o bounded has least ends = o
orderly_from slot (set ∷ sets) r mails o bounded has least ends = by (is_some (taken_at r slot)) refl (λ q more oq bq hq from to. orderly_from (slot + 1) sets q more oq bq hq from to)
  where
    Rest : Type 0
    Rest = (q : ReplicaState) (more : List Mail) → IsOrderly q → IsBounded q → HasBallot q → next q ≤ slot + 1 → slot + 1 + length sets ≡ next q + length q.sets → IsOrderly (pumped_from (slot + 1) sets (q, more)).0

    goes : Found → Place
    goes f = elim (f.0) [ None ↦ f.1 | Some command ↦ pumped_from (slot + 1) sets (offered slot set command f.1) ]

    found : Rest → taken_at r slot ≡ None → (x : Option Command) (acts backlog : List Command) (more : List Mail) → ((command : Command) → x ≡ Some command → MayBegin r command) → IsOrderly (goes (x, (record r { acts = acts; backlog = backlog }, more))).0
    found rest free None acts backlog more may = record { apart = o.apart; single = o.single; alone = o.alone; plain = o.plain; asked = o.asked }
    found rest free (Some command) acts backlog more may =
        let most : slot < next r + length r.sets = omega (arith, ends) in
        subst (λ (p : Place). IsOrderly (pumped_from (slot + 1) sets p).0) (sym (offered_is slot set command (record r { acts = acts; backlog = backlog }) more))
        (rest (begins r o bounded slot command least most free (may command refl) has acts backlog) (sent_all r.me set (Accept (name_of r) r.leader.ballot slot command) more)
        (begins_orderly r o bounded slot command least most free (may command refl) has acts backlog) (begins_bounded r o bounded slot command least most free (may command refl) has acts backlog) has (omega (arith, least)) (omega (arith, ends)))

    offering : Rest → taken_at r slot ≡ None → (b : Bool) → IsOrderly (cond b (goes (found_for slot (r, mails))) (r, mails)).0
    offering rest free true = found_may (λ f. IsOrderly (goes f).0) r mails o.plain (found rest free) slot
    offering rest free false = o

    by : (b : Bool) → is_some (taken_at r slot) ≡ b → Rest → IsOrderly (cond b (pumped_from (slot + 1) sets (r, mails)) (cond (may_offer r set) (goes (found_for slot (r, mails))) (r, mails))).0
    by true t rest = rest r mails o bounded has (omega (arith, least)) (omega (arith, ends))
    by false f rest = offering rest (none_is (taken_at r slot) f) (may_offer r set)

-- more than none of some members have promised
some_promised : (members promisers : List ℕ) → 1 ≤ votes_of members promisers → (who : ℕ) × (is_member promisers who ≡ true)
some_promised [] promisers some = absurd (omega (arith, some))
some_promised (x ∷ members) promisers some = elim (cases_Bool (is_member promisers x)) [
  | inl t ↦ (x, t)
  | inr f ↦ (let head = sum_by-cons (λ member. cond (is_member promisers member) 1 0) x members in
      let none : ◌≡◌ {A = ℕ} (cond (is_member promisers x) 1 0) 0 = ap (λ b. cond {A = ℕ} b 1 0) f in
      some_promised members promisers (omega (arith, some, head, none)))
]

settled_has : (r : ReplicaState) → settled r ≡ true → HasBallot r
settled_has r t =
    let may = (and_parts r.running (may_offer r (first_set r.sets)) t).1 in
    let either_ = (and_parts (not (below r.leader.ballot r.acceptor.promised)) (r.leader.is_first || is_majority (first_set r.sets) r.leader.promisers) may).1 in
    elim (or_cases r.leader.is_first (is_majority (first_set r.sets) r.leader.promisers) either_) [
      | inl f ↦ inl f
      | inr m ↦ inr (some_promised (first_set r.sets) r.leader.promisers (let lt = ltb-true (length (first_set r.sets)) (2 * votes_of (first_set r.sets) r.leader.promisers) m in omega (arith, lt)))
    ]

pub pump_orderly : (r : ReplicaState) (mails : List Mail) → IsOrderly r → IsBounded r → IsOrderly (pumped (r, mails)).0
unfolding pumped
pump_orderly r mails o bounded = by (settled r && nat_le (next r) last_slot) refl
  where
    by : (b : Bool) → (settled r && nat_le (next r) last_slot) ≡ b → IsOrderly (cond b (pumped_from (next r) r.sets (r, mails)) (r, mails)).0
    by true t = orderly_from (next r) r.sets r mails o bounded (settled_has r (and_parts (settled r) (nat_le (next r) last_slot) t).0) (omega arith) refl
    by false f = o

-- ---- other flights and other ready commands, where the same is taken at each slot

module _ (r : ReplicaState) (o : IsOrderly r) (slot : ℕ) (flight : Flight Command) (found : flight_at slot r.leader.flights ≡ Some flight) where
  pub polled_orderly : (voters : Option (List ℕ)) → IsOrderly (record r { leader = record r.leader { flights = with_voters slot voters r.leader.flights } })
  polled_orderly voters = record {
    apart = apart_polled slot voters r.leader.flights o.apart;
    single = λ s from some. none_still s (o.single s from some);
    alone = λ s other c from e act from_other some. o.alone s other c from (sym (same s) ∙ e) act from_other (ap is_some (sym (same other)) ∙ some);
    plain = o.plain;
    asked = λ s from some. o.asked s from (ap is_some (sym (same s)) ∙ some);
  }
    where
      values : (x : Option (Flight Command)) → option_map (λ (f : Flight Command). f.value) (option_map (λ (f : Flight Command). record f { voters = voters }) x) ≡ option_map (λ (f : Flight Command). f.value) x
      values None = refl
      values (Some f) = refl

      flying_same : (s : ℕ) → option_map (λ (f : Flight Command). f.value) (flight_at s (with_voters slot voters r.leader.flights)) ≡ flying r s
      flying_same s = elim (cases_eq s slot) [
        | inl fact ↦ subst (λ n. option_map (λ (f : Flight Command). f.value) (flight_at n (with_voters slot voters r.leader.flights)) ≡ flying r n) (sym fact)
            (ap (λ x. option_map (λ (f : Flight Command). f.value) x) (polled_here slot voters r.leader.flights) ∙ values (flight_at slot r.leader.flights))
        | inr ne ↦ ap (λ x. option_map (λ (f : Flight Command). f.value) x) (polled_out slot s voters r.leader.flights ne)
      ]

      same : (s : ℕ) → taken_at (record r { leader = record r.leader { flights = with_voters slot voters r.leader.flights } }) s ≡ taken_at r s
      same s = ap (λ x. either x (at_slot r.ready s)) (flying_same s)

      none_still : (s : ℕ) → flight_at s r.leader.flights ≡ None → flight_at s (with_voters slot voters r.leader.flights) ≡ None
      none_still s e = elim (cases_eq s slot) [
        | inl fact ↦ absurd (apart (sym found ∙ subst (λ n. flight_at n r.leader.flights ≡ None) fact e))
        | inr ne ↦ polled_out slot s voters r.leader.flights ne ∙ e
      ]
        where
          apart : Some flight ≡ None → ⊥
          apart k = cc

  pub decided_orderly : IsOrderly (record r { leader = record r.leader { flights = without_flight slot r.leader.flights }; ready = with_slot r.ready slot flight.value })
  decided_orderly = record {
    apart = apart_without slot r.leader.flights o.apart;
    single = λ s from some. elim (cases_eq s slot) [
      | inl fact ↦ subst (λ n. flight_at n (without_flight slot r.leader.flights) ≡ None) (sym fact) gone
      | inr ne ↦ flight_out slot s r.leader.flights ne ∙ o.single s from (ap is_some (sym (slot_over slot s flight.value r.ready ne)) ∙ some)
    ];
    alone = λ s other c from e act from_other some. o.alone s other c from (sym (same s) ∙ e) act from_other (ap is_some (sym (same other)) ∙ some);
    plain = o.plain;
    asked = λ s from some. o.asked s from (ap is_some (sym (same s)) ∙ some);
  }
    where
      gone : flight_at slot (without_flight slot r.leader.flights) ≡ None
      gone = apart_gone slot r.leader.flights o.apart

      then : ReplicaState
      then = record r { leader = record r.leader { flights = without_flight slot r.leader.flights }; ready = with_slot r.ready slot flight.value }

      here : taken_at then slot ≡ taken_at r slot
      here =
          ap (λ (x : Option (Flight Command)). either (option_map (λ (f : Flight Command). f.value) x) (at_slot (with_slot r.ready slot flight.value) slot)) gone
          ∙ (slot_in slot flight.value r.ready ∙ sym (ap (λ (x : Option (Flight Command)). either (option_map (λ (f : Flight Command). f.value) x) (at_slot r.ready slot)) found))

      same : (s : ℕ) → taken_at then s ≡ taken_at r s
      same s = elim (cases_eq s slot) [
        | inl fact ↦ subst (λ n. taken_at then n ≡ taken_at r n) (sym fact) here
        | inr ne ↦ ap (λ (x : Option (Flight Command)). either (option_map (λ (f : Flight Command). f.value) x) (at_slot (with_slot r.ready slot flight.value) s)) (flight_out slot s r.leader.flights ne)
            ∙ ap (λ x. either (flying r s) x) (slot_over slot s flight.value r.ready ne)
      ]
