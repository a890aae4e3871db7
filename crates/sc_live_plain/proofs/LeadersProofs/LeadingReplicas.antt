-- What holds of the leading replica of a plain group, with the mails of its row so far.
use Rattle.std.proofs.Common.{◌≡◌, ℕ, ◌+◌, ◌-◌, ◌<◌, ◌≤◌, ◌&&◌, ◌||◌, leb, ltb, eqb, Bool, true, false, List, [], ◌∷◌, ◌++◌, count_by, Option, Some, None, ◌⊎◌, inl, inr, refl, ◌∙◌, ap, arith}
use Rattle.std.specs.Prelude.{is_some, nat_le, nat_lt}
use Rattle.std.specs.List.{list_any}
use Rattle.std.specs.Option.{option_map}
use Rattle.std.proofs.lemmas.Bool.{cond-false, cases_lt, cases_eq, le-leb, lt-leb, lt-ltb, le-ltb, eq-eqb, ne_eqb, and_from, and_left, and_right, or_parts, or_from}
use Rattle.sc_base.specs.Definitions.{Among, Each, client_actor, is_member}
use Rattle.sc_node_table.specs.Values.{Op, Command, Call, AnswerBody, Mail, MailBody, Answer, Accept, Learn, Flight}
use Rattle.sc_words.specs.paxos.PaxosDefinitions.{flight_at}
use Rattle.sc_words.proofs.PaxosProofs.PaxosLemmas.{Each-among, find_found}
use Rattle.sc_node_table.specs.NodeDefinitions.{is_act, from_backlog, from_acts, from_queues, offered, ReplicaState, Place, next, flying, either, taken_at, listed, taken_from, under_way, open_slots, at_slot, numbers_from}
use Rattle.sc_live_plain.specs.PlainDefinitions.{Frame, Requests, IsPlainCommand, IsPlainBody, takers, AreTaken, IsPlainLeader, IsPlainReplica}
use Rattle.sc_live_plain.proofs.PlainRowsProofs.SlotCounts.{one_if, one_yes, one_no, count-cons, count-push, find_none, find_some, at_none, at_some, at_found}
use Rattle.sc_live_plain.proofs.PlainRowsProofs.RepeatedMail.{learns_to, mail_of}

-- ---- which slots are taken

-- whether a slot is one of the first `taken` from the next one on
abbrev pub in_range : ℕ → ℕ → ℕ → Bool
in_range from taken slot = nat_le from slot && nat_lt slot (from + taken)

pub range_yes : (from taken slot : ℕ) → from ≤ slot → slot < from + taken → in_range from taken slot ≡ true
range_yes from taken slot low high = and_from (leb from slot) (ltb slot (from + taken)) (le-leb from slot low) (lt-ltb slot (from + taken) high)

pub range_before : (from taken slot : ℕ) → slot < from → in_range from taken slot ≡ false
range_before from taken slot low = and_left (leb from slot) (ltb slot (from + taken)) (lt-leb from slot low)

pub range_behind : (from taken slot : ℕ) → from + taken ≤ slot → in_range from taken slot ≡ false
range_behind from taken slot high = and_right (leb from slot) (ltb slot (from + taken)) (le-ltb slot (from + taken) high)

-- one more behind
pub range_more : (from taken slot : ℕ) → one_if (in_range from (taken + 1) slot) ≡ one_if (in_range from taken slot) + one_if (eqb (from + taken) slot)
range_more from taken slot =
    elim (cases_lt slot from) [
      | inl low ↦ (
          let a = one_no (in_range from (taken + 1) slot) (range_before from (taken + 1) slot low) in
          let b = one_no (in_range from taken slot) (range_before from taken slot low) in
          let c = one_no (eqb (from + taken) slot) (ne_eqb (from + taken) slot (λ e. absurd (omega (arith, e, low)))) in
          omega (arith, a, b, c))
      | inr on ↦ elim (cases_lt slot (from + taken)) [
        | inl low ↦ (
            let a = one_yes (in_range from (taken + 1) slot) (range_yes from (taken + 1) slot on (omega (arith, low))) in
            let b = one_yes (in_range from taken slot) (range_yes from taken slot on low) in
            let c = one_no (eqb (from + taken) slot) (ne_eqb (from + taken) slot (λ e. absurd (omega (arith, e, low)))) in
            omega (arith, a, b, c))
        | inr high ↦ elim (cases_eq (from + taken) slot) [
          | inl here ↦ (
              let a = one_yes (in_range from (taken + 1) slot) (range_yes from (taken + 1) slot on (omega (arith, here))) in
              let b = one_no (in_range from taken slot) (range_behind from taken slot high) in
              let c = one_yes (eqb (from + taken) slot) (eq-eqb (from + taken) slot here) in
              omega (arith, a, b, c))
          | inr past ↦ (
              let far : from + (taken + 1) ≤ slot = elim (cases_eq (from + taken) slot) [ inl e ↦ absurd (past e) | inr ne ↦ omega (arith, high, ne) ] in
              let a = one_no (in_range from (taken + 1) slot) (range_behind from (taken + 1) slot far) in
              let b = one_no (in_range from taken slot) (range_behind from taken slot high) in
              let c = one_no (eqb (from + taken) slot) (ne_eqb (from + taken) slot past) in
              omega (arith, a, b, c))
        ]
      ]
    ]

-- one less in front
pub range_less : (from taken slot : ℕ) → one_if (in_range from (taken + 1) slot) ≡ one_if (in_range (from + 1) taken slot) + one_if (eqb from slot)
range_less from taken slot =
    elim (cases_lt slot from) [
      | inl low ↦ (
          let a = one_no (in_range from (taken + 1) slot) (range_before from (taken + 1) slot low) in
          let b = one_no (in_range (from + 1) taken slot) (range_before (from + 1) taken slot (omega (arith, low))) in
          let c = one_no (eqb from slot) (ne_eqb from slot (λ e. absurd (omega (arith, e, low)))) in
          omega (arith, a, b, c))
      | inr on ↦ elim (cases_eq from slot) [
        | inl here ↦ (
            let a = one_yes (in_range from (taken + 1) slot) (range_yes from (taken + 1) slot on (omega (arith, here))) in
            let b = one_no (in_range (from + 1) taken slot) (range_before (from + 1) taken slot (omega (arith, here))) in
            let c = one_yes (eqb from slot) (eq-eqb from slot here) in
            omega (arith, a, b, c))
        | inr past ↦ (
            let up : from + 1 ≤ slot = omega (arith, on, past) in
            let c = one_no (eqb from slot) (ne_eqb from slot past) in
            elim (cases_lt slot (from + (taken + 1))) [
              | inl low ↦ (
                  let a = one_yes (in_range from (taken + 1) slot) (range_yes from (taken + 1) slot on low) in
                  let b = one_yes (in_range (from + 1) taken slot) (range_yes (from + 1) taken slot up (omega (arith, low))) in
                  omega (arith, a, b, c))
              | inr high ↦ (
                  let a = one_no (in_range from (taken + 1) slot) (range_behind from (taken + 1) slot high) in
                  let b = one_no (in_range (from + 1) taken slot) (range_behind (from + 1) taken slot (omega (arith, high))) in
                  omega (arith, a, b, c))
            ])
      ]
    ]

abbrev pub flights_at : ℕ → List (Flight Command) → ℕ
flights_at slot flights = count_by (λ flight. eqb flight.slot slot) flights

either_some : (o p : Option Command) → is_some p ≡ true → is_some (either o p) ≡ true
either_some (Some c) p e = refl
either_some None p e = e

-- a slot that something takes is taken
pub takes : (r : ReplicaState) (slot : ℕ) → 1 ≤ takers r slot → is_some (taken_at r slot) ≡ true
takes r slot some =
    elim (cases_lt 0 (flights_at slot r.leader.flights)) [
      | inl up ↦ (
          let found = find_some (λ (flight : Flight Command). eqb flight.slot slot) r.leader.flights (omega (arith, up)) in
          ap (λ (o : Option (Flight Command)). is_some (either (option_map (λ (flight : Flight Command). flight.value) o) (at_slot r.ready slot))) found.1)
      | inr none ↦ (
          let found = at_some r.ready slot (omega (arith, some, none)) in
          either_some (flying r slot) (at_slot r.ready slot) (ap is_some found.1))
    ]

-- and one that nothing takes is not
pub takes_not : (r : ReplicaState) (slot : ℕ) → takers r slot ≡ 0 → is_some (taken_at r slot) ≡ false
takes_not r slot none =
    let flight = find_none (λ (flight : Flight Command). eqb flight.slot slot) r.leader.flights (omega (arith, none)) in
    let entry = at_none r.ready slot (omega (arith, none)) in
    ap (λ (o : Option (Flight Command)). is_some (either (option_map (λ (flight : Flight Command). flight.value) o) (at_slot r.ready slot))) flight ∙ ap is_some entry

-- what is ready is at a slot that is taken
pub early_taken : (r : ReplicaState) (taken : ℕ) → AreTaken r taken → Each (λ (entry : ℕ × Command). entry.0 < next r + taken) r.ready
early_taken r taken a = all r.ready (λ entry among. (let some = entry_counts r.ready entry among in low entry.0 (omega (arith, some))))
  where
    entry_counts : (es : List (ℕ × Command)) (entry : ℕ × Command) → Among entry es → 1 ≤ count_by (λ (e : ℕ × Command). eqb e.0 entry.0) es
    entry_counts [] entry m = absurd m
    entry_counts (e ∷ es) entry (inl same) =
        (let c = count-cons (λ (x : ℕ × Command). eqb x.0 entry.0) e es in
        let one = one_yes (eqb e.0 entry.0) (eq-eqb e.0 entry.0 (ap (λ (x : ℕ × Command). x.0) same)) in
        omega (arith, c, one))
    entry_counts (e ∷ es) entry (inr m) = (let c = count-cons (λ (x : ℕ × Command). eqb x.0 entry.0) e es in let more = entry_counts es entry m in omega (arith, c, more))

    all : (es : List (ℕ × Command)) → ((entry : ℕ × Command) → Among entry es → entry.0 < next r + taken) → Each (λ (entry : ℕ × Command). entry.0 < next r + taken) es
    all [] f = tt
    all (e ∷ es) f = (f e (inl refl), all es (λ entry m. f entry (inr m)))

    low : (slot : ℕ) → 1 ≤ takers r slot → slot < next r + taken
    low slot some = elim (cases_lt slot (next r + taken)) [
      | inl under ↦ under
      | inr over ↦ (let once = a.once slot in let none = one_no (in_range (next r) taken slot) (range_behind (next r) taken slot over) in absurd (omega (arith, once, none, some)))
    ]

-- ---- what is under way is no act

pub plain_acts : (begun : Requests) (frame : Frame) (c : Command) → IsPlainCommand begun frame c → is_act c ≡ false
plain_acts begun frame (Call client seq op) p = refl
plain_acts begun frame _ p = absurd p

-- where all that is under way is as P says, no such command is an act, and none waits, only the queue of requests is looked into
module _ (P : Command → Type 0) (no_act : (command : Command) → P command → is_act command ≡ false) (r : ReplicaState) (flights : Each (λ (flight : Flight Command). P flight.value) r.leader.flights) (ready : Each (λ (entry : ℕ × Command). P entry.1) r.ready) where
  one_other : (slot : ℕ) (o : Option (Flight Command)) (p : Option Command) → flight_at slot r.leader.flights ≡ o → at_slot r.ready slot ≡ p
      → list_any is_act (listed (either (option_map (λ (flight : Flight Command). flight.value) o) p)) ≡ false
  one_other slot (Some flight) p e f =
      let found = find_found (λ (flight : Flight Command). eqb flight.slot slot) r.leader.flights flight e in
      ap (λ b. b || false) (no_act flight.value (Each-among (λ (x : Flight Command). P x.value) r.leader.flights flight flights found.0))
  one_other slot None (Some command) e f =
      let found = at_found r.ready slot command f in
      ap (λ b. b || false) (no_act command (Each-among (λ (entry : ℕ × Command). P entry.1) r.ready (slot, command) ready found.1))
  one_other slot None None e f = refl

  any_append : (xs ys : List Command) → list_any is_act xs ≡ false → list_any is_act ys ≡ false → list_any is_act (xs ++ ys) ≡ false
  any_append [] ys e f = f
  any_append (x ∷ xs) ys e f = (let parts = or_parts (is_act x) (list_any is_act xs) e in or_from (is_act x) (list_any is_act (xs ++ ys)) parts.0 (any_append xs ys parts.1 f))

  no_acts : (slots : List ℕ) → list_any is_act (taken_from r slots) ≡ false
  no_acts [] = refl
  no_acts (slot ∷ slots) = any_append (listed (taken_at r slot)) (taken_from r slots) (one_other slot (flight_at slot r.leader.flights) (at_slot r.ready slot) refl refl) (no_acts slots)

  pub requests_only : (mails : List Mail) → r.acts ≡ [] → from_queues (r, mails) ≡ from_backlog (r, mails)
  unfolding from_queues
  requests_only mails none = cond-false (list_any is_act (under_way r)) (None, (r, mails)) (from_acts r.acts (r, mails)) (no_acts (open_slots r)) ∙ ap (λ acts. from_acts acts (r, mails)) none

-- an offer takes the slot behind those that are taken
pub offer_taken : (slot taken : ℕ) (set : List ℕ) (command : Command) (r : ReplicaState) (mails : List Mail) → slot ≡ next r + taken → ((s : ℕ) → takers r s ≡ one_if (in_range (next r) taken s)) → (s : ℕ) → takers (offered slot set command (r, mails)).0 s ≡ one_if (in_range (next r) (taken + 1) s)
unfolding offered
offer_taken slot taken set command r mails at once s =
    let push = count-push (λ (f : Flight Command). eqb f.slot s) r.leader.flights (record { slot = slot; value = command; voters = None }) in
    let before = once s in
    let more = range_more (next r) taken s in
    let same : one_if (eqb slot s) ≡ one_if (eqb (next r + taken) s) = ap (λ n. one_if (eqb n s)) at in
    omega (arith, push, before, more, same)

-- ---- a leader in the midst of a row

-- a request of a client, with this number or a later one, is queued or under way
pub record IsHeld (r : ReplicaState) (client seq : ℕ) : Type 0 where
  pub number : ℕ
  pub op : Op
  pub later : seq ≤ number
  pub where_ : Among (Call client number op) r.backlog
      ⊎ (((flight : Flight Command) × Among flight r.leader.flights × (flight.value ≡ Call client number op)) ⊎ ((slot : ℕ) × Among (slot, Call client number op) r.ready))

-- such a request is answered for good
pub record IsReportedOf (frame : Frame) (mails : List Mail) (client seq : ℕ) : Type 0 where
  pub number : ℕ
  pub answer : AnswerBody
  pub later : seq ≤ number
  pub taught_slots : Among (mail_of frame.lead (client_actor client) (Answer frame.core.id number answer)) mails

-- the slots of what is sent in a row: Accept of slots that were free, from `free` on, and Learn of those that were not executed, from `first` on
abbrev pub InRow : ℕ → ℕ → ℕ → ℕ → MailBody → Type 0
InRow first free next end (Accept group ballot slot command) = (free ≤ slot) × (slot < end)
InRow first free next end (Learn group slot command) = (first ≤ slot) × (slot < next)
InRow first free next end (Answer group seq answer) = Unit {0}
InRow first free next end _ = ⊥

pub later_row : (first free next end next' end' : ℕ) (body : MailBody) → next ≤ next' → end ≤ end' → InRow first free next end body → InRow first free next' end' body
later_row first free next end next' end' (Accept group ballot slot command) n e p = (let high = p.1 in (p.0, omega (arith, high, e)))
later_row first free next end next' end' (Learn group slot command) n e p = (let high = p.1 in (p.0, omega (arith, high, n)))
later_row first free next end next' end' (Answer group seq answer) n e p = tt
later_row first free next end next' end' _ n e p = absurd p

-- a mail of the row
pub record IsSaid (begun : Requests) (frame : Frame) (first free next end : ℕ) (mail : Mail) : Type 0 where
  pub plain : IsPlainBody begun frame mail.from mail.to mail.body
  pub in_row : InRow first free next end mail.body

-- a flight that the row began
pub record IsNew (free : ℕ) (flight : Flight Command) : Type 0 where
  pub late : free ≤ flight.slot
  pub unvoted : flight.voters ≡ None

-- the row began at the slot `first`, with all slots before `free` taken and these flights, and these requests are wanted. Now `taken` slots have a command
pub record Leads (begun : Requests) (frame : Frame) (first free : ℕ) (held : List (Flight Command)) (wanted : ℕ → ℕ → Type 0) (taken : ℕ) (place : Place) : Type 0 where
  pub plain : IsPlainReplica begun frame frame.lead place.0
  pub leader : IsPlainLeader begun frame taken place.0
  pub low : first ≤ next place.0
  pub reached : next place.0 ≤ free
  pub more : free ≤ next place.0 + taken
  pub begun_flights : List (Flight Command)
  pub flights_are : place.0.leader.flights ≡ held ++ begun_flights
  pub new : Each (IsNew free) begun_flights
  pub early : Each (λ (entry : ℕ × Command). entry.0 < free) place.0.ready
  pub said : Each (IsSaid begun frame first free (next place.0) (next place.0 + taken)) place.1
  pub learns : (who : ℕ) → is_member frame.core.members who ≡ true → (who ≡ frame.lead → ⊥) → learns_to frame.core.id who place.1 ≡ numbers_from first (next place.0 - first)
  pub offers : (slot who : ℕ) → free ≤ slot → slot < next place.0 + taken → Among who (frame.at slot) → (command : Command) × Among (mail_of frame.lead who (Accept frame.core.id frame.ballot slot command)) place.1
  pub backlog : (client seq : ℕ) → wanted client seq → IsHeld place.0 client seq ⊎ IsReportedOf frame place.1 client seq
