-- What is owed bounds the deliveries that were made and those that are to come.
use Rattle.std.proofs.Common.{◌≡◌, ℕ, zero, suc, ◌+◌, ◌-◌, ◌<◌, ◌≤◌, List, [], ◌∷◌, ◌++◌, Bool, true, false, cond, eqb, eq-eqb, find, refl, ◌∙◌, ap, subst, arith, get_or, None, Some, sum_by}
use Rattle.std.specs.List.{filter, count_by}
use Rattle.std.proofs.lemmas.List.Sums.{sum_by_push, sum_by-append}
use Rattle.std.specs.Option.{option_map}
use Rattle.sc_base.specs.Definitions.{Each}
use Rattle.sc_actor.specs.declared.actors.Seat.{Seat}
use Rattle.sc_actor.specs.declared.rows.Row.{Row}
use Rattle.sc_actor.specs.declared.rows.Event.{Event}
use Rattle.sc_actor.specs.declared.rows.Event.TheVariants.{Deliver, Tick, Go, Told, Crash, Drop, Again}
use Rattle.sc_actor.specs.declared.rows.Input.TheVariants.{Got, Go as GoInput}
use Rattle.sc_actor.specs.declared.schedules.Line.{Line}
use Rattle.sc_actor.specs.Definitions.{mails, copies, counts_at, numbered, is_delivery, value, acted, input_of, IsUnderWay, System, row_of, are_apart, IsLawful}
use Rattle.sc_actor.proofs.Lemmas.{waiting_one, value-snoc}
use Rattle.sc_live_orderly.specs.OrderlyDefinitions.{IsPlainLine, IsInOrder, mail_with, is_born, deliveries, Owing, Lowers, under_way, owed, owed_by, owed_at_birth}
use Rattle.sc_live_orderly.proofs.RowsOfSchedules.{orderly, by_rows}
use Rattle.sc_live_orderly.proofs.MailCopies.{taken_sum, filter_sum}
use Rattle.sc_live_orderly.proofs.RemainingMail.{after-row, is_born-from}
use Rattle.sc_live_orderly.proofs.SeatSums.{one_changes}

-- a count of rows after one more row
pub count_push : {X : Type 0} (test : X → Bool) (xs : List X) (x : X) (b : Bool) → test x ≡ b → count_by test (xs ++ x ∷ []) ≡ count_by test xs + cond b 1 0
count_push test xs x b e = sum_by_push (λ y. cond (test y) 1 0) xs x ∙ ap (λ c. count_by test xs + cond c 1 0) e

module _ {A M O : Type 0} (s : System A M O) where
  -- what the mail under way owes after one more row
  mail-row : (owes : M → ℕ) (rows : List (Row M O)) (row : Row M O) → sum_by owes (under_way s (rows ++ row ∷ [])) ≤ sum_by owes (mail_with (λ mail. is_born s (s.receiver mail)) (mails rows) (counts_at (copies rows) row.event)) + sum_by owes row.sent
  mail-row owes rows row =
      let test : M → Bool = λ mail. is_born s (s.receiver mail) in
      let left = mail_with test (mails rows) (counts_at (copies rows) row.event) in
      let fact = ap (sum_by owes) (after-row s test rows row) in
      let split = sum_by-append owes left (filter test row.sent) in
      let le = filter_sum test owes row.sent in
      omega (arith, fact, split, le)

  -- a delivery takes away what its mail owes
  pub delivered : (owes : M → ℕ) (rows : List (Row M O)) (number : ℕ) (mail : M) → is_born s (s.receiver mail) ≡ true → IsUnderWay s rows number mail →
      sum_by owes (under_way s rows) ≡ owes mail + sum_by owes (mail_with (λ mail. is_born s (s.receiver mail)) (mails rows) (counts_at {O = O} (copies rows) (Deliver number)))
  delivered owes rows zero mail born u = (let bad : None ≡ Some mail = u.sent in cc)
  delivered owes rows (suc place) mail born u =
      let minus : suc place - 1 ≡ place = omega arith in
      let some : 0 < get_or (copies rows) place 0 = subst (λ n. 0 < get_or (copies rows) n 0) minus u.copy in
      taken_sum (λ m. is_born s (s.receiver m)) owes (mails rows) (copies rows) place mail u.sent born some

module _ {A M O : Type 0} (s : System A M O) (apart : are_apart s.births ≡ true) where
  -- what all actors owe after one more row, against before
  actors-row : (owes : A → ℕ) (rows : List (Row M O)) (seat : Seat A) (event : Event O) → find (λ other. eqb other.who seat.who) s.births ≡ Some seat →
      sum_by (λ other. owes (value s.table other (rows ++ row_of s.table seat rows event ∷ []))) s.births + owes (value s.table seat rows)
      ≡ sum_by (λ other. owes (value s.table other rows)) s.births + owes (acted s.table (value s.table seat rows) (input_of (mails rows) event)).0
  actors-row owes rows seat event born =
      let row = row_of s.table seat rows event in
      let f : Seat A → ℕ = λ other. owes (value s.table other rows) in
      let g : Seat A → ℕ = λ other. owes (value s.table other (rows ++ row ∷ [])) in
      let stays : (other : Seat A) → eqb seat.who other.who ≡ false → g other ≡ f other =
      λ other e. ap owes (value-snoc s.table other rows row ∙ ap (λ b. cond b (acted s.table (value s.table other rows) (input_of (mails rows) event)).0 (value s.table other rows)) e) in
      let here : g seat ≡ owes (acted s.table (value s.table seat rows) (input_of (mails rows) event)).0 =
      ap owes (value-snoc s.table seat rows row ∙ ap (λ b. cond b (acted s.table (value s.table seat rows) (input_of (mails rows) event)).0 (value s.table seat rows)) (eq-eqb seat.who seat.who refl)) in
      one_changes f g seat.who stays s.births seat apart born ∙ ap (λ n. sum_by f s.births + n) here

  module _ (owing : Owing A M) where
    -- a row pays: a delivery lowers by one at least what its actor and its mail owe, and one that goes raises nothing
    abbrev pub IsPaid : List (Row M O) → Seat A → Event O → Type 0
    IsPaid rows seat (Deliver number) =
        (mail : M) → numbered (mails rows) number ≡ Some mail → 1 + owed_by owing (s.table (value s.table seat rows) (Got mail)) ≤ owing.actor (value s.table seat rows) + owing.mail mail
    IsPaid rows seat Go = owed_by owing (s.table (value s.table seat rows) GoInput) ≤ owing.actor (value s.table seat rows)
    IsPaid rows seat Tick = Unit {0}
    IsPaid rows seat (Told order) = Unit {0}
    IsPaid rows seat Crash = Unit {0}
    IsPaid rows seat (Drop mail) = Unit {0}
    IsPaid rows seat (Again mail) = Unit {0}

    -- so deliveries and what is owed together do not rise
    pub pays : (rows : List (Row M O)) (seat : Seat A) (event : Event O) → find (λ other. eqb other.who seat.who) s.births ≡ Some seat → IsInOrder s rows seat.who event → IsPaid rows seat event →
        deliveries (rows ++ row_of s.table seat rows event ∷ []) + owed s owing (rows ++ row_of s.table seat rows event ∷ []) ≤ deliveries rows + owed s owing rows
    pays rows seat (Deliver number) born fine paid =
        let row = row_of s.table seat rows (Deliver number) in
        let w = waiting_one s rows seat.who 1 number fine in
        let input : input_of {O = O} (mails rows) (Deliver number) ≡ Some (Got w.0) = ap (λ o. option_map Got o) w.1.sent in
        let now = value s.table seat rows in
        let by_table = ap (λ i. owed_by owing (acted s.table now i)) input in
        let lower = paid w.0 w.1.sent in
        let actors = actors-row owing.actor rows seat (Deliver number) born in
        let mail = mail-row s owing.mail rows row in
        let took = delivered s owing.mail rows number w.0 (ap (is_born s) w.2 ∙ is_born-from s seat.who seat born) w.1 in
        let count = count_push (λ (r : Row M O). is_delivery r.event) rows row true refl in
        omega (arith, by_table, lower, actors, mail, took, count)
    pays rows seat Go born fine paid =
        let row = row_of s.table seat rows Go in
        let actors = actors-row owing.actor rows seat Go born in
        let mail = mail-row s owing.mail rows row in
        let count = count_push (λ (r : Row M O). is_delivery r.event) rows row false refl in
        omega (arith, paid, actors, mail, count)
    pays rows seat Tick born fine paid = absurd fine
    pays rows seat _ born fine paid = absurd fine

  module _ (owing : Owing A M) (lines : List (Line O)) (plain : Each IsPlainLine lines) (lowers : Lowers s owing lines) where
    all_paid : (rows : List (Row M O)) (seat : Seat A) (event : Event O) → find (λ other. eqb other.who seat.who) s.births ≡ Some seat → IsLawful s lines (rows ++ row_of s.table seat rows event ∷ []) → IsPaid owing rows seat event
    all_paid rows seat (Deliver number) born lawful = λ mail sent. lowers.delivery rows seat number mail born sent lawful
    all_paid rows seat Go born lawful = lowers.go rows seat born lawful
    all_paid rows seat _ born lawful = tt

    -- the deliveries made, and what is owed still, are no more than was owed at birth
    pub deliveries_are_owed : (journal : List (Row M O)) → IsLawful s lines journal → deliveries journal + owed s owing journal ≤ owed_at_birth s owing
    deliveries_are_owed journal lawful =
        by_rows s lines (λ rows. deliveries rows + owed s owing rows ≤ owed_at_birth s owing) (omega arith)
        (λ rows row l le.
        let o = orderly s lines rows row plain l in
        let pay = pays owing rows o.seat o.event o.born o.in_order (all_paid rows o.seat o.event o.born (subst (λ r. IsLawful s lines (rows ++ r ∷ [])) o.row_is l)) in
        let same = ap (λ r. deliveries (rows ++ r ∷ []) + owed s owing (rows ++ r ∷ [])) o.row_is in
        omega (arith, pay, same, le))
        journal lawful
