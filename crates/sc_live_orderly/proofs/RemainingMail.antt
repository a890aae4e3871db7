-- What is left of an actor's mail after a calm row.
use Rattle.std.proofs.Common.{◌≡◌, ℕ, zero, suc, ◌+◌, ◌-◌, ◌≤◌, List, [], ◌∷◌, ◌++◌, length, Bool, true, false, true≢false, cond, eqb, ◌&&◌, ◌||◌, not, find, drop, replicate, refl, sym, ◌∙◌, ap, subst, arith, get_or, set, Option, None, Some}
use Rattle.std.specs.Prelude.{slice_get, is_none}
use Rattle.std.specs.List.{filter, list_any}
use Rattle.std.proofs.lemmas.Bool.{eqb-true, and_right}
use Rattle.std.proofs.lemmas.List.Folds.{list_any-append}
use Rattle.sc_base.specs.Definitions.{Each}
use Rattle.sc_actor.specs.declared.actors.Seat.{Seat}
use Rattle.sc_actor.specs.declared.rows.Row.{Row}
use Rattle.sc_actor.specs.declared.rows.Event.{Event}
use Rattle.sc_actor.specs.declared.rows.Event.TheVariants.{Deliver, Go, Told}
use Rattle.sc_actor.specs.declared.schedules.Line.{Line}
use Rattle.sc_actor.specs.Definitions.{mails, copies, counts_at, numbers, numbered, may_get, is_for, is_crash, is_delivery, System, numbers_of, row_of, waiting, kth, IsLawful, is_quiet}
use Rattle.sc_actor.proofs.Lemmas.{counted, length-counts_at, first_is, wide_none, mails-snoc, copies-snoc, lawful-prefix}
use Rattle.sc_live_orderly.specs.OrderlyDefinitions.{IsPlainLine, IsCalmLine, IsOrderly, IsCalmEvent, IsCalmRow, IsTidy, mail_with, rest, mail_for, is_born, taken}
use Rattle.sc_live_orderly.proofs.RowsOfSchedules.{Each-append, plain_are_calm, orderly_is_calm, calm_row, by_rows}
use Rattle.sc_live_orderly.proofs.MailCopies.{Foremost, less_at, foremost, mail_with-append, mail_with-ones, mail_with-other, numbers-agree}

-- ---- no copy is repeated, and nobody crashes

set_once : (counts : List ℕ) (place count : ℕ) → count ≤ 1 → Each (λ n. n ≤ 1) counts → Each (λ n. n ≤ 1) (set counts place count)
set_once [] place count le all = tt
set_once (c ∷ counts) zero count le all = (le, all.1)
set_once (c ∷ counts) (suc place) count le all = (all.0, set_once counts place count le all.1)

get_once : (counts : List ℕ) (place : ℕ) → Each (λ n. n ≤ 1) counts → get_or counts place 0 ≤ 1
get_once [] place all = omega arith
get_once (c ∷ counts) zero all = all.0
get_once (c ∷ counts) (suc place) all = get_once counts place all.1

ones_once : (count : ℕ) → Each (λ n. n ≤ 1) (replicate count 1)
ones_once zero = tt
ones_once (suc count) = (omega arith, ones_once count)

module _ {A M O : Type 0} (s : System A M O) where
  event_once : (rows : List (Row M O)) (who : ℕ) (counts : List ℕ) (event : Event O) → IsCalmEvent s rows who event → Each (λ n. n ≤ 1) counts → Each (λ n. n ≤ 1) (counts_at counts event)
  event_once rows who counts (Deliver zero) fine all = all
  event_once rows who counts (Deliver (suc place)) fine all = let le = get_once counts place all in set_once counts place (get_or counts place 0 - 1) (omega (arith, le)) all
  event_once rows who counts Go fine all = all
  event_once rows who counts (Told order) fine all = all
  event_once rows who counts _ fine all = absurd fine

  no_crash : (rows : List (Row M O)) (who : ℕ) (event : Event O) → IsCalmEvent s rows who event → is_crash event ≡ false
  no_crash rows who (Deliver number) fine = refl
  no_crash rows who Go fine = refl
  no_crash rows who (Told order) fine = refl
  no_crash rows who _ fine = absurd fine

  -- a calm row keeps the journal tidy
  pub tidy-row : (rows : List (Row M O)) (row : Row M O) → IsTidy rows → IsCalmRow s rows row → IsTidy (rows ++ row ∷ [])
  tidy-row rows row t o =
      let event : o.event ≡ row.event = sym (ap (λ (r : Row M O). r.event) o.row_is) in
      let calm : is_crash row.event ≡ false = subst (λ (e : Event O). is_crash e ≡ false) event (no_crash rows o.seat.who o.event o.calm) in
      let once : Each (λ n. n ≤ 1) (counts_at (copies rows) row.event) = subst (λ (e : Event O). Each (λ n. n ≤ 1) (counts_at (copies rows) e)) event (event_once rows o.seat.who (copies rows) o.event o.calm t.copies) in
      record {
        copies = subst (λ counts. Each (λ n. n ≤ 1) counts) (sym (copies-snoc rows row)) (Each-append (λ n. n ≤ 1) (counts_at (copies rows) row.event) (replicate (length row.sent) 1) once (ones_once (length row.sent)));
        alive = λ who.
            list_any-append (λ (r : Row M O). eqb r.who who && is_crash r.event) rows (row ∷ [])
            ∙ (ap (λ b. b || ((eqb row.who who && is_crash row.event) || false)) (t.alive who) ∙ ap (λ b. b || false) (and_right (eqb row.who who) (is_crash row.event) calm));
      }

  -- every lawful journal of calm lines is tidy
  pub tidy-calm : (lines : List (Line O)) (journal : List (Row M O)) → Each IsCalmLine lines → IsLawful s lines journal → IsTidy journal
  tidy-calm lines journal calm lawful =
      by_rows s lines IsTidy (record { copies = tt; alive = λ who. refl }) (λ rows row l t. tidy-row rows row t (calm_row s lines rows row calm l)) journal lawful

  -- so is every lawful journal of plain lines
  pub tidy : (lines : List (Line O)) (journal : List (Row M O)) → Each IsPlainLine lines → IsLawful s lines journal → IsTidy journal
  tidy lines journal plain lawful = tidy-calm lines journal (plain_are_calm lines plain) lawful

  -- ---- who may get mail

  born_by : (seats : List (Seat A)) (who : ℕ) (seat : Seat A) → find (λ other. eqb other.who who) seats ≡ Some seat → list_any (λ actor. eqb actor who) (numbers_of seats) ≡ true
  born_by [] who seat e = cc
  born_by (s' ∷ seats) who seat e = by (eqb s'.who who) (born_by seats who seat) e
    where
      by : (b : Bool) → (find (λ other. eqb other.who who) seats ≡ Some seat → list_any (λ actor. eqb actor who) (numbers_of seats) ≡ true) → cond b (Some s') (find (λ other. eqb other.who who) seats) ≡ Some seat → (b || list_any (λ actor. eqb actor who) (numbers_of seats)) ≡ true
      by true more e' = refl
      by false more e' = more e'

  -- a seat that is found is born
  pub is_born-from : (who : ℕ) (seat : Seat A) → find (λ other. eqb other.who who) s.births ≡ Some seat → is_born s who ≡ true
  is_born-from who seat e = born_by s.births who seat e

  -- in a tidy journal who is born may get mail
  pub may-born : (rows : List (Row M O)) (who : ℕ) → IsTidy rows → may_get (numbers_of s.births) rows who ≡ is_born s who
  may-born rows who t = ap (λ b. is_born s who && not b) (t.alive who) ∙ both (is_born s who)
    where
      both : (b : Bool) → (b && true) ≡ b
      both true = refl
      both false = refl

  for_one : (rows : List (Row M O)) (who : ℕ) → IsTidy rows → is_born s who ≡ true → (m : M) → is_for s.receiver (numbers_of s.births) rows (Some who) m ≡ eqb (s.receiver m) who
  for_one rows who t born m = ap (λ b. eqb (s.receiver m) who && b) (may-born rows who t ∙ born) ∙ both (eqb (s.receiver m) who)
    where
      both : (b : Bool) → (b && true) ≡ b
      both true = refl
      both false = refl

  -- the first pending mail of an actor is the first that it has not taken
  pub first-rest : (rows : List (Row M O)) (who number : ℕ) → IsTidy rows → is_born s who ≡ true → kth (waiting s rows (Some who)) 1 ≡ Some number → Foremost (λ mail. eqb (s.receiver mail) who) 1 (mails rows) (copies rows) number
  first-rest rows who number t born e =
      let same = numbers-agree (is_for s.receiver (numbers_of s.births) rows (Some who)) (λ mail. eqb (s.receiver mail) who) (for_one rows who t born) 1 (mails rows) (copies rows) in
      foremost (λ mail. eqb (s.receiver mail) who) 1 (mails rows) (copies rows) number (ap (λ xs. slice_get xs 0) (sym same) ∙ e)

  -- ---- one more row

  -- what a row sends comes behind what is left of the mail before it
  pub after-row : (test : M → Bool) (rows : List (Row M O)) (row : Row M O) → mail_with test (mails (rows ++ row ∷ [])) (copies (rows ++ row ∷ [])) ≡ mail_with test (mails rows) (counts_at (copies rows) row.event) ++ filter test row.sent
  after-row test rows row =
      ap (λ sent. mail_with test sent (copies (rows ++ row ∷ []))) (mails-snoc rows row)
      ∙ (ap (λ counts. mail_with test (mails rows ++ row.sent) counts) (copies-snoc rows row)
      ∙ (mail_with-append test (mails rows) row.sent (counts_at (copies rows) row.event) (replicate (length row.sent) 1) (length-counts_at (copies rows) row.event ∙ counted rows)
      ∙ ap (λ xs. mail_with test (mails rows) (counts_at (copies rows) row.event) ++ xs) (mail_with-ones test row.sent)))

  at_zero : {X : Type 0} (xs : List X) → drop 0 xs ≡ xs
  at_zero [] = refl
  at_zero (x ∷ xs) = refl

  -- what a delivery takes: the first of the receiver's mail
  taken_by : (rows : List (Row M O)) (maker who number : ℕ) → Foremost (λ mail. eqb (s.receiver mail) maker) 1 (mails rows) (copies rows) number →
      (b : Bool) → eqb maker who ≡ b → mail_with (λ mail. eqb (s.receiver mail) who) (mails rows) (counts_at {O = O} (copies rows) (Deliver number)) ≡ drop (cond (b && true) 1 0) (rest s rows who)
  taken_by rows maker who number f true same =
      let at : counts_at {O = O} (copies rows) (Deliver number) ≡ less_at (copies rows) f.place = ap (λ n. counts_at {O = O} (copies rows) (Deliver n)) (f.number_is ∙ one_more f.place) in
      let to : maker ≡ who = eqb-true maker who same in
      let left : rest s rows maker ≡ f.mail ∷ mail_with (λ mail. eqb (s.receiver mail) maker) (mails rows) (less_at (copies rows) f.place) = f.left in
      ap (λ counts. mail_with (λ mail. eqb (s.receiver mail) who) (mails rows) counts) at
      ∙ (ap (λ n. mail_with (λ mail. eqb (s.receiver mail) n) (mails rows) (less_at (copies rows) f.place)) (sym to) ∙ (sym (ap (λ xs. drop 1 xs) left) ∙ ap (λ n. drop 1 (rest s rows n)) to))
    where
      one_more : (place : ℕ) → 1 + place ≡ suc place
      one_more place = omega arith
  taken_by rows maker who number f false other =
      let at : counts_at {O = O} (copies rows) (Deliver number) ≡ less_at (copies rows) f.place = ap (λ n. counts_at {O = O} (copies rows) (Deliver n)) (f.number_is ∙ one_more f.place) in
      let to : s.receiver f.mail ≡ maker = eqb-true (s.receiver f.mail) maker f.passes in
      ap (λ counts. mail_with (λ mail. eqb (s.receiver mail) who) (mails rows) counts) at
      ∙ (mail_with-other (λ mail. eqb (s.receiver mail) who) (mails rows) (copies rows) f.place (get_or (copies rows) f.place 0 - 1) f.mail f.at (ap (λ n. eqb n who) to ∙ other)
      ∙ sym (at_zero (rest s rows who)))
    where
      one_more : (place : ℕ) → 1 + place ≡ suc place
      one_more place = omega arith

  left_by : (rows : List (Row M O)) (maker who : ℕ) (event : Event O) → IsTidy rows → is_born s maker ≡ true → IsCalmEvent s rows maker event → mail_with (λ mail. eqb (s.receiver mail) who) (mails rows) (counts_at (copies rows) event) ≡ drop (cond (eqb maker who && is_delivery event) 1 0) (rest s rows who)
  left_by rows maker who (Deliver number) t born fine = taken_by rows maker who number (first-rest rows maker number t born fine) (eqb maker who) refl
  left_by rows maker who Go t born fine = sym (ap (λ b. drop (cond b 1 0) (rest s rows who)) (and_right (eqb maker who) false refl) ∙ at_zero (rest s rows who))
  left_by rows maker who (Told order) t born fine = sym (ap (λ b. drop (cond b 1 0) (rest s rows who)) (and_right (eqb maker who) false refl) ∙ at_zero (rest s rows who))
  left_by rows maker who _ t born fine = absurd fine

  -- after a calm row: the receiver's mail without its first, and what the row sends behind
  pub rest-calm : (rows : List (Row M O)) (row : Row M O) (who : ℕ) → IsTidy rows → IsCalmRow s rows row → rest s (rows ++ row ∷ []) who ≡ drop (taken who row) (rest s rows who) ++ mail_for s who row.sent
  rest-calm rows row who t o =
      let born = is_born-from o.seat.who o.seat o.born in
      let made = row_of s.table o.seat rows o.event in
      let left : mail_with (λ mail. eqb (s.receiver mail) who) (mails rows) (counts_at (copies rows) made.event) ≡ drop (taken who made) (rest s rows who) = left_by rows o.seat.who who o.event t born o.calm in
      let left' = subst (λ (r : Row M O). mail_with (λ mail. eqb (s.receiver mail) who) (mails rows) (counts_at (copies rows) r.event) ≡ drop (taken who r) (rest s rows who)) (sym o.row_is) left in
      after-row (λ mail. eqb (s.receiver mail) who) rows row ∙ ap (λ xs. xs ++ mail_for s who row.sent) left'

  pub rest-row : (rows : List (Row M O)) (row : Row M O) (who : ℕ) → IsTidy rows → IsOrderly s rows row → rest s (rows ++ row ∷ []) who ≡ drop (taken who row) (rest s rows who) ++ mail_for s who row.sent
  rest-row rows row who t o = rest-calm rows row who t (orderly_is_calm s rows row o)

-- The mail that a delivery takes: it is the first that its receiver has not taken.
pub record TakesFirst {A M O : Type 0} (s : System A M O) (rows : List (Row M O)) (who number : ℕ) : Type 0 where
  pub mail : M
  pub sent : numbered (mails rows) number ≡ Some mail
  pub receiver : s.receiver mail ≡ who
  pub behind : List M
  pub first : rest s rows who ≡ mail ∷ behind

module _ {A M O : Type 0} (s : System A M O) where
  -- a delivery in order takes the first mail that its receiver has not taken
  pub takes_first : (rows : List (Row M O)) (who number : ℕ) → IsTidy rows → is_born s who ≡ true → kth (waiting s rows (Some who)) 1 ≡ Some number → TakesFirst s rows who number
  takes_first rows who number t born e =
      let f = first-rest s rows who number t born e in
      let at : number ≡ suc f.place = omega (arith, f.number_is) in
      record {
        mail = f.mail;
        sent = ap (λ n. numbered (mails rows) n) at ∙ f.at;
        receiver = eqb-true (s.receiver f.mail) who f.passes;
        behind = mail_with (λ mail. eqb (s.receiver mail) who) (mails rows) (less_at (copies rows) f.place);
        first = f.left;
      }

  -- ---- quiet

  -- where no number passes the test, no mail does
  pub empty_by : {M' : Type 0} (test : M' → Bool) (first : ℕ) (sent : List M') (counts : List ℕ) → is_none (slice_get (numbers test first sent counts) 0) ≡ true → mail_with test sent counts ≡ []
  empty_by test first [] counts none = refl
  empty_by test first (m ∷ sent) [] none = refl
  empty_by test first (m ∷ sent) (c ∷ counts) none = by (test m) c none (empty_by test (suc first) sent counts)
    where
      by : (b : Bool) (c : ℕ) → is_none (slice_get (cond b (replicate c first) [] ++ numbers test (suc first) sent counts) 0) ≡ true → (is_none (slice_get (numbers test (suc first) sent counts) 0) ≡ true → mail_with test sent counts ≡ []) → cond b (replicate c m) [] ++ mail_with test sent counts ≡ []
      by true zero none' more = more none'
      by true (suc c) none' more = absurd (true≢false (sym none'))
      by false c none' more = more none'

  -- in a quiet journal nothing is left of the mail of any actor
  pub quiet-empty : (rows : List (Row M O)) (who : ℕ) → IsTidy rows → is_born s who ≡ true → is_quiet s rows ≡ true → rest s rows who ≡ []
  quiet-empty rows who t born quiet =
      let may : may_get (numbers_of s.births) rows who ≡ true = may-born s rows who t ∙ born in
      empty_by (λ mail. eqb (s.receiver mail) who) 1 (mails rows) (copies rows)
      (wide_none (is_for s.receiver (numbers_of s.births) rows None) (λ mail. eqb (s.receiver mail) who) (λ m to. ap (λ w. may_get (numbers_of s.births) rows w) (eqb-true (s.receiver m) who to) ∙ may) 1 (mails rows) (copies rows) quiet)

  -- a journal is quiet where nothing is left of the mail of any actor
  pub empty-quiet : (rows : List (Row M O)) → IsTidy rows → ((who : ℕ) → is_born s who ≡ true → rest s rows who ≡ []) → is_quiet s rows ≡ true
  empty-quiet rows t empty = by (kth (waiting s rows None) 1) refl
    where
      by : (o : Option ℕ) → kth (waiting s rows None) 1 ≡ o → is_none o ≡ true
      by None e = refl
      by (Some number) e =
          let f = first_is s rows number e in
          let born : is_born s (s.receiver f.0) ≡ true = sym (may-born s rows (s.receiver f.0) t) ∙ f.2 in
          let first = takes_first rows (s.receiver f.0) number t born f.3 in
          let none : first.mail ∷ first.behind ≡ [] = sym first.first ∙ empty (s.receiver f.0) born in
          cc

-- ---- of lawful journals

module _ {A M O : Type 0} (s : System A M O) (lines : List (Line O)) (calm : Each IsCalmLine lines) where
  -- what is left of an actor's mail after one more row of a lawful journal
  pub rest-lawful : (rows : List (Row M O)) (row : Row M O) (who : ℕ) → IsLawful s lines (rows ++ row ∷ []) → rest s (rows ++ row ∷ []) who ≡ drop (taken who row) (rest s rows who) ++ mail_for s who row.sent
  rest-lawful rows row who lawful =
      rest-calm s rows row who (tidy-calm s lines rows calm (lawful-prefix s lines rows (row ∷ []) lawful)) (calm_row s lines rows row calm lawful)

  -- what a delivery of a lawful journal takes
  pub takes-lawful : (rows : List (Row M O)) (row : Row M O) (number : ℕ) → IsLawful s lines (rows ++ row ∷ []) → row.event ≡ Deliver number → TakesFirst s rows row.who number
  takes-lawful rows row number lawful event =
      let o = calm_row s lines rows row calm lawful in
      let who : o.seat.who ≡ row.who = sym (ap (λ (r : Row M O). r.who) o.row_is) in
      let fact : o.event ≡ Deliver number = sym (ap (λ (r : Row M O). r.event) o.row_is) ∙ event in
      let first : kth (waiting s rows (Some o.seat.who)) 1 ≡ Some number = subst (λ (e : Event O). IsCalmEvent s rows o.seat.who e) fact o.calm in
      let t = tidy-calm s lines rows calm (lawful-prefix s lines rows (row ∷ []) lawful) in
      subst (λ w. TakesFirst s rows w number) who (takes_first s rows o.seat.who number t (is_born-from s o.seat.who o.seat o.born) first)

  pub first-lawful : (rows : List (Row M O)) (row : Row M O) (number : ℕ) → IsLawful s lines (rows ++ row ∷ []) → row.event ≡ Deliver number → (mail : M) × (numbered (mails rows) number ≡ Some mail) × (s.receiver mail ≡ row.who) × (slice_get (rest s rows row.who) 0 ≡ Some mail)
  first-lawful rows row number lawful event =
      let t = takes-lawful rows row number lawful event in
      (t.mail, t.sent, t.receiver, ap (λ xs. slice_get xs 0) t.first)

  pub quiet-lawful : (rows : List (Row M O)) (who : ℕ) → IsLawful s lines rows → is_born s who ≡ true → is_quiet s rows ≡ true → rest s rows who ≡ []
  quiet-lawful rows who lawful born quiet = quiet-empty s rows who (tidy-calm s lines rows calm lawful) born quiet

  pub empty-lawful : (rows : List (Row M O)) → IsLawful s lines rows → ((who : ℕ) → is_born s who ≡ true → rest s rows who ≡ []) → is_quiet s rows ≡ true
  empty-lawful rows lawful none = empty-quiet s rows (tidy-calm s lines rows calm lawful) none
