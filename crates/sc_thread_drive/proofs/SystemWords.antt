-- What the walk allows, told of the network's port and the shells.
use Rattle.std.proofs.Common.{◌≡◌, ◌≢◌, ℕ, zero, suc, ◌<◌, ◌≤◌, Bool, true, false, true≢false, eqb, eq-eqb, cond, not, ◌||◌, ◌&&◌, replicate, find, List, [], ◌∷◌, ◌++◌, length, get_or, refl, sym, ap, ◌∙◌, subst, arith, Some, None}
use Rattle.std.specs.List.{list_any}
use Rattle.std.specs.Option.{option_map}
use Rattle.std.proofs.lemmas.Bool.{and_parts, or_parts, not-true}
use Rattle.std.proofs.lemmas.List.Folds.{list_any-append}
use Rattle.sc_actor.specs.declared.actors.Actor.{Ghosts}
use Rattle.sc_actor.specs.declared.actors.Parcel.{Ghosts as MailGhosts}
use Rattle.sc_actor.specs.declared.actors.Seat.{Seat}
use Rattle.sc_actor.specs.declared.rows.Row.{Row}
use Rattle.sc_actor.specs.declared.rows.Event.{Event}
use Rattle.sc_actor.specs.Mail.{mails, copies, numbers, is_for, may_get, has_crashed, is_crash}
use Rattle.sc_actor.specs.System.{System, system, numbers_of, row_of, acts, waiting, kth, has_started, is_go}
use Rattle.sc_thread_ledger.specs.Pending.{upto, kth_pending}
use Rattle.sc_thread_ports.specs.declared.exchange.ports.Port.{Port}
use Rattle.sc_thread_ports.specs.exchange.Ports.{seen}
use Rattle.sc_thread_ports.proofs.ExchangeProofs.Addressing.{crashed_own}
use Rattle.sc_thread_work.specs.declared.shell.shells.Shell.{Shell}
use Rattle.sc_thread_workers.specs.Crews.{crew_numbers}
use Rattle.sc_thread_workers.proofs.Serving.{crashed_is}
use Rattle.sc_thread_drive.specs.Numbers.{is_in, apart}
use Rattle.sc_thread_drive.specs.Companies.{IsCompany}
use Rattle.sc_thread_drive.proofs.ActRows.{birth_number}
use Rattle.std.proofs.lemmas.List.{length-map}
use Rattle.sc_thread_drive.proofs.RowCounts.{flip}
use Rattle.std.proofs.Math.Bool.{or-false}

or_left : (a b : Bool) → a ≡ true → (a || b) ≡ true
or_left true b e = refl
or_left false b e = absurd (true≢false (sym e))

or_right : (a b : Bool) → b ≡ true → (a || b) ≡ true
or_right true b e = refl
or_right false b e = e

-- the actors of the exchange
pub upto_has : (n r : ℕ) → 0 < r → r ≤ n → list_any (λ a. eqb a r) (upto n) ≡ true
upto_has zero r some le = absurd (omega arith)
upto_has (suc n) r some le = list_any-append (λ a. eqb a r) (upto n) (suc n ∷ []) ∙ by (eqb (suc n) r) refl (upto_has n r some)
  where
    by : (b : Bool) → eqb (suc n) r ≡ b → (r ≤ n → list_any (λ a. eqb a r) (upto n) ≡ true) → (list_any (λ a. eqb a r) (upto n) || (eqb (suc n) r || false)) ≡ true
    by true is rest = or_right (list_any (λ a. eqb a r) (upto n)) (eqb (suc n) r || false) (or_left (eqb (suc n) r) false is)
    by false is rest = or_left (list_any (λ a. eqb a r) (upto n)) (eqb (suc n) r || false) (rest (omega (arith, le, ne)))
      where
        ne : r ≢ suc n
        ne = λ e. true≢false (sym (eq-eqb (suc n) r (sym e)) ∙ is)

module _ {A : Type 0} where
  -- the number of a seat is among the numbers
  pub births_have : (births : List (Seat A)) (k : ℕ) (e : Seat A) → k < length births → list_any (λ a. eqb a (get_or births k e).who) (numbers_of births) ≡ true
  births_have [] k e lt = absurd (omega arith)
  births_have (b ∷ births) zero e lt = or_left (eqb b.who b.who) (list_any (λ a. eqb a b.who) (numbers_of births)) (eq-eqb b.who b.who refl)
  births_have (b ∷ births) (suc k) e lt = or_right (eqb b.who (get_or births k e).who) (list_any (λ a. eqb a (get_or births k e).who) (numbers_of births)) (births_have births k e (omega (arith, lt)))

  -- a number that is nowhere is not that of a seat
  other_at : (n : ℕ) (births : List (Seat A)) (k : ℕ) (e : Seat A) → is_in n (numbers_of births) ≡ false → k < length births → eqb n (get_or births k e).who ≡ false
  other_at n [] k e out lt = absurd (omega arith)
  other_at n (b ∷ births) zero e out lt = (or_parts (eqb n b.who) (is_in n (numbers_of births)) out).0
  other_at n (b ∷ births) (suc k) e out lt = other_at n births k e (or_parts (eqb n b.who) (is_in n (numbers_of births)) out).1 (omega (arith, lt))

  -- the seat of a number
  pub find_at : (births : List (Seat A)) (k : ℕ) (e : Seat A) → apart (numbers_of births) ≡ true → k < length births → find (λ seat. eqb seat.who (get_or births k e).who) births ≡ Some (get_or births k e)
  find_at [] k e far lt = absurd (omega arith)
  find_at (b ∷ births) zero e far lt = ap (λ c. cond c (Some b) (find (λ seat. eqb seat.who b.who) births)) (eq-eqb b.who b.who refl)
  find_at (b ∷ births) (suc k) e far lt =
      let parts = and_parts (not (is_in b.who (numbers_of births))) (apart (numbers_of births)) far in
      ap (λ c. cond c (Some b) (find (λ seat. eqb seat.who (get_or births k e).who) births)) (other_at b.who births k e (not-true (is_in b.who (numbers_of births)) parts.0) (omega (arith, lt)))
      ∙ find_at births k e parts.1 (omega (arith, lt))

  pub find_none : (births : List (Seat A)) (who : ℕ) → is_in who (numbers_of births) ≡ false → find (λ seat. eqb seat.who who) births ≡ None
  find_none [] who out = refl
  find_none (b ∷ births) who out =
      let parts = or_parts (eqb who b.who) (is_in who (numbers_of births)) out in
      ap (λ c. cond c (Some b) (find (λ seat. eqb seat.who who) births)) (flip b.who who ∙ parts.0) ∙ find_none births who parts.1

-- a number that is in no list
pub any_out : (who : ℕ) (ws : List ℕ) → is_in who ws ≡ false → list_any (λ a. eqb a who) ws ≡ false
any_out who [] out = refl
any_out who (w ∷ ws) out =
    let parts = or_parts (eqb who w) (is_in who ws) out in
    ap (λ b. b || list_any (λ a. eqb a who) ws) (flip w who ∙ parts.0) ∙ any_out who ws parts.1

numbers_none : {M : Type 0} (test : M → Bool) (n : ℕ) (xs : List M) (cs : List ℕ) → ((m : M) → test m ≡ false) → numbers test n xs cs ≡ []
numbers_none test n [] cs fails = refl
numbers_none test n (x ∷ xs) [] fails = refl
numbers_none test n (x ∷ xs) (c ∷ cs) fails = ap (λ b. cond b (replicate c n) [] ++ numbers test (suc n) xs cs) (fails x) ∙ numbers_none test (suc n) xs cs fails

and_none : (a b : Bool) → b ≡ false → (a && b) ≡ false
and_none true b e = e
and_none false b e = refl

kth_nil : (k : ℕ) → kth [] k ≡ None
kth_nil zero = refl
kth_nil (suc k) = refl

-- who was told to go, after one row more
pub gone_push : {M O : Type 0} (rows : List (Row M O)) (row : Row M O) (who : ℕ) → is_go row.event ≡ false → has_started (rows ++ row ∷ []) who ≡ has_started rows who
gone_push rows row who none =
    list_any-append (λ r. eqb r.who who && is_go r.event) rows (row ∷ [])
    ∙ (ap (λ b. has_started rows who || ((eqb row.who who && b) || false)) none ∙ (ap (λ b. has_started rows who || (b || false)) (and_false (eqb row.who who)) ∙ or-false (has_started rows who)))
  where
    and_false : (b : Bool) → (b && false) ≡ false
    and_false true = refl
    and_false false = refl

module _ {A M O : Type 0} {g : Ghosts A M O} {h : MailGhosts M} (words : ℕ → ℕ → ℕ × ℕ) (births : List (Seat A)) (net : Port M O h) (ss : List (Shell A M O g h)) (c : IsCompany births net ss) where
  -- the system of a company
  abbrev pub sys : System A M O
  sys = system g.table h.receiver words births

  births_far : apart (numbers_of births) ≡ true
  births_far = ap apart (sym c.born) ∙ (and_parts (not (is_in 0 (crew_numbers ss))) (apart (crew_numbers ss)) c.far).1

  -- there is a shell for each birth
  pub births_long : length births ≡ length ss
  births_long =
      let f : Shell A M O g h → ℕ = λ s. s.port.who in
      let b : Seat A → ℕ = λ s. s.who in
      sym (length-map births b) ∙ (ap length (sym c.born) ∙ length-map ss f)

  module _ (k : ℕ) (lt : k < length ss) where
    inside : k < length births
    inside = omega (arith, lt, births_long)

    -- the row of an actor's event
    pub acts_at : (d : Shell A M O g h) (e : Seat A) (rows : List (Row M O)) (event : Event O) → acts sys rows (get_or ss k d).port.who event ≡ Some (row_of g.table (get_or births k e) rows event)
    acts_at d e rows event = ap (option_map (λ seat. row_of g.table seat rows event)) (ap (λ n. find (λ seat. eqb seat.who n) births) (sym (birth_number births net ss k d e c lt)) ∙ find_at births k e births_far inside)

    -- a shell records whether its actor has crashed
    pub crashed_at : (d : Shell A M O g h) → has_crashed (seen net) (get_or ss k d).port.who ≡ (get_or ss k d).port.crashed
    crashed_at d = crashed_own h.receiver net.actors (get_or ss k d).port.who (seen net) ∙ (ap (list_any (λ (row : Row M O). is_crash row.event)) (c.over k d lt).own ∙ sym (crashed_is (get_or ss k d).port))

    -- pending mail is the same to the exchange and to the system
    pub waiting_at : (d : Shell A M O g h) (rows : List (Row M O)) (n : ℕ) → kth_pending h.receiver net.actors rows (get_or ss k d).port.who n ≡ kth (waiting sys rows (Some (get_or ss k d).port.who)) n
    waiting_at d rows n = by (get_or ss k d).port.who refl
      where
        number : (get_or births k (record { who = 0; actor = d.actor })).who ≡ (get_or ss k d).port.who
        number = birth_number births net ss k d (record { who = 0; actor = d.actor }) c lt

        by : (who : ℕ) → (get_or ss k d).port.who ≡ who → kth_pending h.receiver net.actors rows who n ≡ kth (waiting sys rows (Some who)) n
        by zero is = absurd (let some = (get_or ss k d).numbered in omega (arith, is, some))
        by (suc w) is =
            let all : list_any (λ a. eqb a (suc w)) (upto net.actors) ≡ true = upto_has net.actors (suc w) (omega arith) (subst (λ v. v ≤ net.actors) is (c.within k d lt)) in
            let born : list_any (λ a. eqb a (suc w)) (numbers_of births) ≡ true = subst (λ v. list_any (λ a. eqb a v) (numbers_of births) ≡ true) (number ∙ is) (births_have births k (record { who = 0; actor = d.actor }) inside) in
            λ i. kth (numbers (λ m. eqb (h.receiver m) (suc w) && ((all ∙ sym born) i && not (has_crashed rows (suc w)))) 1 (mails rows) (copies rows)) n

  -- no mail waits for a number that no actor has
  pub waiting_none : (who n : ℕ) (rows : List (Row M O)) → is_in who (crew_numbers ss) ≡ false → kth (waiting sys rows (Some who)) n ≡ None
  waiting_none who n rows out =
      let none : list_any (λ a. eqb a who) (numbers_of births) ≡ false = any_out who (numbers_of births) (ap (is_in who) (sym c.born) ∙ out) in
      ap (λ l. kth l n) (numbers_none (is_for h.receiver (numbers_of births) rows (Some who)) 1 (mails rows) (copies rows) (λ m. and_none (eqb (h.receiver m) who) (may_get (numbers_of births) rows who) (ap (λ b. b && not (has_crashed rows who)) none))) ∙ kth_nil n

  -- an actor that is not there does nothing
  pub acts_none : (who : ℕ) (rows : List (Row M O)) (event : Event O) → is_in who (crew_numbers ss) ≡ false → acts sys rows who event ≡ None
  acts_none who rows event out = ap (option_map (λ seat. row_of g.table seat rows event)) (find_none births who (ap (is_in who) (sym c.born) ∙ out))

  -- nor for one that has crashed
  pub waiting_crashed : (who n : ℕ) (rows : List (Row M O)) → has_crashed rows who ≡ true → kth (waiting sys rows (Some who)) n ≡ None
  waiting_crashed who n rows crashed =
      ap (λ l. kth l n) (numbers_none (is_for h.receiver (numbers_of births) rows (Some who)) 1 (mails rows) (copies rows) (λ m. and_none (eqb (h.receiver m) who) (may_get (numbers_of births) rows who) (and_none (list_any (λ a. eqb a who) (numbers_of births)) (not (has_crashed rows who)) (ap not crashed)))) ∙ kth_nil n
