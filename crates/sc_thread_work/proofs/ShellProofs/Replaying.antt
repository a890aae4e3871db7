-- Rows of others leave an actor as it is.
use Rattle.std.proofs.Common.{◌≡◌, ℕ, zero, suc, ◌+◌, eqb, Bool, true, false, cond, List, [], ◌∷◌, ◌++◌, length, refl, sym, ap, ◌∙◌, arith, append_assoc, length-append, eq-eqb}
use Rattle.std.proofs.lemmas.List.{append-nil, nil_from_length}
use Rattle.std.specs.Prelude.{slice_get, Option, Some}
use Rattle.sc_thread_ports.specs.turn.Turn.{StartsWith, rows_by}
use Rattle.sc_thread_ports.specs.turn.Seats.{known}
use Rattle.sc_actor.specs.declared.rows.Row.{Row}
use Rattle.sc_actor.specs.declared.actors.Seat.{Seat}
use Rattle.sc_actor.specs.declared.actors.Parcel.{Ghosts}
use Rattle.sc_actor.specs.declared.rows.Input.{Input}
use Rattle.sc_actor.specs.Mail.{mails, numbered}
use Rattle.sc_actor.proofs.ReplayLemmas.{mails-append, value-snoc}
use Rattle.sc_actor.proofs.PendingLemmas.{get_left}
use Rattle.sc_actor.specs.Replay.{Table, input_of, acted, replay, value}
use Rattle.sc_thread_ports.specs.declared.exchange.ports.Port.{Port}
use Rattle.sc_thread_ports.specs.exchange.BareRows.{row_by, rows_of}
use Rattle.sc_thread_ports.specs.exchange.Ports.{seen, made, Looked, Appended}
use Rattle.sc_thread_ports.proofs.ExchangeProofs.Done.{rows_of-append, quiet}
use Rattle.sc_thread_ports.proofs.ExchangeProofs.Knowing.{own_length}

module _ {M O : Type 0} where
  rows_of_last : (n : ℕ) (xs : List (Row M O)) (row : Row M O) → row.who ≡ n → length (rows_of n (xs ++ row ∷ [])) ≡ length (rows_of n xs) + 1
  rows_of_last n xs row who =
      let one : rows_of n (row ∷ []) ≡ row ∷ [] = ap (λ b. cond b (row ∷ []) []) (eq-eqb row.who n who) in
      omega (arith, ap length (rows_of-append n xs (row ∷ [])), length-append (rows_of n xs) (rows_of n (row ∷ [])), ap length one)

  -- a mail keeps its number
  pub numbered_more : (xs more : List (Row M O)) (number : ℕ) (mail : M) → numbered (mails xs) number ≡ Some mail → numbered (mails (xs ++ more)) number ≡ Some mail
  numbered_more xs more zero mail e = cc
  numbered_more xs more (suc place) mail e = ap (λ l. slice_get l place) (mails-append xs more) ∙ get_left (mails xs) (mails more) place mail e

module _ {A M O : Type 0} (table : Table A M O) (who : ℕ) where
  replay_quiet : (actor : A) (sent : List M) (rows : List (Row M O)) → rows_of who rows ≡ [] → replay table who actor sent rows ≡ actor
  replay_quiet actor sent [] none = refl
  replay_quiet actor sent (row ∷ rows) none = by (eqb row.who who) refl (λ left. replay_quiet actor (sent ++ row.sent) rows left)
    where
      by : (b : Bool) → eqb row.who who ≡ b → (rows_of who rows ≡ [] → replay table who actor (sent ++ row.sent) rows ≡ actor) → replay table who actor sent (row ∷ rows) ≡ actor
      by true e more = (let bad : row ∷ rows_of who rows ≡ [] = ap (λ b. cond b (row ∷ rows_of who rows) (rows_of who rows)) (sym e) ∙ none in cc)
      by false e more =
          let left : rows_of who rows ≡ [] = ap (λ b. cond b (row ∷ rows_of who rows) (rows_of who rows)) (sym e) ∙ none in
          ap (λ b. replay table who (cond b (acted table actor (input_of sent row.event)).0 actor) (sent ++ row.sent) rows) e ∙ more left

  replay-append : (actor : A) (sent : List M) (xs ys : List (Row M O)) → replay table who actor sent (xs ++ ys) ≡ replay table who (replay table who actor sent xs) (sent ++ mails xs) ys
  replay-append actor sent [] ys = ap (λ l. replay table who actor l ys) (sym (append-nil sent))
  replay-append actor sent (x ∷ xs) ys =
      let next = cond (eqb x.who who) (acted table actor (input_of sent x.event)).0 actor in
      replay-append next (sent ++ x.sent) xs ys ∙ ap (λ l. replay table who (replay table who next (sent ++ x.sent) xs) l ys) (append_assoc sent x.sent (mails xs))

  -- rows of others leave the replay as it is
  pub value_later : (birth : A) (xs more : List (Row M O)) → rows_of who more ≡ [] → value table (record { who = who; actor = birth }) (xs ++ more) ≡ value table (record { who = who; actor = birth }) xs
  value_later birth xs more none = replay-append birth [] xs more ∙ replay_quiet (replay table who birth [] xs) (mails xs) more none

module _ {M O : Type 0} {h : Ghosts M} where
  -- what a port has seen more has no row of its actor
  pub quiet_looked : (p q : Port M O h) (l : Looked p q) → rows_of p.who l.later.0 ≡ []
  quiet_looked p q l =
      let mine : length (rows_of p.who (seen q)) ≡ length (made q) = ap (λ n. length (rows_of n (seen q))) (sym l.stays.who) ∙ own_length q in
      quiet p.who (seen p) l.later.0 (ap (λ x. length (rows_of p.who x)) (sym l.later.1) ∙ (mine ∙ (ap length l.made ∙ sym (own_length p))))

  -- nor has what comes before its new row
  pub quiet_appended : (p q : Port M O h) (row : Row M O) (a : Appended p q row) → row.who ≡ p.who → rows_of p.who a.later.0 ≡ []
  quiet_appended p q row a mine =
      let all : length (rows_of p.who (seen q)) ≡ length (made p) + 1 =
      omega (arith, ap (λ n. length (rows_of n (seen q))) (sym a.stays.who), own_length q, ap length a.made, length-append (made p) (row ∷ [])) in
      let last : length (rows_of p.who (seen q)) ≡ length (rows_of p.who a.before) + 1 = ap (λ x. length (rows_of p.who x)) a.seen ∙ rows_of_last p.who a.before row mine in
      quiet p.who (seen p) a.later.0 (ap (λ x. length (rows_of p.who x)) (sym a.later.1) ∙ omega (arith, all, last, own_length p))

abbrev at : {A : Type 0} → ℕ → A → Seat A
at who birth = record { who = who; actor = birth }

module _ {A M O : Type 0} {h : Ghosts M} (table : Table A M O) where
  -- an actor that is the replay of its rows still is, when its port has seen more
  pub replay_looked : (p q : Port M O h) → Looked p q → (actor birth : A) → actor ≡ value table (at p.who birth) (seen p) → actor ≡ value table (at q.who birth) (seen q)
  replay_looked p q l actor birth is =
      is ∙ (sym (value_later table p.who birth (seen p) l.later.0 (quiet_looked p q l)) ∙ (λ i. value table (at (sym l.stays.who i) birth) (sym l.later.1 i)))

  -- a new actor is the replay of no rows
  pub replay_born : (p : Port M O h) (actor : A) → made p ≡ [] → actor ≡ value table (at p.who actor) (seen p)
  replay_born p actor none = sym (value_later table p.who actor [] (seen p) (nil_from_length (rows_of p.who (seen p)) (own_length p ∙ ap length none)))

  -- an actor that took a step is the replay with the row of that step
  pub replay_appended : (p q : Port M O h) (row : Row M O) (a : Appended p q row) → row.who ≡ p.who → (actor next birth : A) → actor ≡ value table (at p.who birth) (seen p) → (input : Option (Input M O)) →
      ((more : List (Row M O)) → input_of (mails (seen p ++ more)) row.event ≡ input) → next ≡ (acted table actor input).0 → next ≡ value table (at q.who birth) (seen q)
  replay_appended p q row a mine actor next birth is input given new =
      let before : value table (at p.who birth) a.before ≡ actor = ap (value table (at p.who birth)) a.later.1 ∙ (value_later table p.who birth (seen p) a.later.0 (quiet_appended p q row a mine) ∙ sym is) in
      let input_is : input_of (mails a.before) row.event ≡ input = ap (λ l. input_of (mails l) row.event) a.later.1 ∙ given a.later.0 in
      new
      ∙ ((λ i. (acted table (sym before i) (sym input_is i)).0)
      ∙ (sym (ap (λ b. cond b (acted table (value table (at p.who birth) a.before) (input_of (mails a.before) row.event)).0 (value table (at p.who birth) a.before)) (eq-eqb row.who p.who mine))
      ∙ (sym (value-snoc table (at p.who birth) a.before row) ∙ (λ i. value table (at (sym a.stays.who i) birth) (sym a.seen i)))))

-- a list that begins with what the port has seen, and has no more rows of it
module _ {A M O : Type 0} {h : Ghosts M} (table : Table A M O) where
  -- an actor is the replay of its rows among others, where these are all that it made
  pub replay_over : (p : Port M O h) (rows : List (Row M O)) → StartsWith rows (seen p) → rows_of p.who rows ≡ made p → (actor birth : A) → actor ≡ value table (at p.who birth) (seen p) → actor ≡ value table (at p.who birth) rows
  replay_over p rows later own actor birth is =
      let none : rows_of p.who later.0 ≡ [] = quiet p.who (seen p) later.0 (ap (λ l. length (rows_of p.who l)) (sym later.1) ∙ (ap length own ∙ sym (own_length p))) in
      is ∙ (sym (value_later table p.who birth (seen p) later.0 none) ∙ ap (value table (at p.who birth)) (sym later.1))
