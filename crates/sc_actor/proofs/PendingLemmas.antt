-- What is pending was sent, and has a copy.
use Rattle.std.proofs.Common.{◌≡◌, ℕ, zero, suc, ◌+◌, ◌-◌, ◌<◌, List, [], ◌∷◌, ◌++◌, Bool, true, false, true≢false, cond, eqb, eq-eqb, ◌&&◌, Option, replicate, refl, sym, ◌∙◌, ap, subst, arith, get_or, None, Some, inl, inr, ◌⊎◌}
use Rattle.std.specs.Prelude.{slice_get, is_none}
use Rattle.std.proofs.lemmas.Bool.{eqb-true, and_parts, false≢true}
use Rattle.sc_actor.specs.declared.rows.Row.{Row}
use Rattle.sc_actor.specs.Definitions.{mails, copies, numbers, numbered, may_get, is_for, System, waiting, kth, numbers_of, IsUnderWay, is_quiet}

-- A number that is pending is that of a mail that passes the test, and it has a copy.
pub record Pending {M : Type 0} (test : M → Bool) (first : ℕ) (sent : List M) (counts : List ℕ) (number : ℕ) : Type 0 where
  pub place : ℕ
  pub number_is : number ≡ first + place
  pub mail : M
  pub at : slice_get sent place ≡ Some mail
  pub passes : test mail ≡ true
  pub copies : 0 < get_or counts place 0

-- what stands at a place of a list stands there in a longer one
pub get_left : {X : Type 0} (xs ys : List X) (k : ℕ) (x : X) → slice_get xs k ≡ Some x → slice_get (xs ++ ys) k ≡ Some x
get_left [] ys k x e = cc
get_left (y ∷ xs) ys zero x e = e
get_left (y ∷ xs) ys (suc k) x e = get_left xs ys k x e

later : {M : Type 0} (test : M → Bool) (first : ℕ) (m : M) (sent : List M) (c : ℕ) (counts : List ℕ) (number : ℕ) → Pending test (suc first) sent counts number → Pending test first (m ∷ sent) (c ∷ counts) number
later test first m sent c counts number p =
    record { place = suc p.place; number_is = omega (arith, p.number_is); mail = p.mail; at = p.at; passes = p.passes; copies = p.copies }

-- the k-th is one of the first copies, or stands later
here_or_later : (count number k : ℕ) (xs : List ℕ) (x : ℕ) → slice_get (replicate count number ++ xs) k ≡ Some x → ((x ≡ number) × (0 < count)) ⊎ ((j : ℕ) × (slice_get xs j ≡ Some x))
here_or_later zero number k xs x e = inr (k, e)
here_or_later (suc count) number zero xs x e = inl (cc, omega arith)
here_or_later (suc count) number (suc k) xs x e =
    elim (here_or_later count number k xs x e) [ inl p ↦ inl (p.0, omega arith) | inr q ↦ inr q ]

module _ {M : Type 0} (test : M → Bool) where
  sound_by : (first : ℕ) (m : M) (sent : List M) (c : ℕ) (counts : List ℕ) (k number : ℕ) → ((j : ℕ) → slice_get (numbers test (suc first) sent counts) j ≡ Some number → Pending test (suc first) sent counts number) →
      (b : Bool) → test m ≡ b → slice_get (cond b (replicate c first) [] ++ numbers test (suc first) sent counts) k ≡ Some number → Pending test first (m ∷ sent) (c ∷ counts) number
  sound_by first m sent c counts k number more true t e =
      elim (here_or_later c first k (numbers test (suc first) sent counts) number e) [
        | inl p ↦ record { place = 0; number_is = omega (arith, p.0); mail = m; at = refl; passes = t; copies = p.1 }
        | inr q ↦ later test first m sent c counts number (more q.0 q.1)
      ]
  sound_by first m sent c counts k number more false t e = later test first m sent c counts number (more k e)

  -- what is pending was sent, passes the test and has a copy
  pub pending_sound : (first : ℕ) (sent : List M) (counts : List ℕ) (k number : ℕ) → slice_get (numbers test first sent counts) k ≡ Some number → Pending test first sent counts number
  pending_sound first [] counts k number e = cc
  pending_sound first (m ∷ sent) [] k number e = cc
  pending_sound first (m ∷ sent) (c ∷ counts) k number e =
      sound_by first m sent c counts k number (λ j. pending_sound (suc first) sent counts j number) (test m) refl e

module _ {A M O : Type 0} (s : System A M O) (rows : List (Row M O)) where
  way : (number place : ℕ) (mail : M) → number ≡ suc place → slice_get (mails rows) place ≡ Some mail → may_get (numbers_of s.births) rows (s.receiver mail) ≡ true → 0 < get_or (copies rows) place 0 → IsUnderWay s rows number mail
  way number place mail is at may copy =
      let minus : suc place - 1 ≡ place = omega arith in
      subst (λ n. IsUnderWay s rows n mail) (sym is) (record { sent = at; may = may; copy = rw minus copy })

  -- a mail that is pending for an actor
  pub waiting_one : (who k number : ℕ) → kth (waiting s rows (Some who)) k ≡ Some number → (mail : M) × IsUnderWay s rows number mail × (s.receiver mail ≡ who)
  waiting_one who zero number e = cc
  waiting_one who (suc k) number e =
      let p = pending_sound (is_for s.receiver (numbers_of s.births) rows (Some who)) 1 (mails rows) (copies rows) k number e in
      let parts = and_parts (eqb (s.receiver p.mail) who) (may_get (numbers_of s.births) rows who) p.passes in
      let to_who : s.receiver p.mail ≡ who = eqb-true (s.receiver p.mail) who parts.0 in
      (p.mail, way number p.place p.mail (omega (arith, p.number_is)) p.at (subst (λ w. may_get (numbers_of s.births) rows w ≡ true) (sym to_who) parts.1) p.copies, to_who)

  -- the mail at a place among all that are pending
  pub waiting_at : (place number : ℕ) → slice_get (waiting s rows None) place ≡ Some number → (mail : M) × IsUnderWay s rows number mail
  waiting_at place number e =
      let p = pending_sound (is_for s.receiver (numbers_of s.births) rows None) 1 (mails rows) (copies rows) place number e in
      (p.mail, way number p.place p.mail (omega (arith, p.number_is)) p.at p.passes p.copies)

  -- a mail that is pending for any
  pub waiting_any : (k number : ℕ) → kth (waiting s rows None) k ≡ Some number → (mail : M) × IsUnderWay s rows number mail
  waiting_any zero number e = cc
  waiting_any (suc k) number e = waiting_at k number e

-- The first number of a test is the first of a narrower one that its mail passes.
module _ {M : Type 0} (p q : M → Bool) (narrower : (m : M) → q m ≡ true → p m ≡ true) where
  first_empty : (b c : Bool) (number : ℕ) (xs ys : List ℕ) (n : ℕ) → slice_get (cond b (replicate 0 number) [] ++ xs) 0 ≡ Some n → (slice_get xs 0 ≡ Some n → slice_get ys 0 ≡ Some n) → slice_get (cond c (replicate 0 number) [] ++ ys) 0 ≡ Some n
  first_empty true true number xs ys n e f = f e
  first_empty true false number xs ys n e f = f e
  first_empty false true number xs ys n e f = f e
  first_empty false false number xs ys n e f = f e

  first_by : (first : ℕ) (m : M) (sent : List M) (c : ℕ) (counts : List ℕ) (n : ℕ) →
      ((place : ℕ) (x : M) → slice_get (numbers p (suc first) sent counts) 0 ≡ Some n → n ≡ suc first + place → slice_get sent place ≡ Some x → q x ≡ true → slice_get (numbers q (suc first) sent counts) 0 ≡ Some n) →
      (a b : Bool) → p m ≡ a → q m ≡ b → (place : ℕ) (x : M) → slice_get (cond a (replicate c first) [] ++ numbers p (suc first) sent counts) 0 ≡ Some n → n ≡ first + place → slice_get (m ∷ sent) place ≡ Some x → q x ≡ true →
      slice_get (cond b (replicate c first) [] ++ numbers q (suc first) sent counts) 0 ≡ Some n
  first_by first m sent zero counts n more a b pa qb place x e at is passes =
      first_empty a b first (numbers p (suc first) sent counts) (numbers q (suc first) sent counts) n e (λ e'. later place x at is passes e')
    where
      later : (place : ℕ) (x : M) → n ≡ first + place → slice_get (m ∷ sent) place ≡ Some x → q x ≡ true → slice_get (numbers p (suc first) sent counts) 0 ≡ Some n → slice_get (numbers q (suc first) sent counts) 0 ≡ Some n
      later zero x at is passes e' = let s = pending_sound p (suc first) sent counts 0 n e' in absurd (omega (arith, at, s.number_is))
      later (suc place) x at is passes e' = more place x e' (omega (arith, at)) is passes
  first_by first m sent (suc c) counts n more true true pa qb place x e at is passes = e
  first_by first m sent (suc c) counts n more true false pa qb zero x e at is passes =
      let same : m ≡ x = cc in
      absurd (false≢true (sym qb ∙ ap q same ∙ passes))
  first_by first m sent (suc c) counts n more true false pa qb (suc place) x e at is passes = let same : first ≡ n = cc in absurd (omega (arith, at, same))
  first_by first m sent (suc c) counts n more false true pa qb place x e at is passes = absurd (false≢true (sym pa ∙ narrower m qb))
  first_by first m sent (suc c) counts n more false false pa qb zero x e at is passes =
      let same : m ≡ x = cc in
      absurd (false≢true (sym qb ∙ ap q same ∙ passes))
  first_by first m sent (suc c) counts n more false false pa qb (suc place) x e at is passes = more place x e (omega (arith, at)) is passes

  -- the first number that passes the wider test passes the narrower one
  pub first_own : (first : ℕ) (sent : List M) (counts : List ℕ) (n place : ℕ) (x : M) → slice_get (numbers p first sent counts) 0 ≡ Some n → n ≡ first + place → slice_get sent place ≡ Some x → q x ≡ true → slice_get (numbers q first sent counts) 0 ≡ Some n
  first_own first [] counts n place x e at is passes = cc
  first_own first (m ∷ sent) [] n place x e at is passes = cc
  first_own first (m ∷ sent) (c ∷ counts) n place x e at is passes =
      first_by first m sent c counts n (λ place' x' e' at' is' passes'. first_own (suc first) sent counts n place' x' e' at' is' passes') (p m) (q m) refl refl place x e at is passes

-- a wider test has a first number where a narrower one has
wide_some : {M : Type 0} (p q : M → Bool) → ((m : M) → q m ≡ true → p m ≡ true) → (first : ℕ) (sent : List M) (counts : List ℕ) (n : ℕ) → slice_get (numbers q first sent counts) 0 ≡ Some n → is_none (slice_get (numbers p first sent counts) 0) ≡ false
wide_some p q wider first [] counts n e = cc
wide_some p q wider first (m ∷ sent) [] n e = cc
wide_some {M} p q wider first (m ∷ sent) (c ∷ counts) n e = by c (q m) (p m) refl refl e (wide_some p q wider (suc first) sent counts n)
  where
    by : (c : ℕ) (a b : Bool) → q m ≡ a → p m ≡ b → slice_get (cond a (replicate c first) [] ++ numbers q (suc first) sent counts) 0 ≡ Some n →
        (slice_get (numbers q (suc first) sent counts) 0 ≡ Some n → is_none (slice_get (numbers p (suc first) sent counts) 0) ≡ false) → is_none (slice_get (cond b (replicate c first) [] ++ numbers p (suc first) sent counts) 0) ≡ false
    by zero true true qa pb e later = later e
    by zero true false qa pb e later = later e
    by zero false true qa pb e later = later e
    by zero false false qa pb e later = later e
    by (suc c) true true qa pb e later = refl
    by (suc c) true false qa pb e later = absurd (true≢false (sym (wider m qa) ∙ pb))
    by (suc c) false true qa pb e later = refl
    by (suc c) false false qa pb e later = later e

-- and none where the wider one has none
pub wide_none : {M : Type 0} (p q : M → Bool) → ((m : M) → q m ≡ true → p m ≡ true) → (first : ℕ) (sent : List M) (counts : List ℕ) → is_none (slice_get (numbers p first sent counts) 0) ≡ true → is_none (slice_get (numbers q first sent counts) 0) ≡ true
wide_none p q wider first sent counts none = by (slice_get (numbers q first sent counts) 0) refl
  where
    by : (o : Option ℕ) → slice_get (numbers q first sent counts) 0 ≡ o → is_none (slice_get (numbers q first sent counts) 0) ≡ true
    by None e = ap is_none e
    by (Some n) e = absurd (true≢false (sym none ∙ wide_some p q wider first sent counts n e))

module _ {A M O : Type 0} (s : System A M O) (rows : List (Row M O)) where
  -- mail that waits for one waits
  pub some_waits : (who n : ℕ) → kth (waiting s rows (Some who)) 1 ≡ Some n → is_quiet s rows ≡ false
  some_waits who n e =
      wide_some (is_for s.receiver (numbers_of s.births) rows None) (is_for s.receiver (numbers_of s.births) rows (Some who))
      (λ m t. let parts = and_parts (eqb (s.receiver m) who) (may_get (numbers_of s.births) rows who) t in subst (λ w. may_get (numbers_of s.births) rows w ≡ true) (sym (eqb-true (s.receiver m) who parts.0)) parts.1)
      1 (mails rows) (copies rows) n e

  -- the first of all is the first of its receiver
  pub first_is : (n : ℕ) → kth (waiting s rows None) 1 ≡ Some n → (mail : M) × (numbered (mails rows) n ≡ Some mail) × (may_get (numbers_of s.births) rows (s.receiver mail) ≡ true) × (kth (waiting s rows (Some (s.receiver mail))) 1 ≡ Some n)
  first_is n e = by n e (waiting_any s rows 1 n e)
    where
      by : (n : ℕ) → kth (waiting s rows None) 1 ≡ Some n → ((mail : M) × IsUnderWay s rows n mail) → (mail : M) × (numbered (mails rows) n ≡ Some mail) × (may_get (numbers_of s.births) rows (s.receiver mail) ≡ true) × (kth (waiting s rows (Some (s.receiver mail))) 1 ≡ Some n)
      by zero e u = (let bad : None ≡ Some u.0 = u.1.sent in cc)
      by (suc place) e u = (
        u.0,
        u.1.sent,
        u.1.may,
        first_own (is_for s.receiver (numbers_of s.births) rows None) (is_for s.receiver (numbers_of s.births) rows (Some (s.receiver u.0)))
            (λ x t. let parts = and_parts (eqb (s.receiver x) (s.receiver u.0)) (may_get (numbers_of s.births) rows (s.receiver u.0)) t in subst (λ w. may_get (numbers_of s.births) rows w ≡ true) (sym (eqb-true (s.receiver x) (s.receiver u.0) parts.0)) parts.1)
            1 (mails rows) (copies rows) (suc place) place u.0 e (omega arith) u.1.sent
            (ap (λ b. b && may_get (numbers_of s.births) rows (s.receiver u.0)) (eq-eqb (s.receiver u.0) (s.receiver u.0) refl) ∙ u.1.may),
      )
