-- The copies for the actors of a system are those that wait to it.
use Rattle.std.proofs.Common.{◌≡◌, ◌≢◌, ℕ, zero, suc, ◌+◌, ◌-◌, ◌<◌, ◌≤◌, eqb, eq-eqb, List, [], ◌∷◌, ◌++◌, map, filter, fold, Bool, true, false, cond, ◌&&◌, ◌||◌, not, replicate, get_or, refl, sym, ap, ◌∙◌, subst, arith, append_assoc, All, None, Some}
use Rattle.std.specs.Prelude.{slice_get}
use Rattle.std.specs.List.{list_any}
use Rattle.std.specs.Option.{option_map}
use Rattle.std.proofs.lemmas.Bool.{eqb-true, false≢true}
use Rattle.std.proofs.lemmas.List.{map-append}
use Rattle.std.proofs.lemmas.List.Elements.{filter-append, All-push, All-nil}
use Rattle.std.proofs.lemmas.Option.{slice_get-map, slice_get_within, get_or_from_slice_get}
use Rattle.std.proofs.Math.Nat.{add-zero}
use Rattle.sc_actor.specs.declared.actors.Seat.{Seat}
use Rattle.sc_actor.specs.declared.rows.Row.{Row}
use Rattle.sc_actor.specs.Mail.{mails, copies, numbers, is_for, has_crashed}
use Rattle.sc_actor.specs.System.{System, waiting, numbers_of}
use Rattle.sc_thread_ledger.specs.declared.spots.Spot.{Spot}
use Rattle.sc_thread_ledger.specs.Pending.{upto, pending_of}
use Rattle.sc_thread_ledger.specs.Spots.{is_one_of, copies_for, spot_after, spots_from, spots_of}
use Rattle.sc_thread_pool.specs.storm.Laws.{AreWithin}

-- what holds of each holds of the one at a place
pub all_at : {X : Type 0} (P : X → Type 0) (xs : List X) (i : ℕ) (x : X) → All P xs → slice_get xs i ≡ Some x → P x
all_at P xs i x all e = subst P (get_or_from_slice_get xs i x x e) (all i x (slice_get_within xs i x e))

all_kept : (t : ℕ → Bool) (c n : ℕ) → t n ≡ true → filter t (replicate c n) ≡ replicate c n
all_kept t zero n e = refl
all_kept t (suc c) n e = rw e (ap (λ l. n ∷ l) (all_kept t c n e))

none_kept : (t : ℕ → Bool) (c n : ℕ) → t n ≡ false → filter t (replicate c n) ≡ []
none_kept t zero n e = refl
none_kept t (suc c) n e = rw e (none_kept t c n e)

-- the copies of one number, where one test let them in and another asks too
kept_copies : (t : ℕ → Bool) (c n : ℕ) (asked let_in both : Bool) → t n ≡ asked → both ≡ (asked && let_in) → filter t (cond let_in (replicate c n) []) ≡ cond both (replicate c n) []
kept_copies t c n true true both e f = all_kept t c n e ∙ ap (λ b. cond b (replicate c n) []) (sym f)
kept_copies t c n true false both e f = ap (λ b. cond b (replicate c n) []) (sym f)
kept_copies t c n false true both e f = none_kept t c n e ∙ ap (λ b. cond b (replicate c n) []) (sym f)
kept_copies t c n false false both e f = ap (λ b. cond b (replicate c n) []) (sym f)

next_place : (first j : ℕ) → suc first + j ≡ first + suc j
next_place first j = omega arith

-- Of the numbers of a test those of a narrower one, which asks besides what can be told by the number.
module _ {M : Type 0} (t : ℕ → Bool) (asks p q : M → Bool) (narrower : (m : M) → q m ≡ (asks m && p m)) where
  pub filter_numbers : (first : ℕ) (sent : List M) (counts : List ℕ) → ((j : ℕ) (m : M) → slice_get sent j ≡ Some m → t (first + j) ≡ asks m) → filter t (numbers p first sent counts) ≡ numbers q first sent counts
  filter_numbers first [] counts tells = refl
  filter_numbers first (m ∷ sent) [] tells = refl
  filter_numbers first (m ∷ sent) (c ∷ counts) tells =
      let here : t first ≡ asks m = ap t (sym (add-zero first)) ∙ tells 0 m refl in
      let one : filter t (cond (p m) (replicate c first) []) ≡ cond (q m) (replicate c first) [] = kept_copies t c first (asks m) (p m) (q m) here (narrower m) in
      let more : filter t (numbers p (suc first) sent counts) ≡ numbers q (suc first) sent counts = filter_numbers (suc first) sent counts (λ j x e. ap t (next_place first j) ∙ tells (suc j) x e) in
      filter-append t (cond (p m) (replicate c first) []) (numbers p (suc first) sent counts) ∙ (λ i. one i ++ more i)

-- Copies that come one after the other, each with its receiver.
module _ (actors receivers : List ℕ) where
  -- the receiver of a number
  abbrev pub to : ℕ → ℕ
  to n = get_or receivers (n - 1) 0

  abbrev step : List Spot → ℕ → List Spot
  step before number = before ++ spot_after receivers before number ∷ []

  one_copy : (s : Spot) (number : ℕ) (rest : List ℕ) (b : Bool) → s.number ≡ number → map (λ (x : Spot). x.number) (cond b (s ∷ []) []) ++ rest ≡ cond b (number ∷ rest) rest
  one_copy s number rest true e = ap (λ n. n ∷ rest) e
  one_copy s number rest false e = refl

  numbered_from : (rest : List ℕ) (done : List Spot) →
      map (λ (s : Spot). s.number) (copies_for actors (fold step done rest)) ≡ map (λ (s : Spot). s.number) (copies_for actors done) ++ filter (λ n. is_one_of actors (to n)) rest
  numbered_from [] done = sym (append_nil (map (λ (s : Spot). s.number) (copies_for actors done)))
    where
      append_nil : (xs : List ℕ) → xs ++ [] ≡ xs
      append_nil [] = refl
      append_nil (x ∷ xs) = ap (λ l. x ∷ l) (append_nil xs)
  numbered_from (n ∷ rest) done =
      let f : Spot → Bool = λ s. is_one_of actors s.who in
      let num : Spot → ℕ = λ s. s.number in
      let s = spot_after receivers done n in
      let t : ℕ → Bool = λ k. is_one_of actors (to k) in
      numbered_from rest (done ++ s ∷ [])
      ∙ (ap (λ l. map num l ++ filter t rest) (filter-append f done (s ∷ []))
      ∙ (ap (λ l. l ++ filter t rest) (map-append num (filter f done) (filter f (s ∷ [])))
      ∙ (append_assoc (map num (filter f done)) (map num (filter f (s ∷ []))) (filter t rest)
      ∙ ap (λ l. map num (filter f done) ++ l) (one_copy s n (filter t rest) (t n) refl))))

  -- the numbers of the copies for the actors
  pub numbers_are : (all : List ℕ) → map (λ (s : Spot). s.number) (copies_for actors (spots_from receivers all)) ≡ filter (λ n. is_one_of actors (to n)) all
  numbers_are all = numbered_from all []

  abbrev IsAddressee : Spot → Type 0
  IsAddressee s = s.who ≡ to s.number

  addressees_from : (rest : List ℕ) (done : List Spot) → All IsAddressee done → All IsAddressee (fold step done rest)
  addressees_from [] done all = all
  addressees_from (n ∷ rest) done all = addressees_from rest (done ++ spot_after receivers done n ∷ []) (All-push IsAddressee done (spot_after receivers done n) all refl)

  -- each copy goes to the receiver of its number
  pub addressees : (all : List ℕ) → All (λ (s : Spot). s.who ≡ to s.number) (spots_from receivers all)
  addressees all = addressees_from all [] (All-nil IsAddressee)

or_true : (a b : Bool) → a ≡ true → (a || b) ≡ true
or_true true b e = refl
or_true false b e = absurd (false≢true e)

or_other : (a b : Bool) → b ≡ true → (a || b) ≡ true
or_other true b e = refl
or_other false b e = e

any_append : (p : ℕ → Bool) (xs ys : List ℕ) → list_any p (xs ++ ys) ≡ (list_any p xs || list_any p ys)
any_append p [] ys = refl
any_append p (x ∷ xs) ys = by (p x) (any_append p xs ys)
  where
    by : (b : Bool) → list_any p (xs ++ ys) ≡ (list_any p xs || list_any p ys) → (b || list_any p (xs ++ ys)) ≡ ((b || list_any p xs) || list_any p ys)
    by true more = refl
    by false more = more

-- the numbers of an exchange
pub upto_has : (n r : ℕ) → 0 < r → r ≤ n → is_one_of (upto n) r ≡ true
upto_has zero r some le = absurd (omega arith)
upto_has (suc n) r some le = any_append (λ a. eqb a r) (upto n) (suc n ∷ []) ∙ by (eqb (suc n) r) refl (upto_has n r some)
  where
    by : (b : Bool) → eqb (suc n) r ≡ b → (r ≤ n → is_one_of (upto n) r ≡ true) → (is_one_of (upto n) r || (eqb (suc n) r || false)) ≡ true
    by true same rest = or_other (is_one_of (upto n) r) (eqb (suc n) r || false) (or_true (eqb (suc n) r) false same)
    by false same rest = or_true (is_one_of (upto n) r) (eqb (suc n) r || false) (rest (omega (arith, le, other)))
      where
        other : r ≢ suc n
        other = λ e. false≢true (sym same ∙ eq-eqb (suc n) r (sym e))

module _ {A : Type 0} (n : ℕ) where
  -- an actor's number is one of those
  pub within : (births : List (Seat A)) (r : ℕ) → AreWithin n births → is_one_of (numbers_of births) r ≡ true → (0 < r) × (r ≤ n)
  within [] r all e = absurd (false≢true e)
  within (b ∷ births) r all e = by (eqb b.who r) refl e (within births r (λ k d lt. all (suc k) d (omega (arith, lt))))
    where
      by : (q : Bool) → eqb b.who r ≡ q → (q || is_one_of (numbers_of births) r) ≡ true → (is_one_of (numbers_of births) r ≡ true → (0 < r) × (r ≤ n)) → (0 < r) × (r ≤ n)
      by true same some more = subst (λ v. (0 < v) × (v ≤ n)) (eqb-true b.who r same) (all 0 b (omega arith))
      by false same some more = more some

module _ {A M O : Type 0} (s : System A M O) (n : ℕ) (rows : List (Row M O)) (inside : AreWithin n s.births) where
  -- the receivers of all mail
  abbrev pub receivers : List ℕ
  receivers = map s.receiver (mails rows)

  -- the receiver of a mail that was sent
  pub receiver_is : (place : ℕ) (m : M) → slice_get (mails rows) place ≡ Some m → get_or receivers place 0 ≡ s.receiver m
  receiver_is place m e = get_or_from_slice_get receivers place (s.receiver m) 0 (slice_get-map s.receiver (mails rows) place ∙ ap (option_map s.receiver) e)

  minus_one : (j : ℕ) → 1 + j - 1 ≡ j
  minus_one j = omega arith

  split : (m : M) → is_for s.receiver (numbers_of s.births) rows None m ≡ (is_one_of (numbers_of s.births) (s.receiver m) && is_for s.receiver (upto n) rows None m)
  split m = by (is_one_of (numbers_of s.births) (s.receiver m)) refl
    where
      by : (b : Bool) → is_one_of (numbers_of s.births) (s.receiver m) ≡ b → (b && not (has_crashed rows (s.receiver m))) ≡ (b && (is_one_of (upto n) (s.receiver m) && not (has_crashed rows (s.receiver m))))
      by false is = refl
      by true is = let bounds = within n s.births (s.receiver m) inside is in ap (λ b. b && not (has_crashed rows (s.receiver m))) (sym (upto_has n (s.receiver m) bounds.0 bounds.1))

  -- what waits to the system
  pub waiting_is : (spots : List Spot) → spots ≡ spots_of s.receiver n rows → waiting s rows None ≡ map (λ (x : Spot). x.number) (copies_for (numbers_of s.births) spots)
  waiting_is spots is =
      let actors = numbers_of s.births in
      let t : ℕ → Bool = λ k. is_one_of actors (get_or receivers (k - 1) 0) in
      let asks : M → Bool = λ m. is_one_of actors (s.receiver m) in
      let tells : (j : ℕ) (m : M) → slice_get (mails rows) j ≡ Some m → t (1 + j) ≡ asks m = λ j m e. ap (is_one_of actors) (ap (λ k. get_or receivers k 0) (minus_one j) ∙ receiver_is j m e) in
      sym (ap (λ l. map (λ (x : Spot). x.number) (copies_for actors l)) is
      ∙ (numbers_are actors receivers (pending_of s.receiver n rows 0)
      ∙ filter_numbers t asks (is_for s.receiver (upto n) rows None) (is_for s.receiver actors rows None) split 1 (mails rows) (copies rows) tells))
