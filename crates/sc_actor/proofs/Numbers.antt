-- The k-th of the pending numbers, mail by mail.
use Rattle.std.proofs.Common.{◌≡◌, ℕ, zero, suc, ◌+◌, ◌-◌, ◌<◌, ◌≤◌, List, [], ◌∷◌, ◌++◌, length, Bool, true, false, cond, drop, replicate, get_or, min, map, refl, ap, arith, None, Some, add-one, ◌||◌}
use Rattle.std.specs.List.{list_any}
use Rattle.sc_actor.specs.Definitions.{numbers, kth}

-- within the copies of one mail
pub kth-here : (count number k : ℕ) (xs : List ℕ) → 0 < k → k ≤ count → kth (replicate count number ++ xs) k ≡ Some number
kth-here zero number k xs p q = absurd (omega arith)
kth-here (suc count) number zero xs p q = absurd (omega arith)
kth-here (suc count) number (suc zero) xs p q = refl
kth-here (suc count) number (suc (suc k)) xs p q = kth-here count number (suc k) xs (omega arith) (omega arith)

-- past them
pub kth-past : (count number k : ℕ) (xs : List ℕ) → count < k → kth (replicate count number ++ xs) k ≡ kth xs (k - count)
kth-past zero number k xs p = let e : k - 0 ≡ k = omega arith in rw e refl
kth-past (suc count) number zero xs p = absurd (omega arith)
kth-past (suc count) number (suc zero) xs p = absurd (omega arith)
kth-past (suc count) number (suc (suc k)) xs p =
    let e : suc (suc k) - suc count ≡ suc k - count = omega arith in
    rw e (kth-past count number (suc k) xs (omega arith))

module _ {M : Type 0} (test : M → Bool) where
  numbers-drop_suc : (number i : ℕ) (sent : List M) (counts : List ℕ) (mail : M) → i < length sent → i < length counts → mail ≡ get_or sent i mail →
      numbers test number (drop i sent) (drop i counts) ≡ cond (test mail) (replicate (get_or counts i 0) number) [] ++ numbers test (suc number) (drop (suc i) sent) (drop (suc i) counts)
  numbers-drop_suc number i [] counts mail lt len is = absurd (omega arith)
  numbers-drop_suc number i (m ∷ sent) [] mail lt len is = absurd (omega arith)
  numbers-drop_suc number zero (m ∷ sent) (c ∷ counts) mail lt len is = rw is refl
  numbers-drop_suc number (suc i) (m ∷ sent) (c ∷ counts) mail lt len is =
      numbers-drop_suc number i sent counts mail (omega arith) (omega arith) is

  -- the numbers from a place on: those of its mail, and those of what comes after it
  pub numbers-drop : (number i : ℕ) (sent : List M) (counts : List ℕ) (mail : M) → i < length sent → i < length counts → mail ≡ get_or sent i mail →
      numbers test number (drop i sent) (drop i counts) ≡ cond (test mail) (replicate (get_or counts i 0) number) [] ++ numbers test (number + 1) (drop (i + 1) sent) (drop (i + 1) counts)
  numbers-drop number i sent counts mail lt len is = rw (add-one, add-one) (numbers-drop_suc number i sent counts mail lt len is)

  -- past the last mail there are none
  pub numbers-end : (number i : ℕ) (sent : List M) (counts : List ℕ) → i ≡ min (length sent) (length counts) → numbers test number (drop i sent) (drop i counts) ≡ []
  numbers-end number i [] counts e = let z : i ≡ 0 = omega arith in rw z refl
  numbers-end number i (m ∷ sent) [] e = let z : i ≡ 0 = omega arith in rw z refl
  numbers-end number zero (m ∷ sent) (c ∷ counts) e = absurd (omega arith)
  numbers-end number (suc i) (m ∷ sent) (c ∷ counts) e = numbers-end number i sent counts (omega arith)

  -- the numbers of one mail, if it passes the test
  pub open_first : (b : Bool) (count number : ℕ) → cond b (replicate count number) [] ≡ replicate (cond b count 0) number
  open_first true count number = refl
  open_first false count number = refl

  -- the place at which it is
  pub kth-found : (number i k : ℕ) (sent : List M) (counts : List ℕ) (mail : M) → i < length sent → i < length counts → mail ≡ get_or sent i mail → 0 < k → k ≤ cond (test mail) (get_or counts i 0) 0 →
      kth (numbers test number (drop i sent) (drop i counts)) k ≡ Some number
  kth-found number i k sent counts mail lt lt' is first enough =
      rw (numbers-drop number i sent counts mail lt lt' is, open_first (test mail) (get_or counts i 0) number)
      (kth-here (cond (test mail) (get_or counts i 0) 0) number k (numbers test (number + 1) (drop (i + 1) sent) (drop (i + 1) counts)) first enough)

  -- a place whose copies are fewer
  pub kth-later : (number i k : ℕ) (sent : List M) (counts : List ℕ) (mail : M) → i < length sent → i < length counts → mail ≡ get_or sent i mail → cond (test mail) (get_or counts i 0) 0 < k →
      kth (numbers test number (drop i sent) (drop i counts)) k ≡ kth (numbers test (number + 1) (drop (i + 1) sent) (drop (i + 1) counts)) (k - cond (test mail) (get_or counts i 0) 0)
  kth-later number i k sent counts mail lt lt' is few =
      rw (numbers-drop number i sent counts mail lt lt' is, open_first (test mail) (get_or counts i 0) number)
      (kth-past (cond (test mail) (get_or counts i 0) 0) number k (numbers test (number + 1) (drop (i + 1) sent) (drop (i + 1) counts)) few)

-- a test of what a function makes of some element
pub list_any-map : {X Y : Type 0} (p : Y → Bool) (f : X → Y) (xs : List X) → list_any p (map f xs) ≡ list_any (λ x. p (f x)) xs
list_any-map p f [] = refl
list_any-map p f (x ∷ xs) = ap (λ b. p (f x) || b) (list_any-map p f xs)

-- nothing stands in an empty list
pub kth-none : (k : ℕ) → kth [] k ≡ None
kth-none zero = refl
kth-none (suc k) = refl

-- within a list the default does not matter
pub get_at : (xs : List ℕ) (i d : ℕ) → i < length xs → get_or xs i 0 ≡ get_or xs i d
get_at [] i d h = absurd (omega arith)
get_at (x ∷ xs) zero d h = refl
get_at (x ∷ xs) (suc i) d h = get_at xs i d (omega arith)
