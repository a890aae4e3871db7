-- A list of which the items of a prefix were changed.
use Rattle.std.proofs.Common.{◌≡◌, ℕ, zero, suc, ◌+◌, ◌<◌, ◌≤◌, List, [], ◌∷◌, map, length, get_or, set, Option, Some, None, inl, inr, refl, ap, sym, ◌∙◌, arith}
use Rattle.std.specs.Prelude.{slice_get}
use Rattle.sc_base.specs.Among.{Among}

-- the first items are changed, and the others are as they were
abbrev pub changed : {X : Type 0} → (X → X) → ℕ → List X → List X
changed f zero xs = xs
changed f (suc i) [] = []
changed f (suc i) (x ∷ xs) = f x ∷ changed f i xs

-- in the end all are
pub changed-all : {X : Type 0} (f : X → X) (xs : List X) → changed f (length xs) xs ≡ map f xs
changed-all f [] = refl
changed-all f (x ∷ xs) = ap (λ ys. f x ∷ ys) (changed-all f xs)

-- there are as many
pub changed-length : {X : Type 0} (f : X → X) (i : ℕ) (xs : List X) → length (changed f i xs) ≡ length xs
changed-length f zero xs = refl
changed-length f (suc i) [] = refl
changed-length f (suc i) (x ∷ xs) = ap suc (changed-length f i xs)

-- the next one is as it was
pub changed-here : {X : Type 0} (f : X → X) (xs : List X) (i : ℕ) (d : X) → get_or (changed f i xs) i d ≡ get_or xs i d
changed-here f xs zero d = refl
changed-here f [] (suc i) d = refl
changed-here f (x ∷ xs) (suc i) d = changed-here f xs i d

-- it is changed
pub changed-next : {X : Type 0} (f : X → X) (xs : List X) (i : ℕ) (d : X) → i < length xs → set (changed f i xs) i (f (get_or xs i d)) ≡ changed f (suc i) xs
changed-next f [] i d lt = absurd (omega (arith, lt))
changed-next f (x ∷ xs) zero d lt = refl
changed-next f (x ∷ xs) (suc i) d lt = ap (λ ys. f x ∷ ys) (changed-next f xs i d (omega (arith, lt)))

-- or it is what it would be changed to
pub changed-stays : {X : Type 0} (f : X → X) (xs : List X) (i : ℕ) (d : X) → i < length xs → f (get_or xs i d) ≡ get_or xs i d → changed f i xs ≡ changed f (suc i) xs
changed-stays f [] i d lt same = absurd (omega (arith, lt))
changed-stays f (x ∷ xs) zero d lt same = ap (λ y. y ∷ xs) (sym same)
changed-stays f (x ∷ xs) (suc i) d lt same = ap (λ ys. f x ∷ ys) (changed-stays f xs i d (omega (arith, lt)) same)

-- an item that a change leaves as it is stays
pub changed-fixed : {X : Type 0} (f : X → X) (xs : List X) (i k : ℕ) (d : X) → f (get_or xs k d) ≡ get_or xs k d → get_or (changed f i xs) k d ≡ get_or xs k d
changed-fixed f xs zero k d same = refl
changed-fixed f [] (suc i) k d same = refl
changed-fixed f (x ∷ xs) (suc i) zero d same = same
changed-fixed f (x ∷ xs) (suc i) (suc k) d same = changed-fixed f xs i k d same

-- changing all changes one that was put in too
pub changed-put : {X : Type 0} (f : X → X) (xs : List X) (i : ℕ) (d y : X) → i < length xs → f (get_or xs i d) ≡ f y → map f (set xs i y) ≡ map f xs
changed-put f [] i d y lt same = absurd (omega (arith, lt))
changed-put f (x ∷ xs) zero d y lt same = ap (λ z. z ∷ map f xs) (sym same)
changed-put f (x ∷ xs) (suc i) d y lt same = ap (λ ys. f x ∷ ys) (changed-put f xs i d y (omega (arith, lt)) same)

-- the same at the place after it
pub changed-next-at : {X : Type 0} (f : X → X) (xs ys : List X) (i : ℕ) (x y : X) → i < length xs → ys ≡ changed f i xs → x ≡ get_or ys i x → y ≡ f x → set ys i y ≡ changed f (i + 1) xs
changed-next-at f xs ys i x y lt so_far item is =
    let here : x ≡ get_or xs i x = item ∙ ap (λ zs. get_or zs i x) so_far ∙ changed-here f xs i x in
    let one : suc i ≡ i + 1 = omega arith in
    ap (λ zs. set zs i y) so_far ∙ ap (set (changed f i xs) i) (is ∙ ap f here) ∙ changed-next f xs i x lt ∙ ap (λ n. changed f n xs) one

changed-past : {X : Type 0} (f : X → X) (xs : List X) (i : ℕ) → length xs ≤ i → changed f i xs ≡ map f xs
changed-past f [] zero le = refl
changed-past f [] (suc i) le = refl
changed-past f (x ∷ xs) zero le = absurd (omega (arith, le))
changed-past f (x ∷ xs) (suc i) le = ap (λ ys. f x ∷ ys) (changed-past f xs i (omega (arith, le)))

-- in the end all are changed
pub changed-end : {X : Type 0} (f : X → X) (xs ys : List X) (i : ℕ) → length xs ≤ i → ys ≡ changed f i xs → ys ≡ map f xs
changed-end f xs ys i le so_far = so_far ∙ changed-past f xs i le

-- what is put where it stands changes nothing
pub put-same : {X : Type 0} (xs : List X) (i : ℕ) (x : X) → slice_get xs i ≡ Some x → set xs i x ≡ xs
put-same [] i x is = refl
put-same {X} (y ∷ ys) zero x is = ap (λ (z : X). z ∷ ys) (ap (λ (o : Option X). elim o [ None ↦ x | Some z ↦ z ]) (sym is))
put-same (y ∷ ys) (suc i) x is = ap (λ zs. y ∷ zs) (put-same ys i x is)

-- an item at a place of a list is among it
pub among_at : {X : Type 0} (xs : List X) (i : ℕ) (x : X) → i < length xs → x ≡ get_or xs i x → Among x xs
among_at [] i x lt is = absurd (omega (arith, lt))
among_at (y ∷ xs) zero x lt is = inl (sym is)
among_at (y ∷ xs) (suc i) x lt is = inr (among_at xs i x (omega (arith, lt)) is)
