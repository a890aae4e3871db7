-- Elements and pairs of lists.
use Rattle.std.proofs.Common.{◌≡◌, ℕ, zero, suc, ◌<◌, Bool, true, false, cond, List, [], ◌∷◌, ◌++◌, map, filter, length, get_or, refl, sym, ap, ◌∙◌, subst, ◌⊎◌, inl, inr, arith}
use Rattle.sc_base.specs.Definitions.{Among, Each}
use Rattle.sc_linear_law.specs.LinearDefinitions.{EachPair}

-- what holds of each element holds of one
pub each_at : {X : Type 0} (P : X → Type 0) (xs : List X) (x : X) → Each P xs → Among x xs → P x
each_at P [] x h here = absurd here
each_at P (y ∷ ys) x h (inl e) = subst P e h.0
each_at P (y ∷ ys) x h (inr there) = each_at P ys x h.1 there

-- what holds of whatever is in a list holds of each element
pub each_from : {X : Type 0} (P : X → Type 0) (xs : List X) → ((x : X) → Among x xs → P x) → Each P xs
each_from P [] h = tt
each_from P (x ∷ xs) h = (h x (inl refl), each_from P xs (λ y there. h y (inr there)))

pub each_more : {X : Type 0} (P Q : X → Type 0) (xs : List X) → ((x : X) → P x → Q x) → Each P xs → Each Q xs
each_more P Q [] h e = tt
each_more P Q (x ∷ xs) h e = (h x e.0, each_more P Q xs h e.1)

pub each_append : {X : Type 0} (P : X → Type 0) (xs ys : List X) → Each P xs → Each P ys → Each P (xs ++ ys)
each_append P [] ys a b = b
each_append P (x ∷ xs) ys a b = (a.0, each_append P xs ys a.1 b)

pub each_left : {X : Type 0} (P : X → Type 0) (xs ys : List X) → Each P (xs ++ ys) → Each P xs
each_left P [] ys h = tt
each_left P (x ∷ xs) ys h = (h.0, each_left P xs ys h.1)

pub each_right : {X : Type 0} (P : X → Type 0) (xs ys : List X) → Each P (xs ++ ys) → Each P ys
each_right P [] ys h = h
each_right P (x ∷ xs) ys h = each_right P xs ys h.1

pub each_map : {X Y : Type 0} (f : X → Y) (P : Y → Type 0) (xs : List X) → Each (λ x. P (f x)) xs → Each P (map f xs)
each_map f P [] h = tt
each_map f P (x ∷ xs) h = (h.0, each_map f P xs h.1)

pub each_unmap : {X Y : Type 0} (f : X → Y) (P : Y → Type 0) (xs : List X) → Each P (map f xs) → Each (λ x. P (f x)) xs
each_unmap f P [] h = tt
each_unmap f P (x ∷ xs) h = (h.0, each_unmap f P xs h.1)

pub pairs_more : {X : Type 0} (P Q : X → X → Type 0) (xs : List X) → ((x y : X) → P x y → Q x y) → EachPair P xs → EachPair Q xs
pairs_more P Q [] h e = tt
pairs_more P Q (x ∷ xs) h e = (each_more (P x) (Q x) xs (h x) e.0, pairs_more P Q xs h e.1)

pub pairs_map : {X Y : Type 0} (f : X → Y) (P : Y → Y → Type 0) (xs : List X) → EachPair (λ x y. P (f x) (f y)) xs → EachPair P (map f xs)
pairs_map f P [] h = tt
pairs_map f P (x ∷ xs) h = (each_map f (P (f x)) xs h.0, pairs_map f P xs h.1)

pub pairs_unmap : {X Y : Type 0} (f : X → Y) (P : Y → Y → Type 0) (xs : List X) → EachPair P (map f xs) → EachPair (λ x y. P (f x) (f y)) xs
pairs_unmap f P [] h = tt
pairs_unmap f P (x ∷ xs) h = (each_unmap f (P (f x)) xs h.0, pairs_unmap f P xs h.1)

pub pairs_push : {X : Type 0} (P : X → X → Type 0) (xs : List X) (y : X) → EachPair P xs → Each (λ x. P x y) xs → EachPair P (xs ++ y ∷ [])
pairs_push P [] y h e = (tt, tt)
pairs_push P (x ∷ xs) y h e = (each_append (P x) xs (y ∷ []) h.0 (e.0, tt), pairs_push P xs y h.1 e.1)

pub among_left : {X : Type 0} (x : X) (xs ys : List X) → Among x xs → Among x (xs ++ ys)
among_left x [] ys h = absurd h
among_left x (z ∷ zs) ys (inl e) = inl e
among_left x (z ∷ zs) ys (inr h) = inr (among_left x zs ys h)

pub among_right : {X : Type 0} (x : X) (xs ys : List X) → Among x ys → Among x (xs ++ ys)
among_right x [] ys h = h
among_right x (z ∷ zs) ys h = inr (among_right x zs ys h)

pub among_either : {X : Type 0} (x : X) (xs ys : List X) → Among x (xs ++ ys) → (Among x xs) ⊎ (Among x ys)
among_either x [] ys h = inr h
among_either x (z ∷ zs) ys (inl e) = inl (inl e)
among_either x (z ∷ zs) ys (inr h) = elim (among_either x zs ys h) [ inl a ↦ inl (inr a) | inr b ↦ inr b ]

pub among_map : {X Y : Type 0} (f : X → Y) (x : X) (xs : List X) → Among x xs → Among (f x) (map f xs)
among_map f x [] h = absurd h
among_map f x (z ∷ zs) (inl e) = inl (ap f e)
among_map f x (z ∷ zs) (inr h) = inr (among_map f x zs h)

pub among_unmap : {X Y : Type 0} (f : X → Y) (y : Y) (xs : List X) → Among y (map f xs) → (x : X) × Among x xs × (f x ≡ y)
among_unmap f y [] h = absurd h
among_unmap f y (z ∷ zs) (inl e) = (z, inl refl, e)
among_unmap f y (z ∷ zs) (inr h) = let r : (x : _) × Among x zs × (f x ≡ y) = among_unmap f y zs h in (r.0, inr r.1, r.2)

pub among_filter : {X : Type 0} (p : X → Bool) (x : X) (xs : List X) → Among x xs → p x ≡ true → Among x (filter p xs)
among_filter p x [] h e = absurd h
among_filter p x (z ∷ zs) (inl same) e = rw (ap p same ∙ e) (inl same)
among_filter p x (z ∷ zs) (inr h) e = elim (p z) as (λ b. Among x (cond b (z ∷ filter p zs) (filter p zs))) [ true ↦ inr (among_filter p x zs h e) | false ↦ among_filter p x zs h e ]

pub among_unfilter : {X : Type 0} (p : X → Bool) (x : X) (xs : List X) → Among x (filter p xs) → Among x xs × (p x ≡ true)
among_unfilter p x [] h = absurd h
among_unfilter p x (z ∷ zs) h = go (p z) refl h (λ k. among_unfilter p x zs k)
  where
    go : (b : Bool) → p z ≡ b → Among x (cond b (z ∷ filter p zs) (filter p zs)) → (Among x (filter p zs) → Among x zs × (p x ≡ true)) → Among x (z ∷ zs) × (p x ≡ true)
    go true e (inl same) k = (inl same, ap p (sym same) ∙ e)
    go true e (inr there) k = (inr (k there).0, (k there).1)
    go false e there k = (inr (k there).0, (k there).1)

pub each_filter : {X : Type 0} (P : X → Type 0) (p : X → Bool) (xs : List X) → Each P xs → Each P (filter p xs)
each_filter P p [] h = tt
each_filter P p (x ∷ xs) h = elim (p x) as (λ b. Each P (cond b (x ∷ filter p xs) (filter p xs))) [ true ↦ (h.0, each_filter P p xs h.1) | false ↦ each_filter P p xs h.1 ]

pub pairs_filter : {X : Type 0} (R : X → X → Type 0) (p : X → Bool) (xs : List X) → EachPair R xs → EachPair R (filter p xs)
pairs_filter R p [] h = tt
pairs_filter R p (x ∷ xs) h = elim (p x) as (λ b. EachPair R (cond b (x ∷ filter p xs) (filter p xs))) [ true ↦ (each_filter (R x) p xs h.0, pairs_filter R p xs h.1) | false ↦ pairs_filter R p xs h.1 ]

pub among_get : {X : Type 0} (xs : List X) (i : ℕ) (d : X) → i < length xs → Among (get_or xs i d) xs
among_get [] i d low = absurd (omega arith)
among_get (x ∷ xs) zero d low = inl refl
among_get (x ∷ xs) (suc i) d low = inr (among_get xs i d (omega arith))

pub among_index : {X : Type 0} (xs : List X) (x d : X) → Among x xs → (i : ℕ) × (i < length xs) × (get_or xs i d ≡ x)
among_index [] x d h = absurd h
among_index (y ∷ ys) x d (inl e) = (0, omega arith, e)
among_index (y ∷ ys) x d (inr h) = let r : (i : ℕ) × (i < length ys) × (get_or ys i d ≡ x) = among_index ys x d h in (suc r.0, (let low : r.0 < length ys = r.1 in omega arith), r.2)

pub each_get : {X : Type 0} (P : X → Type 0) (xs : List X) (i : ℕ) (d : X) → Each P xs → i < length xs → P (get_or xs i d)
each_get P xs i d h low = each_at P xs (get_or xs i d) h (among_get xs i d low)
