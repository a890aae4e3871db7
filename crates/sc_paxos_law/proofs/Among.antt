-- Lists: two majorities that share a member, and elements of joined and of longer lists.
use Rattle.std.proofs.Common.{◌≡◌, ℕ, zero, suc, ◌+◌, ◌<◌, ◌≤◌, Bool, true, false, cond, eqb, List, [], ◌∷◌, ◌++◌, length, map, count_by, Some, ◌⊎◌, inl, inr, refl, sym, ◌∙◌, ap, subst, arith}
use Rattle.std.specs.Prelude.{slice_get}
use Rattle.std.specs.List.{flat_map}
use Rattle.std.proofs.lemmas.Bool.{cases_Bool, eqb-true, eq-eqb, or_cases, or_left, or_right, cond-true, cond-false, cond_both}
use Rattle.std.proofs.lemmas.List.Sums.{sum_by-cons}
use Rattle.sc_base.specs.Definitions.{is_member, IsMajority, Among}
use Rattle.sc_base.proofs.Lemmas.{at_most_one}

-- what stands in the first of two lists stands in both joined
pub Among-left : {X : Type 0} (x : X) (xs ys : List X) → Among x xs → Among x (xs ++ ys)
Among-left x [] ys a = absurd a
Among-left x (y ∷ xs) ys (inl e) = inl e
Among-left x (y ∷ xs) ys (inr a) = inr (Among-left x xs ys a)

-- what stands in the second of two lists stands in both joined
pub Among-right : {X : Type 0} (x : X) (xs ys : List X) → Among x ys → Among x (xs ++ ys)
Among-right x [] ys a = a
Among-right x (y ∷ xs) ys a = inr (Among-right x xs ys a)

-- what stands in two joined lists stands in one of them
pub Among-either : {X : Type 0} (x : X) (xs ys : List X) → Among x (xs ++ ys) → Among x xs ⊎ Among x ys
Among-either x [] ys a = inr a
Among-either x (y ∷ xs) ys (inl e) = inl (inl e)
Among-either x (y ∷ xs) ys (inr a) = elim (Among-either x xs ys a) [ inl b ↦ inl (inr b) | inr b ↦ inr b ]

-- what an element gives stands in what all of them give
pub Among-flat_map : {X Y : Type 0} (f : X → List Y) (xs : List X) (x : X) (y : Y) → Among x xs → Among y (f x) → Among y (flat_map f xs)
Among-flat_map f [] x y a b = absurd a
Among-flat_map f (z ∷ zs) x y (inl e) b = Among-left y (f z) _ (subst (λ u. Among y (f u)) (sym e) b)
Among-flat_map f (z ∷ zs) x y (inr a) b = Among-right y (f z) _ (Among-flat_map f zs x y a b)

-- what stands in what all elements give is given by one of them
pub from_flat_map : {X Y : Type 0} (f : X → List Y) (xs : List X) (y : Y) → Among y (flat_map f xs) → (x : X) × Among x xs × Among y (f x)
from_flat_map f [] y a = absurd a
from_flat_map f (x ∷ xs) y a =
    elim (Among-either y (f x) (flat_map f xs) a) [ inl b ↦ (x, inl refl, b) | inr b ↦ (let r = from_flat_map f xs y b in (r.0, inr r.1, r.2)) ]

-- what stands in a mapped list comes of an element
pub from_map : {X Y : Type 0} (f : X → Y) (xs : List X) (y : Y) → Among y (map f xs) → (x : X) × Among x xs × (f x ≡ y)
from_map f [] y a = absurd a
from_map f (x ∷ xs) y (inl e) = (x, inl refl, e)
from_map f (x ∷ xs) y (inr a) = let r = from_map f xs y a in (r.0, inr r.1, r.2)

-- a member stands in the list of members
pub member-among : (nodes : List ℕ) (node : ℕ) → is_member nodes node ≡ true → Among node nodes
member-among [] node e = cc
member-among (n ∷ ns) node e =
    elim (or_cases (eqb n node) (is_member ns node) e) [ inl h ↦ inl (eqb-true n node h) | inr h ↦ inr (member-among ns node h) ]

-- who stands in the list of members is a member
pub among-member : (nodes : List ℕ) (node : ℕ) → Among node nodes → is_member nodes node ≡ true
among-member [] node a = absurd a
among-member (n ∷ ns) node (inl e) = or_left (eqb n node) (is_member ns node) (eq-eqb n node e)
among-member (n ∷ ns) node (inr a) = or_right (eqb n node) (is_member ns node) (among-member ns node a)

both_at : (p q : ℕ → Bool) (x : ℕ) (xs : List ℕ) → (p x ≡ true) ⊎ (p x ≡ false) → (q x ≡ true) ⊎ (q x ≡ false)
    → length (x ∷ xs) < count_by p (x ∷ xs) + count_by q (x ∷ xs)
    → (length xs < count_by p xs + count_by q xs → (y : ℕ) × (p y ≡ true) × (q y ≡ true)) → (y : ℕ) × (p y ≡ true) × (q y ≡ true)
both_at p q x xs (inl a) (inl b) h rest = (x, a, b)
both_at p q x xs (inr a) b h rest =
    let e = sum_by-cons (λ y. cond (p y) 1 0) x xs ∙ ap (λ n. n + count_by p xs) (cond-false (p x) 1 0 a) in
    let f = sum_by-cons (λ y. cond (q y) 1 0) x xs in
    let g = at_most_one (q x) in
    rest (omega (arith, e, f, g))
both_at p q x xs a (inr b) h rest =
    let e = sum_by-cons (λ y. cond (p y) 1 0) x xs in
    let f = sum_by-cons (λ y. cond (q y) 1 0) x xs ∙ ap (λ n. n + count_by q xs) (cond-false (q x) 1 0 b) in
    let g = at_most_one (p x) in
    rest (omega (arith, e, f, g))

-- two tests that more than all elements pass, counted together, pass at one
both_pass : (p q : ℕ → Bool) (xs : List ℕ) → length xs < count_by p xs + count_by q xs → (y : ℕ) × (p y ≡ true) × (q y ≡ true)
both_pass p q [] h = absurd (omega arith)
both_pass p q (x ∷ xs) h = both_at p q x xs (cases_Bool (p x)) (cases_Bool (q x)) h (λ k. both_pass p q xs k)

-- two majorities share a member
pub shared_member : (members one other : List ℕ) → IsMajority members one → IsMajority members other → (n : ℕ) × Among n one × Among n other
shared_member members one other h k =
    let r = both_pass (is_member one) (is_member other) members (omega (arith, h, k)) in
    (r.0, member-among one r.0 r.1, member-among other r.0 r.2)

-- a test that passes more counts more
pub count_by-le : (p q : ℕ → Bool) (xs : List ℕ) → ((x : ℕ) → p x ≡ true → q x ≡ true) → count_by p xs ≤ count_by q xs
count_by-le p q [] f = omega arith
count_by-le p q (x ∷ xs) f =
    let one : cond (p x) 1 0 ≤ cond (q x) 1 0 = cond_both (p x) 1 0 (λ n. n ≤ cond (q x) 1 0) (λ t. (let e = cond-true {A = ℕ} (q x) 1 0 (f x t) in omega (arith, e))) (λ t. omega arith) in
    omega (arith, one, count_by-le p q xs f, sum_by-cons (λ y. cond (p y) 1 0) x xs, sum_by-cons (λ y. cond (q y) 1 0) x xs)

-- an element at a place stands in the list
pub place_among : {X : Type 0} (xs : List X) (k : ℕ) (x : X) → slice_get xs k ≡ Some x → Among x xs
place_among [] k x e = cc
place_among {X} (y ∷ ys) zero x e = let same : y ≡ x = cc in inl same
place_among (y ∷ ys) (suc k) x e = inr (place_among ys k x e)

-- an element of a list with one more stood there before, or is the new one
pub get_pushed : {X : Type 0} (xs : List X) (y : X) (k : ℕ) (x : X) → slice_get (xs ++ y ∷ []) k ≡ Some x → (slice_get xs k ≡ Some x) ⊎ ((k ≡ length xs) × (y ≡ x))
get_pushed [] y zero x e = inr (refl, cc)
get_pushed [] y (suc k) x e = cc
get_pushed (z ∷ xs) y zero x e = inl e
get_pushed (z ∷ xs) y (suc k) x e = elim (get_pushed xs y k x e) [ inl h ↦ inl h | inr p ↦ inr (ap suc p.0, p.1) ]
