-- Look-ups in lists that are changed, added to or filtered.
use Rattle.std.specs.Prelude.{map, find}
use Rattle.std.specs.List.{filter}
use Rattle.std.specs.Option.{option_map}
use Rattle.std.proofs.Common.{◌≡◌, ℕ, zero, suc, ◌<◌, Bool, true, false, cond, List, [], ◌∷◌, inl, inr, Option, Some, None, refl, ◌∙◌, ap, arith, length, AllPairs, get_or}
use Rattle.std.proofs.lemmas.Bool.{cond-true, cond-false}
use Rattle.sc_base.specs.Definitions.{Among, Each}
use Rattle.sc_words.proofs.PaxosProofs.PaxosLemmas.{Each-among, Each-filter, Each-from_All}
use Rattle.sc_base.proofs.Lemmas.{AllPairs-head, AllPairs-tail}
pub use Rattle.sc_law_walks.proofs.Lists.{map_among}

pub some_none : {X : Type 0} (a : X) → Some a ≡ None → ⊥
some_none a e = cc

cond_map : {X : Type 0} (f : X → X) (b : Bool) (x : X) (o : Option X) → cond b (Some (f x)) (option_map f o) ≡ option_map f (cond b (Some x) o)
cond_map f true x o = refl
cond_map f false x o = refl

-- a change that keeps what is looked for
pub find_map : {X : Type 0} (p : X → Bool) (f : X → X) → ((x : X) → p (f x) ≡ p x) → (xs : List X) → find p (map f xs) ≡ option_map f (find p xs)
find_map p f same [] = refl
find_map p f same (x ∷ xs) =
    ap (λ b. cond b (Some (f x)) (find p (map f xs))) (same x)
    ∙ ap (cond (p x) (Some (f x))) (find_map p f same xs)
    ∙ cond_map f (p x) x (find p xs)

pub find_first : {X : Type 0} (p : X → Bool) (x : X) (xs : List X) → p x ≡ true → find p (x ∷ xs) ≡ Some x
find_first p x xs t = cond-true (p x) (Some x) (find p xs) t

pub find_skips : {X : Type 0} (p : X → Bool) (x : X) (xs : List X) → p x ≡ false → find p (x ∷ xs) ≡ find p xs
find_skips p x xs t = cond-false (p x) (Some x) (find p xs) t

-- ---- elements

pub each_map : {X : Type 0} (P : X → Type 0) (f : X → X) → ((x : X) → P x → P (f x)) → (xs : List X) → Each P xs → Each P (map f xs)
each_map P f keeps [] h = tt
each_map P f keeps (x ∷ xs) h = (keeps x h.0, each_map P f keeps xs h.1)

-- ---- pairs of elements

-- a relation of each element to all later ones
abbrev pub Pairwise : {X : Type 0} → (X → X → Type 0) → List X → Type 0
Pairwise R [] = Unit {0}
Pairwise R (x ∷ xs) = Each (R x) xs × Pairwise R xs

get_among : {X : Type 0} (xs : List X) (k : ℕ) (d : X) → k < length xs → Among (get_or xs k d) xs
get_among [] k d lt = absurd (omega (arith, lt))
get_among (e ∷ xs) zero d lt = inl refl
get_among (e ∷ xs) (suc k) d lt = inr (get_among xs k d (omega (arith, lt)))

pub all_pairs : {X : Type 0} (R : X → X → Type 0) (xs : List X) → Pairwise R xs → AllPairs R xs
all_pairs R [] a i j d below inside = absurd (omega (arith, inside))
all_pairs R (e ∷ xs) a i zero d below inside = absurd (omega (arith, below))
all_pairs R (e ∷ xs) a zero (suc j) d below inside = Each-among (R e) xs (get_or xs j d) a.0 (get_among xs j d (omega (arith, inside)))
all_pairs R (e ∷ xs) a (suc i) (suc j) d below inside = all_pairs R xs a.1 i j d (omega (arith, below)) (omega (arith, inside))

pub pairwise_from : {X : Type 0} (R : X → X → Type 0) (xs : List X) → AllPairs R xs → Pairwise R xs
pairwise_from R [] all = tt
pairwise_from R (x ∷ xs) all = (Each-from_All (R x) xs (AllPairs-head R x xs all), pairwise_from R xs (AllPairs-tail R x xs all))

pub pairwise_filter : {X : Type 0} (R : X → X → Type 0) (p : X → Bool) (xs : List X) → Pairwise R xs → Pairwise R (filter p xs)
pairwise_filter R p [] h = tt
pairwise_filter R p (x ∷ xs) h =
    let rest = pairwise_filter R p xs h.1 in
    elim (p x) as (λ b. Pairwise R (cond b (x ∷ filter p xs) (filter p xs))) [ true ↦ (Each-filter (R x) p xs h.0, rest) | false ↦ rest ]
