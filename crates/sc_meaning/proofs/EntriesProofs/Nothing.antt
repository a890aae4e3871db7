-- An empty map has no entries, nor has a part of it.
use Rattle.std.proofs.Common.{◌≡◌, ℕ, Bool, true, false, cond, List, [], ◌∷◌, Option, None, refl, sym, ◌∙◌, ap, length, arith}
use Rattle.std.specs.FinMap.{empty, entries, len-empty, len-entries, get-empty}
use Rattle.std.specs.Ordering.{nat_cmp}
use Rattle.std.specs.declared.cmp.Ordering.{Ordering}
use Rattle.std.specs.Cmp.Lexicographic.{slice_cmp}
use Rattle.sc_base.specs.Definitions.{Arc}
use Rattle.sc_words.specs.ideal.IdealDefinitions.{part_of, holds_key}
use Rattle.sc_words.proofs.IdealProofs.IdealLemmas.{same_contents, get-part}

none_of : {X : Type 0} (xs : List X) → length xs ≡ 0 → xs ≡ []
none_of [] e = refl
none_of (x ∷ xs) e = absurd (omega arith)

-- of an empty map
pub nothing_in : {K : Type 0} (R : K → K → Ordering) (X : Type 0) → entries (empty {X = X} {R = R}) ≡ []
nothing_in R X = none_of _ (sym (len-entries (empty {X = X} {R = R})) ∙ len-empty R X)

still_none : (b : Bool) → (let none : Option (List ℕ) = None in cond b none none ≡ none)
still_none true = refl
still_none false = refl

pub part_of_nothing : (arc : Arc) → part_of arc empty ≡ empty
part_of_nothing arc = same_contents _ _ (λ key.
    get-part empty (holds_key arc) key
    ∙ ap (λ o. cond (holds_key arc key) o None) (get-empty (slice_cmp nat_cmp) key)
    ∙ still_none (holds_key arc key)
    ∙ sym (get-empty (slice_cmp nat_cmp) key))

-- of a part of an empty store
pub nothing_on : (arc : Arc) → entries (part_of arc empty) ≡ []
nothing_on arc = ap (λ c. entries c) (part_of_nothing arc) ∙ nothing_in (slice_cmp nat_cmp) (List ℕ)
