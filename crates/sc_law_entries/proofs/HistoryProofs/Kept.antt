-- Entries of which no two are of one client and number, in another form.
use Rattle.std.proofs.Common.{ℕ, zero, suc, ◌<◌, List, [], ◌∷◌, ◌++◌, length, get_or, inl, inr, refl, AllPairs, arith}
use Rattle.sc_words.specs.ideal.IdealDefinitions.{AreApart}
use Rattle.sc_words.specs.declared.ideal.Entry.{Entry}
use Rattle.sc_base.specs.Definitions.{Among, Each}
use Rattle.sc_words.proofs.PaxosProofs.PaxosLemmas.{Each-among, Each-append}

-- no two entries are of one client and number
abbrev pub IsApart : List Entry → Type 0
IsApart [] = Unit {0}
IsApart (e ∷ es) = Each (AreApart e) es × IsApart es

get-among : (es : List Entry) (k : ℕ) (d : Entry) → k < length es → Among (get_or es k d) es
get-among [] k d lt = absurd (omega (arith, lt))
get-among (e ∷ es) zero d lt = inl refl
get-among (e ∷ es) (suc k) d lt = inr (get-among es k d (omega (arith, lt)))

-- no two entries are of one client and number, as std says it
pub all_pairs : (es : List Entry) → IsApart es → AllPairs AreApart es
all_pairs [] a i j d below inside = absurd (omega (arith, inside))
all_pairs (e ∷ es) a i zero d below inside = absurd (omega (arith, below))
all_pairs (e ∷ es) a zero (suc j) d below inside = Each-among _ es _ a.0 (get-among es j d (omega (arith, inside)))
all_pairs (e ∷ es) a (suc i) (suc j) d below inside = all_pairs es a.1 i j d (omega (arith, below)) (omega (arith, inside))

-- one more entry is apart where it is apart from each
pub apart_push : (es : List Entry) (new : Entry) → IsApart es → ((e : Entry) → Among e es → AreApart e new) → IsApart (es ++ new ∷ [])
apart_push [] new a f = (tt, tt)
apart_push (e ∷ es) new a f = (Each-append (AreApart e) es (new ∷ []) a.0 (f e (inl refl), tt), apart_push es new a.1 (λ x b. f x (inr b)))

-- later entries are apart from each other where all are
pub apart_right : (es fs : List Entry) → IsApart (es ++ fs) → IsApart fs
apart_right [] fs a = a
apart_right (e ∷ es) fs a = apart_right es fs a.1
