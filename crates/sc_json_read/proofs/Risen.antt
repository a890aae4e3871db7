-- Entries whose keys rise.
use Rattle.std.proofs.Common.{◌≡◌, ◌-◌, ◌==◌, Bool, true, false, IsTrue, List, [], ◌∷◌, ◌++◌, length, Some, Ordering, Less, Equal, Greater, Global, refl, ap, sym, ◌∙◌, subst, arith}
use Rattle.std.specs.FinMap.{is_sorted}
use Rattle.std.specs.FinMap.Entries.{below_all}
use Rattle.std.specs.Iterator.{Yields}
use Rattle.std.specs.List.{slice_get}
use Rattle.std.specs.Ordering.{is_lt, ordering_index}
use Rattle.std.specs.Vec.Iter.{into_iter_items, into_iter_steps}
use Rattle.std.specs.declared.vec.IntoIter.{IntoIter}
use Rattle.std.proofs.lemmas.Bool.{and_parts}
use Rattle.sc_base.specs.Ascending.{EndsBelow, IsAscending}

-- ---- the last key

is_less : (r : Ordering) → IsTrue (ordering_index r == 0) → r ≡ Less
is_less Less h = refl
is_less Equal h = absurd (cc)
is_less Greater h = absurd (cc)

less_index : (r : Ordering) → r ≡ Less → IsTrue (ordering_index r == 0)
less_index r h = ap (λ o. ordering_index o == 0) h

lt_less : (r : Ordering) → is_lt r ≡ true → r ≡ Less
lt_less Less h = refl
lt_less Equal h = absurd (cc)
lt_less Greater h = absurd (cc)

module _ {K X : Type 0} (R : K → K → Ordering) where
  last_below : (e : K × X) (es : List (K × X)) (last : K × X) (key : K) → Some last ≡ slice_get (e ∷ es) (length es) → (R last.0 key ≡ Less → EndsBelow R (e ∷ es) key) × (EndsBelow R (e ∷ es) key → R last.0 key ≡ Less)
  last_below e [] last key is =
      let same : last ≡ e = cc in
      (λ h. ap (λ (x : K × X). R x.0 key) (sym same) ∙ h, λ h. ap (λ (x : K × X). R x.0 key) same ∙ h)
  last_below e (f ∷ fs) last key is = last_below f fs last key is

  last_less : (es : List (K × X)) (last : K × X) (key : K) → Some last ≡ slice_get es (length es - 1) → (R last.0 key ≡ Less → EndsBelow R es key) × (EndsBelow R es key → R last.0 key ≡ Less)
  last_less [] last key is = absurd (cc)
  last_less (e ∷ es) last key is =
      let place : length (e ∷ es) - 1 ≡ length es = omega arith in
      last_below e es last key (is ∙ ap (slice_get (e ∷ es)) place)

  -- whether the last key is below another
  pub ends_by : (es all : List (K × X)) (last : K × X) (key : K) (order : Ordering) (result : Bool) → all ≡ es → Some last ≡ slice_get all (length all - 1) → order ≡ R last.0 key → result ≡ (ordering_index order == 0)
      → (IsTrue result → EndsBelow R es key) × (EndsBelow R es key → IsTrue result)
  ends_by es all last key order result same is compared tested =
      let both = last_less es last key (is ∙ ap (λ l. slice_get l (length l - 1)) same) in
      (λ h. both.0 (sym compared ∙ is_less order (sym tested ∙ h)), λ h. tested ∙ less_index order (compared ∙ both.1 h))

  -- ---- what the entries before another are

  ends_before : (xs : List (K × X)) (e : K × X) (ys : List (K × X)) → IsAscending R (xs ++ e ∷ ys) → EndsBelow R xs e.0
  ends_before [] e ys h = tt
  ends_before (f ∷ []) e ys h =
      let parts = and_parts (below_all R f.0 (e ∷ ys)) (is_sorted R (e ∷ ys)) h in
      lt_less (R f.0 e.0) (and_parts (is_lt (R f.0 e.0)) (below_all R f.0 ys) parts.0).0
  ends_before (f ∷ g ∷ fs) e ys h =
      let parts = and_parts (below_all R f.0 (g ∷ fs ++ e ∷ ys)) (is_sorted R (g ∷ fs ++ e ∷ ys)) h in
      ends_before (g ∷ fs) e ys parts.1

  -- an entry that does not fit shows that the keys do not rise
  pub falls : (xs list all : List (K × X)) (e : K × X) (ys rest : List (K × X)) (fits : Bool) → all ≡ xs ++ rest → rest ≡ e ∷ ys → list ≡ xs → (EndsBelow R list e.0 → IsTrue fits) → fits ≡ false → IsAscending R all → ⊥
  falls xs list all e ys rest fits is next same test none rises =
      let whole : all ≡ xs ++ e ∷ ys = is ∙ ap (λ l. xs ++ l) next in
      let below = ends_before xs e ys (subst (λ l. IsAscending R l) whole rises) in
      let yes : fits ≡ true = test (subst (λ l. EndsBelow R l e.0) (sym same) below) in
      let clash : true ≡ false = sym yes ∙ none in cc

-- what a list gave, and what it has left
pub given : {X : Type 0} (s t : IntoIter X Global) (xs : List X) → Yields into_iter_steps s xs t → into_iter_items s ≡ xs ++ into_iter_items t
given s t [] y = ap into_iter_items y
given s t (x ∷ xs) y = y.1.0 ∙ ap (λ l. x ∷ l) (given y.0 t xs y.2)
