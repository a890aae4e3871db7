-- Maps that are joined with entries, and the parts of a map on two arcs that meet.
use Rattle.std.proofs.Common.{◌≡◌, ℕ, Bool, true, false, cond, ◌&&◌, ◌||◌, List, [], ◌∷◌, Option, Some, None, refl, sym, ap, ◌∙◌}
use Rattle.std.specs.declared.cmp.Ordering.{Ordering}
use Rattle.std.specs.declared.cmp.Ordering.TheVariants.{Less, Equal, Greater}
use Rattle.std.specs.Ordering.{nat_cmp, eq_by_cmp, is_eq, is_lt}
use Rattle.std.specs.Cmp.{IsTotalOrder}
use Rattle.std.specs.Cmp.Lexicographic.{slice_cmp, nat_list_cmp_total}
use Rattle.std.specs.FinMap.{find, is_sorted, get, insert, entries, get-insert, get-entries, entries_sorted}
use Rattle.std.specs.FinMap.Entries.{below_all}
use Rattle.sc_base.specs.Definitions.{joined, pos_of}
use Rattle.sc_base.proofs.Lemmas.{joins_hold}
use Rattle.sc_words.specs.ideal.IdealDefinitions.{Contents, holds_key, part_of, with_pairs, MapPartsJoin}
use Rattle.sc_words.proofs.IdealProofs.Apart.{same_contents, get-part}
use lib.Dec.{T}

first_holds : (a b : Bool) → T (a && b) → T a
first_holds true b h = tt
first_holds false b h = h

second_holds : (a b : Bool) → T (a && b) → T b
second_holds true b h = h
second_holds false b h = absurd h

-- an ordering that is a tie
pub ties : (o : Ordering) → is_eq o ≡ true → o ≡ Equal
ties Less e = absurd (let f : false ≡ true = e in cc)
ties Equal e = refl
ties Greater e = absurd (let f : false ≡ true = e in cc)

less : (o : Ordering) → T (is_lt o) → o ≡ Less
less Less h = refl
less Equal h = absurd h
less Greater h = absurd h

module _ {K X : Type 0} (R : K → K → Ordering) (total : IsTotalOrder R) where
  none_above : (q x : K) → R q x ≡ Equal → (es : List (K × X)) → T (below_all R x es) → find R q es ≡ None
  none_above q x tie [] h = refl
  none_above q x tie (e ∷ es) h =
      ap (λ o. cond (is_eq o) (Some e.1) (find R q es)) (total.congr q x e.0 tie ∙ less _ (first_holds _ _ h))
      ∙ none_above q x tie es (second_holds _ _ h)

  -- among entries that rise, no later one has the first one's key
  pub none_past : (q : K) (e : K × X) (es : List (K × X)) → T (is_sorted R (e ∷ es)) → eq_by_cmp R q e.0 ≡ true → find R q es ≡ None
  none_past q e es up tie = none_above q e.0 (ties _ tie) es (first_holds _ _ up)

  -- the rest of a sorted list is sorted
  pub sorted_rest : (e : K × X) (es : List (K × X)) → T (is_sorted R (e ∷ es)) → T (is_sorted R es)
  sorted_rest e es up = second_holds (below_all R e.0 es) (is_sorted R es) up

-- what was found, or else what was there
abbrev pub or_else : {X : Type 0} → Option X → Option X → Option X
or_else None old = old
or_else (Some new) old = Some new

turned : {X : Type 0} (tie : Bool) (value old found : Option X) (new : X) → value ≡ Some new → (tie ≡ true → found ≡ None) → or_else found (cond tie value old) ≡ or_else (cond tie value found) old
turned true value old found new is none = rw (none refl, is) refl
turned false value old found new is none = refl

-- look-ups after pairs were added
pub get-with_pairs : (es : List (List ℕ × List ℕ)) → T (is_sorted (slice_cmp nat_cmp) es) → (m : Contents) (q : List ℕ) → get (with_pairs m es) q ≡ or_else (find (slice_cmp nat_cmp) q es) (get m q)
get-with_pairs [] up m q = refl
get-with_pairs (e ∷ es) up m q =
    get-with_pairs es (sorted_rest (slice_cmp nat_cmp) nat_list_cmp_total e es up) (insert m e.0 e.1) q
    ∙ ap (or_else (find (slice_cmp nat_cmp) q es)) (get-insert nat_list_cmp_total m e.0 e.1 q)
    ∙ turned (eq_by_cmp (slice_cmp nat_cmp) q e.0) (Some e.1) (get m q) (find (slice_cmp nat_cmp) q es) e.1 refl (none_past (slice_cmp nat_cmp) nat_list_cmp_total q e es up)

-- what either part has, the whole has
either : {X : Type 0} (a b : Bool) (old : Option X) → or_else (cond b old None) (cond a old None) ≡ cond (a || b) old None
either true true None = refl
either true true (Some x) = refl
either true false old = refl
either false true None = refl
either false true (Some x) = refl
either false false old = refl

-- the parts on two arcs that meet join to the part on the joined arc
pub parts_join : MapPartsJoin
parts_join arc next contents lo_fits is is' can = same_contents _ _ (λ q.
    let here : get (part_of next contents) q ≡ cond (holds_key next q) (get contents q) None = get-part contents (holds_key next) q in
    let there : get (part_of arc contents) q ≡ cond (holds_key arc q) (get contents q) None = get-part contents (holds_key arc) q in
    get-with_pairs (entries (part_of next contents)) (entries_sorted (part_of next contents)) (part_of arc contents) q
    ∙ ap (λ o. or_else o (get (part_of arc contents) q)) (sym (get-entries (part_of next contents) q) ∙ here)
    ∙ ap (or_else (cond (holds_key next q) (get contents q) None)) there
    ∙ either (holds_key arc q) (holds_key next q) (get contents q)
    ∙ ap (λ b. cond b (get contents q) None) (sym ((joins_hold arc next lo_fits is is' can).both (pos_of q)))
    ∙ sym (get-part contents (holds_key (joined arc next)) q))
