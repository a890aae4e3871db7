-- The map that a store's entries make.
use Rattle.std.proofs.Common.{◌≡◌, ℕ, Bool, cond, List, ◌∷◌, ◌++◌, Some, None, map, subst}
use Rattle.std.specs.List.{filter}
use Rattle.std.specs.List.Sorted.{IsStrictlySortedBy}
use Rattle.sc_base.specs.Definitions.{EndsBelow}
use Rattle.std.specs.Ordering.{nat_cmp}
use Rattle.std.specs.Cmp.Lexicographic.{slice_cmp, nat_list_cmp_total}
use Rattle.std.specs.Map.{lookup}
use Rattle.std.specs.BTreeMap.{is_at}
use Rattle.std.specs.FinMap.{get, insert, remove, retain_keys, entries, from_entries}
use Rattle.std.proofs.lemmas.Map.Lookups.{exact_bytes}
use Rattle.sc_words.proofs.IdealProofs.IdealLemmas.{get-kept, insert-kept, remove-kept, retain-kept, entries-kept, entries-part, is_sorted_from, all_end_below, part_ends_below}

-- keys and values as lists
abbrev pub Pairs : Type 0
Pairs = List (List ℕ × List ℕ)

-- look-ups among pairs
pub get-bytes : (es : Pairs) (q : List ℕ) → get (from_entries {R = slice_cmp nat_cmp} es) q ≡ lookup (is_at (slice_cmp nat_cmp q)) es
get-bytes es q = get-kept (slice_cmp nat_cmp) nat_list_cmp_total exact_bytes es q

-- pairs with one more
pub insert-bytes : (es fs : Pairs) (k v : List ℕ) → ((q : List ℕ) → lookup (is_at (slice_cmp nat_cmp q)) fs ≡ cond (is_at (slice_cmp nat_cmp k) q) (Some v) (lookup (is_at (slice_cmp nat_cmp q)) es)) → from_entries {R = slice_cmp nat_cmp} fs ≡ insert (from_entries es) k v
insert-bytes = insert-kept (slice_cmp nat_cmp) nat_list_cmp_total exact_bytes

-- pairs without one
pub remove-bytes : (es fs : Pairs) (k : List ℕ) → ((q : List ℕ) → lookup (is_at (slice_cmp nat_cmp q)) fs ≡ cond (is_at (slice_cmp nat_cmp k) q) None (lookup (is_at (slice_cmp nat_cmp q)) es)) → from_entries {R = slice_cmp nat_cmp} fs ≡ remove (from_entries es) k
remove-bytes = remove-kept (slice_cmp nat_cmp) nat_list_cmp_total exact_bytes

-- the pairs of a part are those that its arc holds
pub part-bytes : (es : Pairs) (p : List ℕ → Bool) → IsStrictlySortedBy (slice_cmp nat_cmp) (map (λ e. e.0) es) → entries (retain_keys (from_entries {R = slice_cmp nat_cmp} es) p) ≡ filter (λ e. p e.0) es
part-bytes es p up = entries-part (slice_cmp nat_cmp) nat_list_cmp_total exact_bytes es p (is_sorted_from (slice_cmp nat_cmp) es up)

-- pairs whose keys pass a test
pub retain-bytes : (es : Pairs) (p : List ℕ → Bool) → from_entries {R = slice_cmp nat_cmp} (filter (λ e. p e.0) es) ≡ retain_keys (from_entries es) p
retain-bytes = retain-kept (slice_cmp nat_cmp) nat_list_cmp_total exact_bytes

-- the next pair kept is above those before it
pub next_below : (p : List ℕ → Bool) (all xs : Pairs) (e : List ℕ × List ℕ) (ys : Pairs) → all ≡ xs ++ e ∷ ys → IsStrictlySortedBy (slice_cmp nat_cmp) (map (λ f. f.0) all) → EndsBelow (slice_cmp nat_cmp) (filter (λ f. p f.0) xs) e.0
next_below p all xs e ys is up = part_ends_below (slice_cmp nat_cmp) (λ f. p f.0) xs e ys (subst (λ l. IsStrictlySortedBy (slice_cmp nat_cmp) (map (λ f. f.0) l)) is up)

-- the entries of the map of sorted pairs
pub entries-bytes : (es : Pairs) → IsStrictlySortedBy (slice_cmp nat_cmp) (map (λ e. e.0) es) → entries (from_entries {R = slice_cmp nat_cmp} es) ≡ es
entries-bytes es up = entries-kept (slice_cmp nat_cmp) nat_list_cmp_total exact_bytes es (is_sorted_from (slice_cmp nat_cmp) es up)

-- the next of all pairs is above those before it
pub next_of_all : (all xs : Pairs) (e : List ℕ × List ℕ) (ys : Pairs) → all ≡ xs ++ e ∷ ys → IsStrictlySortedBy (slice_cmp nat_cmp) (map (λ f. f.0) all) → EndsBelow (slice_cmp nat_cmp) xs e.0
next_of_all all xs e ys is up = all_end_below (slice_cmp nat_cmp) xs e ys (subst (λ l. IsStrictlySortedBy (slice_cmp nat_cmp) (map (λ f. f.0) l)) is up)
