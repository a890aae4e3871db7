-- The map that a table's entries make.
use Rattle.std.proofs.Common.{◌≡◌, ℕ, cond, List, ◌∷◌, ◌++◌, Some, map, subst}
use Rattle.std.specs.Ordering.{nat_cmp}
use Rattle.std.specs.List.Sorted.{IsStrictlySortedBy}
use Rattle.std.specs.Cmp.{nat_cmp_total}
use Rattle.std.specs.Map.{lookup}
use Rattle.std.specs.BTreeMap.{is_at}
use Rattle.std.specs.FinMap.{get, insert, entries, from_entries}
use Rattle.std.proofs.lemmas.Map.Lookups.{exact_unsigned}
use Rattle.sc_base.specs.Definitions.{EndsBelow}
use Rattle.sc_base.specs.declared.ops.Noted.{Noted}
use Rattle.sc_words.proofs.IdealProofs.IdealLemmas.{get-kept, insert-kept, entries-kept, is_sorted_from, all_end_below}

-- look-ups by number
pub get-numbers : (es : List (ℕ × Noted)) (q : ℕ) → get (from_entries {R = nat_cmp} es) q ≡ lookup (is_at (nat_cmp q)) es
get-numbers = get-kept nat_cmp nat_cmp_total exact_unsigned

-- entries with one more
pub insert-numbers : (es fs : List (ℕ × Noted)) (k : ℕ) (v : Noted) → ((q : ℕ) → lookup (is_at (nat_cmp q)) fs ≡ cond (is_at (nat_cmp k) q) (Some v) (lookup (is_at (nat_cmp q)) es)) → from_entries {R = nat_cmp} fs ≡ insert (from_entries es) k v
insert-numbers = insert-kept nat_cmp nat_cmp_total exact_unsigned

-- the entries of the map of sorted ones
pub entries-numbers : (es : List (ℕ × Noted)) → IsStrictlySortedBy nat_cmp (map (λ e. e.0) es) → entries (from_entries {R = nat_cmp} es) ≡ es
entries-numbers es up = entries-kept nat_cmp nat_cmp_total exact_unsigned es (is_sorted_from nat_cmp es up)

-- the next entry is above those before it
pub next_below : (all xs : List (ℕ × Noted)) (e : ℕ × Noted) (ys : List (ℕ × Noted)) → all ≡ xs ++ e ∷ ys → IsStrictlySortedBy nat_cmp (map (λ f. f.0) all) → EndsBelow nat_cmp xs e.0
next_below all xs e ys is up = all_end_below nat_cmp xs e ys (subst (λ l. IsStrictlySortedBy nat_cmp (map (λ f. f.0) l)) is up)
