-- Pairs whose keys differ, and those of a map that an arc holds.
use Rattle.std.proofs.Common.{◌≡◌, ◌≢◌, ℕ, zero, suc, ◌<◌, Bool, true, false, cond, not, inl, inr, List, [], ◌∷◌, ◌++◌, length, get_or, Some, None, refl, sym, ◌∙◌, ap, subst, arith}
use Rattle.std.specs.Prelude.{IsTrue}
use Rattle.std.specs.List.{filter}
use Rattle.std.specs.Ordering.{nat_cmp, is_eq, eq_by_cmp}
use Rattle.std.specs.declared.cmp.Ordering.{Ordering}
use Rattle.std.specs.declared.cmp.Ordering.TheVariants.{Less, Equal, Greater}
use Rattle.std.specs.Cmp.{eq_by_cmp_equiv}
use Rattle.std.specs.Cmp.Lexicographic.{slice_cmp, nat_list_cmp_total}
use Rattle.std.specs.FinMap.{entries, entries_sorted, get, get-entries, get-retain_keys, is_sorted}
use Rattle.std.specs.FinMap.Entries.{below_all}
use Rattle.std.specs.FinMap as map
use Rattle.std.proofs.lemmas.Bool.{cases_Bool, cond-true, cond-false}
use Rattle.std.proofs.lemmas.Map.Lookups.{exact_bytes}
use Rattle.std.proofs.lemmas.Option.{same_Some}
use lib.Dec.{T}
use Rattle.sc_base.specs.Among.{Among, Each}
use Rattle.sc_base.specs.Arc.{Arc}
use Rattle.sc_base.proofs.AscendingLemmas.{and_left, and_right, is_less}
use Rattle.sc_words.specs.ideal.IdealStore.{Contents, holds_key, part_of}
use Rattle.sc_paxos_law.proofs.Among.{Among-either, Among-left, Among-right}
use Rattle.sc_words.proofs.PaxosProofs.ListLemmas.{Among-filter, Each-among, Each-append, Each-from, from_filter}
use Rattle.sc_law_entries.proofs.RingProofs.Finds.{Pairwise, pairwise_filter}
use Rattle.sc_world_entries.specs.scans.Order.{Pair, held, is_low, ordered}

-- two pairs have two keys
abbrev pub KeysDiffer : Pair → Pair → Type 0
KeysDiffer pair other = pair.0 ≢ other.0

-- two lists whose elements are apart
pub pairwise_append : {X : Type 0} (R : X → X → Type 0) (xs ys : List X) → Pairwise R xs → Pairwise R ys → ((x y : X) → Among x xs → Among y ys → R x y) → Pairwise R (xs ++ ys)
pairwise_append R [] ys one other between = other
pairwise_append R (x ∷ xs) ys one other between =
    (Each-append (R x) xs ys one.0 (Each-from (R x) ys (λ y a. between x y (inl refl) a)), pairwise_append R xs ys one.1 other (λ z y a b. between z y (inr a) b))

-- ---- entries of a map

less_differs : (one other : List ℕ) → slice_cmp nat_cmp one other ≡ Less → one ≢ other
less_differs one other less same =
    let turned = nat_list_cmp_total.antisymm one one in
    let alone : slice_cmp nat_cmp one one ≡ Less = subst (λ key. slice_cmp nat_cmp one key ≡ Less) (sym same) less in
    cc

below_differ : (key : List ℕ) (es : List Pair) → below_all (slice_cmp nat_cmp) key es ≡ true → Each (λ pair. key ≢ pair.0) es
below_differ key [] below = tt
below_differ key (e ∷ es) below = (less_differs key e.0 (is_less _ (and_left _ _ below)), below_differ key es (and_right _ _ below))

-- keys that rise differ
pub sorted_differ : (es : List Pair) → is_sorted (slice_cmp nat_cmp) es ≡ true → Pairwise KeysDiffer es
sorted_differ [] up = tt
sorted_differ (e ∷ es) up = (below_differ e.0 es (and_left _ _ up), sorted_differ es (and_right _ _ up))

truth : (b : Bool) → T b → b ≡ true
truth true h = refl
truth false h = absurd h

equal_from : (o : Ordering) → is_eq o ≡ true → o ≡ Equal
equal_from Less e = absurd (let no_way : false ≡ true = e in cc)
equal_from Equal e = refl
equal_from Greater e = absurd (let no_way : false ≡ true = e in cc)

-- what is found at a key stands among the entries
found_among : (key value : List ℕ) (es : List Pair) → map.find (slice_cmp nat_cmp) key es ≡ Some value → Among (key, value) es
found_among key value [] e = absurd (cc)
found_among key value (f ∷ es) e = elim (cases_Bool (eq_by_cmp (slice_cmp nat_cmp) key f.0)) [
  | inl t ↦
      let same : key ≡ f.0 = exact_bytes key f.0 (equal_from _ t) in
      let here : Some f.1 ≡ Some value = sym (cond-true (eq_by_cmp (slice_cmp nat_cmp) key f.0) (Some f.1) (map.find (slice_cmp nat_cmp) key es) t) ∙ e in
      inl (pair_same f key value (sym same) (same_Some f.1 value here))
  | inr n ↦ inr (found_among key value es (sym (cond-false (eq_by_cmp (slice_cmp nat_cmp) key f.0) (Some f.1) (map.find (slice_cmp nat_cmp) key es) n) ∙ e))
]
  where
    pair_same : (f : Pair) (key value : List ℕ) → f.0 ≡ key → f.1 ≡ value → f ≡ (key, value)
    pair_same f key value e g = ap (λ k. (k, f.1)) e ∙ ap (λ v. (key, v)) g

-- what stands among entries with other keys is found at its key
among_found : (key value : List ℕ) (es : List Pair) → Pairwise KeysDiffer es → Among (key, value) es → map.find (slice_cmp nat_cmp) key es ≡ Some value
among_found key value [] apart a = absurd a
among_found key value (f ∷ es) apart (inl is) =
    let tied : eq_by_cmp (slice_cmp nat_cmp) key f.0 ≡ true = subst (λ (pair : Pair). eq_by_cmp (slice_cmp nat_cmp) key pair.0 ≡ true) (sym is) ((eq_by_cmp_equiv nat_list_cmp_total).refl key) in
    cond-true (eq_by_cmp (slice_cmp nat_cmp) key f.0) (Some f.1) (map.find (slice_cmp nat_cmp) key es) tied ∙ ap (λ (pair : Pair). Some pair.1) is
among_found key value (f ∷ es) apart (inr there) =
    let other : eq_by_cmp (slice_cmp nat_cmp) key f.0 ≡ false = untied (λ same. Each-among (KeysDiffer f) es (key, value) apart.0 there (sym same)) in
    cond-false (eq_by_cmp (slice_cmp nat_cmp) key f.0) (Some f.1) (map.find (slice_cmp nat_cmp) key es) other ∙ among_found key value es apart.1 there
  where
    untied : key ≢ f.0 → eq_by_cmp (slice_cmp nat_cmp) key f.0 ≡ false
    untied ne = elim (cases_Bool (eq_by_cmp (slice_cmp nat_cmp) key f.0)) [ inl t ↦ absurd (ne (exact_bytes key f.0 (equal_from _ t))) | inr n ↦ n ]

-- the entries of a map have keys that differ
pub entries_differ : (contents : Contents) → Pairwise KeysDiffer (entries contents)
entries_differ contents = sorted_differ (entries contents) (truth _ (entries_sorted contents))

-- a pair is an entry exactly where the map has it
pub entry_found : (contents : Contents) (key value : List ℕ) → Among (key, value) (entries contents) → get contents key ≡ Some value
entry_found contents key value a = get-entries contents key ∙ among_found key value (entries contents) (entries_differ contents) a

pub found_entry : (contents : Contents) (key value : List ℕ) → get contents key ≡ Some value → Among (key, value) (entries contents)
found_entry contents key value e = found_among key value (entries contents) (sym (get-entries contents key) ∙ e)

-- ---- the part of a map

part_get : (arc : Arc) (contents : Contents) (key : List ℕ) → get (part_of arc contents) key ≡ cond (holds_key arc key) (get contents key) None
part_get arc contents key = get-retain_keys contents (holds_key arc) key (λ x tie. ap (holds_key arc) (sym (exact_bytes key x tie)))

pub found_in_part : (arc : Arc) (contents : Contents) (key value : List ℕ) → get contents key ≡ Some value → IsTrue (holds_key arc key) → get (part_of arc contents) key ≡ Some value
found_in_part arc contents key value e held = part_get arc contents key ∙ cond-true (holds_key arc key) (get contents key) None held ∙ e

pub part_found : (arc : Arc) (contents : Contents) (key value : List ℕ) → get (part_of arc contents) key ≡ Some value → get contents key ≡ Some value
part_found arc contents key value e = elim (cases_Bool (holds_key arc key)) [
  | inl t ↦ sym (cond-true (holds_key arc key) (get contents key) None t) ∙ sym (part_get arc contents key) ∙ e
  | inr f ↦ absurd (let none : None ≡ Some value = sym (cond-false (holds_key arc key) (get contents key) None f) ∙ sym (part_get arc contents key) ∙ e in cc)
]

-- ---- in order

-- those of some pairs that an arc holds, in its order
pub in_order : (arc : Arc) (es : List Pair) (pair : Pair) → Among pair es → IsTrue (holds_key arc pair.0) → Among pair (ordered arc es)
in_order arc es pair a is_held =
    let there = Among-filter (λ pair. holds_key arc pair.0) es pair a is_held in
    elim (cases_Bool (is_low arc pair)) [
      | inl low ↦ Among-right pair (filter (λ pair. not (is_low arc pair)) (held arc es)) (filter (is_low arc) (held arc es)) (Among-filter (is_low arc) (held arc es) pair there low)
      | inr high ↦ Among-left pair (filter (λ pair. not (is_low arc pair)) (held arc es)) (filter (is_low arc) (held arc es)) (Among-filter (λ pair. not (is_low arc pair)) (held arc es) pair there (ap not high))
    ]

pub from_order : (arc : Arc) (es : List Pair) (pair : Pair) → Among pair (ordered arc es) → Among pair es × IsTrue (holds_key arc pair.0)
from_order arc es pair a = elim (Among-either pair (filter (λ pair. not (is_low arc pair)) (held arc es)) (filter (is_low arc) (held arc es)) a) [
  | inl high ↦ from_filter (λ pair. holds_key arc pair.0) es pair (from_filter (λ pair. not (is_low arc pair)) (held arc es) pair high).0
  | inr low ↦ from_filter (λ pair. holds_key arc pair.0) es pair (from_filter (is_low arc) (held arc es) pair low).0
]

-- their keys differ where those of all do
pub order_differs : (arc : Arc) (es : List Pair) → Pairwise KeysDiffer es → Pairwise KeysDiffer (ordered arc es)
order_differs arc es apart =
    let within = pairwise_filter KeysDiffer (λ pair. holds_key arc pair.0) es apart in
    pairwise_append KeysDiffer (filter (λ pair. not (is_low arc pair)) (held arc es)) (filter (is_low arc) (held arc es))
    (pairwise_filter KeysDiffer (λ pair. not (is_low arc pair)) (held arc es) within) (pairwise_filter KeysDiffer (is_low arc) (held arc es) within)
    (λ x y a b same.
    let high : not (is_low arc x) ≡ true = (from_filter (λ pair. not (is_low arc pair)) (held arc es) x a).1 in
    let low : is_low arc y ≡ true = (from_filter (is_low arc) (held arc es) y b).1 in
    let no_way : false ≡ true = sym (ap not (ap (λ key. is_low arc (key, y.1)) same ∙ low)) ∙ high in cc)

-- ---- lists of which no item passes a test

shorter : {X : Type 0} (b : Bool) (y : X) (ys : List X) → cond b (y ∷ ys) ys ≡ [] → ys ≡ []
shorter true y ys none = absurd (omega (arith, ap length none))
shorter false y ys none = none

-- an item that passes is among those that pass
pub passes_some : {X : Type 0} (p : X → Bool) (xs : List X) (i : ℕ) (x : X) → i < length xs → x ≡ get_or xs i x → p x ≡ true → filter p xs ≡ [] → ⊥
passes_some p [] i x lt is passes none = absurd (omega (arith, lt))
passes_some p (y ∷ xs) zero x lt is passes none = omega (arith, ap length (sym (cond-true (p y) (y ∷ filter p xs) (filter p xs) (ap p (sym is) ∙ passes)) ∙ none))
passes_some p (y ∷ xs) (suc i) x lt is passes none = passes_some p xs i x (omega (arith, lt)) is passes (shorter (p y) y (filter p xs) none)
