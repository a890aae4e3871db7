-- Of the numbers of nodes those that are in one of some sets are the union of the sets, ascending: a node that is put among numbers that pass a test leaves those that pass it or are the node.
use Rattle.std.specs.Prelude.{fold}
use Rattle.std.proofs.Common.{◌≡◌, ℕ, zero, suc, ◌+◌, ◌<◌, ◌≤◌, Bool, true, false, cond, eqb, ltb, ◌||◌, List, [], ◌∷◌, ◌++◌, filter, inl, inr, refl, sym, ◌∙◌, ap, subst, arith}
use Rattle.std.proofs.lemmas.Bool.{cases_Bool, cond-true, cond-false, cond_both, cases_order, lt-ltb, le-ltb, ne_eqb, eq-eqb, eqb-true}
use Rattle.std.proofs.lemmas.List.Elements.{filter_agree}
use Rattle.sc_base.specs.Definitions.{Each, most_nodes, is_member, with_member, with_any, united}
use Rattle.sc_words.proofs.PaxosProofs.PaxosLemmas.{Each-weaker}
use Rattle.sc_node_table.specs.NodeDefinitions.{is_in_some, nodes_to, AsksTheOpenSets, numbers_from}

-- a test, or one node more
abbrev or_node : ℕ → (ℕ → Bool) → ℕ → Bool
or_node node test n = eqb node n || test n

none_kept : (from count : ℕ) → filter (λ n. false) (numbers_from from count) ≡ []
none_kept from zero = refl
none_kept from (suc count) = none_kept (from + 1) count

-- ---- numbers above a node

none_below : (test : ℕ → Bool) (node from count : ℕ) → node < from → filter (λ n. ltb n node) (filter test (numbers_from from count)) ≡ []
none_below test node from zero less = refl
none_below test node from (suc count) less =
    let more = filter test (numbers_from (from + 1) count) in
    let rest = none_below test node (from + 1) count (omega (arith, less)) in
    cond_both (test from) (from ∷ more) more (λ l. filter (λ n. ltb n node) l ≡ [])
    (λ _. cond-false (ltb from node) (from ∷ filter (λ n. ltb n node) more) (filter (λ n. ltb n node) more) (le-ltb from node (omega (arith, less))) ∙ rest)
    (λ _. rest)

all_above : (test : ℕ → Bool) (node from count : ℕ) → node < from → filter (λ n. ltb node n) (filter test (numbers_from from count)) ≡ filter test (numbers_from from count)
all_above test node from zero less = refl
all_above test node from (suc count) less =
    let more = filter test (numbers_from (from + 1) count) in
    let rest = all_above test node (from + 1) count (omega (arith, less)) in
    cond_both (test from) (from ∷ more) more (λ l. filter (λ n. ltb node n) l ≡ l)
    (λ _. cond-true (ltb node from) (from ∷ filter (λ n. ltb node n) more) (filter (λ n. ltb node n) more) (lt-ltb node from less) ∙ ap (λ l. from ∷ l) rest)
    (λ _. rest)

no_member : (test : ℕ → Bool) (node from count : ℕ) → node < from → is_member (filter test (numbers_from from count)) node ≡ false
no_member test node from zero less = refl
no_member test node from (suc count) less =
    let more = filter test (numbers_from (from + 1) count) in
    let rest = no_member test node (from + 1) count (omega (arith, less)) in
    cond_both (test from) (from ∷ more) more (λ l. is_member l node ≡ false)
    (λ _. ap (λ b. b || is_member more node) (ne_eqb from node (λ e. omega (arith, less, e))) ∙ rest)
    (λ _. rest)

same_above : (test : ℕ → Bool) (node from count : ℕ) → node < from → filter (or_node node test) (numbers_from from count) ≡ filter test (numbers_from from count)
same_above test node from zero less = refl
same_above test node from (suc count) less =
    let with_it = filter (or_node node test) (numbers_from (from + 1) count) in
    let rest = same_above test node (from + 1) count (omega (arith, less)) in
    ap (λ b. cond (b || test from) (from ∷ with_it) with_it) (ne_eqb node from (λ e. omega (arith, less, e))) ∙ ap (λ l. cond (test from) (from ∷ l) l) rest

-- ---- a node among the numbers

-- it is there where it passes the test
is_there : (test : ℕ → Bool) (node from count : ℕ) → from ≤ node → node < from + count → is_member (filter test (numbers_from from count)) node ≡ test node
is_there test node from zero low high = absurd (omega (arith, low, high))
is_there test node from (suc count) low high =
    let more = filter test (numbers_from (from + 1) count) in
    elim (cases_order from node) [
      | inl e ↦ (
          let missing = no_member test node (from + 1) count (omega (arith, e)) in
          first (test from) from node more (test node) (eq-eqb from node e) missing (ap test e))
      | inr o ↦ elim o [
        | inl lt ↦ later (test from) from node more (test node) (ne_eqb from node (λ e. omega (arith, lt, e))) (is_there test node (from + 1) count (omega (arith, lt)) (omega (arith, high)))
        | inr gt ↦ absurd (omega (arith, low, gt))
      ]
    ]
  where
    first : (b : Bool) (from node : ℕ) (more : List ℕ) (passes : Bool) → eqb from node ≡ true → is_member more node ≡ false → b ≡ passes → is_member (cond b (from ∷ more) more) node ≡ passes
    first true from node more passes found missing e = ap (λ c. c || is_member more node) found ∙ e
    first false from node more passes found missing e = missing ∙ e

    later : (b : Bool) (from node : ℕ) (more : List ℕ) (passes : Bool) → eqb from node ≡ false → is_member more node ≡ passes → is_member (cond b (from ∷ more) more) node ≡ passes
    later true from node more passes other e = ap (λ c. c || is_member more node) other ∙ e
    later false from node more passes other e = e

-- one that does not is put in its place: behind a number below it
put_behind : (b : Bool) (from node : ℕ) (more all : List ℕ) → from < node → with_member more node ≡ all → with_member (cond b (from ∷ more) more) node ≡ cond b (from ∷ all) all
put_behind true from node more all lt e =
    let low = filter (λ m. ltb m node) more in
    let high = filter (λ m. ltb node m) more in
    ap (λ c. (cond c (from ∷ low) low) ++ (node ∷ (cond (ltb node from) (from ∷ high) high))) (lt-ltb from node lt)
    ∙ ap (λ c. (from ∷ low) ++ (node ∷ (cond c (from ∷ high) high))) (le-ltb node from (omega (arith, lt)))
    ∙ ap (λ l. from ∷ l) e
put_behind false from node more all lt e = e

-- a node that the test leaves out is put before all others
put_first : (test : ℕ → Bool) (node count : ℕ) → test node ≡ false → with_member (filter test (numbers_from node (suc count))) node ≡ filter (or_node node test) (numbers_from node (suc count))
put_first test node count fails =
    let more = filter test (numbers_from (node + 1) count) in
    let with_it = filter (or_node node test) (numbers_from (node + 1) count) in
    let less : node < node + 1 = omega arith in
    ap (λ b. with_member (cond b (node ∷ more) more) node) fails
    ∙ ap (λ l. l ++ (node ∷ filter (λ m. ltb node m) more)) (none_below test node (node + 1) count less)
    ∙ ap (λ l. node ∷ l) (all_above test node (node + 1) count less ∙ sym (same_above test node (node + 1) count less))
    ∙ sym (cond-true (eqb node node || test node) (node ∷ with_it) with_it (ap (λ b. b || test node) (eq-eqb node node refl)))

put_in : (test : ℕ → Bool) (node from count : ℕ) → from ≤ node → node < from + count → test node ≡ false → with_member (filter test (numbers_from from count)) node ≡ filter (or_node node test) (numbers_from from count)
put_in test node from zero low high fails = absurd (omega (arith, low, high))
put_in test node from (suc count) low high fails =
    let with_it = filter (or_node node test) (numbers_from (from + 1) count) in
    elim (cases_order from node) [
      | inl e ↦ subst (λ m. with_member (filter test (numbers_from m (suc count))) node ≡ filter (or_node node test) (numbers_from m (suc count))) (sym e) (put_first test node count fails)
      | inr o ↦ elim o [
        | inl lt ↦ (
            let rest = put_in test node (from + 1) count (omega (arith, lt)) (omega (arith, high)) fails in
            put_behind (test from) from node (filter test (numbers_from (from + 1) count)) with_it lt rest
            ∙ sym (ap (λ b. cond (b || test from) (from ∷ with_it) with_it) (ne_eqb node from (λ e. omega (arith, lt, e)))))
        | inr gt ↦ absurd (omega (arith, low, gt))
      ]
    ]

-- ---- the union

-- with one node
with_one : (test : ℕ → Bool) (node from count : ℕ) → from ≤ node → node < from + count → with_any (filter test (numbers_from from count)) node ≡ filter (or_node node test) (numbers_from from count)
with_one test node from count low high =
    let all = filter test (numbers_from from count) in
    let there = is_there test node from count low high in
    elim (cases_Bool (test node)) [
      | inl t ↦ cond-true (is_member all node) all (with_member all node) (there ∙ t) ∙ filter_agree test (or_node node test) (passes t) (numbers_from from count)
      | inr f ↦ cond-false (is_member all node) all (with_member all node) (there ∙ f) ∙ put_in test node from count low high f
    ]
  where
    passes : test node ≡ true → (n : ℕ) → test n ≡ (eqb node n || test n)
    passes t n = elim (cases_Bool (eqb node n)) [
      | inl same ↦ ap test (sym (eqb-true node n same)) ∙ t ∙ sym (ap (λ b. b || test n) same)
      | inr other ↦ sym (ap (λ b. b || test n) other)
    ]

turned : (a b c : Bool) → (b || (a || c)) ≡ ((a || b) || c)
turned true true c = refl
turned true false c = refl
turned false true c = refl
turned false false c = refl

abbrev IsBetween : ℕ → ℕ → ℕ → Type 0
IsBetween from count node = (from ≤ node) × (node < from + count)

-- with a set
with_set : (test : ℕ → Bool) (from count : ℕ) (set : List ℕ) → Each (IsBetween from count) set → united (filter test (numbers_from from count)) set ≡ filter (λ n. is_member set n || test n) (numbers_from from count)
with_set test from count [] each = refl
with_set test from count (node ∷ set) each =
    ap (λ l. united l set) (with_one test node from count each.0.0 each.0.1)
    ∙ with_set (or_node node test) from count set each.1
    ∙ filter_agree (λ n. is_member set n || (eqb node n || test n)) (λ n. is_member (node ∷ set) n || test n) (λ n. turned (eqb node n) (is_member set n) (test n)) (numbers_from from count)

-- with all sets
with_sets : (test : ℕ → Bool) (from count : ℕ) (sets : List (List ℕ)) → Each (λ set. Each (IsBetween from count) set) sets
    → fold united (filter test (numbers_from from count)) sets ≡ filter (λ n. is_in_some sets n || test n) (numbers_from from count)
with_sets test from count [] each = refl
with_sets test from count (set ∷ sets) each =
    ap (λ l. fold united l sets) (with_set test from count set each.0)
    ∙ with_sets (λ n. is_member set n || test n) from count sets each.1
    ∙ filter_agree (λ n. is_in_some sets n || (is_member set n || test n)) (λ n. is_in_some (set ∷ sets) n || test n) (λ n. turned (is_member set n) (is_in_some sets n) (test n)) (numbers_from from count)

-- the numbers of nodes are 1 to `most_nodes`
abbrev IsNode : ℕ → Type 0
IsNode node = (1 ≤ node) × (node ≤ most_nodes)

between_each : (sets : List (List ℕ)) → Each (λ set. Each IsNode set) sets → Each (λ set. Each (IsBetween 1 most_nodes) set) sets
between_each sets each =
    Each-weaker (λ set. Each IsNode set) (λ set. Each (IsBetween 1 most_nodes) set) (λ set within. Each-weaker IsNode (IsBetween 1 most_nodes) (λ node is. (let most = is.1 in (is.0, omega (arith, most)))) set within) sets each

or_none : (b : Bool) → (b || false) ≡ b
or_none true = refl
or_none false = refl

pub asks_the_open_sets : AsksTheOpenSets
unfolding nodes_to
asks_the_open_sets sets each =
    filter_agree (λ n. is_in_some sets n) (λ n. is_in_some sets n || false) (λ n. sym (or_none (is_in_some sets n))) (numbers_from 1 most_nodes)
    ∙ sym (with_sets (λ n. false) 1 most_nodes sets (between_each sets each))
    ∙ ap (λ l. fold united l sets) (none_kept 1 most_nodes)
