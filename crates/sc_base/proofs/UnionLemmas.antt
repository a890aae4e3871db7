-- How many nodes the union of two sets has.
use Rattle.std.proofs.Common.{◌≡◌, ℕ, suc, ◌+◌, ◌<◌, ◌≤◌, Bool, true, false, cond, not, eqb, ltb, ◌||◌, List, [], ◌∷◌, length, filter, drop, get_or, drop-cons, None, inl, inr, refl, sym, ◌∙◌, ap, arith}
use Rattle.std.specs.List.{All}
use Rattle.std.specs.List.Sorted.{IsStrictlyIncreasing}
use Rattle.std.proofs.lemmas.Bool.{cases_Bool, cond-true, cond-false, cases_order, lt-ltb, le-ltb, ne_eqb, cond_both}
use Rattle.std.proofs.lemmas.List.Folds.{list_any-append}
use Rattle.std.proofs.lemmas.List.Elements.{All-tail, All-head}
use Rattle.std.proofs.lemmas.List.Kept.{AllPairs-from_increasing}
use Rattle.sc_base.specs.Definitions.{is_member, with_member, add_error, with_any, united}
use Rattle.sc_base.proofs.Meeting.{length_with}
use Rattle.sc_base.proofs.Rising.{Below}
use Rattle.sc_base.proofs.Pairs.{AllPairs-head, AllPairs-tail}

-- a set does not shrink
pub grows_by : (members : List ℕ) (node : ℕ) → length members ≤ length (with_any members node)
grows_by members node =
    cond_both (is_member members node) members (with_member members node) (λ l. length members ≤ length l)
    (λ _. omega arith)
    (λ f. (let one = length_with members node f in omega (arith, one)))

-- a union is not smaller
pub grows : (members others : List ℕ) → length members ≤ length (united members others)
grows members [] = omega arith
grows members (node ∷ others) =
    let here = grows_by members node in
    let rest = grows (with_any members node) others in
    omega (arith, here, rest)

-- the members round a node, and the node, which is another than the one looked for
around : (members : List ℕ) (node x : ℕ) → eqb node x ≡ false
    → (is_member (filter (λ m. ltb m node) members) x || is_member (filter (λ m. ltb node m) members) x) ≡ is_member members x
around [] node x ne = refl
around (m ∷ members) node x ne =
    let rest = around members node x ne in
    elim (cases_order m node) [
      | inl e ↦ (
          let low = cond-false (ltb m node) (m ∷ filter (λ y. ltb y node) members) (filter (λ y. ltb y node) members) (le-ltb m node (omega arith)) in
          let high = cond-false (ltb node m) (m ∷ filter (λ y. ltb node y) members) (filter (λ y. ltb node y) members) (le-ltb node m (omega arith)) in
          let out : eqb m x ≡ false = ap (λ y. eqb y x) e ∙ ne in
          rw (low, high, out) rest)
      | inr o ↦ elim o [
        | inl lt ↦ (
            let low = cond-true (ltb m node) (m ∷ filter (λ y. ltb y node) members) (filter (λ y. ltb y node) members) (lt-ltb m node lt) in
            let high = cond-false (ltb node m) (m ∷ filter (λ y. ltb node y) members) (filter (λ y. ltb node y) members) (le-ltb node m (omega arith)) in
            rw (low, high) (first (eqb m x) _ _ _ rest))
        | inr gt ↦ (
            let low = cond-false (ltb m node) (m ∷ filter (λ y. ltb y node) members) (filter (λ y. ltb y node) members) (le-ltb m node (omega arith)) in
            let high = cond-true (ltb node m) (m ∷ filter (λ y. ltb node y) members) (filter (λ y. ltb node y) members) (lt-ltb node m gt) in
            rw (low, high) (second (eqb m x) _ _ _ rest))
      ]
    ]
  where
    first : (b low high all : Bool) → (low || high) ≡ all → ((b || low) || high) ≡ (b || all)
    first true low high all e = refl
    first false low high all e = e

    second : (b low high all : Bool) → (low || high) ≡ all → (low || (b || high)) ≡ (b || all)
    second true true high all e = refl
    second true false high all e = refl
    second false low high all e = e

-- another node is in the set afterwards where it was before
stays : (members : List ℕ) (node x : ℕ) → eqb node x ≡ false → is_member (with_any members node) x ≡ is_member members x
stays members node x ne =
    cond_both (is_member members node) members (with_member members node) (λ l. is_member l x ≡ is_member members x)
    (λ _. refl)
    (λ _. (
    let low = filter (λ m. ltb m node) members in
    let high = filter (λ m. ltb node m) members in
    list_any-append (λ m. eqb m x) low (node ∷ high)
    ∙ ap (λ b. is_member low x || (b || is_member high x)) ne
    ∙ around members node x ne))

-- so those of nodes above it that are no members stay so
same_strangers : (members : List ℕ) (node : ℕ) (others : List ℕ) → All (λ other. node < other) others
    → filter (λ x. not (is_member (with_any members node) x)) others ≡ filter (λ x. not (is_member members x)) others
same_strangers members node [] above = refl
same_strangers members node (x ∷ others) above =
    let lt : node < x = All-head (λ other. node < other) x others above in
    let same = stays members node x (ne_eqb node x (λ e. omega arith)) in
    let rest = same_strangers members node others (All-tail (λ other. node < other) x others above) in
    ap (λ b. cond (not b) (x ∷ filter (λ y. not (is_member (with_any members node) y)) others) (filter (λ y. not (is_member (with_any members node) y)) others)) same
    ∙ ap (λ l. cond (not (is_member members x)) (x ∷ l) l) rest

-- the union has the members, and those of the others that are no members
pub count_united : (members others : List ℕ) → IsStrictlyIncreasing others → length (united members others) ≡ length members + length (filter (λ x. not (is_member members x)) others)
count_united members [] up = omega arith
count_united members (node ∷ others) up =
    let pairs = AllPairs-from_increasing (node ∷ others) up in
    let rises : IsStrictlyIncreasing others = λ k within. AllPairs-tail Below node others pairs k (k + 1) 0 (omega arith) within in
    let rest = count_united (with_any members node) others rises in
    let same = ap length (same_strangers members node others (AllPairs-head Below node others pairs)) in
    elim (cases_Bool (is_member members node)) [
      | inl t ↦ (
          let here = ap length (cond-true (is_member members node) members (with_member members node) t) in
          let out = ap length (cond-false (not (is_member members node)) (node ∷ filter (λ x. not (is_member members x)) others) (filter (λ x. not (is_member members x)) others) (ap not t)) in
          omega (arith, rest, same, here, out))
      | inr f ↦ (
          let here = ap length (cond-false (is_member members node) members (with_member members node) f) in
          let one = length_with members node f in
          let out = ap length (cond-true (not (is_member members node)) (node ∷ filter (λ x. not (is_member members x)) others) (filter (λ x. not (is_member members x)) others) (ap not f)) in
          omega (arith, rest, same, here, one, out))
    ]

-- a node that makes at most nine is not refused
pub no_error : (members : List ℕ) (node : ℕ) → is_member members node ≡ false → length (with_any members node) ≤ 9 → add_error members node ≡ None
no_error members node absent few =
    let here = ap length (cond-false (is_member members node) members (with_member members node) absent) in
    let one = length_with members node absent in
    let room : eqb (length members) 9 ≡ false = ne_eqb (length members) 9 (λ e. omega (arith, here, one, few)) in
    rw (absent, room) refl

-- the union that is being made, at the next node
pub next_fits : (members all others : List ℕ) (i : ℕ) → i < length others → united all (drop i others) ≡ united members others → length (united members others) ≤ 9 → length (with_any all (get_or others i 0)) ≤ 9
next_fits members all others i within same few =
    let split = ap (united all) (drop-cons others i 0 within) in
    let long = ap length (sym split ∙ same) in
    let rest = grows (with_any all (get_or others i 0)) (drop (suc i) others) in
    omega (arith, long, rest, few)
