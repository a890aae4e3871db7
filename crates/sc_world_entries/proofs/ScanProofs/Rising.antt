-- Keys in their order have positions that do not fall, so the pairs of a part rise from its start on.
use Rattle.std.proofs.Common.{◌≡◌, ℕ, zero, suc, ◌+◌, ◌-◌, ◌*◌, ◌%◌, ◌^◌, ◌<◌, ◌≤◌, Bool, true, false, not, inl, inr, List, [], ◌∷◌, refl, sym, ◌∙◌, ap, arith, nat_le}
use Rattle.std.specs.Prelude.{AllPairs}
use Rattle.std.specs.List.{filter, list_all}
use Rattle.std.specs.Ordering.{nat_cmp, ordering_then}
use Rattle.std.specs.declared.cmp.Ordering.{Ordering}
use Rattle.std.specs.declared.cmp.Ordering.TheVariants.{Less, Equal, Greater}
use Rattle.std.specs.Cmp.Lexicographic.{slice_cmp}
use Rattle.std.specs.FinMap.Entries.{below_all}
use Rattle.std.proofs.lemmas.Bool.{cases_lt, leb-true, lt-ltb, ltb-true}
use Rattle.std.proofs.lemmas.Cmp.{ranked}
use Rattle.std.proofs.Math.Nat.{mul-le-mul_right}
use Rattle.sc_base.specs.Among.{Each}
use Rattle.sc_base.specs.Arc.{Arc, offset}
use Rattle.sc_base.specs.Ascending.{IsAscending}
use Rattle.sc_base.specs.Text.{is_visible, pos_of, IsText}
use Rattle.sc_base.specs.Limits.{longest_key}
use Rattle.sc_base.proofs.AscendingLemmas.{and_left, and_right, is_less}
use Rattle.sc_words.specs.ideal.IdealStore.{holds_key}
use Rattle.sc_words.proofs.PaxosProofs.ListLemmas.{Each-among, Each-filter, Each-from, from_filter}
use Rattle.sc_law_entries.proofs.RingProofs.Finds.{Pairwise, all_pairs, pairwise_filter}
use Rattle.sc_world_entries.specs.scans.Order.{ComesBefore, Pair, held, is_low, ordered}
use Rattle.sc_world_entries.proofs.ScanProofs.PairsInArcs.{pairwise_append}

-- ---- the position of a key, byte by byte

-- the weight of a byte that a number of more bytes follow
abbrev weight : ℕ → ℕ
weight zero = 1
weight (suc more) = 256 * weight more

-- what a number of first bytes of a key make
abbrev prefix : ℕ → List ℕ → ℕ
prefix zero key = 0
prefix (suc more) [] = 0
prefix (suc more) (byte ∷ key) = byte * weight more + prefix more key

abbrev AreBytes : List ℕ → Type 0
AreBytes = Each (λ byte. byte < 256)

below_weight : (more : ℕ) (key : List ℕ) → AreBytes key → prefix more key + 1 ≤ weight more
below_weight zero key bytes = omega arith
below_weight (suc more) [] bytes = (let least : 0 + 1 ≤ weight more = below_none more in omega arith)
  where
    below_none : (more : ℕ) → 0 + 1 ≤ weight more
    below_none zero = omega arith
    below_none (suc more) = (let h = below_none more in omega arith)
below_weight (suc more) (byte ∷ key) bytes =
    let rest : prefix more key + 1 ≤ weight more = below_weight more key bytes.1 in
    let small : byte < 256 = bytes.0 in
    let up : byte + 1 ≤ 256 = omega arith in
    let all : (byte + 1) * weight more ≤ 256 * weight more = mul-le-mul_right (weight more) up in
    omega (arith, rest, all)

-- a key before another has no greater number
prefix_rises : (more : ℕ) (one other : List ℕ) → AreBytes one → AreBytes other → slice_cmp nat_cmp one other ≡ Less → prefix more one ≤ prefix more other
prefix_rises zero one other bytes others less = omega arith
prefix_rises (suc more) [] other bytes others less = omega arith
prefix_rises (suc more) (x ∷ one) [] bytes others less = absurd (let no_way : Greater ≡ Less = less in cc)
prefix_rises (suc more) (x ∷ one) (y ∷ other) bytes others less = step (prefix_rises more one other bytes.1 others.1) (nat_cmp x y) refl less
  where
    step : (slice_cmp nat_cmp one other ≡ Less → prefix more one ≤ prefix more other)
        → (o : Ordering) → o ≡ nat_cmp x y → ordering_then o (slice_cmp nat_cmp one other) ≡ Less → x * weight more + prefix more one ≤ y * weight more + prefix more other
    step tail Less is e =
        let lt : x < y = ranked x y Less is in
        let up : x + 1 ≤ y = omega arith in
        let all : (x + 1) * weight more ≤ y * weight more = mul-le-mul_right (weight more) up in
        let rest : prefix more one + 1 ≤ weight more = below_weight more one bytes.1 in
        omega (arith, all, rest)
    step tail Equal is e =
        let same : x ≡ y = ranked x y Equal is in
        let rest : prefix more one ≤ prefix more other = tail e in
        let products : x * weight more ≡ y * weight more = ap (λ n. n * weight more) same in
        omega (arith, products, rest)
    step tail Greater is e = absurd (let no_way : Greater ≡ Less = e in cc)

pos_prefix : (key : List ℕ) → pos_of key ≡ prefix 4 key
pos_prefix [] = refl
pos_prefix (a ∷ []) = omega arith
pos_prefix (a ∷ b ∷ []) = omega arith
pos_prefix (a ∷ b ∷ c ∷ []) = omega arith
pos_prefix (a ∷ b ∷ c ∷ d ∷ more) = omega arith

-- positions do not fall, and lie on the circle
pos_rises : (one other : List ℕ) → AreBytes one → AreBytes other → slice_cmp nat_cmp one other ≡ Less → pos_of one ≤ pos_of other
pos_rises one other bytes others less = (let h : prefix 4 one ≤ prefix 4 other = prefix_rises 4 one other bytes others less in omega (arith, h, pos_prefix one, pos_prefix other))

pos_fits : (key : List ℕ) → AreBytes key → pos_of key < 2 ^ 32
pos_fits key bytes = (let h : prefix 4 key + 1 ≤ weight 4 = below_weight 4 key bytes in omega (arith, h, pos_prefix key))

-- ---- sides of a start

-- what lies on the same side of a start is as far from it as from 0
high_side : (lo p q : ℕ) → lo < 2 ^ 32 → q < 2 ^ 32 → lo ≤ p → p ≤ q → ((p + 2 ^ 32) - lo) % 2 ^ 32 ≤ ((q + 2 ^ 32) - lo) % 2 ^ 32
high_side lo p q fits up from rise = omega arith

low_side : (lo p q : ℕ) → lo < 2 ^ 32 → q < lo → p ≤ q → ((p + 2 ^ 32) - lo) % 2 ^ 32 ≤ ((q + 2 ^ 32) - lo) % 2 ^ 32
low_side lo p q fits below rise = omega arith

over_top : (lo p q : ℕ) → lo < 2 ^ 32 → p < 2 ^ 32 → lo ≤ p → q < lo → ((p + 2 ^ 32) - lo) % 2 ^ 32 < ((q + 2 ^ 32) - lo) % 2 ^ 32
over_top lo p q fits up from below = omega arith

-- no farther, and before it in the order of keys
comes : (arc : Arc) (one other : Pair) → offset arc (pos_of one.0) ≤ offset arc (pos_of other.0) → slice_cmp nat_cmp one.0 other.0 ≡ Less → ComesBefore arc one other
comes arc one other near less = elim (cases_lt (offset arc (pos_of one.0)) (offset arc (pos_of other.0))) [
  | inl nearer ↦ inl nearer
  | inr far ↦ inr (omega arith, less)
]

-- ---- lists

pairwise_with : {X : Type 0} (R S : X → X → Type 0) (P : X → Type 0) → ((x y : X) → P x → P y → R x y → S x y) → (xs : List X) → Each P xs → Pairwise R xs → Pairwise S xs
pairwise_with R S P f [] each pairs = tt
pairwise_with R S P f (x ∷ xs) each pairs =
    (Each-from (S x) xs (λ y a. f x y each.0 (Each-among P xs y each.1 a) (Each-among (R x) xs y pairs.0 a)), pairwise_with R S P f xs each.1 pairs.1)

abbrev KeyBefore : Pair → Pair → Type 0
KeyBefore one other = slice_cmp nat_cmp one.0 other.0 ≡ Less

below_before : (one : Pair) (es : List Pair) → below_all (slice_cmp nat_cmp) one.0 es ≡ true → Each (KeyBefore one) es
below_before one [] below = tt
below_before one (e ∷ es) below = (is_less _ (and_left _ _ below), below_before one es (and_right _ _ below))

keys_before : (es : List Pair) → IsAscending (slice_cmp nat_cmp) es → Pairwise KeyBefore es
keys_before [] up = tt
keys_before (e ∷ es) up = (below_before e es (and_left _ _ up), keys_before es (and_right _ _ up))

-- on a side
record IsHigh (arc : Arc) (pair : Pair) : Type 0 where
  pub bytes : AreBytes pair.0
  pub from : arc.lo ≤ pos_of pair.0

record IsLow (arc : Arc) (pair : Pair) : Type 0 where
  pub bytes : AreBytes pair.0
  pub below : pos_of pair.0 < arc.lo

not_low : (b : Bool) → not b ≡ true → b ≡ false
not_low true e = absurd (let no_way : false ≡ true = e in cc)
not_low false e = refl

high_from : (arc : Arc) (pair : Pair) → not (is_low arc pair) ≡ true → arc.lo ≤ pos_of pair.0
high_from arc pair e = elim (cases_lt (pos_of pair.0) arc.lo) [
  | inl below ↦ absurd (let no_way : false ≡ true = sym (not_low _ e) ∙ lt-ltb (pos_of pair.0) arc.lo below in cc)
  | inr from ↦ from
]

module _ (arc : Arc) (fits : arc.lo < 2 ^ 32) (es : List Pair) (up : IsAscending (slice_cmp nat_cmp) es) (bytes : Each (λ (pair : Pair). AreBytes pair.0) es) where
  held_bytes : Each (λ (pair : Pair). AreBytes pair.0) (held arc es)
  held_bytes = Each-filter (λ (pair : Pair). AreBytes pair.0) (λ pair. holds_key arc pair.0) es bytes

  held_before : Pairwise KeyBefore (held arc es)
  held_before = pairwise_filter KeyBefore (λ pair. holds_key arc pair.0) es (keys_before es up)

  highs : Each (IsHigh arc) (filter (λ pair. not (is_low arc pair)) (held arc es))
  highs = Each-from (IsHigh arc) (filter (λ pair. not (is_low arc pair)) (held arc es)) (λ pair a.
      let k = from_filter (λ pair. not (is_low arc pair)) (held arc es) pair a in
      record { bytes = Each-among (λ (pair : Pair). AreBytes pair.0) (held arc es) pair held_bytes k.0; from = high_from arc pair k.1 })

  lows : Each (IsLow arc) (filter (is_low arc) (held arc es))
  lows = Each-from (IsLow arc) (filter (is_low arc) (held arc es)) (λ pair a.
      let k = from_filter (is_low arc) (held arc es) pair a in
      record { bytes = Each-among (λ (pair : Pair). AreBytes pair.0) (held arc es) pair held_bytes k.0; below = ltb-true (pos_of pair.0) arc.lo k.1 })

  pub rises : Pairwise (ComesBefore arc) (ordered arc es)
  rises =
      pairwise_append (ComesBefore arc) (filter (λ pair. not (is_low arc pair)) (held arc es)) (filter (is_low arc) (held arc es))
      (pairwise_with KeyBefore (ComesBefore arc) (IsHigh arc) (λ x y hx hy less.
      comes arc x y (high_side arc.lo (pos_of x.0) (pos_of y.0) fits (pos_fits y.0 hy.bytes) hx.from (pos_rises x.0 y.0 hx.bytes hy.bytes less)) less)
      (filter (λ pair. not (is_low arc pair)) (held arc es)) highs (pairwise_filter KeyBefore (λ pair. not (is_low arc pair)) (held arc es) held_before))
      (pairwise_with KeyBefore (ComesBefore arc) (IsLow arc) (λ x y hx hy less.
      comes arc x y (low_side arc.lo (pos_of x.0) (pos_of y.0) fits hy.below (pos_rises x.0 y.0 hx.bytes hy.bytes less)) less)
      (filter (is_low arc) (held arc es)) lows (pairwise_filter KeyBefore (is_low arc) (held arc es) held_before))
      (λ x y a b.
      let hx = Each-among (IsHigh arc) (filter (λ pair. not (is_low arc pair)) (held arc es)) x highs a in
      let hy = Each-among (IsLow arc) (filter (is_low arc) (held arc es)) y lows b in
      inl (over_top arc.lo (pos_of x.0) (pos_of y.0) fits (pos_fits x.0 hx.bytes) hx.from hy.below))

-- ---- keys are texts

visible_byte : (byte : ℕ) → is_visible byte ≡ true → byte < 256
visible_byte byte t = (let most : byte ≤ 126 = leb-true byte 126 (and_right (nat_le 33 byte) (nat_le byte 126) t) in omega arith)

visible_bytes : (key : List ℕ) → list_all is_visible key ≡ true → AreBytes key
visible_bytes [] t = tt
visible_bytes (byte ∷ key) t = (visible_byte byte (and_left (is_visible byte) (list_all is_visible key) t), visible_bytes key (and_right (is_visible byte) (list_all is_visible key) t))

texts_bytes : (es : List Pair) → Each (λ (pair : Pair). IsText longest_key pair.0) es → Each (λ (pair : Pair). AreBytes pair.0) es
texts_bytes [] texts = tt
texts_bytes (e ∷ es) texts = (visible_bytes e.0 texts.0.visible, texts_bytes es texts.1)

-- the pairs of a part rise from its start on
pub rises_from_start : (arc : Arc) (es : List Pair) → arc.lo < 2 ^ 32 → IsAscending (slice_cmp nat_cmp) es → Each (λ (pair : Pair). IsText longest_key pair.0) es → AllPairs (ComesBefore arc) (ordered arc es)
rises_from_start arc es fits up texts = all_pairs (ComesBefore arc) (ordered arc es) (rises arc fits es up (texts_bytes es texts))
