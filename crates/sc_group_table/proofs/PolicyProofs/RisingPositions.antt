-- The positions of keys from a position on rise.
use Rattle.std.proofs.Common.{◌≡◌, ℕ, suc, ◌+◌, ◌-◌, ◌%◌, ◌^◌, ◌<◌, ◌≤◌, leb, ltb, List, [], ◌∷◌, ◌++◌, length, filter, Bool, true, false, not, cond, get_or, refl, ap, ◌∙◌, arith, length-append, All}
use Rattle.std.specs.List.{AllPairs}
use Rattle.std.specs.Ordering.{nat_cmp, is_lt}
use Rattle.std.specs.Cmp.Lexicographic.{slice_cmp}
use Rattle.std.specs.FinMap.Entries.{below_all}
use Rattle.std.proofs.lemmas.Bool.{and_parts, ltb-true, leb-true}
use Rattle.std.proofs.lemmas.List.{length-map}
use Rattle.std.proofs.lemmas.Bool.Decides.{nat_tests}
use Rattle.std.proofs.lemmas.List.Kept.{AllPairs-cons, AllPairs-filter}
use Rattle.std.proofs.lemmas.List.Elements.{All-nil, All-cons, All-tail, All-head, All-append, All-weaker, All-filter, filter_passes}
use Rattle.std.proofs.Math.Nat.{add-mod_left, mod-eq_of_lt}
use Rattle.sc_base.specs.Definitions.{IsAscending, longest_key, IsText, pos_of}
use Rattle.sc_base.proofs.Lemmas.{is_less, AllPairs-head, AllPairs-tail}
use Rattle.sc_group_table.specs.policy.PolicyDefinitions.{positions, far_from, KeysRiseFromTheStart}
use Rattle.sc_group_table.proofs.PolicyProofs.Prefixes.{are_bytes, pos_le, pos_small}

abbrev HasKey : List ℕ × List ℕ → Type 0
HasKey pair = IsText longest_key pair.0

abbrev NotAbove : ℕ → ℕ → Type 0
NotAbove p q = p ≤ q

-- keys above a key have no lesser positions
above : (key : List ℕ) (pairs : List (List ℕ × List ℕ)) → IsText longest_key key → All HasKey pairs → below_all (slice_cmp nat_cmp) key pairs ≡ true → All (NotAbove (pos_of key)) (positions pairs)
above key [] text texts below = All-nil (NotAbove (pos_of key))
above key (pair ∷ pairs) text texts below =
    let parts = and_parts (is_lt (slice_cmp nat_cmp key pair.0)) (below_all (slice_cmp nat_cmp) key pairs) below in
    let own : IsText longest_key pair.0 = All-head HasKey pair pairs texts in
    All-cons (NotAbove (pos_of key)) (pos_of pair.0) (positions pairs)
    (pos_le key pair.0 (are_bytes key text.visible) (are_bytes pair.0 own.visible) (is_less (slice_cmp nat_cmp key pair.0) parts.0))
    (above key pairs text (All-tail HasKey pair pairs texts) parts.1)

-- positions of keys in order do not fall
positions_rise : (pairs : List (List ℕ × List ℕ)) → All HasKey pairs → IsAscending (slice_cmp nat_cmp) pairs → AllPairs NotAbove (positions pairs)
positions_rise [] texts up = λ i j d lt within. absurd (omega (arith, within))
positions_rise (pair ∷ pairs) texts up =
    let parts = and_parts (below_all (slice_cmp nat_cmp) pair.0 pairs) _ up in
    AllPairs-cons NotAbove (pos_of pair.0) (positions pairs) (above pair.0 pairs (All-head HasKey pair pairs texts) (All-tail HasKey pair pairs texts) parts.0) (positions_rise pairs (All-tail HasKey pair pairs texts) parts.1)

abbrev Small : ℕ → Type 0
Small p = p < 2 ^ 32

-- each is one of the ring
positions_small : (pairs : List (List ℕ × List ℕ)) → All HasKey pairs → All Small (positions pairs)
positions_small [] texts = All-nil Small
positions_small (pair ∷ pairs) texts =
    let own : IsText longest_key pair.0 = All-head HasKey pair pairs texts in
    All-cons Small (pos_of pair.0) (positions pairs) (pos_small pair.0 (are_bytes pair.0 own.visible)) (positions_small pairs (All-tail HasKey pair pairs texts))

module _ (lo : ℕ) (lo_small : lo < 2 ^ 32) where
  far_above : (p : ℕ) → lo ≤ p → p < 2 ^ 32 → far_from lo p ≡ p - lo
  far_above p le small =
      let parts : (p + 2 ^ 32) - lo ≡ 2 ^ 32 + (p - lo) = omega (arith, le) in
      ap (λ k. k % 2 ^ 32) parts ∙ (add-mod_left (2 ^ 32) (p - lo) ∙ mod-eq_of_lt {n = p - lo} {m = 2 ^ 32} (omega (arith, small)))

  far_below : (p : ℕ) → p < lo → far_from lo p ≡ (p + 2 ^ 32) - lo
  far_below p lt = mod-eq_of_lt {n = (p + 2 ^ 32) - lo} {m = 2 ^ 32} (omega (arith, lt, lo_small))

  abbrev Nearer : ℕ → ℕ → Type 0
  Nearer p q = far_from lo p ≤ far_from lo q

  abbrev Upper : ℕ → Type 0
  Upper p = (lo ≤ p) × (p < 2 ^ 32)

  abbrev Lower : ℕ → Type 0
  Lower p = p < lo

  upper_rise : (ps : List ℕ) → AllPairs NotAbove ps → All Upper ps → AllPairs Nearer ps
  upper_rise ps up all i j d lt within =
      let p = get_or ps i d in let q = get_or ps j d in
      let a = all i d (omega (arith, lt, within)) in let b = all j d within in
      let le : p ≤ q = up i j d lt within in
      omega (arith, le, far_above p a.0 a.1, far_above q b.0 b.1)

  lower_rise : (ps : List ℕ) → AllPairs NotAbove ps → All Lower ps → AllPairs Nearer ps
  lower_rise ps up all i j d lt within =
      let p = get_or ps i d in let q = get_or ps j d in
      let a = all i d (omega (arith, lt, within)) in let b = all j d within in
      let le : p ≤ q = up i j d lt within in
      omega (arith, le, far_below p a, far_below q b)

  crossing : (p q : ℕ) → Upper p → Lower q → Nearer p q
  crossing p q a b = omega (arith, a.1, far_above p a.0 a.1, far_below q b)

  joined : (ps qs : List ℕ) → AllPairs Nearer ps → All Upper ps → AllPairs Nearer qs → All Lower qs → AllPairs Nearer (ps ++ qs)
  joined [] qs up upper up' lower = up'
  joined (p ∷ ps) qs up upper up' lower =
      let own : Upper p = All-head Upper p ps upper in
      AllPairs-cons Nearer p (ps ++ qs) (All-append (Nearer p) ps qs (AllPairs-head Nearer p ps up) (All-weaker Lower (Nearer p) (λ q b. crossing p q own b) qs lower))
      (joined ps qs (AllPairs-tail Nearer p ps up) (All-tail Upper p ps upper) up' lower)

split : (p q : ℕ → Bool) → ((x : ℕ) → q x ≡ not (p x)) → (xs : List ℕ) → length (filter p xs) + length (filter q xs) ≡ length xs
split p q other [] = refl
split p q other (x ∷ xs) = by (p x) (q x) (other x) (split p q other xs)
  where
    by : (a b : Bool) → b ≡ not a → length (filter p xs) + length (filter q xs) ≡ length xs →
        length (cond a (x ∷ filter p xs) (filter p xs)) + length (cond b (x ∷ filter q xs) (filter q xs)) ≡ suc (length xs)
    by true false e more = omega (arith, more)
    by false true e more = omega (arith, more)
    by true true e more = cc
    by false false e more = cc

other_side : (lo p : ℕ) → ltb p lo ≡ not (leb lo p)
other_side lo p = grind (arith, nat_tests)

both_hold : (P Q : ℕ → Type 0) (xs : List ℕ) → All P xs → All Q xs → All (λ x. P x × Q x) xs
both_hold P Q xs a b = λ k d lt. (a k d lt, b k d lt)

-- the positions from a start on
pub keys_rise : KeysRiseFromTheStart
keys_rise lo pairs lo_small texts up =
    let ps = positions pairs in
    let above_ : ℕ → Bool = λ p. leb lo p in
    let below_ : ℕ → Bool = λ p. ltb p lo in
    let rise = positions_rise pairs texts up in
    let uppers = filter above_ ps in
    let lowers = filter below_ ps in
    let upper : All (Upper lo lo_small) uppers =
    both_hold (λ p. lo ≤ p) Small uppers (All-weaker _ (λ p. lo ≤ p) (λ p t. leb-true lo p t) uppers (filter_passes above_ ps)) (All-filter above_ Small ps (positions_small pairs texts)) in
    let lower : All (Lower lo lo_small) lowers = All-weaker _ (Lower lo lo_small) (λ p t. ltb-true p lo t) lowers (filter_passes below_ ps) in (
      length-append uppers lowers ∙ (split above_ below_ (other_side lo) ps ∙ length-map pairs (λ (pair : List ℕ × List ℕ). pos_of pair.0)),
      joined lo lo_small uppers lowers
          (upper_rise lo lo_small uppers (AllPairs-filter NotAbove above_ ps rise) upper) upper
          (lower_rise lo lo_small lowers (AllPairs-filter NotAbove below_ ps rise) lower) lower,
    )
