-- Groups in the order in which they begin.
use Rattle.std.proofs.Common.{◌≡◌, ℕ, ◌-◌, ◌<◌, ◌||◌, Bool, true, false, eqb, ltb, List, [], ◌∷◌, ◌++◌, length, get_or, inl, inr, ap, arith}
use Rattle.std.specs.List.{AllPairs}
use Rattle.std.proofs.lemmas.Bool.{ne_eqb, ltb-true, cases_lt}
use Rattle.std.proofs.lemmas.List.{get_or_default}
use Rattle.std.proofs.lemmas.List.Quantifiers.{all_pairs_push}
use Rattle.sc_scenario.specs.scenario.Definitions.{group_at, is_above}
use Rattle.sc_scenario.specs.declared.scenario.drafts.GroupLine.{GroupLine}

-- a group that begins lower
abbrev pub Lower : GroupLine → GroupLine → Type 0
Lower one other = one.lo < other.lo

second : (a b : Bool) → (a || b) ≡ true → a ≡ false → b ≡ true
second true b h f = cc
second false b h f = h

above_each : (lines : List GroupLine) (line : GroupLine) → AllPairs Lower lines → is_above lines line.lo ≡ true → (k : ℕ) (d : GroupLine) → k < length lines → Lower (get_or lines k d) line
above_each lines line rising above k d within =
    let some : eqb (length lines) 0 ≡ false = ne_eqb (length lines) 0 (λ e. omega (arith, e, within)) in
    let last : (group_at lines (length lines - 1)).lo < line.lo =
    ltb-true (group_at lines (length lines - 1)).lo line.lo (second (eqb (length lines) 0) (ltb (group_at lines (length lines - 1)).lo line.lo) above some) in
    let same = ap (λ (g : GroupLine). g.lo) (get_or_default lines k d (record { lo = 0; members = [] }) within) in
    elim (cases_lt k (length lines - 1)) [
      | inl lt ↦ (let up = rising k (length lines - 1) (record { lo = 0; members = [] }) lt (omega (arith, within)) in omega (arith, same, up, last))
      | inr ge ↦ (
          let e : k ≡ length lines - 1 = omega (arith, ge, within) in
          let is = ap (λ j. (group_at lines j).lo) e in
          omega (arith, same, is, last))
    ]

-- one more, which begins above the last
pub above_push : (lines : List GroupLine) (line : GroupLine) → AllPairs Lower lines → is_above lines line.lo ≡ true → AllPairs Lower (lines ++ line ∷ [])
above_push lines line rising above = all_pairs_push Lower lines line rising (above_each lines line rising above)
