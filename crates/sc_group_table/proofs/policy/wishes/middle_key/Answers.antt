-- A place that is not in the first of two lists is in the second.
use Rattle.std.proofs.Common.{◌≡◌, ℕ, ◌-◌, ◌<◌, ◌≤◌, ◌/◌, ◌%◌, ◌^◌, List, ◌++◌, length, filter, nat_le, nat_lt, slice_get, arith, get_or, sym, ◌∙◌}
use Rattle.std.specs.Prelude.{unwrap_or}
use Rattle.std.proofs.lemmas.Option.{unwrap_or-slice_get}
use Rattle.std.proofs.lemmas.List.{get_or_append_left, get_or-append_right}
use Rattle.std.proofs.Math.Nat.{mod-eq_of_lt}
use Rattle.sc_group_table.specs.policy.PolicyDefinitions.{positions}
use Rattle.sc_group_table.proofs.policy.wishes.middle_key.Goals as goal
use Rattle.sc_group_table.proofs.policy.wishes.middle_key.Goals.{then-middle-above, else-middle-above}

in_first : (xs ys : List ℕ) (n : ℕ) → n < length xs → unwrap_or (slice_get xs n) 0 ≡ get_or (xs ++ ys) n 0
in_first xs ys n h = unwrap_or-slice_get xs n 0 ∙ sym (get_or_append_left xs ys 0 n h)

in_second : (xs ys : List ℕ) (n : ℕ) → length xs ≤ n → unwrap_or (slice_get ys (n - length xs)) 0 ≡ get_or (xs ++ ys) n 0
in_second xs ys n h = unwrap_or-slice_get ys (n - length xs) 0 ∙ sym (get_or-append_right xs ys (length xs) n 0 (λ i. length xs) h)

pub returns : goal.returns
returns c =
    let xs = filter (λ p. nat_le c.args.lo p) (positions c.args.pairs.now) in
    let ys = filter (λ p. nat_lt p c.args.lo) (positions c.args.pairs.now) in
    let n = length c.args.pairs.now / 2 in
    elim c.if-middle-above.branch [
      | then-middle-above w ↦ (let h : n < length xs = omega arith in let e = in_first xs ys n h in let whole : c.unwrap_or.result % 2 ^ 32 ≡ c.unwrap_or.result = mod-eq_of_lt {n = c.unwrap_or.result} {m = 2 ^ 32} (omega arith) in cc)
      | else-middle-above w ↦ (let h : length xs ≤ n = omega arith in let e = in_second xs ys n h in let whole : c.unwrap_or.result % 2 ^ 32 ≡ c.unwrap_or.result = mod-eq_of_lt {n = c.unwrap_or.result} {m = 2 ^ 32} (omega arith) in cc)
    ]
