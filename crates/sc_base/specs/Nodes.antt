-- At most nine nodes in a fixed array.
use Rattle.std.specs.Prelude.{◌≡◌, ℕ, ◌-◌, ◌≤◌, List, ◌++◌, length, take, replicate}
use Rattle.std.proofs.Common.{arith, ap, sym, ◌∙◌}
use Rattle.std.proofs.lemmas.List.{length-take-le}

-- of nine places the first `count` are taken, and the others hold 0
pub record IsFilled (places : List ℕ) (count : ℕ) : Type 0 where
  pub most : count ≤ 9
  pub nine : length places ≡ 9
  pub padded : places ≡ take count places ++ replicate (9 - count) 0

-- the two fields can be computed from the list of the taken places alone
pub inverse_of : {A : Type 0} (places : List ℕ) (count : ℕ) → IsFilled places count → (make : List ℕ → ℕ → A) → make (take count places ++ replicate (9 - length (take count places)) 0) (length (take count places)) ≡ make places count
inverse_of places count is make =
    let same : length (take count places) ≡ count = length-take-le count places (omega arith) in
    ap (λ n. make (take count places ++ replicate (9 - n) 0) n) same ∙ ap (λ l. make l count) (sym is.padded)
