-- Who is below all of a list is no member of it.
use Rattle.std.proofs.Common.{◌≡◌, ℕ, ◌<◌, false, List, [], ◌∷◌, ◌||◌, refl, ◌∙◌, ap, arith}
use Rattle.std.proofs.lemmas.Bool.{ne_eqb}
use Rattle.std.specs.List.{All}
use Rattle.std.proofs.lemmas.List.Elements.{All-head, All-tail}
use Rattle.sc_base.specs.Definitions.{is_member}

pub none_below : (x : ℕ) (xs : List ℕ) → All (λ y. x < y) xs → is_member xs x ≡ false
none_below x [] all = refl
none_below x (y ∷ ys) all =
    let lt : x < y = All-head (λ z. x < z) y ys all in
    ap (λ b. b || is_member ys x) (ne_eqb y x (λ e. omega (arith, e, lt))) ∙ none_below x ys (All-tail (λ z. x < z) y ys all)
