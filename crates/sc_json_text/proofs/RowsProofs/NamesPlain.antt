-- Names and ballots are plain JSON.
use Rattle.std.proofs.Common.{◌≡◌, ℕ, suc, ◌+◌, ◌^◌, ◌<◌, ◌%◌, ◌&&◌, ◌++◌, true, [], ◌∷◌, codes, ap, ap₂, ◌∙◌, arith}
use Rattle.std.specs.Fmt.{decimal}
use Rattle.std.proofs.lemmas.Fmt.{decimal_by_steps}
use Rattle.std.proofs.lemmas.Nat.{mod_below}
use Rattle.std.proofs.lemmas.Bool.{lt-ltb}
use Rattle.std.proofs.lemmas.List.Folds.{list_all-append}
use Rattle.sc_base.specs.declared.names.Ballot.{Ballot}
use Rattle.sc_base.specs.declared.names.Draw.{Draw}
use Rattle.sc_json_text.specs.plain.Plain.{IsPlain, is_seven_bit}
use Rattle.sc_json_text.specs.rows.Definitions.{draw_json, FitsDraw, ballot_json, FitsBallot}
use Rattle.sc_json_text.proofs.RowsProofs.ShapesPlain.{u16_plain, u32_plain}

one_digit : (d : ℕ) → d < 10 → is_seven_bit ((48 + d) ∷ []) ≡ true
one_digit d few = ap (λ b. b && true) (lt-ltb (48 + d) 128 (omega arith))

digits_plain : (n : ℕ) → n < 2 ^ 64 → is_seven_bit (decimal n) ≡ true
digits_plain = decimal_by_steps (λ n ds. is_seven_bit ds ≡ true)
    (λ n few. one_digit n few)
    (λ n ds many rest. list_all-append _ ds ((48 + n % 10) ∷ []) ∙ ap₂ (λ a b. a && b) rest (one_digit (n % 10) (mod_below n 10 (omega arith))))

pub draw_plain : (n : ℕ) (draw : Draw) → FitsDraw draw → IsPlain n (draw_json draw)
unfolding draw_json FitsDraw
draw_plain n draw fits =
    list_all-append _ (decimal draw.node ++ codes ".") (decimal draw.count)
    ∙ ap₂ (λ a b. a && b) (list_all-append _ (decimal draw.node) (codes ".") ∙ ap (λ a. a && true) (digits_plain draw.node (u16_plain draw.node fits.0))) (digits_plain draw.count (u32_plain draw.count fits.1))

pub ballot_plain : (n : ℕ) (ballot : Ballot) → FitsBallot ballot → IsPlain (suc n) (ballot_json ballot)
unfolding ballot_json FitsBallot
ballot_plain n ballot fits = (u32_plain ballot.round fits.0, (u16_plain ballot.node fits.1, tt))
