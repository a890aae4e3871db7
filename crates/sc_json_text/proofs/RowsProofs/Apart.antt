-- Names and variants that differ.
use Rattle.std.proofs.Common.{◌≡◌, ℕ, List, true, false, bytes_eq, sym, ap, ◌∙◌}
use Rattle.std.proofs.lemmas.Slice.Eq.{bytes_eq-Decides}
use Rattle.serde_json.specs.Data.{Data}
use Rattle.sc_json_text.specs.rows.Definitions.{variant_name}

-- names that differ are not the same
pub apart : (a b : List ℕ) → a ≡ b → bytes_eq a b ≡ false → ⊥
apart a b same differs = let clash : true ≡ false = sym ((bytes_eq-Decides a b).1 same) ∙ differs in cc

-- what has another name is something else
pub variants_apart : (a b : Data) → a ≡ b → bytes_eq (variant_name a) (variant_name b) ≡ false → ⊥
variants_apart a b same other = apart (variant_name a) (variant_name b) (ap variant_name same) other
