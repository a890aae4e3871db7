-- Texts of visible bytes.
use Rattle.std.proofs.Common.{◌≡◌, ℕ, ◌<◌, true, IsTrue, List, [], ◌∷◌, arith}
use Rattle.std.specs.List.{list_all}
use Rattle.std.specs.Str.{IsAscii, IsUtf8}
use Rattle.std.proofs.lemmas.Bool.{and_parts}
use Rattle.std.proofs.lemmas.Bool.Decides.{nat_tests}
use Rattle.std.proofs.lemmas.Str.{IsUtf8-from_ascii}
use Rattle.std.proofs.lemmas.Str.Ascii.{IsAscii-nil, IsAscii-cons}
use Rattle.sc_base.specs.Text.{is_visible}

visible_small : (byte : ℕ) → is_visible byte ≡ true → byte < 128
visible_small byte visible = grind (arith, nat_tests)

visible_ascii : (bytes : List ℕ) → list_all is_visible bytes ≡ true → IsAscii bytes
visible_ascii [] all = IsAscii-nil
visible_ascii (b ∷ bs) all = let parts = and_parts (is_visible b) (list_all is_visible bs) all in IsAscii-cons b bs (visible_small b parts.0) (visible_ascii bs parts.1)

-- visible bytes are a text
pub visible_utf8 : (bytes : List ℕ) → IsTrue (list_all is_visible bytes) → IsUtf8 bytes
visible_utf8 bytes all = IsUtf8-from_ascii bytes (visible_ascii bytes all)
