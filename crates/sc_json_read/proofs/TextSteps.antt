-- Texts of visible bytes.
use Rattle.std.proofs.Common.{◌≡◌, ℕ, List, Option, Some, None, Err, true, refl, ap, ◌∙◌}
use Rattle.std.specs.Prelude.{is_some}
use Rattle.serde_json.specs.Data.{Data, null, boolean, number, string, array, object}
use Rattle.serde_json.specs.Find.{as_null, as_str}
use Rattle.sc_base.specs.Refusal.{Refuses}

-- what is refused without an error is out of memory
pub short_of : {T E : Type 0} (error : Option E) (short why : E) (P : T → Type 0) → error ≡ None → Refuses error short P (Err why) → why ≡ short
short_of None short why P none refused = refused
short_of (Some f) short why P none refused = absurd (cc)

-- the text of a string
pub text_is : (json : Data) (text value : List ℕ) → Some text ≡ as_str json → json ≡ string value → text ≡ value
text_is json text value found is = let same : Some text ≡ Some value = found ∙ ap as_str is in cc

-- what has a text is a string of it
pub is_string : (json : Data) (text : List ℕ) → Some text ≡ as_str json → json ≡ string text
is_string null text is = absurd (cc)
is_string (boolean b) text is = absurd (cc)
is_string (number n) text is = absurd (cc)
is_string (string s) text is = cc
is_string (array ds) text is = absurd (cc)
is_string (object ms) text is = absurd (cc)

-- what is null is nothing else
pub is_null : (json : Data) → is_some (as_null json) ≡ true → json ≡ null
is_null null is = refl
is_null (boolean b) is = absurd (cc)
is_null (number n) is = absurd (cc)
is_null (string s) is = absurd (cc)
is_null (array ds) is = absurd (cc)
is_null (object ms) is = absurd (cc)
