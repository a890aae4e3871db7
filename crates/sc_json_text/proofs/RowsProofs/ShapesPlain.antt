-- Numbers, texts, lists and what may be absent are plain JSON.
use Rattle.std.proofs.Common.{◌≡◌, ℕ, suc, ◌^◌, ◌<◌, ◌&&◌, true, List, [], ◌∷◌, Option, Some, None, refl, ap₂, arith, nat_lt}
use Rattle.std.specs.List.{list_all}
use Rattle.std.proofs.lemmas.Bool.{and_parts}
use Rattle.std.proofs.lemmas.Bool.Decides.{nat_tests}
use Rattle.serde_json.specs.Data.{Data}
use Rattle.sc_base.specs.Definitions.{Each, is_visible}
use Rattle.sc_json_text.specs.plain.Plain.{IsPlain, is_seven_bit}
use Rattle.sc_json_text.specs.rows.Definitions.{list_json, option_json, FitsU8, FitsU16, FitsU32, FitsKey, FitsValue, OptionFits}

pub u8_plain : (n : ℕ) → FitsU8 n → n < 2 ^ 64
u8_plain n fits = omega (arith, fits)

pub u16_plain : (n : ℕ) → FitsU16 n → n < 2 ^ 64
u16_plain n fits = omega (arith, fits)

pub u32_plain : (n : ℕ) → FitsU32 n → n < 2 ^ 64
u32_plain n fits = omega (arith, fits)

below : (byte : ℕ) → is_visible byte ≡ true → nat_lt byte 128 ≡ true
below byte visible = grind (arith, nat_tests)

-- what is visible is ASCII
seven_bit : (bytes : List ℕ) → list_all is_visible bytes ≡ true → is_seven_bit bytes ≡ true
seven_bit [] visible = refl
seven_bit (byte ∷ bytes) visible =
    let parts = and_parts (is_visible byte) (list_all is_visible bytes) visible in
    ap₂ (λ a b. a && b) (below byte parts.0) (seven_bit bytes parts.1)

pub key_plain : (key : List ℕ) → FitsKey key → is_seven_bit key ≡ true
key_plain key fits = seven_bit key fits.visible

pub value_plain : (value : List ℕ) → FitsValue value → is_seven_bit value ≡ true
value_plain value fits = seven_bit value fits.visible

-- a list of what is plain
pub list_plain : {T : Type 0} (n : ℕ) (json_of : T → Data) (Fits : T → Type 0) → ((x : T) → Fits x → IsPlain n (json_of x)) → (xs : List T) → Each Fits xs → IsPlain (suc n) (list_json json_of xs)
list_plain n json_of Fits each [] fits = tt
list_plain n json_of Fits each (x ∷ xs) fits = (each x fits.0, list_plain n json_of Fits each xs fits.1)

-- what is plain where it is there
pub option_plain : {T : Type 0} (n : ℕ) (json_of : T → Data) (Fits : T → Type 0) → ((x : T) → Fits x → IsPlain n (json_of x)) → (o : Option T) → OptionFits Fits o → IsPlain n (option_json json_of o)
option_plain n json_of Fits each None fits = tt
option_plain n json_of Fits each (Some x) fits = each x fits
