-- What is read from the beginning of a text.
use Rattle.std.specs.Prelude.{◌≡◌, ℕ, List, ◌++◌, Bool, ◌&&◌, not, ◌==◌, nat_le}
use Rattle.serde_json.specs.Data.{Data}
use Rattle.serde_json.specs.Written.{compact_text}

-- The value is one that the program's type can hold, and no other such value has its JSON.
pub record IsOnly {T : Type 0} (json_of : T → Data) (Fits : T → Type 0) (value : T) : Type 0 where
  pub fits : Fits value
  pub only : (other : T) → Fits other → json_of other ≡ json_of value → other ≡ value

-- The bytes begin with the text of this value, the only one with its JSON, and `rest` is behind it.
pub record TextBegins {T : Type 0} (json_of : T → Data) (Fits : T → Type 0) (bytes : List ℕ) (value : T) (rest : List ℕ) : Type 0 where
  pub text : bytes ≡ compact_text (json_of value) ++ rest
  pub known : IsOnly json_of Fits value

-- Whether the byte is written in a JSON string as it is: it is no control character, no quote and no backslash.
abbrev pub is_bare : ℕ → Bool
is_bare byte = nat_le 32 byte && (not (byte == 34) && not (byte == 92))
