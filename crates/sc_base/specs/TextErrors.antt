-- Why bytes are no text of visible bytes.
use Rattle.std.specs.Prelude.{ℕ, List, Option, Some, length, not, position, ◌==◌, nat_lt, if◌then◌else◌}
use Rattle.std.specs.Option.{option_map}
use Rattle.sc_base.specs.Text.{is_visible}
use Rattle.sc_base.specs.declared.texts.KeyError.{KeyError}
use Rattle.sc_base.specs.declared.texts.KeyError.TheVariants.{Empty, TooLong, BadByte}

-- the first error of bytes that are no text of 1 to `most` visible bytes, or None where they are one
abbrev pub text_error : ℕ → List ℕ → Option KeyError
text_error most bytes =
    if length bytes == 0 then Some Empty
    else if nat_lt most (length bytes) then Some (TooLong (length bytes))
    else option_map BadByte (position (λ byte. not (is_visible byte)) bytes)
