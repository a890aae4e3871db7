-- The text about an input that is not what was asked for.
use Rattle.std.specs.Prelude.{◌≡◌, codes}
use Rattle.sc_cli.specs.declared.said.Said.{Said}
use Rattle.sc_cli.specs.declared.said.Said.TheVariants.{BadScenario, ReadError}
use Rattle.sc_cli.specs.Errors.{error_text}
use Rattle.sc_cli.specs.declared.errors.InputError.{InputError}
use Rattle.sc_cli.specs.declared.errors.InputError.TheVariants.{Failed, Bad, OutOfMemory}
use Rattle.sc_run.specs.declared.done.Text.{Text}
use Rattle.sc_run.specs.Run.{IsLineText}

-- which text is begun about an input that is not what was asked for, and what it says; none where reading ran out of memory
abbrev pub IsErrorText : InputError → Said → Text → Type 0
IsErrorText Failed said text = (said ≡ ReadError) × IsLineText (codes "read fault") text
IsErrorText (Bad line why) said text = (said ≡ BadScenario) × IsLineText (error_text line why) text
IsErrorText OutOfMemory said text = ⊥
