-- Commands are plain JSON, so they have no floats.
use Rattle.std.proofs.Common.{◌≡◌, false}
use Rattle.serde_json.specs.Written.{has_float}
use Rattle.sc_words.specs.declared.commands.commands.Command.{Command}
use Rattle.sc_json_text.proofs.PlainProofs.ReadBack.{plain_has_no_float}
use Rattle.sc_json_text.specs.rows.Commands.{command_json, FitsCommand}
use Rattle.sc_json_text.proofs.RowsProofs.CommandsPlain.{command_plain}

pub command_whole : (command : Command) → FitsCommand command → has_float (command_json command) ≡ false
command_whole command fits = plain_has_no_float 20 (command_json command) (command_plain 12 command fits)
