-- What the record of a group says of its neighbours.
use Rattle.std.specs.Prelude.{Bool}
use Rattle.sc_base.specs.Definitions.{same_draw}
use Rattle.sc_words.specs.declared.commands.cores.Core.{Core}

-- whether a group is its own successor
abbrev pub is_alone : Core → Bool
is_alone core = same_draw core.succ.group core.id
