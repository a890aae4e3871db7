-- Groups that have nothing to ask.
use Rattle.std.specs.Prelude.{Bool, true, false}
use Rattle.sc_words.specs.declared.commands.cores.Lock.{Lock}
use Rattle.sc_words.specs.declared.commands.cores.Lock.TheVariants.{Free, Coordinating, Promised, Watching}

-- whether a group coordinates a transaction
abbrev pub coordinates : Lock → Bool
coordinates Free = false
coordinates (Coordinating tx body order heard) = true
coordinates (Promised tx offer) = false
coordinates (Watching tx watch) = false
