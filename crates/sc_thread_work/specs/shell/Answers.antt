-- The events that a shell may get beside deliveries, and its answer to a refused row.
use Rattle.std.specs.Prelude.{⊤}
use Rattle.sc_actor.specs.declared.rows.Event.{Event}
use Rattle.sc_actor.specs.declared.rows.Event.TheVariants.{Deliver, Drop, Again, Tick, Go, Told, Crash}
use Rattle.sc_thread_ledger.specs.declared.errors.PostError.{PostError}
use Rattle.sc_thread_ledger.specs.declared.errors.PostError.TheVariants.{JournalFull, OutOfMemory as NoMemory}
use Rattle.sc_thread_work.specs.declared.shell.turns.Turn.{Turn}
use Rattle.sc_thread_work.specs.declared.shell.turns.Turn.TheVariants.{Full, OutOfMemory}

-- The event is one for `Shell::event`: a tick, a go, an order or a crash; no delivery, and no event of the network.
abbrev pub MayHappen : {O : Type 0} → Event O → Type 0
MayHappen (Deliver number) = ⊥
MayHappen (Drop number) = ⊥
MayHappen (Again number) = ⊥
MayHappen Tick = ⊤
MayHappen Go = ⊤
MayHappen (Told order) = ⊤
MayHappen Crash = ⊤

-- The answer of a shell whose row was refused for this cause.
abbrev pub turn_of : PostError → Turn
turn_of (JournalFull bytes) = Full bytes
turn_of NoMemory = OutOfMemory
