-- Which text is begun, and the status that it belongs to.
use Rattle.std.specs.Prelude.{◌≡◌, ◌⊎◌, ℕ, List, ◌++◌, take, Bool, true, false, Option, None, Some, IfSome}
use Rattle.std.specs.List.{concat}
use Rattle.std.specs.Io.KnownBytes.{Appends}
use Rattle.sc_texts.specs.edges.Bytes.{AppendsPart}
use Rattle.sc_texts.specs.edges.Causes.{Rose}
use Rattle.sc_texts.specs.edges.Uses.{SinkUse}
use Rattle.sc_actor.specs.declared.schedules.Played.{Played}
use Rattle.sc_actor.specs.declared.schedules.Played.TheVariants as Was
use Rattle.sc_cli.specs.declared.said.Said.{Said}
use Rattle.sc_cli.specs.declared.said.Said.TheVariants.{Ended, Unsettled, Filled, Usage, BadScenario, ReadError, Lawful, Unlawful}

-- which text a run that ended begins
abbrev pub said_of : Bool → Said
said_of true = Unsettled
said_of false = Ended

-- which text is begun about a scenario that was played so; none where the play ran out of memory
abbrev pub said_by : Played → Option Said
said_by (Was.Ended cut quiet skips) = Some (said_of cut)
said_by Was.Full = Some Filled
said_by Was.OutOfMemory = None

-- the status that a text belongs to
abbrev pub status_of : Said → ℕ
status_of Ended = 0
status_of Usage = 2
status_of BadScenario = 3
status_of ReadError = 4
status_of Unsettled = 6
status_of Filled = 7
status_of Lawful = 0
status_of Unlawful = 9

-- a sink's calls, where it records their pieces, brought these lines, one a call
abbrev pub BringsLines : Option (List (List ℕ)) → Option (List (List ℕ)) → List (List ℕ) → Type 0
BringsLines told told' lines = IfSome told (λ pieces. told' ≡ Some (pieces ++ lines))

-- a sink's calls, where it records their pieces, brought a prefix of these lines, one a call
abbrev pub BringsFirst : Option (List (List ℕ)) → Option (List (List ℕ)) → List (List ℕ) → Type 0
BringsFirst told told' lines = (n : ℕ) × BringsLines told told' (take n lines)

-- The lines of a text were printed whole, each by one call of the sink, or up to a write error, which overrides the status that the text belongs to.
abbrev pub Prints : SinkUse → Said → List (List ℕ) → ℕ → Type 0
Prints sink said lines status =
    ((status ≡ status_of said) × Appends sink.held_before sink.held_after (concat lines) × BringsLines sink.pieces_before sink.pieces_after lines)
    ⊎ ((status ≡ 5) × AppendsPart sink.held_before sink.held_after (concat lines) × BringsFirst sink.pieces_before sink.pieces_after lines × Rose sink.errors_before sink.errors_after)
