-- What the entries of all logs make of what all groups hold.
use Rattle.std.specs.Prelude.{◌≡◌, ◌⊎◌, List, [], ◌∷◌, ◌++◌, map, Some}
use Rattle.std.specs.FinMap.{empty}
use Rattle.std.specs.Option.{option_map, option_and_then}
use Rattle.sc_base.specs.Definitions.{Among, Each}
use Rattle.sc_base.specs.declared.names.Draw.{Draw}
use Rattle.sc_words.specs.declared.commands.commands.Command.{Command}
use Rattle.sc_words.specs.declared.commands.commands.Command.TheVariants.{Noop, Call, Join, Leave, Split, Begin, Prepared, RecordVote, GiveUp, Finish, Watched, RecordWatch}
use Rattle.sc_words.specs.declared.commands.cores.Base.{Base}
use Rattle.sc_words.specs.ideal.IdealDefinitions.{Legal}
use Rattle.sc_group_table.specs.machine.MachineDefinitions.{Group}
use Rattle.sc_meaning.specs.declared.entries.Cut.{Cut}
use Rattle.sc_meaning.specs.declared.entries.LogEntry.{LogEntry}
use Rattle.sc_meaning.specs.entries.EntryDefinitions.{effective, HoldsItsPart, Covers, arc_in, first_cut, StoreWorld, first_world, named_group, recorded, world_of}
use Rattle.sc_law_entries.specs.history.LogHistories.{LeavesWhole}
use Rattle.sc_law_entries.specs.history.Moves.{Holding, Holdings, Move, RequestOf, HasNotes, MayMake, MatchesHoldings, entries_by, holding_of, holdings_after}

-- what each group with a range holds, by its effective record
abbrev pub holdings_in : StoreWorld → Holdings
holdings_in world name = option_and_then (λ arc. option_map holding_of (effective world name)) (arc_in name world.ring)

-- a group of a scenario that holds nothing
pub record BeginsBare (base : Base) : Type 0 where
  pub pairs : base.pairs ≡ []
  pub clients : base.clients ≡ []

-- the groups of a scenario begin empty: their arcs cover the ring, and they hold nothing
pub record BeginBare (bases : List Base) : Type 0 where
  pub covers : Covers (map first_cut bases)
  pub bare : (base : Base) → Among base bases → BeginsBare base

-- a call is the request of its client and number; any other command is allowed
abbrev pub IsAskedCall : RequestOf → Command → Type 0
IsAskedCall request (Call client seq op) = op ≡ request client seq
IsAskedCall request Noop = Unit {0}
IsAskedCall request (Join node order) = Unit {0}
IsAskedCall request (Leave node order) = Unit {0}
IsAskedCall request (Split at child order) = Unit {0}
IsAskedCall request (Begin tx body order) = Unit {0}
IsAskedCall request (Prepared tx offer) = Unit {0}
IsAskedCall request (RecordVote tx vote by) = Unit {0}
IsAskedCall request (GiveUp tx) = Unit {0}
IsAskedCall request (Finish tx outcome) = Unit {0}
IsAskedCall request (Watched tx watch) = Unit {0}
IsAskedCall request (RecordWatch tx vote by) = Unit {0}

-- an entry divides no group and is of no transaction, and a call is the request of its client and number
pub record IsQuiet (request : RequestOf) (entry : LogEntry) : Type 0 where
  pub whole : LeavesWhole entry.command
  pub asked : IsAskedCall request entry.command

-- what any group's own log ever made it note has its entry in the history of all entries: a replica that answers by an older state answers by the history
abbrev pub LogNotesStay : List Base → List LogEntry → Type 0
LogNotesStay bases entries = (prefix more : List LogEntry) → entries ≡ prefix ++ more → (name : Draw) (group : Group) → named_group name (world_of bases prefix).groups ≡ Some group
    → HasNotes (world_of bases entries).history group.clients

-- the history of a world is legal and matches what all groups hold, and each range's group has its part of the map
pub record HistoryMatchesWorld (request : RequestOf) (world : StoreWorld) : Type 0 where
  pub legal : Legal world.history
  pub recorded : MatchesHoldings request world.history (holdings_in world)
  pub parts : (cut : Cut) → Among cut world.ring → HoldsItsPart world cut

-- after such entries the history of the requests that took effect is legal and matches what all groups hold, the ranges are those of the start, and the notes of all logs stay in the history
pub record MatchQuietly (request : RequestOf) (bases : List Base) (entries : List LogEntry) : Type 0 where
  pub world : HistoryMatchesWorld request (world_of bases entries)
  pub ring : (world_of bases entries).ring ≡ map first_cut bases
  pub notes : LogNotesStay bases entries

-- requests, joins and leaves from an empty start, in any number of groups, make one legal history that matches what all groups hold
abbrev pub QuietEntriesMakeHistory : Type 0
QuietEntriesMakeHistory = (request : RequestOf) (bases : List Base) → BeginBare bases → (entries : List LogEntry) → Each (IsQuiet request) entries → MatchQuietly request bases entries

-- ---- entries of every kind

-- the table of a group by its own log is empty, or as it was before an entry, or what the group holds after the entry
abbrev pub HasKnownTable : StoreWorld → StoreWorld → Draw → Group → Type 0
HasKnownTable before after name group =
    (group.clients ≡ empty)
    ⊎ ((old : Group) × (named_group name before.groups ≡ Some old) × (old.clients ≡ group.clients))
    ⊎ ((holding : Holding) × (holdings_in after name ≡ Some holding) × (holding.clients ≡ group.clients))

-- one world follows another by a move of what all groups hold: the move may be made, the history grows by the entries that it adds, and afterwards each group holds what the move gives it
pub record IsMoveTo (request : RequestOf) (before after : StoreWorld) : Type 0 where
  pub move : Move
  pub may : MayMake request (holdings_in before) move
  pub holds : (name : Draw) → holdings_in after name ≡ holdings_after move (holdings_in before) name
  pub adds : after.history ≡ before.history ++ entries_by move (holdings_in before)
  pub tables : (name : Draw) (group : Group) → named_group name after.groups ≡ Some group → HasKnownTable before after name group

-- an entry makes a move
abbrev pub MakesMove : RequestOf → StoreWorld → LogEntry → Type 0
MakesMove request world entry = IsMoveTo request world (recorded world entry)

-- each entry makes a move when its turn comes
abbrev pub AllMakeMoves : RequestOf → StoreWorld → List LogEntry → Type 0
AllMakeMoves request world [] = Unit {0}
AllMakeMoves request world (entry ∷ entries) = MakesMove request world entry × AllMakeMoves request (recorded world entry) entries

-- the effective record of a range's group has the arc of the range
abbrev pub HasCutArc : StoreWorld → Cut → Type 0
HasCutArc world cut = (group : Group) → effective world cut.group ≡ Some group → group.core.arc ≡ cut.arc

-- the history matches what all groups hold, each range's group has its part of the map where its record has the range's arc, and the notes of all logs stay in the history
pub record MatchByMoves (request : RequestOf) (bases : List Base) (entries : List LogEntry) : Type 0 where
  pub recorded : MatchesHoldings request (world_of bases entries).history (holdings_in (world_of bases entries))
  pub parts : (cut : Cut) → Among cut (world_of bases entries).ring → HasCutArc (world_of bases entries) cut → HoldsItsPart (world_of bases entries) cut
  pub notes : LogNotesStay bases entries

-- entries of which each makes a move, from an empty start, make a history that matches what all groups hold
abbrev pub MovingEntriesMakeHistory : Type 0
MovingEntriesMakeHistory = (request : RequestOf) (bases : List Base) → BeginBare bases → (entries : List LogEntry) → AllMakeMoves request (first_world bases) entries → MatchByMoves request bases entries
