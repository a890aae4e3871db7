-- Entries of every kind make moves, where they may be applied, and so they make a legal history.
use Rattle.std.proofs.Common.{◌≡◌, List, [], ◌∷◌, Option, Some, None, inl, inr, refl, sym, append-nil}
use Rattle.sc_base.specs.declared.names.Draw.{Draw}
use Rattle.sc_words.specs.declared.commands.commands.Command.{Command}
use Rattle.sc_words.specs.declared.commands.commands.Command.TheVariants.{Noop, Call, Join, Leave, Split, Begin, Prepared, RecordVote, GiveUp, Finish, Watched, RecordWatch}
use Rattle.sc_group_table.specs.machine.MachineDefinitions.{Group, applied}
use Rattle.sc_meaning.specs.declared.entries.LogEntry.{LogEntry}
use Rattle.sc_meaning.specs.entries.EntryDefinitions.{StoreWorld, after_command, first_world, named_group, recorded}
use Rattle.sc_law_entries.specs.history.HistoryDefinitions.{RequestOf, MatchesHoldings, Unmoved, EntriesMakeMoves, AppliedEntriesMakeHistory, AllMayBeApplied, MayExecute, AllMakeMoves, IsMoveTo, holdings_in}
use Rattle.sc_law_entries.proofs.HistoryProofs.Coordinators.{split_goes, vote_goes, watch_goes}
use Rattle.sc_law_entries.proofs.HistoryProofs.Ending.{finish_goes}
use Rattle.sc_law_entries.proofs.HistoryProofs.MoveLaw.{move_reported, moves_make_worlds}
use Rattle.sc_law_entries.proofs.HistoryProofs.QuietLaw.{first_recorded}
use Rattle.sc_law_entries.proofs.HistoryProofs.Serves.{call_goes}
use Rattle.sc_law_entries.proofs.HistoryProofs.Staying.{Goes, begin_goes, give_up_goes, join_goes, leave_goes, noop_goes, prepared_goes, watched_goes}

-- each command
command_goes : (request : RequestOf) (world : StoreWorld) (name : Draw) (group : Group) (found : named_group name world.groups ≡ Some group) (c : Command) → MatchesHoldings request world.history (holdings_in world) → MayExecute request world group c
    → Goes request world name group found c (applied group c)
command_goes request world name group found Noop recorded may = noop_goes request world name group found
command_goes request world name group found (Call client seq op) recorded may = call_goes request world name group found client seq op may
command_goes request world name group found (Join node order) recorded may = join_goes request world name group found node order
command_goes request world name group found (Leave node order) recorded may = leave_goes request world name group found node order
command_goes request world name group found (Split at child order) recorded may = split_goes request world name group found at child order may
command_goes request world name group found (Begin tx body order) recorded may = begin_goes request world name group found tx body order
command_goes request world name group found (Prepared tx offer) recorded may = prepared_goes request world name group found tx offer may
command_goes request world name group found (RecordVote tx vote by) recorded may = vote_goes request world name group found tx vote by recorded may
command_goes request world name group found (GiveUp tx) recorded may = give_up_goes request world name group found tx may
command_goes request world name group found (Finish tx outcome) recorded may = finish_goes request world name group found tx outcome may
command_goes request world name group found (Watched tx watch) recorded may = watched_goes request world name group found tx watch
command_goes request world name group found (RecordWatch tx vote by) recorded may = watch_goes request world name group found tx vote by may

-- a world that stays
nothing_goes : (request : RequestOf) (world : StoreWorld) → IsMoveTo request world world
nothing_goes request world = record {
  move = Unmoved;
  may = tt;
  holds = λ name. refl;
  adds = sym (append-nil world.history);
  tables = λ name group fact. inr (inl (group, fact, refl));
}

by_group : (request : RequestOf) (world : StoreWorld) (name : Draw) (c : Command) → MatchesHoldings request world.history (holdings_in world) → (o : Option Group) → named_group name world.groups ≡ o
    → ((group : Group) → o ≡ Some group → MayExecute request world group c) → IsMoveTo request world (after_command world o c)
by_group request world name c holds None e may = nothing_goes request world
by_group request world name c holds (Some group) e may = command_goes request world name group e c holds (may group refl)

pub entries_move : EntriesMakeMoves
entries_move request world entry holds may = by_group request world entry.group entry.command holds (named_group entry.group world.groups) refl may

all_move : (request : RequestOf) (world : StoreWorld) (entries : List LogEntry) → MatchesHoldings request world.history (holdings_in world) → AllMayBeApplied request world entries → AllMakeMoves request world entries
all_move request world [] holds may = tt
all_move request world (entry ∷ entries) holds may =
    let moves = entries_move request world entry holds may.0 in
    (moves, all_move request (recorded world entry) entries (move_reported request world (recorded world entry) holds moves) may.1)

pub entries_report : AppliedEntriesMakeHistory
entries_report request bases begin entries may =
    moves_make_worlds request bases begin entries (all_move request (first_world bases) entries (first_recorded bases begin request) may)
