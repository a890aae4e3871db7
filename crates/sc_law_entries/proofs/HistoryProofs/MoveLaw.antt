-- Entries that make moves make a legal history.
use Rattle.std.proofs.Common.{◌≡◌, List, [], ◌∷◌, ◌++◌, Option, Some, inl, inr, sym, ap, ◌∙◌, subst}
use Rattle.std.specs.FinMap.{empty, get, get-empty}
use Rattle.std.specs.Option.{option_map, option_and_then}
use Rattle.std.specs.Ordering.{nat_cmp}
use Rattle.sc_base.specs.Definitions.{Among, Arc}
use Rattle.sc_base.specs.declared.names.Draw.{Draw}
use Rattle.sc_words.specs.declared.commands.cores.Base.{Base}
use Rattle.sc_words.specs.ideal.IdealDefinitions.{ClientTable, contents_after, part_of}
use Rattle.sc_words.specs.declared.ideal.Entry.{Entry}
use Rattle.sc_group_table.specs.machine.MachineDefinitions.{Group}
use Rattle.sc_meaning.specs.declared.entries.Cut.{Cut}
use Rattle.sc_meaning.specs.declared.entries.LogEntry.{LogEntry}
use Rattle.sc_meaning.specs.entries.EntryDefinitions.{effective, arc_in, StoreWorld, first_world, named_group, recorded, world_after, world_of}
use Rattle.sc_meaning.proofs.EntriesProofs.EntryLemmas.{world_append}
use Rattle.sc_law_entries.specs.history.HistoryDefinitions.{RequestOf, HasNotes, MatchesHoldings, entries_by, holding_of, holdings_after, AllMakeMoves, BeginBare, MovingEntriesMakeHistory, HasKnownTable, IsMoveTo, MakesMove, holdings_in}
use Rattle.sc_law_entries.proofs.HistoryProofs.Cuts.{has_cut}
use Rattle.sc_law_entries.proofs.HistoryProofs.MovesKept.{move_kept, same_reported}
use Rattle.sc_law_entries.proofs.HistoryProofs.QuietLaw.{first_notes, first_recorded}
use Rattle.sc_law_entries.proofs.HistoryProofs.QuietWorlds.{notes_grow, tables_grow}
use Rattle.std.proofs.lemmas.Option.{none-some}

-- what holds after each entry: the history matches what all groups hold, and what their own logs made them note
record IsMoved (request : RequestOf) (world : StoreWorld) : Type 0 where
  holds : MatchesHoldings request world.history (holdings_in world)
  notes : (name : Draw) (group : Group) → named_group name world.groups ≡ Some group → HasNotes world.history group.clients

no_notes : (history : List Entry) (clients : ClientTable) → clients ≡ empty → HasNotes history clients
no_notes history clients none client n e = absurd (none-some n (sym (get-empty nat_cmp client) ∙ ap (λ t. get t client) (sym none) ∙ e))

same_notes : (history : List Entry) (clients others : ClientTable) → clients ≡ others → HasNotes history clients → HasNotes history others
same_notes history clients others same notes = subst (HasNotes history) same notes

-- one move more
pub move_reported : (request : RequestOf) (before after : StoreWorld) → MatchesHoldings request before.history (holdings_in before) → IsMoveTo request before after → MatchesHoldings request after.history (holdings_in after)
move_reported request before after holds makes =
    subst (λ es. MatchesHoldings request es (holdings_in after)) (sym makes.adds)
    (same_reported request (before.history ++ entries_by makes.move (holdings_in before)) (holdings_after makes.move (holdings_in before)) (holdings_in after) makes.holds
    (move_kept request before.history (holdings_in before) makes.move holds makes.may))

-- one entry more
moved : (request : RequestOf) (world : StoreWorld) (entry : LogEntry) → IsMoved request world → MakesMove request world entry → IsMoved request (recorded world entry)
moved request world entry fact makes =
    let holds = move_reported request world (recorded world entry) fact.holds makes in
    record { holds = holds; notes = λ name group found. known name group holds (makes.tables name group found) }
  where
    known : (name : Draw) (group : Group) → MatchesHoldings request (recorded world entry).history (holdings_in (recorded world entry)) → HasKnownTable world (recorded world entry) name group → HasNotes (recorded world entry).history group.clients
    known name group holds (inl none) = no_notes (recorded world entry).history group.clients none
    known name group holds (inr (inl old)) = same_notes (recorded world entry).history old.0.clients group.clients old.2 (tables_grow world (entry ∷ []) old.0.clients (fact.notes name old.0 old.1))
    known name group holds (inr (inr holding)) = same_notes (recorded world entry).history holding.0.clients group.clients holding.2 (holds.recorded name holding.0 holding.1).notes

all_moved : (request : RequestOf) (world : StoreWorld) (entries : List LogEntry) → IsMoved request world → AllMakeMoves request world entries → IsMoved request (world_after world entries)
all_moved request world [] fact all = fact
all_moved request world (entry ∷ entries) fact all = all_moved request (recorded world entry) entries (moved request world entry fact all.0) all.1

moves_prefix : (request : RequestOf) (world : StoreWorld) (prefix more : List LogEntry) → AllMakeMoves request world (prefix ++ more) → AllMakeMoves request world prefix
moves_prefix request world [] more all = tt
moves_prefix request world (entry ∷ prefix) more all = (all.0, moves_prefix request (recorded world entry) prefix more all.1)

-- what a cut's group holds is what its effective record holds
pub held_by_cut : (world : StoreWorld) (cut : Cut) → Among cut world.ring → (group : Group) → effective world cut.group ≡ Some group → holdings_in world cut.group ≡ Some (holding_of group)
held_by_cut world cut a group fact =
    let arc = has_cut world.ring cut a in
    ap (λ o. option_and_then (λ arc. option_map holding_of o) (arc_in cut.group world.ring)) fact
    ∙ ap (λ (o : Option Arc). option_and_then (λ arc. Some (holding_of group)) o) arc.1

from_first : (request : RequestOf) (bases : List Base) → BeginBare bases → (entries : List LogEntry) → AllMakeMoves request (first_world bases) entries → IsMoved request (world_of bases entries)
from_first request bases begin entries all =
    all_moved request (first_world bases) entries (record { holds = first_recorded bases begin request; notes = λ name group found. first_notes bases begin request name group found }) all

pub moves_make_worlds : MovingEntriesMakeHistory
moves_make_worlds request bases begin entries all =
    let last = from_first request bases begin entries all in
    record {
      recorded = last.holds;
      parts = λ cut a arc group fact.
          ((last.holds.recorded cut.group (holding_of group) (held_by_cut (world_of bases entries) cut a group fact)).pairs
          ∙ ap (λ x. part_of x (contents_after empty (world_of bases entries).history)) (arc group fact));
      notes = λ prefix more fact name group found. (
          let first = from_first request bases begin prefix (moves_prefix request (first_world bases) prefix more (subst (AllMakeMoves request (first_world bases)) fact all)) in
          subst (λ (w : StoreWorld). HasNotes w.history group.clients)
          (sym (ap (world_of bases) fact ∙ world_append (first_world bases) prefix more))
          (notes_grow (world_of bases prefix) more group (first.notes name group found)));
    }
