-- Two worked lists of entries: a merge with a watcher and calls before, between and after; and a split that is given up and ordered again under another name.
use Rattle.std.specs.Prelude.{◌≡◌, ℕ, ◌==◌, List, [], ◌∷◌, if◌then◌else◌, Some, None}
use Rattle.sc_base.specs.declared.names.Draw.{Draw}
use Rattle.sc_base.specs.declared.ops.Op.{Op}
use Rattle.sc_base.specs.declared.ops.Op.TheVariants.{Get, Put}
use Rattle.sc_words.specs.declared.commands.bodies.Body.TheVariants as At
use Rattle.sc_words.specs.declared.commands.bodies.Offer.{Offer}
use Rattle.sc_words.specs.declared.commands.bodies.Watch.{Watch}
use Rattle.sc_words.specs.declared.commands.commands.Command.{Command}
use Rattle.sc_words.specs.declared.commands.commands.Command.TheVariants.{Call, Split, Begin, Prepared, RecordVote, GiveUp, Finish, Watched, RecordWatch}
use Rattle.sc_words.specs.declared.commands.cores.Base.{Base}
use Rattle.sc_words.specs.declared.commands.cores.Lock.TheVariants.{Free}
use Rattle.sc_words.specs.declared.commands.votes.Frozen.{Frozen}
use Rattle.sc_words.specs.declared.commands.votes.Outcome.{Outcome}
use Rattle.sc_words.specs.declared.commands.votes.Outcome.TheVariants.{Abort, Merged, Divided}
use Rattle.sc_words.specs.declared.commands.votes.Past.TheVariants as Cast
use Rattle.sc_words.specs.declared.commands.votes.Vote.TheVariants.{Yes}
use Rattle.sc_group_table.specs.machine.MachineDefinitions.{Group, group_of, done, frozen_of}
use Rattle.sc_meaning.specs.declared.entries.Cut.{Cut}
use Rattle.sc_meaning.specs.declared.entries.LogEntry.{LogEntry}
use Rattle.sc_meaning.specs.entries.EntryDefinitions.{world_of}
use Rattle.sc_law_entries.specs.ring.Allowed.{Sources, AreAllowed, first_recorded}
use Rattle.sc_law_entries.specs.ring.RingLaws.{BeginInPlace}

-- the name with this node and count
abbrev pub drawn : ℕ → ℕ → Draw
drawn node count = record { node = node; count = count }

-- the birth record of a scenario's group, by its name, its arc, its members and its neighbours
abbrev pub first_group : ℕ → ℕ → ℕ → List ℕ → ℕ → ℕ → Base
first_group name lo len members succ pred = record {
  core = record {
    id = drawn 0 name;
    first = 1;
    arc = record { lo = lo; len = len };
    members = members;
    succ = record { group = drawn 0 succ; members = [] };
    pred = record { group = drawn 0 pred; members = [] };
    lock = Free;
    begun = 0;
    decided = [];
    voted = [];
    born = [];
    gone = None;
  };
  pairs = [];
  clients = [];
}

-- an entry of a group's log
abbrev pub example_entry : Draw → ℕ → Command → LogEntry
example_entry group slot command = record { group = group; slot = slot; command = command }

-- a range of the ring
abbrev pub ring_cut_of : ℕ → ℕ → Draw → Cut
ring_cut_of lo len group = record { arc = record { lo = lo; len = len }; group = group }

-- the put of client 9, at the key a
abbrev pub merge_put : Op
merge_put = Put (97 ∷ []) (120 ∷ [])

-- the put of any other client, at a key on the watcher's arc
abbrev pub watcher_put : Op
watcher_put = Put (120 ∷ []) (121 ∷ [])

-- the get of client 9, after the merge
abbrev pub merge_get : Op
merge_get = Get (97 ∷ [])

-- whose names and requests there are: names of node 1 are drawn for the group 0.1; client 9 puts a and gets it, and any other client puts x
abbrev pub sources : Sources
sources = record {
  owner = λ name. if name.node == 1 then Some (drawn 0 1) else None;
  request = λ client seq. if client == 9 then (if seq == 1 then merge_put else merge_get) else watcher_put;
}

-- ---- the merge

-- the coordinator, the first of three groups
abbrev pub group_one : Base
group_one = first_group 1 0 1610612736 (1 ∷ []) 2 3

-- the participant, the group that has the key a
abbrev pub group_two : Base
group_two = first_group 2 1610612736 117440512 (2 ∷ []) 3 1

-- the watcher, the group that has the key x
abbrev pub group_three : Base
group_three = first_group 3 1728053248 2566914048 (3 ∷ []) 1 2

-- the groups of the scenario with the merge
abbrev pub merge_bases : List Base
merge_bases = group_one ∷ group_two ∷ group_three ∷ []

-- the participant after its first call
abbrev pub two_called : Group
two_called = (done (group_of group_two) 9 1 merge_put).0

-- what the participant hands over
abbrev pub two_frozen : Frozen
two_frozen = frozen_of two_called

-- what the participant is offered
abbrev pub merge_offer : Offer
merge_offer = record { coord = drawn 0 1; part = drawn 0 2; arc = record { lo = 0; len = 1610612736 }; members = 1 ∷ []; body = At.Merge; by = 1 }

-- what the watcher is asked
abbrev pub merge_watch_asked : Watch
merge_watch_asked = record { coord = drawn 0 1; members = 1 ∷ []; part = drawn 0 3; old = drawn 0 2; next = record { group = drawn 0 1; members = 1 ∷ 2 ∷ [] }; by = 1 }

-- the outcome that is decided
abbrev pub merge_outcome : Outcome
merge_outcome = Merged (record { group = drawn 0 1; lo = 0; members = 1 ∷ 2 ∷ [] })

-- the entries of the merge
abbrev pub merge_entries : List LogEntry
merge_entries =
    example_entry (drawn 0 2) 1 (Call 9 1 merge_put)
    ∷ example_entry (drawn 0 1) 1 (Begin (drawn 1 1) At.Merge 1)
    ∷ example_entry (drawn 0 2) 2 (Prepared (drawn 1 1) merge_offer)
    ∷ example_entry (drawn 0 1) 2 (RecordVote (drawn 1 1) (Yes two_frozen) 2)
    ∷ example_entry (drawn 0 3) 1 (Watched (drawn 1 1) merge_watch_asked)
    ∷ example_entry (drawn 0 3) 2 (Call 8 1 watcher_put)
    ∷ example_entry (drawn 0 1) 3 (RecordWatch (drawn 1 1) Cast.Yes 3)
    ∷ example_entry (drawn 0 2) 3 (Finish (drawn 1 1) merge_outcome)
    ∷ example_entry (drawn 0 3) 3 (Finish (drawn 1 1) merge_outcome)
    ∷ example_entry (drawn 0 1) 4 (Call 9 2 merge_get)
    ∷ []

-- ---- the split

-- the group that is split, the first of two groups
abbrev pub split_left : Base
split_left = first_group 1 0 2147483648 (1 ∷ 2 ∷ []) 2 2

-- the watcher of the split, the second group
abbrev pub split_right : Base
split_right = first_group 2 2147483648 2147483648 (3 ∷ []) 1 1

-- the groups of the scenario with the split
abbrev pub split_bases : List Base
split_bases = split_left ∷ split_right ∷ []

-- what the watcher is asked, by the child's name
abbrev pub split_watch_asked : Draw → Watch
split_watch_asked child = record { coord = drawn 0 1; members = 1 ∷ 2 ∷ []; part = drawn 0 2; old = drawn 0 1; next = record { group = child; members = 2 ∷ [] }; by = 1 }

-- the entries of the split: the first one is given up, its watcher's late Yes has no effect, and its name is not taken again
abbrev pub split_entries : List LogEntry
split_entries =
    example_entry (drawn 0 1) 1 (Split 1073741824 (drawn 1 1) 1)
    ∷ example_entry (drawn 0 1) 2 (GiveUp (drawn 1 1))
    ∷ example_entry (drawn 0 2) 1 (Watched (drawn 1 1) (split_watch_asked (drawn 1 1)))
    ∷ example_entry (drawn 0 1) 3 (RecordWatch (drawn 1 1) Cast.Yes 3)
    ∷ example_entry (drawn 0 2) 2 (Finish (drawn 1 1) Abort)
    ∷ example_entry (drawn 0 1) 4 (Split 1073741824 (drawn 1 1) 1)
    ∷ example_entry (drawn 0 1) 5 (Split 1073741824 (drawn 1 2) 1)
    ∷ example_entry (drawn 0 2) 3 (Watched (drawn 1 2) (split_watch_asked (drawn 1 2)))
    ∷ example_entry (drawn 0 1) 6 (RecordWatch (drawn 1 2) Cast.Yes 3)
    ∷ example_entry (drawn 0 2) 4 (Finish (drawn 1 2) Divided)
    ∷ []

-- ---- both

-- a list is allowed from a start with groups in place, and leaves this ring
pub record IsExample (bases : List Base) (entries : List LogEntry) (ring : List Cut) : Type 0 where
  pub start : BeginInPlace sources bases
  pub allowed : AreAllowed sources (first_recorded bases) entries
  pub after : (world_of bases entries).ring ≡ ring

-- the list of the merge is allowed, and leaves a ring of two ranges
abbrev pub MergeIsAllowed : Type 0
MergeIsAllowed = IsExample merge_bases merge_entries (ring_cut_of 0 1728053248 (drawn 0 1) ∷ ring_cut_of 1728053248 2566914048 (drawn 0 3) ∷ [])

-- the list of the split is allowed, and leaves a ring of three ranges
abbrev pub SplitIsAllowed : Type 0
SplitIsAllowed = IsExample split_bases split_entries (ring_cut_of 0 1073741824 (drawn 0 1) ∷ ring_cut_of 1073741824 1073741824 (drawn 1 2) ∷ ring_cut_of 2147483648 2147483648 (drawn 0 2) ∷ [])
