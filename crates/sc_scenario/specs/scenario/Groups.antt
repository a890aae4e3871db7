-- The lines of groups, and the records of the groups: group 0.k is that of the k-th line, and the groups are round the circle in this order.
use Rattle.std.specs.Prelude.{ℕ, zero, suc, ◌^◌, ◌+◌, ◌-◌, ◌==◌, ◌||◌, nat_le, Bool, false, List, [], ◌∷◌, ◌++◌, get_or, length, is_none, Option, Some, None, if◌then◌else◌, option_and_then}
use Rattle.std.specs.List.{list_any}
use Rattle.sc_base.specs.Definitions.{most_nodes, Arc, with_member, least_of, add_error}
use Rattle.sc_base.specs.declared.names.Draw.{Draw}
use Rattle.sc_words.specs.declared.commands.cores.Base.{Base}
use Rattle.sc_words.specs.declared.commands.cores.Core.{Core}
use Rattle.sc_words.specs.declared.commands.cores.Lock.TheVariants.{Free}
use Rattle.sc_words.specs.declared.commands.links.Link.{Link}
use Rattle.sc_texts.specs.lines.Definitions.{count_in}
use Rattle.sc_scenario.specs.declared.scenario.drafts.GroupLine.{GroupLine}

-- ---- the nodes of a line

-- the nodes followed by those that these words spell, or None where one spells no node
abbrev pub nodes_with : List ℕ → List (List ℕ) → Option (List ℕ)
nodes_with nodes [] = Some nodes
nodes_with nodes (word ∷ words) = option_and_then (λ node. nodes_with (nodes ++ node ∷ []) words) (count_in most_nodes word)

-- whether a node occurs twice
abbrev pub has_repeat : List ℕ → Bool
has_repeat [] = false
has_repeat (node ∷ nodes) = list_any (λ other. other == node) nodes || has_repeat nodes

-- a set with a node added, if the set has room for it and does not have it already
abbrev pub joined_by : List ℕ → ℕ → List ℕ
joined_by members node = if is_none (add_error members node) then with_member members node else members

-- a set with these nodes added in turn
abbrev pub joined_by_all : List ℕ → List ℕ → List ℕ
joined_by_all members [] = members
joined_by_all members (node ∷ nodes) = joined_by_all (joined_by members node) nodes

-- the set of a node and others
abbrev pub set_of : ℕ → List ℕ → List ℕ
set_of node others = joined_by_all (node ∷ []) others

-- ---- the records of all lines

-- the line at a place, counted from 0
abbrev pub group_at : List GroupLine → ℕ → GroupLine
group_at lines k = get_or lines k (record { lo = 0; members = [] })

-- the name of the group of the line at this place: 0.1, 0.2 and so on
abbrev pub name_at : ℕ → Draw
name_at k = record { node = 0; count = k + 1 }

-- the place after this one, round the circle
abbrev pub place_right : List GroupLine → ℕ → ℕ
place_right lines k = if k + 1 == length lines then 0 else k + 1

-- the place before this one, round the circle
abbrev pub place_left : List GroupLine → ℕ → ℕ
place_left lines k = if k == 0 then length lines - 1 else k - 1

-- the link to the group of the line at this place
abbrev pub link_at : List GroupLine → ℕ → Link
link_at lines k = record { group = name_at k; members = (group_at lines k).members }

-- how far it is round the circle from one position to the next start, which is the whole circle where both are the same
abbrev pub way : ℕ → ℕ → ℕ
way lo next = if nat_le next lo then next + 2 ^ 32 - lo else next - lo

-- the arc of the group of the line at this place, which ends where the next group's begins
abbrev pub arc_at : List GroupLine → ℕ → Arc
arc_at lines k = record { lo = (group_at lines k).lo; len = way (group_at lines k).lo (group_at lines (place_right lines k)).lo }

-- the record of the group of the line at this place, without pairs and clients: it is free, and has decided nothing
abbrev pub core_at : List GroupLine → ℕ → Core
core_at lines k = record {
  id = name_at k;
  first = least_of (group_at lines k).members;
  arc = arc_at lines k;
  members = (group_at lines k).members;
  succ = link_at lines (place_right lines k);
  pred = link_at lines (place_left lines k);
  lock = Free;
  begun = 0;
  decided = [];
  voted = [];
  born = [];
  gone = None;
}

-- the whole record of the group of the line at this place, which has no pairs and knows no clients
abbrev pub base_at : List GroupLine → ℕ → Base
base_at lines k = record { core = core_at lines k; pairs = []; clients = [] }

-- the records of the first k groups
abbrev pub bases_up_to : List GroupLine → ℕ → List Base
bases_up_to lines zero = []
bases_up_to lines (suc k) = bases_up_to lines k ++ base_at lines k ∷ []

-- the records of all groups
abbrev pub bases_of : List GroupLine → List Base
bases_of lines = bases_up_to lines (length lines)

-- ---- a group that has the whole circle

-- the name of group 0.1, which is its own neighbour on both sides
abbrev pub lone_name : Draw
lone_name = record { node = 0; count = 1 }

-- the link of group 0.1 to itself
abbrev pub lone_link : List ℕ → Link
lone_link members = record { group = lone_name; members = members }

-- the record of group 0.1 without pairs and clients: it has the whole circle, is free, and has decided nothing
abbrev pub lone_core : ℕ → List ℕ → Core
lone_core lo members = record {
  id = lone_name;
  first = least_of members;
  arc = record { lo = lo; len = 2 ^ 32 };
  members = members;
  succ = lone_link members;
  pred = lone_link members;
  lock = Free;
  begun = 0;
  decided = [];
  voted = [];
  born = [];
  gone = None;
}

-- the whole record of group 0.1, which has the circle from a position on, and these members
abbrev pub lone_group : ℕ → List ℕ → Base
lone_group lo members = record { core = lone_core lo members; pairs = []; clients = [] }
