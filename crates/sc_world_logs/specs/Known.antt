-- What code keeps of a group from rows: its decided log, and what the log is computed from.
use Rattle.std.specs.Prelude.{◌≡◌, ℕ, true, ◌+◌, ◌-◌, ◌<◌, List, ◌++◌, length, take, slice_get, Option, Some, None}
use Rattle.std.specs.Ordering.{nat_cmp}
use Rattle.std.specs.BTreeMap.{get_by}
use Rattle.sc_base.specs.declared.names.Draw.{Draw}
use Rattle.sc_words.specs.declared.commands.commands.Command.{Command}
use Rattle.sc_words.specs.declared.commands.cores.Base.{Base}
use Rattle.sc_words.specs.declared.commands.orders.OrderLine.{OrderLine}
use Rattle.sc_mail.specs.declared.bodies.Mail.{Mail}
use Rattle.sc_actor.specs.declared.rows.Row.{Row}
use Rattle.sc_group_table.specs.machine.Group.{Group, group_of}
use Rattle.sc_group_table.specs.machine.Logs.{state_after}
use Rattle.sc_paxos_law.specs.Chosen.{Rule, members_of}
use Rattle.sc_paxos_law.specs.Decided.{chosen_at}
use Rattle.sc_paxos_law.specs.Steps.{Step}
use Rattle.sc_meaning.specs.sound.Players.{as_nodes}
use Rattle.sc_meaning.specs.sound.Accepts.{accepts}
use Rattle.sc_meaning.specs.sound.GroupsOf.{children_of}
use Rattle.sc_meaning.specs.sound.Logs.{rule_of}
use Rattle.sc_world_logs.specs.Acceptances.{steps_of, steps_by}
use Rattle.sc_world_logs.specs.Indexes.{listed_in, IsIndexed}
use Rattle.sc_world_logs.specs.declared.accepting.Acceptance.{Acceptance}
use Rattle.sc_world_logs.specs.declared.known.Known.{Known}
use Rattle.sc_world_logs.specs.declared.known.Taking.{Taking}

-- each entry of a log is what is chosen at its slot
abbrev pub IsChosenSoFar : {V : Type 0} → Rule V → List (Step V) → List V → Type 0
IsChosenSoFar {V} rule h log = (k : ℕ) (value : V) → slice_get log k ≡ Some value → chosen_at (members_of rule log (k + 1)) h (k + 1) ≡ Some value

-- nothing is chosen at the slot after a log
abbrev pub NothingFollows : {V : Type 0} → Rule V → List (Step V) → List V → Type 0
NothingFollows rule h log = chosen_at (members_of rule log (length log + 1)) h (length log + 1) ≡ None

-- what is kept of a group agrees with what was accepted for it
pub record MatchesAccepted (h : List (Step Command)) (base : Base) (kept : ℕ → List Acceptance) (log : List Command) (members : List (List ℕ)) (state behind : Group) : Type 0 where
  -- the acceptances, which are kept by their slots
  pub found : List Acceptance
  pub accepted : steps_of found ≡ h
  pub indexed : IsIndexed kept found
  -- each entry of the log is chosen
  pub chosen : IsChosenSoFar (rule_of as_nodes base) h log
  -- the members of each slot of the log
  pub as_many : length members ≡ length log
  pub members_are : (k : ℕ) → k < length log → slice_get members k ≡ Some (members_of (rule_of as_nodes base) log (k + 1))
  -- the group's state after the log
  pub state_is : state ≡ state_after (group_of base) log
  -- the group's state that gives the members of the next slot
  pub behind_is : behind ≡ state_after (group_of base) (take (length log + 1 - as_nodes.slots) log)

-- the acceptances that are kept of a group, by their slots
abbrev pub kept_of : Known → ℕ → List Acceptance
kept_of known slot = listed_in (λ kept. kept.items) (get_by (nat_cmp slot) known.index)

-- all that is kept of a group agrees with what was accepted for it
abbrev pub Agrees : List (Step Command) → Known → Type 0
Agrees h known = MatchesAccepted h known.base (kept_of known) known.log.items known.members.items known.state known.behind

-- the children that are kept of a group are those that its log creates
abbrev pub KeepsChildren : Known → Type 0
KeepsChildren known = known.children.items ≡ children_of (group_of known.base) known.log.items

-- what is kept of a group is what the rows show of it, with all of its log and all of its children
pub record IsKnown (rows : List (Row Mail OrderLine)) (known : Known) : Type 0 where
  pub agrees : Agrees (accepts known.base.core.id rows) known
  pub children : KeepsChildren known
  pub ends : NothingFollows (rule_of as_nodes known.base) (accepts known.base.core.id rows) known.log.items

-- one row more than before, which accepts this for some group, or nothing
abbrev pub Adds : Option (Draw × Acceptance) → List (Row Mail OrderLine) → List (Row Mail OrderLine) → Type 0
Adds accepted rows after = (group : Draw) → accepts group after ≡ steps_by group accepted ++ accepts group rows

-- what is kept of a group after one row more is what the rows show of it, and its log creates the same children as before
pub record StaysKnown (rows after : List (Row Mail OrderLine)) (known later : Known) : Type 0 where
  pub fact : IsKnown after later
  pub base_is : later.base ≡ known.base
  pub children_are : children_of (group_of later.base) later.log.items ≡ children_of (group_of known.base) known.log.items

-- what is kept of a group after one row more: where it holds, it is what the rows show of the same group; where it is calm, its log creates the same children as before
pub record IsTaken (rows after : List (Row Mail OrderLine)) (taking : Taking) (known later : Known) : Type 0 where
  pub holds : taking.holds ≡ true → IsKnown after later × (later.base ≡ known.base)
  pub calm : taking.calm ≡ true → StaysKnown rows after known later
