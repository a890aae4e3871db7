-- The members of groups are numbers of nodes (`is_node`).
use Rattle.std.specs.Prelude.{◌≡◌, ℕ, true, List}
use Rattle.sc_base.specs.Definitions.{Each, is_member}
use Rattle.sc_node_table.specs.Values.{Command, Noop, Call, Join, Leave, Split, Begin, Prepared, RecordVote, GiveUp, Finish, Watched, RecordWatch, Core, Lock, Free, Coordinating, Promised, Watching, Heard, Outcome, Abort, Merged, Moved, Migrated, Divided, Vote, Yes, MailBody, TxVote, TxOutcome, Base, Draw}
use Rattle.sc_words.specs.declared.commands.votes.Vote.TheVariants.{No}
use Rattle.sc_node_table.specs.NodeDefinitions.{is_node}
use Rattle.sc_meaning.specs.sound.SoundDefinitions.{decided_log, Ahead}
use Rattle.sc_law_entries.specs.logs.LogDefinitions.{Rows}
use Rattle.sc_scenario.specs.declared.scenario.scenarios.Scenario.{Scenario}
use Rattle.sc_live_journals.specs.logs.GroupLogs.{logged_sets, IsGroupOf}
use Rattle.std.specs.Prelude.{Option, Some, None}

-- Each of these numbers is that of a node.
abbrev pub AreNodes : List ℕ → Type 0
AreNodes = Each (λ node. is_node node ≡ true)

-- If the outcome moves a member, its number is that of a node.
abbrev pub MovesNode : Outcome → Type 0
MovesNode (Migrated node) = is_node node ≡ true
MovesNode Abort = Unit {0}
MovesNode (Merged into) = Unit {0}
MovesNode (Moved at gift) = Unit {0}
MovesNode Divided = Unit {0}

-- If the vote is a Yes, the members that it hands over are nodes.
abbrev pub HandsNodes : Vote → Type 0
HandsNodes (Yes frozen) = AreNodes frozen.members
HandsNodes (No why) = Unit {0}

-- The members that the command may bring into the group are nodes.
abbrev pub BringsNodes : Command → Type 0
BringsNodes (Join node order) = is_node node ≡ true
BringsNodes (RecordVote tx vote by) = HandsNodes vote
BringsNodes (Finish tx outcome) = MovesNode outcome
BringsNodes Noop = Unit {0}
BringsNodes (Call client seq op) = Unit {0}
BringsNodes (Leave node order) = Unit {0}
BringsNodes (Split at child order) = Unit {0}
BringsNodes (Begin tx body order) = Unit {0}
BringsNodes (Prepared tx offer) = Unit {0}
BringsNodes (GiveUp tx) = Unit {0}
BringsNodes (Watched tx watch) = Unit {0}
BringsNodes (RecordWatch tx vote by) = Unit {0}

-- The members that a coordinator has heard of its participant, if any, are nodes.
abbrev pub HeardNodes : Option Heard → Type 0
HeardNodes None = Unit {0}
HeardNodes (Some heard) = AreNodes heard.frozen.members

-- The members that a coordinator has heard of, by its lock, are nodes.
abbrev pub LockNodes : Lock → Type 0
LockNodes (Coordinating tx body order heard) = HeardNodes heard
LockNodes Free = Unit {0}
LockNodes (Promised tx offer) = Unit {0}
LockNodes (Watching tx watch) = Unit {0}

-- The members of the group, those that it has heard of, and those that its decisions move are nodes.
abbrev pub HasNodes : Core → Type 0
HasNodes core = AreNodes core.members × LockNodes core.lock × Each (λ (decision : Draw × Outcome). MovesNode decision.1) core.decided

-- The members that the mail of a transaction names are nodes.
abbrev pub SaysNodes : MailBody → Type 0
SaysNodes (TxVote tx coord part vote) = HandsNodes vote
SaysNodes (TxOutcome tx part outcome) = MovesNode outcome
SaysNodes _ = Unit {0}

-- Each group of a lawful journal of a valid scenario begins with `HasNodes`, and `BringsNodes` holds of each entry of its log.
pub record EntriesBringNodes : Type 0 where
  pub begins : (ahead : Ahead) (words : ℕ → ℕ → ℕ × ℕ) (scenario : Scenario) (journal : Rows) (base : Base) → IsGroupOf ahead words scenario journal base → HasNodes base.core
  pub entries : (ahead : Ahead) (words : ℕ → ℕ → ℕ × ℕ) (scenario : Scenario) (journal : Rows) (base : Base) → IsGroupOf ahead words scenario journal base → Each BringsNodes (decided_log ahead base journal)

-- The members of each slot of each group, in a lawful journal of a valid scenario, are nodes.
abbrev pub MembersAreNodes : Type 0
MembersAreNodes = (ahead : Ahead) (words : ℕ → ℕ → ℕ × ℕ) (scenario : Scenario) (journal : Rows) (base : Base) → IsGroupOf ahead words scenario journal base
    → (slot node : ℕ) → is_member (logged_sets ahead base journal slot) node ≡ true → is_node node ≡ true
