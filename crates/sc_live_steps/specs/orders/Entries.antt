-- What the entries of an order make of a group's bond, and which errands (mails of transactions) its leader sends by them.
use Rattle.std.specs.Prelude.{◌≡◌, ℕ, true, false, List, [], ◌∷◌, Option, Some, None, is_none}
use Rattle.sc_node_table.specs.Values.{Draw, Body, Offer, Watch, Command, Join, Leave, Split, Begin, Prepared, RecordVote, Finish, Watched, RecordWatch, Free, Effect, Frozen, No, Outcome}
use Rattle.sc_words.specs.commands.CommandDefinitions.{is_alone, is_changed, decided_in}
use Rattle.sc_words.specs.declared.commands.bodies.Body.TheVariants as At
use Rattle.sc_words.specs.declared.commands.votes.Past.TheVariants as Cast
use Rattle.sc_words.specs.declared.commands.votes.Vote.TheVariants as Says
use Rattle.sc_group_table.specs.machine.MachineDefinitions.{Group, applied, has_voted, vote_of, watch_vote_of}
use Rattle.sc_base.specs.Definitions.{least_of}
use Rattle.sc_node_table.specs.NodeDefinitions.{before_of, went_on}
use Rattle.sc_node_table.specs.declared.Before.{Before}
use Rattle.sc_live_steps.specs.orders.Scenes.{Turn, First, Lone, Next, is_watch, Bond, Unbound, Asking, Bound, Errand, Question, Reply, IsOnly}
use Rattle.sc_live_steps.specs.orders.Stages.{bound_by}
use Rattle.sc_live_steps.specs.orders.OrderStageRows.{results}
use Rattle.sc_live_steps.specs.orders.Parts.{bond_of, errands_for}

-- After a command's effect the group has this bond, and a leader that counted the command sends these errands and no others.
pub record Leaves (bond : Bond) (sent : List (Draw × List Errand)) (command : Command) (me : ℕ) (before : Before) (made : Group × Effect) : Type 0 where
  pub bond_is : bond_of made.0.core ≡ bond
  pub sends : IsOnly [] sent (λ name. errands_for name (went_on me made.0 before made.1 command []))

-- `Leaves` of a command that this group executes.
abbrev pub EntryLeaves : Bond → List (Draw × List Errand) → Command → ℕ → Group → Type 0
EntryLeaves bond sent command me group = Leaves bond sent command me (before_of group.core) (applied group command)

-- The body of a transaction that a `Begin` begins: a merge, a repart or a migrate, but no split.
abbrev pub IsBegun : Body → Type 0
IsBegun At.Merge = Unit {0}
IsBegun (At.Repart at) = Unit {0}
IsBegun (At.Migrate node) = Unit {0}
IsBegun (At.Split at child) = ⊥

-- What orders leave in a group that is free. A join, a leave, a split of a group that is alone in its ring, and an order without effect send nothing.
-- Any other order binds the group and sends a question to its successor.
pub record OrdersLeave : Type 0 where
  pub join : (node order me : ℕ) (group : Group) → group.core.lock ≡ Free → EntryLeaves Unbound [] (Join node order) me group
  pub leave : (node order me : ℕ) (group : Group) → group.core.lock ≡ Free → EntryLeaves Unbound [] (Leave node order) me group
  pub alone : (at : ℕ) (child : Draw) (order me : ℕ) (group : Group) → group.core.lock ≡ Free → is_alone group.core ≡ true → EntryLeaves Unbound [] (Split at child order) me group
  pub split_not : (at : ℕ) (child : Draw) (order me : ℕ) (group : Group) → group.core.lock ≡ Free → is_changed (applied group (Split at child order)).1 ≡ false → EntryLeaves Unbound [] (Split at child order) me group
  pub begin_not : (tx : Draw) (body : Body) (order me : ℕ) (group : Group) → group.core.lock ≡ Free → is_changed (applied group (Begin tx body order)).1 ≡ false → EntryLeaves Unbound [] (Begin tx body order) me group
  pub split : (at : ℕ) (child : Draw) (order me : ℕ) (group : Group) → is_alone group.core ≡ false → is_changed (applied group (Split at child order)).1 ≡ true
      → EntryLeaves (Asking child group.core.succ.group Lone) ((group.core.succ.group, Question child group.core.id true me (least_of group.core.succ.members) ∷ []) ∷ []) (Split at child order) me group
  pub begin : (tx : Draw) (body : Body) (order me : ℕ) (group : Group) → IsBegun body → is_changed (applied group (Begin tx body order)).1 ≡ true
      → EntryLeaves (Asking tx group.core.succ.group First) ((group.core.succ.group, Question tx group.core.id false me (least_of group.core.succ.members) ∷ []) ∷ []) (Begin tx body order) me group

-- What votes leave. `prepared`: a group that is free and has not voted in this transaction votes as its state says; `watched`: a group that has not voted watches, if its state lets it.
pub record VotesLeave : Type 0 where
  pub prepared : (tx : Draw) (offer : Offer) (why : Option No) (me : ℕ) (group : Group) → group.core.lock ≡ Free → has_voted group.core tx ≡ false → vote_of group.core offer ≡ why
      → EntryLeaves (bound_by (is_none why) tx) ((offer.coord, Reply tx false (is_none why) me offer.by ∷ []) ∷ []) (Prepared tx offer) me group
  pub watched : (tx : Draw) (watch : Watch) (me : ℕ) (group : Group) → has_voted group.core tx ≡ false → watch_vote_of group.core watch ≡ None
      → EntryLeaves (bound_by true tx) ((watch.coord, Reply tx true true me watch.by ∷ []) ∷ []) (Watched tx watch) me group

-- What a participant's vote leaves in the coordinator that asked it: a No aborts; a Yes decides, where the plan can be made, or makes the coordinator ask the watcher.
pub record RecordsLeave : Type 0 where
  pub no : (tx asked : Draw) (why : No) (by me : ℕ) (group : Group) → bond_of group.core ≡ Asking tx asked First → EntryLeaves Unbound [] (RecordVote tx (Says.No why) by) me group
  pub decides : (tx asked : Draw) (frozen : Frozen) (outcome : Outcome) (by me : ℕ) (group : Group) → bond_of group.core ≡ Asking tx asked First
      → decided_in (applied group (RecordVote tx (Says.Yes frozen) by)).1 ≡ Some outcome → EntryLeaves Unbound (results tx asked First by) (RecordVote tx (Says.Yes frozen) by) me group
  pub hears : (tx asked : Draw) (frozen : Frozen) (by me : ℕ) (group : Group) → bond_of group.core ≡ Asking tx asked First → is_changed (applied group (RecordVote tx (Says.Yes frozen) by)).1 ≡ true
      → EntryLeaves (Asking tx frozen.succ.group (Next asked by)) ((frozen.succ.group, Question tx group.core.id true me (least_of frozen.succ.members) ∷ []) ∷ []) (RecordVote tx (Says.Yes frozen) by) me group

-- What a watcher's Yes leaves in the coordinator that asked it, where it decides.
-- Premises: of a split no participant was heard, and the watcher of a merge is no participant.
abbrev pub WatchRecordsLeave : Type 0
WatchRecordsLeave =
    (tx asked : Draw) (turn : Turn) (outcome : Outcome) (by me : ℕ) (group : Group) → bond_of group.core ≡ Asking tx asked turn → is_watch turn ≡ true
    → (turn ≡ Lone → (before_of group.core).heard ≡ None) → ((part : Draw) (host : ℕ) → turn ≡ Next part host → part ≡ asked → ⊥)
    → decided_in (applied group (RecordWatch tx Cast.Yes by)).1 ≡ Some outcome → EntryLeaves Unbound (results tx asked turn by) (RecordWatch tx Cast.Yes by) me group

-- A party that is bound in a transaction and executes its outcome is free after it, and sends nothing.
abbrev pub EndsLeave : Type 0
EndsLeave =
    (tx : Draw) (outcome done : Outcome) (me : ℕ) (group : Group) → bond_of group.core ≡ Bound tx → decided_in (applied group (Finish tx outcome)).1 ≡ Some done → EntryLeaves Unbound [] (Finish tx outcome) me group
