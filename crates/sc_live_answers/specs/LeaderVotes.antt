-- What a vote finds at the leader, by the one command that is in flight there.
use Rattle.std.specs.Prelude.{List, None, Some, [], false, true, ℕ, ◌∷◌, ◌≡◌, ◌⊎◌}
use Rattle.sc_node_table.specs.Values.{Seat, Ballot, Draw, Command, Begin, Call, Finish, GiveUp, Join, Leave, Noop, Prepared, RecordVote, RecordWatch, Split, Watched, Base, Outcome, Mail, Accepted}
use Rattle.sc_base.specs.Definitions.{Each}
use Rattle.sc_live_answers.specs.FollowerMail.{IsHere}
use Rattle.sc_live_journals.specs.groups.GroupDefinitions.{IsSlotKept}
use Rattle.sc_live_steps.specs.calm.CalmDefinitions.{Rows}
use Rattle.sc_live_steps.specs.orders.OrderDefinitions.{IsBegun, bond_of, Answers, Asking, Bond, Bound, Changes, Ends, First, GivesUp, Lone, Next, Opens, Records, Scene, Turn, Unbound, Work, is_watch, IsUnderWay, IsVote}
use Rattle.sc_live_journals.specs.scenes.SceneDefinitions.{StaysIn, FindsFlight, IsWork, scene_at}
use Rattle.sc_words.specs.commands.CommandDefinitions.{is_alone, decided_in, is_changed}
use Rattle.sc_group_table.specs.machine.MachineDefinitions.{Group, applied, has_voted, watch_vote_of}
use Rattle.sc_node_table.specs.NodeDefinitions.{NodeState, ReplicaState, before_of}
use Rattle.sc_meaning.specs.sound.SoundDefinitions.{Player}
use Rattle.sc_words.specs.declared.commands.votes.Vote.TheVariants as Says

-- only work of an order is in flight or ready at a replica: no request of a client and no filler
pub record IsOrdersAlone (r : ReplicaState) : Type 0 where
  pub flights : Each (λ flight. IsWork flight.value) r.leader.flights
  pub ready : Each (λ entry. IsWork entry.1) r.ready

-- what a group is bound by whose leader has this work: nothing, where it was given an order or weighs a question; as coordinator, where it records a vote; and by its own Yes, where it carries out an outcome
abbrev pub WorkExpects : Work → Bond → Type 0
WorkExpects Changes bond = bond ≡ Unbound
WorkExpects (Opens tx) bond = bond ≡ Unbound
WorkExpects (Answers tx coord watch by) bond = bond ≡ Unbound
WorkExpects (Records tx watch agreed by) bond = (asked : Draw) × (turn : Turn) × (bond ≡ Asking tx asked turn) × (is_watch turn ≡ watch) × IsVote turn agreed
WorkExpects (GivesUp tx) bond = ⊥
WorkExpects (Ends tx) bond = bond ≡ Bound tx

-- at each stage each group's bond and work are as `WorkExpects` says
abbrev pub StagesExpectWork : Type 0
StagesExpectWork = (now : Scene) (group : Draw) (work : Work) → IsUnderWay now → (now.at group).work ≡ work ∷ [] → WorkExpects work (now.at group).bond

-- by this entry the group asks another group, and its leader stays a member
abbrev pub AsksAnother : Command → ℕ → Group → Draw → Type 0
AsksAnother command me group asked = StaysIn command me group × (asked ≡ group.core.id → ⊥)

-- what an entry of an order has to be: one that begins a transaction asks another group; one that votes has not voted before, a watcher says Yes, and the leader stays; a Yes that is recorded decides, or asks another watcher; a watcher's vote decides; and an outcome can be carried out
abbrev pub IsTrueEntry : ℕ → Group → Command → Type 0
IsTrueEntry me group (Split at child order) = is_alone group.core ≡ false → is_changed (applied group (Split at child order)).1 ≡ true → AsksAnother (Split at child order) me group group.core.succ.group
IsTrueEntry me group (Begin tx body order) = is_changed (applied group (Begin tx body order)).1 ≡ true → IsBegun body × AsksAnother (Begin tx body order) me group group.core.succ.group
IsTrueEntry me group (Prepared tx offer) = (has_voted group.core tx ≡ false) × StaysIn (Prepared tx offer) me group
IsTrueEntry me group (Watched tx watch) = (has_voted group.core tx ≡ false) × ((watch_vote_of group.core watch ≡ None) × StaysIn (Watched tx watch) me group)
IsTrueEntry me group (RecordVote tx (Says.No why) by) = Unit {0}
IsTrueEntry me group (RecordVote tx (Says.Yes frozen) by) =
    ((outcome : Outcome) × (decided_in (applied group (RecordVote tx (Says.Yes frozen) by)).1 ≡ Some outcome))
    ⊎ ((is_changed (applied group (RecordVote tx (Says.Yes frozen) by)).1 ≡ true)
    × (AsksAnother (RecordVote tx (Says.Yes frozen) by) me group frozen.succ.group × ((asked : Draw) → bond_of group.core ≡ Asking tx asked First → frozen.succ.group ≡ asked → ⊥)))
IsTrueEntry me group (RecordWatch tx vote by) =
    ((asked : Draw) (turn : Turn) → bond_of group.core ≡ Asking tx asked turn → (turn ≡ Lone → (before_of group.core).heard ≡ None) × ((part : Draw) (host : ℕ) → turn ≡ Next part host → part ≡ asked → ⊥))
    × ((outcome : Outcome) × (decided_in (applied group (RecordWatch tx vote by)).1 ≡ Some outcome))
IsTrueEntry me group (Finish tx outcome) = (done : Outcome) × (decided_in (applied group (Finish tx outcome)).1 ≡ Some done)
IsTrueEntry me group (Join node order) = Unit {0}
IsTrueEntry me group (Leave node order) = Unit {0}
IsTrueEntry me group (GiveUp tx) = Unit {0}
IsTrueEntry me group Noop = Unit {0}
IsTrueEntry me group (Call client seq op) = Unit {0}

-- while an order is under way a vote finds at the leader no command in flight at its slot, or the one command of a kind of entry that is in flight alone, where only work is in flight and all of it is true
abbrev pub VotesAreFound : Type 0
VotesAreFound =
    (words : ℕ → ℕ → ℕ × ℕ) (births : List (Seat Player)) (rows : Rows) (seat : Seat Player) (number : ℕ) (mail : Mail) (base : Base) (node : NodeState) (r : ReplicaState) (named : Draw) (ballot : Ballot) (slot : ℕ)
    → IsHere words births rows seat number mail base node r → r.running ≡ true → mail.body ≡ Accepted named ballot slot → IsUnderWay (scene_at births rows) → IsOrdersAlone r → IsSlotKept r
    → Each (λ flight. IsTrueEntry r.me r.group flight.value) r.leader.flights → FindsFlight births rows seat number mail base.core.id r slot
