-- What a replica's state and its mail are to an order: the bond of its group, the work at it, and the errands.
use Rattle.std.specs.Prelude.{ℕ, Bool, true, false, List, [], ◌∷◌, ◌++◌, if◌then◌else◌, Option, Some, None}
use Rattle.sc_base.specs.Definitions.{same_draw}
use Rattle.sc_node_table.specs.Values.{Draw, Body, Command, Noop, Call, Join, Leave, Split, Begin, Prepared, RecordVote, GiveUp, Finish, Watched, RecordWatch, Core, Lock, Free, Coordinating, Promised, Watching, Heard, Past, Vote, Mail, MailBody, Request, Answer, Prepare, Promise, Accept, Accepted, Nack, Learn, Ask, Install, TxPrepare, TxVote, TxOutcome, TxElsewhere, TxWatch, TxWatched, Told, Flight}
use Rattle.sc_words.specs.declared.commands.bodies.Body.TheVariants as At
use Rattle.sc_words.specs.declared.commands.votes.Past.TheVariants as Cast
use Rattle.sc_words.specs.declared.commands.votes.Vote.TheVariants as Says
use Rattle.sc_node_table.specs.NodeDefinitions.{asked_link, ReplicaState, listed}
use Rattle.sc_live_steps.specs.orders.Scenes.{Turn, First, Lone, Next, Bond, Unbound, Asking, Bound, Errand, Question, Elsewhere, Reply, Result, Work, Changes, Opens, Answers, Records, GivesUp, Ends}

-- ---- the bond of a group

-- Whom a merge, repart or migrate asks, by what its coordinator has heard: the participant first, then the watcher.
abbrev pub turn_after : Core → Option Heard → Turn
turn_after core None = First
turn_after core (Some heard) = Next core.succ.group heard.by

-- Whom a transaction with this body asks, by what its coordinator has heard; a split asks its watcher alone.
abbrev pub turn_of : Core → Body → Option Heard → Turn
turn_of core At.Merge heard = turn_after core heard
turn_of core (At.Repart at) heard = turn_after core heard
turn_of core (At.Migrate node) heard = turn_after core heard
turn_of core (At.Split at child) heard = Lone

-- The bond of a group with this lock.
abbrev pub bond_in : Lock → Core → Bond
bond_in Free core = Unbound
bond_in (Coordinating tx body order heard) core = Asking tx (asked_link core body heard).group (turn_of core body heard)
bond_in (Promised tx offer) core = Bound tx
bond_in (Watching tx watch) core = Bound tx

-- The bond of a group, by its lock.
abbrev pub bond_of : Core → Bond
bond_of core = bond_in core.lock core

-- ---- the work at a leader

-- Whether a vote is a Yes.
abbrev pub is_yes : Vote → Bool
is_yes (Says.Yes frozen) = true
is_yes (Says.No why) = false

-- Whether a watcher's vote is a Yes.
abbrev pub is_cast_yes : Past → Bool
is_cast_yes Cast.Yes = true
is_cast_yes (Cast.No why) = false
is_cast_yes Cast.Ended = false

-- The work that a command is to an order; none for a filler (`Noop`) and a call.
abbrev pub work_by : Command → Option Work
work_by Noop = None
work_by (Call client seq op) = None
work_by (Join node order) = Some Changes
work_by (Leave node order) = Some Changes
work_by (Split at child order) = Some (Opens child)
work_by (Begin tx body order) = Some (Opens tx)
work_by (Prepared tx offer) = Some (Answers tx offer.coord false offer.by)
work_by (RecordVote tx vote by) = Some (Records tx false (is_yes vote) by)
work_by (GiveUp tx) = Some (GivesUp tx)
work_by (Finish tx outcome) = Some (Ends tx)
work_by (Watched tx watch) = Some (Answers tx watch.coord true watch.by)
work_by (RecordWatch tx vote by) = Some (Records tx true (is_cast_yes vote) by)

-- The work of these commands.
abbrev pub works_in : List Command → List Work
works_in [] = []
works_in (command ∷ commands) = listed (work_by command) ++ works_in commands

-- The work of what is in flight.
abbrev pub works_flying : List (Flight Command) → List Work
works_flying [] = []
works_flying (flight ∷ flights) = listed (work_by flight.value) ++ works_flying flights

-- The work of what is ready.
abbrev pub works_ready : List (ℕ × Command) → List Work
works_ready [] = []
works_ready (entry ∷ ready) = listed (work_by entry.1) ++ works_ready ready

-- The work of all commands that wait, are in flight or are ready at a replica.
abbrev pub works : ReplicaState → List Work
works r = works_in r.acts ++ (works_in r.backlog ++ (works_flying r.leader.flights ++ works_ready r.ready))

-- ---- the errands of mail

-- The errand that a mail is, by its sender, receiver and body, and the group that it is for; none for mail of no transaction.
abbrev pub errand_by : ℕ → ℕ → MailBody → Option (Draw × Errand)
errand_by from to (TxPrepare tx offer) = Some (offer.part, Question tx offer.coord false offer.by to)
errand_by from to (TxWatch tx watch) = Some (watch.part, Question tx watch.coord true watch.by to)
errand_by from to (TxElsewhere tx coord hint) = Some (coord, Elsewhere tx to)
errand_by from to (TxVote tx coord part vote) = Some (coord, Reply tx false (is_yes vote) from to)
errand_by from to (TxWatched tx coord part vote) = Some (coord, Reply tx true (is_cast_yes vote) from to)
errand_by from to (TxOutcome tx part outcome) = Some (part, Result tx to)
errand_by from to (Request group client seq op) = None
errand_by from to (Answer group seq answer) = None
errand_by from to (Prepare group ballot from_slot) = None
errand_by from to (Promise group ballot reports) = None
errand_by from to (Accept group ballot slot command) = None
errand_by from to (Accepted group ballot slot) = None
errand_by from to (Nack group promised) = None
errand_by from to (Learn group slot command) = None
errand_by from to (Ask group from_slot) = None
errand_by from to (Install group slot base sets) = None
errand_by from to (Told order result) = None

-- The errand, if it is for this group.
abbrev pub errand_for : Draw → Option (Draw × Errand) → List Errand
errand_for group None = []
errand_for group (Some errand) = if same_draw errand.0 group then errand.1 ∷ [] else []

-- The errands of these mails for a group, in the order of the mails.
abbrev pub errands_for : Draw → List Mail → List Errand
errands_for group [] = []
errands_for group (mail ∷ mails) = errand_for group (errand_by mail.from mail.to mail.body) ++ errands_for group mails
