-- What leaders have executed of an order since the quiet prefix before it.
use Rattle.std.specs.Prelude.{◌≡◌, ℕ, Bool, true, false, List, [], ◌∷◌, Some, ◌⊎◌}
use Rattle.sc_node_table.specs.Values.{Seat, Draw, Command, Noop, Call, Join, Leave, Split, Begin, Prepared, RecordVote, GiveUp, Finish, Watched, RecordWatch, Flight}
use Rattle.sc_base.specs.Definitions.{Among, Each}
use Rattle.sc_live_steps.specs.orders.OrderDefinitions.{IsBegun, work_by, works, Turn, First, Lone, Next, Work, Opens, Answers, Records, Party, Stage, Still, Ordered, Asks, SentOn, Weighs, Replied, Recorded, Closes, ClosesBoth}
use Rattle.sc_group_table.specs.machine.MachineDefinitions.{state_after, applied}
use Rattle.sc_node_table.specs.NodeDefinitions.{ReplicaState}
use Rattle.sc_meaning.specs.sound.SoundDefinitions.{Player}
use Rattle.sc_live_steps.specs.calm.CalmDefinitions.{Rows}
use Rattle.sc_live_journals.specs.rows.RowDefinitions.{view_at}
use Rattle.sc_live_journals.specs.scenes.SceneDefinitions.{IsThere}

-- an entry that a leader executed of an order: it began a transaction, it recorded its participant's Yes, it promised as a participant, or it voted
pub data Deed : Type 0 where
  Opening : (tx : Draw) → Deed
  Hearing : (tx : Draw) → Deed
  Promising : (tx : Draw) → Deed
  Voting : (tx : Draw) → Deed

-- a Begin starts no split; every other command is allowed
abbrev pub BeginsSo : Command → Type 0
BeginsSo (Begin tx body order) = IsBegun body
BeginsSo Noop = Unit {0}
BeginsSo (Call client seq op) = Unit {0}
BeginsSo (Join node order) = Unit {0}
BeginsSo (Leave node order) = Unit {0}
BeginsSo (Split at child order) = Unit {0}
BeginsSo (Prepared tx offer) = Unit {0}
BeginsSo (RecordVote tx vote by) = Unit {0}
BeginsSo (GiveUp tx) = Unit {0}
BeginsSo (Finish tx outcome) = Unit {0}
BeginsSo (Watched tx watch) = Unit {0}
BeginsSo (RecordWatch tx vote by) = Unit {0}

-- no command in flight begins a split, at a replica that runs of a group that existed in the quiet prefix
abbrev pub FlightsBeginSo : List (Seat Player) → Rows → Rows → Type 0
FlightsBeginSo births quiet rows =
    (name : Draw) (node : ℕ) (r : ReplicaState) → IsThere births quiet name → view_at births rows name node ≡ Some r → r.running ≡ true → Each (λ (flight : Flight Command). BeginsSo flight.value) r.leader.flights

-- the command is an entry of this kind
abbrev pub IsDeed : Deed → Command → Type 0
IsDeed (Opening tx) command = (work_by command ≡ Some (Opens tx)) × BeginsSo command
IsDeed (Hearing tx) command = (by : ℕ) × (work_by command ≡ Some (Records tx false true by))
IsDeed (Promising tx) command = (coord : Draw) × (by : ℕ) × (work_by command ≡ Some (Answers tx coord false by))
IsDeed (Voting tx) command = (coord : Draw) × (watch : Bool) × (by : ℕ) × (work_by command ≡ Some (Answers tx coord watch by))

-- the commands are entries of these kinds, one by one
abbrev pub AreDeeds : List Deed → List Command → Type 0
AreDeeds [] [] = Unit {0}
AreDeeds [] (command ∷ commands) = ⊥
AreDeeds (deed ∷ deeds) [] = ⊥
AreDeeds (deed ∷ deeds) (command ∷ commands) = IsDeed deed command × AreDeeds deeds commands

-- a group that has a part in an order, the node that leads it, and what its leader has executed of the order
pub record Doer : Type 0 where
  pub group : Draw
  pub host : ℕ
  pub deeds : List Deed

-- the group, its leading node and what the leader has executed
abbrev pub doer : Draw → ℕ → List Deed → Doer
doer group host deeds = record { group = group; host = host; deeds = deeds }

-- what the coordinator has executed by this turn: the begin of the transaction, and, once the watcher is asked after the participant, the participant's Yes
abbrev pub opened : Draw → Turn → List Deed
opened tx First = Opening tx ∷ []
opened tx Lone = Opening tx ∷ []
opened tx (Next part host) = Opening tx ∷ Hearing tx ∷ []

-- what the group that was asked in this turn has executed once it has voted
abbrev pub voted : Draw → Turn → List Deed
voted tx First = Promising tx ∷ []
voted tx Lone = Voting tx ∷ []
voted tx (Next part host) = Voting tx ∷ []

-- the participant whose vote is recorded, where the watcher is asked after it
abbrev pub heard_doer : Draw → Turn → List Doer
heard_doer tx First = []
heard_doer tx Lone = []
heard_doer tx (Next part host) = doer part host (Promising tx ∷ []) ∷ []

-- a party that the outcome of a transaction still has to reach
abbrev pub closing_doer : Draw → Party → Doer
closing_doer tx party = doer party.group party.host (Voting tx ∷ [])

-- the groups of a stage at whose leader something is still to come, with what their leaders have executed
abbrev pub doers_of : Stage → List Doer
doers_of Still = []
doers_of (Ordered group chief work) = doer group chief [] ∷ []
doers_of (Asks deal to) = doer deal.coord deal.chief (opened deal.tx deal.turn) ∷ heard_doer deal.tx deal.turn
doers_of (SentOn deal) = doer deal.coord deal.chief (opened deal.tx deal.turn) ∷ heard_doer deal.tx deal.turn
doers_of (Weighs deal host) = doer deal.coord deal.chief (opened deal.tx deal.turn) ∷ doer deal.asked host [] ∷ heard_doer deal.tx deal.turn
doers_of (Replied deal agreed host) = doer deal.coord deal.chief (opened deal.tx deal.turn) ∷ doer deal.asked host (voted deal.tx deal.turn) ∷ heard_doer deal.tx deal.turn
doers_of (Recorded deal agreed host) = doer deal.coord deal.chief (opened deal.tx deal.turn) ∷ doer deal.asked host (voted deal.tx deal.turn) ∷ heard_doer deal.tx deal.turn
doers_of (Closes tx party) = closing_doer tx party ∷ []
doers_of (ClosesBoth tx one two) = closing_doer tx one ∷ closing_doer tx two ∷ []

-- the replica at the node led in the quiet prefix already, and it has executed exactly these entries since
pub record HasDone (births : List (Seat Player)) (quiet rows : Rows) (it : Doer) : Type 0 where
  pub first : ReplicaState
  pub was : view_at births quiet it.group it.host ≡ Some first
  pub led : first.running ≡ true
  pub now : ReplicaState
  pub fact : view_at births rows it.group it.host ≡ Some now
  pub entries : List Command
  pub did : AreDeeds it.deeds entries
  pub group_is : now.group ≡ state_after first.group entries

-- from one replica to a later one a leader either executes nothing, and still has work if it had some, or it executes its one work, which was in flight, and has none then
pub data HasStepped (r after : ReplicaState) : Type 0 where
  Rested : after.group ≡ r.group → (works r ≡ []) ⊎ (works after ≡ [] → ⊥) → HasStepped r after
  Executed : (flight : Flight Command) (work : Work) → Among flight r.leader.flights → works r ≡ work ∷ [] → work_by flight.value ≡ Some work → works after ≡ [] → after.group ≡ (applied r.group flight.value).0 → HasStepped r after
