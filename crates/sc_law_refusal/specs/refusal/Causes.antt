-- Why a replica refuses what it is asked: each refusal by its cause, in the state that was executed when the refusal was made. One step may execute several entries.
use Rattle.std.specs.FinMap.{get}
use Rattle.std.specs.Prelude.{◌≡◌, ℕ, ◌+◌, ◌<◌, ◌≤◌, Bool, true, false, List, [], ◌∷◌, ◌++◌, filter, length, map, Option, None, Some, ◌⊎◌}
use Rattle.sc_base.specs.Definitions.{Among, Each, Drawer, client_actor}
use Rattle.sc_node_table.specs.Values.{Draw, Noted, Op, Input, Got, Body, Command, Call, GiveUp, Base, Coordinating, OrderLine, Heard, AnswerBody, Value, NotLeader, NotMine, Gone, Stale, Mail, MailBody, Request, Answer, Prepare, Promise, Accept, Accepted, Nack, Learn, Ask, Install, TxPrepare, TxVote, TxOutcome, TxElsewhere, TxWatch, TxWatched, Told}
use Rattle.sc_actor.specs.declared.rows.Input.TheVariants.{Tick, Go, Told as OrderInput}
use Rattle.sc_words.specs.ideal.IdealDefinitions.{key_of, holds_key}
use Rattle.sc_group_table.specs.machine.MachineDefinitions.{Group, state_after, applied}
use Rattle.sc_words.specs.paxos.PaxosDefinitions.{LogState, next_of, log_cut}
use Rattle.sc_node_table.specs.declared.ReplicaInput.{ReplicaInput}
use Rattle.sc_node_table.specs.declared.ReplicaInput.TheVariants as Given
use Rattle.sc_node_table.specs.NodeDefinitions.{has_act, is_giving_up, answer_of, with_entry, answered, admits_requests, patience, ReplicaState, Place, floor_of, name_of, next, flying, listed, settled, stepped, same_command}

-- ---- what was asked

-- a replica holds a command: it is queued, its leader has it in flight or counted, or it was reported to its leader
abbrev pub HoldsCommand : ReplicaState → Command → Type 0
HoldsCommand r command =
    Among command r.backlog ⊎ (Among command r.acts ⊎ (Among command (map (λ flight. flight.value) r.leader.flights) ⊎ (Among command (map (λ counted. counted.1) r.ready) ⊎ Among command (map (λ report. report.value) r.leader.reports))))

-- a mail brings a command: a request brings its call, a promise the commands that it reports
abbrev pub IsBroughtBy : MailBody → Command → Type 0
IsBroughtBy (Request group client seq op) command = command ≡ Call client seq op
IsBroughtBy (Promise group ballot reports) command = Among command (map (λ report. report.value) reports)
IsBroughtBy (Answer group seq answer) command = ⊥
IsBroughtBy (Prepare group ballot from_slot) command = ⊥
IsBroughtBy (Accept group ballot slot value) command = ⊥
IsBroughtBy (Accepted group ballot slot) command = ⊥
IsBroughtBy (Nack group promised) command = ⊥
IsBroughtBy (Learn group slot value) command = ⊥
IsBroughtBy (Ask group from_slot) command = ⊥
IsBroughtBy (Install group slot base sets) command = ⊥
IsBroughtBy (TxPrepare tx offer) command = ⊥
IsBroughtBy (TxVote tx coord part vote) command = ⊥
IsBroughtBy (TxOutcome tx part outcome) command = ⊥
IsBroughtBy (TxElsewhere tx coord hint) command = ⊥
IsBroughtBy (TxWatch tx watch) command = ⊥
IsBroughtBy (TxWatched tx coord part vote) command = ⊥
IsBroughtBy (Told order result) command = ⊥

-- an input brings the commands that its mail brings
abbrev pub IsBrought : Input Mail OrderLine → Command → Type 0
IsBrought (Got mail) command = IsBroughtBy mail.body command
IsBrought Tick command = ⊥
IsBrought Go command = ⊥
IsBrought (OrderInput line) command = ⊥

-- a replica was asked a command: it holds it, or its input brings it
abbrev pub IsHeldOrBrought : ReplicaState → Input Mail OrderLine → Command → Type 0
IsHeldOrBrought r input command = HoldsCommand r command ⊎ IsBrought input command

-- ---- what was executed

-- the log with one more entry, cut at the floor
abbrev pub log_with : LogState Command → Command → LogState Command
log_with log command = log_cut (floor_of (next_of log)) (with_entry command log)

-- the log after these entries, cut at the floor after each
abbrev pub log_after : LogState Command → List Command → LogState Command
log_after log [] = log
log_after log (command ∷ commands) = log_after (log_with log command) commands

-- a replica has executed these entries and no others
pub record HasExecuted (r after : ReplicaState) (entries : List Command) : Type 0 where
  pub group : after.group ≡ state_after r.group entries
  pub log : after.log ≡ log_after r.log entries

-- the command that a mail says was chosen, if it says so
abbrev pub taught_by : MailBody → Option Command
taught_by (Learn group slot command) = Some command
taught_by (Request group client seq op) = None
taught_by (Answer group seq answer) = None
taught_by (Prepare group ballot from_slot) = None
taught_by (Promise group ballot reports) = None
taught_by (Accept group ballot slot value) = None
taught_by (Accepted group ballot slot) = None
taught_by (Nack group promised) = None
taught_by (Ask group from_slot) = None
taught_by (Install group slot base sets) = None
taught_by (TxPrepare tx offer) = None
taught_by (TxVote tx coord part vote) = None
taught_by (TxOutcome tx part outcome) = None
taught_by (TxElsewhere tx coord hint) = None
taught_by (TxWatch tx watch) = None
taught_by (TxWatched tx coord part vote) = None
taught_by (Told order result) = None

-- the command that an input says was chosen, if it says so
abbrev pub taught : Input Mail OrderLine → Option Command
taught (Got mail) = taught_by mail.body
taught Tick = None
taught Go = None
taught (OrderInput line) = None

-- a step executes the command that its input teaches, and then others that it counted; or nothing
abbrev pub LearnsFirst : Input Mail OrderLine → List Command → List Command → Type 0
LearnsFirst input learnt counted = (learnt ≡ listed (taught input)) ⊎ ((learnt ≡ []) × (counted ≡ []))

-- the input brings a state to take over, after which no entry is executed
abbrev pub IsTakenOver : Input Mail OrderLine → Type 0
IsTakenOver input = (mail : Mail) × (input ≡ Got mail) × ((group : Draw) × (slot : ℕ) × (base : Base) × (sets : List (List ℕ)) × (mail.body ≡ Install group slot base sets))

-- ---- why a call is turned away

-- a group in this state does not serve an operation, as the answer says: its arc lacks the key, and no transaction would keep the call waiting; or the group is gone
abbrev pub LacksKey : Group → Op → AnswerBody → Type 0
LacksKey group op (NotMine arc succ) =
    (group.core.gone ≡ None) × (admits_requests group.core.lock ≡ true) × (holds_key group.core.arc (key_of op) ≡ false) × (arc ≡ group.core.arc) × (succ ≡ group.core.succ)
LacksKey group op (Gone into) = group.core.gone ≡ Some into
LacksKey group op (Stale last) = ⊥
LacksKey group op (NotLeader hint) = ⊥
LacksKey group op (Value reply) = ⊥

-- a group in this state refuses a call as the answer says: it does not serve the operation, or its table holds a greater number of the client, which the answer carries
abbrev pub RefusesCall : Group → ℕ → ℕ → Op → AnswerBody → Type 0
RefusesCall group client seq op (Stale last) = (noted : Noted) × (get group.clients client ≡ Some noted) × (noted.seq ≡ last) × (seq < last)
RefusesCall group client seq op (NotMine arc succ) = LacksKey group op (NotMine arc succ)
RefusesCall group client seq op (Gone into) = LacksKey group op (Gone into)
RefusesCall group client seq op (NotLeader hint) = ⊥
RefusesCall group client seq op (Value reply) = ⊥

-- a call among the entries is refused by the state that its entry met
pub record IsRefusedAtEntry (group : Group) (entries : List Command) (client seq : ℕ) (op : Op) (answer : AnswerBody) : Type 0 where
  pub prefix : List Command
  pub rest : List Command
  pub are : entries ≡ prefix ++ Call client seq op ∷ rest
  pub refuses : RefusesCall (state_after group prefix) client seq op answer

-- an answer to an executed call is a reply, or a refusal by the state that the call's entry met; it is never NotLeader
abbrev pub HasCauseAtEntry : Group → List Command → ℕ → ℕ → Op → AnswerBody → Type 0
HasCauseAtEntry group entries client seq op (Value reply) = Unit {0}
HasCauseAtEntry group entries client seq op (NotLeader hint) = ⊥
HasCauseAtEntry group entries client seq op (NotMine arc succ) = IsRefusedAtEntry group entries client seq op (NotMine arc succ)
HasCauseAtEntry group entries client seq op (Gone into) = IsRefusedAtEntry group entries client seq op (Gone into)
HasCauseAtEntry group entries client seq op (Stale last) = IsRefusedAtEntry group entries client seq op (Stale last)

-- a replica that ran was stopped by a state that it took over: its queue of requests is empty, and it was elected anew, in a round above all that it had seen
pub record WasStopped (r : ReplicaState) (input : Input Mail OrderLine) (after : ReplicaState) : Type 0 where
  pub ran : r.running ≡ true
  pub over : IsTakenOver input
  pub empty : after.backlog ≡ []
  pub anew : r.top.round < after.leader.ballot.round

-- a replica does not run after a step, or was stopped in it
abbrev pub LeadsNoMore : ReplicaState → Input Mail OrderLine → ReplicaState → Type 0
LeadsNoMore r input after = (after.running ≡ false) ⊎ WasStopped r input after

-- the cause of an answer to a call that was not executed: for NotMine and Gone the state that the step leaves, for NotLeader that the replica leads no more; it is no reply and never Stale
abbrev pub HasCauseAfter : ReplicaState → Input Mail OrderLine → ReplicaState → Op → AnswerBody → Type 0
HasCauseAfter r input after op (Value reply) = ⊥
HasCauseAfter r input after op (NotLeader hint) = LeadsNoMore r input after
HasCauseAfter r input after op (NotMine arc succ) = LacksKey after.group op (NotMine arc succ)
HasCauseAfter r input after op (Gone into) = LacksKey after.group op (Gone into)
HasCauseAfter r input after op (Stale last) = ⊥

-- an answer is of the replica's own group, to a call that was asked, at the call's client, and has a cause
pub record AnswersCall (r : ReplicaState) (input : Input Mail OrderLine) (HasCause : ℕ → ℕ → Op → AnswerBody → Type 0) (to : ℕ) (group : Draw) (seq : ℕ) (answer : AnswerBody) : Type 0 where
  pub own : group ≡ name_of r
  pub client : ℕ
  pub op : Op
  pub receiver : to ≡ client_actor client
  pub was_asked : IsHeldOrBrought r input (Call client seq op)
  pub cause : HasCause client seq op answer

-- a statement of the answer that a mail brings, if it brings one
abbrev pub IfAnswer : (Draw → ℕ → AnswerBody → Type 0) → MailBody → Type 0
IfAnswer Fact (Answer group seq answer) = Fact group seq answer
IfAnswer Fact (Request group client seq op) = Unit {0}
IfAnswer Fact (Prepare group ballot from_slot) = Unit {0}
IfAnswer Fact (Promise group ballot reports) = Unit {0}
IfAnswer Fact (Accept group ballot slot value) = Unit {0}
IfAnswer Fact (Accepted group ballot slot) = Unit {0}
IfAnswer Fact (Nack group promised) = Unit {0}
IfAnswer Fact (Learn group slot value) = Unit {0}
IfAnswer Fact (Ask group from_slot) = Unit {0}
IfAnswer Fact (Install group slot base sets) = Unit {0}
IfAnswer Fact (TxPrepare tx offer) = Unit {0}
IfAnswer Fact (TxVote tx coord part vote) = Unit {0}
IfAnswer Fact (TxOutcome tx part outcome) = Unit {0}
IfAnswer Fact (TxElsewhere tx coord hint) = Unit {0}
IfAnswer Fact (TxWatch tx watch) = Unit {0}
IfAnswer Fact (TxWatched tx coord part vote) = Unit {0}
IfAnswer Fact (Told order result) = Unit {0}

-- each answer among these mails is of the replica's own group, to a call that was asked, at the call's client, and has a cause
abbrev pub AnswerCalls : ReplicaState → Input Mail OrderLine → (ℕ → ℕ → Op → AnswerBody → Type 0) → List Mail → Type 0
AnswerCalls r input HasCause mails = Each (λ (mail : Mail). IfAnswer (λ group seq answer. AnswersCall r input HasCause mail.to group seq answer) mail.body) mails

-- ---- the answers to executed calls

-- whether a mail is an answer
abbrev pub is_answer : MailBody → Bool
is_answer (Answer group seq answer) = true
is_answer (Request group client seq op) = false
is_answer (Prepare group ballot from_slot) = false
is_answer (Promise group ballot reports) = false
is_answer (Accept group ballot slot value) = false
is_answer (Accepted group ballot slot) = false
is_answer (Nack group promised) = false
is_answer (Learn group slot command) = false
is_answer (Ask group from_slot) = false
is_answer (Install group slot base sets) = false
is_answer (TxPrepare tx offer) = false
is_answer (TxVote tx coord part vote) = false
is_answer (TxOutcome tx part outcome) = false
is_answer (TxElsewhere tx coord hint) = false
is_answer (TxWatch tx watch) = false
is_answer (TxWatched tx coord part vote) = false
is_answer (Told order result) = false

-- the answers among mails, in their order
abbrev pub answers_in : List Mail → List Mail
answers_in mails = filter (λ (mail : Mail). is_answer mail.body) mails

-- the answer to an entry by its effect, if the entry is a call and does not go back to the queue
abbrev pub effect_answers : ℕ → Draw → Option AnswerBody → Command → List Mail
effect_answers me name None command = []
effect_answers me name (Some answer) command = answered me name answer command []

-- the answers to these entries, one after another, each by its effect on the state that it meets
abbrev pub entry_answers : ℕ → Draw → Group → List Command → List Mail
entry_answers me name group [] = []
entry_answers me name group (command ∷ commands) = effect_answers me name (answer_of (applied group command).1) command ++ entry_answers me name (applied group command).0 commands

-- the answers of a step, in their order: one for each call that it executed as counted, and then those to calls that it did not execute
pub record AnswersInTurn (r : ReplicaState) (input : Input Mail OrderLine) (after : ReplicaState) (group : Group) (counted : List Command) (mails : List Mail) : Type 0 where
  pub others : List Mail
  pub are : answers_in mails ≡ entry_answers r.me (name_of r) group counted ++ others
  pub at_entries : AnswerCalls r input (HasCauseAtEntry group counted) (entry_answers r.me (name_of r) group counted)
  pub afterwards : AnswerCalls r input (λ client seq op answer. HasCauseAfter r input after op answer) others

-- ---- when a coordinator gives up

-- the number of queued GiveUp commands of a transaction
abbrev pub ends_queued : Draw → List Command → ℕ
ends_queued tx acts = length (filter (is_giving_up tx) acts)

-- a settled coordinator gives up at a tick: with this tick it has counted at least `patience` ticks, and no GiveUp of the transaction is queued, in flight or ready
pub record IsImpatient (ticks : ℕ) (r : ReplicaState) (input : Input Mail OrderLine) (tx : Draw) : Type 0 where
  pub tick : input ≡ Tick
  pub leads : settled r ≡ true
  pub body : Body
  pub order : ℕ
  pub heard : Option Heard
  pub locked : r.group.core.lock ≡ Coordinating tx body order heard
  pub long : patience ≤ ticks + 1
  pub none : has_act (GiveUp tx) r ≡ false

-- a command goes back from a flight at the next slot, where another command was learnt
pub record LostItsSlot (r : ReplicaState) (input : Input Mail OrderLine) (command : Command) : Type 0 where
  pub mail : Mail
  pub brought : input ≡ Got mail
  pub group : Draw
  pub slot : ℕ
  pub learnt : Command
  pub body : mail.body ≡ Learn group slot learnt
  pub flies : flying r (next r) ≡ Some command
  pub is_next : slot ≡ next r
  pub other : same_command command learnt ≡ false

-- at most this number of GiveUp commands of a transaction may be queued: as many as before, or one more, which a tick queues by `IsImpatient` or which goes back from a flight
abbrev pub MayGiveUp : ℕ → ReplicaState → Input Mail OrderLine → Draw → ℕ → Type 0
MayGiveUp ticks r input tx count = (count ≤ ends_queued tx r.acts) ⊎ ((count ≤ ends_queued tx r.acts + 1) × (IsImpatient ticks r input tx ⊎ LostItsSlot r input (GiveUp tx)))

-- ---- the laws

-- a step of a replica executes what it is taught and what it counted, unless it takes over a state; each of its answers is to a call that was asked and has its cause; and each transaction has at most as many queued GiveUp commands after it as may be
pub record StepHasCauses (r : ReplicaState) (input : Input Mail OrderLine) (step : Place) : Type 0 where
  pub learnt : List Command
  pub counted : List Command
  pub learns : LearnsFirst input learnt counted
  pub executed : HasExecuted r step.0 (learnt ++ counted) ⊎ ((learnt ≡ []) × (counted ≡ []) × IsTakenOver input)
  pub answers : AnswersInTurn r input step.0 (state_after r.group learnt) counted step.1
  pub acts : (tx : Draw) → MayGiveUp r.waits r input tx (ends_queued tx step.0.acts)

-- the input of a node for the input of one of its replicas
abbrev pub at_node : ReplicaInput → Input Mail OrderLine
at_node (Given.Got mail) = Got mail
at_node Given.Tick = Tick
at_node (Given.Told line) = OrderInput line

-- every step of a replica of a node has causes; nodes are numbered from 1
abbrev pub StepsHaveCauses : Type 0
StepsHaveCauses = (on : Bool) (drawer : Drawer) (r : ReplicaState) (input : ReplicaInput) → 1 ≤ r.me → StepHasCauses r (at_node input) (stepped on drawer input (r, [])).0

-- a mail is an answer NotLeader, which names another leader or none
abbrev pub IsNotLeader : MailBody → Type 0
IsNotLeader body = (group : Draw) × (seq : ℕ) × (hint : Option ℕ) × (body ≡ Answer group seq (NotLeader hint))

-- a replica that runs never answers NotLeader in the step that brings it a request
abbrev pub RunningReplicasTakeRequests : Type 0
RunningReplicasTakeRequests = (on : Bool) (drawer : Drawer) (r : ReplicaState) (from : ℕ) (to : ℕ) (group : Draw) (client seq : ℕ) (op : Op) → r.running ≡ true
    → Each (λ (mail : Mail). IsNotLeader mail.body → ⊥) (stepped on drawer (Given.Got (record { from = from; to = to; body = Request group client seq op })) (r, [])).0.1
