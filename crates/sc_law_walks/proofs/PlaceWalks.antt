-- What an invariant of a replica together with the mails of its row needs: what holds before a row and after it, that each part of a row keeps it, and that it holds with each mail put behind. Where a part changes the replica and sends what belongs to the change, the two are one part, and the invariant need not hold between. The theorems of the walk carry it through all rows of a replica's table.
use Rattle.std.proofs.Common.{◌≡◌, ℕ, ◌+◌, ◌-◌, ◌<◌, ◌≤◌, nat_le, cond, Bool, true, false, List, [], ◌∷◌, ◌++◌, length, Option, Some, None, sym, subst}
use Rattle.sc_node_table.specs.Values.{Ballot, Draw, Op, Offer, Watch, Command, Noop, Call, GiveUp, Base, Effect, OrderResult, Outcome, Past, Vote, AnswerBody, Mail, MailBody, Request, Answer, Prepare, Promise, Accept, Accepted, Nack, Learn, Ask, Install, TxPrepare, TxVote, TxOutcome, TxElsewhere, TxWatch, TxWatched, Told, Chosen, NotYet, Report}
use Rattle.sc_base.specs.Definitions.{Each, client_actor}
use Rattle.sc_words.specs.declared.paxos.answers.Must.TheVariants.{Value}
use Rattle.sc_group_table.specs.machine.MachineDefinitions.{base_of, applied}
use Rattle.sc_words.specs.paxos.PaxosDefinitions.{IsAtLeast, reports_from, after_promise, after_accept, may_promise, may_accept, new_leader, promise_counted, entry_at, counted, must, below}
use Rattle.sc_node_table.specs.NodeDefinitions.{named, jumped, ReplicaState, Place, Executed, name_of, members, next, slots_ahead, at_slot, with_slot, taken_at, flying, queued_number, without_request, has_act, born_replica, installed_replica, sent, sent_all, open_nodes, stopped, ended, answered, turned_down, offered, entered, announced, before_of, spoken, learnt_to, welcomed, landed}
use Rattle.sc_law_walks.specs.WalkDefinitions.{GoesOn, IsFiledOnMail, IsOrder, IsKept}

-- a replica that ran with the next ballot of its own, and one that runs no longer
abbrev pub elected_replica : ReplicaState → ReplicaState
elected_replica r =
    let ballot : Ballot = record { round = r.top.round + 1; node = r.me } in
    record r { top = ballot; hint = Some r.me; running = true; leader = new_leader ballot (next r); ready = []; waits = 0 }

abbrev pub ended_replica : Option ℕ → ReplicaState → ReplicaState
ended_replica hint r = record r { running = false; leader = new_leader r.leader.ballot (next r); ready = []; acts = []; backlog = []; hint = hint }

-- an election, with the mails that ask the members of the open slots for their promises
abbrev pub elected_place : Place → Place
elected_place (r, mails) = (elected_replica r, sent_all r.me (open_nodes r.sets) (Prepare (name_of r) (record { round = r.top.round + 1; node = r.me }) (next r)) mails)

-- an entry, with all that is told of it and with its slot cleared; whether the replica then still runs, and whom it follows, comes after it
abbrev pub entered_place : Bool → Command → Place → Place
entered_place counted command (r, mails) =
    let effect : Effect = (applied r.group command).1 in
    landed counted (next r) command (welcomed counted (members r) (learnt_to counted (members r) (next r) command (spoken counted (before_of r.group.core) effect command (announced counted effect command (entered command r, mails)))))

-- a report of a ballot, and of a command at a slot, that hold
abbrev pub IsReported : (Ballot → Type 0) → (ℕ → Command → Type 0) → Report Command → Type 0
IsReported Round Entry report = Round report.ballot × Entry report.slot report.value

-- What holds of a replica of the node with the mails of its row, before it elects itself in a row and after; of the ballots, the commands at slots, the slots of votes and the states that the node receives; of a ballot that it is asked to promise, of a command that it learns, and of a slot that it learns before its own.
pub record PlaceFacts : Type 1 where
  pub me : ℕ
  pub Early : Place → Type 0
  pub Late : Place → Type 0
  pub Round : Ballot → Type 0
  pub Entry : ℕ → Command → Type 0
  pub Voted : ℕ → Type 0
  pub State : ℕ → Base → Type 0
  pub Polled : Ballot → Type 0
  pub Learnt : ℕ → Command → Type 0
  pub Behind : ℕ → Type 0

-- ---- what a part of a row keeps, of a replica with the mails of the row: the same in each record of a walk

-- what holds before the row ends holds at its end
abbrev pub EndsRow : (Place → Type 0) → (Place → Type 0) → Type 0
EndsRow Early Late = (place : Place) → Early place → Late place

-- what is ready at the next slot is executed
abbrev pub ExecutesNext : (Place → Type 0) → (Place → Type 0) → (ℕ → Command → Type 0) → Type 0
ExecutesNext Early Late Entry = (command : Command) (r : ReplicaState) (mails : List Mail) → r.running ≡ true → at_slot r.ready (next r) ≡ Some command → Late (r, mails) → Early (r, mails) × Entry (next r) command

-- another leader is followed
abbrev pub Follows : (Place → Type 0) → Type 0
Follows Early = (hint : Option ℕ) (r : ReplicaState) (mails : List Mail) → r.running ≡ false → Early (r, mails) → Early (record r { hint = hint }, mails)

-- a greater ballot is seen, which stops no leader
abbrev pub SeesBallot : (Place → Type 0) → (Ballot → Type 0) → Type 0
SeesBallot Early Round = (ballot : Ballot) (r : ReplicaState) (mails : List Mail) → Round ballot → below r.top ballot ≡ true → GoesOn ballot r → Early (r, mails) → Early (record r { top = ballot }, mails)

-- a vote leaves its slot undecided
abbrev pub CountsVote : (Place → Type 0) → Type 0
CountsVote Early = (from : ℕ) (ballot : Ballot) (slot : ℕ) (set : List ℕ) (count : ℕ) (r : ReplicaState) (mails : List Mail) → r.running ≡ true → (counted from ballot slot set r.leader).0 ≡ NotYet count → Early (r, mails) → Early (record r { leader = (counted from ballot slot set r.leader).1 }, mails)

-- a client's first request is queued, and a later one in its place
abbrev pub QueuesFirst : (Place → Type 0) → Type 0
QueuesFirst Late = (client seq : ℕ) (op : Op) (r : ReplicaState) (mails : List Mail) → r.running ≡ true → queued_number r.backlog client ≡ None → Late (r, mails) → Late (record r { backlog = r.backlog ++ Call client seq op ∷ [] }, mails)

abbrev pub QueuesLater : (Place → Type 0) → Type 0
QueuesLater Late = (client seq other : ℕ) (op : Op) (r : ReplicaState) (mails : List Mail) → r.running ≡ true → queued_number r.backlog client ≡ Some other → nat_le seq other ≡ false → Late (r, mails) → Late (record r { backlog = without_request r.backlog client ++ Call client seq op ∷ [] }, mails)

-- a coordinator waits
abbrev pub WaitsOn : (Place → Type 0) → Type 0
WaitsOn Late = (waits : ℕ) (r : ReplicaState) (mails : List Mail) → Late (r, mails) → Late (record r { waits = waits }, mails)

-- That what holds of the mails of node `me` is kept by each mail to a client, to the desk, and to a party of a transaction.
pub record Talk (me : ℕ) (Q : List Mail → Type 0) : Type 0 where
  pub tells : (number : ℕ) (result : OrderResult) (mails : List Mail) → Q mails → Q (sent me 0 (Told number result) mails)
  pub answers : (client : ℕ) (group : Draw) (seq : ℕ) (answer : AnswerBody) (mails : List Mail) → Q mails → Q (sent me (client_actor client) (Answer group seq answer) mails)
  pub offers : (to : ℕ) (tx : Draw) (offer : Offer) (mails : List Mail) → offer.by ≡ me → Q mails → Q (sent me to (TxPrepare tx offer) mails)
  pub watches : (to : ℕ) (tx : Draw) (watch : Watch) (mails : List Mail) → watch.by ≡ me → Q mails → Q (sent me to (TxWatch tx watch) mails)
  pub casts : (to : ℕ) (tx coord part : Draw) (vote : Vote) (mails : List Mail) → Q mails → Q (sent me to (TxVote tx coord part vote) mails)
  pub sees : (to : ℕ) (tx coord part : Draw) (vote : Past) (mails : List Mail) → Q mails → Q (sent me to (TxWatched tx coord part vote) mails)
  pub ends : (to : ℕ) (tx part : Draw) (outcome : Outcome) (mails : List Mail) → Q mails → Q (sent me to (TxOutcome tx part outcome) mails)
  pub sends_on : (to : ℕ) (tx coord : Draw) (hint : Option ℕ) (mails : List Mail) → Q mails → Q (sent me to (TxElsewhere tx coord hint) mails)

-- That each part of a row that changes the replica keeps what holds of it with its mails.
pub record PlaceStates (f : PlaceFacts) : Type 0 where
  pub late : EndsRow f.Early f.Late
  -- entries
  pub again : ExecutesNext f.Early f.Late f.Entry
  pub counted_entry : (command : Command) (r : ReplicaState) (mails : List Mail) → IsKept f.me r → r.running ≡ true → at_slot r.ready (next r) ≡ Some command → f.Entry (next r) command → f.Early (r, mails) → f.Early (entered_place true command (r, mails))
  pub learnt_entry : (command : Command) (r : ReplicaState) (mails : List Mail) → IsKept f.me r → f.Learnt (next r) command → f.Early (r, mails) → f.Early (entered_place false command (r, mails))
  pub jumped : (slot : ℕ) (base : Base) (sets : List (List ℕ)) (r : ReplicaState) (mails : List Mail) → length sets ≡ slots_ahead → f.State slot base → next r ≤ slot → r.running ≡ false → f.Early (r, mails) → f.Early (jumped slot base sets r, mails)
  -- leaders
  pub hinted : Follows f.Early
  pub ended : (hint : Option ℕ) (answer : AnswerBody) (r : ReplicaState) (mails : List Mail) → IsKept f.me r → r.running ≡ true → f.Early (r, mails) → f.Early (ended hint answer (r, mails))
  pub overtaken : (ballot : Ballot) (r : ReplicaState) (mails : List Mail) → IsKept f.me r → f.Round ballot → r.running ≡ true → below r.leader.ballot ballot ≡ true → f.Early (r, mails) → f.Early (stopped (Some ballot.node) (cond (below r.top ballot) (record r { top = ballot }) r, mails))
  pub elected : (r : ReplicaState) (mails : List Mail) → IsKept f.me r → f.Early (r, mails) → f.Late (elected_place (r, mails))
  pub seen : SeesBallot f.Early f.Round
  pub polled : (from : ℕ) (ballot : Ballot) (reports : List (Report Command)) (r : ReplicaState) (mails : List Mail) → r.running ≡ true → Each (IsReported f.Round f.Entry) reports → f.Early (r, mails) → f.Early (record r { leader = (promise_counted from ballot reports r.leader).1 }, mails)
  -- a vote that leaves its slot undecided, and one that decides it
  pub counts : CountsVote f.Early
  pub chosen : (from : ℕ) (ballot : Ballot) (slot : ℕ) (set : List ℕ) (command : Command) (r : ReplicaState) (mails : List Mail) → r.running ≡ true → (counted from ballot slot set r.leader).0 ≡ Chosen command → f.Voted slot → f.Early (r, mails)
      → f.Entry slot command × f.Early (record r { leader = (counted from ballot slot set r.leader).1; ready = with_slot r.ready slot command }, mails)
  -- acceptors
  pub promised : (from : ℕ) (ballot : Ballot) (from_slot : ℕ) (r : ReplicaState) (mails : List Mail) → r.me ≡ f.me → f.Round ballot → f.Polled ballot → IsAtLeast r.top ballot → may_promise r.acceptor ballot ≡ true → f.Early (r, mails)
      → f.Early (record r { acceptor = after_promise ballot r.acceptor }, sent r.me from (Promise (name_of r) ballot (reports_from from_slot r.acceptor.accepted)) mails)
  pub accepted : (from : ℕ) (report : Report Command) (r : ReplicaState) (mails : List Mail) → r.me ≡ f.me → IsReported f.Round f.Entry report → IsAtLeast r.top report.ballot → may_accept r.acceptor report.ballot ≡ true → f.Early (r, mails)
      → f.Early (record r { acceptor = after_accept report r.acceptor }, sent r.me from (Accepted (name_of r) report.ballot report.slot) mails)
  -- queues
  pub filed : (act : Command) (r : ReplicaState) (mails : List Mail) → r.running ≡ true → IsFiledOnMail act → has_act act r ≡ false → f.Late (r, mails) → f.Late (record r { acts = r.acts ++ act ∷ [] }, mails)
  pub ordered : (order : Command) (r : ReplicaState) (mails : List Mail) → r.running ≡ true → IsOrder order → f.Late (r, mails) → f.Late (record r { backlog = r.backlog ++ order ∷ [] }, mails)
  pub requested : QueuesFirst f.Late
  pub requested_again : QueuesLater f.Late
  -- a request that gets no slot is answered
  pub turned : (command : Command) (answer : AnswerBody) (backlog : List Command) (r : ReplicaState) (mails : List Mail) → r.me ≡ f.me → r.running ≡ true → r.backlog ≡ command ∷ backlog → turned_down r.group.core command ≡ Some answer → f.Late (r, mails)
      → f.Late (record r { backlog = backlog }, answered r.me r.group.core.id answer command mails)
  -- what is offered at an open slot: what was reported there, nothing new below what was reported, and the head of either queue
  pub offers_value : (slot : ℕ) (set : List ℕ) (command : Command) (r : ReplicaState) (mails : List Mail) → r.me ≡ f.me → r.running ≡ true → slot < next r + slots_ahead → taken_at r slot ≡ None → must slot r.leader ≡ Value command → f.Late (r, mails)
      → f.Late (offered slot set command (r, mails))
  pub offers_noop : (slot : ℕ) (set : List ℕ) (r : ReplicaState) (mails : List Mail) → r.me ≡ f.me → r.running ≡ true → slot < next r + slots_ahead → taken_at r slot ≡ None → f.Late (r, mails) → f.Late (offered slot set Noop (r, mails))
  pub offers_act : (slot : ℕ) (set : List ℕ) (act : Command) (rest : List Command) (r : ReplicaState) (mails : List Mail) → r.me ≡ f.me → r.running ≡ true → slot < next r + slots_ahead → taken_at r slot ≡ None → r.acts ≡ act ∷ rest → f.Late (r, mails)
      → f.Late (offered slot set act (record r { acts = rest }, mails))
  pub offers_call : (slot : ℕ) (set : List ℕ) (command : Command) (rest : List Command) (r : ReplicaState) (mails : List Mail) → r.me ≡ f.me → r.running ≡ true → slot < next r + slots_ahead → taken_at r slot ≡ None → r.backlog ≡ command ∷ rest → f.Late (r, mails)
      → f.Late (offered slot set command (record r { backlog = rest }, mails))

-- That it is kept by each mail that goes with no change of the replica.
pub record PlaceSays (f : PlaceFacts) : Type 0 where
  pub early : (r : ReplicaState) → r.me ≡ f.me → Talk r.me (λ mails. f.Early (r, mails))
  pub late : (r : ReplicaState) → r.me ≡ f.me → Talk r.me (λ mails. f.Late (r, mails))
  pub installs : (to : ℕ) (r : ReplicaState) (mails : List Mail) → r.me ≡ f.me → f.Early (r, mails) → f.Early (r, sent r.me to (Install (name_of r) (next r - 1) (base_of r.group) r.sets) mails)
  pub recalls : (to slot : ℕ) (command : Command) (r : ReplicaState) (mails : List Mail) → r.me ≡ f.me → entry_at slot r.log ≡ Some command → f.Early (r, mails) → f.Early (r, sent r.me to (Learn (name_of r) slot command) mails)
  pub wants : (to slot : ℕ) (r : ReplicaState) (mails : List Mail) → r.me ≡ f.me → f.Behind slot → next r < slot → f.Early (r, mails) → f.Early (r, sent r.me to (Ask (name_of r) (next r)) mails)
  pub nacks : (to : ℕ) (r : ReplicaState) (mails : List Mail) → r.me ≡ f.me → f.Early (r, mails) → f.Early (r, sent r.me to (Nack (name_of r) r.acceptor.promised) mails)

-- One invariant of replicas with their mails, through the rows that are no ticks.
pub record PlaceWalk : Type 1 where
  pub facts : PlaceFacts
  pub states : PlaceStates facts
  pub says : PlaceSays facts

-- That what a tick says again keeps the invariant.
pub record PlaceAgains (f : PlaceFacts) : Type 0 where
  pub reasks : (to slot : ℕ) (command : Command) (r : ReplicaState) (mails : List Mail) → r.me ≡ f.me → r.running ≡ true → flying r slot ≡ Some command → f.Late (r, mails) → f.Late (r, sent r.me to (Accept (name_of r) r.leader.ballot slot command) mails)
  pub relearns : (to : ℕ) (command : Command) (r : ReplicaState) (mails : List Mail) → r.me ≡ f.me → entry_at (next r - 1) r.log ≡ Some command → f.Late (r, mails) → f.Late (r, sent r.me to (Learn (name_of r) (next r - 1) command) mails)

-- That ticks keep the invariant, however long a coordinator has waited when it gives up.
pub record PlaceTicks (f : PlaceFacts) : Type 0 where
  pub waited : WaitsOn f.Late
  pub gives_up : (tx : Draw) (r : ReplicaState) (mails : List Mail) → r.running ≡ true → has_act (GiveUp tx) r ≡ false → f.Late (r, mails) → f.Late (record r { acts = r.acts ++ GiveUp tx ∷ [] }, mails)
  pub agains : PlaceAgains f

-- Where the invariant begins, and what holds of the mails of a node's row alone: with them it holds of each replica that has said no more of its own, and of a node without a replica of a group they may be its answer.
pub record PlaceBirths (f : PlaceFacts) : Type 1 where
  pub Rest : List Mail → Type 0
  pub rest : (place : Place) → f.Late place → Rest place.1
  pub rest_none : Rest []
  pub beside_early : (r : ReplicaState) (mails : List Mail) → Rest mails → f.Early (r, []) → f.Early (r, mails)
  pub beside : (r : ReplicaState) (mails more : List Mail) → Rest (mails ++ more) → f.Late (r, mails) → f.Late (r, mails ++ more)
  pub born : (base : Base) → f.Late (born_replica slots_ahead f.me base, [])
  pub made : (slot : ℕ) (base : Base) (sets : List (List ℕ)) → length sets ≡ slots_ahead → f.State slot base → f.Early (installed_replica f.me slot base sets, [])
  pub refuses : (me number : ℕ) (result : OrderResult) → me ≡ f.me → Rest (sent me 0 (Told number result) [])
  pub answers : (me client : ℕ) (group : Draw) (seq : ℕ) (answer : AnswerBody) → me ≡ f.me → Rest (sent me (client_actor client) (Answer group seq answer) [])
  pub wants_all : (me to : ℕ) (group : Draw) → me ≡ f.me → Rest (sent me to (Ask group 0) [])
  pub sends_on : (me to : ℕ) (tx coord : Draw) (hint : Option ℕ) → me ≡ f.me → Rest (sent me to (TxElsewhere tx coord hint) [])

module _ (f : PlaceFacts) where
  -- a replica with its mails, before it has elected itself in a row, and after; with the children that a row made
  abbrev pub Before : Place → Type 0
  Before place = IsKept f.me place.0 × f.Early place

  abbrev pub After : Place → Type 0
  After place = IsKept f.me place.0 × f.Late place

  abbrev pub AfterAll : Executed → Type 0
  AfterAll step = After step.0

  -- what a mail says, as the invariant speaks of it: ballots, commands at slots and states
  abbrev pub Hears : MailBody → Type 0
  Hears (Prepare group ballot from_slot) = f.Round ballot × f.Polled ballot
  Hears (Promise group ballot reports) = Each (IsReported f.Round f.Entry) reports
  Hears (Accept group ballot slot command) = f.Round ballot × f.Entry slot command
  Hears (Accepted group ballot slot) = f.Voted slot
  Hears (Nack group promised) = f.Round promised
  Hears (Learn group slot command) = f.Learnt slot command × f.Behind slot
  Hears (Install group slot base sets) = f.State slot base × f.State slot (named group base)
  Hears (Ask group from_slot) = Unit {0}
  Hears (Request group client seq op) = Unit {0}
  Hears (Answer group seq answer) = Unit {0}
  Hears (TxPrepare tx offer) = Unit {0}
  Hears (TxVote tx coord part vote) = Unit {0}
  Hears (TxOutcome tx part outcome) = Unit {0}
  Hears (TxElsewhere tx coord hint) = Unit {0}
  Hears (TxWatch tx watch) = Unit {0}
  Hears (TxWatched tx coord part vote) = Unit {0}
  Hears (Told order result) = Unit {0}

-- a mail that node `me` may send to a party of a transaction, or to the actors of whom C holds as an answer
abbrev pub IsToParty : (ℕ → Type 0) → ℕ → ℕ → MailBody → Type 0
IsToParty C me to (Answer group seq answer) = C to
IsToParty C me to (TxPrepare tx offer) = offer.by ≡ me
IsToParty C me to (TxWatch tx watch) = watch.by ≡ me
IsToParty C me to (TxVote tx coord part vote) = Unit {0}
IsToParty C me to (TxWatched tx coord part vote) = Unit {0}
IsToParty C me to (TxOutcome tx part outcome) = Unit {0}
IsToParty C me to (TxElsewhere tx coord hint) = Unit {0}
IsToParty C me to _ = ⊥

-- that what holds of the mails of node `me` is kept by each such mail
abbrev pub PartiesAnd : (ℕ → Type 0) → ℕ → (List Mail → Type 0) → Type 0
PartiesAnd C me Q = (to : ℕ) (body : MailBody) (mails : List Mail) → IsToParty C me to body → Q mails → Q (sent me to body mails)

-- .. to a client too
abbrev pub IsClient : ℕ → Type 0
IsClient to = (client : ℕ) × (to ≡ client_actor client)

abbrev pub Parties : ℕ → (List Mail → Type 0) → Type 0
Parties me Q = PartiesAnd IsClient me Q

-- who may talk to the desk too talks to them
pub parties : (me : ℕ) (Q : List Mail → Type 0) → Talk me Q → Parties me Q
parties me Q t to (Answer group seq answer) mails (client, same) m = subst (λ (n : ℕ). Q (sent me n (Answer group seq answer) mails)) (sym same) (t.answers client group seq answer mails m)
parties me Q t to (TxPrepare tx offer) mails own m = t.offers to tx offer mails own m
parties me Q t to (TxWatch tx watch) mails own m = t.watches to tx watch mails own m
parties me Q t to (TxVote tx coord part vote) mails own m = t.casts to tx coord part vote mails m
parties me Q t to (TxWatched tx coord part vote) mails own m = t.sees to tx coord part vote mails m
parties me Q t to (TxOutcome tx part outcome) mails own m = t.ends to tx part outcome mails m
parties me Q t to (TxElsewhere tx coord hint) mails own m = t.sends_on to tx coord hint mails m
parties me Q t to _ mails own m = absurd own

-- an invariant that is kept whatever mail is put behind
pub grows : (me : ℕ) (Q : List Mail → Type 0) → ((mails : List Mail) (mail : Mail) → Q mails → Q (mails ++ mail ∷ [])) → Talk me Q
grows me Q more = record {
  tells = λ number result mails m. more mails _ m;
  answers = λ client group seq answer mails m. more mails _ m;
  offers = λ to tx offer mails own m. more mails _ m;
  watches = λ to tx watch mails own m. more mails _ m;
  casts = λ to tx coord part vote mails m. more mails _ m;
  sees = λ to tx coord part vote mails m. more mails _ m;
  ends = λ to tx part outcome mails m. more mails _ m;
  sends_on = λ to tx coord hint mails m. more mails _ m;
}

-- what is kept by such mail stays so beside what holds of the replica
pub beside_talk : (A : Type 0) (me : ℕ) (Q : List Mail → Type 0) → (A → Talk me Q) → Talk me (λ mails. A × Q mails)
beside_talk A me Q t = record {
  tells = λ number result mails m. (m.0, (t m.0).tells number result mails m.1);
  answers = λ client group seq answer mails m. (m.0, (t m.0).answers client group seq answer mails m.1);
  offers = λ to tx offer mails own m. (m.0, (t m.0).offers to tx offer mails own m.1);
  watches = λ to tx watch mails own m. (m.0, (t m.0).watches to tx watch mails own m.1);
  casts = λ to tx coord part vote mails m. (m.0, (t m.0).casts to tx coord part vote mails m.1);
  sees = λ to tx coord part vote mails m. (m.0, (t m.0).sees to tx coord part vote mails m.1);
  ends = λ to tx part outcome mails m. (m.0, (t m.0).ends to tx part outcome mails m.1);
  sends_on = λ to tx coord hint mails m. (m.0, (t m.0).sends_on to tx coord hint mails m.1);
}

pub grown : (f : PlaceFacts) → ((r : ReplicaState) (mails : List Mail) (mail : Mail) → f.Early (r, mails) → f.Early (r, mails ++ mail ∷ [])) → ((r : ReplicaState) (mails : List Mail) (mail : Mail) → f.Late (r, mails) → f.Late (r, mails ++ mail ∷ [])) → PlaceSays f
grown f early late = record {
  early = λ r same. grows r.me (λ mails. f.Early (r, mails)) (early r);
  late = λ r same. grows r.me (λ mails. f.Late (r, mails)) (late r);
  installs = λ to r mails same k. early r mails _ k;
  recalls = λ to slot command r mails same e k. early r mails _ k;
  wants = λ to slot r mails same behind low k. early r mails _ k;
  nacks = λ to r mails same k. early r mails _ k;
}
