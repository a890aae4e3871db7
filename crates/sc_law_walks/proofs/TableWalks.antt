-- What an invariant of any replica together with the mails of its row needs: what holds before a row and after it, that each part of a row keeps it, and that it holds with each mail put behind. Nothing else is asked of the replica. The theorems of the walk carry it through all rows of a replica's table.
use Rattle.std.proofs.Common.{◌≡◌, ℕ, ◌-◌, ◌<◌, ◌≤◌, nat_le, cond, Bool, true, false, List, [], ◌∷◌, ◌++◌, length, Option, Some, None}
use Rattle.sc_base.specs.Definitions.{Drawer, is_member}
use Rattle.sc_node_table.specs.Values.{Ballot, Draw, Op, Offer, Watch, Command, Noop, Call, Prepared, RecordVote, GiveUp, Finish, Watched, RecordWatch, Base, Body, Coordinating, Heard, Route, OrderLine, OrderRefusal, Refused, Outcome, Past, Vote, AnswerBody, Mail, MailBody, Request, Prepare, Promise, Accept, Accepted, Nack, Learn, Ask, Install, TxPrepare, TxVote, TxOutcome, TxElsewhere, TxWatch, TxWatched, Chosen, NotYet, Report}
use Rattle.sc_mail.specs.declared.bodies.AnswerBody.TheVariants as Says
use Rattle.sc_words.specs.declared.paxos.answers.Must.TheVariants.{Value, Gap}
use Rattle.sc_group_table.specs.machine.MachineDefinitions.{base_of, child_by}
use Rattle.sc_words.specs.paxos.PaxosDefinitions.{IsAtLeast, reports_from, after_promise, after_accept, may_promise, may_accept, promise_counted, entry_at, counted, must, below}
use Rattle.sc_node_table.specs.NodeDefinitions.{jumped, ReplicaState, Place, name_of, next, at_slot, with_slot, set_at, taken_at, flying, queued_number, without_request, has_act, sent, stopped, ended, answered, answer_to, turned_down, refused_at, offered, result_sent, untaken, standing_vote, noted_outcome, voted_to, watched_to, outcome_sent, asked_next, reminders}
use Rattle.sc_law_walks.specs.WalkDefinitions.{IsFiledOnMail, IsOrder}
use Rattle.sc_law_walks.proofs.PlaceWalks.{Talk, Parties, parties, elected_place, entered_place, EndsRow, ExecutesNext, Follows, SeesBallot, WaitsOn}
use Rattle.sc_law_walks.proofs.TablePumps.{IsOpenOffer}
use Rattle.sc_law_walks.proofs.Talks.{client_reported, vote_reported, watch_reported, outcome_said, next_one_asked}

-- What holds of the replica that a row finds; of a replica with the mails of its row, before it elects itself in a row and after; of the mail that it takes, by its sender; of a ballot that it sees there; of the command that was counted at a slot; of the commands of transactions and of orders that it queues; of an order that it is given; and of the children that it makes.
pub record TableFacts : Type 1 where
  pub First : ReplicaState → Type 0
  pub Early : Place → Type 0
  pub Late : Place → Type 0
  pub Hears : ℕ → MailBody → Type 0
  pub Round : Ballot → Type 0
  pub Entry : ℕ → Command → Type 0
  pub Files : Command → Type 0
  pub Orders : Command → Type 0
  pub Given : Drawer → OrderLine → Type 0
  pub Child : Base → Type 0

-- A command may be executed at the next slot: one that was counted, and is ready there, or one that was learnt.
abbrev pub MayEnter : TableFacts → Bool → Command → ReplicaState → Type 0
MayEnter f true command r = (r.running ≡ true) × (at_slot r.ready (next r) ≡ Some command) × f.Entry (next r) command
MayEnter f false command r = (from : ℕ) × (group : Draw) × f.Hears from (Learn group (next r) command) × f.First r

-- What is known of a child: the command makes it, and the replica's node is one of its members.
pub record IsOwnChild (command : Command) (r : ReplicaState) (child : Base) : Type 0 where
  pub made : child_by r.group command ≡ Some child
  pub member : is_member child.core.members r.me ≡ true

-- What is known of a request that is queued: the replica runs, and a mail brought it.
pub record IsBroughtRequest (f : TableFacts) (client seq : ℕ) (op : Op) (r : ReplicaState) : Type 0 where
  pub runs : r.running ≡ true
  pub from : ℕ
  pub group : Draw
  pub brought : f.Hears from (Request group client seq op)

-- What is known of a vote that is counted: the replica is as the row found it, it runs, a mail brought the vote, and these are the members of its slot.
pub record IsBroughtVote (f : TableFacts) (from : ℕ) (ballot : Ballot) (slot : ℕ) (set : List ℕ) (r : ReplicaState) : Type 0 where
  pub first : f.First r
  pub runs : r.running ≡ true
  pub group : Draw
  pub brought : f.Hears from (Accepted group ballot slot)
  pub members_are : set_at slot r ≡ Some set

-- A replica has the acceptor of the one that the row found.
abbrev pub AsFound : TableFacts → ReplicaState → Type 0
AsFound f r = (start : ReplicaState) × f.First start × (r.acceptor ≡ start.acceptor)

-- What mail brings: ballots, and commands of transactions.
pub record TableHears (f : TableFacts) : Type 0 where
  pub prepare_round : (from : ℕ) (group : Draw) (ballot : Ballot) (from_slot : ℕ) → f.Hears from (Prepare group ballot from_slot) → f.Round ballot
  pub accept_round : (from : ℕ) (group : Draw) (ballot : Ballot) (slot : ℕ) (command : Command) → f.Hears from (Accept group ballot slot command) → f.Round ballot
  pub nack_round : (from : ℕ) (group : Draw) (promised : Ballot) → f.Hears from (Nack group promised) → f.Round promised
  pub offer_filed : (from : ℕ) (tx : Draw) (offer : Offer) → f.Hears from (TxPrepare tx offer) → f.Files (Prepared tx offer)
  pub vote_filed : (from : ℕ) (tx coord part : Draw) (vote : Vote) → f.Hears from (TxVote tx coord part vote) → f.Files (RecordVote tx vote from)
  pub outcome_filed : (from : ℕ) (tx part : Draw) (outcome : Outcome) → f.Hears from (TxOutcome tx part outcome) → f.Files (Finish tx outcome)
  pub watch_filed : (from : ℕ) (tx : Draw) (watch : Watch) → f.Hears from (TxWatch tx watch) → f.Files (Watched tx watch)
  pub watched_filed : (from : ℕ) (tx coord part : Draw) (vote : Past) → f.Hears from (TxWatched tx coord part vote) → f.Files (RecordWatch tx vote from)

-- That each part of a row that changes the replica keeps what holds of it with its mails.
pub record TableStates (f : TableFacts) : Type 0 where
  pub late : EndsRow f.Early f.Late
  -- entries
  pub again : ExecutesNext f.Early f.Late f.Entry
  pub counted_entry : (command : Command) (r : ReplicaState) (mails : List Mail) → r.running ≡ true → at_slot r.ready (next r) ≡ Some command → f.Entry (next r) command → f.Early (r, mails) → f.Early (entered_place true command (r, mails))
  pub learnt_entry : (from : ℕ) (group : Draw) (command : Command) (r : ReplicaState) (mails : List Mail) → f.Hears from (Learn group (next r) command) → f.First r → f.Early (r, mails) → f.Early (entered_place false command (r, mails))
  pub children : (counted : Bool) (command : Command) (r : ReplicaState) (mails : List Mail) (child : Base) → MayEnter f counted command r → IsOwnChild command r child → f.Early (r, mails) → f.Child child
  pub jumped : (from : ℕ) (group : Draw) (slot : ℕ) (base : Base) (sets : List (List ℕ)) (r : ReplicaState) (mails : List Mail) → f.Hears from (Install group slot base sets) → length sets ≡ length r.sets → next r ≤ slot → r.running ≡ false → f.Early (r, mails) → f.Early (jumped slot base sets r, mails)
  -- leaders
  pub hinted : Follows f.Early
  pub stops : (hint : Option ℕ) (r : ReplicaState) (mails : List Mail) → r.running ≡ true → f.Early (r, mails) → f.Early (stopped hint (r, mails))
  pub goes : (into : Route) (r : ReplicaState) (mails : List Mail) → r.running ≡ true → r.group.core.gone ≡ Some into → f.Early (r, mails) → f.Early (ended None (Says.Gone into) (r, mails))
  pub overtaken : (ballot : Ballot) (r : ReplicaState) (mails : List Mail) → f.Round ballot → r.running ≡ true → below r.leader.ballot ballot ≡ true → f.Early (r, mails) → f.Early (stopped (Some ballot.node) (cond (below r.top ballot) (record r { top = ballot }) r, mails))
  pub elected : (r : ReplicaState) (mails : List Mail) → f.Early (r, mails) → f.Late (elected_place (r, mails))
  pub seen : SeesBallot f.Early f.Round
  pub polled : (from : ℕ) (group : Draw) (ballot : Ballot) (reports : List (Report Command)) (r : ReplicaState) (mails : List Mail) → r.running ≡ true → f.Hears from (Promise group ballot reports) → f.Early (r, mails) → f.Early (record r { leader = (promise_counted from ballot reports r.leader).1 }, mails)
  -- a vote that leaves its slot undecided, and one that decides it
  pub counts : (from : ℕ) (ballot : Ballot) (slot : ℕ) (set : List ℕ) (count : ℕ) (r : ReplicaState) (mails : List Mail) → IsBroughtVote f from ballot slot set r → (counted from ballot slot set r.leader).0 ≡ NotYet count → f.Early (r, mails) → f.Early (record r { leader = (counted from ballot slot set r.leader).1 }, mails)
  pub chosen : (from : ℕ) (group : Draw) (ballot : Ballot) (slot : ℕ) (set : List ℕ) (command : Command) (r : ReplicaState) (mails : List Mail) → IsBroughtVote f from ballot slot set r → (counted from ballot slot set r.leader).0 ≡ Chosen command → f.Hears from (Accepted group ballot slot) → f.Early (r, mails)
      → f.Entry slot command × f.Early (record r { leader = (counted from ballot slot set r.leader).1; ready = with_slot r.ready slot command }, mails)
  -- acceptors
  pub promised : (from : ℕ) (group : Draw) (ballot : Ballot) (from_slot : ℕ) (r : ReplicaState) (mails : List Mail) → f.Hears from (Prepare group ballot from_slot) → IsAtLeast r.top ballot → may_promise r.acceptor ballot ≡ true → f.Early (r, mails)
      → f.Early (record r { acceptor = after_promise ballot r.acceptor }, sent r.me from (Promise (name_of r) ballot (reports_from from_slot r.acceptor.accepted)) mails)
  pub accepted : (from : ℕ) (group : Draw) (report : Report Command) (r : ReplicaState) (mails : List Mail) → f.Hears from (Accept group report.ballot report.slot report.value) → IsAtLeast r.top report.ballot → may_accept r.acceptor report.ballot ≡ true → f.Early (r, mails)
      → f.Early (record r { acceptor = after_accept report r.acceptor }, sent r.me from (Accepted (name_of r) report.ballot report.slot) mails)
  -- queues
  pub filed : (act : Command) (r : ReplicaState) (mails : List Mail) → r.running ≡ true → IsFiledOnMail act → has_act act r ≡ false → f.Files act → f.Late (r, mails) → f.Late (record r { acts = r.acts ++ act ∷ [] }, mails)
  pub ordered : (order : Command) (r : ReplicaState) (mails : List Mail) → r.running ≡ true → IsOrder order → f.Orders order → f.Late (r, mails) → f.Late (record r { backlog = r.backlog ++ order ∷ [] }, mails)
  pub requested : (client seq : ℕ) (op : Op) (r : ReplicaState) (mails : List Mail) → IsBroughtRequest f client seq op r → queued_number r.backlog client ≡ None → f.Late (r, mails) → f.Late (record r { backlog = r.backlog ++ Call client seq op ∷ [] }, mails)
  pub requested_again : (client seq other : ℕ) (op : Op) (r : ReplicaState) (mails : List Mail) → IsBroughtRequest f client seq op r → queued_number r.backlog client ≡ Some other → nat_le seq other ≡ false → f.Late (r, mails)
      → f.Late (record r { backlog = without_request r.backlog client ++ Call client seq op ∷ [] }, mails)
  -- a request that gets no slot is answered
  pub turned : (command : Command) (answer : AnswerBody) (backlog : List Command) (r : ReplicaState) (mails : List Mail) → r.running ≡ true → r.backlog ≡ command ∷ backlog → turned_down r.group.core command ≡ Some answer → f.Late (r, mails)
      → f.Late (record r { backlog = backlog }, answered r.me r.group.core.id answer command mails)
  -- what is offered at an open slot: what was reported there, nothing new below what was reported, and the head of either queue
  pub offers_value : (slot : ℕ) (set : List ℕ) (command : Command) (r : ReplicaState) (mails : List Mail) → r.running ≡ true → IsOpenOffer slot set command r → taken_at r slot ≡ None → must slot r.leader ≡ Value command → f.Late (r, mails) → f.Late (offered slot set command (r, mails))
  pub offers_noop : (slot : ℕ) (set : List ℕ) (r : ReplicaState) (mails : List Mail) → r.running ≡ true → IsOpenOffer slot set Noop r → taken_at r slot ≡ None → must slot r.leader ≡ Gap → f.Late (r, mails) → f.Late (offered slot set Noop (r, mails))
  pub offers_act : (slot : ℕ) (set : List ℕ) (act : Command) (rest : List Command) (r : ReplicaState) (mails : List Mail) → r.running ≡ true → IsOpenOffer slot set act r → taken_at r slot ≡ None → r.acts ≡ act ∷ rest → f.Late (r, mails)
      → f.Late (offered slot set act (record r { acts = rest }, mails))
  pub offers_call : (slot : ℕ) (set : List ℕ) (command : Command) (rest : List Command) (r : ReplicaState) (mails : List Mail) → r.running ≡ true → IsOpenOffer slot set command r → taken_at r slot ≡ None → r.backlog ≡ command ∷ rest → f.Late (r, mails)
      → f.Late (offered slot set command (record r { backlog = rest }, mails))

-- That it is kept by each mail that goes with no change of the replica: refusals, votes and outcomes, questions of a transaction, states, entries and what asks for them.
pub record TableSays (f : TableFacts) : Type 0 where
  pub refuses : (from : ℕ) (group : Draw) (client seq : ℕ) (op : Op) (answer : AnswerBody) (r : ReplicaState) (mails : List Mail) → f.Hears from (Request group client seq op) → refused_at r.group.core.gone op r ≡ Some answer → f.Early (r, mails) → f.Early (r, answer_to r.me (name_of r) client seq answer mails)
  pub tells : (drawer : Drawer) (line : OrderLine) (why : OrderRefusal) (r : ReplicaState) (mails : List Mail) → f.Given drawer line → untaken drawer line r ≡ Some why → f.Early (r, mails) → f.Early (r, result_sent r.me line.number (Refused why) mails)
  pub votes : (from : ℕ) (tx : Draw) (offer : Offer) (vote : Past) (r : ReplicaState) (mails : List Mail) → f.Hears from (TxPrepare tx offer) → standing_vote r.group.core tx ≡ Some vote → f.Early (r, mails) → f.Early (r, voted_to r.me r.group from tx offer vote mails)
  pub sees : (from : ℕ) (tx : Draw) (watch : Watch) (vote : Past) (r : ReplicaState) (mails : List Mail) → f.Hears from (TxWatch tx watch) → standing_vote r.group.core tx ≡ Some vote → f.Early (r, mails) → f.Early (r, watched_to r.me from tx watch vote mails)
  pub vote_ends : (from : ℕ) (tx coord part : Draw) (vote : Vote) (outcome : Outcome) (r : ReplicaState) (mails : List Mail) → f.Hears from (TxVote tx coord part vote) → noted_outcome r.group.core tx ≡ Some outcome → f.Early (r, mails) → f.Early (r, outcome_sent r.me from tx part outcome mails)
  pub watch_ends : (from : ℕ) (tx coord part : Draw) (vote : Past) (outcome : Outcome) (r : ReplicaState) (mails : List Mail) → f.Hears from (TxWatched tx coord part vote) → noted_outcome r.group.core tx ≡ Some outcome → f.Early (r, mails) → f.Early (r, outcome_sent r.me from tx part outcome mails)
  pub offer_sent_on : (from : ℕ) (tx : Draw) (offer : Offer) (r : ReplicaState) (mails : List Mail) → f.Hears from (TxPrepare tx offer) → f.Early (r, mails) → f.Early (r, sent r.me from (TxElsewhere tx offer.coord r.hint) mails)
  pub watch_sent_on : (from : ℕ) (tx : Draw) (watch : Watch) (r : ReplicaState) (mails : List Mail) → f.Hears from (TxWatch tx watch) → f.Early (r, mails) → f.Early (r, sent r.me from (TxElsewhere tx watch.coord r.hint) mails)
  pub asks_next : (from : ℕ) (tx coord : Draw) (hint : Option ℕ) (r : ReplicaState) (mails : List Mail) → f.Hears from (TxElsewhere tx coord hint) → f.Early (r, mails) → f.Early (r, asked_next r.group.core.lock r.me r.group.core from tx hint mails)
  -- the executed state goes to who asks to promise or to accept where the acceptor has forgotten, and to who asks for entries
  pub prepare_behind : (from : ℕ) (group : Draw) (ballot : Ballot) (from_slot : ℕ) (r : ReplicaState) (mails : List Mail) → f.Hears from (Prepare group ballot from_slot) → AsFound f r → nat_le from_slot r.acceptor.floor ≡ true → f.Early (r, mails)
      → f.Early (r, sent r.me from (Install (name_of r) (next r - 1) (base_of r.group) r.sets) mails)
  pub accept_behind : (from : ℕ) (group : Draw) (report : Report Command) (r : ReplicaState) (mails : List Mail) → f.Hears from (Accept group report.ballot report.slot report.value) → AsFound f r → nat_le report.slot r.acceptor.floor ≡ true → f.Early (r, mails)
      → f.Early (r, sent r.me from (Install (name_of r) (next r - 1) (base_of r.group) r.sets) mails)
  pub ask_behind : (from : ℕ) (group : Draw) (slot : ℕ) (r : ReplicaState) (mails : List Mail) → f.Hears from (Ask group slot) → f.Early (r, mails) → f.Early (r, sent r.me from (Install (name_of r) (next r - 1) (base_of r.group) r.sets) mails)
  pub recalls : (from : ℕ) (group : Draw) (asked slot : ℕ) (command : Command) (r : ReplicaState) (mails : List Mail) → f.Hears from (Ask group asked) → entry_at slot r.log ≡ Some command → f.Early (r, mails) → f.Early (r, sent r.me from (Learn (name_of r) slot command) mails)
  pub wants : (from : ℕ) (group : Draw) (slot : ℕ) (command : Command) (r : ReplicaState) (mails : List Mail) → f.Hears from (Learn group slot command) → next r < slot → f.Early (r, mails) → f.Early (r, sent r.me from (Ask (name_of r) (next r)) mails)
  -- refusals, of promises and of entries
  pub prepare_nacked : (from : ℕ) (group : Draw) (ballot : Ballot) (from_slot : ℕ) (r : ReplicaState) (mails : List Mail) → f.Hears from (Prepare group ballot from_slot) → AsFound f r → may_promise r.acceptor ballot ≡ false → f.Early (r, mails)
      → f.Early (r, sent r.me from (Nack (name_of r) r.acceptor.promised) mails)
  pub accept_nacked : (from : ℕ) (group : Draw) (report : Report Command) (r : ReplicaState) (mails : List Mail) → f.Hears from (Accept group report.ballot report.slot report.value) → AsFound f r → may_accept r.acceptor report.ballot ≡ false → f.Early (r, mails)
      → f.Early (r, sent r.me from (Nack (name_of r) r.acceptor.promised) mails)

-- One invariant of replicas with their mails, through the rows that are no ticks.
pub record TableWalk : Type 1 where
  pub facts : TableFacts
  pub hears : TableHears facts
  pub states : TableStates facts
  pub says : TableSays facts

-- That what a tick says again keeps the invariant.
pub record TableAgains (f : TableFacts) : Type 0 where
  pub reminds : (r : ReplicaState) (mails : List Mail) → r.running ≡ true → f.Late (r, mails) → f.Late (r, reminders r.group.core.lock r.me r.group mails)
  pub reasks : (to slot : ℕ) (command : Command) (r : ReplicaState) (mails : List Mail) → r.running ≡ true → flying r slot ≡ Some command → f.Late (r, mails) → f.Late (r, sent r.me to (Accept (name_of r) r.leader.ballot slot command) mails)
  pub relearns : (to : ℕ) (command : Command) (r : ReplicaState) (mails : List Mail) → entry_at (next r - 1) r.log ≡ Some command → f.Late (r, mails) → f.Late (r, sent r.me to (Learn (name_of r) (next r - 1) command) mails)

-- That ticks keep the invariant.
pub record TableTicks (f : TableFacts) : Type 0 where
  pub waited : WaitsOn f.Late
  pub gives_up : (tx : Draw) (body : Body) (order : ℕ) (heard : Option Heard) (r : ReplicaState) (mails : List Mail) → r.group.core.lock ≡ Coordinating tx body order heard → r.running ≡ true → has_act (GiveUp tx) r ≡ false → f.Late (r, mails) → f.Late (record r { acts = r.acts ++ GiveUp tx ∷ [] }, mails)
  pub agains : TableAgains f

-- where any ballot and any command of a transaction may be brought
pub all_heard : (f : TableFacts) → ((ballot : Ballot) → f.Round ballot) → ((act : Command) → f.Files act) → TableHears f
all_heard f rounds acts = record {
  prepare_round = λ from group ballot from_slot h. rounds ballot;
  accept_round = λ from group ballot slot command h. rounds ballot;
  nack_round = λ from group promised h. rounds promised;
  offer_filed = λ from tx offer h. acts (Prepared tx offer);
  vote_filed = λ from tx coord part vote h. acts (RecordVote tx vote from);
  outcome_filed = λ from tx part outcome h. acts (Finish tx outcome);
  watch_filed = λ from tx watch h. acts (Watched tx watch);
  watched_filed = λ from tx coord part vote h. acts (RecordWatch tx vote from);
}

-- where any mail to a client, to the desk and to a party of a transaction keeps it
pub talk_said : (f : TableFacts) → ((r : ReplicaState) → Talk r.me (λ mails. f.Early (r, mails)))
    → ((to : ℕ) (r : ReplicaState) (mails : List Mail) → f.Early (r, mails) → f.Early (r, sent r.me to (Install (name_of r) (next r - 1) (base_of r.group) r.sets) mails))
    → ((to slot : ℕ) (command : Command) (r : ReplicaState) (mails : List Mail) → entry_at slot r.log ≡ Some command → f.Early (r, mails) → f.Early (r, sent r.me to (Learn (name_of r) slot command) mails))
    → ((from : ℕ) (group : Draw) (slot : ℕ) (command : Command) (r : ReplicaState) (mails : List Mail) → f.Hears from (Learn group slot command) → next r < slot → f.Early (r, mails) → f.Early (r, sent r.me from (Ask (name_of r) (next r)) mails))
    → ((to : ℕ) (r : ReplicaState) (mails : List Mail) → f.Early (r, mails) → f.Early (r, sent r.me to (Nack (name_of r) r.acceptor.promised) mails)) → TableSays f
talk_said f talk installs recalls wants nacks = record {
  refuses = λ from group client seq op answer r mails h e m. client_reported r.me (λ ms. f.Early (r, ms)) (recorded r) client (name_of r) seq answer mails m;
  tells = λ drawer line why r mails given e m. (talk r).tells line.number (Refused why) mails m;
  votes = λ from tx offer vote r mails h e m. vote_reported r.me (λ ms. f.Early (r, ms)) (recorded r) r.group from tx offer vote mails m;
  sees = λ from tx watch vote r mails h e m. watch_reported r.me (λ ms. f.Early (r, ms)) (recorded r) from tx watch vote mails m;
  vote_ends = λ from tx coord part vote outcome r mails h e m. outcome_said r.me (λ ms. f.Early (r, ms)) (recorded r) from tx part outcome mails m;
  watch_ends = λ from tx coord part vote outcome r mails h e m. outcome_said r.me (λ ms. f.Early (r, ms)) (recorded r) from tx part outcome mails m;
  offer_sent_on = λ from tx offer r mails h m. (talk r).sends_on from tx offer.coord r.hint mails m;
  watch_sent_on = λ from tx watch r mails h m. (talk r).sends_on from tx watch.coord r.hint mails m;
  asks_next = λ from tx coord hint r mails h m. next_one_asked r.me (λ ms. f.Early (r, ms)) (recorded r) r.group.core.lock r.group.core from tx hint mails m;
  prepare_behind = λ from group ballot from_slot r mails h found low m. installs from r mails m;
  accept_behind = λ from group report r mails h found low m. installs from r mails m;
  ask_behind = λ from group slot r mails h m. installs from r mails m;
  recalls = λ from group asked slot command r mails h e m. recalls from slot command r mails e m;
  wants = wants;
  prepare_nacked = λ from group ballot from_slot r mails h found no m. nacks from r mails m;
  accept_nacked = λ from group report r mails h found no m. nacks from r mails m;
}
  where
    recorded : (r : ReplicaState) → Parties r.me (λ ms. f.Early (r, ms))
    recorded r = parties r.me (λ ms. f.Early (r, ms)) (talk r)
