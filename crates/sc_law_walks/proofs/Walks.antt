-- What an invariant of replicas and of the mail that they send needs: what holds before a row and after it, and that each part of a row keeps it. The theorems of the walk carry it through all rows of a replica's table.
use Rattle.std.proofs.Common.{◌≡◌, ℕ, ◌+◌, ◌-◌, ◌<◌, ◌≤◌, nat_le, cond, true, false, List, [], ◌∷◌, ◌++◌, length, Option, Some, None, refl}
use Rattle.sc_node_table.specs.Values.{Ballot, Draw, Op, Offer, Watch, Command, Noop, Call, GiveUp, Base, OrderResult, Outcome, Past, Vote, AnswerBody, Mail, MailBody, Answer, Prepare, Promise, Accept, Accepted, Nack, Learn, Ask, Install, TxPrepare, TxVote, TxOutcome, TxElsewhere, TxWatch, TxWatched, Told, Chosen, Report}
use Rattle.sc_base.specs.Definitions.{Each, client_actor}
use Rattle.sc_words.specs.declared.paxos.answers.Must.TheVariants.{Value}
use Rattle.sc_group_table.specs.machine.MachineDefinitions.{base_of}
use Rattle.sc_words.specs.paxos.PaxosDefinitions.{IsAtLeast, reports_from, after_promise, after_accept, may_promise, may_accept, promise_counted, with_flight_at, without_flight_at, entry_at, counted, must, below}
use Rattle.sc_node_table.specs.NodeDefinitions.{entered, named, jumped, ReplicaState, Place, Executed, name_of, next, slots_ahead, at_slot, with_slot, without_slot, put_back, queued_number, without_request, has_act, born_replica, installed_replica, flying}
use Rattle.sc_law_walks.specs.WalkDefinitions.{GoesOn, IsFiledOnMail, IsOrder, IsKept}
pub use Rattle.sc_law_walks.proofs.PlaceWalks.{elected_replica, ended_replica, IsReported}
use Rattle.sc_law_walks.proofs.PlaceWalks.{PlaceFacts, Hears as HearsAt}

-- What holds of the node's replicas: early in a row, before one elects itself, and late; of what they say to whom; of the ballots, the commands at slots, the slots of votes and the states that they receive; of a ballot that they are asked to promise, and of a slot that they learn before its own; and of a command that is offered.
pub record Facts : Type 1 where
  pub me : ℕ
  pub Early : ReplicaState → Type 0
  pub Late : ReplicaState → Type 0
  pub Says : ℕ → MailBody → Type 0
  pub Round : Ballot → Type 0
  pub Entry : ℕ → Command → Type 0
  pub Voted : ℕ → Type 0
  pub State : ℕ → Base → Type 0
  pub Polled : Ballot → Type 0
  pub Behind : ℕ → Type 0
  pub Found : Command → Type 0

-- That each part of a row keeps what holds of a replica.
pub record States (f : Facts) : Type 0 where
  pub late : (r : ReplicaState) → f.Early r → f.Late r
  -- entries
  pub again : (r : ReplicaState) (command : Command) → r.running ≡ true → at_slot r.ready (next r) ≡ Some command → f.Late r → f.Early r × f.Entry (next r) command
  pub entered : (command : Command) (r : ReplicaState) → IsKept f.me r → f.Entry (next r) command → f.Early r → f.Early (entered command r)
  pub landed : (slot : ℕ) (r : ReplicaState) → f.Early r → f.Early (record r { leader = without_flight_at slot r.leader; ready = without_slot r.ready slot })
  pub jumped : (slot : ℕ) (base : Base) (sets : List (List ℕ)) (r : ReplicaState) → length sets ≡ slots_ahead → f.State slot base → next r ≤ slot → f.Early r → f.Early (jumped slot base sets r)
  -- leaders
  pub hinted : (hint : Option ℕ) (r : ReplicaState) → r.running ≡ false → f.Early r → f.Early (record r { hint = hint })
  pub ended : (hint : Option ℕ) (r : ReplicaState) → f.Early r → f.Early (ended_replica hint r)
  pub elected : (r : ReplicaState) → r.me ≡ f.me → f.Early r → f.Late (elected_replica r)
  pub seen : (ballot : Ballot) (r : ReplicaState) → f.Round ballot → below r.top ballot ≡ true → GoesOn ballot r → f.Early r → f.Early (record r { top = ballot })
  pub overtaken : (ballot : Ballot) (r : ReplicaState) → f.Round ballot → r.running ≡ true → below r.leader.ballot ballot ≡ true → f.Early r → f.Early (ended_replica (Some ballot.node) (cond (below r.top ballot) (record r { top = ballot }) r))
  pub polled : (from : ℕ) (ballot : Ballot) (reports : List (Report Command)) (r : ReplicaState) → r.running ≡ true → Each (IsReported f.Round f.Entry) reports → f.Early r → f.Early (record r { leader = (promise_counted from ballot reports r.leader).1 })
  pub counts : (from : ℕ) (ballot : Ballot) (slot : ℕ) (set : List ℕ) (r : ReplicaState) → r.running ≡ true → f.Early r → f.Early (record r { leader = (counted from ballot slot set r.leader).1 })
  pub chosen : (from : ℕ) (ballot : Ballot) (slot : ℕ) (set : List ℕ) (command : Command) (r : ReplicaState) → (counted from ballot slot set r.leader).0 ≡ Chosen command → f.Voted slot → f.Early r → f.Entry slot command
  pub readied : (slot : ℕ) (command : Command) (r : ReplicaState) → r.running ≡ true → f.Entry slot command → f.Early r → f.Early (record r { ready = with_slot r.ready slot command })
  -- acceptors
  pub promised : (ballot : Ballot) (r : ReplicaState) → f.Round ballot → IsAtLeast r.top ballot → may_promise r.acceptor ballot ≡ true → f.Early r → f.Early (record r { acceptor = after_promise ballot r.acceptor })
  pub accepted : (report : Report Command) (r : ReplicaState) → IsReported f.Round f.Entry report → IsAtLeast r.top report.ballot → may_accept r.acceptor report.ballot ≡ true → f.Early r → f.Early (record r { acceptor = after_accept report r.acceptor })
  -- queues
  pub back : (command : Command) (r : ReplicaState) → r.running ≡ true → f.Early r → f.Early (put_back command r)
  pub filed : (act : Command) (r : ReplicaState) → r.running ≡ true → IsFiledOnMail act → has_act act r ≡ false → f.Late r → f.Late (record r { acts = r.acts ++ act ∷ [] })
  pub ordered : (order : Command) (r : ReplicaState) → r.running ≡ true → IsOrder order → f.Late r → f.Late (record r { backlog = r.backlog ++ order ∷ [] })
  pub requested : (client seq : ℕ) (op : Op) (r : ReplicaState) → r.running ≡ true → queued_number r.backlog client ≡ None → f.Late r → f.Late (record r { backlog = r.backlog ++ Call client seq op ∷ [] })
  pub requested_again : (client seq other : ℕ) (op : Op) (r : ReplicaState) → r.running ≡ true → queued_number r.backlog client ≡ Some other → nat_le seq other ≡ false → f.Late r → f.Late (record r { backlog = without_request r.backlog client ++ Call client seq op ∷ [] })
  pub unfiled : (act : Command) (rest : List Command) (r : ReplicaState) → r.running ≡ true → r.acts ≡ act ∷ rest → f.Late r → f.Late (record r { acts = rest })
  pub uncalled : (command : Command) (rest : List Command) (r : ReplicaState) → r.running ≡ true → r.backlog ≡ command ∷ rest → f.Late r → f.Late (record r { backlog = rest })
  -- what is offered
  pub must_found : (slot : ℕ) (command : Command) (r : ReplicaState) → must slot r.leader ≡ Value command → f.Late r → f.Found command
  pub noop_found : f.Found Noop
  pub act_found : (act : Command) (rest : List Command) (r : ReplicaState) → r.acts ≡ act ∷ rest → f.Late r → f.Found act
  pub call_found : (command : Command) (rest : List Command) (r : ReplicaState) → r.backlog ≡ command ∷ rest → f.Late r → f.Found command
  pub flown : (slot : ℕ) (command : Command) (r : ReplicaState) → r.running ≡ true → slot < next r + slots_ahead → f.Found command → f.Late r → f.Late (record r { leader = with_flight_at slot command r.leader })

-- That each mail may be said.
pub record Mails (f : Facts) : Type 0 where
  pub tells : (number : ℕ) (result : OrderResult) → f.Says 0 (Told number result)
  pub answers : (client : ℕ) (group : Draw) (seq : ℕ) (answer : AnswerBody) → f.Says (client_actor client) (Answer group seq answer)
  pub asks : (to slot : ℕ) (command : Command) (r : ReplicaState) → r.me ≡ f.me → r.running ≡ true → slot < next r + slots_ahead → f.Found command → f.Late r → f.Says to (Accept (name_of r) r.leader.ballot slot command)
  pub polls : (to : ℕ) (r : ReplicaState) → r.me ≡ f.me → f.Early r → f.Says to (Prepare (name_of r) (record { round = r.top.round + 1; node = r.me }) (next r))
  pub repolls : (to : ℕ) (r : ReplicaState) → r.me ≡ f.me → r.running ≡ true → f.Early r → f.Says to (Prepare (name_of r) r.leader.ballot (next r))
  pub installs : (to : ℕ) (r : ReplicaState) → f.Early r → f.Says to (Install (name_of r) (next r - 1) (base_of r.group) r.sets)
  pub teaches : (to slot : ℕ) (command : Command) (group : Draw) → f.Entry slot command → f.Says to (Learn group slot command)
  pub recalls : (to slot : ℕ) (command : Command) (r : ReplicaState) → entry_at slot r.log ≡ Some command → f.Early r → f.Says to (Learn (name_of r) slot command)
  pub wants : (to slot : ℕ) (r : ReplicaState) → f.Behind slot → next r < slot → f.Early r → f.Says to (Ask (name_of r) (next r))
  pub promises : (to : ℕ) (ballot : Ballot) (from_slot : ℕ) (r : ReplicaState) → f.Round ballot → f.Polled ballot → f.Early r → f.Says to (Promise (name_of r) ballot (reports_from from_slot r.acceptor.accepted))
  pub votes : (to : ℕ) (ballot : Ballot) (slot : ℕ) (command : Command) (group : Draw) → f.Round ballot → f.Entry slot command → f.Says to (Accepted group ballot slot)
  pub nacks : (to : ℕ) (r : ReplicaState) → f.Early r → f.Says to (Nack (name_of r) r.acceptor.promised)
  pub offers : (to : ℕ) (tx : Draw) (offer : Offer) → offer.by ≡ f.me → f.Says to (TxPrepare tx offer)
  pub watches : (to : ℕ) (tx : Draw) (watch : Watch) → watch.by ≡ f.me → f.Says to (TxWatch tx watch)
  pub casts : (to : ℕ) (tx coord part : Draw) (vote : Vote) → f.Says to (TxVote tx coord part vote)
  pub sees : (to : ℕ) (tx coord part : Draw) (vote : Past) → f.Says to (TxWatched tx coord part vote)
  pub ends : (to : ℕ) (tx part : Draw) (outcome : Outcome) → f.Says to (TxOutcome tx part outcome)
  pub sends_on : (to : ℕ) (tx coord : Draw) (hint : Option ℕ) → f.Says to (TxElsewhere tx coord hint)

-- One invariant through the rows that are no ticks.
pub record Walk : Type 1 where
  pub facts : Facts
  pub states : States facts
  pub mails : Mails facts

-- Where the invariant holds at a group's birth, and where a replica is made of a state.
pub record Births (f : Facts) : Type 0 where
  pub born : (base : Base) → f.Late (born_replica slots_ahead f.me base)
  pub made : (slot : ℕ) (base : Base) (sets : List (List ℕ)) → length sets ≡ slots_ahead → f.State slot base → f.Early (installed_replica f.me slot base sets)
  -- what a node asks for where it has no replica
  pub wants_all : (to : ℕ) (group : Draw) → f.Says to (Ask group 0)

-- That ticks keep the invariant.
pub record Ticks (f : Facts) : Type 0 where
  pub waited : (waits : ℕ) (r : ReplicaState) → f.Late r → f.Late (record r { waits = waits })
  pub gives_up : (tx : Draw) (r : ReplicaState) → r.running ≡ true → has_act (GiveUp tx) r ≡ false → f.Late r → f.Late (record r { acts = r.acts ++ GiveUp tx ∷ [] })
  pub reasks : (to slot : ℕ) (command : Command) (r : ReplicaState) → r.me ≡ f.me → r.running ≡ true → flying r slot ≡ Some command → f.Late r → f.Says to (Accept (name_of r) r.leader.ballot slot command)
  pub relearns : (to : ℕ) (command : Command) (r : ReplicaState) → entry_at (next r - 1) r.log ≡ Some command → f.Late r → f.Says to (Learn (name_of r) (next r - 1) command)

-- an invariant that says nothing of mail
pub unsaid : (f : Facts) → ((to : ℕ) (body : MailBody) → f.Says to body) → Mails f
unsaid f all = record {
  tells = λ number result. all 0 (Told number result);
  answers = λ client group seq answer. all (client_actor client) (Answer group seq answer);
  asks = λ to slot command r same on near found k. all to (Accept (name_of r) r.leader.ballot slot command);
  polls = λ to r same k. all to (Prepare (name_of r) (record { round = r.top.round + 1; node = r.me }) (next r));
  repolls = λ to r same on k. all to (Prepare (name_of r) r.leader.ballot (next r));
  installs = λ to r k. all to (Install (name_of r) (next r - 1) (base_of r.group) r.sets);
  teaches = λ to slot command group good. all to (Learn group slot command);
  recalls = λ to slot command r e k. all to (Learn (name_of r) slot command);
  wants = λ to slot r behind low k. all to (Ask (name_of r) (next r));
  promises = λ to ballot from_slot r good polled k. all to (Promise (name_of r) ballot (reports_from from_slot r.acceptor.accepted));
  votes = λ to ballot slot command group good entry. all to (Accepted group ballot slot);
  nacks = λ to r k. all to (Nack (name_of r) r.acceptor.promised);
  offers = λ to tx offer own. all to (TxPrepare tx offer);
  watches = λ to tx watch own. all to (TxWatch tx watch);
  casts = λ to tx coord part vote. all to (TxVote tx coord part vote);
  sees = λ to tx coord part vote. all to (TxWatched tx coord part vote);
  ends = λ to tx part outcome. all to (TxOutcome tx part outcome);
  sends_on = λ to tx coord hint. all to (TxElsewhere tx coord hint);
}

-- the facts of replicas with their mails, where Q holds of the mails
abbrev pub place_facts : (f : Facts) (Q : List Mail → Type 0) → PlaceFacts
place_facts f Q = record {
  me = f.me;
  Early = λ place. f.Early place.0 × Q place.1;
  Late = λ place. f.Late place.0 × Q place.1;
  Round = λ ballot. f.Round ballot;
  Entry = λ slot command. f.Entry slot command;
  Voted = λ slot. f.Voted slot;
  State = λ slot base. f.State slot base;
  Polled = λ ballot. f.Polled ballot;
  Learnt = λ slot command. f.Entry slot command;
  Behind = λ slot. f.Behind slot;
}

module _ (w : Walk) where
  -- a mail of the node that it may send, and some mail
  abbrev pub Sends : Mail → Type 0
  Sends mail = (mail.from ≡ w.facts.me) × w.facts.Says mail.to mail.body

  abbrev pub AreSaid : List Mail → Type 0
  AreSaid mails = Each Sends mails

  -- a replica before it has elected itself in a row, and after
  abbrev pub EarlyAt : ReplicaState → Type 0
  EarlyAt r = IsKept w.facts.me r × w.facts.Early r

  abbrev pub LateAt : ReplicaState → Type 0
  LateAt r = IsKept w.facts.me r × w.facts.Late r

  -- a replica with its mail, before it has elected itself in a row, and after
  abbrev pub Before : Place → Type 0
  Before place = EarlyAt place.0 × AreSaid place.1

  abbrev pub After : Place → Type 0
  After place = LateAt place.0 × AreSaid place.1

  -- a replica with its mail and the children that a row made
  abbrev pub AfterAll : Executed → Type 0
  AfterAll step = After step.0

  -- what a mail says, as the invariant speaks of it
  abbrev pub Hears : MailBody → Type 0
  Hears body = HearsAt (place_facts w.facts AreSaid) body

  -- where all is good, all mail is heard
  all_reported : ((ballot : Ballot) → w.facts.Round ballot) → ((slot : ℕ) (command : Command) → w.facts.Entry slot command) → (reports : List (Report Command)) → Each (IsReported w.facts.Round w.facts.Entry) reports
  all_reported rounds entries [] = tt
  all_reported rounds entries (report ∷ reports) = ((rounds report.ballot, entries report.slot report.value), all_reported rounds entries reports)

  pub hears_all : ((ballot : Ballot) → w.facts.Round ballot × w.facts.Polled ballot) → ((slot : ℕ) (command : Command) → w.facts.Entry slot command) → ((slot : ℕ) → w.facts.Voted slot × w.facts.Behind slot) → (body : MailBody)
      → ((group : Draw) (slot : ℕ) (base : Base) (sets : List (List ℕ)) → body ≡ Install group slot base sets → w.facts.State slot base × w.facts.State slot (named group base)) → Hears body
  hears_all rounds entries slots (Prepare group ballot from_slot) states = rounds ballot
  hears_all rounds entries slots (Promise group ballot reports) states = all_reported (λ ballot. (rounds ballot).0) entries reports
  hears_all rounds entries slots (Accept group ballot slot command) states = ((rounds ballot).0, entries slot command)
  hears_all rounds entries slots (Accepted group ballot slot) states = (slots slot).0
  hears_all rounds entries slots (Nack group promised) states = (rounds promised).0
  hears_all rounds entries slots (Learn group slot command) states = (entries slot command, (slots slot).1)
  hears_all rounds entries slots (Install group slot base sets) states = states group slot base sets refl
  hears_all rounds entries slots _ states = tt
