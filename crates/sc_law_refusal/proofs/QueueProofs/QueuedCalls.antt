-- At most one request of each client waits at any replica, through all rows of its table.
use Rattle.std.proofs.Common.{◌≡◌, ℕ, nat_lt, Bool, true, false, List, ◌∷◌, Option, Some, None, refl, subst}
use Rattle.sc_base.specs.Definitions.{Drawer}
use Rattle.sc_node_table.specs.Values.{Draw, Op, Command, Call, Base, OrderLine, AnswerBody, Mail, MailBody}
use Rattle.sc_node_table.specs.NodeDefinitions.{queued_number, without_request, request_before, put_back, entered, ended, jumped, forgotten, offered, ordered_row, tick_row, made_by, mailed, ReplicaState, Place}
use Rattle.sc_law_walks.specs.WalkDefinitions.{IsOrder}
use Rattle.sc_law_walks.proofs.WalkLemmas.{either_way, grows, TableFacts, TableStates, TableWalk, TableTicks, all_heard, talk_said, TableEntry, entry_holds}
use Rattle.sc_law_walks.proofs.TableRows as rows
use Rattle.sc_law_walks.proofs.TableTicks as tick
use Rattle.sc_law_refusal.specs.queue.OneCall.{KeepsOneCall}
use Rattle.sc_law_refusal.proofs.QueueProofs.ClientCalls.{One, one_none, one_rest, one_last, one_first, one_without, none_left, none_found}

-- a place whose replica keeps at most one call of each client
abbrev pub HasOneCall : Place → Type 0
HasOneCall place = KeepsOneCall place.0

-- ---- what goes back, and what waits last

before_keeps : (o : Option ℕ) (client seq : ℕ) (op : Op) (backlog : List Command) → queued_number backlog client ≡ o → One backlog → One (request_before o client seq (Call client seq op) backlog)
before_keeps None client seq op backlog e k = one_first client seq op backlog (none_found client backlog e) k
before_keeps (Some other) client seq op backlog e k =
    either_way One (nat_lt other seq) (Call client seq op ∷ without_request backlog client) backlog (one_first client seq op (without_request backlog client) (none_left client backlog (k client)) (one_without client backlog k)) k

back_keeps : (command : Command) (r : ReplicaState) → KeepsOneCall r → KeepsOneCall (put_back command r)
unfolding put_back
back_keeps (Call client seq op) r k = before_keeps (queued_number r.backlog client) client seq op r.backlog refl k
back_keeps _ r k = k

-- an order is no request
order_first : (order : Command) (backlog : List Command) → IsOrder order → One backlog → One (order ∷ backlog)
order_first (Call client seq op) backlog q k = absurd q
order_first _ backlog q k = k

-- ---- the parts of a row

entered_keeps : (command : Command) (r : ReplicaState) → KeepsOneCall r → KeepsOneCall (entered command r)
unfolding entered forgotten
entered_keeps command r k = k

ended_keeps : (hint : Option ℕ) (answer : AnswerBody) (r : ReplicaState) (mails : List Mail) → HasOneCall (ended hint answer (r, mails))
unfolding ended
ended_keeps hint answer r mails = one_none

jumped_keeps : (slot : ℕ) (base : Base) (sets : List (List ℕ)) (r : ReplicaState) → KeepsOneCall r → KeepsOneCall (jumped slot base sets r)
unfolding jumped forgotten
jumped_keeps slot base sets r k = k

offered_keeps : (slot : ℕ) (set : List ℕ) (command : Command) (r : ReplicaState) (mails : List Mail) → KeepsOneCall r → HasOneCall (offered slot set command (r, mails))
unfolding offered
offered_keeps slot set command r mails k = k

rest_keeps : (command : Command) (backlog : List Command) (r : ReplicaState) → r.backlog ≡ command ∷ backlog → KeepsOneCall r → KeepsOneCall (record r { backlog = backlog })
rest_keeps command backlog r e k = one_rest command backlog (subst One e k)

entry_keeps : (counted : Bool) (command : Command) (r : ReplicaState) → TableEntry counted command r HasOneCall HasOneCall
entry_keeps counted command r = record {
  Lost = λ other. Unit {0};
  entered = λ mails k. entered_keeps command r k;
  answers = λ client seq op answer s mails t e a k. k;
  returned = λ s mails t k. back_keeps command s k;
  reports = λ result s mails e k. k;
  speaks = λ s mails k. k;
  teaches = λ to s mails t a k. k;
  installs = λ to s mails t new k. k;
  repolls = λ to s mails t new k. k;
  flies = λ other s mails e k. tt;
  landed = λ place k. k;
  back = λ other s mails l k. back_keeps other s k;
}

abbrev queue_facts : TableFacts
queue_facts = record {
  First = λ r. Unit {0};
  Early = λ place. HasOneCall place;
  Late = λ place. HasOneCall place;
  Hears = λ from body. Unit {0};
  Round = λ ballot. Unit {0};
  Entry = λ slot command. Unit {0};
  Files = λ act. Unit {0};
  Orders = λ order. Unit {0};
  Given = λ drawer line. Unit {0};
  Child = λ base. Unit {0};
}

queue_states : TableStates queue_facts
queue_states = record {
  late = λ place k. k;
  again = λ command r mails on e k. (k, tt);
  counted_entry = λ command r mails on e low k. entry_holds true command r HasOneCall HasOneCall (entry_keeps true command r) mails k;
  learnt_entry = λ from group command r mails h first k. entry_holds false command r HasOneCall HasOneCall (entry_keeps false command r) mails k;
  children = λ counted command r mails child may e k. tt;
  jumped = λ from group slot base sets r mails h many later off k. jumped_keeps slot base sets r k;
  hinted = λ hint r mails off k. k;
  stops = λ hint r mails on k. ended_keeps hint _ r mails;
  goes = λ into r mails on e k. ended_keeps None _ r mails;
  overtaken = λ ballot r mails good on t k. ended_keeps (Some ballot.node) _ _ mails;
  elected = λ r mails k. k;
  seen = λ ballot r mails good t on k. k;
  polled = λ from group ballot reports r mails on h k. k;
  counts = λ from ballot slot set count r mails on e k. k;
  chosen = λ from group ballot slot set command r mails on e h k. (tt, k);
  promised = λ from group ballot from_slot r mails h top t k. k;
  accepted = λ from group report r mails h top t k. k;
  filed = λ act r mails on q e brought k. k;
  ordered = λ order r mails on q may k. one_last order r.backlog (order_first order r.backlog q k);
  requested = λ client seq op r mails on e k. one_last (Call client seq op) r.backlog (one_first client seq op r.backlog (none_found client r.backlog e) k);
  requested_again = λ client seq other op r mails on e g k. one_last (Call client seq op) (without_request r.backlog client) (one_first client seq op (without_request r.backlog client) (none_left client r.backlog (k client)) (one_without client r.backlog k));
  turned = λ command answer backlog r mails on e no k. rest_keeps command backlog r e k;
  offers_value = λ slot set command r mails on near free e k. offered_keeps slot set command r mails k;
  offers_noop = λ slot set r mails on near free gap k. offered_keeps slot set _ r mails k;
  offers_act = λ slot set act acts r mails on near free e k. offered_keeps slot set act (record r { acts = acts }) mails k;
  offers_call = λ slot set command backlog r mails on near free e k. offered_keeps slot set command (record r { backlog = backlog }) mails (rest_keeps command backlog r e k);
}

abbrev queue_walk : TableWalk
queue_walk = record {
  facts = queue_facts;
  hears = all_heard queue_facts (λ ballot. tt) (λ act. tt);
  states = queue_states;
  says = talk_said queue_facts (λ r. grows r.me (λ mails. KeepsOneCall r) (λ mails mail k. k)) (λ to r mails k. k) (λ to slot command r mails e k. k) (λ to group slot command r mails h low k. k) (λ to r mails k. k);
}

queue_ticks : TableTicks queue_facts
queue_ticks = record { waited = λ waits r mails k. k; gives_up = λ tx body order heard r mails e on no k. k; agains = record { reminds = λ r mails on k. k; reasks = λ to slot command r mails on e k. k; relearns = λ to command r mails e k. k } }

-- ---- all rows

pub mailed_keeps : (from : ℕ) (body : MailBody) (place : Place) → HasOneCall place → HasOneCall (mailed from body place).0
mailed_keeps from body place k = (rows.takes_mail queue_walk from body place tt tt k).0

pub ordered_keeps : (drawer : Drawer) (line : OrderLine) (place : Place) → HasOneCall place → HasOneCall (ordered_row drawer line place)
ordered_keeps drawer line place k = rows.orders queue_walk drawer line place tt (λ e. tt) k

pub tick_keeps : (on : Bool) (drawer : Drawer) (place : Place) → HasOneCall place → HasOneCall (tick_row on drawer place)
tick_keeps on drawer place k = tick.ticks queue_walk queue_ticks on drawer place (λ here f line e taken. tt) k

-- a replica that is made of a state that is sent
pub made_keeps : (me from : ℕ) (group : Draw) (slot : ℕ) (base : Base) (sets : List (List ℕ)) → HasOneCall (made_by me from group slot base sets)
unfolding forgotten
made_keeps me from group slot base sets = rows.makes queue_walk me from group slot base sets one_none
