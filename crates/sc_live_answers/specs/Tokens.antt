-- How many tokens a client counts: its requests and answers in mail, and its requests queued, in flight or ready at replicas.
use Rattle.std.specs.Prelude.{◌≡◌, ℕ, ◌+◌, ◌-◌, ◌≤◌, ◌==◌, List, [], ◌∷◌, ◌++◌, sum_by, if◌then◌else◌}
use Rattle.sc_base.specs.Definitions.{client_actor}
use Rattle.sc_node_table.specs.Values.{Op, Command, Noop, Call, Join, Leave, Split, Begin, Prepared, RecordVote, GiveUp, Finish, Watched, RecordWatch, Base, OrderLine, Mail, Node, Client, Row, MailBody, Request, Answer, Prepare, Promise, Accept, Accepted, Nack, Learn, Ask, Install, TxPrepare, TxVote, TxOutcome, TxElsewhere, TxWatch, TxWatched, Told, Flight}
use Rattle.sc_actor.specs.Definitions.{value}
use Rattle.sc_scenario.specs.declared.scenario.scenarios.Scenario.{Scenario}
use Rattle.sc_scenario.specs.scenario.Definitions.{IsValid}
use Rattle.sc_meaning.specs.sound.SoundDefinitions.{Player, player_table, node_seat, system_of, as_nodes}
use Rattle.sc_live_orderly.specs.OrderlyDefinitions.{IsTidy, IsOrderly, Owing, under_way, owed}
use Rattle.sc_live_steps.specs.calm.CalmDefinitions.{waiting_one}
use Rattle.sc_live_plain.specs.PlainDefinitions.{IsAsking, AreFarFromLast, IsLinkedSetting, Setting, IsSetting, Frame, IsFrame, IsBegun, IsPlainBody, IsPlainAt, IsDue}
use Rattle.sc_node_table.specs.NodeDefinitions.{NodeState, ReplicaState, Place, next, last_slot, mailed, slots_ahead}

-- one token if the command is a request of client c
abbrev pub command_token : ℕ → Command → ℕ
command_token c (Call client seq op) = if client == c then 1 else 0
command_token c Noop = 0
command_token c (Join node order) = 0
command_token c (Leave node order) = 0
command_token c (Split at child order) = 0
command_token c (Begin tx body order) = 0
command_token c (Prepared tx offer) = 0
command_token c (RecordVote tx vote by) = 0
command_token c (GiveUp tx) = 0
command_token c (Finish tx outcome) = 0
command_token c (Watched tx watch) = 0
command_token c (RecordWatch tx vote by) = 0

-- one token if the mail is a request of client c, or an answer to it
abbrev pub body_token : ℕ → ℕ → MailBody → ℕ
body_token c to (Request group client seq op) = if client == c then 1 else 0
body_token c to (Answer group seq answer) = if to == client_actor c then 1 else 0
body_token c to (Prepare group ballot from_slot) = 0
body_token c to (Promise group ballot reports) = 0
body_token c to (Accept group ballot slot command) = 0
body_token c to (Accepted group ballot slot) = 0
body_token c to (Nack group promised) = 0
body_token c to (Learn group slot command) = 0
body_token c to (Ask group from_slot) = 0
body_token c to (Install group slot base sets) = 0
body_token c to (TxPrepare tx offer) = 0
body_token c to (TxVote tx coord part vote) = 0
body_token c to (TxOutcome tx part outcome) = 0
body_token c to (TxElsewhere tx coord hint) = 0
body_token c to (TxWatch tx watch) = 0
body_token c to (TxWatched tx coord part vote) = 0
body_token c to (Told order result) = 0

-- the token of a mail: that of its body
abbrev pub mail_token : ℕ → Mail → ℕ
mail_token c mail = body_token c mail.to mail.body

-- the tokens of the commands in flight
abbrev pub flight_tokens : ℕ → List (Flight Command) → ℕ
flight_tokens c flights = sum_by (λ flight. command_token c flight.value) flights

-- the tokens of the commands that are ready
abbrev pub ready_tokens : ℕ → List (ℕ × Command) → ℕ
ready_tokens c ready = sum_by (λ entry. command_token c entry.1) ready

-- the tokens of client c at a replica: its requests that are queued, in flight or ready
abbrev pub replica_tokens : ℕ → ReplicaState → ℕ
replica_tokens c r = sum_by (command_token c) r.acts + sum_by (command_token c) r.backlog + flight_tokens c r.leader.flights + ready_tokens c r.ready

-- the tokens of client c at a replica and in the mail that its row has sent so far
abbrev pub place_tokens : ℕ → Place → ℕ
place_tokens c place = replica_tokens c place.0 + sum_by (mail_token c) place.1

-- while clients ask, no row of a replica raises the number of a client's tokens
abbrev pub TokensStay : Type 0
TokensStay =
    (scenario : Scenario) (rows : List (Row Mail OrderLine)) (frame : Frame) (c me from : ℕ) (body : MailBody) (r : ReplicaState) → IsFrame frame → next r + slots_ahead ≤ last_slot → IsPlainAt (IsBegun scenario rows) frame me r → IsPlainBody (IsBegun scenario rows) frame from me body → IsDue r body
    → ((client seq : ℕ) (op : Op) → IsBegun scenario rows client seq op → me ≡ client_actor client → ⊥)
    → place_tokens c (mailed from body (r, [])).0 ≤ replica_tokens c r + body_token c me body

-- the tokens of client c at a player: those of a node's replicas, and of the client itself one where no request waits
abbrev pub player_token : ℕ → Player → ℕ
player_token c (Node node) = sum_by (replica_tokens c) node.replicas
player_token c (Client client) = if client.me == c then 1 - waiting_one client.waiting else 0

-- the tokens of client c, counted over players and mail
abbrev pub token_owing : ℕ → Owing Player Mail
token_owing c = record { actor = player_token c; mail = mail_token c }

-- while clients ask, no row of a journal raises the number of a client's tokens, with one counted where it waits for no answer
abbrev pub TokensNeverRise : Type 0
TokensNeverRise =
    (words : ℕ → ℕ → ℕ × ℕ) (scenario : Scenario) (set : Setting) (first : Base) (others : List Base) (rows : List (Row Mail OrderLine)) (row : Row Mail OrderLine) (c : ℕ)
    → IsValid scenario → scenario.groups ≡ first ∷ others → IsSetting set → IsLinkedSetting set → IsTidy rows → AreFarFromLast scenario set rows → IsAsking words scenario set first rows → IsOrderly (system_of as_nodes words scenario) rows row
    → owed (system_of as_nodes words scenario) (token_owing c) (rows ++ row ∷ []) ≤ owed (system_of as_nodes words scenario) (token_owing c) rows

-- where no replica has a request of the client and no mail is under way, the client counts at most one token
abbrev pub IdleCountsOnce : Type 0
IdleCountsOnce =
    (words : ℕ → ℕ → ℕ × ℕ) (scenario : Scenario) (set : Setting) (first : Base) (others : List Base) (rows : List (Row Mail OrderLine)) (c : ℕ) → IsValid scenario → scenario.groups ≡ first ∷ others → IsAsking words scenario set first rows
    → ((me : ℕ) (node : NodeState) → 1 ≤ me → me ≤ scenario.nodes → value player_table (node_seat as_nodes scenario.groups scenario.policy me) rows ≡ Node node → sum_by (replica_tokens c) node.replicas ≡ 0)
    → under_way (system_of as_nodes words scenario) rows ≡ [] → owed (system_of as_nodes words scenario) (token_owing c) rows ≤ 1
