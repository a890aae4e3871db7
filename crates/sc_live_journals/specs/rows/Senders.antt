-- Accept requests and Prepares are sent by the node of their ballot.
use Rattle.std.specs.Prelude.{◌≡◌, ℕ, true, List}
use Rattle.sc_base.specs.Definitions.{Each}
use Rattle.sc_node_table.specs.Values.{Mail, MailBody, Request, Answer, Prepare, Promise, Accept, Accepted, Nack, Learn, Ask, Install, TxPrepare, TxVote, TxOutcome, TxElsewhere, TxWatch, TxWatched, Told, Seat, Node, Client}
use Rattle.sc_actor.specs.Definitions.{mails}
use Rattle.sc_live_orderly.specs.OrderlyDefinitions.{AreInTime}
use Rattle.sc_node_table.specs.NodeDefinitions.{ReplicaState}
use Rattle.sc_scenario.specs.declared.scenario.scenarios.Scenario.{Scenario}
use Rattle.sc_meaning.specs.sound.SoundDefinitions.{Player, births, as_nodes}
use Rattle.sc_live_steps.specs.calm.CalmDefinitions.{players, Rows}
use Rattle.sc_law_walks.specs.WalkDefinitions.{IsKept}

-- If the body is an accept request or a Prepare, its ballot is of the node `from`.
abbrev pub IsOwnAsking : ℕ → MailBody → Type 0
IsOwnAsking from (Accept group ballot slot command) = from ≡ ballot.node
IsOwnAsking from (Prepare group ballot from_slot) = from ≡ ballot.node
IsOwnAsking from (Accepted group ballot slot) = Unit {0}
IsOwnAsking from (Learn group slot command) = Unit {0}
IsOwnAsking from (Install group slot base sets) = Unit {0}
IsOwnAsking from (Promise group ballot reports) = Unit {0}
IsOwnAsking from (Nack group promised) = Unit {0}
IsOwnAsking from (Ask group from_slot) = Unit {0}
IsOwnAsking from (Request group client seq op) = Unit {0}
IsOwnAsking from (Answer group seq answer) = Unit {0}
IsOwnAsking from (TxPrepare tx offer) = Unit {0}
IsOwnAsking from (TxVote tx coord part vote) = Unit {0}
IsOwnAsking from (TxOutcome tx part outcome) = Unit {0}
IsOwnAsking from (TxElsewhere tx coord hint) = Unit {0}
IsOwnAsking from (TxWatch tx watch) = Unit {0}
IsOwnAsking from (TxWatched tx coord part vote) = Unit {0}
IsOwnAsking from (Told order result) = Unit {0}

-- If the mail is an accept request or a Prepare, its sender is the node of its ballot.
abbrev pub IsOwnMail : Mail → Type 0
IsOwnMail mail = IsOwnAsking mail.from mail.body

-- `IsOwnMail` holds of each of these mails.
abbrev pub AreOwn : List Mail → Type 0
AreOwn mails = Each IsOwnMail mails

-- If the replica leads, it does so in a ballot of its own node.
abbrev pub RunsAlone : ReplicaState → Type 0
RunsAlone r = r.running ≡ true → r.me ≡ r.leader.ballot.node

-- Each replica of the player is kept as any is (`IsKept`), and leads only in a ballot of its own node.
abbrev pub PlaysAlone : Player → Type 0
PlaysAlone (Node node) = Each (λ r. IsKept node.me r × RunsAlone r) node.replicas
PlaysAlone (Client client) = Unit {0}

-- In a journal whose rows come in time, `IsOwnMail` holds of all mail, if `PlaysAlone` holds of all players at their births.
abbrev pub BallotsAreOwn : Type 0
BallotsAreOwn = (words : ℕ → ℕ → ℕ × ℕ) (births : List (Seat Player)) (rows : Rows) → Each (λ seat. PlaysAlone seat.actor) births → AreInTime (players words births) rows → AreOwn (mails rows)

-- `PlaysAlone` holds of all players of a scenario at their births.
abbrev pub BirthsPlayAlone : Type 0
BirthsPlayAlone = (scenario : Scenario) → Each (λ seat. PlaysAlone seat.actor) (births as_nodes scenario)
