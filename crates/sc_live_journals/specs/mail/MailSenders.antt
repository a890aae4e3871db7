-- Who sends each mail of a journal, and to whom.
use Rattle.std.specs.Prelude.{◌≡◌, ℕ, ◌==◌, true, List, [], ◌∷◌, ◌++◌, find, None}
use Rattle.sc_base.specs.Definitions.{Each, client_actor}
use Rattle.sc_node_table.specs.Values.{OrderLine, Mail, MailBody, Request, Answer, Prepare, Promise, Accept, Accepted, Nack, Learn, Ask, Install, TxPrepare, TxVote, TxOutcome, TxElsewhere, TxWatch, TxWatched, Told, Node, Client, Seat, Row}
use Rattle.sc_actor.specs.Definitions.{mails}
use Rattle.sc_live_orderly.specs.OrderlyDefinitions.{AreInTime}
use Rattle.sc_scenario.specs.scenario.Definitions.{IsBounded}
use Rattle.sc_scenario.specs.declared.scenario.scenarios.Scenario.{Scenario}
use Rattle.sc_node_table.specs.NodeDefinitions.{may_come}
use Rattle.sc_meaning.specs.sound.SoundDefinitions.{Player, births, as_nodes}
use Rattle.sc_live_steps.specs.calm.CalmDefinitions.{players, Rows}
use Rattle.sc_live_journals.specs.rows.RowDefinitions.{IsSeat}

-- What the node `me` may send to `to`: an answer goes to a client and the report of an order to the desk; an offer and a watch name the node itself; a node sends no request.
abbrev pub IsNodesBody : ℕ → ℕ → MailBody → Type 0
IsNodesBody me to (Request group client seq op) = ⊥
IsNodesBody me to (Answer group seq answer) = (client : ℕ) × (to ≡ client_actor client)
IsNodesBody me to (Told number result) = to ≡ 0
IsNodesBody me to (TxPrepare tx offer) = offer.by ≡ me
IsNodesBody me to (TxWatch tx watch) = watch.by ≡ me
IsNodesBody me to (Prepare group ballot from_slot) = Unit {0}
IsNodesBody me to (Promise group ballot reports) = Unit {0}
IsNodesBody me to (Accept group ballot slot command) = Unit {0}
IsNodesBody me to (Accepted group ballot slot) = Unit {0}
IsNodesBody me to (Nack group promised) = Unit {0}
IsNodesBody me to (Learn group slot command) = Unit {0}
IsNodesBody me to (Ask group from_slot) = Unit {0}
IsNodesBody me to (Install group slot base sets) = Unit {0}
IsNodesBody me to (TxVote tx coord part vote) = Unit {0}
IsNodesBody me to (TxOutcome tx part outcome) = Unit {0}
IsNodesBody me to (TxElsewhere tx coord hint) = Unit {0}
IsNodesBody me to (TxWatched tx coord part vote) = Unit {0}

-- What the client `me` may send: its own requests alone.
abbrev pub IsClientsBody : ℕ → MailBody → Type 0
IsClientsBody me (Request group client seq op) = client ≡ me
IsClientsBody me (Answer group seq answer) = ⊥
IsClientsBody me (Told number result) = ⊥
IsClientsBody me (TxPrepare tx offer) = ⊥
IsClientsBody me (TxWatch tx watch) = ⊥
IsClientsBody me (Prepare group ballot from_slot) = ⊥
IsClientsBody me (Promise group ballot reports) = ⊥
IsClientsBody me (Accept group ballot slot command) = ⊥
IsClientsBody me (Accepted group ballot slot) = ⊥
IsClientsBody me (Nack group promised) = ⊥
IsClientsBody me (Learn group slot command) = ⊥
IsClientsBody me (Ask group from_slot) = ⊥
IsClientsBody me (Install group slot base sets) = ⊥
IsClientsBody me (TxVote tx coord part vote) = ⊥
IsClientsBody me (TxOutcome tx part outcome) = ⊥
IsClientsBody me (TxElsewhere tx coord hint) = ⊥
IsClientsBody me (TxWatched tx coord part vote) = ⊥

-- What a player may send, by whether it is a node or a client. A client's number as an actor is that of `client_actor`.
abbrev pub IsPlayers : ℕ → Player → Mail → Type 0
IsPlayers who (Node node) mail = IsNodesBody who mail.to mail.body
IsPlayers who (Client client) mail = (who ≡ client_actor client.me) × IsClientsBody client.me mail.body

-- A player of one of these seats sent the mail, and may send it.
pub record IsPosted (births : List (Seat Player)) (mail : Mail) : Type 0 where
  pub seat : Seat Player
  pub born : IsSeat births seat
  pub from_is : mail.from ≡ seat.who
  pub fact : IsPlayers seat.who seat.actor mail

-- In a journal of a scenario whose rows come in time, `IsPosted` holds of each mail.
abbrev pub MailIsPosted : Type 0
MailIsPosted = (words : ℕ → ℕ → ℕ × ℕ) (scenario : Scenario) (rows : Rows) → AreInTime (players words (births as_nodes scenario)) rows → Each (IsPosted (births as_nodes scenario)) (mails rows)

-- Each mail of a row in time is from the player whose row it is.
abbrev pub RowsPostTheirOwn : Type 0
RowsPostTheirOwn = (words : ℕ → ℕ → ℕ × ℕ) (scenario : Scenario) (rows : Rows) (row : Row Mail OrderLine) → AreInTime (players words (births as_nodes scenario)) (rows ++ row ∷ []) → Each (λ mail. mail.from ≡ row.who) row.sent

-- In a journal of a bounded scenario whose rows come in time, each mail comes from one that may send it.
abbrev pub MailMayCome : Type 0
MailMayCome = (words : ℕ → ℕ → ℕ × ℕ) (scenario : Scenario) (rows : Rows) → IsBounded scenario → AreInTime (players words (births as_nodes scenario)) rows → Each (λ mail. may_come mail.from mail.body ≡ true) (mails rows)

-- No player of a scenario has the desk's number, 0.
abbrev pub DesksAreNotBorn : Type 0
DesksAreNotBorn = (scenario : Scenario) → find (λ (other : Seat Player). other.who == 0) (births as_nodes scenario) ≡ None
