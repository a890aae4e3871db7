-- What becomes of orders: in a calm scenario in which no line was cut off, the result of each is reported.
use Rattle.std.specs.Prelude.{◌≡◌, ℕ, ◌^◌, ◌≤◌, true, false, List, [], ◌∷◌, ◌++◌, length, Option, Some}
use Rattle.sc_base.specs.Definitions.{Among}
use Rattle.sc_node_table.specs.Values.{Draw, OrderLine, OrderResult, Body, Coordinating, Heard, No, Mail, Told, TxVote, Seat, Row}
use Rattle.sc_words.specs.declared.commands.orders.OrderResult.TheVariants.{Aborted}
use Rattle.sc_words.specs.declared.commands.votes.Vote.TheVariants as Says
use Rattle.sc_node_table.specs.NodeDefinitions.{ReplicaState}
use Rattle.sc_live_journals.specs.rows.RowDefinitions.{view_at}
use Rattle.sc_actor.specs.declared.rows.Event.TheVariants.{Told as GivesOrder}
use Rattle.sc_actor.specs.Definitions.{mails, is_quiet, unsettled}
use Rattle.sc_live_orderly.specs.OrderlyDefinitions.{AreInTime}
use Rattle.sc_scenario.specs.scenario.Definitions.{IsValid}
use Rattle.sc_scenario.specs.declared.scenario.scenarios.Scenario.{Scenario}
use Rattle.sc_scenario.specs.declared.scenario.scenarios.SchedLine.TheVariants.{Told as OrderOf}
use Rattle.sc_meaning.specs.sound.SoundDefinitions.{Player, births, system_of, schedule, as_nodes, Lawful, Whole}
use Rattle.sc_live_steps.specs.calm.CalmDefinitions.{Rows}
use Rattle.sc_live_steps.specs.orders.OrderDefinitions.{Turn, Work, Asking, Here, Scene, IsOrder, Stage, Still, Ordered, Asks, SentOn, Weighs, Replied, Recorded, Closes, ClosesBoth}
use Rattle.sc_live_plain.specs.PlainDefinitions.{HasCalmLines, IsCalm}

-- one of these mails reports this result of the order with this number
pub record IsTold (sent : List Mail) (number : ℕ) (result : OrderResult) : Type 0 where
  pub mail : Mail
  pub among : Among mail sent
  pub body : mail.body ≡ Told number result

-- one of these mails is the No of a group that was asked to take part in this transaction, with its cause
pub record IsRefusedIn (sent : List Mail) (tx : Draw) : Type 0 where
  pub mail : Mail
  pub among : Among mail sent
  pub coord : Draw
  pub part : Draw
  pub why : No
  pub body : mail.body ≡ TxVote tx coord part (Says.No why)

-- after a prefix of the journal a replica is locked in a transaction of the order with this number, and a No in that transaction was sent
pub record IsVotedDown (births : List (Seat Player)) (journal : Rows) (number : ℕ) : Type 0 where
  pub rows : Rows
  pub more : Rows
  pub journal_is : journal ≡ rows ++ more
  pub group : Draw
  pub node : ℕ
  pub replica : ReplicaState
  pub has : view_at births rows group node ≡ Some replica
  pub tx : Draw
  pub body : Body
  pub heard : Option Heard
  pub locked : replica.group.core.lock ≡ Coordinating tx body number heard
  pub refused : IsRefusedIn (mails rows) tx

-- the journal reports a result of the order with this number: done, committed, refused with its cause, or aborted; and aborted only where a group voted No in the order's transaction
pub record IsReported (births : List (Seat Player)) (journal : Rows) (number : ℕ) : Type 0 where
  pub result : OrderResult
  pub told : IsTold (mails journal) number result
  pub cause : result ≡ Aborted → IsVotedDown births journal number

-- a result of each order of the scenario is reported in the journal, so none stays open, and an order is aborted only by a No
abbrev pub AreOrdersReported : Scenario → Rows → Type 0
AreOrdersReported scenario journal = (node : ℕ) (line : OrderLine) → Among (OrderOf node line) scenario.lines → IsReported (births as_nodes scenario) journal line.number

-- in a whole journal of a valid calm scenario in which no line was cut off, with no more rows than slots and rounds are for, the result of each order is reported
abbrev pub SettledOrdersAreReported : Type 0
SettledOrdersAreReported =
    (words : ℕ → ℕ → ℕ × ℕ) (scenario : Scenario) (journal : List (Row Mail OrderLine)) → IsValid scenario → IsCalm scenario → Lawful as_nodes words scenario journal → Whole as_nodes words scenario journal
    → unsettled (system_of as_nodes words scenario) (schedule scenario) journal ≡ false → length journal ≤ 2 ^ 28 → AreOrdersReported scenario journal

-- ---- while an order is under way

-- one of these rows gives the order
pub record IsGiven (rows : Rows) (line : OrderLine) : Type 0 where
  pub row : Row Mail OrderLine
  pub among : Among row rows
  pub gives : row.event ≡ GivesOrder line

-- the result of each order that these rows give is reported in them
abbrev pub AreReported : List (Seat Player) → Rows → Type 0
AreReported births rows = (line : OrderLine) → IsGiven rows line → IsReported births rows line.number

-- in a lawful journal of a valid calm scenario in which no line was cut off, with no more rows than slots and rounds are for, the result of each order so far is reported where no mail is pending
abbrev pub SettledJournalsReport : Type 0
SettledJournalsReport =
    (words : ℕ → ℕ → ℕ × ℕ) (scenario : Scenario) (rows : List (Row Mail OrderLine)) → IsValid scenario → IsCalm scenario → Lawful as_nodes words scenario rows
    → unsettled (system_of as_nodes words scenario) (schedule scenario) rows ≡ false → length rows ≤ 2 ^ 28 → is_quiet (system_of as_nodes words scenario) rows ≡ true → AreReported (births as_nodes scenario) rows

-- in a lawful journal of a valid scenario of calm lines whose rows come in time, with no more rows than slots and rounds are for, the result of each order so far is reported where no mail is pending
abbrev pub TimelyJournalsReport : Type 0
TimelyJournalsReport =
    (words : ℕ → ℕ → ℕ × ℕ) (scenario : Scenario) (rows : List (Row Mail OrderLine)) → IsValid scenario → HasCalmLines scenario → Lawful as_nodes words scenario rows
    → AreInTime (system_of as_nodes words scenario) rows → length rows ≤ 2 ^ 28 → is_quiet (system_of as_nodes words scenario) rows ≡ true → AreReported (births as_nodes scenario) rows

-- a group's part in an order holds the order: the order's command is the one work of the group's leader, or the group asks others in the order's transaction
pub data HoldsOrder (here : Here) : Type 0 where
  Waits : (work : Work) → IsOrder work → here.work ≡ work ∷ [] → HoldsOrder here
  Coordinates : (tx asked : Draw) (turn : Turn) → here.bond ≡ Asking tx asked turn → HoldsOrder here

-- some group holds the order
abbrev pub IsOrderHeld : Scene → Type 0
IsOrderHeld now = (group : Draw) × HoldsOrder (now.at group)

-- where the coordinator has to record a No, the No was sent
abbrev pub IsRefusalSent : List Mail → Stage → Type 0
IsRefusalSent sent (Recorded deal agreed host) = agreed ≡ false → IsRefusedIn sent deal.tx
IsRefusalSent sent Still = Unit {0}
IsRefusalSent sent (Ordered group chief work) = Unit {0}
IsRefusalSent sent (Asks deal to) = Unit {0}
IsRefusalSent sent (SentOn deal) = Unit {0}
IsRefusalSent sent (Weighs deal host) = Unit {0}
IsRefusalSent sent (Replied deal agreed host) = Unit {0}
IsRefusalSent sent (Closes tx party) = Unit {0}
IsRefusalSent sent (ClosesBoth tx one two) = Unit {0}
