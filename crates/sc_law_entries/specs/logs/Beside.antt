-- The four facts that make a journal sound beside its groups and entries: one value per slot of each group, replicas that have executed prefixes, and calls and replies in the order of rows.
use Rattle.std.specs.Prelude.{◌≡◌, ℕ, ◌+◌, ◌-◌, ◌≤◌, List, ◌∷◌, ◌++◌, length, Some, slice_get}
use Rattle.sc_base.specs.Definitions.{Among}
use Rattle.sc_base.specs.declared.ops.Op.{Op}
use Rattle.sc_base.specs.declared.ops.Reply.{Reply}
use Rattle.sc_words.specs.declared.commands.commands.Command.{Command}
use Rattle.sc_words.specs.declared.commands.commands.Command.TheVariants.{Call}
use Rattle.sc_words.specs.declared.commands.cores.Base.{Base}
use Rattle.sc_words.specs.declared.commands.orders.OrderLine.{OrderLine}
use Rattle.sc_mail.specs.declared.bodies.Mail.{Mail}
use Rattle.sc_actor.specs.declared.rows.Row.{Row}
use Rattle.sc_group_table.specs.machine.MachineDefinitions.{group_of, state_after, applied}
use Rattle.sc_paxos_law.specs.PaxosLawDefinitions.{IsLog}
use Rattle.sc_meaning.specs.sound.SoundDefinitions.{Ahead, route_of, accepts, groups_at, rule_of, IsChosenIn, decided_log, issue_row, kept_reply, answer_row, Continues, AllHaveRun}
use Rattle.sc_scenario.specs.declared.scenario.scenarios.Asks.{Asks}
use Rattle.sc_scenario.specs.declared.scenario.scenarios.Scenario.{Scenario}
use Rattle.sc_law_entries.specs.history.HistoryDefinitions.{IsReplied}
use Rattle.sc_law_entries.specs.logs.Descent.{Rows, added_by}

-- one value per slot of a group; its decided log is a log, and the longest
pub record HasOneValue (ahead : Ahead) (base : Base) (rows : Rows) : Type 0 where
  pub one_value : (log other : List Command) → IsLog (rule_of ahead base) (accepts base.core.id rows) log → IsLog (rule_of ahead base) (accepts base.core.id rows) other
      → (slot : ℕ) (command another : Command) → IsChosenIn ahead base rows log (slot + 1) command → IsChosenIn ahead base rows other (slot + 1) another → command ≡ another
  pub is_log : IsLog (rule_of ahead base) (accepts base.core.id rows) (decided_log ahead base rows)
  pub longest : (other : List Command) → IsLog (rule_of ahead base) (accepts base.core.id rows) other → Continues other (decided_log ahead base rows)

-- a call is a request of a client of the scenario, which issued it in these rows
pub record IsIssuedIn (scenario : Scenario) (rows : Rows) (client seq : ℕ) (op : Op) : Type 0 where
  pub asks : Asks
  pub stands : Among asks scenario.clients
  pub who : client ≡ asks.client
  pub first : 1 ≤ seq
  pub op_is : slice_get asks.ops (seq - 1) ≡ Some op
  pub issued : ℕ
  pub is_issued : issue_row client seq rows ≡ Some issued

-- each call that a row decides was issued before it
abbrev pub CallsAreIssued : Ahead → Scenario → Rows → Type 0
CallsAreIssued ahead scenario rows = (before : Rows) (row : Row Mail OrderLine) (later : Rows) → rows ≡ before ++ row ∷ later → (base : Base) → Among base (groups_at ahead scenario.groups before)
    → (client seq : ℕ) (op : Op) → Among (Call client seq op) (added_by ahead before row base) → IsIssuedIn scenario before client seq op

-- a reply to a call was decided before the row that takes it: the log of a group had the call before that row, and the group after the entries before the call answers with the reply
pub record IsDecidedBefore (ahead : Ahead) (bases : List Base) (rows : Rows) (client seq : ℕ) (reply : Reply) (answered : ℕ) : Type 0 where
  pub before : Rows
  pub row : Row Mail OrderLine
  pub later : Rows
  pub are : rows ≡ before ++ row ∷ later
  pub taken : answered ≡ length before + 1
  pub base : Base
  pub stands : Among base (groups_at ahead bases before)
  pub prefix : List Command
  pub op : Op
  pub rest : List Command
  pub log : decided_log ahead base before ≡ prefix ++ Call client seq op ∷ rest
  pub replied : IsReplied (applied (state_after (group_of base) prefix) (Call client seq op)).1 reply

-- each reply that a client keeps was decided before the client took it, and so was one for each row that answers a request
pub record RepliesAreDecided (ahead : Ahead) (scenario : Scenario) (rows : Rows) : Type 0 where
  pub kept : (first : Base) (others : List Base) → scenario.groups ≡ first ∷ others → (asks : Asks) → Among asks scenario.clients
      → (seq : ℕ) (reply : Reply) → kept_reply (route_of first) asks seq rows ≡ Some reply → (answered : ℕ) × IsDecidedBefore ahead scenario.groups rows asks.client seq reply answered
  pub answered : (first : Base) (others : List Base) → scenario.groups ≡ first ∷ others → (asks : Asks) → Among asks scenario.clients
      → (seq : ℕ) → 1 ≤ seq → (answered : ℕ) → answer_row (route_of first) asks seq rows ≡ Some answered → (reply : Reply) × IsDecidedBefore ahead scenario.groups rows asks.client seq reply answered

-- the four facts together
pub record HoldsBeside (ahead : Ahead) (scenario : Scenario) (rows : Rows) : Type 0 where
  pub values : (base : Base) → Among base (groups_at ahead scenario.groups rows) → HasOneValue ahead base rows
  pub have_run : AllHaveRun ahead scenario rows
  pub issued : CallsAreIssued ahead scenario rows
  pub replies : RepliesAreDecided ahead scenario rows
