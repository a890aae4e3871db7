-- What every lawful journal of a scenario that begins well says of all its groups, where what its orders queue is allowed.
use Rattle.std.specs.Prelude.{ℕ, List, [], ◌++◌}
use Rattle.sc_node_table.specs.Values.{Command, Route}
use Rattle.sc_group_table.specs.machine.MachineDefinitions.{Group, state_after}
use Rattle.sc_base.specs.Definitions.{IsRoster}
use Rattle.sc_meaning.specs.sound.SoundDefinitions.{Ahead, Lawful, IsSound}
use Rattle.sc_scenario.specs.declared.scenario.scenarios.Scenario.{Scenario}
use Rattle.sc_law_entries.specs.history.HistoryDefinitions.{BeginBare}
use Rattle.sc_law_entries.specs.ring.RingDefinitions.{Sources}
use Rattle.sc_law_entries.specs.logs.LogDefinitions.{HoldsBeside, Rows, DecideInTurn}
use Rattle.sc_law_groups.specs.whole.Orders.{OrdersAreAllowed}
use Rattle.sc_law_groups.specs.whole.Begins.{BeginsWell}

-- the members of a group stay one to nine nodes, ascending, after every log
abbrev pub MembersStayRosters : Type 0
MembersStayRosters = (group : Group) (log : List Command) → IsRoster group.core.members → IsRoster (state_after group log).core.members

-- each row of such a lawful journal decides what was allowed before it, and nothing yet for a group that it creates
abbrev pub LawfulJournalsDecideInTurn : Type 0
LawfulJournalsDecideInTurn = (sources : Sources) (ahead : Ahead) (words : ℕ → ℕ → ℕ × ℕ) (scenario : Scenario) (route : Route) → BeginsWell sources ahead scenario route
    → (rows : Rows) → OrdersAreAllowed sources ahead scenario rows → Lawful ahead words scenario rows → DecideInTurn sources ahead scenario.groups [] rows

-- in such a lawful journal each group has one value per slot, each replica has executed a prefix, calls were issued before they were decided, and replies were decided before they were taken
abbrev pub LawfulJournalsHoldBeside : Type 0
LawfulJournalsHoldBeside = (sources : Sources) (ahead : Ahead) (words : ℕ → ℕ → ℕ × ℕ) (scenario : Scenario) (route : Route) → BeginsWell sources ahead scenario route
    → (rows : Rows) → OrdersAreAllowed sources ahead scenario rows → Lawful ahead words scenario rows → HoldsBeside ahead scenario rows

-- each prefix of such a lawful journal is sound, where its groups begin with nothing held
abbrev pub LawfulJournalsAreSound : Type 0
LawfulJournalsAreSound = (sources : Sources) (ahead : Ahead) (words : ℕ → ℕ → ℕ × ℕ) (scenario : Scenario) (route : Route) → BeginsWell sources ahead scenario route → BeginBare scenario.groups
    → (rows more : Rows) → OrdersAreAllowed sources ahead scenario (rows ++ more) → Lawful ahead words scenario (rows ++ more) → IsSound ahead scenario rows more
