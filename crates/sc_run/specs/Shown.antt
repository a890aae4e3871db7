-- What is shown of a scenario and a journal of it after `scan`.
use Rattle.std.specs.Prelude.{◌≡◌, ℕ, List, length, take}
use Rattle.sc_actor.specs.declared.rows.Row.{Row}
use Rattle.sc_words.specs.declared.commands.orders.OrderLine.{OrderLine}
use Rattle.sc_mail.specs.declared.bodies.Mail.{Mail}
use Rattle.sc_world_entries.specs.scans.Laws.{ShowsStore}
use Rattle.sc_world_entries.specs.scans.Scan.{scan_at}
use Rattle.sc_world_entries.specs.scans.Text.{scan_lines}
use Rattle.sc_scenario.specs.declared.scenario.scenarios.Scenario.{Scenario}
use Rattle.sc_meaning.specs.sound.Players.{as_nodes}
use Rattle.sc_cli.specs.declared.subcommands.Sight.{Sight}

-- The lines are the text of a scan after the number of rows that is asked for, or after all where there are fewer; and the scan says what the arc holds after them.
pub record ShowsScan (scenario : Scenario) (sight : Sight) (journal : List (Row Mail OrderLine)) (lines : List (List ℕ)) : Type 0 where
  pub text : let rows : List (Row Mail OrderLine) = take sight.rows journal in
      lines ≡ scan_lines sight.most (length rows) (scan_at as_nodes scenario.groups rows sight.arc)
  pub store : let rows : List (Row Mail OrderLine) = take sight.rows journal in
      ShowsStore as_nodes scenario.groups rows sight.arc (scan_at as_nodes scenario.groups rows sight.arc)
