-- What a world stands for, and what it holds.
use Rattle.std.specs.Prelude.{◌≡◌, ℕ, ◌<◌, ◌^◌, Bool, List, length}
use Rattle.sc_words.specs.declared.commands.orders.OrderLine.{OrderLine}
use Rattle.sc_mail.specs.declared.bodies.Mail.{Mail}
use Rattle.sc_actor.specs.declared.rows.Row.{Row}
use Rattle.sc_actor.specs.Mail.{mails}
use Rattle.sc_actor.specs.Walk.{skipped, is_quiet}
use Rattle.sc_scenario.specs.declared.scenario.scenarios.Scenario.{Scenario}
use Rattle.sc_meaning.specs.sound.Players.{system_of, schedule, Lawful, parties, Player, as_nodes}
use Rattle.sc_meaning.specs.sound.Soundness.{IsSoundThroughout}
use Rattle.sc_law_refusal.specs.refusal.Journals.{RefusesWithCause}
use Rattle.sc_texts.specs.chance.KeyStream.{two_words}

-- a scenario, and rows of it
pub record Standing : Type 0 where
  pub scenario : Scenario
  pub rows : List (Row Mail OrderLine)

-- what a world holds: lawful rows of which each prefix is sound and each refusal has its cause, fewer than 2^31 as are their mails; the nodes and clients as these rows leave them; the number of skipped lines; and whether no mail is pending
pub record WorldHolds (scenario : Scenario) (rows : List (Row Mail OrderLine)) (left : List Player) (skips : ℕ) (quiet : Bool) : Type 0 where
  pub lawful : Lawful as_nodes two_words scenario rows
  pub sound : IsSoundThroughout as_nodes scenario rows
  pub refuses : RefusesWithCause as_nodes scenario rows
  pub few_rows : length rows < 2 ^ 31
  pub few_mails : length (mails rows) < 2 ^ 31
  pub parties_are : left ≡ parties as_nodes scenario rows
  pub skips_are : skips ≡ skipped (system_of as_nodes two_words scenario) (schedule scenario) rows
  pub quiet_is : quiet ≡ is_quiet (system_of as_nodes two_words scenario) rows

-- a world stands for these rows of a scenario, which are lawful, each prefix of which is sound, and each refusal in which has its cause
pub record StandsFor (scenario : Scenario) (rows : List (Row Mail OrderLine)) (world : Standing) : Type 0 where
  pub lawful : Lawful as_nodes two_words scenario rows
  pub sound : IsSoundThroughout as_nodes scenario rows
  pub refuses : RefusesWithCause as_nodes scenario rows
  pub scenario_is : world.scenario ≡ scenario
  pub rows_are : world.rows ≡ rows
