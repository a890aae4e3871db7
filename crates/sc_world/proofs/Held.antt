-- What a replay leaves is what a world holds.
use Rattle.std.proofs.Common.{◌≡◌, ◌<◌, ◌^◌, List, length, map, ◌∙◌, ap}
use Rattle.sc_words.specs.declared.commands.orders.OrderLine.{OrderLine}
use Rattle.sc_mail.specs.declared.bodies.Mail.{Mail}
use Rattle.sc_actor.specs.declared.rows.Row.{Row}
use Rattle.sc_actor.specs.Mail.{mails}
use Rattle.sc_texts.specs.chance.KeyStream.{two_words}
use Rattle.sc_world_replay.specs.declared.judging.Replayed.{Replayed}
use Rattle.sc_world_replay.specs.Replays.{Leaves}
use Rattle.sc_scenario.specs.declared.scenario.scenarios.Scenario.{Scenario}
use Rattle.sc_meaning.specs.sound.Players.{system_of, schedule, Player, as_nodes}
use Rattle.sc_meaning.specs.sound.Soundness.{IsSoundThroughout}
use Rattle.sc_law_refusal.specs.refusal.Journals.{RefusesWithCause}
use Rattle.sc_world.specs.Worlds.{WorldHolds}

-- what a replay leaves is what a world holds, where each prefix of the rows is sound and their refusals have causes
pub holds : (scenario : Scenario) (rows : List (Row Mail OrderLine)) (parties : List Player) (left : Replayed Player) → IsSoundThroughout as_nodes scenario rows → RefusesWithCause as_nodes scenario rows → length rows < 2 ^ 31 → length (mails rows) < 2 ^ 31 →
    parties ≡ map (λ seat. seat.actor) left.seats.items → Leaves (system_of as_nodes two_words scenario) (schedule scenario) rows left → WorldHolds scenario rows parties left.skipped left.quiet
holds scenario rows parties left sound refuses few_rows few_mails are leaves = record {
  lawful = leaves.replayed.lawful;
  sound = sound;
  refuses = refuses;
  few_rows = few_rows;
  few_mails = few_mails;
  parties_are = are ∙ ap (map (λ seat. seat.actor)) leaves.replayed.actors;
  skips_are = leaves.replayed.skips_are;
  quiet_is = leaves.quiet_now;
}
