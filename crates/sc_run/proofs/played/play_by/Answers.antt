use Rattle.std.proofs.Common.{◌≢◌, ◌≤◌, ◌∙◌, map, sym, ap, subst}
use Rattle.sc_actor.specs.Counted.{journal_bytes}
use Rattle.sc_actor.specs.declared.schedules.Played.TheVariants.{Ended, Full, OutOfMemory}
use Rattle.sc_texts.specs.chance.KeyStream.{two_words}
use Rattle.sc_thread_ports.specs.exchange.Ports.{seen}
use Rattle.sc_thread_drive.specs.Goings.{SparesGoers}
use Rattle.sc_thread_drive.specs.CompanyRows.{IsDriven, StaysWhole}
use Rattle.sc_meaning.specs.sound.Players.{births, as_nodes}
use Rattle.sc_run.specs.Played.{mail_weight, IsPlayed}
use Rattle.sc_run.proofs.Plays.{actors_of, ends, fills, no_out_of_memory}
use Rattle.sc_run.proofs.played.play_by.Goals as goal

pub drive-requires-clause-begins : goal.drive-requires-clause-begins
drive-requires-clause-begins g c κs within = (births as_nodes c.args.scenario.now, c.requires.opened)

pub drive-requires-clause-spared : goal.drive-requires-clause-spared
drive-requires-clause-spared g c κs within =
    subst SparesGoers (sym (c.as_slice.ensures.value ∙ c.in-Ok.ensures)) (c.valid_scenarios_can_play.ensures c.args.scenario.now c.requires.valid).spared

pub returns-clause-played : goal.returns-clause-played
returns-clause-played g c =
    let old = c.args.company.now in let new = c.drive.new.company in let scenario = c.args.scenario.now in let lines = c.as_slice.result.now in let law = c.valid_journals_are_sound.ensures in let causes = c.valid_journals_refuse_with_cause.ensures in let budgets = c.budgets_suffice.ensures in
    let lines_are = c.as_slice.ensures.value ∙ c.in-Ok.ensures in
    elim c.drive.result as (λ played. (played ≢ OutOfMemory → StaysWhole old new) → IsDriven two_words (births as_nodes scenario) lines old.net.limit new played → IsPlayed scenario old.net.limit (seen new.net) (map (λ s. s.actor) new.shells.items) played) [
      | Ended cut quiet skips ↦ λ kept e.
          ends law causes budgets scenario c.requires.valid lines lines_are old.net.limit (seen new.net) cut quiet skips (map (λ s. s.actor) new.shells.items)
          e.lawful e.whole (subst (λ limit. journal_bytes mail_weight (seen new.net) ≤ limit) (kept (no_out_of_memory cut quiet skips)).stays.exchange.2 e.within) e.cut_is e.quiet_is e.skips_are (actors_of new.shells.items ∙ ap (map (λ seat. seat.actor)) e.left)
      | Full ↦ λ kept full. fills law causes budgets scenario c.requires.valid lines lines_are old.net.limit (seen new.net) full
      | OutOfMemory ↦ λ kept full. tt
    ] c.drive.ensures.kept (c.drive.ensures.driven (births as_nodes scenario) c.requires.opened)
