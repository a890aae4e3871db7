use Rattle.std.proofs.Common.{◌≡◌, ◌≤◌, ◌<◌, true, IfOk, sym, subst, All}
use Rattle.sc_actor.specs.System.{are_apart}
use Rattle.sc_thread_drive.specs.CompanyRows.{HasOpened}
use Rattle.sc_meaning.specs.sound.Players.{most_actor}
use Rattle.sc_run.proofs.begun.begin.Goals as goal

pub births-requires-clause-ordered : goal.births-requires-clause-ordered
births-requires-clause-ordered c = (c.valid_scenarios_can_play.ensures c.args.scenario.now c.requires.valid).ordered

pub births-requires-clause-few : goal.births-requires-clause-few
births-requires-clause-few c = (c.valid_scenarios_can_play.ensures c.args.scenario.now c.requires.valid).few

pub open-requires-clause-far : goal.open-requires-clause-far
open-requires-clause-far c κs =
    subst (λ seats. are_apart seats ≡ true) (sym c.in_ok-seats.ensures) (c.valid_scenarios_can_play.ensures c.args.scenario.now c.requires.valid).apart

pub open-requires-clause-numbered : goal.open-requires-clause-numbered
open-requires-clause-numbered c κs =
    subst (λ seats. All (λ seat. (0 < seat.who) × (seat.who ≤ most_actor)) seats) (sym c.in_ok-seats.ensures)
    (c.valid_scenarios_can_play.ensures c.args.scenario.now c.requires.valid).numbered

pub returns-clause-opened : goal.returns-clause-opened
returns-clause-opened c =
    subst (λ seats. IfOk c.open.result (HasOpened seats)) c.in_ok-seats.ensures c.open.ensures.opened
