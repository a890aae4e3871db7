use Rattle.std.proofs.Common.{Option, refl, subst}
use Rattle.std.specs.Prelude.{IfSome}
use Rattle.sc_actor.specs.declared.schedules.Line.{Line}
use Rattle.sc_thread_drive.specs.Goings.{IsCalm}
use Rattle.sc_thread_drive.proofs.GatheredExchange.{on_same}
use Rattle.sc_thread_drive.proofs.storm_lines.run_deed.Goals as goal

pub step_line-requires-clause-calm : goal.step_line-requires-clause-calm
step_line-requires-clause-calm g c κs within = subst (λ (line : Option (Line _)). IfSome line IsCalm) c.in-Some.is c.requires.calm

pub returns-in-Some : goal.returns-in-Some
returns-in-Some g c = rw c.in-Some.is c.step_line.ensures

pub returns-in-None : goal.returns-in-None
returns-in-None g c = rw c.in-None.is (record {
  on = on_same c.args.company.now.net c.args.company.now.shells.items c.requires.together;
  row = λ words births company. (company, refl, refl);
  score = refl;
})
