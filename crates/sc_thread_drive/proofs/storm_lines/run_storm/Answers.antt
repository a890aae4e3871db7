use Rattle.std.proofs.Common.{◌≡◌, ◌+◌, ◌<◌, ◌-◌, ◌^◌, Err, [], ◌∷◌, sym, ◌∙◌, ap, subst, arith, mod-eq_of_lt}
use Rattle.sc_actor.specs.Walk.{Storms, storm_steps}
use Rattle.sc_texts.specs.chance.KeyStream.{ChanceStep, two_words, after_step}
use Rattle.sc_thread_workers.specs.Crews.{crew_numbers}
use Rattle.sc_thread_ledger.specs.declared.errors.PostError.TheVariants.{JournalFull}
use Rattle.sc_thread_drive.specs.CompanyRows.{LineEnded, LineRefused}
use Rattle.sc_thread_drive.proofs.GatheredExchange.{kept_then, on_same, on_then}
use Rattle.sc_thread_drive.proofs.Settled.{together_after}
use Rattle.sc_thread_drive.proofs.StormSteps.{storm_begins, storm_goes, storm_fills, storm_ends}
use Rattle.sc_thread_drive.proofs.CompanyActs.{same_stop}
use Rattle.sc_thread_drive.proofs.storm_lines.run_storm.Goals as goal

pub loop-done-init : goal.loop-done-init
loop-done-init g c = record {
  storm = c.start-storm.ensures;
  line = record {
    on = on_same c.args.company.now.net c.args.company.now.shells.items c.requires.together;
    goes = storm_begins c.args.company.now.net c.args.company.now.shells.items c.args.company.now.score (two_words c.args.number) c.args.most;
  };
}

pub storm_step-requires-clause-together : goal.storm_step-requires-clause-together
storm_step-requires-clause-together g c κs within =
    together_after c.args.company.now c.loop-done.company (storm_steps (two_words c.args.number) 0 c.args.most) (storm_steps (two_words c.args.number) c.loop-done.done (c.args.most - c.loop-done.done)) c.requires.together c.loop-done.invariant.line

pub storm_step-requires-clause-actors : goal.storm_step-requires-clause-actors
storm_step-requires-clause-actors g c κs within = c.as_slice-numbers.ensures.value ∙ (c.in_ok-actors.ensures.numbers ∙ (ap crew_numbers c.as_slice.ensures.value ∙ sym c.loop-done.invariant.line.on.kept.same))

pub loop-done-preserved : goal.loop-done-preserved
loop-done-preserved g c =
    let inv = c.loop-done.invariant in let old = c.args.company.now in let mid = c.loop-done.company in let new = c.storm_step.new.company in let done = c.loop-done.done in
    let few : done + 1 < 2 ^ 67 = omega arith in
    let step : LineEnded (Storms (two_words c.args.number done) ∷ []) [] mid new = subst (λ (k : ChanceStep). LineEnded (Storms (two_words k.number k.step) ∷ []) [] mid new) inv.storm c.in_ok-storm_step.ensures.goes in
    record {
      storm = c.in_ok-storm_step.ensures.drawn ∙ (ap after_step inv.storm ∙ ap (λ k. record { number = c.args.number; step = k }) (mod-eq_of_lt few));
      line = record {
        on = on_then old.net mid.net new.net old.shells.items mid.shells.items new.shells.items inv.line.on step.on;
        goes = storm_goes old.net mid.net new.net old.shells.items mid.shells.items new.shells.items old.score mid.score new.score (two_words c.args.number) c.args.most done (omega arith) inv.line.goes step.goes;
      };
    }

pub returns-in_err-storm_step-clause-fills : goal.returns-in_err-storm_step-clause-fills
returns-in_err-storm_step-clause-fills g c = λ bytes e.
    let inv = c.loop-done.invariant in let old = c.args.company.now in let mid = c.loop-done.company in let new = c.storm_step.new.company in let done = c.loop-done.done in
    let is : c.in_err-storm_step.field-0.0 ≡ JournalFull bytes = same_stop c.from_residual-in_err-storm_step.result c.in_err-storm_step.field-0.0 bytes c.from_residual-in_err-storm_step.ensures.1 e in
    let step : LineRefused (Storms (two_words c.args.number done) ∷ []) mid new = subst (λ (k : ChanceStep). LineRefused (Storms (two_words k.number k.step) ∷ []) mid new) inv.storm (c.in_err-storm_step.ensures.fills bytes (ap Err is)) in
    record {
      kept = kept_then old.net mid.net new.net old.shells.items mid.shells.items new.shells.items inv.line.on.kept.stays inv.line.on.kept.same step.kept;
      fills = storm_fills old.net mid.net new.net old.shells.items mid.shells.items mid.shells.items old.score mid.score mid.score (two_words c.args.number) c.args.most done (omega arith) inv.line.goes inv.line.on.kept.stays.exchange.2 step.fills;
    }

pub returns-clause-goes : goal.returns-clause-goes
returns-clause-goes g c =
    let inv = c.loop-done.invariant in let old = c.args.company.now in let now = c.loop-done.company in record {
      on = inv.line.on;
      goes = storm_ends old.net now.net old.shells.items now.shells.items old.score now.score (two_words c.args.number) c.args.most c.loop-done.done (omega arith) inv.line.goes;
    }
