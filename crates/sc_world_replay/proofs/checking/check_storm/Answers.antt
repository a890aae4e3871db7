use Rattle.std.proofs.Common.{◌≡◌, ◌+◌, ◌<◌, ◌^◌, [], ◌∷◌, length, refl, sym, ◌∙◌, ap, subst, arith, mod-eq_of_lt}
use Rattle.std.specs.Prelude.{is_ok}
use Rattle.std.proofs.lemmas.Bool.{false≢true}
use Rattle.sc_actor.specs.Walk.{Storms}
use Rattle.sc_texts.specs.chance.KeyStream.{ChanceStep, two_words, after_step}
use Rattle.sc_world_replay.specs.declared.checked.Checked.TheVariants.{On, Ended, Wrong}
use Rattle.sc_world_replay.specs.Checks.{IsChecked}
use Rattle.sc_world_replay.specs.Moves.{rules_of}
use Rattle.sc_world_replay.proofs.StormSteps.{StageGoes-storm, Ends-storm, Breaks-storm, StageGoes-begin, StageGoes-end}
use Rattle.sc_world_replay.proofs.checking.check_storm.Goals as goal

pub loop-done-init : goal.loop-done-init
loop-done-init g c = record {
  goes = StageGoes-begin (rules_of g.A.Actor.table g.A.Mail.Parcel.receiver) c.args.stage.now (two_words c.args.number) c.args.most;
  taking = c.requires.taking;
  skipped = refl;
  stays = λ ended. refl;
  chance = c.start-chance.ensures;
}

pub loop-done-preserved : goal.loop-done-preserved
loop-done-preserved g c =
    let r = rules_of g.A.Actor.table g.A.Mail.Parcel.receiver in let inv = c.loop-done.invariant in let done = c.loop-done.done in let new = c.check_step.new.stage in
    let drawn : c.draw-words.result ≡ two_words c.args.number done = c.draw-words.ensures.words ∙ ap (λ (k : ChanceStep). two_words k.number k.step) inv.chance in
    let on : IsChecked r c.loop-done.stage (Storms (two_words c.args.number done) ∷ []) new c.args.rows.now On =
    subst (λ w. IsChecked r c.loop-done.stage (Storms w ∷ []) new c.args.rows.now On) drawn (subst (IsChecked r c.loop-done.stage (Storms c.draw-words.result ∷ []) new c.args.rows.now) c.in-On.is c.in_ok-check_step.ensures.checked) in
    let few : done + 1 < 2 ^ 67 = omega arith in
    record {
      goes = StageGoes-storm r c.args.stage.now c.loop-done.stage new c.args.rows.now (two_words c.args.number) c.args.most done (omega arith) inv.goes on.0;
      taking = on.1;
      skipped = c.in_ok-check_step.ensures.skipped ∙ inv.skipped;
      stays = λ ended. c.in_ok-check_step.ensures.stays (ap length (inv.stays ended) ∙ ended) ∙ inv.stays ended;
      chance = c.draw-words.ensures.next ∙ (ap after_step inv.chance ∙ ap (λ k. record { number = c.args.number; step = k }) (mod-eq_of_lt few));
    }

pub returns-in-Ended-clause-checked : goal.returns-in-Ended-clause-checked
returns-in-Ended-clause-checked g c =
    let r = rules_of g.A.Actor.table g.A.Mail.Parcel.receiver in let inv = c.loop-done.invariant in let done = c.loop-done.done in let new = c.check_step.new.stage in
    let drawn : c.draw-words.result ≡ two_words c.args.number done = c.draw-words.ensures.words ∙ ap (λ (k : ChanceStep). two_words k.number k.step) inv.chance in
    let ended : IsChecked r c.loop-done.stage (Storms (two_words c.args.number done) ∷ []) new c.args.rows.now Ended =
    subst (λ w. IsChecked r c.loop-done.stage (Storms w ∷ []) new c.args.rows.now Ended) drawn (subst (IsChecked r c.loop-done.stage (Storms c.draw-words.result ∷ []) new c.args.rows.now) c.in-Ended.is c.in_ok-check_step.ensures.checked) in
    (Ends-storm r c.args.stage.now c.loop-done.stage new c.args.rows.now (two_words c.args.number) c.args.most done (omega arith) inv.goes ended.0, ended.1)

pub returns-in-Wrong-clause-checked : goal.returns-in-Wrong-clause-checked
returns-in-Wrong-clause-checked g c =
    let r = rules_of g.A.Actor.table g.A.Mail.Parcel.receiver in let inv = c.loop-done.invariant in let done = c.loop-done.done in let new = c.check_step.new.stage in
    let drawn : c.draw-words.result ≡ two_words c.args.number done = c.draw-words.ensures.words ∙ ap (λ (k : ChanceStep). two_words k.number k.step) inv.chance in
    let wrong : IsChecked r c.loop-done.stage (Storms (two_words c.args.number done) ∷ []) new c.args.rows.now Wrong =
    subst (λ w. IsChecked r c.loop-done.stage (Storms w ∷ []) new c.args.rows.now Wrong) drawn (subst (IsChecked r c.loop-done.stage (Storms c.draw-words.result ∷ []) new c.args.rows.now) c.in-Wrong.is c.in_ok-check_step.ensures.checked) in
    Breaks-storm r c.args.stage.now c.loop-done.stage new c.args.rows.now (two_words c.args.number) c.args.most done (omega arith) inv.goes wrong

pub returns-clause-checked : goal.returns-clause-checked
returns-clause-checked g c =
    let inv = c.loop-done.invariant in
    (StageGoes-end (rules_of g.A.Actor.table g.A.Mail.Parcel.receiver) c.args.stage.now (two_words c.args.number) c.args.most c.loop-done.stage c.loop-done.done (omega arith) inv.goes, inv.taking)

pub returns-in_err-check_step-clause-ended : goal.returns-in_err-check_step-clause-ended
returns-in_err-check_step-clause-ended g c = λ ended.
    absurd (false≢true (sym (ap is_ok c.in_err-check_step.was) ∙ c.check_step.ensures.ended (ap length (c.loop-done.invariant.stays ended) ∙ ended)))
