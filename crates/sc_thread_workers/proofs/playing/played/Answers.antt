use Rattle.std.proofs.Common.{rules, ◌≡◌, ℕ, ◌+◌, Option, None, Some, ◌∙◌, sym, subst, arith}
use Rattle.sc_thread_workers.specs.Crews.{crew_numbers, rows_made, AllSound, AreLater}
use Rattle.sc_thread_workers.specs.RoundEnds.{CanBegin, IsGathered, HasRefusedShell, IfHeld, IfCalm}
use Rattle.sc_thread_workers.specs.Services.{AllServe}
use Rattle.sc_thread_workers.specs.declared.answers.Rounds.{Rounds}
use Rattle.sc_thread_workers.specs.declared.answers.Rounds.TheVariants.{OutOfMemory}
use Rattle.sc_thread_workers.proofs.Attending.{none_serve, all_serve_then}
use Rattle.sc_thread_workers.proofs.Crews.{all_of_on, are_still_same, later_then, still_later, still_rows, still_sound}
use Rattle.sc_thread_workers.proofs.Serving.{numbers_go}
use Rattle.sc_thread_workers.proofs.Refusing.{full_from}
use Rattle.sc_thread_workers.proofs.Ending.{end_so, held_maps, held_of, held_with, held_none, kept_of, kept_maps, kept_held, calm_of}
use Rattle.sc_thread_workers.proofs.playing.played.Goals as goal

pub returns-in-Some-clause-end : goal.returns-in-Some-clause-end
returns-in-Some-clause-end g c =
    let start = c.args.shells.now.items in let after = c.prepare.new.shells.items in
    let count : rows_made after ≡ rows_made start + 0 = omega (arith, still_rows start after c.prepare.ensures.still.len c.prepare.ensures.still.still) in
    end_so c.in-Some.answer c.prepare.new.net start start after _ (crew_numbers start) c.args.play.now.limit 0 c.in-Some.ensures.end (search rules) (omega arith) (held_of _ (Some c.in-Some.answer) count) (held_of _ (Some c.in-Some.answer) (λ bytes f. f))
    (held_maps (Some c.in-Some.answer) (λ (gathered : IsGathered c.prepare.new.net after). none_serve c.prepare.new.net start after c.prepare.ensures.still.len c.prepare.ensures.still.still gathered.over) c.in-Some.ensures.gathered)
    (calm_of (AllSound after) (Some c.in-Some.answer) (still_sound start after c.prepare.ensures.still.len c.prepare.ensures.still.still c.requires.crew.sound))

pub loop-answer-init : goal.loop-answer-init
loop-answer-init g c =
    let start = c.args.shells.now.items in let after = c.prepare.new.shells.items in let none : c.prepare.result ≡ None = search rules in
    let begin = c.prepare.ensures.begin none in record {
      lender = c.requires.lender;
      used = begin.1;
      later = still_later c.args.net.now c.prepare.new.net start after c.prepare.ensures.still;
      sound = still_sound start after c.prepare.ensures.still.len c.prepare.ensures.still.still c.requires.crew.sound;
      count = omega (arith, still_rows start after c.prepare.ensures.still.len c.prepare.ensures.still.still);
      served = none_serve c.prepare.new.net start after c.prepare.ensures.still.len c.prepare.ensures.still.still begin.0.gathered.over;
      begin = subst (CanBegin c.prepare.new.net after) c.as_slice-2.ensures.value begin.0;
    }

pub step-requires-clause-whos : goal.step-requires-clause-whos
step-requires-clause-whos g c κs within = let inv = c.loop-answer.invariant in
    let whos : c.in-Ok.whos.items ≡ crew_numbers c.args.shells.now.items = search rules in
    c.as_slice-whos.ensures.value ∙ (whos ∙ sym (numbers_go c.args.shells.now.items c.loop-answer.shells.items inv.later.len inv.later.go))

pub step-requires-clause-crew : goal.step-requires-clause-crew
step-requires-clause-crew g c κs within = let inv = c.loop-answer.invariant in record {
  first = inv.later.looked.stays.who ∙ c.requires.crew.first;
  exchange = all_of_on c.args.net.now c.loop-answer.net c.args.shells.now.items c.loop-answer.shells.items inv.later c.requires.crew.exchange;
  sound = inv.sound;
}

pub returns-in-Some-clause-later : goal.returns-in-Some-clause-later
returns-in-Some-clause-later g c =
    kept_of _ c.args.play.now.way (Some c.in-Some.answer) (still_later c.args.net.now c.prepare.new.net c.args.shells.now.items c.prepare.new.shells.items c.prepare.ensures.still)

pub returns-in_default-clause-later : goal.returns-in_default-clause-later
returns-in_default-clause-later g c =
    kept_of _ c.args.play.now.way (Some OutOfMemory) (still_later c.args.net.now c.args.net.now c.args.shells.now.items c.args.shells.now.items (are_still_same c.args.net.now c.args.shells.now.items))

pub returns-in-Some-step-clause-later : goal.returns-in-Some-step-clause-later
returns-in-Some-step-clause-later g c = let inv = c.loop-answer.invariant in
    let start = c.args.shells.now.items in let mid = c.loop-answer.shells.items in let last = c.step.new.shells.items in
    let on : AreLater c.loop-answer.net c.step.new.net mid last → AreLater c.args.net.now c.step.new.net start last = later_then c.args.net.now c.loop-answer.net c.step.new.net start mid last inv.later in
    kept_maps c.args.play.now.way (Some c.in-Some-step.answer) on c.in-Some-step.ensures.later

pub returns-in-Some-step-clause-end : goal.returns-in-Some-step-clause-end
returns-in-Some-step-clause-end g c = let inv = c.loop-answer.invariant in
    let start = c.args.shells.now.items in let mid = c.loop-answer.shells.items in let last = c.step.new.shells.items in let r = Some c.in-Some-step.answer in
    let later : IfHeld r (AreLater c.loop-answer.net c.step.new.net mid last) = kept_held _ c.args.play.now.way r c.in-Some-step.ensures.later in
    let sum : rows_made last + c.loop-answer.standing.used ≡ rows_made mid + c.step.new.standing.used → rows_made last ≡ rows_made start + c.step.new.standing.used = λ e. omega (arith, e, inv.count) in
    let full : AreLater c.loop-answer.net c.step.new.net mid last → (bytes : ℕ) → HasRefusedShell mid c.step.new.net last bytes → HasRefusedShell start c.step.new.net last bytes = λ l bytes f. full_from start mid last c.step.new.net bytes inv.later.len l.len inv.later.go f in
    let serve : AreLater c.loop-answer.net c.step.new.net mid last → AllServe c.step.new.net mid → AllServe c.step.new.net start = λ l second. all_serve_then c.loop-answer.net c.step.new.net start mid inv.later.len l.looked inv.later.go inv.begin.gathered.over inv.served second in
    end_so c.in-Some-step.answer c.step.new.net start mid last _ (crew_numbers start) c.args.play.now.limit c.step.new.standing.used c.in-Some-step.ensures.end (search rules) c.step.ensures.used
    (held_maps r sum c.in-Some-step.ensures.count)
    (held_maps r full later)
    (held_with r serve later c.in-Some-step.ensures.served)
    c.in-Some-step.ensures.sound

pub loop-answer-preserved : goal.loop-answer-preserved
loop-answer-preserved g c = let inv = c.loop-answer.invariant in
    let start = c.args.shells.now.items in let mid = c.loop-answer.shells.items in let last = c.step.new.shells.items in
    let none : c.step.result ≡ None = search rules in
    let later : AreLater c.loop-answer.net c.step.new.net mid last = held_none _ c.step.result none (kept_held _ c.args.play.now.way c.step.result c.step.ensures.later) in
    let count : rows_made last + c.loop-answer.standing.used ≡ rows_made mid + c.step.new.standing.used = held_none _ c.step.result none c.step.ensures.count in
    let second : AllServe c.step.new.net mid = held_none _ c.step.result none c.step.ensures.served in
    let begin = c.step.ensures.begin none in record {
      lender = c.step.ensures.lender;
      used = begin.1;
      later = later_then c.args.net.now c.loop-answer.net c.step.new.net start mid last inv.later later;
      sound = subst (λ (o : Option Rounds). IfCalm o (AllSound last)) none c.step.ensures.sound;
      count = omega (arith, count, inv.count);
      served = all_serve_then c.loop-answer.net c.step.new.net start mid inv.later.len later.looked inv.later.go inv.begin.gathered.over inv.served second;
      begin = subst (CanBegin c.step.new.net last) c.as_slice-whos.ensures.value begin.0;
    }
