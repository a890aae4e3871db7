use Rattle.std.proofs.Common.{◌≡◌, ◌∙◌, refl, sym, ap, subst, arith, Contains, Bool, true, false, not, Option, Some, None, is_some, Err, ℕ}
use Rattle.std.specs.Prelude.{is_none}
use Rattle.std.proofs.lemmas.List.Elements.{Contains-get_or}
use Rattle.sc_actor.specs.declared.schedules.Line.TheVariants.{Go as GoLine}
use Rattle.sc_actor.specs.System.{system}
use Rattle.sc_texts.specs.chance.KeyStream.{two_words}
use Rattle.sc_thread_ports.specs.exchange.Ports.{seen}
use Rattle.sc_thread_drive.proofs.Crashes.{never_crashed}
use Rattle.sc_thread_drive.specs.Goings.{HasEnded}
use Rattle.sc_thread_drive.proofs.Births.{company_born, nothing_seen}
use Rattle.sc_thread_drive.proofs.GatheredExchange.{kept_then, on_gathered, on_then, together_on}
use Rattle.sc_thread_drive.proofs.WholeSchedules.{drive_begins, drive_on, drive_fills, drive_ends}
use Rattle.sc_thread_workers.proofs.Crews.{stays_same}
use Rattle.sc_thread_drive.proofs.schedules.drive.Goals as goal

pub loop-line-init : goal.loop-line-init
loop-line-init g c =
    let old = c.args.company.now in let net = old.net in let next = c.gather.new.net in let ss = old.shells.items in let after = c.gather.new.shells.items in
    let still = c.gather.ensures.still in let gathered = c.gather.ensures.gathered in record {
      on = on_gathered net net next ss after c.requires.begins.1.birth.crew.exchange c.requires.begins.1.birth.crew.sound (stays_same net) still gathered;
      at = λ births opened.
          drive_begins two_words births c.args.lines.now next after old.score
          (company_born births net next ss after opened.birth still.looked still.len still.still gathered gathered.rows)
          (nothing_seen births net next ss after opened.birth still.looked still.len still.still gathered gathered.rows) opened.none_skipped opened.settled opened.none_started;
    }

pub gather-requires-clause-exchange : goal.gather-requires-clause-exchange
gather-requires-clause-exchange g c κs within = c.requires.begins.1.birth.crew.exchange

pub run_line-requires-clause-together : goal.run_line-requires-clause-together
run_line-requires-clause-together g c κs within = let old = c.args.company.now in let mid = c.loop-line.company in together_on old.net mid.net old.shells.items mid.shells.items c.requires.begins.1.birth.crew.first c.loop-line.invariant.on

pub run_line-requires-clause-staffed : goal.run_line-requires-clause-staffed
run_line-requires-clause-staffed g c κs within =
    let births = c.requires.begins.0 in (births, (c.loop-line.invariant.at births c.requires.begins.1).company)

pub run_line-requires-clause-runs : goal.run_line-requires-clause-runs
run_line-requires-clause-runs g c κs within = λ who is.
    let births = c.requires.begins.0 in let at = c.loop-line.invariant.at births c.requires.begins.1 in
    let has : Contains c.args.lines.now (GoLine who) = subst (λ l. Contains c.args.lines.now l) (sym c.line-item.is ∙ is) (Contains-get_or c.args.lines.now c.loop-line.line-index c.line-item.result c.loop-line-test.true) in
    (births, at.company, never_crashed (system g.A.Actor.table g.A.Mail.Parcel.receiver two_words births) who c.args.lines.now (seen c.loop-line.company.net) at.lawful (c.requires.spared who has))

pub lowest-requires-clause-together : goal.lowest-requires-clause-together
lowest-requires-clause-together g c κs within = let old = c.args.company.now in let mid = c.loop-line.company in together_on old.net mid.net old.shells.items mid.shells.items c.requires.begins.1.birth.crew.first c.loop-line.invariant.on

pub loop-line-preserved : goal.loop-line-preserved
loop-line-preserved g c = let inv = c.loop-line.invariant in let old = c.args.company.now in let mid = c.loop-line.company in let new = c.run_line.new.company in record {
  on = on_then old.net mid.net new.net old.shells.items mid.shells.items new.shells.items inv.on c.in-Ok.ensures.goes.on;
  at = λ births opened.
      drive_on two_words births c.args.lines.now mid.net new.net mid.shells.items new.shells.items mid.score new.score c.loop-line.line-index c.line-item.result c.loop-line-test.true c.line-item.is
      (inv.at births opened) c.in-Ok.ensures.goes.goes;
}

pub returns-in-Err-JournalFull-clause-driven : goal.returns-in-Err-JournalFull-clause-driven
returns-in-Err-JournalFull-clause-driven g c = λ births opened.
    let inv = c.loop-line.invariant in let old = c.args.company.now in let mid = c.loop-line.company in
    drive_fills two_words births c.args.lines.now old.net mid.net c.run_line.new.company.net mid.shells.items mid.score c.loop-line.line-index c.line-item.result inv.on.kept.stays.exchange.2 c.loop-line-test.true c.line-item.is
    (inv.at births opened) (c.in-Err-JournalFull.ensures.fills _ (ap Err c.in-Err-JournalFull.field-0-is)).fills

pub returns-in-Err-JournalFull-clause-kept : goal.returns-in-Err-JournalFull-clause-kept
returns-in-Err-JournalFull-clause-kept g c = λ _.
    let inv = c.loop-line.invariant in let old = c.args.company.now in let mid = c.loop-line.company in let new = c.run_line.new.company in
    kept_then old.net mid.net new.net old.shells.items mid.shells.items new.shells.items inv.on.kept.stays inv.on.kept.same (c.in-Err-JournalFull.ensures.fills _ (ap Err c.in-Err-JournalFull.field-0-is)).kept

quiet_reported : (found : Option ℕ) (quiet : Bool) → is_some found ≡ not quiet → is_none found ≡ quiet
quiet_reported None true e = refl
quiet_reported None false e = cc
quiet_reported (Some place) true e = cc
quiet_reported (Some place) false e = refl

pub returns-clause-driven : goal.returns-clause-driven
returns-clause-driven g c = λ births opened.
    let inv = c.loop-line.invariant in let mid = c.loop-line.company in let new = c.lowest.new.company in let found = c.in-Ok-lowest.ensures in
    subst (λ score. HasEnded two_words births c.args.lines.now new.net new.shells.items score.unsettled c.is_none.result score.skipped) (sym found.rested.score)
    (subst (λ quiet. HasEnded two_words births c.args.lines.now new.net new.shells.items mid.score.unsettled quiet mid.score.skipped) (quiet_reported c.in-Ok-lowest.found c.is_none.result c.is_none.ensures)
    (drive_ends two_words births c.args.lines.now mid.net new.net mid.shells.items new.shells.items mid.score c.loop-line.line-index c.in-Ok-lowest.found (omega (arith, c.loop-line-test.false)) (inv.at births opened) found.rested.rests found.finds found.rested.on.kept.stays.exchange.2))

pub returns-clause-kept : goal.returns-clause-kept
returns-clause-kept g c = λ _.
    let inv = c.loop-line.invariant in let old = c.args.company.now in let mid = c.loop-line.company in let new = c.lowest.new.company in
    kept_then old.net mid.net new.net old.shells.items mid.shells.items new.shells.items inv.on.kept.stays inv.on.kept.same c.in-Ok-lowest.ensures.rested.on.kept
