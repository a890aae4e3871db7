use Rattle.std.proofs.Common.{◌+◌, sym, ap, subst, arith}
use Rattle.sc_world_replay.specs.declared.checked.Checked.TheVariants.{On, Ended}
use Rattle.sc_world_replay.specs.Checks.{IsChecked}
use Rattle.sc_world_replay.specs.Moves.{rules_of, with_births}
use Rattle.sc_world_replay.specs.Replays.{IsBadRow}
use Rattle.sc_actor.specs.Walk.{tasks_of}
use Rattle.sc_texts.specs.chance.KeyStream.{two_words}
use Rattle.sc_world_replay.proofs.Checks.{taking_begin}
use Rattle.sc_world_replay.proofs.Steps.{IsStageAt-begin, IsStageAt-line, IsStageAt-end}
use Rattle.sc_world_replay.proofs.Judged.{judged_all, judged_ends, judged_breaks, late, leaves}
use Rattle.sc_world_replay.proofs.judging.replay.Goals as goal

pub loop-line-init : goal.loop-line-init
loop-line-init g c =
    let r = rules_of g.A.Actor.table g.A.Mail.Parcel.receiver in (
      IsStageAt-begin r two_words c.args.seats.items c.args.lines.now _ c.requires.apart (ap (λ v. v.items) c.begun-stage.ensures.seats) c.begun-stage.ensures.rows c.begun-stage.ensures.skipped c.begun-stage.ensures.unsettled,
      taking_begin g.A.Mail.Parcel.receiver _ c.args.rows.now c.begun-stage.ensures.rows c.begun-stage.ensures.mails c.begun-stage.ensures.pending c.begun-stage.ensures.started c.begun-stage.ensures.crashed c.requires.few_rows c.requires.few_mails,
      omega (arith, c.begun-stage.ensures.skipped),
    )

pub returns-in-Ended-clause-replayed : goal.returns-in-Ended-clause-replayed
returns-in-Ended-clause-replayed g c =
    let r = rules_of g.A.Actor.table g.A.Mail.Parcel.receiver in
    let ended : IsChecked r c.loop-line.stage (tasks_of two_words c.line-item.result) c.check_line.new.stage c.args.rows.now Ended = subst (IsChecked r c.loop-line.stage (tasks_of two_words c.line-item.result) c.check_line.new.stage c.args.rows.now) c.in-Ended.is c.in_ok-check_line.ensures.checked in
    let has = judged_ends r two_words c.args.seats.items c.args.lines.now c.loop-line.stage c.args.rows.now c.check_line.new.stage c.loop-line.line-index c.line-item.result c.loop-line-test.true c.line-item.is c.loop-line.invariant.0 ended.0 in
    leaves r two_words c.args.seats.items c.args.lines.now c.check_line.new.stage c.args.rows.now has.0 has.1 c.left_by.result c.left_by.ensures

pub overflow_add-result : goal.overflow_add-result
overflow_add-result g c =
    let r = rules_of g.A.Actor.table g.A.Mail.Parcel.receiver in
    let bad = judged_breaks r two_words c.args.seats.items c.args.lines.now c.loop-line.stage c.args.rows.now c.check_line.new.stage c.loop-line.line-index c.line-item.result c.loop-line-test.true c.line-item.is c.loop-line.invariant.0
    (subst (IsChecked r c.loop-line.stage (tasks_of two_words c.line-item.result) c.check_line.new.stage c.args.rows.now) c.in-Wrong.is c.in_ok-check_line.ensures.checked) in
    omega (arith, c.len.ensures, bad.within, c.requires.few_rows)

pub returns-in-Wrong-clause-replayed : goal.returns-in-Wrong-clause-replayed
returns-in-Wrong-clause-replayed g c =
    let r = rules_of g.A.Actor.table g.A.Mail.Parcel.receiver in
    let bad = judged_breaks r two_words c.args.seats.items c.args.lines.now c.loop-line.stage c.args.rows.now c.check_line.new.stage c.loop-line.line-index c.line-item.result c.loop-line-test.true c.line-item.is c.loop-line.invariant.0
    (subst (IsChecked r c.loop-line.stage (tasks_of two_words c.line-item.result) c.check_line.new.stage c.args.rows.now) c.in-Wrong.is c.in_ok-check_line.ensures.checked) in
    subst (λ n. IsBadRow (with_births r two_words c.args.seats.items) c.args.lines.now c.args.rows.now (n + 1)) (sym c.len.ensures) bad

pub loop-line-preserved : goal.loop-line-preserved
loop-line-preserved g c =
    let r = rules_of g.A.Actor.table g.A.Mail.Parcel.receiver in
    let on : IsChecked r c.loop-line.stage (tasks_of two_words c.line-item.result) c.check_line.new.stage c.args.rows.now On = subst (IsChecked r c.loop-line.stage (tasks_of two_words c.line-item.result) c.check_line.new.stage c.args.rows.now) c.in-On.is c.in_ok-check_line.ensures.checked in (
      IsStageAt-line r two_words c.args.seats.items c.args.lines.now c.loop-line.stage c.check_line.new.stage c.loop-line.line-index c.line-item.result c.loop-line-test.true c.line-item.is c.loop-line.invariant.0 on.0,
      on.1,
      omega (arith, c.in_ok-check_line.ensures.skipped, c.loop-line.invariant.2),
    )

pub returns-then-len-rows-clause-replayed : goal.returns-then-len-rows-clause-replayed
returns-then-len-rows-clause-replayed g c =
    let r = rules_of g.A.Actor.table g.A.Mail.Parcel.receiver in
    let bad = late r two_words c.args.seats.items c.args.lines.now c.loop-line.stage c.args.rows.now
    (omega (arith, c.len-2.ensures, c.if-len-rows.true))
    (IsStageAt-end r two_words c.args.seats.items c.args.lines.now c.loop-line.stage c.loop-line.line-index (omega (arith, c.loop-line-test.false)) c.loop-line.invariant.0)
    c.loop-line.invariant.1.follows in
    subst (λ n. IsBadRow (with_births r two_words c.args.seats.items) c.args.lines.now c.args.rows.now (n + 1)) (sym c.len-then-len-rows.ensures) bad

pub returns-clause-replayed : goal.returns-clause-replayed
returns-clause-replayed g c =
    let r = rules_of g.A.Actor.table g.A.Mail.Parcel.receiver in
    let has = judged_all r two_words c.args.seats.items c.args.lines.now c.loop-line.stage c.args.rows.now (omega (arith, c.len-2.ensures, c.if-len-rows.false))
    (IsStageAt-end r two_words c.args.seats.items c.args.lines.now c.loop-line.stage c.loop-line.line-index (omega (arith, c.loop-line-test.false)) c.loop-line.invariant.0)
    c.loop-line.invariant.1.follows in
    leaves r two_words c.args.seats.items c.args.lines.now c.loop-line.stage c.args.rows.now has.0 has.1 c.left_by-2.result c.left_by-2.ensures
