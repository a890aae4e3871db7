use Rattle.std.proofs.Common.{List, refl, subst, arith}
use Rattle.std.proofs.lemmas.List.{take_all}
use Rattle.sc_meaning.specs.declared.entries.LogEntry.{LogEntry}
use Rattle.sc_explain.specs.rows.Said.{HasTaken}
use Rattle.sc_explain.proofs.RowsProofs.Takings.{no_error, taken_next}
use Rattle.sc_explain.proofs.rows.taking.take_all.Goals as goal

pub loop-entry-init : goal.loop-entry-init
loop-entry-init c = record { world = refl; lines_are = c.new.ensures.items; groups_are = λ same. same }

pub loop-entry-preserved : goal.loop-entry-preserved
loop-entry-preserved c =
    taken_next c.args.row c.args.world.now c.args.entries.now c.loop-entry.entry-index c.entry-item.result c.args.groups.items c.loop-entry.world c.take_one.new.world
    c.loop-entry.taken.lines.items c.in-Ok.more.lines.items c.loop-entry.taken.groups.items c.in-Ok.more.groups.items
    (omega (arith, c.loop-entry-test.true)) c.entry-item.is c.loop-entry.invariant c.in-Ok.ensures.0 c.in-Ok.ensures.1 c.in-Ok.ensures.2

pub returns-in-Err : goal.returns-in-Err
returns-in-Err c = λ is arcs.
    c.in-Err.ensures is
    (no_error c.args.row c.args.world.now c.args.entries.now c.loop-entry.entry-index c.entry-item.result c.args.groups.items c.loop-entry.world c.loop-entry.taken.lines.items c.loop-entry.taken.groups.items
    (omega (arith, c.loop-entry-test.true)) c.entry-item.is c.loop-entry.invariant arcs)

pub returns : goal.returns
returns c =
    subst (λ (es : List LogEntry). HasTaken c.args.row c.args.world.now es c.args.groups.items c.loop-entry.world c.loop-entry.taken.lines.items c.loop-entry.taken.groups.items)
    (take_all c.loop-entry.entry-index c.args.entries.now (omega (arith, c.loop-entry-test.false))) c.loop-entry.invariant
