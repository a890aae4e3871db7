use Rattle.std.proofs.Common.{arith}
use Rattle.sc_world.proofs.Prefixes.{more_mails}
use Rattle.sc_world.proofs.counting.mail_count.Goals as goal

pub overflow_cast-total : goal.overflow_cast-total
overflow_cast-total c =
    omega (arith, c.requires, c.len.ensures, more_mails c.args.rows.now c.loop-row.row-index c.row-item.result (omega (arith, c.loop-row-test.true)) c.row-item.is)

pub overflow_add-total : goal.overflow_add-total
overflow_add-total c =
    omega (arith, c.requires, c.len.ensures, c.loop-row.invariant, more_mails c.args.rows.now c.loop-row.row-index c.row-item.result (omega (arith, c.loop-row-test.true)) c.row-item.is)
