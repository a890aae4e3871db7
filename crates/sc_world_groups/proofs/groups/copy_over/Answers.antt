use Rattle.std.proofs.Common.{◌<◌, length, if◌then◌else◌, ◌∙◌, arith}
use Rattle.sc_meaning.specs.entries.Worlds.{is_named}
use Rattle.sc_world_groups.proofs.Changes.{changed-end}
use Rattle.sc_world_groups.proofs.Executing.{copied-next}
use Rattle.sc_world_groups.proofs.groups.copy_over.Goals as goal

pub loop-i-preserved : goal.loop-i-preserved
loop-i-preserved c =
    let inv = c.loop-i.invariant in
    let within : c.loop-i.i < length c.args.groups.now.items = omega (arith, c.loop-i-test.true, c.len-i-end.ensures) in
    record {
      long = c.in_ok-copy_at.ensures.long ∙ inv.long;
      done = λ after here.
          copied-next c.args.groups.now.items c.loop-i.groups.items _ c.args.at c.loop-i.i c.args.name after here (inv.done after here) within
          (λ a group at is. c.in_ok-copy_at.ensures.value a group at is);
    }

pub returns : goal.returns
returns c = λ after here.
    changed-end (λ group. if is_named c.args.name group then after else group) c.args.groups.now.items c.loop-i.groups.items c.loop-i.i
    (omega (arith, c.loop-i-test.false, c.len-i-end.ensures)) (c.loop-i.invariant.done after here)
