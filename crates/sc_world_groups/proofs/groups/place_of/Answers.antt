use Rattle.std.proofs.Common.{◌+◌, sym, ap, ◌∙◌, arith}
use Rattle.std.specs.Prelude.{slice_get}
use Rattle.sc_meaning.specs.entries.Worlds.{is_named}
use Rattle.sc_world_groups.proofs.Naming.{finds-here, finds-none-next, finds-none-all}
use Rattle.sc_world_groups.proofs.groups.place_of.Goals as goal

pub returns-then-is_named : goal.returns-then-is_named
returns-then-is_named c = record {
  within = omega (arith, c.loop-group-test.true, c.loop-group.invariant.count);
  found =
      finds-here (is_named c.args.name) c.args.groups.now c.loop-group.group-index c.group-item.result (omega (arith, c.loop-group-test.true)) c.loop-group.invariant.none
      (ap (is_named c.args.name) (sym c.group-item.is) ∙ sym c.is_named.ensures ∙ c.if-is_named.true)
      ∙ ap (slice_get c.args.groups.now) (sym c.loop-group.invariant.count);
}

pub loop-group-preserved : goal.loop-group-preserved
loop-group-preserved c = record {
  count = ap (λ n. n + 1) c.loop-group.invariant.count;
  none =
      finds-none-next (is_named c.args.name) c.args.groups.now c.loop-group.group-index c.group-item.result (omega (arith, c.loop-group-test.true)) c.loop-group.invariant.none
      (ap (is_named c.args.name) (sym c.group-item.is) ∙ sym c.is_named.ensures ∙ c.if-is_named.false);
}

pub returns : goal.returns
returns c = finds-none-all (is_named c.args.name) c.args.groups.now c.loop-group.group-index (omega (arith, c.loop-group-test.false)) c.loop-group.invariant.none
