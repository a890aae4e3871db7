use Rattle.sc_world_groups.proofs.Executing.{applied-at, set-length}
use Rattle.sc_world_groups.proofs.groups.apply_at.Goals as goal

pub returns : goal.returns
returns c = record {
  long = set-length c.args.groups.now.items c.args.at c.apply.new.self;
  value = λ group is.
      applied-at c.args.groups.now.items c.args.at group c.index_mut.result.now c.apply.new.self c.args.command.now _ is c.index_mut.ensures.value c.in_ok-effect.ensures.step;
}
