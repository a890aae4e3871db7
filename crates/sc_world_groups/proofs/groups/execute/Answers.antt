use Rattle.std.proofs.Common.{List, ap, ◌∙◌, arith}
use Rattle.std.specs.Prelude.{slice_get}
use Rattle.sc_group_table.specs.machine.Group.{Group}
use Rattle.sc_meaning.specs.entries.Worlds.{with_group}
use Rattle.sc_world_groups.proofs.Executing.{executed}
use Rattle.sc_world_groups.proofs.groups.execute.Goals as goal

pub copy_over-requires : goal.copy_over-requires
copy_over-requires c = omega (arith, c.requires, c.in_ok-effect.ensures.long)

pub returns : goal.returns
returns c = λ group is.
    let seen = c.in_ok-seen.ensures group (ap (λ (gs : List Group). slice_get gs c.args.at) c.as_slice.ensures.value ∙ is) in
    let changes = c.in_ok-effect.ensures.value group is in (
      seen.0,
      changes.0,
      c.in_ok-add_child.ensures
          ∙ executed c.args.groups.now.items c.apply_at.new.groups.items c.copy_over.new.groups.items c.args.at group c.args.command.now _ is changes.1
          (λ after here. c.in_ok-copy_over.ensures after here ∙ ap (λ core. with_group core.id after c.apply_at.new.groups.items) seen.0) seen.1,
    )
