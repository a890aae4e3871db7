use Rattle.std.proofs.Common.{ap, ◌∙◌}
use Rattle.std.proofs.lemmas.Option.{get_or_from_slice_get}
use Rattle.sc_group_table.specs.machine.Group.{Group}
use Rattle.sc_group_table.specs.machine.Children.{child_by}
use Rattle.sc_world_groups.proofs.groups.look.Goals as goal

pub returns : goal.returns
returns c = λ group is.
    let read = c.index-groups-at.is ∙ get_or_from_slice_get c.args.groups.now c.args.at group c.index-groups-at.result is in (
      c.in_ok-core.ensures ∙ c.core.ensures ∙ ap (λ (g : Group). g.core) read,
      c.in_ok-child.ensures.child ∙ ap (λ (g : Group). child_by g c.args.command.now) read ∙ c.births_are_children.ensures group c.args.command.now,
    )
