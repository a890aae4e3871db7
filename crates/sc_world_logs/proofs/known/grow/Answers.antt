use Rattle.std.proofs.Common.{[], ◌∷◌, ◌++◌, refl, ap, ◌∙◌}
use Rattle.sc_group_table.specs.machine.Group.{group_of}
use Rattle.sc_meaning.specs.sound.GroupsOf.{children_of}
use Rattle.sc_world_logs.proofs.Grown.{grown, childless_push, children_grown}
use Rattle.sc_world_logs.proofs.known.grow.Goals as goal

pub returns : goal.returns
returns c = λ h agrees next. (
  grown h c.args.known.now.base _ c.args.known.now.log.items c.args.known.now.members.items c.args.known.now.state c.args.known.now.behind c.args.command _ _ _ _ agrees next c.in_ok-lengthen.ensures.log
      (c.in_ok-push.ensures.items ∙ ap (λ core. c.args.known.now.members.items ++ core.members ∷ []) c.core.ensures) c.in_ok-childless.ensures.0 c.in_ok-lengthen.ensures.behind,
  refl,
  λ kept. children_grown c.args.known.now.base c.args.known.now.log.items _ c.args.command c.args.known.now.state c.args.known.now.children.items _ agrees.state_is c.in_ok-lengthen.ensures.log c.in_ok-childless.ensures.1 kept,
  λ calm. ap (children_of (group_of c.args.known.now.base)) c.in_ok-lengthen.ensures.log
      ∙ childless_push c.args.known.now.base c.args.known.now.log.items c.args.command c.args.known.now.state agrees.state_is (c.in_ok-childless.ensures.2 calm),
)
