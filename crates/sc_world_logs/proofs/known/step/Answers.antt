use Rattle.std.proofs.Common.{[], ◌++◌, Option, sym, ap, append-nil, ◌∙◌}
use Rattle.std.specs.Option.{option_to_list}
use Rattle.sc_words.specs.declared.commands.cores.Base.{Base}
use Rattle.sc_world_logs.proofs.known.step.Goals as goal

pub returns-in-None : goal.returns-in-None
returns-in-None c =
    let none = ap (λ (child : Option Base). option_to_list child ++ []) (sym (c.births_are_children.ensures c.args.state.now c.args.command.now) ∙ sym c.in_ok-child.ensures.child ∙ c.in-None.is) in (
      c.in_ok-execute.ensures,
      sym (ap (λ bases. c.args.children.now.items ++ bases) none ∙ append-nil c.args.children.now.items),
      λ calm. none,
    )

pub returns-in_ok-push-in-Some : goal.returns-in_ok-push-in-Some
returns-in_ok-push-in-Some c =
    let one = ap (λ (child : Option Base). option_to_list child ++ []) (sym (c.births_are_children.ensures c.args.state.now c.args.command.now) ∙ sym c.in_ok-child.ensures.child ∙ c.in-Some.is) in (
      c.in_ok-execute.ensures,
      c.in_ok-push-in-Some.ensures.items ∙ ap (λ bases. c.args.children.now.items ++ bases) (sym one),
      λ t. absurd (cc),
    )
