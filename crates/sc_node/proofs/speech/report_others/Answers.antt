use Rattle.std.proofs.Common.{[], Option, ap, ◌∙◌}
use Rattle.sc_words.specs.declared.commands.orders.OrderResult.{OrderResult}
use Rattle.sc_node_table.specs.Execute.{effect_reported}
use Rattle.sc_node.proofs.Saying.{others_none}
use Rattle.sc_node.proofs.speech.report_others.Goals as goal

pub returns-in_err-report_effect-clause-none : goal.returns-in_err-report_effect-clause-none
returns-in_err-report_effect-clause-none c = λ e.
    let none = others_none c.args.counted c.args.before.now c.args.effect.now c.args.command.now c.args.replica.now c.requires e in
    let ok = c.in_err-report_effect.ensures.none (ap (λ (told : Option OrderResult). (effect_reported told c.args.command.now (c.args.replica.now, [])).1) c.order_result.ensures ∙ none.0) in
    absurd (cc)

pub returns-clause-none : goal.returns-clause-none
returns-clause-none c = λ e.
    c.speak.ensures.none (others_none c.args.counted c.args.before.now c.args.effect.now c.args.command.now c.args.replica.now c.requires e).1
