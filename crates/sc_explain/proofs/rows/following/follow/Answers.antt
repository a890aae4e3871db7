use Rattle.std.proofs.Common.{Some, map, sym, ap, ◌∙◌}
use Rattle.std.proofs.lemmas.Result.{IfOk-weaker}
use Rattle.std.proofs.lemmas.Option.{none-some, same_Some}
use Rattle.sc_words.specs.declared.commands.effects.Effect.{Effect}
use Rattle.sc_words.specs.declared.commands.effects.Effect.TheVariants.{Done}
use Rattle.sc_explain.specs.rows.Counts.{recounted}
use Rattle.sc_explain.specs.rows.Explained.{ring_groups_in}
use Rattle.sc_explain.proofs.RowsProofs.Following.{follows_done, follows_not}
use Rattle.sc_explain.proofs.rows.following.follow.Goals as goal

pub returns-in-Done : goal.returns-in-Done
returns-in-Done c =
    let entry = c.args.entry.now in
    IfOk-weaker c.recount.result _ _
    (λ after counted before world_is effect_is groups_are.
    counted
    ∙ ap (map (recounted entry.group c.in-Call.op c.in-Done.reply.old)) (c.as_slice-before.ensures.value ∙ groups_are)
    ∙ sym (follows_done before entry c.in-Call.client c.in-Call.seq c.in-Call.op c.in-Done.reply c.in-Call.is (ap (λ (effect : Effect). Some effect) (sym c.in-Done.is) ∙ sym c.in-Some.is ∙ effect_is))
    ∙ ap ring_groups_in (sym world_is))
    c.recount.ensures

pub returns-in_default-done : goal.returns-in_default-done
returns-in_default-done c = λ before world_is effect_is groups_are.
    let entry = c.args.entry.now in
    groups_are
    ∙ sym (follows_not before entry c.in-Call.client c.in-Call.seq c.in-Call.op c.in-Call.is
    (λ reply e. c.in_default-done.not-Done reply (same_Some c.in-Some.done (Done reply) (sym c.in-Some.is ∙ effect_is ∙ e))))
    ∙ ap ring_groups_in (sym world_is)

pub returns-in-None : goal.returns-in-None
returns-in-None c = λ before world_is effect_is groups_are.
    let entry = c.args.entry.now in
    groups_are
    ∙ sym (follows_not before entry c.in-Call.client c.in-Call.seq c.in-Call.op c.in-Call.is
    (λ reply e. none-some (Done reply) (sym c.in-None.is ∙ effect_is ∙ e)))
    ∙ ap ring_groups_in (sym world_is)
