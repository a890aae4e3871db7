use Rattle.std.proofs.Common.{◌≡◌, List, not, inl, inr, sym, ap, ◌∙◌}
use Rattle.std.proofs.lemmas.Bool.{and_from}
use Rattle.sc_words.specs.commands.Cores.{is_alone}
use Rattle.sc_words.specs.commands.Effects.{is_changed, decided_in}
use Rattle.sc_words.specs.declared.commands.commands.Command.{Command}
use Rattle.sc_meaning.specs.declared.entries.Transaction.{Transaction}
use Rattle.sc_meaning.specs.entries.Decisions.{concluded, transactions_after}
use Rattle.sc_world_groups.proofs.KeptTransactions.{begins_some, concludes_none, splits_some, votes_none}
use Rattle.sc_world_groups.proofs.transactions.add_entry.Goals as goal

pub returns-in_err-push-in-Begin-clause-none : goal.returns-in_err-push-in-Begin-clause-none
returns-in_err-push-in-Begin-clause-none c = λ kept.
    absurd (begins_some c.args.core.now c.in-Begin.tx c.in-Begin.body c.in-Begin.order c.args.effect.now (sym c.is_changed.ensures ∙ c.if-is_changed.true)
    (λ list. ap (λ (command : Command). transactions_after c.args.core.now command c.args.effect.now list) (sym c.in-Begin.is) ∙ kept list))

pub returns-in_err-push-in-Split-clause-none : goal.returns-in_err-push-in-Split-clause-none
returns-in_err-push-in-Split-clause-none c = λ kept.
    absurd (splits_some c.args.core.now c.in-Split.at c.in-Split.child c.in-Split.order c.args.effect.now
    (and_from (is_changed c.args.effect.now) (not (is_alone c.args.core.now)) (sym c.is_changed-in-Split.ensures ∙ c.if-is_changed-2.true) (ap not (sym c.is_alone.ensures ∙ c.if-not-is_alone.true)))
    (λ list. ap (λ (command : Command). transactions_after c.args.core.now command c.args.effect.now list) (sym c.in-Split.is) ∙ kept list))

pub returns-in-RecordVote-clause-none : goal.returns-in-RecordVote-clause-none
returns-in-RecordVote-clause-none c = λ kept.
    c.hear.ensures.none
    (votes_none c.args.core.now c.in-RecordVote.tx c.in-RecordVote.vote c.in-RecordVote.by c.args.effect.now
    (λ list. ap (λ (command : Command). transactions_after c.args.core.now command c.args.effect.now list) (sym c.in-RecordVote.is) ∙ kept list))

pub returns-in-RecordWatch-clause-none : goal.returns-in-RecordWatch-clause-none
returns-in-RecordWatch-clause-none c = λ kept.
    let core = c.args.core.now in let command = c.args.command.now in let effect = c.args.effect.now in let tx = c.in-RecordWatch.tx in
    let same : (list : List Transaction) → transactions_after core command effect list ≡ concluded (decided_in effect) tx core.id list = elim c.in-RecordWatch.is [
      | inl watch ↦ λ list. ap (λ (one : Command). transactions_after core one effect list) watch.2
      | inr gives ↦ λ list. ap (λ (one : Command). transactions_after core one effect list) gives
    ] in
    c.conclude.ensures.none (concludes_none core tx effect (λ list. sym (same list) ∙ kept list))
