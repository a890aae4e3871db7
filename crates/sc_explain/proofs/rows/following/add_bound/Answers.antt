use Rattle.std.proofs.Common.{◌++◌, ◌∷◌, [], ap, subst, sym, ◌∙◌}
use Rattle.sc_words.specs.declared.commands.cores.Core.{Core}
use Rattle.sc_explain.specs.rows.Said.{AreByLog, IsByLog}
use Rattle.sc_explain.proofs.RowsProofs.SaidStays.{bound_kept, bound_push}
use Rattle.sc_explain.proofs.rows.following.add_bound.Goals as goal

pub returns-then-is_by_log-clause-kept : goal.returns-then-is_by_log-clause-kept
returns-then-is_by_log-clause-kept c = λ groups by.
    bound_kept groups c.args.bound.now.items c.args.group.now (subst (λ (core : Core). IsByLog core.lock) c.core-core.ensures (c.is_by_log.ensures.kept c.if-is_by_log.true)) by

pub returns-clause-kept : goal.returns-clause-kept
returns-clause-kept c = λ groups by.
    subst (AreByLog (groups ++ c.args.group.now ∷ []))
    (sym (c.in_ok-push.ensures.items ∙ ap (λ (core : Core). c.args.bound.now.items ++ core.id ∷ []) c.core-core.ensures))
    (bound_push groups c.args.bound.now.items c.args.group.now by)
