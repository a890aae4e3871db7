use Rattle.std.proofs.Common.{length, ap, ◌∙◌, arith}
use Rattle.std.proofs.lemmas.List.{take_all}
use Rattle.sc_meaning.specs.sound.Players.{as_nodes}
use Rattle.sc_meaning.specs.sound.GroupsOf.{groups_at}
use Rattle.sc_world_entries.specs.decided.Found.{log_kept}
use Rattle.sc_world_entries.proofs.DecidedProofs.Families.{log_in_is, none_known}
use Rattle.sc_world_entries.proofs.decided.entries.log_at.Goals as goal

pub returns-clause-log : goal.returns-clause-log
returns-clause-log c =
    c.loop-command.invariant ∙ take_all c.loop-command.command-index c.log_in-found.result.now (omega (arith, c.loop-command-test.false))
    ∙ c.log_in-found.ensures ∙ ap (log_kept c.args.name) c.as_slice-kept.ensures.value
    ∙ log_in_is c.args.rows.now (groups_at as_nodes c.args.bases.now c.args.rows.now) c.in_ok-groups.groups.knowns.items c.args.name c.in_ok-groups.ensures.tracked.known

pub returns-in_err-dup-clause-none : goal.returns-in_err-dup-clause-none
returns-in_err-dup-clause-none c = λ none.
    let empty = none_known c.args.rows.now (length c.args.rows.now) c.args.bases.now c.in_ok-groups.groups.knowns.items none c.in_ok-groups.ensures.tracked.known in
    let no_log = c.log_in-found.ensures ∙ ap (log_kept c.args.name) (c.as_slice-kept.ensures.value ∙ empty) in
    absurd (omega (arith, c.loop-command-test.true, ap length no_log))

pub returns-in_err-push-clause-none : goal.returns-in_err-push-clause-none
returns-in_err-push-clause-none c = λ none.
    let empty = none_known c.args.rows.now (length c.args.rows.now) c.args.bases.now c.in_ok-groups.groups.knowns.items none c.in_ok-groups.ensures.tracked.known in
    let no_log = c.log_in-found.ensures ∙ ap (log_kept c.args.name) (c.as_slice-kept.ensures.value ∙ empty) in
    absurd (omega (arith, c.loop-command-test.true, ap length no_log))
