use Rattle.std.proofs.Common.{◌∙◌, ap, arith, length, sym, subst}
use Rattle.std.proofs.lemmas.List.{map-id}
use Rattle.std.proofs.lemmas.Iterator.Adapters.{YieldsList-from_vec}
use Rattle.std.proofs.lemmas.Iterator.Consumers.{YieldsList-turn, YieldsList-end}
use Rattle.sc_thread_drive.proofs.Closed.{Ending, all_joined, journal_is}
use Rattle.sc_thread_drive.proofs.end.close_ports.Goals as goal

pub close-requires-clause-all : goal.close-requires-clause-all
close-requires-clause-all g c =
    let all = YieldsList-from_vec c.args.shells.items c.into_iter-shell-iterator.ensures.into_iter_gives.0 (c.into_iter-shell-iterator.ensures.into_iter_gives.1 ∙ c.args.shells.ok.0) in
    let end = YieldsList-end all c.loop-shell.yielded c.loop-shell.shell-iterator c.loop-shell.yielded_by c.next.result c.next.new.self c.in-None.is c.next.ensures.steps in
    all_joined c.args.net c.loop-shell.all c.args.shells.items (subst (λ l. Ending c.args.net c.loop-shell.all l) (sym (map-id c.loop-shell.yielded) ∙ end.0) c.loop-shell.invariant.ending) c.requires.net c.requires.all c.requires.over c.requires.rows

pub returns-clause-journal : goal.returns-clause-journal
returns-clause-journal g c =
    let all = YieldsList-from_vec c.args.shells.items c.into_iter-shell-iterator.ensures.into_iter_gives.0 (c.into_iter-shell-iterator.ensures.into_iter_gives.1 ∙ c.args.shells.ok.0) in
    let end = YieldsList-end all c.loop-shell.yielded c.loop-shell.shell-iterator c.loop-shell.yielded_by c.next.result c.next.new.self c.in-None.is c.next.ensures.steps in
    let ending = subst (λ l. Ending c.args.net c.loop-shell.all l) (sym (map-id c.loop-shell.yielded) ∙ end.0) c.loop-shell.invariant.ending in
    journal_is c.args.net c.loop-shell.all c.args.shells.items ending c.requires.net c.requires.all c.requires.over c.requires.rows c.close.result c.close.ensures.later c.close.ensures.own c.close.ensures.each c.close.ensures.others

pub returns-in_err-push-clause-none : goal.returns-in_err-push-clause-none
returns-in_err-push-clause-none g c = λ none.
    let all = YieldsList-from_vec c.args.shells.items c.into_iter-shell-iterator.ensures.into_iter_gives.0 (c.into_iter-shell-iterator.ensures.into_iter_gives.1 ∙ c.args.shells.ok.0) in
    let turn = YieldsList-turn all c.loop-shell.yielded c.loop-shell.shell-iterator c.loop-shell.yielded_by c.next.result c.next.new.self c.in-Some.shell c.in-Some.is c.next.ensures.steps in
    absurd (omega (arith, turn.0, ap length none))
