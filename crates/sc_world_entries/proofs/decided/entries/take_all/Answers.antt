use Rattle.std.proofs.Common.{rules, ◌≡◌, List, length, sym, subst, Some, IfOk}
use Rattle.sc_words.specs.declared.commands.orders.OrderLine.{OrderLine}
use Rattle.sc_mail.specs.declared.bodies.Mail.{Mail}
use Rattle.sc_actor.specs.declared.rows.Row.{Row}
use Rattle.sc_world_logs.specs.Known.{Adds}
use Rattle.sc_world_logs.specs.declared.known.Known.{Known}
use Rattle.sc_world_entries.specs.decided.Found.{AreTaken}
use Rattle.sc_world_entries.proofs.DecidedProofs.InPlace.{whole_slice}
use Rattle.sc_world_entries.proofs.decided.entries.take_all.Goals as goal

pub returns : goal.returns
returns c =
    let old = c.args.knowns.now.items in let new = c.take_each.new.knowns in
    let same : length new ≡ length old = search rules in
    let all : c.args.knowns.now.len ≡ length old = search rules in
    subst (λ (l : List Known). IfOk c.take_each.result (λ taking. (rows after : List (Row Mail OrderLine)) → Adds (Some (c.args.name, c.args.acceptance.now)) rows after → AreTaken rows after taking old l))
    (sym (whole_slice new old c.args.knowns.now.len same all))
    (subst (λ (l : List Known). IfOk c.take_each.result (λ taking. (rows after : List (Row Mail OrderLine)) → Adds (Some (c.args.name, c.args.acceptance.now)) rows after → AreTaken rows after taking l new))
    c.as_mut_slice.ensures.value c.take_each.ensures)
