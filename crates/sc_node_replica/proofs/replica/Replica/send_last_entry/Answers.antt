use Rattle.std.proofs.Common.{◌≡◌, ℕ, ◌-◌, List, All, sym, ap, ◌∙◌, subst}
use Rattle.sc_words.specs.declared.commands.cores.Core.{Core}
use Rattle.sc_words.specs.paxos.Logs.{entry_at}
use Rattle.sc_node_table.specs.Replica.{ReplicaState, members, next}
use Rattle.sc_node_replica.proofs.Unsent.{last_entry_sent-alone}
use Rattle.sc_node_replica.proofs.replica.Replica.send_last_entry.Goals as goal

pub returns-in-Some-clause-none : goal.returns-in-Some-clause-none
returns-in-Some-clause-none c = λ e.
    let same : c.as_slice.result.now ≡ members c.args.self.now =
    c.as_slice.ensures.same ∙ ap (λ (core : Core). core.members) c.core.ensures ∙ ap (λ (r : ReplicaState). members r) c.self.view_is in
    let alone = last_entry_sent-alone (entry_at (next c.args.self.now - 1) c.args.self.now.log) c.in-Some.command.now c.args.self.now
    (c.in-Some.ensures.same ∙ ap (λ (n : ℕ). entry_at (n - 1) c.args.self.now.log) c.next-slot.ensures.same) e in
    c.send_learns.ensures.alone (subst (λ (nodes : List ℕ). All (λ node. node ≡ c.args.self.now.me) nodes) (sym same) alone)
