use Rattle.std.proofs.Common.{◌≡◌, true, ℕ, List, All, sym, ap, ◌∙◌, subst}
use Rattle.sc_base.specs.Roster.{is_member}
use Rattle.sc_words.specs.declared.commands.cores.Core.{Core}
use Rattle.sc_node_table.specs.Replica.{ReplicaState, members}
use Rattle.sc_node_parts.proofs.ReplicaProofs.AppendedMail.{filter-none}
use Rattle.sc_node_replica.proofs.replica.Replica.added_to.Goals as goal

pub returns-clause-none : goal.returns-clause-none
returns-clause-none c = λ e.
    let same : c.as_slice.result.now ≡ members c.args.self.now =
    c.as_slice.ensures.same ∙ ap (λ (core : Core). core.members) c.core.ensures ∙ ap (λ (r : ReplicaState). members r) c.self.view_is in
    let all = filter-none (λ node. is_member c.args.before.now node) (members c.args.self.now) e in
    c.not_among.ensures.none (subst (λ (nodes : List ℕ). All (λ node. is_member c.args.before.now node ≡ true) nodes) (sym same) all)
