use Rattle.std.proofs.Common.{ap, sym, ◌∙◌}
use Rattle.std.specs.FinMap as map
use Rattle.sc_group_parts.proofs.StoreProofs.Bytes.{get-bytes, insert-bytes}
use Rattle.sc_group_parts.proofs.store.store.Store.put.Goals as goal

pub returns-clause-reply : goal.returns-clause-reply
returns-clause-reply c = ap (λ o. record { old = o }) (
    c.in_ok-old.ensures.old
    ∙ sym (get-bytes c.self.inside.pairs.entries c.in_ok-key.key)
    ∙ ap (λ m. map.get m c.in_ok-key.key) c.self.view_is
    ∙ ap (map.get c.args.self.now) c.in_ok-key.ensures)

pub returns-clause-ok : goal.returns-clause-ok
returns-clause-ok c =
    insert-bytes c.self.inside.pairs.entries _ c.in_ok-key.key c.in_ok-value.value c.in_ok-old.ensures.updates.0
    ∙ ap (λ m. map.insert m c.in_ok-key.key c.in_ok-value.value) c.self.view_is
    ∙ ap (λ k. map.insert c.args.self.now k c.in_ok-value.value) c.in_ok-key.ensures
    ∙ ap (λ v. map.insert c.args.self.now c.args.key.now v) c.in_ok-value.ensures
