use Rattle.std.proofs.Common.{ap, sym, ◌∙◌}
use Rattle.std.specs.FinMap as map
use Rattle.sc_group_parts.proofs.StoreProofs.Bytes.{get-bytes, remove-bytes}
use Rattle.sc_group_parts.proofs.store.store.Store.del.Goals as goal

pub returns-clause-reply : goal.returns-clause-reply
returns-clause-reply c = ap (λ o. record { old = o }) (c.remove.ensures.value ∙ sym (get-bytes c.self.inside.pairs.entries c.args.key.now) ∙ ap (λ m. map.get m c.args.key.now) c.self.view_is)

pub returns-clause-after : goal.returns-clause-after
returns-clause-after c = remove-bytes c.self.inside.pairs.entries _ c.args.key.now c.remove.ensures.updates.0 ∙ ap (λ m. map.remove m c.args.key.now) c.self.view_is
