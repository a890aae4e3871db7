use Rattle.std.proofs.Common.{ap, sym, ◌∙◌}
use Rattle.std.specs.FinMap as map
use Rattle.sc_group_parts.proofs.StoreProofs.Bytes.{get-bytes}
use Rattle.sc_group_parts.proofs.store.store.Store.find.Goals as goal

pub returns : goal.returns
returns c = c.get.ensures.value ∙ sym (get-bytes c.self.inside.pairs.entries c.args.key.now) ∙ ap (λ m. map.get m c.args.key.now) c.self.view_is
