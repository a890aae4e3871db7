use Rattle.std.proofs.Common.{ap, sym, ◌∙◌}
use Rattle.std.specs.FinMap as map
use Rattle.sc_group_parts.proofs.StoreProofs.Numbers.{get-numbers}
use Rattle.sc_group_parts.proofs.store.table.ClientTable.find.Goals as goal

pub returns : goal.returns
returns c = c.get.ensures.value ∙ sym (get-numbers c.self.inside.noted.entries c.args.client) ∙ ap (λ m. map.get m c.args.client) c.self.view_is
