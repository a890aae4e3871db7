use Rattle.std.proofs.Common.{ap, ◌∙◌}
use Rattle.std.specs.FinMap as map
use Rattle.sc_group_parts.proofs.StoreProofs.Numbers.{insert-numbers}
use Rattle.sc_group_parts.proofs.store.table.ClientTable.set.Goals as goal

pub returns-clause-ok : goal.returns-clause-ok
returns-clause-ok c = insert-numbers c.self.inside.noted.entries _ c.args.client c.args.noted c.in_ok-_old.ensures.updates.0 ∙ ap (λ m. map.insert m c.args.client c.args.noted) c.self.view_is
