use Rattle.std.proofs.Common.{ℕ, ap, ◌∙◌}
use Rattle.sc_explain.proofs.RowsProofs.RingGroups.{said_of_base}
use Rattle.sc_explain.proofs.rows.groups.said_by.Goals as goal

pub returns : goal.returns
returns c = λ group is. ap (λ (pairs : ℕ). record (said_of_base c.args.name c.args.base.now) { pairs = pairs }) c.len.ensures.len ∙ ap (said_of_base c.args.name) is
