use Rattle.std.proofs.Common.{◌∙◌, sym}
use Rattle.std.proofs.lemmas.Option.{none-some}
use Rattle.sc_base.proofs.UnionLemmas.{no_error}
use Rattle.sc_base.proofs.sets.Members.put.Goals as goal

pub unreachable-requires : goal.unreachable-requires
unreachable-requires c = none-some _ (sym (no_error c.args.self.now c.args.node (sym c.if-has.ensures) c.requires) ∙ c.in-Err.ensures.0)
