use Rattle.std.proofs.Common.{take}
use Rattle.sc_base.specs.Among.{Each}
use Rattle.sc_base.specs.Limits.{longest_key}
use Rattle.sc_base.specs.Text.{IsText}
use Rattle.sc_world_entries.proofs.scans.orders.have_texts.Given as goal

abbrev pub invariant-loop-pair : goal.invariant-loop-pair
invariant-loop-pair l = Each (λ pair. IsText longest_key pair.0) (take l.pair-index l.pairs)
