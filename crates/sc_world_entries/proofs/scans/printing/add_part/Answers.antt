use Rattle.std.proofs.Common.{arith}
use Rattle.std.proofs.lemmas.Grind.{common_steps}
use Rattle.std.proofs.lemmas.Result.{IfOk-weaker}
use Rattle.sc_world_entries.proofs.scans.printing.add_part.Goals as goal

pub returns-clause-lines : goal.returns-clause-lines
returns-clause-lines c =
    IfOk-weaker c.add_pairs.result _ _ (λ n h. grind (arith, common_steps, h, c.in_ok-push.ensures.ok, c.as_slice.ensures)) c.add_pairs.ensures.lines
