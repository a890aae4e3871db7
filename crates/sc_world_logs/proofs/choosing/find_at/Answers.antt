use Rattle.std.proofs.Common.{◌≡◌, ◌∙◌, ◌++◌, ◌∷◌, [], ◌+◌, suc, take, sym, ap, arith}
use Rattle.std.proofs.Math.Seq.{take-suc}
use Rattle.sc_paxos_law.specs.Decided.{found_in}
use Rattle.sc_world_logs.specs.Acceptances.{steps_of}
use Rattle.sc_world_logs.proofs.Newest.{found-next}
use Rattle.sc_world_logs.proofs.choosing.find_at.Goals as goal

pub loop-acceptance-preserved : goal.loop-acceptance-preserved
loop-acceptance-preserved c =
    let found = c.args.found.now in
    let i = c.loop-acceptance.acceptance-index in
    let one : i + 1 ≡ suc i = omega arith in
    record {
      least = c.better_of-best.ensures.better
          ∙ rw c.loop-acceptance.invariant.least
          (sym (ap (λ xs. found_in c.args.members.now (steps_of found) c.args.slot (steps_of xs)) (ap (λ n. take n found) one ∙ take-suc found i c.acceptance-item.result (omega (arith, c.loop-acceptance-test.true)) ∙ ap (λ x. take i found ++ x ∷ []) (sym c.acceptance-item.is))
          ∙ found-next c.args.members.now (steps_of found) c.args.slot (take i found) c.acceptance-item.result));
      chosen = c.better_of-best.ensures.chosen;
    }
