use Rattle.std.proofs.Common.{rules, ◌≡◌, suc, ◌+◌, subst, arith}
use Rattle.sc_thread_workers.specs.Crews.{MadeRows}
use Rattle.sc_thread_workers.proofs.Phasing.{served_part, served_all}
use Rattle.sc_thread_workers.proofs.phases.serve.Goals as goal

pub loop-did-preserved : goal.loop-did-preserved
loop-did-preserved g c =
    let more : suc c.loop-did.did ≡ c.loop-did.did + 1 = omega arith in
    subst (λ n. MadeRows n c.args.shell c.made_row.new.shell) more (c.loop-did.shell, (c.loop-did.invariant, c.made_row.ensures.row (search rules)))

pub returns-then-not-made_row : goal.returns-then-not-made_row
returns-then-not-made_row g c =
    served_part c.args.grant c.loop-did.did c.args.shell c.loop-did.shell c.made_row.new.shell (search rules) c.loop-did.invariant c.made_row.ensures.took (c.made_row.ensures.none (search rules))

pub returns : goal.returns
returns g c =
    let end : c.loop-did.did ≡ c.args.grant = omega arith in
    served_all c.args.grant c.args.shell c.loop-did.shell (subst (λ n. MadeRows n c.args.shell c.loop-did.shell) end c.loop-did.invariant)
