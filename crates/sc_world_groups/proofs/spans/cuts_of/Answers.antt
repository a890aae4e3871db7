use Rattle.std.proofs.Common.{arith}
use Rattle.sc_base.specs.Among.{Among}
use Rattle.sc_world_groups.proofs.Changes.{among_at}
use Rattle.sc_world_groups.proofs.spans.cuts_of.Goals as goal

pub returns-in-None-clause-ring : goal.returns-in-None-clause-ring
returns-in-None-clause-ring c = λ same arcs.
    let spans = c.args.spans.now in
    let among : Among c.span-item.result spans = among_at spans c.loop-span.span-index c.span-item.result (omega (arith, c.loop-span-test.true)) c.span-item.is in
    c.in-None.ensures (arcs c.span-item.result among).0
