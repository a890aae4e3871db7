use Rattle.std.proofs.Common.{◌≡◌, ◌-◌, ap, sym, arith}
use Rattle.sc_base.specs.Arc.{Arc}
use Rattle.sc_world_entries.proofs.ScanProofs.Walks.{found_holds, has_part, parts_end, parts_over, parts_push}
use Rattle.sc_world_entries.proofs.scans.walking.parts.Goals as goal

pub returns-in_default-clause-parts : goal.returns-in_default-clause-parts
returns-in_default-clause-parts c =
    let rest : Arc = record { lo = c.loop-left.lo; len = c.loop-left.left } in
    parts_end c.args.ring.now c.args.arc.now rest c.loop-left.parts.items c.loop-left-test.true (sym c.in_default.ensures) c.loop-left.invariant.1

pub first_part-part-requires-clause-held : goal.first_part-part-requires-clause-held
first_part-part-requires-clause-held c =
    let rest : Arc = record { lo = c.loop-left.lo; len = c.loop-left.left } in
    found_holds c.args.ring.now rest c.in-Some.cut.now (sym c.in-Some.ensures)

pub loop-left-preserved : goal.loop-left-preserved
loop-left-preserved c =
    let rest : Arc = record { lo = c.loop-left.lo; len = c.loop-left.left } in (
      omega (arith, c.loop-left.invariant.0),
      parts_push c.args.ring.now c.args.arc.now rest c.in-Some.cut.now c.loop-left.parts.items c.push.new.self.items c.first_part-part.result c.end-lo.result _
          c.loop-left-test.true (sym c.in-Some.ensures) c.loop-left.invariant.1 c.first_part-part.ensures c.in_ok-push.ensures.items c.end-lo.ensures (ap (λ n. c.loop-left.left - n) c.len-left-in-loop-left.ensures.same),
    )

pub returns-clause-parts : goal.returns-clause-parts
returns-clause-parts c =
    let rest : Arc = record { lo = c.loop-left.lo; len = c.loop-left.left } in
    let over : c.loop-left.left ≡ 0 = omega (arith, c.loop-left-test.false) in
    parts_over c.args.ring.now c.args.arc.now rest c.loop-left.parts.items over c.loop-left.invariant.1

pub returns-in_err-push-clause-none : goal.returns-in_err-push-clause-none
returns-in_err-push-clause-none c =
    let rest : Arc = record { lo = c.loop-left.lo; len = c.loop-left.left } in
    λ none. absurd (has_part c.args.ring.now c.args.arc.now rest c.in-Some.cut.now c.loop-left.parts.items c.loop-left-test.true (sym c.in-Some.ensures) c.loop-left.invariant.1 none)
