use Rattle.std.proofs.Common.{◌≤◌, length, arith, ap, sym, subst}
use Rattle.sc_linear.specs.Trails.{IsLinked}
use Rattle.sc_linear.proofs.TrailLemmas.{length-paths_of, linked_push}
use Rattle.sc_linear.proofs.trail.Trail.push.Goals as goal

-- src/trail.rt:48:5
pub invariant_of-self-2 : goal.invariant_of-self-2
invariant_of-self-2 c =
    let links = c.self.inside.links.items in
    let same = c.self.view_is in
    let counted = length-paths_of links in
    let low : c.args.before ≤ length links = omega (arith, ap length same, counted, c.requires) in
    subst (IsLinked 0) (sym c.in_ok-push.ensures.items) (linked_push 0 links (record { before = c.args.before; line = c.args.line; request = c.args.request }) c.self.invariant (omega arith))

-- src/trail.rt:48:5
pub returns-clause-number : goal.returns-clause-number
returns-clause-number c = omega (arith, ap length c.self.view_is, length-paths_of c.self.inside.links.items, c.in_ok-push.ensures.len, c.self.inside.links.ok.0)
