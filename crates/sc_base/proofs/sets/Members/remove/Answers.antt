use Rattle.std.proofs.Common.{◌≡◌, ◌≤◌, ◌∙◌, length, arith, subst, sym, ap}
use Rattle.sc_base.specs.Definitions.{IsRoster, without_member}
use Rattle.sc_base.proofs.Rising.{roster_without}
use Rattle.sc_base.proofs.sets.Members.remove.Goals as goal

pub invariant_of-self : goal.invariant_of-self
invariant_of-self c =
    let two : 2 ≤ length c.args.self.now = omega arith in
    let same : without_member c.args.self.now c.args.node ≡ c.left_by-self-inside.result =
    ap (λ members. without_member members c.args.node) (sym c.as_slice.ensures.same) ∙ sym c.left_by-self-inside.ensures in
    subst IsRoster same (roster_without c.args.self.now c.args.node c.as_slice.ensures.set two)
