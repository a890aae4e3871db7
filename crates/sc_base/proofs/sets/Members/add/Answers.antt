use Rattle.std.proofs.Common.{◌≡◌, ◌<◌, ◌∙◌, length, false, arith, subst, sym, ap}
use Rattle.sc_base.specs.Definitions.{IsRoster, is_member, with_member}
use Rattle.sc_base.proofs.Rising.{roster_with}
use Rattle.sc_base.proofs.sets.Members.add.Goals as goal

pub invariant_of-self : goal.invariant_of-self
invariant_of-self c =
    let absent : is_member c.args.self.now c.args.node ≡ false = cc in
    let room : length c.args.self.now < 9 = omega arith in
    let same : with_member c.args.self.now c.args.node ≡ c.placed-self-inside.result =
    ap (λ members. with_member members c.args.node) (sym c.as_slice.ensures.same) ∙ sym c.placed-self-inside.ensures in
    subst IsRoster same (roster_with c.args.self.now c.args.node c.as_slice.ensures.set absent room)
