use Rattle.std.proofs.Common.{not, ◌==◌, take, length, arith, ap}
use Rattle.std.proofs.lemmas.List.{length-take-le}
use Rattle.sc_base.proofs.SetLemmas.{length-filter-le}
use Rattle.sc_base.proofs.sets.left_by.Goals as goal

pub push-requires : goal.push-requires
push-requires c =
    let few = length-filter-le (λ member. not (member == c.args.node)) (take c.loop-member.member-index c.args.members.now) in
    let taken = length-take-le c.loop-member.member-index c.args.members.now (omega arith) in
    let same = ap length c.loop-member.invariant in
    omega arith
