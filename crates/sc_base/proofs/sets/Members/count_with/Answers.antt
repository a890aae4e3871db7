use Rattle.std.proofs.Common.{◌≡◌, not, filter, length, subst, arith}
use Rattle.sc_base.specs.Definitions.{is_member}
use Rattle.sc_base.proofs.UnionLemmas.{count_united}
use Rattle.sc_base.proofs.sets.Members.count_with.Goals as goal

pub returns : goal.returns
returns c =
    let strangers = subst (λ nodes. c.count_strangers.result ≡ length (filter (λ node. not (is_member c.args.self.now node)) nodes)) c.as_slice.ensures.same c.count_strangers.ensures.count in
    let all = count_united c.args.self.now c.args.other.now c.as_slice.ensures.set.ascending in
    omega (arith, strangers, all, c.len.ensures.same)
