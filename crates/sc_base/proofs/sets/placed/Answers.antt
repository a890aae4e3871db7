use Rattle.std.proofs.Common.{◌<◌, ltb, get_or, sym, take, length, filter, arith, ap, ◌∷◌, [], ◌++◌}
use Rattle.std.proofs.lemmas.Bool.{lt-ltb}
use Rattle.std.proofs.lemmas.List.{length-take-le, length-append, get_or_default}
use Rattle.sc_base.proofs.SetLemmas.{length-filter-le, length-filter-next, split_length_le}
use Rattle.sc_base.proofs.sets.placed.Goals as goal

pub push-requires : goal.push-requires
push-requires c =
    let few = length-filter-le (λ x. ltb x c.args.node) (take c.loop-member.member-index c.args.members.now) in
    let taken = length-take-le c.loop-member.member-index c.args.members.now (omega arith) in
    let same = ap length c.loop-member.invariant in
    omega arith

pub push-requires-2 : goal.push-requires-2
push-requires-2 c =
    let few = length-filter-le (λ x. ltb x c.args.node) (take c.loop-member.member-index c.args.members.now) in
    let taken = length-take-le c.loop-member.member-index c.args.members.now (omega arith) in
    let same = ap length c.loop-member.invariant in
    omega arith

pub push-requires-then-node-above : goal.push-requires-then-node-above
push-requires-then-node-above c =
    let members = c.args.members.now in
    let node = c.args.node in
    let low = filter (λ x. ltb x node) members in
    let high = filter (λ x. ltb node x) (take c.loop-above.above-index members) in
    let all = split_length_le members node in
    let within : c.loop-above.above-index < length members = c.loop-above-test.true in
    let next = length-filter-next (λ x. ltb node x) members c.loop-above.above-index (get_or members c.loop-above.above-index 0) within (sym (get_or_default members c.loop-above.above-index _ 0 within)) (lt-ltb node _ c.if-node-above.true) in
    let same = ap length c.loop-above.invariant in
    let long = length-append (low ++ node ∷ []) high in
    let prefix = length-append low (node ∷ []) in
    omega arith
