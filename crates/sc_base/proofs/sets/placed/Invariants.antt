use Rattle.std.proofs.Common.{◌≡◌, take, filter, nat_lt, ◌++◌, ◌∷◌, []}
use Rattle.sc_base.proofs.sets.placed.Given as goal

abbrev pub invariant-loop-member : goal.invariant-loop-member
invariant-loop-member l = l.nodes ≡ filter (λ member. nat_lt member l.node) (take l.member-index l.members)

abbrev pub invariant-loop-above : goal.invariant-loop-above
invariant-loop-above l =
    l.nodes ≡ (filter (λ member. nat_lt member l.node) l.members ++ l.node ∷ []) ++ filter (λ member. nat_lt l.node member) (take l.above-index l.members)
