use Rattle.std.proofs.Common.{◌≡◌, ◌<◌, drop, eqb, filter, map}
use Rattle.sc_actor.specs.System.{kth}
use Rattle.sc_world_replay.proofs.pending.kth_for.Given as goal

abbrev pub invariant-loop-copy : goal.invariant-loop-copy
invariant-loop-copy l =
    (0 < l.left)
    × (kth (map (λ copy. copy.number) (filter (λ copy. eqb copy.to l.who) l.copies)) l.k
    ≡ kth (map (λ copy. copy.number) (filter (λ copy. eqb copy.to l.who) (drop l.copy-index l.copies))) l.left)
