use Rattle.std.proofs.Common.{◌≡◌, ◌+◌, drop}
use Rattle.std.specs.Option.{option_map}
use Rattle.sc_world_replay.specs.Stages.{place_of}
use Rattle.sc_world_replay.proofs.making.place_of.Given as goal

abbrev pub invariant-loop-i : goal.invariant-loop-i
invariant-loop-i g l = place_of l.seats l.who ≡ option_map (λ k. l.i + k) (place_of (drop l.i l.seats) l.who)
