use Rattle.std.proofs.Common.{◌≡◌, take}
use Rattle.std.specs.List.{flat_map}
use Rattle.sc_meaning.specs.sound.Summary.{asked_by}
use Rattle.sc_world.proofs.counting.all_asked.Given as goal

-- the requests of the parties so far
abbrev pub invariant-loop-party : goal.invariant-loop-party
invariant-loop-party l = l.asked ≡ flat_map asked_by (take l.party-index l.parties)
