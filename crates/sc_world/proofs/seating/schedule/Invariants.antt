use Rattle.std.proofs.Common.{◌≡◌, map, take}
use Rattle.sc_meaning.specs.sound.Players.{line_of}
use Rattle.sc_world.proofs.seating.schedule.Given as goal

-- the lines so far
abbrev pub invariant-loop-line : goal.invariant-loop-line
invariant-loop-line l = l.lines.items ≡ map line_of (take l.line-index l.line-items)
