use Rattle.std.proofs.Common.{◌≡◌, length}
use Rattle.sc_texts.specs.lines.Definitions.{lines_in}
use Rattle.sc_scenario.specs.scenario.Definitions.{lines_read}
use Rattle.sc_scenario.specs.declared.scenario.drafts.Reading.TheVariants.{Fresh}
use Rattle.sc_scenario.proofs.scenario.reading.lines_read.Given as goal

-- the rest, behind what was read so far, comes out as the whole
abbrev pub invariant-loop-rest : goal.invariant-loop-rest
invariant-loop-rest l = lines_read l.is_long l.number l.reading (lines_in l.is_long l.rest) ≡ lines_read l.is_long 1 Fresh (lines_in l.is_long l.fn.text)

-- the rest grows shorter
abbrev pub decreases-loop-rest : goal.decreases-loop-rest
decreases-loop-rest l = length l.rest
