use Rattle.std.proofs.Common.{◌≡◌, ◌-◌, ◌≤◌, length, drop}
use Rattle.std.specs.Option.{option_map}
use Rattle.sc_json_journal.specs.file.Files.{divider_at}
use Rattle.sc_json_journal.proofs.FileProofs.Dividers.{further}
use Rattle.sc_json_journal.proofs.file.cuts.divider_at.Given as goal

abbrev pub invariant-loop-len : goal.invariant-loop-len
invariant-loop-len l =
    (l.at ≤ length l.fn.file) × (l.lines ≤ l.at) × (divider_at l.fn.file ≡ option_map (further l.at l.lines) (divider_at (drop l.at l.fn.file)))

abbrev pub decreases-loop-len : goal.decreases-loop-len
decreases-loop-len l = length l.fn.file - l.at
