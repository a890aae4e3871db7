use Rattle.std.proofs.Common.{map, ◌≡◌, [], drop}
use Rattle.sc_meaning.specs.sound.Accepts.{accepts_from}
use Rattle.sc_world_logs.specs.Acceptances.{steps_of}
use Rattle.sc_world_logs.proofs.accepting.accepts.Given as goal

-- what is left makes the whole
abbrev pub invariant-loop-row : goal.invariant-loop-row
invariant-loop-row l = accepts_from l.group (map (λ mail. mail.now) l.sent.items) (drop l.row-index l.rows) (steps_of l.found.items) ≡ accepts_from l.group [] l.rows []
