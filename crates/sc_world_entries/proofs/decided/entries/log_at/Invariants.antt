use Rattle.std.proofs.Common.{◌≡◌, take}
use Rattle.sc_world_entries.proofs.decided.entries.log_at.Given as goal

-- the commands so far
abbrev pub invariant-loop-command : goal.invariant-loop-command
invariant-loop-command l = l.log.items ≡ take l.command-index l.found
