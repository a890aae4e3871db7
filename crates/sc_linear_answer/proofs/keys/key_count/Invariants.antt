use Rattle.std.proofs.Common.{take}
use Rattle.sc_linear_answer.specs.Keys.{HasKeys, keys_of}
use Rattle.sc_linear_answer.proofs.keys.key_count.Given as goal

-- the set has the keys so far
abbrev pub invariant-loop-event : goal.invariant-loop-event
invariant-loop-event l = HasKeys l.keys (keys_of (take l.event-index l.events))
