use Rattle.std.proofs.Common.{◌≡◌, take}
use Rattle.std.specs.Prelude.{count_by}
use Rattle.sc_actor.specs.Mail.{is_delivery}
use Rattle.sc_world.proofs.counting.deliveries.Given as goal

-- the deliveries so far
abbrev pub invariant-loop-row : goal.invariant-loop-row
invariant-loop-row l = l.total ≡ count_by (λ row. is_delivery row.event) (take l.row-index l.rows)
