use Rattle.std.proofs.Common.{[], ◌∷◌}
use Rattle.sc_actor.specs.Walk.{Settles}
use Rattle.sc_thread_drive.specs.Lowest.{FindsLowest}
use Rattle.sc_thread_drive.specs.CompanyRows.{IsStaffed, LineEnded}
use Rattle.sc_thread_drive.proofs.settle_lines.run_settle.Given as goal

abbrev pub invariant-loop-found : goal.invariant-loop-found
invariant-loop-found g l = record {
  line : LineEnded (Settles l.most ∷ []) (Settles l.left ∷ []) l.fn.company l.company;
  staffed : IsStaffed l.company;
  finds : FindsLowest l.company.net l.company.shells.items l.found;
}

-- each delivery leaves one fewer
abbrev pub decreases-loop-found : goal.decreases-loop-found
decreases-loop-found g l = l.left
