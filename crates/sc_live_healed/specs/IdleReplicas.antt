-- Replicas that run and have nothing to do.
use Rattle.std.specs.Prelude.{◌≡◌, ℕ, ◌*◌, ◌<◌, Bool, List, [], length, count_by}
use Rattle.sc_base.specs.Definitions.{Each}
use Rattle.sc_node_table.specs.Values.{Command, Report}
use Rattle.sc_node_table.specs.NodeDefinitions.{ReplicaState, next}

-- more than half of these members are alive
abbrev pub LivingMajority : (ℕ → Bool) → List ℕ → Type 0
LivingMajority lives members = length members < 2 * count_by lives members

-- a replica that has nothing in flight, ready or queued, and has executed each slot that was reported to it
pub record IsIdle (r : ReplicaState) : Type 0 where
  pub flights : r.leader.flights ≡ []
  pub ready : r.ready ≡ []
  pub backlog : r.backlog ≡ []
  pub acts : r.acts ≡ []
  pub reports : Each (λ (report : Report Command). report.slot < next r) r.leader.reports
