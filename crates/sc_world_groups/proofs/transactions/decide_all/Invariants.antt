use Rattle.std.proofs.Common.{◌≡◌, if◌then◌else◌, Some}
use Rattle.sc_meaning.specs.entries.Decisions.{is_of, with_outcome}
use Rattle.sc_world_groups.proofs.Changes.{changed}
use Rattle.sc_world_groups.proofs.transactions.decide_all.Given as goal

-- those so far are changed
abbrev pub invariant-loop-transaction : goal.invariant-loop-transaction
invariant-loop-transaction l = l.transactions ≡ changed (λ transaction. if is_of l.tx l.coordinator transaction then with_outcome (Some l.outcome) transaction else transaction) l.transaction-index l.initial.transactions
