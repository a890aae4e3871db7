use Rattle.std.proofs.Common.{◌≡◌, if◌then◌else◌}
use Rattle.sc_meaning.specs.entries.Decisions.{is_of, with_watcher}
use Rattle.sc_world_groups.proofs.Changes.{changed}
use Rattle.sc_world_groups.proofs.transactions.watch_all.Given as goal

-- those so far are changed
abbrev pub invariant-loop-transaction : goal.invariant-loop-transaction
invariant-loop-transaction l = l.transactions ≡ changed (λ transaction. if is_of l.tx l.coordinator transaction then with_watcher l.watcher transaction else transaction) l.transaction-index l.initial.transactions
