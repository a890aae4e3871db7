-- What a coordinator has decided of a transaction, by its executed log.
use Rattle.std.specs.Prelude.{Option, Some, None, find}
use Rattle.sc_base.specs.Definitions.{same_draw}
use Rattle.sc_base.specs.declared.names.Draw.{Draw}
use Rattle.sc_words.specs.declared.commands.cores.Core.{Core}
use Rattle.sc_words.specs.declared.commands.votes.Outcome.{Outcome}
use Rattle.sc_words.specs.declared.commands.votes.Outcome.TheVariants as Was
use Rattle.sc_group_parts.specs.declared.transactions.votes.Decision.{Decision}
use Rattle.sc_group_parts.specs.declared.transactions.votes.Decision.TheVariants.{Undecided, Commit, Abort}

-- the decision of an outcome: an abort, or else a commit
abbrev pub decision_by : Outcome → Decision
decision_by Was.Abort = Abort
decision_by (Was.Merged into) = Commit
decision_by (Was.Moved at gift) = Commit
decision_by (Was.Migrated node) = Commit
decision_by Was.Divided = Commit

-- the decision by the recorded outcome, if there is one
abbrev pub decision_in : Option (Draw × Outcome) → Decision
decision_in None = Undecided
decision_in (Some noted) = decision_by noted.1

-- what a group has decided of a transaction: the first outcome that is recorded under that name
abbrev pub decision_of : Core → Draw → Decision
decision_of core tx = decision_in (find (λ noted. same_draw noted.0 tx) core.decided)
