-- What entries leave that divide no group and are of no transaction: cuts, transactions and births are as they were.
use Rattle.std.proofs.Common.{◌≡◌, List, None, refl}
use Rattle.sc_words.specs.declared.commands.commands.Command.{Command}
use Rattle.sc_words.specs.declared.commands.commands.Command.TheVariants.{Noop, Call, Join, Leave}
use Rattle.sc_words.specs.declared.commands.cores.Core.{Core}
use Rattle.sc_words.specs.declared.commands.effects.Effect.{Effect}
use Rattle.sc_group_table.specs.machine.MachineDefinitions.{Group}
use Rattle.sc_meaning.specs.entries.EntryDefinitions.{birth_of, transactions_after, ring_after}
use Rattle.sc_meaning.specs.declared.entries.Cut.{Cut}
use Rattle.sc_meaning.specs.declared.entries.Transaction.{Transaction}
use Rattle.sc_law_entries.specs.history.HistoryDefinitions.{LeavesWhole}

-- no group is created
pub no_birth : (group : Group) (c : Command) (effect : Effect) → LeavesWhole c → birth_of group c effect ≡ None
no_birth group Noop effect keeps = refl
no_birth group (Call client seq op) effect keeps = refl
no_birth group (Join node order) effect keeps = refl
no_birth group (Leave node order) effect keeps = refl
no_birth group _ effect keeps = absurd keeps

-- no transaction is begun or decided
pub same_transactions : (core : Core) (c : Command) (effect : Effect) (transactions : List Transaction) → LeavesWhole c → transactions_after core c effect transactions ≡ transactions
same_transactions core Noop effect transactions keeps = refl
same_transactions core (Call client seq op) effect transactions keeps = refl
same_transactions core (Join node order) effect transactions keeps = refl
same_transactions core (Leave node order) effect transactions keeps = refl
same_transactions core _ effect transactions keeps = absurd keeps

-- no cut is changed
pub same_ring : (core : Core) (c : Command) (effect : Effect) (ring : List Cut) → LeavesWhole c → ring_after core c effect ring ≡ ring
same_ring core Noop effect ring keeps = refl
same_ring core (Call client seq op) effect ring keeps = refl
same_ring core (Join node order) effect ring keeps = refl
same_ring core (Leave node order) effect ring keeps = refl
same_ring core _ effect ring keeps = absurd keeps
