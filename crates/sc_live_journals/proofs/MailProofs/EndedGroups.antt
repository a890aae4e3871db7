-- A group that is gone and free stays so, whatever its replica does, but where it takes a state.
use Rattle.std.proofs.Common.{cond, Option, Some, None, sym, subst}
use Rattle.sc_node_table.specs.Values.{Draw, Command, Noop, Call, Join, Leave, Split, Begin, Prepared, RecordVote, GiveUp, Finish, Watched, RecordWatch, Lock, Route, Effect, NoEffect, OrderRefusal, No}
use Rattle.sc_group_table.specs.machine.MachineDefinitions.{finished, Group, called, ordered_by, applied, locked_in, ordered, has_named, vote_recorded, watch_recorded, aborted, is_coordinating, no_of, offer_no, watch_no, has_voted, voted_on}
use Rattle.sc_law_walks.proofs.WalkLemmas.{either_way}
use Rattle.sc_live_journals.specs.mail.MailDefinitions.{IsOver, EntriesLeaveOver}

-- ---- an entry

module _ (into : Route) (group : Group) (k : IsOver into group.core) where
  abbrev Stays : Group × Effect → Type 0
  Stays made = IsOver into made.0.core

  ordered_over : (o : Option Draw) (why : Option OrderRefusal) (after : Group) → Stays (ordered_by o why after group)
  ordered_over None why after = subst (λ (g : Option Route). Stays (ordered g why after group)) (sym k.0) k
  ordered_over (Some draw) why after = either_way Stays (has_named group.core draw) _ (ordered group.core.gone why after group) k (subst (λ (g : Option Route). Stays (ordered g why after group)) (sym k.0) k)

  -- one that is gone votes No
  voted_over : (why : Option No) (bond : Lock) (tx : Draw) → Stays (voted_on (no_of group.core.gone (locked_in group.core.lock) why) bond group tx)
  voted_over why bond tx =
      subst (λ (g : Option Route). Stays (voted_on (no_of g (locked_in group.core.lock) why) bond group tx)) (sym k.0)
      (either_way Stays (has_voted group.core tx) _ _ k k)

  entry_over : (command : Command) → Stays (applied group command)
  entry_over Noop = k
  entry_over (Call client seq op) = subst (λ (g : Option Route). Stays (called g group.core.lock group client seq op)) (sym k.0) k
  entry_over (Join node order) = ordered_over None _ _
  entry_over (Leave node order) = ordered_over None _ _
  entry_over (Split at child order) = ordered_over (Some child) _ _
  entry_over (Begin tx body order) = ordered_over (Some tx) _ _
  entry_over (Prepared tx offer) = voted_over (offer_no group.core offer) _ tx
  entry_over (RecordVote tx vote by) = subst (λ (l : Lock). Stays (vote_recorded l group tx vote by)) (sym k.1) k
  entry_over (GiveUp tx) = subst (λ (l : Lock). Stays (cond (is_coordinating l tx) (aborted group tx) (group, NoEffect tx))) (sym k.1) k
  entry_over (Finish tx outcome) = subst (λ (l : Lock). Stays (finished l group tx outcome)) (sym k.1) k
  entry_over (Watched tx watch) = voted_over (watch_no group.core watch) _ tx
  entry_over (RecordWatch tx vote by) = subst (λ (l : Lock). Stays (watch_recorded l group tx vote)) (sym k.1) k

-- A group that is gone and bound by no transaction stays so, whatever it executes.
pub entries_over : EntriesLeaveOver
entries_over into group command k = entry_over into group k command

-- ---- a row
