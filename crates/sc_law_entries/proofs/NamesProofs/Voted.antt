-- Parts of a replica whose commands have other names: its acceptor, its leader, and what is ready.
use Rattle.std.proofs.Common.{ℕ, ◌-◌, nat_lt}
use Rattle.sc_node_table.specs.Values.{Draw, Command}
use Rattle.sc_words.specs.paxos.PaxosDefinitions.{AcceptorState, LeaderState, entry_at}
use Rattle.sc_node_table.specs.NodeDefinitions.{with_slot, ReplicaState}
use Rattle.sc_law_entries.specs.names.NameDefinitions.{CommandNames, ReportsNames}
use Rattle.sc_law_entries.proofs.NamesProofs.EachFound.{Flights, Reports, opt_get, slot_with}
use Rattle.sc_law_walks.proofs.WalkLemmas.{either_way}
use Rattle.sc_law_entries.proofs.NamesProofs.HeldNames.{Cmd, R}

module _ (K : Draw → Type 0) where
  pub with_acceptor : (r : ReplicaState) (acceptor : AcceptorState Command) → ReportsNames K acceptor.accepted → R K r → R K (record r { acceptor = acceptor })
  with_acceptor r acceptor a k = record { core = k.core; log = k.log; accepted = a; reports = k.reports; flights = k.flights; ready = k.ready; acts = k.acts; backlog = k.backlog }

  pub with_leader : (r : ReplicaState) (leader : LeaderState Command) → Flights (CommandNames K) leader.flights × Reports (CommandNames K) leader.reports → R K r → R K (record r { leader = leader })
  with_leader r leader l k = record { core = k.core; log = k.log; accepted = k.accepted; reports = l.1; flights = l.0; ready = k.ready; acts = k.acts; backlog = k.backlog }

  pub with_ready : (r : ReplicaState) (slot : ℕ) (command : Command) → CommandNames K command → R K r → R K (record r { ready = with_slot r.ready slot command })
  with_ready r slot command c k = record { core = k.core; log = k.log; accepted = k.accepted; reports = k.reports; flights = k.flights; ready = slot_with (CommandNames K) r.ready slot command c k.ready; acts = k.acts; backlog = k.backlog }

  pub held_names : (slot : ℕ) (r : ReplicaState) → R K r → Cmd K (entry_at slot r.log)
  held_names slot r k = either_way (Cmd K) (nat_lt r.log.base slot) _ _ (opt_get (CommandNames K) r.log.entries (slot - r.log.base - 1) k.log) tt
