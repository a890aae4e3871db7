-- The name that an order draws is that of no group before it.
use Rattle.std.proofs.Common.{◌≡◌, ℕ, zero, suc, ◌+◌, ◌≤◌, ◌&&◌, ◌||◌, nat_le, eqb, true, List, [], ◌∷◌, map, length, Option, Some, None, inl, refl, sym, ◌∙◌, ap, subst, arith, false, inr}
use Rattle.std.specs.Prelude.{is_none}
use Rattle.std.specs.List.{find, list_any}
use Rattle.std.proofs.lemmas.Bool.{cases_Bool, cond-true, le-leb, and_from}
use Rattle.sc_base.proofs.Lemmas.{draw_is}
use Rattle.sc_node_table.specs.Values.{Draw, Base, OrderLine, Node, Client, Seat}
use Rattle.sc_base.specs.Definitions.{Among, Each, next_name, same_draw}
use Rattle.sc_actor.specs.declared.rows.Event.TheVariants.{Told}
use Rattle.sc_actor.specs.Definitions.{value, row_of}
use Rattle.sc_law_entries.specs.names.NameDefinitions.{BeginsUndrawn, AllNames, PlayerNames, ReplicaNames, owned_by, drawn_for, names_drawn, is_node_of, drawn_at}
use Rattle.sc_law_entries.proofs.NamesProofs.NameLemmas.{drawn_are_new}
use Rattle.sc_words.proofs.PaxosProofs.PaxosLemmas.{Each-among, Each-append, find_found}
use Rattle.sc_scenario.specs.scenario.Definitions.{base_at, bases_up_to, IsBounded}
use Rattle.sc_scenario.specs.declared.scenario.drafts.GroupLine.{GroupLine}
use Rattle.sc_scenario.specs.declared.scenario.scenarios.Asks.{Asks}
use Rattle.sc_scenario.specs.declared.scenario.scenarios.Scenario.{Scenario}
use Rattle.sc_node_table.specs.NodeDefinitions.{NodeState, replica_of, group_of_order, takes_name, untaken, ReplicaState, name_of, numbers_from}
use Rattle.sc_meaning.specs.sound.SoundDefinitions.{Player, player_table, node_seat, client_seat, client_seats, route_of, births, as_nodes, Lawful}
use Rattle.sc_live_steps.specs.calm.CalmDefinitions.{Rows}
use Rattle.sc_live_journals.specs.rows.RowDefinitions.{view_at, replicas_of, replica_in, IsSeat}
use Rattle.sc_live_journals.proofs.RowsProofs.RowLemmas.{found_name}
use Rattle.sc_live_journals.specs.scenes.SceneDefinitions.{IsNowhere}
use Rattle.sc_live_journals.proofs.MailProofs.MailSenders.{numbers_in}

-- ---- the groups of a scenario have no name that nodes draw

pub undrawn_to : (lines : List GroupLine) (count : ℕ) → Each BeginsUndrawn (bases_up_to lines count)
undrawn_to lines zero = tt
undrawn_to lines (suc k) =
    Each-append BeginsUndrawn (bases_up_to lines k) (base_at lines k ∷ []) (undrawn_to lines k)
    (record { id = refl; succ = refl; pred = refl; free = refl; decided = refl; voted = refl; born = refl; here = refl }, tt)

pub begin_undrawn : (scenario : Scenario) → IsBounded scenario → Each BeginsUndrawn scenario.groups
begin_undrawn scenario bounded = subst (Each BeginsUndrawn) (sym bounded.groups) (undrawn_to bounded.starts (length bounded.starts))

-- ---- who is a node was born as one, with a number of the scenario's

module _ (scenario : Scenario) where
  IsBorn : Seat Player → Type 0
  IsBorn seat = (born : NodeState) → seat.actor ≡ Node born → (n : ℕ) × (1 ≤ n) × (n ≤ scenario.nodes) × (seat ≡ node_seat as_nodes scenario.groups scenario.policy n)

  nodes_born : (numbers : List ℕ) → Each (λ n. (1 ≤ n) × (n + 1 ≤ 1 + scenario.nodes)) numbers → Each IsBorn (map (node_seat as_nodes scenario.groups scenario.policy) numbers)
  unfolding IsBorn
  nodes_born [] k = tt
  nodes_born (n ∷ numbers) k = ((λ born e. (let high = k.0.1 in (n, k.0.0, omega (arith, high), refl))), nodes_born numbers k.1)

  clients_born : (groups : List Base) (clients : List Asks) → Each IsBorn (client_seats groups clients)
  unfolding IsBorn
  clients_born [] clients = tt
  clients_born (base ∷ groups) clients = by clients
    where
      by : (cs : List Asks) → Each IsBorn (map (client_seat (route_of base)) cs)
      by [] = tt
      by (c ∷ cs) = ((λ born e. cc), by cs)

  pub node_born : (seat : Seat Player) (born : NodeState) → IsSeat (births as_nodes scenario) seat → seat.actor ≡ Node born → (n : ℕ) × (1 ≤ n) × (n ≤ scenario.nodes) × (seat ≡ node_seat as_nodes scenario.groups scenario.policy n)
  unfolding IsBorn
  node_born seat born fact e =
      Each-among IsBorn (births as_nodes scenario) seat
      (Each-append IsBorn (map (node_seat as_nodes scenario.groups scenario.policy) (numbers_from 1 scenario.nodes)) (client_seats scenario.groups scenario.clients) (nodes_born (numbers_from 1 scenario.nodes) (numbers_in 1 scenario.nodes))
      (clients_born scenario.groups scenario.clients)) (find_found (λ (other : Seat Player). eqb other.who seat.who) (births as_nodes scenario) seat fact).0 born e

-- ---- the name

module _ (words : ℕ → ℕ → ℕ × ℕ) (scenario : Scenario) (quiet : Rows) (bounded : IsBounded scenario) (lawful : Lawful as_nodes words scenario quiet) (seat : Seat Player) (line : OrderLine) (born : NodeState) (is_node : seat.actor ≡ Node born)
    (seated : IsSeat (births as_nodes scenario) seat) (node : NodeState) (fact : value player_table seat quiet ≡ Node node) (r : ReplicaState) (here : replica_of (group_of_order line.order) node.replicas ≡ Some r) (taken : untaken node.draws line r ≡ None)
    (named : takes_name line.order ≡ true) where
  drawn : Among (owned_by (next_name node.draws) (group_of_order line.order)) (drawn_at as_nodes scenario quiet (row_of player_table seat quiet (Told line)))
  drawn =
      let n = node_born scenario seat born seated is_node in
      let who : seat.who ≡ n.0 = ap (λ (s : Seat Player). s.who) n.3 in
      let in_range : is_node_of scenario seat.who ≡ true = subst (λ w. is_node_of scenario w ≡ true) (sym who) (and_from (nat_le 1 n.0) (nat_le n.0 scenario.nodes) (le-leb 1 n.0 n.1) (le-leb n.0 scenario.nodes n.2)) in
      let there : value player_table (node_seat as_nodes scenario.groups scenario.policy seat.who) quiet ≡ Node node =
      ap (λ w. value player_table (node_seat as_nodes scenario.groups scenario.policy w) quiet) who ∙ (ap (λ (s : Seat Player). value player_table s quiet) (sym n.3) ∙ fact) in
      let takes : takes_name line.order && is_none (untaken node.draws line r) ≡ true = and_from (takes_name line.order) (is_none (untaken node.draws line r)) named (ap is_none taken) in
      let list : drawn_at as_nodes scenario quiet (row_of player_table seat quiet (Told line)) ≡ owned_by (next_name node.draws) (group_of_order line.order) ∷ [] =
      cond-true (is_node_of scenario seat.who) (names_drawn (value player_table (node_seat as_nodes scenario.groups scenario.policy seat.who) quiet) (Told line)) [] in_range
      ∙ (ap (λ (p : Player). names_drawn p (Told line)) there
      ∙ (ap (λ (o : Option ReplicaState). drawn_for node.draws line o) here
      ∙ cond-true (takes_name line.order && is_none (untaken node.draws line r)) (owned_by (next_name node.draws) (group_of_order line.order) ∷ []) [] takes)) in
      subst (Among (owned_by (next_name node.draws) (group_of_order line.order))) (sym list) (inl refl)

  new : AllNames (λ name. name ≡ next_name node.draws → ⊥) as_nodes scenario quiet
  new = (drawn_are_new as_nodes words scenario (begin_undrawn scenario bounded) quiet lawful (row_of player_table seat quiet (Told line)) (owned_by (next_name node.draws) (group_of_order line.order)) drawn).0

  none_of : (replicas : List ReplicaState) → Each (ReplicaNames (λ name. name ≡ next_name node.draws → ⊥)) replicas → replica_of (next_name node.draws) replicas ≡ None
  none_of replicas all = by (replica_of (next_name node.draws) replicas) refl
    where
      by : (o : Option ReplicaState) → replica_of (next_name node.draws) replicas ≡ o → o ≡ None
      by None e = refl
      by (Some x) e =
          absurd ((Each-among (ReplicaNames (λ name. name ≡ next_name node.draws → ⊥)) replicas x all (find_found (λ (s : ReplicaState). same_draw (name_of s) (next_name node.draws)) replicas x e).0).core.id (found_name (next_name node.draws) replicas x e))

  player_none : (player : Player) → PlayerNames (λ name. name ≡ next_name node.draws → ⊥) player → replica_of (next_name node.draws) (replicas_of player) ≡ None
  player_none (Node other) all = none_of other.replicas all
  player_none (Client client) all = refl

  pub drawn_nowhere : IsNowhere (births as_nodes scenario) quiet (next_name node.draws)
  drawn_nowhere who = by (find (λ other. eqb other.who who) (births as_nodes scenario)) refl
    where
      by : (o : Option (Seat Player)) → find (λ other. eqb other.who who) (births as_nodes scenario) ≡ o → replica_in (next_name node.draws) quiet o ≡ None
      by None e = refl
      by (Some other) e = player_none (value player_table other quiet) (new.players other (find_found (λ (x : Seat Player). eqb x.who who) (births as_nodes scenario) other e).0)

  -- nor does any group know it
  none_known : (born : List Draw) → Each (λ name. name ≡ next_name node.draws → ⊥) born → list_any (λ other. same_draw other (next_name node.draws)) born ≡ false
  none_known [] k = refl
  none_known (name ∷ born) k = elim (cases_Bool (same_draw name (next_name node.draws))) [
    | inl t ↦ absurd (k.0 (draw_is name (next_name node.draws) t))
    | inr f ↦ ap (λ b. b || list_any (λ other. same_draw other (next_name node.draws)) born) f ∙ none_known born k.1
  ]

  in_player : (name : Draw) (x : ReplicaState) (player : Player) → PlayerNames (λ n. n ≡ next_name node.draws → ⊥) player → replica_of name (replicas_of player) ≡ Some x → list_any (λ other. same_draw other (next_name node.draws)) x.group.core.born ≡ false
  in_player name x (Node other) all e =
      none_known x.group.core.born (Each-among (ReplicaNames (λ n. n ≡ next_name node.draws → ⊥)) other.replicas x all (find_found (λ (s : ReplicaState). same_draw (name_of s) name) other.replicas x e).0).core.born
  in_player name x (Client client) all e = cc

  pub drawn_unknown : (name : Draw) (who : ℕ) (x : ReplicaState) → view_at (births as_nodes scenario) quiet name who ≡ Some x → list_any (λ other. same_draw other (next_name node.draws)) x.group.core.born ≡ false
  drawn_unknown name who x view = by (find (λ other. eqb other.who who) (births as_nodes scenario)) refl view
    where
      by : (o : Option (Seat Player)) → find (λ other. eqb other.who who) (births as_nodes scenario) ≡ o → replica_in name quiet o ≡ Some x → list_any (λ other. same_draw other (next_name node.draws)) x.group.core.born ≡ false
      by None e v = cc
      by (Some other) e v = in_player name x (value player_table other quiet) (new.players other (find_found (λ (s : Seat Player). eqb s.who who) (births as_nodes scenario) other e).0) v
