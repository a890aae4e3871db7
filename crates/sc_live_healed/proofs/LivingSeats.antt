-- The actors of a scenario by their numbers: each node is found by its number, what is a node is one of these, and who lives may get mail.
use Rattle.std.proofs.Common.{◌≡◌, ℕ, ◌*◌, ◌≤◌, ◌&&◌, not, nat_le, eqb, Bool, true, false, cond, List, [], ◌∷◌, ◌++◌, map, filter, length, Option, Some, None, inl, inr, refl, sym, ◌∙◌, ap, subst, arith}
use Rattle.std.specs.List.{list_any}
use Rattle.std.proofs.lemmas.Bool.{cond_both, and_parts, eqb-true, leb-true, le-leb, cases_Bool, ltb-true}
use Rattle.sc_base.specs.Definitions.{Among, is_majority, is_member, votes_of, most_nodes}
use Rattle.sc_words.proofs.PaxosProofs.PaxosLemmas.{Each-among}
use Rattle.sc_base.proofs.Lemmas.{and_both}
use Rattle.sc_law_groups.proofs.GroupProofs.GroupLemmas.{among_numbers}
use Rattle.sc_paxos_law.proofs.Lemmas.{Among-either, from_map}
use Rattle.sc_node_table.specs.Values.{Seat, Row, Base, OrderLine, Mail, Node, Client}
use Rattle.sc_actor.specs.Definitions.{acted, input_of, replay, value, may_get, has_crashed, numbers_of}
use Rattle.sc_node_table.specs.NodeDefinitions.{NodeState, is_node, numbers_from}
use Rattle.sc_scenario.specs.declared.scenario.scenarios.Scenario.{Scenario}
use Rattle.sc_scenario.specs.declared.scenario.scenarios.Asks.{Asks as Requests}
use Rattle.sc_scenario.specs.scenario.Definitions.{IsBounded}
use Rattle.sc_meaning.specs.sound.SoundDefinitions.{Lawful, Player, as_nodes, births, client_seat, client_seats, node_seat, player_table, route_of, schedule, system_of}
use Rattle.sc_live_orderly.proofs.OrderlyLemmas.{is_born-from}
use Rattle.sc_paxos_law.proofs.Leading.{counts_within}
use Rattle.sc_live_plain.proofs.PlainRowsProofs.NodeSeats.{seat_in}
use Rattle.sc_live_healed.proofs.FixedJournals.{Rows, IsOf}
use Rattle.sc_live_healed.proofs.HealedLines.{living_spared}
use Rattle.sc_live_healed.proofs.RowsWithoutOrders.{rows_spare}
use Rattle.sc_live_healed.specs.HealedDefinitions.{lives, HasLivingMajorities, LivingMajority}

-- ---- clients stay clients

abbrev IsClientPlayer : Player → Type 0
IsClientPlayer (Client client) = Unit {0}
IsClientPlayer (Node node) = ⊥

acts_client : (p : Player) (sent : List Mail) (row : Row Mail OrderLine) → IsClientPlayer p → IsClientPlayer (acted player_table p (input_of sent row.event)).0
acts_client (Client client) sent row k = by (input_of sent row.event)
  where
    by : (o : Option _) → IsClientPlayer (acted player_table (Client client) o).0
    by None = tt
    by (Some input) = tt
acts_client (Node node) sent row k = absurd k

replays_client : (who : ℕ) (p : Player) (sent : List Mail) (rows : Rows) → IsClientPlayer p → IsClientPlayer (replay player_table who p sent rows)
replays_client who p sent [] k = k
replays_client who p sent (row ∷ rows) k =
    replays_client who (cond (eqb row.who who) (acted player_table p (input_of sent row.event)).0 p) (sent ++ row.sent) rows
    (cond_both (eqb row.who who) (acted player_table p (input_of sent row.event)).0 p IsClientPlayer (λ _. acts_client p sent row k) (λ _. k))

clients_are : (groups : List Base) (clients : List Requests) (seat : Seat Player) → Among seat (client_seats groups clients) → IsClientPlayer seat.actor
clients_are [] clients seat a = absurd a
clients_are (base ∷ groups) clients seat a = (let m = from_map (client_seat (route_of base)) clients seat a in subst (λ (x : Seat Player). IsClientPlayer x.actor) m.2 tt)

module _ (scenario : Scenario) where
  -- a node's seat is found by its number
  pub node_found : (who : ℕ) → 1 ≤ who → who ≤ scenario.nodes → IsOf scenario (node_seat as_nodes scenario.groups scenario.policy who)
  node_found who low high = seat_in scenario.groups scenario.policy scenario.nodes 1 who (client_seats scenario.groups scenario.clients) low (omega (arith, high))

  -- an actor that is a node has been found by its number
  pub node_is_found : (seat : Seat Player) → Among seat (births as_nodes scenario) → (rows : Rows) (node : NodeState) → value player_table seat rows ≡ Node node → IsOf scenario seat
  node_is_found seat a rows node e =
      elim (Among-either seat (map (node_seat as_nodes scenario.groups scenario.policy) (numbers_from 1 scenario.nodes)) (client_seats scenario.groups scenario.clients) a) [
        | inl n ↦ (
            let m = from_map (node_seat as_nodes scenario.groups scenario.policy) (numbers_from 1 scenario.nodes) seat n in
            let b = among_numbers 1 scenario.nodes m.0 m.1 in
            let low = b.0 in
            let high = b.1 in
            subst (IsOf scenario) m.2 (node_found m.0 low (omega (arith, high))))
        | inr c ↦ absurd (subst IsClientPlayer e (replays_client seat.who seat.actor [] rows (clients_are scenario.groups scenario.clients seat c)))
      ]

  -- and has a node's number
  pub node_numbered : (seat : Seat Player) → Among seat (births as_nodes scenario) → (rows : Rows) (node : NodeState) → value player_table seat rows ≡ Node node → (1 ≤ seat.who) × (seat.who ≤ scenario.nodes)
  node_numbered seat a rows node e =
      elim (Among-either seat (map (node_seat as_nodes scenario.groups scenario.policy) (numbers_from 1 scenario.nodes)) (client_seats scenario.groups scenario.clients) a) [
        | inl n ↦ (
            let m = from_map (node_seat as_nodes scenario.groups scenario.policy) (numbers_from 1 scenario.nodes) seat n in
            let b = among_numbers 1 scenario.nodes m.0 m.1 in
            let low = b.0 in
            let high = b.1 in
            let same = ap (λ (s : Seat Player). s.who) m.2 in
            (omega (arith, low, same), omega (arith, high, same)))
        | inr c ↦ absurd (subst IsClientPlayer e (replays_client seat.who seat.actor [] rows (clients_are scenario.groups scenario.clients seat c)))
      ]

  -- who lives has a node's number
  pub living_bounds : (who : ℕ) → lives scenario who ≡ true → (1 ≤ who) × (who ≤ scenario.nodes)
  living_bounds who l =
      let p = and_parts (nat_le 1 who) (nat_le who scenario.nodes) (and_parts (nat_le 1 who && nat_le who scenario.nodes) (not (list_any _ scenario.lines)) l).0 in
      (leb-true 1 who p.0, leb-true who scenario.nodes p.1)

  pub living_node : IsBounded scenario → (who : ℕ) → lives scenario who ≡ true → is_node who ≡ true
  living_node bounded who l =
      let b = living_bounds who l in
      let high = b.1 in
      let most = bounded.nodes.1 in
      and_both (nat_le 1 who) (nat_le who most_nodes) (le-leb 1 who b.0) (le-leb who most_nodes (omega (arith, high, most)))

  -- and may get mail, whatever the journal
  pub living_gets : (words : ℕ → ℕ → ℕ × ℕ) (rows : Rows) → Lawful as_nodes words scenario rows → (who : ℕ) → lives scenario who ≡ true → may_get (numbers_of (births as_nodes scenario)) rows who ≡ true
  living_gets words rows lawful who l =
      let b = living_bounds who l in
      let born = is_born-from (system_of as_nodes words scenario) who (node_seat as_nodes scenario.groups scenario.policy who) (node_found who b.0 b.1) in
      both (list_any (λ actor. eqb actor who) (numbers_of (births as_nodes scenario))) (has_crashed rows who) born (rows_spare (system_of as_nodes words scenario) who (schedule scenario) rows (living_spared scenario who l) lawful)
    where
      both : (a b : Bool) → a ≡ true → b ≡ false → (a && not b) ≡ true
      both true false e f = refl
      both false b e f = absurd (cc)
      both true true e f = absurd (cc)

  -- ---- majorities

  kept_lives : (p : ℕ → Bool) (xs : List ℕ) (x : ℕ) → is_member (filter p xs) x ≡ true → p x ≡ true
  kept_lives p [] x e = absurd (cc)
  kept_lives p (y ∷ xs) x e = elim (cases_Bool (p y)) [
    | inl t ↦ elim (cases_Bool (eqb y x)) [
      | inl same ↦ ap p (sym (eqb-true y x same)) ∙ t
      | inr other ↦ kept_lives p xs x (sym (ap (λ b. is_member (cond b (y ∷ filter p xs) (filter p xs)) x) t ∙ skip other) ∙ e)
    ]
    | inr f ↦ kept_lives p xs x (sym (ap (λ b. is_member (cond b (y ∷ filter p xs) (filter p xs)) x) f) ∙ e)
  ]
    where
      skip : eqb y x ≡ false → is_member (y ∷ filter p xs) x ≡ is_member (filter p xs) x
      skip other = cc

  pub living_majority : HasLivingMajorities scenario → (base : Base) → Among base scenario.groups → LivingMajority (lives scenario) base.core.members
  living_majority most base a =
      let one = Each-among (λ (b : Base). is_majority b.core.members (filter (lives scenario) b.core.members) ≡ true) scenario.groups base most a in
      let many = ltb-true (length base.core.members) (2 * votes_of base.core.members (filter (lives scenario) base.core.members)) one in
      let fewer = counts_within (is_member (filter (lives scenario) base.core.members)) (lives scenario) base.core.members (λ x a k. kept_lives (lives scenario) base.core.members x k) in
      omega (arith, many, fewer)
