-- What is known of a prefix of a lawful journal.
use Rattle.std.proofs.Common.{◌≡◌, ℕ, ◌≤◌, ◌+◌, ◌<◌, ◌&&◌, leb, eqb, Bool, zero, suc, List, [], ◌∷◌, map, Option, Some, None, inl, inr, refl, sym, ◌∙◌, ap, subst, arith}
use Rattle.std.specs.Prelude.{find}
use Rattle.std.proofs.lemmas.Bool.{cases_Bool, cond-true, eqb-true, and_from, and_parts, le-leb, leb-true, both_ways}
use Rattle.std.proofs.lemmas.Option.{none-some}
use Rattle.sc_base.specs.Definitions.{Among, same_draw}
use Rattle.sc_node_table.specs.Values.{Draw, Base, Node, Client, Seat}
use Rattle.sc_base.proofs.Lemmas.{draw_is}
use Rattle.sc_actor.specs.Definitions.{value}
use Rattle.sc_actor.proofs.Lemmas.{lawful-prefix}
use Rattle.sc_words.proofs.PaxosProofs.PaxosLemmas.{find_found}
use Rattle.sc_paxos_law.proofs.Lemmas.{Among-either, from_map}
use Rattle.sc_scenario.specs.scenario.Definitions.{IsValid, ValidScenariosAreBounded}
use Rattle.sc_scenario.specs.declared.scenario.scenarios.Asks.{Asks}
use Rattle.sc_scenario.specs.declared.scenario.scenarios.Scenario.{Scenario}
use Rattle.sc_node_table.specs.NodeDefinitions.{is_node, replica_of, ReplicaState, name_of, numbers_from}
use Rattle.sc_meaning.specs.sound.SoundDefinitions.{groups_at, log_at, decided_log, Player, player_table, node_seat, client_seat, client_seats, route_of, births, as_nodes, Lawful, system_of, schedule, Continues, IsSound}
use Rattle.sc_law_entries.specs.logs.LogDefinitions.{Rows, DecideInTurn}
use Rattle.sc_law_entries.proofs.LogsProofs.LogLemmas.{deciding_rows_stay}
use Rattle.sc_law_entries.specs.names.NameDefinitions.{OtherNamesAreFree, TakenOrdersAreAllowed, TakenWishesAreAllowed, WishesAreAtPositions}
use Rattle.sc_law_groups.specs.whole.WholeDefinitions.{ValidScenariosBeginWell, ValidJournalsAreSound}
use Rattle.sc_live_plain.proofs.PlainProofs.PlainSteps.{node_in}
use Rattle.sc_live_plain.specs.PlainDefinitions.{replicas_after, replicas_of}
use Rattle.sc_live_journals.specs.rows.RowDefinitions.{replicas_of as view_replicas, replica_in, view_at}
use Rattle.sc_live_answers.specs.AnswerDefinitions.{AreAtNodes, IsPrefixOf, IsOfGroup, IsFoundPrefix, PrefixesAreFound}
use Rattle.sc_live_answers.proofs.ReplicasProofs.ReplicaNodes.{at_nodes}
use Rattle.sc_live_answers.proofs.LinksProofs.LinkLogs.{sources, well, turn, found}
pub use Rattle.sc_law_entries.proofs.NamesProofs.Fresh.{IsClient, replay_client}
pub use Rattle.sc_live_plain.proofs.PlainRowsProofs.NodeSeats.{seat_in}

no_replica : (name : Draw) (player : Player) → IsClient player → replica_of name (view_replicas player) ≡ None
no_replica name (Node node) fact = absurd fact
no_replica name (Client client) fact = refl

-- ---- seats

pub client_among : (groups : List Base) (clients : List Asks) (seat : Seat Player) → Among seat (client_seats groups clients) → IsClient seat.actor
client_among [] clients seat a = absurd a
client_among (base ∷ groups) clients seat a = (let f = from_map (client_seat (route_of base)) clients seat a in subst (λ (s : Seat Player). IsClient s.actor) f.2 tt)

pub node_among : (groups : List Base) (policy : Bool) (count from : ℕ) (seat : Seat Player) → Among seat (map (node_seat as_nodes groups policy) (numbers_from from count)) → (from ≤ seat.who) × (seat.who < from + count)
node_among groups policy zero from seat a = absurd a
node_among groups policy (suc count) from seat (inl e) = (let fact = ap (λ (s : Seat Player). s.who) e in (omega (arith, fact), omega (arith, fact)))
node_among groups policy (suc count) from seat (inr a) = (let more = node_among groups policy count (from + 1) seat a in let low = more.0 in let high = more.1 in (omega (arith, low), omega (arith, high)))

module _ (bounded : ValidScenariosAreBounded) (begin : ValidScenariosBeginWell) (allowed : TakenOrdersAreAllowed) (wishes : TakenWishesAreAllowed) (positions : WishesAreAtPositions) (free : OtherNamesAreFree) (sounds : ValidJournalsAreSound)
    (words : ℕ → ℕ → ℕ × ℕ) (scenario : Scenario) (journal prefix : Rows) (valid : IsValid scenario) (lawful : Lawful as_nodes words scenario journal) (fact : IsPrefixOf journal prefix) (homes : AreAtNodes scenario prefix) where
  sound : IsSound as_nodes scenario prefix fact.more
  sound = sounds as_nodes refl words scenario valid journal lawful prefix fact.more fact.fact

  lawful_prefix : Lawful as_nodes words scenario prefix
  lawful_prefix = lawful-prefix (system_of as_nodes words scenario) (schedule scenario) prefix fact.more (subst (Lawful as_nodes words scenario) fact.fact lawful)

  later : (base : Base) → Among base (groups_at as_nodes scenario.groups prefix) → Among base (groups_at as_nodes scenario.groups journal)
  later base a =
      let s = sources bounded begin allowed wishes positions free words scenario journal valid lawful in
      let w = well bounded begin allowed wishes positions free words scenario journal valid lawful in
      let t = turn bounded begin allowed wishes positions free words scenario journal valid lawful in
      subst (λ rows. Among base (groups_at as_nodes scenario.groups rows)) (sym fact.fact)
      ((deciding_rows_stay s as_nodes scenario.groups w.place prefix fact.more (subst (DecideInTurn s as_nodes scenario.groups []) fact.fact t)).groups base a)

  goes_on : (base : Base) → Among base (groups_at as_nodes scenario.groups prefix) → Continues (decided_log as_nodes base prefix) (decided_log as_nodes base journal)
  goes_on base a =
      subst (Continues (decided_log as_nodes base prefix)) (ap (λ rows. log_at as_nodes scenario.groups rows base.core.id) (sym fact.fact) ∙ ((found bounded begin allowed wishes positions free words scenario journal valid lawful).known base (later base a)).log)
      (sound.one_log base a).grows

  abbrev player : ℕ → Player
  player node = value player_table (node_seat as_nodes scenario.groups scenario.policy node) prefix

  is_there : (name : Draw) (node : ℕ) → 1 ≤ node → node ≤ scenario.nodes → replicas_after scenario prefix name node ≡ replica_of name (replicas_of (player node))
  is_there name node low high = cond-true (is_node node) (replica_of name (replicas_of (player node))) None (node_in scenario.nodes node (bounded scenario valid).nodes.1 low high)

  replicas : (name : Draw) (node : ℕ) (r : ReplicaState) → replicas_after scenario prefix name node ≡ Some r → IsOfGroup scenario prefix name r
  replicas name node r e =
      let home = homes name node (r, e) in
      by (player node) refl home.0 home.1 (sym (is_there name node home.0 home.1) ∙ e)
    where
      by : (p : Player) → player node ≡ p → 1 ≤ node → node ≤ scenario.nodes → replica_of name (replicas_of p) ≡ Some r → IsOfGroup scenario prefix name r
      by (Client client) q low high w = absurd (none-some r w)
      by (Node state) q low high w =
          let f = find_found (λ (x : ReplicaState). same_draw (name_of x) name) state.replicas r w in
          let run = sound.have_run node low high state q r f.0 in
          record { base = run.0; among = run.1; named = run.2 ∙ draw_is (name_of r) name f.1; run = run.3 }

  same_replicas : (name : Draw) (p : Player) → replica_of name (replicas_of p) ≡ replica_of name (view_replicas p)
  same_replicas name (Node state) = refl
  same_replicas name (Client client) = refl

  abbrev nodes : List (Seat Player)
  nodes = map (node_seat as_nodes scenario.groups scenario.policy) (numbers_from 1 scenario.nodes)

  -- who is no node of the scenario has none
  seen_none : (name : Draw) (node : ℕ) → ((1 ≤ node) × (node ≤ scenario.nodes) → ⊥) → view_at (births as_nodes scenario) prefix name node ≡ None
  seen_none name node out = by (find (λ (seat : Seat Player). eqb seat.who node) (births as_nodes scenario)) refl
    where
      by : (o : Option (Seat Player)) → find (λ (seat : Seat Player). eqb seat.who node) (births as_nodes scenario) ≡ o → replica_in name prefix o ≡ None
      by None q = refl
      by (Some seat) q =
          let f = find_found (λ (x : Seat Player). eqb x.who node) (births as_nodes scenario) seat q in
          elim (Among-either seat nodes (client_seats scenario.groups scenario.clients) f.0) [
            | inl a ↦ (
                let own = eqb-true seat.who node f.1 in
                let in_ = node_among scenario.groups scenario.policy scenario.nodes 1 seat a in
                let low = in_.0 in
                let high = in_.1 in
                absurd (out (omega (arith, own, low), omega (arith, own, high))))
            | inr a ↦ no_replica name (value player_table seat prefix) (replay_client seat.who seat.actor [] prefix (client_among scenario.groups scenario.clients seat a))
          ]

  abbrev is_home : ℕ → Bool
  is_home n = leb 1 n && leb n scenario.nodes

  views : (name : Draw) (node : ℕ) → replicas_after scenario prefix name node ≡ view_at (births as_nodes scenario) prefix name node
  views name node = elim (cases_Bool (is_home node)) [
    | inl t ↦ (
        let both = and_parts (leb 1 node) (leb node scenario.nodes) t in
        let low = leb-true 1 node both.0 in
        let high = leb-true node scenario.nodes both.1 in
        is_there name node low high ∙ (same_replicas name (player node) ∙ sym (ap (replica_in name prefix) (seat_in scenario.groups scenario.policy scenario.nodes 1 node (client_seats scenario.groups scenario.clients) low (omega (arith, high))))))
    | inr f ↦ (
        let out : (1 ≤ node) × (node ≤ scenario.nodes) → ⊥ = λ h. both_ways (is_home node) f (and_from (leb 1 node) (leb node scenario.nodes) (le-leb 1 node h.0) (le-leb node scenario.nodes h.1)) in
        by (replicas_after scenario prefix name node) refl out ∙ sym (seen_none name node out))
  ]
    where
      by : (o : Option ReplicaState) → replicas_after scenario prefix name node ≡ o → ((1 ≤ node) × (node ≤ scenario.nodes) → ⊥) → o ≡ None
      by None q out = refl
      by (Some r) q out = absurd (out (homes name node (r, q)))

  pub found_prefix : IsFoundPrefix words scenario journal prefix
  found_prefix = record { homes = homes; lawful = lawful_prefix; apart = (found bounded begin allowed wishes positions free words scenario journal valid lawful).apart; later = later; goes_on = goes_on; is_log = λ base a. (sound.one_log base a).is_log; replicas = replicas; views = views }

pub prefixes_are_found : ValidScenariosAreBounded → ValidScenariosBeginWell → TakenOrdersAreAllowed → TakenWishesAreAllowed → WishesAreAtPositions → OtherNamesAreFree → ValidJournalsAreSound → PrefixesAreFound
prefixes_are_found bounded begin allowed wishes positions free sounds words scenario journal prefix calm fact = found_prefix bounded begin allowed wishes positions free sounds words scenario journal prefix calm.valid calm.lawful fact (at_nodes bounded words scenario journal prefix calm fact)
