-- Actors with numbers of nodes are nodes in each prefix of a journal, and in turns nobody crashes.
use Rattle.std.proofs.Common.{◌≡◌, ℕ, ◌&&◌, ◌||◌, not, leb, eqb, Bool, true, false, true≢false, cond, List, [], ◌∷◌, ◌++◌, map, find, Option, Some, None, refl, sym, ◌∙◌, ap, subst, arith, append-nil, append_assoc}
use Rattle.std.specs.List.{list_any}
use Rattle.std.proofs.lemmas.List.{append_cancel_left}
use Rattle.std.proofs.lemmas.List.Folds.{list_any-append}
use Rattle.std.proofs.lemmas.Bool.{cond_both, and_right, or_from, lt-leb}
use Rattle.sc_base.specs.Definitions.{Each, client_actor, most_nodes}
use Rattle.sc_base.proofs.Lemmas.{map-some}
use Rattle.sc_node_table.specs.Values.{Seat, Row, Event, OrderLine, Base, Mail, Node, Client}
use Rattle.sc_actor.specs.declared.rows.Event.TheVariants.{Tick as TickEvent, Go as GoEvent}
use Rattle.sc_actor.specs.Definitions.{acted, input_of, replay, value, may_get, has_crashed, has_started, is_crash, numbers_of, acts, row_of, line_row, System}
use Rattle.sc_actor.proofs.Lemmas.{find-who}
use Rattle.sc_words.proofs.PaxosProofs.PaxosLemmas.{Each-among, Each-append, Each-from_All, find_found}
use Rattle.sc_node_table.specs.NodeDefinitions.{NodeState, is_node, numbers_from}
use Rattle.sc_scenario.specs.declared.scenario.scenarios.Scenario.{Scenario}
use Rattle.sc_scenario.specs.declared.scenario.scenarios.Asks.{Asks as Requests}
use Rattle.sc_scenario.specs.scenario.Definitions.{IsBounded, IsBoundedClient}
use Rattle.sc_meaning.specs.sound.SoundDefinitions.{Player, as_nodes, births, client_seat, client_seats, node_seat, player_table, route_of}
use Rattle.sc_live_orderly.specs.OrderlyDefinitions.{Kick, Ticks, Starts, Turn, kick_line, AreDelivered, HasTurns}
use Rattle.sc_live_orderly.specs.Turns.{as_list}
use Rattle.sc_live_orderly.proofs.PendingMail.{takes_lowest}
use Rattle.sc_live_healed.proofs.FixedJournals.{Rows, IsOf}

-- ---- nodes stay nodes

abbrev IsNodePlayer : Player → Type 0
IsNodePlayer (Node node) = Unit {0}
IsNodePlayer (Client client) = ⊥

acts_node : (p : Player) (sent : List Mail) (event : Event OrderLine) → IsNodePlayer p → IsNodePlayer (acted player_table p (input_of sent event)).0
acts_node (Node node) sent event k = by (input_of sent event)
  where
    by : (o : Option _) → IsNodePlayer (acted player_table (Node node) o).0
    by None = tt
    by (Some input) = tt
acts_node (Client client) sent event k = absurd k

replays_node : (who : ℕ) (p : Player) (sent : List Mail) (rows : Rows) → IsNodePlayer p → IsNodePlayer (replay player_table who p sent rows)
replays_node who p sent [] k = k
replays_node who p sent (row ∷ rows) k =
    replays_node who (cond (eqb row.who who) (acted player_table p (input_of sent row.event)).0 p) (sent ++ row.sent) rows
    (cond_both (eqb row.who who) (acted player_table p (input_of sent row.event)).0 p IsNodePlayer (λ _. acts_node p sent row.event k) (λ _. k))

is_some_node : (p : Player) → IsNodePlayer p → (node : NodeState) × (p ≡ Node node)
is_some_node (Node node) k = (node, refl)
is_some_node (Client client) k = absurd k

module _ (scenario : Scenario) (bounded : IsBounded scenario) where
  -- an actor with the number of a node is one
  abbrev IsNumbered : Seat Player → Type 0
  IsNumbered seat = is_node seat.who ≡ true → IsNodePlayer seat.actor

  nodes_numbered : (numbers : List ℕ) → Each IsNumbered (map (node_seat as_nodes scenario.groups scenario.policy) numbers)
  nodes_numbered [] = tt
  nodes_numbered (n ∷ numbers) = ((λ _. tt), nodes_numbered numbers)

  client_numbered : (asks : Requests) → IsBoundedClient asks → is_node (client_actor asks.client) ≡ false
  client_numbered asks b = (let one = b.0.0 in and_right (leb 1 (client_actor asks.client)) (leb (client_actor asks.client) most_nodes) (lt-leb (client_actor asks.client) most_nodes (omega (arith, one))))

  clients_numbered : (groups : List Base) (clients : List Requests) → Each IsBoundedClient clients → Each IsNumbered (client_seats groups clients)
  clients_numbered [] clients b = tt
  clients_numbered (base ∷ groups) clients b = by clients b
    where
      by : (cs : List Requests) → Each IsBoundedClient cs → Each IsNumbered (map (client_seat (route_of base)) cs)
      by [] k = tt
      by (c ∷ cs) k = ((λ t. absurd (true≢false (sym t ∙ client_numbered c k.0))), by cs k.1)

  seats_numbered : Each IsNumbered (births as_nodes scenario)
  seats_numbered =
      Each-append IsNumbered (map (node_seat as_nodes scenario.groups scenario.policy) (numbers_from 1 scenario.nodes)) (client_seats scenario.groups scenario.clients) (nodes_numbered (numbers_from 1 scenario.nodes))
      (clients_numbered scenario.groups scenario.clients (Each-from_All IsBoundedClient scenario.clients bounded.clients))

  -- the actor with the number of a node is a node after any rows
  pub seats_stay_nodes : (seat : Seat Player) → IsOf scenario seat → is_node seat.who ≡ true → (rows : Rows) → (node : NodeState) × (value player_table seat rows ≡ Node node)
  seats_stay_nodes seat is_of t rows =
      let born = Each-among IsNumbered (births as_nodes scenario) seat seats_numbered (find_found (λ (other : Seat Player). eqb other.who seat.who) (births as_nodes scenario) seat is_of).0 in
      is_some_node (value player_table seat rows) (replays_node seat.who seat.actor [] rows (born t))

-- ---- nobody crashes in turns

module _ (s : System Player Mail OrderLine) where
  -- no row is a crash
  abbrev AreKind : Rows → Type 0
  AreKind rows = Each (λ (row : Row Mail OrderLine). is_crash row.event ≡ false) rows

  delivered_kind : (rows deliveries : Rows) → AreDelivered s rows deliveries → AreKind deliveries
  delivered_kind rows [] d = tt
  delivered_kind rows (row ∷ more) d = (let t = takes_lowest s rows row d.0 in (ap (λ (r : Row Mail OrderLine). is_crash r.event) t.row_is, delivered_kind (rows ++ row ∷ []) more d.1))

  -- the row of an actor's event
  pub acts_row : (rows : Rows) (who : ℕ) (event : Event OrderLine) (row : Row Mail OrderLine) → acts s rows who event ≡ Some row → (row.who ≡ who) × (row.event ≡ event)
  acts_row rows who event row e =
      let m = map-some (λ (seat : Seat Player). row_of s.table seat rows event) (find (λ (seat : Seat Player). eqb seat.who who) s.births) row e in
      (sym (ap (λ (r : Row Mail OrderLine). r.who) m.2) ∙ find-who s.births who m.0 m.1, sym (ap (λ (r : Row Mail OrderLine). r.event) m.2))

  acts_kind : (rows : Rows) (who : ℕ) (event : Event OrderLine) (row : Row Mail OrderLine) → is_crash event ≡ false → acts s rows who event ≡ Some row → is_crash row.event ≡ false
  acts_kind rows who event row kind e = ap (λ (x : Event OrderLine). is_crash x) (acts_row rows who event row e).1 ∙ kind

  first_kind : (rows : Rows) (kick : Kick) (who : ℕ) (first : Option (Row Mail OrderLine)) → line_row s rows (kick_line kick who) ≡ first → AreKind (as_list first)
  first_kind rows kick who None e = tt
  first_kind rows Ticks who (Some row) e =
      (acts_kind rows who TickEvent row refl (cond_both (has_crashed rows who) None (acts s rows who TickEvent) (λ (o : Option (Row Mail OrderLine)). o ≡ Some row → acts s rows who TickEvent ≡ Some row) (λ _ k. cc) (λ _ k. k) e), tt)
  first_kind rows Starts who (Some row) e =
      (acts_kind rows who GoEvent row refl (cond_both (has_started rows who) None (acts s rows who GoEvent) (λ (o : Option (Row Mail OrderLine)). o ≡ Some row → acts s rows who GoEvent ≡ Some row) (λ _ k. cc) (λ _ k. k) e), tt)

  -- turns put rows behind that are no crashes
  pub turns_kind : (rows : Rows) (turns : List Turn) (after : Rows) → HasTurns s rows turns after → (more : Rows) × (after ≡ rows ++ more) × AreKind more
  turns_kind rows [] after t = ([], sym t.1 ∙ sym (append-nil rows), tt)
  turns_kind rows (turn ∷ turns) after t =
      let rest = turns_kind t.0 turns after t.2 in
      let first = first_kind rows turn.kick turn.who t.1.first t.1.first_is in
      let others = delivered_kind (rows ++ as_list t.1.first) t.1.deliveries t.1.delivered in
      let K : Row Mail OrderLine → Type 0 = λ row. is_crash row.event ≡ false in (
        as_list t.1.first ++ (t.1.deliveries ++ rest.0),
        rest.1 ∙ (ap (λ (rs : Rows). rs ++ rest.0) t.1.after_is ∙ (append_assoc (rows ++ as_list t.1.first) t.1.deliveries rest.0 ∙ append_assoc rows (as_list t.1.first) (t.1.deliveries ++ rest.0))),
        Each-append K (as_list t.1.first) (t.1.deliveries ++ rest.0) first (Each-append K t.1.deliveries rest.0 others rest.2),
      )

  none_crash : (who : ℕ) (more : Rows) → AreKind more → list_any (λ (row : Row Mail OrderLine). eqb row.who who && is_crash row.event) more ≡ false
  none_crash who [] k = refl
  none_crash who (row ∷ more) k = or_from (eqb row.who who && is_crash row.event) (list_any (λ (r : Row Mail OrderLine). eqb r.who who && is_crash r.event) more) (and_right (eqb row.who who) (is_crash row.event) k.0) (none_crash who more k.1)

  or_none : (b : Bool) → (b || false) ≡ b
  or_none true = refl
  or_none false = refl

  pub same_crashed : (who : ℕ) (rows more : Rows) → AreKind more → has_crashed (rows ++ more) who ≡ has_crashed rows who
  same_crashed who rows more k =
      list_any-append (λ (row : Row Mail OrderLine). eqb row.who who && is_crash row.event) rows more
      ∙ (ap (λ b. has_crashed rows who || b) (none_crash who more k) ∙ or_none (has_crashed rows who))

  first_part : (xs ys : Rows) → AreKind (xs ++ ys) → AreKind xs
  first_part [] ys k = tt
  first_part (x ∷ xs) ys k = (k.0, first_part xs ys k.1)

  -- who may get mail before some turns may get it in each prefix of them
  pub turns_get : (who : ℕ) (rows : Rows) (turns : List Turn) (after more later : Rows) → HasTurns s rows turns after → after ≡ (rows ++ more) ++ later → may_get (numbers_of s.births) rows who ≡ true → may_get (numbers_of s.births) (rows ++ more) who ≡ true
  turns_get who rows turns after more later t e gets =
      let all = turns_kind rows turns after t in
      let same : all.0 ≡ more ++ later = append_cancel_left rows all.0 (more ++ later) (sym all.1 ∙ e ∙ append_assoc rows more later) in
      let kind : AreKind more = first_part more later (subst AreKind same all.2) in
      ap (λ b. list_any (λ (actor : ℕ). eqb actor who) (numbers_of s.births) && not b) (same_crashed who rows more kind) ∙ gets
