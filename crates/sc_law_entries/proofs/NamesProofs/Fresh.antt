-- All names of a lawful journal are those of the scenario, and those that nodes drew.
use Rattle.std.proofs.Common.{◌≡◌, ℕ, zero, suc, ◌+◌, ◌<◌, ◌≤◌, eqb, List, [], ◌∷◌, ◌++◌, filter, map, Option, Some, None, ◌⊎◌, inl, inr, refl, sym, ◌∙◌, ap, subst, arith}
use Rattle.std.specs.Option.{option_map}
use Rattle.std.proofs.lemmas.Bool.{cond_both, eqb-true}
use Rattle.sc_base.specs.Definitions.{Among, Each, next_name, is_member}
use Rattle.sc_node_table.specs.Values.{Draw, Seat, Row, Event, Deliver, Drop, Again, Go, Tick, Crash, Got, Base, Lock, Route, OrderLine, Outcome, Past, Mail, Node, Client}
use Rattle.sc_actor.specs.declared.rows.Event.TheVariants.{Told}
use Rattle.sc_actor.specs.declared.rows.Input.TheVariants.{Tick as TickInput, Go as GoInput, Told as ToldInput}
use Rattle.sc_actor.specs.Definitions.{mails, numbered, value, replay, acted, input_of, IsStep}
use Rattle.sc_actor.proofs.Lemmas.{lawful-induction, value-snoc, mails-snoc}
use Rattle.sc_client_table.specs.table.TableDefinitions.{Client as ClientState}
use Rattle.sc_node_table.specs.NodeDefinitions.{NodeState, born_node, born_replica, numbers_from}
use Rattle.sc_words.proofs.PaxosProofs.PaxosLemmas.{Each-among, Each-from, Each-append, Each-filter, find_found}
use Rattle.sc_meaning.specs.sound.SoundDefinitions.{Ahead, Player, Lawful, player_table, node_seat, client_seat, client_seats, route_of, births, schedule, system_of}
use Rattle.sc_scenario.specs.declared.scenario.scenarios.Asks.{Asks}
use Rattle.sc_scenario.specs.declared.scenario.scenarios.Scenario.{Scenario}
use Rattle.sc_law_entries.specs.names.NameDefinitions.{Rows, Owned, drawn_ticking, drawn_at, owner_in, IsUsed, BeginsUndrawn, AllNames, AllDecided, NamesAreDrawn, DrawnNamesAreNew, Opt, LockNames, OutcomeNames, PastNames, CoreNames, MailNames, ReplicaNames, NodeNames, ClientNames, PlayerNames}
use Rattle.sc_law_entries.proofs.NamesProofs.Counters.{drawn_are_owned, fresh_at}
use Rattle.sc_law_entries.proofs.NamesProofs.EachFound.{opt_get}
use Rattle.sc_law_entries.proofs.NamesProofs.Machine.{Each-map}
use Rattle.sc_law_entries.proofs.NamesProofs.Sent.{Sent}
use Rattle.sc_law_entries.proofs.NamesProofs.HeldNames.{born_names}
use Rattle.sc_law_entries.proofs.NamesProofs.Ordered.{it_ticks, it_is_owned}
use Rattle.sc_law_entries.proofs.NamesProofs.LoggedNames.{decided_names}
use Rattle.sc_law_entries.proofs.NamesProofs.Owned.{owned_later}
use Rattle.sc_law_entries.proofs.NamesProofs.Playing.{Brings, node_names, client_names}
use Rattle.sc_law_walks.proofs.Replays.{StepsHold, replay_keeps}

-- ---- a client stays one

abbrev pub IsClient : Player → Type 0
IsClient (Node node) = ⊥
IsClient (Client client) = Unit {0}

client_keeps : StepsHold player_table IsClient
client_keeps (Node node) input c = absurd c
client_keeps (Client client) input c = tt

pub replay_client : (who : ℕ) (p : Player) (sent : List Mail) (rows : Rows) → IsClient p → IsClient (replay player_table who p sent rows)
replay_client who p sent rows c = replay_keeps player_table IsClient client_keeps who rows p sent c

pub no_node : (p : Player) (node : NodeState) → IsClient p → p ≡ Node node → ⊥
no_node p node c e = subst IsClient e c

-- ---- the seats

bounds : (from more : ℕ) → Each (λ n. (from ≤ n) × (n < from + more)) (numbers_from from more)
bounds from zero = tt
bounds from (suc more) = ((omega arith, omega arith), weaker (numbers_from (from + 1) more) (bounds (from + 1) more))
  where
    weaker : (ns : List ℕ) → Each (λ n. (from + 1 ≤ n) × (n < from + 1 + more)) ns → Each (λ n. (from ≤ n) × (n < from + suc more)) ns
    weaker [] e = tt
    weaker (n ∷ ns) e = (let low = e.0.0 in let high = e.0.1 in ((omega (arith, low), omega (arith, high)), weaker ns e.1))

module _ (ahead : Ahead) (scenario : Scenario) where
  -- a seat of a node of the scenario, or of a client
  abbrev pub IsSeat : Seat Player → Type 0
  IsSeat seat = ((n : ℕ) × (1 ≤ n) × (n ≤ scenario.nodes) × (seat ≡ node_seat ahead scenario.groups scenario.policy n)) ⊎ IsClient seat.actor

  nodes_are : (ns : List ℕ) → Each (λ n. (1 ≤ n) × (n < 1 + scenario.nodes)) ns → Each IsSeat (map (node_seat ahead scenario.groups scenario.policy) ns)
  nodes_are [] e = tt
  nodes_are (n ∷ ns) e = (let high = e.0.1 in (inl (n, e.0.0, omega (arith, high), refl), nodes_are ns e.1))

  some_clients : (route : Route) (clients : List Asks) → Each IsSeat (map (client_seat route) clients)
  some_clients route [] = tt
  some_clients route (asks ∷ clients) = (inr tt, some_clients route clients)

  clients_are : (groups : List Base) (clients : List Asks) → Each IsSeat (client_seats groups clients)
  clients_are [] clients = tt
  clients_are (base ∷ bases) clients = some_clients (route_of base) clients

  pub seats_are : Each IsSeat (births ahead scenario)
  seats_are =
      Each-append IsSeat (map (node_seat ahead scenario.groups scenario.policy) (numbers_from 1 scenario.nodes)) (client_seats scenario.groups scenario.clients)
      (nodes_are (numbers_from 1 scenario.nodes) (bounds 1 scenario.nodes)) (clients_are scenario.groups scenario.clients)

module _ (ahead : Ahead) (words : ℕ → ℕ → ℕ × ℕ) (scenario : Scenario) (K : Draw → Type 0) (none : (name : Draw) → name.node ≡ 0 → K name) (begins : Each BeginsUndrawn scenario.groups) where
  abbrev All : Rows → Type 0
  All rows = AllNames K ahead scenario rows

  abbrev Drawn : Rows → Type 0
  Drawn rows = (name group : Draw) → owner_in ahead scenario rows name ≡ Some group → K name

  -- ---- before any row

  begin_names : (base : Base) → BeginsUndrawn base → CoreNames K base.core
  begin_names base b = record {
    id = none base.core.id b.id;
    succ = none base.core.succ.group b.succ;
    pred = none base.core.pred.group b.pred;
    lock = subst (λ (lock : Lock). LockNames K lock) (sym b.free) tt;
    decided = subst (λ (ds : List (Draw × Outcome)). Each (λ (d : Draw × Outcome). K d.0 × OutcomeNames K d.1) ds) (sym b.decided) tt;
    voted = subst (λ (vs : List (Draw × Past)). Each (λ (v : Draw × Past). K v.0 × PastNames K v.1) vs) (sym b.voted) tt;
    born = subst (λ (ns : List Draw). Each K ns) (sym b.born) tt;
    gone = subst (λ (o : Option Route). Opt (λ (into : Route). K into.group) o) (sym b.here) tt;
  }

  born_node_names : (n : ℕ) → NodeNames K (born_node ahead.slots n scenario.groups scenario.policy)
  born_node_names n =
      Each-map BeginsUndrawn (ReplicaNames K) (λ base. born_replica ahead.slots n base) (λ base b. born_names K ahead.slots n base (begin_names base b)) (filter (λ base. is_member base.core.members n) scenario.groups)
      (Each-filter BeginsUndrawn (λ base. is_member base.core.members n) scenario.groups begins)

  abbrev Begun : Seat Player → Type 0
  Begun seat = PlayerNames K seat.actor

  begun_nodes : (ns : List ℕ) → Each Begun (map (node_seat ahead scenario.groups scenario.policy) ns)
  begun_nodes [] = tt
  begun_nodes (n ∷ ns) = (born_node_names n, begun_nodes ns)

  begun_some : (route : Route) (clients : List Asks) → K route.group → Each Begun (map (client_seat route) clients)
  begun_some route [] k = tt
  begun_some route (asks ∷ clients) k = (record { known = (k, tt); asked = tt }, begun_some route clients k)

  begun_clients : (groups : List Base) (clients : List Asks) → Each BeginsUndrawn groups → Each Begun (client_seats groups clients)
  begun_clients [] clients b = tt
  begun_clients (base ∷ bases) clients b = begun_some (route_of base) clients (none base.core.id b.0.id)

  begun : Each Begun (births ahead scenario)
  begun = Each-append Begun (map (node_seat ahead scenario.groups scenario.policy) (numbers_from 1 scenario.nodes)) (client_seats scenario.groups scenario.clients) (begun_nodes (numbers_from 1 scenario.nodes)) (begun_clients scenario.groups scenario.clients begins)

  first_all : All []
  first_all = record { sent = tt; players = λ seat a. Each-among Begun (births ahead scenario) seat begun a }

  -- ---- one row more

  numbered_names : (sent : List Mail) (number : ℕ) → Each (MailNames K) sent → Opt (MailNames K) (numbered sent number)
  numbered_names sent zero m = tt
  numbered_names sent (suc place) m = opt_get (MailNames K) sent place m

  module _ (rows : Rows) (row : Row Mail OrderLine) (drawn : Drawn (rows ++ row ∷ [])) (now : All rows) where
    abbrev next : Rows
    next = rows ++ row ∷ []

    abbrev Acted : Player × List Mail → Type 0
    Acted p = PlayerNames K p.0 × Sent K p.1

    node_got : (node : NodeState) (o : Option Mail) → Opt (MailNames K) o → NodeNames K node → Acted (acted player_table (Node node) (option_map Got o))
    node_got node None m k = (k, tt)
    node_got node (Some mail) m k = node_names K node (Got mail) m k

    client_got : (client : ClientState) (o : Option Mail) → Opt (MailNames K) o → ClientNames K client → Acted (acted player_table (Client client) (option_map Got o))
    client_got client None m k = (k, tt)
    client_got client (Some mail) m k = client_names K client (Got mail) m k

    abbrev ToldSo : Player → Type 0
    ToldSo p = (node : NodeState) (line : OrderLine) → p ≡ Node node → row.event ≡ Told line → Brings K node (ToldInput line)

    -- what a node draws at a tick
    abbrev TicksSo : Player → Type 0
    TicksSo p = (node : NodeState) → p ≡ Node node → row.event ≡ Tick → Brings K node TickInput

    acts_by : (p : Player) → PlayerNames K p → ToldSo p → TicksSo p → (event : Event OrderLine) → row.event ≡ event → Acted (acted player_table p (input_of (mails rows) event))
    acts_by (Node node) k recorded ticks (Deliver number) e = node_got node (numbered (mails rows) number) (numbered_names (mails rows) number now.sent) k
    acts_by (Node node) k recorded ticks Tick e = node_names K node TickInput (ticks node refl e) k
    acts_by (Node node) k recorded ticks Go e = node_names K node GoInput tt k
    acts_by (Node node) k recorded ticks Crash e = (k, tt)
    acts_by (Node node) k recorded ticks (Drop number) e = (k, tt)
    acts_by (Node node) k recorded ticks (Again number) e = (k, tt)
    acts_by (Node node) k recorded ticks (Told line) e = node_names K node (ToldInput line) (recorded node line refl e) k
    acts_by (Client client) k recorded ticks (Deliver number) e = client_got client (numbered (mails rows) number) (numbered_names (mails rows) number now.sent) k
    acts_by (Client client) k recorded ticks Tick e = client_names K client TickInput tt k
    acts_by (Client client) k recorded ticks Go e = client_names K client GoInput tt k
    acts_by (Client client) k recorded ticks Crash e = (k, tt)
    acts_by (Client client) k recorded ticks (Drop number) e = (k, tt)
    acts_by (Client client) k recorded ticks (Again number) e = (k, tt)
    acts_by (Client client) k recorded ticks (Told line) e = client_names K client (ToldInput line) tt k

    told_node : (n : ℕ) → 1 ≤ n → n ≤ scenario.nodes → row.who ≡ n → ToldSo (value player_table (node_seat ahead scenario.groups scenario.policy n) rows)
    told_node n low high who node line value_is event_is =
        λ r found taken named. drawn (next_name node.draws) _
        (it_is_owned ahead scenario rows row [] line node r
        (record {
          low = subst (λ (m : ℕ). 1 ≤ m) (sym who) low;
          high = subst (λ (m : ℕ). m ≤ scenario.nodes) (sym who) high;
          value_is = ap (λ (m : ℕ). value player_table (node_seat ahead scenario.groups scenario.policy m) rows) who ∙ value_is;
          event_is = event_is;
          found = found;
          taken = taken;
        }) named)

    ticks_node : (n : ℕ) → 1 ≤ n → n ≤ scenario.nodes → row.who ≡ n → TicksSo (value player_table (node_seat ahead scenario.groups scenario.policy n) rows)
    ticks_node n low high who node value_is event_is =
        let from = ap (λ (m : ℕ). value player_table (node_seat ahead scenario.groups scenario.policy m) rows) who ∙ value_is in
        let fact : drawn_at ahead scenario rows row ≡ drawn_ticking node.policy node.draws node.replicas = it_ticks ahead scenario rows row node (subst (λ (m : ℕ). 1 ≤ m) (sym who) low) (subst (λ (m : ℕ). m ≤ scenario.nodes) (sym who) high) from event_is in
        Each-from (λ (owned : Owned). K owned.name) (drawn_ticking node.policy node.draws node.replicas)
        (λ owned a. drawn owned.name owned.group (drawn_are_owned ahead scenario rows row [] owned (subst (Among owned) (sym fact) a)).1)

    told_so : (seat : Seat Player) → IsSeat ahead scenario seat → row.who ≡ seat.who → ToldSo (value player_table seat rows) × TicksSo (value player_table seat rows)
    told_so seat (inl (n, low, high, fact)) who =
        subst (λ (s : Seat Player). ToldSo (value player_table s rows) × TicksSo (value player_table s rows)) (sym fact)
        (told_node n low high (who ∙ ap (λ (s : Seat Player). s.who) fact), ticks_node n low high (who ∙ ap (λ (s : Seat Player). s.who) fact))
    told_so seat (inr client) who = (
      λ node line value_is event_is. absurd (no_node (value player_table seat rows) node (replay_client seat.who seat.actor [] rows client) value_is),
      λ node value_is event_is. absurd (no_node (value player_table seat rows) node (replay_client seat.who seat.actor [] rows client) value_is),
    )

    seat_acts : (seat : Seat Player) → Among seat (births ahead scenario) → row.who ≡ seat.who → (event : Event OrderLine) → row.event ≡ event → Acted (acted player_table (value player_table seat rows) (input_of (mails rows) event))
    seat_acts seat a who event e =
        let so = told_so seat (Each-among (IsSeat ahead scenario) (births ahead scenario) seat (seats_are ahead scenario) a) who in
        acts_by (value player_table seat rows) (now.players seat a) so.0 so.1 event e

    row_sent : IsStep (system_of ahead words scenario) rows row → Sent K row.sent
    row_sent (inl step) =
        let there = find_found (λ (other : Seat Player). eqb other.who step.seat.who) (births ahead scenario) step.seat step.born in
        subst (λ (mail : List Mail). Sent K mail) (sym (ap (λ (r : Row Mail OrderLine). r.sent) step.row_is))
        (seat_acts step.seat there.0 (ap (λ (r : Row Mail OrderLine). r.who) step.row_is) step.event (ap (λ (r : Row Mail OrderLine). r.event) step.row_is)).1
    row_sent (inr step) = subst (λ (mail : List Mail). Sent K mail) (sym (ap (λ (r : Row Mail OrderLine). r.sent) step.row_is)) tt

    next_all : IsStep (system_of ahead words scenario) rows row → All next
    next_all step = record {
      sent = subst (λ (mail : List Mail). Sent K mail) (sym (mails-snoc rows row)) (Each-append (MailNames K) (mails rows) row.sent now.sent (row_sent step));
      players = λ seat a. subst (λ (p : Player). PlayerNames K p) (sym (value-snoc player_table seat rows row))
          (cond_both (eqb row.who seat.who) (acted player_table (value player_table seat rows) (input_of (mails rows) row.event)).0 (value player_table seat rows) (λ (p : Player). PlayerNames K p)
          (λ t. (seat_acts seat a (eqb-true row.who seat.who t) row.event refl).0) (λ _. now.players seat a));
    }

  -- ---- all rows

  drawn_before : (rows : Rows) (row : Row Mail OrderLine) → Drawn (rows ++ row ∷ []) → Drawn rows
  drawn_before rows row drawn name group e = drawn name group (owned_later ahead scenario rows (row ∷ []) name group e)

  all_names : (rows : Rows) → Drawn rows → Lawful ahead words scenario rows → All rows
  all_names rows drawn lawful =
      lawful-induction (system_of ahead words scenario) (λ (xs : Rows). Drawn xs → All xs)
      (λ xs row keeps step d. next_all xs row d (keeps (drawn_before xs row d)) step) (schedule scenario) rows (λ d. first_all) lawful drawn

  begin_all : (bases : List Base) → Each BeginsUndrawn bases → Each (λ (base : Base). CoreNames K base.core) bases
  begin_all [] b = tt
  begin_all (base ∷ bases) b = (begin_names base b.0, begin_all bases b.1)

  -- what is in mail and players is in what is decided
  pub both_names : (rows : Rows) → Drawn rows → Lawful ahead words scenario rows → All rows × AllDecided K ahead scenario rows
  both_names rows drawn lawful =
      let all = all_names rows drawn lawful in
      (all, decided_names K ahead rows all.sent scenario (begin_all scenario.groups begins))

-- ---- the laws

pub names_are_drawn : NamesAreDrawn
names_are_drawn ahead words scenario begins rows lawful = both_names ahead words scenario (IsUsed ahead scenario rows) (λ name e. inl e) begins rows (λ name group e. inr (group, e)) lawful

pub drawn_are_new : DrawnNamesAreNew
drawn_are_new ahead words scenario begins before lawful row owned e =
    let fresh = fresh_at ahead scenario before row owned e in
    both_names ahead words scenario (λ name. name ≡ owned.name → ⊥)
    (λ name of same. (let node : name.node ≡ owned.name.node = ap (λ (d : Draw). d.node) same in let who = fresh.of in let low = fresh.low in absurd (omega (arith, of, node, who, low))))
    begins before
    (λ name group has same. (let none : None ≡ Some group = sym fresh.fresh ∙ ap (λ (d : Draw). owner_in ahead scenario before d) (sym same) ∙ has in absurd (cc))) lawful
