-- What a walk says is kept by each row of a journal, and so holds after any rows that come in time: of each player, and of each mail.
use Rattle.std.proofs.Common.{◌≡◌, ℕ, ◌+◌, eqb, refl, List, [], ◌∷◌, ◌++◌, length, map, find, Option, Some, None, sym, ◌∙◌, subst, ◌⊎◌, inl, inr}
use Rattle.std.specs.Option.{option_map}
use Rattle.std.proofs.lemmas.List.{length_push}
use Rattle.std.proofs.lemmas.Bool.{eqb-true}
use Rattle.sc_base.specs.Definitions.{Each, same_draw, client_actor, is_member}
use Rattle.sc_node_table.specs.Values.{Draw, Base, OrderLine, Mail, Node, Client, Seat, Event, Deliver, Go as GoEvent, Input, Got, Row}
use Rattle.sc_actor.specs.declared.rows.Event.TheVariants.{Told as ToldEvent}
use Rattle.sc_actor.specs.declared.rows.Input.TheVariants.{Go as GoInput, Told as ToldInput}
use Rattle.sc_actor.specs.Definitions.{mails, numbered, value, acted, input_of, row_of}
use Rattle.sc_actor.proofs.Lemmas.{value-snoc, mails-snoc}
use Rattle.sc_live_orderly.specs.OrderlyDefinitions.{IsCalmEvent, AreInTime}
use Rattle.sc_live_orderly.proofs.OrderlyLemmas.{by_time, last_in_time}
use Rattle.sc_client_table.specs.table.TableDefinitions.{Client as ClientState, table}
use Rattle.sc_words.proofs.PaxosProofs.PaxosLemmas.{Each-among, Each-append, Each-weaker, find_found}
use Rattle.sc_node_table.specs.NodeDefinitions.{NodeState, born_replicas, node_table, replica_of, ReplicaState, name_of, born_replica, slots_ahead, numbers_from}
use Rattle.sc_scenario.specs.declared.scenario.scenarios.Asks.{Asks as Requests}
use Rattle.sc_scenario.specs.declared.scenario.scenarios.Scenario.{Scenario}
use Rattle.sc_meaning.specs.sound.SoundDefinitions.{Player, player_table, node_seat, client_seat, client_seats, route_of, births, as_nodes}
use Rattle.sc_live_steps.specs.calm.CalmDefinitions.{players, Rows}
use Rattle.sc_live_journals.specs.rows.RowDefinitions.{replicas_of, replica_in, view_at, IsSeat}
use Rattle.sc_law_walks.proofs.WalkLemmas.{either_way}
use Rattle.sc_live_journals.specs.mail.MailDefinitions.{IsPlainlyKept}
use Rattle.sc_live_journals.proofs.MailProofs.Clients.{IsRequestOf, clients_ask}
use Rattle.sc_live_journals.proofs.MailProofs.PartWalks.{Given, Starts, Stands, input_step, Sends, EarlyAt, LateAt, Hears}
use Rattle.sc_live_journals.proofs.MailProofs.Walks.{PartWalk, PartBirths, Part, part, born_part}
use Rattle.sc_law_groups.proofs.GroupProofs.RowSteps.{number_among}

-- a mail of a player: of a node that may send it, or a client's request
abbrev pub Speaks : PartWalk → Seat Player → Mail → Type 0
Speaks w seat mail = ((born : NodeState) × (seat.actor ≡ Node born) × Sends w mail) ⊎ ((born : ClientState) × (seat.actor ≡ Client born) × (seat.who ≡ client_actor born.me) × IsRequestOf born.me mail)

-- a law of journals: what holds of replicas and of mail after a number of rows, and the walk by which one more row keeps it
pub record Law (seats : List (Seat Player)) : Type 1 where
  pub walk : ℕ → ℕ → PartWalk
  pub mine : (n who : ℕ) → (walk n who).me ≡ who
  pub births : (n who : ℕ) → PartBirths (walk n who)
  pub Kept : ℕ → Part → Type 0
  pub Good : ℕ → Mail → Type 0
  pub begins : (base : Base) → Kept 0 (born_part base)
  pub starts : (n who : ℕ) (p : Part) → Kept n p → (walk n who).Early p
  pub keeps : (n who : ℕ) (p : Part) → (walk n who).Late p → Kept (n + 1) p
  pub more : (n : ℕ) (mail : Mail) → Good n mail → Good (n + 1) mail
  pub hears : (n who : ℕ) (mail : Mail) → Good n mail → Hears (walk n who) mail.body
  pub said : (n : ℕ) (seat : Seat Player) (mail : Mail) → IsSeat seats seat → Speaks (walk n seat.who) seat mail → Good (n + 1) mail

module _ (births : List (Seat Player)) (law : Law births) where
  -- a replica after n rows
  abbrev pub IsKept : ℕ → ℕ → ReplicaState → Type 0
  IsKept n who r = IsPlainlyKept who r × law.Kept n (part r)

  -- a player is what its seat was born as, with its number, and each replica of a node is kept
  abbrev pub Plays : ℕ → Seat Player → Player → Type 0
  Plays n seat (Node node) = (born : NodeState) × (seat.actor ≡ Node born) × (node.me ≡ seat.who) × Each (IsKept n seat.who) node.replicas
  Plays n seat (Client client) = (born : ClientState) × (seat.actor ≡ Client born) × (seat.who ≡ client_actor born.me) × (client.me ≡ born.me)

  -- before a row and after it
  begins_row : (n who : ℕ) (node : NodeState) → node.me ≡ who → Each (IsKept n who) node.replicas → Starts (law.walk n who) (law.births n who) node
  begins_row n who node same kept =
      let me : (law.walk n who).me ≡ who = law.mine n who in
      (same ∙ sym me, Each-weaker (IsKept n who) (EarlyAt (law.walk n who)) (λ r k. (subst (λ m. IsPlainlyKept m r) (sym me) k.0, law.starts n who (part r) k.1)) node.replicas kept)

  ends_row : (n who : ℕ) (node : NodeState) → Stands (law.walk n who) (law.births n who) node → (node.me ≡ who) × Each (IsKept (n + 1) who) node.replicas
  ends_row n who node k =
      let me : (law.walk n who).me ≡ who = law.mine n who in
      (k.0 ∙ me, Each-weaker (LateAt (law.walk n who)) (IsKept (n + 1) who) (λ r l. (subst (λ m. IsPlainlyKept m r) me l.0, law.keeps n who (part r) l.1)) node.replicas k.1)

  abbrev Turn : ℕ → Seat Player → Player × List Mail → Type 0
  Turn n seat turn = Plays (n + 1) seat turn.0 × Each (Speaks (law.walk n seat.who) seat) turn.1

  -- one that takes nothing
  stays : (n : ℕ) (seat : Seat Player) (player : Player) → Plays n seat player → Plays (n + 1) seat player
  stays n seat (Node node) k =
      let w : PartWalk = law.walk n seat.who in
      let b : PartBirths w = law.births n seat.who in
      let s : Starts w b node = begins_row n seat.who node k.2 k.3 in
      let e = ends_row n seat.who node (input_step w b node GoInput tt s).0 in
      (k.0, k.1, e.0, e.1)
  stays n seat (Client client) k = k

  gets_input : (n : ℕ) (seat : Seat Player) (player : Player) (input : Input Mail OrderLine) → Given (law.walk n seat.who) (law.births n seat.who) input → Plays n seat player → Turn n seat (player_table player input)
  gets_input n seat (Node node) input h k =
      let w : PartWalk = law.walk n seat.who in
      let b : PartBirths w = law.births n seat.who in
      let s = input_step w b node input h (begins_row n seat.who node k.2 k.3) in
      let e = ends_row n seat.who (node_table node input).0 s.0 in
      ((k.0, k.1, e.0, e.1), Each-weaker (Sends w) (Speaks w seat) (λ mail said. inl (k.0, k.1, said)) (node_table node input).1 s.1)
  gets_input n seat (Client client) input h k =
      let s = clients_ask k.0.me client input k.3 in
      ((k.0, k.1, k.2, s.0), Each-weaker (IsRequestOf k.0.me) (Speaks (law.walk n seat.who) seat) (λ mail asked. inr (k.0, k.1, k.2, asked)) (table client input).1 s.1)

  -- what an event gives
  module _ (words : ℕ → ℕ → ℕ × ℕ) (rows : Rows) (good : Each (law.Good (length rows)) (mails rows)) where
    event_turn : (seat : Seat Player) (who : ℕ) (event : Event OrderLine) (player : Player) → IsCalmEvent (players words births) rows who event → Plays (length rows) seat player → Turn (length rows) seat (acted player_table player (input_of (mails rows) event))
    event_turn seat who (Deliver number) player calm k = by (numbered (mails rows) number) refl
      where
        by : (o : Option Mail) → numbered (mails rows) number ≡ o → Turn (length rows) seat (acted player_table player (option_map Got o))
        by None e = (stays (length rows) seat player k, tt)
        by (Some mail) e = gets_input (length rows) seat player (Got mail) (law.hears (length rows) seat.who mail (Each-among (law.Good (length rows)) (mails rows) mail good (number_among (mails rows) number mail e))) k
    event_turn seat who GoEvent player calm k = gets_input (length rows) seat player GoInput tt k
    event_turn seat who (ToldEvent line) player calm k = gets_input (length rows) seat player (ToldInput line) tt k
    event_turn seat who _ player calm k = absurd calm

  abbrev pub Holds : Rows → Type 0
  Holds rows = Each (λ seat. Plays (length rows) seat (value player_table seat rows)) births × Each (law.Good (length rows)) (mails rows)

  -- what the player of a row sends
  pub row_speaks : (words : ℕ → ℕ → ℕ × ℕ) (rows : Rows) (seat : Seat Player) (event : Event OrderLine) → IsSeat births seat → IsCalmEvent (players words births) rows seat.who event → Holds rows
      → Each (Speaks (law.walk (length rows) seat.who) seat) (row_of player_table seat rows event).sent
  row_speaks words rows seat event born calm k =
      let own = Each-among (λ (s : Seat Player). Plays (length rows) s (value player_table s rows)) births seat k.0 (find_found (λ (other : Seat Player). eqb other.who seat.who) births seat born).0 in
      (event_turn words rows k.1 seat seat.who event (value player_table seat rows) calm own).1

  row_holds : (words : ℕ → ℕ → ℕ × ℕ) (rows : Rows) (seat : Seat Player) (event : Event OrderLine) → IsSeat births seat → IsCalmEvent (players words births) rows seat.who event → Holds rows → Holds (rows ++ row_of player_table seat rows event ∷ [])
  row_holds words rows seat event born calm k =
      let n : ℕ = length rows in
      let row : Row Mail OrderLine = row_of player_table seat rows event in
      let longer : length (rows ++ row ∷ []) ≡ n + 1 = length_push rows row in
      let after : Each (λ (s : Seat Player). Plays (n + 1) s (value player_table s (rows ++ row ∷ []))) births =
      Each-weaker (λ (s : Seat Player). Plays n s (value player_table s rows)) (λ (s : Seat Player). Plays (n + 1) s (value player_table s (rows ++ row ∷ [])))
      (λ s p. subst (Plays (n + 1) s) (sym (value-snoc player_table s rows row))
      (either_way (Plays (n + 1) s) (eqb row.who s.who) (acted player_table (value player_table s rows) (input_of (mails rows) row.event)).0 (value player_table s rows) (event_turn words rows k.1 s seat.who event (value player_table s rows) calm p).0
      (stays n s (value player_table s rows) p))) births k.0 in
      let spoken : Each (law.Good (n + 1)) row.sent = Each-weaker (Speaks (law.walk n seat.who) seat) (law.Good (n + 1)) (λ mail s. law.said n seat mail born s) row.sent (row_speaks words rows seat event born calm k) in
      let all : Each (law.Good (n + 1)) (mails (rows ++ row ∷ [])) =
      subst (Each (law.Good (n + 1))) (sym (mails-snoc rows row)) (Each-append (law.Good (n + 1)) (mails rows) row.sent (Each-weaker (law.Good n) (law.Good (n + 1)) (law.more n) (mails rows) k.1) spoken) in
      subst (λ m. Each (λ seat. Plays m seat (value player_table seat (rows ++ row ∷ []))) births × Each (law.Good m) (mails (rows ++ row ∷ []))) (sym longer) (after, all)

  -- after any rows that come in time
  pub rows_hold : (words : ℕ → ℕ → ℕ × ℕ) (rows : Rows) → Each (λ seat. Plays 0 seat seat.actor) births → AreInTime (players words births) rows → Holds rows
  rows_hold words rows begins timely =
      by_time (players words births) Holds (begins, tt)
      (λ before row t k. (let calm = (last_in_time (players words births) before row t).0 in
      subst (λ (r : Row Mail OrderLine). Holds (before ++ r ∷ [])) (sym calm.row_is) (row_holds words before calm.seat calm.event calm.born calm.calm k))) rows timely

-- ---- the births of a scenario

module _ (scenario : Scenario) (law : Law (births as_nodes scenario)) where
  abbrev BornSeat : Seat Player → Type 0
  BornSeat seat = Plays (births as_nodes scenario) law 0 seat seat.actor

  replicas_born : (me : ℕ) (groups : List Base) → Each (IsKept (births as_nodes scenario) law 0 me) (born_replicas slots_ahead me groups)
  replicas_born me [] = tt
  replicas_born me (base ∷ groups) =
      either_way (λ (bases : List Base). Each (IsKept (births as_nodes scenario) law 0 me) (map (λ b. born_replica slots_ahead me b) bases)) (is_member base.core.members me) _ _
      (((refl, refl, (λ off. (refl, refl, refl), refl, tt, tt)), law.begins base), replicas_born me groups) (replicas_born me groups)

  nodes_born : (numbers : List ℕ) → Each BornSeat (map (node_seat as_nodes scenario.groups scenario.policy) numbers)
  nodes_born [] = tt
  nodes_born (n ∷ numbers) = ((_, refl, refl, replicas_born n scenario.groups), nodes_born numbers)

  clients_born : (groups : List Base) (clients : List Requests) → Each BornSeat (client_seats groups clients)
  clients_born [] clients = tt
  clients_born (base ∷ groups) clients = by clients
    where
      by : (cs : List Requests) → Each BornSeat (map (client_seat (route_of base)) cs)
      by [] = tt
      by (c ∷ cs) = ((_, refl, refl, refl), by cs)

  all_born : Each BornSeat (births as_nodes scenario)
  all_born =
      Each-append BornSeat (map (node_seat as_nodes scenario.groups scenario.policy) (numbers_from 1 scenario.nodes)) (client_seats scenario.groups scenario.clients) (nodes_born (numbers_from 1 scenario.nodes)) (clients_born scenario.groups scenario.clients)

  pub journals_hold : (words : ℕ → ℕ → ℕ × ℕ) (rows : Rows) → AreInTime (players words (births as_nodes scenario)) rows → Holds (births as_nodes scenario) law rows
  journals_hold words rows timely = rows_hold (births as_nodes scenario) law words rows all_born timely

-- ---- a replica that a node has after some rows

module _ (births : List (Seat Player)) (law : Law births) (rows : Rows) (name : Draw) where
  abbrev Has : ℕ → Option ReplicaState → Type 0
  Has who None = Unit {0}
  Has who (Some r) = IsKept births law (length rows) who r

  replica_kept : (who : ℕ) (replicas : List ReplicaState) → Each (IsKept births law (length rows) who) replicas → Has who (replica_of name replicas)
  replica_kept who [] k = tt
  replica_kept who (r ∷ replicas) k = either_way (Has who) (same_draw (name_of r) name) (Some r) (replica_of name replicas) k.0 (replica_kept who replicas k.1)

  player_kept : (seat : Seat Player) (player : Player) → Plays births law (length rows) seat player → Has seat.who (replica_of name (replicas_of player))
  player_kept seat (Node node) k = replica_kept seat.who node.replicas k.3
  player_kept seat (Client client) k = tt

  pub view_kept : (who : ℕ) (r : ReplicaState) → Holds births law rows → view_at births rows name who ≡ Some r → IsKept births law (length rows) who r
  view_kept who r holds e = by (find (λ other. eqb other.who who) births) refl e
    where
      by : (o : Option (Seat Player)) → find (λ other. eqb other.who who) births ≡ o → replica_in name rows o ≡ Some r → IsKept births law (length rows) who r
      by None f e2 = cc
      by (Some seat) f e2 =
          let found = find_found (λ (other : Seat Player). eqb other.who who) births seat f in
          let plays = Each-among (λ (s : Seat Player). Plays births law (length rows) s (value player_table s rows)) births seat holds.0 found.0 in
          subst (λ w. IsKept births law (length rows) w r) (eqb-true seat.who who found.1) (subst (Has seat.who) e2 (player_kept seat (value player_table seat rows) plays))
