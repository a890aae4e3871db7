-- Each mail of a journal is sent by a player of its number, to whom such a player sends such mail.
use Rattle.std.proofs.Common.{length, ◌≡◌, ℕ, zero, suc, ◌+◌, ◌≤◌, nat_le, eqb, true, false, List, [], ◌∷◌, map, refl, sym, ◌∙◌, ap, subst, inl, inr, arith, rules, tests}
use Rattle.std.proofs.lemmas.Bool.{le-leb}
use Rattle.sc_base.specs.Definitions.{Each, most_nodes}
use Rattle.sc_node_table.specs.Values.{Base, Mail, MailBody, Request, Node, Client, Seat}
use Rattle.sc_actor.specs.Definitions.{mails, value}
use Rattle.sc_words.proofs.PaxosProofs.PaxosLemmas.{Each-among, Each-append, Each-weaker, find_found, find_nothing}
use Rattle.sc_scenario.specs.declared.scenario.scenarios.Asks.{Asks as Requests}
use Rattle.sc_scenario.specs.declared.scenario.scenarios.Scenario.{Scenario}
use Rattle.sc_node_table.specs.NodeDefinitions.{may_come, is_node, numbers_from}
use Rattle.sc_client_table.specs.table.TableDefinitions.{Client as ClientState}
use Rattle.sc_meaning.specs.sound.SoundDefinitions.{Player, player_table, node_seat, client_seat, client_seats, route_of, births, as_nodes}
use Rattle.sc_live_steps.specs.calm.CalmDefinitions.{players, Rows}
use Rattle.sc_live_orderly.specs.OrderlyDefinitions.{AreInTime}
use Rattle.sc_live_journals.specs.rows.RowDefinitions.{IsSeat}
use Rattle.sc_live_journals.specs.mail.MailDefinitions.{IsNodesBody, IsClientsBody, IsPlayers, IsPosted, MailIsPosted, MailMayCome, DesksAreNotBorn}
use Rattle.sc_live_journals.proofs.MailProofs.WalkedJournals.{Speaks, Law, Plays, journals_hold}
use Rattle.sc_live_journals.proofs.MailProofs.PartWalks.{hears_all}
use Rattle.sc_live_journals.proofs.MailProofs.Walks.{PartWalk}

-- nothing is asked of a replica, and of mail what its sender sends
abbrev posting : ℕ → PartWalk
posting who = record {
  me = who;
  Early = λ p. Unit {0};
  Late = λ p. Unit {0};
  Says = λ to body. IsNodesBody who to body;
  Round = λ ballot. Unit {0};
  Slot = λ slot. Unit {0};
  State = λ slot base. Unit {0};
  Polled = λ ballot. Unit {0};
  Behind = λ slot. Unit {0};
  late = λ p k. tt;
  again = λ p command e k. (tt, tt);
  entered = λ command p low k. tt;
  landed = λ slot p k. tt;
  ended = λ p k. tt;
  elected = λ p k. tt;
  seen = λ ballot p good t k. tt;
  promised = λ ballot p good k. tt;
  accepted = λ report p good k. tt;
  jumped = λ slot base p good later k. tt;
  readied = λ slot command p low k. tt;
  polled = λ from ballot reports p good k. tt;
  counts = λ from ballot slot set p k. tt;
  flown = λ slot command p low k. tt;
  tells = λ number result. refl;
  answers = λ client group seq answer. (client, refl);
  asks = λ to slot command p low k. tt;
  polls = λ to p k. tt;
  repolls = λ to p k. tt;
  installs = λ to sets p k. tt;
  teaches = λ to slot command group low. tt;
  recalls = λ to slot command p e k. tt;
  wants = λ to slot p behind low k. tt;
  promises = λ to ballot from_slot p good polled k. tt;
  votes = λ to ballot slot group good low. tt;
  nacks = λ to p k. tt;
  offers = λ to tx offer own. own;
  watches = λ to tx watch own. own;
  casts = λ to tx coord part vote. tt;
  sees = λ to tx coord part vote. tt;
  ends = λ to tx part outcome. tt;
  sends_on = λ to tx coord hint. tt;
}

module _ (births : List (Seat Player)) where
  -- who speaks posts it
  posts : (seat : Seat Player) (mail : Mail) → Speaks (posting seat.who) seat mail → (mail.from ≡ seat.who) × IsPlayers seat.who seat.actor mail
  posts seat mail (inl (born, fact, said)) = (said.0, subst (λ player. IsPlayers seat.who player mail) (sym fact) said.1)
  posts seat mail (inr (born, fact, who, (group, target, request, e))) = (
    ap (λ (m : Mail). m.from) e ∙ sym who,
    subst (λ player. IsPlayers seat.who player mail) (sym fact) (who, subst (λ (m : Mail). IsClientsBody born.me m.body) (sym e) refl),
  )

  posted : (seat : Seat Player) (mail : Mail) → IsSeat births seat → Speaks (posting seat.who) seat mail → IsPosted births mail
  posted seat mail born s = (let p = posts seat mail s in record { seat = seat; born = born; from_is = p.0; fact = p.1 })

  abbrev posting_law : Law births
  posting_law = record {
    walk = λ n who. posting who;
    mine = λ n who. refl;
    births = λ n who. record { born = λ base. tt; made = λ slot base good. tt; wants_all = λ to group. tt };
    Kept = λ n p. Unit {0};
    Good = λ n mail. IsPosted births mail;
    begins = λ base. tt;
    starts = λ n who p k. tt;
    keeps = λ n who p k. tt;
    more = λ n mail good. good;
    hears = λ n who mail good. hears_all (posting who) (λ ballot. (tt, tt)) (λ slot. (tt, tt)) mail.body (λ group slot base sets e. (tt, tt));
    said = λ n seat mail born s. posted seat mail born s;
  }

-- Each mail of a journal whose rows come in time is sent by a player of its number: an answer by a node to a client, what came of an order to the desk, an offer and a watch by the node that they name, and a request by its client.
pub mail_posted : MailIsPosted
mail_posted words scenario rows timely = (journals_hold scenario (posting_law (births as_nodes scenario)) words rows timely).1

-- who is a client was born as one
pub clients_stay : (words : ℕ → ℕ → ℕ × ℕ) (scenario : Scenario) (rows : Rows) → AreInTime (players words (births as_nodes scenario)) rows
    → (seat : Seat Player) (client : ClientState) → IsSeat (births as_nodes scenario) seat → value player_table seat rows ≡ Client client → (own : ClientState) × (seat.actor ≡ Client own)
clients_stay words scenario rows timely seat client born fact =
    by (value player_table seat rows) fact
    (Each-among (λ (x : Seat Player). Plays all (posting_law all) (length rows) x (value player_table x rows)) all seat (journals_hold scenario (posting_law all) words rows timely).0 (find_found (λ (x : Seat Player). eqb x.who seat.who) all seat born).0)
  where
    all : List (Seat Player)
    all = births as_nodes scenario

    by : (player : Player) → player ≡ Client client → Plays all (posting_law all) (length rows) seat player → (own : ClientState) × (seat.actor ≡ Client own)
    by (Node node) e k = cc
    by (Client other) e k = (k.0, k.1)

-- ---- the numbers of a scenario's players

pub numbers_in : (from more : ℕ) → Each (λ n. (from ≤ n) × (n + 1 ≤ from + more)) (numbers_from from more)
numbers_in from zero = tt
numbers_in from (suc more) = ((omega arith, omega arith), Each-weaker (λ n. (from + 1 ≤ n) × (n + 1 ≤ (from + 1) + more)) (λ n. (from ≤ n) × (n + 1 ≤ from + suc more)) (λ n k. (omega (arith, k.0), omega (arith, k.1))) (numbers_from (from + 1) more) (numbers_in (from + 1) more))

-- a node has the number of one, if its number is not too great
abbrev HasNumber : ℕ → ℕ → Player → Type 0
HasNumber nodes who (Node node) = (1 ≤ who) × (who ≤ nodes)
HasNumber nodes who (Client client) = 1 ≤ who

module _ (scenario : Scenario) where
  abbrev IsNumbered : Seat Player → Type 0
  IsNumbered seat = HasNumber scenario.nodes seat.who seat.actor

  nodes_numbered : (numbers : List ℕ) → Each (λ n. (1 ≤ n) × (n + 1 ≤ 1 + scenario.nodes)) numbers → Each IsNumbered (map (node_seat as_nodes scenario.groups scenario.policy) numbers)
  nodes_numbered [] k = tt
  nodes_numbered (n ∷ numbers) k = ((let low = k.0.0 in let high = k.0.1 in (low, omega (arith, high))), nodes_numbered numbers k.1)

  clients_numbered : (groups : List Base) (clients : List Requests) → Each IsNumbered (client_seats groups clients)
  clients_numbered [] clients = tt
  clients_numbered (base ∷ groups) clients = by clients
    where
      by : (cs : List Requests) → Each IsNumbered (map (client_seat (route_of base)) cs)
      by [] = tt
      by (c ∷ cs) = (omega arith, by cs)

  all_numbered : Each IsNumbered (births as_nodes scenario)
  all_numbered =
      Each-append IsNumbered (map (node_seat as_nodes scenario.groups scenario.policy) (numbers_from 1 scenario.nodes)) (client_seats scenario.groups scenario.clients) (nodes_numbered (numbers_from 1 scenario.nodes) (numbers_in 1 scenario.nodes)) (clients_numbered scenario.groups scenario.clients)

-- no number of a player is the desk's
numbers_some : (nodes who : ℕ) (player : Player) → HasNumber nodes who player → 1 ≤ who
numbers_some nodes who (Node node) k = k.0
numbers_some nodes who (Client client) k = k

-- No player of a scenario has the desk's number.
pub desks_apart : DesksAreNotBorn
desks_apart scenario =
    find_nothing (λ (other : Seat Player). eqb other.who 0) (births as_nodes scenario)
    (Each-weaker (IsNumbered scenario) (λ (seat : Seat Player). eqb seat.who 0 ≡ false) (λ seat k. apart seat.who (numbers_some scenario.nodes seat.who seat.actor k)) (births as_nodes scenario) (all_numbered scenario))
  where
    apart : (who : ℕ) → 1 ≤ who → eqb who 0 ≡ false
    apart who some = search (tests, rules)

-- what a node sends may come from it, and a request from anybody
module _ (who : ℕ) where
  from_node : (to : ℕ) (body : MailBody) → is_node who ≡ true → IsNodesBody who to body → may_come who body ≡ true
  from_node to (Request group client seq op) n k = absurd k
  from_node to _ n k = n

  from_client : (me : ℕ) (body : MailBody) → IsClientsBody me body → may_come who body ≡ true
  from_client me (Request group client seq op) k = refl
  from_client me _ k = absurd k

  from_player : (nodes : ℕ) (player : Player) (mail : Mail) → nodes ≤ most_nodes → HasNumber nodes who player → IsPlayers who player mail → may_come who mail.body ≡ true
  from_player nodes (Node node) mail few n k = from_node mail.to mail.body (in_range n.0 n.1) k
    where
      in_range : 1 ≤ who → who ≤ nodes → is_node who ≡ true
      in_range low high = (let least : nat_le 1 who ≡ true = search (tests, rules) in let most : nat_le who most_nodes ≡ true = le-leb who most_nodes (omega (arith, high, few)) in cc)
  from_player nodes (Client client) mail few n k = from_client client.me mail.body k.1

-- In a bounded scenario each mail comes from one who may send it.
pub mail_comes : MailMayCome
mail_comes words scenario rows bounded timely =
    let born : List (Seat Player) = births as_nodes scenario in
    Each-weaker (IsPosted born) (λ mail. may_come mail.from mail.body ≡ true) (λ mail p. (let number = Each-among (IsNumbered scenario) born p.seat (all_numbered scenario) (find_found (λ (other : Seat Player). eqb other.who p.seat.who) born p.seat p.born).0 in
    subst (λ from. may_come from mail.body ≡ true) (sym p.from_is) (from_player p.seat.who scenario.nodes p.seat.actor mail bounded.nodes.1 number p.fact))) (mails rows) (mail_posted words scenario rows timely)
