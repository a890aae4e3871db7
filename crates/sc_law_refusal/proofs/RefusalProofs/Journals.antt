-- Every lawful journal refuses with cause: each row of a node is a step of its table, from a state in which its waiting was counted, and each row of a client is one of a client that keeps its turn.
use Rattle.std.proofs.Common.{◌≡◌, zero, suc, ◌≤◌, ◌+◌, ℕ, ◌&&◌, eqb, true, false, List, [], ◌∷◌, ◌++◌, map, Option, Some, None, ◌⊎◌, inl, inr, refl, sym, ap, subst, ◌∙◌, arith, append_assoc}
use Rattle.std.specs.List.{find}
use Rattle.std.proofs.lemmas.Bool.{cond_both, cond-true, eqb-true, eq-eqb, and_from, true≢false}
use Rattle.sc_base.specs.Definitions.{Among, Each}
use Rattle.sc_node_table.specs.Values.{Draw, Seat, Event, Input, Row, Base, Route, OrderLine, Mail, Node, Client, Lock}
use Rattle.sc_actor.specs.declared.rows.Event.TheVariants as event
use Rattle.sc_actor.specs.declared.rows.Input.TheVariants.{Go}
use Rattle.sc_actor.specs.Definitions.{mails, numbered, acted, input_of, value, IsStep, IsOpen, IsLoose, has_started, is_go, place_after}
use Rattle.sc_actor.proofs.Lemmas.{MayAdd-step, lawful-induction, value-snoc, lawful-prefix, lawful-last}
use Rattle.sc_client_table.specs.table.TableDefinitions.{Client as ClientState, table}
use Rattle.sc_node_table.specs.NodeDefinitions.{NodeState, node_table, ReplicaState, name_of, numbers_from}
use Rattle.sc_words.proofs.PaxosProofs.PaxosLemmas.{Each-among, Each-append, Each-weaker, find_found}
use Rattle.sc_scenario.specs.declared.scenario.scenarios.Asks.{Asks}
use Rattle.sc_scenario.specs.declared.scenario.scenarios.Scenario.{Scenario}
use Rattle.sc_meaning.specs.sound.SoundDefinitions.{Ahead, Lawful, Player, births, client_seat, client_seats, node_seat, player_table, route_of, schedule, system_of}
use Rattle.sc_law_refusal.specs.queue.OneCall.{QueuesKeepOneCall}
use Rattle.sc_law_refusal.specs.refusal.RefusalDefinitions.{MayGiveUp, IsImpatient, ends_queued, KeepsTurn, Rows, Acts, ticks_in, RowHasCauses, ValidJournalsRefuseWithCause, AnswersHaveCauses, ActsHaveCauses, NodeHasCauses, TakesRequests, counted_ticks}
use Rattle.sc_law_refusal.proofs.RefusalProofs.NodeSteps.{Keeps, running_of, nodes_have_causes}
use Rattle.sc_law_refusal.proofs.RefusalProofs.Locking.{allowed}
use Rattle.sc_meaning.proofs.SoundProofs.SoundLemmas.{any_push}
use Rattle.sc_law_refusal.proofs.RefusalProofs.Ticking.{IsKnown, counts, node_known, no_client}
use Rattle.sc_law_refusal.proofs.PatienceProofs.GivenUpJournals.{lawful_give_up}
use Rattle.sc_law_refusal.proofs.ResultsProofs.ReportedJournals.{rows_report}
use Rattle.sc_law_refusal.proofs.RefusalProofs.Turning.{InPlace, keeps_turn, in_place}
use Rattle.sc_law_groups.proofs.WholeProofs.WholeLemmas.{StepsKeep}
use Rattle.sc_law_walks.proofs.WalkLemmas.{got_no_go}

-- ---- seats

-- a seat of a scenario is that of a node, numbered from 1, or that of a client that has begun nothing
record IsNodeSeat (ahead : Ahead) (scenario : Scenario) (seat : Seat Player) : Type 0 where
  me : ℕ
  some : 1 ≤ me
  fact : seat ≡ node_seat ahead scenario.groups scenario.policy me

record IsClientSeat (seat : Seat Player) : Type 0 where
  first : Route
  asks : Asks
  fact : seat ≡ client_seat first asks

abbrev IsSeat : Ahead → Scenario → Seat Player → Type 0
IsSeat ahead scenario seat = IsNodeSeat ahead scenario seat ⊎ IsClientSeat seat

module _ (ahead : Ahead) (scenario : Scenario) where
  node_seats : (from count : ℕ) → 1 ≤ from → Each (IsSeat ahead scenario) (map (node_seat ahead scenario.groups scenario.policy) (numbers_from from count))
  node_seats from zero some = tt
  node_seats from (suc count) some = (inl (record { me = from; some = some; fact = refl }), node_seats (from + 1) count (omega (arith, some)))

  one_route : (first : Route) (clients : List Asks) → Each (IsSeat ahead scenario) (map (client_seat first) clients)
  one_route first [] = tt
  one_route first (asks ∷ clients) = (inr (record { first = first; asks = asks; fact = refl }), one_route first clients)

  all_clients : (groups : List Base) (clients : List Asks) → Each (IsSeat ahead scenario) (client_seats groups clients)
  all_clients [] clients = tt
  all_clients (base ∷ groups) clients = one_route (route_of base) clients

  seats : Each (IsSeat ahead scenario) (births ahead scenario)
  seats =
      Each-append (IsSeat ahead scenario) (map (node_seat ahead scenario.groups scenario.policy) (numbers_from 1 scenario.nodes)) (client_seats scenario.groups scenario.clients) (node_seats 1 scenario.nodes (omega arith))
      (all_clients scenario.groups scenario.clients)

  seat_is : (who : ℕ) (seat : Seat Player) → find (λ (other : Seat Player). eqb other.who who) (births ahead scenario) ≡ Some seat → (seat.who ≡ who) × IsSeat ahead scenario seat
  seat_is who seat e =
      let found = find_found (λ (other : Seat Player). eqb other.who who) (births ahead scenario) seat e in
      (eqb-true seat.who who found.1, Each-among (IsSeat ahead scenario) (births ahead scenario) seat seats found.0)

-- ---- what a step of a journal is

-- what is taken as word to go is one
go_event : (sent : List Mail) (event : Event OrderLine) → input_of sent event ≡ Some Go → is_go event ≡ true
go_event sent event.Go e = refl
go_event sent (event.Deliver mail) e = absurd (got_no_go (numbered sent mail) Go e refl)
go_event sent _ e = cc

module _ (ahead : Ahead) (words : ℕ → ℕ → ℕ × ℕ) (scenario : Scenario) (rows : Rows) where
  abbrev S : Row Mail OrderLine → Type 0
  S row = IsStep (system_of ahead words scenario) rows row

  open_go : (who : ℕ) (event : Event OrderLine) → IsOpen (system_of ahead words scenario) rows who event → input_of (mails rows) event ≡ Some Go → has_started rows who ≡ false
  open_go who event.Go o e = o
  open_go who (event.Deliver mail) o e = absurd (got_no_go (numbered (mails rows) mail) Go e refl)
  open_go who event.Tick o e = cc
  open_go who (event.Told order) o e = cc
  open_go who event.Crash o e = cc
  open_go who (event.Drop mail) o e = absurd o
  open_go who (event.Again mail) o e = absurd o

  loose_input : (event : Event OrderLine) (input : Input Mail OrderLine) → IsLoose (system_of ahead words scenario) rows event → input_of (mails rows) event ≡ Some input → ⊥
  loose_input (event.Drop mail) input l e = cc
  loose_input (event.Again mail) input l e = cc
  loose_input event.Go input l e = l
  loose_input (event.Deliver mail) input l e = l
  loose_input event.Tick input l e = l
  loose_input (event.Told order) input l e = l
  loose_input event.Crash input l e = l

  module _ (row : Row Mail OrderLine) (step : S row) where
    -- a client that has to go had not started before
    go_once : input_of (mails rows) row.event ≡ Some Go → has_started rows row.who ≡ false
    go_once e =
        elim step [
          | inl a ↦ (
              let event_is : row.event ≡ a.event = ap (λ r. r.event) a.row_is in
              let who_is : row.who ≡ a.seat.who = ap (λ r. r.who) a.row_is in
              subst (λ (who : ℕ). has_started rows who ≡ false) (sym who_is) (open_go a.seat.who a.event a.open_ (subst (λ (v : Event OrderLine). input_of (mails rows) v ≡ Some Go) event_is e)))
          | inr n ↦ (let event_is : row.event ≡ n.event = ap (λ r. r.event) n.row_is in absurd (loose_input n.event Go n.loose (subst (λ (v : Event OrderLine). input_of (mails rows) v ≡ Some Go) event_is e)))
        ]

    -- a row with an input sends what its player's table gives
    sent_is : (seat : Seat Player) → find (λ (other : Seat Player). eqb other.who row.who) (births ahead scenario) ≡ Some seat → (input : Input Mail OrderLine) → input_of (mails rows) row.event ≡ Some input
        → row.sent ≡ (acted player_table (value player_table seat rows) (input_of (mails rows) row.event)).1
    sent_is seat seated input e =
        elim step [
          | inl a ↦ (
              let event_is : row.event ≡ a.event = ap (λ r. r.event) a.row_is in
              let who_is : row.who ≡ a.seat.who = ap (λ r. r.who) a.row_is in
              let here : find (λ (other : Seat Player). eqb other.who a.seat.who) (births ahead scenario) ≡ Some seat = subst (λ (who : ℕ). find (λ (other : Seat Player). eqb other.who who) (births ahead scenario) ≡ Some seat) who_is seated in
              let both : Some seat ≡ Some a.seat = sym here ∙ a.born in
              let same : seat ≡ a.seat = cc in
              ap (λ r. r.sent) a.row_is ∙ ap (λ (v : Event OrderLine). (acted player_table (value player_table a.seat rows) (input_of (mails rows) v)).1) (sym event_is)
              ∙ ap (λ (x : Seat Player). (acted player_table (value player_table x rows) (input_of (mails rows) row.event)).1) (sym same))
          | inr n ↦ (let event_is : row.event ≡ n.event = ap (λ r. r.event) n.row_is in absurd (loose_input n.event input n.loose (subst (λ (v : Event OrderLine). input_of (mails rows) v ≡ Some input) event_is e)))
        ]

-- a player after a row of its own is its table's
own_value : (seat : Seat Player) (rows : Rows) (row : Row Mail OrderLine) → row.who ≡ seat.who → value player_table seat (rows ++ row ∷ []) ≡ (acted player_table (value player_table seat rows) (input_of (mails rows) row.event)).0
own_value seat rows row who =
    value-snoc player_table seat rows row
    ∙ cond-true (eqb row.who seat.who) (acted player_table (value player_table seat rows) (input_of (mails rows) row.event)).0 (value player_table seat rows) (eq-eqb row.who seat.who who)

-- ---- clients

module _ (ahead : Ahead) (words : ℕ → ℕ → ℕ × ℕ) (scenario : Scenario) (first : Route) (asks : Asks) where
  abbrev seat : Seat Player
  seat = client_seat first asks

  -- a client is in place after these rows
  abbrev Placed : Rows → Player → Type 0
  Placed rows (Client client) = InPlace (has_started rows seat.who) client
  Placed rows (Node node) = ⊥

  abbrev P : Rows → Type 0
  P rows = Placed rows (value player_table seat rows)

  -- a row that is no word to go, or another's
  still_placed : (rows : Rows) (row : Row Mail OrderLine) (player : Player) → Placed rows player → Placed (rows ++ row ∷ []) player
  still_placed rows row (Client client) k = record { fresh = λ e. k.fresh (any_push (λ r. eqb r.who seat.who && is_go r.event) rows row e).0; rises = k.rises }
  still_placed rows row (Node node) k = k

  moved_placed : (rows : Rows) (row : Row Mail OrderLine) (player : Player) (input : Input Mail OrderLine) → IsStep (system_of ahead words scenario) rows row → row.who ≡ seat.who → input_of (mails rows) row.event ≡ Some input → Placed rows player
      → Placed (rows ++ row ∷ []) (player_table player input).0
  moved_placed rows row (Node node) input step who e k = k
  moved_placed rows row (Client client) input step who e k =
      let told : input ≡ Go → has_started rows seat.who ≡ false = λ go. subst (λ (w : ℕ). has_started rows w ≡ false) who (go_once ahead words scenario rows row step (e ∙ ap Some go)) in
      in_place client input (has_started rows seat.who) k told (has_started (rows ++ row ∷ []) seat.who)
      (λ later. (let parts = any_push (λ r. eqb r.who seat.who && is_go r.event) rows row later in
      (parts.0, λ go. (let yes : (eqb row.who seat.who && is_go row.event) ≡ true = and_from (eqb row.who seat.who) (is_go row.event) (eq-eqb row.who seat.who who) (go_event (mails rows) row.event (e ∙ ap Some go)) in absurd (true≢false (sym yes ∙ parts.1))))))

  acted_placed : (rows : Rows) (row : Row Mail OrderLine) (o : Option (Input Mail OrderLine)) → input_of (mails rows) row.event ≡ o → IsStep (system_of ahead words scenario) rows row → row.who ≡ seat.who → P rows
      → Placed (rows ++ row ∷ []) (acted player_table (value player_table seat rows) o).0
  acted_placed rows row None e step who k = still_placed rows row (value player_table seat rows) k
  acted_placed rows row (Some input) e step who k = moved_placed rows row (value player_table seat rows) input step who e k

  keeps : StepsKeep ahead words scenario P
  keeps rows row k step =
      subst (Placed (rows ++ row ∷ [])) (sym (value-snoc player_table seat rows row))
      (cond_both (eqb row.who seat.who) (acted player_table (value player_table seat rows) (input_of (mails rows) row.event)).0 (value player_table seat rows) (Placed (rows ++ row ∷ []))
      (λ e. acted_placed rows row (input_of (mails rows) row.event) refl step (eqb-true row.who seat.who e) k) (λ _. still_placed rows row (value player_table seat rows) k))

  -- so it is after every lawful journal
  placed : (rows : Rows) → Lawful ahead words scenario rows → P rows
  placed rows lawful = lawful-induction (system_of ahead words scenario) P keeps (schedule scenario) rows (record { fresh = λ _. (refl, refl); rises = λ seq e. cc }) lawful

-- ---- a row

module _ (ahead : Ahead) (words : ℕ → ℕ → ℕ × ℕ) (scenario : Scenario) (rows : Rows) (row : Row Mail OrderLine) (lawful : Lawful ahead words scenario rows) (step : IsStep (system_of ahead words scenario) rows row) where
  -- what a player's table makes of a row of its own
  record Made (seat : Seat Player) (before after : Player) (input : Input Mail OrderLine) : Type 0 where
    fact : after ≡ (player_table before input).0
    sends : row.sent ≡ (player_table before input).1

  made : (seat : Seat Player) (before after : Player) (input : Input Mail OrderLine) → Acts ahead scenario rows row seat before after input → Made seat before after input
  made seat before after input a =
      let who : seat.who ≡ row.who = (seat_is ahead scenario row.who seat a.seated).0 in
      let same : acted player_table (value player_table seat rows) (input_of (mails rows) row.event) ≡ player_table before input =
      ap (λ (p : Player). acted player_table p (input_of (mails rows) row.event)) a.was ∙ ap (λ (o : Option (Input Mail OrderLine)). acted player_table before o) a.takes in
      record {
        fact = sym a.fact ∙ own_value seat rows row (sym who) ∙ ap (λ x. x.0) same;
        sends = sent_is ahead words scenario rows row step seat a.seated input a.takes ∙ ap (λ x. x.1) same;
      }

  -- a node
  module _ (me : ℕ) (some : 1 ≤ me) (before after : NodeState) (input : Input Mail OrderLine) (a : Acts ahead scenario rows row (node_seat ahead scenario.groups scenario.policy me) (Node before) (Node after) input) where
    abbrev place : Seat Player
    place = node_seat ahead scenario.groups scenario.policy me

    known : IsKnown ahead scenario me some rows before
    known = node_known ahead scenario me some rows before a.was

    numbered_all : Each (λ (r : ReplicaState). 1 ≤ r.me) before.replicas
    numbered_all = Each-weaker (Keeps me (counts place rows)) (λ (r : ReplicaState). 1 ≤ r.me) (λ r k. (let fact = k.me_is in omega (arith, some, fact))) before.replicas known.keep

    has : NodeHasCauses before input (node_table before input).0 (node_table before input).1
    has = nodes_have_causes before input numbered_all

    after_is : (node_table before input).0 ≡ after
    after_is = let m = made place (Node before) (Node after) input a in let both : Node after ≡ Node (node_table before input).0 = m.fact in cc

    node_answers : AnswersHaveCauses before input after row.sent
    node_answers =
        subst (λ (ms : List Mail). AnswersHaveCauses before input after ms) (sym (made place (Node before) (Node after) input a).sends)
        (subst (λ (n : NodeState). AnswersHaveCauses before input n (node_table before input).1) after_is has.answers)

    node_requests : TakesRequests before input row.sent
    node_requests = subst (TakesRequests before input) (sym (made place (Node before) (Node after) input a).sends) has.requests

    -- its replicas have waited no longer than they have ticked
    few : (r : ReplicaState) (tx : Draw) → Among r before.replicas → IsImpatient r.waits r input tx → r.waits ≤ ticks_in place rows r tx
    few r tx stood m =
        let keep : Keeps me (counts place rows) r = Each-among (Keeps me (counts place rows)) before.replicas r known.keep stood in
        subst (λ (l : Lock). r.waits ≤ allowed (counts place rows (name_of r)) r.leader.ballot l) m.locked (keep.patient (running_of r m.leads))

    counted : (r : ReplicaState) (tx : Draw) (count : ℕ) → Among r before.replicas → MayGiveUp r.waits r input tx count → MayGiveUp (ticks_in place rows r tx) r input tx count
    counted r tx count stood (inl no_more) = inl no_more
    counted r tx count stood (inr (most, inl m)) =
        let more = few r tx stood m in
        let long = m.long in inr (most, inl (record { tick = m.tick; leads = m.leads; body = m.body; order = m.order; heard = m.heard; locked = m.locked; long = omega (arith, more, long); none = m.none }))
    counted r tx count stood (inr (most, inr back)) = inr (most, inr back)

    node_acts : ActsHaveCauses (ticks_in place rows) before input after
    node_acts later stands tx queued =
        let m = subst (λ (n : NodeState). ActsHaveCauses counted_ticks before input n) after_is has.acts later stands tx queued in
        record {
          replica = m.replica;
          became = m.became;
          may = elim m.may [ inl kept ↦ inl kept | inr new ↦ inr (new.0, counted m.replica tx (ends_queued tx later.acts) m.became.stood new.1) ];
        }

  -- a client
  client_turn : (first : Route) (asks : Asks) (before after : ClientState) (input : Input Mail OrderLine) → Acts ahead scenario rows row (client_seat first asks) (Client before) (Client after) input → KeepsTurn before after input row.sent
  client_turn first asks before after input a =
      let seat : Seat Player = client_seat first asks in
      let m = made seat (Client before) (Client after) input a in
      let who : seat.who ≡ row.who = (seat_is ahead scenario row.who seat a.seated).0 in
      let place : InPlace (has_started rows seat.who) before = subst (Placed ahead words scenario first asks rows) a.was (placed ahead words scenario first asks rows lawful) in
      let told : input ≡ Go → has_started rows seat.who ≡ false = λ go. subst (λ (w : ℕ). has_started rows w ≡ false) (sym who) (go_once ahead words scenario rows row step (a.takes ∙ ap Some go)) in
      let turn : KeepsTurn before (table before input).0 input (table before input).1 = keeps_turn before input (has_started rows seat.who) place told in
      let both : Client after ≡ Client (table before input).0 = m.fact in
      let same : (table before input).0 ≡ after = cc in
      subst (λ (ms : List Mail). KeepsTurn before after input ms) (sym m.sends) (subst (λ (c : ClientState). KeepsTurn before c input (table before input).1) same turn)

  -- no client's seat has a node
  no_node : (first : Route) (asks : Asks) (node : NodeState) → value player_table (client_seat first asks) rows ≡ Node node → ⊥
  no_node first asks node e = subst (Placed ahead words scenario first asks rows) e (placed ahead words scenario first asks rows lawful)

  row_has : RowHasCauses ahead scenario rows row
  row_has = record { answers = answers; requests = requests; acts = acts; turns = turns }
    where
      answers : (seat : Seat Player) (before after : NodeState) (input : Input Mail OrderLine) → Acts ahead scenario rows row seat (Node before) (Node after) input → AnswersHaveCauses before input after row.sent
      answers seat before after input a =
          elim (seat_is ahead scenario row.who seat a.seated).1 [
            | inl n ↦ node_answers n.me n.some before after input (subst (λ (s : Seat Player). Acts ahead scenario rows row s (Node before) (Node after) input) n.fact a)
            | inr c ↦ absurd (no_node c.first c.asks before (subst (λ (s : Seat Player). value player_table s rows ≡ Node before) c.fact a.was))
          ]

      requests : (seat : Seat Player) (before after : NodeState) (input : Input Mail OrderLine) → Acts ahead scenario rows row seat (Node before) (Node after) input → TakesRequests before input row.sent
      requests seat before after input a =
          elim (seat_is ahead scenario row.who seat a.seated).1 [
            | inl n ↦ node_requests n.me n.some before after input (subst (λ (s : Seat Player). Acts ahead scenario rows row s (Node before) (Node after) input) n.fact a)
            | inr c ↦ absurd (no_node c.first c.asks before (subst (λ (s : Seat Player). value player_table s rows ≡ Node before) c.fact a.was))
          ]

      acts : (seat : Seat Player) (before after : NodeState) (input : Input Mail OrderLine) → Acts ahead scenario rows row seat (Node before) (Node after) input → ActsHaveCauses (ticks_in seat rows) before input after
      acts seat before after input a =
          elim (seat_is ahead scenario row.who seat a.seated).1 [
            | inl n ↦ subst (λ (s : Seat Player). ActsHaveCauses (ticks_in s rows) before input after) (sym n.fact)
                (node_acts n.me n.some before after input (subst (λ (s : Seat Player). Acts ahead scenario rows row s (Node before) (Node after) input) n.fact a))
            | inr c ↦ absurd (no_node c.first c.asks before (subst (λ (s : Seat Player). value player_table s rows ≡ Node before) c.fact a.was))
          ]

      turns : (seat : Seat Player) (before after : ClientState) (input : Input Mail OrderLine) → Acts ahead scenario rows row seat (Client before) (Client after) input → KeepsTurn before after input row.sent
      turns seat before after input a =
          elim (seat_is ahead scenario row.who seat a.seated).1 [
            | inl n ↦ absurd (no_client ahead scenario n.me n.some rows before (subst (λ (s : Seat Player). value player_table s rows ≡ Client before) n.fact a.was))
            | inr c ↦ client_turn c.first c.asks before after input (subst (λ (s : Seat Player). Acts ahead scenario rows row s (Client before) (Client after) input) c.fact a)
          ]

-- ---- a journal

-- each row of it is a step after lawful rows
record HasStep (ahead : Ahead) (words : ℕ → ℕ → ℕ × ℕ) (scenario : Scenario) (before : Rows) (row : Row Mail OrderLine) : Type 0 where
  lawful : Lawful ahead words scenario before
  step : IsStep (system_of ahead words scenario) before row

has_step : (ahead : Ahead) (words : ℕ → ℕ → ℕ × ℕ) (scenario : Scenario) (journal : Rows) → Lawful ahead words scenario journal → (before : Rows) (row : Row Mail OrderLine) (later : Rows) → journal ≡ before ++ row ∷ later → HasStep ahead words scenario before row
has_step ahead words scenario journal lawful before row later are =
    let s = system_of ahead words scenario in
    let all : Lawful ahead words scenario ((before ++ row ∷ []) ++ later) = subst (Lawful ahead words scenario) (are ∙ sym (append_assoc before (row ∷ []) later)) lawful in
    let prefix : Lawful ahead words scenario (before ++ row ∷ []) = lawful-prefix s (schedule scenario) (before ++ row ∷ []) later all in
    record {
      lawful = lawful-prefix s (schedule scenario) before (row ∷ []) prefix;
      step = MayAdd-step s before (place_after s (schedule scenario) before).tasks row (lawful-last s (schedule scenario) before row prefix);
    }

pub valid_refuse : QueuesKeepOneCall → ValidJournalsRefuseWithCause
valid_refuse queues ahead open_slots words scenario valid journal lawful = record {
  rows = λ before row later are. (let has = has_step ahead words scenario journal lawful before row later are in row_has ahead words scenario before row has.lawful has.step);
  queues = λ before later are seat seated node fact. (
      let at : IsSeat ahead scenario seat = Each-among (IsSeat ahead scenario) (births ahead scenario) seat (seats ahead scenario) seated in
      let prefix : Lawful ahead words scenario before = lawful-prefix (system_of ahead words scenario) (schedule scenario) before later (subst (Lawful ahead words scenario) are lawful) in
      elim at [
        | inl n ↦ queues ahead scenario n.me before node (subst (λ (s : Seat Player). value player_table s before ≡ Node node) n.fact fact)
        | inr c ↦ absurd (subst (Placed ahead words scenario c.first c.asks before) (subst (λ (s : Seat Player). value player_table s before ≡ Node node) c.fact fact) (placed ahead words scenario c.first c.asks before prefix))
      ]);
  given_up = λ before later are. lawful_give_up ahead open_slots words scenario before (lawful-prefix (system_of ahead words scenario) (schedule scenario) before later (subst (Lawful ahead words scenario) are lawful));
  reported = λ before row later are. (let has = has_step ahead words scenario journal lawful before row later are in rows_report ahead open_slots words scenario valid before has.lawful row has.step);
}
