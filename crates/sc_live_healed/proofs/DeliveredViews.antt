-- A delivery of pending mail, in a journal without orders and policy, as what it does to the replicas of one group.
use Rattle.std.proofs.Common.{◌≡◌, ℕ, zero, suc, ◌≤◌, ◌&&◌, nat_le, eqb, Bool, true, false, true≢false, cond, List, [], ◌∷◌, ◌++◌, map, filter, find, Option, Some, None, ◌⊎◌, inl, inr, refl, sym, ◌∙◌, ap, subst, arith}
use Rattle.std.specs.Option.{option_map}
use Rattle.std.proofs.lemmas.Bool.{cond_both, cond-true, cond-false, cases_Bool, eqb-true, eq-eqb, leb-true}
use Rattle.sc_base.specs.Definitions.{Among, Each, client_actor, most_nodes}
use Rattle.sc_words.proofs.PaxosProofs.PaxosLemmas.{Each-among, Each-append, Each-filter, Each-weaker, Each-from_All, find_found}
use Rattle.sc_paxos_law.proofs.Lemmas.{place_among}
use Rattle.sc_node_table.specs.Values.{Draw, Seat, Row, Event, Deliver, Input, Got, Base, OrderLine, Mail, Install, Node, Client}
use Rattle.sc_actor.specs.Definitions.{System, mails, numbered, acted, input_of, replay, value, may_get, numbers_of}
use Rattle.sc_actor.proofs.Lemmas.{value-snoc, find-who}
use Rattle.sc_client_table.specs.table.TableDefinitions.{Client as ClientState, table}
use Rattle.sc_client_table.proofs.TableProofs.TurnLemmas.{sends_in_turn}
use Rattle.sc_node_table.specs.NodeDefinitions.{NodeState, ReplicaState, replica_of, node_table, group_of_mail, is_node, last_slot, numbers_from}
use Rattle.sc_scenario.specs.declared.scenario.scenarios.Scenario.{Scenario}
use Rattle.sc_scenario.specs.declared.scenario.scenarios.Asks.{Asks as Requests}
use Rattle.sc_scenario.specs.scenario.Definitions.{IsBounded, IsBoundedClient}
use Rattle.sc_meaning.specs.sound.SoundDefinitions.{Player, as_nodes, births, client_seat, client_seats, node_seat, player_table, route_of, system_of}
use Rattle.sc_live_orderly.specs.Turns.{TakesLowest}
use Rattle.sc_live_healed.proofs.FixedWalks.{IsFresh, IsMember, IsFixedPlace}
use Rattle.sc_live_healed.proofs.FixedNodes.{AreFresh, group_is, to_member}
use Rattle.sc_live_healed.proofs.FixedBirths.{groups_fresh}
use Rattle.sc_live_healed.proofs.FixedJournals.{Rows, IsOf, IsFixedPlayer, IsFixedJournal}
use Rattle.sc_live_healed.proofs.NodeViews.{TakesMail, PassesMail, mail_view}
use Rattle.sc_live_healed.proofs.PollTurns.{Replicas, IsOfGroup, IsDelivered}
use Rattle.sc_live_healed.specs.HealedDefinitions.{IsFixedBody, IsFixedMail, IsFixedNode, IsAnswerKind}

module _ (words : ℕ → ℕ → ℕ × ℕ) (scenario : Scenario) (bounded : IsBounded scenario) (base : Base) (among : Among base scenario.groups) where
  abbrev pub s : System Player Mail OrderLine
  s = system_of as_nodes words scenario

  fresh : AreFresh scenario.groups
  fresh = groups_fresh scenario bounded

  -- the replica of the group at an actor
  abbrev pub player_view : Player → Option ReplicaState
  player_view (Node node) = replica_of base.core.id node.replicas
  player_view (Client client) = None

  abbrev pub seat_view : Rows → Option (Seat Player) → Option ReplicaState
  seat_view rows None = None
  seat_view rows (Some seat) = player_view (value player_table seat rows)

  -- the replicas of the group after these rows, by node
  abbrev pub view : Rows → Replicas
  view rows who = seat_view rows (find (λ (other : Seat Player). eqb other.who who) (births as_nodes scenario))

  -- the actors that may get mail
  abbrev pub alive : Rows → ℕ → Bool
  alive rows who = may_get (numbers_of s.births) rows who

  -- ---- clients have no node's number

  abbrev IsPlacedAs : ℕ → Player → Type 0
  IsPlacedAs who (Node node) = Unit {0}
  IsPlacedAs who (Client client) = is_node who ≡ false

  abbrev IsPlaced : Seat Player → Type 0
  IsPlaced seat = IsPlacedAs seat.who seat.actor

  far_client : (client : ℕ) → 1 ≤ client → is_node (client_actor client) ≡ false
  far_client client some = elim (cases_Bool (nat_le (client_actor client) most_nodes)) [
    | inl t ↦ absurd (let low = leb-true (client_actor client) most_nodes t in omega (arith, low, some))
    | inr f ↦ ap (λ (b : Bool). nat_le 1 (client_actor client) && b) f ∙ none (nat_le 1 (client_actor client))
  ]
    where
      none : (b : Bool) → (b && false) ≡ false
      none true = refl
      none false = refl

  nodes_placed : (numbers : List ℕ) → Each IsPlaced (map (node_seat as_nodes scenario.groups scenario.policy) numbers)
  nodes_placed [] = tt
  nodes_placed (n ∷ numbers) = (tt, nodes_placed numbers)

  some_placed : (route : Base) (clients : List Requests) → Each IsBoundedClient clients → Each IsPlaced (map (client_seat (route_of route)) clients)
  some_placed route [] b = tt
  some_placed route (c ∷ clients) b = (far_client c.client b.0.0.0, some_placed route clients b.1)

  clients_placed : (groups : List Base) → Each IsPlaced (client_seats groups scenario.clients)
  clients_placed [] = tt
  clients_placed (route ∷ groups) = some_placed route scenario.clients (Each-from_All IsBoundedClient scenario.clients bounded.clients)

  all_placed : Each IsPlaced (births as_nodes scenario)
  all_placed = Each-append IsPlaced (map (node_seat as_nodes scenario.groups scenario.policy) (numbers_from 1 scenario.nodes)) (client_seats scenario.groups scenario.clients) (nodes_placed (numbers_from 1 scenario.nodes)) (clients_placed scenario.groups)

  -- a node stays one
  abbrev IsNode : Player → Type 0
  IsNode (Node node) = Unit {0}
  IsNode (Client client) = ⊥

  acted_node : (p : Player) (input : Option (Input Mail OrderLine)) → IsNode p → IsNode (acted player_table p input).0
  acted_node (Node node) None k = k
  acted_node (Node node) (Some input) k = tt
  acted_node (Client client) input k = absurd k

  replay_node : (who : ℕ) (p : Player) (sent : List Mail) (rows : Rows) → IsNode p → IsNode (replay player_table who p sent rows)
  replay_node who p sent [] k = k
  replay_node who p sent (row ∷ rows) k =
      replay_node who (cond (eqb row.who who) (acted player_table p (input_of sent row.event)).0 p) (sent ++ row.sent) rows
      (cond_both (eqb row.who who) (acted player_table p (input_of sent row.event)).0 p IsNode (λ _. acted_node p (input_of sent row.event) k) (λ _. k))

  client_far : (seat : Seat Player) → IsOf scenario seat → (client : ClientState) (rows : Rows) → value player_table seat rows ≡ Client client → is_node seat.who ≡ false
  client_far seat is_of client rows e = by seat.actor refl (Each-among IsPlaced (births as_nodes scenario) seat all_placed (find_found (λ (other : Seat Player). eqb other.who seat.who) (births as_nodes scenario) seat is_of).0)
    where
      by : (p : Player) → seat.actor ≡ p → IsPlacedAs seat.who p → is_node seat.who ≡ false
      by (Client c) q placed = placed
      by (Node node) q placed = absurd (subst IsNode e (replay_node seat.who seat.actor [] rows (subst IsNode (sym q) tt)))

  -- ---- a delivery

  module _ (rows : Rows) (row : Row Mail OrderLine) (now : IsFixedJournal scenario rows) (t : TakesLowest s rows row) where
    abbrev seat : Seat Player
    seat = t.seat

    who_is : seat.who ≡ t.mail.to
    who_is = find-who (births as_nodes scenario) t.mail.to seat t.born

    is_of : IsOf scenario seat
    is_of = ap (λ (who : ℕ). find (λ (other : Seat Player). eqb other.who who) (births as_nodes scenario)) who_is ∙ t.born

    given : (sent : List Mail) (number : ℕ) (mail : Mail) → Each (IsFixedMail scenario.groups) sent → numbered sent number ≡ Some mail → IsFixedMail scenario.groups mail
    given sent zero mail f e = absurd (cc)
    given sent (suc place) mail f e = Each-among (IsFixedMail scenario.groups) sent mail f (place_among sent place mail e)

    fixed : IsFixedMail scenario.groups t.mail
    fixed = given (mails rows) t.number t.mail now.sent t.sent

    -- the input of the row
    input_is : input_of {O = OrderLine} (mails rows) (Deliver t.number) ≡ Some (Got t.mail)
    input_is = ap (λ (o : Option Mail). option_map Got o) t.sent

    -- what the receiver does
    step_is : (p : Player) → value player_table seat rows ≡ p → (row.sent ≡ (player_table p (Got t.mail)).1) × (value player_table seat (rows ++ row ∷ []) ≡ (player_table p (Got t.mail)).0)
    step_is p fact =
        let sent_by : row.sent ≡ (acted player_table (value player_table seat rows) (input_of {O = OrderLine} (mails rows) (Deliver t.number))).1 = ap (λ (r : Row Mail OrderLine). r.sent) t.row_is in
        let event_is : row.event ≡ Deliver t.number = ap (λ (r : Row Mail OrderLine). r.event) t.row_is in
        let who : row.who ≡ seat.who = ap (λ (r : Row Mail OrderLine). r.who) t.row_is in
        let acts : acted player_table (value player_table seat rows) (input_of {O = OrderLine} (mails rows) (Deliver t.number)) ≡ player_table p (Got t.mail) =
        ap (λ (o : Option (Input Mail OrderLine)). acted player_table (value player_table seat rows) o) input_is ∙ ap (λ (q : Player). player_table q (Got t.mail)) fact in (
          sent_by ∙ ap (λ (x : Player × List Mail). x.1) acts,
          value-snoc player_table seat rows row ∙ (cond-true (eqb row.who seat.who) _ _ (eq-eqb row.who seat.who who)
              ∙ (ap (λ (event : Event OrderLine). (acted player_table (value player_table seat rows) (input_of (mails rows) event)).0) event_is ∙ ap (λ (x : Player × List Mail). x.0) acts)),
        )

    -- every other actor stays
    others_stay : (who : ℕ) → (who ≡ t.mail.to → ⊥) → view (rows ++ row ∷ []) who ≡ view rows who
    others_stay who other = by (find (λ (x : Seat Player). eqb x.who who) (births as_nodes scenario)) refl
      where
        by : (o : Option (Seat Player)) → find (λ (x : Seat Player). eqb x.who who) (births as_nodes scenario) ≡ o → seat_view (rows ++ row ∷ []) o ≡ seat_view rows o
        by None e = refl
        by (Some x) e =
            let x_is : x.who ≡ who = find-who (births as_nodes scenario) who x e in
            let row_who : row.who ≡ seat.who = ap (λ (r : Row Mail OrderLine). r.who) t.row_is in
            ap player_view (value-snoc player_table x rows row ∙ cond-false (eqb row.who x.who) _ _ (elim (cases_Bool (eqb row.who x.who)) [ inl y ↦ absurd (other (sym x_is ∙ (sym (eqb-true row.who x.who y) ∙ (row_who ∙ who_is)))) | inr f ↦ f ]))

    view_here : (xs : Rows) → view xs t.mail.to ≡ player_view (value player_table seat xs)
    view_here xs = ap (seat_view xs) t.born

    abbrev new : List Mail
    new = filter (λ (m : Mail). alive rows m.to) row.sent

    -- a node takes it
    node_takes : (node : NodeState) → value player_table seat rows ≡ Node node → ((group : Draw) (slot : ℕ) (state : Base) (sets : List (List ℕ)) → t.mail.body ≡ Install group slot state sets → slot ≤ last_slot)
        → IsDelivered base (alive rows) (view rows) t.mail (view (rows ++ row ∷ [])) new
    node_takes node fact room = by (mail_view scenario.groups fresh base among node k.2 t.mail fixed to)
      where
        k : (node.me ≡ seat.who) × (node.policy ≡ false) × IsFixedNode scenario.groups node
        k = subst (IsFixedPlayer scenario.groups seat.who) fact (now.players seat is_of)

        to : t.mail.to ≡ node.me
        to = sym who_is ∙ sym k.0

        step : (row.sent ≡ (node_table node (Got t.mail)).1) × (value player_table seat (rows ++ row ∷ []) ≡ Node (node_table node (Got t.mail)).0)
        step = step_is (Node node) fact

        before_is : view rows t.mail.to ≡ replica_of base.core.id node.replicas
        before_is = view_here rows ∙ ap player_view fact

        after_is : view (rows ++ row ∷ []) t.mail.to ≡ replica_of base.core.id (node_table node (Got t.mail)).0.replicas
        after_is = view_here (rows ++ row ∷ []) ∙ ap player_view step.1

        by : ((group_of_mail t.mail.body ≡ Some base.core.id) × TakesMail scenario.groups fresh base among node k.2 t.mail (node_table node (Got t.mail))) ⊎ ((group_of_mail t.mail.body ≡ Some base.core.id → ⊥) × PassesMail scenario.groups fresh base among node k.2 (node_table node (Got t.mail)))
            → IsDelivered base (alive rows) (view rows) t.mail (view (rows ++ row ∷ [])) new
        by (inl x) = inl record {
          of_group = x.0;
          fresh = subst (IsFresh base) (sym to) x.1.born;
          replica = x.1.replica;
          was = before_is ∙ x.1.was;
          fixed = subst (λ (n : ℕ). IsFixedPlace base n (x.1.replica, [])) (sym to) x.1.fixed;
          heard = subst (λ (n : ℕ). IsFixedBody base t.mail.from n t.mail.body) (sym to) x.1.heard;
          room = room;
          fact = after_is ∙ x.1.fact;
          others = others_stay;
          sent = ap (filter (λ (m : Mail). alive rows m.to)) (step.0 ∙ x.1.sent);
        }
        by (inr x) = inr record {
          other = x.0;
          same = λ who. elim (cases_Bool (eqb who t.mail.to)) [
            | inl y ↦ subst (λ (n : ℕ). view (rows ++ row ∷ []) n ≡ view rows n) (sym (eqb-true who t.mail.to y)) (after_is ∙ (x.1.stays ∙ sym before_is))
            | inr f ↦ others_stay who (λ e. true≢false (sym (eq-eqb who t.mail.to e) ∙ f))
          ];
          sent = Each-filter (λ (m : Mail). IsOfGroup base (alive rows) m → IsAnswerKind m.body) (λ (m : Mail). alive rows m.to) row.sent
              (subst (Each (λ (m : Mail). IsOfGroup base (alive rows) m → IsAnswerKind m.body)) (sym step.0) (Each-weaker (λ (m : Mail). group_of_mail m.body ≡ Some base.core.id → ⊥) (λ (m : Mail). IsOfGroup base (alive rows) m → IsAnswerKind m.body) (λ m none g. absurd (none g)) (node_table node (Got t.mail)).1 x.1.sent));
        }

    -- a client takes it, and sends requests alone
    client_takes : (client : ClientState) → value player_table seat rows ≡ Client client → IsDelivered base (alive rows) (view rows) t.mail (view (rows ++ row ∷ [])) new
    client_takes client fact = inr record {
      other = λ of. (let mine : fixed.base ≡ base = fresh.apart fixed.base base fixed.among among (group_is scenario.groups fresh t.mail.to fixed.base t.mail.from t.mail.to base.core.id t.mail.body of fixed.says) in
          let member : IsMember fixed.base t.mail.to = to_member scenario.groups fresh t.mail.to fixed.base t.mail.from t.mail.to base.core.id t.mail.body of fixed.says in
          true≢false (sym (fresh.within fixed.base fixed.among t.mail.to member) ∙ (ap is_node (sym who_is) ∙ client_far seat is_of client rows fact)));
      same = λ who. elim (cases_Bool (eqb who t.mail.to)) [
        | inl y ↦ subst (λ (n : ℕ). view (rows ++ row ∷ []) n ≡ view rows n) (sym (eqb-true who t.mail.to y)) ((view_here (rows ++ row ∷ []) ∙ ap player_view step.1) ∙ sym (view_here rows ∙ ap player_view fact))
        | inr f ↦ others_stay who (λ e. true≢false (sym (eq-eqb who t.mail.to e) ∙ f))
      ];
      sent = Each-filter Quiet (λ (m : Mail). alive rows m.to) row.sent (subst (Each Quiet) (sym step.0) requests);
    }
      where
        step : (row.sent ≡ (table client (Got t.mail)).1) × (value player_table seat (rows ++ row ∷ []) ≡ Client (table client (Got t.mail)).0)
        step = step_is (Client client) fact

        Quiet : Mail → Type 0
        Quiet m = IsOfGroup base (alive rows) m → IsAnswerKind m.body

        requests : Each Quiet (table client (Got t.mail)).1
        requests = elim (sends_in_turn client (Got t.mail)).sends [
          | inl none ↦ subst (Each Quiet) (sym none) tt
          | inr one ↦ subst (Each Quiet) (sym one.4) ((λ g. tt), tt)
        ]

    -- what a delivery does to the group
    pub delivered_view : ((group : Draw) (slot : ℕ) (state : Base) (sets : List (List ℕ)) → t.mail.body ≡ Install group slot state sets → slot ≤ last_slot) → IsDelivered base (alive rows) (view rows) t.mail (view (rows ++ row ∷ [])) new
    delivered_view room = by (value player_table seat rows) refl
      where
        by : (p : Player) → value player_table seat rows ≡ p → IsDelivered base (alive rows) (view rows) t.mail (view (rows ++ row ∷ [])) new
        by (Node node) fact = node_takes node fact room
        by (Client client) fact = client_takes client fact
