-- Refusals go to nodes, which alone ask to promise or to accept; and errands that go to nodes go to players.
use Rattle.std.proofs.Common.{◌≡◌, ℕ, eqb, [], ◌∷◌, ◌++◌, map, find, Option, Some, None, inl, inr, refl, sym, subst, arith}
use Rattle.std.specs.Option.{option_map}
use Rattle.sc_base.specs.Definitions.{Each}
use Rattle.sc_node_table.specs.Values.{Ballot, Draw, Command, OrderLine, Mail, MailBody, Request, Node, Client, Seat, Event, Deliver, Go, Got, Row}
use Rattle.sc_actor.specs.declared.rows.Event.TheVariants.{Told}
use Rattle.sc_actor.specs.declared.rows.Input.TheVariants.{Go as GoInput, Told as ToldInput}
use Rattle.sc_actor.specs.Definitions.{mails, numbered, value, acted, row_of}
use Rattle.sc_actor.proofs.Lemmas.{mails-snoc}
use Rattle.sc_law_groups.proofs.GroupProofs.GroupLemmas.{number_among}
use Rattle.sc_live_orderly.specs.OrderlyDefinitions.{IsCalmEvent, AreInTime}
use Rattle.sc_live_orderly.proofs.OrderlyLemmas.{by_time, in_time_before, last_in_time, is_born-from}
use Rattle.sc_paxos_law.proofs.Lemmas.{Among-either}
use Rattle.sc_words.specs.paxos.PaxosDefinitions.{AcceptorState}
use Rattle.sc_words.proofs.PaxosProofs.PaxosLemmas.{Each-among, Each-append, Each-weaker, find_found}
use Rattle.sc_scenario.specs.declared.scenario.scenarios.Scenario.{Scenario}
use Rattle.sc_node_table.specs.NodeDefinitions.{NodeState, numbers_from}
use Rattle.sc_meaning.specs.sound.SoundDefinitions.{Player, player_table, node_seat, client_seats, births, as_nodes}
use Rattle.sc_live_steps.specs.calm.CalmDefinitions.{players, Rows}
use Rattle.sc_live_journals.specs.rows.RowDefinitions.{IsSeat}
use Rattle.sc_live_journals.specs.mail.MailDefinitions.{IsClientsBody, IsPlayers, IsPosted, MailIsPosted}
use Rattle.sc_live_answers.specs.AnswerDefinitions.{IsNodeOf, GoesToNode, RefusesToNode, RefusalsGoToNodes, NodeErrandsReachPlayers}
use Rattle.sc_live_answers.proofs.QuietProofs.QuietPrefixes.{IsClient, client_among, node_among, seat_in}
use Rattle.sc_live_answers.proofs.BallotsProofs.Refusals.{IsRefusal, AreSaid}
use Rattle.sc_live_answers.proofs.BallotsProofs.PlayerRefusals.{input_said}
use Rattle.sc_live_journals.proofs.RowsProofs.OwnGroupMail.{Refuses}

-- what a client sends asks for no promise, and to accept nothing
clients_unrefused : (me : ℕ) (state : AcceptorState Command) (body : MailBody) → IsClientsBody me body → Refuses state body → ⊥
clients_unrefused me state (Request group client seq op) c r = r
clients_unrefused me state _ c r = c

module _ (scenario : Scenario) where
  -- a player that was born a node is one of the scenario's
  born_node : (seat : Seat Player) (node : NodeState) → IsSeat (births as_nodes scenario) seat → seat.actor ≡ Node node → IsNodeOf scenario seat.who
  born_node seat node born fact =
      let found = find_found (λ (other : Seat Player). eqb other.who seat.who) (births as_nodes scenario) seat born in
      elim (Among-either seat (map (node_seat as_nodes scenario.groups scenario.policy) (numbers_from 1 scenario.nodes)) (client_seats scenario.groups scenario.clients) found.0) [
        | inl a ↦ (let within = node_among scenario.groups scenario.policy scenario.nodes 1 seat a in let low = within.0 in let high = within.1 in (low, omega (arith, high)))
        | inr a ↦ absurd (subst IsClient fact (client_among scenario.groups scenario.clients seat a))
      ]

  -- who sends what may be refused is one
  refused_home : (state : AcceptorState Command) (mail : Mail) → IsPosted (births as_nodes scenario) mail → Refuses state mail.body → IsNodeOf scenario mail.from
  refused_home state mail p r = subst (IsNodeOf scenario) (sym p.from_is) (by p.seat.actor refl p.fact)
    where
      by : (player : Player) → p.seat.actor ≡ player → IsPlayers p.seat.who player mail → IsNodeOf scenario p.seat.who
      by (Node node) e k = born_node p.seat node p.born e
      by (Client client) e k = absurd (clients_unrefused client.me state mail.body k.1 r)

  -- a refusal that goes to a node
  abbrev May : Draw → ℕ → Ballot → Type 0
  May group to promised = IsNodeOf scenario to

  module _ (rows : Rows) (posted : Each (IsPosted (births as_nodes scenario)) (mails rows)) (words : ℕ → ℕ → ℕ × ℕ) (seat : Seat Player) where
    row_said : (event : Event OrderLine) → IsCalmEvent (players words (births as_nodes scenario)) rows seat.who event → AreSaid May (row_of player_table seat rows event).sent
    row_said (Deliver number) calm = by (numbered (mails rows) number) refl
      where
        by : (o : Option Mail) → numbered (mails rows) number ≡ o → AreSaid May (acted player_table (value player_table seat rows) (option_map Got o)).1
        by None e = tt
        by (Some mail) e =
            input_said May (value player_table seat rows) (Got mail) (λ t. cc)
            (λ node m fact got group r g here n. (let same : mail ≡ m = cc in
            subst (λ (x : Mail). IsNodeOf scenario x.from) same
            (refused_home r.acceptor mail (Each-among (IsPosted (births as_nodes scenario)) (mails rows) mail posted (number_among (mails rows) number mail e)) (subst (λ (x : Mail). Refuses r.acceptor x.body) (sym same) n))))
    row_said Go calm = input_said May (value player_table seat rows) GoInput (λ t. cc) (λ node m fact got. cc)
    row_said (Told line) calm = input_said May (value player_table seat rows) (ToldInput line) (λ t. cc) (λ node m fact got. cc)
    row_said _ calm = absurd calm

  said_home : (mail : Mail) → IsRefusal May mail.to mail.body → RefusesToNode scenario mail
  said_home mail said = λ group promised body. subst (IsRefusal May mail.to) body said

  module _ (post_law : MailIsPosted) (words : ℕ → ℕ → ℕ × ℕ) where
    abbrev Home : Rows → Type 0
    Home rows = Each (RefusesToNode scenario) (mails rows)

    row_home : (rows : Rows) (row : Row Mail OrderLine) → AreInTime (players words (births as_nodes scenario)) (rows ++ row ∷ []) → Each (RefusesToNode scenario) (mails rows) → Each (RefusesToNode scenario) (mails (rows ++ row ∷ []))
    row_home rows row timely home =
        let calm = (last_in_time (players words (births as_nodes scenario)) rows row timely).0 in
        let posted = post_law words scenario rows (in_time_before (players words (births as_nodes scenario)) rows row timely) in
        let said = row_said rows posted words calm.seat calm.event calm.calm in
        let sent : AreSaid May row.sent = subst (λ (r : Row Mail OrderLine). AreSaid May r.sent) (sym calm.row_is) said in
        subst (Each (RefusesToNode scenario)) (sym (mails-snoc rows row))
        (Each-append (RefusesToNode scenario) (mails rows) row.sent home (Each-weaker (λ (mail : Mail). IsRefusal May mail.to mail.body) (RefusesToNode scenario) said_home row.sent sent))

    all_home : (rows : Rows) → AreInTime (players words (births as_nodes scenario)) rows → Each (RefusesToNode scenario) (mails rows)
    all_home rows timely = by_time (players words (births as_nodes scenario)) Home tt row_home rows timely

  -- ---- players

  -- a node of the scenario has a seat
  pub node_seated : (who : ℕ) → IsNodeOf scenario who → find (λ (seat : Seat Player). eqb seat.who who) (births as_nodes scenario) ≡ Some (node_seat as_nodes scenario.groups scenario.policy who)
  node_seated who home =
      let low = home.0 in
      let high = home.1 in
      seat_in scenario.groups scenario.policy scenario.nodes 1 who (client_seats scenario.groups scenario.clients) low (omega (arith, high))

pub refusals_home : MailIsPosted → RefusalsGoToNodes
refusals_home post_law words scenario rows timely = all_home scenario post_law words rows timely

-- Errands that go to nodes go to players.
pub homeward_actors : NodeErrandsReachPlayers
homeward_actors words scenario sent home =
    Each-weaker (GoesToNode scenario) _ (λ mail goes entry errand. is_born-from (players words (births as_nodes scenario)) mail.to (node_seat as_nodes scenario.groups scenario.policy mail.to) (node_seated scenario mail.to (goes (entry, errand)))) sent home
