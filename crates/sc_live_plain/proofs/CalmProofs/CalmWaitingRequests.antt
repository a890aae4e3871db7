-- Between two orders each request that waits is on its way, or its answer is, or it is queued at the leader that was asked.
use Rattle.std.proofs.Common.{◌≡◌, ℕ, eqb, true, false, List, [], ◌∷◌, ◌++◌, drop, find, Some, ◌⊎◌, inl, inr, refl, sym, ◌∙◌, ap, subst, arith}
use Rattle.std.proofs.lemmas.Bool.{cases_eq, both_ways}
use Rattle.sc_base.specs.Definitions.{Among, client_actor}
use Rattle.sc_node_table.specs.Values.{Draw, OrderLine, Mail, Answer, Client, Seat, Event, Deliver, Go, Got, Row}
use Rattle.sc_actor.specs.declared.rows.Input.TheVariants.{Go as GoInput}
use Rattle.sc_actor.specs.Definitions.{value, System, row_of, has_started, waiting, kth}
use Rattle.sc_client_table.specs.table.TableDefinitions.{Client as ClientState, ClientStep, table}
use Rattle.sc_node_table.specs.NodeDefinitions.{is_node}
use Rattle.sc_scenario.specs.declared.scenario.scenarios.Asks.{Asks}
use Rattle.sc_scenario.specs.declared.scenario.scenarios.Scenario.{Scenario}
use Rattle.sc_meaning.specs.sound.SoundDefinitions.{Player, player_table, node_seat, client_seat, route_of, births, system_of, as_nodes}
use Rattle.sc_live_orderly.specs.OrderlyDefinitions.{IsTidy, IsOrderly, IsInOrder, rest, mail_for, taken}
use Rattle.sc_live_orderly.proofs.OrderlyLemmas.{TakesFirst, rest-row}
use Rattle.sc_live_plain.specs.PlainDefinitions.{IsAsking, AreFarFromLast, IsLinkedSetting, Setting, IsSetting, IsWaiting}
use Rattle.sc_live_plain.proofs.CalmProofs.RequestPhaseClients as clients_of
use Rattle.sc_live_plain.proofs.PlainProofs.PlainBeginnings.{IsStage}
use Rattle.sc_live_plain.proofs.PlainProofs.PlainSteps.{client_number, value_others}
use Rattle.sc_live_plain.proofs.PlainRowsProofs.RowViews.{Journal, replica_others}
use Rattle.sc_live_plain.proofs.PlainProofs.PlainSteps.{of_player}
use Rattle.sc_live_plain.proofs.CalmProofs.CalmClients.{Seeks, Ignores}
use Rattle.sc_live_plain.proofs.CalmProofs.CalmClients.{asking}
use Rattle.sc_live_plain.proofs.CalmProofs.RequestsLeftByRows.{sent_left, others_left, behind_left}
use Rattle.sc_live_plain.proofs.PlainRowsProofs.RowViews.{client_is}
use Rattle.sc_live_plain.proofs.PlainRowsProofs.RepeatedMail.{mail_of}
use Rattle.sc_live_plain.proofs.CalmProofs.SoughtRequests.{IsAsked, IsHeldAt, IsSought, AreSought, me_of}
use Rattle.sc_live_plain.proofs.CalmProofs.NodeRowsLeaveRequests.{node_event}

module _ (words : ℕ → ℕ → ℕ × ℕ) (scenario : Scenario) (begins : IsStage scenario) (set : Setting) (fact : IsSetting set) (linked : IsLinkedSetting set) where
  abbrev sys : System Player Mail OrderLine
  sys = system_of as_nodes words scenario

  abbrev nseat : ℕ → Seat Player
  nseat me = node_seat as_nodes scenario.groups scenario.policy me

  abbrev cseat : Asks → Seat Player
  cseat asks = client_seat (route_of begins.first) asks

  module _ (rows : Journal) (t : IsTidy rows) (j : IsAsking words scenario set begins.first rows) (sought : AreSought words scenario begins set fact linked rows) where
    -- ---- rows of clients

    module _ (mine : Asks) (is_mine : Among mine scenario.clients) (born : find (λ (other : Seat Player). eqb other.who (client_actor mine.client)) (births as_nodes scenario) ≡ Some (client_seat (route_of begins.first) mine)) where
      -- a node of a group is no client
      node_away : (target : ℕ) → is_node target ≡ true → target ≡ client_actor mine.client → ⊥
      node_away target node e = both_ways (is_node (client_actor mine.client)) (client_number words scenario begins mine is_mine) (ap is_node (sym e) ∙ node)

      module _ (event : Event OrderLine) (fine : IsInOrder (system_of as_nodes words scenario) rows (client_actor mine.client) event) (step : ClientStep)
          (became : value player_table (client_seat (route_of begins.first) mine) (rows ++ row_of player_table (client_seat (route_of begins.first) mine) rows event ∷ []) ≡ Client step.0)
          (sends : (row_of player_table (client_seat (route_of begins.first) mine) rows event).sent ≡ step.1) where
        abbrev Still : ClientState → Draw → ℕ → ℕ → Type 0
        Still client group target seq = IsSought words scenario begins set fact linked (rows ++ row_of player_table (client_seat (route_of begins.first) mine) rows event ∷ []) client group target seq

        after_row : (who : ℕ) → rest (system_of as_nodes words scenario) (rows ++ row_of player_table (client_seat (route_of begins.first) mine) rows event ∷ []) who
            ≡ drop (taken who (row_of player_table (client_seat (route_of begins.first) mine) rows event)) (rest (system_of as_nodes words scenario) rows who) ++ mail_for (system_of as_nodes words scenario) who (row_of player_table (client_seat (route_of begins.first) mine) rows event).sent
        after_row who = rest-row sys rows (row_of player_table (cseat mine) rows event) who t (record { seat = cseat mine; born = born; event = event; row_is = refl; in_order = fine })

        -- what is no client's stays
        asked_stays : (client : ClientState) (group : Draw) (target seq : ℕ) → is_node target ≡ true → IsAsked words scenario begins set fact linked rows client group target seq → Still client group target seq
        asked_stays client group target seq node x = inl (x.0, others_left words scenario rows (row_of player_table (cseat mine) rows event) after_row target (asking client.me target group seq x.0) (node_away target node) x.1)

        held_stays : (client : ClientState) (group : Draw) (target seq : ℕ) → is_node target ≡ true → IsHeldAt words scenario begins set fact linked rows client group target seq → Still client group target seq
        held_stays client group target seq node h =
            inr (inr (record { frame = h.frame; is_frame = h.is_frame; name = h.name; lead = h.lead; r = h.r; there = replica_others words scenario rows (row_of player_table (cseat mine) rows event) group target (node_away target node) ∙ h.there; held = h.held }))

        -- another client's request
        other_sought : (asks : Asks) (client : ClientState) → Among asks scenario.clients → (client_actor asks.client ≡ client_actor mine.client → ⊥) → value player_table (client_seat (route_of begins.first) asks) (rows ++ row_of player_table (client_seat (route_of begins.first) mine) rows event ∷ []) ≡ Client client
            → (w : IsWaiting client) → is_node w.target ≡ true → Still client w.group w.target w.seq
        other_sought asks client a ne now_is w node =
            let r = row_of player_table (cseat mine) rows event in
            let was : value player_table (cseat asks) rows ≡ Client client = sym (value_others words scenario begins rows r (cseat asks) ne) ∙ now_is in
            let who = me_of words scenario begins set fact linked rows t j sought asks client a was in
            elim (sought asks client a was w) [
              | inl x ↦ asked_stays client w.group w.target w.seq node x
              | inr (inl x) ↦ inr (inl (record {
                answer = x.answer;
                ends = x.ends;
                there = others_left words scenario rows r after_row (client_actor client.me) (mail_of w.target (client_actor client.me) (Answer w.group w.seq x.answer)) (λ e. ne (ap client_actor (sym who) ∙ e)) x.there;
              }))
              | inr (inr h) ↦ held_stays client w.group w.target w.seq node h
            ]

        -- its own goes out
        sent_sought : Seeks step → (w : IsWaiting step.0) → Still step.0 w.group w.target w.seq
        sent_sought seeks w =
            let s = seeks w in
            inl (s.0, sent_left words scenario rows (row_of player_table (cseat mine) rows event) after_row w.target (asking step.0.me w.target w.group w.seq s.0) refl (subst (Among (asking step.0.me w.target w.group w.seq s.0)) (sym sends) s.1))

        -- each client's, by what becomes of its own
        all_sought : ((asks : Asks) (client : ClientState) → Among asks scenario.clients → value player_table (client_seat (route_of begins.first) asks) (rows ++ row_of player_table (client_seat (route_of begins.first) mine) rows event ∷ []) ≡ Client client → (w : IsWaiting client) → is_node w.target ≡ true)
            → ((w : IsWaiting step.0) → is_node w.target ≡ true → Still step.0 w.group w.target w.seq) → AreSought words scenario begins set fact linked (rows ++ row_of player_table (client_seat (route_of begins.first) mine) rows event ∷ [])
        all_sought nodes own asks client a now_is w = elim (cases_eq (client_actor asks.client) (client_actor mine.client)) [
          | inl same ↦ (
              let e : asks ≡ mine = begins.once asks mine a is_mine (omega (arith, same)) in
              let is_ : Client step.0 ≡ Client client = sym became ∙ (ap (λ (x : Asks). value player_table (cseat x) (rows ++ row_of player_table (cseat mine) rows event ∷ [])) (sym e) ∙ now_is) in
              own_of client (client_is is_) w (nodes asks client a now_is w))
          | inr ne ↦ other_sought asks client a ne now_is w (nodes asks client a now_is w)
        ]
          where
            own_of : (client : ClientState) → step.0 ≡ client → (w : IsWaiting client) → is_node w.target ≡ true → Still client w.group w.target w.seq
            own_of client e = subst (λ (x : ClientState). (w : IsWaiting x) → is_node w.target ≡ true → Still x w.group w.target w.seq) e own

      module _ (number : ℕ) (fine : kth (waiting (system_of as_nodes words scenario) rows (Some (client_actor mine.client))) 1 ≡ Some number)
          (nodes : (asks : Asks) (client : ClientState) → Among asks scenario.clients → value player_table (client_seat (route_of begins.first) asks) (rows ++ row_of player_table (client_seat (route_of begins.first) mine) rows (Deliver number) ∷ []) ≡ Client client → (w : IsWaiting client) → is_node w.target ≡ true) where
        abbrev first : TakesFirst (system_of as_nodes words scenario) rows (client_actor mine.client) number
        first = clients_of.first words scenario begins set fact linked rows t j mine is_mine born number fine

        abbrev state : ClientState
        state = (clients_of.c words scenario begins set fact linked rows t j mine is_mine born).client

        abbrev step : ClientStep
        step = table state (Got first.mail)

        became : value player_table (client_seat (route_of begins.first) mine) (rows ++ row_of player_table (client_seat (route_of begins.first) mine) rows (Deliver number) ∷ []) ≡ Client step.0
        became = clients_of.became words scenario begins set fact linked rows t j mine is_mine born (Deliver number) fine step (clients_of.got_is words scenario begins set fact linked rows t j mine is_mine born number fine) (clients_of.got_more words scenario begins set fact linked rows t j mine is_mine born number fine)

        sends : (row_of player_table (client_seat (route_of begins.first) mine) rows (Deliver number)).sent ≡ step.1
        sends = ap (λ (p : Player × List Mail). p.1) (clients_of.got_is words scenario begins set fact linked rows t j mine is_mine born number fine)

        -- a mail that it ignores is not the answer
        ignored : Ignores state first.mail step → (w : IsWaiting state) → is_node w.target ≡ true → IsSought words scenario begins set fact linked (rows ++ row_of player_table (client_seat (route_of begins.first) mine) rows (Deliver number) ∷ []) state w.group w.target w.seq
        ignored d w node =
            let c = clients_of.c words scenario begins set fact linked rows t j mine is_mine born in
            let r = row_of player_table (cseat mine) rows (Deliver number) in
            let who : client_actor state.me ≡ client_actor mine.client = ap client_actor c.calm.me_is in
            elim (sought mine state is_mine c.fact w) [
              | inl x ↦ asked_stays (Deliver number) fine step became sends state w.group w.target w.seq node x
              | inr (inl x) ↦ (
                  let mail : Mail = mail_of w.target (client_actor state.me) (Answer w.group w.seq x.answer) in
                  elim (behind_left words scenario rows r (after_row (Deliver number) fine step became sends) first.mail first.behind first.first refl mail (subst (λ y. Among mail (rest sys rows y)) who x.there)) [
                    | inl same ↦ absurd (d.no_end w x.answer x.ends same)
                    | inr b ↦ inr (inl (record { answer = x.answer; ends = x.ends; there = subst (λ y. Among mail (rest sys (rows ++ r ∷ []) y)) (sym who) b }))
                  ])
              | inr (inr h) ↦ held_stays (Deliver number) fine step became sends state w.group w.target w.seq node h
            ]

        own : Seeks step ⊎ Ignores state first.mail step → (w : IsWaiting step.0) → is_node w.target ≡ true → IsSought words scenario begins set fact linked (rows ++ row_of player_table (client_seat (route_of begins.first) mine) rows (Deliver number) ∷ []) step.0 w.group w.target w.seq
        own (inl seeks) w node = sent_sought (Deliver number) fine step became sends seeks w
        own (inr d) w node =
            let e : state ≡ step.0 = sym (ap (λ (p : ClientStep). p.0) d.after_is) in
            subst (λ (x : ClientState). (w : IsWaiting x) → is_node w.target ≡ true → IsSought words scenario begins set fact linked (rows ++ row_of player_table (cseat mine) rows (Deliver number) ∷ []) x w.group w.target w.seq) e (ignored d) w node

        client_turn : AreSought words scenario begins set fact linked (rows ++ row_of player_table (client_seat (route_of begins.first) mine) rows (Deliver number) ∷ [])
        client_turn = all_sought (Deliver number) fine step became sends nodes (own (clients_of.response words scenario begins set fact linked rows t j mine is_mine born number fine))

      client_go : (fine : has_started rows (client_actor mine.client) ≡ false)
          → ((asks : Asks) (client : ClientState) → Among asks scenario.clients → value player_table (client_seat (route_of begins.first) asks) (rows ++ row_of player_table (client_seat (route_of begins.first) mine) rows Go ∷ []) ≡ Client client → (w : IsWaiting client) → is_node w.target ≡ true)
          → AreSought words scenario begins set fact linked (rows ++ row_of player_table (client_seat (route_of begins.first) mine) rows Go ∷ [])
      client_go fine nodes =
          let c = clients_of.c words scenario begins set fact linked rows t j mine is_mine born in
          let step : ClientStep = table c.client GoInput in
          let go_is = clients_of.go_is words scenario begins set fact linked rows t j mine is_mine born fine in
          let became = clients_of.became words scenario begins set fact linked rows t j mine is_mine born Go fine step go_is (clients_of.go_more words scenario begins set fact linked rows t j mine is_mine born fine) in
          let sends : (row_of player_table (cseat mine) rows Go).sent ≡ step.1 = ap (λ (p : Player × List Mail). p.1) go_is in
          all_sought Go fine step became sends nodes (λ w node. sent_sought Go fine step became sends (clients_of.seeks words scenario begins set fact linked rows t j mine is_mine born fine) w)

      client_event : (event : Event OrderLine) → IsInOrder (system_of as_nodes words scenario) rows (client_actor mine.client) event
          → ((asks : Asks) (client : ClientState) → Among asks scenario.clients → value player_table (client_seat (route_of begins.first) asks) (rows ++ row_of player_table (client_seat (route_of begins.first) mine) rows event ∷ []) ≡ Client client → (w : IsWaiting client) → is_node w.target ≡ true)
          → AreSought words scenario begins set fact linked (rows ++ row_of player_table (client_seat (route_of begins.first) mine) rows event ∷ [])
      client_event (Deliver number) fine nodes = client_turn number fine nodes
      client_event Go fine nodes = client_go fine nodes
      client_event _ fine nodes = absurd fine

    -- ---- each row

    pub sought_row : AreFarFromLast scenario set rows → (row : Row Mail OrderLine) → IsOrderly (system_of as_nodes words scenario) rows row
        → ((asks : Asks) (client : ClientState) → Among asks scenario.clients → value player_table (client_seat (route_of begins.first) asks) (rows ++ row ∷ []) ≡ Client client → (w : IsWaiting client) → is_node w.target ≡ true) → AreSought words scenario begins set fact linked (rows ++ row ∷ [])
    sought_row room row o nodes = elim (of_player words scenario begins rows row o) [
      | inl n ↦ (
          let row_is : row ≡ row_of player_table (nseat n.me) rows o.event = o.row_is ∙ ap (λ (seat : Seat Player). row_of player_table seat rows o.event) n.seat_is in
          let born = subst (λ (seat : Seat Player). find (λ (other : Seat Player). eqb other.who seat.who) (births as_nodes scenario) ≡ Some seat) n.seat_is o.born in
          subst (λ r. AreSought words scenario begins set fact linked (rows ++ r ∷ [])) (sym row_is) (node_event words scenario begins set fact linked rows t j sought room n.me n.one n.most born o.event (subst (λ (seat : Seat Player). IsInOrder sys rows seat.who o.event) n.seat_is o.in_order)))
      | inr d ↦ (
          let row_is : row ≡ row_of player_table (cseat d.asks) rows o.event = o.row_is ∙ ap (λ (seat : Seat Player). row_of player_table seat rows o.event) d.seat_is in
          let born = subst (λ (seat : Seat Player). find (λ (other : Seat Player). eqb other.who seat.who) (births as_nodes scenario) ≡ Some seat) d.seat_is o.born in
          subst (λ r. AreSought words scenario begins set fact linked (rows ++ r ∷ [])) (sym row_is)
          (client_event d.asks d.is_asks born o.event (subst (λ (seat : Seat Player). IsInOrder sys rows seat.who o.event) d.seat_is o.in_order)
          (subst (λ r. (asks : Asks) (client : ClientState) → Among asks scenario.clients → value player_table (client_seat (route_of begins.first) asks) (rows ++ r ∷ []) ≡ Client client → (w : IsWaiting client) → is_node w.target ≡ true) row_is nodes)))
    ]
