-- Each row of a plain journal leaves a plain journal: it sends plain mail, and pays for its delivery.
use Rattle.std.proofs.Common.{◌≡◌, ℕ, ◌+◌, ◌*◌, ◌≤◌, eqb, true, false, cond, List, [], ◌∷◌, ◌++◌, find, Some, inl, inr, refl, sym, ◌∙◌, ap, subst, arith}
use Rattle.std.proofs.lemmas.Bool.{both_ways, cases_Bool, cases_eq}
use Rattle.sc_base.specs.Definitions.{Among, Each, client_actor, same_draw, is_member}
use Rattle.sc_base.proofs.Lemmas.{draw_is, same_name}
use Rattle.sc_node_table.specs.Values.{Draw, Op, OrderLine, Input, Mail, MailBody, Request, Accept, Accepted, Learn, Seat, Event, Deliver, Go, Got, Row, Node}
use Rattle.sc_actor.specs.declared.rows.Input.TheVariants.{Go as GoInput}
use Rattle.sc_actor.specs.Definitions.{mails, is_delivery, value, acted, input_of, System, row_of, waiting, kth, has_started}
use Rattle.sc_actor.proofs.Lemmas.{mails-snoc}
use Rattle.sc_words.proofs.PaxosProofs.PaxosLemmas.{Each-append, Each-weaker}
use Rattle.sc_client_table.specs.table.TableDefinitions.{Client as ClientState, request_of, table}
use Rattle.sc_client_table.proofs.TableProofs.TurnLemmas.{sends_in_turn}
use Rattle.sc_node_table.specs.NodeDefinitions.{replica_of, is_node, node_table, ReplicaState, Place, next, last_slot, slots_ahead}
use Rattle.sc_scenario.specs.declared.scenario.scenarios.Asks.{Asks}
use Rattle.sc_scenario.specs.declared.scenario.scenarios.Scenario.{Scenario}
use Rattle.sc_meaning.specs.sound.SoundDefinitions.{Player, player_table, node_seat, client_seat, route_of, births, system_of, as_nodes}
use Rattle.sc_live_orderly.specs.OrderlyDefinitions.{IsTidy, IsOrderly, IsInOrder, owed_at_birth, owed_by}
use Rattle.sc_live_orderly.proofs.OrderlyLemmas.{IsPaid, pays, count_push, TakesFirst}
use Rattle.sc_live_plain.specs.PlainDefinitions.{IsAskingNode, IsAskingClient, IsAsking, AreFarFromLast, replica_at, next_in, IsLinkedSetting, IsSetting, IsCalmMail, Frame, IsFrame, direct, player_owes, mail_owes, IsBegun, Requests, IsPlainMail}
use Rattle.sc_live_plain.proofs.CalmProofs.CalmNodes.{Turns}
use Rattle.sc_live_plain.proofs.CalmProofs.CalmRows.{node_pays}
use Rattle.sc_live_plain.proofs.CalmProofs.RequestPhaseNodes as nodes_of
use Rattle.sc_live_plain.proofs.CalmProofs.RequestPhaseClients as clients_of
use Rattle.sc_live_plain.proofs.CalmProofs.RequestPhaseClients.{asking_row}
use Rattle.sc_live_plain.proofs.PlainProofs.BegunRequestCounts.{begun_right}
use Rattle.sc_live_plain.proofs.PlainProofs.MorePlainRequests.{IsMore, mail_more}
use Rattle.sc_live_plain.proofs.PlainProofs.PlainBeginnings.{frames_of, IsStage}
use Rattle.sc_live_plain.proofs.PlainProofs.PlainClientPotential.{takes_paid, go_paid}
use Rattle.sc_live_plain.proofs.PlainProofs.PlainInduction.{owing_of, IsPlainJournal}
use Rattle.sc_live_plain.proofs.PlainProofs.PlainSetting.{plain_setting, home_leads, is_setting}
use Rattle.sc_live_plain.proofs.PlainProofs.PlainSteps.{node_number, client_number, begun_still, client_away, of_player}
use Rattle.sc_live_plain.proofs.PlainRowsProofs.NodeRows.{NodeRow, node_said, found_after, others_after}
use Rattle.sc_live_plain.proofs.PlainRowsProofs.ReplicaRows.{leading_at, Does}
use Rattle.sc_live_plain.proofs.PlainRowsProofs.RowViews.{Journal, replica_is, replica_others, same_replicas, value_own}

-- ---- slots

-- a replica executes at most four more slots in a row
next_grows : (begun : Requests) (frame : Frame) (fact : IsFrame frame) (me : ℕ) (r : ReplicaState) (from : ℕ) (body : MailBody) (place : Place) → Does begun frame fact me r from body place → next place.0 ≤ next r + 4
next_grows begun frame fact me r from (Request group client seq op) place response = elim (response.1) [
  | inl refused ↦ (let same = ap (λ (p : Place). next p.0) refused.place_is in omega (arith, same))
  | inr queued ↦ (let reached = queued.run.leads.reached in let most = queued.leader.slots.most in omega (arith, reached, most))
]
next_grows begun frame fact me r from (Accept group ballot slot command) place response = (let same = response.next_is in omega (arith, same))
next_grows begun frame fact me r from (Accepted group ballot slot) place response = (let reached = response.1.counted.run.leads.reached in let most = response.1.leader.slots.most in omega (arith, reached, most))
next_grows begun frame fact me r from (Learn group slot command) place response = (let up = response.next_is in omega (arith, up))
next_grows begun frame fact me r from _ place response = absurd response

-- ---- what clients send

-- a request that is calm goes to a leader
request_plain : (begun : Requests) (scenario : Scenario) (me : ℕ) (group : Draw) (target : ℕ) (request : ℕ × Op) → IsCalmMail begun (plain_setting scenario) (request_of me group target request) → IsPlainMail begun (frames_of scenario) (request_of me group target request)
request_plain begun scenario me group target request (inl p) = p
request_plain begun scenario me group target request (inr a) =
    (let h = home_leads scenario group target a.1 in record { frame = h.0; is_frame = h.1; says = (sym h.2, record { from_is = a.0; to_is = sym h.3; is_begun = a.2 }) })

-- so all that a client sends is plain
said_plain : (begun : Requests) (scenario : Scenario) (client : ClientState) (input : Input Mail OrderLine) → Each (IsCalmMail begun (plain_setting scenario)) (table client input).1 → Each (IsPlainMail begun (frames_of scenario)) (table client input).1
said_plain begun scenario client input e = elim (sends_in_turn client input).sends [
  | inl none ↦ subst (Each (IsPlainMail begun (frames_of scenario))) (sym none) tt
  | inr one ↦ subst (Each (IsPlainMail begun (frames_of scenario))) (sym one.4)
      (request_plain begun scenario (table client input).0.me one.0 one.1 one.2 (subst (Each (IsCalmMail begun (plain_setting scenario))) one.4 e).0, tt)
]

module _ (words : ℕ → ℕ → ℕ × ℕ) (scenario : Scenario) (stage : IsStage scenario) (linked : IsLinkedSetting (plain_setting scenario)) (few : 4 * owed_at_birth (system_of as_nodes words scenario) (owing_of scenario) + 16 ≤ last_slot)
    (rows : Journal) (t : IsTidy rows) (j : IsPlainJournal words scenario stage rows) where
  abbrev sys : System Player Mail OrderLine
  sys = system_of as_nodes words scenario

  abbrev nseat : ℕ → Seat Player
  nseat me = node_seat as_nodes scenario.groups scenario.policy me

  abbrev cseat : Asks → Seat Player
  cseat asks = client_seat (route_of stage.first) asks

  abbrev frames : List Frame
  frames = frames_of scenario

  fact : IsSetting (plain_setting scenario)
  fact = is_setting scenario stage

  -- ---- no leader is near the last slot

  lead_fits : (frame : Frame) → Among frame (frames_of scenario) → (1 ≤ frame.lead) × (frame.lead ≤ scenario.nodes)
  lead_fits frame a =
      let of = stage.are frame a in
      stage.fit frame a (frame.from + slots_ahead) frame.lead (ap (λ ms. is_member ms frame.lead) (of.later (frame.from + slots_ahead) (omega arith)) ∙ of.leads)

  lead_node : (frame : Frame) → Among frame (frames_of scenario) → is_node frame.lead ≡ true
  lead_node frame a = (let fits = lead_fits frame a in node_number words scenario stage frame.lead fits.0 fits.1)

  room : AreFarFromLast scenario (plain_setting scenario) rows
  room frame me a =
      let g = j.asking.groups frame a in
      let low = g.between.low me in
      let lead = j.slots frame a in
      let most = g.slots.most in
      let owes = j.owes in
      omega (arith, few, low, lead, most, owes)

  -- ---- what a row sends and pays

  pub record RowPays (seat : Seat Player) (event : Event OrderLine) : Type 0 where
    pub more : IsMore (IsBegun scenario rows) (IsBegun scenario (rows ++ row_of player_table seat rows event ∷ []))
    pub said : Each (IsPlainMail (IsBegun scenario (rows ++ row_of player_table seat rows event ∷ [])) (frames_of scenario)) (row_of player_table seat rows event).sent
    pub slots : (frame : Frame) → Among frame (frames_of scenario)
        → next_in (replica_at scenario (rows ++ row_of player_table seat rows event ∷ []) frame.core.id frame.lead) ≤ next_in (replica_at scenario rows frame.core.id frame.lead) + 4 * cond (is_delivery event) 1 0
    pub paid : IsPaid (system_of as_nodes words scenario) stage.seats_apart (owing_of scenario) rows seat event

  -- ---- a node

  module _ (me : ℕ) (one : 1 ≤ me) (most : me ≤ scenario.nodes) (born : find (λ (other : Seat Player). eqb other.who me) (births as_nodes scenario) ≡ Some (node_seat as_nodes scenario.groups scenario.policy me)) where
    -- no other requests are begun by it
    node_more : (event : Event OrderLine) → IsMore (IsBegun scenario rows) (IsBegun scenario (rows ++ row_of player_table (nseat me) rows event ∷ []))
    node_more event = begun_still words scenario stage rows (row_of player_table (nseat me) rows event) (λ asks a e. client_away words scenario stage me (node_number words scenario stage me one most) asks a e)

    module _ (number : ℕ) (fine : kth (waiting (system_of as_nodes words scenario) rows (Some me)) 1 ≡ Some number) where
      abbrev here : IsAskingNode scenario (plain_setting scenario) rows me
      here = nodes_of.n words scenario stage (plain_setting scenario) fact rows t j.asking room me one most born

      abbrev first : TakesFirst (system_of as_nodes words scenario) rows me number
      first = nodes_of.first words scenario stage (plain_setting scenario) fact rows t j.asking room me one most born number fine

      abbrev MailTurns : Type 0
      MailTurns =
          Turns (IsBegun scenario rows) (plain_setting scenario) fact here.node here.calm first.mail (nodes_of.to_me words scenario stage (plain_setting scenario) fact rows t j.asking room me one most born number fine)
          (nodes_of.not_client words scenario stage (plain_setting scenario) fact rows t j.asking room me one most born) (nodes_of.in_time words scenario stage (plain_setting scenario) fact rows t j.asking room me one most born number fine)

      -- a leader executes at most four more slots
      turn_slots : NodeRow (IsBegun scenario rows) frames fact.are fact.apart here.node first.mail (node_table here.node (Got first.mail)) → (frame : Frame) → Among frame (frames_of scenario)
          → next_in (replica_at scenario (rows ++ row_of player_table (nseat me) rows (Deliver number) ∷ []) frame.core.id frame.lead) ≤ next_in (replica_at scenario rows frame.core.id frame.lead) + 4 * 1
      turn_slots k frame a =
          let r = row_of player_table (nseat me) rows (Deliver number) in
          let after = node_table here.node (Got first.mail) in
          let became = nodes_of.became words scenario stage (plain_setting scenario) fact rows t j.asking room me one most born number fine in
          elim (cases_eq frame.lead me) [
            | inr ne ↦ (let same = ap next_in (replica_others words scenario rows r frame.core.id frame.lead ne) in omega (arith, same))
            | inl lead ↦ (
                let was : next_in (replica_at scenario rows frame.core.id frame.lead) ≡ next_in (replica_of frame.core.id here.node.replicas) =
                ap (λ who. next_in (replica_at scenario rows frame.core.id who)) lead ∙ ap next_in (replica_is words scenario rows frame.core.id me (Node here.node) (node_number words scenario stage me one most) here.fact) in
                let is : next_in (replica_at scenario (rows ++ r ∷ []) frame.core.id frame.lead) ≡ next_in (replica_of frame.core.id after.0.replicas) =
                ap (λ who. next_in (replica_at scenario (rows ++ r ∷ []) frame.core.id who)) lead ∙ ap next_in (replica_is words scenario (rows ++ r ∷ []) frame.core.id me (Node after.0) (node_number words scenario stage me one most) became) in
                elim (cases_Bool (same_draw frame.core.id k.frame.core.id)) [
                  | inl same ↦ (
                      let name = draw_is frame.core.id k.frame.core.id same in
                      let before : next_in (replica_of frame.core.id here.node.replicas) ≡ next k.r = ap (λ d. next_in (replica_of d here.node.replicas)) name ∙ ap next_in k.found in
                      let now : next_in (replica_of frame.core.id after.0.replicas) ≡ next k.place.0 =
                      ap (λ d. next_in (replica_of d after.0.replicas)) name ∙ ap next_in (found_after (IsBegun scenario rows) frames fact.are fact.apart here.node first.mail after here.calm.plain k) in
                      let low = next_grows (IsBegun scenario rows) k.frame (fact.are k.frame k.is_frame) here.node.me k.r first.mail.from first.mail.body k.place k.row.response in
                      omega (arith, was, is, before, now, low))
                  | inr other ↦ (
                      let stays = ap next_in (others_after (IsBegun scenario rows) frames fact.are fact.apart here.node first.mail after here.calm.plain k frame.core.id (λ e. both_ways (same_draw frame.core.id k.frame.core.id) other (same_name frame.core.id k.frame.core.id e))) in
                      omega (arith, was, is, stays))
                ])
          ]

      -- a replica of a group takes the mail; none steps aside, since leaders alone are asked
      turn_pays : MailTurns → RowPays (nseat me) (Deliver number)
      turn_pays (inl k) =
          let r = row_of player_table (nseat me) rows (Deliver number) in
          let after = node_table here.node (Got first.mail) in
          let sends = nodes_of.sends words scenario stage (plain_setting scenario) fact rows t j.asking room me one most born number fine in
          record {
            more = node_more (Deliver number);
            said = subst (Each (IsPlainMail (IsBegun scenario (rows ++ r ∷ [])) frames)) (sym sends)
                (Each-weaker (IsPlainMail (IsBegun scenario rows) frames) (IsPlainMail (IsBegun scenario (rows ++ r ∷ [])) frames) (mail_more (IsBegun scenario rows) (IsBegun scenario (rows ++ r ∷ [])) (node_more (Deliver number)) frames) after.1
                (node_said (IsBegun scenario rows) frames fact.are fact.apart here.node first.mail after here.calm.plain k));
            slots = turn_slots k;
            paid = λ mail sent. (
                let same : first.mail ≡ mail = (let e : Some first.mail ≡ Some mail = sym first.sent ∙ sent in cc) in
                subst (λ m. 1 + owed_by (owing_of scenario) (player_table (value player_table (nseat me) rows) (Got m)) ≤ player_owes frames (value player_table (nseat me) rows) + mail_owes m) same
                (subst (λ p. 1 + owed_by (owing_of scenario) (player_table p (Got first.mail)) ≤ player_owes frames p + mail_owes first.mail) (sym here.fact)
                (node_pays direct (λ group who. omega arith) (IsBegun scenario rows) frames fact.are fact.apart here.node first.mail here.calm.plain k (nodes_of.to_me words scenario stage (plain_setting scenario) fact rows t j.asking room me one most born number fine)
                (here.calm.own k.frame.core.id k.r k.found) (nodes_of.in_time words scenario stage (plain_setting scenario) fact rows t j.asking room me one most born number fine k.frame k.r k.is_frame k.says k.found).0
                (nodes_of.not_client words scenario stage (plain_setting scenario) fact rows t j.asking room me one most born))));
          }
      turn_pays (inr s) =
          let h = home_leads scenario s.group here.node.me s.home in
          let leads = leading_at (IsBegun scenario rows) h.0 (fact.are h.0 h.1) here.node.me s.r (sym h.3) (here.calm.plain.replicas h.0 s.r h.1 (ap (λ d. replica_of d here.node.replicas) h.2 ∙ s.found)) in
          absurd (both_ways s.r.running s.stopped leads.1.leader.running)

    node_starts : RowPays (nseat me) Go
    node_starts =
        let here = nodes_of.n words scenario stage (plain_setting scenario) fact rows t j.asking room me one most born in
        let acted_go : acted player_table (value player_table (nseat me) rows) (input_of {O = OrderLine} (mails rows) Go) ≡ (Node here.node, []) = ap (λ p. acted player_table p (Some GoInput)) here.fact in
        record {
          more = node_more Go;
          said = subst (Each (IsPlainMail (IsBegun scenario (rows ++ row_of player_table (nseat me) rows Go ∷ [])) frames)) (sym (ap (λ (p : Player × List Mail). p.1) acted_go)) tt;
          slots = λ frame a. (
              let became = value_own rows (nseat me) Go ∙ ap (λ (p : Player × List Mail). p.0) acted_go in
              let same = ap next_in (same_replicas words scenario rows me Go (Node here.node) (node_number words scenario stage me one most) here.fact became frame.core.id frame.lead) in
              omega (arith, same));
          paid = subst (λ p. owed_by (owing_of scenario) (player_table p GoInput) ≤ player_owes frames p) (sym here.fact) (omega arith);
        }

    node_row_pays : (event : Event OrderLine) → IsInOrder sys rows me event → RowPays (nseat me) event
    node_row_pays (Deliver number) fine = turn_pays number fine (nodes_of.turn words scenario stage (plain_setting scenario) fact rows t j.asking room me one most born number fine)
    node_row_pays Go fine = node_starts
    node_row_pays _ fine = absurd fine

  -- ---- a client

  module _ (asks : Asks) (a_ : Among asks scenario.clients) (born : find (λ (other : Seat Player). eqb other.who (client_actor asks.client)) (births as_nodes scenario) ≡ Some (client_seat (route_of stage.first) asks)) where
    abbrev c : IsAskingClient scenario (plain_setting scenario) stage.first rows asks
    c = clients_of.c words scenario stage (plain_setting scenario) fact linked rows t j.asking asks a_ born

    -- no leader is a client
    client_slots : (event : Event OrderLine) (frame : Frame) → Among frame (frames_of scenario)
        → next_in (replica_at scenario (rows ++ row_of player_table (cseat asks) rows event ∷ []) frame.core.id frame.lead) ≤ next_in (replica_at scenario rows frame.core.id frame.lead) + 4 * cond (is_delivery event) 1 0
    client_slots event frame a =
        let away : frame.lead ≡ client_actor asks.client → ⊥ = λ e. both_ways (is_node (client_actor asks.client)) (client_number words scenario stage asks a_) (ap is_node (sym e) ∙ lead_node frame a) in
        let same = ap next_in (replica_others words scenario rows (row_of player_table (cseat asks) rows event) frame.core.id frame.lead away) in
        omega (arith, same)

    client_takes : (number : ℕ) → kth (waiting (system_of as_nodes words scenario) rows (Some (client_actor asks.client))) 1 ≡ Some number → RowPays (cseat asks) (Deliver number)
    client_takes number fine =
        let first = clients_of.first words scenario stage (plain_setting scenario) fact linked rows t j.asking asks a_ born number fine in
        let is_calm = clients_of.is_calm words scenario stage (plain_setting scenario) fact linked rows t j.asking asks a_ born number fine in
        let got_is = clients_of.got_is words scenario stage (plain_setting scenario) fact linked rows t j.asking asks a_ born number fine in
        let got_more = clients_of.got_more words scenario stage (plain_setting scenario) fact linked rows t j.asking asks a_ born number fine in
        let took = clients_of.took words scenario stage (plain_setting scenario) fact linked rows t j.asking asks a_ born number fine in
        let now : Requests = IsBegun scenario (rows ++ row_of player_table (cseat asks) rows (Deliver number) ∷ []) in
        record {
          more = clients_of.more words scenario stage (plain_setting scenario) fact linked rows t j.asking asks a_ born (Deliver number) fine (table c.client (Got first.mail)) got_is got_more;
          said = subst (Each (IsPlainMail now frames)) (sym (ap (λ (p : Player × List Mail). p.1) got_is)) (said_plain now scenario c.client (Got first.mail) took.0.1);
          slots = client_slots (Deliver number);
          paid = λ mail sent. (
              let same : first.mail ≡ mail = (let e : Some first.mail ≡ Some mail = sym first.sent ∙ sent in cc) in
              subst (λ m. 1 + owed_by (owing_of scenario) (player_table (value player_table (cseat asks) rows) (Got m)) ≤ player_owes frames (value player_table (cseat asks) rows) + mail_owes m) same
              (subst (λ p. 1 + owed_by (owing_of scenario) (player_table p (Got first.mail)) ≤ player_owes frames p + mail_owes first.mail) (sym c.fact)
              (takes_paid scenario stage linked (IsBegun scenario rows) asks (has_started rows (client_actor asks.client)) c.client first.mail c.calm is_calm (first.receiver ∙ ap client_actor (sym c.calm.me_is))
              (begun_right scenario rows stage.once asks a_ c.client c.calm.me_is c.calm.requests_are))));
        }

    client_starts : has_started rows (client_actor asks.client) ≡ false → RowPays (cseat asks) Go
    client_starts fine =
        let go_is = clients_of.go_is words scenario stage (plain_setting scenario) fact linked rows t j.asking asks a_ born fine in
        let go_more = clients_of.go_more words scenario stage (plain_setting scenario) fact linked rows t j.asking asks a_ born fine in
        let went = clients_of.went words scenario stage (plain_setting scenario) fact linked rows t j.asking asks a_ born fine in
        let now : Requests = IsBegun scenario (rows ++ row_of player_table (cseat asks) rows Go ∷ []) in
        record {
          more = clients_of.more words scenario stage (plain_setting scenario) fact linked rows t j.asking asks a_ born Go fine (table c.client GoInput) go_is go_more;
          said = subst (Each (IsPlainMail now frames)) (sym (ap (λ (p : Player × List Mail). p.1) go_is)) (said_plain now scenario c.client GoInput went.0.1);
          slots = client_slots Go;
          paid = subst (λ p. owed_by (owing_of scenario) (player_table p GoInput) ≤ player_owes frames p) (sym c.fact)
              (go_paid scenario stage linked asks c.client (clients_of.fresh words scenario stage (plain_setting scenario) fact linked rows t j.asking asks a_ born fine));
        }

    client_row_pays : (event : Event OrderLine) → IsInOrder sys rows (client_actor asks.client) event → RowPays (cseat asks) event
    client_row_pays (Deliver number) fine = client_takes number fine
    client_row_pays Go fine = client_starts fine
    client_row_pays _ fine = absurd fine

  -- ---- each row that comes in order

  row_pays : (row : Row Mail OrderLine) (o : IsOrderly (system_of as_nodes words scenario) rows row) → RowPays o.seat o.event
  row_pays row o = elim (of_player words scenario stage rows row o) [
    | inl n ↦ (
        let born = subst (λ (seat : Seat Player). find (λ (other : Seat Player). eqb other.who seat.who) (births as_nodes scenario) ≡ Some seat) n.seat_is o.born in
        subst (λ (seat : Seat Player). RowPays seat o.event) (sym n.seat_is) (node_row_pays n.me n.one n.most born o.event (subst (λ (seat : Seat Player). IsInOrder sys rows seat.who o.event) n.seat_is o.in_order)))
    | inr d ↦ (
        let born = subst (λ (seat : Seat Player). find (λ (other : Seat Player). eqb other.who seat.who) (births as_nodes scenario) ≡ Some seat) d.seat_is o.born in
        subst (λ (seat : Seat Player). RowPays seat o.event) (sym d.seat_is) (client_row_pays d.asks d.is_asks born o.event (subst (λ (seat : Seat Player). IsInOrder sys rows seat.who o.event) d.seat_is o.in_order)))
  ]

  pub plain_row : (row : Row Mail OrderLine) → IsOrderly (system_of as_nodes words scenario) rows row → IsPlainJournal words scenario stage (rows ++ row ∷ [])
  plain_row row o =
      let r = row_of player_table o.seat rows o.event in
      let pay = row_pays row o in
      let was : Mail → Type 0 = IsPlainMail (IsBegun scenario rows) frames in
      let now : Mail → Type 0 = IsPlainMail (IsBegun scenario (rows ++ r ∷ [])) frames in
      let calm = asking_row words scenario stage (plain_setting scenario) fact linked rows t j.asking room row o in
      let paid = pays sys stage.seats_apart (owing_of scenario) rows o.seat o.event o.born o.in_order pay.paid in
      let owes = j.owes in
      subst (λ (x : Row Mail OrderLine). IsPlainJournal words scenario stage (rows ++ x ∷ [])) (sym o.row_is) (record {
        asking = subst (λ (x : Row Mail OrderLine). IsAsking words scenario (plain_setting scenario) stage.first (rows ++ x ∷ [])) o.row_is calm;
        sent = subst (Each now) (sym (mails-snoc rows r)) (Each-append now (mails rows) r.sent (Each-weaker was now (mail_more (IsBegun scenario rows) (IsBegun scenario (rows ++ r ∷ [])) pay.more frames) (mails rows) j.sent) pay.said);
        slots = λ frame a. (
            let count = count_push (λ (x : Row Mail OrderLine). is_delivery x.event) rows r (is_delivery o.event) refl in
            let low = j.slots frame a in
            let more = pay.slots frame a in
            omega (arith, count, low, more));
        owes = omega (arith, paid, owes);
      })
