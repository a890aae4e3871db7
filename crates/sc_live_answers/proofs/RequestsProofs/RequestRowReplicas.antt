-- What a row of requests leaves of all replicas: one at most serves, and all others stay.
use Rattle.sc_live_plain.proofs.PlainRowsProofs.RowViews.{value_own}
use Rattle.std.proofs.Common.{◌≡◌, ℕ, ◌+◌, ◌<◌, ◌≤◌, eqb, true, List, [], ◌∷◌, ◌++◌, map, find, Some, ◌⊎◌, inl, inr, sym, ◌∙◌, ap, subst, arith}
use Rattle.std.proofs.lemmas.Bool.{cond-true, cases_eq}
use Rattle.sc_base.specs.Definitions.{Among, Each, client_actor, same_draw}
use Rattle.sc_node_table.specs.Values.{Draw, Op, Core, OrderLine, Mail, MailBody, Node, Seat, Event, Deliver, Go, Got, Row}
use Rattle.sc_base.proofs.Lemmas.{draw_is, same_name}
use Rattle.sc_actor.specs.declared.rows.Input.TheVariants.{Go as GoInput}
use Rattle.sc_actor.specs.Definitions.{mails, value, acted, input_of, System, row_of, waiting, kth}
use Rattle.sc_words.proofs.PaxosProofs.PaxosLemmas.{find_found}
use Rattle.sc_node_table.specs.NodeDefinitions.{NodeState, is_node, replica_of, node_table, ReplicaState, name_of, next, last_slot, mailed, slots_ahead}
use Rattle.sc_scenario.specs.declared.scenario.scenarios.Asks.{Asks}
use Rattle.sc_scenario.specs.declared.scenario.scenarios.Scenario.{Scenario}
use Rattle.sc_meaning.specs.sound.SoundDefinitions.{Player, player_table, node_seat, client_seat, route_of, births, system_of, as_nodes}
use Rattle.sc_live_orderly.specs.OrderlyDefinitions.{IsTidy, IsOrderly, IsInOrder}
use Rattle.sc_live_plain.specs.PlainDefinitions.{IsAskingNode, IsAsking, AreFarFromLast, Asks as AsksFor, mark, IsBelow, replica_at, next_in, view_at, IsGroupAt, Setting, IsSetting, IsCalmNode, ComesInTime, Frame, IsFrame, IsBegun, Requests, IsPlainBody, IsDue}
use Rattle.sc_live_plain.proofs.CalmProofs.RequestPhaseNodes as turns_of
use Rattle.sc_live_plain.proofs.PlainLemmas.{IsStage, client_number, Journal, replica_is, replica_none, replica_others, of_player, Turns, step_is, NodeRow, IsFor, for_node, mail_is, others_after, put_found, replica_row}
use Rattle.sc_live_answers.proofs.RequestsProofs.RequestRowEffects.{AsksAt, Serves, serves_row}

-- ---- a node

-- one of its replicas serves, and the others stay
pub record OneServes (frames : List Frame) (from : ℕ) (body : MailBody) (node after : NodeState) : Type 0 where
  pub frame : Frame
  pub is_frame : Among frame frames
  pub r : ReplicaState
  pub was : replica_of frame.core.id node.replicas ≡ Some r
  pub x : ReplicaState
  pub now : replica_of frame.core.id after.replicas ≡ Some x
  pub serves : Serves frame node.me body r x
  pub group : (slot : ℕ) → AsksAt body slot → mark frame.core.id (record { from = from; to = node.me; body = body }) ≡ AsksFor slot
  pub others : (name : Draw) → (name ≡ frame.core.id → ⊥) → replica_of name after.replicas ≡ replica_of name node.replicas

module _ (begun : Requests) (set : Setting) (fact : IsSetting set) (node : NodeState) (n : IsCalmNode begun set node) (mail : Mail) (to : mail.to ≡ node.me)
    (not_client : (client seq : ℕ) (op : Op) → begun client seq op → node.me ≡ client_actor client → ⊥) (due : ComesInTime begun set node mail) (k : NodeRow begun set.frames fact.are fact.apart node mail (node_table node (Got mail))) where
  frame_is : IsFrame k.frame
  frame_is = fact.are k.frame k.is_frame

  says : IsPlainBody begun k.frame mail.from node.me mail.body
  says = subst (λ who. IsPlainBody begun k.frame mail.from who mail.body) to k.says

  in_time : IsDue k.r mail.body × (next k.r + slots_ahead ≤ last_slot)
  in_time = due k.frame k.r k.is_frame k.says k.found

  abbrev x : ReplicaState
  x = (mailed mail.from mail.body (k.r, [])).0.0

  serves : Serves k.frame node.me mail.body k.r x
  serves = serves_row begun k.frame (fact.are k.frame k.is_frame) k.r mail.from in_time.1 node.me mail.body (n.plain.replicas k.frame k.r k.is_frame k.found) says in_time.0 not_client

  childless_is : (mailed mail.from mail.body (k.r, [])).1 ≡ []
  childless_is = (replica_row begun k.frame (fact.are k.frame k.is_frame) k.r mail.from in_time.1 node.me mail.body (n.plain.replicas k.frame k.r k.is_frame k.found) says in_time.0 not_client).1

  name_x : name_of x ≡ k.frame.core.id
  name_x = ap (λ (c : Core). c.id) serves.core_is ∙ draw_is (name_of k.r) k.frame.core.id (find_found (λ (y : ReplicaState). same_draw (name_of y) k.frame.core.id) node.replicas k.r k.found).1

  now : replica_of k.frame.core.id (node_table node (Got mail)).0.replicas ≡ Some x
  now =
      let for : IsFor begun set.frames fact.are fact.apart k.frame mail.from mail.to mail.body = for_node begun set.frames fact.are fact.apart k.frame frame_is mail.from mail.to mail.body k.says (λ c s o b e. not_client c s o b (sym to ∙ e)) in
      ap (λ (s : NodeState × List Mail). replica_of k.frame.core.id s.0.replicas) (mail_is begun set.frames fact.are fact.apart k.frame.core.id mail.from mail.body node k.r for.may for.group k.found childless_is)
      ∙ put_found k.frame.core.id x k.r node.replicas name_x k.found

  marked : (body : MailBody) (slot : ℕ) → IsPlainBody begun k.frame mail.from node.me body → AsksAt body slot → mark k.frame.core.id (record { from = mail.from; to = node.me; body = body }) ≡ AsksFor slot
  marked body slot s a =
      let group : a.0 ≡ k.frame.core.id = (subst (IsPlainBody begun k.frame mail.from node.me) a.3 s).0 in
      ap (λ (b : MailBody). mark k.frame.core.id (record { from = mail.from; to = node.me; body = b })) a.3 ∙ cond-true (same_draw a.0 k.frame.core.id) (AsksFor slot) _ (same_name a.0 k.frame.core.id group)

  pub one_serves : OneServes set.frames mail.from mail.body node (node_table node (Got mail)).0
  one_serves = record {
    frame = k.frame;
    is_frame = k.is_frame;
    r = k.r;
    was = k.found;
    x = x;
    now = now;
    serves = serves;
    group = λ slot a. marked mail.body slot says a;
    others = others_after begun set.frames fact.are fact.apart node mail (node_table node (Got mail)) n.plain k;
  }

-- ---- a row

-- no replica changes
abbrev pub AllStay : Scenario → Journal → Journal → Type 0
AllStay scenario rows later = (group : Draw) (node : ℕ) → replica_at scenario later group node ≡ replica_at scenario rows group node

-- one serves, and all others stay; what it is asked to accept is below what the leader's group has offered
pub record OneChanges (words : ℕ → ℕ → ℕ × ℕ) (scenario : Scenario) (frames : List Frame) (rows later : Journal) : Type 0 where
  pub frame : Frame
  pub is_frame : Among frame frames
  pub me : ℕ
  pub body : MailBody
  pub r : ReplicaState
  pub was : replica_at scenario rows frame.core.id me ≡ Some r
  pub x : ReplicaState
  pub now : replica_at scenario later frame.core.id me ≡ Some x
  pub serves : Serves frame me body r x
  pub group : IsGroupAt words scenario rows frame
  pub below : (slot : ℕ) → AsksAt body slot → slot < next group.r + group.taken
  pub others : (name : Draw) (node : ℕ) → ((name ≡ frame.core.id) × (node ≡ me) → ⊥) → replica_at scenario later name node ≡ replica_at scenario rows name node

abbrev pub RowLeaves : (ℕ → ℕ → ℕ × ℕ) → Scenario → List Frame → Journal → Journal → Type 0
RowLeaves words scenario frames rows later = AllStay scenario rows later ⊎ OneChanges words scenario frames rows later

module _ (words : ℕ → ℕ → ℕ × ℕ) (scenario : Scenario) (stage : IsStage scenario) (set : Setting) (fact : IsSetting set) (rows : Journal) (t : IsTidy rows) (j : IsAsking words scenario set stage.first rows) (room : AreFarFromLast scenario set rows) where
  abbrev sys : System Player Mail OrderLine
  sys = system_of as_nodes words scenario

  abbrev nseat : ℕ → Seat Player
  nseat me = node_seat as_nodes scenario.groups scenario.policy me

  abbrev cseat : Asks → Seat Player
  cseat asks = client_seat (route_of stage.first) asks

  module _ (me : ℕ) (one : 1 ≤ me) (most : me ≤ scenario.nodes) (born : find (λ (other : Seat Player). eqb other.who me) (births as_nodes scenario) ≡ Some (node_seat as_nodes scenario.groups scenario.policy me)) where
    abbrev n : IsAskingNode scenario set rows me
    n = turns_of.n words scenario stage set fact rows t j room me one most born

    number_is : is_node me ≡ true
    number_is = turns_of.number_is words scenario stage set fact rows t j room me one most born

    abbrev later : Event OrderLine → Journal
    later event = rows ++ row_of player_table (node_seat as_nodes scenario.groups scenario.policy me) rows event ∷ []

    -- by what the node is then
    at_me : (event : Event OrderLine) (after : NodeState) → value player_table (node_seat as_nodes scenario.groups scenario.policy me) (later event) ≡ Node after
        → (name : Draw) → replica_at scenario (later event) name me ≡ replica_of name after.replicas
    at_me event after v name = replica_is words scenario (later event) name me (Node after) number_is v

    all_stay : (event : Event OrderLine) → value player_table (node_seat as_nodes scenario.groups scenario.policy me) (later event) ≡ Node n.node → AllStay scenario rows (later event)
    all_stay event v name node = elim (cases_eq node me) [
      | inl here ↦ ap (replica_at scenario (later event) name) here ∙ (at_me event n.node v name ∙ (sym (replica_is words scenario rows name me (Node n.node) number_is n.fact) ∙ ap (replica_at scenario rows name) (sym here)))
      | inr ne ↦ replica_others words scenario rows (row_of player_table (nseat me) rows event) name node ne
    ]

    module _ (number : ℕ) (fine : kth (waiting (system_of as_nodes words scenario) rows (Some me)) 1 ≡ Some number) where
      abbrev mail : Mail
      mail = (turns_of.first words scenario stage set fact rows t j room me one most born number fine).mail

      abbrev to_me : mail.to ≡ n.node.me
      to_me = turns_of.to_me words scenario stage set fact rows t j room me one most born number fine

      became : value player_table (node_seat as_nodes scenario.groups scenario.policy me) (later (Deliver number)) ≡ Node (node_table n.node (Got mail)).0
      became = turns_of.became words scenario stage set fact rows t j room me one most born number fine

      by_turn : Turns (IsBegun scenario rows) set fact n.node n.calm mail to_me (turns_of.not_client words scenario stage set fact rows t j room me one most born) (turns_of.in_time words scenario stage set fact rows t j room me one most born number fine)
          → RowLeaves words scenario set.frames rows (later (Deliver number))
      by_turn (inr aside) =
          inl (all_stay (Deliver number) (became
          ∙ ap (λ (s : NodeState × List Mail). Node s.0) (step_is (IsBegun scenario rows) set fact n.node n.calm mail to_me (turns_of.not_client words scenario stage set fact rows t j room me one most born) (turns_of.in_time words scenario stage set fact rows t j room me one most born number fine) aside)))
      by_turn (inl k) =
          let o = one_serves (IsBegun scenario rows) set fact n.node n.calm mail to_me (turns_of.not_client words scenario stage set fact rows t j room me one most born) (turns_of.in_time words scenario stage set fact rows t j room me one most born number fine) k in
          let g = j.groups o.frame o.is_frame in
          let first = turns_of.first words scenario stage set fact rows t j room me one most born number fine in
          inr (record {
            frame = o.frame;
            is_frame = o.is_frame;
            me = me;
            body = mail.body;
            r = o.r;
            was = replica_is words scenario rows o.frame.core.id me (Node n.node) number_is n.fact ∙ o.was;
            x = o.x;
            now = at_me (Deliver number) (node_table n.node (Got mail)).0 became o.frame.core.id ∙ o.now;
            serves = subst (λ who. Serves o.frame who mail.body o.r o.x) n.me_is o.serves;
            group = g;
            below = λ slot a. (
                let under : Each (IsBelow (view_at scenario rows o.frame g.taken).bound) (mark o.frame.core.id first.mail ∷ map (mark o.frame.core.id) first.behind) = subst (Each (IsBelow (view_at scenario rows o.frame g.taken).bound)) (ap (map (mark o.frame.core.id)) first.first) (g.between.below me) in
                let asked : mark o.frame.core.id first.mail ≡ AsksFor slot = o.group slot a in
                let low = subst (IsBelow (view_at scenario rows o.frame g.taken).bound) asked under.0 in
                let there = ap next_in g.there in
                omega (arith, low, there));
            others = λ name node ne. elim (cases_eq node me) [
              | inr past ↦ replica_others words scenario rows (row_of player_table (nseat me) rows (Deliver number)) name node past
              | inl here ↦ ap (replica_at scenario (later (Deliver number)) name) here
                  ∙ (at_me (Deliver number) (node_table n.node (Got mail)).0 became name ∙ (o.others name (λ same. ne (same, here)) ∙ (sym (replica_is words scenario rows name me (Node n.node) number_is n.fact) ∙ ap (replica_at scenario rows name) (sym here))))
            ];
          })

      delivered : RowLeaves words scenario set.frames rows (later (Deliver number))
      delivered = by_turn (turns_of.turn words scenario stage set fact rows t j room me one most born number fine)

    went : RowLeaves words scenario set.frames rows (later Go)
    went =
        let acted_go : acted player_table (value player_table (nseat me) rows) (input_of {O = OrderLine} (mails rows) Go) ≡ (Node n.node, []) = ap (λ p. acted player_table p (Some GoInput)) n.fact in
        inl (all_stay Go (value_own rows (nseat me) Go ∙ ap (λ (p : Player × List Mail). p.0) acted_go))

    node_leaves : (event : Event OrderLine) → IsInOrder (system_of as_nodes words scenario) rows me event → RowLeaves words scenario set.frames rows (later event)
    node_leaves (Deliver number) fine = delivered number fine
    node_leaves Go fine = went
    node_leaves _ fine = absurd fine

  -- no client has a replica
  client_leaves : (asks : Asks) → Among asks scenario.clients → (row : Row Mail OrderLine) → row.who ≡ client_actor asks.client → RowLeaves words scenario set.frames rows (rows ++ row ∷ [])
  client_leaves asks a row who = inl (λ name node. elim (cases_eq node row.who) [
    | inl here ↦ (let none = ap is_node (here ∙ who) ∙ client_number words scenario stage asks a in replica_none words scenario (rows ++ row ∷ []) name node none ∙ sym (replica_none words scenario rows name node none))
    | inr ne ↦ replica_others words scenario rows row name node ne
  ])

  pub row_leaves : (row : Row Mail OrderLine) → IsOrderly (system_of as_nodes words scenario) rows row → RowLeaves words scenario set.frames rows (rows ++ row ∷ [])
  row_leaves row o = elim (of_player words scenario stage rows row o) [
    | inl n ↦ (
        let row_is : row ≡ row_of player_table (node_seat as_nodes scenario.groups scenario.policy n.me) rows o.event = o.row_is ∙ ap (λ (seat : Seat Player). row_of player_table seat rows o.event) n.seat_is in
        let born = subst (λ (seat : Seat Player). find (λ (other : Seat Player). eqb other.who seat.who) (births as_nodes scenario) ≡ Some seat) n.seat_is o.born in
        subst (λ r. RowLeaves words scenario set.frames rows (rows ++ r ∷ [])) (sym row_is) (node_leaves n.me n.one n.most born o.event (subst (λ (seat : Seat Player). IsInOrder sys rows seat.who o.event) n.seat_is o.in_order)))
    | inr d ↦ (
        let row_is : row ≡ row_of player_table (cseat d.asks) rows o.event = o.row_is ∙ ap (λ (seat : Seat Player). row_of player_table seat rows o.event) d.seat_is in
        client_leaves d.asks d.is_asks row (ap (λ (r : Row Mail OrderLine). r.who) row_is))
  ]
