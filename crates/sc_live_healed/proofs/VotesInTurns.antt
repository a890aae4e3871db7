-- From the tick of a node on, the votes for what it has in flight are counted or under way, delivery by delivery.
use Rattle.std.proofs.Common.{◌≡◌, ℕ, ◌-◌, ◌^◌, eqb, true, false, true≢false, cond, List, [], ◌∷◌, ◌++◌, filter, find, Option, Some, refl, sym, ◌∙◌, ap, subst, inl, inr, append-nil, append_assoc}
use Rattle.std.specs.Option.{option_map}
use Rattle.std.proofs.lemmas.Bool.{cond-true, cond-false, cases_Bool, eqb-true, eq-eqb}
use Rattle.sc_base.specs.Definitions.{Among, Each}
use Rattle.sc_node_table.specs.Values.{Ballot, Seat, Row, Event, Deliver, Got, Base, Command, OrderLine, Mail, Accept, Node}
use Rattle.sc_actor.specs.Definitions.{mails, acted, input_of, value, may_get, numbers_of, System}
use Rattle.sc_actor.proofs.Lemmas.{value-snoc}
use Rattle.sc_node_table.specs.NodeDefinitions.{NodeState, ReplicaState, replica_of, is_node, node_table}
use Rattle.sc_words.proofs.PaxosProofs.PaxosLemmas.{find_found, Among-filter}
use Rattle.sc_paxos_law.proofs.Lemmas.{Among-left, Among-right}
use Rattle.sc_scenario.specs.declared.scenario.scenarios.Scenario.{Scenario}
use Rattle.sc_scenario.specs.scenario.Definitions.{IsBounded}
use Rattle.sc_meaning.specs.sound.SoundDefinitions.{Player, as_nodes, births, player_table, system_of}
use Rattle.sc_live_orderly.specs.OrderlyDefinitions.{pending_mail, TakesLowest, AreDelivered}
use Rattle.sc_live_orderly.proofs.PendingMail.{takes_lowest}
use Rattle.sc_live_plain.proofs.PlainLemmas.{some_is}
use Rattle.sc_live_healed.specs.HealedDefinitions.{IsFixedMail, AllTakeSlots, mail_between, IsAnswered, VotesAreUnderWay, IsInBounds}
use Rattle.sc_live_healed.proofs.FixedJournals.{Rows, IsFixedPlayer, IsOf, fresh, given}
use Rattle.sc_live_healed.proofs.TakenJournals.{groups_rosters, PlayerTakes, IsTakenJournal}
use Rattle.sc_live_healed.proofs.VotesUnderWay.{answered_still, accept_answered, votes_after_mail}
use Rattle.sc_live_healed.proofs.VotesBesides.{votes_after_others}

-- a player that is a node
pub node_is : {one other : NodeState} → ◌≡◌ {A = Player} (Node one) (Node other) → one ≡ other
node_is e = cc

module _ (words : ℕ → ℕ → ℕ × ℕ) (scenario : Scenario) (bounded : IsBounded scenario) (off : scenario.policy ≡ false) (alive : ℕ → Type 0) where
  abbrev bases : List Base
  bases = scenario.groups

  abbrev pub S : System Player Mail OrderLine
  S = system_of as_nodes words scenario

  -- What these rows leave to the actors that are alive: they are nodes, may get mail, and their replicas take their slots, are in bounds and can elect themselves.
  pub record LetsVote (rows : Rows) : Type 0 where
    pub taken : IsTakenJournal scenario rows
    pub gets : (who : ℕ) → alive who → may_get (numbers_of S.births) rows who ≡ true
    pub nodes : (seat : Seat Player) → IsOf scenario seat → alive seat.who → (node : NodeState) × (value player_table seat rows ≡ Node node)
    pub bounds : (seat : Seat Player) → IsOf scenario seat → (node : NodeState) → value player_table seat rows ≡ Node node → (base : Base) (r : ReplicaState) → Among base bases → replica_of base.core.id node.replicas ≡ Some r → IsInBounds r
    pub rounds : (seat : Seat Player) → IsOf scenario seat → (node : NodeState) → value player_table seat rows ≡ Node node → Each (λ (r : ReplicaState). r.top.round ≡ 2 ^ 32 - 1 → ⊥) node.replicas

  -- the votes for what the actor of a seat has in flight are counted or under way after these rows
  abbrev pub VotesAt : Seat Player → Rows → Type 0
  VotesAt seat rows = (node : NodeState) → value player_table seat rows ≡ Node node → VotesAreUnderWay bases alive (pending_mail S rows) node

  -- what is known of a node after these rows
  pub node_fixed : (rows : Rows) → LetsVote rows → (seat : Seat Player) → IsOf scenario seat → (node : NodeState) → value player_table seat rows ≡ Node node → IsFixedPlayer bases seat.who (Node node)
  node_fixed rows l seat is_of node e = subst (IsFixedPlayer bases seat.who) e (l.taken.fixed.players seat is_of)

  pub node_takes : (rows : Rows) → LetsVote rows → (seat : Seat Player) → IsOf scenario seat → (node : NodeState) → value player_table seat rows ≡ Node node → AllTakeSlots bases node
  node_takes rows l seat is_of node e = subst (PlayerTakes bases) e (l.taken.takes seat is_of)

  module _ (are_nodes : (who : ℕ) → alive who → is_node who ≡ true) (seat : Seat Player) (is_of : IsOf scenario seat) (living : alive seat.who) where
    -- ---- one delivery

    module _ (rows : Rows) (row : Row Mail OrderLine) (l : LetsVote rows) (t : TakesLowest S rows row) (votes : VotesAt seat rows) where
      mail_fixed : IsFixedMail bases t.mail
      mail_fixed = given words scenario bounded off (mails rows) t.number t.mail l.taken.fixed.sent t.sent

      -- the receiver of the mail
      receiver_is : t.seat.who ≡ t.mail.to
      receiver_is = eqb-true t.seat.who t.mail.to (find_found (λ (other : Seat Player). eqb other.who t.mail.to) (births as_nodes scenario) t.seat t.born).1

      receiver_of_seat : IsOf scenario t.seat
      receiver_of_seat = subst (λ (who : ℕ). find (λ (other : Seat Player). eqb other.who who) (births as_nodes scenario) ≡ Some t.seat) (sym receiver_is) t.born

      row_who : row.who ≡ t.seat.who
      row_who = ap (λ (r : Row Mail OrderLine). r.who) t.row_is

      taken_is : (node : NodeState) → value player_table t.seat rows ≡ Node node → acted player_table (value player_table t.seat rows) (input_of (mails rows) (Deliver t.number)) ≡ (Node (node_table node (Got t.mail)).0, (node_table node (Got t.mail)).1)
      taken_is node e =
          ap (λ (p : Player). acted player_table p (input_of {O = OrderLine} (mails rows) (Deliver t.number))) e
          ∙ ap (λ (o : Option Mail). acted player_table (Node node) (option_map (λ (x : Mail). Got x) o)) t.sent

      sent_is : (node : NodeState) → value player_table t.seat rows ≡ Node node → row.sent ≡ (node_table node (Got t.mail)).1
      sent_is node e = ap (λ (r : Row Mail OrderLine). r.sent) t.row_is ∙ ap (λ (p : Player × List Mail). p.1) (taken_is node e)

      -- what is left, and what is sent to those that are alive
      abbrev more : List Mail
      more = pending_mail S (rows ++ row ∷ [])

      rest_stays : (x : Mail) → Among x t.others → Among x more
      rest_stays x a = subst (Among x) (sym t.then_) (Among-left x t.others (filter (λ (m : Mail). may_get (numbers_of S.births) rows m.to) row.sent) a)

      sent_stays : (node : NodeState) → value player_table t.seat rows ≡ Node node → (x : Mail) → Among x (node_table node (Got t.mail)).1 → alive x.to → Among x more
      sent_stays node e x a lives =
          subst (Among x) (sym t.then_) (Among-right x t.others (filter (λ (m : Mail). may_get (numbers_of S.births) rows m.to) row.sent)
          (Among-filter (λ (m : Mail). may_get (numbers_of S.births) rows m.to) row.sent x (subst (Among x) (sym (sent_is node e)) a) (l.gets x.to lives)))

      votes_before : (node : NodeState) → value player_table seat rows ≡ Node node → VotesAreUnderWay bases alive (t.mail ∷ t.others) node
      votes_before node e = subst (λ (ms : List Mail). VotesAreUnderWay bases alive ms node) t.first (votes node e)

      -- the node itself takes it
      itself : t.seat ≡ seat → (node : NodeState) → value player_table seat rows ≡ Node node → VotesAreUnderWay bases alive more (node_table node (Got t.mail)).0
      itself same node e =
          let k = node_fixed rows l seat is_of node e in
          let here : value player_table t.seat rows ≡ Node node = ap (λ (s : Seat Player). value player_table s rows) same ∙ e in
          let to : t.mail.to ≡ node.me = sym receiver_is ∙ (ap (λ (s : Seat Player). s.who) same ∙ sym k.0) in
          votes_after_mail bases (fresh words scenario bounded off) (groups_rosters scenario bounded) alive are_nodes node k.2 (node_takes rows l seat is_of node e) (subst alive (sym k.0) living)
          (l.bounds seat is_of node e) t.mail mail_fixed to t.others more rest_stays (sent_stays node here) (votes_before node e)

      -- another actor takes it
      answers : (lead : NodeState) → lead.me ≡ seat.who → (base : Base) → Among base bases → (ballot : Ballot) (slot : ℕ) (command : Command) → alive t.mail.to → t.mail ≡ mail_between lead.me t.mail.to (Accept base.core.id ballot slot command) → IsAnswered more base t.mail.to lead.me ballot slot
      answers lead mine base a ballot slot command lives fact =
          let at = l.nodes t.seat receiver_of_seat (subst alive (sym receiver_is) lives) in
          let k = node_fixed rows l t.seat receiver_of_seat at.0 at.1 in
          let to : t.mail.to ≡ at.0.me = sym receiver_is ∙ sym k.0 in
          let leads : alive lead.me = subst alive (sym mine) living in
          let given_ = accept_answered bases (fresh words scenario bounded off) at.0 k.2 (l.bounds t.seat receiver_of_seat at.0 at.1) t.mail mail_fixed to base a lead.me ballot slot command (are_nodes lead.me leads)
          (fact ∙ ap (λ (who : ℕ). mail_between lead.me who (Accept base.core.id ballot slot command)) to) in
          subst (λ (who : ℕ). IsAnswered more base who lead.me ballot slot) (sym to)
          (answered_still (node_table at.0 (Got t.mail)).1 more base at.0.me lead.me ballot slot (λ x b e. sent_stays at.0 at.1 x b (subst alive (sym e) leads)) given_)

      elsewhere : (t.seat.who ≡ seat.who → ⊥) → (node : NodeState) → value player_table seat rows ≡ Node node → VotesAreUnderWay bases alive more node
      elsewhere other node e =
          let k = node_fixed rows l seat is_of node e in
          votes_after_others bases alive node t.mail t.others more rest_stays (λ to. other (receiver_is ∙ (to ∙ k.0))) (answers node k.0) (votes_before node e)

      -- an actor by its number
      same_seat : t.seat.who ≡ seat.who → t.seat ≡ seat
      same_seat e = some_is (sym receiver_of_seat ∙ ap (λ (who : ℕ). find (λ (other : Seat Player). eqb other.who who) (births as_nodes scenario)) e ∙ is_of)

      value_is : value player_table seat (rows ++ row ∷ []) ≡ cond (eqb row.who seat.who) (acted player_table (value player_table seat rows) (input_of (mails rows) row.event)).0 (value player_table seat rows)
      value_is = value-snoc player_table seat rows row

      pub votes_delivered : VotesAt seat (rows ++ row ∷ [])
      votes_delivered node e = elim (cases_Bool (eqb row.who seat.who)) [
        | inl yes_ ↦ (
            let same : t.seat ≡ seat = same_seat (sym row_who ∙ eqb-true row.who seat.who yes_) in
            let was = l.nodes seat is_of living in
            let here : value player_table t.seat rows ≡ Node was.0 = ap (λ (s : Seat Player). value player_table s rows) same ∙ was.1 in
            let event_is : row.event ≡ Deliver t.number = ap (λ (r : Row Mail OrderLine). r.event) t.row_is in
            let now : value player_table seat (rows ++ row ∷ []) ≡ Node (node_table was.0 (Got t.mail)).0 =
            value_is ∙ (cond-true (eqb row.who seat.who) (acted player_table (value player_table seat rows) (input_of (mails rows) row.event)).0 (value player_table seat rows) yes_
            ∙ (ap (λ (event : Event OrderLine). (acted player_table (value player_table seat rows) (input_of (mails rows) event)).0) event_is
            ∙ (ap (λ (s : Seat Player). (acted player_table (value player_table s rows) (input_of {O = OrderLine} (mails rows) (Deliver t.number))).0) (sym same) ∙ ap (λ (p : Player × List Mail). p.0) (taken_is was.0 here)))) in
            let fact : (node_table was.0 (Got t.mail)).0 ≡ node = node_is (sym now ∙ e) in
            subst (λ (n : NodeState). VotesAreUnderWay bases alive more n) fact (itself same was.0 was.1))
        | inr no_ ↦ (
            let other : t.seat.who ≡ seat.who → ⊥ = λ same. true≢false (sym (eq-eqb row.who seat.who (row_who ∙ same)) ∙ no_) in
            let now : value player_table seat rows ≡ Node node = sym (value_is ∙ cond-false (eqb row.who seat.who) (acted player_table (value player_table seat rows) (input_of (mails rows) row.event)).0 (value player_table seat rows) no_) ∙ e in
            elsewhere other node now)
      ]

    -- ---- all deliveries of a line

    pub votes_all_delivered : (rows deliveries : List (Row Mail OrderLine)) → ((first later : List (Row Mail OrderLine)) → deliveries ≡ first ++ later → LetsVote (rows ++ first)) → AreDelivered S rows deliveries → VotesAt seat rows → VotesAt seat (rows ++ deliveries)
    votes_all_delivered rows [] lets d votes = subst (VotesAt seat) (sym (append-nil rows)) votes
    votes_all_delivered rows (row ∷ more) lets d votes =
        let l : LetsVote rows = subst LetsVote (append-nil rows) (lets [] (row ∷ more) refl) in
        let now = votes_delivered rows row l (takes_lowest S rows row d.0) votes in
        subst (VotesAt seat) (append_assoc rows (row ∷ []) more)
        (votes_all_delivered (rows ++ row ∷ []) more (λ first later e. subst LetsVote (sym (append_assoc rows (row ∷ []) first)) (lets (row ∷ first) later (ap (λ (rs : List (Row Mail OrderLine)). row ∷ rs) e))) d.1 now)
