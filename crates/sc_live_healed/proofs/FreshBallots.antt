-- In each lawful journal without orders and policy ballots are fresh: no acceptor of a group has promised a ballot of a node in a round above the greatest one that the node's replica has seen, and the node asks in no such round.
use Rattle.std.proofs.Common.{◌≡◌, ℕ, zero, suc, ◌+◌, ◌*◌, ◌<◌, ◌≤◌, eqb, Bool, false, List, [], ◌∷◌, ◌++◌, cond, length, map, filter, find, Option, Some, None, inl, inr, refl, sym, ◌∙◌, ap, subst, arith}
use Rattle.std.specs.Option.{option_map}
use Rattle.std.proofs.lemmas.Bool.{cond_both, cond-true, eqb-true, eq-eqb, cases_lt}
use Rattle.sc_base.specs.Definitions.{Among, Each, is_member}
use Rattle.sc_words.proofs.PaxosProofs.PaxosLemmas.{Each-among, Each-append, Each-weaker, find_found}
use Rattle.sc_node_table.specs.Values.{Ballot, Draw, Seat, Row, Event, Deliver, Drop, Again, Crash, Input, Got, Base, Core, OrderLine, Mail, MailBody, Prepare, Accept, Node, Client}
use Rattle.sc_actor.specs.declared.rows.Event.TheVariants.{Tick as TickEvent, Go as GoEvent, Told as ToldEvent}
use Rattle.sc_actor.specs.declared.rows.Input.TheVariants.{Tick, Go, Told as ToldInput}
use Rattle.sc_actor.specs.Definitions.{mails, acted, input_of, value, IsStep}
use Rattle.sc_actor.proofs.Lemmas.{lawful-induction, lawful-prefix, value-snoc, mails-snoc, find-who}
use Rattle.sc_node_table.specs.NodeDefinitions.{NodeState, ReplicaState, name_of, group_of_mail, mailed, ticked, born_replica, born_replicas, slots_ahead}
use Rattle.sc_scenario.specs.declared.scenario.drafts.GroupLine.{GroupLine}
use Rattle.sc_scenario.specs.declared.scenario.scenarios.Scenario.{Scenario}
use Rattle.sc_scenario.specs.scenario.Definitions.{IsBounded, base_at, bases_up_to}
use Rattle.sc_meaning.specs.sound.SoundDefinitions.{Lawful, Player, as_nodes, births, player_table, schedule, system_of}
use Rattle.sc_live_orderly.specs.OrderlyDefinitions.{is_told}
use Rattle.sc_law_groups.proofs.WholeProofs.WholeLemmas.{group_place}
use Rattle.sc_live_healed.proofs.SeatBirths.{seat_born}
use Rattle.sc_live_healed.proofs.FixedNodes.{AreFresh, MayTake}
use Rattle.sc_live_healed.proofs.FixedBirths.{groups_fresh}
use Rattle.sc_live_healed.proofs.FixedJournals.{Rows, IsOf, IsFixedPlayer, Brings, AreWithoutOrders, untold_parts, brings, given}
use Rattle.sc_live_healed.proofs.MovedReplicas.{AsksWithin, Brings as BringsBallot, within_more}
use Rattle.sc_live_healed.proofs.NearJournals.{IsNearJournal, journal_near}
use Rattle.sc_live_healed.proofs.FixedGroupMail.{mail_taken}
use Rattle.sc_live_healed.proofs.NodeTicks.{NoneNamed, OneNamed, put_one, tick_one}
use Rattle.sc_live_healed.proofs.ActorRows.{View, HasOne, Rises, PlayerRow, player_rows}
use Rattle.sc_live_healed.proofs.DeliveredViews.{view, seat_view}
use Rattle.sc_live_healed.specs.HealedDefinitions.{IsFixedBody, IsFixedMail}

-- ---- one group of a name

abbrev base_name : Base → Draw
base_name base = base.core.id

push_none : (name : Draw) (bases : List Base) (base : Base) → NoneNamed base_name name bases → (base_name base ≡ name → ⊥) → NoneNamed base_name name (bases ++ base ∷ [])
push_none name bases base n other = Each-append (λ (b : Base). base_name b ≡ name → ⊥) bases (base ∷ []) n (other, tt)

push_other : (name : Draw) (bases : List Base) (base : Base) → OneNamed base_name name bases → (base_name base ≡ name → ⊥) → OneNamed base_name name (bases ++ base ∷ [])
push_other name [] base n other = inl tt
push_other name (b ∷ bases) base (inl none) other = inl (push_none name bases base none other)
push_other name (b ∷ bases) base (inr one) other = inr (one.0, push_other name bases base one.1 other)

push_first : (name : Draw) (bases : List Base) (base : Base) → NoneNamed base_name name bases → OneNamed base_name name (bases ++ base ∷ [])
push_first name [] base n = inl tt
push_first name (b ∷ bases) base n = inr (n.0, push_first name bases base n.1)

other_place : (lines : List GroupLine) (n k : ℕ) → (n ≡ k → ⊥) → base_name (base_at lines n) ≡ base_name (base_at lines k) → ⊥
other_place lines n k other same = (let counts : n + 1 ≡ k + 1 = ap (λ (d : Draw). d.count) same in other (omega (arith, counts)))

none_before : (lines : List GroupLine) (n k : ℕ) → n ≤ k → NoneNamed base_name (base_name (base_at lines k)) (bases_up_to lines n)
none_before lines zero k low = tt
none_before lines (suc n) k low =
    push_none (base_name (base_at lines k)) (bases_up_to lines n) (base_at lines n) (none_before lines n k (omega (arith, low))) (other_place lines n k (λ same. omega (arith, low, same)))

one_before : (lines : List GroupLine) (n k : ℕ) → k < n → OneNamed base_name (base_name (base_at lines k)) (bases_up_to lines n)
one_before lines zero k low = absurd (omega (arith, low))
one_before lines (suc n) k low = elim (cases_lt k n) [
  | inl under ↦ push_other (base_name (base_at lines k)) (bases_up_to lines n) (base_at lines n) (one_before lines n k under) (other_place lines n k (λ same. omega (arith, under, same)))
  | inr over_ ↦ push_first (base_name (base_at lines k)) (bases_up_to lines n) (base_at lines n) (none_before lines n k over_)
]

born_none : (name : Draw) (me : ℕ) (bases : List Base) → NoneNamed base_name name bases → NoneNamed name_of name (born_replicas slots_ahead me bases)
born_none name me [] n = tt
born_none name me (base ∷ bases) n =
    cond_both (is_member base.core.members me) (base ∷ filter (λ (b : Base). is_member b.core.members me) bases) (filter (λ (b : Base). is_member b.core.members me) bases)
    (λ (bs : List Base). NoneNamed name_of name (map (λ (b : Base). born_replica slots_ahead me b) bs)) (λ _. (n.0, born_none name me bases n.1)) (λ _. born_none name me bases n.1)

born_one : (name : Draw) (me : ℕ) (bases : List Base) → OneNamed base_name name bases → OneNamed name_of name (born_replicas slots_ahead me bases)
born_one name me [] n = tt
born_one name me (base ∷ bases) n =
    cond_both (is_member base.core.members me) (base ∷ filter (λ (b : Base). is_member b.core.members me) bases) (filter (λ (b : Base). is_member b.core.members me) bases)
    (λ (bs : List Base). OneNamed name_of name (map (λ (b : Base). born_replica slots_ahead me b) bs))
    (λ _. elim n [ inl none ↦ inl (born_none name me bases none) | inr one ↦ inr (one.0, born_one name me bases one.1) ])
    (λ _. elim n [ inl none ↦ weaker (born_replicas slots_ahead me bases) (born_none name me bases none) | inr one ↦ born_one name me bases one.1 ])
  where
    weaker : (rs : List ReplicaState) → NoneNamed name_of name rs → OneNamed name_of name rs
    weaker [] none = tt
    weaker (r ∷ rs) none = inl none.1

-- ---- journals

-- a ballot that a mail brings is of its sender
brings_own : (base : Base) (from to : ℕ) (body : MailBody) (ballot : Ballot) → IsFixedBody base from to body → BringsBallot body ballot → ballot.node ≡ from
brings_own base from to (Prepare group asked from_slot) ballot h b = ap (λ (x : Ballot). x.node) (sym b) ∙ h.2
brings_own base from to (Accept group asked slot command) ballot h b = ap (λ (x : Ballot). x.node) (sym b) ∙ h.2
brings_own base from to _ ballot h b = absurd b

-- and its round is within those of the mail
brings_within : (round : ℕ) (body : MailBody) (ballot : Ballot) → AsksWithin round body → BringsBallot body ballot → ballot.round ≤ round
brings_within round (Prepare group asked from_slot) ballot a b = subst (λ (x : Ballot). x.round ≤ round) b a
brings_within round (Accept group asked slot command) ballot a b = subst (λ (x : Ballot). x.round ≤ round) b a
brings_within round _ ballot a b = absurd b

module _ (words : ℕ → ℕ → ℕ × ℕ) (scenario : Scenario) (bounded : IsBounded scenario) (off : scenario.policy ≡ false) (base : Base) (among : Among base scenario.groups) where
  abbrev bases : List Base
  bases = scenario.groups

  fresh : AreFresh bases
  fresh = groups_fresh scenario bounded

  abbrev seen : Rows → ℕ → Option ReplicaState
  seen rows who = view words scenario bounded base among rows who

  abbrev ViewOf : Player → Option ReplicaState
  ViewOf p = View words scenario bounded off base among p

  abbrev One : Player → Type 0
  One p = HasOne words scenario bounded off base among p

  -- a mail of the group asks within what its sender has seen
  abbrev pub AsksSeen : Rows → Mail → Type 0
  AsksSeen rows mail = group_of_mail mail.body ≡ Some base.core.id → (r : ReplicaState) → seen rows mail.from ≡ Some r → AsksWithin r.top.round mail.body

  -- After these rows no node has two replicas of the group, no promise is above what its node has seen, and no question is.
  pub record HasFreshBallots (rows : Rows) : Type 0 where
    pub once : (seat : Seat Player) → IsOf scenario seat → One (value player_table seat rows)
    pub promises : (who m : ℕ) (r x : ReplicaState) → seen rows who ≡ Some r → seen rows m ≡ Some x → x.acceptor.promised.node ≡ who → x.acceptor.promised.round ≤ r.top.round
    pub asks : Each (AsksSeen rows) (mails rows)

  -- ---- births

  abbrev InFirstRound : Player → Type 0
  InFirstRound (Node node) = Each (λ (r : ReplicaState). (r.top.round ≡ 1) × (r.acceptor.promised.round ≡ 1)) node.replicas
  InFirstRound (Client client) = Unit {0}

  abbrev IsBornSeat : Seat Player → Type 0
  IsBornSeat seat = InFirstRound seat.actor × One seat.actor

  rounds_born : (me : ℕ) (some : List Base) → Each (λ (r : ReplicaState). (r.top.round ≡ 1) × (r.acceptor.promised.round ≡ 1)) (born_replicas slots_ahead me some)
  rounds_born me [] = tt
  rounds_born me (b ∷ some) =
      cond_both (is_member b.core.members me) (b ∷ filter (λ (x : Base). is_member x.core.members me) some) (filter (λ (x : Base). is_member x.core.members me) some)
      (λ (bs : List Base). Each (λ (r : ReplicaState). (r.top.round ≡ 1) × (r.acceptor.promised.round ≡ 1)) (map (λ (x : Base). born_replica slots_ahead me x) bs)) (λ _. ((refl, refl), rounds_born me some)) (λ _. rounds_born me some)

  one_base : OneNamed base_name base.core.id bases
  one_base =
      let p = group_place scenario bounded base among in
      subst (λ (bs : List Base). OneNamed base_name base.core.id bs) (sym bounded.groups)
      (subst (λ (b : Base). OneNamed base_name b.core.id (bases_up_to bounded.starts (length bounded.starts))) p.2 (one_before bounded.starts (length bounded.starts) p.0 p.1))

  seats_born : (seat : Seat Player) → IsOf scenario seat → IsBornSeat seat
  seats_born = seat_born IsBornSeat scenario (λ n. (rounds_born n bases, born_one base.core.id n bases one_base)) (λ b a c. (tt, tt))

  -- ---- seats

  -- the seat of a replica that is seen
  pub seat_seen : (rows : Rows) (who : ℕ) (r : ReplicaState) → seen rows who ≡ Some r → (seat : Seat Player) × IsOf scenario seat × (seat.who ≡ who) × (ViewOf (value player_table seat rows) ≡ Some r)
  seat_seen rows who r e = by (find (λ (other : Seat Player). eqb other.who who) (births as_nodes scenario)) refl e
    where
      by : (o : Option (Seat Player)) → find (λ (other : Seat Player). eqb other.who who) (births as_nodes scenario) ≡ o → seat_view words scenario bounded base among rows o ≡ Some r
          → (seat : Seat Player) × IsOf scenario seat × (seat.who ≡ who) × (ViewOf (value player_table seat rows) ≡ Some r)
      by None f q = absurd (cc)
      by (Some seat) f q =
          let fact : seat.who ≡ who = find-who (births as_nodes scenario) who seat f in
          (seat, ap (λ (n : ℕ). find (λ (other : Seat Player). eqb other.who n) (births as_nodes scenario)) fact ∙ f, fact, q)

  pub seen_at : (rows : Rows) (seat : Seat Player) → IsOf scenario seat → seen rows seat.who ≡ ViewOf (value player_table seat rows)
  seen_at rows seat is_of = ap (λ (o : Option (Seat Player)). seat_view words scenario bounded base among rows o) is_of

  first_rounds : (who : ℕ) (r : ReplicaState) → seen [] who ≡ Some r → (r.top.round ≡ 1) × (r.acceptor.promised.round ≡ 1)
  first_rounds who r e = (let s = seat_seen [] who r e in at s.0.actor s.3 (seats_born s.0 s.1).0)
    where
      at : (p : Player) → ViewOf p ≡ Some r → InFirstRound p → (r.top.round ≡ 1) × (r.acceptor.promised.round ≡ 1)
      at (Client client) q k = absurd (cc)
      at (Node node) q k = Each-among (λ (x : ReplicaState). (x.top.round ≡ 1) × (x.acceptor.promised.round ≡ 1)) node.replicas r k (find_found _ node.replicas r q).0

  first_ballots : HasFreshBallots []
  first_ballots = record {
    once = λ seat is_of. (seats_born seat is_of).1;
    promises = λ who m r x e f same. (let one = (first_rounds who r e).0 in let two = (first_rounds m x f).1 in omega (arith, one, two));
    asks = tt;
  }

  -- ---- one row more

  -- a node keeps one replica of the group at most
  one_takes : (who : ℕ) (p : Player) (input : Input Mail OrderLine) → MayTake bases who input → IsFixedPlayer bases who p → One p → One (player_table p input).0
  one_takes who (Client client) input may k one = tt
  one_takes who (Node node) (Got mail) may k one = elim (mail_taken bases fresh node k.2 mail may.0 (may.1 ∙ sym k.0)) [
    | inl p ↦ subst (λ (step : NodeState × List Mail). One (Node step.0)) (sym p.step) one
    | inr t ↦ subst (λ (step : NodeState × List Mail). One (Node step.0)) (sym t.step) (put_one base.core.id t.base.core.id (mailed mail.from mail.body (t.replica, [])).0.0 node.replicas (ap (λ (core : Core). core.id) t.after.fixed.group) one)
  ]
  one_takes who (Node node) Tick may k one =
      subst (λ (on : Bool). OneNamed name_of base.core.id (ticked on node.draws node.replicas []).0) (sym k.1) (tick_one bases fresh node k.2 base among base.core.id node.draws node.replicas [] k.2.replicas one)
  one_takes who (Node node) Go may k one = one
  one_takes who (Node node) (ToldInput line) may k one = absurd may

  one_acts : (sent : List Mail) (who : ℕ) (p : Player) (event : Event OrderLine) → Each (IsFixedMail bases) sent → Brings sent who event → IsFixedPlayer bases who p → One p → One (acted player_table p (input_of sent event)).0
  one_acts sent who p (Deliver number) s b k one =
      subst (λ (o : Option Mail). One (acted player_table p (option_map Got o)).0) (sym b.1) (one_takes who p (Got b.0) (given words scenario bounded off sent number b.0 s b.1, b.2) k one)
  one_acts sent who p TickEvent s b k one = one_takes who p Tick tt k one
  one_acts sent who p GoEvent s b k one = one_takes who p Go tt k one
  one_acts sent who p (ToldEvent line) s b k one = absurd b
  one_acts sent who p Crash s b k one = one
  one_acts sent who p (Drop number) s b k one = one
  one_acts sent who p (Again number) s b k one = one

  module _ (rows : Rows) (row : Row Mail OrderLine) (without_orders : is_told row.event ≡ false) (bound : ℕ) (near : IsNearJournal scenario bound rows) (now : HasFreshBallots rows) (step : IsStep (system_of as_nodes words scenario) rows row) where
    abbrev later : Rows
    later = rows ++ row ∷ []

    abbrev acts : Seat Player → Player × List Mail
    acts seat = acted player_table (value player_table seat rows) (input_of (mails rows) row.event)

    brings_it : (seat : Seat Player) → row.who ≡ seat.who → Brings (mails rows) seat.who row.event
    brings_it seat same = brings words scenario bounded off rows row without_orders near.fixed seat.who same step

    player_row : (seat : Seat Player) → IsOf scenario seat → row.who ≡ seat.who → PlayerRow words scenario bounded off base among (mails rows) seat.who (value player_table seat rows) (acts seat)
    player_row seat is_of same =
        player_rows words scenario bounded off base among (mails rows) seat.who (value player_table seat rows) row.event bound near.fixed.sent (brings_it seat same) (near.fixed.players seat is_of) (near.players seat is_of) (now.once seat is_of)

    value_is : (seat : Seat Player) → value player_table seat later ≡ cond (eqb row.who seat.who) (acts seat).0 (value player_table seat rows)
    value_is seat = value-snoc player_table seat rows row

    -- each replica rises
    pub rises : (who : ℕ) (r : ReplicaState) → seen later who ≡ Some r → (before : ReplicaState) × (seen rows who ≡ Some before) × Rises words scenario bounded off base among (mails rows) before r
    rises who r e =
        let s = seat_seen later who r e in
        let from : seen rows who ≡ ViewOf (value player_table s.0 rows) = ap (seen rows) (sym s.2) ∙ seen_at rows s.0 s.1 in
        let up = cond_both (eqb row.who s.0.who) (acts s.0).0 (value player_table s.0 rows)
        (λ (p : Player). ViewOf p ≡ Some r → (before : ReplicaState) × (ViewOf (value player_table s.0 rows) ≡ Some before) × Rises words scenario bounded off base among (mails rows) before r)
        (λ t f. (player_row s.0 s.1 (eqb-true row.who s.0.who t)).rises r f) (λ _ f. (r, f, (omega arith, inl refl))) (ap ViewOf (sym (value_is s.0)) ∙ s.3) in
        (up.0, from ∙ up.1, up.2)

    row_asks : Each (AsksSeen later) row.sent
    row_asks = by step
      where
        by : IsStep (system_of as_nodes words scenario) rows row → Each (AsksSeen later) row.sent
        by (inr step) = subst (Each (AsksSeen later)) (sym (ap (λ (r : Row Mail OrderLine). r.sent) step.row_is)) tt
        by (inl step) =
            let event_is : row.event ≡ step.event = ap (λ (r : Row Mail OrderLine). r.event) step.row_is in
            let who_is : row.who ≡ step.seat.who = ap (λ (r : Row Mail OrderLine). r.who) step.row_is in
            let sent_is : row.sent ≡ (acts step.seat).1 = ap (λ (r : Row Mail OrderLine). r.sent) step.row_is ∙ ap (λ (event : Event OrderLine). (acted player_table (value player_table step.seat rows) (input_of (mails rows) event)).1) (sym event_is) in
            let after_is : value player_table step.seat later ≡ (acts step.seat).0 = value_is step.seat ∙ cond-true (eqb row.who step.seat.who) (acts step.seat).0 (value player_table step.seat rows) (eq-eqb row.who step.seat.who who_is) in
            subst (Each (AsksSeen later)) (sym sent_is)
            (Each-weaker _ (AsksSeen later)
            (λ mail a of r e. elim (a of) [
              | inl any_ ↦ any_ r.top.round
              | inr own ↦ own.1 r (ap ViewOf (sym after_is) ∙ (sym (seen_at later step.seat step.born) ∙ (ap (seen later) (sym own.0) ∙ e)))
            ]) (acts step.seat).1 (player_row step.seat step.born who_is).asks)

    -- a promise of a node's ballot is not above what the node has seen before the row
    pub promised_before : (who m : ℕ) (r x : ReplicaState) → seen rows who ≡ Some r → seen later m ≡ Some x → x.acceptor.promised.node ≡ who → x.acceptor.promised.round ≤ r.top.round
    promised_before who m r x e f same =
        let other = rises m x f in
        elim other.2.1 [
          | inl kept ↦ (let was = now.promises who m r other.0 e other.1 (ap (λ (b : Ballot). b.node) (sym kept) ∙ same) in let rounds = ap (λ (b : Ballot). b.round) kept in omega (arith, was, rounds))
          | inr b ↦ (
              let fixed : IsFixedMail bases b.0 = Each-among (IsFixedMail bases) (mails rows) b.0 near.fixed.sent b.1 in
              let from : x.acceptor.promised.node ≡ b.0.from = brings_own fixed.base b.0.from b.0.to b.0.body x.acceptor.promised fixed.says b.3 in
              let asked = Each-among (AsksSeen rows) (mails rows) b.0 now.asks b.1 b.2 r (ap (seen rows) (sym from ∙ same) ∙ e) in
              brings_within r.top.round b.0.body x.acceptor.promised asked b.3)
        ]

    next_promise : (who m : ℕ) (r x : ReplicaState) → seen later who ≡ Some r → seen later m ≡ Some x → x.acceptor.promised.node ≡ who → x.acceptor.promised.round ≤ r.top.round
    next_promise who m r x e f same =
        let up = rises who r e in
        let top = up.2.0 in
        let low = promised_before who m up.0 x up.1 f same in omega (arith, low, top)

    next_ballots : HasFreshBallots later
    next_ballots = record {
      once = λ seat is_of. subst One (sym (value_is seat))
          (cond_both (eqb row.who seat.who) (acts seat).0 (value player_table seat rows) One
          (λ t. one_acts (mails rows) seat.who (value player_table seat rows) row.event near.fixed.sent (brings_it seat (eqb-true row.who seat.who t)) (near.fixed.players seat is_of) (now.once seat is_of)) (λ _. now.once seat is_of));
      promises = next_promise;
      asks = subst (Each (AsksSeen later)) (sym (mails-snoc rows row))
          (Each-append (AsksSeen later) (mails rows) row.sent
          (Each-weaker (AsksSeen rows) (AsksSeen later) (λ mail a of r e. (let up = rises mail.from r e in within_more up.0.top.round r.top.round mail.body up.2.0 (a of up.0 up.1))) (mails rows) now.asks) row_asks);
    }

  -- ---- all rows

  pub ballots_fresh : (rows : Rows) → AreWithoutOrders words scenario bounded off rows → Lawful as_nodes words scenario rows → HasFreshBallots rows
  ballots_fresh rows without_orders lawful =
      lawful-induction (system_of as_nodes words scenario) (λ (xs : Rows). AreWithoutOrders words scenario bounded off xs → Lawful as_nodes words scenario xs → HasFreshBallots xs)
      (λ xs row keeps step more l. (
      let parts = untold_parts words scenario bounded off xs row more in
      let first = lawful-prefix (system_of as_nodes words scenario) (schedule scenario) xs (row ∷ []) l in
      next_ballots xs row parts.1 (1 + 4 * length xs) (journal_near words scenario bounded off xs parts.0 first) (keeps parts.0 first) step)) (schedule scenario) rows (λ _ _. first_ballots) lawful without_orders lawful
