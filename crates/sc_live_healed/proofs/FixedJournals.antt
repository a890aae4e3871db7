-- In each lawful journal without orders and policy every node keeps replicas of groups that are not reshaped, every client knows these groups alone, and every mail is of one of them.
use Rattle.std.proofs.Common.{◌≡◌, ℕ, zero, suc, eqb, true, false, cond, List, [], ◌∷◌, ◌++◌, map, filter, find, Option, Some, refl, sym, ◌∙◌, ap, subst, inl, inr}
use Rattle.std.specs.Option.{option_map}
use Rattle.std.proofs.lemmas.Bool.{cond_both, cond-true, eqb-true}
use Rattle.sc_base.specs.Definitions.{Among, Each, is_member, same_draw}
use Rattle.sc_base.proofs.Lemmas.{same_name}
use Rattle.sc_node_table.specs.Values.{Seat, Row, Event, Deliver, Drop, Again, Crash, Input, Got, Base, OrderLine, Mail, Node, Client}
use Rattle.sc_actor.specs.declared.rows.Event.TheVariants.{Tick as TickEvent, Go as GoEvent, Told as ToldEvent}
use Rattle.sc_actor.specs.declared.rows.Input.TheVariants.{Tick, Go, Told}
use Rattle.sc_actor.specs.Definitions.{mails, numbered, acted, input_of, value, IsStep, IsOpen, IsLoose}
use Rattle.sc_actor.proofs.Lemmas.{lawful-induction, value-snoc, mails-snoc}
use Rattle.sc_node_table.specs.NodeDefinitions.{ReplicaState, replica_of, born_node, born_replica, born_replicas, first_ballot, slots_ahead}
use Rattle.sc_words.proofs.PaxosProofs.PaxosLemmas.{Each-among, Each-append, Each-from, at_least_itself}
use Rattle.sc_scenario.specs.declared.scenario.scenarios.Scenario.{Scenario}
use Rattle.sc_scenario.specs.scenario.Definitions.{IsBounded}
use Rattle.sc_meaning.specs.sound.SoundDefinitions.{Lawful, Player, as_nodes, births, player_table, schedule, system_of}
use Rattle.sc_live_orderly.specs.OrderlyDefinitions.{is_told}
use Rattle.sc_paxos_law.proofs.Lemmas.{place_among}
use Rattle.sc_live_healed.proofs.SeatBirths.{seat_born}
use Rattle.sc_live_healed.proofs.FixedWalks.{IsMember}
use Rattle.sc_live_healed.proofs.FixedNodes.{AreFresh, MayTake, IsOne, steps_fixed}
use Rattle.sc_live_healed.proofs.FixedBirths.{groups_fresh}
use Rattle.sc_live_healed.proofs.FixedClients.{client_fixed}
use Rattle.sc_live_healed.specs.HealedDefinitions.{IsFixedMail, IsFixedNode, IsFixedClient}

-- the rows of a journal
abbrev pub Rows : Type 0
Rows = List (Row Mail OrderLine)

-- a node with its number and without policy, whose replicas are of these groups; a client that knows them alone
abbrev pub IsFixedPlayer : List Base → ℕ → Player → Type 0
IsFixedPlayer bases who (Node node) = (node.me ≡ who) × (node.policy ≡ false) × IsFixedNode bases node
IsFixedPlayer bases who (Client client) = IsFixedClient bases client

-- the actor of these births with a number
abbrev pub IsOf : Scenario → Seat Player → Type 0
IsOf scenario seat = find (λ (other : Seat Player). eqb other.who seat.who) (births as_nodes scenario) ≡ Some seat

-- After these rows each actor is such a node or client, and every mail is of these groups.
pub record IsFixedJournal (scenario : Scenario) (rows : Rows) : Type 0 where
  pub sent : Each (IsFixedMail scenario.groups) (mails rows)
  pub players : (seat : Seat Player) → IsOf scenario seat → IsFixedPlayer scenario.groups seat.who (value player_table seat rows)

-- what an event may bring to an actor: a mail to it, and no order
abbrev pub Brings : List Mail → ℕ → Event OrderLine → Type 0
Brings sent who (Deliver number) = (mail : Mail) × (numbered sent number ≡ Some mail) × (mail.to ≡ who)
Brings sent who (ToldEvent line) = ⊥
Brings sent who _ = Unit {0}

module _ (words : ℕ → ℕ → ℕ × ℕ) (scenario : Scenario) (bounded : IsBounded scenario) (off : scenario.policy ≡ false) where
  abbrev bases : List Base
  bases = scenario.groups

  pub fresh : AreFresh bases
  fresh = groups_fresh scenario bounded

  abbrev IsPlayer : ℕ → Player → Type 0
  IsPlayer who p = IsFixedPlayer bases who p

  -- ---- births

  born_one : (base : Base) → Among base bases → (me : ℕ) → IsMember base me → IsOne bases fresh me (born_replica slots_ahead me base)
  born_one base a me m =
      let f = fresh.each base a me m in (
        base,
        a,
        m,
        refl,
        record { group = refl; sets = refl; acts = refl; waits = refl; backlog = tt; flights = tt; ready = tt; reports = tt; accepted = tt; entries = tt },
        record {
          promised = at_least_itself (first_ballot base.core);
          asker = f.first;
          running = λ on. (let mine : base.core.first ≡ me = eqb-true base.core.first me on in record { own = mine; seen = at_least_itself (first_ballot base.core); unpassed = at_least_itself (first_ballot base.core); hint = ap (λ (node : ℕ). Some node) mine });
          stopped = λ _. record { backlog = refl; flights = refl; ready = refl; leader = base.core.first; hint = refl; member = f.first };
        },
      )

  born_all : (me : ℕ) (some : List Base) → Each (λ (base : Base). Among base bases) some → Each (IsOne bases fresh me) (born_replicas slots_ahead me some)
  born_all me [] k = tt
  born_all me (base ∷ some) k =
      cond_both (is_member base.core.members me) (base ∷ filter (λ (b : Base). is_member b.core.members me) some) (filter (λ (b : Base). is_member b.core.members me) some)
      (λ (bs : List Base). Each (IsOne bases fresh me) (map (λ (b : Base). born_replica slots_ahead me b) bs)) (λ t. (born_one base k.0 me t, born_all me some k.1)) (λ _. born_all me some k.1)

  born_has : (me : ℕ) (base : Base) (some : List Base) → Among base some → IsMember base me → (r : ReplicaState) × (replica_of base.core.id (born_replicas slots_ahead me some) ≡ Some r)
  born_has me base [] a m = absurd a
  born_has me base (other ∷ some) a m =
      cond_both (is_member other.core.members me) (other ∷ filter (λ (b : Base). is_member b.core.members me) some) (filter (λ (b : Base). is_member b.core.members me) some)
      (λ (bs : List Base). (r : ReplicaState) × (replica_of base.core.id (map (λ (b : Base). born_replica slots_ahead me b) bs) ≡ Some r))
      (λ t. elim a [
        | inl e ↦ (born_replica slots_ahead me other, here other some (same_name other.core.id base.core.id (ap (λ (b : Base). b.core.id) e)))
        | inr b ↦ later other (born_has me base some b m)
      ])
      (λ f. elim a [ inl e ↦ absurd (let t : is_member other.core.members me ≡ true = subst (λ (b : Base). IsMember b me) (sym e) m in cc) | inr b ↦ born_has me base some b m ])
    where
      here : (other : Base) (some : List Base) → same_draw other.core.id base.core.id ≡ true → cond (same_draw other.core.id base.core.id) (Some (born_replica slots_ahead me other)) (replica_of base.core.id (born_replicas slots_ahead me some)) ≡ Some (born_replica slots_ahead me other)
      here other some t = cond-true (same_draw other.core.id base.core.id) (Some (born_replica slots_ahead me other)) (replica_of base.core.id (born_replicas slots_ahead me some)) t

      later : (other : Base) {rest : Option ReplicaState} → ((r : ReplicaState) × (rest ≡ Some r)) → (r : ReplicaState) × (cond (same_draw other.core.id base.core.id) (Some (born_replica slots_ahead me other)) rest ≡ Some r)
      later other {rest} h = cond_both (same_draw other.core.id base.core.id) (Some (born_replica slots_ahead me other)) rest (λ (o : Option ReplicaState). (r : ReplicaState) × (o ≡ Some r)) (λ _. (born_replica slots_ahead me other, refl)) (λ _. h)

  born_fixed : (me : ℕ) → IsFixedNode bases (born_node slots_ahead me bases scenario.policy)
  born_fixed me = record {
    replicas = born_all me bases (Each-from (λ (base : Base). Among base bases) bases (λ base a. a));
    has = λ base a m. born_has me base bases a m;
  }

  -- a seat's actor at its birth
  abbrev IsBornSeat : Seat Player → Type 0
  IsBornSeat seat = IsPlayer seat.who seat.actor

  pub first_fixed : IsFixedJournal scenario []
  first_fixed = record {
    sent = tt;
    players = seat_born IsBornSeat scenario (λ n. (refl, off, born_fixed n)) (λ base a c. (record { base = base; among = a; name = refl; members = refl; preferred = λ node e. absurd (cc) }, tt));
  }

  -- ---- one row more

  abbrev Acted : ℕ → Player × List Mail → Type 0
  Acted who p = IsPlayer who p.0 × Each (IsFixedMail bases) p.1

  takes : (who : ℕ) (p : Player) (input : Input Mail OrderLine) → MayTake bases who input → IsPlayer who p → Acted who (player_table p input)
  takes who (Node node) input may k =
      let after = steps_fixed bases fresh node k.2 input k.1 (subst (λ (n : ℕ). MayTake bases n input) (sym k.0) may) in ((after.0 ∙ k.0, after.1 ∙ k.1, after.2), after.3)
  takes who (Client client) (Got mail) may k = client_fixed bases fresh client (Got mail) (λ m e. (let same : mail ≡ m = cc in subst (IsFixedMail bases) same may.0)) k
  takes who (Client client) Tick may k = client_fixed bases fresh client Tick (λ m e. absurd (cc)) k
  takes who (Client client) Go may k = client_fixed bases fresh client Go (λ m e. absurd (cc)) k
  takes who (Client client) (Told line) may k = absurd may

  pub given : (sent : List Mail) (number : ℕ) (mail : Mail) → Each (IsFixedMail bases) sent → numbered sent number ≡ Some mail → IsFixedMail bases mail
  given sent zero mail s e = absurd (cc)
  given sent (suc place) mail s e = Each-among (IsFixedMail bases) sent mail s (place_among sent place mail e)

  acts : (sent : List Mail) (who : ℕ) (p : Player) (event : Event OrderLine) → Each (IsFixedMail bases) sent → Brings sent who event → IsPlayer who p → Acted who (acted player_table p (input_of sent event))
  acts sent who p (Deliver number) s b k =
      subst (λ (o : Option Mail). Acted who (acted player_table p (option_map Got o))) (sym b.1) (takes who p (Got b.0) (given sent number b.0 s b.1, b.2) k)
  acts sent who p TickEvent s b k = takes who p Tick tt k
  acts sent who p GoEvent s b k = takes who p Go tt k
  acts sent who p (ToldEvent line) s b k = absurd b
  acts sent who p Crash s b k = (k, tt)
  acts sent who p (Drop number) s b k = (k, tt)
  acts sent who p (Again number) s b k = (k, tt)

  opened : (rows : Rows) (who : ℕ) (event : Event OrderLine) → is_told event ≡ false → IsOpen (system_of as_nodes words scenario) rows who event → Brings (mails rows) who event
  opened rows who (Deliver number) without_orders o = (o.0, o.1.sent, o.2)
  opened rows who (ToldEvent line) without_orders o = absurd (cc)
  opened rows who TickEvent without_orders o = tt
  opened rows who GoEvent without_orders o = tt
  opened rows who Crash without_orders o = tt
  opened rows who (Drop number) without_orders o = tt
  opened rows who (Again number) without_orders o = tt

  loosened : (rows : Rows) (who : ℕ) (event : Event OrderLine) → IsLoose (system_of as_nodes words scenario) rows event → Brings (mails rows) who event
  loosened rows who (Drop number) l = tt
  loosened rows who (Again number) l = tt
  loosened rows who (Deliver number) l = absurd l
  loosened rows who (ToldEvent line) l = absurd l
  loosened rows who TickEvent l = tt
  loosened rows who GoEvent l = tt
  loosened rows who Crash l = tt

  module _ (rows : Rows) (row : Row Mail OrderLine) (without_orders : is_told row.event ≡ false) (now : IsFixedJournal scenario rows) where
    pub brings : (who : ℕ) → row.who ≡ who → IsStep (system_of as_nodes words scenario) rows row → Brings (mails rows) who row.event
    brings who same (inl step) =
        let event_is : row.event ≡ step.event = ap (λ (r : Row Mail OrderLine). r.event) step.row_is in
        let who_is : step.seat.who ≡ who = sym (ap (λ (r : Row Mail OrderLine). r.who) step.row_is) ∙ same in
        subst (λ (event : Event OrderLine). Brings (mails rows) who event) (sym event_is) (subst (λ (n : ℕ). Brings (mails rows) n step.event) who_is (opened rows step.seat.who step.event (ap is_told (sym event_is) ∙ without_orders) step.open_))
    brings who same (inr step) =
        let event_is : row.event ≡ step.event = ap (λ (r : Row Mail OrderLine). r.event) step.row_is in
        subst (λ (event : Event OrderLine). Brings (mails rows) who event) (sym event_is) (loosened rows who step.event step.loose)

    row_sent : IsStep (system_of as_nodes words scenario) rows row → Each (IsFixedMail bases) row.sent
    row_sent (inl step) =
        let event_is : row.event ≡ step.event = ap (λ (r : Row Mail OrderLine). r.event) step.row_is in
        let b = brings step.seat.who (ap (λ (r : Row Mail OrderLine). r.who) step.row_is) (inl step) in
        subst (Each (IsFixedMail bases)) (sym (ap (λ (r : Row Mail OrderLine). r.sent) step.row_is))
        (acts (mails rows) step.seat.who (value player_table step.seat rows) step.event now.sent (subst (λ (event : Event OrderLine). Brings (mails rows) step.seat.who event) event_is b) (now.players step.seat step.born)).1
    row_sent (inr step) = subst (Each (IsFixedMail bases)) (sym (ap (λ (r : Row Mail OrderLine). r.sent) step.row_is)) tt

    pub next_fixed : IsStep (system_of as_nodes words scenario) rows row → IsFixedJournal scenario (rows ++ row ∷ [])
    next_fixed step = record {
      sent = subst (Each (IsFixedMail bases)) (sym (mails-snoc rows row)) (Each-append (IsFixedMail bases) (mails rows) row.sent now.sent (row_sent step));
      players = λ seat is_of. subst (IsPlayer seat.who) (sym (value-snoc player_table seat rows row))
          (cond_both (eqb row.who seat.who) (acted player_table (value player_table seat rows) (input_of (mails rows) row.event)).0 (value player_table seat rows) (IsPlayer seat.who)
          (λ t. (acts (mails rows) seat.who (value player_table seat rows) row.event now.sent (brings seat.who (eqb-true row.who seat.who t) step) (now.players seat is_of)).0) (λ _. now.players seat is_of));
    }

  -- ---- all rows

  -- no row gives an order
  abbrev pub AreWithoutOrders : Rows → Type 0
  AreWithoutOrders rows = Each (λ (row : Row Mail OrderLine). is_told row.event ≡ false) rows

  -- of rows and one more
  pub untold_parts : (xs : Rows) (row : Row Mail OrderLine) → AreWithoutOrders (xs ++ row ∷ []) → AreWithoutOrders xs × (is_told row.event ≡ false)
  untold_parts [] row without_orders = (tt, without_orders.0)
  untold_parts (x ∷ xs) row without_orders = (let p = untold_parts xs row without_orders.1 in ((without_orders.0, p.0), p.1))

  -- and of rows and others
  pub untold_prefix : (xs ys : Rows) → AreWithoutOrders (xs ++ ys) → AreWithoutOrders xs
  untold_prefix [] ys without_orders = tt
  untold_prefix (x ∷ xs) ys without_orders = (without_orders.0, untold_prefix xs ys without_orders.1)

  pub journal_fixed : (rows : Rows) → AreWithoutOrders rows → Lawful as_nodes words scenario rows → IsFixedJournal scenario rows
  journal_fixed rows without_orders lawful =
      lawful-induction (system_of as_nodes words scenario) (λ (xs : Rows). AreWithoutOrders xs → IsFixedJournal scenario xs)
      (λ xs row keeps step more. (let parts = untold_parts xs row more in next_fixed xs row parts.1 (keeps parts.0) step)) (schedule scenario) rows (λ _. first_fixed) lawful without_orders
