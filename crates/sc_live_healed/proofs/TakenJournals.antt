-- In each lawful journal without orders and policy every replica takes its slots as it should.
use Rattle.std.proofs.Common.{◌≡◌, ℕ, eqb, false, List, [], ◌∷◌, ◌++◌, map, filter, Option, refl, sym, ◌∙◌, ap, subst, inl, inr}
use Rattle.std.specs.Option.{option_map}
use Rattle.std.proofs.lemmas.Bool.{cond_both, eqb-true}
use Rattle.sc_base.specs.Definitions.{Among, Each, is_member, IsRoster}
use Rattle.sc_node_table.specs.Values.{Seat, Row, Event, Deliver, Drop, Again, Crash, Got, Base, Core, OrderLine, Mail, Node, Client}
use Rattle.sc_actor.specs.declared.rows.Event.TheVariants.{Tick as TickEvent, Go as GoEvent, Told as ToldEvent}
use Rattle.sc_actor.specs.declared.rows.Input.TheVariants.{Tick, Go}
use Rattle.sc_actor.specs.Definitions.{mails, acted, input_of, value, IsStep}
use Rattle.sc_actor.proofs.Lemmas.{lawful-induction, value-snoc}
use Rattle.sc_node_table.specs.NodeDefinitions.{ReplicaState, born_replica, born_replicas, slots_ahead}
use Rattle.sc_scenario.specs.declared.scenario.scenarios.Scenario.{Scenario}
use Rattle.sc_scenario.specs.scenario.Definitions.{IsBounded}
use Rattle.sc_meaning.specs.sound.SoundDefinitions.{Lawful, Player, as_nodes, player_table, schedule, system_of}
use Rattle.sc_live_orderly.specs.OrderlyDefinitions.{is_told}
use Rattle.sc_law_groups.proofs.WholeProofs.WholeLemmas.{group_place}
use Rattle.sc_live_healed.proofs.SeatBirths.{seat_born}
use Rattle.sc_live_healed.proofs.FixedNodes.{AreFresh}
use Rattle.sc_live_healed.proofs.FixedJournals.{Rows, IsFixedPlayer, IsOf, IsFixedJournal, Brings, fresh, given, first_fixed, brings, next_fixed, AreWithoutOrders, untold_parts}
use Rattle.sc_live_healed.proofs.NodeSlots.{AreRosters, steps_take}
use Rattle.sc_live_healed.proofs.MailedSlots.{born_takes}
use Rattle.sc_live_healed.specs.HealedDefinitions.{IsFixedReplica, IsFixedMail, TakesSlots, AllTakeSlots}

-- the groups of a bounded scenario have one to nine members
pub groups_rosters : (scenario : Scenario) → IsBounded scenario → AreRosters scenario.groups
groups_rosters scenario bounded base a =
    let p = group_place scenario bounded base a in
    subst (λ (b : Base). IsRoster b.core.members) p.2 (bounded.each p.0 (record { lo = 0; members = [] }) p.1).roster

-- a node's replicas take their slots
abbrev pub PlayerTakes : List Base → Player → Type 0
PlayerTakes bases (Node node) = AllTakeSlots bases node
PlayerTakes bases (Client client) = Unit {0}

-- After these rows each actor is of groups that are not reshaped, and its replicas take their slots.
pub record IsTakenJournal (scenario : Scenario) (rows : Rows) : Type 0 where
  pub fixed : IsFixedJournal scenario rows
  pub takes : (seat : Seat Player) → IsOf scenario seat → PlayerTakes scenario.groups (value player_table seat rows)

module _ (words : ℕ → ℕ → ℕ × ℕ) (scenario : Scenario) (bounded : IsBounded scenario) (off : scenario.policy ≡ false) where
  abbrev bases : List Base
  bases = scenario.groups

  apart_here : AreFresh bases
  apart_here = fresh words scenario bounded off

  -- ---- births

  born_one : (me : ℕ) (base : Base) → (other : Base) → Among other bases → IsFixedReplica other (born_replica slots_ahead me base) → Among base bases → TakesSlots other (born_replica slots_ahead me base)
  born_one me base other a f b = subst (λ (x : Base). TakesSlots x (born_replica slots_ahead me base)) (apart_here.apart base other b a (ap (λ (core : Core). core.id) f.group)) (born_takes base me)

  born_all : (me : ℕ) (some : List Base) → ((base : Base) → Among base some → Among base bases) → Each (λ (r : ReplicaState). (base : Base) → Among base bases → IsFixedReplica base r → TakesSlots base r) (born_replicas slots_ahead me some)
  born_all me [] within = tt
  born_all me (base ∷ some) within =
      cond_both (is_member base.core.members me) (base ∷ filter (λ (b : Base). is_member b.core.members me) some) (filter (λ (b : Base). is_member b.core.members me) some)
      (λ (bs : List Base). Each (λ (r : ReplicaState). (b : Base) → Among b bases → IsFixedReplica b r → TakesSlots b r) (map (λ (b : Base). born_replica slots_ahead me b) bs))
      (λ t. (λ other a f. born_one me base other a f (within base (inl refl)), born_all me some (λ b a. within b (inr a)))) (λ _. born_all me some (λ b a. within b (inr a)))

  abbrev IsBornSeat : Seat Player → Type 0
  IsBornSeat seat = PlayerTakes bases seat.actor

  first_taken : IsTakenJournal scenario []
  first_taken = record {
    fixed = first_fixed words scenario bounded off;
    takes = seat_born IsBornSeat scenario (λ n. born_all n bases (λ base a. a)) (λ base a c. tt);
  }

  -- ---- one row more

  acts : (sent : List Mail) (who : ℕ) (p : Player) (event : Event OrderLine) → Each (IsFixedMail bases) sent → Brings sent who event → IsFixedPlayer bases who p → PlayerTakes bases p → PlayerTakes bases (acted player_table p (input_of sent event)).0
  acts sent who (Client client) (Deliver number) s b k t = subst (λ (o : Option Mail). PlayerTakes bases (acted player_table (Client client) (option_map Got o)).0) (sym b.1) tt
  acts sent who (Client client) TickEvent s b k t = tt
  acts sent who (Client client) GoEvent s b k t = tt
  acts sent who (Client client) (ToldEvent line) s b k t = absurd b
  acts sent who (Client client) Crash s b k t = tt
  acts sent who (Client client) (Drop number) s b k t = tt
  acts sent who (Client client) (Again number) s b k t = tt
  acts sent who (Node node) (Deliver number) s b k t =
      subst (λ (o : Option Mail). PlayerTakes bases (acted player_table (Node node) (option_map Got o)).0) (sym b.1)
      (steps_take bases apart_here (groups_rosters scenario bounded) node k.2 t (Got b.0) k.1 (given words scenario bounded off sent number b.0 s b.1, b.2 ∙ sym k.0))
  acts sent who (Node node) TickEvent s b k t = steps_take bases apart_here (groups_rosters scenario bounded) node k.2 t Tick k.1 tt
  acts sent who (Node node) GoEvent s b k t = steps_take bases apart_here (groups_rosters scenario bounded) node k.2 t Go k.1 tt
  acts sent who (Node node) (ToldEvent line) s b k t = absurd b
  acts sent who (Node node) Crash s b k t = t
  acts sent who (Node node) (Drop number) s b k t = t
  acts sent who (Node node) (Again number) s b k t = t

  next_taken : (rows : Rows) (row : Row Mail OrderLine) → is_told row.event ≡ false → IsTakenJournal scenario rows → IsStep (system_of as_nodes words scenario) rows row → IsTakenJournal scenario (rows ++ row ∷ [])
  next_taken rows row without_orders now step = record {
    fixed = next_fixed words scenario bounded off rows row without_orders now.fixed step;
    takes = λ seat is_of. subst (PlayerTakes bases) (sym (value-snoc player_table seat rows row))
        (cond_both (eqb row.who seat.who) (acted player_table (value player_table seat rows) (input_of (mails rows) row.event)).0 (value player_table seat rows) (PlayerTakes bases)
        (λ t. acts (mails rows) seat.who (value player_table seat rows) row.event now.fixed.sent (brings words scenario bounded off rows row without_orders now.fixed seat.who (eqb-true row.who seat.who t) step) (now.fixed.players seat is_of) (now.takes seat is_of))
        (λ _. now.takes seat is_of));
  }

  -- ---- all rows

  pub journal_taken : (rows : Rows) → AreWithoutOrders words scenario bounded off rows → Lawful as_nodes words scenario rows → IsTakenJournal scenario rows
  journal_taken rows without_orders lawful =
      lawful-induction (system_of as_nodes words scenario) (λ (xs : Rows). AreWithoutOrders words scenario bounded off xs → IsTakenJournal scenario xs)
      (λ xs row keeps step more. (let parts = untold_parts words scenario bounded off xs row more in next_taken xs row parts.1 (keeps parts.0) step)) (schedule scenario) rows (λ _. first_taken) lawful without_orders
