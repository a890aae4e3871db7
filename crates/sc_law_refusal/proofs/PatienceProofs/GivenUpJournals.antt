-- Every lawful journal gives up in time: wherever a GiveUp stands, a replica of its group first queued it at a tick after it had waited long enough.
use Rattle.std.proofs.Common.{◌≡◌, ℕ, zero, suc, ◌+◌, ◌-◌, ◌^◌, ◌≤◌, eqb, true, refl, sym, ◌∙◌, ap, subst, arith, List, [], ◌∷◌, ◌++◌, append_assoc, filter, map, Option, Some, None, inl, inr}
use Rattle.std.specs.Option.{option_map}
use Rattle.std.specs.List.{find}
use Rattle.std.proofs.lemmas.Bool.{cond_both, cond-true, eqb-true, eq-eqb, leb-true}
use Rattle.sc_base.specs.Definitions.{Among, Each, is_member}
use Rattle.sc_node_table.specs.Values.{Draw, Seat, Row, Event, Deliver, Drop, Again, Crash, Input, Got, Base, Body, Lock, Coordinating, Command, GiveUp, Heard, OrderLine, Mail, MailBody, Request, Promise, Accept, Learn, Report, Flight, Node, Client}
use Rattle.sc_actor.specs.declared.rows.Event.TheVariants.{Tick as TickEvent, Go as GoEvent, Told as ToldEvent}
use Rattle.sc_actor.specs.declared.rows.Input.TheVariants.{Tick, Go, Told}
use Rattle.sc_actor.specs.Definitions.{mails, numbered, acted, input_of, value, IsStep}
use Rattle.sc_actor.proofs.Lemmas.{lawful-induction, value-snoc, mails-snoc}
use Rattle.sc_client_table.specs.table.TableDefinitions.{Client as ClientState}
use Rattle.sc_client_table.proofs.TableProofs.TurnLemmas.{each_request}
use Rattle.sc_node_table.specs.NodeDefinitions.{NodeState, ReplicaState, name_of, node_table, born_replica, slots_ahead, settled, one_tick_more, patience}
use Rattle.sc_words.proofs.PaxosProofs.PaxosLemmas.{Each-among, Each-append, Each-from, find_found}
use Rattle.sc_scenario.specs.declared.scenario.scenarios.Scenario.{Scenario}
use Rattle.sc_meaning.specs.sound.SoundDefinitions.{Ahead, Lawful, Player, births, decided_log, node_seat, player_table, schedule, system_of}
use Rattle.sc_law_entries.specs.names.NameDefinitions.{Opt}
use Rattle.sc_law_entries.proofs.NamesProofs.EachFound.{opt_get}
use Rattle.sc_law_entries.proofs.NamesProofs.Fresh.{IsClient, IsSeat, seats_are, replay_client, no_node}
use Rattle.sc_law_refusal.specs.refusal.RefusalDefinitions.{Rows, ticks_in}
use Rattle.sc_law_refusal.specs.patience.PatienceDefinitions.{StandsAt, StandsIn, WasGivenUp, GivesUpInTime}
use Rattle.sc_law_refusal.proofs.RefusalProofs.Locking.{allowed}
use Rattle.sc_law_refusal.proofs.RefusalProofs.NodeSteps.{Keeps as Waits, running_of}
use Rattle.sc_law_refusal.proofs.RefusalProofs.Ticking.{counts, node_known}
use Rattle.sc_law_refusal.proofs.PatienceProofs.GivenUpCommands.{Gives, MailGives, Holds}
use Rattle.sc_law_refusal.proofs.PatienceProofs.GivenUpNodes.{All, Keeps, MayEnd, Takes, born, node_step}
use Rattle.sc_law_refusal.proofs.PatienceProofs.DecidedCommands.{decided_gives}

-- a tick more is one more at most
one_more : (waits : ℕ) → one_tick_more waits ≤ waits + 1
one_more waits = cond_both (eqb waits (2 ^ 32 - 1)) waits (waits + 1) (λ (n : ℕ). n ≤ waits + 1) (λ _. omega arith) (λ _. omega arith)

-- what was given up stays so with more rows
given_later : (ahead : Ahead) (scenario : Scenario) (rows more : Rows) (group tx : Draw) → WasGivenUp ahead scenario rows group tx → WasGivenUp ahead scenario (rows ++ more) group tx
given_later ahead scenario rows more group tx w = record {
  before = w.before;
  row = w.row;
  later = w.later ++ more;
  are = ap (λ (rs : Rows). rs ++ more) w.are ∙ append_assoc w.before (w.row ∷ w.later) more;
  seat = w.seat;
  node = w.node;
  after = w.after;
  acts = w.acts;
  replica = w.replica;
  stood = w.stood;
  same = w.same;
  impatient = w.impatient;
}

module _ (ahead : Ahead) (open_slots : ahead.slots ≡ slots_ahead) (words : ℕ → ℕ → ℕ × ℕ) (scenario : Scenario) (F : Draw → Draw → Type 0) where
  abbrev Mails : List Mail → Type 0
  Mails sent = Each (λ (mail : Mail). MailGives F mail.body) sent

  abbrev PlayerGives : ℕ → Player → Type 0
  PlayerGives who (Node node) = (node.me ≡ who) × All F who node.replicas
  PlayerGives who (Client client) = Unit {0}

  -- the actor with a number
  abbrev IsOf : Seat Player → Type 0
  IsOf seat = find (λ (other : Seat Player). eqb other.who seat.who) (births ahead scenario) ≡ Some seat

  -- each GiveUp is allowed, in mail and at players
  record AllGive (rows : Rows) : Type 0 where
    sent : Mails (mails rows)
    players : (seat : Seat Player) → IsOf seat → PlayerGives seat.who (value player_table seat rows)

  abbrev Allows : Rows → Type 0
  Allows rows = (group tx : Draw) → WasGivenUp ahead scenario rows group tx → F group tx

  -- ---- before any row

  born_gives : (n : ℕ) (bases : List Base) → Each (Keeps F n) (map (λ base. born_replica ahead.slots n base) bases)
  born_gives n [] = tt
  born_gives n (base ∷ bases) = (subst (λ (s : ℕ). Keeps F n (born_replica s n base)) (sym open_slots) (born F n base), born_gives n bases)

  seat_gives : (seat : Seat Player) → IsSeat ahead scenario seat → PlayerGives seat.who seat.actor
  seat_gives seat (inl (n, low, high, fact)) = subst (λ (s : Seat Player). PlayerGives s.who s.actor) (sym fact) (refl, born_gives n (filter (λ base. is_member base.core.members n) scenario.groups))
  seat_gives seat (inr client) = by seat.actor client
    where
      by : (p : Player) → IsClient p → PlayerGives seat.who p
      by (Node node) c = absurd c
      by (Client state) c = tt

  is_seat : (seat : Seat Player) → IsOf seat → IsSeat ahead scenario seat
  is_seat seat e = Each-among (IsSeat ahead scenario) (births ahead scenario) seat (seats_are ahead scenario) (find_found (λ (other : Seat Player). eqb other.who seat.who) (births ahead scenario) seat e).0

  first_all : AllGive []
  first_all = record { sent = tt; players = λ seat e. seat_gives seat (is_seat seat e) }

  -- ---- one row more

  numbered_gives : (sent : List Mail) (number : ℕ) → Mails sent → Opt (λ (mail : Mail). MailGives F mail.body) (numbered sent number)
  numbered_gives sent zero m = tt
  numbered_gives sent (suc place) m = opt_get (λ (mail : Mail). MailGives F mail.body) sent place m

  module _ (rows : Rows) (row : Row Mail OrderLine) (allows : Allows (rows ++ row ∷ [])) (now : AllGive rows) where
    module _ (seat : Seat Player) (is_of : IsOf seat) (who : row.who ≡ seat.who) where
      abbrev Acted : Player × List Mail → Type 0
      Acted p = PlayerGives seat.who p.0 × Mails p.1

      abbrev before : Player
      before = value player_table seat rows

      client_acts : (client : ClientState) (input : Input Mail OrderLine) → Acted (player_table (Client client) input)
      client_acts client input = (tt, each_request (λ body. MailGives F body) (λ group client_ seq op. tt) client input)

      got : (p : Player) (o : Option Mail) → Opt (λ (mail : Mail). MailGives F mail.body) o → PlayerGives seat.who p → Acted (acted player_table p (option_map Got o))
      got p None m k = (k, tt)
      got (Node node) (Some mail) m k = (let after = node_step F seat.who node (Got mail) m k in ((after.0, after.1), after.2))
      got (Client client) (Some mail) m k = client_acts client (Got mail)

      -- a coordinator has waited for no more ticks than its leadership has had
      node_few : (n : ℕ) → 1 ≤ n → (node : NodeState) → value player_table (node_seat ahead scenario.groups scenario.policy n) rows ≡ Node node → (r : ReplicaState) → Among r node.replicas → settled r ≡ true
          → (tx : Draw) (body : Body) (order : ℕ) (heard : Option Heard) → r.group.core.lock ≡ Coordinating tx body order heard → r.waits ≤ ticks_in (node_seat ahead scenario.groups scenario.policy n) rows r tx
      node_few n low node was r stood leads tx body order heard lock =
          let place : Seat Player = node_seat ahead scenario.groups scenario.policy n in
          let known = node_known ahead scenario n low rows node was in
          let keep : Waits n (counts place rows) r = Each-among (Waits n (counts place rows)) node.replicas r known.keep stood in
          subst (λ (l : Lock). r.waits ≤ allowed (counts place rows (name_of r)) r.leader.ballot l) lock (keep.patient (running_of r leads))

      few : IsSeat ahead scenario seat → (node : NodeState) → before ≡ Node node → (r : ReplicaState) → Among r node.replicas → settled r ≡ true → (tx : Draw) (body : Body) (order : ℕ) (heard : Option Heard) → r.group.core.lock ≡ Coordinating tx body order heard → r.waits ≤ ticks_in seat rows r tx
      few (inl (n, low, high, fact)) node was r stood leads tx body order heard lock =
          subst (λ (s : Seat Player). r.waits ≤ ticks_in s rows r tx) (sym fact) (node_few n low node (subst (λ (s : Seat Player). value player_table s rows ≡ Node node) fact was) r stood leads tx body order heard lock)
      few (inr client) node was r stood leads tx body order heard lock = absurd (no_node before node (replay_client seat.who seat.actor [] rows client) was)

      -- the node after its tick
      ticked_is : (node : NodeState) → before ≡ Node node → row.event ≡ TickEvent → value player_table seat (rows ++ row ∷ []) ≡ Node (node_table node Tick).0
      ticked_is node was event_is =
          value-snoc player_table seat rows row ∙ cond-true (eqb row.who seat.who) (acted player_table before (input_of (mails rows) row.event)).0 before (eq-eqb row.who seat.who who)
          ∙ ap (λ (p : Player). (acted player_table p (input_of (mails rows) row.event)).0) was ∙ ap (λ (event : Event OrderLine). (acted player_table (Node node) (input_of (mails rows) event)).0) event_is

      -- who gives up at a tick has waited long enough
      may_end : (node : NodeState) → before ≡ Node node → row.event ≡ TickEvent → (r : ReplicaState) → Among r node.replicas → MayEnd F seat.who r
      may_end node was event_is r stood tx body order heard leads lock long none =
          let enough : patience ≤ one_tick_more r.waits = leb-true patience (one_tick_more r.waits) long in
          let most : one_tick_more r.waits ≤ r.waits + 1 = one_more r.waits in
          let waited : r.waits ≤ ticks_in seat rows r tx = few (is_seat seat is_of) node was r stood leads tx body order heard lock in
          allows (name_of r) tx (record {
            before = rows;
            row = row;
            later = [];
            are = refl;
            seat = seat;
            node = node;
            after = (node_table node Tick).0;
            acts = record {
              seated = subst (λ (n : ℕ). find (λ (other : Seat Player). eqb other.who n) (births ahead scenario) ≡ Some seat) (sym who) is_of;
              was = was;
              takes = ap (λ (event : Event OrderLine). input_of (mails rows) event) event_is;
              fact = ticked_is node was event_is;
            };
            replica = r;
            stood = stood;
            same = refl;
            impatient = record { tick = refl; leads = leads; body = body; order = order; heard = heard; locked = lock; long = omega (arith, enough, most, waited); none = none };
          })

      node_acts : (node : NodeState) (input : Input Mail OrderLine) → Takes F seat.who node input → PlayerGives seat.who (Node node) → Acted (player_table (Node node) input)
      node_acts node input g k = (let after = node_step F seat.who node input g k in ((after.0, after.1), after.2))

      acts_by : (p : Player) → before ≡ p → PlayerGives seat.who p → (event : Event OrderLine) → row.event ≡ event → Acted (acted player_table p (input_of (mails rows) event))
      acts_by (Node node) was k (Deliver number) e = got (Node node) (numbered (mails rows) number) (numbered_gives (mails rows) number now.sent) k
      acts_by (Node node) was k TickEvent e = node_acts node Tick (Each-from (MayEnd F seat.who) node.replicas (λ r stood. may_end node was e r stood)) k
      acts_by (Node node) was k GoEvent e = node_acts node Go tt k
      acts_by (Node node) was k Crash e = (k, tt)
      acts_by (Node node) was k (Drop number) e = (k, tt)
      acts_by (Node node) was k (Again number) e = (k, tt)
      acts_by (Node node) was k (ToldEvent line) e = node_acts node (Told line) tt k
      acts_by (Client client) was k (Deliver number) e = got (Client client) (numbered (mails rows) number) (numbered_gives (mails rows) number now.sent) k
      acts_by (Client client) was k TickEvent e = client_acts client Tick
      acts_by (Client client) was k GoEvent e = client_acts client Go
      acts_by (Client client) was k Crash e = (tt, tt)
      acts_by (Client client) was k (Drop number) e = (tt, tt)
      acts_by (Client client) was k (Again number) e = (tt, tt)
      acts_by (Client client) was k (ToldEvent line) e = client_acts client (Told line)

      acts : Acted (acted player_table before (input_of (mails rows) row.event))
      acts = acts_by before refl (now.players seat is_of) row.event refl

    row_sent : IsStep (system_of ahead words scenario) rows row → Mails row.sent
    row_sent (inl step) =
        let event_is : row.event ≡ step.event = ap (λ (r : Row Mail OrderLine). r.event) step.row_is in
        subst (λ (ms : List Mail). Mails ms) (sym (ap (λ (r : Row Mail OrderLine). r.sent) step.row_is))
        (subst (λ (event : Event OrderLine). Mails (acted player_table (value player_table step.seat rows) (input_of (mails rows) event)).1) event_is (acts step.seat step.born (ap (λ (r : Row Mail OrderLine). r.who) step.row_is)).1)
    row_sent (inr step) = subst (λ (ms : List Mail). Mails ms) (sym (ap (λ (r : Row Mail OrderLine). r.sent) step.row_is)) tt

    next_all : IsStep (system_of ahead words scenario) rows row → AllGive (rows ++ row ∷ [])
    next_all step = record {
      sent = subst (λ (ms : List Mail). Mails ms) (sym (mails-snoc rows row)) (Each-append (λ (mail : Mail). MailGives F mail.body) (mails rows) row.sent now.sent (row_sent step));
      players = λ seat is_of. subst (λ (p : Player). PlayerGives seat.who p) (sym (value-snoc player_table seat rows row))
          (cond_both (eqb row.who seat.who) (acted player_table (value player_table seat rows) (input_of (mails rows) row.event)).0 (value player_table seat rows) (λ (p : Player). PlayerGives seat.who p)
          (λ t. (acts seat is_of (eqb-true row.who seat.who t)).0) (λ _. now.players seat is_of));
    }

  -- ---- all rows

  all_give : (rows : Rows) → Allows rows → Lawful ahead words scenario rows → AllGive rows
  all_give rows allows lawful =
      lawful-induction (system_of ahead words scenario) (λ (xs : Rows). Allows xs → AllGive xs)
      (λ xs row keeps step allowed_now. next_all xs row allowed_now (keeps (λ group tx w. allowed_now group tx (given_later ahead scenario xs (row ∷ []) group tx w))) step) (schedule scenario) rows (λ _. first_all) lawful allows

-- ---- where a GiveUp stands

mapped : {X : Type 0} (P : Command → Type 0) (f : X → Command) (xs : List X) (command : Command) → Each (λ (x : X). P (f x)) xs → Among command (map f xs) → P command
mapped P f [] command e a = absurd a
mapped P f (x ∷ xs) command e (inl same) = subst P same e.0
mapped P f (x ∷ xs) command e (inr a) = mapped P f xs command e.1 a

stands_at : (W : Draw → Type 0) (r : ReplicaState) (tx : Draw) → Holds W r → StandsAt r (GiveUp tx) → W tx
stands_at W r tx h (inl (inl a)) = Each-among (Gives W) r.backlog (GiveUp tx) h.backlog a
stands_at W r tx h (inl (inr (inl a))) = Each-among (Gives W) r.acts (GiveUp tx) h.acts a
stands_at W r tx h (inl (inr (inr (inl a)))) = mapped (Gives W) (λ (flight : Flight Command). flight.value) r.leader.flights (GiveUp tx) h.flights a
stands_at W r tx h (inl (inr (inr (inr (inl a))))) = mapped (Gives W) (λ (e : ℕ × Command). e.1) r.ready (GiveUp tx) h.ready a
stands_at W r tx h (inl (inr (inr (inr (inr a))))) = mapped (Gives W) (λ (report : Report Command). report.value) r.leader.reports (GiveUp tx) h.reports a
stands_at W r tx h (inr (inl a)) = mapped (Gives W) (λ (report : Report Command). report.value) r.acceptor.accepted (GiveUp tx) h.accepted a
stands_at W r tx h (inr (inr a)) = Each-among (Gives W) r.log.entries (GiveUp tx) h.log a

stands_in : (F : Draw → Draw → Type 0) (group tx : Draw) (body : MailBody) → MailGives F body → StandsIn group (GiveUp tx) body → F group tx
stands_in F group tx (Accept of ballot slot command) g s = subst (λ (name : Draw). F name tx) s.0 (subst (Gives (F of)) s.1 g)
stands_in F group tx (Learn of slot command) g s = subst (λ (name : Draw). F name tx) s.0 (subst (Gives (F of)) s.1 g)
stands_in F group tx (Promise of ballot reports) g s = subst (λ (name : Draw). F name tx) s.0 (mapped (Gives (F of)) (λ (report : Report Command). report.value) reports (GiveUp tx) g s.1)
stands_in F group tx (Request of client seq op) g s = absurd s
stands_in F group tx _ g s = absurd s

-- every lawful journal gives up in time
pub lawful_give_up : (ahead : Ahead) → ahead.slots ≡ slots_ahead → (words : ℕ → ℕ → ℕ × ℕ) (scenario : Scenario) (rows : Rows) → Lawful ahead words scenario rows → GivesUpInTime ahead scenario rows
lawful_give_up ahead open_slots words scenario rows lawful =
    let F : Draw → Draw → Type 0 = λ group tx. WasGivenUp ahead scenario rows group tx in
    let all : AllGive ahead open_slots words scenario F rows = all_give ahead open_slots words scenario F rows (λ group tx w. w) lawful in
    record {
      held = λ seat is_of node fact r stands tx at. (let k = subst (λ (p : Player). PlayerGives ahead open_slots words scenario F seat.who p) fact (all.players seat is_of) in
          stands_at (F (name_of r)) r tx (Each-among (Keeps F seat.who) node.replicas r k.1 stands).1 at);
      sent = λ mail among group tx at. stands_in F group tx mail.body (Each-among (λ (m : Mail). MailGives F m.body) (mails rows) mail all.sent among) at;
      decided = λ base tx among. Each-among (Gives (F base.core.id)) (decided_log ahead base rows) (GiveUp tx) (decided_gives F ahead base rows all.sent) among;
    }
