-- What a row leaves of replicas and says within a bound that grows by the row: in each lawful journal without orders and policy it holds of all replicas and mails, with a bound by the number of rows.
use Rattle.std.proofs.Common.{◌≡◌, ℕ, zero, suc, ◌+◌, eqb, Bool, false, List, [], ◌∷◌, ◌++◌, length, map, filter, Option, Some, refl, sym, ◌∙◌, ap, subst, inl, inr, ◌⊎◌}
use Rattle.std.specs.Option.{option_map}
use Rattle.std.proofs.lemmas.Bool.{cond_both, eqb-true}
use Rattle.std.proofs.lemmas.List.{length_push}
use Rattle.sc_base.specs.Definitions.{Each, Drawer, same_draw, is_member}
use Rattle.sc_node_table.specs.Values.{Draw, Seat, Row, Event, Deliver, Drop, Again, Crash, Input, Got, Base, OrderLine, Mail, MailBody, Request, Op, Node, Client}
use Rattle.sc_actor.specs.declared.rows.Event.TheVariants.{Tick as TickEvent, Go as GoEvent, Told as ToldEvent}
use Rattle.sc_actor.specs.declared.rows.Input.TheVariants.{Tick, Go, Told as ToldInput}
use Rattle.sc_words.proofs.PaxosProofs.PaxosLemmas.{Each-among, Each-append, Each-weaker, find_found}
use Rattle.sc_node_table.specs.NodeDefinitions.{NodeState, ReplicaState, Place, name_of, with_replica, mailed, ticked, tick_row, names_after_tick, node_table, slots_ahead}
use Rattle.sc_law_walks.proofs.WalkLemmas.{either_way}
use Rattle.sc_actor.specs.Definitions.{mails, numbered, acted, input_of, value, IsStep}
use Rattle.sc_actor.proofs.Lemmas.{lawful-induction, value-snoc, mails-snoc}
use Rattle.sc_client_table.proofs.TableProofs.TurnLemmas.{each_request}
use Rattle.sc_node_table.specs.NodeDefinitions.{born_replica, born_replicas}
use Rattle.sc_paxos_law.proofs.Lemmas.{place_among}
use Rattle.sc_scenario.specs.declared.scenario.scenarios.Scenario.{Scenario}
use Rattle.sc_scenario.specs.scenario.Definitions.{IsBounded}
use Rattle.sc_meaning.specs.sound.SoundDefinitions.{Lawful, Player, as_nodes, player_table, schedule, system_of}
use Rattle.sc_live_orderly.specs.OrderlyDefinitions.{is_told}
use Rattle.sc_live_healed.proofs.SeatBirths.{seat_born}
use Rattle.sc_live_healed.proofs.FixedJournals.{Rows, IsFixedPlayer, IsOf, IsFixedJournal, Brings, fresh, given, first_fixed, brings, next_fixed, AreWithoutOrders, untold_parts}
use Rattle.sc_live_healed.specs.HealedDefinitions.{IsFixedBody, IsFixedMail, IsFixedNode}
use Rattle.sc_live_healed.proofs.FixedNodes.{AreFresh, MayTake, One, into, one_ticks}
use Rattle.sc_live_healed.proofs.FixedGroupMail.{TakesMail, PassesMail, mail_taken}
use Rattle.sc_live_healed.proofs.FixedWalks.{IsFresh, IsFixedPlace}

-- What is said of a replica and of a mail within a bound, and that it goes on: a bound that is greater by what a row adds will do, replicas are born within the first one, and each row of a replica leaves it and its mails within the next one.
pub record Growth : Type 1 where
  pub Near : ℕ → ReplicaState → Type 0
  pub Names : ℕ → MailBody → Type 0
  pub added : ℕ
  pub bound_at : ℕ → ℕ
  pub then_ : (rows : ℕ) → bound_at rows + added ≡ bound_at (rows + 1)
  pub begins : (me : ℕ) (base : Base) → Near (bound_at 0) (born_replica slots_ahead me base)
  pub near_more : (bound : ℕ) (r : ReplicaState) → Near bound r → Near (bound + added) r
  pub names_more : (bound : ℕ) (body : MailBody) → Names bound body → Names (bound + added) body
  pub requests : (bound : ℕ) (group : Draw) (client seq : ℕ) (op : Op) → Names bound (Request group client seq op)
  pub mailed_so : (base : Base) (me : ℕ) → IsFresh base me → (bound from : ℕ) (body : MailBody) (r : ReplicaState) → IsFixedBody base from me body → Names bound body → IsFixedPlace base me (r, []) → Near bound r
      → Near (bound + added) (mailed from body (r, [])).0.0 × Each (λ (mail : Mail). Names (bound + added) mail.body) (mailed from body (r, [])).0.1
  pub ticked_so : (base : Base) (me : ℕ) → IsFresh base me → (bound : ℕ) (drawer : Drawer) (r : ReplicaState) → IsFixedPlace base me (r, []) → Near bound r
      → Near (bound + added) (tick_row false drawer (r, [])).0 × Each (λ (mail : Mail). Names (bound + added) mail.body) (tick_row false drawer (r, [])).1

module _ (g : Growth) (bases : List Base) (fresh : AreFresh bases) (node : NodeState) (k : IsFixedNode bases node) (bound : ℕ) where
  abbrev Before : ReplicaState → Type 0
  Before r = g.Near bound r

  abbrev After : ReplicaState → Type 0
  After r = g.Near (bound + g.added) r

  abbrev Said : List Mail → Type 0
  Said mails = Each (λ (mail : Mail). g.Names (bound + g.added) mail.body) mails

  abbrev pub NodeAfter : NodeState × List Mail → Type 0
  NodeAfter step = Each After step.0.replicas × Said step.1

  later : (replicas : List ReplicaState) → Each Before replicas → Each After replicas
  later replicas n = Each-weaker Before After (λ r b. g.near_more bound r b) replicas n

  put_near : (group : Draw) (new : ReplicaState) (replicas : List ReplicaState) → After new → Each After replicas → Each After (with_replica group new replicas)
  put_near group new [] a n = tt
  put_near group new (r ∷ replicas) a n = either_way (Each After) (same_draw (name_of r) group) (new ∷ replicas) (r ∷ with_replica group new replicas) (a, n.1) (n.0, put_near group new replicas a n.1)

  by_mail : (mail : Mail) → g.Names bound mail.body → Each Before node.replicas → PassesMail node mail ⊎ TakesMail bases node mail → NodeAfter (node_table node (Got mail))
  by_mail mail names n (inl p) = subst NodeAfter (sym p.step) (later node.replicas n, tt)
  by_mail mail names n (inr t) =
      let was : Before t.replica = Each-among Before node.replicas t.replica n (find_found (λ (x : ReplicaState). same_draw (name_of x) t.base.core.id) node.replicas t.replica t.found).0 in
      let place : Place = (mailed mail.from mail.body (t.replica, [])).0 in
      let now = g.mailed_so t.base node.me (fresh.each t.base t.among node.me t.member) bound mail.from mail.body t.replica t.says names (record { me_is = t.me_is; fixed = t.fixed; ballots = t.ballots; said = tt }) was in
      subst NodeAfter (sym t.step) (put_near t.base.core.id place.0 node.replicas now.0 (later node.replicas n), now.1)

  tick_near : (drawer : Drawer) (replicas : List ReplicaState) (mails : List Mail) → Each (One bases fresh node k) replicas → Each Before replicas → Said mails → Each After (ticked false drawer replicas mails).0 × Said (ticked false drawer replicas mails).1
  unfolding ticked
  tick_near drawer [] mails here n s = (tt, s)
  tick_near drawer (r ∷ replicas) mails here n s =
      let one = here.0 in
      let place : Place = tick_row false drawer (r, []) in
      let now = g.ticked_so one.0 node.me (fresh.each one.0 one.1 node.me one.2) bound drawer r (into bases fresh node.me r one) n.0 in
      let fact = sym (one_ticks bases fresh node k drawer r mails one).1 in
      let said : Said (mails ++ place.1) = Each-append (λ (mail : Mail). g.Names (bound + g.added) mail.body) mails place.1 s now.1 in
      let rest = tick_near (names_after_tick false drawer r) replicas (tick_row false drawer (r, mails)).1 here.1 n.1 (subst (λ (p : Place). Said p.1) fact said) in
      ((subst (λ (p : Place). After p.0) fact now.0, rest.0), rest.1)

  pub steps_near : (input : Input Mail OrderLine) → node.policy ≡ false → MayTake bases node.me input → ((mail : Mail) → input ≡ Got mail → g.Names bound mail.body) → Each Before node.replicas → NodeAfter (node_table node input)
  steps_near (Got mail) off m names n = by_mail mail (names mail refl) n (mail_taken bases fresh node k mail m.0 m.1)
  steps_near Tick off m names n = subst (λ (on : Bool). Each After (ticked on node.draws node.replicas []).0 × Said (ticked on node.draws node.replicas []).1) (sym off) (tick_near node.draws node.replicas [] k.replicas n tt)
  steps_near Go off m names n = (later node.replicas n, tt)
  steps_near (ToldInput line) off m names n = absurd m

-- ---- journals

-- a node's replicas are within a bound
abbrev pub PlayerGrown : Growth → ℕ → Player → Type 0
PlayerGrown g bound (Node node) = Each (g.Near bound) node.replicas
PlayerGrown g bound (Client client) = Unit {0}

-- After these rows each actor is of groups that are not reshaped, and its replicas and all mail are within this bound.
pub record IsGrownJournal (g : Growth) (scenario : Scenario) (bound : ℕ) (rows : Rows) : Type 0 where
  pub fixed : IsFixedJournal scenario rows
  pub sent : Each (λ (mail : Mail). g.Names bound mail.body) (mails rows)
  pub players : (seat : Seat Player) → IsOf scenario seat → PlayerGrown g bound (value player_table seat rows)

module _ (g : Growth) (words : ℕ → ℕ → ℕ × ℕ) (scenario : Scenario) (bounded : IsBounded scenario) (off : scenario.policy ≡ false) where
  abbrev bases : List Base
  bases = scenario.groups

  -- ---- births

  born_all : (me : ℕ) (some : List Base) → Each (λ (r : ReplicaState). g.Near (g.bound_at 0) r) (born_replicas slots_ahead me some)
  born_all me [] = tt
  born_all me (base ∷ some) =
      cond_both (is_member base.core.members me) (base ∷ filter (λ (b : Base). is_member b.core.members me) some) (filter (λ (b : Base). is_member b.core.members me) some)
      (λ (bs : List Base). Each (λ (r : ReplicaState). g.Near (g.bound_at 0) r) (map (λ (b : Base). born_replica slots_ahead me b) bs))
      (λ _. (g.begins me base, born_all me some)) (λ _. born_all me some)

  abbrev IsBornSeat : Seat Player → Type 0
  IsBornSeat seat = PlayerGrown g (g.bound_at 0) seat.actor

  first_near : IsGrownJournal g scenario (g.bound_at 0) []
  first_near = record {
    fixed = first_fixed words scenario bounded off;
    sent = tt;
    players = seat_born IsBornSeat scenario (λ n. born_all n bases) (λ base a c. tt);
  }

  -- ---- one row more

  module _ (bound : ℕ) where
    abbrev Names : List Mail → Type 0
    Names sent = Each (λ (mail : Mail). g.Names bound mail.body) sent

    abbrev Acted : Player × List Mail → Type 0
    Acted p = PlayerGrown g (bound + g.added) p.0 × Each (λ (mail : Mail). g.Names (bound + g.added) mail.body) p.1

    stays : (p : Player) → PlayerGrown g bound p → Acted (p, [])
    stays (Node node) n = (Each-weaker (λ (r : ReplicaState). g.Near bound r) (λ (r : ReplicaState). g.Near (bound + g.added) r) (λ r b. g.near_more bound r b) node.replicas n, tt)
    stays (Client client) n = (tt, tt)

    named : (sent : List Mail) (number : ℕ) (mail : Mail) → Names sent → numbered sent number ≡ Some mail → g.Names bound mail.body
    named sent zero mail s e = absurd (cc)
    named sent (suc place) mail s e = Each-among (λ (m : Mail). g.Names bound m.body) sent mail s (place_among sent place mail e)

    takes : (who : ℕ) (p : Player) (input : Input Mail OrderLine) → MayTake bases who input → ((mail : Mail) → input ≡ Got mail → g.Names bound mail.body) → IsFixedPlayer bases who p → PlayerGrown g bound p → Acted (player_table p input)
    takes who (Node node) input may names k n = steps_near g bases (fresh words scenario bounded off) node k.2 bound input k.1 (subst (λ (m : ℕ). MayTake bases m input) (sym k.0) may) names n
    takes who (Client client) input may names k n = (tt, each_request (λ body. g.Names (bound + g.added) body) (g.requests (bound + g.added)) client input)

    acts : (sent : List Mail) (who : ℕ) (p : Player) (event : Event OrderLine) → Each (IsFixedMail bases) sent → Names sent → Brings sent who event → IsFixedPlayer bases who p → PlayerGrown g bound p → Acted (acted player_table p (input_of sent event))
    acts sent who p (Deliver number) s names b k n =
        subst (λ (o : Option Mail). Acted (acted player_table p (option_map Got o))) (sym b.1)
        (takes who p (Got b.0) (given words scenario bounded off sent number b.0 s b.1, b.2) (λ mail e. (let same : b.0 ≡ mail = cc in subst (λ (m : Mail). g.Names bound m.body) same (named sent number b.0 names b.1))) k n)
    acts sent who p TickEvent s names b k n = takes who p Tick tt (λ mail e. absurd (cc)) k n
    acts sent who p GoEvent s names b k n = takes who p Go tt (λ mail e. absurd (cc)) k n
    acts sent who p (ToldEvent line) s names b k n = absurd b
    acts sent who p Crash s names b k n = stays p n
    acts sent who p (Drop number) s names b k n = stays p n
    acts sent who p (Again number) s names b k n = stays p n

    module _ (rows : Rows) (row : Row Mail OrderLine) (without_orders : is_told row.event ≡ false) (now : IsGrownJournal g scenario bound rows) where
      row_acts : (who : ℕ) → row.who ≡ who → IsStep (system_of as_nodes words scenario) rows row → (seat : Seat Player) → seat.who ≡ who → IsOf scenario seat → Acted (acted player_table (value player_table seat rows) (input_of (mails rows) row.event))
      row_acts who same step seat fact is_of =
          acts (mails rows) seat.who (value player_table seat rows) row.event now.fixed.sent now.sent (brings words scenario bounded off rows row without_orders now.fixed seat.who (same ∙ sym fact) step) (now.fixed.players seat is_of) (now.players seat is_of)

      row_sent : IsStep (system_of as_nodes words scenario) rows row → Each (λ (mail : Mail). g.Names (bound + g.added) mail.body) row.sent
      row_sent (inl step) =
          let event_is : row.event ≡ step.event = ap (λ (r : Row Mail OrderLine). r.event) step.row_is in
          let who_is : row.who ≡ step.seat.who = ap (λ (r : Row Mail OrderLine). r.who) step.row_is in
          subst (λ (ms : List Mail). Each (λ (mail : Mail). g.Names (bound + g.added) mail.body) ms) (sym (ap (λ (r : Row Mail OrderLine). r.sent) step.row_is))
          (subst (λ (event : Event OrderLine). Acted (acted player_table (value player_table step.seat rows) (input_of (mails rows) event))) event_is (row_acts step.seat.who who_is (inl step) step.seat refl step.born)).1
      row_sent (inr step) = subst (λ (ms : List Mail). Each (λ (mail : Mail). g.Names (bound + g.added) mail.body) ms) (sym (ap (λ (r : Row Mail OrderLine). r.sent) step.row_is)) tt

      next_near : IsStep (system_of as_nodes words scenario) rows row → IsGrownJournal g scenario (bound + g.added) (rows ++ row ∷ [])
      next_near step = record {
        fixed = next_fixed words scenario bounded off rows row without_orders now.fixed step;
        sent = subst (λ (ms : List Mail). Each (λ (mail : Mail). g.Names (bound + g.added) mail.body) ms) (sym (mails-snoc rows row))
            (Each-append (λ (mail : Mail). g.Names (bound + g.added) mail.body) (mails rows) row.sent
            (Each-weaker (λ (mail : Mail). g.Names bound mail.body) (λ (mail : Mail). g.Names (bound + g.added) mail.body) (λ mail n. g.names_more bound mail.body n) (mails rows) now.sent) (row_sent step));
        players = λ seat is_of. subst (PlayerGrown g (bound + g.added)) (sym (value-snoc player_table seat rows row))
            (cond_both (eqb row.who seat.who) (acted player_table (value player_table seat rows) (input_of (mails rows) row.event)).0 (value player_table seat rows) (PlayerGrown g (bound + g.added))
            (λ t. (row_acts seat.who (eqb-true row.who seat.who t) step seat refl is_of).0) (λ _. (stays (value player_table seat rows) (now.players seat is_of)).0));
      }

  -- ---- all rows

  pub journal_grown : (rows : Rows) → AreWithoutOrders words scenario bounded off rows → Lawful as_nodes words scenario rows → IsGrownJournal g scenario (g.bound_at (length rows)) rows
  journal_grown rows without_orders lawful =
      lawful-induction (system_of as_nodes words scenario) (λ (xs : Rows). AreWithoutOrders words scenario bounded off xs → IsGrownJournal g scenario (g.bound_at (length xs)) xs)
      (λ xs row keeps step more. (
      let parts = untold_parts words scenario bounded off xs row more in
      let same : g.bound_at (length xs) + g.added ≡ g.bound_at (length (xs ++ row ∷ [])) = g.then_ (length xs) ∙ ap g.bound_at (sym (length_push xs row)) in
      subst (λ (n : ℕ). IsGrownJournal g scenario n (xs ++ row ∷ [])) same (next_near (g.bound_at (length xs)) xs row parts.1 (keeps parts.0) step))) (schedule scenario) rows (λ _. first_near) lawful without_orders
