-- In each lawful journal without orders and policy no replica and no mail knows a request of a client with a greater number than those that the client has sent.
use Rattle.std.proofs.Common.{◌≡◌, ℕ, zero, suc, ◌+◌, ◌-◌, ◌≤◌, ◌&&◌, ◌||◌, eqb, nat_cmp, Bool, true, false, List, [], ◌∷◌, ◌++◌, map, filter, Option, Some, None, refl, sym, ◌∙◌, ap, subst, inl, inr, ◌⊎◌}
use Rattle.std.specs.Option.{option_map}
use Rattle.std.specs.List.{list_any}
use Rattle.std.specs.FinMap.{get-empty}
use Rattle.std.proofs.lemmas.Bool.{cond_both, eqb-true, eq-eqb, and_from, or_left, or_right}
use Rattle.sc_base.specs.Definitions.{Among, Each, Drawer, same_draw, is_member, client_actor}
use Rattle.sc_node_table.specs.Values.{Draw, Seat, Row, Event, Deliver, Drop, Again, Crash, Input, Got, Base, OrderLine, Mail, MailBody, Accept, Learn, Prepare, Node, Client}
use Rattle.sc_actor.specs.declared.rows.Event.TheVariants.{Tick as TickEvent, Go as GoEvent, Told as ToldEvent}
use Rattle.sc_actor.specs.declared.rows.Input.TheVariants.{Tick, Go, Told as ToldInput}
use Rattle.sc_actor.specs.Definitions.{mails, numbered, acted, input_of, value, IsStep}
use Rattle.sc_actor.proofs.Lemmas.{lawful-induction, value-snoc, mails-snoc}
use Rattle.sc_words.proofs.PaxosProofs.PaxosLemmas.{Each-among, Each-append, find_found}
use Rattle.sc_group_table.specs.machine.MachineDefinitions.{group_of}
use Rattle.sc_node_table.specs.NodeDefinitions.{NodeState, ReplicaState, Place, next, name_of, flying, open_nodes, with_replica, mailed, ticked, tick_row, names_after_tick, node_table, slots_ahead, born_replica, born_replicas}
use Rattle.sc_law_entries.proofs.NamesProofs.HeldCommands as held
use Rattle.sc_law_walks.proofs.Talks.{all_sent}
use Rattle.sc_law_walks.proofs.WalkLemmas.{either_way}
use Rattle.sc_client_table.specs.table.TableDefinitions.{Client as ClientState, table}
use Rattle.sc_client_table.proofs.TableProofs.TurnLemmas.{sends_in_turn}
use Rattle.sc_paxos_law.proofs.Lemmas.{place_among}
use Rattle.sc_scenario.specs.declared.scenario.scenarios.Scenario.{Scenario}
use Rattle.sc_scenario.specs.scenario.Definitions.{IsBounded}
use Rattle.sc_meaning.specs.sound.SoundDefinitions.{Lawful, Player, as_nodes, player_table, schedule, system_of, issues, asks_for}
use Rattle.sc_live_orderly.specs.OrderlyDefinitions.{is_told}
use Rattle.sc_law_groups.proofs.WholeProofs.WholeLemmas.{group_place}
use Rattle.sc_live_healed.proofs.SeatBirths.{seat_born}
use Rattle.sc_live_healed.specs.HealedDefinitions.{IsFixedMail, IsFixedNode, IsFixedBody}
use Rattle.sc_live_healed.proofs.FixedWalks.{IsFresh, IsFixedPlace}
use Rattle.sc_live_healed.proofs.FixedParts.{opt_some}
use Rattle.sc_live_healed.proofs.FixedRows.{takes_mail}
use Rattle.sc_live_healed.proofs.FixedTicks.{ticks}
use Rattle.sc_live_healed.proofs.FixedBesides.{FixedTickStates, both_walk, both_ticks}
use Rattle.sc_live_healed.proofs.FixedJournals.{Rows, IsFixedPlayer, IsOf, IsFixedJournal, Brings, fresh, given, first_fixed, brings, next_fixed, AreWithoutOrders, untold_parts}
use Rattle.sc_live_healed.proofs.FixedNodes.{AreFresh, MayTake, One, into, one_ticks}
use Rattle.sc_live_healed.proofs.FixedGroupMail.{TakesMail, PassesMail, mail_taken}
use Rattle.sc_live_healed.proofs.AskingJournals.{IsAskingJournal, IsAskingPlayer, next_asking, first_asking, issued_push}
use Rattle.sc_live_healed.proofs.NumberedRequests.{C, HasNoted, IsFewBody, IsFewPlace, Said, said_few, entry_few, few_facts, few_states}

module _ (client bound : ℕ) where
  abbrev Few : Place → Type 0
  Few place = IsFewPlace client bound place

  abbrev FewBody : MailBody → Type 0
  FewBody body = IsFewBody client bound body

  -- ---- one replica

  module _ (base : Base) (me : ℕ) (born : IsFresh base me) where
    pub mailed_few : (from : ℕ) (body : MailBody) (start : ReplicaState) → IsFixedBody base from me body → FewBody body → IsFixedPlace base me (start, []) → Few (start, []) → Few (mailed from body (start, [])).0
    mailed_few from body start h few f k = (takes_mail base me (both_walk base me born (few_facts client bound base me) (few_states client bound base me)) from body (start, []) (h, few) tt (f, k)).0.1

    few_ticks : FixedTickStates base me (few_facts client bound base me)
    few_ticks = record {
      elected = λ r mails off f k. record {
        held = (k.held.0, k.held.1, tt, tt, tt);
        accepted = k.accepted;
        entries = k.entries;
        noted = k.noted;
        said = all_sent r.me (λ ms. Said client bound ms) (Prepare (name_of r) (record { round = r.top.round + 1; node = r.me }) (next r)) (λ to ms m. Each-append (λ (mail : Mail). FewBody mail.body) ms _ m (tt, tt)) (open_nodes r.sets) mails k.said;
      };
      reasks = λ to slot command r mails m on e f k. said_few client bound r mails to (Accept (name_of r) r.leader.ballot slot command) (opt_some (C client bound) (flying r slot) command e (held.flying_held (C client bound) r slot k.held)) k;
      relearns = λ to command r mails m on e f k. said_few client bound r mails to (Learn (name_of r) (next r - 1) command) (entry_few client bound base me (next r - 1) r.log command e k.entries) k;
    }

    pub ticked_few : (drawer : Drawer) (start : ReplicaState) → IsFixedPlace base me (start, []) → Few (start, []) → Few (tick_row false drawer (start, []))
    ticked_few drawer start f k = (ticks base me (both_walk base me born (few_facts client bound base me) (few_states client bound base me)) (both_ticks base me born (few_facts client bound base me) (few_states client bound base me) few_ticks) drawer (start, []) (f, k)).1

  -- ---- one node

  module _ (bases : List Base) (apart : AreFresh bases) (node : NodeState) (k : IsFixedNode bases node) where
    abbrev pub AllFew : List ReplicaState → Type 0
    AllFew replicas = Each (λ (r : ReplicaState). Few (r, [])) replicas

    abbrev pub Says : List Mail → Type 0
    Says mails = Each (λ (mail : Mail). FewBody mail.body) mails

    abbrev pub NodeFew : NodeState × List Mail → Type 0
    NodeFew step = AllFew step.0.replicas × Says step.1

    alone : (place : Place) → Few place → Few (place.0, [])
    alone place n = record { held = n.held; accepted = n.accepted; entries = n.entries; noted = n.noted; said = tt }

    put_few : (group : Draw) (new : ReplicaState) (replicas : List ReplicaState) → Few (new, []) → AllFew replicas → AllFew (with_replica group new replicas)
    put_few group new [] a n = tt
    put_few group new (r ∷ replicas) a n = either_way AllFew (same_draw (name_of r) group) (new ∷ replicas) (r ∷ with_replica group new replicas) (a, n.1) (n.0, put_few group new replicas a n.1)

    by_mail : (mail : Mail) → FewBody mail.body → AllFew node.replicas → PassesMail node mail ⊎ TakesMail bases node mail → NodeFew (node_table node (Got mail))
    by_mail mail few n (inl p) = subst NodeFew (sym p.step) (n, tt)
    by_mail mail few n (inr t) =
        let was : Few (t.replica, []) = Each-among (λ (r : ReplicaState). Few (r, [])) node.replicas t.replica n (find_found (λ (x : ReplicaState). same_draw (name_of x) t.base.core.id) node.replicas t.replica t.found).0 in
        let place : Place = (mailed mail.from mail.body (t.replica, [])).0 in
        let now : Few place = mailed_few t.base node.me (apart.each t.base t.among node.me t.member) mail.from mail.body t.replica t.says few (record { me_is = t.me_is; fixed = t.fixed; ballots = t.ballots; said = tt }) was in
        subst NodeFew (sym t.step) (put_few t.base.core.id place.0 node.replicas (alone place now) n, now.said)

    tick_few : (drawer : Drawer) (replicas : List ReplicaState) (mails : List Mail) → Each (One bases apart node k) replicas → AllFew replicas → Says mails → AllFew (ticked false drawer replicas mails).0 × Says (ticked false drawer replicas mails).1
    unfolding ticked
    tick_few drawer [] mails here n s = (tt, s)
    tick_few drawer (r ∷ replicas) mails here n s =
        let one = here.0 in
        let place : Place = tick_row false drawer (r, []) in
        let now : Few place = ticked_few one.0 node.me (apart.each one.0 one.1 node.me one.2) drawer r (into bases apart node.me r one) n.0 in
        let fact = sym (one_ticks bases apart node k drawer r mails one).1 in
        let said : Says (mails ++ place.1) = Each-append (λ (mail : Mail). FewBody mail.body) mails place.1 s now.said in
        let rest = tick_few (names_after_tick false drawer r) replicas (tick_row false drawer (r, mails)).1 here.1 n.1 (subst (λ (p : Place). Says p.1) fact said) in
        ((subst (λ (p : Place). Few (p.0, [])) fact (alone place now), rest.0), rest.1)

    pub steps_few : (input : Input Mail OrderLine) → node.policy ≡ false → MayTake bases node.me input → ((mail : Mail) → input ≡ Got mail → FewBody mail.body) → AllFew node.replicas → NodeFew (node_table node input)
    steps_few (Got mail) off m few n = by_mail mail (few mail refl) n (mail_taken bases apart node k mail m.0 m.1)
    steps_few Tick off m few n = subst (λ (on : Bool). AllFew (ticked on node.draws node.replicas []).0 × Says (ticked on node.draws node.replicas []).1) (sym off) (tick_few node.draws node.replicas [] k.replicas n tt)
    steps_few Go off m few n = (n, tt)
    steps_few (ToldInput line) off m few n = absurd m

  -- ---- journals

  -- a node's replicas know no greater number
  abbrev pub PlayerFew : Player → Type 0
  PlayerFew (Node node) = Each (λ (r : ReplicaState). Few (r, [])) node.replicas
  PlayerFew (Client other) = Unit {0}

  -- After these rows no replica and no mail knows a request of the client with a greater number.
  pub record IsFewJournal (scenario : Scenario) (rows : Rows) : Type 0 where
    pub fixed : IsFixedJournal scenario rows
    pub sent : Each (λ (mail : Mail). FewBody mail.body) (mails rows)
    pub players : (seat : Seat Player) → IsOf scenario seat → PlayerFew (value player_table seat rows)

  -- the client has sent no greater number
  abbrev pub HasSentFew : Rows → Type 0
  HasSentFew rows = (seq : ℕ) → list_any (issues client seq) rows ≡ true → seq ≤ bound

  module _ (words : ℕ → ℕ → ℕ × ℕ) (scenario : Scenario) (bounded : IsBounded scenario) (off : scenario.policy ≡ false) where
    abbrev bases : List Base
    bases = scenario.groups

    -- ---- births

    born_noted : (base : Base) → Among base bases → HasNoted client bound (group_of base)
    born_noted base a =
        let p = group_place scenario bounded base a in
        subst (λ (b : Base). HasNoted client bound (group_of b)) p.2 (λ note e. absurd (none_some (sym (get-empty nat_cmp client) ∙ e)))
      where
        none_some : {X : Type 0} {x : X} → None ≡ Some x → ⊥
        none_some e = cc

    born_all : (me : ℕ) (some : List Base) → ((base : Base) → Among base some → Among base bases) → Each (λ (r : ReplicaState). Few (r, [])) (born_replicas slots_ahead me some)
    born_all me [] within = tt
    born_all me (base ∷ some) within =
        let rest = born_all me some (λ b a. within b (inr a)) in
        cond_both (is_member base.core.members me) (base ∷ filter (λ (b : Base). is_member b.core.members me) some) (filter (λ (b : Base). is_member b.core.members me) some)
        (λ (bs : List Base). Each (λ (r : ReplicaState). Few (r, [])) (map (λ (b : Base). born_replica slots_ahead me b) bs))
        (λ _. (record { held = (tt, tt, tt, tt, tt); accepted = tt; entries = tt; noted = born_noted base (within base (inl refl)); said = tt }, rest)) (λ _. rest)

    abbrev IsBornSeat : Seat Player → Type 0
    IsBornSeat seat = PlayerFew seat.actor

    first_few : IsFewJournal scenario []
    first_few = record {
      fixed = first_fixed words scenario bounded off;
      sent = tt;
      players = seat_born IsBornSeat scenario (λ n. born_all n bases (λ b a. a)) (λ base a c. tt);
    }

    -- ---- one row more

    -- whoever sends these mails sends no greater number of the client
    abbrev MayIssue : ℕ → List Mail → Type 0
    MayIssue who sent = (seq : ℕ) → (eqb who (client_actor client) && list_any (λ (mail : Mail). asks_for client seq mail.body) sent) ≡ true → seq ≤ bound

    abbrev Acted : ℕ → Player × List Mail → Type 0
    Acted who step = PlayerFew step.0 × (MayIssue who step.1 → Each (λ (mail : Mail). FewBody mail.body) step.1)

    client_sends : (who : ℕ) (other : ClientState) (input : Input Mail OrderLine) → who ≡ client_actor other.me → MayIssue who (table other input).1 → Each (λ (mail : Mail). FewBody mail.body) (table other input).1
    client_sends who other input number may =
        let t = sends_in_turn other input in
        elim (t.sends) [
          | inl none ↦ subst (λ (ms : List Mail). Each (λ (mail : Mail). FewBody mail.body) ms) (sym none) tt
          | inr one ↦
              let after : ClientState = (table other input).0 in
              subst (λ (ms : List Mail). Each (λ (mail : Mail). FewBody mail.body) ms) (sym one.4) (
                λ same. may one.2.0
                    (and_from (eqb who (client_actor client)) (list_any (λ (mail : Mail). asks_for client one.2.0 mail.body) (table other input).1) (eq-eqb who (client_actor client) (number ∙ ap client_actor (sym t.me ∙ same)))
                    (ap (λ (ms : List Mail). list_any (λ (mail : Mail). asks_for client one.2.0 mail.body) ms) one.4 ∙ or_left (eqb after.me client && eqb one.2.0 one.2.0) false (and_from (eqb after.me client) (eqb one.2.0 one.2.0) (eq-eqb after.me client same) (eq-eqb one.2.0 one.2.0 refl)))),
                tt,
              )
        ]

    takes : (rows : Rows) (who : ℕ) (p : Player) (input : Input Mail OrderLine) → MayTake bases who input → ((mail : Mail) → input ≡ Got mail → FewBody mail.body) → IsAskingPlayer rows who p → IsFixedPlayer bases who p → PlayerFew p → Acted who (player_table p input)
    takes rows who (Node node) input may few asking k n = (let s = steps_few bases (fresh words scenario bounded off) node k.2 input k.1 (subst (λ (m : ℕ). MayTake bases m input) (sym k.0) may) few n in (s.0, λ _. s.1))
    takes rows who (Client other) input may few asking k n = (tt, λ issue. client_sends who other input asking.number issue)

    stays : (who : ℕ) (p : Player) → PlayerFew p → Acted who (p, [])
    stays who (Node node) n = (n, λ _. tt)
    stays who (Client other) n = (tt, λ _. tt)

    named : (sent : List Mail) (number : ℕ) (mail : Mail) → Each (λ (m : Mail). FewBody m.body) sent → numbered sent number ≡ Some mail → FewBody mail.body
    named sent zero mail s e = absurd (cc)
    named sent (suc place) mail s e = Each-among (λ (m : Mail). FewBody m.body) sent mail s (place_among sent place mail e)

    acts : (rows : Rows) (sent : List Mail) (who : ℕ) (p : Player) (event : Event OrderLine) → Each (IsFixedMail bases) sent → Each (λ (m : Mail). FewBody m.body) sent → Brings sent who event → IsAskingPlayer rows who p → IsFixedPlayer bases who p → PlayerFew p → Acted who (acted player_table p (input_of sent event))
    acts rows sent who p (Deliver number) s few b asking k n =
        subst (λ (o : Option Mail). Acted who (acted player_table p (option_map Got o))) (sym b.1)
        (takes rows who p (Got b.0) (given words scenario bounded off sent number b.0 s b.1, b.2) (λ mail e. (let same : b.0 ≡ mail = cc in subst (λ (m : Mail). FewBody m.body) same (named sent number b.0 few b.1))) asking k n)
    acts rows sent who p TickEvent s few b asking k n = takes rows who p Tick tt (λ mail e. absurd (cc)) asking k n
    acts rows sent who p GoEvent s few b asking k n = takes rows who p Go tt (λ mail e. absurd (cc)) asking k n
    acts rows sent who p (ToldEvent line) s few b asking k n = absurd b
    acts rows sent who p Crash s few b asking k n = stays who p n
    acts rows sent who p (Drop number) s few b asking k n = stays who p n
    acts rows sent who p (Again number) s few b asking k n = stays who p n

    module _ (rows : Rows) (row : Row Mail OrderLine) (without_orders : is_told row.event ≡ false) (asking : IsAskingJournal words scenario rows) (now : IsFewJournal scenario rows) where
      row_acts : (who : ℕ) → row.who ≡ who → IsStep (system_of as_nodes words scenario) rows row → (seat : Seat Player) → seat.who ≡ who → IsOf scenario seat → Acted seat.who (acted player_table (value player_table seat rows) (input_of (mails rows) row.event))
      row_acts who same step seat fact is_of =
          acts rows (mails rows) seat.who (value player_table seat rows) row.event now.fixed.sent now.sent (brings words scenario bounded off rows row without_orders now.fixed seat.who (same ∙ sym fact) step) (asking.players seat is_of) (now.fixed.players seat is_of) (now.players seat is_of)

      row_sent : IsStep (system_of as_nodes words scenario) rows row → MayIssue row.who row.sent → Each (λ (mail : Mail). FewBody mail.body) row.sent
      row_sent (inl step) issue =
          let event_is : row.event ≡ step.event = ap (λ (r : Row Mail OrderLine). r.event) step.row_is in
          let who_is : row.who ≡ step.seat.who = ap (λ (r : Row Mail OrderLine). r.who) step.row_is in
          let sent_is = ap (λ (r : Row Mail OrderLine). r.sent) step.row_is in
          let both = subst (λ (event : Event OrderLine). Acted step.seat.who (acted player_table (value player_table step.seat rows) (input_of (mails rows) event))) event_is (row_acts step.seat.who who_is (inl step) step.seat refl step.born) in
          subst (λ (ms : List Mail). Each (λ (mail : Mail). FewBody mail.body) ms) (sym sent_is) (both.1 (subst (λ (ms : List Mail). MayIssue step.seat.who ms) sent_is (subst (λ (n : ℕ). MayIssue n row.sent) who_is issue)))
      row_sent (inr step) issue = subst (λ (ms : List Mail). Each (λ (mail : Mail). FewBody mail.body) ms) (sym (ap (λ (r : Row Mail OrderLine). r.sent) step.row_is)) tt

      next_few : IsStep (system_of as_nodes words scenario) rows row → MayIssue row.who row.sent → IsFewJournal scenario (rows ++ row ∷ [])
      next_few step issue = record {
        fixed = next_fixed words scenario bounded off rows row without_orders now.fixed step;
        sent = subst (λ (ms : List Mail). Each (λ (mail : Mail). FewBody mail.body) ms) (sym (mails-snoc rows row)) (Each-append (λ (mail : Mail). FewBody mail.body) (mails rows) row.sent now.sent (row_sent step issue));
        players = λ seat is_of. subst PlayerFew (sym (value-snoc player_table seat rows row))
            (cond_both (eqb row.who seat.who) (acted player_table (value player_table seat rows) (input_of (mails rows) row.event)).0 (value player_table seat rows) PlayerFew
            (λ t. (row_acts seat.who (eqb-true row.who seat.who t) step seat refl is_of).0) (λ _. now.players seat is_of));
      }

    -- ---- all rows

    pub journal_few : (rows : Rows) → AreWithoutOrders words scenario bounded off rows → HasSentFew rows → Lawful as_nodes words scenario rows → IsFewJournal scenario rows
    journal_few rows without_orders few lawful =
        (lawful-induction (system_of as_nodes words scenario) (λ (xs : Rows). IsAskingJournal words scenario xs × (AreWithoutOrders words scenario bounded off xs → HasSentFew xs → IsFewJournal scenario xs))
        (λ xs row keeps step. (
          next_asking words scenario xs row step keeps.0,
          λ more few. (
              let parts = untold_parts words scenario bounded off xs row more in
              next_few xs row parts.1 keeps.0 (keeps.1 parts.0 (λ seq e. few seq (issued_push words scenario xs row client seq ∙ or_left (list_any (issues client seq) xs) (issues client seq row || false) e))) step
              (λ seq e. few seq (issued_push words scenario xs row client seq ∙ or_right (list_any (issues client seq) xs) (issues client seq row || false) (or_left (issues client seq row) false e)))),
        )) (schedule scenario) rows (first_asking words scenario, λ _ _. first_few) lawful).1 without_orders few
