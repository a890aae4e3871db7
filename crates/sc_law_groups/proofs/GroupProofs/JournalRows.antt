-- What each row of a lawful journal does to what holds, whatever may be queued and said of transactions: the rows of nodes, of clients and of the network.
use Rattle.std.proofs.Common.{◌≡◌, ℕ, ◌≤◌, ◌&&◌, Bool, true, false, eqb, List, [], ◌∷◌, ◌++◌, map, Some, None, inl, inr, refl, sym, ◌∙◌, ap, subst, arith}
use Rattle.std.specs.Option.{option_map}
use Rattle.std.proofs.lemmas.Bool.{cases_Bool, eqb-true, eqb-false, eq-eqb, ne_eqb}
use Rattle.sc_node_table.specs.Values.{Command, Base, OrderLine, Mail, MailBody, Row, Event, Deliver, Tick, Go, Crash, Drop, Again, Input, Got, Seat, Ballot, Route, Node as ANode, Client as AClient}
use Rattle.sc_actor.specs.declared.rows.Event.TheVariants.{Told}
use Rattle.sc_actor.specs.declared.rows.Input.TheVariants.{Tick as TickInput, Go as GoInput, Told as ToldInput}
use Rattle.sc_actor.specs.Definitions.{mails, value, acted, input_of, row_of, network, is_go, IsOpen, ActorStep, IsStep}
use Rattle.sc_client_table.specs.table.TableDefinitions.{Client, table, InTurn}
use Rattle.sc_client_table.proofs.TableProofs.TurnLemmas.{sends_in_turn}
use Rattle.sc_node_table.specs.NodeDefinitions.{NodeState, group_of_order, replica_of, on_mail, on_tick, on_order, ReplicaState, ordered_command, untaken, numbers_from}
use Rattle.sc_base.specs.Definitions.{next_name, Among, client_actor}
use Rattle.sc_words.proofs.PaxosProofs.PaxosLemmas.{Each-among, find_found}
use Rattle.sc_paxos_law.proofs.Lemmas.{Among-either, from_map}
use Rattle.sc_paxos_law.specs.PaxosLawDefinitions.{Offered, IsLawfulHistory}
use Rattle.sc_scenario.specs.declared.scenario.scenarios.Asks.{Asks}
use Rattle.sc_scenario.specs.declared.scenario.scenarios.Scenario.{Scenario}
use Rattle.sc_meaning.specs.sound.SoundDefinitions.{Ahead, node_seat, births, system_of, player_table, client_seat, Player, replies_of}
use Rattle.sc_meaning.proofs.SoundProofs.SoundLemmas.{any_push}
use Rattle.sc_law_groups.specs.group.GroupDefinitions.{steps_at}
use Rattle.sc_law_groups.proofs.GroupProofs.Invariant.{Steps, rule, first, IsTrue, grown_true}
use Rattle.sc_law_groups.proofs.GroupProofs.RowSteps.{number_among, among_numbers, steps_deliver, steps_plain}
use Rattle.sc_law_groups.proofs.GroupProofs.Frames.{node_row, steps_of}
use Rattle.sc_law_groups.proofs.GroupProofs.Holding.{Holds, still_holds}
use Rattle.sc_law_groups.proofs.GroupProofs.Names.{IsNamedIn, named_later}
use Rattle.sc_law_groups.proofs.GroupProofs.ChosenEntries.{IsChildOf}
use Rattle.sc_law_groups.proofs.GroupProofs.GroupNodes.{IsNewborn, NodeEnded, unchanged, ends_as, mail_ended, order_ended}
use Rattle.sc_law_groups.proofs.GroupProofs.Ticks.{MayTick, tick_ended}
use Rattle.sc_law_groups.proofs.GroupProofs.Projected.{steps-push}
use Rattle.sc_law_groups.proofs.GroupProofs.FirstRows.{Journal}
use Rattle.sc_law_groups.proofs.GroupProofs.Clients.{EachClient, issued_now, SendsAsked, HaveGrown, IsClient, Grew, later_client, client_after, client_sends}
use Rattle.sc_law_groups.proofs.GroupProofs.Families.{h_of, IsNodeAt, IsClientAt, replies_in, Kept, Stepped, IsLater, PartMoved, ClientMoved, Moved}
use Rattle.sc_law_groups.proofs.GroupProofs.Speech.{AnyoneHears, Speaks}
use Rattle.sc_law_groups.proofs.GroupProofs.JournalPlayers.{HasPlayers, other_value, own_value, still_gone, sends_plain, issues_it}

module _ (ahead : Ahead) (words : ℕ → ℕ → ℕ × ℕ) (scenario : Scenario) (firsts bases : List Base) (route : Route) (made_by : Journal → Base → Command → Type 0) (heard_by : Journal → MailBody → Type 0)
    (has : HasPlayers ahead scenario firsts bases route made_by) where
  abbrev nseat : ℕ → Seat Player
  nseat n = node_seat ahead firsts scenario.policy n

  abbrev cseat : Asks → Seat Player
  cseat asks = client_seat route asks

  abbrev K : Journal → Type 0
  K = Kept ahead scenario firsts bases route made_by heard_by

  abbrev M : Journal → Row Mail OrderLine → Type 0
  M = Moved ahead scenario firsts bases route made_by heard_by

  -- what an order asks for may be queued at its group, if a node gets one and takes it, and what policies order at a tick
  abbrev pub MayGiveOrder : Journal → ℕ → Event OrderLine → Type 0
  MayGiveOrder rows n (Told line) =
      1 ≤ n → n ≤ scenario.nodes → (node : NodeState) → value player_table (nseat n) rows ≡ ANode node → (b : Base) → Among b bases → group_of_order line.order ≡ b.core.id
      → (r : ReplicaState) → replica_of (group_of_order line.order) node.replicas ≡ Some r → untaken node.draws line r ≡ None → made_by rows b (ordered_command (next_name node.draws) line.number line.order)
  MayGiveOrder rows n (Deliver number) = Unit {0}
  MayGiveOrder rows n Go = Unit {0}
  MayGiveOrder rows n Tick = 1 ≤ n → n ≤ scenario.nodes → (node : NodeState) → value player_table (nseat n) rows ≡ ANode node → MayTick bases (made_by rows) node.policy node.draws node.replicas
  MayGiveOrder rows n Crash = Unit {0}
  MayGiveOrder rows n (Drop number) = Unit {0}
  MayGiveOrder rows n (Again number) = Unit {0}

  -- each child of a group is one of the groups
  abbrev pub KnowsOffspring : Journal → Type 0
  KnowsOffspring rows = (n : ℕ) (b : Base) → Among b bases → (child : Base) → IsChildOf ahead b (made_by rows b) n (h_of rows b) child → IsNewborn ahead bases (made_by rows) child

  -- ---- players that do not act

  client_still : (rows : Journal) (row : Row Mail OrderLine) → HaveGrown ahead bases (h_of rows) (h_of (rows ++ row ∷ [])) → (asks : Asks) → IsClientAt ahead scenario firsts bases route made_by heard_by rows asks → eqb row.who (client_actor asks.client) ≡ false
      → ClientMoved ahead scenario firsts bases route made_by heard_by rows row asks
  client_still rows row grown asks c f =
      let same = other_value (cseat asks) rows row f in
      record {
        after = record {
          client = c.client;
          value_is = same ∙ c.value_is;
          fact = later_client ahead bases (h_of rows) (h_of (rows ++ row ∷ [])) grown asks c.client c.fact;
          fresh = λ e. c.fresh (still_gone rows row (client_actor asks.client) e);
        };
        grew = inl (ap replies_of same);
      }

  some_client : EachClient scenario (λ asks. 1 ≤ asks.client)
  some_client asks a = Each-among _ scenario.clients asks has.numbered a

  -- ---- rows of nodes

  module _ (rows : Journal) (k : K rows) (elsewhere : AnyoneHears (heard_by rows)) (speaks : (b : Base) → Among b bases → Speaks ahead b (made_by rows b) (heard_by rows) (h_of rows b)) (offspring : KnowsOffspring rows)
      (later : (row : Row Mail OrderLine) → ((b : Base) → Among b bases → Stepped ahead scenario firsts bases route made_by heard_by rows row b) → IsLater ahead scenario firsts bases route made_by heard_by rows row) where
    abbrev h : Base → Steps
    h = h_of rows

    abbrev made : Base → Command → Type 0
    made = made_by rows

    abbrev heard : MailBody → Type 0
    heard = heard_by rows

    lawful : (b : Base) → Among b bases → IsLawfulHistory (rule ahead b) (first ahead b) (h b)
    lawful b a = (k.parts b a).lawful

    requested : (b : Base) → Among b bases → (ballot : Ballot) (slot : ℕ) (c : Command) → Among (Offered ballot slot c) (h b) → made b c
    requested b a = (k.parts b a).requested

    abbrev Ends : ℕ → (Base → Steps) → NodeState × List Mail → Type 0
    Ends n after step = NodeEnded ahead bases made heard elsewhere n h speaks (has.some rows) lawful requested after step

    -- a group's steps of a node's row
    part_stepped : (n : ℕ) (event : Event OrderLine) (step : NodeState × List Mail) (e : Ends n (λ b. steps_at b.core.id (mails rows) (node_row n event step.1) (h b)) step) (b : Base) → Among b bases
        → Stepped ahead scenario firsts bases route made_by heard_by rows (node_row n event step.1) b
    part_stepped n event step e b a =
        let p = e.parts b a in
        let row = node_row n event step.1 in
        let are : h_of (rows ++ row ∷ []) b ≡ p.newer ++ h b = steps-push b.core.id rows row ∙ p.are in
        record {
          newer = p.newer;
          are = are;
          lawful = subst (IsLawfulHistory (rule ahead b) (first ahead b)) (sym are) p.lawful_is;
          requested = λ ballot slot c o. p.requested_is ballot slot c (subst (Among (Offered ballot slot c)) are o);
        }

    -- a group's part of it
    part_moved : (n : ℕ) (event : Event OrderLine) (step : NodeState × List Mail) (e : Ends n (λ b. steps_at b.core.id (mails rows) (node_row n event step.1) (h b)) step) (b : Base) → Among b bases
        → PartMoved ahead scenario firsts bases route made_by heard_by rows (node_row n event step.1) b
    part_moved n event step e b a =
        let p = e.parts b a in
        let row = node_row n event step.1 in
        let next = rows ++ row ∷ [] in
        let are : h_of next b ≡ p.newer ++ h b = steps-push b.core.id rows row ∙ p.are in
        let more = later row (part_stepped n event step e) in
        record {
          stepped = part_stepped n event step e b a;
          true_sent = λ m o. subst (λ g. IsTrue ahead b (made_by next b) (heard_by next) g m m.body) (sym are)
              (grown_true ahead b (made b) (made_by next b) (more.made_later b) heard (heard_by next) more.heard_later [] (p.newer ++ h b) m m.body (p.mails m o));
        }

    node_moved : (n : ℕ) → 1 ≤ n → n ≤ scenario.nodes → (event : Event OrderLine) (step : NodeState × List Mail)
        → acted player_table (value player_table (nseat n) rows) (input_of (mails rows) event) ≡ (ANode step.0, step.1)
        → Ends n (λ b. steps_at b.core.id (mails rows) (node_row n event step.1) (h b)) step → M rows (node_row n event step.1)
    node_moved n low high event step acts ended =
        let row = node_row n event step.1 in
        let next = rows ++ row ∷ [] in
        let limit = has.nodes in
        let are : (b : Base) (a : Among b bases) → h_of next b ≡ (ended.parts b a).newer ++ h b = λ b a. steps-push b.core.id rows row ∙ (ended.parts b a).are in
        record {
          parts = part_moved n event step ended;
          named = λ m a. named_later heard (heard_by next) (later row (part_stepped n event step ended)).heard_later bases m.body (ended.named m a);
          nodes = λ j below above. elim (cases_Bool (eqb n j)) [
            | inl t ↦ (let same = eqb-true n j t in
                subst (λ i. IsNodeAt ahead scenario firsts bases route made_by heard_by rows next i) same
                (record {
                  node = step.0;
                  value_is = own_value (nseat n) rows row refl ∙ ap (λ x. x.0) acts;
                  fact = record {
                    me_is = ended.me_is;
                    known = ended.known;
                    holds = λ b a. subst (λ g. Holds ahead b (made b) n g step.0.replicas) (sym (are b a)) (ended.parts b a).holds;
                  };
                }))
            | inr f ↦ (let at = k.nodes j below above in
                record {
                  node = at.node;
                  value_is = other_value (nseat j) rows row f ∙ at.value_is;
                  fact = record {
                    me_is = at.fact.me_is;
                    known = at.fact.known;
                    holds = λ b a. subst (λ g. Holds ahead b (made b) j g at.node.replicas) (sym (are b a))
                        (still_holds ahead b (made b) j n (ended.parts b a).newer (h b) (ended.parts b a).by (eqb-false n j f) at.node.replicas (at.fact.holds b a));
                  };
                })
          ];
          clients = λ asks stands. (let up = some_client asks stands in
              client_still rows row (λ b a. ((ended.parts b a).newer, are b a)) asks (k.clients asks stands) (ne_eqb n (client_actor asks.client) (λ e. absurd (omega (arith, e, up, high, limit)))));
        }

    node_event : (n : ℕ) → 1 ≤ n → n ≤ scenario.nodes → (event : Event OrderLine) → MayGiveOrder rows n event → IsOpen (system_of ahead words scenario) rows n event → M rows (row_of player_table (nseat n) rows event)
    node_event n low high event may open_ = by event may open_
      where
        at : IsNodeAt ahead scenario firsts bases route made_by heard_by rows rows n
        at = k.nodes n low high

        acting : (e : Event OrderLine) (step : NodeState × List Mail) → acted player_table (ANode at.node) (input_of (mails rows) e) ≡ (ANode step.0, step.1)
            → Ends n (λ b. steps_at b.core.id (mails rows) (node_row n e step.1) (h b)) step → M rows (row_of player_table (nseat n) rows e)
        acting e step acts ended =
            let all = ap (λ p. acted player_table p (input_of (mails rows) e)) at.value_is ∙ acts in
            subst (λ (sent : List Mail). M rows (node_row n e sent)) (sym (ap (λ x. x.1) all)) (node_moved n low high e step all ended)

        quiet : (e : Event OrderLine) → Ends n (λ b. steps_at b.core.id (mails rows) (node_row n e []) (h b)) (at.node, [])
        quiet e = unchanged ahead bases made heard elsewhere n h speaks (has.some rows) lawful requested (λ b. steps_at b.core.id (mails rows) (node_row n e []) (h b)) at.node [] at.fact (λ b a. steps_plain b.core.id (mails rows) n e [] (h b) tt) (λ m a. absurd a) (λ b a m o. absurd o)

        by : (e : Event OrderLine) → MayGiveOrder rows n e → IsOpen (system_of ahead words scenario) rows n e → M rows (row_of player_table (nseat n) rows e)
        by (Deliver number) plain (m, under, to) =
            let step = on_mail m.from m.body at.node in
            let came = number_among (mails rows) number m under.sent in
            acting (Deliver number) step (ap (λ o. acted player_table (ANode at.node) (option_map Got o)) under.sent)
            (ends_as ahead bases made heard elsewhere n h speaks (has.some rows) lawful requested (λ b. steps_of b.core.id n (Deliver number) m.body step.1 (h b))
            (λ b. steps_at b.core.id (mails rows) (node_row n (Deliver number) step.1) (h b)) step (λ b. sym (steps_deliver b.core.id (mails rows) n number m step.1 (h b) under.sent))
            (mail_ended ahead bases made heard elsewhere n h speaks (has.some rows) lawful requested (Deliver number) m (offspring n) at.node at.fact (k.named m came) (λ b a. (k.parts b a).true_mail m came)))
        by Tick plain o = acting Tick (on_tick at.node) refl (tick_ended ahead bases made heard elsewhere n h speaks (has.some rows) lawful requested at.node (plain low high at.node at.value_is) at.fact)
        by Go plain o = acting Go (at.node, []) refl (quiet Go)
        by (Told order) plain o = acting (Told order) (on_order order at.node) refl (order_ended ahead bases made heard elsewhere n h speaks (has.some rows) lawful requested order at.node (plain low high at.node at.value_is) at.fact)
        by Crash plain o = acting Crash (at.node, []) refl (quiet Crash)
        by (Drop number) plain o = absurd o
        by (Again number) plain o = absurd o

    -- ---- a row that takes no step

    still_part : (row : Row Mail OrderLine) → ((b : Base) → steps_at b.core.id (mails rows) row (h b) ≡ h b) → ((b : Base) (m : Mail) → Among m row.sent → IsTrue ahead b (made_by (rows ++ row ∷ []) b) (heard_by (rows ++ row ∷ [])) (h b) m m.body)
        → (b : Base) → Among b bases → PartMoved ahead scenario firsts bases route made_by heard_by rows row b
    still_part row none sent b a =
        let next = rows ++ row ∷ [] in
        let are : h_of next b ≡ [] ++ h b = steps-push b.core.id rows row ∙ none b in
        let part = k.parts b a in
        record {
          stepped = record {
            newer = [];
            are = are;
            lawful = subst (IsLawfulHistory (rule ahead b) (first ahead b)) (sym are) part.lawful;
            requested = λ ballot slot c o. part.requested ballot slot c (subst (Among (Offered ballot slot c)) are o);
          };
          true_sent = λ m o. subst (λ g. IsTrue ahead b (made_by next b) (heard_by next) g m m.body) (sym are) (sent b m o);
        }

    still_node : (row : Row Mail OrderLine) → ((b : Base) → steps_at b.core.id (mails rows) row (h b) ≡ h b) → (j : ℕ) → eqb row.who j ≡ false → IsNodeAt ahead scenario firsts bases route made_by heard_by rows rows j
        → IsNodeAt ahead scenario firsts bases route made_by heard_by rows (rows ++ row ∷ []) j
    still_node row none j f at = record {
      node = at.node;
      value_is = other_value (nseat j) rows row f ∙ at.value_is;
      fact = record {
        me_is = at.fact.me_is;
        known = at.fact.known;
        holds = λ b a. subst (λ g. Holds ahead b (made b) j g at.node.replicas) (sym (steps-push b.core.id rows row ∙ none b)) (at.fact.holds b a);
      };
    }

    still_grown : (row : Row Mail OrderLine) → ((b : Base) → steps_at b.core.id (mails rows) row (h b) ≡ h b) → HaveGrown ahead bases h (h_of (rows ++ row ∷ []))
    still_grown row none b a = ([], steps-push b.core.id rows row ∙ none b)

    -- ---- rows of clients

    sends_true : (asks : Asks) → Among asks scenario.clients → (event : Event OrderLine) (sent : List Mail) → SendsAsked asks sent
        → (b : Base) (m : Mail) → Among m sent → IsTrue ahead b (made_by (rows ++ node_row (client_actor asks.client) event sent ∷ []) b) (heard_by (rows ++ node_row (client_actor asks.client) event sent ∷ [])) (h b) m m.body
    sends_true asks stands event sent (inl none) b m a = absurd (subst (Among m) none a)
    sends_true asks stands event sent (inr (g, target, request, ask, fact)) b m a =
        elim (subst (Among m) fact a) [
          | inl e ↦ subst (λ (x : Mail). IsTrue ahead b (made_by (rows ++ node_row (client_actor asks.client) event sent ∷ []) b) (heard_by (rows ++ node_row (client_actor asks.client) event sent ∷ [])) (h b) x x.body) e
              (has.issued (rows ++ node_row (client_actor asks.client) event sent ∷ []) b asks.client request.0 request.1
              (issued_now scenario rows (node_row (client_actor asks.client) event sent) asks.client request.0 request.1 asks stands refl ask.0 ask.1 (issues_it asks g target request event sent fact)))
          | inr n ↦ absurd n
        ]

    sends_named : (later_rows : Journal) (asks : Asks) (sent : List Mail) → SendsAsked asks sent → (m : Mail) → Among m sent → IsNamedIn (heard_by later_rows) bases m.body
    sends_named later_rows asks sent (inl none) m a = absurd (subst (Among m) none a)
    sends_named later_rows asks sent (inr (g, target, request, ask, fact)) m a = elim (subst (Among m) fact a) [ inl e ↦ subst (λ (x : Mail). IsNamedIn (heard_by later_rows) bases x.body) e tt | inr n ↦ absurd n ]

    module _ (asks : Asks) (stands : Among asks scenario.clients) where
      abbrev who : ℕ
      who = client_actor asks.client

      abbrev at : IsClientAt ahead scenario firsts bases route made_by heard_by rows asks
      at = k.clients asks stands

      -- what becomes of the client: it and its replies, and what it sends
      record IsTurned (event : Event OrderLine) (after : Client) (sent : List Mail) : Type 0 where
        acts : acted player_table (AClient at.client) (input_of (mails rows) event) ≡ (AClient after, sent)
        fact : IsClient ahead bases h asks after
        grew : Grew ahead bases h asks at.client.replies after.replies
        sends : SendsAsked asks sent
        fresh : is_go event ≡ false → (at.client.replies ≡ []) × (at.client.waiting ≡ None) → (after.replies ≡ []) × (after.waiting ≡ None)

      client_moved : (event : Event OrderLine) (after : Client) (sent : List Mail) → IsTurned event after sent → M rows (row_of player_table (cseat asks) rows event)
      client_moved event after sent t =
          let all = ap (λ p. acted player_table p (input_of (mails rows) event)) at.value_is ∙ t.acts in
          let row = node_row who event sent in
          let limit = has.nodes in
          let up = some_client asks stands in
          let became = own_value (cseat asks) rows row refl ∙ ap (λ x. x.0) all in
          let none : (b : Base) → steps_at b.core.id (mails rows) row (h b) ≡ h b = λ b. steps_plain b.core.id (mails rows) who event sent (h b) (sends_plain asks sent t.sends) in
          let grown = still_grown row none in
          let mine : ClientMoved ahead scenario firsts bases route made_by heard_by rows row asks = record {
            after = record {
              client = after;
              value_is = became;
              fact = later_client ahead bases h (h_of (rows ++ row ∷ [])) grown asks after t.fact;
              fresh = λ e. (let parts = any_push (λ r. eqb r.who who && is_go r.event) rows row e in
                  t.fresh (not_go (eqb who who) (is_go event) (eq-eqb who who refl) parts.1) (at.fresh parts.0));
            };
            grew = subst (λ rs. Grew ahead bases h asks rs (replies_in ahead scenario firsts bases route made_by heard_by asks (rows ++ row ∷ []))) (sym (ap replies_of at.value_is))
                (subst (Grew ahead bases h asks at.client.replies) (sym (ap replies_of became)) t.grew);
          } in
          subst (λ (ms : List Mail). M rows (node_row who event ms)) (sym (ap (λ x. x.1) all))
          (record {
            parts = still_part row none (sends_true asks stands event sent t.sends);
            named = sends_named (rows ++ row ∷ []) asks sent t.sends;
            nodes = λ j below above. still_node row none j (ne_eqb who j (λ e. absurd (omega (arith, e, up, above, limit)))) (k.nodes j below above);
            clients = λ other there. elim (cases_Bool (eqb who (client_actor other.client))) [
              | inl e ↦ (
                  let number = eqb-true who (client_actor other.client) e in
                  let same : asks ≡ other = has.once asks other stands there (omega (arith, number)) in
                  subst (λ (x : Asks). ClientMoved ahead scenario firsts bases route made_by heard_by rows row x) same mine)
              | inr f ↦ client_still rows row grown other (k.clients other there) f
            ];
          })
        where
          not_go : (a b : Bool) → a ≡ true → (a && b) ≡ false → b ≡ false
          not_go true b t e = e
          not_go false b t e = cc

      still_fresh : (after : Client) (input : Input Mail OrderLine) (sent : List Mail) → InTurn at.client after input sent → (input ≡ GoInput → ⊥) → (at.client.replies ≡ []) × (at.client.waiting ≡ None)
          → (after.replies ≡ []) × (after.waiting ≡ None)
      still_fresh after input sent turn not_go f =
          elim turn.moves [
            | inl s ↦ (s.replies ∙ f.0, s.number ∙ f.1)
            | inr (inl s) ↦ absurd (not_go s.go)
            | inr (inr s) ↦ (let no_way : Some s.seq ≡ None = sym s.waited ∙ f.1 in absurd (cc))
          ]

      by_input : (event : Event OrderLine) (input : Input Mail OrderLine) → acted player_table (AClient at.client) (input_of (mails rows) event) ≡ (AClient (table at.client input).0, (table at.client input).1)
          → ((m : Mail) → input ≡ Got m → (m.to ≡ client_actor asks.client) × IsNamedIn heard bases m.body × ((b : Base) → Among b bases → IsTrue ahead b (made b) heard (h b) m m.body)) → (input ≡ GoInput → (at.client.replies ≡ []) × (is_go event ≡ true))
          → M rows (row_of player_table (cseat asks) rows event)
      by_input event input acts told went =
          let turn = sends_in_turn at.client input in
          let after = (table at.client input).0 in
          let sent = (table at.client input).1 in
          let became = client_after ahead bases made heard h asks at.client after at.fact input sent turn told (λ e. (went e).0) in
          client_moved event after sent
          (record {
            acts = acts;
            fact = became.0;
            grew = became.1;
            sends = client_sends ahead bases made heard h asks at.client after at.fact input sent turn told (λ e. (went e).0);
            fresh = λ no f. still_fresh after input sent turn (λ go. (let yes : true ≡ false = sym (went go).1 ∙ no in cc)) f;
          })

      client_event : (event : Event OrderLine) → IsOpen (system_of ahead words scenario) rows who event → M rows (row_of player_table (cseat asks) rows event)
      client_event (Deliver number) (m, under, to) =
          by_input (Deliver number) (Got m) (ap (λ o. acted player_table (AClient at.client) (option_map Got o)) under.sent)
          (λ other e. (
          let same : m ≡ other = cc in
          let came = number_among (mails rows) number m under.sent in
          subst (λ (x : Mail). (x.to ≡ client_actor asks.client) × IsNamedIn heard bases x.body × ((b : Base) → Among b bases → IsTrue ahead b (made b) heard (h b) x x.body)) same (to, k.named m came, λ b a. (k.parts b a).true_mail m came)))
          (λ e. cc)
      client_event Tick o = by_input Tick TickInput refl (λ m e. cc) (λ e. cc)
      client_event Go o = by_input Go GoInput refl (λ m e. cc) (λ e. ((at.fresh o).0, refl))
      client_event (Told order) o = by_input (Told order) (ToldInput order) refl (λ m e. cc) (λ e. cc)
      client_event Crash o = client_moved Crash at.client [] (record { acts = refl; fact = at.fact; grew = inl refl; sends = inl refl; fresh = λ no f. f })
      client_event (Drop number) o = absurd o
      client_event (Again number) o = absurd o

    -- ---- rows of the network

    network_event : (event : Event OrderLine) → M rows (network event)
    network_event event =
        let row : Row Mail OrderLine = network event in
        let none : (b : Base) → steps_at b.core.id (mails rows) row (h b) ≡ h b = λ b. steps_plain b.core.id (mails rows) 0 event [] (h b) tt in
        record {
          parts = still_part row none (λ b m a. absurd a);
          named = λ m a. absurd a;
          nodes = λ j below above. still_node row none j (ne_eqb 0 j (λ e. absurd (omega (arith, e, below)))) (k.nodes j below above);
          clients = λ asks stands. client_still rows row (still_grown row none) asks (k.clients asks stands) (ne_eqb 0 (client_actor asks.client) (λ e. absurd (omega (arith, e))));
        }

  -- ---- all rows

  module _ (rows : Journal) (k : K rows) (elsewhere : AnyoneHears (heard_by rows)) (speaks : (b : Base) → Among b bases → Speaks ahead b (made_by rows b) (heard_by rows) (h_of rows b)) (offspring : KnowsOffspring rows)
      (later : (row : Row Mail OrderLine) → ((b : Base) → Among b bases → Stepped ahead scenario firsts bases route made_by heard_by rows row b) → IsLater ahead scenario firsts bases route made_by heard_by rows row) where
    actor_step : (row : Row Mail OrderLine) → MayGiveOrder rows row.who row.event → ActorStep (system_of ahead words scenario) rows row → M rows row
    actor_step row may step =
        let told = subst (λ (r : Row Mail OrderLine). MayGiveOrder rows r.who r.event) step.row_is may in
        let found = find_found (λ (other : Seat Player). eqb other.who step.seat.who) (births ahead scenario) step.seat step.born in
        let there = subst (Among step.seat) has.seats found.0 in
        elim (Among-either step.seat (map nseat (numbers_from 1 scenario.nodes)) (map cseat scenario.clients) there) [
          | inl a ↦ (
              let from = from_map nseat (numbers_from 1 scenario.nodes) step.seat a in
              let bounds = among_numbers 1 scenario.nodes from.0 from.1 in
              let fact : row ≡ row_of player_table (nseat from.0) rows step.event = step.row_is ∙ ap (λ (seat : Seat Player). row_of player_table seat rows step.event) (sym from.2) in
              subst (M rows) (sym fact)
              (node_event rows k elsewhere speaks offspring later from.0 bounds.0 (omega (arith, bounds.1)) step.event (subst (λ (seat : Seat Player). MayGiveOrder rows seat.who step.event) (sym from.2) told)
              (subst (λ (seat : Seat Player). IsOpen (system_of ahead words scenario) rows seat.who step.event) (sym from.2) step.open_)))
          | inr a ↦ (
              let from = from_map cseat scenario.clients step.seat a in
              let fact : row ≡ row_of player_table (cseat from.0) rows step.event = step.row_is ∙ ap (λ (seat : Seat Player). row_of player_table seat rows step.event) (sym from.2) in
              subst (M rows) (sym fact)
              (client_event rows k elsewhere speaks offspring later from.0 from.1 step.event (subst (λ (seat : Seat Player). IsOpen (system_of ahead words scenario) rows seat.who step.event) (sym from.2) step.open_)))
        ]

    -- each step that may come next moves what holds on
    pub moved : (row : Row Mail OrderLine) → MayGiveOrder rows row.who row.event → IsStep (system_of ahead words scenario) rows row → M rows row
    moved row may (inl step) = actor_step row may step
    moved row may (inr step) = subst (M rows) (sym step.row_is) (network_event rows k elsewhere speaks offspring later step.event)
