-- The turn of a client begins where no mail is pending and each replica that runs is idle: behind its tick or start nothing but its own request is under way.
use Rattle.std.proofs.Common.{◌≡◌, ℕ, ◌≤◌, eqb, Bool, true, false, true≢false, List, [], ◌∷◌, ◌++◌, filter, find, Option, Some, inl, inr, refl, sym, ◌∙◌, ap, subst, arith}
use Rattle.std.proofs.lemmas.Bool.{cond-true, cond-false, cases_eq, cases_Bool, eq-eqb, ne_eqb}
use Rattle.sc_base.specs.Definitions.{Among, Each, client_actor}
use Rattle.sc_node_table.specs.Values.{Seat, Row, Event, Draw, Command, Flight, OrderLine, Input, Mail, Node, Client}
use Rattle.sc_actor.specs.declared.rows.Event.TheVariants.{Tick as TickEvent, Go as GoEvent}
use Rattle.sc_actor.specs.declared.rows.Input.TheVariants.{Tick, Go}
use Rattle.sc_actor.specs.Definitions.{mails, acted, input_of, value, may_get, numbers_of, has_started, has_crashed, is_crash, is_quiet, copies, counts_at, row_of}
use Rattle.sc_actor.proofs.Lemmas.{value-snoc, mails-snoc}
use Rattle.sc_node_table.specs.NodeDefinitions.{NodeState, ReplicaState}
use Rattle.sc_words.proofs.PaxosProofs.PaxosLemmas.{Each-among, Each-weaker, Each-filter, Among-filter}
use Rattle.sc_paxos_law.proofs.Lemmas.{Among-right}
use Rattle.sc_client_table.specs.table.TableDefinitions.{Client as ClientState, ClientStep, table, request_of}
use Rattle.sc_scenario.specs.declared.scenario.scenarios.Scenario.{Scenario}
use Rattle.sc_scenario.specs.scenario.Definitions.{IsBounded}
use Rattle.sc_meaning.specs.sound.SoundDefinitions.{Player, as_nodes, births, player_table}
use Rattle.sc_live_orderly.specs.OrderlyDefinitions.{mail_with}
use Rattle.sc_live_orderly.proofs.PendingMail.{crashed_same, gets_same, mail_with-agree, none_pending}
use Rattle.sc_live_orderly.proofs.RemainingMail.{after-row}
use Rattle.sc_live_plain.specs.PlainDefinitions.{IsResting}
use Rattle.sc_live_plain.proofs.PlainLemmas.{some_is}
use Rattle.sc_live_healed.specs.HealedDefinitions.{IsFixedMail, IsIdle}
use Rattle.sc_live_healed.proofs.FixedJournals.{Rows, IsOf, IsFixedJournal}
use Rattle.sc_live_healed.proofs.AskingJournals.{IsAskingAt}
use Rattle.sc_live_healed.proofs.AskingClients.{Asks}
use Rattle.sc_live_healed.proofs.AskingClientRows.{starts, ticks, rests_ticked}
use Rattle.sc_live_healed.proofs.LoneRequests as lone
use Rattle.sc_live_healed.proofs.LoneDeliveries.{S, pending, member_gets}
use Rattle.sc_live_healed.proofs.LoneTurns.{AtNodes, Leads, Where, IsSent, HasCrashed, Stands, Waits, TurnState, WaitsOn, HasAll}
use Rattle.sc_live_healed.proofs.LoneTurnClients.{no_node, first_of, second_of, none_some}

-- an idle leader has nothing under way
idle_leads : (client first : ℕ) (r : ReplicaState) → IsIdle r → lone.LeadsAlone client first r
idle_leads client first r i = record {
  backlog = subst (Each (λ (c : Command). lone.IsMine client first c)) (sym i.backlog) tt;
  flights = subst (Each (λ (flight : Flight Command). lone.IsMine client first flight.value)) (sym i.flights) tt;
  ready = subst (Each (λ (entry : ℕ × Command). lone.IsMine client first entry.1)) (sym i.ready) tt;
  reports = i.reports;
}

module _ (words : ℕ → ℕ → ℕ × ℕ) (scenario : Scenario) (bounded : IsBounded scenario) (off : scenario.policy ≡ false) (client : ℕ) (seat : Seat Player) (is_of : IsOf scenario seat) (number : seat.who ≡ client_actor client) where
  -- each replica that runs at a node that has not crashed is idle
  abbrev pub AreIdle : Rows → Type 0
  AreIdle rows = (other : Seat Player) → IsOf scenario other → (node : NodeState) → value player_table other rows ≡ Node node → has_crashed rows other.who ≡ false → Each (λ (r : ReplicaState). r.running ≡ true → IsIdle r) node.replicas

  module _ (rows : Rows) (quiet : is_quiet (S words scenario bounded) rows ≡ true) (idle : AreIdle rows) (asks : ClientState) (now : value player_table seat rows ≡ Client asks) (asking : IsAskingAt rows seat.who asks) (lives : has_crashed rows seat.who ≡ false) where
    me_is : asks.me ≡ client
    me_is = (let one = asking.number in let two = number in omega (arith, one, two))

    module _ (input : Input Mail OrderLine) (event : Event OrderLine) (input_is : input_of (mails rows) event ≡ Some input) (kind : is_crash event ≡ false) (counts : counts_at (copies rows) event ≡ copies rows)
        (fixed_then : IsFixedJournal scenario (rows ++ row_of player_table seat rows event ∷ [])) where
      abbrev row : Row Mail OrderLine
      row = row_of player_table seat rows event

      abbrev after : Rows
      after = rows ++ row_of player_table seat rows event ∷ []

      abbrev step : ClientStep
      step = table asks input

      says : row.sent ≡ step.1
      says = ap (λ (o : Option (Input Mail OrderLine)). (acted player_table (value player_table seat rows) o).1) input_is ∙ ap (λ (p : Player). (player_table p input).1) now

      now_then : value player_table seat after ≡ Client step.0
      now_then =
          value-snoc player_table seat rows row
          ∙ cond-true (eqb seat.who seat.who) (acted player_table (value player_table seat rows) (input_of (mails rows) event)).0 (value player_table seat rows) (eq-eqb seat.who seat.who refl)
          ∙ ap (λ (o : Option (Input Mail OrderLine)). (acted player_table (value player_table seat rows) o).0) input_is ∙ ap (λ (p : Player). (player_table p input).0) now

      value_other : (other : Seat Player) → (seat.who ≡ other.who → ⊥) → value player_table other after ≡ value player_table other rows
      value_other other apart =
          value-snoc player_table other rows row
          ∙ cond-false (eqb seat.who other.who) (acted player_table (value player_table other rows) (input_of (mails rows) event)).0 (value player_table other rows) (ne_eqb seat.who other.who apart)

      abbrev may : Mail → Bool
      may mail = may_get (numbers_of (S words scenario bounded).births) after mail.to

      -- nothing is pending but what the client sends
      pending_is : pending words scenario bounded after ≡ filter may row.sent
      pending_is =
          after-row (S words scenario bounded) may rows row
          ∙ ap (λ (c : List ℕ). mail_with may (mails rows) c ++ filter may row.sent) counts
          ∙ ap (λ (ms : List Mail). ms ++ filter may row.sent)
          (mail_with-agree may (λ (mail : Mail). may_get (numbers_of (S words scenario bounded).births) rows mail.to) (λ mail. gets_same (numbers_of (S words scenario bounded).births) rows row kind mail.to) (mails rows) (copies rows) ∙ none_pending (S words scenario bounded) rows quiet)

      nodes_then : (first : ℕ) → AtNodes words scenario bounded off client seat is_of number first after (λ n. Leads words scenario bounded off client seat is_of number first n)
      nodes_then first other of node e alive = elim (cases_eq seat.who other.who) [
        | inl same ↦ (
            let one : seat ≡ other = some_is (sym is_of ∙ ap (λ (who : ℕ). find (λ (x : Seat Player). eqb x.who who) (births as_nodes scenario)) same ∙ of) in
            absurd (no_node (sym now_then ∙ ap (λ (s : Seat Player). value player_table s after) one ∙ e)))
        | inr apart ↦ Each-weaker (λ (r : ReplicaState). r.running ≡ true → IsIdle r) (λ (r : ReplicaState). r.running ≡ true → lone.LeadsAlone client first r) (λ r i on. idle_leads client first r (i on)) node.replicas
            (idle other of node (sym (value_other other apart) ∙ e) (sym (crashed_same rows row kind other.who) ∙ alive))
      ]

      -- the client waits for this request then
      pub begun_turn : (seq : ℕ) → Asks asks seq step → TurnState words scenario bounded off client seat is_of number seq after
      begun_turn seq d =
          let request : Mail = request_of client d.group d.target (seq, d.op) in
          let sends : row.sent ≡ request ∷ [] = says ∙ d.sends ∙ ap (λ n. request_of n d.group d.target (seq, d.op) ∷ []) me_is in
          let sent : Among request row.sent = subst (Among request) (sym sends) (inl refl) in
          let mail_is : IsFixedMail scenario.groups request = Each-among (IsFixedMail scenario.groups) (mails after) request fixed_then.sent (subst (Among request) (sym (mails-snoc rows row)) (Among-right request (mails rows) row.sent sent)) in
          let each : (P : Mail → Type 0) → P request → Each P (pending words scenario bounded after) = λ P p. subst (Each P) (sym pending_is) (Each-filter P may row.sent (subst (Each P) (sym sends) (p, tt))) in
          elim (d.holds.state) [
            | inl r ↦ absurd (none_some (sym r.waits ∙ d.waits))
            | inr (started_, b) ↦
                let pair : ◌≡◌ {A = Option (Draw × ℕ)} (Some (d.group, d.target)) (Some (b.group, b.target)) = sym d.asked ∙ b.asked in
                let group : d.group ≡ b.group = first_of d.group b.group d.target b.target pair in
                let target : d.target ≡ b.target = second_of d.group b.group d.target b.target pair in
                let seq_is : seq ≡ b.seq = some_is (sym d.waits ∙ b.waits) in
                let w : Where words scenario bounded off client seat is_of number seq after seq d.group d.target = elim (cases_Bool (has_crashed after d.target)) [
                  | inl c ↦ HasCrashed c
                  | inr alive ↦ IsSent d.op (subst (Among request) (sym pending_is) (Among-filter may row.sent request sent (member_gets words scenario bounded after mail_is.base mail_is.among d.target mail_is.says.1 alive)))
                ] in
                let stands : Stands words scenario bounded off client seat is_of number seq after seq d.group d.target =
                Waits true (λ _. refl) (λ other of node e alive off_. absurd (true≢false off_)) (each (λ (mail : Mail). lone.IsUnlearnt client seq seq true ⊥ mail.body) tt) w in
                WaitsOn step.0 now_then b (record {
                  lives = crashed_same rows row kind seat.who ∙ lives;
                  least = subst (λ n. seq ≤ n) seq_is (omega arith);
                  alone = each (λ (mail : Mail). lone.IsLoneMail client seq mail) ((refl, omega arith), tt);
                  nodes = nodes_then seq;
                  stands = subst (λ n. Stands words scenario bounded off client seat is_of number seq after n b.group b.target) seq_is (subst (λ n. Stands words scenario bounded off client seat is_of number seq after seq b.group n) target (subst (λ g. Stands words scenario bounded off client seat is_of number seq after seq g d.target) group stands));
                })
          ]

      pub ended_turn : (first : ℕ) → IsResting true step.0 → TurnState words scenario bounded off client seat is_of number first after
      ended_turn first r = HasAll step.0 now_then r

    -- a client that has started ticks
    pub ticked_turn : has_started rows seat.who ≡ true → IsFixedJournal scenario (rows ++ row_of player_table seat rows TickEvent ∷ []) → (first : ℕ) × TurnState words scenario bounded off client seat is_of number first (rows ++ row_of player_table seat rows TickEvent ∷ [])
    ticked_turn gone fixed_then = elim (asking.asks.state) [
      | inl r ↦ (0, ended_turn Tick TickEvent refl refl refl fixed_then 0 (subst (λ (x : ClientStep). IsResting true x.0) (sym (rests_ticked (has_started rows seat.who) asks r)) (subst (λ b. IsResting b asks) gone r)))
      | inr (t, a) ↦ (a.seq, begun_turn Tick TickEvent refl refl refl fixed_then a.seq (ticks asks a asking.asks.some))
    ]

    -- a client starts
    pub started_turn : has_started rows seat.who ≡ false → IsFixedJournal scenario (rows ++ row_of player_table seat rows GoEvent ∷ []) → (first : ℕ) × TurnState words scenario bounded off client seat is_of number first (rows ++ row_of player_table seat rows GoEvent ∷ [])
    started_turn none fixed_then = elim (asking.asks.state) [
      | inr (t, a) ↦ absurd (true≢false (sym t ∙ none))
      | inl r ↦ elim (starts asks (subst (λ b. IsResting b asks) none r) asking.asks.some) [
        | inl d ↦ (1, begun_turn Go GoEvent refl refl refl fixed_then 1 d)
        | inr e ↦ (0, ended_turn Go GoEvent refl refl refl fixed_then 0 (elim (e.holds.state) [ inl rest ↦ rest | inr (t, b) ↦ absurd (none_some (sym e.waits ∙ b.waits)) ]))
      ]
    ]
