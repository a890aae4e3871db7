-- A delivery to a client in the turn of a client that asks alone: it sends its request on, sends the next one, has all replies, or takes no notice; other clients take none.
use Rattle.std.proofs.Common.{◌≡◌, ℕ, ◌+◌, ◌≤◌, ◌&&◌, eqb, Bool, true, false, true≢false, [], ◌∷◌, ◌++◌, Option, Some, None, ◌⊎◌, inl, inr, refl, sym, ◌∙◌, ap, subst, arith}
use Rattle.std.proofs.lemmas.Bool.{cond-true, cases_eq, cases_Bool, eqb-true, eq-eqb, and_parts}
use Rattle.sc_base.specs.Definitions.{Among, Each, client_actor}
use Rattle.sc_node_table.specs.Values.{Seat, Row, Draw, Op, Command, Call, Reply, AnswerBody, Value, OrderLine, Got, Mail, MailBody, Request, Answer, Learn, Ask, Node, Client}
use Rattle.sc_actor.specs.Definitions.{mails, value, has_crashed}
use Rattle.sc_actor.proofs.Lemmas.{mails-snoc}
use Rattle.sc_node_table.specs.NodeDefinitions.{NodeState, ReplicaState, is_node}
use Rattle.sc_words.proofs.PaxosProofs.PaxosLemmas.{Each-among, Each-weaker}
use Rattle.sc_paxos_law.proofs.Lemmas.{Among-right}
use Rattle.sc_client_table.specs.table.TableDefinitions.{Client as ClientState, ClientStep, got, answer_taken, waits_for, request_of}
use Rattle.sc_scenario.specs.declared.scenario.scenarios.Scenario.{Scenario}
use Rattle.sc_scenario.specs.scenario.Definitions.{IsBounded}
use Rattle.sc_meaning.specs.sound.SoundDefinitions.{Player, player_table}
use Rattle.sc_live_orderly.specs.OrderlyDefinitions.{TakesLowest}
use Rattle.sc_live_plain.proofs.PlainLemmas.{some_is}
use Rattle.sc_live_healed.specs.HealedDefinitions.{IsFixedMail, IsFixedBody, IsAskingOn}
use Rattle.sc_live_healed.proofs.FixedJournals.{Rows, IsOf, IsFixedJournal, fresh, given}
use Rattle.sc_live_healed.proofs.LivingActors.{seats_stay_nodes}
use Rattle.sc_live_healed.proofs.FewJournals.{IsFewJournal, PlayerFew}
use Rattle.sc_live_healed.proofs.NumberedRequests.{IsFewBody, IsFewPlace}
use Rattle.sc_live_healed.proofs.AskingJournals.{IsAskingAt}
use Rattle.sc_law_walks.proofs.WalkLemmas.{redirects}
use Rattle.sc_live_healed.proofs.AskingClients.{Asks, Ends, Ignores, Does, AsksOn, AsksNext, EndsNow, TakesNoNotice, replied}
use Rattle.sc_live_healed.proofs.AskingClientRows.{does}
use Rattle.sc_live_healed.proofs.TakenRequests.{IsAtMost}
use Rattle.sc_live_healed.proofs.LoneRequests as lone
use Rattle.sc_live_healed.proofs.LoneDeliveries.{S, member_gets, pending_each, receiver_is, receiver_of, same_seat, sent_is, value_own, value_other, crashed_same, rest_stays, sent_stays, pending_then, pending_first}
use Rattle.sc_live_healed.proofs.LoneTurns.{AtNodes, Leads, Logs, Where, IsSent, IsSentOn, IsHeldAt, HasCrashed, Stands, IsReplied, Waits, TurnHolds, TurnState, WaitsOn, HasAll}

-- a request with no greater number is another one than the next
at_most_other : (client seq : ℕ) (command : Command) → IsAtMost client seq command → lone.IsOther client (seq + 1) command
at_most_other client seq (Call who number op) low = by (cases_Bool (eqb who client && eqb number (seq + 1)))
  where
    by : ((eqb who client && eqb number (seq + 1)) ≡ true) ⊎ ((eqb who client && eqb number (seq + 1)) ≡ false) → (eqb who client && eqb number (seq + 1)) ≡ false
    by (inr f) = f
    by (inl t) =
        let both = and_parts (eqb who client) (eqb number (seq + 1)) t in
        let most = low (eqb-true who client both.0) in
        let same = eqb-true number (seq + 1) both.1 in
        absurd (omega (arith, most, same))
at_most_other client seq _ low = refl

few_unlearnt : (client first seq : ℕ) (body : MailBody) → IsFewBody client seq body → lone.IsUnlearnt client first (seq + 1) false ⊥ body
few_unlearnt client first seq (Learn group slot command) few = (refl, at_most_other client seq command few)
few_unlearnt client first seq (Ask group from_slot) few = refl
few_unlearnt client first seq _ few = tt

pub none_some : {X : Type 0} {x : X} → None ≡ Some x → ⊥
none_some e = cc

pub first_of : (x y : Draw) (m n : ℕ) → ◌≡◌ {A = Option (Draw × ℕ)} (Some (x, m)) (Some (y, n)) → x ≡ y
first_of x y m n e = ap (λ (p : Draw × ℕ). p.0) (some_is e)

pub second_of : (x y : Draw) (m n : ℕ) → ◌≡◌ {A = Option (Draw × ℕ)} (Some (x, m)) (Some (y, n)) → m ≡ n
second_of x y m n e = ap (λ (p : Draw × ℕ). p.1) (some_is e)

-- a client is no node
pub no_node : {n : NodeState} {c : ClientState} → ◌≡◌ {A = Player} (Client c) (Node n) → ⊥
no_node e = cc

module _ (words : ℕ → ℕ → ℕ × ℕ) (scenario : Scenario) (bounded : IsBounded scenario) (off : scenario.policy ≡ false) (client : ℕ) (seat : Seat Player) (is_of : IsOf scenario seat) (number : seat.who ≡ client_actor client) (first : ℕ)
    (rows : Rows) (row : Row Mail OrderLine) (t : TakesLowest (S words scenario bounded) rows row) (fixed : IsFixedJournal scenario rows) (there : ClientState) (here : value player_table t.seat rows ≡ Client there) where
  abbrev after : Rows
  after = rows ++ row ∷ []

  abbrev pub At : Rows → (NodeState → Type 0) → Type 0
  At rs P = AtNodes words scenario bounded off client seat is_of number first rs P

  abbrev LogsAt : ℕ → Bool → NodeState → Type 0
  LogsAt seq early node = Logs words scenario bounded off client seat is_of number first seq early node

  abbrev WhereAt : Rows → ℕ → Draw → ℕ → Type 0
  WhereAt rs seq group target = Where words scenario bounded off client seat is_of number first rs seq group target

  abbrev StandsAt : Rows → ℕ → Draw → ℕ → Type 0
  StandsAt rs seq group target = Stands words scenario bounded off client seat is_of number first rs seq group target

  abbrev HoldsAt : Rows → ℕ → Draw → ℕ → Type 0
  HoldsAt rs seq group target = TurnHolds words scenario bounded off client seat is_of number first rs seq group target

  abbrev State : Rows → Type 0
  State rs = TurnState words scenario bounded off client seat is_of number first rs

  abbrev Lone : Mail → Type 0
  Lone mail = lone.IsLoneMail client first mail

  -- an actor that is a node is another one
  other_node : (other : Seat Player) → IsOf scenario other → (node : NodeState) → value player_table other rows ≡ Node node → t.seat.who ≡ other.who → ⊥
  other_node other of node e same = no_node (sym here ∙ ap (λ (s : Seat Player). value player_table s rows) (same_seat words scenario bounded rows row t other of same) ∙ e)

  nodes_same : (P : NodeState → Type 0) → At rows P → At after P
  nodes_same P k other of n e lives = elim (cases_eq t.seat.who other.who) [
    | inl same ↦ (
        let was : value player_table other rows ≡ Client there = ap (λ (s : Seat Player). value player_table s rows) (sym (same_seat words scenario bounded rows row t other of same)) ∙ here in
        let now = value_own words scenario bounded rows row t other same ∙ ap (λ (p : Player). (player_table p (Got t.mail)).0) was in
        absurd (no_node (sym now ∙ e)))
    | inr apart ↦ k other of n (sym (value_other words scenario bounded rows row t other apart) ∙ e) (sym (crashed_same words scenario bounded rows row t other.who) ∙ lives)
  ]

  -- a request goes to a node
  not_request : (group : Draw) (target : ℕ) (request : ℕ × Op) → t.mail ≡ request_of client group target request → ⊥
  not_request group target request same =
      let mail_is : IsFixedMail scenario.groups t.mail = given words scenario bounded off (mails rows) t.number t.mail fixed.sent t.sent in
      let says_so : IsFixedBody mail_is.base t.mail.from t.mail.to (Request group client request.0 request.1) = subst (λ (b : MailBody). IsFixedBody mail_is.base t.mail.from t.mail.to b) (ap (λ (m : Mail). m.body) same) mail_is.says in
      let node : is_node t.seat.who ≡ true = ap is_node (receiver_is words scenario bounded rows row t) ∙ (fresh words scenario bounded off).within mail_is.base mail_is.among t.mail.to says_so.1 in
      let fact = seats_stay_nodes scenario bounded t.seat (receiver_of words scenario bounded rows row t) node rows in
      no_node (sym here ∙ fact.1)

  -- the request stands where it was, unless the client is sent on now
  where_same : (seq : ℕ) (group : Draw) (target : ℕ) → ((answer : AnswerBody) → t.mail.from ≡ target → t.mail.to ≡ client_actor client → t.mail.body ≡ Answer group seq answer → redirects answer ≡ true → ⊥) → WhereAt rows seq group target → WhereAt after seq group target
  where_same seq group target never (IsSent op am) = elim (subst (Among (request_of client group target (seq, op))) t.first am) [
    | inl same ↦ absurd (not_request group target (seq, op) same)
    | inr rest ↦ IsSent op (rest_stays words scenario bounded rows row t (request_of client group target (seq, op)) rest)
  ]
  where_same seq group target never (IsSentOn mail am from to answer body red) = elim (subst (Among mail) t.first am) [
    | inl same ↦ absurd (never answer (ap (λ (m : Mail). m.from) same ∙ from) (ap (λ (m : Mail). m.to) same ∙ to) (ap (λ (m : Mail). m.body) same ∙ body) red)
    | inr rest ↦ IsSentOn mail (rest_stays words scenario bounded rows row t mail rest) from to answer body red
  ]
  where_same seq group target never (IsHeldAt other of at lives n e base a id r found on held) =
      IsHeldAt other of at (crashed_same words scenario bounded rows row t other.who ∙ lives) n (value_other words scenario bounded rows row t other (other_node other of n e) ∙ e) base a id r found on held
  where_same seq group target never (HasCrashed c) = HasCrashed (crashed_same words scenario bounded rows row t target ∙ c)

  -- nothing is sent, and the request stands where it was
  stands_same : (seq : ℕ) (group : Draw) (target : ℕ) → row.sent ≡ [] → ((g : Draw) (reply : Reply) → t.mail.to ≡ client_actor client → t.mail.body ≡ Answer g seq (Value reply) → ⊥)
      → ((answer : AnswerBody) → t.mail.from ≡ target → t.mail.to ≡ client_actor client → t.mail.body ≡ Answer group seq answer → redirects answer ≡ true → ⊥) → StandsAt rows seq group target → StandsAt after seq group target
  stands_same seq group target none no_reply never (IsReplied r) = elim (subst (Among r.mail) t.first r.among) [
    | inl same ↦ absurd (no_reply r.group r.reply (ap (λ (m : Mail). m.to) same ∙ r.to) (ap (λ (m : Mail). m.body) same ∙ r.body))
    | inr rest ↦ IsReplied (record { mail = r.mail; among = rest_stays words scenario bounded rows row t r.mail rest; to = r.to; group = r.group; reply = r.reply; body = r.body })
  ]
  stands_same seq group target none no_reply never (Waits early late logs unlearnt w) =
      let U : Mail → Type 0 = λ mail. lone.IsUnlearnt client first seq early ⊥ mail.body in
      Waits early late (nodes_same (λ n. LogsAt seq early n) logs) (pending_then words scenario bounded rows row t U (pending_first words scenario bounded rows row t U unlearnt).1 (subst (Each U) (sym none) tt)) (where_same seq group target never w)

  holds_same : (seq : ℕ) (group : Draw) (target : ℕ) → row.sent ≡ [] → StandsAt after seq group target → HoldsAt rows seq group target → HoldsAt after seq group target
  holds_same seq group target none stands h = record {
    lives = crashed_same words scenario bounded rows row t seat.who ∙ h.lives;
    least = h.least;
    alone = pending_then words scenario bounded rows row t Lone (pending_first words scenario bounded rows row t Lone h.alone).1 (subst (Each Lone) (sym none) tt);
    nodes = nodes_same (λ n. Leads words scenario bounded off client seat is_of number first n) h.nodes;
    stands = stands;
  }

  says : row.sent ≡ (got t.mail.from t.mail.body there).1
  says = sent_is words scenario bounded rows row t ∙ ap (λ (p : Player). (player_table p (Got t.mail)).1) here

  -- ---- another client takes no notice

  silent : (body : MailBody) → lone.GoesToClient client first t.mail.to body → (t.mail.to ≡ client_actor client → ⊥) → got t.mail.from body there ≡ (there, [])
  silent (Answer group seq answer) goes never = absurd (never goes)
  silent _ goes never = refl

  pub other_turn : (t.seat.who ≡ seat.who → ⊥) → (seq : ℕ) (group : Draw) (target : ℕ) → HoldsAt rows seq group target → HoldsAt after seq group target
  other_turn apart seq group target h =
      let never : t.mail.to ≡ client_actor client → ⊥ = λ to. apart (receiver_is words scenario bounded rows row t ∙ to ∙ sym number) in
      let goes = (pending_first words scenario bounded rows row t Lone h.alone).0.1 in
      let none : row.sent ≡ [] = says ∙ ap (λ (x : ClientStep). x.1) (silent t.mail.body goes never) in
      holds_same seq group target none (stands_same seq group target none (λ g reply to body. never to) (λ answer from to body red. never to) h.stands) h

  -- ---- the client itself

  module _ (same : t.seat.who ≡ seat.who) (asks : ClientState) (now : value player_table seat rows ≡ Client asks) (a : IsAskingOn asks) (asking : IsAskingAt rows seat.who asks) (fixed_then : IsFixedJournal scenario after) (few : IsFewJournal client a.seq scenario rows) (h : HoldsAt rows a.seq a.group a.target) where
    abbrev step : ClientStep
    step = got t.mail.from t.mail.body asks

    now_then : value player_table seat after ≡ Client step.0
    now_then = value_own words scenario bounded rows row t seat same ∙ ap (λ (p : Player). (player_table p (Got t.mail)).0) now

    says_own : row.sent ≡ step.1
    says_own = sent_is words scenario bounded rows row t ∙ ap (λ (p : Player). (player_table p (Got t.mail)).1) (ap (λ (s : Seat Player). value player_table s rows) (same_seat words scenario bounded rows row t seat is_of same) ∙ now)

    me_is : asks.me ≡ client
    me_is = (let one = asking.number in let two = number in omega (arith, one, two))

    -- the request that is sent now
    sends_so : (seq : ℕ) (d : Asks asks seq step) → row.sent ≡ request_of client d.group d.target (seq, d.op) ∷ []
    sends_so seq d = says_own ∙ d.sends ∙ ap (λ n. request_of n d.group d.target (seq, d.op) ∷ []) me_is

    new_where : (seq : ℕ) (d : Asks asks seq step) → WhereAt after seq d.group d.target
    new_where seq d =
        let request : Mail = request_of client d.group d.target (seq, d.op) in
        let sent : Among request row.sent = subst (Among request) (sym (sends_so seq d)) (inl refl) in
        let mail_is : IsFixedMail scenario.groups request = Each-among (IsFixedMail scenario.groups) (mails after) request fixed_then.sent (subst (Among request) (sym (mails-snoc rows row)) (Among-right request (mails rows) row.sent sent)) in
        elim (cases_Bool (has_crashed rows d.target)) [
          | inl c ↦ HasCrashed (crashed_same words scenario bounded rows row t d.target ∙ c)
          | inr lives ↦ IsSent d.op (sent_stays words scenario bounded rows row t request sent (member_gets words scenario bounded rows mail_is.base mail_is.among d.target mail_is.says.1 lives))
        ]

    -- the client waits for this request then
    asks_state : (seq : ℕ) (d : Asks asks seq step) → first ≤ seq → StandsAt after seq d.group d.target → State after
    asks_state seq d least stands = elim (d.holds.state) [
      | inl r ↦ absurd (none_some (sym r.waits ∙ d.waits))
      | inr (started_, b) ↦
          let pair : ◌≡◌ {A = Option (Draw × ℕ)} (Some (d.group, d.target)) (Some (b.group, b.target)) = sym d.asked ∙ b.asked in
          let group : d.group ≡ b.group = first_of d.group b.group d.target b.target pair in
          let target : d.target ≡ b.target = second_of d.group b.group d.target b.target pair in
          let seq_is : seq ≡ b.seq = some_is (sym d.waits ∙ b.waits) in
          WaitsOn step.0 now_then b (record {
            lives = crashed_same words scenario bounded rows row t seat.who ∙ h.lives;
            least = subst (λ n. first ≤ n) seq_is least;
            alone = pending_then words scenario bounded rows row t Lone (pending_first words scenario bounded rows row t Lone h.alone).1 (subst (Each Lone) (sym (sends_so seq d)) (((refl, least), tt), tt));
            nodes = nodes_same (λ n. Leads words scenario bounded off client seat is_of number first n) h.nodes;
            stands = subst (λ n. StandsAt after n b.group b.target) seq_is (subst (λ n. StandsAt after seq b.group n) target (subst (λ g. StandsAt after seq g d.target) group stands));
          })
    ]

    -- it sends the next request, which nobody knows
    next_state : Asks asks (a.seq + 1) step → State after
    next_state d =
        let U : Mail → Type 0 = λ mail. lone.IsUnlearnt client first (a.seq + 1) false ⊥ mail.body in
        let F : Mail → Type 0 = λ mail. IsFewBody client a.seq mail.body in
        let least = h.least in
        let others = Each-weaker F U (λ mail few_. few_unlearnt client first a.seq mail.body few_) t.others (pending_first words scenario bounded rows row t F (pending_each words scenario bounded F rows few.sent)).1 in
        asks_state (a.seq + 1) d (omega (arith, least))
        (Waits false (λ e. absurd (true≢false (sym e)))
        (nodes_same (λ n. LogsAt (a.seq + 1) false n) (λ other of node e lives off_. Each-weaker (λ (r : ReplicaState). IsFewPlace client a.seq (r, [])) (λ (r : ReplicaState). Each (λ (c : Command). lone.IsOther client (a.seq + 1) c) r.log.entries)
        (λ r k. Each-weaker (IsAtMost client a.seq) (λ (c : Command). lone.IsOther client (a.seq + 1) c) (λ c low. at_most_other client a.seq c low) r.log.entries k.entries) node.replicas (subst (PlayerFew client a.seq) e (few.players other of))))
        (pending_then words scenario bounded rows row t U others (subst (Each U) (sym (sends_so (a.seq + 1) d)) (tt, tt))) (new_where (a.seq + 1) d))

    -- it has all replies
    end_state : Ends asks step → State after
    end_state d = elim (d.holds.state) [ inl r ↦ HasAll step.0 now_then r | inr (started_, b) ↦ absurd (none_some (sym d.waits ∙ b.waits)) ]

    -- it takes no notice
    still_state : Ignores asks t.mail step → State after
    still_state i =
        let none : row.sent ≡ [] = says_own ∙ ap (λ (x : ClientStep). x.1) i.after_is in
        WaitsOn asks (now_then ∙ ap (λ (x : ClientStep). Client x.0) i.after_is) a
        (holds_same a.seq a.group a.target none
        (stands_same a.seq a.group a.target none (λ g reply to body. i.no_reply a.seq g reply a.waits body)
        (λ answer from to body red. i.not_sent a.seq a.group answer a.waits (a.asked ∙ ap (λ n. Some (a.group, n)) (sym from)) body red) h.stands) h)

    -- what it does, by what stands where it sends the same request on
    by_does : ((d : Asks asks a.seq step) → StandsAt after a.seq d.group d.target) → State after
    by_does on = by (does asks a t.mail asking.asks.some)
      where
        by : Does asks a.seq t.mail step → State after
        by (AsksOn d) = asks_state a.seq d h.least (on d)
        by (AsksNext d) = next_state d
        by (EndsNow d) = end_state d
        by (TakesNoNotice i) = still_state i

    pub own_turn : State after
    own_turn = by h.stands
      where
        by : StandsAt rows a.seq a.group a.target → State after
        by (IsReplied r) = elim (subst (Among r.mail) t.first r.among) [
          | inl fact ↦
              let body : t.mail.body ≡ Answer r.group a.seq (Value r.reply) = ap (λ (m : Mail). m.body) fact ∙ r.body in
              let taken : step ≡ answer_taken t.mail.from r.group a.seq (Value r.reply) asks =
              ap (λ (b : MailBody). got t.mail.from b asks) body
              ∙ cond-true (waits_for asks.waiting a.seq) (answer_taken t.mail.from r.group a.seq (Value r.reply) asks) (asks, []) (ap (λ (o : Option ℕ). waits_for o a.seq) a.waits ∙ eq-eqb a.seq a.seq refl) in
              elim (replied r.reply asks a asking.asks.some) [
                | inl d ↦ next_state (subst (Asks asks (a.seq + 1)) (sym taken) d)
                | inr d ↦ end_state (subst (Ends asks) (sym taken) d)
              ]
          | inr rest ↦ by_does (λ d. IsReplied (record { mail = r.mail; among = rest_stays words scenario bounded rows row t r.mail rest; to = r.to; group = r.group; reply = r.reply; body = r.body }))
        ]
        by (Waits early late logs unlearnt w) =
            let U : Mail → Type 0 = λ mail. lone.IsUnlearnt client first a.seq early ⊥ mail.body in
            by_does (λ d. Waits early late (nodes_same (λ n. LogsAt a.seq early n) logs)
            (pending_then words scenario bounded rows row t U (pending_first words scenario bounded rows row t U unlearnt).1 (subst (Each U) (sym (sends_so a.seq d)) (tt, tt))) (new_where a.seq d))
