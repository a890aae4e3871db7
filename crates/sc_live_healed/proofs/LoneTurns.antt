-- What holds in the turn of a client that asks alone, delivery by delivery: nothing but its own requests is under way, and the request that it waits for is pending, held by the node that it asked or answered, or that node has crashed.
use Rattle.std.proofs.Common.{◌≡◌, ℕ, ◌≤◌, eqb, Bool, true, false, List, [], ◌∷◌, ◌++◌, Some, ◌⊎◌, inl, inr, refl, sym, ◌∙◌, ap, subst}
use Rattle.std.proofs.lemmas.Bool.{cases_eq}
use Rattle.sc_base.specs.Definitions.{Among, Each, client_actor}
use Rattle.sc_node_table.specs.Values.{Seat, Row, Draw, Op, Base, Command, AnswerBody, OrderLine, Got, Mail, MailBody, Request, Answer, Node, Client}
use Rattle.sc_actor.specs.Definitions.{mails, value, has_crashed}
use Rattle.sc_node_table.specs.NodeDefinitions.{NodeState, ReplicaState, replica_of, node_table}
use Rattle.sc_words.proofs.PaxosProofs.PaxosLemmas.{find_found}
use Rattle.sc_client_table.specs.table.TableDefinitions.{Client as ClientState, request_of}
use Rattle.sc_scenario.specs.declared.scenario.scenarios.Scenario.{Scenario}
use Rattle.sc_scenario.specs.scenario.Definitions.{IsBounded}
use Rattle.sc_meaning.specs.sound.SoundDefinitions.{Player, as_nodes, births, player_table}
use Rattle.sc_live_orderly.specs.OrderlyDefinitions.{TakesLowest}
use Rattle.sc_live_plain.specs.PlainDefinitions.{IsResting}
use Rattle.sc_live_healed.specs.HealedDefinitions.{IsFixedMail, IsFixedBody, IsAskingOn}
use Rattle.sc_live_healed.proofs.FixedNodes.{AreFresh}
use Rattle.sc_live_healed.proofs.FixedJournals.{Rows, IsFixedPlayer, IsOf, fresh, given}
use Rattle.sc_live_healed.proofs.TakenJournals.{PlayerTakes, IsTakenJournal}
use Rattle.sc_live_healed.proofs.VotesInTurns.{node_is}
use Rattle.sc_live_healed.proofs.FewJournals.{IsFewJournal, PlayerFew}
use Rattle.sc_live_healed.proofs.NumberedRequests.{IsFewBody}
use Rattle.sc_law_walks.proofs.WalkLemmas.{redirects}
use Rattle.sc_live_healed.proofs.TakenRequests.{IsHeld, reply_mail}
use Rattle.sc_live_healed.proofs.LoneRequests as lone
use Rattle.sc_live_healed.proofs.LoneMail.{IsReplyOrRedirect}
use Rattle.sc_live_healed.proofs.LoneNodes.{TakesAlone, node_alone, node_hidden, node_held, node_asked}
use Rattle.sc_live_healed.proofs.LoneDeliveries.{S, pending, Gets, born_gets, pending_each, receiver_is, receiver_of, same_seat, sent_is, value_own, value_other, crashed_same, rest_stays, sent_stays, pending_then, pending_first, receiver_lives}

module _ (words : ℕ → ℕ → ℕ × ℕ) (scenario : Scenario) (bounded : IsBounded scenario) (off : scenario.policy ≡ false) (client : ℕ) (seat : Seat Player) (is_of : IsOf scenario seat) (number : seat.who ≡ client_actor client) (first : ℕ) where
  abbrev bases : List Base
  bases = scenario.groups

  abbrev pub mail_at : Rows → List Mail
  mail_at rows = pending words scenario bounded rows

  -- what holds of each node that has not crashed
  abbrev pub AtNodes : Rows → (NodeState → Type 0) → Type 0
  AtNodes rows P = (other : Seat Player) → IsOf scenario other → (node : NodeState) → value player_table other rows ≡ Node node → has_crashed rows other.who ≡ false → P node

  abbrev pub Leads : NodeState → Type 0
  Leads node = Each (λ (r : ReplicaState). r.running ≡ true → lone.LeadsAlone client first r) node.replicas

  abbrev pub Logs : ℕ → Bool → NodeState → Type 0
  Logs seq early node = early ≡ false → Each (λ (r : ReplicaState). Each (λ (c : Command). lone.IsOther client seq c) r.log.entries) node.replicas

  -- where the request is that the client waits for: it is pending, or an answer of the node that was asked which sends the client on; or that node holds it, or has crashed
  pub data Where (rows : Rows) (seq : ℕ) (group : Draw) (target : ℕ) : Type 0 where
    IsSent : (op : Op) → Among (request_of client group target (seq, op)) (mail_at rows) → Where rows seq group target
    IsSentOn : (mail : Mail) → Among mail (mail_at rows) → mail.from ≡ target → mail.to ≡ client_actor client → (answer : AnswerBody) → mail.body ≡ Answer group seq answer → redirects answer ≡ true → Where rows seq group target
    IsHeldAt : (other : Seat Player) → IsOf scenario other → other.who ≡ target → has_crashed rows other.who ≡ false → (node : NodeState) → value player_table other rows ≡ Node node → (base : Base) → Among base scenario.groups → base.core.id ≡ group
        → (r : ReplicaState) → replica_of base.core.id node.replicas ≡ Some r → r.running ≡ true → IsHeld client seq r → Where rows seq group target
    HasCrashed : has_crashed rows target ≡ true → Where rows seq group target

  -- a reply to it is pending, or it is in no log and no Learn, and stands somewhere
  pub data Stands (rows : Rows) (seq : ℕ) (group : Draw) (target : ℕ) : Type 0 where
    IsReplied : lone.Replies client seq (mail_at rows) → Stands rows seq group target
    Waits : (early : Bool) → (early ≡ true → first ≡ seq) → AtNodes rows (λ node. Logs seq early node) → Each (λ (mail : Mail). lone.IsUnlearnt client first seq early ⊥ mail.body) (mail_at rows) → Where rows seq group target → Stands rows seq group target

  -- What holds after these rows, where the client waits for an answer to this request, which it asked of this node of this group.
  pub record TurnHolds (rows : Rows) (seq : ℕ) (group : Draw) (target : ℕ) : Type 0 where
    pub lives : has_crashed rows seat.who ≡ false
    pub least : first ≤ seq
    pub alone : Each (λ (mail : Mail). lone.IsLoneMail client first mail) (mail_at rows)
    pub nodes : AtNodes rows Leads
    pub stands : Stands rows seq group target

  -- the client waits, and it holds, or the client has all replies
  pub data TurnState (rows : Rows) : Type 0 where
    WaitsOn : (asks : ClientState) → value player_table seat rows ≡ Client asks → (a : IsAskingOn asks) → TurnHolds rows a.seq a.group a.target → TurnState rows
    HasAll : (asks : ClientState) → value player_table seat rows ≡ Client asks → IsResting true asks → TurnState rows

  -- ---- a delivery to a node

  module _ (rows : Rows) (row : Row Mail OrderLine) (t : TakesLowest (S words scenario bounded) rows row) (taken : IsTakenJournal scenario rows) (node : NodeState) (here : value player_table t.seat rows ≡ Node node) where
    abbrev after : Rows
    after = rows ++ row ∷ []

    abbrev stepped : NodeState × List Mail
    stepped = node_table node (Got t.mail)

    who_is : IsFixedPlayer bases t.seat.who (Node node)
    who_is = subst (IsFixedPlayer bases t.seat.who) here (taken.fixed.players t.seat (receiver_of words scenario bounded rows row t))

    mail_is : IsFixedMail bases t.mail
    mail_is = given words scenario bounded off (mails rows) t.number t.mail taken.fixed.sent t.sent

    says : row.sent ≡ stepped.1
    says = sent_is words scenario bounded rows row t ∙ ap (λ (p : Player). (player_table p (Got t.mail)).1) here

    -- the node is as the step leaves it, and the others as they were
    nodes_after : (P : NodeState → Type 0) → AtNodes rows P → P stepped.0 → AtNodes after P
    nodes_after P k new other of n e lives = elim (cases_eq t.seat.who other.who) [
      | inl same ↦ (
          let was : value player_table other rows ≡ Node node = ap (λ (s : Seat Player). value player_table s rows) (sym (same_seat words scenario bounded rows row t other of same)) ∙ here in
          let now = value_own words scenario bounded rows row t other same ∙ ap (λ (p : Player). (player_table p (Got t.mail)).0) was in
          subst P (node_is (sym now ∙ e)) new)
      | inr apart ↦ k other of n (sym (value_other words scenario bounded rows row t other apart) ∙ e) (sym (crashed_same words scenario bounded rows row t other.who) ∙ lives)
    ]

    module _ (asks : ClientState) (now : value player_table seat rows ≡ Client asks) where
      no_client : {n : NodeState} {c : ClientState} → ◌≡◌ {A = Player} (Node n) (Client c) → ⊥
      no_client e = cc

      -- the client does not take it
      apart_client : t.seat.who ≡ seat.who → ⊥
      apart_client same = no_client (sym here ∙ ap (λ (s : Seat Player). value player_table s rows) (same_seat words scenario bounded rows row t seat is_of same) ∙ now)

      not_first : (mail : Mail) → mail.to ≡ client_actor client → t.mail ≡ mail → ⊥
      not_first mail to same = apart_client (receiver_is words scenario bounded rows row t ∙ ap (λ (m : Mail). m.to) same ∙ to ∙ sym number)

      pub same_client : value player_table seat after ≡ Client asks
      same_client = value_other words scenario bounded rows row t seat apart_client ∙ now

      module _ (seq : ℕ) (group : Draw) (target : ℕ) (few : IsFewJournal client seq scenario rows) (h : TurnHolds rows seq group target) where
        takes : TakesAlone client first seq bases node t.mail
        takes = record {
          fixed = who_is.2;
          slots = subst (PlayerTakes bases) here (taken.takes t.seat (receiver_of words scenario bounded rows row t));
          few = subst (PlayerFew client seq) here (few.players t.seat (receiver_of words scenario bounded rows row t));
          leads = h.nodes t.seat (receiver_of words scenario bounded rows row t) node here (receiver_lives words scenario bounded rows row t);
          mail_fixed = mail_is;
          to = sym (receiver_is words scenario bounded rows row t) ∙ sym who_is.0;
          mail_few = (pending_first words scenario bounded rows row t (λ (mail : Mail). IsFewBody client seq mail.body) (pending_each words scenario bounded (λ (mail : Mail). IsFewBody client seq mail.body) rows few.sent)).0;
          alone = (pending_first words scenario bounded rows row t (λ (mail : Mail). lone.IsLoneMail client first mail) h.alone).0.0;
        }

        apart : AreFresh bases
        apart = fresh words scenario bounded off

        abbrev Unlearnt : Bool → Mail → Type 0
        Unlearnt early mail = lone.IsUnlearnt client first seq early ⊥ mail.body

        -- an answer to the client is pending then
        answer_pending : (mail : Mail) → Among mail stepped.1 → mail.to ≡ client_actor client → Among mail (mail_at after)
        answer_pending mail a to =
            sent_stays words scenario bounded rows row t mail (subst (Among mail) (sym says) a)
            (subst (λ who. Gets words scenario bounded rows who) (number ∙ sym to) (born_gets words scenario bounded rows seat (find_found (λ (other : Seat Player). eqb other.who seat.who) (births as_nodes scenario) seat is_of).0 h.lives))

        replied_sent : lone.Replies client seq stepped.1 → Stands after seq group target
        replied_sent r = IsReplied (record { mail = r.mail; among = answer_pending r.mail r.among r.to; to = r.to; group = r.group; reply = r.reply; body = r.body })

        -- where the node serves the request
        served : (early : Bool) → (early ≡ true → first ≡ seq) → AtNodes after (λ n. Logs seq early n) → Each (Unlearnt early) (mail_at after) → (base : Base) → Among base scenario.groups → base.core.id ≡ group → t.seat.who ≡ target
            → ((r : ReplicaState) × (replica_of base.core.id stepped.0.replicas ≡ Some r) × (r.running ≡ true) × IsHeld client seq r) ⊎ ((answer : AnswerBody) × IsReplyOrRedirect answer × Among (reply_mail client seq node.me base.core.id answer) stepped.1) → Stands after seq group target
        served early late logs unlearnt base a id at (inl s) =
            Waits early late logs unlearnt (IsHeldAt t.seat (receiver_of words scenario bounded rows row t) at (crashed_same words scenario bounded rows row t t.seat.who ∙ receiver_lives words scenario bounded rows row t) stepped.0
            (value_own words scenario bounded rows row t t.seat refl ∙ ap (λ (p : Player). (player_table p (Got t.mail)).0) here) base a id s.0 s.1 s.2 s.3)
        served early late logs unlearnt base a id at (inr (answer, inl red, said)) =
            let mail : Mail = reply_mail client seq node.me base.core.id answer in
            Waits early late logs unlearnt (IsSentOn mail (answer_pending mail said refl) (who_is.0 ∙ at) refl answer (ap (λ (d : Draw). Answer d seq answer) id) red)
        served early late logs unlearnt base a id at (inr (answer, inr reported, said)) =
            let mail : Mail = reply_mail client seq node.me base.core.id answer in
            IsReplied (record { mail = mail; among = answer_pending mail said refl; to = refl; group = base.core.id; reply = reported.0; body = ap (λ (x : AnswerBody). Answer base.core.id seq x) reported.1 })

        still_waits : (early : Bool) → (late : early ≡ true → first ≡ seq) → AtNodes rows (λ n. Logs seq early n) → Each (Unlearnt early) (mail_at rows) → Where rows seq group target → Stands after seq group target
        still_waits early late logs unlearnt w =
            let u = pending_first words scenario bounded rows row t (Unlearnt early) unlearnt in
            let logs_here = logs t.seat (receiver_of words scenario bounded rows row t) node here (receiver_lives words scenario bounded rows row t) in
            elim (node_hidden client first seq bases apart node t.mail takes early late logs_here u.0) [
              | inr r ↦ replied_sent r
              | inl hidden ↦ by w (nodes_after (λ n. Logs seq early n) logs hidden.0) (pending_then words scenario bounded rows row t (Unlearnt early) u.1 (subst (Each (Unlearnt early)) (sym says) hidden.1)) u.0 logs_here
            ]
          where
            by : Where rows seq group target → AtNodes after (λ n. Logs seq early n) → Each (Unlearnt early) (mail_at after) → Unlearnt early t.mail → Logs seq early node → Stands after seq group target
            by (IsSent op am) logs1 unlearnt1 fine logs_here = elim (subst (Among (request_of client group target (seq, op))) t.first am) [
              | inr rest ↦ Waits early late logs1 unlearnt1 (IsSent op (rest_stays words scenario bounded rows row t (request_of client group target (seq, op)) rest))
              | inl same ↦
                  let body : t.mail.body ≡ Request group client seq op = ap (λ (m : Mail). m.body) same in
                  let says_so : IsFixedBody mail_is.base t.mail.from t.mail.to (Request group client seq op) = subst (λ (b : MailBody). IsFixedBody mail_is.base t.mail.from t.mail.to b) body mail_is.says in
                  served early late logs1 unlearnt1 mail_is.base mail_is.among (sym says_so.0) (receiver_is words scenario bounded rows row t ∙ ap (λ (m : Mail). m.to) same)
                  (node_asked client first seq bases apart node t.mail takes early late logs_here fine mail_is.base mail_is.among op (body ∙ ap (λ (d : Draw). Request d client seq op) says_so.0))
            ]
            by (IsSentOn mail am from to answer body red) logs1 unlearnt1 fine logs_here = elim (subst (Among mail) t.first am) [
              | inl same ↦ absurd (not_first mail to same)
              | inr rest ↦ Waits early late logs1 unlearnt1 (IsSentOn mail (rest_stays words scenario bounded rows row t mail rest) from to answer body red)
            ]
            by (IsHeldAt other of at lives n e base a id r found on held) logs1 unlearnt1 fine logs_here = elim (cases_eq t.seat.who other.who) [
              | inl same ↦
                  let one : n ≡ node = node_is (sym e ∙ (ap (λ (s : Seat Player). value player_table s rows) (sym (same_seat words scenario bounded rows row t other of same)) ∙ here)) in
                  served early late logs1 unlearnt1 base a id (same ∙ at) (node_held client first seq bases apart node t.mail takes early late logs_here fine base a r (ap (λ (x : NodeState). replica_of base.core.id x.replicas) (sym one) ∙ found) on held)
              | inr unlike ↦ Waits early late logs1 unlearnt1 (IsHeldAt other of at (crashed_same words scenario bounded rows row t other.who ∙ lives) n (value_other words scenario bounded rows row t other unlike ∙ e) base a id r found on held)
            ]
            by (HasCrashed c) logs1 unlearnt1 fine logs_here = Waits early late logs1 unlearnt1 (HasCrashed (crashed_same words scenario bounded rows row t target ∙ c))

        stands_after : Stands rows seq group target → Stands after seq group target
        stands_after (Waits early late logs unlearnt w) = still_waits early late logs unlearnt w
        stands_after (IsReplied r) = elim (subst (Among r.mail) t.first r.among) [
          | inl same ↦ absurd (not_first r.mail r.to same)
          | inr rest ↦ IsReplied (record { mail = r.mail; among = rest_stays words scenario bounded rows row t r.mail rest; to = r.to; group = r.group; reply = r.reply; body = r.body })
        ]

        pub node_turn : TurnHolds after seq group target
        node_turn =
            let alone = node_alone client first seq bases apart node t.mail takes in
            record {
              lives = crashed_same words scenario bounded rows row t seat.who ∙ h.lives;
              least = h.least;
              alone = pending_then words scenario bounded rows row t (λ (mail : Mail). lone.IsLoneMail client first mail) (pending_first words scenario bounded rows row t (λ (mail : Mail). lone.IsLoneMail client first mail) h.alone).1
                  (subst (Each (λ (mail : Mail). lone.IsLoneMail client first mail)) (sym says) alone.1);
              nodes = nodes_after Leads h.nodes alone.0;
              stands = stands_after h.stands;
            }
