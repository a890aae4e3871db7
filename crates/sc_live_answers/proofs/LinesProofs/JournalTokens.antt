-- While clients ask, no row raises tokens.
use Rattle.std.proofs.Common.{◌≡◌, ℕ, ◌+◌, ◌≤◌, eqb, Bool, true, false, cond, List, [], ◌∷◌, ◌++◌, find, sum_by, Some, inl, inr, refl, sym, ◌∙◌, ap, subst, arith, eq-eqb}
use Rattle.std.specs.List.{filter}
use Rattle.std.specs.Option.{option_map}
use Rattle.std.proofs.lemmas.List.Sums.{sum_by-append, sum_by-cons}
use Rattle.sc_base.specs.Definitions.{Among, client_actor, same_draw}
use Rattle.sc_node_table.specs.Values.{Draw, Op, OrderLine, Mail, Answer, Node, Client, Seat, Event, Deliver, Tick, Go, Got, Row}
use Rattle.sc_actor.specs.declared.rows.Input.TheVariants.{Go as GoInput}
use Rattle.sc_actor.specs.Definitions.{mails, copies, counts_at, numbered, value, acted, input_of, System, row_of, are_apart, waiting, kth}
use Rattle.sc_actor.proofs.PendingLemmas as pending
use Rattle.sc_actor.proofs.Lemmas.{value-snoc}
use Rattle.sc_node_table.specs.NodeDefinitions.{NodeState, replica_of, with_replica, node_table, ReplicaState, name_of, mailed}
use Rattle.sc_scenario.specs.declared.scenario.scenarios.Asks.{Asks}
use Rattle.sc_scenario.specs.declared.scenario.scenarios.Scenario.{Scenario}
use Rattle.sc_meaning.specs.sound.SoundDefinitions.{Player, player_table, node_seat, client_seat, route_of, births, system_of, as_nodes}
use Rattle.sc_live_orderly.specs.OrderlyDefinitions.{IsTidy, IsOrderly, IsInOrder, mail_with, is_born, Owing, under_way, owed, owed_by}
use Rattle.sc_live_orderly.proofs.OrderlyLemmas.{delivered, filter_sum, after-row, is_born-from, one_changes}
use Rattle.sc_live_plain.specs.PlainDefinitions.{IsAsking, AreFarFromLast, IsLinkedSetting, Setting, IsSetting, IsCalmNode, ComesInTime, IsBegun, Requests, IsPlainBody}
use Rattle.sc_live_plain.proofs.CalmProofs.RequestPhaseClients as clients_of
use Rattle.sc_live_plain.proofs.CalmProofs.RequestPhaseNodes as turns_of
use Rattle.sc_live_plain.proofs.PlainLemmas.{IsStage, Journal, of_player, unasked, Turns, step_is, aside_is, aside_answer, some_is, NodeRow, IsFor, for_node, mail_is, replica_row, mail_of}
use Rattle.sc_live_answers.specs.AnswerDefinitions.{body_token, mail_token, replica_tokens, player_token, token_owing}
use Rattle.sc_live_answers.proofs.LinesProofs.ClientTokens.{got_tokens, go_tokens}
use Rattle.sc_live_answers.proofs.LinesProofs.PumpTokens.{answer_token}
use Rattle.sc_live_answers.proofs.LinesProofs.RowTokens.{stay_row}

-- ---- what rows leave of what is owed

module _ {A M O : Type 0} (s : System A M O) (apart : are_apart s.births ≡ true) (owing : Owing A M) where
  mail_after : (rows : List (Row M O)) (row : Row M O) → sum_by owing.mail (under_way s (rows ++ row ∷ [])) ≤ sum_by owing.mail (mail_with (λ mail. is_born s (s.receiver mail)) (mails rows) (counts_at (copies rows) row.event)) + sum_by owing.mail row.sent
  mail_after rows row =
      let test : M → Bool = λ mail. is_born s (s.receiver mail) in
      let left = mail_with test (mails rows) (counts_at (copies rows) row.event) in
      let fact = ap (sum_by owing.mail) (after-row s test rows row) in
      let split = sum_by-append owing.mail left (filter test row.sent) in
      let le = filter_sum test owing.mail row.sent in
      omega (arith, fact, split, le)

  actors_after : (rows : List (Row M O)) (seat : Seat A) (event : Event O) → find (λ other. eqb other.who seat.who) s.births ≡ Some seat
      → sum_by (λ other. owing.actor (value s.table other (rows ++ row_of s.table seat rows event ∷ []))) s.births + owing.actor (value s.table seat rows)
      ≡ sum_by (λ other. owing.actor (value s.table other rows)) s.births + owing.actor (acted s.table (value s.table seat rows) (input_of (mails rows) event)).0
  actors_after rows seat event born =
      let row = row_of s.table seat rows event in
      let f : Seat A → ℕ = λ other. owing.actor (value s.table other rows) in
      let g : Seat A → ℕ = λ other. owing.actor (value s.table other (rows ++ row ∷ [])) in
      let stays : (other : Seat A) → eqb seat.who other.who ≡ false → g other ≡ f other =
      λ other e. ap owing.actor (value-snoc s.table other rows row ∙ ap (λ b. cond b (acted s.table (value s.table other rows) (input_of (mails rows) event)).0 (value s.table other rows)) e) in
      let here : g seat ≡ owing.actor (acted s.table (value s.table seat rows) (input_of (mails rows) event)).0 =
      ap owing.actor (value-snoc s.table seat rows row ∙ ap (λ b. cond b (acted s.table (value s.table seat rows) (input_of (mails rows) event)).0 (value s.table seat rows)) (eq-eqb seat.who seat.who refl)) in
      one_changes f g seat.who stays s.births seat apart born ∙ ap (λ n. sum_by f s.births + n) here

  delivery_after : (rows : List (Row M O)) (seat : Seat A) (number : ℕ) → find (λ other. eqb other.who seat.who) s.births ≡ Some seat → kth (waiting s rows (Some seat.who)) 1 ≡ Some number
      → ((mail : M) → numbered (mails rows) number ≡ Some mail → owed_by owing (s.table (value s.table seat rows) (Got mail)) ≤ owing.actor (value s.table seat rows) + owing.mail mail)
      → owed s owing (rows ++ row_of s.table seat rows (Deliver number) ∷ []) ≤ owed s owing rows
  delivery_after rows seat number born fine paid =
      let row = row_of s.table seat rows (Deliver number) in
      let w = pending.waiting_one s rows seat.who 1 number fine in
      let input : input_of {O = O} (mails rows) (Deliver number) ≡ Some (Got w.0) = ap (λ o. option_map Got o) w.1.sent in
      let now = value s.table seat rows in
      let by_table = ap (λ i. owed_by owing (acted s.table now i)) input in
      let lower = paid w.0 w.1.sent in
      let actors = actors_after rows seat (Deliver number) born in
      let mail = mail_after rows row in
      let took = delivered s owing.mail rows number w.0 (ap (is_born s) w.2 ∙ is_born-from s seat.who seat born) w.1 in
      omega (arith, by_table, lower, actors, mail, took)

  go_after : (rows : List (Row M O)) (seat : Seat A) → find (λ other. eqb other.who seat.who) s.births ≡ Some seat → owed_by owing (s.table (value s.table seat rows) GoInput) ≤ owing.actor (value s.table seat rows)
      → owed s owing (rows ++ row_of s.table seat rows Go ∷ []) ≤ owed s owing rows
  go_after rows seat born paid =
      let row = row_of s.table seat rows Go in
      let actors = actors_after rows seat Go born in
      let mail = mail_after rows row in
      omega (arith, paid, actors, mail)

-- ---- a node

-- one replica changes
put_sum : (f : ReplicaState → ℕ) (group : Draw) (new r : ReplicaState) (replicas : List ReplicaState) → replica_of group replicas ≡ Some r → sum_by f (with_replica group new replicas) + f r ≡ sum_by f replicas + f new
put_sum f group new r [] e = cc
put_sum f group new r (x ∷ xs) e = by (same_draw (name_of x) group) e (put_sum f group new r xs)
  where
    by : (b : Bool) → cond b (Some x) (replica_of group xs) ≡ Some r → (replica_of group xs ≡ Some r → sum_by f (with_replica group new xs) + f r ≡ sum_by f xs + f new)
        → sum_by f (cond b (new ∷ xs) (x ∷ with_replica group new xs)) + f r ≡ sum_by f (x ∷ xs) + f new
    by true fact more =
        let same : x ≡ r = cc in
        let a = sum_by-cons f x xs in
        let b = sum_by-cons f new xs in
        let d = ap f same in
        omega (arith, a, b, d)
    by false fact more =
        let le = more fact in
        let a = sum_by-cons f x xs in
        let b = sum_by-cons f x (with_replica group new xs) in
        omega (arith, le, a, b)

module _ (c : ℕ) (begun : Requests) (scenario : Scenario) (rows : Journal) (set : Setting) (fact : IsSetting set) (node : NodeState) (n : IsCalmNode (IsBegun scenario rows) set node) (mail : Mail) (to : mail.to ≡ node.me)
    (not_client : (client seq : ℕ) (op : Op) → IsBegun scenario rows client seq op → node.me ≡ client_actor client → ⊥) (due : ComesInTime (IsBegun scenario rows) set node mail) where
  abbrev b : Requests
  b = IsBegun scenario rows

  abbrev Paid : NodeState × List Mail → Type 0
  Paid step = sum_by (replica_tokens c) step.0.replicas + sum_by (mail_token c) step.1 ≤ sum_by (replica_tokens c) node.replicas + mail_token c mail

  plain_paid : NodeRow (IsBegun scenario rows) set.frames fact.are fact.apart node mail (node_table node (Got mail)) → Paid (node_table node (Got mail))
  plain_paid k =
      let says : IsPlainBody (IsBegun scenario rows) k.frame mail.from node.me mail.body = subst (λ who. IsPlainBody (IsBegun scenario rows) k.frame mail.from who mail.body) to k.says in
      let in_time = due k.frame k.r k.is_frame k.says k.found in
      let at = n.plain.replicas k.frame k.r k.is_frame k.found in
      let none = (replica_row (IsBegun scenario rows) k.frame (fact.are k.frame k.is_frame) k.r mail.from in_time.1 node.me mail.body at says in_time.0 not_client).1 in
      let for : IsFor (IsBegun scenario rows) set.frames fact.are fact.apart k.frame mail.from mail.to mail.body = for_node (IsBegun scenario rows) set.frames fact.are fact.apart k.frame (fact.are k.frame k.is_frame) mail.from mail.to mail.body k.says (λ x s o q e. not_client x s o q (sym to ∙ e)) in
      let step = mail_is (IsBegun scenario rows) set.frames fact.are fact.apart k.frame.core.id mail.from mail.body node k.r for.may for.group k.found none in
      let stay = stay_row c (IsBegun scenario rows) k.frame (fact.are k.frame k.is_frame) node.me mail.from k.r in_time.1 mail.body at says in_time.0 not_client in
      let put = put_sum (replica_tokens c) k.frame.core.id (mailed mail.from mail.body (k.r, [])).0.0 k.r node.replicas k.found in
      let token = ap (λ who. body_token c who mail.body) to in
      subst Paid (sym step) (omega (arith, stay, put, token))

  paid : Turns (IsBegun scenario rows) set fact node n mail to not_client due → Paid (node_table node (Got mail))
  paid (inl k) = plain_paid k
  paid (inr a) =
      let step = step_is (IsBegun scenario rows) set fact node n mail to not_client due a in
      let sent = ap (mail_token c) (aside_is (IsBegun scenario rows) set fact node n mail to not_client due a) in
      let same = answer_token c a.client (name_of a.r) a.seq (aside_answer a.r.group.core.gone a.r.hint) in
      let asked = ap (body_token c mail.to) a.body_is in
      let after = ap (λ (x : NodeState × List Mail). sum_by (replica_tokens c) x.0.replicas + sum_by (mail_token c) x.1) step in
      let one = sum_by-cons (mail_token c) (mail_of a.r.me (client_actor a.client) (Answer (name_of a.r) a.seq (aside_answer a.r.group.core.gone a.r.hint))) [] in
      omega (arith, sent, same, asked, after, one)

-- ---- each row

module _ (c : ℕ) (words : ℕ → ℕ → ℕ × ℕ) (scenario : Scenario) (begins : IsStage scenario) (set : Setting) (fact : IsSetting set) (linked : IsLinkedSetting set) (rows : Journal) (t : IsTidy rows) (j : IsAsking words scenario set begins.first rows) (room : AreFarFromLast scenario set rows) where
  abbrev sys : System Player Mail OrderLine
  sys = system_of as_nodes words scenario

  abbrev nseat : ℕ → Seat Player
  nseat me = node_seat as_nodes scenario.groups scenario.policy me

  abbrev cseat : Asks → Seat Player
  cseat asks = client_seat (route_of begins.first) asks

  abbrev Falls : Row Mail OrderLine → Type 0
  Falls row = owed (system_of as_nodes words scenario) (token_owing c) (rows ++ row ∷ []) ≤ owed (system_of as_nodes words scenario) (token_owing c) rows

  module _ (me : ℕ) (one : 1 ≤ me) (most : me ≤ scenario.nodes) (born : find (λ (other : Seat Player). eqb other.who me) (births as_nodes scenario) ≡ Some (node_seat as_nodes scenario.groups scenario.policy me)) where
    node_falls : (event : Event OrderLine) → IsInOrder (system_of as_nodes words scenario) rows me event → Falls (row_of player_table (node_seat as_nodes scenario.groups scenario.policy me) rows event)
    node_falls (Deliver number) fine =
        let n = turns_of.n words scenario begins set fact rows t j room me one most born in
        let first = turns_of.first words scenario begins set fact rows t j room me one most born number fine in
        let pays = paid c (IsBegun scenario rows) scenario rows set fact n.node n.calm first.mail (turns_of.to_me words scenario begins set fact rows t j room me one most born number fine) (turns_of.not_client words scenario begins set fact rows t j room me one most born)
        (turns_of.in_time words scenario begins set fact rows t j room me one most born number fine) (turns_of.turn words scenario begins set fact rows t j room me one most born number fine) in
        delivery_after sys begins.seats_apart (token_owing c) rows (nseat me) number born fine
        (λ mail e. subst (λ (p : Player). owed_by (token_owing c) (player_table p (Got mail)) ≤ player_token c p + mail_token c mail) (sym n.fact)
        (subst (λ (m : Mail). owed_by (token_owing c) (player_table (Node n.node) (Got m)) ≤ player_token c (Node n.node) + mail_token c m) (some_is (sym first.sent ∙ e)) pays))
    node_falls Go fine =
        let n = turns_of.n words scenario begins set fact rows t j room me one most born in
        go_after sys begins.seats_apart (token_owing c) rows (nseat me) born (subst (λ (p : Player). owed_by (token_owing c) (player_table p GoInput) ≤ player_token c p) (sym n.fact) (omega arith))
    node_falls Tick fine = absurd fine
    node_falls _ fine = absurd fine

  module _ (asks : Asks) (a : Among asks scenario.clients) (born : find (λ (other : Seat Player). eqb other.who (client_actor asks.client)) (births as_nodes scenario) ≡ Some (client_seat (route_of begins.first) asks)) where
    client_falls : (event : Event OrderLine) → IsInOrder (system_of as_nodes words scenario) rows (client_actor asks.client) event → Falls (row_of player_table (client_seat (route_of begins.first) asks) rows event)
    client_falls (Deliver number) fine =
        let k = clients_of.c words scenario begins set fact linked rows t j asks a born in
        let first = clients_of.first words scenario begins set fact linked rows t j asks a born number fine in
        let pays = got_tokens c k.client first.mail.from first.mail.to first.mail.body (first.receiver ∙ ap client_actor (sym k.calm.me_is)) in
        delivery_after sys begins.seats_apart (token_owing c) rows (cseat asks) number born fine
        (λ mail e. subst (λ (p : Player). owed_by (token_owing c) (player_table p (Got mail)) ≤ player_token c p + mail_token c mail) (sym k.fact)
        (subst (λ (m : Mail). owed_by (token_owing c) (player_table (Client k.client) (Got m)) ≤ player_token c (Client k.client) + mail_token c m) (some_is (sym first.sent ∙ e)) pays))
    client_falls Go fine =
        let k = clients_of.c words scenario begins set fact linked rows t j asks a born in
        let fresh = clients_of.fresh words scenario begins set fact linked rows t j asks a born fine in
        go_after sys begins.seats_apart (token_owing c) rows (cseat asks) born
        (subst (λ (p : Player). owed_by (token_owing c) (player_table p GoInput) ≤ player_token c p) (sym k.fact) (go_tokens c k.client (unasked k.client fresh.state).0))
    client_falls Tick fine = absurd fine
    client_falls _ fine = absurd fine

  pub falls : (row : Row Mail OrderLine) → IsOrderly (system_of as_nodes words scenario) rows row → owed (system_of as_nodes words scenario) (token_owing c) (rows ++ row ∷ []) ≤ owed (system_of as_nodes words scenario) (token_owing c) rows
  falls row o = elim (of_player words scenario begins rows row o) [
    | inl n ↦ (
        let row_is : row ≡ row_of player_table (nseat n.me) rows o.event = o.row_is ∙ ap (λ (seat : Seat Player). row_of player_table seat rows o.event) n.seat_is in
        let born = subst (λ (seat : Seat Player). find (λ (other : Seat Player). eqb other.who seat.who) (births as_nodes scenario) ≡ Some seat) n.seat_is o.born in
        subst Falls (sym row_is) (node_falls n.me n.one n.most born o.event (subst (λ (seat : Seat Player). IsInOrder sys rows seat.who o.event) n.seat_is o.in_order)))
    | inr d ↦ (
        let row_is : row ≡ row_of player_table (cseat d.asks) rows o.event = o.row_is ∙ ap (λ (seat : Seat Player). row_of player_table seat rows o.event) d.seat_is in
        let born = subst (λ (seat : Seat Player). find (λ (other : Seat Player). eqb other.who seat.who) (births as_nodes scenario) ≡ Some seat) d.seat_is o.born in
        subst Falls (sym row_is) (client_falls d.asks d.is_asks born o.event (subst (λ (seat : Seat Player). IsInOrder sys rows seat.who o.event) d.seat_is o.in_order)))
  ]
