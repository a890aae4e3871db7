-- In a line of requests a client that has not started stays as it was, and nothing is sent to who is no actor but what is nothing to any group.
use Rattle.std.proofs.Common.{◌≡◌, ℕ, ◌≤◌, eqb, Bool, true, false, List, [], ◌∷◌, ◌++◌, length, drop, filter, find, Some, inl, inr, refl, sym, ◌∙◌, ap, subst, arith, append_assoc, append-nil}
use Rattle.std.proofs.lemmas.Bool.{cond_both, cases_eq, both_ways, eqb-true}
use Rattle.sc_base.specs.Definitions.{Among, Each, client_actor}
use Rattle.sc_node_table.specs.Values.{Draw, Op, Base, OrderLine, Mail, MailBody, Request, Answer, Node, Client, Seat, Event, Deliver, Tick, Go, Got, Row}
use Rattle.sc_actor.specs.declared.rows.Input.TheVariants.{Go as GoInput}
use Rattle.sc_actor.specs.Definitions.{mails, value, acted, input_of, System, row_of, has_started}
use Rattle.sc_client_table.specs.table.TableDefinitions.{Client as ClientState, table}
use Rattle.sc_words.proofs.PaxosProofs.PaxosLemmas.{Each-append, Each-filter}
use Rattle.sc_node_table.specs.NodeDefinitions.{is_node, node_table}
use Rattle.sc_scenario.specs.declared.scenario.scenarios.Asks.{Asks}
use Rattle.sc_scenario.specs.declared.scenario.scenarios.Scenario.{Scenario}
use Rattle.sc_meaning.specs.sound.SoundDefinitions.{Player, player_table, node_seat, client_seat, route_of, births, system_of, as_nodes}
use Rattle.sc_live_orderly.specs.OrderlyDefinitions.{IsTidy, IsOrderly, IsInOrder, rest, is_born, mail_for, taken}
use Rattle.sc_live_orderly.proofs.OrderlyLemmas.{rest-row}
use Rattle.sc_live_plain.specs.PlainDefinitions.{IsAsking, AreFarFromLast, AreRequests, AreSeated, Other, mark, IsLinkedSetting, IsCalmClient, Setting, IsSetting, IsAsideBody, IsCalmMail, waiting_one, IsBegun, begun_of, Requests}
use Rattle.sc_live_plain.proofs.CalmProofs.RequestPhaseClients as clients_of
use Rattle.sc_live_plain.proofs.PlainLemmas.{aside_mark, nothing_to, starts_now, takes_only, go_only, IsStage, node_number, client_number, value_others, gone_others, started_still, Journal, of_player, unasked, stays_by, IsFor, for_node, is_node_born as node_is_born}
use Rattle.sc_live_plain.proofs.CalmProofs.RequestPhaseNodes as turns_of
use Rattle.sc_law_entries.proofs.NamesProofs.NameLemmas.{Each-drop}

-- ---- what a line keeps

module _ (words : ℕ → ℕ → ℕ × ℕ) (scenario : Scenario) (begins : IsStage scenario) (set : Setting) (fact : IsSetting set) (linked : IsLinkedSetting set) (R : Journal → Type 0)
    (step : (rows : Journal) → IsTidy rows → IsAsking words scenario set begins.first rows → AreFarFromLast scenario set rows → (row : Row Mail OrderLine) → IsOrderly (system_of as_nodes words scenario) rows row → R rows → R (rows ++ row ∷ [])) where
  abbrev Holds : Journal → Type 0
  Holds rows = IsAsking words scenario set begins.first rows × R rows

  module _ (before after : Journal) (requests : AreRequests words scenario set before after) where
    pub line_keeps : (prefix back : Journal) → after ≡ prefix ++ back → IsAsking words scenario set begins.first (before ++ prefix) × R (before ++ prefix) → IsAsking words scenario set begins.first (before ++ after) × R (before ++ after)
    line_keeps prefix [] e h = subst (λ (l : Journal). Holds (before ++ l)) (sym (e ∙ append-nil prefix)) h
    line_keeps prefix (row ∷ back) e h =
        let r = requests prefix back row e in
        let then_ : IsAsking words scenario set begins.first ((before ++ prefix) ++ row ∷ []) = clients_of.asking_row words scenario begins set fact linked (before ++ prefix) r.0 h.0 r.1 row r.2 in
        let kept = step (before ++ prefix) r.0 h.0 r.1 row r.2 h.1 in
        let place : (before ++ prefix) ++ row ∷ [] ≡ before ++ (prefix ++ row ∷ []) = append_assoc before prefix (row ∷ []) in
        line_keeps (prefix ++ row ∷ []) back (e ∙ sym (append_assoc prefix (row ∷ []) back)) (subst Holds place (then_, kept))

-- ---- mail to who is no actor

-- it is nothing to any group
abbrev pub IsNothing : Mail → Type 0
IsNothing mail = (name : Draw) → mark name mail ≡ Other

filter_to : {X : Type 0} (P Q : X → Type 0) (p : X → Bool) (xs : List X) → ((x : X) → P x → p x ≡ true → Q x) → Each P xs → Each Q (filter p xs)
filter_to P Q p [] f e = tt
filter_to P Q p (x ∷ xs) f e = cond_both (p x) (x ∷ filter p xs) (filter p xs) (Each Q) (λ t. (f x e.0 t, filter_to P Q p xs f e.1)) (λ _. filter_to P Q p xs f e.1)

module _ (words : ℕ → ℕ → ℕ × ℕ) (scenario : Scenario) (begins : IsStage scenario) (set : Setting) (fact : IsSetting set) (linked : IsLinkedSetting set) (seated : AreSeated scenario set) where
  abbrev sys : System Player Mail OrderLine
  sys = system_of as_nodes words scenario

  abbrev nseat : ℕ → Seat Player
  nseat me = node_seat as_nodes scenario.groups scenario.policy me

  abbrev cseat : Asks → Seat Player
  cseat asks = client_seat (route_of begins.first) asks

  calm_nothing : (begun : Requests) (who : ℕ) → is_born (system_of as_nodes words scenario) who ≡ false → (mail : Mail) → IsCalmMail begun set mail → mail.to ≡ who → IsNothing mail
  calm_nothing begun who away mail (inl p) to name =
      nothing_to begun p.frame (fact.are p.frame p.is_frame) mail.from mail.to name
      (λ slot m. (let at = seated.voters p.frame slot mail.to p.is_frame m in both_ways (is_born sys who) away (ap (is_born sys) (sym to) ∙ node_is_born words scenario begins mail.to at.0 at.1))) mail.body p.says
  calm_nothing begun who away mail (inr s) to name = aside_mark begun set name mail mail.body refl s

  -- what holds after each row: of the desk, and of clients that have not started
  abbrev pub AtDesk : Journal → Type 0
  AtDesk rows = (who : ℕ) → is_born (system_of as_nodes words scenario) who ≡ false → Each IsNothing (rest (system_of as_nodes words scenario) rows who)

  abbrev pub AreFresh : (Asks → ClientState → Type 0) → Journal → Type 0
  AreFresh Born rows = (asks : Asks) (client : ClientState) → Among asks scenario.clients → has_started rows (client_actor asks.client) ≡ false → value player_table (client_seat (route_of begins.first) asks) rows ≡ Client client → Born asks client

  module _ (rows : Journal) (t : IsTidy rows) (j : IsAsking words scenario set begins.first rows) (room : AreFarFromLast scenario set rows) where
    desk_by : (row : Row Mail OrderLine) → IsOrderly (system_of as_nodes words scenario) rows row → ((who : ℕ) → is_born (system_of as_nodes words scenario) who ≡ false → Each IsNothing (mail_for (system_of as_nodes words scenario) who row.sent)) → AtDesk rows → AtDesk (rows ++ row ∷ [])
    desk_by row o sent desk who away =
        subst (Each IsNothing) (sym (rest-row sys rows row who t o))
        (Each-append IsNothing (drop (taken who row) (rest sys rows who)) (mail_for sys who row.sent) (Each-drop IsNothing (taken who row) (rest sys rows who) (desk who away)) (sent who away))

    calm_sent : (begun : Requests) (sent : List Mail) → Each (IsCalmMail begun set) sent → (who : ℕ) → is_born (system_of as_nodes words scenario) who ≡ false → Each IsNothing (mail_for (system_of as_nodes words scenario) who sent)
    calm_sent begun sent e who away = filter_to (IsCalmMail begun set) IsNothing (λ (mail : Mail). eqb (sys.receiver mail) who) sent (λ mail c to. calm_nothing begun who away mail c (eqb-true mail.to who to)) e

    -- ---- a node

    module _ (me : ℕ) (one : 1 ≤ me) (most : me ≤ scenario.nodes) (born : find (λ (other : Seat Player). eqb other.who me) (births as_nodes scenario) ≡ Some (node_seat as_nodes scenario.groups scenario.policy me)) where
      node_sent : (event : Event OrderLine) → IsInOrder (system_of as_nodes words scenario) rows me event → (who : ℕ) → is_born (system_of as_nodes words scenario) who ≡ false
          → Each IsNothing (mail_for (system_of as_nodes words scenario) who (row_of player_table (node_seat as_nodes scenario.groups scenario.policy me) rows event).sent)
      node_sent (Deliver number) fine who away =
          let n = turns_of.n words scenario begins set fact rows t j room me one most born in
          let first = turns_of.first words scenario begins set fact rows t j room me one most born number fine in
          let turn = turns_of.turn words scenario begins set fact rows t j room me one most born number fine in
          let calm = stays_by (IsBegun scenario rows) set fact n.node n.calm first.mail (turns_of.to_me words scenario begins set fact rows t j room me one most born number fine) (turns_of.not_client words scenario begins set fact rows t j room me one most born)
          (turns_of.in_time words scenario begins set fact rows t j room me one most born number fine) turn in
          subst (λ (l : List Mail). Each IsNothing (mail_for sys who l)) (sym (turns_of.sends words scenario begins set fact rows t j room me one most born number fine)) (calm_sent (IsBegun scenario rows) (node_table n.node (Got first.mail)).1 calm.1 who away)
      node_sent Go fine who away =
          let n = turns_of.n words scenario begins set fact rows t j room me one most born in
          let acted_go : acted player_table (value player_table (nseat me) rows) (input_of {O = OrderLine} (mails rows) Go) ≡ (Node n.node, []) = ap (λ p. acted player_table p (Some GoInput)) n.fact in
          subst (λ (l : List Mail). Each IsNothing (mail_for sys who l)) (sym (ap (λ (p : Player × List Mail). p.1) acted_go)) tt
      node_sent Tick fine who away = absurd fine
      node_sent _ fine who away = absurd fine

    -- ---- a client

    module _ (asks : Asks) (a : Among asks scenario.clients) (born : find (λ (other : Seat Player). eqb other.who (client_actor asks.client)) (births as_nodes scenario) ≡ Some (client_seat (route_of begins.first) asks)) where
      sent_only : (after : ClientState × List Mail) (event : Event OrderLine) → acted player_table (value player_table (client_seat (route_of begins.first) asks) rows) (input_of (mails rows) event) ≡ (Client after.0, after.1) → Each IsNothing after.1
          → (who : ℕ) → Each IsNothing (mail_for (system_of as_nodes words scenario) who (row_of player_table (client_seat (route_of begins.first) asks) rows event).sent)
      sent_only after event e only who =
          subst (λ (l : List Mail). Each IsNothing (mail_for sys who l)) (sym (ap (λ (p : Player × List Mail). p.1) e)) (Each-filter IsNothing (λ (mail : Mail). eqb (sys.receiver mail) who) after.1 only)

      client_sent : (event : Event OrderLine) → IsInOrder (system_of as_nodes words scenario) rows (client_actor asks.client) event → (who : ℕ)
          → Each IsNothing (mail_for (system_of as_nodes words scenario) who (row_of player_table (client_seat (route_of begins.first) asks) rows event).sent)
      client_sent (Deliver number) fine who =
          let c = clients_of.c words scenario begins set fact linked rows t j asks a born in
          let first = clients_of.first words scenario begins set fact linked rows t j asks a born number fine in
          sent_only (table c.client (Got first.mail)) (Deliver number) (clients_of.got_is words scenario begins set fact linked rows t j asks a born number fine) (takes_only first.mail c.client) who
      client_sent Go fine who =
          let c = clients_of.c words scenario begins set fact linked rows t j asks a born in
          sent_only (table c.client GoInput) Go (clients_of.go_is words scenario begins set fact linked rows t j asks a born fine) (go_only c.client) who
      client_sent Tick fine who = absurd fine
      client_sent _ fine who = absurd fine

      -- ---- no mail is for one that has not started

      begun_none : has_started rows (client_actor asks.client) ≡ false → (client seq : ℕ) (op : Op) → IsBegun scenario rows client seq op → client_actor asks.client ≡ client_actor client → ⊥
      begun_none not_gone client seq op b e =
          let c = j.clients asks a in
          let same : b.asks ≡ asks = begins.once b.asks asks b.is_asks a (b.client_is ∙ (let k = e in omega (arith, k))) in
          let first : b.first ≡ begins.first = (let k : b.first ∷ b.others ≡ begins.first ∷ begins.others = sym b.groups_are ∙ begins.groups_are in cc) in
          let none = unasked c.client (subst (λ g. IsCalmClient set asks g c.client) not_gone c.calm).state in
          let player : value player_table (client_seat (route_of b.first) b.asks) rows ≡ Client c.client = ap (λ (x : Asks). value player_table (client_seat (route_of b.first) x) rows) same ∙ (ap (λ (x : Base). value player_table (client_seat (route_of x) asks) rows) first ∙ c.fact) in
          let count = ap begun_of player in
          let waits = ap waiting_one none.0 in
          let replies = ap length none.1 in
          let low = b.low in
          let one = b.from_one in
          omega (arith, count, waits, replies, low, one)

      aside_none : (body : MailBody) (from to : ℕ) → to ≡ client_actor asks.client → has_started rows (client_actor asks.client) ≡ false → IsAsideBody (IsBegun scenario rows) set from to body → ⊥
      aside_none (Request group client seq op) from to e not_gone b = (let at = seated.homes group to b.1 in both_ways (is_node (client_actor asks.client)) (client_number words scenario begins asks a) (ap is_node (sym e) ∙ node_number words scenario begins to at.0 at.1))
      aside_none (Answer group seq answer) from to e not_gone b = begun_none not_gone b.client seq b.op b.is_begun (sym e ∙ b.to_is)
      aside_none _ from to e not_gone b = b

      no_mail : has_started rows (client_actor asks.client) ≡ false → (mail : Mail) → mail.to ≡ client_actor asks.client → IsCalmMail (IsBegun scenario rows) set mail → ⊥
      no_mail not_gone mail to (inr s) = aside_none mail.body mail.from mail.to to not_gone s
      no_mail not_gone mail to (inl p) =
          let for : IsFor (IsBegun scenario rows) set.frames fact.are fact.apart p.frame mail.from mail.to mail.body = for_node (IsBegun scenario rows) set.frames fact.are fact.apart p.frame (fact.are p.frame p.is_frame) mail.from mail.to mail.body p.says (λ c n op b e. begun_none not_gone c n op b (sym to ∙ e)) in
          both_ways (is_node (client_actor asks.client)) (client_number words scenario begins asks a) (ap is_node (sym to) ∙ (fact.are p.frame p.is_frame).nodes for.slot mail.to for.member)

      own_fresh : {X : Type 0} (event : Event OrderLine) → IsInOrder (system_of as_nodes words scenario) rows (client_actor asks.client) event
          → has_started (rows ++ row_of player_table (client_seat (route_of begins.first) asks) rows event ∷ []) (client_actor asks.client) ≡ false → X
      own_fresh (Deliver number) fine not_gone =
          let first = clients_of.first words scenario begins set fact linked rows t j asks a born number fine in
          absurd (no_mail (sym (started_still words scenario begins rows (row_of player_table (cseat asks) rows (Deliver number)) (client_actor asks.client) refl) ∙ not_gone) first.mail first.receiver (clients_of.is_calm words scenario begins set fact linked rows t j asks a born number fine))
      own_fresh Go fine not_gone =
          let c = j.clients asks a in
          let gone_now = starts_now words scenario begins rows asks a c.client c.fact in
          absurd (both_ways (has_started (rows ++ row_of player_table (cseat asks) rows Go ∷ []) (client_actor asks.client)) not_gone gone_now)
      own_fresh Tick fine not_gone = absurd fine
      own_fresh _ fine not_gone = absurd fine

    -- ---- each row

    other_fresh : (Born : Asks → ClientState → Type 0) (row : Row Mail OrderLine) → AreFresh Born rows → (asks : Asks) (client : ClientState) → Among asks scenario.clients → (client_actor asks.client ≡ row.who → ⊥)
        → has_started (rows ++ row ∷ []) (client_actor asks.client) ≡ false → value player_table (client_seat (route_of begins.first) asks) (rows ++ row ∷ []) ≡ Client client → Born asks client
    other_fresh Born row fresh asks client a ne not_gone v = fresh asks client a (sym (gone_others words scenario begins rows row (client_actor asks.client) ne) ∙ not_gone) (sym (value_others words scenario begins rows row (cseat asks) ne) ∙ v)

    pub keeps_row : (Born : Asks → ClientState → Type 0) (row : Row Mail OrderLine) → IsOrderly (system_of as_nodes words scenario) rows row → AtDesk rows × AreFresh Born rows → AtDesk (rows ++ row ∷ []) × AreFresh Born (rows ++ row ∷ [])
    keeps_row Born row o h = elim (of_player words scenario begins rows row o) [
      | inl n ↦ (
          let row_is : row ≡ row_of player_table (node_seat as_nodes scenario.groups scenario.policy n.me) rows o.event = o.row_is ∙ ap (λ (seat : Seat Player). row_of player_table seat rows o.event) n.seat_is in
          let born = subst (λ (seat : Seat Player). find (λ (other : Seat Player). eqb other.who seat.who) (births as_nodes scenario) ≡ Some seat) n.seat_is o.born in
          let sent = node_sent n.me n.one n.most born o.event (subst (λ (seat : Seat Player). IsInOrder sys rows seat.who o.event) n.seat_is o.in_order) in (
            desk_by row o (λ who away. subst (λ (r : Row Mail OrderLine). Each IsNothing (mail_for sys who r.sent)) (sym row_is) (sent who away)) h.0,
            λ asks client a not_gone v. other_fresh Born row h.1 asks client a (λ e. both_ways (is_node (client_actor asks.client)) (client_number words scenario begins asks a)
                (ap is_node (e ∙ ap (λ (r : Row Mail OrderLine). r.who) row_is) ∙ node_number words scenario begins n.me n.one n.most)) not_gone v,
          ))
      | inr d ↦ (
          let row_is : row ≡ row_of player_table (cseat d.asks) rows o.event = o.row_is ∙ ap (λ (seat : Seat Player). row_of player_table seat rows o.event) d.seat_is in
          let born = subst (λ (seat : Seat Player). find (λ (other : Seat Player). eqb other.who seat.who) (births as_nodes scenario) ≡ Some seat) d.seat_is o.born in
          let fine = subst (λ (seat : Seat Player). IsInOrder sys rows seat.who o.event) d.seat_is o.in_order in (
            desk_by row o (λ who away. subst (λ (r : Row Mail OrderLine). Each IsNothing (mail_for sys who r.sent)) (sym row_is) (client_sent d.asks d.is_asks born o.event fine who)) h.0,
            λ asks client a not_gone v. elim (cases_eq (client_actor asks.client) (client_actor d.asks.client)) [
              | inl here ↦ own_fresh d.asks d.is_asks born o.event fine
                  (ap (λ (r : Row Mail OrderLine). has_started (rows ++ r ∷ []) (client_actor d.asks.client)) (sym row_is) ∙ (ap (has_started (rows ++ row ∷ [])) (sym here) ∙ not_gone))
              | inr ne ↦ other_fresh Born row h.1 asks client a (λ e. ne (e ∙ ap (λ (r : Row Mail OrderLine). r.who) row_is)) not_gone v
            ],
          ))
    ]

    -- what is kept of clients alone
    pub fresh_row : (Born : Asks → ClientState → Type 0) (row : Row Mail OrderLine) → IsOrderly (system_of as_nodes words scenario) rows row → AreFresh Born rows → AreFresh Born (rows ++ row ∷ [])
    fresh_row Born row o h = elim (of_player words scenario begins rows row o) [
      | inl n ↦ (
          let row_is : row ≡ row_of player_table (node_seat as_nodes scenario.groups scenario.policy n.me) rows o.event = o.row_is ∙ ap (λ (seat : Seat Player). row_of player_table seat rows o.event) n.seat_is in
          λ asks client a not_gone v. other_fresh Born row h asks client a (λ e. both_ways (is_node (client_actor asks.client)) (client_number words scenario begins asks a)
          (ap is_node (e ∙ ap (λ (r : Row Mail OrderLine). r.who) row_is) ∙ node_number words scenario begins n.me n.one n.most)) not_gone v)
      | inr d ↦ (
          let row_is : row ≡ row_of player_table (cseat d.asks) rows o.event = o.row_is ∙ ap (λ (seat : Seat Player). row_of player_table seat rows o.event) d.seat_is in
          let born = subst (λ (seat : Seat Player). find (λ (other : Seat Player). eqb other.who seat.who) (births as_nodes scenario) ≡ Some seat) d.seat_is o.born in
          let fine = subst (λ (seat : Seat Player). IsInOrder sys rows seat.who o.event) d.seat_is o.in_order in
          λ asks client a not_gone v. elim (cases_eq (client_actor asks.client) (client_actor d.asks.client)) [
            | inl here ↦ own_fresh d.asks d.is_asks born o.event fine
                (ap (λ (r : Row Mail OrderLine). has_started (rows ++ r ∷ []) (client_actor d.asks.client)) (sym row_is) ∙ (ap (has_started (rows ++ row ∷ [])) (sym here) ∙ not_gone))
            | inr ne ↦ other_fresh Born row h asks client a (λ e. ne (e ∙ ap (λ (r : Row Mail OrderLine). r.who) row_is)) not_gone v
          ])
    ]
