-- In each lawful journal every client rests or asks on, and has sent no request with a greater number than those that it has begun.
use Rattle.std.proofs.Common.{◌≡◌, ℕ, ◌+◌, ◌-◌, ◌≤◌, ◌&&◌, ◌||◌, eqb, Bool, true, false, true≢false, cond, List, [], ◌∷◌, ◌++◌, find, length, Option, Some, None, ◌⊎◌, inl, inr, refl, sym, ◌∙◌, ap, subst, arith}
use Rattle.std.specs.List.{list_any}
use Rattle.std.specs.Prelude.{slice_get}
use Rattle.std.specs.Option.{option_map}
use Rattle.std.proofs.lemmas.Bool.{cond_both, eqb-true, eq-eqb, and_parts, or_cases}
use Rattle.std.proofs.lemmas.List.{length_push}
use Rattle.std.proofs.lemmas.List.Folds.{list_any-append}
use Rattle.sc_base.specs.Definitions.{client_actor}
use Rattle.sc_node_table.specs.Values.{Seat, Row, Event, Deliver, Drop, Again, Crash, Input, Got, OrderLine, Merge, Mail, Request, Op, Node, Client}
use Rattle.sc_actor.specs.declared.rows.Event.TheVariants.{Tick as TickEvent, Go as GoEvent, Told as ToldEvent}
use Rattle.sc_actor.specs.declared.rows.Input.TheVariants.{Tick, Go, Told}
use Rattle.sc_actor.specs.Definitions.{mails, numbered, acted, input_of, value, has_started, is_go, IsStep, IsOpen, IsLoose}
use Rattle.sc_actor.proofs.Lemmas.{lawful-induction, value-snoc}
use Rattle.sc_scenario.specs.declared.scenario.scenarios.Scenario.{Scenario}
use Rattle.sc_client_table.specs.table.TableDefinitions.{Client as ClientState, table, request_at, InTurn, SendsWaiting, Waits, Begins, TakesReply}
use Rattle.sc_client_table.proofs.TableProofs.TurnLemmas.{sends_in_turn}
use Rattle.sc_meaning.specs.sound.SoundDefinitions.{Lawful, Player, as_nodes, births, player_table, schedule, system_of, issues, asks_for, issued_from}
use Rattle.sc_live_plain.specs.PlainDefinitions.{begun_ones, waiting_one}
use Rattle.sc_live_healed.proofs.SeatBirths.{seat_born}
use Rattle.sc_live_healed.proofs.FixedJournals.{Rows, IsOf}
use Rattle.sc_live_healed.specs.AskingClients.{IsAskingClient}
use Rattle.sc_live_healed.proofs.AskingClientRows.{is_start, stays}

-- a client, which has started or not, rests or asks on; and it has sent no request with a greater number than those that it has begun
pub record IsAskingAt (rows : Rows) (who : ℕ) (client : ClientState) : Type 0 where
  pub number : who ≡ client_actor client.me
  pub asks : IsAskingClient (has_started rows who) client
  pub few : (seq : ℕ) → list_any (issues client.me seq) rows ≡ true → seq ≤ begun_ones client

abbrev pub IsAskingPlayer : Rows → ℕ → Player → Type 0
IsAskingPlayer rows who (Node node) = Unit {0}
IsAskingPlayer rows who (Client client) = IsAskingAt rows who client

-- ---- a row of a client

-- what is begun does not fall, and a request that is sent is begun
begun_grows : (before after : ClientState) (input : Input Mail OrderLine) (sent : List Mail) (started_ : Bool) → InTurn before after input sent → (is_start input ≡ true → started_ ≡ false) → IsAskingClient started_ before → begun_ones before ≤ begun_ones after
begun_grows before after input sent started_ t once k = by t.moves
  where
    waits_so : (o : Option ℕ) → waiting_one o ≤ 1
    waits_so None = omega arith
    waits_so (Some seq) = omega arith

    by : Waits before after ⊎ Begins before after input ⊎ TakesReply before after input → begun_ones before ≤ begun_ones after
    by (inl w) = (let n = ap waiting_one w.number in let r = ap (λ l. length l) w.replies in omega (arith, n, r))
    by (inr (inl b)) = elim (k.state) [
      | inl r ↦ (let none = ap waiting_one r.waits in let same = ap (λ l. length l) b.replies in omega (arith, none, same))
      | inr a ↦ absurd (true≢false (sym a.0 ∙ once (ap is_start b.go)))
    ]
    by (inr (inr r)) = (let most = waits_so before.waiting in let more = ap (λ l. length l) r.replies in let longer = length_push before.replies r.reply in omega (arith, most, more, longer))

-- a request that is sent is begun
sent_begun : (after : ClientState) (sent : List Mail) (started_ : Bool) → SendsWaiting after sent → IsAskingClient started_ after → (seq : ℕ) → list_any (λ (mail : Mail). asks_for after.me seq mail.body) sent ≡ true → seq ≤ begun_ones after
sent_begun after sent started_ (inl none) k seq e = absurd (true≢false (sym e ∙ ap (λ ms. list_any (λ (mail : Mail). asks_for after.me seq mail.body) ms) none))
sent_begun after sent started_ (inr (group, target, request, waits, fact)) k seq e =
    elim (k.state) [
      | inl r ↦ absurd (none_waits (sym (ap (request_at after.requests) r.waits) ∙ waits))
      | inr a ↦ (
          let number : a.1.seq ≡ request.0 = number_of (slice_get after.requests (a.1.seq - 1)) a.1.seq (sym (ap (request_at after.requests) a.1.waits) ∙ waits) in
          let asked : asks_for after.me seq (Request group after.me request.0 request.1) || false ≡ true = sym (ap (λ ms. list_any (λ (mail : Mail). asks_for after.me seq mail.body) ms) fact) ∙ e in
          let same : request.0 ≡ seq = eqb-true request.0 seq (and_parts (eqb after.me after.me) (eqb request.0 seq) (alone (asks_for after.me seq (Request group after.me request.0 request.1)) asked)).1 in
          let replies = a.1.number in
          let one = ap waiting_one a.1.waits in
          omega (arith, number, same, replies, one))
    ]
  where
    none_waits : {X : Type 0} {x : X} → None ≡ Some x → ⊥
    none_waits e = cc

    alone : (b : Bool) → b || false ≡ true → b ≡ true
    alone true e = refl
    alone false e = absurd (true≢false (sym e))

    number_of : (o : Option Op) (n : ℕ) → option_map (λ op. (n, op)) o ≡ Some request → n ≡ request.0
    number_of None n e = absurd (none_waits e)
    number_of (Some op) n e = (let pair : (n, op) ≡ request = cc in ap (λ (p : ℕ × Op). p.0) pair)

-- some order, which a client takes no notice of
no_order : OrderLine
no_order = record { number = 0; order = Merge (record { node = 0; count = 0 }) }

-- ---- one row more

module _ (words : ℕ → ℕ → ℕ × ℕ) (scenario : Scenario) where
  -- after these rows each client is so
  pub record IsAskingJournal (rows : Rows) : Type 0 where
    pub players : (seat : Seat Player) → IsOf scenario seat → IsAskingPlayer rows seat.who (value player_table seat rows)

  -- an input of the table, by an event
  abbrev Starts : Rows → ℕ → Event OrderLine → Type 0
  Starts rows who event = is_go event ≡ true → has_started rows who ≡ false

  started_push : (rows : Rows) (row : Row Mail OrderLine) (who : ℕ) → has_started (rows ++ row ∷ []) who ≡ (has_started rows who || ((eqb row.who who && is_go row.event) || false))
  started_push rows row who = list_any-append (λ (r : Row Mail OrderLine). eqb r.who who && is_go r.event) rows (row ∷ [])

  pub issued_push : (rows : Rows) (row : Row Mail OrderLine) (client seq : ℕ) → list_any (issues client seq) (rows ++ row ∷ []) ≡ (list_any (issues client seq) rows || (issues client seq row || false))
  issued_push rows row client seq = list_any-append (issues client seq) rows (row ∷ [])

  -- another actor's row
  other_row : (rows : Rows) (row : Row Mail OrderLine) (who : ℕ) (p : Player) → eqb row.who who ≡ false → IsAskingPlayer rows who p → IsAskingPlayer (rows ++ row ∷ []) who p
  other_row rows row who (Node node) other k = tt
  other_row rows row who (Client client) other k =
      let same_started : has_started (rows ++ row ∷ []) who ≡ has_started rows who = started_push rows row who ∙ ap (λ b. has_started rows who || ((b && is_go row.event) || false)) other ∙ or_nothing (has_started rows who) in
      record {
        number = k.number;
        asks = subst (λ b. IsAskingClient b client) (sym same_started) k.asks;
        few = λ seq e. k.few seq (sym (issued_push rows row client.me seq ∙ ap (λ b. list_any (issues client.me seq) rows || (b || false)) (not_issued seq) ∙ or_nothing (list_any (issues client.me seq) rows)) ∙ e);
      }
    where
      or_nothing : (b : Bool) → b || false ≡ b
      or_nothing true = refl
      or_nothing false = refl

      not_issued : (seq : ℕ) → issues client.me seq row ≡ false
      not_issued seq = ap (λ n. eqb row.who n && list_any (λ mail. asks_for client.me seq mail.body) row.sent) (sym k.number) ∙ ap (λ b. b && list_any (λ mail. asks_for client.me seq mail.body) row.sent) other

  -- a row of its own, with an input
  own_row : (rows : Rows) (row : Row Mail OrderLine) (who : ℕ) (client : ClientState) (input : Input Mail OrderLine) → row.who ≡ who → row.sent ≡ (table client input).1 → is_go row.event ≡ is_start input → Starts rows who row.event → IsAskingAt rows who client → IsAskingAt (rows ++ row ∷ []) who (table client input).0
  own_row rows row who client input mine sent_is go once k =
      let after = (table client input).0 in
      let t = sends_in_turn client input in
      let may : is_start input ≡ true → has_started rows who ≡ false = λ s. once (go ∙ s) in
      let kept = stays (has_started rows who) client input may k.asks in
      let grows = begun_grows client after input (table client input).1 (has_started rows who) t may k.asks in
      let now : has_started (rows ++ row ∷ []) who ≡ (has_started rows who || is_start input) = started_push rows row who ∙ ap (λ b. has_started rows who || ((b && is_go row.event) || false)) (eq-eqb row.who who mine) ∙ ap (λ b. has_started rows who || b) (alone (is_go row.event)) ∙ ap (λ b. has_started rows who || b) go in
      record {
        number = k.number ∙ ap client_actor (sym t.me);
        asks = subst (λ b. IsAskingClient b after) (sym now) kept;
        few = λ seq e. (
            let e1 : list_any (issues client.me seq) rows || (issues client.me seq row || false) ≡ true = sym (issued_push rows row client.me seq) ∙ ap (λ n. list_any (issues n seq) (rows ++ row ∷ [])) (sym t.me) ∙ e in
            elim (or_cases (list_any (issues client.me seq) rows) (issues client.me seq row || false) e1) [
              | inl before ↦ (let low = k.few seq before in omega (arith, low, grows))
              | inr new ↦
                  let sends : list_any (λ mail. asks_for client.me seq mail.body) row.sent ≡ true = (and_parts (eqb row.who (client_actor client.me)) (list_any (λ mail. asks_for client.me seq mail.body) row.sent) (sym (alone (issues client.me seq row)) ∙ new)).1 in
                  sent_begun after (table client input).1 (has_started rows who || is_start input) t.sends kept seq
                  (ap (λ n. list_any (λ mail. asks_for n seq mail.body) (table client input).1) t.me ∙ ap (λ ms. list_any (λ (mail : Mail). asks_for client.me seq mail.body) ms) (sym sent_is) ∙ sends)
            ]);
      }
    where
      alone : (b : Bool) → b || false ≡ b
      alone true = refl
      alone false = refl

  -- one row of a client's own, by its event
  own_event : (rows : Rows) (row : Row Mail OrderLine) (who : ℕ) (p : Player) (event : Event OrderLine) → row.who ≡ who → row.event ≡ event → row.sent ≡ (acted player_table p (input_of (mails rows) event)).1 → Starts rows who event
      → IsAskingPlayer rows who p → IsAskingPlayer (rows ++ row ∷ []) who (acted player_table p (input_of (mails rows) event)).0
  own_event rows row who (Node node) event mine fact sent_is once k = node_so (input_of (mails rows) event)
    where
      node_so : (input : Option (Input Mail OrderLine)) → IsAskingPlayer (rows ++ row ∷ []) who (acted player_table (Node node) input).0
      node_so None = tt
      node_so (Some input) = tt
  own_event rows row who (Client client) event mine fact sent_is once k = by event fact sent_is once
    where
      silent : (event : Event OrderLine) → is_go event ≡ false → row.event ≡ event → row.sent ≡ [] → IsAskingAt (rows ++ row ∷ []) who client
      silent event stays_off fact none = own_row rows row who client (Told no_order) mine none (ap is_go fact ∙ stays_off) (λ t. absurd (true≢false (sym t ∙ ap is_go fact ∙ stays_off))) k

      with_input : (input : Input Mail OrderLine) (event : Event OrderLine) → is_go event ≡ is_start input → row.event ≡ event → row.sent ≡ (table client input).1 → Starts rows who event → IsAskingAt (rows ++ row ∷ []) who (table client input).0
      with_input input event go fact sent_is once = own_row rows row who client input mine sent_is (ap is_go fact ∙ go) (λ t. once (sym (ap is_go fact) ∙ t)) k

      delivered : (o : Option Mail) (number : ℕ) → row.event ≡ Deliver number → row.sent ≡ (acted player_table (Client client) (option_map Got o)).1 → IsAskingPlayer (rows ++ row ∷ []) who (acted player_table (Client client) (option_map Got o)).0
      delivered None number fact sent_is = silent (Deliver number) refl fact sent_is
      delivered (Some mail) number fact sent_is = with_input (Got mail) (Deliver number) refl fact sent_is (λ t. absurd (true≢false (sym t)))

      by : (event : Event OrderLine) → row.event ≡ event → row.sent ≡ (acted player_table (Client client) (input_of (mails rows) event)).1 → Starts rows who event → IsAskingPlayer (rows ++ row ∷ []) who (acted player_table (Client client) (input_of (mails rows) event)).0
      by (Deliver number) fact sent_is once = delivered (numbered (mails rows) number) number fact sent_is
      by TickEvent fact sent_is once = with_input Tick TickEvent refl fact sent_is once
      by GoEvent fact sent_is once = with_input Go GoEvent refl fact sent_is once
      by (ToldEvent line) fact sent_is once = with_input (Told line) (ToldEvent line) refl fact sent_is once
      by Crash fact sent_is once = silent Crash refl fact sent_is
      by (Drop number) fact sent_is once = silent (Drop number) refl fact sent_is
      by (Again number) fact sent_is once = silent (Again number) refl fact sent_is

  pub next_asking : (rows : Rows) (row : Row Mail OrderLine) → IsStep (system_of as_nodes words scenario) rows row → IsAskingJournal rows → IsAskingJournal (rows ++ row ∷ [])
  next_asking rows row step k = record { players = λ seat is_of. subst (IsAskingPlayer (rows ++ row ∷ []) seat.who) (sym (value-snoc player_table seat rows row)) (by seat is_of step) }
    where
      by : (seat : Seat Player) → IsOf scenario seat → IsStep (system_of as_nodes words scenario) rows row → IsAskingPlayer (rows ++ row ∷ []) seat.who (cond (eqb row.who seat.who) (acted player_table (value player_table seat rows) (input_of (mails rows) row.event)).0 (value player_table seat rows))
      by seat is_of (inl step) =
          cond_both (eqb row.who seat.who) (acted player_table (value player_table seat rows) (input_of (mails rows) row.event)).0 (value player_table seat rows) (IsAskingPlayer (rows ++ row ∷ []) seat.who)
          (λ t. (
          let who_is : step.seat.who ≡ seat.who = sym (ap (λ (r : Row Mail OrderLine). r.who) step.row_is) ∙ eqb-true row.who seat.who t in
          let one : step.seat ≡ seat = same_seat (sym step.born ∙ ap (λ n. find (λ (other : Seat Player). eqb other.who n) (births as_nodes scenario)) who_is ∙ is_of) in
          let event_is : row.event ≡ step.event = ap (λ (r : Row Mail OrderLine). r.event) step.row_is in
          subst (λ event. IsAskingPlayer (rows ++ row ∷ []) seat.who (acted player_table (value player_table seat rows) (input_of (mails rows) event)).0) (sym event_is)
          (own_event rows row seat.who (value player_table seat rows) step.event (eqb-true row.who seat.who t) event_is
          (ap (λ (r : Row Mail OrderLine). r.sent) step.row_is ∙ ap (λ (x : Seat Player). (acted player_table (value player_table x rows) (input_of (mails rows) step.event)).1) one)
          (λ go. starts_once step.event go (subst (λ n. IsOpen (system_of as_nodes words scenario) rows n step.event) who_is step.open_)) (k.players seat is_of))))
          (λ other. other_row rows row seat.who (value player_table seat rows) other (k.players seat is_of))
        where
          same_seat : {a b : Seat Player} → Some a ≡ Some b → a ≡ b
          same_seat e = cc

          starts_once : (event : Event OrderLine) → is_go event ≡ true → IsOpen (system_of as_nodes words scenario) rows seat.who event → has_started rows seat.who ≡ false
          starts_once GoEvent go o = o
          starts_once (Deliver number) go o = absurd (true≢false (sym go))
          starts_once TickEvent go o = absurd (true≢false (sym go))
          starts_once (ToldEvent line) go o = absurd (true≢false (sym go))
          starts_once Crash go o = absurd (true≢false (sym go))
          starts_once (Drop number) go o = absurd (true≢false (sym go))
          starts_once (Again number) go o = absurd (true≢false (sym go))
      by seat is_of (inr step) =
          let who_is : row.who ≡ 0 = ap (λ (r : Row Mail OrderLine). r.who) step.row_is in
          cond_both (eqb row.who seat.who) (acted player_table (value player_table seat rows) (input_of (mails rows) row.event)).0 (value player_table seat rows) (IsAskingPlayer (rows ++ row ∷ []) seat.who)
          (λ t. network_row (ap (λ (r : Row Mail OrderLine). r.event) step.row_is) step.loose (ap (λ (r : Row Mail OrderLine). r.sent) step.row_is) (eqb-true row.who seat.who t))
          (λ other. other_row rows row seat.who (value player_table seat rows) other (k.players seat is_of))
        where
          network_row : {event : Event OrderLine} → row.event ≡ event → IsLoose (system_of as_nodes words scenario) rows event → row.sent ≡ [] → row.who ≡ seat.who → IsAskingPlayer (rows ++ row ∷ []) seat.who (acted player_table (value player_table seat rows) (input_of (mails rows) row.event)).0
          network_row {event} e loose none mine = subst (λ x. IsAskingPlayer (rows ++ row ∷ []) seat.who (acted player_table (value player_table seat rows) (input_of (mails rows) x)).0) (sym e) (by_event event e loose)
            where
              by_event : (event : Event OrderLine) → row.event ≡ event → IsLoose (system_of as_nodes words scenario) rows event → IsAskingPlayer (rows ++ row ∷ []) seat.who (acted player_table (value player_table seat rows) (input_of (mails rows) event)).0
              by_event (Drop number) fact l = own_event rows row seat.who (value player_table seat rows) (Drop number) mine fact none (λ t. absurd (true≢false (sym t))) (k.players seat is_of)
              by_event (Again number) fact l = own_event rows row seat.who (value player_table seat rows) (Again number) mine fact none (λ t. absurd (true≢false (sym t))) (k.players seat is_of)
              by_event (Deliver number) fact l = absurd l
              by_event GoEvent fact l = absurd l
              by_event TickEvent fact l = absurd l
              by_event (ToldEvent line) fact l = absurd l
              by_event Crash fact l = absurd l

  -- ---- before any row, and after all

  abbrev IsBornSeat : Seat Player → Type 0
  IsBornSeat seat = IsAskingPlayer [] seat.who seat.actor

  pub first_asking : IsAskingJournal []
  first_asking = record {
    players = seat_born IsBornSeat scenario (λ n. tt)
        (λ base a c. record { number = refl; asks = record { some = omega arith; state = inl (record { waits = refl; replies = inl (refl, refl) }) }; few = λ seq e. absurd (true≢false (sym e)) });
  }

  pub journal_asking : (rows : Rows) → Lawful as_nodes words scenario rows → IsAskingJournal rows
  journal_asking rows lawful = lawful-induction (system_of as_nodes words scenario) IsAskingJournal (λ xs row k step. next_asking xs row step k) (schedule scenario) rows first_asking lawful

  -- a request that was issued was sent
  pub issued_any : (client seq : ℕ) (before : ℕ) (rows : Rows) (i : ℕ) → issued_from client seq before rows ≡ Some i → list_any (issues client seq) rows ≡ true
  issued_any client seq before [] i e = cc
  issued_any client seq before (row ∷ rows) i e =
      cond_both (issues client seq row) (Some (before + 1)) (issued_from client seq (before + 1) rows) (λ o. o ≡ Some i → (issues client seq row || list_any (issues client seq) rows) ≡ true)
      (λ t _. ap (λ b. b || list_any (issues client seq) rows) t) (λ f h. ap (λ b. b || list_any (issues client seq) rows) f ∙ issued_any client seq (before + 1) rows i h) e
