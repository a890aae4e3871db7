-- Each request that a client issued is begun.
use Rattle.std.proofs.Common.{◌≡◌, ℕ, ◌+◌, ◌≤◌, ◌||◌, ◌&&◌, eqb, Bool, true, false, true≢false, cond, List, [], ◌∷◌, ◌++◌, length, map, Option, Some, None, ◌⊎◌, inl, inr, refl, sym, ◌∙◌, ap, subst, arith}
use Rattle.std.specs.List.{list_any}
use Rattle.std.specs.Prelude.{slice_get, find}
use Rattle.std.specs.Option.{option_map}
use Rattle.std.proofs.lemmas.Bool.{cases_Bool, cases_eq, cond-false, and_parts, eqb-true, eq-eqb, ne_eqb, or_parts}
use Rattle.std.proofs.lemmas.List.{length_push}
use Rattle.std.proofs.lemmas.Option.{none-some, same_Some}
use Rattle.sc_base.specs.Definitions.{Among, client_actor}
use Rattle.sc_node_table.specs.Values.{Op, Base, OrderLine, Mail, Request, Client, Seat, Event, Input, Row}
use Rattle.sc_actor.specs.declared.rows.Event.TheVariants as Comes
use Rattle.sc_actor.specs.declared.rows.Input.TheVariants.{Go}
use Rattle.sc_actor.specs.declared.rows.Input.TheVariants.{Told as ToldInput}
use Rattle.sc_actor.specs.Definitions.{mails, input_of, acted, value, row_of, has_started, is_go, are_apart}
use Rattle.sc_actor.proofs.Lemmas.{value-snoc}
use Rattle.sc_client_table.specs.table.TableDefinitions.{Client as ClientState, born_client, request_at, table, InTurn}
use Rattle.sc_client_table.proofs.TableProofs.TurnLemmas.{sends_in_turn}
use Rattle.sc_live_orderly.specs.OrderlyDefinitions.{IsCalmEvent, AreInTime}
use Rattle.sc_live_orderly.proofs.OrderlyLemmas.{by_time, last_in_time, seat_found}
use Rattle.sc_paxos_law.proofs.Lemmas.{Among-right}
use Rattle.sc_scenario.specs.scenario.Definitions.{ValidScenariosAreBounded}
use Rattle.sc_scenario.specs.declared.scenario.scenarios.Asks.{Asks}
use Rattle.sc_scenario.specs.declared.scenario.scenarios.Scenario.{Scenario}
use Rattle.sc_node_table.specs.NodeDefinitions.{numbers_from}
use Rattle.sc_meaning.specs.sound.SoundDefinitions.{Player, player_table, node_seat, client_seat, client_seats, route_of, births, as_nodes, asks_for, issues, issue_row}
use Rattle.sc_law_groups.proofs.GroupProofs.GroupLemmas.{or_now, issue-push}
use Rattle.sc_law_groups.proofs.WholeProofs.WholeLemmas.{all_apart}
use Rattle.sc_live_steps.specs.calm.CalmDefinitions.{players, Rows}
use Rattle.sc_live_plain.specs.PlainDefinitions.{begun_ones, waiting_one, begun_of}
use Rattle.sc_live_plain.proofs.PlainLemmas.{map_among}
use Rattle.sc_live_answers.specs.AnswerDefinitions.{IssuedAreBegun}
use Rattle.sc_live_steps.proofs.CalmStepsProofs.Totals.{or_assoc}
use Rattle.sc_law_walks.proofs.WalkLemmas.{got_no_go}

-- ---- a client's own row

-- it waits for the request after its replies, if for any
abbrev IsNext : Option ℕ → ℕ → Type 0
IsNext None n = Unit {0}
IsNext (Some seq) n = seq ≡ n + 1

next_of : (o : Option ℕ) (n m : ℕ) → (o ≡ Some m) ⊎ (o ≡ None) → m ≡ n + 1 → IsNext o n
next_of o n m (inl e) fact = subst (λ x. IsNext x n) (sym e) fact
next_of o n m (inr e) fact = subst (λ x. IsNext x n) (sym e) tt

-- what a turn keeps
record IsTurned (client after : ClientState) (sent : List Mail) : Type 0 where
  waits : IsNext after.waiting (length after.replies)
  grows : begun_ones client ≤ begun_ones after
  issued : (seq : ℕ) → list_any (λ mail. asks_for client.me seq mail.body) sent ≡ true → seq ≤ begun_ones after

waiting_low : (o : Option ℕ) (n seq : ℕ) → o ≡ Some seq → IsNext o n → seq ≡ n + 1
waiting_low o n seq e fact = subst (λ x. IsNext x n) e fact

ones_of : (o : Option ℕ) (seq : ℕ) → o ≡ Some seq → (n : ℕ) (client : ClientState) → client.waiting ≡ o → length client.replies ≡ n → begun_ones client ≡ n + 1
ones_of o seq e n client fact len = ap (λ (x : Option ℕ). length client.replies + waiting_one x) (fact ∙ e) ∙ ap (λ m. m + 1) len

pair : {X Y : Type 0} (x y : X) (z w : Y) → x ≡ y → z ≡ w → ◌≡◌ {A = X × Y} (x, z) (y, w)
pair x y z w e f = cc

module _ (client : ClientState) (input : Input Mail OrderLine) (waits : IsNext client.waiting (length client.replies)) (fresh : input ≡ Go → (client.waiting ≡ None) × (client.replies ≡ [])) where
  abbrev after : ClientState
  after = (table client input).0

  abbrev turn : InTurn client after input (table client input).1
  turn = sends_in_turn client input

  waits_after : IsNext after.waiting (length after.replies)
  waits_after = elim turn.moves [
    | inl s ↦ subst (λ n. IsNext after.waiting n) (ap length (sym s.replies)) (subst (λ o. IsNext o (length client.replies)) (sym s.number) waits)
    | inr (inl s) ↦ (let none = ap length (s.replies ∙ (fresh s.go).1) in next_of after.waiting (length after.replies) 1 s.number (omega (arith, none)))
    | inr (inr s) ↦ (let number = waiting_low client.waiting (length client.replies) s.seq s.waited waits in
        let more = ap length s.replies ∙ length_push client.replies s.reply in
        next_of after.waiting (length after.replies) (s.seq + 1) s.number (omega (arith, more, number)))
  ]

  grows : begun_ones client ≤ begun_ones after
  grows = elim turn.moves [
    | inl s ↦ (let same : begun_ones after ≡ begun_ones client = ap (λ (c : List _ × Option ℕ). length c.0 + waiting_one c.1) (pair after.replies client.replies after.waiting client.waiting s.replies s.number) in omega (arith, same))
    | inr (inl s) ↦ (let f = fresh s.go in
        let none : begun_ones client ≡ 0 = ap (λ (c : List _ × Option ℕ). length c.0 + waiting_one c.1) (pair client.replies [] client.waiting None f.1 f.0) in omega (arith, none))
    | inr (inr s) ↦ (
        let one = ones_of (Some s.seq) s.seq refl (length client.replies) client s.waited refl in
        let more = ap length s.replies ∙ length_push client.replies s.reply in
        omega (arith, one, more))
  ]

  issued : (seq : ℕ) → list_any (λ mail. asks_for client.me seq mail.body) (table client input).1 ≡ true → seq ≤ begun_ones after
  issued seq t = elim turn.sends [
    | inl none ↦ absurd (true≢false (sym t ∙ ap (list_any (λ (mail : Mail). asks_for client.me seq mail.body)) none))
    | inr s ↦ (
        let request = s.2 in
        let one : (asks_for client.me seq (Request s.0 after.me request.0 request.1) || false) ≡ true = ap (list_any (λ (mail : Mail). asks_for client.me seq mail.body)) (sym s.4) ∙ t in
        let fact : (request.0 ≡ seq) × (after.waiting ≡ Some request.0) = (number seq request.0 after.me client.me one, waits_for_it after.waiting after.requests request s.3) in
        let next = waiting_low after.waiting (length after.replies) request.0 fact.1 waits_after in
        let ones = ones_of (Some request.0) request.0 refl (length after.replies) after fact.1 refl in
        let same = fact.0 in
        omega (arith, next, ones, same))
  ]
    where
      number : (wanted seq who me : ℕ) → ((eqb who me && eqb seq wanted) || false) ≡ true → seq ≡ wanted
      number wanted seq who me e = elim (cases_Bool (eqb seq wanted)) [
        | inl same ↦ eqb-true seq wanted same
        | inr other ↦ absurd (true≢false (sym e ∙ (ap (λ b. (eqb who me && b) || false) other ∙ never (eqb who me))))
      ]
        where
          never : (b : Bool) → ((b && false) || false) ≡ false
          never true = refl
          never false = refl

      waits_for_it : (o : Option ℕ) (requests : List Op) (request : ℕ × Op) → request_at requests o ≡ Some request → o ≡ Some request.0
      waits_for_it None requests request e = cc
      waits_for_it (Some n) requests request e = by (slice_get requests _) e
        where
          by : (op : Option Op) → option_map (λ (x : Op). (n, x)) op ≡ Some request → Some n ≡ Some request.0
          by None w = cc
          by (Some x) w = cc

  -- one that did not begin does so by nothing else
  stays : (input ≡ Go → ⊥) → client.waiting ≡ None → client.replies ≡ [] → (after.waiting ≡ None) × (after.replies ≡ [])
  stays other none empty = elim turn.moves [
    | inl s ↦ (s.number ∙ none, s.replies ∙ empty)
    | inr (inl s) ↦ absurd (other s.go)
    | inr (inr s) ↦ absurd (none-some s.seq (sym none ∙ s.waited))
  ]

  turned : IsTurned client after (table client input).1
  turned = record { waits = waits_after; grows = grows; issued = issued }

-- ---- row by row

-- what holds of a client after some rows
record IsIssuing (asks : Asks) (seat : Seat Player) (rows : Rows) : Type 0 where
  client : ClientState
  fact : value player_table seat rows ≡ Client client
  me : client.me ≡ asks.client
  waits : IsNext client.waiting (length client.replies)
  fresh : has_started rows (client_actor asks.client) ≡ false → (client.waiting ≡ None) × (client.replies ≡ [])
  issued : (seq at : ℕ) → issue_row asks.client seq rows ≡ Some at → seq ≤ begun_ones client

pub any_push : {X : Type 0} (p : X → Bool) (xs : List X) (x : X) → list_any p (xs ++ x ∷ []) ≡ (list_any p xs || p x)
any_push p [] x = by (p x)
  where
    by : (b : Bool) → (b || false) ≡ (false || b)
    by true = refl
    by false = refl
any_push p (y ∷ xs) x = ap (λ b. p y || b) (any_push p xs x) ∙ or_assoc (p y) (list_any p xs) (p x)

or_now_some : (o : Option ℕ) (b : Bool) (n at : ℕ) → or_now o b n ≡ Some at → (o ≡ Some at) ⊎ (b ≡ true)
or_now_some (Some i) b n at e = inl e
or_now_some None true n at e = inr refl
or_now_some None false n at e = cc

is_told_one : (line : OrderLine) (input : Input Mail OrderLine) → Some (ToldInput line) ≡ Some input → input ≡ Go → ⊥
is_told_one line input e f = (let bad : Some (ToldInput line) ≡ Some Go = e ∙ ap Some f in cc)

-- what an input leaves of a client, if there is one
record IsActed (client : ClientState) (o : Option (Input Mail OrderLine)) (step : Player × List Mail) : Type 0 where
  after : ClientState
  fact : step.0 ≡ Client after
  me : after.me ≡ client.me
  turned : IsTurned client after step.1
  stays : ((input : Input Mail OrderLine) → o ≡ Some input → input ≡ Go → ⊥) → client.waiting ≡ None → client.replies ≡ [] → (after.waiting ≡ None) × (after.replies ≡ [])

acts : (client : ClientState) (o : Option (Input Mail OrderLine)) → IsNext client.waiting (length client.replies) → ((input : Input Mail OrderLine) → o ≡ Some input → input ≡ Go → (client.waiting ≡ None) × (client.replies ≡ [])) → IsActed client o (acted player_table (Client client) o)
acts client None waits fresh = record { after = client; fact = refl; me = refl; turned = record { waits = waits; grows = omega arith; issued = λ seq t. absurd (true≢false (sym t)) }; stays = λ other none empty. (none, empty) }
acts client (Some input) waits fresh = record { after = (table client input).0; fact = refl; me = (sends_in_turn client input).me; turned = turned client input waits (fresh input refl); stays = λ other. stays client input waits (fresh input refl) (other input refl) }

module _ (words : ℕ → ℕ → ℕ × ℕ) (scenario : Scenario) (first : Base) (others : List Base) (apart : are_apart (births as_nodes scenario) ≡ true) (groups : scenario.groups ≡ first ∷ others) (asks : Asks) (a : Among asks scenario.clients) where
  abbrev seats : List (Seat Player)
  seats = births as_nodes scenario

  abbrev seat : Seat Player
  seat = client_seat (route_of first) asks

  seated : find (λ (other : Seat Player). eqb other.who seat.who) seats ≡ Some seat
  seated = seat_found seats seat apart
      (Among-right seat (map (node_seat as_nodes scenario.groups scenario.policy) (numbers_from 1 scenario.nodes)) (client_seats scenario.groups scenario.clients)
      (subst (λ bases. Among seat (client_seats bases scenario.clients)) (sym groups) (map_among (client_seat (route_of first)) scenario.clients asks a)))

  begins : IsIssuing asks seat []
  begins = record { client = born_client asks.client asks.ops (route_of first); fact = refl; me = refl; waits = tt; fresh = λ f. (refl, refl); issued = λ seq at e. absurd (none-some at e) }

  module _ (rows : Rows) (event : Event OrderLine) (calm : IsCalmEvent (players words seats) rows seat.who event) (k : IsIssuing asks seat rows) where
    abbrev row : Row Mail OrderLine
    row = row_of player_table seat rows event

    fresh_now : (e : Event OrderLine) → IsCalmEvent (players words seats) rows seat.who e → (input : Input Mail OrderLine) → input_of (mails rows) e ≡ Some input → input ≡ Go → (k.client.waiting ≡ None) × (k.client.replies ≡ [])
    fresh_now (Comes.Deliver number) c input e f = absurd (got_no_go _ input e f)
    fresh_now Comes.Go c input e f = k.fresh c
    fresh_now (Comes.Told line) c input e f = absurd (is_told_one line input e f)
    fresh_now _ c input e f = absurd c

    did : IsActed k.client (input_of (mails rows) event) (acted player_table (value player_table seat rows) (input_of (mails rows) event))
    did = subst (λ p. IsActed k.client (input_of (mails rows) event) (acted player_table p (input_of (mails rows) event))) (sym k.fact) (acts k.client (input_of (mails rows) event) k.waits (fresh_now event calm))

    became : value player_table seat (rows ++ row ∷ []) ≡ Client did.after
    became =
        value-snoc player_table seat rows row
        ∙ (ap (λ b. cond b (acted player_table (value player_table seat rows) (input_of (mails rows) event)).0 (value player_table seat rows)) (eq-eqb seat.who seat.who refl) ∙ did.fact)

    own_row : IsIssuing asks seat (rows ++ row ∷ [])
    own_row = record {
      client = did.after;
      fact = became;
      me = did.me ∙ k.me;
      waits = did.turned.waits;
      fresh = λ f. fresh_after f;
      issued = λ seq at e. (elim (or_now_some (issue_row asks.client seq rows) (issues asks.client seq row) (length rows + 1) at (sym (issue-push asks.client seq rows row) ∙ e)) [
        | inl before ↦ (let old = k.issued seq at before in let up = did.turned.grows in omega (arith, old, up))
        | inr now ↦ did.turned.issued seq (ap (λ n. list_any (λ (mail : Mail). asks_for n seq mail.body) row.sent) k.me ∙ (and_parts (eqb row.who (client_actor asks.client)) (list_any (λ (mail : Mail). asks_for asks.client seq mail.body) row.sent) now).1)
      ]);
    }
      where
        no_go : (e : Event OrderLine) → IsCalmEvent (players words seats) rows seat.who e → is_go e ≡ false → (input : Input Mail OrderLine) → input_of (mails rows) e ≡ Some input → input ≡ Go → ⊥
        no_go (Comes.Deliver number) c s input w g = got_no_go _ input w g
        no_go Comes.Go c s input w g = true≢false s
        no_go (Comes.Told line) c s input w g = is_told_one line input w g
        no_go _ c s input w g = c

        fresh_after : has_started (rows ++ row ∷ []) (client_actor asks.client) ≡ false → (did.after.waiting ≡ None) × (did.after.replies ≡ [])
        fresh_after f =
            let parts = or_parts (has_started rows (client_actor asks.client)) (eqb seat.who (client_actor asks.client) && is_go event) (sym (any_push (λ (x : Row Mail OrderLine). eqb x.who (client_actor asks.client) && is_go x.event) rows row) ∙ f) in
            let old = k.fresh parts.0 in
            let still : is_go event ≡ false = sym (ap (λ b. b && is_go event) (eq-eqb seat.who (client_actor asks.client) refl)) ∙ parts.1 in
            did.stays (λ input e g. no_go event calm still input e g) old.0 old.1

  -- a row of another leaves it
  other_row : (rows : Rows) (row : Row Mail OrderLine) → (row.who ≡ seat.who → ⊥) → IsIssuing asks seat rows → IsIssuing asks seat (rows ++ row ∷ [])
  other_row rows row ne k = record {
    client = k.client;
    fact = value-snoc player_table seat rows row ∙ (cond-false (eqb row.who seat.who) (acted player_table (value player_table seat rows) (input_of (mails rows) row.event)).0 (value player_table seat rows) (ne_eqb row.who seat.who ne) ∙ k.fact);
    me = k.me;
    waits = k.waits;
    fresh = λ f. k.fresh (or_parts (has_started rows (client_actor asks.client)) (eqb row.who (client_actor asks.client) && is_go row.event) (sym (any_push (λ (x : Row Mail OrderLine). eqb x.who (client_actor asks.client) && is_go x.event) rows row) ∙ f)).0;
    issued = λ seq at e. (elim (or_now_some (issue_row asks.client seq rows) (issues asks.client seq row) (length rows + 1) at (sym (issue-push asks.client seq rows row) ∙ e)) [
      | inl before ↦ k.issued seq at before
      | inr now ↦ absurd (ne (eqb-true row.who seat.who (and_parts (eqb row.who (client_actor asks.client)) (list_any (λ (mail : Mail). asks_for asks.client seq mail.body) row.sent) now).0))
    ]);
  }

  next_row : (rows : Rows) (row : Row Mail OrderLine) → AreInTime (players words seats) (rows ++ row ∷ []) → IsIssuing asks seat rows → IsIssuing asks seat (rows ++ row ∷ [])
  next_row rows row timely k =
      let calm = (last_in_time (players words seats) rows row timely).0 in
      elim (cases_eq calm.seat.who seat.who) [
        | inl same ↦ (
            let fact : calm.seat ≡ seat = same_Some calm.seat seat (sym calm.born ∙ (ap (λ n. find (λ (other : Seat Player). eqb other.who n) seats) same ∙ seated)) in
            subst (λ r. IsIssuing asks seat (rows ++ r ∷ [])) (sym (calm.row_is ∙ ap (λ s. row_of player_table s rows calm.event) fact))
            (own_row rows calm.event (subst (λ n. IsCalmEvent (players words seats) rows n calm.event) same calm.calm) k))
        | inr ne ↦ other_row rows row (λ e. ne (sym (ap (λ (r : Row Mail OrderLine). r.who) calm.row_is) ∙ e)) k
      ]

  issuing : (rows : Rows) → AreInTime (players words seats) rows → IsIssuing asks seat rows
  issuing rows timely = by_time (players words seats) (IsIssuing asks seat) begins next_row rows timely

pub issued_are_begun : ValidScenariosAreBounded → IssuedAreBegun
issued_are_begun bounded words scenario first others rows asks seq at valid groups timely a e =
    let k = issuing words scenario first others (all_apart scenario (bounded scenario valid)) groups asks a rows timely in
    let low = k.issued seq at e in
    let fact = ap begun_of k.fact in
    omega (arith, low, fact)
