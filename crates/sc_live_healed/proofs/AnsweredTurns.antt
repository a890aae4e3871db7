-- At the end of a turn of a client that is kicked behind a sweep, the client has all replies, or the node that it asked last has crashed.
use Rattle.std.proofs.Common.{◌≡◌, ℕ, eqb, true, false, true≢false, cond, List, [], ◌∷◌, ◌++◌, length, map, Option, Some, None, ◌⊎◌, inl, inr, refl, sym, ◌∙◌, ap, subst, append-nil, append_assoc}
use Rattle.std.specs.Option.{option_map}
use Rattle.std.proofs.lemmas.Bool.{cond_both, cond-false}
use Rattle.sc_base.specs.Definitions.{Among, client_actor, same_draw}
use Rattle.sc_words.proofs.PaxosProofs.PaxosLemmas.{Each-among, find_found}
use Rattle.sc_paxos_law.proofs.Lemmas.{Among-right}
use Rattle.sc_node_table.specs.Values.{Seat, Row, Event, Op, Base, Command, Flight, OrderLine, Input, Mail, Node, Client}
use Rattle.sc_actor.specs.declared.rows.Event.TheVariants.{Tick as TickEvent, Go as GoEvent}
use Rattle.sc_actor.specs.Definitions.{acted, input_of, replay, value, has_started, has_crashed, is_quiet, acts, row_of, line_row}
use Rattle.sc_node_table.specs.NodeDefinitions.{ReplicaState, name_of, numbers_from}
use Rattle.sc_client_table.specs.table.TableDefinitions.{Client as ClientState}
use Rattle.sc_client_table.proofs.TableProofs.TurnLemmas.{sends_in_turn}
use Rattle.sc_scenario.specs.declared.scenario.scenarios.Scenario.{Scenario}
use Rattle.sc_scenario.specs.declared.scenario.scenarios.Asks.{Asks as Requests}
use Rattle.sc_scenario.specs.scenario.Definitions.{IsBounded}
use Rattle.sc_meaning.specs.sound.SoundDefinitions.{Player, Lawful, as_nodes, births, client_seat, client_seats, node_seat, player_table, route_of, kept_replies, replies_of}
use Rattle.sc_law_groups.proofs.WholeProofs.Seats.{all_apart}
use Rattle.sc_live_orderly.specs.OrderlyDefinitions.{Kick, Ticks, Starts, Turn, IsTurn, AreDelivered, kick_line}
use Rattle.sc_live_orderly.specs.Turns.{as_list}
use Rattle.sc_live_orderly.proofs.PendingMail.{none_pending}
use Rattle.sc_live_orderly.proofs.SeatSums.{seat_found}
use Rattle.sc_live_healed.specs.HealedDefinitions.{IsIdle, HasReplies, AskedACrashedNode}
use Rattle.sc_live_healed.proofs.FixedJournals.{Rows, IsOf, IsFixedJournal, AreWithoutOrders}
use Rattle.sc_live_healed.proofs.AskingJournals.{IsAskingPlayer, IsAskingAt}
use Rattle.sc_live_healed.proofs.TakenRequests.{IsHeld, Queued, Flying, Ready}
use Rattle.sc_live_healed.proofs.LoneDeliveries.{S, pending}
use Rattle.sc_live_healed.proofs.LoneTurns.{Where, IsSent, IsSentOn, IsHeldAt, HasCrashed, Stands, IsReplied, Waits, TurnState, WaitsOn, HasAll}
use Rattle.sc_live_healed.proofs.LoneTurnRows.{Frames, frames_of, all_delivered}
use Rattle.sc_live_healed.proofs.LoneTurnStarts.{AreIdle, ticked_turn, started_turn}

-- ---- a client keeps its requests

-- a client with these requests
abbrev AsksFor : List Op → Player → Type 0
AsksFor ops (Client client) = client.requests ≡ ops
AsksFor ops (Node node) = ⊥

acts_for : (ops : List Op) (p : Player) (o : Option (Input Mail OrderLine)) → AsksFor ops p → AsksFor ops (acted player_table p o).0
acts_for ops (Client client) None k = k
acts_for ops (Client client) (Some input) k = (sends_in_turn client input).requests ∙ k
acts_for ops (Node node) o k = absurd k

replays_for : (ops : List Op) (who : ℕ) (p : Player) (sent : List Mail) (rows : Rows) → AsksFor ops p → AsksFor ops (replay player_table who p sent rows)
replays_for ops who p sent [] k = k
replays_for ops who p sent (row ∷ rows) k =
    replays_for ops who (cond (eqb row.who who) (acted player_table p (input_of sent row.event)).0 p) (sent ++ row.sent) rows
    (cond_both (eqb row.who who) (acted player_table p (input_of sent row.event)).0 p (AsksFor ops) (λ _. acts_for ops p (input_of sent row.event) k) (λ _. k))

client_for : (ops : List Op) (p : Player) → AsksFor ops p → (client : ClientState) × (p ≡ Client client) × (client.requests ≡ ops)
client_for ops (Client client) k = (client, refl, k)
client_for ops (Node node) k = absurd k

-- an idle replica holds no request
idle_holds_none : (client seq : ℕ) (r : ReplicaState) → IsIdle r → IsHeld client seq r → ⊥
idle_holds_none client seq r i (Queued command a ours) = subst (λ (cs : List Command). Among command cs) i.backlog a
idle_holds_none client seq r i (Flying flight a ours) = subst (λ (fs : List (Flight Command)). Among flight fs) i.flights a
idle_holds_none client seq r i (Ready entry a ours) = subst (λ (es : List (ℕ × Command)). Among entry es) i.ready a

module _ (words : ℕ → ℕ → ℕ × ℕ) (scenario : Scenario) (bounded : IsBounded scenario) (off : scenario.policy ≡ false) where
  -- deliveries end where no mail is pending
  delivered_quiet : (rows deliveries : Rows) → AreDelivered (S words scenario bounded) rows deliveries → is_quiet (S words scenario bounded) (rows ++ deliveries) ≡ true
  delivered_quiet rows [] d = subst (λ (rs : Rows). is_quiet (S words scenario bounded) rs ≡ true) (sym (append-nil rows)) d
  delivered_quiet rows (row ∷ more) d = subst (λ (rs : Rows). is_quiet (S words scenario bounded) rs ≡ true) (append_assoc rows (row ∷ []) more) (delivered_quiet (rows ++ row ∷ []) more d.1)

  module _ (asks : Requests) (among : Among asks scenario.clients) (base : Base) (others : List Base) (groups : scenario.groups ≡ base ∷ others) where
    abbrev pub seat : Seat Player
    seat = client_seat (route_of base) asks

    mapped : (clients : List Requests) → Among asks clients → Among seat (map (client_seat (route_of base)) clients)
    mapped [] a = absurd a
    mapped (c ∷ clients) (inl same) = inl (ap (client_seat (route_of base)) same)
    mapped (c ∷ clients) (inr a) = inr (mapped clients a)

    born : Among seat (births as_nodes scenario)
    born =
        Among-right seat (map (node_seat as_nodes scenario.groups scenario.policy) (numbers_from 1 scenario.nodes)) (client_seats scenario.groups scenario.clients)
        (subst (λ (bases : List Base). Among seat (client_seats bases scenario.clients)) (sym groups) (mapped scenario.clients among))

    pub is_of : IsOf scenario seat
    is_of = seat_found (births as_nodes scenario) seat (all_apart scenario bounded) born

    abbrev pub State : ℕ → Rows → Type 0
    State first rows = TurnState words scenario bounded off asks.client seat is_of refl first rows

    -- ---- where no mail is pending

    ends : (first : ℕ) (rows : Rows) → is_quiet (S words scenario bounded) rows ≡ true → AreIdle words scenario bounded off asks.client seat is_of refl rows → State first rows → HasReplies scenario asks rows ⊎ AskedACrashedNode scenario asks rows
    ends first rows quiet idle (HasAll client now r) = inl (λ one more e. replies one more e)
      where
        first_of : {x y : Base} {xs ys : List Base} → ◌≡◌ {A = List Base} (x ∷ xs) (y ∷ ys) → x ≡ y
        first_of e = cc

        replies : (one : Base) (more : List Base) → scenario.groups ≡ one ∷ more → length (kept_replies (route_of one) asks rows) ≡ length asks.ops
        replies one more e =
            let same : base ≡ one = first_of (sym groups ∙ e) in
            let kept : length (kept_replies (route_of base) asks rows) ≡ length client.replies = ap (λ (p : Player). length (replies_of p)) now in
            let requests : client.requests ≡ asks.ops = subst (AsksFor asks.ops) now (replays_for asks.ops seat.who seat.actor [] rows refl) in
            subst (λ (b : Base). length (kept_replies (route_of b) asks rows) ≡ length asks.ops) same (kept ∙ elim (r.replies) [ inl none ↦ absurd (true≢false none.0) | inr all ↦ all.1 ] ∙ ap (λ ops. length ops) requests)
    ends first rows quiet idle (WaitsOn client now a h) = inr (record { seat = seat; among = born; who = refl; client = client; now = now; group = a.group; node = a.target; asked = a.asked; crashed = by h.stands })
      where
        none : pending words scenario bounded rows ≡ []
        none = none_pending (S words scenario bounded) rows quiet

        nothing : (mail : Mail) → Among mail (pending words scenario bounded rows) → ⊥
        nothing mail a = subst (Among mail) none a

        where_so : Where words scenario bounded off asks.client seat is_of refl first rows a.seq a.group a.target → has_crashed rows a.target ≡ true
        where_so (IsSent op am) = absurd (nothing _ am)
        where_so (IsSentOn mail am from to answer body red) = absurd (nothing mail am)
        where_so (IsHeldAt other of at lives node e b among_ id r found on held) =
            let there = find_found (λ (x : ReplicaState). same_draw (name_of x) b.core.id) node.replicas r found in
            absurd (idle_holds_none asks.client a.seq r (Each-among (λ (x : ReplicaState). x.running ≡ true → IsIdle x) node.replicas r (idle other of node e lives) there.0 on) held)
        where_so (HasCrashed c) = c

        by : Stands words scenario bounded off asks.client seat is_of refl first rows a.seq a.group a.target → has_crashed rows a.target ≡ true
        by (IsReplied r) = absurd (nothing r.mail r.among)
        by (Waits early late logs unlearnt w) = where_so w

    -- ---- the whole turn

    module _ (rows : Rows) (turn : Turn) (after : Rows) (t : IsTurn (S words scenario bounded) rows turn after) (who : turn.who ≡ client_actor asks.client) (without_orders : AreWithoutOrders words scenario bounded off after) (lawful : Lawful as_nodes words scenario after)
        (lives : has_crashed rows (client_actor asks.client) ≡ false) (idle : AreIdle words scenario bounded off asks.client seat is_of refl rows) (idle_then : AreIdle words scenario bounded off asks.client seat is_of refl after) where
      -- what is known of each prefix
      frames : (some later : Rows) → after ≡ some ++ later → Frames words scenario bounded off asks.client some
      frames some later e = frames_of words scenario bounded off asks.client some later (subst (AreWithoutOrders words scenario bounded off) e without_orders) (subst (Lawful as_nodes words scenario) e lawful)

      whole : after ≡ rows ++ (as_list t.first ++ t.deliveries)
      whole = t.after_is ∙ append_assoc rows (as_list t.first) t.deliveries

      found : (client : ClientState) × (value player_table seat rows ≡ Client client) × (client.requests ≡ asks.ops)
      found = client_for asks.ops (value player_table seat rows) (replays_for asks.ops seat.who seat.actor [] rows refl)

      asking : IsAskingAt rows seat.who found.0
      asking = subst (IsAskingPlayer rows seat.who) found.1 ((frames rows (as_list t.first ++ t.deliveries) whole).asking.players seat is_of)

      -- behind the first row
      goes_on : (row : Row Mail OrderLine) → t.first ≡ Some row → (first : ℕ) × State first (rows ++ row ∷ []) → HasReplies scenario asks after ⊎ AskedACrashedNode scenario asks after
      goes_on row e begun =
          let fact : after ≡ (rows ++ row ∷ []) ++ t.deliveries = t.after_is ∙ ap (λ (o : Option (Row Mail OrderLine)). (rows ++ as_list o) ++ t.deliveries) e in
          let delivered = subst (λ (o : Option (Row Mail OrderLine)). AreDelivered (S words scenario bounded) (rows ++ as_list o) t.deliveries) e t.delivered in
          let last = all_delivered words scenario bounded off asks.client seat is_of refl begun.0 (rows ++ row ∷ []) t.deliveries
          (λ some later s. frames ((rows ++ row ∷ []) ++ some) later (fact ∙ ap (λ (rs : Rows). (rows ++ row ∷ []) ++ rs) s ∙ sym (append_assoc (rows ++ row ∷ []) some later))) delivered begun.1 in
          ends begun.0 after (subst (λ (rs : Rows). is_quiet (S words scenario bounded) rs ≡ true) (sym fact) (delivered_quiet (rows ++ row ∷ []) t.deliveries delivered)) idle_then (subst (State begun.0) (sym fact) last)

      fixed_of : (row : Row Mail OrderLine) → t.first ≡ Some row → IsFixedJournal scenario (rows ++ row ∷ [])
      fixed_of row e = (frames (rows ++ row ∷ []) t.deliveries (t.after_is ∙ ap (λ (o : Option (Row Mail OrderLine)). (rows ++ as_list o) ++ t.deliveries) e)).taken.fixed

      acts_row : (event : Event OrderLine) → acts (S words scenario bounded) rows seat.who event ≡ Some (row_of player_table seat rows event)
      acts_row event = ap (λ (o : Option (Seat Player)). option_map (λ (other : Seat Player). row_of player_table other rows event) o) is_of

      pub turn_answers : ((has_started rows (client_actor asks.client) ≡ true) × (turn.kick ≡ Ticks)) ⊎ ((has_started rows (client_actor asks.client) ≡ false) × (turn.kick ≡ Starts)) → HasReplies scenario asks after ⊎ AskedACrashedNode scenario asks after
      turn_answers (inl (gone, ticks)) =
          let e : t.first ≡ Some (row_of player_table seat rows TickEvent) =
          sym t.first_is ∙ (ap (λ (k : Kick). line_row (S words scenario bounded) rows (kick_line k turn.who)) ticks ∙ (ap (λ (w : ℕ). line_row (S words scenario bounded) rows (kick_line Ticks w)) who
          ∙ (cond-false (has_crashed rows seat.who) None (acts (S words scenario bounded) rows seat.who TickEvent) lives ∙ acts_row TickEvent))) in
          goes_on (row_of player_table seat rows TickEvent) e (ticked_turn words scenario bounded off asks.client seat is_of refl rows t.quiet idle found.0 found.1 asking lives gone (fixed_of (row_of player_table seat rows TickEvent) e))
      turn_answers (inr (none, starts)) =
          let e : t.first ≡ Some (row_of player_table seat rows GoEvent) =
          sym t.first_is ∙ (ap (λ (k : Kick). line_row (S words scenario bounded) rows (kick_line k turn.who)) starts ∙ (ap (λ (w : ℕ). line_row (S words scenario bounded) rows (kick_line Starts w)) who
          ∙ (cond-false (has_started rows seat.who) None (acts (S words scenario bounded) rows seat.who GoEvent) none ∙ acts_row GoEvent))) in
          goes_on (row_of player_table seat rows GoEvent) e (started_turn words scenario bounded off asks.client seat is_of refl rows t.quiet idle found.0 found.1 asking lives none (fixed_of (row_of player_table seat rows GoEvent) e))
