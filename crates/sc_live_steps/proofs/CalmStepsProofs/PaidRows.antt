-- A row that finds what it needs lowers what is owed, where it delivers, and raises it little, where it gives an order.
use Rattle.std.proofs.Common.{◌≡◌, ℕ, ◌+◌, ◌*◌, ◌≤◌, eqb, true, false, true≢false, cond, List, [], ◌∷◌, ◌++◌, sum_by, find, Some, None, inl, inr, refl, sym, ◌∙◌, ap, subst, arith}
use Rattle.std.specs.List.{filter}
use Rattle.std.specs.Option.{option_map}
use Rattle.std.proofs.lemmas.List.Sums.{sum_by-append}
use Rattle.sc_node_table.specs.Values.{Draw, OrderLine, Mail, MailBody, Request, Answer, Prepare, Promise, Accept, Accepted, Nack, Learn, Ask, Install, TxPrepare, TxVote, TxOutcome, TxElsewhere, TxWatch, TxWatched, Told as ToldMail, Node, Client, Seat, Event, Deliver, Tick, Go, Input, Got, Row, Line}
use Rattle.sc_actor.specs.declared.rows.Event.TheVariants.{Told}
use Rattle.sc_actor.specs.declared.rows.Input.TheVariants.{Go as GoInput, Told as ToldInput}
use Rattle.sc_actor.specs.Definitions.{mails, copies, counts_at, is_delivery, value, acted, input_of, are_apart, row_of, IsLawful, is_quiet}
use Rattle.sc_actor.proofs.Lemmas.{waiting_one, lawful-prefix}
use Rattle.sc_live_orderly.specs.OrderlyDefinitions.{IsCalmEvent, mail_with, is_born, is_told, deliveries, under_way, AreInTime}
use Rattle.sc_live_orderly.proofs.OrderlyLemmas.{in_time_before, in_time_tidy, last_in_time, by_rows, count_push, delivered, filter_sum, after-row, is_born-from}
use Rattle.sc_node_table.specs.NodeDefinitions.{NodeState, on_mail, ordered_of, on_order}
use Rattle.sc_client_table.specs.table.TableDefinitions.{Client as ClientState, started, got}
use Rattle.sc_meaning.specs.sound.SoundDefinitions.{Player, player_table, receiver_of}
use Rattle.sc_live_steps.specs.calm.CalmDefinitions.{players, Chart, player_owes, run_owes, AreBounded, TakenMailLowers, IsCalmMailAt, Takes, Learns, Makes, Misses, Strays, IsBarred, IsCalmFor, MayGoNow, MayBeOrdered, FindsCalm, KeepCalm, KeptCalmIsMeasured, Lowers, Points, LowersLed, Ways, body_owes, mail_owes, Elsewhere, groups_owe, client_owes, client_turn_owes, PartyLowers, Rows, led_elsewhere}
use Rattle.sc_live_steps.proofs.CalmStepsProofs.ChartChanges.{charts_may_change}
use Rattle.sc_live_steps.proofs.CalmStepsProofs.LedReplicas.{led_learns}
use Rattle.sc_live_steps.proofs.CalmStepsProofs.LoneEntryVotes.{lone_decides}
use Rattle.sc_live_steps.proofs.CalmStepsProofs.MailPotential.{answers, votes, learns, asks, moves, counts, old_learns}
use Rattle.sc_live_steps.proofs.CalmStepsProofs.NodePotential.{raise_little}
use Rattle.sc_live_steps.proofs.CalmStepsProofs.PartyPotential.{parties_lower, led_parties_lower, parties_raise_little}
use Rattle.sc_live_steps.proofs.CalmStepsProofs.OwedMail.{pending_owes}
use Rattle.sc_live_steps.proofs.CalmStepsProofs.ClientReach.{clients_pay}
use Rattle.sc_live_steps.proofs.CalmStepsProofs.CallVotes.{serving_decides}
use Rattle.sc_live_steps.proofs.CalmStepsProofs.UntakenPotential.{strangers_lower}
use Rattle.sc_live_steps.proofs.CalmStepsProofs.Totals.{idle_part, node_idles, turns, players_change}

-- ---- a mail that a replica takes

-- A mail lowers what is owed at the replica that takes it, where the replica is as mail of its kind finds it in a calm journal.
pub taken_mail : TakenMailLowers
taken_mail ways from (Request group client seq op) r bounded may =
    subst (λ (g : Draw). Lowers ways from (Request g client seq op) (r, [])) may.0
    (asks.request ways from client seq op (r, []) may.1 (subst (λ (g : Draw). Points ways g r) (sym may.0) may.2))
taken_mail ways from (Prepare group ballot from_slot) r bounded may = answers.prepare ways from group ballot from_slot (r, []) may
taken_mail ways from (Promise group ballot reports) r bounded may = subst (λ reported. Lowers ways from (Promise group ballot reported) (r, [])) (sym may.0) (asks.promise ways from group ballot (r, []) may.1)
taken_mail ways from (Accept group ballot slot command) r bounded may = answers.accept ways from group ballot slot command (r, []) may
taken_mail ways from (Accepted group ballot slot) r bounded (inl off) = counts ways from group ballot slot (r, []) (λ flight runs room at e. absurd (true≢false (sym runs ∙ off)))
taken_mail ways from (Accepted group ballot slot) r bounded (inr (inl serves)) = counts ways from group ballot slot (r, []) (serving_decides ways slot (r, []) bounded serves)
taken_mail ways from (Accepted group ballot slot) r bounded (inr (inr flies)) = counts ways from group ballot slot (r, []) (lone_decides ways slot flies.0 (r, []) bounded flies.1)
taken_mail ways from (Nack group promised) r bounded may = answers.nack ways from group promised (r, []) may
taken_mail ways from (Learn group slot command) r bounded (inl old) = old_learns ways from group slot command (r, []) old
taken_mail ways from (Learn group slot command) r bounded (inr follows) = learns ways from group slot command (r, []) follows.0 follows.1
taken_mail ways from (Install group slot base sets) r bounded may = moves.install ways from group slot base sets (r, []) may.0 may.1
taken_mail ways from (TxPrepare tx offer) r bounded may = asks.offer ways from tx offer (r, []) may.0 may.1 may.2
taken_mail ways from (TxVote tx coord part vote) r bounded may = votes.vote ways from tx coord part vote (r, []) may
taken_mail ways from (TxOutcome tx part outcome) r bounded may = votes.outcome ways from tx part outcome (r, []) may
taken_mail ways from (TxElsewhere tx coord None) r bounded may = absurd may
taken_mail ways from (TxElsewhere tx coord (Some node)) r bounded may = moves.elsewhere ways from tx coord node (r, []) may
taken_mail ways from (TxWatch tx watch) r bounded may = asks.watch ways from tx watch (r, []) may.0 may.1 may.2
taken_mail ways from (TxWatched tx coord part vote) r bounded may = votes.watched ways from tx coord part vote (r, []) may
taken_mail ways from (Answer group seq answer) r bounded may = absurd may
taken_mail ways from (Ask group from_slot) r bounded may = absurd may
taken_mail ways from (ToldMail order result) r bounded may = absurd may

-- ---- a mail that a node is delivered

mail_pays : (ways : Ways) (groups : List Draw) (elsewhere : Elsewhere) (from : ℕ) (body : MailBody) (node : NodeState) → AreBounded ways → IsCalmMailAt ways groups elsewhere from body node → PartyLowers ways groups elsewhere from body node
mail_pays ways groups elsewhere from body node bounded (Takes group r once fact) =
    parties_lower ways groups elsewhere from group body r node once
    (record { taken = fact.stays.taken; here = fact.stays.here; lowers = taken_mail ways from body r bounded fact.may; same = fact.stays.same; alone = fact.alone })
mail_pays ways groups elsewhere from body node bounded (Learns group r fact) =
    led_parties_lower ways groups elsewhere from group body r node
    (record { taken = fact.stays.taken; here = fact.stays.here; led = fact.led; lowers = subst (λ (b : MailBody). LowersLed ways from b (r, [])) (sym fact.body_is) (led_learns ways from group fact.slot fact.command r fact.learns); same = fact.stays.same })
mail_pays ways groups elsewhere from body node bounded (Makes group fact) =
    subst (λ (b : MailBody). PartyLowers ways groups elsewhere from b node) (sym fact.body_is) (strangers_lower.made ways groups elsewhere from group fact.slot fact.base fact.sets node fact.once fact.none fact.behind)
mail_pays ways groups elsewhere from body node bounded (Misses group fact) = strangers_lower.missed ways groups elsewhere from group body node fact.may fact.named fact.none
mail_pays ways groups elsewhere from body node bounded (Strays delivered none) = strangers_lower.stray ways groups elsewhere from body node delivered none
mail_pays ways groups elsewhere from body node bounded (IsBarred delivered barred) = strangers_lower.barred ways groups elsewhere from body node delivered barred

-- ---- an input of a player

module _ (chart : Chart) (elsewhere : Elsewhere) (bounded : AreBounded chart.ways) where
  -- what a player owes, with what groups owe where it is among others
  abbrev part : Player → ℕ
  part player = player_owes chart player + idle_part elsewhere chart.groups player

  -- what a player owes after an input, with what groups owe and with the mails that it sends
  abbrev turn_part : Player → Input Mail OrderLine → ℕ
  turn_part player input = part (player_table player input).0 + sum_by (mail_owes chart.ways) (player_table player input).1

  -- no group is led at a client
  client_idles : (one other : ClientState) → idle_part elsewhere chart.groups (Client one) ≡ idle_part elsewhere chart.groups (Client other)
  client_idles one other = refl

  got_pays : (mail : Mail) (player : Player) → IsCalmFor chart elsewhere mail player → turn_part player (Got mail) + 1 ≤ part player + mail_owes chart.ways mail
  got_pays mail (Node node) fact =
      let le = mail_pays chart.ways chart.groups elsewhere mail.from mail.body node bounded fact.1 in
      let at = ap (λ n. body_owes chart.ways n mail.body) fact.0 in
      let before = node_idles elsewhere chart.groups node in
      let after = node_idles elsewhere chart.groups (on_mail mail.from mail.body node).0 in
      omega (arith, le, at, before, after)
  got_pays mail (Client client) fact =
      let pays = clients_pay.answer chart.ways chart.reach mail.from fact.seq fact.group fact.answer client bounded fact.may in
      let le = subst (λ (b : MailBody). client_turn_owes chart.ways chart.reach (got mail.from b client) + 1 ≤ client_owes chart.ways chart.reach client + body_owes chart.ways mail.to b) (sym fact.body_is) pays in
      let same = client_idles (got mail.from mail.body client).0 client in
      omega (arith, le, same)

  go_pays : (player : Player) → MayGoNow chart player → turn_part player GoInput ≤ part player
  go_pays (Node node) fact = omega arith
  go_pays (Client client) fact =
      let le = clients_pay.go chart.ways chart.reach client bounded fact in
      let same = client_idles (started 1 client).0 client in
      omega (arith, le, same)

  told_pays : (line : OrderLine) (player : Player) → MayBeOrdered chart elsewhere line player → turn_part player (ToldInput line) ≤ part player + (242 + 4 * chart.ways.most)
  told_pays line (Node node) (inl none) =
      let le = raise_little.refused chart.ways line node none in
      let same = ap (λ o. groups_owe chart.groups elsewhere (ordered_of o line node).0) none in
      let before = node_idles elsewhere chart.groups node in
      let after = node_idles elsewhere chart.groups (on_order line node).0 in
      omega (arith, le, same, before, after)
  told_pays line (Node node) (inr fact) =
      let le = parties_raise_little chart.ways chart.groups elsewhere line fact.0 node fact.1 fact.2 in
      let before = node_idles elsewhere chart.groups node in
      let after = node_idles elsewhere chart.groups (on_order line node).0 in
      omega (arith, le, before, after)
  told_pays line (Client client) fact = omega arith

-- ---- a row

module _ (words : ℕ → ℕ → ℕ × ℕ) (births : List (Seat Player)) (apart : are_apart births ≡ true) where
  -- what the mail under way owes after one more row
  mail_row : (owes : Mail → ℕ) (rows : Rows) (row : Row Mail OrderLine) → sum_by owes (under_way (players words births) (rows ++ row ∷ [])) ≤ sum_by owes (mail_with (λ (mail : Mail). is_born (players words births) (receiver_of mail)) (mails rows) (counts_at (copies rows) row.event)) + sum_by owes row.sent
  mail_row owes rows row =
      let test = λ (mail : Mail). is_born (players words births) (receiver_of mail) in
      let left = mail_with test (mails rows) (counts_at (copies rows) row.event) in
      let fact = ap (sum_by owes) (after-row (players words births) test rows row) in
      let split = sum_by-append owes left (filter test row.sent) in
      let le = filter_sum test owes row.sent in
      omega (arith, fact, split, le)

  module _ (chart : Chart) (bounded : AreBounded chart.ways) (rows : Rows) (seat : Seat Player) (born : find (λ other. eqb other.who seat.who) births ≡ Some seat) where
    abbrev after : Event OrderLine → Rows
    after event = rows ++ row_of player_table seat rows event ∷ []

    abbrev Pays : Event OrderLine → Type 0
    Pays event = run_owes chart (players words births) (after event) + cond (is_delivery event) 1 0 ≤ run_owes chart (players words births) rows + cond (is_told event) (242 + 4 * chart.ways.most) 0

    row_pays : (event : Event OrderLine) → IsCalmEvent (players words births) rows seat.who event → FindsCalm chart births rows seat event → Pays event
    row_pays (Deliver number) fine finds =
        let now = value player_table seat rows in
        let elsewhere = led_elsewhere births rows seat.who in
        let w = waiting_one (players words births) rows seat.who 1 number fine in
        let input : input_of {O = OrderLine} (mails rows) (Deliver number) ≡ Some (Got w.0) = ap (λ o. option_map Got o) w.1.sent in
        let lower = got_pays chart elsewhere bounded w.0 now (finds w.0 w.1.sent) in
        let change = players_change births apart rows seat (Deliver number) born (player_owes chart) chart.groups in
        let turned = ap (part chart elsewhere bounded) (turns births apart rows seat (Deliver number) born ∙ ap (λ i. (acted player_table now i).0) input) in
        let sent = ap (λ i. sum_by (mail_owes chart.ways) (acted player_table now i).1) input in
        let mail = mail_row (mail_owes chart.ways) rows (row_of player_table seat rows (Deliver number)) in
        let took = delivered (players words births) (mail_owes chart.ways) rows number w.0 (ap (is_born (players words births)) w.2 ∙ is_born-from (players words births) seat.who seat born) w.1 in
        omega (arith, lower, change, turned, sent, mail, took)
    row_pays Go fine finds =
        let now = value player_table seat rows in
        let elsewhere = led_elsewhere births rows seat.who in
        let lower = go_pays chart elsewhere bounded now finds in
        let change = players_change births apart rows seat Go born (player_owes chart) chart.groups in
        let turned = ap (part chart elsewhere bounded) (turns births apart rows seat Go born) in
        let mail = mail_row (mail_owes chart.ways) rows (row_of player_table seat rows Go) in
        omega (arith, lower, change, turned, mail)
    row_pays (Told line) fine finds =
        let now = value player_table seat rows in
        let elsewhere = led_elsewhere births rows seat.who in
        let lower = told_pays chart elsewhere bounded line now finds in
        let change = players_change births apart rows seat (Told line) born (player_owes chart) chart.groups in
        let turned = ap (part chart elsewhere bounded) (turns births apart rows seat (Told line) born) in
        let mail = mail_row (mail_owes chart.ways) rows (row_of player_table seat rows (Told line)) in
        omega (arith, lower, change, turned, mail)
    row_pays Tick fine finds = absurd fine
    row_pays _ fine finds = absurd fine

  -- ---- lawful rows that come in time

  module _ (lines : List (Line OrderLine)) (charts : Rows → Chart) (most : ℕ) (keep : KeepCalm (players words births) lines charts most) where
    fewer : (rows : Rows) (row : Row Mail OrderLine) → deliveries (rows ++ row ∷ []) ≤ most → deliveries rows ≤ most
    fewer rows row low = (let d = count_push (λ (r : Row Mail OrderLine). is_delivery r.event) rows row (is_delivery row.event) refl in omega (arith, d, low))

    -- the longest way stays what it is
    most_stays : (rows : Rows) → IsLawful (players words births) lines rows → AreInTime (players words births) rows → deliveries rows ≤ most → (charts rows).ways.most ≡ (charts []).ways.most
    most_stays rows lawful =
        by_rows (players words births) lines (λ r. AreInTime (players words births) r → deliveries r ≤ most → (charts r).ways.most ≡ (charts []).ways.most) (λ timely low. refl)
        (λ r row l same timely low. (keep.keeps r row l timely (fewer r row low)).follows.most ∙ same (in_time_before (players words births) r row timely) (fewer r row low))
        rows lawful

    abbrev RowPays : Rows → Row Mail OrderLine → Type 0
    RowPays rows row = run_owes (charts rows) (players words births) (rows ++ row ∷ []) + cond (is_delivery row.event) 1 0 ≤ run_owes (charts rows) (players words births) rows + cond (is_told row.event) (242 + 4 * (charts rows).ways.most) 0

    row_lowers : (rows : Rows) (row : Row Mail OrderLine) → IsLawful (players words births) lines (rows ++ row ∷ []) → AreInTime (players words births) (rows ++ row ∷ []) → deliveries rows ≤ most
        → run_owes (charts (rows ++ row ∷ [])) (players words births) (rows ++ row ∷ []) + cond (is_delivery row.event) 1 0 ≤ run_owes (charts rows) (players words births) rows + cond (is_told row.event) (242 + 4 * (charts []).ways.most) 0
    row_lowers rows row lawful timely low =
        let kept = keep.keeps rows row lawful timely low in
        let calm = (last_in_time (players words births) rows row timely).0 in
        let pays = subst (RowPays rows) (sym calm.row_is) (row_pays (charts rows) kept.bounded rows calm.seat calm.born calm.event calm.calm (kept.finds calm.seat calm.event calm.born calm.row_is)) in
        let next = charts_may_change words births (rows ++ row ∷ []) (charts rows) (charts (rows ++ row ∷ [])) kept.follows in
        let before = lawful-prefix (players words births) lines rows (row ∷ []) lawful in
        let same = ap (λ far. cond (is_told row.event) (242 + 4 * far) 0) (most_stays rows before (in_time_before (players words births) rows row timely) low) in
        omega (arith, pays, next, same)

    -- where mail is pending, something is owed
    some_owed : (rows : Rows) → IsLawful (players words births) lines rows → AreInTime (players words births) rows → deliveries rows ≤ most → is_quiet (players words births) rows ≡ false → 1 ≤ run_owes (charts rows) (players words births) rows
    some_owed rows lawful timely low loud =
        let some = pending_owes words births (charts rows).ways rows (in_time_tidy (players words births) rows timely) (keep.delivered rows lawful timely low) loud in
        omega (arith, some)

-- Where each row in time of lawful journals with at most a given number of deliveries finds what it needs, what all players, groups and mail under way owe is a measure: a delivery lowers it, an order raises it by what a transaction with two other groups takes at most, and a client that goes raises nothing.
pub kept_calm : KeptCalmIsMeasured
kept_calm words births lines charts most still apart keep quiet = record {
  lowers = row_lowers words births apart lines charts most keep;
  some = some_owed words births apart lines charts most keep;
  quiet = quiet;
}
