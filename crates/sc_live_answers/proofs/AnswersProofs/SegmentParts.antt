-- The segments of a calm journal: quiet prefixes that rest, requests behind them, and orders.
use Rattle.std.proofs.Common.{◌≡◌, ℕ, ◌+◌, ◌≤◌, true, false, true≢false, List, [], ◌∷◌, ◌++◌, length, inl, inr, refl, sym, ◌∙◌, ap, subst, arith, append_assoc, append-nil}
use Rattle.sc_base.specs.Definitions.{Each}
use Rattle.sc_node_table.specs.Values.{Base, OrderLine, Mail, Seat, Event, Deliver, Row}
use Rattle.sc_actor.specs.declared.rows.Event.TheVariants.{Told}
use Rattle.sc_actor.specs.Definitions.{mails, System, row_of}
use Rattle.sc_live_orderly.specs.OrderlyDefinitions.{IsInOrder, is_told, orders, AreInTime}
use Rattle.sc_live_orderly.proofs.OrderlyLemmas.{last_in_time, count_push}
use Rattle.sc_scenario.specs.declared.scenario.scenarios.Scenario.{Scenario}
use Rattle.sc_meaning.specs.sound.SoundDefinitions.{Player, player_table, births, as_nodes}
use Rattle.sc_live_steps.specs.calm.CalmDefinitions.{players, FindsCalm, Rows}
use Rattle.sc_live_steps.specs.orders.OrderDefinitions.{Still}
use Rattle.sc_live_journals.specs.scenes.SceneDefinitions.{IsThere, StageAfter, scene_at}
use Rattle.sc_live_plain.specs.PlainDefinitions.{DoHintsRise, replicas_after}
use Rattle.sc_live_journals.specs.rows.RowDefinitions.{IsSeat, with_event}
use Rattle.sc_live_journals.specs.charts.ChartDefinitions.{chart_at, names_at, quiet_prefix}
use Rattle.sc_live_answers.specs.AnswerDefinitions.{IsCalmJournal, IsPrefixOf, ContinuesBy, RestsAt, JournalsBeginResting, GoesToNode, RequestsSendNoErrands, NodeErrandsReachPlayers, IsAskedSince, RequestsBeginAsked, AskedRowsGoOn, AskedRowsFindCalm, RequestsKeepGroups, RequestsRestAgain, IsOrderedSince, OrdersBeginOrdered, DeliveriesKeepOrdered, OrdersLeaveResting, HasFewNames, ClientsAreNear, NamesStayFew, IsReported, AreReported}
use Rattle.sc_live_answers.proofs.OrdersProofs.HeldOrders.{none_holds, reported_later}
use Rattle.sc_live_answers.proofs.OrdersProofs.HeldOrdersAtStart.{given_rows}
use Rattle.sc_live_answers.proofs.AnswersProofs.Segments.{Parts, IsSegment, segments}

-- an order that is given
pub told_line : (event : Event OrderLine) → is_told event ≡ true → (line : OrderLine) × (event ≡ Told line)
told_line (Told line) told = (line, refl)
told_line _ told = absurd (true≢false (sym told))

-- a row that gives no order leaves the results reported
reported_on : (births : List (Seat Player)) (rows : Rows) (row : Row Mail OrderLine) → is_told row.event ≡ false → AreReported births rows → AreReported births (rows ++ row ∷ [])
reported_on births rows row untold all line given = elim (given_rows rows row line given) [
  | inl before ↦ reported_later births rows (row ∷ []) line.number (all line before)
  | inr e ↦ absurd (true≢false (sym (ap is_told e) ∙ untold))
]

-- the laws that stand below segments
pub record SegmentLaws : Type 0 where
  pub begin_law : JournalsBeginResting
  pub ask_law : RequestsBeginAsked
  pub stay_law : AskedRowsGoOn
  pub find_law : AskedRowsFindCalm
  pub groups_law : RequestsKeepGroups
  pub again_law : RequestsRestAgain
  pub silent_law : RequestsSendNoErrands
  pub actors_law : NodeErrandsReachPlayers
  pub near_law : ClientsAreNear
  pub names_law : NamesStayFew
  pub told_law : OrdersBeginOrdered
  pub keep_law : DeliveriesKeepOrdered
  pub over_law : OrdersLeaveResting

-- a calm journal with few orders, by how long ways may be, and how often clients may be sent on
pub record IsFramed (words : ℕ → ℕ → ℕ × ℕ) (scenario : Scenario) (first : Base) (others : List Base) (far sends : ℕ) (journal : Rows) : Type 0 where
  pub groups : scenario.groups ≡ first ∷ others
  pub calm : IsCalmJournal words scenario journal
  pub few : (rows : Rows) → IsPrefixOf journal rows → (orders rows + 1 ≤ far) × (length scenario.groups + orders rows ≤ sends)

module _ (laws : SegmentLaws) (words : ℕ → ℕ → ℕ × ℕ) (scenario : Scenario) (first : Base) (others : List Base) (far sends : ℕ) (journal : Rows) (frame : IsFramed words scenario first others far sends journal) where
  abbrev all : List (Seat Player)
  all = births as_nodes scenario

  abbrev s : System Player Mail OrderLine
  s = players words (births as_nodes scenario)

  -- a quiet prefix that rests, in which errands went to nodes, no more groups were led than there were groups and orders, and the result of each order was reported
  pub record RestsSo (quiet : Rows) : Type 0 where
    pub rests : RestsAt words scenario first journal quiet
    pub reported : AreReported (births as_nodes scenario) quiet
    pub home : Each (GoesToNode scenario) (mails quiet)
    pub named : HasFewNames scenario quiet

  -- clients asked alone since
  pub record AsksSo (quiet rows : Rows) : Type 0 where
    pub asked : IsAskedSince words scenario first far sends journal quiet rows
    pub reported : AreReported (births as_nodes scenario) (quiet ++ rows)
    pub home : Each (GoesToNode scenario) (mails (quiet ++ rows))
    pub named : names_at all (quiet ++ rows) ≡ names_at all quiet

  -- an order is under way since
  abbrev pub OrdersSo : Rows → Rows → Type 0
  OrdersSo quiet rows = IsOrderedSince words scenario first journal quiet (quiet ++ rows)

  prefix_before : (rows : Rows) (row : Row Mail OrderLine) → IsPrefixOf journal (rows ++ row ∷ []) → IsPrefixOf journal rows
  prefix_before rows row prefix = record { more = row ∷ prefix.more; fact = prefix.fact ∙ append_assoc rows (row ∷ []) prefix.more }

  pub asks_none : (quiet : Rows) → IsPrefixOf journal quiet → RestsSo quiet → AsksSo quiet []
  asks_none quiet prefix r = record {
    asked = (laws.ask_law words scenario first others far sends journal quiet frame.calm frame.groups r.rests (frame.few quiet prefix).0).0;
    reported = subst (AreReported (births as_nodes scenario)) (sym (append-nil quiet)) r.reported;
    home = subst (λ (l : Rows). Each (GoesToNode scenario) (mails l)) (sym (append-nil quiet)) r.home;
    named = ap (names_at all) (append-nil quiet);
  }

  -- requests go on by a row
  asks_row : (quiet rows : Rows) (row : Row Mail OrderLine) → IsPrefixOf journal (quiet ++ (rows ++ row ∷ [])) → RestsSo quiet → AsksSo quiet rows → is_told row.event ≡ false → AsksSo quiet (rows ++ row ∷ [])
  asks_row quiet rows row prefix r a untold =
      let shift = append_assoc quiet rows (row ∷ []) in
      let later = laws.stay_law words scenario first others far sends journal quiet rows row frame.calm frame.groups a.asked prefix untold in
      record {
        asked = later;
        reported = subst (AreReported (births as_nodes scenario)) shift (reported_on (births as_nodes scenario) (quiet ++ rows) row untold a.reported);
        home = laws.silent_law words scenario first others far sends journal quiet rows row frame.calm frame.groups r.rests a.asked.known a.asked.requested later.requested a.home;
        named = ap (names_at all) (sym shift)
            ∙ laws.names_law.asked words scenario first journal quiet (quiet ++ rows) row frame.calm r.rests
            (λ name there. (laws.groups_law words scenario first others far sends journal quiet (rows ++ row ∷ []) frame.calm frame.groups later name).0 (subst (λ l. IsThere all l name) shift there)) a.named;
      }

  -- a row of requests finds what keeps the journal calm
  pub asks_find : (quiet rows : Rows) → quiet_prefix s (quiet ++ rows) ≡ quiet → RestsSo quiet → AsksSo quiet rows → (seat : Seat Player) (event : Event OrderLine) → IsSeat all seat → IsInOrder s (quiet ++ rows) seat.who event
      → FindsCalm (chart_at far sends s (quiet ++ rows)) all (quiet ++ rows) seat event
  asks_find quiet rows last r a seat event seated order =
      let known = r.named in
      let many = (frame.few quiet r.rests.prefix).1 in
      let near = laws.near_law words scenario first others far sends journal quiet rows frame.calm frame.groups r.rests a.asked.known a.asked.requested last (omega (arith, known, many)) in
      laws.find_law words scenario first others far sends journal quiet rows seat event frame.calm frame.groups a.asked seated order last near

  abbrev event_of : Row Mail OrderLine → Event OrderLine
  event_of row = row.event

  -- what the row of an order gives
  module _ (quiet : Rows) (row : Row Mail OrderLine) (prefix : IsPrefixOf journal (quiet ++ row ∷ [])) (timely : AreInTime s (quiet ++ row ∷ [])) (r : RestsSo quiet) (seat : Seat Player) (line : OrderLine) (fact : row ≡ row_of player_table seat quiet (Told line)) (seated : IsSeat all seat) where
    abbrev told_all : IsOrderedSince words scenario first journal quiet (with_event quiet seat (Told line)) × StageAfter all quiet seat (Told line) Still × ((far_ sent : ℕ) → FindsCalm (chart_at far_ sent s quiet) all quiet seat (Told line))
    told_all =
        laws.told_law words scenario first journal quiet seat line frame.calm r.rests r.home seated (subst (λ x. IsPrefixOf journal (quiet ++ x ∷ [])) fact prefix) (subst (λ x. AreInTime s (quiet ++ x ∷ [])) fact timely)

    pub row_of_entry : OrdersSo quiet (row ∷ [])
    row_of_entry = subst (λ x. OrdersSo quiet (x ∷ [])) (sym fact) told_all.0

    pub told_finds : FindsCalm (chart_at far sends s quiet) all quiet seat (Told line)
    told_finds = told_all.2 far sends

    pub told_stage : StageAfter all quiet seat (Told line) Still
    told_stage = told_all.1

  -- what a delivery does while an order is under way
  module _ (quiet rows : Rows) (row : Row Mail OrderLine) (prefix : IsPrefixOf journal (rows ++ row ∷ [])) (timely : AreInTime s (rows ++ row ∷ [])) (o : IsOrderedSince words scenario first journal quiet rows) (seat : Seat Player) (number : ℕ) (fact : row ≡ row_of player_table seat rows (Deliver number)) (seated : IsSeat all seat) where
    goes_by : ContinuesBy words scenario journal rows seat number
    goes_by = record { prefix = subst (λ x. IsPrefixOf journal (rows ++ x ∷ [])) fact prefix; seated = seated; timely = subst (λ x. AreInTime s (rows ++ x ∷ [])) fact timely }

    abbrev delivered_all : IsOrderedSince words scenario first journal quiet (with_event rows seat (Deliver number)) × StageAfter all rows seat (Deliver number) o.under.stage
        × ((far_ sent : ℕ) → quiet_prefix s rows ≡ quiet → DoHintsRise (replicas_after scenario quiet) (chart_at far_ sent s rows).ways → FindsCalm (chart_at far_ sent s rows) all rows seat (Deliver number))
    delivered_all = laws.keep_law words scenario first journal quiet rows seat number frame.calm o goes_by

    pub delivered_row : IsOrderedSince words scenario first journal quiet (rows ++ row ∷ [])
    delivered_row = subst (λ x. IsOrderedSince words scenario first journal quiet (rows ++ x ∷ [])) (sym fact) delivered_all.0

    pub delivered_stage : StageAfter all rows seat (Deliver number) o.under.stage
    delivered_stage = delivered_all.1

    pub delivered_finds : quiet_prefix s rows ≡ quiet → DoHintsRise (replicas_after scenario quiet) (chart_at far sends s rows).ways → FindsCalm (chart_at far sends s rows) all rows seat (Deliver number)
    delivered_finds = delivered_all.2 far sends

  pub parts : Parts s (IsPrefixOf journal) RestsSo AsksSo OrdersSo
  parts = record {
    prefixes = prefix_before;
    begins = record { rests = laws.begin_law words scenario first others journal frame.groups frame.calm; reported = λ line given. absurd given.among; home = tt; named = laws.names_law.born words scenario journal frame.calm };
    goes = λ quiet row prefix timely r untold. asks_row quiet [] row prefix r (asks_none quiet (prefix_before quiet row prefix) r) untold;
    asks = λ quiet rows row prefix timely r a untold. asks_row quiet rows row prefix r a untold;
    told = λ quiet row prefix timely r told. (
        let c = (last_in_time s quiet row timely).0 in
        let t = told_line c.event (ap is_told (sym (ap event_of c.row_is)) ∙ told) in
        row_of_entry quiet row prefix timely r c.seat t.0 (c.row_is ∙ ap (row_of player_table c.seat quiet) t.1) c.born);
    orders = λ quiet rows row number prefix timely r o fact. (
        let shift = append_assoc quiet rows (row ∷ []) in
        let timely_row = subst (AreInTime s) (sym shift) timely in
        let c = (last_in_time s (quiet ++ rows) row timely_row).0 in
        let event : c.event ≡ Deliver number = sym (ap event_of c.row_is) ∙ fact in
        subst (λ l. IsOrderedSince words scenario first journal quiet l) shift
        (delivered_row quiet (quiet ++ rows) row (subst (IsPrefixOf journal) (sym shift) prefix) timely_row o c.seat number (c.row_is ∙ ap (row_of player_table c.seat (quiet ++ rows)) event) c.born));
    answered = λ quiet rows prefix timely r a still. record {
      rests = laws.again_law words scenario first others far sends journal quiet rows frame.calm frame.groups a.asked still (laws.actors_law words scenario (mails (quiet ++ rows)) a.home);
      reported = a.reported;
      home = a.home;
      named = (let same = ap length a.named in let low = r.named in let more = orders_more quiet rows in omega (arith, same, low, more));
    };
    over = λ quiet rows prefix timely r o still. record {
      rests = laws.over_law words scenario first others journal quiet (quiet ++ rows) frame.groups frame.calm o still;
      reported = λ line given. elim (o.only line given) [
        | inl before ↦ reported_later (births as_nodes scenario) quiet rows line.number (r.reported line before)
        | inr same ↦ elim o.result [
          | inl told ↦ subst (λ (x : OrderLine). IsReported (births as_nodes scenario) (quiet ++ rows) x.number) (sym same) told
          | inr held ↦ absurd (none_holds Still (scene_at all (quiet ++ rows)) (λ none. none) (laws.over_law words scenario first others journal quiet (quiet ++ rows) frame.groups frame.calm o still).still held)
        ]
      ];
      home = o.home;
      named = laws.names_law.over scenario quiet (quiet ++ rows) o.task o.names o.one_order r.named;
    };
  }
    where
      orders_more : (quiet rows : Rows) → orders quiet ≤ orders (quiet ++ rows)
      orders_more quiet [] = (let same = ap orders (append-nil quiet) in omega (arith, same))
      orders_more quiet (row ∷ rows) =
          let one = count_push (λ (r : Row Mail OrderLine). is_told r.event) quiet row (is_told row.event) refl in
          let more = orders_more (quiet ++ row ∷ []) rows in
          let same = ap orders (append_assoc quiet (row ∷ []) rows) in
          omega (arith, one, more, same)

  -- each prefix falls into such segments
  pub segment_at : (rows : Rows) → IsPrefixOf journal rows → AreInTime s rows → IsSegment s RestsSo AsksSo OrdersSo rows
  segment_at rows prefix timely = segments s RestsSo AsksSo OrdersSo (IsPrefixOf journal) parts rows prefix timely
