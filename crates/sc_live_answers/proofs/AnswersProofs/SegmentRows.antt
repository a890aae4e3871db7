-- Each row of a calm journal finds what keeps it calm, by the chart of the rows before it, and the chart after it follows that.
use Rattle.std.proofs.Common.{◌≡◌, ℕ, zero, suc, eqb, Bool, true, false, true≢false, cond, List, [], ◌∷◌, ◌++◌, replicate, Option, ◌⊎◌, inl, inr, refl, sym, ◌∙◌, ap, subst, append_assoc, append-nil}
use Rattle.std.proofs.lemmas.Bool.{cases_Bool, eq-eqb}
use Rattle.sc_base.specs.Definitions.{Among, Each}
use Rattle.sc_node_table.specs.Values.{Draw, Base, OrderLine, Mail, TxElsewhere, Node, Client, Seat, Event, Deliver, Tick, Go, Row}
use Rattle.sc_actor.specs.declared.rows.Event.TheVariants.{Told}
use Rattle.sc_actor.specs.Definitions.{mails, copies, value, System, row_of, is_quiet}
use Rattle.sc_live_orderly.specs.OrderlyDefinitions.{IsCalmEvent, IsCalmRow, IsInOrder, is_told, is_born, mail_with, rest, under_way, AreInTime, ComesInTime}
use Rattle.sc_live_orderly.proofs.OrderlyLemmas.{in_time_before, last_in_time}
use Rattle.sc_words.proofs.PaxosProofs.PaxosLemmas.{Each-among, Each-from, Each-weaker}
use Rattle.sc_scenario.specs.scenario.Definitions.{ValidScenariosAreBounded}
use Rattle.sc_scenario.specs.declared.scenario.scenarios.Scenario.{Scenario}
use Rattle.sc_meaning.specs.sound.SoundDefinitions.{Player, player_table, births, as_nodes}
use Rattle.sc_live_steps.specs.calm.CalmDefinitions.{Chart, players, MayFollow, FindsCalm, KeepsCalm, IsResting, RestsCalm, Rows}
use Rattle.sc_live_journals.specs.rows.RowDefinitions.{IsSeat}
use Rattle.sc_live_journals.specs.mail.MailDefinitions.{ReplicasLast}
use Rattle.sc_live_steps.specs.orders.OrderDefinitions.{Stage, Still, IsAt}
use Rattle.sc_live_steps.proofs.OrderStepsProofs.OrderStepLemmas.{among-left, among-right}
use Rattle.sc_live_plain.specs.PlainDefinitions.{Setting, IsAsideBody, IsCalmMail, Requests, IsPlainBody, DoHintsRise, replicas_after}
use Rattle.sc_live_journals.specs.scenes.SceneDefinitions.{StageAfter, scene_at}
use Rattle.sc_live_journals.proofs.ScenesProofs.SceneLemmas.{calm_is}
use Rattle.sc_live_journals.specs.charts.ChartDefinitions.{chart_at, WaitsForNone, AsksSame, ChartsFollow, QuietChartsRest, quiet_prefix}
use Rattle.sc_live_answers.specs.AnswerDefinitions.{OrderChartsFollow, WellLedLeadAlone, IsPrefixOf, AreSent, AllLeadAlone, ChartHintsRise, PrefixesAreFound, IsOrderedSince, RestsAt, frames_after, QuietJournalsHaveFrames, LawfulReplicasAreNamedOnce, ViewsAgree}
use Rattle.sc_live_answers.proofs.AnswersProofs.RestingCharts.{all_rest, rests_by_chart}
use Rattle.sc_live_answers.proofs.LinesProofs.LoneLeaders.{all_lead}
use Rattle.sc_live_answers.proofs.AnswersProofs.SegmentParts as parts_of
use Rattle.sc_live_answers.proofs.AnswersProofs.SegmentParts.{IsFramed, SegmentLaws, told_line}
use Rattle.sc_live_answers.proofs.AnswersProofs.Segments.{IsSegment, IsOrdered, delivered, prefix_whole}
use Rattle.sc_live_answers.proofs.AnswersProofs.SettingCharts.{way_low}
use Rattle.sc_live_answers.proofs.AnswersProofs.ChartSequence.{split_among}

-- a player that rests waits for nothing
waits_none : (player : Player) → IsResting player → WaitsForNone player
waits_none (Node node) fact = tt
waits_none (Client client) fact = fact

-- mail that is under way is what its receiver has not taken
pub with_other : (test other : Mail → Bool) (sent : List Mail) (counts : List ℕ) (mail : Mail) → Among mail (mail_with test sent counts) → (test mail ≡ true) × (other mail ≡ true → Among mail (mail_with other sent counts))
with_other test other [] counts mail a = absurd a
with_other test other (m ∷ sent) [] mail a = absurd a
with_other test other (m ∷ sent) (c ∷ counts) mail a = elim (split_among (cond (test m) (replicate c m) []) (mail_with test sent counts) mail a) [
  | inl here ↦ (let h = passes (test m) refl here in (ap test h.0 ∙ h.2, λ same. among-left mail (cond (other m) (replicate c m) []) (mail_with other sent counts) (kept (other m) (ap other (sym h.0) ∙ same) h.1)))
  | inr more ↦ (let r = with_other test other sent counts mail more in (r.0, λ same. among-right mail (cond (other m) (replicate c m) []) (mail_with other sent counts) (r.1 same)))
]
  where
    same_one : (n : ℕ) → Among mail (replicate n m) → mail ≡ m
    same_one zero x = absurd x
    same_one (suc n) (inl e) = sym e
    same_one (suc n) (inr x) = same_one n x

    passes : (b : Bool) → test m ≡ b → Among mail (cond b (replicate c m) []) → (mail ≡ m) × Among mail (replicate c m) × (test m ≡ true)
    passes true e x = (same_one c x, x, e)
    passes false e x = absurd x

    kept : (b : Bool) → b ≡ true → Among mail (replicate c m) → Among mail (cond b (replicate c m) [])
    kept true e x = x
    kept false e x = absurd (true≢false (sym e))

-- no request is to be asked elsewhere
none_elsewhere : (begun : Requests) (set : Setting) (mail : Mail) → IsCalmMail begun set mail → (tx coord : Draw) (hint : Option ℕ) → mail.body ≡ TxElsewhere tx coord hint → ⊥
none_elsewhere begun set mail (inl plain) tx coord hint e = subst (IsPlainBody begun plain.frame mail.from mail.to) e plain.says
none_elsewhere begun set mail (inr aside) tx coord hint e = subst (IsAsideBody begun set mail.from mail.to) e aside

-- the laws by which rows are judged
pub record RowLaws : Type 0 where
  pub all_bounded : ValidScenariosAreBounded
  pub found_law : PrefixesAreFound
  pub alone_law : WellLedLeadAlone
  pub once_law : LawfulReplicasAreNamedOnce
  pub agree_law : ViewsAgree
  pub last_law : ReplicasLast
  pub rest_law : QuietChartsRest
  pub frames_law : QuietJournalsHaveFrames
  pub rise_law : ChartHintsRise
  pub order_law : OrderChartsFollow
  pub chart_law : ChartsFollow

module _ (segment : SegmentLaws) (laws : RowLaws) (words : ℕ → ℕ → ℕ × ℕ) (scenario : Scenario) (first : Base) (others : List Base) (far sends : ℕ) (journal : Rows) (frame : IsFramed words scenario first others far sends journal) where
  abbrev all : List (Seat Player)
  all = births as_nodes scenario

  abbrev s : System Player Mail OrderLine
  s = players words (births as_nodes scenario)

  abbrev chart : Rows → Chart
  chart rows = chart_at far sends s rows

  abbrev Rests : Rows → Type 0
  Rests = parts_of.RestsSo segment words scenario first others far sends journal frame

  abbrev Asks : Rows → Rows → Type 0
  Asks = parts_of.AsksSo segment words scenario first others far sends journal frame

  abbrev Orders : Rows → Rows → Type 0
  Orders = parts_of.OrdersSo segment words scenario first others far sends journal frame

  segment_of : (rows : Rows) → IsPrefixOf journal rows → AreInTime s rows → IsSegment s Rests Asks Orders rows
  segment_of = parts_of.segment_at segment words scenario first others far sends journal frame

  -- a quiet prefix rests
  pub quiet_rests : (rows : Rows) → IsPrefixOf journal rows → AreInTime s rows → is_quiet s rows ≡ true → Rests rows
  quiet_rests rows prefix timely quiet = subst Rests (prefix_whole s rows quiet) (segment_of rows prefix timely).rests

  pub rests_calm : (rows : Rows) → IsPrefixOf journal rows → AreInTime s rows → is_quiet s rows ≡ true → RestsCalm all (chart []) (chart rows) rows
  rests_calm rows prefix timely quiet =
      rests_by_chart laws.all_bounded laws.found_law laws.once_law laws.agree_law laws.last_law laws.rest_law words scenario first others journal rows frame.groups frame.calm timely (quiet_rests rows prefix timely quiet).rests far sends

  none_waits : (rows : Rows) → IsPrefixOf journal rows → AreInTime s rows → is_quiet s rows ≡ true → Each (λ other. WaitsForNone (value player_table other rows)) all
  none_waits rows prefix timely quiet =
      Each-weaker (λ other. IsResting (value player_table other rows)) (λ other. WaitsForNone (value player_table other rows)) (λ other fact. waits_none (value player_table other rows) fact) all
      (all_rest laws.all_bounded laws.found_law laws.once_law laws.agree_law laws.last_law laws.rest_law words scenario first others journal rows frame.groups frame.calm timely (quiet_rests rows prefix timely quiet).rests)

  -- all groups of a prefix are well led
  sent_at : (rows : Rows) → IsPrefixOf journal rows → AreInTime s rows → AreSent words scenario journal rows
  sent_at rows prefix timely = by (segment_of rows prefix timely)
    where
      by : IsSegment s Rests Asks Orders rows → AreSent words scenario journal rows
      by seg = elim seg.fact [
        | inl none ↦ subst (AreSent words scenario journal) (sym (seg.rows_are ∙ (ap (λ b. quiet_prefix s rows ++ b) none ∙ append-nil (quiet_prefix s rows)))) seg.rests.rests.sent
        | inr behind ↦ elim behind [
          | inl asks ↦ subst (AreSent words scenario journal) (sym seg.rows_are) asks.asked.sent
          | inr order ↦ subst (AreSent words scenario journal) (sym seg.rows_are) order.holds.under.sent
        ]
      ]

  lone_at : (rows : Rows) → IsPrefixOf journal rows → AreInTime s rows → AllLeadAlone all rows
  lone_at rows prefix timely = all_lead laws.all_bounded laws.found_law laws.alone_law laws.once_law laws.agree_law words scenario journal rows frame.calm prefix (sent_at rows prefix timely)

  -- by the chart of rows behind a quiet prefix hints rise there
  hints_rise : (quiet later : Rows) → RestsAt words scenario first journal quiet → quiet_prefix s later ≡ quiet → DoHintsRise (replicas_after scenario quiet) (chart later).ways
  hints_rise quiet later rests last =
      let found = laws.found_law words scenario journal quiet frame.calm rests.prefix in
      (laws.rise_law words scenario first others journal quiet later far sends (frames_after scenario quiet) frame.calm.valid frame.groups found.lawful rests found.homes last (frame.few quiet rests.prefix).0
      (laws.frames_law words scenario first quiet frame.calm.valid found.lawful rests.fact found.homes)).0

  -- ---- a row

  module _ (rows : Rows) (row : Row Mail OrderLine) (prefix : IsPrefixOf journal (rows ++ row ∷ [])) (timely : AreInTime s (rows ++ row ∷ [])) where
    before : AreInTime s rows
    before = in_time_before s rows row timely

    here : IsPrefixOf journal rows
    here = record { more = row ∷ prefix.more; fact = prefix.fact ∙ append_assoc rows (row ∷ []) prefix.more }

    seg : IsSegment s Rests Asks Orders rows
    seg = segment_of rows here before

    abbrev quiet : Rows
    quiet = quiet_prefix s rows

    comes : IsCalmRow s rows row × ComesInTime s rows row.event
    comes = last_in_time s rows row timely

    abbrev event_of : Row Mail OrderLine → Event OrderLine
    event_of r = r.event

    -- requests behind the prefix, or nothing
    record HasAsked : Type 0 where
      behind : Rows
      rows_are : rows ≡ quiet_prefix s rows ++ behind
      asks : Asks (quiet_prefix s rows) behind

    -- an order since the prefix
    record HasOrdered : Type 0 where
      behind : Rows
      rows_are : rows ≡ quiet_prefix s rows ++ behind
      order : IsOrdered s Rests Asks Orders (quiet_prefix s rows) behind

    cases : HasAsked ⊎ HasOrdered
    cases = elim seg.fact [
      | inl none ↦ inl (record { behind = []; rows_are = seg.rows_are ∙ ap (λ b. quiet_prefix s rows ++ b) none; asks = parts_of.asks_none segment words scenario first others far sends journal frame (quiet_prefix s rows) seg.rests.rests.prefix seg.rests })
      | inr some ↦ elim some [ inl asks ↦ inl (record { behind = seg.behind; rows_are = seg.rows_are; asks = asks }) | inr order ↦ inr (record { behind = seg.behind; rows_are = seg.rows_are; order = order }) ]
    ]

    order_at : (h : HasOrdered) → IsOrderedSince words scenario first journal (quiet_prefix s rows) rows
    order_at h = subst (IsOrderedSince words scenario first journal (quiet_prefix s rows)) (sym h.rows_are) h.order.holds

    -- an order goes on by deliveries alone
    only_delivers : (h : HasOrdered) → is_told row.event ≡ false → (number : ℕ) × (row.event ≡ Deliver number)
    only_delivers h untold =
        delivered s Rests Asks Orders (IsPrefixOf journal) (parts_of.parts segment words scenario first others far sends journal frame) rows row prefix timely (quiet_prefix s rows) h.behind h.rows_are refl h.order untold

    -- ---- what it finds

    asked_finds : (h : HasAsked) (seat : Seat Player) (event : Event OrderLine) → IsSeat all seat → IsInOrder s rows seat.who event → FindsCalm (chart rows) all rows seat event
    asked_finds h seat event seated order =
        subst (λ l. quiet_prefix s l ≡ quiet_prefix s rows → IsInOrder s l seat.who event → FindsCalm (chart l) all l seat event) (sym h.rows_are)
        (λ last o. parts_of.asks_find segment words scenario first others far sends journal frame (quiet_prefix s rows) h.behind last seg.rests h.asks seat event seated o) refl order

    calm_event : (seat : Seat Player) (event : Event OrderLine) → row ≡ row_of player_table seat rows event → IsCalmEvent s rows seat.who event
    calm_event seat event fact = calm_is words all rows seat event (subst (IsCalmRow s rows) fact comes.0)

    order_finds : (h : HasOrdered) (seat : Seat Player) (number : ℕ) → IsSeat all seat → row ≡ row_of player_table seat rows (Deliver number) → FindsCalm (chart rows) all rows seat (Deliver number)
    order_finds h seat number seated fact =
        parts_of.delivered_finds segment words scenario first others far sends journal frame (quiet_prefix s rows) rows row prefix timely (order_at h) seat number fact seated refl (hints_rise (quiet_prefix s rows) rows seg.rests.rests refl)

    told_rests : (line : OrderLine) → row.event ≡ Told line → Rests rows
    told_rests line fact = quiet_rests rows here before (subst (ComesInTime s rows) fact comes.1)

    finds : (seat : Seat Player) (event : Event OrderLine) → IsSeat all seat → row ≡ row_of player_table seat rows event → FindsCalm (chart rows) all rows seat event
    finds seat (Told line) seated fact = parts_of.told_finds segment words scenario first others far sends journal frame rows row prefix timely (told_rests line (ap event_of fact)) seat line fact seated
    finds seat (Deliver number) seated fact = elim cases [
      | inl asked ↦ asked_finds asked seat (Deliver number) seated (calm_event seat (Deliver number) fact)
      | inr order ↦ order_finds order seat number seated fact
    ]
    finds seat Go seated fact = elim cases [
      | inl asked ↦ asked_finds asked seat Go seated (calm_event seat Go fact)
      | inr order ↦ (let d = only_delivers order (ap is_told (ap event_of fact)) in let bad : Go ≡ Deliver d.0 = sym (ap event_of fact) ∙ d.1 in cc)
    ]
    finds seat Tick seated fact = tt
    finds seat _ seated fact = tt

    -- ---- the chart after it

    asked_same : (h : HasAsked) → is_told row.event ≡ false → (mail : Mail) → Among mail (under_way s (rows ++ row ∷ [])) → AsksSame all rows (rows ++ row ∷ []) mail.body
    asked_same h untold mail a tx coord hint body =
        let shift = append_assoc (quiet_prefix s rows) h.behind (row ∷ []) in
        let whole : rows ++ row ∷ [] ≡ quiet_prefix s rows ++ (h.behind ++ row ∷ []) = ap (λ l. l ++ row ∷ []) h.rows_are ∙ shift in
        let later = (parts_of.parts segment words scenario first others far sends journal frame).asks (quiet_prefix s rows) h.behind row (subst (IsPrefixOf journal) whole prefix) (subst (AreInTime s) whole timely) seg.rests h.asks untold in
        let w = with_other (λ m. is_born s (s.receiver m)) (λ m. eqb (s.receiver m) mail.to) (mails (rows ++ row ∷ [])) (copies (rows ++ row ∷ [])) mail a in
        let left = later.asked.requested.asking.left mail.to w.0 in
        let there = subst (λ l. Among mail (rest s l mail.to)) whole (w.1 (eq-eqb mail.to mail.to refl)) in
        absurd (none_elsewhere _ _ mail (Each-among _ (rest s (quiet_prefix s rows ++ (h.behind ++ row ∷ [])) mail.to) mail left there) tx coord hint body)

    waits_after : is_quiet s (rows ++ row ∷ []) ≡ true → Each (λ other. WaitsForNone (value player_table other (rows ++ row ∷ []))) all
    waits_after still = none_waits (rows ++ row ∷ []) prefix timely still

    asked_follows : (h : HasAsked) → is_told row.event ≡ false → MayFollow s (rows ++ row ∷ []) (chart rows) (chart (rows ++ row ∷ []))
    asked_follows h untold =
        laws.chart_law words all far sends rows row timely (Each-from (λ (mail : Mail). AsksSame all rows (rows ++ row ∷ []) mail.body) (under_way s (rows ++ row ∷ [])) (asked_same h untold)) waits_after

    -- by a row of an order
    staged : (seat : Seat Player) (event : Event OrderLine) (stage : Stage) → row ≡ row_of player_table seat rows event → IsAt stage (scene_at all rows) → StageAfter all rows seat event stage → MayFollow s (rows ++ row ∷ []) (chart rows) (chart (rows ++ row ∷ []))
    staged seat event stage fact stands after =
        subst (λ x. MayFollow s (rows ++ x ∷ []) (chart rows) (chart (rows ++ x ∷ []))) (sym fact)
        (laws.order_law words scenario rows far sends seat event stage (subst (λ x. AreInTime s (rows ++ x ∷ [])) fact timely) stands after (lone_at rows here before) (subst (λ x. AllLeadAlone all (rows ++ x ∷ [])) fact (lone_at (rows ++ row ∷ []) prefix timely))
        (subst (λ x. is_quiet s (rows ++ x ∷ []) ≡ true → Each (λ other. WaitsForNone (value player_table other (rows ++ x ∷ []))) all) fact waits_after))

    follows_by : (event : Event OrderLine) → row.event ≡ event → MayFollow s (rows ++ row ∷ []) (chart rows) (chart (rows ++ row ∷ []))
    follows_by event e = elim (cases_Bool (is_told row.event)) [
      | inl told ↦ (
          let t = told_line row.event told in
          let fact : row ≡ row_of player_table comes.0.seat rows (Told t.0) = comes.0.row_is ∙ ap (row_of player_table comes.0.seat rows) (sym (ap event_of comes.0.row_is) ∙ t.1) in
          let r = told_rests t.0 t.1 in
          staged comes.0.seat (Told t.0) Still fact r.rests.still (parts_of.told_stage segment words scenario first others far sends journal frame rows row prefix timely r comes.0.seat t.0 fact comes.0.born))
      | inr untold ↦ elim cases [
        | inl asked ↦ asked_follows asked untold
        | inr order ↦ (
            let d = only_delivers order untold in
            let fact : row ≡ row_of player_table comes.0.seat rows (Deliver d.0) = comes.0.row_is ∙ ap (row_of player_table comes.0.seat rows) (sym (ap event_of comes.0.row_is) ∙ d.1) in
            let o = order_at order in
            staged comes.0.seat (Deliver d.0) o.under.stage fact o.under.untouched.stands (parts_of.delivered_stage segment words scenario first others far sends journal frame (quiet_prefix s rows) rows row prefix timely o comes.0.seat d.0 fact comes.0.born))
      ]
    ]

    pub keeps : KeepsCalm s (chart_at far sends s) rows row
    keeps = record {
      bounded = λ group node. way_low far _ _;
      finds = λ seat event seated fact. finds seat event seated fact;
      follows = follows_by row.event refl;
    }
