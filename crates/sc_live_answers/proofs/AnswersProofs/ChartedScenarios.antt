-- Calm scenarios at their budget have charts, so no line of theirs is cut off, and their quiet journals rest.
use Rattle.std.proofs.Common.{◌≡◌, ℕ, ◌+◌, ◌*◌, ◌^◌, ◌≤◌, eqb, Bool, true, false, true≢false, cond, List, [], ◌∷◌, ◌++◌, length, find, Some, None, ◌||◌, inl, inr, refl, sym, ◌∙◌, ap, subst, arith, append-nil, length-append}
use Rattle.std.specs.List.{list_any}
use Rattle.std.proofs.Math.Nat.{mul-le-mul}
use Rattle.std.proofs.lemmas.Bool.{cases_lt}
use Rattle.sc_base.specs.Definitions.{Each}
use Rattle.sc_node_table.specs.Values.{Base, OrderLine, Mail, MailBody, Told, Node, Client, Seat, Row}
use Rattle.sc_actor.specs.Definitions.{mails, copies, System, numbers_of, is_delivery, is_quiet, unsettled}
use Rattle.sc_live_orderly.specs.OrderlyDefinitions.{deliveries, orders, is_born, HasRoom, under_way, AreInTime, AreSpaced, Nothing, IsMeasure, orders_given}
use Rattle.sc_live_orderly.proofs.GivenOrders.{few_told}
use Rattle.sc_live_orderly.proofs.OrderlyLemmas.{count_push, rows_in_time, deliveries_and_orders, settled_in_time, uncut_before}
use Rattle.sc_words.proofs.PaxosProofs.PaxosLemmas.{Each-among, Each-from}
use Rattle.sc_actor.proofs.Lemmas.{journal_counts}
use Rattle.sc_mail.specs.Weight.{body_weight}
use Rattle.sc_scenario.specs.scenario.Definitions.{IsValid, ValidScenariosAreBounded}
use Rattle.sc_scenario.specs.declared.scenario.scenarios.Scenario.{Scenario}
use Rattle.sc_meaning.specs.sound.SoundDefinitions.{Player, births, schedule, as_nodes, Lawful, system_of}
use Rattle.sc_law_groups.proofs.WholeProofs.WholeLemmas.{all_apart}
use Rattle.sc_law_groups.specs.whole.WholeDefinitions.{ValidJournalsAreSound}
use Rattle.sc_live_steps.specs.calm.CalmDefinitions.{Chart, players, run_owes, KeptCalmIsMeasured, IsDelivered, RestingOwesLittle, births_owe, Rows}
use Rattle.sc_live_journals.specs.mail.MailDefinitions.{IsPosted, IsPlayers, IsNodesBody, IsClientsBody, MailIsPosted, DesksAreNotBorn}
use Rattle.sc_live_plain.specs.PlainDefinitions.{IsQuietJournal, budget_of, orders_of, calm_budget_of, HasCalmLines, IsCalm, IsCalmAtBudget, RoomyScenariosAreCalm, CalmLinesAreSpaced, PlainLinesEndQuiet, PlainJournalsAreLight, PlainRequestsAreAnswered}
use Rattle.sc_live_plain.proofs.PlainLemmas.{IsStage, stage, roomy_scenarios_are_calm, schedule_calm}
use Rattle.sc_live_answers.specs.AnswerDefinitions.{charts_of, CalmJournalsAreCharted, CalmJournalsGoOn, CalmLinesSettle, CalmJournalsRest, SettledJournalsRest, TimelyJournalsRest, SettledRequestsAreAnswered, CalmRequestsAreAnswered, IsCalmJournal, IsPrefixOf, calm_deliveries_of, AreCharted, CalmLinesEndQuiet, CalmJournalsAreShort, AreReported}
use Rattle.sc_live_answers.specs.GivenOrders.{OrdersMayBeGiven}
use Rattle.sc_live_answers.proofs.AnswersProofs.AnsweredRequests.{answered_calmly}
use Rattle.sc_live_answers.proofs.AnswersProofs.BudgetAtBirth.{births_covered}
use Rattle.sc_live_answers.proofs.AnswersProofs.LineEnds.{orders_same, rooms_for, within_deliveries, plain_by, plain_budget}
use Rattle.sc_live_answers.proofs.AnswersProofs.SegmentParts.{IsFramed, SegmentLaws}
use Rattle.sc_live_answers.proofs.AnswersProofs.SegmentRows.{RowLaws, with_other}
use Rattle.sc_live_answers.proofs.AnswersProofs.SegmentRows as rows_of
use Rattle.sc_live_answers.proofs.AnswersProofs.SentMail.{sent_with}

-- ---- no mail is under way for the desk

-- what is sent to somebody else than the desk
not_desk : (who : ℕ) (player : Player) (mail : Mail) → IsPlayers who player mail → (mail.to ≡ 0 → ⊥) → IsDelivered mail.body
not_desk who (Node node) mail fact other = by mail.body fact
  where
    by : (body : MailBody) → IsNodesBody who mail.to body → IsDelivered body
    by (Told order result) k = absurd (other k)
    by _ k = tt
not_desk who (Client client) mail fact other = by mail.body fact.1
  where
    by : (body : MailBody) → IsClientsBody client.me body → IsDelivered body
    by (Told order result) k = absurd k
    by _ k = tt

-- no seat has a number that is not found
unseated : (seats : List (Seat Player)) (who : ℕ) → find (λ (other : Seat Player). eqb other.who who) seats ≡ None → list_any (λ actor. eqb actor who) (numbers_of seats) ≡ false
unseated [] who none = refl
unseated (seat ∷ seats) who none = by (eqb seat.who who) none (unseated seats who)
  where
    by : (b : Bool) → cond b (Some seat) (find (λ (other : Seat Player). eqb other.who who) seats) ≡ None → (find (λ (other : Seat Player). eqb other.who who) seats ≡ None → list_any (λ actor. eqb actor who) (numbers_of seats) ≡ false)
        → (b || list_any (λ actor. eqb actor who) (numbers_of seats)) ≡ false
    by true e more = cc
    by false e more = more e

-- the laws by which lines are judged
pub record LineLaws : Type 0 where
  pub roomy_law : RoomyScenariosAreCalm
  pub short_law : CalmJournalsAreShort
  pub given_law : OrdersMayBeGiven
  pub spaced_law : CalmLinesAreSpaced
  pub posted_law : MailIsPosted
  pub desk_law : DesksAreNotBorn

module _ (segment : SegmentLaws) (rows_laws : RowLaws) (laws : LineLaws) (words : ℕ → ℕ → ℕ × ℕ) (scenario : Scenario) (valid : IsValid scenario) (calm : HasCalmLines scenario) where
  abbrev all : List (Seat Player)
  all = births as_nodes scenario

  abbrev s : System Player Mail OrderLine
  s = players words (births as_nodes scenario)

  abbrev begins : IsStage scenario
  begins = stage scenario (rows_laws.all_bounded scenario valid)

  -- rows give no more orders than lines do
  told_low : (rows : Rows) → Lawful as_nodes words scenario rows → orders rows ≤ orders_of scenario
  told_low rows lawful =
      let told = few_told s (schedule scenario) (schedule_calm scenario.lines calm) rows lawful in
      let same = orders_same scenario.lines in
      omega (arith, told, same)

  -- a lawful journal in time that is not too long is calm
  in_calm : (rows : Rows) → Lawful as_nodes words scenario rows → AreInTime s rows → length rows ≤ 2 ^ 28 → IsCalmJournal words scenario rows
  in_calm rows lawful timely short = record { valid = valid; lawful = lawful; timely = timely; short = short; given = laws.given_law words scenario rows valid calm lawful }

  frame : (rows : Rows) → IsCalmJournal words scenario rows → IsFramed words scenario begins.first begins.others (orders_of scenario + 1) (length scenario.groups + orders_of scenario) rows
  frame rows fact = record {
    groups = begins.groups_are;
    calm = fact;
    few = λ prefix begins_so. (let low = told_low prefix (rows_laws.found_law words scenario rows prefix fact begins_so).lawful in (omega (arith, low), omega (arith, low)));
  }

  whole : (rows : Rows) → IsPrefixOf rows rows
  whole rows = record { more = []; fact = sym (append-nil rows) }

  delivered : (rows : Rows) → AreInTime s rows → Each (λ mail. IsDelivered mail.body) (under_way s rows)
  delivered rows timely = Each-from (λ (mail : Mail). IsDelivered mail.body) (under_way s rows) (λ mail a. (
      let born = (with_other (λ m. is_born s (s.receiver m)) (λ m. true) (mails rows) (copies rows) mail a).0 in
      let posted = Each-among (IsPosted all) (mails rows) mail (laws.posted_law words scenario rows timely) (sent_with (λ m. is_born s (s.receiver m)) (mails rows) (copies rows) mail a) in
      not_desk posted.seat.who posted.seat.actor mail posted.fact (λ desk. true≢false (sym born ∙ (ap (is_born s) desk ∙ unseated all 0 (laws.desk_law scenario))))))

  -- such a journal rests where it is quiet
  rests_in : (rows : Rows) → IsCalmJournal words scenario rows → is_quiet s rows ≡ true → IsQuietJournal words scenario begins.first rows
  rests_in rows fact quiet = (rows_of.quiet_rests segment rows_laws words scenario begins.first begins.others (orders_of scenario + 1) (length scenario.groups + orders_of scenario) rows (frame rows fact) rows (whole rows) fact.timely quiet).rests.fact

  -- a quiet journal whose rows come in time rests
  pub rests_timely : (rows : Rows) → Lawful as_nodes words scenario rows → AreInTime s rows → length rows ≤ 2 ^ 28 → is_quiet s rows ≡ true → IsQuietJournal words scenario begins.first rows
  rests_timely rows lawful timely short quiet = rests_in rows (in_calm rows lawful timely short) quiet

  -- in a quiet journal whose rows come in time the results of all orders are reported
  pub reports_timely : (rows : Rows) → Lawful as_nodes words scenario rows → AreInTime s rows → length rows ≤ 2 ^ 28 → is_quiet s rows ≡ true → AreReported (births as_nodes scenario) rows
  reports_timely rows lawful timely short quiet =
      let fact = in_calm rows lawful timely short in
      (rows_of.quiet_rests segment rows_laws words scenario begins.first begins.others (orders_of scenario + 1) (length scenario.groups + orders_of scenario) rows (frame rows fact) rows (whole rows) timely quiet).reported

  -- where the lines part orders, a journal in which no line was cut off comes in time
  settled_timely : IsCalm scenario → (rows : Rows) → Lawful as_nodes words scenario rows → unsettled s (schedule scenario) rows ≡ false → AreInTime s rows
  settled_timely parted rows lawful uncut = settled_in_time s (schedule scenario) (laws.spaced_law 0 scenario parted).0 rows lawful uncut

  -- in a quiet journal in which no line was cut off the results of all orders are reported
  pub reports_settled : IsCalm scenario → (rows : Rows) → Lawful as_nodes words scenario rows → unsettled s (schedule scenario) rows ≡ false → length rows ≤ 2 ^ 28 → is_quiet s rows ≡ true → AreReported (births as_nodes scenario) rows
  reports_settled parted rows lawful uncut short quiet = reports_timely rows lawful (settled_timely parted rows lawful uncut) short quiet

  -- a quiet journal in which no line was cut off rests
  pub rests_settled : IsCalm scenario → (rows : Rows) → Lawful as_nodes words scenario rows → unsettled s (schedule scenario) rows ≡ false → length rows ≤ 2 ^ 28 → is_quiet s rows ≡ true → IsQuietJournal words scenario begins.first rows
  rests_settled parted rows lawful uncut short quiet = rests_timely rows lawful (settled_timely parted rows lawful uncut) short quiet

  -- ---- at its budget

  module _ (at : IsCalmAtBudget scenario) (some : 1 ≤ orders_of scenario) where
    is_calm : (rows : Rows) → Lawful as_nodes words scenario rows → AreInTime s rows → deliveries rows ≤ calm_deliveries_of scenario + 1 → IsCalmJournal words scenario rows
    is_calm rows lawful timely low = in_calm rows lawful timely (laws.short_law words scenario rows valid at some lawful timely low)

    one_more : (rows : Rows) (row : Row Mail OrderLine) → deliveries rows ≤ calm_deliveries_of scenario → deliveries (rows ++ row ∷ []) ≤ calm_deliveries_of scenario + 1
    one_more rows row low = (let push = count_push (λ (r : Row Mail OrderLine). is_delivery r.event) rows row (is_delivery row.event) refl in let one = at_most_one (is_delivery row.event) in omega (arith, push, one, low))
      where
        at_most_one : (b : Bool) → cond b 1 0 ≤ 1
        at_most_one true = omega arith
        at_most_one false = omega arith

    -- a quiet journal rests
    rests_at : (rows : Rows) → Lawful as_nodes words scenario rows → AreInTime s rows → deliveries rows ≤ calm_deliveries_of scenario → is_quiet s rows ≡ true → IsQuietJournal words scenario begins.first rows
    rests_at rows lawful timely low quiet = rests_in rows (is_calm rows lawful timely (omega (arith, low))) quiet

    charted : AreCharted words scenario (charts_of words scenario)
    charted = record {
      first = record { most = refl; reach = refl };
      keeps = record {
        keeps = λ rows row lawful timely low. (
            let fact = is_calm (rows ++ row ∷ []) lawful timely (one_more rows row low) in
            rows_of.keeps segment rows_laws words scenario begins.first begins.others (orders_of scenario + 1) (length scenario.groups + orders_of scenario) (rows ++ row ∷ []) (frame (rows ++ row ∷ []) fact) rows row (whole (rows ++ row ∷ [])) timely);
        delivered = λ rows lawful timely low. delivered rows timely;
      };
      rests = λ rows lawful timely low quiet. (
          let fact = is_calm rows lawful timely (omega (arith, low)) in
          rows_of.rests_calm segment rows_laws words scenario begins.first begins.others (orders_of scenario + 1) (length scenario.groups + orders_of scenario) rows (frame rows fact) rows (whole rows) timely quiet);
    }

    -- ---- lawful journals

    module _ (measured_law : KeptCalmIsMeasured) (little_law : RestingOwesLittle) where
      abbrev charts : Rows → Chart
      charts = charts_of words scenario

      abbrev owes_first : ℕ
      owes_first = births_owe (charts_of words scenario []) (births as_nodes scenario)

      within : owes_first + (242 + 4 * (orders_of scenario + 1)) ≤ calm_budget_of scenario
      within = births_covered scenario (charts_of words scenario []) charted.first some

      spaced : AreSpaced Nothing (schedule scenario)
      spaced = (laws.spaced_law (calm_budget_of scenario) scenario at).0

      rooms : Each (HasRoom (owes_first + (242 + 4 * (orders_of scenario + 1)))) (schedule scenario)
      rooms = rooms_for (owes_first + (242 + 4 * (orders_of scenario + 1))) (calm_budget_of scenario) within (schedule scenario) (laws.spaced_law (calm_budget_of scenario) scenario at).1

      fits : owes_first + orders_given (schedule scenario) * (242 + 4 * (orders_of scenario + 1)) ≤ calm_deliveries_of scenario
      fits = subst (λ (n : ℕ). owes_first + n * (242 + 4 * (orders_of scenario + 1)) ≤ calm_deliveries_of scenario) (sym (orders_same scenario.lines)) (within_deliveries owes_first (orders_of scenario + 1) (orders_of scenario) (calm_budget_of scenario) refl within)

      measure : IsMeasure s (schedule scenario) (calm_deliveries_of scenario) (λ rows. run_owes (charts_of words scenario rows) s rows) owes_first (242 + 4 * (orders_of scenario + 1))
      measure =
          measured_law words all (schedule scenario) charts (calm_deliveries_of scenario) owes_first (all_apart scenario (rows_laws.all_bounded scenario valid)) charted.keeps
          (λ rows lawful timely low quiet. little_law words all (charts_of words scenario []) (charts_of words scenario rows) rows timely quiet (charted.rests rows lawful timely low quiet))

      timely_so : (rows : Rows) → Lawful as_nodes words scenario rows → AreInTime s rows
      timely_so rows lawful = rows_in_time s (schedule scenario) (calm_deliveries_of scenario) (λ l. run_owes (charts_of words scenario l) s l) owes_first (242 + 4 * (orders_of scenario + 1)) measure spaced fits rooms rows lawful

      low_so : (rows : Rows) → Lawful as_nodes words scenario rows → deliveries rows ≤ calm_deliveries_of scenario
      low_so rows lawful =
          let sum = deliveries_and_orders s (schedule scenario) (calm_deliveries_of scenario) (λ l. run_owes (charts_of words scenario l) s l) owes_first (242 + 4 * (orders_of scenario + 1)) measure spaced fits rooms rows lawful in
          let told = told_low rows lawful in
          let same = orders_same scenario.lines in
          let less : orders rows * (242 + 4 * (orders_of scenario + 1)) ≤ orders_given (schedule scenario) * (242 + 4 * (orders_of scenario + 1)) = mul-le-mul (let a : orders rows ≤ orders_given (schedule scenario) = omega (arith, told, same) in a) (let b : 242 + 4 * (orders_of scenario + 1) ≤ 242 + 4 * (orders_of scenario + 1) = omega arith in b) in
          let all_fit = fits in
          omega (arith, sum, less, all_fit)

      pub rests_lawful : (rows : Rows) → Lawful as_nodes words scenario rows → is_quiet s rows ≡ true → IsQuietJournal words scenario begins.first rows
      rests_lawful rows lawful quiet = rests_at rows lawful (timely_so rows lawful) (low_so rows lawful) quiet

pub timely_rest : SegmentLaws → RowLaws → LineLaws → TimelyJournalsRest
timely_rest segment rows_laws laws words scenario first others rows valid calm groups lawful timely short quiet =
    let s = stage scenario (rows_laws.all_bounded scenario valid) in
    let same : s.first ≡ first = (let e : s.first ∷ s.others ≡ first ∷ others = sym s.groups_are ∙ groups in cc) in
    subst (λ (b : Base). IsQuietJournal words scenario b rows) same (rests_timely segment rows_laws laws words scenario valid calm rows lawful timely short quiet)

pub settled_rest : SegmentLaws → RowLaws → LineLaws → SettledJournalsRest
settled_rest segment rows_laws laws words scenario first others rows valid calm groups lawful uncut short quiet =
    let s = stage scenario (rows_laws.all_bounded scenario valid) in
    let same : s.first ≡ first = (let e : s.first ∷ s.others ≡ first ∷ others = sym s.groups_are ∙ groups in cc) in
    subst (λ (b : Base). IsQuietJournal words scenario b rows) same (rests_settled segment rows_laws laws words scenario valid calm.lines calm rows lawful uncut short quiet)

pub journals_go_on : SegmentLaws → RowLaws → LineLaws → KeptCalmIsMeasured → RestingOwesLittle → CalmJournalsGoOn
journals_go_on segment rows_laws laws measured_law little_law = record {
  settled = settled_rest segment rows_laws laws;
  timely = timely_rest segment rows_laws laws;
  reported = λ words scenario rows valid calm lawful uncut short quiet. reports_settled segment rows_laws laws words scenario valid calm.lines calm rows lawful uncut short quiet;
  timely_reported = λ words scenario rows valid calm lawful timely short quiet. reports_timely segment rows_laws laws words scenario valid calm rows lawful timely short quiet;
  charted = λ words scenario valid at some. charted segment rows_laws laws words scenario valid (laws.roomy_law.calm (calm_budget_of scenario) scenario at).lines at some;
  rests = λ words scenario first others rows valid at some groups lawful quiet. (
      let s = stage scenario (rows_laws.all_bounded scenario valid) in
      let same : s.first ≡ first = (let e : s.first ∷ s.others ≡ first ∷ others = sym s.groups_are ∙ groups in cc) in
      subst (λ (b : Base). IsQuietJournal words scenario b rows) same (rests_lawful segment rows_laws laws words scenario valid (laws.roomy_law.calm (calm_budget_of scenario) scenario at).lines at some measured_law little_law rows lawful quiet));
}

pub lines_settle : CalmLinesEndQuiet → CalmJournalsAreCharted → PlainLinesEndQuiet → CalmLinesSettle
lines_settle quiet_law charted_law plain_law words scenario journal valid calm lawful = elim (cases_lt 0 (orders_of scenario)) [
  | inl some ↦ quiet_law words scenario (charts_of words scenario) journal valid calm (charted_law words scenario valid calm some) lawful
  | inr none ↦ (let zero_is : orders_of scenario ≡ 0 = omega (arith, none) in plain_law words scenario journal valid (plain_by (budget_of scenario) (calm_budget_of scenario) (plain_budget scenario zero_is) scenario.lines zero_is calm.lines) lawful)
]

pub settled_answered : ValidScenariosAreBounded → ValidJournalsAreSound → SettledJournalsRest → SettledRequestsAreAnswered
settled_answered all_bounded sound_law rest_law words scenario journal valid calm lawful whole uncut short =
    answered_calmly all_bounded sound_law words scenario journal valid lawful whole uncut
    (λ first others rows more are begins groups quiet. (
    let settled = uncut_before (system_of as_nodes words scenario) (schedule scenario) rows more (subst (λ (l : Rows). unsettled (system_of as_nodes words scenario) (schedule scenario) l ≡ false) are uncut) in
    let longer = ap length are ∙ length-append rows more in
    rest_law words scenario first others rows valid calm groups begins settled (omega (arith, short, longer)) quiet))

-- a plain scenario is a calm one, no line of which is cut off at its budget
pub plain_answered : PlainLinesEndQuiet → PlainJournalsAreLight → SettledRequestsAreAnswered → PlainRequestsAreAnswered
plain_answered quiet_law light_law settled_law words scenario journal valid at lawful whole =
    let light = light_law words scenario journal valid at lawful in
    let counts = journal_counts (λ (mail : Mail). body_weight mail.body) journal in
    settled_law words scenario journal valid (roomy_scenarios_are_calm.plain scenario at) lawful whole (quiet_law words scenario journal valid at lawful) (omega (arith, light, counts))

pub requests_answered : ValidScenariosAreBounded → ValidJournalsAreSound → CalmLinesSettle → CalmJournalsRest → PlainRequestsAreAnswered → CalmRequestsAreAnswered
requests_answered all_bounded sound_law settle_law rest_law plain_law words scenario journal valid calm lawful whole_ = elim (cases_lt 0 (orders_of scenario)) [
  | inl some ↦ answered_calmly all_bounded sound_law words scenario journal valid lawful whole_ (settle_law words scenario journal valid calm lawful) (λ first others rows more are begins groups quiet. rest_law words scenario first others rows valid calm some groups begins quiet)
  | inr none ↦ (let zero_is : orders_of scenario ≡ 0 = omega (arith, none) in plain_law words scenario journal valid (plain_by (budget_of scenario) (calm_budget_of scenario) (plain_budget scenario zero_is) scenario.lines zero_is calm.lines) lawful whole_)
]
