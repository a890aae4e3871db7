-- A run of a plain scenario at its budget answers every request, and so does one of a calm scenario, unless its journal is full.
use Rattle.std.proofs.Common.{◌≡◌, ◌⊎◌, ℕ, List, Bool, true, false, Option, None, Some, Ok, inl, inr, refl, sym, ◌∙◌, ap, subst, arith}
use Rattle.std.specs.Prelude.{IfSome}
use Rattle.sc_texts.specs.edges.Causes.{Rose}
use Rattle.sc_texts.specs.edges.Uses.{SourceUse, SinkUse}
use Rattle.sc_words.specs.declared.commands.orders.OrderLine.{OrderLine}
use Rattle.sc_mail.specs.declared.bodies.Mail.{Mail}
use Rattle.sc_actor.specs.declared.rows.Row.{Row}
use Rattle.sc_actor.specs.Walk.{unsettled}
use Rattle.sc_texts.specs.chance.KeyStream.{two_words}
use Rattle.sc_meaning.specs.sound.Players.{system_of, schedule, as_nodes}
use Rattle.sc_scenario.specs.scenario.Grammar.{verdict_of}
use Rattle.sc_scenario.specs.scenario.Made.{made_scenario}
use Rattle.sc_scenario.specs.declared.scenario.scenarios.Scenario.{Scenario}
use Rattle.sc_cli.specs.Causes.{status_of, said_of}
use Rattle.sc_cli.specs.declared.said.Said.{Said}
use Rattle.sc_cli.specs.declared.said.Said.TheVariants.{Ended}
use Rattle.sc_cli.specs.Errors.{IsBadText}
use Rattle.sc_live_plain.specs.Budget.{IsAtBudget, AreAnswered}
use Rattle.sc_live_plain.specs.CalmBudget.{calm_budget_of, IsCalm, IsCalmAtBudget}
use Rattle.sc_live_plain.proofs.PlainLemmas.{roomy_scenarios_are_calm}
use Rattle.sc_live_plain.specs.LastLine.{LastLinesAnswer}
use Rattle.sc_live_plain.specs.PlainLaws.{PlainLinesEndQuiet, PlainRequestsAreAnswered, PlainJournalsAreLight}
use Rattle.sc_live_answers.specs.AnsweredRequests.{CalmLinesSettle, CalmRequestsAreAnswered, SettledRequestsAreAnswered}
use Rattle.sc_live_answers.specs.ReportedOrders.{AreOrdersReported, SettledOrdersAreReported}
use Rattle.sc_live_healed.specs.HealedStores.{HealedStoresAnswer}
use Rattle.sc_cli.specs.Subcommands.{subcommand_by}
use Rattle.sc_cli.specs.declared.subcommands.Subcommand.{Subcommand}
use Rattle.sc_cli.specs.declared.subcommands.Subcommand.TheVariants as ask
use Rattle.sc_run.specs.declared.done.Text.{Text}
use Rattle.sc_run.specs.declared.done.Done.{Done}
use Rattle.sc_run.specs.Answers.{IsText, IsAskedFor, AnswersWhere, AnswersOnStatusZero, Runs}
use Rattle.sc_run.specs.Budgets.{IsWithinBudget, BudgetsSuffice}
use Rattle.sc_run.specs.Run.{Comes, Ends, PlaysUntilFull, Refuses, SaysFor, ShowsFile, ShowsReport}
use Rattle.sc_run.specs.Shown.{ShowsScan}

-- the laws of plain and of calm journals, together
pub suffice : PlainLinesEndQuiet → PlainRequestsAreAnswered → PlainJournalsAreLight → CalmLinesSettle → CalmRequestsAreAnswered → SettledRequestsAreAnswered → LastLinesAnswer → SettledOrdersAreReported → HealedStoresAnswer → BudgetsSuffice
suffice plain_quiet plain_answered light calm_quiet calm_answered settled_answered last_answered settled_reported heals = record {
  settled = λ words scenario journal valid within lawful. elim within [
    | inl plain ↦ plain_quiet words scenario journal valid plain lawful
    | inr calm ↦ calm_quiet words scenario journal valid calm lawful
  ];
  answered = λ words scenario journal valid within lawful whole. elim within [
    | inl plain ↦ plain_answered words scenario journal valid plain lawful whole
    | inr calm ↦ calm_answered words scenario journal valid calm lawful whole
  ];
  light = light;
  uncut = settled_answered;
  last = last_answered;
  reported = settled_reported;
  healed = heals;
}

-- what was said, and the journal of the text
record IsAnswered (scenario : Scenario) (said : Said) (text : Text) : Type 0 where
  status : status_of said ≡ 0
  journal : List (Row Mail OrderLine)
  journal_is : text.journal ≡ Some journal
  answers : AreAnswered scenario journal
  reports : AreOrdersReported scenario journal

-- the input is no other scenario, and has no bad line
same_text : (source : SourceUse) (one other : Scenario) → IsText source one → IfSome source.left (λ input. verdict_of input ≡ Ok other) → other ≡ one
same_text source one other is read =
    let here : verdict_of is.0 ≡ Ok other = subst (λ o. IfSome o (λ input. verdict_of input ≡ Ok other)) is.1 read in
    let e : Ok other ≡ Ok one = sym here ∙ is.2 in cc

not_refused : (source : SourceUse) (scenario : Scenario) (said : Said) (text : Text) → IsText source scenario → (Rose source.errors_before source.errors_after → ⊥) → Refuses IsBadText source said text → ⊥
not_refused source scenario said text is calm (inl fails) = calm fails.rose
not_refused source scenario said text is calm (inr names) =
    let bad : IsBadText is.0 names.line names.why = subst (λ o. IfSome o (λ input. IsBadText input names.line names.why)) is.1 names.bad in
    let e = sym bad ∙ is.2 in cc

-- what comes of a scenario: all is answered, or its journal is full
abbrev IsOver : Scenario → Said → Text → Type 0
IsOver scenario said text = IsAnswered scenario said text ⊎ PlaysUntilFull scenario said text

-- a scenario within its budget is calm
calm_within : (scenario : Scenario) → IsWithinBudget scenario → IsCalm scenario
calm_within scenario (inl plain) = roomy_scenarios_are_calm.plain scenario plain
calm_within scenario (inr calm) = roomy_scenarios_are_calm.calm (calm_budget_of scenario) scenario calm

comes_answered : (Shows : List (Row Mail OrderLine) → List (List ℕ) → Type 0) (scenario : Scenario) (said : Said) (text : Text) → IsWithinBudget scenario → Comes Shows scenario said text → IsOver scenario said text
comes_answered Shows scenario said text within (inl plays) =
    let ended = plays.settled within in
    inl (record { status = ap status_of ended; journal = plays.journal; journal_is = plays.reports.journal_is; answers = plays.answered (calm_within scenario within) ended; reports = plays.reported (calm_within scenario within) ended })
comes_answered Shows scenario said text within (inr full) = inr full

-- what follows from each outcome of the scenario that was asked for, and from each refusal of its text, follows from what a run says
module _ (scenario : Scenario) (said : Said) (text : Text) (Follows : Type 0) (come : (Shows : List (Row Mail OrderLine) → List (List ℕ) → Type 0) → Comes Shows scenario said text → Follows) where
  -- the scenario that was read is the one that was asked for
  read_follows : (Shows : Scenario → List (Row Mail OrderLine) → List (List ℕ) → Type 0) (other : Scenario) → other ≡ scenario → Comes (Shows other) other said text → Follows
  read_follows Shows other same comes = come (Shows other) (subst (λ s. Comes (Shows other) s said text) same comes)

  says_follows : (what : Option Subcommand) (source : SourceUse) → IsAskedFor what source scenario → (IsText source scenario → Refuses IsBadText source said text → Follows) → SaysFor what source said text → Follows
  says_follows None source asked refused says = absurd asked
  says_follows (Some ask.Audit) source asked refused says = absurd asked
  says_follows (Some ask.Explain) source asked refused says = absurd asked
  says_follows (Some ask.Run) source asked refused (inl refuses) = refused asked refuses
  says_follows (Some ask.Run) source asked refused (inr plays) = read_follows ShowsReport plays.scenario (same_text source scenario plays.scenario asked plays.read.read) plays.comes
  says_follows (Some ask.Pool) source asked refused (inl refuses) = refused asked refuses
  says_follows (Some ask.Pool) source asked refused (inr plays) = read_follows ShowsReport plays.scenario (same_text source scenario plays.scenario asked plays.read.read) plays.comes
  says_follows (Some (ask.Scan sight)) source asked refused (inl refuses) = refused asked refuses
  says_follows (Some (ask.Scan sight)) source asked refused (inr plays) = read_follows (λ s. ShowsScan s sight) plays.scenario (same_text source scenario plays.scenario asked plays.read.read) plays.comes
  says_follows (Some ask.Journal) source asked refused (inl refuses) = refused asked refuses
  says_follows (Some ask.Journal) source asked refused (inr plays) =
      let all : plays.bytes ≡ asked.0 = subst (λ o. IfSome o (λ input. plays.bytes ≡ input)) asked.1 plays.read.all in
      let e : Ok plays.scenario ≡ Ok scenario = sym plays.read.read ∙ (ap verdict_of all ∙ asked.2) in
      let same : plays.scenario ≡ scenario = cc in
      read_follows (λ s. ShowsFile plays.bytes) plays.scenario same plays.comes
  says_follows (Some (ask.Make n seed)) source asked refused says = read_follows ShowsReport (made_scenario n seed) (sym asked) says.comes

says_answered : (what : Option Subcommand) (source : SourceUse) (scenario : Scenario) (said : Said) (text : Text) → IsAskedFor what source scenario → IsWithinBudget scenario → (Rose source.errors_before source.errors_after → ⊥) → SaysFor what source said text → IsOver scenario said text
says_answered what source scenario said text asked within still says =
    says_follows scenario said text (IsOver scenario said text) (λ Shows comes. comes_answered Shows scenario said text within comes) what source asked
    (λ is refuses. absurd (not_refused source scenario said text is still refuses)) says

-- what comes of a calm scenario with status 0: all is answered
comes_zero : (Shows : List (Row Mail OrderLine) → List (List ℕ) → Type 0) (scenario : Scenario) (said : Said) (text : Text) → IsCalm scenario → status_of said ≡ 0 → Comes Shows scenario said text → IsAnswered scenario said text
comes_zero Shows scenario said text calm zero_is (inr full) = (let seven = ap status_of full.said_is in absurd (omega (arith, zero_is, seven)))
comes_zero Shows scenario said text calm zero_is (inl plays) =
    let over = ended (unsettled (system_of as_nodes two_words scenario) (schedule scenario) plays.journal) plays.said_is in
    record { status = zero_is; journal = plays.journal; journal_is = plays.reports.journal_is; answers = plays.answered calm over; reports = plays.reported calm over }
  where
    ended : (cut : Bool) → said ≡ said_of cut → said ≡ Ended
    ended true is = (let six = ap status_of is in absurd (omega (arith, zero_is, six)))
    ended false is = is

-- a text that refuses its input has another status
refused_other : (source : SourceUse) (said : Said) (text : Text) → status_of said ≡ 0 → Refuses IsBadText source said text → ⊥
refused_other source said text zero_is (inl fails) = (let four = ap status_of fails.said_is in absurd (omega (arith, zero_is, four)))
refused_other source said text zero_is (inr names) = (let three = ap status_of names.said_is in absurd (omega (arith, zero_is, three)))

-- so a run of such a scenario answers all, or has a status that may come of a full journal, or of running out of memory
module _ (words : List (List ℕ)) (source : SourceUse) (sink : SinkUse) (done : Done) where
  answers_where : (IsSuch : Scenario → Type 0) → ((scenario : Scenario) → IsSuch scenario → IsWithinBudget scenario) → (May : ℕ → Type 0) → May 8
      → ((scenario : Scenario) (said : Said) (text : Text) → IsSuch scenario → PlaysUntilFull scenario said text → May (status_of said))
      → Ends words source sink done → AnswersWhere IsSuch May words source sink done
  answers_where IsSuch within May short full (inr out) scenario asked such calm still = inr (subst May (sym out.status) short)
  answers_where IsSuch within May short full (inl printed) scenario asked such calm still =
      let either = says_answered (subcommand_by words) source scenario printed.said printed.text asked (within scenario such) calm printed.says in
      elim (printed.prints) [
        | inl whole ↦ elim either [
          | inl a ↦ inl (record { status = whole.0 ∙ a.status; journal = a.journal; journal_is = printed.journal ∙ a.journal_is; answered = a.answers; reported = a.reports })
          | inr filled ↦ inr (subst May (sym whole.0) (full scenario printed.said printed.text such filled))
        ]
        | inr failed ↦ absurd (still failed.3)
      ]

  -- and so does a run of a calm scenario with status 0
  answers_zero : Ends words source sink done → AnswersOnStatusZero words source done
  answers_zero (inr out) scenario asked calm zero_is = (let eight = out.status in absurd (omega (arith, zero_is, eight)))
  answers_zero (inl printed) scenario asked calm zero_is = elim (printed.prints) [
    | inl whole ↦ (
        let zero_said : status_of printed.said ≡ 0 = sym whole.0 ∙ zero_is in
        let a = says_follows scenario printed.said printed.text (IsAnswered scenario printed.said printed.text) (λ Shows comes. comes_zero Shows scenario printed.said printed.text calm zero_said comes) (subcommand_by words) source asked
        (λ is refuses. absurd (refused_other source printed.said printed.text zero_said refuses)) printed.says in
        record { status = zero_is; journal = a.journal; journal_is = printed.journal ∙ a.journal_is; answered = a.answers; reported = a.reports })
    | inr failed ↦ (let five = failed.0 in absurd (omega (arith, zero_is, five)))
  ]

  pub runs : Ends words source sink done → Runs words source sink done
  runs ends = record {
    ends = ends;
    budget = answers_where IsAtBudget (λ scenario plain. inl plain) (λ status. status ≡ 8) refl (λ scenario said text plain full. absurd (full.not_plain plain)) ends;
    zero = answers_zero ends;
    calm = answers_where IsCalmAtBudget (λ scenario calm. inr calm) (λ status. (status ≡ 7) ⊎ (status ≡ 8)) (inr refl) (λ scenario said text calm full. inl (ap status_of full.said_is)) ends;
  }
