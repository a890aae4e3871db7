-- What the answer of a play says.
use Rattle.std.specs.Prelude.{◌≡◌, ℕ, ◌<◌, ◌≤◌, ◌^◌, List, length, Bool, false, ⊤}
use Rattle.sc_words.specs.declared.commands.orders.OrderLine.{OrderLine}
use Rattle.sc_mail.specs.declared.bodies.Mail.{Mail}
use Rattle.sc_mail.specs.Weight.{body_weight}
use Rattle.sc_actor.specs.declared.rows.Row.{Row}
use Rattle.sc_actor.specs.Counted.{journal_bytes}
use Rattle.sc_actor.specs.Walk.{skipped, unsettled, is_quiet}
use Rattle.sc_actor.specs.Counted.{IsFull}
use Rattle.sc_scenario.specs.declared.scenario.scenarios.Scenario.{Scenario}
use Rattle.sc_meaning.specs.sound.Soundness.{IsSoundThroughout}
use Rattle.sc_law_refusal.specs.refusal.Journals.{RefusesWithCause}
use Rattle.sc_meaning.specs.sound.Players.{system_of, schedule, Lawful, Whole, parties, Player, as_nodes}
use Rattle.sc_actor.specs.declared.schedules.Played.{Played}
use Rattle.sc_actor.specs.declared.schedules.Played.TheVariants.{Ended, Full, OutOfMemory}
use Rattle.sc_texts.specs.chance.KeyStream.{two_words}
use Rattle.sc_live_plain.specs.Budget.{IsAtBudget, AreAnswered}
use Rattle.sc_live_plain.specs.CalmBudget.{IsCalm}
use Rattle.sc_live_plain.specs.LastLine.{EndsAtBudget}
use Rattle.sc_live_answers.specs.ReportedOrders.{AreOrdersReported}
use Rattle.sc_live_healed.specs.HealedSchedules.{IsHealed, HasLivingMajorities}
use Rattle.sc_live_healed.specs.HealedStores.{Heals}
use Rattle.sc_run.specs.Budgets.{IsWithinBudget}

-- the weight of a mail
abbrev pub mail_weight : Mail → ℕ
mail_weight mail = body_weight mail.body

-- The journal is lawful and whole and within the limit, each prefix of it is sound and each refusal has its cause, the counts are the walk's, and each party is its replay. Within its budget no line is cut off, and every request of a client whose `go` line is followed by a line of deliveries is answered; so it is where the scenario is calm, no line was cut off and the rows are no more than 2^28, and then the result of each order is reported; and where it is plain, its last line is at the budget and the rows are no more than that. Where its lines heal, more than half of each group lives, no line was cut off and the rows are no more than that, the store heals.
pub record HasPlayedToEnd (scenario : Scenario) (limit : ℕ) (cut quiet : Bool) (skips : ℕ) (journal : List (Row Mail OrderLine)) (left : List Player) : Type 0 where
  pub lawful : Lawful as_nodes two_words scenario journal
  pub whole : Whole as_nodes two_words scenario journal
  pub sound : IsSoundThroughout as_nodes scenario journal
  pub refuses : RefusesWithCause as_nodes scenario journal
  pub within : journal_bytes mail_weight journal ≤ limit
  pub cut_is : cut ≡ unsettled (system_of as_nodes two_words scenario) (schedule scenario) journal
  pub quiet_is : quiet ≡ is_quiet (system_of as_nodes two_words scenario) journal
  pub skips_are : skips ≡ skipped (system_of as_nodes two_words scenario) (schedule scenario) journal
  pub parties_are : left ≡ parties as_nodes scenario journal
  pub settled : IsWithinBudget scenario → cut ≡ false
  pub answered : IsWithinBudget scenario → AreAnswered scenario journal
  pub uncut : IsCalm scenario → cut ≡ false → length journal ≤ 2 ^ 28 → AreAnswered scenario journal
  pub last : EndsAtBudget scenario → length journal ≤ 2 ^ 28 → AreAnswered scenario journal
  pub reported : IsCalm scenario → cut ≡ false → length journal ≤ 2 ^ 28 → AreOrdersReported scenario journal
  pub healed : (healed : IsHealed scenario) → HasLivingMajorities scenario → cut ≡ false → length journal ≤ 2 ^ 28 → Heals two_words scenario healed journal

-- The journal is lawful and within the limit, each prefix of it is sound and each refusal has its cause, and a row that may come next passes the limit, which no journal of a plain scenario at its budget does unless the limit is below 2^30 bytes.
pub record HasFilled (scenario : Scenario) (limit : ℕ) (journal : List (Row Mail OrderLine)) : Type 0 where
  pub full : IsFull (system_of as_nodes two_words scenario) mail_weight (schedule scenario) limit journal
  pub sound : IsSoundThroughout as_nodes scenario journal
  pub refuses : RefusesWithCause as_nodes scenario journal
  pub below : IsAtBudget scenario → limit < 2 ^ 30

-- How a scenario was played within a limit: the journal, and the parties as they were left.
abbrev pub IsPlayed : Scenario → ℕ → List (Row Mail OrderLine) → List Player → Played → Type 0
IsPlayed scenario limit journal left (Ended cut quiet skips) = HasPlayedToEnd scenario limit cut quiet skips journal left
IsPlayed scenario limit journal left Full = HasFilled scenario limit journal
IsPlayed scenario limit journal left OutOfMemory = ⊤
