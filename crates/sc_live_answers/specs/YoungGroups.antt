-- Groups which had no replica in a quiet journal stay as they begin while an order is under way.
use Rattle.std.specs.Prelude.{◌≡◌, ℕ, true, Some}
use Rattle.sc_base.specs.Definitions.{Among}
use Rattle.sc_node_table.specs.Values.{Draw, Base, OrderLine, AnswerBody, Mail, Answer, Seat, Deliver}
use Rattle.sc_actor.specs.Definitions.{mails, numbered, is_quiet}
use Rattle.sc_actor.specs.declared.rows.Event.TheVariants.{Told}
use Rattle.sc_live_orderly.specs.OrderlyDefinitions.{AreInTime}
use Rattle.sc_scenario.specs.declared.scenario.scenarios.Scenario.{Scenario}
use Rattle.sc_meaning.specs.sound.SoundDefinitions.{groups_at, Player, births, as_nodes}
use Rattle.sc_live_steps.specs.calm.CalmDefinitions.{players, Rows}
use Rattle.sc_live_journals.specs.rows.RowDefinitions.{IsSeat, with_event}
use Rattle.sc_live_steps.specs.orders.OrderDefinitions.{Stage}
use Rattle.sc_live_journals.specs.scenes.SceneDefinitions.{IsNowhere, AreUntouched}
use Rattle.sc_live_answers.specs.CalmJournals.{IsCalmJournal, ContinuesBy}
use Rattle.sc_live_answers.specs.OrderUnderWay.{IsYoungAt}

-- the mail that is delivered is no answer to a client
abbrev pub IsUnanswered : Rows → ℕ → Type 0
IsUnanswered rows number = (mail : Mail) (group : Draw) (seq : ℕ) (answer : AnswerBody) → numbered (mails rows) number ≡ Some mail → mail.body ≡ Answer group seq answer → ⊥

-- a group that had no replica in a quiet journal is young (`IsYoungAt`) once an order is given, and after each delivery that is no answer to a client
pub record YoungGroupsStay : Type 0 where
  pub begins : (words : ℕ → ℕ → ℕ × ℕ) (scenario : Scenario) (quiet : Rows) (seat : Seat Player) (line : OrderLine) (stage : Stage) → IsSeat (births as_nodes scenario) seat
      → AreInTime (players words (births as_nodes scenario)) (with_event quiet seat (Told line)) → is_quiet (players words (births as_nodes scenario)) quiet ≡ true → AreUntouched words (births as_nodes scenario) quiet (with_event quiet seat (Told line)) stage
      → (base : Base) → IsNowhere (births as_nodes scenario) quiet base.core.id → IsYoungAt words (births as_nodes scenario) (with_event quiet seat (Told line)) base
  pub stays : (words : ℕ → ℕ → ℕ × ℕ) (scenario : Scenario) (journal quiet rows : Rows) (seat : Seat Player) (number : ℕ) (later : Stage) → IsCalmJournal words scenario journal → ContinuesBy words scenario journal rows seat number → IsUnanswered rows number
      → AreUntouched words (births as_nodes scenario) quiet (with_event rows seat (Deliver number)) later
      → (base : Base) → Among base (groups_at as_nodes scenario.groups journal) → IsNowhere (births as_nodes scenario) quiet base.core.id → IsYoungAt words (births as_nodes scenario) rows base
      → IsYoungAt words (births as_nodes scenario) (with_event rows seat (Deliver number)) base
