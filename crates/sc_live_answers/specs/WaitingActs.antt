-- No act waits at a replica with nothing in flight, while an order is under way since a quiet prefix of a calm journal.
use Rattle.std.specs.Prelude.{◌≡◌, ℕ, true, [], Some}
use Rattle.sc_node_table.specs.Values.{Draw, Base, OrderLine, Seat, Deliver}
use Rattle.sc_actor.specs.Definitions.{is_quiet}
use Rattle.sc_actor.specs.declared.rows.Event.TheVariants.{Told}
use Rattle.sc_scenario.specs.declared.scenario.scenarios.Scenario.{Scenario}
use Rattle.sc_node_table.specs.NodeDefinitions.{ReplicaState}
use Rattle.sc_live_steps.specs.pump.Waiting.{HasNoneWaiting}
use Rattle.sc_meaning.specs.sound.SoundDefinitions.{Player, births, as_nodes}
use Rattle.sc_live_steps.specs.calm.CalmDefinitions.{players, Rows}
use Rattle.sc_live_journals.specs.rows.RowDefinitions.{view_at, IsSeat, with_event}
use Rattle.sc_live_answers.specs.CalmJournals.{IsCalmJournal, IsPrefixOf, AreSent, ContinuesBy}
use Rattle.sc_live_answers.specs.RestingPrefixes.{RestsAt}

-- each replica that runs is as `HasNoneWaiting` says: it has an act waiting only while something is in flight or ready, where it may offer
abbrev pub HaveNoneWaiting : Scenario → Rows → Type 0
HaveNoneWaiting scenario rows = (name : Draw) (node : ℕ) (r : ReplicaState) → view_at (births as_nodes scenario) rows name node ≡ Some r → r.running ≡ true → HasNoneWaiting r

-- `HaveNoneWaiting` holds once an order is given in a quiet prefix that rests, and after each delivery, where all groups are well led after the row; and in the next quiet prefix a replica that runs with nothing in flight has no act waiting
pub record NoneWaits : Type 0 where
  pub begins : (words : ℕ → ℕ → ℕ × ℕ) (scenario : Scenario) (first : Base) (journal quiet : Rows) (seat : Seat Player) (line : OrderLine) → IsCalmJournal words scenario journal → RestsAt words scenario first journal quiet
      → IsSeat (births as_nodes scenario) seat → IsPrefixOf journal (with_event quiet seat (Told line)) → AreSent words scenario journal (with_event quiet seat (Told line)) → HaveNoneWaiting scenario (with_event quiet seat (Told line))
  pub goes_on : (words : ℕ → ℕ → ℕ × ℕ) (scenario : Scenario) (journal rows : Rows) (seat : Seat Player) (number : ℕ) → IsCalmJournal words scenario journal → ContinuesBy words scenario journal rows seat number
      → AreSent words scenario journal (with_event rows seat (Deliver number)) → HaveNoneWaiting scenario rows → HaveNoneWaiting scenario (with_event rows seat (Deliver number))
  pub over : (words : ℕ → ℕ → ℕ × ℕ) (scenario : Scenario) (journal rows : Rows) → IsCalmJournal words scenario journal → IsPrefixOf journal rows → AreSent words scenario journal rows → is_quiet (players words (births as_nodes scenario)) rows ≡ true
      → HaveNoneWaiting scenario rows → (name : Draw) (node : ℕ) (r : ReplicaState) → view_at (births as_nodes scenario) rows name node ≡ Some r → r.running ≡ true → r.leader.flights ≡ [] → r.acts ≡ []
