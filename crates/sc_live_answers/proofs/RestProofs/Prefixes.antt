-- Of each prefix of a calm journal: its groups, what comes next in order, and that no mail is under way in a quiet one.
use Rattle.std.proofs.Common.{◌≡◌, ℕ, false, true≢false, [], inl, inr, refl, ap, arith}
use Rattle.std.proofs.lemmas.Bool.{cases_Bool}
use Rattle.sc_base.specs.Definitions.{Among}
use Rattle.sc_node_table.specs.Values.{Draw, Base, OrderLine, Mail, Event, Deliver, Go}
use Rattle.sc_actor.specs.Definitions.{System}
use Rattle.sc_actor.specs.declared.rows.Event.TheVariants.{Told}
use Rattle.sc_live_orderly.specs.OrderlyDefinitions.{IsInOrder, IsCalmEvent, is_born, is_told}
use Rattle.sc_live_orderly.proofs.OrderlyLemmas.{in_time_tidy, quiet-empty}
use Rattle.sc_scenario.specs.declared.scenario.scenarios.Scenario.{Scenario}
use Rattle.sc_meaning.specs.sound.SoundDefinitions.{groups_at, Player, births, as_nodes}
use Rattle.sc_live_steps.specs.following.FollowingDefinitions.{marks_of}
use Rattle.sc_live_steps.specs.calm.CalmDefinitions.{players, Rows}
use Rattle.sc_live_journals.specs.rows.RowDefinitions.{marks_at}
use Rattle.sc_live_journals.specs.mail.MailDefinitions.{SlotsAreLeft}
use Rattle.sc_live_journals.specs.logs.LogDefinitions.{IsGroupOf}
use Rattle.sc_live_answers.specs.AnswerDefinitions.{AreFew, IsQuietPrefix, NoMailForStrangers, IsCalmJournal, IsPrefixOf}
use Rattle.sc_live_answers.proofs.RequestsProofs.RequestInvariant.{prefix_timely, prefix_short}

-- each group of a calm journal is one of a lawful journal of a valid scenario
pub journal_group : (words : ℕ → ℕ → ℕ × ℕ) (scenario : Scenario) (journal : Rows) → IsCalmJournal words scenario journal → (base : Base) → Among base (groups_at as_nodes scenario.groups journal) → IsGroupOf as_nodes words scenario journal base
journal_group words scenario journal calm base among = record { open_slots = refl; valid = calm.valid; lawful = calm.lawful; stands = among }

-- no replica of a group of a calm journal uses up its slots and rounds
pub journal_few : SlotsAreLeft → (words : ℕ → ℕ → ℕ × ℕ) (scenario : Scenario) (journal : Rows) → IsCalmJournal words scenario journal → (base : Base) → AreFew as_nodes scenario journal base
journal_few few_law words scenario journal calm base rows more who r e view =
    let prefix : IsPrefixOf journal rows = record { more = more; fact = e } in
    let left = few_law words scenario rows base.core.id who r (prefix_timely words scenario journal rows calm prefix) (prefix_short words scenario journal rows calm prefix) view in
    let low = left.0 in
    (omega (arith, low), left.1)

-- what comes in time and gives no order comes in order
pub untold_in_order : (s : System Player Mail OrderLine) (rows : Rows) (who : ℕ) (event : Event OrderLine) → is_told event ≡ false → IsCalmEvent s rows who event → IsInOrder s rows who event
untold_in_order s rows who Go untold fine = fine
untold_in_order s rows who (Deliver number) untold fine = fine
untold_in_order s rows who (Told order) untold fine = absurd (true≢false untold)
untold_in_order s rows who _ untold fine = absurd fine

-- no mail of any group is under way in a quiet prefix
pub quiet_marks : NoMailForStrangers → (words : ℕ → ℕ → ℕ × ℕ) (scenario : Scenario) (journal prefix : Rows) → IsQuietPrefix words scenario journal prefix → (name : Draw) (who : ℕ) → marks_at (players words (births as_nodes scenario)) prefix name who ≡ []
quiet_marks no_law words scenario journal prefix q name who =
    let s : System Player Mail OrderLine = players words (births as_nodes scenario) in
    elim (cases_Bool (is_born s who)) [
      | inl t ↦ ap (marks_of name) (quiet-empty s prefix who (in_time_tidy s prefix (prefix_timely words scenario journal prefix q.calm q.begins)) t q.quiet)
      | inr f ↦ no_law.strangers words scenario journal prefix q.calm q.begins q.sent name who f
    ]
