-- Slots and rounds are bounded by the number of rows of a journal.
use Rattle.std.specs.Prelude.{◌≡◌, ℕ, ◌+◌, ◌-◌, ◌*◌, ◌^◌, ◌<◌, ◌≤◌, length, Some}
use Rattle.sc_base.specs.Definitions.{Each}
use Rattle.sc_node_table.specs.Values.{Draw, Command, MailBody, Request, Answer, Prepare, Promise, Accept, Accepted, Nack, Learn, Ask, Install, TxPrepare, TxVote, TxOutcome, TxElsewhere, TxWatch, TxWatched, Told, Flight, Report}
use Rattle.sc_actor.specs.Definitions.{mails}
use Rattle.sc_live_orderly.specs.OrderlyDefinitions.{AreInTime}
use Rattle.sc_scenario.specs.declared.scenario.scenarios.Scenario.{Scenario}
use Rattle.sc_node_table.specs.NodeDefinitions.{ReplicaState, next, last_slot, slots_ahead}
use Rattle.sc_meaning.specs.sound.SoundDefinitions.{births, as_nodes}
use Rattle.sc_live_steps.specs.calm.CalmDefinitions.{players, Rows}
use Rattle.sc_live_journals.specs.rows.RowDefinitions.{view_at}

-- A bound of all slots and rounds after this number of rows: a row raises it by four, the number of open slots.
abbrev pub most_after : ℕ → ℕ
most_after rows = 4 * rows + 1

-- The report's slot and round are at most `most`.
abbrev pub IsFewReport : ℕ → Report Command → Type 0
IsFewReport most report = (report.ballot.round ≤ most) × (report.slot ≤ most)

-- No slot and no round of the replica is greater than `most`.
abbrev pub HasFew : ℕ → ReplicaState → Type 0
HasFew most r =
    (next r ≤ most) × (r.top.round ≤ most) × (r.acceptor.promised.round ≤ most) × Each (IsFewReport most) r.acceptor.accepted × (r.leader.ballot.round ≤ most) × Each (IsFewReport most) r.leader.reports
    × Each (λ (flight : Flight Command). flight.slot ≤ most) r.leader.flights × Each (λ (entry : ℕ × Command). entry.0 ≤ most) r.ready

-- No slot and no round in the body is greater than `most`.
abbrev pub SaysFew : ℕ → MailBody → Type 0
SaysFew most (Prepare group ballot from_slot) = (ballot.round ≤ most) × (from_slot ≤ most)
SaysFew most (Promise group ballot reports) = (ballot.round ≤ most) × Each (IsFewReport most) reports
SaysFew most (Accept group ballot slot command) = (ballot.round ≤ most) × (slot ≤ most)
SaysFew most (Accepted group ballot slot) = (ballot.round ≤ most) × (slot ≤ most)
SaysFew most (Nack group promised) = promised.round ≤ most
SaysFew most (Learn group slot command) = slot ≤ most
SaysFew most (Ask group from_slot) = from_slot ≤ most
SaysFew most (Install group slot base sets) = slot ≤ most
SaysFew most (Request group client seq op) = Unit {0}
SaysFew most (Answer group seq answer) = Unit {0}
SaysFew most (TxPrepare tx offer) = Unit {0}
SaysFew most (TxVote tx coord part vote) = Unit {0}
SaysFew most (TxOutcome tx part outcome) = Unit {0}
SaysFew most (TxElsewhere tx coord hint) = Unit {0}
SaysFew most (TxWatch tx watch) = Unit {0}
SaysFew most (TxWatched tx coord part vote) = Unit {0}
SaysFew most (Told number result) = Unit {0}

-- After rows in time, each replica and each mail has slots and rounds of at most `most_after` of the number of rows.
pub record JournalsHaveFew : Type 0 where
  pub replicas : (words : ℕ → ℕ → ℕ × ℕ) (scenario : Scenario) (rows : Rows) (name : Draw) (who : ℕ) (r : ReplicaState) → AreInTime (players words (births as_nodes scenario)) rows → view_at (births as_nodes scenario) rows name who ≡ Some r → HasFew (most_after (length rows)) r
  pub mails : (words : ℕ → ℕ → ℕ × ℕ) (scenario : Scenario) (rows : Rows) → AreInTime (players words (births as_nodes scenario)) rows → Each (λ mail. SaysFew (most_after (length rows)) mail.body) (mails rows)

-- In a journal of at most 2^28 rows, whose rows come in time, no open slot of a replica is behind the last slot, and each replica has a later round.
abbrev pub SlotsAreLeft : Type 0
SlotsAreLeft =
    (words : ℕ → ℕ → ℕ × ℕ) (scenario : Scenario) (rows : Rows) (name : Draw) (who : ℕ) (r : ReplicaState) → AreInTime (players words (births as_nodes scenario)) rows → length rows ≤ 2 ^ 28
    → view_at (births as_nodes scenario) rows name who ≡ Some r → (next r + slots_ahead ≤ last_slot) × (r.top.round < 2 ^ 32 - 1)
