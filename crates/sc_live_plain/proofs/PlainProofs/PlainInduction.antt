-- Induction over plain journals: a plain journal is one in which clients ask alone, in the setting of its scenario, with all its mail and what is owed.
use Rattle.std.proofs.Common.{ℕ, ◌+◌, ◌*◌, ◌≤◌}
use Rattle.sc_base.specs.Definitions.{Among, Each}
use Rattle.sc_node_table.specs.Values.{Mail}
use Rattle.sc_actor.specs.Definitions.{mails}
use Rattle.sc_scenario.specs.declared.scenario.scenarios.Scenario.{Scenario}
use Rattle.sc_meaning.specs.sound.SoundDefinitions.{Player, system_of, as_nodes}
use Rattle.sc_live_orderly.specs.OrderlyDefinitions.{deliveries, Owing, owed, owed_at_birth}
use Rattle.sc_live_plain.specs.PlainDefinitions.{IsAsking, replica_at, next_in, Frame, player_owes, mail_owes, IsBegun, IsPlainMail}
use Rattle.sc_live_plain.proofs.PlainProofs.PlainBeginnings.{frames_of, IsStage}
use Rattle.sc_live_plain.proofs.PlainProofs.PlainSetting.{plain_setting}
use Rattle.sc_live_plain.proofs.PlainRowsProofs.RowViews.{Journal}

-- what players and mail owe, by the groups
abbrev pub owing_of : Scenario → Owing Player Mail
owing_of scenario = record { actor = player_owes (frames_of scenario); mail = mail_owes }

module _ (words : ℕ → ℕ → ℕ × ℕ) (scenario : Scenario) (stage : IsStage scenario) where
  -- all players, all mail and all groups after some rows, how many slots leaders have executed at most, and what is owed still
  pub record IsPlainJournal (rows : Journal) : Type 0 where
    pub asking : IsAsking words scenario (plain_setting scenario) stage.first rows
    pub sent : Each (IsPlainMail (IsBegun scenario rows) (frames_of scenario)) (mails rows)
    pub slots : (frame : Frame) → Among frame (frames_of scenario) → next_in (replica_at scenario rows frame.core.id frame.lead) ≤ 1 + 4 * deliveries rows
    pub owes : deliveries rows + owed (system_of as_nodes words scenario) (owing_of scenario) rows ≤ owed_at_birth (system_of as_nodes words scenario) (owing_of scenario)
