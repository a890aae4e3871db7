-- The last quiet journal before some rows: the one in which the requests, or the order, that are under way began.
use Rattle.std.specs.Prelude.{ℕ, zero, suc, length, take, if◌then◌else◌}
use Rattle.sc_node_table.specs.Values.{OrderLine, Mail}
use Rattle.sc_actor.specs.Definitions.{System, is_quiet}
use Rattle.sc_meaning.specs.sound.SoundDefinitions.{Player}
use Rattle.sc_live_steps.specs.calm.CalmDefinitions.{Rows}

-- The length of the longest quiet prefix of these rows that has at most this number of rows; 0 if there is none.
abbrev pub quiet_upto : System Player Mail OrderLine → Rows → ℕ → ℕ
quiet_upto s rows zero = 0
quiet_upto s rows (suc n) = if is_quiet s (take (suc n) rows) then suc n else quiet_upto s rows n

-- The longest quiet prefix of these rows.
abbrev pub quiet_prefix : System Player Mail OrderLine → Rows → Rows
quiet_prefix s rows = take (quiet_upto s rows (length rows)) rows
