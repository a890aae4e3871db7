-- Where the search stands between two lines.
use Rattle.std.specs.Prelude.{◌≡◌, ℕ, false, List, take, drop, slice_index_or}
use Rattle.sc_base.specs.Definitions.{Among, Each}
use Rattle.sc_linear_law.specs.declared.requests.Request.{Request}
use Rattle.sc_linear_law.specs.LinearDefinitions.{Move, CanPass, Place}
use Rattle.sc_linear.specs.Standing.{request_at, next_at, may_take, AllLead, IsUnder}
use Rattle.sc_linear.specs.Steps.{has_failed}
use Rattle.sc_linear.specs.Moves.{line_after, pending, CanPassAll}

-- the line behind the first ones of these
abbrev pub reached : List Move → ℕ → ℕ
reached moves at = line_after (take at moves)

-- from one of the places the rest of the lines can be passed
abbrev pub PassesFrom : List Request → List Move → List ℕ → List (Place × ℕ) → Type 0
PassesFrom requests rest under seen = (e : Place × ℕ) × Among e seen × CanPass (may_take requests) (next_at requests) rest (pending under e.0.taken) e.0.value

-- the places behind the first lines, and the requests under way there
pub record IsFront (requests : List Request) (moves : List Move) (at : ℕ) (under : List ℕ) (seen : List (Place × ℕ)) (paths : List (List (ℕ × ℕ))) : Type 0 where
  pub lead : AllLead requests (reached moves at) paths seen
  pub under_from : Each (IsUnder requests (reached moves at)) under
  pub under_all : (x : ℕ) → IsUnder requests (reached moves at) x → has_failed (request_at requests x) ≡ false → Among x under
  pub passing : CanPassAll requests moves → PassesFrom requests (drop at moves) under seen

-- no line
abbrev pub no_move : Move
no_move = (0, false, 0)

-- the line at an index
abbrev pub move_at : List Move → ℕ → Move
move_at moves at = slice_index_or moves at no_move
