-- The lines of a history of one key, and what a search for an order finds.
use Rattle.std.specs.Prelude.{◌≡◌, ℕ, ◌+◌, ◌<◌, Bool, true, false, not, ◌&&◌, List, length, fold, Some, None}
use Rattle.sc_base.specs.Definitions.{Among, Each}
use Rattle.sc_linear_law.specs.declared.requests.Request.{Request}
use Rattle.sc_linear_law.specs.LinearDefinitions.{Move, CanPass, EachPair, Place}
use Rattle.sc_linear.specs.Standing.{begun_at, answered_at, next_at, may_take, has, Stands, AllLead, AreApart}
use Rattle.sc_linear.specs.declared.searches.Finding.{Finding}
use Rattle.sc_linear.specs.declared.searches.Finding.TheVariants.{Found, Nothing, TooMany}

-- a line of these requests: one begins there, or is answered there
abbrev pub IsMoveOf : List Request → Move → Type 0
IsMoveOf requests (line, false, x) = (x < length requests) × (begun_at requests x ≡ line)
IsMoveOf requests (line, true, x) = (x < length requests) × (answered_at requests x ≡ Some line)

-- the lines, ascending, are all on which these requests begin and are answered
pub record IsMoves (requests : List Request) (moves : List Move) : Type 0 where
  pub timed : Each (IsMoveOf requests) moves
  pub rising : EachPair (λ (a b : Move). a.0 < b.0) moves
  pub begins : (x : ℕ) → x < length requests → Among (begun_at requests x, false, x) moves
  pub ends : (x line : ℕ) → x < length requests → answered_at requests x ≡ Some line → Among (line, true, x) moves
  pub spans : (x line : ℕ) → x < length requests → answered_at requests x ≡ Some line → begun_at requests x < line

-- the line behind these lines
abbrev pub line_after : List Move → ℕ
line_after = fold (λ (line : ℕ) (move : Move). move.0 + 1) 0

-- no request is under way
abbrev pub nobody : ℕ → Bool
nobody x = false

-- the requests under way that are not taken
abbrev pub pending : List ℕ → List ℕ → ℕ → Bool
pending under taken x = has under x && not (has taken x)

-- just before the line on which a request is answered there are more than `most` places
pub record AreTooMany (requests : List Request) (most line : ℕ) : Type 0 where
  pub who : ℕ
  pub within : who < length requests
  pub answered : answered_at requests who ≡ Some line
  pub paths : List (List (ℕ × ℕ))
  pub entries : List (Place × ℕ)
  pub lead : AllLead requests line paths entries
  pub apart : AreApart entries
  pub more : most < length entries

-- the lines of these requests can be passed
abbrev pub CanPassAll : List Request → List Move → Type 0
CanPassAll requests moves = CanPass (may_take requests) (next_at requests) moves nobody None

-- what a search found: an order, that there is none, or too many places
abbrev pub IsSearched : List Request → List Move → ℕ → Finding → Type 0
IsSearched requests moves most (Found path) = (place : Place) × Stands requests (line_after moves) place path.items
IsSearched requests moves most Nothing = CanPassAll requests moves → ⊥
IsSearched requests moves most (TooMany line) = AreTooMany requests most line
