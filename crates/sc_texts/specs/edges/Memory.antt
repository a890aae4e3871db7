-- What contracts see of a source and of a sink in memory.
use Rattle.std.specs.Prelude.{ℕ, List}

-- a source in memory: the bytes left, the calls that fail, and how many calls and errors there were
pub record SourceState : Type 0 where
  pub left : List ℕ
  pub failing : List ℕ  -- the numbers of the calls that fail, from 1
  pub calls : ℕ
  pub errors : ℕ

-- a sink in memory: the bytes held, the room left, the calls that fail, how many calls and errors there were, and the pieces that the calls were given
pub record SinkState : Type 0 where
  pub held : List ℕ
  pub room : ℕ  -- how many bytes fit beside those that are held
  pub failing : List ℕ  -- the numbers of the calls that fail, from 1
  pub calls : ℕ
  pub errors : ℕ
  pub pieces : List (List ℕ)  -- what its calls brought, one a call, those that failed among them
