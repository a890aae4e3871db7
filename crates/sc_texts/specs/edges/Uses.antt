-- What a number of calls changed in a source and in a sink.
use Rattle.std.specs.Prelude.{ℕ, List, Option}

-- the use of a source: the bytes that were left before, where they are known, and its count of read errors before and after
pub record SourceUse : Type 0 where
  pub left : Option (List ℕ)
  pub errors_before : ℕ
  pub errors_after : ℕ

-- the use of a sink, each before and after: the bytes held and the pieces given, where these are known, and the counts of write errors and of calls
pub record SinkUse : Type 0 where
  pub held_before : Option (List ℕ)
  pub held_after : Option (List ℕ)
  pub pieces_before : Option (List (List ℕ))
  pub pieces_after : Option (List (List ℕ))
  pub errors_before : ℕ
  pub errors_after : ℕ
  pub calls_before : ℕ
  pub calls_after : ℕ
