-- The words that a number seeds: the key stream of ChaCha with 8 rounds, keyed with the number.
use Rattle.std.specs.Prelude.{ℕ, ◌+◌, ◌*◌, ◌%◌, ◌^◌, List, ◌++◌, replicate}
use Rattle.std.specs.Int.{w64, to_le_bytes}
use Rattle.rand_chacha.specs.ChaCha.{word_at, key_of}

-- the bytes of the ChaCha key: the eight of the number, the lowest first, and 24 zeros
abbrev pub seed_of : ℕ → List ℕ
seed_of number = to_le_bytes w64 number ++ replicate 24 0

-- the word at a place of stream 0, counted from 0
unfoldable pub word_of : ℕ → ℕ → ℕ
word_of number place = word_at 4 (key_of (seed_of number)) 0 place

-- the two words of a step; steps are counted from 0
abbrev pub two_words : ℕ → ℕ → ℕ × ℕ
two_words number step = (word_of number (2 * step), word_of number (2 * step + 1))

-- the state of a generator of words: its number, and the step that comes next
pub record ChanceStep : Type 0 where
  pub number : ℕ
  pub step : ℕ

-- the generator after a step; after 2 ^ 67 steps the words come again
abbrev pub after_step : ChanceStep → ChanceStep
after_step chance = record chance { step = (chance.step + 1) % 2 ^ 67 }
