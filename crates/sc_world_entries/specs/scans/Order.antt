-- The pairs of a part, in the order of the ring from the part's start on.
use Rattle.std.specs.Prelude.{◌≡◌, ◌≢◌, ℕ, ◌<◌, Bool, not, nat_lt, List, ◌++◌, ◌⊎◌, AllPairs}
use Rattle.std.specs.List.{filter}
use Rattle.std.specs.Ordering.{nat_cmp}
use Rattle.std.specs.Cmp.Lexicographic.{slice_cmp}
use Rattle.std.specs.declared.cmp.Ordering.TheVariants.{Less}
use Rattle.sc_base.specs.Arc.{Arc, offset}
use Rattle.sc_base.specs.Text.{pos_of}
use Rattle.sc_words.specs.ideal.IdealStore.{holds_key}

-- a key and its value, by their bytes
abbrev pub Pair : Type 0
Pair = List ℕ × List ℕ

-- no two of these pairs have one key
abbrev pub HaveKeysOnce : List Pair → Type 0
HaveKeysOnce = AllPairs (λ pair other. pair.0 ≢ other.0)

-- whether a key's position is a lower number than the start of an arc
abbrev pub is_low : Arc → Pair → Bool
is_low arc pair = nat_lt (pos_of pair.0) arc.lo

-- those of these pairs whose keys an arc holds
abbrev pub held : Arc → List Pair → List Pair
held arc = filter (λ pair. holds_key arc pair.0)

-- those of these pairs whose keys an arc holds, in the order from the arc's start on, where the pairs are given in the order of their keys: those from its start up to the end of the ring, and then those from position 0 on
abbrev pub ordered : Arc → List Pair → List Pair
ordered arc pairs = filter (λ pair. not (is_low arc pair)) (held arc pairs) ++ filter (is_low arc) (held arc pairs)

-- a pair comes before another: its position is nearer behind the arc's start, or the same with the lower key
abbrev pub ComesBefore : Arc → Pair → Pair → Type 0
ComesBefore arc one other =
    (offset arc (pos_of one.0) < offset arc (pos_of other.0)) ⊎ ((offset arc (pos_of one.0) ≡ offset arc (pos_of other.0)) × (slice_cmp nat_cmp one.0 other.0 ≡ Less))
