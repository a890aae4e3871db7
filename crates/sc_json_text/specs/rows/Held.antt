-- What holds of each value that the program's types can hold: numbers are in their ranges; texts, arcs and sets are valid.
use Rattle.std.specs.Prelude.{ℕ, ◌^◌, ◌<◌, List, Option, Some, None, ⊤}
use Rattle.std.specs.declared.cmp.Ordering.{Ordering}
use Rattle.sc_base.specs.Definitions.{Each, Arc, IsArc, IsAscending, longest_key, longest_value, IsText, IsRoster}

-- The number fits 8 bits.
abbrev pub FitsU8 : ℕ → Type 0
FitsU8 n = n < 2 ^ 8

-- The number fits 16 bits.
abbrev pub FitsU16 : ℕ → Type 0
FitsU16 n = n < 2 ^ 16

-- The number fits 32 bits.
abbrev pub FitsU32 : ℕ → Type 0
FitsU32 n = n < 2 ^ 32

-- The number fits 64 bits.
abbrev pub FitsU64 : ℕ → Type 0
FitsU64 n = n < 2 ^ 64

-- The key has 1 to 64 visible bytes.
abbrev pub FitsKey : List ℕ → Type 0
FitsKey = IsText longest_key

-- The value has 1 to 256 visible bytes.
abbrev pub FitsValue : List ℕ → Type 0
FitsValue = IsText longest_value

-- The arc starts on the ring and has 1 to 2^32 positions.
pub record FitsArc (arc : Arc) : Type 0 where
  pub lo : arc.lo < 2 ^ 32
  pub is_arc : IsArc arc

-- The list has one to nine nodes, ascending.
pub record FitsMembers (members : List ℕ) : Type 0 where
  pub numbers : Each FitsU16 members
  pub roster : IsRoster members

-- The value is absent, or it is valid.
abbrev pub OptionFits : {T : Type 0} → (T → Type 0) → Option T → Type 0
OptionFits Fits None = ⊤
OptionFits Fits (Some x) = Fits x

-- Both parts of the pair are valid.
abbrev pub PairFits : {A B : Type 0} → (A → Type 0) → (B → Type 0) → A × B → Type 0
PairFits First Second pair = First pair.0 × Second pair.1

-- Each entry has a valid key and a valid value, and the keys ascend strictly.
abbrev pub OrderedFits : {K V : Type 0} → (K → K → Ordering) → (K → Type 0) → (V → Type 0) → List (K × V) → Type 0
OrderedFits cmp Keys Values entries = Each (PairFits Keys Values) entries × IsAscending cmp entries
