-- Plain data, as journals hold them: each has one text, from which it is read back.
use Rattle.std.specs.Prelude.{◌≡◌, ℕ, zero, suc, ◌^◌, ◌<◌, List, Bool, true, not, ◌==◌, nat_lt, ⊤}
use Rattle.std.specs.List.{list_all}
use Rattle.std.specs.Ordering.{nat_cmp}
use Rattle.std.specs.Cmp.Lexicographic.{slice_cmp}
use Rattle.std.specs.declared.cmp.Ordering.TheVariants.{Less}
use Rattle.serde_json.specs.Data.{Num, unsigned, negative, float, Data, null, boolean, number, string, array, object, Items, no_items, item, Members, no_members, member}

-- Whether each byte of the text is a character of ASCII.
abbrev pub is_seven_bit : List ℕ → Bool
is_seven_bit text = list_all (λ byte. nat_lt byte 128) text

-- The number is unsigned and fits 64 bits.
abbrev pub IsPlainNumber : Num → Type 0
IsPlainNumber (unsigned n) = n < 2 ^ 64
IsPlainNumber (negative z) = ⊥
IsPlainNumber (float x) = ⊥

-- The name is less than the name of the first of the members, if there is one.
abbrev pub IsBelow : List ℕ → Members → Type 0
IsBelow name no_members = ⊤
IsBelow name (member other value more) = slice_cmp nat_cmp name other ≡ Less

-- The data are plain: numbers are unsigned and fit 64 bits, strings and names are ASCII, the names of an object ascend strictly, and arrays and objects nest at most `n` deep.
abbrev mutual
  pub IsPlain : ℕ → Data → Type 0
  IsPlain n null = ⊤
  IsPlain n (boolean truth) = ⊤
  IsPlain n (number value) = IsPlainNumber value
  IsPlain n (string text) = is_seven_bit text ≡ true
  IsPlain zero (array elements) = ⊥
  IsPlain (suc n) (array elements) = ItemsArePlain n elements
  IsPlain zero (object entries) = ⊥
  IsPlain (suc n) (object entries) = MembersArePlain n entries

  -- Each of the items is plain, and they nest at most `n` deep.
  pub ItemsArePlain : ℕ → Items → Type 0
  ItemsArePlain n no_items = ⊤
  ItemsArePlain n (item value more) = IsPlain n value × ItemsArePlain n more

  -- Each of the members is plain, they nest at most `n` deep, and their names are ASCII and ascend strictly.
  pub MembersArePlain : ℕ → Members → Type 0
  MembersArePlain n no_members = ⊤
  MembersArePlain n (member name value more) = (is_seven_bit name ≡ true) × IsPlain n value × IsBelow name more × MembersArePlain n more

-- Whether no byte of the text is a line feed.
abbrev pub is_one_line : List ℕ → Bool
is_one_line text = list_all (λ byte. not (byte == 10)) text
