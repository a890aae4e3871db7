-- Plain data is read back from its text.
use Rattle.std.proofs.Common.{◌≡◌, ℕ, zero, suc, ◌≤◌, List, [], false, Some, option_map, option_and_then, Less, refl, sym, ap, ◌∙◌, arith, append-nil}
use Rattle.std.specs.Prelude.{⊤}
use Rattle.std.proofs.lemmas.Cmp.{nat_list_cmp_total}
use Rattle.std.specs.Ordering.{nat_cmp, ordering_reverse}
use Rattle.std.specs.Cmp.Lexicographic.{slice_cmp}
use Rattle.json.specs.Json as json
use Rattle.json.specs.Lex.{tokens}
use Rattle.json.specs.Tree as tree
use Rattle.json.proofs.Printed.Decimals.{IsNumber-decimal}
use Rattle.json.proofs.Printed.Tokens.{tokens-print}
use Rattle.json.proofs.Printed.Trees.{value-json_tokens, ArePrintable-json_tokens}
use Rattle.serde_json.specs.Data.{Num, unsigned, negative, float, Data, null, boolean, number, string, array, object, Items, no_items, item, Members, no_members, member, put}
use Rattle.serde_json.specs.Find.{is_float}
use Rattle.serde_json.specs.Read.{of_json, of_items, of_members, max_depth, read}
use Rattle.serde_json.specs.Written.{outline, items_outline, members_outline, has_float, items_have_float, members_have_float, compact_text}
use Rattle.serde_json.proofs.Numbers.{number_of-decimal}
use Rattle.serde_json.proofs.Texts.{print-outline}
use Rattle.sc_json_text.specs.plain.Plain.{IsPlainNumber, IsBelow, IsPlain, ItemsArePlain, MembersArePlain}

-- ---- no number is a float

number_whole : (value : Num) → IsPlainNumber value → is_float value ≡ false
number_whole (unsigned n) plain = refl
number_whole (negative z) plain = absurd plain
number_whole (float x) plain = absurd plain

mutual
  pub plain_has_no_float : (n : ℕ) (d : Data) → IsPlain n d → has_float d ≡ false
  plain_has_no_float n null plain = refl
  plain_has_no_float n (boolean truth) plain = refl
  plain_has_no_float n (number value) plain = number_whole value plain
  plain_has_no_float n (string text) plain = refl
  plain_has_no_float zero (array elements) plain = absurd plain
  plain_has_no_float (suc n) (array elements) plain = items_have_no_float n elements plain
  plain_has_no_float zero (object entries) plain = absurd plain
  plain_has_no_float (suc n) (object entries) plain = members_have_no_float n entries plain

  items_have_no_float : (n : ℕ) (ds : Items) → ItemsArePlain n ds → items_have_float ds ≡ false
  items_have_no_float n no_items plain = refl
  items_have_no_float n (item value more) plain = rw (plain_has_no_float n value plain.0) (items_have_no_float n more plain.1)

  members_have_no_float : (n : ℕ) (ms : Members) → MembersArePlain n ms → members_have_float ms ≡ false
  members_have_no_float n no_members plain = refl
  members_have_no_float n (member name value more) plain = rw (plain_has_no_float n value plain.1) (members_have_no_float n more plain.3)

-- ---- numbers are written as JSON's

mutual
  outline_has_numbers : (n : ℕ) (d : Data) → IsPlain n d → tree.HasNumbers (outline d)
  outline_has_numbers n null plain = tt
  outline_has_numbers n (boolean truth) plain = tt
  outline_has_numbers n (number (unsigned k)) plain = IsNumber-decimal k plain
  outline_has_numbers n (number (negative z)) plain = absurd plain
  outline_has_numbers n (number (float x)) plain = absurd plain
  outline_has_numbers n (string text) plain = tt
  outline_has_numbers zero (array elements) plain = absurd plain
  outline_has_numbers (suc n) (array elements) plain = items_have_numbers n elements plain
  outline_has_numbers zero (object entries) plain = absurd plain
  outline_has_numbers (suc n) (object entries) plain = members_have_numbers n entries plain

  items_have_numbers : (n : ℕ) (ds : Items) → ItemsArePlain n ds → tree.ItemsHaveNumbers (items_outline ds)
  items_have_numbers n no_items plain = tt
  items_have_numbers n (item value more) plain = (outline_has_numbers n value plain.0, items_have_numbers n more plain.1)

  members_have_numbers : (n : ℕ) (ms : Members) → MembersArePlain n ms → tree.MembersHaveNumbers (members_outline ms)
  members_have_numbers n no_members plain = tt
  members_have_numbers n (member name value more) plain = (outline_has_numbers n value plain.1, members_have_numbers n more plain.3)

-- ---- the outline nests no deeper than is said

mutual
  outline_depth : (n : ℕ) (d : Data) → IsPlain n d → tree.depth (outline d) ≤ n
  outline_depth n null plain = omega arith
  outline_depth n (boolean truth) plain = omega arith
  outline_depth n (number value) plain = omega arith
  outline_depth n (string text) plain = omega arith
  outline_depth zero (array elements) plain = absurd plain
  outline_depth (suc n) (array elements) plain = let inner = items_depth n elements plain in omega arith
  outline_depth zero (object entries) plain = absurd plain
  outline_depth (suc n) (object entries) plain = let inner = members_depth n entries plain in omega arith

  items_depth : (n : ℕ) (ds : Items) → ItemsArePlain n ds → tree.items_depth (items_outline ds) ≤ n
  items_depth n no_items plain = omega arith
  items_depth n (item value more) plain =
      let first = outline_depth n value plain.0 in
      let rest = items_depth n more plain.1 in
      omega arith

  members_depth : (n : ℕ) (ms : Members) → MembersArePlain n ms → tree.members_depth (members_outline ms) ≤ n
  members_depth n no_members plain = omega arith
  members_depth n (member name value more) plain =
      let first = outline_depth n value plain.1 in
      let rest = members_depth n more plain.3 in
      omega arith

-- ---- members that ascend stay as they stand

-- the members and then the others
abbrev joined : Members → Members → Members
joined no_members others = others
joined (member name value more) others = member name value (joined more others)

-- each of the names is below this one
abbrev AreBelow : Members → List ℕ → Type 0
AreBelow no_members name = ⊤
AreBelow (member other value more) name = (slice_cmp nat_cmp other name ≡ Less) × AreBelow more name

-- each of the names is below the first that follows
abbrev Precede : Members → Members → Type 0
Precede found no_members = ⊤
Precede found (member name value more) = AreBelow found name

put_last : (name : List ℕ) (value : Data) (found : Members) → AreBelow found name → put name value found ≡ joined found (member name value no_members)
put_last name value no_members below = refl
put_last name value (member other first found) below =
    rw (nat_list_cmp_total.antisymm name other ∙ ap ordering_reverse below.0) (ap (member other first) (put_last name value found below.1))

joined_assoc : (found others last : Members) → joined (joined found others) last ≡ joined found (joined others last)
joined_assoc no_members others last = refl
joined_assoc (member name value found) others last = ap (member name value) (joined_assoc found others last)

joined_nothing : (found : Members) → joined found no_members ≡ found
joined_nothing no_members = refl
joined_nothing (member name value found) = ap (member name value) (joined_nothing found)

more_below : (found : Members) (name : List ℕ) (value : Data) (next : List ℕ) → AreBelow found name → slice_cmp nat_cmp name next ≡ Less → AreBelow (joined found (member name value no_members)) next
more_below no_members name value next below less = (less, tt)
more_below (member other first found) name value next below less = (nat_list_cmp_total.trans other name next below.0 less, more_below found name value next below.1 less)

precede_more : (found : Members) (name : List ℕ) (value : Data) (ms : Members) → AreBelow found name → IsBelow name ms → Precede (joined found (member name value no_members)) ms
precede_more found name value no_members below less = tt
precede_more found name value (member next second more) below less = more_below found name value next below less

nothing_precedes : (ms : Members) → Precede no_members ms
nothing_precedes no_members = tt
nothing_precedes (member name value more) = tt

mutual
  plain_outline_read : (n : ℕ) (d : Data) → IsPlain n d → of_json (outline d) ≡ Some d
  plain_outline_read n null plain = refl
  plain_outline_read n (boolean truth) plain = refl
  plain_outline_read n (number (unsigned k)) plain = ap (option_map number) (number_of-decimal k plain)
  plain_outline_read n (number (negative z)) plain = absurd plain
  plain_outline_read n (number (float x)) plain = absurd plain
  plain_outline_read n (string text) plain = refl
  plain_outline_read zero (array elements) plain = absurd plain
  plain_outline_read (suc n) (array elements) plain = ap (option_map array) (items_outline_read n elements plain)
  plain_outline_read zero (object entries) plain = absurd plain
  plain_outline_read (suc n) (object entries) plain = ap (option_map object) (members_outline_read n entries no_members plain (nothing_precedes entries))

  items_outline_read : (n : ℕ) (ds : Items) → ItemsArePlain n ds → of_items (items_outline ds) ≡ Some ds
  items_outline_read n no_items plain = refl
  items_outline_read n (item value more) plain = rw (plain_outline_read n value plain.0) (ap (option_map (item value)) (items_outline_read n more plain.1))

  members_outline_read : (n : ℕ) (ms found : Members) → MembersArePlain n ms → Precede found ms → of_members (members_outline ms) found ≡ Some (joined found ms)
  members_outline_read n no_members found plain below = ap Some (sym (joined_nothing found))
  members_outline_read n (member name value more) found plain below =
      rw (plain_outline_read n value plain.1)
      (ap (of_members (members_outline more)) (put_last name value found below)
      ∙ members_outline_read n more (joined found (member name value no_members)) plain.3 (precede_more found name value more below plain.2)
      ∙ ap Some (joined_assoc found (member name value no_members) more))

-- ---- the whole text

pub plain_tokens : (n : ℕ) (d : Data) → IsPlain n d → tokens (compact_text d) ≡ tree.json_tokens (outline d)
plain_tokens n d plain = ap tokens (sym (print-outline d)) ∙ tokens-print _ (ArePrintable-json_tokens (outline d) (outline_has_numbers n d plain))

pub plain_read_back : (d : Data) → IsPlain 127 d → read (compact_text d) ≡ Some d
plain_read_back d plain =
    ap (λ o. option_and_then of_json (option_and_then (λ p. json.if_last p.0 p.1) o))
    (ap (json.value max_depth) (plain_tokens max_depth d plain ∙ sym (append-nil _)) ∙ value-json_tokens (outline d) max_depth [] (outline_depth max_depth d plain))
    ∙ plain_outline_read max_depth d plain
