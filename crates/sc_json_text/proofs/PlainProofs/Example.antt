-- How a type's JSON is shown plain: by a tuple for each member.
use Rattle.std.specs.Prelude.{◌≡◌, ℕ, suc, ◌^◌, ◌<◌, List, codes, true, refl}
use Rattle.serde_json.specs.Data.{Data, unsigned, number, string, array, object, no_items, item, no_members, member}
use Rattle.sc_json_text.specs.plain.Plain.{is_seven_bit, IsPlain}

-- an object of two members
abbrev pub named_count : ℕ → List ℕ → Data
named_count count name = object (member (codes "count") (number (unsigned count)) (member (codes "name") (string name) no_members))

-- its names are ASCII and ascend by computing, and its values are plain as is known of them
named_counts_are_plain : (n count : ℕ) (name : List ℕ) → count < 2 ^ 64 → is_seven_bit name ≡ true → IsPlain (suc (suc n)) (named_count count name)
named_counts_are_plain n count name fits text = (refl, fits, refl, (refl, text, tt, tt))

-- the text is read back at the greatest depth that a parser accepts
named_counts_are_plain_for_readers : (count : ℕ) (name : List ℕ) → count < 2 ^ 64 → is_seven_bit name ≡ true → IsPlain 127 (named_count count name)
named_counts_are_plain_for_readers count name fits text = (refl, fits, refl, (refl, text, tt, tt))

-- a part that is plain with less room, in a list of one
lists_of_plain_are_plain : (n : ℕ) (part : Data) → IsPlain n part → IsPlain (suc (suc n)) (object (member (codes "parts") (array (item part no_items)) no_members))
lists_of_plain_are_plain n part plain = (refl, (plain, tt), tt, tt)
