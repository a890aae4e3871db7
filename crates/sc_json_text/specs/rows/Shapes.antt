-- Numbers, lists, pairs, values that may be absent, objects and variants as JSON.
use Rattle.std.specs.Prelude.{ℕ, List, [], ◌∷◌, Option, Some, None}
use Rattle.serde_json.specs.Data.{Data, Items, Members, null, boolean, number, unsigned, string, array, object, no_items, item, no_members, member}

-- The JSON of a number.
abbrev pub number_json : ℕ → Data
number_json n = number (unsigned n)

-- The items of the JSON array of a list.
abbrev pub items_json : {T : Type 0} → (T → Data) → List T → Items
items_json json_of [] = no_items
items_json json_of (x ∷ xs) = item (json_of x) (items_json json_of xs)

-- The JSON of a list: the array of its items.
abbrev pub list_json : {T : Type 0} → (T → Data) → List T → Data
list_json json_of xs = array (items_json json_of xs)

-- The JSON of a pair: the array of its two parts.
abbrev pub pair_json : {A B : Type 0} → (A → Data) → (B → Data) → A × B → Data
pair_json first second pair = array (item (first pair.0) (item (second pair.1) no_items))

-- The JSON of a value that may be absent: null where it is, and else the value's JSON.
abbrev pub option_json : {T : Type 0} → (T → Data) → Option T → Data
option_json json_of None = null
option_json json_of (Some x) = json_of x

-- The members of a JSON object, in the order of the list.
abbrev pub members_json : List (List ℕ × Data) → Members
members_json [] = no_members
members_json (m ∷ ms) = member m.0 m.1 (members_json ms)

-- The JSON object of these members.
abbrev pub fields : List (List ℕ × Data) → Data
fields ms = object (members_json ms)

-- The JSON of a variant with content: an object of one member, from the variant's name to its content. A variant without content is a string.
abbrev pub variant : List ℕ → Data → Data
variant name content = object (member name content no_members)

-- The name of the first member, or the empty text where there is none.
abbrev pub first_name : Members → List ℕ
first_name no_members = []
first_name (member name content ms) = name

-- The name of the variant that a JSON is: the string itself, or the name of an object's first member; the empty text for any other JSON.
abbrev pub variant_name : Data → List ℕ
variant_name null = []
variant_name (boolean b) = []
variant_name (number n) = []
variant_name (string name) = name
variant_name (array ds) = []
variant_name (object ms) = first_name ms
