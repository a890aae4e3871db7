-- What a parser returns.
use Rattle.std.specs.Prelude.{◌≡◌, ℕ, List, Result, MatchResult, IsSome, ⊤}
use Rattle.serde_json.specs.Find.{as_str}
use Rattle.serde_json.specs.Data.{Data, null, boolean, number, string, array, object, Members, no_members, member}
use Rattle.sc_json_text.specs.rows.Shapes.{variant}
use Rattle.sc_json_read.specs.declared.errors.RowError.{RowError}
use Rattle.sc_json_read.specs.declared.errors.RowError.TheVariants.{OutOfMemory}

-- The parser returned this value, or memory ran out.
abbrev pub Finds : {T : Type 0} → T → Result T RowError → Type 0
Finds value result = MatchResult result (λ found. found ≡ value) (λ why. why ≡ OutOfMemory)

-- The parser returned a value that is seen as this one, or memory ran out.
abbrev pub Shows : {T X : Type 0} → (T → X) → X → Result T RowError → Type 0
Shows seen value result = MatchResult result (λ found. seen found ≡ value) (λ why. why ≡ OutOfMemory)

-- The content of the first member, or null where there is none.
abbrev pub first_content : Members → Data
first_content no_members = null
first_content (member name content ms) = content

-- The content of the variant that a JSON is: of a string the string itself, of an object the content of its first member, and null for any other JSON.
abbrev pub content_of : Data → Data
content_of null = null
content_of (boolean b) = null
content_of (number n) = null
content_of (string name) = string name
content_of (array ds) = null
content_of (object ms) = first_content ms

-- There are no members.
abbrev pub IsEnd : Members → Type 0
IsEnd no_members = ⊤
IsEnd (member name content ms) = ⊥

-- There is exactly one member.
abbrev pub IsSingle : Members → Type 0
IsSingle no_members = ⊥
IsSingle (member name content ms) = IsEnd ms

-- The JSON may be that of a variant: it is a string, or an object of one member.
abbrev pub MayBeVariant : Data → Type 0
MayBeVariant null = ⊥
MayBeVariant (boolean b) = ⊥
MayBeVariant (number n) = ⊥
MayBeVariant (string name) = ⊤
MayBeVariant (array ds) = ⊥
MayBeVariant (object ms) = IsSingle ms

-- The JSON is a string, as that of a variant without content is.
abbrev pub IsWord : Data → Type 0
IsWord json = IsSome (as_str json)

-- The JSON is this name alone, which then is its own content; or it is an object of one member with this name and this content.
abbrev pub Spells : Data → List ℕ → Data → Type 0
Spells null name content = ⊥
Spells (boolean b) name content = ⊥
Spells (number n) name content = ⊥
Spells (string word) name content = (word ≡ name) × (content ≡ string word)
Spells (array ds) name content = ⊥
Spells (object ms) name content = object ms ≡ variant name content
