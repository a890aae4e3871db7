use Rattle.std.proofs.Common.{◌≡◌, List, ℕ, codes, ap, sym, ◌∙◌, Result, refl, subst}
use Rattle.std.specs.Prelude.{⊤}
use Rattle.serde_json.specs.Data.{Data, string}
use Rattle.sc_words.specs.declared.commands.votes.No.{No}
use Rattle.sc_words.specs.declared.commands.votes.No.TheVariants.{Busy, Gone, Apart, TooMany}
use Rattle.sc_json_text.specs.rows.Votes.{no_json, FitsNo}
use Rattle.sc_json_text.specs.rows.Shapes.{variant}
use Rattle.sc_json_read.specs.Reading.{Finds, MayBeVariant, content_of}
use Rattle.sc_json_text.specs.rows.Shapes.{variant_name}
use Rattle.sc_json_read.specs.declared.errors.RowError.{RowError}
use Rattle.sc_json_read.specs.declared.errors.RowError.TheVariants.{NoRow, OutOfMemory}
use Rattle.sc_json_text.proofs.RowsProofs.Apart.{apart}
use Rattle.sc_json_read.proofs.Variants.{arm_exact, unit_exact, unit_found}
use Rattle.sc_json_read.proofs.votes.NoFromJson.from_json.Goals as goal

-- the name of each variant
name : No → List ℕ
name (Busy tx) = codes "Busy"
name Gone = codes "Gone"
name Apart = codes "Apart"
name (TooMany n) = codes "TooMany"

-- the variants that have a content
HasContent : No → Type 0
HasContent (Busy tx) = ⊤
HasContent Gone = ⊥
HasContent Apart = ⊥
HasContent (TooMany n) = ⊤

of_value : (value : No) → MayBeVariant (no_json value)
unfolding no_json
of_value (Busy tx) = tt
of_value Gone = tt
of_value Apart = tt
of_value (TooMany n) = tt

-- the JSON may be a variant
shaped : (json : Data) (value : No) → json ≡ no_json value → MayBeVariant json
shaped json value e = subst MayBeVariant (sym e) (of_value value)

named_as : (value : No) → variant_name (no_json value) ≡ name value
unfolding name no_json
named_as (Busy tx) = refl
named_as Gone = refl
named_as Apart = refl
named_as (TooMany n) = refl

-- the name that was found is that of the variant
called : (json : Data) (found : List ℕ) (value : No) → json ≡ no_json value → found ≡ variant_name json → found ≡ name value
called json found value e named = named ∙ (ap variant_name e ∙ named_as value)

whole_of : (value : No) → HasContent value → variant (name value) (content_of (no_json value)) ≡ no_json value
unfolding name HasContent no_json
whole_of (Busy tx) some = refl
whole_of Gone some = absurd some
whole_of Apart some = absurd some
whole_of (TooMany n) some = refl

-- the name and the content that were found make the JSON
rebuilt : (json content : Data) (value : No) → json ≡ no_json value → content ≡ content_of json → HasContent value → variant (name value) content ≡ no_json value
rebuilt json content value e inner some = ap (variant (name value)) (inner ∙ ap content_of e) ∙ whole_of value some

-- one of the names is that of the variant
none_left : (found : List ℕ) (value : No) → found ≡ name value
    → (found ≡ codes "Busy" → ⊥) → (found ≡ codes "Gone" → ⊥) → (found ≡ codes "Apart" → ⊥) → (found ≡ codes "TooMany" → ⊥) → NoRow ≡ OutOfMemory
unfolding name
none_left found (Busy tx) is n0 n1 n2 n3 = absurd (n0 is)
none_left found Gone is n0 n1 n2 n3 = absurd (n1 is)
none_left found Apart is n0 n1 n2 n3 = absurd (n2 is)
none_left found (TooMany n) is n0 n1 n2 n3 = absurd (n3 is)

at_busy : (json content : Data) (found : List ℕ) (value : No) (result : Result No RowError) → json ≡ no_json value → content ≡ content_of json → found ≡ name value → found ≡ codes "Busy" → FitsNo value
    → ((tx : _) → FitsNo (Busy tx) → variant (codes "Busy") content ≡ no_json (Busy tx) → Finds (Busy tx) result) → Finds value result
unfolding name HasContent
at_busy json content found (Busy tx) result e inner_is called_so is fits read = read tx fits (rebuilt json content (Busy tx) e inner_is tt)
at_busy json content found _ result e inner_is called_so is fits read = absurd (apart _ _ (sym is ∙ called_so) refl)

at_gone : (found : List ℕ) (value : No) → found ≡ name value → found ≡ codes "Gone" → Gone ≡ value
unfolding name
at_gone found Gone called_so is = refl
at_gone found _ called_so is = absurd (apart _ _ (sym is ∙ called_so) refl)

at_apart : (found : List ℕ) (value : No) → found ≡ name value → found ≡ codes "Apart" → Apart ≡ value
unfolding name
at_apart found Apart called_so is = refl
at_apart found _ called_so is = absurd (apart _ _ (sym is ∙ called_so) refl)

at_too_many : (json content : Data) (found : List ℕ) (value : No) (result : Result No RowError) → json ≡ no_json value → content ≡ content_of json → found ≡ name value → found ≡ codes "TooMany" → FitsNo value
    → ((n : _) → FitsNo (TooMany n) → variant (codes "TooMany") content ≡ no_json (TooMany n) → Finds (TooMany n) result) → Finds value result
unfolding name HasContent
at_too_many json content found (TooMany n) result e inner_is called_so is fits read = read n fits (rebuilt json content (TooMany n) e inner_is tt)
at_too_many json content found _ result e inner_is called_so is fits read = absurd (apart _ _ (sym is ∙ called_so) refl)

pub returns-in_default-clause-finds : goal.returns-in_default-clause-finds
returns-in_default-clause-finds c = λ value fits e. absurd (c.in_default.ensures.finds (shaped _ value e))

pub returns-in-Busy-clause-finds : goal.returns-in-Busy-clause-finds
returns-in-Busy-clause-finds c = λ value fits e. let parts = c.in-Some.ensures.finds (shaped _ value e) in at_busy _ _ _ value _ e parts.1 (called _ _ value e parts.0) c.in-Busy.is fits c.no_busy.ensures.finds

pub returns-in-Gone-clause-finds : goal.returns-in-Gone-clause-finds
unfolding no_json
returns-in-Gone-clause-finds c = λ value fits e. let parts = c.in-Some.ensures.finds (shaped _ value e) in unit_found no_json _ value Gone _ e (at_gone _ value (called _ _ value e parts.0) c.in-Gone.is) refl c.word.ensures.finds

pub returns-in-Apart-clause-finds : goal.returns-in-Apart-clause-finds
unfolding no_json
returns-in-Apart-clause-finds c = λ value fits e. let parts = c.in-Some.ensures.finds (shaped _ value e) in unit_found no_json _ value Apart _ e (at_apart _ value (called _ _ value e parts.0) c.in-Apart.is) refl c.word-in-Apart.ensures.finds

pub returns-in-TooMany-clause-finds : goal.returns-in-TooMany-clause-finds
returns-in-TooMany-clause-finds c = λ value fits e. let parts = c.in-Some.ensures.finds (shaped _ value e) in at_too_many _ _ _ value _ e parts.1 (called _ _ value e parts.0) c.in-TooMany.is fits c.no_too_many.ensures.finds

pub returns-in_default-name-clause-finds : goal.returns-in_default-name-clause-finds
returns-in_default-name-clause-finds c = λ value fits e. let parts = c.in-Some.ensures.finds (shaped _ value e) in none_left _ value (called _ _ value e parts.0) c.in_default-name.not-Busy c.in_default-name.not-Gone c.in_default-name.not-Apart c.in_default-name.not-TooMany

-- no value is its own name in an object
no_echo : (value : No) (called : List ℕ) → variant called (string called) ≡ no_json value → ⊥
unfolding no_json
no_echo (Busy tx) called same = cc
no_echo Gone called same = cc
no_echo Apart called same = cc
no_echo (TooMany n) called same = cc

pub returns-in-Busy-clause-exact : goal.returns-in-Busy-clause-exact
returns-in-Busy-clause-exact c = arm_exact no_json no_echo _ _ _ (codes "Busy") _ c.in-Some.ensures.exact c.in-Busy.is c.no_busy.ensures.exact

pub returns-in-Gone-clause-exact : goal.returns-in-Gone-clause-exact
unfolding no_json
returns-in-Gone-clause-exact c = unit_exact no_json _ _ _ (codes "Gone") Gone _ c.in-Some.ensures.exact c.in-Gone.is refl c.word.ensures.exact

pub returns-in-Apart-clause-exact : goal.returns-in-Apart-clause-exact
unfolding no_json
returns-in-Apart-clause-exact c = unit_exact no_json _ _ _ (codes "Apart") Apart _ c.in-Some.ensures.exact c.in-Apart.is refl c.word-in-Apart.ensures.exact

pub returns-in-TooMany-clause-exact : goal.returns-in-TooMany-clause-exact
returns-in-TooMany-clause-exact c = arm_exact no_json no_echo _ _ _ (codes "TooMany") _ c.in-Some.ensures.exact c.in-TooMany.is c.no_too_many.ensures.exact
