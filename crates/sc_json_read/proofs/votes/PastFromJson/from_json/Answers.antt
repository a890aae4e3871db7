use Rattle.std.proofs.Common.{◌≡◌, List, ℕ, codes, ap, sym, ◌∙◌, Result, refl, subst}
use Rattle.std.specs.Prelude.{⊤}
use Rattle.serde_json.specs.Data.{Data, string}
use Rattle.sc_words.specs.declared.commands.votes.Past.{Past}
use Rattle.sc_words.specs.declared.commands.votes.Past.TheVariants.{Yes, No, Ended}
use Rattle.sc_json_text.specs.rows.Votes.{past_json, FitsPast}
use Rattle.sc_json_text.specs.rows.Shapes.{variant}
use Rattle.sc_json_read.specs.Reading.{Finds, MayBeVariant, content_of}
use Rattle.sc_json_text.specs.rows.Shapes.{variant_name}
use Rattle.sc_json_read.specs.declared.errors.RowError.{RowError}
use Rattle.sc_json_read.specs.declared.errors.RowError.TheVariants.{NoRow, OutOfMemory}
use Rattle.sc_json_text.proofs.RowsProofs.Apart.{apart}
use Rattle.sc_json_read.proofs.Echoes.{no_in_no}
use Rattle.sc_json_read.proofs.Variants.{arm_exact, unit_exact, unit_found}
use Rattle.sc_json_read.proofs.votes.PastFromJson.from_json.Goals as goal

-- the name of each variant
name : Past → List ℕ
name Yes = codes "Yes"
name (No inner) = codes "No"
name Ended = codes "Ended"

-- the variants that have a content
HasContent : Past → Type 0
HasContent Yes = ⊥
HasContent (No inner) = ⊤
HasContent Ended = ⊥

of_value : (value : Past) → MayBeVariant (past_json value)
unfolding past_json
of_value Yes = tt
of_value (No inner) = tt
of_value Ended = tt

-- the JSON may be a variant
shaped : (json : Data) (value : Past) → json ≡ past_json value → MayBeVariant json
shaped json value e = subst MayBeVariant (sym e) (of_value value)

named_as : (value : Past) → variant_name (past_json value) ≡ name value
unfolding name past_json
named_as Yes = refl
named_as (No inner) = refl
named_as Ended = refl

-- the name that was found is that of the variant
called : (json : Data) (found : List ℕ) (value : Past) → json ≡ past_json value → found ≡ variant_name json → found ≡ name value
called json found value e named = named ∙ (ap variant_name e ∙ named_as value)

whole_of : (value : Past) → HasContent value → variant (name value) (content_of (past_json value)) ≡ past_json value
unfolding name HasContent past_json
whole_of Yes some = absurd some
whole_of (No inner) some = refl
whole_of Ended some = absurd some

-- the name and the content that were found make the JSON
rebuilt : (json content : Data) (value : Past) → json ≡ past_json value → content ≡ content_of json → HasContent value → variant (name value) content ≡ past_json value
rebuilt json content value e inner some = ap (variant (name value)) (inner ∙ ap content_of e) ∙ whole_of value some

-- one of the names is that of the variant
none_left : (found : List ℕ) (value : Past) → found ≡ name value
    → (found ≡ codes "Yes" → ⊥) → (found ≡ codes "No" → ⊥) → (found ≡ codes "Ended" → ⊥) → NoRow ≡ OutOfMemory
unfolding name
none_left found Yes is n0 n1 n2 = absurd (n0 is)
none_left found (No inner) is n0 n1 n2 = absurd (n1 is)
none_left found Ended is n0 n1 n2 = absurd (n2 is)

at_yes : (found : List ℕ) (value : Past) → found ≡ name value → found ≡ codes "Yes" → Yes ≡ value
unfolding name
at_yes found Yes called_so is = refl
at_yes found _ called_so is = absurd (apart _ _ (sym is ∙ called_so) refl)

at_no : (json content : Data) (found : List ℕ) (value : Past) (result : Result Past RowError) → json ≡ past_json value → content ≡ content_of json → found ≡ name value → found ≡ codes "No" → FitsPast value
    → ((inner : _) → FitsPast (No inner) → variant (codes "No") content ≡ past_json (No inner) → Finds (No inner) result) → Finds value result
unfolding name HasContent
at_no json content found (No inner) result e inner_is called_so is fits read = read inner fits (rebuilt json content (No inner) e inner_is tt)
at_no json content found _ result e inner_is called_so is fits read = absurd (apart _ _ (sym is ∙ called_so) refl)

at_ended : (found : List ℕ) (value : Past) → found ≡ name value → found ≡ codes "Ended" → Ended ≡ value
unfolding name
at_ended found Ended called_so is = refl
at_ended found _ called_so is = absurd (apart _ _ (sym is ∙ called_so) refl)

pub returns-in_default-clause-finds : goal.returns-in_default-clause-finds
returns-in_default-clause-finds c = λ value fits e. absurd (c.in_default.ensures.finds (shaped _ value e))

pub returns-in-Yes-clause-finds : goal.returns-in-Yes-clause-finds
unfolding past_json
returns-in-Yes-clause-finds c = λ value fits e. let parts = c.in-Some.ensures.finds (shaped _ value e) in unit_found past_json _ value Yes _ e (at_yes _ value (called _ _ value e parts.0) c.in-Yes.is) refl c.word.ensures.finds

pub returns-in-No-clause-finds : goal.returns-in-No-clause-finds
returns-in-No-clause-finds c = λ value fits e. let parts = c.in-Some.ensures.finds (shaped _ value e) in at_no _ _ _ value _ e parts.1 (called _ _ value e parts.0) c.in-No.is fits c.past_no.ensures.finds

pub returns-in-Ended-clause-finds : goal.returns-in-Ended-clause-finds
unfolding past_json
returns-in-Ended-clause-finds c = λ value fits e. let parts = c.in-Some.ensures.finds (shaped _ value e) in unit_found past_json _ value Ended _ e (at_ended _ value (called _ _ value e parts.0) c.in-Ended.is) refl c.word-in-Ended.ensures.finds

pub returns-in_default-name-clause-finds : goal.returns-in_default-name-clause-finds
returns-in_default-name-clause-finds c = λ value fits e. let parts = c.in-Some.ensures.finds (shaped _ value e) in none_left _ value (called _ _ value e parts.0) c.in_default-name.not-Yes c.in_default-name.not-No c.in_default-name.not-Ended

-- no value is its own name in an object
no_echo : (value : Past) (called : List ℕ) → variant called (string called) ≡ past_json value → ⊥
unfolding past_json
no_echo Yes called same = cc
no_echo (No inner) called same = no_in_no inner called same
no_echo Ended called same = cc

pub returns-in-Yes-clause-exact : goal.returns-in-Yes-clause-exact
unfolding past_json
returns-in-Yes-clause-exact c = unit_exact past_json _ _ _ (codes "Yes") Yes _ c.in-Some.ensures.exact c.in-Yes.is refl c.word.ensures.exact

pub returns-in-No-clause-exact : goal.returns-in-No-clause-exact
returns-in-No-clause-exact c = arm_exact past_json no_echo _ _ _ (codes "No") _ c.in-Some.ensures.exact c.in-No.is c.past_no.ensures.exact

pub returns-in-Ended-clause-exact : goal.returns-in-Ended-clause-exact
unfolding past_json
returns-in-Ended-clause-exact c = unit_exact past_json _ _ _ (codes "Ended") Ended _ c.in-Some.ensures.exact c.in-Ended.is refl c.word-in-Ended.ensures.exact
