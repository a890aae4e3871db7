use Rattle.std.proofs.Common.{◌≡◌, List, ℕ, codes, ap, sym, ◌∙◌, Result, refl, subst}
use Rattle.std.specs.Prelude.{⊤}
use Rattle.serde_json.specs.Data.{Data, string}
use Rattle.sc_words.specs.declared.commands.votes.Vote.{Vote}
use Rattle.sc_words.specs.declared.commands.votes.Vote.TheVariants.{Yes, No}
use Rattle.sc_json_text.specs.rows.Votes.{frozen_json, vote_json, FitsVote}
use Rattle.sc_json_text.specs.rows.Shapes.{variant}
use Rattle.sc_json_read.specs.Reading.{Finds, MayBeVariant, content_of}
use Rattle.sc_json_text.specs.rows.Shapes.{variant_name}
use Rattle.sc_json_read.specs.declared.errors.RowError.{RowError}
use Rattle.sc_json_read.specs.declared.errors.RowError.TheVariants.{NoRow, OutOfMemory}
use Rattle.sc_json_text.proofs.RowsProofs.Apart.{apart}
use Rattle.sc_json_read.proofs.Echoes.{no_in_no}
use Rattle.sc_json_read.proofs.Variants.{arm_exact}
use Rattle.sc_json_read.proofs.votes.VoteFromJson.from_json.Goals as goal

-- the name of each variant
name : Vote → List ℕ
name (Yes inner) = codes "Yes"
name (No inner) = codes "No"

-- the variants that have a content
HasContent : Vote → Type 0
HasContent (Yes inner) = ⊤
HasContent (No inner) = ⊤

of_value : (value : Vote) → MayBeVariant (vote_json value)
unfolding vote_json
of_value (Yes inner) = tt
of_value (No inner) = tt

-- the JSON may be a variant
shaped : (json : Data) (value : Vote) → json ≡ vote_json value → MayBeVariant json
shaped json value e = subst MayBeVariant (sym e) (of_value value)

named_as : (value : Vote) → variant_name (vote_json value) ≡ name value
unfolding name vote_json
named_as (Yes inner) = refl
named_as (No inner) = refl

-- the name that was found is that of the variant
called : (json : Data) (found : List ℕ) (value : Vote) → json ≡ vote_json value → found ≡ variant_name json → found ≡ name value
called json found value e named = named ∙ (ap variant_name e ∙ named_as value)

whole_of : (value : Vote) → HasContent value → variant (name value) (content_of (vote_json value)) ≡ vote_json value
unfolding name HasContent vote_json
whole_of (Yes inner) some = refl
whole_of (No inner) some = refl

-- the name and the content that were found make the JSON
rebuilt : (json content : Data) (value : Vote) → json ≡ vote_json value → content ≡ content_of json → HasContent value → variant (name value) content ≡ vote_json value
rebuilt json content value e inner some = ap (variant (name value)) (inner ∙ ap content_of e) ∙ whole_of value some

-- one of the names is that of the variant
none_left : (found : List ℕ) (value : Vote) → found ≡ name value
    → (found ≡ codes "Yes" → ⊥) → (found ≡ codes "No" → ⊥) → NoRow ≡ OutOfMemory
unfolding name
none_left found (Yes inner) is n0 n1 = absurd (n0 is)
none_left found (No inner) is n0 n1 = absurd (n1 is)

at_yes : (json content : Data) (found : List ℕ) (value : Vote) (result : Result Vote RowError) → json ≡ vote_json value → content ≡ content_of json → found ≡ name value → found ≡ codes "Yes" → FitsVote value
    → ((inner : _) → FitsVote (Yes inner) → variant (codes "Yes") content ≡ vote_json (Yes inner) → Finds (Yes inner) result) → Finds value result
unfolding name HasContent
at_yes json content found (Yes inner) result e inner_is called_so is fits read = read inner fits (rebuilt json content (Yes inner) e inner_is tt)
at_yes json content found _ result e inner_is called_so is fits read = absurd (apart _ _ (sym is ∙ called_so) refl)

at_no : (json content : Data) (found : List ℕ) (value : Vote) (result : Result Vote RowError) → json ≡ vote_json value → content ≡ content_of json → found ≡ name value → found ≡ codes "No" → FitsVote value
    → ((inner : _) → FitsVote (No inner) → variant (codes "No") content ≡ vote_json (No inner) → Finds (No inner) result) → Finds value result
unfolding name HasContent
at_no json content found (No inner) result e inner_is called_so is fits read = read inner fits (rebuilt json content (No inner) e inner_is tt)
at_no json content found _ result e inner_is called_so is fits read = absurd (apart _ _ (sym is ∙ called_so) refl)

pub returns-in_default-clause-finds : goal.returns-in_default-clause-finds
returns-in_default-clause-finds c = λ value fits e. absurd (c.in_default.ensures.finds (shaped _ value e))

pub returns-in-Yes-clause-finds : goal.returns-in-Yes-clause-finds
returns-in-Yes-clause-finds c = λ value fits e. let parts = c.in-Some.ensures.finds (shaped _ value e) in at_yes _ _ _ value _ e parts.1 (called _ _ value e parts.0) c.in-Yes.is fits c.vote_yes.ensures.finds

pub returns-in-No-clause-finds : goal.returns-in-No-clause-finds
returns-in-No-clause-finds c = λ value fits e. let parts = c.in-Some.ensures.finds (shaped _ value e) in at_no _ _ _ value _ e parts.1 (called _ _ value e parts.0) c.in-No.is fits c.vote_no.ensures.finds

pub returns-in_default-name-clause-finds : goal.returns-in_default-name-clause-finds
returns-in_default-name-clause-finds c = λ value fits e. let parts = c.in-Some.ensures.finds (shaped _ value e) in none_left _ value (called _ _ value e parts.0) c.in_default-name.not-Yes c.in_default-name.not-No

-- no value is its own name in an object
no_echo : (value : Vote) (called : List ℕ) → variant called (string called) ≡ vote_json value → ⊥
unfolding vote_json frozen_json
no_echo (Yes inner) called same = cc
no_echo (No inner) called same = no_in_no inner called same

pub returns-in-Yes-clause-exact : goal.returns-in-Yes-clause-exact
returns-in-Yes-clause-exact c = arm_exact vote_json no_echo _ _ _ (codes "Yes") _ c.in-Some.ensures.exact c.in-Yes.is c.vote_yes.ensures.exact

pub returns-in-No-clause-exact : goal.returns-in-No-clause-exact
returns-in-No-clause-exact c = arm_exact vote_json no_echo _ _ _ (codes "No") _ c.in-Some.ensures.exact c.in-No.is c.vote_no.ensures.exact
