use Rattle.std.proofs.Common.{◌≡◌, List, ℕ, codes, ap, sym, ◌∙◌, Result, refl, subst}
use Rattle.std.specs.Prelude.{⊤}
use Rattle.serde_json.specs.Data.{Data, string}
use Rattle.sc_words.specs.declared.commands.votes.Outcome.{Outcome}
use Rattle.sc_words.specs.declared.commands.votes.Outcome.TheVariants.{Abort, Merged, Moved, Migrated, Divided}
use Rattle.sc_json_text.specs.rows.Outcomes.{outcome_json, FitsOutcome}
use Rattle.sc_json_text.specs.rows.Shapes.{variant}
use Rattle.sc_json_read.specs.Reading.{Finds, MayBeVariant, content_of}
use Rattle.sc_json_text.specs.rows.Shapes.{variant_name}
use Rattle.sc_json_read.specs.declared.errors.RowError.{RowError}
use Rattle.sc_json_read.specs.declared.errors.RowError.TheVariants.{NoRow, OutOfMemory}
use Rattle.sc_json_text.proofs.RowsProofs.Apart.{apart}
use Rattle.sc_json_read.proofs.Variants.{arm_exact, unit_exact, unit_found}
use Rattle.sc_json_read.proofs.outcomes.OutcomeFromJson.from_json.Goals as goal

-- the name of each variant
name : Outcome → List ℕ
name Abort = codes "Abort"
name (Merged into) = codes "Merged"
name (Moved at gift) = codes "Moved"
name (Migrated node) = codes "Migrated"
name Divided = codes "Divided"

-- the variants that have a content
HasContent : Outcome → Type 0
HasContent Abort = ⊥
HasContent (Merged into) = ⊤
HasContent (Moved at gift) = ⊤
HasContent (Migrated node) = ⊤
HasContent Divided = ⊥

of_value : (value : Outcome) → MayBeVariant (outcome_json value)
unfolding outcome_json
of_value Abort = tt
of_value (Merged into) = tt
of_value (Moved at gift) = tt
of_value (Migrated node) = tt
of_value Divided = tt

-- the JSON may be a variant
shaped : (json : Data) (value : Outcome) → json ≡ outcome_json value → MayBeVariant json
shaped json value e = subst MayBeVariant (sym e) (of_value value)

named_as : (value : Outcome) → variant_name (outcome_json value) ≡ name value
unfolding name outcome_json
named_as Abort = refl
named_as (Merged into) = refl
named_as (Moved at gift) = refl
named_as (Migrated node) = refl
named_as Divided = refl

-- the name that was found is that of the variant
called : (json : Data) (found : List ℕ) (value : Outcome) → json ≡ outcome_json value → found ≡ variant_name json → found ≡ name value
called json found value e named = named ∙ (ap variant_name e ∙ named_as value)

whole_of : (value : Outcome) → HasContent value → variant (name value) (content_of (outcome_json value)) ≡ outcome_json value
unfolding name HasContent outcome_json
whole_of Abort some = absurd some
whole_of (Merged into) some = refl
whole_of (Moved at gift) some = refl
whole_of (Migrated node) some = refl
whole_of Divided some = absurd some

-- the name and the content that were found make the JSON
rebuilt : (json content : Data) (value : Outcome) → json ≡ outcome_json value → content ≡ content_of json → HasContent value → variant (name value) content ≡ outcome_json value
rebuilt json content value e inner some = ap (variant (name value)) (inner ∙ ap content_of e) ∙ whole_of value some

-- one of the names is that of the variant
none_left : (found : List ℕ) (value : Outcome) → found ≡ name value
    → (found ≡ codes "Abort" → ⊥) → (found ≡ codes "Merged" → ⊥) → (found ≡ codes "Moved" → ⊥) → (found ≡ codes "Migrated" → ⊥) → (found ≡ codes "Divided" → ⊥) → NoRow ≡ OutOfMemory
unfolding name
none_left found Abort is n0 n1 n2 n3 n4 = absurd (n0 is)
none_left found (Merged into) is n0 n1 n2 n3 n4 = absurd (n1 is)
none_left found (Moved at gift) is n0 n1 n2 n3 n4 = absurd (n2 is)
none_left found (Migrated node) is n0 n1 n2 n3 n4 = absurd (n3 is)
none_left found Divided is n0 n1 n2 n3 n4 = absurd (n4 is)

at_abort : (found : List ℕ) (value : Outcome) → found ≡ name value → found ≡ codes "Abort" → Abort ≡ value
unfolding name
at_abort found Abort called_so is = refl
at_abort found _ called_so is = absurd (apart _ _ (sym is ∙ called_so) refl)

at_merged : (json content : Data) (found : List ℕ) (value : Outcome) (result : Result Outcome RowError) → json ≡ outcome_json value → content ≡ content_of json → found ≡ name value → found ≡ codes "Merged" → FitsOutcome value
    → ((into : _) → FitsOutcome (Merged into) → variant (codes "Merged") content ≡ outcome_json (Merged into) → Finds (Merged into) result) → Finds value result
unfolding name HasContent
at_merged json content found (Merged into) result e inner_is called_so is fits read = read into fits (rebuilt json content (Merged into) e inner_is tt)
at_merged json content found _ result e inner_is called_so is fits read = absurd (apart _ _ (sym is ∙ called_so) refl)

at_moved : (json content : Data) (found : List ℕ) (value : Outcome) (result : Result Outcome RowError) → json ≡ outcome_json value → content ≡ content_of json → found ≡ name value → found ≡ codes "Moved" → FitsOutcome value
    → ((at : _) (gift : _) → FitsOutcome (Moved at gift) → variant (codes "Moved") content ≡ outcome_json (Moved at gift) → Finds (Moved at gift) result) → Finds value result
unfolding name HasContent
at_moved json content found (Moved at gift) result e inner_is called_so is fits read = read at gift fits (rebuilt json content (Moved at gift) e inner_is tt)
at_moved json content found _ result e inner_is called_so is fits read = absurd (apart _ _ (sym is ∙ called_so) refl)

at_migrated : (json content : Data) (found : List ℕ) (value : Outcome) (result : Result Outcome RowError) → json ≡ outcome_json value → content ≡ content_of json → found ≡ name value → found ≡ codes "Migrated" → FitsOutcome value
    → ((node : _) → FitsOutcome (Migrated node) → variant (codes "Migrated") content ≡ outcome_json (Migrated node) → Finds (Migrated node) result) → Finds value result
unfolding name HasContent
at_migrated json content found (Migrated node) result e inner_is called_so is fits read = read node fits (rebuilt json content (Migrated node) e inner_is tt)
at_migrated json content found _ result e inner_is called_so is fits read = absurd (apart _ _ (sym is ∙ called_so) refl)

at_divided : (found : List ℕ) (value : Outcome) → found ≡ name value → found ≡ codes "Divided" → Divided ≡ value
unfolding name
at_divided found Divided called_so is = refl
at_divided found _ called_so is = absurd (apart _ _ (sym is ∙ called_so) refl)

pub returns-in_default-clause-finds : goal.returns-in_default-clause-finds
returns-in_default-clause-finds c = λ value fits e. absurd (c.in_default.ensures.finds (shaped _ value e))

pub returns-in-Abort-clause-finds : goal.returns-in-Abort-clause-finds
unfolding outcome_json
returns-in-Abort-clause-finds c = λ value fits e. let parts = c.in-Some.ensures.finds (shaped _ value e) in unit_found outcome_json _ value Abort _ e (at_abort _ value (called _ _ value e parts.0) c.in-Abort.is) refl c.word.ensures.finds

pub returns-in-Merged-clause-finds : goal.returns-in-Merged-clause-finds
returns-in-Merged-clause-finds c = λ value fits e. let parts = c.in-Some.ensures.finds (shaped _ value e) in at_merged _ _ _ value _ e parts.1 (called _ _ value e parts.0) c.in-Merged.is fits c.outcome_merged.ensures.finds

pub returns-in-Moved-clause-finds : goal.returns-in-Moved-clause-finds
returns-in-Moved-clause-finds c = λ value fits e. let parts = c.in-Some.ensures.finds (shaped _ value e) in at_moved _ _ _ value _ e parts.1 (called _ _ value e parts.0) c.in-Moved.is fits c.outcome_moved.ensures.finds

pub returns-in-Migrated-clause-finds : goal.returns-in-Migrated-clause-finds
returns-in-Migrated-clause-finds c = λ value fits e. let parts = c.in-Some.ensures.finds (shaped _ value e) in at_migrated _ _ _ value _ e parts.1 (called _ _ value e parts.0) c.in-Migrated.is fits c.outcome_migrated.ensures.finds

pub returns-in-Divided-clause-finds : goal.returns-in-Divided-clause-finds
unfolding outcome_json
returns-in-Divided-clause-finds c = λ value fits e. let parts = c.in-Some.ensures.finds (shaped _ value e) in unit_found outcome_json _ value Divided _ e (at_divided _ value (called _ _ value e parts.0) c.in-Divided.is) refl c.word-in-Divided.ensures.finds

pub returns-in_default-name-clause-finds : goal.returns-in_default-name-clause-finds
returns-in_default-name-clause-finds c = λ value fits e. let parts = c.in-Some.ensures.finds (shaped _ value e) in none_left _ value (called _ _ value e parts.0) c.in_default-name.not-Abort c.in_default-name.not-Merged c.in_default-name.not-Moved c.in_default-name.not-Migrated c.in_default-name.not-Divided

-- no value is its own name in an object
no_echo : (value : Outcome) (called : List ℕ) → variant called (string called) ≡ outcome_json value → ⊥
unfolding outcome_json
no_echo Abort called same = cc
no_echo (Merged into) called same = cc
no_echo (Moved at gift) called same = cc
no_echo (Migrated node) called same = cc
no_echo Divided called same = cc

pub returns-in-Abort-clause-exact : goal.returns-in-Abort-clause-exact
unfolding outcome_json
returns-in-Abort-clause-exact c = unit_exact outcome_json _ _ _ (codes "Abort") Abort _ c.in-Some.ensures.exact c.in-Abort.is refl c.word.ensures.exact

pub returns-in-Merged-clause-exact : goal.returns-in-Merged-clause-exact
returns-in-Merged-clause-exact c = arm_exact outcome_json no_echo _ _ _ (codes "Merged") _ c.in-Some.ensures.exact c.in-Merged.is c.outcome_merged.ensures.exact

pub returns-in-Moved-clause-exact : goal.returns-in-Moved-clause-exact
returns-in-Moved-clause-exact c = arm_exact outcome_json no_echo _ _ _ (codes "Moved") _ c.in-Some.ensures.exact c.in-Moved.is c.outcome_moved.ensures.exact

pub returns-in-Migrated-clause-exact : goal.returns-in-Migrated-clause-exact
returns-in-Migrated-clause-exact c = arm_exact outcome_json no_echo _ _ _ (codes "Migrated") _ c.in-Some.ensures.exact c.in-Migrated.is c.outcome_migrated.ensures.exact

pub returns-in-Divided-clause-exact : goal.returns-in-Divided-clause-exact
unfolding outcome_json
returns-in-Divided-clause-exact c = unit_exact outcome_json _ _ _ (codes "Divided") Divided _ c.in-Some.ensures.exact c.in-Divided.is refl c.word-in-Divided.ensures.exact
