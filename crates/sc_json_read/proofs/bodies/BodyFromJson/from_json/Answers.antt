use Rattle.std.proofs.Common.{◌≡◌, List, ℕ, codes, ap, sym, ◌∙◌, Result, refl, subst}
use Rattle.std.specs.Prelude.{⊤}
use Rattle.serde_json.specs.Data.{Data, string}
use Rattle.sc_words.specs.declared.commands.bodies.Body.{Body}
use Rattle.sc_words.specs.declared.commands.bodies.Body.TheVariants.{Merge, Repart, Migrate, Split}
use Rattle.sc_json_text.specs.rows.Bodies.{body_json, FitsBody}
use Rattle.sc_json_text.specs.rows.Shapes.{variant}
use Rattle.sc_json_read.specs.Reading.{Finds, MayBeVariant, content_of}
use Rattle.sc_json_text.specs.rows.Shapes.{variant_name}
use Rattle.sc_json_read.specs.declared.errors.RowError.{RowError}
use Rattle.sc_json_read.specs.declared.errors.RowError.TheVariants.{NoRow, OutOfMemory}
use Rattle.sc_json_text.proofs.RowsProofs.Apart.{apart}
use Rattle.sc_json_read.proofs.Variants.{arm_exact, unit_exact, unit_found}
use Rattle.sc_json_read.proofs.bodies.BodyFromJson.from_json.Goals as goal

-- the name of each variant
name : Body → List ℕ
name Merge = codes "Merge"
name (Repart at) = codes "Repart"
name (Migrate node) = codes "Migrate"
name (Split at child) = codes "Split"

-- the variants that have a content
HasContent : Body → Type 0
HasContent Merge = ⊥
HasContent (Repart at) = ⊤
HasContent (Migrate node) = ⊤
HasContent (Split at child) = ⊤

of_value : (value : Body) → MayBeVariant (body_json value)
unfolding body_json
of_value Merge = tt
of_value (Repart at) = tt
of_value (Migrate node) = tt
of_value (Split at child) = tt

-- the JSON may be a variant
shaped : (json : Data) (value : Body) → json ≡ body_json value → MayBeVariant json
shaped json value e = subst MayBeVariant (sym e) (of_value value)

named_as : (value : Body) → variant_name (body_json value) ≡ name value
unfolding name body_json
named_as Merge = refl
named_as (Repart at) = refl
named_as (Migrate node) = refl
named_as (Split at child) = refl

-- the name that was found is that of the variant
called : (json : Data) (found : List ℕ) (value : Body) → json ≡ body_json value → found ≡ variant_name json → found ≡ name value
called json found value e named = named ∙ (ap variant_name e ∙ named_as value)

whole_of : (value : Body) → HasContent value → variant (name value) (content_of (body_json value)) ≡ body_json value
unfolding name HasContent body_json
whole_of Merge some = absurd some
whole_of (Repart at) some = refl
whole_of (Migrate node) some = refl
whole_of (Split at child) some = refl

-- the name and the content that were found make the JSON
rebuilt : (json content : Data) (value : Body) → json ≡ body_json value → content ≡ content_of json → HasContent value → variant (name value) content ≡ body_json value
rebuilt json content value e inner some = ap (variant (name value)) (inner ∙ ap content_of e) ∙ whole_of value some

-- one of the names is that of the variant
none_left : (found : List ℕ) (value : Body) → found ≡ name value
    → (found ≡ codes "Merge" → ⊥) → (found ≡ codes "Repart" → ⊥) → (found ≡ codes "Migrate" → ⊥) → (found ≡ codes "Split" → ⊥) → NoRow ≡ OutOfMemory
unfolding name
none_left found Merge is n0 n1 n2 n3 = absurd (n0 is)
none_left found (Repart at) is n0 n1 n2 n3 = absurd (n1 is)
none_left found (Migrate node) is n0 n1 n2 n3 = absurd (n2 is)
none_left found (Split at child) is n0 n1 n2 n3 = absurd (n3 is)

at_merge : (found : List ℕ) (value : Body) → found ≡ name value → found ≡ codes "Merge" → Merge ≡ value
unfolding name
at_merge found Merge called_so is = refl
at_merge found _ called_so is = absurd (apart _ _ (sym is ∙ called_so) refl)

at_repart : (json content : Data) (found : List ℕ) (value : Body) (result : Result Body RowError) → json ≡ body_json value → content ≡ content_of json → found ≡ name value → found ≡ codes "Repart" → FitsBody value
    → ((at : _) → FitsBody (Repart at) → variant (codes "Repart") content ≡ body_json (Repart at) → Finds (Repart at) result) → Finds value result
unfolding name HasContent
at_repart json content found (Repart at) result e inner_is called_so is fits read = read at fits (rebuilt json content (Repart at) e inner_is tt)
at_repart json content found _ result e inner_is called_so is fits read = absurd (apart _ _ (sym is ∙ called_so) refl)

at_migrate : (json content : Data) (found : List ℕ) (value : Body) (result : Result Body RowError) → json ≡ body_json value → content ≡ content_of json → found ≡ name value → found ≡ codes "Migrate" → FitsBody value
    → ((node : _) → FitsBody (Migrate node) → variant (codes "Migrate") content ≡ body_json (Migrate node) → Finds (Migrate node) result) → Finds value result
unfolding name HasContent
at_migrate json content found (Migrate node) result e inner_is called_so is fits read = read node fits (rebuilt json content (Migrate node) e inner_is tt)
at_migrate json content found _ result e inner_is called_so is fits read = absurd (apart _ _ (sym is ∙ called_so) refl)

at_split : (json content : Data) (found : List ℕ) (value : Body) (result : Result Body RowError) → json ≡ body_json value → content ≡ content_of json → found ≡ name value → found ≡ codes "Split" → FitsBody value
    → ((at : _) (child : _) → FitsBody (Split at child) → variant (codes "Split") content ≡ body_json (Split at child) → Finds (Split at child) result) → Finds value result
unfolding name HasContent
at_split json content found (Split at child) result e inner_is called_so is fits read = read at child fits (rebuilt json content (Split at child) e inner_is tt)
at_split json content found _ result e inner_is called_so is fits read = absurd (apart _ _ (sym is ∙ called_so) refl)

pub returns-in_default-clause-finds : goal.returns-in_default-clause-finds
returns-in_default-clause-finds c = λ value fits e. absurd (c.in_default.ensures.finds (shaped _ value e))

pub returns-in-Merge-clause-finds : goal.returns-in-Merge-clause-finds
unfolding body_json
returns-in-Merge-clause-finds c = λ value fits e. let parts = c.in-Some.ensures.finds (shaped _ value e) in unit_found body_json _ value Merge _ e (at_merge _ value (called _ _ value e parts.0) c.in-Merge.is) refl c.word.ensures.finds

pub returns-in-Repart-clause-finds : goal.returns-in-Repart-clause-finds
returns-in-Repart-clause-finds c = λ value fits e. let parts = c.in-Some.ensures.finds (shaped _ value e) in at_repart _ _ _ value _ e parts.1 (called _ _ value e parts.0) c.in-Repart.is fits c.body_repart.ensures.finds

pub returns-in-Migrate-clause-finds : goal.returns-in-Migrate-clause-finds
returns-in-Migrate-clause-finds c = λ value fits e. let parts = c.in-Some.ensures.finds (shaped _ value e) in at_migrate _ _ _ value _ e parts.1 (called _ _ value e parts.0) c.in-Migrate.is fits c.body_migrate.ensures.finds

pub returns-in-Split-clause-finds : goal.returns-in-Split-clause-finds
returns-in-Split-clause-finds c = λ value fits e. let parts = c.in-Some.ensures.finds (shaped _ value e) in at_split _ _ _ value _ e parts.1 (called _ _ value e parts.0) c.in-Split.is fits c.body_split.ensures.finds

pub returns-in_default-name-clause-finds : goal.returns-in_default-name-clause-finds
returns-in_default-name-clause-finds c = λ value fits e. let parts = c.in-Some.ensures.finds (shaped _ value e) in none_left _ value (called _ _ value e parts.0) c.in_default-name.not-Merge c.in_default-name.not-Repart c.in_default-name.not-Migrate c.in_default-name.not-Split

-- no value is its own name in an object
no_echo : (value : Body) (called : List ℕ) → variant called (string called) ≡ body_json value → ⊥
unfolding body_json
no_echo Merge called same = cc
no_echo (Repart at) called same = cc
no_echo (Migrate node) called same = cc
no_echo (Split at child) called same = cc

pub returns-in-Merge-clause-exact : goal.returns-in-Merge-clause-exact
unfolding body_json
returns-in-Merge-clause-exact c = unit_exact body_json _ _ _ (codes "Merge") Merge _ c.in-Some.ensures.exact c.in-Merge.is refl c.word.ensures.exact

pub returns-in-Repart-clause-exact : goal.returns-in-Repart-clause-exact
returns-in-Repart-clause-exact c = arm_exact body_json no_echo _ _ _ (codes "Repart") _ c.in-Some.ensures.exact c.in-Repart.is c.body_repart.ensures.exact

pub returns-in-Migrate-clause-exact : goal.returns-in-Migrate-clause-exact
returns-in-Migrate-clause-exact c = arm_exact body_json no_echo _ _ _ (codes "Migrate") _ c.in-Some.ensures.exact c.in-Migrate.is c.body_migrate.ensures.exact

pub returns-in-Split-clause-exact : goal.returns-in-Split-clause-exact
returns-in-Split-clause-exact c = arm_exact body_json no_echo _ _ _ (codes "Split") _ c.in-Some.ensures.exact c.in-Split.is c.body_split.ensures.exact
