use Rattle.std.proofs.Common.{◌≡◌, List, ℕ, codes, ap, sym, ◌∙◌, Result, refl, subst}
use Rattle.std.specs.Prelude.{⊤}
use Rattle.serde_json.specs.Data.{Data, string}
use Rattle.sc_words.specs.declared.commands.orders.OrderResult.{OrderResult}
use Rattle.sc_words.specs.declared.commands.orders.OrderResult.TheVariants.{Done, Committed, Aborted, Refused}
use Rattle.sc_json_text.specs.rows.Orders.{order_result_json, FitsOrderResult}
use Rattle.sc_json_text.specs.rows.Shapes.{variant}
use Rattle.sc_json_read.specs.Reading.{Finds, MayBeVariant, content_of}
use Rattle.sc_json_text.specs.rows.Shapes.{variant_name}
use Rattle.sc_json_read.specs.declared.errors.RowError.{RowError}
use Rattle.sc_json_read.specs.declared.errors.RowError.TheVariants.{NoRow, OutOfMemory}
use Rattle.sc_json_text.proofs.RowsProofs.Apart.{apart}
use Rattle.sc_json_read.proofs.Echoes.{no_refused_in_refused}
use Rattle.sc_json_read.proofs.Variants.{arm_exact, unit_exact, unit_found}
use Rattle.sc_json_read.proofs.orders.OrderResultFromJson.from_json.Goals as goal

-- the name of each variant
name : OrderResult → List ℕ
name Done = codes "Done"
name Committed = codes "Committed"
name Aborted = codes "Aborted"
name (Refused inner) = codes "Refused"

-- the variants that have a content
HasContent : OrderResult → Type 0
HasContent Done = ⊥
HasContent Committed = ⊥
HasContent Aborted = ⊥
HasContent (Refused inner) = ⊤

of_value : (value : OrderResult) → MayBeVariant (order_result_json value)
unfolding order_result_json
of_value Done = tt
of_value Committed = tt
of_value Aborted = tt
of_value (Refused inner) = tt

-- the JSON may be a variant
shaped : (json : Data) (value : OrderResult) → json ≡ order_result_json value → MayBeVariant json
shaped json value e = subst MayBeVariant (sym e) (of_value value)

named_as : (value : OrderResult) → variant_name (order_result_json value) ≡ name value
unfolding name order_result_json
named_as Done = refl
named_as Committed = refl
named_as Aborted = refl
named_as (Refused inner) = refl

-- the name that was found is that of the variant
called : (json : Data) (found : List ℕ) (value : OrderResult) → json ≡ order_result_json value → found ≡ variant_name json → found ≡ name value
called json found value e named = named ∙ (ap variant_name e ∙ named_as value)

whole_of : (value : OrderResult) → HasContent value → variant (name value) (content_of (order_result_json value)) ≡ order_result_json value
unfolding name HasContent order_result_json
whole_of Done some = absurd some
whole_of Committed some = absurd some
whole_of Aborted some = absurd some
whole_of (Refused inner) some = refl

-- the name and the content that were found make the JSON
rebuilt : (json content : Data) (value : OrderResult) → json ≡ order_result_json value → content ≡ content_of json → HasContent value → variant (name value) content ≡ order_result_json value
rebuilt json content value e inner some = ap (variant (name value)) (inner ∙ ap content_of e) ∙ whole_of value some

-- one of the names is that of the variant
none_left : (found : List ℕ) (value : OrderResult) → found ≡ name value
    → (found ≡ codes "Done" → ⊥) → (found ≡ codes "Committed" → ⊥) → (found ≡ codes "Aborted" → ⊥) → (found ≡ codes "Refused" → ⊥) → NoRow ≡ OutOfMemory
unfolding name
none_left found Done is n0 n1 n2 n3 = absurd (n0 is)
none_left found Committed is n0 n1 n2 n3 = absurd (n1 is)
none_left found Aborted is n0 n1 n2 n3 = absurd (n2 is)
none_left found (Refused inner) is n0 n1 n2 n3 = absurd (n3 is)

at_done : (found : List ℕ) (value : OrderResult) → found ≡ name value → found ≡ codes "Done" → Done ≡ value
unfolding name
at_done found Done called_so is = refl
at_done found _ called_so is = absurd (apart _ _ (sym is ∙ called_so) refl)

at_committed : (found : List ℕ) (value : OrderResult) → found ≡ name value → found ≡ codes "Committed" → Committed ≡ value
unfolding name
at_committed found Committed called_so is = refl
at_committed found _ called_so is = absurd (apart _ _ (sym is ∙ called_so) refl)

at_aborted : (found : List ℕ) (value : OrderResult) → found ≡ name value → found ≡ codes "Aborted" → Aborted ≡ value
unfolding name
at_aborted found Aborted called_so is = refl
at_aborted found _ called_so is = absurd (apart _ _ (sym is ∙ called_so) refl)

at_refused : (json content : Data) (found : List ℕ) (value : OrderResult) (result : Result OrderResult RowError) → json ≡ order_result_json value → content ≡ content_of json → found ≡ name value → found ≡ codes "Refused" → FitsOrderResult value
    → ((inner : _) → FitsOrderResult (Refused inner) → variant (codes "Refused") content ≡ order_result_json (Refused inner) → Finds (Refused inner) result) → Finds value result
unfolding name HasContent
at_refused json content found (Refused inner) result e inner_is called_so is fits read = read inner fits (rebuilt json content (Refused inner) e inner_is tt)
at_refused json content found _ result e inner_is called_so is fits read = absurd (apart _ _ (sym is ∙ called_so) refl)

pub returns-in_default-clause-finds : goal.returns-in_default-clause-finds
returns-in_default-clause-finds c = λ value fits e. absurd (c.in_default.ensures.finds (shaped _ value e))

pub returns-in-Done-clause-finds : goal.returns-in-Done-clause-finds
unfolding order_result_json
returns-in-Done-clause-finds c = λ value fits e. let parts = c.in-Some.ensures.finds (shaped _ value e) in unit_found order_result_json _ value Done _ e (at_done _ value (called _ _ value e parts.0) c.in-Done.is) refl c.word.ensures.finds

pub returns-in-Committed-clause-finds : goal.returns-in-Committed-clause-finds
unfolding order_result_json
returns-in-Committed-clause-finds c = λ value fits e. let parts = c.in-Some.ensures.finds (shaped _ value e) in unit_found order_result_json _ value Committed _ e (at_committed _ value (called _ _ value e parts.0) c.in-Committed.is) refl c.word-in-Committed.ensures.finds

pub returns-in-Aborted-clause-finds : goal.returns-in-Aborted-clause-finds
unfolding order_result_json
returns-in-Aborted-clause-finds c = λ value fits e. let parts = c.in-Some.ensures.finds (shaped _ value e) in unit_found order_result_json _ value Aborted _ e (at_aborted _ value (called _ _ value e parts.0) c.in-Aborted.is) refl c.word-in-Aborted.ensures.finds

pub returns-in-Refused-clause-finds : goal.returns-in-Refused-clause-finds
returns-in-Refused-clause-finds c = λ value fits e. let parts = c.in-Some.ensures.finds (shaped _ value e) in at_refused _ _ _ value _ e parts.1 (called _ _ value e parts.0) c.in-Refused.is fits c.order_result_refused.ensures.finds

pub returns-in_default-name-clause-finds : goal.returns-in_default-name-clause-finds
returns-in_default-name-clause-finds c = λ value fits e. let parts = c.in-Some.ensures.finds (shaped _ value e) in none_left _ value (called _ _ value e parts.0) c.in_default-name.not-Done c.in_default-name.not-Committed c.in_default-name.not-Aborted c.in_default-name.not-Refused

-- no value is its own name in an object
no_echo : (value : OrderResult) (called : List ℕ) → variant called (string called) ≡ order_result_json value → ⊥
unfolding order_result_json
no_echo Done called same = cc
no_echo Committed called same = cc
no_echo Aborted called same = cc
no_echo (Refused inner) called same = no_refused_in_refused inner called same

pub returns-in-Done-clause-exact : goal.returns-in-Done-clause-exact
unfolding order_result_json
returns-in-Done-clause-exact c = unit_exact order_result_json _ _ _ (codes "Done") Done _ c.in-Some.ensures.exact c.in-Done.is refl c.word.ensures.exact

pub returns-in-Committed-clause-exact : goal.returns-in-Committed-clause-exact
unfolding order_result_json
returns-in-Committed-clause-exact c = unit_exact order_result_json _ _ _ (codes "Committed") Committed _ c.in-Some.ensures.exact c.in-Committed.is refl c.word-in-Committed.ensures.exact

pub returns-in-Aborted-clause-exact : goal.returns-in-Aborted-clause-exact
unfolding order_result_json
returns-in-Aborted-clause-exact c = unit_exact order_result_json _ _ _ (codes "Aborted") Aborted _ c.in-Some.ensures.exact c.in-Aborted.is refl c.word-in-Aborted.ensures.exact

pub returns-in-Refused-clause-exact : goal.returns-in-Refused-clause-exact
returns-in-Refused-clause-exact c = arm_exact order_result_json no_echo _ _ _ (codes "Refused") _ c.in-Some.ensures.exact c.in-Refused.is c.order_result_refused.ensures.exact
