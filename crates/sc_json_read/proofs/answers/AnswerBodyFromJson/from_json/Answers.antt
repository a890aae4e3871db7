use Rattle.std.proofs.Common.{◌≡◌, List, ℕ, codes, ap, sym, ◌∙◌, Result, refl, subst}
use Rattle.std.specs.Prelude.{⊤}
use Rattle.serde_json.specs.Data.{Data, string}
use Rattle.sc_mail.specs.declared.bodies.AnswerBody.{AnswerBody}
use Rattle.sc_mail.specs.declared.bodies.AnswerBody.TheVariants.{Value, NotLeader, NotMine, Gone, Stale}
use Rattle.sc_json_text.specs.rows.Answers.{answer_body_json, FitsAnswerBody}
use Rattle.sc_json_text.specs.rows.Ops.{reply_json}
use Rattle.sc_json_text.specs.rows.Shapes.{variant}
use Rattle.sc_json_read.specs.Reading.{Finds, MayBeVariant, content_of}
use Rattle.sc_json_text.specs.rows.Shapes.{variant_name}
use Rattle.sc_json_read.specs.declared.errors.RowError.{RowError}
use Rattle.sc_json_read.specs.declared.errors.RowError.TheVariants.{NoRow, OutOfMemory}
use Rattle.sc_json_text.proofs.RowsProofs.Apart.{apart}
use Rattle.sc_json_read.proofs.Variants.{arm_exact}
use Rattle.sc_json_read.proofs.answers.AnswerBodyFromJson.from_json.Goals as goal

-- the name of each variant
name : AnswerBody → List ℕ
name (Value inner) = codes "Value"
name (NotLeader hint) = codes "NotLeader"
name (NotMine arc succ) = codes "NotMine"
name (Gone into) = codes "Gone"
name (Stale last) = codes "Stale"

-- the variants that have a content
HasContent : AnswerBody → Type 0
HasContent (Value inner) = ⊤
HasContent (NotLeader hint) = ⊤
HasContent (NotMine arc succ) = ⊤
HasContent (Gone into) = ⊤
HasContent (Stale last) = ⊤

of_value : (value : AnswerBody) → MayBeVariant (answer_body_json value)
unfolding answer_body_json
of_value (Value inner) = tt
of_value (NotLeader hint) = tt
of_value (NotMine arc succ) = tt
of_value (Gone into) = tt
of_value (Stale last) = tt

-- the JSON may be a variant
shaped : (json : Data) (value : AnswerBody) → json ≡ answer_body_json value → MayBeVariant json
shaped json value e = subst MayBeVariant (sym e) (of_value value)

named_as : (value : AnswerBody) → variant_name (answer_body_json value) ≡ name value
unfolding name answer_body_json
named_as (Value inner) = refl
named_as (NotLeader hint) = refl
named_as (NotMine arc succ) = refl
named_as (Gone into) = refl
named_as (Stale last) = refl

-- the name that was found is that of the variant
called : (json : Data) (found : List ℕ) (value : AnswerBody) → json ≡ answer_body_json value → found ≡ variant_name json → found ≡ name value
called json found value e named = named ∙ (ap variant_name e ∙ named_as value)

whole_of : (value : AnswerBody) → HasContent value → variant (name value) (content_of (answer_body_json value)) ≡ answer_body_json value
unfolding name HasContent answer_body_json
whole_of (Value inner) some = refl
whole_of (NotLeader hint) some = refl
whole_of (NotMine arc succ) some = refl
whole_of (Gone into) some = refl
whole_of (Stale last) some = refl

-- the name and the content that were found make the JSON
rebuilt : (json content : Data) (value : AnswerBody) → json ≡ answer_body_json value → content ≡ content_of json → HasContent value → variant (name value) content ≡ answer_body_json value
rebuilt json content value e inner some = ap (variant (name value)) (inner ∙ ap content_of e) ∙ whole_of value some

-- one of the names is that of the variant
none_left : (found : List ℕ) (value : AnswerBody) → found ≡ name value
    → (found ≡ codes "Value" → ⊥) → (found ≡ codes "NotLeader" → ⊥) → (found ≡ codes "NotMine" → ⊥) → (found ≡ codes "Gone" → ⊥) → (found ≡ codes "Stale" → ⊥) → NoRow ≡ OutOfMemory
unfolding name
none_left found (Value inner) is n0 n1 n2 n3 n4 = absurd (n0 is)
none_left found (NotLeader hint) is n0 n1 n2 n3 n4 = absurd (n1 is)
none_left found (NotMine arc succ) is n0 n1 n2 n3 n4 = absurd (n2 is)
none_left found (Gone into) is n0 n1 n2 n3 n4 = absurd (n3 is)
none_left found (Stale last) is n0 n1 n2 n3 n4 = absurd (n4 is)

at_value : (json content : Data) (found : List ℕ) (value : AnswerBody) (result : Result AnswerBody RowError) → json ≡ answer_body_json value → content ≡ content_of json → found ≡ name value → found ≡ codes "Value" → FitsAnswerBody value
    → ((inner : _) → FitsAnswerBody (Value inner) → variant (codes "Value") content ≡ answer_body_json (Value inner) → Finds (Value inner) result) → Finds value result
unfolding name HasContent
at_value json content found (Value inner) result e inner_is called_so is fits read = read inner fits (rebuilt json content (Value inner) e inner_is tt)
at_value json content found _ result e inner_is called_so is fits read = absurd (apart _ _ (sym is ∙ called_so) refl)

at_not_leader : (json content : Data) (found : List ℕ) (value : AnswerBody) (result : Result AnswerBody RowError) → json ≡ answer_body_json value → content ≡ content_of json → found ≡ name value → found ≡ codes "NotLeader" → FitsAnswerBody value
    → ((hint : _) → FitsAnswerBody (NotLeader hint) → variant (codes "NotLeader") content ≡ answer_body_json (NotLeader hint) → Finds (NotLeader hint) result) → Finds value result
unfolding name HasContent
at_not_leader json content found (NotLeader hint) result e inner_is called_so is fits read = read hint fits (rebuilt json content (NotLeader hint) e inner_is tt)
at_not_leader json content found _ result e inner_is called_so is fits read = absurd (apart _ _ (sym is ∙ called_so) refl)

at_not_mine : (json content : Data) (found : List ℕ) (value : AnswerBody) (result : Result AnswerBody RowError) → json ≡ answer_body_json value → content ≡ content_of json → found ≡ name value → found ≡ codes "NotMine" → FitsAnswerBody value
    → ((arc : _) (succ : _) → FitsAnswerBody (NotMine arc succ) → variant (codes "NotMine") content ≡ answer_body_json (NotMine arc succ) → Finds (NotMine arc succ) result) → Finds value result
unfolding name HasContent
at_not_mine json content found (NotMine arc succ) result e inner_is called_so is fits read = read arc succ fits (rebuilt json content (NotMine arc succ) e inner_is tt)
at_not_mine json content found _ result e inner_is called_so is fits read = absurd (apart _ _ (sym is ∙ called_so) refl)

at_gone : (json content : Data) (found : List ℕ) (value : AnswerBody) (result : Result AnswerBody RowError) → json ≡ answer_body_json value → content ≡ content_of json → found ≡ name value → found ≡ codes "Gone" → FitsAnswerBody value
    → ((into : _) → FitsAnswerBody (Gone into) → variant (codes "Gone") content ≡ answer_body_json (Gone into) → Finds (Gone into) result) → Finds value result
unfolding name HasContent
at_gone json content found (Gone into) result e inner_is called_so is fits read = read into fits (rebuilt json content (Gone into) e inner_is tt)
at_gone json content found _ result e inner_is called_so is fits read = absurd (apart _ _ (sym is ∙ called_so) refl)

at_stale : (json content : Data) (found : List ℕ) (value : AnswerBody) (result : Result AnswerBody RowError) → json ≡ answer_body_json value → content ≡ content_of json → found ≡ name value → found ≡ codes "Stale" → FitsAnswerBody value
    → ((last : _) → FitsAnswerBody (Stale last) → variant (codes "Stale") content ≡ answer_body_json (Stale last) → Finds (Stale last) result) → Finds value result
unfolding name HasContent
at_stale json content found (Stale last) result e inner_is called_so is fits read = read last fits (rebuilt json content (Stale last) e inner_is tt)
at_stale json content found _ result e inner_is called_so is fits read = absurd (apart _ _ (sym is ∙ called_so) refl)

pub returns-in_default-clause-finds : goal.returns-in_default-clause-finds
returns-in_default-clause-finds c = λ value fits e. absurd (c.in_default.ensures.finds (shaped _ value e))

pub returns-in-Value-clause-finds : goal.returns-in-Value-clause-finds
returns-in-Value-clause-finds c = λ value fits e. let parts = c.in-Some.ensures.finds (shaped _ value e) in at_value _ _ _ value _ e parts.1 (called _ _ value e parts.0) c.in-Value.is fits c.answer_body_value.ensures.finds

pub returns-in-NotLeader-clause-finds : goal.returns-in-NotLeader-clause-finds
returns-in-NotLeader-clause-finds c = λ value fits e. let parts = c.in-Some.ensures.finds (shaped _ value e) in at_not_leader _ _ _ value _ e parts.1 (called _ _ value e parts.0) c.in-NotLeader.is fits c.answer_body_not_leader.ensures.finds

pub returns-in-NotMine-clause-finds : goal.returns-in-NotMine-clause-finds
returns-in-NotMine-clause-finds c = λ value fits e. let parts = c.in-Some.ensures.finds (shaped _ value e) in at_not_mine _ _ _ value _ e parts.1 (called _ _ value e parts.0) c.in-NotMine.is fits c.answer_body_not_mine.ensures.finds

pub returns-in-Gone-clause-finds : goal.returns-in-Gone-clause-finds
returns-in-Gone-clause-finds c = λ value fits e. let parts = c.in-Some.ensures.finds (shaped _ value e) in at_gone _ _ _ value _ e parts.1 (called _ _ value e parts.0) c.in-Gone.is fits c.answer_body_gone.ensures.finds

pub returns-in-Stale-clause-finds : goal.returns-in-Stale-clause-finds
returns-in-Stale-clause-finds c = λ value fits e. let parts = c.in-Some.ensures.finds (shaped _ value e) in at_stale _ _ _ value _ e parts.1 (called _ _ value e parts.0) c.in-Stale.is fits c.answer_body_stale.ensures.finds

pub returns-in_default-name-clause-finds : goal.returns-in_default-name-clause-finds
returns-in_default-name-clause-finds c = λ value fits e. let parts = c.in-Some.ensures.finds (shaped _ value e) in none_left _ value (called _ _ value e parts.0) c.in_default-name.not-Value c.in_default-name.not-NotLeader c.in_default-name.not-NotMine c.in_default-name.not-Gone c.in_default-name.not-Stale

-- no value is its own name in an object
no_echo : (value : AnswerBody) (called : List ℕ) → variant called (string called) ≡ answer_body_json value → ⊥
unfolding answer_body_json reply_json
no_echo (Value inner) called same = cc
no_echo (NotLeader hint) called same = cc
no_echo (NotMine arc succ) called same = cc
no_echo (Gone into) called same = cc
no_echo (Stale last) called same = cc

pub returns-in-Value-clause-exact : goal.returns-in-Value-clause-exact
returns-in-Value-clause-exact c = arm_exact answer_body_json no_echo _ _ _ (codes "Value") _ c.in-Some.ensures.exact c.in-Value.is c.answer_body_value.ensures.exact

pub returns-in-NotLeader-clause-exact : goal.returns-in-NotLeader-clause-exact
returns-in-NotLeader-clause-exact c = arm_exact answer_body_json no_echo _ _ _ (codes "NotLeader") _ c.in-Some.ensures.exact c.in-NotLeader.is c.answer_body_not_leader.ensures.exact

pub returns-in-NotMine-clause-exact : goal.returns-in-NotMine-clause-exact
returns-in-NotMine-clause-exact c = arm_exact answer_body_json no_echo _ _ _ (codes "NotMine") _ c.in-Some.ensures.exact c.in-NotMine.is c.answer_body_not_mine.ensures.exact

pub returns-in-Gone-clause-exact : goal.returns-in-Gone-clause-exact
returns-in-Gone-clause-exact c = arm_exact answer_body_json no_echo _ _ _ (codes "Gone") _ c.in-Some.ensures.exact c.in-Gone.is c.answer_body_gone.ensures.exact

pub returns-in-Stale-clause-exact : goal.returns-in-Stale-clause-exact
returns-in-Stale-clause-exact c = arm_exact answer_body_json no_echo _ _ _ (codes "Stale") _ c.in-Some.ensures.exact c.in-Stale.is c.answer_body_stale.ensures.exact
