use Rattle.std.proofs.Common.{◌≡◌, List, ℕ, codes, ap, sym, ◌∙◌, Result, refl, subst}
use Rattle.std.specs.Prelude.{⊤}
use Rattle.serde_json.specs.Data.{Data, string}
use Rattle.sc_base.specs.declared.ops.Op.{Op}
use Rattle.sc_base.specs.declared.ops.Op.TheVariants.{Get, Put, Del, Add, Cas}
use Rattle.sc_json_text.specs.rows.Ops.{op_json, FitsOp}
use Rattle.sc_json_text.specs.rows.Shapes.{variant}
use Rattle.sc_json_read.specs.Reading.{Finds, MayBeVariant, content_of}
use Rattle.sc_json_text.specs.rows.Shapes.{variant_name}
use Rattle.sc_json_read.specs.declared.errors.RowError.{RowError}
use Rattle.sc_json_read.specs.declared.errors.RowError.TheVariants.{NoRow, OutOfMemory}
use Rattle.sc_json_text.proofs.RowsProofs.Apart.{apart}
use Rattle.sc_json_read.proofs.Variants.{arm_exact}
use Rattle.sc_json_read.proofs.ops.OpFromJson.from_json.Goals as goal

-- the name of each variant
name : Op → List ℕ
name (Get key) = codes "Get"
name (Put key value) = codes "Put"
name (Del key) = codes "Del"
name (Add key value) = codes "Add"
name (Cas key expect value) = codes "Cas"

-- the variants that have a content
HasContent : Op → Type 0
HasContent (Get key) = ⊤
HasContent (Put key value) = ⊤
HasContent (Del key) = ⊤
HasContent (Add key value) = ⊤
HasContent (Cas key expect value) = ⊤

of_value : (value : Op) → MayBeVariant (op_json value)
unfolding op_json
of_value (Get key) = tt
of_value (Put key value) = tt
of_value (Del key) = tt
of_value (Add key value) = tt
of_value (Cas key expect value) = tt

-- the JSON may be a variant
shaped : (json : Data) (value : Op) → json ≡ op_json value → MayBeVariant json
shaped json value e = subst MayBeVariant (sym e) (of_value value)

named_as : (value : Op) → variant_name (op_json value) ≡ name value
unfolding name op_json
named_as (Get key) = refl
named_as (Put key value) = refl
named_as (Del key) = refl
named_as (Add key value) = refl
named_as (Cas key expect value) = refl

-- the name that was found is that of the variant
called : (json : Data) (found : List ℕ) (value : Op) → json ≡ op_json value → found ≡ variant_name json → found ≡ name value
called json found value e named = named ∙ (ap variant_name e ∙ named_as value)

whole_of : (value : Op) → HasContent value → variant (name value) (content_of (op_json value)) ≡ op_json value
unfolding name HasContent op_json
whole_of (Get key) some = refl
whole_of (Put key value) some = refl
whole_of (Del key) some = refl
whole_of (Add key value) some = refl
whole_of (Cas key expect value) some = refl

-- the name and the content that were found make the JSON
rebuilt : (json content : Data) (value : Op) → json ≡ op_json value → content ≡ content_of json → HasContent value → variant (name value) content ≡ op_json value
rebuilt json content value e inner some = ap (variant (name value)) (inner ∙ ap content_of e) ∙ whole_of value some

-- one of the names is that of the variant
none_left : (found : List ℕ) (value : Op) → found ≡ name value
    → (found ≡ codes "Get" → ⊥) → (found ≡ codes "Put" → ⊥) → (found ≡ codes "Del" → ⊥) → (found ≡ codes "Add" → ⊥) → (found ≡ codes "Cas" → ⊥) → NoRow ≡ OutOfMemory
unfolding name
none_left found (Get key) is n0 n1 n2 n3 n4 = absurd (n0 is)
none_left found (Put key value) is n0 n1 n2 n3 n4 = absurd (n1 is)
none_left found (Del key) is n0 n1 n2 n3 n4 = absurd (n2 is)
none_left found (Add key value) is n0 n1 n2 n3 n4 = absurd (n3 is)
none_left found (Cas key expect value) is n0 n1 n2 n3 n4 = absurd (n4 is)

at_get : (json content : Data) (found : List ℕ) (value : Op) (result : Result Op RowError) → json ≡ op_json value → content ≡ content_of json → found ≡ name value → found ≡ codes "Get" → FitsOp value
    → ((key : _) → FitsOp (Get key) → variant (codes "Get") content ≡ op_json (Get key) → Finds (Get key) result) → Finds value result
unfolding name HasContent
at_get json content found (Get key) result e inner_is called_so is fits read = read key fits (rebuilt json content (Get key) e inner_is tt)
at_get json content found _ result e inner_is called_so is fits read = absurd (apart _ _ (sym is ∙ called_so) refl)

at_put : (json content : Data) (found : List ℕ) (value : Op) (result : Result Op RowError) → json ≡ op_json value → content ≡ content_of json → found ≡ name value → found ≡ codes "Put" → FitsOp value
    → ((key : _) (value : _) → FitsOp (Put key value) → variant (codes "Put") content ≡ op_json (Put key value) → Finds (Put key value) result) → Finds value result
unfolding name HasContent
at_put json content found (Put key value) result e inner_is called_so is fits read = read key value fits (rebuilt json content (Put key value) e inner_is tt)
at_put json content found _ result e inner_is called_so is fits read = absurd (apart _ _ (sym is ∙ called_so) refl)

at_del : (json content : Data) (found : List ℕ) (value : Op) (result : Result Op RowError) → json ≡ op_json value → content ≡ content_of json → found ≡ name value → found ≡ codes "Del" → FitsOp value
    → ((key : _) → FitsOp (Del key) → variant (codes "Del") content ≡ op_json (Del key) → Finds (Del key) result) → Finds value result
unfolding name HasContent
at_del json content found (Del key) result e inner_is called_so is fits read = read key fits (rebuilt json content (Del key) e inner_is tt)
at_del json content found _ result e inner_is called_so is fits read = absurd (apart _ _ (sym is ∙ called_so) refl)

at_add : (json content : Data) (found : List ℕ) (value : Op) (result : Result Op RowError) → json ≡ op_json value → content ≡ content_of json → found ≡ name value → found ≡ codes "Add" → FitsOp value
    → ((key : _) (value : _) → FitsOp (Add key value) → variant (codes "Add") content ≡ op_json (Add key value) → Finds (Add key value) result) → Finds value result
unfolding name HasContent
at_add json content found (Add key value) result e inner_is called_so is fits read = read key value fits (rebuilt json content (Add key value) e inner_is tt)
at_add json content found _ result e inner_is called_so is fits read = absurd (apart _ _ (sym is ∙ called_so) refl)

at_cas : (json content : Data) (found : List ℕ) (value : Op) (result : Result Op RowError) → json ≡ op_json value → content ≡ content_of json → found ≡ name value → found ≡ codes "Cas" → FitsOp value
    → ((key : _) (expect : _) (value : _) → FitsOp (Cas key expect value) → variant (codes "Cas") content ≡ op_json (Cas key expect value) → Finds (Cas key expect value) result) → Finds value result
unfolding name HasContent
at_cas json content found (Cas key expect value) result e inner_is called_so is fits read = read key expect value fits (rebuilt json content (Cas key expect value) e inner_is tt)
at_cas json content found _ result e inner_is called_so is fits read = absurd (apart _ _ (sym is ∙ called_so) refl)

pub returns-in_default-clause-finds : goal.returns-in_default-clause-finds
returns-in_default-clause-finds c = λ value fits e. absurd (c.in_default.ensures.finds (shaped _ value e))

pub returns-in-Get-clause-finds : goal.returns-in-Get-clause-finds
returns-in-Get-clause-finds c = λ value fits e. let parts = c.in-Some.ensures.finds (shaped _ value e) in at_get _ _ _ value _ e parts.1 (called _ _ value e parts.0) c.in-Get.is fits c.op_get.ensures.finds

pub returns-in-Put-clause-finds : goal.returns-in-Put-clause-finds
returns-in-Put-clause-finds c = λ value fits e. let parts = c.in-Some.ensures.finds (shaped _ value e) in at_put _ _ _ value _ e parts.1 (called _ _ value e parts.0) c.in-Put.is fits c.op_put.ensures.finds

pub returns-in-Del-clause-finds : goal.returns-in-Del-clause-finds
returns-in-Del-clause-finds c = λ value fits e. let parts = c.in-Some.ensures.finds (shaped _ value e) in at_del _ _ _ value _ e parts.1 (called _ _ value e parts.0) c.in-Del.is fits c.op_del.ensures.finds

pub returns-in-Add-clause-finds : goal.returns-in-Add-clause-finds
returns-in-Add-clause-finds c = λ value fits e. let parts = c.in-Some.ensures.finds (shaped _ value e) in at_add _ _ _ value _ e parts.1 (called _ _ value e parts.0) c.in-Add.is fits c.op_add.ensures.finds

pub returns-in-Cas-clause-finds : goal.returns-in-Cas-clause-finds
returns-in-Cas-clause-finds c = λ value fits e. let parts = c.in-Some.ensures.finds (shaped _ value e) in at_cas _ _ _ value _ e parts.1 (called _ _ value e parts.0) c.in-Cas.is fits c.op_cas.ensures.finds

pub returns-in_default-name-clause-finds : goal.returns-in_default-name-clause-finds
returns-in_default-name-clause-finds c = λ value fits e. let parts = c.in-Some.ensures.finds (shaped _ value e) in none_left _ value (called _ _ value e parts.0) c.in_default-name.not-Get c.in_default-name.not-Put c.in_default-name.not-Del c.in_default-name.not-Add c.in_default-name.not-Cas

-- no value is its own name in an object
no_echo : (value : Op) (called : List ℕ) → variant called (string called) ≡ op_json value → ⊥
unfolding op_json
no_echo (Get key) called same = cc
no_echo (Put key value) called same = cc
no_echo (Del key) called same = cc
no_echo (Add key value) called same = cc
no_echo (Cas key expect value) called same = cc

pub returns-in-Get-clause-exact : goal.returns-in-Get-clause-exact
returns-in-Get-clause-exact c = arm_exact op_json no_echo _ _ _ (codes "Get") _ c.in-Some.ensures.exact c.in-Get.is c.op_get.ensures.exact

pub returns-in-Put-clause-exact : goal.returns-in-Put-clause-exact
returns-in-Put-clause-exact c = arm_exact op_json no_echo _ _ _ (codes "Put") _ c.in-Some.ensures.exact c.in-Put.is c.op_put.ensures.exact

pub returns-in-Del-clause-exact : goal.returns-in-Del-clause-exact
returns-in-Del-clause-exact c = arm_exact op_json no_echo _ _ _ (codes "Del") _ c.in-Some.ensures.exact c.in-Del.is c.op_del.ensures.exact

pub returns-in-Add-clause-exact : goal.returns-in-Add-clause-exact
returns-in-Add-clause-exact c = arm_exact op_json no_echo _ _ _ (codes "Add") _ c.in-Some.ensures.exact c.in-Add.is c.op_add.ensures.exact

pub returns-in-Cas-clause-exact : goal.returns-in-Cas-clause-exact
returns-in-Cas-clause-exact c = arm_exact op_json no_echo _ _ _ (codes "Cas") _ c.in-Some.ensures.exact c.in-Cas.is c.op_cas.ensures.exact
