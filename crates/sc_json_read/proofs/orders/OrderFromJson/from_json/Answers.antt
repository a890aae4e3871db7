use Rattle.std.proofs.Common.{◌≡◌, List, ℕ, codes, ap, sym, ◌∙◌, Result, refl, subst}
use Rattle.std.specs.Prelude.{⊤}
use Rattle.serde_json.specs.Data.{Data, string}
use Rattle.sc_words.specs.declared.commands.orders.Order.{Order}
use Rattle.sc_words.specs.declared.commands.orders.Order.TheVariants.{Join, Leave, Split, Merge, Repart, Migrate}
use Rattle.sc_json_text.specs.rows.Orders.{order_json, FitsOrder}
use Rattle.sc_json_text.specs.rows.Shapes.{variant}
use Rattle.sc_json_read.specs.Reading.{Finds, MayBeVariant, content_of}
use Rattle.sc_json_text.specs.rows.Shapes.{variant_name}
use Rattle.sc_json_read.specs.declared.errors.RowError.{RowError}
use Rattle.sc_json_read.specs.declared.errors.RowError.TheVariants.{NoRow, OutOfMemory}
use Rattle.sc_json_text.proofs.RowsProofs.Apart.{apart}
use Rattle.sc_json_read.proofs.Variants.{arm_exact}
use Rattle.sc_json_read.proofs.orders.OrderFromJson.from_json.Goals as goal

-- the name of each variant
name : Order → List ℕ
name (Join node group) = codes "Join"
name (Leave node group) = codes "Leave"
name (Split group at) = codes "Split"
name (Merge group) = codes "Merge"
name (Repart group at) = codes "Repart"
name (Migrate group node) = codes "Migrate"

-- the variants that have a content
HasContent : Order → Type 0
HasContent (Join node group) = ⊤
HasContent (Leave node group) = ⊤
HasContent (Split group at) = ⊤
HasContent (Merge group) = ⊤
HasContent (Repart group at) = ⊤
HasContent (Migrate group node) = ⊤

of_value : (value : Order) → MayBeVariant (order_json value)
unfolding order_json
of_value (Join node group) = tt
of_value (Leave node group) = tt
of_value (Split group at) = tt
of_value (Merge group) = tt
of_value (Repart group at) = tt
of_value (Migrate group node) = tt

-- the JSON may be a variant
shaped : (json : Data) (value : Order) → json ≡ order_json value → MayBeVariant json
shaped json value e = subst MayBeVariant (sym e) (of_value value)

named_as : (value : Order) → variant_name (order_json value) ≡ name value
unfolding name order_json
named_as (Join node group) = refl
named_as (Leave node group) = refl
named_as (Split group at) = refl
named_as (Merge group) = refl
named_as (Repart group at) = refl
named_as (Migrate group node) = refl

-- the name that was found is that of the variant
called : (json : Data) (found : List ℕ) (value : Order) → json ≡ order_json value → found ≡ variant_name json → found ≡ name value
called json found value e named = named ∙ (ap variant_name e ∙ named_as value)

whole_of : (value : Order) → HasContent value → variant (name value) (content_of (order_json value)) ≡ order_json value
unfolding name HasContent order_json
whole_of (Join node group) some = refl
whole_of (Leave node group) some = refl
whole_of (Split group at) some = refl
whole_of (Merge group) some = refl
whole_of (Repart group at) some = refl
whole_of (Migrate group node) some = refl

-- the name and the content that were found make the JSON
rebuilt : (json content : Data) (value : Order) → json ≡ order_json value → content ≡ content_of json → HasContent value → variant (name value) content ≡ order_json value
rebuilt json content value e inner some = ap (variant (name value)) (inner ∙ ap content_of e) ∙ whole_of value some

-- one of the names is that of the variant
none_left : (found : List ℕ) (value : Order) → found ≡ name value
    → (found ≡ codes "Join" → ⊥) → (found ≡ codes "Leave" → ⊥) → (found ≡ codes "Split" → ⊥) → (found ≡ codes "Merge" → ⊥) → (found ≡ codes "Repart" → ⊥) → (found ≡ codes "Migrate" → ⊥) → NoRow ≡ OutOfMemory
unfolding name
none_left found (Join node group) is n0 n1 n2 n3 n4 n5 = absurd (n0 is)
none_left found (Leave node group) is n0 n1 n2 n3 n4 n5 = absurd (n1 is)
none_left found (Split group at) is n0 n1 n2 n3 n4 n5 = absurd (n2 is)
none_left found (Merge group) is n0 n1 n2 n3 n4 n5 = absurd (n3 is)
none_left found (Repart group at) is n0 n1 n2 n3 n4 n5 = absurd (n4 is)
none_left found (Migrate group node) is n0 n1 n2 n3 n4 n5 = absurd (n5 is)

at_join : (json content : Data) (found : List ℕ) (value : Order) (result : Result Order RowError) → json ≡ order_json value → content ≡ content_of json → found ≡ name value → found ≡ codes "Join" → FitsOrder value
    → ((node : _) (group : _) → FitsOrder (Join node group) → variant (codes "Join") content ≡ order_json (Join node group) → Finds (Join node group) result) → Finds value result
unfolding name HasContent
at_join json content found (Join node group) result e inner_is called_so is fits read = read node group fits (rebuilt json content (Join node group) e inner_is tt)
at_join json content found _ result e inner_is called_so is fits read = absurd (apart _ _ (sym is ∙ called_so) refl)

at_leave : (json content : Data) (found : List ℕ) (value : Order) (result : Result Order RowError) → json ≡ order_json value → content ≡ content_of json → found ≡ name value → found ≡ codes "Leave" → FitsOrder value
    → ((node : _) (group : _) → FitsOrder (Leave node group) → variant (codes "Leave") content ≡ order_json (Leave node group) → Finds (Leave node group) result) → Finds value result
unfolding name HasContent
at_leave json content found (Leave node group) result e inner_is called_so is fits read = read node group fits (rebuilt json content (Leave node group) e inner_is tt)
at_leave json content found _ result e inner_is called_so is fits read = absurd (apart _ _ (sym is ∙ called_so) refl)

at_split : (json content : Data) (found : List ℕ) (value : Order) (result : Result Order RowError) → json ≡ order_json value → content ≡ content_of json → found ≡ name value → found ≡ codes "Split" → FitsOrder value
    → ((group : _) (at : _) → FitsOrder (Split group at) → variant (codes "Split") content ≡ order_json (Split group at) → Finds (Split group at) result) → Finds value result
unfolding name HasContent
at_split json content found (Split group at) result e inner_is called_so is fits read = read group at fits (rebuilt json content (Split group at) e inner_is tt)
at_split json content found _ result e inner_is called_so is fits read = absurd (apart _ _ (sym is ∙ called_so) refl)

at_merge : (json content : Data) (found : List ℕ) (value : Order) (result : Result Order RowError) → json ≡ order_json value → content ≡ content_of json → found ≡ name value → found ≡ codes "Merge" → FitsOrder value
    → ((group : _) → FitsOrder (Merge group) → variant (codes "Merge") content ≡ order_json (Merge group) → Finds (Merge group) result) → Finds value result
unfolding name HasContent
at_merge json content found (Merge group) result e inner_is called_so is fits read = read group fits (rebuilt json content (Merge group) e inner_is tt)
at_merge json content found _ result e inner_is called_so is fits read = absurd (apart _ _ (sym is ∙ called_so) refl)

at_repart : (json content : Data) (found : List ℕ) (value : Order) (result : Result Order RowError) → json ≡ order_json value → content ≡ content_of json → found ≡ name value → found ≡ codes "Repart" → FitsOrder value
    → ((group : _) (at : _) → FitsOrder (Repart group at) → variant (codes "Repart") content ≡ order_json (Repart group at) → Finds (Repart group at) result) → Finds value result
unfolding name HasContent
at_repart json content found (Repart group at) result e inner_is called_so is fits read = read group at fits (rebuilt json content (Repart group at) e inner_is tt)
at_repart json content found _ result e inner_is called_so is fits read = absurd (apart _ _ (sym is ∙ called_so) refl)

at_migrate : (json content : Data) (found : List ℕ) (value : Order) (result : Result Order RowError) → json ≡ order_json value → content ≡ content_of json → found ≡ name value → found ≡ codes "Migrate" → FitsOrder value
    → ((group : _) (node : _) → FitsOrder (Migrate group node) → variant (codes "Migrate") content ≡ order_json (Migrate group node) → Finds (Migrate group node) result) → Finds value result
unfolding name HasContent
at_migrate json content found (Migrate group node) result e inner_is called_so is fits read = read group node fits (rebuilt json content (Migrate group node) e inner_is tt)
at_migrate json content found _ result e inner_is called_so is fits read = absurd (apart _ _ (sym is ∙ called_so) refl)

pub returns-in_default-clause-finds : goal.returns-in_default-clause-finds
returns-in_default-clause-finds c = λ value fits e. absurd (c.in_default.ensures.finds (shaped _ value e))

pub returns-in-Join-clause-finds : goal.returns-in-Join-clause-finds
returns-in-Join-clause-finds c = λ value fits e. let parts = c.in-Some.ensures.finds (shaped _ value e) in at_join _ _ _ value _ e parts.1 (called _ _ value e parts.0) c.in-Join.is fits c.order_join.ensures.finds

pub returns-in-Leave-clause-finds : goal.returns-in-Leave-clause-finds
returns-in-Leave-clause-finds c = λ value fits e. let parts = c.in-Some.ensures.finds (shaped _ value e) in at_leave _ _ _ value _ e parts.1 (called _ _ value e parts.0) c.in-Leave.is fits c.order_leave.ensures.finds

pub returns-in-Split-clause-finds : goal.returns-in-Split-clause-finds
returns-in-Split-clause-finds c = λ value fits e. let parts = c.in-Some.ensures.finds (shaped _ value e) in at_split _ _ _ value _ e parts.1 (called _ _ value e parts.0) c.in-Split.is fits c.order_split.ensures.finds

pub returns-in-Merge-clause-finds : goal.returns-in-Merge-clause-finds
returns-in-Merge-clause-finds c = λ value fits e. let parts = c.in-Some.ensures.finds (shaped _ value e) in at_merge _ _ _ value _ e parts.1 (called _ _ value e parts.0) c.in-Merge.is fits c.order_merge.ensures.finds

pub returns-in-Repart-clause-finds : goal.returns-in-Repart-clause-finds
returns-in-Repart-clause-finds c = λ value fits e. let parts = c.in-Some.ensures.finds (shaped _ value e) in at_repart _ _ _ value _ e parts.1 (called _ _ value e parts.0) c.in-Repart.is fits c.order_repart.ensures.finds

pub returns-in-Migrate-clause-finds : goal.returns-in-Migrate-clause-finds
returns-in-Migrate-clause-finds c = λ value fits e. let parts = c.in-Some.ensures.finds (shaped _ value e) in at_migrate _ _ _ value _ e parts.1 (called _ _ value e parts.0) c.in-Migrate.is fits c.order_migrate.ensures.finds

pub returns-in_default-name-clause-finds : goal.returns-in_default-name-clause-finds
returns-in_default-name-clause-finds c = λ value fits e. let parts = c.in-Some.ensures.finds (shaped _ value e) in none_left _ value (called _ _ value e parts.0) c.in_default-name.not-Join c.in_default-name.not-Leave c.in_default-name.not-Split c.in_default-name.not-Merge c.in_default-name.not-Repart c.in_default-name.not-Migrate

-- no value is its own name in an object
no_echo : (value : Order) (called : List ℕ) → variant called (string called) ≡ order_json value → ⊥
unfolding order_json
no_echo (Join node group) called same = cc
no_echo (Leave node group) called same = cc
no_echo (Split group at) called same = cc
no_echo (Merge group) called same = cc
no_echo (Repart group at) called same = cc
no_echo (Migrate group node) called same = cc

pub returns-in-Join-clause-exact : goal.returns-in-Join-clause-exact
returns-in-Join-clause-exact c = arm_exact order_json no_echo _ _ _ (codes "Join") _ c.in-Some.ensures.exact c.in-Join.is c.order_join.ensures.exact

pub returns-in-Leave-clause-exact : goal.returns-in-Leave-clause-exact
returns-in-Leave-clause-exact c = arm_exact order_json no_echo _ _ _ (codes "Leave") _ c.in-Some.ensures.exact c.in-Leave.is c.order_leave.ensures.exact

pub returns-in-Split-clause-exact : goal.returns-in-Split-clause-exact
returns-in-Split-clause-exact c = arm_exact order_json no_echo _ _ _ (codes "Split") _ c.in-Some.ensures.exact c.in-Split.is c.order_split.ensures.exact

pub returns-in-Merge-clause-exact : goal.returns-in-Merge-clause-exact
returns-in-Merge-clause-exact c = arm_exact order_json no_echo _ _ _ (codes "Merge") _ c.in-Some.ensures.exact c.in-Merge.is c.order_merge.ensures.exact

pub returns-in-Repart-clause-exact : goal.returns-in-Repart-clause-exact
returns-in-Repart-clause-exact c = arm_exact order_json no_echo _ _ _ (codes "Repart") _ c.in-Some.ensures.exact c.in-Repart.is c.order_repart.ensures.exact

pub returns-in-Migrate-clause-exact : goal.returns-in-Migrate-clause-exact
returns-in-Migrate-clause-exact c = arm_exact order_json no_echo _ _ _ (codes "Migrate") _ c.in-Some.ensures.exact c.in-Migrate.is c.order_migrate.ensures.exact
