use Rattle.std.proofs.Common.{◌≡◌, List, ℕ, codes, ap, sym, ◌∙◌, Result, refl, subst}
use Rattle.std.specs.Prelude.{⊤}
use Rattle.serde_json.specs.Data.{Data, string}
use Rattle.sc_words.specs.declared.commands.orders.OrderRefusal.{OrderRefusal}
use Rattle.sc_words.specs.declared.commands.orders.OrderRefusal.TheVariants.{NotLeader, InTransaction, NoNeighbour, BadBoundary, TooManyMembers, NotMember, LastMember, TxLimit, IsMember}
use Rattle.sc_json_text.specs.rows.Orders.{order_refusal_json, FitsOrderRefusal}
use Rattle.sc_json_text.specs.rows.Shapes.{variant}
use Rattle.sc_json_read.specs.Reading.{Finds, MayBeVariant, content_of}
use Rattle.sc_json_text.specs.rows.Shapes.{variant_name}
use Rattle.sc_json_read.specs.declared.errors.RowError.{RowError}
use Rattle.sc_json_read.specs.declared.errors.RowError.TheVariants.{NoRow, OutOfMemory}
use Rattle.sc_json_text.proofs.RowsProofs.Apart.{apart}
use Rattle.sc_json_read.proofs.Variants.{arm_exact, unit_exact, unit_found}
use Rattle.sc_json_read.proofs.orders.OrderRefusalFromJson.from_json.Goals as goal

-- the name of each variant
name : OrderRefusal → List ℕ
name (NotLeader hint) = codes "NotLeader"
name (InTransaction tx) = codes "InTransaction"
name NoNeighbour = codes "NoNeighbour"
name BadBoundary = codes "BadBoundary"
name (TooManyMembers n) = codes "TooManyMembers"
name NotMember = codes "NotMember"
name LastMember = codes "LastMember"
name TxLimit = codes "TxLimit"
name IsMember = codes "IsMember"

-- the variants that have a content
HasContent : OrderRefusal → Type 0
HasContent (NotLeader hint) = ⊤
HasContent (InTransaction tx) = ⊤
HasContent NoNeighbour = ⊥
HasContent BadBoundary = ⊥
HasContent (TooManyMembers n) = ⊤
HasContent NotMember = ⊥
HasContent LastMember = ⊥
HasContent TxLimit = ⊥
HasContent IsMember = ⊥

of_value : (value : OrderRefusal) → MayBeVariant (order_refusal_json value)
unfolding order_refusal_json
of_value (NotLeader hint) = tt
of_value (InTransaction tx) = tt
of_value NoNeighbour = tt
of_value BadBoundary = tt
of_value (TooManyMembers n) = tt
of_value NotMember = tt
of_value LastMember = tt
of_value TxLimit = tt
of_value IsMember = tt

-- the JSON may be a variant
shaped : (json : Data) (value : OrderRefusal) → json ≡ order_refusal_json value → MayBeVariant json
shaped json value e = subst MayBeVariant (sym e) (of_value value)

named_as : (value : OrderRefusal) → variant_name (order_refusal_json value) ≡ name value
unfolding name order_refusal_json
named_as (NotLeader hint) = refl
named_as (InTransaction tx) = refl
named_as NoNeighbour = refl
named_as BadBoundary = refl
named_as (TooManyMembers n) = refl
named_as NotMember = refl
named_as LastMember = refl
named_as TxLimit = refl
named_as IsMember = refl

-- the name that was found is that of the variant
called : (json : Data) (found : List ℕ) (value : OrderRefusal) → json ≡ order_refusal_json value → found ≡ variant_name json → found ≡ name value
called json found value e named = named ∙ (ap variant_name e ∙ named_as value)

whole_of : (value : OrderRefusal) → HasContent value → variant (name value) (content_of (order_refusal_json value)) ≡ order_refusal_json value
unfolding name HasContent order_refusal_json
whole_of (NotLeader hint) some = refl
whole_of (InTransaction tx) some = refl
whole_of NoNeighbour some = absurd some
whole_of BadBoundary some = absurd some
whole_of (TooManyMembers n) some = refl
whole_of NotMember some = absurd some
whole_of LastMember some = absurd some
whole_of TxLimit some = absurd some
whole_of IsMember some = absurd some

-- the name and the content that were found make the JSON
rebuilt : (json content : Data) (value : OrderRefusal) → json ≡ order_refusal_json value → content ≡ content_of json → HasContent value → variant (name value) content ≡ order_refusal_json value
rebuilt json content value e inner some = ap (variant (name value)) (inner ∙ ap content_of e) ∙ whole_of value some

-- one of the names is that of the variant
none_left : (found : List ℕ) (value : OrderRefusal) → found ≡ name value
    → (found ≡ codes "NotLeader" → ⊥) → (found ≡ codes "InTransaction" → ⊥) → (found ≡ codes "NoNeighbour" → ⊥) → (found ≡ codes "BadBoundary" → ⊥) → (found ≡ codes "TooManyMembers" → ⊥) → (found ≡ codes "NotMember" → ⊥) → (found ≡ codes "LastMember" → ⊥) → (found ≡ codes "TxLimit" → ⊥) → (found ≡ codes "IsMember" → ⊥) → NoRow ≡ OutOfMemory
unfolding name
none_left found (NotLeader hint) is n0 n1 n2 n3 n4 n5 n6 n7 n8 = absurd (n0 is)
none_left found (InTransaction tx) is n0 n1 n2 n3 n4 n5 n6 n7 n8 = absurd (n1 is)
none_left found NoNeighbour is n0 n1 n2 n3 n4 n5 n6 n7 n8 = absurd (n2 is)
none_left found BadBoundary is n0 n1 n2 n3 n4 n5 n6 n7 n8 = absurd (n3 is)
none_left found (TooManyMembers n) is n0 n1 n2 n3 n4 n5 n6 n7 n8 = absurd (n4 is)
none_left found NotMember is n0 n1 n2 n3 n4 n5 n6 n7 n8 = absurd (n5 is)
none_left found LastMember is n0 n1 n2 n3 n4 n5 n6 n7 n8 = absurd (n6 is)
none_left found TxLimit is n0 n1 n2 n3 n4 n5 n6 n7 n8 = absurd (n7 is)
none_left found IsMember is n0 n1 n2 n3 n4 n5 n6 n7 n8 = absurd (n8 is)

at_not_leader : (json content : Data) (found : List ℕ) (value : OrderRefusal) (result : Result OrderRefusal RowError) → json ≡ order_refusal_json value → content ≡ content_of json → found ≡ name value → found ≡ codes "NotLeader" → FitsOrderRefusal value
    → ((hint : _) → FitsOrderRefusal (NotLeader hint) → variant (codes "NotLeader") content ≡ order_refusal_json (NotLeader hint) → Finds (NotLeader hint) result) → Finds value result
unfolding name HasContent
at_not_leader json content found (NotLeader hint) result e inner_is called_so is fits read = read hint fits (rebuilt json content (NotLeader hint) e inner_is tt)
at_not_leader json content found _ result e inner_is called_so is fits read = absurd (apart _ _ (sym is ∙ called_so) refl)

at_in_transaction : (json content : Data) (found : List ℕ) (value : OrderRefusal) (result : Result OrderRefusal RowError) → json ≡ order_refusal_json value → content ≡ content_of json → found ≡ name value → found ≡ codes "InTransaction" → FitsOrderRefusal value
    → ((tx : _) → FitsOrderRefusal (InTransaction tx) → variant (codes "InTransaction") content ≡ order_refusal_json (InTransaction tx) → Finds (InTransaction tx) result) → Finds value result
unfolding name HasContent
at_in_transaction json content found (InTransaction tx) result e inner_is called_so is fits read = read tx fits (rebuilt json content (InTransaction tx) e inner_is tt)
at_in_transaction json content found _ result e inner_is called_so is fits read = absurd (apart _ _ (sym is ∙ called_so) refl)

at_no_neighbour : (found : List ℕ) (value : OrderRefusal) → found ≡ name value → found ≡ codes "NoNeighbour" → NoNeighbour ≡ value
unfolding name
at_no_neighbour found NoNeighbour called_so is = refl
at_no_neighbour found _ called_so is = absurd (apart _ _ (sym is ∙ called_so) refl)

at_bad_boundary : (found : List ℕ) (value : OrderRefusal) → found ≡ name value → found ≡ codes "BadBoundary" → BadBoundary ≡ value
unfolding name
at_bad_boundary found BadBoundary called_so is = refl
at_bad_boundary found _ called_so is = absurd (apart _ _ (sym is ∙ called_so) refl)

at_too_many_members : (json content : Data) (found : List ℕ) (value : OrderRefusal) (result : Result OrderRefusal RowError) → json ≡ order_refusal_json value → content ≡ content_of json → found ≡ name value → found ≡ codes "TooManyMembers" → FitsOrderRefusal value
    → ((n : _) → FitsOrderRefusal (TooManyMembers n) → variant (codes "TooManyMembers") content ≡ order_refusal_json (TooManyMembers n) → Finds (TooManyMembers n) result) → Finds value result
unfolding name HasContent
at_too_many_members json content found (TooManyMembers n) result e inner_is called_so is fits read = read n fits (rebuilt json content (TooManyMembers n) e inner_is tt)
at_too_many_members json content found _ result e inner_is called_so is fits read = absurd (apart _ _ (sym is ∙ called_so) refl)

at_not_member : (found : List ℕ) (value : OrderRefusal) → found ≡ name value → found ≡ codes "NotMember" → NotMember ≡ value
unfolding name
at_not_member found NotMember called_so is = refl
at_not_member found _ called_so is = absurd (apart _ _ (sym is ∙ called_so) refl)

at_last_member : (found : List ℕ) (value : OrderRefusal) → found ≡ name value → found ≡ codes "LastMember" → LastMember ≡ value
unfolding name
at_last_member found LastMember called_so is = refl
at_last_member found _ called_so is = absurd (apart _ _ (sym is ∙ called_so) refl)

at_tx_limit : (found : List ℕ) (value : OrderRefusal) → found ≡ name value → found ≡ codes "TxLimit" → TxLimit ≡ value
unfolding name
at_tx_limit found TxLimit called_so is = refl
at_tx_limit found _ called_so is = absurd (apart _ _ (sym is ∙ called_so) refl)

at_is_member : (found : List ℕ) (value : OrderRefusal) → found ≡ name value → found ≡ codes "IsMember" → IsMember ≡ value
unfolding name
at_is_member found IsMember called_so is = refl
at_is_member found _ called_so is = absurd (apart _ _ (sym is ∙ called_so) refl)

pub returns-in_default-clause-finds : goal.returns-in_default-clause-finds
returns-in_default-clause-finds c = λ value fits e. absurd (c.in_default.ensures.finds (shaped _ value e))

pub returns-in-NotLeader-clause-finds : goal.returns-in-NotLeader-clause-finds
returns-in-NotLeader-clause-finds c = λ value fits e. let parts = c.in-Some.ensures.finds (shaped _ value e) in at_not_leader _ _ _ value _ e parts.1 (called _ _ value e parts.0) c.in-NotLeader.is fits c.order_refusal_not_leader.ensures.finds

pub returns-in-InTransaction-clause-finds : goal.returns-in-InTransaction-clause-finds
returns-in-InTransaction-clause-finds c = λ value fits e. let parts = c.in-Some.ensures.finds (shaped _ value e) in at_in_transaction _ _ _ value _ e parts.1 (called _ _ value e parts.0) c.in-InTransaction.is fits c.order_refusal_in_transaction.ensures.finds

pub returns-in-NoNeighbour-clause-finds : goal.returns-in-NoNeighbour-clause-finds
unfolding order_refusal_json
returns-in-NoNeighbour-clause-finds c = λ value fits e. let parts = c.in-Some.ensures.finds (shaped _ value e) in unit_found order_refusal_json _ value NoNeighbour _ e (at_no_neighbour _ value (called _ _ value e parts.0) c.in-NoNeighbour.is) refl c.word.ensures.finds

pub returns-in-BadBoundary-clause-finds : goal.returns-in-BadBoundary-clause-finds
unfolding order_refusal_json
returns-in-BadBoundary-clause-finds c = λ value fits e. let parts = c.in-Some.ensures.finds (shaped _ value e) in unit_found order_refusal_json _ value BadBoundary _ e (at_bad_boundary _ value (called _ _ value e parts.0) c.in-BadBoundary.is) refl c.word-in-BadBoundary.ensures.finds

pub returns-in-TooManyMembers-clause-finds : goal.returns-in-TooManyMembers-clause-finds
returns-in-TooManyMembers-clause-finds c = λ value fits e. let parts = c.in-Some.ensures.finds (shaped _ value e) in at_too_many_members _ _ _ value _ e parts.1 (called _ _ value e parts.0) c.in-TooManyMembers.is fits c.order_refusal_too_many_members.ensures.finds

pub returns-in-NotMember-clause-finds : goal.returns-in-NotMember-clause-finds
unfolding order_refusal_json
returns-in-NotMember-clause-finds c = λ value fits e. let parts = c.in-Some.ensures.finds (shaped _ value e) in unit_found order_refusal_json _ value NotMember _ e (at_not_member _ value (called _ _ value e parts.0) c.in-NotMember.is) refl c.word-in-NotMember.ensures.finds

pub returns-in-LastMember-clause-finds : goal.returns-in-LastMember-clause-finds
unfolding order_refusal_json
returns-in-LastMember-clause-finds c = λ value fits e. let parts = c.in-Some.ensures.finds (shaped _ value e) in unit_found order_refusal_json _ value LastMember _ e (at_last_member _ value (called _ _ value e parts.0) c.in-LastMember.is) refl c.word-in-LastMember.ensures.finds

pub returns-in-TxLimit-clause-finds : goal.returns-in-TxLimit-clause-finds
unfolding order_refusal_json
returns-in-TxLimit-clause-finds c = λ value fits e. let parts = c.in-Some.ensures.finds (shaped _ value e) in unit_found order_refusal_json _ value TxLimit _ e (at_tx_limit _ value (called _ _ value e parts.0) c.in-TxLimit.is) refl c.word-in-TxLimit.ensures.finds

pub returns-in-IsMember-clause-finds : goal.returns-in-IsMember-clause-finds
unfolding order_refusal_json
returns-in-IsMember-clause-finds c = λ value fits e. let parts = c.in-Some.ensures.finds (shaped _ value e) in unit_found order_refusal_json _ value IsMember _ e (at_is_member _ value (called _ _ value e parts.0) c.in-IsMember.is) refl c.word-in-IsMember.ensures.finds

pub returns-in_default-name-clause-finds : goal.returns-in_default-name-clause-finds
returns-in_default-name-clause-finds c = λ value fits e. let parts = c.in-Some.ensures.finds (shaped _ value e) in none_left _ value (called _ _ value e parts.0) c.in_default-name.not-NotLeader c.in_default-name.not-InTransaction c.in_default-name.not-NoNeighbour c.in_default-name.not-BadBoundary c.in_default-name.not-TooManyMembers c.in_default-name.not-NotMember c.in_default-name.not-LastMember c.in_default-name.not-TxLimit c.in_default-name.not-IsMember

-- no value is its own name in an object
no_echo : (value : OrderRefusal) (called : List ℕ) → variant called (string called) ≡ order_refusal_json value → ⊥
unfolding order_refusal_json
no_echo (NotLeader hint) called same = cc
no_echo (InTransaction tx) called same = cc
no_echo NoNeighbour called same = cc
no_echo BadBoundary called same = cc
no_echo (TooManyMembers n) called same = cc
no_echo NotMember called same = cc
no_echo LastMember called same = cc
no_echo TxLimit called same = cc
no_echo IsMember called same = cc

pub returns-in-NotLeader-clause-exact : goal.returns-in-NotLeader-clause-exact
returns-in-NotLeader-clause-exact c = arm_exact order_refusal_json no_echo _ _ _ (codes "NotLeader") _ c.in-Some.ensures.exact c.in-NotLeader.is c.order_refusal_not_leader.ensures.exact

pub returns-in-InTransaction-clause-exact : goal.returns-in-InTransaction-clause-exact
returns-in-InTransaction-clause-exact c = arm_exact order_refusal_json no_echo _ _ _ (codes "InTransaction") _ c.in-Some.ensures.exact c.in-InTransaction.is c.order_refusal_in_transaction.ensures.exact

pub returns-in-NoNeighbour-clause-exact : goal.returns-in-NoNeighbour-clause-exact
unfolding order_refusal_json
returns-in-NoNeighbour-clause-exact c = unit_exact order_refusal_json _ _ _ (codes "NoNeighbour") NoNeighbour _ c.in-Some.ensures.exact c.in-NoNeighbour.is refl c.word.ensures.exact

pub returns-in-BadBoundary-clause-exact : goal.returns-in-BadBoundary-clause-exact
unfolding order_refusal_json
returns-in-BadBoundary-clause-exact c = unit_exact order_refusal_json _ _ _ (codes "BadBoundary") BadBoundary _ c.in-Some.ensures.exact c.in-BadBoundary.is refl c.word-in-BadBoundary.ensures.exact

pub returns-in-TooManyMembers-clause-exact : goal.returns-in-TooManyMembers-clause-exact
returns-in-TooManyMembers-clause-exact c = arm_exact order_refusal_json no_echo _ _ _ (codes "TooManyMembers") _ c.in-Some.ensures.exact c.in-TooManyMembers.is c.order_refusal_too_many_members.ensures.exact

pub returns-in-NotMember-clause-exact : goal.returns-in-NotMember-clause-exact
unfolding order_refusal_json
returns-in-NotMember-clause-exact c = unit_exact order_refusal_json _ _ _ (codes "NotMember") NotMember _ c.in-Some.ensures.exact c.in-NotMember.is refl c.word-in-NotMember.ensures.exact

pub returns-in-LastMember-clause-exact : goal.returns-in-LastMember-clause-exact
unfolding order_refusal_json
returns-in-LastMember-clause-exact c = unit_exact order_refusal_json _ _ _ (codes "LastMember") LastMember _ c.in-Some.ensures.exact c.in-LastMember.is refl c.word-in-LastMember.ensures.exact

pub returns-in-TxLimit-clause-exact : goal.returns-in-TxLimit-clause-exact
unfolding order_refusal_json
returns-in-TxLimit-clause-exact c = unit_exact order_refusal_json _ _ _ (codes "TxLimit") TxLimit _ c.in-Some.ensures.exact c.in-TxLimit.is refl c.word-in-TxLimit.ensures.exact

pub returns-in-IsMember-clause-exact : goal.returns-in-IsMember-clause-exact
unfolding order_refusal_json
returns-in-IsMember-clause-exact c = unit_exact order_refusal_json _ _ _ (codes "IsMember") IsMember _ c.in-Some.ensures.exact c.in-IsMember.is refl c.word-in-IsMember.ensures.exact
