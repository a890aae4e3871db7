use Rattle.std.proofs.Common.{◌≡◌, List, ℕ, codes, ap, sym, ◌∙◌, Result, refl, subst}
use Rattle.std.specs.Prelude.{⊤}
use Rattle.serde_json.specs.Data.{Data, string}
use Rattle.sc_words.specs.declared.commands.cores.Lock.{Lock}
use Rattle.sc_words.specs.declared.commands.cores.Lock.TheVariants.{Free, Coordinating, Promised, Watching}
use Rattle.sc_json_text.specs.rows.Cores.{lock_json, FitsLock}
use Rattle.sc_json_text.specs.rows.Shapes.{variant}
use Rattle.sc_json_read.specs.Reading.{Finds, MayBeVariant, content_of}
use Rattle.sc_json_text.specs.rows.Shapes.{variant_name}
use Rattle.sc_json_read.specs.declared.errors.RowError.{RowError}
use Rattle.sc_json_read.specs.declared.errors.RowError.TheVariants.{NoRow, OutOfMemory}
use Rattle.sc_json_text.proofs.RowsProofs.Apart.{apart}
use Rattle.sc_json_read.proofs.Variants.{arm_exact, unit_exact, unit_found}
use Rattle.sc_json_read.proofs.cores.LockFromJson.from_json.Goals as goal

-- the name of each variant
name : Lock → List ℕ
name Free = codes "Free"
name (Coordinating tx body order heard) = codes "Coordinating"
name (Promised tx offer) = codes "Promised"
name (Watching tx watch) = codes "Watching"

-- the variants that have a content
HasContent : Lock → Type 0
HasContent Free = ⊥
HasContent (Coordinating tx body order heard) = ⊤
HasContent (Promised tx offer) = ⊤
HasContent (Watching tx watch) = ⊤

of_value : (value : Lock) → MayBeVariant (lock_json value)
unfolding lock_json
of_value Free = tt
of_value (Coordinating tx body order heard) = tt
of_value (Promised tx offer) = tt
of_value (Watching tx watch) = tt

-- the JSON may be a variant
shaped : (json : Data) (value : Lock) → json ≡ lock_json value → MayBeVariant json
shaped json value e = subst MayBeVariant (sym e) (of_value value)

named_as : (value : Lock) → variant_name (lock_json value) ≡ name value
unfolding name lock_json
named_as Free = refl
named_as (Coordinating tx body order heard) = refl
named_as (Promised tx offer) = refl
named_as (Watching tx watch) = refl

-- the name that was found is that of the variant
called : (json : Data) (found : List ℕ) (value : Lock) → json ≡ lock_json value → found ≡ variant_name json → found ≡ name value
called json found value e named = named ∙ (ap variant_name e ∙ named_as value)

whole_of : (value : Lock) → HasContent value → variant (name value) (content_of (lock_json value)) ≡ lock_json value
unfolding name HasContent lock_json
whole_of Free some = absurd some
whole_of (Coordinating tx body order heard) some = refl
whole_of (Promised tx offer) some = refl
whole_of (Watching tx watch) some = refl

-- the name and the content that were found make the JSON
rebuilt : (json content : Data) (value : Lock) → json ≡ lock_json value → content ≡ content_of json → HasContent value → variant (name value) content ≡ lock_json value
rebuilt json content value e inner some = ap (variant (name value)) (inner ∙ ap content_of e) ∙ whole_of value some

-- one of the names is that of the variant
none_left : (found : List ℕ) (value : Lock) → found ≡ name value
    → (found ≡ codes "Free" → ⊥) → (found ≡ codes "Coordinating" → ⊥) → (found ≡ codes "Promised" → ⊥) → (found ≡ codes "Watching" → ⊥) → NoRow ≡ OutOfMemory
unfolding name
none_left found Free is n0 n1 n2 n3 = absurd (n0 is)
none_left found (Coordinating tx body order heard) is n0 n1 n2 n3 = absurd (n1 is)
none_left found (Promised tx offer) is n0 n1 n2 n3 = absurd (n2 is)
none_left found (Watching tx watch) is n0 n1 n2 n3 = absurd (n3 is)

at_free : (found : List ℕ) (value : Lock) → found ≡ name value → found ≡ codes "Free" → Free ≡ value
unfolding name
at_free found Free called_so is = refl
at_free found _ called_so is = absurd (apart _ _ (sym is ∙ called_so) refl)

at_coordinating : (json content : Data) (found : List ℕ) (value : Lock) (result : Result Lock RowError) → json ≡ lock_json value → content ≡ content_of json → found ≡ name value → found ≡ codes "Coordinating" → FitsLock value
    → ((tx : _) (body : _) (order : _) (heard : _) → FitsLock (Coordinating tx body order heard) → variant (codes "Coordinating") content ≡ lock_json (Coordinating tx body order heard) → Finds (Coordinating tx body order heard) result) → Finds value result
unfolding name HasContent
at_coordinating json content found (Coordinating tx body order heard) result e inner_is called_so is fits read = read tx body order heard fits (rebuilt json content (Coordinating tx body order heard) e inner_is tt)
at_coordinating json content found _ result e inner_is called_so is fits read = absurd (apart _ _ (sym is ∙ called_so) refl)

at_promised : (json content : Data) (found : List ℕ) (value : Lock) (result : Result Lock RowError) → json ≡ lock_json value → content ≡ content_of json → found ≡ name value → found ≡ codes "Promised" → FitsLock value
    → ((tx : _) (offer : _) → FitsLock (Promised tx offer) → variant (codes "Promised") content ≡ lock_json (Promised tx offer) → Finds (Promised tx offer) result) → Finds value result
unfolding name HasContent
at_promised json content found (Promised tx offer) result e inner_is called_so is fits read = read tx offer fits (rebuilt json content (Promised tx offer) e inner_is tt)
at_promised json content found _ result e inner_is called_so is fits read = absurd (apart _ _ (sym is ∙ called_so) refl)

at_watching : (json content : Data) (found : List ℕ) (value : Lock) (result : Result Lock RowError) → json ≡ lock_json value → content ≡ content_of json → found ≡ name value → found ≡ codes "Watching" → FitsLock value
    → ((tx : _) (watch : _) → FitsLock (Watching tx watch) → variant (codes "Watching") content ≡ lock_json (Watching tx watch) → Finds (Watching tx watch) result) → Finds value result
unfolding name HasContent
at_watching json content found (Watching tx watch) result e inner_is called_so is fits read = read tx watch fits (rebuilt json content (Watching tx watch) e inner_is tt)
at_watching json content found _ result e inner_is called_so is fits read = absurd (apart _ _ (sym is ∙ called_so) refl)

pub returns-in_default-clause-finds : goal.returns-in_default-clause-finds
returns-in_default-clause-finds c = λ value fits e. absurd (c.in_default.ensures.finds (shaped _ value e))

pub returns-in-Free-clause-finds : goal.returns-in-Free-clause-finds
unfolding lock_json
returns-in-Free-clause-finds c = λ value fits e. let parts = c.in-Some.ensures.finds (shaped _ value e) in unit_found lock_json _ value Free _ e (at_free _ value (called _ _ value e parts.0) c.in-Free.is) refl c.word.ensures.finds

pub returns-in-Coordinating-clause-finds : goal.returns-in-Coordinating-clause-finds
returns-in-Coordinating-clause-finds c = λ value fits e. let parts = c.in-Some.ensures.finds (shaped _ value e) in at_coordinating _ _ _ value _ e parts.1 (called _ _ value e parts.0) c.in-Coordinating.is fits c.lock_coordinating.ensures.finds

pub returns-in-Promised-clause-finds : goal.returns-in-Promised-clause-finds
returns-in-Promised-clause-finds c = λ value fits e. let parts = c.in-Some.ensures.finds (shaped _ value e) in at_promised _ _ _ value _ e parts.1 (called _ _ value e parts.0) c.in-Promised.is fits c.lock_promised.ensures.finds

pub returns-in-Watching-clause-finds : goal.returns-in-Watching-clause-finds
returns-in-Watching-clause-finds c = λ value fits e. let parts = c.in-Some.ensures.finds (shaped _ value e) in at_watching _ _ _ value _ e parts.1 (called _ _ value e parts.0) c.in-Watching.is fits c.lock_watching.ensures.finds

pub returns-in_default-name-clause-finds : goal.returns-in_default-name-clause-finds
returns-in_default-name-clause-finds c = λ value fits e. let parts = c.in-Some.ensures.finds (shaped _ value e) in none_left _ value (called _ _ value e parts.0) c.in_default-name.not-Free c.in_default-name.not-Coordinating c.in_default-name.not-Promised c.in_default-name.not-Watching

-- no value is its own name in an object
no_echo : (value : Lock) (called : List ℕ) → variant called (string called) ≡ lock_json value → ⊥
unfolding lock_json
no_echo Free called same = cc
no_echo (Coordinating tx body order heard) called same = cc
no_echo (Promised tx offer) called same = cc
no_echo (Watching tx watch) called same = cc

pub returns-in-Free-clause-exact : goal.returns-in-Free-clause-exact
unfolding lock_json
returns-in-Free-clause-exact c = unit_exact lock_json _ _ _ (codes "Free") Free _ c.in-Some.ensures.exact c.in-Free.is refl c.word.ensures.exact

pub returns-in-Coordinating-clause-exact : goal.returns-in-Coordinating-clause-exact
returns-in-Coordinating-clause-exact c = arm_exact lock_json no_echo _ _ _ (codes "Coordinating") _ c.in-Some.ensures.exact c.in-Coordinating.is c.lock_coordinating.ensures.exact

pub returns-in-Promised-clause-exact : goal.returns-in-Promised-clause-exact
returns-in-Promised-clause-exact c = arm_exact lock_json no_echo _ _ _ (codes "Promised") _ c.in-Some.ensures.exact c.in-Promised.is c.lock_promised.ensures.exact

pub returns-in-Watching-clause-exact : goal.returns-in-Watching-clause-exact
returns-in-Watching-clause-exact c = arm_exact lock_json no_echo _ _ _ (codes "Watching") _ c.in-Some.ensures.exact c.in-Watching.is c.lock_watching.ensures.exact
