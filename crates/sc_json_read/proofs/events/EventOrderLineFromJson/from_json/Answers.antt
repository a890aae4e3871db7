use Rattle.std.proofs.Common.{◌≡◌, List, ℕ, codes, ap, sym, ◌∙◌, Result, refl, subst}
use Rattle.std.specs.Prelude.{⊤}
use Rattle.serde_json.specs.Data.{Data, string}
use Rattle.sc_actor.specs.declared.rows.Event.{Event}
use Rattle.sc_words.specs.declared.commands.orders.OrderLine.{OrderLine}
use Rattle.sc_actor.specs.declared.rows.Event.TheVariants.{Deliver, Tick, Go, Told, Crash, Drop, Again}
use Rattle.sc_json_text.specs.rows.Rows.{event_json, FitsEvent}
use Rattle.sc_json_text.specs.rows.Orders.{order_line_json}
use Rattle.sc_json_text.specs.rows.Shapes.{variant}
use Rattle.sc_json_read.specs.Reading.{Finds, MayBeVariant, content_of}
use Rattle.sc_json_text.specs.rows.Shapes.{variant_name}
use Rattle.sc_json_read.specs.declared.errors.RowError.{RowError}
use Rattle.sc_json_read.specs.declared.errors.RowError.TheVariants.{NoRow, OutOfMemory}
use Rattle.sc_json_text.proofs.RowsProofs.Apart.{apart}
use Rattle.sc_json_read.proofs.Variants.{arm_exact, unit_exact, unit_found}
use Rattle.sc_json_read.proofs.events.EventOrderLineFromJson.from_json.Goals as goal

-- the name of each variant
name : Event OrderLine → List ℕ
name (Deliver inner) = codes "Deliver"
name Tick = codes "Tick"
name Go = codes "Go"
name (Told inner) = codes "Told"
name Crash = codes "Crash"
name (Drop inner) = codes "Drop"
name (Again inner) = codes "Again"

-- the variants that have a content
HasContent : Event OrderLine → Type 0
HasContent (Deliver inner) = ⊤
HasContent Tick = ⊥
HasContent Go = ⊥
HasContent (Told inner) = ⊤
HasContent Crash = ⊥
HasContent (Drop inner) = ⊤
HasContent (Again inner) = ⊤

of_value : (value : Event OrderLine) → MayBeVariant (event_json value)
unfolding event_json
of_value (Deliver inner) = tt
of_value Tick = tt
of_value Go = tt
of_value (Told inner) = tt
of_value Crash = tt
of_value (Drop inner) = tt
of_value (Again inner) = tt

-- the JSON may be a variant
shaped : (json : Data) (value : Event OrderLine) → json ≡ event_json value → MayBeVariant json
shaped json value e = subst MayBeVariant (sym e) (of_value value)

named_as : (value : Event OrderLine) → variant_name (event_json value) ≡ name value
unfolding name event_json
named_as (Deliver inner) = refl
named_as Tick = refl
named_as Go = refl
named_as (Told inner) = refl
named_as Crash = refl
named_as (Drop inner) = refl
named_as (Again inner) = refl

-- the name that was found is that of the variant
called : (json : Data) (found : List ℕ) (value : Event OrderLine) → json ≡ event_json value → found ≡ variant_name json → found ≡ name value
called json found value e named = named ∙ (ap variant_name e ∙ named_as value)

whole_of : (value : Event OrderLine) → HasContent value → variant (name value) (content_of (event_json value)) ≡ event_json value
unfolding name HasContent event_json
whole_of (Deliver inner) some = refl
whole_of Tick some = absurd some
whole_of Go some = absurd some
whole_of (Told inner) some = refl
whole_of Crash some = absurd some
whole_of (Drop inner) some = refl
whole_of (Again inner) some = refl

-- the name and the content that were found make the JSON
rebuilt : (json content : Data) (value : Event OrderLine) → json ≡ event_json value → content ≡ content_of json → HasContent value → variant (name value) content ≡ event_json value
rebuilt json content value e inner some = ap (variant (name value)) (inner ∙ ap content_of e) ∙ whole_of value some

-- one of the names is that of the variant
none_left : (found : List ℕ) (value : Event OrderLine) → found ≡ name value
    → (found ≡ codes "Deliver" → ⊥) → (found ≡ codes "Tick" → ⊥) → (found ≡ codes "Go" → ⊥) → (found ≡ codes "Told" → ⊥) → (found ≡ codes "Crash" → ⊥) → (found ≡ codes "Drop" → ⊥) → (found ≡ codes "Again" → ⊥) → NoRow ≡ OutOfMemory
unfolding name
none_left found (Deliver inner) is n0 n1 n2 n3 n4 n5 n6 = absurd (n0 is)
none_left found Tick is n0 n1 n2 n3 n4 n5 n6 = absurd (n1 is)
none_left found Go is n0 n1 n2 n3 n4 n5 n6 = absurd (n2 is)
none_left found (Told inner) is n0 n1 n2 n3 n4 n5 n6 = absurd (n3 is)
none_left found Crash is n0 n1 n2 n3 n4 n5 n6 = absurd (n4 is)
none_left found (Drop inner) is n0 n1 n2 n3 n4 n5 n6 = absurd (n5 is)
none_left found (Again inner) is n0 n1 n2 n3 n4 n5 n6 = absurd (n6 is)

at_deliver : (json content : Data) (found : List ℕ) (value : Event OrderLine) (result : Result (Event OrderLine) RowError) → json ≡ event_json value → content ≡ content_of json → found ≡ name value → found ≡ codes "Deliver" → FitsEvent value
    → ((inner : _) → FitsEvent (Deliver inner) → variant (codes "Deliver") content ≡ event_json (Deliver inner) → Finds (Deliver inner) result) → Finds value result
unfolding name HasContent
at_deliver json content found (Deliver inner) result e inner_is called_so is fits read = read inner fits (rebuilt json content (Deliver inner) e inner_is tt)
at_deliver json content found _ result e inner_is called_so is fits read = absurd (apart _ _ (sym is ∙ called_so) refl)

at_tick : (found : List ℕ) (value : Event OrderLine) → found ≡ name value → found ≡ codes "Tick" → Tick ≡ value
unfolding name
at_tick found Tick called_so is = refl
at_tick found _ called_so is = absurd (apart _ _ (sym is ∙ called_so) refl)

at_go : (found : List ℕ) (value : Event OrderLine) → found ≡ name value → found ≡ codes "Go" → Go ≡ value
unfolding name
at_go found Go called_so is = refl
at_go found _ called_so is = absurd (apart _ _ (sym is ∙ called_so) refl)

at_told : (json content : Data) (found : List ℕ) (value : Event OrderLine) (result : Result (Event OrderLine) RowError) → json ≡ event_json value → content ≡ content_of json → found ≡ name value → found ≡ codes "Told" → FitsEvent value
    → ((inner : _) → FitsEvent (Told inner) → variant (codes "Told") content ≡ event_json (Told inner) → Finds (Told inner) result) → Finds value result
unfolding name HasContent
at_told json content found (Told inner) result e inner_is called_so is fits read = read inner fits (rebuilt json content (Told inner) e inner_is tt)
at_told json content found _ result e inner_is called_so is fits read = absurd (apart _ _ (sym is ∙ called_so) refl)

at_crash : (found : List ℕ) (value : Event OrderLine) → found ≡ name value → found ≡ codes "Crash" → Crash ≡ value
unfolding name
at_crash found Crash called_so is = refl
at_crash found _ called_so is = absurd (apart _ _ (sym is ∙ called_so) refl)

at_drop : (json content : Data) (found : List ℕ) (value : Event OrderLine) (result : Result (Event OrderLine) RowError) → json ≡ event_json value → content ≡ content_of json → found ≡ name value → found ≡ codes "Drop" → FitsEvent value
    → ((inner : _) → FitsEvent (Drop inner) → variant (codes "Drop") content ≡ event_json (Drop inner) → Finds (Drop inner) result) → Finds value result
unfolding name HasContent
at_drop json content found (Drop inner) result e inner_is called_so is fits read = read inner fits (rebuilt json content (Drop inner) e inner_is tt)
at_drop json content found _ result e inner_is called_so is fits read = absurd (apart _ _ (sym is ∙ called_so) refl)

at_again : (json content : Data) (found : List ℕ) (value : Event OrderLine) (result : Result (Event OrderLine) RowError) → json ≡ event_json value → content ≡ content_of json → found ≡ name value → found ≡ codes "Again" → FitsEvent value
    → ((inner : _) → FitsEvent (Again inner) → variant (codes "Again") content ≡ event_json (Again inner) → Finds (Again inner) result) → Finds value result
unfolding name HasContent
at_again json content found (Again inner) result e inner_is called_so is fits read = read inner fits (rebuilt json content (Again inner) e inner_is tt)
at_again json content found _ result e inner_is called_so is fits read = absurd (apart _ _ (sym is ∙ called_so) refl)

pub returns-in_default-clause-finds : goal.returns-in_default-clause-finds
returns-in_default-clause-finds c = λ value fits e. absurd (c.in_default.ensures.finds (shaped _ value e))

pub returns-in-Deliver-clause-finds : goal.returns-in-Deliver-clause-finds
returns-in-Deliver-clause-finds c = λ value fits e. let parts = c.in-Some.ensures.finds (shaped _ value e) in at_deliver _ _ _ value _ e parts.1 (called _ _ value e parts.0) c.in-Deliver.is fits c.event_deliver.ensures.finds

pub returns-in-Tick-clause-finds : goal.returns-in-Tick-clause-finds
unfolding event_json
returns-in-Tick-clause-finds c = λ value fits e. let parts = c.in-Some.ensures.finds (shaped _ value e) in unit_found event_json _ value Tick _ e (at_tick _ value (called _ _ value e parts.0) c.in-Tick.is) refl c.word.ensures.finds

pub returns-in-Go-clause-finds : goal.returns-in-Go-clause-finds
unfolding event_json
returns-in-Go-clause-finds c = λ value fits e. let parts = c.in-Some.ensures.finds (shaped _ value e) in unit_found event_json _ value Go _ e (at_go _ value (called _ _ value e parts.0) c.in-Go.is) refl c.word-in-Go.ensures.finds

pub returns-in-Told-clause-finds : goal.returns-in-Told-clause-finds
returns-in-Told-clause-finds c = λ value fits e. let parts = c.in-Some.ensures.finds (shaped _ value e) in at_told _ _ _ value _ e parts.1 (called _ _ value e parts.0) c.in-Told.is fits c.event_told.ensures.finds

pub returns-in-Crash-clause-finds : goal.returns-in-Crash-clause-finds
unfolding event_json
returns-in-Crash-clause-finds c = λ value fits e. let parts = c.in-Some.ensures.finds (shaped _ value e) in unit_found event_json _ value Crash _ e (at_crash _ value (called _ _ value e parts.0) c.in-Crash.is) refl c.word-in-Crash.ensures.finds

pub returns-in-Drop-clause-finds : goal.returns-in-Drop-clause-finds
returns-in-Drop-clause-finds c = λ value fits e. let parts = c.in-Some.ensures.finds (shaped _ value e) in at_drop _ _ _ value _ e parts.1 (called _ _ value e parts.0) c.in-Drop.is fits c.event_drop.ensures.finds

pub returns-in-Again-clause-finds : goal.returns-in-Again-clause-finds
returns-in-Again-clause-finds c = λ value fits e. let parts = c.in-Some.ensures.finds (shaped _ value e) in at_again _ _ _ value _ e parts.1 (called _ _ value e parts.0) c.in-Again.is fits c.event_again.ensures.finds

pub returns-in_default-name-clause-finds : goal.returns-in_default-name-clause-finds
returns-in_default-name-clause-finds c = λ value fits e. let parts = c.in-Some.ensures.finds (shaped _ value e) in none_left _ value (called _ _ value e parts.0) c.in_default-name.not-Deliver c.in_default-name.not-Tick c.in_default-name.not-Go c.in_default-name.not-Told c.in_default-name.not-Crash c.in_default-name.not-Drop c.in_default-name.not-Again

-- no value is its own name in an object
no_echo : (value : Event OrderLine) (called : List ℕ) → variant called (string called) ≡ event_json value → ⊥
unfolding event_json order_line_json
no_echo (Deliver inner) called same = cc
no_echo Tick called same = cc
no_echo Go called same = cc
no_echo (Told inner) called same = cc
no_echo Crash called same = cc
no_echo (Drop inner) called same = cc
no_echo (Again inner) called same = cc

pub returns-in-Deliver-clause-exact : goal.returns-in-Deliver-clause-exact
returns-in-Deliver-clause-exact c = arm_exact event_json no_echo _ _ _ (codes "Deliver") _ c.in-Some.ensures.exact c.in-Deliver.is c.event_deliver.ensures.exact

pub returns-in-Tick-clause-exact : goal.returns-in-Tick-clause-exact
unfolding event_json
returns-in-Tick-clause-exact c = unit_exact event_json _ _ _ (codes "Tick") Tick _ c.in-Some.ensures.exact c.in-Tick.is refl c.word.ensures.exact

pub returns-in-Go-clause-exact : goal.returns-in-Go-clause-exact
unfolding event_json
returns-in-Go-clause-exact c = unit_exact event_json _ _ _ (codes "Go") Go _ c.in-Some.ensures.exact c.in-Go.is refl c.word-in-Go.ensures.exact

pub returns-in-Told-clause-exact : goal.returns-in-Told-clause-exact
returns-in-Told-clause-exact c = arm_exact event_json no_echo _ _ _ (codes "Told") _ c.in-Some.ensures.exact c.in-Told.is c.event_told.ensures.exact

pub returns-in-Crash-clause-exact : goal.returns-in-Crash-clause-exact
unfolding event_json
returns-in-Crash-clause-exact c = unit_exact event_json _ _ _ (codes "Crash") Crash _ c.in-Some.ensures.exact c.in-Crash.is refl c.word-in-Crash.ensures.exact

pub returns-in-Drop-clause-exact : goal.returns-in-Drop-clause-exact
returns-in-Drop-clause-exact c = arm_exact event_json no_echo _ _ _ (codes "Drop") _ c.in-Some.ensures.exact c.in-Drop.is c.event_drop.ensures.exact

pub returns-in-Again-clause-exact : goal.returns-in-Again-clause-exact
returns-in-Again-clause-exact c = arm_exact event_json no_echo _ _ _ (codes "Again") _ c.in-Some.ensures.exact c.in-Again.is c.event_again.ensures.exact
