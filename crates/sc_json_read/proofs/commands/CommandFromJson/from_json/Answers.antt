use Rattle.std.proofs.Common.{◌≡◌, List, ℕ, codes, ap, sym, ◌∙◌, Result, refl, subst}
use Rattle.std.specs.Prelude.{⊤}
use Rattle.serde_json.specs.Data.{Data, string}
use Rattle.sc_words.specs.declared.commands.commands.Command.{Command}
use Rattle.sc_words.specs.declared.commands.commands.Command.TheVariants.{Noop, Call, Join, Leave, Split, Begin, Prepared, RecordVote, GiveUp, Finish, Watched, RecordWatch}
use Rattle.sc_json_text.specs.rows.Commands.{command_json, FitsCommand}
use Rattle.sc_json_text.specs.rows.Shapes.{variant}
use Rattle.sc_json_read.specs.Reading.{Finds, MayBeVariant, content_of}
use Rattle.sc_json_text.specs.rows.Shapes.{variant_name}
use Rattle.sc_json_read.specs.declared.errors.RowError.{RowError}
use Rattle.sc_json_read.specs.declared.errors.RowError.TheVariants.{NoRow, OutOfMemory}
use Rattle.sc_json_text.proofs.RowsProofs.Apart.{apart}
use Rattle.sc_json_read.proofs.Variants.{arm_exact, unit_exact, unit_found}
use Rattle.sc_json_read.proofs.commands.CommandFromJson.from_json.Goals as goal

-- the name of each variant
name : Command → List ℕ
name Noop = codes "Noop"
name (Call client seq op) = codes "Call"
name (Join node order) = codes "Join"
name (Leave node order) = codes "Leave"
name (Split at child order) = codes "Split"
name (Begin tx body order) = codes "Begin"
name (Prepared tx offer) = codes "Prepared"
name (RecordVote tx vote by) = codes "RecordVote"
name (GiveUp tx) = codes "GiveUp"
name (Finish tx outcome) = codes "Finish"
name (Watched tx watch) = codes "Watched"
name (RecordWatch tx vote by) = codes "RecordWatch"

-- the variants that have a content
HasContent : Command → Type 0
HasContent Noop = ⊥
HasContent (Call client seq op) = ⊤
HasContent (Join node order) = ⊤
HasContent (Leave node order) = ⊤
HasContent (Split at child order) = ⊤
HasContent (Begin tx body order) = ⊤
HasContent (Prepared tx offer) = ⊤
HasContent (RecordVote tx vote by) = ⊤
HasContent (GiveUp tx) = ⊤
HasContent (Finish tx outcome) = ⊤
HasContent (Watched tx watch) = ⊤
HasContent (RecordWatch tx vote by) = ⊤

of_value : (value : Command) → MayBeVariant (command_json value)
unfolding command_json
of_value Noop = tt
of_value (Call client seq op) = tt
of_value (Join node order) = tt
of_value (Leave node order) = tt
of_value (Split at child order) = tt
of_value (Begin tx body order) = tt
of_value (Prepared tx offer) = tt
of_value (RecordVote tx vote by) = tt
of_value (GiveUp tx) = tt
of_value (Finish tx outcome) = tt
of_value (Watched tx watch) = tt
of_value (RecordWatch tx vote by) = tt

-- the JSON may be a variant
shaped : (json : Data) (value : Command) → json ≡ command_json value → MayBeVariant json
shaped json value e = subst MayBeVariant (sym e) (of_value value)

named_as : (value : Command) → variant_name (command_json value) ≡ name value
unfolding name command_json
named_as Noop = refl
named_as (Call client seq op) = refl
named_as (Join node order) = refl
named_as (Leave node order) = refl
named_as (Split at child order) = refl
named_as (Begin tx body order) = refl
named_as (Prepared tx offer) = refl
named_as (RecordVote tx vote by) = refl
named_as (GiveUp tx) = refl
named_as (Finish tx outcome) = refl
named_as (Watched tx watch) = refl
named_as (RecordWatch tx vote by) = refl

-- the name that was found is that of the variant
called : (json : Data) (found : List ℕ) (value : Command) → json ≡ command_json value → found ≡ variant_name json → found ≡ name value
called json found value e named = named ∙ (ap variant_name e ∙ named_as value)

whole_of : (value : Command) → HasContent value → variant (name value) (content_of (command_json value)) ≡ command_json value
unfolding name HasContent command_json
whole_of Noop some = absurd some
whole_of (Call client seq op) some = refl
whole_of (Join node order) some = refl
whole_of (Leave node order) some = refl
whole_of (Split at child order) some = refl
whole_of (Begin tx body order) some = refl
whole_of (Prepared tx offer) some = refl
whole_of (RecordVote tx vote by) some = refl
whole_of (GiveUp tx) some = refl
whole_of (Finish tx outcome) some = refl
whole_of (Watched tx watch) some = refl
whole_of (RecordWatch tx vote by) some = refl

-- the name and the content that were found make the JSON
rebuilt : (json content : Data) (value : Command) → json ≡ command_json value → content ≡ content_of json → HasContent value → variant (name value) content ≡ command_json value
rebuilt json content value e inner some = ap (variant (name value)) (inner ∙ ap content_of e) ∙ whole_of value some

-- one of the names is that of the variant
none_left : (found : List ℕ) (value : Command) → found ≡ name value
    → (found ≡ codes "Noop" → ⊥) → (found ≡ codes "Call" → ⊥) → (found ≡ codes "Join" → ⊥) → (found ≡ codes "Leave" → ⊥) → (found ≡ codes "Split" → ⊥) → (found ≡ codes "Begin" → ⊥) → (found ≡ codes "Prepared" → ⊥) → (found ≡ codes "RecordVote" → ⊥) → (found ≡ codes "GiveUp" → ⊥) → (found ≡ codes "Finish" → ⊥) → (found ≡ codes "Watched" → ⊥) → (found ≡ codes "RecordWatch" → ⊥) → NoRow ≡ OutOfMemory
unfolding name
none_left found Noop is n0 n1 n2 n3 n4 n5 n6 n7 n8 n9 n10 n11 = absurd (n0 is)
none_left found (Call client seq op) is n0 n1 n2 n3 n4 n5 n6 n7 n8 n9 n10 n11 = absurd (n1 is)
none_left found (Join node order) is n0 n1 n2 n3 n4 n5 n6 n7 n8 n9 n10 n11 = absurd (n2 is)
none_left found (Leave node order) is n0 n1 n2 n3 n4 n5 n6 n7 n8 n9 n10 n11 = absurd (n3 is)
none_left found (Split at child order) is n0 n1 n2 n3 n4 n5 n6 n7 n8 n9 n10 n11 = absurd (n4 is)
none_left found (Begin tx body order) is n0 n1 n2 n3 n4 n5 n6 n7 n8 n9 n10 n11 = absurd (n5 is)
none_left found (Prepared tx offer) is n0 n1 n2 n3 n4 n5 n6 n7 n8 n9 n10 n11 = absurd (n6 is)
none_left found (RecordVote tx vote by) is n0 n1 n2 n3 n4 n5 n6 n7 n8 n9 n10 n11 = absurd (n7 is)
none_left found (GiveUp tx) is n0 n1 n2 n3 n4 n5 n6 n7 n8 n9 n10 n11 = absurd (n8 is)
none_left found (Finish tx outcome) is n0 n1 n2 n3 n4 n5 n6 n7 n8 n9 n10 n11 = absurd (n9 is)
none_left found (Watched tx watch) is n0 n1 n2 n3 n4 n5 n6 n7 n8 n9 n10 n11 = absurd (n10 is)
none_left found (RecordWatch tx vote by) is n0 n1 n2 n3 n4 n5 n6 n7 n8 n9 n10 n11 = absurd (n11 is)

at_noop : (found : List ℕ) (value : Command) → found ≡ name value → found ≡ codes "Noop" → Noop ≡ value
unfolding name
at_noop found Noop called_so is = refl
at_noop found _ called_so is = absurd (apart _ _ (sym is ∙ called_so) refl)

at_call : (json content : Data) (found : List ℕ) (value : Command) (result : Result Command RowError) → json ≡ command_json value → content ≡ content_of json → found ≡ name value → found ≡ codes "Call" → FitsCommand value
    → ((client : _) (seq : _) (op : _) → FitsCommand (Call client seq op) → variant (codes "Call") content ≡ command_json (Call client seq op) → Finds (Call client seq op) result) → Finds value result
unfolding name HasContent
at_call json content found (Call client seq op) result e inner_is called_so is fits read = read client seq op fits (rebuilt json content (Call client seq op) e inner_is tt)
at_call json content found _ result e inner_is called_so is fits read = absurd (apart _ _ (sym is ∙ called_so) refl)

at_join : (json content : Data) (found : List ℕ) (value : Command) (result : Result Command RowError) → json ≡ command_json value → content ≡ content_of json → found ≡ name value → found ≡ codes "Join" → FitsCommand value
    → ((node : _) (order : _) → FitsCommand (Join node order) → variant (codes "Join") content ≡ command_json (Join node order) → Finds (Join node order) result) → Finds value result
unfolding name HasContent
at_join json content found (Join node order) result e inner_is called_so is fits read = read node order fits (rebuilt json content (Join node order) e inner_is tt)
at_join json content found _ result e inner_is called_so is fits read = absurd (apart _ _ (sym is ∙ called_so) refl)

at_leave : (json content : Data) (found : List ℕ) (value : Command) (result : Result Command RowError) → json ≡ command_json value → content ≡ content_of json → found ≡ name value → found ≡ codes "Leave" → FitsCommand value
    → ((node : _) (order : _) → FitsCommand (Leave node order) → variant (codes "Leave") content ≡ command_json (Leave node order) → Finds (Leave node order) result) → Finds value result
unfolding name HasContent
at_leave json content found (Leave node order) result e inner_is called_so is fits read = read node order fits (rebuilt json content (Leave node order) e inner_is tt)
at_leave json content found _ result e inner_is called_so is fits read = absurd (apart _ _ (sym is ∙ called_so) refl)

at_split : (json content : Data) (found : List ℕ) (value : Command) (result : Result Command RowError) → json ≡ command_json value → content ≡ content_of json → found ≡ name value → found ≡ codes "Split" → FitsCommand value
    → ((at : _) (child : _) (order : _) → FitsCommand (Split at child order) → variant (codes "Split") content ≡ command_json (Split at child order) → Finds (Split at child order) result) → Finds value result
unfolding name HasContent
at_split json content found (Split at child order) result e inner_is called_so is fits read = read at child order fits (rebuilt json content (Split at child order) e inner_is tt)
at_split json content found _ result e inner_is called_so is fits read = absurd (apart _ _ (sym is ∙ called_so) refl)

at_begin : (json content : Data) (found : List ℕ) (value : Command) (result : Result Command RowError) → json ≡ command_json value → content ≡ content_of json → found ≡ name value → found ≡ codes "Begin" → FitsCommand value
    → ((tx : _) (body : _) (order : _) → FitsCommand (Begin tx body order) → variant (codes "Begin") content ≡ command_json (Begin tx body order) → Finds (Begin tx body order) result) → Finds value result
unfolding name HasContent
at_begin json content found (Begin tx body order) result e inner_is called_so is fits read = read tx body order fits (rebuilt json content (Begin tx body order) e inner_is tt)
at_begin json content found _ result e inner_is called_so is fits read = absurd (apart _ _ (sym is ∙ called_so) refl)

at_prepared : (json content : Data) (found : List ℕ) (value : Command) (result : Result Command RowError) → json ≡ command_json value → content ≡ content_of json → found ≡ name value → found ≡ codes "Prepared" → FitsCommand value
    → ((tx : _) (offer : _) → FitsCommand (Prepared tx offer) → variant (codes "Prepared") content ≡ command_json (Prepared tx offer) → Finds (Prepared tx offer) result) → Finds value result
unfolding name HasContent
at_prepared json content found (Prepared tx offer) result e inner_is called_so is fits read = read tx offer fits (rebuilt json content (Prepared tx offer) e inner_is tt)
at_prepared json content found _ result e inner_is called_so is fits read = absurd (apart _ _ (sym is ∙ called_so) refl)

at_record_vote : (json content : Data) (found : List ℕ) (value : Command) (result : Result Command RowError) → json ≡ command_json value → content ≡ content_of json → found ≡ name value → found ≡ codes "RecordVote" → FitsCommand value
    → ((tx : _) (vote : _) (by : _) → FitsCommand (RecordVote tx vote by) → variant (codes "RecordVote") content ≡ command_json (RecordVote tx vote by) → Finds (RecordVote tx vote by) result) → Finds value result
unfolding name HasContent
at_record_vote json content found (RecordVote tx vote by) result e inner_is called_so is fits read = read tx vote by fits (rebuilt json content (RecordVote tx vote by) e inner_is tt)
at_record_vote json content found _ result e inner_is called_so is fits read = absurd (apart _ _ (sym is ∙ called_so) refl)

at_give_up : (json content : Data) (found : List ℕ) (value : Command) (result : Result Command RowError) → json ≡ command_json value → content ≡ content_of json → found ≡ name value → found ≡ codes "GiveUp" → FitsCommand value
    → ((tx : _) → FitsCommand (GiveUp tx) → variant (codes "GiveUp") content ≡ command_json (GiveUp tx) → Finds (GiveUp tx) result) → Finds value result
unfolding name HasContent
at_give_up json content found (GiveUp tx) result e inner_is called_so is fits read = read tx fits (rebuilt json content (GiveUp tx) e inner_is tt)
at_give_up json content found _ result e inner_is called_so is fits read = absurd (apart _ _ (sym is ∙ called_so) refl)

at_finish : (json content : Data) (found : List ℕ) (value : Command) (result : Result Command RowError) → json ≡ command_json value → content ≡ content_of json → found ≡ name value → found ≡ codes "Finish" → FitsCommand value
    → ((tx : _) (outcome : _) → FitsCommand (Finish tx outcome) → variant (codes "Finish") content ≡ command_json (Finish tx outcome) → Finds (Finish tx outcome) result) → Finds value result
unfolding name HasContent
at_finish json content found (Finish tx outcome) result e inner_is called_so is fits read = read tx outcome fits (rebuilt json content (Finish tx outcome) e inner_is tt)
at_finish json content found _ result e inner_is called_so is fits read = absurd (apart _ _ (sym is ∙ called_so) refl)

at_watched : (json content : Data) (found : List ℕ) (value : Command) (result : Result Command RowError) → json ≡ command_json value → content ≡ content_of json → found ≡ name value → found ≡ codes "Watched" → FitsCommand value
    → ((tx : _) (watch : _) → FitsCommand (Watched tx watch) → variant (codes "Watched") content ≡ command_json (Watched tx watch) → Finds (Watched tx watch) result) → Finds value result
unfolding name HasContent
at_watched json content found (Watched tx watch) result e inner_is called_so is fits read = read tx watch fits (rebuilt json content (Watched tx watch) e inner_is tt)
at_watched json content found _ result e inner_is called_so is fits read = absurd (apart _ _ (sym is ∙ called_so) refl)

at_record_watch : (json content : Data) (found : List ℕ) (value : Command) (result : Result Command RowError) → json ≡ command_json value → content ≡ content_of json → found ≡ name value → found ≡ codes "RecordWatch" → FitsCommand value
    → ((tx : _) (vote : _) (by : _) → FitsCommand (RecordWatch tx vote by) → variant (codes "RecordWatch") content ≡ command_json (RecordWatch tx vote by) → Finds (RecordWatch tx vote by) result) → Finds value result
unfolding name HasContent
at_record_watch json content found (RecordWatch tx vote by) result e inner_is called_so is fits read = read tx vote by fits (rebuilt json content (RecordWatch tx vote by) e inner_is tt)
at_record_watch json content found _ result e inner_is called_so is fits read = absurd (apart _ _ (sym is ∙ called_so) refl)

pub returns-in_default-clause-finds : goal.returns-in_default-clause-finds
returns-in_default-clause-finds c = λ value fits e. absurd (c.in_default.ensures.finds (shaped _ value e))

pub returns-in-Noop-clause-finds : goal.returns-in-Noop-clause-finds
unfolding command_json
returns-in-Noop-clause-finds c = λ value fits e. let parts = c.in-Some.ensures.finds (shaped _ value e) in unit_found command_json _ value Noop _ e (at_noop _ value (called _ _ value e parts.0) c.in-Noop.is) refl c.word.ensures.finds

pub returns-in-Call-clause-finds : goal.returns-in-Call-clause-finds
returns-in-Call-clause-finds c = λ value fits e. let parts = c.in-Some.ensures.finds (shaped _ value e) in at_call _ _ _ value _ e parts.1 (called _ _ value e parts.0) c.in-Call.is fits c.command_call.ensures.finds

pub returns-in-Join-clause-finds : goal.returns-in-Join-clause-finds
returns-in-Join-clause-finds c = λ value fits e. let parts = c.in-Some.ensures.finds (shaped _ value e) in at_join _ _ _ value _ e parts.1 (called _ _ value e parts.0) c.in-Join.is fits c.command_join.ensures.finds

pub returns-in-Leave-clause-finds : goal.returns-in-Leave-clause-finds
returns-in-Leave-clause-finds c = λ value fits e. let parts = c.in-Some.ensures.finds (shaped _ value e) in at_leave _ _ _ value _ e parts.1 (called _ _ value e parts.0) c.in-Leave.is fits c.command_leave.ensures.finds

pub returns-in-Split-clause-finds : goal.returns-in-Split-clause-finds
returns-in-Split-clause-finds c = λ value fits e. let parts = c.in-Some.ensures.finds (shaped _ value e) in at_split _ _ _ value _ e parts.1 (called _ _ value e parts.0) c.in-Split.is fits c.command_split.ensures.finds

pub returns-in-Begin-clause-finds : goal.returns-in-Begin-clause-finds
returns-in-Begin-clause-finds c = λ value fits e. let parts = c.in-Some.ensures.finds (shaped _ value e) in at_begin _ _ _ value _ e parts.1 (called _ _ value e parts.0) c.in-Begin.is fits c.command_begin.ensures.finds

pub returns-in-Prepared-clause-finds : goal.returns-in-Prepared-clause-finds
returns-in-Prepared-clause-finds c = λ value fits e. let parts = c.in-Some.ensures.finds (shaped _ value e) in at_prepared _ _ _ value _ e parts.1 (called _ _ value e parts.0) c.in-Prepared.is fits c.command_prepared.ensures.finds

pub returns-in-RecordVote-clause-finds : goal.returns-in-RecordVote-clause-finds
returns-in-RecordVote-clause-finds c = λ value fits e. let parts = c.in-Some.ensures.finds (shaped _ value e) in at_record_vote _ _ _ value _ e parts.1 (called _ _ value e parts.0) c.in-RecordVote.is fits c.command_record_vote.ensures.finds

pub returns-in-GiveUp-clause-finds : goal.returns-in-GiveUp-clause-finds
returns-in-GiveUp-clause-finds c = λ value fits e. let parts = c.in-Some.ensures.finds (shaped _ value e) in at_give_up _ _ _ value _ e parts.1 (called _ _ value e parts.0) c.in-GiveUp.is fits c.command_give_up.ensures.finds

pub returns-in-Finish-clause-finds : goal.returns-in-Finish-clause-finds
returns-in-Finish-clause-finds c = λ value fits e. let parts = c.in-Some.ensures.finds (shaped _ value e) in at_finish _ _ _ value _ e parts.1 (called _ _ value e parts.0) c.in-Finish.is fits c.command_finish.ensures.finds

pub returns-in-Watched-clause-finds : goal.returns-in-Watched-clause-finds
returns-in-Watched-clause-finds c = λ value fits e. let parts = c.in-Some.ensures.finds (shaped _ value e) in at_watched _ _ _ value _ e parts.1 (called _ _ value e parts.0) c.in-Watched.is fits c.command_watched.ensures.finds

pub returns-in-RecordWatch-clause-finds : goal.returns-in-RecordWatch-clause-finds
returns-in-RecordWatch-clause-finds c = λ value fits e. let parts = c.in-Some.ensures.finds (shaped _ value e) in at_record_watch _ _ _ value _ e parts.1 (called _ _ value e parts.0) c.in-RecordWatch.is fits c.command_record_watch.ensures.finds

pub returns-in_default-name-clause-finds : goal.returns-in_default-name-clause-finds
returns-in_default-name-clause-finds c = λ value fits e. let parts = c.in-Some.ensures.finds (shaped _ value e) in none_left _ value (called _ _ value e parts.0) c.in_default-name.not-Noop c.in_default-name.not-Call c.in_default-name.not-Join c.in_default-name.not-Leave c.in_default-name.not-Split c.in_default-name.not-Begin c.in_default-name.not-Prepared c.in_default-name.not-RecordVote c.in_default-name.not-GiveUp c.in_default-name.not-Finish c.in_default-name.not-Watched c.in_default-name.not-RecordWatch

-- no value is its own name in an object
no_echo : (value : Command) (called : List ℕ) → variant called (string called) ≡ command_json value → ⊥
unfolding command_json
no_echo Noop called same = cc
no_echo (Call client seq op) called same = cc
no_echo (Join node order) called same = cc
no_echo (Leave node order) called same = cc
no_echo (Split at child order) called same = cc
no_echo (Begin tx body order) called same = cc
no_echo (Prepared tx offer) called same = cc
no_echo (RecordVote tx vote by) called same = cc
no_echo (GiveUp tx) called same = cc
no_echo (Finish tx outcome) called same = cc
no_echo (Watched tx watch) called same = cc
no_echo (RecordWatch tx vote by) called same = cc

pub returns-in-Noop-clause-exact : goal.returns-in-Noop-clause-exact
unfolding command_json
returns-in-Noop-clause-exact c = unit_exact command_json _ _ _ (codes "Noop") Noop _ c.in-Some.ensures.exact c.in-Noop.is refl c.word.ensures.exact

pub returns-in-Call-clause-exact : goal.returns-in-Call-clause-exact
returns-in-Call-clause-exact c = arm_exact command_json no_echo _ _ _ (codes "Call") _ c.in-Some.ensures.exact c.in-Call.is c.command_call.ensures.exact

pub returns-in-Join-clause-exact : goal.returns-in-Join-clause-exact
returns-in-Join-clause-exact c = arm_exact command_json no_echo _ _ _ (codes "Join") _ c.in-Some.ensures.exact c.in-Join.is c.command_join.ensures.exact

pub returns-in-Leave-clause-exact : goal.returns-in-Leave-clause-exact
returns-in-Leave-clause-exact c = arm_exact command_json no_echo _ _ _ (codes "Leave") _ c.in-Some.ensures.exact c.in-Leave.is c.command_leave.ensures.exact

pub returns-in-Split-clause-exact : goal.returns-in-Split-clause-exact
returns-in-Split-clause-exact c = arm_exact command_json no_echo _ _ _ (codes "Split") _ c.in-Some.ensures.exact c.in-Split.is c.command_split.ensures.exact

pub returns-in-Begin-clause-exact : goal.returns-in-Begin-clause-exact
returns-in-Begin-clause-exact c = arm_exact command_json no_echo _ _ _ (codes "Begin") _ c.in-Some.ensures.exact c.in-Begin.is c.command_begin.ensures.exact

pub returns-in-Prepared-clause-exact : goal.returns-in-Prepared-clause-exact
returns-in-Prepared-clause-exact c = arm_exact command_json no_echo _ _ _ (codes "Prepared") _ c.in-Some.ensures.exact c.in-Prepared.is c.command_prepared.ensures.exact

pub returns-in-RecordVote-clause-exact : goal.returns-in-RecordVote-clause-exact
returns-in-RecordVote-clause-exact c = arm_exact command_json no_echo _ _ _ (codes "RecordVote") _ c.in-Some.ensures.exact c.in-RecordVote.is c.command_record_vote.ensures.exact

pub returns-in-GiveUp-clause-exact : goal.returns-in-GiveUp-clause-exact
returns-in-GiveUp-clause-exact c = arm_exact command_json no_echo _ _ _ (codes "GiveUp") _ c.in-Some.ensures.exact c.in-GiveUp.is c.command_give_up.ensures.exact

pub returns-in-Finish-clause-exact : goal.returns-in-Finish-clause-exact
returns-in-Finish-clause-exact c = arm_exact command_json no_echo _ _ _ (codes "Finish") _ c.in-Some.ensures.exact c.in-Finish.is c.command_finish.ensures.exact

pub returns-in-Watched-clause-exact : goal.returns-in-Watched-clause-exact
returns-in-Watched-clause-exact c = arm_exact command_json no_echo _ _ _ (codes "Watched") _ c.in-Some.ensures.exact c.in-Watched.is c.command_watched.ensures.exact

pub returns-in-RecordWatch-clause-exact : goal.returns-in-RecordWatch-clause-exact
returns-in-RecordWatch-clause-exact c = arm_exact command_json no_echo _ _ _ (codes "RecordWatch") _ c.in-Some.ensures.exact c.in-RecordWatch.is c.command_record_watch.ensures.exact
