use Rattle.std.proofs.Common.{◌≡◌, List, ℕ, codes, ap, sym, ◌∙◌, Result, refl, subst}
use Rattle.std.specs.Prelude.{⊤}
use Rattle.serde_json.specs.Data.{Data, string}
use Rattle.sc_mail.specs.declared.bodies.MailBody.{MailBody}
use Rattle.sc_mail.specs.declared.bodies.MailBody.TheVariants.{Request, Answer, Prepare, Promise, Accept, Accepted, Nack, Learn, Ask, Install, TxPrepare, TxVote, TxOutcome, TxElsewhere, TxWatch, TxWatched, Told}
use Rattle.sc_json_text.specs.rows.Mails.{mail_body_json, FitsMailBody}
use Rattle.sc_json_text.specs.rows.Shapes.{variant}
use Rattle.sc_json_read.specs.Reading.{Finds, MayBeVariant, content_of}
use Rattle.sc_json_text.specs.rows.Shapes.{variant_name}
use Rattle.sc_json_read.specs.declared.errors.RowError.{RowError}
use Rattle.sc_json_read.specs.declared.errors.RowError.TheVariants.{NoRow, OutOfMemory}
use Rattle.sc_json_text.proofs.RowsProofs.Apart.{apart}
use Rattle.sc_json_read.proofs.Variants.{arm_exact}
use Rattle.sc_json_journal.proofs.row.mails.mail_body_from_json.Goals as goal

-- the name of each variant
name : MailBody → List ℕ
name (Request group client seq op) = codes "Request"
name (Answer group seq answer) = codes "Answer"
name (Prepare group ballot from_slot) = codes "Prepare"
name (Promise group ballot reports) = codes "Promise"
name (Accept group ballot slot command) = codes "Accept"
name (Accepted group ballot slot) = codes "Accepted"
name (Nack group promised) = codes "Nack"
name (Learn group slot command) = codes "Learn"
name (Ask group from_slot) = codes "Ask"
name (Install group slot base sets) = codes "Install"
name (TxPrepare tx offer) = codes "TxPrepare"
name (TxVote tx coord part vote) = codes "TxVote"
name (TxOutcome tx part outcome) = codes "TxOutcome"
name (TxElsewhere tx coord hint) = codes "TxElsewhere"
name (TxWatch tx watch) = codes "TxWatch"
name (TxWatched tx coord part vote) = codes "TxWatched"
name (Told order outcome) = codes "Told"

-- the variants that have a content
HasContent : MailBody → Type 0
HasContent (Request group client seq op) = ⊤
HasContent (Answer group seq answer) = ⊤
HasContent (Prepare group ballot from_slot) = ⊤
HasContent (Promise group ballot reports) = ⊤
HasContent (Accept group ballot slot command) = ⊤
HasContent (Accepted group ballot slot) = ⊤
HasContent (Nack group promised) = ⊤
HasContent (Learn group slot command) = ⊤
HasContent (Ask group from_slot) = ⊤
HasContent (Install group slot base sets) = ⊤
HasContent (TxPrepare tx offer) = ⊤
HasContent (TxVote tx coord part vote) = ⊤
HasContent (TxOutcome tx part outcome) = ⊤
HasContent (TxElsewhere tx coord hint) = ⊤
HasContent (TxWatch tx watch) = ⊤
HasContent (TxWatched tx coord part vote) = ⊤
HasContent (Told order outcome) = ⊤

of_value : (value : MailBody) → MayBeVariant (mail_body_json value)
unfolding mail_body_json
of_value (Request group client seq op) = tt
of_value (Answer group seq answer) = tt
of_value (Prepare group ballot from_slot) = tt
of_value (Promise group ballot reports) = tt
of_value (Accept group ballot slot command) = tt
of_value (Accepted group ballot slot) = tt
of_value (Nack group promised) = tt
of_value (Learn group slot command) = tt
of_value (Ask group from_slot) = tt
of_value (Install group slot base sets) = tt
of_value (TxPrepare tx offer) = tt
of_value (TxVote tx coord part vote) = tt
of_value (TxOutcome tx part outcome) = tt
of_value (TxElsewhere tx coord hint) = tt
of_value (TxWatch tx watch) = tt
of_value (TxWatched tx coord part vote) = tt
of_value (Told order outcome) = tt

-- the JSON may be a variant
shaped : (json : Data) (value : MailBody) → json ≡ mail_body_json value → MayBeVariant json
shaped json value e = subst MayBeVariant (sym e) (of_value value)

named_as : (value : MailBody) → variant_name (mail_body_json value) ≡ name value
unfolding name mail_body_json
named_as (Request group client seq op) = refl
named_as (Answer group seq answer) = refl
named_as (Prepare group ballot from_slot) = refl
named_as (Promise group ballot reports) = refl
named_as (Accept group ballot slot command) = refl
named_as (Accepted group ballot slot) = refl
named_as (Nack group promised) = refl
named_as (Learn group slot command) = refl
named_as (Ask group from_slot) = refl
named_as (Install group slot base sets) = refl
named_as (TxPrepare tx offer) = refl
named_as (TxVote tx coord part vote) = refl
named_as (TxOutcome tx part outcome) = refl
named_as (TxElsewhere tx coord hint) = refl
named_as (TxWatch tx watch) = refl
named_as (TxWatched tx coord part vote) = refl
named_as (Told order outcome) = refl

-- the name that was found is that of the variant
called : (json : Data) (found : List ℕ) (value : MailBody) → json ≡ mail_body_json value → found ≡ variant_name json → found ≡ name value
called json found value e named = named ∙ (ap variant_name e ∙ named_as value)

whole_of : (value : MailBody) → HasContent value → variant (name value) (content_of (mail_body_json value)) ≡ mail_body_json value
unfolding name HasContent mail_body_json
whole_of (Request group client seq op) some = refl
whole_of (Answer group seq answer) some = refl
whole_of (Prepare group ballot from_slot) some = refl
whole_of (Promise group ballot reports) some = refl
whole_of (Accept group ballot slot command) some = refl
whole_of (Accepted group ballot slot) some = refl
whole_of (Nack group promised) some = refl
whole_of (Learn group slot command) some = refl
whole_of (Ask group from_slot) some = refl
whole_of (Install group slot base sets) some = refl
whole_of (TxPrepare tx offer) some = refl
whole_of (TxVote tx coord part vote) some = refl
whole_of (TxOutcome tx part outcome) some = refl
whole_of (TxElsewhere tx coord hint) some = refl
whole_of (TxWatch tx watch) some = refl
whole_of (TxWatched tx coord part vote) some = refl
whole_of (Told order outcome) some = refl

-- the name and the content that were found make the JSON
rebuilt : (json content : Data) (value : MailBody) → json ≡ mail_body_json value → content ≡ content_of json → HasContent value → variant (name value) content ≡ mail_body_json value
rebuilt json content value e inner some = ap (variant (name value)) (inner ∙ ap content_of e) ∙ whole_of value some

-- one of the names is that of the variant
none_left : (found : List ℕ) (value : MailBody) → found ≡ name value
    → (found ≡ codes "Request" → ⊥) → (found ≡ codes "Answer" → ⊥) → (found ≡ codes "Prepare" → ⊥) → (found ≡ codes "Promise" → ⊥) → (found ≡ codes "Accept" → ⊥) → (found ≡ codes "Accepted" → ⊥) → (found ≡ codes "Nack" → ⊥) → (found ≡ codes "Learn" → ⊥) → (found ≡ codes "Ask" → ⊥) → (found ≡ codes "Install" → ⊥) → (found ≡ codes "TxPrepare" → ⊥) → (found ≡ codes "TxVote" → ⊥) → (found ≡ codes "TxOutcome" → ⊥) → (found ≡ codes "TxElsewhere" → ⊥) → (found ≡ codes "TxWatch" → ⊥) → (found ≡ codes "TxWatched" → ⊥) → (found ≡ codes "Told" → ⊥) → NoRow ≡ OutOfMemory
unfolding name
none_left found (Request group client seq op) is n0 n1 n2 n3 n4 n5 n6 n7 n8 n9 n10 n11 n12 n13 n14 n15 n16 = absurd (n0 is)
none_left found (Answer group seq answer) is n0 n1 n2 n3 n4 n5 n6 n7 n8 n9 n10 n11 n12 n13 n14 n15 n16 = absurd (n1 is)
none_left found (Prepare group ballot from_slot) is n0 n1 n2 n3 n4 n5 n6 n7 n8 n9 n10 n11 n12 n13 n14 n15 n16 = absurd (n2 is)
none_left found (Promise group ballot reports) is n0 n1 n2 n3 n4 n5 n6 n7 n8 n9 n10 n11 n12 n13 n14 n15 n16 = absurd (n3 is)
none_left found (Accept group ballot slot command) is n0 n1 n2 n3 n4 n5 n6 n7 n8 n9 n10 n11 n12 n13 n14 n15 n16 = absurd (n4 is)
none_left found (Accepted group ballot slot) is n0 n1 n2 n3 n4 n5 n6 n7 n8 n9 n10 n11 n12 n13 n14 n15 n16 = absurd (n5 is)
none_left found (Nack group promised) is n0 n1 n2 n3 n4 n5 n6 n7 n8 n9 n10 n11 n12 n13 n14 n15 n16 = absurd (n6 is)
none_left found (Learn group slot command) is n0 n1 n2 n3 n4 n5 n6 n7 n8 n9 n10 n11 n12 n13 n14 n15 n16 = absurd (n7 is)
none_left found (Ask group from_slot) is n0 n1 n2 n3 n4 n5 n6 n7 n8 n9 n10 n11 n12 n13 n14 n15 n16 = absurd (n8 is)
none_left found (Install group slot base sets) is n0 n1 n2 n3 n4 n5 n6 n7 n8 n9 n10 n11 n12 n13 n14 n15 n16 = absurd (n9 is)
none_left found (TxPrepare tx offer) is n0 n1 n2 n3 n4 n5 n6 n7 n8 n9 n10 n11 n12 n13 n14 n15 n16 = absurd (n10 is)
none_left found (TxVote tx coord part vote) is n0 n1 n2 n3 n4 n5 n6 n7 n8 n9 n10 n11 n12 n13 n14 n15 n16 = absurd (n11 is)
none_left found (TxOutcome tx part outcome) is n0 n1 n2 n3 n4 n5 n6 n7 n8 n9 n10 n11 n12 n13 n14 n15 n16 = absurd (n12 is)
none_left found (TxElsewhere tx coord hint) is n0 n1 n2 n3 n4 n5 n6 n7 n8 n9 n10 n11 n12 n13 n14 n15 n16 = absurd (n13 is)
none_left found (TxWatch tx watch) is n0 n1 n2 n3 n4 n5 n6 n7 n8 n9 n10 n11 n12 n13 n14 n15 n16 = absurd (n14 is)
none_left found (TxWatched tx coord part vote) is n0 n1 n2 n3 n4 n5 n6 n7 n8 n9 n10 n11 n12 n13 n14 n15 n16 = absurd (n15 is)
none_left found (Told order outcome) is n0 n1 n2 n3 n4 n5 n6 n7 n8 n9 n10 n11 n12 n13 n14 n15 n16 = absurd (n16 is)

at_request : (json content : Data) (found : List ℕ) (value : MailBody) (result : Result MailBody RowError) → json ≡ mail_body_json value → content ≡ content_of json → found ≡ name value → found ≡ codes "Request" → FitsMailBody value
    → ((group : _) (client : _) (seq : _) (op : _) → FitsMailBody (Request group client seq op) → variant (codes "Request") content ≡ mail_body_json (Request group client seq op) → Finds (Request group client seq op) result) → Finds value result
unfolding name HasContent
at_request json content found (Request group client seq op) result e inner_is called_so is fits read = read group client seq op fits (rebuilt json content (Request group client seq op) e inner_is tt)
at_request json content found _ result e inner_is called_so is fits read = absurd (apart _ _ (sym is ∙ called_so) refl)

at_answer : (json content : Data) (found : List ℕ) (value : MailBody) (result : Result MailBody RowError) → json ≡ mail_body_json value → content ≡ content_of json → found ≡ name value → found ≡ codes "Answer" → FitsMailBody value
    → ((group : _) (seq : _) (answer : _) → FitsMailBody (Answer group seq answer) → variant (codes "Answer") content ≡ mail_body_json (Answer group seq answer) → Finds (Answer group seq answer) result) → Finds value result
unfolding name HasContent
at_answer json content found (Answer group seq answer) result e inner_is called_so is fits read = read group seq answer fits (rebuilt json content (Answer group seq answer) e inner_is tt)
at_answer json content found _ result e inner_is called_so is fits read = absurd (apart _ _ (sym is ∙ called_so) refl)

at_prepare : (json content : Data) (found : List ℕ) (value : MailBody) (result : Result MailBody RowError) → json ≡ mail_body_json value → content ≡ content_of json → found ≡ name value → found ≡ codes "Prepare" → FitsMailBody value
    → ((group : _) (ballot : _) (from_slot : _) → FitsMailBody (Prepare group ballot from_slot) → variant (codes "Prepare") content ≡ mail_body_json (Prepare group ballot from_slot) → Finds (Prepare group ballot from_slot) result) → Finds value result
unfolding name HasContent
at_prepare json content found (Prepare group ballot from_slot) result e inner_is called_so is fits read = read group ballot from_slot fits (rebuilt json content (Prepare group ballot from_slot) e inner_is tt)
at_prepare json content found _ result e inner_is called_so is fits read = absurd (apart _ _ (sym is ∙ called_so) refl)

at_promise : (json content : Data) (found : List ℕ) (value : MailBody) (result : Result MailBody RowError) → json ≡ mail_body_json value → content ≡ content_of json → found ≡ name value → found ≡ codes "Promise" → FitsMailBody value
    → ((group : _) (ballot : _) (reports : _) → FitsMailBody (Promise group ballot reports) → variant (codes "Promise") content ≡ mail_body_json (Promise group ballot reports) → Finds (Promise group ballot reports) result) → Finds value result
unfolding name HasContent
at_promise json content found (Promise group ballot reports) result e inner_is called_so is fits read = read group ballot reports fits (rebuilt json content (Promise group ballot reports) e inner_is tt)
at_promise json content found _ result e inner_is called_so is fits read = absurd (apart _ _ (sym is ∙ called_so) refl)

at_accept : (json content : Data) (found : List ℕ) (value : MailBody) (result : Result MailBody RowError) → json ≡ mail_body_json value → content ≡ content_of json → found ≡ name value → found ≡ codes "Accept" → FitsMailBody value
    → ((group : _) (ballot : _) (slot : _) (command : _) → FitsMailBody (Accept group ballot slot command) → variant (codes "Accept") content ≡ mail_body_json (Accept group ballot slot command) → Finds (Accept group ballot slot command) result) → Finds value result
unfolding name HasContent
at_accept json content found (Accept group ballot slot command) result e inner_is called_so is fits read = read group ballot slot command fits (rebuilt json content (Accept group ballot slot command) e inner_is tt)
at_accept json content found _ result e inner_is called_so is fits read = absurd (apart _ _ (sym is ∙ called_so) refl)

at_accepted : (json content : Data) (found : List ℕ) (value : MailBody) (result : Result MailBody RowError) → json ≡ mail_body_json value → content ≡ content_of json → found ≡ name value → found ≡ codes "Accepted" → FitsMailBody value
    → ((group : _) (ballot : _) (slot : _) → FitsMailBody (Accepted group ballot slot) → variant (codes "Accepted") content ≡ mail_body_json (Accepted group ballot slot) → Finds (Accepted group ballot slot) result) → Finds value result
unfolding name HasContent
at_accepted json content found (Accepted group ballot slot) result e inner_is called_so is fits read = read group ballot slot fits (rebuilt json content (Accepted group ballot slot) e inner_is tt)
at_accepted json content found _ result e inner_is called_so is fits read = absurd (apart _ _ (sym is ∙ called_so) refl)

at_nack : (json content : Data) (found : List ℕ) (value : MailBody) (result : Result MailBody RowError) → json ≡ mail_body_json value → content ≡ content_of json → found ≡ name value → found ≡ codes "Nack" → FitsMailBody value
    → ((group : _) (promised : _) → FitsMailBody (Nack group promised) → variant (codes "Nack") content ≡ mail_body_json (Nack group promised) → Finds (Nack group promised) result) → Finds value result
unfolding name HasContent
at_nack json content found (Nack group promised) result e inner_is called_so is fits read = read group promised fits (rebuilt json content (Nack group promised) e inner_is tt)
at_nack json content found _ result e inner_is called_so is fits read = absurd (apart _ _ (sym is ∙ called_so) refl)

at_learn : (json content : Data) (found : List ℕ) (value : MailBody) (result : Result MailBody RowError) → json ≡ mail_body_json value → content ≡ content_of json → found ≡ name value → found ≡ codes "Learn" → FitsMailBody value
    → ((group : _) (slot : _) (command : _) → FitsMailBody (Learn group slot command) → variant (codes "Learn") content ≡ mail_body_json (Learn group slot command) → Finds (Learn group slot command) result) → Finds value result
unfolding name HasContent
at_learn json content found (Learn group slot command) result e inner_is called_so is fits read = read group slot command fits (rebuilt json content (Learn group slot command) e inner_is tt)
at_learn json content found _ result e inner_is called_so is fits read = absurd (apart _ _ (sym is ∙ called_so) refl)

at_ask : (json content : Data) (found : List ℕ) (value : MailBody) (result : Result MailBody RowError) → json ≡ mail_body_json value → content ≡ content_of json → found ≡ name value → found ≡ codes "Ask" → FitsMailBody value
    → ((group : _) (from_slot : _) → FitsMailBody (Ask group from_slot) → variant (codes "Ask") content ≡ mail_body_json (Ask group from_slot) → Finds (Ask group from_slot) result) → Finds value result
unfolding name HasContent
at_ask json content found (Ask group from_slot) result e inner_is called_so is fits read = read group from_slot fits (rebuilt json content (Ask group from_slot) e inner_is tt)
at_ask json content found _ result e inner_is called_so is fits read = absurd (apart _ _ (sym is ∙ called_so) refl)

at_install : (json content : Data) (found : List ℕ) (value : MailBody) (result : Result MailBody RowError) → json ≡ mail_body_json value → content ≡ content_of json → found ≡ name value → found ≡ codes "Install" → FitsMailBody value
    → ((group : _) (slot : _) (base : _) (sets : _) → FitsMailBody (Install group slot base sets) → variant (codes "Install") content ≡ mail_body_json (Install group slot base sets) → Finds (Install group slot base sets) result) → Finds value result
unfolding name HasContent
at_install json content found (Install group slot base sets) result e inner_is called_so is fits read = read group slot base sets fits (rebuilt json content (Install group slot base sets) e inner_is tt)
at_install json content found _ result e inner_is called_so is fits read = absurd (apart _ _ (sym is ∙ called_so) refl)

at_tx_prepare : (json content : Data) (found : List ℕ) (value : MailBody) (result : Result MailBody RowError) → json ≡ mail_body_json value → content ≡ content_of json → found ≡ name value → found ≡ codes "TxPrepare" → FitsMailBody value
    → ((tx : _) (offer : _) → FitsMailBody (TxPrepare tx offer) → variant (codes "TxPrepare") content ≡ mail_body_json (TxPrepare tx offer) → Finds (TxPrepare tx offer) result) → Finds value result
unfolding name HasContent
at_tx_prepare json content found (TxPrepare tx offer) result e inner_is called_so is fits read = read tx offer fits (rebuilt json content (TxPrepare tx offer) e inner_is tt)
at_tx_prepare json content found _ result e inner_is called_so is fits read = absurd (apart _ _ (sym is ∙ called_so) refl)

at_tx_vote : (json content : Data) (found : List ℕ) (value : MailBody) (result : Result MailBody RowError) → json ≡ mail_body_json value → content ≡ content_of json → found ≡ name value → found ≡ codes "TxVote" → FitsMailBody value
    → ((tx : _) (coord : _) (part : _) (vote : _) → FitsMailBody (TxVote tx coord part vote) → variant (codes "TxVote") content ≡ mail_body_json (TxVote tx coord part vote) → Finds (TxVote tx coord part vote) result) → Finds value result
unfolding name HasContent
at_tx_vote json content found (TxVote tx coord part vote) result e inner_is called_so is fits read = read tx coord part vote fits (rebuilt json content (TxVote tx coord part vote) e inner_is tt)
at_tx_vote json content found _ result e inner_is called_so is fits read = absurd (apart _ _ (sym is ∙ called_so) refl)

at_tx_outcome : (json content : Data) (found : List ℕ) (value : MailBody) (result : Result MailBody RowError) → json ≡ mail_body_json value → content ≡ content_of json → found ≡ name value → found ≡ codes "TxOutcome" → FitsMailBody value
    → ((tx : _) (part : _) (outcome : _) → FitsMailBody (TxOutcome tx part outcome) → variant (codes "TxOutcome") content ≡ mail_body_json (TxOutcome tx part outcome) → Finds (TxOutcome tx part outcome) result) → Finds value result
unfolding name HasContent
at_tx_outcome json content found (TxOutcome tx part outcome) result e inner_is called_so is fits read = read tx part outcome fits (rebuilt json content (TxOutcome tx part outcome) e inner_is tt)
at_tx_outcome json content found _ result e inner_is called_so is fits read = absurd (apart _ _ (sym is ∙ called_so) refl)

at_tx_elsewhere : (json content : Data) (found : List ℕ) (value : MailBody) (result : Result MailBody RowError) → json ≡ mail_body_json value → content ≡ content_of json → found ≡ name value → found ≡ codes "TxElsewhere" → FitsMailBody value
    → ((tx : _) (coord : _) (hint : _) → FitsMailBody (TxElsewhere tx coord hint) → variant (codes "TxElsewhere") content ≡ mail_body_json (TxElsewhere tx coord hint) → Finds (TxElsewhere tx coord hint) result) → Finds value result
unfolding name HasContent
at_tx_elsewhere json content found (TxElsewhere tx coord hint) result e inner_is called_so is fits read = read tx coord hint fits (rebuilt json content (TxElsewhere tx coord hint) e inner_is tt)
at_tx_elsewhere json content found _ result e inner_is called_so is fits read = absurd (apart _ _ (sym is ∙ called_so) refl)

at_tx_watch : (json content : Data) (found : List ℕ) (value : MailBody) (result : Result MailBody RowError) → json ≡ mail_body_json value → content ≡ content_of json → found ≡ name value → found ≡ codes "TxWatch" → FitsMailBody value
    → ((tx : _) (watch : _) → FitsMailBody (TxWatch tx watch) → variant (codes "TxWatch") content ≡ mail_body_json (TxWatch tx watch) → Finds (TxWatch tx watch) result) → Finds value result
unfolding name HasContent
at_tx_watch json content found (TxWatch tx watch) result e inner_is called_so is fits read = read tx watch fits (rebuilt json content (TxWatch tx watch) e inner_is tt)
at_tx_watch json content found _ result e inner_is called_so is fits read = absurd (apart _ _ (sym is ∙ called_so) refl)

at_tx_watched : (json content : Data) (found : List ℕ) (value : MailBody) (result : Result MailBody RowError) → json ≡ mail_body_json value → content ≡ content_of json → found ≡ name value → found ≡ codes "TxWatched" → FitsMailBody value
    → ((tx : _) (coord : _) (part : _) (vote : _) → FitsMailBody (TxWatched tx coord part vote) → variant (codes "TxWatched") content ≡ mail_body_json (TxWatched tx coord part vote) → Finds (TxWatched tx coord part vote) result) → Finds value result
unfolding name HasContent
at_tx_watched json content found (TxWatched tx coord part vote) result e inner_is called_so is fits read = read tx coord part vote fits (rebuilt json content (TxWatched tx coord part vote) e inner_is tt)
at_tx_watched json content found _ result e inner_is called_so is fits read = absurd (apart _ _ (sym is ∙ called_so) refl)

at_told : (json content : Data) (found : List ℕ) (value : MailBody) (result : Result MailBody RowError) → json ≡ mail_body_json value → content ≡ content_of json → found ≡ name value → found ≡ codes "Told" → FitsMailBody value
    → ((order : _) (outcome : _) → FitsMailBody (Told order outcome) → variant (codes "Told") content ≡ mail_body_json (Told order outcome) → Finds (Told order outcome) result) → Finds value result
unfolding name HasContent
at_told json content found (Told order outcome) result e inner_is called_so is fits read = read order outcome fits (rebuilt json content (Told order outcome) e inner_is tt)
at_told json content found _ result e inner_is called_so is fits read = absurd (apart _ _ (sym is ∙ called_so) refl)

pub returns-in_default-clause-finds : goal.returns-in_default-clause-finds
returns-in_default-clause-finds c = λ value fits e. absurd (c.in_default.ensures.finds (shaped _ value e))

pub returns-in-Request-clause-finds : goal.returns-in-Request-clause-finds
returns-in-Request-clause-finds c = λ value fits e. let parts = c.in-Some.ensures.finds (shaped _ value e) in at_request _ _ _ value _ e parts.1 (called _ _ value e parts.0) c.in-Request.is fits c.mail_body_request.ensures.finds

pub returns-in-Answer-clause-finds : goal.returns-in-Answer-clause-finds
returns-in-Answer-clause-finds c = λ value fits e. let parts = c.in-Some.ensures.finds (shaped _ value e) in at_answer _ _ _ value _ e parts.1 (called _ _ value e parts.0) c.in-Answer.is fits c.mail_body_answer.ensures.finds

pub returns-in-Prepare-clause-finds : goal.returns-in-Prepare-clause-finds
returns-in-Prepare-clause-finds c = λ value fits e. let parts = c.in-Some.ensures.finds (shaped _ value e) in at_prepare _ _ _ value _ e parts.1 (called _ _ value e parts.0) c.in-Prepare.is fits c.mail_body_prepare.ensures.finds

pub returns-in-Promise-clause-finds : goal.returns-in-Promise-clause-finds
returns-in-Promise-clause-finds c = λ value fits e. let parts = c.in-Some.ensures.finds (shaped _ value e) in at_promise _ _ _ value _ e parts.1 (called _ _ value e parts.0) c.in-Promise.is fits c.mail_body_promise.ensures.finds

pub returns-in-Accept-clause-finds : goal.returns-in-Accept-clause-finds
returns-in-Accept-clause-finds c = λ value fits e. let parts = c.in-Some.ensures.finds (shaped _ value e) in at_accept _ _ _ value _ e parts.1 (called _ _ value e parts.0) c.in-Accept.is fits c.mail_body_accept.ensures.finds

pub returns-in-Accepted-clause-finds : goal.returns-in-Accepted-clause-finds
returns-in-Accepted-clause-finds c = λ value fits e. let parts = c.in-Some.ensures.finds (shaped _ value e) in at_accepted _ _ _ value _ e parts.1 (called _ _ value e parts.0) c.in-Accepted.is fits c.mail_body_accepted.ensures.finds

pub returns-in-Nack-clause-finds : goal.returns-in-Nack-clause-finds
returns-in-Nack-clause-finds c = λ value fits e. let parts = c.in-Some.ensures.finds (shaped _ value e) in at_nack _ _ _ value _ e parts.1 (called _ _ value e parts.0) c.in-Nack.is fits c.mail_body_nack.ensures.finds

pub returns-in-Learn-clause-finds : goal.returns-in-Learn-clause-finds
returns-in-Learn-clause-finds c = λ value fits e. let parts = c.in-Some.ensures.finds (shaped _ value e) in at_learn _ _ _ value _ e parts.1 (called _ _ value e parts.0) c.in-Learn.is fits c.mail_body_learn.ensures.finds

pub returns-in-Ask-clause-finds : goal.returns-in-Ask-clause-finds
returns-in-Ask-clause-finds c = λ value fits e. let parts = c.in-Some.ensures.finds (shaped _ value e) in at_ask _ _ _ value _ e parts.1 (called _ _ value e parts.0) c.in-Ask.is fits c.mail_body_ask.ensures.finds

pub returns-in-Install-clause-finds : goal.returns-in-Install-clause-finds
returns-in-Install-clause-finds c = λ value fits e. let parts = c.in-Some.ensures.finds (shaped _ value e) in at_install _ _ _ value _ e parts.1 (called _ _ value e parts.0) c.in-Install.is fits c.mail_body_install.ensures.finds

pub returns-in-TxPrepare-clause-finds : goal.returns-in-TxPrepare-clause-finds
returns-in-TxPrepare-clause-finds c = λ value fits e. let parts = c.in-Some.ensures.finds (shaped _ value e) in at_tx_prepare _ _ _ value _ e parts.1 (called _ _ value e parts.0) c.in-TxPrepare.is fits c.mail_body_tx_prepare.ensures.finds

pub returns-in-TxVote-clause-finds : goal.returns-in-TxVote-clause-finds
returns-in-TxVote-clause-finds c = λ value fits e. let parts = c.in-Some.ensures.finds (shaped _ value e) in at_tx_vote _ _ _ value _ e parts.1 (called _ _ value e parts.0) c.in-TxVote.is fits c.mail_body_tx_vote.ensures.finds

pub returns-in-TxOutcome-clause-finds : goal.returns-in-TxOutcome-clause-finds
returns-in-TxOutcome-clause-finds c = λ value fits e. let parts = c.in-Some.ensures.finds (shaped _ value e) in at_tx_outcome _ _ _ value _ e parts.1 (called _ _ value e parts.0) c.in-TxOutcome.is fits c.mail_body_tx_outcome.ensures.finds

pub returns-in-TxElsewhere-clause-finds : goal.returns-in-TxElsewhere-clause-finds
returns-in-TxElsewhere-clause-finds c = λ value fits e. let parts = c.in-Some.ensures.finds (shaped _ value e) in at_tx_elsewhere _ _ _ value _ e parts.1 (called _ _ value e parts.0) c.in-TxElsewhere.is fits c.mail_body_tx_elsewhere.ensures.finds

pub returns-in-TxWatch-clause-finds : goal.returns-in-TxWatch-clause-finds
returns-in-TxWatch-clause-finds c = λ value fits e. let parts = c.in-Some.ensures.finds (shaped _ value e) in at_tx_watch _ _ _ value _ e parts.1 (called _ _ value e parts.0) c.in-TxWatch.is fits c.mail_body_tx_watch.ensures.finds

pub returns-in-TxWatched-clause-finds : goal.returns-in-TxWatched-clause-finds
returns-in-TxWatched-clause-finds c = λ value fits e. let parts = c.in-Some.ensures.finds (shaped _ value e) in at_tx_watched _ _ _ value _ e parts.1 (called _ _ value e parts.0) c.in-TxWatched.is fits c.mail_body_tx_watched.ensures.finds

pub returns-in-Told-clause-finds : goal.returns-in-Told-clause-finds
returns-in-Told-clause-finds c = λ value fits e. let parts = c.in-Some.ensures.finds (shaped _ value e) in at_told _ _ _ value _ e parts.1 (called _ _ value e parts.0) c.in-Told.is fits c.mail_body_told.ensures.finds

pub returns-in_default-name-clause-finds : goal.returns-in_default-name-clause-finds
returns-in_default-name-clause-finds c = λ value fits e. let parts = c.in-Some.ensures.finds (shaped _ value e) in none_left _ value (called _ _ value e parts.0) c.in_default-name.not-Request c.in_default-name.not-Answer c.in_default-name.not-Prepare c.in_default-name.not-Promise c.in_default-name.not-Accept c.in_default-name.not-Accepted c.in_default-name.not-Nack c.in_default-name.not-Learn c.in_default-name.not-Ask c.in_default-name.not-Install c.in_default-name.not-TxPrepare c.in_default-name.not-TxVote c.in_default-name.not-TxOutcome c.in_default-name.not-TxElsewhere c.in_default-name.not-TxWatch c.in_default-name.not-TxWatched c.in_default-name.not-Told

-- no value is its own name in an object
no_echo : (value : MailBody) (called : List ℕ) → variant called (string called) ≡ mail_body_json value → ⊥
unfolding mail_body_json
no_echo (Request group client seq op) called same = cc
no_echo (Answer group seq answer) called same = cc
no_echo (Prepare group ballot from_slot) called same = cc
no_echo (Promise group ballot reports) called same = cc
no_echo (Accept group ballot slot command) called same = cc
no_echo (Accepted group ballot slot) called same = cc
no_echo (Nack group promised) called same = cc
no_echo (Learn group slot command) called same = cc
no_echo (Ask group from_slot) called same = cc
no_echo (Install group slot base sets) called same = cc
no_echo (TxPrepare tx offer) called same = cc
no_echo (TxVote tx coord part vote) called same = cc
no_echo (TxOutcome tx part outcome) called same = cc
no_echo (TxElsewhere tx coord hint) called same = cc
no_echo (TxWatch tx watch) called same = cc
no_echo (TxWatched tx coord part vote) called same = cc
no_echo (Told order outcome) called same = cc

pub returns-in-Request-clause-exact : goal.returns-in-Request-clause-exact
returns-in-Request-clause-exact c = arm_exact mail_body_json no_echo _ _ _ (codes "Request") _ c.in-Some.ensures.exact c.in-Request.is c.mail_body_request.ensures.exact

pub returns-in-Answer-clause-exact : goal.returns-in-Answer-clause-exact
returns-in-Answer-clause-exact c = arm_exact mail_body_json no_echo _ _ _ (codes "Answer") _ c.in-Some.ensures.exact c.in-Answer.is c.mail_body_answer.ensures.exact

pub returns-in-Prepare-clause-exact : goal.returns-in-Prepare-clause-exact
returns-in-Prepare-clause-exact c = arm_exact mail_body_json no_echo _ _ _ (codes "Prepare") _ c.in-Some.ensures.exact c.in-Prepare.is c.mail_body_prepare.ensures.exact

pub returns-in-Promise-clause-exact : goal.returns-in-Promise-clause-exact
returns-in-Promise-clause-exact c = arm_exact mail_body_json no_echo _ _ _ (codes "Promise") _ c.in-Some.ensures.exact c.in-Promise.is c.mail_body_promise.ensures.exact

pub returns-in-Accept-clause-exact : goal.returns-in-Accept-clause-exact
returns-in-Accept-clause-exact c = arm_exact mail_body_json no_echo _ _ _ (codes "Accept") _ c.in-Some.ensures.exact c.in-Accept.is c.mail_body_accept.ensures.exact

pub returns-in-Accepted-clause-exact : goal.returns-in-Accepted-clause-exact
returns-in-Accepted-clause-exact c = arm_exact mail_body_json no_echo _ _ _ (codes "Accepted") _ c.in-Some.ensures.exact c.in-Accepted.is c.mail_body_accepted.ensures.exact

pub returns-in-Nack-clause-exact : goal.returns-in-Nack-clause-exact
returns-in-Nack-clause-exact c = arm_exact mail_body_json no_echo _ _ _ (codes "Nack") _ c.in-Some.ensures.exact c.in-Nack.is c.mail_body_nack.ensures.exact

pub returns-in-Learn-clause-exact : goal.returns-in-Learn-clause-exact
returns-in-Learn-clause-exact c = arm_exact mail_body_json no_echo _ _ _ (codes "Learn") _ c.in-Some.ensures.exact c.in-Learn.is c.mail_body_learn.ensures.exact

pub returns-in-Ask-clause-exact : goal.returns-in-Ask-clause-exact
returns-in-Ask-clause-exact c = arm_exact mail_body_json no_echo _ _ _ (codes "Ask") _ c.in-Some.ensures.exact c.in-Ask.is c.mail_body_ask.ensures.exact

pub returns-in-Install-clause-exact : goal.returns-in-Install-clause-exact
returns-in-Install-clause-exact c = arm_exact mail_body_json no_echo _ _ _ (codes "Install") _ c.in-Some.ensures.exact c.in-Install.is c.mail_body_install.ensures.exact

pub returns-in-TxPrepare-clause-exact : goal.returns-in-TxPrepare-clause-exact
returns-in-TxPrepare-clause-exact c = arm_exact mail_body_json no_echo _ _ _ (codes "TxPrepare") _ c.in-Some.ensures.exact c.in-TxPrepare.is c.mail_body_tx_prepare.ensures.exact

pub returns-in-TxVote-clause-exact : goal.returns-in-TxVote-clause-exact
returns-in-TxVote-clause-exact c = arm_exact mail_body_json no_echo _ _ _ (codes "TxVote") _ c.in-Some.ensures.exact c.in-TxVote.is c.mail_body_tx_vote.ensures.exact

pub returns-in-TxOutcome-clause-exact : goal.returns-in-TxOutcome-clause-exact
returns-in-TxOutcome-clause-exact c = arm_exact mail_body_json no_echo _ _ _ (codes "TxOutcome") _ c.in-Some.ensures.exact c.in-TxOutcome.is c.mail_body_tx_outcome.ensures.exact

pub returns-in-TxElsewhere-clause-exact : goal.returns-in-TxElsewhere-clause-exact
returns-in-TxElsewhere-clause-exact c = arm_exact mail_body_json no_echo _ _ _ (codes "TxElsewhere") _ c.in-Some.ensures.exact c.in-TxElsewhere.is c.mail_body_tx_elsewhere.ensures.exact

pub returns-in-TxWatch-clause-exact : goal.returns-in-TxWatch-clause-exact
returns-in-TxWatch-clause-exact c = arm_exact mail_body_json no_echo _ _ _ (codes "TxWatch") _ c.in-Some.ensures.exact c.in-TxWatch.is c.mail_body_tx_watch.ensures.exact

pub returns-in-TxWatched-clause-exact : goal.returns-in-TxWatched-clause-exact
returns-in-TxWatched-clause-exact c = arm_exact mail_body_json no_echo _ _ _ (codes "TxWatched") _ c.in-Some.ensures.exact c.in-TxWatched.is c.mail_body_tx_watched.ensures.exact

pub returns-in-Told-clause-exact : goal.returns-in-Told-clause-exact
returns-in-Told-clause-exact c = arm_exact mail_body_json no_echo _ _ _ (codes "Told") _ c.in-Some.ensures.exact c.in-Told.is c.mail_body_told.ensures.exact
