-- Rows and their events at the beginning of a text.
use Rattle.std.proofs.Common.{◌≡◌, ℕ, List, [], ◌∷◌, ◌++◌, codes, refl, ap, ◌∙◌, append_assoc}
use Rattle.json.specs.Print.{escape_byte}
use Rattle.serde_json.specs.Written.{compact_text}
use Rattle.sc_json_text.specs.rows.Shapes.{number_json}
use Rattle.sc_json_text.specs.rows.Held.{FitsU32}
use Rattle.sc_json_fast.specs.Prefixes.{IsOnly, TextBegins}
use Rattle.sc_json_text.proofs.RowsProofs.Apart.{variants_apart}
use Rattle.std.proofs.Common.{Bool, true, ◌==◌, ap₂, Some, sym, length, append-nil, arith}
use Rattle.std.proofs.lemmas.Bool.Decides.{nat_tests}
use Rattle.std.proofs.lemmas.Option.{same_Some}
use Rattle.serde_json.specs.Data.{Data}
use Rattle.serde_json.specs.Read.{read}
use Rattle.sc_base.specs.Among.{Each}
use Rattle.sc_actor.specs.declared.rows.Event.{Event}
use Rattle.sc_actor.specs.declared.rows.Event.TheVariants as TheEvent
use Rattle.sc_actor.specs.declared.rows.Row.{Row}
use Rattle.sc_words.specs.declared.commands.orders.OrderLine.{OrderLine}
use Rattle.sc_mail.specs.declared.bodies.Mail.{Mail}
use Rattle.sc_json_text.specs.rows.Shapes.{list_json, fields}
use Rattle.sc_json_text.specs.rows.Mails.{mail_json, FitsMail}
use Rattle.sc_json_text.specs.rows.Rows.{event_json, FitsEvent, row_json, FitsRow}
use Rattle.sc_json_text.specs.rows.RowText.{text_of, IsHeld}

deliver_only : (content : ℕ) → IsOnly number_json FitsU32 content → (other : Event OrderLine) → FitsEvent other → event_json other ≡ event_json (TheEvent.Deliver content) → other ≡ (TheEvent.Deliver content)
unfolding event_json FitsEvent
deliver_only content content_known (TheEvent.Deliver other_content) held same =
    let content_same : other_content ≡ content = content_known.only other_content held (cc) in
    cc
deliver_only content content_known _ held same = absurd (variants_apart _ _ same refl)

pub deliver_begins : (bytes rest : List ℕ) (content : ℕ) → IsOnly number_json FitsU32 content → bytes ≡ codes "{\"Deliver\":" ++ (compact_text (number_json content) ++ (codes "}" ++ rest)) → TextBegins event_json FitsEvent bytes (TheEvent.Deliver content) rest
unfolding event_json FitsEvent escape_byte
deliver_begins bytes rest content content_known text = record {
  text = text ∙ simp append_assoc;
  known = record { fits = content_known.fits; only = deliver_only content content_known };
}

tick_only : (other : Event OrderLine) → FitsEvent other → event_json other ≡ event_json TheEvent.Tick → other ≡ TheEvent.Tick
unfolding event_json
tick_only TheEvent.Tick held same = refl
tick_only _ held same = absurd (variants_apart _ _ same refl)

pub tick_begins : (bytes rest : List ℕ) → bytes ≡ codes "\"Tick\"" ++ rest → TextBegins event_json FitsEvent bytes TheEvent.Tick rest
unfolding event_json FitsEvent escape_byte
tick_begins bytes rest text = record {
  text = text;
  known = record { fits = tt; only = tick_only };
}

go_only : (other : Event OrderLine) → FitsEvent other → event_json other ≡ event_json TheEvent.Go → other ≡ TheEvent.Go
unfolding event_json
go_only TheEvent.Go held same = refl
go_only _ held same = absurd (variants_apart _ _ same refl)

pub go_begins : (bytes rest : List ℕ) → bytes ≡ codes "\"Go\"" ++ rest → TextBegins event_json FitsEvent bytes TheEvent.Go rest
unfolding event_json FitsEvent escape_byte
go_begins bytes rest text = record {
  text = text;
  known = record { fits = tt; only = go_only };
}

crash_only : (other : Event OrderLine) → FitsEvent other → event_json other ≡ event_json TheEvent.Crash → other ≡ TheEvent.Crash
unfolding event_json
crash_only TheEvent.Crash held same = refl
crash_only _ held same = absurd (variants_apart _ _ same refl)

pub crash_begins : (bytes rest : List ℕ) → bytes ≡ codes "\"Crash\"" ++ rest → TextBegins event_json FitsEvent bytes TheEvent.Crash rest
unfolding event_json FitsEvent escape_byte
crash_begins bytes rest text = record {
  text = text;
  known = record { fits = tt; only = crash_only };
}

drop_only : (content : ℕ) → IsOnly number_json FitsU32 content → (other : Event OrderLine) → FitsEvent other → event_json other ≡ event_json (TheEvent.Drop content) → other ≡ (TheEvent.Drop content)
unfolding event_json FitsEvent
drop_only content content_known (TheEvent.Drop other_content) held same =
    let content_same : other_content ≡ content = content_known.only other_content held (cc) in
    cc
drop_only content content_known _ held same = absurd (variants_apart _ _ same refl)

pub drop_begins : (bytes rest : List ℕ) (content : ℕ) → IsOnly number_json FitsU32 content → bytes ≡ codes "{\"Drop\":" ++ (compact_text (number_json content) ++ (codes "}" ++ rest)) → TextBegins event_json FitsEvent bytes (TheEvent.Drop content) rest
unfolding event_json FitsEvent escape_byte
drop_begins bytes rest content content_known text = record {
  text = text ∙ simp append_assoc;
  known = record { fits = content_known.fits; only = drop_only content content_known };
}

again_only : (content : ℕ) → IsOnly number_json FitsU32 content → (other : Event OrderLine) → FitsEvent other → event_json other ≡ event_json (TheEvent.Again content) → other ≡ (TheEvent.Again content)
unfolding event_json FitsEvent
again_only content content_known (TheEvent.Again other_content) held same =
    let content_same : other_content ≡ content = content_known.only other_content held (cc) in
    cc
again_only content content_known _ held same = absurd (variants_apart _ _ same refl)

pub again_begins : (bytes rest : List ℕ) (content : ℕ) → IsOnly number_json FitsU32 content → bytes ≡ codes "{\"Again\":" ++ (compact_text (number_json content) ++ (codes "}" ++ rest)) → TextBegins event_json FitsEvent bytes (TheEvent.Again content) rest
unfolding event_json FitsEvent escape_byte
again_begins bytes rest content content_known text = record {
  text = text ∙ simp append_assoc;
  known = record { fits = content_known.fits; only = again_only content content_known };
}

row_only : (row other : Row Mail OrderLine) → IsOnly event_json FitsEvent row.event → IsOnly (list_json mail_json) (Each FitsMail) row.sent → FitsRow other → row_json other ≡ row_json row → other ≡ row
unfolding row_json FitsRow
row_only row other event_only sent_only held same =
    let event : other.event ≡ row.event = event_only.only other.event held.0 (cc) in
    let sent : other.sent ≡ row.sent = sent_only.only other.sent held.1 (cc) in
    let who : other.who ≡ row.who = cc in
    ap₂ (λ f w. f w) (ap₂ (λ e s. let make : ℕ → Row Mail OrderLine = λ w. record { event = e; sent = s; who = w } in make) event sent) who

row_text : (event sent who : Data) (bytes rest : List ℕ) → bytes ≡ codes "{\"event\":" ++ (compact_text event ++ (codes ",\"sent\":" ++ (compact_text sent ++ (codes ",\"who\":" ++ (compact_text who ++ (codes "}" ++ rest)))))) → bytes ≡ compact_text (fields ((codes "event", event) ∷ (codes "sent", sent) ∷ (codes "who", who) ∷ [])) ++ rest
unfolding escape_byte
row_text event sent who bytes rest text = text ∙ simp append_assoc

pub row_begins : (bytes rest : List ℕ) (event : Event OrderLine) (sent : List Mail) (who : ℕ) → IsOnly event_json FitsEvent event → IsOnly (list_json mail_json) (Each FitsMail) sent → IsOnly number_json FitsU32 who → bytes ≡ codes "{\"event\":" ++ (compact_text (event_json event) ++ (codes ",\"sent\":" ++ (compact_text (list_json mail_json sent) ++ (codes ",\"who\":" ++ (compact_text (number_json who) ++ (codes "}" ++ rest)))))) → TextBegins row_json FitsRow bytes (record { who = who; event = event; sent = sent }) rest
unfolding row_json FitsRow
row_begins bytes rest event sent who event_only sent_only who_only text = record {
  text = row_text (event_json event) (list_json mail_json sent) (number_json who) bytes rest text;
  known = record { fits = (event_only.fits, sent_only.fits, who_only.fits); only = λ other held same. row_only (record { who = who; event = event; sent = sent }) other event_only sent_only held same };
}

-- a row whose text is the whole text
whole_row : (text rest : List ℕ) (row : Row Mail OrderLine) → TextBegins row_json FitsRow text row rest → length rest ≡ 0 → text_of row ≡ text
unfolding text_of
whole_row text [] row begins empty = sym (begins.text ∙ append-nil (compact_text (row_json row)))
whole_row text (b ∷ bs) row begins empty = absurd (omega arith)

none_left : (rest : List ℕ) (empty : Bool) → empty ≡ (length rest == 0) → empty ≡ true → length rest ≡ 0
none_left rest empty is truth = let zero : (length rest == 0) ≡ true = sym is ∙ truth in grind (arith, nat_tests)

-- so it is where nothing is left
pub ended_row : (text rest : List ℕ) (row : Row Mail OrderLine) (empty : Bool) → TextBegins row_json FitsRow text row rest → empty ≡ (length rest == 0) → empty ≡ true → text_of row ≡ text
ended_row text rest row empty begins is truth = whole_row text rest row begins (none_left rest empty is truth)

-- it is held
pub held_row : (text rest : List ℕ) (row : Row Mail OrderLine) → TextBegins row_json FitsRow text row rest → IsHeld row
unfolding IsHeld
held_row text rest row begins = begins.known.fits

-- and no other row has the text
pub only_row : (text rest : List ℕ) (row other : Row Mail OrderLine) → ((one : Row Mail OrderLine) → IsHeld one → read (text_of one) ≡ Some (row_json one)) → TextBegins row_json FitsRow text row rest → text_of row ≡ text → IsHeld other → text_of other ≡ text → other ≡ row
unfolding IsHeld
only_row text rest row other back begins whole held same =
    let texts : Some (row_json other) ≡ Some (row_json row) = sym (back other held) ∙ (ap read (same ∙ sym whole) ∙ back row begins.known.fits) in
    begins.known.only other held (same_Some (row_json other) (row_json row) texts)
