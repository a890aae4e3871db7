-- Answers at the beginning of a text.
use Rattle.std.proofs.Common.{◌≡◌, ℕ, List, Option, ◌++◌, codes, refl, ◌∙◌, append_assoc}
use Rattle.json.specs.Print.{escape_byte}
use Rattle.serde_json.specs.Written.{compact_text}
use Rattle.sc_json_text.specs.rows.Shapes.{number_json, option_json}
use Rattle.sc_json_text.specs.rows.Held.{FitsU16, FitsU32, OptionFits}
use Rattle.sc_json_fast.specs.Prefixes.{IsOnly, TextBegins}
use Rattle.sc_json_text.proofs.RowsProofs.Apart.{variants_apart}
use Rattle.sc_base.specs.declared.ops.Reply.{Reply}
use Rattle.sc_mail.specs.declared.bodies.AnswerBody.{AnswerBody}
use Rattle.sc_mail.specs.declared.bodies.AnswerBody.TheVariants as TheAnswerBody
use Rattle.sc_json_text.specs.rows.Ops.{reply_json, FitsReply}
use Rattle.sc_json_text.specs.rows.Answers.{answer_body_json, FitsAnswerBody}

value_only : (content : Reply) → IsOnly reply_json FitsReply content → (other : AnswerBody) → FitsAnswerBody other → answer_body_json other ≡ answer_body_json (TheAnswerBody.Value content) → other ≡ (TheAnswerBody.Value content)
unfolding answer_body_json FitsAnswerBody
value_only content content_known (TheAnswerBody.Value other_content) held same =
    let content_same : other_content ≡ content = content_known.only other_content held (cc) in
    cc
value_only content content_known _ held same = absurd (variants_apart _ _ same refl)

pub value_begins : (bytes rest : List ℕ) (content : Reply) → IsOnly reply_json FitsReply content → bytes ≡ codes "{\"Value\":" ++ (compact_text (reply_json content) ++ (codes "}" ++ rest)) → TextBegins answer_body_json FitsAnswerBody bytes (TheAnswerBody.Value content) rest
unfolding answer_body_json FitsAnswerBody escape_byte
value_begins bytes rest content content_known text = record {
  text = text ∙ simp append_assoc;
  known = record { fits = content_known.fits; only = value_only content content_known };
}

not_leader_only : (hint : Option ℕ) → IsOnly (option_json number_json) (OptionFits FitsU16) hint → (other : AnswerBody) → FitsAnswerBody other → answer_body_json other ≡ answer_body_json (TheAnswerBody.NotLeader hint) → other ≡ (TheAnswerBody.NotLeader hint)
unfolding answer_body_json FitsAnswerBody
not_leader_only hint hint_known (TheAnswerBody.NotLeader other_hint) held same =
    let hint_same : other_hint ≡ hint = hint_known.only other_hint held (cc) in
    cc
not_leader_only hint hint_known _ held same = absurd (variants_apart _ _ same refl)

pub not_leader_begins : (bytes rest : List ℕ) (hint : Option ℕ) → IsOnly (option_json number_json) (OptionFits FitsU16) hint → bytes ≡ codes "{\"NotLeader\":{\"hint\":" ++ (compact_text (option_json number_json hint) ++ (codes "}}" ++ rest)) → TextBegins answer_body_json FitsAnswerBody bytes (TheAnswerBody.NotLeader hint) rest
unfolding answer_body_json FitsAnswerBody escape_byte
not_leader_begins bytes rest hint hint_known text = record {
  text = text ∙ simp append_assoc;
  known = record { fits = hint_known.fits; only = not_leader_only hint hint_known };
}

stale_only : (last : ℕ) → IsOnly number_json FitsU32 last → (other : AnswerBody) → FitsAnswerBody other → answer_body_json other ≡ answer_body_json (TheAnswerBody.Stale last) → other ≡ (TheAnswerBody.Stale last)
unfolding answer_body_json FitsAnswerBody
stale_only last last_known (TheAnswerBody.Stale other_last) held same =
    let last_same : other_last ≡ last = last_known.only other_last held (cc) in
    cc
stale_only last last_known _ held same = absurd (variants_apart _ _ same refl)

pub stale_begins : (bytes rest : List ℕ) (last : ℕ) → IsOnly number_json FitsU32 last → bytes ≡ codes "{\"Stale\":{\"last\":" ++ (compact_text (number_json last) ++ (codes "}}" ++ rest)) → TextBegins answer_body_json FitsAnswerBody bytes (TheAnswerBody.Stale last) rest
unfolding answer_body_json FitsAnswerBody escape_byte
stale_begins bytes rest last last_known text = record {
  text = text ∙ simp append_assoc;
  known = record { fits = last_known.fits; only = stale_only last last_known };
}
