-- Mails at the beginning of a text.
use Rattle.std.proofs.Common.{◌≡◌, ℕ, List, ◌++◌, codes, ◌∙◌, append_assoc}
use Rattle.json.specs.Print.{escape_byte}
use Rattle.serde_json.specs.Written.{compact_text}
use Rattle.sc_json_text.specs.rows.Shapes.{number_json}
use Rattle.sc_json_text.specs.rows.Held.{FitsU32}
use Rattle.sc_json_fast.specs.Prefixes.{IsOnly, TextBegins}
use Rattle.std.proofs.Common.{ap₂}
use Rattle.sc_mail.specs.declared.bodies.Mail.{Mail}
use Rattle.sc_mail.specs.declared.bodies.MailBody.{MailBody}
use Rattle.sc_json_text.specs.rows.Mails.{mail_body_json, FitsMailBody, mail_json, FitsMail}

mail_only : (mail other : Mail) → IsOnly mail_body_json FitsMailBody mail.body → FitsMail other → mail_json other ≡ mail_json mail → other ≡ mail
unfolding mail_json FitsMail
mail_only mail other body_only held same =
    let body : other.body ≡ mail.body = body_only.only other.body held.0 (cc) in
    let from : other.from ≡ mail.from = cc in
    let to : other.to ≡ mail.to = cc in
    ap₂ (λ f w. f w) (ap₂ (λ b s. let make : ℕ → Mail = λ w. record { body = b; from = s; to = w } in make) body from) to

pub mail_begins : (bytes rest : List ℕ) (body : MailBody) (from to : ℕ) → IsOnly mail_body_json FitsMailBody body → IsOnly number_json FitsU32 from → IsOnly number_json FitsU32 to → bytes ≡ codes "{\"body\":" ++ (compact_text (mail_body_json body) ++ (codes ",\"from\":" ++ (compact_text (number_json from) ++ (codes ",\"to\":" ++ (compact_text (number_json to) ++ (codes "}" ++ rest)))))) → TextBegins mail_json FitsMail bytes (record { from = from; to = to; body = body }) rest
unfolding mail_json FitsMail escape_byte
mail_begins bytes rest body from to body_only from_only to_only text = record {
  text = text ∙ simp append_assoc;
  known = record { fits = (body_only.fits, from_only.fits, to_only.fits); only = λ other held same. mail_only (record { from = from; to = to; body = body }) other body_only held same };
}
