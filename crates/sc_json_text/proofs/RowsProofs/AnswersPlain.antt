-- Answers are plain JSON.
use Rattle.std.proofs.Common.{◌≡◌, ℕ, suc, refl}
use Rattle.sc_mail.specs.declared.bodies.AnswerBody.{AnswerBody}
use Rattle.sc_mail.specs.declared.bodies.AnswerBody.TheVariants as TheAnswerBody
use Rattle.sc_json_text.specs.plain.Plain.{IsPlain}
use Rattle.sc_json_text.specs.rows.Definitions.{number_json, FitsU16, answer_body_json, FitsAnswerBody}
use Rattle.sc_json_text.proofs.RowsProofs.SetsPlain.{arc_plain}
use Rattle.sc_json_text.proofs.RowsProofs.LinksPlain.{link_plain, route_plain}
use Rattle.sc_json_text.proofs.RowsProofs.ShapesPlain.{option_plain, u16_plain, u32_plain}
use Rattle.sc_json_text.proofs.RowsProofs.OpsPlain.{reply_plain}

pub answer_body_plain : (room : ℕ) (answer : AnswerBody) → FitsAnswerBody answer → IsPlain (suc (suc (suc (suc room)))) (answer_body_json answer)
unfolding answer_body_json FitsAnswerBody
answer_body_plain room (TheAnswerBody.Value content) fits = (refl, (reply_plain (suc (suc room)) content fits), tt, tt)
answer_body_plain room (TheAnswerBody.NotLeader hint) fits = (refl, (refl, (option_plain (suc (suc room)) number_json FitsU16 (λ y2 g2. (u16_plain y2 g2)) hint fits), tt, tt), tt, tt)
answer_body_plain room (TheAnswerBody.NotMine arc succ) fits = (refl, (refl, (arc_plain (suc room) arc fits.0), refl, (refl, (link_plain room succ fits.1), tt, tt)), tt, tt)
answer_body_plain room (TheAnswerBody.Gone into) fits = (refl, (refl, (route_plain room into fits), tt, tt), tt, tt)
answer_body_plain room (TheAnswerBody.Stale last) fits = (refl, (refl, (u32_plain last fits), tt, tt), tt, tt)
