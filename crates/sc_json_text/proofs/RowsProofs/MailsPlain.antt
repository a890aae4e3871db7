-- Mails are plain JSON.
use Rattle.std.proofs.Common.{◌≡◌, ℕ, suc, refl}
use Rattle.sc_mail.specs.declared.bodies.MailBody.{MailBody}
use Rattle.sc_mail.specs.declared.bodies.MailBody.TheVariants as TheMailBody
use Rattle.sc_mail.specs.declared.bodies.Mail.{Mail}
use Rattle.sc_json_text.specs.plain.Plain.{IsPlain}
use Rattle.sc_json_text.specs.rows.Definitions.{number_json, FitsU16, FitsMembers, report_json, FitsReport, mail_body_json, FitsMailBody, mail_json, FitsMail, nodes_json}
use Rattle.sc_json_text.proofs.RowsProofs.AnswersPlain.{answer_body_plain}
use Rattle.sc_json_text.proofs.RowsProofs.NamesPlain.{ballot_plain, draw_plain}
use Rattle.sc_json_text.proofs.RowsProofs.CoresPlain.{base_plain}
use Rattle.sc_json_text.proofs.RowsProofs.CommandsPlain.{command_plain, report_plain}
use Rattle.sc_json_text.proofs.RowsProofs.ShapesPlain.{list_plain, option_plain, u16_plain, u32_plain}
use Rattle.sc_json_text.proofs.RowsProofs.SetsPlain.{nodes_plain}
use Rattle.sc_json_text.proofs.RowsProofs.BodiesPlain.{offer_plain, watch_plain}
use Rattle.sc_json_text.proofs.RowsProofs.OpsPlain.{op_plain}
use Rattle.sc_json_text.proofs.RowsProofs.OutcomesPlain.{outcome_plain}
use Rattle.sc_json_text.proofs.RowsProofs.VotesPlain.{past_plain, vote_plain}
use Rattle.sc_json_text.proofs.RowsProofs.OrdersPlain.{order_result_plain}

pub mail_body_plain : (room : ℕ) (body : MailBody) → FitsMailBody body → IsPlain (suc (suc (suc (suc (suc (suc (suc (suc (suc (suc (suc (suc room)))))))))))) (mail_body_json body)
unfolding mail_body_json FitsMailBody
mail_body_plain room (TheMailBody.Request group client seq op) fits = (refl, (refl, (u16_plain client fits.0), refl, (refl, (draw_plain (suc (suc (suc (suc (suc (suc (suc (suc (suc (suc room)))))))))) group fits.1), refl, (refl, (op_plain (suc (suc (suc (suc (suc (suc (suc (suc room)))))))) op fits.2), refl, (refl, (u32_plain seq fits.3), tt, tt)))), tt, tt)
mail_body_plain room (TheMailBody.Answer group seq answer) fits = (refl, (refl, (answer_body_plain (suc (suc (suc (suc (suc (suc room)))))) answer fits.0), refl, (refl, (draw_plain (suc (suc (suc (suc (suc (suc (suc (suc (suc (suc room)))))))))) group fits.1), refl, (refl, (u32_plain seq fits.2), tt, tt))), tt, tt)
mail_body_plain room (TheMailBody.Prepare group ballot from_slot) fits = (refl, (refl, (ballot_plain (suc (suc (suc (suc (suc (suc (suc (suc (suc room))))))))) ballot fits.0), refl, (refl, (u32_plain from_slot fits.1), refl, (refl, (draw_plain (suc (suc (suc (suc (suc (suc (suc (suc (suc (suc room)))))))))) group fits.2), tt, tt))), tt, tt)
mail_body_plain room (TheMailBody.Promise group ballot reports) fits = (refl, (refl, (ballot_plain (suc (suc (suc (suc (suc (suc (suc (suc (suc room))))))))) ballot fits.0), refl, (refl, (draw_plain (suc (suc (suc (suc (suc (suc (suc (suc (suc (suc room)))))))))) group fits.1), refl, (refl, (list_plain (suc (suc (suc (suc (suc (suc (suc (suc (suc room))))))))) report_json FitsReport (λ y10 g10. (report_plain room y10 g10)) reports fits.2), tt, tt))), tt, tt)
mail_body_plain room (TheMailBody.Accept group ballot slot command) fits = (refl, (refl, (ballot_plain (suc (suc (suc (suc (suc (suc (suc (suc (suc room))))))))) ballot fits.0), refl, (refl, (command_plain (suc (suc room)) command fits.1), refl, (refl, (draw_plain (suc (suc (suc (suc (suc (suc (suc (suc (suc (suc room)))))))))) group fits.2), refl, (refl, (u32_plain slot fits.3), tt, tt)))), tt, tt)
mail_body_plain room (TheMailBody.Accepted group ballot slot) fits = (refl, (refl, (ballot_plain (suc (suc (suc (suc (suc (suc (suc (suc (suc room))))))))) ballot fits.0), refl, (refl, (draw_plain (suc (suc (suc (suc (suc (suc (suc (suc (suc (suc room)))))))))) group fits.1), refl, (refl, (u32_plain slot fits.2), tt, tt))), tt, tt)
mail_body_plain room (TheMailBody.Nack group promised) fits = (refl, (refl, (draw_plain (suc (suc (suc (suc (suc (suc (suc (suc (suc (suc room)))))))))) group fits.0), refl, (refl, (ballot_plain (suc (suc (suc (suc (suc (suc (suc (suc (suc room))))))))) promised fits.1), tt, tt)), tt, tt)
mail_body_plain room (TheMailBody.Learn group slot command) fits = (refl, (refl, (command_plain (suc (suc room)) command fits.0), refl, (refl, (draw_plain (suc (suc (suc (suc (suc (suc (suc (suc (suc (suc room)))))))))) group fits.1), refl, (refl, (u32_plain slot fits.2), tt, tt))), tt, tt)
mail_body_plain room (TheMailBody.Ask group from_slot) fits = (refl, (refl, (u32_plain from_slot fits.0), refl, (refl, (draw_plain (suc (suc (suc (suc (suc (suc (suc (suc (suc (suc room)))))))))) group fits.1), tt, tt)), tt, tt)
mail_body_plain room (TheMailBody.Install group slot base sets) fits = (refl, (refl, (base_plain room base fits.0), refl, (refl, (draw_plain (suc (suc (suc (suc (suc (suc (suc (suc (suc (suc room)))))))))) group fits.1), refl, (refl, (list_plain (suc (suc (suc (suc (suc (suc (suc (suc (suc room))))))))) nodes_json FitsMembers (λ y10 g10. (nodes_plain (suc (suc (suc (suc (suc (suc (suc (suc room)))))))) y10 g10)) sets fits.2), refl, (refl, (u32_plain slot fits.3), tt, tt)))), tt, tt)
mail_body_plain room (TheMailBody.TxPrepare tx offer) fits = (refl, (refl, (offer_plain (suc (suc (suc (suc (suc (suc (suc room))))))) offer fits.0), refl, (refl, (draw_plain (suc (suc (suc (suc (suc (suc (suc (suc (suc (suc room)))))))))) tx fits.1), tt, tt)), tt, tt)
mail_body_plain room (TheMailBody.TxVote tx coord part vote) fits = (refl, (refl, (draw_plain (suc (suc (suc (suc (suc (suc (suc (suc (suc (suc room)))))))))) coord fits.0), refl, (refl, (draw_plain (suc (suc (suc (suc (suc (suc (suc (suc (suc (suc room)))))))))) part fits.1), refl, (refl, (draw_plain (suc (suc (suc (suc (suc (suc (suc (suc (suc (suc room)))))))))) tx fits.2), refl, (refl, (vote_plain (suc (suc (suc (suc (suc room))))) vote fits.3), tt, tt)))), tt, tt)
mail_body_plain room (TheMailBody.TxOutcome tx part outcome) fits = (refl, (refl, (outcome_plain (suc (suc (suc (suc room)))) outcome fits.0), refl, (refl, (draw_plain (suc (suc (suc (suc (suc (suc (suc (suc (suc (suc room)))))))))) part fits.1), refl, (refl, (draw_plain (suc (suc (suc (suc (suc (suc (suc (suc (suc (suc room)))))))))) tx fits.2), tt, tt))), tt, tt)
mail_body_plain room (TheMailBody.TxElsewhere tx coord hint) fits = (refl, (refl, (draw_plain (suc (suc (suc (suc (suc (suc (suc (suc (suc (suc room)))))))))) coord fits.0), refl, (refl, (option_plain (suc (suc (suc (suc (suc (suc (suc (suc (suc (suc room)))))))))) number_json FitsU16 (λ y10 g10. (u16_plain y10 g10)) hint fits.1), refl, (refl, (draw_plain (suc (suc (suc (suc (suc (suc (suc (suc (suc (suc room)))))))))) tx fits.2), tt, tt))), tt, tt)
mail_body_plain room (TheMailBody.TxWatch tx watch) fits = (refl, (refl, (draw_plain (suc (suc (suc (suc (suc (suc (suc (suc (suc (suc room)))))))))) tx fits.0), refl, (refl, (watch_plain (suc (suc (suc (suc (suc (suc (suc room))))))) watch fits.1), tt, tt)), tt, tt)
mail_body_plain room (TheMailBody.TxWatched tx coord part vote) fits = (refl, (refl, (draw_plain (suc (suc (suc (suc (suc (suc (suc (suc (suc (suc room)))))))))) coord fits.0), refl, (refl, (draw_plain (suc (suc (suc (suc (suc (suc (suc (suc (suc (suc room)))))))))) part fits.1), refl, (refl, (draw_plain (suc (suc (suc (suc (suc (suc (suc (suc (suc (suc room)))))))))) tx fits.2), refl, (refl, (past_plain (suc (suc (suc (suc (suc (suc (suc room))))))) vote fits.3), tt, tt)))), tt, tt)
mail_body_plain room (TheMailBody.Told order result) fits = (refl, (refl, (u32_plain order fits.0), refl, (refl, (order_result_plain (suc (suc (suc (suc (suc (suc (suc room))))))) result fits.1), tt, tt)), tt, tt)

pub mail_plain : (room : ℕ) (mail : Mail) → FitsMail mail → IsPlain (suc (suc (suc (suc (suc (suc (suc (suc (suc (suc (suc (suc (suc room))))))))))))) (mail_json mail)
unfolding mail_json FitsMail
mail_plain room mail fits = (refl, (mail_body_plain room mail.body fits.0), refl, (refl, (u32_plain mail.from fits.1), refl, (refl, (u32_plain mail.to fits.2), tt, tt)))
