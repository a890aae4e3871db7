-- What transactions do and ask are plain JSON.
use Rattle.std.proofs.Common.{◌≡◌, ℕ, suc, refl}
use Rattle.sc_words.specs.declared.commands.bodies.Body.{Body}
use Rattle.sc_words.specs.declared.commands.bodies.Body.TheVariants as TheBody
use Rattle.sc_words.specs.declared.commands.bodies.Offer.{Offer}
use Rattle.sc_words.specs.declared.commands.bodies.Watch.{Watch}
use Rattle.sc_json_text.specs.plain.Plain.{IsPlain}
use Rattle.sc_json_text.specs.rows.Definitions.{body_json, FitsBody, offer_json, FitsOffer, watch_json, FitsWatch}
use Rattle.sc_json_text.proofs.RowsProofs.SetsPlain.{arc_plain, nodes_plain}
use Rattle.sc_json_text.proofs.RowsProofs.NamesPlain.{draw_plain}
use Rattle.sc_json_text.proofs.RowsProofs.LinksPlain.{link_plain}
use Rattle.sc_json_text.proofs.RowsProofs.ShapesPlain.{u16_plain, u32_plain}

pub body_plain : (room : ℕ) (body : Body) → FitsBody body → IsPlain (suc (suc room)) (body_json body)
unfolding body_json FitsBody
body_plain room TheBody.Merge fits = refl
body_plain room (TheBody.Repart at) fits = (refl, (refl, (u32_plain at fits), tt, tt), tt, tt)
body_plain room (TheBody.Migrate node) fits = (refl, (refl, (u16_plain node fits), tt, tt), tt, tt)
body_plain room (TheBody.Split at child) fits = (refl, (refl, (u32_plain at fits.0), refl, (refl, (draw_plain room child fits.1), tt, tt)), tt, tt)

pub offer_plain : (room : ℕ) (offer : Offer) → FitsOffer offer → IsPlain (suc (suc (suc room))) (offer_json offer)
unfolding offer_json FitsOffer
offer_plain room offer fits = (refl, (arc_plain (suc room) offer.arc fits.0), refl, (refl, (body_plain room offer.body fits.1), refl, (refl, (u16_plain offer.by fits.2), refl, (refl, (draw_plain (suc (suc room)) offer.coord fits.3), refl, (refl, (nodes_plain (suc room) offer.members fits.4), refl, (refl, (draw_plain (suc (suc room)) offer.part fits.5), tt, tt))))))

pub watch_plain : (room : ℕ) (watch : Watch) → FitsWatch watch → IsPlain (suc (suc (suc room))) (watch_json watch)
unfolding watch_json FitsWatch
watch_plain room watch fits = (refl, (u16_plain watch.by fits.0), refl, (refl, (draw_plain (suc (suc room)) watch.coord fits.1), refl, (refl, (nodes_plain (suc room) watch.members fits.2), refl, (refl, (link_plain room watch.next fits.3), refl, (refl, (draw_plain (suc (suc room)) watch.old fits.4), refl, (refl, (draw_plain (suc (suc room)) watch.part fits.5), tt, tt))))))
