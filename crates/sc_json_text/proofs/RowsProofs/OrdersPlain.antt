-- Orders and their results are plain JSON.
use Rattle.std.proofs.Common.{◌≡◌, ℕ, suc, refl}
use Rattle.sc_words.specs.declared.commands.orders.Order.{Order}
use Rattle.sc_words.specs.declared.commands.orders.Order.TheVariants as TheOrder
use Rattle.sc_words.specs.declared.commands.orders.OrderLine.{OrderLine}
use Rattle.sc_words.specs.declared.commands.orders.OrderRefusal.{OrderRefusal}
use Rattle.sc_words.specs.declared.commands.orders.OrderRefusal.TheVariants as TheOrderRefusal
use Rattle.sc_words.specs.declared.commands.orders.OrderResult.{OrderResult}
use Rattle.sc_words.specs.declared.commands.orders.OrderResult.TheVariants as TheOrderResult
use Rattle.sc_json_text.specs.plain.Plain.{IsPlain}
use Rattle.sc_json_text.specs.rows.Definitions.{number_json, FitsU16, order_json, FitsOrder, order_line_json, FitsOrderLine, order_refusal_json, FitsOrderRefusal, order_result_json, FitsOrderResult}
use Rattle.sc_json_text.proofs.RowsProofs.NamesPlain.{draw_plain}
use Rattle.sc_json_text.proofs.RowsProofs.ShapesPlain.{option_plain, u16_plain, u32_plain, u8_plain}

pub order_plain : (room : ℕ) (order : Order) → FitsOrder order → IsPlain (suc (suc room)) (order_json order)
unfolding order_json FitsOrder
order_plain room (TheOrder.Join node group) fits = (refl, (refl, (draw_plain room group fits.0), refl, (refl, (u16_plain node fits.1), tt, tt)), tt, tt)
order_plain room (TheOrder.Leave node group) fits = (refl, (refl, (draw_plain room group fits.0), refl, (refl, (u16_plain node fits.1), tt, tt)), tt, tt)
order_plain room (TheOrder.Split group at) fits = (refl, (refl, (u32_plain at fits.0), refl, (refl, (draw_plain room group fits.1), tt, tt)), tt, tt)
order_plain room (TheOrder.Merge group) fits = (refl, (refl, (draw_plain room group fits), tt, tt), tt, tt)
order_plain room (TheOrder.Repart group at) fits = (refl, (refl, (u32_plain at fits.0), refl, (refl, (draw_plain room group fits.1), tt, tt)), tt, tt)
order_plain room (TheOrder.Migrate group node) fits = (refl, (refl, (draw_plain room group fits.0), refl, (refl, (u16_plain node fits.1), tt, tt)), tt, tt)

pub order_line_plain : (room : ℕ) (line : OrderLine) → FitsOrderLine line → IsPlain (suc (suc (suc room))) (order_line_json line)
unfolding order_line_json FitsOrderLine
order_line_plain room line fits = (refl, (u32_plain line.number fits.0), refl, (refl, (order_plain room line.order fits.1), tt, tt))

pub order_refusal_plain : (room : ℕ) (order_refusal : OrderRefusal) → FitsOrderRefusal order_refusal → IsPlain (suc (suc room)) (order_refusal_json order_refusal)
unfolding order_refusal_json FitsOrderRefusal
order_refusal_plain room (TheOrderRefusal.NotLeader hint) fits = (refl, (refl, (option_plain room number_json FitsU16 (λ y0 g0. (u16_plain y0 g0)) hint fits), tt, tt), tt, tt)
order_refusal_plain room (TheOrderRefusal.InTransaction tx) fits = (refl, (refl, (draw_plain room tx fits), tt, tt), tt, tt)
order_refusal_plain room TheOrderRefusal.NoNeighbour fits = refl
order_refusal_plain room TheOrderRefusal.BadBoundary fits = refl
order_refusal_plain room (TheOrderRefusal.TooManyMembers n) fits = (refl, (refl, (u8_plain n fits), tt, tt), tt, tt)
order_refusal_plain room TheOrderRefusal.NotMember fits = refl
order_refusal_plain room TheOrderRefusal.LastMember fits = refl
order_refusal_plain room TheOrderRefusal.TxLimit fits = refl
order_refusal_plain room TheOrderRefusal.IsMember fits = refl

pub order_result_plain : (room : ℕ) (result_reported : OrderResult) → FitsOrderResult result_reported → IsPlain (suc (suc (suc room))) (order_result_json result_reported)
unfolding order_result_json FitsOrderResult
order_result_plain room TheOrderResult.Done fits = refl
order_result_plain room TheOrderResult.Committed fits = refl
order_result_plain room TheOrderResult.Aborted fits = refl
order_result_plain room (TheOrderResult.Refused content) fits = (refl, (order_refusal_plain room content fits), tt, tt)
