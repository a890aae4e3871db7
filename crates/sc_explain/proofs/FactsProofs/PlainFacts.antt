-- Effects are plain JSON, so they have no floats.
use Rattle.std.proofs.Common.{◌≡◌, false, refl}
use Rattle.serde_json.specs.Written.{has_float}
use Rattle.sc_words.specs.declared.commands.effects.Effect.{Effect}
use Rattle.sc_words.specs.declared.commands.effects.Effect.TheVariants as TheEffect
use Rattle.sc_json_text.specs.plain.Plain.{IsPlain}
use Rattle.sc_json_text.proofs.PlainProofs.ReadBack.{plain_has_no_float}
use Rattle.sc_json_text.proofs.RowsProofs.LinksPlain.{link_plain, route_plain}
use Rattle.sc_json_text.proofs.RowsProofs.NamesPlain.{draw_plain}
use Rattle.sc_json_text.proofs.RowsProofs.OpsPlain.{reply_plain}
use Rattle.sc_json_text.proofs.RowsProofs.OrdersPlain.{order_refusal_plain}
use Rattle.sc_json_text.proofs.RowsProofs.OutcomesPlain.{outcome_plain}
use Rattle.sc_json_text.proofs.RowsProofs.SetsPlain.{arc_plain}
use Rattle.sc_json_text.proofs.RowsProofs.ShapesPlain.{u32_plain}
use Rattle.sc_json_text.proofs.RowsProofs.VotesPlain.{past_plain}
use Rattle.sc_explain.specs.facts.Effects.{effect_json, FitsEffect}

effect_plain : (effect : Effect) → FitsEffect effect → IsPlain 20 (effect_json effect)
unfolding effect_json FitsEffect
effect_plain (TheEffect.Done reply) fits = (refl, reply_plain 18 reply fits, tt, tt)
effect_plain (TheEffect.Again reply) fits = (refl, reply_plain 18 reply fits, tt, tt)
effect_plain (TheEffect.Stale last) fits = (refl, (refl, u32_plain last fits, tt, tt), tt, tt)
effect_plain (TheEffect.NotMine arc succ) fits = (refl, (refl, arc_plain 17 arc fits.0, refl, (refl, link_plain 16 succ fits.1, tt, tt)), tt, tt)
effect_plain (TheEffect.Gone into) fits = (refl, (refl, route_plain 16 into fits, tt, tt), tt, tt)
effect_plain (TheEffect.NoEffect tx) fits = (refl, (refl, draw_plain 18 tx fits, tt, tt), tt, tt)
effect_plain TheEffect.Idle fits = refl
effect_plain TheEffect.Changed fits = refl
effect_plain (TheEffect.Voted vote) fits = (refl, past_plain 16 vote fits, tt, tt)
effect_plain (TheEffect.Decided outcome) fits = (refl, outcome_plain 13 outcome fits, tt, tt)
effect_plain (TheEffect.Refused why) fits = (refl, order_refusal_plain 17 why fits, tt, tt)

-- an effect
pub effect_whole : (effect : Effect) → FitsEffect effect → has_float (effect_json effect) ≡ false
effect_whole effect fits = plain_has_no_float 20 (effect_json effect) (effect_plain effect fits)
