use Rattle.std.proofs.Common.{◌∙◌, ap}
use Rattle.serde_json.specs.Written.{has_float}
use Rattle.sc_explain.proofs.FactsProofs.PlainFacts.{effect_whole}
use Rattle.sc_explain.proofs.facts.effects.by_json.Goals as goal

pub add_json-requires : goal.add_json-requires
add_json-requires c = ap has_float c.in_ok-json.ensures.json ∙ effect_whole c.args.effect.now c.in_ok-json.ensures.fits
