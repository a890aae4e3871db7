-- The effect of an entry as JSON.
use Rattle.std.specs.Prelude.{[], ◌∷◌, codes, ⊤}
use Rattle.serde_json.specs.Data.{Data, string}
use Rattle.sc_words.specs.declared.commands.effects.Effect.{Effect}
use Rattle.sc_words.specs.declared.commands.effects.Effect.TheVariants as TheEffect
use Rattle.sc_json_text.specs.rows.Shapes.{number_json, fields, variant}
use Rattle.sc_json_text.specs.rows.Held.{FitsU32, FitsArc}
use Rattle.sc_json_text.specs.rows.Links.{link_json, FitsLink, route_json, FitsRoute}
use Rattle.sc_json_text.specs.rows.Names.{draw_json, FitsDraw}
use Rattle.sc_json_text.specs.rows.Ops.{reply_json, FitsReply}
use Rattle.sc_json_text.specs.rows.Orders.{order_refusal_json, FitsOrderRefusal}
use Rattle.sc_json_text.specs.rows.Outcomes.{outcome_json, FitsOutcome}
use Rattle.sc_json_text.specs.rows.Sets.{arc_json}
use Rattle.sc_json_text.specs.rows.Votes.{past_json, FitsPast}

-- the JSON of an effect: its variant's name, or an object from that name to the content
unfoldable pub effect_json : Effect → Data
effect_json (TheEffect.Done reply) = variant (codes "Done") (reply_json reply)
effect_json (TheEffect.Again reply) = variant (codes "Again") (reply_json reply)
effect_json (TheEffect.Stale last) = variant (codes "Stale") (fields ((codes "last", number_json last) ∷ []))
effect_json (TheEffect.NotMine arc succ) = variant (codes "NotMine") (fields ((codes "arc", arc_json arc) ∷ (codes "succ", link_json succ) ∷ []))
effect_json (TheEffect.Gone into) = variant (codes "Gone") (fields ((codes "into", route_json into) ∷ []))
effect_json (TheEffect.NoEffect tx) = variant (codes "NoEffect") (fields ((codes "tx", draw_json tx) ∷ []))
effect_json TheEffect.Idle = string (codes "Idle")
effect_json TheEffect.Changed = string (codes "Changed")
effect_json (TheEffect.Voted vote) = variant (codes "Voted") (past_json vote)
effect_json (TheEffect.Decided outcome) = variant (codes "Decided") (outcome_json outcome)
effect_json (TheEffect.Refused why) = variant (codes "Refused") (order_refusal_json why)

-- the numbers in an effect are in the ranges of their types
unfoldable pub FitsEffect : Effect → Type 0
FitsEffect (TheEffect.Done reply) = FitsReply reply
FitsEffect (TheEffect.Again reply) = FitsReply reply
FitsEffect (TheEffect.Stale last) = FitsU32 last
FitsEffect (TheEffect.NotMine arc succ) = FitsArc arc × FitsLink succ
FitsEffect (TheEffect.Gone into) = FitsRoute into
FitsEffect (TheEffect.NoEffect tx) = FitsDraw tx
FitsEffect TheEffect.Idle = ⊤
FitsEffect TheEffect.Changed = ⊤
FitsEffect (TheEffect.Voted vote) = FitsPast vote
FitsEffect (TheEffect.Decided outcome) = FitsOutcome outcome
FitsEffect (TheEffect.Refused why) = FitsOrderRefusal why
