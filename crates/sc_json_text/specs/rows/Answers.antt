-- A node's answers to clients as JSON.
use Rattle.std.specs.Prelude.{[], ◌∷◌, codes}
use Rattle.serde_json.specs.Data.{Data}
use Rattle.sc_mail.specs.declared.bodies.AnswerBody.{AnswerBody}
use Rattle.sc_mail.specs.declared.bodies.AnswerBody.TheVariants as TheAnswerBody
use Rattle.sc_json_text.specs.rows.Shapes.{number_json, option_json, fields, variant}
use Rattle.sc_json_text.specs.rows.Held.{FitsU16, FitsU32, OptionFits, FitsArc}
use Rattle.sc_json_text.specs.rows.Ops.{reply_json, FitsReply}
use Rattle.sc_json_text.specs.rows.Links.{link_json, FitsLink, route_json, FitsRoute}
use Rattle.sc_json_text.specs.rows.Sets.{arc_json}

-- The JSON of an answer: the variant that it is, with its content.
unfoldable pub answer_body_json : AnswerBody → Data
answer_body_json (TheAnswerBody.Value content) = variant (codes "Value") (reply_json content)
answer_body_json (TheAnswerBody.NotLeader hint) = variant (codes "NotLeader") (fields ((codes "hint", option_json number_json hint) ∷ []))
answer_body_json (TheAnswerBody.NotMine arc succ) = variant (codes "NotMine") (fields ((codes "arc", arc_json arc) ∷ (codes "succ", link_json succ) ∷ []))
answer_body_json (TheAnswerBody.Gone into) = variant (codes "Gone") (fields ((codes "into", route_json into) ∷ []))
answer_body_json (TheAnswerBody.Stale last) = variant (codes "Stale") (fields ((codes "last", number_json last) ∷ []))

-- An answer that the program's type can hold: each of its parts is valid.
unfoldable pub FitsAnswerBody : AnswerBody → Type 0
FitsAnswerBody (TheAnswerBody.Value content) = FitsReply content
FitsAnswerBody (TheAnswerBody.NotLeader hint) = OptionFits FitsU16 hint
FitsAnswerBody (TheAnswerBody.NotMine arc succ) = FitsArc arc × FitsLink succ
FitsAnswerBody (TheAnswerBody.Gone into) = FitsRoute into
FitsAnswerBody (TheAnswerBody.Stale last) = FitsU32 last
