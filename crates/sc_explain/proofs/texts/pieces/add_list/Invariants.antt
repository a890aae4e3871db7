use Rattle.std.proofs.Common.{◌≡◌, ◌++◌}
use Rattle.serde_json.specs.Written.{compact_text}
use Rattle.sc_json_text.specs.rows.Shapes.{list_json}
use Rattle.sc_explain.proofs.TextsProofs.Lists.{text_from}
use Rattle.sc_explain.proofs.texts.pieces.add_list.Given as goal

-- with what is left, it is the whole
abbrev pub invariant-loop-value : goal.invariant-loop-value
invariant-loop-value g l = l.text.items ++ text_from g.T.ToText.json_of l.later l.value-index l.values ≡ l.fn.text.items ++ compact_text (list_json g.T.ToText.json_of l.values)
