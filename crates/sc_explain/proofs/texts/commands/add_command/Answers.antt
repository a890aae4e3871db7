use Rattle.std.proofs.Common.{◌≡◌, ◌++◌, List, ℕ, ap, sym, subst, ◌∙◌}
use Rattle.std.specs.Prelude.{OnOk}
use Rattle.serde_json.specs.Written.{compact_text}
use Rattle.sc_words.specs.declared.commands.commands.Command.{Command}
use Rattle.sc_json_text.specs.rows.Commands.{command_json}
use Rattle.sc_explain.proofs.TextsProofs.Pieces.{call_text}
use Rattle.sc_explain.proofs.texts.commands.add_command.Goals as goal

pub returns-in_ok-add_next-in-Call-3 : goal.returns-in_ok-add_next-in-Call-3
returns-in_ok-add_next-in-Call-3 c =
    subst (λ (t : List ℕ). OnOk c.add_word.result (c.add_word.new.text.items ≡ t))
    (call_text c.args.text.now.items c.add_next.new.text.items c.add_next-in-Call.new.text.items c.add_next-in-Call-2.new.text.items c.in-Call.client c.in-Call.seq c.in-Call.op
    c.in_ok-add_next-in-Call.ensures c.in_ok-add_next-in-Call-2.ensures c.in_ok-add_next-in-Call-3.ensures
    ∙ ap (λ (command : Command). c.args.text.now.items ++ compact_text (command_json command)) (sym c.in-Call.is))
    c.add_word.ensures
