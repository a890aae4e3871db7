use Rattle.std.proofs.Common.{map, sym, ◌∙◌}
use Rattle.std.specs.Prelude.{string_bytes}
use Rattle.std.proofs.lemmas.List.{length-map}
use Rattle.std.proofs.lemmas.Result.{IfOk-weaker}
use Rattle.sc_cli.proofs.Plain.{read_back, not_taken}
use Rattle.sc_cli.proofs.parsing.parsed.Goals as goal

pub returns-in-Ok : goal.returns-in-Ok
returns-in-Ok c =
    c.subcommand_in.ensures
    ∙ read_back _ (map string_bytes c.args.words.now) _ _ _ c.in_ok-command.ensures (sym (length-map c.args.words.now string_bytes)) c.requires c.in-Ok.ensures.matches

pub returns-in-Err : goal.returns-in-Err
returns-in-Err c =
    IfOk-weaker c.refused.result _ _
    (λ asked h. h.0 ∙ sym (not_taken (map string_bytes c.args.words.now) _ _ c.in_ok-command.ensures c.requires c.in-Err.ensures.passes h.1)) c.refused.ensures
