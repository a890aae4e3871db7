-- Commands at the beginning of a text.
use Rattle.std.proofs.Common.{◌≡◌, ℕ, List, ◌++◌, codes, refl, ◌∙◌, append_assoc}
use Rattle.json.specs.Print.{escape_byte}
use Rattle.serde_json.specs.Written.{compact_text}
use Rattle.sc_json_text.specs.rows.Shapes.{number_json}
use Rattle.sc_json_text.specs.rows.Held.{FitsU16, FitsU32}
use Rattle.sc_json_fast.specs.Prefixes.{IsOnly, TextBegins}
use Rattle.sc_json_text.proofs.RowsProofs.Apart.{variants_apart}
use Rattle.sc_base.specs.declared.ops.Op.{Op}
use Rattle.sc_words.specs.declared.commands.commands.Command.{Command}
use Rattle.sc_words.specs.declared.commands.commands.Command.TheVariants as TheCommand
use Rattle.sc_json_text.specs.rows.Ops.{op_json, FitsOp}
use Rattle.sc_json_text.specs.rows.Commands.{command_json, FitsCommand}

call_only : (client : ℕ) (seq : ℕ) (op : Op) → IsOnly number_json FitsU16 client → IsOnly op_json FitsOp op → IsOnly number_json FitsU32 seq → (other : Command) → FitsCommand other → command_json other ≡ command_json (TheCommand.Call client seq op) → other ≡ (TheCommand.Call client seq op)
unfolding command_json FitsCommand
call_only client seq op client_known op_known seq_known (TheCommand.Call other_client other_seq other_op) held same =
    let client_same : other_client ≡ client = client_known.only other_client held.0 (cc) in
    let op_same : other_op ≡ op = op_known.only other_op held.1 (cc) in
    let seq_same : other_seq ≡ seq = seq_known.only other_seq held.2 (cc) in
    cc
call_only client seq op client_known op_known seq_known _ held same = absurd (variants_apart _ _ same refl)

pub call_begins : (bytes rest : List ℕ) (client : ℕ) (seq : ℕ) (op : Op) → IsOnly number_json FitsU16 client → IsOnly op_json FitsOp op → IsOnly number_json FitsU32 seq → bytes ≡ codes "{\"Call\":{\"client\":" ++ (compact_text (number_json client) ++ (codes ",\"op\":" ++ (compact_text (op_json op) ++ (codes ",\"seq\":" ++ (compact_text (number_json seq) ++ (codes "}}" ++ rest)))))) → TextBegins command_json FitsCommand bytes (TheCommand.Call client seq op) rest
unfolding command_json FitsCommand escape_byte
call_begins bytes rest client seq op client_known op_known seq_known text = record {
  text = text ∙ simp append_assoc;
  known = record { fits = (client_known.fits, op_known.fits, seq_known.fits); only = call_only client seq op client_known op_known seq_known };
}

noop_only : (other : Command) → FitsCommand other → command_json other ≡ command_json TheCommand.Noop → other ≡ TheCommand.Noop
unfolding command_json
noop_only TheCommand.Noop held same = refl
noop_only _ held same = absurd (variants_apart _ _ same refl)

pub noop_begins : (bytes rest : List ℕ) → bytes ≡ codes "\"Noop\"" ++ rest → TextBegins command_json FitsCommand bytes TheCommand.Noop rest
unfolding command_json FitsCommand escape_byte
noop_begins bytes rest text = record {
  text = text;
  known = record { fits = tt; only = noop_only };
}
