-- Pieces, one behind another, are the text of a value.
use Rattle.std.proofs.Common.{◌≡◌, ℕ, List, [], ◌∷◌, ◌++◌, codes, decimal, refl, ap, ap₂, ◌∙◌, append_assoc, append-nil}
use Rattle.json.specs.Print.{escape_byte}
use Rattle.serde_json.specs.Data.{string}
use Rattle.serde_json.specs.Written.{compact_text}
use Rattle.sc_base.specs.Arc.{Arc}
use Rattle.sc_base.specs.declared.names.Draw.{Draw}
use Rattle.sc_base.specs.declared.ops.Op.{Op}
use Rattle.sc_base.specs.declared.ops.Op.TheVariants as TheOp
use Rattle.sc_base.specs.declared.ops.Reply.{Reply}
use Rattle.sc_words.specs.declared.commands.commands.Command.TheVariants as TheCommand
use Rattle.sc_json_text.specs.rows.Commands.{command_json}
use Rattle.sc_json_text.specs.rows.Held.{FitsU16, FitsU32}
use Rattle.sc_json_text.specs.rows.Names.{draw_json}
use Rattle.sc_json_text.specs.rows.Ops.{op_json, reply_json}
use Rattle.sc_json_text.specs.rows.Sets.{arc_json}
use Rattle.sc_json_text.specs.rows.Shapes.{number_json, option_json}
use Rattle.sc_json_fast.specs.Prefixes.{IsOnly}
use Rattle.sc_json_fast.proofs.Spelling.{draw_begins}

-- a name
pub draw_text : (old t u : List ℕ) (draw : Draw) → FitsU16 draw.node → FitsU32 draw.count → t ≡ old ++ (codes "\"" ++ decimal draw.node) → u ≡ t ++ (codes "." ++ decimal draw.count)
    → u ++ codes "\"" ≡ old ++ compact_text (draw_json draw)
draw_text old t u draw n c t_is u_is =
    let first : IsOnly number_json FitsU16 draw.node = record { fits = n; only = λ other held same. cc } in
    let second : IsOnly number_json FitsU32 draw.count = record { fits = c; only = λ other held same. cc } in
    let text : List ℕ = (34 ∷ []) ++ (decimal draw.node ++ ((46 ∷ []) ++ (decimal draw.count ++ ((34 ∷ []) ++ [])))) in
    let pieces : ((old ++ (codes "\"" ++ decimal draw.node)) ++ (codes "." ++ decimal draw.count)) ++ codes "\"" ≡ old ++ text = simp append_assoc in
    ap (λ (x : List ℕ). x ++ codes "\"") (u_is ∙ ap (λ (x : List ℕ). x ++ (codes "." ++ decimal draw.count)) t_is)
    ∙ pieces ∙ ap (λ t. old ++ t) ((draw_begins text [] draw.node draw.count first second refl).text ∙ append-nil _)

-- an arc
arc_pieces : (old : List ℕ) (arc : Arc) → ((old ++ (codes "[" ++ decimal arc.lo)) ++ (codes "," ++ decimal arc.len)) ++ codes "]" ≡ old ++ compact_text (arc_json arc)
unfolding arc_json
arc_pieces old arc = simp append_assoc

pub arc_text : (old t u : List ℕ) (lo len : ℕ) (arc : Arc) → t ≡ old ++ (codes "[" ++ decimal lo) → u ≡ t ++ (codes "," ++ decimal len) → lo ≡ arc.lo → len ≡ arc.len
    → u ++ codes "]" ≡ old ++ compact_text (arc_json arc)
arc_text old t u lo len arc t_is u_is lo_is len_is =
    ap (λ (x : List ℕ). x ++ codes "]") (u_is ∙ ap (λ (x : List ℕ). x ++ (codes "," ++ decimal len)) t_is)
    ∙ ap₂ (λ (a b : ℕ). ((old ++ (codes "[" ++ decimal a)) ++ (codes "," ++ decimal b)) ++ codes "]") lo_is len_is ∙ arc_pieces old arc

-- operations
pub get_text : (key : List ℕ) → codes "{\"Get\":{\"key\":" ++ (compact_text (string key) ++ codes "}}") ≡ compact_text (op_json (TheOp.Get key))
unfolding op_json escape_byte
get_text key = simp append_assoc

pub del_text : (key : List ℕ) → codes "{\"Del\":{\"key\":" ++ (compact_text (string key) ++ codes "}}") ≡ compact_text (op_json (TheOp.Del key))
unfolding op_json escape_byte
del_text key = simp append_assoc

pub put_text : (key value : List ℕ)
    → codes "{\"Put\":{\"key\":" ++ (compact_text (string key) ++ (codes ",\"value\":" ++ (compact_text (string value) ++ codes "}}"))) ≡ compact_text (op_json (TheOp.Put key value))
unfolding op_json escape_byte
put_text key value = simp append_assoc

pub add_text : (key value : List ℕ)
    → codes "{\"Add\":{\"key\":" ++ (compact_text (string key) ++ (codes ",\"value\":" ++ (compact_text (string value) ++ codes "}}"))) ≡ compact_text (op_json (TheOp.Add key value))
unfolding op_json escape_byte
add_text key value = simp append_assoc

cas_pieces : (old key expect value : List ℕ)
    → (old ++ (codes "{\"Cas\":{\"expect\":" ++ compact_text (string expect))) ++ (codes ",\"key\":" ++ (compact_text (string key) ++ (codes ",\"value\":" ++ (compact_text (string value) ++ codes "}}"))))
    ≡ old ++ compact_text (op_json (TheOp.Cas key expect value))
unfolding op_json escape_byte
cas_pieces old key expect value = simp append_assoc

pub cas_text : (old t key expect value : List ℕ) → t ≡ old ++ (codes "{\"Cas\":{\"expect\":" ++ compact_text (string expect))
    → t ++ (codes ",\"key\":" ++ (compact_text (string key) ++ (codes ",\"value\":" ++ (compact_text (string value) ++ codes "}}")))) ≡ old ++ compact_text (op_json (TheOp.Cas key expect value))
cas_text old t key expect value t_is =
    ap (λ (x : List ℕ). x ++ (codes ",\"key\":" ++ (compact_text (string key) ++ (codes ",\"value\":" ++ (compact_text (string value) ++ codes "}}"))))) t_is ∙ cas_pieces old key expect value

-- a reply
reply_pieces : (old : List ℕ) (reply : Reply) → (old ++ (codes "{\"old\":" ++ compact_text (option_json string reply.old))) ++ codes "}" ≡ old ++ compact_text (reply_json reply)
unfolding reply_json escape_byte
reply_pieces old reply = simp append_assoc

pub reply_text : (old t : List ℕ) (reply : Reply) → t ≡ old ++ (codes "{\"old\":" ++ compact_text (option_json string reply.old)) → t ++ codes "}" ≡ old ++ compact_text (reply_json reply)
reply_text old t reply t_is = ap (λ (x : List ℕ). x ++ codes "}") t_is ∙ reply_pieces old reply

-- a request of a client
call_pieces : (old : List ℕ) (client seq : ℕ) (op : Op)
    → (((old ++ (codes "{\"Call\":{\"client\":" ++ decimal client)) ++ (codes ",\"op\":" ++ compact_text (op_json op))) ++ (codes ",\"seq\":" ++ decimal seq)) ++ codes "}}"
    ≡ old ++ compact_text (command_json (TheCommand.Call client seq op))
unfolding command_json escape_byte
call_pieces old client seq op = simp append_assoc

pub call_text : (old t u v : List ℕ) (client seq : ℕ) (op : Op) → t ≡ old ++ (codes "{\"Call\":{\"client\":" ++ decimal client) → u ≡ t ++ (codes ",\"op\":" ++ compact_text (op_json op)) → v ≡ u ++ (codes ",\"seq\":" ++ decimal seq)
    → v ++ codes "}}" ≡ old ++ compact_text (command_json (TheCommand.Call client seq op))
call_text old t u v client seq op t_is u_is v_is =
    ap (λ (x : List ℕ). x ++ codes "}}") (v_is ∙ ap (λ (x : List ℕ). x ++ (codes ",\"seq\":" ++ decimal seq)) (u_is ∙ ap (λ (x : List ℕ). x ++ (codes ",\"op\":" ++ compact_text (op_json op))) t_is))
    ∙ call_pieces old client seq op

-- one piece more
pub then : (before after known piece : List ℕ) → after ≡ before ++ piece → before ≡ known → after ≡ known ++ piece
then before after known piece is before_is = is ∙ ap (λ (x : List ℕ). x ++ piece) before_is
