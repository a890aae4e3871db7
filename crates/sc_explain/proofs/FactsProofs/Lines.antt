-- Pieces, one behind another, are the text of an effect, of a cut and of a lock, and the lines of facts.
use Rattle.std.proofs.Common.{◌≡◌, ℕ, List, [], ◌∷◌, ◌++◌, codes, decimal, Option, refl, ap, ◌∙◌, append_assoc}
use Rattle.json.specs.Print.{escape_byte}
use Rattle.serde_json.specs.Written.{compact_text}
use Rattle.sc_base.specs.declared.names.Draw.{Draw}
use Rattle.sc_base.specs.declared.ops.Reply.{Reply}
use Rattle.sc_words.specs.declared.commands.effects.Effect.{Effect}
use Rattle.sc_words.specs.declared.commands.effects.Effect.TheVariants as TheEffect
use Rattle.sc_words.specs.declared.ideal.Entry.{Entry}
use Rattle.sc_meaning.specs.declared.entries.Cut.{Cut}
use Rattle.sc_meaning.specs.declared.entries.LogEntry.{LogEntry}
use Rattle.sc_json_text.specs.rows.Commands.{command_json}
use Rattle.sc_json_text.specs.rows.Names.{draw_json}
use Rattle.sc_json_text.specs.rows.Ops.{op_json, reply_json}
use Rattle.sc_json_text.specs.rows.Sets.{arc_json, nodes_json}
use Rattle.sc_json_text.specs.rows.Shapes.{list_json, option_json}
use Rattle.sc_explain.proofs.TextsProofs.Pieces.{then}
use Rattle.sc_explain.specs.facts.Effects.{effect_json}
use Rattle.sc_explain.specs.facts.Facts.{birth_line, cut_json, entry_line, history_line, hold_json, record_line, ring_group_line, ring_line}
use Rattle.sc_explain.specs.declared.facts.facts.GroupRecord.{GroupRecord}
use Rattle.sc_explain.specs.declared.facts.facts.Hold.TheVariants as TheHold
use Rattle.sc_explain.specs.declared.facts.facts.RingGroup.{RingGroup}

done_pieces : (old : List ℕ) (reply : Reply) → (old ++ (codes "{\"Done\":" ++ compact_text (reply_json reply))) ++ codes "}" ≡ old ++ compact_text (effect_json (TheEffect.Done reply))
unfolding effect_json escape_byte
done_pieces old reply = simp append_assoc

-- the effect of a request that is carried out
pub done_text : (old t : List ℕ) (reply : Reply) → t ≡ old ++ (codes "{\"Done\":" ++ compact_text (reply_json reply)) → t ++ codes "}" ≡ old ++ compact_text (effect_json (TheEffect.Done reply))
done_text old t reply t_is = ap (λ (x : List ℕ). x ++ codes "}") t_is ∙ done_pieces old reply

cut_pieces : (old : List ℕ) (cut : Cut) → ((old ++ (codes "[" ++ compact_text (draw_json cut.group))) ++ (codes "," ++ compact_text (arc_json cut.arc))) ++ codes "]" ≡ old ++ compact_text (cut_json cut)
cut_pieces old cut = simp append_assoc

-- a cut of the ring
pub cut_text : (old t u : List ℕ) (cut : Cut) → t ≡ old ++ (codes "[" ++ compact_text (draw_json cut.group)) → u ≡ t ++ (codes "," ++ compact_text (arc_json cut.arc)) → u ++ codes "]" ≡ old ++ compact_text (cut_json cut)
cut_text old t u cut t_is u_is = ap (λ (x : List ℕ). x ++ codes "]") (then _ _ _ _ u_is t_is) ∙ cut_pieces old cut

-- how a lock binds a group
pub free_text : codes "\"Free\"" ≡ compact_text (hold_json TheHold.Free)
unfolding escape_byte
free_text = refl

pub coordinating_text : (tx : Draw) → codes "{\"Coordinating\":" ++ (compact_text (draw_json tx) ++ codes "}") ≡ compact_text (hold_json (TheHold.Coordinating tx))
unfolding escape_byte
coordinating_text tx = simp append_assoc

pub promised_text : (tx : Draw) → codes "{\"Promised\":" ++ (compact_text (draw_json tx) ++ codes "}") ≡ compact_text (hold_json (TheHold.Promised tx))
unfolding escape_byte
promised_text tx = simp append_assoc

pub watching_text : (tx : Draw) → codes "{\"Watching\":" ++ (compact_text (draw_json tx) ++ codes "}") ≡ compact_text (hold_json (TheHold.Watching tx))
unfolding escape_byte
watching_text tx = simp append_assoc

-- an object of two, four, five or seven members, or another value, in an object with a row, and a line feed: its pieces, one behind another
value_joined : (kind v1 r v e f : List ℕ)
    → ((([] ++ kind) ++ v1) ++ (r ++ v)) ++ (e ++ f)
    ≡ (kind ++ (v1 ++ (r ++ (v ++ e)))) ++ f
value_joined kind v1 r v e f = simp append_assoc

two_joined : (kind k1 v1 k2 v2 z r v e f : List ℕ)
    → ((([] ++ ((kind ++ k1) ++ v1)) ++ (k2 ++ v2)) ++ ((z ++ r) ++ v)) ++ (e ++ f)
    ≡ (kind ++ ((k1 ++ (v1 ++ (k2 ++ (v2 ++ z)))) ++ (r ++ (v ++ e)))) ++ f
two_joined kind k1 v1 k2 v2 z r v e f = simp append_assoc

entry_joined : (kind k1 v1 k2 v2 k3 v3 k4 v4 z r v e f : List ℕ)
    → ((((((([] ++ (kind ++ k1)) ++ v1) ++ k2) ++ v2) ++ (k3 ++ v3)) ++ (k4 ++ v4)) ++ ((z ++ r) ++ v)) ++ (e ++ f)
    ≡ (kind ++ ((k1 ++ (v1 ++ (k2 ++ (v2 ++ (k3 ++ (v3 ++ (k4 ++ (v4 ++ z)))))))) ++ (r ++ (v ++ e)))) ++ f
entry_joined kind k1 v1 k2 v2 k3 v3 k4 v4 z r v e f = simp append_assoc

four_joined : (kind k1 v1 k2 v2 k3 v3 k4 v4 z r v e f : List ℕ)
    → ((((([] ++ ((kind ++ k1) ++ v1)) ++ (k2 ++ v2)) ++ (k3 ++ v3)) ++ (k4 ++ v4)) ++ ((z ++ r) ++ v)) ++ (e ++ f)
    ≡ (kind ++ ((k1 ++ (v1 ++ (k2 ++ (v2 ++ (k3 ++ (v3 ++ (k4 ++ (v4 ++ z)))))))) ++ (r ++ (v ++ e)))) ++ f
four_joined kind k1 v1 k2 v2 k3 v3 k4 v4 z r v e f = simp append_assoc

five_joined : (kind k1 v1 k2 v2 k3 v3 k4 v4 k5 v5 z r v e f : List ℕ)
    → (((((([] ++ ((kind ++ k1) ++ v1)) ++ (k2 ++ v2)) ++ (k3 ++ v3)) ++ (k4 ++ v4)) ++ (k5 ++ v5)) ++ ((z ++ r) ++ v)) ++ (e ++ f)
    ≡ (kind ++ ((k1 ++ (v1 ++ (k2 ++ (v2 ++ (k3 ++ (v3 ++ (k4 ++ (v4 ++ (k5 ++ (v5 ++ z)))))))))) ++ (r ++ (v ++ e)))) ++ f
five_joined kind k1 v1 k2 v2 k3 v3 k4 v4 k5 v5 z r v e f = simp append_assoc

seven_joined : (kind k1 v1 k2 v2 k3 v3 k4 v4 k5 v5 k6 v6 k7 v7 z r v e f : List ℕ)
    → (((((((([] ++ ((kind ++ k1) ++ v1)) ++ (k2 ++ v2)) ++ (k3 ++ v3)) ++ (k4 ++ v4)) ++ (k5 ++ v5)) ++ (k6 ++ v6)) ++ (k7 ++ v7)) ++ ((z ++ r) ++ v)) ++ (e ++ f)
    ≡ (kind ++ ((k1 ++ (v1 ++ (k2 ++ (v2 ++ (k3 ++ (v3 ++ (k4 ++ (v4 ++ (k5 ++ (v5 ++ (k6 ++ (v6 ++ (k7 ++ (v7 ++ z)))))))))))))) ++ (r ++ (v ++ e)))) ++ f
seven_joined kind k1 v1 k2 v2 k3 v3 k4 v4 k5 v5 k6 v6 k7 v7 z r v e f = simp append_assoc

entry_pieces : (row : ℕ) (entry : LogEntry) (effect : Option Effect) → ((((((([] ++ codes "{\"entry\":{\"command\":") ++ compact_text (command_json entry.command)) ++ codes ",\"effect\":") ++ compact_text (option_json effect_json effect)) ++ (codes ",\"group\":" ++ compact_text (draw_json entry.group))) ++ (codes ",\"slot\":" ++ decimal entry.slot)) ++ (codes "},\"row\":" ++ decimal row)) ++ codes "}\n" ≡ entry_line row entry effect
unfolding escape_byte
entry_pieces row entry effect =
    entry_joined (codes "{\"entry\":") (codes "{\"command\":") (compact_text (command_json entry.command)) (codes ",\"effect\":") (compact_text (option_json effect_json effect)) (codes ",\"group\":") (compact_text (draw_json entry.group)) (codes ",\"slot\":") (decimal entry.slot)
    (codes "}") (codes ",\"row\":") (decimal row) (codes "}") (10 ∷ [])

-- the line of an entry of a log
pub entry_text : (row : ℕ) (entry : LogEntry) (effect : Option Effect) (t0 t1 t2 t3 t4 t5 t6 t7 t8 : List ℕ)
    → t0 ≡ [] → t1 ≡ t0 ++ codes "{\"entry\":{\"command\":" → t2 ≡ t1 ++ compact_text (command_json entry.command) → t3 ≡ t2 ++ codes ",\"effect\":" → t4 ≡ t3 ++ compact_text (option_json effect_json effect) → t5 ≡ t4 ++ (codes ",\"group\":" ++ compact_text (draw_json entry.group)) → t6 ≡ t5 ++ (codes ",\"slot\":" ++ decimal entry.slot) → t7 ≡ t6 ++ (codes "},\"row\":" ++ decimal row) → t8 ≡ t7 ++ codes "}\n"
    → t8 ≡ entry_line row entry effect
entry_text row entry effect t0 t1 t2 t3 t4 t5 t6 t7 t8 e0 e1 e2 e3 e4 e5 e6 e7 e8 =
    then _ _ _ _ e8 (then _ _ _ _ e7 (then _ _ _ _ e6 (then _ _ _ _ e5 (then _ _ _ _ e4 (then _ _ _ _ e3 (then _ _ _ _ e2 (then _ _ _ _ e1 e0))))))) ∙ entry_pieces row entry effect

history_pieces : (row : ℕ) (entry : Entry) → ((((([] ++ (codes "{\"history\":{\"client\":" ++ decimal entry.client)) ++ (codes ",\"op\":" ++ compact_text (op_json entry.op))) ++ (codes ",\"reply\":" ++ compact_text (reply_json entry.reply))) ++ (codes ",\"seq\":" ++ decimal entry.seq)) ++ (codes "},\"row\":" ++ decimal row)) ++ codes "}\n" ≡ history_line row entry
unfolding escape_byte
history_pieces row entry =
    four_joined (codes "{\"history\":") (codes "{\"client\":") (decimal entry.client) (codes ",\"op\":") (compact_text (op_json entry.op)) (codes ",\"reply\":") (compact_text (reply_json entry.reply)) (codes ",\"seq\":") (decimal entry.seq)
    (codes "}") (codes ",\"row\":") (decimal row) (codes "}") (10 ∷ [])

-- the line of an entry of the history
pub history_text : (row : ℕ) (entry : Entry) (t0 t1 t2 t3 t4 t5 t6 : List ℕ)
    → t0 ≡ [] → t1 ≡ t0 ++ (codes "{\"history\":{\"client\":" ++ decimal entry.client) → t2 ≡ t1 ++ (codes ",\"op\":" ++ compact_text (op_json entry.op)) → t3 ≡ t2 ++ (codes ",\"reply\":" ++ compact_text (reply_json entry.reply)) → t4 ≡ t3 ++ (codes ",\"seq\":" ++ decimal entry.seq) → t5 ≡ t4 ++ (codes "},\"row\":" ++ decimal row) → t6 ≡ t5 ++ codes "}\n"
    → t6 ≡ history_line row entry
history_text row entry t0 t1 t2 t3 t4 t5 t6 e0 e1 e2 e3 e4 e5 e6 =
    then _ _ _ _ e6 (then _ _ _ _ e5 (then _ _ _ _ e4 (then _ _ _ _ e3 (then _ _ _ _ e2 (then _ _ _ _ e1 e0))))) ∙ history_pieces row entry

ring_group_pieces : (row : ℕ) (group : RingGroup) → (((((([] ++ (codes "{\"group\":{\"arc\":" ++ compact_text (arc_json group.arc))) ++ (codes ",\"name\":" ++ compact_text (draw_json group.name))) ++ (codes ",\"pairs\":" ++ decimal group.pairs)) ++ (codes ",\"pred\":" ++ compact_text (draw_json group.pred))) ++ (codes ",\"succ\":" ++ compact_text (draw_json group.succ))) ++ (codes "},\"row\":" ++ decimal row)) ++ codes "}\n" ≡ ring_group_line row group
unfolding escape_byte
ring_group_pieces row group =
    five_joined (codes "{\"group\":") (codes "{\"arc\":") (compact_text (arc_json group.arc)) (codes ",\"name\":") (compact_text (draw_json group.name)) (codes ",\"pairs\":") (decimal group.pairs) (codes ",\"pred\":") (compact_text (draw_json group.pred)) (codes ",\"succ\":") (compact_text (draw_json group.succ))
    (codes "}") (codes ",\"row\":") (decimal row) (codes "}") (10 ∷ [])

-- the line of a group of the ring
pub ring_group_text : (row : ℕ) (group : RingGroup) (t0 t1 t2 t3 t4 t5 t6 t7 : List ℕ)
    → t0 ≡ [] → t1 ≡ t0 ++ (codes "{\"group\":{\"arc\":" ++ compact_text (arc_json group.arc)) → t2 ≡ t1 ++ (codes ",\"name\":" ++ compact_text (draw_json group.name)) → t3 ≡ t2 ++ (codes ",\"pairs\":" ++ decimal group.pairs) → t4 ≡ t3 ++ (codes ",\"pred\":" ++ compact_text (draw_json group.pred)) → t5 ≡ t4 ++ (codes ",\"succ\":" ++ compact_text (draw_json group.succ)) → t6 ≡ t5 ++ (codes "},\"row\":" ++ decimal row) → t7 ≡ t6 ++ codes "}\n"
    → t7 ≡ ring_group_line row group
ring_group_text row group t0 t1 t2 t3 t4 t5 t6 t7 e0 e1 e2 e3 e4 e5 e6 e7 =
    then _ _ _ _ e7 (then _ _ _ _ e6 (then _ _ _ _ e5 (then _ _ _ _ e4 (then _ _ _ _ e3 (then _ _ _ _ e2 (then _ _ _ _ e1 e0)))))) ∙ ring_group_pieces row group

birth_pieces : (row : ℕ) (name : Draw) (members : List ℕ) → ((([] ++ (codes "{\"birth\":{\"group\":" ++ compact_text (draw_json name))) ++ (codes ",\"members\":" ++ compact_text (nodes_json members))) ++ (codes "},\"row\":" ++ decimal row)) ++ codes "}\n" ≡ birth_line row name members
unfolding escape_byte
birth_pieces row name members =
    two_joined (codes "{\"birth\":") (codes "{\"group\":") (compact_text (draw_json name)) (codes ",\"members\":") (compact_text (nodes_json members))
    (codes "}") (codes ",\"row\":") (decimal row) (codes "}") (10 ∷ [])

-- the line of the creation of a group
pub birth_text : (row : ℕ) (name : Draw) (members : List ℕ) (t0 t1 t2 t3 t4 : List ℕ)
    → t0 ≡ [] → t1 ≡ t0 ++ (codes "{\"birth\":{\"group\":" ++ compact_text (draw_json name)) → t2 ≡ t1 ++ (codes ",\"members\":" ++ compact_text (nodes_json members)) → t3 ≡ t2 ++ (codes "},\"row\":" ++ decimal row) → t4 ≡ t3 ++ codes "}\n"
    → t4 ≡ birth_line row name members
birth_text row name members t0 t1 t2 t3 t4 e0 e1 e2 e3 e4 =
    then _ _ _ _ e4 (then _ _ _ _ e3 (then _ _ _ _ e2 (then _ _ _ _ e1 e0))) ∙ birth_pieces row name members

record_pieces : (row : ℕ) (group : GroupRecord) → (((((((([] ++ (codes "{\"record\":{\"arc\":" ++ compact_text (arc_json group.arc))) ++ (codes ",\"gone\":" ++ compact_text (option_json draw_json group.gone))) ++ (codes ",\"lock\":" ++ compact_text (hold_json group.lock))) ++ (codes ",\"members\":" ++ compact_text (nodes_json group.members))) ++ (codes ",\"name\":" ++ compact_text (draw_json group.name))) ++ (codes ",\"pred\":" ++ compact_text (draw_json group.pred))) ++ (codes ",\"succ\":" ++ compact_text (draw_json group.succ))) ++ (codes "},\"row\":" ++ decimal row)) ++ codes "}\n" ≡ record_line row group
unfolding escape_byte
record_pieces row group =
    seven_joined (codes "{\"record\":") (codes "{\"arc\":") (compact_text (arc_json group.arc)) (codes ",\"gone\":") (compact_text (option_json draw_json group.gone)) (codes ",\"lock\":") (compact_text (hold_json group.lock)) (codes ",\"members\":") (compact_text (nodes_json group.members)) (codes ",\"name\":") (compact_text (draw_json group.name)) (codes ",\"pred\":") (compact_text (draw_json group.pred)) (codes ",\"succ\":") (compact_text (draw_json group.succ))
    (codes "}") (codes ",\"row\":") (decimal row) (codes "}") (10 ∷ [])

-- the line of a group's record by its own log
pub record_text : (row : ℕ) (group : GroupRecord) (t0 t1 t2 t3 t4 t5 t6 t7 t8 t9 : List ℕ)
    → t0 ≡ [] → t1 ≡ t0 ++ (codes "{\"record\":{\"arc\":" ++ compact_text (arc_json group.arc)) → t2 ≡ t1 ++ (codes ",\"gone\":" ++ compact_text (option_json draw_json group.gone)) → t3 ≡ t2 ++ (codes ",\"lock\":" ++ compact_text (hold_json group.lock)) → t4 ≡ t3 ++ (codes ",\"members\":" ++ compact_text (nodes_json group.members)) → t5 ≡ t4 ++ (codes ",\"name\":" ++ compact_text (draw_json group.name)) → t6 ≡ t5 ++ (codes ",\"pred\":" ++ compact_text (draw_json group.pred)) → t7 ≡ t6 ++ (codes ",\"succ\":" ++ compact_text (draw_json group.succ)) → t8 ≡ t7 ++ (codes "},\"row\":" ++ decimal row) → t9 ≡ t8 ++ codes "}\n"
    → t9 ≡ record_line row group
record_text row group t0 t1 t2 t3 t4 t5 t6 t7 t8 t9 e0 e1 e2 e3 e4 e5 e6 e7 e8 e9 =
    then _ _ _ _ e9 (then _ _ _ _ e8 (then _ _ _ _ e7 (then _ _ _ _ e6 (then _ _ _ _ e5 (then _ _ _ _ e4 (then _ _ _ _ e3 (then _ _ _ _ e2 (then _ _ _ _ e1 e0)))))))) ∙ record_pieces row group

ring_pieces : (row : ℕ) (ring : List Cut) → ((([] ++ codes "{\"ring\":") ++ compact_text (list_json cut_json ring)) ++ (codes ",\"row\":" ++ decimal row)) ++ codes "}\n" ≡ ring_line row ring
unfolding escape_byte
ring_pieces row ring = value_joined (codes "{\"ring\":") (compact_text (list_json cut_json ring)) (codes ",\"row\":") (decimal row) (codes "}") (10 ∷ [])

-- the line of the ring
pub ring_text : (row : ℕ) (ring : List Cut) (t0 t1 t2 t3 t4 : List ℕ)
    → t0 ≡ [] → t1 ≡ t0 ++ codes "{\"ring\":" → t2 ≡ t1 ++ compact_text (list_json cut_json ring) → t3 ≡ t2 ++ (codes ",\"row\":" ++ decimal row) → t4 ≡ t3 ++ codes "}\n"
    → t4 ≡ ring_line row ring
ring_text row ring t0 t1 t2 t3 t4 e0 e1 e2 e3 e4 =
    then _ _ _ _ e4 (then _ _ _ _ e3 (then _ _ _ _ e2 (then _ _ _ _ e1 e0))) ∙ ring_pieces row ring
