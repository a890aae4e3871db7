-- The facts that rows decide, as JSON and as lines.
use Rattle.std.specs.Prelude.{ℕ, List, [], ◌∷◌, length, codes, Option}
use Rattle.std.specs.FinMap.{entries}
use Rattle.std.specs.Option.{option_map}
use Rattle.serde_json.specs.Data.{Data, string, array, item, no_items}
use Rattle.serde_json.specs.Written.{compact_text}
use Rattle.sc_base.specs.declared.names.Draw.{Draw}
use Rattle.sc_words.specs.declared.commands.cores.Core.{Core}
use Rattle.sc_words.specs.declared.commands.cores.Lock.{Lock}
use Rattle.sc_words.specs.declared.commands.cores.Lock.TheVariants.{Free, Coordinating, Promised, Watching}
use Rattle.sc_words.specs.declared.commands.effects.Effect.{Effect}
use Rattle.sc_words.specs.declared.ideal.Entry.{Entry}
use Rattle.sc_meaning.specs.declared.entries.Cut.{Cut}
use Rattle.sc_meaning.specs.declared.entries.LogEntry.{LogEntry}
use Rattle.sc_group_table.specs.machine.Group.{Group}
use Rattle.sc_scenario.specs.report.Report.{with_line_feed}
use Rattle.sc_json_text.specs.rows.Commands.{command_json}
use Rattle.sc_json_text.specs.rows.Names.{draw_json}
use Rattle.sc_json_text.specs.rows.Ops.{op_json, reply_json}
use Rattle.sc_json_text.specs.rows.Sets.{arc_json, nodes_json}
use Rattle.sc_json_text.specs.rows.Shapes.{number_json, list_json, option_json, fields, variant}
use Rattle.sc_explain.specs.facts.Effects.{effect_json}
use Rattle.sc_explain.specs.declared.facts.facts.GroupRecord.{GroupRecord}
use Rattle.sc_explain.specs.declared.facts.facts.Hold.{Hold}
use Rattle.sc_explain.specs.declared.facts.facts.Hold.TheVariants as TheHold
use Rattle.sc_explain.specs.declared.facts.facts.RingGroup.{RingGroup}

-- ---- what is said of a group

-- how a lock binds a group, with the transaction alone
abbrev pub hold_of : Lock → Hold
hold_of Free = TheHold.Free
hold_of (Coordinating tx body order heard) = TheHold.Coordinating tx
hold_of (Promised tx offer) = TheHold.Promised tx
hold_of (Watching tx watch) = TheHold.Watching tx

-- what a `record` line says of a group with this record
abbrev pub record_of : Core → GroupRecord
record_of core = record {
  arc = core.arc;
  gone = option_map (λ into. into.group) core.gone;
  lock = hold_of core.lock;
  members = core.members;
  name = core.id;
  pred = core.pred.group;
  succ = core.succ.group;
}

-- what a `group` line says of the group of a cut with this effective record
abbrev pub ring_group_of : Draw → Group → RingGroup
ring_group_of name group = record {
  arc = group.core.arc;
  name = name;
  pairs = length (entries group.pairs);
  pred = group.core.pred.group;
  succ = group.core.succ.group;
}

-- ---- each fact

-- the JSON of the creation of a group
abbrev pub birth_json : Draw → List ℕ → Data
birth_json name members = fields ((codes "group", draw_json name) ∷ (codes "members", nodes_json members) ∷ [])

-- the JSON of an entry of a log with its effect, which is absent where its group was not created
abbrev pub entry_json : LogEntry → Option Effect → Data
entry_json entry effect = fields
    ((codes "command", command_json entry.command)
    ∷ (codes "effect", option_json effect_json effect)
    ∷ (codes "group", draw_json entry.group)
    ∷ (codes "slot", number_json entry.slot)
    ∷ [])

-- the JSON of an entry of the history: a request that took effect, with its reply
abbrev pub history_json : Entry → Data
history_json entry = fields
    ((codes "client", number_json entry.client)
    ∷ (codes "op", op_json entry.op)
    ∷ (codes "reply", reply_json entry.reply)
    ∷ (codes "seq", number_json entry.seq)
    ∷ [])

-- the JSON of how a lock binds a group
abbrev pub hold_json : Hold → Data
hold_json TheHold.Free = string (codes "Free")
hold_json (TheHold.Coordinating tx) = variant (codes "Coordinating") (draw_json tx)
hold_json (TheHold.Promised tx) = variant (codes "Promised") (draw_json tx)
hold_json (TheHold.Watching tx) = variant (codes "Watching") (draw_json tx)

-- the JSON of a group's record by its own log
abbrev pub record_json : GroupRecord → Data
record_json group = fields
    ((codes "arc", arc_json group.arc)
    ∷ (codes "gone", option_json draw_json group.gone)
    ∷ (codes "lock", hold_json group.lock)
    ∷ (codes "members", nodes_json group.members)
    ∷ (codes "name", draw_json group.name)
    ∷ (codes "pred", draw_json group.pred)
    ∷ (codes "succ", draw_json group.succ)
    ∷ [])

-- the JSON of a group of the ring
abbrev pub ring_group_json : RingGroup → Data
ring_group_json group = fields
    ((codes "arc", arc_json group.arc)
    ∷ (codes "name", draw_json group.name)
    ∷ (codes "pairs", number_json group.pairs)
    ∷ (codes "pred", draw_json group.pred)
    ∷ (codes "succ", draw_json group.succ)
    ∷ [])

-- the JSON of a cut: [G,[LO,LEN]]
abbrev pub cut_json : Cut → Data
cut_json cut = array (item (draw_json cut.group) (item (arc_json cut.arc) no_items))

-- ---- their lines

-- the line of a fact of this kind, which the row of this number decided: an object of the fact and the row
abbrev pub fact_line : List ℕ → Data → ℕ → List ℕ
fact_line kind fact row = with_line_feed (compact_text (fields ((kind, fact) ∷ (codes "row", number_json row) ∷ [])))

-- the line of the creation of a group
abbrev pub birth_line : ℕ → Draw → List ℕ → List ℕ
birth_line row name members = fact_line (codes "birth") (birth_json name members) row

-- the line of an entry of a log
abbrev pub entry_line : ℕ → LogEntry → Option Effect → List ℕ
entry_line row entry effect = fact_line (codes "entry") (entry_json entry effect) row

-- the line of an entry of the history
abbrev pub history_line : ℕ → Entry → List ℕ
history_line row entry = fact_line (codes "history") (history_json entry) row

-- the line of a group's record by its own log
abbrev pub record_line : ℕ → GroupRecord → List ℕ
record_line row group = fact_line (codes "record") (record_json group) row

-- the line of a group of the ring
abbrev pub ring_group_line : ℕ → RingGroup → List ℕ
ring_group_line row group = fact_line (codes "group") (ring_group_json group) row

-- the line of the ring
abbrev pub ring_line : ℕ → List Cut → List ℕ
ring_line row ring = fact_line (codes "ring") (list_json cut_json ring) row
