-- Operations and replies as JSON.
use Rattle.std.specs.Prelude.{[], ◌∷◌, codes}
use Rattle.serde_json.specs.Data.{Data, string}
use Rattle.sc_base.specs.declared.ops.Op.{Op}
use Rattle.sc_base.specs.declared.ops.Op.TheVariants as TheOp
use Rattle.sc_base.specs.declared.ops.Reply.{Reply}
use Rattle.sc_json_text.specs.rows.Shapes.{option_json, fields, variant}
use Rattle.sc_json_text.specs.rows.Held.{FitsKey, FitsValue, OptionFits}

-- The JSON of an operation: the variant that it is, with its key and values.
unfoldable pub op_json : Op → Data
op_json (TheOp.Get key) = variant (codes "Get") (fields ((codes "key", string key) ∷ []))
op_json (TheOp.Put key value) = variant (codes "Put") (fields ((codes "key", string key) ∷ (codes "value", string value) ∷ []))
op_json (TheOp.Del key) = variant (codes "Del") (fields ((codes "key", string key) ∷ []))
op_json (TheOp.Add key value) = variant (codes "Add") (fields ((codes "key", string key) ∷ (codes "value", string value) ∷ []))
op_json (TheOp.Cas key expect value) = variant (codes "Cas") (fields ((codes "expect", string expect) ∷ (codes "key", string key) ∷ (codes "value", string value) ∷ []))

-- An operation that the program's type can hold: its keys and values are valid.
unfoldable pub FitsOp : Op → Type 0
FitsOp (TheOp.Get key) = FitsKey key
FitsOp (TheOp.Put key value) = FitsKey key × FitsValue value
FitsOp (TheOp.Del key) = FitsKey key
FitsOp (TheOp.Add key value) = FitsKey key × FitsValue value
FitsOp (TheOp.Cas key expect value) = FitsValue expect × FitsKey key × FitsValue value

-- The JSON of a reply: the value that the key had before, or null.
unfoldable pub reply_json : Reply → Data
reply_json reply = fields ((codes "old", option_json string reply.old) ∷ [])

-- A reply that the program's type can hold: its value is valid.
unfoldable pub FitsReply : Reply → Type 0
FitsReply reply = OptionFits FitsValue reply.old
