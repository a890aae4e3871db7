-- The ideal store: one finite map from keys to values, in the order of the keys' bytes.
use Rattle.std.specs.Prelude.{ℕ, Bool, false, List, Option, Some, None, fold, nat_eq, is_none, if◌then◌else◌}
use Rattle.std.specs.Ordering.{nat_cmp}
use Rattle.std.specs.Cmp.Lexicographic.{slice_cmp, pointwise}
use Rattle.std.specs.FinMap.{FinMap, get, insert, remove, retain_keys}
use Rattle.sc_base.specs.Definitions.{Arc, holds, pos_of}
pub use Rattle.sc_base.specs.Operation.{key_of}
use Rattle.sc_base.specs.declared.ops.Op.{Op}
use Rattle.sc_base.specs.declared.ops.Op.TheVariants.{Get, Put, Del, Add, Cas}
use Rattle.sc_base.specs.declared.ops.Reply.{Reply}

-- the contents of a store: a map from keys to values, both by their bytes
abbrev pub Contents : Type 0
Contents = FinMap (slice_cmp nat_cmp) (List ℕ)

-- the reply to an operation: the value that its key had before, or none
abbrev pub reply_of : Op → Contents → Reply
reply_of op contents = record { old = get contents (key_of op) }

-- whether there is a value, and it is the expected one
abbrev pub was : List ℕ → Option (List ℕ) → Bool
was expect None = false
was expect (Some old) = pointwise nat_eq old expect

-- the map after an operation
abbrev pub after : Op → Contents → Contents
after (Get key) contents = contents
after (Put key value) contents = insert contents key value
after (Del key) contents = remove contents key
after (Add key value) contents = if is_none (get contents key) then insert contents key value else contents
after (Cas key expect value) contents = if was expect (get contents key) then insert contents key value else contents

-- whether an arc holds the position of a key
abbrev pub holds_key : Arc → List ℕ → Bool
holds_key arc key = holds arc (pos_of key)

-- the part of the map on an arc
abbrev pub part_of : Arc → Contents → Contents
part_of arc contents = retain_keys contents (holds_key arc)

-- the map with these pairs added; a pair replaces the value of its key
abbrev pub with_pairs : Contents → List (List ℕ × List ℕ) → Contents
with_pairs = fold (λ contents pair. insert contents pair.0 pair.1)
