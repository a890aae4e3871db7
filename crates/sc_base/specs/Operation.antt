-- Operations on keys.
use Rattle.std.specs.Prelude.{ℕ, List}
use Rattle.sc_base.specs.declared.ops.Op.{Op}
use Rattle.sc_base.specs.declared.ops.Op.TheVariants.{Get, Put, Del, Add, Cas}

-- the key that an operation is on
abbrev pub key_of : Op → List ℕ
key_of (Get key) = key
key_of (Put key value) = key
key_of (Del key) = key
key_of (Add key value) = key
key_of (Cas key expect value) = key
