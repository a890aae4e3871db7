-- What the `==` of the types of this crate decides.
use Rattle.std.proofs.Common.{rules}
use Rattle.std.specs.Prelude.{nat_eq}
use Rattle.std.specs.Cmp.Lexicographic.{pointwise}
use Rattle.sc_base.proofs.EqualityLemmas.{Exact, lists, options, numbers, struct, last, ◌and◌, enum, ◌or◌, no_variant}
use Rattle.sc_base.specs.contracts.arcs.RingArcPartialEq.TheImpl as arc_eq
use Rattle.sc_base.specs.contracts.names.Ballot as ballot_type
use Rattle.sc_base.specs.contracts.names.BallotPartialEq.TheImpl as ballot_eq
use Rattle.sc_base.specs.contracts.names.Draw as draw_type
use Rattle.sc_base.specs.contracts.names.DrawPartialEq.TheImpl as draw_eq
use Rattle.sc_base.specs.contracts.ops.Noted as noted_type
use Rattle.sc_base.specs.contracts.ops.NotedPartialEq.TheImpl as noted_eq
use Rattle.sc_base.specs.contracts.ops.Op as op_type
use Rattle.sc_base.specs.contracts.ops.OpPartialEq.TheImpl as op_eq
use Rattle.sc_base.specs.contracts.ops.Reply as reply_type
use Rattle.sc_base.specs.contracts.ops.ReplyPartialEq.TheImpl as reply_eq

-- keys and values
pub bytes : Exact (pointwise nat_eq)
bytes = lists numbers

pub arc : Exact arc_eq.ghosts.eq
arc = record { decides = λ x y. search rules }

pub draw : Exact draw_eq.ghosts.eq
draw = struct draw_type.the_type (numbers and last numbers)

pub ballot : Exact ballot_eq.ghosts.eq
ballot = struct ballot_type.the_type (numbers and last numbers)

pub op : Exact op_eq.ghosts.eq
op = enum op_type.enum (last bytes or bytes and last bytes or last bytes or bytes and last bytes or bytes and bytes and last bytes or no_variant)

pub reply : Exact reply_eq.ghosts.eq
reply = struct reply_type.the_type (last (options bytes))

pub noted : Exact noted_eq.ghosts.eq
noted = struct noted_type.the_type (numbers and last reply)
