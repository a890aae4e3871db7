-- What an order that is not refused can rely on.
use Rattle.std.proofs.Common.{◌≡◌, ◌≢◌, ◌≤◌, ◌<◌, ℕ, ◌==◌, ◌||◌, ◌&&◌, not, nat_le, length, Bool, true, false, cond, Option, Some, None, IsTrue, refl, arith}
use Rattle.std.proofs.lemmas.Bool.{leb-false}
use Rattle.std.proofs.lemmas.Bool.Decides.{nat_tests}
use Rattle.sc_base.specs.Definitions.{holds, end_of, add_error, remove_error, is_member}
use Rattle.sc_base.specs.declared.names.Draw.{Draw}
use Rattle.sc_base.specs.declared.sets.MemberError.TheVariants.{Present, Full}
use Rattle.sc_words.specs.declared.commands.bodies.Body.{Body}
use Rattle.sc_words.specs.declared.commands.bodies.Body.TheVariants.{Merge, Repart, Migrate, Split}
use Rattle.sc_words.specs.declared.commands.commands.Command.{Command}
use Rattle.sc_words.specs.declared.commands.cores.Core.{Core}
use Rattle.sc_words.specs.declared.commands.orders.OrderRefusal.TheVariants.{NoNeighbour, BadBoundary, TooManyMembers, NotMember, LastMember, TxLimit, IsMember}
use Rattle.sc_words.specs.commands.CommandDefinitions.{is_alone}
use Rattle.sc_group_table.specs.machine.MachineDefinitions.{refused_in, refused_free, join_refused, leave_refused, split_refused, limit_refused, body_refused, begin_refused, CanSplit}

-- what is not refused passes the first test, and is not refused by what follows
passed : {X : Type 0} (test : Bool) (why : X) (rest : Option X) → cond test (Some why) rest ≡ None → (test ≡ false) × (rest ≡ None)
passed true why rest e = absurd (let clash : Some why ≡ None = e in cc)
passed false why rest e = (refl, e)

-- what is not refused in its lock comes to a group that is free
pub free_of : (lock : Option Draw) (core : Core) (command : Command) → refused_in lock core command ≡ None → refused_free core command ≡ None
free_of None core command e = e
free_of (Some tx) core command e = absurd cc

-- a node that may join can be added
added : (full there : Bool) → cond (full && not there) (Some (TooManyMembers 10)) (cond there (Some IsMember) None) ≡ None → cond there (Some Present) (cond full (Some Full) None) ≡ None
added true true e = absurd cc
added false true e = absurd cc
added true false e = absurd cc
added false false e = refl

pub can_join : (core : Core) (node : ℕ) → join_refused core node ≡ None → add_error core.members node ≡ None
can_join core node e = added (length core.members == 9) (is_member core.members node) e

-- one that may leave can be removed
pub can_leave : (core : Core) (node : ℕ) → leave_refused core node ≡ None → remove_error core.members node ≡ None
can_leave core node e =
    let there = passed (not (is_member core.members node)) NotMember _ e in
    let other = passed (length core.members == 1) LastMember None there.1 in
    rw (there.0, other.0) refl

-- under the limit one more transaction can be counted
few : (core : Core) → limit_refused core ≡ None → core.begun < 256
few core e = leb-false 256 core.begun (passed (nat_le 256 core.begun) TxLimit None e).0

few_body : (body : Body) (core : Core) → body_refused body core ≡ None → core.begun < 256
few_body Merge core e = few core e
few_body (Repart at) core e = few core (passed ((at == core.arc.lo) || (at == end_of core.arc)) BadBoundary (limit_refused core) e).1
few_body (Migrate node) core e =
    let there = passed (not (is_member core.members node)) NotMember (cond (length core.members == 1) (Some LastMember) (limit_refused core)) e in
    few core (passed (length core.members == 1) LastMember (limit_refused core) there.1).1
few_body (Split at child) core e = few core e

-- a transaction that may begin can be counted
pub can_begin : (core : Core) (body : Body) → begin_refused core body ≡ None → core.begun < 256
can_begin core body e = few_body body core (passed (is_alone core) NoNeighbour (body_refused body core) e).1

-- a group that may split passes all three tests
split_passed : (core : Core) (at : ℕ) → split_refused core at ≡ None
    → (((at == core.arc.lo) || not (holds core.arc at)) ≡ false) × ((length core.members == 1) ≡ false) × ((not (is_alone core) && nat_le 256 core.begun) ≡ false)
split_passed core at e =
    let place = passed ((at == core.arc.lo) || not (holds core.arc at)) BadBoundary _ e in
    let two = passed (length core.members == 1) LastMember _ place.1 in
    let limit = passed (not (is_alone core) && nat_le 256 core.begun) TxLimit None two.1 in
    (place.0, two.0, limit.0)

inside : (at lo : ℕ) (held : Bool) → ((at == lo) || not held) ≡ false → IsTrue held × (at ≢ lo)
inside at lo held e = grind (arith, nat_tests)

two_at_least : (n : ℕ) → 1 ≤ n → (n == 1) ≡ false → 2 ≤ n
two_at_least n some e = grind (arith, nat_tests)

-- one that may split can be split there
pub can_split : (core : Core) (at : ℕ) → 1 ≤ length core.members → split_refused core at ≡ None → CanSplit core at
can_split core at some e =
    let tests = split_passed core at e in
    record {
      cut = inside at core.arc.lo (holds core.arc at) tests.0;
      two = two_at_least (length core.members) some tests.1;
    }

few_other : (alone : Bool) (n : ℕ) → (not alone && nat_le 256 n) ≡ false → alone ≡ false → n < 256
few_other true n e f = absurd cc
few_other false n e f = leb-false 256 n e

-- and one with another successor can be counted
pub can_lock : (core : Core) (at : ℕ) → split_refused core at ≡ None → is_alone core ≡ false → core.begun < 256
can_lock core at e other = few_other (is_alone core) core.begun (split_passed core at e).2 other
