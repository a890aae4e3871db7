-- A boundary that moves, on arcs and on the parts of a map.
use Rattle.std.proofs.Common.{◌≡◌, ℕ, ◌+◌, ◌-◌, ◌<◌, ◌≤◌, ◌^◌, ◌%◌, true, refl, sym, ap, ◌∙◌, arith}
use Rattle.std.proofs.lemmas.Bool.{ltb-true}
use Rattle.std.specs.FinMap.{entries}
use Rattle.sc_base.specs.Definitions.{Arc, IsArc, CanJoin, before, from, joined, offset, end_of, PartsJoin}
use Rattle.sc_base.proofs.Lemmas.{cuts_join, joins_hold}
use Rattle.sc_words.specs.ideal.IdealDefinitions.{Contents, part_of, with_pairs}
use Rattle.sc_words.proofs.IdealProofs.IdealLemmas.{parts_join, joined_by_number}
use Rattle.sc_group_table.proofs.MachineProofs.Lemmas.{part_within, first_inside, second_inside, parts_turned, pairs_again}
use Rattle.sc_group_parts.specs.transactions.TransactionDefinitions.{GivingKeepsTheTotal, TakingKeepsTheTotal}

-- the second part of an arc ends where the arc does
second_end : (arc : Arc) (at : ℕ) → arc.lo < 2 ^ 32 → PartsJoin arc at → end_of arc ≡ end_of (from arc at)
second_end arc at fits parts = ap end_of (sym parts.same) ∙ (joins_hold (before arc at) (from arc at) fits parts.first parts.second parts.can).end

-- ---- what lies from a place on goes to the next arc

rest_meets : (arc next : Arc) (at : ℕ) → arc.lo < 2 ^ 32 → PartsJoin arc at → offset arc at < arc.len → CanJoin arc next → CanJoin (from arc at) next
rest_meets arc next at fits parts inside can = (can.0 ∙ second_end arc at fits parts, (let sum = can.1 in omega (arith, sum, inside)))

given_arcs : (arc next : Arc) (at : ℕ) → offset arc at < arc.len → joined (before arc at) (joined (from arc at) next) ≡ joined arc next
given_arcs arc next at inside =
    let sum : offset arc at + ((arc.len - offset arc at) + next.len) ≡ arc.len + next.len = omega (arith, inside) in
    ap (λ (n : ℕ). (let a : Arc = record { lo = arc.lo; len = n } in a)) sum

given_pairs : (arc next : Arc) (at : ℕ) (whole mine theirs : Contents) → arc.lo < 2 ^ 32 → at < 2 ^ 32 → PartsJoin arc at → IsArc next → CanJoin (from arc at) next
    → mine ≡ part_of arc whole → theirs ≡ part_of next whole
    → (part_of (before arc at) mine ≡ part_of (before arc at) whole) × (with_pairs theirs (entries (part_of (from arc at) mine)) ≡ part_of (joined (from arc at) next) whole)
given_pairs arc next at whole mine theirs fits at_fits parts is_next can is_mine is_theirs = (
  ap (part_of (before arc at)) is_mine ∙ part_within (before arc at) arc whole (first_inside arc at fits parts),
  ap (λ m. with_pairs theirs (entries (part_of (from arc at) m))) is_mine
      ∙ ap (λ m. with_pairs theirs (entries m)) (part_within (from arc at) arc whole (second_inside arc at fits parts))
      ∙ ap (λ m. with_pairs m (entries (part_of (from arc at) whole))) is_theirs
      ∙ parts_turned (from arc at) next whole at_fits parts.second is_next can,
)

-- ---- what lies before a place comes from the next arc

taken_meets : (arc next : Arc) (at : ℕ) → offset next at < next.len → CanJoin arc next → CanJoin arc (before next at)
taken_meets arc next at inside can = (can.0, (let sum = can.1 in omega (arith, sum, inside)))

taken_arcs : (arc next : Arc) (at : ℕ) → offset next at < next.len → joined (joined arc (before next at)) (from next at) ≡ joined arc next
taken_arcs arc next at inside =
    let sum : (arc.len + offset next at) + (next.len - offset next at) ≡ arc.len + next.len = omega (arith, inside) in
    ap (λ (n : ℕ). (let a : Arc = record { lo = arc.lo; len = n } in a)) sum

taken_pairs : (arc next : Arc) (at : ℕ) (whole mine theirs : Contents) → arc.lo < 2 ^ 32 → next.lo < 2 ^ 32 → PartsJoin next at → IsArc arc → CanJoin arc (before next at)
    → mine ≡ part_of arc whole → theirs ≡ part_of next whole
    → (with_pairs mine (entries (part_of (before next at) theirs)) ≡ part_of (joined arc (before next at)) whole) × (part_of (from next at) theirs ≡ part_of (from next at) whole)
taken_pairs arc next at whole mine theirs fits next_fits parts is_arc can is_mine is_theirs = (
  ap (λ m. with_pairs mine (entries (part_of (before next at) m))) is_theirs
      ∙ ap (λ m. with_pairs mine (entries m)) (part_within (before next at) next whole (first_inside next at next_fits parts))
      ∙ ap (λ m. with_pairs m (entries (part_of (before next at) whole))) is_mine
      ∙ parts_join arc (before next at) whole fits is_arc parts.first can,
  ap (part_of (from next at)) is_theirs ∙ part_within (from next at) next whole (second_inside next at next_fits parts),
)

-- ---- both

-- where the coordinator gives, the two groups have the same arcs and pairs together as before
pub giving_keeps : GivingKeepsTheTotal
giving_keeps group next offer at n at_fits same can =
    let arc = group.core.arc in
    let parts = cuts_join arc at n.lo_fits at_fits n.first can in
    let inside : offset arc at < arc.len = ltb-true _ _ can.0 in
    let meet = rest_meets arc next.core.arc at n.lo_fits parts inside n.meet in
    let sum = n.meet.1 in
    record {
      total = rw (same, can.0) (record {
        neighbours = record {
          lo_fits = n.lo_fits;
          first = parts.first;
          second = (joins_hold (from arc at) next.core.arc at_fits parts.second n.second meet).is_arc;
          meet = (parts.can.0, omega (arith, sum, inside));
        };
        arcs = given_arcs arc next.core.arc at inside;
        pairs = λ whole mine theirs. given_pairs arc next.core.arc at whole group.pairs next.pairs n.lo_fits at_fits parts n.second meet mine theirs;
      });
      table = λ client. joined_by_number next.clients group.clients client;
      own = refl;
    }

-- where the coordinator takes, the two groups have the same arcs and pairs together as before
pub taking_keeps : TakingKeepsTheTotal
taking_keeps group next at n at_fits out can =
    let arc = group.core.arc in
    let other = next.core.arc in
    let next_fits : other.lo < 2 ^ 32 = (let e = n.meet.0 in omega (arith, e)) in
    let parts = cuts_join other at next_fits at_fits n.second can in
    let inside : offset other at < other.len = ltb-true _ _ can.0 in
    let meet = taken_meets arc other at inside n.meet in
    let holds_both = joins_hold arc (before other at) n.lo_fits n.first parts.first meet in
    let sum = n.meet.1 in
    record {
      total = rw (out, pairs_again next.pairs) (record {
        neighbours = record {
          lo_fits = n.lo_fits;
          first = holds_both.is_arc;
          second = parts.second;
          meet = (parts.can.0 ∙ sym holds_both.end, omega (arith, sum, inside));
        };
        arcs = taken_arcs arc other at inside;
        pairs = λ whole mine theirs. taken_pairs arc other at whole group.pairs next.pairs n.lo_fits next_fits parts n.first meet mine theirs;
      });
      table = λ client. joined_by_number group.clients next.clients client;
      own = refl;
    }
