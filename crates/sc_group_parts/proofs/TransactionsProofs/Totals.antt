-- What a split and a merge keep of pairs and client tables.
use Rattle.std.proofs.Common.{◌≡◌, ℕ, ◌+◌, ◌%◌, ◌<◌, ◌≤◌, ◌^◌, refl, sym, ap, ◌∙◌, subst, arith}
use Rattle.std.specs.FinMap.{entries}
use Rattle.sc_base.specs.Definitions.{Arc, IsArc, CanCut, before, from, joined}
use Rattle.sc_base.proofs.Lemmas.{cuts_join, joins_hold}
use Rattle.sc_words.specs.ideal.IdealDefinitions.{Contents, part_of, with_pairs}
use Rattle.sc_words.proofs.IdealProofs.IdealLemmas.{parts_join, joined_by_number}
use Rattle.sc_group_table.proofs.MachineProofs.Lemmas.{part_within, first_inside, second_inside, pairs_again, clients_again}
use Rattle.sc_words.specs.declared.commands.cores.Core.{Core}
use Rattle.sc_group_table.specs.machine.MachineDefinitions.{Group, frozen_of, merged_core, closing_core, enriched, whole_gift, AreNeighbours}
use Rattle.sc_group_parts.specs.transactions.TransactionDefinitions.{Merges, SplitsShareThePairs, MergesKeepTheTotal}

-- the parts of a map on the two parts of an arc
together : (arc : Arc) (at : ℕ) (contents : Contents) → arc.lo < 2 ^ 32 → at < 2 ^ 32 → IsArc arc → CanCut arc at
    → with_pairs (part_of (before arc at) contents) (entries (part_of (from arc at) contents)) ≡ part_of arc contents
together arc at contents fits at_fits is can =
    let parts = cuts_join arc at fits at_fits is can in
    parts_join (before arc at) (from arc at) contents fits parts.first parts.second parts.can ∙ ap (λ a. part_of a contents) parts.same

-- a split shares the pairs of the group out, and both parts have its client table
pub splits_share : SplitsShareThePairs
splits_share group at child fits at_fits is can =
    let arc = group.core.arc in
    let parts = cuts_join arc at fits at_fits is can.cut in
    let right = pairs_again (part_of (from arc at) group.pairs) in
    record {
      together = ap (λ m. with_pairs (part_of (before arc at) group.pairs) (entries m)) right ∙ together arc at group.pairs fits at_fits is can.cut;
      pairs = λ whole mine. (
        ap (part_of (before arc at)) mine ∙ part_within (before arc at) arc whole (first_inside arc at fits parts),
        right ∙ ap (part_of (from arc at)) mine ∙ part_within (from arc at) arc whole (second_inside arc at fits parts),
      );
      table = clients_again group.clients;
      own = refl;
    }

-- a group that takes over all that the next one has holds what the two held before
merges_as : (group next : Group) → AreNeighbours group next → (core : Core) → core.arc ≡ joined group.core.arc next.core.arc → Merges group next (enriched group core (whole_gift (frozen_of next)))
merges_as group next n core e = record {
  is_arc = subst IsArc (sym e) (joins_hold group.core.arc next.core.arc n.lo_fits n.first n.second n.meet).is_arc;
  arc = e;
  pairs = λ whole mine theirs.
      (ap (λ m. with_pairs group.pairs (entries m)) theirs
      ∙ ap (λ m. with_pairs m (entries (part_of next.core.arc whole))) mine
      ∙ parts_join group.core.arc next.core.arc whole n.lo_fits n.first n.second n.meet
      ∙ ap (λ a. part_of a whole) (sym e));
  table = λ client. joined_by_number group.clients next.clients client;
}

-- arcs that meet at both ends make the ring
round : (lo len next more : ℕ) → lo < 2 ^ 32 → 1 ≤ len → len + more ≤ 2 ^ 32 → next ≡ (lo + len) % 2 ^ 32 → (next + more) % 2 ^ 32 ≡ lo → len + more ≡ 2 ^ 32
round lo len next more a b c d e = omega arith

-- so does a merged group, whoever stands before it, and the one that is gone holds nothing
pub merges_keep : MergesKeepTheTotal
merges_keep group next into n = (
  merges_as group next n (merged_core group.core (frozen_of next)) refl,
  record {
    merges = merges_as group next n (closing_core group.core (frozen_of next)) refl;
    ring = λ end. round group.core.arc.lo group.core.arc.len next.core.arc.lo next.core.arc.len n.lo_fits n.first.some n.meet.1 n.meet.0 end;
  },
  record { pairs = refl; table = refl },
)
