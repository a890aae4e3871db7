-- Parts of what a group holds, and two holdings as one: each matches the history where what it was made of did.
use Rattle.std.proofs.Common.{◌≡◌, ℕ, ◌<◌, ◌^◌, true, ◌&&◌, List, ◌⊎◌, inl, inr, sym, ap, ◌∙◌}
use Rattle.std.proofs.lemmas.Bool.{and_from, both_ways, or_cases}
use Rattle.std.specs.FinMap.{empty, entries}
use Rattle.sc_base.specs.Definitions.{Arc, IsArc, CanCut, CanJoin, holds, before, from, joined, pos_of}
use Rattle.sc_base.proofs.Lemmas.{cuts_join, joins_hold}
use Rattle.sc_words.specs.ideal.IdealDefinitions.{contents_after, key_of, part_of, with_pairs}
use Rattle.sc_words.specs.declared.ideal.Entry.{Entry}
use Rattle.sc_words.proofs.IdealProofs.IdealLemmas.{parts_join}
use Rattle.sc_group_table.proofs.MachineProofs.Lemmas.{part_within, first_inside, second_inside, parts_turned}
use Rattle.sc_law_entries.specs.history.HistoryDefinitions.{Holding, IsReportedOf, part_before, part_from, with_next, with_previous}
use Rattle.sc_law_entries.proofs.HistoryProofs.Tables.{noted_left, noted_right, notes_joined}

-- an arc of the ring
abbrev pub IsOnRing : Arc → Type 0
IsOnRing arc = IsArc arc × (arc.lo < 2 ^ 32)

-- an arc lies in another
abbrev pub LiesIn : Arc → Arc → Type 0
LiesIn inner outer = (p : ℕ) → holds inner p ≡ true → holds outer p ≡ true

-- ---- parts

-- the arc of a part is one of the ring, and lies in the whole
pub before_arc : (arc : Arc) (at : ℕ) → IsOnRing arc → at < 2 ^ 32 → CanCut arc at → IsOnRing (before arc at) × LiesIn (before arc at) arc
before_arc arc at fact fits can =
    let parts = cuts_join arc at fact.1 fits fact.0 can in
    ((parts.first, fact.1), first_inside arc at fact.1 parts)

pub from_arc : (arc : Arc) (at : ℕ) → IsOnRing arc → at < 2 ^ 32 → CanCut arc at → IsOnRing (from arc at) × LiesIn (from arc at) arc
from_arc arc at fact fits can =
    let parts = cuts_join arc at fact.1 fits fact.0 can in
    ((parts.second, fits), second_inside arc at fact.1 parts)

-- the two parts share nothing
pub parts_apart : (arc : Arc) (at : ℕ) → IsOnRing arc → at < 2 ^ 32 → CanCut arc at → (p : ℕ) → holds (before arc at) p ≡ true → holds (from arc at) p ≡ true → ⊥
parts_apart arc at fact fits can p first second =
    let parts = cuts_join arc at fact.1 fits fact.0 can in
    both_ways (holds (before arc at) p && holds (from arc at) p) ((joins_hold (before arc at) (from arc at) fact.1 parts.first parts.second parts.can).apart p) (and_from (holds (before arc at) p) (holds (from arc at) p) first second)

-- a part on an arc that lies in the whole
part_reported : (history : List Entry) (holding : Holding) (arc : Arc) → LiesIn arc holding.arc → IsReportedOf history holding
    → IsReportedOf history (record holding { arc = arc; pairs = part_of arc holding.pairs })
part_reported history holding arc lies recorded = record {
  pairs = ap (part_of arc) recorded.pairs ∙ part_within arc holding.arc (contents_after empty history) lies;
  noted = λ entry among held. recorded.noted entry among (lies (pos_of (key_of entry.op)) held);
  notes = recorded.notes;
}

pub before_reported : (history : List Entry) (holding : Holding) (at : ℕ) → IsOnRing holding.arc → at < 2 ^ 32 → CanCut holding.arc at → IsReportedOf history holding → IsReportedOf history (part_before at holding)
before_reported history holding at fact fits can = part_reported history holding (before holding.arc at) (before_arc holding.arc at fact fits can).1

pub from_reported : (history : List Entry) (holding : Holding) (at : ℕ) → IsOnRing holding.arc → at < 2 ^ 32 → CanCut holding.arc at → IsReportedOf history holding → IsReportedOf history (part_from at holding)
from_reported history holding at fact fits can = part_reported history holding (from holding.arc at) (from_arc holding.arc at fact fits can).1

-- ---- two as one

-- what the joined arc holds, one of the two holds
pub joined_from : (arc next : Arc) → IsOnRing arc → IsOnRing next → CanJoin arc next → (p : ℕ) → holds (joined arc next) p ≡ true → (holds arc p ≡ true) ⊎ (holds next p ≡ true)
joined_from arc next fact its can p e =
    or_cases (holds arc p) (holds next p) (sym ((joins_hold arc next fact.1 fact.0 its.0 can).both p) ∙ e)

pub joined_arc : (arc next : Arc) → IsOnRing arc → IsOnRing next → CanJoin arc next → IsOnRing (joined arc next)
joined_arc arc next fact its can = ((joins_hold arc next fact.1 fact.0 its.0 can).is_arc, fact.1)

pub next_reported : (history : List Entry) (holding next : Holding) → IsOnRing holding.arc → IsOnRing next.arc → CanJoin holding.arc next.arc → IsReportedOf history holding → IsReportedOf history next
    → IsReportedOf history (with_next holding next)
next_reported history holding next fact its can recorded other =
    let map = contents_after empty history in
    record {
      pairs = ap (λ m. with_pairs m (entries next.pairs)) recorded.pairs
          ∙ ap (λ m. with_pairs (part_of holding.arc map) (entries m)) other.pairs
          ∙ parts_join holding.arc next.arc map fact.1 fact.0 its.0 can;
      noted = λ entry among held. elim (joined_from holding.arc next.arc fact its can (pos_of (key_of entry.op)) held) [
        | inl h ↦ noted_left holding.clients next.clients entry (recorded.noted entry among h)
        | inr h ↦ noted_right holding.clients next.clients entry (other.noted entry among h)
      ];
      notes = notes_joined history holding.clients next.clients recorded.notes other.notes;
    }

pub previous_reported : (history : List Entry) (holding previous : Holding) → IsOnRing holding.arc → IsOnRing previous.arc → CanJoin previous.arc holding.arc → IsReportedOf history holding → IsReportedOf history previous
    → IsReportedOf history (with_previous holding previous)
previous_reported history holding previous fact its can recorded other =
    let map = contents_after empty history in
    record {
      pairs = ap (λ m. with_pairs m (entries previous.pairs)) recorded.pairs
          ∙ ap (λ m. with_pairs (part_of holding.arc map) (entries m)) other.pairs
          ∙ parts_turned previous.arc holding.arc map its.1 its.0 fact.0 can;
      noted = λ entry among held. elim (joined_from previous.arc holding.arc its fact can (pos_of (key_of entry.op)) held) [
        | inl h ↦ noted_right holding.clients previous.clients entry (other.noted entry among h)
        | inr h ↦ noted_left holding.clients previous.clients entry (recorded.noted entry among h)
      ];
      notes = notes_joined history holding.clients previous.clients recorded.notes other.notes;
    }
