-- The list of cuts after an entry is the ring by names after it.
use Rattle.std.specs.Prelude.{not}
use Rattle.std.specs.List.{filter, flat_map}
use Rattle.std.proofs.Common.{◌≡◌, ◌≢◌, ℕ, cond, List, Option, Some, None, refl, ◌∙◌, ap}
use Rattle.sc_base.specs.Definitions.{Arc, before, from, joined}
use Rattle.sc_base.specs.declared.names.Draw.{Draw}
use Rattle.sc_words.specs.declared.commands.commands.Command.{Command}
use Rattle.sc_words.specs.declared.commands.commands.Command.TheVariants.{RecordVote, RecordWatch}
use Rattle.sc_words.specs.declared.commands.cores.Core.{Core}
use Rattle.sc_words.specs.declared.commands.effects.Effect.{Effect}
use Rattle.sc_words.specs.declared.commands.effects.Effect.TheVariants as Was
use Rattle.sc_words.specs.declared.commands.votes.Outcome.{Outcome}
use Rattle.sc_words.specs.declared.commands.votes.Outcome.TheVariants.{Abort, Merged, Moved, Migrated, Divided}
use Rattle.sc_words.specs.commands.CommandDefinitions.{is_divided, decided_in}
use Rattle.sc_meaning.specs.entries.EntryDefinitions.{division_in, division_of, is_cut_of, arc_in, recut, parts_of, ring_divided, both_arcs, ring_merged, ring_moved, ring_decided, decided_by, ring_after}
use Rattle.sc_meaning.specs.declared.entries.Cut.{Cut}
use Rattle.sc_meaning.specs.declared.entries.Division.{Division}
use Rattle.sc_law_entries.specs.ring.RingDefinitions.{put}
use Rattle.sc_law_entries.proofs.RingProofs.View.{Ring}
use Rattle.sc_law_entries.proofs.RingProofs.Cover.{at-other}
use Rattle.sc_law_entries.proofs.RingProofs.Finds.{Pairwise, pairwise_filter}
use Rattle.sc_law_entries.proofs.RingProofs.CutLookups.{arcs_in, recut_is, without_is, divided_is, flat_none, none_each, apart_divided, apart_recut, no_cut}
use Rattle.sc_law_entries.proofs.RingProofs.CommittedViews.{ring_split, ring_cut, ring_merge, ring_move, ring_out, ring_reported}
use Rattle.sc_law_entries.proofs.RingProofs.RequestsAndOrders.{same_fun}

abbrev pub AreApart : List Cut → Type 0
AreApart ring = Pairwise (λ (c o : Cut). c.group ≢ o.group) ring

module _ (ring : List Cut) (g p : Draw) (ne : g ≡ p → ⊥) where
  merged_is : (a b : Option Arc) → arc_in g ring ≡ a → arc_in p ring ≡ b → (h : Draw) → arc_in h (ring_merged (both_arcs a b) g p ring) ≡ ring_merge (both_arcs a b) (arcs_in ring) g p h
  merged_is None b ea eb h = refl
  merged_is (Some a) None ea eb h = refl
  merged_is (Some a) (Some b) ea eb h =
      let rest = filter (λ cut. not (is_cut_of p cut)) ring in
      recut_is g (joined a b) a rest (without_is p ring g ∙ at-other (arcs_in ring) p None g ne ∙ ea) h
      ∙ ap (λ (r : Ring). put r g (Some (joined a b)) h) (same_fun (arcs_in rest) (put (arcs_in ring) p None) (without_is p ring))

  moved_is : (at : ℕ) (a b : Option Arc) → arc_in g ring ≡ a → arc_in p ring ≡ b → (h : Draw) → arc_in h (ring_moved at (both_arcs a b) g p ring) ≡ ring_move at (both_arcs a b) (arcs_in ring) g p h
  moved_is at None b ea eb h = refl
  moved_is at (Some a) None ea eb h = refl
  moved_is at (Some a) (Some b) ea eb h =
      let whole = joined a b in
      let mid = recut p (from whole at) ring in
      let fact = recut_is p (from whole at) b ring eb in
      recut_is g (before whole at) a mid (fact g ∙ at-other (arcs_in ring) p (Some (from whole at)) g ne ∙ ea) h
      ∙ ap (λ (r : Ring). put r g (Some (before whole at)) h) (same_fun (arcs_in mid) (put (arcs_in ring) p (Some (from whole at))) fact)

-- after a decision
decided_is : (ring : List Cut) (g p : Draw) (o : Option Outcome) → ((x : Outcome) → o ≡ Some x → g ≡ p → ⊥) → (h : Draw) → arc_in h (ring_decided o g p ring) ≡ ring_out o (arcs_in ring) g p h
decided_is ring g p None ne h = refl
decided_is ring g p (Some Abort) ne h = refl
decided_is ring g p (Some (Merged into)) ne h = merged_is ring g p (ne (Merged into) refl) (arc_in g ring) (arc_in p ring) refl refl h
decided_is ring g p (Some (Moved at gift)) ne h = moved_is ring g p (ne (Moved at gift) refl) at (arc_in g ring) (arc_in p ring) refl refl h
decided_is ring g p (Some (Migrated node)) ne h = refl
decided_is ring g p (Some Divided) ne h = refl

merged_apart : (ring : List Cut) (g p : Draw) → AreApart ring → (whole : Option Arc) → AreApart (ring_merged whole g p ring)
merged_apart ring g p k None = k
merged_apart ring g p k (Some whole) = apart_recut g whole (filter (λ cut. not (is_cut_of p cut)) ring) (pairwise_filter (λ (c o : Cut). c.group ≢ o.group) (λ cut. not (is_cut_of p cut)) ring k)

moved_apart : (ring : List Cut) (g p : Draw) (at : ℕ) → AreApart ring → (whole : Option Arc) → AreApart (ring_moved at whole g p ring)
moved_apart ring g p at k None = k
moved_apart ring g p at k (Some whole) = apart_recut g (before whole at) (recut p (from whole at) ring) (apart_recut p (from whole at) ring k)

decided_apart : (ring : List Cut) (g p : Draw) (o : Option Outcome) → AreApart ring → AreApart (ring_decided o g p ring)
decided_apart ring g p None k = k
decided_apart ring g p (Some Abort) k = k
decided_apart ring g p (Some (Merged into)) k = merged_apart ring g p k (both_arcs (arc_in g ring) (arc_in p ring))
decided_apart ring g p (Some (Moved at gift)) k = moved_apart ring g p at k (both_arcs (arc_in g ring) (arc_in p ring))
decided_apart ring g p (Some (Migrated node)) k = k
decided_apart ring g p (Some Divided) k = k

-- ---- a division

pub no_division : {X : Type 0} (d : Division) → None ≡ Some d → X
no_division d e = absurd (let f : None ≡ Some d = e in cc)

-- what divides moves no other cut
watch_alone : (effect : Effect) (x : Option Division) (d : Division) (ring : List Cut) (g p : Draw) → cond (is_divided effect) x None ≡ Some d → ring_decided (decided_in effect) g p ring ≡ ring
watch_alone (Was.Decided Abort) x d ring g p e = refl
watch_alone (Was.Decided (Merged into)) x d ring g p e = no_division d e
watch_alone (Was.Decided (Moved at gift)) x d ring g p e = no_division d e
watch_alone (Was.Decided (Migrated node)) x d ring g p e = refl
watch_alone (Was.Decided Divided) x d ring g p e = refl
watch_alone _ x d ring g p e = refl

divides_alone : (core : Core) (command : Command) (effect : Effect) (d : Division) (ring : List Cut) (g p : Draw) → division_of core command effect ≡ Some d → ring_decided (decided_by command effect) g p ring ≡ ring
divides_alone core (RecordWatch tx vote by) effect d ring g p e = watch_alone effect (division_in core.lock) d ring g p e
divides_alone core (RecordVote tx vote by) effect d ring g p e = no_division d e
divides_alone core _ effect d ring g p e = refl

split_is : (ring : List Cut) (g : Draw) (d : Division) → (g ≡ d.child → ⊥) → arc_in d.child ring ≡ None → (a : Option Arc) → arc_in g ring ≡ a → (h : Draw) → arc_in h (flat_map (parts_of g d) ring) ≡ ring_split a d (arcs_in ring) g h
split_is ring g d gc none None e h = ap (arc_in h) (flat_none g d ring (none_each g d g ring (no_cut ring g e)))
split_is ring g d gc none (Some arc) e h = divided_is g d gc ring arc e (no_cut ring d.child none) h

-- the ring after an entry
module _ (core : Core) (command : Command) (effect : Effect) (ring : List Cut) (apart : (x : Outcome) → decided_by command effect ≡ Some x → core.id ≡ core.succ.group → ⊥)
    (fresh : (d : Division) → division_of core command effect ≡ Some d → (core.id ≡ d.child → ⊥) × (arc_in d.child ring ≡ None)) where
  abbrev mid : List Cut
  mid = ring_decided (decided_by command effect) core.id core.succ.group ring

  mid_is : arcs_in mid ≡ ring_out (decided_by command effect) (arcs_in ring) core.id core.succ.group
  mid_is = same_fun (arcs_in mid) (ring_out (decided_by command effect) (arcs_in ring) core.id core.succ.group) (decided_is ring core.id core.succ.group (decided_by command effect) apart)

  after_is : (o : Option Division) → division_of core command effect ≡ o → (h : Draw) → arc_in h (ring_divided o core.id mid) ≡ ring_cut o (arcs_in mid) core.id h
  after_is None e h = refl
  after_is (Some d) e h =
      let same = divides_alone core command effect d ring core.id core.succ.group e in
      let r = fresh d e in
      split_is mid core.id d r.0 (ap (arc_in d.child) same ∙ r.1) (arc_in core.id mid) refl h

  pub ring_is : arcs_in (ring_after core command effect ring) ≡ ring_reported core command effect (arcs_in ring)
  ring_is =
      same_fun (arcs_in (ring_after core command effect ring)) (ring_cut (division_of core command effect) (arcs_in mid) core.id) (after_is (division_of core command effect) refl)
      ∙ ap (λ r. ring_cut (division_of core command effect) r core.id) mid_is

  divided_apart : (o : Option Division) → division_of core command effect ≡ o → AreApart mid → AreApart (ring_divided o core.id mid)
  divided_apart None e k = k
  divided_apart (Some d) e k =
      let same = divides_alone core command effect d ring core.id core.succ.group e in
      let r = fresh d e in
      apart_divided core.id d r.0 mid (no_cut mid d.child (ap (arc_in d.child) same ∙ r.1)) k

  pub ring_apart : AreApart ring → AreApart (ring_after core command effect ring)
  ring_apart k = divided_apart (division_of core command effect) refl (decided_apart ring core.id core.succ.group (decided_by command effect) k)
