-- The worked lists are allowed, and what they make is computed.
use Rattle.std.specs.Prelude.{map, IsTrue, not}
use Rattle.std.proofs.Common.{◌≡◌, ◌≢◌, ℕ, ◌+◌, ◌-◌, ◌%◌, ◌^◌, ◌<◌, ◌≤◌, Bool, true, false, cond, List, [], ◌∷◌, inl, inr, Option, Some, None, refl, sym, ◌∙◌, ap, subst, arith, eqb}
use Rattle.std.proofs.lemmas.Bool.{cases_lt, eq-eqb, ltb-true, lt-ltb}
use Rattle.std.specs.FinMap.{get-empty, empty, entries, entries_sorted}
use Rattle.std.specs.Ordering.{nat_cmp}
use Rattle.std.specs.Cmp.Lexicographic.{slice_cmp}
use Rattle.sc_base.specs.Definitions.{Among, IsArc, holds, offset}
use Rattle.sc_base.specs.declared.names.Draw.{Draw}
use Rattle.sc_base.specs.declared.ops.Noted.{Noted}
use Rattle.sc_words.specs.declared.commands.bodies.Body.TheVariants as At
use Rattle.sc_words.specs.declared.commands.commands.Command.TheVariants.{Call, Begin, Prepared, RecordVote, Finish, Watched, RecordWatch}
use Rattle.sc_words.specs.declared.commands.effects.Effect.{Effect}
use Rattle.sc_words.specs.declared.commands.votes.Past.TheVariants as Cast
use Rattle.sc_words.specs.declared.commands.votes.Vote.TheVariants as Ballot
use Rattle.sc_group_table.specs.machine.MachineDefinitions.{Group, group_of, served_by_note, has_key_of, merged_group, begun_group, heard_group, committed, watched}
use Rattle.sc_meaning.specs.declared.entries.Cut.{Cut}
use Rattle.sc_meaning.specs.declared.entries.LogEntry.{LogEntry}
use Rattle.sc_meaning.specs.entries.EntryDefinitions.{Covers, first_cut, with_result, first_world, world_of, world_after}
use Rattle.sc_law_entries.specs.ring.RingDefinitions.{AreAllowed, StoryWorld, first_recorded, recorded_next, recorded_after, no_stories, stories_after, BeginInPlace, BeginsInPlace, drawn, example_entry, ring_cut_of, sources, merge_put, watcher_put, merge_get, group_one, group_two, group_three, merge_bases, two_called, two_frozen, merge_offer, merge_watch_asked, merge_outcome, merge_entries, split_left, split_right, split_bases, split_entries, MergeIsAllowed, SplitIsAllowed}
use Rattle.sc_law_entries.proofs.RingProofs.Finds.{all_pairs}
use Rattle.sc_law_entries.proofs.RingProofs.Insides.{clear_of}
use Rattle.sc_law_entries.proofs.RingProofs.Rings.{AreApart}

-- ---- three cuts, and two, that make the ring

-- an interval of positions
record IsSpan (c : Cut) : Type 0 where
  least : 1 ≤ c.arc.len
  fits : c.arc.lo + c.arc.len ≤ 2 ^ 32

span_holds : (lo len p : ℕ) → p < 2 ^ 32 → lo + len ≤ 2 ^ 32 → lo ≤ p → p < lo + len → ((p + 2 ^ 32) - lo) % 2 ^ 32 < len
span_holds lo len p a b c d = omega arith

span_held : (lo len p : ℕ) → p < 2 ^ 32 → 1 ≤ len → lo + len ≤ 2 ^ 32 → ((p + 2 ^ 32) - lo) % 2 ^ 32 < len → (lo ≤ p) × (p < lo + len)
span_held lo len p a z b c = (omega arith, omega arith)

in_span : (c : Cut) → IsSpan c → (p : ℕ) → p < 2 ^ 32 → c.arc.lo ≤ p → p < c.arc.lo + c.arc.len → IsTrue (holds c.arc p)
in_span c s p q a b = lt-ltb (offset c.arc p) c.arc.len (span_holds c.arc.lo c.arc.len p q s.fits a b)

of_span : (c : Cut) → IsSpan c → (p : ℕ) → p < 2 ^ 32 → IsTrue (holds c.arc p) → (c.arc.lo ≤ p) × (p < c.arc.lo + c.arc.len)
of_span c s p q h = span_held c.arc.lo c.arc.len p q s.least s.fits (ltb-true (offset c.arc p) c.arc.len h)

-- the place of a cut in a row of cuts that follow one another
abbrev Row : ℕ → List Cut → Type 0
Row lo [] = lo ≡ 2 ^ 32
Row lo (c ∷ cs) = (c.arc.lo ≡ lo) × IsSpan c × Row (lo + c.arc.len) cs

row_some : (lo : ℕ) (cs : List Cut) → Row lo cs → (p : ℕ) → p < 2 ^ 32 → lo ≤ p → (c : Cut) × Among c cs × IsTrue (holds c.arc p)
row_some lo [] r p q a = absurd (let e = r in omega arith)
row_some lo (c ∷ cs) r p q a =
    let e = r.0 in
    elim (cases_lt p (lo + c.arc.len)) [
      | inl b ↦ (c, inl refl, in_span c r.1 p q (omega arith) (omega arith))
      | inr b ↦ (let k = row_some (lo + c.arc.len) cs r.2 p q b in (k.0, inr k.1, k.2))
    ]

-- later cuts hold what lies further on
row_above : (lo : ℕ) (cs : List Cut) → Row lo cs → (p : ℕ) → p < 2 ^ 32 → (c : Cut) → Among c cs → IsTrue (holds c.arc p) → lo ≤ p
row_above lo [] r p q c a h = absurd a
row_above lo (x ∷ cs) r p q c (inl e) h = let k = of_span x r.1 p q (subst (λ (z : Cut). IsTrue (holds z.arc p)) (sym e) h) in let f = r.0 in let g = k.0 in omega arith
row_above lo (x ∷ cs) r p q c (inr a) h = let k = row_above (lo + x.arc.len) cs r.2 p q c a h in omega arith

row_only : (lo : ℕ) (cs : List Cut) → Row lo cs → (p : ℕ) → p < 2 ^ 32 → (c o : Cut) → Among c cs → Among o cs → IsTrue (holds c.arc p) → IsTrue (holds o.arc p) → c ≡ o
row_only lo [] r p q c o a b h k = absurd a
row_only lo (x ∷ cs) r p q c o (inl e) (inl f) h k = sym e ∙ f
row_only lo (x ∷ cs) r p q c o (inl e) (inr b) h k =
    let m = of_span x r.1 p q (subst (λ (z : Cut). IsTrue (holds z.arc p)) (sym e) h) in
    let n = row_above (lo + x.arc.len) cs r.2 p q o b k in
    let f = r.0 in let g = m.1 in absurd (omega arith)
row_only lo (x ∷ cs) r p q c o (inr a) (inl f) h k =
    let m = of_span x r.1 p q (subst (λ (z : Cut). IsTrue (holds z.arc p)) (sym f) k) in
    let n = row_above (lo + x.arc.len) cs r.2 p q c a h in
    let e = r.0 in let g = m.1 in absurd (omega arith)
row_only lo (x ∷ cs) r p q c o (inr a) (inr b) h k = row_only (lo + x.arc.len) cs r.2 p q c o a b h k

row_arcs : (lo : ℕ) (cs : List Cut) → Row lo cs → (c : Cut) → Among c cs → IsArc c.arc × (c.arc.lo < 2 ^ 32)
row_arcs lo [] r c a = absurd a
row_arcs lo (x ∷ cs) r c (inl e) = subst (λ (z : Cut). IsArc z.arc × (z.arc.lo < 2 ^ 32)) e (let l = r.1.least in let f = r.1.fits in (record { some = l; most = omega arith }, omega arith))
row_arcs lo (x ∷ cs) r c (inr a) = row_arcs (lo + x.arc.len) cs r.2 c a

row_covers : (cs : List Cut) → Row 0 cs → AreApart cs → Covers cs
row_covers cs r apart = record {
  arcs = row_arcs 0 cs r;
  some = λ p q. row_some 0 cs r p q (omega arith);
  only = λ p q c o a b h k. row_only 0 cs r p q c o a b h k;
  apart = all_pairs (λ (c o : Cut). c.group ≢ o.group) cs apart;
}

-- names with other numbers
apart_by : (a b : Draw) → eqb a.count b.count ≡ false → a ≢ b
apart_by a b t e = let no_way = sym t ∙ eq-eqb a.count b.count (ap (λ (d : Draw). d.count) e) in absurd (let f : false ≡ true = no_way in cc)

span : (c : Cut) → 1 ≤ c.arc.len → c.arc.lo + c.arc.len ≤ 2 ^ 32 → IsSpan c
span c a b = record { least = a; fits = b }

-- ---- the merge

merge_start : BeginInPlace sources merge_bases
merge_start = record {
  covers = row_covers (map first_cut merge_bases)
      (refl, span (first_cut group_one) (omega arith) (omega arith), (refl, span (first_cut group_two) (omega arith) (omega arith), (refl, span (first_cut group_three) (omega arith) (omega arith), refl)))
      ((apart_by (drawn 0 1) (drawn 0 2) refl, (apart_by (drawn 0 1) (drawn 0 3) refl, tt)), ((apart_by (drawn 0 2) (drawn 0 3) refl, tt), (tt, tt)));
  first = λ base a. elim a [
    | inl e ↦ subst (BeginsInPlace sources merge_bases) e (record { between = record { succ = (group_two, inr (inl refl), refl, refl); pred = (group_three, inr (inr (inl refl)), refl, refl) }; free = refl; here = refl; empty = refl; unowned = refl })
    | inr b ↦ elim b [
      | inl e ↦ subst (BeginsInPlace sources merge_bases) e (record { between = record { succ = (group_three, inr (inr (inl refl)), refl, refl); pred = (group_one, inl refl, refl, refl) }; free = refl; here = refl; empty = refl; unowned = refl })
      | inr c ↦ elim c [
        | inl e ↦ subst (BeginsInPlace sources merge_bases) e (record { between = record { succ = (group_one, inl refl, refl, refl); pred = (group_two, inr (inl refl), refl, refl) }; free = refl; here = refl; empty = refl; unowned = refl })
        | inr none ↦ absurd none
      ]
    ]
  ];
}

-- the world after the first call, by what the table notes of the client
abbrev called_first : Option Noted → StoryWorld
called_first o = record { store = with_result (first_world merge_bases) (group_of group_two) (Call 9 1 merge_put) (served_by_note o (group_of group_two) 9 1 merge_put); stories = no_stories }

first_is : recorded_next (first_recorded merge_bases) (example_entry (drawn 0 2) 1 (Call 9 1 merge_put)) ≡ called_first None
first_is = ap called_first (get-empty nat_cmp 9)

-- the entries up to the watcher's vote
abbrev to_watch : List LogEntry
to_watch =
    example_entry (drawn 0 1) 1 (Begin (drawn 1 1) At.Merge 1)
    ∷ example_entry (drawn 0 2) 2 (Prepared (drawn 1 1) merge_offer)
    ∷ example_entry (drawn 0 1) 2 (RecordVote (drawn 1 1) (Ballot.Yes two_frozen) 2)
    ∷ example_entry (drawn 0 3) 1 (Watched (drawn 1 1) merge_watch_asked) ∷ []

abbrev watched_world : StoryWorld
watched_world = recorded_after (called_first None) to_watch

abbrev watcher : Group
watcher = (watched (group_of group_three) (drawn 1 1) merge_watch_asked).0

abbrev called_second : Option Noted → StoryWorld
called_second o = record { store = with_result watched_world.store watcher (Call 8 1 watcher_put) (served_by_note o watcher 8 1 watcher_put); stories = watched_world.stories }

second_is : recorded_next watched_world (example_entry (drawn 0 3) 2 (Call 8 1 watcher_put)) ≡ called_second None
second_is = ap called_second (get-empty nat_cmp 8)

-- the coordinator that has heard its participant
abbrev coordinator : Group
coordinator = heard_group (begun_group (group_of group_one) (drawn 1 1) At.Merge 1) (drawn 1 1) At.Merge 1 (record { frozen = two_frozen; by = 2 })

abbrev merges : Bool → Group × Effect
merges shared = committed (cond (not shared) (Some (merged_group coordinator two_frozen, merge_outcome)) None) coordinator (drawn 1 1)

abbrev merged_world : Bool → StoryWorld
merged_world shared = record {
  store = with_result (called_second None).store coordinator (RecordWatch (drawn 1 1) Cast.Yes 3) (merges shared);
  stories = stories_after coordinator (RecordWatch (drawn 1 1) Cast.Yes 3) (merges shared).1 (called_second None).stories;
}

no_key : has_key_of coordinator.pairs two_frozen.pairs ≡ false
no_key = clear_of empty (entries two_called.pairs) (entries_sorted two_called.pairs) (λ q v f. get-empty (slice_cmp nat_cmp) q)

third_is : recorded_next (called_second None) (example_entry (drawn 0 1) 3 (RecordWatch (drawn 1 1) Cast.Yes 3)) ≡ merged_world false
third_is = ap merged_world no_key

-- the entries that are left after each of these
abbrev after_third : List LogEntry
after_third =
    example_entry (drawn 0 2) 3 (Finish (drawn 1 1) merge_outcome)
    ∷ example_entry (drawn 0 3) 3 (Finish (drawn 1 1) merge_outcome)
    ∷ example_entry (drawn 0 1) 4 (Call 9 2 merge_get) ∷ []

abbrev after_second : List LogEntry
after_second = example_entry (drawn 0 1) 3 (RecordWatch (drawn 1 1) Cast.Yes 3) ∷ after_third

abbrev after_first : List LogEntry
after_first =
    example_entry (drawn 0 1) 1 (Begin (drawn 1 1) At.Merge 1)
    ∷ example_entry (drawn 0 2) 2 (Prepared (drawn 1 1) merge_offer)
    ∷ example_entry (drawn 0 1) 2 (RecordVote (drawn 1 1) (Ballot.Yes two_frozen) 2)
    ∷ example_entry (drawn 0 3) 1 (Watched (drawn 1 1) merge_watch_asked)
    ∷ example_entry (drawn 0 3) 2 (Call 8 1 watcher_put)
    ∷ after_second

third_allowed : AreAllowed sources (merged_world false) after_third
third_allowed = ((_, refl, refl), ((_, refl, refl), (refl, tt)))

second_allowed : AreAllowed sources (called_second None) after_second
second_allowed = ((_, refl, refl), subst (λ w. AreAllowed sources w after_third) (sym third_is) third_allowed)

first_allowed : AreAllowed sources (called_first None) after_first
first_allowed = (
  (refl, tt),
  ((_, refl, refl, refl), ((_, refl, refl), ((_, refl, refl, refl), (refl, subst (λ w. AreAllowed sources w after_second) (sym second_is) second_allowed)))),
)

merge_allowed : AreAllowed sources (first_recorded merge_bases) merge_entries
merge_allowed = (refl, subst (λ w. AreAllowed sources w after_first) (sym first_is) first_allowed)

merge_ring : (world_of merge_bases merge_entries).ring ≡ ring_cut_of 0 1728053248 (drawn 0 1) ∷ ring_cut_of 1728053248 2566914048 (drawn 0 3) ∷ []
merge_ring =
    ap (λ (w : StoryWorld). (world_after w.store after_first).ring) first_is
    ∙ ap (λ (w : StoryWorld). (world_after w.store after_second).ring) second_is
    ∙ ap (λ (w : StoryWorld). (world_after w.store after_third).ring) third_is

pub merge_is_allowed : MergeIsAllowed
merge_is_allowed = record { start = merge_start; allowed = merge_allowed; after = merge_ring }

-- ---- the split

split_start : BeginInPlace sources split_bases
split_start = record {
  covers = row_covers (map first_cut split_bases)
      (refl, span (first_cut split_left) (omega arith) (omega arith), (refl, span (first_cut split_right) (omega arith) (omega arith), refl))
      ((apart_by (drawn 0 1) (drawn 0 2) refl, tt), (tt, tt));
  first = λ base a. elim a [
    | inl e ↦ subst (BeginsInPlace sources split_bases) e (record { between = record { succ = (split_right, inr (inl refl), refl, refl); pred = (split_right, inr (inl refl), refl, refl) }; free = refl; here = refl; empty = refl; unowned = refl })
    | inr b ↦ elim b [
      | inl e ↦ subst (BeginsInPlace sources split_bases) e (record { between = record { succ = (split_left, inl refl, refl, refl); pred = (split_left, inl refl, refl, refl) }; free = refl; here = refl; empty = refl; unowned = refl })
      | inr none ↦ absurd none
    ]
  ];
}

lt_half : 1073741824 < 2 ^ 32
lt_half = omega arith

split_allowed : AreAllowed sources (first_recorded split_bases) split_entries
split_allowed = (
  (refl, lt_half),
  (
    tt,
    (
      (_, refl, refl, refl),
      (
        (_, refl, refl),
        (
          (_, refl, refl),
          (
            (refl, lt_half),
            (
              (refl, lt_half),
              ((_, refl, refl, refl), ((_, refl, refl), ((_, refl, refl), tt))),
            ),
          ),
        ),
      ),
    ),
  ),
)

split_ring : (world_of split_bases split_entries).ring ≡ ring_cut_of 0 1073741824 (drawn 0 1) ∷ ring_cut_of 1073741824 1073741824 (drawn 1 2) ∷ ring_cut_of 2147483648 2147483648 (drawn 0 2) ∷ []
split_ring = refl

pub split_is_allowed : SplitIsAllowed
split_is_allowed = record { start = split_start; allowed = split_allowed; after = split_ring }
