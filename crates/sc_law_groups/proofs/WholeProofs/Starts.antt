-- The groups of a scenario's lines stand round the circle, each between its neighbours.
use Rattle.std.proofs.Common.{◌≡◌, ℕ, zero, suc, ◌+◌, ◌-◌, ◌%◌, ◌^◌, ◌<◌, ◌≤◌, false, eqb, leb, List, [], ◌∷◌, ◌++◌, length, get_or, None, inl, inr, refl, sym, ◌∙◌, ap, subst, arith}
use Rattle.std.specs.Prelude.{map, AllPairs}
use Rattle.std.proofs.lemmas.Bool.{cases_lt, cond-true, cond-false, eq-eqb, ne_eqb, le-leb, lt-leb}
use Rattle.sc_base.specs.Definitions.{Among, Each, end_of, IsRoster}
use Rattle.sc_node_table.specs.Values.{Draw, Base}
use Rattle.sc_scenario.specs.scenario.Definitions.{group_at, name_at, place_right, place_left, way, arc_at, base_at, bases_up_to, bases_of}
use Rattle.sc_scenario.specs.declared.scenario.drafts.GroupLine.{GroupLine}
use Rattle.sc_meaning.specs.entries.EntryDefinitions.{Covers, first_cut}
use Rattle.sc_law_entries.specs.history.HistoryDefinitions.{BeginsBare, BeginBare}
use Rattle.sc_law_entries.specs.ring.RingDefinitions.{Sources, StandsBetween, BeginsInPlace, BeginInPlace}
use Rattle.sc_meaning.specs.sound.SoundDefinitions.{AreNamedApart}
use Rattle.sc_law_groups.specs.whole.WholeDefinitions.{IsFresh}
use Rattle.sc_law_groups.proofs.WholeProofs.Round.{IsSpan, GoRound, round_covers}

-- lines of groups, in the order in which they begin
pub record AreStarts (lines : List GroupLine) : Type 0 where
  pub some : 1 ≤ length lines
  pub low : (k : ℕ) (d : GroupLine) → k < length lines → (get_or lines k d).lo < 2 ^ 32
  pub rising : AllPairs (λ (one other : GroupLine). one.lo < other.lo) lines

module _ (lines : List GroupLine) where
  -- ---- the records from a place on

  abbrev pub bases_from : ℕ → ℕ → List Base
  bases_from k zero = []
  bases_from k (suc n) = base_at lines k ∷ bases_from (k + 1) n

  one_more : (k n : ℕ) → bases_from k (suc n) ≡ bases_from k n ++ base_at lines (k + n) ∷ []
  one_more k zero = let e : k ≡ k + 0 = omega arith in ap (λ j. base_at lines j ∷ []) e
  one_more k (suc n) =
      let e : k + 1 + n ≡ k + suc n = omega arith in
      ap (λ bs. base_at lines k ∷ bs) (one_more (k + 1) n) ∙ ap (λ j. base_at lines k ∷ (bases_from (k + 1) n ++ base_at lines j ∷ [])) e

  pub all_from : (n : ℕ) → bases_up_to lines n ≡ bases_from 0 n
  all_from zero = refl
  all_from (suc n) = let e : n ≡ 0 + n = omega arith in ap (λ bs. bs ++ base_at lines n ∷ []) (all_from n) ∙ ap (λ j. bases_from 0 n ++ base_at lines j ∷ []) e ∙ sym (one_more 0 n)

  in_from : (k n i : ℕ) → k ≤ i → i < k + n → Among (base_at lines i) (bases_from k n)
  in_from k zero i low high = absurd (omega arith)
  in_from k (suc n) i low high =
      elim (cases_lt k i) [
        | inl lt ↦ inr (in_from (k + 1) n i (omega arith) (omega arith))
        | inr ge ↦ (let e : k ≡ i = omega arith in inl (ap (base_at lines) e))
      ]

  of_from : (k n : ℕ) (base : Base) → Among base (bases_from k n) → (i : ℕ) × (i < k + n) × (base_at lines i ≡ base)
  of_from k zero base a = absurd a
  of_from k (suc n) base (inl e) = (k, omega arith, e)
  of_from k (suc n) base (inr a) = let r = of_from (k + 1) n base a in let lt = r.1 in (r.0, omega (arith, lt), r.2)

  -- ---- names

  later_named : (k j n : ℕ) → k < j → Each (λ (other : Base). other.core.id ≡ name_at k → ⊥) (bases_from j n)
  later_named k j zero lt = tt
  later_named k j (suc n) lt = (λ same. (let e : j + 1 ≡ k + 1 = ap (λ (d : Draw). d.count) same in absurd (omega (arith, e, lt))), later_named k (j + 1) n (omega arith))

  pub named_apart : (k n : ℕ) → AreNamedApart (bases_from k n)
  named_apart k zero = tt
  named_apart k (suc n) = (later_named k (k + 1) n (omega arith), named_apart (k + 1) n)

  -- ---- neighbours

  abbrev lo : ℕ → ℕ
  lo k = (group_at lines k).lo

  right_on : (k : ℕ) → k + 1 < length lines → place_right lines k ≡ k + 1
  right_on k lt = cond-false (eqb (k + 1) (length lines)) 0 (k + 1) (ne_eqb (k + 1) (length lines) (λ e. omega (arith, e, lt)))

  right_round : (k : ℕ) → k + 1 ≡ length lines → place_right lines k ≡ 0
  right_round k e = cond-true (eqb (k + 1) (length lines)) 0 (k + 1) (eq-eqb (k + 1) (length lines) e)

  way_up : (from to : ℕ) → from < to → way from to ≡ to - from
  way_up from to lt = cond-false (leb to from) (to + 2 ^ 32 - from) (to - from) (lt-leb to from lt)

  way_over : (from to : ℕ) → to ≤ from → way from to ≡ to + 2 ^ 32 - from
  way_over from to le = cond-true (leb to from) (to + 2 ^ 32 - from) (to - from) (le-leb to from le)

  module _ (are : AreStarts lines) where
    low : (k : ℕ) → k < length lines → lo k < 2 ^ 32
    low k lt = are.low k (record { lo = 0; members = [] }) lt

    rises : (i j : ℕ) → i < j → j < length lines → lo i < lo j
    rises i j below within = are.rising i j (record { lo = 0; members = [] }) below within

    first_least : (k : ℕ) → k < length lines → lo 0 ≤ lo k
    first_least zero lt = omega arith
    first_least (suc k) lt = let r = rises 0 (suc k) (omega arith) lt in omega (arith, r)

    len_on : (k : ℕ) → k + 1 < length lines → (arc_at lines k).len ≡ lo (k + 1) - lo k
    len_on k lt = ap (λ j. way (lo k) (lo j)) (right_on k lt) ∙ way_up (lo k) (lo (k + 1)) (rises k (k + 1) (omega arith) lt)

    len_round : (k : ℕ) → k + 1 ≡ length lines → (arc_at lines k).len ≡ lo 0 + 2 ^ 32 - lo k
    len_round k e = ap (λ j. way (lo k) (lo j)) (right_round k e) ∙ way_over (lo k) (lo 0) (first_least k (omega (arith, e)))

    span_on : (k : ℕ) → k + 1 < length lines → IsSpan (lo 0) (arc_at lines k)
    span_on k lt =
        let len = len_on k lt in let up = rises k (k + 1) (omega arith) lt in let least = first_least k (omega (arith, lt)) in let high = low k (omega (arith, lt)) in let next = low (k + 1) lt in
        record { some = omega (arith, len, up); low = least; high = high; fits = omega (arith, len, up, next) }

    span_round : (k : ℕ) → k + 1 ≡ length lines → IsSpan (lo 0) (arc_at lines k)
    span_round k e =
        let len = len_round k e in let least = first_least k (omega (arith, e)) in let high = low k (omega (arith, e)) in
        record { some = omega (arith, len, least, high); low = least; high = high; fits = omega (arith, len, least, high) }

    go_round : (k n : ℕ) → k + suc n ≡ length lines → GoRound (lo 0) (lo k) (map first_cut (bases_from k (suc n)))
    go_round k zero fact =
        let e : k + 1 ≡ length lines = omega arith in
        let len = len_round k e in let high = low k (omega (arith, e)) in
        (refl, span_round k e, omega (arith, len, high))
    go_round k (suc n) fact =
        let lt : k + 1 < length lines = omega arith in
        let len = len_on k lt in let up = rises k (k + 1) (omega arith) lt in
        let on : lo (k + 1) ≡ lo k + (arc_at lines k).len = omega (arith, len, up) in
        (refl, span_on k lt, subst (λ x. GoRound (lo 0) x (map first_cut (bases_from (k + 1) (suc n)))) on (go_round (k + 1) n (omega arith)))

    end_mod : (from len to : ℕ) → from + len ≡ to → to < 2 ^ 32 → to ≡ (from + len) % 2 ^ 32
    end_mod from len to e fits = omega arith

    end_over : (from len to : ℕ) → from + len ≡ to + 2 ^ 32 → to < 2 ^ 32 → to ≡ (from + len) % 2 ^ 32
    end_over from len to e fits = omega arith

    -- each arc ends where the next begins
    ends_next : (k : ℕ) → k < length lines → lo (place_right lines k) ≡ end_of (arc_at lines k)
    ends_next k inside =
        elim (cases_lt (k + 1) (length lines)) [
          | inl lt ↦ (
              let len = len_on k lt in let up = rises k (k + 1) (omega arith) lt in
              ap lo (right_on k lt) ∙ end_mod (lo k) (arc_at lines k).len (lo (k + 1)) (omega (arith, len, up)) (low (k + 1) lt))
          | inr ge ↦ (
              let e : k + 1 ≡ length lines = omega arith in
              let len = len_round k e in let high = low k inside in let least = first_least k inside in
              ap lo (right_round k e) ∙ end_over (lo k) (arc_at lines k).len (lo 0) (omega (arith, len, least, high)) (low 0 (omega arith)))
        ]

    right_in : (k : ℕ) → k < length lines → place_right lines k < length lines
    right_in k inside =
        elim (cases_lt (k + 1) (length lines)) [
          | inl lt ↦ (let e = right_on k lt in omega (arith, e, lt))
          | inr ge ↦ (let e = right_round k (omega arith) in omega (arith, e, inside))
        ]

    -- the place to the left, and back
    left_back : (k : ℕ) → k < length lines → (place_left lines k < length lines) × (place_right lines (place_left lines k) ≡ k)
    left_back zero inside =
        let e : (length lines - 1) + 1 ≡ length lines = omega arith in
        (omega arith, right_round (length lines - 1) e)
    left_back (suc k) inside =
        let not_first : eqb (suc k) 0 ≡ false = ne_eqb (suc k) 0 (λ e. omega (arith, e)) in
        let fact : place_left lines (suc k) ≡ k = cond-false (eqb (suc k) 0) (length lines - 1) (suc k - 1) not_first ∙ (omega arith) in
        let on : k + 1 ≡ suc k = omega arith in
        (omega (arith, fact), ap (place_right lines) fact ∙ right_on k (omega arith) ∙ on)

    -- each group stands between its neighbours
    between : (k : ℕ) → k < length lines → StandsBetween (bases_from 0 (length lines)) (base_at lines k).core
    between k inside =
        let l = left_back k inside in
        record {
          succ = (base_at lines (place_right lines k), in_from 0 (length lines) (place_right lines k) (omega arith) (let r = right_in k inside in omega (arith, r)), ends_next k inside, refl);
          pred = (base_at lines (place_left lines k), in_from 0 (length lines) (place_left lines k) (omega arith) (let r = l.0 in omega (arith, r)), sym (ap lo l.1) ∙ ends_next (place_left lines k) l.0, refl);
        }

    -- ---- all of them

    round : GoRound (lo 0) (lo 0) (map first_cut (bases_from 0 (length lines)))
    round =
        let some = are.some in
        let e : suc (length lines - 1) ≡ length lines = omega (arith, some) in
        subst (λ n. GoRound (lo 0) (lo 0) (map first_cut (bases_from 0 n))) e (go_round 0 (length lines - 1) (omega (arith, some)))

    all_cover : Covers (map first_cut (bases_from 0 (length lines)))
    all_cover = round_covers (lo 0) (bases_from 0 (length lines)) (low 0 are.some) round (named_apart 0 (length lines))

    bare : BeginBare (bases_from 0 (length lines))
    bare = record {
      covers = all_cover;
      bare = λ base a. (let (k, inside, fact) = of_from 0 (length lines) base a in subst BeginsBare fact (record { pairs = refl; clients = refl }));
    }

    -- they hold nothing
    pub starts_bare : BeginBare (bases_of lines)
    starts_bare = subst BeginBare (sym (all_from (length lines))) bare

    module _ (sources : Sources) (unowned : (name : Draw) → name.node ≡ 0 → sources.owner name ≡ None) where
      in_place : BeginInPlace sources (bases_from 0 (length lines))
      in_place = record {
        covers = all_cover;
        first = λ base a. (
            let (k, inside, fact) = of_from 0 (length lines) base a in
            subst (BeginsInPlace sources (bases_from 0 (length lines))) fact
            (record { between = between k (omega (arith, inside)); free = refl; here = refl; empty = refl; unowned = unowned (name_at k) refl }));
      }

      -- they are in place, where names as they have are drawn for no group
      pub starts_in_place : BeginInPlace sources (bases_of lines)
      starts_in_place = subst (BeginInPlace sources) (sym (all_from (length lines))) in_place

  -- the first group, and the others
  pub first_and_others : 1 ≤ length lines → bases_of lines ≡ base_at lines 0 ∷ bases_from 1 (length lines - 1)
  first_and_others some = let e : length lines ≡ suc (length lines - 1) = omega (arith, some) in all_from (length lines) ∙ ap (bases_from 0) e

  -- they have names of their own
  pub starts_apart : AreNamedApart (bases_of lines)
  starts_apart = subst AreNamedApart (sym (all_from (length lines))) (named_apart 0 (length lines))

  -- nothing has happened to any of them
  pub starts_fresh : ((k : ℕ) (d : GroupLine) → k < length lines → IsRoster (get_or lines k d).members) → (base : Base) → Among base (bases_of lines) → IsFresh base
  starts_fresh rosters base a =
      let (k, inside, fact) = of_from 0 (length lines) base (subst (Among base) (all_from (length lines)) a) in
      subst IsFresh fact (record { free = refl; unvoted = refl; decided = refl; roster = rosters k (record { lo = 0; members = [] }) (omega (arith, inside)) })
