-- The walk of an arc through a ring that covers.
use Rattle.std.proofs.Common.{◌≡◌, ℕ, zero, suc, ◌+◌, ◌-◌, ◌^◌, ◌<◌, ◌≤◌, Bool, true, false, inl, inr, List, [], ◌∷◌, ◌++◌, find, Option, Some, None, refl, sym, ◌∙◌, ap, ap₂, subst, arith, append-nil, append_assoc, length, length-append}
use Rattle.std.specs.Prelude.{IsTrue, min, ◌==◌}
use Rattle.std.proofs.lemmas.Bool.{cases_Bool, cond-true, cond-false, ltb-true, lt-ltb, cases_lt, ne_eqb}
use Rattle.sc_base.specs.Among.{Among}
use Rattle.sc_base.specs.Arc.{Arc, IsArc, holds, offset, end_of}
use Rattle.sc_words.proofs.PaxosProofs.ListLemmas.{Each-from, find_found}
use Rattle.sc_law_entries.proofs.RingProofs.Finds.{Pairwise, all_pairs}
use Rattle.sc_meaning.specs.declared.entries.Cut.{Cut}
use Rattle.sc_meaning.specs.entries.Rings.{Covers}
use Rattle.sc_world_entries.specs.declared.scans.walking.Part.{Part}
use Rattle.sc_world_entries.specs.scans.Laws.{ShareNothing, IsWithinCut, WalksShareArcs}
use Rattle.sc_world_entries.specs.scans.Walk.{first_part, holds_start, left_behind, parts_from, parts_in, reach, walk}
use Rattle.sc_world_entries.proofs.ScanProofs.ArcDistances.{behind, beyond, end_fits, fewer, near}

-- ---- the walk, step by step

-- nothing is left to walk
walk_done : (more : ℕ) (ring : List Cut) (arc : Arc) → arc.len ≡ 0 → walk more ring arc ≡ []
unfolding walk
walk_done zero ring arc e = refl
walk_done (suc more) ring arc e = cond-true (arc.len == 0) _ _ (ap (λ n. n == 0) e)

not_zero : (n : ℕ) → 1 ≤ n → (n == 0) ≡ false
not_zero n h = ne_eqb n 0 (λ e. omega (arith, e, h))

-- one step
walk_step : (more : ℕ) (ring : List Cut) (arc : Arc) → 1 ≤ arc.len → walk (suc more) ring arc ≡ parts_from (find (holds_start arc) ring) arc (walk more ring)
unfolding walk
walk_step more ring arc some = cond-false (arc.len == 0) _ _ (not_zero arc.len some)

-- what `first_part` gives has positions, and no more than its arc
first_some : (arc : Arc) (cut : Cut) → 1 ≤ arc.len → IsTrue (holds cut.arc arc.lo) → 1 ≤ (first_part arc cut).arc.len
first_some arc cut some held = (let inside : offset cut.arc arc.lo < cut.arc.len = ltb-true _ _ held in omega arith)

first_most : (arc : Arc) (cut : Cut) → (first_part arc cut).arc.len ≤ arc.len
first_most arc cut = omega arith

-- a cut that is found holds the start
pub found_holds : (ring : List Cut) (arc : Arc) (cut : Cut) → find (holds_start arc) ring ≡ Some cut → IsTrue (holds cut.arc arc.lo)
found_holds ring arc cut e = (find_found (holds_start arc) ring cut e).1

from_same : (o : Option Cut) (arc : Arc) (f g : Arc → List Part) → ((cut : Cut) → o ≡ Some cut → f (left_behind arc (first_part arc cut)) ≡ g (left_behind arc (first_part arc cut))) → parts_from o arc f ≡ parts_from o arc g
from_same None arc f g same = refl
from_same (Some cut) arc f g same = ap (λ parts. first_part arc cut ∷ parts) (same cut refl)

-- two walks of steps enough are the same
both_enough : (more n : ℕ) (ring : List Cut) (arc : Arc) → arc.len ≤ more → arc.len ≤ n → walk more ring arc ≡ walk n ring arc
both_enough zero n ring arc h k = walk_done zero ring arc (omega arith) ∙ sym (walk_done n ring arc (omega arith))
both_enough (suc more) zero ring arc h k = walk_done (suc more) ring arc (omega arith) ∙ sym (walk_done zero ring arc (omega arith))
both_enough (suc more) (suc n) ring arc h k = elim (cases_lt 0 arc.len) [
  | inl some ↦ walk_step more ring arc some
      ∙ from_same (find (holds_start arc) ring) arc (walk more ring) (walk n ring) (λ cut e.
      let long = first_some arc cut some (found_holds ring arc cut e) in
      both_enough more n ring (left_behind arc (first_part arc cut)) (fewer arc.len (first_part arc cut).arc.len more long h) (fewer arc.len (first_part arc cut).arc.len n long k))
      ∙ sym (walk_step n ring arc some)
  | inr none ↦ walk_done (suc more) ring arc (omega arith) ∙ sym (walk_done (suc n) ring arc (omega arith))
]

-- the parts of an arc by one step: that of `first_part`, and those of what is left
pub parts_none : (ring : List Cut) (arc : Arc) → arc.len ≡ 0 → parts_in ring arc ≡ []
parts_none ring arc e = walk_done arc.len ring arc e

pub parts_step : (ring : List Cut) (arc : Arc) → 1 ≤ arc.len → parts_in ring arc ≡ parts_from (find (holds_start arc) ring) arc (parts_in ring)
parts_step ring arc some =
    both_enough arc.len (suc arc.len) ring arc (omega arith) (omega arith) ∙ walk_step arc.len ring arc some
    ∙ from_same (find (holds_start arc) ring) arc (walk arc.len ring) (parts_in ring) (λ cut e.
    both_enough arc.len (left_behind arc (first_part arc cut)).len ring (left_behind arc (first_part arc cut)) (omega arith) (omega arith))

-- the same where the cut is known
pub parts_next : (ring : List Cut) (arc : Arc) (cut : Cut) → 1 ≤ arc.len → find (holds_start arc) ring ≡ Some cut → parts_in ring arc ≡ first_part arc cut ∷ parts_in ring (left_behind arc (first_part arc cut))
parts_next ring arc cut some e = parts_step ring arc some ∙ ap (λ o. parts_from o arc (parts_in ring)) e

-- and where there is none
pub parts_stop : (ring : List Cut) (arc : Arc) → 1 ≤ arc.len → find (holds_start arc) ring ≡ None → parts_in ring arc ≡ []
parts_stop ring arc some e = parts_step ring arc some ∙ ap (λ o. parts_from o arc (parts_in ring)) e

-- ---- the walk, as a loop takes it

-- an arc of which one part was found has a part
pub has_part : (ring : List Cut) (arc rest : Arc) (cut : Cut) (found : List Part) → 1 ≤ rest.len → find (holds_start rest) ring ≡ Some cut → found ++ parts_in ring rest ≡ parts_in ring arc → parts_in ring arc ≡ [] → ⊥
has_part ring arc rest cut found some e so_far none =
    let behind : List Part = first_part rest cut ∷ parts_in ring (left_behind rest (first_part rest cut)) in
    let whole : found ++ behind ≡ [] = ap (λ (parts : List Part). found ++ parts) (sym (parts_next ring rest cut some e)) ∙ so_far ∙ none in
    omega (arith, ap length whole, length-append found behind)

-- where no cut holds the start, those so far are all
pub parts_end : (ring : List Cut) (arc rest : Arc) (before : List Part) → 1 ≤ rest.len → find (holds_start rest) ring ≡ None → before ++ parts_in ring rest ≡ parts_in ring arc → before ≡ parts_in ring arc
parts_end ring arc rest before some none so_far = sym (ap (λ xs. before ++ xs) (parts_stop ring rest some none) ∙ append-nil before) ∙ so_far

-- where nothing is left, those so far are all
pub parts_over : (ring : List Cut) (arc rest : Arc) (before : List Part) → rest.len ≡ 0 → before ++ parts_in ring rest ≡ parts_in ring arc → before ≡ parts_in ring arc
parts_over ring arc rest before over so_far = sym (ap (λ xs. before ++ xs) (parts_none ring rest over) ∙ append-nil before) ∙ so_far

-- one part more
pub parts_push : (ring : List Cut) (arc rest : Arc) (cut : Cut) (before after : List Part) (part : Part) (lo len : ℕ) → 1 ≤ rest.len → find (holds_start rest) ring ≡ Some cut
    → before ++ parts_in ring rest ≡ parts_in ring arc → part ≡ first_part rest cut → after ≡ before ++ part ∷ [] → lo ≡ end_of part.arc → len ≡ rest.len - part.arc.len
    → after ++ parts_in ring (record { lo = lo; len = len }) ≡ parts_in ring arc
parts_push ring arc rest cut before after part lo len some found so_far part_is after_is lo_is len_is =
    let rest_is : record { lo = lo; len = len } ≡ left_behind rest (first_part rest cut) =
    ap₂ (λ (a b : ℕ). let next : Arc = record { lo = a; len = b } in next) lo_is len_is ∙ ap (left_behind rest) part_is in
    ap₂ (λ xs next. xs ++ parts_in ring next) (after_is ∙ ap (λ one. before ++ one ∷ []) part_is) rest_is
    ∙ append_assoc before (first_part rest cut ∷ []) (parts_in ring (left_behind rest (first_part rest cut)))
    ∙ ap (λ xs. before ++ xs) (sym (parts_next ring rest cut some found))
    ∙ so_far

-- ---- a ring that covers

-- one that passes is found
found_among : {X : Type 0} (p : X → Bool) (xs : List X) (x : X) → Among x xs → p x ≡ true → (y : X) × (find p xs ≡ Some y)
found_among p [] x a t = absurd a
found_among p (y ∷ xs) x a t = elim (cases_Bool (p y)) [
  | inl s ↦ (y, cond-true (p y) (Some y) (find p xs) s)
  | inr f ↦ (let k = found_among p xs x (later a f) t in (k.0, cond-false (p y) (Some y) (find p xs) f ∙ k.1))
]
  where
    later : Among x (y ∷ xs) → p y ≡ false → Among x xs
    later (inl is) f = absurd (let no_way : true ≡ false = sym t ∙ ap p (sym is) ∙ f in cc)
    later (inr there) f = there

-- what parts of an arc are, with those that are apart from all later ones
record Walked (ring : List Cut) (arc : Arc) (parts : List Part) : Type 0 where
  pub arcs : (part : Part) → Among part parts → IsArc part.arc × (part.arc.lo < 2 ^ 32)
  pub cuts : (part : Part) → Among part parts → IsWithinCut ring part
  pub some : (p : ℕ) → IsTrue (holds arc p) → (part : Part) × Among part parts × IsTrue (holds part.arc p)
  pub once : Pairwise ShareNothing parts
  pub only : (part : Part) → Among part parts → (p : ℕ) → IsTrue (holds part.arc p) → IsTrue (holds arc p)

-- no positions, no parts
walked_none : (ring : List Cut) (arc : Arc) → arc.len ≡ 0 → Walked ring arc []
walked_none ring arc e = record {
  arcs = λ part a. absurd a;
  cuts = λ part a. absurd a;
  some = λ p h. absurd (let below : offset arc p < arc.len = ltb-true _ _ h in omega arith);
  once = tt;
  only = λ part a. absurd a;
}

module _ (ring : List Cut) (covers : Covers ring) (arc : Arc) (fits : arc.lo < 2 ^ 32) (most : arc.len ≤ 2 ^ 32) (some_left : 1 ≤ arc.len) (cut : Cut) (found : find (holds_start arc) ring ≡ Some cut) where
  cut_in : Among cut ring
  cut_in = (find_found (holds_start arc) ring cut found).0

  start_held : IsTrue (holds cut.arc arc.lo)
  start_held = (find_found (holds_start arc) ring cut found).1

  first_is_arc : IsArc (first_part arc cut).arc
  first_is_arc = record { some = first_some arc cut some_left start_held; most = omega (arith, first_most arc cut) }

  first_within : IsWithinCut ring (first_part arc cut)
  first_within =
      let bounds = covers.arcs cut cut_in in
      record {
        cut = cut;
        stands = cut_in;
        group = refl;
        within = λ p h.
            let close : offset arc p < min arc.len (reach cut arc.lo) = ltb-true _ _ h in
            let inside : offset cut.arc arc.lo < cut.arc.len = ltb-true _ _ start_held in
            lt-ltb (offset cut.arc p) cut.arc.len (near cut.arc.lo cut.arc.len arc.lo p bounds.1 fits bounds.0.most inside (omega arith));
      }

  -- a position beyond what `first_part` gives is in what is left
  rest_holds : (p : ℕ) → IsTrue (holds arc p) → (first_part arc cut).arc.len ≤ offset arc p → IsTrue (holds (left_behind arc (first_part arc cut)) p)
  rest_holds p h far =
      let below : offset arc p < arc.len = ltb-true _ _ h in
      let e = beyond arc.lo (first_part arc cut).arc.len p fits first_is_arc.most far in
      lt-ltb (offset (left_behind arc (first_part arc cut)) p) (arc.len - (first_part arc cut).arc.len) (omega (arith, e))

  rest_only : (p : ℕ) → IsTrue (holds (left_behind arc (first_part arc cut)) p) → IsTrue (holds arc p)
  rest_only p h =
      let below : offset (left_behind arc (first_part arc cut)) p < arc.len - (first_part arc cut).arc.len = ltb-true _ _ h in
      lt-ltb (offset arc p) arc.len (elim (cases_lt (offset arc p) (first_part arc cut).arc.len) [
        | inl close ↦ omega (arith, first_most arc cut)
        | inr far ↦ omega (arith, beyond arc.lo (first_part arc cut).arc.len p fits first_is_arc.most far)
      ])

  rest_apart : (p : ℕ) → IsTrue (holds (first_part arc cut).arc p) → IsTrue (holds (left_behind arc (first_part arc cut)) p) → ⊥
  rest_apart p h k =
      let close : offset arc p < (first_part arc cut).arc.len = ltb-true _ _ h in
      let below : offset (left_behind arc (first_part arc cut)) p < arc.len - (first_part arc cut).arc.len = ltb-true _ _ k in
      omega (arith, behind arc.lo (first_part arc cut).arc.len (arc.len - (first_part arc cut).arc.len) p fits (omega (arith, first_most arc cut)) close)

  first_only : (p : ℕ) → IsTrue (holds (first_part arc cut).arc p) → IsTrue (holds arc p)
  first_only p h =
      let close : offset arc p < (first_part arc cut).arc.len = ltb-true _ _ h in
      lt-ltb (offset arc p) arc.len (omega (arith, first_most arc cut))

  walked_next : (parts : List Part) → Walked ring (left_behind arc (first_part arc cut)) parts → Walked ring arc (first_part arc cut ∷ parts)
  walked_next parts rest = record {
    arcs = λ part a. elim a [
      | inl is ↦ subst (λ (x : Part). IsArc x.arc × (x.arc.lo < 2 ^ 32)) is (first_is_arc, fits)
      | inr there ↦ rest.arcs part there
    ];
    cuts = λ part a. elim a [
      | inl is ↦ subst (IsWithinCut ring) is first_within
      | inr there ↦ rest.cuts part there
    ];
    some = λ p h. elim (cases_lt (offset arc p) (first_part arc cut).arc.len) [
      | inl close ↦ (first_part arc cut, inl refl, lt-ltb (offset arc p) (first_part arc cut).arc.len close)
      | inr far ↦ (let k = rest.some p (rest_holds p h far) in (k.0, inr k.1, k.2))
    ];
    once = (Each-from (ShareNothing (first_part arc cut)) parts (λ other a p h k. rest_apart p h (rest.only other a p k)), rest.once);
    only = λ part a. elim a [
      | inl is ↦ subst (λ (x : Part). (p : ℕ) → IsTrue (holds x.arc p) → IsTrue (holds arc p)) is first_only
      | inr there ↦ (λ p h. rest_only p (rest.only part there p h))
    ];
  }

module _ (ring : List Cut) (covers : Covers ring) where
  -- some cut holds the start of an arc
  start_found : (arc : Arc) → arc.lo < 2 ^ 32 → (cut : Cut) × (find (holds_start arc) ring ≡ Some cut)
  start_found arc fits = let k = covers.some arc.lo fits in found_among (holds_start arc) ring k.0 k.1 k.2

  walked : (steps : ℕ) (arc : Arc) → arc.len ≤ steps → arc.lo < 2 ^ 32 → arc.len ≤ 2 ^ 32 → Walked ring arc (parts_in ring arc)
  walked zero arc h fits most =
      let e : arc.len ≡ 0 = omega arith in
      subst (Walked ring arc) (sym (parts_none ring arc e)) (walked_none ring arc e)
  walked (suc steps) arc h fits most = elim (cases_lt 0 arc.len) [
    | inl some ↦
        let k = start_found arc fits in
        let cut = k.0 in
        let long = first_some arc cut some (found_holds ring arc cut k.1) in
        subst (Walked ring arc) (sym (parts_next ring arc cut some k.1))
        (walked_next ring covers arc fits most some cut k.1 (parts_in ring (left_behind arc (first_part arc cut)))
        (walked steps (left_behind arc (first_part arc cut)) (fewer arc.len (first_part arc cut).arc.len steps long h) (end_fits (arc.lo + (first_part arc cut).arc.len)) (omega arith)))
    | inr none ↦
        let e : arc.len ≡ 0 = omega arith in
        subst (Walked ring arc) (sym (parts_none ring arc e)) (walked_none ring arc e)
  ]

pub walks_share : WalksShareArcs
walks_share ring covers arc is fits =
    let w = walked ring covers arc.len arc (omega arith) fits is.most in
    record { arcs = w.arcs; cuts = w.cuts; some = w.some; once = all_pairs ShareNothing (parts_in ring arc) w.once; only = w.only }
