-- Which groups have a cut of the ring after a division, a merge or a moved boundary.
use Rattle.std.specs.Prelude.{is_some, not}
use Rattle.std.proofs.Common.{◌≡◌, Bool, true, false, cond, List, [], ◌∷◌, ◌++◌, Option, Some, None, inl, inr, refl, sym, ap, ◌∙◌}
use Rattle.std.specs.List.{filter, find, flat_map}
use Rattle.std.specs.Option.{option_map}
use Rattle.std.proofs.lemmas.Bool.{cases_Bool, cond-true, cond-false, not-true}
use Rattle.sc_base.specs.Definitions.{Arc, before, from, same_draw}
use Rattle.sc_base.specs.declared.names.Draw.{Draw}
use Rattle.sc_base.proofs.Lemmas.{draw_is, same_name}
use Rattle.sc_words.proofs.PaxosProofs.PaxosLemmas.{find_filter, find_nothing, Each-passes, Each-weaker}
use Rattle.sc_meaning.specs.declared.entries.Cut.{Cut}
use Rattle.sc_meaning.specs.declared.entries.Division.{Division}
use Rattle.sc_meaning.specs.entries.EntryDefinitions.{arc_in, is_cut_of, parts_of, recut}
use Rattle.sc_meaning.proofs.EntriesProofs.EntryLemmas.{other_name}

-- whether a group has a cut
abbrev pub has_arc : Draw → List Cut → Bool
has_arc name ring = is_some (arc_in name ring)

-- by the first cut
has_first : (name : Draw) (cut : Cut) (ring : List Cut) → has_arc name (cut ∷ ring) ≡ cond (is_cut_of name cut) true (has_arc name ring)
has_first name cut ring = elim (is_cut_of name cut) as (λ b. is_some (option_map (λ (c : Cut). c.arc) (cond b (Some cut) (find (is_cut_of name) ring))) ≡ cond b true (has_arc name ring)) [ true ↦ refl | false ↦ refl ]

recut_name : (b : Bool) (cut : Cut) (arc : Arc) (name : Draw) → is_cut_of name (cond b (record cut { arc = arc }) cut) ≡ is_cut_of name cut
recut_name true cut arc name = refl
recut_name false cut arc name = refl

-- another arc changes no group
pub has_recut : (name group : Draw) (arc : Arc) (ring : List Cut) → has_arc name (recut group arc ring) ≡ has_arc name ring
has_recut name group arc [] = refl
has_recut name group arc (cut ∷ ring) =
    has_first name (cond (is_cut_of group cut) (record cut { arc = arc }) cut) (recut group arc ring)
    ∙ ap (λ b. cond b true (has_arc name (recut group arc ring))) (recut_name (is_cut_of group cut) cut arc name)
    ∙ ap (λ b. cond (is_cut_of name cut) true b) (has_recut name group arc ring)
    ∙ sym (has_first name cut ring)

-- a group with no arc
pub is_none_of : (o : Option Arc) → is_some o ≡ false → o ≡ None
is_none_of None e = refl
is_none_of (Some arc) e = (let no_way : true ≡ false = e in absurd (cc))

-- a cut that is taken out
passes_not : (name other : Draw) (cut : Cut) → (name ≡ other → ⊥) → is_cut_of name cut ≡ true → not (is_cut_of other cut) ≡ true
passes_not name other cut ne t = elim (cases_Bool (is_cut_of other cut)) [
  | inl u ↦ absurd (ne (sym (draw_is cut.group name t) ∙ draw_is cut.group other u))
  | inr f ↦ ap not f
]

pub taken_out : (name other : Draw) (ring : List Cut) → (name ≡ other → ⊥) → has_arc name (filter (λ cut. not (is_cut_of other cut)) ring) ≡ has_arc name ring
taken_out name other ring ne =
    ap (λ o. is_some (option_map (λ (c : Cut). c.arc) o)) (find_filter (is_cut_of name) (λ cut. not (is_cut_of other cut)) (λ cut t. passes_not name other cut ne t) ring)

pub gone_cut : (other : Draw) (ring : List Cut) → arc_in other (filter (λ cut. not (is_cut_of other cut)) ring) ≡ None
gone_cut other ring =
    ap (option_map (λ (c : Cut). c.arc)) (find_nothing (is_cut_of other) (filter (λ cut. not (is_cut_of other cut)) ring)
    (Each-weaker (λ (cut : Cut). not (is_cut_of other cut) ≡ true) (λ cut. is_cut_of other cut ≡ false) (λ cut t. not-true (is_cut_of other cut) t) (filter (λ cut. not (is_cut_of other cut)) ring) (Each-passes (λ cut. not (is_cut_of other cut)) ring)))

-- ---- a division

-- a cut that is divided
divided_first : (name group : Draw) (division : Division) (cut : Cut) (ring : List Cut) → is_cut_of group cut ≡ true
    → has_arc name (parts_of group division cut ++ ring) ≡ cond (is_cut_of name cut) true (cond (same_draw division.child name) true (has_arc name ring))
divided_first name group division cut ring t =
    ap (λ (cuts : List Cut). has_arc name (cuts ++ ring)) (cond-true (is_cut_of group cut) _ (cut ∷ []) t)
    ∙ has_first name (record cut { arc = before cut.arc division.at }) (record { arc = from cut.arc division.at; group = division.child } ∷ ring)
    ∙ ap (λ b. cond (is_cut_of name cut) true b) (has_first name (record { arc = from cut.arc division.at; group = division.child }) ring)

-- any other cut
whole_first : (name group : Draw) (division : Division) (cut : Cut) (ring : List Cut) → is_cut_of group cut ≡ false → has_arc name (parts_of group division cut ++ ring) ≡ cond (is_cut_of name cut) true (has_arc name ring)
whole_first name group division cut ring f =
    ap (λ (cuts : List Cut). has_arc name (cuts ++ ring)) (cond-false (is_cut_of group cut) _ (cut ∷ []) f) ∙ has_first name cut ring

-- whoever is not the child has a cut as before
pub has_divided : (name group : Draw) (division : Division) (ring : List Cut) → (name ≡ division.child → ⊥) → has_arc name (flat_map (parts_of group division) ring) ≡ has_arc name ring
has_divided name group division [] ne = refl
has_divided name group division (cut ∷ ring) ne =
    let rest = flat_map (parts_of group division) ring in
    elim (cases_Bool (is_cut_of group cut)) [
      | inl t ↦ divided_first name group division cut rest t
          ∙ ap (λ b. cond (is_cut_of name cut) true (cond b true (has_arc name rest))) (other_name division.child name (λ e. ne (sym e)))
          ∙ ap (λ b. cond (is_cut_of name cut) true b) (has_divided name group division ring ne)
          ∙ sym (has_first name cut ring)
      | inr f ↦ whole_first name group division cut rest f
          ∙ ap (λ b. cond (is_cut_of name cut) true b) (has_divided name group division ring ne)
          ∙ sym (has_first name cut ring)
    ]

either_true : (b : Bool) → cond b true true ≡ true
either_true true = refl
either_true false = refl

-- and the child has one where the group had one
pub child_has : (group : Draw) (division : Division) (ring : List Cut) → has_arc group ring ≡ true → has_arc division.child (flat_map (parts_of group division) ring) ≡ true
child_has group division [] e = (let no_way : false ≡ true = e in absurd (cc))
child_has group division (cut ∷ ring) e =
    let child = division.child in
    let rest = flat_map (parts_of group division) ring in
    elim (cases_Bool (is_cut_of group cut)) [
      | inl t ↦ divided_first child group division cut rest t
          ∙ ap (λ b. cond (is_cut_of child cut) true (cond b true (has_arc child rest))) (same_name child child refl)
          ∙ either_true (is_cut_of child cut)
      | inr f ↦ whole_first child group division cut rest f
          ∙ ap (λ b. cond (is_cut_of child cut) true b) (child_has group division ring (sym (has_first group cut ring ∙ cond-false (is_cut_of group cut) true (has_arc group ring) f) ∙ e))
          ∙ either_true (is_cut_of child cut)
    ]

-- who has a cut has its arc
pub arc_of : (name : Draw) (ring : List Cut) → has_arc name ring ≡ true → (arc : Arc) × (arc_in name ring ≡ Some arc)
arc_of name ring e = by_arc (arc_in name ring) e
  where
    by_arc : (o : Option Arc) → is_some o ≡ true → (arc : Arc) × (o ≡ Some arc)
    by_arc None e = (let no_way : false ≡ true = e in absurd (cc))
    by_arc (Some arc) e = (arc, refl)
