-- Look-ups in the list of cuts, through each change of the ring.
use Rattle.std.specs.Prelude.{find, ◌++◌, not}
use Rattle.std.specs.List.{filter, flat_map}
use Rattle.std.specs.Option.{option_map}
use Rattle.std.proofs.Common.{◌≡◌, ◌≢◌, true, false, cond, List, [], ◌∷◌, inl, inr, Option, Some, None, refl, sym, ◌∙◌, ap, subst}
use Rattle.std.proofs.lemmas.Bool.{cases_Bool, cond-true, cond-false, cond_both}
use Rattle.sc_base.specs.Definitions.{Among, Each, Arc, before, from}
use Rattle.sc_base.specs.declared.names.Draw.{Draw}
use Rattle.sc_base.proofs.Lemmas.{draw_is, same_name}
use Rattle.sc_meaning.specs.declared.entries.Cut.{Cut}
use Rattle.sc_meaning.specs.declared.entries.Division.{Division}
use Rattle.sc_meaning.specs.entries.EntryDefinitions.{is_cut_of, arc_in, recut, parts_of}
use Rattle.sc_law_entries.specs.ring.RingDefinitions.{put}
use Rattle.sc_meaning.proofs.EntriesProofs.EntryLemmas.{draw_cases, other_name}
use Rattle.sc_law_entries.proofs.RingProofs.Cover.{at-is, at-other}
use Rattle.sc_law_entries.proofs.RingProofs.View.{Ring}
use Rattle.sc_words.proofs.PaxosProofs.PaxosLemmas.{Each-among, find_found}
use Rattle.sc_law_entries.proofs.RingProofs.Finds.{find_map, find_first, find_skips, each_map, Pairwise, some_none}
use Rattle.std.proofs.lemmas.Option.{none-some, same_Some}

-- the ring by the names of groups
abbrev pub arcs_in : List Cut → Ring
arcs_in ring name = arc_in name ring

-- the cut that is found is the group's
pub cut_named : (h : Draw) (ring : List Cut) (c : Cut) → find (is_cut_of h) ring ≡ Some c → c.group ≡ h
cut_named h ring c e = draw_is c.group h (find_found (is_cut_of h) ring c e).1

-- ---- another arc for a group

abbrev recut_one : Draw → Arc → Cut → Cut
recut_one g a cut = cond (is_cut_of g cut) (record cut { arc = a }) cut

recut_name : (g : Draw) (a : Arc) (h : Draw) (c : Cut) → is_cut_of h (recut_one g a c) ≡ is_cut_of h c
recut_name g a h c = cond_both (is_cut_of g c) (record c { arc = a }) c (λ (x : Cut). is_cut_of h x ≡ is_cut_of h c) (λ e. refl) (λ e. refl)

recut_same : (g : Draw) (a : Arc) (h : Draw) → h ≡ g → (o : Option Cut) → ((c : Cut) → o ≡ Some c → c.group ≡ h) → (b : Arc) → option_map (λ (c : Cut). c.arc) o ≡ Some b → option_map (λ (c : Cut). c.arc) (option_map (recut_one g a) o) ≡ Some a
recut_same g a h q None named b e = absurd (none-some b e)
recut_same g a h q (Some c) named b e = ap (λ (x : Cut). Some x.arc) (cond-true (is_cut_of g c) (record c { arc = a }) c (same_name c.group g (named c refl ∙ q)))

recut_other : (g : Draw) (a : Arc) (h : Draw) → (h ≡ g → ⊥) → (o : Option Cut) → ((c : Cut) → o ≡ Some c → c.group ≡ h) → option_map (λ (c : Cut). c.arc) (option_map (recut_one g a) o) ≡ option_map (λ (c : Cut). c.arc) o
recut_other g a h ne None named = refl
recut_other g a h ne (Some c) named = ap (λ (x : Cut). Some x.arc) (cond-false (is_cut_of g c) (record c { arc = a }) c (other_name c.group g (λ q. ne (sym (named c refl) ∙ q))))

-- a group that has a cut gets another arc
pub recut_is : (g : Draw) (a b : Arc) (ring : List Cut) → arc_in g ring ≡ Some b → (h : Draw) → arc_in h (recut g a ring) ≡ put (arcs_in ring) g (Some a) h
recut_is g a b ring fact h =
    ap (option_map (λ (c : Cut). c.arc)) (find_map (is_cut_of h) (recut_one g a) (recut_name g a h) ring)
    ∙ elim (draw_cases h g) as (λ _. option_map (λ (c : Cut). c.arc) (option_map (recut_one g a) (find (is_cut_of h) ring)) ≡ put (arcs_in ring) g (Some a) h) [
      | inl q ↦ recut_same g a h q (find (is_cut_of h) ring) (λ c e. cut_named h ring c e) b (ap (arcs_in ring) q ∙ fact) ∙ sym (at-is (arcs_in ring) g (Some a) h q)
      | inr ne ↦ recut_other g a h ne (find (is_cut_of h) ring) (λ c e. cut_named h ring c e) ∙ sym (at-other (arcs_in ring) g (Some a) h ne)
    ]

-- ---- a group's cut taken out

abbrev without : Draw → List Cut → List Cut
without p ring = filter (λ cut. not (is_cut_of p cut)) ring

out_same : (p h : Draw) → h ≡ p → (ring : List Cut) → find (is_cut_of h) (without p ring) ≡ None
out_same p h q [] = refl
out_same p h q (c ∷ cs) = elim (cases_Bool (is_cut_of p c)) [
  | inl t ↦ ap (λ b. find (is_cut_of h) (cond (not b) (c ∷ without p cs) (without p cs))) t ∙ out_same p h q cs
  | inr t ↦ ap (λ b. find (is_cut_of h) (cond (not b) (c ∷ without p cs) (without p cs))) t ∙ find_skips (is_cut_of h) c (without p cs) (ap (λ n. is_cut_of n c) q ∙ t) ∙ out_same p h q cs
]

out_other : (p h : Draw) → (h ≡ p → ⊥) → (ring : List Cut) → find (is_cut_of h) (without p ring) ≡ find (is_cut_of h) ring
out_other p h ne [] = refl
out_other p h ne (c ∷ cs) = elim (cases_Bool (is_cut_of p c)) [
  | inl t ↦ ap (λ b. find (is_cut_of h) (cond (not b) (c ∷ without p cs) (without p cs))) t ∙ out_other p h ne cs
      ∙ sym (find_skips (is_cut_of h) c cs (other_name c.group h (λ q. ne (sym q ∙ draw_is c.group p t))))
  | inr t ↦ ap (λ b. find (is_cut_of h) (cond (not b) (c ∷ without p cs) (without p cs))) t ∙ ap (cond (is_cut_of h c) (Some c)) (out_other p h ne cs)
]

pub without_is : (p : Draw) (ring : List Cut) (h : Draw) → arc_in h (filter (λ cut. not (is_cut_of p cut)) ring) ≡ put (arcs_in ring) p None h
without_is p ring h =
    elim (draw_cases h p) [
      | inl q ↦ ap (option_map (λ (c : Cut). c.arc)) (out_same p h q ring) ∙ sym (at-is (arcs_in ring) p None h q)
      | inr ne ↦ ap (option_map (λ (c : Cut). c.arc)) (out_other p h ne ring) ∙ sym (at-other (arcs_in ring) p None h ne)
    ]

-- ---- a division

module _ (g : Draw) (d : Division) where
  abbrev flat : List Cut → List Cut
  flat = flat_map (parts_of g d)

  abbrev first_part : Cut → Cut
  first_part cut = record cut { arc = before cut.arc d.at }

  abbrev second_part : Cut → Cut
  second_part cut = record { arc = from cut.arc d.at; group = d.child }

  flat_mine : (c : Cut) (cs : List Cut) → is_cut_of g c ≡ true → flat (c ∷ cs) ≡ first_part c ∷ second_part c ∷ flat cs
  flat_mine c cs t = ap (λ b. cond b (first_part c ∷ second_part c ∷ []) (c ∷ []) ++ flat cs) t

  flat_else : (c : Cut) (cs : List Cut) → is_cut_of g c ≡ false → flat (c ∷ cs) ≡ c ∷ flat cs
  flat_else c cs t = ap (λ b. cond b (first_part c ∷ second_part c ∷ []) (c ∷ []) ++ flat cs) t

  divided_other : (h : Draw) → (h ≡ g → ⊥) → (h ≡ d.child → ⊥) → (ring : List Cut) → find (is_cut_of h) (flat ring) ≡ find (is_cut_of h) ring
  divided_other h ng nc [] = refl
  divided_other h ng nc (c ∷ cs) = elim (cases_Bool (is_cut_of g c)) [
    | inl t ↦ (
        let away : is_cut_of h c ≡ false = other_name c.group h (λ q. ng (sym q ∙ draw_is c.group g t)) in
        ap (find (is_cut_of h)) (flat_mine c cs t)
        ∙ find_skips (is_cut_of h) (first_part c) (second_part c ∷ flat cs) away
        ∙ find_skips (is_cut_of h) (second_part c) (flat cs) (other_name d.child h (λ q. nc (sym q)))
        ∙ divided_other h ng nc cs ∙ sym (find_skips (is_cut_of h) c cs away))
    | inr t ↦ ap (find (is_cut_of h)) (flat_else c cs t) ∙ ap (cond (is_cut_of h c) (Some c)) (divided_other h ng nc cs)
  ]

  divided_first : (ring : List Cut) (arc : Arc) → arc_in g ring ≡ Some arc → arc_in g (flat ring) ≡ Some (before arc d.at)
  divided_first [] arc e = absurd (none-some arc e)
  divided_first (c ∷ cs) arc e = elim (cases_Bool (is_cut_of g c)) [
    | inl t ↦ (
        let found : c.arc ≡ arc = same_Some c.arc arc (sym (ap (option_map (λ (x : Cut). x.arc)) (find_first (is_cut_of g) c cs t)) ∙ e) in
        ap (λ l. arc_in g l) (flat_mine c cs t) ∙ ap (option_map (λ (x : Cut). x.arc)) (find_first (is_cut_of g) (first_part c) (second_part c ∷ flat cs) t)
        ∙ ap (λ a. Some (before a d.at)) found)
    | inr t ↦ ap (λ l. arc_in g l) (flat_else c cs t) ∙ ap (option_map (λ (x : Cut). x.arc)) (find_skips (is_cut_of g) c (flat cs) t)
        ∙ divided_first cs arc (sym (ap (option_map (λ (x : Cut). x.arc)) (find_skips (is_cut_of g) c cs t)) ∙ e)
  ]

  divided_second : (g ≡ d.child → ⊥) → (ring : List Cut) (arc : Arc) → arc_in g ring ≡ Some arc → find (is_cut_of d.child) ring ≡ None → arc_in d.child (flat ring) ≡ Some (from arc d.at)
  divided_second gc [] arc e none = absurd (none-some arc e)
  divided_second gc (c ∷ cs) arc e none = elim (cases_Bool (is_cut_of g c)) [
    | inl t ↦ (
        let found : c.arc ≡ arc = same_Some c.arc arc (sym (ap (option_map (λ (x : Cut). x.arc)) (find_first (is_cut_of g) c cs t)) ∙ e) in
        ap (λ l. arc_in d.child l) (flat_mine c cs t)
        ∙ ap (option_map (λ (x : Cut). x.arc)) (find_skips (is_cut_of d.child) (first_part c) (second_part c ∷ flat cs) (other_name c.group d.child (λ q. gc (sym (draw_is c.group g t) ∙ q))))
        ∙ ap (option_map (λ (x : Cut). x.arc)) (find_first (is_cut_of d.child) (second_part c) (flat cs) (same_name d.child d.child refl))
        ∙ ap (λ a. Some (from a d.at)) found)
    | inr t ↦ elim (cases_Bool (is_cut_of d.child c)) [
      | inl u ↦ absurd (some_none c (sym (find_first (is_cut_of d.child) c cs u) ∙ none))
      | inr u ↦ ap (λ l. arc_in d.child l) (flat_else c cs t) ∙ ap (option_map (λ (x : Cut). x.arc)) (find_skips (is_cut_of d.child) c (flat cs) u)
          ∙ divided_second gc cs arc (sym (ap (option_map (λ (x : Cut). x.arc)) (find_skips (is_cut_of g) c cs t)) ∙ e) (sym (find_skips (is_cut_of d.child) c cs u) ∙ none)
    ]
  ]

  pub divided_is : (g ≡ d.child → ⊥) → (ring : List Cut) (arc : Arc) → arc_in g ring ≡ Some arc → find (is_cut_of d.child) ring ≡ None → (h : Draw)
      → arc_in h (flat_map (parts_of g d) ring) ≡ put (put (arcs_in ring) g (Some (before arc d.at))) d.child (Some (from arc d.at)) h
  divided_is gc ring arc fact none h =
      let mid = put (arcs_in ring) g (Some (before arc d.at)) in
      elim (draw_cases h d.child) [
        | inl q ↦ ap (arcs_in (flat ring)) q ∙ divided_second gc ring arc fact none ∙ sym (at-is mid d.child (Some (from arc d.at)) h q)
        | inr nc ↦ elim (draw_cases h g) as (λ _. arc_in h (flat ring) ≡ put mid d.child (Some (from arc d.at)) h) [
          | inl q ↦ ap (arcs_in (flat ring)) q ∙ divided_first ring arc fact ∙ sym (at-is (arcs_in ring) g (Some (before arc d.at)) h q) ∙ sym (at-other mid d.child (Some (from arc d.at)) h nc)
          | inr ng ↦ ap (option_map (λ (x : Cut). x.arc)) (divided_other h ng nc ring) ∙ sym (at-other (arcs_in ring) g (Some (before arc d.at)) h ng) ∙ sym (at-other mid d.child (Some (from arc d.at)) h nc)
        ]
      ]

  -- ---- no group has two cuts

  each_flat : (n : Draw) → (n ≡ d.child → ⊥) → (cs : List Cut) → Each (λ o. n ≢ o.group) cs → Each (λ o. n ≢ o.group) (flat cs)
  each_flat n nc [] h = tt
  each_flat n nc (c ∷ cs) h = elim (cases_Bool (is_cut_of g c)) [
    | inl t ↦ subst (Each (λ (o : Cut). n ≢ o.group)) (sym (flat_mine c cs t)) (h.0, (nc, each_flat n nc cs h.1))
    | inr t ↦ subst (Each (λ (o : Cut). n ≢ o.group)) (sym (flat_else c cs t)) (h.0, each_flat n nc cs h.1)
  ]

  pub flat_none : (cs : List Cut) → Each (λ o. g ≢ o.group) cs → flat cs ≡ cs
  flat_none [] h = refl
  flat_none (c ∷ cs) h = flat_else c cs (other_name c.group g (λ q. h.0 (sym q))) ∙ ap (λ l. c ∷ l) (flat_none cs h.1)

  pub none_each : (n : Draw) (cs : List Cut) → find (is_cut_of n) cs ≡ None → Each (λ o. n ≢ o.group) cs
  none_each n [] e = tt
  none_each n (c ∷ cs) e = elim (cases_Bool (is_cut_of n c)) [
    | inl t ↦ absurd (some_none c (sym (find_first (is_cut_of n) c cs t) ∙ e))
    | inr t ↦ (λ q. (let u = sym (same_name c.group n (sym q)) ∙ t in absurd (let f : true ≡ false = u in cc)), none_each n cs (sym (find_skips (is_cut_of n) c cs t) ∙ e))
  ]

  pub apart_divided : (g ≡ d.child → ⊥) → (ring : List Cut) → find (is_cut_of d.child) ring ≡ None → Pairwise (λ (c o : Cut). c.group ≢ o.group) ring → Pairwise (λ (c o : Cut). c.group ≢ o.group) (flat_map (parts_of g d) ring)
  apart_divided gc [] none h = tt
  apart_divided gc (c ∷ cs) none h = elim (cases_Bool (is_cut_of g c)) [
    | inl t ↦ (
        let named = draw_is c.group g t in
        let rest : Each (λ (o : Cut). g ≢ o.group) cs = subst (λ n. Each (λ (o : Cut). n ≢ o.group) cs) named h.0 in
        let skip : is_cut_of d.child c ≡ false = other_name c.group d.child (λ q. gc (sym named ∙ q)) in
        let kids = none_each d.child cs (sym (find_skips (is_cut_of d.child) c cs skip) ∙ none) in
        subst (Pairwise (λ (x o : Cut). x.group ≢ o.group)) (sym (flat_mine c cs t ∙ ap (λ l. first_part c ∷ second_part c ∷ l) (flat_none cs rest)))
        (((λ q. gc (sym named ∙ q)), h.0), (kids, h.1)))
    | inr t ↦ elim (cases_Bool (is_cut_of d.child c)) [
      | inl u ↦ absurd (some_none c (sym (find_first (is_cut_of d.child) c cs u) ∙ none))
      | inr u ↦ subst (Pairwise (λ (x o : Cut). x.group ≢ o.group)) (sym (flat_else c cs t))
          (each_flat c.group (λ q. (let v = sym (same_name c.group d.child q) ∙ u in absurd (let f : true ≡ false = v in cc))) cs h.0, apart_divided gc cs (sym (find_skips (is_cut_of d.child) c cs u) ∙ none) h.1)
    ]
  ]

recut_group : (g : Draw) (a : Arc) (c : Cut) → (recut_one g a c).group ≡ c.group
recut_group g a c = cond_both (is_cut_of g c) (record c { arc = a }) c (λ (x : Cut). x.group ≡ c.group) (λ e. refl) (λ e. refl)

pub apart_recut : (g : Draw) (a : Arc) (ring : List Cut) → Pairwise (λ (c o : Cut). c.group ≢ o.group) ring → Pairwise (λ (c o : Cut). c.group ≢ o.group) (recut g a ring)
apart_recut g a [] h = tt
apart_recut g a (c ∷ cs) h = (
  subst (λ n. Each (λ (o : Cut). n ≢ o.group) (recut g a cs)) (sym (recut_group g a c))
      (each_map (λ (o : Cut). c.group ≢ o.group) (recut_one g a) (λ x ne q. ne (q ∙ recut_group g a x)) cs h.0),
  apart_recut g a cs h.1,
)

-- ---- cuts and arcs

pub arc_of_cut : (ring : List Cut) → Pairwise (λ (c o : Cut). c.group ≢ o.group) ring → (c : Cut) → Among c ring → arc_in c.group ring ≡ Some c.arc
arc_of_cut [] h c a = absurd a
arc_of_cut (x ∷ ring) h c (inl e) = ap (option_map (λ (k : Cut). k.arc)) (find_first (is_cut_of c.group) x ring (same_name x.group c.group (ap (λ (k : Cut). k.group) e))) ∙ ap (λ (k : Cut). Some k.arc) e
arc_of_cut (x ∷ ring) h c (inr a) =
    ap (option_map (λ (k : Cut). k.arc)) (find_skips (is_cut_of c.group) x ring (other_name x.group c.group (Each-among (λ (o : Cut). x.group ≢ o.group) ring c h.0 a)))
    ∙ arc_of_cut ring h.1 c a

-- the cut of a group that has an arc
pub record HasCut (ring : List Cut) (g : Draw) (a : Arc) : Type 0 where
  pub cut : Cut
  pub there : Among cut ring
  pub group : cut.group ≡ g
  pub arc : cut.arc ≡ a

has_cut : (ring : List Cut) (g : Draw) (a : Arc) (o : Option Cut) → find (is_cut_of g) ring ≡ o → option_map (λ (k : Cut). k.arc) o ≡ Some a → HasCut ring g a
has_cut ring g a None f e = absurd (none-some a e)
has_cut ring g a (Some c) f e = record { cut = c; there = (find_found (is_cut_of g) ring c f).0; group = cut_named g ring c f; arc = same_Some c.arc a e }

pub cut_of_arc : (ring : List Cut) (g : Draw) (a : Arc) → arc_in g ring ≡ Some a → HasCut ring g a
cut_of_arc ring g a e = has_cut ring g a (find (is_cut_of g) ring) refl e

-- no cut where there is no arc
no_cut_by : (o : Option Cut) → option_map (λ (k : Cut). k.arc) o ≡ None → o ≡ None
no_cut_by None e = refl
no_cut_by (Some c) e = absurd (let f : Some c.arc ≡ None = e in cc)

pub no_cut : (ring : List Cut) (g : Draw) → arc_in g ring ≡ None → find (is_cut_of g) ring ≡ None
no_cut ring g e = no_cut_by (find (is_cut_of g) ring) e
