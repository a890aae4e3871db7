-- The groups of a scenario are such a world.
use Rattle.std.specs.Prelude.{map}
use Rattle.std.specs.Option.{option_map}
use Rattle.std.proofs.Common.{◌≡◌, ◌≢◌, ℕ, ◌+◌, ◌-◌, ◌%◌, ◌^◌, ◌<◌, ◌≤◌, List, [], ◌∷◌, inl, inr, Option, Some, None, refl, sym, ◌∙◌, ap, subst, arith}
use Rattle.std.proofs.lemmas.Bool.{cases_Bool, ltb-true, lt-ltb}
use Rattle.std.specs.FinMap.{empty, get, get-empty}
use Rattle.std.specs.Ordering.{nat_cmp}
use Rattle.std.specs.Cmp.Lexicographic.{slice_cmp}
use Rattle.sc_base.specs.Definitions.{Among, Arc, end_of, offset, same_draw}
use Rattle.sc_base.specs.declared.names.Draw.{Draw}
use Rattle.sc_base.proofs.Lemmas.{same_name}
use Rattle.sc_words.specs.ideal.IdealDefinitions.{with_pairs}
use Rattle.sc_words.specs.declared.commands.cores.Base.{Base}
use Rattle.sc_group_table.specs.machine.MachineDefinitions.{Group, group_of}
use Rattle.sc_meaning.specs.declared.entries.Cut.{Cut}
use Rattle.sc_meaning.specs.entries.EntryDefinitions.{Covers, is_cut_of, arc_in, first_cut, is_named, named_group}
use Rattle.sc_law_entries.specs.ring.RingDefinitions.{Sources, first_recorded, no_stories, Groups, LockOk, Facts, BeginInPlace, BeginsInPlace}
use Rattle.sc_meaning.proofs.EntriesProofs.EntryLemmas.{other_name, found_name}
use Rattle.sc_law_entries.proofs.RingProofs.View.{IsOnRing, Holds, HeldBy, Ring, CoversBy, View, IsLinked}
use Rattle.sc_paxos_law.proofs.Lemmas.{from_map}
use Rattle.sc_words.proofs.PaxosProofs.PaxosLemmas.{Each-among, Each-from, find_found}
use Rattle.sc_law_entries.proofs.RingProofs.Finds.{find_first, find_skips, map_among, Pairwise, pairwise_from}
use Rattle.sc_law_entries.proofs.RingProofs.CutLookups.{arcs_in, cut_of_arc, arc_of_cut}
use Rattle.sc_law_entries.proofs.RingProofs.Effects.{decisions, eff, arc_of, succ_of, pred_of, view_of, IsInside, Good, Old, eff_free}
use Rattle.sc_law_entries.proofs.RingProofs.Insides.{holds_first}
use Rattle.sc_law_entries.proofs.RingProofs.GroupsInLists.{groups_in}
use Rattle.sc_law_entries.proofs.RingProofs.RequestsAndOrders.{same_fun}
use Rattle.sc_law_entries.proofs.RingProofs.Rings.{AreApart}
use Rattle.sc_law_entries.proofs.RingProofs.Worlds.{KeptWorld}
use Rattle.std.proofs.lemmas.Option.{none-some, same_Some}

-- ---- the list of cuts covers where the ring by names does

-- an arc's last position, by where it ends
abbrev last_at : ℕ → ℕ
last_at end = (end + (2 ^ 32 - 1)) % 2 ^ 32

last_fits : (end : ℕ) → last_at end < 2 ^ 32
last_fits end = omega arith

far_last : (lo len : ℕ) → lo < 2 ^ 32 → 0 < len → len ≤ 2 ^ 32 → ((((lo + len) % 2 ^ 32 + (2 ^ 32 - 1)) % 2 ^ 32 + 2 ^ 32) - lo) % 2 ^ 32 < len
far_last lo len a b c = omega arith

holds_last : (arc : Arc) → IsOnRing arc → Holds arc (last_at (end_of arc))
holds_last arc a = far_last arc.lo arc.len a.lo_fits a.some a.len_fits

-- an arc of a list that covers
on_ring : (ring : List Cut) → Covers ring → (g : Draw) (a : Arc) → arc_in g ring ≡ Some a → IsOnRing a
on_ring ring c g a e =
    let k = cut_of_arc ring g a e in
    let r = c.arcs k.cut k.there in
    subst IsOnRing k.arc (record { lo_fits = r.1; some = r.0.some; len_fits = r.0.most })

held_is : (o : Option Arc) (a : Arc) (p : ℕ) → o ≡ Some a → Holds a p → HeldBy o p
held_is o a p e h = subst (λ x. HeldBy x p) (sym e) h

-- who holds a position has an arc
pub is_held : (o : Option Arc) (p : ℕ) → HeldBy o p → (a : Arc) × (o ≡ Some a) × Holds a p
is_held None p h = absurd h
is_held (Some a) p h = (a, refl, h)

pub covers_by : (ring : List Cut) → AreApart ring → Covers ring → CoversBy (arcs_in ring)
covers_by ring apart c = record {
  arcs = λ g a e. on_ring ring c g a e;
  owner = λ p q. (
      let o = c.some p q in
      (o.0.group, held_is (arc_in o.0.group ring) o.0.arc p (arc_of_cut ring apart o.0 o.1) (ltb-true (offset o.0.arc p) o.0.arc.len o.2)));
  only = λ p g h q x y. (
      let a = is_held (arc_in g ring) p x in
      let b = is_held (arc_in h ring) p y in
      let k = cut_of_arc ring g a.0 a.1 in
      let l = cut_of_arc ring h b.0 b.1 in
      let same = c.only p q k.cut l.cut k.there l.there
      (lt-ltb (offset k.cut.arc p) k.cut.arc.len (subst (λ z. Holds z p) (sym k.arc) a.2))
      (lt-ltb (offset l.cut.arc p) l.cut.arc.len (subst (λ z. Holds z p) (sym l.arc) b.2)) in
      sym k.group ∙ ap (λ (z : Cut). z.group) same ∙ l.group);
}

-- ---- names

pairwise_back : (bases : List Base) → Pairwise (λ (c o : Cut). c.group ≢ o.group) (map first_cut bases) → Pairwise (λ (a b : Base). a.core.id ≢ b.core.id) bases
pairwise_back [] k = tt
pairwise_back (base ∷ bases) k = (
  Each-from (λ (b : Base). base.core.id ≢ b.core.id) bases (λ b a. Each-among (λ (o : Cut). base.core.id ≢ o.group) (map first_cut bases) (first_cut b) k.0 (map_among first_cut bases b a)),
  pairwise_back bases k.1,
)

-- each group of the scenario is found by its name
base_found : (bases : List Base) → Pairwise (λ (a b : Base). a.core.id ≢ b.core.id) bases → (b : Base) → Among b bases → named_group b.core.id (map group_of bases) ≡ Some (group_of b)
base_found [] k b a = absurd a
base_found (x ∷ bases) k b (inl e) =
    find_first (is_named b.core.id) (group_of x) (map group_of bases) (same_name x.core.id b.core.id (ap (λ (z : Base). z.core.id) e)) ∙ ap (λ (z : Base). Some (group_of z)) e
base_found (x ∷ bases) k b (inr a) =
    find_skips (is_named b.core.id) (group_of x) (map group_of bases) (other_name x.core.id b.core.id (Each-among (λ (o : Base). x.core.id ≢ o.core.id) bases b k.0 a)) ∙ base_found bases k.1 b a

-- a group that is found is one of the scenario's
pub record IsBase (bases : List Base) (u : Group) : Type 0 where
  pub base : Base
  pub there : Among base bases
  pub fact : group_of base ≡ u

found_base : (bases : List Base) (h : Draw) (u : Group) → named_group h (map group_of bases) ≡ Some u → IsBase bases u
found_base bases h u e =
    let r = from_map group_of bases u (find_found (is_named h) (map group_of bases) u e).0 in
    record { base = r.0; there = r.1; fact = r.2 }

-- the cuts have the groups' arcs
cut_arc : (h : Draw) (bases : List Base) → arc_in h (map first_cut bases) ≡ arc_of (named_group h (map group_of bases))
cut_arc h [] = refl
cut_arc h (b ∷ bases) = elim (cases_Bool (same_draw b.core.id h)) [
  | inl t ↦ ap (option_map (λ (c : Cut). c.arc)) (find_first (is_cut_of h) (first_cut b) (map first_cut bases) t) ∙ sym (ap arc_of (find_first (is_named h) (group_of b) (map group_of bases) t))
  | inr t ↦ ap (option_map (λ (c : Cut). c.arc)) (find_skips (is_cut_of h) (first_cut b) (map first_cut bases) t) ∙ cut_arc h bases ∙ sym (ap arc_of (find_skips (is_named h) (group_of b) (map group_of bases) t))
]

-- who has an arc is there
pub arc_some : (o : Option Group) (a : Arc) → arc_of o ≡ Some a → (u : Group) × (o ≡ Some u) × (u.core.arc ≡ a)
arc_some None a e = absurd (none-some a e)
arc_some (Some u) a e = (u, refl, same_Some u.core.arc a e)

-- ---- the start

module _ (sources : Sources) (bases : List Base) (start : BeginInPlace sources bases) where
  abbrev ring : List Cut
  ring = map first_cut bases

  abbrev gs : Groups
  gs = groups_in (map group_of bases)

  apart : AreApart ring
  apart = pairwise_from (λ (c o : Cut). c.group ≢ o.group) ring start.covers.apart

  ids : Pairwise (λ (a b : Base). a.core.id ≢ b.core.id) bases
  ids = pairwise_back bases apart

  -- what a group that is found is
  is_first : (h : Draw) (u : Group) → gs h ≡ Some u → (k : IsBase bases u) × BeginsInPlace sources bases k.base
  is_first h u e = let k = found_base bases h u e in (k, start.first k.base k.there)

  same_eff : (h : Draw) (o : Option Group) → gs h ≡ o → eff (decisions no_stories) o ≡ o
  same_eff h None e = refl
  same_eff h (Some u) e =
      let r = is_first h u e in
      eff_free (decisions no_stories) u (ap (λ (x : Group). x.core.gone) (sym r.0.fact) ∙ r.1.here) (ap (λ (x : Group). x.core.lock) (sym r.0.fact) ∙ r.1.free)

  records : Old gs no_stories ≡ gs
  records = same_fun (Old gs no_stories) gs (λ h. same_eff h (gs h) refl)

  covers : CoversBy (arcs_in ring)
  covers = covers_by ring apart start.covers

  abbrev v : View
  v = view_of gs

  arcs : arcs_in ring ≡ v.arc
  arcs = same_fun (arcs_in ring) v.arc (λ h. cut_arc h bases)

  cover : CoversBy v.arc
  cover = subst CoversBy arcs covers

  -- the arc of a group of the scenario
  base_arc : (b : Base) → Among b bases → v.arc b.core.id ≡ Some b.core.arc
  base_arc b a = ap arc_of (base_found bases ids b a)

  base_next : (b : Base) → Among b bases → v.next b.core.id ≡ b.core.succ.group
  base_next b a = ap succ_of (base_found bases ids b a)

  base_prev : (b : Base) → Among b bases → v.prev b.core.id ≡ b.core.pred.group
  base_prev b a = ap pred_of (base_found bases ids b a)

  base_on : (b : Base) → Among b bases → IsOnRing b.core.arc
  base_on b a = cover.arcs b.core.id b.core.arc (base_arc b a)

  -- groups whose arcs begin, or end, at one place are one
  one_begin : (a b : Base) → Among a bases → Among b bases → a.core.arc.lo ≡ b.core.arc.lo → a.core.id ≡ b.core.id
  one_begin a b x y e =
      cover.only a.core.arc.lo a.core.id b.core.id (base_on a x).lo_fits
      (held_is (v.arc a.core.id) a.core.arc a.core.arc.lo (base_arc a x) (holds_first a.core.arc (base_on a x)))
      (held_is (v.arc b.core.id) b.core.arc a.core.arc.lo (base_arc b y) (subst (Holds b.core.arc) (sym e) (holds_first b.core.arc (base_on b y))))

  one_end : (a b : Base) → Among a bases → Among b bases → end_of a.core.arc ≡ end_of b.core.arc → a.core.id ≡ b.core.id
  one_end a b x y e =
      cover.only (last_at (end_of a.core.arc)) a.core.id b.core.id (last_fits (end_of a.core.arc))
      (held_is (v.arc a.core.id) a.core.arc (last_at (end_of a.core.arc)) (base_arc a x) (holds_last a.core.arc (base_on a x)))
      (held_is (v.arc b.core.id) b.core.arc (last_at (end_of a.core.arc)) (base_arc b y) (subst (λ n. Holds b.core.arc (last_at n)) (sym e) (holds_last b.core.arc (base_on b y))))

  -- the group of an arc
  base_of : (g : Draw) (a : Arc) → v.arc g ≡ Some a → (b : Base) × Among b bases × (b.core.id ≡ g) × (b.core.arc ≡ a)
  base_of g a e =
      let r = arc_some (gs g) a e in
      let k = found_base bases g r.0 r.1 in
      (k.base, k.there, ap (λ (x : Group). x.core.id) k.fact ∙ found_name g (map group_of bases) r.0 r.1, ap (λ (x : Group). x.core.arc) k.fact ∙ r.2)

  linked : IsLinked v
  linked = record {
    meets = λ g a e. (
        let b = base_of g a e in
        let s = (start.first b.0 b.1).between.succ in
        (s.0.core.arc, ap (λ n. v.arc (v.next n)) (sym b.2) ∙ ap v.arc (base_next b.0 b.1 ∙ s.3) ∙ base_arc s.0 s.1, s.2 ∙ ap end_of b.3));
    back = λ g a e. (
        let b = base_of g a e in
        let s = (start.first b.0 b.1).between.succ in
        let p = (start.first s.0 s.1).between.pred in
        ap (λ n. v.prev (v.next n)) (sym b.2) ∙ ap v.prev (base_next b.0 b.1 ∙ s.3) ∙ base_prev s.0 s.1 ∙ p.3 ∙ one_end p.0 b.0 p.1 b.1 (sym p.2 ∙ s.2) ∙ b.2);
    behind = λ g a e. (
        let b = base_of g a e in
        let p = (start.first b.0 b.1).between.pred in
        (p.0.core.arc, ap (λ n. v.arc (v.prev n)) (sym b.2) ∙ ap v.arc (base_prev b.0 b.1 ∙ p.3) ∙ base_arc p.0 p.1));
    forth = λ g a e. (
        let b = base_of g a e in
        let p = (start.first b.0 b.1).between.pred in
        let s = (start.first p.0 p.1).between.succ in
        ap (λ n. v.next (v.prev n)) (sym b.2) ∙ ap v.next (base_prev b.0 b.1 ∙ p.3) ∙ base_next p.0 p.1 ∙ s.3 ∙ one_begin s.0 b.0 s.1 b.1 (s.2 ∙ sym p.2) ∙ b.2);
  }

  empty_inside : (b : Base) → b.pairs ≡ [] → IsInside (group_of b)
  empty_inside b e key out = ap (λ l. get (with_pairs empty l) key) e ∙ get-empty (slice_cmp nat_cmp) key

  good : Good (arcs_in ring) (Old gs no_stories)
  good = subst (Good (arcs_in ring)) (sym records) (
    (cover, linked),
    λ h u e. (let r = is_first h u e in subst IsInside r.0.fact (empty_inside r.0.base r.1.empty)),
    λ h. ap (λ (f : Ring). f h) arcs,
  )

  facts : Facts sources.owner gs no_stories
  facts = record {
    group = λ h u e. (let r = is_first h u e in record {
      named = found_name h (map group_of bases) u e;
      lock_ok = subst (LockOk no_stories h u) (sym (ap (λ (x : Group). x.core.lock) (sym r.0.fact) ∙ r.1.free)) tt;
    });
    story = λ tx y e. absurd (none-some y e);
    origin = λ h u e. (let r = is_first h u e in inl (ap sources.owner (sym (found_name h (map group_of bases) u e) ∙ ap (λ (x : Group). x.core.id) (sym r.0.fact)) ∙ r.1.unowned));
  }

  pub at_start : KeptWorld sources.owner (first_recorded bases)
  at_start = record {
    kept = (facts, good);
    found = λ u a. (let r = from_map group_of bases u a in
        ap (λ (x : Group). named_group x.core.id (map group_of bases)) (sym r.2) ∙ base_found bases ids r.0 r.1 ∙ ap Some r.2);
    apart = apart;
    recorded = λ tx. refl;
  }
