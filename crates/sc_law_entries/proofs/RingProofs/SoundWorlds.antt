-- What is read off a world that allowed entries made.
use Rattle.std.specs.Prelude.{is_none, ◌&&◌, IsTrue}
use Rattle.std.specs.Option.{option_map}
use Rattle.std.proofs.Common.{◌≡◌, ◌≢◌, ℕ, true, false, List, [], ◌∷◌, inl, inr, Option, Some, None, refl, sym, ◌∙◌, ap, subst}
use Rattle.std.proofs.lemmas.Bool.{and_parts, ltb-true, lt-ltb}
use Rattle.sc_base.specs.Definitions.{Among, Arc, end_of, offset, holds}
use Rattle.sc_base.specs.declared.names.Draw.{Draw}
use Rattle.sc_words.specs.ideal.IdealDefinitions.{holds_key}
use Rattle.sc_words.specs.declared.commands.commands.Command.{Command}
use Rattle.sc_words.specs.declared.commands.commands.Command.TheVariants.{Split, Begin}
use Rattle.sc_words.specs.declared.commands.cores.Lock.{Lock}
use Rattle.sc_words.specs.declared.commands.cores.Lock.TheVariants.{Free, Coordinating, Promised, Watching}
use Rattle.sc_words.specs.declared.commands.links.Route.{Route}
use Rattle.sc_group_table.specs.machine.MachineDefinitions.{Group}
use Rattle.sc_meaning.specs.declared.entries.Cut.{Cut}
use Rattle.sc_meaning.specs.declared.entries.LogEntry.{LogEntry}
use Rattle.sc_meaning.specs.declared.entries.Transaction.{Transaction}
use Rattle.sc_meaning.specs.entries.EntryDefinitions.{after_outcome, effective_by, effective, is_open, serves, Covers, arc_in, StoreWorld, named_group, world_after, IsPlaced}
use Rattle.sc_law_entries.specs.ring.RingDefinitions.{Sources, IsAllowed, AreAllowed, StoryWorld, first_recorded, recorded_next, recorded_after, Stories, Facts, IsRingSound, EntriesKeepTheRing, EntriesKeepThePromises, DrawsAreOfOneLog, draw_of, AllowedListsAppend}
use Rattle.sc_law_entries.proofs.RingProofs.View.{Holds, HeldBy, CoversBy}
use Rattle.sc_law_entries.proofs.RingProofs.Finds.{all_pairs}
use Rattle.sc_law_entries.proofs.RingProofs.CutLookups.{arcs_in, cut_of_arc, arc_of_cut}
use Rattle.sc_law_entries.proofs.RingProofs.EntryKinds.{IsOpen}
use Rattle.sc_law_entries.proofs.RingProofs.Effects.{decisions, settle_by, living_by, eff, arc_of, succ_of, pred_of, view_of, Old}
use Rattle.sc_law_entries.proofs.RingProofs.RequestsAndOrders.{same_fun, serving}
use Rattle.sc_law_entries.proofs.RingProofs.GroupsInLists.{groups_in, Agree, decision_is}
use Rattle.sc_law_entries.proofs.RingProofs.Worlds.{KeptWorld, kept_after}
use Rattle.sc_law_entries.proofs.RingProofs.Start.{at_start, is_held, arc_some}
use Rattle.std.proofs.lemmas.Option.{none-some, same_Some}

-- ---- effective records

effective_is : (l : Lock) (ts : List Transaction) (ys : Stories) (u : Group) → Agree ts ys → effective_by l ts u ≡ settle_by l (decisions ys) u
effective_is Free ts ys u k = refl
effective_is (Coordinating tx body order heard) ts ys u k = refl
effective_is (Promised tx offer) ts ys u k = ap (λ o. after_outcome o tx u) (decision_is ts ys k tx)
effective_is (Watching tx watch) ts ys u k = ap (λ o. after_outcome o tx u) (decision_is ts ys k tx)

living_was : (went : Option Route) (x e : Group) → living_by went x ≡ Some e → (x ≡ e) × (went ≡ None)
living_was None x e q = (same_Some x e q, refl)
living_was (Some into) x e q = absurd (none-some e q)

-- a record that has an arc
pub record HasRecord (w : StoryWorld) (g : Draw) (a : Arc) : Type 0 where
  pub group : Group
  pub fact : effective w.store g ≡ Some group
  pub here : group.core.gone ≡ None
  pub arc : group.core.arc ≡ a
  pub old : Old (groups_in w.store.groups) w.stories g ≡ Some group

eff_has : (w : StoryWorld) (g : Draw) (a : Arc) (e : Group) → Agree w.store.transactions w.stories → e.core.arc ≡ a → (o : Option Group) → named_group g w.store.groups ≡ o → eff (decisions w.stories) o ≡ Some e → HasRecord w g a
eff_has w g a e k arc None fact q = absurd (none-some e q)
eff_has w g a e k arc (Some u) fact q =
    let x = settle_by u.core.lock (decisions w.stories) u in
    let r = living_was x.core.gone x e q in
    record {
      group = e;
      fact = ap (option_map (λ (z : Group). effective_by z.core.lock w.store.transactions z)) fact ∙ ap Some (effective_is u.core.lock w.store.transactions w.stories u k ∙ r.0);
      here = ap (λ (z : Group). z.core.gone) (sym r.0) ∙ r.1;
      arc = arc;
      old = ap (eff (decisions w.stories)) fact ∙ q;
    }

-- two cuts with one arc and one group are one
cuts_equal : (a b : Cut) → a.arc ≡ b.arc → a.group ≡ b.group → a ≡ b
cuts_equal a b e q = λ i. record { arc = e i; group = q i }

serves_open : (l : Lock) → is_open l ≡ true → IsOpen l
serves_open Free e = inl refl
serves_open (Coordinating tx body order heard) e = absurd (let f : false ≡ true = e in cc)
serves_open (Promised tx offer) e = absurd (let f : false ≡ true = e in cc)
serves_open (Watching tx watch) e = inr (tx, watch, refl)

not_gone : (o : Option Route) → is_none o ≡ true → o ≡ None
not_gone None e = refl
not_gone (Some into) e = absurd (let f : false ≡ true = e in cc)

module _ (owner : Draw → Option Draw) (w : StoryWorld) (k : KeptWorld owner w) where
  abbrev d : Draw → Option Group
  d = Old (groups_in w.store.groups) w.stories

  ring_arcs : arcs_in w.store.ring ≡ (view_of d).arc
  ring_arcs = same_fun (arcs_in w.store.ring) (view_of d).arc k.kept.1.2

  cover : CoversBy (arcs_in w.store.ring)
  cover = subst CoversBy (sym ring_arcs) k.kept.1.0.0

  cut_arc : (c : Cut) → Among c w.store.ring → arc_in c.group w.store.ring ≡ Some c.arc
  cut_arc c a = arc_of_cut w.store.ring k.apart c a

  held : (c : Cut) → Among c w.store.ring → (p : ℕ) → IsTrue (holds c.arc p) → HeldBy (arc_in c.group w.store.ring) p
  held c a p h = subst (λ o. HeldBy o p) (sym (cut_arc c a)) (ltb-true (offset c.arc p) c.arc.len h)

  covers : Covers w.store.ring
  covers = record {
    arcs = λ c a. (let r = cover.arcs c.group c.arc (cut_arc c a) in (record { some = r.some; most = r.len_fits }, r.lo_fits));
    some = λ p q. (
        let o = cover.owner p q in
        let x = is_held (arc_in o.0 w.store.ring) p o.1 in
        let c = cut_of_arc w.store.ring o.0 x.0 x.1 in
        (c.cut, c.there, lt-ltb (offset c.cut.arc p) c.cut.arc.len (subst (λ z. Holds z p) (sym c.arc) x.2)));
    only = λ p q a b x y u v. (
        let same = cover.only p a.group b.group q (held a x p u) (held b y p v) in
        cuts_equal a b (same_Some a.arc b.arc (sym (cut_arc a x) ∙ ap (arcs_in w.store.ring) same ∙ cut_arc b y)) same);
    apart = all_pairs (λ (c o : Cut). c.group ≢ o.group) w.store.ring k.apart;
  }

  record_of : (c : Cut) → Among c w.store.ring → HasRecord w c.group c.arc
  record_of c a =
      let r = arc_some (d c.group) c.arc (sym (k.kept.1.2 c.group) ∙ cut_arc c a) in
      eff_has w c.group c.arc r.0 k.recorded r.2 (named_group c.group w.store.groups) refl r.1

  -- the cut of a group that the view has an arc for
  view_cut : (g : Draw) (a : Arc) → (view_of d).arc g ≡ Some a → (c : Cut) × Among c w.store.ring × (c.group ≡ g) × (c.arc ≡ a)
  view_cut g a e = let c = cut_of_arc w.store.ring g a (k.kept.1.2 g ∙ e) in (c.cut, c.there, c.group, c.arc)

  placed : (c : Cut) → Among c w.store.ring → IsPlaced w.store c
  placed c a =
      let r = record_of c a in
      let v = view_of d in
      let l = k.kept.1.0.1 in
      let mine : v.arc c.group ≡ Some c.arc = sym (k.kept.1.2 c.group) ∙ cut_arc c a in
      let next : v.next c.group ≡ r.group.core.succ.group = ap succ_of r.old in
      let prev : v.prev c.group ≡ r.group.core.pred.group = ap pred_of r.old in
      let m = l.meets c.group c.arc mine in
      let s = view_cut (v.next c.group) m.0 m.1 in
      let b = l.behind c.group c.arc mine in
      let p = view_cut (v.prev c.group) b.0 b.1 in
      let n = l.meets (v.prev c.group) b.0 b.1 in
      let same : n.0 ≡ c.arc = same_Some n.0 c.arc (sym n.1 ∙ ap v.arc (l.forth c.group c.arc mine) ∙ mine) in
      record {
        group = r.group;
        fact = r.fact;
        here = r.here;
        arc = r.arc;
        succ = (s.0, s.1, ap (λ (x : Arc). x.lo) s.3 ∙ m.2, sym next ∙ sym s.2);
        pred = (p.0, p.1, ap (λ (x : Arc). x.lo) (sym same) ∙ n.2 ∙ ap end_of (sym p.3), sym prev ∙ sym p.2);
      }

  serves_apart : (group : Group) → Among group w.store.groups → (key : List ℕ) → IsTrue (serves group key) → (c : Cut) × Among c w.store.ring × (c.group ≡ group.core.id) × IsTrue (holds_key c.arc key)
  serves_apart group a key h =
      let p = and_parts (holds_key group.core.arc key && is_open group.core.lock) (is_none group.core.gone) h in
      let q = and_parts (holds_key group.core.arc key) (is_open group.core.lock) p.0 in
      let r = serving (decisions w.stories) group (not_gone group.core.gone p.1) (serves_open group.core.lock q.1) in
      let old : d group.core.id ≡ Some r.e = ap (eff (decisions w.stories)) (k.found group a) ∙ r.fact in
      let c = cut_of_arc w.store.ring group.core.id group.core.arc (k.kept.1.2 group.core.id ∙ ap arc_of old ∙ ap Some r.arc) in
      (c.cut, c.there, c.group, ap (λ (x : Arc). holds_key x key) c.arc ∙ q.0)

  pub sound_world : IsRingSound w.store
  sound_world = record { covers = covers; placed = placed; serves_apart = serves_apart }

-- ---- the laws

pub store_after : (w : StoryWorld) (entries : List LogEntry) → (recorded_after w entries).store ≡ world_after w.store entries
store_after w [] = refl
store_after w (e ∷ es) = store_after (recorded_next w e) es

pub entries_keep_the_ring : EntriesKeepTheRing
entries_keep_the_ring sources bases entries start allowed =
    subst IsRingSound (store_after (first_recorded bases) entries)
    (sound_world sources.owner (recorded_after (first_recorded bases) entries) (kept_after sources (first_recorded bases) entries (at_start sources bases start) allowed))

pub entries_keep_the_promises : EntriesKeepThePromises
entries_keep_the_promises sources bases entries start allowed =
    subst (λ (w : StoreWorld). Facts sources.owner (λ name. named_group name w.groups) (recorded_after (first_recorded bases) entries).stories) (store_after (first_recorded bases) entries)
    (kept_after sources (first_recorded bases) entries (at_start sources bases start) allowed).kept.0

pub owned : (sources : Sources) (ys : Stories) (g : Draw) (command : Command) (name : Draw) → IsAllowed sources ys g command → draw_of command ≡ Some name → sources.owner name ≡ Some g
owned sources ys g (Split at child order) name a e = ap sources.owner (sym (same_Some child name e)) ∙ a.0
owned sources ys g (Begin tx body order) name a e = ap sources.owner (sym (same_Some tx name e)) ∙ a.0
owned sources ys g _ name a e = absurd (none-some name e)

owned_among : (sources : Sources) (w : StoryWorld) (entries : List LogEntry) → AreAllowed sources w entries → (a : LogEntry) → Among a entries → (name : Draw) → draw_of a.command ≡ Some name → sources.owner name ≡ Some a.group
owned_among sources w [] k a x name e = absurd x
owned_among sources w (b ∷ es) k a (inl q) name e = subst (λ (z : LogEntry). draw_of z.command ≡ Some name → sources.owner name ≡ Some z.group) q (owned sources w.stories b.group b.command name k.0) e
owned_among sources w (b ∷ es) k a (inr x) name e = owned_among sources (recorded_next w b) es k.1 a x name e

pub draws_are_of_one_log : DrawsAreOfOneLog
draws_are_of_one_log sources bases entries k a b x y name e q =
    same_Some a.group b.group (sym (owned_among sources (first_recorded bases) entries k a x name e) ∙ owned_among sources (first_recorded bases) entries k b y name q)

pub allowed_lists_append : AllowedListsAppend
allowed_lists_append sources w [] more a b = b
allowed_lists_append sources w (e ∷ es) more a b = (a.0, allowed_lists_append sources (recorded_next w e) es more a.1 b)
