-- Splits: at once, and with a watcher.
use Rattle.std.specs.Prelude.{not, is_some, ◌&&◌}
use Rattle.std.proofs.Common.{◌≡◌, ℕ, ◌^◌, ◌<◌, Bool, true, false, cond, inl, inr, Option, Some, None, refl, sym, ◌∙◌, ap}
use Rattle.std.proofs.lemmas.Option.{same_Some}
use Rattle.sc_base.specs.Definitions.{before, from}
use Rattle.sc_base.specs.declared.names.Draw.{Draw}
use Rattle.sc_base.proofs.Lemmas.{draw_is}
use Rattle.sc_words.specs.commands.CommandDefinitions.{is_alone}
use Rattle.sc_words.specs.ideal.IdealDefinitions.{part_of}
use Rattle.sc_words.specs.declared.commands.bodies.Body.TheVariants as At
use Rattle.sc_words.specs.declared.commands.bodies.Watch.{Watch}
use Rattle.sc_words.specs.declared.commands.cores.Lock.TheVariants.{Free}
use Rattle.sc_words.specs.declared.commands.links.Link.{Link}
use Rattle.sc_words.specs.declared.commands.votes.Heard.{Heard}
use Rattle.sc_words.specs.declared.commands.votes.Outcome.TheVariants.{Divided}
use Rattle.sc_words.specs.declared.commands.votes.Past.TheVariants as Cast
use Rattle.sc_group_table.specs.machine.MachineDefinitions.{Group, group_of, party_freed, watcher_after, locked_in, splits_at_once, left_group, child_of, left_link, right_link, decided_group}
use Rattle.sc_law_entries.specs.ring.RingDefinitions.{Story, Stories, put, unsigned, unsigned_watch, watch_with, Groups}
use Rattle.sc_meaning.proofs.EntriesProofs.EntryLemmas.{draw_cases}
use Rattle.sc_law_entries.proofs.RingProofs.View.{Ring, Holds, split_view}
use Rattle.sc_law_entries.proofs.RingProofs.Cover.{at-same, at-other}
use Rattle.sc_law_entries.proofs.RingProofs.Recut.{split_whole}
use Rattle.sc_law_entries.proofs.RingProofs.Effects.{decisions, eff, arc_of, view_of, IsInside, Good, whole_agree, inside_same, Old, eff_free}
use Rattle.sc_law_entries.proofs.RingProofs.Insides.{inside_part, inside_again}
use Rattle.sc_law_entries.proofs.RingProofs.CommittedViews.{ring_split, IsDeciding, own_is, New, mine_old, mine_new, other_eff, watch_eff, IsSplit, split_agrees, inside_at, ring_at, same_ring}
use Rattle.sc_law_entries.proofs.RingProofs.Reshapes.{Ends}
use Rattle.sc_law_entries.proofs.RingProofs.Finds.{some_none}

split_good : (ring : Ring) (d e : Draw → Option Group) (g child x : Draw) (s l r : Group) (place : ℕ) → IsSplit d e g child x s l r place → place < 2 ^ 32 → Holds s.core.arc place → (place ≡ s.core.arc.lo → ⊥) → IsInside l → IsInside r
    → Good ring d → Good (ring_split (ring g) (record { at = place; child = child }) ring g) e
split_good ring d e g child x s l r place k fits held inside il ir w =
    let agrees = split_agrees d e g child x s l r place k in (
      whole_agree (split_view (view_of d) g s.core.arc place child) (view_of e) agrees
          (split_whole (view_of d) g s.core.arc place child w.0 (ap arc_of k.mine) (ap arc_of k.new) fits held inside),
      λ h b q. elim (draw_cases h g) [
        | inl c ↦ inside_at (e g) l b k.left (ap e (sym c) ∙ q) il
        | inr ng ↦ elim (draw_cases h child) [
          | inl c ↦ inside_at (e child) r b k.right (ap e (sym c) ∙ q) ir
          | inr nc ↦ elim (draw_cases h x) [
            | inl c ↦ (let u = k.watched (λ z. ng (c ∙ z)) in inside_at (e x) u.1 b u.3 (ap e (sym c) ∙ q) (inside_same u.0 u.1 (sym u.4) u.7 (w.1 x u.0 u.2)))
            | inr nx ↦ w.1 h b (k.others h ng nc nx ∙ q)
          ]
        ]
      ],
      λ h. ap (λ z. ring_split z (record { at = place; child = child }) ring g h) (ring_at ring d g s w k.mine)
          ∙ ap (λ (z : Ring). put (put z g (Some (before s.core.arc place))) child (Some (from s.core.arc place)) h) (same_ring ring d w) ∙ agrees.arcs h,
    )

-- the parts hold their pairs
left_inside : (s : Group) (at : ℕ) (child : Draw) → IsInside (left_group s at child)
left_inside s at child = inside_part (before s.core.arc at) s.pairs

child_inside : (s : Group) (at : ℕ) (child : Draw) → IsInside (group_of (child_of s at child))
child_inside s at child = inside_again (from s.core.arc at) (part_of (from s.core.arc at) s.pairs) (inside_part (from s.core.arc at) s.pairs)

-- the records of the two parts, of a split at once or one with a watcher
link_by : (b : Bool) (own kept : Link) → (b ≡ true → (cond b own kept).group ≡ own.group) × (b ≡ false → (cond b own kept).group ≡ kept.group)
link_by true own kept = (λ e. refl, λ e. absurd (let f : true ≡ false = e in cc))
link_by false own kept = (λ e. absurd (let f : false ≡ true = e in cc), λ e. refl)

-- a split that its watcher agreed to
module _ (owner : Draw → Option Draw) (ring : Ring) (gs : Groups) (ys : Stories) (g : Draw) (s : Group) (tx : Draw) (at : ℕ) (heard : Option Heard) (y : Story) (d : IsDeciding owner gs ys g s tx (At.Split at tx) heard y) where
  pub divide_commit : y.watch_vote ≡ Some Cast.Yes → gs tx ≡ None → s.core.id ≡ g → at < 2 ^ 32 → Holds s.core.arc at → (at ≡ s.core.arc.lo → ⊥) → Good ring (Old gs ys)
      → Good (ring_split (ring g) (record { at = at; child = tx }) ring g) (λ h. eff (decisions (put ys tx (Some (Ends y Divided)))) (put (put gs g (Some (decided_group (left_group s at tx) tx Divided))) tx (Some (group_of (child_of s at tx))) h))
  divide_commit passed none named fits held inside w =
      let own = own_is owner gs ys g s tx (At.Split at tx) heard y d in
      let a = (d.facts.story tx y d.there).agreed own.undecided passed in
      let watch = same_Some (watch_with s.core s.core.succ.group s.core.id (right_link s.core tx)) (unsigned_watch a.watch) (sym own.watch ∙ a.asked) in
      let x_is : s.core.succ.group ≡ a.watch.part = ap (λ (z : Watch). z.part) watch in
      let l = decided_group (left_group s at tx) tx Divided in
      let r = group_of (child_of s at tx) in
      let y' = Ends y Divided in
      let mid : Groups = put gs g (Some l) in
      let f' = decisions (put ys tx (Some y')) in
      let e : Draw → Option Group = λ h. eff f' (put mid tx (Some r) h) in
      let other : (h : Draw) → (h ≡ tx → ⊥) → New gs ys g l tx y' h ≡ e h = λ h n. ap (eff f') (sym (at-other mid tx (Some r) h n)) in
      let gt : g ≡ tx → ⊥ = λ q. some_none s (sym d.fact ∙ ap gs q ∙ none) in
      let xt : a.watch.part ≡ tx → ⊥ = λ q. some_none a.group (sym a.fact ∙ ap gs q ∙ none) in
      let locked : splits_at_once s.core ≡ false = ap (λ l. not (is_some (locked_in l)) && is_alone s.core) d.lock in
      split_good ring (Old gs ys) e g tx a.watch.part s l r at (record {
        mine = mine_old owner gs ys g s tx (At.Split at tx) heard y d;
        new = ap (eff (decisions ys)) none;
        left = sym (other g gt) ∙ mine_new owner gs ys g s tx (At.Split at tx) heard y d l y' refl refl;
        right = ap (eff f') (at-same mid tx (Some r));
        others = λ h ng nc nx. other_eff owner gs ys g s tx (At.Split at tx) heard y d l y' h ng
            (λ z q v. some_none (unsigned z) (sym q ∙ own.offer)) (λ z q v. nx (sym v ∙ ap (λ (b : Watch). b.part) (same_Some (unsigned_watch z) (unsigned_watch a.watch) (sym q ∙ a.asked)))) (gs h) refl ∙ other h nc;
        watched = λ n. (let x = watch_eff owner gs ys g s tx (At.Split at tx) heard y d l y' Divided a n refl refl in
            (a.group, party_freed (watcher_after Divided a.group a.watch) tx, x.0, sym (other a.watch.part xt) ∙ x.1, refl, refl, sym (ap (λ (z : Watch). z.next.group) watch), refl));
        apart = gt;
        away = xt;
        origin = x_is;
        left_arc_is = refl;
        left_succ = refl;
        right_arc_is = refl;
        right_succ = (link_by (splits_at_once s.core) (left_link s.core) s.core.succ).1 locked ∙ x_is;
        right_pred = named;
        self = λ q. absurd (own.apart (x_is ∙ q));
        keeps = λ n. (link_by (splits_at_once s.core) (right_link s.core tx) s.core.pred).1 locked;
      }) fits held inside (left_inside s at tx) (child_inside s at tx) w

-- a split at once
pub split_now : (ring : Ring) (gs : Groups) (ys : Stories) (g : Draw) (s : Group) (at : ℕ) (child : Draw) → gs g ≡ Some s → s.core.lock ≡ Free → s.core.gone ≡ None → s.core.id ≡ g → is_alone s.core ≡ true → gs child ≡ None
    → at < 2 ^ 32 → Holds s.core.arc at → (at ≡ s.core.arc.lo → ⊥) → Good ring (Old gs ys)
    → Good (ring_split (ring g) (record { at = at; child = child }) ring g) (λ h. eff (decisions ys) (put (put gs g (Some (left_group s at child))) child (Some (group_of (child_of s at child))) h))
split_now ring gs ys g s at child fact free here named alone none fits held inside w =
    let l = left_group s at child in
    let r = group_of (child_of s at child) in
    let mid : Groups = put gs g (Some l) in
    let f = decisions ys in
    let e : Draw → Option Group = λ h. eff f (put mid child (Some r) h) in
    let other : (h : Draw) → (h ≡ child → ⊥) → eff f (mid h) ≡ e h = λ h n. ap (eff f) (sym (at-other mid child (Some r) h n)) in
    let gt : g ≡ child → ⊥ = λ q. some_none s (sym fact ∙ ap gs q ∙ none) in
    let self : s.core.succ.group ≡ g = draw_is s.core.succ.group s.core.id alone ∙ named in
    let at_once : splits_at_once s.core ≡ true = ap (λ l. not (is_some (locked_in l)) && is_alone s.core) free ∙ alone in
    split_good ring (Old gs ys) e g child g s l r at (record {
      mine = ap (eff f) fact ∙ eff_free f s here free;
      new = ap (eff f) none;
      left = sym (other g gt) ∙ ap (eff f) (at-same gs g (Some l)) ∙ eff_free f l here free;
      right = ap (eff f) (at-same mid child (Some r));
      others = λ h ng nc nx. ap (eff f) (sym (at-other gs g (Some l) h ng)) ∙ other h nc;
      watched = λ n. absurd (n refl);
      apart = gt;
      away = gt;
      origin = self;
      left_arc_is = refl;
      left_succ = refl;
      right_arc_is = refl;
      right_succ = (link_by (splits_at_once s.core) (left_link s.core) s.core.succ).0 at_once ∙ named;
      right_pred = named;
      self = λ q. (link_by (splits_at_once s.core) (right_link s.core child) s.core.pred).0 at_once;
      keeps = λ n. absurd (n refl);
    }) fits held inside (left_inside s at child) (child_inside s at child) w
