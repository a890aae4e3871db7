-- The commits: merges, moved boundaries, members that move on, and splits.
use Rattle.std.proofs.Common.{◌≡◌, true, cond, Option, Some, None, refl, sym, ◌∙◌, ap, subst}
use Rattle.std.proofs.lemmas.Option.{same_Some}
use Rattle.sc_base.specs.Definitions.{joined, same_draw}
use Rattle.sc_base.specs.declared.names.Draw.{Draw}
use Rattle.sc_words.specs.ideal.IdealDefinitions.{with_pairs}
use Rattle.sc_words.specs.declared.commands.bodies.Body.{Body}
use Rattle.sc_words.specs.declared.commands.bodies.Body.TheVariants as At
use Rattle.sc_words.specs.declared.commands.bodies.Offer.{Offer}
use Rattle.sc_words.specs.declared.commands.bodies.Watch.{Watch}
use Rattle.sc_words.specs.declared.commands.votes.Frozen.{Frozen}
use Rattle.sc_words.specs.declared.commands.votes.Heard.{Heard}
use Rattle.sc_words.specs.declared.commands.votes.Outcome.{Outcome}
use Rattle.sc_words.specs.declared.commands.votes.Outcome.TheVariants.{Merged}
use Rattle.sc_words.specs.declared.commands.votes.Past.TheVariants as Cast
use Rattle.sc_words.specs.declared.commands.votes.Vote.TheVariants as Ballot
use Rattle.sc_group_table.specs.machine.MachineDefinitions.{Group, participant_after, settled_in, party_freed, watcher_after, merged_link, merged_route, merged_group, closing_group, decided_group}
use Rattle.sc_words.specs.declared.commands.cores.Lock.TheVariants.{Free}
use Rattle.sc_meaning.specs.entries.EntryDefinitions.{is_commit}
use Rattle.sc_base.proofs.Lemmas.{draw_is}
use Rattle.sc_law_entries.specs.ring.RingDefinitions.{Story, Stories, unsigned, unsigned_watch, offer_for, offer_with, watch_for, watch_with, Groups, IsFrozen}
use Rattle.sc_meaning.proofs.EntriesProofs.EntryLemmas.{other_name}
use Rattle.sc_law_entries.proofs.RingProofs.View.{Ring}
use Rattle.sc_law_entries.proofs.RingProofs.Links.{not_back}
use Rattle.sc_law_entries.proofs.RingProofs.Effects.{living, arc_of, succ_of, view_of, Good, Old, living_is}
use Rattle.sc_law_entries.proofs.RingProofs.Insides.{InsideOf, inside_with, outside_joined}
use Rattle.sc_law_entries.proofs.RingProofs.CommittedViews.{ring_out, IsDeciding, own_is, New, mine_old, mine_new, other_eff, part_eff, watch_eff, merged_good, IsMoved}
use Rattle.sc_law_entries.proofs.RingProofs.Finds.{some_none}

-- what a story becomes when it is decided
abbrev pub Ends : Story → Outcome → Story
Ends y o = record y { outcome = Some o }

-- ---- merges

module _ (owner : Draw → Option Draw) (ring : Ring) (gs : Groups) (ys : Stories) (g : Draw) (s : Group) (tx : Draw) (y : Story) where
  -- a merge of two groups that are the whole ring
  pub merge_closing : (fz : Frozen) → IsDeciding owner gs ys g s tx At.Merge None y → y.vote ≡ Some (Ballot.Yes fz) → s.core.id ≡ g → same_draw fz.succ.group s.core.id ≡ true → Good ring (Old gs ys)
      → (let o = Merged (merged_route s.core fz) in Good (ring_out (Some o) ring g s.core.succ.group) (New gs ys g (decided_group (closing_group s fz) tx o) tx (Ends y o)))
  merge_closing fz d vote named closes w =
      let o : Outcome = Merged (merged_route s.core fz) in
      let own = own_is owner gs ys g s tx At.Merge None y d in
      let r = (d.facts.story tx y d.there).frozen own.undecided fz vote in
      let line : s.core.succ.group ≡ r.offer.part = ap (λ (z : Offer). z.part) (same_Some (offer_with s.core At.Merge) (unsigned r.offer) (sym own.offer ∙ r.offered)) in
      let s' = decided_group (closing_group s fz) tx o in
      let y' = Ends y o in
      let ne : g ≡ r.offer.part → ⊥ = λ e. own.apart (line ∙ sym e) in
      let p = part_eff owner gs ys g s tx At.Merge None y d s' y' o fz r (λ e. ne (sym e)) refl refl in
      let self : fz.succ.group ≡ g = draw_is fz.succ.group s.core.id closes ∙ named in
      subst (λ n. Good (ring_out (Some o) ring g n) (New gs ys g s' tx y')) (sym line) (merged_good ring (Old gs ys) (New gs ys g s' tx y') g r.offer.part g s r.group s' (record {
        mine = mine_old owner gs ys g s tx At.Merge None y d;
        its = p.0;
        then = mine_new owner gs ys g s tx At.Merge None y d s' y' refl refl;
        gone = p.1;
        others = λ h ng np nx. other_eff owner gs ys g s tx At.Merge None y d s' y' h ng
            (λ q e z. np (sym z ∙ ap (λ (x : Offer). x.part) (same_Some (unsigned q) (unsigned r.offer) (sym e ∙ r.offered)))) (λ z e q. some_none (unsigned_watch z) (sym e ∙ own.watch)) (gs h) refl;
        watched = λ n. absurd (n refl);
        apart = ne;
        away = ne;
        arc = ap (λ (z : Frozen). joined s.core.arc z.arc) (sym r.same);
        succ = ap (λ b. (cond b (merged_link s.core fz) fz.succ).group) closes ∙ named;
        origin = ap (λ (z : Frozen). z.succ.group) r.same ∙ self;
        self = λ e. named;
        keeps = λ n. absurd (n refl);
        inside = λ a b room left right meet. subst (λ (z : Frozen). InsideOf (joined s.core.arc z.arc) (with_pairs s.pairs z.pairs)) r.same
            (inside_with (joined s.core.arc r.group.core.arc) s.core.arc r.group.core.arc s.pairs r.group.pairs (outside_joined s.core.arc r.group.core.arc left right meet room) a b);
      }) line w)

  -- a merge with a watcher
  pub merge_watched : (h : Heard) → IsDeciding owner gs ys g s tx At.Merge (Some h) y → y.vote ≡ Some (Ballot.Yes h.frozen) → y.watch_vote ≡ Some Cast.Yes → (h.frozen.succ.group ≡ g → ⊥) → s.core.id ≡ g → Good ring (Old gs ys)
      → (let o = Merged (merged_route s.core h.frozen) in Good (ring_out (Some o) ring g s.core.succ.group) (New gs ys g (decided_group (merged_group s h.frozen) tx o) tx (Ends y o)))
  merge_watched h d vote passed foreign named w =
      let fz = h.frozen in
      let o : Outcome = Merged (merged_route s.core fz) in
      let own = own_is owner gs ys g s tx At.Merge (Some h) y d in
      let k = d.facts.story tx y d.there in
      let r = k.frozen own.undecided fz vote in
      let a = k.agreed own.undecided passed in
      let line : s.core.succ.group ≡ r.offer.part = ap (λ (z : Offer). z.part) (same_Some (offer_with s.core At.Merge) (unsigned r.offer) (sym own.offer ∙ r.offered)) in
      let watch = same_Some (watch_with s.core fz.succ.group s.core.succ.group (merged_link s.core fz)) (unsigned_watch a.watch) (sym own.watch ∙ a.asked) in
      let x_is : fz.succ.group ≡ a.watch.part = ap (λ (z : Watch). z.part) watch in
      let s' = decided_group (merged_group s fz) tx o in
      let y' = Ends y o in
      let ne : g ≡ r.offer.part → ⊥ = λ e. own.apart (line ∙ sym e) in
      let p = part_eff owner gs ys g s tx At.Merge (Some h) y d s' y' o fz r (λ e. ne (sym e)) refl refl in
      let mine = mine_old owner gs ys g s tx At.Merge (Some h) y d in
      let origin : r.group.core.succ.group ≡ a.watch.part = ap (λ (z : Frozen). z.succ.group) r.same ∙ x_is in
      subst (λ n. Good (ring_out (Some o) ring g n) (New gs ys g s' tx y')) (sym line) (merged_good ring (Old gs ys) (New gs ys g s' tx y') g r.offer.part a.watch.part s r.group s' (record {
        mine = mine;
        its = p.0;
        then = mine_new owner gs ys g s tx At.Merge (Some h) y d s' y' refl refl;
        gone = p.1;
        others = λ n ng np nx. other_eff owner gs ys g s tx At.Merge (Some h) y d s' y' n ng
            (λ q e z. np (sym z ∙ ap (λ (x : Offer). x.part) (same_Some (unsigned q) (unsigned r.offer) (sym e ∙ r.offered))))
            (λ z e q. nx (sym q ∙ ap (λ (x : Watch). x.part) (same_Some (unsigned_watch z) (unsigned_watch a.watch) (sym e ∙ a.asked)))) (gs n) refl;
        watched = λ n. (let x = watch_eff owner gs ys g s tx At.Merge (Some h) y d s' y' o a n refl refl in
            (a.group, party_freed (watcher_after o a.group a.watch) tx, x.0, x.1, refl, refl, sym (ap (λ (z : Watch). z.next.group) watch) ∙ named, refl));
        apart = ne;
        away = λ e. not_back (view_of (Old gs ys)) g r.offer.part s.core.arc r.group.core.arc w.0.1
            (record { first = ap arc_of mine; second = ap arc_of p.0; line = ap succ_of mine ∙ line; apart = ne }) (ap succ_of p.0 ∙ origin ∙ e);
        arc = ap (λ (z : Frozen). joined s.core.arc z.arc) (sym r.same);
        succ = ap (λ b. (cond b (merged_link s.core fz) fz.succ).group) (other_name fz.succ.group s.core.id (λ q. foreign (q ∙ named))) ∙ x_is;
        origin = origin;
        self = λ e. absurd (foreign (x_is ∙ e));
        keeps = λ n. refl;
        inside = λ i b room left right meet. subst (λ (z : Frozen). InsideOf (joined s.core.arc z.arc) (with_pairs s.pairs z.pairs)) r.same
            (inside_with (joined s.core.arc r.group.core.arc) s.core.arc r.group.core.arc s.pairs r.group.pairs (outside_joined s.core.arc r.group.core.arc left right meet room) i b);
      }) line w)

-- ---- bodies with a participant and no watcher

-- the participant of an offer
pub record IsPart (gs : Groups) (g : Draw) (s : Group) (tx : Draw) (y : Story) (fz : Frozen) : Type 0 where
  pub frozen : IsFrozen gs tx y fz
  pub line : s.core.succ.group ≡ frozen.offer.part
  pub apart : g ≡ frozen.offer.part → ⊥
  pub arc : s.core.arc ≡ frozen.offer.arc

module _ (owner : Draw → Option Draw) (ring : Ring) (gs : Groups) (ys : Stories) (g : Draw) (s : Group) (tx : Draw) (body : Body) (y : Story) (d : IsDeciding owner gs ys g s tx body None y) where
  pub part_is : (fz : Frozen) → y.vote ≡ Some (Ballot.Yes fz) → offer_for s.core body ≡ Some (offer_with s.core body) → IsPart gs g s tx y fz
  part_is fz vote some =
      let own = own_is owner gs ys g s tx body None y d in
      let r = (d.facts.story tx y d.there).frozen own.undecided fz vote in
      let same = same_Some (offer_with s.core body) (unsigned r.offer) (sym some ∙ sym own.offer ∙ r.offered) in
      let line : s.core.succ.group ≡ r.offer.part = ap (λ (z : Offer). z.part) same in
      record { frozen = r; line = line; apart = λ e. own.apart (line ∙ sym e); arc = ap (λ (z : Offer). z.arc) same }

  pub moved_commit : (fz : Frozen) (o : Outcome) (s' b : Group) → (p : IsPart gs g s tx y fz) → is_commit o ≡ true → watch_for s.core body None ≡ None → s'.core.gone ≡ s.core.gone → s'.core.lock ≡ Free → participant_after o p.frozen.group p.frozen.offer ≡ Some b → b.core.gone ≡ p.frozen.group.core.gone
      → (s'.core.succ.group ≡ s.core.succ.group) × (s'.core.pred.group ≡ s.core.pred.group) × (b.core.succ.group ≡ p.frozen.group.core.succ.group) × (b.core.pred.group ≡ p.frozen.group.core.pred.group)
      → IsMoved (Old gs ys) (New gs ys g s' tx (Ends y o)) g p.frozen.offer.part s p.frozen.group s' (party_freed b tx)
  moved_commit fz o s' b p c unwatched gone free after here links =
      let own = own_is owner gs ys g s tx body None y d in
      let r = p.frozen in
      let y' = Ends y o in
      let q = part_eff owner gs ys g s tx body None y d s' y' o fz r (λ e. p.apart (sym e)) refl c in
      record {
        mine = mine_old owner gs ys g s tx body None y d;
        its = q.0;
        first = mine_new owner gs ys g s tx body None y d s' y' gone free;
        second = q.1 ∙ ap (λ z. living (settled_in z r.group tx o).0) after ∙ living_is (party_freed b tx) (here ∙ q.2);
        others = λ h ng np. other_eff owner gs ys g s tx body None y d s' y' h ng
            (λ z e w. np (sym w ∙ ap (λ (a : Offer). a.part) (same_Some (unsigned z) (unsigned r.offer) (sym e ∙ r.offered)))) (λ z e w. some_none (unsigned_watch z) (sym e ∙ own.watch ∙ unwatched)) (gs h) refl;
        links = links;
      }
