-- Votes of a participant and of a watcher keep the facts and the view.
use Rattle.std.specs.Prelude.{nat_le, not, ◌&&◌, ◌++◌, length}
use Rattle.std.proofs.Common.{◌≡◌, true, false, cond, List, [], ◌∷◌, Option, Some, None, refl, sym, ◌∙◌, ap, subst}
use Rattle.std.proofs.lemmas.Bool.{cond_both}
use Rattle.sc_base.specs.Definitions.{same_draw, united}
use Rattle.sc_base.specs.declared.names.Draw.{Draw}
use Rattle.sc_words.specs.declared.commands.bodies.Offer.{Offer}
use Rattle.sc_words.specs.declared.commands.bodies.Watch.{Watch}
use Rattle.sc_words.specs.declared.commands.commands.Command.TheVariants.{Finish}
use Rattle.sc_words.specs.declared.commands.cores.Lock.{Lock}
use Rattle.sc_words.specs.declared.commands.cores.Lock.TheVariants.{Free, Coordinating, Promised, Watching}
use Rattle.sc_words.specs.declared.commands.effects.Effect.{Effect}
use Rattle.sc_words.specs.declared.commands.effects.Effect.TheVariants as Was
use Rattle.sc_words.specs.declared.commands.links.Route.{Route}
use Rattle.sc_words.specs.declared.commands.votes.No.{No}
use Rattle.sc_words.specs.declared.commands.votes.No.TheVariants.{Gone, Busy}
use Rattle.sc_words.specs.declared.commands.votes.Outcome.{Outcome}
use Rattle.sc_words.specs.declared.commands.votes.Outcome.TheVariants.{Abort, Merged, Moved, Migrated, Divided}
use Rattle.sc_words.specs.declared.commands.votes.Past.{Past}
use Rattle.sc_words.specs.declared.commands.votes.Past.TheVariants as Cast
use Rattle.sc_words.specs.declared.commands.votes.Vote.TheVariants as Ballot
use Rattle.sc_group_table.specs.machine.MachineDefinitions.{Group, can_gain, gained_group, lost_group, welcomed_group, participant_after, settled_in, finished, party_freed, watch_ended, applied, locked_in, frozen_of, can_cut, has_key_of, has_voted, no_of, vote_of, offer_no, watch_no, watch_vote_of, past_of, bound_by, offer_voted, watched}
use Rattle.sc_meaning.specs.entries.EntryDefinitions.{after_outcome, is_commit}
use Rattle.sc_law_entries.specs.ring.RingDefinitions.{Story, Stories, put, with_story, unsigned, unsigned_watch, vote_in, watch_vote_in, with_vote, with_watch_vote, Groups}
use Rattle.sc_law_entries.proofs.RingProofs.View.{Ring}
use Rattle.sc_law_entries.proofs.RingProofs.Cover.{at-same}
use Rattle.sc_law_entries.proofs.RingProofs.EntryKinds.{Votes, yes_facts, no_facts, agree_facts, deny_facts, unheard, not_passed}
use Rattle.sc_law_entries.proofs.RingProofs.Effects.{Decisions, decisions, outcome_of, settle_by, living, living_by, eff, arc_of, succ_of, pred_of, pairs_of, Alike, Like, eff_like, like_same, like_at, whole_change, living_is, eff_free, no_commit}
use Rattle.sc_law_entries.proofs.RingProofs.Finds.{some_none}
use Rattle.sc_law_entries.proofs.RingProofs.RequestsAndOrders.{Kept, idle_reported, reported_at, lock_free}

-- what a group that votes Yes is
pub record IsReady (s : Group) : Type 0 where
  pub here : s.core.gone ≡ None
  pub free : s.core.lock ≡ Free

no_of_none : (went : Option Route) (tx : Option Draw) (why : Option No) → no_of went tx why ≡ None → (went ≡ None) × (tx ≡ None)
no_of_none (Some into) tx why e = absurd (some_none Gone e)
no_of_none None (Some tx) why e = absurd (some_none (Busy tx) e)
no_of_none None None why e = (refl, refl)

ready : (s : Group) (why : Option No) → no_of s.core.gone (locked_in s.core.lock) why ≡ None → IsReady s
ready s why e = let r = no_of_none s.core.gone (locked_in s.core.lock) why e in record { here = r.0; free = lock_free s.core.lock r.1 }

pub outcome_like : (ys : Stories) (tx : Draw) (y y' : Story) → ys tx ≡ Some y → y'.outcome ≡ y.outcome → (t : Draw) → Like (decisions ys t) (decisions (put ys tx (Some y')) t)
outcome_like ys tx y y' there e = like_at ys tx y' (Some y) there (like_same y.outcome y'.outcome (sym e))

-- ---- a vote that binds nobody changes no effective record

-- a group with other notes of votes
abbrev Noting : Group → List (Draw × Past) → Group
Noting s votes = record s { core = record s.core { voted = votes } }

living_alike : (a b : Group) → (a.core.arc ≡ b.core.arc) × (a.core.succ.group ≡ b.core.succ.group) × (a.core.pred.group ≡ b.core.pred.group) × (a.pairs ≡ b.pairs) → (went : Option Route) → Alike (living_by went a) (living_by went b)
living_alike a b e None = (ap Some e.0, e.1, e.2, e.3)
living_alike a b e (Some into) = (refl, refl, refl, refl)

settled_noting : (o : Outcome) (s : Group) (v : List (Draw × Past)) (t : Draw) (offer : Offer) → Alike (living (settled_in (participant_after o s offer) s t o).0) (living (settled_in (participant_after o (Noting s v) offer) (Noting s v) t o).0)
settled_noting Abort s v t offer = living_alike (party_freed s t) (party_freed (Noting s v) t) (refl, refl, refl, refl) s.core.gone
settled_noting (Merged into) s v t offer = (refl, refl, refl, refl)
settled_noting (Moved at (Some gift)) s v t offer =
    elim (can_gain s.core offer at && not (has_key_of s.pairs gift.pairs))
    as (λ b. Alike (living (settled_in (cond b (Some (gained_group s offer at gift)) None) s t (Moved at (Some gift))).0) (living (settled_in (cond b (Some (gained_group (Noting s v) offer at gift)) None) (Noting s v) t (Moved at (Some gift))).0)) [
      | true ↦ living_alike (party_freed (gained_group s offer at gift) t) (party_freed (gained_group (Noting s v) offer at gift) t) (refl, refl, refl, refl) s.core.gone
      | false ↦ living_alike s (Noting s v) (refl, refl, refl, refl) s.core.gone
    ]
settled_noting (Moved at None) s v t offer =
    elim (can_cut s.core.arc at)
    as (λ b. Alike (living (settled_in (cond b (Some (lost_group s at)) None) s t (Moved at None)).0) (living (settled_in (cond b (Some (lost_group (Noting s v) at)) None) (Noting s v) t (Moved at None)).0)) [
      | true ↦ living_alike (party_freed (lost_group s at) t) (party_freed (lost_group (Noting s v) at) t) (refl, refl, refl, refl) s.core.gone
      | false ↦ living_alike s (Noting s v) (refl, refl, refl, refl) s.core.gone
    ]
settled_noting (Migrated node) s v t offer =
    elim (nat_le (length (united s.core.members (node ∷ []))) 9)
    as (λ b. Alike (living (settled_in (cond b (Some (welcomed_group s node)) None) s t (Migrated node)).0) (living (settled_in (cond b (Some (welcomed_group (Noting s v) node)) None) (Noting s v) t (Migrated node)).0)) [
      | true ↦ living_alike (party_freed (welcomed_group s node) t) (party_freed (welcomed_group (Noting s v) node) t) (refl, refl, refl, refl) s.core.gone
      | false ↦ living_alike s (Noting s v) (refl, refl, refl, refl) s.core.gone
    ]
settled_noting Divided s v t offer = living_alike s (Noting s v) (refl, refl, refl, refl) s.core.gone

finished_noting : (l : Lock) (o : Outcome) (s : Group) (v : List (Draw × Past)) (t : Draw) → Alike (living (finished l s t o).0) (living (finished l (Noting s v) t o).0)
finished_noting Free o s v t = living_alike s (Noting s v) (refl, refl, refl, refl) s.core.gone
finished_noting (Coordinating tx body order heard) o s v t = living_alike s (Noting s v) (refl, refl, refl, refl) s.core.gone
finished_noting (Promised tx offer) o s v t =
    elim (same_draw tx t)
    as (λ b. Alike (living (cond b (settled_in (participant_after o s offer) s t o) (s, Was.NoEffect t)).0) (living (cond b (settled_in (participant_after o (Noting s v) offer) (Noting s v) t o) (Noting s v, Was.NoEffect t)).0)) [
      | true ↦ settled_noting o s v t offer
      | false ↦ living_alike s (Noting s v) (refl, refl, refl, refl) s.core.gone
    ]
finished_noting (Watching tx watch) o s v t =
    elim (same_draw tx t)
    as (λ b. Alike (living (cond b (watch_ended o s t watch) (s, Was.NoEffect t)).0) (living (cond b (watch_ended o (Noting s v) t watch) (Noting s v, Was.NoEffect t)).0)) [
      | true ↦ living_alike (watch_ended o s t watch).0 (watch_ended o (Noting s v) t watch).0 (refl, refl, refl, refl) s.core.gone
      | false ↦ living_alike s (Noting s v) (refl, refl, refl, refl) s.core.gone
    ]

outcome_noting : (o : Option Outcome) (s : Group) (v : List (Draw × Past)) (t : Draw) → Alike (living (after_outcome o t s)) (living (after_outcome o t (Noting s v)))
outcome_noting None s v t = living_alike s (Noting s v) (refl, refl, refl, refl) s.core.gone
outcome_noting (Some o) s v t =
    elim (is_commit o) as (λ b. Alike (living (cond b (applied s (Finish t o)).0 s)) (living (cond b (applied (Noting s v) (Finish t o)).0 (Noting s v)))) [
      | true ↦ finished_noting s.core.lock o s v t
      | false ↦ living_alike s (Noting s v) (refl, refl, refl, refl) s.core.gone
    ]

settle_noting : (l : Lock) (f : Decisions) (s : Group) (v : List (Draw × Past)) → Alike (living (settle_by l f s)) (living (settle_by l f (Noting s v)))
settle_noting Free f s v = living_alike s (Noting s v) (refl, refl, refl, refl) s.core.gone
settle_noting (Coordinating tx body order heard) f s v = living_alike s (Noting s v) (refl, refl, refl, refl) s.core.gone
settle_noting (Promised tx offer) f s v = outcome_noting (f tx) s v tx
settle_noting (Watching tx watch) f s v = outcome_noting (f tx) s v tx

like_noting : (f f' : Decisions) → ((t : Draw) → Like (f t) (f' t)) → (s : Group) (v : List (Draw × Past)) → Alike (eff f (Some s)) (eff f' (Some (Noting s v)))
like_noting f f' k s v = subst (λ x. Alike (eff f (Some s)) x) (eff_like f f' k (Some (Noting s v))) (settle_noting s.core.lock f s v)

-- ---- the votes

module _ (owner : Draw → Option Draw) (ring : Ring) (gs : Groups) (ys : Stories) (g : Draw) (s : Group) (k : Kept owner ring gs ys) (fact : gs g ≡ Some s) where
  abbrev Prepares : Draw → Group × Effect → Type 0
  Prepares tx r = Kept owner ring (put gs g (Some r.0)) (with_story ys tx (with_vote (vote_in s r.1)))

  -- a vote as the table casts it
  abbrev Cast_by : Draw → Lock → Option No → Group × Effect
  Cast_by tx bond why = (record s { core = record s.core { lock = bound_by why bond s.core.lock; voted = s.core.voted ++ (tx, past_of why) ∷ [] } }, Was.Voted (past_of why))

  bound_alike : (ys' : Stories) (tx : Draw) (lock : Lock) → IsReady s → eff (decisions ys') (Some (Votes s tx lock Cast.Yes)) ≡ Some (Votes s tx lock Cast.Yes) → Alike (eff (decisions ys) (Some s)) (eff (decisions ys') (Some (Votes s tx lock Cast.Yes)))
  bound_alike ys' tx lock m b = let a = eff_free (decisions ys) s m.here m.free in
      (ap arc_of a ∙ sym (ap arc_of b), ap succ_of a ∙ sym (ap succ_of b), ap pred_of a ∙ sym (ap pred_of b), ap pairs_of a ∙ sym (ap pairs_of b))

  prepared_as : (tx : Draw) (offer : Offer) (y : Story) → ys tx ≡ Some y → y.offer ≡ Some (unsigned offer) → offer.part ≡ g → has_voted s.core tx ≡ false
      → (why : Option No) → vote_of s.core offer ≡ why → Prepares tx (Cast_by tx (Promised tx offer) why)
  prepared_as tx offer y there offered part new None e =
      let m = ready s (offer_no s.core offer) e in
      let s' = Votes s tx (Promised tx offer) Cast.Yes in
      let story = k.0.story tx y there in
      let none = unheard gs owner tx y offer s story offered (ap gs part ∙ fact) new y.vote refl in
      let y' : Story = record y { vote = Some (Ballot.Yes (frozen_of s)) } in
      let ys' = put ys tx (Some y') in
      let like = outcome_like ys tx y y' there refl in
      let open_yet = no_commit y.outcome (λ x q na. (let r = (story.earned x q na).0 (unsigned offer) offered in some_none (Ballot.Yes r.0) (sym r.1 ∙ none))) in
      subst (λ z. Kept owner ring (put gs g (Some s')) z) (sym (reported_at ys tx (with_vote (Some (Ballot.Yes (frozen_of s)))) y there)) (
        yes_facts gs ys owner g s tx y offer k.0 fact m.free m.here new there offered part,
        whole_change ring gs ys ys' g s s' fact like
            (bound_alike ys' tx (Promised tx offer) m (ap (λ z. living (after_outcome (outcome_of z) tx s')) (at-same ys tx (Some y')) ∙ ap living (open_yet tx s') ∙ living_is s' m.here)) k.1,
      )
  prepared_as tx offer y there offered part new (Some why) e =
      let s' = Votes s tx s.core.lock (Cast.No why) in
      let y' : Story = record y { vote = Some (Ballot.No why) } in
      let ys' = put ys tx (Some y') in
      let like = outcome_like ys tx y y' there refl in
      subst (λ z. Kept owner ring (put gs g (Some s')) z) (sym (reported_at ys tx (with_vote (Some (Ballot.No why))) y there)) (
        no_facts gs ys owner g s tx y offer why k.0 fact new there offered part,
        whole_change ring gs ys ys' g s s' fact like (like_noting (decisions ys) (decisions ys') like s (s.core.voted ++ (tx, Cast.No why) ∷ [])) k.1,
      )

  pub prepared_kept : (tx : Draw) (offer : Offer) (y : Story) → ys tx ≡ Some y → y.offer ≡ Some (unsigned offer) → offer.part ≡ g → Prepares tx (offer_voted s tx offer)
  prepared_kept tx offer y there offered part =
      cond_both (has_voted s.core tx) _ _ (Prepares tx)
      (λ e. idle_reported owner ring gs ys g s tx (with_vote None) (λ z. refl) k fact)
      (λ e. prepared_as tx offer y there offered part e (vote_of s.core offer) refl)

  abbrev Watches : Draw → Group × Effect → Type 0
  Watches tx r = Kept owner ring (put gs g (Some r.0)) (with_story ys tx (with_watch_vote (watch_vote_in r.1)))

  watched_as : (tx : Draw) (watch : Watch) (y : Story) → ys tx ≡ Some y → y.watch ≡ Some (unsigned_watch watch) → watch.part ≡ g → has_voted s.core tx ≡ false
      → (why : Option No) → watch_vote_of s.core watch ≡ why → Watches tx (Cast_by tx (Watching tx watch) why)
  watched_as tx watch y there asked part new None e =
      let m = ready s (watch_no s.core watch) e in
      let s' = Votes s tx (Watching tx watch) Cast.Yes in
      let story = k.0.story tx y there in
      let y' : Story = record y { watch_vote = Some Cast.Yes } in
      let ys' = put ys tx (Some y') in
      let like = outcome_like ys tx y y' there refl in
      let open_yet = no_commit y.outcome (λ x q na. not_passed gs g s tx y watch fact new asked part (story.watcher Cast.Yes ((story.earned x q na).1 (unsigned_watch watch) asked))) in
      subst (λ z. Kept owner ring (put gs g (Some s')) z) (sym (reported_at ys tx (with_watch_vote (Some Cast.Yes)) y there)) (
        agree_facts gs ys owner g s tx y watch k.0 fact m.free m.here there asked part,
        whole_change ring gs ys ys' g s s' fact like
            (bound_alike ys' tx (Watching tx watch) m (ap (λ z. living (after_outcome (outcome_of z) tx s')) (at-same ys tx (Some y')) ∙ ap living (open_yet tx s') ∙ living_is s' m.here)) k.1,
      )
  watched_as tx watch y there asked part new (Some why) e =
      let s' = Votes s tx s.core.lock (Cast.No why) in
      let y' : Story = record y { watch_vote = Some (Cast.No why) } in
      let ys' = put ys tx (Some y') in
      let like = outcome_like ys tx y y' there refl in
      subst (λ z. Kept owner ring (put gs g (Some s')) z) (sym (reported_at ys tx (with_watch_vote (Some (Cast.No why))) y there)) (
        deny_facts gs ys owner g s tx y watch why k.0 fact new there asked part,
        whole_change ring gs ys ys' g s s' fact like (like_noting (decisions ys) (decisions ys') like s (s.core.voted ++ (tx, Cast.No why) ∷ [])) k.1,
      )

  pub watched_kept : (tx : Draw) (watch : Watch) (y : Story) → ys tx ≡ Some y → y.watch ≡ Some (unsigned_watch watch) → watch.part ≡ g → Watches tx (watched s tx watch)
  watched_kept tx watch y there asked part =
      cond_both (has_voted s.core tx) _ _ (Watches tx)
      (λ e. idle_reported owner ring gs ys g s tx (with_watch_vote None) (λ z. refl) k fact)
      (λ e. watched_as tx watch y there asked part e (watch_vote_of s.core watch) refl)
