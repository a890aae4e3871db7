-- A split that is ordered, and the end of a participant or a watcher.
use Rattle.std.specs.Prelude.{not, ◌&&◌, ◌||◌, ◌==◌, nat_le, length}
use Rattle.std.specs.List.{list_any}
use Rattle.std.proofs.Common.{◌≡◌, ℕ, ◌^◌, ◌<◌, Bool, true, false, cond, [], ◌∷◌, inl, inr, Option, Some, None, refl, sym, ◌∙◌, ap, subst}
use Rattle.std.proofs.lemmas.Bool.{cases_Bool, cond_both, cond-true, or_parts, not-false, eqb-false, ltb-true}
use Rattle.std.proofs.lemmas.Option.{same_Some}
use Rattle.sc_base.specs.Definitions.{holds, offset, same_draw, united}
use Rattle.sc_base.specs.declared.names.Draw.{Draw}
use Rattle.sc_base.proofs.Lemmas.{draw_is, same_name}
use Rattle.sc_words.specs.declared.commands.bodies.Body.{Body}
use Rattle.sc_words.specs.declared.commands.bodies.Body.TheVariants as At
use Rattle.sc_words.specs.declared.commands.bodies.Offer.{Offer}
use Rattle.sc_words.specs.declared.commands.bodies.Watch.{Watch}
use Rattle.sc_words.specs.declared.commands.commands.Command.TheVariants.{Split}
use Rattle.sc_words.specs.declared.commands.cores.Core.{Core}
use Rattle.sc_words.specs.declared.commands.cores.Lock.{Lock}
use Rattle.sc_words.specs.declared.commands.cores.Lock.TheVariants.{Free, Coordinating, Promised, Watching}
use Rattle.sc_words.specs.declared.commands.effects.Effect.{Effect}
use Rattle.sc_words.specs.declared.commands.orders.OrderRefusal.TheVariants.{BadBoundary}
use Rattle.sc_words.specs.declared.commands.votes.Heard.{Heard}
use Rattle.sc_words.specs.declared.commands.votes.Outcome.{Outcome}
use Rattle.sc_words.specs.declared.commands.votes.Outcome.TheVariants.{Abort, Merged, Moved, Migrated, Divided}
use Rattle.sc_words.specs.commands.CommandDefinitions.{is_alone}
use Rattle.sc_group_table.specs.machine.MachineDefinitions.{Group, group_of, can_gain, gained_group, lost_group, welcomed_group, participant_after, settled_in, party_freed, watcher_after, watch_ended, finished, split_group, ordered_by, refusal_of, split_refused, can_cut, has_key_of, left_group, child_of, begun_group}
use Rattle.sc_meaning.specs.entries.EntryDefinitions.{division_of, after_outcome, is_commit}
use Rattle.sc_meaning.specs.declared.entries.Division.{Division}
use Rattle.sc_law_entries.specs.ring.RingDefinitions.{Story, Stories, put, new_story, stories_after, Groups, LockOk}
use Rattle.sc_meaning.proofs.EntriesProofs.EntryLemmas.{names_differ}
use Rattle.sc_law_entries.proofs.RingProofs.Notes.{any_keeps, any_new, ended_keeps, is_vote_on}
use Rattle.sc_law_entries.proofs.RingProofs.View.{Ring}
use Rattle.sc_law_entries.proofs.RingProofs.Cover.{at-same, at-other}
use Rattle.sc_law_entries.proofs.RingProofs.Facts.{IsOf}
use Rattle.sc_law_entries.proofs.RingProofs.EntryKinds.{plain_facts}
use Rattle.sc_law_entries.proofs.RingProofs.Ends.{draw_new, group_none, born_facts, IsEnd, finish_facts}
use Rattle.sc_law_entries.proofs.RingProofs.Effects.{decisions, outcome_of, living, eff, arc_of, succ_of, pred_of, pairs_of, Good, Alike, alike_same, like_same, Old, whole_change, eff_by, living_is}
use Rattle.sc_law_entries.proofs.RingProofs.CommittedViews.{ring_cut, promise_settled}
use Rattle.sc_law_entries.proofs.RingProofs.Moves.{IsCut}
use Rattle.sc_law_entries.proofs.RingProofs.Splits.{split_now}
use Rattle.sc_law_entries.proofs.RingProofs.Decisions.{born_too}
use Rattle.sc_law_entries.proofs.RingProofs.RequestsAndOrders.{Kept, idle, named_cases, lock_taken, watch_settled}
use Rattle.sc_law_entries.proofs.RingProofs.Finds.{some_none}

-- ---- a split

split_cut : (core : Core) (at : ℕ) → split_refused core at ≡ None → IsCut core.arc at
split_cut core at e =
    elim (cases_Bool ((at == core.arc.lo) || not (holds core.arc at))) [
      | inl t ↦ absurd (some_none BadBoundary (sym (cond-true ((at == core.arc.lo) || not (holds core.arc at)) (Some BadBoundary) _ t) ∙ e))
      | inr t ↦ (
          let p = or_parts (at == core.arc.lo) (not (holds core.arc at)) t in
          record { held = ltb-true (offset core.arc at) core.arc.len (not-false (holds core.arc at) p.1); inside = eqb-false at core.arc.lo p.0 })
    ]

module _ (owner : Draw → Option Draw) (ring : Ring) (gs : Groups) (ys : Stories) (g : Draw) (s : Group) (k : Kept owner ring gs ys) (fact : gs g ≡ Some s) where
  abbrev Divides : ℕ → Draw → ℕ → Group × Effect → Type 0
  Divides at child order r =
      Kept owner (ring_cut (division_of s.core (Split at child order) r.1) ring s.core.id) (born_too s (put gs g (Some r.0)) (division_of s.core (Split at child order) r.1)) (stories_after s (Split at child order) r.1 ys)

  pub split_kept : (at : ℕ) (child : Draw) (order : ℕ) → owner child ≡ Some g → at < 2 ^ 32 → Divides at child order (ordered_by (Some child) (refusal_of s.core (Split at child order)) (split_group s at child order) s)
  split_kept at child order mine fits =
      let named = (k.0.group g s fact).named in
      let div : Division = record { at = at; child = child } in
      let story = new_story s (At.Split at child) in
      named_cases (Divides at child order) s (split_group s at child order) child (Split at child order)
      (λ e q. subst (λ b. Kept owner (ring_cut (cond (b && is_alone s.core) (Some div) None) ring s.core.id) (born_too s (put gs g (Some s)) (cond (b && is_alone s.core) (Some div) None)) (cond (b && not (is_alone s.core)) (put ys child (Some story)) ys))
      (sym q) (idle owner ring gs ys g s k fact))
      (λ o n. (
      let cut = split_cut s.core at o.fit in
      let fresh = draw_new gs ys owner g child s k.0 mine fact o.free n.undecided (ys child) refl in
      let none = group_none gs ys owner g child s k.0 mine fact n.unborn (gs child) refl in
      let l = left_group s at child in
      let b = begun_group s child (At.Split at child) order in
      let gc : child ≡ g → ⊥ = λ q. some_none s (sym fact ∙ ap gs (sym q) ∙ none) in
      let Q : Bool → Type 0 = λ a. Kept owner (ring_cut (cond a (Some div) None) ring s.core.id) (born_too s (put gs g (Some (cond a l b))) (cond a (Some div) None)) (cond (not a) (put ys child (Some story)) ys) in
      elim (cases_Bool (is_alone s.core)) [
        | inl t ↦ subst Q (sym t) (
          born_facts (put gs g (Some l)) ys owner g child l (group_of (child_of s at child))
              (plain_facts gs ys owner g s l k.0 fact (inl o.free) (record { id = refl; lock = refl; here = refl; decided = λ t. refl; voted = λ t. refl; born = λ h e. any_keeps (λ c. same_draw c h) s.core.born (child ∷ []) e }))
              (at-other gs g (Some l) child gc ∙ none) refl refl mine (at-same gs g (Some l)) (any_new (λ c. same_draw c child) s.core.born child (same_name child child refl))
              (λ y p c there e u. some_none y (sym there ∙ fresh)),
          subst (λ m. Good (ring_cut (Some div) ring m) (Old (put (put gs g (Some l)) child (Some (group_of (child_of s at child)))) ys)) (sym named)
              (split_now ring gs ys g s at child fact o.free o.here named t none fits cut.held cut.inside k.1),
        )
        | inr t ↦ subst Q (sym t) (lock_taken owner ring gs ys g s k fact child (At.Split at child) order o.free o.here fresh mine (λ p c e. none)
            (λ e. names_differ s.core.succ.group s.core.id t (e ∙ sym named)) (fits, refl))
      ]))

-- ---- the end

-- what an outcome leaves of a participant keeps its name and notes
record IsSame (s after : Group) : Type 0 where
  id : after.core.id ≡ s.core.id
  decided : after.core.decided ≡ s.core.decided
  voted : after.core.voted ≡ s.core.voted
  born : after.core.born ≡ s.core.born

same_self : (s : Group) → IsSame s s
same_self s = record { id = refl; decided = refl; voted = refl; born = refl }

same_made : (s x after : Group) → IsSame s x → Some x ≡ Some after → IsSame s after
same_made s x after k e = subst (IsSame s) (same_Some x after e) k

none_made : (s after : Group) → None ≡ Some after → IsSame s after
none_made s after e = absurd (let f : None ≡ Some after = e in cc)

participant_same : (o : Outcome) (s : Group) (offer : Offer) (after : Group) → participant_after o s offer ≡ Some after → IsSame s after
participant_same Abort s offer after e = same_made s s after (same_self s) e
participant_same (Merged into) s offer after e = same_made s _ after (record { id = refl; decided = refl; voted = refl; born = refl }) e
participant_same (Moved at (Some gift)) s offer after e =
    cond_both (can_gain s.core offer at && not (has_key_of s.pairs gift.pairs)) (Some (gained_group s offer at gift)) None (λ (o : Option Group). o ≡ Some after → IsSame s after)
    (λ t q. same_made s (gained_group s offer at gift) after (record { id = refl; decided = refl; voted = refl; born = refl }) q) (λ t q. none_made s after q) e
participant_same (Moved at None) s offer after e =
    cond_both (can_cut s.core.arc at) (Some (lost_group s at)) None (λ (o : Option Group). o ≡ Some after → IsSame s after)
    (λ t q. same_made s (lost_group s at) after (record { id = refl; decided = refl; voted = refl; born = refl }) q) (λ t q. none_made s after q) e
participant_same (Migrated node) s offer after e =
    cond_both (nat_le (length (united s.core.members (node ∷ []))) 9) (Some (welcomed_group s node)) None (λ (o : Option Group). o ≡ Some after → IsSame s after)
    (λ t q. same_made s (welcomed_group s node) after (record { id = refl; decided = refl; voted = refl; born = refl }) q) (λ t q. none_made s after q) e
participant_same Divided s offer after e = none_made s after e

end_of_party : (s after : Group) (tx : Draw) → IsSame s after → IsEnd s (party_freed after tx)
end_of_party s after tx k = record {
  id = k.id;
  free = refl;
  decided = λ t. ap (list_any (λ decision. same_draw decision.0 t)) k.decided;
  voted = λ t e. ended_keeps after.core tx t (subst (λ l. list_any (is_vote_on t) l ≡ true) (sym k.voted) e);
  born = λ h e. subst (λ l. list_any (λ c. same_draw c h) l ≡ true) (sym k.born) e;
}

not_commit : (o : Outcome) → is_commit o ≡ false → o ≡ Abort
not_commit Abort e = refl
not_commit _ e = absurd (let f : true ≡ false = e in cc)

promised_apart : (l : Lock) (t : Draw) (offer : Offer) (body : Body) (tx : Draw) (order : ℕ) (heard : Option Heard) → l ≡ Promised t offer → l ≡ Coordinating tx body order heard → ⊥
promised_apart l t offer body tx order heard a b = let e = sym a ∙ b in cc

watching_apart : (l : Lock) (t : Draw) (watch : Watch) (body : Body) (tx : Draw) (order : ℕ) (heard : Option Heard) → l ≡ Watching t watch → l ≡ Coordinating tx body order heard → ⊥
watching_apart l t watch body tx order heard a b = let e = sym a ∙ b in cc

module _ (owner : Draw → Option Draw) (ring : Ring) (gs : Groups) (ys : Stories) (g : Draw) (s : Group) (k : Kept owner ring gs ys) (fact : gs g ≡ Some s) where
  abbrev Finishes : Group × Effect → Type 0
  Finishes r = Kept owner ring (put gs g (Some r.0)) ys

  -- the effective record is what the end leaves
  end_kept : (tx : Draw) (o : Outcome) (y : Story) (s' : Group) → ys tx ≡ Some y → y.outcome ≡ Some o → IsOf s.core.lock tx → ((body : Body) (order : ℕ) (heard : Option Heard) → s.core.lock ≡ Coordinating tx body order heard → ⊥)
      → IsEnd s s' → Alike (eff (decisions ys) (Some s)) (eff (decisions ys) (Some s')) → Kept owner ring (put gs g (Some s')) ys
  end_kept tx o y s' there out of other ends alike = (
    finish_facts gs ys owner g s s' tx y o k.0 fact of other there out ends,
    whole_change ring gs ys ys g s s' fact (λ t. like_same (decisions ys t) (decisions ys t) refl) alike k.1,
  )

  -- a party whose transaction is aborted stays as it is
  abort_alike : (tx : Draw) (a : Group) → s.core.gone ≡ None → eff (decisions ys) (Some s) ≡ living s → (a.core.arc ≡ s.core.arc) × (a.core.succ.group ≡ s.core.succ.group) × (a.core.pred.group ≡ s.core.pred.group) × (a.pairs ≡ s.pairs) × (a.core.gone ≡ s.core.gone)
      → Alike (eff (decisions ys) (Some s)) (eff (decisions ys) (Some (party_freed a tx)))
  abort_alike tx a here e same =
      let x = e ∙ living_is s here in
      let z : eff (decisions ys) (Some (party_freed a tx)) ≡ Some (party_freed a tx) = living_is (party_freed a tx) (same.4 ∙ here) in
      (ap arc_of x ∙ ap Some (sym same.0) ∙ sym (ap arc_of z), ap succ_of x ∙ sym same.1 ∙ sym (ap succ_of z), ap pred_of x ∙ sym same.2 ∙ sym (ap pred_of z), ap pairs_of x ∙ sym same.3 ∙ sym (ap pairs_of z))

  party_kept : (t tx : Draw) (offer : Offer) (o : Outcome) (y : Story) → ys tx ≡ Some y → y.outcome ≡ Some o → s.core.lock ≡ Promised t offer → t ≡ tx → (z : Option Group) → participant_after o s offer ≡ z → Finishes (settled_in z s tx o)
  party_kept t tx offer o y there out e q None m = idle owner ring gs ys g s k fact
  party_kept t tx offer o y there out e q (Some after) m =
      let lock : s.core.lock ≡ Promised tx offer = e ∙ ap (λ n. Promised n offer) q in
      let here = (subst (LockOk ys g s) lock (k.0.group g s fact).lock_ok).here in
      let recorded : decisions ys tx ≡ Some o = ap outcome_of there ∙ out in
      let eff_s : eff (decisions ys) (Some s) ≡ living (after_outcome (Some o) tx s) = eff_by (decisions ys) s (Promised tx offer) lock ∙ ap (λ x. living (after_outcome x tx s)) recorded in
      end_kept tx o y (party_freed after tx) there out (subst (λ l. IsOf l tx) (sym lock) refl) (λ body order heard w. promised_apart s.core.lock tx offer body tx order heard lock w)
      (end_of_party s after tx (participant_same o s offer after m))
      (elim (cases_Bool (is_commit o)) [
        | inl c ↦ alike_same _ _ (eff_s ∙ ap living (promise_settled o tx s offer c lock) ∙ ap (λ x. living (settled_in x s tx o).0) m)
        | inr c ↦ (
            let a = not_commit o c in
            let same : s ≡ after = same_Some s after (ap (λ x. participant_after x s offer) (sym a) ∙ m) in
            abort_alike tx after here (eff_s ∙ ap (λ x. living (after_outcome (Some x) tx s)) a)
            (ap (λ (x : Group). x.core.arc) (sym same), ap (λ (x : Group). x.core.succ.group) (sym same), ap (λ (x : Group). x.core.pred.group) (sym same), ap (λ (x : Group). x.pairs) (sym same), ap (λ (x : Group). x.core.gone) (sym same)))
      ])

  watcher_kept : (t tx : Draw) (watch : Watch) (o : Outcome) (y : Story) → ys tx ≡ Some y → y.outcome ≡ Some o → s.core.lock ≡ Watching t watch → t ≡ tx → Finishes (watch_ended o s tx watch)
  watcher_kept t tx watch o y there out e q =
      let lock : s.core.lock ≡ Watching tx watch = e ∙ ap (λ n. Watching n watch) q in
      let here = (subst (LockOk ys g s) lock (k.0.group g s fact).lock_ok).here in
      let recorded : decisions ys tx ≡ Some o = ap outcome_of there ∙ out in
      let eff_s : eff (decisions ys) (Some s) ≡ living (after_outcome (Some o) tx s) = eff_by (decisions ys) s (Watching tx watch) lock ∙ ap (λ x. living (after_outcome x tx s)) recorded in
      let w = watcher_after o s watch in
      end_kept tx o y (party_freed w tx) there out (subst (λ l. IsOf l tx) (sym lock) refl) (λ body order heard z. watching_apart s.core.lock tx watch body tx order heard lock z)
      (end_of_party s w tx (record { id = refl; decided = refl; voted = refl; born = refl }))
      (elim (cases_Bool (is_commit o)) [
        | inl c ↦ alike_same _ _ (eff_s ∙ ap living (watch_settled o tx s watch c lock))
        | inr c ↦ (
            let a = not_commit o c in
            abort_alike tx w here (eff_s ∙ ap (λ x. living (after_outcome (Some x) tx s)) a)
            (refl, refl, ap (λ x. (watcher_after x s watch).core.pred.group) a, refl, refl))
      ])

  pub finish_kept : (tx : Draw) (o : Outcome) (y : Story) → ys tx ≡ Some y → y.outcome ≡ Some o → (l : Lock) → s.core.lock ≡ l → Finishes (finished l s tx o)
  finish_kept tx o y there out Free e = idle owner ring gs ys g s k fact
  finish_kept tx o y there out (Coordinating t body order heard) e = idle owner ring gs ys g s k fact
  finish_kept tx o y there out (Promised t offer) e =
      cond_both (same_draw t tx) _ _ Finishes
      (λ q. party_kept t tx offer o y there out e (draw_is t tx q) (participant_after o s offer) refl) (λ q. idle owner ring gs ys g s k fact)
  finish_kept tx o y there out (Watching t watch) e =
      cond_both (same_draw t tx) _ _ Finishes
      (λ q. watcher_kept t tx watch o y there out e (draw_is t tx q)) (λ q. idle owner ring gs ys g s k fact)
