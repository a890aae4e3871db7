-- A group that has promised stays bound until the end of its transaction.
use Rattle.std.proofs.Common.{◌≡◌, ℕ, ◌⊎◌, true, cond, nat_le, length, [], ◌∷◌, Option, Some, None, inl, inr, refl, sym, ◌∙◌, ap, subst}
use Rattle.std.proofs.lemmas.Bool.{cond_both}
use Rattle.std.proofs.lemmas.Option.{none-some, same_Some}
use Rattle.sc_base.specs.Definitions.{same_draw, is_member, united}
use Rattle.sc_node_table.specs.Values.{Draw, Offer, Command, Noop, Call, Join, Leave, Split, Begin, Prepared, RecordVote, GiveUp, Finish, Watched, RecordWatch, Core, Lock, Promised, Watching, Effect, Route, OrderRefusal, No, Outcome, Migrated}
use Rattle.sc_base.proofs.Lemmas.{draw_is}
use Rattle.sc_words.specs.declared.commands.effects.Effect.TheVariants as Was
use Rattle.sc_group_table.specs.machine.MachineDefinitions.{Group, applied, ordered_by, split_group, locked_in, refused_in, refusal_of, ordered, with_node, without_node, has_named, begun_group, vote_recorded, is_coordinating, aborted, watch_recorded, has_voted, no_of, offer_no, watch_no, vote_of, watch_vote_of, voted_on, welcomed_group, participant_after, party_freed, settled_in, finished}
use Rattle.sc_law_entries.proofs.RingProofs.RingLemmas.{some_none}
use Rattle.sc_live_answers.proofs.LinksProofs.LinkOutcomes.{united_has}
use Rattle.sc_live_answers.proofs.ReplicasProofs.Cores.{called_core}

-- ---- a participant stays bound until the end of its transaction

module _ (p : Group) (tx : Draw) (offer : Offer) (lock : p.core.lock ≡ Promised tx offer) where
  -- it ends by an outcome that it can take over
  pub record EndsSo (command : Command) (after : Group) : Type 0 where
    pub outcome : Outcome
    pub left : Group
    pub by : command ≡ Finish tx outcome
    pub takes : participant_after outcome p offer ≡ Some left
    pub fact : after ≡ party_freed left tx

  abbrev pub StaysOrEnds : Command → Group → Type 0
  StaysOrEnds command after = (after.core.lock ≡ Promised tx offer) ⊎ EndsSo command after

  as_was : (command : Command) (after : Group) → after.core.lock ≡ p.core.lock → StaysOrEnds command after
  as_was command after e = inl (e ∙ lock)

  refused : (gone : Option Route) (why : Option OrderRefusal) (reason : OrderRefusal) (after : Group) → why ≡ Some reason → (ordered gone why after p).0 ≡ p
  refused (Some into) why reason after e = refl
  refused None None reason after e = absurd (none-some reason e)
  refused None (Some w) reason after e = refl

  ordered_stays : (command : Command) (after : Group) → (ordered p.core.gone (refusal_of p.core command) after p).0.core.lock ≡ p.core.lock
  ordered_stays command after = ap (λ (g : Group). g.core.lock) (refused p.core.gone (refusal_of p.core command) _ after (ap (λ l. refused_in (locked_in l) p.core command) lock))

  drawn_stays : (draw : Draw) (command : Command) (after : Group) → (ordered_by (Some draw) (refusal_of p.core command) after p).0.core.lock ≡ p.core.lock
  drawn_stays draw command after = cond_both (has_named p.core draw) (p, Was.NoEffect draw) _ (λ (r : Group × Effect). r.0.core.lock ≡ p.core.lock) (λ _. refl) (λ _. ordered_stays command after)

  voted_stays : (why : Option No) (bond : Lock) (t : Draw) → (why ≡ None → ⊥) → (voted_on why bond p t).0.core.lock ≡ p.core.lock
  voted_stays None bond t some = absurd (some refl)
  voted_stays (Some w) bond t some = cond_both (has_voted p.core t) (p, Was.NoEffect t) _ (λ (r : Group × Effect). r.0.core.lock ≡ p.core.lock) (λ _. refl) (λ _. refl)

  bound_no : (gone : Option Route) (l : Lock) (why : Option No) → l ≡ Promised tx offer → no_of gone (locked_in l) why ≡ None → ⊥
  bound_no gone l why e none = by gone (sym (ap (λ k. no_of gone (locked_in k) why) e) ∙ none)
    where
      by : (o : Option Route) → no_of o (Some tx) why ≡ None → ⊥
      by None q = some_none _ q
      by (Some into) q = some_none _ q

  module _ (t : Draw) (o : Outcome) where
    settled_ends : t ≡ tx → (left : Option Group) → participant_after o p offer ≡ left → StaysOrEnds (Finish t o) (settled_in left p t o).0
    settled_ends same None takes = as_was (Finish t o) p refl
    settled_ends same (Some left) takes = inr (record { outcome = o; left = left; by = ap (λ d. Finish d o) same; takes = takes; fact = ap (party_freed left) same })

    finish_ends : StaysOrEnds (Finish t o) (applied p (Finish t o)).0
    finish_ends =
        subst (λ l. StaysOrEnds (Finish t o) (finished l p t o).0) (sym lock)
        (cond_both (same_draw tx t) (settled_in (participant_after o p offer) p t o) (p, Was.NoEffect t) (λ (r : Group × Effect). StaysOrEnds (Finish t o) r.0)
        (λ e. settled_ends (sym (draw_is tx t e)) (participant_after o p offer) refl) (λ _. as_was (Finish t o) p refl))

  pub stays_or_ends : (command : Command) → StaysOrEnds command (applied p command).0
  stays_or_ends Noop = as_was Noop p refl
  stays_or_ends (Call client seq op) = as_was (Call client seq op) (applied p (Call client seq op)).0 (ap (λ (c : Core). c.lock) (called_core p.core.gone p.core.lock p client seq op))
  stays_or_ends (Join node order) = as_was (Join node order) (applied p (Join node order)).0 (ordered_stays (Join node order) (with_node p node))
  stays_or_ends (Leave node order) = as_was (Leave node order) (applied p (Leave node order)).0 (ordered_stays (Leave node order) (without_node p node))
  stays_or_ends (Split at child order) = as_was (Split at child order) (applied p (Split at child order)).0 (drawn_stays child (Split at child order) (split_group p at child order))
  stays_or_ends (Begin t body order) = as_was (Begin t body order) (applied p (Begin t body order)).0 (drawn_stays t (Begin t body order) (begun_group p t body order))
  stays_or_ends (Prepared t other) = as_was (Prepared t other) (applied p (Prepared t other)).0 (voted_stays (vote_of p.core other) (Promised t other) t (bound_no p.core.gone p.core.lock (offer_no p.core other) lock))
  stays_or_ends (Watched t watch) = as_was (Watched t watch) (applied p (Watched t watch)).0 (voted_stays (watch_vote_of p.core watch) (Watching t watch) t (bound_no p.core.gone p.core.lock (watch_no p.core watch) lock))
  stays_or_ends (RecordVote t vote by) = as_was (RecordVote t vote by) (applied p (RecordVote t vote by)).0 (ap (λ l. (vote_recorded l p t vote by).0.core.lock) lock)
  stays_or_ends (RecordWatch t vote by) = as_was (RecordWatch t vote by) (applied p (RecordWatch t vote by)).0 (ap (λ l. (watch_recorded l p t vote).0.core.lock) lock)
  stays_or_ends (GiveUp t) = as_was (GiveUp t) (applied p (GiveUp t)).0 (ap (λ l. (cond (is_coordinating l t) (aborted p t) (p, Was.NoEffect t)).0.core.lock) lock)
  stays_or_ends (Finish t o) = finish_ends t o

  -- one that takes a node in has it for a member then
  pub takes_node : (node : ℕ) (left : Group) → participant_after (Migrated node) p offer ≡ Some left → is_member left.core.members node ≡ true
  takes_node node left e =
      cond_both (nat_le (length (united p.core.members (node ∷ []))) 9) (Some (welcomed_group p node)) None (λ (o : Option Group). o ≡ Some left → is_member left.core.members node ≡ true)
      (λ _ q. subst (λ (g : Group). is_member g.core.members node ≡ true) (same_Some (welcomed_group p node) left q) (united_has p.core.members node)) (λ _ q. absurd (none-some left q)) e
