-- The replicas of a node, and which of them is a group's.
use Rattle.std.proofs.Common.{◌≡◌, ℕ, false, List, [], ◌∷◌, ◌++◌, Some, None, ◌⊎◌, inl, inr, sym, ◌∙◌, ap, subst}
use Rattle.std.proofs.lemmas.Bool.{cases_Bool, cond-true, cond-false, cond_both}
use Rattle.sc_base.specs.Definitions.{Among, Each, same_draw}
use Rattle.sc_node_table.specs.Values.{Draw, Command, Base}
use Rattle.sc_base.proofs.Lemmas.{same_name, draw_is}
use Rattle.sc_meaning.proofs.EntriesProofs.EntryLemmas.{names_differ}
use Rattle.sc_node_table.specs.NodeDefinitions.{replica_of, with_replica, is_before, with_new, ReplicaState, name_of}
use Rattle.sc_words.proofs.PaxosProofs.PaxosLemmas.{Each-among}
use Rattle.sc_meaning.specs.sound.SoundDefinitions.{Ahead}
use Rattle.sc_law_groups.proofs.GroupProofs.Growth.{By, IsFresh, fresh_on}
use Rattle.sc_law_groups.proofs.GroupProofs.Invariant.{Steps, IsReplica, more_made, other_steps}

-- a replica of another group
abbrev pub IsOther : Draw → ReplicaState → Type 0
IsOther name r = name_of r ≡ name → ⊥

other_false : (name : Draw) (r : ReplicaState) → IsOther name r → same_draw (name_of r) name ≡ false
other_false name r other =
    elim (cases_Bool (same_draw (name_of r) name)) [ inl t ↦ absurd (other (draw_is (name_of r) name t)) | inr f ↦ f ]

-- each replica and the new value of one
pub each_with : (P : ReplicaState → Type 0) (g : Draw) (new : ReplicaState) (rs : List ReplicaState) → Each P rs → P new → Each P (with_replica g new rs)
each_with P g new [] e p = tt
each_with P g new (r ∷ rs) e p = cond_both (same_draw (name_of r) g) (new ∷ rs) (r ∷ with_replica g new rs) (Each P) (λ _. (p, e.1)) (λ _. (e.0, each_with P g new rs e.1 p))

-- each replica and a new one
pub each_new : (P : ReplicaState → Type 0) (new : ReplicaState) (rs : List ReplicaState) → Each P rs → P new → Each P (with_new new rs)
each_new P new [] e p = (p, tt)
each_new P new (r ∷ rs) e p = cond_both (is_before (name_of r) (name_of new)) (r ∷ with_new new rs) (new ∷ r ∷ rs) (Each P) (λ _. (e.0, each_new P new rs e.1 p)) (λ _. (p, e))

module _ (ahead : Ahead) (base : Base) (made : Command → Type 0) (me : ℕ) where
  abbrev name : Draw
  name = base.core.id

  -- of these replicas one is the group's and as the steps say, or none is and the node has taken no step
  abbrev pub Holds : Steps → List ReplicaState → Type 0
  Holds h [] = IsFresh me h
  Holds h (r ∷ rs) = ((name_of r ≡ name) × IsReplica ahead base made h me r × Each (IsOther name) rs) ⊎ (IsOther name r × Holds h rs)

  -- where none is the group's
  pub holds_none : (h : Steps) (rs : List ReplicaState) → Each (IsOther name) rs → IsFresh me h → Holds h rs
  holds_none h [] none fresh = fresh
  holds_none h (r ∷ rs) none fresh = inr (none.0, holds_none h rs none.1 fresh)

  -- steps of others
  pub still_holds : (other : ℕ) (newer h : Steps) → Each (By other) newer → (other ≡ me → ⊥) → (rs : List ReplicaState) → Holds h rs → Holds (newer ++ h) rs
  still_holds other newer h by ne [] fresh = fresh_on me other newer h by ne fresh
  still_holds other newer h by ne (r ∷ rs) (inl (e, k, none)) = inl (e, other_steps ahead base made me other newer h r by ne k, none)
  still_holds other newer h by ne (r ∷ rs) (inr (o, holds)) = inr (o, still_holds other newer h by ne rs holds)

  -- the replica with the group's name is as the steps say
  pub held : (h : Steps) (rs : List ReplicaState) → Holds h rs → (r : ReplicaState) → Among r rs → name_of r ≡ name → IsReplica ahead base made h me r
  held h [] fresh r a e = absurd a
  held h (s ∷ rs) (inl (fact, k, none)) r (inl same) e = subst (IsReplica ahead base made h me) same k
  held h (s ∷ rs) (inl (fact, k, none)) r (inr a) e = absurd (Each-among (IsOther name) rs r none a e)
  held h (s ∷ rs) (inr (o, holds)) r (inl same) e = absurd (o (ap (λ (x : ReplicaState). name_of x) same ∙ e))
  held h (s ∷ rs) (inr (o, holds)) r (inr a) e = held h rs holds r a e

  -- where none is found, the node has taken no step
  pub none_held : (h : Steps) (g : Draw) → g ≡ name → (rs : List ReplicaState) → Holds h rs → replica_of g rs ≡ None → Each (IsOther name) rs × IsFresh me h
  none_held h g fact [] fresh e = (tt, fresh)
  none_held h g fact (r ∷ rs) (inl (named, k, none)) e =
      let found : replica_of g (r ∷ rs) ≡ Some r = cond-true (same_draw (name_of r) g) (Some r) (replica_of g rs) (same_name (name_of r) g (named ∙ sym fact)) in
      let no_way : Some r ≡ None = sym found ∙ e in
      absurd (cc)
  none_held h g fact (r ∷ rs) (inr (o, holds)) e =
      let out = other_false g r (λ same. o (same ∙ fact)) in
      let later = none_held h g fact rs holds (sym (cond-false (same_draw (name_of r) g) (Some r) (replica_of g rs) out) ∙ e) in
      ((o, later.0), later.1)

  -- its replica takes another value
  pub with_held : (h after : Steps) (g : Draw) → g ≡ name → (new : ReplicaState) → name_of new ≡ name → IsReplica ahead base made after me new
      → (rs : List ReplicaState) (r : ReplicaState) → Holds h rs → replica_of g rs ≡ Some r → Holds after (with_replica g new rs)
  with_held h after g fact new named k [] r fresh e = cc
  with_held h after g fact new named k (s ∷ rs) r (inl (mine, was, none)) e =
      subst (Holds after) (sym (cond-true (same_draw (name_of s) g) (new ∷ rs) (s ∷ with_replica g new rs) (same_name (name_of s) g (mine ∙ sym fact)))) (inl (named, k, none))
  with_held h after g fact new named k (s ∷ rs) r (inr (o, holds)) e =
      let out = other_false g s (λ same. o (same ∙ fact)) in
      subst (Holds after) (sym (cond-false (same_draw (name_of s) g) (new ∷ rs) (s ∷ with_replica g new rs) out))
      (inr (o, with_held h after g fact new named k rs r holds (sym (cond-false (same_draw (name_of s) g) (Some s) (replica_of g rs) out) ∙ e)))

  -- a replica of another group takes another value
  pub with_far : (h : Steps) (g : Draw) → same_draw g name ≡ false → (new : ReplicaState) → IsOther name new → (rs : List ReplicaState) → Holds h rs → Holds h (with_replica g new rs)
  with_far h g far new other [] fresh = fresh
  with_far h g far new other (s ∷ rs) (inl (mine, k, none)) =
      cond_both (same_draw (name_of s) g) (new ∷ rs) (s ∷ with_replica g new rs) (Holds h)
      (λ t. absurd (names_differ g name far (sym (draw_is (name_of s) g t) ∙ mine)))
      (λ _. inl (mine, k, each_with (IsOther name) g new rs none other))
  with_far h g far new other (s ∷ rs) (inr (o, holds)) =
      cond_both (same_draw (name_of s) g) (new ∷ rs) (s ∷ with_replica g new rs) (Holds h) (λ _. inr (other, holds)) (λ _. inr (o, with_far h g far new other rs holds))

  -- a replica of the group is made
  pub new_held : (h : Steps) (new : ReplicaState) → name_of new ≡ name → IsReplica ahead base made h me new → (rs : List ReplicaState) → Each (IsOther name) rs → Holds h (with_new new rs)
  new_held h new named k [] none = inl (named, k, tt)
  new_held h new named k (r ∷ rs) none =
      cond_both (is_before (name_of r) (name_of new)) (r ∷ with_new new rs) (new ∷ r ∷ rs) (Holds h) (λ _. inr (none.0, new_held h new named k rs none.1)) (λ _. inl (named, k, none))

  -- one of another group is made
  pub new_far : (h : Steps) (new : ReplicaState) → IsOther name new → (rs : List ReplicaState) → Holds h rs → Holds h (with_new new rs)
  new_far h new other [] fresh = inr (other, fresh)
  new_far h new other (r ∷ rs) (inl (mine, k, none)) =
      cond_both (is_before (name_of r) (name_of new)) (r ∷ with_new new rs) (new ∷ r ∷ rs) (Holds h)
      (λ _. inl (mine, k, each_new (IsOther name) new rs none other)) (λ _. inr (other, inl (mine, k, none)))
  new_far h new other (r ∷ rs) (inr (o, holds)) =
      cond_both (is_before (name_of r) (name_of new)) (r ∷ with_new new rs) (new ∷ r ∷ rs) (Holds h) (λ _. inr (o, new_far h new other rs holds)) (λ _. inr (other, inr (o, holds)))

-- what is known of requests may grow
pub more_holds : (ahead : Ahead) (base : Base) (made more : Command → Type 0) → ((c : Command) → made c → more c) → (me : ℕ) (h : Steps) (rs : List ReplicaState) → Holds ahead base made me h rs → Holds ahead base more me h rs
more_holds ahead base made more f me h [] fresh = fresh
more_holds ahead base made more f me h (r ∷ rs) (inl (e, k, none)) = inl (e, more_made ahead base made more f h me r k, none)
more_holds ahead base made more f me h (r ∷ rs) (inr (o, holds)) = inr (o, more_holds ahead base made more f me h rs holds)
