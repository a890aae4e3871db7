-- The replicas of a group after one more row: those of the others stay, and the one of who acts is what its table makes of it.
use Rattle.std.proofs.Common.{◌≡◌, ℕ, eqb, true, true≢false, cond, List, [], ◌∷◌, ◌++◌, find, Option, Some, None, inl, inr, refl, sym, ◌∙◌, ap, subst}
use Rattle.std.specs.Prelude.{is_some}
use Rattle.std.proofs.lemmas.Bool.{cases_Bool, cond_both, cond-true, cond-false, ne_eqb, eq-eqb}
use Rattle.sc_base.specs.Definitions.{same_draw, is_member}
use Rattle.sc_node_table.specs.Values.{Draw, Base, OrderLine, Mail, Seat, Event, Input, Row}
use Rattle.sc_base.proofs.Lemmas.{draw_is, same_name}
use Rattle.sc_actor.specs.Definitions.{mails, value, acted, input_of, row_of}
use Rattle.sc_actor.proofs.Lemmas.{find-who, value-snoc}
use Rattle.sc_node_table.specs.NodeDefinitions.{NodeState, replica_of, is_before, with_new, with_born, with_children, ReplicaState, name_of, born_replica, slots_ahead}
use Rattle.sc_meaning.specs.sound.SoundDefinitions.{Player, player_table}
use Rattle.sc_live_steps.specs.calm.CalmDefinitions.{Rows}
use Rattle.sc_live_steps.proofs.CalmStepsProofs.CalmStepLemmas.{apart}
use Rattle.sc_law_walks.proofs.WalkLemmas.{either_way}
use Rattle.sc_live_journals.specs.rows.RowDefinitions.{replicas_of, replica_in, view_at, next_in, promise_in, IsSeat, with_event, IsBornOr, AreAsBegun}
pub use Rattle.sc_live_steps.proofs.CalmStepsProofs.UntakenPotential.{new_is}

-- ---- journals

-- a player who does not act keeps its replicas
module _ (births : List (Seat Player)) (rows : Rows) (row : Row Mail OrderLine) (name : Draw) where
  others_by : (who : ℕ) → (who ≡ row.who → ⊥) → (o : Option (Seat Player)) → find (λ other. eqb other.who who) births ≡ o → replica_in name (rows ++ row ∷ []) o ≡ replica_in name rows o
  others_by who ne None e = refl
  others_by who ne (Some seat) e =
      let number : seat.who ≡ who = find-who births who seat e in
      ap (λ (p : Player). replica_of name (replicas_of p))
      (value-snoc player_table seat rows row
      ∙ ap (λ b. cond b (acted player_table (value player_table seat rows) (input_of (mails rows) row.event)).0 (value player_table seat rows)) (ne_eqb row.who seat.who (λ e2. ne (sym number ∙ sym e2))))

  pub view_others : (who : ℕ) → (who ≡ row.who → ⊥) → view_at births (rows ++ row ∷ []) name who ≡ view_at births rows name who
  view_others who ne = others_by who ne (find (λ other. eqb other.who who) births) refl

-- who acts has what its table makes of it
module _ (births : List (Seat Player)) (rows : Rows) (seat : Seat Player) (event : Event OrderLine) (name : Draw) (born : IsSeat births seat) where
  pub view_was : (player : Player) → value player_table seat rows ≡ player → view_at births rows name seat.who ≡ replica_of name (replicas_of player)
  view_was player fact = ap (replica_in name rows) born ∙ ap (λ (p : Player). replica_of name (replicas_of p)) fact

  pub turned : (player : Player) → value player_table seat rows ≡ player → value player_table seat (with_event rows seat event) ≡ (acted player_table player (input_of (mails rows) event)).0
  turned player fact =
      value-snoc player_table seat rows (row_of player_table seat rows event)
      ∙ (ap (λ b. cond b (acted player_table (value player_table seat rows) (input_of (mails rows) event)).0 (value player_table seat rows)) (eq-eqb seat.who seat.who refl)
      ∙ ap (λ (p : Player). (acted player_table p (input_of (mails rows) event)).0) fact)

  pub view_is : (player : Player) → value player_table seat rows ≡ player → (o : Option (Input Mail OrderLine)) → input_of (mails rows) event ≡ o
      → view_at births (with_event rows seat event) name seat.who ≡ replica_of name (replicas_of (acted player_table player o).0)
  view_is player fact o e =
      ap (replica_in name (with_event rows seat event)) born
      ∙ ap (λ (p : Player). replica_of name (replicas_of p)) (turned player fact ∙ ap (λ i. (acted player_table player i).0) e)

  pub sent_is : (player : Player) → value player_table seat rows ≡ player → (o : Option (Input Mail OrderLine)) → input_of (mails rows) event ≡ o
      → (row_of player_table seat rows event).sent ≡ (acted player_table player o).1
  sent_is player fact o e = ap (λ (p : Player). (acted player_table p (input_of (mails rows) event)).1) fact ∙ ap (λ i. (acted player_table player i).1) e

-- ---- replicas of a node

-- one more of another name leaves the replica of this one
pub new_others : (name : Draw) (new : ReplicaState) (replicas : List ReplicaState) → (name_of new ≡ name → ⊥) → replica_of name (with_new new replicas) ≡ replica_of name replicas
new_others name new [] ne = cond-false (same_draw (name_of new) name) (Some new) None (apart (name_of new) name ne)
new_others name new (x ∷ replicas) ne =
    cond_both (is_before (name_of x) (name_of new)) (x ∷ with_new new replicas) (new ∷ x ∷ replicas) (λ l. replica_of name l ≡ cond (same_draw (name_of x) name) (Some x) (replica_of name replicas))
    (λ _. ap (λ (o : Option ReplicaState). cond (same_draw (name_of x) name) (Some x) o) (new_others name new replicas ne))
    (λ _. cond-false (same_draw (name_of new) name) (Some new) (cond (same_draw (name_of x) name) (Some x) (replica_of name replicas)) (apart (name_of new) name ne))

-- a child of another name leaves it
pub child_others : (name : Draw) (child : Base) (node : NodeState) → (child.core.id ≡ name → ⊥) → replica_of name (with_born child node).replicas ≡ replica_of name node.replicas
child_others name child node ne =
    cond_both (is_some (replica_of child.core.id node.replicas)) node (record node { replicas = with_new (born_replica slots_ahead node.me child) node.replicas }) (λ n. replica_of name n.replicas ≡ replica_of name node.replicas)
    (λ _. refl) (λ _. new_others name (born_replica slots_ahead node.me child) node.replicas ne)

pub child_me : (child : Base) (node : NodeState) → (with_born child node).me ≡ node.me
child_me child node = either_way (λ (n : NodeState). n.me ≡ node.me) (is_some (replica_of child.core.id node.replicas)) node (record node { replicas = with_new (born_replica slots_ahead node.me child) node.replicas }) refl refl

-- what a group's progress says of its replica
module _ (base : Base) (who : ℕ) where
  -- of two replicas the same, or of one and none
  abbrev pub Same : Option ReplicaState → Option ReplicaState → Type 0
  Same one other = (next_in base who one ≡ next_in base who other) × (promise_in base one ≡ promise_in base other)

  pub same_both : (one other : Option ReplicaState) → one ≡ other → Same one other
  same_both one other e = (ap (next_in base who) e, ap (promise_in base) e)

  same_then : (one two three : Option ReplicaState) → Same one two → Same two three → Same one three
  same_then one two three a b = (a.0 ∙ b.0, a.1 ∙ b.1)

  -- the group itself is created
  own_born : (node : NodeState) → node.me ≡ who → is_member base.core.members who ≡ true → Same (replica_of base.core.id (with_born base node).replicas) (replica_of base.core.id node.replicas)
  own_born node me fact = by (replica_of base.core.id node.replicas) refl
    where
      by : (o : Option ReplicaState) → replica_of base.core.id node.replicas ≡ o
          → Same (replica_of base.core.id (cond (is_some o) node (record node { replicas = with_new (born_replica slots_ahead node.me base) node.replicas })).replicas) (replica_of base.core.id node.replicas)
      by (Some r) e = (refl, refl)
      by None e =
          let born = new_is base.core.id (born_replica slots_ahead node.me base) node.replicas refl e in (
            ap (next_in base who) born ∙ (sym (cond-true (is_member base.core.members who) 1 0 fact) ∙ sym (ap (next_in base who) e)),
            ap (promise_in base) born ∙ sym (ap (promise_in base) e),
          )

  one_born : (child : Base) (node : NodeState) → node.me ≡ who → (child.core.id ≡ base.core.id → (child ≡ base) × (is_member base.core.members who ≡ true)) → Same (replica_of base.core.id (with_born child node).replicas) (replica_of base.core.id node.replicas)
  one_born child node me fits = elim (cases_Bool (same_draw child.core.id base.core.id)) [
    | inl t ↦ (let own = fits (draw_is child.core.id base.core.id t) in
        subst (λ (c : Base). Same (replica_of base.core.id (with_born c node).replicas) (replica_of base.core.id node.replicas)) (sym own.0) (own_born node me own.1))
    | inr f ↦ same_both (replica_of base.core.id (with_born child node).replicas) (replica_of base.core.id node.replicas)
        (child_others base.core.id child node (λ e. true≢false (sym (same_name child.core.id base.core.id e) ∙ f)))
  ]

  -- and others with it
  pub all_born : (children : List Base) (node : NodeState) → node.me ≡ who → AreAsBegun base who children → Same (replica_of base.core.id (with_children children node).replicas) (replica_of base.core.id node.replicas)
  unfolding with_children
  all_born [] node me fits = (refl, refl)
  all_born (child ∷ children) node me fits =
      same_then (replica_of base.core.id (with_children children (with_born child node)).replicas) (replica_of base.core.id (with_born child node).replicas) (replica_of base.core.id node.replicas)
      (all_born children (with_born child node) (child_me child node ∙ me) fits.1) (one_born child node me fits.0)

  -- ---- whether it is created

  then_or : (one two three : Option ReplicaState) → IsBornOr base who two three → IsBornOr base who one two → IsBornOr base who one three
  then_or one two three (inl e) (inl f) = inl (f ∙ e)
  then_or one two three (inl e) (inr born) = inr (sym e ∙ born.0, born.1)
  then_or one two three (inr born) (inl f) = inr (born.0, f ∙ born.1)
  then_or one two three (inr born) (inr again) = (let bad : None ≡ Some (born_replica slots_ahead who base) = sym again.0 ∙ born.1 in cc)

  own_or : (node : NodeState) → node.me ≡ who → IsBornOr base who (replica_of base.core.id (with_born base node).replicas) (replica_of base.core.id node.replicas)
  own_or node me = by (replica_of base.core.id node.replicas) refl
    where
      by : (o : Option ReplicaState) → replica_of base.core.id node.replicas ≡ o
          → IsBornOr base who (replica_of base.core.id (cond (is_some o) node (record node { replicas = with_new (born_replica slots_ahead node.me base) node.replicas })).replicas) (replica_of base.core.id node.replicas)
      by (Some r) e = inl refl
      by None e = inr (e, new_is base.core.id (born_replica slots_ahead node.me base) node.replicas refl e ∙ ap (λ n. Some (born_replica slots_ahead n base)) me)

  one_or : (child : Base) (node : NodeState) → node.me ≡ who → (child.core.id ≡ base.core.id → (child ≡ base) × (is_member base.core.members who ≡ true)) → IsBornOr base who (replica_of base.core.id (with_born child node).replicas) (replica_of base.core.id node.replicas)
  one_or child node me fits = elim (cases_Bool (same_draw child.core.id base.core.id)) [
    | inl t ↦ subst (λ (c : Base). IsBornOr base who (replica_of base.core.id (with_born c node).replicas) (replica_of base.core.id node.replicas)) (sym (fits (draw_is child.core.id base.core.id t)).0) (own_or node me)
    | inr f ↦ inl (child_others base.core.id child node (λ e. true≢false (sym (same_name child.core.id base.core.id e) ∙ f)))
  ]

  pub all_or : (children : List Base) (node : NodeState) → node.me ≡ who → AreAsBegun base who children → IsBornOr base who (replica_of base.core.id (with_children children node).replicas) (replica_of base.core.id node.replicas)
  unfolding with_children
  all_or [] node me fits = inl refl
  all_or (child ∷ children) node me fits =
      then_or (replica_of base.core.id (with_children children (with_born child node)).replicas) (replica_of base.core.id (with_born child node).replicas) (replica_of base.core.id node.replicas) (one_or child node me fits.0)
      (all_or children (with_born child node) (child_me child node ∙ me) fits.1)
