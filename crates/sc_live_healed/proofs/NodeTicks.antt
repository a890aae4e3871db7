-- What a node's tick does to its replica of a group: this replica ticks, and what others say is of other groups, where no two replicas of the node are of one group.
use Rattle.std.proofs.Common.{◌≡◌, false, true, List, [], ◌∷◌, ◌++◌, Option, Some, None, ◌⊎◌, inl, inr, refl, sym, ◌∙◌, ap, append_assoc, append-nil}
use Rattle.std.proofs.lemmas.Bool.{cond_both, cond-true, cond-false, cases_Bool}
use Rattle.sc_base.specs.Definitions.{Among, Each, Drawer, same_draw}
use Rattle.sc_base.proofs.Lemmas.{draw_is, same_name}
use Rattle.sc_words.proofs.PaxosProofs.PaxosLemmas.{Each-append, Each-weaker}
use Rattle.sc_node_table.specs.Values.{Draw, Base, Core, Mail}
use Rattle.sc_node_table.specs.NodeDefinitions.{NodeState, ReplicaState, Place, name_of, replica_of, with_replica, group_of_mail, ticked, tick_row, names_after_tick}
use Rattle.sc_live_healed.proofs.FixedWalks.{IsSaid}
use Rattle.sc_live_healed.proofs.FixedNodes.{AreFresh, IsOne, name_one, one_ticks}
use Rattle.sc_live_healed.proofs.NodeViews.{said_of}
use Rattle.sc_live_healed.specs.HealedDefinitions.{IsFixedNode}

-- ---- one of a name

-- none of these has the name
abbrev pub NoneNamed : {X : Type 0} → (X → Draw) → Draw → List X → Type 0
NoneNamed name_ name xs = Each (λ x. name_ x ≡ name → ⊥) xs

-- at most one of these has the name
abbrev pub OneNamed : {X : Type 0} → (X → Draw) → Draw → List X → Type 0
OneNamed name_ name [] = Unit {0}
OneNamed name_ name (x ∷ xs) = NoneNamed name_ name xs ⊎ ((name_ x ≡ name → ⊥) × OneNamed name_ name xs)

-- who is not found is not there
pub none_found : (name : Draw) (replicas : List ReplicaState) → replica_of name replicas ≡ None → NoneNamed name_of name replicas
none_found name [] e = tt
none_found name (r ∷ replicas) e =
    cond_both (same_draw (name_of r) name) (Some r) (replica_of name replicas) (λ (o : Option ReplicaState). o ≡ None → (replica_of name replicas ≡ None → NoneNamed name_of name replicas) → NoneNamed name_of name (r ∷ replicas))
    (λ t f more. absurd (cc)) (λ off f more. ((λ same. absurd (let t = same_name (name_of r) name same in cc)), more f)) e (none_found name replicas)

pub found_none : (name : Draw) (replicas : List ReplicaState) → NoneNamed name_of name replicas → replica_of name replicas ≡ None
found_none name [] n = refl
found_none name (r ∷ replicas) n =
    cond_both (same_draw (name_of r) name) (Some r) (replica_of name replicas) (λ (o : Option ReplicaState). (replica_of name replicas ≡ None) → o ≡ None)
    (λ t f. absurd (n.0 (draw_is (name_of r) name t))) (λ off f. f) (found_none name replicas n.1)

-- ---- a mail's replica in the place of one

pub put_none : (name group : Draw) (new : ReplicaState) (replicas : List ReplicaState) → name_of new ≡ group → NoneNamed name_of name replicas → NoneNamed name_of name (with_replica group new replicas)
put_none name group new [] same k = tt
put_none name group new (r ∷ replicas) same k =
    cond_both (same_draw (name_of r) group) (new ∷ replicas) (r ∷ with_replica group new replicas) (NoneNamed name_of name)
    (λ t. ((λ e. k.0 (draw_is (name_of r) group t ∙ (sym same ∙ e))), k.1)) (λ _. (k.0, put_none name group new replicas same k.1))

pub put_one : (name group : Draw) (new : ReplicaState) (replicas : List ReplicaState) → name_of new ≡ group → OneNamed name_of name replicas → OneNamed name_of name (with_replica group new replicas)
put_one name group new [] same k = tt
put_one name group new (r ∷ replicas) same k =
    cond_both (same_draw (name_of r) group) (new ∷ replicas) (r ∷ with_replica group new replicas) (OneNamed name_of name)
    (λ t. elim k [ inl none ↦ inl none | inr one ↦ inr ((λ e. one.0 (draw_is (name_of r) group t ∙ (sym same ∙ e))), one.1) ])
    (λ _. elim k [ inl none ↦ inl (put_none name group new replicas same none) | inr one ↦ inr (one.0, put_one name group new replicas same one.1) ])

-- ---- a tick

module _ (bases : List Base) (fresh : AreFresh bases) (node : NodeState) (k : IsFixedNode bases node) (base : Base) (among : Among base bases) where
  abbrev One : ReplicaState → Type 0
  One r = IsOne bases fresh node.me r

  -- a mail of another group
  abbrev pub IsOther : Mail → Type 0
  IsOther mail = group_of_mail mail.body ≡ Some base.core.id → ⊥

  -- a tick leaves a replica its name
  name_ticks : (drawer : Drawer) (r : ReplicaState) (mails : List Mail) (one : One r) → name_of (tick_row false drawer (r, mails)).0 ≡ name_of r
  name_ticks drawer r mails one =
      let t = one_ticks bases fresh node k drawer r mails one in
      ap (λ (p : Place). name_of p.0) t.1 ∙ (ap (λ (core : Core). core.id) t.0.fixed.group ∙ sym (name_one bases fresh node.me r one))

  -- what a replica of another group says at its tick
  says_other : (drawer : Drawer) (r : ReplicaState) (one : One r) → (name_of r ≡ base.core.id → ⊥) → Each IsOther (tick_row false drawer (r, [])).1
  says_other drawer r one other =
      let t = one_ticks bases fresh node k drawer r [] one in
      Each-weaker (IsSaid one.0 node.me) IsOther (λ mail s. said_of one.0 node.me mail base.core.id (λ same. other (name_one bases fresh node.me r one ∙ same)) s) (tick_row false drawer (r, [])).1 t.0.said

  pub tick_none : (name : Draw) (drawer : Drawer) (replicas : List ReplicaState) (mails : List Mail) → Each One replicas → NoneNamed name_of name replicas → NoneNamed name_of name (ticked false drawer replicas mails).0
  unfolding ticked
  tick_none name drawer [] mails here n = tt
  tick_none name drawer (r ∷ replicas) mails here n =
      ((λ e. n.0 (sym (name_ticks drawer r mails here.0) ∙ e)), tick_none name (names_after_tick false drawer r) replicas (tick_row false drawer (r, mails)).1 here.1 n.1)

  pub tick_one : (name : Draw) (drawer : Drawer) (replicas : List ReplicaState) (mails : List Mail) → Each One replicas → OneNamed name_of name replicas → OneNamed name_of name (ticked false drawer replicas mails).0
  unfolding ticked
  tick_one name drawer [] mails here n = tt
  tick_one name drawer (r ∷ replicas) mails here (inl none) = inl (tick_none name (names_after_tick false drawer r) replicas (tick_row false drawer (r, mails)).1 here.1 none)
  tick_one name drawer (r ∷ replicas) mails here (inr one) =
      inr ((λ e. one.0 (sym (name_ticks drawer r mails here.0) ∙ e)), tick_one name (names_after_tick false drawer r) replicas (tick_row false drawer (r, mails)).1 here.1 one.1)

  -- Replicas of other groups tick: what is said is of other groups.
  pub record SaysOther (mails : List Mail) (said : List Mail) : Type 0 where
    pub more : List Mail
    pub fact : said ≡ mails ++ more
    pub other : Each IsOther more

  pub others_say : (drawer : Drawer) (replicas : List ReplicaState) (mails : List Mail) → Each One replicas → NoneNamed name_of base.core.id replicas → SaysOther mails (ticked false drawer replicas mails).1
  unfolding ticked
  others_say drawer [] mails here n = record { more = []; fact = sym (append-nil mails); other = tt }
  others_say drawer (r ∷ replicas) mails here n =
      let place : Place = tick_row false drawer (r, []) in
      let t = one_ticks bases fresh node k drawer r mails here.0 in
      let rest = others_say (names_after_tick false drawer r) replicas (tick_row false drawer (r, mails)).1 here.1 n.1 in record {
        more = place.1 ++ rest.more;
        fact = rest.fact ∙ (ap (λ (p : Place). p.1 ++ rest.more) t.1 ∙ append_assoc mails place.1 rest.more);
        other = Each-append IsOther place.1 rest.more (says_other drawer r here.0 n.0) rest.other;
      }

  -- The replica of the group ticks, between others.
  pub record TicksOne (replicas : List ReplicaState) (mails : List Mail) (step : List ReplicaState × List Mail) : Type 0 where
    pub drawer : Drawer
    pub replica : ReplicaState
    pub was : replica_of base.core.id replicas ≡ Some replica
    pub fact : replica_of base.core.id step.0 ≡ Some (tick_row false drawer (replica, [])).0
    pub before : List Mail
    pub after : List Mail
    pub sent : step.1 ≡ (mails ++ before) ++ ((tick_row false drawer (replica, [])).1 ++ after)
    pub others_before : Each IsOther before
    pub others_after : Each IsOther after

  pub one_of_all_ticks : (drawer : Drawer) (replicas : List ReplicaState) (mails : List Mail) → Each One replicas → OneNamed name_of base.core.id replicas → (r : ReplicaState) → replica_of base.core.id replicas ≡ Some r → TicksOne replicas mails (ticked false drawer replicas mails)
  unfolding ticked
  one_of_all_ticks drawer [] mails here n r e = absurd (cc)
  one_of_all_ticks drawer (x ∷ replicas) mails here n r e = elim (cases_Bool (same_draw (name_of x) base.core.id)) [ inl t ↦ head t | inr f ↦ tail f (λ one found. one_of_all_ticks (names_after_tick false drawer x) replicas (tick_row false drawer (x, mails)).1 here.1 one r found) ]
    where
      place : Place
      place = tick_row false drawer (x, [])

      now : tick_row false drawer (x, mails) ≡ (place.0, mails ++ place.1)
      now = (one_ticks bases fresh node k drawer x mails here.0).1

      rest : List ReplicaState × List Mail
      rest = ticked false (names_after_tick false drawer x) replicas (tick_row false drawer (x, mails)).1

      name : name_of (tick_row false drawer (x, mails)).0 ≡ name_of x
      name = name_ticks drawer x mails here.0

      head : same_draw (name_of x) base.core.id ≡ true → TicksOne (x ∷ replicas) mails ((tick_row false drawer (x, mails)).0 ∷ rest.0, rest.1)
      head t =
          let none : NoneNamed name_of base.core.id replicas = elim n [ inl none ↦ none | inr one ↦ absurd (one.0 (draw_is (name_of x) base.core.id t)) ] in
          let said = others_say (names_after_tick false drawer x) replicas (tick_row false drawer (x, mails)).1 here.1 none in record {
            drawer = drawer;
            replica = x;
            was = cond-true (same_draw (name_of x) base.core.id) (Some x) (replica_of base.core.id replicas) t;
            fact = cond-true (same_draw (name_of (tick_row false drawer (x, mails)).0) base.core.id) (Some (tick_row false drawer (x, mails)).0) (replica_of base.core.id rest.0) (ap (λ (d : Draw). same_draw d base.core.id) name ∙ t) ∙ ap (λ (p : Place). Some p.0) now;
            before = [];
            after = said.more;
            sent = said.fact ∙ (ap (λ (p : Place). p.1 ++ said.more) now ∙ (append_assoc mails place.1 said.more ∙ ap (λ (ms : List Mail). ms ++ (place.1 ++ said.more)) (sym (append-nil mails))));
            others_before = tt;
            others_after = said.other;
          }

      tail : same_draw (name_of x) base.core.id ≡ false → (OneNamed name_of base.core.id replicas → replica_of base.core.id replicas ≡ Some r → TicksOne replicas (tick_row false drawer (x, mails)).1 rest) → TicksOne (x ∷ replicas) mails ((tick_row false drawer (x, mails)).0 ∷ rest.0, rest.1)
      tail f again =
          let found : replica_of base.core.id replicas ≡ Some r = sym (cond-false (same_draw (name_of x) base.core.id) (Some x) (replica_of base.core.id replicas) f) ∙ e in
          let apart : name_of x ≡ base.core.id → ⊥ = λ same. absurd (let t = same_name (name_of x) base.core.id same in cc) in
          let one : OneNamed name_of base.core.id replicas = elim n [ inl none ↦ weaker replicas none | inr one ↦ one.1 ] in
          let t = again one found in
          let own : List Mail = (tick_row false t.drawer (t.replica, [])).1 in record {
            drawer = t.drawer;
            replica = t.replica;
            was = cond-false (same_draw (name_of x) base.core.id) (Some x) (replica_of base.core.id replicas) f ∙ t.was;
            fact = cond-false (same_draw (name_of (tick_row false drawer (x, mails)).0) base.core.id) (Some (tick_row false drawer (x, mails)).0) (replica_of base.core.id rest.0) (ap (λ (d : Draw). same_draw d base.core.id) name ∙ f) ∙ t.fact;
            before = place.1 ++ t.before;
            after = t.after;
            sent = t.sent ∙ ap (λ (ms : List Mail). ms ++ (own ++ t.after)) (ap (λ (p : Place). p.1 ++ t.before) now ∙ append_assoc mails place.1 t.before);
            others_before = Each-append IsOther place.1 t.before (says_other drawer x here.0 apart) t.others_before;
            others_after = t.others_after;
          }
        where
          weaker : (xs : List ReplicaState) → NoneNamed name_of base.core.id xs → OneNamed name_of base.core.id xs
          weaker [] none = tt
          weaker (y ∷ ys) none = inl none.1
