-- A node's replicas take their slots as they should after each of its steps, where its groups are not reshaped.
use Rattle.std.proofs.Common.{◌≡◌, ℕ, ◌-◌, ◌^◌, Bool, true, false, List, [], ◌∷◌, ◌++◌, Some, ◌⊎◌, inl, inr, sym, ◌∙◌, ap, subst}
use Rattle.sc_base.specs.Definitions.{Among, Each, Drawer, same_draw, is_member, IsRoster}
use Rattle.sc_words.proofs.PaxosProofs.PaxosLemmas.{Each-among, Each-weaker, find_found}
use Rattle.sc_node_table.specs.Values.{Draw, Base, Core, Input, Got, OrderLine, Mail}
use Rattle.sc_actor.specs.declared.rows.Input.TheVariants.{Tick, Go, Told as ToldInput}
use Rattle.sc_node_table.specs.NodeDefinitions.{NodeState, ReplicaState, Place, name_of, replica_of, with_replica, ticked, on_tick, tick_row, names_after_tick, mailed, node_table}
use Rattle.sc_law_walks.proofs.WalkLemmas.{either_way}
use Rattle.sc_live_healed.proofs.FixedNodes.{AreFresh, MayTake, One, one_ticks}
use Rattle.sc_live_healed.proofs.FixedGroupMail.{TakesMail, PassesMail, mail_taken}
use Rattle.sc_live_healed.proofs.ServingReplicas.{Grows, IsAsked, asked_still}
use Rattle.sc_live_healed.proofs.MailedSlots.{mailed_takes}
use Rattle.sc_live_healed.proofs.TickedSlots.{AskAll, tick_takes}
use Rattle.sc_live_healed.specs.HealedDefinitions.{IsFixedReplica, IsFixedBody, IsFixedNode, TakesSlots, AllTakeSlots}

-- Of these groups, the members are one to nine nodes.
abbrev pub AreRosters : List Base → Type 0
AreRosters bases = (base : Base) → Among base bases → IsRoster base.core.members

module _ (bases : List Base) (fresh : AreFresh bases) where
  -- a replica is of one group alone
  pub one_base : (base other : Base) (r : ReplicaState) → Among base bases → Among other bases → IsFixedReplica base r → IsFixedReplica other r → base ≡ other
  one_base base other r a b f g = fresh.apart base other a b (ap (λ (core : Core). core.id) (sym f.group ∙ g.group))

  abbrev pub Takes : ReplicaState → Type 0
  Takes r = (base : Base) → Among base bases → IsFixedReplica base r → TakesSlots base r

  -- what one replica does, it does of its group
  takes_all : (base : Base) (r : ReplicaState) → Among base bases → IsFixedReplica base r → TakesSlots base r → Takes r
  takes_all base r a f t other b g = subst (λ (x : Base). TakesSlots x r) (one_base base other r a b f g) t

  put_takes : (group : Draw) (new : ReplicaState) (replicas : List ReplicaState) → Takes new → Each Takes replicas → Each Takes (with_replica group new replicas)
  put_takes group new [] n k = tt
  put_takes group new (r ∷ replicas) n k = either_way (Each Takes) (same_draw (name_of r) group) (new ∷ replicas) (r ∷ with_replica group new replicas) (n, k.1) (k.0, put_takes group new replicas n k.1)

module _ (bases : List Base) (fresh : AreFresh bases) (rosters : AreRosters bases) (node : NodeState) (k : IsFixedNode bases node) (slots : AllTakeSlots bases node) where
  -- the replica that is found takes its slots
  pub found_takes : (base : Base) (r : ReplicaState) → Among base bases → replica_of base.core.id node.replicas ≡ Some r → IsFixedReplica base r → TakesSlots base r
  found_takes base r a e f = Each-among (Takes bases fresh) node.replicas r slots (find_found (λ (x : ReplicaState). same_draw (name_of x) base.core.id) node.replicas r e).0 base a f

  by_mail : (mail : Mail) → PassesMail node mail ⊎ TakesMail bases node mail → AllTakeSlots bases (node_table node (Got mail)).0
  by_mail mail (inl p) = subst (λ (step : NodeState × List Mail). AllTakeSlots bases step.0) (sym p.step) slots
  by_mail mail (inr t) =
      let base : Base = t.base in
      let f = fresh.each base t.among node.me t.member in
      let here : is_member base.core.members t.replica.me ≡ true = ap (is_member base.core.members) t.me_is ∙ t.member in
      let after : ReplicaState = (mailed mail.from mail.body (t.replica, [])).0.0 in
      let takes = mailed_takes base f.free f.stands (rosters base t.among) t.replica here t.fixed t.ballots (found_takes base t.replica t.among t.found t.fixed) mail.from mail.body (subst (λ (n : ℕ). IsFixedBody base mail.from n mail.body) (sym t.me_is) t.says) t.after.ballots in
      subst (λ (step : NodeState × List Mail). AllTakeSlots bases step.0) (sym t.step)
      (put_takes bases fresh base.core.id after node.replicas (takes_all bases fresh base after t.among t.after.fixed takes) slots)

  -- ---- a tick

  abbrev pub IsHere : ReplicaState → Type 0
  IsHere r = One bases fresh node k r

  abbrev pub IsLow : ReplicaState → Type 0
  IsLow r = r.top.round ≡ 2 ^ 32 - 1 → ⊥

  -- a replica after a tick, with the mails of the whole node
  pub record HasTickedAll (mails : List Mail) (base : Base) (before after : ReplicaState) : Type 0 where
    pub takes : TakesSlots base after
    pub fixed : IsFixedReplica base after
    pub me_is : after.me ≡ node.me
    pub asked : IsLow before → AskAll base (after, mails)

  -- the replicas of a node after a tick, each with what it was before
  abbrev pub Ticks : List Mail → List ReplicaState → List ReplicaState → Type 0
  Ticks mails [] [] = Unit {0}
  Ticks mails (r ∷ replicas) (after ∷ more) = ((base : Base) × Among base bases × IsFixedReplica base r × HasTickedAll mails base r after) × Ticks mails replicas more
  Ticks mails [] (after ∷ more) = ⊥
  Ticks mails (r ∷ replicas) [] = ⊥

  one_tick : (drawer : Drawer) (r : ReplicaState) (mails : List Mail) → IsHere r → Takes bases fresh r → (base : Base) × Among base bases × IsFixedReplica base r
      × TakesSlots base (tick_row false drawer (r, mails)).0 × IsFixedReplica base (tick_row false drawer (r, mails)).0 × ((tick_row false drawer (r, mails)).0.me ≡ node.me) × (IsLow r → AskAll base (tick_row false drawer (r, mails))) × Grows mails (tick_row false drawer (r, mails)).1
  one_tick drawer r mails one takes =
      let base : Base = one.0 in
      let f = fresh.each base one.1 node.me one.2 in
      let here : is_member base.core.members r.me ≡ true = ap (is_member base.core.members) one.3 ∙ one.2 in
      let t = tick_takes base f.free f.stands r here one.4 (takes base one.1 one.4) drawer mails in
      let p = one_ticks bases fresh node k drawer r mails one in (
        base,
        one.1,
        one.4,
        t.takes,
        subst (λ (place : Place). IsFixedReplica base place.0) (sym p.1) p.0.fixed,
        subst (λ (place : Place). place.0.me ≡ node.me) (sym p.1) p.0.me_is,
        t.asked,
        subst (λ (place : Place). Grows mails place.1) (sym p.1) (λ mail a. among_left mails (tick_row false drawer (r, [])).1 mail a),
      )
    where
      among_left : (xs ys : List Mail) (x : Mail) → Among x xs → Among x (xs ++ ys)
      among_left [] ys x a = absurd a
      among_left (y ∷ xs) ys x (inl same) = inl same
      among_left (y ∷ xs) ys x (inr a) = inr (among_left xs ys x a)

  -- the replicas tick in turn
  tick_all : (drawer : Drawer) (replicas : List ReplicaState) (mails : List Mail) → Each IsHere replicas → Each (Takes bases fresh) replicas
      → Ticks (ticked false drawer replicas mails).1 replicas (ticked false drawer replicas mails).0 × Grows mails (ticked false drawer replicas mails).1
  unfolding ticked
  tick_all drawer [] mails here takes = (tt, λ mail a. a)
  tick_all drawer (r ∷ replicas) mails here takes =
      let place : Place = tick_row false drawer (r, mails) in
      let one = one_tick drawer r mails here.0 takes.0 in
      let rest = tick_all (names_after_tick false drawer r) replicas place.1 here.1 takes.1 in
      let last : List Mail = (ticked false (names_after_tick false drawer r) replicas place.1).1 in (
        (
          (
            one.0,
            one.1,
            one.2,
            record {
              takes = one.3;
              fixed = one.4;
              me_is = one.5;
              asked = λ low. Each-weaker (IsAsked one.0 place.0.me place.0.leader.ballot place.1) (IsAsked one.0 place.0.me place.0.leader.ballot last) (λ flight a. asked_still one.0 place.0.me place.0.leader.ballot place.1 last flight rest.1 a) place.0.leader.flights (one.6 low);
            },
          ),
          rest.0,
        ),
        λ mail a. rest.1 mail (one.7 mail a),
      )

  all_after : (mails : List Mail) (replicas after : List ReplicaState) → Ticks mails replicas after → Each (Takes bases fresh) after
  all_after mails [] [] t = tt
  all_after mails (r ∷ replicas) (x ∷ after) t = (takes_all bases fresh t.0.0 x t.0.1 t.0.3.fixed t.0.3.takes, all_after mails replicas after t.1)
  all_after mails [] (x ∷ after) t = absurd t
  all_after mails (r ∷ replicas) [] t = absurd t

  pub ticks_so : node.policy ≡ false → Ticks (on_tick node).1 node.replicas (on_tick node).0.replicas
  ticks_so off = subst (λ (on : Bool). Ticks (ticked on node.draws node.replicas []).1 node.replicas (ticked on node.draws node.replicas []).0) (sym off) (tick_all node.draws node.replicas [] k.replicas slots).0

  -- ---- any input

  pub steps_take : (input : Input Mail OrderLine) → node.policy ≡ false → MayTake bases node.me input → AllTakeSlots bases (node_table node input).0
  steps_take (Got mail) off m = by_mail mail (mail_taken bases fresh node k mail m.0 m.1)
  steps_take Tick off m = all_after (on_tick node).1 node.replicas (on_tick node).0.replicas (ticks_so off)
  steps_take Go off m = slots
  steps_take (ToldInput line) off m = absurd m
