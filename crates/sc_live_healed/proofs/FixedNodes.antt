-- A node keeps its replicas of groups that are not reshaped, and sends mail of these groups alone, in each of its steps but orders, where it has no policy.
use Rattle.std.proofs.Common.{◌≡◌, ℕ, Bool, true, false, List, [], ◌∷◌, ◌++◌, Option, Some, None, refl, sym, ◌∙◌, ap, subst, inl, inr, append-nil}
use Rattle.std.proofs.lemmas.Bool.{cond_both, cond-true, cond-false, cases_Bool}
use Rattle.std.proofs.lemmas.Option.{none-some, same_Some}
use Rattle.sc_base.specs.Definitions.{Among, Each, Drawer, same_draw, is_member, least_of}
use Rattle.sc_base.proofs.Lemmas.{draw_is}
use Rattle.sc_words.proofs.PaxosProofs.PaxosLemmas.{Each-among, Each-append, Each-weaker, find_found}
use Rattle.sc_node_table.specs.Values.{Draw, Base, Core, Input, Got, OrderLine, Mail, MailBody, Request, Answer, Prepare, Promise, Accept, Accepted, Nack, Learn, Ask, Install}
use Rattle.sc_actor.specs.declared.rows.Input.TheVariants.{Tick, Go, Told as ToldInput}
use Rattle.sc_node_table.specs.NodeDefinitions.{NodeState, ReplicaState, Place, Executed, name_of, replica_of, with_replica, with_children, taken_by, routed, on_mail, on_tick, is_node, may_come, group_of_mail, mailed, ticked, tick_row, names_after_tick, node_table}
use Rattle.sc_law_walks.proofs.WalkLemmas.{either_way}
use Rattle.sc_law_refusal.proofs.RefusalProofs.Joining.{tick_behind}
use Rattle.sc_live_healed.proofs.FixedWalks.{IsFixedPlace, IsFresh, IsSaid, IsMember}
use Rattle.sc_live_healed.proofs.FixedPlaces.{mailed_fixed, ticked_fixed}
use Rattle.sc_live_healed.specs.HealedDefinitions.{IsFixedReplica, KeepsBallots, IsFixedBody, IsFixedMail, IsFixedNode}

-- The groups of a scenario at their birth: each is free and not gone, its first leader and its least node are members, no two have the same name, and each is followed by one of them.
pub record AreFresh (bases : List Base) : Type 0 where
  pub each : (base : Base) → Among base bases → (me : ℕ) → IsMember base me → IsFresh base me
  pub apart : (base other : Base) → Among base bases → Among other bases → base.core.id ≡ other.core.id → base ≡ other
  pub least : (base : Base) → Among base bases → IsMember base (least_of base.core.members)
  pub follows : (base : Base) → Among base bases → (other : Base) × Among other bases × (other.core.id ≡ base.core.succ.group) × (other.core.members ≡ base.core.succ.members)
  pub within : (base : Base) → Among base bases → (node : ℕ) → IsMember base node → is_node node ≡ true

-- what a node may take: a mail of these groups, a tick or its start
abbrev pub MayTake : List Base → ℕ → Input Mail OrderLine → Type 0
MayTake bases me (Got mail) = IsFixedMail bases mail × (mail.to ≡ me)
MayTake bases me Tick = Unit {0}
MayTake bases me Go = Unit {0}
MayTake bases me (ToldInput line) = ⊥

-- ---- replicas by name

-- some replica has the name
abbrev Has : Draw → List ReplicaState → Type 0
Has name replicas = (r : ReplicaState) × (replica_of name replicas ≡ Some r)

-- one in front of the others
has_first : (name : Draw) (r : ReplicaState) (replicas : List ReplicaState) → Has name replicas → Has name (r ∷ replicas)
has_first name r replicas h =
    cond_both (same_draw (name_of r) name) (Some r) (replica_of name replicas) (λ (o : Option ReplicaState). (x : ReplicaState) × (o ≡ Some x)) (λ _. (r, refl)) (λ _. h)

-- another replica of the same name in the place of one
has_for : (name : Draw) (new r : ReplicaState) (replicas more : List ReplicaState) → name_of new ≡ name_of r → (Has name replicas → Has name more) → Has name (r ∷ replicas) → Has name (new ∷ more)
has_for name new r replicas more same rest h =
    elim (cases_Bool (same_draw (name_of new) name)) [
      | inl t ↦ (new, cond-true (same_draw (name_of new) name) (Some new) (replica_of name more) t)
      | inr f ↦ has_first name new more (rest (h.0, sym (cond-false (same_draw (name_of r) name) (Some r) (replica_of name replicas) (ap (λ (n : Draw). same_draw n name) (sym same) ∙ f)) ∙ h.1))
    ]

put_has : (name group : Draw) (new : ReplicaState) (replicas : List ReplicaState) → name_of new ≡ group → Has name replicas → Has name (with_replica group new replicas)
put_has name group new [] same h = absurd (let e = h.1 in cc)
put_has name group new (r ∷ replicas) same h =
    cond_both (same_draw (name_of r) group) (new ∷ replicas) (r ∷ with_replica group new replicas) (Has name)
    (λ t. has_for name new r replicas replicas (same ∙ sym (draw_is (name_of r) group t)) (λ q. q) h)
    (λ _. has_for name r r replicas (with_replica group new replicas) refl (λ q. put_has name group new replicas same q) h)

-- a mail of a group that is not reshaped names the group and goes to a member
pub names_group : (base : Base) (from to : ℕ) (group : Draw) (body : MailBody) → group_of_mail body ≡ Some group → IsFixedBody base from to body → (base.core.id ≡ group) × IsMember base to
names_group base from to group (Request of client seq op) e h = (sym h.0 ∙ same_Some of group e, h.1)
names_group base from to group (Prepare of ballot from_slot) e h = (sym h.0 ∙ same_Some of group e, h.1.1)
names_group base from to group (Promise of ballot reports) e h = (sym h.0 ∙ same_Some of group e, h.1.1)
names_group base from to group (Accept of ballot slot command) e h = (sym h.0 ∙ same_Some of group e, h.1.1)
names_group base from to group (Accepted of ballot slot) e h = (sym h.0 ∙ same_Some of group e, h.1.1)
names_group base from to group (Nack of promised) e h = (sym h.0 ∙ same_Some of group e, h.1.1)
names_group base from to group (Learn of slot command) e h = (sym h.0 ∙ same_Some of group e, h.1.1)
names_group base from to group (Ask of from_slot) e h = (sym h.0 ∙ same_Some of group e, h.1.1)
names_group base from to group (Install of slot sent sets) e h = (sym h.0 ∙ same_Some of group e, h.1.1)
names_group base from to group (Answer of seq answer) e h = absurd (none-some group e)
names_group base from to group _ e h = absurd h

module _ (bases : List Base) (fresh : AreFresh bases) (me : ℕ) where
  -- a replica of one of these groups
  abbrev pub IsOne : ReplicaState → Type 0
  IsOne r = (base : Base) × Among base bases × (is_member base.core.members me ≡ true) × (r.me ≡ me) × IsFixedReplica base r × KeepsBallots base r

  abbrev All : List ReplicaState → Type 0
  All replicas = Each IsOne replicas

  abbrev Sent : List Mail → Type 0
  Sent mails = Each (IsFixedMail bases) mails

  -- what a node says of one group is mail of these groups
  pub group_said : (base : Base) → Among base bases → (mails : List Mail) → Each (IsSaid base me) mails → Sent mails
  group_said base a mails m = Each-weaker (IsSaid base me) (IsFixedMail bases) (λ mail s. record { base = base; among = a; says = subst (λ (from : ℕ). IsFixedBody base from mail.to mail.body) (sym s.0) s.1 }) mails m

  pub into : (r : ReplicaState) (k : IsOne r) → IsFixedPlace k.0 me (r, [])
  into r k = record { me_is = k.3; fixed = k.4; ballots = k.5; said = tt }

  pub out : (base : Base) → Among base bases → IsMember base me → (place : Place) → IsFixedPlace base me place → IsOne place.0
  out base a m place k = (base, a, m, k.me_is, k.fixed, k.ballots)

  -- the mail of a group names it
  pub group_is : (base : Base) (from to : ℕ) (group : Draw) (body : MailBody) → group_of_mail body ≡ Some group → IsFixedBody base from to body → base.core.id ≡ group
  group_is base from to group body e h = (names_group base from to group body e h).0

  -- and it goes to a member
  pub to_member : (base : Base) (from to : ℕ) (group : Draw) (body : MailBody) → group_of_mail body ≡ Some group → IsFixedBody base from to body → IsMember base to
  to_member base from to group body e h = (names_group base from to group body e h).1

  -- the name of a replica of one of these groups
  pub name_one : (r : ReplicaState) (k : IsOne r) → name_of r ≡ k.0.core.id
  name_one r k = ap (λ (core : Core). core.id) k.4.group

  -- ---- the replicas of a node

  pub put : (group : Draw) (new : ReplicaState) (replicas : List ReplicaState) → IsOne new → All replicas → All (with_replica group new replicas)
  put group new [] n k = tt
  put group new (r ∷ replicas) n k = either_way All (same_draw (name_of r) group) (new ∷ replicas) (r ∷ with_replica group new replicas) (n, k.1) (k.0, put group new replicas n k.1)

module _ (bases : List Base) (fresh : AreFresh bases) (node : NodeState) (k : IsFixedNode bases node) where
  abbrev pub One : ReplicaState → Type 0
  One r = IsOne bases fresh node.me r

  -- a step of the node: it keeps its number, its policy and its replicas, and sends mail of these groups
  abbrev pub Steps : NodeState × List Mail → Type 0
  Steps step = (step.0.me ≡ node.me) × (step.0.policy ≡ node.policy) × IsFixedNode bases step.0 × Each (IsFixedMail bases) step.1

  stays : Steps (node, [])
  stays = (refl, refl, k, tt)

  -- ---- a mail

  put_node : (group : Draw) (new : ReplicaState) → name_of new ≡ group → One new → IsFixedNode bases (record node { replicas = with_replica group new node.replicas })
  put_node group new same one = record {
    replicas = put bases fresh node.me group new node.replicas one k.replicas;
    has = λ base a m. put_has base.core.id group new node.replicas same (k.has base a m);
  }

  after_mail : (group : Draw) (after : Executed) → after.1 ≡ [] → name_of after.0.0 ≡ group → One after.0.0 → Each (IsFixedMail bases) after.0.1 → Steps (with_children after.1 (record node { replicas = with_replica group after.0.0 node.replicas }), after.0.1)
  unfolding with_children
  after_mail group after none same one said =
      subst (λ (children : List Base). Steps (with_children children (record node { replicas = with_replica group after.0.0 node.replicas }), after.0.1)) (sym none) (refl, refl, put_node group after.0.0 same one, said)

  -- one of the node's replicas takes a mail of its group
  by_replica : (r : ReplicaState) (one : One r) (group : Draw) (from : ℕ) (body : MailBody) → one.0.core.id ≡ group → IsFixedBody one.0 from node.me body
      → Steps (with_children (mailed from body (r, [])).1 (record node { replicas = with_replica group (mailed from body (r, [])).0.0 node.replicas }), (mailed from body (r, [])).0.1)
  by_replica r one group from body id heard =
      let kept = mailed_fixed one.0 node.me (fresh.each one.0 one.1 node.me one.2) from body (r, []) heard (into bases fresh node.me r one) in
      let place : Place = (mailed from body (r, [])).0 in
      let name : name_of place.0 ≡ group = ap (λ (core : Core). core.id) kept.0.fixed.group ∙ id in
      after_mail group (mailed from body (r, [])) kept.1 name (out bases fresh node.me one.0 one.1 one.2 place kept.0) (group_said bases fresh node.me one.0 one.1 place.1 kept.0.said)

  taken : (o : Option ReplicaState) (group : Draw) (mail : Mail) → replica_of group node.replicas ≡ o → group_of_mail mail.body ≡ Some group → IsFixedMail bases mail → mail.to ≡ node.me → Steps (taken_by o group mail.from mail.body node)
  taken None group mail e of m to =
      let id : m.base.core.id ≡ group = group_is bases fresh node.me m.base mail.from mail.to group mail.body of m.says in
      let member : IsMember m.base node.me = ap (λ (n : ℕ). is_member m.base.core.members n) (sym to) ∙ to_member bases fresh node.me m.base mail.from mail.to group mail.body of m.says in
      let has = k.has m.base m.among member in
      absurd (let found : replica_of group node.replicas ≡ Some has.0 = ap (λ (n : Draw). replica_of n node.replicas) (sym id) ∙ has.1 in cc)
  taken (Some r) group mail e of m to =
      let id : m.base.core.id ≡ group = group_is bases fresh node.me m.base mail.from mail.to group mail.body of m.says in
      let found = find_found (λ (x : ReplicaState). same_draw (name_of x) group) node.replicas r e in
      let one : One r = Each-among One node.replicas r k.replicas found.0 in
      let same : one.0 ≡ m.base = fresh.apart one.0 m.base one.1 m.among (sym (name_one bases fresh node.me r one) ∙ (draw_is (name_of r) group found.1 ∙ sym id)) in
      let heard : IsFixedBody one.0 mail.from node.me mail.body = subst (λ (to : ℕ). IsFixedBody one.0 mail.from to mail.body) to (subst (λ (b : Base). IsFixedBody b mail.from mail.to mail.body) (sym same) m.says) in
      by_replica r one group mail.from mail.body (ap (λ (b : Base). b.core.id) same ∙ id) heard

  sent_on : (o : Option Draw) (mail : Mail) → group_of_mail mail.body ≡ o → IsFixedMail bases mail → mail.to ≡ node.me → Steps (routed o mail.from mail.body node)
  sent_on None mail e m to = stays
  sent_on (Some group) mail e m to = taken (replica_of group node.replicas) group mail refl e m to

  takes : (mail : Mail) → IsFixedMail bases mail → mail.to ≡ node.me → Steps (on_mail mail.from mail.body node)
  takes mail m to = either_way Steps (may_come mail.from mail.body) (routed (group_of_mail mail.body) mail.from mail.body node) (node, []) (sent_on (group_of_mail mail.body) mail refl m to) stays

  -- ---- a tick

  -- the replicas after a tick, which keep their names, and the mail of all
  record Ticked (replicas : List ReplicaState) (step : List ReplicaState × List Mail) : Type 0 where
    all : Each One step.0
    names : (name : Draw) → Has name replicas → Has name step.0
    said : Each (IsFixedMail bases) step.1

  -- what stands behind other mail of these groups
  pub one_ticks : (drawer : Drawer) (r : ReplicaState) (mails : List Mail) (one : One r) → IsFixedPlace one.0 node.me (tick_row false drawer (r, [])) × (tick_row false drawer (r, mails) ≡ ((tick_row false drawer (r, [])).0, mails ++ (tick_row false drawer (r, [])).1))
  one_ticks drawer r mails one = (ticked_fixed one.0 node.me (fresh.each one.0 one.1 node.me one.2) drawer (r, []) (into bases fresh node.me r one), ap (λ (ms : List Mail). tick_row false drawer (r, ms)) (sym (append-nil mails)) ∙ tick_behind mails false drawer r [])

  all_tick : (drawer : Drawer) (replicas : List ReplicaState) (mails : List Mail) → Each One replicas → Each (IsFixedMail bases) mails → Ticked replicas (ticked false drawer replicas mails)
  unfolding ticked
  all_tick drawer [] mails k s = record { all = tt; names = λ name h. h; said = s }
  all_tick drawer (r ∷ replicas) mails k s =
      let one = one_ticks drawer r mails k.0 in
      let place : Place = tick_row false drawer (r, []) in
      let now : One place.0 = out bases fresh node.me k.0.0 k.0.1 k.0.2 place one.0 in
      let fact = sym one.1 in
      let more : Each (IsFixedMail bases) (mails ++ place.1) = Each-append (IsFixedMail bases) mails place.1 s (group_said bases fresh node.me k.0.0 k.0.1 place.1 one.0.said) in
      let rest = all_tick (names_after_tick false drawer r) replicas (tick_row false drawer (r, mails)).1 k.1 (subst (λ (p : Place). Each (IsFixedMail bases) p.1) fact more) in record {
        all = (subst (λ (p : Place). One p.0) fact now, rest.all);
        names = λ name h. has_for name (tick_row false drawer (r, mails)).0 r replicas _ (subst (λ (p : Place). name_of p.0 ≡ name_of r) fact (ap (λ (core : Core). core.id) one.0.fixed.group ∙ sym (name_one bases fresh node.me r k.0))) (λ q. rest.names name q) h;
        said = rest.said;
      }

  ticks : node.policy ≡ false → Steps (on_tick node)
  ticks off =
      let t = subst (λ (on : Bool). Ticked node.replicas (ticked on node.draws node.replicas [])) (sym off) (all_tick node.draws node.replicas [] k.replicas tt) in
      (refl, refl, record { replicas = t.all; has = λ base a m. t.names base.core.id (k.has base a m) }, t.said)

  -- ---- any input

  pub steps_fixed : (input : Input Mail OrderLine) → node.policy ≡ false → MayTake bases node.me input → Steps (node_table node input)
  steps_fixed (Got mail) off m = takes mail m.0 m.1
  steps_fixed Tick off m = ticks off
  steps_fixed Go off m = stays
  steps_fixed (ToldInput line) off m = absurd m
