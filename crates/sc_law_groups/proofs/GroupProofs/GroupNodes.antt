-- What holds of a node with its replicas, and what comes of mail and orders.
use Rattle.std.proofs.Common.{◌≡◌, ℕ, ◌||◌, not, nat_lt, true, false, cond, eqb, List, [], ◌∷◌, ◌++◌, length, Option, Some, None, is_some, inl, inr, refl, sym, ◌∙◌, ap, subst}
use Rattle.std.proofs.lemmas.Bool.{cases_Bool, cond_both}
use Rattle.sc_node_table.specs.Values.{Draw, Command, Base, OrderLine, Mail, MailBody, Install, OrderResult, Refused, Event}
use Rattle.sc_base.specs.Definitions.{same_draw, Among, Each, Drawer, next_name}
use Rattle.sc_words.specs.declared.commands.orders.OrderRefusal.TheVariants.{NotLeader}
use Rattle.sc_words.proofs.PaxosProofs.PaxosLemmas.{Each-among, Each-from, Each-weaker, find_found}
use Rattle.sc_paxos_law.specs.PaxosLawDefinitions.{IsLawfulHistory}
use Rattle.sc_node_table.specs.NodeDefinitions.{NodeState, replica_of, with_replica, with_new, group_of_mail, absent, with_made, unknown, may_come, with_born, with_children, taken_by, routed, on_mail, group_of_order, ordered_of, on_order, ordered_command, ordered_row, names_after, untaken, slots_ahead, result_sent, ReplicaState, Place, name_of, born_replica, last_slot, made_by, mailed}
use Rattle.sc_meaning.specs.sound.SoundDefinitions.{Ahead}
use Rattle.sc_law_groups.specs.group.GroupDefinitions.{asked_in}
use Rattle.sc_law_groups.proofs.GroupProofs.Invariant.{Steps, rule, first, IsReplica, IsTrue, OffersMade}
use Rattle.sc_law_groups.proofs.GroupProofs.Speech.{AnyoneHears, Speaks}
use Rattle.sc_law_groups.proofs.GroupProofs.Installs.{fine_installed}
use Rattle.sc_law_groups.proofs.GroupProofs.GroupRows.{fine_made, fine_ordered_row}
use Rattle.sc_law_groups.proofs.GroupProofs.Sending.{name_is}
use Rattle.sc_law_groups.proofs.GroupProofs.Names.{quiet_steps, absent_replies, IsOneOf, IsNamedIn, own_named, absent_named, absent_true}
use Rattle.sc_law_groups.proofs.GroupProofs.AcceptorRows.{ArePlain, Ended, ended_by}
use Rattle.sc_law_groups.proofs.GroupProofs.Frames.{steps_of, AreFar, own_far, far_true, far_all, far_steps}
use Rattle.sc_law_groups.proofs.GroupProofs.ChosenEntries.{IsChildOf}
use Rattle.sc_law_groups.proofs.GroupProofs.Newborn.{born_replica_is}
use Rattle.sc_law_groups.proofs.GroupProofs.Holding.{each_with, each_new, Holds, held, none_held, with_held, with_far, new_held, new_far}
use Rattle.sc_base.proofs.Lemmas.{same_name, draw_is}
use Rattle.sc_meaning.proofs.EntriesProofs.EntryLemmas.{names_differ}
use Rattle.sc_law_groups.proofs.GroupProofs.PartsOfNodes.{start, by_fine, mailed_ended, mailed_kids, PartEnded, no_part, own_part}

module _ (ahead : Ahead) (bases : List Base) (made : Base → Command → Type 0) where
  -- a node as the steps of all groups say
  pub record IsNode (h : Base → Steps) (me : ℕ) (node : NodeState) : Type 0 where
    pub me_is : node.me ≡ me
    -- each replica is of one of the groups
    pub known : Each (λ r. IsOneOf bases (name_of r)) node.replicas
    -- of each group it has one replica, or none and no step
    pub holds : (base : Base) → Among base bases → Holds ahead base (made base) me (h base) node.replicas

  -- a child of these groups, of whose name there is no other
  pub record IsNewborn (child : Base) : Type 0 where
    pub among : Among child bases
    pub alone : (base : Base) → Among base bases → base.core.id ≡ child.core.id → base ≡ child
    pub open_slots : ahead.slots ≡ slots_ahead

  module _ (heard : MailBody → Type 0) (elsewhere : AnyoneHears heard) (me : ℕ) (h : Base → Steps) (speaks : (base : Base) → Among base bases → Speaks ahead base (made base) heard (h base))
      (some : (base : Base) → Among base bases → (log : List Command) → Each (made base) log → (node : ℕ) × (rest : List ℕ) × ((rule ahead base).members log ≡ node ∷ rest))
      (lawful : (base : Base) → Among base bases → IsLawfulHistory (rule ahead base) (first ahead base) (h base))
      (requested : (base : Base) → Among base bases → OffersMade (made base) (h base)) where
    abbrev Part : (base : Base) → Among base bases → Steps → NodeState × List Mail → Type 0
    Part base a after step = PartEnded ahead base (made base) heard me (h base) (speaks base a) (some base a) (lawful base a) (requested base a) after step

    -- the end of a node's row: after the row these are the steps of each group
    pub record NodeEnded (after : Base → Steps) (step : NodeState × List Mail) : Type 0 where
      pub me_is : step.0.me ≡ me
      pub known : Each (λ r. IsOneOf bases (name_of r)) step.0.replicas
      pub named : (mail : Mail) → Among mail step.1 → IsNamedIn heard bases mail.body
      pub parts : (base : Base) (a : Among base bases) → Part base a (after base) step

    -- the same steps in other words
    pub ends_as : (after other : Base → Steps) (step : NodeState × List Mail) → ((base : Base) → after base ≡ other base) → NodeEnded after step → NodeEnded other step
    ends_as after other step same e = record {
      me_is = e.me_is;
      known = e.known;
      named = e.named;
      parts = λ base a. subst (λ (s : Steps). Part base a s step) (same base) (e.parts base a);
    }

    -- ---- nothing comes of it

    pub unchanged : (after : Base → Steps) (node : NodeState) (sent : List Mail) → IsNode h me node → ((base : Base) → Among base bases → after base ≡ h base)
        → ((mail : Mail) → Among mail sent → IsNamedIn heard bases mail.body) → ((base : Base) → Among base bases → (mail : Mail) → Among mail sent → IsTrue ahead base (made base) heard (h base) mail mail.body) → NodeEnded after (node, sent)
    unchanged after node sent k same named t = record {
      me_is = k.me_is;
      known = k.known;
      named = named;
      parts = λ base a. no_part ahead base (made base) heard me (h base) (speaks base a) (some base a) (lawful base a) (requested base a) (after base) (node, sent) (same base a) (k.holds base a) (t base a);
    }

    -- ---- one replica's row

    -- the mails of a replica's row are of no other group
    far_sent : (base : Base) → Among base bases → (before after : Steps) (place : Place) → Ended ahead base (made base) heard me before after place → (name : Draw) → same_draw base.core.id name ≡ false → AreFar heard name place.1
    far_sent base a before after place e name f = Each-from _ place.1 (λ m b. own_far ahead base heard name f m.body (e.own m b))

    ended_name : (base : Base) → Among base bases → (before after : Steps) (place : Place) → Ended ahead base (made base) heard me before after place → name_of place.0 ≡ base.core.id
    ended_name base a before after place e = name_is ahead base (made base) heard me [] before (e.newer ++ before) place.0 e.replica

    one_row : (g : Draw) (r : ReplicaState) (node : NodeState) → IsNode h me node → replica_of g node.replicas ≡ Some r → (place : Place) (after : Base → Steps)
        → ((base : Base) (a : Among base bases) → g ≡ base.core.id → IsReplica ahead base (made base) (h base) me r → Ended ahead base (made base) heard me (h base) (after base) place)
        → ((base : Base) → Among base bases → same_draw g base.core.id ≡ false → AreFar heard base.core.id place.1 → after base ≡ h base)
        → NodeEnded after (record node { replicas = with_replica g place.0 node.replicas }, place.1)
    one_row g r node k found place after ends far =
        let there = find_found (λ (s : ReplicaState). same_draw (name_of s) g) node.replicas r found in
        let named : name_of r ≡ g = draw_is (name_of r) g there.1 in
        let mine = Each-among (λ s. IsOneOf bases (name_of s)) node.replicas r k.known there.0 in
        let fact : g ≡ mine.0.core.id = sym named ∙ mine.2 in
        let e = ends mine.0 mine.1 fact (held ahead mine.0 (made mine.0) me (h mine.0) node.replicas (k.holds mine.0 mine.1) r there.0 mine.2) in
        let new_name = ended_name mine.0 mine.1 (h mine.0) (after mine.0) place e in
        let step : NodeState × List Mail = (record node { replicas = with_replica g place.0 node.replicas }, place.1) in
        record {
          me_is = k.me_is;
          known = each_with (λ s. IsOneOf bases (name_of s)) g place.0 node.replicas k.known (mine.0, mine.1, new_name);
          named = λ m a. own_named ahead heard bases mine.0 mine.1 m.body (e.own m a);
          parts = λ base a. elim (cases_Bool (same_draw g base.core.id)) [
            | inl t ↦ (
                let same = draw_is g base.core.id t in
                let ended = ends base a same (held ahead base (made base) me (h base) node.replicas (k.holds base a) r there.0 (named ∙ same)) in
                own_part ahead base (made base) heard me (h base) (speaks base a) (some base a) (lawful base a) (requested base a) (after base) place step refl ended
                (with_held ahead base (made base) me (h base) (ended.newer ++ h base) g same place.0 (ended_name base a (h base) (after base) place ended) ended.replica node.replicas r (k.holds base a) found))
            | inr f ↦ (
                let apart_from : same_draw mine.0.core.id base.core.id ≡ false = ap (λ d. same_draw d base.core.id) (sym fact) ∙ f in
                let sent = far_sent mine.0 mine.1 (h mine.0) (after mine.0) place e base.core.id apart_from in
                no_part ahead base (made base) heard me (h base) (speaks base a) (some base a) (lawful base a) (requested base a) (after base) step (far base a f sent)
                (with_far ahead base (made base) me (h base) g f place.0 (λ same. names_differ g base.core.id f (fact ∙ sym new_name ∙ same)) node.replicas (k.holds base a))
                (λ m b. far_true ahead base (made base) heard (h base) m m.body (Each-among _ place.1 m sent b)))
          ];
        }

    -- the node draws other names
    redrawn : (after : Base → Steps) (node : NodeState) (draws : Drawer) (sent : List Mail) → NodeEnded after (node, sent) → NodeEnded after (record node { draws = draws }, sent)
    redrawn after node draws sent e = record {
      me_is = e.me_is;
      known = e.known;
      named = e.named;
      parts = λ base a. (let p = e.parts base a in
          record { newer = p.newer; are = p.are; by = p.by; lawful_is = p.lawful_is; requested_is = p.requested_is; holds = p.holds; mails = p.mails });
    }

    -- ---- children

    born_part : (after : Base → Steps) (child : Base) (node : NodeState) (sent : List Mail) → IsNewborn child → node.me ≡ me → replica_of child.core.id node.replicas ≡ None → (base : Base) (a : Among base bases)
        → Part base a (after base) (node, sent) → Part base a (after base) (record node { replicas = with_new (born_replica slots_ahead node.me child) node.replicas }, sent)
    born_part after child node sent new mine none base a p =
        let steps = p.newer ++ h base in
        let holds : Holds ahead base (made base) me steps (with_new (born_replica slots_ahead node.me child) node.replicas) =
        elim (cases_Bool (same_draw child.core.id base.core.id)) [
          | inl t ↦ (
              let same = draw_is child.core.id base.core.id t in
              let free = none_held ahead base (made base) me steps child.core.id same node.replicas p.holds none in
              let fact = born_replica_is ahead base (made base) steps me free.1 in
              let it : born_replica ahead.slots me base ≡ born_replica slots_ahead node.me child =
              ap (λ n. born_replica n me base) new.open_slots ∙ ap (λ n. born_replica slots_ahead n base) (sym mine) ∙ ap (born_replica slots_ahead node.me) (new.alone base a (sym same)) in
              new_held ahead base (made base) me steps (born_replica slots_ahead node.me child) same (subst (IsReplica ahead base (made base) steps me) it fact) node.replicas free.0)
          | inr f ↦ new_far ahead base (made base) me steps (born_replica slots_ahead node.me child) (λ same. (let no_way : true ≡ false = sym (same_name child.core.id base.core.id same) ∙ f in absurd (cc))) node.replicas p.holds
        ] in
        record { newer = p.newer; are = p.are; by = p.by; lawful_is = p.lawful_is; requested_is = p.requested_is; holds = holds; mails = p.mails }

    -- a child is created, unless its replica is there
    born_one : (after : Base → Steps) (child : Base) (node : NodeState) (sent : List Mail) → IsNewborn child → NodeEnded after (node, sent) → NodeEnded after (with_born child node, sent)
    born_one after child node sent new e = by (replica_of child.core.id node.replicas) refl
      where
        by : (o : Option ReplicaState) → replica_of child.core.id node.replicas ≡ o
            → NodeEnded after (cond (is_some o) node (record node { replicas = with_new (born_replica slots_ahead node.me child) node.replicas }), sent)
        by (Some r) found = e
        by None none = record {
          me_is = e.me_is;
          known = each_new (λ r. IsOneOf bases (name_of r)) (born_replica slots_ahead node.me child) node.replicas e.known (child, new.among, refl);
          named = e.named;
          parts = λ base a. born_part after child node sent new e.me_is none base a (e.parts base a);
        }

    born_all : (after : Base → Steps) (children : List Base) (node : NodeState) (sent : List Mail) → Each IsNewborn children → NodeEnded after (node, sent) → NodeEnded after (with_children children node, sent)
    unfolding with_children
    born_all after [] node sent new e = e
    born_all after (child ∷ children) node sent new e = born_all after children (with_born child node) sent new.1 (born_one after child node sent new.0 e)

    -- ---- a mail

    -- each child of a group at the node is one of the groups
    abbrev pub HasOffspring : Type 0
    HasOffspring = (base : Base) → Among base bases → (child : Base) → IsChildOf ahead base (made base) me (h base) child → IsNewborn child

    abbrev Goal : Event OrderLine → MailBody → NodeState × List Mail → Type 0
    Goal event body step = NodeEnded (λ base. steps_of base.core.id me event body step.1 (h base)) step

    abbrev IsTrueOfAll : Mail → MailBody → Type 0
    IsTrueOfAll mail body = (base : Base) → Among base bases → IsTrue ahead base (made base) heard (h base) mail body

    quiet : (event : Event OrderLine) (body : MailBody) (node : NodeState) (sent : List Mail) → IsNode h me node → ArePlain sent → ((mail : Mail) → Among mail sent → IsNamedIn heard bases mail.body)
        → ((base : Base) → Among base bases → (mail : Mail) → Among mail sent → IsTrue ahead base (made base) heard (h base) mail mail.body) → Goal event body (node, sent)
    quiet event body node sent k plain named t = unchanged _ node sent k (λ base a. quiet_steps base.core.id me event body sent (h base) plain) named t

    nothing : (event : Event OrderLine) (body : MailBody) (node : NodeState) → IsNode h me node → Goal event body (node, [])
    nothing event body node k = quiet event body node [] k tt (λ m a. absurd a) (λ base a m b. absurd b)

    absent_ended : (event : Event OrderLine) (mail : Mail) (body : MailBody) (node : NodeState) → IsNode h me node → IsNamedIn heard bases body → Goal event body (node, absent node.me mail.from body)
    absent_ended event mail body node k named =
        quiet event body node (absent node.me mail.from body) k (absent_replies node.me mail.from body) (absent_named heard elsewhere bases node.me mail.from body named)
        (λ base a m b. absent_true heard elsewhere bases ahead base (made base) (h base) node.me mail.from body named m b)

    -- a node without a replica of the group makes one of the state that it is sent
    made_ended : (event : Event OrderLine) (mail : Mail) (g : Draw) (slot : ℕ) (state : Base) (sets : List (List ℕ)) (node : NodeState) → IsNode h me node → replica_of g node.replicas ≡ None → IsOneOf bases g
        → IsTrueOfAll mail (Install g slot state sets) → Goal event (Install g slot state sets) (with_made (made_by node.me mail.from g slot state sets) node)
    made_ended event mail g slot state sets node k none one t =
        let place = made_by node.me mail.from g slot state sets in
        let body = Install g slot state sets in
        let step : NodeState × List Mail = (record node { replicas = with_new place.0 node.replicas }, place.1) in
        let ends = λ (base : Base) (a : Among base bases) (fact : g ≡ base.core.id). (
        let fresh = none_held ahead base (made base) me (h base) g fact node.replicas (k.holds base a) none in
        by_fine ahead base (made base) heard me (h base) (speaks base a) (some base a) (lawful base a) (requested base a) event body place
        (fine_made ahead base (made base) heard me [] (h base) (speaks base a) (some base a) node.me mail.from g slot state sets
        (fine_installed ahead base (made base) heard me [] (h base) refl node.me g slot state sets k.me_is fact fresh.1 (lawful base a) (requested base a) (t base a (same_name g base.core.id fact)))) refl) in
        let e = ends one.0 one.1 one.2 in
        let new_name = ended_name one.0 one.1 (h one.0) _ place e in
        record {
          me_is = k.me_is;
          known = each_new (λ s. IsOneOf bases (name_of s)) place.0 node.replicas k.known (one.0, one.1, new_name);
          named = λ m a. own_named ahead heard bases one.0 one.1 m.body (e.own m a);
          parts = λ base a. elim (cases_Bool (same_draw g base.core.id)) [
            | inl t ↦ (
                let same = draw_is g base.core.id t in
                let ended = ends base a same in
                own_part ahead base (made base) heard me (h base) (speaks base a) (some base a) (lawful base a) (requested base a) _ place step refl ended
                (new_held ahead base (made base) me (ended.newer ++ h base) place.0 (ended_name base a (h base) _ place ended) ended.replica node.replicas
                (none_held ahead base (made base) me (h base) g same node.replicas (k.holds base a) none).0))
            | inr f ↦ (
                let apart_from : same_draw one.0.core.id base.core.id ≡ false = ap (λ d. same_draw d base.core.id) (sym one.2) ∙ f in
                let sent = far_sent one.0 one.1 (h one.0) _ place e base.core.id apart_from in
                no_part ahead base (made base) heard me (h base) (speaks base a) (some base a) (lawful base a) (requested base a) _ step
                (far_steps heard base.core.id me event g f body refl place.1 (h base) sent)
                (new_far ahead base (made base) me (h base) place.0 (λ same. (let no_way : true ≡ false = sym (same_name g base.core.id (one.2 ∙ sym new_name ∙ same)) ∙ f in absurd (cc))) node.replicas (k.holds base a))
                (λ m b. far_true ahead base (made base) heard (h base) m m.body (Each-among _ place.1 m sent b)))
          ];
        }

    unknown_ended : (event : Event OrderLine) (mail : Mail) (body : MailBody) (g : Draw) → group_of_mail body ≡ Some g → (node : NodeState) → IsNode h me node → replica_of g node.replicas ≡ None → IsNamedIn heard bases body
        → IsTrueOfAll mail body → Goal event body (unknown mail.from body node)
    unknown_ended event mail (Install named slot state sets) g into node k none one t =
        let same : named ≡ g = cc in
        cond_both (not (eqb (length sets) slots_ahead) || nat_lt last_slot slot) _ _ (Goal event (Install named slot state sets))
        (λ _. nothing event (Install named slot state sets) node k)
        (λ _. made_ended event mail named slot state sets node k (ap (λ d. replica_of d node.replicas) same ∙ none) one t)
    unknown_ended event mail body g into node k none one t = absent_ended event mail body node k one

    new_kids : (mail : Mail) (body : MailBody) (g : Draw) → HasOffspring → group_of_mail body ≡ Some g → (node : NodeState) → IsNode h me node → IsTrueOfAll mail body → (r : ReplicaState) → replica_of g node.replicas ≡ Some r
        → Each IsNewborn (mailed mail.from body (r, [])).1
    new_kids mail body g offspring into node k t r found =
        let there = find_found (λ (s : ReplicaState). same_draw (name_of s) g) node.replicas r found in
        let named : name_of r ≡ g = draw_is (name_of r) g there.1 in
        let mine = Each-among (λ s. IsOneOf bases (name_of s)) node.replicas r k.known there.0 in
        let (base, a, fact) = mine in
        let was = held ahead base (made base) me (h base) node.replicas (k.holds base a) r there.0 fact in
        Each-weaker _ _ (offspring base a) (mailed mail.from body (r, [])).1
        (mailed_kids ahead base (made base) heard me (h base) (speaks base a) (some base a) (lawful base a) (requested base a) mail body r was g into (sym named ∙ fact) (t base a))

    taken_ended : (event : Event OrderLine) (mail : Mail) (body : MailBody) (g : Draw) → HasOffspring → group_of_mail body ≡ Some g → (node : NodeState) → IsNode h me node → IsNamedIn heard bases body → IsTrueOfAll mail body
        → (o : Option ReplicaState) → replica_of g node.replicas ≡ o → Goal event body (taken_by o g mail.from body node)
    taken_ended event mail body g offspring into node k one t None e = unknown_ended event mail body g into node k e one t
    taken_ended event mail body g offspring into node k one t (Some r) e =
        let place = (mailed mail.from body (r, [])).0 in
        born_all (λ base. steps_of base.core.id me event body place.1 (h base)) (mailed mail.from body (r, [])).1 _ place.1 (new_kids mail body g offspring into node k t r e)
        (one_row g r node k e place (λ base. steps_of base.core.id me event body place.1 (h base))
        (λ base a fact was. mailed_ended ahead base (made base) heard me (h base) (speaks base a) (some base a) (lawful base a) (requested base a) event mail body r was g into fact (t base a))
        (λ base a f sent. far_steps heard base.core.id me event g f body into place.1 (h base) sent))

    routed_ended : (event : Event OrderLine) (mail : Mail) (body : MailBody) → HasOffspring → (o : Option Draw) → group_of_mail body ≡ o → (node : NodeState) → IsNode h me node → IsNamedIn heard bases body → IsTrueOfAll mail body
        → Goal event body (routed o mail.from body node)
    routed_ended event mail body offspring None into node k one t = nothing event body node k
    routed_ended event mail body offspring (Some g) into node k one t = taken_ended event mail body g offspring into node k one t (replica_of g node.replicas) refl

    come_ended : (event : Event OrderLine) (mail : Mail) (body : MailBody) → HasOffspring → (node : NodeState) → IsNode h me node → IsNamedIn heard bases body → IsTrueOfAll mail body → Goal event body (on_mail mail.from body node)
    come_ended event mail body offspring node k one t =
        cond_both (may_come mail.from body) _ _ (Goal event body) (λ _. routed_ended event mail body offspring (group_of_mail body) refl node k one t) (λ _. nothing event body node k)

    -- a mail comes
    pub mail_ended : (event : Event OrderLine) (mail : Mail) → HasOffspring → (node : NodeState) → IsNode h me node → IsNamedIn heard bases mail.body → IsTrueOfAll mail mail.body → Goal event mail.body (on_mail mail.from mail.body node)
    mail_ended event mail offspring node k one t = come_ended event mail mail.body offspring node k one t

    -- ---- an order

    abbrev Asked : NodeState × List Mail → Type 0
    Asked step = NodeEnded (λ base. asked_in base.core.id step.1 (h base)) step

    desk_ended : (number : ℕ) (result : OrderResult) (node : NodeState) → IsNode h me node → Asked (node, result_sent node.me number result [])
    desk_ended number result node k =
        unchanged _ node (result_sent node.me number result []) k (λ base a. refl)
        (λ m a. elim a [ inl e ↦ subst (λ (x : Mail). IsNamedIn heard bases x.body) e tt | inr n ↦ absurd n ])
        (λ base b m a. elim a [ inl e ↦ subst (λ (x : Mail). IsTrue ahead base (made base) heard (h base) x x.body) e tt | inr n ↦ absurd n ])

    -- what the order asks for may be queued at its group, where it is taken
    abbrev MayOrder : OrderLine → NodeState → Type 0
    MayOrder line node =
        (base : Base) → Among base bases → group_of_order line.order ≡ base.core.id → (r : ReplicaState) → replica_of (group_of_order line.order) node.replicas ≡ Some r → untaken node.draws line r ≡ None
        → made base (ordered_command (next_name node.draws) line.number line.order)

    ordered_ended : (line : OrderLine) (node : NodeState) → MayOrder line node → IsNode h me node → (o : Option ReplicaState) → replica_of (group_of_order line.order) node.replicas ≡ o → Asked (ordered_of o line node)
    ordered_ended line node may k None e = desk_ended line.number (Refused (NotLeader None)) node k
    ordered_ended line node may k (Some r) e =
        let place = ordered_row node.draws line (r, []) in
        redrawn (λ base. asked_in base.core.id place.1 (h base)) (record node { replicas = with_replica (group_of_order line.order) place.0 node.replicas }) (names_after node.draws line r) place.1
        (one_row (group_of_order line.order) r node k e place (λ base. asked_in base.core.id place.1 (h base))
        (λ base a fact was. ended_by ahead base (made base) heard me (h base) (speaks base a) (some base a) place _
        (fine_ordered_row ahead base (made base) heard me [] (h base) (speaks base a) (some base a) node.draws line r (may base a fact r e) []
        (start ahead base (made base) heard me (h base) (speaks base a) (some base a) (lawful base a) (requested base a) [] r was)) refl)
        (λ base a f sent. far_all heard base.core.id place.1 (h base) sent))

    -- the end of an order
    pub order_ended : (line : OrderLine) (node : NodeState) → MayOrder line node → IsNode h me node → Asked (on_order line node)
    order_ended line node may k = ordered_ended line node may k (replica_of (group_of_order line.order) node.replicas) refl
