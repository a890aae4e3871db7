-- A tick of a node: each of its replicas has its part of the row.
use Rattle.std.proofs.Common.{◌≡◌, ℕ, false, Bool, List, [], ◌∷◌, ◌++◌, inl, inr, refl, sym, ◌∙◌, ap, subst, append-nil, append_assoc}
use Rattle.std.proofs.lemmas.Bool.{cases_Bool}
use Rattle.sc_base.specs.Definitions.{Drawer, same_draw, Among, Each}
use Rattle.sc_node_table.specs.Values.{Draw, Command, Base, Mail, MailBody}
use Rattle.sc_words.proofs.PaxosProofs.PaxosLemmas.{Each-among, Each-from}
use Rattle.sc_paxos_law.specs.PaxosLawDefinitions.{IsLawfulHistory}
use Rattle.sc_paxos_law.proofs.Lemmas.{Among-either}
use Rattle.sc_node_table.specs.NodeDefinitions.{NodeState, ticked, on_tick, names_after_tick, ReplicaState, Place, name_of, tick_row}
use Rattle.sc_meaning.specs.sound.SoundDefinitions.{Ahead}
use Rattle.sc_law_groups.specs.group.GroupDefinitions.{asked_in}
use Rattle.sc_law_groups.proofs.GroupProofs.Growth.{By}
use Rattle.sc_law_groups.proofs.GroupProofs.Invariant.{Steps, rule, first, IsReplica, IsTrue, OffersMade}
use Rattle.sc_law_groups.proofs.GroupProofs.Speech.{AnyoneHears, Speaks}
use Rattle.sc_law_groups.proofs.GroupProofs.Midway.{Fine}
use Rattle.sc_law_groups.proofs.GroupProofs.Sending.{name_is}
use Rattle.sc_law_groups.proofs.GroupProofs.GroupRows.{MayWish, fine_tick_row}
use Rattle.sc_law_groups.proofs.GroupProofs.Names.{IsOneOf, IsNamedIn, own_named}
use Rattle.sc_law_groups.proofs.GroupProofs.PartsOfNodes.{start}
use Rattle.sc_law_groups.proofs.GroupProofs.GroupNodes.{IsNode, NodeEnded}
use Rattle.sc_law_groups.proofs.GroupProofs.Frames.{AreFar, own_far, far_true, far_all, asked_append}
use Rattle.sc_law_groups.proofs.GroupProofs.Holding.{IsOther, Holds, held}
use Rattle.sc_base.proofs.Lemmas.{draw_is}

-- what policies order at a tick of these replicas may be queued at their groups, each with the names that those before it left
abbrev pub MayTick : List Base → (Base → Command → Type 0) → Bool → Drawer → List ReplicaState → Type 0
MayTick bases made on drawer [] = Unit {0}
MayTick bases made on drawer (r ∷ rs) = ((base : Base) → Among base bases → name_of r ≡ base.core.id → MayWish (made base) on drawer r) × MayTick bases made on (names_after_tick on drawer r) rs

module _ (ahead : Ahead) (bases : List Base) (made : Base → Command → Type 0) (heard : MailBody → Type 0) (elsewhere : AnyoneHears heard) (me : ℕ) (h : Base → Steps) (speaks : (base : Base) → Among base bases → Speaks ahead base (made base) heard (h base))
    (some : (base : Base) → Among base bases → (log : List Command) → Each (made base) log → (node : ℕ) × (rest : List ℕ) × ((rule ahead base).members log ≡ node ∷ rest))
    (lawful : (base : Base) → Among base bases → IsLawfulHistory (rule ahead base) (first ahead base) (h base))
    (requested : (base : Base) → Among base bases → OffersMade (made base) (h base)) (on : Bool) where
  -- a replica of one of the groups, as the steps say
  abbrev IsLive : ReplicaState → Type 0
  IsLive r = (base : Base) × Among base bases × (name_of r ≡ base.core.id) × IsReplica ahead base (made base) (h base) me r

  ticks : (drawer : Drawer) (base : Base) → Among base bases → (r : ReplicaState) (mails : List Mail) → MayWish (made base) on drawer r → IsReplica ahead base (made base) (h base) me r → Fine ahead base (made base) heard me mails (h base) (tick_row on drawer (r, mails))
  ticks drawer base a r mails may k = fine_tick_row ahead base (made base) heard me mails (h base) (speaks base a) (some base a) on drawer r mails may (start ahead base (made base) heard me (h base) (speaks base a) (some base a) (lawful base a) (requested base a) mails r k)

  tick_name : (base : Base) (mails : List Mail) (place : Place) → Fine ahead base (made base) heard me mails (h base) place → name_of place.0 ≡ base.core.id
  tick_name base mails place f = name_is ahead base (made base) heard me mails (h base) (f.newer ++ h base) place.0 f.replica

  more_sent : (mails one other all place : List Mail) → all ≡ place ++ other → place ≡ mails ++ one → all ≡ mails ++ (one ++ other)
  more_sent mails one other all place e f = e ∙ ap (λ ms. ms ++ other) f ∙ append_assoc mails one other

  -- what the node's replicas send at a tick
  record Sends (drawer : Drawer) (rs : List ReplicaState) (mails : List Mail) : Type 0 where
    sent : List Mail
    sent_is : (ticked on drawer rs mails).1 ≡ mails ++ sent
    named : (mail : Mail) → Among mail sent → IsNamedIn heard bases mail.body
    known : Each (λ r. IsOneOf bases (name_of r)) (ticked on drawer rs mails).0

  tick_sends : (drawer : Drawer) (rs : List ReplicaState) → MayTick bases made on drawer rs → Each IsLive rs → (mails : List Mail) → Sends drawer rs mails
  unfolding ticked
  tick_sends drawer [] may live mails = record { sent = []; sent_is = sym (append-nil mails); named = λ m a. absurd a; known = tt }
  tick_sends drawer (r ∷ rs) may live mails =
      let (base, a, fact, k) = live.0 in
      let f = ticks drawer base a r mails (may.0 base a fact) k in
      let place = tick_row on drawer (r, mails) in
      let later = tick_sends (names_after_tick on drawer r) rs may.1 live.1 place.1 in
      record {
        sent = f.sent ++ later.sent;
        sent_is = more_sent mails f.sent later.sent _ place.1 later.sent_is f.sent_is;
        named = λ m b. elim (Among-either m f.sent later.sent b) [ inl c ↦ own_named ahead heard bases base a m.body (f.own m c) | inr c ↦ later.named m c ];
        known = ((base, a, tick_name base mails place f), later.known);
      }

  -- where none of the replicas is the group's
  record TicksFar (base : Base) (drawer : Drawer) (rs : List ReplicaState) (mails : List Mail) : Type 0 where
    sent : List Mail
    sent_is : (ticked on drawer rs mails).1 ≡ mails ++ sent
    far : AreFar heard base.core.id sent
    none : Each (IsOther base.core.id) (ticked on drawer rs mails).0

  far_name : (base other : Base) (r : ReplicaState) → name_of r ≡ other.core.id → IsOther base.core.id r → same_draw other.core.id base.core.id ≡ false
  far_name base other r fact o =
      elim (cases_Bool (same_draw other.core.id base.core.id)) [ inl t ↦ absurd (o (fact ∙ draw_is other.core.id base.core.id t)) | inr f ↦ f ]

  far_part : (base other : Base) → Among other bases → (r : ReplicaState) (mails : List Mail) (place : Place) → name_of r ≡ other.core.id → IsOther base.core.id r → (f : Fine ahead other (made other) heard me mails (h other) place) → AreFar heard base.core.id f.sent × IsOther base.core.id place.0
  far_part base other b r mails place fact o f = (
    Each-from _ f.sent (λ m a. own_far ahead other heard base.core.id (far_name base other r fact o) m.body (f.own m a)),
    (λ same. o (fact ∙ sym (tick_name other mails place f) ∙ same)),
  )

  far_append : (name : Draw) (one other : List Mail) → AreFar heard name one → AreFar heard name other → AreFar heard name (one ++ other)
  far_append name [] other e f = f
  far_append name (mail ∷ one) other e f = (e.0, far_append name one other e.1 f)

  tick_far : (base : Base) (drawer : Drawer) (rs : List ReplicaState) → MayTick bases made on drawer rs → Each IsLive rs → Each (IsOther base.core.id) rs → (mails : List Mail) → TicksFar base drawer rs mails
  unfolding ticked
  tick_far base drawer [] may live none mails = record { sent = []; sent_is = sym (append-nil mails); far = tt; none = tt }
  tick_far base drawer (r ∷ rs) may live none mails =
      let (other, a, fact, k) = live.0 in
      let f = ticks drawer other a r mails (may.0 other a fact) k in
      let place = tick_row on drawer (r, mails) in
      let here = far_part base other a r mails place fact none.0 f in
      let later = tick_far base (names_after_tick on drawer r) rs may.1 live.1 none.1 place.1 in
      record {
        sent = f.sent ++ later.sent;
        sent_is = more_sent mails f.sent later.sent _ place.1 later.sent_is f.sent_is;
        far = far_append base.core.id f.sent later.sent here.0 later.far;
        none = (here.1, later.none);
      }

  -- the group's part of a tick
  record TicksOwn (base : Base) (drawer : Drawer) (rs : List ReplicaState) (mails : List Mail) : Type 0 where
    sent : List Mail
    sent_is : (ticked on drawer rs mails).1 ≡ mails ++ sent
    newer : Steps
    are : asked_in base.core.id sent (h base) ≡ newer ++ h base
    by : Each (By me) newer
    lawful_is : IsLawfulHistory (rule ahead base) (first ahead base) (newer ++ h base)
    requested_is : OffersMade (made base) (newer ++ h base)
    holds : Holds ahead base (made base) me (newer ++ h base) (ticked on drawer rs mails).0
    mails_are : (mail : Mail) → Among mail sent → IsTrue ahead base (made base) heard (newer ++ h base) mail mail.body

  tick_own : (base : Base) (a : Among base bases) (drawer : Drawer) (rs : List ReplicaState) → MayTick bases made on drawer rs → Each IsLive rs → Holds ahead base (made base) me (h base) rs → (mails : List Mail) → TicksOwn base drawer rs mails
  unfolding ticked
  tick_own base a drawer [] may live fresh mails = record {
    sent = [];
    sent_is = sym (append-nil mails);
    newer = [];
    are = refl;
    by = tt;
    lawful_is = lawful base a;
    requested_is = requested base a;
    holds = fresh;
    mails_are = λ m b. absurd b;
  }
  tick_own base a drawer (r ∷ rs) may live (inl (fact, k, none)) mails =
      let f = ticks drawer base a r mails (may.0 base a fact) k in
      let place = tick_row on drawer (r, mails) in
      let later = tick_far base (names_after_tick on drawer r) rs may.1 live.1 none place.1 in
      record {
        sent = f.sent ++ later.sent;
        sent_is = more_sent mails f.sent later.sent _ place.1 later.sent_is f.sent_is;
        newer = f.newer;
        are = asked_append base.core.id f.sent later.sent (h base) ∙ far_all heard base.core.id later.sent (asked_in base.core.id f.sent (h base)) later.far ∙ f.are;
        by = f.by;
        lawful_is = f.lawful;
        requested_is = f.requested;
        holds = inl (tick_name base mails place f, f.replica, later.none);
        mails_are = λ m b. elim (Among-either m f.sent later.sent b) [
          | inl c ↦ f.mails m c
          | inr c ↦ far_true ahead base (made base) heard (f.newer ++ h base) m m.body (Each-among _ later.sent m later.far c)
        ];
      }
  tick_own base a drawer (r ∷ rs) may live (inr (o, holds)) mails =
      let (other, b, fact, k) = live.0 in
      let f = ticks drawer other b r mails (may.0 other b fact) k in
      let place = tick_row on drawer (r, mails) in
      let here = far_part base other b r mails place fact o f in
      let later = tick_own base a (names_after_tick on drawer r) rs may.1 live.1 holds place.1 in
      record {
        sent = f.sent ++ later.sent;
        sent_is = more_sent mails f.sent later.sent _ place.1 later.sent_is f.sent_is;
        newer = later.newer;
        are = asked_append base.core.id f.sent later.sent (h base) ∙ ap (asked_in base.core.id later.sent) (far_all heard base.core.id f.sent (h base) here.0) ∙ later.are;
        by = later.by;
        lawful_is = later.lawful_is;
        requested_is = later.requested_is;
        holds = inr (here.1, later.holds);
        mails_are = λ m c. elim (Among-either m f.sent later.sent c) [
          | inl d ↦ far_true ahead base (made base) heard (later.newer ++ h base) m m.body (Each-among _ f.sent m here.0 d)
          | inr d ↦ later.mails_are m d
        ];
      }

module _ (ahead : Ahead) (bases : List Base) (made : Base → Command → Type 0) (heard : MailBody → Type 0) (elsewhere : AnyoneHears heard) (me : ℕ) (h : Base → Steps) (speaks : (base : Base) → Among base bases → Speaks ahead base (made base) heard (h base))
    (some : (base : Base) → Among base bases → (log : List Command) → Each (made base) log → (node : ℕ) × (rest : List ℕ) × ((rule ahead base).members log ≡ node ∷ rest))
    (lawful : (base : Base) → Among base bases → IsLawfulHistory (rule ahead base) (first ahead base) (h base))
    (requested : (base : Base) → Among base bases → OffersMade (made base) (h base)) where
  live_all : (node : NodeState) → IsNode ahead bases made h me node → Each (IsLive ahead bases made heard elsewhere me h speaks some lawful requested node.policy) node.replicas
  live_all node k = Each-from (IsLive ahead bases made heard elsewhere me h speaks some lawful requested node.policy) node.replicas (λ r b. (let mine = Each-among (λ s. IsOneOf bases (name_of s)) node.replicas r k.known b in
      (mine.0, mine.1, mine.2, held ahead mine.0 (made mine.0) me (h mine.0) node.replicas (k.holds mine.0 mine.1) r b mine.2)))

  -- the end of a tick
  pub tick_ended : (node : NodeState) → MayTick bases made node.policy node.draws node.replicas → IsNode ahead bases made h me node
      → NodeEnded ahead bases made heard elsewhere me h speaks some lawful requested (λ base. asked_in base.core.id (on_tick node).1 (h base)) (on_tick node)
  tick_ended node may k =
      let live = live_all node k in
      let all = tick_sends ahead bases made heard elsewhere me h speaks some lawful requested node.policy node.draws node.replicas may live [] in
      record {
        me_is = k.me_is;
        known = all.known;
        named = λ m b. all.named m (subst (Among m) all.sent_is b);
        parts = λ base a. (let own = tick_own ahead bases made heard elsewhere me h speaks some lawful requested node.policy base a node.draws node.replicas may live (k.holds base a) [] in
            record {
              newer = own.newer;
              are = ap (λ ms. asked_in base.core.id ms (h base)) own.sent_is ∙ own.are;
              by = own.by;
              lawful_is = own.lawful_is;
              requested_is = own.requested_is;
              holds = own.holds;
              mails = λ m b. own.mails_are m (subst (Among m) own.sent_is b);
            });
      }
