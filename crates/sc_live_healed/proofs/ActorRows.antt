-- What an actor's row does to a group: its replica of the group moves, asks within the greatest ballot that it has seen, and promises nothing but what a mail brings.
use Rattle.std.proofs.Common.{◌≡◌, ℕ, ◌<◌, ◌≤◌, Bool, false, List, [], ◌∷◌, ◌++◌, Option, Some, None, ◌⊎◌, inl, inr, refl, sym, ◌∙◌, subst, arith}
use Rattle.std.specs.Option.{option_map}
use Rattle.sc_base.specs.Definitions.{Among, Each, Drawer, same_draw}
use Rattle.sc_base.proofs.Lemmas.{draw_is}
use Rattle.sc_words.proofs.PaxosProofs.PaxosLemmas.{Each-among, Each-append, find_found, Each-weaker}
use Rattle.sc_law_groups.proofs.GroupProofs.GroupLemmas.{number_among}
use Rattle.sc_node_table.specs.Values.{Event, Deliver, Drop, Again, Crash, Input, Got, Base, OrderLine, Mail, Ask, Node, Client}
use Rattle.sc_actor.specs.declared.rows.Event.TheVariants.{Tick as TickEvent, Go as GoEvent, Told as ToldEvent}
use Rattle.sc_actor.specs.declared.rows.Input.TheVariants.{Tick, Go, Told as ToldInput}
use Rattle.sc_actor.specs.Definitions.{acted, input_of}
use Rattle.sc_client_table.specs.table.TableDefinitions.{Client as ClientState}
use Rattle.sc_client_table.proofs.TableProofs.TurnLemmas.{sends_in_turn}
use Rattle.sc_node_table.specs.NodeDefinitions.{NodeState, ReplicaState, Place, name_of, group_of_mail, mailed, ticked, tick_row, next}
use Rattle.sc_scenario.specs.declared.scenario.scenarios.Scenario.{Scenario}
use Rattle.sc_scenario.specs.scenario.Definitions.{IsBounded}
use Rattle.sc_meaning.specs.sound.SoundDefinitions.{Player, player_table}
use Rattle.sc_live_healed.proofs.FixedWalks.{IsFixedPlace, IsMember, IsSaid}
use Rattle.sc_live_healed.proofs.FixedNodes.{AreFresh, MayTake, IsOne, into, name_one}
use Rattle.sc_live_healed.proofs.FixedBirths.{groups_fresh}
use Rattle.sc_live_healed.proofs.FixedJournals.{IsFixedPlayer, Brings, given}
use Rattle.sc_live_healed.proofs.MovedReplicas.{AsksWithin, Brings as BringsBallot, mailed_moves, ticked_moves}
use Rattle.sc_live_healed.proofs.NearJournals.{PlayerNear}
use Rattle.sc_live_healed.proofs.NearSlots.{StaysNear}
use Rattle.sc_live_healed.proofs.NodeViews.{mail_view}
use Rattle.sc_live_healed.proofs.NodeTicks.{OneNamed, none_found, found_none, tick_none, others_say, one_of_all_ticks}
use Rattle.sc_live_healed.proofs.DeliveredViews.{player_view}
use Rattle.sc_live_healed.specs.HealedDefinitions.{IsFixedMail, IsFixedNode}

-- both hold of each
each_both : {X : Type 0} (P Q : X → Type 0) (xs : List X) → Each P xs → Each Q xs → Each (λ x. P x × Q x) xs
each_both P Q [] p q = tt
each_both P Q (x ∷ xs) p q = ((p.0, q.0), each_both P Q xs p.1 q.1)

module _ (words : ℕ → ℕ → ℕ × ℕ) (scenario : Scenario) (bounded : IsBounded scenario) (off : scenario.policy ≡ false) (base : Base) (among : Among base scenario.groups) where
  fresh : AreFresh scenario.groups
  fresh = groups_fresh scenario bounded

  abbrev pub View : Player → Option ReplicaState
  View p = player_view words scenario bounded base among p

  -- a node has one replica of the group at most
  abbrev pub HasOne : Player → Type 0
  HasOne (Node node) = OneNamed name_of base.core.id node.replicas
  HasOne (Client client) = Unit {0}

  -- its greatest ballot rises, and it promises nothing but what a mail brings
  abbrev pub Rises : List Mail → ReplicaState → ReplicaState → Type 0
  Rises sent r after = (r.top.round ≤ after.top.round) × ((after.acceptor.promised ≡ r.acceptor.promised) ⊎ ((mail : Mail) × Among mail sent × (group_of_mail mail.body ≡ Some base.core.id) × BringsBallot mail.body after.acceptor.promised))

  -- a mail of the group asks within any ballot, or within that which its sender has seen
  abbrev pub AsksSo : ℕ → Player → Mail → Type 0
  AsksSo who p mail = group_of_mail mail.body ≡ Some base.core.id → ((round : ℕ) → AsksWithin round mail.body) ⊎ ((mail.from ≡ who) × ((r : ReplicaState) → View p ≡ Some r → AsksWithin r.top.round mail.body))

  -- What a row leaves of an actor, and what it sends.
  pub record PlayerRow (sent : List Mail) (who : ℕ) (p : Player) (after : Player × List Mail) : Type 0 where
    pub rises : (r : ReplicaState) → View after.0 ≡ Some r → (before : ReplicaState) × (View p ≡ Some before) × Rises sent before r
    pub asks : Each (AsksSo who after.0) after.1

  abbrev Other : Mail → Type 0
  Other mail = group_of_mail mail.body ≡ Some base.core.id → ⊥

  rests : (sent : List Mail) (who : ℕ) (p : Player) → PlayerRow sent who p (p, [])
  rests sent who p = record { rises = λ r e. (r, e, (omega arith, inl refl)); asks = tt }

  one : {r x : ReplicaState} {o : Option ReplicaState} → o ≡ Some r → o ≡ Some x → r ≡ x
  one e f = (let same = sym e ∙ f in cc)

  -- a replica that has moved
  moved : (sent : List Mail) (who : ℕ) (start : ReplicaState) (place : Place) (p after : Player) → View p ≡ Some start → View after ≡ Some place.0 → (place.0.acceptor.promised ≡ start.acceptor.promised) ⊎ ((mail : Mail) × Among mail sent × (group_of_mail mail.body ≡ Some base.core.id) × BringsBallot mail.body place.0.acceptor.promised)
      → start.top.round ≤ place.0.top.round → (r : ReplicaState) → View after ≡ Some r → (before : ReplicaState) × (View p ≡ Some before) × Rises sent before r
  moved sent who start place p after was fact promise up r e =
      let same : place.0 ≡ r = one fact e in
      (start, was, subst (λ (x : ReplicaState). Rises sent start x) same (up, promise))

  -- what it says
  says : (who : ℕ) (place : Place) (after : Player) → View after ≡ Some place.0 → Each (IsSaid base who) place.1 → Each (λ (mail : Mail). AsksWithin place.0.top.round mail.body) place.1 → Each (AsksSo who after) place.1
  says who place after fact said asks =
      Each-weaker (λ (mail : Mail). IsSaid base who mail × AsksWithin place.0.top.round mail.body) (AsksSo who after)
      (λ mail b of. inr (b.0.0, λ r e. subst (λ (x : ReplicaState). AsksWithin x.top.round mail.body) (one fact e) b.1)) place.1
      (each_both (IsSaid base who) (λ (mail : Mail). AsksWithin place.0.top.round mail.body) place.1 said asks)

  says_no : (who : ℕ) (after : Player) (mails : List Mail) → Each (λ (m : Mail). group_of_mail m.body ≡ Some base.core.id → ⊥) mails → Each (AsksSo who after) mails
  says_no who after mails none = Each-weaker (λ (m : Mail). group_of_mail m.body ≡ Some base.core.id → ⊥) (AsksSo who after) (λ mail other of. absurd (other of)) mails none

  module _ (sent : List Mail) (node : NodeState) (me : ℕ) (mine : node.me ≡ me) (k : IsFixedNode scenario.groups node) (bound : ℕ) (near : PlayerNear bound (Node node)) (once : HasOne (Node node)) where
    low : (r : ReplicaState) → View (Node node) ≡ Some r → r.acceptor.floor < next r
    low r e = (Each-among (λ (x : ReplicaState). StaysNear bound (x, [])) node.replicas r near (find_found (λ (x : ReplicaState). same_draw (name_of x) base.core.id) node.replicas r e).0).floored

    takes_mail : (mail : Mail) → Among mail sent → IsFixedMail scenario.groups mail → mail.to ≡ node.me → PlayerRow sent me (Node node) (player_table (Node node) (Got mail))
    takes_mail mail a m to = elim (mail_view scenario.groups fresh base among node k mail m to) [
      | inl t ↦ (
          let place : Place = (mailed mail.from mail.body (t.1.replica, [])).0 in
          let moves = mailed_moves base node.me t.1.born ⊥ t.1.replica mail.from mail.body (low t.1.replica t.1.was) t.1.heard t.1.fixed in
          let after : Player = (player_table (Node node) (Got mail)).0 in
          record {
            rises = moved sent me t.1.replica place (Node node) after t.1.was t.1.fact (elim moves.1.promise [ inl same ↦ inl same | inr b ↦ inr (mail, a, t.0, b) ]) moves.1.rises;
            asks = subst (Each (AsksSo me after)) (sym t.1.sent) (says me place after t.1.fact (subst (λ (n : ℕ). Each (IsSaid base n) place.1) mine moves.0.said) moves.1.asks);
          })
      | inr p ↦ record { rises = λ r e. (r, sym p.1.stays ∙ e, (omega arith, inl refl)); asks = says_no me (player_table (Node node) (Got mail)).0 (player_table (Node node) (Got mail)).1 p.1.sent }
    ]

    -- a tick
    abbrev Ticked : List ReplicaState × List Mail → Type 0
    Ticked step = (draws : Drawer) → PlayerRow sent me (Node node) (Node (record node { draws = draws; replicas = step.0 }), step.1)

    tick_by : (o : Option ReplicaState) → View (Node node) ≡ o → Ticked (ticked false node.draws node.replicas [])
    tick_by None e draws =
        let none = none_found base.core.id node.replicas e in
        let said = others_say scenario.groups fresh node k base among node.draws node.replicas [] k.replicas none in
        let after : Player = Node (record node { draws = draws; replicas = (ticked false node.draws node.replicas []).0 }) in
        let gone : View after ≡ None = found_none base.core.id (ticked false node.draws node.replicas []).0 (tick_none scenario.groups fresh node k base among base.core.id node.draws node.replicas [] k.replicas none) in
        record {
          rises = λ r f. absurd (let bad = sym f ∙ gone in cc);
          asks = says_no me after (ticked false node.draws node.replicas []).1 (subst (Each Other) (sym said.fact) said.other);
        }
    tick_by (Some r) e draws =
        let t = one_of_all_ticks scenario.groups fresh node k base among node.draws node.replicas [] k.replicas once r e in
        let place : Place = tick_row false t.drawer (t.replica, []) in
        let found = find_found (λ (x : ReplicaState). same_draw (name_of x) base.core.id) node.replicas t.replica t.was in
        let one : IsOne scenario.groups fresh node.me t.replica = Each-among (IsOne scenario.groups fresh node.me) node.replicas t.replica k.replicas found.0 in
        let same : one.0 ≡ base = fresh.apart one.0 base one.1 among (sym (name_one scenario.groups fresh node.me t.replica one) ∙ draw_is (name_of t.replica) base.core.id found.1) in
        let fixed : IsFixedPlace base node.me (t.replica, []) = subst (λ (b : Base). IsFixedPlace b node.me (t.replica, [])) same (into scenario.groups fresh node.me t.replica one) in
        let born = fresh.each base among node.me (subst (λ (b : Base). IsMember b node.me) same one.2) in
        let moves = ticked_moves base node.me born (Unit {0}) t.replica node.me (Ask base.core.id 0) tt t.drawer (low t.replica t.was) fixed in
        let after : Player = Node (record node { draws = draws; replicas = (ticked false node.draws node.replicas []).0 }) in
        record {
          rises = moved sent me t.replica place (Node node) after t.was t.fact (elim moves.1.promise [ inl kept ↦ inl kept | inr b ↦ absurd b ]) moves.1.rises;
          asks = subst (Each (AsksSo me after)) (sym t.sent)
              (Each-append (AsksSo me after) t.before (place.1 ++ t.after) (says_no me after t.before t.others_before)
              (Each-append (AsksSo me after) place.1 t.after (says me place after t.fact (subst (λ (n : ℕ). Each (IsSaid base n) place.1) mine moves.0.said) moves.1.asks) (says_no me after t.after t.others_after)));
        }

    ticks : node.policy ≡ false → PlayerRow sent me (Node node) (player_table (Node node) Tick)
    ticks still = subst (λ (on : Bool). Ticked (ticked on node.draws node.replicas [])) (sym still) (tick_by (View (Node node)) refl) _

  -- ---- any row

  client_asks : (who : ℕ) (client : ClientState) (input : Input Mail OrderLine) → Each (AsksSo who (player_table (Client client) input).0) (player_table (Client client) input).1
  client_asks who client input = elim (sends_in_turn client input).sends [
    | inl none ↦ subst (Each (AsksSo who (player_table (Client client) input).0)) (sym none) tt
    | inr some ↦ subst (Each (AsksSo who (player_table (Client client) input).0)) (sym some.4) ((λ of. inl (λ round. tt)), tt)
  ]

  takes : (sent : List Mail) (who : ℕ) (p : Player) (input : Input Mail OrderLine) (bound : ℕ) → MayTake scenario.groups who input → ((mail : Mail) → input ≡ Got mail → Among mail sent) → IsFixedPlayer scenario.groups who p → PlayerNear bound p → HasOne p → PlayerRow sent who p (player_table p input)
  takes sent who (Client client) input bound may given_ k near once = record { rises = λ r e. absurd (cc); asks = client_asks who client input }
  takes sent who (Node node) (Got mail) bound may given_ k near once = takes_mail sent node who k.0 k.2 bound near once mail (given_ mail refl) may.0 (may.1 ∙ sym k.0)
  takes sent who (Node node) Tick bound may given_ k near once = ticks sent node who k.0 k.2 bound near once k.1
  takes sent who (Node node) Go bound may given_ k near once = rests sent who (Node node)
  takes sent who (Node node) (ToldInput line) bound may given_ k near once = absurd may

  pub player_rows : (sent : List Mail) (who : ℕ) (p : Player) (event : Event OrderLine) (bound : ℕ) → Each (IsFixedMail scenario.groups) sent → Brings sent who event → IsFixedPlayer scenario.groups who p → PlayerNear bound p → HasOne p → PlayerRow sent who p (acted player_table p (input_of sent event))
  player_rows sent who p (Deliver number) bound s b k near once =
      subst (λ (o : Option Mail). PlayerRow sent who p (acted player_table p (option_map Got o))) (sym b.1)
      (takes sent who p (Got b.0) bound (given words scenario bounded off sent number b.0 s b.1, b.2) (λ mail e. (let same : b.0 ≡ mail = cc in subst (λ (m : Mail). Among m sent) same (number_among sent number b.0 b.1))) k near once)
  player_rows sent who p TickEvent bound s b k near once = takes sent who p Tick bound tt (λ mail e. absurd (cc)) k near once
  player_rows sent who p GoEvent bound s b k near once = takes sent who p Go bound tt (λ mail e. absurd (cc)) k near once
  player_rows sent who p (ToldEvent line) bound s b k near once = absurd b
  player_rows sent who p Crash bound s b k near once = rests sent who p
  player_rows sent who p (Drop number) bound s b k near once = rests sent who p
  player_rows sent who p (Again number) bound s b k near once = rests sent who p
