-- Before the first row of a valid scenario all is quiet.
use Rattle.std.proofs.Common.{◌≡◌, ℕ, Bool, true, false, true≢false, cond, List, [], ◌∷◌, map, replicate, Some, None, inl, inr, refl, sym, ◌∙◌, ap, subst, arith}
use Rattle.std.proofs.lemmas.Bool.{cond-true, eqb-true, eq-eqb}
use Rattle.sc_base.specs.Definitions.{Among, Each, is_member, least_of}
use Rattle.sc_node_table.specs.Values.{Draw, Base, Core}
use Rattle.sc_client_table.specs.table.TableDefinitions.{Client as ClientState, born_client}
use Rattle.sc_words.proofs.PaxosProofs.PaxosLemmas.{at_least_itself}
use Rattle.sc_paxos_law.proofs.Lemmas.{from_map}
use Rattle.sc_group_table.specs.machine.MachineDefinitions.{group_of}
use Rattle.sc_node_table.specs.NodeDefinitions.{born_replicas, born_node, replica_of, is_node, ReplicaState, next, members, first_ballot, born_replica, slots_ahead}
use Rattle.sc_scenario.specs.scenario.Definitions.{IsBounded, ValidScenariosAreBounded}
use Rattle.sc_scenario.specs.declared.scenario.scenarios.Asks.{Asks}
use Rattle.sc_scenario.specs.declared.scenario.scenarios.Scenario.{Scenario}
use Rattle.sc_meaning.specs.sound.SoundDefinitions.{route_of}
use Rattle.sc_live_steps.specs.calm.CalmDefinitions.{View, IsNewest, IsAtRest, IsBelow, IsLinked, StandsQuiet, RisesAt, IsAnswered, IsQuiet}
use Rattle.sc_live_steps.proofs.CalmStepsProofs.CalmStepLemmas.{begin_at_rest, first_leads}
use Rattle.sc_live_plain.specs.PlainDefinitions.{replicas_after, IsQuietJournal, IsOfNodes, IsKept, frame_at_rest, Frame, IsFrame, frame_of, IsBegun, Requests, IsPlainGroup}
use Rattle.sc_live_plain.proofs.PlainLemmas.{born_plain, born_found, IsBornOf, born_is, stage, map_among, next_frame, least_leads}
use Rattle.sc_live_journals.proofs.RowsProofs.ScenarioGroups.{named_once}
use Rattle.sc_law_groups.proofs.WholeProofs.WholeLemmas.{group_place}
use Rattle.sc_live_answers.specs.AnswerDefinitions.{QuietJournalsBegin}

-- one of several same ones
one_of : (set members : List ℕ) → Among set (replicate slots_ahead members) → set ≡ members
one_of set members (inl e) = sym e
one_of set members (inr (inl e)) = sym e
one_of set members (inr (inr (inl e))) = sym e
one_of set members (inr (inr (inr (inl e)))) = sym e
one_of set members (inr (inr (inr (inr none)))) = absurd none

module _ (words : ℕ → ℕ → ℕ × ℕ) (scenario : Scenario) (bounded : IsBounded scenario) where
  abbrev at : View
  at = replicas_after scenario []

  abbrev born : ℕ → Base → ReplicaState
  born me base = born_replica slots_ahead me base

  at_is : (group : Draw) (node : ℕ) (r : ReplicaState) → at group node ≡ Some r → IsBornOf scenario.groups group node r
  at_is group node r = by (is_node node)
    where
      none_some : None ≡ Some r → ⊥
      none_some e = cc

      by : (b : Bool) → cond b (replica_of group (born_replicas slots_ahead node scenario.groups)) None ≡ Some r → IsBornOf scenario.groups group node r
      by true e = born_is scenario.groups group node r e
      by false e = absurd (none_some e)

  frame_is : (base : Base) → Among base scenario.groups → IsFrame (frame_of base)
  frame_is base a = (stage scenario bounded).are (frame_of base) (map_among frame_of scenario.groups base a)

  -- each member has a replica
  there : (base : Base) (node : ℕ) → Among base scenario.groups → is_member base.core.members node ≡ true → at base.core.id node ≡ Some (born node base)
  there base node a m =
      let f = born_found node scenario.groups base a m in
      let b = born_is scenario.groups base.core.id node (born node f.0) f.1 in
      let same = named_once scenario bounded b.base base b.among a b.named in
      cond-true (is_node node) (replica_of base.core.id (born_replicas slots_ahead node scenario.groups)) None ((frame_is base a).nodes 0 node m) ∙ (f.1 ∙ ap Some (b.fact ∙ ap (born node) same))

  module _ (base : Base) (a : Among base scenario.groups) where
    lead : ReplicaState
    lead = born base.core.first base

    mine : is_member base.core.members base.core.first ≡ true
    mine = (frame_is base a).leads

    of_base : (node : ℕ) (r : ReplicaState) → at base.core.id node ≡ Some r → r ≡ born node base
    of_base node r e = (let b = at_is base.core.id node r e in b.fact ∙ ap (born node) (named_once scenario bounded b.base base b.among a b.named))

    newest : IsNewest at base.core.id (born base.core.first base)
    newest = record {
      is_there = there base base.core.first a mine;
      most = λ node other e. (let n = ap next (of_base node other e) in omega (arith, n));
    }

  linked : (base : Base) (a : Among base scenario.groups) → IsLinked at (born base.core.first base)
  linked base a =
      let n = next_frame scenario bounded (frame_of base) (map_among frame_of scenario.groups base a) in
      let b = from_map frame_of scenario.groups n.0 n.1 in
      let core : b.0.core ≡ n.0.core = ap (λ (f : Frame). f.core) b.2 in
      let name : base.core.succ.group ≡ b.0.core.id = n.2.after.name ∙ ap (λ (c : Core). c.id) (sym core) in
      record {
        behind = born b.0.core.first b.0;
        newest = subst (λ d. IsNewest at d (born b.0.core.first b.0)) (sym name) (newest b.0 b.1);
        stands = (frame_is b.0 b.1).stands;
        begins = ap (λ (c : Core). c.arc.lo) core ∙ n.2.after.starts;
        nodes = λ node m. (let mem : is_member b.0.core.members node ≡ true = ap (λ (c : Core). is_member c.members node) core ∙ (ap (λ ms. is_member ms node) (sym n.2.members) ∙ m) in
            (born node b.0, ap (λ d. at d node) name ∙ there b.0 node b.1 mem));
      }

  stands : (base : Base) (a : Among base scenario.groups) → StandsQuiet at base.core.id
  stands base a = record {
    lead = born base.core.first base;
    newest = newest base a;
    stands = (frame_is base a).stands;
    leads = first_leads slots_ahead base.core.first base (omega arith) refl (mine base a);
    alone = λ node r e runs. (let fact = of_base base a node r e in
        let me : base.core.first ≡ node = eqb-true base.core.first node (ap (λ (x : ReplicaState). x.running) (sym fact) ∙ runs) in
        fact ∙ ap (λ n. born n base) (sym me));
    below_it = λ node r e. subst (IsBelow (born base.core.first base)) (sym (of_base base a node r e))
        (record { promised = at_least_itself (first_ballot base.core); top = at_least_itself (first_ballot base.core); accepted = tt });
    member = λ node m. (born node base, there base node a m, record { group_is = refl; next_is = refl; sets_are = refl; hint_is = refl });
    voter = λ set node among m. (born node base, there base node a (ap (λ ms. is_member ms node) (sym (one_of set base.core.members among)) ∙ m), record { hint_is = refl; promised = λ e. absurd (true≢false e) });
    linked = linked base a;
  }

  kept : (group : Draw) (node : ℕ) (r : ReplicaState) → at group node ≡ Some r → IsKept group node r
  kept group node r e =
      let b = at_is group node r e in
      let f = frame_is b.base b.among in
      let of_nodes : IsOfNodes b.base.core.members = record { roster = f.rosters 0; nodes = f.nodes 0 } in
      subst (IsKept group node) (sym b.fact) (record {
        me_is = refl;
        name_is = b.named;
        own = λ runs. eqb-true b.base.core.first node runs;
        floor_low = omega arith;
        many = refl;
        sets = (of_nodes, (of_nodes, (of_nodes, (of_nodes, tt))));
        last = refl;
      })

  rises : (group : Draw) (node : ℕ) (r : ReplicaState) → at group node ≡ Some r → RisesAt at group r
  rises group node r e =
      let b = at_is group node r e in
      subst (RisesAt at group) (sym b.fact) (record {
        hint_is = refl;
        there = born b.base.core.first b.base;
        is_there = ap (λ d. at d b.base.core.first) (sym b.named) ∙ there b.base b.base.core.first b.among (mine b.base b.among);
        nearer = inl (eq-eqb b.base.core.first b.base.core.first refl);
      })

  noted : (begun : Requests) (lead r : ReplicaState) (group : Draw) (node : ℕ) → at group node ≡ Some r → lead.group.core ≡ r.group.core → IsPlainGroup begun (frame_at_rest lead) r.group
  noted begun leader r group node e core =
      let b = at_is group node r e in
      let k = group_place scenario bounded b.base b.among in
      let p = born_plain begun node b.base (ap (λ (x : Base). x.pairs) (sym k.2)) (ap (λ (x : Base). x.clients) (sym k.2)) in
      let same : group_of b.base ≡ r.group = ap (λ (x : ReplicaState). x.group) (sym b.fact) in
      let plain : IsPlainGroup begun (frame_of b.base) r.group = subst (IsPlainGroup begun (frame_of b.base)) same p.group in
      record { core_is = sym core; noted = plain.noted; replied = plain.replied; stored = plain.stored }

  module _ (first : Base) (others : List Base) (groups_are : scenario.groups ≡ first ∷ others) where
    abbrev client_of : Asks → Bool × ClientState
    client_of asks = (false, born_client asks.client asks.ops (route_of first))

    answered : (clients : List Asks) → Each (λ client. IsAnswered client.0 (route_of first) client.1) (map client_of clients)
    answered [] = tt
    answered (asks ∷ clients) = (refl, answered clients)

    first_among : Among first scenario.groups
    first_among = subst (Among first) (sym groups_are) (inl refl)

    quiet : IsQuiet at (route_of first) (map client_of scenario.clients)
    quiet = record {
      groups = λ group node h. (let b = at_is group node h.0 h.1 in inl (subst (StandsQuiet at) b.named (stands b.base b.among)));
      at_rest = λ group node r e. (let b = at_is group node r e in subst IsAtRest (sym b.fact) (begin_at_rest slots_ahead node b.base (frame_is b.base b.among).free).0);
      rises = λ group node r e off still. rises group node r e;
      answered = answered scenario.clients;
    }

    least_member : is_member first.core.members (least_of first.core.members) ≡ true
    least_member =
        let lead : first.core.first ≡ least_of first.core.members = least_leads scenario bounded (frame_of first) (map_among frame_of scenario.groups first first_among) in
        ap (is_member first.core.members) (sym lead) ∙ mine first first_among

    begins : IsQuietJournal words scenario first []
    begins = record {
      clients = map client_of scenario.clients;
      quiet = quiet;
      kept = kept;
      noted = λ group there_. noted (IsBegun scenario []) there_.lead there_.lead group there_.lead.me there_.newest.is_there refl;
      nodes = λ me low high. (born_node slots_ahead me scenario.groups scenario.policy, refl, refl);
      players = λ asks a. (born_client asks.client asks.ops (route_of first), refl, refl, refl, map_among client_of scenario.clients asks a);
      reached = (born (least_of first.core.members) first, there first (least_of first.core.members) first_among least_member);
      none = λ who b. refl;
      desk = λ who b. tt;
    }

pub journals_begin : ValidScenariosAreBounded → QuietJournalsBegin
journals_begin all_bounded words scenario first others valid groups_are = begins words scenario (all_bounded scenario valid) first others groups_are
