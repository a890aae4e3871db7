-- From a quiet journal on clients may ask.
use Rattle.std.proofs.Common.{◌≡◌, ℕ, ◌+◌, ◌≤◌, Bool, true, false, List, [], ◌∷◌, map, Option, Some, None, inl, inr, refl, sym, ◌∙◌, ap, subst, arith}
use Rattle.std.proofs.lemmas.Bool.{cases_Bool, both_ways}
use Rattle.sc_base.specs.Definitions.{Among, Each, client_actor, is_member}
use Rattle.sc_node_table.specs.Values.{Draw, Base, Route, Mail, Node}
use Rattle.sc_client_table.specs.lookup.LookupDefinitions.{new_way}
use Rattle.sc_client_table.specs.table.TableDefinitions.{Client as ClientState}
use Rattle.sc_node_table.specs.NodeDefinitions.{NodeState, replica_of, ReplicaState, name_of}
use Rattle.sc_words.proofs.PaxosProofs.PaxosLemmas.{Each-among}
use Rattle.sc_scenario.specs.declared.scenario.scenarios.Asks.{Asks}
use Rattle.sc_scenario.specs.declared.scenario.scenarios.Scenario.{Scenario}
use Rattle.sc_scenario.specs.scenario.Definitions.{ValidScenariosAreBounded}
use Rattle.sc_meaning.specs.sound.SoundDefinitions.{player_table, node_seat, route_of, system_of, as_nodes}
use Rattle.sc_live_orderly.specs.OrderlyDefinitions.{rest, is_born}
use Rattle.sc_actor.specs.Definitions.{value, has_started}
use Rattle.sc_live_steps.specs.calm.CalmDefinitions.{Ways, View as Replicas, StandsQuiet, IsAnswered}
use Rattle.sc_live_plain.specs.PlainDefinitions.{IsAskingNode, IsAskingClient, IsAsking, NobodyWaits, replicas_after, setting_at, AreFramesOf, DoHintsRise, IsQuietJournal, QuietJournalsAsk, frame_at_rest, StandsPlain, Mark, Asks as AsksFor, Votes, Teaches, Other, mark, AreInOrder, IsBelow, View, IsBetween, replica_at, next_in, voters_in, votes_in, view_at, marks_at, IsGroupAt, IsOther, CanBeAsked, IsCalmClient, Setting, IsHome, IsSetting, KnowsBetter, IsCalmNode, IsCalmMail, Frame, IsFrame, IsBegun, Requests, IsPlainAt}
use Rattle.sc_live_plain.proofs.PlainProofs.PlainBeginnings.{IsStage, stage}
use Rattle.sc_live_plain.proofs.PlainProofs.PlainSteps.{node_number}
use Rattle.sc_live_plain.proofs.PlainRowsProofs.RowViews.{Journal, replica_is}
use Rattle.sc_live_plain.proofs.PlainRowsProofs.RowViews.{client_is}
use Rattle.sc_live_plain.proofs.CalmProofs.QuietFrames.{quiet_stand_plain}
use Rattle.sc_live_plain.proofs.PlainRowsProofs.MarkLists.{taught-other as other_reported}

-- ---- mail that is nothing to a group

none_asked : (slot : ℕ) (marks : List Mark) → Each IsOther marks → Among (AsksFor slot) marks → ⊥
none_asked slot [] e a = a
none_asked slot (m ∷ marks) e (inl same) = (let bad : AsksFor slot ≡ Other = sym same ∙ e.0 in cc)
none_asked slot (m ∷ marks) e (inr a) = none_asked slot marks e.1 a

other_order : (low : ℕ) (marks : List Mark) → Each IsOther marks → AreInOrder low marks
other_order low [] e = tt
other_order low (Other ∷ marks) e = other_order low marks e.1
other_order low (AsksFor slot ∷ marks) e = (let bad : AsksFor slot ≡ Other = e.0 in cc)
other_order low (Votes node slot ∷ marks) e = (let bad : Votes node slot ≡ Other = e.0 in cc)
other_order low (Teaches slot ∷ marks) e = (let bad : Teaches slot ≡ Other = e.0 in cc)

other_below : (bound : ℕ) (marks : List Mark) → Each IsOther marks → Each (IsBelow bound) marks
other_below bound [] e = tt
other_below bound (m ∷ marks) e = (subst (IsBelow bound) (sym e.0) tt, other_below bound marks e.1)

-- beside such mail stands what stands where none is under way
between_others : (frame : Frame) (view : View) (marks : ℕ → List Mark) → ((node : ℕ) → Each IsOther (marks node)) → IsBetween frame view (λ node. [])
    → ((slot : ℕ) (voters : List ℕ) → view.voters slot ≡ Some voters → ⊥) → IsBetween frame view marks
between_others frame view marks others b none = record {
  learners = λ node m ne. (let l = b.learners node m ne in record { left = l.left; reaches = l.reaches; tells = other_reported (marks node) (others node) ∙ l.tells });
  order = λ node. other_order (view.next node) (marks node) (others node);
  below = λ node. other_below view.bound (marks node) (others node);
  low = b.low;
  undone = λ slot a. absurd (none_asked slot (marks frame.lead) (others frame.lead) a);
  flying = λ slot voters e. absurd (none slot voters e);
  votes = λ slot voters e. absurd (none slot voters e);
}

module _ (words : ℕ → ℕ → ℕ × ℕ) (scenario : Scenario) (begins : IsStage scenario) (rows : Journal) (q : IsQuietJournal words scenario begins.first rows) (frames : List Frame) (ways : Ways) (s : AreFramesOf (replicas_after scenario rows) frames) (up : DoHintsRise (replicas_after scenario rows) ways) where
  abbrev at : Replicas
  at = replicas_after scenario rows

  abbrev set : Setting
  set = setting_at (replicas_after scenario rows) frames ways

  abbrev begun : Requests
  begun = IsBegun scenario rows

  plain : (group : Draw) (quiet : StandsQuiet (replicas_after scenario rows) group) → StandsPlain (IsBegun scenario rows) (replicas_after scenario rows) quiet.lead
  plain group quiet = quiet_stand_plain scenario rows at group quiet (λ node r e. (q.kept group node r e, q.quiet.at_rest group node r e)) (q.noted group quiet)

  lead_there : (group : Draw) (quiet : StandsQuiet (replicas_after scenario rows) group) → replica_at scenario rows group quiet.lead.me ≡ Some quiet.lead
  lead_there group quiet = quiet.newest.is_there

  lead_name : (group : Draw) (quiet : StandsQuiet (replicas_after scenario rows) group) → name_of quiet.lead ≡ group
  lead_name group quiet = (q.kept group quiet.lead.me quiet.lead (lead_there group quiet)).name_is

  -- one leads
  one_lead : (one two : Draw) (a : StandsQuiet (replicas_after scenario rows) one) (b : StandsQuiet (replicas_after scenario rows) two) → one ≡ two → b.lead ≡ a.lead
  one_lead one two a b e = a.alone b.lead.me b.lead (ap (λ d. replica_at scenario rows d b.lead.me) e ∙ lead_there two b) b.leads.running

  is_setting : IsSetting (setting_at (replicas_after scenario rows) frames ways)
  is_setting = record {
    are = λ frame a. (let f = s.are frame a in subst IsFrame f.2 (plain f.0 f.1).frame);
    apart = λ one other a b e. (
        let f = s.are one a in
        let g = s.are other b in
        let names : f.0 ≡ g.0 = sym (lead_name f.0 f.1) ∙ (ap (λ (x : Frame). x.core.id) f.2 ∙ (e ∙ (sym (ap (λ (x : Frame). x.core.id) g.2) ∙ lead_name g.0 g.1))) in
        sym f.2 ∙ (ap frame_at_rest (sym (one_lead f.0 g.0 f.1 g.1 names)) ∙ g.2));
    leads = λ frame a. (let f = s.are frame a in
        subst (λ (x : Frame). IsHome (setting_at (replicas_after scenario rows) frames ways) x.core.id x.lead) f.2 (record { r = f.1.lead; is_there = ap (λ d. replica_at scenario rows d f.1.lead.me) (lead_name f.0 f.1) ∙ lead_there f.0 f.1 }));
    nearer = λ frame node a. (let f = s.are frame a in
        subst (λ (x : Frame). (node ≡ x.lead → ⊥) → ways.far x.core.id x.lead + 1 ≤ ways.far x.core.id node) f.2
        (λ ne. subst (λ d. ways.far d f.1.lead.me + 1 ≤ ways.far d node) (sym (lead_name f.0 f.1)) (up.leads f.0 f.1 node ne)));
  }

  -- ---- a node

  module _ (me : ℕ) (one : 1 ≤ me) (most : me ≤ scenario.nodes) where
    abbrev node : NodeState
    node = (q.nodes me one most).0

    node_is : value player_table (node_seat as_nodes scenario.groups scenario.policy me) rows ≡ Node (q.nodes me one most).0
    node_is = (q.nodes me one most).1

    me_is : node.me ≡ me
    me_is = (q.nodes me one most).2

    at_me : (group : Draw) → replica_at scenario rows group me ≡ replica_of group node.replicas
    at_me group = replica_is words scenario rows group me (Node node) (node_number words scenario begins me one most) node_is

    found : (group : Draw) (r : ReplicaState) → replica_of group node.replicas ≡ Some r → replica_at scenario rows group me ≡ Some r
    found group r e = at_me group ∙ e

    better : (group : Draw) (r : ReplicaState) → replica_of group node.replicas ≡ Some r → r.running ≡ false → (gone : Option Route) → r.group.core.gone ≡ gone → KnowsBetter (setting_at (replicas_after scenario rows) frames ways) group r gone
    better group r e stops (Some into) w = record { node = me; r = r; is_there = found group r e; went = w }
    better group r e stops None w =
        let rises = q.quiet.rises group me r (found group r e) stops w in
        let k = q.kept group me r (found group r e) in
        (r.top.node, rises.hint_is, record { has = record { r = rises.there; is_there = rises.is_there }; near = subst (λ who. ways.far group r.top.node + 1 ≤ ways.far group who) (sym k.me_is) (up.hints group me r.top.node r (found group r e) stops w rises.hint_is) })

    runs : (group : Draw) (r : ReplicaState) → replica_of group node.replicas ≡ Some r → r.running ≡ true → (frame : Frame) × Among frame frames × (frame.core.id ≡ group) × (node.me ≡ frame.lead)
    runs group r e running = elim (q.quiet.groups group me (r, found group r e)) [
      | inl stands ↦ (
          let same = stands.alone me r (found group r e) running in
          (frame_at_rest stands.lead, s.stand group stands, lead_name group stands, me_is ∙ (sym (q.kept group me r (found group r e)).me_is ∙ ap (λ (x : ReplicaState). x.me) same)))
      | inr gone ↦ absurd (both_ways r.running (gone.stopped me r (found group r e)) running)
    ]

    calm : IsCalmNode (IsBegun scenario rows) (setting_at (replicas_after scenario rows) frames ways) node
    calm = record {
      plain = record {
        replicas = λ frame r a e. (let f = s.are frame a in
            let id : name_of f.1.lead ≡ frame.core.id = ap (λ (x : Frame). x.core.id) f.2 in
            subst (λ (x : Frame). IsPlainAt begun x node.me r) f.2 (subst (λ who. IsPlainAt begun (frame_at_rest f.1.lead) who r) (sym me_is) ((plain f.0 f.1).replicas me r (ap (λ d. replica_at scenario rows d me) id ∙ found frame.core.id r e))));
        has = λ frame slot a m. (let f = s.are frame a in
            let id : name_of f.1.lead ≡ frame.core.id = ap (λ (x : Frame). x.core.id) f.2 in
            let h = (plain f.0 f.1).has slot me (ap (is_member ((frame_at_rest f.1.lead).at slot)) (sym me_is) ∙ (ap (λ (x : Frame). is_member (x.at slot) node.me) f.2 ∙ m)) in
            (h.0, sym (at_me frame.core.id) ∙ (ap (λ d. replica_at scenario rows d me) (sym id) ∙ h.1)));
      };
      own = λ group r e. (q.kept group me r (found group r e)).me_is ∙ sym me_is;
      has = λ group h. (h.r, sym (at_me group) ∙ (ap (replica_at scenario rows group) (sym me_is) ∙ h.is_there));
      runs = runs;
      stops = λ group r e stops. better group r e stops r.group.core.gone refl;
    }

    asking_node : IsAskingNode scenario (setting_at (replicas_after scenario rows) frames ways) rows me
    asking_node = record { node = node; fact = node_is; me_is = me_is; calm = calm }

  -- ---- a client

  module _ (asks : Asks) (a : Among asks scenario.clients) where
    calm_by : (gone : Bool) (client : ClientState) → client.me ≡ asks.client → client.requests ≡ asks.ops → IsAnswered gone (route_of begins.first) client → IsCalmClient (setting_at (replicas_after scenario rows) frames ways) asks gone client
    calm_by false client me_is requests_are fresh = record {
      me_is = me_is;
      requests_are = requests_are;
      knows = λ few. inl ((route_of begins.first).group, new_way (route_of begins.first).lo (route_of begins.first).members, ap (λ (x : ClientState). x.known) fresh);
      targets = λ few. subst (λ (x : ClientState). Each (CanBeAsked set) x.known) (sym fresh) (record { r = q.reached.0; is_there = q.reached.1 }, tt);
      state = inl (record { waits = ap (λ (x : ClientState). x.waiting) fresh; replies = inl (refl, ap (λ (x : ClientState). x.replies) fresh) });
    }
    calm_by true client me_is requests_are all = (let count = all.1 in record {
      me_is = me_is;
      requests_are = requests_are;
      knows = λ few. absurd (omega (arith, few, count));
      targets = λ few. absurd (omega (arith, few, count));
      state = inl (record { waits = all.0; replies = inr (refl, all.1) });
    })

    asking_client : IsAskingClient scenario (setting_at (replicas_after scenario rows) frames ways) begins.first rows asks
    asking_client =
        let p = q.players asks a in
        let answered = Each-among (λ (c : Bool × ClientState). IsAnswered c.0 (route_of begins.first) c.1) q.clients (has_started rows (client_actor asks.client), p.0) q.quiet.answered p.4 in
        record { client = p.0; fact = p.1; calm = calm_by (has_started rows (client_actor asks.client)) p.0 p.2 p.3 answered }

  still : (gone : Bool) (client : ClientState) → IsAnswered gone (route_of begins.first) client → client.waiting ≡ None
  still false client fresh = ap (λ (x : ClientState). x.waiting) fresh
  still true client all = all.0

  nobody : NobodyWaits scenario begins.first rows
  nobody asks client a e =
      let p = q.players asks a in
      let same : p.0 ≡ client = client_is (sym p.1 ∙ e) in
      let answered = Each-among (λ (c : Bool × ClientState). IsAnswered c.0 (route_of begins.first) c.1) q.clients (has_started rows (client_actor asks.client), p.0) q.quiet.answered p.4 in
      ap (λ (x : ClientState). x.waiting) (sym same) ∙ still (has_started rows (client_actor asks.client)) p.0 answered

  -- ---- a group

  marks_other : (name : Draw) (who : ℕ) → Each IsOther (marks_at words scenario rows name who)
  marks_other name who = elim (cases_Bool (is_born (system_of as_nodes words scenario) who)) [
    | inl born ↦ subst (λ l. Each IsOther (map (mark name) l)) (sym (q.none who born)) tt
    | inr not_born ↦ each (rest (system_of as_nodes words scenario) rows who) (q.desk who not_born)
  ]
    where
      each : (mails : List Mail) → Each (λ mail. (d : Draw) → mark d mail ≡ Other) mails → Each IsOther (map (mark name) mails)
      each [] e = tt
      each (m ∷ mails) e = (e.0 name, each mails e.1)

  group_of : (group : Draw) (quiet : StandsQuiet (replicas_after scenario rows) group) → IsGroupAt words scenario rows (frame_at_rest quiet.lead)
  group_of group quiet =
      let p = plain group quiet in
      let there : replica_at scenario rows (name_of quiet.lead) quiet.lead.me ≡ Some quiet.lead = ap (λ d. replica_at scenario rows d quiet.lead.me) (lead_name group quiet) ∙ lead_there group quiet in
      let none : (slot : ℕ) (voters : List ℕ) → votes_in (replica_at scenario rows (name_of quiet.lead) quiet.lead.me) slot ≡ Some voters → ⊥ = λ slot voters e. no_flight quiet.lead (q.quiet.at_rest group quiet.lead.me quiet.lead (lead_there group quiet)).flights slot voters (sym (ap (λ o. votes_in o slot) there) ∙ e) in
      let bound : next_in (replica_at scenario rows (name_of quiet.lead) quiet.lead.me) ≡ next_in (replica_at scenario rows (name_of quiet.lead) quiet.lead.me) + 0 = omega arith in
      record {
        taken = 0;
        r = quiet.lead;
        there = there;
        slots = p.slots;
        between = between_others (frame_at_rest quiet.lead) (view_at scenario rows (frame_at_rest quiet.lead) 0) (marks_at words scenario rows (name_of quiet.lead)) (marks_other (name_of quiet.lead))
            (subst (λ b. IsBetween (frame_at_rest quiet.lead) (record { next = λ node. next_in (replica_at scenario rows (name_of quiet.lead) node); bound = b; voters = λ slot. votes_in (replica_at scenario rows (name_of quiet.lead) quiet.lead.me) slot }) (λ node. [])) bound p.between) none;
      }
    where
      no_flight : (r : ReplicaState) → r.leader.flights ≡ [] → (slot : ℕ) (voters : List ℕ) → votes_in (Some r) slot ≡ Some voters → ⊥
      no_flight r e slot voters v = (let bad : None ≡ Some voters = sym (ap (λ fs. voters_in fs slot) e) ∙ v in cc)

  asking : IsAsking words scenario (setting_at (replicas_after scenario rows) frames ways) begins.first rows
  asking = record {
    nodes = asking_node;
    clients = asking_client;
    left = λ who born. subst (Each (IsCalmMail begun set)) (sym (q.none who born)) tt;
    groups = λ frame a. (let f = s.are frame a in subst (IsGroupAt words scenario rows) f.2 (group_of f.0 f.1));
  }

pub quiet_ask : ValidScenariosAreBounded → QuietJournalsAsk
quiet_ask all_bounded words scenario first others rows frames ways valid groups q s up =
    let begins = stage scenario (all_bounded scenario valid) in
    let same : first ≡ begins.first = (let e : first ∷ others ≡ begins.first ∷ begins.others = sym groups ∙ begins.groups_are in cc) in
    let q_ = subst (λ (f : Base). IsQuietJournal words scenario f rows) same q in (
      is_setting words scenario begins rows q_ frames ways s up,
      subst (λ (f : Base). IsAsking words scenario (setting_at (replicas_after scenario rows) frames ways) f rows) (sym same) (asking words scenario begins rows q_ frames ways s up),
      subst (λ (f : Base). NobodyWaits scenario f rows) (sym same) (nobody words scenario begins rows q_ frames ways s up),
    )
