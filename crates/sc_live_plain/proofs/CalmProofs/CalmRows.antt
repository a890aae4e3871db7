-- The mail of requests lowers what is owed in a calm journal, replica by replica and node by node.
use Rattle.std.proofs.Common.{◌≡◌, ℕ, ◌+◌, ◌≤◌, ◌&&◌, true, false, List, [], length, map, inl, inr, sym, ◌∙◌, ap, subst, arith}
use Rattle.std.proofs.lemmas.Bool.{both_ways}
use Rattle.sc_base.specs.Definitions.{Among, client_actor, is_member}
use Rattle.sc_node_table.specs.Values.{Ballot, Op, Command, Noop, Call, Core, Flight, Got, Mail, MailBody, Request, Answer, Accept, Accepted, Learn}
use Rattle.sc_words.specs.ideal.IdealDefinitions.{key_of, holds_key}
use Rattle.sc_words.specs.paxos.PaxosDefinitions.{below}
use Rattle.sc_words.proofs.PaxosProofs.PaxosLemmas.{Each-weaker}
use Rattle.sc_group_table.specs.machine.MachineDefinitions.{Group}
use Rattle.sc_node_table.specs.NodeDefinitions.{NodeState, node_table, entered, admits_requests, ReplicaState, Place, name_of, next, slots_ahead, numbers_from}
use Rattle.sc_live_steps.specs.calm.CalmDefinitions.{AreBounded, IsServedCall, ServesAll, AreNines, MayPump, MayTake, Follows, Points, Ways, IsTaken, after_mail, group_owes, idle_owes, node_owes, turn_owes, body_owes, mail_owes}
use Rattle.sc_live_steps.proofs.CalmStepsProofs.CalmStepLemmas.{nodes_lower, taken_mail_lowers}
use Rattle.sc_live_plain.specs.PlainDefinitions.{Frame, IsFrame, AreNamedApart, Requests, IsPlainCall, IsPlainCommand, IsPlainFlight, IsPlainFollower, IsPlainReplica, IsLeading, IsPlainBody, IsPlainAt, IsPlainNode, IsDue}
use Rattle.sc_live_plain.proofs.LeadersProofs.PlainEntries.{entered_plain}
use Rattle.sc_live_plain.proofs.LeadersProofs.PlainPumps.{call_is}
use Rattle.sc_live_plain.proofs.LeadersProofs.ExecutedCalls.{call_plain}
use Rattle.sc_live_plain.proofs.PlainRowsProofs.NodeRows.{NodeRow, for_node}
use Rattle.sc_live_plain.proofs.PlainRowsProofs.ReplicaRows.{leading_at, following_at, none_stops, Does}

-- ---- a group that stands

module _ (ways : Ways) (begun : Requests) (frame : Frame) (fact : IsFrame frame) (bounded : AreBounded ways) where
  -- at most nine decide each open slot
  pub few_sets : (n : ℕ) (sets : List (List ℕ)) → sets ≡ map frame.at (numbers_from n slots_ahead) → AreNines sets
  few_sets n sets e = subst AreNines (sym e) ((fact.rosters n).most, ((fact.rosters (n + 1)).most, ((fact.rosters (n + 1 + 1)).most, ((fact.rosters (n + 1 + 1 + 1)).most, tt))))

  served_call : (core : Core) (command : Command) → core ≡ frame.core → IsPlainCommand begun frame command → IsServedCall core command
  served_call core (Call client seq op) e p = record {
    stands = ap (λ (c : Core). c.gone) e ∙ fact.stands;
    serves = ap (λ (c : Core). admits_requests c.lock) e ∙ ap admits_requests fact.free;
    holds = ap (λ (c : Core). holds_key c.arc (key_of op)) e ∙ p.held;
  }
  served_call core Noop e p = absurd p
  served_call core _ e p = absurd p

  module _ (r : ReplicaState) (p : IsPlainReplica begun frame frame.lead r) (k : IsLeading begun frame r) where
    pub may_pump : MayPump r
    may_pump = record { unbound = k.leader.open_; few = few_sets (next r) r.sets p.sets_are }

    core_is : r.group.core ≡ frame.core
    core_is = p.group.core_is

    pub serves_all : ServesAll r
    serves_all = record {
      running = k.leader.running;
      few = subst (λ ms. length ms ≤ 9) (fact.later (frame.from + slots_ahead) (omega arith) ∙ ap (λ (c : Core). c.members) (sym core_is)) (fact.rosters (frame.from + slots_ahead)).most;
      mine = ap (λ (c : Core). is_member c.members r.me) core_is ∙ (ap (is_member frame.core.members) p.me_is ∙ fact.leads);
      may = may_pump;
      flights = Each-weaker (IsPlainFlight begun frame) (λ (flight : Flight Command). IsServedCall r.group.core flight.value) (λ flight f. served_call r.group.core flight.value core_is f.is_call) r.leader.flights k.leader.flights;
      ready = Each-weaker (λ (entry : ℕ × Command). IsPlainCommand begun frame entry.1) (λ (entry : ℕ × Command). IsServedCall r.group.core entry.1) (λ entry c. served_call r.group.core entry.1 core_is c) r.ready k.leader.ready;
    }

    pub runs : Points ways (name_of r) r
    runs stops stands = absurd (both_ways r.running stops k.leader.running)

  pub follows : (me client seq : ℕ) (op : Op) (r : ReplicaState) → IsPlainReplica begun frame me r → IsPlainFollower r → IsPlainCall begun frame client seq op → Follows (Call client seq op) r
  follows me client seq op r p f c =
      let after = entered_plain begun frame fact me (Call client seq op) r (call_plain begun frame fact client seq op r.group c p.group).group p in
      record {
        stopped = f.stopped;
        stands = ap (λ (x : Core). x.gone) p.group.core_is ∙ fact.stands;
        flights = f.flights;
        few = few_sets (next (entered (Call client seq op) r)) (entered (Call client seq op) r).sets after.sets_are;
      }

-- ---- what a group owes by its replica

owes_none : (r : ReplicaState) (most : ℕ) → r.running ≡ true → group_owes r ≤ most
owes_none r most runs_ = (let e = ap (λ b. idle_owes b r.group.core.gone) runs_ in omega (arith, e))

owes_same : (r after : ReplicaState) → r.running ≡ false → after.running ≡ false → after.group.core.gone ≡ r.group.core.gone → group_owes r ≤ group_owes after
owes_same r after off still gone =
    let a = ap (λ b. idle_owes b r.group.core.gone) off in
    let b = ap (λ b. idle_owes b after.group.core.gone) still in
    let c = ap (idle_owes false) gone in
    omega (arith, a, b, c)

module _ (begun : Requests) (frame : Frame) (fact : IsFrame frame) where
  -- a row of a plain replica takes nobody's lead away
  pub plain_owes : (me : ℕ) (r after : ReplicaState) → IsPlainAt begun frame me r → IsPlainAt begun frame me after → (is_member frame.core.members me ≡ false → after.group ≡ r.group) → group_owes r ≤ group_owes after
  plain_owes me r after (inl (p, inl k)) later same = owes_none r (group_owes after) k.1.leader.running
  plain_owes me r after (inl (p, inr f)) (inl (q, inl k)) same = absurd (f.0 k.0)
  plain_owes me r after (inl (p, inr f)) (inl (q, inr g)) same =
      owes_same r after f.1.stopped g.1.stopped (ap (λ (core : Core). core.gone) (q.group.core_is ∙ sym p.group.core_is))
  plain_owes me r after (inl (p, inr f)) (inr left) same =
      owes_same r after f.1.stopped left.follower.stopped (ap (λ (group : Group). group.core.gone) (same left.left))
  plain_owes me r after (inr left) (inl (q, inl k)) same = absurd (both_ways (is_member frame.core.members me) left.left (ap (is_member frame.core.members) k.0 ∙ fact.leads))
  plain_owes me r after (inr left) (inl (q, inr g)) same = owes_same r after left.follower.stopped g.1.stopped (ap (λ (group : Group). group.core.gone) (same left.left))
  plain_owes me r after (inr left) (inr stays) same = owes_same r after left.follower.stopped stays.follower.stopped (ap (λ (group : Group). group.core.gone) (same left.left))

  away : (me : ℕ) → is_member frame.core.members me ≡ false → me ≡ frame.lead → ⊥
  away me left e = both_ways (is_member frame.core.members me) left (ap (is_member frame.core.members) e ∙ fact.leads)

  -- at a node that left, only what is to be accepted comes, which leaves the state as it is
  pub group_same : (me from : ℕ) (body : MailBody) (r : ReplicaState) (place : Place) → is_member frame.core.members me ≡ false → IsPlainBody begun frame from me body → Does begun frame fact me r from body place → place.0.group ≡ r.group
  group_same me from (Accept group ballot slot command) r place left b response = response.group_is
  group_same me from (Request group client seq op) r place left b response = absurd (away me left response.0)
  group_same me from (Accepted group ballot slot) r place left b response = absurd (away me left response.0)
  group_same me from (Learn group slot command) r place left b response = absurd (both_ways (is_member frame.core.members me) left b.1.to_in)
  group_same me from _ r place left b response = absurd response

  module _ (ways : Ways) (bounded : AreBounded ways) where
    -- what a plain replica finds in a mail of its group
    pub may_take : (me from : ℕ) (body : MailBody) (r : ReplicaState) → IsPlainAt begun frame me r → IsPlainBody begun frame from me body → IsDue r body → ((client seq : ℕ) (op : Op) → begun client seq op → me ≡ client_actor client → ⊥) → MayTake ways r body
    may_take me from (Request group client seq op) r k b due n =
        let leads = leading_at begun frame fact me r b.1.to_is k in
        let name : name_of r ≡ group = ap (λ (c : Core). c.id) leads.0.group.core_is ∙ sym b.0 in
        (name, may_pump ways begun frame fact bounded r leads.0 leads.1, subst (λ d. Points ways d r) name (runs ways begun frame fact bounded r leads.0 leads.1))
    may_take me from (Accepted group ballot slot) r k b due n =
        let leads = leading_at begun frame fact me r b.2 k in
        inr (inl (serves_all ways begun frame fact bounded r leads.0 leads.1))
    may_take me from (Accept group ballot slot command) r k b due n = ap (λ (x : Ballot). r.running && below r.leader.ballot x) b.1 ∙ none_stops begun frame fact me r k
    may_take me from (Learn group slot command) r k b due n =
        let c = call_is begun frame fact 0 0 [] (λ x y. ⊥) command b.1.is_call in
        let call : IsPlainCall begun frame c.0 c.1 c.2 = subst (IsPlainCommand begun frame) c.3 b.1.is_call in
        let f = following_at begun frame fact me r b.1.to_in b.1.other k in
        inr (subst (λ (x : Command). Follows x r × (slot ≤ next r)) (sym c.3) (follows ways begun frame fact bounded me c.0 c.1 c.2 r f.0 f.1 call, omega (arith, due)))
    may_take me from (Answer group seq answer) r k b due n = absurd (n b.1.client seq b.1.op b.1.is_begun b.1.to_is)
    may_take me from _ r k b due n = absurd b

-- ---- a node takes a mail of such a group

module _ (ways : Ways) (bounded : AreBounded ways) (begun : Requests) (frames : List Frame) (are : (frame : Frame) → Among frame frames → IsFrame frame) (apart : AreNamedApart frames) (node : NodeState) (mail : Mail) (n : IsPlainNode begun frames node)
    (k : NodeRow begun frames are apart node mail (node_table node (Got mail))) (to : mail.to ≡ node.me) (own : k.r.me ≡ node.me) (due : IsDue k.r mail.body) (not_client : (client seq : ℕ) (op : Op) → begun client seq op → node.me ≡ client_actor client → ⊥) where
  abbrev frame_is : IsFrame k.frame
  frame_is = are k.frame k.is_frame

  says : IsPlainBody begun k.frame mail.from node.me mail.body
  says = subst (λ who. IsPlainBody begun k.frame mail.from who mail.body) to k.says

  here : IsPlainAt begun k.frame node.me k.r
  here = n.replicas k.frame k.r k.is_frame k.found

  -- no lead is taken away
  group_owes_more : group_owes k.r ≤ group_owes (after_mail mail.from mail.body k.r).0
  group_owes_more =
      plain_owes begun k.frame frame_is node.me k.r (after_mail mail.from mail.body k.r).0 here (subst (λ (place : Place). IsPlainAt begun k.frame node.me place.0) k.place_is k.row.after)
      (λ left. group_same begun k.frame frame_is node.me mail.from mail.body k.r (after_mail mail.from mail.body k.r) left says (subst (Does begun k.frame frame_is node.me k.r mail.from mail.body) k.place_is k.row.response))

  -- what the node owes falls by one at least, with what it sends
  pub node_pays : 1 + turn_owes ways (node_table node (Got mail)) ≤ node_owes ways.most node + mail_owes ways mail
  node_pays =
      let for = for_node begun frames are apart k.frame frame_is mail.from node.me mail.body says not_client in
      let taken : IsTaken mail.from k.frame.core.id mail.body k.r node = record { comes = for.may; named = for.group; found = k.found } in
      let lowers = taken_mail_lowers ways mail.from mail.body k.r bounded (may_take begun k.frame frame_is ways bounded node.me mail.from mail.body k.r here says due not_client) in
      let low = nodes_lower.taken ways mail.from k.frame.core.id mail.body k.r node taken own lowers in
      let group = group_owes_more in
      let same = ap (λ who. body_owes ways who mail.body) to in
      omega (arith, low, group, same)
