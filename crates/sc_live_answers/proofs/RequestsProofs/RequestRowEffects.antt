-- What a row of requests leaves of a replica as it is.
use Rattle.std.proofs.Common.{◌≡◌, ℕ, ◌+◌, ◌≤◌, true, List, [], ◌∷◌, filter, Some, ◌⊎◌, inl, inr, refl, sym, ◌∙◌, ap, subst, arith}
use Rattle.std.proofs.lemmas.Bool.{cond_both, both_ways}
use Rattle.sc_base.specs.Definitions.{Among, client_actor, is_member}
use Rattle.sc_node_table.specs.Values.{Ballot, Draw, Op, Command, Call, MailBody, Request, Answer, Accept, Accepted, Learn, Report}
use Rattle.std.specs.Prelude.{nat_lt}
use Rattle.sc_words.specs.paxos.PaxosDefinitions.{with_report, below}
use Rattle.sc_words.proofs.PaxosProofs.PaxosLemmas.{from_filter}
use Rattle.sc_node_table.specs.NodeDefinitions.{ReplicaState, Place, next, last_slot, mailed, slots_ahead}
use Rattle.sc_live_plain.specs.PlainDefinitions.{Frame, IsFrame, Requests, IsPlainCall, IsPlainCommand, IsPlainBody, AreTaken, IsPlainLeader, IsPlainFollower, IsPlainVoter, IsPlainReplica, IsPlainAt, IsDue}
use Rattle.sc_live_plain.proofs.PlainLemmas.{as_voter, learn_is, learnt_plain, learnt_follower, learnt_next, IsRun, call_is, DidRefuse, DidQueue, DidCount, following_at, none_stops, replica_row, taken_once}
use Rattle.sc_live_answers.proofs.LinesProofs.CallEffects.{knows, Leaves, leaves_itself, leaves_bare, request_kept, vote_goes}
use Rattle.sc_live_plain.proofs.PlainRowsProofs.PlainAcceptAndLearnRows.{accepted_state}
use Rattle.sc_live_plain.proofs.PlainLemmas.{accept_is}
use Rattle.sc_live_answers.proofs.LinesProofs.AcceptAndLearnRows.{learn_leaves}
use Rattle.sc_live_answers.proofs.AnswersProofs.ChartSequence.{split_among}

-- ---- how many slots are taken

-- ---- what a row leaves

-- a mail asks to accept something at this slot
abbrev pub AsksAt : MailBody → ℕ → Type 0
AsksAt body slot = (group : Draw) × (ballot : Ballot) × (command : Command) × (body ≡ Accept group ballot slot command)

-- it executed nothing, and has nothing more to do
pub record Rests (r after : ReplicaState) : Type 0 where
  pub sets_are : after.sets ≡ r.sets
  pub group_is : after.group ≡ r.group
  pub acts_are : after.acts ≡ r.acts
  pub waits_are : after.waits ≡ r.waits
  pub next_is : next after ≡ next r
  pub floor_is : after.acceptor.floor ≡ r.acceptor.floor

-- A replica after a row of requests: it knows the leader, has seen and promised its ballot or none that it had not, and accepted what the row asks, or nothing new. At a node that is no member it executed nothing.
pub record Serves (frame : Frame) (me : ℕ) (body : MailBody) (r after : ReplicaState) : Type 0 where
  pub next_up : next r ≤ next after
  pub hint_was : r.hint ≡ Some frame.lead
  pub hint_is : after.hint ≡ Some frame.lead
  pub core_is : after.group.core ≡ r.group.core
  pub running_is : after.running ≡ r.running
  pub top : (after.top ≡ r.top) ⊎ (after.top ≡ frame.ballot)
  pub promised : (after.acceptor.promised ≡ r.acceptor.promised) ⊎ (after.acceptor.promised ≡ frame.ballot)
  pub leader : knows after.leader ≡ knows r.leader
  pub accepted : (report : Report Command) → Among report after.acceptor.accepted → Among report r.acceptor.accepted ⊎ AsksAt body report.slot
  pub rest : Rests r after ⊎ (is_member frame.core.members me ≡ true)
  pub bound : me ≡ frame.lead → (taken : ℕ) → AreTaken r taken → (later : ℕ) × AreTaken after later × (next r + taken ≤ next after + later)

pub rests_itself : (r : ReplicaState) → Rests r r
rests_itself r = record { sets_are = refl; group_is = refl; acts_are = refl; waits_are = refl; next_is = refl; floor_is = refl }

-- one that may vote at a slot
pub voter_at : (begun : Requests) (frame : Frame) (fact : IsFrame frame) (me : ℕ) (r : ReplicaState) (slot : ℕ) → is_member (frame.at slot) me ≡ true → IsPlainAt begun frame me r → IsPlainVoter frame me r
voter_at begun frame fact me r slot m (inl p) = as_voter begun frame fact me r p.0
voter_at begun frame fact me r slot m (inr left) = left.voter slot m

module _ (begun : Requests) (frame : Frame) (fact : IsFrame frame) (r : ReplicaState) (from : ℕ) (room : next r + slots_ahead ≤ last_slot) where
  -- one that takes it at the leading node
  by_run : (body : MailBody) (me taken : ℕ) (held : List _) (wanted : ℕ → ℕ → Type 0) (place : Place) → me ≡ frame.lead → IsPlainReplica begun frame frame.lead r → IsPlainLeader begun frame taken r
      → IsRun begun frame fact (next r) (next r + taken) held wanted place → Leaves r place.0 → Serves frame me body r place.0
  by_run body me taken held wanted place e p l run leaves = record {
    next_up = run.leads.low;
    hint_was = p.hint_is;
    hint_is = run.leads.plain.hint_is;
    core_is = run.leads.plain.group.core_is ∙ sym p.group.core_is;
    running_is = run.leads.leader.running ∙ sym l.running;
    top = inl leaves.top;
    promised = inl leaves.promised;
    leader = leaves.leader;
    accepted = λ report a. inl (leaves.accepted report a);
    rest = inr (ap (is_member frame.core.members) e ∙ fact.leads);
    bound = λ _ t a. (run.taken, run.leads.leader.slots, (let same = taken_once r t taken a l.slots in let more = run.leads.more in omega (arith, same, more)));
  }

  -- ---- a request

  stays : (me : ℕ) (body : MailBody) → r.hint ≡ Some frame.lead → Serves frame me body r r
  stays me body hint = record {
    next_up = omega arith;
    hint_was = hint;
    hint_is = hint;
    core_is = refl;
    running_is = refl;
    top = inl refl;
    promised = inl refl;
    leader = refl;
    accepted = λ report a. inl a;
    rest = inl (rests_itself r);
    bound = λ _ t a. (t, a, omega arith);
  }

  by_request : (me : ℕ) (body : MailBody) (client seq : ℕ) (op : Op) (place : Place) → IsPlainAt begun frame me r → Leaves r place.0 → (me ≡ frame.lead) × (DidRefuse begun frame fact r client seq op place ⊎ DidQueue begun frame fact r client seq op place)
      → Serves frame me body r place.0
  by_request me body client seq op place k leaves (e, inl refused) =
      subst (λ (p : Place). Serves frame me body r p.0) (sym refused.place_is) (stays me body (hint_of k))
    where
      hint_of : IsPlainAt begun frame me r → r.hint ≡ Some frame.lead
      hint_of (inl p) = p.0.hint_is
      hint_of (inr left) = absurd (both_ways (is_member frame.core.members me) left.left (ap (is_member frame.core.members) e ∙ fact.leads))
  by_request me body client seq op place k leaves (e, inr q) = by_run body me q.taken _ _ place e q.plain q.leader q.run leaves

  -- ---- a vote

  by_vote : (me : ℕ) (body : MailBody) (slot : ℕ) (place : Place) → (DidCount begun frame fact r from slot place → Leaves r place.0) → (me ≡ frame.lead) × DidCount begun frame fact r from slot place → Serves frame me body r place.0
  by_vote me body slot place leaves (e, c) = by_run body me c.taken _ _ place e c.plain c.leader c.counted.run (leaves c)

  -- ---- an accept

  among_new : (group : Draw) (ballot : Ballot) (slot : ℕ) (command : Command) (report : Report Command) → Among report (with_report (record { slot = slot; ballot = frame.ballot; value = command }) r.acceptor.accepted)
      → Among report r.acceptor.accepted ⊎ AsksAt (Accept group ballot slot command) report.slot
  among_new group ballot slot command report a =
      let new : Report Command = record { slot = slot; ballot = frame.ballot; value = command } in
      elim (split_among (filter (λ (x : Report Command). nat_lt x.slot slot) r.acceptor.accepted) (new ∷ filter (λ (x : Report Command). nat_lt slot x.slot) r.acceptor.accepted) report a) [
        | inl early ↦ inl (from_filter _ r.acceptor.accepted report early).0
        | inr o ↦ elim o [
          | inl same ↦ inr (group, ballot, command, ap (λ (x : Report Command). Accept group ballot x.slot command) same)
          | inr late ↦ inl (from_filter _ r.acceptor.accepted report late).0
        ]
      ]

  accepted_serves : (me : ℕ) (group : Draw) (ballot : Ballot) (slot : ℕ) (command : Command) → r.hint ≡ Some frame.lead → Serves frame me (Accept group ballot slot command) r (accepted_state frame r slot command)
  unfolding accepted_state
  accepted_serves me group ballot slot command hint = record {
    next_up = omega arith;
    hint_was = hint;
    hint_is = refl;
    core_is = refl;
    running_is = refl;
    top = cond_both (below r.top frame.ballot) frame.ballot r.top (λ b. (b ≡ r.top) ⊎ (b ≡ frame.ballot)) (λ _. inr refl) (λ _. inl refl);
    promised = inr refl;
    leader = refl;
    accepted = λ report a. among_new group ballot slot command report a;
    rest = inl (record { sets_are = refl; group_is = refl; acts_are = refl; waits_are = refl; next_is = refl; floor_is = refl });
    bound = λ _ t a. (t, record { most = a.most; once = a.once }, omega arith);
  }

  by_accept : (me : ℕ) (group : Draw) (slot : ℕ) (command : Command) → IsPlainAt begun frame me r → is_member (frame.at slot) me ≡ true → next r ≤ slot → Serves frame me (Accept group frame.ballot slot command) r (mailed from (Accept group frame.ballot slot command) (r, [])).0.0
  unfolding mailed
  by_accept me group slot command k m low =
      subst (λ (p : Place). Serves frame me (Accept group frame.ballot slot command) r p.0) (sym (accept_is frame fact me r (voter_at begun frame fact me r slot m k) from slot command low (none_stops begun frame fact me r k))) (accepted_serves me group frame.ballot slot command (voter_at begun frame fact me r slot m k).hint_is)

  -- ---- a decided command

  by_learn : (me : ℕ) (group : Draw) (slot client seq : ℕ) (op : Op) → IsPlainReplica begun frame me r → IsPlainFollower r → is_member frame.core.members me ≡ true → (me ≡ frame.lead → ⊥) → IsPlainCall begun frame client seq op → slot ≡ next r
      → Serves frame me (Learn group slot (Call client seq op)) r (mailed from (Learn group slot (Call client seq op)) (r, [])).0.0
  unfolding mailed
  by_learn me group slot client seq op p f member ne c at =
      let low : next r ≤ last_slot = omega (arith, room) in
      let after = learnt_plain begun frame fact me r p f fact.leads client seq op c low in
      let stopped = learnt_follower begun frame fact me r p f fact.leads client seq op c low in
      let up = learnt_next begun frame fact me r p f fact.leads client seq op c low in
      let place_is = learn_is begun frame fact me r p f fact.leads client seq op c low from slot at in
      let leaves = subst (λ (place : Place). Leaves r place.0) place_is (learn_leaves begun frame fact me r p f client seq op c from slot low at) in
      subst (λ (place : Place). Serves frame me (Learn group slot (Call client seq op)) r place.0) (sym place_is) (record {
        next_up = omega (arith, up);
        hint_was = p.hint_is;
        hint_is = after.hint_is;
        core_is = after.group.core_is ∙ sym p.group.core_is;
        running_is = stopped.stopped ∙ sym f.stopped;
        top = inl leaves.top;
        promised = inl leaves.promised;
        leader = leaves.leader;
        accepted = λ report a. inl (leaves.accepted report a);
        rest = inr member;
        bound = λ e. absurd (ne e);
      })

  -- ---- each mail

  pub serves_row : (me : ℕ) (body : MailBody) → IsPlainAt begun frame me r → IsPlainBody begun frame from me body → IsDue r body → ((client seq : ℕ) (op : Op) → begun client seq op → me ≡ client_actor client → ⊥) → Serves frame me body r (mailed from body (r, [])).0.0
  unfolding mailed
  serves_row me (Request group client seq op) k b due not_client =
      by_request me (Request group client seq op) client seq op (mailed from (Request group client seq op) (r, [])).0 k (leaves_bare r _ (request_kept client seq op r [])) (replica_row begun frame fact r from room me (Request group client seq op) k b due not_client).0.response
  serves_row me (Accepted group ballot slot) k b due not_client =
      by_vote me (Accepted group ballot slot) slot (mailed from (Accepted group ballot slot) (r, [])).0
      (λ c. (vote_goes begun frame fact r r (record { group = c.plain.group; me_is = c.plain.me_is; running = c.leader.running; ready = c.leader.ready; leaves = leaves_itself r }) c.leader.flights from ballot slot).leaves)
      (replica_row begun frame fact r from room me (Accepted group ballot slot) k b due not_client).0.response
  serves_row me (Accept group ballot slot command) k b due not_client =
      subst (λ (x : Ballot). Serves frame me (Accept group x slot command) r (mailed from (Accept group x slot command) (r, [])).0.0) (sym b.1) (by_accept me group slot command k b.2.to_in due)
  serves_row me (Learn group slot command) k b due not_client =
      let c = call_is begun frame fact 0 0 [] (λ x y. ⊥) command b.1.is_call in
      let plain : IsPlainCall begun frame c.0 c.1 c.2 = subst (IsPlainCommand begun frame) c.3 b.1.is_call in
      let follows = following_at begun frame fact me r b.1.to_in b.1.other k in
      subst (λ (x : Command). Serves frame me (Learn group slot x) r (mailed from (Learn group slot x) (r, [])).0.0) (sym c.3) (by_learn me group slot c.0 c.1 c.2 follows.0 follows.1 b.1.to_in b.1.other plain due)
  serves_row me (Answer group seq answer) k b due not_client = absurd (not_client b.1.client seq b.1.op b.1.is_begun b.1.to_is)
  serves_row me _ k b due not_client = absurd b
