-- As more requests are begun, what is plain stays so.
use Rattle.std.proofs.Common.{ℕ, List, inl, inr}
use Rattle.sc_node_table.specs.Values.{Op, Command, Call, AnswerBody, Value, NotLeader, NotMine, Gone, Stale, Mail, MailBody, Request, Answer, Accept, Accepted, Learn, Flight}
use Rattle.sc_words.proofs.PaxosProofs.PaxosLemmas.{Each-weaker}
use Rattle.sc_group_table.specs.machine.MachineDefinitions.{Group}
use Rattle.sc_node_table.specs.NodeDefinitions.{NodeState, ReplicaState}
use Rattle.sc_live_plain.specs.PlainDefinitions.{Frame, Requests, IsWrittenValue, IsPlainCall, IsPlainCommand, IsPlainAnswer, IsPlainBody, IsPlainMail, IsPlainGroup, IsPlainFlight, IsPlainLeader, IsPlainReplica, IsSettled, IsPlainAt, IsPlainNode}

-- whatever was begun is begun
abbrev pub IsMore : Requests → Requests → Type 0
IsMore one two = (client seq : ℕ) (op : Op) → one client seq op → two client seq op

module _ (one two : Requests) (more : IsMore one two) where
  written_more : (value : List ℕ) → IsWrittenValue one value → IsWrittenValue two value
  written_more value w = record { client = w.client; seq = w.seq; op = w.op; is_begun = more w.client w.seq w.op w.is_begun; writes = w.writes }

  call_more : (frame : Frame) (client seq : ℕ) (op : Op) → IsPlainCall one frame client seq op → IsPlainCall two frame client seq op
  call_more frame client seq op c = record { is_begun = more client seq op c.is_begun; held = c.held }

  command_more : (frame : Frame) (command : Command) → IsPlainCommand one frame command → IsPlainCommand two frame command
  command_more frame (Call client seq op) p = call_more frame client seq op p
  command_more frame _ p = absurd p

  answer_more : (frame : Frame) (client seq : ℕ) (op : Op) (answer : AnswerBody) → IsPlainAnswer one frame client seq op answer → IsPlainAnswer two frame client seq op answer
  answer_more frame client seq op (Value reply) p = λ value e. written_more value (p value e)
  answer_more frame client seq op (NotMine arc succ) p = p
  answer_more frame client seq op (Stale last) p = (p.0, (p.1.0, more client last p.1.0 p.1.1))
  answer_more frame client seq op (NotLeader hint) p = absurd p
  answer_more frame client seq op (Gone into) p = absurd p

  body_more : (frame : Frame) (from to : ℕ) (body : MailBody) → IsPlainBody one frame from to body → IsPlainBody two frame from to body
  body_more frame from to (Request group client seq op) p = (p.0, record { from_is = p.1.from_is; to_is = p.1.to_is; is_begun = more client seq op p.1.is_begun })
  body_more frame from to (Answer group seq answer) p =
      (p.0, record { client = p.1.client; op = p.1.op; from_is = p.1.from_is; to_is = p.1.to_is; is_begun = more p.1.client seq p.1.op p.1.is_begun; says = answer_more frame p.1.client seq p.1.op answer p.1.says })
  body_more frame from to (Accept group ballot slot command) p = (p.0, p.1, record { from_is = p.2.from_is; to_in = p.2.to_in; is_call = command_more frame command p.2.is_call })
  body_more frame from to (Accepted group ballot slot) p = p
  body_more frame from to (Learn group slot command) p = (p.0, record { from_is = p.1.from_is; to_in = p.1.to_in; other = p.1.other; is_call = command_more frame command p.1.is_call })
  body_more frame from to _ p = absurd p

  -- mail stays plain
  pub mail_more : (frames : List Frame) (mail : Mail) → IsPlainMail one frames mail → IsPlainMail two frames mail
  mail_more frames mail p = record { frame = p.frame; is_frame = p.is_frame; says = body_more p.frame mail.from mail.to mail.body p.says }

  group_more : (frame : Frame) (group : Group) → IsPlainGroup one frame group → IsPlainGroup two frame group
  group_more frame group g = record {
    core_is = g.core_is;
    noted = λ client note e. (let n = g.noted client note e in (n.0, more client note.seq n.0 n.1));
    replied = λ client note e value k. written_more value (g.replied client note e value k);
    stored = λ key value e. written_more value (g.stored key value e);
  }

  flight_more : (frame : Frame) (flight : Flight Command) → IsPlainFlight one frame flight → IsPlainFlight two frame flight
  flight_more frame flight f = record { is_call = command_more frame flight.value f.is_call; voters_are = f.voters_are; undecided = f.undecided }

  leader_more : (frame : Frame) (taken : ℕ) (r : ReplicaState) → IsPlainLeader one frame taken r → IsPlainLeader two frame taken r
  leader_more frame taken r l = record {
    running = l.running;
    ballot_is = l.ballot_is;
    may = l.may;
    open_ = l.open_;
    backlog = Each-weaker (IsPlainCommand one frame) (IsPlainCommand two frame) (command_more frame) r.backlog l.backlog;
    flights = Each-weaker (IsPlainFlight one frame) (IsPlainFlight two frame) (flight_more frame) r.leader.flights l.flights;
    ready = Each-weaker (λ (entry : ℕ × Command). IsPlainCommand one frame entry.1) (λ (entry : ℕ × Command). IsPlainCommand two frame entry.1) (λ entry. command_more frame entry.1) r.ready l.ready;
    slots = l.slots;
  }

  replica_more : (frame : Frame) (me : ℕ) (r : ReplicaState) → IsPlainReplica one frame me r → IsPlainReplica two frame me r
  replica_more frame me r p = record {
    me_is = p.me_is;
    group = group_more frame r.group p.group;
    hint_is = p.hint_is;
    top_low = p.top_low;
    promised_low = p.promised_low;
    floor_low = p.floor_low;
    begins = p.begins;
    sets_are = p.sets_are;
    acts = p.acts;
    waits = p.waits;
  }

  settled_more : (frame : Frame) (me : ℕ) (r : ReplicaState) → IsSettled one frame me r → IsSettled two frame me r
  settled_more frame me r (inl s) = inl (s.0, record { taken = s.1.taken; leader = leader_more frame s.1.taken r s.1.leader; done = s.1.done })
  settled_more frame me r (inr s) = inr s

  at_more : (frame : Frame) (me : ℕ) (r : ReplicaState) → IsPlainAt one frame me r → IsPlainAt two frame me r
  at_more frame me r (inl k) = inl (replica_more frame me r k.0, settled_more frame me r k.1)
  at_more frame me r (inr k) = inr k

  -- nodes stay plain
  pub node_more : (frames : List Frame) (node : NodeState) → IsPlainNode one frames node → IsPlainNode two frames node
  node_more frames node p = record { replicas = λ frame r a e. at_more frame node.me r (p.replicas frame r a e); has = p.has }
