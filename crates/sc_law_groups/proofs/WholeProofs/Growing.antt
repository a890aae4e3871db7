-- What holds of a journal with the groups before a row holds with those after it: a new group has taken no step.
use Rattle.std.proofs.Common.{◌≡◌, ℕ, ◌+◌, List, [], inl, inr, sym, ◌∙◌, subst}
use Rattle.sc_base.specs.Definitions.{Among, Each}
use Rattle.sc_node_table.specs.Values.{Draw, Op, Reply, Command, Call, Base, Route, AnswerBody, Mail, MailBody, Request, Answer, Prepare, Promise, Accept, Accepted as AcceptedMail, Nack, Learn, Ask, Install}
use Rattle.sc_mail.specs.declared.bodies.AnswerBody.TheVariants as Says
use Rattle.sc_actor.specs.Definitions.{mails}
use Rattle.sc_node_table.specs.NodeDefinitions.{NodeState, name_of}
use Rattle.sc_words.proofs.PaxosProofs.PaxosLemmas.{Each-weaker}
use Rattle.sc_paxos_law.specs.PaxosLawDefinitions.{IsLawfulHistory, Offered}
use Rattle.sc_scenario.specs.declared.scenario.scenarios.Asks.{Asks}
use Rattle.sc_scenario.specs.declared.scenario.scenarios.Scenario.{Scenario}
use Rattle.sc_meaning.specs.sound.SoundDefinitions.{Ahead}
use Rattle.sc_law_groups.proofs.GroupProofs.GroupLemmas.{IsAnswered, h_of, IsNodeAt, IsClientAt, Part, Kept, IsOther, Holds, holds_none, rule, first, IsOneOf, IsNamedAnswer, IsNamedIn, IsNode, Journal}
use Rattle.sc_law_groups.proofs.WholeProofs.Apart.{IsApart, IsNew, IsOldOrNew, named_apart, no_steps, apart_true}

-- a name of one of these groups is one of those
module _ (heard : MailBody → Type 0) (bases more : List Base) (all : (b : Base) → Among b bases → Among b more) where
  -- a group of these is one of those
  more_one : (group : Draw) → IsOneOf bases group → IsOneOf more group
  more_one group (b, a, fact) = (b, all b a, fact)

  -- what an answer names is of those groups
  more_answer : (group : Draw) (answer : AnswerBody) → IsNamedAnswer bases group answer → IsNamedAnswer more group answer
  more_answer group (Says.Value reply) one = more_one group one
  more_answer group _ one = tt

  -- what a mail names is of those groups
  more_named : (body : MailBody) → IsNamedIn heard bases body → IsNamedIn heard more body
  more_named (Request group client seq op) one = tt
  more_named (Answer group seq answer) one = more_answer group answer one
  more_named (Prepare group ballot from_slot) one = more_one group one
  more_named (Promise group ballot reports) one = more_one group one
  more_named (Accept group ballot slot command) one = more_one group one
  more_named (AcceptedMail group ballot slot) one = more_one group one
  more_named (Nack group promised) one = more_one group one
  more_named (Learn group slot command) one = more_one group one
  more_named (Ask group from_slot) one = more_one group one
  more_named (Install group slot record_of sets) one = more_one group one
  more_named _ one = one

module _ (ahead : Ahead) (scenario : Scenario) (firsts bases more : List Base) (route : Route) (made : Journal → Base → Command → Type 0) (heard : Journal → MailBody → Type 0) (rows : Journal) (all : (b : Base) → Among b bases → Among b more)
    (backlog : (b other : Base) (client seq : ℕ) (op : Op) → made rows b (Call client seq op) → made rows other (Call client seq op)) where
  module _ (k : Kept ahead scenario firsts bases route made heard rows) (old : (b : Base) → Among b more → IsOldOrNew bases b) where
    -- no mail has a new name
    apart_all : (b : Base) → IsNew bases b.core.id → (m : Mail) → Among m (mails rows) → IsApart b.core.id m.body
    apart_all b new m a = named_apart (heard rows) bases b.core.id new m.body (k.named m a)

    -- nothing was done in a new group
    empty : (b : Base) → IsNew bases b.core.id → h_of rows b ≡ []
    empty b new = no_steps b rows (apart_all b new)

    -- each group has its part
    part_of : (b : Base) → IsOldOrNew bases b → Part ahead scenario firsts more route made heard rows b
    part_of b (inl a) = (let p = k.parts b a in record { lawful = p.lawful; requested = p.requested; true_mail = p.true_mail })
    part_of b (inr (new, (parent, pa))) = record {
      lawful = subst (IsLawfulHistory (rule ahead b) (first ahead b)) (sym (empty b new)) tt;
      requested = λ ballot slot c a. absurd (subst (Among (Offered ballot slot c)) (empty b new) a);
      true_mail = λ m a. apart_true ahead b parent (made rows b) (made rows parent) (heard rows) (backlog parent b) (h_of rows b) (h_of rows parent) m m.body (apart_all b new m a) ((k.parts parent pa).true_mail m a);
    }

    -- no replica has a new name
    others : (b : Base) → IsNew bases b.core.id → (n : ℕ) (node : NodeState) → IsNode ahead bases (made rows) (h_of rows) n node → Each (IsOther b.core.id) node.replicas
    others b new n node at = Each-weaker (λ r. IsOneOf bases (name_of r)) (IsOther b.core.id) (λ r fact same. new fact.0 fact.1 (sym fact.2 ∙ same)) node.replicas at.known

    -- what each group says of a node holds
    holds_of : (n : ℕ) (node : NodeState) → IsNode ahead bases (made rows) (h_of rows) n node → (b : Base) → IsOldOrNew bases b → Holds ahead b (made rows b) n (h_of rows b) node.replicas
    holds_of n node at b (inl a) = at.holds b a
    holds_of n node at b (inr (new, parent)) =
        subst (λ h. Holds ahead b (made rows b) n h node.replicas) (sym (empty b new)) (holds_none ahead b (made rows b) n [] node.replicas (others b new n node at) tt)

    -- nodes and clients are as the steps say
    node_of : (n : ℕ) → IsNodeAt ahead scenario firsts bases route made heard rows rows n → IsNodeAt ahead scenario firsts more route made heard rows rows n
    node_of n at = record {
      node = at.node;
      value_is = at.value_is;
      fact = record {
        me_is = at.fact.me_is;
        known = Each-weaker (λ r. IsOneOf bases (name_of r)) (λ r. IsOneOf more (name_of r)) (λ r fact. more_one (heard rows) bases more all (name_of r) fact) at.node.replicas at.fact.known;
        holds = λ b a. holds_of n at.node at.fact b (old b a);
      };
    }

    -- what was answered is so
    answered : (client seq : ℕ) (reply : Reply) → IsAnswered ahead bases (h_of rows) client seq reply → IsAnswered ahead more (h_of rows) client seq reply
    answered client seq reply (b, a, at) = (b, all b a, at)

    -- so are clients
    client_of : (asks : Asks) → IsClientAt ahead scenario firsts bases route made heard rows asks → IsClientAt ahead scenario firsts more route made heard rows asks
    client_of asks at = record {
      client = at.client;
      value_is = at.value_is;
      fact = record { me = at.fact.me; requests = at.fact.requests; waits = at.fact.waits; replies = λ i reply e. answered asks.client (i + 1) reply (at.fact.replies i reply e) };
      fresh = at.fresh;
    }

    -- what holds with fewer groups holds with these
    pub grown : Kept ahead scenario firsts more route made heard rows
    grown = record {
      parts = λ b a. part_of b (old b a);
      named = λ m a. more_named (heard rows) bases more all m.body (k.named m a);
      nodes = λ n low high. node_of n (k.nodes n low high);
      clients = λ asks stands. client_of asks (k.clients asks stands);
    }
