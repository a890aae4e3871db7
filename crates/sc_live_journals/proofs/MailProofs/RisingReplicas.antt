-- In each row of its table a replica's greatest ballot and its next slot do not fall.
use Rattle.std.proofs.Common.{ℕ, ◌+◌, ◌≤◌, [], inl, arith}
use Rattle.sc_node_table.specs.Values.{Ballot, Command, OrderLine, MailBody}
use Rattle.sc_base.specs.Definitions.{Drawer}
use Rattle.sc_words.specs.paxos.PaxosDefinitions.{IsAtLeast}
use Rattle.sc_words.proofs.PaxosProofs.PaxosLemmas.{below_from, at_least_trans, at_least_itself, at_least_from_below}
use Rattle.sc_node_table.specs.NodeDefinitions.{ordered_row, ReplicaState, next, mailed}
use Rattle.sc_live_journals.specs.mail.MailDefinitions.{IsPlainlyKept, HasGrown}
use Rattle.sc_live_journals.proofs.MailProofs.BoundsInRows.{entered_up, installed_up}
use Rattle.sc_live_journals.proofs.MailProofs.PartWalks.{takes_mail, orders, hears_all}
use Rattle.sc_live_journals.proofs.MailProofs.Walks.{PartWalk, Part, next_in, entered_part, elected_part}

module _ (top : Ballot) (slot : ℕ) where
  -- no lower ballot was seen than this, and no fewer slots executed
  abbrev Grown : Part → Type 0
  Grown p = IsAtLeast p.top top × (slot ≤ next_in p)

  entered_grown : (command : Command) (p : Part) → Grown p → Grown (entered_part command p)
  entered_grown command p k = (let up = entered_up command p in let low = k.1 in (k.0, omega (arith, up, low)))

  elected_grown : (who : ℕ) (p : Part) → Grown p → Grown (elected_part who p)
  elected_grown who p k =
      let ballot : Ballot = record { round = p.top.round + 1; node = who } in
      (at_least_trans ballot p.top top (at_least_from_below p.top ballot (below_from p.top ballot (inl (omega arith)))) k.0, k.1)

  abbrev growing : ℕ → PartWalk
  growing who = record {
    me = who;
    Early = λ p. Grown p;
    Late = λ p. Grown p;
    Says = λ to body. Unit {0};
    Round = λ ballot. Unit {0};
    Slot = λ slot. Unit {0};
    State = λ slot base. Unit {0};
    Polled = λ ballot. Unit {0};
    Behind = λ slot. Unit {0};
    late = λ p k. k;
    again = λ p command e k. (k, tt);
    entered = λ command p low k. entered_grown command p k;
    landed = λ slot p k. k;
    ended = λ p k. k;
    elected = λ p k. elected_grown who p k;
    seen = λ ballot p good t k. (at_least_trans ballot p.top top (at_least_from_below p.top ballot t) k.0, k.1);
    promised = λ ballot p good k. k;
    accepted = λ report p good k. k;
    jumped = λ last base p good later k. (let up = installed_up last in let low = k.1 in (k.0, omega (arith, up, low, later)));
    readied = λ slot command p low k. k;
    polled = λ from ballot reports p good k. k;
    counts = λ from ballot slot set p k. k;
    flown = λ slot command p low k. k;
    tells = λ number result. tt;
    answers = λ client group seq answer. tt;
    asks = λ to slot command p low k. tt;
    polls = λ to p k. tt;
    repolls = λ to p k. tt;
    installs = λ to sets p k. tt;
    teaches = λ to slot command group low. tt;
    recalls = λ to slot command p e k. tt;
    wants = λ to slot p behind low k. tt;
    promises = λ to ballot from_slot p good polled k. tt;
    votes = λ to ballot slot group good low. tt;
    nacks = λ to p k. tt;
    offers = λ to tx offer own. tt;
    watches = λ to tx watch own. tt;
    casts = λ to tx coord part vote. tt;
    sees = λ to tx coord part vote. tt;
    ends = λ to tx part outcome. tt;
    sends_on = λ to tx coord hint. tt;
  }

pub mailed_grown : (who from : ℕ) (body : MailBody) (r : ReplicaState) → IsPlainlyKept who r → HasGrown r (mailed from body (r, [])).0.0
mailed_grown who from body r kept = (takes_mail (growing r.top (next r) who) from body (r, []) (hears_all (growing r.top (next r) who) (λ ballot. (tt, tt)) (λ slot. (tt, tt)) body (λ group slot base sets e. (tt, tt))) ((kept, (at_least_itself r.top, omega arith)), tt)).0.1

pub ordered_grown : (who : ℕ) (drawer : Drawer) (line : OrderLine) (r : ReplicaState) → IsPlainlyKept who r → HasGrown r (ordered_row drawer line (r, [])).0
ordered_grown who drawer line r kept = (orders (growing r.top (next r) who) drawer line (r, []) ((kept, (at_least_itself r.top, omega arith)), tt)).0.1

pub same_grown : (r : ReplicaState) → HasGrown r r
same_grown r = (at_least_itself r.top, omega arith)

pub grown_on : (r later last : ReplicaState) → HasGrown r later → HasGrown later last → HasGrown r last
grown_on r later last a b = (let x = a.1 in let y = b.1 in (at_least_trans last.top later.top r.top b.0 a.0, omega (arith, x, y)))
