-- Slots and rounds are few after any rows that come in time.
use Rattle.std.proofs.Common.{ℕ, ◌+◌, ◌≤◌, List, refl, sym, subst, inl, inr, arith}
use Rattle.sc_base.specs.Definitions.{Each}
use Rattle.sc_node_table.specs.Values.{Command, Mail, MailBody, Prepare, Promise, Accept, Accepted, Nack, Learn, Ask, Install, Seat, Flight, Report}
use Rattle.sc_words.proofs.PaxosProofs.PaxosLemmas.{Each-weaker}
use Rattle.sc_meaning.specs.sound.SoundDefinitions.{Player, births, as_nodes}
use Rattle.sc_live_journals.specs.mail.MailDefinitions.{most_after, IsFewReport, SaysFew, JournalsHaveFew, SlotsAreLeft, JournalsKeepIdle}
use Rattle.sc_live_journals.proofs.MailProofs.BoundsInLists.{FlyTo, WaitTo}
use Rattle.sc_live_journals.proofs.MailProofs.BoundsInRows.{Early, Late, few_walk, few_births}
use Rattle.sc_live_journals.proofs.MailProofs.WalkedJournals.{Speaks, Law, journals_hold, view_kept}
use Rattle.sc_live_journals.proofs.MailProofs.PartWalks.{Hears}
use Rattle.sc_live_journals.proofs.MailProofs.Walks.{Part, next_in}

-- a later bound
module _ (most more : ℕ) (le : most ≤ more) where
  reports_up : (reports : List (Report Command)) → Each (IsFewReport most) reports → Each (IsFewReport more) reports
  reports_up reports k = Each-weaker (IsFewReport most) (IsFewReport more) (λ report q. (let a = q.0 in let b = q.1 in (omega (arith, a, le), omega (arith, b, le)))) reports k

  both_up : (a b : ℕ) → (a ≤ most) × (b ≤ most) → (a ≤ more) × (b ≤ more)
  both_up a b k = (let x = k.0 in let y = k.1 in (omega (arith, x, le), omega (arith, y, le)))

  says_up : (body : MailBody) → SaysFew most body → SaysFew more body
  says_up (Prepare group ballot from_slot) k = both_up ballot.round from_slot k
  says_up (Promise group ballot reports) k = (let a = k.0 in (omega (arith, a, le), reports_up reports k.1))
  says_up (Accept group ballot slot command) k = both_up ballot.round slot k
  says_up (Accepted group ballot slot) k = both_up ballot.round slot k
  says_up (Nack group promised) k = omega (arith, k, le)
  says_up (Learn group slot command) k = omega (arith, k, le)
  says_up (Ask group from_slot) k = omega (arith, k, le)
  says_up (Install group slot base sets) k = omega (arith, k, le)
  says_up _ k = tt

-- a mail with few slots is one that a replica may take
hears_few : (n who : ℕ) (body : MailBody) → SaysFew (most_after n) body → Hears (few_walk n who) body
hears_few n who (Prepare group ballot from_slot) k = (k.0, tt)
hears_few n who (Promise group ballot reports) k = k.1
hears_few n who (Accept group ballot slot command) k = k
hears_few n who (Accepted group ballot slot) k = k.1
hears_few n who (Nack group promised) k = k
hears_few n who (Learn group slot command) k = (k, tt)
hears_few n who (Install group slot base sets) k = (k, k)
hears_few n who _ k = tt

-- a replica with few, as a part
abbrev PartHas : ℕ → Part → Type 0
PartHas most p =
    (next_in p ≤ most) × (p.top.round ≤ most) × (p.acceptor.promised.round ≤ most) × Each (IsFewReport most) p.acceptor.accepted × (p.leader.ballot.round ≤ most) × Each (IsFewReport most) p.leader.reports
    × FlyTo most p.leader.flights × WaitTo most p.ready

part_starts : (n : ℕ) (p : Part) → PartHas (most_after n) p → Early (most_after n) p
part_starts n p k = (
  (
    (let a = k.0 in omega (arith, a)),
    k.2,
    k.3,
    k.5,
    Each-weaker (λ (flight : Flight Command). flight.slot ≤ most_after n) (λ (flight : Flight Command). flight.slot ≤ most_after n + 4) (λ flight q. omega (arith, q)) p.leader.flights k.6,
    k.7,
  ),
  k.1,
  k.4,
)

part_ends : (n : ℕ) (p : Part) → Late (most_after n) p → PartHas (most_after (n + 1)) p
part_ends n p k =
    let m : ℕ = most_after n in
    let x : ℕ = most_after (n + 1) in
    let le : m ≤ x = omega arith in
    let r = k.0 in
    let next = r.0 in
    let promise = r.1 in
    let top = k.1 in
    let round = k.2 in (
      omega (arith, next),
      omega (arith, top),
      omega (arith, promise),
      reports_up m x le p.acceptor.accepted r.2,
      omega (arith, round),
      reports_up m x le p.leader.reports r.3,
      Each-weaker (λ (flight : Flight Command). flight.slot ≤ m + 4) (λ (flight : Flight Command). flight.slot ≤ x) (λ flight q. omega (arith, q)) p.leader.flights r.4,
      Each-weaker (λ (entry : ℕ × Command). entry.0 ≤ m) (λ (entry : ℕ × Command). entry.0 ≤ x) (λ entry q. omega (arith, q)) p.ready r.5,
    )

-- who speaks says few
said_few : (n : ℕ) (seat : Seat Player) (mail : Mail) → Speaks (few_walk n seat.who) seat mail → SaysFew (most_after (n + 1)) mail.body
said_few n seat mail (inl (born, fact, said)) = said.1
said_few n seat mail (inr (born, fact, who, (group, target, request, e))) = subst (λ (m : Mail). SaysFew (most_after (n + 1)) m.body) (sym e) tt

abbrev few_law : (births : List (Seat Player)) → Law births
few_law births = record {
  walk = few_walk;
  mine = λ n who. refl;
  births = few_births;
  Kept = λ n p. PartHas (most_after n) p;
  Good = λ n mail. SaysFew (most_after n) mail.body;
  begins = λ base. (omega arith, omega arith, omega arith, tt, omega arith, tt, tt, tt);
  starts = λ n who p k. part_starts n p k;
  keeps = λ n who p k. part_ends n p k;
  more = λ n mail k. says_up (most_after n) (most_after (n + 1)) (omega arith) mail.body k;
  hears = λ n who mail k. hears_few n who mail.body k;
  said = λ n seat mail born s. said_few n seat mail s;
}

-- No slot and no round of a replica or a mail is greater than four times the rows, and one.
pub journals_few : JournalsHaveFew
journals_few = record {
  replicas = λ words scenario rows name who r timely e. (let law : Law (births as_nodes scenario) = few_law (births as_nodes scenario) in
      (view_kept (births as_nodes scenario) law rows name who r (journals_hold scenario law words rows timely) e).1);
  mails = λ words scenario rows timely. (journals_hold scenario (few_law (births as_nodes scenario)) words rows timely).1;
}

-- So in a journal of 2^28 rows at most each open slot is one at which commands are learnt, and each round has one above it.
pub slots_left : SlotsAreLeft
slots_left words scenario rows name who r timely short e =
    let few = journals_few.replicas words scenario rows name who r timely e in
    let next = few.0 in
    let top = few.1 in
    (omega (arith, next, short), omega (arith, top, short))

-- A replica that does not run has nothing in flight and nothing that waits, no transaction has waited for a tick, and what waits is a command of a transaction, or a call or an order.
pub journals_idle : JournalsKeepIdle
journals_idle words scenario rows name who r timely e =
    let law : Law (births as_nodes scenario) = few_law (births as_nodes scenario) in
    (view_kept (births as_nodes scenario) law rows name who r (journals_hold scenario law words rows timely) e).0
