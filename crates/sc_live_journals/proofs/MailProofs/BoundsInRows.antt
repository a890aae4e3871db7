-- Slots and rounds are few in each row, and so after any.
use Rattle.std.proofs.Common.{◌≡◌, ℕ, ◌+◌, ◌≤◌, nat_le, nat_lt, not, ◌&&◌, Bool, true, false, List, [], ◌∷◌, ◌++◌, Some, None, refl, sym, ◌∙◌, ap, subst, arith}
use Rattle.std.proofs.lemmas.List.{length_push}
use Rattle.sc_base.specs.Definitions.{Each, same_ballot, is_member}
use Rattle.sc_node_table.specs.Values.{Ballot, Command, Base, Flight, Report}
use Rattle.sc_words.specs.paxos.PaxosDefinitions.{reports_from, LeaderState, promise_counted, LogState, installed, log_cut, next_of}
use Rattle.sc_words.proofs.PaxosProofs.PaxosLemmas.{Each-append, Each-filter, Each-weaker}
use Rattle.sc_node_table.specs.NodeDefinitions.{floor_of, at_slot}
use Rattle.sc_law_walks.proofs.WalkLemmas.{entry_low, entry_is, floor_under, cut_next, either_way}
use Rattle.sc_live_journals.proofs.RowsProofs.RowLemmas.{floor_most}
use Rattle.sc_live_journals.specs.mail.MailDefinitions.{most_after, IsFewReport, SaysFew}
use Rattle.sc_live_journals.proofs.MailProofs.BoundsInLists.{FlyTo, WaitTo, flights_less, votes_few, entries_less, entries_more, found_low, reports_more}
use Rattle.sc_live_journals.proofs.MailProofs.Walks.{PartWalk, PartBirths, Part, next_in, cut_part, entered_part, jumped_part, elected_part, born_part}

-- ---- the next slot

pub entered_up : (command : Command) (p : Part) → next_in (entered_part command p) ≡ next_in p + 1
entered_up command p =
    let log : LogState Command = record p.log { entries = p.log.entries ++ command ∷ [] } in
    let longer = length_push p.log.entries command in
    let low = floor_under (next_in p) (omega arith) in
    ap (λ l. next_of (log_cut (floor_of (next_in p)) l)) (entry_is command p.log) ∙ cut_next (floor_of (next_in p)) log (omega (arith, longer, low)) ∙ omega (arith, longer)

pub installed_up : (slot : ℕ) → next_of (log_cut (floor_of slot) (installed {V = Command} slot)) ≡ slot + 1
installed_up slot = (let most = floor_most slot in cut_next (floor_of slot) (installed slot) (omega (arith, most)) ∙ omega arith)

-- ---- one row, where all slots and rounds were m at most

module _ (m : ℕ) where
  -- what no row raises but by mail: promises, and what was accepted, is reported and is ready
  abbrev Rests : Part → Type 0
  Rests p = (next_in p ≤ m + 1) × (p.acceptor.promised.round ≤ m) × Each (IsFewReport m) p.acceptor.accepted × Each (IsFewReport m) p.leader.reports × FlyTo (m + 4) p.leader.flights × WaitTo m p.ready

  -- before it elected itself, and after: then nothing is ready
  abbrev pub Early : Part → Type 0
  Early p = Rests p × (p.top.round ≤ m) × (p.leader.ballot.round ≤ m)

  abbrev pub Late : Part → Type 0
  Late p = Rests p × (p.top.round ≤ m + 1) × (p.leader.ballot.round ≤ m + 1) × ((p.ready ≡ [] → ⊥) → (p.top.round ≤ m) × (p.leader.ballot.round ≤ m))

  pub again_few : (p : Part) (command : Command) → at_slot p.ready (next_in p) ≡ Some command → Late p → Early p × (next_in p ≤ m)
  again_few p command e k =
      let some : p.ready ≡ [] → ⊥ = λ none. (let bad : None ≡ Some command = ap (λ es. at_slot es (next_in p)) (sym none) ∙ e in cc) in
      let low = k.3 some in
      ((k.0, low.0, low.1), found_low m (next_in p) command p.ready e k.0.5)

  pub late_few : (p : Part) → Early p → Late p
  late_few p k = (let a = k.1 in let b = k.2 in (k.0, omega (arith, a), omega (arith, b), λ some. (a, b)))

  pub entered_few : (command : Command) (p : Part) → next_in p ≤ m → Early p → Early (entered_part command p)
  entered_few command p low k =
      let up = entered_up command p in
      let r = k.0 in
      ((omega (arith, up, low), r.1, Each-filter (IsFewReport m) (λ report. nat_lt (floor_of (next_in p)) report.slot) p.acceptor.accepted r.2, r.3, r.4, r.5), k.1, k.2)

  pub jumped_few : (slot : ℕ) (base : Base) (p : Part) → slot ≤ m → Early p → Early (jumped_part slot base p)
  jumped_few slot base p low k =
      let up = installed_up slot in
      let r = k.0 in
      ((omega (arith, up, low), r.1, Each-filter (IsFewReport m) (λ report. nat_lt (floor_of slot) report.slot) p.acceptor.accepted r.2, r.3, r.4, r.5), k.1, k.2)

  pub polled_few : (from : ℕ) (ballot : Ballot) (reports : List (Report Command)) (p : Part) → Each (IsFewReport m) reports → Early p → Early (record p { leader = (promise_counted from ballot reports p.leader).1 })
  polled_few from ballot reports p good k =
      let r = k.0 in
      either_way (λ (x : Bool × LeaderState Command). Early (record p { leader = x.1 })) (same_ballot ballot p.leader.ballot && not (is_member p.leader.promisers from))
      (true, record p.leader { promisers = p.leader.promisers ++ from ∷ []; reports = p.leader.reports ++ reports }) (false, p.leader)
      ((r.0, r.1, r.2, Each-append (IsFewReport m) p.leader.reports reports r.3 good, r.4, r.5), k.1, k.2) k

  pub elected_few : (who : ℕ) (p : Part) → Early p → Late (elected_part who p)
  elected_few who p k = (let r = k.0 in let a = k.1 in ((r.0, r.1, r.2, tt, tt, tt), omega (arith, a), omega (arith, a), λ some. absurd (some refl)))

  -- a state that is made at a slot
  pub made_few : (slot : ℕ) (base : Base) → 1 ≤ m → slot ≤ m → Early (cut_part slot (record (born_part base) { log = installed slot }))
  made_few slot base some low = (let up = installed_up slot in ((omega (arith, up, low), some, tt, tt, tt, tt), some, some))

-- ---- the walk, by how many rows there were

abbrev pub few_walk : ℕ → ℕ → PartWalk
few_walk n who = (
    let m : ℕ = most_after n in
    let x : ℕ = most_after (n + 1) in
    record {
      me = who;
      Early = Early (most_after n);
      Late = Late (most_after n);
      Says = λ to body. SaysFew (most_after (n + 1)) body;
      Round = λ ballot. ballot.round ≤ most_after n;
      Slot = λ slot. slot ≤ most_after n;
      State = λ slot base. slot ≤ most_after n;
      Polled = λ ballot. Unit {0};
      Behind = λ slot. Unit {0};
      late = λ p k. late_few m p k;
      again = λ p command e k. again_few m p command e k;
      entered = λ command p low k. entered_few m command p low k;
      landed = λ slot p k. ((k.0.0, k.0.1, k.0.2, k.0.3, flights_less (m + 4) slot p.leader.flights k.0.4, entries_less m slot p.ready k.0.5), k.1, k.2);
      ended = λ p k. ((k.0.0, k.0.1, k.0.2, tt, tt, tt), k.1, k.2);
      elected = λ p k. elected_few m who p k;
      seen = λ ballot p good t k. (k.0, good, k.2);
      promised = λ ballot p good k. ((k.0.0, good, k.0.2, k.0.3, k.0.4, k.0.5), k.1, k.2);
      accepted = λ report p good k. ((k.0.0, good.0, reports_more (IsFewReport m) report p.acceptor.accepted good k.0.2, k.0.3, k.0.4, k.0.5), k.1, k.2);
      jumped = λ slot base p good later k. jumped_few m slot base p good k;
      readied = λ slot command p low k. ((k.0.0, k.0.1, k.0.2, k.0.3, k.0.4, entries_more m slot command p.ready low k.0.5), k.1, k.2);
      polled = λ from ballot reports p good k. polled_few m from ballot reports p good k;
      counts = λ from ballot slot set p k. (let v = votes_few (m + 4) p.leader from ballot slot set k.0.4 in let b = k.2 in let same = ap (λ (x : Ballot). x.round) v.0 in
          ((k.0.0, k.0.1, k.0.2, subst (Each (IsFewReport m)) (sym v.1) k.0.3, v.2, k.0.5), k.1, omega (arith, same, b)));
      flown = λ slot command p low k. (let a = k.0.0 in ((k.0.0, k.0.1, k.0.2, k.0.3, Each-append (λ (flight : Flight Command). flight.slot ≤ m + 4) p.leader.flights _ k.0.4 (omega (arith, a, low), tt), k.0.5), k.1, k.2, k.3));
      tells = λ number result. tt;
      answers = λ client group seq answer. tt;
      asks = λ to slot command p low k. (let a = k.0.0 in let b = k.2 in (omega (arith, b), omega (arith, a, low)));
      polls = λ to p k. (let a = k.0.0 in let b = k.1 in (omega (arith, b), omega (arith, a)));
      repolls = λ to p k. (let a = k.0.0 in let b = k.2 in (omega (arith, b), omega (arith, a)));
      installs = λ to sets p k. (let a = k.0.0 in omega (arith, a));
      teaches = λ to slot command group low. omega (arith, low);
      recalls = λ to slot command p e k. (let a = k.0.0 in let low = entry_low slot p.log command e in omega (arith, a, low));
      wants = λ to slot p behind low k. (let a = k.0.0 in omega (arith, a));
      promises = λ to ballot from_slot p good polled k. (
        omega (arith, good),
        Each-weaker (IsFewReport m) (IsFewReport x) (λ report q. (let a = q.0 in let b = q.1 in (omega (arith, a), omega (arith, b)))) (reports_from from_slot p.acceptor.accepted)
            (Each-filter (IsFewReport m) (λ report. nat_le from_slot report.slot) p.acceptor.accepted k.0.2),
      );
      votes = λ to ballot slot group good low. (omega (arith, good), omega (arith, low));
      nacks = λ to p k. (let a = k.0.1 in omega (arith, a));
      offers = λ to tx offer own. tt;
      watches = λ to tx watch own. tt;
      casts = λ to tx coord part vote. tt;
      sees = λ to tx coord part vote. tt;
      ends = λ to tx part outcome. tt;
      sends_on = λ to tx coord hint. tt;
    }
    )

pub few_births : (n who : ℕ) → PartBirths (few_walk n who)
few_births n who = record {
  born = λ base. ((omega arith, omega arith, tt, tt, tt, tt), omega arith, omega arith, λ some. (omega arith, omega arith));
  made = λ slot base good. made_few (most_after n) slot base (omega arith) good;
  wants_all = λ to group. omega arith;
}
