-- One that elects itself by the last entry, which it learns, leads in its group's progress after that.
use Rattle.std.proofs.Common.{◌≡◌, ℕ, zero, suc, ◌+◌, ◌<◌, ◌≤◌, ◌||◌, not, eqb, ltb, true, false, true≢false, List, [], ◌∷◌, length, Option, Some, None, inl, inr, refl, sym, ◌∙◌, ap, subst, arith}
use Rattle.std.specs.Prelude.{is_some}
use Rattle.std.proofs.lemmas.Bool.{cond_both, cases_Bool, cases_eq, cases_lt, cond-true, cond-false, eq-eqb, or_cases, or_left, or_right}
use Rattle.sc_base.specs.Definitions.{most_nodes, is_member, least_of}
use Rattle.sc_node_table.specs.Values.{Ballot, Command}
use Rattle.sc_words.specs.paxos.PaxosDefinitions.{below}
use Rattle.sc_node_table.specs.NodeDefinitions.{is_in_some, nodes_to, open_nodes, entered, executed_ready, executed, pumped, ReplicaState, Place, name_of, next, members, forgotten, mailed, numbers_from}
use Rattle.sc_live_steps.specs.following.FollowingDefinitions.{MayLeadNext, elected_by, ElectsInto, ElectionsLead, Teaches, Prepares, Progress, Sets, members_at, IsOpen, voters_of, IsLeadOf, AreAt, IsOrderly, Elects, marks_for, MayElect, next_ballot, ElectsBy}
use Rattle.sc_live_steps.proofs.FollowingProofs.LeastMembers.{last, leading, one_is, no_pump, self_election}
use Rattle.sc_live_steps.proofs.FollowingProofs.EntryMail.{passes, fails}
use Rattle.sc_live_steps.proofs.FollowingProofs.LeaderRows.{least_in}
use Rattle.sc_live_steps.proofs.FollowingProofs.FollowerTables.{told_is}

-- ---- the nodes that are asked

-- one of these numbers is among them
pub among_numbers : (count from who : ℕ) → from ≤ who → who < from + count → is_member (numbers_from from count) who ≡ true
among_numbers zero from who least most = absurd (omega (arith, least, most))
among_numbers (suc count) from who least most = elim (cases_eq from who) [
  | inl fact ↦ or_left (eqb from who) (is_member (numbers_from (from + 1) count) who) (eq-eqb from who fact)
  | inr ne ↦ or_right (eqb from who) (is_member (numbers_from (from + 1) count) who) (among_numbers count (from + 1) who (past ne) (omega (arith, most)))
]
  where
    past : (from ≡ who → ⊥) → from + 1 ≤ who
    past ne = elim (cases_lt from who) [ inl lt ↦ omega (arith, lt) | inr ge ↦ absurd (ne (omega (arith, least, ge))) ]

-- one decides an open slot where it is in some of their sets
some_open : (at : Sets) (first : ℕ) (sets : List (List ℕ)) (who : ℕ) → AreAt at first sets → is_in_some sets who ≡ true → (s : ℕ) × (first ≤ s) × (s < first + length sets) × (is_member (at s) who ≡ true)
some_open at first [] who are e = cc
some_open at first (set ∷ sets) who are e = elim (or_cases (is_member set who) (is_in_some sets who) e) [
  | inl m ↦ (first, omega arith, omega arith, ap (λ l. is_member l who) are.0 ∙ m)
  | inr more ↦ (let rest = some_open at (first + 1) sets who are.1 more in let least = rest.1 in let most = rest.2 in (rest.0, omega (arith, least), omega (arith, most), rest.3))
]

open_some : (at : Sets) (first : ℕ) (sets : List (List ℕ)) (who s : ℕ) → AreAt at first sets → first ≤ s → s < first + length sets → is_member (at s) who ≡ true → is_in_some sets who ≡ true
open_some at first [] who s are least most m = absurd (omega (arith, least, most))
open_some at first (set ∷ sets) who s are least most m = elim (cases_eq first s) [
  | inl fact ↦ or_left (is_member set who) (is_in_some sets who) (ap (λ l. is_member l who) (sym are.0) ∙ (ap (λ n. is_member (at n) who) fact ∙ m))
  | inr ne ↦ or_right (is_member set who) (is_in_some sets who) (open_some at (first + 1) sets who s are.1 (past ne) (omega (arith, most)) m)
]
  where
    past : (first ≡ s → ⊥) → first + 1 ≤ s
    past ne = elim (cases_lt first s) [ inl lt ↦ omega (arith, lt) | inr ge ↦ absurd (ne (omega (arith, least, ge))) ]

asked_in : (sets : List (List ℕ)) (who : ℕ) → is_member (open_nodes sets) who ≡ true → is_in_some sets who ≡ true
unfolding nodes_to
asked_in sets who e = elim (cases_Bool (is_in_some sets who)) [ inl t ↦ t | inr f ↦ absurd (true≢false (sym e ∙ fails (λ node. is_in_some sets node) who f (numbers_from 1 most_nodes))) ]

in_asked : (sets : List (List ℕ)) (who : ℕ) → is_in_some sets who ≡ true → 1 ≤ who → who ≤ most_nodes → is_member (open_nodes sets) who ≡ true
unfolding nodes_to
in_asked sets who t least most = passes (λ node. is_in_some sets node) who t (numbers_from 1 most_nodes) ∙ among_numbers most_nodes 1 who least (omega (arith, most))

-- ---- the whole

module _ (at : Sets) (now : Progress) (command : Command) (r : ReplicaState) (off : r.running ≡ false) (none : r.leader.flights ≡ []) (slot : ℕ) (is_next : slot ≡ next r) (may : MayElect (entered command r)) (name_is : name_of (entered command r) ≡ name_of r) (m : MayLeadNext at now slot command r) where
  abbrev place : Place
  place = leading command r off none slot is_next may name_is

  abbrev then : Progress
  then = elected_by r.me now place.0

  by : ElectsBy slot (entered command r).sets r place
  by = self_election command r off none slot is_next may name_is

  same_me : place.0.me ≡ r.me
  unfolding entered forgotten
  same_me = refl

  newest_is : next place.0 ≡ now.course.newest
  newest_is = by.reaches ∙ m.last

  ballot_is : place.0.leader.ballot ≡ next_ballot r
  ballot_is = ap (λ l. l.ballot) by.leads

  no_voters : (s : ℕ) → voters_of place.0 s ≡ None
  no_voters s = cond_both {A = Option (List ℕ)} (not place.0.running || (ltb s (next place.0) || false)) None None (λ o. o ≡ None) (λ _. refl) (λ _. refl)

  opens : (who : ℕ) → is_member (open_nodes (entered command r).sets) who ≡ true → IsOpen at now.course.newest who
  opens who e =
      let o = some_open at (suc slot) (entered command r).sets who m.sets (asked_in (entered command r).sets who e) in
      let least = o.1 in
      let most = o.2 in
      let last_ = m.last in
      let len = m.ahead in
      record { slot = o.0; from = omega (arith, least, last_); to = omega (arith, most, last_, len); decides = o.3 }

  open_asked : (who : ℕ) → IsOpen at now.course.newest who → is_member (open_nodes (entered command r).sets) who ≡ true
  open_asked who o =
      let node = m.nodes o.slot who o.decides in
      let from = o.from in
      let to = o.to in
      let last_ = m.last in
      let len = m.ahead in
      in_asked (entered command r).sets who (open_some at (suc slot) (entered command r).sets who o.slot m.sets (omega (arith, from, last_)) (omega (arith, to, last_, len)) o.decides) node.0 node.1

  prepares : (who : ℕ) → is_member (open_nodes (entered command r).sets) who ≡ true → marks_for (name_of r) who place.1 ≡ Prepares place.0.leader.ballot ∷ []
  prepares who t = by.asks who ∙ (cond-true (is_member (open_nodes (entered command r).sets) who) (Prepares (next_ballot r) ∷ []) [] t ∙ ap (λ b. Prepares b ∷ []) (sym ballot_is))

  heir : least_of (members (entered command r)) ≡ r.me
  heir = may.least ∙ same_me

  goes : Elects at now then r.me (Some (Teaches slot)) (λ who. marks_for (name_of r) who place.1)
  goes = record {
    mark = Teaches slot;
    takes = refl;
    last = (slot, m.last, inl refl);
    idle = m.idle;
    stands = m.stands;
    least = sym (ap least_of (ap (members_at at) (sym m.last) ∙ m.members_are) ∙ heir);
    next = cond-true (eqb r.me r.me) (next place.0) (now.next r.me) (eq-eqb r.me r.me refl) ∙ newest_is;
    promise = cond-true (eqb r.me r.me) place.0.acceptor.promised (now.promise r.me) (eq-eqb r.me r.me refl) ∙ (by.promises ∙ sym m.promise);
    newest = newest_is;
    bound = refl;
    later = ap (below now.course.ballot) ballot_is ∙ m.later;
    mine = ap (λ (b : Ballot). b.node) ballot_is;
    first = refl;
    runs = by.runs;
    stays = ap is_some may.stands;
    voters = no_voters;
    sends = λ who. elim (cases_Bool (is_member (open_nodes (entered command r).sets) who)) [
      | inl t ↦ inr (opens who t, prepares who t)
      | inr f ↦ inl (by.asks who ∙ cond-false (is_member (open_nodes (entered command r).sets) who) (Prepares (next_ballot r) ∷ []) [] f)
    ];
    asks = λ who o. prepares who (open_asked who o);
  }

  leads_then : IsLeadOf at then place.0
  leads_then = record {
    led = record {
      running = by.runs;
      stands = may.stands;
      first = refl;
      mine = refl;
      member = ap (is_member (members (entered command r))) (sym may.least) ∙ least_in (members (entered command r)) m.roster.some;
      was = ap (members_at at) by.reaches ∙ m.members_are;
      ahead = m.ahead;
      roster = m.roster;
      may = record {
        ballot = refl;
        sets = subst (λ n. AreAt at n (entered command r).sets) (sym by.reaches) m.sets;
        low = (let fact = newest_is in let b = m.bound in omega (arith, fact, b));
        high = (let fact = newest_is in let b = m.bound in omega (arith, fact, b));
        taken = λ s least most. absurd (let fact = newest_is in let b = m.bound in omega (arith, fact, b, least, most));
        free = λ s least. refl;
      };
    };
    newest = refl;
    runs = by.runs;
    stands = ap is_some may.stands;
    executed = cond-true (eqb place.0.me r.me) (next place.0) (now.next place.0.me) (eq-eqb place.0.me r.me same_me);
    promise = cond-true (eqb place.0.me r.me) place.0.acceptor.promised (now.promise place.0.me) (eq-eqb place.0.me r.me same_me);
    voters = λ s. refl;
    polled = λ s voters e. (let none : None ≡ Some voters = sym (no_voters s) ∙ e in cc);
    counted = λ node. refl;
  }

  orderly_then : IsOrderly place.0
  orderly_then = record { apart = tt; single = λ s from some. refl; alone = λ s other c from e act from_other some. absurd (true≢false (sym some)); plain = refl; asked = λ s from some. absurd (true≢false (sym some)) }

  executed_into : ElectsInto at now slot r (executed false command (r, [])).0
  unfolding executed executed_ready
  executed_into =
      let before = last command r off none slot is_next may name_is in
      subst (λ (p : Place). ElectsInto at now slot r (pumped (executed_ready p.0.ready p).0)) (sym (one_is command r off none slot is_next may name_is))
      (subst (ElectsInto at now slot r) (sym (no_pump place.0 place.1 (next_ballot before) (next before))) (record { self_election = goes; leads = leads_then; orderly = orderly_then }))

-- A replica's row by which it elects itself is such a row, and it leads in the progress after it, where its next ballot is later than the group's and it has the members of the open slots.
pub elections_lead : ElectionsLead
unfolding mailed
elections_lead at now from slot command r fit off none low may name m = told_is (ElectsInto at now slot r) from slot command r fit.1 low (executed_into at now command r off none slot fit.1 may name m)

-- ---- a mail that is taken
