-- The least member is elected by an entry that it learns, and asks each node that decides an open slot to promise its ballot.
use Rattle.std.proofs.Common.{◌≡◌, ℕ, zero, suc, ◌+◌, ◌-◌, ◌*◌, ◌^◌, ◌<◌, ◌&&◌, ◌||◌, not, eqb, Bool, true, false, true≢false, cond, List, [], ◌∷◌, ◌++◌, length, Option, Some, inl, inr, refl, sym, ◌∙◌, ap, subst, arith, append-nil}
use Rattle.std.specs.Prelude.{nat_le}
use Rattle.std.specs.List.{filter}
use Rattle.std.proofs.lemmas.Bool.{cases_eq, cond-true, cond-false, eq-eqb, ne_eqb, le-ltb, or_left, or_from}
use Rattle.sc_base.specs.Definitions.{most_nodes, votes_of, is_majority, is_member, least_of}
use Rattle.sc_node_table.specs.Values.{Ballot, Draw, Command, Mail, MailBody, Prepare}
use Rattle.sc_words.specs.paxos.PaxosDefinitions.{below, new_leader}
use Rattle.sc_node_table.specs.NodeDefinitions.{is_in_some, nodes_to, open_nodes, elected, entered, looked_for, looked, executed_one, executed_ready, executed, sent, sent_all, pumped_from, pumped, ReplicaState, Place, listed, name_of, next, members, first_set, last_slot, forgotten, mailed, numbers_from}
use Rattle.sc_live_steps.specs.following.FollowingDefinitions.{Mark, Prepares, mark_of, marks_of, marks_for, MayElect, next_ballot, ElectsBy, TablesElect}
use Rattle.sc_live_steps.proofs.FollowingProofs.MailTables.{same_mark, floor_low}
use Rattle.sc_live_steps.proofs.FollowingProofs.FollowerTables.{over, place2, silent, over_off, looks, entered_keeps, entered_floor, told_is}
use Rattle.sc_law_walks.proofs.WalkLemmas.{entered_next}

-- ---- the marks of what is sent to several nodes

-- one mark for each time that an actor stands among them
abbrev pub marks_to : ℕ → Mark → List ℕ → List Mark
marks_to who mark [] = []
marks_to who mark (node ∷ nodes) = cond (eqb node who) (mark ∷ []) [] ++ marks_to who mark nodes

pub append_one : (xs ys zs : List Mark) → (xs ++ ys) ++ zs ≡ xs ++ (ys ++ zs)
append_one [] ys zs = refl
append_one (x ∷ xs) ys zs = ap (λ l. x ∷ l) (append_one xs ys zs)

-- one mail more leaves its mark, if it is for the actor
pub pushed : (name : Draw) (who : ℕ) (mails : List Mail) (me to : ℕ) (body : MailBody) (mark : Mark) → mark_of name me body ≡ Some mark → marks_for name who (sent me to body mails) ≡ marks_for name who mails ++ cond (eqb to who) (mark ∷ []) []
pushed name who [] me to body mark e = by (eqb to who)
  where
    by : (b : Bool) → marks_of name (cond b ((record { from = me; to = to; body = body }) ∷ []) []) ≡ cond b (mark ∷ []) []
    by true = ap (λ (o : Option Mark). listed o ++ []) e
    by false = refl
pushed name who (m ∷ mails) me to body mark e = by (eqb m.to who) (pushed name who mails me to body mark e)
  where
    more : List Mail
    more = sent me to body mails

    by : (b : Bool) → marks_for name who (sent me to body mails) ≡ marks_for name who mails ++ cond (eqb to who) (mark ∷ []) []
        → marks_of name (cond b (m ∷ filter (λ x. eqb x.to who) (sent me to body mails)) (filter (λ x. eqb x.to who) (sent me to body mails)))
        ≡ marks_of name (cond b (m ∷ filter (λ x. eqb x.to who) mails) (filter (λ x. eqb x.to who) mails)) ++ cond (eqb to who) (mark ∷ []) []
    by true rest = ap (λ l. listed (mark_of name m.from m.body) ++ l) rest ∙ sym (append_one (listed (mark_of name m.from m.body)) (marks_for name who mails) (cond (eqb to who) (mark ∷ []) []))
    by false rest = rest

pub sent_marks : (name : Draw) (who me : ℕ) (body : MailBody) (mark : Mark) → mark_of name me body ≡ Some mark → (nodes : List ℕ) (mails : List Mail)
    → marks_for name who (sent_all me nodes body mails) ≡ marks_for name who mails ++ marks_to who mark nodes
unfolding sent_all
sent_marks name who me body mark e [] mails = sym (append-nil (marks_for name who mails))
sent_marks name who me body mark e (node ∷ nodes) mails =
    sent_marks name who me body mark e nodes (sent me node body mails)
    ∙ (ap (λ l. l ++ marks_to who mark nodes) (pushed name who mails me node body mark e) ∙ append_one (marks_for name who mails) (cond (eqb node who) (mark ∷ []) []) (marks_to who mark nodes))

-- ---- each node of some numbers stands there once

-- one below all stands nowhere
below_none : (test : ℕ → Bool) (who : ℕ) (mark : Mark) (count from : ℕ) → who < from → (marks_to who mark (filter test (numbers_from from count)) ≡ []) × (is_member (filter test (numbers_from from count)) who ≡ false)
below_none test who mark zero from lt = (refl, refl)
below_none test who mark (suc count) from lt = by (test from) (below_none test who mark count (from + 1) (omega (arith, lt)))
  where
    apart : eqb from who ≡ false
    apart = ne_eqb from who (λ e. omega (arith, lt, e))

    by : (b : Bool) → (marks_to who mark (filter test (numbers_from (from + 1) count)) ≡ []) × (is_member (filter test (numbers_from (from + 1) count)) who ≡ false)
        → (marks_to who mark (cond b (from ∷ filter test (numbers_from (from + 1) count)) (filter test (numbers_from (from + 1) count))) ≡ []) × (is_member (cond b (from ∷ filter test (numbers_from (from + 1) count)) (filter test (numbers_from (from + 1) count))) who ≡ false)
    by true rest = (ap (λ c. cond c (mark ∷ []) [] ++ marks_to who mark (filter test (numbers_from (from + 1) count))) apart ∙ rest.0, or_from (eqb from who) (is_member (filter test (numbers_from (from + 1) count)) who) apart rest.1)
    by false rest = rest

once : (test : ℕ → Bool) (who : ℕ) (mark : Mark) (count from : ℕ) → marks_to who mark (filter test (numbers_from from count)) ≡ cond (is_member (filter test (numbers_from from count)) who) (mark ∷ []) []
once test who mark zero from = refl
once test who mark (suc count) from = by (test from) (once test who mark count (from + 1))
  where
    head : marks_to who mark (filter test (numbers_from (from + 1) count)) ≡ cond (is_member (filter test (numbers_from (from + 1) count)) who) (mark ∷ []) []
        → cond (eqb from who) (mark ∷ []) [] ++ marks_to who mark (filter test (numbers_from (from + 1) count)) ≡ cond (eqb from who || is_member (filter test (numbers_from (from + 1) count)) who) (mark ∷ []) []
    head rest = elim (cases_eq from who) [
      | inl fact ↦ (let t = eq-eqb from who fact in
          let none = below_none test who mark count (from + 1) (omega (arith, fact)) in
          ap (λ c. cond c (mark ∷ []) [] ++ marks_to who mark (filter test (numbers_from (from + 1) count))) t
          ∙ (ap (λ l. mark ∷ l) none.0 ∙ sym (cond-true (eqb from who || is_member (filter test (numbers_from (from + 1) count)) who) (mark ∷ []) [] (or_left (eqb from who) (is_member (filter test (numbers_from (from + 1) count)) who) t))))
      | inr ne ↦ (let f = ne_eqb from who ne in
          ap (λ c. cond c (mark ∷ []) [] ++ marks_to who mark (filter test (numbers_from (from + 1) count))) f
          ∙ (rest ∙ ap (λ c. cond (c || is_member (filter test (numbers_from (from + 1) count)) who) (mark ∷ []) []) (sym f)))
    ]

    by : (b : Bool) → marks_to who mark (filter test (numbers_from (from + 1) count)) ≡ cond (is_member (filter test (numbers_from (from + 1) count)) who) (mark ∷ []) []
        → marks_to who mark (cond b (from ∷ filter test (numbers_from (from + 1) count)) (filter test (numbers_from (from + 1) count)))
        ≡ cond (is_member (cond b (from ∷ filter test (numbers_from (from + 1) count)) (filter test (numbers_from (from + 1) count))) who) (mark ∷ []) []
    by true rest = head rest
    by false rest = rest

open_once : (sets : List (List ℕ)) (who : ℕ) (mark : Mark) → marks_to who mark (open_nodes sets) ≡ cond (is_member (open_nodes sets) who) (mark ∷ []) []
unfolding nodes_to
open_once sets who mark = once (λ node. is_in_some sets node) who mark most_nodes 1

-- ---- one that is elected offers nothing yet

pub no_votes : (members : List ℕ) → votes_of members [] ≡ 0
no_votes [] = refl
no_votes (x ∷ members) = no_votes members

pub none_decided : (members : List ℕ) → is_majority members [] ≡ false
none_decided members = (let none = no_votes members in le-ltb (length members) (2 * votes_of members []) (omega (arith, none)))

pub no_pump : (r : ReplicaState) (mails : List Mail) (ballot : Ballot) (from : ℕ) → pumped (record r { leader = new_leader ballot from }, mails) ≡ (record r { leader = new_leader ballot from }, mails)
unfolding pumped
no_pump r mails ballot from =
    ap (λ b. cond {A = Place} b (pumped_from (next r) r.sets (record r { leader = new_leader ballot from }, mails)) (record r { leader = new_leader ballot from }, mails)) (by r.running (below ballot r.acceptor.promised) (is_majority (first_set r.sets) []) (none_decided (first_set r.sets)))
  where
    by : (a b c : Bool) → c ≡ false → ((a && (not b && (false || c))) && nat_le (next r) last_slot) ≡ false
    by false b c e = refl
    by true true c e = refl
    by true false true e = absurd (true≢false e)
    by true false false e = refl

-- ---- the whole

-- the one that looks for a leader and finds itself
elected_is : (r : ReplicaState) (mails : List Mail) → r.running ≡ false → MayElect r
    → looked (r, mails) ≡ (record r { top = next_ballot r; hint = Some r.me; running = true; leader = new_leader (next_ballot r) (next r); ready = []; waits = 0 }, sent_all r.me (open_nodes r.sets) (Prepare (name_of r) (next_ballot r) (next r)) mails)
unfolding looked elected
elected_is r mails off may =
    ap (λ b. cond {A = Place} b (r, mails) (looked_for r.group.core.gone (r, mails))) off
    ∙ (ap (λ gone. looked_for gone (r, mails)) may.stands
    ∙ (ap (λ b. cond {A = Place} b (r, mails) (cond (eqb (least_of (members r)) r.me) (elected (record r { hint = Some r.me }, mails)) (record r { hint = Some (least_of (members r)) }, mails))) may.hint
    ∙ (cond-true (eqb (least_of (members r)) r.me) (elected (record r { hint = Some r.me }, mails)) (record r { hint = Some (least_of (members r)) }, mails) (eq-eqb (least_of (members r)) r.me may.least)
    ∙ cond-false (eqb r.top.round (2 ^ 32 - 1)) (record r { hint = Some r.me }, mails) (record r { top = next_ballot r; hint = Some r.me; running = true; leader = new_leader (next_ballot r) (next r); ready = []; waits = 0 }, sent_all r.me (open_nodes r.sets) (Prepare (name_of r) (next_ballot r) (next r)) mails)
    (let low = may.round in ne_eqb r.top.round (2 ^ 32 - 1) (λ e. omega (arith, low, e))))))

module _ (command : Command) (r : ReplicaState) (off : r.running ≡ false) (none : r.leader.flights ≡ []) (slot : ℕ) (at : slot ≡ next r) (may : MayElect (entered command r)) (name_is : name_of (entered command r) ≡ name_of r) where
  abbrev pub last : ReplicaState
  last = over command r off none

  abbrev pub mails : List Mail
  mails = (place2 command r off none).1

  abbrev pub leading : Place
  leading = (
    record last { top = next_ballot last; hint = Some last.me; running = true; leader = new_leader (next_ballot last) (next last); ready = []; waits = 0 },
    sent_all last.me (open_nodes last.sets) (Prepare (name_of last) (next_ballot last) (next last)) mails,
  )

  may_last : MayElect last
  may_last = record { stands = may.stands; hint = may.hint; least = may.least; round = may.round }

  pub one_is : executed_one false command (r, []) ≡ leading
  one_is = looks command r off none (λ p. p ≡ leading) (elected_is last mails (over_off command r off none) may_last)

  same_me : last.me ≡ r.me
  unfolding entered forgotten
  same_me = refl

  same_top : last.top ≡ r.top
  unfolding entered forgotten
  same_top = refl

  pub next_is : next last ≡ suc slot
  next_is = (let up = entered_next command r in omega (arith, up, at))

  ballot_is : next_ballot last ≡ next_ballot r
  ballot_is = ap (λ (top : Ballot). record { round = top.round + 1; node = last.me }) same_top ∙ ap (λ me. record { round = r.top.round + 1; node = me }) same_me

  asked : (who : ℕ) → marks_for (name_of r) who leading.1 ≡ cond (is_member (open_nodes last.sets) who) (Prepares (next_ballot r) ∷ []) []
  asked who =
      sent_marks (name_of r) who last.me (Prepare (name_of last) (next_ballot last) (next last)) (Prepares (next_ballot r)) named_so (open_nodes last.sets) mails
      ∙ (ap (λ l. l ++ marks_to who (Prepares (next_ballot r)) (open_nodes last.sets)) (silent command r off none who) ∙ open_once last.sets who (Prepares (next_ballot r)))
    where
      named_so : mark_of (name_of r) last.me (Prepare (name_of last) (next_ballot last) (next last)) ≡ Some (Prepares (next_ballot r))
      named_so = ap (λ n. mark_of (name_of r) last.me (Prepare n (next_ballot last) (next last))) name_is ∙ (same_mark (name_of r) (Prepares (next_ballot last)) ∙ ap (λ b. Some (Prepares b)) ballot_is)

  pub self_election : ElectsBy slot (entered command r).sets r leading
  self_election = record {
    reaches = next_is;
    promises = (entered_keeps command r).0;
    runs = refl;
    leads = ap (λ b. new_leader b (next last)) ballot_is ∙ ap (new_leader (next_ballot r)) next_is;
    ready = refl;
    low = λ l. (let floor = entered_floor command r in let up = entered_next command r in let most = floor_low (next r) in omega (arith, floor, up, most, l));
    asks = asked;
  }

  executed_elects : ElectsBy slot (entered command r).sets r (executed false command (r, [])).0
  unfolding executed executed_ready
  executed_elects =
      subst (λ (p : Place). ElectsBy slot (entered command r).sets r (pumped (executed_ready p.0.ready p).0)) (sym one_is)
      (subst (ElectsBy slot (entered command r).sets r) (sym (no_pump leading.0 leading.1 (next_ballot last) (next last))) self_election)

-- The least member that takes no member for the leader elects itself by an entry that it learns: it runs with the next round of its own, and asks each node that decides an open slot to promise it.
pub tables_elect : TablesElect
unfolding mailed
tables_elect from slot command r fit off none low may name = told_is (ElectsBy slot (entered command r).sets r) from slot command r fit.1 low (executed_elects command r off none slot fit.1 may name)
