-- A replica of a group that is not reshaped answers a poll; and the replica that polls counts the answer, or stops.
use Rattle.std.proofs.Common.{◌≡◌, ℕ, ◌-◌, ◌*◌, ◌<◌, ◌≤◌, ◌&&◌, ◌||◌, not, nat_le, nat_lt, eqb, Bool, true, false, true≢false, cond, List, [], ◌∷◌, ◌++◌, length, Some, ◌⊎◌, inl, inr, refl, sym, ◌∙◌, ap, subst, arith}
use Rattle.std.proofs.lemmas.Bool.{cond_both, cond-true, leb-true, ltb-true, lt-ltb, eq-eqb}
use Rattle.sc_base.specs.Definitions.{Among, same_ballot, is_member, is_majority, votes_of}
use Rattle.sc_base.proofs.Lemmas.{ballot_itself}
use Rattle.sc_words.proofs.PaxosProofs.PaxosLemmas.{same_from_at_least, cases_below}
use Rattle.sc_paxos_law.proofs.Lemmas.{Among-right, among-member}
use Rattle.sc_paxos_law.proofs.Among.{count_by-le}
use Rattle.sc_node_table.specs.Values.{Ballot, Draw, Command, Base, Core, Mail, MailBody, Promise, Nack, Ask, Install, PrepareAnswer, Report}
use Rattle.sc_group_table.specs.machine.MachineDefinitions.{base_of}
use Rattle.sc_words.specs.declared.paxos.answers.PrepareAnswer.TheVariants as Prepared
use Rattle.sc_words.specs.paxos.PaxosDefinitions.{AcceptorState, LeaderState, below, may_promise, prepared, after_promise, reports_from, promise_counted}
use Rattle.sc_node_table.specs.NodeDefinitions.{ended, stopped, saw, install_to, install_row, took_over, looked_up, looked, jumped, forgotten, sent, promise_to, promised, prepare_row, promise_row, nack_row, pumped, leads, mailed, settled, first_set, last_slot, members, name_of, next, ReplicaState, Place}
use Rattle.sc_law_walks.proofs.WalkLemmas.{either_way}
use Rattle.sc_base.proofs.AscendingLemmas.{and_both}
use Rattle.sc_live_healed.proofs.FixedWalks.{IsFresh, IsFixedPlace}
use Rattle.sc_live_healed.proofs.FixedChanges.{polls}
use Rattle.sc_live_healed.proofs.MovedReplicas.{HasMoved, mailed_moves, pumped_moves}
use Rattle.sc_live_healed.specs.HealedDefinitions.{IsFixedBody, IsFixedReplica, KeepsBallots, IsSettledOrStopped, AnswersPoll}

-- ---- what is seen

-- a ballot that is seen leaves the acceptor and the log
pub seen_keeps : (ballot : Ballot) (place : Place) → ((saw ballot place).0.acceptor ≡ place.0.acceptor) × (next (saw ballot place).0 ≡ next place.0) × ((saw ballot place).0.me ≡ place.0.me)
unfolding saw ended
seen_keeps ballot (r, mails) =
    let seen : ReplicaState = cond (below r.top ballot) (record r { top = ballot }) r in
    let same : (seen.acceptor ≡ r.acceptor) × (next seen ≡ next r) × (seen.me ≡ r.me) = either_way (λ (x : ReplicaState). (x.acceptor ≡ r.acceptor) × (next x ≡ next r) × (x.me ≡ r.me)) (below r.top ballot) (record r { top = ballot }) r (refl, refl, refl) (refl, refl, refl) in
    either_way (λ (p : Place). (p.0.acceptor ≡ r.acceptor) × (next p.0 ≡ next r) × (p.0.me ≡ r.me)) (r.running && below r.leader.ballot ballot) (stopped (Some ballot.node) (seen, mails)) (seen, mails) same same

-- ---- the answer to a poll

-- one of these mails answers the poll, and goes from this node to who asks
abbrev pub Answered : ℕ → ℕ → Ballot → ℕ → List Mail → Type 0
Answered me from ballot from_slot mails = (mail : Mail) × Among mail mails × (mail.from ≡ me) × (mail.to ≡ from) × AnswersPoll ballot from_slot mail.body

last_answers : (me from : ℕ) (ballot : Ballot) (from_slot : ℕ) (body : MailBody) (mails : List Mail) → AnswersPoll ballot from_slot body → Answered me from ballot from_slot (sent me from body mails)
last_answers me from ballot from_slot body mails a =
    (record { from = me; to = from; body = body }, Among-right (record { from = me; to = from; body = body }) mails (record { from = me; to = from; body = body } ∷ []) (inl refl), refl, refl, a)

promise_answers : (from : ℕ) (ballot : Ballot) (from_slot : ℕ) (place : Place) → (place.0.acceptor.promised ≡ ballot → ⊥) → Answered place.0.me from ballot from_slot (promise_to from ballot (prepared ballot from_slot place.0.acceptor) place).1
promise_answers from ballot from_slot (r, mails) other =
    cond_both (may_promise r.acceptor ballot) (Prepared.Promise (reports_from from_slot r.acceptor.accepted), after_promise ballot r.acceptor) (Prepared.Ignored r.acceptor.promised, r.acceptor)
    (λ (p : PrepareAnswer Command × AcceptorState Command). Answered r.me from ballot from_slot (promise_to from ballot p (r, mails)).1)
    (λ t. last_answers r.me from ballot from_slot (Promise (name_of r) ballot (reports_from from_slot r.acceptor.accepted)) mails refl)
    (λ low. last_answers r.me from ballot from_slot (Nack (name_of r) r.acceptor.promised) mails (elim (cases_below ballot r.acceptor.promised) [ inl t ↦ t | inr ge ↦ absurd (other (same_from_at_least r.acceptor.promised ballot low ge)) ]))

poll_answers : (from : ℕ) (ballot : Ballot) (from_slot : ℕ) (place : Place) → (place.0.acceptor.promised ≡ ballot → ⊥) → place.0.acceptor.floor < next place.0 → Answered place.0.me from ballot from_slot (promised from ballot from_slot place).1
unfolding promised install_to
poll_answers from ballot from_slot (r, mails) other low =
    cond_both (nat_le from_slot r.acceptor.floor) (install_to from (r, mails)) (promise_to from ballot (prepared ballot from_slot r.acceptor) (r, mails)) (λ (p : Place). Answered r.me from ballot from_slot p.1)
    (λ t. (let under = leb-true from_slot r.acceptor.floor t in last_answers r.me from ballot from_slot (Install (name_of r) (next r - 1) (base_of r.group) r.sets) mails (omega (arith, under, low))))
    (λ _. promise_answers from ballot from_slot (r, mails) other)

-- who has not promised the ballot yet answers the poll
pub polls_are_answered : (from : ℕ) (ballot : Ballot) (from_slot : ℕ) (r : ReplicaState) (mails : List Mail) → (r.acceptor.promised ≡ ballot → ⊥) → r.acceptor.floor < next r → Answered r.me from ballot from_slot (prepare_row from ballot from_slot (r, mails)).1
unfolding prepare_row
polls_are_answered from ballot from_slot r mails other low =
    let place : Place = saw ballot (r, mails) in
    let same = seen_keeps ballot (r, mails) in
    subst (λ (me : ℕ). Answered me from ballot from_slot (promised from ballot from_slot place).1) same.2
    (poll_answers from ballot from_slot place (λ e. other (sym (ap (λ (a : AcceptorState Command). a.promised) same.0) ∙ e)) (let f = ap (λ (a : AcceptorState Command). a.floor) same.0 in let n = same.1 in omega (arith, f, n, low)))

-- ---- the answer is taken

-- a refusal for a greater ballot stops the replica
pub refusals_stop : (promised : Ballot) (r : ReplicaState) (mails : List Mail) → below r.leader.ballot promised ≡ true → (nack_row promised (r, mails)).0.running ≡ false
unfolding nack_row saw ended
refusals_stop promised r mails above =
    let seen : ReplicaState = cond (below r.top promised) (record r { top = promised }) r in
    let same : seen.running ≡ r.running = either_way (λ (x : ReplicaState). x.running ≡ r.running) (below r.top promised) (record r { top = promised }) r refl refl in
    cond_both (r.running && below r.leader.ballot promised) (stopped (Some promised.node) (seen, mails)) (seen, mails) (λ (p : Place). p.0.running ≡ false) (λ _. refl)
    (λ f. same ∙ by r.running (below r.leader.ballot promised) above f)
  where
    by : (b c : Bool) → c ≡ true → (b && c) ≡ false → b ≡ false
    by false c t f = refl
    by true c t f = absurd (true≢false (sym t ∙ f))

ended_stops : (from : ℕ) (r : ReplicaState) (mails : List Mail) → (cond {A = Place} r.running (stopped (Some from) (r, mails)) (r, mails)).0.running ≡ false
unfolding ended
ended_stops from r mails = cond_both r.running (stopped (Some from) (r, mails)) (r, mails) (λ (p : Place). p.0.running ≡ false) (λ _. refl) (λ f. f)

-- so does a state of a later slot
pub over_stops : (from slot : ℕ) (sent : Base) (sets : List (List ℕ)) (place : Place) → is_member sent.core.members from ≡ true → (took_over from slot sent sets place).0.running ≡ false
unfolding took_over looked_up jumped forgotten
over_stops from slot sent sets (r, mails) m =
    let place1 : Place = cond r.running (stopped (Some from) (r, mails)) (r, mails) in
    cond_both (is_member sent.core.members from) (record (jumped slot sent sets place1.0) { hint = Some from }, place1.1) (looked (jumped slot sent sets place1.0, place1.1)) (λ (p : Place). p.0.running ≡ false)
    (λ _. ended_stops from r mails) (λ f. absurd (true≢false (sym m ∙ f)))

pub states_stop : (from slot : ℕ) (sent : Base) (sets : List (List ℕ)) (r : ReplicaState) (mails : List Mail) → length sets ≡ length r.sets → slot ≤ last_slot → next r ≤ slot → is_member sent.core.members from ≡ true → (install_row from slot sent sets (r, mails)).0.running ≡ false
unfolding install_row
states_stop from slot sent sets r mails many high later m =
    by (eqb (length sets) (length r.sets)) (nat_lt last_slot slot) (nat_lt slot (next r)) refl refl refl
  where
    by : (a b c : Bool) → eqb (length sets) (length r.sets) ≡ a → nat_lt last_slot slot ≡ b → nat_lt slot (next r) ≡ c → (cond {A = Place} (not a || (b || c)) (r, mails) (took_over from slot sent sets (r, mails))).0.running ≡ false
    by true false false e f g = over_stops from slot sent sets (r, mails) m
    by false b c e f g = absurd (true≢false (sym (eq-eqb (length sets) (length r.sets) many) ∙ e))
    by true true c e f g = absurd (let over = ltb-true last_slot slot f in omega (arith, over, high))
    by true false true e f g = absurd (let under = ltb-true slot (next r) g in omega (arith, under, later))

-- a promise is counted
counted_in : (from : ℕ) (ballot : Ballot) (reports : List (Report Command)) (leader : LeaderState Command) → leader.ballot ≡ ballot → is_member (promise_counted from ballot reports leader).1.promisers from ≡ true
counted_in from ballot reports leader same =
    cond_both (same_ballot ballot leader.ballot && not (is_member leader.promisers from)) (true, record leader { promisers = leader.promisers ++ from ∷ []; reports = leader.reports ++ reports }) (false, leader)
    (λ (p : Bool × LeaderState Command). is_member p.1.promisers from ≡ true)
    (λ _. among-member (leader.promisers ++ from ∷ []) from (Among-right from leader.promisers (from ∷ []) (inl refl)))
    (λ f. by (same_ballot ballot leader.ballot) (is_member leader.promisers from) (ap (λ (b : Ballot). same_ballot ballot b) same ∙ ballot_itself ballot) f)
  where
    by : (a b : Bool) → a ≡ true → (a && not b) ≡ false → b ≡ true
    by true true e f = refl
    by true false e f = absurd (cc)
    by false b e f = absurd (cc)

module _ (base : Base) (me : ℕ) (fresh : IsFresh base me) where
  abbrev F : Place → Type 0
  F place = IsFixedPlace base me place

  -- ---- who is settled stays so

  -- more voters are a majority still
  more_votes : (members voters more : List ℕ) → ((node : ℕ) → is_member voters node ≡ true → is_member more node ≡ true) → is_majority members voters ≡ true → is_majority members more ≡ true
  more_votes members voters more each m =
      let up = count_by-le (is_member voters) (is_member more) members each in
      let most = ltb-true (length members) (2 * votes_of members voters) m in
      lt-ltb (length members) (2 * votes_of members more) (omega (arith, up, most))

  set_is : (r : ReplicaState) → IsFixedReplica base r → first_set r.sets ≡ base.core.members
  set_is r k = ap first_set k.sets

  -- a replica whose ballot is the first, or has promises of a majority, is settled where it runs
  settles : (r : ReplicaState) → IsFixedReplica base r → KeepsBallots base r → r.running ≡ true → (r.leader.is_first || is_majority base.core.members r.leader.promisers) ≡ true → settled r ≡ true
  settles r f k on most =
      let unpassed : below r.leader.ballot r.acceptor.promised ≡ false = (k.running on).unpassed in
      let all : (r.leader.is_first || is_majority (first_set r.sets) r.leader.promisers) ≡ true = ap (λ (set : List ℕ). r.leader.is_first || is_majority set r.leader.promisers) (set_is r f) ∙ most in
      by r.running (below r.leader.ballot r.acceptor.promised) (r.leader.is_first || is_majority (first_set r.sets) r.leader.promisers) on unpassed all
    where
      by : (a b c : Bool) → a ≡ true → b ≡ false → c ≡ true → (a && (not b && c)) ≡ true
      by true false true e f g = refl
      by false b c e f g = absurd (cc)
      by true true c e f g = absurd (cc)
      by true false false e f g = absurd (cc)

  -- and the other way round
  settled_by : (r : ReplicaState) → IsFixedReplica base r → settled r ≡ true → (r.leader.is_first || is_majority base.core.members r.leader.promisers) ≡ true
  settled_by r f s =
      ap (λ (set : List ℕ). r.leader.is_first || is_majority set r.leader.promisers) (sym (set_is r f))
      ∙ by r.running (below r.leader.ballot r.acceptor.promised) (r.leader.is_first || is_majority (first_set r.sets) r.leader.promisers) s
    where
      by : (a b c : Bool) → (a && (not b && c)) ≡ true → c ≡ true
      by true false c e = e
      by false b c e = absurd (cc)
      by true true c e = absurd (cc)

  moved_settled : (start : ReplicaState) (body : MailBody) (place : Place) → IsFixedReplica base start → HasMoved ⊥ start body place → F place → IsSettledOrStopped start → IsSettledOrStopped place.0
  moved_settled start body place f m k led on = by (m.leads on)
    where
      still : (a b c d : Bool) → b ≡ a → (c ≡ true → d ≡ true) → (a || c) ≡ true → (b || d) ≡ true
      still true b c d e f t = ap (λ (x : Bool). x || d) e
      still false b true d e f t = ap (λ (x : Bool). b || x) (f refl) ∙ all b
        where
          all : (x : Bool) → (x || true) ≡ true
          all true = refl
          all false = refl
      still false b false d e f t = absurd (cc)

      by : ⊥ ⊎ ((start.running ≡ true) × (place.0.leader.ballot ≡ start.leader.ballot) × (place.0.leader.is_first ≡ start.leader.is_first) × ((node : ℕ) → is_member start.leader.promisers node ≡ true → is_member place.0.leader.promisers node ≡ true)) → settled place.0 ≡ true
      by (inl e) = absurd e
      by (inr l) =
          let was = settled_by start f (led l.0) in
          settles place.0 k.fixed k.ballots on (still start.leader.is_first place.0.leader.is_first (is_majority base.core.members start.leader.promisers) (is_majority base.core.members place.0.leader.promisers) l.2 (λ t. more_votes base.core.members start.leader.promisers place.0.leader.promisers l.3 t) was)

  -- who is settled where it runs is so after each mail
  pub mail_keeps_settled : (from : ℕ) (body : MailBody) (r : ReplicaState) → r.acceptor.floor < next r → IsFixedBody base from me body → F (r, []) → IsSettledOrStopped r → IsSettledOrStopped (mailed from body (r, [])).0.0
  mail_keeps_settled from body r low h f led =
      let moved = mailed_moves base me fresh ⊥ r from body low h f in moved_settled r body (mailed from body (r, [])).0 f.fixed moved.1 moved.0 led

  -- a majority that has promised settles the replica
  pub majorities_settle : (r : ReplicaState) → F (r, []) → is_majority base.core.members r.leader.promisers ≡ true → IsSettledOrStopped r
  majorities_settle r f most on = settles r f.fixed f.ballots on (by r.leader.is_first (is_majority base.core.members r.leader.promisers) most)
    where
      by : (a b : Bool) → b ≡ true → (a || b) ≡ true
      by true b e = refl
      by false b e = e

  -- ---- an answer to the poll that a replica is in

  promise_counts : (from : ℕ) (ballot : Ballot) (reports : List (Report Command)) (group : Draw) (r : ReplicaState) → r.acceptor.floor < next r → r.running ≡ true → r.leader.ballot ≡ ballot → IsFixedBody base from me (Promise group ballot reports) → F (r, [])
      → ((promise_row from ballot reports (r, [])).0.running ≡ true → is_member (promise_row from ballot reports (r, [])).0.leader.promisers from ≡ true) × (next (promise_row from ballot reports (r, [])).0 ≡ next r)
  unfolding promise_row
  promise_counts from ballot reports group r low on same h f =
      let counted : ReplicaState = record r { leader = (promise_counted from ballot reports r.leader).1 } in
      let f1 : F (counted, []) = polls base me fresh from ballot reports r [] on h.3 f in
      let pumped1 = pumped_moves base me fresh ⊥ counted 0 (Ask base.core.id 0) low f1 in
      let leads1 : leads ballot r ≡ true = and_both r.running (same_ballot ballot r.leader.ballot) on (ap (λ (b : Ballot). same_ballot ballot b) same ∙ ballot_itself ballot) in
      subst (λ (p : Place). (p.0.running ≡ true → is_member p.0.leader.promisers from ≡ true) × (next p.0 ≡ next r)) (sym (cond-true (leads ballot r) (pumped (counted, [])) (r, []) leads1))
      ((λ on2. elim (pumped1.1.leads on2) [ inl e ↦ absurd e | inr l ↦ l.3 from (counted_in from ballot reports r.leader same) ]), pumped1.2)

  -- an answer to the poll is counted, or the replica that polls stops; slots have room
  pub answers_count : (from : ℕ) (ballot : Ballot) (from_slot : ℕ) (body : MailBody) (r : ReplicaState) → r.acceptor.floor < next r → r.running ≡ true → r.leader.ballot ≡ ballot → next r ≡ from_slot
      → ((group : Draw) (slot : ℕ) (sent : Base) (sets : List (List ℕ)) → body ≡ Install group slot sent sets → slot ≤ last_slot)
      → AnswersPoll ballot from_slot body → IsFixedBody base from me body → F (r, []) → (mailed from body (r, [])).0.0.running ≡ true → is_member (mailed from body (r, [])).0.0.leader.promisers from ≡ true
  unfolding mailed
  answers_count from ballot from_slot (Promise group promised reports) r low on same at room a h f on2 =
      (promise_counts from promised reports group r low on (same ∙ sym a) h f).0 on2
  answers_count from ballot from_slot (Nack group promised) r low on same at room a h f on2 =
      absurd (true≢false (sym on2 ∙ refusals_stop promised r [] (ap (λ (b : Ballot). below b promised) same ∙ a)))
  answers_count from ballot from_slot (Install group slot sent sets) r low on same at room a h f on2 =
      let many : length sets ≡ length r.sets = ap length h.3 ∙ sym (ap length f.fixed.sets) in
      absurd (true≢false (sym on2 ∙ states_stop from slot sent sets r [] many (room group slot sent sets refl) (omega (arith, at, a)) (ap (λ (core : Core). is_member core.members from) h.2 ∙ h.1.0)))
  answers_count from ballot from_slot _ r low on same at room a h f on2 = absurd a
