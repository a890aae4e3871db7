-- A replica's table takes the mail of its group as the marks of it say.
use Rattle.std.proofs.Common.{◌≡◌, ℕ, suc, ◌<◌, ◌≤◌, ◌&&◌, ◌||◌, not, max, eqb, ltb, Bool, true, false, true≢false, cond, List, [], ◌∷◌, ◌++◌, length, Option, Some, None, inl, inr, refl, sym, ◌∙◌, ap, subst, arith}
use Rattle.std.specs.List.{filter}
use Rattle.std.proofs.lemmas.Bool.{cases_eq, cond_both, cond-true, cond-false, eq-eqb, ne_eqb, lt-leb, le-ltb, or_from, not_from_true}
use Rattle.sc_node_table.specs.Values.{Ballot, Draw, Command, Base, Mail, MailBody, Promise, Accepted, Nack, Report}
use Rattle.sc_base.specs.Definitions.{same_draw, is_member}
use Rattle.sc_base.proofs.Lemmas.{same_name}
use Rattle.sc_words.specs.declared.paxos.answers.AcceptAnswer.TheVariants as Asked
use Rattle.sc_words.specs.declared.paxos.answers.PrepareAnswer.TheVariants as Answers
use Rattle.sc_words.specs.paxos.PaxosDefinitions.{accepted as accepted_by, after_accept, after_promise, reports_from, below, installed, prepared}
use Rattle.sc_words.proofs.PaxosProofs.PaxosLemmas.{at_least_itself, same_from_at_least}
use Rattle.sc_node_table.specs.NodeDefinitions.{saw, stopped, install_to, named, jumped, looked, sent, ReplicaState, Place, listed, name_of, next, members, first_ballot, last_slot, floor_of, forgotten, installed_replica, looked_up, took_over, install_row, made_by, hinted, promise_to, promised, prepare_row, accepted_to, took, accept_row}
use Rattle.sc_law_walks.proofs.WalkLemmas.{cut_next}
use Rattle.sc_live_steps.specs.following.FollowingDefinitions.{Mark, Asks, Votes, Installs, Prepares, Promises, mark_of, marks_of, marks_for, StepsBy, IsInTime, StatesMake, answered}
use Rattle.sc_law_walks.specs.WalkDefinitions.{GoesOn}

-- ---- the marks of one mail

marks-one : (name : Draw) (who me to : ℕ) (body : MailBody) (mark : Mark) → mark_of name me body ≡ Some mark → marks_for name who (sent me to body []) ≡ cond (eqb to who) (mark ∷ []) []
marks-one name who me to body mark e =
    let mail : Mail = record { from = me; to = to; body = body } in
    cond_both (eqb to who) (mail ∷ []) [] (λ l. marks_of name l ≡ cond (eqb to who) (mark ∷ []) []) (λ t. ap (λ (o : Option Mark). listed o ++ []) e ∙ sym (cond-true (eqb to who) (mark ∷ []) [] t))
    (λ f. sym (cond-false (eqb to who) (mark ∷ []) [] f))

-- a mail that is nothing to the group leaves no mark, behind whatever was sent
pub marks-push : (name : Draw) (who : ℕ) (mails : List Mail) (mail : Mail) → mark_of name mail.from mail.body ≡ None → marks_for name who (mails ++ mail ∷ []) ≡ marks_for name who mails
marks-push name who [] mail e = cond_both (eqb mail.to who) (mail ∷ []) [] (λ l. marks_of name l ≡ []) (λ t. ap (λ (o : Option Mark). listed o ++ []) e) (λ f. refl)
marks-push name who (m ∷ mails) mail e =
    let rest = marks-push name who mails mail e in
    by (eqb m.to who) rest
  where
    by : (b : Bool) → marks_for name who (mails ++ mail ∷ []) ≡ marks_for name who mails
        → marks_of name (cond b (m ∷ filter (λ x. eqb x.to who) (mails ++ mail ∷ [])) (filter (λ x. eqb x.to who) (mails ++ mail ∷ []))) ≡ marks_of name (cond b (m ∷ filter (λ x. eqb x.to who) mails) (filter (λ x. eqb x.to who) mails))
    by true rest = ap (λ l. listed (mark_of name m.from m.body) ++ l) rest
    by false rest = rest

pub same_mark : (name : Draw) (mark : Mark) → cond (same_draw name name) (Some mark) None ≡ Some mark
same_mark name mark = cond-true (same_draw name name) (Some mark) None (same_name name name refl)

turned : (a b : ℕ) → eqb a b ≡ eqb b a
turned a b = elim (cases_eq a b) [ inl e ↦ eq-eqb a b e ∙ sym (eq-eqb b a (sym e)) | inr ne ↦ ne_eqb a b ne ∙ sym (ne_eqb b a (λ e. ne (sym e))) ]

and_true : (b : Bool) → (b && true) ≡ b
and_true true = refl
and_true false = refl

and_false : (b : Bool) → (b && false) ≡ false
and_false true = refl
and_false false = refl

-- ---- one that hears of a ballot and does not stop

-- what holds whichever ballot is the greatest that it saw
pub saw_either : (P : Place → Type 0) (ballot : Ballot) (r : ReplicaState) (mails : List Mail) → GoesOn ballot r → P (record r { top = ballot }, mails) → P (r, mails) → P (saw ballot (r, mails))
unfolding saw
saw_either P ballot r mails goes p q = by (below r.top ballot)
  where
    stays : (seen : ReplicaState) → (cond {A = Place} (r.running && below r.leader.ballot ballot) (stopped (Some ballot.node) (seen, mails)) (seen, mails)) ≡ (seen, mails)
    stays seen = ap (λ b. cond {A = Place} b (stopped (Some ballot.node) (seen, mails)) (seen, mails)) goes

    by : (b : Bool) → P (cond {A = Place} (r.running && below r.leader.ballot ballot) (stopped (Some ballot.node) (cond b (record r { top = ballot }) r, mails)) (cond b (record r { top = ballot }) r, mails))
    by true = subst P (sym (stays (record r { top = ballot }))) p
    by false = subst P (sym (stays r)) q

-- a property holds after `hinted`, if it holds with the old hint and with the ballot's node as hint
hinted_either : (P : ReplicaState → Type 0) (ballot : Ballot) (r : ReplicaState) → P r → P (record r { hint = Some ballot.node }) → P (hinted ballot r)
hinted_either P ballot r p q = by r.running
  where
    by : (b : Bool) → P (cond b r (record r { hint = Some ballot.node }))
    by true = p
    by false = q

-- ---- Accept

took_steps : (ballot : Ballot) (slot : ℕ) (command : Command) (r : ReplicaState) → IsInTime (Asks ballot slot) r → r.acceptor.floor < next r → StepsBy (Asks ballot slot) r (took ballot.node (record { slot = slot; ballot = ballot; value = command }) (r, []))
unfolding took
took_steps ballot slot command r fit low =
    let at = fit.1 in
    subst (λ b. StepsBy (Asks ballot slot) r (cond {A = Place} b (install_to ballot.node (r, [])) (accepted_to ballot.node ballot slot (accepted_by report r.acceptor) (r, [])))) (sym (lt-leb slot r.acceptor.floor (omega (arith, at, low))))
    (subst (λ b. StepsBy (Asks ballot slot) r (accepted_to ballot.node ballot slot (cond (not b) (Asked.Accepted, after_accept report r.acceptor) (Asked.Ignored r.acceptor.promised, r.acceptor)) (r, []))) (sym may)
    (hinted_either (λ q. StepsBy (Asks ballot slot) r (q, sent r.me ballot.node (Accepted (name_of r) ballot slot) [])) ballot (record r { acceptor = after_accept report r.acceptor }) (after r.hint) (after (Some ballot.node))))
  where
    report : Report Command
    report = record { slot = slot; ballot = ballot; value = command }

    may : below ballot r.acceptor.promised ≡ false
    may = subst (λ b. below ballot b ≡ false) fit.2 (at_least_itself ballot)

    votes : (who : ℕ) → marks_for (name_of r) who (sent r.me ballot.node (Accepted (name_of r) ballot slot) []) ≡ answered r.me r.acceptor.promised (Asks ballot slot) who
    votes who =
        marks-one (name_of r) who r.me ballot.node (Accepted (name_of r) ballot slot) (Votes r.me ballot slot) (same_mark (name_of r) (Votes r.me ballot slot))
        ∙ ap (λ b. cond b (Votes r.me ballot slot ∷ []) []) (turned ballot.node who)

    after : (hint : Option ℕ) → StepsBy (Asks ballot slot) r (record r { acceptor = after_accept report r.acceptor; hint = hint }, sent r.me ballot.node (Accepted (name_of r) ballot slot) [])
    after hint = record { reaches = refl; promises = fit.2; runs = refl; leads = λ _. (refl, refl); answers = votes; low = λ l. l }

pub accept_steps : (ballot : Ballot) (slot : ℕ) (command : Command) (r : ReplicaState) → IsInTime (Asks ballot slot) r → GoesOn ballot r → r.acceptor.floor < next r → StepsBy (Asks ballot slot) r (accept_row ballot.node ballot slot command (r, []))
unfolding accept_row
accept_steps ballot slot command r fit goes low =
    saw_either (λ p. StepsBy (Asks ballot slot) r (took ballot.node (record { slot = slot; ballot = ballot; value = command }) p)) ballot r [] goes
    (same (took_steps ballot slot command (record r { top = ballot }) fit low)) (took_steps ballot slot command r fit low)
  where
    same : {place : Place} → StepsBy (Asks ballot slot) (record r { top = ballot }) place → StepsBy (Asks ballot slot) r place
    same s = record { reaches = s.reaches; promises = s.promises; runs = s.runs; leads = s.leads; answers = s.answers; low = s.low }

-- ---- Prepare

promised_steps : (ballot : Ballot) (from_slot : ℕ) (r : ReplicaState) → IsInTime (Prepares ballot) r → r.acceptor.floor < from_slot → StepsBy (Prepares ballot) r (promised ballot.node ballot from_slot (r, []))
unfolding promised
promised_steps ballot from_slot r fit low =
    subst (λ b. StepsBy (Prepares ballot) r (cond {A = Place} b (install_to ballot.node (r, [])) (promise_to ballot.node ballot (prepared ballot from_slot r.acceptor) (r, [])))) (sym (lt-leb from_slot r.acceptor.floor low))
    (by (below r.acceptor.promised ballot) refl)
  where
    reports : List (Report Command)
    reports = reports_from from_slot r.acceptor.accepted

    promises_it : (who : ℕ) → below r.acceptor.promised ballot ≡ true → marks_for (name_of r) who (sent r.me ballot.node (Promise (name_of r) ballot reports) []) ≡ answered r.me r.acceptor.promised (Prepares ballot) who
    promises_it who up =
        marks-one (name_of r) who r.me ballot.node (Promise (name_of r) ballot reports) (Promises r.me ballot) (same_mark (name_of r) (Promises r.me ballot))
        ∙ (ap (λ b. cond b (Promises r.me ballot ∷ []) []) (turned ballot.node who ∙ sym (and_true (eqb who ballot.node)))
        ∙ ap (λ b. cond (eqb who ballot.node && b) (Promises r.me ballot ∷ []) []) (sym up))

    says_no : (who : ℕ) → below r.acceptor.promised ballot ≡ false → marks_for (name_of r) who (sent r.me ballot.node (Nack (name_of r) r.acceptor.promised) []) ≡ answered r.me r.acceptor.promised (Prepares ballot) who
    says_no who least =
        marks-push (name_of r) who [] (record { from = r.me; to = ballot.node; body = Nack (name_of r) r.acceptor.promised }) refl
        ∙ (ap (λ b. cond b (Promises r.me ballot ∷ []) []) (sym (and_false (eqb who ballot.node))) ∙ ap (λ b. cond (eqb who ballot.node && b) (Promises r.me ballot ∷ []) []) (sym least))

    after : (hint : Option ℕ) → below r.acceptor.promised ballot ≡ true → StepsBy (Prepares ballot) r (record r { acceptor = after_promise ballot r.acceptor; hint = hint }, sent r.me ballot.node (Promise (name_of r) ballot reports) [])
    after hint up = record { reaches = refl; promises = refl; runs = refl; leads = λ _. (refl, refl); answers = λ who. promises_it who up; low = λ l. l }

    by : (b : Bool) → below r.acceptor.promised ballot ≡ b
        → StepsBy (Prepares ballot) r (promise_to ballot.node ballot (cond b (Answers.Promise reports, after_promise ballot r.acceptor) (Answers.Ignored r.acceptor.promised, r.acceptor)) (r, []))
    by true up =
        hinted_either (λ q. StepsBy (Prepares ballot) r (q, sent r.me ballot.node (Promise (name_of r) ballot reports) [])) ballot (record r { acceptor = after_promise ballot r.acceptor }) (after r.hint up) (after (Some ballot.node) up)
    by false least =
        record { reaches = refl; promises = same_from_at_least r.acceptor.promised ballot least fit.1; runs = refl; leads = λ _. (refl, refl); answers = λ who. says_no who least; low = λ l. l }

pub prepare_steps : (ballot : Ballot) (from_slot : ℕ) (r : ReplicaState) → IsInTime (Prepares ballot) r → GoesOn ballot r → r.acceptor.floor < from_slot → StepsBy (Prepares ballot) r (prepare_row ballot.node ballot from_slot (r, []))
unfolding prepare_row
prepare_steps ballot from_slot r fit goes low =
    saw_either (λ p. StepsBy (Prepares ballot) r (promised ballot.node ballot from_slot p)) ballot r [] goes (same (promised_steps ballot from_slot (record r { top = ballot }) fit low)) (promised_steps ballot from_slot r fit low)
  where
    same : {place : Place} → StepsBy (Prepares ballot) (record r { top = ballot }) place → StepsBy (Prepares ballot) r place
    same s = record { reaches = s.reaches; promises = s.promises; runs = s.runs; leads = s.leads; answers = s.answers; low = s.low }

-- ---- Install

pub floor_low : (last : ℕ) → floor_of last ≤ last
floor_low last = omega arith

next_jumped : (slot : ℕ) (base : Base) (sets : List (List ℕ)) (r : ReplicaState) → next (jumped slot base sets r) ≡ suc slot
unfolding jumped forgotten
next_jumped slot base sets r = (let low = floor_low slot in cut_next (floor_of slot) (installed slot) (omega (arith, low)) ∙ omega arith)

-- what a state that is taken over leaves
pub jumped_keeps : (slot : ℕ) (base : Base) (sets : List (List ℕ)) (r : ReplicaState)
    → ((jumped slot base sets r).acceptor.promised ≡ r.acceptor.promised) × ((jumped slot base sets r).running ≡ r.running) × (members (jumped slot base sets r) ≡ base.core.members)
unfolding jumped forgotten
jumped_keeps slot base sets r = (refl, refl, refl)

pub jumped_floor : (slot : ℕ) (base : Base) (sets : List (List ℕ)) (r : ReplicaState) → (jumped slot base sets r).acceptor.floor ≡ max r.acceptor.floor (floor_of slot)
unfolding jumped forgotten
jumped_floor slot base sets r = refl

took_over_steps : (from slot : ℕ) (base : Base) (sets : List (List ℕ)) (r : ReplicaState) → next r ≤ slot → r.running ≡ false → is_member base.core.members from ≡ true → StepsBy (Installs slot) r (took_over from slot base sets (r, []))
unfolding took_over looked_up
took_over_steps from slot base sets r fit off mine =
    subst (λ (p : Place). StepsBy (Installs slot) r (looked_up from (jumped slot base sets p.0, p.1))) (sym (ap (λ b. cond {A = Place} b (stopped (Some from) (r, [])) (r, [])) off))
    (subst (λ b. StepsBy (Installs slot) r (cond {A = Place} b (record (jumped slot base sets r) { hint = Some from }, []) (looked (jumped slot base sets r, [])))) (sym member) after)
  where
    keeps : ((jumped slot base sets r).acceptor.promised ≡ r.acceptor.promised) × ((jumped slot base sets r).running ≡ r.running) × (members (jumped slot base sets r) ≡ base.core.members)
    keeps = jumped_keeps slot base sets r

    member : is_member (members (jumped slot base sets r)) from ≡ true
    member = ap (λ m. is_member m from) keeps.2 ∙ mine

    low : r.acceptor.floor < next r → (jumped slot base sets r).acceptor.floor < next (jumped slot base sets r)
    low l = (let floor = jumped_floor slot base sets r in let reach = next_jumped slot base sets r in let most = floor_low slot in omega (arith, floor, reach, most, l, fit))

    after : StepsBy (Installs slot) r (record (jumped slot base sets r) { hint = Some from }, [])
    after = record { reaches = next_jumped slot base sets r; promises = keeps.0; runs = keeps.1; leads = λ on. absurd (true≢false (sym on ∙ off)); answers = λ who. refl; low = low }

-- a state with as many members' sets, at a slot that is open and not executed, is taken over
pub not_refused : (slot : ℕ) (sets : List (List ℕ)) (r : ReplicaState) → next r ≤ slot → slot ≤ last_slot → length sets ≡ length r.sets → (not (eqb (length sets) (length r.sets)) || (ltb last_slot slot || ltb slot (next r))) ≡ false
not_refused slot sets r fit low sized =
    or_from (not (eqb (length sets) (length r.sets))) (ltb last_slot slot || ltb slot (next r)) (not_from_true (eqb (length sets) (length r.sets)) (eq-eqb (length sets) (length r.sets) sized))
    (or_from (ltb last_slot slot) (ltb slot (next r)) (le-ltb last_slot slot low) (le-ltb slot (next r) fit))

pub install_steps : (from slot : ℕ) (base : Base) (sets : List (List ℕ)) (r : ReplicaState) → IsInTime (Installs slot) r → r.running ≡ false → slot ≤ last_slot → length sets ≡ length r.sets
    → is_member base.core.members from ≡ true → StepsBy (Installs slot) r (install_row from slot base sets (r, []))
unfolding install_row
install_steps from slot base sets r fit off low sized mine =
    subst (λ b. StepsBy (Installs slot) r (cond {A = Place} b (r, []) (took_over from slot base sets (r, [])))) (sym (not_refused slot sets r fit low sized)) (took_over_steps from slot base sets r fit off mine)

-- ---- a replica that is made of a state

next_installed : (me slot : ℕ) (base : Base) (sets : List (List ℕ)) → next (installed_replica me slot base sets) ≡ suc slot
unfolding forgotten
next_installed me slot base sets = (let low = floor_low slot in cut_next (floor_of slot) (installed slot) (omega (arith, low)) ∙ omega arith)

pub made_is : (me from : ℕ) (group : Draw) (slot : ℕ) (base : Base) (sets : List (List ℕ)) → is_member base.core.members from ≡ true
    → made_by me from group slot base sets ≡ (record (installed_replica me slot (named group base) sets) { hint = Some from }, [])
unfolding made_by looked_up forgotten
made_is me from group slot base sets mine =
    cond-true (is_member base.core.members from) (record (installed_replica me slot (named group base) sets) { hint = Some from }, []) (looked (installed_replica me slot (named group base) sets, [])) mine

installed_keeps : (me slot : ℕ) (base : Base) (sets : List (List ℕ)) → ((installed_replica me slot base sets).acceptor.promised ≡ first_ballot base.core) × ((installed_replica me slot base sets).running ≡ false)
unfolding forgotten
installed_keeps me slot base sets = (refl, refl)

floor_is : (me slot : ℕ) (base : Base) (sets : List (List ℕ)) → (installed_replica me slot base sets).acceptor.floor ≡ max 0 (floor_of slot)
unfolding forgotten
floor_is me slot base sets = refl

installed_floor : (me slot : ℕ) (base : Base) (sets : List (List ℕ)) → (installed_replica me slot base sets).acceptor.floor < next (installed_replica me slot base sets)
installed_floor me slot base sets = (let reach = next_installed me slot base sets in let floor = floor_is me slot base sets in let most = floor_low slot in omega (arith, reach, floor, most))

-- A replica that is made of a state that a member sends is where that says, has promised the first ballot, does not run, and sends nothing.
pub states : StatesMake
states = record {
  reaches = λ me from group slot base sets mine. ap (λ (p : Place). next p.0) (made_is me from group slot base sets mine) ∙ next_installed me slot (named group base) sets;
  promises = λ me from group slot base sets mine. ap (λ (p : Place). p.0.acceptor.promised) (made_is me from group slot base sets mine) ∙ (installed_keeps me slot (named group base) sets).0;
  runs = λ me from group slot base sets mine. ap (λ (p : Place). p.0.running) (made_is me from group slot base sets mine) ∙ (installed_keeps me slot (named group base) sets).1;
  low = λ me from group slot base sets mine.
      subst (λ (p : Place). p.0.acceptor.floor < next p.0) (sym (made_is me from group slot base sets mine)) (installed_floor me slot (named group base) sets);
  sends = λ me from group slot base sets mine. ap (λ (p : Place). p.1) (made_is me from group slot base sets mine);
}
