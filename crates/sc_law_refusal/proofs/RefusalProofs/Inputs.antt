-- All inputs of a replica: each answer has its cause, and a replica that runs takes a request.
use Rattle.std.proofs.Common.{◌≡◌, ℕ, ◌+◌, ◌≤◌, nat_lt, eqb, Bool, true, false, List, [], ◌∷◌, Option, Some, None, refl, sym, ap, ◌∙◌, subst, inl, inr, arith, true≢false}
use Rattle.std.proofs.lemmas.Bool.{cond_both, eqb-true}
use Rattle.sc_base.specs.Definitions.{Each, Drawer, client_actor}
use Rattle.sc_node_table.specs.Values.{Ballot, Draw, Input, Got, Op, Command, Call, GiveUp, OrderLine, AnswerBody, Mail, MailBody, Request, Answer, Prepare, Promise, Accept, Accepted, Nack, Learn, Ask, Install, TxPrepare, TxVote, TxOutcome, TxElsewhere, TxWatch, TxWatched, Told}
use Rattle.sc_actor.specs.declared.rows.Input.TheVariants.{Tick, Told as OrderInput}
use Rattle.sc_mail.specs.declared.bodies.AnswerBody.TheVariants as Says
use Rattle.sc_words.proofs.PaxosProofs.PaxosLemmas.{Each-append, Each-from, Each-weaker}
use Rattle.sc_group_table.specs.machine.MachineDefinitions.{applied}
use Rattle.sc_node_table.specs.NodeDefinitions.{same_command, queued_number, ReplicaState, Place, Executed, childless, name_of, next, flying, last_slot, listed, settled, refused_at, queued, requested, request_row, learn_row, mailed, stepped, entered, announced, executed, sent}
use Rattle.sc_node_table.specs.declared.ReplicaInput.{ReplicaInput}
use Rattle.sc_node_table.specs.declared.ReplicaInput.TheVariants as Given
use Rattle.sc_law_walks.proofs.WalkLemmas.{either_way}
use Rattle.sc_law_refusal.specs.refusal.RefusalDefinitions.{IsBroughtBy, HasCauseAtEntry, StepHasCauses, StepsHaveCauses, IsNotLeader, RunningReplicasTakeRequests, at_node, ends_queued, entry_answers, is_answer, taught_by}
use Rattle.sc_law_refusal.proofs.RefusalProofs.Keeping.{Kept, Due}
use Rattle.sc_law_refusal.proofs.RefusalProofs.Locking.{allowed}
use Rattle.sc_law_refusal.proofs.RefusalProofs.Standing.{Caused, CausedBody, AllCaused, none_caused, plain_caused, FineAs, Fine}
use Rattle.sc_law_refusal.proofs.RefusalProofs.Plain.{all_from_answers}
use Rattle.sc_law_refusal.proofs.RefusalProofs.Answering.{IfCall, entries_each}
use Rattle.sc_law_refusal.proofs.RefusalProofs.Executing.{entered_me, learning_fine, executed_fine}
use Rattle.sc_law_refusal.proofs.RefusalProofs.Voting.{prepare_fine, accept_fine, promise_row_fine, accepted_fine, nack_fine, ask_fine}
use Rattle.sc_law_refusal.proofs.RefusalProofs.Rows.{Untaken, TicksOn, refusal_by, queued_so, request_fine, tick_fine, offer_fine, watch_fine, vote_fine, watched_fine, elsewhere_fine, outcome_fine, order_fine}
use Rattle.sc_law_refusal.proofs.RefusalProofs.Steps.{A, G, Shows, each_made, first, shown, still_shown, entered_first, learnt_shown, install_shown}

module _ (r : ReplicaState) (W : Ballot → Draw → ℕ) (Q : Type 0) (numbered : 1 ≤ r.me) (within : Q → r.running ≡ true → r.waits ≤ allowed W r.leader.ballot r.group.core.lock) where
  abbrev S : Input Mail OrderLine → Place → Type 0
  S input place = Shows r input W Q within place

  module _ (mail : Mail) where
    abbrev got : Input Mail OrderLine
    got = Got mail

    abbrev A1 : Command → Type 0
    A1 command = A r got W Q within command

    abbrev G1 : Draw → ℕ → Type 0
    G1 tx count = G r got W Q within tx count

    -- a mail that teaches nothing
    abbrev Taught : MailBody → List Command
    Taught body = listed (taught_by body)

    show : (place : Place) → Taught mail.body ≡ [] → Fine r A1 G1 W Q place → S got place
    show place none f = shown r got W Q within place none f

    numbered_still : (command : Command) → 1 ≤ (entered command r).me
    numbered_still command = let same = entered_me command r in omega (arith, same, numbered)

    begin : FineAs r A1 G1 W Q false true (r, [])
    begin = first r got W Q within true

    -- what was in flight at the slot of a learnt command may go back
    loses : (group : Draw) (slot : ℕ) (command : Command) → Learn group slot command ≡ mail.body → slot ≡ next r → (other : Command) → flying r (next r) ≡ Some other → same_command other command ≡ false → Due A1 G1 other r.acts
    loses group slot command e fact (GiveUp tx) flies apart =
        (ends_queued tx r.acts + 1, omega arith, inr (omega arith, inr (record { mail = mail; brought = refl; group = group; slot = slot; learnt = command; body = sym e; flies = flies; is_next = fact; other = apart })))
    loses group slot command e fact (Call client seq op) flies apart = tt
    loses group slot command e fact _ flies apart = tt

    -- ---- Learn

    -- what is executed as learnt, and what follows it
    taken_shown : (group : Draw) (slot : ℕ) (command : Command) → Learn group slot command ≡ mail.body → slot ≡ next r → S got (executed false command (r, [])).0
    taken_shown group slot command e fact =
        let from : ReplicaState = entered command r in
        let now : FineAs from A1 G1 W Q false false (announced false (applied r.group command).1 command (from, [])) =
        learning_fine from A1 G1 W Q (numbered_still command) (applied r.group command).1 command (from, []) (entered_first r got W Q within command) in
        learnt_shown r got W Q within command (executed false command (r, [])).0 (ap (λ b. taught_by b) e)
        (executed_fine from A1 G1 W Q (numbered_still command) false command r [] (λ other flies counted apart. loses group slot command e fact other flies apart) now)

    -- one that asks for what it lacks
    asking_shown : (group : Draw) (slot : ℕ) (command : Command) → S got (r, sent r.me mail.from (Ask (name_of r) (next r)) [])
    asking_shown group slot command =
        still_shown r got W Q within (sent r.me mail.from (Ask (name_of r) (next r)) [])
        (plain_caused r A1 G1 W Q [] false true r.me mail.from (Ask (name_of r) (next r)) [] tt (none_caused r A1 G1 W Q false true))

    silent_shown : S got (r, [])
    silent_shown = still_shown r got W Q within [] (none_caused r A1 G1 W Q false true)

    abbrev Sees : Executed → Type 0
    Sees step = S got step.0

    learn_shown : (group : Draw) (slot : ℕ) (command : Command) → Learn group slot command ≡ mail.body → S got (learn_row mail.from slot command (r, [])).0
    unfolding learn_row
    learn_shown group slot command e =
        either_way Sees (nat_lt last_slot slot) _ _ silent_shown
        (cond_both (eqb slot (next r)) _ _ Sees (λ fact. taken_shown group slot command e (eqb-true slot (next r) fact))
        (λ _. either_way Sees (nat_lt (next r) slot) (childless (r, sent r.me mail.from (Ask (name_of r) (next r)) [])) (childless (r, [])) (asking_shown group slot command) silent_shown))

    -- ---- all mail

    mailed_shown : (body : MailBody) → body ≡ mail.body → S got (mailed mail.from body (r, [])).0
    unfolding mailed
    mailed_shown (Request group client seq op) e =
        show (request_row client seq op (r, [])) (ap Taught (sym e)) (request_fine r A1 G1 W Q client seq op r [] (inr (subst (λ b. IsBroughtBy b (Call client seq op)) e refl)) begin)
    mailed_shown (Prepare group ballot from_slot) e = show _ (ap Taught (sym e)) (prepare_fine r A1 G1 W Q numbered mail.from ballot from_slot r [] begin)
    mailed_shown (Promise group ballot reports) e =
        show _ (ap Taught (sym e)) (false, promise_row_fine r A1 G1 W Q numbered mail.from ballot reports r [] (each_made r got W Q within (λ report. report.value) reports (λ command among. inr (subst (λ b. IsBroughtBy b command) e among))) begin)
    mailed_shown (Accept group ballot slot command) e = show _ (ap Taught (sym e)) (accept_fine r A1 G1 W Q numbered mail.from ballot slot command r [] begin)
    mailed_shown (Accepted group ballot slot) e = show _ (ap Taught (sym e)) (accepted_fine r A1 G1 W Q numbered mail.from ballot slot r [] (first r got W Q within false))
    mailed_shown (Nack group ballot) e = show _ (ap Taught (sym e)) (nack_fine r A1 G1 W Q numbered ballot r [] begin)
    mailed_shown (Learn group slot command) e = learn_shown group slot command e
    mailed_shown (Ask group from_slot) e = show _ (ap Taught (sym e)) (false, ask_fine r A1 G1 W Q numbered mail.from from_slot r [] begin)
    mailed_shown (Install group slot base sets) e = install_shown r got W Q within mail.from slot base sets (mail, refl, (group, slot, base, sets, sym e))
    mailed_shown (Answer group seq answer) e = show (r, []) (ap Taught (sym e)) (false, begin)
    mailed_shown (TxPrepare tx offer) e = show _ (ap Taught (sym e)) (false, offer_fine r A1 G1 W Q mail.from tx offer r [] begin)
    mailed_shown (TxVote tx coord part vote) e = show _ (ap Taught (sym e)) (false, vote_fine r A1 G1 W Q mail.from tx part vote r [] begin)
    mailed_shown (TxOutcome tx part outcome) e = show _ (ap Taught (sym e)) (false, outcome_fine r A1 G1 W Q tx outcome r [] begin)
    mailed_shown (TxElsewhere tx coord hint) e = show _ (ap Taught (sym e)) (false, elsewhere_fine r A1 G1 W Q mail.from tx hint r [] begin)
    mailed_shown (TxWatch tx watch) e = show _ (ap Taught (sym e)) (false, watch_fine r A1 G1 W Q mail.from tx watch r [] begin)
    mailed_shown (TxWatched tx coord part vote) e = show _ (ap Taught (sym e)) (false, watched_fine r A1 G1 W Q mail.from tx part vote r [] begin)
    mailed_shown (Told order result) e = show (r, []) (ap Taught (sym e)) (false, begin)

  -- a tick is counted where the replica is settled
  abbrev pub Counts : ReplicaInput → Type 0
  Counts input = input ≡ Given.Tick → settled r ≡ true → TicksOn r (A r Tick W Q within) (G r Tick W Q within) W Q r

  pub step_shown : (on : Bool) (drawer : Drawer) (input : ReplicaInput) → Counts input → S (at_node input) (stepped on drawer input (r, [])).0
  unfolding stepped
  step_shown on drawer (Given.Got mail) counts = mailed_shown mail mail.body refl
  step_shown on drawer Given.Tick counts =
      shown r Tick W Q within _ refl (
        false,
        tick_fine r (A r Tick W Q within) (G r Tick W Q within) W Q on drawer r []
            (λ leads tx body order heard lock long none. (ends_queued tx r.acts + 1, omega arith, inr (omega arith, inl (record { tick = refl; leads = leads; body = body; order = order; heard = heard; locked = lock; long = long; none = none })))) (counts refl) (first r Tick W Q within true),
      )
  step_shown on drawer (Given.Told line) counts =
      shown r (OrderInput line) W Q within _ refl (false, order_fine r (A r (OrderInput line) W Q within) (G r (OrderInput line) W Q within) W Q drawer line r [] (first r (OrderInput line) W Q within true))

pub steps_have_causes : StepsHaveCauses
steps_have_causes on drawer r input numbered = (step_shown r (λ ballot tx. 0) ⊥ numbered (λ never. absurd never) on drawer input (λ tick leads never. absurd never)).causes

-- a replica that takes no step has nothing to show
pub still_step : (r : ReplicaState) (input : Input Mail OrderLine) → StepHasCauses r input (r, [])
still_step r input =
    let A1 : Command → Type 0 = A r input (λ ballot tx. 0) ⊥ (λ never. absurd never) in
    (still_shown r input (λ ballot tx. 0) ⊥ (λ never. absurd never) [] (none_caused r A1 (G r input (λ ballot tx. 0) ⊥ (λ never. absurd never)) (λ ballot tx. 0) ⊥ false true)).causes

-- ---- a request

module _ (r : ReplicaState) where
  -- here nothing is asked of the calls
  abbrev Any : Command → Type 0
  Any command = Unit {0}

  abbrev Ever : Draw → ℕ → Type 0
  Ever tx count = Unit {0}

  abbrev Unnamed : Mail → Type 0
  Unnamed mail = IsNotLeader mail.body → ⊥

  abbrev no_ticks : Ballot → Draw → ℕ
  no_ticks ballot tx = 0

  -- what is no answer names no leader
  plain_unnamed : (mail : Mail) → is_answer mail.body ≡ false → Unnamed mail
  plain_unnamed mail none (group, seq, hint, e) = true≢false (ap is_answer (sym e) ∙ none)

  -- nor does an answer to an executed call
  entry_unnamed : (to from : ℕ) (group : Draw) (entries : List Command) (client seq : ℕ) (op : Op) (answer : AnswerBody) → HasCauseAtEntry r.group entries client seq op answer → Unnamed (record { from = from; to = to; body = Answer group seq answer })
  entry_unnamed to from group entries client seq op answer c (g, s, hint, e) =
      let same : answer ≡ Says.NotLeader hint = cc in subst (λ a. HasCauseAtEntry r.group entries client seq op a) same c

  none_named : (entries : List Command) (mail : Mail) → Caused r Any Ever no_ticks ⊥ entries false true mail → Unnamed mail
  none_named entries mail c named = (let caused = subst (CausedBody r Any Ever no_ticks ⊥ entries false true mail.to) named.3 c in let never : false ≡ true = caused.cause in cc)

  sent_unnamed : (entries : List Command) (mails : List Mail) → AllCaused r Any Ever no_ticks ⊥ entries false true mails → Each Unnamed mails
  sent_unnamed entries mails c =
      let first : Each Unnamed (entry_answers r.me (name_of r) r.group entries) =
      entries_each Any r.me (name_of r) r.group Unnamed entries (Each-from (IfCall Any) entries (λ command among client seq op e. tt)) (λ client seq op answer a cause. entry_unnamed (client_actor client) r.me (name_of r) entries client seq op answer cause) in
      let others : Each Unnamed c.others = Each-weaker (Caused r Any Ever no_ticks ⊥ entries false true) Unnamed (λ mail k. none_named entries mail k) c.others c.causes in
      all_from_answers Unnamed plain_unnamed mails (subst (Each Unnamed) (sym c.are) (Each-append Unnamed (entry_answers r.me (name_of r) r.group entries) c.others first others))

  any_kept : (command : Command) → Kept Any Ever command
  any_kept (Call client seq op) = tt
  any_kept _ = tt

  each_any : {X : Type 0} (of : X → Command) (xs : List X) → Each (λ x. Kept Any Ever (of x)) xs
  each_any of [] = tt
  each_any of (x ∷ xs) = (any_kept (of x), each_any of xs)

  begins : FineAs r Any Ever no_ticks ⊥ false true (r, [])
  begins = (
    record {
      backlog = each_any (λ command. command) r.backlog;
      acts = each_any (λ command. command) r.acts;
      due = λ tx. (ends_queued tx r.acts, omega arith, tt);
      flights = each_any (λ flight. flight.value) r.leader.flights;
      ready = each_any (λ counted. counted.1) r.ready;
      reports = each_any (λ report. report.value) r.leader.reports;
    },
    record { entries = []; me_is = refl; name_is = refl; group_is = refl; log_is = refl; out = λ e. cc; patient = λ never. absurd never; sent = none_caused r Any Ever no_ticks ⊥ false true },
  )

  -- what a running replica refuses for is another thing
  not_named : (seq : ℕ) (op : Op) (answer : AnswerBody) (group : Draw) → Untaken r Any Ever no_ticks ⊥ r op answer → r.running ≡ true → IsNotLeader (Answer group seq answer) → ⊥
  not_named seq op answer group u runs (g, s, hint, e) =
      let same : answer ≡ Says.NotLeader hint = cc in
      let idle : r.running ≡ false = subst (Untaken r Any Ever no_ticks ⊥ r op) same u in absurd (true≢false (sym runs ∙ idle))

  taken : (o : Option AnswerBody) (client seq : ℕ) (op : Op) → ((answer : AnswerBody) → o ≡ Some answer → Untaken r Any Ever no_ticks ⊥ r op answer) → r.running ≡ true → Each Unnamed (requested o client seq op (r, [])).1
  unfolding requested
  taken (Some answer) client seq op u runs = (not_named seq op answer (name_of r) (u answer refl) runs, tt)
  taken None client seq op u runs =
      let f = queued_so r Any Ever no_ticks ⊥ (queued_number r.backlog client) client seq op r [] tt begins in
      sent_unnamed f.1.entries (queued (queued_number r.backlog client) client seq op (r, [])).1 f.1.sent

pub requests_are_taken : RunningReplicasTakeRequests
unfolding stepped mailed request_row
requests_are_taken on drawer r from to group client seq op runs =
    taken r (refused_at r.group.core.gone op r) client seq op (λ answer e. refusal_by r (Any r) (Ever r) (no_ticks r) ⊥ r.group.core.gone r op answer refl e) runs
