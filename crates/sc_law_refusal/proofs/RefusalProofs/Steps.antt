-- What a step shows, and a state that is taken over: each answer has its cause.
use Rattle.std.proofs.Common.{◌≡◌, ◌<◌, ℕ, ◌+◌, ◌-◌, ◌≤◌, ◌^◌, ◌⊎◌, ◌||◌, not, nat_lt, eqb, Bool, true, false, List, [], ◌∷◌, ◌++◌, length, map, Option, Some, None, refl, sym, ap, ◌∙◌, subst, inl, inr, arith, true≢false}
use Rattle.std.proofs.lemmas.Bool.{cond_both}
use Rattle.sc_base.specs.Definitions.{Among, Each, is_member, least_of}
use Rattle.sc_node_table.specs.Values.{Ballot, Draw, Input, Op, Command, Call, Base, Route, OrderLine, AnswerBody, Mail, MailBody, Prepare}
use Rattle.sc_mail.specs.declared.bodies.AnswerBody.TheVariants as Says
use Rattle.sc_words.proofs.PaxosProofs.PaxosLemmas.{Each-weaker}
use Rattle.sc_group_table.specs.machine.MachineDefinitions.{Group, state_after, applied}
use Rattle.sc_words.specs.paxos.PaxosDefinitions.{LogState}
use Rattle.sc_node_table.specs.NodeDefinitions.{open_nodes, elected, ended, stopped, entered, is_among, looked_for, looked, jumped, ReplicaState, Place, name_of, next, listed, members, last_slot, forgotten, looked_up, took_over, install_row}
use Rattle.sc_law_walks.proofs.WalkLemmas.{either_way}
use Rattle.sc_law_refusal.specs.refusal.RefusalDefinitions.{IsHeldOrBrought, LeadsNoMore, HasCauseAtEntry, HasCauseAfter, AnswersCall, AnswersInTurn, IfAnswer, LacksKey, MayGiveUp, IsTakenOver, StepHasCauses, ends_queued, entry_answers, log_with, log_after, taught}
use Rattle.sc_law_refusal.proofs.RefusalProofs.Keeping.{Kept, DueAll, Holds}
use Rattle.sc_law_refusal.proofs.RefusalProofs.Answering.{IfCall, entries_each}
use Rattle.sc_law_refusal.proofs.RefusalProofs.Executing.{entered_me, entered_name}
use Rattle.sc_law_refusal.proofs.RefusalProofs.Locking.{allowed, entry_turns, still_allowed}
use Rattle.sc_law_refusal.proofs.RefusalProofs.Plain.{answer_weaker, all_plain}
use Rattle.sc_law_refusal.proofs.RefusalProofs.Standing.{CauseSo, Caused, CausedAnswer, CausedBody, AllCaused, none_caused, plain_caused, FineAs, Fine}
use Rattle.sc_law_refusal.proofs.RefusalProofs.Stopping.{ended_fine, stopped_fine}

module _ (start : ReplicaState) (input : Input Mail OrderLine) (W : Ballot → Draw → ℕ) (Q : Type 0) (within : Q → start.running ≡ true → start.waits ≤ allowed W start.leader.ballot start.group.core.lock) where
  abbrev pub A : Command → Type 0
  A command = IsHeldOrBrought start input command

  abbrev pub G : Draw → ℕ → Type 0
  G tx count = MayGiveUp start.waits start input tx count

  abbrev F : Bool → Bool → Place → Type 0
  F refused turned place = FineAs start A G W Q refused turned place

  abbrev After : Place → Type 0
  After place = Fine start A G W Q place

  -- ---- what is asked is kept

  kept_asked : (command : Command) → A command → Kept A G command
  kept_asked (Call client seq op) a = a
  kept_asked _ a = tt

  each_kept : (commands : List Command) → ((command : Command) → Among command commands → A command) → Each (Kept A G) commands
  each_kept [] f = tt
  each_kept (command ∷ commands) f = (kept_asked command (f command (inl refl)), each_kept commands (λ other among. f other (inr among)))

  pub each_made : {X : Type 0} (of : X → Command) (xs : List X) → ((command : Command) → Among command (map of xs) → A command) → Each (λ x. Kept A G (of x)) xs
  each_made of [] f = tt
  each_made of (x ∷ xs) f = (kept_asked (of x) (f (of x) (inl refl)), each_made of xs (λ other among. f other (inr among)))

  -- what is queued may be
  fewer_may : (tx : Draw) (fewer count : ℕ) → fewer ≤ count → G tx count → G tx fewer
  fewer_may tx fewer count few (inl most) = inl (omega (arith, few, most))
  fewer_may tx fewer count few (inr more) = let most = more.0 in inr (omega (arith, few, most), more.1)

  may : (acts : List Command) → DueAll A G acts → (tx : Draw) → G tx (ends_queued tx acts)
  may acts d tx = let p = d tx in fewer_may tx (ends_queued tx acts) p.0 p.1 p.2

  held : Holds A G start
  held = record {
    backlog = each_kept start.backlog (λ command among. inl (inl among));
    acts = each_kept start.acts (λ command among. inl (inr (inl among)));
    due = λ tx. (ends_queued tx start.acts, omega arith, inl (omega arith));
    flights = each_made (λ flight. flight.value) start.leader.flights (λ command among. inl (inr (inr (inl among))));
    ready = each_made (λ counted. counted.1) start.ready (λ command among. inl (inr (inr (inr (inl among)))));
    reports = each_made (λ report. report.value) start.leader.reports (λ command among. inl (inr (inr (inr (inr among)))));
  }

  -- where a step begins
  pub first : (turned : Bool) → F false turned (start, [])
  first turned = (held, record { entries = []; me_is = refl; name_is = refl; group_is = refl; log_is = refl; out = λ e. cc; patient = within; sent = none_caused start A G W Q false turned })

  -- ---- what a step shows

  -- a kept call was asked
  kept_call : (command : Command) → Kept A G command → IfCall A command
  kept_call command k client seq op e = subst (Kept A G) e k

  -- the answers of one that began as another, in the name and number of both
  module _ (from after : ReplicaState) (entries : List Command) (refused : Bool) (me : from.me ≡ start.me) (name : name_of from ≡ name_of start) (out : refused ≡ true → LeadsNoMore start input after) (fact : after.group ≡ state_after from.group entries) where
    cause_of : (op : Op) (answer : AnswerBody) → CauseSo from A G W Q entries refused true op answer → HasCauseAfter start input after op answer
    cause_of op (Says.Value reply) c = c
    cause_of op (Says.NotLeader hint) c = out c
    cause_of op (Says.NotMine arc succ) c = subst (λ g. LacksKey g op (Says.NotMine arc succ)) (sym fact) c.1
    cause_of op (Says.Gone into) c = subst (λ g. LacksKey g op (Says.Gone into)) (sym fact) c.1
    cause_of op (Says.Stale last) c = c

    abbrev After1 : ℕ → Draw → ℕ → AnswerBody → Type 0
    After1 to group seq answer = AnswersCall start input (λ client seq op says. HasCauseAfter start input after op says) to group seq answer

    answer_of : (to : ℕ) (group : Draw) (seq : ℕ) (answer : AnswerBody) → CausedAnswer from A G W Q entries refused true to group seq answer → After1 to group seq answer
    answer_of to group seq answer c = record { own = c.own ∙ name; client = c.client; op = c.op; receiver = c.receiver; was_asked = c.was_asked; cause = cause_of c.op answer c.cause }

    body_of : (to : ℕ) (body : MailBody) → CausedBody from A G W Q entries refused true to body → IfAnswer (λ group seq answer. After1 to group seq answer) body
    body_of to body c = answer_weaker (λ group seq answer. CausedAnswer from A G W Q entries refused true to group seq answer) (λ group seq answer. After1 to group seq answer) (λ group seq answer k. answer_of to group seq answer k) body c

    -- a call that was executed was asked, and has its cause at its entry
    abbrev AtEntry : Mail → Type 0
    AtEntry mail = IfAnswer (λ group seq answer. AnswersCall start input (HasCauseAtEntry from.group entries) mail.to group seq answer) mail.body

    entries_so : Each (Kept A G) entries → Each AtEntry (entry_answers start.me (name_of start) from.group entries)
    entries_so asked =
        entries_each A start.me (name_of start) from.group AtEntry entries (Each-weaker (Kept A G) (IfCall A) (λ command k. kept_call command k) entries asked)
        (λ client seq op answer a cause. record { own = refl; client = client; op = op; receiver = refl; was_asked = a; cause = cause })

    in_turn : (mails : List Mail) → AllCaused from A G W Q entries refused true mails → AnswersInTurn start input after from.group entries mails
    in_turn mails s =
        record {
          others = s.others;
          are = s.are ∙ ap (λ (n : ℕ). entry_answers n (name_of from) from.group entries ++ s.others) me ∙ ap (λ (n : Draw). entry_answers start.me n from.group entries ++ s.others) name;
          at_entries = entries_so s.asked;
          afterwards = Each-weaker (Caused from A G W Q entries refused true) (λ (mail : Mail). IfAnswer (λ group seq answer. After1 mail.to group seq answer) mail.body) (λ mail m. body_of mail.to mail.body m) s.others s.causes;
        }

  -- a step, and what the replica keeps of itself
  pub record Shows (place : Place) : Type 0 where
    pub causes : StepHasCauses start input place
    pub me_is : place.0.me ≡ start.me
    pub name_is : name_of place.0 ≡ name_of start
    pub patient : Q → place.0.running ≡ true → place.0.waits ≤ allowed W place.0.leader.ballot place.0.group.core.lock

  -- an input that teaches nothing
  pub shown : (place : Place) → listed (taught input) ≡ [] → After place → Shows place
  shown (after, mails) none (refused, f) = record {
    causes = record {
      learnt = [];
      counted = f.1.entries;
      learns = inl (sym none);
      executed = inl (record { group = f.1.group_is; log = f.1.log_is });
      answers = in_turn start after f.1.entries refused refl refl (λ e. inl (f.1.out e)) f.1.group_is mails f.1.sent;
      acts = may after.acts f.0.due;
    };
    me_is = f.1.me_is;
    name_is = f.1.name_is;
    patient = f.1.patient;
  }

  -- where nothing is executed, and nothing changes but for mails
  pub still_shown : (mails : List Mail) → AllCaused start A G W Q [] false true mails → Shows (start, mails)
  still_shown mails c = record {
    causes = record {
      learnt = [];
      counted = [];
      learns = inr (refl, refl);
      executed = inl (record { group = refl; log = refl });
      answers = in_turn start start [] false refl refl (λ e. cc) refl mails c;
      acts = λ tx. inl (omega arith);
    };
    me_is = refl;
    name_is = refl;
    patient = within;
  }

  -- ---- an entry that is learnt: what follows it is the step of one that has executed it

  entered_group : (command : Command) → (entered command start).group ≡ (applied start.group command).0
  unfolding entered forgotten
  entered_group command = refl

  entered_log : (command : Command) → (entered command start).log ≡ log_with start.log command
  unfolding entered forgotten
  entered_log command = refl

  pub entered_first : (command : Command) → FineAs (entered command start) A G W Q false false (entered command start, [])
  unfolding entered forgotten
  entered_first command = (
    record { backlog = held.backlog; acts = held.acts; due = held.due; flights = held.flights; ready = held.ready; reports = held.reports },
    record {
      entries = [];
      me_is = refl;
      name_is = refl;
      group_is = refl;
      log_is = refl;
      out = λ e. cc;
      patient = λ q runs. still_allowed W start.leader.ballot start.group.core.lock (applied start.group command).0.core.lock start.waits (entry_turns start.group command).lock (within q runs);
      sent = none_caused (entered command start) A G W Q false false;
    },
  )

  pub learnt_shown : (command : Command) (place : Place) → Some command ≡ taught input → Fine (entered command start) A G W Q place → Shows place
  learnt_shown command (after, mails) taught_so (refused, f) =
      let from : ReplicaState = entered command start in
      let group : from.group ≡ (applied start.group command).0 = entered_group command in
      let log : from.log ≡ log_with start.log command = entered_log command in
      let turn : AnswersInTurn start input after from.group f.1.entries mails = in_turn from after f.1.entries refused (entered_me command start) (entered_name command start) (λ e. inl (f.1.out e)) f.1.group_is mails f.1.sent in
      record {
        causes = record {
          learnt = command ∷ [];
          counted = f.1.entries;
          learns = inl (ap listed taught_so);
          executed = inl (record { group = f.1.group_is ∙ ap (λ (g : Group). state_after g f.1.entries) group; log = f.1.log_is ∙ ap (λ (l : LogState Command). log_after l f.1.entries) log });
          answers = subst (λ (g : Group). AnswersInTurn start input after g f.1.entries mails) group turn;
          acts = may after.acts f.0.due;
        };
        me_is = f.1.me_is ∙ entered_me command start;
        name_is = f.1.name_is ∙ entered_name command start;
        patient = f.1.patient;
      }

  -- ---- a state that is taken over

  -- what one that stops answers
  stopped_sent : (from : ℕ) → AllCaused start A G W Q [] true false (stopped (Some from) (start, [])).1
  unfolding ended stopped_fine ended_fine first
  stopped_sent from =
      let f : F true false (stopped (Some from) (start, [])) = stopped_fine start A G W Q false false (Some from) start [] (first false) in f.1.sent

  module _ (refused : Bool) where
    -- what was answered before a leader is looked for
    abbrev Saying : List Mail → Type 0
    Saying mails = AllCaused start A G W Q [] refused false mails

    -- where a leader is looked for, or one is elected: what waits stays, and nothing is answered
    record IsLooked (r : ReplicaState) (place : Place) : Type 0 where
      me : place.0.me ≡ r.me
      name : name_of place.0 ≡ name_of r
      acts : place.0.acts ≡ r.acts
      backlog : place.0.backlog ≡ r.backlog
      waits : place.0.running ≡ true → place.0.waits ≡ 0
      out : (place.0.running ≡ false) ⊎ (start.top.round < place.0.leader.ballot.round)
      sent : Saying place.1

    hinted_looked : (r : ReplicaState) (hint : Option ℕ) (place : Place) → IsLooked (record r { hint = hint }) place → IsLooked r place
    hinted_looked r hint place fact = record { me = fact.me; name = fact.name; acts = fact.acts; backlog = fact.backlog; waits = fact.waits; out = fact.out; sent = fact.sent }

    idle_looked : (r : ReplicaState) (mails : List Mail) → r.running ≡ false → Saying mails → IsLooked r (r, mails)
    idle_looked r mails idle c = record { me = refl; name = refl; acts = refl; backlog = refl; waits = λ runs. absurd (true≢false (sym runs ∙ idle)); out = inl idle; sent = c }

    elected_looked : (r : ReplicaState) (mails : List Mail) → r.running ≡ false → start.top.round ≤ r.top.round → Saying mails → IsLooked r (elected (r, mails))
    unfolding elected
    elected_looked r mails idle low c =
        either_way (IsLooked r) (eqb r.top.round (2 ^ 32 - 1)) (r, mails) _ (idle_looked r mails idle c) (record {
          me = refl;
          name = refl;
          acts = refl;
          backlog = refl;
          waits = λ runs. refl;
          out = inr (omega (arith, low));
          sent = all_plain (AllCaused start A G W Q [] refused false) (plain_caused start A G W Q [] refused false) r.me (open_nodes r.sets) (Prepare (name_of r) (record { round = r.top.round + 1; node = r.me }) (next r)) mails tt c;
        })

    for_looked : (gone : Option Route) (r : ReplicaState) (mails : List Mail) → r.running ≡ false → start.top.round ≤ r.top.round → Saying mails → IsLooked r (looked_for gone (r, mails))
    for_looked (Some into) r mails idle low c = idle_looked r mails idle c
    for_looked None r mails idle low c =
        either_way (IsLooked r) (is_among (members r) r.hint) (r, mails) _ (idle_looked r mails idle c)
        (either_way (IsLooked r) (eqb (least_of (members r)) r.me) (elected (record r { hint = Some r.me }, mails)) (record r { hint = Some (least_of (members r)) }, mails)
        (hinted_looked r (Some r.me) (elected (record r { hint = Some r.me }, mails)) (elected_looked (record r { hint = Some r.me }) mails idle low c))
        (hinted_looked r (Some (least_of (members r))) (record r { hint = Some (least_of (members r)) }, mails) (idle_looked (record r { hint = Some (least_of (members r)) }) mails idle c)))

    look : (r : ReplicaState) (mails : List Mail) → r.running ≡ false → start.top.round ≤ r.top.round → Saying mails → IsLooked r (looked (r, mails))
    unfolding looked
    look r mails idle low c =
        cond_both r.running (r, mails) (looked_for r.group.core.gone (r, mails)) (IsLooked r) (λ e. idle_looked r mails idle c) (λ _. for_looked r.group.core.gone r mails idle low c)

    look_up : (from : ℕ) (r : ReplicaState) (mails : List Mail) → r.running ≡ false → start.top.round ≤ r.top.round → Saying mails → IsLooked r (looked_up from (r, mails))
    unfolding looked_up
    look_up from r mails idle low c =
        either_way (IsLooked r) (is_member (members r) from) (record r { hint = Some from }, mails) (looked (r, mails))
        (hinted_looked r (Some from) (record r { hint = Some from }, mails) (idle_looked (record r { hint = Some from }) mails idle c)) (look r mails idle low c)

    -- what was answered by one that leads no more
    module _ (after : ReplicaState) (out : refused ≡ true → LeadsNoMore start input after) where
      abbrev AnswersAfterStep : ℕ → Draw → ℕ → AnswerBody → Type 0
      AnswersAfterStep to group seq answer = AnswersCall start input (λ client seq op says. HasCauseAfter start input after op says) to group seq answer

      told_cause : (op : Op) (answer : AnswerBody) → CauseSo start A G W Q [] refused false op answer → HasCauseAfter start input after op answer
      told_cause op (Says.Value reply) k = k
      told_cause op (Says.NotLeader hint) k = out k
      told_cause op (Says.NotMine arc succ) k = absurd (true≢false (sym k.0))
      told_cause op (Says.Gone into) k = absurd (true≢false (sym k.0))
      told_cause op (Says.Stale last) k = k

      told_body : (to : ℕ) (body : MailBody) → CausedBody start A G W Q [] refused false to body → IfAnswer (λ group seq answer. AnswersAfterStep to group seq answer) body
      told_body to body k =
          answer_weaker (λ group seq answer. CausedAnswer start A G W Q [] refused false to group seq answer) (λ group seq answer. AnswersAfterStep to group seq answer)
          (λ group seq answer a. record { own = a.own; client = a.client; op = a.op; receiver = a.receiver; was_asked = a.was_asked; cause = told_cause a.op answer a.cause }) body k

      told_mails : (mails : List Mail) → Saying mails → AnswersInTurn start input after start.group [] mails
      told_mails mails c = record {
        others = c.others;
        are = c.are;
        at_entries = tt;
        afterwards = Each-weaker (Caused start A G W Q [] refused false) (λ (mail : Mail). IfAnswer (λ group seq answer. AnswersAfterStep mail.to group seq answer) mail.body) (λ mail m. told_body mail.to mail.body m) c.others c.causes;
      }

    -- what a replica is before it takes a state over: one that ran has stopped
    record HasStopped (before : ReplicaState) (mails : List Mail) : Type 0 where
      me : before.me ≡ start.me
      name : name_of before ≡ name_of start
      idle : before.running ≡ false
      low : start.top.round ≤ before.top.round
      acts : (before.acts ≡ []) ⊎ (before.acts ≡ start.acts)
      told : refused ≡ true → (start.running ≡ true) × (before.backlog ≡ [])
      sent : Saying mails

    kept_act : {acts : List Command} → (acts ≡ []) ⊎ (acts ≡ start.acts) → (tx : Draw) → G tx (ends_queued tx acts)
    kept_act (inl none) tx = subst (λ acts. G tx (ends_queued tx acts)) (sym none) (inl (omega arith))
    kept_act (inr same) tx = subst (λ acts. G tx (ends_queued tx acts)) (sym same) (inl (omega arith))

    why_stopped : (before : ReplicaState) (place : Place) → IsTakenOver input → IsLooked before place → (start.running ≡ true) × (before.backlog ≡ []) → LeadsNoMore start input place.0
    why_stopped before place over fact ran = elim fact.out [ inl idle ↦ inl idle | inr anew ↦ inr (record { ran = ran.0; over = over; empty = fact.backlog ∙ ran.1; anew = anew }) ]

    -- it takes the state over
    taken_by : (from slot : ℕ) (base : Base) (sets : List (List ℕ)) (before : ReplicaState) (mails : List Mail) → HasStopped before mails → IsTakenOver input → Shows (looked_up from (jumped slot base sets before, mails))
    unfolding jumped forgotten
    taken_by from slot base sets before mails h over =
        let jump : ReplicaState = jumped slot base sets before in
        let place : Place = looked_up from (jump, mails) in
        let fact : IsLooked jump place = look_up from jump mails h.idle h.low h.sent in
        record {
          causes = record {
            learnt = [];
            counted = [];
            learns = inr (refl, refl);
            executed = inr (refl, refl, over);
            answers = told_mails place.0 (λ e. why_stopped jump place over fact (h.told e)) place.1 fact.sent;
            acts = λ tx. subst (λ acts. G tx (ends_queued tx acts)) (sym fact.acts) (kept_act h.acts tx);
          };
          me_is = fact.me ∙ h.me;
          name_is = fact.name ∙ h.name;
          patient = λ q runs. (let none = fact.waits runs in omega (arith, none));
        }

  -- it takes the state over, where it ran and where it did not
  taken_over : (from slot : ℕ) (base : Base) (sets : List (List ℕ)) → IsTakenOver input → Shows (took_over from slot base sets (start, []))
  unfolding took_over ended
  taken_over from slot base sets over =
      cond_both start.running (stopped (Some from) (start, [])) (start, []) (λ (place1 : Place). Shows (looked_up from (jumped slot base sets place1.0, place1.1)))
      (λ ran. (
      let place : Place = stopped (Some from) (start, []) in
      let sent = stopped_sent from in
      taken_by true from slot base sets place.0 place.1 (record { me = refl; name = refl; idle = refl; low = omega arith; acts = inl refl; told = λ _. (ran, refl); sent = sent }) over))
      (λ idle. taken_by false from slot base sets start [] (record { me = refl; name = refl; idle = idle; low = omega arith; acts = inr refl; told = λ e. cc; sent = none_caused start A G W Q false false }) over)

  pub install_shown : (from slot : ℕ) (base : Base) (sets : List (List ℕ)) → IsTakenOver input → Shows (install_row from slot base sets (start, []))
  unfolding install_row
  install_shown from slot base sets over =
      either_way Shows (not (eqb (length sets) (length start.sets)) || (nat_lt last_slot slot || nat_lt slot (next start))) (start, []) (took_over from slot base sets (start, [])) (still_shown [] (none_caused start A G W Q false true))
      (taken_over from slot base sets over)
