-- An entry: the command of the next slot, which is chosen there, lengthens the log, and all that is told of it is so.
use Rattle.std.proofs.Common.{◌≡◌, ℕ, ◌+◌, ◌<◌, nat_lt, Bool, true, eqb, List, [], ◌∷◌, ◌++◌, length, Option, Some, None, ◌⊎◌, inl, inr, refl, sym, ◌∙◌, subst, arith}
use Rattle.std.proofs.lemmas.Bool.{cases_Bool, eqb-true, eqb-false, cond_both}
use Rattle.sc_base.specs.Definitions.{client_actor, is_member, Each}
use Rattle.sc_node_table.specs.Values.{Op, Reply, Command, Noop, Call, Join, Leave, Split, Begin, Base, Effect, AnswerBody, Mail, MailBody, Answer, OrderResult, Flight}
use Rattle.sc_words.specs.declared.commands.effects.Effect.TheVariants as Was
use Rattle.sc_mail.specs.declared.bodies.AnswerBody.TheVariants as Says
use Rattle.sc_group_table.specs.machine.MachineDefinitions.{Group, applied, child_by, state_after}
use Rattle.sc_words.specs.paxos.PaxosDefinitions.{flight_at, without_flight_at}
use Rattle.sc_words.proofs.PaxosProofs.PaxosLemmas.{Each-among, find_found}
use Rattle.sc_paxos_law.specs.PaxosLawDefinitions.{IsChosenAfter, IsLog}
use Rattle.sc_paxos_law.proofs.Lemmas.{earlier, later_logs}
use Rattle.sc_node_table.specs.NodeDefinitions.{without_slot, ReplicaState, Place, name_of, next, flying, answer_to, queued_number, without_request, request_before, put_back, entered, answer_of, order_number, before_of, begun_result, spoken_number, result_reported, begun_reported, went_on, spoken_mails}
use Rattle.sc_law_entries.specs.history.HistoryDefinitions.{IsReplied}
use Rattle.sc_meaning.specs.sound.SoundDefinitions.{Ahead}
use Rattle.sc_law_groups.proofs.GroupProofs.Growth.{IsLearnt, by_own_log, grown_learnt, learnt_offered}
use Rattle.sc_law_groups.proofs.GroupProofs.Invariant.{Steps, rule, first, birth, IsTaken, IsReplica, next_after, IsReplyAt, IsTrueAnswer}
use Rattle.sc_law_groups.proofs.GroupProofs.Speech.{AreSaid, Speaks}
use Rattle.sc_law_groups.proofs.GroupProofs.Midway.{Fine, turn, says}
use Rattle.sc_law_groups.proofs.GroupProofs.Putting.{puts_went_on}
use Rattle.sc_law_groups.proofs.GroupProofs.Saying.{log_before, says_all}
use Rattle.sc_law_groups.proofs.GroupProofs.Sending.{name_is, learnt_one, prepared_one, state_sent, told_one}
use Rattle.sc_law_groups.proofs.GroupProofs.WithoutOne.{Each-without_flight, among_without_flight, Each-without_slot, among_without_slot, Each-without_request, flying_found}
use Rattle.sc_law_groups.proofs.GroupProofs.Offering.{with_queues}
use Rattle.sc_law_groups.proofs.GroupProofs.Entering.{entered_has, entered_replica, entered_next, entered_runs}
use Rattle.sc_law_walks.proofs.WalkLemmas.{IsOwnChild, TableEntry, entry_holds, entered_place, cleared, entered_group, back_any}

-- the child of a prefix of the log at a node: the log begins so, and the command that comes next makes it
pub record IsChildOf (ahead : Ahead) (base : Base) (made : Command → Type 0) (me : ℕ) (h : Steps) (child : Base) : Type 0 where
  pub prefix : List Command
  pub command : Command
  pub is_log : IsLog (rule ahead base) h (prefix ++ command ∷ [])
  pub all_made : Each made prefix
  pub is_made : made command
  pub child_is : child_by (state_after (birth ahead base) prefix) command ≡ Some child
  pub member : is_member child.core.members me ≡ true

module _ (ahead : Ahead) (base : Base) (made : Command → Type 0) (heard : MailBody → Type 0) (me : ℕ) (older : List Mail) (before : Steps) (speaks : Speaks ahead base made heard before)
    (some : (log : List Command) → Each made log → (node : ℕ) × (rest : List ℕ) × ((rule ahead base).members log ≡ node ∷ rest)) where
  abbrev Ok : Place → Type 0
  Ok = Fine ahead base made heard me older before

  abbrev Replica : Steps → ReplicaState → Type 0
  Replica h r = IsReplica ahead base made h me r

  -- ---- a command goes back

  before_calls : (o : Option ℕ) (client seq : ℕ) (c : Command) (backlog : List Command) → made c → Each made backlog → Each made (request_before o client seq c backlog)
  before_calls None client seq c backlog m e = (m, e)
  before_calls (Some other) client seq c backlog m e = cond_both (nat_lt other seq) (c ∷ without_request backlog client) backlog (Each made) (λ _. (m, Each-without_request made backlog client e)) (λ _. e)

  back_place : (c : Command) (r : ReplicaState) (mails : List Mail) → made c → Ok (r, mails) → Ok (put_back c r, mails)
  unfolding put_back
  back_place Noop r mails m f = f
  back_place (Call client seq op) r mails m f = with_queues ahead base made heard me older before some r mails r.acts _ f.replica.acts (before_calls (queued_number r.backlog client) client seq (Call client seq op) r.backlog m f.replica.backlog) f
  back_place (Join node order) r mails m f = with_queues ahead base made heard me older before some r mails r.acts (Join node order ∷ r.backlog) f.replica.acts (m, f.replica.backlog) f
  back_place (Leave node order) r mails m f = with_queues ahead base made heard me older before some r mails r.acts (Leave node order ∷ r.backlog) f.replica.acts (m, f.replica.backlog) f
  back_place (Split at child order) r mails m f = with_queues ahead base made heard me older before some r mails r.acts (Split at child order ∷ r.backlog) f.replica.acts (m, f.replica.backlog) f
  back_place (Begin tx body order) r mails m f = with_queues ahead base made heard me older before some r mails r.acts (Begin tx body order ∷ r.backlog) f.replica.acts (m, f.replica.backlog) f
  back_place c r mails m f = with_queues ahead base made heard me older before some r mails (c ∷ r.acts) r.backlog (m, f.replica.acts) f.replica.backlog f

  -- ---- a counted call is answered, or goes back

  true_answer : (h : Steps) (client seq : ℕ) (effect : Effect) → ((reply : Reply) → IsReplied effect reply → IsReplyAt ahead base h client seq reply)
      → (answer : AnswerBody) → answer_of effect ≡ Some answer → IsTrueAnswer ahead base h (client_actor client) seq answer
  true_answer h client seq (Was.Done reply) f answer e =
      let same : Says.Value reply ≡ answer = cc in
      subst (IsTrueAnswer ahead base h (client_actor client) seq) same (λ other to. (let who : client ≡ other = omega (arith, to) in subst (λ n. IsReplyAt ahead base h n seq reply) who (f reply (inl refl))))
  true_answer h client seq (Was.Again reply) f answer e =
      let same : Says.Value reply ≡ answer = cc in
      subst (IsTrueAnswer ahead base h (client_actor client) seq) same (λ other to. (let who : client ≡ other = omega (arith, to) in subst (λ n. IsReplyAt ahead base h n seq reply) who (f reply (inr refl))))
  true_answer h client seq (Was.Stale last) f answer e = let same : Says.Stale last ≡ answer = cc in subst (IsTrueAnswer ahead base h (client_actor client) seq) same tt
  true_answer h client seq (Was.NotMine arc succ) f answer e = let same : Says.NotMine arc succ ≡ answer = cc in subst (IsTrueAnswer ahead base h (client_actor client) seq) same tt
  true_answer h client seq (Was.Gone into) f answer e = let same : Says.Gone into ≡ answer = cc in subst (IsTrueAnswer ahead base h (client_actor client) seq) same tt
  true_answer h client seq _ f answer e = cc

  -- ---- what was in flight or ready there is over

  over_replica : (h : Steps) (slot : ℕ) (r : ReplicaState) → slot < next r → (k : Replica h r) → Replica h (record r { leader = without_flight_at slot r.leader; ready = without_slot r.ready slot })
  over_replica h slot r past k = record {
    me_is = k.me_is;
    whole = k.whole;
    log_is = k.log_is;
    acceptor_is = k.acceptor_is;
    tops = k.tops;
    prepares = k.prepares;
    count = k.count;
    sets = k.sets;
    backlog = k.backlog;
    acts = k.acts;
    flights = Each-without_flight _ slot r.leader.flights k.flights;
    ready = Each-without_slot _ r.ready slot k.ready;
    leads = λ runs. (let l = k.leads runs in
        record {
          own = l.own;
          low = l.low;
          first_is = l.first_is;
          votes = l.votes;
          promisers = l.promisers;
          reports = l.reports;
          made = l.made;
          offers = λ at d a. stays runs at (l.offers at d a);
        });
  }
    where
      stays : r.running ≡ true → (at : ℕ) → (at < length k.whole + 1) ⊎ IsTaken ahead base r.leader r.ready at
          → (at < length k.whole + 1) ⊎ IsTaken ahead base (without_flight_at slot r.leader) (without_slot r.ready slot) at
      stays runs at (inl lt) = inl lt
      stays runs at (inr t) =
          elim (cases_Bool (eqb at slot)) [
            | inl e ↦ (let same = eqb-true at slot e in let here = next_after ahead base made h me r k in inl (omega (arith, same, past, here)))
            | inr n ↦ (
                let ne = eqb-false at slot n in
                elim t [
                  | inl (f, a, e) ↦ inr (inl (f, among_without_flight slot r.leader.flights f a (λ s. ne (sym e ∙ s)), e))
                  | inr (c, a) ↦ inr (inr (c, among_without_slot r.ready slot (at, c) a ne))
                ])
          ]

  pub flying_made : (slot : ℕ) (r : ReplicaState) (mails : List Mail) (c : Command) → Ok (r, mails) → flying r slot ≡ Some c → made c
  flying_made slot r mails c f e =
      let got = flying_found slot (flight_at slot r.leader.flights) c e in
      let there = find_found (λ (flight : Flight Command). eqb flight.slot slot) r.leader.flights got.0 got.1 in
      let offer = Each-among _ r.leader.flights got.0 f.replica.flights there.0 in
      subst made got.2 (f.requested r.leader.ballot got.0.slot got.0.value offer.0)

  -- what is chosen was requested
  learnt_made : (place : Place) → (f : Ok place) → (slot : ℕ) (c : Command) → IsLearnt (rule ahead base) before slot c → made c
  learnt_made place f slot c t =
      let offer = learnt_offered (rule ahead base) (first ahead base) (f.newer ++ before) f.lawful slot c (grown_learnt (rule ahead base) f.newer before slot c t) in
      f.requested offer.0 slot c offer.1

  -- ---- the whole entry

  module _ (counted : Bool) (c : Command) (r : ReplicaState) (mails : List Mail) (f : Ok (r, mails)) (t : IsLearnt (rule ahead base) before (next r) c) (runs : counted ≡ true → r.running ≡ true) where
    abbrev h : Steps
    h = f.newer ++ before

    abbrev log : List Command
    log = f.replica.whole

    abbrev after : Group × Effect
    after = applied r.group c

    is_made : made c
    is_made = learnt_made (r, mails) f (next r) c t

    chosen : IsChosenAfter (rule ahead base) h log (length log + 1) c
    chosen =
        by_own_log (rule ahead base) (first ahead base) h f.lawful (length log + 1) c (subst (λ n. IsLearnt (rule ahead base) h n c) (next_after ahead base made h me r f.replica) (grown_learnt (rule ahead base) f.newer before (next r) c t)) log f.replica.log_is.is_log
        (earlier (rule ahead base) (length log))

    -- the log with the entry was one before the row
    logged : IsLog (rule ahead base) before (log ++ c ∷ [])
    logged = log_before ahead base made heard me older before (r, mails) f (log ++ c ∷ []) (entered_has ahead base made me h c r f.replica is_made chosen).is_log

    -- what stands after a part of it
    record Past (place : Place) : Type 0 where
      fine : Ok place
      group_is : place.0.group ≡ after.0
      executed_is : next r < next place.0
      runs_is : counted ≡ true → place.0.running ≡ true

    -- more is sent
    says_more : (s : ReplicaState) (ms more : List Mail) → Past (s, ms) → Ok (s, more) → Past (s, more)
    says_more s ms more p g = record { fine = g; group_is = p.group_is; executed_is = p.executed_is; runs_is = p.runs_is }

    begins : Past (entered c r, mails)
    begins = record {
      fine = turn ahead base made heard me older before r (entered c r) mails f (entered_replica ahead base made me h c r f.replica is_made chosen);
      group_is = entered_group c r;
      executed_is = entered_next ahead base made me h c r f.replica is_made chosen;
      runs_is = λ e. entered_runs c r ∙ runs e;
    }

    goes_back : (d : Command) (s : ReplicaState) (ms : List Mail) → made d → Past (s, ms) → Past (put_back d s, ms)
    goes_back d s ms m p =
        let rest = back_any (λ (x : ReplicaState). (x.group ≡ after.0) × (next r < next x) × (counted ≡ true → x.running ≡ true)) (λ x acts backlog q. q) d s (p.group_is, p.executed_is, p.runs_is) in
        record { fine = back_place d s ms m p.fine; group_is = rest.0; executed_is = rest.1; runs_is = rest.2 }

    -- a counted call is answered as the log says
    answers : (client seq : ℕ) (op : Op) (answer : AnswerBody) (s : ReplicaState) (ms : List Mail) → c ≡ Call client seq op → answer_of after.1 ≡ Some answer → Past (s, ms) → Past (s, answer_to s.me (name_of s) client seq answer ms)
    answers client seq op answer s ms call e p =
        let g = p.fine in
        let reply_is : (reply : Reply) → IsReplied after.1 reply → IsReplyAt ahead base (g.newer ++ before) client seq reply = λ reply replied. (
        record {
          prefix = log;
          op = op;
          is_log = subst (λ d. IsLog (rule ahead base) (g.newer ++ before) (log ++ d ∷ [])) call (later_logs (rule ahead base) g.newer before (log ++ c ∷ []) logged);
          replied = subst (λ (x : Group). IsReplied (applied x (Call client seq op)).1 reply) f.replica.log_is.group_is (subst (λ d. IsReplied (applied r.group d).1 reply) call replied);
        }) in
        says_more s ms _ p
        (says ahead base made heard me older before s ms (record { from = s.me; to = client_actor client; body = Answer (name_of s) seq answer }) g refl (name_is ahead base made heard me older before (g.newer ++ before) s g.replica)
        (λ _. true_answer (g.newer ++ before) client seq after.1 reply_is answer e))

    -- what is said of it to the desk and to the parties of a transaction
    speaks_of : (s : ReplicaState) (ms : List Mail) → Past (s, ms) → Past (s, spoken_mails counted s.me s.group (before_of r.group.core) after.1 c ms)
    unfolding spoken_mails begun_reported
    speaks_of s ms p =
        let reported = result_recorded (begun_result (before_of r.group.core).alone after.1 c) (spoken_number (before_of r.group.core).order c) s ms p.fine in
        let begun = result_reported s.me (begun_result (before_of r.group.core).alone after.1 c) (spoken_number (before_of r.group.core).order c) ms in
        let heard_by = subst (λ (x : Group). AreSaid heard (went_on s.me x (before_of r.group.core) after.1 c [])) (sym p.group_is)
        (subst (λ (x : Group). AreSaid heard (went_on s.me (applied x c).0 (before_of x.core) (applied x c).1 c [])) (sym f.replica.log_is.group_is) (speaks.goes_on log c logged f.replica.log_is.all_made is_made s.me)) in
        cond_both counted (went_on s.me s.group (before_of r.group.core) after.1 c begun) begun (λ more. Past (s, more))
        (λ _. says_more s ms _ p (subst (λ more. Ok (s, more)) (sym (puts_went_on s.me s.group (before_of r.group.core) after.1 c begun))
        (says_all ahead base made heard me older before s begun (went_on s.me s.group (before_of r.group.core) after.1 c []) reported heard_by)))
        (λ _. says_more s ms begun p reported)
      where
        result_recorded : (o : Option OrderResult) (number : ℕ) (x : ReplicaState) (xs : List Mail) → Ok (x, xs) → Ok (x, result_reported x.me o number xs)
        result_recorded None number x xs g = g
        result_recorded (Some result) number x xs g = told_one ahead base made heard me older before x xs number result g

    parts : TableEntry counted c r (λ (place : Place). place.1 ≡ mails) Past
    parts = record {
      Lost = λ other. made other;
      entered = λ ms same. subst (λ xs. Past (entered c r, xs)) (sym same) begins;
      answers = λ client seq op answer s ms on call e p. answers client seq op answer s ms call e p;
      returned = λ s ms on p. goes_back c s ms is_made p;
      reports = λ result s ms e p. says_more s ms _ p (told_one ahead base made heard me older before s ms (order_number c) result p.fine);
      speaks = λ s ms p. speaks_of s ms p;
      teaches = λ to s ms on a p. says_more s ms _ p (learnt_one ahead base made heard me older before to s ms (next r) c t p.fine);
      installs = λ to s ms on a p. says_more s ms _ p (state_sent ahead base made heard me older before to s ms p.fine);
      repolls = λ to s ms on a p. says_more s ms _ p (prepared_one ahead base made heard me older before to s ms s.leader.ballot (next s) p.fine (p.fine.replica.leads (p.runs_is on)).own (omega arith));
      flies = λ other s ms e p. flying_made (next r) s ms other p.fine e;
      landed = λ place p. record {
        fine = turn ahead base made heard me older before place.0 (cleared (next r) place).0 place.1 p.fine (over_replica (p.fine.newer ++ before) (next r) place.0 p.executed_is p.fine.replica);
        group_is = p.group_is;
        executed_is = p.executed_is;
        runs_is = p.runs_is;
      };
      back = λ other s ms m p. goes_back other s ms m p;
    }

    -- an entry keeps what holds
    pub fine_entry : Ok (entered_place counted c (r, mails))
    fine_entry = (entry_holds counted c r (λ (place : Place). place.1 ≡ mails) Past parts mails refl).fine

    -- its child is that of a prefix of the log
    pub own_child : (child : Base) → IsOwnChild c r child → IsChildOf ahead base made me before child
    own_child child own = record {
      prefix = log;
      command = c;
      is_log = logged;
      all_made = f.replica.log_is.all_made;
      is_made = is_made;
      child_is = subst (λ (g : Group). child_by g c ≡ Some child) f.replica.log_is.group_is own.made;
      member = subst (λ n. is_member child.core.members n ≡ true) f.replica.me_is own.member;
    }
