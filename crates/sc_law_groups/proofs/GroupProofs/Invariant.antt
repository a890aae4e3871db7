-- What holds of each replica and of each mail after the steps so far, its parts named.
use Rattle.std.proofs.Common.{◌≡◌, ℕ, ◌+◌, ◌-◌, ◌<◌, ◌≤◌, true, List, [], ◌∷◌, ◌++◌, length, map, drop, Option, Some, ◌⊎◌, inl, inr, sym, ◌∙◌, ap, subst, arith}
use Rattle.std.specs.Prelude.{slice_get}
use Rattle.std.specs.List.{flat_map}
use Rattle.std.proofs.Math.Nat.{max-le}
use Rattle.std.proofs.lemmas.List.{length_push, length-drop, drop-drop, drop-append-le}
use Rattle.sc_base.specs.Definitions.{client_actor, same_draw, Among, Each}
use Rattle.sc_node_table.specs.Values.{Ballot, Draw, Op, Reply, Command, Call, Base, AnswerBody, Mail, MailBody, Request, Answer, Prepare, Promise, Accept, Accepted as AcceptedMail, Nack, Learn, Ask, Install, TxPrepare, TxVote, TxOutcome, TxElsewhere, TxWatch, TxWatched, Told, Flight}
use Rattle.sc_mail.specs.declared.bodies.AnswerBody.TheVariants as Says
use Rattle.sc_group_table.specs.machine.MachineDefinitions.{Group, group_of, applied, state_after}
use Rattle.sc_words.specs.paxos.PaxosDefinitions.{LeaderState, LogState, next_of, log_cut, kept_voters}
use Rattle.sc_words.proofs.PaxosProofs.PaxosLemmas.{Each-weaker, Each-append}
use Rattle.sc_paxos_law.specs.PaxosLawDefinitions.{Step, Prepared, Promised, Offered, Accepted, state_of, Rule, needed, members_of, IsLog, CountedPromise}
use Rattle.sc_paxos_law.proofs.Lemmas.{Among-right, later_log, later_logs}
use Rattle.sc_node_table.specs.NodeDefinitions.{ReplicaState, first_ballot, next, floor_of, forgotten}
use Rattle.sc_law_entries.specs.history.HistoryDefinitions.{IsReplied}
use Rattle.sc_meaning.specs.sound.SoundDefinitions.{Ahead, rule_of}
use Rattle.sc_group_table.proofs.MachineProofs.Lemmas.{state_push}
use Rattle.sc_law_groups.proofs.GroupProofs.Growth.{IsLearnt, By, later_learnt, grown_learnt, state_kept}
use Rattle.sc_law_groups.proofs.GroupProofs.ForgottenEntries.{Mirrors, cut_mirrors, max_is}

-- steps of commands
abbrev pub Steps : Type 0
Steps = List (Step Command)

-- what was offered is among the commands that are made
abbrev pub OffersMade : (Command → Type 0) → Steps → Type 0
OffersMade made h = (b : Ballot) (slot : ℕ) (c : Command) → Among (Offered b slot c) h → made c

module _ (ahead : Ahead) (base : Base) where
  -- the group's rule of members
  abbrev pub rule : Rule Command
  rule = rule_of ahead base

  -- the ballot of the first leader
  abbrev pub first : Ballot
  first = first_ballot base.core

  -- the group's name
  abbrev pub name : Draw
  name = base.core.id

  -- the group at its birth
  abbrev pub birth : Group
  birth = group_of base

  -- ---- what a leader holds

  -- each command in flight was offered in the leader's ballot, and each kept vote is an acceptance
  abbrev pub IsFlying : Steps → Ballot → Flight Command → Type 0
  IsFlying h ballot flight = Among (Offered ballot flight.slot flight.value) h × Each (λ node. Among (Accepted node ballot flight.slot flight.value) h) (kept_voters flight.voters)

  -- something is in flight or ready at a slot
  abbrev pub IsTaken : LeaderState Command → List (ℕ × Command) → ℕ → Type 0
  IsTaken leader ready slot = ((flight : Flight Command) × Among flight leader.flights × (flight.slot ≡ slot)) ⊎ ((command : Command) × Among (slot, command) ready)

  -- ---- what is held of the log

  -- of a whole log that was executed the entries after a base are held, and the group is the state after all of it
  pub record HasLog (made : Command → Type 0) (h : Steps) (whole : List Command) (log : LogState Command) (group : Group) : Type 0 where
    pub low : log.base ≤ length whole
    pub entries_are : log.entries ≡ drop log.base whole
    pub group_is : group ≡ state_after birth whole
    pub is_log : IsLog rule h whole
    pub all_made : Each made whole

  -- a replica executes next the slot behind the log that it has executed
  pub next_is : (made : Command → Type 0) (h : Steps) (whole : List Command) (log : LogState Command) (group : Group) → HasLog made h whole log group → next_of log ≡ length whole + 1
  next_is made h whole log group k =
      let low = k.low in
      let count = ap length k.entries_are ∙ length-drop log.base whole in
      omega (arith, low, count)

  -- a log that was executed is one after one more step
  pub later_has : (made : Command → Type 0) (s : Step Command) (h : Steps) (whole : List Command) (log : LogState Command) (group : Group) → HasLog made h whole log group → HasLog made (s ∷ h) whole log group
  later_has made s h whole log group k = record { low = k.low; entries_are = k.entries_are; group_is = k.group_is; is_log = later_log rule s h whole k.is_log; all_made = k.all_made }

  -- one entry more
  pub pushed_has : (made : Command → Type 0) (h : Steps) (whole : List Command) (log : LogState Command) (group : Group) (c : Command) → HasLog made h whole log group → made c → IsLog rule h (whole ++ c ∷ [])
      → HasLog made h (whole ++ c ∷ []) (record log { entries = log.entries ++ c ∷ [] }) (applied group c).0
  pushed_has made h whole log group c k m fact =
      let low = k.low in
      let longer = length_push whole c in
      record {
        low = omega (arith, low, longer);
        entries_are = ap (λ es. es ++ c ∷ []) k.entries_are ∙ sym (drop-append-le log.base whole (c ∷ []) low);
        group_is = ap (λ g. (applied g c).0) k.group_is ∙ sym (state_push birth whole c);
        is_log = fact;
        all_made = Each-append made whole (c ∷ []) k.all_made (m, tt);
      }

  -- the entries up to a slot are forgotten
  pub cut_has : (made : Command → Type 0) (h : Steps) (whole : List Command) (log : LogState Command) (group : Group) (upto : ℕ) → upto ≤ length whole → HasLog made h whole log group → HasLog made h whole (log_cut upto log) group
  cut_has made h whole log group upto le k = record {
    low = max-le k.low le;
    entries_are = ap (drop (upto - log.base)) k.entries_are ∙ drop-drop (upto - log.base) log.base whole ∙ ap (λ n. drop n whole) (max_is log.base upto);
    group_is = k.group_is;
    is_log = k.is_log;
    all_made = k.all_made;
  }

  -- ---- what a leader holds

  -- a promise that was made, and that covers the slots from the next one on
  abbrev pub IsVote : Steps → Ballot → ℕ → CountedPromise Command → Type 0
  IsVote h ballot next_slot vote = Among (Promised vote.node ballot vote.from vote.reports) h × (vote.from ≤ next_slot)

  pub record IsLeader (h : Steps) (me : ℕ) (next_slot : ℕ) (r : ReplicaState) : Type 0 where
    -- its ballot is its node's own, and not above the greatest seen
    pub own : r.leader.ballot.node ≡ me
    pub low : r.leader.ballot.round ≤ r.top.round
    pub first_is : r.leader.is_first ≡ true → r.leader.ballot ≡ first
    -- the promises that it counted were made
    pub votes : List (CountedPromise Command)
    pub promisers : r.leader.promisers ≡ map (λ (vote : CountedPromise Command). vote.node) votes
    pub reports : r.leader.reports ≡ flat_map (λ (vote : CountedPromise Command). vote.reports) votes
    pub made : Each (IsVote h r.leader.ballot next_slot) votes
    -- where its ballot has offered a command, the slot is executed or taken
    pub offers : (slot : ℕ) (command : Command) → Among (Offered r.leader.ballot slot command) h → (slot < next_slot) ⊎ IsTaken r.leader r.ready slot

  -- ---- what holds of a replica

  -- these are the members of the slots from one on, and the log gives them
  abbrev pub AreSets : List Command → ℕ → List (List ℕ) → Type 0
  AreSets log slot sets = (k : ℕ) (set : List ℕ) → slice_get sets k ≡ Some set → (set ≡ members_of rule log (slot + k)) × (needed rule (slot + k) ≤ length log)

  -- a replica as the steps say
  pub record IsReplica (made : Command → Type 0) (h : Steps) (me : ℕ) (r : ReplicaState) : Type 0 where
    pub me_is : r.me ≡ me
    -- what it executed is a log, and its group is the state after it
    pub whole : List Command
    pub log_is : HasLog made h whole r.log r.group
    -- its acceptor is what its steps make of it, but for what it has forgotten
    pub acceptor_is : Mirrors r.acceptor (state_of first me h)
    -- no offer of its node has a later round than the greatest ballot seen, and no prepare starts after the next slot
    pub tops : (b : Ballot) (slot : ℕ) (command : Command) → Among (Offered b slot command) h → b.node ≡ me → b.round ≤ r.top.round
    pub prepares : (b : Ballot) (from : ℕ) → Among (Prepared b from) h → b.node ≡ me → from ≤ length whole + 1
    -- the open slots are as many as they should be, and have the members that the log gives
    pub count : length r.sets ≡ ahead.slots
    pub sets : AreSets whole (length whole + 1) r.sets
    -- what waits was requested, what is in flight was offered, and what is ready is chosen
    pub backlog : Each made r.backlog
    pub acts : Each made r.acts
    pub flights : Each (IsFlying h r.leader.ballot) r.leader.flights
    pub ready : Each (λ e. IsLearnt rule h e.0 e.1) r.ready
    pub leads : r.running ≡ true → IsLeader h me (length whole + 1) r

  -- the next slot of a replica is the one after its own log
  pub next_after : (made : Command → Type 0) (h : Steps) (me : ℕ) (r : ReplicaState) (k : IsReplica made h me r) → next r ≡ length k.whole + 1
  next_after made h me r k = next_is made h k.whole r.log r.group k.log_is

  -- it forgets what is old
  pub forgotten_replica : (made : Command → Type 0) (h : Steps) (me last : ℕ) (r : ReplicaState) (k : IsReplica made h me r) → floor_of last ≤ length k.whole → IsReplica made h me (forgotten last r)
  unfolding forgotten
  forgotten_replica made h me last r k low = record {
    me_is = k.me_is;
    whole = k.whole;
    log_is = cut_has made h k.whole r.log r.group (floor_of last) low k.log_is;
    acceptor_is = cut_mirrors (floor_of last) r.acceptor (state_of first me h) k.acceptor_is;
    tops = k.tops;
    prepares = k.prepares;
    count = k.count;
    sets = k.sets;
    backlog = k.backlog;
    acts = k.acts;
    flights = k.flights;
    ready = k.ready;
    leads = λ runs. (let l = k.leads runs in
        record { own = l.own; low = l.low; first_is = l.first_is; votes = l.votes; promisers = l.promisers; reports = l.reports; made = l.made; offers = l.offers });
  }

  -- whom it follows, how long it has waited and what waits at it are nothing to the steps, where what waits was made
  pub queued_replica : (made : Command → Type 0) (h : Steps) (me : ℕ) (r : ReplicaState) (hint : Option ℕ) (waits : ℕ) (acts backlog : List Command) → Each made acts → Each made backlog → IsReplica made h me r
      → IsReplica made h me (record r { hint = hint; waits = waits; acts = acts; backlog = backlog })
  queued_replica made h me r hint waits acts backlog a b k = record {
    me_is = k.me_is;
    whole = k.whole;
    log_is = k.log_is;
    acceptor_is = k.acceptor_is;
    tops = k.tops;
    prepares = k.prepares;
    count = k.count;
    sets = k.sets;
    backlog = b;
    acts = a;
    flights = k.flights;
    ready = k.ready;
    leads = λ runs. (let l = k.leads runs in
        record { own = l.own; low = l.low; first_is = l.first_is; votes = l.votes; promisers = l.promisers; reports = l.reports; made = l.made; offers = l.offers });
  }

  -- ---- what holds of mail

  -- the log begins so, and the call that comes next in it has this reply, be it new or again
  pub record IsReplyAt (h : Steps) (client seq : ℕ) (reply : Reply) : Type 0 where
    pub prefix : List Command
    pub op : Op
    pub is_log : IsLog rule h (prefix ++ Call client seq op ∷ [])
    pub replied : IsReplied (applied (state_after birth prefix) (Call client seq op)).1 reply

  -- a reply is that of an entry of the log
  abbrev pub IsTrueAnswer : Steps → ℕ → ℕ → AnswerBody → Type 0
  IsTrueAnswer h to seq (Says.Value reply) = (client : ℕ) → to ≡ client_actor client → IsReplyAt h client seq reply
  IsTrueAnswer h to seq _ = Unit {0}

  -- the group of a record is the state after a log up to a slot, and the sets are the members of the open slots after it
  pub record IsState (made : Command → Type 0) (h : Steps) (slot : ℕ) (record_of : Base) (sets : List (List ℕ)) : Type 0 where
    pub log : List Command
    pub is_log : IsLog rule h log
    pub count : length log ≡ slot
    pub group_is : group_of record_of ≡ state_after birth log
    pub all_made : Each made log
    pub sets_are : AreSets log (slot + 1) sets
    pub many : length sets ≡ ahead.slots

  -- a mail of a replica of the group names the group, where it names one; which mails of transactions are sent is a parameter
  abbrev pub IsOwn : (MailBody → Type 0) → MailBody → Type 0
  IsOwn heard (Request group client seq op) = ⊥
  IsOwn heard (Answer group seq answer) = group ≡ name
  IsOwn heard (Prepare group ballot from_slot) = group ≡ name
  IsOwn heard (Promise group ballot reports) = group ≡ name
  IsOwn heard (Accept group ballot slot command) = group ≡ name
  IsOwn heard (AcceptedMail group ballot slot) = group ≡ name
  IsOwn heard (Nack group promised) = group ≡ name
  IsOwn heard (Learn group slot command) = group ≡ name
  IsOwn heard (Ask group from_slot) = group ≡ name
  IsOwn heard (Install group slot record_of sets) = group ≡ name
  IsOwn heard (TxPrepare tx offer) = heard (TxPrepare tx offer)
  IsOwn heard (TxVote tx coord part vote) = heard (TxVote tx coord part vote)
  IsOwn heard (TxOutcome tx part outcome) = heard (TxOutcome tx part outcome)
  IsOwn heard (TxElsewhere tx coord hint) = heard (TxElsewhere tx coord hint)
  IsOwn heard (TxWatch tx watch) = heard (TxWatch tx watch)
  IsOwn heard (TxWatched tx coord part vote) = heard (TxWatched tx coord part vote)
  IsOwn heard (Told number result) = Unit {0}

  -- what a mail says is true of the steps; which mails of transactions are true is a parameter
  abbrev pub IsTrue : (Command → Type 0) → (MailBody → Type 0) → Steps → Mail → MailBody → Type 0
  IsTrue made heard h mail (Request group client seq op) = made (Call client seq op)
  IsTrue made heard h mail (Answer group seq answer) = same_draw group name ≡ true → IsTrueAnswer h mail.to seq answer
  IsTrue made heard h mail (Prepare group ballot from_slot) = same_draw group name ≡ true → Among (Prepared ballot from_slot) h
  IsTrue made heard h mail (Promise group ballot reports) = same_draw group name ≡ true → (from : ℕ) × Among (Promised mail.from ballot from reports) h × Among (Prepared ballot from) h
  IsTrue made heard h mail (Accept group ballot slot command) = same_draw group name ≡ true → Among (Offered ballot slot command) h
  IsTrue made heard h mail (AcceptedMail group ballot slot) = same_draw group name ≡ true → (command : Command) × Among (Accepted mail.from ballot slot command) h
  IsTrue made heard h mail (Learn group slot command) = same_draw group name ≡ true → IsLearnt rule h slot command
  IsTrue made heard h mail (Install group slot record_of sets) = same_draw group name ≡ true → IsState made h slot record_of sets
  IsTrue made heard h mail (Nack group promised) = Unit {0}
  IsTrue made heard h mail (Ask group from_slot) = Unit {0}
  IsTrue made heard h mail (Told number result) = Unit {0}
  IsTrue made heard h mail (TxPrepare tx offer) = heard (TxPrepare tx offer)
  IsTrue made heard h mail (TxVote tx coord part vote) = heard (TxVote tx coord part vote)
  IsTrue made heard h mail (TxOutcome tx part outcome) = heard (TxOutcome tx part outcome)
  IsTrue made heard h mail (TxElsewhere tx coord hint) = heard (TxElsewhere tx coord hint)
  IsTrue made heard h mail (TxWatch tx watch) = heard (TxWatch tx watch)
  IsTrue made heard h mail (TxWatched tx coord part vote) = heard (TxWatched tx coord part vote)

  -- a reply of the log stays one
  pub grown_reply : (newer h : Steps) (client seq : ℕ) (reply : Reply) → IsReplyAt h client seq reply → IsReplyAt (newer ++ h) client seq reply
  grown_reply newer h client seq reply t = record { prefix = t.prefix; op = t.op; is_log = later_logs rule newer h (t.prefix ++ Call client seq t.op ∷ []) t.is_log; replied = t.replied }

  grown_answer : (newer h : Steps) (to seq : ℕ) (answer : AnswerBody) → IsTrueAnswer h to seq answer → IsTrueAnswer (newer ++ h) to seq answer
  grown_answer newer h to seq (Says.Value reply) t = λ client e. grown_reply newer h client seq reply (t client e)
  grown_answer newer h to seq _ t = tt

  -- a state that is sent is true after more steps
  pub grown_state : (made more : Command → Type 0) → ((c : Command) → made c → more c) → (newer h : Steps) (slot : ℕ) (record_of : Base) (sets : List (List ℕ)) → IsState made h slot record_of sets → IsState more (newer ++ h) slot record_of sets
  grown_state made more f newer h slot record_of sets t =
      record { log = t.log; is_log = later_logs rule newer h t.log t.is_log; count = t.count; group_is = t.group_is; all_made = Each-weaker made more f t.log t.all_made; sets_are = t.sets_are; many = t.many }

  -- what a mail says is true after more steps
  pub grown_true : (made more : Command → Type 0) → ((c : Command) → made c → more c) → (heard further : MailBody → Type 0) → ((b : MailBody) → heard b → further b) → (newer h : Steps) (mail : Mail) (body : MailBody)
      → IsTrue made heard h mail body → IsTrue more further (newer ++ h) mail body
  grown_true made more f heard further g newer h mail (Request group client seq op) t = f (Call client seq op) t
  grown_true made more f heard further g newer h mail (Answer group seq answer) t = λ e. grown_answer newer h mail.to seq answer (t e)
  grown_true made more f heard further g newer h mail (Prepare group ballot from_slot) t = λ e. Among-right _ newer h (t e)
  grown_true made more f heard further g newer h mail (Promise group ballot reports) t = λ e. (let k = t e in (k.0, Among-right _ newer h k.1, Among-right _ newer h k.2))
  grown_true made more f heard further g newer h mail (Accept group ballot slot command) t = λ e. Among-right _ newer h (t e)
  grown_true made more f heard further g newer h mail (AcceptedMail group ballot slot) t = λ e. (let k = t e in (k.0, Among-right _ newer h k.1))
  grown_true made more f heard further g newer h mail (Learn group slot command) t = λ e. grown_learnt rule newer h slot command (t e)
  grown_true made more f heard further g newer h mail (Install group slot record_of sets) t = λ e. grown_state made more f newer h slot record_of sets (t e)
  grown_true made more f heard further g newer h mail (Nack group promised) t = tt
  grown_true made more f heard further g newer h mail (Ask group from_slot) t = tt
  grown_true made more f heard further g newer h mail (Told number result) t = tt
  grown_true made more f heard further g newer h mail body t = g body t

  -- ---- more steps

  module _ (made : Command → Type 0) (me : ℕ) where
    -- what is in flight is so after one more step
    pub later_flying : (s : Step Command) (h : Steps) (b : Ballot) (flight : Flight Command) → IsFlying h b flight → IsFlying (s ∷ h) b flight
    later_flying s h b flight f = (inr f.0, Each-weaker _ _ (λ n a. inr a) (kept_voters flight.voters) f.1)

    -- a step that leaves its acceptor as it is
    pub more_steps : (s : Step Command) (h : Steps) (r : ReplicaState) (k : IsReplica made h me r) → state_of first me (s ∷ h) ≡ state_of first me h
        → ((b : Ballot) (slot : ℕ) (c : Command) → s ≡ Offered b slot c → b.node ≡ me → b.round ≤ r.top.round)
        → ((b : Ballot) (from : ℕ) → s ≡ Prepared b from → b.node ≡ me → from ≤ length k.whole + 1)
        → (r.running ≡ true → (slot : ℕ) (c : Command) → s ≡ Offered r.leader.ballot slot c → (slot < length k.whole + 1) ⊎ IsTaken r.leader r.ready slot)
        → IsReplica made (s ∷ h) me r
    more_steps s h r k same tops prepares offers = record {
      me_is = k.me_is;
      whole = k.whole;
      log_is = later_has made s h k.whole r.log r.group k.log_is;
      acceptor_is = subst (Mirrors r.acceptor) (sym same) k.acceptor_is;
      tops = λ b slot c a own. elim a [ inl e ↦ tops b slot c e own | inr o ↦ k.tops b slot c o own ];
      prepares = λ b from a own. elim a [ inl e ↦ prepares b from e own | inr o ↦ k.prepares b from o own ];
      count = k.count;
      sets = k.sets;
      backlog = k.backlog;
      acts = k.acts;
      flights = Each-weaker _ _ (λ f p. later_flying s h r.leader.ballot f p) r.leader.flights k.flights;
      ready = Each-weaker _ _ (λ e p. later_learnt rule s h e.0 e.1 p) r.ready k.ready;
      leads = λ runs. (
          let l = k.leads runs in
          record {
            own = l.own;
            low = l.low;
            first_is = l.first_is;
            votes = l.votes;
            promisers = l.promisers;
            reports = l.reports;
            made = Each-weaker _ _ (λ v p. (inr p.0, p.1)) l.votes l.made;
            offers = λ slot c a. elim a [ inl e ↦ offers runs slot c e | inr o ↦ l.offers slot c o ];
          });
    }

    -- a step of another node
    pub other_step : (other : ℕ) (s : Step Command) (h : Steps) (r : ReplicaState) → By other s → (other ≡ me → ⊥) → IsReplica made h me r → IsReplica made (s ∷ h) me r
    other_step other s h r by ne k =
        more_steps s h r k (state_kept first other me s h by ne)
        (λ b slot c e own. absurd (ne (sym (subst (By other) e by) ∙ own)))
        (λ b from e own. absurd (ne (sym (subst (By other) e by) ∙ own)))
        (λ runs slot c e. absurd (ne (sym (subst (By other) e by) ∙ (k.leads runs).own)))

    -- steps of others change nothing of what holds of a replica
    pub other_steps : (other : ℕ) (newer h : Steps) (r : ReplicaState) → Each (By other) newer → (other ≡ me → ⊥) → IsReplica made h me r → IsReplica made (newer ++ h) me r
    other_steps other [] h r by ne k = k
    other_steps other (s ∷ newer) h r by ne k = other_step other s (newer ++ h) r by.0 ne (other_steps other newer h r by.1 ne k)

  -- what is known of requests may grow
  pub more_made : (made more : Command → Type 0) → ((c : Command) → made c → more c) → (h : Steps) (me : ℕ) (r : ReplicaState) → IsReplica made h me r → IsReplica more h me r
  more_made made more f h me r k = record {
    me_is = k.me_is;
    whole = k.whole;
    log_is = record { low = k.log_is.low; entries_are = k.log_is.entries_are; group_is = k.log_is.group_is; is_log = k.log_is.is_log; all_made = Each-weaker made more f k.whole k.log_is.all_made };
    acceptor_is = k.acceptor_is;
    tops = k.tops;
    prepares = k.prepares;
    count = k.count;
    sets = k.sets;
    backlog = Each-weaker made more f r.backlog k.backlog;
    acts = Each-weaker made more f r.acts k.acts;
    flights = k.flights;
    ready = k.ready;
    leads = k.leads;
  }
