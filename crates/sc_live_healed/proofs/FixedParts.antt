-- The parts of a replica of a group that is not reshaped: what is queued, in flight, ready, reported and executed stays a request or a Noop, and its record stays that of the group's birth.
use Rattle.std.proofs.Common.{◌≡◌, ℕ, ◌-◌, ◌&&◌, ◌||◌, not, nat_lt, eqb, Bool, true, false, true≢false, cond, List, [], ◌∷◌, ◌++◌, replicate, Option, Some, None, refl, sym, ◌∙◌, ap, subst, inl, inr}
use Rattle.std.specs.FinMap.{get}
use Rattle.std.specs.Prelude.{slice_get}
use Rattle.std.specs.Option.{option_map}
use Rattle.std.proofs.lemmas.Bool.{cond_both}
use Rattle.sc_base.specs.Definitions.{Each, is_member, same_ballot, is_majority, most_nodes}
use Rattle.sc_base.specs.declared.ops.Noted.{Noted}
use Rattle.sc_words.specs.ideal.IdealDefinitions.{key_of, holds_key}
use Rattle.sc_words.proofs.PaxosProofs.PaxosLemmas.{Each-append, Each-among, Each-passes, Each-weaker, choice_among}
use Rattle.sc_node_table.specs.Values.{Ballot, Op, Command, Noop, Call, Base, Core, Route, Lock, Free, Coordinating, Promised, Watching, AnswerBody, Effect, Counted, Chosen, NotYet, Flight, Report}
use Rattle.sc_words.specs.declared.paxos.answers.Must.TheVariants.{Value}
use Rattle.sc_mail.specs.declared.bodies.AnswerBody.TheVariants as Says
use Rattle.sc_words.specs.declared.commands.effects.Effect.TheVariants as Was
use Rattle.sc_words.specs.declared.paxos.answers.Learnt.{Learnt}
use Rattle.sc_group_table.specs.machine.MachineDefinitions.{applied, called, served, served_by_note, done, Group}
use Rattle.sc_words.specs.paxos.PaxosDefinitions.{LeaderState, flight_at, counted, vote_at, voters_after, kept_voters, must, must_without, names_above, choice, entry_at, next_of, LogState}
use Rattle.sc_node_table.specs.NodeDefinitions.{answer_of, admits_requests, turned_down, refused_at, request_refusal, request_before, without_request, is_request_of, at_slot, with_entry, ReplicaState, slots_ahead, open_nodes, is_in_some, nodes_to, numbers_from, refused_by}
use Rattle.sc_law_entries.specs.names.NameDefinitions.{Opt}
use Rattle.sc_law_entries.proofs.NamesProofs.EachFound.{opt_get, opt_find, opt_slot, flight_without, voters_with}
use Rattle.sc_law_walks.proofs.WalkLemmas.{either_way, called_core}
use Rattle.sc_live_healed.proofs.FixedWalks.{IsFresh, IsMember}
use Rattle.sc_live_healed.specs.HealedDefinitions.{IsFixedRequest, IsFixedCommand, IsFixedAnswer}

-- what is there is as each is
pub opt_some : {X : Type 0} (P : X → Type 0) (o : Option X) (x : X) → o ≡ Some x → Opt P o → P x
opt_some P None x e p = absurd (cc)
opt_some P (Some y) x e p = (let same : y ≡ x = cc in subst P same p)

-- ---- the executed state

-- a request or a Noop leaves the group's record
pub applied_core : (base : Base) (command : Command) (group : Group) → IsFixedCommand base command → (applied group command).0.core ≡ group.core
applied_core base Noop group f = refl
applied_core base (Call client seq op) group f = called_core group.core.gone group.core.lock group client seq op
applied_core base _ group (inl f) = absurd f
applied_core base _ group (inr e) = absurd (cc)

-- ---- what a request is answered

module _ (base : Base) (me : ℕ) (fresh : IsFresh base me) where
  abbrev Fine : AnswerBody → Type 0
  Fine answer = IsFixedAnswer base answer

  abbrev Answers : Effect → Type 0
  Answers effect = Opt Fine (answer_of effect)

  abbrev Answered : Group × Effect → Type 0
  Answered step = Answers step.1

  served_fine : (o : Option Noted) (group : Group) (client seq : ℕ) (op : Op) → Answers (served_by_note o group client seq op).1
  served_fine None group client seq op = tt
  served_fine (Some noted) group client seq op =
      either_way Answered (nat_lt noted.seq seq) (done group client seq op) _ tt (either_way Answered (eqb noted.seq seq) (group, Was.Again noted.reply) (group, Was.Stale noted.seq) tt tt)

  all_fine : (group : Group) (client seq : ℕ) (op : Op) → group.core ≡ base.core → Answers (served group client seq op).1
  all_fine group client seq op same =
      either_way Answered (holds_key group.core.arc (key_of op)) (served_by_note (get group.clients client) group client seq op) (group, Was.NotMine group.core.arc group.core.succ) (served_fine (get group.clients client) group client seq op)
      (ap (λ (core : Core). core.arc) same, ap (λ (core : Core). core.succ) same)

  called_fine : (gone : Option Route) (lock : Lock) (group : Group) (client seq : ℕ) (op : Op) → gone ≡ None → group.core ≡ base.core → Answers (called gone lock group client seq op).1
  called_fine (Some into) lock group client seq op e same = absurd (cc)
  called_fine None Free group client seq op e same = all_fine group client seq op same
  called_fine None (Watching tx watch) group client seq op e same = all_fine group client seq op same
  called_fine None (Coordinating tx body order heard) group client seq op e same = tt
  called_fine None (Promised tx offer) group client seq op e same = tt

  pub answer_fine : (group : Group) (client seq : ℕ) (op : Op) (answer : AnswerBody) → group.core ≡ base.core → answer_of (applied group (Call client seq op)).1 ≡ Some answer → Fine answer
  answer_fine group client seq op answer same e =
      opt_some Fine (answer_of (applied group (Call client seq op)).1) answer e (called_fine group.core.gone group.core.lock group client seq op (ap (λ (core : Core). core.gone) same ∙ fresh.stands) same)

  -- a request for a key of the group gets a slot
  none_turned : (gone : Option Route) (core : Core) (op : Op) (answer : AnswerBody) → gone ≡ None → holds_key core.arc (key_of op) ≡ true → refused_by gone core op ≡ Some answer → ⊥
  none_turned (Some into) core op answer e t r = cc
  none_turned None core op answer e t r = cond_both (holds_key core.arc (key_of op)) None (Some (Says.NotMine core.arc core.succ)) (λ (o : Option AnswerBody). o ≡ Some answer → ⊥) (λ _ q. cc) (λ f q. true≢false (sym t ∙ f)) r

  pub never_turned : (command : Command) (core : Core) (answer : AnswerBody) → IsFixedRequest base command → core ≡ base.core → turned_down core command ≡ Some answer → ⊥
  never_turned (Call client seq op) core answer f same e = none_turned core.gone core op answer (ap (λ (c : Core). c.gone) same ∙ fresh.stands) (ap (λ (c : Core). holds_key c.arc (key_of op)) same ∙ f) e
  never_turned _ core answer f same e = absurd f

  -- why a replica refuses a request
  refusal_fine : (gone : Option Route) (core : Core) (running : Bool) (hint : Option ℕ) (op : Op) (answer : AnswerBody) → gone ≡ None → core ≡ base.core → (running ≡ false → (leader : ℕ) × (hint ≡ Some leader) × IsMember base leader)
      → request_refusal gone core running hint op ≡ Some answer → Fine answer
  refusal_fine (Some into) core running hint op answer e same off r = absurd (cc)
  refusal_fine None core false hint op answer e same off r =
      let leader = off refl in
      let fact : Says.NotLeader (Some leader.0) ≡ answer = (let h = leader.1 in cc) in subst Fine fact leader.2
  refusal_fine None core true hint op answer e same off r =
      opt_some Fine (cond (admits_requests core.lock && not (holds_key core.arc (key_of op))) (Some (Says.NotMine core.arc core.succ)) None) answer r
      (either_way (λ (o : Option AnswerBody). Opt Fine o) (admits_requests core.lock && not (holds_key core.arc (key_of op))) (Some (Says.NotMine core.arc core.succ)) None (ap (λ (c : Core). c.arc) same, ap (λ (c : Core). c.succ) same) tt)

  pub refused_fine : (op : Op) (r : ReplicaState) (answer : AnswerBody) → r.group.core ≡ base.core → (r.running ≡ false → (leader : ℕ) × (r.hint ≡ Some leader) × IsMember base leader) → refused_at r.group.core.gone op r ≡ Some answer → Fine answer
  refused_fine op r answer same off e = refusal_fine r.group.core.gone r.group.core r.running r.hint op answer (ap (λ (c : Core). c.gone) same ∙ fresh.stands) same off e

  -- a request that is not refused is for a key of the group, at a replica that runs
  taken_by : (gone : Option Route) (core : Core) (running : Bool) (hint : Option ℕ) (op : Op) → core ≡ base.core → request_refusal gone core running hint op ≡ None → (running ≡ true) × (holds_key base.core.arc (key_of op) ≡ true)
  taken_by (Some into) core running hint op same r = absurd (cc)
  taken_by None core false hint op same r = absurd (cc)
  taken_by None core true hint op same r =
      let free : admits_requests core.lock ≡ true = ap (λ (c : Core). admits_requests c.lock) same ∙ ap admits_requests fresh.free in
      (refl, subst (λ (c : Core). holds_key c.arc (key_of op) ≡ true) same (by (admits_requests core.lock) (holds_key core.arc (key_of op)) free r))
    where
      by : (a h : Bool) → a ≡ true → cond {A = Option AnswerBody} (a && not h) (Some (Says.NotMine core.arc core.succ)) None ≡ None → h ≡ true
      by true true e q = refl
      by true false e q = absurd (cc)
      by false h e q = absurd (cc)

  pub request_taken : (client seq : ℕ) (op : Op) (r : ReplicaState) → r.group.core ≡ base.core → refused_at r.group.core.gone op r ≡ None → (r.running ≡ true) × IsFixedRequest base (Call client seq op)
  request_taken client seq op r same e = taken_by r.group.core.gone r.group.core r.running r.hint op same e

-- ---- queues

module _ (base : Base) where
  abbrev Requests : List Command → Type 0
  Requests backlog = Each (IsFixedRequest base) backlog

  pub without_requests : (backlog : List Command) (client : ℕ) → Requests backlog → Requests (without_request backlog client)
  without_requests [] client c = tt
  without_requests (command ∷ backlog) client c = either_way Requests (is_request_of client command) _ _ c.1 (c.0, without_requests backlog client c.1)

  pub before_request : (o : Option ℕ) (client seq : ℕ) (command : Command) (backlog : List Command) → IsFixedRequest base command → Requests backlog → Requests (request_before o client seq command backlog)
  before_request None client seq command backlog n c = (n, c)
  before_request (Some other) client seq command backlog n c = either_way Requests (nat_lt other seq) _ _ (n, without_requests backlog client c) c

  -- ---- what is offered

  abbrev Fixed : Command → Type 0
  Fixed command = IsFixedCommand base command

  pub must_fixed : (slot : ℕ) (command : Command) (leader : LeaderState Command) → must slot leader ≡ Value command → Each (λ (report : Report Command). Fixed report.value) leader.reports → Fixed command
  must_fixed slot command leader e f = by (names_above slot leader.reports) (choice slot leader.reports) refl e
    where
      by : (above : Bool) (o : Option (Report Command)) → choice slot leader.reports ≡ o → must_without above (option_map (λ (report : Report Command). report.value) o) ≡ Value command → Fixed command
      by above (Some best) fact q =
          let same : best.value ≡ command = cc in
          subst Fixed same (Each-among (λ (report : Report Command). Fixed report.value) leader.reports best f (choice_among slot leader.reports best fact).0)
      by true None fact q = absurd (cc)
      by false None fact q = absurd (cc)

  pub ready_fixed : (ready : List (ℕ × Command)) (slot : ℕ) (command : Command) → at_slot ready slot ≡ Some command → Each (λ (entry : ℕ × Command). Fixed entry.1) ready → Fixed command
  ready_fixed ready slot command e f = opt_some Fixed (at_slot ready slot) command e (opt_slot Fixed ready slot f)

  pub flight_fixed : (flights : List (Flight Command)) (slot : ℕ) (command : Command) → option_map (λ (flight : Flight Command). flight.value) (flight_at slot flights) ≡ Some command → Each (λ (flight : Flight Command). Fixed flight.value) flights → Fixed command
  flight_fixed flights slot command e f = by (flight_at slot flights) e (opt_find (λ (flight : Flight Command). Fixed flight.value) (λ (flight : Flight Command). eqb flight.slot slot) flights f)
    where
      by : (o : Option (Flight Command)) → option_map (λ (flight : Flight Command). flight.value) o ≡ Some command → Opt (λ (flight : Flight Command). Fixed flight.value) o → Fixed command
      by None q p = absurd (cc)
      by (Some flight) q p = (let same : flight.value ≡ command = cc in subst Fixed same p)

  -- ---- votes

  -- what a count leaves of a leader, and what it decides
  pub record Tallied (leader : LeaderState Command) (step : Counted Command × LeaderState Command) : Type 0 where
    pub flights : Each (λ (flight : Flight Command). Fixed flight.value) step.1.flights
    pub reports : step.1.reports ≡ leader.reports
    pub ballot : step.1.ballot ≡ leader.ballot
    pub chosen : (command : Command) → step.0 ≡ Chosen command → Fixed command

  pub counted_fixed : (from : ℕ) (ballot : Ballot) (slot : ℕ) (set : List ℕ) (leader : LeaderState Command) → Each (λ (flight : Flight Command). Fixed flight.value) leader.flights → Tallied leader (counted from ballot slot set leader)
  counted_fixed from ballot slot set leader f =
      either_way (Tallied leader) (same_ballot ballot leader.ballot) (vote_at from slot set (flight_at slot leader.flights) leader) (NotYet 0, leader)
      (by (flight_at slot leader.flights) (opt_find (λ (flight : Flight Command). Fixed flight.value) (λ (flight : Flight Command). eqb flight.slot slot) leader.flights f)) none
    where
      none : Tallied leader (NotYet 0, leader)
      none = record { flights = f; reports = refl; ballot = refl; chosen = λ command e. absurd (cc) }

      by : (o : Option (Flight Command)) → Opt (λ (flight : Flight Command). Fixed flight.value) o → Tallied leader (vote_at from slot set o leader)
      by None p = none
      by (Some flight) p =
          let voters = voters_after set from flight.voters in
          either_way (Tallied leader) (is_majority set (kept_voters voters)) _ _
          (record { flights = flight_without Fixed slot leader.flights f; reports = refl; ballot = refl; chosen = λ command e. (let same : flight.value ≡ command = cc in subst Fixed same p) })
          (record { flights = voters_with Fixed slot voters leader.flights f; reports = refl; ballot = refl; chosen = λ command e. absurd (cc) })

  -- ---- logs

  pub entry_fixed : (slot : ℕ) (log : LogState Command) (command : Command) → entry_at slot log ≡ Some command → Each Fixed log.entries → Fixed command
  entry_fixed slot log command e f =
      opt_some Fixed (entry_at slot log) command e (either_way (λ (o : Option Command). Opt Fixed o) (nat_lt log.base slot) (slice_get log.entries (slot - log.base - 1)) None (opt_get Fixed log.entries (slot - log.base - 1) f) tt)

  pub logged_fixed : (command : Command) (log : LogState Command) → Fixed command → Each Fixed log.entries → Each Fixed (with_entry command log).entries
  logged_fixed command log c f =
      let more : Each Fixed (log.entries ++ command ∷ []) = Each-append Fixed log.entries (command ∷ []) f (c, tt) in
      either_way (λ (p : Learnt × LogState Command). Each Fixed p.1.entries) (eqb (next_of log) (next_of log)) _ _ more (either_way (λ (p : Learnt × LogState Command). Each Fixed p.1.entries) (nat_lt (next_of log) (next_of log)) _ _ f f)

  -- ---- the nodes of the open slots

  pub open_are_members : (sets : List (List ℕ)) → sets ≡ replicate slots_ahead base.core.members → Each (IsMember base) (open_nodes sets)
  unfolding nodes_to
  open_are_members sets e =
      Each-weaker (λ node. is_in_some sets node ≡ true) (IsMember base) (λ node t. by (is_member base.core.members node) (subst (λ (ss : List (List ℕ)). is_in_some ss node ≡ true) e t)) (open_nodes sets) (Each-passes (λ node. is_in_some sets node) (numbers_from 1 most_nodes))
    where
      by : (b : Bool) → (b || (b || (b || (b || false)))) ≡ true → b ≡ true
      by true t = refl
      by false t = t
