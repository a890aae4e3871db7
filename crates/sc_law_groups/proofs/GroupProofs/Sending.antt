-- Mails that a row sends, and elections.
use Rattle.std.proofs.Common.{◌≡◌, ℕ, ◌+◌, ◌≤◌, ◌-◌, true, cond, nat_lt, List, [], ◌∷◌, ◌++◌, length, Option, Some, inl, refl, ◌∙◌, ap, subst, arith}
use Rattle.std.proofs.lemmas.Bool.{cond-true, cond_both}
use Rattle.sc_base.specs.Definitions.{client_actor, same_draw, Among}
use Rattle.sc_node_table.specs.Values.{Ballot, Draw, Command, Base, OrderResult, Refused, AnswerBody, Mail, MailBody, Answer, Prepare, Accept, Learn, Install, Told}
use Rattle.sc_words.specs.declared.commands.orders.OrderRefusal.TheVariants.{NotLeader}
use Rattle.sc_mail.specs.declared.bodies.AnswerBody.TheVariants as Says
use Rattle.sc_group_table.specs.machine.MachineDefinitions.{Group, base_of}
use Rattle.sc_words.specs.paxos.PaxosDefinitions.{below}
use Rattle.sc_law_walks.proofs.WalkLemmas.{below_round, elected_place}
use Rattle.sc_law_walks.proofs.PlaceWalks.{elected_replica as elected, ended_replica as stopped_one}
use Rattle.sc_law_walks.proofs.Talks.{all_sent}
use Rattle.sc_law_walks.proofs.EndedRequests.{any_ends, all_end, all_queued_end}
use Rattle.sc_paxos_law.specs.PaxosLawDefinitions.{Step, Prepared, Offered}
use Rattle.sc_node_table.specs.NodeDefinitions.{ended, stopped, open_nodes, sent, answered, answered_all, order_reported, ReplicaState, Place, name_of, next, under_way}
use Rattle.sc_meaning.specs.sound.SoundDefinitions.{Ahead}
use Rattle.sc_group_table.proofs.MachineProofs.Lemmas.{group_again}
use Rattle.sc_law_entries.proofs.HistoryProofs.HistoryLemmas.{state_same}
use Rattle.sc_law_groups.specs.group.GroupDefinitions.{proposer_steps}
use Rattle.sc_law_groups.proofs.GroupProofs.Growth.{IsLearnt, offer_again, grown_learnt}
use Rattle.sc_law_groups.proofs.GroupProofs.Invariant.{Steps, rule, first, birth, AreSets, IsReplica, next_after, IsOwn, IsTrue, IsTrueAnswer, more_steps}
use Rattle.sc_law_groups.proofs.GroupProofs.Midway.{Fine, turn, says, steps}
use Rattle.sc_base.proofs.Lemmas.{same_name}

pub asked_prepare : (group other : Draw) (b : Ballot) (from : ℕ) → group ≡ other → proposer_steps other (Prepare group b from) ≡ Prepared b from ∷ []
asked_prepare group other b from e = cond-true (same_draw group other) (Prepared b from ∷ []) [] (same_name group other e)

-- an Accept of the group is an offer
pub asked_accept : (group other : Draw) (b : Ballot) (slot : ℕ) (c : Command) → group ≡ other → proposer_steps other (Accept group b slot c) ≡ Offered b slot c ∷ []
asked_accept group other b slot c e = cond-true (same_draw group other) (Offered b slot c ∷ []) [] (same_name group other e)

module _ (ahead : Ahead) (base : Base) (made : Command → Type 0) (heard : MailBody → Type 0) (me : ℕ) (older : List Mail) (before : Steps) where
  abbrev Ok : Place → Type 0
  Ok = Fine ahead base made heard me older before

  abbrev Replica : Steps → ReplicaState → Type 0
  Replica h r = IsReplica ahead base made h me r

  -- the group of a replica has its name
  pub name_is : (h : Steps) (r : ReplicaState) → Replica h r → name_of r ≡ base.core.id
  name_is h r k = ap (λ (g : Group). g.core.id) k.log_is.group_is ∙ (state_same (birth ahead base) k.whole).0

  -- ---- one mail

  -- a Prepare keeps what holds
  pub prepared_one : (to : ℕ) (r : ReplicaState) (mails : List Mail) (b : Ballot) (from : ℕ) → Ok (r, mails) → b.node ≡ me → from ≤ next r → Ok (r, sent r.me to (Prepare (name_of r) b from) mails)
  prepared_one to r mails b from f own low =
      let h = f.newer ++ before in
      let k = f.replica in
      let up = next_after ahead base made h me r k in
      let more = more_steps ahead base made me (Prepared b from) h r k refl (λ c slot v e. cc)
      (λ c start e mine. (let same : from ≡ start = cc in omega (arith, same, low, up))) (λ runs slot v e. cc) in
      steps ahead base made heard me older before r r mails (record { from = r.me; to = to; body = Prepare (name_of r) b from }) (Prepared b from) f (asked_prepare (name_of r) base.core.id b from (name_is h r k)) (name_is h r k) own tt
      (λ c slot v e. cc) more (λ _. inl refl)

  -- what was offered in the row or before it
  abbrev pub HasOffered : ReplicaState → Ballot → ℕ → Command → List Mail → Type 0
  HasOffered r b slot c mails = (f : Ok (r, mails)) × Among (Offered b slot c) (f.newer ++ before)

  -- is offered again
  pub offered_again : (to : ℕ) (r : ReplicaState) (mails : List Mail) (b : Ballot) (slot : ℕ) (c : Command) → b.node ≡ me → HasOffered r b slot c mails → HasOffered r b slot c (sent r.me to (Accept (name_of r) b slot c) mails)
  unfolding steps
  offered_again to r mails b slot c own (f, a) =
      let h = f.newer ++ before in
      let k = f.replica in
      let there : (d : Ballot) (s : ℕ) (v : Command) → Offered b slot c ≡ Offered d s v → Among (Offered d s v) h = λ d s v e. subst (λ (x : Step Command). Among x h) e a in
      let more = more_steps ahead base made me (Offered b slot c) h r k refl (λ d s v e mine. k.tops d s v (there d s v e) mine)
      (λ d start e mine. cc) (λ runs s v e. (k.leads runs).offers s v (there r.leader.ballot s v e)) in (
        steps ahead base made heard me older before r r mails (record { from = r.me; to = to; body = Accept (name_of r) b slot c }) (Offered b slot c) f (asked_accept (name_of r) base.core.id b slot c (name_is h r k)) (name_is h r k) own
            (offer_again (rule ahead base) (first ahead base) h b slot c f.lawful a) (λ d s v e. f.requested d s v (there d s v e)) more (λ _. inl refl),
        inl refl,
      )

  -- a Learn of what was learnt keeps what holds
  pub learnt_one : (to : ℕ) (r : ReplicaState) (mails : List Mail) (slot : ℕ) (c : Command) → IsLearnt (rule ahead base) before slot c → Ok (r, mails) → Ok (r, sent r.me to (Learn (name_of r) slot c) mails)
  learnt_one to r mails slot c t f =
      says ahead base made heard me older before r mails (record { from = r.me; to = to; body = Learn (name_of r) slot c }) f refl (name_is (f.newer ++ before) r f.replica) (λ _. grown_learnt (rule ahead base) f.newer before slot c t)

  -- the executed state keeps it
  pub state_sent : (to : ℕ) (r : ReplicaState) (mails : List Mail) → Ok (r, mails) → Ok (r, sent r.me to (Install (name_of r) (next r - 1) (base_of r.group) r.sets) mails)
  state_sent to r mails f =
      let h = f.newer ++ before in
      let k = f.replica in
      let at = next_after ahead base made h me r k in
      let last : length k.whole ≡ next r - 1 = omega (arith, at) in
      says ahead base made heard me older before r mails (record { from = r.me; to = to; body = Install (name_of r) (next r - 1) (base_of r.group) r.sets }) f refl (name_is h r k)
      (λ _. record {
        log = k.whole;
        is_log = k.log_is.is_log;
        count = last;
        group_is = group_again r.group ∙ k.log_is.group_is;
        all_made = k.log_is.all_made;
        sets_are = subst (λ n. AreSets ahead base k.whole (n + 1) r.sets) last k.sets;
        many = k.count;
      })

  -- so does what names the group alone
  pub plain_said : (to : ℕ) (r : ReplicaState) (mails : List Mail) (body : MailBody) → Ok (r, mails) → proposer_steps base.core.id body ≡ [] → IsOwn ahead base heard body → ((h : Steps) (mail : Mail) → IsTrue ahead base made heard h mail body) → Ok (r, sent r.me to body mails)
  plain_said to r mails body f none own t = says ahead base made heard me older before r mails (record { from = r.me; to = to; body = body }) f none own (t (f.newer ++ before) (record { from = r.me; to = to; body = body }))

  -- an answer that is no reply says nothing
  abbrev pub IsDull : AnswerBody → Type 0
  IsDull answer = (h : Steps) (to seq : ℕ) → IsTrueAnswer ahead base h to seq answer

  answer_said : (r : ReplicaState) (group : Draw) (answer : AnswerBody) → group ≡ base.core.id → IsDull answer → (client seq : ℕ) (mails : List Mail) → Ok (r, mails) → Ok (r, sent r.me (client_actor client) (Answer group seq answer) mails)
  answer_said r group answer named dull client seq mails f =
      says ahead base made heard me older before r mails (record { from = r.me; to = client_actor client; body = Answer group seq answer }) f refl named (λ _. dull (f.newer ++ before) (client_actor client) seq)

  -- an answer that names no entry keeps what holds
  pub answered_one : (r : ReplicaState) (mails : List Mail) (group : Draw) (answer : AnswerBody) → group ≡ base.core.id → IsDull answer → (c : Command) → Ok (r, mails) → Ok (r, answered r.me group answer c mails)
  answered_one r mails group answer named dull c f = any_ends r.me group answer (λ ms. Ok (r, ms)) (answer_said r group answer named dull) c mails f

  -- ---- the reports of orders

  pub told_one : (r : ReplicaState) (mails : List Mail) (number : ℕ) (result : OrderResult) → Ok (r, mails) → Ok (r, order_reported r.me number result mails)
  unfolding order_reported
  told_one r mails number result f =
      cond_both (nat_lt 0 number) (sent r.me 0 (Told number result) mails) mails (λ ms. Ok (r, ms))
      (λ _. says ahead base made heard me older before r mails (record { from = r.me; to = 0; body = Told number result }) f refl tt tt) (λ _. f)

  -- ---- an election

  elected_replica : (h : Steps) (r : ReplicaState) → Replica h r → Replica h (elected r)
  elected_replica h r k = record {
    me_is = k.me_is;
    whole = k.whole;
    log_is = k.log_is;
    acceptor_is = k.acceptor_is;
    tops = λ b slot c a own. (let le = k.tops b slot c a own in omega (arith, le));
    prepares = k.prepares;
    count = k.count;
    sets = k.sets;
    backlog = k.backlog;
    acts = k.acts;
    flights = tt;
    ready = tt;
    leads = λ _. record {
      own = k.me_is;
      low = omega arith;
      first_is = λ e. cc;
      votes = [];
      promisers = refl;
      reports = refl;
      made = tt;
      offers = λ slot c a. (let le = k.tops (record { round = r.top.round + 1; node = r.me }) slot c a k.me_is in absurd (omega (arith, le)));
    };
  }

  -- an election that is begun keeps what holds
  pub fine_elected : (r : ReplicaState) (mails : List Mail) → Ok (r, mails) → Ok (elected_place (r, mails))
  fine_elected r mails f =
      let b : Ballot = record { round = r.top.round + 1; node = r.me } in
      let after : ReplicaState = elected r in
      all_sent r.me (λ ms. Ok (after, ms)) (Prepare (name_of r) b (next r)) (λ to ms q. prepared_one to after ms b (next r) q f.replica.me_is (omega arith)) (open_nodes r.sets) mails
      (turn ahead base made heard me older before r after mails f (elected_replica (f.newer ++ before) r f.replica))

  -- ---- an end

  ended_replica : (h : Steps) (r : ReplicaState) (hint : Option ℕ) → Replica h r → Replica h (stopped_one hint r)
  ended_replica h r hint k = record {
    me_is = k.me_is;
    whole = k.whole;
    log_is = k.log_is;
    acceptor_is = k.acceptor_is;
    tops = k.tops;
    prepares = k.prepares;
    count = k.count;
    sets = k.sets;
    backlog = tt;
    acts = tt;
    flights = tt;
    ready = tt;
    leads = λ e. cc;
  }

  -- the end of a leadership keeps what holds
  pub fine_ended : (hint : Option ℕ) (answer : AnswerBody) → IsDull answer → (r : ReplicaState) (mails : List Mail) → Ok (r, mails) → Ok (ended hint answer (r, mails))
  unfolding ended
  fine_ended hint answer dull r mails f =
      let named = name_is (f.newer ++ before) r f.replica in
      let says_so = answer_said r (name_of r) answer named dull in
      let told = all_queued_end r.me (name_of r) answer (λ ms. Ok (r, ms)) says_so hint (λ number ms q. told_one r ms number (Refused (NotLeader hint)) q) r.backlog (answered_all r.me (name_of r) answer (under_way r) mails)
      (all_end r.me (name_of r) answer (λ ms. Ok (r, ms)) says_so (under_way r) mails f) in
      turn ahead base made heard me older before r _ _ told (ended_replica (told.newer ++ before) r hint told.replica)

  -- a stop keeps what holds
  pub fine_stopped : (hint : Option ℕ) (r : ReplicaState) (mails : List Mail) → Ok (r, mails) → Ok (stopped hint (r, mails))
  fine_stopped hint r mails f = fine_ended hint (Says.NotLeader hint) (λ h to seq. tt) r mails f

  -- ---- a ballot that is seen

  seen_replica : (h : Steps) (r : ReplicaState) (b : Ballot) → r.top.round ≤ b.round → Replica h r → Replica h (record r { top = b })
  seen_replica h r b le k = record {
    me_is = k.me_is;
    whole = k.whole;
    log_is = k.log_is;
    acceptor_is = k.acceptor_is;
    tops = λ d slot c a own. (let low = k.tops d slot c a own in omega (arith, low, le));
    prepares = k.prepares;
    count = k.count;
    sets = k.sets;
    backlog = k.backlog;
    acts = k.acts;
    flights = k.flights;
    ready = k.ready;
    leads = λ runs. (let l = k.leads runs in
        record { own = l.own; low = (let low = l.low in omega (arith, low, le)); first_is = l.first_is; votes = l.votes; promisers = l.promisers; reports = l.reports; made = l.made; offers = l.offers });
  }

  -- a greater ballot that is seen keeps what holds
  pub fine_seen : (b : Ballot) (r : ReplicaState) (mails : List Mail) → below r.top b ≡ true → Ok (r, mails) → Ok (record r { top = b }, mails)
  fine_seen b r mails e f = turn ahead base made heard me older before r (record r { top = b }) mails f (seen_replica (f.newer ++ before) r b (below_round r.top b e) f.replica)

  -- and so it does where it stops the leader
  pub fine_overtaken : (b : Ballot) (r : ReplicaState) (mails : List Mail) → Ok (r, mails) → Ok (stopped (Some b.node) (cond (below r.top b) (record r { top = b }) r, mails))
  fine_overtaken b r mails f =
      fine_stopped (Some b.node) (cond (below r.top b) (record r { top = b }) r) mails (cond_both (below r.top b) (record r { top = b }) r (λ (after : ReplicaState). Ok (after, mails)) (λ e. fine_seen b r mails e f) (λ _. f))
