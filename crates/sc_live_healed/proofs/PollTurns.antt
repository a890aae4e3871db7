-- A poll ends with two rounds of mail: first all members that may get mail answer, and then who polls has counted them all, or has stopped.
use Rattle.std.proofs.Common.{◌≡◌, ℕ, ◌<◌, ◌≤◌, eqb, Bool, true, true≢false, List, [], ◌∷◌, ◌++◌, filter, Option, Some, ◌⊎◌, inl, inr, refl, sym, ◌∙◌, ap, subst, ◌*◌, length, count_by, arith}
use Rattle.std.proofs.lemmas.Bool.{cases_Bool, lt-ltb, eqb-true, eq-eqb}
use Rattle.sc_base.specs.Definitions.{Among, Each, is_member, votes_of}
use Rattle.sc_words.proofs.PaxosProofs.PaxosLemmas.{Each-among, Each-append, Each-filter, Each-weaker, Among-filter}
use Rattle.sc_paxos_law.proofs.Lemmas.{Among-left, Among-right, among-member}
use Rattle.sc_node_table.specs.Values.{Ballot, Draw, Base, Core, Mail, MailBody, Prepare, Promise, Nack, Install, Request}
use Rattle.sc_node_table.specs.NodeDefinitions.{group_of_mail, last_slot, mailed, prepare_row, next, ReplicaState, Place}
use Rattle.sc_paxos_law.proofs.Leading.{counts_within}
use Rattle.sc_live_healed.proofs.FixedWalks.{IsFresh, IsMember, IsSaid, IsFixedPlace}
use Rattle.sc_live_healed.proofs.MovedReplicas.{HasMoved, mailed_moves}
use Rattle.sc_live_healed.proofs.PollAnswers.{Answered, polls_are_answered, answers_count, majorities_settle}
use Rattle.sc_live_healed.proofs.PollRows.{IsAnswerMail, asked_says, asked_next, refused_next, state_next, promised_next, requested_next}
use Rattle.sc_live_healed.specs.HealedDefinitions.{IsFixedBody, IsSettledOrStopped, AnswersPoll, IsAnswerKind}

-- the replicas of one group, by node
abbrev pub Replicas : Type 0
Replicas = ℕ → Option ReplicaState

module _ (base : Base) (alive : ℕ → Bool) where
  -- a mail that a replica of the group takes
  abbrev pub IsOfGroup : Mail → Type 0
  IsOfGroup mail = group_of_mail mail.body ≡ Some base.core.id

  -- A replica of the group takes this mail: only it changes, and what it sends to actors that may get mail is pending.
  pub record IsTaken (before : Replicas) (mail : Mail) (after : Replicas) (new : List Mail) : Type 0 where
    pub of_group : IsOfGroup mail
    pub fresh : IsFresh base mail.to
    pub replica : ReplicaState
    pub was : before mail.to ≡ Some replica
    pub fixed : IsFixedPlace base mail.to (replica, [])
    pub heard : IsFixedBody base mail.from mail.to mail.body
    pub room : (group : Draw) (slot : ℕ) (state : Base) (sets : List (List ℕ)) → mail.body ≡ Install group slot state sets → slot ≤ last_slot
    pub fact : after mail.to ≡ Some (mailed mail.from mail.body (replica, [])).0.0
    pub others : (who : ℕ) → (who ≡ mail.to → ⊥) → after who ≡ before who
    pub sent : new ≡ filter (λ (m : Mail). alive m.to) (mailed mail.from mail.body (replica, [])).0.1

  -- A mail that is nothing to the group: no replica of the group changes, and no mail of the group is sent but requests.
  pub record IsPassed (before : Replicas) (mail : Mail) (after : Replicas) (new : List Mail) : Type 0 where
    pub other : IsOfGroup mail → ⊥
    pub same : (who : ℕ) → after who ≡ before who
    pub sent : Each (λ (m : Mail). IsOfGroup m → IsAnswerKind m.body) new

  -- What a delivery does to the replicas of the group.
  abbrev pub IsDelivered : Replicas → Mail → Replicas → List Mail → Type 0
  IsDelivered before mail after new = IsTaken before mail after new ⊎ IsPassed before mail after new

  module _ (n : ℕ) (n_alive : alive n ≡ true) (ballot : Ballot) (from_slot : ℕ) where
    -- who polls runs with the ballot still
    abbrev pub Polls : ReplicaState → Type 0
    Polls r = (r.running ≡ true) × (r.leader.ballot ≡ ballot)

    -- a mail of the poll
    abbrev pub IsAsked : Mail → Type 0
    IsAsked mail = (mail.from ≡ n) × (mail.body ≡ Prepare base.core.id ballot from_slot)

    -- each acceptor has forgotten executed slots alone
    abbrev pub AreFloored : Replicas → Type 0
    AreFloored c = (who : ℕ) (r : ReplicaState) → c who ≡ Some r → r.acceptor.floor < next r

    -- who polls has executed nothing since
    abbrev pub IsAt : Replicas → Type 0
    IsAt c = (r : ReplicaState) → c n ≡ Some r → Polls r → next r ≡ from_slot

    -- a question to this member is pending, whose ballot it has not promised
    abbrev pub IsPending : Replicas → List Mail → ℕ → Type 0
    IsPending c first m = (mail : Mail) × Among mail first × (mail.to ≡ m) × IsAsked mail × ((r : ReplicaState) → c m ≡ Some r → r.acceptor.promised ≡ ballot → ⊥)

    -- an answer of this member is pending
    abbrev pub IsAnswering : List Mail → ℕ → Type 0
    IsAnswering second m = (mail : Mail) × Among mail second × (mail.from ≡ m) × (mail.to ≡ n) × IsOfGroup mail × AnswersPoll ballot from_slot mail.body

    -- a mail answers, if it is of the group
    abbrev pub AnswersIfOfGroup : Mail → Type 0
    AnswersIfOfGroup mail = IsOfGroup mail → IsAnswerKind mail.body

    -- The first round: the mail of the poll, and behind it what its deliveries have sent.
    pub record FirstRound (c : Replicas) (first second : List Mail) : Type 0 where
      pub asks : Each (λ (mail : Mail). IsOfGroup mail → IsAsked mail) first
      pub answers : Each AnswersIfOfGroup second
      pub floored : AreFloored c
      pub at : IsAt c
      pub each : (m : ℕ) → IsMember base m → alive m ≡ true → (r : ReplicaState) → c n ≡ Some r → Polls r → IsPending c first m ⊎ IsAnswering second m

    -- The second round: the answers.
    pub record SecondRound (c : Replicas) (second : List Mail) : Type 0 where
      pub answers : Each AnswersIfOfGroup second
      pub floored : AreFloored c
      pub at : IsAt c
      pub each : (m : ℕ) → IsMember base m → alive m ≡ true → (r : ReplicaState) → c n ≡ Some r → Polls r → (is_member r.leader.promisers m ≡ true) ⊎ IsAnswering second m

    -- ---- one delivery

    -- an answer of a group is of that group
    answer_of_group : (from to : ℕ) (body : MailBody) → AnswersPoll ballot from_slot body → IsFixedBody base from to body → group_of_mail body ≡ Some base.core.id
    answer_of_group from to (Promise group promised reports) a h = ap (λ (name : Draw). Some name) h.0
    answer_of_group from to (Nack group promised) a h = ap (λ (name : Draw). Some name) h.0
    answer_of_group from to (Install group slot state sets) a h = ap (λ (name : Draw). Some name) h.0
    answer_of_group from to _ a h = absurd a

    -- the replica of a node is the one that it is
    pub one_replica : (c : Replicas) (who : ℕ) (r x : ReplicaState) → c who ≡ Some r → c who ≡ Some x → r ≡ x
    one_replica c who r x e f = (let same : Some r ≡ Some x = sym e ∙ f in cc)

    module _ (c : Replicas) (mail : Mail) (after : Replicas) (new : List Mail) (t : IsTaken c mail after new) (low : AreFloored c) where
      abbrev pub place : Place
      place = (mailed mail.from mail.body (t.replica, [])).0

      pub moves : IsFixedPlace base mail.to place × HasMoved ⊥ t.replica mail.body place
      moves = mailed_moves base mail.to t.fresh ⊥ t.replica mail.from mail.body (low mail.to t.replica t.was) t.heard t.fixed

      pub floored_after : AreFloored after
      floored_after who r e =
          elim (cases_Bool (eqb who mail.to)) [
            | inl y ↦ (let fact : place.0 ≡ r = one_replica after mail.to place.0 r t.fact (ap after (sym (eqb-true who mail.to y)) ∙ e) in subst (λ (x : ReplicaState). x.acceptor.floor < next x) fact moves.1.floored)
            | inr f ↦ low who r (sym (t.others who (λ same. true≢false (sym (eq-eqb who mail.to same) ∙ f))) ∙ e)
          ]

      -- who polls now polled before
      pub polled_before : (r : ReplicaState) → mail.to ≡ n → after n ≡ Some r → Polls r → (place.0 ≡ r) × Polls t.replica × ((m : ℕ) → is_member t.replica.leader.promisers m ≡ true → is_member r.leader.promisers m ≡ true)
      polled_before r is_n e p =
          let same : place.0 ≡ r = one_replica after mail.to place.0 r t.fact (ap after is_n ∙ e) in
          (let b = by same (moves.1.leads (ap (λ (x : ReplicaState). x.running) same ∙ p.0)) in (same, b.0, b.1))
        where
          by : place.0 ≡ r → ⊥ ⊎ ((t.replica.running ≡ true) × (place.0.leader.ballot ≡ t.replica.leader.ballot) × (place.0.leader.is_first ≡ t.replica.leader.is_first) × ((node : ℕ) → is_member t.replica.leader.promisers node ≡ true → is_member place.0.leader.promisers node ≡ true))
              → Polls t.replica × ((m : ℕ) → is_member t.replica.leader.promisers m ≡ true → is_member r.leader.promisers m ≡ true)
          by same (inl x) = absurd x
          by same (inr l) = ((l.0, sym l.1 ∙ (ap (λ (x : ReplicaState). x.leader.ballot) same ∙ p.1)), λ m k. subst (λ (x : ReplicaState). is_member x.leader.promisers m ≡ true) same (l.3 m k))

    -- ---- the first round

    row_is : (from : ℕ) (body : MailBody) (r : ReplicaState) → body ≡ Prepare base.core.id ballot from_slot → (mailed from body (r, [])).0 ≡ prepare_row from ballot from_slot (r, [])
    unfolding mailed
    row_is from body r e = ap (λ (b : MailBody). (mailed from b (r, [])).0) e

    -- who takes the mail, or another
    pub is_or_not : (who to : ℕ) → (who ≡ to) ⊎ (who ≡ to → ⊥)
    is_or_not who to = elim (cases_Bool (eqb who to)) [ inl y ↦ inl (eqb-true who to y) | inr f ↦ inr (λ same. true≢false (sym (eq-eqb who to same) ∙ f)) ]

    answers_so : (mail : Mail) → IsAnswerMail mail → AnswersIfOfGroup mail
    answers_so mail (inl kind) g = kind
    answers_so mail (inr none) g = absurd (cc)

    module _ (c : Replicas) (mail : Mail) (first second : List Mail) (after : Replicas) (new : List Mail) (k : FirstRound c (mail ∷ first) second) (t : IsTaken c mail after new) where
      asked : IsAsked mail
      asked = k.asks.0 t.of_group

      abbrev row : Place
      row = (mailed mail.from mail.body (t.replica, [])).0

      is_row : row ≡ prepare_row mail.from ballot from_slot (t.replica, [])
      is_row = row_is mail.from mail.body t.replica asked.1

      new_answers : Each AnswersIfOfGroup new
      new_answers =
          let said : Each IsAnswerMail row.1 = subst (λ (p : Place). Each IsAnswerMail p.1) (sym is_row) (asked_says mail.from ballot from_slot t.replica) in
          subst (Each AnswersIfOfGroup) (sym t.sent) (Each-filter AnswersIfOfGroup (λ (m : Mail). alive m.to) row.1 (Each-weaker IsAnswerMail AnswersIfOfGroup answers_so row.1 said))

      -- who polled before
      was_polling : (r : ReplicaState) → after n ≡ Some r → Polls r → (before : ReplicaState) × (c n ≡ Some before) × Polls before × (next r ≡ next before)
      was_polling r e p = elim (is_or_not n mail.to) [
        | inl same ↦ (let b = polled_before c mail after new t k.floored r (sym same) e p in
            (t.replica, ap c same ∙ t.was, b.1, ap next (sym b.0) ∙ (ap (λ (q : Place). next q.0) is_row ∙ asked_next mail.from ballot from_slot t.replica)))
        | inr other ↦ (r, sym (t.others n other) ∙ e, p, refl)
      ]

      -- the member that is asked answers
      answered_now : (m : ℕ) → m ≡ mail.to → ((r : ReplicaState) → c m ≡ Some r → r.acceptor.promised ≡ ballot → ⊥) → IsAnswering new m
      answered_now m same unpromised =
          let a : Answered t.replica.me mail.from ballot from_slot row.1 = subst (λ (p : Place). Answered t.replica.me mail.from ballot from_slot p.1) (sym is_row) (polls_are_answered mail.from ballot from_slot t.replica [] (unpromised t.replica (ap c same ∙ t.was)) (k.floored mail.to t.replica t.was)) in
          let said = Each-among (IsSaid base mail.to) row.1 a.0 (moves c mail after new t k.floored).0.said a.1 in
          let to_n : a.0.to ≡ n = a.3 ∙ asked.0 in
          (a.0, subst (Among a.0) (sym t.sent) (Among-filter (λ (x : Mail). alive x.to) row.1 a.0 a.1 (ap alive to_n ∙ n_alive)), a.2 ∙ (t.fixed.me_is ∙ sym same), to_n, answer_of_group mail.to a.0.to a.0.body a.4 said.1, a.4)

      still_waits : (m : ℕ) → IsPending c (mail ∷ first) m → IsPending after first m ⊎ IsAnswering (second ++ new) m
      still_waits m q = elim (is_or_not m mail.to) [
        | inl same ↦ (let a = answered_now m same q.4 in inr (a.0, Among-right a.0 second new a.1, a.2, a.3, a.4, a.5))
        | inr other ↦ elim q.1 [
          | inl head ↦ absurd (other (sym q.2 ∙ ap (λ (x : Mail). x.to) (sym head)))
          | inr tail ↦ inl (q.0, tail, q.2, q.3, λ r e. q.4 r (sym (t.others m other) ∙ e))
        ]
      ]

      first_taken : FirstRound after first (second ++ new)
      first_taken = record {
        asks = k.asks.1;
        answers = Each-append AnswersIfOfGroup second new k.answers new_answers;
        floored = floored_after c mail after new t k.floored;
        at = λ r e p. (let b = was_polling r e p in b.3 ∙ k.at b.0 b.1 b.2);
        each = λ m member lives r e p. (let b = was_polling r e p in elim (k.each m member lives b.0 b.1 b.2) [
          | inl q ↦ still_waits m q
          | inr a ↦ inr (a.0, Among-left a.0 second new a.1, a.2, a.3, a.4, a.5)
        ]);
      }

    -- a mail of the poll is of the group
    asked_of_group : (mail : Mail) → IsAsked mail → IsOfGroup mail
    asked_of_group mail a = ap group_of_mail a.1

    pub first_step : (c : Replicas) (mail : Mail) (first second : List Mail) (after : Replicas) (new : List Mail) → FirstRound c (mail ∷ first) second → IsDelivered c mail after new → FirstRound after first (second ++ new)
    first_step c mail first second after new k (inl t) = first_taken c mail first second after new k t
    first_step c mail first second after new k (inr p) = record {
      asks = k.asks.1;
      answers = Each-append AnswersIfOfGroup second new k.answers p.sent;
      floored = λ who r e. k.floored who r (sym (p.same who) ∙ e);
      at = λ r e q. k.at r (sym (p.same n) ∙ e) q;
      each = λ m member lives r e q. elim (k.each m member lives r (sym (p.same n) ∙ e) q) [
        | inl w ↦ elim w.1 [
          | inl head ↦ absurd (p.other (subst IsOfGroup (sym head) (asked_of_group w.0 w.3)))
          | inr tail ↦ inl (w.0, tail, w.2, w.3, λ x f. w.4 x (sym (p.same m) ∙ f))
        ]
        | inr a ↦ inr (a.0, Among-left a.0 second new a.1, a.2, a.3, a.4, a.5)
      ];
    }

    -- the first round begins where each member is asked, and none has promised the ballot
    pub first_begins : (c : Replicas) (first : List Mail) → Each (λ (mail : Mail). IsOfGroup mail → IsAsked mail) first → AreFloored c → IsAt c → ((m : ℕ) → IsMember base m → alive m ≡ true → Among (record { from = n; to = m; body = Prepare base.core.id ballot from_slot }) first)
        → ((m : ℕ) (r : ReplicaState) → c m ≡ Some r → r.acceptor.promised ≡ ballot → ⊥) → FirstRound c first []
    first_begins c first asks floored at each unpromised = record {
      asks = asks;
      answers = tt;
      floored = floored;
      at = at;
      each = λ m member lives r e p. inl (record { from = n; to = m; body = Prepare base.core.id ballot from_slot }, each m member lives, refl, (refl, refl), unpromised m);
    }

    -- the second round begins where the mail of the poll is delivered
    pub second_begins : (c : Replicas) (second : List Mail) → FirstRound c [] second → SecondRound c second
    second_begins c second k = record {
      answers = k.answers;
      floored = k.floored;
      at = k.at;
      each = λ m member lives r e p. elim (k.each m member lives r e p) [ inl q ↦ absurd q.1 | inr a ↦ inr a ];
    }

    -- ---- the second round

    -- an answer executes nothing at a replica that goes on running
    answer_next : (from : ℕ) (body : MailBody) (r : ReplicaState) → IsAnswerKind body → IsFresh base n → r.acceptor.floor < next r → r.running ≡ true → IsFixedBody base from n body → IsFixedPlace base n (r, []) → (mailed from body (r, [])).0.0.running ≡ true → next (mailed from body (r, [])).0.0 ≡ next r
    unfolding mailed
    answer_next from (Promise group promised reports) r kind fresh low on h f on2 = promised_next base n fresh from promised reports group r low on h f
    answer_next from (Nack group promised) r kind fresh low on h f on2 = refused_next promised r
    answer_next from (Install group slot state sets) r kind fresh low on h f on2 = state_next from slot state sets r (ap (λ (core : Core). is_member core.members from) h.2 ∙ h.1.0) on2
    answer_next from (Request group client seq op) r kind fresh low on h f on2 = requested_next base n fresh from group client seq op r low h f
    answer_next from _ r kind fresh low on h f on2 = absurd kind

    module _ (c : Replicas) (mail : Mail) (second : List Mail) (after : Replicas) (new : List Mail) (k : SecondRound c (mail ∷ second)) (t : IsTaken c mail after new) where
      at_taken : (r : ReplicaState) → after n ≡ Some r → Polls r → n ≡ mail.to → next r ≡ from_slot
      at_taken r e p same =
          let b = polled_before c mail after new t k.floored r (sym same) e p in
          let fresh : IsFresh base n = subst (IsFresh base) (sym same) t.fresh in
          let heard : IsFixedBody base mail.from n mail.body = subst (λ (to : ℕ). IsFixedBody base mail.from to mail.body) (sym same) t.heard in
          let fixed : IsFixedPlace base n (t.replica, []) = subst (λ (to : ℕ). IsFixedPlace base to (t.replica, [])) (sym same) t.fixed in
          let on : (mailed mail.from mail.body (t.replica, [])).0.0.running ≡ true = ap (λ (x : ReplicaState). x.running) b.0 ∙ p.0 in
          ap next (sym b.0) ∙ (answer_next mail.from mail.body t.replica (k.answers.0 t.of_group) fresh (k.floored mail.to t.replica t.was) b.1.0 heard fixed on ∙ k.at t.replica (ap c same ∙ t.was) b.1)

      counted_now : (m : ℕ) (r : ReplicaState) → after n ≡ Some r → Polls r → n ≡ mail.to → mail.from ≡ m → AnswersPoll ballot from_slot mail.body → is_member r.leader.promisers m ≡ true
      counted_now m r e p same from a =
          let b = polled_before c mail after new t k.floored r (sym same) e p in
          let on : (mailed mail.from mail.body (t.replica, [])).0.0.running ≡ true = ap (λ (x : ReplicaState). x.running) b.0 ∙ p.0 in
          let counted = answers_count base mail.to t.fresh mail.from ballot from_slot mail.body t.replica (k.floored mail.to t.replica t.was) b.1.0 b.1.1 (k.at t.replica (ap c same ∙ t.was) b.1) t.room a t.heard t.fixed on in
          subst (λ (x : ReplicaState). is_member x.leader.promisers m ≡ true) b.0 (subst (λ (node : ℕ). is_member (mailed mail.from mail.body (t.replica, [])).0.0.leader.promisers node ≡ true) from counted)

      each_taken : (m : ℕ) → IsMember base m → alive m ≡ true → (r : ReplicaState) → after n ≡ Some r → Polls r → (is_member r.leader.promisers m ≡ true) ⊎ IsAnswering second m
      each_taken m member lives r e p = elim (is_or_not n mail.to) [
        | inl same ↦ (let b = polled_before c mail after new t k.floored r (sym same) e p in elim (k.each m member lives t.replica (ap c same ∙ t.was) b.1) [
          | inl counted ↦ inl (b.2 m counted)
          | inr a ↦ elim a.1 [
            | inl head ↦ inl (counted_now m r e p same (ap (λ (x : Mail). x.from) head ∙ a.2) (subst (λ (x : Mail). AnswersPoll ballot from_slot x.body) (sym head) a.5))
            | inr tail ↦ inr (a.0, tail, a.2, a.3, a.4, a.5)
          ]
        ])
        | inr other ↦ elim (k.each m member lives r (sym (t.others n other) ∙ e) p) [
          | inl counted ↦ inl counted
          | inr a ↦ elim a.1 [
            | inl head ↦ absurd (other (sym a.3 ∙ ap (λ (x : Mail). x.to) (sym head)))
            | inr tail ↦ inr (a.0, tail, a.2, a.3, a.4, a.5)
          ]
        ]
      ]

    pub second_step : (c : Replicas) (mail : Mail) (second : List Mail) (after : Replicas) (new : List Mail) → SecondRound c (mail ∷ second) → IsDelivered c mail after new → SecondRound after second
    second_step c mail second after new k (inl t) = record {
      answers = k.answers.1;
      floored = floored_after c mail after new t k.floored;
      at = λ r e p. elim (is_or_not n mail.to) [ inl same ↦ at_taken c mail second after new k t r e p same | inr other ↦ k.at r (sym (t.others n other) ∙ e) p ];
      each = λ m member lives r e p. each_taken c mail second after new k t m member lives r e p;
    }
    second_step c mail second after new k (inr p) = record {
      answers = k.answers.1;
      floored = λ who r e. k.floored who r (sym (p.same who) ∙ e);
      at = λ r e q. k.at r (sym (p.same n) ∙ e) q;
      each = λ m member lives r e q. elim (k.each m member lives r (sym (p.same n) ∙ e) q) [
        | inl counted ↦ inl counted
        | inr a ↦ elim a.1 [
          | inl head ↦ absurd (p.other (subst IsOfGroup (sym head) a.4))
          | inr tail ↦ inr (a.0, tail, a.2, a.3, a.4, a.5)
        ]
      ];
    }

    -- ---- the end

    -- After both rounds who polls is settled, where more than half of the members may get mail.
    pub polls_end_settled : (c : Replicas) (r : ReplicaState) → IsFresh base n → SecondRound c [] → c n ≡ Some r → IsFixedPlace base n (r, []) → r.leader.ballot ≡ ballot → length base.core.members < 2 * count_by alive base.core.members → IsSettledOrStopped r
    polls_end_settled c r fresh k e f same most on =
        let counted = counts_within alive (is_member r.leader.promisers) base.core.members (λ m a lives. elim (k.each m (among-member base.core.members m a) lives r e (on, same)) [ inl yes_ ↦ yes_ | inr q ↦ absurd q.1 ]) in
        majorities_settle base n fresh r f (lt-ltb (length base.core.members) (2 * votes_of base.core.members r.leader.promisers) (omega (arith, counted, most))) on
