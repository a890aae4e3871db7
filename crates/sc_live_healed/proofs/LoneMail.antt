-- What a replica does with one mail while one client asks alone: its own requests are all that is under way, the request that waits stays held or its client is answered, and a request that is heard is held or its client is answered.
use Rattle.std.proofs.Common.{◌≡◌, ℕ, ◌+◌, ◌≤◌, ◌<◌, ◌&&◌, not, nat_le, leb, ltb, eqb, Bool, true, false, List, [], ◌∷◌, ◌++◌, length, Option, Some, None, ◌⊎◌, inl, inr, refl, sym, ap, subst, arith}
use Rattle.std.proofs.lemmas.Bool.{cond_both, leb-true, ltb-true, and_parts, eq-eqb, and_from}
use Rattle.sc_base.specs.Definitions.{Among}
use Rattle.sc_node_table.specs.Values.{Draw, Op, Reply, Route, Command, Call, Base, Core, AnswerBody, Value, NotLeader, NotMine, Gone, Stale, Mail, MailBody, Request, Learn}
use Rattle.sc_words.specs.ideal.IdealDefinitions.{holds_key, key_of}
use Rattle.sc_words.proofs.PaxosProofs.PaxosLemmas.{Each-among}
use Rattle.sc_node_table.specs.NodeDefinitions.{ReplicaState, Place, next, name_of, at_slot, mailed, admits_requests, request_refusal, refused_at, requested, queued, request_row, queued_number, without_request, pumped, answer_to}
use Rattle.sc_live_plain.specs.PlainDefinitions.{takers}
use Rattle.sc_live_plain.proofs.LeadersProofs.LeadingReplicas.{in_range}
use Rattle.sc_live_plain.proofs.PlainRowsProofs.SlotCounts.{at_none, one_if, one_if_most}
use Rattle.sc_live_plain.proofs.PlainRowsProofs.RepeatedMail.{last_among}
use Rattle.sc_live_healed.specs.HealedDefinitions.{IsFixedReplica, IsFixedBody, TakesSlots}
use Rattle.sc_live_healed.proofs.FixedWalks.{FixedWalk, IsFresh, IsFixedPlace}
use Rattle.sc_live_healed.proofs.FixedParts.{request_taken}
use Rattle.sc_live_healed.proofs.FixedPumps.{pumps}
use Rattle.sc_live_healed.proofs.FixedRows.{takes_mail}
use Rattle.sc_live_healed.proofs.FixedBesides.{both_walk}
use Rattle.sc_law_walks.proofs.WalkLemmas.{redirects}
use Rattle.sc_live_healed.proofs.TakenRequests.{is_call, AreApart, IsHeld, Queued, IsAtMost, reply_mail, queued_there}
use Rattle.sc_live_healed.proofs.HeldRequests.{HasFew, HeldOr, Answers}
use Rattle.sc_live_healed.proofs.HeldRequestRows.{held_walk}
use Rattle.sc_live_healed.proofs.NumberedRequests.{IsFewBody, IsFewPlace, few_facts, few_states}
use Rattle.sc_live_healed.proofs.LoneRequests as lone
use Rattle.sc_live_healed.proofs.LoneRequestRows.{lone_walk, served_so}

-- ---- slots

-- the slots that are taken are apart
pub apart_of : (base : Base) (r : ReplicaState) → IsFixedReplica base r → TakesSlots base r → AreApart r
apart_of base r f t = record {
  once = λ s. (let o = t.slots.once s in let most = one_if_most (in_range (next r) t.taken s) in omega (arith, o, most));
  open_ = λ s some. by s some (in_range (next r) t.taken s) refl;
}
  where
    by : (s : ℕ) → 1 ≤ takers r s → (b : Bool) → in_range (next r) t.taken s ≡ b → (next r ≤ s) × (s < next r + length r.sets)
    by s some true e =
        let both = and_parts (leb (next r) s) (ltb s (next r + t.taken)) e in
        let low = leb-true (next r) s both.0 in
        let high = ltb-true s (next r + t.taken) both.1 in
        let most = t.slots.most in
        let many = ap (λ (sets : List (List ℕ)). length sets) f.sets in (low, omega (arith, high, most, many))
    by s some false e = (let o = t.slots.once s in let none = ap one_if e in absurd (omega (arith, some, o, none)))

-- nothing is ready at the next slot
pub unready_of : (base : Base) (r : ReplicaState) → TakesSlots base r → at_slot r.ready (next r) ≡ None
unready_of base r t = at_none r.ready (next r) t.executed

-- ---- refusals

-- why a request is refused sends its client on
pub refusal_redirects : (gone : Option Route) (core : Core) (running : Bool) (hint : Option ℕ) (op : Op) (answer : AnswerBody) → request_refusal gone core running hint op ≡ Some answer → redirects answer ≡ true
refusal_redirects (Some into) core running hint op answer e = (let same : Gone into ≡ answer = cc in ap redirects (sym same))
refusal_redirects None core false hint op answer e = (let same : NotLeader hint ≡ answer = cc in ap redirects (sym same))
refusal_redirects None core true hint op answer e =
    cond_both (admits_requests core.lock && not (holds_key core.arc (key_of op))) (Some (NotMine core.arc core.succ)) None (λ (o : Option AnswerBody). o ≡ Some answer → redirects answer ≡ true)
    (λ _ q. (let same : NotMine core.arc core.succ ≡ answer = cc in ap redirects (sym same))) (λ _ q. absurd (cc)) e

-- an answer that a client takes notice of, from the node that it asked: a reply, or one that sends it on
abbrev pub IsReplyOrRedirect : AnswerBody → Type 0
IsReplyOrRedirect answer = (redirects answer ≡ true) ⊎ ((reply : Reply) × (answer ≡ Value reply))

answers_reply_or_redirect : (answer : AnswerBody) → Answers answer → IsReplyOrRedirect answer
answers_reply_or_redirect (Value reply) a = inr (reply, refl)
answers_reply_or_redirect (NotLeader (Some hint)) a = inl refl
answers_reply_or_redirect (NotLeader None) a = absurd a
answers_reply_or_redirect (NotMine arc succ) a = absurd a
answers_reply_or_redirect (Gone into) a = absurd a
answers_reply_or_redirect (Stale last) a = absurd a

module _ (base : Base) (me : ℕ) (born : IsFresh base me) (client first seq : ℕ) where
  abbrev few_walk : FixedWalk base me
  few_walk = both_walk base me born (few_facts client seq base me) (few_states client seq base me)

  -- a replica that a mail finds
  pub record Finds (start : ReplicaState) : Type 0 where
    pub fixed : IsFixedPlace base me (start, [])
    pub few : IsFewPlace client seq (start, [])
    pub leads : start.running ≡ true → lone.LeadsAlone client first start

  -- a mail that it takes
  pub record Heard (from : ℕ) (body : MailBody) : Type 0 where
    pub says : IsFixedBody base from me body
    pub few : IsFewBody client seq body
    pub alone : lone.IsLoneBody client first body

  module _ (early : Bool) (Elsewhere : Type 0) (late : early ≡ true → first ≡ seq) where
    abbrev alone_walk : FixedWalk base me
    alone_walk = lone_walk base me client first seq early Elsewhere few_walk (λ r mails k. k.1) late

    -- a row of mail leaves the client's own requests alone under way
    pub mailed_lone : (from : ℕ) (body : MailBody) (start : ReplicaState) → Heard from body → Elsewhere ⊎ lone.IsUnlearnt client first seq early Elsewhere body → Finds start → lone.IsHidden client first seq early Elsewhere (start, []) → lone.IsLonePlace client first seq early Elsewhere (mailed from body (start, [])).0
    mailed_lone from body start h u k hidden = (takes_mail base me alone_walk from body (start, []) ((h.says, h.few), (h.alone, u)) tt ((k.fixed, k.few), (record { leads = k.leads; said = tt }, hidden))).0.1

  -- ---- the request, where no reply to it is under way

  module _ (early : Bool) (late : early ≡ true → first ≡ seq) where
    abbrev Unlearnt : MailBody → Type 0
    Unlearnt body = lone.IsUnlearnt client first seq early ⊥ body

    abbrev Hidden : Place → Type 0
    Hidden place = lone.IsHidden client first seq early ⊥ place

    abbrev L : FixedWalk base me
    L = alone_walk early ⊥ late

    few_held : (r : ReplicaState) (mails : List Mail) → L.P (r, mails) → HasFew client seq r
    few_held r mails k = record { backlog = k.0.1.held.0; flights = k.0.1.held.2; ready = k.0.1.held.4 }

    abbrev W : FixedWalk base me
    W = held_walk base me client seq ⊥ L few_held (λ r mails op k e. served_so base me client first seq early ⊥ few_walk (λ x ms q. q.1) late r mails op k.0 e) (λ from group c s op h same. h.0.1 same)

    -- a leader holds the request, or its client is answered
    abbrev pub IsServed : Place → Type 0
    IsServed place = ((place.0.running ≡ true) × IsHeld client seq place.0) ⊎ ((answer : AnswerBody) × IsReplyOrRedirect answer × Among (reply_mail client seq me base.core.id answer) place.1)

    serves : (place : Place) → HeldOr base me client seq ⊥ place → IsServed place
    serves place (inl no_way) = absurd no_way
    serves place (inr (inl held)) = inl held
    serves place (inr (inr reported)) = inr (reported.0, answers_reply_or_redirect reported.0 reported.1, reported.2)

    -- a mail brings no Learn of the request
    abbrev Unheard : MailBody → Type 0
    Unheard (Learn group slot command) = ⊥ ⊎ (is_call client seq command ≡ false)
    Unheard _ = Unit {0}

    not_learnt : (group : Draw) (slot : ℕ) (command : Command) → Unlearnt (Learn group slot command) → ⊥ ⊎ (is_call client seq command ≡ false)
    not_learnt group slot command u = inr u.1

    start_of : (start : ReplicaState) → Finds start → Hidden (start, []) → L.P (start, [])
    start_of start k hidden = ((k.fixed, k.few), (record { leads = k.leads; said = tt }, hidden))

    -- whatever comes, a request that is held stays so, or its client is answered
    pub mailed_held : (from : ℕ) (body : MailBody) (start : ReplicaState) → Heard from body → Unlearnt body → Finds start → Hidden (start, []) → AreApart start → at_slot start.ready (next start) ≡ None → start.running ≡ true → IsHeld client seq start → IsServed (mailed from body (start, [])).0
    mailed_held from body start h u k hidden apart unready on held =
        serves (mailed from body (start, [])).0
        (takes_mail base me W from body (start, []) (((h.says, h.few), (h.alone, inr u)), by body u) (tt, λ _. unready) (start_of start k hidden, (apart, inr (inl (on, held))))).0.1.1
      where
        by : (body : MailBody) → Unlearnt body → Unheard body
        by (Learn group slot command) u = not_learnt group slot command u
        by _ u = tt

    -- ---- the request itself

    -- with the request in its queue
    pumped_served : (r : ReplicaState) → L.P (r, []) → AreApart r → r.running ≡ true → IsHeld client seq r → IsServed (pumped (r, []))
    pumped_served r k apart on held = serves (pumped (r, [])) (pumps base me W (r, []) (k, (apart, inr (inl (on, held))))).1.1

    queued_served : (from : ℕ) (group : Draw) (op : Op) (start : ReplicaState) (o : Option ℕ) → Heard from (Request group client seq op) → Finds start → Hidden (start, []) → AreApart start → start.running ≡ true → refused_at start.group.core.gone op start ≡ None → queued_number start.backlog client ≡ o → IsServed (queued o client seq op (start, []))
    unfolding queued
    queued_served from group op start None h k hidden apart on may e =
        pumped_served (record start { backlog = start.backlog ++ Call client seq op ∷ [] }) (L.requested from group client seq op start [] ((h.says, h.few), (h.alone, inr tt)) may e (start_of start k hidden))
        (record { once = apart.once; open_ = apart.open_ }) on (Queued (Call client seq op) (last_among start.backlog (Call client seq op)) (ours op))
      where
        ours : (op : Op) → is_call client seq (Call client seq op) ≡ true
        ours op = and_from (eqb client client) (eqb seq seq) (eq-eqb client client refl) (eq-eqb seq seq refl)
    queued_served from group op start (Some other) h k hidden apart on may e =
        cond_both (nat_le seq other) (start, []) (pumped (record start { backlog = without_request start.backlog client ++ Call client seq op ∷ [] }, [])) IsServed
        (λ t. (
        let there = queued_there client seq client start.backlog other e in
        let up = leb-true seq other t in
        let most : other ≤ seq = Each-among (IsAtMost client seq) start.backlog (Call client other there.0) k.few.held.0 there.1 refl in
        let same : other ≡ seq = omega (arith, up, most) in
        inl (on, Queued (Call client other there.0) there.1 (and_from (eqb client client) (eqb other seq) (eq-eqb client client refl) (eq-eqb other seq same)))))
        (λ f. pumped_served (record start { backlog = without_request start.backlog client ++ Call client seq op ∷ [] }) (L.requested_again from group client seq other op start [] ((h.says, h.few), (h.alone, inr tt)) may e f (start_of start k hidden))
        (record { once = apart.once; open_ = apart.open_ }) on (Queued (Call client seq op) (last_among (without_request start.backlog client) (Call client seq op)) (and_from (eqb client client) (eqb seq seq) (eq-eqb client client refl) (eq-eqb seq seq refl))))

    requested_served : (from : ℕ) (group : Draw) (op : Op) (start : ReplicaState) (o : Option AnswerBody) → Heard from (Request group client seq op) → Finds start → Hidden (start, []) → AreApart start → refused_at start.group.core.gone op start ≡ o → IsServed (requested o client seq op (start, []))
    unfolding requested
    requested_served from group op start (Some answer) h k hidden apart e =
        inr (
          answer,
          inl (refusal_redirects start.group.core.gone start.group.core start.running start.hint op answer e),
          subst (λ n. Among (reply_mail client seq n base.core.id answer) (answer_to start.me (name_of start) client seq answer [])) k.fixed.me_is
              (subst (λ d. Among (reply_mail client seq start.me d answer) (answer_to start.me (name_of start) client seq answer [])) (ap (λ (core : Core). core.id) k.fixed.fixed.group) (inl refl)),
        )
    requested_served from group op start None h k hidden apart e =
        queued_served from group op start (queued_number start.backlog client) h k hidden apart (request_taken base me born client seq op start k.fixed.fixed.group e).0 e refl

    -- a request that is heard is held, or its client is answered
    pub mailed_asked : (from : ℕ) (group : Draw) (op : Op) (start : ReplicaState) → Heard from (Request group client seq op) → Finds start → Hidden (start, []) → AreApart start → IsServed (mailed from (Request group client seq op) (start, [])).0
    unfolding mailed request_row
    mailed_asked from group op start h k hidden apart = requested_served from group op start (refused_at start.group.core.gone op start) h k hidden apart refl
