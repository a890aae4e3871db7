-- The rows in which an acceptor promises or accepts.
use Rattle.std.proofs.Common.{◌≡◌, ℕ, ◌&&◌, ◌||◌, not, nat_le, nat_lt, true, false, cond, eqb, List, [], ◌∷◌, ◌++◌, Option, Some, inl, inr, refl, sym, ◌∙◌, ap, subst, append-nil, arith}
use Rattle.std.specs.List.{flat_map, list_any}
use Rattle.std.proofs.lemmas.Bool.{eq-eqb, leb-false, and_parts, and_from, cond-true, cond_both}
use Rattle.sc_node_table.specs.Values.{Ballot, Draw, Command, Base, AnswerBody, Mail, MailBody, Request, Answer, Promise, Accepted as AcceptedMail, Nack, Ask, Install, Told, TxElsewhere, OrderResult, Refused, Report, PrepareAnswer, AcceptAnswer}
use Rattle.sc_base.specs.Definitions.{same_draw, same_ballot, Among, Each}
use Rattle.sc_words.specs.declared.commands.orders.OrderRefusal.TheVariants.{NotLeader}
use Rattle.sc_words.specs.paxos.PaxosDefinitions.{AcceptorState, may_promise, may_accept, after_promise, after_accept, reports_from, below}
use Rattle.sc_words.proofs.PaxosProofs.PaxosLemmas.{Each-weaker, Each-append}
use Rattle.sc_paxos_law.specs.PaxosLawDefinitions.{Step, Prepared, Promised, Offered, Accepted, state_of, IsLawfulStep, IsLawfulHistory}
use Rattle.sc_paxos_law.proofs.Lemmas.{Among-right, Among-either}
use Rattle.sc_node_table.specs.NodeDefinitions.{answer_to, sent, order_reported, install_to, ended, saw, ReplicaState, Place, name_of, hinted, promise_to, promised, prepare_row, accepted_to, took, accept_row}
use Rattle.sc_meaning.specs.sound.SoundDefinitions.{is_accepted, Ahead}
use Rattle.sc_law_walks.proofs.EndedRequests.{all_end, all_queued_end}
use Rattle.sc_law_groups.specs.group.GroupDefinitions.{asked_in, promised_by}
use Rattle.sc_law_groups.proofs.GroupProofs.Growth.{By, later_learnt}
use Rattle.sc_law_groups.proofs.GroupProofs.ForgottenEntries.{Mirrors, promise_mirrors, accept_mirrors}
use Rattle.sc_law_groups.proofs.GroupProofs.Invariant.{Steps, rule, first, later_has, IsReplica, queued_replica, IsOwn, IsTrue, later_flying, grown_true, OffersMade}
use Rattle.sc_law_groups.proofs.GroupProofs.Speech.{Speaks}
use Rattle.sc_law_groups.proofs.GroupProofs.Midway.{Fine, asked_push, says}
use Rattle.sc_law_groups.proofs.GroupProofs.Sending.{name_is, state_sent}
use Rattle.sc_law_groups.proofs.GroupProofs.GroupRows.{fine_saw}
use Rattle.sc_base.proofs.Lemmas.{same_name, ballot_itself}

-- ---- mails that are no step

-- a mail that is no step
abbrev pub IsPlain : MailBody → Type 0
IsPlain (Request group client seq op) = Unit {0}
IsPlain (Answer group seq answer) = Unit {0}
IsPlain (Nack group promised) = Unit {0}
IsPlain (Ask group from_slot) = Unit {0}
IsPlain (Install group slot record_of sets) = Unit {0}
IsPlain (Told number result) = Unit {0}
IsPlain (TxElsewhere tx coord hint) = Unit {0}
IsPlain _ = ⊥

-- mails that are no steps
abbrev pub ArePlain : List Mail → Type 0
ArePlain mails = Each (λ mail. IsPlain mail.body) mails

told_replies : (me number : ℕ) (result : OrderResult) (mails : List Mail) → ArePlain mails → ArePlain (order_reported me number result mails)
unfolding order_reported
told_replies me number result mails e = cond_both (nat_lt 0 number) (sent me 0 (Told number result) mails) mails ArePlain (λ _. Each-append _ mails _ e (tt, tt)) (λ _. e)

answer_replies : (me : ℕ) (group : Draw) (answer : AnswerBody) (client seq : ℕ) (mails : List Mail) → ArePlain mails → ArePlain (answer_to me group client seq answer mails)
answer_replies me group answer client seq mails e = Each-append _ mails _ e (tt, tt)

ended_replies : (hint : Option ℕ) (answer : AnswerBody) (r : ReplicaState) (mails : List Mail) → ArePlain mails → ArePlain (ended hint answer (r, mails)).1
unfolding ended
ended_replies hint answer r mails e =
    let says = answer_replies r.me (name_of r) answer in
    all_queued_end r.me (name_of r) answer ArePlain says hint (λ number ms q. told_replies r.me number (Refused (NotLeader hint)) ms q) r.backlog _ (all_end r.me (name_of r) answer ArePlain says _ mails e)

pub saw_replies : (b : Ballot) (r : ReplicaState) (mails : List Mail) → ArePlain mails → ArePlain (saw b (r, mails)).1
unfolding saw
saw_replies b r mails e =
    cond_both (r.running && below r.leader.ballot b) _ _ (λ (place : Place). ArePlain place.1) (λ _. ended_replies (Some b.node) _ _ mails e) (λ _. e)

-- what these mails promise, newest first
abbrev pub promised_in : Draw → ℕ → Ballot → ℕ → List Mail → Steps
promised_in group who b from_slot mails = flat_map (λ mail. promised_by group who b from_slot mail.body) mails

abbrev pub accepted_in : Draw → ℕ → Ballot → ℕ → Command → List Mail → Steps
accepted_in group who b slot c mails = cond (same_draw group group && list_any (λ mail. is_accepted group b slot mail.body) mails) (Accepted who b slot c ∷ []) []

none_promised : (group : Draw) (who : ℕ) (b : Ballot) (from_slot : ℕ) (body : MailBody) → IsPlain body → promised_by group who b from_slot body ≡ []
none_promised group who b from_slot (Promise g other reports) e = absurd e
none_promised group who b from_slot _ e = refl

none_accepted : (group : Draw) (b : Ballot) (slot : ℕ) (body : MailBody) → IsPlain body → is_accepted group b slot body ≡ false
none_accepted group b slot (AcceptedMail g other at) e = absurd e
none_accepted group b slot _ e = refl

-- plain mails promise nothing
pub no_promises : (group : Draw) (who : ℕ) (b : Ballot) (from_slot : ℕ) (mails : List Mail) → ArePlain mails → promised_in group who b from_slot mails ≡ []
no_promises group who b from_slot [] e = refl
no_promises group who b from_slot (mail ∷ mails) e =
    ap (λ (x : Steps). x ++ promised_in group who b from_slot mails) (none_promised group who b from_slot mail.body e.0) ∙ no_promises group who b from_slot mails e.1

one_promise : (group : Draw) (who : ℕ) (b : Ballot) (from_slot : ℕ) (mails : List Mail) (mail : Mail) → ArePlain mails
    → promised_in group who b from_slot (mails ++ mail ∷ []) ≡ promised_by group who b from_slot mail.body
one_promise group who b from_slot [] mail e = append-nil (promised_by group who b from_slot mail.body)
one_promise group who b from_slot (m ∷ mails) mail e =
    ap (λ (x : Steps). x ++ promised_in group who b from_slot (mails ++ mail ∷ [])) (none_promised group who b from_slot m.body e.0) ∙ one_promise group who b from_slot mails mail e.1

-- plain mails say nothing of an acceptance
pub any_accepted : (group : Draw) (b : Ballot) (slot : ℕ) (mails : List Mail) → ArePlain mails → list_any (λ mail. is_accepted group b slot mail.body) mails ≡ false
any_accepted group b slot [] e = refl
any_accepted group b slot (mail ∷ mails) e =
    ap (λ x. x || list_any (λ (m : Mail). is_accepted group b slot m.body) mails) (none_accepted group b slot mail.body e.0) ∙ any_accepted group b slot mails e.1

one_accepted : (group : Draw) (b : Ballot) (slot : ℕ) (mails : List Mail) (mail : Mail) → ArePlain mails → is_accepted group b slot mail.body ≡ true
    → list_any (λ m. is_accepted group b slot m.body) (mails ++ mail ∷ []) ≡ true
one_accepted group b slot [] mail e t = ap (λ x. x || false) t
one_accepted group b slot (m ∷ mails) mail e t =
    ap (λ x. x || list_any (λ (n : Mail). is_accepted group b slot n.body) (mails ++ mail ∷ [])) (none_accepted group b slot m.body e.0) ∙ one_accepted group b slot mails mail e.1 t

no_accepted : (group : Draw) (who : ℕ) (b : Ballot) (slot : ℕ) (c : Command) (mails : List Mail) → ArePlain mails → accepted_in group who b slot c mails ≡ []
no_accepted group who b slot c mails e =
    let none = any_accepted group b slot mails e in
    cond_both (same_draw group group && list_any (λ (mail : Mail). is_accepted group b slot mail.body) mails) (Accepted who b slot c ∷ []) [] (λ x. x ≡ [])
    (λ t. (let no_way : true ≡ false = sym (and_parts (same_draw group group) _ t).1 ∙ none in absurd (cc))) (λ _. refl)

own_state : (me : ℕ) (here there : AcceptorState Command) → cond (eqb me me) here there ≡ here
own_state me here there = cond-true (eqb me me) here there (eq-eqb me me refl)

-- ---- the end of a row: the steps of the whole row

-- the end of a row: the steps of the whole row, the replica, and the mails
pub record Ended (ahead : Ahead) (base : Base) (made : Command → Type 0) (heard : MailBody → Type 0) (me : ℕ) (before after : Steps) (place : Place) : Type 0 where
  pub newer : Steps
  pub are : after ≡ newer ++ before
  pub by : Each (By me) newer
  pub lawful : IsLawfulHistory (rule ahead base) (first ahead base) (newer ++ before)
  pub requested : OffersMade made (newer ++ before)
  pub replica : IsReplica ahead base made (newer ++ before) me place.0
  pub mails : (mail : Mail) → Among mail place.1 → IsTrue ahead base made heard (newer ++ before) mail mail.body
  pub own : (mail : Mail) → Among mail place.1 → IsOwn ahead base heard mail.body

module _ (ahead : Ahead) (base : Base) (made : Command → Type 0) (heard : MailBody → Type 0) (me : ℕ) (before : Steps) (speaks : Speaks ahead base made heard before)
    (some : (log : List Command) → Each made log → (node : ℕ) × (rest : List ℕ) × ((rule ahead base).members log ≡ node ∷ rest)) where
  abbrev Ok : Place → Type 0
  Ok = Fine ahead base made heard me [] before

  abbrev Replica : Steps → ReplicaState → Type 0
  Replica h r = IsReplica ahead base made h me r

  abbrev group : Draw
  group = base.core.id

  -- a row that votes for nothing
  pub ended_by : (place : Place) (after : Steps) → Ok place → after ≡ asked_in group place.1 before → Ended ahead base made heard me before after place
  ended_by place after f e = record {
    newer = f.newer;
    are = e ∙ ap (λ ms. asked_in group ms before) f.sent_is ∙ f.are;
    by = f.by;
    lawful = f.lawful;
    requested = f.requested;
    replica = f.replica;
    mails = λ m a. f.mails m (subst (Among m) f.sent_is a);
    own = λ m a. f.own m (subst (Among m) f.sent_is a);
  }

  -- an acceptor's step
  acceptor_replica : (s : Step Command) (h : Steps) (r : ReplicaState) (acceptor : AcceptorState Command) → Replica h r → Mirrors acceptor (state_of (first ahead base) me (s ∷ h))
      → ((b : Ballot) (slot : ℕ) (c : Command) → s ≡ Offered b slot c → ⊥) → ((b : Ballot) (from : ℕ) → s ≡ Prepared b from → ⊥) → Replica (s ∷ h) (record r { acceptor = acceptor })
  acceptor_replica s h r acceptor k fact no_offer no_prepare = record {
    me_is = k.me_is;
    whole = k.whole;
    log_is = later_has ahead base made s h k.whole r.log r.group k.log_is;
    acceptor_is = fact;
    tops = λ b slot c a own. elim a [ inl e ↦ absurd (no_offer b slot c e) | inr o ↦ k.tops b slot c o own ];
    prepares = λ b from a own. elim a [ inl e ↦ absurd (no_prepare b from e) | inr o ↦ k.prepares b from o own ];
    count = k.count;
    sets = k.sets;
    backlog = k.backlog;
    acts = k.acts;
    flights = Each-weaker _ _ (λ f p. later_flying ahead base made me s h r.leader.ballot f p) r.leader.flights k.flights;
    ready = Each-weaker _ _ (λ e p. later_learnt (rule ahead base) s h e.0 e.1 p) r.ready k.ready;
    leads = λ runs. (let l = k.leads runs in
        record {
          own = l.own;
          low = l.low;
          first_is = l.first_is;
          votes = l.votes;
          promisers = l.promisers;
          reports = l.reports;
          made = Each-weaker _ _ (λ v p. (inr p.0, p.1)) l.votes l.made;
          offers = λ slot c a. elim a [ inl e ↦ absurd (no_offer r.leader.ballot slot c e) | inr o ↦ l.offers slot c o ];
        });
  }

  hinted_replica : (h : Steps) (b : Ballot) (r : ReplicaState) → Replica h r → Replica h (hinted b r)
  hinted_replica h b r k = cond_both r.running r (record r { hint = Some b.node }) (Replica h) (λ _. k) (λ _. queued_replica ahead base made h me r (Some b.node) r.waits r.acts r.backlog k.acts k.backlog k)

  -- a row of one acceptor's step
  acceptor_ended : (s : Step Command) (b : Ballot) (r : ReplicaState) (mails : List Mail) (mail : Mail) (acceptor : AcceptorState Command) (after : Steps) → (f : Ok (r, mails)) → after ≡ s ∷ f.newer ++ before → By me s
      → IsLawfulStep (rule ahead base) (first ahead base) s (f.newer ++ before) → Mirrors acceptor (state_of (first ahead base) me (s ∷ f.newer ++ before))
      → ((b : Ballot) (slot : ℕ) (c : Command) → s ≡ Offered b slot c → ⊥) → ((b : Ballot) (from : ℕ) → s ≡ Prepared b from → ⊥)
      → IsOwn ahead base heard mail.body → IsTrue ahead base made heard (s ∷ f.newer ++ before) mail mail.body → Ended ahead base made heard me before after (hinted b (record r { acceptor = acceptor }), mails ++ mail ∷ [])
  acceptor_ended s b r mails mail acceptor after f are by law_of fact no_offer no_prepare own t = record {
    newer = s ∷ f.newer;
    are = are;
    by = (by, f.by);
    lawful = (law_of, f.lawful);
    requested = λ d slot c a. elim a [ inl e ↦ absurd (no_offer d slot c e) | inr o ↦ f.requested d slot c o ];
    replica = hinted_replica (s ∷ f.newer ++ before) b (record r { acceptor = acceptor }) (acceptor_replica s (f.newer ++ before) r acceptor f.replica fact no_offer no_prepare);
    mails = λ m a. elim (Among-either m mails (mail ∷ []) a) [
      | inl old ↦ grown_true ahead base made made (λ c p. p) heard heard (λ b p. p) (s ∷ []) (f.newer ++ before) m m.body (f.mails m (subst (Among m) f.sent_is old))
      | inr (inl e) ↦ subst (λ (x : Mail). IsTrue ahead base made heard (s ∷ f.newer ++ before) x x.body) e t
      | inr (inr n) ↦ absurd n
    ];
    own = λ m a. elim (Among-either m mails (mail ∷ []) a) [
      | inl old ↦ f.own m (subst (Among m) f.sent_is old)
      | inr (inl e) ↦ subst (λ (x : Mail). IsOwn ahead base heard x.body) e own
      | inr (inr n) ↦ absurd n
    ];
  }

  -- ---- Prepare

  module _ (from : ℕ) (ballot : Ballot) (from_slot : ℕ) (r : ReplicaState) (mails : List Mail) (f : Ok (r, mails)) (replies : ArePlain mails) (asked : Among (Prepared ballot from_slot) (f.newer ++ before)) where
    abbrev After : Place → Type 0
    After place = Ended ahead base made heard me before (promised_in group me ballot from_slot place.1 ++ asked_in group place.1 before) place

    quiet : (place : Place) → Ok place → ArePlain place.1 → After place
    quiet place g e = ended_by place _ g (ap (λ (x : Steps). x ++ asked_in group place.1 before) (no_promises group me ballot from_slot place.1 e))

    abbrev reports : List (Report Command)
    reports = reports_from from_slot r.acceptor.accepted

    abbrev answer : Mail
    answer = record { from = r.me; to = from; body = Promise (name_of r) ballot reports }

    promise_made : nat_le from_slot r.acceptor.floor ≡ false → may_promise r.acceptor ballot ≡ true → After (hinted ballot (record r { acceptor = after_promise ballot r.acceptor }), mails ++ answer ∷ [])
    promise_made low may =
        let h = f.newer ++ before in
        let k = f.replica in
        let s : Step Command = Promised me ballot from_slot reports in
        let named = name_is ahead base made heard me [] before h r k in
        let state = state_of (first ahead base) me h in
        let above = leb-false from_slot r.acceptor.floor low in
        let under = k.acceptor_is.low in
        let is_promise : promised_by group me ballot from_slot answer.body ≡ s ∷ [] = cond-true (same_draw (name_of r) group && same_ballot ballot ballot) (s ∷ []) []
        (and_from (same_draw (name_of r) group) (same_ballot ballot ballot) (same_name (name_of r) group named) (ballot_itself ballot)) in
        acceptor_ended s ballot r mails answer (after_promise ballot r.acceptor) _ f
        (ap (λ (x : Steps). x ++ asked_in group (mails ++ answer ∷ []) before) (one_promise group me ballot from_slot mails answer replies ∙ is_promise)
        ∙ ap (λ (x : Steps). s ∷ x) (asked_push ahead base mails answer before ∙ ap (λ ms. asked_in group ms before) f.sent_is ∙ f.are))
        refl (
          subst (λ promised. below promised ballot ≡ true) k.acceptor_is.promised_is may,
          omega (arith, above, under),
          k.acceptor_is.reports_are from_slot above,
        )
        (subst (Mirrors (after_promise ballot r.acceptor)) (sym (own_state me (after_promise ballot state) state)) (promise_mirrors ballot r.acceptor state k.acceptor_is))
        (λ b slot c e. cc) (λ b start e. cc) named
        (λ _. (from_slot, inl (ap (λ n. Promised n ballot from_slot reports) (sym k.me_is)), inr asked))

    promised_ended : After (promised from ballot from_slot (r, mails))
    unfolding promised install_to
    promised_ended =
        cond_both (nat_le from_slot r.acceptor.floor) _ _ After
        (λ _. quiet (install_to from (r, mails)) (state_sent ahead base made heard me [] before from r mails f) (Each-append _ mails _ replies (tt, tt)))
        (λ low. cond_both (may_promise r.acceptor ballot) _ _ (λ (x : PrepareAnswer Command × AcceptorState Command). After (promise_to from ballot x (r, mails)))
        (λ may. promise_made low may)
        (λ _. (let nack : Mail = record { from = r.me; to = from; body = Nack (name_of r) r.acceptor.promised } in
        quiet (r, mails ++ nack ∷ []) (says ahead base made heard me [] before r mails nack f refl (name_is ahead base made heard me [] before (f.newer ++ before) r f.replica) tt) (Each-append _ mails (nack ∷ []) replies (tt, tt)))))

  -- ---- Accept

  module _ (from : ℕ) (ballot : Ballot) (slot : ℕ) (c : Command) (r : ReplicaState) (mails : List Mail) (f : Ok (r, mails)) (replies : ArePlain mails) (offer : Among (Offered ballot slot c) (f.newer ++ before)) where
    abbrev Then : Place → Type 0
    Then place = Ended ahead base made heard me before (accepted_in group me ballot slot c place.1 ++ asked_in group place.1 before) place

    still : (place : Place) → Ok place → ArePlain place.1 → Then place
    still place g e = ended_by place _ g (ap (λ (x : Steps). x ++ asked_in group place.1 before) (no_accepted group me ballot slot c place.1 e))

    abbrev report : Report Command
    report = record { slot = slot; ballot = ballot; value = c }

    abbrev vote : Mail
    vote = record { from = r.me; to = from; body = AcceptedMail (name_of r) ballot slot }

    acceptance : may_accept r.acceptor ballot ≡ true → Then (hinted ballot (record r { acceptor = after_accept report r.acceptor }), mails ++ vote ∷ [])
    acceptance may =
        let h = f.newer ++ before in
        let k = f.replica in
        let s : Step Command = Accepted me ballot slot c in
        let state = state_of (first ahead base) me h in
        let named = name_is ahead base made heard me [] before h r k in
        let is_vote : is_accepted group ballot slot vote.body ≡ true = and_from (same_draw (name_of r) group && same_ballot ballot ballot) (eqb slot slot)
        (and_from (same_draw (name_of r) group) (same_ballot ballot ballot) (same_name (name_of r) group named) (ballot_itself ballot)) (eq-eqb slot slot refl) in
        let one : accepted_in group me ballot slot c (mails ++ vote ∷ []) ≡ s ∷ [] = cond-true (same_draw group group && list_any (λ (m : Mail). is_accepted group ballot slot m.body) (mails ++ vote ∷ [])) (s ∷ []) []
        (and_from (same_draw group group) _ (same_name group group refl) (one_accepted group ballot slot mails vote replies is_vote)) in
        acceptor_ended s ballot r mails vote (after_accept report r.acceptor) _ f
        (ap (λ (x : Steps). x ++ asked_in group (mails ++ vote ∷ []) before) one ∙ ap (λ (x : Steps). s ∷ x) (asked_push ahead base mails vote before ∙ ap (λ ms. asked_in group ms before) f.sent_is ∙ f.are))
        refl
        (subst (λ promised. not (below ballot promised) ≡ true) k.acceptor_is.promised_is may, offer)
        (subst (Mirrors (after_accept report r.acceptor)) (sym (own_state me (after_accept report state) state)) (accept_mirrors report r.acceptor state k.acceptor_is))
        (λ b at d e. cc) (λ b start e. cc) named
        (λ _. (c, inl (ap (λ n. Accepted n ballot slot c) (sym k.me_is))))

    took_ended : Then (took from report (r, mails))
    unfolding took install_to
    took_ended =
        cond_both (nat_le slot r.acceptor.floor) _ _ Then
        (λ _. still (install_to from (r, mails)) (state_sent ahead base made heard me [] before from r mails f) (Each-append _ mails _ replies (tt, tt)))
        (λ low. cond_both (may_accept r.acceptor ballot) _ _ (λ (x : AcceptAnswer × AcceptorState Command). Then (accepted_to from ballot slot x (r, mails)))
        (λ may. acceptance may)
        (λ _. (let nack : Mail = record { from = r.me; to = from; body = Nack (name_of r) r.acceptor.promised } in
        still (r, mails ++ nack ∷ []) (says ahead base made heard me [] before r mails nack f refl (name_is ahead base made heard me [] before (f.newer ++ before) r f.replica) tt) (Each-append _ mails (nack ∷ []) replies (tt, tt)))))

  -- ---- the rows

  -- the end of the row of a Prepare
  pub prepare_ended : (from : ℕ) (ballot : Ballot) (from_slot : ℕ) (r : ReplicaState) → Ok (r, []) → Among (Prepared ballot from_slot) before
      → Ended ahead base made heard me before (promised_in group me ballot from_slot (prepare_row from ballot from_slot (r, [])).1 ++ asked_in group (prepare_row from ballot from_slot (r, [])).1 before) (prepare_row from ballot from_slot (r, []))
  unfolding prepare_row
  prepare_ended from ballot from_slot r f asked =
      let seen = fine_saw ahead base made heard me [] before speaks some ballot (r, []) f in
      let place = saw ballot (r, []) in
      promised_ended from ballot from_slot place.0 place.1 seen (saw_replies ballot r [] tt) (Among-right (Prepared ballot from_slot) seen.newer before asked)

  -- the end of the row of an Accept
  pub accept_ended : (from : ℕ) (ballot : Ballot) (slot : ℕ) (c : Command) (r : ReplicaState) → Ok (r, []) → Among (Offered ballot slot c) before
      → Ended ahead base made heard me before (accepted_in group me ballot slot c (accept_row from ballot slot c (r, [])).1 ++ asked_in group (accept_row from ballot slot c (r, [])).1 before) (accept_row from ballot slot c (r, []))
  unfolding accept_row
  accept_ended from ballot slot c r f offer =
      let seen = fine_saw ahead base made heard me [] before speaks some ballot (r, []) f in
      let place = saw ballot (r, []) in
      took_ended from ballot slot c place.0 place.1 seen (saw_replies ballot r [] tt) (Among-right (Offered ballot slot c) seen.newer before offer)
