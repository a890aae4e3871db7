-- What a row leaves of the mail that is under way, and what a leader makes of a queued request: it stays queued, or its client is answered for good.
use Rattle.sc_live_plain.proofs.PlainRowsProofs.Lists.{at_zero}
use Rattle.std.proofs.Common.{◌≡◌, ℕ, ◌≤◌, eqb, ◌&&◌, true, false, cond, List, [], ◌∷◌, ◌++◌, drop, ◌⊎◌, inl, inr, refl, sym, ◌∙◌, ap, subst, arith}
use Rattle.std.specs.List.{filter}
use Rattle.std.proofs.lemmas.Bool.{ne_eqb, eq-eqb, cond-true, cond_both}
use Rattle.sc_base.specs.Definitions.{Among, Each, client_actor}
use Rattle.sc_node_table.specs.Values.{Op, Base, OrderLine, AnswerBody, Value, NotLeader, NotMine, Gone, Stale, Mail, MailBody, Request, Answer, Accept, Accepted, Learn, Row, Client}
use Rattle.sc_actor.specs.Definitions.{is_delivery, value}
use Rattle.sc_words.proofs.PaxosProofs.PaxosLemmas.{Each-among}
use Rattle.sc_node_table.specs.NodeDefinitions.{ReplicaState, Place}
use Rattle.sc_client_table.specs.table.TableDefinitions.{Client as ClientState}
use Rattle.sc_scenario.specs.declared.scenario.scenarios.Asks.{Asks}
use Rattle.sc_scenario.specs.declared.scenario.scenarios.Scenario.{Scenario}
use Rattle.sc_meaning.specs.sound.SoundDefinitions.{player_table, client_seat, route_of, system_of, as_nodes}
use Rattle.sc_live_orderly.specs.OrderlyDefinitions.{rest, mail_for, taken}
use Rattle.sc_paxos_law.proofs.Lemmas.{Among-left, Among-right}
use Rattle.sc_live_plain.specs.PlainDefinitions.{Frame, IsFrame, waiting_one, IsBegun, IsWaiting, begun_of, Requests, IsPlainAnswer, IsPlainBody}
use Rattle.sc_live_plain.proofs.PlainProofs.PlainBeginnings.{IsStage}
use Rattle.sc_live_plain.proofs.PlainRowsProofs.RowViews.{Journal}
use Rattle.sc_live_plain.proofs.LeadersProofs.LeadingReplicas.{IsHeld, IsReportedOf}
use Rattle.sc_live_plain.proofs.PlainRowsProofs.ReplicaRows.{Does}
use Rattle.sc_live_plain.proofs.PlainRowsProofs.RepeatedMail.{mail_of}

-- an answer that ends a request, or sends its client on
abbrev pub IsFinal : AnswerBody → Type 0
IsFinal (Value reply) = Unit {0}
IsFinal (NotMine arc succ) = Unit {0}
IsFinal (NotLeader hint) = ⊥
IsFinal (Gone into) = ⊥
IsFinal (Stale last) = ⊥

-- a mail among those for its receiver
filter_among : (who : ℕ) (sent : List Mail) (mail : Mail) → mail.to ≡ who → Among mail sent → Among mail (filter (λ (m : Mail). eqb m.to who) sent)
filter_among who [] mail to a = absurd a
filter_among who (m ∷ sent) mail to (inl same) =
    subst (Among mail) (sym (cond-true (eqb m.to who) (m ∷ filter (λ (x : Mail). eqb x.to who) sent) (filter (λ (x : Mail). eqb x.to who) sent) (eq-eqb m.to who (ap (λ (x : Mail). x.to) same ∙ to)))) (inl same)
filter_among who (m ∷ sent) mail to (inr a) =
    cond_both (eqb m.to who) (m ∷ filter (λ (x : Mail). eqb x.to who) sent) (filter (λ (x : Mail). eqb x.to who) sent) (Among mail) (λ _. inr (filter_among who sent mail to a)) (λ _. filter_among who sent mail to a)

-- what a leader does with a queued request: the request stays queued, or its client is answered
pub does_holds : (begun : Requests) (frame : Frame) (fact : IsFrame frame) (me : ℕ) (r : ReplicaState) (from : ℕ) (body : MailBody) (place : Place) → me ≡ frame.lead → Does begun frame fact me r from body place → (c n : ℕ) → IsHeld r c n → IsHeld place.0 c n ⊎ IsReportedOf frame place.1 c n
does_holds begun frame fact me r from (Request group client seq op) place lead response c n h = elim (response.1) [
  | inl refused ↦ inl (subst (λ (p : Place). IsHeld p.0 c n) (sym refused.place_is) h)
  | inr queued ↦ queued.run.leads.backlog c n (inl h)
]
does_holds begun frame fact me r from (Accept group ballot slot command) place lead response c n h = inl (response.held c n h)
does_holds begun frame fact me r from (Accepted group ballot slot) place lead response c n h = response.1.counted.run.leads.backlog c n h
does_holds begun frame fact me r from (Learn group slot command) place lead response c n h = absurd (response.follows lead)
does_holds begun frame fact me r from _ place lead response c n h = absurd response

module _ (words : ℕ → ℕ → ℕ × ℕ) (scenario : Scenario) where
  abbrev left : Journal → ℕ → List Mail
  left rows who = rest (system_of as_nodes words scenario) rows who

  module _ (rows : Journal) (row : Row Mail OrderLine)
      (after : (who : ℕ) → rest (system_of as_nodes words scenario) (rows ++ row ∷ []) who ≡ drop (taken who row) (rest (system_of as_nodes words scenario) rows who) ++ mail_for (system_of as_nodes words scenario) who row.sent) where
    -- what is sent to one is left of its mail
    pub sent_left : (who : ℕ) (mail : Mail) → mail.to ≡ who → Among mail row.sent → Among mail (left (rows ++ row ∷ []) who)
    sent_left who mail to a = subst (Among mail) (sym (after who)) (Among-right mail (drop (taken who row) (left rows who)) (mail_for (system_of as_nodes words scenario) who row.sent) (filter_among who row.sent mail to a))

    -- what is left of the mail of one who does not act stays
    pub others_left : (who : ℕ) (mail : Mail) → (who ≡ row.who → ⊥) → Among mail (left rows who) → Among mail (left (rows ++ row ∷ []) who)
    others_left who mail ne a =
        let none : drop (taken who row) (left rows who) ≡ left rows who = ap (λ b. drop (cond (b && is_delivery row.event) 1 0) (left rows who)) (ne_eqb row.who who (λ e. ne (sym e))) ∙ at_zero (left rows who) in
        subst (Among mail) (sym (after who)) (Among-left mail (drop (taken who row) (left rows who)) (mail_for (system_of as_nodes words scenario) who row.sent) (subst (Among mail) (sym none) a))

    -- what is left of the mail of one who takes its first stays, but for that
    pub behind_left : (first : Mail) (behind : List Mail) → left rows row.who ≡ first ∷ behind → is_delivery row.event ≡ true → (mail : Mail) → Among mail (left rows row.who) → (first ≡ mail) ⊎ Among mail (left (rows ++ row ∷ []) row.who)
    behind_left first behind fact delivers mail a =
        let one : drop (taken row.who row) (left rows row.who) ≡ behind =
        ap (λ b. drop (cond (b && is_delivery row.event) 1 0) (left rows row.who)) (eq-eqb row.who row.who refl) ∙ (ap (λ b. drop (cond b 1 0) (left rows row.who)) delivers ∙ ap (drop 1) fact) in
        elim (subst (Among mail) fact a) [
          | inl same ↦ inl same
          | inr b ↦ inr (subst (Among mail) (sym (after row.who)) (Among-left mail (drop (taken row.who row) (left rows row.who)) (mail_for (system_of as_nodes words scenario) row.who row.sent) (subst (Among mail) (sym one) b)))
        ]

    -- what is left of the mail of one who acts and takes nothing stays
    pub own_left : is_delivery row.event ≡ false → (mail : Mail) → Among mail (left rows row.who) → Among mail (left (rows ++ row ∷ []) row.who)
    own_left none mail a =
        let all : drop (taken row.who row) (left rows row.who) ≡ left rows row.who =
        ap (λ b. drop (cond (b && is_delivery row.event) 1 0) (left rows row.who)) (eq-eqb row.who row.who refl) ∙ (ap (λ b. drop (cond b 1 0) (left rows row.who)) none ∙ at_zero (left rows row.who)) in
        subst (Among mail) (sym (after row.who)) (Among-left mail (drop (taken row.who row) (left rows row.who)) (mail_for (system_of as_nodes words scenario) row.who row.sent) (subst (Among mail) (sym all) a))

  -- ---- an answer of the leader that a client waits for

  module _ (stage : IsStage scenario) (rows : Journal) (asks : Asks) (a : Among asks scenario.clients) (client : ClientState) (fact : value player_table (client_seat (route_of stage.first) asks) rows ≡ Client client) (me_is : client.me ≡ asks.client) (w : IsWaiting client) where
    -- no later request of it is begun
    begun_low : (seq : ℕ) (op : Op) → IsBegun scenario rows client.me seq op → seq ≤ w.seq
    begun_low seq op b =
        let first : b.first ≡ stage.first = (let e : b.first ∷ b.others ≡ stage.first ∷ stage.others = sym b.groups_are ∙ stage.groups_are in cc) in
        let same : b.asks ≡ asks = stage.once b.asks asks b.is_asks a (b.client_is ∙ me_is) in
        let low = b.low in
        let at = ap (λ (f : Base). begun_of (value player_table (client_seat (route_of f) b.asks) rows)) first ∙ (ap (λ (x : Asks). begun_of (value player_table (client_seat (route_of stage.first) x) rows)) same ∙ ap begun_of fact) in
        let one = ap waiting_one w.waits in
        let number = w.number in
        omega (arith, low, at, one, number)

    -- so what its leader answers for good is the answer to the request that waits
    pub reported_final : (frame : Frame) (sent : List Mail) → Each (λ mail. IsPlainBody (IsBegun scenario rows) frame mail.from mail.to mail.body) sent → IsReportedOf frame sent client.me w.seq
        → (answer : AnswerBody) × IsFinal answer × Among (mail_of frame.lead (client_actor client.me) (Answer frame.core.id w.seq answer)) sent
    reported_final frame sent said t =
        let plain = Each-among (λ (mail : Mail). IsPlainBody (IsBegun scenario rows) frame mail.from mail.to mail.body) sent _ said t.taught_slots in
        let reply = plain.1 in
        let who : client.me ≡ reply.client = (let to : client_actor client.me ≡ client_actor reply.client = reply.to_is in omega (arith, to)) in
        let mine : IsBegun scenario rows client.me t.number reply.op = subst (λ c. IsBegun scenario rows c t.number reply.op) (sym who) reply.is_begun in
        let low = begun_low t.number reply.op mine in
        let later = t.later in
        let number : t.number ≡ w.seq = omega (arith, low, later) in
        (t.answer, final t.answer t.number reply.client reply.op number who reply.says, subst (λ n. Among (mail_of frame.lead (client_actor client.me) (Answer frame.core.id n t.answer)) sent) number t.taught_slots)
      where
        final : (answer : AnswerBody) (number c : ℕ) (op : Op) → number ≡ w.seq → client.me ≡ c → IsPlainAnswer (IsBegun scenario rows) frame c number op answer → IsFinal answer
        final (Value reply) number c op n e p = tt
        final (NotMine arc succ) number c op n e p = tt
        final (Stale last) number c op n e p =
            (let later = p.0 in
            let low = begun_low last p.1.0 (subst (λ x. IsBegun scenario rows x last p.1.0) (sym e) p.1.1) in
            absurd (omega (arith, later, low, n)))
        final (NotLeader hint) number c op n e p = absurd p
        final (Gone into) number c op n e p = absurd p
