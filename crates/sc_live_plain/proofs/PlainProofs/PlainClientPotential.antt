-- What a client of a plain journal owes falls with each mail that it takes, and does not rise when it starts: it finds what a client of a calm journal needs.
use Rattle.std.proofs.Common.{◌≡◌, ℕ, ◌+◌, ◌-◌, ◌<◌, ◌≤◌, Bool, true, false, cond, List, [], ◌∷◌, length, map, Some, None, inl, inr, refl, sym, ◌∙◌, ap, subst, arith}
use Rattle.std.specs.Prelude.{nat_le, slice_get, is_some}
use Rattle.std.proofs.lemmas.Bool.{cond-true, cond-false, cases_lt, lt-leb}
use Rattle.std.proofs.lemmas.List.{length-map}
use Rattle.std.proofs.lemmas.List.Sums.{sum_by-cons}
use Rattle.sc_base.specs.Definitions.{Among, Each, client_actor, same_draw}
use Rattle.sc_base.proofs.Lemmas.{same_name}
use Rattle.sc_node_table.specs.Values.{Draw, Op, Got, AnswerBody, Value, NotLeader, NotMine, Gone, Stale, Mail, MailBody, Answer, Told}
use Rattle.sc_actor.specs.declared.rows.Input.TheVariants.{Go}
use Rattle.sc_client_table.specs.declared.lookup.ways.Way.{Way}
use Rattle.sc_client_table.specs.lookup.LookupDefinitions.{KnownGroups, way_to, target_of}
use Rattle.sc_client_table.specs.table.TableDefinitions.{Client as ClientState, ClientStep, request_sent, started, got, table}
use Rattle.sc_scenario.specs.declared.scenario.scenarios.Asks.{Asks}
use Rattle.sc_scenario.specs.declared.scenario.scenarios.Scenario.{Scenario}
use Rattle.sc_law_walks.proofs.ClientWalks.{asked_last}
use Rattle.sc_client_table.proofs.TableProofs.TurnLemmas.{waited_for}
use Rattle.sc_live_steps.specs.calm.CalmDefinitions.{AreBounded, Reach, sent_on, search_owes, unknown, unknown_one, waiting_one, answer_owes, body_owes, client_owes, client_turn_owes, IsDelivered, IsInTurn, MayHear}
use Rattle.sc_live_steps.specs.calm.ClientReach.{Awaits}
use Rattle.sc_live_steps.proofs.CalmStepsProofs.NodePotential.{body_most}
use Rattle.sc_live_steps.proofs.CalmStepsProofs.CalmStepLemmas.{clients_pay}
use Rattle.sc_live_plain.specs.PlainDefinitions.{IsLinkedSetting, IsCalmClient, IsCalmMail, CanBeAsked, Frame, direct, reach_of, mail_owes, IsWaiting, Requests, IsPlainBody, IsPlainMail}
use Rattle.sc_live_plain.proofs.CalmProofs.AskedGroups.{calm_says, CalmSays, awaiting, new_group}
use Rattle.sc_live_plain.proofs.CalmProofs.CalmClients.{unasked, one_known}
use Rattle.sc_live_plain.proofs.CalmProofs.KnownGroups.{id_of}
use Rattle.sc_live_plain.proofs.PlainProofs.PlainBeginnings.{frames_of, IsStage}
use Rattle.sc_live_plain.proofs.PlainProofs.PlainSetting.{plain_setting, home_leads, none_gone, is_setting}
use Rattle.sc_live_plain.proofs.PlainRowsProofs.Lists.{map_among, some_is}
use Rattle.sc_live_plain.proofs.PlainRowsProofs.Sums.{none_together}

-- ---- each mail owes something

delivered : (begun : Requests) (frame : Frame) (from to : ℕ) (body : MailBody) → IsPlainBody begun frame from to body → IsDelivered body
delivered begun frame from to (Told order result) b = absurd b
delivered begun frame from to _ b = tt

pub some_owed : (begun : Requests) (frames : List Frame) (mail : Mail) → IsPlainMail begun frames mail → 1 ≤ mail_owes mail
some_owed begun frames mail m = body_most direct mail.to mail.body (delivered begun m.frame mail.from mail.to mail.body m.says)

-- ---- groups that are not known

one_most : (b : Bool) → cond b 0 1 ≤ 1
one_most true = omega arith
one_most false = omega arith

-- no more groups are unknown than there are
pub unknown_few : (known : KnownGroups) (groups : List Draw) → unknown groups known ≤ length groups
unknown_few known [] = omega arith
unknown_few known (group ∷ groups) =
    let s = sum_by-cons (unknown_one known) group groups in
    let one = one_most (is_some (way_to group known)) in
    let low = unknown_few known groups in
    omega (arith, s, one, low)

-- and fewer, where one is known
unknown_less : (known : KnownGroups) (name : Draw) → is_some (way_to name known) ≡ true → (groups : List Draw) → Among name groups → unknown groups known + 1 ≤ length groups
unknown_less known name t [] a = absurd a
unknown_less known name t (group ∷ groups) (inl e) =
    let s = sum_by-cons (unknown_one known) group groups in
    let none : unknown_one known group ≡ 0 = ap (unknown_one known) e ∙ ap (λ b. cond b 0 1) t in
    let low = unknown_few known groups in
    omega (arith, s, none, low)
unknown_less known name t (group ∷ groups) (inr a) =
    let s = sum_by-cons (unknown_one known) group groups in
    let one = one_most (is_some (way_to group known)) in
    let more = unknown_less known name t groups a in
    omega (arith, s, one, more)

module _ (scenario : Scenario) (begins : IsStage scenario) (linked : IsLinkedSetting (plain_setting scenario)) where
  abbrev frames : List Frame
  frames = frames_of scenario

  abbrev reach : Reach
  reach = reach_of (frames_of scenario)

  bounded : AreBounded direct
  bounded group node = omega arith

  -- ---- a client takes a mail

  module _ (begun : Requests) (asks : Asks) (gone : Bool) (client : ClientState) (mail : Mail) (k : IsCalmClient (plain_setting scenario) asks gone client) (m : IsCalmMail begun (plain_setting scenario) mail) (to : mail.to ≡ client_actor client.me)
      (asked_right : (seq : ℕ) (op : Op) → begun client.me seq op → slice_get client.requests (seq - 1) ≡ Some op) where
    in_turn : IsInTurn client
    in_turn seq e = (let a = awaiting client gone k.state seq e in let number = a.1.number in let same = a.2 in omega (arith, number, same))

    -- an answer that it waits for
    awaited : (group : Draw) (seq : ℕ) → Awaits mail.from group seq client → (w : IsWaiting client) × (w.seq ≡ seq) × (w.group ≡ group)
    awaited group seq awaits =
        let a = awaiting client gone k.state seq (waited_for client.waiting seq awaits.0) in
        (a.1, a.2, ap (λ (x : Draw × ℕ). x.0) (some_is (sym a.1.asked ∙ asked_last client.asked mail.from group awaits.1)))

    says : (group : Draw) (seq : ℕ) (answer : AnswerBody) → mail.body ≡ Answer group seq answer → (w : IsWaiting client) → w.seq ≡ seq → w.group ≡ group → CalmSays begun (plain_setting scenario) mail.from mail.to (Answer w.group w.seq answer)
    says group seq answer e w same name =
        calm_says begun (plain_setting scenario) mail m (Answer w.group w.seq answer) (e ∙ (ap (λ d. Answer d seq answer) (sym name) ∙ ap (λ n. Answer w.group n answer) (sym same)))

    may : (group : Draw) (seq : ℕ) (answer : AnswerBody) → mail.body ≡ Answer group seq answer → MayHear direct reach mail.from group seq client answer
    may group seq (Value reply) e = (in_turn, λ name node t. omega arith)
    may group seq (NotLeader hint) e = tt
    may group seq (NotMine arc succ) e = λ awaits. (
        let a = awaited group seq awaits in
        let new = new_group begun (plain_setting scenario) (is_setting scenario begins) linked asks gone client k a.0 mail to asked_right arc succ (says group seq (NotMine arc succ) e a.0 a.1 a.2) in
        record { among = subst (λ d. Among d (map id_of frames)) new.named (map_among id_of frames new.other new.is_frame); none = new.none; ends = refl })
    may group seq (Gone into) e = λ awaits. (
        let a = awaited group seq awaits in
        elim (says group seq (Gone into) e a.0 a.1 a.2) [ inl s ↦ absurd (s.says.1.says) | inr s ↦ absurd (none_gone scenario begins a.0.group into s.says) ])
    may group seq (Stale last) e = tt

    -- a mail that is no answer is ignored
    ignored : IsDelivered mail.body → 1 + (client_owes direct reach client + 0) ≤ client_owes direct reach client + mail_owes mail
    ignored there = (let some = body_most direct mail.to mail.body there in omega (arith, some))

    pub takes_paid : 1 + client_turn_owes direct (reach_of (frames_of scenario)) (table client (Got mail)) ≤ client_owes direct (reach_of (frames_of scenario)) client + mail_owes mail
    takes_paid = by mail.body refl
      where
        by : (body : MailBody) → mail.body ≡ body → 1 + client_turn_owes direct reach (got mail.from body client) ≤ client_owes direct reach client + mail_owes mail
        by (Answer group seq answer) e =
            let calm = clients_pay.answer direct reach mail.from seq group answer client bounded (may group seq answer e) in
            let owes : mail_owes mail ≡ answer_owes direct group answer = ap (body_owes direct mail.to) e in
            omega (arith, calm, owes)
        by (Told order result) e = elim (calm_says begun (plain_setting scenario) mail m (Told order result) e) [ inl s ↦ absurd s.says | inr s ↦ absurd s ]
        by _ e = ignored (subst IsDelivered (sym e) tt)

  -- ---- a client starts

  module _ (asks : Asks) (client : ClientState) (k : IsCalmClient (plain_setting scenario) asks false client) where
    -- it knows one of the groups
    near : length client.replies < length client.requests → sent_on reach client.known ≤ length frames - 1
    near few = by client.known (one_known (plain_setting scenario) client.known (k.knows few)) (k.targets few)
      where
        by : (known : KnownGroups) → 1 ≤ length known → Each (CanBeAsked (plain_setting scenario)) known → sent_on reach known ≤ length frames - 1
        by [] some e = absurd (omega (arith, some))
        by (entry ∷ known) some e =
            let h = home_leads scenario entry.0 (target_of entry.1) e.0 in
            let there : way_to entry.0 (entry ∷ known) ≡ Some entry.1 = cond-true (same_draw entry.0 entry.0) (Some entry.1) (way_to entry.0 known) (same_name entry.0 entry.0 refl) in
            let less = unknown_less (entry ∷ known) entry.0 (ap is_some there) (map id_of frames) (subst (λ d. Among d (map id_of frames)) h.2 (map_among id_of frames h.0 h.1)) in
            let count = length-map frames id_of in
            let none = none_together (λ (x : Draw × Way). 0) (entry ∷ known) (λ x. refl) in
            omega (arith, less, count, none)

    pub go_paid : client_turn_owes direct (reach_of (frames_of scenario)) (table client Go) ≤ client_owes direct (reach_of (frames_of scenario)) client
    go_paid =
        let none = unasked client k.state in
        let short = ap length none.1 in
        elim (cases_lt 0 (length client.requests)) [
          | inl some ↦ clients_pay.go direct reach client bounded (record { idle = none.0; none = none.1; near = near (omega (arith, some, short)) })
          | inr nothing ↦ (
              let step_is : started 1 client ≡ (record client { waiting = None }, []) = cond-false (nat_le 1 (length client.requests)) (request_sent (record client { waiting = Some 1 })) (record client { waiting = None }, []) (lt-leb 1 (length client.requests) (omega (arith, nothing))) in
              let idle = ap waiting_one none.0 in
              let was = ap (search_owes 0 reach client) none.0 in
              subst (λ (x : ClientStep). client_turn_owes direct reach x ≤ client_owes direct reach client) (sym step_is) (omega (arith, idle, was)))
        ]
