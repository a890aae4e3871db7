-- Between two orders a row of a node leaves each request that waits on its way, or sends its answer, or queues it.
use Rattle.std.proofs.Common.{◌≡◌, ℕ, ◌≤◌, eqb, true, false, List, [], ◌∷◌, ◌++◌, drop, find, Option, Some, None, inl, inr, refl, sym, ◌∙◌, ap, subst, arith}
use Rattle.std.proofs.lemmas.Bool.{cases_eq, cases_Bool, both_ways}
use Rattle.sc_base.specs.Definitions.{Among, client_actor, same_draw}
use Rattle.sc_node_table.specs.Values.{Draw, Op, Route, OrderLine, AnswerBody, NotMine, Stale, Mail, Request, Answer, Node, Client, Seat, Event, Deliver, Go, Got}
use Rattle.sc_base.proofs.Lemmas.{draw_is, same_name}
use Rattle.sc_actor.specs.declared.rows.Input.TheVariants.{Go as GoInput}
use Rattle.sc_actor.specs.Definitions.{mails, value, acted, input_of, System, row_of, has_started, waiting, kth}
use Rattle.sc_words.proofs.PaxosProofs.PaxosLemmas.{find_found}
use Rattle.sc_client_table.specs.table.TableDefinitions.{Client as ClientState}
use Rattle.sc_node_table.specs.NodeDefinitions.{NodeState, replica_of, is_node, node_table, ReplicaState, Place, name_of}
use Rattle.sc_scenario.specs.declared.scenario.scenarios.Asks.{Asks}
use Rattle.sc_scenario.specs.declared.scenario.scenarios.Scenario.{Scenario}
use Rattle.sc_meaning.specs.sound.SoundDefinitions.{Player, player_table, node_seat, client_seat, route_of, births, system_of, as_nodes}
use Rattle.sc_live_orderly.specs.OrderlyDefinitions.{IsTidy, IsInOrder, rest, mail_for, taken}
use Rattle.sc_live_orderly.proofs.OrderlyLemmas.{TakesFirst, rest-row}
use Rattle.sc_live_plain.specs.PlainDefinitions.{IsAskingNode, IsAsking, AreFarFromLast, replica_at, IsLinkedSetting, Setting, IsSetting, Frame, IsBegun, IsWaiting, IsPlainBody}
use Rattle.sc_live_plain.proofs.CalmProofs.RequestPhaseNodes as turns_of
use Rattle.sc_live_plain.proofs.PlainProofs.PlainBeginnings.{IsStage}
use Rattle.sc_live_plain.proofs.PlainProofs.PlainSteps.{node_number, value_others, client_away}
use Rattle.sc_live_plain.proofs.PlainRowsProofs.RowViews.{same_replicas, value_own, Journal, replica_is, replica_others}
use Rattle.sc_live_plain.proofs.CalmProofs.CalmClients.{EndsWait}
use Rattle.sc_live_plain.proofs.CalmProofs.CalmNodes.{Turns, aside_is, aside_answer, step_is}
use Rattle.sc_live_plain.proofs.CalmProofs.CalmClients.{asking}
use Rattle.sc_live_plain.proofs.LeadersProofs.LeadingReplicas.{IsHeld, IsReportedOf}
use Rattle.sc_live_plain.proofs.PlainRowsProofs.Lists.{some_is}
use Rattle.sc_live_plain.proofs.PlainRowsProofs.NodeRows.{NodeRow, found_after, others_after}
use Rattle.sc_live_plain.proofs.CalmProofs.RequestsLeftByRows.{IsFinal, does_holds, sent_left, others_left, own_left, behind_left, reported_final}
use Rattle.sc_live_plain.proofs.PlainRowsProofs.ReplicaRows.{Does}
use Rattle.sc_live_plain.proofs.PlainRowsProofs.RepeatedMail.{mail_of}
use Rattle.sc_live_plain.proofs.CalmProofs.SoughtRequests.{IsAnswered, IsHeldAt, IsSought, AreSought, me_of}

final_ends : (answer : AnswerBody) → IsFinal answer → EndsWait answer
final_ends (Stale last) f = f
final_ends _ f = tt

aside_ends : (gone : Option Route) (hint : Option ℕ) → EndsWait (aside_answer gone hint)
aside_ends (Some into) hint = tt
aside_ends None hint = tt

abbrev with_mail : NodeState → Mail → NodeState × List Mail
with_mail node mail = (node, mail ∷ [])

module _ (words : ℕ → ℕ → ℕ × ℕ) (scenario : Scenario) (begins : IsStage scenario) (set : Setting) (fact : IsSetting set) (linked : IsLinkedSetting set) where
  abbrev sys : System Player Mail OrderLine
  sys = system_of as_nodes words scenario

  abbrev nseat : ℕ → Seat Player
  nseat me = node_seat as_nodes scenario.groups scenario.policy me

  abbrev cseat : Asks → Seat Player
  cseat asks = client_seat (route_of begins.first) asks

  module _ (rows : Journal) (t : IsTidy rows) (j : IsAsking words scenario set begins.first rows) (sought : AreSought words scenario begins set fact linked rows) where
    module _ (room : AreFarFromLast scenario set rows) (me : ℕ) (one : 1 ≤ me) (most : me ≤ scenario.nodes) (born : find (λ (other : Seat Player). eqb other.who me) (births as_nodes scenario) ≡ Some (node_seat as_nodes scenario.groups scenario.policy me)) where
      module _ (event : Event OrderLine) (fine : IsInOrder (system_of as_nodes words scenario) rows me event) where
        after : (who : ℕ) → rest (system_of as_nodes words scenario) (rows ++ row_of player_table (node_seat as_nodes scenario.groups scenario.policy me) rows event ∷ []) who
            ≡ drop (taken who (row_of player_table (node_seat as_nodes scenario.groups scenario.policy me) rows event)) (rest (system_of as_nodes words scenario) rows who) ++ mail_for (system_of as_nodes words scenario) who (row_of player_table (node_seat as_nodes scenario.groups scenario.policy me) rows event).sent
        after who = rest-row sys rows (row_of player_table (nseat me) rows event) who t (record { seat = nseat me; born = born; event = event; row_is = refl; in_order = fine })

        -- a client is what it was
        was_client : (asks : Asks) (client : ClientState) → Among asks scenario.clients → value player_table (client_seat (route_of begins.first) asks) (rows ++ row_of player_table (node_seat as_nodes scenario.groups scenario.policy me) rows event ∷ []) ≡ Client client
            → value player_table (client_seat (route_of begins.first) asks) rows ≡ Client client
        was_client asks client a e = sym (value_others words scenario begins rows (row_of player_table (nseat me) rows event) (cseat asks) (λ x. client_away words scenario begins me (node_number words scenario begins me one most) asks a x)) ∙ e

        -- where the node that was asked does not act
        elsewhere : (client : ClientState) (group : Draw) (target seq : ℕ) → (client_actor client.me ≡ me → ⊥) → (target ≡ me → ⊥) → IsSought words scenario begins set fact linked rows client group target seq → IsSought words scenario begins set fact linked (rows ++ row_of player_table (node_seat as_nodes scenario.groups scenario.policy me) rows event ∷ []) client group target seq
        elsewhere client group target seq ne other (inl asked) = inl (asked.0, others_left words scenario rows (row_of player_table (nseat me) rows event) after target (asking client.me target group seq asked.0) other asked.1)
        elsewhere client group target seq ne other (inr (inl a)) =
            inr (inl (record { answer = a.answer; ends = a.ends; there = others_left words scenario rows (row_of player_table (nseat me) rows event) after (client_actor client.me) (mail_of target (client_actor client.me) (Answer group seq a.answer)) ne a.there }))
        elsewhere client group target seq ne other (inr (inr h)) =
            inr (inr (record { frame = h.frame; is_frame = h.is_frame; name = h.name; lead = h.lead; r = h.r; there = replica_others words scenario rows (row_of player_table (nseat me) rows event) group target other ∙ h.there; held = h.held }))

        -- an answer on its way stays there
        answered_stays : (client : ClientState) (group : Draw) (target seq : ℕ) → (client_actor client.me ≡ me → ⊥) → IsAnswered words scenario begins set fact linked rows client group target seq → IsAnswered words scenario begins set fact linked (rows ++ row_of player_table (node_seat as_nodes scenario.groups scenario.policy me) rows event ∷ []) client group target seq
        answered_stays client group target seq ne a =
            record { answer = a.answer; ends = a.ends; there = others_left words scenario rows (row_of player_table (nseat me) rows event) after (client_actor client.me) (mail_of target (client_actor client.me) (Answer group seq a.answer)) ne a.there }

      -- ---- a node takes a mail

      module _ (number : ℕ) (fine : kth (waiting (system_of as_nodes words scenario) rows (Some me)) 1 ≡ Some number) (n : IsAskingNode scenario set rows me)
          (first : TakesFirst (system_of as_nodes words scenario) rows me number) (step : NodeState × List Mail) (became : value player_table (node_seat as_nodes scenario.groups scenario.policy me) (rows ++ row_of player_table (node_seat as_nodes scenario.groups scenario.policy me) rows (Deliver number) ∷ []) ≡ Node step.0)
          (sends : (row_of player_table (node_seat as_nodes scenario.groups scenario.policy me) rows (Deliver number)).sent ≡ step.1)
          (asks : Asks) (client : ClientState) (a : Among asks scenario.clients) (was : value player_table (client_seat (route_of begins.first) asks) rows ≡ Client client) (w : IsWaiting client) (here : w.target ≡ me) where
        abbrev Later : Type 0
        Later = IsSought words scenario begins set fact linked (rows ++ row_of player_table (node_seat as_nodes scenario.groups scenario.policy me) rows (Deliver number) ∷ []) client w.group w.target w.seq

        -- what becomes of its request where that is taken, and where it is queued
        abbrev Took : Type 0
        Took = (op : Op) → first.mail ≡ asking client.me w.target w.group w.seq op → Later

        abbrev Held : Type 0
        Held = IsHeldAt words scenario begins set fact linked rows client w.group w.target w.seq → Later

        number_is : is_node me ≡ true
        number_is = node_number words scenario begins me one most

        who : client.me ≡ asks.client
        who = me_of words scenario begins set fact linked rows t j sought asks client a was

        no_client : client_actor client.me ≡ me → ⊥
        no_client e = client_away words scenario begins me (node_number words scenario begins me one most) asks a (ap client_actor (sym who) ∙ e)

        -- the replicas before and after
        before_is : (group : Draw) → replica_at scenario rows group me ≡ replica_of group n.node.replicas
        before_is group = replica_is words scenario rows group me (Node n.node) number_is n.fact

        after_is : (group : Draw) → replica_at scenario (rows ++ row_of player_table (node_seat as_nodes scenario.groups scenario.policy me) rows (Deliver number) ∷ []) group me ≡ replica_of group step.0.replicas
        after_is group = replica_is words scenario (rows ++ row_of player_table (nseat me) rows (Deliver number) ∷ []) group me (Node step.0) number_is became

        -- an answer that the node sends
        recorded_later : (answer : AnswerBody) → EndsWait answer → Among (mail_of w.target (client_actor client.me) (Answer w.group w.seq answer)) step.1 → Later
        recorded_later answer ends sent =
            inr (inl (record {
              answer = answer;
              ends = ends;
              there = sent_left words scenario rows (row_of player_table (nseat me) rows (Deliver number)) (after (Deliver number) fine) (client_actor client.me) (mail_of w.target (client_actor client.me) (Answer w.group w.seq answer)) refl (subst (Among (mail_of w.target (client_actor client.me) (Answer w.group w.seq answer))) (sym sends) sent);
            }))

        -- by a replica of a group that stands
        module _ (k : NodeRow (IsBegun scenario rows) set.frames fact.are fact.apart n.node first.mail step) where
          said_is : step.1 ≡ k.place.1
          said_is = ap (λ (x : NodeState × List Mail). x.1) k.after_is

          -- the node leads the group that was asked
          module _ (name : k.frame.core.id ≡ w.group) (lead : w.target ≡ k.frame.lead) where
            mail_is : (answer : AnswerBody) → mail_of k.frame.lead (client_actor client.me) (Answer k.frame.core.id w.seq answer) ≡ mail_of w.target (client_actor client.me) (Answer w.group w.seq answer)
            mail_is answer =
                ap (λ x. mail_of x (client_actor client.me) (Answer k.frame.core.id w.seq answer)) (sym lead)
                ∙ ap (λ d. mail_of w.target (client_actor client.me) (Answer d w.seq answer)) name

            answered_later : (answer : AnswerBody) → EndsWait answer → Among (mail_of k.frame.lead (client_actor client.me) (Answer k.frame.core.id w.seq answer)) k.place.1 → Later
            answered_later answer ends sent = recorded_later answer ends (subst (Among (mail_of w.target (client_actor client.me) (Answer w.group w.seq answer))) (sym said_is) (subst (λ m. Among m k.place.1) (mail_is answer) sent))

            taught_slots : IsReportedOf k.frame k.place.1 client.me w.seq → Later
            taught_slots x =
                let f = reported_final words scenario begins rows asks a client was who w k.frame k.place.1 k.row.said x in
                answered_later f.0 (final_ends f.0 f.1) f.2

            held_later : IsHeld k.place.0 client.me w.seq → Later
            held_later h =
                inr (inr (record {
                  frame = k.frame;
                  is_frame = k.is_frame;
                  name = name;
                  lead = sym lead;
                  r = k.place.0;
                  there = ap (λ d. replica_at scenario (rows ++ row_of player_table (nseat me) rows (Deliver number) ∷ []) d w.target) (sym name)
                      ∙ (ap (replica_at scenario (rows ++ row_of player_table (nseat me) rows (Deliver number) ∷ []) k.frame.core.id) here
                      ∙ (after_is k.frame.core.id ∙ found_after (IsBegun scenario rows) set.frames fact.are fact.apart n.node first.mail step n.calm.plain k));
                  held = h;
                }))

            -- the request comes to it
            took : Took
            took op same =
                let response = subst (λ (m : Mail). Does (IsBegun scenario rows) k.frame (fact.are k.frame k.is_frame) n.node.me k.r m.from m.body k.place) same k.row.response in
                elim (response.1) [
                  | inl refused ↦ answered_later (NotMine k.frame.core.arc k.frame.core.succ) tt (subst (Among (mail_of k.frame.lead (client_actor client.me) (Answer k.frame.core.id w.seq (NotMine k.frame.core.arc k.frame.core.succ)))) (sym (ap (λ (p : Place). p.1) refused.place_is)) (inl refl))
                  | inr queued ↦ elim (queued.run.leads.backlog client.me w.seq (inr (refl, omega arith))) [ inl h ↦ held_later h | inr x ↦ taught_slots x ]
                ]

            -- its request is queued there
            held_still : (r : ReplicaState) → replica_at scenario rows w.group w.target ≡ Some r → IsHeld r client.me w.seq → Later
            held_still r there h =
                let was_there : Some k.r ≡ Some r = sym k.found ∙ (sym (before_is k.frame.core.id) ∙ (ap (λ d. replica_at scenario rows d me) name ∙ (ap (replica_at scenario rows w.group) (sym here) ∙ there))) in
                let same : k.r ≡ r = some_is was_there in
                elim (does_holds (IsBegun scenario rows) k.frame (fact.are k.frame k.is_frame) n.node.me k.r first.mail.from first.mail.body k.place (n.me_is ∙ (sym here ∙ lead)) k.row.response client.me w.seq (subst (λ x. IsHeld x client.me w.seq) (sym same) h)) [
                  | inl now_ ↦ held_later now_
                  | inr x ↦ taught_slots x
                ]

          took_by : Took
          took_by op same =
              let b = subst (λ (m : Mail). IsPlainBody (IsBegun scenario rows) k.frame m.from m.to m.body) same k.says in
              took (sym b.0) b.1.to_is op same

          held_by : Held
          held_by h = elim (cases_Bool (same_draw w.group k.frame.core.id)) [
            | inl yes_ ↦ (
                let name : k.frame.core.id ≡ w.group = sym (draw_is w.group k.frame.core.id yes_) in
                let same : k.frame ≡ h.frame = fact.apart k.frame h.frame k.is_frame h.is_frame (name ∙ sym h.name) in
                held_still name (sym h.lead ∙ ap (λ (f : Frame). f.lead) (sym same)) h.r h.there h.held)
            | inr no_ ↦ (
                let other : w.group ≡ k.frame.core.id → ⊥ = λ e. both_ways (same_draw w.group k.frame.core.id) no_ (same_name w.group k.frame.core.id e) in
                inr (inr (record {
                  frame = h.frame;
                  is_frame = h.is_frame;
                  name = h.name;
                  lead = h.lead;
                  r = h.r;
                  there = ap (replica_at scenario (rows ++ row_of player_table (nseat me) rows (Deliver number) ∷ []) w.group) here
                      ∙ (after_is w.group
                      ∙ (others_after (IsBegun scenario rows) set.frames fact.are fact.apart n.node first.mail step n.calm.plain k w.group other ∙ (sym (before_is w.group) ∙ (ap (replica_at scenario rows w.group) (sym here) ∙ h.there))));
                  held = h.held;
                })))
          ]

        -- by one that steps aside: the node stays, and answers
        module _ (group : Draw) (c seq : ℕ) (op_ : Op) (body_is : first.mail.body ≡ Request group c seq op_) (answer : AnswerBody) (ends : EndsWait answer) (step_is_ : step ≡ (n.node, mail_of me (client_actor c) (Answer group seq answer) ∷ [])) where
          took_aside : Took
          took_aside op same =
              let body : Request group c seq op_ ≡ Request w.group client.me w.seq op = sym body_is ∙ ap (λ (m : Mail). m.body) same in
              let g : group ≡ w.group = cc in
              let who_ : c ≡ client.me = cc in
              let seq_ : seq ≡ w.seq = cc in
              let mail : mail_of me (client_actor c) (Answer group seq answer) ≡ mail_of w.target (client_actor client.me) (Answer w.group w.seq answer) =
              ap (λ x. mail_of x (client_actor c) (Answer group seq answer)) (sym here)
              ∙ (ap (λ x. mail_of w.target (client_actor x) (Answer group seq answer)) who_ ∙ (ap (λ d. mail_of w.target (client_actor client.me) (Answer d seq answer)) g ∙ ap (λ m. mail_of w.target (client_actor client.me) (Answer w.group m answer)) seq_)) in
              recorded_later answer ends (subst (Among (mail_of w.target (client_actor client.me) (Answer w.group w.seq answer))) (sym (ap (λ (x : NodeState × List Mail). x.1) step_is_)) (inl mail))

          held_aside : Held
          held_aside h =
              inr (inr (record {
                frame = h.frame;
                is_frame = h.is_frame;
                name = h.name;
                lead = h.lead;
                r = h.r;
                there = ap (replica_at scenario (rows ++ row_of player_table (nseat me) rows (Deliver number) ∷ []) w.group) here
                    ∙ (after_is w.group
                    ∙ (ap (λ (x : NodeState × List Mail). replica_of w.group x.0.replicas) step_is_ ∙ (sym (before_is w.group) ∙ (ap (replica_at scenario rows w.group) (sym here) ∙ h.there))));
                held = h.held;
              }))

        -- whoever takes it
        record Takes : Type 0 where
          took_it : Took
          held_it : Held

        sought_here : Takes → IsSought words scenario begins set fact linked rows client w.group w.target w.seq → Later
        sought_here takes (inl asked) =
            let mine : Among (asking client.me w.target w.group w.seq asked.0) (rest (system_of as_nodes words scenario) rows me) = subst (λ x. Among (asking client.me w.target w.group w.seq asked.0) (rest sys rows x)) here asked.1 in
            elim (behind_left words scenario rows (row_of player_table (nseat me) rows (Deliver number)) (after (Deliver number) fine) first.mail first.behind first.first refl (asking client.me w.target w.group w.seq asked.0) mine) [
              | inl same ↦ takes.took_it asked.0 same
              | inr b ↦ inl (asked.0, subst (λ x. Among (asking client.me w.target w.group w.seq asked.0) (rest sys (rows ++ row_of player_table (nseat me) rows (Deliver number) ∷ []) x)) (sym here) b)
            ]
        sought_here takes (inr (inl x)) = inr (inl (answered_stays (Deliver number) fine client w.group w.target w.seq no_client x))
        sought_here takes (inr (inr h)) = takes.held_it h

      -- ---- any row of a node

      module _ (number : ℕ) (fine : kth (waiting (system_of as_nodes words scenario) rows (Some me)) 1 ≡ Some number) where
        abbrev at : IsAskingNode scenario set rows me
        at = turns_of.n words scenario begins set fact rows t j room me one most born

        abbrev first_ : TakesFirst (system_of as_nodes words scenario) rows me number
        first_ = turns_of.first words scenario begins set fact rows t j room me one most born number fine

        abbrev step_ : NodeState × List Mail
        step_ = node_table at.node (Got first_.mail)

        became_ : value player_table (node_seat as_nodes scenario.groups scenario.policy me) (rows ++ row_of player_table (node_seat as_nodes scenario.groups scenario.policy me) rows (Deliver number) ∷ []) ≡ Node step_.0
        became_ = turns_of.became words scenario begins set fact rows t j room me one most born number fine

        sends_ : (row_of player_table (node_seat as_nodes scenario.groups scenario.policy me) rows (Deliver number)).sent ≡ step_.1
        sends_ = turns_of.sends words scenario begins set fact rows t j room me one most born number fine

        takes_by : (asks : Asks) (client : ClientState) (a : Among asks scenario.clients) (was : value player_table (client_seat (route_of begins.first) asks) rows ≡ Client client) (w : IsWaiting client) (here : w.target ≡ me)
            → Turns (IsBegun scenario rows) set fact at.node at.calm first_.mail (turns_of.to_me words scenario begins set fact rows t j room me one most born number fine) (turns_of.not_client words scenario begins set fact rows t j room me one most born) (turns_of.in_time words scenario begins set fact rows t j room me one most born number fine)
            → Takes number fine at first_ step_ became_ sends_ asks client a was w here
        takes_by asks client a was w here (inl k) = record {
          took_it = took_by number fine at first_ step_ became_ sends_ asks client a was w here k;
          held_it = held_by number fine at first_ step_ became_ sends_ asks client a was w here k;
        }
        takes_by asks client a was w here (inr s) =
            let step_is_ = step_is (IsBegun scenario rows) set fact at.node at.calm first_.mail (turns_of.to_me words scenario begins set fact rows t j room me one most born number fine) (turns_of.not_client words scenario begins set fact rows t j room me one most born) (turns_of.in_time words scenario begins set fact rows t j room me one most born number fine) s in
            let name : name_of s.r ≡ s.group = draw_is (name_of s.r) s.group (find_found (λ (x : ReplicaState). same_draw (name_of x) s.group) at.node.replicas s.r s.found).1 in
            let answer : AnswerBody = aside_answer s.r.group.core.gone s.r.hint in
            let from : s.r.me ≡ me = at.calm.own s.group s.r s.found ∙ at.me_is in
            let sent = aside_is (IsBegun scenario rows) set fact at.node at.calm first_.mail (turns_of.to_me words scenario begins set fact rows t j room me one most born number fine) (turns_of.not_client words scenario begins set fact rows t j room me one most born) (turns_of.in_time words scenario begins set fact rows t j room me one most born number fine) s in
            let all : step_ ≡ (at.node, mail_of me (client_actor s.client) (Answer s.group s.seq answer) ∷ []) =
            step_is_ ∙ ap (λ (m : Mail). with_mail at.node m) (sent ∙ (ap (λ x. mail_of x (client_actor s.client) (Answer (name_of s.r) s.seq answer)) from ∙ ap (λ d. mail_of me (client_actor s.client) (Answer d s.seq answer)) name)) in
            record {
              took_it = took_aside number fine at first_ step_ became_ sends_ asks client a was w here s.group s.client s.seq s.op s.body_is answer (aside_ends s.r.group.core.gone s.r.hint) all;
              held_it = held_aside number fine at first_ step_ became_ sends_ asks client a was w here s.group s.client s.seq s.op s.body_is answer (aside_ends s.r.group.core.gone s.r.hint) all;
            }

        node_turn : AreSought words scenario begins set fact linked (rows ++ row_of player_table (node_seat as_nodes scenario.groups scenario.policy me) rows (Deliver number) ∷ [])
        node_turn asks client a now_is w =
            let was = was_client (Deliver number) fine asks client a now_is in
            let s = sought asks client a was w in
            elim (cases_eq w.target me) [
              | inl here ↦ sought_here number fine at first_ step_ became_ sends_ asks client a was w here (takes_by asks client a was w here (turns_of.turn words scenario begins set fact rows t j room me one most born number fine)) s
              | inr ne ↦ elsewhere (Deliver number) fine client w.group w.target w.seq (λ e. client_away words scenario begins me (node_number words scenario begins me one most) asks a (ap client_actor (sym (me_of words scenario begins set fact linked rows t j sought asks client a was)) ∙ e)) ne s
            ]

      node_go : (fine : has_started rows me ≡ false) → AreSought words scenario begins set fact linked (rows ++ row_of player_table (node_seat as_nodes scenario.groups scenario.policy me) rows Go ∷ [])
      node_go fine asks client a now_is w =
          let r = row_of player_table (nseat me) rows Go in
          let was = was_client Go fine asks client a now_is in
          let n = turns_of.n words scenario begins set fact rows t j room me one most born in
          let ne : client_actor client.me ≡ me → ⊥ = λ e. client_away words scenario begins me (node_number words scenario begins me one most) asks a (ap client_actor (sym (me_of words scenario begins set fact linked rows t j sought asks client a was)) ∙ e) in
          let acted_go : acted player_table (value player_table (nseat me) rows) (input_of {O = OrderLine} (mails rows) Go) ≡ (Node n.node, []) = ap (λ p. acted player_table p (Some GoInput)) n.fact in
          let same : value player_table (nseat me) (rows ++ r ∷ []) ≡ Node n.node = value_own rows (nseat me) Go ∙ ap (λ (p : Player × List Mail). p.0) acted_go in
          elim (cases_eq w.target me) [
            | inr other ↦ elsewhere Go fine client w.group w.target w.seq ne other (sought asks client a was w)
            | inl here ↦ elim (sought asks client a was w) [
              | inl asked ↦ inl (
                asked.0,
                subst (λ x. Among (asking client.me w.target w.group w.seq asked.0) (rest sys (rows ++ r ∷ []) x)) (sym here)
                    (own_left words scenario rows r (after Go fine) refl (asking client.me w.target w.group w.seq asked.0) (subst (λ x. Among (asking client.me w.target w.group w.seq asked.0) (rest sys rows x)) here asked.1)),
              )
              | inr (inl x) ↦ inr (inl (answered_stays Go fine client w.group w.target w.seq ne x))
              | inr (inr h) ↦ inr (inr (record {
                frame = h.frame;
                is_frame = h.is_frame;
                name = h.name;
                lead = h.lead;
                r = h.r;
                there = ap (λ d. replica_at scenario (rows ++ r ∷ []) d w.target) (sym h.name)
                    ∙ (same_replicas words scenario rows me Go (Node (turns_of.n words scenario begins set fact rows t j room me one most born).node) (node_number words scenario begins me one most) (turns_of.n words scenario begins set fact rows t j room me one most born).fact same h.frame.core.id w.target ∙ (ap (λ d. replica_at scenario rows d w.target) h.name ∙ h.there));
                held = h.held;
              }))
            ]
          ]

      pub node_event : (event : Event OrderLine) → IsInOrder (system_of as_nodes words scenario) rows me event → AreSought words scenario begins set fact linked (rows ++ row_of player_table (node_seat as_nodes scenario.groups scenario.policy me) rows event ∷ [])
      node_event (Deliver number) fine = node_turn number fine
      node_event Go fine = node_go fine
      node_event _ fine = absurd fine
