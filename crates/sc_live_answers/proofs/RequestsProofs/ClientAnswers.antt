-- What a client finds in the answer that it waits for.
use Rattle.std.proofs.Common.{◌≡◌, ℕ, ◌-◌, Bool, Some, inl, inr, sym, ◌∙◌, ap, subst, arith}
use Rattle.std.specs.Prelude.{slice_get}
use Rattle.sc_base.specs.Definitions.{Among, Arc, client_actor}
use Rattle.sc_node_table.specs.Values.{Draw, Op, Reply, Link, Route, AnswerBody, Value, NotLeader, NotMine, Gone, Stale, Mail, Answer}
use Rattle.sc_client_table.specs.lookup.LookupDefinitions.{target_in}
use Rattle.sc_client_table.specs.table.TableDefinitions.{Client as ClientState}
use Rattle.sc_scenario.specs.declared.scenario.scenarios.Asks.{Asks}
use Rattle.sc_live_steps.specs.calm.CalmDefinitions.{Chart, AsksWithin, IsInTurn, LearnsOf, LeavesFor, MayHear, HearsCalmly}
use Rattle.sc_live_plain.specs.PlainDefinitions.{IsLinkedSetting, IsCalmClient, Setting, IsSetting, IsCalmMail, IsWaiting, IsBegun, Requests}
use Rattle.sc_live_plain.proofs.PlainLemmas.{calm_says, CalmSays, alone, new_group, unasked, some_is}
use Rattle.sc_live_answers.specs.AnswerDefinitions.{CountsAs, IsLedAt, AreReached, AsksLeaders, AnswersAreHeardCalmly, ClientsGoCalmly}

module _ (begun : Requests) (set : Setting) (fact : IsSetting set) (linked : IsLinkedSetting set) where
  module _ (asks : Asks) (gone : Bool) (client : ClientState) (k : IsCalmClient set asks gone client) (w : IsWaiting client) where
    module _ (mail : Mail) (m : IsCalmMail begun set mail) (to : mail.to ≡ client_actor client.me) (asked_right : (seq : ℕ) (op : Op) → begun client.me seq op → slice_get client.requests (seq - 1) ≡ Some op) (from : mail.from ≡ w.target) where
      -- a reply comes from the leader: each group is asked there
      pub all_led : AsksLeaders set client → (reply : Reply) → CalmSays begun set mail.from mail.to (Answer w.group w.seq (Value reply)) → (group : Draw) (node : ℕ) → target_in group client.known ≡ Some node → IsLedAt set group node
      all_led leads reply (inr s) group node t = absurd (s.says)
      all_led leads reply (inl s) group node t = elim (leads w group node t) [
        | inl led ↦ led
        | inr same ↦ (
            let there : w.target ≡ node = some_is (sym w.target_is ∙ (ap (λ d. target_in d client.known) (sym same) ∙ t)) in
            record { frame = s.frame; is_frame = s.is_frame; name = sym s.says.0 ∙ sym same; lead = sym s.says.1.from_is ∙ (from ∙ there) })
      ]

      module _ (chart : Chart) (counts : CountsAs set chart) (reached : AreReached set) (leads : AsksLeaders set client) where
        within : (reply : Reply) → CalmSays begun set mail.from mail.to (Answer w.group w.seq (Value reply)) → AsksWithin chart.ways 0 client
        within reply s group node t =
            let led = all_led leads reply s group node t in
            let far = counts.far group node in
            let none = reached led.frame led.is_frame in
            let there : set.ways.far led.frame.core.id led.frame.lead ≡ set.ways.far group node = ap (λ d. set.ways.far d led.frame.lead) led.name ∙ ap (set.ways.far group) led.lead in
            omega (arith, far, none, there)

        learns : (arc : Arc) (succ : Link) → CalmSays begun set mail.from mail.to (Answer w.group w.seq (NotMine arc succ)) → LearnsOf chart.reach succ.group client
        learns arc succ s =
            let new = new_group begun set fact linked asks gone client k w mail to asked_right arc succ s in
            let stands = counts.stand new.other new.is_frame in
            record { among = subst (λ d. Among d chart.reach.standing) new.named stands.0; none = new.none; ends = ap chart.reach.distance (sym new.named) ∙ stands.1 }

        leaves : (into : Route) → CalmSays begun set mail.from mail.to (Answer w.group w.seq (Gone into)) → LeavesFor chart.reach w.group into.group client
        leaves into (inl s) = absurd (s.says.1.says)
        leaves into (inr s) =
            let one = alone begun set fact linked asks gone client k w into s.says in
            let go = counts.go w.group into s.says in
            record { way = one.0; known = one.1; gone = go.0; nearer = go.1 }

        in_turn : IsInTurn client
        in_turn seq e = (let same = some_is (sym w.waits ∙ e) in sym w.number ∙ same)

        may : (answer : AnswerBody) → CalmSays begun set mail.from mail.to (Answer w.group w.seq answer) → MayHear chart.ways chart.reach mail.from w.group w.seq client answer
        may (Value reply) s = (in_turn, within reply s)
        may (NotLeader hint) s = tt
        may (NotMine arc succ) s = λ _. learns arc succ s
        may (Gone into) s = λ _. leaves into s
        may (Stale last) s = tt

        pub hears : (answer : AnswerBody) → mail.body ≡ Answer w.group w.seq answer → HearsCalmly chart.ways chart.reach mail.from mail.body client
        hears answer e = record { group = w.group; seq = w.seq; answer = answer; body_is = e; may = may answer (calm_says begun set mail m (Answer w.group w.seq answer) e) }

-- A client that asks leaders finds what it needs in the answer that it waits for.
pub answers_heard : AnswersAreHeardCalmly
answers_heard scenario rows set chart elsewhere asks gone client mail fact linked reached counts k m to asked_right leads a =
    hears (IsBegun scenario rows) set fact linked asks gone client k a.waits mail m to asked_right a.from_is chart counts reached leads a.answer a.body_is

-- One that has not started may start, where it is sent on no more often than the chart allows.
pub clients_go : ClientsGoCalmly
clients_go set chart asks client k near = (let none = unasked client k.state in record { idle = none.0; none = none.1; near = near })
