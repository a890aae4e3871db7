-- While clients ask alone no errand is sent, to whomever.
use Rattle.std.proofs.Common.{◌≡◌, ℕ, ◌≤◌, eqb, List, [], ◌∷◌, ◌++◌, find, Option, Some, None, inl, inr, refl, sym, ◌∙◌, ap, subst, append_assoc}
use Rattle.sc_base.specs.Definitions.{Each}
use Rattle.sc_node_table.specs.Values.{Draw, Base, OrderLine, Mail, MailBody, Request, Answer, Accept, Accepted, Learn, Client, Seat, Event, Deliver, Go, Input, Got, Row}
use Rattle.sc_actor.specs.declared.rows.Input.TheVariants.{Go as GoInput}
use Rattle.sc_actor.specs.Definitions.{mails, acted, input_of, row_of}
use Rattle.sc_actor.proofs.Lemmas.{mails-snoc}
use Rattle.sc_client_table.specs.table.TableDefinitions.{Client as ClientState, table}
use Rattle.sc_node_table.specs.NodeDefinitions.{node_table}
use Rattle.sc_live_orderly.specs.OrderlyDefinitions.{IsInOrder, IsOrderly, IsTidy}
use Rattle.sc_words.proofs.PaxosProofs.PaxosLemmas.{Each-append, Each-weaker}
use Rattle.sc_scenario.specs.scenario.Definitions.{ValidScenariosAreBounded}
use Rattle.sc_scenario.specs.declared.scenario.scenarios.Asks.{Asks}
use Rattle.sc_scenario.specs.declared.scenario.scenarios.Scenario.{Scenario}
use Rattle.sc_meaning.specs.sound.SoundDefinitions.{Player, player_table, births, node_seat, client_seat, route_of, system_of, as_nodes}
use Rattle.sc_live_steps.specs.calm.CalmDefinitions.{Rows}
use Rattle.sc_live_steps.specs.orders.OrderDefinitions.{errand_by, Errand}
use Rattle.sc_live_journals.proofs.MailProofs.MailLemmas.{IsRequestOf, clients_ask}
use Rattle.sc_live_plain.specs.PlainDefinitions.{IsAsking, AreFarFromLast, QuietJournalsAsk, Setting, IsSetting, IsAsideBody, IsCalmMail, NodesStayCalm, Frame, IsBegun, Requests, IsPlainBody}
use Rattle.sc_live_plain.proofs.CalmProofs.RequestPhaseNodes as turns_of
use Rattle.sc_live_plain.proofs.PlainLemmas.{IsStage, stage, of_player}
use Rattle.sc_live_answers.specs.AnswerDefinitions.{QuietGroupsHaveCuts, GoesToNode, RequestsSendNoErrands, ChartHintsRise, setting_of, StandingGroupsAreRound, QuietJournalsHaveFrames, QuietSettingsAreLinked}
use Rattle.sc_live_answers.proofs.LinesProofs.Setting as quiet_of

-- ---- mail

no_errand : (entry : Draw × Errand) → None ≡ Some entry → ⊥
no_errand entry e = cc

-- what nodes and clients say then is none: of a group that stands ..
plain_none : (begun : Requests) (frame : Frame) (from to : ℕ) (entry : Draw × Errand) (body : MailBody) → IsPlainBody begun frame from to body → errand_by from to body ≡ Some entry → ⊥
plain_none begun frame from to entry (Request group client seq op) s e = no_errand entry e
plain_none begun frame from to entry (Answer group seq answer) s e = no_errand entry e
plain_none begun frame from to entry (Accept group ballot slot command) s e = no_errand entry e
plain_none begun frame from to entry (Accepted group ballot slot) s e = no_errand entry e
plain_none begun frame from to entry (Learn group slot command) s e = no_errand entry e
plain_none begun frame from to entry _ s e = absurd s

-- mail aside is no errand
aside_none : (begun : Requests) (set : Setting) (from to : ℕ) (entry : Draw × Errand) (body : MailBody) → IsAsideBody begun set from to body → errand_by from to body ≡ Some entry → ⊥
aside_none begun set from to entry (Request group client seq op) s e = no_errand entry e
aside_none begun set from to entry (Answer group seq answer) s e = no_errand entry e
aside_none begun set from to entry _ s e = absurd s

calm_home : (scenario : Scenario) (begun : Requests) (set : Setting) (mail : Mail) → IsCalmMail begun set mail → GoesToNode scenario mail
calm_home scenario begun set mail (inl p) errand = absurd (plain_none begun p.frame mail.from mail.to errand.0 mail.body p.says errand.1)
calm_home scenario begun set mail (inr a) errand = absurd (aside_none begun set mail.from mail.to errand.0 mail.body a errand.1)

-- ---- rows

module _ (scenario : Scenario) where
  -- a client sends requests
  request_home : (me : ℕ) (mail : Mail) → IsRequestOf me mail → GoesToNode scenario mail
  request_home me mail a errand = absurd (no_errand errand.0 (sym (ap (λ (m : Mail). errand_by m.from m.to m.body) a.3) ∙ errand.1))

  client_sends : (client : ClientState) (o : Option (Input Mail OrderLine)) → Each (GoesToNode scenario) (acted player_table (Client client) o).1
  client_sends client None = tt
  client_sends client (Some input) = Each-weaker (IsRequestOf client.me) (GoesToNode scenario) (request_home client.me) (table client input).1 (clients_ask client.me client input refl).1

module _ (nodes_law : NodesStayCalm) (words : ℕ → ℕ → ℕ × ℕ) (scenario : Scenario) (begins : IsStage scenario) (set : Setting) (fact : IsSetting set) (rows : Rows) (t : IsTidy rows) (room : AreFarFromLast scenario set rows) (j : IsAsking words scenario set begins.first rows) where
  abbrev nseat : ℕ → Seat Player
  nseat me = node_seat as_nodes scenario.groups scenario.policy me

  abbrev cseat : Asks → Seat Player
  cseat asks = client_seat (route_of begins.first) asks

  abbrev Home : List Mail → Type 0
  Home sent = Each (GoesToNode scenario) sent

  module _ (me : ℕ) (one : 1 ≤ me) (most : me ≤ scenario.nodes) (born : find (λ (other : Seat Player). eqb other.who me) (births as_nodes scenario) ≡ Some (node_seat as_nodes scenario.groups scenario.policy me)) where
    node_turn : (number : ℕ) → IsInOrder (system_of as_nodes words scenario) rows me (Deliver number) → Home (row_of player_table (nseat me) rows (Deliver number)).sent
    node_turn number fine =
        let n = turns_of.n words scenario begins set fact rows t j room me one most born in
        let first = turns_of.first words scenario begins set fact rows t j room me one most born number fine in
        subst Home (sym (turns_of.sends words scenario begins set fact rows t j room me one most born number fine))
        (Each-weaker (IsCalmMail (IsBegun scenario rows) set) (GoesToNode scenario) (calm_home scenario (IsBegun scenario rows) set) (node_table n.node (Got first.mail)).1
        (nodes_law scenario rows set n.node first.mail fact n.calm
        (turns_of.is_calm words scenario begins set fact rows t j room me one most born number fine)
        (turns_of.to_me words scenario begins set fact rows t j room me one most born number fine)
        (turns_of.not_client words scenario begins set fact rows t j room me one most born)
        (turns_of.in_time words scenario begins set fact rows t j room me one most born number fine)).1)

    node_sends : (event : Event OrderLine) → IsInOrder (system_of as_nodes words scenario) rows me event → Home (row_of player_table (nseat me) rows event).sent
    node_sends (Deliver number) fine = node_turn number fine
    node_sends Go fine = subst (λ (p : Player). Home (acted player_table p (Some GoInput)).1) (sym (j.nodes me one most).fact) tt
    node_sends _ fine = absurd fine

  row_sends : (row : Row Mail OrderLine) → IsOrderly (system_of as_nodes words scenario) rows row → Home row.sent
  row_sends row o = elim (of_player words scenario begins rows row o) [
    | inl n ↦ (
        let row_is : row ≡ row_of player_table (nseat n.me) rows o.event = o.row_is ∙ ap (λ (seat : Seat Player). row_of player_table seat rows o.event) n.seat_is in
        let born = subst (λ (seat : Seat Player). find (λ (other : Seat Player). eqb other.who seat.who) (births as_nodes scenario) ≡ Some seat) n.seat_is o.born in
        subst (λ (r : Row Mail OrderLine). Home r.sent) (sym row_is) (node_sends n.me n.one n.most born o.event (subst (λ (seat : Seat Player). IsInOrder (system_of as_nodes words scenario) rows seat.who o.event) n.seat_is o.in_order)))
    | inr d ↦ (
        let row_is : row ≡ row_of player_table (cseat d.asks) rows o.event = o.row_is ∙ ap (λ (seat : Seat Player). row_of player_table seat rows o.event) d.seat_is in
        let c = j.clients d.asks d.is_asks in
        subst (λ (r : Row Mail OrderLine). Home r.sent) (sym row_is) (subst (λ (p : Player). Home (acted player_table p (input_of (mails rows) o.event)).1) (sym c.fact) (client_sends scenario c.client (input_of (mails rows) o.event))))
  ]

pub requests_send_no_errands : ValidScenariosAreBounded → QuietJournalsHaveFrames → ChartHintsRise → QuietJournalsAsk → QuietGroupsHaveCuts → StandingGroupsAreRound → QuietSettingsAreLinked → NodesStayCalm → RequestsSendNoErrands
requests_send_no_errands all_bounded frames_law rise_law ask_law cuts_law round_law linked_law nodes_law words scenario first others far sent journal quiet after row calm groups rests known asked later home =
    let begins : IsStage scenario = stage scenario (all_bounded scenario calm.valid) in
    let same : first ≡ begins.first = (let e : first ∷ others ≡ begins.first ∷ begins.others = sym groups ∙ begins.groups_are in cc) in
    let set : Setting = setting_of words scenario far sent quiet in
    let last = later.requests after [] row refl in
    let new = row_sends nodes_law words scenario begins set (quiet_of.is_setting all_bounded frames_law rise_law ask_law cuts_law round_law linked_law words scenario first others far sent journal quiet calm groups rests known)
    (quiet ++ after) last.0 last.1 (subst (λ (f : Base). IsAsking words scenario set f (quiet ++ after)) same asked.asking) row last.2 in
    subst (λ (l : Rows). Each (GoesToNode scenario) (mails l)) (append_assoc quiet after (row ∷ []))
    (subst (Each (GoesToNode scenario)) (sym (mails-snoc (quiet ++ after) row)) (Each-append (GoesToNode scenario) (mails (quiet ++ after)) row.sent home new))
