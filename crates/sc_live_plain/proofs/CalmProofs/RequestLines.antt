-- Lines of requests are answered: where no mail is left, no request waits.
use Rattle.std.proofs.Common.{◌≡◌, ℕ, ◌+◌, ◌≤◌, true, List, [], ◌∷◌, ◌++◌, length, map, Some, None, inl, inr, refl, sym, ◌∙◌, ap, subst, arith, append_assoc, append-nil}
use Rattle.std.proofs.lemmas.Bool.{both_ways}
use Rattle.sc_base.specs.Definitions.{Among, client_actor, is_member}
use Rattle.sc_node_table.specs.Values.{Base, OrderLine, Mail, Answer, Node, Client, Seat}
use Rattle.sc_actor.specs.Definitions.{value, System, has_started}
use Rattle.sc_client_table.specs.table.TableDefinitions.{Client as ClientState}
use Rattle.sc_node_table.specs.NodeDefinitions.{replica_of, ReplicaState, numbers_from, slots_ahead}
use Rattle.sc_scenario.specs.declared.scenario.scenarios.Asks.{Asks}
use Rattle.sc_scenario.specs.declared.scenario.scenarios.Scenario.{Scenario}
use Rattle.sc_scenario.specs.scenario.Definitions.{ValidScenariosAreBounded}
use Rattle.sc_meaning.specs.sound.SoundDefinitions.{Player, player_table, node_seat, client_seat, route_of, births, system_of, as_nodes}
use Rattle.sc_live_orderly.specs.OrderlyDefinitions.{rest, is_born}
use Rattle.sc_live_orderly.proofs.OrderlyLemmas.{is_born-from, seat_found}
use Rattle.sc_paxos_law.proofs.Lemmas.{Among-right}
use Rattle.sc_live_plain.specs.PlainDefinitions.{IsAsking, AreRequests, NobodyWaits, AreSeated, HaveAllReplies, LinesAreAnswered, Asks as AsksFor, Votes, mark, IsVoting, replica_at, votes_in, marks_at, IsLinkedSetting, IsCalmClient, Setting, IsSetting, Frame, IsBegun, IsWaiting}
use Rattle.sc_live_plain.proofs.CalmProofs.RequestPhaseClients.{asking_row}
use Rattle.sc_live_plain.proofs.CalmProofs.CalmWaitingRequests.{sought_row}
use Rattle.sc_live_plain.proofs.CalmProofs.SoughtRequests.{AreSought}
use Rattle.sc_live_plain.proofs.PlainProofs.PlainBeginnings.{IsStage, stage}
use Rattle.sc_live_plain.proofs.PlainProofs.PlainSteps.{node_born, node_number}
use Rattle.sc_live_plain.proofs.PlainRowsProofs.RowViews.{Journal, replica_is}
use Rattle.sc_live_plain.proofs.CalmProofs.CalmClients.{waiting_home}
use Rattle.sc_live_plain.proofs.CalmProofs.CalmClients.{asking}
use Rattle.sc_live_plain.proofs.LeadersProofs.LeadingReplicas.{IsHeld}
use Rattle.sc_live_plain.proofs.PlainRowsProofs.Lists.{map_among}
use Rattle.sc_live_plain.proofs.LeadersProofs.IdleLeaders.{leader_idle}
use Rattle.sc_live_plain.proofs.PlainRowsProofs.RowViews.{client_is}
use Rattle.sc_live_plain.proofs.PlainRowsProofs.ReplicaRows.{leading_at}
use Rattle.sc_live_plain.proofs.PlainRowsProofs.RepeatedMail.{mail_of}

module _ (words : ℕ → ℕ → ℕ × ℕ) (scenario : Scenario) (begins : IsStage scenario) (set : Setting) (fact : IsSetting set) (linked : IsLinkedSetting set) (seated : AreSeated scenario set) where
  abbrev sys : System Player Mail OrderLine
  sys = system_of as_nodes words scenario

  abbrev nseat : ℕ → Seat Player
  nseat me = node_seat as_nodes scenario.groups scenario.policy me

  abbrev cseat : Asks → Seat Player
  cseat asks = client_seat (route_of begins.first) asks

  -- what holds after each row
  abbrev Holds : Journal → Type 0
  Holds rows = IsAsking words scenario set begins.first rows × AreSought words scenario begins set fact linked rows

  -- a node that was asked is one
  pub asked_node : (rows : Journal) → IsAsking words scenario set begins.first rows → (asks : Asks) (client : ClientState) → Among asks scenario.clients → value player_table (client_seat (route_of begins.first) asks) rows ≡ Client client → (w : IsWaiting client)
      → (1 ≤ w.target) × (w.target ≤ scenario.nodes)
  asked_node rows j asks client a e w =
      let c = j.clients asks a in
      let same : c.client ≡ client = client_is (sym c.fact ∙ e) in
      let home = waiting_home set asks (has_started rows (client_actor asks.client)) client (subst (λ (x : ClientState). IsCalmClient set asks (has_started rows (client_actor asks.client)) x) same c.calm) w in
      seated.homes w.group w.target home

  -- ---- row by row

  module _ (before after : Journal) (requests : AreRequests words scenario set before after) where
    go_through : (prefix back : Journal) → after ≡ prefix ++ back → Holds (before ++ prefix) → Holds (before ++ after)
    go_through prefix [] e h = subst (λ (l : Journal). Holds (before ++ l)) (sym (e ∙ append-nil prefix)) h
    go_through prefix (row ∷ back) e h =
        let r = requests prefix back row e in
        let then_ : IsAsking words scenario set begins.first ((before ++ prefix) ++ row ∷ []) = asking_row words scenario begins set fact linked (before ++ prefix) r.0 h.0 r.1 row r.2 in
        let sought = sought_row words scenario begins set fact linked (before ++ prefix) r.0 h.0 h.1 r.1 row r.2
        (λ asks client a v w. (let n = asked_node ((before ++ prefix) ++ row ∷ []) then_ asks client a v w in node_number words scenario begins w.target n.0 n.1)) in
        let place : (before ++ prefix) ++ row ∷ [] ≡ before ++ (prefix ++ row ∷ []) = append_assoc before prefix (row ∷ []) in
        go_through (prefix ++ row ∷ []) back (e ∙ sym (append_assoc prefix (row ∷ []) back)) (subst Holds place (then_, sought))

  -- ---- where nothing is left

  module _ (rows : Journal) (j : IsAsking words scenario set begins.first rows) (sought : AreSought words scenario begins set fact linked rows) (none : (who : ℕ) → is_born (system_of as_nodes words scenario) who ≡ true → rest (system_of as_nodes words scenario) rows who ≡ []) where
    born : (seat : Seat Player) → Among seat (births as_nodes scenario) → is_born (system_of as_nodes words scenario) seat.who ≡ true
    born seat a = is_born-from sys seat.who seat (seat_found (births as_nodes scenario) seat begins.seats_apart a)

    none_node : (me : ℕ) → (1 ≤ me) × (me ≤ scenario.nodes) → rest (system_of as_nodes words scenario) rows me ≡ []
    none_node me there = none me (born (nseat me) (node_born words scenario begins me there.0 there.1))

    none_client : (asks : Asks) → Among asks scenario.clients → rest (system_of as_nodes words scenario) rows (client_actor asks.client) ≡ []
    none_client asks a =
        none (client_actor asks.client) (born (cseat asks) (subst (Among (cseat asks)) (sym begins.seats) (Among-right (cseat asks) (map nseat (numbers_from 1 scenario.nodes)) (map cseat scenario.clients) (map_among cseat scenario.clients asks a))))

    -- no leader has a queued request
    none_held : (frame : Frame) (a : Among frame set.frames) (r : ReplicaState) → replica_at scenario rows frame.core.id frame.lead ≡ Some r → (client seq : ℕ) → IsHeld r client seq → ⊥
    none_held frame a r there client seq held =
        let g = j.groups frame a in
        let at = seated.voters frame (frame.from + slots_ahead) frame.lead a (ap (λ ms. is_member ms frame.lead) ((fact.are frame a).later (frame.from + slots_ahead) (omega arith)) ∙ (fact.are frame a).leads) in
        let n = j.nodes frame.lead at.0 at.1 in
        let here : replica_of frame.core.id n.node.replicas ≡ Some r = sym (replica_is words scenario rows frame.core.id frame.lead (Node n.node) (node_number words scenario begins frame.lead at.0 at.1) n.fact) ∙ there in
        let leads = leading_at (IsBegun scenario rows) frame (fact.are frame a) n.node.me r n.me_is (n.calm.plain.replicas frame r a here) in
        leader_idle (IsBegun scenario rows) frame (fact.are frame a) r leads.1
        (λ slot voters e node m. counted slot voters node m at (g.between.votes slot voters (ap (λ o. votes_in o slot) there ∙ e) node m)) client seq held
      where
        counted : (slot : ℕ) (voters : List ℕ) (node : ℕ) → is_member (frame.at slot) node ≡ true → (1 ≤ frame.lead) × (frame.lead ≤ scenario.nodes) → IsVoting node slot voters (marks_at words scenario rows frame.core.id node) (marks_at words scenario rows frame.core.id frame.lead) → is_member voters node ≡ true
        counted slot voters node m at (inl v) = v
        counted slot voters node m at (inr (inl asked)) = absurd (subst (Among (AsksFor slot)) (ap (map (mark frame.core.id)) (none_node node (seated.voters frame slot node a m))) asked)
        counted slot voters node m at (inr (inr vote)) = absurd (subst (Among (Votes node slot)) (ap (map (mark frame.core.id)) (none_node frame.lead at)) vote)

    none_waits : (asks : Asks) (client : ClientState) → Among asks scenario.clients → value player_table (client_seat (route_of begins.first) asks) rows ≡ Client client → IsWaiting client → ⊥
    none_waits asks client a e w =
        let c = j.clients asks a in
        let who : client.me ≡ asks.client = ap (λ (x : ClientState). x.me) (client_is (sym e ∙ c.fact)) ∙ c.calm.me_is in
        elim (sought asks client a e w) [
          | inl x ↦ subst (Among (asking client.me w.target w.group w.seq x.0)) (none_node w.target (asked_node rows j asks client a e w)) x.1
          | inr (inl x) ↦ subst (Among (mail_of w.target (client_actor client.me) (Answer w.group w.seq x.answer))) (ap (λ m. rest sys rows (client_actor m)) who ∙ none_client asks a) x.there
          | inr (inr h) ↦ none_held h.frame h.is_frame h.r (ap (λ d. replica_at scenario rows d h.frame.lead) h.name ∙ (ap (replica_at scenario rows w.group) h.lead ∙ h.there)) client.me w.seq h.held
        ]

    nobody_waits : NobodyWaits scenario begins.first rows
    nobody_waits asks client a e =
        let c = j.clients asks a in
        let same : c.client ≡ client = client_is (sym c.fact ∙ e) in
        elim (c.calm.state) [
          | inl rests ↦ ap (λ (x : ClientState). x.waiting) (sym same) ∙ rests.waits
          | inr waits ↦ absurd (none_waits asks c.client a c.fact waits.1)
        ]

    all_replies : HaveAllReplies scenario begins.first rows
    all_replies asks client a e gone =
        let c = j.clients asks a in
        let same : c.client ≡ client = client_is (sym c.fact ∙ e) in
        let requests = ap length c.calm.requests_are in
        elim (c.calm.state) [
          | inl rests ↦ elim (rests.replies) [
            | inl not_gone ↦ absurd (both_ways (has_started rows (client_actor asks.client)) not_gone.0 gone)
            | inr all ↦ ap (λ (x : ClientState). length x.replies) (sym same) ∙ (all.1 ∙ requests)
          ]
          | inr waits ↦ absurd (none_waits asks c.client a c.fact waits.1)
        ]

pub lines_answered : ValidScenariosAreBounded → LinesAreAnswered
lines_answered all_bounded words scenario set first others before after valid groups fact linked seated j still requests none =
    let begins = stage scenario (all_bounded scenario valid) in
    let same : first ≡ begins.first = (let e : first ∷ others ≡ begins.first ∷ begins.others = sym groups ∙ begins.groups_are in cc) in
    let j_ = subst (λ (f : Base). IsAsking words scenario set f before) same j in
    let still_ = subst (λ (f : Base). NobodyWaits scenario f before) same still in
    let nothing : AreSought words scenario begins set fact linked before = λ asks client a e w. (let bad : None ≡ Some w.seq = sym (still_ asks client a e) ∙ w.waits in cc) in
    let start : before ++ [] ≡ before = append-nil before in
    let end = go_through words scenario begins set fact linked seated before after requests [] after refl (subst (λ (l : Journal). IsAsking words scenario set begins.first l × AreSought words scenario begins set fact linked l) (sym start) (j_, nothing)) in
    let quiet = nobody_waits words scenario begins set fact linked seated (before ++ after) end.0 end.1 none in
    let all = all_replies words scenario begins set fact linked seated (before ++ after) end.0 end.1 none in
    subst (λ (f : Base). IsAsking words scenario set f (before ++ after) × NobodyWaits scenario f (before ++ after) × HaveAllReplies scenario f (before ++ after)) (sym same) (end.0, quiet, all)
