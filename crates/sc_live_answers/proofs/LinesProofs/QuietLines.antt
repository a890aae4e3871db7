-- A line of requests leaves a quiet journal.
use Rattle.std.proofs.Common.{◌≡◌, ℕ, Bool, true, false, List, [], ◌∷◌, ◌++◌, length, map, ◌⊎◌, inl, inr, refl, sym, ◌∙◌, ap, subst, append-nil}
use Rattle.std.proofs.lemmas.Bool.{both_ways}
use Rattle.sc_base.specs.Definitions.{Among, Each, client_actor, least_of}
use Rattle.sc_node_table.specs.Values.{Draw, Base, Mail, Node, Client}
use Rattle.sc_actor.specs.Definitions.{value, has_started}
use Rattle.sc_client_table.specs.table.TableDefinitions.{Client as ClientState, born_client}
use Rattle.sc_words.proofs.PaxosProofs.PaxosLemmas.{Each-among}
use Rattle.sc_scenario.specs.declared.scenario.scenarios.Asks.{Asks}
use Rattle.sc_scenario.specs.declared.scenario.scenarios.Scenario.{Scenario}
use Rattle.sc_scenario.specs.scenario.Definitions.{ValidScenariosAreBounded}
use Rattle.sc_meaning.specs.sound.SoundDefinitions.{Player, player_table, client_seat, route_of, system_of, as_nodes}
use Rattle.sc_live_orderly.specs.OrderlyDefinitions.{rest, is_born}
use Rattle.sc_live_steps.specs.calm.CalmDefinitions.{Ways, StandsQuiet, IsGoneQuiet, IsAnswered}
use Rattle.sc_live_plain.specs.PlainDefinitions.{IsAsking, AreSeated, NobodyWaits, HaveAllReplies, replicas_after, setting_at, AreFramesOf, IsQuietJournal, frame_at_rest, Other, mark, Setting, IsSetting, Frame, IsBegun, IsPlainGroup, IsPlainAt}
use Rattle.sc_live_plain.proofs.PlainLemmas.{quiet_ask, lines_answered, IsStage, stage, Journal, map_among, client_is}
use Rattle.sc_live_answers.specs.AnswerDefinitions.{HaveOneLog, AreReplicasQuiet, LinesLeaveQuiet}
use Rattle.sc_live_answers.proofs.LinesProofs.LineEndReplicas as all_of
use Rattle.sc_live_answers.proofs.LinesProofs.LineEndStandingGroups as ends
use Rattle.sc_live_answers.proofs.RequestsProofs.RequestLineEnds.{line_ends}
use Rattle.sc_live_answers.proofs.RequestsProofs.RequestLineClients.{AtDesk, AreFresh, keeps_row, line_keeps}
use Rattle.sc_live_answers.proofs.RequestsProofs.RequestLineReplicas.{HaveServed}

each_map : {X Y : Type 0} (f : X → Y) (P : Y → Type 0) (xs : List X) → ((x : X) → Among x xs → P (f x)) → Each P (map f xs)
each_map f P [] g = tt
each_map f P (x ∷ xs) g = (g x (inl refl), each_map f P xs (λ y a. g y (inr a)))

module _ (words : ℕ → ℕ → ℕ × ℕ) (scenario : Scenario) (begins : IsStage scenario) where
  -- the client that a player is
  client_in : Player → ClientState
  client_in (Client client) = client
  client_in (Node node) = born_client 0 [] (route_of begins.first)

  -- one that has not started is as at its birth
  abbrev pub Born : Asks → ClientState → Type 0
  Born asks client = client ≡ born_client client.me client.requests (route_of begins.first)

  -- ---- at the beginning

  fresh_first : (before : Journal) → IsQuietJournal words scenario begins.first before → (asks : Asks) (client : ClientState) → Among asks scenario.clients → has_started before (client_actor asks.client) ≡ false
      → value player_table (client_seat (route_of begins.first) asks) before ≡ Client client → Born asks client
  fresh_first before q asks client a not_gone v =
      let p = q.players asks a in
      let answered = Each-among (λ (c : Bool × ClientState). IsAnswered c.0 (route_of begins.first) c.1) q.clients (has_started before (client_actor asks.client), p.0) q.quiet.answered p.4 in
      subst (Born asks) (client_is (sym p.1 ∙ v)) (subst (λ b. IsAnswered b (route_of begins.first) p.0) not_gone answered)

  -- ---- at the end

  module _ (before : Journal) (q : IsQuietJournal words scenario begins.first before) (frames : List Frame) (ways : Ways) (s : AreFramesOf (replicas_after scenario before) frames) (fact : IsSetting (setting_at (replicas_after scenario before) frames ways))
      (seated : AreSeated scenario (setting_at (replicas_after scenario before) frames ways)) (rows : Journal) (j : IsAsking words scenario (setting_at (replicas_after scenario before) frames ways) begins.first rows)
      (served : HaveServed scenario (setting_at (replicas_after scenario before) frames ways) rows) (none : (who : ℕ) → is_born (system_of as_nodes words scenario) who ≡ true → rest (system_of as_nodes words scenario) rows who ≡ [])
      (one_before : HaveOneLog (replicas_after scenario before)) (one_log : HaveOneLog (replicas_after scenario rows)) (nobody : NobodyWaits scenario begins.first rows) (all : HaveAllReplies scenario begins.first rows)
      (desk : (who : ℕ) → is_born (system_of as_nodes words scenario) who ≡ false → Each (λ (mail : Mail). (name : Draw) → mark name mail ≡ Other) (rest (system_of as_nodes words scenario) rows who))
      (fresh : (asks : Asks) (client : ClientState) → Among asks scenario.clients → has_started rows (client_actor asks.client) ≡ false → value player_table (client_seat (route_of begins.first) asks) rows ≡ Client client → Born asks client) where
    reported : Asks → Bool × ClientState
    reported asks = (has_started rows (client_actor asks.client), client_in (value player_table (client_seat (route_of begins.first) asks) rows))

    answered_by : (asks : Asks) (a : Among asks scenario.clients) (gone : Bool) → has_started rows (client_actor asks.client) ≡ gone → IsAnswered gone (route_of begins.first) (j.clients asks a).client
    answered_by asks a false e = fresh asks (j.clients asks a).client a e (j.clients asks a).fact
    answered_by asks a true e = (let c = j.clients asks a in (nobody asks c.client a c.fact, all asks c.client a c.fact e ∙ sym (ap length c.calm.requests_are)))

    reported_is : (asks : Asks) (a : Among asks scenario.clients) → reported asks ≡ (has_started rows (client_actor asks.client), (j.clients asks a).client)
    unfolding reported client_in
    reported_is asks a = ap (λ (p : Player). (has_started rows (client_actor asks.client), client_in p)) (j.clients asks a).fact

    answered : Each (λ client. IsAnswered client.0 (route_of begins.first) client.1) (map reported scenario.clients)
    answered = each_map reported (λ (client : Bool × ClientState). IsAnswered client.0 (route_of begins.first) client.1) scenario.clients
        (λ asks a. subst (λ (client : Bool × ClientState). IsAnswered client.0 (route_of begins.first) client.1) (sym (reported_is asks a)) (answered_by asks a (has_started rows (client_actor asks.client)) refl))

    quiet : AreReplicasQuiet (replicas_after scenario before) (replicas_after scenario rows)
    quiet = all_of.all_quiet words scenario begins before q frames ways s fact seated rows j served none one_before one_log

    -- what the executed state notes is begun
    noted_by : (group : Draw) (stood : StandsQuiet (replicas_after scenario rows) group) → StandsQuiet (replicas_after scenario before) group ⊎ IsGoneQuiet (replicas_after scenario before) group
        → IsPlainGroup (IsBegun scenario rows) (frame_at_rest stood.lead) stood.lead.group
    noted_by group stood (inl stands) = by (ends.plain_at words scenario begins before q frames ways s fact seated rows j served none one_log group stands stood.lead.me stood.lead stood.newest.is_there)
      where
        by : IsPlainAt (IsBegun scenario rows) (frame_at_rest stands.lead) stood.lead.me stood.lead → IsPlainGroup (IsBegun scenario rows) (frame_at_rest stood.lead) stood.lead.group
        by (inl p) = record { core_is = refl; noted = p.0.group.noted; replied = p.0.group.replied; stored = p.0.group.stored }
        by (inr left) = absurd (both_ways stood.lead.running left.follower.stopped stood.leads.running)
    noted_by group stood (inr gone) =
        absurd (both_ways stood.lead.running (gone.stopped stood.lead.me stood.lead (sym (all_of.same words scenario begins before q frames ways s fact seated rows j served none one_before one_log group gone stood.lead.me) ∙ stood.newest.is_there)) stood.leads.running)

    pub quiet_journal : IsQuietJournal words scenario begins.first rows
    quiet_journal = record {
      clients = map reported scenario.clients;
      quiet = record { groups = quiet.groups; at_rest = quiet.at_rest; rises = quiet.rises; answered = answered };
      kept = quiet.kept;
      noted = λ group stood. noted_by group stood (all_of.which words scenario begins before q frames ways s fact seated rows j served none one_before one_log group stood.lead.me stood.lead stood.newest.is_there);
      nodes = λ me one most. (let n = j.nodes me one most in (n.node, n.fact, n.me_is));
      players = λ asks a. (let c = j.clients asks a in
          (c.client, c.fact, c.calm.me_is, c.calm.requests_are, subst (λ (x : Bool × ClientState). Among x (map reported scenario.clients)) (reported_is asks a) (map_among reported scenario.clients asks a)));
      reached = all_of.home_still words scenario begins before q frames ways s fact seated rows j served none one_before one_log (route_of begins.first).group (least_of (route_of begins.first).members) q.reached;
      none = none;
      desk = desk;
    }

pub leave_quiet : ValidScenariosAreBounded → LinesLeaveQuiet
leave_quiet all_bounded words scenario first others before after frames ways valid groups q s up linked seated requests none one_before one_after =
    let begins = stage scenario (all_bounded scenario valid) in
    let same : first ≡ begins.first = (let e : first ∷ others ≡ begins.first ∷ begins.others = sym groups ∙ begins.groups_are in cc) in
    let set : Setting = setting_at (replicas_after scenario before) frames ways in
    let asks = quiet_ask all_bounded words scenario first others before frames ways valid groups q s up in
    let q_ = subst (λ (f : Base). IsQuietJournal words scenario f before) same q in
    let j_ = subst (λ (f : Base). IsAsking words scenario set f before) same asks.1 in
    let end = line_ends words scenario begins before after frames ways q_ s asks.0 linked j_ requests in
    let answers = lines_answered all_bounded words scenario set first others before after valid groups asks.0 linked seated asks.1 asks.2 requests none in
    let kept = line_keeps words scenario begins set asks.0 linked (λ rows. AtDesk words scenario begins set asks.0 linked seated rows × AreFresh words scenario begins set asks.0 linked seated (Born words scenario begins) rows)
    (λ rows t j room row o h. keeps_row words scenario begins set asks.0 linked seated rows t j room (Born words scenario begins) row o h) before after requests [] after refl
    (subst (λ (l : Journal). IsAsking words scenario set begins.first l × (AtDesk words scenario begins set asks.0 linked seated l × AreFresh words scenario begins set asks.0 linked seated (Born words scenario begins) l)) (sym (append-nil before))
    (j_, (q_.desk, fresh_first words scenario begins before q_))) in
    subst (λ (f : Base). IsQuietJournal words scenario f (before ++ after)) (sym same)
    (quiet_journal words scenario begins before q_ frames ways s asks.0 seated (before ++ after) end.0 end.1 none one_before one_after (subst (λ (f : Base). NobodyWaits scenario f (before ++ after)) same answers.1)
    (subst (λ (f : Base). HaveAllReplies scenario f (before ++ after)) same answers.2) kept.1.0 kept.1.1)
