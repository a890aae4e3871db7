-- A line of requests from a quiet journal leaves all replicas quiet.
use Rattle.std.proofs.Common.{◌≡◌, ℕ, ◌+◌, ◌<◌, List, [], ◌∷◌, ◌++◌, Some, inl, refl, sym, ◌∙◌, ap, subst, arith, append-nil}
use Rattle.sc_base.specs.Definitions.{Among}
use Rattle.sc_node_table.specs.Values.{Command, Base, Report}
use Rattle.sc_words.proofs.PaxosProofs.PaxosLemmas.{Each-among}
use Rattle.sc_node_table.specs.NodeDefinitions.{ReplicaState, next}
use Rattle.sc_scenario.specs.declared.scenario.scenarios.Scenario.{Scenario}
use Rattle.sc_scenario.specs.scenario.Definitions.{ValidScenariosAreBounded}
use Rattle.sc_live_steps.specs.calm.CalmDefinitions.{Ways}
use Rattle.sc_live_plain.specs.PlainDefinitions.{IsAsking, AreRequests, replicas_after, setting_at, AreFramesOf, IsQuietJournal, replica_at, IsLinkedSetting, IsSetting, Frame, AreTaken}
use Rattle.sc_live_plain.proofs.PlainLemmas.{quiet_ask, IsStage, stage, Journal, some_is}
use Rattle.sc_live_answers.specs.AnswerDefinitions.{LinesLeaveReplicasQuiet}
use Rattle.sc_live_answers.proofs.LinesProofs.LineEndReplicas.{all_quiet}
use Rattle.sc_live_answers.proofs.RequestsProofs.RequestLineReplicas.{HaveServed, line_serves}
use Rattle.sc_live_answers.proofs.RequestsProofs.RequestRowEffects.{rests_itself}

-- at the beginning all replicas are as they were
module _ (words : ℕ → ℕ → ℕ × ℕ) (scenario : Scenario) (first : Base) (before : Journal) (q : IsQuietJournal words scenario first before) (frames : List Frame) (ways : Ways) (s : AreFramesOf (replicas_after scenario before) frames) where
  under_lead : (frame : Frame) (node : ℕ) (r : ReplicaState) → Among frame frames → replica_at scenario before frame.core.id node ≡ Some r → (report : Report Command) → Among report r.acceptor.accepted
      → (lead : ReplicaState) (taken : ℕ) → replica_at scenario before frame.core.id frame.lead ≡ Some lead → AreTaken lead taken → report.slot < next lead + taken
  under_lead frame node r a e report m lead taken there t =
      let f = s.are frame a in
      let here = f.1.newest.is_there in
      let id : frame.core.id ≡ f.0 = ap (λ (x : Frame). x.core.id) (sym f.2) ∙ (q.kept f.0 f.1.lead.me f.1.lead here).name_is in
      let at : frame.lead ≡ f.1.lead.me = ap (λ (x : Frame). x.lead) (sym f.2) in
      let same : lead ≡ f.1.lead = some_is (sym there ∙ (ap (λ d. replica_at scenario before d frame.lead) id ∙ (ap (replica_at scenario before f.0) at ∙ here))) in
      let low = Each-among (λ (x : Report Command). x.slot < next f.1.lead) r.acceptor.accepted report (f.1.below_it node r (sym (ap (λ d. replica_at scenario before d node) id) ∙ e)).accepted m in
      let nexts = ap next same in
      omega (arith, low, nexts)

  pub at_first : HaveServed scenario (setting_at (replicas_after scenario before) frames ways) before
  at_first = record {
    standing = λ frame node r a e. (
      r,
      e,
      record {
        next_up = omega arith;
        hint_is = refl;
        core_is = refl;
        running_is = refl;
        top = inl refl;
        promised = inl refl;
        leader = refl;
        accepted = under_lead frame node r a e;
        rest = inl (rests_itself r);
      },
    );
    homes = λ group node r e. record { r = r; is_there = e };
    others = λ group node none. refl;
  }

-- at the end of the line all replicas are as they were
pub line_ends : (words : ℕ → ℕ → ℕ × ℕ) (scenario : Scenario) (begins : IsStage scenario) (before after : Journal) (frames : List Frame) (ways : Ways) → IsQuietJournal words scenario begins.first before → AreFramesOf (replicas_after scenario before) frames
    → IsSetting (setting_at (replicas_after scenario before) frames ways) → IsLinkedSetting (setting_at (replicas_after scenario before) frames ways) → IsAsking words scenario (setting_at (replicas_after scenario before) frames ways) begins.first before
    → AreRequests words scenario (setting_at (replicas_after scenario before) frames ways) before after
    → IsAsking words scenario (setting_at (replicas_after scenario before) frames ways) begins.first (before ++ after) × HaveServed scenario (setting_at (replicas_after scenario before) frames ways) (before ++ after)
line_ends words scenario begins before after frames ways q s fact linked j requests =
    let set = setting_at (replicas_after scenario before) frames ways in
    line_serves words scenario begins set fact linked before after requests [] after refl
    (subst (λ (l : Journal). IsAsking words scenario set begins.first l × HaveServed scenario set l) (sym (append-nil before)) (j, at_first words scenario begins.first before q frames ways s))

pub replicas_quiet : ValidScenariosAreBounded → LinesLeaveReplicasQuiet
replicas_quiet all_bounded words scenario first others before after frames ways valid groups q s up linked seated requests none one_before one_after =
    let begins = stage scenario (all_bounded scenario valid) in
    let same : first ≡ begins.first = (let e : first ∷ others ≡ begins.first ∷ begins.others = sym groups ∙ begins.groups_are in cc) in
    let asks = quiet_ask all_bounded words scenario first others before frames ways valid groups q s up in
    let q_ = subst (λ (f : Base). IsQuietJournal words scenario f before) same q in
    let j_ = subst (λ (f : Base). IsAsking words scenario (setting_at (replicas_after scenario before) frames ways) f before) same asks.1 in
    let end = line_ends words scenario begins before after frames ways q_ s asks.0 linked j_ requests in
    all_quiet words scenario begins before q_ frames ways s asks.0 seated (before ++ after) end.0 end.1 none one_before one_after
