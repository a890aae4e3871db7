-- By the chart of the rows behind a quiet prefix each hint of that leads nearer.
use Rattle.std.proofs.Common.{◌≡◌, ℕ, ◌+◌, ◌-◌, ◌<◌, ◌≤◌, ◌||◌, cond, true, false, Bool, List, [], ◌∷◌, min, max, Option, Some, None, ◌⊎◌, inl, inr, refl, sym, ◌∙◌, ap, arith}
use Rattle.std.specs.Prelude.{is_some}
use Rattle.std.proofs.lemmas.Bool.{cond-true, cond-false, cases_Bool, or_left, or_right, or_from}
use Rattle.sc_base.proofs.Lemmas.{draw_is, same_name}
use Rattle.sc_base.specs.Definitions.{Among, same_draw}
use Rattle.sc_node_table.specs.Values.{Draw, Base, Route, Seat}
use Rattle.sc_live_orderly.specs.OrderlyDefinitions.{orders}
use Rattle.sc_scenario.specs.scenario.Definitions.{IsValid, ValidScenariosAreBounded}
use Rattle.sc_scenario.specs.declared.scenario.scenarios.Scenario.{Scenario}
use Rattle.sc_node_table.specs.NodeDefinitions.{ReplicaState, name_of}
use Rattle.sc_meaning.specs.sound.SoundDefinitions.{Player, births, as_nodes, Lawful}
use Rattle.sc_live_steps.specs.calm.CalmDefinitions.{players, Ways, StandsQuiet, Rows}
use Rattle.sc_live_journals.specs.rows.RowDefinitions.{view_at}
use Rattle.sc_live_journals.specs.charts.ChartDefinitions.{all_replicas, latest_in, way_by, far_at, chart_at, quiet_prefix}
use Rattle.sc_live_plain.specs.PlainDefinitions.{replicas_after, setting_at, DoHintsRise, AreFramesOf, Frame}
use Rattle.sc_live_plain.proofs.PlainLemmas.{some_is}
use Rattle.sc_live_answers.specs.AnswerDefinitions.{AreReached, LawfulReplicasAreNamedOnce, AreAtNodes, RestsAt, ChartHintsRise, ViewsAgree}
use Rattle.sc_live_answers.proofs.QuietProofs.QuietViews.{all_seen, seen_all}

-- ---- ways

-- none from one that runs or is gone
none_left : (most latest : ℕ) (r : ReplicaState) → (r.running || is_some r.group.core.gone) ≡ true → way_by most latest (Some r) ≡ 0
none_left most latest r t = cond-true (r.running || is_some r.group.core.gone) 0 (min most (1 + latest - r.top.round)) t

-- from another as many as its ballot is earlier
some_left : (most latest : ℕ) (r : ReplicaState) → (r.running || is_some r.group.core.gone) ≡ false → way_by most latest (Some r) ≡ min most (1 + latest - r.top.round)
some_left most latest r f = cond-false (r.running || is_some r.group.core.gone) 0 (min most (1 + latest - r.top.round)) f

-- one that is named is nearer
nearer : (most latest : ℕ) (r there : ReplicaState) → (latest ≤ most) × (1 ≤ most) → (1 ≤ r.top.round) × (r.top.round ≤ latest) → there.top.round ≤ latest → r.running ≡ false → r.group.core.gone ≡ None
    → (there.running ≡ true) ⊎ (((into : Route) × (there.group.core.gone ≡ Some into)) ⊎ (r.top.round < there.top.round)) → way_by most latest (Some there) + 1 ≤ way_by most latest (Some r)
nearer most latest r there (room, some_most) (first, low) high stops stands near =
    let mine = some_left most latest r (or_from r.running (is_some r.group.core.gone) stops (ap is_some stands)) in
    by mine near
  where
    by : way_by most latest (Some r) ≡ min most (1 + latest - r.top.round) → (there.running ≡ true) ⊎ (((into : Route) × (there.group.core.gone ≡ Some into)) ⊎ (r.top.round < there.top.round)) → way_by most latest (Some there) + 1 ≤ way_by most latest (Some r)
    by mine (inl runs) = (let zero_ = none_left most latest there (or_left there.running (is_some there.group.core.gone) runs) in omega (arith, zero_, mine, low, room, some_most))
    by mine (inr (inl gone)) = (let zero_ = none_left most latest there (or_right there.running (is_some there.group.core.gone) (ap is_some gone.1)) in omega (arith, zero_, mine, low, room, some_most))
    by mine (inr (inr later)) = elim (cases_Bool (there.running || is_some there.group.core.gone)) [
      | inl t ↦ (let zero_ = none_left most latest there t in omega (arith, zero_, mine, low, room, some_most))
      | inr f ↦ (let some = some_left most latest there f in omega (arith, some, mine, first, low, high, later, room))
    ]

-- where there is no replica, or one that does not run and is not gone, some way is left
some_way : (most latest : ℕ) (o : Option ReplicaState) → 1 ≤ most → ((r : ReplicaState) → o ≡ Some r → (r.top.round ≤ latest) × ((r.running || is_some r.group.core.gone) ≡ false)) → 1 ≤ way_by most latest o
some_way most latest None room k = omega (arith, room)
some_way most latest (Some r) room k = (let fact = k r refl in let low = fact.0 in let some = some_left most latest r fact.1 in omega (arith, low, some, room))

-- ---- the latest round

latest_low : (name : Draw) (most : ℕ) (rs : List ReplicaState) → ((r : ReplicaState) → Among r rs → name_of r ≡ name → r.top.round ≤ most) → latest_in name rs ≤ most
latest_low name most [] k = omega arith
latest_low name most (r ∷ rs) k = by (same_draw (name_of r) name) refl (latest_low name most rs (λ x a. k x (inr a)))
  where
    by : (b : Bool) → same_draw (name_of r) name ≡ b → latest_in name rs ≤ most → cond b (max r.top.round (latest_in name rs)) (latest_in name rs) ≤ most
    by true e more = (let here = k r (inl refl) (draw_is (name_of r) name e) in omega (arith, here, more))
    by false e more = more

latest_high : (name : Draw) (rs : List ReplicaState) (r : ReplicaState) → Among r rs → name_of r ≡ name → r.top.round ≤ latest_in name rs
latest_high name [] r a same = absurd a
latest_high name (x ∷ rs) r (inl e) same =
    let fact = cond-true (same_draw (name_of x) name) (max x.top.round (latest_in name rs)) (latest_in name rs) (same_name (name_of x) name (ap name_of e ∙ same)) in
    let top = ap (λ (y : ReplicaState). y.top.round) e in
    omega (arith, fact, top)
latest_high name (x ∷ rs) r (inr a) same = by (same_draw (name_of x) name) (latest_high name rs r a same)
  where
    by : (b : Bool) → r.top.round ≤ latest_in name rs → r.top.round ≤ cond b (max x.top.round (latest_in name rs)) (latest_in name rs)
    by true low = omega (arith, low)
    by false low = low

-- ---- in a quiet prefix

module _ (all_bounded : ValidScenariosAreBounded) (named : LawfulReplicasAreNamedOnce) (views : ViewsAgree) (words : ℕ → ℕ → ℕ × ℕ) (scenario : Scenario) (first : Base) (others : List Base) (journal quiet later : Rows) (far sent : ℕ) (frames : List Frame)
    (valid : IsValid scenario) (groups : scenario.groups ≡ first ∷ others) (lawful : Lawful as_nodes words scenario quiet) (rests : RestsAt words scenario first journal quiet) (homes : AreAtNodes scenario quiet)
    (prefix : quiet_prefix (players words (births as_nodes scenario)) later ≡ quiet) (room : orders quiet + 1 ≤ far) (are : AreFramesOf (replicas_after scenario quiet) frames) where
  abbrev at : Draw → ℕ → Option ReplicaState
  at = replicas_after scenario quiet

  abbrev seats : List (Seat Player)
  seats = births as_nodes scenario

  abbrev all : List ReplicaState
  all = all_replicas seats quiet

  abbrev ways : Ways
  ways = (chart_at far sent (players words seats) later).ways

  agree : (name : Draw) (who : ℕ) → view_at seats quiet name who ≡ at name who
  agree name who = views.nodes scenario quiet name who (all_bounded scenario valid) homes

  far_is : (group : Draw) (node : ℕ) → ways.far group node ≡ way_by far (latest_in group all) (at group node)
  far_is group node =
      ap (λ rows. far_at far seats rows group node) prefix
      ∙ ap (way_by far (latest_in group all)) (views.charts scenario quiet group node ∙ agree group node)

  round_low : (group : Draw) (node : ℕ) (r : ReplicaState) → at group node ≡ Some r → r.top.round ≤ latest_in group all
  round_low group node r e = latest_high group all r (seen_all all_bounded named words scenario first others quiet valid groups lawful rests.fact homes group node r e) (rests.fact.kept group node r e).name_is

  some_far : 1 ≤ far
  some_far = omega (arith, room)

  latest_few : (group : Draw) → latest_in group all ≤ far
  latest_few group =
      let low = latest_low group (orders quiet + 1) all (λ r a same. (
      let v = all_seen all_bounded named words scenario first others quiet valid groups lawful rests.fact homes r a in
      (rests.rounds (name_of r) v.0 r (agree (name_of r) v.0 ∙ v.1)).1)) in
      omega (arith, low, room)

  lead_zero : (group : Draw) (q : StandsQuiet at group) → ways.far group q.lead.me ≡ 0
  lead_zero group q = far_is group q.lead.me ∙ (ap (way_by far (latest_in group all)) q.newest.is_there ∙ none_left far (latest_in group all) q.lead (or_left q.lead.running (is_some q.lead.group.core.gone) q.leads.running))

  rise : DoHintsRise at ways
  rise = record {
    leads = λ group q node ne. (
        let zero_ = lead_zero group q in
        let fact = far_is group node in
        let some = some_way far (latest_in group all) (at group node) some_far (λ r e. (round_low group node r e, stopped group q node r ne e)) in
        omega (arith, zero_, fact, some));
    hints = λ group node hint r there stops stands h. (
        let rises = rests.fact.quiet.rises group node r there stops stands in
        let same : r.top.node ≡ hint = some_is (sym rises.hint_is ∙ h) in
        let mine = far_is group node ∙ ap (way_by far (latest_in group all)) there in
        let is_there : at group hint ≡ Some rises.there = ap (at group) (sym same) ∙ rises.is_there in
        let theirs = far_is group hint ∙ ap (way_by far (latest_in group all)) is_there in
        let near = nearer far (latest_in group all) r rises.there (latest_few group, some_far) ((rests.rounds group node r (agree group node ∙ there)).0, round_low group node r there) (round_low group hint rises.there is_there) stops stands rises.nearer in
        omega (arith, mine, theirs, near));
  }
    where
      stopped : (group : Draw) (q : StandsQuiet at group) (node : ℕ) (r : ReplicaState) → (node ≡ q.lead.me → ⊥) → at group node ≡ Some r → (r.running || is_some r.group.core.gone) ≡ false
      stopped group q node r ne e =
          let off : r.running ≡ false = elim (cases_Bool r.running) [
            | inl runs ↦ absurd (ne (sym (rests.fact.kept group node r e).me_is ∙ ap (λ (x : ReplicaState). x.me) (q.alone node r e runs)))
            | inr f ↦ f
          ] in
          or_from r.running (is_some r.group.core.gone) off (ap is_some (rests.reach.stand group q node r e))

  reached : AreReached (setting_at at frames ways)
  reached frame a =
      let f = are.are frame a in
      let named_so : f.1.lead.group.core.id ≡ f.0 = (rests.fact.kept f.0 f.1.lead.me f.1.lead f.1.newest.is_there).name_is in
      ap (λ (x : Frame). ways.far x.core.id x.lead) (sym f.2) ∙ (ap (λ name. ways.far name f.1.lead.me) named_so ∙ lead_zero f.0 f.1)

pub hints_rise : ValidScenariosAreBounded → LawfulReplicasAreNamedOnce → ViewsAgree → ChartHintsRise
hints_rise all_bounded named views words scenario first others journal quiet later far sent frames valid groups lawful rests homes prefix room are = (
  rise all_bounded named views words scenario first others journal quiet later far sent frames valid groups lawful rests homes prefix room are,
  reached all_bounded named views words scenario first others journal quiet later far sent frames valid groups lawful rests homes prefix room are,
)
