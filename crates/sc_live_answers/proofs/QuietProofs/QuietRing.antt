-- Groups that stand in a quiet journal, one behind the other.
use Rattle.std.proofs.Common.{◌≡◌, ℕ, ◌+◌, ◌-◌, ◌%◌, ◌<◌, ◌≤◌, ◌^◌, Option, Some, sym, ◌∙◌, ap, subst, arith}
use Rattle.std.specs.Prelude.{IsTrue}
use Rattle.std.proofs.lemmas.Option.{same_Some}
use Rattle.std.proofs.lemmas.Bool.{lt-ltb}
use Rattle.sc_base.specs.Definitions.{Among, Arc, IsArc, end_of, holds, offset}
use Rattle.sc_node_table.specs.Values.{Draw, Base}
use Rattle.sc_words.specs.ideal.IdealDefinitions.{contents_after}
use Rattle.sc_meaning.specs.entries.EntryDefinitions.{effective, IsPlaced, StoreWorld}
use Rattle.sc_meaning.specs.declared.entries.Cut.{Cut}
use Rattle.sc_law_entries.specs.logs.LogDefinitions.{AreItsLogs}
use Rattle.sc_group_table.specs.machine.MachineDefinitions.{Group}
use Rattle.sc_node_table.specs.NodeDefinitions.{ReplicaState}
use Rattle.sc_scenario.specs.declared.scenario.scenarios.Scenario.{Scenario}
use Rattle.sc_meaning.specs.sound.SoundDefinitions.{world_at, as_nodes, IsOneMap}
use Rattle.sc_live_steps.specs.calm.CalmDefinitions.{StandsQuiet, Rows}
use Rattle.sc_live_plain.specs.PlainDefinitions.{IsQuietJournal, replicas_after}
use Rattle.sc_live_answers.specs.AnswerDefinitions.{AreKnown}
use Rattle.std.specs.FinMap.{empty}
use Rattle.sc_law_entries.proofs.RingProofs.RingLemmas.{InsideOf, inside_part, room_of, Holds, IsOnRing}
use Rattle.sc_live_answers.proofs.LinksProofs.FittingGroups.{Meets}
use Rattle.sc_live_answers.proofs.QuietProofs.QuietGroupCuts.{effective_is, placed_group, cut_there}

-- ---- arcs

-- the last position of an arc
last_of : Arc → ℕ
last_of arc = (arc.lo + arc.len + 2 ^ 32 - 1) % 2 ^ 32

last_near : (lo len : ℕ) → lo < 2 ^ 32 → 1 ≤ len → len ≤ 2 ^ 32 → (((lo + len + 2 ^ 32 - 1) % 2 ^ 32 + 2 ^ 32) - lo) % 2 ^ 32 < len
last_near lo len a b c = omega arith

last_held : (arc : Arc) → IsArc arc × (arc.lo < 2 ^ 32) → IsTrue (holds arc (last_of arc))
unfolding last_of
last_held arc fact = lt-ltb (offset arc (last_of arc)) arc.len (last_near arc.lo arc.len fact.1 fact.0.some fact.0.most)

last_low : (arc : Arc) → last_of arc < 2 ^ 32
unfolding last_of
last_low arc = (let n = arc.lo + arc.len + 2 ^ 32 - 1 in omega arith)

same_last : (a b : ℕ) → a % 2 ^ 32 ≡ b % 2 ^ 32 → (a + 2 ^ 32 - 1) % 2 ^ 32 ≡ (b + 2 ^ 32 - 1) % 2 ^ 32
same_last a b e = omega (arith, e)

ends_last : (one other : Arc) → end_of one ≡ end_of other → last_of one ≡ last_of other
unfolding last_of
ends_last one other e = same_last (one.lo + one.len) (other.lo + other.len) e

module _ (words : ℕ → ℕ → ℕ × ℕ) (scenario : Scenario) (first : Base) (rows : Rows) (map : IsOneMap (world_at as_nodes scenario.groups rows)) (logs : AreItsLogs as_nodes scenario.groups rows) (known : AreKnown scenario rows) (quiet : IsQuietJournal words scenario first rows) where
  abbrev world : StoreWorld
  world = world_at as_nodes scenario.groups rows

  abbrev at : Draw → ℕ → Option ReplicaState
  at = replicas_after scenario rows

  -- it has a cut of the ring
  record HasCut (name : Draw) (lead : ReplicaState) : Type 0 where
    cut : Cut
    among : Among cut world.ring
    named : cut.group ≡ name
    fact : (placed : IsPlaced world cut) → placed.group ≡ lead.group

  cut_of : (name : Draw) (q : StandsQuiet (replicas_after scenario rows) name) → HasCut name q.lead
  cut_of name q =
      let c = cut_there words scenario first rows map logs known quiet name q in
      record { cut = c.0; among = c.1; named = c.2; fact = placed_group words scenario first rows map logs known quiet name q c.0 c.2 }

  has_inside : (group : Group) (cut : Cut) → Among cut world.ring → effective world cut.group ≡ Some group → group.core.arc ≡ cut.arc → InsideOf group.core.arc group.pairs
  has_inside group cut among fact arc =
      subst (λ a. InsideOf a group.pairs) (sym arc) (subst (InsideOf cut.arc) (sym (map.parts cut among group fact)) (inside_part cut.arc (contents_after empty world.history)))

  -- what it has lies on its arc
  pub keys_of : (name : Draw) (q : StandsQuiet (replicas_after scenario rows) name) → InsideOf q.lead.group.core.arc q.lead.group.pairs
  keys_of name q =
      let mine = cut_of name q in
      let placed = map.placed mine.cut mine.among in
      let my_group = mine.fact placed in
      has_inside q.lead.group mine.cut mine.among (placed.fact ∙ ap Some my_group) (ap (λ (g : Group). g.core.arc) (sym my_group) ∙ placed.arc)

  -- ---- two groups, one behind the other

  module _ (name : Draw) (q : StandsQuiet (replicas_after scenario rows) name) (s : StandsQuiet (replicas_after scenario rows) q.lead.group.core.succ.group) where
    abbrev mine : HasCut name q.lead
    mine = cut_of name q

    placed : IsPlaced world mine.cut
    placed = map.placed mine.cut mine.among

    my_group : placed.group ≡ q.lead.group
    my_group = mine.fact placed

    behind_named : placed.succ.0.group ≡ q.lead.group.core.succ.group
    behind_named = sym placed.succ.3 ∙ ap (λ (g : Group). g.core.succ.group) my_group

    behind : IsPlaced world placed.succ.0
    behind = map.placed placed.succ.0 placed.succ.1

    its_group : behind.group ≡ s.lead.group
    its_group = same_Some behind.group s.lead.group (sym behind.fact ∙ (ap (effective world) behind_named ∙ effective_is words scenario first rows map logs known quiet q.lead.group.core.succ.group s))

    -- the one behind begins where the other ends
    pub meets : s.lead.group.core.arc.lo ≡ end_of q.lead.group.core.arc
    meets =
        ap (λ (g : Group). g.core.arc.lo) (sym its_group) ∙ (ap (λ (a : Arc). a.lo) behind.arc ∙ (placed.succ.2 ∙ (ap end_of (sym placed.arc) ∙ ap (λ (g : Group). end_of g.core.arc) my_group)))

    -- two cuts that end at one place are one
    one_cut : behind.pred.0 ≡ mine.cut
    one_cut =
        let ends : end_of behind.pred.0.arc ≡ end_of mine.cut.arc = sym behind.pred.2 ∙ placed.succ.2 in
        let last = ends_last behind.pred.0.arc mine.cut.arc ends in
        map.covers.only (last_of behind.pred.0.arc) (last_low behind.pred.0.arc) behind.pred.0 mine.cut behind.pred.1 mine.among (last_held behind.pred.0.arc (map.covers.arcs behind.pred.0 behind.pred.1))
        (subst (λ p. IsTrue (holds mine.cut.arc p)) (sym last) (last_held mine.cut.arc (map.covers.arcs mine.cut mine.among)))

    -- the successor has the group for its predecessor
    pub pred_is : s.lead.group.core.pred.group ≡ name
    pred_is = ap (λ (g : Group). g.core.pred.group) (sym its_group) ∙ (behind.pred.3 ∙ (ap (λ (c : Cut). c.group) one_cut ∙ mine.named))

    my_arc : IsArc q.lead.group.core.arc × (q.lead.group.core.arc.lo < 2 ^ 32)
    my_arc = subst (λ (a : Arc). IsArc a × (a.lo < 2 ^ 32)) (sym placed.arc ∙ ap (λ (g : Group). g.core.arc) my_group) (map.covers.arcs mine.cut mine.among)

    its_arc : IsArc s.lead.group.core.arc × (s.lead.group.core.arc.lo < 2 ^ 32)
    its_arc = subst (λ (a : Arc). IsArc a × (a.lo < 2 ^ 32)) (sym behind.arc ∙ ap (λ (g : Group). g.core.arc) its_group) (map.covers.arcs placed.succ.0 placed.succ.1)

    on_ring : (arc : Arc) → IsArc arc × (arc.lo < 2 ^ 32) → IsOnRing arc
    on_ring arc fact = record { lo_fits = fact.1; some = fact.0.some; len_fits = fact.0.most }

    held_by : (arc other : Arc) (p : ℕ) → arc ≡ other → Holds arc p → IsTrue (holds other p)
    held_by arc other p e h = subst (λ a. IsTrue (holds a p)) e (lt-ltb (offset arc p) arc.len h)

    -- where they are two, they meet, and share nothing
    pub meet_so : (name ≡ q.lead.group.core.succ.group → ⊥) → Meets q.lead.group s.lead.group
    meet_so other =
        let my : q.lead.group.core.arc ≡ mine.cut.arc = ap (λ (g : Group). g.core.arc) (sym my_group) ∙ placed.arc in
        let its : s.lead.group.core.arc ≡ placed.succ.0.arc = ap (λ (g : Group). g.core.arc) (sym its_group) ∙ behind.arc in
        record {
          on = on_ring q.lead.group.core.arc my_arc;
          its_on = on_ring s.lead.group.core.arc its_arc;
          meet = meets;
          room = room_of q.lead.group.core.arc s.lead.group.core.arc (on_ring q.lead.group.core.arc my_arc) (on_ring s.lead.group.core.arc its_arc) meets (λ p low h i. (
              let one : mine.cut ≡ placed.succ.0 = map.covers.only p low mine.cut placed.succ.0 mine.among placed.succ.1 (held_by q.lead.group.core.arc mine.cut.arc p my h) (held_by s.lead.group.core.arc placed.succ.0.arc p its i) in
              other (sym mine.named ∙ (ap (λ (c : Cut). c.group) one ∙ behind_named))));
          inside = has_inside q.lead.group mine.cut mine.among (placed.fact ∙ ap Some my_group) my;
          its_inside = has_inside s.lead.group placed.succ.0 placed.succ.1 (behind.fact ∙ ap Some its_group) its;
        }
