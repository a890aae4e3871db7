-- Each replica of a quiet group is as any journal keeps it.
use Rattle.std.proofs.Common.{◌≡◌, ℕ, ◌+◌, true, false, List, [], ◌∷◌, length, Some, inl, inr, sym, ◌∙◌, ap, subst, arith}
use Rattle.std.specs.Prelude.{slice_get}
use Rattle.std.proofs.lemmas.Bool.{cases_Bool}
use Rattle.sc_base.specs.Definitions.{Each, IsRoster, is_member}
use Rattle.sc_node_table.specs.Values.{Ballot, Base}
use Rattle.sc_scenario.specs.declared.scenario.scenarios.Scenario.{Scenario}
use Rattle.sc_node_table.specs.NodeDefinitions.{is_node, ReplicaState, next}
use Rattle.sc_meaning.specs.sound.SoundDefinitions.{as_nodes}
use Rattle.sc_live_steps.specs.calm.CalmDefinitions.{IsUnbound}
use Rattle.sc_live_steps.proofs.CalmStepsProofs.CalmStepLemmas.{unbound_new}
use Rattle.sc_live_plain.specs.PlainDefinitions.{IsOfNodes, IsKept}
use Rattle.sc_law_entries.specs.logs.LogDefinitions.{Rows}
use Rattle.sc_live_steps.specs.following.FollowingDefinitions.{Sets, Course, SlotLeaders, AreAt}
use Rattle.sc_live_journals.specs.rows.RowDefinitions.{IsWellKept}
use Rattle.sc_live_journals.proofs.RowsProofs.RowLemmas.{Plays, Found, found_well, replay_well}
use Rattle.sc_live_journals.specs.logs.LogDefinitions.{ReplicasAreLogged}
use Rattle.sc_live_journals.proofs.GroupsProofs.GroupLemmas.{scenarios_well_born}
use Rattle.sc_live_answers.specs.AnswerDefinitions.{IsQuietGroup, QuietReplicasAreKept}
use Rattle.sc_live_answers.proofs.QuietProofs.QuietGroupReplicas.{at, view, states, kept, found}
use Rattle.sc_live_answers.proofs.BallotsProofs.WellPlayers.{plays_of}
use Rattle.sc_live_answers.proofs.LinesProofs.LineEndReplicas.{few_of}

-- the members of slots are rosters of nodes
sets_nodes : (sets : Sets) (rosters : (slot : ℕ) → IsRoster (sets slot)) (nodes : (slot node : ℕ) → is_member (sets slot) node ≡ true → is_node node ≡ true) (slot : ℕ) (xs : List (List ℕ)) → AreAt sets slot xs → Each IsOfNodes xs
sets_nodes sets rosters nodes slot [] f = tt
sets_nodes sets rosters nodes slot (x ∷ xs) f = (
  record { roster = subst IsRoster f.0 (rosters slot); nodes = λ node m. nodes slot node (ap (λ ms. is_member ms node) f.0 ∙ m) },
  sets_nodes sets rosters nodes (slot + 1) xs f.1,
)

-- the last of four open slots
fourth : (sets : Sets) (slot : ℕ) (xs : List (List ℕ)) → AreAt sets slot xs → length xs ≡ 4 → slice_get xs 3 ≡ Some (sets (slot + 3))
fourth sets slot (a ∷ b ∷ c ∷ d ∷ xs) f e = (let same : slot + 1 + 1 + 1 ≡ slot + 3 = omega arith in ap Some (sym f.1.1.1.0 ∙ ap sets same))
fourth sets slot [] f e = absurd (omega (arith, e))
fourth sets slot (a ∷ []) f e = absurd (omega (arith, e))
fourth sets slot (a ∷ b ∷ []) f e = absurd (omega (arith, e))
fourth sets slot (a ∷ b ∷ c ∷ []) f e = absurd (omega (arith, e))

module _ (logged : ReplicasAreLogged) (by : SlotLeaders) (words : ℕ → ℕ → ℕ × ℕ) (scenario : Scenario) (journal prefix : Rows) (base : Base) (course : Course) (q : IsQuietGroup by words scenario journal prefix base course)
    (node : ℕ) (r : ReplicaState) (e : view by words scenario journal prefix base course q node ≡ Some r) where
  abbrev sets : Sets
  sets = at by words scenario journal prefix base course q

  well : IsWellKept node r
  well =
      let v = found by words scenario journal prefix base course q node r e in
      let h = v.2 in
      let plays = subst (Plays v.0.who) h.fact (replay_well v.0.who v.0.who prefix v.0.actor [] (plays_of v.0.who v.0.actor ((scenarios_well_born scenario).well v.0 h.seated))) in
      subst (λ w. IsWellKept w r) v.3 (subst (Found v.0.who) h.here (found_well v.0.who base.core.id v.1.replicas plays.1))

  each_set : Each IsOfNodes r.sets
  each_set = sets_nodes sets q.one.log.rosters q.one.log.nodes (next r) r.sets (states by words scenario journal prefix base course q node r e).opens

  is_kept : IsKept base.core.id node r
  is_kept =
      let v = found by words scenario journal prefix base course q node r e in
      let s = states by words scenario journal prefix base course q node r e in
      record {
        me_is = (kept by words scenario journal prefix base course q node r e).0.0;
        name_is = (logged as_nodes words scenario journal base q.group prefix v.0 v.1 r v.2).named;
        own = λ runs. (let g = q.led.followed.given.gives node r e runs in ap (λ (b : Ballot). b.node) g.0.led.may.ballot ∙ sym g.1);
        floor_low = well.2;
        many = s.many;
        sets = each_set;
        last = fourth sets (next r) r.sets s.opens s.many ∙ ap Some s.members_are;
      }

  unbound : (r.running ≡ false → r.leader.reports ≡ []) → IsUnbound r
  unbound none = elim (cases_Bool r.running) [
    | inl runs ↦ λ slot low. unbound_new r.leader (q.led.orderly node r e runs).plain slot
    | inr off ↦ λ slot low. unbound_new r.leader (none off) slot
  ]

pub quiet_replicas_are_kept : ReplicasAreLogged → QuietReplicasAreKept
quiet_replicas_are_kept logged = record {
  kept = λ by words scenario journal prefix base course q node r e. is_kept logged by words scenario journal prefix base course q node r e;
  pumps = λ by words scenario journal prefix base course q node r e none. record { unbound = unbound logged by words scenario journal prefix base course q node r e none; few = few_of r.sets (each_set logged by words scenario journal prefix base course q node r e) };
}
