-- What a line of requests leaves of all replicas, row by row.
use Rattle.std.proofs.Common.{◌≡◌, ℕ, ◌+◌, ◌<◌, ◌≤◌, true, [], ◌∷◌, ◌++◌, Some, ◌⊎◌, inl, inr, sym, ◌∙◌, ap, subst, arith, append_assoc, append-nil}
use Rattle.std.proofs.lemmas.Bool.{cases_eq, cases_Bool, both_ways}
use Rattle.sc_base.specs.Definitions.{Among, same_draw, is_member}
use Rattle.sc_node_table.specs.Values.{Draw, Command, Report}
use Rattle.sc_base.proofs.Lemmas.{draw_is, same_name}
use Rattle.sc_node_table.specs.NodeDefinitions.{ReplicaState, next}
use Rattle.sc_scenario.specs.declared.scenario.scenarios.Scenario.{Scenario}
use Rattle.sc_live_plain.specs.PlainDefinitions.{IsAsking, AreRequests, replica_at, IsGroupAt, IsLinkedSetting, Setting, IsHome, IsSetting, Frame, AreNamedApart, AreTaken}
use Rattle.sc_live_plain.proofs.PlainLemmas.{asking_row, IsStage, Journal, some_is, taken_once}
use Rattle.sc_live_answers.proofs.LinesProofs.CallEffects.{knows}
use Rattle.sc_live_answers.proofs.RequestsProofs.RequestRowReplicas.{AllStay, OneChanges, RowLeaves, row_leaves}
use Rattle.sc_live_answers.proofs.RequestsProofs.RequestRowEffects.{Rests}

-- A replica after some rows, by what it was before them: what it accepted is below what the leader has offered.
pub record HasServed (scenario : Scenario) (rows : Journal) (frame : Frame) (node : ℕ) (first r : ReplicaState) : Type 0 where
  pub next_up : next first ≤ next r
  pub hint_is : r.hint ≡ first.hint
  pub core_is : r.group.core ≡ first.group.core
  pub running_is : r.running ≡ first.running
  pub top : (r.top ≡ first.top) ⊎ ((r.top ≡ frame.ballot) × (r.hint ≡ Some frame.lead))
  pub promised : (r.acceptor.promised ≡ first.acceptor.promised) ⊎ (r.acceptor.promised ≡ frame.ballot)
  pub leader : knows r.leader ≡ knows first.leader
  pub accepted : (report : Report Command) → Among report r.acceptor.accepted → (lead : ReplicaState) (taken : ℕ) → replica_at scenario rows frame.core.id frame.lead ≡ Some lead → AreTaken lead taken → report.slot < next lead + taken
  pub rest : Rests first r ⊎ (is_member frame.core.members node ≡ true)

-- all replicas after some rows: of groups that stand, and of others, which stay
pub record HaveServed (scenario : Scenario) (set : Setting) (rows : Journal) : Type 0 where
  pub standing : (frame : Frame) (node : ℕ) (first : ReplicaState) → Among frame set.frames → set.at frame.core.id node ≡ Some first → (r : ReplicaState) × (replica_at scenario rows frame.core.id node ≡ Some r) × HasServed scenario rows frame node first r
  pub homes : (group : Draw) (node : ℕ) (r : ReplicaState) → replica_at scenario rows group node ≡ Some r → IsHome set group node
  pub others : (group : Draw) (node : ℕ) → ((frame : Frame) → Among frame set.frames → frame.core.id ≡ group → ⊥) → replica_at scenario rows group node ≡ set.at group node

rests_on : (a b c : ReplicaState) → Rests a b → Rests b c → Rests a c
rests_on a b c p q = record {
  sets_are = q.sets_are ∙ p.sets_are;
  group_is = q.group_is ∙ p.group_is;
  acts_are = q.acts_are ∙ p.acts_are;
  waits_are = q.waits_are ∙ p.waits_are;
  next_is = q.next_is ∙ p.next_is;
  floor_is = q.floor_is ∙ p.floor_is;
}

-- ---- nothing changes

module _ (scenario : Scenario) (set : Setting) (rows later : Journal) (same : AllStay scenario rows later) (all : HaveServed scenario set rows) where
  stays_served : (frame : Frame) (node : ℕ) (first r : ReplicaState) → HasServed scenario rows frame node first r → HasServed scenario later frame node first r
  stays_served frame node first r h = record {
    next_up = h.next_up;
    hint_is = h.hint_is;
    core_is = h.core_is;
    running_is = h.running_is;
    top = h.top;
    promised = h.promised;
    leader = h.leader;
    accepted = λ report a lead taken e t. h.accepted report a lead taken (sym (same frame.core.id frame.lead) ∙ e) t;
    rest = h.rest;
  }

  all_stay : HaveServed scenario set later
  all_stay = record {
    standing = λ frame node first a e. (let s = all.standing frame node first a e in (s.0, same frame.core.id node ∙ s.1, stays_served frame node first s.0 s.2));
    homes = λ group node r e. all.homes group node r (sym (same group node) ∙ e);
    others = λ group node none. same group node ∙ all.others group node none;
  }

-- ---- one serves

module _ (words : ℕ → ℕ → ℕ × ℕ) (scenario : Scenario) (set : Setting) (apart : AreNamedApart set.frames) (rows later : Journal) (l : OneChanges words scenario set.frames rows later)
    (groups : (frame : Frame) → Among frame set.frames → IsGroupAt words scenario rows frame) (all : HaveServed scenario set rows) where
  -- the one that serves, or another
  here_or : (name : Draw) (node : ℕ) → ((name ≡ l.frame.core.id) × (node ≡ l.me)) ⊎ (replica_at scenario later name node ≡ replica_at scenario rows name node)
  here_or name node = elim (cases_Bool (same_draw name l.frame.core.id)) [
    | inr f ↦ inr (l.others name node (λ h. both_ways (same_draw name l.frame.core.id) f (same_name name l.frame.core.id h.0)))
    | inl t ↦ elim (cases_eq node l.me) [
      | inl at ↦ inl (draw_is name l.frame.core.id t, at)
      | inr ne ↦ inr (l.others name node (λ h. ne h.1))
    ]
  ]

  was_at : (name : Draw) (node : ℕ) → name ≡ l.frame.core.id → node ≡ l.me → replica_at scenario rows name node ≡ Some l.r
  was_at name node n m = ap (λ d. replica_at scenario rows d node) n ∙ (ap (replica_at scenario rows l.frame.core.id) m ∙ l.was)

  now_at : (name : Draw) (node : ℕ) → name ≡ l.frame.core.id → node ≡ l.me → replica_at scenario later name node ≡ Some l.x
  now_at name node n m = ap (λ d. replica_at scenario later d node) n ∙ (ap (replica_at scenario later l.frame.core.id) m ∙ l.now)

  -- no fewer slots are offered then
  limit_grows : (frame : Frame) → Among frame set.frames → (g : IsGroupAt words scenario rows frame) (lead : ReplicaState) (taken : ℕ) → replica_at scenario later frame.core.id frame.lead ≡ Some lead → AreTaken lead taken → next g.r + g.taken ≤ next lead + taken
  limit_grows frame a g lead taken e t = elim (here_or frame.core.id frame.lead) [
    | inr same ↦ (
        let one : g.r ≡ lead = some_is (sym g.there ∙ (sym same ∙ e)) in
        let count = taken_once lead g.taken taken (subst (λ x. AreTaken x g.taken) one g.slots) t in
        let nexts = ap next one in
        omega (arith, count, nexts))
    | inl here ↦ (
        let of : frame ≡ l.frame = apart frame l.frame a l.is_frame here.0 in
        let was : g.r ≡ l.r = some_is (sym g.there ∙ was_at frame.core.id frame.lead here.0 here.1) in
        let now : l.x ≡ lead = some_is (sym (now_at frame.core.id frame.lead here.0 here.1) ∙ e) in
        let b = l.serves.bound (sym here.1 ∙ ap (λ (f : Frame). f.lead) of) g.taken (subst (λ x. AreTaken x g.taken) was g.slots) in
        let low = b.2 in
        let count = taken_once lead b.0 taken (subst (λ x. AreTaken x b.0) now b.1) t in
        let before = ap next was in
        let after = ap next now in
        omega (arith, low, count, before, after))
  ]

  accepted_still : (frame : Frame) (a : Among frame set.frames) (node : ℕ) (first r : ReplicaState) → HasServed scenario rows frame node first r → (report : Report Command) → Among report r.acceptor.accepted
      → (lead : ReplicaState) (taken : ℕ) → replica_at scenario later frame.core.id frame.lead ≡ Some lead → AreTaken lead taken → report.slot < next lead + taken
  accepted_still frame a node first r h report m lead taken e t =
      let g = groups frame a in
      let low = h.accepted report m g.r g.taken g.there g.slots in
      let grown = limit_grows frame a g lead taken e t in
      omega (arith, low, grown)

  -- the others
  kept_served : (frame : Frame) (a : Among frame set.frames) (node : ℕ) (first r : ReplicaState) → HasServed scenario rows frame node first r → HasServed scenario later frame node first r
  kept_served frame a node first r h = record {
    next_up = h.next_up;
    hint_is = h.hint_is;
    core_is = h.core_is;
    running_is = h.running_is;
    top = h.top;
    promised = h.promised;
    leader = h.leader;
    accepted = accepted_still frame a node first r h;
    rest = h.rest;
  }

  -- the one that serves
  one_served : (first : ReplicaState) → HasServed scenario rows l.frame l.me first l.r → HasServed scenario later l.frame l.me first l.x
  one_served first h =
      let s = l.serves in
      let low = h.next_up in
      let up = s.next_up in
      record {
        next_up = omega (arith, low, up);
        hint_is = s.hint_is ∙ (sym s.hint_was ∙ h.hint_is);
        core_is = s.core_is ∙ h.core_is;
        running_is = s.running_is ∙ h.running_is;
        top = elim (s.top) [
          | inr new ↦ inr (new, s.hint_is)
          | inl same ↦ elim (h.top) [ inl still ↦ inl (same ∙ still) | inr seen ↦ inr (same ∙ seen.0, s.hint_is) ]
        ];
        promised = elim (s.promised) [
          | inr new ↦ inr new
          | inl same ↦ elim (h.promised) [ inl still ↦ inl (same ∙ still) | inr done ↦ inr (same ∙ done) ]
        ];
        leader = s.leader ∙ h.leader;
        accepted = λ report m lead taken e t. elim (s.accepted report m) [
          | inl old ↦ accepted_still l.frame l.is_frame l.me first l.r h report old lead taken e t
          | inr new ↦ (let low = l.below report.slot new in let grown = limit_grows l.frame l.is_frame l.group lead taken e t in omega (arith, low, grown))
        ];
        rest = elim (s.rest) [
          | inr member ↦ inr member
          | inl still ↦ elim (h.rest) [ inl was ↦ inl (rests_on first l.r l.x was still) | inr member ↦ inr member ]
        ];
      }

  standing_then : (frame : Frame) (node : ℕ) (first : ReplicaState) → Among frame set.frames → set.at frame.core.id node ≡ Some first → (r : ReplicaState) × (replica_at scenario later frame.core.id node ≡ Some r) × HasServed scenario later frame node first r
  standing_then frame node first a e =
      let s = all.standing frame node first a e in
      elim (here_or frame.core.id node) [
        | inr same ↦ (s.0, same ∙ s.1, kept_served frame a node first s.0 s.2)
        | inl here ↦ (
            let of : frame ≡ l.frame = apart frame l.frame a l.is_frame here.0 in
            let was : s.0 ≡ l.r = some_is (sym s.1 ∙ was_at frame.core.id node here.0 here.1) in
            let h = subst (λ (x : ReplicaState). HasServed scenario rows l.frame l.me first x) was (subst (λ n. HasServed scenario rows l.frame n first s.0) here.1 (subst (λ (f : Frame). HasServed scenario rows f node first s.0) of s.2)) in
            (l.x, now_at frame.core.id node here.0 here.1, subst (λ (f : Frame). HasServed scenario later f node first l.x) (sym of) (subst (λ n. HasServed scenario later l.frame n first l.x) (sym here.1) (one_served first h))))
      ]

  one_changes : HaveServed scenario set later
  one_changes = record {
    standing = standing_then;
    homes = λ group node r e. elim (here_or group node) [
      | inr same ↦ all.homes group node r (sym same ∙ e)
      | inl here ↦ all.homes group node l.r (was_at group node here.0 here.1)
    ];
    others = λ group node none. l.others group node (λ h. none l.frame l.is_frame (sym h.0)) ∙ all.others group node none;
  }

-- ---- each row of a line

module _ (words : ℕ → ℕ → ℕ × ℕ) (scenario : Scenario) (begins : IsStage scenario) (set : Setting) (fact : IsSetting set) (linked : IsLinkedSetting set) where
  by_leaves : (rows later : Journal) → ((frame : Frame) → Among frame set.frames → IsGroupAt words scenario rows frame) → HaveServed scenario set rows → RowLeaves words scenario set.frames rows later → HaveServed scenario set later
  by_leaves rows later groups all (inl same) = all_stay scenario set rows later same all
  by_leaves rows later groups all (inr one) = one_changes words scenario set fact.apart rows later one groups all

  abbrev Holds : Journal → Type 0
  Holds rows = IsAsking words scenario set begins.first rows × HaveServed scenario set rows

  module _ (before after : Journal) (requests : AreRequests words scenario set before after) where
    pub line_serves : (prefix back : Journal) → after ≡ prefix ++ back → IsAsking words scenario set begins.first (before ++ prefix) × HaveServed scenario set (before ++ prefix) → IsAsking words scenario set begins.first (before ++ after) × HaveServed scenario set (before ++ after)
    line_serves prefix [] e h = subst (λ (l : Journal). Holds (before ++ l)) (sym (e ∙ append-nil prefix)) h
    line_serves prefix (row ∷ back) e h =
        let r = requests prefix back row e in
        let then_ : IsAsking words scenario set begins.first ((before ++ prefix) ++ row ∷ []) = asking_row words scenario begins set fact linked (before ++ prefix) r.0 h.0 r.1 row r.2 in
        let served = by_leaves (before ++ prefix) ((before ++ prefix) ++ row ∷ []) (λ frame a. h.0.groups frame a) h.1 (row_leaves words scenario begins set fact (before ++ prefix) r.0 h.0 r.1 row r.2) in
        let place : (before ++ prefix) ++ row ∷ [] ≡ before ++ (prefix ++ row ∷ []) = append_assoc before prefix (row ∷ []) in
        line_serves (prefix ++ row ∷ []) back (e ∙ sym (append_assoc prefix (row ∷ []) back)) (subst Holds place (then_, served))
