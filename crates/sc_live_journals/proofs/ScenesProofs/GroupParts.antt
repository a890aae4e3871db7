-- The part of a group, where its replicas stay, and where one is made at its birth.
use Rattle.std.proofs.Common.{◌≡◌, ℕ, ◌≤◌, true, false, true≢false, List, [], Option, Some, None, inl, inr, refl, sym, ◌∙◌, ap, subst}
use Rattle.std.proofs.lemmas.Bool.{cases_eq}
use Rattle.sc_base.specs.Definitions.{Among}
use Rattle.sc_node_table.specs.NodeDefinitions.{ReplicaState, next}
use Rattle.sc_live_steps.specs.orders.OrderDefinitions.{Bond, Unbound, bond_of, works}
use Rattle.sc_live_journals.specs.scenes.SceneDefinitions.{is_running, lead_of, newest_of, bond_there, works_of, bond_by, work_at}
use Rattle.sc_live_journals.proofs.ScenesProofs.NewestLeaders.{lead_runs, none_runs, lead_same, newest_same, IsNewest, newest_is}

abbrev pub Nodes : Type 0
Nodes = ℕ → Option ReplicaState

-- these nodes are all that have a replica
abbrev pub AreAll : Nodes → List ℕ → Type 0
AreAll at nodes = (node : ℕ) (r : ReplicaState) → at node ≡ Some r → Among node nodes

-- each newest replica is bound so
abbrev pub AreBound : Nodes → Bond → Type 0
AreBound at bond = (node : ℕ) (r : ReplicaState) → at node ≡ Some r → ((other : ℕ) (x : ReplicaState) → at other ≡ Some x → next x ≤ next r) → bond_of r.group.core ≡ bond

bound_by : (at : Nodes) (nodes : List ℕ) (bond : Bond) → AreAll at nodes → AreBound at bond → (o : Option ReplicaState) → IsNewest at nodes o → ((o ≡ None) → Unbound ≡ bond) → bond_there o ≡ bond
bound_by at nodes bond all bound None new none = none refl
bound_by at nodes bond all bound (Some r) new none = bound new.node r new.there (λ other x has. new.most other x (all other x has) has)

-- so is the newest, if there is one
pub newest_bound : (at : Nodes) (nodes : List ℕ) (bond : Bond) → AreAll at nodes → AreBound at bond → ((newest_of at nodes ≡ None) → Unbound ≡ bond) → bond_there (newest_of at nodes) ≡ bond
newest_bound at nodes bond all bound none = bound_by at nodes bond all bound (newest_of at nodes) (newest_is at nodes) none

-- where a node has a replica there is a newest
pub newest_some : (at : Nodes) (nodes : List ℕ) (node : ℕ) (r : ReplicaState) → AreAll at nodes → at node ≡ Some r → newest_of at nodes ≡ None → ⊥
newest_some at nodes node r all has none =
    let new : IsNewest at nodes None = subst (IsNewest at nodes) none (newest_is at nodes) in
    (let bad : None ≡ Some r = sym (new node (all node r has)) ∙ has in cc)

-- ---- two views

-- the bond and the work are the same, and who leads goes on
pub record SamePart (one other : Nodes) (nodes : List ℕ) : Type 0 where
  pub bond : bond_by other nodes (lead_of other nodes) ≡ bond_by one nodes (lead_of one nodes)
  pub work : work_at other (lead_of other nodes) ≡ work_at one (lead_of one nodes)
  pub leads : (node : ℕ) → lead_of one nodes ≡ Some node → lead_of other nodes ≡ Some node

bond_as : (one other : Nodes) (nodes : List ℕ) → ((node : ℕ) → other node ≡ one node) → (o : Option ℕ) → bond_by other nodes o ≡ bond_by one nodes o
bond_as one other nodes same None = ap bond_there (newest_same other one nodes same)
bond_as one other nodes same (Some node) = ap bond_there (same node)

work_as : (one other : Nodes) → ((node : ℕ) → other node ≡ one node) → (o : Option ℕ) → work_at other o ≡ work_at one o
work_as one other same None = refl
work_as one other same (Some node) = ap works_of (same node)

-- the same replicas
pub same_part : (one other : Nodes) (nodes : List ℕ) → ((node : ℕ) → other node ≡ one node) → SamePart one other nodes
same_part one other nodes same =
    let lead : lead_of other nodes ≡ lead_of one nodes = lead_same other one nodes (λ node. ap is_running (same node)) in
    record {
      bond = ap (bond_by other nodes) lead ∙ bond_as one other nodes same (lead_of one nodes);
      work = ap (work_at other) lead ∙ work_as one other same (lead_of one nodes);
      leads = λ node e. lead ∙ e;
    }

-- one more replica, at a node that had none, free, and without work
module _ (one other : Nodes) (nodes : List ℕ) (who : ℕ) (born : ReplicaState) (all : AreAll one nodes) (among : Among who nodes) (none : one who ≡ None) (makes : other who ≡ Some born)
    (same : (node : ℕ) → (node ≡ who → ⊥) → other node ≡ one node) (free : bond_of born.group.core ≡ Unbound) (idle : works born ≡ []) (newest : AreBound one Unbound) where
  all_after : AreAll other nodes
  all_after node r has = elim (cases_eq node who) [
    | inl e ↦ subst (λ n. Among n nodes) (sym e) among
    | inr ne ↦ all node r (sym (same node ne) ∙ has)
  ]

  not_who : (node : ℕ) (x : ReplicaState) → one node ≡ Some x → node ≡ who → ⊥
  not_who node x has e = (let bad : None ≡ Some x = sym none ∙ (sym (ap one e) ∙ has) in cc)

  newest_after : AreBound other Unbound
  newest_after node r has most = elim (cases_eq node who) [
    | inl e ↦ (let own : Some born ≡ Some r = sym makes ∙ (sym (ap other e) ∙ has) in let fact : born ≡ r = cc in subst (λ (x : ReplicaState). bond_of x.group.core ≡ Unbound) fact free)
    | inr ne ↦ newest node r (sym (same node ne) ∙ has) (λ n x has'. most n x (same n (not_who n x has') ∙ has'))
  ]

  newest_both : bond_there (newest_of other nodes) ≡ bond_there (newest_of one nodes)
  newest_both = newest_bound other nodes Unbound all_after newest_after (λ e. refl) ∙ sym (newest_bound one nodes Unbound all newest (λ e. refl))

  runs_not : (node : ℕ) → is_running (one node) ≡ true → node ≡ who → ⊥
  runs_not node runs e = true≢false (sym runs ∙ (ap (λ n. is_running (one n)) e ∙ ap is_running none))

  -- it does not run
  stopped_by : (o : Option ℕ) → lead_of one nodes ≡ o → (bond_by other nodes o ≡ bond_by one nodes o) × (work_at other o ≡ work_at one o)
  stopped_by None e = (newest_both, refl)
  stopped_by (Some node) e =
      let there = same node (runs_not node (lead_runs one nodes node e)) in
      (ap bond_there there, ap works_of there)

  pub stopped_part : born.running ≡ false → SamePart one other nodes
  stopped_part stopped =
      let lead : lead_of other nodes ≡ lead_of one nodes = lead_same other one nodes (λ node. elim (cases_eq node who) [
        | inl e ↦ ap (λ n. is_running (other n)) e ∙ (ap is_running makes ∙ (stopped ∙ (sym (ap is_running none) ∙ sym (ap (λ n. is_running (one n)) e))))
        | inr ne ↦ ap is_running (same node ne)
      ]) in
      let parts = stopped_by (lead_of one nodes) refl in
      record {
        bond = ap (bond_by other nodes) lead ∙ parts.0;
        work = ap (work_at other) lead ∙ parts.1;
        leads = λ node e. lead ∙ e;
      }

  -- it runs, and none did before
  running_one : (node : ℕ) → is_running (one node) ≡ true → (o : Option ReplicaState) → one node ≡ o → lead_of one nodes ≡ None → ⊥
  running_one node runs None e unled = true≢false (sym runs ∙ ap is_running e)
  running_one node runs (Some r) e unled = true≢false (sym runs ∙ none_runs one nodes node unled (all node r e))

  runs_by : born.running ≡ true → lead_of one nodes ≡ None → (o : Option ℕ) → lead_of other nodes ≡ o → (bond_by other nodes o ≡ bond_by one nodes None) × (work_at other o ≡ [])
  runs_by runs unled None e = absurd (true≢false (sym (ap is_running makes ∙ runs) ∙ none_runs other nodes who e among))
  runs_by runs unled (Some node) e =
      let fact : node ≡ who = elim (cases_eq node who) [
        | inl e' ↦ e'
        | inr ne ↦ absurd (running_one node (sym (ap is_running (same node ne)) ∙ lead_runs other nodes node e) (one node) refl unled)
      ] in
      let there : other node ≡ Some born = ap other fact ∙ makes in
      (ap bond_there there ∙ (free ∙ sym (newest_bound one nodes Unbound all newest (λ e'. refl))), ap works_of there ∙ idle)

  pub running_part : born.running ≡ true → lead_of one nodes ≡ None → SamePart one other nodes
  running_part runs unled =
      let parts = runs_by runs unled (lead_of other nodes) refl in
      record {
        bond = parts.0 ∙ sym (ap (bond_by one nodes) unled);
        work = parts.1 ∙ sym (ap (work_at one) unled);
        leads = λ node e. (let bad : None ≡ Some node = sym unled ∙ e in cc);
      }
