-- Who of some nodes leads, and which replica at them is the newest.
use Rattle.std.proofs.Common.{◌≡◌, ℕ, ◌≤◌, nat_le, true, false, true≢false, cond, List, [], ◌∷◌, Option, Some, None, inl, inr, refl, sym, ◌∙◌, ap, subst, arith}
use Rattle.std.proofs.lemmas.Bool.{cases_Bool, cond-true, cond-false, cond_both, leb-true, leb-false}
use Rattle.sc_base.specs.Definitions.{Among, Each}
use Rattle.sc_node_table.specs.NodeDefinitions.{ReplicaState, next}
use Rattle.sc_words.proofs.PaxosProofs.PaxosLemmas.{find_found, find_nothing}
use Rattle.sc_live_journals.specs.scenes.SceneDefinitions.{is_running, lead_of, later, newest_of}

-- ---- who leads

module _ (at : ℕ → Option ReplicaState) where
  -- one that runs alone, and is among the nodes, is found
  pub lead_found : (nodes : List ℕ) (node : ℕ) → Among node nodes → is_running (at node) ≡ true → ((other : ℕ) → is_running (at other) ≡ true → other ≡ node) → lead_of at nodes ≡ Some node
  lead_found [] node fact runs alone = absurd fact
  lead_found (first ∷ nodes) node fact runs alone =
      elim (cases_Bool (is_running (at first))) [
        | inl t ↦ cond-true (is_running (at first)) (Some first) (lead_of at nodes) t ∙ ap Some (alone first t)
        | inr f ↦ cond-false (is_running (at first)) (Some first) (lead_of at nodes) f
            ∙ lead_found nodes node (elim fact [ inl same ↦ absurd (true≢false (sym (ap (λ n. is_running (at n)) same ∙ runs) ∙ f)) | inr more ↦ more ]) runs alone
      ]

  all_stopped : (nodes : List ℕ) → ((node : ℕ) → is_running (at node) ≡ false) → Each (λ node. is_running (at node) ≡ false) nodes
  all_stopped [] stopped = tt
  all_stopped (node ∷ nodes) stopped = (stopped node, all_stopped nodes stopped)

  -- where none runs, none is found
  pub lead_none : (nodes : List ℕ) → ((node : ℕ) → is_running (at node) ≡ false) → lead_of at nodes ≡ None
  lead_none nodes stopped = find_nothing (λ node. is_running (at node)) nodes (all_stopped nodes stopped)

  -- one that is found runs
  pub lead_runs : (nodes : List ℕ) (node : ℕ) → lead_of at nodes ≡ Some node → is_running (at node) ≡ true
  lead_runs nodes node e = (find_found (λ n. is_running (at n)) nodes node e).1

  -- none of the nodes runs where none is found
  pub none_runs : (nodes : List ℕ) (node : ℕ) → lead_of at nodes ≡ None → Among node nodes → is_running (at node) ≡ false
  none_runs [] node e fact = absurd fact
  none_runs (first ∷ nodes) node e fact =
      elim (cases_Bool (is_running (at first))) [
        | inl t ↦ (let bad : Some first ≡ None = sym (cond-true (is_running (at first)) (Some first) (lead_of at nodes) t) ∙ e in cc)
        | inr f ↦ elim fact [
          | inl same ↦ ap (λ n. is_running (at n)) (sym same) ∙ f
          | inr more ↦ none_runs nodes node (sym (cond-false (is_running (at first)) (Some first) (lead_of at nodes) f) ∙ e) more
        ]
      ]

-- where the same run, the same is found
pub lead_same : (one other : ℕ → Option ReplicaState) (nodes : List ℕ) → ((node : ℕ) → is_running (one node) ≡ is_running (other node)) → lead_of one nodes ≡ lead_of other nodes
lead_same one other [] same = refl
lead_same one other (node ∷ nodes) same = ap (λ b. cond b (Some node) (lead_of one nodes)) (same node) ∙ ap (λ o. cond (is_running (other node)) (Some node) o) (lead_same one other nodes same)

-- ---- the newest

-- the same replicas at the nodes have the same newest
pub newest_same : (one other : ℕ → Option ReplicaState) (nodes : List ℕ) → ((node : ℕ) → one node ≡ other node) → newest_of one nodes ≡ newest_of other nodes
newest_same one other [] same = refl
newest_same one other (node ∷ nodes) same = ap (λ o. later o (newest_of one nodes)) (same node) ∙ ap (later (other node)) (newest_same one other nodes same)

-- a newest replica stands at one of the nodes, and has executed as much as any at them
pub record IsNewestAt (at : ℕ → Option ReplicaState) (nodes : List ℕ) (r : ReplicaState) : Type 0 where
  pub node : ℕ
  pub there : at node ≡ Some r
  pub most : (other : ℕ) (x : ReplicaState) → Among other nodes → at other ≡ Some x → next x ≤ next r

-- there is none where the nodes have no replicas
abbrev pub IsNewest : (ℕ → Option ReplicaState) → List ℕ → Option ReplicaState → Type 0
IsNewest at nodes None = (other : ℕ) → Among other nodes → at other ≡ None
IsNewest at nodes (Some r) = IsNewestAt at nodes r

module _ (at : ℕ → Option ReplicaState) where
  next_by : (node : ℕ) (nodes : List ℕ) (here rest : Option ReplicaState) → at node ≡ here → IsNewest at nodes rest → IsNewest at (node ∷ nodes) (later here rest)
  next_by node nodes None None e new = λ other fact. elim fact [ inl same ↦ ap at (sym same) ∙ e | inr more ↦ new other more ]
  next_by node nodes None (Some r) e new = record {
    node = new.node;
    there = new.there;
    most = λ other x fact has. elim fact [ inl same ↦ (let bad : None ≡ Some x = sym e ∙ (ap at same ∙ has) in cc) | inr more ↦ new.most other x more has ];
  }
  next_by node nodes (Some r) None e new = record {
    node = node;
    there = e;
    most = λ other x fact has. elim fact [
      | inl same ↦ (let own : Some r ≡ Some x = sym e ∙ (ap at same ∙ has) in let is' : r ≡ x = cc in subst (λ (y : ReplicaState). next y ≤ next r) is' (omega arith))
      | inr more ↦ (let bad : None ≡ Some x = sym (new other more) ∙ has in cc)
    ];
  }
  next_by node nodes (Some r) (Some old) e new =
      cond_both (nat_le (next old) (next r)) (Some r) (Some old) (IsNewest at (node ∷ nodes))
      (λ t. record {
        node = node;
        there = e;
        most = λ other x fact has. elim fact [
          | inl same ↦ (let own : Some r ≡ Some x = sym e ∙ (ap at same ∙ has) in let is' : r ≡ x = cc in subst (λ (y : ReplicaState). next y ≤ next r) is' (omega arith))
          | inr more ↦ (let a = new.most other x more has in let b = leb-true (next old) (next r) t in omega (arith, a, b))
        ];
      })
      (λ f. record {
        node = new.node;
        there = new.there;
        most = λ other x fact has. elim fact [
          | inl same ↦ (let own : Some r ≡ Some x = sym e ∙ (ap at same ∙ has) in let is' : r ≡ x = cc in let a = leb-false (next old) (next r) f in subst (λ (y : ReplicaState). next y ≤ next old) is' (omega (arith, a)))
          | inr more ↦ new.most other x more has
        ];
      })

  pub newest_is : (nodes : List ℕ) → IsNewest at nodes (newest_of at nodes)
  newest_is [] = λ other fact. absurd fact
  newest_is (node ∷ nodes) = next_by node nodes (at node) (newest_of at nodes) refl (newest_is nodes)
