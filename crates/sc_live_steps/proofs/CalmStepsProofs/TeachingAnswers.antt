-- Answers by which a client comes to know another group.
use Rattle.std.proofs.Common.{◌≡◌, ℕ, ◌+◌, ◌≤◌, Bool, true, false, cond, List, [], ◌∷◌, ◌++◌, Option, Some, None, inl, inr, refl, ◌∙◌, ap, arith}
use Rattle.std.specs.Prelude.{is_some}
use Rattle.std.specs.Map.{lookup}
use Rattle.std.proofs.lemmas.List.Sums.{sum_by-cons}
use Rattle.sc_base.specs.Definitions.{Among, Arc, end_of, same_draw}
use Rattle.sc_node_table.specs.Values.{Draw, Link, Route}
use Rattle.sc_base.proofs.Lemmas.{same_name}
use Rattle.sc_client_table.specs.lookup.LookupDefinitions.{KnownGroups, way_to, changed, starting, group_learnt, learnt_from_not_mine, learnt_from_gone, new_way}
use Rattle.sc_client_table.specs.declared.lookup.ways.Way.{Way}
use Rattle.sc_client_table.proofs.LookupProofs.KnownLemmas.{set_value-known}
use Rattle.sc_client_table.specs.table.TableDefinitions.{Client as ClientState, request_sent}
use Rattle.sc_law_walks.proofs.WalkLemmas.{request_same}
use Rattle.sc_live_steps.specs.calm.CalmDefinitions.{unknown_one, unknown, LearnsOneGroup, IsSentOn, AreBounded, Ways}
use Rattle.sc_live_steps.proofs.CalmStepsProofs.ClientRows.{request_owes}

-- ---- whom a client knows

starting_knows : (other group : Draw) (lo : ℕ) (known : KnownGroups) → is_some (way_to other (starting group lo known)) ≡ is_some (way_to other known)
starting_knows other group lo known = by (way_to group known)
  where
    by : (o : Option Way) → is_some (way_to other (changed (λ way. record way { lo = lo }) group known o)) ≡ is_some (way_to other known)
    by None = refl
    by (Some way) = set_value-known (same_draw other) (same_draw group) known (record way { lo = lo })

-- one more is known, and all that were
push_knows : (test : Draw → Bool) (known : KnownGroups) (entry : Draw × Way) → is_some (lookup test known) ≡ true → is_some (lookup test (known ++ entry ∷ [])) ≡ true
push_knows test [] entry e = cc
push_knows test (k ∷ ks) entry e = by (test k.0) e (push_knows test ks entry)
  where
    by : (b : Bool) → is_some (cond b (Some k.1) (lookup test ks)) ≡ true → (is_some (lookup test ks) ≡ true → is_some (lookup test (ks ++ entry ∷ [])) ≡ true) → is_some (cond b (Some k.1) (lookup test (ks ++ entry ∷ []))) ≡ true
    by true fact more = refl
    by false fact more = more fact

last_known : (test : Draw → Bool) (known : KnownGroups) (entry : Draw × Way) → test entry.0 ≡ true → is_some (lookup test (known ++ entry ∷ [])) ≡ true
last_known test [] entry e = ap (λ b. is_some (cond b (Some entry.1) None)) e
last_known test (k ∷ ks) entry e = by (test k.0) (last_known test ks entry e)
  where
    by : (b : Bool) → is_some (lookup test (ks ++ entry ∷ [])) ≡ true → is_some (cond b (Some k.1) (lookup test (ks ++ entry ∷ []))) ≡ true
    by true more = refl
    by false more = more

module _ (succ : Draw) (lo : ℕ) (members : List ℕ) (known : KnownGroups) where
  learnt_knows : (other : Draw) → is_some (way_to other known) ≡ true → is_some (way_to other (group_learnt succ lo members known)) ≡ true
  learnt_knows other e = by (is_some (way_to succ known))
    where
      by : (b : Bool) → is_some (way_to other (cond b (starting succ lo known) (known ++ (succ, new_way lo members) ∷ []))) ≡ true
      by true = starting_knows other succ lo known ∙ e
      by false = push_knows (same_draw other) known (succ, new_way lo members) e

  learnt_known : is_some (way_to succ (group_learnt succ lo members known)) ≡ true
  learnt_known = by (is_some (way_to succ known)) refl
    where
      by : (b : Bool) → is_some (way_to succ known) ≡ b → is_some (way_to succ (cond b (starting succ lo known) (known ++ (succ, new_way lo members) ∷ []))) ≡ true
      by true fact = starting_knows succ succ lo known ∙ fact
      by false fact = last_known (same_draw succ) known (succ, new_way lo members) (same_name succ succ refl)

-- ---- how many it does not know

-- one that is known
known_one : (known : KnownGroups) (group : Draw) → is_some (way_to group known) ≡ true → unknown_one known group ≡ 0
known_one known group e = ap (λ b. cond b 0 1) e

fewer_one : (known after : KnownGroups) (group : Draw) → (is_some (way_to group known) ≡ true → is_some (way_to group after) ≡ true) → unknown_one after group ≤ unknown_one known group
fewer_one known after group keeps = by (is_some (way_to group known)) (is_some (way_to group after)) keeps
  where
    by : (b c : Bool) → (b ≡ true → c ≡ true) → cond c 0 1 ≤ cond b 0 1
    by true c keep = let same = ap (λ d. cond {A = ℕ} d 0 1) (keep refl) in omega (arith, same)
    by false true keep = omega arith
    by false false keep = omega arith

module _ (known after : KnownGroups) (keeps : (group : Draw) → is_some (way_to group known) ≡ true → is_some (way_to group after) ≡ true) where
  fewer : (groups : List Draw) → unknown groups after ≤ unknown groups known
  fewer [] = omega arith
  fewer (group ∷ groups) =
      let more = fewer groups in
      let one = fewer_one known after group (keeps group) in
      let s = sum_by-cons (unknown_one known) group groups in
      let t = sum_by-cons (unknown_one after) group groups in
      omega (arith, more, one, s, t)

  one_fewer : (groups : List Draw) (group : Draw) → Among group groups → unknown_one known group ≡ 1 → unknown_one after group ≡ 0 → unknown groups after + 1 ≤ unknown groups known
  one_fewer [] group a was fact = absurd a
  one_fewer (first ∷ groups) group (inl same) was fact =
      let more = fewer groups in
      let s = sum_by-cons (unknown_one known) first groups in
      let t = sum_by-cons (unknown_one after) first groups in
      let u = ap (unknown_one known) same in
      let v = ap (unknown_one after) same in
      omega (arith, more, s, t, u, v, was, fact)
  one_fewer (first ∷ groups) group (inr a) was fact =
      let more = one_fewer groups group a was fact in
      let one = fewer_one known after first (keeps first) in
      let s = sum_by-cons (unknown_one known) first groups in
      let t = sum_by-cons (unknown_one after) first groups in
      omega (arith, more, one, s, t)

-- ---- the row

-- one that learns of another group
pub told_one : (ways : Ways) (groups : List Draw) (group : Draw) (arc : Arc) (succ : Link) (client : ClientState) → AreBounded ways → Among succ.group groups → way_to succ.group client.known ≡ None
    → LearnsOneGroup ways groups group arc succ client (request_sent (record client { known = learnt_from_not_mine group arc succ client.known }))
told_one ways groups group arc succ client bounded a none =
    let le = request_owes ways ways.most after (λ g node e. bounded g node) in
    let keeps : (g : Draw) → is_some (way_to g client.known) ≡ true → is_some (way_to g (learnt_from_not_mine group arc succ client.known)) ≡ true = λ g e. learnt_knows succ.group (end_of arc) succ.members middle g (starting_knows g group arc.lo client.known ∙ e) in
    let was : unknown_one client.known succ.group ≡ 1 = ap (λ (o : Option Way). cond (is_some o) 0 1) none in
    let fact : unknown_one (learnt_from_not_mine group arc succ client.known) succ.group ≡ 0 = known_one (learnt_from_not_mine group arc succ client.known) succ.group (learnt_known succ.group (end_of arc) succ.members middle) in
    let few = one_fewer client.known (learnt_from_not_mine group arc succ client.known) keeps groups succ.group a was fact in
    let same = request_same (λ (c : ClientState). unknown groups c.known) (λ c a. refl) after in
    (omega (arith, le), omega (arith, few, same))
  where
    middle : KnownGroups
    middle = starting group arc.lo client.known

    after : ClientState
    after = record client { known = learnt_from_not_mine group arc succ client.known }

-- ---- an answer that the group is gone

pub gone_known : (group : Draw) (into : Route) (way : Way) (known : KnownGroups) → known ≡ (group, way) ∷ [] → learnt_from_gone group into known ≡ (into.group, new_way into.lo into.members) ∷ []
gone_known group into way known fact =
    ap (learnt_from_gone group into) fact
    ∙ ap (λ b. group_learnt into.group into.lo into.members (cond {A = KnownGroups} b [] ((group, way) ∷ []))) (same_name group group refl)

-- one that leaves a group for another
pub gone_one : (ways : Ways) (group : Draw) (into : Route) (way : Way) (client : ClientState) → AreBounded ways → client.known ≡ (group, way) ∷ []
    → IsSentOn ways group into client (request_sent (record client { known = learnt_from_gone group into client.known }))
gone_one ways group into way client bounded fact =
    let le = request_owes ways ways.most after (λ g node e. bounded g node) in
    (omega (arith, le), request_same (λ (c : ClientState). c.known) (λ c a. refl) after ∙ gone_known group into way client.known fact)
  where
    after : ClientState
    after = record client { known = learnt_from_gone group into client.known }
