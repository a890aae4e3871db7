-- What is kept of a group, as its log grows and as acceptances are added.
use Rattle.std.proofs.Common.{◌≡◌, ℕ, zero, suc, ◌+◌, ◌-◌, ◌<◌, ◌≤◌, List, [], ◌∷◌, ◌++◌, length, take, Some, ◌⊎◌, inl, inr, refl, sym, ◌∙◌, ap, subst, arith, append-nil, append_assoc}
use Rattle.std.specs.Prelude.{slice_get}
use Rattle.std.specs.Option.{option_to_list}
use Rattle.std.proofs.lemmas.List.{length_push}
use Rattle.std.proofs.lemmas.Option.{slice_get_within, none-some}
use Rattle.sc_words.specs.declared.commands.commands.Command.{Command}
use Rattle.sc_words.specs.declared.commands.cores.Base.{Base}
use Rattle.sc_group_table.specs.machine.Group.{Group, group_of}
use Rattle.sc_group_table.specs.machine.Machine.{applied}
use Rattle.sc_group_table.specs.machine.Logs.{state_after}
use Rattle.sc_group_table.proofs.MachineProofs.LogLemmas.{state_push}
use Rattle.sc_paxos_law.specs.Chosen.{Rule, members_of}
use Rattle.sc_paxos_law.specs.Decided.{chosen_at}
use Rattle.sc_paxos_law.specs.Steps.{Step}
use Rattle.sc_meaning.specs.sound.Players.{as_nodes}
use Rattle.sc_meaning.specs.entries.Births.{birth_of}
use Rattle.sc_meaning.specs.sound.GroupsOf.{children_of}
use Rattle.sc_meaning.specs.sound.Logs.{rule_of}
use Rattle.sc_world_logs.specs.Acceptances.{step_of, steps_of}
use Rattle.sc_world_logs.specs.Indexes.{IsIndexed}
use Rattle.sc_world_logs.specs.Known.{MatchesAccepted, IsChosenSoFar}
use Rattle.sc_world_logs.specs.declared.accepting.Acceptance.{Acceptance}
use Rattle.sc_world_logs.proofs.Chosen.{members_so_far, chosen_more, chosen_still}
use Rattle.sc_world_logs.proofs.Indexed.{chosen_here}
use Rattle.sc_world_logs.proofs.Newest.{steps_of-last}

-- ---- children

-- the children of a log with one more entry
pub children_push : (group : Group) (log : List Command) (c : Command) → children_of group (log ++ c ∷ []) ≡ children_of group log ++ children_of (state_after group log) (c ∷ [])
children_push group [] c = refl
children_push group (d ∷ log) c =
    let here : List Base = option_to_list (birth_of group d (applied group d).1) in
    ap (λ (bases : List Base). here ++ bases) (children_push (applied group d).0 log c)
    ∙ sym (append_assoc here (children_of (applied group d).0 log) (children_of (state_after (applied group d).0 log) (c ∷ [])))

-- an entry that makes no child adds none
pub childless_push : (base : Base) (log : List Command) (c : Command) (state : Group) → state ≡ state_after (group_of base) log → children_of state (c ∷ []) ≡ []
    → children_of (group_of base) (log ++ c ∷ []) ≡ children_of (group_of base) log
childless_push base log c state is none =
    children_push (group_of base) log c
    ∙ ap (λ (bases : List Base). children_of (group_of base) log ++ bases) (ap (λ (group : Group). children_of group (c ∷ [])) (sym is) ∙ none)
    ∙ append-nil (children_of (group_of base) log)

-- the children that are kept, with those of one more entry
pub children_grown : (base : Base) (log log2 : List Command) (c : Command) (state : Group) (children children2 : List Base) → state ≡ state_after (group_of base) log → log2 ≡ log ++ c ∷ []
    → children2 ≡ children ++ children_of state (c ∷ []) → children ≡ children_of (group_of base) log → children2 ≡ children_of (group_of base) log2
children_grown base log log2 c state children children2 is longer more kept =
    more ∙ ap (λ (bases : List Base). bases ++ children_of state (c ∷ [])) kept
    ∙ ap (λ (group : Group). children_of (group_of base) log ++ children_of group (c ∷ [])) is
    ∙ sym (children_push (group_of base) log c) ∙ ap (children_of (group_of base)) (sym longer)

-- ---- a log that grows

pushed_last : {X : Type 0} (xs : List X) (x : X) (k : ℕ) → k ≡ length xs → slice_get (xs ++ x ∷ []) k ≡ Some x
pushed_last [] x k at = ap (slice_get (x ∷ [])) at
pushed_last (y ∷ xs) x zero at = absurd (omega (arith, at))
pushed_last (y ∷ xs) x (suc k) at = pushed_last xs x k (omega (arith, at))

pushed_before : {X : Type 0} (xs : List X) (x : X) (k : ℕ) → k < length xs → slice_get (xs ++ x ∷ []) k ≡ slice_get xs k
pushed_before [] x k lt = absurd (omega (arith, lt))
pushed_before (y ∷ xs) x zero lt = refl
pushed_before (y ∷ xs) x (suc k) lt = pushed_before xs x k (omega (arith, lt))

last_or_before : (k n : ℕ) → k < n + 1 → (k < n) ⊎ (k ≡ n)
last_or_before zero zero lt = inr refl
last_or_before zero (suc n) lt = inl (omega arith)
last_or_before (suc k) zero lt = absurd (omega (arith, lt))
last_or_before (suc k) (suc n) lt = elim (last_or_before k n (omega (arith, lt))) [ inl l ↦ inl (omega (arith, l)) | inr e ↦ inr (ap suc e) ]

-- the next command of the log was chosen
pub grown : (h : List (Step Command)) (base : Base) (kept : ℕ → List Acceptance) (log : List Command) (members : List (List ℕ)) (state behind : Group)
    (command : Command) (log2 : List Command) (members2 : List (List ℕ)) (state2 behind2 : Group)
    → MatchesAccepted h base kept log members state behind
    → chosen_at (members_of (rule_of as_nodes base) log (length log + 1)) h (length log + 1) ≡ Some command
    → log2 ≡ log ++ command ∷ [] → members2 ≡ members ++ behind.core.members ∷ [] → state2 ≡ (applied state command).0
    → ((group : Group) → behind ≡ state_after group (take (length log + 1 - as_nodes.slots) log) → behind2 ≡ state_after group (take (length log2 + 1 - as_nodes.slots) log2))
    → MatchesAccepted h base kept log2 members2 state2 behind2
grown h base kept log members state behind command log2 members2 state2 behind2 recorded next log_is members_are state_is behind_is =
    let rule : Rule Command = rule_of as_nodes base in
    let longer : length log2 ≡ length log + 1 = ap length log_is ∙ length_push log command in
    let here : behind.core.members ≡ members_of rule log (length log + 1) = ap (λ (group : Group). group.core.members) recorded.behind_is in
    let so_far : (k : ℕ) → k ≤ length log → members_of rule log2 (k + 1) ≡ members_of rule log (k + 1) =
    λ k le. ap (λ (xs : List Command). members_of rule xs (k + 1)) log_is ∙ members_so_far rule log (command ∷ []) k le in
    record {
      found = recorded.found;
      accepted = recorded.accepted;
      indexed = recorded.indexed;
      chosen = subst (IsChosenSoFar rule h) (sym log_is) (chosen_more rule h log command recorded.chosen next);
      as_many = ap length members_are ∙ length_push members behind.core.members ∙ ap (λ (n : ℕ). n + 1) recorded.as_many ∙ sym longer;
      members_are = λ k lt. ap (λ (ms : List (List ℕ)). slice_get ms k) members_are ∙ elim (last_or_before k (length log) (omega (arith, lt, longer))) [
        | inl before ↦ pushed_before members behind.core.members k (omega (arith, before, recorded.as_many)) ∙ recorded.members_are k before ∙ ap Some (sym (so_far k (omega (arith, before))))
        | inr last ↦
            pushed_last members behind.core.members k (omega (arith, last, recorded.as_many)) ∙ ap Some here
            ∙ ap (λ (n : ℕ). Some (members_of rule log (n + 1))) (sym last) ∙ ap Some (sym (so_far k (omega (arith, last))))
      ];
      state_is = state_is ∙ ap (λ (group : Group). (applied group command).0) recorded.state_is ∙ sym (state_push (group_of base) log command) ∙ ap (state_after (group_of base)) (sym log_is);
      behind_is = behind_is (group_of base) recorded.behind_is;
    }

-- what is chosen next, by the members so far behind and the acceptances of the next slot
pub next_is : (h : List (Step Command)) (base : Base) (kept : ℕ → List Acceptance) (log : List Command) (members : List (List ℕ)) (state behind : Group) (slot : ℕ) (at : List Acceptance) (members2 : List ℕ)
    → MatchesAccepted h base kept log members state behind → slot ≡ length log + 1 → at ≡ kept slot → members2 ≡ behind.core.members
    → chosen_at (members_of (rule_of as_nodes base) log (length log + 1)) h (length log + 1) ≡ chosen_at members2 (steps_of at) slot
next_is h base kept log members state behind slot at members2 recorded slot_is at_is members_are =
    let here : members_of (rule_of as_nodes base) log (length log + 1) ≡ members2 = ap (λ (group : Group). group.core.members) (sym recorded.behind_is) ∙ sym members_are in
    ap (λ (ms : List ℕ). chosen_at ms h (length log + 1)) here ∙ ap (chosen_at members2 h) (sym slot_is)
    ∙ ap (λ (steps : List (Step Command)). chosen_at members2 steps slot) (sym recorded.accepted)
    ∙ chosen_here members2 slot recorded.found
    ∙ ap (λ (xs : List Acceptance). chosen_at members2 (steps_of xs) slot) (sym (recorded.indexed slot) ∙ sym at_is)

-- what is chosen at a slot, by the acceptances of it
pub slot_is : (members : List ℕ) (kept : ℕ → List Acceptance) (slot : ℕ) (found at : List Acceptance) → IsIndexed kept found → at ≡ kept slot
    → chosen_at members (steps_of found) slot ≡ chosen_at members (steps_of at) slot
slot_is members kept slot found at indexed at_is =
    chosen_here members slot found ∙ ap (λ (xs : List Acceptance). chosen_at members (steps_of xs) slot) (sym (indexed slot) ∙ sym at_is)

-- ---- one more acceptance

-- it leaves the log as it is, if each entry is still chosen
pub one_more : (h : List (Step Command)) (base : Base) (kept kept2 : ℕ → List Acceptance) (log : List Command) (members : List (List ℕ)) (state behind : Group) (acceptance : Acceptance)
    → ((found : List Acceptance) → IsIndexed kept found → IsIndexed kept2 (found ++ acceptance ∷ []))
    → (recorded : MatchesAccepted h base kept log members state behind)
    → ((k : ℕ) (v : Command) → acceptance.slot ≡ k + 1 → slice_get log k ≡ Some v → chosen_at (members_of (rule_of as_nodes base) log (k + 1)) (step_of acceptance ∷ h) (k + 1) ≡ Some v)
    → MatchesAccepted (step_of acceptance ∷ h) base kept2 log members state behind
one_more h base kept kept2 log members state behind acceptance index recorded still = record {
  found = recorded.found ++ acceptance ∷ [];
  accepted = steps_of-last recorded.found acceptance ∙ ap (λ (steps : List (Step Command)). step_of acceptance ∷ steps) recorded.accepted;
  indexed = index recorded.found recorded.indexed;
  chosen = chosen_still (rule_of as_nodes base) acceptance.node acceptance.ballot acceptance.slot acceptance.command h log still recorded.chosen;
  as_many = recorded.as_many;
  members_are = recorded.members_are;
  state_is = recorded.state_is;
  behind_is = recorded.behind_is;
}

-- ---- what is kept at first

matches_none : (h : List (Step Command)) (base : Base) (kept : ℕ → List Acceptance) (found : List Acceptance) (state behind : Group) → steps_of found ≡ h → IsIndexed kept found → state ≡ group_of base → behind ≡ group_of base
    → MatchesAccepted h base kept [] [] state behind
matches_none h base kept found state behind accepted indexed state_is behind_is = record {
  found = found;
  accepted = accepted;
  indexed = indexed;
  chosen = λ k v is. absurd (none-some v is);
  as_many = refl;
  members_are = λ k lt. absurd (omega (arith, lt));
  state_is = state_is;
  behind_is = behind_is;
}

-- the entry at its slot is still chosen, where what is kept says so
pub still_chosen : (h : List (Step Command)) (base : Base) (kept kept2 : ℕ → List Acceptance) (log : List Command) (members : List (List ℕ)) (state behind : Group) (acceptance : Acceptance)
    → ((found : List Acceptance) → IsIndexed kept found → IsIndexed kept2 (found ++ acceptance ∷ []))
    → (recorded : MatchesAccepted h base kept log members state behind)
    → ((found : List Acceptance) (ms : List ℕ) → IsIndexed kept2 found → slice_get members (acceptance.slot - 1) ≡ Some ms → chosen_at ms (steps_of found) acceptance.slot ≡ slice_get log (acceptance.slot - 1))
    → (k : ℕ) (v : Command) → acceptance.slot ≡ k + 1 → slice_get log k ≡ Some v → chosen_at (members_of (rule_of as_nodes base) log (k + 1)) (step_of acceptance ∷ h) (k + 1) ≡ Some v
still_chosen h base kept kept2 log members state behind acceptance index recorded check k v at is =
    let place : acceptance.slot - 1 ≡ k = omega (arith, at) in
    let ms : List ℕ = members_of (rule_of as_nodes base) log (k + 1) in
    let found : List Acceptance = recorded.found ++ acceptance ∷ [] in
    let steps : steps_of found ≡ step_of acceptance ∷ h = steps_of-last recorded.found acceptance ∙ ap (λ (s : List (Step Command)). step_of acceptance ∷ s) recorded.accepted in
    ap (λ (s : List (Step Command)). chosen_at ms s (k + 1)) (sym steps) ∙ ap (chosen_at ms (steps_of found)) (sym at)
    ∙ check found ms (index recorded.found recorded.indexed) (ap (slice_get members) place ∙ recorded.members_are k (slice_get_within log k v is))
    ∙ ap (slice_get log) place ∙ is

-- no entry is recorded yet
pub matches_first : (h : List (Step Command)) (base : Base) (kept : ℕ → List Acceptance) (found : List Acceptance) (log : List Command) (members : List (List ℕ)) (state behind : Group)
    → log ≡ [] → members ≡ [] → steps_of found ≡ h → IsIndexed kept found → state ≡ group_of base → behind ≡ group_of base → MatchesAccepted h base kept log members state behind
matches_first h base kept found log members state behind no_log no_members accepted indexed state_is behind_is =
    subst (λ (l : List Command). MatchesAccepted h base kept l members state behind) (sym no_log)
    (subst (λ (ms : List (List ℕ)). MatchesAccepted h base kept [] ms state behind) (sym no_members) (matches_none h base kept found state behind accepted indexed state_is behind_is))
