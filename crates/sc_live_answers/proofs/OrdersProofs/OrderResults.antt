-- An entry of an order ends it with a result, or the group goes on to ask another in the order's transaction.
use Rattle.std.proofs.Common.{◌≡◌, ◌⊎◌, ℕ, ◌&&◌, not, Bool, true, false, cond, Option, Some, None, inl, inr, refl, sym, ◌∙◌, ap, subst}
use Rattle.std.specs.Option.{option_map}
use Rattle.std.proofs.lemmas.Bool.{cond-false, cond_both}
use Rattle.sc_base.specs.Definitions.{holds, same_draw}
use Rattle.sc_base.proofs.Lemmas.{same_name}
use Rattle.sc_node_table.specs.Values.{Draw, Body, Command, Noop, Call, Join, Leave, Split, Begin, RecordVote, RecordWatch, Core, Lock, Free, Coordinating, Promised, Watching, Effect, Route, OrderResult, OrderRefusal, Heard, Frozen, No, Outcome, Abort, Merged, Moved, Migrated, Divided}
use Rattle.sc_words.specs.declared.commands.orders.OrderResult.TheVariants.{Committed, Aborted}
use Rattle.sc_words.specs.declared.commands.votes.Past.TheVariants as Cast
use Rattle.sc_words.specs.commands.CommandDefinitions.{is_alone, is_changed, decided_in, result_of}
use Rattle.sc_words.specs.declared.commands.bodies.Body.TheVariants as At
use Rattle.sc_words.specs.declared.commands.effects.Effect.TheVariants.{NoEffect}
use Rattle.sc_words.specs.declared.commands.votes.Vote.TheVariants as Says
use Rattle.sc_group_table.specs.machine.MachineDefinitions.{Group, applied, ordered, split_group, begun_group, left_group, has_named, refusal_of, with_node, without_node, asks_watcher, participant_answered, committed, granted, released, vote_recorded, watch_recorded, can_split, may_merge, merged_route, merged_group, closing_group, closing_plan, can_repart, giving_plan, taking_plan, giving_group, taking_group, part_gift, taken, has_key_of, can_migrate, migrated_group}
use Rattle.sc_node_table.specs.NodeDefinitions.{before_of, before_in, begun_result, outcome_result}
use Rattle.sc_live_steps.specs.orders.OrderDefinitions.{Turn, First, Lone, Next, is_watch, Work, Opens, Records, Asking, IsOrder, work_by, bond_of, bond_in, turn_of}
use Rattle.sc_live_steps.proofs.OrderStepsProofs.OrderStepLemmas.{orders-leave, records-leave}
use Rattle.sc_live_steps.proofs.OrderStepsProofs.ErrandTables.{watch_is as asks_by}
use Rattle.sc_live_journals.specs.scenes.SceneDefinitions.{StaysIn}
use Rattle.sc_live_answers.specs.AnswerDefinitions.{IsTrueEntry, HasNumber, LockNumber}
use Rattle.sc_live_answers.proofs.VotesProofs.ReportedMail.{Ends}
use Rattle.sc_live_answers.proofs.VotesProofs.TransactionTurns.{first_turn}

-- the result is not that a transaction was aborted
abbrev pub IsNoAbort : OrderResult → Type 0
IsNoAbort result = result ≡ Aborted → ⊥

-- an order that is carried out or refused has a result
ordered_result : (gone : Option Route) (why : Option OrderRefusal) (after group : Group) → (result : OrderResult) × (result_of (ordered gone why after group).1 ≡ Some result) × IsNoAbort result
ordered_result (Some into) why after group = (_, refl, λ e. cc)
ordered_result None (Some why) after group = (_, refl, λ e. cc)
ordered_result None None after group = (_, refl, λ e. cc)

-- a split that is not carried out at once, and a transaction, are refused or begin
split_result : (at : ℕ) (child : Draw) (order : ℕ) (alone : Bool) (gone : Option Route) (why : Option OrderRefusal) (after group : Group)
    → ((result : OrderResult) × (begun_result alone (ordered gone why after group).1 (Split at child order) ≡ Some result) × IsNoAbort result) ⊎ ((is_changed (ordered gone why after group).1 ≡ true) × (alone ≡ false))
split_result at child order true (Some into) why after group = inl (_, refl, λ e. cc)
split_result at child order false (Some into) why after group = inl (_, refl, λ e. cc)
split_result at child order true None (Some why) after group = inl (_, refl, λ e. cc)
split_result at child order false None (Some why) after group = inl (_, refl, λ e. cc)
split_result at child order true None None after group = inl (_, refl, λ e. cc)
split_result at child order false None None after group = inr (refl, refl)

begin_result : (tx : Draw) (body : Body) (order : ℕ) (alone : Bool) (gone : Option Route) (why : Option OrderRefusal) (after group : Group)
    → ((result : OrderResult) × (begun_result alone (ordered gone why after group).1 (Begin tx body order) ≡ Some result) × IsNoAbort result) ⊎ (is_changed (ordered gone why after group).1 ≡ true)
begin_result tx body order alone (Some into) why after group = inl (_, refl, λ e. cc)
begin_result tx body order alone None (Some why) after group = inl (_, refl, λ e. cc)
begin_result tx body order alone None None after group = inr refl

-- ---- a transaction that is carried out is committed

-- what the effect decides, if it decides, is reported as committed
abbrev Commits : Group × Effect → Type 0
Commits x = (outcome : Outcome) → decided_in x.1 ≡ Some outcome → outcome_result outcome ≡ Committed

commits_as : (made outcome : Outcome) → outcome_result made ≡ Committed → Some made ≡ Some outcome → outcome_result outcome ≡ Committed
commits_as made outcome fact e = (let same : outcome ≡ made = cc in ap outcome_result same ∙ fact)

no_decision : (outcome : Outcome) → None ≡ Some outcome → outcome_result outcome ≡ Committed
no_decision outcome e = absurd cc

-- a plan whose outcome is so
planned : (test : Bool) (after group : Group) (tx : Draw) (made : Outcome) → outcome_result made ≡ Committed → Commits (committed (cond test (Some (after, made)) None) group tx)
planned true after group tx made fact outcome e = commits_as made outcome fact e
planned false after group tx made fact outcome e = no_decision outcome e

yes_grants : (body : Body) (group : Group) (tx : Draw) (order : ℕ) (frozen : Frozen) (by : ℕ) → Commits (granted body group tx order frozen by)
yes_grants At.Merge group tx order frozen by =
    cond_both (same_draw frozen.succ.group group.core.id) (committed (closing_plan group frozen) group tx) _ Commits
    (λ _. planned (may_merge group frozen) (closing_group group frozen) group tx (Merged (merged_route group.core frozen)) refl) (λ _ outcome e. no_decision outcome e)
yes_grants (At.Repart at) group tx order frozen by =
    cond_both (holds group.core.arc at) (giving_plan group at frozen) (taking_plan group at frozen) (λ plan. Commits (committed plan group tx))
    (λ _. planned (can_repart group.core at frozen) (giving_group group at frozen) group tx (Moved at (Some (part_gift group at))) refl)
    (λ _. planned (can_repart group.core at frozen && not (has_key_of group.pairs (taken at frozen).pairs)) (taking_group group at frozen) group tx (Moved at None) refl)
yes_grants (At.Migrate node) group tx order frozen by = planned (can_migrate group.core node frozen) (migrated_group group node frozen) group tx (Migrated node) refl
yes_grants (At.Split at child) group tx order frozen by = λ outcome e. no_decision outcome e

yes_commits : (lock : Lock) (group : Group) (tx : Draw) (frozen : Frozen) (by : ℕ) → Commits (vote_recorded lock group tx (Says.Yes frozen) by)
yes_commits Free group tx frozen by = λ outcome e. no_decision outcome e
yes_commits (Promised locked offer) group tx frozen by = λ outcome e. no_decision outcome e
yes_commits (Watching locked watch) group tx frozen by = λ outcome e. no_decision outcome e
yes_commits (Coordinating locked body order heard) group tx frozen by =
    cond_both (same_draw locked tx) _ _ Commits (λ _. cond_both (asks_watcher body heard) _ _ Commits (λ _ outcome e. no_decision outcome e) (λ _. yes_grants body group tx order frozen by)) (λ _ outcome e. no_decision outcome e)

watch_releases : (body : Body) (heard : Option Heard) (group : Group) (tx : Draw) → Commits (released body heard group tx)
watch_releases At.Merge (Some heard) group tx = planned (may_merge group heard.frozen) (merged_group group heard.frozen) group tx (Merged (merged_route group.core heard.frozen)) refl
watch_releases At.Merge None group tx = λ outcome e. no_decision outcome e
watch_releases (At.Repart at) heard group tx = λ outcome e. no_decision outcome e
watch_releases (At.Migrate node) heard group tx = λ outcome e. no_decision outcome e
watch_releases (At.Split at child) heard group tx = planned (can_split group.core at) (left_group group at child) group tx Divided refl

watch_commits : (lock : Lock) (group : Group) (tx : Draw) → Commits (watch_recorded lock group tx Cast.Yes)
watch_commits Free group tx = λ outcome e. no_decision outcome e
watch_commits (Promised locked offer) group tx = λ outcome e. no_decision outcome e
watch_commits (Watching locked watch) group tx = λ outcome e. no_decision outcome e
watch_commits (Coordinating locked body order heard) group tx =
    cond_both (same_draw locked tx) _ _ Commits (λ _. cond_both (asks_watcher body heard) _ _ Commits (λ _. watch_releases body heard group tx) (λ _ outcome e. no_decision outcome e)) (λ _ outcome e. no_decision outcome e)

not_aborted : (result : OrderResult) → result ≡ Committed → IsNoAbort result
not_aborted result fact e = (let both : Committed ≡ Aborted = sym fact ∙ e in cc)

before_alone : (core : Core) (lock : Lock) → (before_in lock core).alone ≡ is_alone core
before_alone core Free = refl
before_alone core (Coordinating tx body order heard) = refl
before_alone core (Promised tx offer) = refl
before_alone core (Watching tx watch) = refl

-- the number of a coordinator's order
before_number : (n : ℕ) (core : Core) (tx asked : Draw) (turn : Turn) (lock : Lock) → LockNumber n lock → bond_in lock core ≡ Asking tx asked turn → (before_in lock core).order ≡ n
before_number n core tx asked turn (Coordinating locked body order heard) k b = k
before_number n core tx asked turn Free k b = absurd cc
before_number n core tx asked turn (Promised locked offer) k b = absurd cc
before_number n core tx asked turn (Watching locked watch) k b = absurd cc

-- a No of the participant decides
no_decides : (group : Group) (why : No) (by : ℕ) (tx asked : Draw) (turn : Turn) (lock : Lock) → bond_in lock group.core ≡ Asking tx asked turn → is_watch turn ≡ false → decided_in (vote_recorded lock group tx (Says.No why) by).1 ≡ Some Abort
no_decides group why by tx asked turn Free b first = absurd cc
no_decides group why by tx asked turn (Promised locked offer) b first = absurd cc
no_decides group why by tx asked turn (Watching locked watch) b first = absurd cc
no_decides group why by tx asked turn (Coordinating locked body order heard) b first =
    let own : locked ≡ tx = cc in
    let asks : turn_of group.core body heard ≡ turn = cc in
    ap (λ x. decided_in (cond {A = Group × Effect} x (cond (asks_watcher body heard) (group, NoEffect tx) (participant_answered (Says.No why) body group tx order by)) (group, NoEffect tx)).1) (same_name locked tx own)
    ∙ ap (λ x. decided_in (cond {A = Group × Effect} x (group, NoEffect tx) (participant_answered (Says.No why) body group tx order by)).1) (asks_by group.core body heard ∙ (ap is_watch asks ∙ first))

-- what is the work of an order is no other work
order_same : (one work : Work) → Some one ≡ Some work → IsOrder work → IsOrder one
order_same one work e fact = subst IsOrder (let same : work ≡ one = cc in same) fact

module _ (n me : ℕ) (group : Group) where
  -- by the entry the group asks another one, and its leader stays a member
  abbrev pub GoesOn : Command → Type 0
  GoesOn command = (tx asked : Draw) × (turn : Turn) × StaysIn command me group × (bond_of (applied group command).0.core ≡ Asking tx asked turn)

  -- the entry ends the order by a result that fits, or the group goes on so
  abbrev pub Result : (OrderResult → Type 0) → Command → Type 0
  Result Fits command = ((result : OrderResult) × Ends n result command group × Fits result) ⊎ GoesOn command

  split_ends : (at : ℕ) (child : Draw) (order : ℕ) → order ≡ n → has_named group.core child ≡ false → IsTrueEntry me group (Split at child order) → Result IsNoAbort (Split at child order)
  split_ends at child order number new true_so =
      let after : Group × Effect = ordered group.core.gone (refusal_of group.core (Split at child order)) (split_group group at child order) group in
      let fact : applied group (Split at child order) ≡ after = cond-false (has_named group.core child) (group, NoEffect child) after new in
      elim (split_result at child order (before_of group.core).alone group.core.gone (refusal_of group.core (Split at child order)) (split_group group at child order) group) [
        | inl r ↦ inl (r.0, inr (number, ap (λ (x : Group × Effect). begun_result (before_of group.core).alone x.1 (Split at child order)) fact ∙ r.1), r.2)
        | inr c ↦ (
            let changed : is_changed (applied group (Split at child order)).1 ≡ true = ap (λ (x : Group × Effect). is_changed x.1) fact ∙ c.0 in
            let alone : is_alone group.core ≡ false = sym (before_alone group.core group.core.lock) ∙ c.1 in
            inr (child, group.core.succ.group, Lone, (true_so alone changed).0, (orders-leave.split at child order me group alone changed).bond_is))
      ]

  begin_ends : (tx : Draw) (body : Body) (order : ℕ) → order ≡ n → has_named group.core tx ≡ false → IsTrueEntry me group (Begin tx body order) → Result IsNoAbort (Begin tx body order)
  begin_ends tx body order number new true_so =
      let after : Group × Effect = ordered group.core.gone (refusal_of group.core (Begin tx body order)) (begun_group group tx body order) group in
      let fact : applied group (Begin tx body order) ≡ after = cond-false (has_named group.core tx) (group, NoEffect tx) after new in
      elim (begin_result tx body order (before_of group.core).alone group.core.gone (refusal_of group.core (Begin tx body order)) (begun_group group tx body order) group) [
        | inl r ↦ inl (r.0, inr (number, ap (λ (x : Group × Effect). begun_result (before_of group.core).alone x.1 (Begin tx body order)) fact ∙ r.1), r.2)
        | inr c ↦ (
            let changed : is_changed (applied group (Begin tx body order)).1 ≡ true = ap (λ (x : Group × Effect). is_changed x.1) fact ∙ c in
            let asks = true_so changed in
            inr (tx, group.core.succ.group, First, asks.1.0, (orders-leave.begin tx body order me group asks.0 changed).bond_is))
      ]

  -- the command of the order ends it, or begins its transaction
  pub order_ends : (command : Command) (work : Work) → work_by command ≡ Some work → IsOrder work → HasNumber n command → ((tx : Draw) → work ≡ Opens tx → has_named group.core tx ≡ false) → IsTrueEntry me group command → Result IsNoAbort command
  order_ends (Join node order) work e fact number new t = (let r = ordered_result group.core.gone (refusal_of group.core (Join node order)) (with_node group node) group in inl (r.0, inl (number, r.1), r.2))
  order_ends (Leave node order) work e fact number new t = (let r = ordered_result group.core.gone (refusal_of group.core (Leave node order)) (without_node group node) group in inl (r.0, inl (number, r.1), r.2))
  order_ends (Split at child order) work e fact number new t = split_ends at child order number (new child (let same : work ≡ Opens child = cc in same)) t
  order_ends (Begin tx body order) work e fact number new t = begin_ends tx body order number (new tx (let same : work ≡ Opens tx = cc in same)) t
  order_ends Noop work e fact number new t = absurd cc
  order_ends (Call client seq op) work e fact number new t = absurd cc
  order_ends _ work e fact number new t = absurd (order_same _ work e fact)

  module _ (tx asked : Draw) (turn : Turn) (bound : bond_of group.core ≡ Asking tx asked turn) (number : LockNumber n group.core.lock) where
    number_is : (before_of group.core).order ≡ n
    number_is = before_number n group.core tx asked turn group.core.lock number bound

    -- the record of a vote ends the order, as aborted only where the vote is no Yes; or the coordinator asks the watcher
    pub record_ends : (command : Command) (watch agreed : Bool) (by : ℕ) → work_by command ≡ Some (Records tx watch agreed by) → is_watch turn ≡ watch → IsTrueEntry me group command → Result (λ result. result ≡ Aborted → agreed ≡ false) command
    record_ends (RecordVote t (Says.No why) by) watch agreed by_ e first true_so =
        let same : t ≡ tx = cc in
        let off : watch ≡ false = cc in
        let no : agreed ≡ false = cc in
        let d : decided_in (applied group (RecordVote t (Says.No why) by)).1 ≡ Some Abort = subst (λ x. decided_in (vote_recorded group.core.lock group x (Says.No why) by).1 ≡ Some Abort) (sym same) (no_decides group why by tx asked turn group.core.lock bound (first ∙ off)) in
        inl (outcome_result Abort, inr (number_is, ap (option_map outcome_result) d), λ _. no)
    record_ends (RecordVote t (Says.Yes frozen) by) watch agreed by_ e first true_so =
        let same : t ≡ tx = cc in
        let off : watch ≡ false = cc in
        elim true_so [
          | inl d ↦ inl (outcome_result d.0, inr (number_is, ap (option_map outcome_result) d.1), λ aborted. absurd (not_aborted (outcome_result d.0) (yes_commits group.core.lock group t frozen by d.0 d.1) aborted))
          | inr c ↦ inr (t, frozen.succ.group, Next asked by, c.1.0.0, (records-leave.hears t asked frozen by me group (bound ∙ (ap (λ x. Asking x asked turn) (sym same) ∙ ap (Asking t asked) (first_turn turn (first ∙ off)))) c.0).bond_is)
        ]
    record_ends (RecordWatch t Cast.Yes by) watch agreed by_ e first true_so =
        inl (outcome_result true_so.1.0, inr (number_is, ap (option_map outcome_result) true_so.1.1), λ aborted. absurd (not_aborted (outcome_result true_so.1.0) (watch_commits group.core.lock group t true_so.1.0 true_so.1.1) aborted))
    record_ends (RecordWatch t (Cast.No why) by) watch agreed by_ e first true_so =
        (let no : agreed ≡ false = cc in inl (outcome_result true_so.1.0, inr (number_is, ap (option_map outcome_result) true_so.1.1), λ _. no))
    record_ends (RecordWatch t Cast.Ended by) watch agreed by_ e first true_so =
        (let no : agreed ≡ false = cc in inl (outcome_result true_so.1.0, inr (number_is, ap (option_map outcome_result) true_so.1.1), λ _. no))
    record_ends Noop watch agreed by_ e first true_so = absurd cc
    record_ends _ watch agreed by_ e first true_so = absurd cc
