-- What a coordinator's records of votes leave, and what an outcome leaves at a party.
use Rattle.std.proofs.Common.{◌≡◌, ℕ, true, cond, List, [], ◌∷◌, ◌++◌, Option, Some, None, refl, sym, ◌∙◌, ap, subst}
use Rattle.sc_base.specs.Definitions.{least_of}
use Rattle.sc_node_table.specs.Values.{Draw, Body, RecordVote, Finish, RecordWatch, Core, Lock, Coordinating, Effect, Frozen, Heard, No, Outcome, Vote, TxOutcome}
use Rattle.sc_base.proofs.Lemmas.{same_name}
use Rattle.sc_words.specs.commands.CommandDefinitions.{is_changed, decided_in}
use Rattle.sc_words.specs.declared.commands.bodies.Body.TheVariants as At
use Rattle.sc_words.specs.declared.commands.effects.Effect.TheVariants as Was
use Rattle.sc_words.specs.declared.commands.votes.Past.TheVariants as Cast
use Rattle.sc_words.specs.declared.commands.votes.Vote.TheVariants as Says
use Rattle.sc_group_table.specs.machine.MachineDefinitions.{Group, Plan, merge_plan, split_plan, committed, heard_group, participant_answered, vote_recorded, watch_recorded, released, asks_watcher, party_freed, gone_group, gained_group, lost_group, welcomed_group, watcher_after}
use Rattle.sc_node_table.specs.NodeDefinitions.{sent, asked_link, before_of, before_in, released_to, went_on}
use Rattle.sc_node_table.specs.declared.Before.{Before}
use Rattle.sc_law_walks.proofs.WalkLemmas.{vote_step, decided_walk, FinishWalk, finish_step}
use Rattle.sc_live_steps.specs.orders.OrderDefinitions.{Turn, First, Lone, Next, is_watch, Unbound, Asking, Errand, Question, Result, IsOnly, results, turn_of, bond_of, bond_in, errand_for, errands_for, Leaves, RecordsLeave, WatchRecordsLeave, EndsLeave}
use Rattle.sc_live_steps.proofs.OrderStepsProofs.Errands.{one-errand, errand-own, errand-other}
use Rattle.sc_live_steps.proofs.OrderStepsProofs.Entries.{nothing, decided_leaves, aborted_leaves, heard_leaves}
use Rattle.sc_live_steps.proofs.OrderStepsProofs.ErrandTables.{watch_is}

-- ---- a participant's vote

-- the participant is the successor
first_link : (core : Core) (body : Body) (heard : Option Heard) → turn_of core body heard ≡ First → (asked_link core body heard).group ≡ core.succ.group
first_link core (At.Split at child) heard e = cc
first_link core _ None e = refl
first_link core _ (Some heard) e = cc

-- a vote for which a coordinator waits is answered
answered_is : (core : Core) (group : Group) (tx asked : Draw) (vote : Vote) (by : ℕ) (locked : Draw) (body : Body) (order : ℕ) (heard : Option Heard) → bond_in (Coordinating locked body order heard) core ≡ Asking tx asked First
    → vote_recorded (Coordinating locked body order heard) group tx vote by ≡ participant_answered vote body group tx order by
answered_is core group tx asked vote by locked body order heard b =
    (let t : turn_of core body heard ≡ First = cc in let l : locked ≡ tx = cc in
    ap (λ x. cond {A = Group × Effect} x (cond (asks_watcher body heard) (group, Was.NoEffect tx) (participant_answered vote body group tx order by)) (group, Was.NoEffect tx)) (same_name locked tx l)
    ∙ ap (λ x. cond {A = Group × Effect} x (group, Was.NoEffect tx) (participant_answered vote body group tx order by)) (watch_is core body heard ∙ ap is_watch t))

module _ (me : ℕ) (group : Group) (tx asked : Draw) (by : ℕ) where
  abbrev core : Core
  core = group.core

  no_by : (why : No) (lock : Lock) → bond_in lock core ≡ Asking tx asked First → Leaves Unbound [] (RecordVote tx (Says.No why) by) me (before_in lock core) (vote_recorded lock group tx (Says.No why) by)
  no_by why (Coordinating locked body order heard) b =
      subst (Leaves Unbound [] (RecordVote tx (Says.No why) by) me (before_in (Coordinating locked body order heard) core)) (sym (answered_is core group tx asked (Says.No why) by locked body order heard b))
      (aborted_leaves me (before_in (Coordinating locked body order heard) core) tx by why group)
  no_by why _ b = absurd cc

  -- who asks its participant asks its successor
  own_by : (lock : Lock) → bond_in lock core ≡ Asking tx asked First → (core.succ.group ≡ asked) × ((before_in lock core).succ.group ≡ asked)
  own_by (Coordinating locked body order heard) b =
      (let t : turn_of core body heard ≡ First = cc in let g : (asked_link core body heard).group ≡ asked = cc in let o = sym (first_link core body heard t) ∙ g in (o, o))
  own_by _ b = absurd cc

  abbrev Decides : Frozen → Outcome → Group × Effect → Type 0
  Decides frozen outcome made = decided_in made.1 ≡ Some outcome → Leaves Unbound (results tx asked First by) (RecordVote tx (Says.Yes frozen) by) me (before_of core) made

  yes_decides : (frozen : Frozen) (outcome : Outcome) → bond_of core ≡ Asking tx asked First → Decides frozen outcome (vote_recorded core.lock group tx (Says.Yes frozen) by)
  yes_decides frozen outcome b =
      vote_step group tx (Says.Yes frozen) by (Decides frozen outcome) (decided_walk group tx (Says.Yes frozen) by (Decides frozen outcome) (λ d. absurd cc) (λ order lock got votes d. absurd cc)
      (λ body order lock after ends gone d. decided_leaves me (before_of core) tx by frozen asked after ends (own_by core.lock b).1))

  abbrev Hears : Frozen → Group × Effect → Type 0
  Hears frozen made = Leaves (Asking tx frozen.succ.group (Next asked by)) ((frozen.succ.group, Question tx core.id true me (least_of frozen.succ.members) ∷ []) ∷ []) (RecordVote tx (Says.Yes frozen) by) me (before_of core) made

  yes_hears : (frozen : Frozen) → bond_of core ≡ Asking tx asked First → is_changed (vote_recorded core.lock group tx (Says.Yes frozen) by).1 ≡ true → Hears frozen (vote_recorded core.lock group tx (Says.Yes frozen) by)
  yes_hears frozen b =
      vote_step group tx (Says.Yes frozen) by (λ made. is_changed made.1 ≡ true → Hears frozen made) (decided_walk group tx (Says.Yes frozen) by (λ made. is_changed made.1 ≡ true → Hears frozen made) (λ d. absurd cc)
      (λ order lock got votes d. (let same : frozen ≡ got = cc in
      subst (λ (f : Frozen). Hears frozen (heard_group group tx At.Merge order (record { frozen = f; by = by }), Was.Changed)) same (heard_leaves me (before_of core) tx by frozen asked order group (own_by core.lock b).0)))
      (λ body order lock after ends gone d. absurd cc))

-- A coordinator that records its participant's No is free, and sends nothing; by a Yes it decides and sends the outcome to the node that brought it, or it has heard it, and asks the watcher.
pub records-leave : RecordsLeave
records-leave = record {
  no = λ tx asked why by me group b. no_by me group tx asked by why group.core.lock b;
  decides = λ tx asked frozen outcome by me group b. yes_decides me group tx asked by frozen outcome b;
  hears = λ tx asked frozen by me group b. yes_hears me group tx asked by frozen b;
}

-- ---- a watcher's vote

-- two outcomes for two groups
two_results : (me by host : ℕ) (tx part asked : Draw) (outcome : Outcome) → (part ≡ asked → ⊥)
    → IsOnly [] ((part, Result tx host ∷ []) ∷ (asked, Result tx by ∷ []) ∷ []) (λ name. errands_for name (sent me by (TxOutcome tx asked outcome) (sent me host (TxOutcome tx part outcome) [])))
two_results me by host tx part asked outcome ne = (
  (
    ap (λ l. l ++ (errand_for part (Some (asked, Result tx by)) ++ [])) (errand-own part (Result tx host)) ∙ ap (λ l. Result tx host ∷ (l ++ [])) (errand-other part asked (Result tx by) ne),
    (ap (λ l. l ++ (errand_for asked (Some (asked, Result tx by)) ++ [])) (errand-other asked part (Result tx host) (λ e. ne (sym e))) ∙ ap (λ l. l ++ []) (errand-own asked (Result tx by)), tt),
  ),
  λ name none. ap (λ l. l ++ (errand_for name (Some (asked, Result tx by)) ++ [])) (errand-other name part (Result tx host) none.0) ∙ ap (λ l. l ++ []) (errand-other name asked (Result tx by) none.1.0),
)

module _ (me : ℕ) (group : Group) (tx : Draw) (by : ℕ) (outcome : Outcome) where
  -- a decision is sent to the parties
  reported_leaves : (before : Before) (sent_on : List (Draw × List Errand)) (plan : Plan) → ((o : Outcome) → IsOnly [] sent_on (λ name. errands_for name (released_to before.heard me before.succ tx by o [])))
      → decided_in (committed plan group tx).1 ≡ Some outcome → Leaves Unbound sent_on (RecordWatch tx Cast.Yes by) me before (committed plan group tx)
  unfolding went_on
  reported_leaves before sent_on None only d = absurd cc
  reported_leaves before sent_on (Some plan) only d = record { bond_is = refl; sends = only plan.1 }

  released_leaves : (asked : Draw) (turn : Turn) (order : ℕ) (body : Body) (heard : Option Heard) → turn_of group.core body heard ≡ turn → (asked_link group.core body heard).group ≡ asked
      → (turn ≡ Lone → (before_in (Coordinating tx body order heard) group.core).heard ≡ None) → ((part : Draw) (host : ℕ) → turn ≡ Next part host → part ≡ asked → ⊥) → is_watch turn ≡ true
      → (locked : Draw) → decided_in (released body heard group tx).1 ≡ Some outcome → Leaves Unbound (results tx asked turn by) (RecordWatch tx Cast.Yes by) me (before_in (Coordinating locked body order heard) group.core) (released body heard group tx)
  released_leaves asked turn order At.Merge (Some heard) t g lone third w locked d =
      reported_leaves (before_in (Coordinating locked At.Merge order (Some heard)) group.core) (results tx asked turn by) (merge_plan group heard.frozen)
      (λ o. subst (λ x. IsOnly [] (results tx asked x by) (λ name. errands_for name (sent me by (TxOutcome tx heard.frozen.succ.group o) (sent me heard.by (TxOutcome tx group.core.succ.group o) [])))) t
      (subst (λ x. IsOnly [] ((group.core.succ.group, Result tx heard.by ∷ []) ∷ (asked, Result tx by ∷ []) ∷ []) (λ name. errands_for name (sent me by (TxOutcome tx x o) (sent me heard.by (TxOutcome tx group.core.succ.group o) [])))) (sym g)
      (two_results me by heard.by tx group.core.succ.group asked o (third group.core.succ.group heard.by (sym t))))) d
  released_leaves asked turn order At.Merge None t g lone third w locked d = absurd cc
  released_leaves asked turn order (At.Split at child) heard t g lone third w locked d =
      reported_leaves (before_in (Coordinating locked (At.Split at child) order heard) group.core) (results tx asked turn by) (split_plan group at child)
      (λ o. subst (λ x. IsOnly [] (results tx asked x by) (λ name. errands_for name (released_to (before_in (Coordinating locked (At.Split at child) order heard) group.core).heard me group.core.succ tx by o []))) t
      (subst (λ x. IsOnly [] ((asked, Result tx by ∷ []) ∷ []) (λ name. errands_for name (released_to x me group.core.succ tx by o []))) (sym (lone (sym t)))
      (one-errand me by (TxOutcome tx group.core.succ.group o) asked (Result tx by) (ap (λ x. Some (x, Result tx by)) g)))) d
  released_leaves asked turn order _ heard t g lone third w locked d = absurd cc

  released_is : (asked : Draw) (turn : Turn) (locked : Draw) (body : Body) (order : ℕ) (heard : Option Heard) → bond_in (Coordinating locked body order heard) group.core ≡ Asking tx asked turn → is_watch turn ≡ true
      → watch_recorded (Coordinating locked body order heard) group tx Cast.Yes ≡ released body heard group tx
  released_is asked turn locked body order heard b w =
      (let t : turn_of group.core body heard ≡ turn = cc in let l : locked ≡ tx = cc in
      ap (λ x. cond {A = Group × Effect} x (cond (asks_watcher body heard) (released body heard group tx) (group, Was.NoEffect tx)) (group, Was.NoEffect tx)) (same_name locked tx l)
      ∙ ap (λ x. cond {A = Group × Effect} x (released body heard group tx) (group, Was.NoEffect tx)) (watch_is group.core body heard ∙ (ap is_watch t ∙ w)))

  watch_by : (asked : Draw) (turn : Turn) (lock : Lock) → bond_in lock group.core ≡ Asking tx asked turn → is_watch turn ≡ true → (turn ≡ Lone → (before_in lock group.core).heard ≡ None)
      → ((part : Draw) (host : ℕ) → turn ≡ Next part host → part ≡ asked → ⊥) → decided_in (watch_recorded lock group tx Cast.Yes).1 ≡ Some outcome
      → Leaves Unbound (results tx asked turn by) (RecordWatch tx Cast.Yes by) me (before_in lock group.core) (watch_recorded lock group tx Cast.Yes)
  watch_by asked turn (Coordinating locked body order heard) b w lone third d =
      (let fact = released_is asked turn locked body order heard b w in let t : turn_of group.core body heard ≡ turn = cc in let g : (asked_link group.core body heard).group ≡ asked = cc in
      subst (Leaves Unbound (results tx asked turn by) (RecordWatch tx Cast.Yes by) me (before_in (Coordinating locked body order heard) group.core)) (sym fact)
      (released_leaves asked turn order body heard t g lone third w locked (subst (λ (x : Group × Effect). decided_in x.1 ≡ Some outcome) fact d)))
  watch_by asked turn _ b w lone third d = absurd cc

-- One that records its watcher's Yes decides, and sends the outcome to the participant that it heard and to the watcher.
pub watch-records-leave : WatchRecordsLeave
watch-records-leave tx asked turn outcome by me group b w lone third d = watch_by me group tx by outcome asked turn group.core.lock b w lone third d

-- ---- an outcome

module _ (me : ℕ) (group : Group) (tx : Draw) (done : Outcome) where
  abbrev Ends : Outcome → Group × Effect → Type 0
  Ends outcome made = decided_in made.1 ≡ Some done → Leaves Unbound [] (Finish tx outcome) me (before_of group.core) made

  freed_leaves : (outcome : Outcome) (after : Group) → Ends outcome (party_freed after tx, Was.Decided outcome)
  unfolding went_on
  freed_leaves outcome after d = record { bond_is = refl; sends = nothing }

  finished_leaves : FinishWalk group tx Ends
  finished_leaves = record {
    quiet = λ outcome d. absurd cc;
    stays = λ offer lock. freed_leaves _ group;
    goes = λ offer lock into. freed_leaves _ (gone_group group into);
    gains = λ offer lock at gift can. freed_leaves _ (gained_group group offer at gift);
    loses = λ offer lock at can. freed_leaves _ (lost_group group at);
    welcomes = λ offer lock node few. freed_leaves _ (welcomed_group group node);
    sees_end = λ watch lock outcome. freed_leaves outcome (watcher_after outcome group watch);
  }

-- A party that takes its outcome is free, and sends nothing.
pub ends-leave : EndsLeave
ends-leave tx outcome done me group b d = finish_step group tx (Ends me group tx done) (finished_leaves me group tx done) outcome d
