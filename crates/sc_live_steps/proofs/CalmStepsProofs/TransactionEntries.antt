-- What the entries of splits and transactions say, and whom they add.
use Rattle.std.proofs.Common.{◌≡◌, ℕ, ◌+◌, ◌*◌, ◌≤◌, not, Bool, true, false, true≢false, cond, List, [], ◌∷◌, length, take, drop, sum_by, Option, Some, None, refl, sym, ◌∙◌, ap, subst, arith, take-append-drop}
use Rattle.std.specs.List.{filter}
use Rattle.std.proofs.lemmas.List.Sums.{length-filter, count_by-le-length}
use Rattle.sc_base.specs.Definitions.{Among, is_member, with_member, least_of, united}
use Rattle.sc_node_table.specs.Values.{Draw, Body, Offer, Watch, Command, Call, Split, Begin, Prepared, RecordVote, Finish, Watched, RecordWatch, Core, Lock, Free, Promised, Watching, Effect, Link, Route, OrderRefusal, OrderResult, Heard, No, Outcome, Past, Vote, AnswerBody, Mail, TxPrepare, TxVote, TxOutcome, TxWatched}
use Rattle.sc_words.specs.commands.CommandDefinitions.{is_alone, is_changed, decided_in, cast_in}
use Rattle.sc_words.specs.declared.commands.bodies.Body.TheVariants as At
use Rattle.sc_words.specs.declared.commands.effects.Effect.TheVariants as Was
use Rattle.sc_words.specs.declared.commands.orders.OrderRefusal.TheVariants.{NotLeader}
use Rattle.sc_words.specs.declared.commands.votes.Past.TheVariants as Cast
use Rattle.sc_words.specs.declared.commands.votes.Vote.TheVariants as Says
use Rattle.sc_group_table.specs.machine.MachineDefinitions.{finished, Group, applied, ordered_by, split_group, refusal_of, ordered, frozen_of, staying, has_named, left_group, begun_group, decided_group, heard_group, vote_recorded, has_voted, voted_on, vote_of, watch_vote_of}
use Rattle.sc_node_table.specs.NodeDefinitions.{sent, entered, order_result, effect_reported, answered_or_put_back, announced, answer_of, is_act, offer_of, asked_link, question, asked_first, ReplicaState, Place, members, forgotten, before_of, asked_on, vote_sent, watch_sent, released_to, vote_answered, watch_answered_by, begun_reported, went_on, spoken_mails, spoken}
use Rattle.sc_law_walks.proofs.WalkLemmas.{vote_step, decided_walk, finish_step}
use Rattle.sc_live_steps.specs.calm.CalmDefinitions.{AreBounded, said_place, newcomers, Ways, mail_owes}
use Rattle.sc_live_steps.proofs.CalmStepsProofs.PotentialSums.{sent_owes}
use Rattle.sc_live_steps.proofs.CalmStepsProofs.LearntPotential.{begun_owes}
use Rattle.sc_live_steps.proofs.CalmStepsProofs.MemberChanges.{among_member, same_new, one_new, entered_members, ordered_members}
use Rattle.sc_paxos_law.proofs.Lemmas.{Among-left as among_more}
use Rattle.std.proofs.lemmas.List.Sums.{length-filter, count_by-le-length}

-- ---- whom an entry adds

-- none where each was a member before
none_added : (command : Command) (r : ReplicaState) → ((x : ℕ) → Among x (applied r.group command).0.core.members → is_member (members r) x ≡ true) → length (newcomers command r) ≡ 0
none_added command r all =
    ap (λ (xs : List ℕ). length (filter (λ node. not (is_member (members r) node)) xs)) (entered_members command r) ∙ ap length (same_new (members r) (applied r.group command).0.core.members all)

same_added : (command : Command) (r : ReplicaState) → (applied r.group command).0.core.members ≡ members r → length (newcomers command r) ≡ 0
same_added command r same = none_added command r (λ x a. among_member x (members r) (subst (Among x) same a))

-- no more than are members after it
pub few_added : (command : Command) (r : ReplicaState) → length (members (entered command r)) ≤ 9 → length (newcomers command r) ≤ 9
few_added command r few =
    let added = length-filter (λ node. not (is_member (members r) node)) (members (entered command r)) in
    let le = count_by-le-length (λ node. not (is_member (members r) node)) (members (entered command r)) in
    omega (arith, added, le, few)

by_members : (P : List ℕ → Type 0) (draw : Draw) (why : Option OrderRefusal) (after group : Group) → P after.core.members → P group.core.members → P (ordered_by (Some draw) why after group).0.core.members
by_members P draw why after group a g = by (has_named group.core draw) (ordered_members P group.core.gone why after group a g)
  where
    by : (b : Bool) → P (ordered group.core.gone why after group).0.core.members → P (cond {A = Group × Effect} b (group, Was.NoEffect draw) (ordered group.core.gone why after group)).0.core.members
    by true p = g
    by false p = p

pub begin_new : (tx : Draw) (body : Body) (order : ℕ) (r : ReplicaState) → length (newcomers (Begin tx body order) r) ≡ 0
begin_new tx body order r =
    same_added (Begin tx body order) r (by_members (λ xs. xs ≡ members r) tx (refusal_of r.group.core (Begin tx body order)) (begun_group r.group tx body order) r.group refl refl)

among_taken : (x n : ℕ) (xs : List ℕ) → Among x (take n xs) → Among x xs
among_taken x n xs a = subst (Among x) (take-append-drop n xs) (among_more x (take n xs) (drop n xs) a)

pub split_new : (at : ℕ) (child : Draw) (order : ℕ) (r : ReplicaState) → length (newcomers (Split at child order) r) ≡ 0
split_new at child order r =
    none_added (Split at child order) r (by_members P child (refusal_of r.group.core (Split at child order)) (split_group r.group at child order) r.group (by (is_alone r.group.core)) old)
  where
    P : List ℕ → Type 0
    P xs = (x : ℕ) → Among x xs → is_member (members r) x ≡ true

    old : P (members r)
    old x a = among_member x (members r) a

    by : (b : Bool) → P (cond b (left_group r.group at child) (begun_group r.group child (At.Split at child) order)).core.members
    by true = λ x a. old x (among_taken x (staying (members r)) (members r) a)
    by false = old

either_step : (P : Group × Effect → Type 0) (b : Bool) (x y : Group × Effect) → P x → P y → P (cond b x y)
either_step P true x y p q = p
either_step P false x y p q = q

voted_members : (why : Option No) (bond : Lock) (group : Group) (tx : Draw) → (voted_on why bond group tx).0.core.members ≡ group.core.members
voted_members why bond group tx = either_step (λ step. step.0.core.members ≡ group.core.members) (has_voted group.core tx) _ _ refl refl

pub prepared_new : (tx : Draw) (offer : Offer) (r : ReplicaState) → length (newcomers (Prepared tx offer) r) ≡ 0
prepared_new tx offer r = same_added (Prepared tx offer) r (voted_members (vote_of r.group.core offer) (Promised tx offer) r.group tx)

pub watched_new : (tx : Draw) (watch : Watch) (r : ReplicaState) → length (newcomers (Watched tx watch) r) ≡ 0
watched_new tx watch r = same_added (Watched tx watch) r (voted_members (watch_vote_of r.group.core watch) (Watching tx watch) r.group tx)

-- an outcome adds one member at most
finished_members : (P : List ℕ → Type 0) (tx : Draw) (group : Group) → P group.core.members → ((node : ℕ) → P (united group.core.members (node ∷ []))) → (outcome : Outcome) → P (finished group.core.lock group tx outcome).0.core.members
finished_members P tx group same more =
    finish_step group tx (λ outcome made. P made.0.core.members) (record {
      quiet = λ outcome. same;
      stays = λ offer lock. same;
      goes = λ offer lock into. same;
      gains = λ offer lock at gift can. same;
      loses = λ offer lock at can. same;
      welcomes = λ offer lock node few. more node;
      sees_end = λ watch lock outcome. same;
    })

united_one : (before : List ℕ) (node : ℕ) → length (filter (λ n. not (is_member before n)) (united before (node ∷ []))) ≤ 1
united_one before node = by (is_member before node)
  where
    by : (b : Bool) → length (filter (λ n. not (is_member before n)) (cond b before (with_member before node))) ≤ 1
    by true = let none = ap length (same_new before before (λ x a. among_member x before a)) in omega (arith, none)
    by false = one_new before node

pub finish_new : (tx : Draw) (outcome : Outcome) (r : ReplicaState) → length (newcomers (Finish tx outcome) r) ≤ 1
finish_new tx outcome r =
    let before = members r in
    let none = ap length (same_new before before (λ x a. among_member x before a)) in
    subst (λ (xs : List ℕ). length (filter (λ n. not (is_member before n)) xs) ≤ 1) (sym (entered_members (Finish tx outcome) r))
    (finished_members (λ xs. length (filter (λ n. not (is_member before n)) xs) ≤ 1) tx r.group (omega (arith, none)) (λ node. united_one before node) outcome)

-- ---- what is said

-- an entry that is no call sends no answer to a client
call_passes : (o : Option AnswerBody) (command : Command) (place : Place) → is_act command ≡ true → answered_or_put_back o command place ≡ place
unfolding answered_or_put_back
call_passes o (Call client seq op) place fact = absurd (true≢false (sym fact))
call_passes (Some answer) _ place fact = refl
call_passes None _ place fact = refl

module _ (ways : Ways) where
  abbrev sum : List Mail → ℕ
  sum mails = sum_by (mail_owes ways) mails

  -- an entry says at most so much
  abbrev pub SaysMost : Command → ReplicaState → List Mail → ℕ → Type 0
  SaysMost command r mails said = ((said_place command (r, mails)).0 ≡ entered command r) × (sum_by (mail_owes ways) (said_place command (r, mails)).1 ≤ sum_by (mail_owes ways) mails + said)

  -- its group and its effect have the transaction go on for no more
  abbrev Goes : Command → ReplicaState → Group × Effect → ℕ → Type 0
  Goes command r step said = (more : List Mail) → sum (went_on r.me step.0 (before_of r.group.core) step.1 command more) ≤ sum more + said

  act_said : (command : Command) (r : ReplicaState) (mails : List Mail) (said : ℕ) → is_act command ≡ true → order_result command (applied r.group command).1 ≡ None → Goes command r (applied r.group command) said → SaysMost command r mails said
  unfolding announced effect_reported spoken spoken_mails entered forgotten
  act_said command r mails said act none went =
      let effect = (applied r.group command).1 in
      let before = before_of r.group.core in
      let q = entered command r in
      let here : announced true effect command (q, mails) ≡ (q, mails) = ap (λ (o : Option OrderResult). effect_reported o command (answered_or_put_back (answer_of effect) command (q, mails))) none ∙ call_passes (answer_of effect) command (q, mails) act in
      let same = ap (λ (p : Place). spoken true before effect command p) here in
      let quiet = begun_owes ways r.me before effect command mails in
      let le = went (begun_reported r.me before effect command mails) in
      let whole = ap (λ (p : Place). sum p.1) same in
      (ap (λ (p : Place). p.0) same, omega (arith, whole, quiet, le))

  -- ---- votes

  pub prepared_said : (tx : Draw) (offer : Offer) (r : ReplicaState) (mails : List Mail) → SaysMost (Prepared tx offer) r mails (187 + 2 * ways.most)
  unfolding went_on
  prepared_said tx offer r mails =
      act_said (Prepared tx offer) r mails (187 + 2 * ways.most) refl refl (λ more. by (applied r.group (Prepared tx offer)).0 (cast_in (applied r.group (Prepared tx offer)).1) more)
    where
      by : (group : Group) (o : Option Past) (more : List Mail) → sum (vote_sent o r.me group tx offer more) ≤ sum more + (187 + 2 * ways.most)
      by group None more = omega arith
      by group (Some Cast.Yes) more = let s = sent_owes ways r.me offer.by (TxVote tx offer.coord offer.part (Says.Yes (frozen_of group))) more in omega (arith, s)
      by group (Some (Cast.No why)) more = let s = sent_owes ways r.me offer.by (TxVote tx offer.coord offer.part (Says.No why)) more in omega (arith, s)
      by group (Some Cast.Ended) more = omega arith

  pub watched_said : (tx : Draw) (watch : Watch) (r : ReplicaState) (mails : List Mail) → SaysMost (Watched tx watch) r mails 131
  unfolding went_on
  watched_said tx watch r mails =
      act_said (Watched tx watch) r mails 131 refl refl (λ more. by (cast_in (applied r.group (Watched tx watch)).1) more)
    where
      by : (o : Option Past) (more : List Mail) → sum (watch_sent o r.me tx watch more) ≤ sum more + 131
      by None more = omega arith
      by (Some Cast.Yes) more = let s = sent_owes ways r.me watch.by (TxWatched tx watch.coord watch.part Cast.Yes) more in omega (arith, s)
      by (Some (Cast.No why)) more = let s = sent_owes ways r.me watch.by (TxWatched tx watch.coord watch.part (Cast.No why)) more in omega (arith, s)
      by (Some Cast.Ended) more = omega arith

  pub finish_said : (tx : Draw) (outcome : Outcome) (r : ReplicaState) (mails : List Mail) → SaysMost (Finish tx outcome) r mails 0
  unfolding went_on
  finish_said tx outcome r mails = act_said (Finish tx outcome) r mails 0 refl refl (λ more. omega arith)

  -- ---- a watcher that agrees: what it decides is sent to two at most

  released_most : (h : Option (ℕ × Link)) (me : ℕ) (succ : Link) (tx : Draw) (by : ℕ) (outcome : Outcome) (more : List Mail) → sum (released_to h me succ tx by outcome more) ≤ sum more + 62
  released_most None me succ tx by outcome more = let s = sent_owes ways me by (TxOutcome tx succ.group outcome) more in omega (arith, s)
  released_most (Some heard) me succ tx by outcome more =
      let s = sent_owes ways me heard.0 (TxOutcome tx succ.group outcome) more in
      let t = sent_owes ways me by (TxOutcome tx heard.1.group outcome) (sent me heard.0 (TxOutcome tx succ.group outcome) more) in
      omega (arith, s, t)

  released_least : (h : Option (ℕ × Link)) (me : ℕ) (succ : Link) (tx : Draw) (by : ℕ) (outcome : Outcome) (more : List Mail) → h ≡ None → sum (released_to h me succ tx by outcome more) ≤ sum more + 31
  released_least None me succ tx by outcome more e = let s = sent_owes ways me by (TxOutcome tx succ.group outcome) more in omega (arith, s)
  released_least (Some heard) me succ tx by outcome more e = cc

  pub watch_said : (tx : Draw) (by : ℕ) (r : ReplicaState) (mails : List Mail) → SaysMost (RecordWatch tx Cast.Yes by) r mails 62
  unfolding went_on
  watch_said tx from r mails = act_said (RecordWatch tx Cast.Yes from) r mails 62 refl refl (λ more. by (decided_in (applied r.group (RecordWatch tx Cast.Yes from)).1) more)
    where
      by : (o : Option Outcome) (more : List Mail) → sum (watch_answered_by o Cast.Yes r.me (before_of r.group.core) tx from more) ≤ sum more + 62
      by None more = omega arith
      by (Some outcome) more = released_most (before_of r.group.core).heard r.me (before_of r.group.core).succ tx from outcome more

  -- what a watcher's Yes decides is sent to one, where no participant was heard before it
  pub watch_first_said : (tx : Draw) (by : ℕ) (r : ReplicaState) (mails : List Mail) → (before_of r.group.core).heard ≡ None → SaysMost (RecordWatch tx Cast.Yes by) r mails 31
  unfolding went_on
  watch_first_said tx from r mails none = act_said (RecordWatch tx Cast.Yes from) r mails 31 refl refl (λ more. by (decided_in (applied r.group (RecordWatch tx Cast.Yes from)).1) more)
    where
      by : (o : Option Outcome) (more : List Mail) → sum (watch_answered_by o Cast.Yes r.me (before_of r.group.core) tx from more) ≤ sum more + 31
      by None more = omega arith
      by (Some outcome) more = released_least (before_of r.group.core).heard r.me (before_of r.group.core).succ tx from outcome more none

  -- ---- a coordinator asks

  module _ (bounded : AreBounded ways) where
    pub begin_said : (tx : Draw) (body : Body) (order : ℕ) (r : ReplicaState) (mails : List Mail) → SaysMost (Begin tx body order) r mails (215 + 4 * ways.most)
    unfolding went_on
    begin_said tx body order r mails =
        let step = applied r.group (Begin tx body order) in
        act_said (Begin tx body order) r mails (215 + 4 * ways.most) refl refl (λ more. by (is_changed step.1) step.0.core more)
      where
        by : (b : Bool) (core : Core) (more : List Mail) → sum (cond b (sent r.me (least_of core.succ.members) (TxPrepare tx (offer_of r.me core body)) more) more) ≤ sum more + (215 + 4 * ways.most)
        by true core more =
            let node = least_of core.succ.members in
            let s = sent_owes ways r.me node (TxPrepare tx (offer_of r.me core body)) more in
            let far = bounded core.succ.group node in
            omega (arith, s, far)
        by false core more = omega arith

    -- ---- a split: one of a group that is alone asks nobody

    by_step : (P : Group × Effect → Type 0) (gone : Option Route) (why : Option OrderRefusal) (after group : Group) → P (after, Was.Changed) → ((refusal : OrderRefusal) → P (group, Was.Refused refusal)) → P (ordered gone why after group)
    by_step P (Some into) why after group a r = r (NotLeader None)
    by_step P None (Some why) after group a r = r why
    by_step P None None after group a r = a

    split_step : (P : Group × Effect → Type 0) (at : ℕ) (child : Draw) (order : ℕ) (group : Group) → P (split_group group at child order, Was.Changed) → ((refusal : OrderRefusal) → P (group, Was.Refused refusal)) → P (group, Was.NoEffect child) → P (applied group (Split at child order))
    split_step P at child order group a r n =
        either_step P (has_named group.core child) _ _ n (by_step P group.core.gone (refusal_of group.core (Split at child order)) (split_group group at child order) group a r)

    left_asks : (group : Group) (at : ℕ) (child : Draw) (me : ℕ) (more : List Mail) → group.core.lock ≡ Free → asked_first group.core.lock me (left_group group at child).core more ≡ more
    left_asks group at child me more free = ap (λ (l : Lock). asked_first l me (left_group group at child).core more) free

    pub split_said : (at : ℕ) (child : Draw) (order : ℕ) (r : ReplicaState) (mails : List Mail) → r.group.core.lock ≡ Free → SaysMost (Split at child order) r mails (159 + 2 * ways.most)
    unfolding went_on
    split_said at child order r mails free =
        act_said (Split at child order) r mails (159 + 2 * ways.most) refl refl
        (split_step (λ step. (more : List Mail) → sum (asked_on step.1 r.me step.0.core more) ≤ sum more + (159 + 2 * ways.most)) at child order r.group (by (is_alone r.group.core)) (λ why more. omega arith) (λ more. omega arith))
      where
        by : (b : Bool) (more : List Mail) → sum (asked_first (cond b (left_group r.group at child) (begun_group r.group child (At.Split at child) order)).core.lock r.me (cond b (left_group r.group at child) (begun_group r.group child (At.Split at child) order)).core more) ≤ sum more + (159 + 2 * ways.most)
        by true more = let same = ap sum (left_asks r.group at child r.me more free) in omega (arith, same)
        by false more =
            let core = (begun_group r.group child (At.Split at child) order).core in
            let node = least_of (asked_link core (At.Split at child) None).members in
            let s = sent_owes ways r.me node (question r.me core child (At.Split at child) None) more in
            let far = bounded core.succ.group node in
            omega (arith, s, far)

    pub split_alone_said : (at : ℕ) (child : Draw) (order : ℕ) (r : ReplicaState) (mails : List Mail) → r.group.core.lock ≡ Free → is_alone r.group.core ≡ true → SaysMost (Split at child order) r mails 0
    unfolding went_on
    split_alone_said at child order r mails free alone =
        act_said (Split at child order) r mails 0 refl refl
        (split_step (λ step. (more : List Mail) → sum (asked_on step.1 r.me step.0.core more) ≤ sum more + 0) at child order r.group (λ more. by (is_alone r.group.core) alone more) (λ why more. omega arith) (λ more. omega arith))
      where
        by : (b : Bool) → b ≡ true → (more : List Mail) → sum (asked_first (cond b (left_group r.group at child) (begun_group r.group child (At.Split at child) order)).core.lock r.me (cond b (left_group r.group at child) (begun_group r.group child (At.Split at child) order)).core more) ≤ sum more + 0
        by true e more = let same = ap sum (left_asks r.group at child r.me more free) in omega (arith, same)
        by false e more = absurd (true≢false (sym e))

    -- ---- a coordinator records its participant's vote

    module _ (tx : Draw) (vote : Vote) (from : ℕ) (r : ReplicaState) where
      abbrev Answers : ℕ → Group × Effect → Type 0
      Answers said step = (more : List Mail) → sum (vote_answered (decided_in step.1) vote r.me (before_of r.group.core) tx from (asked_on step.1 r.me step.0.core more)) ≤ sum more + said

      answered_most : (o : Option Outcome) (vote : Vote) (more : List Mail) → sum (vote_answered o vote r.me (before_of r.group.core) tx from more) ≤ sum more + 31
      answered_most None vote more = omega arith
      answered_most (Some outcome) (Says.Yes frozen) more = let s = sent_owes ways r.me from (TxOutcome tx (before_of r.group.core).succ.group outcome) more in omega (arith, s)
      answered_most (Some outcome) (Says.No why) more = omega arith

      -- one that does not go on to ask answers at most
      answers_quiet : (step : Group × Effect) → is_changed step.1 ≡ false → Answers 31 step
      answers_quiet step quiet more =
          let same : asked_on step.1 r.me step.0.core more ≡ more = ap (λ b. cond b (asked_first step.0.core.lock r.me step.0.core more) more) quiet in
          let whole = ap (λ (mails : List Mail). sum (vote_answered (decided_in step.1) vote r.me (before_of r.group.core) tx from mails)) same in
          let le = answered_most (decided_in step.1) vote more in
          omega (arith, whole, le)

      answers_more : (step : Group × Effect) → is_changed step.1 ≡ false → Answers (159 + 2 * ways.most) step
      answers_more step quiet more = let le = answers_quiet step quiet more in omega (arith, le)

      answers_heard : (order : ℕ) (heard : Heard) → Answers (159 + 2 * ways.most) (heard_group r.group tx At.Merge order heard, Was.Changed)
      answers_heard order heard more =
          let core = (heard_group r.group tx At.Merge order heard).core in
          let node = least_of (asked_link core At.Merge (Some heard)).members in
          let s = sent_owes ways r.me node (question r.me core tx At.Merge (Some heard)) more in
          let far = bounded heard.frozen.succ.group node in
          omega (arith, s, far)

      answers_recorded : Answers (159 + 2 * ways.most) (vote_recorded r.group.core.lock r.group tx vote from)
      answers_recorded =
          vote_step r.group tx vote from (Answers (159 + 2 * ways.most)) (decided_walk r.group tx vote from (Answers (159 + 2 * ways.most)) (answers_more (r.group, Was.NoEffect tx) refl)
          (λ order lock frozen votes. answers_heard order (record { frozen = frozen; by = from })) (λ body order lock after outcome stands. answers_more (decided_group after tx outcome, Was.Decided outcome) refl))

      pub vote_said : (mails : List Mail) → SaysMost (RecordVote tx vote from) r mails (159 + 2 * ways.most)
      unfolding went_on
      vote_said mails = act_said (RecordVote tx vote from) r mails (159 + 2 * ways.most) refl refl answers_recorded

      pub vote_quiet_said : (mails : List Mail) → is_changed (applied r.group (RecordVote tx vote from)).1 ≡ false → SaysMost (RecordVote tx vote from) r mails 31
      unfolding went_on
      vote_quiet_said mails quiet = act_said (RecordVote tx vote from) r mails 31 refl refl (answers_quiet (applied r.group (RecordVote tx vote from)) quiet)

      -- one that goes on to ask has the members that it had
      abbrev KeepsMembers : Group × Effect → Type 0
      KeepsMembers step = is_changed step.1 ≡ true → step.0.core.members ≡ r.group.core.members

      quiet_keeps : (step : Group × Effect) → is_changed step.1 ≡ false → KeepsMembers step
      quiet_keeps step quiet asks = absurd (true≢false (sym asks ∙ quiet))

      recorded_keeps : KeepsMembers (vote_recorded r.group.core.lock r.group tx vote from)
      recorded_keeps =
          vote_step r.group tx vote from KeepsMembers (decided_walk r.group tx vote from KeepsMembers (quiet_keeps (r.group, Was.NoEffect tx) refl) (λ order lock frozen votes asks. refl)
          (λ body order lock after outcome stands. quiet_keeps (decided_group after tx outcome, Was.Decided outcome) refl))

      pub vote_new : is_changed (applied r.group (RecordVote tx vote from)).1 ≡ true → length (newcomers (RecordVote tx vote from) r) ≡ 0
      vote_new asks = same_added (RecordVote tx vote from) r (recorded_keeps asks)
