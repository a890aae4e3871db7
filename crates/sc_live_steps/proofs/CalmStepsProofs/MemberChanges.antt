-- Entries that start nothing with other groups: fillers, joins, and leaves of another member than the one that leads.
use Rattle.std.proofs.Common.{◌≡◌, ℕ, ◌+◌, ◌*◌, ◌≤◌, ◌||◌, ltb, eqb, not, Bool, true, false, cond, List, [], ◌∷◌, ◌++◌, length, sum_by, Option, Some, None, inl, inr, refl, sym, ◌∙◌, ap, subst, arith}
use Rattle.std.specs.List.{filter}
use Rattle.std.proofs.lemmas.Bool.{eq-eqb, or_right}
use Rattle.std.proofs.lemmas.List.Elements.{filter-append}
use Rattle.sc_base.specs.Definitions.{Among, is_member, with_member}
use Rattle.sc_node_table.specs.Values.{Command, Noop, Join, Leave, Effect, Route, OrderRefusal, AnswerBody, Mail}
use Rattle.sc_group_table.specs.machine.MachineDefinitions.{Group, applied, ordered, refusal_of, with_node, without_node}
use Rattle.sc_node_table.specs.declared.Before.{Before}
use Rattle.sc_node_table.specs.NodeDefinitions.{entered, order_result, effect_reported, answered_or_put_back, announced, answer_of, executed_one, ReplicaState, Place, members, forgotten, before_of, begun_reported, went_on, spoken_mails, spoken}
use Rattle.sc_live_steps.specs.calm.CalmDefinitions.{said_place, newcomers, IsChange, LeadsOn, StopsAfter, Ways, offered_owes, mail_owes, place_owes}
use Rattle.sc_live_steps.proofs.CalmStepsProofs.LearntPotential.{effect_owes, begun_owes}
use Rattle.sc_live_steps.proofs.CalmStepsProofs.CountedPotential.{counted_owes, leaving_owes}

-- ---- whom an entry adds

pub among_member : (x : ℕ) (xs : List ℕ) → Among x xs → is_member xs x ≡ true
among_member x [] a = absurd a
among_member x (y ∷ ys) (inl same) = ap (λ b. b || is_member ys x) (eq-eqb y x same)
among_member x (y ∷ ys) (inr a) = or_right (eqb y x) (is_member ys x) (among_member x ys a)

-- of those that were members before none is new
none_new : (before : List ℕ) (test : ℕ → Bool) (xs : List ℕ) → ((x : ℕ) → Among x xs → is_member before x ≡ true) → filter (λ node. not (is_member before node)) (filter test xs) ≡ []
none_new before test [] all = refl
none_new before test (x ∷ xs) all = by (test x) (none_new before test xs (λ y a. all y (inr a)))
  where
    by : (b : Bool) → filter (λ node. not (is_member before node)) (filter test xs) ≡ [] → filter (λ node. not (is_member before node)) (cond b (x ∷ filter test xs) (filter test xs)) ≡ []
    by true e = ap (λ m. cond (not m) (x ∷ filter (λ node. not (is_member before node)) (filter test xs)) (filter (λ node. not (is_member before node)) (filter test xs))) (all x (inl refl)) ∙ e
    by false e = e

pub same_new : (before xs : List ℕ) → ((x : ℕ) → Among x xs → is_member before x ≡ true) → filter (λ node. not (is_member before node)) xs ≡ []
same_new before [] all = refl
same_new before (x ∷ xs) all =
    ap (λ m. cond (not m) (x ∷ filter (λ node. not (is_member before node)) xs) (filter (λ node. not (is_member before node)) xs)) (all x (inl refl)) ∙ same_new before xs (λ y a. all y (inr a))

-- one at most is
pub one_new : (before : List ℕ) (node : ℕ) → length (filter (λ n. not (is_member before n)) (with_member before node)) ≤ 1
one_new before node =
    let low = filter (λ member. ltb member node) before in
    let high = filter (λ member. ltb node member) before in
    let split = filter-append (λ n. not (is_member before n)) low (node ∷ high) in
    let none = none_new before (λ member. ltb member node) before (λ x a. among_member x before a) in
    let rest = none_new before (λ member. ltb node member) before (λ x a. among_member x before a) in
    let all : filter (λ n. not (is_member before n)) (with_member before node) ≡ cond (not (is_member before node)) (node ∷ []) [] =
    split ∙ (ap (λ l. l ++ filter (λ n. not (is_member before n)) (node ∷ high)) none ∙ ap (λ l. cond (not (is_member before node)) (node ∷ l) l) rest) in
    let few = short (not (is_member before node)) in
    let same = ap length all in
    omega (arith, few, same)
  where
    short : (b : Bool) → length (cond b (node ∷ []) []) ≤ 1
    short true = omega arith
    short false = omega arith

-- ---- the members after an entry

pub entered_members : (command : Command) (r : ReplicaState) → members (entered command r) ≡ (applied r.group command).0.core.members
unfolding entered forgotten
entered_members command r = refl

pub ordered_members : (P : List ℕ → Type 0) (gone : Option Route) (why : Option OrderRefusal) (after group : Group) → P after.core.members → P group.core.members → P (ordered gone why after group).0.core.members
ordered_members P (Some into) why after group a g = g
ordered_members P None (Some why) after group a g = g
ordered_members P None None after group a g = a

noop_new : (r : ReplicaState) → newcomers Noop r ≡ []
noop_new r =
    ap (λ xs. filter (λ node. not (is_member (members r) node)) xs) (entered_members Noop r) ∙ same_new (members r) (members r) (λ x a. among_member x (members r) a)

join_new : (node order : ℕ) (r : ReplicaState) → length (newcomers (Join node order) r) ≤ 1
join_new node order r =
    let before = members r in
    let P : List ℕ → Type 0 = λ xs. length (filter (λ n. not (is_member before n)) xs) ≤ 1 in
    let none = ap length (same_new before before (λ x a. among_member x before a)) in
    let few = ordered_members P r.group.core.gone (refusal_of r.group.core (Join node order)) (with_node r.group node) r.group (one_new before node) (omega (arith, none)) in
    subst P (sym (entered_members (Join node order) r)) few

leave_new : (node order : ℕ) (r : ReplicaState) → newcomers (Leave node order) r ≡ []
leave_new node order r =
    let before = members r in
    let P : List ℕ → Type 0 = λ xs. filter (λ n. not (is_member before n)) xs ≡ [] in
    let all = ordered_members P r.group.core.gone (refusal_of r.group.core (Leave node order)) (without_node r.group node) r.group (none_new before (λ member. not (eqb member node)) before (λ x a. among_member x before a)) (same_new before before (λ x a. among_member x before a)) in
    subst P (sym (entered_members (Leave node order) r)) all

-- ---- what is said: a report to the desk alone

call_silent : (o : Option AnswerBody) (command : Command) (place : Place) → IsChange command → answered_or_put_back o command place ≡ place
unfolding answered_or_put_back
call_silent None Noop place fact = refl
call_silent (Some answer) Noop place fact = refl
call_silent None (Join node order) place fact = refl
call_silent (Some answer) (Join node order) place fact = refl
call_silent None (Leave node order) place fact = refl
call_silent (Some answer) (Leave node order) place fact = refl
call_silent o _ place fact = absurd fact

went_silent : (me : ℕ) (group : Group) (before : Before) (effect : Effect) (command : Command) (mails : List Mail) → IsChange command → went_on me group before effect command mails ≡ mails
unfolding went_on
went_silent me group before effect Noop mails fact = refl
went_silent me group before effect (Join node order) mails fact = refl
went_silent me group before effect (Leave node order) mails fact = refl
went_silent me group before effect _ mails fact = absurd fact

module _ (ways : Ways) where
  announced_silent : (effect : Effect) (command : Command) (r : ReplicaState) (mails : List Mail) → IsChange command →
      ((announced true effect command (r, mails)).0 ≡ r) × (sum_by (mail_owes ways) (announced true effect command (r, mails)).1 ≡ sum_by (mail_owes ways) mails)
  unfolding announced
  announced_silent effect command r mails fact =
      subst (λ (p : Place). ((effect_reported (order_result command effect) command p).0 ≡ r) × (sum_by (mail_owes ways) (effect_reported (order_result command effect) command p).1 ≡ sum_by (mail_owes ways) mails))
      (sym (call_silent (answer_of effect) command (r, mails) fact)) (effect_owes ways (order_result command effect) command r mails)

  spoken_silent : (before : Before) (effect : Effect) (command : Command) (r : ReplicaState) (mails : List Mail) → IsChange command →
      ((spoken true before effect command (r, mails)).0 ≡ r) × (sum_by (mail_owes ways) (spoken true before effect command (r, mails)).1 ≡ sum_by (mail_owes ways) mails)
  unfolding spoken spoken_mails
  spoken_silent before effect command r mails fact =
      (refl, ap (sum_by (mail_owes ways)) (went_silent r.me r.group before effect command (begun_reported r.me before effect command mails) fact) ∙ begun_owes ways r.me before effect command mails)

  pub silent_said : (command : Command) (r : ReplicaState) (mails : List Mail) → IsChange command →
      ((said_place command (r, mails)).0 ≡ entered command r) × (sum_by (mail_owes ways) (said_place command (r, mails)).1 ≡ sum_by (mail_owes ways) mails)
  silent_said command r mails fact =
      let effect = (applied r.group command).1 in
      let a = announced_silent effect command (entered command r) mails fact in
      let place1 = announced true effect command (entered command r, mails) in
      let b = spoken_silent (before_of r.group.core) effect command place1.0 place1.1 fact in
      (b.0 ∙ a.0, b.1 ∙ a.1)

  paid : (command : Command) (r : ReplicaState) → IsChange command → 8 + 0 + 3 * length (newcomers command r) ≤ offered_owes ways.most command
  paid Noop r fact = let none = ap length (noop_new r) in omega (arith, none)
  paid (Join node order) r fact = let few = join_new node order r in omega (arith, few)
  paid (Leave node order) r fact = let none = ap length (leave_new node order r) in omega (arith, none)
  paid _ r fact = absurd fact

  pub changes_owe : (command : Command) (place : Place) → IsChange command → LeadsOn command place.0 → place_owes ways (executed_one true command place) ≤ place_owes ways place
  changes_owe command place fact leads =
      let said = silent_said command place.0 place.1 fact in
      let reported = said.1 in
      counted_owes ways command place 0 leads.counting leads.stands leads.stays said.0 (omega (arith, reported)) (paid command place.0 fact)

  pub leader_leaves : (node order : ℕ) (place : Place) → StopsAfter (Leave node order) place.0 → place_owes ways (executed_one true (Leave node order) place) ≤ place_owes ways place
  leader_leaves node order place stops =
      let said = silent_said (Leave node order) place.0 place.1 tt in
      let reported = said.1 in
      let none = ap length (leave_new node order place.0) in
      leaving_owes ways (Leave node order) place 0 stops.counting stops.stands stops.leaves stops.flights stops.alone stops.backlog said.0 (omega (arith, reported)) (omega (arith, none))
