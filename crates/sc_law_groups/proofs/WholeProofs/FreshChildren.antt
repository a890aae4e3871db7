-- A child of a group is bound in nothing, has voted and decided nothing, and has one to nine members.
use Rattle.std.proofs.Common.{◌≡◌, ℕ, ◌+◌, ◌≤◌, true, List, [], ◌∷◌, length, get_or, Option, Some, None, inl, inr, refl, ◌∙◌, ap, subst, length-drop, option_to_list, arith}
use Rattle.std.proofs.lemmas.Bool.{cond_both}
use Rattle.std.proofs.lemmas.List.{get_or-drop}
use Rattle.sc_base.specs.Definitions.{Among, same_draw, IsRoster}
use Rattle.sc_node_table.specs.Values.{Draw, Body, Command, Split, RecordWatch, Base, Lock, Free, Coordinating, Promised, Watching, Route, OrderRefusal, Past}
use Rattle.sc_words.specs.declared.commands.bodies.Body.TheVariants as By
use Rattle.sc_words.specs.declared.commands.votes.Past.TheVariants as Cast
use Rattle.sc_words.specs.commands.CommandDefinitions.{is_alone}
use Rattle.sc_group_table.specs.machine.MachineDefinitions.{ordered_child, released_child, answered_child, watched_child, child_by, Group, applied, refusal_of, can_split, staying, right_members, child_of, has_named}
use Rattle.sc_meaning.specs.entries.EntryDefinitions.{birth_of}
use Rattle.sc_meaning.proofs.EntriesProofs.EntryLemmas.{births_are_children}
use Rattle.sc_paxos_law.proofs.Lemmas.{Among-either}
use Rattle.sc_meaning.specs.sound.SoundDefinitions.{children_of}
use Rattle.sc_law_groups.specs.whole.WholeDefinitions.{IsFresh}
use Rattle.sc_law_groups.proofs.WholeProofs.Coming.{two_members, staying_some}
use Rattle.sc_law_groups.proofs.WholeProofs.Members.{may_split, members_after}

-- the members that go are a roster
leaving_roster : (members : List ℕ) → IsRoster members → 2 ≤ length members → IsRoster (right_members members)
leaving_roster members fact two =
    let some = staying_some (length members) two fact.most in
    let low = some.1 in
    let count = length-drop (staying members) members in
    let most = fact.most in
    record {
      some = omega (arith, count, low);
      most = omega (arith, count, most);
      ascending = λ k within. (
          let here = get_or-drop (staying members) members k 0 in
          let next = get_or-drop (staying members) members (k + 1) 0 in
          let same : staying members + (k + 1) ≡ staying members + k + 1 = omega arith in
          let there = ap (λ n. get_or members n 0) same in
          let up = fact.ascending (staying members + k) (omega (arith, within, count)) in
          omega (arith, here, next, there, up));
    }

-- the child of a group that can be split
fresh_of : (group : Group) (at : ℕ) (child : Draw) → IsRoster group.core.members → can_split group.core at ≡ true → IsFresh (child_of group at child)
fresh_of group at child roster can = record { free = refl; unvoted = refl; decided = refl; roster = leaving_roster group.core.members roster (two_members group.core at can) }

-- the child that an order names
by_order : (gone : Option Route) (why : Option OrderRefusal) (group : Group) (at : ℕ) (child : Draw) → (why ≡ None → IsFresh (child_of group at child)) → (kid : Base) → ordered_child gone why group at child ≡ Some kid → IsFresh kid
by_order (Some into) why group at child f kid e = cc
by_order None (Some why) group at child f kid e = cc
by_order None None group at child f kid e =
    cond_both (is_alone group.core) (Some (child_of group at child)) None (λ o. o ≡ Some kid → IsFresh kid) (λ _ fact. (let same : child_of group at child ≡ kid = cc in subst IsFresh same (f refl))) (λ _ fact. cc) e

-- the child of a split that its watcher lets go on
by_release : (body : Body) (group : Group) → IsRoster group.core.members → (kid : Base) → released_child body group ≡ Some kid → IsFresh kid
by_release By.Merge group roster kid e = cc
by_release (By.Repart at) group roster kid e = cc
by_release (By.Migrate node) group roster kid e = cc
by_release (By.Split at child) group roster kid e =
    cond_both (can_split group.core at) (Some (child_of group at child)) None (λ o. o ≡ Some kid → IsFresh kid)
    (λ can fact. (let same : child_of group at child ≡ kid = cc in subst IsFresh same (fresh_of group at child roster can))) (λ _ fact. cc) e

-- whatever the watcher answers
by_answer : (vote : Past) (body : Body) (group : Group) → IsRoster group.core.members → (kid : Base) → answered_child vote body group ≡ Some kid → IsFresh kid
by_answer Cast.Yes body group roster kid e = by_release body group roster kid e
by_answer (Cast.No why) body group roster kid e = cc
by_answer Cast.Ended body group roster kid e = cc

-- whatever binds the group
by_watch : (lock : Lock) (group : Group) (tx : Draw) (vote : Past) → IsRoster group.core.members → (kid : Base) → watched_child lock group tx vote ≡ Some kid → IsFresh kid
by_watch Free group tx vote roster kid e = cc
by_watch (Promised t offer) group tx vote roster kid e = cc
by_watch (Watching t watch) group tx vote roster kid e = cc
by_watch (Coordinating t body order got) group tx vote roster kid e =
    cond_both (same_draw t tx) (answered_child vote body group) None (λ o. o ≡ Some kid → IsFresh kid) (λ _ fact. by_answer vote body group roster kid fact) (λ _ fact. cc) e

-- the child of a command
pub fresh_child : (group : Group) (c : Command) → IsRoster group.core.members → (kid : Base) → child_by group c ≡ Some kid → IsFresh kid
fresh_child group (Split at child order) roster kid e =
    cond_both (has_named group.core child) None (ordered_child group.core.gone (refusal_of group.core (Split at child order)) group at child) (λ o. o ≡ Some kid → IsFresh kid) (λ _ fact. cc)
    (λ _ fact. by_order group.core.gone (refusal_of group.core (Split at child order)) group at child (λ f. fresh_of group at child roster (may_split group.core at child order roster f)) kid fact) e
fresh_child group (RecordWatch tx vote by) roster kid e = by_watch group.core.lock group tx vote roster kid e
fresh_child group _ roster kid e = cc

-- what an option has
pub listed : (o : Option Base) (kid : Base) → Among kid (option_to_list o) → o ≡ Some kid
listed None kid a = absurd a
listed (Some b) kid (inl e) = ap (λ (x : Base). Some x) e
listed (Some b) kid (inr n) = absurd n

-- the children of a log
pub fresh_children : (group : Group) (log : List Command) → IsRoster group.core.members → (kid : Base) → Among kid (children_of group log) → IsFresh kid
fresh_children group [] roster kid a = absurd a
fresh_children group (c ∷ log) roster kid a =
    elim (Among-either kid (option_to_list (birth_of group c (applied group c).1)) (children_of (applied group c).0 log) a) [
      | inl here ↦ fresh_child group c roster kid (births_are_children group c ∙ listed (birth_of group c (applied group c).1) kid here)
      | inr later ↦ fresh_children (applied group c).0 log (members_after group c roster) kid later
    ]
