-- What an entry of a group that is not reshaped leaves: the replica with one more entry, whose slot is cleared; and of a counted one the answer and the Learns.
use Rattle.std.proofs.Common.{◌≡◌, ℕ, Bool, true, false, List, Option, Some, None, refl, ◌∙◌, ap}
use Rattle.sc_node_table.specs.Values.{Base, Core, Command, Effect, Mail, Learn, OrderResult}
use Rattle.sc_group_table.specs.machine.MachineDefinitions.{Group, applied}
use Rattle.sc_node_table.specs.NodeDefinitions.{ReplicaState, Place, name_of, next, members, entered, answer_of, order_result, answered_or_put_back, effect_reported, announced, before_of, spoken, learnt_to, welcomed, welcomed_all, sent_others, landed, flying}
use Rattle.sc_law_walks.proofs.WalkLemmas.{entered_group, entered_place, lost_counted}
use Rattle.sc_law_walks.proofs.Places.{cleared}
use Rattle.sc_live_healed.specs.HealedDefinitions.{IsFixedCommand}
use Rattle.sc_live_plain.proofs.PlainLemmas.{none_new}
use Rattle.sc_live_healed.proofs.FixedEntries.{no_result, no_speech}
use Rattle.sc_live_healed.proofs.FixedParts.{applied_core}

unreported : (o : Option OrderResult) (command : Command) (place : Place) → o ≡ None → effect_reported o command place ≡ place
unfolding effect_reported
unreported None command place e = refl
unreported (Some result) command place e = absurd (cc)

module _ (base : Base) (command : Command) (start : ReplicaState) (fixed : IsFixedCommand base command) where
  abbrev effect : Effect
  effect = (applied start.group command).1

  unsaid : (counted : Bool) (r : ReplicaState) (mails : List Mail) → spoken counted (before_of start.group.core) effect command (r, mails) ≡ (r, mails)
  unfolding spoken
  unsaid counted r mails = ap (λ (ms : List Mail). (r, ms)) (no_speech base counted r.me r.group start.group effect command mails fixed)

  announced_so : (counted : Bool) (place place1 : Place) → (counted ≡ true → answered_or_put_back (answer_of effect) command place ≡ place1) → (counted ≡ false → place ≡ place1) → announced counted effect command place ≡ place1
  unfolding announced
  announced_so true place place1 on off = unreported (order_result command effect) command (answered_or_put_back (answer_of effect) command place) (no_result base command effect fixed) ∙ on refl
  announced_so false place place1 on off = unreported (order_result command effect) command place (no_result base command effect fixed) ∙ off refl

  -- a learnt entry: nothing is said
  learns_none : (nodes : List ℕ) (slot : ℕ) (place : Place) → welcomed false nodes (learnt_to false nodes slot command place) ≡ place
  unfolding learnt_to welcomed
  learns_none nodes slot (r, mails) = refl

  pub learnt_is : (mails : List Mail) → entered_place false command (start, mails) ≡ landed false (next start) command (entered command start, mails)
  learnt_is mails =
      ap (λ (p : Place). landed false (next start) command (welcomed false (members start) (learnt_to false (members start) (next start) command (spoken false (before_of start.group.core) effect command p)))) (announced_so false (entered command start, mails) (entered command start, mails) (λ t. absurd cc) (λ _. refl))
      ∙ ap (λ (p : Place). landed false (next start) command (welcomed false (members start) (learnt_to false (members start) (next start) command p))) (unsaid false (entered command start) mails)
      ∙ ap (λ (p : Place). landed false (next start) command p) (learns_none (members start) (next start) (entered command start, mails))

  -- a counted entry: its client is answered, or it goes back; and the members learn it
  landed_counted : (slot : ℕ) (r : ReplicaState) (mails : List Mail) → landed true slot command (r, mails) ≡ cleared slot (r, mails)
  unfolding landed
  landed_counted slot r mails = ap (λ (x : ReplicaState). (x, mails)) (lost_counted command (flying r slot) (cleared slot (r, mails)).0)

  welcomes_none : (r : ReplicaState) (mails : List Mail) → members r ≡ members start → welcomed true (members start) (r, mails) ≡ (r, mails)
  unfolding welcomed welcomed_all
  welcomes_none r mails e = ap (λ (nodes : List ℕ). welcomed_all nodes (r, mails)) (none_new (members start) (members r) e)

  -- the mails of a counted entry
  abbrev pub learning : Place → List Mail
  learning (r, mails) = sent_others r.me (members start) (Learn (name_of r) (next start) command) mails

  learns_all : (r : ReplicaState) (mails : List Mail) → learnt_to true (members start) (next start) command (r, mails) ≡ (r, learning (r, mails))
  unfolding learnt_to
  learns_all r mails = refl

  pub counted_is : (mails : List Mail) (r : ReplicaState) (said : List Mail) → answered_or_put_back (answer_of effect) command (entered command start, mails) ≡ (r, said) → r.group ≡ (entered command start).group
      → entered_place true command (start, mails) ≡ cleared (next start) (r, learning (r, said))
  counted_is mails r said e same =
      let same_members : members r ≡ members start = ap (λ (g : Group). g.core.members) (same ∙ entered_group command start) ∙ ap (λ (core : Core). core.members) (applied_core base command start.group fixed) in
      ap (λ (p : Place). landed true (next start) command (welcomed true (members start) (learnt_to true (members start) (next start) command (spoken true (before_of start.group.core) effect command p)))) (announced_so true (entered command start, mails) (r, said) (λ _. e) (λ f. absurd cc))
      ∙ ap (λ (p : Place). landed true (next start) command (welcomed true (members start) (learnt_to true (members start) (next start) command p))) (unsaid true r said)
      ∙ ap (λ (p : Place). landed true (next start) command (welcomed true (members start) p)) (learns_all r said)
      ∙ ap (λ (p : Place). landed true (next start) command p) (welcomes_none r (learning (r, said)) same_members)
      ∙ landed_counted (next start) r (learning (r, said))
