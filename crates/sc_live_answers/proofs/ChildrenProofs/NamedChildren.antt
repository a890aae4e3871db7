-- Children that a log names: of members of their group, and at a slot of their own.
use Rattle.std.proofs.Common.{◌≡◌, ℕ, zero, suc, ◌+◌, ◌-◌, ◌≤◌, eqb, true, List, [], ◌∷◌, ◌++◌, length, take, drop, Option, Some, None, inl, inr, refl, sym, ◌∙◌, ap, subst, append_assoc, arith, option_to_list}
use Rattle.std.specs.Option.{option_map}
use Rattle.std.proofs.lemmas.Bool.{or_right}
use Rattle.std.proofs.lemmas.List.{length_push}
use Rattle.std.proofs.lemmas.Option.{none-some, same_Some}
use Rattle.sc_base.specs.Definitions.{Among, is_member}
use Rattle.sc_node_table.specs.Values.{Command, Base}
use Rattle.sc_group_table.specs.machine.MachineDefinitions.{child_by, Group, group_of, state_after, applied, staying, child_of}
use Rattle.sc_meaning.specs.entries.EntryDefinitions.{birth_of, division_of}
use Rattle.sc_meaning.specs.declared.entries.Division.{Division}
use Rattle.sc_meaning.proofs.EntriesProofs.EntryLemmas.{births_are_children}
use Rattle.sc_paxos_law.proofs.Lemmas.{Among-either}
use Rattle.sc_meaning.specs.sound.SoundDefinitions.{children_of}
use Rattle.sc_live_answers.specs.AnswerDefinitions.{IsBirth}
use Rattle.sc_law_groups.proofs.WholeProofs.WholeLemmas.{listed as option_is}

-- ---- members

dropped_member : (n : ℕ) (nodes : List ℕ) (who : ℕ) → is_member (drop n nodes) who ≡ true → is_member nodes who ≡ true
dropped_member zero nodes who e = e
dropped_member (suc n) [] who e = e
dropped_member (suc n) (node ∷ nodes) who e = or_right (eqb node who) (is_member nodes who) (dropped_member n nodes who e)

-- a child's members are of its group
pub child_members : (group : Group) (c : Command) (child : Base) (who : ℕ) → child_by group c ≡ Some child → is_member child.core.members who ≡ true → is_member group.core.members who ≡ true
child_members group c child who e = by (division_of group.core c (applied group c).1) (sym (births_are_children group c) ∙ e)
  where
    by : (o : Option Division) → option_map (λ division. child_of group division.at division.child) o ≡ Some child → is_member child.core.members who ≡ true → is_member group.core.members who ≡ true
    by None f = absurd (none-some child f)
    by (Some d) f = subst (λ (b : Base). is_member b.core.members who ≡ true → is_member group.core.members who ≡ true) (same_Some (child_of group d.at d.child) child f) (dropped_member (staying group.core.members) group.core.members who)

-- ---- slots

prefix_of : (xs ys : List Command) → take (length xs) (xs ++ ys) ≡ xs
prefix_of [] ys = refl
prefix_of (x ∷ xs) ys = ap (λ l. x ∷ l) (prefix_of xs ys)

-- what a log goes on with, at its place
record IsAfter (group : Group) (log : List Command) (child : Base) : Type 0 where
  prefix : List Command
  command : Command
  rest : List Command
  fact : log ≡ prefix ++ command ∷ rest
  child_is : child_by (state_after group prefix) command ≡ Some child

named_after : (group : Group) (log : List Command) (child : Base) → Among child (children_of group log) → IsAfter group log child
named_after group [] child a = absurd a
named_after group (c ∷ log) child a = elim (Among-either child (option_to_list (birth_of group c (applied group c).1)) (children_of (applied group c).0 log) a) [
  | inl here ↦ record { prefix = []; command = c; rest = log; fact = refl; child_is = births_are_children group c ∙ option_is (birth_of group c (applied group c).1) child here }
  | inr later ↦ (let k = named_after (applied group c).0 log child later in record { prefix = c ∷ k.prefix; command = k.command; rest = k.rest; fact = ap (λ l. c ∷ l) k.fact; child_is = k.child_is })
]

-- a child that a log names has a slot of it, also where the log goes on
pub birth_slot : (base : Base) (log more all : List Command) (child : Base) → all ≡ log ++ more → Among child (children_of (group_of base) log) → (slot : ℕ) × (slot ≤ length log) × IsBirth all base slot child
birth_slot base log more all child fact a =
    let k = named_after (group_of base) log child a in
    let whole : all ≡ k.prefix ++ k.command ∷ (k.rest ++ more) = fact ∙ (ap (λ l. l ++ more) k.fact ∙ append_assoc k.prefix (k.command ∷ k.rest) more) in
    let push = length_push k.prefix k.command in
    let one : length k.prefix + 1 - 1 ≡ length k.prefix = omega arith in
    let two : length k.prefix + 1 ≡ length (k.prefix ++ k.command ∷ []) = omega (arith, push) in
    let regroup : k.prefix ++ k.command ∷ (k.rest ++ more) ≡ (k.prefix ++ k.command ∷ []) ++ (k.rest ++ more) = sym (append_assoc k.prefix (k.command ∷ []) (k.rest ++ more)) in (
      length k.prefix + 1,
      low k.prefix k.command k.rest log k.fact,
      record {
        prefix = k.prefix;
        command = k.command;
        before = ap (λ n. take n all) one ∙ (ap (take (length k.prefix)) whole ∙ prefix_of k.prefix (k.command ∷ (k.rest ++ more)));
        upto = ap (λ n. take n all) two ∙ (ap (take (length (k.prefix ++ k.command ∷ []))) (whole ∙ regroup) ∙ prefix_of (k.prefix ++ k.command ∷ []) (k.rest ++ more));
        child_is = k.child_is;
      },
    )
  where
    longer : (xs : List Command) (c : Command) (ys : List Command) → length xs + 1 ≤ length (xs ++ c ∷ ys)
    longer [] c ys = omega arith
    longer (x ∷ xs) c ys = (let l = longer xs c ys in omega (arith, l))

    low : (xs : List Command) (c : Command) (ys log_ : List Command) → log_ ≡ xs ++ c ∷ ys → length xs + 1 ≤ length log_
    low xs c ys log_ e = (let l = longer xs c ys in let same = ap length e in omega (arith, l, same))

-- none is named at no slot
pub no_birth : (all : List Command) (base : Base) (child : Base) → IsBirth all base 0 child → ⊥
no_birth all base child b = none b.prefix b.command b.upto
  where
    none : (xs : List Command) (c : Command) → [] ≡ xs ++ c ∷ [] → ⊥
    none [] c e = cc
    none (x ∷ xs) c e = cc
