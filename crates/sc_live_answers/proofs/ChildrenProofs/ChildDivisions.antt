-- The child that an entry creates is that of the division which its effect makes; an effect that changes nothing and decides no split makes none.
use Rattle.std.specs.Option.{option_map}
use Rattle.std.proofs.Common.{◌≡◌, ℕ, ◌&&◌, false, cond, Option, Some, None, refl, sym, ◌∙◌, ap}
use Rattle.std.proofs.lemmas.Option.{none-some, same_Some}
use Rattle.sc_node_table.specs.Values.{Draw, Command, Split, RecordWatch, Base, Effect}
use Rattle.sc_words.specs.declared.commands.effects.Effect.TheVariants as Was
use Rattle.sc_words.specs.commands.CommandDefinitions.{is_alone, is_changed, is_divided}
use Rattle.sc_group_table.specs.machine.MachineDefinitions.{Group, applied, child_by, child_of}
use Rattle.sc_meaning.specs.declared.entries.Division.{Division}
use Rattle.sc_meaning.specs.entries.EntryDefinitions.{division_in, division_of}
use Rattle.sc_meaning.proofs.EntriesProofs.EntryLemmas.{births_are_children}
use Rattle.sc_law_walks.proofs.WalkLemmas.{ChangesNothing}

-- a group's division at a point of its arc
abbrev pub division_at : ℕ → Draw → Division
division_at at child = record { at = at; child = child }

module _ (group : Group) where
  pub undivided : (c : Command) (effect : Effect) → is_changed effect ≡ false → is_divided effect ≡ false → division_of group.core c effect ≡ None
  undivided (Split at child order) effect same whole = ap (λ b. cond (b && is_alone group.core) (Some (division_at at child)) None) same
  undivided (RecordWatch tx vote by) effect same whole = ap (λ b. cond b (division_in group.core.lock) None) whole
  undivided _ effect same whole = refl

  -- so a command that changes nothing
  pub nothing_divided : (c : Command) (effect : Effect) → ChangesNothing group c effect → division_of group.core c effect ≡ None
  nothing_divided c Was.Changed none = absurd none
  nothing_divided c (Was.Decided outcome) none = absurd none
  nothing_divided c effect none = undivided c effect refl refl

  -- the division of which a child comes
  pub child_divided : (command : Command) (kid : Base) → child_by group command ≡ Some kid → (d : Division) × (division_of group.core command (applied group command).1 ≡ Some d) × (kid ≡ child_of group d.at d.child)
  child_divided command kid e = by (division_of group.core command (applied group command).1) refl (sym (births_are_children group command) ∙ e)
    where
      by : (o : Option Division) → division_of group.core command (applied group command).1 ≡ o → option_map (λ division. child_of group division.at division.child) o ≡ Some kid
          → (d : Division) × (division_of group.core command (applied group command).1 ≡ Some d) × (kid ≡ child_of group d.at d.child)
      by None divided made = absurd (none-some kid made)
      by (Some d) divided made = (d, divided, sym (same_Some (child_of group d.at d.child) kid made))
