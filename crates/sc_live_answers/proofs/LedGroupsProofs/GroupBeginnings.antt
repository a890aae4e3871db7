-- Groups begin with a first member, and are not gone then.
use Rattle.std.proofs.Common.{◌≡◌, ℕ, List, [], ◌∷◌, zero, suc, Option, Some, None, inl, inr, refl, sym, subst, option_to_list}
use Rattle.std.specs.Option.{option_map}
use Rattle.sc_base.specs.Definitions.{Among, IsRoster, is_member}
use Rattle.sc_node_table.specs.Values.{Draw, Command, Base}
use Rattle.std.specs.Prelude.{true}
use Rattle.sc_group_table.specs.machine.MachineDefinitions.{Group, group_of, applied, child_of}
use Rattle.sc_meaning.specs.entries.EntryDefinitions.{birth_of, division_of}
use Rattle.sc_meaning.specs.declared.entries.Division.{Division}
use Rattle.sc_paxos_law.proofs.Lemmas.{Among-either}
use Rattle.sc_scenario.specs.scenario.Definitions.{IsBounded}
use Rattle.sc_scenario.specs.declared.scenario.scenarios.Scenario.{Scenario}
use Rattle.sc_meaning.specs.sound.SoundDefinitions.{children_of, groups_at, decided_log, Ahead}
use Rattle.sc_law_entries.specs.logs.LogDefinitions.{Rows, Descends}
use Rattle.sc_law_entries.proofs.LogsProofs.LogLemmas.{group_found}
use Rattle.sc_law_groups.proofs.WholeProofs.WholeLemmas.{fresh_children}
use Rattle.sc_live_steps.proofs.FollowingProofs.FollowingLemmas.{least_in}
use Rattle.sc_live_journals.proofs.RowsProofs.RowLemmas.{born_facts}

-- a group begins with a first member of a roster, and is not gone
record IsBegun (base : Base) : Type 0 where
  roster : IsRoster base.core.members
  first : is_member base.core.members base.core.first ≡ true
  stands : base.core.gone ≡ None

-- it is the child of a group
record IsChild (kid : Base) : Type 0 where
  group : Group
  at : ℕ
  child : Draw
  fact : child_of group at child ≡ kid

-- the child of a division is one
divided : (group : Group) (kid : Base) (o : Option Division) → Among kid (option_to_list (option_map (λ division. child_of group division.at division.child) o)) → IsChild kid
divided group kid None a = absurd a
divided group kid (Some division) (inl e) = record { group = group; at = division.at; child = division.child; fact = e }
divided group kid (Some division) (inr n) = absurd n

-- so is each that a log names
named : (group : Group) (log : List Command) (kid : Base) → Among kid (children_of group log) → IsChild kid
named group [] kid a = absurd a
named group (c ∷ log) kid a =
    elim (Among-either kid (option_to_list (birth_of group c (applied group c).1)) (children_of (applied group c).0 log) a) [
      | inl here ↦ divided group kid (division_of group.core c (applied group c).1) here
      | inr later ↦ named (applied group c).0 log kid later
    ]

-- a child with a roster begins so
begun_child : (kid : Base) → IsRoster kid.core.members → IsChild kid → IsBegun kid
begun_child kid roster c =
    let own : Base = child_of c.group c.at c.child in
    let own_roster : IsRoster own.core.members = subst (λ (b : Base). IsRoster b.core.members) (sym c.fact) roster in
    subst IsBegun c.fact (record { roster = own_roster; first = least_in own.core.members own_roster.some; stands = refl })

module _ (ahead : Ahead) (scenario : Scenario) (bounded : IsBounded scenario) (rows : Rows) where
  -- generation by generation
  descends : (depth : ℕ) (base : Base) → Descends ahead scenario.groups rows depth base → IsBegun base
  descends zero base a = (let facts = born_facts scenario bounded base a in record { roster = facts.0; first = facts.1; stands = facts.2 })
  descends (suc depth) base (parent, d, a) =
      let before = descends depth parent d in
      begun_child base (fresh_children (group_of parent) (decided_log ahead parent rows) before.roster base a).roster (named (group_of parent) (decided_log ahead parent rows) base a)

  found : (base : Base) → Among base (groups_at ahead scenario.groups rows) → IsBegun base
  found base a = (let (depth, d) = group_found ahead scenario.groups rows base a in descends depth base d)

  pub begun_first : (base : Base) → Among base (groups_at ahead scenario.groups rows) → is_member base.core.members base.core.first ≡ true
  begun_first base a = (found base a).first

  pub begun_stands : (base : Base) → Among base (groups_at ahead scenario.groups rows) → base.core.gone ≡ None
  begun_stands base a = (found base a).stands
