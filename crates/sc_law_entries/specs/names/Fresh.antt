-- A name that is drawn is new: no mail, no player, no log and no group had it before.
use Rattle.std.specs.Prelude.{◌≡◌, ℕ, [], Some, None, ◌⊎◌}
use Rattle.sc_base.specs.Definitions.{Among, Each}
use Rattle.sc_node_table.specs.Values.{Draw, Base, Free, OrderLine, Mail, Seat, Row}
use Rattle.sc_actor.specs.Definitions.{mails, value}
use Rattle.sc_meaning.specs.sound.SoundDefinitions.{Ahead, Player, Lawful, player_table, births, groups_at, decided_log}
use Rattle.sc_scenario.specs.declared.scenario.scenarios.Scenario.{Scenario}
use Rattle.sc_law_entries.specs.names.Owners.{Rows, Owned, drawn_at, owner_in}
use Rattle.sc_law_entries.specs.names.Names.{CoreNames, CommandNames, MailNames, PlayerNames}

-- a name is of no node, as those of a scenario's groups are, or these rows drew it
abbrev pub IsUsed : Ahead → Scenario → Rows → Draw → Type 0
IsUsed ahead scenario rows name = (name.node ≡ 0) ⊎ ((group : Draw) × (owner_in ahead scenario rows name ≡ Some group))

-- a group of a scenario begins with no lock, vote, decision or child, is not gone, and knows no name that nodes draw
pub record BeginsUndrawn (base : Base) : Type 0 where
  pub id : base.core.id.node ≡ 0
  pub succ : base.core.succ.group.node ≡ 0
  pub pred : base.core.pred.group.node ≡ 0
  pub free : base.core.lock ≡ Free
  pub decided : base.core.decided ≡ []
  pub voted : base.core.voted ≡ []
  pub born : base.core.born ≡ []
  pub here : base.core.gone ≡ None

-- all names in the mail of a journal, and in what its players keep, are of kind K
pub record AllNames (K : Draw → Type 0) (ahead : Ahead) (scenario : Scenario) (rows : Rows) : Type 0 where
  pub sent : Each (MailNames K) (mails rows)
  pub players : (seat : Seat Player) → Among seat (births ahead scenario) → PlayerNames K (value player_table seat rows)

-- all names in what the logs of a journal decided, and in the birth records of its groups, are of kind K
pub record AllDecided (K : Draw → Type 0) (ahead : Ahead) (scenario : Scenario) (rows : Rows) : Type 0 where
  pub groups : Each (λ (base : Base). CoreNames K base.core) (groups_at ahead scenario.groups rows)
  pub logs : (base : Base) → Each (CommandNames K) (decided_log ahead base rows)

-- in a lawful journal, whose groups begin with no name that nodes draw, each name is of the scenario or was drawn: in mail, in what players keep, in logs and in groups
abbrev pub NamesAreDrawn : Type 0
NamesAreDrawn = (ahead : Ahead) (words : ℕ → ℕ → ℕ × ℕ) (scenario : Scenario) → Each BeginsUndrawn scenario.groups → (rows : Rows) → Lawful ahead words scenario rows
    → AllNames (IsUsed ahead scenario rows) ahead scenario rows × AllDecided (IsUsed ahead scenario rows) ahead scenario rows

-- a name that a row draws after a lawful journal, whose groups begin with no name that nodes draw, was nowhere before the row
abbrev pub DrawnNamesAreNew : Type 0
DrawnNamesAreNew = (ahead : Ahead) (words : ℕ → ℕ → ℕ × ℕ) (scenario : Scenario) → Each BeginsUndrawn scenario.groups → (before : Rows) → Lawful ahead words scenario before
    → (row : Row Mail OrderLine) (owned : Owned) → Among owned (drawn_at ahead scenario before row) → AllNames (λ name. name ≡ owned.name → ⊥) ahead scenario before × AllDecided (λ name. name ≡ owned.name → ⊥) ahead scenario before
