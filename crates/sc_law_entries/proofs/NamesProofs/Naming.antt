-- The names that logs name: each was drawn for its group.
use Rattle.std.proofs.Common.{◌≡◌, ◌++◌, Some, inl, inr, sym, ◌∙◌, subst, arith}
use Rattle.std.proofs.lemmas.Option.{same_Some}
use Rattle.sc_node_table.specs.Values.{Draw, Command, Noop, Join, Leave, Split, Begin, GiveUp}
use Rattle.sc_words.proofs.PaxosProofs.PaxosLemmas.{Each-among}
use Rattle.sc_meaning.specs.sound.SoundDefinitions.{Ahead, decided_log}
use Rattle.sc_law_entries.specs.ring.RingDefinitions.{draw_of}
use Rattle.sc_scenario.specs.declared.scenario.scenarios.Scenario.{Scenario}
use Rattle.sc_law_entries.specs.names.NameDefinitions.{IsUsed, AllowedNamesAreDrawn, LoggedNamesAreDrawn, MoreOwnersAllow, CommandNames, Rows, owner_in}
use Rattle.sc_law_entries.proofs.RingProofs.RingLemmas.{owned}
use Rattle.sc_law_entries.proofs.NamesProofs.Counters.{owned_are_of_nodes}
use Rattle.sc_law_entries.proofs.NamesProofs.Fresh.{names_are_drawn}
use Rattle.sc_law_entries.proofs.NamesProofs.Owned.{owned_are_drawn, owned_later}

-- it is one of the command's names
is_named : (K : Draw → Type 0) (command : Command) (name : Draw) → CommandNames K command → draw_of command ≡ Some name → K name
is_named K (Split at child order) name c e = subst K (same_Some child name e) c
is_named K (Begin tx body order) name c e = subst K (same_Some tx name e) c.0
is_named K _ name c e = cc

pub allowed_are_drawn : AllowedNamesAreDrawn
allowed_are_drawn ahead scenario rows request stories group command name a e =
    let own = owned (record { owner = owner_in ahead scenario rows; request = request }) stories group command name a e in
    (owned_are_drawn ahead scenario rows name group own, (owned_are_of_nodes ahead scenario rows name group own).0)

used_by : (ahead : Ahead) (scenario : Scenario) (rows more : Rows) (name group : Draw) → IsUsed ahead scenario rows name → owner_in ahead scenario (rows ++ more) name ≡ Some group → owner_in ahead scenario rows name ≡ Some group
used_by ahead scenario rows more name group (inl none) own = (let low = (owned_are_of_nodes ahead scenario (rows ++ more) name group own).0 in absurd (omega (arith, none, low)))
used_by ahead scenario rows more name group (inr (other, has)) own = has ∙ (sym (owned_later ahead scenario rows more name other has) ∙ own)

pub logged_are_drawn : LoggedNamesAreDrawn
logged_are_drawn ahead words scenario begins rows more lawful base command among request stories group name a e =
    let named = names_are_drawn ahead words scenario begins rows lawful in
    let used = is_named (IsUsed ahead scenario rows) command name (Each-among (CommandNames (IsUsed ahead scenario rows)) (decided_log ahead base rows) command (named.1.logs base) among) e in
    owned_are_drawn ahead scenario rows name group
    (used_by ahead scenario rows more name group used (owned (record { owner = owner_in ahead scenario (rows ++ more); request = request }) stories group command name a e))

pub more_owners_allow : MoreOwnersAllow
more_owners_allow ahead scenario rows more request stories group (Split at child order) a = (owned_later ahead scenario rows more child group a.0, a.1)
more_owners_allow ahead scenario rows more request stories group (Begin tx body order) a = (owned_later ahead scenario rows more tx group a.0, a.1)
more_owners_allow ahead scenario rows more request stories group Noop a = tt
more_owners_allow ahead scenario rows more request stories group (Join node order) a = tt
more_owners_allow ahead scenario rows more request stories group (Leave node order) a = tt
more_owners_allow ahead scenario rows more request stories group (GiveUp tx) a = tt
more_owners_allow ahead scenario rows more request stories group _ a = a
