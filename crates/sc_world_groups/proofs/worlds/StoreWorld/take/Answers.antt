use Rattle.std.proofs.Common.{◌≡◌, List, Some, None, sym, ap, subst, ◌∙◌}
use Rattle.std.specs.Option.{option_map}
use Rattle.std.proofs.lemmas.Option.{none-some}
use Rattle.sc_words.specs.declared.commands.effects.Effect.{Effect}
use Rattle.sc_group_table.specs.machine.Group.{Group}
use Rattle.sc_group_table.specs.machine.Machine.{applied}
use Rattle.sc_meaning.specs.entries.Rings.{HaveArcs}
use Rattle.sc_meaning.specs.entries.Worlds.{StoreWorld, named_group, after_command}
use Rattle.sc_world_groups.specs.Places.{IsFirstNamed}
use Rattle.sc_world_groups.proofs.Executing.{item-at}
use Rattle.sc_world_groups.proofs.worlds.StoreWorld.take.Goals as goal

pub returns-in-None-clause-recorded : goal.returns-in-None-clause-recorded
returns-in-None-clause-recorded c =
    let none : named_group c.args.entry.now.group c.args.self.now.groups ≡ None =
    ap (λ (world : StoreWorld). named_group c.args.entry.now.group world.groups) (sym c.self.view_is) ∙ ap (named_group c.args.entry.now.group) (sym c.as_slice.ensures.value) ∙ c.in-None.ensures in (
      sym (ap (λ found. after_command c.args.self.now found c.args.entry.now.command) none),
      sym (ap (option_map (λ (group : Group). (applied group c.args.entry.now.command).1)) none),
    )

pub execute-requires : goal.execute-requires
execute-requires c =
    subst (λ (world : StoreWorld). IsFirstNamed c.args.entry.now.group world.groups c.in-Some.at) c.self.view_is
    (subst (λ (groups : List Group). IsFirstNamed c.args.entry.now.group groups c.in-Some.at) c.as_slice.ensures.value c.in-Some.ensures)

pub returns-in-Ok-clause-recorded : goal.returns-in-Ok-clause-recorded
returns-in-Ok-clause-recorded c =
    let entry = c.args.entry.now in let self = c.args.self.now in
    let stands : IsFirstNamed entry.group self.groups c.in-Some.at =
    subst (λ (world : StoreWorld). IsFirstNamed entry.group world.groups c.in-Some.at) c.self.view_is
    (subst (λ (groups : List Group). IsFirstNamed entry.group groups c.in-Some.at) c.as_slice.ensures.value c.in-Some.ensures) in
    let item = item-at self.groups c.in-Some.at stands.within in
    let found : named_group entry.group self.groups ≡ Some item.0 = stands.found ∙ item.1 in
    let made = c.in-Ok.ensures item.0 found in (
      made.0 ∙ sym (ap (λ o. after_command self o entry.command) found),
      ap (λ (effect : Effect). Some effect) made.1 ∙ sym (ap (option_map (λ (group : Group). (applied group entry.command).1)) found),
    )

pub returns-in-Err-clause-recorded : goal.returns-in-Err-clause-recorded
returns-in-Err-clause-recorded c = λ same arcs.
    let entry = c.args.entry.now in let self = c.args.self.now in
    let stands : IsFirstNamed entry.group self.groups c.in-Some.at =
    subst (λ (world : StoreWorld). IsFirstNamed entry.group world.groups c.in-Some.at) c.self.view_is
    (subst (λ (groups : List Group). IsFirstNamed entry.group groups c.in-Some.at) c.as_slice.ensures.value c.in-Some.ensures) in
    let item = item-at self.groups c.in-Some.at stands.within in
    let found : named_group entry.group self.groups ≡ Some item.0 = stands.found ∙ item.1 in
    c.in-Err.ensures same item.0 found (subst (λ (world : StoreWorld). HaveArcs world.ring) (ap (λ o. after_command self o entry.command) found) arcs)

pub returns-in-Err-clause-none : goal.returns-in-Err-clause-none
returns-in-Err-clause-none c = λ none.
    let entry = c.args.entry.now in let self = c.args.self.now in
    let stands : IsFirstNamed entry.group self.groups c.in-Some.at =
    subst (λ (world : StoreWorld). IsFirstNamed entry.group world.groups c.in-Some.at) c.self.view_is
    (subst (λ (groups : List Group). IsFirstNamed entry.group groups c.in-Some.at) c.as_slice.ensures.value c.in-Some.ensures) in
    let item = item-at self.groups c.in-Some.at stands.within in
    absurd (none-some item.0 (sym none ∙ stands.found ∙ item.1))
