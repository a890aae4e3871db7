use Rattle.std.proofs.Common.{◌≡◌, ◌+◌, ◌++◌, ◌∷◌, [], List, cond, arith, subst, sym, ◌∙◌, ap, take}
use Rattle.std.proofs.lemmas.List.{take_all, take_more}
use Rattle.sc_base.specs.declared.names.Draw.{Draw}
use Rattle.sc_group_table.specs.machine.MachineDefinitions.{Group}
use Rattle.sc_explain.specs.rows.Said.{AreByLog, bound_names, is_bound}
use Rattle.sc_explain.proofs.RowsProofs.SaidStays.{none_bound, names_more}
use Rattle.sc_explain.proofs.rows.following.bound_in.Goals as goal

pub loop-group-init : goal.loop-group-init
loop-group-init c = (subst (AreByLog []) (sym c.new-bound.ensures.items) none_bound, c.new-bound.ensures.items)

pub loop-group-preserved : goal.loop-group-preserved
loop-group-preserved c =
    let groups = c.groups-groups.result.now in let i = c.loop-group.group-index in let group : Group = c.group-item.result in
    let more : take i groups ++ group ∷ [] ≡ take (i + 1) groups = sym (take_more groups i group (omega (arith, c.loop-group-test.true)) ∙ ap (λ (g : Group). take i groups ++ g ∷ []) (sym c.group-item.is)) in (
      subst (λ (gs : List Group). AreByLog gs c.add_bound.new.bound.items) more (c.in_ok-add_bound.ensures.kept (take i groups) c.loop-group.invariant.0),
      c.in_ok-add_bound.ensures.exact ∙ (ap (λ (ns : List Draw). cond (is_bound group.core.lock) (ns ++ group.core.id ∷ []) ns) c.loop-group.invariant.1 ∙ (sym (names_more (take i groups) group) ∙ ap bound_names more)),
    )

pub returns-clause-kept : goal.returns-clause-kept
returns-clause-kept c =
    subst (λ (gs : List Group). AreByLog gs c.loop-group.bound.items)
    (take_all c.loop-group.group-index c.groups-groups.result.now (omega (arith, c.loop-group-test.false)) ∙ c.groups-groups.ensures) c.loop-group.invariant.0

pub returns-clause-exact : goal.returns-clause-exact
returns-clause-exact c = c.loop-group.invariant.1 ∙ ap bound_names (take_all c.loop-group.group-index c.groups-groups.result.now (omega (arith, c.loop-group-test.false)) ∙ c.groups-groups.ensures)
