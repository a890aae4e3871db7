use Rattle.std.proofs.Common.{◌≡◌, ◌++◌, false, Option, sym, subst, ap, ◌∙◌}
use Rattle.std.specs.Option.{option_to_list}
use Rattle.sc_base.specs.Definitions.{same_draw}
use Rattle.sc_base.specs.declared.names.Draw.{Draw}
use Rattle.sc_explain.specs.declared.facts.facts.RingGroup.{RingGroup}
use Rattle.sc_explain.proofs.RowsProofs.SaidStays.{said_here, said_still}
use Rattle.sc_explain.proofs.rows.following.add_said.Goals as goal

pub returns-then-stays : goal.returns-then-stays
returns-then-stays c = λ before entry is named by were.
    let name = c.args.name in
    let said = c.index-groups-place.result in
    let free = c.stays.ensures.kept c.if-stays.true in
    let was = said_here before c.args.groups.now c.in-Some.place said name were c.in-Some.ensures.near.0 c.index-groups-place.is (c.in-Some.ensures.near.1 said) in
    let now = said_still before c.args.world.now entry c.args.bound.now name said is by (subst (λ (d : Draw). same_draw name d ≡ false) named free.0) free.1 was in
    c.in_ok-push-in-Some.ensures.items ∙ ap (λ (o : Option RingGroup). c.args.after.now.items ++ option_to_list o) (sym now)
