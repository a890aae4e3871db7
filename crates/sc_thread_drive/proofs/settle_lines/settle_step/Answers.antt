use Rattle.std.proofs.Common.{inl, inr, subst}
use Rattle.sc_thread_drive.specs.Acts.{AfterTurn}
use Rattle.sc_thread_drive.specs.CompanyRows.{ActedByTurn}
use Rattle.sc_thread_drive.proofs.SettleSteps.{never_empty, never_spent}
use Rattle.sc_thread_drive.proofs.Settled.{full_settles, served_together, settled_one}
use Rattle.sc_thread_drive.proofs.settle_lines.settle_step.Goals as goal

pub act_by_turn-turn-requires-clause-inside : goal.act_by_turn-turn-requires-clause-inside
act_by_turn-turn-requires-clause-inside g c κs within = c.requires.finds.inside

pub placed-requires-clause-together : goal.placed-requires-clause-together
placed-requires-clause-together g c κs within =
    let old = c.args.company.now in let mid = c.act_by_turn-turn.new.company in
    served_together old mid c.args.place 1 c.in-Did.at c.requires.together (subst (λ turn. ActedByTurn c.args.place 1 turn old mid) c.in-Did.is c.act_by_turn-turn.ensures.served)

pub returns-in_ok-next-in-Did-clause-goes : goal.returns-in_ok-next-in-Did-clause-goes
returns-in_ok-next-in-Did-clause-goes g c =
    let old = c.args.company.now in let mid = c.act_by_turn-turn.new.company in
    settled_one old mid c.placed.new.company c.args.left c.args.place c.in-Did.at c.in_ok-next-in-Did.next c.requires.finds c.requires.left
    (subst (λ turn. ActedByTurn c.args.place 1 turn old mid) c.in-Did.is c.act_by_turn-turn.ensures.served) c.in_ok-next-in-Did.ensures.found

pub returns-in-Full-clause-fills : goal.returns-in-Full-clause-fills
returns-in-Full-clause-fills g c = λ _ _.
    let old = c.args.company.now in let mid = c.act_by_turn-turn.new.company in
    full_settles old mid c.args.left c.args.place c.in-Full.bytes c.requires.finds c.requires.left (subst (λ turn. ActedByTurn c.args.place 1 turn old mid) c.in-Full.is c.act_by_turn-turn.ensures.served)

pub unreachable-requires : goal.unreachable-requires
unreachable-requires g c =
    let net = c.args.company.now.net in let ss = c.args.company.now.shells.items in let mid = c.act_by_turn-turn.new.company.net in let mids = c.act_by_turn-turn.new.company.shells.items in let born = c.requires.staffed in
    let served : AfterTurn born.0 c.args.place 1 net mid ss mids c.act_by_turn-turn.result.0 = c.act_by_turn-turn.ensures.served.served born.0 born.1 in
    elim c.in-Empty.is [
      | inl empty ↦ never_empty born.0 net mid ss mids c.args.place born.1 c.requires.finds empty.0 (subst (AfterTurn born.0 c.args.place 1 net mid ss mids) empty.1 served)
      | inr spent ↦ never_spent born.0 net mid ss mids c.args.place born.1 c.requires.finds (subst (AfterTurn born.0 c.args.place 1 net mid ss mids) spent served)
    ]
