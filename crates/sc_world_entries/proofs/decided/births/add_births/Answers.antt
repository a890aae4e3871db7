use Rattle.std.proofs.Common.{◌++◌, List, fold, take, sym, subst, arith}
use Rattle.std.proofs.lemmas.List.{take_all}
use Rattle.sc_base.specs.Among.{Each}
use Rattle.sc_words.specs.declared.commands.cores.Base.{Base}
use Rattle.sc_meaning.specs.sound.GroupsOf.{with_birth}
use Rattle.sc_world_logs.specs.Known.{IsKnown}
use Rattle.sc_world_entries.specs.decided.Found.{AreKnown}
use Rattle.sc_world_entries.proofs.DecidedProofs.Families.{births_push}
use Rattle.sc_world_entries.proofs.decided.births.add_births.Goals as goal

pub loop-child-init : goal.loop-child-init
loop-child-init c = λ heard pool bases known. (known, pool)

pub loop-child-preserved : goal.loop-child-preserved
loop-child-preserved c = λ heard pool bases known.
    let cs = c.args.children.now in
    let i = c.loop-child.child-index in
    let so_far = c.loop-child.invariant heard pool bases known in
    let one = c.in_ok-add_birth.ensures heard so_far.1 (fold with_birth bases (take i cs)) so_far.0 in
    let next = births_push bases cs i c.child-item.result (omega (arith, c.loop-child-test.true)) c.child-item.is in
    (subst (λ (bs : List Base). AreKnown c.args.rows.now bs (c.args.knowns.now ++ c.add_birth.new.born.items)) (sym next) one.0, one.1)

pub returns : goal.returns
returns c = λ heard pool bases known.
    subst (λ (cs : List Base). AreKnown c.args.rows.now (fold with_birth bases cs) (c.args.knowns.now ++ c.loop-child.born.items) × Each (IsKnown c.args.rows.now) c.loop-child.pool.items)
    (take_all c.loop-child.child-index c.args.children.now (omega (arith, c.loop-child-test.false))) (c.loop-child.invariant heard pool bases known)
