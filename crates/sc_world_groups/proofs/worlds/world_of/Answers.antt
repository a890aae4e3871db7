use Rattle.std.proofs.Common.{◌≡◌, suc, List, take, drop, sym, ap, ◌∙◌, subst, arith}
use Rattle.std.proofs.lemmas.List.{take-append-drop}
use Rattle.sc_words.specs.declared.commands.cores.Base.{Base}
use Rattle.sc_meaning.specs.entries.Rings.{HaveArcs}
use Rattle.sc_meaning.specs.entries.Worlds.{StoreWorld, named_group, recorded, world_of}
use Rattle.sc_world_groups.proofs.FirstEntries.{none_told, told_next}
use Rattle.sc_world_groups.proofs.worlds.world_of.Goals as goal

pub unreachable-requires : goal.unreachable-requires
unreachable-requires c =
    let es = c.args.entries.now in
    let i = c.loop-entry.entry-index in
    let entry = c.entry-item.result in
    let next : world_of c.args.bases.now (take (suc i) es) ≡ recorded c.loop-entry.world entry =
    told_next c.args.bases.now es i entry c.loop-entry.world (omega (arith, c.loop-entry-test.true)) c.entry-item.is c.loop-entry.invariant in
    let covers = c.requires (take (suc i) es) (drop (suc i) es) (sym (take-append-drop (suc i) es)) in
    c.in-Err-NoArc.ensures.recorded c.in-Err-NoArc.field-0-is (subst (λ (world : StoreWorld). HaveArcs world.ring) next covers.arcs)

pub returns-in-Err-OutOfMemory-clause-none : goal.returns-in-Err-OutOfMemory-clause-none
returns-in-Err-OutOfMemory-clause-none c = λ none.
    let es = take c.loop-entry.entry-index c.args.entries.now in
    let empty = c.loop-entry.invariant ∙ ap (λ (bases : List Base). world_of bases es) none ∙ none_told es in
    c.in-Err-OutOfMemory.ensures.none (ap (λ (world : StoreWorld). named_group c.entry-item.result.group world.groups) empty)
