use Rattle.std.proofs.Common.{◌+◌, [], ◌∷◌, ◌++◌, List, length, take, refl, arith, sym, ap, subst, ◌∙◌}
use Rattle.std.proofs.lemmas.List.{take_all}
use Rattle.sc_base.specs.Among.{Each}
use Rattle.sc_words.specs.declared.commands.cores.Base.{Base}
use Rattle.sc_world_logs.specs.Known.{IsKnown}
use Rattle.sc_world_logs.specs.declared.known.Known.{Known}
use Rattle.sc_world_entries.specs.decided.Found.{AreKnown}
use Rattle.sc_world_entries.proofs.DecidedProofs.Families.{first_push}
use Rattle.sc_world_entries.proofs.decided.births.first_knowns.Goals as goal

pub loop-base-init : goal.loop-base-init
loop-base-init c = record {
  known = λ heard pool. (subst (AreKnown c.args.rows.now []) (sym c.new-knowns.ensures.items) (record { bases_are = refl; each = tt }), pool);
  none = λ none. c.new-knowns.ensures.items;
}

pub loop-base-preserved : goal.loop-base-preserved
loop-base-preserved c = record {
  known = λ heard pool.
      let so_far = c.loop-base.invariant.known heard pool in
      let one = c.in_ok-known.ensures heard so_far.1 in (
        subst (AreKnown c.args.rows.now (take (c.loop-base.base-index + 1) c.args.bases.now)) (sym (c.in_ok-push.ensures.items ∙ ap (λ (ks : List Known). ks ++ c.in_ok-known.known ∷ []) c.in_ok-reserve.ensures.items))
            (first_push c.args.rows.now c.args.bases.now c.loop-base.base-index c.loop-base.knowns.items c.base-item.result _ (omega (arith, c.loop-base-test.true)) c.base-item.is so_far.0
            one.0 one.1),
        one.2,
      );
  none = λ none. absurd (omega (arith, c.loop-base-test.true, ap length none));
}

pub returns-clause-known : goal.returns-clause-known
returns-clause-known c = λ heard pool.
    subst (λ (bases : List Base). AreKnown c.args.rows.now bases c.loop-base.knowns.items × Each (IsKnown c.args.rows.now) c.loop-base.pool.items)
    (take_all c.loop-base.base-index c.args.bases.now (omega (arith, c.loop-base-test.false))) (c.loop-base.invariant.known heard pool)

pub returns-clause-none : goal.returns-clause-none
returns-clause-none c = λ none. (c.loop-base.invariant.none none, refl)
