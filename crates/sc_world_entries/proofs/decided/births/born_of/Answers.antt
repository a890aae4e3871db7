use Rattle.std.proofs.Common.{◌++◌, List, fold, length, take, sym, ap, subst, ◌∙◌, arith, append-nil}
use Rattle.std.specs.List.{flat_map}
use Rattle.std.proofs.lemmas.List.{take_all}
use Rattle.sc_base.specs.Among.{Each}
use Rattle.sc_words.specs.declared.commands.cores.Base.{Base}
use Rattle.sc_meaning.specs.sound.GroupsOf.{with_birth}
use Rattle.sc_world_logs.specs.Known.{IsKnown}
use Rattle.sc_world_logs.specs.declared.known.Known.{Known}
use Rattle.sc_world_entries.specs.decided.Found.{AreKnown}
use Rattle.sc_world_entries.proofs.DecidedProofs.Families.{children_push}
use Rattle.sc_world_entries.proofs.decided.births.born_of.Goals as goal

pub loop-known-init : goal.loop-known-init
loop-known-init c = record {
  known = λ heard pool bases known. (subst (AreKnown c.args.rows.now bases) (sym (ap (λ (born : List Known). c.args.knowns.now ++ born) c.new-born.ensures.items ∙ append-nil c.args.knowns.now)) known, pool);
  none = λ none. c.new-born.ensures.items;
}

pub loop-known-preserved : goal.loop-known-preserved
loop-known-preserved c = record {
  known = λ heard pool bases known.
      let ks = c.args.newest.now in
      let i = c.loop-known.known-index in
      let so_far = c.loop-known.invariant.known heard pool bases known in
      let before = fold with_birth bases (flat_map (λ (k : Known). k.children.items) (take i ks)) in
      let one = c.in_ok-add_births.ensures heard so_far.1 before so_far.0 in
      let next = children_push bases ks i c.known-item.result (omega (arith, c.loop-known-test.true)) c.known-item.is ∙ ap (fold with_birth before) (sym c.as_slice-children.ensures.value) in
      (subst (λ (bs : List Base). AreKnown c.args.rows.now bs (c.args.knowns.now ++ c.add_births.new.born.items)) (sym next) one.0, one.1);
  none = λ none. absurd (omega (arith, c.loop-known-test.true, ap length none));
}

pub returns-clause-known : goal.returns-clause-known
returns-clause-known c = λ heard pool bases known.
    subst (λ (ks : List Known). AreKnown c.args.rows.now (fold with_birth bases (flat_map (λ (k : Known). k.children.items) ks)) (c.args.knowns.now ++ c.loop-known.born.items) × Each (IsKnown c.args.rows.now) c.loop-known.pool.items)
    (take_all c.loop-known.known-index c.args.newest.now (omega (arith, c.loop-known-test.false))) (c.loop-known.invariant.known heard pool bases known)
