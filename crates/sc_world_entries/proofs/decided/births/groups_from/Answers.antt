use Rattle.std.proofs.Common.{◌≡◌, ℕ, suc, ◌+◌, List, length, true, false, take, arith, subst, sym}
use Rattle.sc_meaning.specs.sound.Players.{as_nodes}
use Rattle.sc_meaning.specs.sound.GroupsOf.{with_descendants}
use Rattle.sc_world_entries.specs.decided.Found.{AreKnown, HaveChildrenOf}
use Rattle.sc_world_logs.specs.declared.known.Known.{Known}
use Rattle.sc_world_entries.proofs.DecidedProofs.Families.{found_all}
use Rattle.sc_world_entries.proofs.decided.births.groups_from.Goals as goal

pub returns-then-were-clause-tracked : goal.returns-then-were-clause-tracked
returns-then-were-clause-tracked c = λ heard pool.
    let so_far = c.loop-round.invariant.known heard pool in
    let looked = c.in_ok-were.ensures.known heard so_far.1 (with_descendants as_nodes c.args.rows.now c.loop-round._round c.args.bases.now) so_far.0 so_far.2 in
    found_all c.args.rows.now c.args.bases.now c.loop-round._round _ (omega (arith, c.loop-round-test.true)) looked.0 (looked.1 c.if-were.true)

pub loop-round-preserved : goal.loop-round-preserved
loop-round-preserved c = record {
  known = λ heard pool.
      let so_far = c.loop-round.invariant.known heard pool in
      let looked = c.in_ok-were.ensures.known heard so_far.1 (with_descendants as_nodes c.args.rows.now c.loop-round._round c.args.bases.now) so_far.0 so_far.2 in
      let one : suc c.loop-round._round ≡ c.loop-round._round + 1 = omega arith in (
        subst (λ (n : ℕ). AreKnown c.args.rows.now (with_descendants as_nodes c.args.rows.now n c.args.bases.now) c.look_on.new.knowns.items) one looked.0,
        looked.2,
        subst (λ (n : ℕ). HaveChildrenOf (with_descendants as_nodes c.args.rows.now n c.args.bases.now) (take (length c.as_slice-kept.result.now) c.look_on.new.knowns.items)) one
            (subst (λ (ks : List Known). HaveChildrenOf (with_descendants as_nodes c.args.rows.now (suc c.loop-round._round) c.args.bases.now) (take (length ks) c.look_on.new.knowns.items)) (sym c.as_slice-kept.ensures.value) looked.3),
      );
  none = λ none. (c.in_ok-were.ensures.none (c.loop-round.invariant.none none)).0;
}

pub returns-clause-tracked : goal.returns-clause-tracked
returns-clause-tracked c = λ heard pool.
    let last : c.loop-round._round ≡ length c.args.rows.now = omega arith in
    record {
      known = subst (λ (n : ℕ). AreKnown c.args.rows.now (with_descendants as_nodes c.args.rows.now n c.args.bases.now) c.loop-round.knowns.items) last (c.loop-round.invariant.known heard pool).0;
      settled = λ t. let never : false ≡ true = t in absurd (cc);
    }
