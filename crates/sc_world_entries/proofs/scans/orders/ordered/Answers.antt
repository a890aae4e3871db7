use Rattle.std.proofs.Common.{◌≡◌, arith, subst, sym}
use Rattle.std.specs.Prelude.{AllPairs}
use Rattle.std.proofs.lemmas.Grind.{common_steps}
use Rattle.std.specs.Ordering.{nat_cmp}
use Rattle.std.specs.Cmp.Lexicographic.{slice_cmp}
use Rattle.sc_base.specs.Ascending.{IsAscending}
use Rattle.sc_world_entries.specs.scans.Order.{ordered, ComesBefore}
use Rattle.sc_world_entries.proofs.ScanProofs.Rising.{rises_from_start}
use Rattle.sc_world_entries.proofs.scans.orders.ordered.Goals as goal

pub returns-clause-rises : goal.returns-clause-rises
returns-clause-rises c =
    let is : c.add_low.new.list.items ≡ ordered c.args.part.now c.as_slice-all.result.now = grind (arith, common_steps, c.in_ok-add_low.ensures.list, c.in_ok-add_high.ensures.list) in
    subst (AllPairs (ComesBefore c.args.part.now)) (sym is)
    (rises_from_start c.args.part.now c.as_slice-all.result.now c.add_low.ensures.start (subst (λ es. IsAscending (slice_cmp nat_cmp) es) (sym c.as_slice-all.ensures.same) c.as_slice-all.ensures.ascending) c.have_texts.ensures)
