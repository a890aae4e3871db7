use Rattle.std.proofs.Common.{◌≡◌, ℕ, ◌<◌, ◌^◌, true, take}
use Rattle.std.specs.Prelude.{slice_index_or}
use Rattle.std.specs.List.{list_all}
use Rattle.sc_base.specs.Arc.{IsArc}
use Rattle.sc_meaning.specs.declared.entries.Cut.{Cut}
use Rattle.sc_world_checks.specs.Covering.{is_followed}
use Rattle.sc_world_checks.proofs.covering.are_followed.Given as goal

-- those so far are, and their arcs are arcs
abbrev pub invariant-loop-cut : goal.invariant-loop-cut
invariant-loop-cut l = record {
  followed : list_all (is_followed l.ring) (take l.cut-index l.ring) ≡ true;
  arcs : (k : ℕ) (d : Cut) → k < l.cut-index → IsArc (slice_index_or l.ring k d).arc × ((slice_index_or l.ring k d).arc.lo < 2 ^ 32);
}
