use Rattle.std.proofs.Common.{◌≡◌, ◌<◌, ◌∷◌, ◌++◌, false, length}
use Rattle.sc_base.specs.Among.{Each}
use Rattle.sc_json_fast.specs.Prefixes.{IsOnly}
use Rattle.sc_json_fast.proofs.ListTexts.{prefix}
use Rattle.sc_json_fast.proofs.lists.items_at.Given as goal

abbrev pub invariant-loop-more : goal.invariant-loop-more
invariant-loop-more g l = record {
  text : l.bytes ≡ 91 ∷ (prefix g.T.FromText.json_of g.T.FromText.Fits false l.items ++ l.rest);
  some : 0 < length l.items;
  known : Each (IsOnly g.T.FromText.json_of g.T.FromText.Fits) l.items;
}

abbrev pub decreases-loop-more : goal.decreases-loop-more
decreases-loop-more g l = length l.rest
