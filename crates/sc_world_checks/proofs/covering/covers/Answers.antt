use Rattle.std.proofs.Common.{◌≡◌, ◌≤◌, true, false, length, sym, ◌∙◌}
use Rattle.sc_world_checks.proofs.Circle.{no_cover, covers_all, some_of}
use Rattle.sc_world_checks.specs.Covering.{are_others}
use Rattle.sc_world_checks.proofs.covering.covers.Goals as goal

pub returns-then-not-are_others : goal.returns-then-not-are_others
returns-then-not-are_others c =
    let fails : are_others c.args.ring.now ≡ false = sym c.are_others.ensures ∙ c.if-not-are_others.true in (
      (λ t. let no : false ≡ true = t in cc),
      (λ covers. absurd (no_cover c.args.ring.now fails covers)),
    )

pub returns : goal.returns
returns c =
    let some : 1 ≤ length c.args.ring.now = some_of (length c.args.ring.now) c.is_empty.result c.is_empty.ensures c.if-is_empty.false in
    covers_all c.args.ring.now c.are_followed.result some (sym c.are_others.ensures ∙ c.if-not-are_others.false) c.are_followed.ensures.value c.are_followed.ensures.arcs
