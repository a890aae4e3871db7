use Rattle.std.proofs.Common.{◌<◌, [], ◌∷◌, length, get_or, sym, ap, ◌∙◌, subst, subst₂, arith}
use Rattle.sc_linear.specs.Trails.{path_at}
use Rattle.sc_linear.specs.Standing.{Stands, start_entry}
use Rattle.sc_linear.specs.Moves.{line_after}
use Rattle.sc_linear.specs.Front.{IsFront}
use Rattle.sc_linear.proofs.FrontLemmas.{start_front, whole_front}
use Rattle.sc_linear.proofs.searches.search.Goals as goal

pub loop-at-init : goal.loop-at-init
loop-at-init c =
    let rs = c.args.requests.now in
    let ms = c.args.moves.now in
    let one : 0 < 1 = omega arith in
    record {
      front = subst₂ (λ s t. IsFront rs ms 0 c.new-under.result.items s t) (sym c.in_ok-seen.ensures) (sym c.new-trail.ensures) (subst (λ u. IsFront rs ms 0 u (start_entry ∷ []) ([] ∷ [])) (sym c.new-under.ensures.items) (start_front rs ms));
      some = subst (λ s. 0 < length s) (sym c.in_ok-seen.ensures) one;
    }

pub returns : goal.returns
returns c =
    let rs = c.args.requests.now in
    let ms = c.args.moves.now in
    let w = whole_front rs ms c.loop-at.at c.loop-at.under.items c.loop-at.seen c.loop-at.trail c.loop-at.invariant.front (omega arith) c.loop-at.invariant.some in
    ((get_or c.loop-at.seen 0 start_entry).0, subst (λ p. Stands rs (line_after ms) (get_or c.loop-at.seen 0 start_entry).0 p) (sym (c.in_ok-read.ensures ∙ ap (path_at c.loop-at.trail) c.path.ensures)) w.stands)
