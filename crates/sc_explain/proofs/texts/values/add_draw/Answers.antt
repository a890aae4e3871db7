use Rattle.std.proofs.Common.{◌≡◌, List, ℕ, subst, arith}
use Rattle.std.specs.Prelude.{OnOk}
use Rattle.sc_explain.proofs.TextsProofs.Pieces.{draw_text}
use Rattle.sc_explain.proofs.texts.values.add_draw.Goals as goal

pub returns : goal.returns
returns c =
    subst (λ (t : List ℕ). OnOk c.add_word.result (c.add_word.new.text.items ≡ t))
    (draw_text c.args.text.now.items c.add_next.new.text.items c.add_next-2.new.text.items (record { node = c.args.node; count = c.args.count }) (omega (arith, c.ranges.node)) (omega (arith, c.ranges.count))
    c.in_ok-add_next.ensures c.in_ok-add_next-2.ensures)
    c.add_word.ensures
