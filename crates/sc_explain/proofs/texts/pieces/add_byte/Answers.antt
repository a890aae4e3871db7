use Rattle.std.proofs.Common.{◌≡◌, ◌++◌, List, ℕ, ap, sym, subst, ◌∙◌}
use Rattle.std.specs.Prelude.{OnOk}
use Rattle.sc_explain.proofs.TextsProofs.Strings.{marked_byte, plain_byte}
use Rattle.sc_explain.proofs.texts.pieces.add_byte.Goals as goal

pub returns-then-byte-eq34 : goal.returns-then-byte-eq34
returns-then-byte-eq34 c =
    subst (λ (t : List ℕ). OnOk c.add_word.result (c.add_word.new.text.items ≡ c.args.text.now.items ++ t)) (sym (marked_byte c.args.byte c.then-byte-eq34.either)) c.add_word.ensures

pub returns : goal.returns
returns c = c.in_ok-push.ensures.items ∙ ap (λ (t : List ℕ). c.args.text.now.items ++ t) (sym (plain_byte c.args.byte c.requires c.if-byte-eq34.false c.if-byte-eq92.false))
