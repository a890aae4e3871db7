use Rattle.std.proofs.Common.{sym, subst, ◌∙◌}
use Rattle.sc_linear_answer.specs.Keys.{HasKeys, with_key}
use Rattle.sc_linear_answer.proofs.KeyLemmas.{joined, noted}
use Rattle.sc_linear_answer.proofs.keys.note.Goals as goal

pub returns-in_ok-insert : goal.returns-in_ok-insert
returns-in_ok-insert c = λ before has.
    subst (λ act. HasKeys c.insert.new.self (with_key before act)) (sym c.in-Begin.is)
    (subst (λ key. HasKeys c.insert.new.self (joined before key)) (c.bytes.ensures.same ∙ c.key.ensures)
    (noted c.args.keys.now c.insert.new.self c.bytes.result c.in_ok-insert.field-0 before has c.in_ok-insert.ensures.updates.0 c.in_ok-insert.ensures.added c.in_ok-insert.ensures.len))
