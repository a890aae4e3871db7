use Rattle.std.proofs.Common.{sym}
use Rattle.std.proofs.lemmas.List.{take-append-drop}
use Rattle.sc_json_fast.proofs.NumberDigits.{spelled}
use Rattle.sc_json_fast.proofs.numbers.number_at.Goals as goal

pub returns-clause-text : goal.returns-clause-text
returns-clause-text c =
    let number = spelled c.split_at.result.0.now c.args.most c.in_ok-number.number c.requires (sym c.in_ok-number.ensures) in
    let whole = take-append-drop c.digit_count.result c.args.bytes.now in
    let prefix = c.split_at.ensures.front in
    let back = c.split_at.ensures.back in
    cc (number.0)

pub returns-clause-within : goal.returns-clause-within
returns-clause-within c = (spelled c.split_at.result.0.now c.args.most c.in_ok-number.number c.requires (sym c.in_ok-number.ensures)).1
