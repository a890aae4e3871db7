use Rattle.std.proofs.Common.{sym, ◌∙◌}
use Rattle.std.proofs.lemmas.List.{take-append-drop}
use Rattle.sc_json_fast.proofs.Bare.{bare_string}
use Rattle.sc_json_fast.proofs.texts.string_at.Goals as goal

pub returns-then-are_bare : goal.returns-then-are_bare
returns-then-are_bare c =
    bare_string c.args.bytes.now c.split_at.result.0.now c.in_ok-inner.inner.now c.split_at.result.1.now c.in_ok-rest.rest.now
    (sym c.are_bare.ensures ∙ c.if-are_bare.true)
    c.in_ok-inner.ensures
    (let whole = take-append-drop c.quote_at.result c.in_ok-inner.inner.now in
    let prefix = c.split_at.ensures.front in
    let back = c.split_at.ensures.back in
    cc)
    c.in_ok-rest.ensures
