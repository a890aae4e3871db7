use Rattle.std.proofs.Common.{sym, ap, ◌∙◌}
use Rattle.std.specs.List.{list_any}
use Rattle.sc_base.specs.Same.{same_draw}
use Rattle.sc_world_entries.proofs.DecidedProofs.Hearing.{unheard_apart, unheard_push, unheard_still}
use Rattle.sc_world_entries.proofs.decided.births.add_name.Goals as goal

pub returns-then-has_name : goal.returns-then-has_name
returns-then-has_name c = λ acceptance rows after adds heard all other none.
    let there = sym (c.has_name.ensures ∙ ap (list_any (same_draw c.args.name)) c.as_slice.ensures.value) ∙ c.if-has_name.true in
    unheard_still rows after c.args.name other acceptance adds (unheard_apart c.args.heard.now.names.items c.args.name other there none) (heard all other none)

pub returns : goal.returns
returns c = λ acceptance rows after adds heard all other none.
    let parts = unheard_push c.args.heard.now.names.items c.args.name other (sym (ap (list_any (same_draw other)) c.in_ok-push.ensures.items) ∙ none) in
    unheard_still rows after c.args.name other acceptance adds parts.1 (heard all other parts.0)
