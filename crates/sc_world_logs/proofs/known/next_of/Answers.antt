use Rattle.std.proofs.Common.{◌+◌, length, Some, sym, ap, ◌∙◌}
use Rattle.sc_world_logs.specs.Known.{kept_of}
use Rattle.sc_world_logs.proofs.Grown.{next_is}
use Rattle.sc_world_logs.proofs.known.next_of.Goals as goal

pub returns-in-None : goal.returns-in-None
returns-in-None c = λ h agrees.
    next_is h c.args.known.now.base (kept_of c.args.known.now) c.args.known.now.log.items c.args.known.now.members.items c.args.known.now.state c.args.known.now.behind c.in_ok-slot.slot
    c.at_slot-found.result.now c.core.result.now.members agrees (c.in_ok-slot.ensures.slot ∙ ap (λ xs. length xs + 1) c.as_slice.ensures.value) c.at_slot-found.ensures (ap (λ core. core.members) c.core.ensures)
    ∙ sym c.in-None.ensures

pub returns-in_ok-dup-in-Some : goal.returns-in_ok-dup-in-Some
returns-in_ok-dup-in-Some c = λ h agrees.
    next_is h c.args.known.now.base (kept_of c.args.known.now) c.args.known.now.log.items c.args.known.now.members.items c.args.known.now.state c.args.known.now.behind c.in_ok-slot.slot
    c.at_slot-found.result.now c.core.result.now.members agrees (c.in_ok-slot.ensures.slot ∙ ap (λ xs. length xs + 1) c.as_slice.ensures.value) c.at_slot-found.ensures (ap (λ core. core.members) c.core.ensures)
    ∙ sym c.in-Some.ensures ∙ ap Some (sym c.in_ok-dup-in-Some.ensures)
