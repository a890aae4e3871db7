use Rattle.std.proofs.Common.{ap, sym, ◌∙◌, Some, length, refl, arith, ◌-◌, List, ℕ}
use Rattle.std.proofs.lemmas.Option.{get_or_from_slice_get, slice_get_read}
use Rattle.sc_paxos_law.specs.Decided.{chosen_at}
use Rattle.sc_world_logs.specs.Acceptances.{steps_of}
use Rattle.sc_world_logs.specs.Known.{kept_of}
use Rattle.sc_world_logs.proofs.Grown.{slot_is}
use Rattle.sc_world_logs.proofs.known.is_still_chosen.Goals as goal

pub returns-in-Some : goal.returns-in-Some
returns-in-Some c = λ still found members indexed is.
    let k = c.args.known.now in
    let at = c.at_slot-found.result.now in
    slot_is members (kept_of k) c.args.slot found at indexed c.at_slot-found.ensures
    ∙ ap (λ (ms : List ℕ). chosen_at ms (steps_of at) c.args.slot) (sym (c.index.ensures ∙ get_or_from_slice_get k.members.items (c.args.slot - 1) members c.index.result.now is))
    ∙ sym c.in-Some.ensures ∙ ap Some (c.is_same.ensures.0 still)
    ∙ sym (slice_get_read k.log.items (length k.log.items) (c.args.slot - 1) c.index-in-Some.result.now refl (omega (arith, c.requires)) c.index-in-Some.ensures)
