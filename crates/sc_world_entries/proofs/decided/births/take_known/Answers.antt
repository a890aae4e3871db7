use Rattle.std.proofs.Common.{◌<◌, List, get_or, length, sym, ap, subst, ◌∙◌, arith}
use Rattle.sc_base.specs.Among.{Each}
use Rattle.sc_world_logs.specs.Known.{IsKnown}
use Rattle.sc_world_logs.specs.declared.known.Known.{Known}
use Rattle.sc_world_entries.proofs.DecidedProofs.Pools.{each_at, each_left}
use Rattle.sc_world_entries.proofs.decided.births.take_known.Goals as goal

pub returns-in-Some : goal.returns-in-Some
returns-in-Some c = λ heard pool.
    let ks = c.args.pool.now.items in let known = c.swap_remove.result in let at = c.in-Some.at in
    let within : at < length ks = omega (arith, c.in-Some.ensures.0, ap length c.as_slice.ensures.value) in (
      subst (IsKnown c.args.rows.now) (sym c.swap_remove.ensures.value) (each_at (IsKnown c.args.rows.now) ks at known within pool),
      ap (λ (k : Known). k.base) (c.swap_remove.ensures.value ∙ ap (λ (xs : List Known). get_or xs at known) (sym c.as_slice.ensures.value)) ∙ c.in-Some.ensures.1 known,
      subst (Each (IsKnown c.args.rows.now)) (sym c.swap_remove.ensures.items) (each_left (IsKnown c.args.rows.now) ks at known within pool),
    )

pub returns-in_ok-known-in-None : goal.returns-in_ok-known-in-None
returns-in_ok-known-in-None c = λ heard pool.
    let one = c.in_ok-known-in-None.ensures heard in
    (one.0, one.1 ∙ c.in_ok-copy-in-None.ensures, pool)
