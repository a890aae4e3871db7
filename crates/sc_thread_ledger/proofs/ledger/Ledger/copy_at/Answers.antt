use Rattle.std.proofs.Common.{rules, ◌≡◌, length, vec_len, arith, ap, sym, ◌∙◌, Some}
use Rattle.sc_thread_ledger.proofs.Homing.{home_inside, first_inside, first_below, mail_within, mail_same}
use Rattle.sc_thread_ledger.proofs.ledger.Ledger.copy_at.Goals as goal

pub index-requires-2 : goal.index-requires-2
index-requires-2 g c = let s = c.args.self.now in
    let l : vec_len s.firsts ≡ length s.firsts.items = search rules in
    omega (arith, l, first_inside s.rows.items s.homes.items s.firsts.items c.args.place s.homed s.begun c.requires c.index.result.now c.index.ensures)

pub index-row-requires : goal.index-row-requires
index-row-requires g c = let s = c.args.self.now in
    let l : vec_len s.rows ≡ length s.rows.items = search rules in
    omega (arith, l, home_inside s.rows.items s.homes.items s.firsts.items c.args.place s.homed s.begun c.requires c.index.result.now c.index.ensures)

pub overflow_sub-place : goal.overflow_sub-place
overflow_sub-place g c = let s = c.args.self.now in
    omega (arith, first_below s.rows.items s.homes.items s.firsts.items c.args.place s.homed s.begun c.requires c.index.result.now c.index.ensures c.index-2.result.now c.index-2.ensures)

pub at-requires : goal.at-requires
at-requires g c = let s = c.args.self.now in
    mail_within s.rows.items s.homes.items s.firsts.items c.args.place s.homed s.begun c.requires c.index.result.now c.index.ensures c.index-2.result.now c.index-2.ensures c.index-row.result.now c.index-row.ensures

pub returns : goal.returns
returns g c = let s = c.args.self.now in
    mail_same s.rows.items s.homes.items s.firsts.items c.args.place s.homed s.begun c.requires c.index.result.now c.index.ensures c.index-2.result.now c.index-2.ensures c.index-row.result.now c.index-row.ensures c.in_ok-dup.field-0 (c.at.ensures ∙ ap Some (sym c.in_ok-dup.ensures))
