use Rattle.std.proofs.Common.{rules, ◌≡◌, length, inl, inr, arith}
use Rattle.sc_thread_ledger.proofs.Homing.{none_past}
use Rattle.sc_thread_ledger.proofs.ledger.Ledger.mail.Goals.{then-number-eq0-via-then-number-eq0, then-number-eq0-via-else-number-eq0+then-number-len}
use Rattle.sc_thread_ledger.proofs.ledger.Ledger.mail.Goals as goal

pub returns-then-number-eq0 : goal.returns-then-number-eq0
returns-then-number-eq0 g c = let s = c.args.self.now in
    none_past s.rows.items s.homes.items c.args.number s.homed
    (elim c.then-number-eq0.branch [
      | then-number-eq0-via-then-number-eq0 w ↦ inl w.if-number-eq0.true
      | then-number-eq0-via-else-number-eq0+then-number-len w ↦ inr (let l : w.len.result ≡ length s.homes.items = search rules in omega (arith, l, w.if-number-len.true))
    ])
