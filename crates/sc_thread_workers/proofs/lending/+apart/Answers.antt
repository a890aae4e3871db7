use Rattle.std.proofs.Common.{◌≡◌, ◌∙◌, length, subst, sym, ap, arith}
use Rattle.sc_thread_work.specs.lend.Lending.{IsLentUnder}
use Rattle.sc_thread_work.specs.lend.Offices.{lent_by}
use Rattle.sc_thread_workers.specs.Crews.{AllTook}
use Rattle.sc_thread_workers.specs.Runs.{RunTook}
use Rattle.sc_thread_workers.proofs.Cutting.{few_lent}
use Rattle.sc_thread_workers.proofs.Joining.{took_parts, parts_length}
use Rattle.sc_thread_workers.proofs.Sending.{sent_later}
use Rattle.sc_thread_workers.proofs.lending.+apart.Goals as goal

pub join-requires-clause-fits : goal.join-requires-clause-fits
join-requires-clause-fits g t c =
    let sent = sent_later (lent_by c.send-sent.new.lender) (lent_by c.apart.new.lender) (record { shells = c.in-Ok.last }) c.send-sent.result c.apart.ensures.later c.send-sent.ensures.sent in
    let run : RunTook (record { shells = c.in-Ok.last }) c.fetch-run.result = c.fetch-run.ensures.back (record { shells = c.in-Ok.last }) sent in
    omega (arith, run.len, c.fetch-run.result.shells.ok.0, c.in-Ok.last.ok.0, c.apart.ensures.len, c.apart.ensures.capacity, c.apart.new.shells.ok.0, c.split_off.new.self.ok.0, c.split_off.ensures.capacity, c.in-Ok.ensures.tail_len, c.in-Ok.ensures.len, c.args.shells.now.ok.1)

pub returns-clause-later : goal.returns-clause-later
returns-clause-later g t c = λ n x e.
    subst (λ l. IsLentUnder l n x) (sym c.fetch-run.ensures.same) (c.apart.ensures.later n x (c.send-sent.ensures.later n x e))

pub returns-clause-len : goal.returns-clause-len
returns-clause-len g t c =
    let sent = sent_later (lent_by c.send-sent.new.lender) (lent_by c.apart.new.lender) (record { shells = c.in-Ok.last }) c.send-sent.result c.apart.ensures.later c.send-sent.ensures.sent in
    let run : RunTook (record { shells = c.in-Ok.last }) c.fetch-run.result = c.fetch-run.ensures.back (record { shells = c.in-Ok.last }) sent in
    ap length c.join.ensures.items ∙ parts_length c.last_start-cut.result c.args.shells.now.items c.apart.new.shells.items c.fetch-run.result.shells.items (c.apart.ensures.len ∙ ap length c.in-Ok.ensures.items) (run.len ∙ ap length c.in-Ok.ensures.tail)

pub returns-clause-took : goal.returns-clause-took
returns-clause-took g t c =
    let ss = c.args.shells.now.items in let prefix = c.apart.new.shells.items in let back = c.fetch-run.result.shells.items in
    let sent = sent_later (lent_by c.send-sent.new.lender) (lent_by c.apart.new.lender) (record { shells = c.in-Ok.last }) c.send-sent.result c.apart.ensures.later c.send-sent.ensures.sent in
    let run : RunTook (record { shells = c.in-Ok.last }) c.fetch-run.result = c.fetch-run.ensures.back (record { shells = c.in-Ok.last }) sent in
    subst (AllTook ss) (sym c.join.ensures.items)
    (took_parts c.last_start-cut.result ss prefix back (c.apart.ensures.len ∙ ap length c.in-Ok.ensures.items)
    (subst (λ l. AllTook l prefix) c.in-Ok.ensures.items c.apart.ensures.took)
    (subst (λ l. AllTook l back) c.in-Ok.ensures.tail run.took))

pub returns-clause-few : goal.returns-clause-few
returns-clause-few g t c = λ k fits.
    let same = ap length c.fetch-run.ensures.same in
    let cut : length c.split_off.new.self.items ≡ c.last_start-cut.result = omega (arith, c.in-Ok.ensures.len, c.split_off.new.self.ok.0) in
    omega (arith, same, few_lent k c.last_start-cut.result c.args.size (length (lent_by c.args.lender.now)) (length (lent_by c.send-sent.new.lender)) (length (lent_by c.apart.new.lender)) (omega arith) (c.last_start-cut.ensures.fewer k (omega (arith, fits, c.args.shells.now.ok.0))) (λ j less. c.apart.ensures.few j (omega (arith, less, cut))) c.send-sent.ensures.few)
