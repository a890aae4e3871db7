use Rattle.std.proofs.Common.{ap, ◌∙◌, ◌++◌, ◌∷◌, []}
use Rattle.sc_thread_ports.specs.exchange.ExchangeDefinitions.{bare_rows, all_addressed}
use Rattle.sc_thread_ports.proofs.ExchangeProofs.Done.{bare_rows-push}
use Rattle.sc_thread_ports.proofs.ExchangeProofs.Addressing.{addressed_push}
use Rattle.sc_thread_ports.proofs.exchange.turns.append_row.Goals as goal

pub keep_row-requires-clause-list : goal.keep_row-requires-clause-list
keep_row-requires-clause-list g c =
    let row = c.args.row in
    (record { event = row.event; sent = row.sent }, ap bare_rows c.in-Ok.ensures.ok ∙ (ap (λ ledger. bare_rows (ledger.rows.items ++ row ∷ [])) c.deref_mut.ensures.value ∙ (bare_rows-push c.args.found.ledger.value.rows.items row ∙ (λ i. c.requires.list i ++ (record { event = row.event; sent = row.sent }, c.requires.maker i) ∷ []))))

pub invariant_of-exchange : goal.invariant_of-exchange
invariant_of-exchange g c = record { addressed = ap (all_addressed g.M.Parcel.receiver []) c.in-Ok.ensures.ok ∙ (ap (λ ledger. all_addressed g.M.Parcel.receiver [] (ledger.rows.items ++ c.args.row ∷ [])) c.deref_mut.ensures.value ∙ addressed_push g.M.Parcel.receiver c.args.found.ledger.value.rows.items c.args.row c.args.found.addressed c.requires.addressed) }
