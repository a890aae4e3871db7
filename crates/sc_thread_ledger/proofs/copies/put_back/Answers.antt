use Rattle.std.proofs.Common.{rules, ◌≡◌, sym, ap, ◌∙◌, ◌≤◌, subst, length}
use Rattle.sc_thread_ledger.specs.LedgerDefinitions.{lower}
use Rattle.sc_thread_ledger.proofs.Entries.{lower_most}
use Rattle.sc_thread_ledger.proofs.copies.put_back.Goals as goal

pub insert-requires : goal.insert-requires
insert-requires c =
    let all : c.args.copies.now.len ≡ length c.args.copies.now.items = search rules in
    subst (λ n. c.lower-place.result ≤ n) (sym all)
    (subst (λ n. n ≤ length c.args.copies.now.items) (sym (c.lower-place.ensures ∙ ap (λ es. lower es c.args.number) c.as_slice.ensures.value)) (lower_most c.args.copies.now.items c.args.number))
