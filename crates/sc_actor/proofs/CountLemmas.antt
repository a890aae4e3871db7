-- There is one count of copies for each mail.
use Rattle.std.proofs.Common.{◌≡◌, ℕ, zero, suc, ◌+◌, ◌-◌, List, [], ◌∷◌, length, replicate, refl, sym, ◌∙◌, ap, get_or, length-append, fold, add-zero, zero-add, add_assoc}
use Rattle.std.proofs.Math.ListN.{length-set, length-replicate}
use Rattle.sc_actor.specs.declared.rows.Row.{Row}
use Rattle.sc_actor.specs.declared.rows.Event.{Event}
use Rattle.sc_actor.specs.declared.rows.Event.TheVariants.{Deliver, Drop, Again, Go, Tick, Crash, Told}
use Rattle.sc_actor.specs.Definitions.{mails, copies, counts_at, counts_after}

-- an event changes no number of counts
pub length-counts_at : {O : Type 0} (counts : List ℕ) (event : Event O) → length (counts_at counts event) ≡ length counts
length-counts_at counts (Deliver zero) = refl
length-counts_at counts (Deliver (suc place)) = length-set counts place (get_or counts place 0 - 1)
length-counts_at counts (Drop zero) = refl
length-counts_at counts (Drop (suc place)) = length-set counts place (get_or counts place 0 - 1)
length-counts_at counts (Again zero) = refl
length-counts_at counts (Again (suc place)) = length-set counts place (get_or counts place 0 + 1)
length-counts_at counts Tick = refl
length-counts_at counts Go = refl
length-counts_at counts (Told order) = refl
length-counts_at counts Crash = refl

pub length-counts_after : {M O : Type 0} (counts : List ℕ) (row : Row M O) → length (counts_after counts row) ≡ length counts + length row.sent
length-counts_after counts row =
    rw (length-append (counts_at counts row.event) (replicate (length row.sent) 1), length-counts_at counts row.event, length-replicate {A = ℕ} (length row.sent) 1) refl

-- from any counts on, there are as many more as mails
counted_from : {M O : Type 0} (counts : List ℕ) (rows : List (Row M O)) → length (fold counts_after counts rows) ≡ length counts + length (mails rows)
counted_from counts [] = sym (add-zero (length counts))
counted_from counts (row ∷ rows) =
    counted_from (counts_after counts row) rows
    ∙ ap (λ n. n + length (mails rows)) (length-counts_after counts row)
    ∙ add_assoc (length counts) (length row.sent) (length (mails rows))
    ∙ ap (λ n. length counts + n) (sym (length-append row.sent (mails rows)))

-- of any rows, lawful or not
pub counted : {M O : Type 0} (rows : List (Row M O)) → length (copies rows) ≡ length (mails rows)
counted rows = counted_from [] rows ∙ zero-add (length (mails rows))
