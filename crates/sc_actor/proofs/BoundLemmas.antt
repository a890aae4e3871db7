-- How large counts and bytes of a journal can be.
use Rattle.std.proofs.Common.{◌≡◌, ℕ, zero, suc, ◌+◌, ◌-◌, ◌*◌, ◌≤◌, List, [], ◌∷◌, ◌++◌, length, replicate, fold, All, arith, get_or, sum_by, length-append}
use Rattle.std.proofs.lemmas.List.Elements.{All-set, All-append, All-replicate, All-weaker, All-nil}
use Rattle.std.proofs.lemmas.List.Sums.{sum_by-append, sum_by-cons}
use Rattle.sc_actor.specs.declared.rows.Row.{Row}
use Rattle.sc_actor.specs.declared.rows.Event.{Event}
use Rattle.sc_actor.specs.declared.rows.Event.TheVariants.{Deliver, Drop, Again, Go, Tick, Crash, Told}
use Rattle.sc_actor.specs.Definitions.{mails, copies, counts_at, counts_after, mail_bytes, row_bytes, journal_bytes}

abbrev UpTo : ℕ → ℕ → Type 0
UpTo n count = count ≤ n

at_most : (n : ℕ) (counts : List ℕ) (place : ℕ) → All (UpTo n) counts → get_or counts place 0 ≤ n
at_most n [] place all = omega arith
at_most n (c ∷ counts) zero all = all 0 0 (omega arith)
at_most n (c ∷ counts) (suc place) all = at_most n counts place (λ k d lt. all (suc k) d (omega arith))

more : (n : ℕ) (counts : List ℕ) → All (UpTo n) counts → All (UpTo (n + 1)) counts
more n counts all = All-weaker (UpTo n) (UpTo (n + 1)) (λ x le. omega arith) counts all

at_event : {O : Type 0} (n : ℕ) (counts : List ℕ) (event : Event O) → All (UpTo n) counts → All (UpTo (n + 1)) (counts_at counts event)
at_event n counts (Deliver zero) all = more n counts all
at_event n counts (Deliver (suc place)) all = let le = at_most n counts place all in All-set (UpTo (n + 1)) counts place (get_or counts place 0 - 1) (omega arith) (more n counts all)
at_event n counts (Drop zero) all = more n counts all
at_event n counts (Drop (suc place)) all = let le = at_most n counts place all in All-set (UpTo (n + 1)) counts place (get_or counts place 0 - 1) (omega arith) (more n counts all)
at_event n counts (Again zero) all = more n counts all
at_event n counts (Again (suc place)) all = let le = at_most n counts place all in All-set (UpTo (n + 1)) counts place (get_or counts place 0 + 1) (omega arith) (more n counts all)
at_event n counts Tick all = more n counts all
at_event n counts Go all = more n counts all
at_event n counts (Told order) all = more n counts all
at_event n counts Crash all = more n counts all

after : {M O : Type 0} (n : ℕ) (counts : List ℕ) (row : Row M O) → All (UpTo n) counts → All (UpTo (n + 1)) (counts_after counts row)
after n counts row all =
    All-append (UpTo (n + 1)) (counts_at counts row.event) (replicate (length row.sent) 1) (at_event n counts row.event all) (All-replicate (UpTo (n + 1)) (length row.sent) 1 (omega arith))

bounded_from : {M O : Type 0} (n : ℕ) (counts : List ℕ) (rows : List (Row M O)) → All (UpTo n) counts → All (UpTo (n + length rows)) (fold counts_after counts rows)
bounded_from n counts [] all = All-weaker (UpTo n) (UpTo (n + 0)) (λ x le. omega arith) counts all
bounded_from n counts (row ∷ rows) all =
    All-weaker (UpTo (n + 1 + length rows)) (UpTo (n + length (row ∷ rows))) (λ x le. omega arith) (fold counts_after (counts_after counts row) rows) (bounded_from (n + 1) (counts_after counts row) rows (after n counts row all))

-- no mail has more copies than there are rows
pub copies_bounded : {M O : Type 0} (rows : List (Row M O)) → All (λ count. count ≤ length rows) (copies rows)
copies_bounded rows = All-weaker (UpTo (0 + length rows)) (λ count. count ≤ length rows) (λ x le. omega arith) (copies rows) (bounded_from 0 [] rows (All-nil (UpTo 0)))

-- each mail counts at least 256
pub mails_count : {M : Type 0} (weighs : M → ℕ) (sent : List M) → 256 * length sent ≤ sum_by (mail_bytes weighs) sent
mails_count weighs [] = omega arith
mails_count weighs (mail ∷ sent) =
    let le = mails_count weighs sent in
    let split : sum_by (mail_bytes weighs) (mail ∷ sent) ≡ mail_bytes weighs mail + sum_by (mail_bytes weighs) sent = sum_by-cons (mail_bytes weighs) mail sent in
    omega (arith, le, split)

module _ {M O : Type 0} (weighs : M → ℕ) where
  -- the bytes of one more row
  pub journal_bytes-snoc : (rows : List (Row M O)) (row : Row M O) → journal_bytes weighs (rows ++ row ∷ []) ≡ journal_bytes weighs rows + row_bytes weighs row
  journal_bytes-snoc rows row =
      let last : journal_bytes weighs (row ∷ []) ≡ row_bytes weighs row + sum_by (row_bytes {M = M} {O = O} weighs) [] = sum_by-cons (row_bytes weighs) row [] in
      let split : journal_bytes weighs (rows ++ row ∷ []) ≡ journal_bytes weighs rows + journal_bytes weighs (row ∷ []) = sum_by-append (row_bytes weighs) rows (row ∷ []) in
      omega (arith, last, split)

  -- a row counts at least 64, and each mail of it 256
  pub row_counts : (row : Row M O) → 64 + 256 * length row.sent ≤ row_bytes weighs row
  row_counts row = let le = mails_count weighs row.sent in omega (arith, le)

  -- a row counts at least 64, and a mail 256
  pub journal_counts : (rows : List (Row M O)) → 64 * length rows + 256 * length (mails rows) ≤ journal_bytes weighs rows
  journal_counts [] = omega arith
  journal_counts (row ∷ rows) =
      let le = journal_counts rows in
      let here = row_counts row in
      let split : journal_bytes weighs (row ∷ rows) ≡ row_bytes weighs row + journal_bytes weighs rows = sum_by-cons (row_bytes weighs) row rows in
      let all : length (mails (row ∷ rows)) ≡ length row.sent + length (mails rows) = length-append row.sent (mails rows) in
      omega (arith, le, here, split, all)
