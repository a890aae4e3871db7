-- The queues of pending mail: ascending lists of mail numbers, each with its number of copies.
use Rattle.std.specs.Prelude.{◌≡◌, ℕ, suc, ◌-◌, ◌<◌, ◌==◌, nat_eq, nat_lt, List, [], ◌∷◌, ◌++◌, Bool, ◌&&◌, length, map, filter, replicate, insert, slice_index_or, if◌then◌else◌}
use Rattle.std.specs.List.{flat_map}
use Rattle.std.specs.Map.{remove_entry}
use Rattle.indexmap.specs.IndexMap.{insert_entry}
use Rattle.sc_thread_ledger.specs.declared.queues.Queues.{Queues}
use Rattle.sc_thread_ledger.specs.Kept.{counts_for}

-- The mails from `number` on whose receiver passes the test and that have a copy, each with its number of copies.
abbrev pub open_entries : (ℕ → Bool) → ℕ → List ℕ → List ℕ → List (ℕ × ℕ)
open_entries test number [] counts = []
open_entries test number (receiver ∷ receivers) [] = []
open_entries test number (receiver ∷ receivers) (count ∷ counts) =
    (if test receiver && nat_lt 0 count then (number, count) ∷ [] else []) ++ open_entries test (suc number) receivers counts

-- The numbers of the entries, each as often as it has copies.
abbrev pub copies_in : List (ℕ × ℕ) → List ℕ
copies_in entries = flat_map (λ e. replicate e.1 e.0) entries

-- How many entries have a lower number than `number`.
abbrev pub lower : List (ℕ × ℕ) → ℕ → ℕ
lower entries number = length (filter (λ e. nat_lt e.0 number) entries)

-- The entries once `number` has `count` copies: it is removed with 0; with `back` it is inserted at its place by number; else its count is replaced, or it is appended where it is new.
abbrev pub recounted : List (ℕ × ℕ) → ℕ → Bool → ℕ → List (ℕ × ℕ)
recounted entries number back count =
    if count == 0
    then remove_entry (nat_eq number) entries
    else if back then insert entries (lower entries number) (number, count) else insert_entry nat_eq entries number count

-- The entries of each actor's queue, in the order of the actors.
abbrev pub kept : Queues → List (List (ℕ × ℕ))
kept q = map (λ m. m.items) q.each.items

-- The queues agree with the receivers and counts of all mail: one queue has all pending mail, and there is one for each actor from 1 to `actors` with the pending mail of that actor.
pub record Holds (q : Queues) (actors : ℕ) (crashed receivers counts : List ℕ) : Type 0 where
  pub many : length (kept q) ≡ actors
  pub all : q.all.items ≡ open_entries (counts_for actors crashed 0) 1 receivers counts
  pub each : (k : ℕ) → k < actors → slice_index_or (kept q) k [] ≡ open_entries (counts_for actors crashed (suc k)) 1 receivers counts

-- The entries of the queue of actor `who`, or of the queue of all mail where `who` is 0.
abbrev pub queue_of : Queues → ℕ → List (ℕ × ℕ)
queue_of q who = if who == 0 then q.all.items else slice_index_or (kept q) (who - 1) []
