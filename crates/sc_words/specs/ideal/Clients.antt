-- The client table: each client's last request by number, and its reply.
use Rattle.std.specs.Prelude.{ℕ, List, Option, Some, None, Bool, true, fold, nat_lt, ◌==◌, if◌then◌else◌}
use Rattle.std.specs.Ordering.{nat_cmp}
use Rattle.std.specs.FinMap.{FinMap, get, insert}
use Rattle.sc_base.specs.declared.ops.Noted.{Noted}
use Rattle.sc_words.specs.declared.ideal.Seen.{Seen}
use Rattle.sc_words.specs.declared.ideal.Seen.TheVariants.{New, Again, Stale}

-- a client table: from the numbers of clients to their last request and its reply
abbrev pub ClientTable : Type 0
ClientTable = FinMap nat_cmp Noted

-- how the number of a request compares with the client's last one in the table, if there is one
abbrev pub seen_of : Option Noted → ℕ → Seen
seen_of None seq = New
seen_of (Some noted) seq = if nat_lt noted.seq seq then New else if noted.seq == seq then Again else Stale noted.seq

-- whether a number is greater than that of the client's last request in the table, or there is none
abbrev pub is_later : Option Noted → ℕ → Bool
is_later None seq = true
is_later (Some noted) seq = nat_lt noted.seq seq

-- the table with this request of a client, if its number is greater than the one in the table
abbrev pub with_later : ClientTable → ℕ → Noted → ClientTable
with_later table client noted = if is_later (get table client) noted.seq then insert table client noted else table

-- the table joined with entries of another: for each client the entry with the greater number stays
abbrev pub joined_with : ClientTable → List (ℕ × Noted) → ClientTable
joined_with = fold (λ table entry. with_later table entry.0 entry.1)

-- of two entries of one client the one with the greater number, and the first where they are equal
abbrev pub later : Option Noted → Option Noted → Option Noted
later first None = first
later first (Some second) = if is_later first second.seq then Some second else first
