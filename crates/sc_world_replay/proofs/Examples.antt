-- Small journals, computed: two actors, of which each sends to actor 2 while it has turns left. A mail is its receiver's number.
use Rattle.std.proofs.Common.{◌≡◌, ℕ, zero, suc, ◌-◌, ◌==◌, List, [], ◌∷◌, true, false, refl, None, Some, if◌then◌else◌}
use Rattle.sc_actor.specs.declared.rows.Row.{Row}
use Rattle.sc_actor.specs.declared.rows.Input.{Input}
use Rattle.sc_actor.specs.declared.actors.Seat.{Seat}
use Rattle.sc_actor.specs.declared.rows.Event.{Event}
use Rattle.sc_actor.specs.declared.rows.Event.TheVariants.{Deliver, Tick, Go, Crash, Drop, Again}
use Rattle.sc_actor.specs.declared.schedules.Line.TheVariants.{Go as GoLine, Deliver as DeliverLine, Crash as CrashLine, Again as AgainLine, Settle, Free, Storm}
use Rattle.sc_actor.specs.Counted.{journal_bytes}
use Rattle.sc_actor.specs.Mail.{pending, copies}
use Rattle.sc_actor.specs.Replay.{values}
use Rattle.sc_actor.specs.System.{System, system, numbers_of}
use Rattle.sc_actor.specs.Walk.{IsLawful, IsWhole, skipped, unsettled}

abbrev turns : ℕ → Input ℕ ℕ → ℕ × List ℕ
turns left input = if left == 0 then (0, []) else (left - 1, 2 ∷ [])

abbrev two : List (Seat ℕ)
two = record { who = 1; actor = 1 } ∷ record { who = 2; actor = 0 } ∷ []

-- the words of five steps: a delivery of nothing, a tick of the first actor, a repeat, a loss and a delivery
abbrev words : ℕ → ℕ → ℕ × ℕ
words number zero = (3, 0)
words number (suc zero) = (2, 6)
words number (suc (suc zero)) = (17, 9)
words number (suc (suc (suc zero))) = (16, 4)
words number (suc (suc (suc (suc step)))) = (15, 8)

abbrev toy : System ℕ ℕ ℕ
toy = system turns (λ mail. mail) words two

abbrev row : ℕ → Event ℕ → List ℕ → Row ℕ ℕ
row who event sent = record { who = who; event = event; sent = sent }

abbrev settled : List (Row ℕ ℕ)
settled = row 1 Go (2 ∷ []) ∷ row 2 (Deliver 1) [] ∷ []

pending_two : pending (λ mail. mail) (numbers_of two) (row 1 Go (2 ∷ []) ∷ row 0 (Again 1) [] ∷ []) (Some 2) ≡ 1 ∷ 1 ∷ []
pending_two = refl

pending_one : pending (λ mail. mail) (numbers_of two) (row 1 Go (2 ∷ []) ∷ []) (Some 1) ≡ []
pending_one = refl

pending_crashed : pending (λ mail. mail) (numbers_of two) (row 1 Go (2 ∷ []) ∷ row 2 Crash [] ∷ []) None ≡ []
pending_crashed = refl

lawful_settled : IsLawful toy (GoLine 1 ∷ GoLine 1 ∷ Settle 5 ∷ DeliverLine 2 1 ∷ []) settled
lawful_settled = (refl, (refl, tt))

whole_settled : IsWhole toy (GoLine 1 ∷ GoLine 1 ∷ Settle 5 ∷ DeliverLine 2 1 ∷ []) settled
whole_settled = refl

skipped_settled : skipped toy (GoLine 1 ∷ GoLine 1 ∷ Settle 5 ∷ DeliverLine 2 1 ∷ []) settled ≡ 2
skipped_settled = refl

settled_in_time : unsettled toy (GoLine 1 ∷ Settle 1 ∷ []) settled ≡ false
settled_in_time = refl

cut_off_early : unsettled toy (GoLine 1 ∷ Free 0 4 ∷ []) (row 1 Go (2 ∷ []) ∷ []) ≡ true
cut_off_early = refl

values_settled : values turns two settled ≡ record { who = 1; actor = 0 } ∷ record { who = 2; actor = 0 } ∷ []
values_settled = refl

bytes_settled : journal_bytes (λ mail. 7) settled ≡ 391
bytes_settled = refl

lawful_crash : IsLawful toy (CrashLine 2 ∷ CrashLine 2 ∷ GoLine 1 ∷ AgainLine 1 ∷ Settle 3 ∷ []) (row 2 Crash [] ∷ row 1 Go (2 ∷ []) ∷ [])
lawful_crash = (refl, (refl, tt))

skipped_crash : skipped toy (CrashLine 2 ∷ CrashLine 2 ∷ GoLine 1 ∷ AgainLine 1 ∷ Settle 3 ∷ []) (row 2 Crash [] ∷ row 1 Go (2 ∷ []) ∷ []) ≡ 2
skipped_crash = refl

abbrev stormy : List (Row ℕ ℕ)
stormy = row 1 Tick (2 ∷ []) ∷ row 0 (Again 1) [] ∷ row 0 (Drop 1) [] ∷ row 2 (Deliver 1) [] ∷ []

lawful_stormy : IsLawful toy (Storm 7 5 ∷ []) stormy
lawful_stormy = (refl, (refl, (refl, (refl, tt))))

whole_stormy : IsWhole toy (Storm 7 5 ∷ []) stormy
whole_stormy = refl

skipped_stormy : skipped toy (Storm 7 5 ∷ []) stormy ≡ 0
skipped_stormy = refl

copies_stormy : copies stormy ≡ 0 ∷ []
copies_stormy = refl
