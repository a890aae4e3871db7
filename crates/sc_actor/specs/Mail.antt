-- The mail of a journal: its numbers, and which of it is pending.
use Rattle.std.specs.Prelude.{ℕ, zero, suc, ◌+◌, ◌-◌, ◌==◌, List, [], ◌∷◌, ◌++◌, length, replicate, fold, Bool, true, false, ◌&&◌, not, if◌then◌else◌, Option, None, Some, slice_get, slice_set, slice_index}
use Rattle.std.specs.List.{flat_map, list_any}
use Rattle.sc_actor.specs.declared.rows.Row.{Row}
use Rattle.sc_actor.specs.declared.rows.Event.{Event}
use Rattle.sc_actor.specs.declared.rows.Event.TheVariants.{Deliver, Tick, Go, Told, Crash, Drop, Again}

-- all mail that was sent, in order
abbrev pub mails : {M O : Type 0} → List (Row M O) → List M
mails rows = flat_map (λ row. row.sent) rows

-- the mail with this number: mail is numbered from 1, by its place in all mail that was sent
abbrev pub numbered : {M : Type 0} → List M → ℕ → Option M
numbered sent zero = None
numbered sent (suc place) = slice_get sent place

-- whether an event is a crash
abbrev pub is_crash : {O : Type 0} → Event O → Bool
is_crash Crash = true
is_crash (Deliver mail) = false
is_crash Tick = false
is_crash Go = false
is_crash (Told order) = false
is_crash (Drop mail) = false
is_crash (Again mail) = false

-- whether an event delivers a mail
abbrev pub is_delivery : {O : Type 0} → Event O → Bool
is_delivery (Deliver mail) = true
is_delivery Tick = false
is_delivery Go = false
is_delivery (Told order) = false
is_delivery Crash = false
is_delivery (Drop mail) = false
is_delivery (Again mail) = false

-- whether an actor has crashed
abbrev pub has_crashed : {M O : Type 0} → List (Row M O) → ℕ → Bool
has_crashed rows who = list_any (λ row. row.who == who && is_crash row.event) rows

-- the counts with one less at this mail's number
abbrev pub one_less : List ℕ → ℕ → List ℕ
one_less counts zero = counts
one_less counts (suc place) = slice_set counts place (slice_index counts place - 1)

-- the counts with one more at a mail's number
abbrev pub one_more : List ℕ → ℕ → List ℕ
one_more counts zero = counts
one_more counts (suc place) = slice_set counts place (slice_index counts place + 1)

-- the counts of copies after an event: a delivery or a drop takes one copy away, if there is one, and a repeat adds one
abbrev pub counts_at : {O : Type 0} → List ℕ → Event O → List ℕ
counts_at counts (Deliver mail) = one_less counts mail
counts_at counts (Drop mail) = one_less counts mail
counts_at counts (Again mail) = one_more counts mail
counts_at counts Tick = counts
counts_at counts Go = counts
counts_at counts (Told order) = counts
counts_at counts Crash = counts

-- the counts of copies after a row: after its event, each mail that the row sends has one copy
abbrev pub counts_after : {M O : Type 0} → List ℕ → Row M O → List ℕ
counts_after counts row = counts_at counts row.event ++ replicate (length row.sent) 1

-- for each mail, in the order of numbers, how many copies are under way
abbrev pub copies : {M O : Type 0} → List (Row M O) → List ℕ
copies rows = fold counts_after [] rows

-- the numbers of the mail that passes the test, from `number` on, each as often as it has copies
abbrev pub numbers : {M : Type 0} → (M → Bool) → ℕ → List M → List ℕ → List ℕ
numbers test number [] counts = []
numbers test number (mail ∷ sent) [] = []
numbers test number (mail ∷ sent) (count ∷ counts) =
    (if test mail then replicate count number else []) ++ numbers test (suc number) sent counts

-- whether mail to this receiver may be pending: it is one of the actors, so not the desk, and it has not crashed
abbrev pub may_get : {M O : Type 0} → List ℕ → List (Row M O) → ℕ → Bool
may_get actors rows who = list_any (λ actor. actor == who) actors && not (has_crashed rows who)

-- whether a mail is to one actor, or to any actor for None, that may get it
abbrev pub is_for : {M O : Type 0} → (M → ℕ) → List ℕ → List (Row M O) → Option ℕ → M → Bool
is_for receiver actors rows None mail = may_get actors rows (receiver mail)
is_for receiver actors rows (Some who) mail = receiver mail == who && may_get actors rows who

-- the numbers of the pending mail of one actor, or of all actors for None, ascending
abbrev pub pending : {M O : Type 0} → (M → ℕ) → List ℕ → List (Row M O) → Option ℕ → List ℕ
pending receiver actors rows whose = numbers (is_for receiver actors rows whose) 1 (mails rows) (copies rows)
