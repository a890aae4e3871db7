-- The pending copies of mail, each with its receiver, and how one more row changes them.
use Rattle.std.specs.Prelude.{ℕ, suc, ◌==◌, List, [], ◌∷◌, ◌++◌, Bool, ◌&&◌, not, filter, replicate, Option, None, Some, nat_lt, if◌then◌else◌}
use Rattle.std.specs.List.{list_any}
use Rattle.sc_actor.specs.declared.rows.Row.{Row}
use Rattle.sc_actor.specs.declared.rows.Event.{Event}
use Rattle.sc_actor.specs.declared.rows.Event.TheVariants.{Deliver, Tick, Go, Told, Crash, Drop, Again}
use Rattle.sc_actor.specs.Mail.{mails, copies, may_get, numbered}
use Rattle.sc_world_replay.specs.declared.stages.OpenCopy.{OpenCopy}

-- Whether the number is one of the actors and not one of the crashed.
abbrev pub runs : List ℕ → List ℕ → ℕ → Bool
runs actors crashed who = list_any (λ actor. actor == who) actors && not (list_any (λ number. number == who) crashed)

-- A pending copy of the mail with this number, for this receiver.
abbrev pub copy_of : ℕ → ℕ → OpenCopy
copy_of number to = record { number = number; to = to }

-- The pending copies of the mails from `number` on whose receiver passes the test, as many of each as its count.
abbrev pub opens : {M : Type 0} → (M → ℕ) → (ℕ → Bool) → ℕ → List M → List ℕ → List OpenCopy
opens receiver test number [] counts = []
opens receiver test number (mail ∷ sent) [] = []
opens receiver test number (mail ∷ sent) (count ∷ counts) =
    (if test (receiver mail) then replicate count (copy_of number (receiver mail)) else []) ++ opens receiver test (suc number) sent counts

-- The pending copies after these rows, in ascending order of number.
abbrev pub opens_of : {M O : Type 0} → (M → ℕ) → List ℕ → List (Row M O) → List OpenCopy
opens_of receiver actors rows = opens receiver (may_get actors rows) 1 (mails rows) (copies rows)

-- The ascending copies without the first copy of this mail, if there is one.
abbrev pub without : List OpenCopy → ℕ → List OpenCopy
without [] number = []
without (copy ∷ xs) number = if nat_lt copy.number number then copy ∷ without xs number else if copy.number == number then xs else copy ∷ xs

-- The ascending copies with one more copy, before those of the same number or a greater one.
abbrev pub with_copy : List OpenCopy → OpenCopy → List OpenCopy
with_copy [] more = more ∷ []
with_copy (copy ∷ xs) more = if nat_lt copy.number more.number then copy ∷ with_copy xs more else more ∷ copy ∷ xs

-- The copies without those for this receiver.
abbrev pub without_to : List OpenCopy → ℕ → List OpenCopy
without_to xs who = filter (λ copy. not (copy.to == who)) xs

-- The copies with one more copy of this mail, if there is such a mail and its receiver passes the test.
abbrev pub reopened : {M : Type 0} → (M → ℕ) → (ℕ → Bool) → List OpenCopy → ℕ → Option M → List OpenCopy
reopened receiver test xs number None = xs
reopened receiver test xs number (Some mail) = if test (receiver mail) then with_copy xs (copy_of number (receiver mail)) else xs

-- The pending copies after an event, without the mail that its row sends.
abbrev pub opened : {M O : Type 0} → (M → ℕ) → (ℕ → Bool) → List M → List OpenCopy → ℕ → Event O → List OpenCopy
opened receiver test sent xs who (Deliver mail) = without xs mail
opened receiver test sent xs who (Drop mail) = without xs mail
opened receiver test sent xs who (Again mail) = reopened receiver test xs mail (numbered sent mail)
opened receiver test sent xs who Crash = without_to xs who
opened receiver test sent xs who Tick = xs
opened receiver test sent xs who Go = xs
opened receiver test sent xs who (Told order) = xs
