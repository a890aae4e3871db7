-- Pending mail where the actors have the numbers from 1 to `actors`.
use Rattle.std.specs.Prelude.{ℕ, zero, suc, ◌==◌, List, [], ◌∷◌, ◌++◌, Bool, false, Option, None, Some}
use Rattle.std.specs.List.{list_any}
use Rattle.sc_actor.specs.declared.rows.Row.{Row}
use Rattle.sc_actor.specs.Definitions.{mails, numbered, may_get, pending, kth}

-- The numbers from 1 to n, ascending.
abbrev pub upto : ℕ → List ℕ
upto zero = []
upto (suc n) = upto n ++ suc n ∷ []

-- The actor that a number names, where 0 names no actor and stands for all of them.
abbrev pub whose : ℕ → Option ℕ
whose zero = None
whose (suc n) = Some (suc n)

-- The numbers of the pending mail of actor `who`, or of all actors where `who` is 0, ascending, each as often as it has copies.
abbrev pub pending_of : {M O : Type 0} → (M → ℕ) → ℕ → List (Row M O) → ℕ → List ℕ
pending_of receiver actors rows who = pending receiver (upto actors) rows (whose who)

-- The k-th pending mail, counted from 1, of actor `who`, or of all actors where `who` is 0.
abbrev pub kth_pending : {M O : Type 0} → (M → ℕ) → ℕ → List (Row M O) → ℕ → ℕ → Option ℕ
kth_pending receiver actors rows who k = kth (pending_of receiver actors rows who) k

-- Whether a copy of the mail with this number is pending.
abbrev pub is_pending : {M O : Type 0} → (M → ℕ) → ℕ → List (Row M O) → ℕ → Bool
is_pending receiver actors rows number = list_any (λ n. n == number) (pending_of receiver actors rows 0)

-- Whether there is a mail, and its receiver is an actor that has not crashed.
abbrev pub may_have : {M O : Type 0} → (M → ℕ) → ℕ → List (Row M O) → Option M → Bool
may_have receiver actors rows None = false
may_have receiver actors rows (Some mail) = may_get (upto actors) rows (receiver mail)

-- Whether the mail with this number was sent, and its receiver is an actor that has not crashed: such a mail may be repeated.
abbrev pub may_repeat : {M O : Type 0} → (M → ℕ) → ℕ → List (Row M O) → ℕ → Bool
may_repeat receiver actors rows number = may_have receiver actors rows (numbered (mails rows) number)
