-- What a port may answer to a fetch or a look.
use Rattle.std.specs.Prelude.{◌≡◌, ℕ, List, length, Option, None, Some, All, Result, Ok, Err}
use Rattle.sc_base.specs.declared.dups.OutOfMemory.{OutOfMemory}
use Rattle.sc_actor.specs.declared.rows.Row.{Row}
use Rattle.sc_actor.specs.Definitions.{mails, numbered}
use Rattle.sc_thread_ledger.specs.LedgerDefinitions.{kth_pending, copies_for, picked_spot, spots_of}
use Rattle.sc_thread_ledger.specs.declared.spots.Spot.{Spot}
use Rattle.sc_thread_ledger.specs.declared.spots.Look.{Look}
use Rattle.sc_thread_ledger.specs.declared.spots.Glance.{Glance}
use Rattle.sc_thread_ports.specs.declared.exchange.answers.Fetched.{Fetched}
use Rattle.sc_thread_ports.specs.declared.exchange.answers.Fetched.TheVariants.{Mail, Empty}

module _ {M O : Type 0} where
  -- The answer of a fetch after these rows: the k-th pending mail of actor `who` with its number; or fewer are pending, and the number of rows is `seen`.
  abbrev pub IsFetch : (M → ℕ) → ℕ → List (Row M O) → ℕ → ℕ → Fetched M → Type 0
  IsFetch receiver actors rows who k (Mail number mail) = (kth_pending receiver actors rows who k ≡ Some number) × (numbered (mails rows) number ≡ Some mail)
  IsFetch receiver actors rows who k (Empty seen) = (kth_pending receiver actors rows who k ≡ None) × (seen ≡ length rows)

  -- Mail is pending after these rows for actor `who`, or for any where `who` is 0, and the receiver of the first of it is `to`.
  pub record GoesTo (receiver : M → ℕ) (actors : ℕ) (rows : List (Row M O)) (who to : ℕ) : Type 0 where
    pub number : ℕ
    pub mail : M
    pub first : kth_pending receiver actors rows who 1 ≡ Some number
    pub sent : numbered (mails rows) number ≡ Some mail
    pub goes : receiver mail ≡ to

  -- The answer is the receiver of the first pending mail of actor `who`, or of all where `who` is 0; or no such mail is pending.
  abbrev pub IsFirstTo : (M → ℕ) → ℕ → List (Row M O) → ℕ → Option ℕ → Type 0
  IsFirstTo receiver actors rows who None = kth_pending receiver actors rows who 1 ≡ None
  IsFirstTo receiver actors rows who (Some to) = GoesTo receiver actors rows who to

  -- The look has the number of mails that these rows sent, and each pending copy after them, in ascending order of number. The place of each copy is the one at which its receiver finds the mail.
  pub record IsLook (receiver : M → ℕ) (actors : ℕ) (rows : List (Row M O)) (look : Look) : Type 0 where
    pub sent : look.sent ≡ length (mails rows)
    pub spots : look.pending ≡ spots_of receiver actors rows
    pub each : All (λ (spot : Spot). kth_pending receiver actors rows spot.who spot.k ≡ Some spot.number) look.pending

  -- The glance has the number of mails that these rows sent, and of the pending copies for the actors `whos` the one that `word` picks. The place of each pending copy is the one at which its receiver finds the mail.
  pub record IsGlance (receiver : M → ℕ) (actors : ℕ) (rows : List (Row M O)) (whos : List ℕ) (word : ℕ) (glance : Glance) : Type 0 where
    pub sent : glance.sent ≡ length (mails rows)
    pub spot : glance.spot ≡ picked_spot (copies_for whos (spots_of receiver actors rows)) word
    pub each : All (λ (spot : Spot). kth_pending receiver actors rows spot.who spot.k ≡ Some spot.number) (spots_of receiver actors rows)

-- The number of the fetched mail, if there is one.
abbrev pub fetched_number : {M : Type 0} → Fetched M → Option ℕ
fetched_number (Mail number mail) = Some number
fetched_number (Empty seen) = None

-- The number of the fetched mail in the result of a fetch, which may be an error.
abbrev pub number_in : {M : Type 0} → Result (Fetched M) OutOfMemory → Option ℕ
number_in (Ok found) = fetched_number found
number_in (Err error) = None
