-- What a port knows of the mail that it has fetched.
use Rattle.std.specs.Prelude.{◌≡◌, ◌≢◌, ℕ, List, Option, None, Some, ⊤}
use Rattle.sc_thread_ports.specs.turn.TurnDefinitions.{StartsWith as Begins}
use Rattle.sc_actor.specs.declared.rows.Row.{Row}
use Rattle.sc_actor.specs.declared.rows.Event.{Event}
use Rattle.sc_actor.specs.declared.rows.Event.TheVariants.{Deliver, Drop, Again, Tick, Go, Told, Crash}
use Rattle.sc_thread_ledger.specs.LedgerDefinitions.{kth_pending}
use Rattle.sc_thread_ports.specs.exchange.BareRows.{rows_of}

module _ {M O : Type 0} where
  -- The rows `seen` have a prefix after which the mail `number` was pending for `who`. If `who` is an actor, it has made no row since that prefix.
  pub record WasPending (receiver : M → ℕ) (actors who number : ℕ) (made seen : List (Row M O)) : Type 0 where
    pub rows : List (Row M O)
    pub later : Begins seen rows
    pub k : ℕ
    pub kth : kth_pending receiver actors rows who k ≡ Some number
    pub own : who ≢ 0 → rows_of who rows ≡ made

  -- Where a mail was fetched, it was pending when it was fetched, and the actor has made no row since (`WasPending`).
  abbrev pub HasFetched : (M → ℕ) → ℕ → ℕ → Option ℕ → List (Row M O) → List (Row M O) → Type 0
  HasFetched receiver actors who None made seen = ⊤
  HasFetched receiver actors who (Some number) made seen = WasPending receiver actors who number made seen

-- The number of the mail that an event delivers, if it is a delivery.
abbrev pub delivered : {O : Type 0} → Event O → Option ℕ
delivered (Deliver number) = Some number
delivered (Drop number) = None
delivered (Again number) = None
delivered Tick = None
delivered Go = None
delivered (Told order) = None
delivered Crash = None
