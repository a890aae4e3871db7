-- The mail that was fetched, as more rows are seen.
use Rattle.std.proofs.Common.{◌≡◌, ◌≢◌, ℕ, Bool, true, false, MatchBool, List, ◌∷◌, ◌++◌, length, map, refl, sym, ap, ◌∙◌, subst, [], Option, None, Some, Result, Ok, Err, IfOk}
use Rattle.std.proofs.lemmas.List.{append-nil}
use Rattle.sc_thread_ports.specs.declared.turn.rule.View.{View}
use Rattle.sc_thread_ports.specs.turn.TurnDefinitions.{StartsWith, IsTrueOf, rows_by, with_seen}
use Rattle.sc_thread_ports.proofs.TurnProofs.TurnLemmas.{starts_more, starts_trans}
use Rattle.std.proofs.Math.Logic.{∥∥₁_elim}
use Rattle.std.proofs.Props.{props}
use Rattle.sc_base.specs.declared.dups.OutOfMemory.{OutOfMemory}
use Rattle.sc_actor.specs.declared.rows.Row.{Row}
use Rattle.sc_actor.specs.Definitions.{mails}
use Rattle.sc_actor.specs.declared.rows.Event.{Event}
use Rattle.sc_actor.specs.declared.rows.Event.TheVariants.{Deliver, Drop, Again, Tick, Go, Told, Crash}
use Rattle.sc_thread_ports.specs.declared.exchange.shared.BareRow.{BareRow}
use Rattle.sc_thread_ports.specs.declared.exchange.fates.Fate.{Fate}
use Rattle.sc_thread_ports.specs.declared.exchange.answers.Fetched.{Fetched}
use Rattle.sc_thread_ports.specs.declared.exchange.answers.Fetched.TheVariants.{Mail, Empty}
use Rattle.sc_thread_ports.specs.exchange.ExchangeDefinitions.{bare_rows, row_by, rows_from, Turned, RowTurned, Changed, change, IsFetch, fetched_number, number_in, MayPost, WasPending, HasFetched, delivered, is_addressed}
use Rattle.sc_thread_ports.proofs.ExchangeProofs.Addressing.{pending_to, addressed_rows}
use Rattle.sc_thread_ports.proofs.ExchangeProofs.Done.{rows_of_from, begins_rows}
use Rattle.sc_thread_ports.proofs.ExchangeProofs.Views.{own_same, own_turned, own_of, bare}

module _ {M O : Type 0} (w v : View (BareRow M O)) where
  -- what a turn has seen begins with what was seen before
  pub turned_later : Turned w v → StartsWith (rows_from v.seen) (rows_from w.seen)
  turned_later t = begins_rows v.seen w.seen (subst (λ l. StartsWith l w.seen) (ap (λ (x : View (BareRow M O)). x.seen) (sym t.view_is)) t.later)

  row_later : (row : Row M O) → RowTurned w v row → StartsWith (rows_from v.seen) (rows_from w.seen)
  row_later row t =
      begins_rows v.seen w.seen (subst (λ l. StartsWith l w.seen) (ap (λ (x : View (BareRow M O)). x.seen) (sym t.view_is)) (starts_more (bare_rows t.rows) w.seen ((bare row, w.who) ∷ []) t.later))

  -- so it does after a change of the network
  pub done_later : (F G : Type 0) (receiver : M → ℕ) (actors : ℕ) (fate : Fate) (number : ℕ) (done : Bool) → MatchBool done (Changed receiver actors fate number w v × F) (Turned w v × G) → StartsWith (rows_from v.seen) (rows_from w.seen)
  done_later F G receiver actors fate number true m = row_later (change fate number) m.0.turned
  done_later F G receiver actors fate number false m = turned_later m.0

  -- after a turn the seat has seen all rows that it made
  pub own_after : (who : ℕ) → w.who ≡ who → Turned w v → length (rows_by who v.seen) ≡ length v.made
  own_after who number t = ap (λ n. length (rows_by n v.seen)) (sym number) ∙ own_turned w v t

  -- the same by another name of its number
  pub own_again : (who : ℕ) → w.who ≡ who → length (rows_by w.who v.seen) ≡ length v.made → length (rows_by who v.seen) ≡ length v.made
  own_again who number own = ap (λ n. length (rows_by n v.seen)) (sym number) ∙ own

  -- so it has after a meeting
  pub own_met : (who : ℕ) → w.who ≡ who → v ≡ with_seen w v.seen → IsTrueOf v v.seen → length (rows_by who v.seen) ≡ length v.made
  own_met who number is t = own_of v who (ap (λ (x : View (BareRow M O)). x.who) is ∙ number) t.own

module _ {M O : Type 0} (receiver : M → ℕ) (actors who : ℕ) where
  asked_later : (fetched : Option ℕ) (made made' seen seen' : List (Row M O)) → StartsWith seen' seen → (who ≢ 0 → made' ≡ made) → HasFetched receiver actors who fetched made seen → HasFetched receiver actors who fetched made' seen'
  asked_later None made made' seen seen' later same h = tt
  asked_later (Some number) made made' seen seen' later same h = record {
    rows = h.rows;
    later = starts_trans seen' seen h.rows later h.later;
    k = h.k;
    kth = h.kth;
    own = λ ne. h.own ne ∙ sym (same ne);
  }

  abbrev made_by : View (BareRow M O) → List (Row M O)
  made_by v = map (row_by who) v.made

  -- what was fetched is known after a turn without a row
  pub asked_turned : (fetched : Option ℕ) (w v : View (BareRow M O)) → Turned w v → HasFetched receiver actors who fetched (made_by w) (rows_from w.seen) → HasFetched receiver actors who fetched (made_by v) (rows_from v.seen)
  asked_turned fetched w v t h =
      asked_later fetched (made_by w) (made_by v) (rows_from w.seen) (rows_from v.seen)
      (begins_rows v.seen w.seen (subst (λ l. StartsWith l w.seen) (ap (λ (x : View (BareRow M O)). x.seen) (sym t.view_is)) t.later))
      (λ ne. ap made_by t.view_is) h

  -- and where more was seen without one
  pub asked_same : (fetched : Option ℕ) (w v : View (BareRow M O)) → StartsWith v.seen w.seen → v.made ≡ w.made → HasFetched receiver actors who fetched (made_by w) (rows_from w.seen) → HasFetched receiver actors who fetched (made_by v) (rows_from v.seen)
  asked_same fetched w v later same h =
      asked_later fetched (made_by w) (made_by v) (rows_from w.seen) (rows_from v.seen) (begins_rows v.seen w.seen later) (λ ne. ap (map (row_by who)) same) h

  -- the network's own rows do not count
  pub asked_net : (fetched : Option ℕ) (w v : View (BareRow M O)) → who ≡ 0 → StartsWith (rows_from v.seen) (rows_from w.seen) → HasFetched receiver actors who fetched (made_by w) (rows_from w.seen) → HasFetched receiver actors who fetched (made_by v) (rows_from v.seen)
  asked_net fetched w v net later h = asked_later fetched (made_by w) (made_by v) (rows_from w.seen) (rows_from v.seen) later (λ ne. absurd (ne net)) h

  asked_now : (w v : View (BareRow M O)) (k : ℕ) (found : Fetched M) → v.who ≡ who → Turned w v → IsFetch receiver actors (rows_from v.seen) who k found → HasFetched receiver actors who (fetched_number found) (made_by v) (rows_from v.seen)
  asked_now w v k (Empty seen) number t f = tt
  asked_now w v k (Mail number mail) is t f = record {
    rows = rows_from v.seen;
    later = ([], sym (append-nil (rows_from v.seen)));
    k = k;
    kth = f.0;
    own = λ ne. rows_of_from who v.seen ∙ ap (map (row_by who)) (ap (λ n. rows_by n v.seen) (sym is) ∙ own_same w v t);
  }

  asked_in : (w v : View (BareRow M O)) (k : ℕ) (found : Result (Fetched M) OutOfMemory) → v.who ≡ who → Turned w v → IfOk found (IsFetch receiver actors (rows_from v.seen) who k) → HasFetched receiver actors who (number_in found) (made_by v) (rows_from v.seen)
  asked_in w v k (Ok found) number t fetch = asked_now w v k found number t fetch
  asked_in w v k (Err error) number t fetch = tt

  -- what a fetch has found is known
  pub asked_found : (f : Option ℕ) (w v : View (BareRow M O)) (k : ℕ) (found : Result (Fetched M) OutOfMemory) → f ≡ number_in found → v.who ≡ who → Turned w v → IfOk found (IsFetch receiver actors (rows_from v.seen) who k) → HasFetched receiver actors who f (made_by v) (rows_from v.seen)
  asked_found f w v k found is number t fetch = subst (λ (x : Option ℕ). HasFetched receiver actors who x (made_by v) (rows_from v.seen)) (sym is) (asked_in w v k found number t fetch)

  -- a delivery that may be posted is of what was fetched
  pub asked_event : (fetched : Option ℕ) (event : Event O) (made seen : List (Row M O)) → MayPost fetched event → HasFetched receiver actors who fetched made seen → HasFetched receiver actors who (delivered event) made seen
  asked_event fetched (Deliver number) made seen may h = subst (λ f. HasFetched receiver actors who f made seen) may h
  asked_event fetched Tick made seen may h = tt
  asked_event fetched Go made seen may h = tt
  asked_event fetched (Told order) made seen may h = tt
  asked_event fetched Crash made seen may h = tt
  asked_event fetched (Drop number) made seen may h = absurd may
  asked_event fetched (Again number) made seen may h = absurd may

  -- a delivery is of mail to the actor
  addressed_so : (fetched : Option ℕ) (event : Event O) (made seen : List (Row M O)) → who ≢ 0 → MayPost fetched event → HasFetched receiver actors who fetched made seen → is_addressed receiver (mails seen) who event ≡ true
  addressed_so fetched (Deliver number) made seen ne may h =
      let w : WasPending receiver actors who number made seen = subst (λ f. HasFetched receiver actors who f made seen) may h in
      addressed_rows receiver who (Deliver number) seen w.rows w.later (pending_to receiver actors w.rows who w.k number ne w.kth)
  addressed_so fetched Tick made seen ne may h = refl
  addressed_so fetched Go made seen ne may h = refl
  addressed_so fetched (Told order) made seen ne may h = refl
  addressed_so fetched Crash made seen ne may h = refl
  addressed_so fetched (Drop number) made seen ne may h = absurd may
  addressed_so fetched (Again number) made seen ne may h = absurd may

  -- so it may stand behind what was seen
  pub asked_addressed : (fetched : Option ℕ) (event : Event O) (made seen : List (Row M O)) → who ≢ 0 → MayPost fetched event → ∥ HasFetched receiver actors who fetched made seen ∥₁ → is_addressed receiver (mails seen) who event ≡ true
  asked_addressed fetched event made seen ne may h = ∥∥₁_elim h (hlevel props) (addressed_so fetched event made seen ne may)
