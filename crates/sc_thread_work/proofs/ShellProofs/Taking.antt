-- A turn is a fetch and an act.
use Rattle.std.proofs.Common.{◌≡◌, ℕ, ◌+◌, ◌<◌, ◌≤◌, false, List, [], ◌∷◌, ◌++◌, refl, sym, ap, ◌∙◌, subst, append_assoc, Option, None, Some}
use Rattle.std.proofs.lemmas.List.{append-nil}
use Rattle.sc_thread_ports.specs.turn.Turn.{StartsWith, StartsWith as Begins}
use Rattle.sc_thread_ports.proofs.TurnProofs.ListPrefixes.{starts_trans}
use Rattle.sc_actor.specs.declared.actors.Actor.{Ghosts}
use Rattle.sc_actor.specs.declared.actors.Parcel.{Ghosts as MailGhosts}
use Rattle.sc_actor.specs.declared.rows.Row.{Row}
use Rattle.sc_actor.specs.declared.rows.Event.{Event}
use Rattle.sc_actor.specs.declared.rows.Event.TheVariants.{Deliver, Drop, Again, Tick, Go, Told, Crash}
use Rattle.sc_actor.specs.declared.rows.Input.{Input}
use Rattle.sc_actor.specs.declared.rows.Input.TheVariants.{Got}
use Rattle.sc_actor.specs.Mail.{mails, numbered}
use Rattle.sc_actor.specs.Replay.{input_of, acted}
use Rattle.sc_actor.specs.Counted.{row_bytes, journal_bytes}
use Rattle.sc_thread_ledger.specs.Pending.{kth_pending}
use Rattle.sc_thread_ports.specs.declared.exchange.ports.Port.{Port}
use Rattle.sc_thread_ports.specs.exchange.BareRows.{rows_of}
use Rattle.sc_thread_ports.specs.exchange.Ports.{seen, made, Looked, Appended, MayPost}
use Rattle.sc_thread_ports.proofs.ExchangeProofs.Knowing.{stays_trans, looked_trans}
use Rattle.sc_thread_work.specs.declared.shell.turns.Turn.{Turn}
use Rattle.sc_thread_work.specs.declared.shell.turns.Turn.TheVariants.{Did, Empty, Full, Spent, OutOfMemory}
use Rattle.sc_thread_work.specs.shell.Answers.{MayHappen}
use Rattle.sc_thread_work.specs.shell.Shells.{State, Acts, Takes, Happens, Finds, row_at}

-- the input of an event that is no delivery does not depend on the mail
pub input_steady : {M O : Type 0} (event : Event O) → MayHappen event → (sent : List M) → input_of sent event ≡ input_of [] event
input_steady (Deliver number) may sent = absurd may
input_steady Tick may sent = refl
input_steady Go may sent = refl
input_steady (Told order) may sent = refl
input_steady Crash may sent = refl
input_steady (Drop number) may sent = absurd may
input_steady (Again number) may sent = absurd may

-- an event that may happen may be posted
pub may_post : {O : Type 0} (fetched : Option ℕ) (event : Event O) → MayHappen event → MayPost fetched event
may_post fetched (Deliver number) may = absurd may
may_post fetched Tick may = tt
may_post fetched Go may = tt
may_post fetched (Told order) may = tt
may_post fetched Crash may = tt
may_post fetched (Drop number) may = absurd may
may_post fetched (Again number) may = absurd may

module _ {M O : Type 0} {h : MailGhosts M} where
  appended_trans : (p q r : Port M O h) (row : Row M O) → Looked p q → Appended q r row → Appended p r row
  appended_trans p q r row a b = record {
    stays = stays_trans p q r a.stays b.stays;
    before = b.before;
    later = starts_trans b.before (seen q) (seen p) b.later a.later;
    seen = b.seen;
    made = b.made ∙ ap (λ l. l ++ row ∷ []) a.made;
  }

module _ {A M O : Type 0} {g : Ghosts A M O} {h : MailGhosts M} where
  row_same : (s m : State A M O g h) (event : Event O) (input : Option (Input M O)) → m.actor ≡ s.actor → m.port.who ≡ s.port.who → row_at m event input ≡ row_at s event input
  row_same s m event input a w = λ i. record { who = w i; event = event; sent = (acted g.table (a i) input).1 }

  own_was : (s m : State A M O g h) → Looked s.port m.port → rows_of m.port.who (seen m.port) ≡ made m.port → rows_of s.port.who (seen m.port) ≡ made s.port
  own_was s m l own = ap (λ n. rows_of n (seen m.port)) (sym l.stays.who) ∙ (own ∙ l.made)

  -- the mail was fetched, and then the actor acted on it
  pub takes_acts : (s m t : State A M O g h) (k number : ℕ) (mail : M) → s.spent ≡ false → m.actor ≡ s.actor → Looked s.port m.port → rows_of m.port.who (seen m.port) ≡ made m.port → kth_pending h.receiver s.port.actors (seen m.port) s.port.who k ≡ Some number →
      numbered (mails (seen m.port)) number ≡ Some mail → (r : Turn) → Acts m t (Deliver number) (Some (Got mail)) r → Takes s t k r
  takes_acts s m t k number mail free actor l true_own kth is (Did at) x =
      let row : Row M O = row_at m (Deliver number) (Some (Got mail)) in
      let same = row_same s m (Deliver number) (Some (Got mail)) actor l.stays.who in (
        free,
        record { rows = seen m.port; later = l.later; before = starts_trans (seen t.port) x.0.before (seen m.port) (row ∷ [], x.0.seen) x.0.later; own = own_was s m l true_own; number = number; mail = mail; kth = kth; mail_is = is },
        (subst (Appended s.port t.port) same (appended_trans s.port m.port t.port row l x.0), x.1, x.2 ∙ ap (λ a. (acted g.table a (Some (Got mail))).0) actor, x.3, x.4, x.5, subst (λ n. journal_bytes h.weighs (seen t.port) ≤ n) l.stays.exchange.2 x.6),
      )
  takes_acts s m t k number mail free actor l true_own kth is (Empty reported) x = absurd x
  takes_acts s m t k number mail free actor l true_own kth is (Full bytes) x =
      let same = row_same s m (Deliver number) (Some (Got mail)) actor l.stays.who in (
        free,
        record { rows = seen m.port; later = l.later; before = x.0.later; own = own_was s m l true_own; number = number; mail = mail; kth = kth; mail_is = is },
        (looked_trans s.port m.port t.port l x.0, (x.1.0, subst (λ (n : ℕ × ℕ). n.0 < journal_bytes h.weighs (seen t.port) + n.1) (λ i. (l.stays.exchange.2 i, row_bytes h.weighs (same i))) x.1.1), x.2, x.3, x.4),
      )
  takes_acts s m t k number mail free actor l true_own kth is Spent x = absurd x
  takes_acts s m t k number mail free actor l true_own kth is OutOfMemory x = (free, looked_trans s.port m.port t.port l x.0, x.1)

module _ {M O : Type 0} {h : MailGhosts M} where
  -- some mail was pending at a turn, and then the port may have seen more
  pub finds_at : (p m q : Port M O h) (k : ℕ) → Looked p m → Begins (seen q) (seen m) → (kth_pending h.receiver p.actors (seen m) p.who k ≡ None → ⊥) → Finds p q k
  finds_at p m q k l later some = record { rows = seen m; later = l.later; before = later; some = some }

module _ {A M O : Type 0} {g : Ghosts A M O} {h : MailGhosts M} where
  -- what an act that ran out of memory leaves the port: it may have seen more
  pub acts_later : (s t : State A M O g h) (event : Event O) (input : Option (Input M O)) (r : Turn) → r ≡ OutOfMemory → Acts s t event input r → Begins (seen t.port) (seen s.port)
  acts_later s t event input OutOfMemory e x = x.0.later
  acts_later s t event input (Did at) e x = (let bad : ⊥ = cc in absurd bad)
  acts_later s t event input (Empty reported) e x = absurd x
  acts_later s t event input (Full bytes) e x = (let bad : ⊥ = cc in absurd bad)
  acts_later s t event input Spent e x = absurd x
