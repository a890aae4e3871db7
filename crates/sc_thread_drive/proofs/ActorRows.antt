-- Lines of one row, from what an act did.
use Rattle.std.proofs.Common.{◌≡◌, ◌≢◌, ℕ, suc, ◌<◌, Bool, true, false, eqb, cond, List, [], ◌∷◌, length, get_or, refl, sym, ap, ◌∙◌, arith, Option, Some, None}
use Rattle.std.proofs.lemmas.Bool.{eqb-true}
use Rattle.std.specs.Prelude.{option_and_then, Ok, Err}
use Rattle.sc_actor.specs.declared.actors.Actor.{Ghosts}
use Rattle.sc_actor.specs.declared.actors.Parcel.{Ghosts as MailGhosts}
use Rattle.sc_actor.specs.declared.actors.Seat.{Seat}
use Rattle.sc_actor.specs.declared.rows.Event.{Event}
use Rattle.sc_actor.specs.declared.rows.Event.TheVariants.{Deliver}
use Rattle.sc_actor.specs.declared.schedules.Line.TheVariants.{Deliver as DeliverLine}
use Rattle.sc_actor.specs.Mail.{has_crashed}
use Rattle.sc_actor.specs.System.{acts, row_of, waiting, kth}
use Rattle.sc_actor.specs.Walk.{line_row}
use Rattle.sc_thread_ledger.specs.Pending.{kth_pending}
use Rattle.sc_thread_ports.specs.declared.exchange.ports.Port.{Port}
use Rattle.sc_thread_ports.specs.exchange.Ports.{seen}
use Rattle.sc_thread_work.specs.declared.shell.shells.Shell.{Shell}
use Rattle.sc_thread_work.specs.declared.shell.turns.Turn.TheVariants.{Did, Empty, Full, Spent, OutOfMemory}
use Rattle.sc_thread_workers.specs.Crews.{crew_numbers}
use Rattle.sc_thread_drive.specs.Numbers.{is_in}
use Rattle.sc_thread_ledger.specs.declared.errors.PostError.TheVariants.{JournalFull, OutOfMemory as NoMemory}
use Rattle.sc_thread_drive.specs.Companies.{IsCompany}
use Rattle.sc_thread_drive.specs.Acts.{HasHalted, AfterEvent, AfterTurn}
use Rattle.sc_thread_drive.specs.Stepping.{IsPlace, IsNowhere, Stepped, unless_crashed}
use Rattle.sc_thread_drive.proofs.Crashes.{both_out}
use Rattle.sc_thread_drive.proofs.SystemWords.{sys, acts_at, crashed_at, waiting_at, waiting_none, acts_none, waiting_crashed}
use Rattle.sc_thread_workers.proofs.ChangedLists.{one_of}

module _ {A M O : Type 0} {g : Ghosts A M O} {h : MailGhosts M} where
  -- no shell has the number
  pub nowhere : (ss : List (Shell A M O g h)) (who : ℕ) → ((k : ℕ) (d : Shell A M O g h) → k < length ss → (get_or ss k d).port.who ≢ who) → is_in who (crew_numbers ss) ≡ false
  nowhere [] who none = refl
  nowhere (s ∷ ss) who none =
      both_out (eqb who s.port.who) (is_in who (crew_numbers ss)) (by (eqb who s.port.who) refl) (nowhere ss who (λ k d lt. none (suc k) d (omega (arith, lt))))
    where
      by : (b : Bool) → eqb who s.port.who ≡ b → eqb who s.port.who ≡ false
      by true e = absurd (none 0 s (omega arith) (sym (eqb-true who s.port.who e)))
      by false e = e

  module _ (words : ℕ → ℕ → ℕ × ℕ) (births : List (Seat A)) (net next : Port M O h) (ss after : List (Shell A M O g h)) (c : IsCompany births net ss) where
    -- an event of an actor that is not there
    pub happens_nowhere : (who : ℕ) (event : Event O) → IsNowhere ss who → Stepped (sys words births net ss c) (unless_crashed (sys words births net ss c) (seen net) who event) net net ss (Ok false)
    happens_nowhere who event out = (c, by (has_crashed (seen net) who), refl)
      where
        by : (b : Bool) → cond b None (acts (sys words births net ss c) (seen net) who event) ≡ None
        by true = refl
        by false = acts_none words births net ss c who (seen net) event out

    module _ (who place : ℕ) (at : IsPlace ss who place) where
      d : Shell A M O g h
      d = one_of ss place at.inside

      abbrev e : Seat A
      e = record { who = 0; actor = d.actor }

      -- the shell records whether the actor has crashed
      pub halted : (b : Bool) → HasHalted ss place b → has_crashed (seen net) who ≡ b
      halted b is = ap (has_crashed (seen net)) (sym (at.number d)) ∙ (crashed_at words births net ss c place at.inside d ∙ is d)

      act_is : (event : Event O) → acts (sys words births net ss c) (seen net) who event ≡ Some (row_of g.table (get_or births place e) (seen net) event)
      act_is event = ap (λ n. acts (sys words births net ss c) (seen net) n event) (sym (at.number d)) ∙ acts_at words births net ss c place at.inside d e (seen net) event

      may_is : (event : Event O) → HasHalted ss place false → unless_crashed (sys words births net ss c) (seen net) who event ≡ Some (row_of g.table (get_or births place e) (seen net) event)
      may_is event runs = ap (λ b. cond b None (acts (sys words births net ss c) (seen net) who event)) (halted false runs) ∙ act_is event

      -- it made its row
      pub happens_did : (event : Event O) (n : ℕ) → AfterEvent births place event net next ss after (Did n) → Stepped (sys words births net ss c) (unless_crashed (sys words births net ss c) (seen net) who event) net next after (Ok true)
      happens_did event n t = (t.0, (row_of g.table (get_or births place e) (seen net) event, may_is event t.3, t.1 e), t.2)

      -- its row would pass the limit
      pub happens_full : (event : Event O) (n : ℕ) → AfterEvent births place event net next ss after (Full n) → Stepped (sys words births net ss c) (unless_crashed (sys words births net ss c) (seen net) who event) net next after (Err (JournalFull n))
      happens_full event n t = ((row_of g.table (get_or births place e) (seen net) event, may_is event t.2, t.1 e), t.0)

      -- the actor has crashed
      pub happens_spent : (event : Event O) → AfterEvent births place event net next ss after Spent → Stepped (sys words births net ss c) (unless_crashed (sys words births net ss c) (seen net) who event) net next after (Ok false)
      happens_spent event t = (t.0, ap (λ b. cond b None (acts (sys words births net ss c) (seen net) who event)) (halted true t.2), t.1)

      -- the actor has crashed, and nothing was done
      pub happens_halted : (event : Event O) → HasHalted ss place true → Stepped (sys words births net ss c) (unless_crashed (sys words births net ss c) (seen net) who event) net net ss (Ok false)
      happens_halted event is = (c, ap (λ b. cond b None (acts (sys words births net ss c) (seen net) who event)) (halted true is), refl)

      -- memory ran out
      pub happens_lacks : (event : Event O) → HasHalted ss place false → Stepped (sys words births net ss c) (unless_crashed (sys words births net ss c) (seen net) who event) net next after (Err NoMemory)
      happens_lacks event runs = (row_of g.table (get_or births place e) (seen net) event, may_is event runs)

      -- memory ran out at an event of an actor that has not crashed
      pub text_lacks : (event : Event O) → Stepped (sys words births net ss c) (acts (sys words births net ss c) (seen net) who event) net next after (Err NoMemory)
      text_lacks event = (row_of g.table (get_or births place e) (seen net) event, act_is event)

      -- a Go, of an actor that has not crashed
      pub event_answers_did : (event : Event O) (n : ℕ) → AfterEvent births place event net next ss after (Did n) → Stepped (sys words births net ss c) (acts (sys words births net ss c) (seen net) who event) net next after (Ok true)
      event_answers_did event n t = (t.0, (row_of g.table (get_or births place e) (seen net) event, act_is event, t.1 e), t.2)

      -- its row would pass the limit
      pub full_text : (event : Event O) (n : ℕ) → AfterEvent births place event net next ss after (Full n) → Stepped (sys words births net ss c) (acts (sys words births net ss c) (seen net) who event) net next after (Err (JournalFull n))
      full_text event n t = ((row_of g.table (get_or births place e) (seen net) event, act_is event, t.1 e), t.0)

      -- the k-th pending mail
      kth_at : (k : ℕ) (o : Option ℕ) → kth_pending h.receiver net.actors (seen net) (get_or ss place d).port.who k ≡ o → kth (waiting (sys words births net ss c) (seen net) (Some who)) k ≡ o
      kth_at k o is = ap (λ n. kth (waiting (sys words births net ss c) (seen net) (Some n)) k) (sym (at.number d)) ∙ (sym (waiting_at words births net ss c place at.inside d (seen net) k) ∙ is)

      delivers : (k number : ℕ) → kth_pending h.receiver net.actors (seen net) (get_or ss place d).port.who k ≡ Some number → line_row (sys words births net ss c) (seen net) (DeliverLine who k) ≡ Some (row_of g.table (get_or births place e) (seen net) (Deliver number))
      delivers k number is = ap (option_and_then (λ mail. acts (sys words births net ss c) (seen net) who (Deliver mail))) (kth_at k (Some number) is) ∙ act_is (Deliver number)

      -- a mail was delivered
      pub delivers_did : (k n : ℕ) → AfterTurn births place k net next ss after (Did n) → Stepped (sys words births net ss c) (line_row (sys words births net ss c) (seen net) (DeliverLine who k)) net next after (Ok true)
      delivers_did k n t = (t.0, (row_of g.table (get_or births place e) (seen net) (Deliver t.1.0), delivers k t.1.0 (t.1.1 d), t.1.2 e), t.2)

      -- its row would pass the limit
      pub delivers_full : (k n : ℕ) → AfterTurn births place k net next ss after (Full n) → Stepped (sys words births net ss c) (line_row (sys words births net ss c) (seen net) (DeliverLine who k)) net next after (Err (JournalFull n))
      delivers_full k n t = ((row_of g.table (get_or births place e) (seen net) (Deliver t.1.0), delivers k t.1.0 (t.1.1 d), t.1.2 e), t.0)

      -- memory ran out, with a mail pending
      pub delivers_lacks : (k : ℕ) → AfterTurn births place k net next ss after OutOfMemory → Stepped (sys words births net ss c) (line_row (sys words births net ss c) (seen net) (DeliverLine who k)) net next after (Err NoMemory)
      delivers_lacks k t = by (kth_pending h.receiver net.actors (seen net) (get_or ss place d).port.who k) refl
        where
          by : (o : Option ℕ) → kth_pending h.receiver net.actors (seen net) (get_or ss place d).port.who k ≡ o → Stepped (sys words births net ss c) (line_row (sys words births net ss c) (seen net) (DeliverLine who k)) net next after (Err NoMemory)
          by None is = absurd (t d is)
          by (Some number) is = (row_of g.table (get_or births place e) (seen net) (Deliver number), delivers k number is)

      -- no k-th mail is pending
      pub serves_empty : (k n : ℕ) → AfterTurn births place k net next ss after (Empty n) → kth (waiting (sys words births net ss c) (seen net) (Some who)) k ≡ None
      serves_empty k n t = kth_at k None (t.2 d)

      -- nor for an actor that has crashed
      pub serves_spent : (k : ℕ) → AfterTurn births place k net next ss after Spent → kth (waiting (sys words births net ss c) (seen net) (Some who)) k ≡ None
      serves_spent k t = waiting_crashed words births net ss c who k (seen net) (halted true t.2)

      -- too few are pending
      pub delivers_empty : (k n : ℕ) → AfterTurn births place k net next ss after (Empty n) → Stepped (sys words births net ss c) (line_row (sys words births net ss c) (seen net) (DeliverLine who k)) net next after (Ok false)
      delivers_empty k n t = (t.0, ap (option_and_then (λ mail. acts (sys words births net ss c) (seen net) who (Deliver mail))) (serves_empty k n t), t.1)

      -- the actor has crashed, and nothing is pending for it
      pub delivers_spent : (k : ℕ) → AfterTurn births place k net next ss after Spent → Stepped (sys words births net ss c) (line_row (sys words births net ss c) (seen net) (DeliverLine who k)) net next after (Ok false)
      delivers_spent k t = (t.0, ap (option_and_then (λ mail. acts (sys words births net ss c) (seen net) who (Deliver mail))) (serves_spent k t), t.1)

    -- an actor that is not there
    pub tells_nowhere : (who : ℕ) (event : Event O) → IsNowhere ss who → Stepped (sys words births net ss c) (acts (sys words births net ss c) (seen net) who event) net net ss (Ok false)
    tells_nowhere who event out = (c, acts_none words births net ss c who (seen net) event out, refl)

    -- mail of an actor that is not there
    pub delivers_nowhere : (who k : ℕ) → IsNowhere ss who → Stepped (sys words births net ss c) (line_row (sys words births net ss c) (seen net) (DeliverLine who k)) net net ss (Ok false)
    delivers_nowhere who k out = (c, ap (option_and_then (λ mail. acts (sys words births net ss c) (seen net) who (Deliver mail))) (waiting_none words births net ss c who k (seen net) out), refl)

    -- mails are counted from 1
    pub delivers_none : (who : ℕ) → Stepped (sys words births net ss c) (line_row (sys words births net ss c) (seen net) (DeliverLine who 0)) net net ss (Ok false)
    delivers_none who = (c, refl, refl)
