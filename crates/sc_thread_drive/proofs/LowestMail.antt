-- The lowest pending mail, to the exchange and to the system.
use Rattle.std.proofs.Common.{◌≡◌, ℕ, zero, suc, ◌<◌, ◌≤◌, true, false, eqb, not, ◌&&◌, List, length, get_or, sym, ap, ◌∙◌, subst, arith, Some, None, Option, IfSome}
use Rattle.std.specs.Prelude.{slice_get, is_none}
use Rattle.std.specs.List.{list_any}
use Rattle.std.proofs.lemmas.Bool.{and_parts, not-true}
use Rattle.sc_actor.specs.declared.actors.Actor.{Ghosts}
use Rattle.sc_actor.specs.declared.actors.Parcel.{Ghosts as MailGhosts}
use Rattle.sc_actor.specs.declared.actors.Seat.{Seat}
use Rattle.sc_actor.specs.declared.rows.Row.{Row}
use Rattle.sc_actor.specs.Mail.{mails, copies, numbered, is_for, may_get, has_crashed}
use Rattle.sc_actor.specs.System.{numbers_of, waiting, kth}
use Rattle.sc_actor.specs.Walk.{is_quiet}
use Rattle.sc_actor.proofs.PendingLemmas.{pending_sound, first_own, wide_none}
use Rattle.sc_thread_ledger.specs.Pending.{upto, kth_pending}
use Rattle.sc_thread_ports.specs.declared.exchange.ports.Port.{Port}
use Rattle.sc_thread_ports.specs.exchange.Ports.{seen}
use Rattle.sc_thread_work.specs.declared.shell.shells.Shell.{Shell}
use Rattle.sc_thread_workers.specs.RoundEnds.{IsFirst}
use Rattle.sc_thread_drive.specs.Companies.{IsCompany}
use Rattle.sc_thread_drive.specs.Stepping.{IsPlace}
use Rattle.sc_thread_drive.specs.Lowest.{Lowest, FindsLowest, IsReceiverAt}
use Rattle.sc_thread_drive.proofs.SystemWords.{sys, upto_has, births_have, births_long}
use Rattle.sc_thread_drive.proofs.ActRows.{birth_number}
use Rattle.sc_thread_drive.proofs.FreeRows.{in_at, flip_in}
use Rattle.sc_thread_workers.proofs.ChangedLists.{one_of}

module _ {A M O : Type 0} {g : Ghosts A M O} {h : MailGhosts M} where
  module _ (words : ℕ → ℕ → ℕ × ℕ) (births : List (Seat A)) (net : Port M O h) (ss : List (Shell A M O g h)) (c : IsCompany births net ss) (rows : List (Row M O)) where
    -- an actor of the system is one of the exchange
    pub wider : (m : M) → may_get (numbers_of births) rows (h.receiver m) ≡ true → may_get (upto net.actors) rows (h.receiver m) ≡ true
    wider m t =
        let w = h.receiver m in
        let parts = and_parts (list_any (λ a. eqb a w) (numbers_of births)) (not (has_crashed rows w)) t in
        let place = in_at w ss (ap (λ l. list_any (λ v. eqb w v) l) c.born ∙ flip_in w (numbers_of births) parts.0) in
        let d = one_of ss place.0 place.1 in
        let most : w ≤ net.actors = subst (λ v. v ≤ net.actors) (place.2 d) (c.within place.0 d place.1) in
        let least : 0 < w = subst (λ v. 0 < v) (place.2 d) (get_or ss place.0 d).numbered in
        λ i. upto_has net.actors w least most i && parts.1 i

    -- nothing is pending to the exchange
    pub none_quiet : kth_pending h.receiver net.actors rows 0 1 ≡ None → is_quiet (sys words births net ss c) rows ≡ true
    none_quiet none = wide_none (is_for h.receiver (upto net.actors) rows None) (is_for h.receiver (numbers_of births) rows None) wider 1 (mails rows) (copies rows) (ap is_none none)

    -- the lowest to the exchange, where an actor of the system gets it
    pub first_same : (number : ℕ) (mail : M) (place : ℕ) → IsPlace ss (h.receiver mail) place → kth_pending h.receiver net.actors rows 0 1 ≡ Some number → numbered (mails rows) number ≡ Some mail → kth (waiting (sys words births net ss c) rows None) 1 ≡ Some number
    first_same zero mail place at first sent = (let bad : None ≡ Some mail = sent in cc)
    first_same (suc at_place) mail place at first sent =
        first_own (is_for h.receiver (upto net.actors) rows None) (is_for h.receiver (numbers_of births) rows None) wider 1 (mails rows) (copies rows) (suc at_place) at_place mail first (omega arith) sent may
      where
        d : Shell A M O g h
        d = one_of ss place at.inside

        e : Seat A
        e = record { who = 0; actor = d.actor }

        born : (get_or births place e).who ≡ h.receiver mail
        born = birth_number births net ss place d e c at.inside ∙ at.number d

        crashed : has_crashed rows (h.receiver mail) ≡ false
        crashed =
            let p = pending_sound (is_for h.receiver (upto net.actors) rows None) 1 (mails rows) (copies rows) 0 (suc at_place) first in
            let here : p.place ≡ at_place = omega (arith, p.number_is) in
            let some : Some p.mail ≡ Some mail = sym p.at ∙ (ap (slice_get (mails rows)) here ∙ sent) in
            let same : p.mail ≡ mail = cc in
            let runs = (and_parts (list_any (λ a. eqb a (h.receiver p.mail)) (upto net.actors)) (not (has_crashed rows (h.receiver p.mail))) p.passes).1 in
            not-true (has_crashed rows (h.receiver mail)) (subst (λ m. not (has_crashed rows (h.receiver m)) ≡ true) same runs)

        may : may_get (numbers_of births) rows (h.receiver mail) ≡ true
        may = λ i. subst (λ v. list_any (λ a. eqb a v) (numbers_of births) ≡ true) born (births_have births place e (omega (arith, at.inside, births_long words births net ss c))) i && ap not crashed i

  -- what was found when all gathered, and the place of the shell that gets it
  module _ (words : ℕ → ℕ → ℕ × ℕ) (births : List (Seat A)) (net : Port M O h) (ss : List (Shell A M O g h)) (c : IsCompany births net ss) where
    lowest_placed : (found : Option ℕ) (place : Option ℕ) → IsFirst net found → IsReceiverAt ss found place → Lowest (sys words births net ss c) net ss place
    lowest_placed None None f p = none_quiet words births net ss c (seen net) (ap (λ n. kth_pending h.receiver net.actors (seen net) n 1) (sym c.first) ∙ f)
    lowest_placed None (Some place) f p = absurd p
    lowest_placed (Some who) None f p = absurd p
    lowest_placed (Some who) (Some place) f at = (
        let here : IsPlace ss (h.receiver f.mail) place = subst (λ n. IsPlace ss n place) (sym f.goes) at in record {
          number = f.number;
          mail = f.mail;
          first = first_same words births net ss c (seen net) f.number f.mail place here (ap (λ n. kth_pending h.receiver net.actors (seen net) n 1) (sym c.first) ∙ f.first) f.sent;
          sent = f.sent;
          at = here;
        })

  placed_inside : (ss : List (Shell A M O g h)) (found : Option ℕ) (place : Option ℕ) → IsReceiverAt ss found place → IfSome place (λ k. k < length ss)
  placed_inside ss None None p = tt
  placed_inside ss None (Some place) p = absurd p
  placed_inside ss (Some who) None p = tt
  placed_inside ss (Some who) (Some place) p = p.inside

  -- whatever the births are
  pub finds_so : (net : Port M O h) (ss : List (Shell A M O g h)) (found : Option ℕ) (place : Option ℕ) → IsFirst net found → IsReceiverAt ss found place → FindsLowest net ss place
  finds_so net ss found place f p = record { inside = placed_inside ss found place p; lowest = λ words births c. lowest_placed words births net ss c found place f p }
