-- Rows of a plain schedule come in time, since none gives an order.
use Rattle.std.proofs.Common.{◌≡◌, ℕ, List, [], false, refl, sym, ap, subst}
use Rattle.sc_base.specs.Definitions.{Each}
use Rattle.sc_actor.specs.declared.rows.Row.{Row}
use Rattle.sc_actor.specs.declared.rows.Event.{Event}
use Rattle.sc_actor.specs.declared.rows.Event.TheVariants.{Deliver, Go}
use Rattle.sc_actor.specs.declared.schedules.Line.{Line}
use Rattle.sc_actor.specs.Definitions.{System, IsLawful}
use Rattle.sc_live_orderly.specs.OrderlyDefinitions.{IsPlainLine, IsInOrder, is_told, IsClear, ComesInTime, AreInTime}
use Rattle.sc_live_orderly.proofs.RowsOfSchedules.{orderly, by_rows, orderly_is_calm}
use Rattle.sc_live_orderly.proofs.RowsInTime.{in_time_row, none_in_time, clear_row, clear_quiet}

module _ {A M O : Type 0} (s : System A M O) where
  -- what comes in order gives no order
  untold_event : (rows : List (Row M O)) (who : ℕ) (event : Event O) → IsInOrder s rows who event → is_told event ≡ false
  untold_event rows who Go fine = refl
  untold_event rows who (Deliver number) fine = refl
  untold_event rows who _ fine = absurd fine

  comes : (rows : List (Row M O)) (who : ℕ) (event : Event O) → IsClear s rows → IsInOrder s rows who event → ComesInTime s rows event
  comes rows who Go clear fine = clear
  comes rows who (Deliver number) clear fine = tt
  comes rows who _ clear fine = absurd fine

  -- in a lawful journal of a plain schedule each row comes in time
  pub plain_in_time : (lines : List (Line O)) → Each IsPlainLine lines → (journal : List (Row M O)) → IsLawful s lines journal → AreInTime s journal
  plain_in_time lines plain journal lawful =
      (by_rows s lines (λ rows. AreInTime s rows × IsClear s rows) (none_in_time s, clear_quiet s [] refl)
      (λ rows row l now. (
      let o = orderly s lines rows row plain l in
      let fact : o.event ≡ row.event = sym (ap (λ (r : Row M O). r.event) o.row_is) in
      let untold : is_told row.event ≡ false = subst (λ (e : Event O). is_told e ≡ false) fact (untold_event rows o.seat.who o.event o.in_order) in (
        in_time_row s rows row now.0 (orderly_is_calm s rows row o) (subst (λ (e : Event O). ComesInTime s rows e) fact (comes rows o.seat.who o.event now.1 o.in_order)),
        clear_row s rows row untold now.1,
      )))
      journal lawful).0
