-- The tasks of spaced lines, and what is known of the rows where each of them is next.
use Rattle.std.proofs.Common.{◌≡◌, ℕ, ◌≤◌, List, [], ◌∷◌, ◌++◌, true}
use Rattle.std.specs.List.{flat_map}
use Rattle.sc_base.specs.Definitions.{Each}
use Rattle.sc_actor.specs.declared.rows.Row.{Row}
use Rattle.sc_actor.specs.declared.schedules.Line.{Line}
use Rattle.sc_actor.specs.declared.schedules.Line.TheVariants.{Go as GoLine, Deliver as DeliverLine, Drop as DropLine, Again as AgainLine, Tick as TickLine, Crash as CrashLine, Told as ToldLine, Settle, Free, Storm}
use Rattle.sc_actor.specs.Definitions.{is_delivery, System, Task, Once, Settles, Frees, Storms, Allows, is_quiet, tasks_of}
use Rattle.sc_live_orderly.specs.OrderlyDefinitions.{HasRoom, Said, Nothing, Goes, AnOrder, MayGo, MayOrder, AreSpaced, IsClear}
use Rattle.sc_live_orderly.proofs.RowsInTime.{clear_row, clear_quiet, delivery_untold, never_quiet}

-- tasks are spaced, and each of many deliveries has room for this number of them
abbrev pub AreTasksSpaced : {O : Type 0} → ℕ → Said → List (Task O) → Type 0
AreTasksSpaced total said [] = Unit {0}
AreTasksSpaced total said (Settles left ∷ tasks) = (total ≤ left) × AreTasksSpaced total Nothing tasks
AreTasksSpaced total said (Frees left ∷ tasks) = (total ≤ left) × AreTasksSpaced total Nothing tasks
AreTasksSpaced total said (Once (GoLine who) ∷ tasks) = MayGo said × AreTasksSpaced total Goes tasks
AreTasksSpaced total said (Once (ToldLine who order) ∷ tasks) = MayOrder said × AreTasksSpaced total AnOrder tasks
AreTasksSpaced total said (Once (Settle most) ∷ tasks) = ⊥
AreTasksSpaced total said (Once (Free most workers) ∷ tasks) = ⊥
AreTasksSpaced total said (Once (DeliverLine who k) ∷ tasks) = (k ≡ 1) × AreTasksSpaced total said tasks
AreTasksSpaced total said (Once (DropLine who k) ∷ tasks) = ⊥
AreTasksSpaced total said (Once (AgainLine mail) ∷ tasks) = ⊥
AreTasksSpaced total said (Once (TickLine who) ∷ tasks) = ⊥
AreTasksSpaced total said (Once (CrashLine who) ∷ tasks) = ⊥
AreTasksSpaced total said (Once (Storm number most) ∷ tasks) = ⊥
AreTasksSpaced total said (Storms words ∷ tasks) = ⊥

pub lines_spaced : {O : Type 0} (words : ℕ → ℕ → ℕ × ℕ) (total : ℕ) (said : Said) (lines : List (Line O)) → AreSpaced said lines → Each (HasRoom total) lines → AreTasksSpaced total said (flat_map (tasks_of words) lines)
lines_spaced words total said [] apart room = tt
lines_spaced words total said (Settle most ∷ lines) apart room = (room.0, lines_spaced words total Nothing lines apart room.1)
lines_spaced words total said (Free most workers ∷ lines) apart room = (room.0, lines_spaced words total Nothing lines apart room.1)
lines_spaced words total said (GoLine who ∷ lines) apart room = (apart.0, lines_spaced words total Goes lines apart.1 room.1)
lines_spaced words total said (ToldLine who order ∷ lines) apart room = (apart.0, lines_spaced words total AnOrder lines apart.1 room.1)
lines_spaced words total said (DeliverLine who k ∷ lines) apart room = (apart.0, lines_spaced words total said lines apart.1 room.1)
lines_spaced words total said (DropLine who k ∷ lines) apart room = absurd apart
lines_spaced words total said (AgainLine mail ∷ lines) apart room = absurd apart
lines_spaced words total said (TickLine who ∷ lines) apart room = absurd apart
lines_spaced words total said (CrashLine who ∷ lines) apart room = absurd apart
lines_spaced words total said (Storm number most ∷ lines) apart room = absurd apart

module _ {A M O : Type 0} (s : System A M O) where
  -- what is known of the rows by what lines said since the last deliveries
  abbrev pub Knows : Said → List (Row M O) → Type 0
  Knows Nothing rows = is_quiet s rows ≡ true
  Knows Goes rows = IsClear s rows
  Knows AnOrder rows = Unit {0}

  -- where the walk stands: an order is next in a quiet journal, and a line of many deliveries has room for what is owed
  abbrev pub Stands : ℕ → ℕ → List (Row M O) → List (Task O) → Type 0
  Stands owes total rows [] = Unit {0}
  Stands owes total rows (Once (GoLine who) ∷ tasks) = IsClear s rows × AreTasksSpaced total Goes tasks
  Stands owes total rows (Once (ToldLine who order) ∷ tasks) = (is_quiet s rows ≡ true) × AreTasksSpaced total AnOrder tasks
  Stands owes total rows (Settles left ∷ tasks) = (owes ≤ left) × AreTasksSpaced total Nothing tasks
  Stands owes total rows (Frees left ∷ tasks) = (owes ≤ left) × AreTasksSpaced total Nothing tasks
  Stands owes total rows (Once (Settle most) ∷ tasks) = ⊥
  Stands owes total rows (Once (Free most workers) ∷ tasks) = ⊥
  Stands owes total rows (Once (DeliverLine who k) ∷ tasks) = (k ≡ 1) × ((said : Said) × (Knows said rows × AreTasksSpaced total said tasks))
  Stands owes total rows (Once (DropLine who k) ∷ tasks) = ⊥
  Stands owes total rows (Once (AgainLine mail) ∷ tasks) = ⊥
  Stands owes total rows (Once (TickLine who) ∷ tasks) = ⊥
  Stands owes total rows (Once (CrashLine who) ∷ tasks) = ⊥
  Stands owes total rows (Once (Storm number most) ∷ tasks) = ⊥
  Stands owes total rows (Storms words ∷ tasks) = ⊥

  pub may_go : (said : Said) (rows : List (Row M O)) → MayGo said → Knows said rows → IsClear s rows
  may_go Nothing rows may known = clear_quiet s rows known
  may_go Goes rows may known = known
  may_go AnOrder rows may known = absurd may

  pub may_order : (said : Said) (rows : List (Row M O)) → MayOrder said → Knows said rows → is_quiet s rows ≡ true
  may_order Nothing rows may known = known
  may_order Goes rows may known = absurd may
  may_order AnOrder rows may known = absurd may

  -- a delivery to one actor leaves what is known of the rows
  pub knows_delivery : (rows : List (Row M O)) (row : Row M O) (who k : ℕ) → k ≡ 1 → Allows s rows (Once (DeliverLine who k)) row → (said : Said) → is_delivery row.event ≡ true → Knows said rows → Knows said (rows ++ row ∷ [])
  knows_delivery rows row who k one may Nothing d quiet = absurd (never_quiet s rows who k row one may quiet)
  knows_delivery rows row who k one may Goes d clear = clear_row s rows row (delivery_untold s row.event d) clear
  knows_delivery rows row who k one may AnOrder d known = tt
