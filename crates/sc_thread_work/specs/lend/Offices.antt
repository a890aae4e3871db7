-- What the contracts say of an office, of its lender and of its helpers.
use Rattle.std.specs.Prelude.{◌≡◌, ℕ, ◌+◌, ◌^◌, ◌≤◌, ◌⊎◌, List, length}
use Rattle.crossbeam_queue.specs.Passes.{Pass, view, IsPassOf, ruled_capacity}
use Rattle.sc_thread_work.specs.declared.lend.rule.Loan.{Loan}
use Rattle.sc_thread_work.specs.declared.lend.rule.Clerk.{Clerk}
use Rattle.sc_thread_work.specs.declared.lend.office.Office.{Office}
use Rattle.sc_thread_work.specs.declared.lend.lender.Lender.{Lender}

module _ {T : Type 0} where
  -- All that the lender has lent, in the order of the numbers.
  abbrev pub lent_by : Lender T → List T
  lent_by l = (view l.pass).lent

  -- The lender belongs to this office.
  abbrev pub IsLenderOf : Office T → Lender T → Type 0
  IsLenderOf office l = IsPassOf office.bench l.pass

  -- The pass is that of a helper of this office.
  abbrev pub IsHelperOf : Office T → Pass (Loan T) (Clerk T) → Type 0
  IsHelperOf office p = IsPassOf office.bench p

  -- How many loans can be out in this office at one time.
  abbrev pub room_of : Office T → ℕ
  room_of office = ruled_capacity office.bench

  -- The flag `flag` is the one whose setting closes this office.
  abbrev pub IsClosed : Office T → ℕ → Type 0
  IsClosed office flag = flag ≡ office.closed.id

  -- How many loans the lender has taken back.
  abbrev pub collected_by : Lender T → ℕ
  collected_by l = (view l.pass).out

  -- Why nothing can be lent: as many loans are lent and not taken back as there is room for, or no number is left.
  abbrev pub IsFull : Office T → Lender T → Type 0
  IsFull office l = (room_of office + collected_by l ≤ length (lent_by l)) ⊎ (length (lent_by l) + 1 ≡ 2 ^ 64)
