-- Rows that come in time: they are tidy, and what is pending is owed.
use Rattle.std.proofs.Common.{◌≡◌, ℕ, List, [], ◌∷◌, ◌++◌, Bool, true, false, true≢false, cond, Some, refl, sym, ◌∙◌, ap, subst, append_assoc, append-nil, ◌⊎◌, inl, inr}
use Rattle.sc_actor.specs.declared.rows.Row.{Row}
use Rattle.sc_actor.specs.declared.rows.Event.{Event}
use Rattle.sc_actor.specs.declared.rows.Event.TheVariants.{Deliver, Go, Told}
use Rattle.sc_actor.specs.declared.schedules.Line.TheVariants.{Deliver as DeliverLine}
use Rattle.sc_actor.specs.Definitions.{is_delivery, System, acts, waiting, kth, Once, Allows, is_quiet}
use Rattle.sc_actor.proofs.Lemmas.{some_waits}
use Rattle.sc_base.proofs.Lemmas.{and_then-some}
use Rattle.sc_live_orderly.specs.OrderlyDefinitions.{IsCalmRow, IsTidy, is_told, IsClear, ComesInTime, AreInTime}
use Rattle.sc_live_orderly.proofs.RowsOfSchedules.{Each-append}
use Rattle.sc_live_orderly.proofs.RemainingMail.{tidy-row}

-- a list with one more behind ends in it, or goes on behind what stands before
pub snoc_parts : {X : Type 0} (xs : List X) (last : X) (before : List X) (x : X) (after : List X) → xs ++ last ∷ [] ≡ before ++ x ∷ after → ((before ≡ xs) × (x ≡ last)) ⊎ ((rest : List X) × (xs ≡ before ++ x ∷ rest))
snoc_parts [] last [] x after e = inl (refl, cc)
snoc_parts [] last (b ∷ []) x after e = cc
snoc_parts [] last (b ∷ c ∷ before) x after e = cc
snoc_parts (y ∷ xs) last [] x after e = inr (xs, cc)
snoc_parts (y ∷ xs) last (b ∷ before) x after e =
    let head : y ≡ b = cc in
    let tail : xs ++ last ∷ [] ≡ before ++ x ∷ after = cc in
    elim (snoc_parts xs last before x after tail) [
      | inl p ↦ inl (ap (λ t. b ∷ t) p.0 ∙ ap (λ h. h ∷ xs) (sym head), p.1)
      | inr q ↦ inr (q.0, ap (λ t. y ∷ t) q.1 ∙ ap (λ h. h ∷ (before ++ x ∷ q.0)) head)
    ]

abbrev pub one_if : Bool → ℕ
one_if b = cond b 1 0

module _ {A M O : Type 0} (s : System A M O) where
  -- the first rows of rows in time
  pub in_time_before : (rows : List (Row M O)) (row : Row M O) → AreInTime s (rows ++ row ∷ []) → AreInTime s rows
  in_time_before rows row timely = λ before r after e.
      timely before r (after ++ row ∷ []) (ap (λ l. l ++ row ∷ []) e ∙ append_assoc before (r ∷ after) (row ∷ []))

  -- one more row in time
  pub in_time_row : (rows : List (Row M O)) (row : Row M O) → AreInTime s rows → IsCalmRow s rows row → ComesInTime s rows row.event → AreInTime s (rows ++ row ∷ [])
  in_time_row rows row timely calm comes = λ before r after e.
      elim (snoc_parts rows row before r after e) [
        | inl p ↦ subst (λ (b : List (Row M O)). IsCalmRow s b r × ComesInTime s b r.event) (sym p.0) (subst (λ (x : Row M O). IsCalmRow s rows x × ComesInTime s rows x.event) (sym p.1) (calm, comes))
        | inr q ↦ timely before r q.0 q.1
      ]

  pub timely_by : (rows : List (Row M O)) (row : Row M O) → AreInTime s rows → (event : Event O) → event ≡ row.event → IsCalmRow s rows row → ComesInTime s rows event → AreInTime s (rows ++ row ∷ [])
  timely_by rows row timely event fact calm comes = in_time_row rows row timely calm (subst (λ (e : Event O). ComesInTime s rows e) fact comes)

  -- what holds of no rows, and is kept by each that comes in time, holds of all rows in time
  pub by_time : (P : List (Row M O) → Type 0) → P [] → ((rows : List (Row M O)) (row : Row M O) → AreInTime s (rows ++ row ∷ []) → P rows → P (rows ++ row ∷ [])) → (journal : List (Row M O)) → AreInTime s journal → P journal
  by_time P none next journal timely = from [] journal timely none
    where
      first : (done : List (Row M O)) (row : Row M O) (more : List (Row M O)) → AreInTime s ((done ++ row ∷ []) ++ more) → AreInTime s (done ++ row ∷ [])
      first done row more t = λ before r after e. t before r (after ++ more) (ap (λ l. l ++ more) e ∙ append_assoc before (r ∷ after) more)

      from : (done more : List (Row M O)) → AreInTime s (done ++ more) → P done → P (done ++ more)
      from done [] t p = subst P (sym (append-nil done)) p
      from done (row ∷ more) t p =
          let shift : done ++ row ∷ more ≡ (done ++ row ∷ []) ++ more = sym (append_assoc done (row ∷ []) more) in
          let t' = subst (λ xs. AreInTime s xs) shift t in
          subst P (sym shift) (from (done ++ row ∷ []) more t' (next done row (first done row more t') p))

  -- the last row of rows in time
  pub last_in_time : (rows : List (Row M O)) (row : Row M O) → AreInTime s (rows ++ row ∷ []) → IsCalmRow s rows row × ComesInTime s rows row.event
  last_in_time rows row timely = timely rows row [] refl

  pub in_time_tidy : (journal : List (Row M O)) → AreInTime s journal → IsTidy journal
  in_time_tidy journal timely =
      by_time IsTidy (record { copies = tt; alive = λ who. refl }) (λ rows row t tidy. tidy-row s rows row tidy (last_in_time rows row t).0) journal timely

  -- a delivery gives no order, and comes in time
  pub delivery_untold : (event : Event O) → is_delivery event ≡ true → is_told event ≡ false
  delivery_untold (Told order) e = cc
  delivery_untold _ e = refl

  pub delivery_in_time : (rows : List (Row M O)) (event : Event O) → is_delivery event ≡ true → ComesInTime s rows event
  delivery_in_time rows Go e = cc
  delivery_in_time rows (Told order) e = cc
  delivery_in_time rows _ e = tt

  -- no mail is delivered to one where none is pending
  pub never_quiet : (rows : List (Row M O)) (who k : ℕ) (row : Row M O) → k ≡ 1 → Allows s rows (Once (DeliverLine who k)) row → is_quiet s rows ≡ true → ⊥
  never_quiet rows who k row one may quiet =
      let q = and_then-some (λ mail. acts s rows who (Deliver mail)) (kth (waiting s rows (Some who)) k) row may in
      true≢false (sym quiet ∙ some_waits s rows who q.0 (subst (λ (n : ℕ). kth (waiting s rows (Some who)) n ≡ Some q.0) one q.1))

  -- ---- since the last order

  pub clear_quiet : (rows : List (Row M O)) → is_quiet s rows ≡ true → IsClear s rows
  clear_quiet rows quiet = record { before = rows; after = []; rows_are = sym (append-nil rows); quiet = quiet; untold = tt }

  pub clear_row : (rows : List (Row M O)) (row : Row M O) → is_told row.event ≡ false → IsClear s rows → IsClear s (rows ++ row ∷ [])
  clear_row rows row untold clear = record {
    before = clear.before;
    after = clear.after ++ row ∷ [];
    rows_are = ap (λ l. l ++ row ∷ []) clear.rows_are ∙ append_assoc clear.before clear.after (row ∷ []);
    quiet = clear.quiet;
    untold = Each-append (λ (r : Row M O). is_told r.event ≡ false) clear.after (row ∷ []) clear.untold (untold, tt);
  }

  -- ---- no rows

  -- no row stands in the empty journal
  pub never : (before : List (Row M O)) (row : Row M O) (after : List (Row M O)) → [] ≡ before ++ row ∷ after → ⊥
  never [] row after e = cc
  never (x ∷ before) row after e = cc

  pub none_in_time : AreInTime s []
  none_in_time = λ before row after e. absurd (never before row after e)
