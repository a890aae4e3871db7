-- Turns of one shell, one after the other.
use Rattle.std.proofs.Common.{◌≡◌, ℕ, zero, suc, ◌+◌, ⊎_elim, inl, inr, false, true≢false, List, [], ◌∷◌, length, get_or, refl, sym, ap, ◌∙◌, subst, arith, length-append, Some}
use Rattle.std.proofs.lemmas.List.{append-nil}
use Rattle.sc_thread_ports.specs.turn.Turn.{StartsWith}
use Rattle.sc_thread_ports.proofs.TurnProofs.ListPrefixes.{starts_trans}
use Rattle.sc_actor.specs.declared.actors.Actor.{Ghosts}
use Rattle.sc_actor.specs.declared.actors.Parcel.{Ghosts as MailGhosts}
use Rattle.sc_thread_ports.specs.declared.exchange.ports.Port.{Port}
use Rattle.sc_thread_ports.specs.exchange.Ports.{seen, made, SameExchange}
use Rattle.sc_thread_work.specs.declared.shell.shells.Shell.{Shell}
use Rattle.sc_thread_work.specs.declared.shell.turns.Turn.{Turn}
use Rattle.sc_thread_work.specs.declared.shell.turns.Turn.TheVariants.{Did, Empty, Full, Spent, OutOfMemory}
use Rattle.sc_thread_work.specs.shell.Shells.{Takes, state}
use Rattle.sc_thread_workers.specs.Crews.{GoesByDeliveries, AllGo, Took, TookRow, MadeRows, Worked, AllWorked, Passed, AllPassed, Sound, AreLater, AreStill, refusal}
use Rattle.sc_thread_workers.proofs.Crews.{goes_same, goes_trans, passed_full, all_go_trans, still_all_go}

module _ {A M O : Type 0} {g : Ghosts A M O} {h : MailGhosts M} where
  -- a turn that made a row delivered a mail
  pub row_did : (s t : Shell A M O g h) → TookRow s t → (at : ℕ) × ((s.spent ≡ false) × Takes (state s) (state t) 1 (Did at))
  row_did s t row = ⊎_elim (λ x. absurd (idle (ap (λ (y : Shell A M O g h). length (made y.port)) x.1))) (λ x. by x.1.0 x.0 x.1.1) row.took.acts
    where
      idle : length (made t.port) ≡ length (made s.port) → ⊥
      idle same = omega (arith, same, row.made)

      by : (r : Turn) → s.spent ≡ false → Takes (state s) (state t) 1 r → (at : ℕ) × ((s.spent ≡ false) × Takes (state s) (state t) 1 (Did at))
      by (Did at) free x = (at, (free, x))
      by (Empty reported) free x = absurd (idle (ap length x.1.0.made))
      by (Full bytes) free x = absurd (idle (ap length x.2.0.made))
      by Spent free x = absurd (true≢false (sym x.0 ∙ free))
      by OutOfMemory free x = absurd (idle (ap length x.1.made))

  -- after it the shell is not spent
  pub row_free : (s t : Shell A M O g h) → TookRow s t → t.spent ≡ false
  row_free s t row = (row_did s t row).1.1.2.3

  -- a shell has seen no less after a turn
  pub took_later : (s t : Shell A M O g h) → Took s t → StartsWith (seen t.port) (seen s.port)
  took_later s t took = ⊎_elim (λ x. same (ap (λ (y : Shell A M O g h). seen y.port) x.1)) (λ x. by x.1.0 x.1.1) took.acts
    where
      same : seen t.port ≡ seen s.port → StartsWith (seen t.port) (seen s.port)
      same e = ([], e ∙ sym (append-nil (seen s.port)))

      by : (r : Turn) → Takes (state s) (state t) 1 r → StartsWith (seen t.port) (seen s.port)
      by (Did at) x = starts_trans (seen t.port) x.2.0.before (seen s.port) (_, x.2.0.seen) x.2.0.later
      by (Empty reported) x = x.1.0.later
      by (Full bytes) x = x.2.0.later
      by Spent x = same (ap seen x.2)
      by OutOfMemory x = x.1.later

  pub rows_go : (n : ℕ) (s t : Shell A M O g h) → MadeRows n s t → GoesByDeliveries s t
  rows_go zero s t is = subst (GoesByDeliveries s) (sym is) (goes_same s)
  rows_go (suc n) s t w = goes_trans s w.0 t (rows_go n s w.0 w.1.0) w.1.1.took.goes

  pub rows_later : (n : ℕ) (s t : Shell A M O g h) → MadeRows n s t → StartsWith (seen t.port) (seen s.port)
  rows_later zero s t is = ([], ap (λ (y : Shell A M O g h). seen y.port) is ∙ sym (append-nil (seen s.port)))
  rows_later (suc n) s t w = starts_trans (seen t.port) (seen w.0.port) (seen s.port) (took_later w.0 t w.1.1.took) (rows_later n s w.0 w.1.0)

  -- a sound shell stays sound while it makes rows
  pub rows_sound : (n : ℕ) (s t : Shell A M O g h) → MadeRows n s t → Sound s → Sound t
  rows_sound zero s t is sound = subst Sound (sym is) sound
  rows_sound (suc n) s t w sound = λ spent. absurd (true≢false (sym spent ∙ row_free w.0 t w.1.1))

  rows_count : (n : ℕ) (s t : Shell A M O g h) → MadeRows n s t → length (made t.port) ≡ length (made s.port) + n
  rows_count zero s t is = omega (arith, ap (λ (y : Shell A M O g h). length (made y.port)) is)
  rows_count (suc n) s t w = omega (arith, rows_count n s w.0 w.1.0, w.1.1.made)

  pub worked_goes : (n : ℕ) (s t : Shell A M O g h) → Worked n s t → GoesByDeliveries s t
  worked_goes n s t w =
      ⊎_elim (λ (is : t ≡ w.last). subst (GoesByDeliveries s) (sym is) (rows_go n s w.last w.rows))
      (λ (p : Took w.last t × (made t.port ≡ made w.last.port)). goes_trans s w.last t (rows_go n s w.last w.rows) p.0.goes) w.end

  -- the number of rows that it made
  pub worked_rows : (n : ℕ) (s t : Shell A M O g h) → Worked n s t → length (made t.port) ≡ length (made s.port) + n
  worked_rows n s t w =
      ⊎_elim (λ (is : t ≡ w.last). ap (λ (y : Shell A M O g h). length (made y.port)) is ∙ rows_count n s w.last w.rows)
      (λ (p : Took w.last t × (made t.port ≡ made w.last.port)). ap length p.1 ∙ rows_count n s w.last w.rows) w.end

  -- The last turn of a shell was refused: the turns before it made rows.
  pub record Refuses (s t : Shell A M O g h) (bytes : ℕ) : Type 0 where
    pub last : Shell A M O g h
    pub goes : GoesByDeliveries s last
    pub later : StartsWith (seen last.port) (seen s.port)
    pub takes : Takes (state last) (state t) 1 (Full bytes)

  -- a shell that was refused in its turns answered so at the last
  pub worked_full : (n : ℕ) (s t : Shell A M O g h) (bytes : ℕ) → Sound s → Worked n s t → refusal t ≡ Some (Full bytes) → Refuses s t bytes
  worked_full n s t bytes sound w e = record {
    last = w.last;
    goes = rows_go n s w.last w.rows;
    later = rows_later n s w.last w.rows;
    takes = passed_full w.last t bytes (rows_sound n s w.last w.rows sound) (⊎_elim (λ (is : t ≡ w.last). inl is) (λ (p : Took w.last t × (made t.port ≡ made w.last.port)). inr p.0) w.end) e;
  }

  -- a turn or none is turns, one after the other
  pub passed_worked : (s t : Shell A M O g h) → Passed s t → (n : ℕ) × Worked n s t
  passed_worked s t p = ⊎_elim none (λ (took : Took s t). ⊎_elim (λ x. none x.1) (λ x. by took x.1.0 x.0 x.1.1) took.acts) p
    where
      none : t ≡ s → (n : ℕ) × Worked n s t
      none is = (0, record { last = s; rows = refl; end = inl is })

      idle : Took s t → made t.port ≡ made s.port → (n : ℕ) × Worked n s t
      idle took same = (0, record { last = s; rows = refl; end = inr (took, same) })

      by : Took s t → (r : Turn) → s.spent ≡ false → Takes (state s) (state t) 1 r → (n : ℕ) × Worked n s t
      by took (Did at) free x = (1, record { last = t; rows = (s, (refl, record { took = took; made = ap length x.2.0.made ∙ length-append (made s.port) (_ ∷ []) })); end = inl refl })
      by took (Empty reported) free x = idle took x.1.0.made
      by took (Full bytes) free x = idle took x.2.0.made
      by took Spent free x = absurd (true≢false (sym x.0 ∙ free))
      by took OutOfMemory free x = idle took x.1.made

  pub all_passed_worked : (ss ts : List (Shell A M O g h)) → AllPassed ss ts → AllWorked ss ts
  all_passed_worked ss ts passed k d lt = passed_worked (get_or ss k d) (get_or ts k d) (passed k d lt)

  pub worked_all_go : (ss ts : List (Shell A M O g h)) → AllWorked ss ts → AllGo ss ts
  worked_all_go ss ts worked k d lt = let w = worked k d lt in worked_goes w.0 (get_or ss k d) (get_or ts k d) w.1

  -- a shell that went on is of the exchange as before
  pub went_of : (net : Port M O h) (s t : Shell A M O g h) → GoesByDeliveries s t → SameExchange s.port net → SameExchange t.port net
  went_of net s t goes o = let e = goes.stays.exchange in (o.0 ∙ sym e.0, o.1 ∙ sym e.1, o.2 ∙ sym e.2)

  -- the shells took their turns
  pub later_worked : (a b : Port M O h) (ss ts us : List (Shell A M O g h)) → AreStill a b ss ts → length us ≡ length ts → AllWorked ts us → AreLater a b ss us
  later_worked a b ss ts us one len worked = record {
    len = len ∙ one.len;
    go = all_go_trans ss ts us one.len (still_all_go ss ts one.still) (worked_all_go ts us worked);
    looked = one.looked;
  }
