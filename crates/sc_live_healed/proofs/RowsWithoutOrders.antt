-- A lawful journal of lines that give no order has no row that gives one, and one of lines that do not crash an actor has no row that does.
use Rattle.std.proofs.Common.{◌≡◌, ℕ, List, [], ◌∷◌, Bool, false, true, ◌&&◌, eqb, refl}
use Rattle.std.proofs.lemmas.Bool.{or_from}
use Rattle.sc_base.specs.Definitions.{Each}
use Rattle.sc_actor.specs.declared.rows.Row.{Row}
use Rattle.sc_actor.specs.declared.schedules.Line.{Line}
use Rattle.sc_actor.specs.declared.schedules.Line.TheVariants.{Go, Deliver, Drop, Again, Tick, Crash, Told, Settle, Free, Storm}
use Rattle.sc_actor.specs.Definitions.{System, IsLawful, is_crash, has_crashed}
use Rattle.sc_live_orderly.specs.OrderlyDefinitions.{is_told, gives_order}
use Rattle.sc_live_healed.proofs.HarmlessRows.{Harm, IsHarmless, rows_harmless}

-- a line gives no order
abbrev pub IsWithoutOrders : {O : Type 0} → Line O → Type 0
IsWithoutOrders line = gives_order line ≡ false

-- each order is a harm
orders : {O : Type 0} → Harm O
orders = record { harmful = λ who event. is_told event; goes = λ who. refl; delivers = λ who number. refl; ticks = λ who. refl; drops = λ who number. refl; repeats = λ who number. refl }

untold_harmless : {O : Type 0} (lines : List (Line O)) → Each IsWithoutOrders lines → Each (IsHarmless orders) lines
unfolding orders
untold_harmless [] u = tt
untold_harmless (line ∷ lines) u = (by line u.0, untold_harmless lines u.1)
  where
    by : {O : Type 0} (x : Line O) → gives_order x ≡ false → IsHarmless orders x
    by (Crash who) e = refl
    by (Told who order) e = absurd (cc)
    by _ e = tt

pub rows_untold : {A M O : Type 0} (s : System A M O) (lines : List (Line O)) (journal : List (Row M O)) → Each IsWithoutOrders lines → IsLawful s lines journal → Each (λ (row : Row M O). is_told row.event ≡ false) journal
unfolding orders
rows_untold s lines journal u lawful = rows_harmless s orders lines journal (untold_harmless lines u) lawful

-- ---- crashes

none : (a : Bool) → (a && false) ≡ false
none true = refl
none false = refl

-- a crash of this actor is a harm
crashes_of : {O : Type 0} → ℕ → Harm O
crashes_of who = record {
  harmful = λ actor event. eqb actor who && is_crash event;
  goes = λ actor. none (eqb actor who);
  delivers = λ actor number. none (eqb actor who);
  ticks = λ actor. none (eqb actor who);
  drops = λ actor number. none (eqb actor who);
  repeats = λ actor number. none (eqb actor who);
}

-- a line does not crash the actor
abbrev pub Spares : {O : Type 0} → ℕ → Line O → Type 0
Spares who (Crash other) = eqb other who ≡ false
Spares who _ = Unit {0}

spares_harmless : {O : Type 0} (who : ℕ) (lines : List (Line O)) → Each (Spares who) lines → Each (IsHarmless (crashes_of who)) lines
unfolding crashes_of
spares_harmless who [] u = tt
spares_harmless who (line ∷ lines) u = (by line u.0, spares_harmless who lines u.1)
  where
    by : {O : Type 0} (x : Line O) → Spares who x → IsHarmless (crashes_of who) x
    by (Crash other) e = off (eqb other who) e
      where
        off : (b : Bool) → b ≡ false → (b && true) ≡ false
        off false e = refl
        off true e = absurd (cc)
    by (Told other order) e = none (eqb other who)
    by (Go other) e = tt
    by (Deliver other k) e = tt
    by (Drop other k) e = tt
    by (Again mail) e = tt
    by (Tick other) e = tt
    by (Settle most) e = tt
    by (Free most workers) e = tt
    by (Storm number most) e = tt

pub rows_spare : {A M O : Type 0} (s : System A M O) (who : ℕ) (lines : List (Line O)) (journal : List (Row M O)) → Each (Spares who) lines → IsLawful s lines journal → has_crashed journal who ≡ false
unfolding crashes_of
rows_spare s who lines journal u lawful = no_row journal (rows_harmless s (crashes_of who) lines journal (spares_harmless who lines u) lawful)
  where
    no_row : {M O : Type 0} (rows : List (Row M O)) → Each (λ (row : Row M O). (eqb row.who who && is_crash row.event) ≡ false) rows → has_crashed rows who ≡ false
    no_row [] k = refl
    no_row (row ∷ rows) k = or_from (eqb row.who who && is_crash row.event) (has_crashed rows who) k.0 (no_row rows k.1)
