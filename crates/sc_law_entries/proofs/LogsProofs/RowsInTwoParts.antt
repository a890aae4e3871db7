-- Rows in two parts: what is asked of them, their entries, and where an entry is decided; and places of lists in two parts.
use Rattle.std.proofs.Common.{◌≡◌, ℕ, zero, suc, ◌+◌, ◌<◌, ◌≤◌, nat_lt, List, [], ◌∷◌, ◌++◌, length, Some, inl, inr, sym, ◌∙◌, ap, subst, append-nil, append_assoc, arith}
use Rattle.std.specs.Prelude.{slice_get}
use Rattle.std.proofs.lemmas.Bool.{cases_Bool, cond-true, cond-false}
use Rattle.sc_base.specs.Definitions.{Among}
use Rattle.sc_words.specs.declared.commands.cores.Base.{Base}
use Rattle.sc_words.specs.declared.commands.orders.OrderLine.{OrderLine}
use Rattle.sc_mail.specs.declared.bodies.Mail.{Mail}
use Rattle.sc_actor.specs.declared.rows.Row.{Row}
use Rattle.sc_meaning.specs.sound.SoundDefinitions.{Ahead, entries_by_row, entries_by_rows, history_at, row_of_entry_from}
use Rattle.sc_law_entries.specs.ring.RingDefinitions.{Sources}
use Rattle.sc_law_entries.specs.logs.LogDefinitions.{Rows, DecidesInTurn, DecideInTurn, RowsGoOn}

-- ---- rows in two parts

in_turn_push : (sources : Sources) (ahead : Ahead) (bases : List Base) (before rows : Rows) (row : Row Mail OrderLine) → DecideInTurn sources ahead bases before rows → DecidesInTurn sources ahead bases (before ++ rows) row
    → DecideInTurn sources ahead bases before (rows ++ row ∷ [])
in_turn_push sources ahead bases before [] row h turn = (subst (λ b. DecidesInTurn sources ahead bases b row) (append-nil before) turn, tt)
in_turn_push sources ahead bases before (r ∷ rows) row h turn =
    (h.0, in_turn_push sources ahead bases (before ++ r ∷ []) rows row h.1 (subst (λ b. DecidesInTurn sources ahead bases b row) (sym (append_assoc before (r ∷ []) rows)) turn))

pub rows_go_on : RowsGoOn
rows_go_on sources ahead bases rows row h turn = in_turn_push sources ahead bases [] rows row h turn

pub in_turn_parts : (sources : Sources) (ahead : Ahead) (bases : List Base) (before rows more : Rows) → DecideInTurn sources ahead bases before (rows ++ more)
    → DecideInTurn sources ahead bases before rows × DecideInTurn sources ahead bases (before ++ rows) more
in_turn_parts sources ahead bases before [] more h = (tt, subst (λ b. DecideInTurn sources ahead bases b more) (sym (append-nil before)) h)
in_turn_parts sources ahead bases before (r ∷ rows) more h =
    let (first, rest) = in_turn_parts sources ahead bases (before ++ r ∷ []) rows more h.1 in
    ((h.0, first), subst (λ b. DecideInTurn sources ahead bases b more) (append_assoc before (r ∷ []) rows) rest)

pub entries_parts : (ahead : Ahead) (bases : List Base) (before rows more : Rows) → entries_by_rows ahead bases before (rows ++ more) ≡ entries_by_rows ahead bases before rows ++ entries_by_rows ahead bases (before ++ rows) more
entries_parts ahead bases before [] more = ap (λ b. entries_by_rows ahead bases b more) (sym (append-nil before))
entries_parts ahead bases before (r ∷ rows) more =
    let here = entries_by_row ahead bases before r in
    let mid = entries_by_rows ahead bases (before ++ r ∷ []) rows in
    ap (λ es. here ++ es) (entries_parts ahead bases (before ++ r ∷ []) rows more)
    ∙ sym (append_assoc here mid (entries_by_rows ahead bases ((before ++ r ∷ []) ++ rows) more))
    ∙ ap (λ b. (here ++ mid) ++ entries_by_rows ahead bases b more) (append_assoc before (r ∷ []) rows)

pub told_stays : (ahead : Ahead) (bases : List Base) (place at : ℕ) (before rows more : Rows) → row_of_entry_from ahead bases place before rows ≡ Some at → row_of_entry_from ahead bases place before (rows ++ more) ≡ Some at
told_stays ahead bases place at before [] more e = cc
told_stays ahead bases place at before (r ∷ rows) more e =
    let now = nat_lt place (length (history_at ahead bases (before ++ r ∷ []))) in
    elim (cases_Bool now) [
      | inl t ↦ cond-true now (Some (length before + 1)) (row_of_entry_from ahead bases place (before ++ r ∷ []) (rows ++ more)) t ∙ sym (cond-true now (Some (length before + 1)) (row_of_entry_from ahead bases place (before ++ r ∷ []) rows) t) ∙ e
      | inr f ↦ cond-false now (Some (length before + 1)) (row_of_entry_from ahead bases place (before ++ r ∷ []) (rows ++ more)) f
          ∙ told_stays ahead bases place at (before ++ r ∷ []) rows more (sym (cond-false now (Some (length before + 1)) (row_of_entry_from ahead bases place (before ++ r ∷ []) rows) f) ∙ e)
    ]

-- ---- places of lists

-- a place of the prefix
pub get_prefix : {X : Type 0} (xs more : List X) (place : ℕ) (x : X) → place < length xs → slice_get (xs ++ more) place ≡ Some x → slice_get xs place ≡ Some x
get_prefix [] more place x lt e = absurd (omega (arith, lt))
get_prefix (y ∷ xs) more zero x lt e = e
get_prefix (y ∷ xs) more (suc place) x lt e = get_prefix xs more place x (omega (arith, lt)) e

-- and one behind it
pub get_behind : {X : Type 0} (xs more : List X) (place : ℕ) (x : X) → length xs ≤ place → slice_get (xs ++ more) place ≡ Some x → Among x more
get_behind [] [] place x le e = cc
get_behind {X} [] (y ∷ more) zero x le e = let same : y ≡ x = cc in inl same
get_behind [] (y ∷ more) (suc place) x le e = inr (get_behind [] more place x (omega arith) e)
get_behind (y ∷ xs) more zero x le e = absurd (omega (arith, le))
get_behind (y ∷ xs) more (suc place) x le e = get_behind xs more place x (omega (arith, le)) e
