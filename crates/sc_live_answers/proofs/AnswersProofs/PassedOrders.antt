-- A whole journal in which no line was cut off was quiet after a line of many deliveries behind an order, when the order had been given.
use Rattle.std.proofs.Common.{◌≡◌, ℕ, true, false, true≢false, cond, eqb, List, [], ◌∷◌, ◌++◌, find, Some, None, inl, refl, sym, ◌∙◌, ap}
use Rattle.std.specs.Prelude.{is_none}
use Rattle.std.specs.Option.{option_map}
use Rattle.sc_base.specs.Definitions.{Among}
use Rattle.sc_node_table.specs.Values.{OrderLine, Mail, Seat, Row, Line}
use Rattle.sc_actor.specs.declared.rows.Event.TheVariants.{Told}
use Rattle.sc_actor.specs.declared.schedules.Line.TheVariants.{Told as ToldLine}
use Rattle.sc_actor.specs.Definitions.{System, acts, row_of, has_crashed, Once, MayAdd, IsLawful, IsWhole, is_over, unsettled, Task}
use Rattle.sc_actor.proofs.Lemmas.{unless-some}
use Rattle.sc_paxos_law.proofs.Lemmas.{Among-left, Among-right}
use Rattle.sc_live_orderly.proofs.OrderlyLemmas.{IsManyLine, WasQuiet, was_quiet}
use Rattle.sc_live_orderly.proofs.QuietLineEnds.{acts-event}
use Rattle.sc_meaning.specs.sound.SoundDefinitions.{Player}
use Rattle.sc_live_steps.specs.calm.CalmDefinitions.{Rows}
use Rattle.sc_live_answers.specs.AnswerDefinitions.{IsGiven}

module _ (s : System Player Mail OrderLine) (who : ℕ) (order : OrderLine) (seat : Seat Player) (born : find (λ other. eqb other.who who) s.births ≡ Some seat) where
  -- the task of an order is never over before its row
  pub order_stands : (rows : Rows) → has_crashed rows who ≡ false → is_over s rows (Once (ToldLine who order)) ≡ true → ⊥
  order_stands rows here over =
      let some : is_none (acts s rows who (Told order)) ≡ false = ap (λ o. is_none (option_map (λ (x : Seat Player). row_of s.table x rows (Told order)) o)) born in
      true≢false (sym over ∙ (ap (λ b. is_none (cond b None (acts s rows who (Told order)))) here ∙ some))

  -- an order is given by the row of its line, and stays so
  pub given_stays : (rows : Rows) (row : Row Mail OrderLine) → IsGiven rows order → IsGiven (rows ++ row ∷ []) order
  given_stays rows row g = record { row = g.row; among = Among-left g.row rows (row ∷ []) g.among; gives = g.gives }

  pub given_now : (rows : Rows) (row : Row Mail OrderLine) (tasks : List (Task OrderLine)) → MayAdd s rows (Once (ToldLine who order) ∷ tasks) row → IsGiven (rows ++ row ∷ []) order
  given_now rows row tasks e =
      let m = unless-some (has_crashed rows who) (acts s rows who (Told order)) row e in
      record { row = row; among = Among-right row rows (row ∷ []) (inl refl); gives = sym (acts-event s rows who (Told order) row m.1) }

  module _ (lines : List (Line OrderLine)) (alive : (rows : Rows) → IsLawful s lines rows → unsettled s lines rows ≡ false → has_crashed rows who ≡ false) where
    -- the journal was quiet after the order had been given
    abbrev pub WasQuietGiven : Rows → Type 0
    WasQuietGiven = WasQuiet s (ToldLine who order) refl (λ rows. IsGiven rows order) given_stays given_now lines (λ rows lawful settled over. absurd (order_stands rows (alive rows lawful settled) over))

    pub was_quiet_given : (prefix back : List (Line OrderLine)) (many : Line OrderLine) → lines ≡ prefix ++ many ∷ back → Among (ToldLine who order) prefix → IsManyLine many
        → (journal : Rows) → IsLawful s lines journal → unsettled s lines journal ≡ false → IsWhole s lines journal → WasQuietGiven journal
    was_quiet_given =
        was_quiet s (ToldLine who order) refl (λ rows. IsGiven rows order) given_stays given_now lines (λ rows lawful settled over. absurd (order_stands rows (alive rows lawful settled) over))
