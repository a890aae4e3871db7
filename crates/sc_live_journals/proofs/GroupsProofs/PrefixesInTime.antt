-- What holds at the births, and is kept by each row of a journal whose rows come in time, holds after each of its prefixes.
use Rattle.std.proofs.Common.{◌≡◌, ℕ, List, [], ◌∷◌, ◌++◌, sym, ◌∙◌, ap, subst, append_assoc, append-nil}
use Rattle.sc_node_table.specs.Values.{OrderLine, Mail, Seat, Event, Row}
use Rattle.sc_live_orderly.specs.OrderlyDefinitions.{IsCalmEvent, AreInTime}
use Rattle.sc_live_orderly.proofs.OrderlyLemmas.{by_time, last_in_time}
use Rattle.sc_meaning.specs.sound.SoundDefinitions.{Player}
use Rattle.sc_live_steps.specs.calm.CalmDefinitions.{players, Rows}
use Rattle.sc_live_journals.specs.rows.RowDefinitions.{with_event, IsSeat}
use Rattle.sc_live_journals.specs.groups.GroupDefinitions.{IsRowOf}

-- the first rows of a journal in time come in time
pub prefix_in_time : (words : ℕ → ℕ → ℕ × ℕ) (births : List (Seat Player)) (journal : Rows) → AreInTime (players words births) journal → (rows more : Rows) → journal ≡ rows ++ more → AreInTime (players words births) rows
prefix_in_time words births journal timely rows more fact = λ before row after e. timely before row (after ++ more) (fact ∙ (ap (λ rs. rs ++ more) e ∙ append_assoc before (row ∷ after) more))

module _ (words : ℕ → ℕ → ℕ × ℕ) (births : List (Seat Player)) (journal : Rows) (Holds : Rows → Type 0)
    (keeps : (rows : Rows) (seat : Seat Player) (event : Event OrderLine) → IsRowOf journal rows seat event → IsSeat births seat → IsCalmEvent (players words births) rows seat.who event → AreInTime (players words births) (with_event rows seat event) → Holds rows → Holds (with_event rows seat event)) where
  -- after these rows, if they begin the journal
  abbrev Begin : Rows → Type 0
  Begin rows = (more : Rows) → journal ≡ rows ++ more → Holds rows

  after_row : (rows : Rows) (row : Row Mail OrderLine) → AreInTime (players words births) (rows ++ row ∷ []) → Begin rows → Begin (rows ++ row ∷ [])
  after_row rows row timely was more fact =
      let calm = (last_in_time (players words births) rows row timely).0 in
      subst (λ (r : Row Mail OrderLine). Holds (rows ++ r ∷ [])) (sym calm.row_is)
      (keeps rows calm.seat calm.event (record { more = more; fact = fact ∙ ap (λ (r : Row Mail OrderLine). (rows ++ r ∷ []) ++ more) calm.row_is }) calm.born calm.calm
      (subst (λ (r : Row Mail OrderLine). AreInTime (players words births) (rows ++ r ∷ [])) calm.row_is timely) (was (row ∷ more) (fact ∙ append_assoc rows (row ∷ []) more)))

  pub kept_through : Holds [] → AreInTime (players words births) journal → (rows more : Rows) → journal ≡ rows ++ more → Holds rows
  kept_through begins timely rows more fact = by_time (players words births) Begin (λ more e. begins) after_row rows (prefix_in_time words births journal timely rows more fact) more fact

  pub kept_by_all : Holds [] → AreInTime (players words births) journal → Holds journal
  kept_by_all begins timely = kept_through begins timely journal [] (sym (append-nil journal))
