-- Lines of one row, over a company.
use Rattle.std.proofs.Common.{◌≡◌, ℕ, ◌+◌, [], ◌∷◌, ◌++◌, Bool, true, false, Option, refl, sym, ◌∙◌, ap, subst}
use Rattle.std.specs.Prelude.{option_and_then, IfSome, Ok, Err}
use Rattle.sc_actor.specs.declared.actors.Actor.{Ghosts}
use Rattle.sc_actor.specs.declared.actors.Parcel.{Ghosts as MailGhosts}
use Rattle.sc_actor.specs.declared.rows.Event.TheVariants.{Go as GoEvent}
use Rattle.sc_actor.specs.declared.schedules.Line.{Line}
use Rattle.sc_actor.specs.declared.schedules.Line.TheVariants.{Go}
use Rattle.sc_actor.specs.System.{acts}
use Rattle.sc_actor.specs.Walk.{Once, Storms, line_row}
use Rattle.sc_thread_drive.specs.declared.company.Company.{Company}
use Rattle.sc_thread_drive.specs.declared.company.Score.{Score}
use Rattle.sc_thread_ledger.specs.declared.errors.PostError.{PostError}
use Rattle.sc_thread_ledger.specs.declared.errors.PostError.TheVariants.{JournalFull}
use Rattle.sc_thread_drive.specs.Goings.{Goes, IsCalm}
use Rattle.sc_thread_drive.specs.Numbers.{is_in}
use Rattle.sc_thread_drive.specs.Storming.{IsStormLine}
use Rattle.sc_thread_drive.specs.CompanyRows.{HasRested, LineEnded, LineRefused, RowEnded, RowEnds, RowRefused}
use Rattle.sc_thread_drive.proofs.Settled.{line_refused_then, line_rested, line_then}
use Rattle.sc_thread_drive.proofs.SingleSteps.{fills_full, go_pushed, go_steps, goes_go, goes_made, goes_skipped}
use Rattle.sc_thread_drive.proofs.StormSteps.{storms_full, storms_made, storms_skipped}

-- what one line more that made no row leaves of the score
pub record IsSkipped (score now : Score) : Type 0 where
  pub count : now.skipped ≡ score.skipped + 1
  pub cut : now.unsettled ≡ score.unsettled
  pub started : now.started.items ≡ score.started.items

module _ {A M O : Type 0} {g : Ghosts A M O} {h : MailGhosts M} where
  module _ (line : Line O) (c d : Company A M O g h) where
    -- a line made its row
    pub once_made : IsCalm line → RowEnded (λ s rows. line_row s rows line) c d true → LineEnded (Once line ∷ []) [] c d
    once_made calm row = record {
      on = row.on;
      goes = goes_made line c.net d.net c.shells.items d.shells.items c.score d.score row.on.kept.stays.exchange.2 (λ words births company _. row.row words births company) calm
          (ap (λ (s : Score). s.skipped) row.score) (ap (λ (s : Score). s.unsettled) row.score) (ap (λ (s : Score). s.started.items) row.score);
    }

    -- it made none, and was counted
    pub once_skipped : (now : Score) → RowEnded (λ s rows. line_row s rows line) c d false → IsSkipped d.score now → LineEnded (Once line ∷ []) [] c (record d { score = now })
    once_skipped now row skip = record {
      on = row.on;
      goes = goes_skipped line c.net d.net c.shells.items d.shells.items c.score now row.on.kept.stays.exchange.2 (λ words births company _. row.row words births company)
          (skip.count ∙ ap (λ (s : Score). s.skipped + 1) row.score) (skip.cut ∙ ap (λ (s : Score). s.unsettled) row.score) (skip.started ∙ ap (λ (s : Score). s.started.items) row.score);
    }

    -- its row would pass the limit
    pub once_refused : (stop : PostError) (bytes : ℕ) → stop ≡ JournalFull bytes → RowEnds (λ s rows. line_row s rows line) c d (Err stop) → LineRefused (Once line ∷ []) c d
    once_refused stop bytes full ends =
        let row : RowRefused (λ s rows. line_row s rows line) bytes c d = subst (λ s. RowEnds (λ s rows. line_row s rows line) c d (Err s)) full ends in record {
          kept = row.kept;
          fills = fills_full line c.net d.net c.shells.items d.shells.items c.score c.score row.kept.stays.exchange.2 bytes (λ words births company _. row.row words births company);
        }

  module _ (who : ℕ) (c d : Company A M O g h) (fresh : is_in who c.score.started.items ≡ false) where
    -- an actor was told to go, and it is noted
    pub go_made : (now : Score) → RowEnded (λ s rows. acts s rows who GoEvent) c d true → now.skipped ≡ d.score.skipped → now.unsettled ≡ d.score.unsettled → now.started.items ≡ d.score.started.items ++ who ∷ []
        → LineEnded (Once (Go who) ∷ []) [] c (record d { score = now })
    go_made now row skipped cut started = record {
      on = row.on;
      goes = goes_go (Go who) c.net d.net c.shells.items d.shells.items c.score now row.on.kept.stays.exchange.2 who refl (go_steps who c.net d.net c.shells.items d.shells.items c.score (Ok true) fresh row.row)
          (skipped ∙ ap (λ (s : Score). s.skipped) row.score) (cut ∙ ap (λ (s : Score). s.unsettled) row.score)
          (λ n. go_pushed n who c.score.started.items now.started.items (started ∙ ap (λ (s : Score). s.started.items ++ who ∷ []) row.score));
    }

    -- there is none such
    pub go_skipped : (now : Score) → RowEnded (λ s rows. acts s rows who GoEvent) c d false → IsSkipped d.score now → LineEnded (Once (Go who) ∷ []) [] c (record d { score = now })
    go_skipped now row skip = record {
      on = row.on;
      goes = goes_skipped (Go who) c.net d.net c.shells.items d.shells.items c.score now row.on.kept.stays.exchange.2 (go_steps who c.net d.net c.shells.items d.shells.items c.score (Ok false) fresh row.row)
          (skip.count ∙ ap (λ (s : Score). s.skipped + 1) row.score) (skip.cut ∙ ap (λ (s : Score). s.unsettled) row.score) (skip.started ∙ ap (λ (s : Score). s.started.items) row.score);
    }

    -- its row would pass the limit
    pub go_refused : (stop : PostError) (bytes : ℕ) → stop ≡ JournalFull bytes → RowEnds (λ s rows. acts s rows who GoEvent) c d (Err stop) → LineRefused (Once (Go who) ∷ []) c d
    go_refused stop bytes full ends =
        let row : RowRefused (λ s rows. acts s rows who GoEvent) bytes c d = subst (λ s. RowEnds (λ s rows. acts s rows who GoEvent) c d (Err s)) full ends in record {
          kept = row.kept;
          fills = fills_full (Go who) c.net d.net c.shells.items d.shells.items c.score c.score row.kept.stays.exchange.2 bytes (go_steps who c.net d.net c.shells.items d.shells.items c.score (Err (JournalFull bytes)) fresh row.row);
        }

  module _ (step : ℕ × ℕ) (line : Option (Line O)) (c m d : Company A M O g h) (rest : HasRested c m) (is : IsStormLine step m.net m.shells.items line) where
    storm_row_made : IfSome line IsCalm → (made : Bool) → RowEnded (λ s rows. option_and_then (line_row s rows) line) m d made → LineEnded (Storms step ∷ []) [] m d
    storm_row_made calm true row = record {
      on = row.on;
      goes = subst (λ s. Goes m.net m.shells.items m.score (Storms step ∷ []) d.net d.shells.items s []) (sym row.score) (storms_made step line m.net d.net m.shells.items d.shells.items m.score row.on.kept.stays.exchange.2 is calm row.row);
    }
    storm_row_made calm false row = record {
      on = row.on;
      goes = subst (λ s. Goes m.net m.shells.items m.score (Storms step ∷ []) d.net d.shells.items s []) (sym row.score) (storms_skipped step line m.net d.net m.shells.items d.shells.items m.score row.on.kept.stays.exchange.2 is row.row);
    }

    -- a step of a storm was taken
    pub storm_ended : IfSome line IsCalm → (made : Bool) → RowEnded (λ s rows. option_and_then (line_row s rows) line) m d made → LineEnded (Storms step ∷ []) [] c d
    storm_ended calm made row = line_then c m d (Storms step ∷ []) (Storms step ∷ []) [] (line_rested c m (Storms step ∷ []) rest) (storm_row_made calm made row)

    -- its row would pass the limit
    pub storm_refused : (stop : PostError) (bytes : ℕ) → stop ≡ JournalFull bytes → RowEnds (λ s rows. option_and_then (line_row s rows) line) m d (Err stop) → LineRefused (Storms step ∷ []) c d
    storm_refused stop bytes full ends =
        let row : RowRefused (λ s rows. option_and_then (line_row s rows) line) bytes m d = subst (λ s. RowEnds (λ s rows. option_and_then (line_row s rows) line) m d (Err s)) full ends in
        line_refused_then c m d (Storms step ∷ []) (Storms step ∷ []) (line_rested c m (Storms step ∷ []) rest) (record {
          kept = row.kept;
          fills = storms_full step line m.net d.net m.shells.items d.shells.items m.score row.kept.stays.exchange.2 is bytes row.row;
        })
