-- What a driver's answer says of a scenario.
use Rattle.std.proofs.Common.{◌≡◌, ◌≢◌, ◌<◌, ◌≤◌, ◌^◌, ℕ, List, [], ◌∷◌, ◌++◌, length, map, Bool, true, false, Some, inl, inr, refl, sym, ◌∙◌, ap, subst, arith}
use Rattle.std.specs.Prelude.{⊤}
use Rattle.sc_words.specs.declared.commands.orders.OrderLine.{OrderLine}
use Rattle.sc_mail.specs.declared.bodies.Mail.{Mail}
use Rattle.sc_actor.specs.declared.rows.Row.{Row}
use Rattle.sc_actor.specs.declared.actors.Actor.{Ghosts}
use Rattle.sc_actor.specs.declared.actors.Parcel.{Ghosts as MailGhosts}
use Rattle.sc_actor.specs.declared.schedules.Line.{Line}
use Rattle.sc_actor.specs.Counted.{journal_bytes}
use Rattle.sc_actor.specs.Mail.{mails}
use Rattle.sc_actor.proofs.BoundLemmas.{journal_counts}
use Rattle.sc_actor.proofs.WalkLemmas.{lawful-snoc}
use Rattle.sc_texts.specs.chance.KeyStream.{two_words}
use Rattle.sc_actor.specs.Walk.{IsLawful, IsWhole, skipped, unsettled, is_quiet}
use Rattle.sc_actor.specs.Counted.{IsFull}
use Rattle.sc_thread_work.specs.declared.shell.shells.Shell.{Shell}
use Rattle.sc_thread_drive.specs.Companies.{seats}
use Rattle.sc_actor.specs.declared.schedules.Played.{Played}
use Rattle.sc_actor.specs.declared.schedules.Played.TheVariants.{Ended, Full, OutOfMemory}
use Rattle.sc_scenario.specs.scenario.Valid.{IsValid}
use Rattle.sc_scenario.specs.declared.scenario.scenarios.Scenario.{Scenario}
use Rattle.sc_meaning.specs.sound.Players.{schedule, system_of, Lawful, Whole, parties, Player, as_nodes}
use Rattle.sc_law_refusal.specs.refusal.Journals.{ValidJournalsRefuseWithCause}
use Rattle.sc_law_groups.specs.whole.Valid.{ValidJournalsAreSound}
use Rattle.sc_cli.specs.Causes.{said_of}
use Rattle.sc_cli.specs.declared.said.Said.TheVariants.{Ended as HasEnded, Filled}
use Rattle.sc_run.specs.Budgets.{BudgetsSuffice}
use Rattle.sc_run.specs.declared.done.Text.{Text}
use Rattle.sc_run.specs.Played.{mail_weight, HasPlayedToEnd, HasFilled}
use Rattle.sc_run.proofs.ReportedOrders.{lines_have_happened}
use Rattle.sc_run.specs.Run.{journal_limit, Comes, IsFullText}

-- an answer other than out of memory
abbrev GoesOn : Played → Type 0
GoesOn (Ended cut quiet skips) = ⊤
GoesOn Full = ⊤
GoesOn OutOfMemory = ⊥

-- a run that ended did not run out of memory
pub no_out_of_memory : (cut quiet : Bool) (skips : ℕ) → Ended cut quiet skips ≢ OutOfMemory
no_out_of_memory cut quiet skips e = subst GoesOn e tt

-- the actors of shells are those of their seats
pub actors_of : {A M O : Type 0} {g : Ghosts A M O} {h : MailGhosts M} (ss : List (Shell A M O g h)) → map (λ s. s.actor) ss ≡ map (λ seat. seat.actor) (seats ss)
actors_of [] = refl
actors_of (s ∷ ss) = ap (λ rest. s.actor ∷ rest) (actors_of ss)

module _ (law : ValidJournalsAreSound) (causes : ValidJournalsRefuseWithCause) (budgets : BudgetsSuffice) (scenario : Scenario) (valid : IsValid scenario) (lines : List (Line OrderLine)) (lines_are : lines ≡ schedule scenario) (limit : ℕ) (journal : List (Row Mail OrderLine)) where
  -- a driver's end is a play's
  pub ends : (cut quiet : Bool) (skips : ℕ) (left : List Player) →
      IsLawful (system_of as_nodes two_words scenario) lines journal → IsWhole (system_of as_nodes two_words scenario) lines journal → journal_bytes mail_weight journal ≤ limit →
      cut ≡ unsettled (system_of as_nodes two_words scenario) lines journal → quiet ≡ is_quiet (system_of as_nodes two_words scenario) journal → skips ≡ skipped (system_of as_nodes two_words scenario) lines journal →
      left ≡ parties as_nodes scenario journal → HasPlayedToEnd scenario limit cut quiet skips journal left
  ends cut quiet skips left lawful whole within cut_is quiet_is skips_are parties_are =
      let allowed : Lawful as_nodes two_words scenario journal = subst (λ l. IsLawful (system_of as_nodes two_words scenario) l journal) lines_are lawful in
      let through : Whole as_nodes two_words scenario journal = subst (λ l. IsWhole (system_of as_nodes two_words scenario) l journal) lines_are whole in
      let same_cut = cut_is ∙ ap (λ l. unsettled (system_of as_nodes two_words scenario) l journal) lines_are in
      record {
        lawful = allowed;
        whole = through;
        sound = law as_nodes refl two_words scenario valid journal allowed;
        refuses = causes as_nodes refl two_words scenario valid journal allowed;
        within = within;
        cut_is = same_cut;
        quiet_is = quiet_is;
        skips_are = skips_are ∙ ap (λ l. skipped (system_of as_nodes two_words scenario) l journal) lines_are;
        parties_are = parties_are;
        settled = λ within. same_cut ∙ budgets.settled two_words scenario journal valid within allowed;
        answered = λ within. budgets.answered two_words scenario journal valid within allowed through;
        uncut = λ calm settled short. budgets.uncut two_words scenario journal valid calm allowed through (sym same_cut ∙ settled) short;
        last = λ ends short. budgets.last two_words scenario journal valid ends allowed through short;
        reported = λ calm settled short. budgets.reported two_words scenario journal valid calm allowed through (sym same_cut ∙ settled) short;
        healed = λ heals living settled short. budgets.healed two_words scenario journal heals valid living allowed through (sym same_cut ∙ settled) short;
      }

  -- a journal that a driver has filled is a play's
  pub fills : IsFull (system_of as_nodes two_words scenario) mail_weight lines limit journal → HasFilled scenario limit journal
  fills h =
      let full : IsFull (system_of as_nodes two_words scenario) mail_weight (schedule scenario) limit journal = subst (λ l. IsFull (system_of as_nodes two_words scenario) mail_weight l limit journal) lines_are h in
      record {
        full = full;
        sound = law as_nodes refl two_words scenario valid journal full.lawful;
        refuses = causes as_nodes refl two_words scenario valid journal full.lawful;
        below = λ plain.
            let longer = lawful-snoc (system_of as_nodes two_words scenario) (schedule scenario) journal full.row full.lawful full.next in
            let low = budgets.light two_words scenario (journal ++ full.row ∷ []) valid plain longer in
            let high = full.passes in
            omega (arith, low, high);
      }

-- a run that says that it ended cut no line off
ended_uncut : (cut : Bool) → said_of cut ≡ HasEnded → cut ≡ false
ended_uncut true e = cc
ended_uncut false e = refl

-- the text of a run that ended
pub comes_ended : (Shows : List (Row Mail OrderLine) → List (List ℕ) → Type 0) (scenario : Scenario) (cut quiet : Bool) (skips : ℕ) (journal : List (Row Mail OrderLine)) (parties : List Player) (text : Text) →
    HasPlayedToEnd scenario journal_limit cut quiet skips journal parties → Shows journal text.lines → text.journal ≡ Some journal → text.parties ≡ parties → Comes Shows scenario (said_of cut) text
comes_ended Shows scenario cut quiet skips journal parties text e lines journal_is parties_is = inl (record {
  journal = journal;
  reports = record { lawful = e.lawful; whole = e.whole; within = e.within; sound = e.sound; refuses = e.refuses; results = lines_have_happened scenario journal e.refuses; lines = lines; journal_is = journal_is; parties_are = parties_is ∙ e.parties_are };
  said_is = ap said_of e.cut_is;
  settled = λ within. ap said_of (e.settled within);
  answered = λ calm ended. e.uncut calm (ended_uncut cut ended) (let counts = journal_counts mail_weight journal in let within = e.within in omega (arith, counts, within));
  last = λ ends. e.last ends (let counts = journal_counts mail_weight journal in let within = e.within in omega (arith, counts, within));
  reported = λ calm ended. e.reported calm (ended_uncut cut ended) (let counts = journal_counts mail_weight journal in let within = e.within in omega (arith, counts, within));
  healed = λ heals living ended. e.healed heals living (ended_uncut cut ended) (let counts = journal_counts mail_weight journal in let within = e.within in omega (arith, counts, within));
})

-- the text of a run whose journal is full
pub comes_full : (Shows : List (Row Mail OrderLine) → List (List ℕ) → Type 0) (scenario : Scenario) (journal : List (Row Mail OrderLine)) (text : Text) → HasFilled scenario journal_limit journal → IsFullText journal text → Comes Shows scenario Filled text
comes_full Shows scenario journal text filled line_text = inr (record {
  journal = journal;
  filled = filled;
  line_text = line_text;
  said_is = refl;
  not_plain = λ plain. let low = filled.below plain in omega (arith, low);
})

-- the rows of a run that ended are few, and so are their mails
pub few : (scenario : Scenario) (cut quiet : Bool) (skips : ℕ) (journal : List (Row Mail OrderLine)) (left : List Player) → HasPlayedToEnd scenario journal_limit cut quiet skips journal left
    → (length journal < 2 ^ 31) × (length (mails journal) < 2 ^ 31)
few scenario cut quiet skips journal left e =
    let counts = journal_counts mail_weight journal in
    (omega (arith, counts, e.within), omega (arith, counts, e.within))
