-- What acts of actors and of the network make of a company.
use Rattle.std.proofs.Common.{◌≡◌, ℕ, Bool, true, false, true≢false, Option, Some, None, refl, sym, ◌∙◌, subst}
use Rattle.std.specs.Prelude.{Result, Ok, Err}
use Rattle.std.specs.Result.{IsErrAnd}
use Rattle.sc_actor.specs.declared.actors.Actor.{Ghosts}
use Rattle.sc_actor.specs.declared.actors.Parcel.{Ghosts as MailGhosts}
use Rattle.sc_actor.specs.declared.rows.Event.{Event}
use Rattle.sc_actor.specs.declared.rows.Event.TheVariants.{Go as GoEvent}
use Rattle.sc_actor.specs.declared.schedules.Line.TheVariants.{Deliver as DeliverLine, Drop as DropLine, Again as AgainLine}
use Rattle.sc_actor.specs.Mail.{mails, numbered}
use Rattle.sc_actor.specs.System.{acts, no_words}
use Rattle.sc_actor.specs.Walk.{line_row}
use Rattle.std.specs.Option.{option_map}
use Rattle.sc_thread_ledger.specs.Pending.{kth_pending}
use Rattle.sc_thread_ports.specs.declared.exchange.fates.Fate.{Fate}
use Rattle.sc_thread_ports.specs.declared.exchange.fates.Fate.TheVariants.{Lost, Repeated}
use Rattle.sc_thread_ports.specs.declared.exchange.ports.Port.{Port}
use Rattle.sc_thread_ports.specs.exchange.Ports.{seen, Looked}
use Rattle.sc_thread_work.specs.declared.shell.turns.Turn.{Turn}
use Rattle.sc_thread_work.specs.declared.shell.turns.Turn.TheVariants as turn
use Rattle.sc_thread_workers.specs.Crews.{AreStill, IsCrew}
use Rattle.sc_thread_workers.specs.RoundEnds.{IsGathered}
use Rattle.sc_thread_workers.proofs.Crews.{stays_same}
use Rattle.sc_thread_drive.specs.declared.company.Company.{Company}
use Rattle.sc_thread_ledger.specs.declared.errors.PostError.{PostError}
use Rattle.sc_thread_ledger.specs.declared.errors.PostError.TheVariants.{JournalFull, OutOfMemory}
use Rattle.sc_thread_drive.specs.Acts.{HasHalted}
use Rattle.sc_thread_drive.specs.Changing.{Changes}
use Rattle.sc_thread_drive.specs.Goings.{IsOn}
use Rattle.sc_thread_drive.specs.Rows.{row_made}
use Rattle.sc_thread_drive.specs.Stepping.{IsNowhere, IsPlace, unless_crashed}
use Rattle.sc_thread_drive.specs.CompanyRows.{ActedByTurn, ActedOnEvent, AreTogether, HasFound, HasRested, MayTakeEvent, NetworkActed, RowEnds}
use Rattle.sc_thread_drive.proofs.ActorRows.{happens_nowhere, happens_did, happens_full, happens_halted, happens_lacks, happens_spent, tells_nowhere, event_answers_did, full_text, halted, delivers_nowhere, delivers_none, delivers_did, delivers_empty, delivers_full, delivers_lacks, delivers_spent, text_lacks}
use Rattle.sc_thread_drive.proofs.Companies.{company_still}
use Rattle.sc_thread_drive.proofs.GatheredExchange.{on_gathered, on_same, on_then, together_on}
use Rattle.sc_thread_drive.proofs.NetworkKept.{change_on, stays_looked}
use Rattle.sc_thread_drive.proofs.NetworkRows.{loses_nowhere, loses_none, loses_so, repeats_unsent, repeats_nowhere, repeats_so}

-- what an error became that went on as it was
pub same_stop : {T : Type 0} (r : Result T PostError) (stop : PostError) (bytes : ℕ) → IsErrAnd r (λ e. e ≡ stop) → r ≡ Err (JournalFull bytes) → stop ≡ JournalFull bytes
same_stop (Ok x) stop bytes is e = absurd is
same_stop (Err s) stop bytes is e = let same : s ≡ JournalFull bytes = cc in sym is ∙ same

module _ {A M O : Type 0} {g : Ghosts A M O} {h : MailGhosts M} where
  -- an event of an actor that has no shell
  pub happens_out : (c : Company A M O g h) (who : ℕ) (event : Event O) → AreTogether c → IsNowhere c.shells.items who → RowEnds (λ s rows. unless_crashed s rows who event) c c (Ok false)
  happens_out c who event together out = record {
    on = on_same c.net c.shells.items together;
    row = λ words births company. happens_nowhere words births c.net c.net c.shells.items c.shells.items company who event out;
    score = refl;
  }

  -- an event of an actor that has crashed
  pub happens_crashed : (c : Company A M O g h) (who place : ℕ) (event : Event O) → AreTogether c → IsPlace c.shells.items who place → HasHalted c.shells.items place true → RowEnds (λ s rows. unless_crashed s rows who event) c c (Ok false)
  happens_crashed c who place event together is halts = record {
    on = on_same c.net c.shells.items together;
    row = λ words births company. happens_halted words births c.net c.net c.shells.items c.shells.items company who place is event halts;
    score = refl;
  }

  -- memory ran out before an event of one that has not
  pub happens_not : (c : Company A M O g h) (who place : ℕ) (event : Event O) → IsPlace c.shells.items who place → HasHalted c.shells.items place false → RowEnds (λ s rows. unless_crashed s rows who event) c c (Err OutOfMemory)
  happens_not c who place event is runs = λ words births company. happens_lacks words births c.net c.net c.shells.items c.shells.items company who place is event runs

  -- a Go of one
  pub goes_out : (c : Company A M O g h) (who : ℕ) → AreTogether c → IsNowhere c.shells.items who → RowEnds (λ s rows. acts s rows who GoEvent) c c (Ok false)
  goes_out c who together out = record {
    on = on_same c.net c.shells.items together;
    row = λ words births company. tells_nowhere words births c.net c.net c.shells.items c.shells.items company who GoEvent out;
    score = refl;
  }

  -- a delivery to one
  pub delivers_out : (c : Company A M O g h) (who k : ℕ) → AreTogether c → IsNowhere c.shells.items who → RowEnds (λ s rows. line_row s rows (DeliverLine who k)) c c (Ok false)
  delivers_out c who k together out = record {
    on = on_same c.net c.shells.items together;
    row = λ words births company. delivers_nowhere words births c.net c.net c.shells.items c.shells.items company who k out;
    score = refl;
  }

  -- mails are counted from 1
  pub delivers_zero : (c : Company A M O g h) (who k : ℕ) → AreTogether c → k ≡ 0 → RowEnds (λ s rows. line_row s rows (DeliverLine who k)) c c (Ok false)
  delivers_zero c who k together e = subst (λ n. RowEnds (λ s rows. line_row s rows (DeliverLine who n)) c c (Ok false)) (sym e) (record {
    on = on_same c.net c.shells.items together;
    row = λ words births company. delivers_none words births c.net c.net c.shells.items c.shells.items company who;
    score = refl;
  })

  -- an event of an actor at its place
  pub happens_so : (c d : Company A M O g h) (who place : ℕ) (event : Event O) (t : Turn) → IsPlace c.shells.items who place → ActedOnEvent place event t c d → RowEnds (λ s rows. unless_crashed s rows who event) c d (row_made t)
  happens_so c d who place event (turn.Did at) is act = record {
    on = record { kept = act.kept; sound = act.sound };
    row = λ words births company. happens_did words births c.net d.net c.shells.items d.shells.items company who place is event at (act.reported births company);
    score = act.score;
  }
  happens_so c d who place event (turn.Empty reported) is act = absurd act.answer
  happens_so c d who place event (turn.Full bytes) is act = record {
    kept = act.kept;
    row = λ words births company. happens_full words births c.net d.net c.shells.items d.shells.items company who place is event bytes (act.reported births company);
    score = act.score;
  }
  happens_so c d who place event turn.Spent is act = record {
    on = record { kept = act.kept; sound = act.sound };
    row = λ words births company. happens_spent words births c.net d.net c.shells.items d.shells.items company who place is event (act.reported births company);
    score = act.score;
  }
  happens_so c d who place event turn.OutOfMemory is act = λ words births company. happens_lacks words births c.net d.net c.shells.items d.shells.items company who place is event (act.reported births company)

  -- a Go of one that has not crashed
  pub goes_so : (c d : Company A M O g h) (who place : ℕ) (t : Turn) → IsPlace c.shells.items who place → MayTakeEvent who c → ActedOnEvent place GoEvent t c d → RowEnds (λ s rows. acts s rows who GoEvent) c d (row_made t)
  goes_so c d who place (turn.Did at) is may act = record {
    on = record { kept = act.kept; sound = act.sound };
    row = λ words births company. event_answers_did words births c.net d.net c.shells.items d.shells.items company who place is GoEvent at (act.reported births company);
    score = act.score;
  }
  goes_so c d who place (turn.Empty reported) is may act = absurd act.answer
  goes_so c d who place (turn.Full bytes) is may act = record {
    kept = act.kept;
    row = λ words births company. full_text words births c.net d.net c.shells.items d.shells.items company who place is GoEvent bytes (act.reported births company);
    score = act.score;
  }
  goes_so c d who place turn.Spent is may act =
      absurd (true≢false (sym (halted no_words may.0 c.net d.net c.shells.items d.shells.items may.1 who place is true (act.reported may.0 may.1).2) ∙ may.2))
  goes_so c d who place turn.OutOfMemory is may act = λ words births company. text_lacks words births c.net d.net c.shells.items d.shells.items company who place is GoEvent

  -- a turn of an actor at its place
  pub delivers_so : (c d : Company A M O g h) (who place k : ℕ) (t : Turn) → IsPlace c.shells.items who place → ActedByTurn place k t c d → RowEnds (λ s rows. line_row s rows (DeliverLine who k)) c d (row_made t)
  delivers_so c d who place k (turn.Did at) is act = record {
    on = record { kept = act.kept; sound = act.sound };
    row = λ words births company. delivers_did words births c.net d.net c.shells.items d.shells.items company who place is k at (act.served births company);
    score = act.score;
  }
  delivers_so c d who place k (turn.Empty reported) is act = record {
    on = record { kept = act.kept; sound = act.sound };
    row = λ words births company. delivers_empty words births c.net d.net c.shells.items d.shells.items company who place is k reported (act.served births company);
    score = act.score;
  }
  delivers_so c d who place k (turn.Full bytes) is act = record {
    kept = act.kept;
    row = λ words births company. delivers_full words births c.net d.net c.shells.items d.shells.items company who place is k bytes (act.served births company);
    score = act.score;
  }
  delivers_so c d who place k turn.Spent is act = record {
    on = record { kept = act.kept; sound = act.sound };
    row = λ words births company. delivers_spent words births c.net d.net c.shells.items d.shells.items company who place is k (act.served births company);
    score = act.score;
  }
  delivers_so c d who place k turn.OutOfMemory is act = λ words births company. delivers_lacks words births c.net d.net c.shells.items d.shells.items company who place is k (act.served births company)

  -- the network did something, and all gathered
  pub network_acts : (c d : Company A M O g h) (mid : Port M O h) (fate : Fate) (number : ℕ) (result : Result Bool PostError) → IsCrew c.net c.shells.items → Changes fate number c.net mid result
      → AreStill mid d.net c.shells.items d.shells.items → IsGathered d.net d.shells.items → d.score ≡ c.score → NetworkActed fate number c d result
  network_acts c d mid fate number result crew x still gathered score = record {
    stands = change_on c.net mid d.net c.shells.items d.shells.items fate number result crew x still gathered;
    changes = record { mid = mid; changes = x; still = still; gathered = gathered };
    score = score;
  }

  module _ (c d : Company A M O g h) (first : Port M O h) (looked : Looked c.net first) where
    -- a mail of an actor was lost
    module _ (who k place number : ℕ) (at : IsPlace c.shells.items who place) (kth : Some number ≡ kth_pending h.receiver c.net.actors (seen first) who k) where
      lost_on : (made : Bool) → NetworkActed Lost number (record c { net = first }) d (Ok made) → IsOn c.net c.shells.items d.net d.shells.items
      lost_on true act = stays_looked c.net first d.net c.shells.items d.shells.items (Ok true) looked act.stands
      lost_on false act = stays_looked c.net first d.net c.shells.items d.shells.items (Ok false) looked act.stands

      pub loses_row : (result : Result Bool PostError) → NetworkActed Lost number (record c { net = first }) d result → RowEnds (λ s rows. line_row s rows (DropLine who k)) c d result
      loses_row (Ok made) act = let x = act.changes in record {
        on = lost_on made act;
        row = λ words births company. loses_so words births c.net first c.shells.items d.shells.items company looked x.still.len x.still.still x.mid d.net x.still.looked x.gathered x.gathered.rows who k place number at kth (Ok made) x.changes;
        score = act.score;
      }
      loses_row (Err (JournalFull bytes)) act = let x = act.changes in record {
        kept = stays_looked c.net first d.net c.shells.items d.shells.items (Err (JournalFull bytes)) looked act.stands;
        row = λ words births company. loses_so words births c.net first c.shells.items d.shells.items company looked x.still.len x.still.still x.mid d.net x.still.looked x.gathered x.gathered.rows who k place number at kth (Err (JournalFull bytes)) x.changes;
        score = act.score;
      }
      loses_row (Err OutOfMemory) act = let x = act.changes in
          λ words births company. loses_so words births c.net first c.shells.items d.shells.items company looked x.still.len x.still.still x.mid d.net x.still.looked x.gathered x.gathered.rows who k place number at kth (Err OutOfMemory) x.changes

    -- a mail was repeated
    module _ (who place number : ℕ) (at : IsPlace c.shells.items who place) (receiver : Some who ≡ option_map h.receiver (numbered (mails (seen first)) number)) where
      repeated_on : (made : Bool) → NetworkActed Repeated number (record c { net = first }) d (Ok made) → IsOn c.net c.shells.items d.net d.shells.items
      repeated_on true act = stays_looked c.net first d.net c.shells.items d.shells.items (Ok true) looked act.stands
      repeated_on false act = stays_looked c.net first d.net c.shells.items d.shells.items (Ok false) looked act.stands

      pub repeats_row : (result : Result Bool PostError) → NetworkActed Repeated number (record c { net = first }) d result → RowEnds (λ s rows. line_row s rows (AgainLine number)) c d result
      repeats_row (Ok made) act = let x = act.changes in record {
        on = repeated_on made act;
        row = λ words births company. repeats_so words births c.net first c.shells.items d.shells.items company looked x.still.len x.still.still x.mid d.net x.still.looked x.gathered x.gathered.rows who place number at receiver (Ok made) x.changes;
        score = act.score;
      }
      repeats_row (Err (JournalFull bytes)) act = let x = act.changes in record {
        kept = stays_looked c.net first d.net c.shells.items d.shells.items (Err (JournalFull bytes)) looked act.stands;
        row = λ words births company. repeats_so words births c.net first c.shells.items d.shells.items company looked x.still.len x.still.still x.mid d.net x.still.looked x.gathered x.gathered.rows who place number at receiver (Err (JournalFull bytes)) x.changes;
        score = act.score;
      }
      repeats_row (Err OutOfMemory) act = let x = act.changes in
          λ words births company. repeats_so words births c.net first c.shells.items d.shells.items company looked x.still.len x.still.still x.mid d.net x.still.looked x.gathered x.gathered.rows who place number at receiver (Err OutOfMemory) x.changes

    -- the network's port only looked, and all gathered
    module _ (together : AreTogether c) (still : AreStill first d.net c.shells.items d.shells.items) (gathered : IsGathered d.net d.shells.items) (score : d.score ≡ c.score) where
      looked_on : IsOn c.net c.shells.items d.net d.shells.items
      looked_on = on_gathered c.net first d.net c.shells.items d.shells.items together.crew.exchange together.crew.sound looked.stays still gathered

      -- no such mail is pending
      pub loses_nothing : (who k place : ℕ) → IsPlace c.shells.items who place → None ≡ kth_pending h.receiver c.net.actors (seen first) who k → RowEnds (λ s rows. line_row s rows (DropLine who k)) c d (Ok false)
      loses_nothing who k place at kth = record {
        on = looked_on;
        row = λ words births company. loses_none words births c.net first c.shells.items d.shells.items company looked still.len still.still d.net still.looked gathered gathered.rows who k place at kth;
        score = score;
      }

      -- no such mail was sent
      pub repeats_nothing : (number : ℕ) → None ≡ option_map h.receiver (numbered (mails (seen first)) number) → RowEnds (λ s rows. line_row s rows (AgainLine number)) c d (Ok false)
      repeats_nothing number unsent = record {
        on = looked_on;
        row = λ words births company. repeats_unsent words births c.net first c.shells.items d.shells.items company looked still.len still.still d.net still.looked gathered gathered.rows number unsent;
        score = score;
      }

      -- its receiver has no shell
      pub repeats_out : (number who : ℕ) → Some who ≡ option_map h.receiver (numbered (mails (seen first)) number) → IsNowhere c.shells.items who → RowEnds (λ s rows. line_row s rows (AgainLine number)) c d (Ok false)
      repeats_out number who receiver out = record {
        on = looked_on;
        row = λ words births company. repeats_nowhere words births c.net first c.shells.items d.shells.items company looked still.len still.still d.net still.looked gathered gathered.rows number who receiver out;
        score = score;
      }

  -- a loss of mail of an actor that has no shell
  pub loses_out : (c : Company A M O g h) (who k : ℕ) → AreTogether c → IsNowhere c.shells.items who → RowEnds (λ s rows. line_row s rows (DropLine who k)) c c (Ok false)
  loses_out c who k together out = record {
    on = on_same c.net c.shells.items together;
    row = λ words births company. loses_nowhere words births c.net c.shells.items company who k out;
    score = refl;
  }

  -- mails are counted from 1
  pub loses_zero : (c : Company A M O g h) (who k : ℕ) → AreTogether c → k ≡ 0 → RowEnds (λ s rows. line_row s rows (DropLine who k)) c c (Ok false)
  loses_zero c who k together e = subst (λ n. RowEnds (λ s rows. line_row s rows (DropLine who n)) c c (Ok false)) (sym e) (record {
    on = on_same c.net c.shells.items together;
    row = λ words births company. (company, refl, refl);
    score = refl;
  })

  -- all gathered once more
  pub rested : (c d : Company A M O g h) → AreTogether c → AreStill c.net d.net c.shells.items d.shells.items → IsGathered d.net d.shells.items → d.score ≡ c.score → HasRested c d
  rested c d together still gathered score = record {
    on = on_gathered c.net c.net d.net c.shells.items d.shells.items together.crew.exchange together.crew.sound (stays_same c.net) still gathered;
    rests = λ births company. company_still births c.net d.net c.shells.items d.shells.items company still.looked still.len still.still gathered gathered.rows;
    score = score;
  }

  -- nothing was done
  pub rested_same : (c : Company A M O g h) → AreTogether c → HasRested c c
  rested_same c together = record { on = on_same c.net c.shells.items together; rests = λ births company. (company, refl); score = refl }

  -- after what only rests, all are together
  pub together_rested : (c d : Company A M O g h) → AreTogether c → HasRested c d → AreTogether d
  together_rested c d together rest = together_on c.net d.net c.shells.items d.shells.items together.crew.first rest.on

  -- what is found after a rest is found
  pub found_then : (c m d : Company A M O g h) (found : Option ℕ) → HasRested c m → HasFound m d found → HasFound c d found
  found_then c m d found rest after = record {
    rested = record {
      on = on_then c.net m.net d.net c.shells.items m.shells.items d.shells.items rest.on after.rested.on;
      rests = λ births company. let one = rest.rests births company in let two = after.rested.rests births one.0 in (two.0, two.1 ∙ one.1);
      score = after.rested.score ∙ rest.score;
    };
    finds = after.finds;
  }
