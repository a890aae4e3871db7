-- Lines of many deliveries, over a company.
use Rattle.std.proofs.Common.{◌≡◌, ℕ, ◌-◌, ◌<◌, List, [], ◌∷◌, Option, Some, None, refl, ◌∙◌, sym, subst, true}
use Rattle.sc_actor.specs.declared.actors.Actor.{Ghosts}
use Rattle.sc_actor.specs.declared.actors.Parcel.{Ghosts as MailGhosts}
use Rattle.sc_actor.specs.Walk.{Task, Settles}
use Rattle.sc_thread_work.specs.declared.shell.turns.Turn.TheVariants.{Did, Full}
use Rattle.sc_thread_drive.specs.declared.company.Company.{Company}
use Rattle.sc_thread_drive.specs.declared.company.Score.{Score}
use Rattle.sc_thread_drive.specs.Goings.{Goes}
use Rattle.sc_thread_drive.specs.Lowest.{FindsLowest}
use Rattle.sc_thread_drive.specs.CompanyRows.{ActedByTurn, AreTogether, HasFound, HasRested, HasSettledOne, LineEnded, LineRefused}
use Rattle.sc_thread_drive.proofs.GatheredExchange.{kept_then, on_same, on_then, together_on}
use Rattle.sc_thread_drive.proofs.SettleSteps.{fills_then, goes_rest, goes_then, settles_cut, settles_did, settles_full, settles_quiet}

module _ {A M O : Type 0} {g : Ghosts A M O} {h : MailGhosts M} where
  -- a line goes on to a company with an equal score
  scored : (c d : Company A M O g h) (tasks left : List (Task O)) (score : Score) → score ≡ d.score → Goes c.net c.shells.items c.score tasks d.net d.shells.items score left → Goes c.net c.shells.items c.score tasks d.net d.shells.items d.score left
  scored c d tasks left score e goes = subst (λ s. Goes c.net c.shells.items c.score tasks d.net d.shells.items s left) e goes

  -- what a line does and then what another does
  pub line_then : (c m d : Company A M O g h) (before middle left : List (Task O)) → LineEnded before middle c m → LineEnded middle left m d → LineEnded before left c d
  line_then c m d before middle left one two = record {
    on = on_then c.net m.net d.net c.shells.items m.shells.items d.shells.items one.on two.on;
    goes = goes_then c.net m.net d.net c.shells.items m.shells.items d.shells.items c.score m.score d.score before middle left one.goes two.goes;
  }

  -- what a line does, and then another that comes to a row that would pass the limit
  pub line_refused_then : (c m d : Company A M O g h) (before middle : List (Task O)) → LineEnded before middle c m → LineRefused middle m d → LineRefused before c d
  line_refused_then c m d before middle one two = record {
    kept = kept_then c.net m.net d.net c.shells.items m.shells.items d.shells.items one.on.kept.stays one.on.kept.same two.kept;
    fills = fills_then c.net m.net d.net c.shells.items m.shells.items c.score m.score before middle one.on.kept.stays.exchange.2 one.goes two.fills;
  }

  -- a rest takes the walk nowhere
  pub line_rested : (c d : Company A M O g h) (tasks : List (Task O)) → HasRested c d → LineEnded tasks tasks c d
  line_rested c d tasks rest = record {
    on = rest.on;
    goes = scored c d tasks tasks c.score (sym rest.score) (goes_rest c.net d.net c.shells.items d.shells.items c.score tasks rest.rests rest.on.kept.stays.exchange.2);
  }

  -- all are together after a line
  pub together_after : (c d : Company A M O g h) (tasks left : List (Task O)) → AreTogether c → LineEnded tasks left c d → AreTogether d
  together_after c d tasks left together line = together_on c.net d.net c.shells.items d.shells.items together.crew.first line.on

  -- all are together after a turn that made a row
  pub served_together : (c d : Company A M O g h) (place k at : ℕ) → AreTogether c → ActedByTurn place k (Did at) c d → AreTogether d
  served_together c d place k at together act = together_on c.net d.net c.shells.items d.shells.items together.crew.first (record { kept = act.kept; sound = act.sound })

  module _ (c m : Company A M O g h) (left place n : ℕ) (finds : FindsLowest c.net c.shells.items (Some place)) (some : 0 < left) where
    one_served : ActedByTurn place 1 (Did n) c m → LineEnded (Settles left ∷ []) (Settles (left - 1) ∷ []) c m
    one_served act = record {
      on = record { kept = act.kept; sound = act.sound };
      goes = scored c m (Settles left ∷ []) (Settles (left - 1) ∷ []) c.score (sym act.score)
          (settles_did c.net c.shells.items c.score c.score left m.net m.shells.items place n finds some act.kept.stays.exchange.2 act.served refl refl refl);
    }

    -- its row would pass the limit
    pub full_settles : ActedByTurn place 1 (Full n) c m → LineRefused (Settles left ∷ []) c m
    full_settles act = record {
      kept = act.kept;
      fills = settles_full c.net c.shells.items c.score c.score left m.net m.shells.items place n finds some act.served;
    }

  -- one delivery was made, and the next place was found
  pub settled_one : (c m d : Company A M O g h) (left place n : ℕ) (found : Option ℕ) → FindsLowest c.net c.shells.items (Some place) → 0 < left → ActedByTurn place 1 (Did n) c m → HasFound m d found → HasSettledOne left c d found
  settled_one c m d left place n found finds some act after = record {
    line = line_then c m d (Settles left ∷ []) (Settles (left - 1) ∷ []) (Settles (left - 1) ∷ []) (one_served c m left place n finds some act) (line_rested m d (Settles (left - 1) ∷ []) after.rested);
    staffed = λ births company. (after.rested.rests births (act.served births company).0).0;
    finds = after.finds;
    score = after.rested.score ∙ act.score;
  }

  -- no mail is pending
  pub quiet_settles : (c : Company A M O g h) (left : ℕ) → AreTogether c → FindsLowest c.net c.shells.items None → LineEnded (Settles left ∷ []) [] c c
  quiet_settles c left together finds = record {
    on = on_same c.net c.shells.items together;
    goes = settles_quiet c.net c.shells.items c.score c.score left finds refl refl refl;
  }

  -- all deliveries were made, and mail is pending
  pub cut_settles : (c : Company A M O g h) (left place : ℕ) → AreTogether c → left ≡ 0 → FindsLowest c.net c.shells.items (Some place) → LineEnded (Settles left ∷ []) [] c (record c { score = record c.score { unsettled = true } })
  cut_settles c left place together none finds = record {
    on = on_same c.net c.shells.items together;
    goes = settles_cut c.net c.shells.items c.score (record c.score { unsettled = true }) left place finds none refl refl refl;
  }
