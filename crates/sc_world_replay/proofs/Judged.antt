-- What rows leave, and whether they are lawful, by where the check ended.
use Rattle.std.proofs.Common.{◌≡◌, ℕ, suc, ◌+◌, ◌<◌, ◌≤◌, List, [], ◌∷◌, length, take, drop, get_or, refl, ◌∙◌, ap, subst, arith, zero, None, sym}
use Rattle.std.specs.List.{flat_map}
use Rattle.std.specs.Prelude.{◌↔◌, IsTrue, is_none}
use Rattle.sc_actor.specs.declared.rows.Row.{Row}
use Rattle.sc_actor.specs.declared.actors.Seat.{Seat}
use Rattle.sc_actor.specs.declared.schedules.Line.{Line}
use Rattle.sc_actor.specs.Mail.{pending}
use Rattle.sc_actor.specs.System.{System, numbers_of, kth}
use Rattle.sc_actor.specs.Walk.{IsLawful, tasks_of}
use Rattle.sc_actor.proofs.TaskLemmas.{split}
use Rattle.std.proofs.lemmas.Bool.{false≢true}
use Rattle.std.proofs.lemmas.List.{take-append-drop}
use Rattle.sc_actor.proofs.WalkLemmas.{lawful-prefix}
use Rattle.sc_world_replay.specs.declared.stages.Stage.{Stage}
use Rattle.sc_world_replay.specs.declared.judging.Replayed.{Replayed}
use Rattle.sc_world_replay.specs.Moves.{IsStageAt, Rules, with_births}
use Rattle.sc_world_replay.specs.Checks.{Follows, Ends, Breaks}
use Rattle.sc_world_replay.specs.declared.judging.Verdict.{Verdict}
use Rattle.sc_world_replay.specs.declared.judging.Verdict.TheVariants.{Lawful, BadRow}
use Rattle.sc_world_replay.specs.Replays.{HasReplayed, Leaves, IsBadRow, IsReplayed, says_lawful}
use Rattle.sc_world_replay.proofs.Seats.{numbers_of-values}
use Rattle.sc_world_replay.proofs.Checks.{IsStageAt-all, IsStageAt-late, follows_all}

module _ {A M O : Type 0} (r : Rules A M O) (words : ℕ → ℕ → ℕ × ℕ) (births : List (Seat A)) (lines : List (Line O)) (old : Stage A M O) (rows : List (Row M O)) where
  -- what the stage leaves where it has taken all rows
  abbrev pub left_of : Replayed A
  left_of = record { seats = old.seats; quiet = is_none (kth (pending r.receiver (numbers_of old.seats.items) old.rows None) 1); skipped = old.skipped; unsettled = old.unsettled }

  -- a stage that has taken all rows leaves what its walk says
  pub leaves : old.rows ≡ rows → HasReplayed (with_births r words births) lines rows old.unsettled old.skipped old.seats.items → (left : Replayed A) → left ≡ left_of → Leaves (with_births r words births) lines rows left
  leaves all replayed left e = subst (Leaves (with_births r words births) lines rows) (sym e) (record {
    replayed = replayed;
    quiet_now =
        ap (λ numbers. is_none (kth (pending r.receiver numbers old.rows None) 1)) (ap numbers_of replayed.actors ∙ numbers_of-values r.table births rows)
        ∙ ap (λ xs. is_none (kth (pending r.receiver (numbers_of births) xs None) 1)) all;
  })

  -- the rows end in a line
  pub judged_ends : (new : Stage A M O) (i : ℕ) (line : Line O) → i < length lines → line ≡ get_or lines i line → IsStageAt (with_births r words births) lines old (flat_map (tasks_of words) (drop i lines)) → Ends r old (tasks_of words line) new rows →
      (new.rows ≡ rows) × HasReplayed (with_births r words births) lines rows new.unsettled new.skipped new.seats.items
  judged_ends new i line lt is at ends =
      ends words births lines (flat_map (tasks_of words) (drop (i + 1) lines)) (subst (λ ts. IsStageAt (with_births r words births) lines old ts) (split words lines i line lt is) at)

  -- a row is wrong
  pub judged_breaks : (new : Stage A M O) (i : ℕ) (line : Line O) → i < length lines → line ≡ get_or lines i line → IsStageAt (with_births r words births) lines old (flat_map (tasks_of words) (drop i lines)) → Breaks r old (tasks_of words line) new rows →
      IsBadRow (with_births r words births) lines rows (length new.rows + 1)
  judged_breaks new i line lt is at breaks =
      breaks words births lines (flat_map (tasks_of words) (drop (i + 1) lines)) (subst (λ ts. IsStageAt (with_births r words births) lines old ts) (split words lines i line lt is) at)

  first_left : (rest : List (Row M O)) → rest ≡ drop (length old.rows) rows → length old.rows < length rows → (row : Row M O) × (row ≡ get_or rows (length old.rows) row)
  first_left rest e lt = there rows (length old.rows) lt
    where
      there : (xs : List (Row M O)) (i : ℕ) → i < length xs → (row : Row M O) × (row ≡ get_or xs i row)
      there [] i lt = absurd (omega arith)
      there (x ∷ xs) zero lt = (x, refl)
      there (x ∷ xs) (suc i) lt = there xs i (omega arith)

  -- rows go on past the schedule
  pub late : length old.rows < length rows → IsStageAt (with_births r words births) lines old [] → Follows old.rows rows → IsBadRow (with_births r words births) lines rows (length old.rows + 1)
  late shorter at follows = let first = first_left (drop (length old.rows) rows) refl shorter in IsStageAt-late r words births lines old rows first.0 at follows shorter first.1

  -- the rows end with the schedule
  pub judged_all : length rows ≤ length old.rows → IsStageAt (with_births r words births) lines old [] → Follows old.rows rows → (old.rows ≡ rows) × HasReplayed (with_births r words births) lines rows old.unsettled old.skipped old.seats.items
  judged_all none_left at follows =
      let all = sym (follows_all old.rows rows follows none_left) in
      (all, IsStageAt-all r words births lines old rows at all)

-- rows with a first one that is not lawful are not
broken : {A M O : Type 0} (s : System A M O) (lines : List (Line O)) (rows : List (Row M O)) (at : ℕ) → IsBadRow s lines rows at → IsLawful s lines rows → ⊥
broken s lines rows at bad lawful = bad.not_with (lawful-prefix s lines (take at rows) (drop at rows) (subst (IsLawful s lines) (sym (take-append-drop at rows)) lawful))

-- a replay says that rows are lawful exactly where they are
pub judged : {A M O : Type 0} (s : System A M O) (lines : List (Line O)) (rows : List (Row M O)) (verdict : Verdict A) → IsReplayed s lines rows verdict → IsTrue (says_lawful verdict) ↔ IsLawful s lines rows
judged s lines rows (Lawful left) leaves_ = (λ e. leaves_.replayed.lawful, λ h. refl)
judged s lines rows (BadRow at) bad = (λ e. absurd (false≢true e), λ h. absurd (broken s lines rows at bad h))
