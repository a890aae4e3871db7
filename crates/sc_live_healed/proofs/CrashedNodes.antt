-- A line that crashes a node is carried out: behind the lines that heal, each node that a line crashes has crashed.
use Rattle.std.proofs.Common.{◌≡◌, ℕ, ◌&&◌, ◌||◌, eqb, Bool, true, false, true≢false, List, [], ◌∷◌, ◌++◌, find, Option, Some, None, refl, sym, ◌∙◌, ap, subst}
use Rattle.std.specs.Prelude.{is_none}
use Rattle.std.specs.List.{flat_map, list_any}
use Rattle.std.specs.Option.{option_map}
use Rattle.std.proofs.lemmas.Bool.{cond_both, eqb-true, eq-eqb, and_from, or_left, or_right}
use Rattle.std.proofs.lemmas.List.Folds.{list_any-append}
use Rattle.sc_node_table.specs.Values.{Seat, Row}
use Rattle.sc_actor.specs.declared.rows.Event.TheVariants.{Crash as CrashEvent}
use Rattle.sc_actor.specs.declared.schedules.Line.{Line}
use Rattle.sc_actor.specs.declared.schedules.Line.TheVariants.{Crash as CrashLine}
use Rattle.sc_actor.specs.Definitions.{System, Task, Once, IsLawful, IsWhole, is_over, tasks_of, line_row, acts, row_of, has_crashed, is_crash}
use Rattle.sc_actor.proofs.Lemmas.{Stands, Stands-begin}
use Rattle.sc_words.proofs.PaxosProofs.PaxosLemmas.{find_found}
use Rattle.sc_scenario.specs.declared.scenario.scenarios.SchedLine.{SchedLine}
use Rattle.sc_scenario.specs.declared.scenario.scenarios.SchedLine.TheVariants.{Crash}
use Rattle.sc_live_orderly.specs.OrderlyDefinitions.{Kick, Ticks, Starts}
use Rattle.sc_live_orderly.proofs.PassedTasks.{flat_append, more_rows, next_row, reach}
use Rattle.sc_live_healed.specs.HealedDefinitions.{crashes, ClientTurn, client_line, client_lines}

-- ---- one line

module _ {A M O : Type 0} (s : System A M O) (pre post : List (Line O)) (node : ℕ) (journal : List (Row M O)) (lawful : IsLawful s (pre ++ CrashLine node ∷ post) journal) (whole : IsWhole s (pre ++ CrashLine node ∷ post) journal) (seat : Seat A) (born : find (λ (other : Seat A). eqb other.who node) s.births ≡ Some seat) where
  abbrev all : List (Line O)
  all = pre ++ CrashLine node ∷ post

  abbrev back : List (Task O)
  back = flat_map (tasks_of s.words) post

  acts_so : (rows : List (Row M O)) → acts s rows node CrashEvent ≡ Some (row_of s.table seat rows CrashEvent)
  acts_so rows = ap (λ (o : Option (Seat A)). option_map (λ (x : Seat A). row_of s.table x rows CrashEvent) o) born

  who_is : seat.who ≡ node
  who_is = eqb-true seat.who node (find_found (λ (other : Seat A). eqb other.who node) s.births seat born).1

  -- the line is skipped only where the node has crashed
  over_crashed : (rows : List (Row M O)) → is_none (line_row s rows (CrashLine node)) ≡ true → has_crashed rows node ≡ true
  over_crashed rows e =
      cond_both (has_crashed rows node) None (acts s rows node CrashEvent) (λ (o : Option (Row M O)). is_none o ≡ true → has_crashed rows node ≡ true) (λ t _. t)
      (λ _ none. absurd (true≢false (sym none ∙ ap is_none (acts_so rows)))) e

  row_crashes : (rows : List (Row M O)) (row : Row M O) → line_row s rows (CrashLine node) ≡ Some row → (eqb row.who node && is_crash row.event) ≡ true
  row_crashes rows row e =
      cond_both (has_crashed rows node) None (acts s rows node CrashEvent) (λ (o : Option (Row M O)). o ≡ Some row → (eqb row.who node && is_crash row.event) ≡ true) (λ _ none. absurd (none_row none))
      (λ _ some. (let fact : row_of s.table seat rows CrashEvent ≡ row = one_row (sym (acts_so rows) ∙ some) in
      and_from (eqb row.who node) (is_crash row.event) (eq-eqb row.who node (ap (λ (r : Row M O). r.who) (sym fact) ∙ who_is)) (ap (λ (r : Row M O). is_crash r.event) (sym fact)))) e
    where
      none_row : {x : Row M O} → None ≡ Some x → ⊥
      none_row e = cc

      one_row : {x y : Row M O} → Some x ≡ Some y → x ≡ y
      one_row e = cc

  still : (rows more : List (Row M O)) → journal ≡ rows ++ more → has_crashed rows node ≡ true → has_crashed journal node ≡ true
  still rows more e t =
      ap (λ rs. has_crashed rs node) e ∙ list_any-append (λ (row : Row M O). eqb row.who node && is_crash row.event) rows more
      ∙ or_left (has_crashed rows node) (list_any (λ (row : Row M O). eqb row.who node && is_crash row.event) more) t

  pub line_crashes : has_crashed journal node ≡ true
  line_crashes =
      let begins = subst (λ tasks. Stands s all [] tasks 0 false) (flat_append (tasks_of s.words) pre (CrashLine node ∷ post)) (Stands-begin s all) in
      let at = reach s all journal lawful whole (Once (CrashLine node) ∷ back) journal [] (flat_map (tasks_of s.words) pre) 0 false refl begins in
      by at.rows at.more at.k at.c at.journal_is at.stands (is_over s at.rows (Once (CrashLine node))) refl
    where
      by : (rows more : List (Row M O)) (k : ℕ) (c : Bool) → journal ≡ rows ++ more → Stands s all rows (Once (CrashLine node) ∷ back) k c → (b : Bool) → is_over s rows (Once (CrashLine node)) ≡ b → has_crashed journal node ≡ true
      by rows more k c e stands true over = still rows more e (over_crashed rows over)
      by rows [] k c e stands false open_ = absurd (more_rows s all journal lawful whole rows (Once (CrashLine node)) back k c e stands open_)
      by rows (row ∷ more) k c e stands false open_ =
          let allowed : line_row s rows (CrashLine node) ≡ Some row = next_row s all journal lawful whole rows row more (Once (CrashLine node)) back k c e stands open_ in
          ap (λ rs. has_crashed rs node) e ∙ list_any-append (λ (r : Row M O). eqb r.who node && is_crash r.event) rows (row ∷ more)
          ∙ or_right (has_crashed rows node) ((eqb row.who node && is_crash row.event) || list_any (λ (r : Row M O). eqb r.who node && is_crash r.event) more)
          (or_left (eqb row.who node && is_crash row.event) (list_any (λ (r : Row M O). eqb r.who node && is_crash r.event) more) (row_crashes rows row allowed))

-- ---- among the lines of a scenario

-- some lines with one that crashes the node
pub record HasCrash (node : ℕ) (lines : List SchedLine) : Type 0 where
  pub pre : List SchedLine
  pub post : List SchedLine
  pub lines_are : lines ≡ pre ++ Crash node ∷ post

crash_is : (node : ℕ) (line : SchedLine) → crashes node line ≡ true → line ≡ Crash node
crash_is node (Crash other) e = ap Crash (eqb-true other node e)
crash_is node _ e = absurd (true≢false (sym e))

pub has_crash : (node : ℕ) (lines : List SchedLine) → list_any (crashes node) lines ≡ true → HasCrash node lines
has_crash node [] e = absurd (true≢false (sym e))
has_crash node (line ∷ lines) e = by (crashes node line) refl (λ t. has_crash node lines t)
  where
    by : (b : Bool) → crashes node line ≡ b → (list_any (crashes node) lines ≡ true → HasCrash node lines) → HasCrash node (line ∷ lines)
    by true t more = record { pre = []; post = lines; lines_are = ap (λ l. l ∷ lines) (crash_is node line t) }
    by false f more = (let rest = more (sym (ap (λ b. b || list_any (crashes node) lines) f) ∙ e) in record { pre = line ∷ rest.pre; post = rest.post; lines_are = ap (λ ls. line ∷ ls) rest.lines_are })

-- turns of clients crash nobody
pub asks_spare : (node : ℕ) (asks : List ClientTurn) → list_any (crashes node) (flat_map client_lines asks) ≡ false
asks_spare node [] = refl
asks_spare node (turn ∷ asks) = ap (λ b. b || list_any (crashes node) (flat_map client_lines asks)) (by turn.kick) ∙ asks_spare node asks
  where
    by : (kick : Kick) → crashes node (client_line kick turn.client) ≡ false
    by Ticks = refl
    by Starts = refl
