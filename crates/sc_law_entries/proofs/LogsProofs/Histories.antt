-- What rows that decide in turn leave with more rows, and the row that decides each entry of the history.
use Rattle.std.proofs.Common.{◌≡◌, ℕ, ◌+◌, ◌<◌, ◌≤◌, nat_lt, List, [], ◌∷◌, ◌++◌, length, Some, inl, inr, refl, sym, ◌∙◌, ap, subst, append-nil, append_assoc, arith}
use Rattle.std.specs.Prelude.{slice_get}
use Rattle.std.proofs.lemmas.Bool.{cases_lt, lt-ltb, le-ltb, cond-true, cond-false}
use Rattle.std.proofs.lemmas.Option.{slice_get_within}
use Rattle.sc_base.specs.Definitions.{Among}
use Rattle.sc_words.specs.declared.commands.commands.Command.TheVariants.{Call}
use Rattle.sc_words.specs.declared.commands.cores.Base.{Base}
use Rattle.sc_words.specs.declared.commands.orders.OrderLine.{OrderLine}
use Rattle.sc_mail.specs.declared.bodies.Mail.{Mail}
use Rattle.sc_actor.specs.declared.rows.Row.{Row}
use Rattle.sc_words.specs.declared.ideal.Entry.{Entry}
use Rattle.sc_meaning.specs.sound.SoundDefinitions.{Ahead, groups_at, entries_by_rows, history_at, decided_log, Continues, row_of_entry_from}
use Rattle.sc_meaning.specs.entries.EntryDefinitions.{StoreWorld}
use Rattle.sc_law_entries.specs.ring.RingDefinitions.{Sources, BeginInPlace}
use Rattle.sc_law_entries.specs.logs.LogDefinitions.{Rows, IsFound, added_by, DecidesInTurn, DecideInTurn, HistoryIsDecided, DecidingRowsStay}
use Rattle.sc_law_entries.proofs.LogsProofs.Generations.{log_on, still_descends, group_found, found_group, known_by_name}
use Rattle.sc_law_entries.proofs.LogsProofs.FactsInTurn.{JournalFacts, first_rows, Decides}
use Rattle.sc_law_entries.proofs.LogsProofs.Pushes.{d, world_next}
use Rattle.sc_law_entries.proofs.LogsProofs.RowsInTwoParts.{in_turn_parts, entries_parts, told_stays, get_prefix, get_behind}
use Rattle.sc_law_entries.proofs.LogsProofs.Findings.{found_turn, push_turn, deciding_rows}

-- ---- with more rows

module _ (sources : Sources) (ahead : Ahead) (bases : List Base) (start : BeginInPlace sources bases) where
  decided : (before : Rows) (k : JournalFacts sources ahead bases before) (row : Row Mail OrderLine) (turn : DecidesInTurn sources ahead bases before row) → Decides sources ahead bases start before k row (found_turn sources ahead bases start before k row turn)
  decided before k row turn = d sources ahead bases start before k row (found_turn sources ahead bases start before k row turn)

  still : (before : Rows) → JournalFacts sources ahead bases before → (row : Row Mail OrderLine) → DecidesInTurn sources ahead bases before row → (base : Base) → IsFound ahead bases before base → IsFound ahead bases (before ++ row ∷ []) base
  still before k row turn base f = (f.0, still_descends sources ahead bases before row (found_turn sources ahead bases start before k row turn) f.0 base f.1)

  found_later : (before more : Rows) → JournalFacts sources ahead bases before → DecideInTurn sources ahead bases before more → (base : Base) → IsFound ahead bases before base → IsFound ahead bases (before ++ more) base
  found_later before [] k h base f = subst (λ b. IsFound ahead bases b base) (sym (append-nil before)) f
  found_later before (row ∷ more) k h base f =
      subst (λ b. IsFound ahead bases b base) (append_assoc before (row ∷ []) more)
      (found_later (before ++ row ∷ []) more (push_turn sources ahead bases start before k row h.0) h.1 base (still before k row h.0 base f))

  log_later : (before more : Rows) → JournalFacts sources ahead bases before → DecideInTurn sources ahead bases before more → (base : Base) → IsFound ahead bases before base → Continues (decided_log ahead base before) (decided_log ahead base (before ++ more))
  log_later before [] k h base f = ([], ap (decided_log ahead base) (append-nil before) ∙ sym (append-nil (decided_log ahead base before)))
  log_later before (row ∷ more) k h base f =
      let now = added_by ahead before row base in
      let (later, fact) = log_later (before ++ row ∷ []) more (push_turn sources ahead bases start before k row h.0) h.1 base (still before k row h.0 base f) in (
        now ++ later,
        ap (decided_log ahead base) (sym (append_assoc before (row ∷ []) more)) ∙ fact
            ∙ ap (λ cs. cs ++ later) (log_on sources ahead bases before row (found_turn sources ahead bases start before k row h.0) base f)
            ∙ append_assoc (decided_log ahead base before) now later,
      )

  -- the history with one more row
  history_on : (before : Rows) (k : JournalFacts sources ahead bases before) (row : Row Mail OrderLine) (turn : DecidesInTurn sources ahead bases before row)
      → history_at ahead bases (before ++ row ∷ []) ≡ history_at ahead bases before ++ (decided before k row turn).news
  unfolding decided
  history_on before k row turn = ap (λ (w : StoreWorld). w.history) (world_next sources ahead bases start before k row (found_turn sources ahead bases start before k row turn)) ∙ (decided before k row turn).history

  history_later : (before more : Rows) → JournalFacts sources ahead bases before → DecideInTurn sources ahead bases before more → (later : List Entry) × (history_at ahead bases (before ++ more) ≡ history_at ahead bases before ++ later)
  history_later before [] k h = ([], ap (history_at ahead bases) (append-nil before) ∙ sym (append-nil (history_at ahead bases before)))
  history_later before (row ∷ more) k h =
      let now = (decided before k row h.0).news in
      let (later, fact) = history_later (before ++ row ∷ []) more (push_turn sources ahead bases start before k row h.0) h.1 in (
        now ++ later,
        ap (history_at ahead bases) (sym (append_assoc before (row ∷ []) more)) ∙ fact
            ∙ ap (λ es. es ++ later) (history_on before k row h.0)
            ∙ append_assoc (history_at ahead bases before) now later,
      )

  -- ---- the row of an entry

  -- an entry of the history after these rows is decided by one of the later ones
  record IsRecordedFrom (before rows : Rows) (place : ℕ) (entry : Entry) : Type 0 where
    prefix : Rows
    row : Row Mail OrderLine
    later : Rows
    are : before ++ rows ≡ prefix ++ row ∷ later
    is_recorded : row_of_entry_from ahead bases place before rows ≡ Some (length prefix + 1)
    not_before : length (history_at ahead bases prefix) ≤ place
    after : place < length (history_at ahead bases (prefix ++ row ∷ []))
    base : Base
    stands : Among base (groups_at ahead bases prefix)
    call : Among (Call entry.client entry.seq entry.op) (added_by ahead prefix row base)

  told_now : (before rows : Rows) (row : Row Mail OrderLine) → (k : JournalFacts sources ahead bases before) → (turn : DecidesInTurn sources ahead bases before row) → DecideInTurn sources ahead bases (before ++ row ∷ []) rows
      → (place : ℕ) (entry : Entry) → length (history_at ahead bases before) ≤ place → place < length (history_at ahead bases (before ++ row ∷ [])) → slice_get (history_at ahead bases (before ++ row ∷ rows)) place ≡ Some entry
      → IsRecordedFrom before (row ∷ rows) place entry
  told_now before rows row k turn h place entry le lt at =
      let next = before ++ row ∷ [] in
      let recorded = history_at ahead bases next in
      let decides = decided before k row turn in
      let (later, fact) = history_later next rows (push_turn sources ahead bases start before k row turn) h in
      let whole : history_at ahead bases (before ++ row ∷ rows) ≡ recorded ++ later = ap (history_at ahead bases) (sym (append_assoc before (row ∷ []) rows)) ∙ fact in
      let here = get_prefix recorded later place entry lt (subst (λ es. slice_get es place ≡ Some entry) whole at) in
      let new = get_behind (history_at ahead bases before) decides.news place entry le (subst (λ es. slice_get es place ≡ Some entry) (history_on before k row turn) here) in
      let (base, f, call) = decides.backlog entry new in
      record {
        prefix = before;
        row = row;
        later = rows;
        are = refl;
        is_recorded = cond-true (nat_lt place (length recorded)) (Some (length before + 1)) (row_of_entry_from ahead bases place next rows) (lt-ltb place (length recorded) lt);
        not_before = le;
        after = lt;
        base = base;
        stands = found_group ahead bases before k.one k.near base f;
        call = call;
      }

  told_place : (before rows : Rows) → JournalFacts sources ahead bases before → DecideInTurn sources ahead bases before rows
      → (place : ℕ) (entry : Entry) → length (history_at ahead bases before) ≤ place → slice_get (history_at ahead bases (before ++ rows)) place ≡ Some entry → IsRecordedFrom before rows place entry
  told_place before [] k h place entry le at =
      let inside = slice_get_within (history_at ahead bases before) place entry (subst (λ b. slice_get (history_at ahead bases b) place ≡ Some entry) (append-nil before) at) in
      absurd (omega (arith, inside, le))
  told_place before (row ∷ rows) k h place entry le at =
      let next = before ++ row ∷ [] in
      let recorded = history_at ahead bases next in
      elim (cases_lt place (length recorded)) [
        | inl lt ↦ told_now before rows row k h.0 h.1 place entry le lt at
        | inr ge ↦ (
            let t = told_place next rows (push_turn sources ahead bases start before k row h.0) h.1 place entry (omega (arith, ge)) (subst (λ b. slice_get (history_at ahead bases b) place ≡ Some entry) (sym (append_assoc before (row ∷ []) rows)) at) in
            record {
              prefix = t.prefix;
              row = t.row;
              later = t.later;
              are = sym (append_assoc before (row ∷ []) rows) ∙ t.are;
              is_recorded = cond-false (nat_lt place (length recorded)) (Some (length before + 1)) (row_of_entry_from ahead bases place next rows) (le-ltb place (length recorded) (omega (arith, ge))) ∙ t.is_recorded;
              not_before = t.not_before;
              after = t.after;
              base = t.base;
              stands = t.stands;
              call = t.call;
            })
      ]

-- ---- the laws

pub history_is_decided : HistoryIsDecided
history_is_decided sources ahead bases start rows h place entry at =
    let t = told_place sources ahead bases start [] rows (first_rows sources ahead bases start) h place entry (omega arith) at in
    record {
      before = t.prefix;
      row = t.row;
      later = t.later;
      are = t.are;
      is_recorded = t.is_recorded;
      not_before = t.not_before;
      after = t.after;
      base = t.base;
      stands = t.stands;
      call = t.call;
    }

pub deciding_rows_stay : DecidingRowsStay
deciding_rows_stay sources ahead bases start rows more h =
    let (first, rest) = in_turn_parts sources ahead bases [] rows more h in
    let k = deciding_rows sources ahead bases start rows first in
    let now = deciding_rows sources ahead bases start (rows ++ more) h in
    record {
      groups = λ base a. found_group ahead bases (rows ++ more) now.one now.near base (found_later sources ahead bases start rows more k rest base (group_found ahead bases rows base a));
      logs = λ base a. (
          let f = group_found ahead bases rows base a in
          let (later, fact) = log_later sources ahead bases start rows more k rest base f in
          (later, (known_by_name ahead bases (rows ++ more) now.one now.near base (found_later sources ahead bases start rows more k rest base f)).log ∙ fact));
      entries = (entries_by_rows ahead bases rows more, entries_parts ahead bases [] rows more);
      history = history_later sources ahead bases start rows more k rest;
      recorded = λ place at e. told_stays ahead bases place at [] rows more e;
    }
