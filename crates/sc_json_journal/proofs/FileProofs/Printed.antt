-- The file of a scenario's bytes and rows is one.
use Rattle.std.proofs.Common.{◌≡◌, ℕ, ◌+◌, ◌-◌, ◌<◌, ◌≤◌, true, false, not, eqb, nat_lt, List, [], ◌∷◌, ◌++◌, length, take, drop, get_or, map, Some, refl, sym, ap, ◌∙◌, subst, inl, inr, arith, append_assoc, length-append}
use Rattle.std.specs.Prelude.{Ok, ◌⊎◌}
use Rattle.std.specs.Option.{option_map}
use Rattle.std.proofs.lemmas.Bool.{cond-true, cond-false, cond_both, or_from, or_left, or_right, le-ltb, lt-ltb, ltb-false, eq-eqb, ne_eqb, eqb-false, not-true}
use Rattle.std.proofs.lemmas.List.{append-nil, take_at, drop_at, length-take, get_or_push, get_or_append_left, get_or-append_right}
use Rattle.std.proofs.lemmas.List.Sums.{AllPass-from_list_all}
use Rattle.sc_base.specs.Among.{Each}
use Rattle.sc_actor.specs.declared.rows.Row.{Row}
use Rattle.sc_words.specs.declared.commands.orders.OrderLine.{OrderLine}
use Rattle.sc_mail.specs.declared.bodies.Mail.{Mail}
use Rattle.sc_texts.specs.lines.Lines.{most_bytes, is_too_long, lines_in}
use Rattle.sc_texts.specs.lines.Words.{same}
use Rattle.sc_json_text.specs.rows.RowText.{text_of, IsHeld}
use Rattle.sc_scenario.specs.scenario.Grammar.{lines_read, verdict_of}
use Rattle.sc_scenario.specs.declared.scenario.drafts.Reading.TheVariants.{Fresh}
use Rattle.sc_scenario.specs.declared.scenario.scenarios.Scenario.{Scenario}
use Rattle.sc_words.proofs.PaxosProofs.ListLemmas.{Each-append}
use Rattle.sc_scenario.proofs.ScenarioProofs.Verdicts.{verdict_all}
use Rattle.sc_json_journal.specs.file.Files.{divider, fed, whole, lines_before, divider_at, has_empty_end, scenario_text, IsCut}
use Rattle.sc_json_journal.specs.file.Stored.{rows_whole}
use Rattle.sc_json_journal.specs.file.Laws.{PrintedFilesAreFiles}
use Rattle.sc_json_journal.proofs.FileProofs.Dividers.{measure}
use Rattle.sc_json_journal.proofs.FileProofs.Plain.{length_fed}
use Rattle.sc_json_journal.proofs.FileProofs.Rows.{AreLines}
use Rattle.sc_json_journal.proofs.FileProofs.NoDivider.{IsOther, all_other, not_long}
use Rattle.sc_json_journal.proofs.FileProofs.WholeLines.{IsPlain, EndsBare, lines_ended, lines_bare, lines_are}

-- ---- where the last line ends

last_of : (line more : List ℕ) → (more ≡ []) ⊎ ((0 < length more) × (get_or more (length more - 1) 0 ≡ 10)) → (0 < length (fed line ++ more)) × (get_or (fed line ++ more) (length (fed line ++ more) - 1) 0 ≡ 10)
last_of line more (inl none) =
    let len : length (fed line ++ more) ≡ length line + 1 = omega (arith, length-append (fed line) more, length_fed line, ap length none) in (
      omega (arith, len),
      ap (λ n. get_or (fed line ++ more) n 0) (let k : length (fed line ++ more) - 1 ≡ length line = omega (arith, len) in k)
          ∙ ap (λ end. get_or (fed line ++ end) (length line) 0) none ∙ ap (λ text. get_or text (length line) 0) (append-nil (fed line)) ∙ get_or_push line 10 0 (length line) refl,
    )
last_of line more (inr last) =
    let len : length (fed line ++ more) ≡ length (fed line) + length more = length-append (fed line) more in (
      omega (arith, len, last.0),
      get_or-append_right (fed line) more (length (fed line)) (length (fed line ++ more) - 1) 0 refl (omega (arith, len, last.0))
          ∙ ap (λ n. get_or more n 0) (let k : length (fed line ++ more) - 1 - length (fed line) ≡ length more - 1 = omega (arith, len, last.0) in k) ∙ last.1,
    )

-- the last byte of lines with their line feeds is one
last_feed : (lines : List (List ℕ)) → (whole lines ≡ []) ⊎ ((0 < length (whole lines)) × (get_or (whole lines) (length (whole lines) - 1) 0 ≡ 10))
last_feed [] = inl refl
last_feed (line ∷ lines) = inr (last_of line (whole lines) (last_feed lines))

-- lines without line feeds within, with a last one
pub record HasLast (lines : List (List ℕ)) : Type 0 where
  pub prefix : List (List ℕ)
  pub last : List ℕ
  pub lines_are : lines ≡ prefix ++ last ∷ []
  pub plain : Each IsPlain prefix
  pub plain_last : IsPlain last

ends_on : (line : List ℕ) (lines : List (List ℕ)) → IsPlain line → (lines ≡ []) ⊎ HasLast lines → HasLast (line ∷ lines)
ends_on line lines here (inl none) = record { prefix = []; last = line; lines_are = ap (λ more. line ∷ more) none; plain = tt; plain_last = here }
ends_on line lines here (inr e) =
    record { prefix = line ∷ e.prefix; last = e.last; lines_are = ap (λ more. line ∷ more) e.lines_are; plain = (here, e.plain); plain_last = e.plain_last }

-- lines are none, or some and a last one
ends : (lines : List (List ℕ)) → Each IsPlain lines → (lines ≡ []) ⊎ HasLast lines
ends [] plain = inl refl
ends (line ∷ lines) plain = inr (ends_on line lines plain.0 (ends lines plain.1))

-- lines with a last one
whole_push : (prefix : List (List ℕ)) (last : List ℕ) → whole (prefix ++ last ∷ []) ≡ whole prefix ++ fed last
whole_push [] last = append-nil (fed last)
whole_push (line ∷ prefix) last = ap (λ rest. fed line ++ rest) (whole_push prefix last) ∙ sym (append_assoc (fed line) (whole prefix) (fed last))

-- ---- the scenario's text, of whole lines

-- the byte before the last line feed
before_last : (text : List ℕ) → 0 < length text → get_or (text ++ 10 ∷ []) (length (text ++ 10 ∷ []) - 2) 0 ≡ get_or text (length text - 1) 0
before_last text some =
    let len : length (text ++ 10 ∷ []) ≡ length text + 1 = length_fed text in
    ap (λ n. get_or (text ++ 10 ∷ []) n 0) (let k : length (text ++ 10 ∷ []) - 2 ≡ length text - 1 = omega (arith, len) in k) ∙ get_or_append_left text (10 ∷ []) 0 (length text - 1) (omega (arith, some))

-- without the last line feed
cut_feed : (text : List ℕ) → take (length (text ++ 10 ∷ []) - 1) (text ++ 10 ∷ []) ≡ text
cut_feed text = take_at text (10 ∷ []) (length (text ++ 10 ∷ []) - 1) (let len : length (text ++ 10 ∷ []) ≡ length text + 1 = length_fed text in omega (arith, len))

empty_by : (text : List ℕ) → (text ≡ []) ⊎ ((0 < length text) × (get_or text (length text - 1) 0 ≡ 10)) → has_empty_end (text ++ 10 ∷ []) ≡ true
empty_by text (inl none) =
    let lt : length (text ++ 10 ∷ []) < 2 = omega (arith, length_fed text, ap length none) in
    or_left (nat_lt (length (text ++ 10 ∷ [])) 2) (eqb (get_or (text ++ 10 ∷ []) (length (text ++ 10 ∷ []) - 2) 0) 10) (lt-ltb (length (text ++ 10 ∷ [])) 2 lt)
empty_by text (inr last) =
    or_right (nat_lt (length (text ++ 10 ∷ [])) 2) (eqb (get_or (text ++ 10 ∷ []) (length (text ++ 10 ∷ []) - 2) 0) 10)
    (eq-eqb (get_or (text ++ 10 ∷ []) (length (text ++ 10 ∷ []) - 2) 0) 10 (before_last text last.0 ∙ last.1))

-- a line feed behind another byte ends a line that is not empty
full_by : (text : List ℕ) → 0 < length text → (get_or text (length text - 1) 0 ≡ 10 → ⊥) → has_empty_end (text ++ 10 ∷ []) ≡ false
full_by text some other =
    let le : 2 ≤ length (text ++ 10 ∷ []) = omega (arith, length_fed text, some) in
    or_from (nat_lt (length (text ++ 10 ∷ [])) 2) (eqb (get_or (text ++ 10 ∷ []) (length (text ++ 10 ∷ []) - 2) 0) 10) (le-ltb (length (text ++ 10 ∷ [])) 2 le)
    (ne_eqb (get_or (text ++ 10 ∷ []) (length (text ++ 10 ∷ []) - 2) 0) 10 (λ e. other (sym (before_last text some) ∙ e)))

plain_last : (last : List ℕ) → IsPlain last → 0 < length last → get_or last (length last - 1) 0 ≡ 10 → ⊥
plain_last last plain some e =
    let here = AllPass-from_list_all (λ (byte : ℕ). not (eqb byte 10)) last plain (length last - 1) 0 (omega (arith, some)) in
    eqb-false (get_or last (length last - 1) 0) 10 (not-true (eqb (get_or last (length last - 1) 0) 10) here) e

-- a text whose last line has no line feed comes back from its whole lines
bare_back : (prefix : List (List ℕ)) (last : List ℕ) → IsPlain last → 0 < length last → scenario_text (whole (prefix ++ last ∷ [])) ≡ whole prefix ++ last
bare_back prefix last plain some =
    let text : List ℕ = whole prefix ++ last in
    let len : length (whole prefix ++ last) ≡ length (whole prefix) + length last = length-append (whole prefix) last in
    let at : get_or (whole prefix ++ last) (length (whole prefix ++ last) - 1) 0 ≡ get_or last (length last - 1) 0 =
    get_or-append_right (whole prefix) last (length (whole prefix)) (length (whole prefix ++ last) - 1) 0 refl (omega (arith, len, some))
    ∙ ap (λ n. get_or last n 0) (let k : length (whole prefix ++ last) - 1 - length (whole prefix) ≡ length last - 1 = omega (arith, len, some) in k) in
    let full = full_by (whole prefix ++ last) (omega (arith, len, some)) (λ e. plain_last last plain some (sym at ∙ e)) in
    ap scenario_text (whole_push prefix last ∙ sym (append_assoc (whole prefix) last (10 ∷ [])))
    ∙ cond-false (has_empty_end ((whole prefix ++ last) ++ 10 ∷ [])) ((whole prefix ++ last) ++ 10 ∷ []) (take (length ((whole prefix ++ last) ++ 10 ∷ []) - 1) ((whole prefix ++ last) ++ 10 ∷ [])) full
    ∙ cut_feed (whole prefix ++ last)

-- ---- the same lines

lines_kept : (prefix : List (List ℕ)) (last : List ℕ) → Each IsPlain prefix → IsPlain last → lines_in false (scenario_text (whole (prefix ++ last ∷ []))) ≡ prefix ++ last ∷ []
lines_kept prefix [] plain plain_last =
    let empty : has_empty_end (whole (prefix ++ [] ∷ [])) ≡ true = ap has_empty_end (whole_push prefix []) ∙ empty_by (whole prefix) (last_feed prefix) in
    ap (lines_in false) (cond-true (has_empty_end (whole (prefix ++ [] ∷ []))) (whole (prefix ++ [] ∷ [])) (take (length (whole (prefix ++ [] ∷ [])) - 1) (whole (prefix ++ [] ∷ []))) empty)
    ∙ lines_ended false (prefix ++ [] ∷ []) (Each-append IsPlain prefix ([] ∷ []) plain (plain_last, tt)) refl
lines_kept prefix (byte ∷ last) plain plain_last =
    let some : 0 < length (byte ∷ last) = omega arith in
    ap (lines_in false) (bare_back prefix (byte ∷ last) plain_last some) ∙ lines_bare prefix (byte ∷ last) plain plain_last some

kept_by : (lines : List (List ℕ)) → (lines ≡ []) ⊎ HasLast lines → lines_in false (scenario_text (whole lines)) ≡ lines
kept_by lines (inl none) = subst (λ lines. lines_in false (scenario_text (whole lines)) ≡ lines) (sym none) refl
kept_by lines (inr e) = subst (λ lines. lines_in false (scenario_text (whole lines)) ≡ lines) (sym e.lines_are) (lines_kept e.prefix e.last e.plain e.plain_last)

-- the scenario's text is no longer than its whole lines
no_longer : (prefix : List ℕ) → length (scenario_text prefix) ≤ length prefix
no_longer prefix =
    cond_both (has_empty_end prefix) prefix (take (length prefix - 1) prefix) (λ text. length text ≤ length prefix) (λ e. omega arith) (λ e. omega (arith, length-take (length prefix - 1) prefix))

same_lines : (bytes text : List ℕ) (lines : List (List ℕ)) (scenario : Scenario) → lines_in false bytes ≡ lines → lines_in false text ≡ lines → length text ≤ length bytes → verdict_of bytes ≡ Ok scenario → verdict_of text ≡ Ok scenario
same_lines bytes text lines scenario e f le read =
    let short = not_long bytes scenario read in
    let within : length bytes ≤ most_bytes = ltb-false most_bytes (length bytes) short in
    let short' : is_too_long text ≡ false = le-ltb most_bytes (length text) (omega (arith, within, le)) in
    verdict_all text short' ∙ ap (lines_read false 1 Fresh) (f ∙ sym e) ∙ sym (verdict_all bytes short) ∙ read

verdict_by : (bytes : List ℕ) (lines : List (List ℕ)) (scenario : Scenario) → lines_in false bytes ≡ lines → Each IsPlain lines → (whole lines ≡ bytes) ⊎ EndsBare bytes lines → verdict_of bytes ≡ Ok scenario
    → verdict_of (scenario_text (whole lines)) ≡ Ok scenario
verdict_by bytes lines scenario e plain (inl is) read =
    same_lines bytes (scenario_text (whole lines)) lines scenario e (kept_by lines (ends lines plain)) (omega (arith, no_longer (whole lines), ap length is)) read
verdict_by bytes lines scenario e plain (inr bare) read =
    ap verdict_of (ap (λ all. scenario_text (whole all)) bare.lines_are ∙ bare_back bare.prefix bare.last bare.plain bare.some ∙ sym bare.text_is) ∙ read

-- the scenario's text that is cut from whole lines is the same scenario
verdict_back : (bytes : List ℕ) (scenario : Scenario) → verdict_of bytes ≡ Ok scenario → verdict_of (scenario_text (whole (lines_in false bytes))) ≡ Ok scenario
verdict_back bytes scenario read = let lines = lines_are bytes in verdict_by bytes (lines_in false bytes) scenario refl lines.plain lines.make read

-- ---- the file

texts_plain : AreLines → (rows : List (Row Mail OrderLine)) → Each IsHeld rows → Each IsPlain (map text_of rows)
texts_plain are [] held = tt
texts_plain are (row ∷ rows) held = (are row held.0, texts_plain are rows held.1)

whole_append : (lines more : List (List ℕ)) → whole (lines ++ more) ≡ whole lines ++ whole more
whole_append [] more = refl
whole_append (line ∷ lines) more = ap (λ rest. fed line ++ rest) (whole_append lines more) ∙ sym (append_assoc (fed line) (whole lines) (whole more))

before_divider : (lines more : List (List ℕ)) → Each IsOther lines → lines_before (lines ++ divider ∷ more) ≡ Some lines
before_divider [] more other = refl
before_divider (line ∷ lines) more other =
    cond-false (same line divider) (Some []) (option_map (λ rest. line ∷ rest) (lines_before (lines ++ divider ∷ more))) other.0
    ∙ ap (option_map (λ (rest : List (List ℕ)). line ∷ rest)) (before_divider lines more other.1)

prefix_is : (lines more : List (List ℕ)) → Each IsPlain lines → Each IsPlain more → Each IsOther lines → divider_at (whole (lines ++ divider ∷ more)) ≡ Some (length (whole lines), length lines)
prefix_is lines more plain plains other =
    ap (λ all. option_map measure (lines_before all)) (lines_ended true (lines ++ divider ∷ more) (Each-append IsPlain lines (divider ∷ more) plain (refl, plains)) refl)
    ∙ ap (option_map measure) (before_divider lines more other)

cut_is : (lines more : List (List ℕ)) → Each IsPlain lines → Each IsPlain more → Each IsOther lines → IsCut (whole (lines ++ divider ∷ more)) (scenario_text (whole lines)) (length lines) (whole more)
cut_is lines more plain plains other =
    let all : whole (lines ++ divider ∷ more) ≡ whole lines ++ (fed divider ++ whole more) = whole_append lines (divider ∷ more) in (
      length (whole lines),
      prefix_is lines more plain plains other,
      ap scenario_text (sym (ap (take (length (whole lines))) all ∙ take_at (whole lines) (fed divider ++ whole more) (length (whole lines)) refl)),
      sym (ap (drop (length (whole lines) + 8)) (all ∙ sym (append_assoc (whole lines) (fed divider) (whole more))) ∙ drop_at (whole lines ++ fed divider) (whole more) (length (whole lines) + 8) (length-append (whole lines) (fed divider))),
    )

-- the file of a scenario's bytes and rows is the file of the scenario and the rows
pub printed_files : AreLines → PrintedFilesAreFiles
printed_files are bytes scenario rows read held within = record {
  within = within;
  text = scenario_text (whole (lines_in false bytes));
  lines = length (lines_in false bytes);
  behind = rows_whole rows;
  cut = cut_is (lines_in false bytes) (map text_of rows) (lines_are bytes).plain (texts_plain are rows held) (all_other bytes scenario read);
  read = verdict_back bytes scenario read;
  held = held;
  rows_are = refl;
}
