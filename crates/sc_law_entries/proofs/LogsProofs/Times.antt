-- Places of the history and the rows that decide them, in order; and where a request is issued, with more rows.
use Rattle.std.proofs.Common.{◌≡◌, ℕ, suc, ◌+◌, ◌<◌, ◌≤◌, nat_lt, List, [], ◌∷◌, ◌++◌, length, Some, inl, inr, sym, ◌∙◌, ap, arith}
use Rattle.std.specs.Prelude.{slice_get}
use Rattle.std.specs.List.{AllPairs}
use Rattle.std.proofs.lemmas.Bool.{cases_Bool, cases_lt, ltb-false, le-ltb, cond-true, cond-false, cond_both}
use Rattle.std.proofs.lemmas.List.{length_push}
use Rattle.std.proofs.lemmas.Option.{slice_get_within, get_or_from_slice_get}
use Rattle.sc_base.specs.Definitions.{Among}
use Rattle.sc_words.specs.declared.commands.cores.Base.{Base}
use Rattle.sc_words.specs.ideal.IdealDefinitions.{AreApart}
use Rattle.sc_words.specs.declared.ideal.Entry.{Entry}
use Rattle.sc_meaning.specs.sound.SoundDefinitions.{Ahead, history_at, issues, issued_from, issue_row, row_of_entry_from}
use Rattle.sc_law_entries.specs.logs.LogDefinitions.{Rows}

-- an element of a list has a place in it
pub among_place : {X : Type 0} (xs : List X) (x : X) → Among x xs → (place : ℕ) × (slice_get xs place ≡ Some x)
among_place [] x a = absurd a
among_place {X} (y ∷ xs) x (inl e) = (0, ap (λ (z : X). Some z) e)
among_place (y ∷ xs) x (inr a) = let (place, at) = among_place xs x a in (suc place, at)

-- two entries of one request stand at one place
pub one_place : (entries : List Entry) → AllPairs AreApart entries → (place other : ℕ) (one another : Entry) → slice_get entries place ≡ Some one → slice_get entries other ≡ Some another
    → one.client ≡ another.client → one.seq ≡ another.seq → place ≡ other
one_place entries once place other one another at there who number =
    elim (cases_lt place other) [
      | inl lt ↦ absurd (not_before place other one another at there lt who number)
      | inr ge ↦ elim (cases_lt other place) [ inl lt ↦ absurd (not_before other place another one there at lt (sym who) (sym number)) | inr le ↦ omega (arith, ge, le) ]
    ]
  where
    not_before : (i j : ℕ) (a b : Entry) → slice_get entries i ≡ Some a → slice_get entries j ≡ Some b → i < j → a.client ≡ b.client → a.seq ≡ b.seq → ⊥
    not_before i j a b at_i at_j lt who number =
        let apart = once i j a lt (slice_get_within entries j b at_j) in
        apart
        (ap (λ (x : Entry). x.client) (get_or_from_slice_get entries i a a at_i) ∙ who ∙ sym (ap (λ (x : Entry). x.client) (get_or_from_slice_get entries j b a at_j)))
        (ap (λ (x : Entry). x.seq) (get_or_from_slice_get entries i a a at_i) ∙ number ∙ sym (ap (λ (x : Entry). x.seq) (get_or_from_slice_get entries j b a at_j)))

-- ---- the rows that decide

past_rows : (ahead : Ahead) (bases : List Base) (place : ℕ) (before rows : Rows) (at : ℕ) → row_of_entry_from ahead bases place before rows ≡ Some at → length before + 1 ≤ at
past_rows ahead bases place before [] at e = cc
past_rows ahead bases place before (row ∷ rows) at e =
    cond_both (nat_lt place (length (history_at ahead bases (before ++ row ∷ [])))) (Some (length before + 1)) (row_of_entry_from ahead bases place (before ++ row ∷ []) rows) (λ o. o ≡ Some at → length before + 1 ≤ at)
    (λ _ k. (let same : length before + 1 ≡ at = cc in omega (arith, same)))
    (λ _ k. (let later = past_rows ahead bases place (before ++ row ∷ []) rows at k in let longer = length_push before row in omega (arith, later, longer))) e

-- an earlier entry is decided no later
pub decided_in_order : (ahead : Ahead) (bases : List Base) (place other : ℕ) → place ≤ other → (before rows : Rows) (at then : ℕ) → row_of_entry_from ahead bases place before rows ≡ Some at → row_of_entry_from ahead bases other before rows ≡ Some then → at ≤ then
decided_in_order ahead bases place other le before [] at then first second = cc
decided_in_order ahead bases place other le before (row ∷ rows) at then first second =
    let recorded = history_at ahead bases (before ++ row ∷ []) in
    elim (cases_Bool (nat_lt place (length recorded))) [
      | inl t ↦ (
          let now : Some (length before + 1) ≡ Some at = sym (cond-true (nat_lt place (length recorded)) (Some (length before + 1)) (row_of_entry_from ahead bases place (before ++ row ∷ []) rows) t) ∙ first in
          let same : length before + 1 ≡ at = cc in
          let past = past_rows ahead bases other before (row ∷ rows) then second in
          omega (arith, same, past))
      | inr f ↦ (
          let out = ltb-false place (length recorded) f in
          let later = le-ltb other (length recorded) (omega (arith, out, le)) in
          decided_in_order ahead bases place other le (before ++ row ∷ []) rows at then
          (sym (cond-false (nat_lt place (length recorded)) (Some (length before + 1)) (row_of_entry_from ahead bases place (before ++ row ∷ []) rows) f) ∙ first)
          (sym (cond-false (nat_lt other (length recorded)) (Some (length before + 1)) (row_of_entry_from ahead bases other (before ++ row ∷ []) rows) later) ∙ second))
    ]

-- ---- the row that issues

-- it is one of the rows
issued_within : (client seq before : ℕ) (rows : Rows) (at : ℕ) → issued_from client seq before rows ≡ Some at → at ≤ before + length rows
issued_within client seq before [] at e = cc
issued_within client seq before (row ∷ rows) at e =
    cond_both (issues client seq row) (Some (before + 1)) (issued_from client seq (before + 1) rows) (λ o. o ≡ Some at → at ≤ before + length (row ∷ rows))
    (λ _ k. (let same : before + 1 ≡ at = cc in omega (arith, same)))
    (λ _ k. (let later = issued_within client seq (before + 1) rows at k in omega (arith, later))) e

pub issue_within : (client seq : ℕ) (rows : Rows) (at : ℕ) → issue_row client seq rows ≡ Some at → at ≤ length rows
issue_within client seq rows at e = let within = issued_within client seq 0 rows at e in omega (arith, within)

-- and stays with more rows
issued_stays : (client seq before : ℕ) (rows more : Rows) (at : ℕ) → issued_from client seq before rows ≡ Some at → issued_from client seq before (rows ++ more) ≡ Some at
issued_stays client seq before [] more at e = cc
issued_stays client seq before (row ∷ rows) more at e =
    let now = issues client seq row in
    elim (cases_Bool now) [
      | inl t ↦ cond-true now (Some (before + 1)) (issued_from client seq (before + 1) (rows ++ more)) t ∙ sym (cond-true now (Some (before + 1)) (issued_from client seq (before + 1) rows) t) ∙ e
      | inr f ↦ cond-false now (Some (before + 1)) (issued_from client seq (before + 1) (rows ++ more)) f
          ∙ issued_stays client seq (before + 1) rows more at (sym (cond-false now (Some (before + 1)) (issued_from client seq (before + 1) rows) f) ∙ e)
    ]

pub issue_stays : (client seq : ℕ) (rows more : Rows) (at : ℕ) → issue_row client seq rows ≡ Some at → issue_row client seq (rows ++ more) ≡ Some at
issue_stays client seq rows more at e = issued_stays client seq 0 rows more at e
