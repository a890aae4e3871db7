-- Rows in which something first happens, when one more row comes.
use Rattle.std.proofs.Common.{◌≡◌, ℕ, ◌+◌, Bool, cond, List, [], ◌∷◌, ◌++◌, length, take, drop, Option, Some, None, inl, inr, sym, ◌∙◌, ap, take-append-drop, arith}
use Rattle.std.proofs.lemmas.Bool.{cases_Bool, cond-true, cond-false}
use Rattle.sc_node_table.specs.Values.{Command, OrderLine, Mail, Row}
use Rattle.sc_meaning.specs.sound.SoundDefinitions.{issues, issued_from, issue_row}

-- the rows of a scenario
abbrev pub Journal : Type 0
Journal = List (Row Mail OrderLine)

-- what was first, or else this if it happens now
abbrev pub or_now : Option ℕ → Bool → ℕ → Option ℕ
or_now (Some row) now here = Some row
or_now None now here = cond now (Some here) None

-- ---- issue rows

issued_from-push : (client seq before : ℕ) (rows : Journal) (row : Row Mail OrderLine)
    → issued_from client seq before (rows ++ row ∷ []) ≡ or_now (issued_from client seq before rows) (issues client seq row) (before + length rows + 1)
issued_from-push client seq before [] row = let same : before + 1 ≡ before + 0 + 1 = omega arith in ap (λ n. cond (issues client seq row) (Some n) None) same
issued_from-push client seq before (r ∷ rows) row =
    elim (cases_Bool (issues client seq r)) [
      | inl t ↦ cond-true (issues client seq r) (Some (before + 1)) (issued_from client seq (before + 1) (rows ++ row ∷ [])) t
          ∙ ap (λ o. or_now o (issues client seq row) (before + length (r ∷ rows) + 1)) (sym (cond-true (issues client seq r) (Some (before + 1)) (issued_from client seq (before + 1) rows) t))
      | inr f ↦ (let same : before + 1 + length rows + 1 ≡ before + length (r ∷ rows) + 1 = omega arith in
          cond-false (issues client seq r) (Some (before + 1)) (issued_from client seq (before + 1) (rows ++ row ∷ [])) f
          ∙ issued_from-push client seq (before + 1) rows row
          ∙ ap (λ n. or_now (issued_from client seq (before + 1) rows) (issues client seq row) n) same
          ∙ ap (λ o. or_now o (issues client seq row) (before + length (r ∷ rows) + 1)) (sym (cond-false (issues client seq r) (Some (before + 1)) (issued_from client seq (before + 1) rows) f)))
    ]

-- where a request is issued, with one more row
pub issue-push : (client seq : ℕ) (rows : Journal) (row : Row Mail OrderLine) → issue_row client seq (rows ++ row ∷ []) ≡ or_now (issue_row client seq rows) (issues client seq row) (length rows + 1)
issue-push client seq rows row =
    let same : 0 + length rows + 1 ≡ length rows + 1 = omega arith in
    issued_from-push client seq 0 rows row ∙ ap (λ n. or_now (issued_from client seq 0 rows) (issues client seq row) n) same

-- ---- a log that goes on

-- a list is a prefix and the rest
pub split_at : (n : ℕ) (log longer : List Command) → take n longer ≡ log → longer ≡ log ++ drop n longer
split_at n log longer e = sym (take-append-drop n longer) ∙ ap (λ l. l ++ drop n longer) e
