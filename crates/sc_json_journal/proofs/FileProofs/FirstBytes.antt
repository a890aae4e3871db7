-- What the first bytes of an input decide.
use Rattle.std.proofs.Common.{◌≡◌, ℕ, ◌+◌, ◌<◌, ◌≤◌, List, length, sym, subst, inl, inr, arith}
use Rattle.std.specs.Prelude.{◌↔◌, ◌⊎◌}
use Rattle.std.proofs.lemmas.Bool.{cases_lt}
use Rattle.std.proofs.lemmas.List.{take_all, length-take-le}
use Rattle.sc_actor.specs.declared.rows.Row.{Row}
use Rattle.sc_words.specs.declared.commands.orders.OrderLine.{OrderLine}
use Rattle.sc_mail.specs.declared.bodies.Mail.{Mail}
use Rattle.sc_scenario.specs.declared.scenario.scenarios.Scenario.{Scenario}
use Rattle.sc_json_journal.specs.file.Stored.{most_file_bytes, IsFile, IsTooLarge, IsBadFile}
use Rattle.sc_json_journal.specs.file.Laws.{first_bytes, FirstBytesDecideFiles, FirstBytesDecideErrors}
use Rattle.sc_texts.specs.declared.lines.reasons.Reason.{Reason}

-- both ways, where two lists are one
along : (P : List ℕ → Type 0) (one other : List ℕ) → one ≡ other → P one ↔ P other
along P one other e = (λ p. subst P e p, λ p. subst P (sym e) p)

-- the first bytes of a longer input are too many too
long_taken : (input : List ℕ) → most_file_bytes + 1 < length input → most_file_bytes < length (first_bytes input)
long_taken input over = omega (arith, length-take-le (most_file_bytes + 1) input (omega (arith, over)))

not_within : (file : List ℕ) → most_file_bytes < length file → length file ≤ most_file_bytes → ⊥
not_within file over within = absurd (omega (arith, over, within))

-- a file with too many bytes is bad for that alone
large_alone : (file : List ℕ) (line : ℕ) (why : Reason) → most_file_bytes < length file → IsBadFile file line why → IsTooLarge file line why
large_alone file line why over (inl large) = large
large_alone file line why over (inr (inl bad)) = absurd (not_within file over bad.within)
large_alone file line why over (inr (inr (inl bad))) = absurd (not_within file over bad.within)
large_alone file line why over (inr (inr (inr bad))) = absurd (not_within file over bad.within)

large_too : (file other : List ℕ) (line : ℕ) (why : Reason) → most_file_bytes < length file → most_file_bytes < length other → IsBadFile file line why → IsBadFile other line why
large_too file other line why over over' bad =
    let large = large_alone file line why over bad in inl (record { over = over'; line_is = large.line_is; why_is = large.why_is })

files_by : (input : List ℕ) (scenario : Scenario) (rows : List (Row Mail OrderLine)) → (most_file_bytes + 1 < length input) ⊎ (length input ≤ most_file_bytes + 1) → IsFile (first_bytes input) scenario rows ↔ IsFile input scenario rows
files_by input scenario rows (inr le) = along (λ file. IsFile file scenario rows) (first_bytes input) input (take_all (most_file_bytes + 1) input le)
files_by input scenario rows (inl over) = (
  λ is. absurd (not_within (first_bytes input) (long_taken input over) is.within),
  λ is. absurd (not_within input (omega (arith, over)) is.within),
)

bad_by : (input : List ℕ) (line : ℕ) (why : Reason) → (most_file_bytes + 1 < length input) ⊎ (length input ≤ most_file_bytes + 1) → IsBadFile (first_bytes input) line why ↔ IsBadFile input line why
bad_by input line why (inr le) = along (λ file. IsBadFile file line why) (first_bytes input) input (take_all (most_file_bytes + 1) input le)
bad_by input line why (inl over) =
    let more : most_file_bytes < length input = omega (arith, over) in
    let taken = long_taken input over in (
      λ bad. large_too (first_bytes input) input line why taken more bad,
      λ bad. large_too input (first_bytes input) line why more taken bad,
    )

-- one byte more than the most is enough to know a file
pub files_decided : FirstBytesDecideFiles
files_decided input scenario rows = files_by input scenario rows (cases_lt (most_file_bytes + 1) (length input))

-- one byte more than the most is enough to know an error
pub errors_decided : FirstBytesDecideErrors
errors_decided input line why = bad_by input line why (cases_lt (most_file_bytes + 1) (length input))
