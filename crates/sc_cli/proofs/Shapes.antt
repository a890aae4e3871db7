-- What words ask for, by how many they are.
use Rattle.std.proofs.Common.{◌≡◌, ℕ, ◌≤◌, ◌&&◌, ◌||◌, Bool, true, false, not, nat_le, if◌then◌else◌, arith, eqb, List, [], ◌∷◌, length, Option, Some, None, refl, sym, ap, ◌∙◌, subst, inl, inr, codes, true≢false}
use Rattle.std.specs.Prelude.{IfSome, option_and_then, ⊤}
use Rattle.std.specs.Option.{option_map}
use Rattle.std.specs.Cmp.Lexicographic.{same_text}
use Rattle.std.proofs.lemmas.Bool.{cases_Bool, cond-false, cond-true, eqb-true, ne_eqb}
use Rattle.std.proofs.lemmas.Option.{none-some, same_Some}
use Rattle.sc_base.proofs.CommonLemmas.{and_then-some}
use Rattle.sc_base.specs.Limits.{most_requests}
use Rattle.sc_base.specs.Number.{number_of}
use Rattle.sc_texts.specs.lines.Words.{same, nth, count_in}
use Rattle.sc_cli.specs.Subcommands.{is_run, is_journal, is_audit, is_pool, is_explain, is_make, is_scan, reads, reads_input, is_on_input, last_number, last_seed, make_of, most_pairs, scan_of, sight_by, subcommand_by, whole_circle, has_dash, is_plain, IsInRange}
use Rattle.sc_texts.proofs.LinesProofs.Choices.{counted}
use Rattle.sc_cli.specs.declared.subcommands.Subcommand.{Subcommand}
use Rattle.sc_cli.specs.declared.subcommands.Subcommand.TheVariants.{Run, Journal, Audit, Pool, Explain, Scan, Make}

-- ---- words with a dash spell no number

dash_alone : (digits : List ℕ) (most : ℕ) → number_of (45 ∷ digits) most ≡ None
dash_alone [] most = refl
dash_alone (digit ∷ digits) most = refl

no_number : (word : List ℕ) (most : ℕ) → has_dash word ≡ true → number_of word most ≡ None
no_number [] most dash = absurd (true≢false (sym dash))
no_number (first ∷ rest) most dash = subst (λ byte. number_of (byte ∷ rest) most ≡ None) (sym (eqb-true first 45 dash)) (dash_alone rest most)

nothing_then : (o : Option ℕ) → option_and_then (λ (n : ℕ). option_map (λ (s : ℕ). Make n s) None) o ≡ None
nothing_then None = refl
nothing_then (Some n) = refl

no_count : (count seed : List ℕ) → has_dash count ≡ true → make_of count seed ≡ None
no_count count seed dash =
    ap (λ (o : Option ℕ). option_and_then (λ (n : ℕ). option_map (λ (s : ℕ). Make n s) (number_of seed last_seed)) (option_and_then (λ (n : ℕ). if nat_le 1 n then Some n else None) o)) (no_number count most_requests dash)

no_seed : (count seed : List ℕ) → has_dash seed ≡ true → make_of count seed ≡ None
no_seed count seed dash =
    ap (λ (o : Option ℕ). option_and_then (λ (n : ℕ). option_map (λ (s : ℕ). Make n s) o) (count_in most_requests count)) (no_number seed last_seed dash)
    ∙ nothing_then (count_in most_requests count)

-- ---- and no part of a scan

no_length : (most : ℕ) (word : List ℕ) → has_dash word ≡ true → count_in most word ≡ None
no_length most word dash = ap (λ (o : Option ℕ). option_and_then (λ (n : ℕ). if nat_le 1 n then Some n else None) o) (no_number word most dash)

no_second : (o p q : Option ℕ) → sight_by o None p q ≡ None
no_second None p q = refl
no_second (Some n) p q = refl

no_third : (o p q : Option ℕ) → sight_by o p None q ≡ None
no_third None p q = refl
no_third (Some n) None q = refl
no_third (Some n) (Some m) q = refl

no_fourth : (o p q : Option ℕ) → sight_by o p q None ≡ None
no_fourth None p q = refl
no_fourth (Some n) None q = refl
no_fourth (Some n) (Some m) None = refl
no_fourth (Some n) (Some m) (Some k) = refl

-- of four words, one has a dash where not all are clear
no_scan : (a b c d : List ℕ) → not (has_dash a || (has_dash b || (has_dash c || (has_dash d || false)))) ≡ false → scan_of a b c d ≡ None
no_scan a b c d other =
    elim (cases_Bool (has_dash a)) [
      | inl dash ↦ ap (λ o. sight_by o (count_in whole_circle b) (number_of c last_number) (count_in most_pairs d)) (no_number a last_number dash)
      | inr clear_a ↦ elim (cases_Bool (has_dash b)) [
        | inl dash ↦ ap (λ o. sight_by (number_of a last_number) o (number_of c last_number) (count_in most_pairs d)) (no_length whole_circle b dash)
            ∙ no_second (number_of a last_number) (number_of c last_number) (count_in most_pairs d)
        | inr clear_b ↦ elim (cases_Bool (has_dash c)) [
          | inl dash ↦ ap (λ o. sight_by (number_of a last_number) (count_in whole_circle b) o (count_in most_pairs d)) (no_number c last_number dash)
              ∙ no_third (number_of a last_number) (count_in whole_circle b) (count_in most_pairs d)
          | inr clear_c ↦
              ap (sight_by (number_of a last_number) (count_in whole_circle b) (number_of c last_number)) (no_length most_pairs d (last_dash (has_dash a) (has_dash b) (has_dash c) (has_dash d) clear_a clear_b clear_c other))
              ∙ no_fourth (number_of a last_number) (count_in whole_circle b) (number_of c last_number)
        ]
      ]
    ]
  where
    last_dash : (a b c d : Bool) → a ≡ false → b ≡ false → c ≡ false → not (a || (b || (c || (d || false)))) ≡ false → d ≡ true
    last_dash a b c true is_a is_b is_c other = refl
    last_dash a b c false is_a is_b is_c other =
        absurd (true≢false (sym (ap (λ x. not (x || (b || (c || false)))) is_a ∙ ap (λ x. not (x || (c || false))) is_b ∙ ap (λ x. not (x || false)) is_c) ∙ other))

-- ---- other numbers of words

-- a choice that falls away
pub passed : (counts known : Bool) (this other : Option Subcommand) → counts ≡ false → (if counts && known then this else other) ≡ other
passed counts known this other e = cond-false (counts && known) this other (ap (λ b. b && known) e)

pub other_count : (words : List (List ℕ)) → (length words ≡ 1 → ⊥) → (length words ≡ 3 → ⊥) → (length words ≡ 5 → ⊥) → subcommand_by words ≡ None
other_count words one three five =
    let not_one = ne_eqb (length words) 1 one in
    passed (eqb (length words) 1) (same (nth words 0) (codes "run")) (Some Run) _ not_one
    ∙ passed (eqb (length words) 1) (same (nth words 0) (codes "journal")) (Some Journal) _ not_one
    ∙ passed (eqb (length words) 1) (same (nth words 0) (codes "audit")) (Some Audit) _ not_one
    ∙ passed (eqb (length words) 1) (same (nth words 0) (codes "pool")) (Some Pool) _ not_one
    ∙ passed (eqb (length words) 1) (same (nth words 0) (codes "explain")) (Some Explain) _ not_one
    ∙ passed (eqb (length words) 3) (same (nth words 0) (codes "make")) (make_of (nth words 1) (nth words 2)) _ (ne_eqb (length words) 3 three)
    ∙ passed (eqb (length words) 5) (same (nth words 0) (codes "scan")) (scan_of (nth words 1) (nth words 2) (nth words 3) (nth words 4)) None (ne_eqb (length words) 5 five)

-- ---- words that are not plain

-- a word that is not plain alone is none that is
not_alone : (word known : List ℕ) → is_plain (word ∷ []) ≡ false → is_plain (known ∷ []) ≡ true → same word known ≡ false
not_alone word known other plain =
    elim (cases_Bool (same word known)) [
      | inl is ↦ absurd (true≢false (sym plain ∙ subst (λ w. is_plain (w ∷ []) ≡ false) (same_text word known (sym is)) other))
      | inr not ↦ not
    ]

-- what one word alone asks for, by which it is
abbrev alone : Bool → Bool → Bool → Bool → Bool → Option Subcommand
alone run journal audit pool explain =
    if run then Some Run else if journal then Some Journal else if audit then Some Audit else if pool then Some Pool else if explain then Some Explain else None

none_alone : (run journal audit pool explain : Bool) → run ≡ false → journal ≡ false → audit ≡ false → pool ≡ false → explain ≡ false → alone run journal audit pool explain ≡ None
none_alone run journal audit pool explain r j a p e =
    cond-false run (Some Run) _ r ∙ cond-false journal (Some Journal) _ j ∙ cond-false audit (Some Audit) _ a ∙ cond-false pool (Some Pool) _ p ∙ cond-false explain (Some Explain) None e

one_word : (word : List ℕ) → is_plain (word ∷ []) ≡ false → subcommand_by (word ∷ []) ≡ None
one_word word other =
    none_alone (same word (codes "run")) (same word (codes "journal")) (same word (codes "audit")) (same word (codes "pool")) (same word (codes "explain"))
    (not_alone word (codes "run") other refl) (not_alone word (codes "journal") other refl) (not_alone word (codes "audit") other refl) (not_alone word (codes "pool") other refl) (not_alone word (codes "explain") other refl)

some_dash : (a b : Bool) → not (a || (b || false)) ≡ false → (b ≡ false → a ≡ true)
some_dash true b h f = refl
some_dash false true h f = absurd (true≢false f)
some_dash false false h f = absurd (true≢false h)

three_make : (count seed : List ℕ) → is_plain (codes "make" ∷ count ∷ seed ∷ []) ≡ false → make_of count seed ≡ None
three_make count seed other =
    elim (cases_Bool (has_dash seed)) [
      | inl dash ↦ no_seed count seed dash
      | inr clear ↦ no_count count seed (some_dash (has_dash count) (has_dash seed) other clear)
    ]

three_words : (word count seed : List ℕ) → is_plain (word ∷ count ∷ seed ∷ []) ≡ false → subcommand_by (word ∷ count ∷ seed ∷ []) ≡ None
three_words word count seed other =
    elim (cases_Bool (same word (codes "make"))) [
      | inl is ↦ cond-true (same word (codes "make")) (make_of count seed) None is
          ∙ three_make count seed (subst (λ w. is_plain (w ∷ count ∷ seed ∷ []) ≡ false) (same_text word (codes "make") (sym is)) other)
      | inr not_make ↦ cond-false (same word (codes "make")) (make_of count seed) None not_make
    ]

five_words : (word a b c d : List ℕ) → is_plain (word ∷ a ∷ b ∷ c ∷ d ∷ []) ≡ false → subcommand_by (word ∷ a ∷ b ∷ c ∷ d ∷ []) ≡ None
five_words word a b c d other =
    elim (cases_Bool (same word (codes "scan"))) [
      | inl is ↦ cond-true (same word (codes "scan")) (scan_of a b c d) None is
          ∙ no_scan a b c d (subst (λ w. is_plain (w ∷ a ∷ b ∷ c ∷ d ∷ []) ≡ false) (same_text word (codes "scan") (sym is)) other)
      | inr not_scan ↦ cond-false (same word (codes "scan")) (scan_of a b c d) None not_scan
    ]

-- words that are not plain ask for nothing
pub refused : (words : List (List ℕ)) → is_plain words ≡ false → subcommand_by words ≡ None
refused [] other = refl
refused (word ∷ []) other = one_word word other
refused (word ∷ next ∷ []) other = refl
refused (word ∷ count ∷ seed ∷ []) other = three_words word count seed other
refused (word ∷ count ∷ seed ∷ more ∷ []) other = refl
refused (word ∷ a ∷ b ∷ c ∷ d ∷ []) other = five_words word a b c d other
refused (word ∷ a ∷ b ∷ c ∷ d ∷ more ∷ words) other = other_count (word ∷ a ∷ b ∷ c ∷ d ∷ more ∷ words) (λ e. omega (arith, e)) (λ e. omega (arith, e)) (λ e. omega (arith, e))

-- ---- what is asked

some_seed : (n : ℕ) (o : Option ℕ) (asked : Subcommand) → option_map (λ (s : ℕ). Make n s) o ≡ Some asked → (s : ℕ) × (Make n s ≡ asked)
some_seed n None asked e = absurd (none-some asked e)
some_seed n (Some s) asked e = (s, same_Some (Make n s) asked e)

-- what two words spell is a number in range, and a seed
made : (count seed : List ℕ) (asked : Subcommand) → make_of count seed ≡ Some asked → (n : ℕ) × (s : ℕ) × (Make n s ≡ asked) × (1 ≤ n) × (n ≤ most_requests)
made count seed asked e =
    let b = and_then-some (λ (n : ℕ). option_map (λ (s : ℕ). Make n s) (number_of seed last_seed)) (count_in most_requests count) asked e in
    let s = some_seed b.0 (number_of seed last_seed) asked b.2 in
    let range = counted most_requests count b.0 b.1 in
    (b.0, s.0, s.1, range.0, range.1)

-- what four words spell is a scan, with at least one pair a page
sighted : (lo len rows most : Option ℕ) (asked : Subcommand) → sight_by lo len rows most ≡ Some asked
    → (l n r m : ℕ) × (Scan (record { arc = record { lo = l; len = n }; rows = r; most = m }) ≡ asked) × (most ≡ Some m)
sighted None len rows most asked e = absurd (none-some asked e)
sighted (Some l) None rows most asked e = absurd (none-some asked e)
sighted (Some l) (Some n) None most asked e = absurd (none-some asked e)
sighted (Some l) (Some n) (Some r) None asked e = absurd (none-some asked e)
sighted (Some l) (Some n) (Some r) (Some m) asked e = (l, n, r, m, same_Some (Scan (record { arc = record { lo = l; len = n }; rows = r; most = m })) asked e, refl)

-- what words ask for, by which they are
abbrev chosen : Bool → Bool → Bool → Bool → Bool → Bool → Bool → Option Subcommand → Option Subcommand → Option Subcommand
chosen run journal audit pool explain make scan made seen =
    if run then Some Run
    else if journal then Some Journal
    else if audit then Some Audit
    else if pool then Some Pool
    else if explain then Some Explain
    else if make then made
    else if scan then seen
    else None

-- what is asked of each thing that words may ask for
record Chosen (run journal audit pool explain : Bool) (made seen : Option Subcommand) (P : Subcommand → Type 0) : Type 0 where
  of_run : run ≡ true → P Run
  of_journal : journal ≡ true → P Journal
  of_audit : audit ≡ true → P Audit
  of_pool : pool ≡ true → P Pool
  of_explain : explain ≡ true → P Explain
  of_made : (asked : Subcommand) → made ≡ Some asked → P asked
  of_seen : (asked : Subcommand) → seen ≡ Some asked → P asked

chosen_case : (run journal audit pool explain make scan : Bool) (made seen : Option Subcommand) (P : Subcommand → Type 0) → Chosen run journal audit pool explain made seen P
    → (asked : Subcommand) → chosen run journal audit pool explain make scan made seen ≡ Some asked → P asked
chosen_case true journal audit pool explain make scan made seen P each asked e = subst P (same_Some Run asked e) (each.of_run refl)
chosen_case false true audit pool explain make scan made seen P each asked e = subst P (same_Some Journal asked e) (each.of_journal refl)
chosen_case false false true pool explain make scan made seen P each asked e = subst P (same_Some Audit asked e) (each.of_audit refl)
chosen_case false false false true explain make scan made seen P each asked e = subst P (same_Some Pool asked e) (each.of_pool refl)
chosen_case false false false false true make scan made seen P each asked e = subst P (same_Some Explain asked e) (each.of_explain refl)
chosen_case false false false false false true scan made seen P each asked e = each.of_made asked e
chosen_case false false false false false false true made seen P each asked e = each.of_seen asked e
chosen_case false false false false false false false made seen P each asked e = absurd (none-some asked e)

-- what is asked has what each thing that words may ask for has
of_asked : (P : Subcommand → Type 0) (words : List (List ℕ))
    → Chosen (is_run words) (is_journal words) (is_audit words) (is_pool words) (is_explain words) (make_of (nth words 1) (nth words 2)) (scan_of (nth words 1) (nth words 2) (nth words 3) (nth words 4)) P
    → (asked : Subcommand) → subcommand_by words ≡ Some asked → P asked
of_asked P words each asked e =
    chosen_case (is_run words) (is_journal words) (is_audit words) (is_pool words) (is_explain words) (is_make words) (is_scan words) (make_of (nth words 1) (nth words 2)) (scan_of (nth words 1) (nth words 2) (nth words 3) (nth words 4)) P each asked e

made_range : (count seed : List ℕ) (asked : Subcommand) → make_of count seed ≡ Some asked → IsInRange asked
made_range count seed asked e = let m = made count seed asked e in subst IsInRange m.2 (m.3, m.4)

seen_range : (lo len rows most : List ℕ) (asked : Subcommand) → scan_of lo len rows most ≡ Some asked → IsInRange asked
seen_range lo len rows most asked e =
    let s = sighted (number_of lo last_number) (count_in whole_circle len) (number_of rows last_number) (count_in most_pairs most) asked e in
    subst IsInRange s.4 (counted most_pairs most s.3 s.5)

-- what is asked is in range
in_range : (words : List (List ℕ)) (asked : Subcommand) → subcommand_by words ≡ Some asked → IsInRange asked
in_range words = of_asked IsInRange words (record {
  of_run = λ t. tt;
  of_journal = λ t. tt;
  of_audit = λ t. tt;
  of_pool = λ t. tt;
  of_explain = λ t. tt;
  of_made = made_range (nth words 1) (nth words 2);
  of_seen = seen_range (nth words 1) (nth words 2) (nth words 3) (nth words 4);
})

-- what is asked tells which words they are
abbrev IsSpelled : List (List ℕ) → Subcommand → Type 0
IsSpelled words Run = is_run words ≡ true
IsSpelled words Journal = is_journal words ≡ true
IsSpelled words Audit = is_audit words ≡ true
IsSpelled words Pool = is_pool words ≡ true
IsSpelled words Explain = is_explain words ≡ true
IsSpelled words (Scan sight) = ⊤
IsSpelled words (Make n seed) = ⊤

tells : (words : List (List ℕ)) (asked : Subcommand) → subcommand_by words ≡ Some asked → IsSpelled words asked
tells words = of_asked (IsSpelled words) words (record {
  of_run = λ t. t;
  of_journal = λ t. t;
  of_audit = λ t. t;
  of_pool = λ t. t;
  of_explain = λ t. t;
  of_made = λ asked e. subst (IsSpelled words) (made (nth words 1) (nth words 2) asked e).2 tt;
  of_seen = λ asked e. subst (IsSpelled words) (sighted (number_of (nth words 1) last_number) (count_in whole_circle (nth words 2)) (number_of (nth words 3) last_number) (count_in most_pairs (nth words 4)) asked e).4 tt;
})

-- a run is asked for by the one word alone
pub run_asked : (words : List (List ℕ)) → subcommand_by words ≡ Some Run → is_run words ≡ true
run_asked words e = tells words Run e

-- and so is its journal
pub journal_asked : (words : List (List ℕ)) → subcommand_by words ≡ Some Journal → is_journal words ≡ true
journal_asked words e = tells words Journal e

-- and an audit
pub audit_asked : (words : List (List ℕ)) → subcommand_by words ≡ Some Audit → is_audit words ≡ true
audit_asked words e = tells words Audit e

-- and a pool
pub pool_asked : (words : List (List ℕ)) → subcommand_by words ≡ Some Pool → is_pool words ≡ true
pool_asked words e = tells words Pool e

-- and what a journal's rows decided
pub explain_asked : (words : List (List ℕ)) → subcommand_by words ≡ Some Explain → is_explain words ≡ true
explain_asked words e = tells words Explain e

-- what is on the input is asked for by words that read it
pub if_reads : (words : List (List ℕ)) (asked : Option Subcommand) → asked ≡ subcommand_by words → IfSome asked (λ what. is_on_input what ≡ reads_input words)
if_reads words None e = tt
if_reads words (Some asked) e = ap reads e

-- the same, where something is asked
pub if_asked : (words : List (List ℕ)) (asked : Option Subcommand) → asked ≡ subcommand_by words → IfSome asked IsInRange
if_asked words None e = tt
if_asked words (Some asked) e = in_range words asked (sym e)
