-- What clap makes of plain words is what they ask for.
use Rattle.std.proofs.Common.{◌≡◌, ℕ, ◌&&◌, ◌||◌, Bool, true, false, not, eqb, List, [], ◌∷◌, length, Option, Some, None, refl, sym, ap, ◌∙◌, subst, inl, inr, codes, true≢false, arith}
use Rattle.std.specs.List.{list_any}
use Rattle.std.specs.Cmp.Lexicographic.{same_text}
use Rattle.std.proofs.lemmas.Bool.{cases_Bool, ne_eqb}
use Rattle.clap.specs.Walk.{Row, Text}
use Rattle.clap.specs.Takes.{takes}
use Rattle.clap.specs.Simple.{App, is_simple, subcommand_of}
use Rattle.clap.specs.declared.error.kind.ErrorKind.{ErrorKind}
use Rattle.clap.specs.declared.error.kind.ErrorKind.TheVariants.{OutOfMemory}
use Rattle.clap.proofs.OnLiterals.{clap_on_literals}
use Rattle.sc_texts.specs.lines.Words.{same}
use Rattle.sc_cli.specs.Subcommands.{make_of, scan_of, subcommand_by, has_dash, is_known, is_plain}
use Rattle.sc_cli.specs.Commands.{scatter_app, make_in, scan_in, subcommand_in}
use Rattle.sc_cli.specs.declared.subcommands.Subcommand.TheVariants.{Run, Journal, Audit, Pool, Explain}
use Rattle.sc_cli.proofs.Shapes.{passed, other_count}
use Rattle.sc_cli.proofs.Parses.{Clear, make_rows, make_taken, make_found, scan_rows, scan_taken, scan_found, run_taken, journal_taken, audit_taken, pool_taken, explain_taken}

-- ---- the word

no_dash : (a b : Bool) → not (a || (b || false)) ≡ true → (a ≡ false) × (b ≡ false)
no_dash true b h = absurd (true≢false (sym h))
no_dash false true h = absurd (true≢false (sym h))
no_dash false false h = (refl, refl)

both_true : (a b : Bool) → (a && b) ≡ true → a ≡ true
both_true true b h = refl
both_true false b h = h

-- four tests that all fail
four_clear : (a b c d : Bool) → not (a || (b || (c || (d || false)))) ≡ true → (a ≡ false) × (b ≡ false) × (c ≡ false) × (d ≡ false)
four_clear true b c d h = absurd (true≢false (sym h))
four_clear false true c d h = absurd (true≢false (sym h))
four_clear false false true d h = absurd (true≢false (sym h))
four_clear false false false true h = absurd (true≢false (sym h))
four_clear false false false false h = (refl, refl, refl, refl)

one_of_seven : (a b c d e f g : Bool) → (a || (b || (c || (d || (e || (f || g)))))) ≡ true → a ≡ false → b ≡ false → c ≡ false → d ≡ false → e ≡ false → f ≡ false → g ≡ true
one_of_seven a b c d e f g h is_a is_b is_c is_d is_e is_f =
    sym (ap (λ x. x || (b || (c || (d || (e || (f || g)))))) is_a ∙ ap (λ x. x || (c || (d || (e || (f || g))))) is_b ∙ ap (λ x. x || (d || (e || (f || g)))) is_c
    ∙ ap (λ x. x || (e || (f || g))) is_d ∙ ap (λ x. x || (f || g)) is_e ∙ ap (λ x. x || g) is_f) ∙ h

-- what holds of a word that is written out holds of a word that is the same
of_same : (P : Text → Type 0) (word known : Text) → same word known ≡ true → P known → P word
of_same P word known is holds = subst P (sym (same_text word known (sym is))) holds

-- what is asked of each of the seven known words
record OfKnown (P : Text → Type 0) : Type 0 where
  run : P (codes "run")
  journal : P (codes "journal")
  audit : P (codes "audit")
  pool : P (codes "pool")
  explain : P (codes "explain")
  make : P (codes "make")
  scan : P (codes "scan")

-- a known word is one of the seven
of_known : (P : Text → Type 0) (word : Text) → is_known word ≡ true → OfKnown P → P word
of_known P word known each =
    elim (cases_Bool (same word (codes "run"))) [
      | inl is ↦ of_same P word (codes "run") is each.run
      | inr no_run ↦ elim (cases_Bool (same word (codes "journal"))) [
        | inl is ↦ of_same P word (codes "journal") is each.journal
        | inr no_journal ↦ elim (cases_Bool (same word (codes "audit"))) [
          | inl is ↦ of_same P word (codes "audit") is each.audit
          | inr no_audit ↦ elim (cases_Bool (same word (codes "pool"))) [
            | inl is ↦ of_same P word (codes "pool") is each.pool
            | inr no_pool ↦ elim (cases_Bool (same word (codes "explain"))) [
              | inl is ↦ of_same P word (codes "explain") is each.explain
              | inr no_explain ↦ elim (cases_Bool (same word (codes "make"))) [
                | inl is ↦ of_same P word (codes "make") is each.make
                | inr no_make ↦ of_same P word (codes "scan")
                    (one_of_seven (same word (codes "run")) (same word (codes "journal")) (same word (codes "audit")) (same word (codes "pool")) (same word (codes "explain")) (same word (codes "make")) (same word (codes "scan"))
                    known no_run no_journal no_audit no_pool no_explain no_make) each.scan
              ]
            ]
          ]
        ]
      ]
    ]

-- plain words begin with one of the seven
of_plain : (P : Text → Type 0) (word : Text) (words : List Text) → is_plain (word ∷ words) ≡ true → OfKnown P → P word
of_plain P word words plain = of_known P word (both_true (is_known word) (not (list_any has_dash (word ∷ words))) plain)

-- ---- it is given back

simple : is_simple scatter_app ≡ true
simple = refl

run_alone : subcommand_in 1 (subcommand_of scatter_app (codes "run" ∷ [])) ≡ Some Run
unfolding clap_on_literals
run_alone = refl

journal_alone : subcommand_in 1 (subcommand_of scatter_app (codes "journal" ∷ [])) ≡ Some Journal
unfolding clap_on_literals
journal_alone = refl

audit_alone : subcommand_in 1 (subcommand_of scatter_app (codes "audit" ∷ [])) ≡ Some Audit
unfolding clap_on_literals
audit_alone = refl

pool_alone : subcommand_in 1 (subcommand_of scatter_app (codes "pool" ∷ [])) ≡ Some Pool
unfolding clap_on_literals
pool_alone = refl

explain_alone : subcommand_in 1 (subcommand_of scatter_app (codes "explain" ∷ [])) ≡ Some Explain
unfolding clap_on_literals
explain_alone = refl

make_alone : subcommand_in 1 (subcommand_of scatter_app (codes "make" ∷ [])) ≡ None
unfolding clap_on_literals
make_alone = refl

scan_alone : subcommand_in 1 (subcommand_of scatter_app (codes "scan" ∷ [])) ≡ None
unfolding clap_on_literals
scan_alone = refl

run_and_two : (one other : Text) → subcommand_in 3 (subcommand_of scatter_app (codes "run" ∷ one ∷ other ∷ [])) ≡ None
unfolding clap_on_literals
run_and_two one other = refl

journal_and_two : (one other : Text) → subcommand_in 3 (subcommand_of scatter_app (codes "journal" ∷ one ∷ other ∷ [])) ≡ None
unfolding clap_on_literals
journal_and_two one other = refl

audit_and_two : (one other : Text) → subcommand_in 3 (subcommand_of scatter_app (codes "audit" ∷ one ∷ other ∷ [])) ≡ None
unfolding clap_on_literals
audit_and_two one other = refl

pool_and_two : (one other : Text) → subcommand_in 3 (subcommand_of scatter_app (codes "pool" ∷ one ∷ other ∷ [])) ≡ None
unfolding clap_on_literals
pool_and_two one other = refl

explain_and_two : (one other : Text) → subcommand_in 3 (subcommand_of scatter_app (codes "explain" ∷ one ∷ other ∷ [])) ≡ None
unfolding clap_on_literals
explain_and_two one other = refl

scan_and_two : (one other : Text) → subcommand_in 3 (subcommand_of scatter_app (codes "scan" ∷ one ∷ other ∷ [])) ≡ None
unfolding clap_on_literals
scan_and_two one other = refl

run_and_four : (a b c d : Text) → subcommand_in 5 (subcommand_of scatter_app (codes "run" ∷ a ∷ b ∷ c ∷ d ∷ [])) ≡ None
unfolding clap_on_literals
run_and_four a b c d = refl

journal_and_four : (a b c d : Text) → subcommand_in 5 (subcommand_of scatter_app (codes "journal" ∷ a ∷ b ∷ c ∷ d ∷ [])) ≡ None
unfolding clap_on_literals
journal_and_four a b c d = refl

audit_and_four : (a b c d : Text) → subcommand_in 5 (subcommand_of scatter_app (codes "audit" ∷ a ∷ b ∷ c ∷ d ∷ [])) ≡ None
unfolding clap_on_literals
audit_and_four a b c d = refl

pool_and_four : (a b c d : Text) → subcommand_in 5 (subcommand_of scatter_app (codes "pool" ∷ a ∷ b ∷ c ∷ d ∷ [])) ≡ None
unfolding clap_on_literals
pool_and_four a b c d = refl

explain_and_four : (a b c d : Text) → subcommand_in 5 (subcommand_of scatter_app (codes "explain" ∷ a ∷ b ∷ c ∷ d ∷ [])) ≡ None
unfolding clap_on_literals
explain_and_four a b c d = refl

make_and_four : (a b c d : Text) → subcommand_in 5 (subcommand_of scatter_app (codes "make" ∷ a ∷ b ∷ c ∷ d ∷ [])) ≡ None
unfolding clap_on_literals
make_and_four a b c d = refl

make_read : (count seed : Text) → subcommand_in 3 (Some (codes "make", make_rows count seed)) ≡ make_of count seed
make_read count seed = refl

scan_read : (a b c d : Text) → subcommand_in 5 (Some (codes "scan", scan_rows a b c d)) ≡ scan_of a b c d
scan_read a b c d = refl

of_two : (o : Option (Text × List Row)) → subcommand_in 2 o ≡ None
of_two None = refl
of_two (Some met) = refl

of_four : (o : Option (Text × List Row)) → subcommand_in 4 o ≡ None
of_four None = refl
of_four (Some met) = refl

of_many : (n : ℕ) (o : Option (Text × List Row)) → (n ≡ 1 → ⊥) → (n ≡ 3 → ⊥) → (n ≡ 5 → ⊥) → subcommand_in n o ≡ None
of_many n None one three five = refl
of_many n (Some met) one three five =
    let not_one = ne_eqb n 1 one in
    passed (eqb n 1) (same met.0 (codes "run")) (Some Run) _ not_one
    ∙ passed (eqb n 1) (same met.0 (codes "journal")) (Some Journal) _ not_one
    ∙ passed (eqb n 1) (same met.0 (codes "audit")) (Some Audit) _ not_one
    ∙ passed (eqb n 1) (same met.0 (codes "pool")) (Some Pool) _ not_one
    ∙ passed (eqb n 1) (same met.0 (codes "explain")) (Some Explain) _ not_one
    ∙ passed (eqb n 3) (same met.0 (codes "make")) (make_in met.1) _ (ne_eqb n 3 three)
    ∙ passed (eqb n 5) (same met.0 (codes "scan")) (scan_in met.1) None (ne_eqb n 5 five)

abbrev GivesBack : List Text → Type 0
GivesBack words = subcommand_in (length words) (subcommand_of scatter_app words) ≡ subcommand_by words

one_back : (word : Text) → is_plain (word ∷ []) ≡ true → GivesBack (word ∷ [])
one_back word plain = of_plain (λ w. GivesBack (w ∷ [])) word [] plain
    (record { run = run_alone; journal = journal_alone; audit = audit_alone; pool = pool_alone; explain = explain_alone; make = make_alone; scan = scan_alone })

make_back : (count seed : Text) → is_plain (codes "make" ∷ count ∷ seed ∷ []) ≡ true → GivesBack (codes "make" ∷ count ∷ seed ∷ [])
make_back count seed plain =
    let clear = no_dash (has_dash count) (has_dash seed) plain in
    ap (subcommand_in 3) (make_found count seed clear.0 clear.1) ∙ make_read count seed

three_back : (word count seed : Text) → is_plain (word ∷ count ∷ seed ∷ []) ≡ true → GivesBack (word ∷ count ∷ seed ∷ [])
three_back word count seed plain =
    of_plain (λ w. is_plain (w ∷ count ∷ seed ∷ []) ≡ true → GivesBack (w ∷ count ∷ seed ∷ [])) word (count ∷ seed ∷ []) plain
    (record {
      run = λ p. run_and_two count seed;
      journal = λ p. journal_and_two count seed;
      audit = λ p. audit_and_two count seed;
      pool = λ p. pool_and_two count seed;
      explain = λ p. explain_and_two count seed;
      make = make_back count seed;
      scan = λ p. scan_and_two count seed;
    }) plain

clear_of : (a b c d : Text) → is_plain (codes "scan" ∷ a ∷ b ∷ c ∷ d ∷ []) ≡ true → Clear a b c d
clear_of a b c d plain =
    let clear = four_clear (has_dash a) (has_dash b) (has_dash c) (has_dash d) plain in
    record { first = clear.0; second = clear.1; third = clear.2; fourth = clear.3 }

scan_back : (a b c d : Text) → is_plain (codes "scan" ∷ a ∷ b ∷ c ∷ d ∷ []) ≡ true → GivesBack (codes "scan" ∷ a ∷ b ∷ c ∷ d ∷ [])
scan_back a b c d plain = ap (subcommand_in 5) (scan_found a b c d (clear_of a b c d plain)) ∙ scan_read a b c d

five_back : (word a b c d : Text) → is_plain (word ∷ a ∷ b ∷ c ∷ d ∷ []) ≡ true → GivesBack (word ∷ a ∷ b ∷ c ∷ d ∷ [])
five_back word a b c d plain =
    of_plain (λ w. is_plain (w ∷ a ∷ b ∷ c ∷ d ∷ []) ≡ true → GivesBack (w ∷ a ∷ b ∷ c ∷ d ∷ [])) word (a ∷ b ∷ c ∷ d ∷ []) plain
    (record {
      run = λ p. run_and_four a b c d;
      journal = λ p. journal_and_four a b c d;
      audit = λ p. audit_and_four a b c d;
      pool = λ p. pool_and_four a b c d;
      explain = λ p. explain_and_four a b c d;
      make = λ p. make_and_four a b c d;
      scan = scan_back a b c d;
    }) plain

-- plain words come out as what they ask for
pub given_back : (words : List Text) → is_plain words ≡ true → subcommand_in (length words) (subcommand_of scatter_app words) ≡ subcommand_by words
given_back [] plain = absurd (true≢false (sym plain))
given_back (word ∷ []) plain = one_back word plain
given_back (word ∷ next ∷ []) plain = of_two (subcommand_of scatter_app (word ∷ next ∷ []))
given_back (word ∷ count ∷ seed ∷ []) plain = three_back word count seed plain
given_back (word ∷ count ∷ seed ∷ more ∷ []) plain = of_four (subcommand_of scatter_app (word ∷ count ∷ seed ∷ more ∷ []))
given_back (word ∷ a ∷ b ∷ c ∷ d ∷ []) plain = five_back word a b c d plain
given_back (word ∷ a ∷ b ∷ c ∷ d ∷ more ∷ words) plain =
    of_many (length (word ∷ a ∷ b ∷ c ∷ d ∷ more ∷ words)) (subcommand_of scatter_app (word ∷ a ∷ b ∷ c ∷ d ∷ more ∷ words)) (λ e. omega (arith, e)) (λ e. omega (arith, e)) (λ e. omega (arith, e))
    ∙ sym (other_count (word ∷ a ∷ b ∷ c ∷ d ∷ more ∷ words) (λ e. omega (arith, e)) (λ e. omega (arith, e)) (λ e. omega (arith, e)))

-- ---- it is taken

-- clap takes the words, or they ask for nothing
abbrev pub IsTaken : List Text → Type 0
IsTaken words = (takes scatter_app words ≡ false) → subcommand_by words ≡ None

-- words that clap takes
are_taken : (words : List Text) → takes scatter_app words ≡ true → IsTaken words
are_taken words takes = λ refused. absurd (true≢false (sym takes ∙ refused))

one_taken : (word : Text) → is_plain (word ∷ []) ≡ true → IsTaken (word ∷ [])
one_taken word plain =
    of_plain (λ w. IsTaken (w ∷ [])) word [] plain
    (record {
      run = are_taken (codes "run" ∷ []) run_taken;
      journal = are_taken (codes "journal" ∷ []) journal_taken;
      audit = are_taken (codes "audit" ∷ []) audit_taken;
      pool = are_taken (codes "pool" ∷ []) pool_taken;
      explain = are_taken (codes "explain" ∷ []) explain_taken;
      make = λ refused. refl;
      scan = λ refused. refl;
    })

make_is_taken : (count seed : Text) → is_plain (codes "make" ∷ count ∷ seed ∷ []) ≡ true → IsTaken (codes "make" ∷ count ∷ seed ∷ [])
make_is_taken count seed plain =
    let clear = no_dash (has_dash count) (has_dash seed) plain in
    are_taken (codes "make" ∷ count ∷ seed ∷ []) (make_taken count seed clear.0 clear.1)

three_taken : (word count seed : Text) → is_plain (word ∷ count ∷ seed ∷ []) ≡ true → IsTaken (word ∷ count ∷ seed ∷ [])
three_taken word count seed plain =
    of_plain (λ w. is_plain (w ∷ count ∷ seed ∷ []) ≡ true → IsTaken (w ∷ count ∷ seed ∷ [])) word (count ∷ seed ∷ []) plain
    (record { run = λ p refused. refl; journal = λ p refused. refl; audit = λ p refused. refl; pool = λ p refused. refl; explain = λ p refused. refl; make = make_is_taken count seed; scan = λ p refused. refl }) plain

scan_is_taken : (a b c d : Text) → is_plain (codes "scan" ∷ a ∷ b ∷ c ∷ d ∷ []) ≡ true → IsTaken (codes "scan" ∷ a ∷ b ∷ c ∷ d ∷ [])
scan_is_taken a b c d plain = are_taken (codes "scan" ∷ a ∷ b ∷ c ∷ d ∷ []) (scan_taken a b c d (clear_of a b c d plain))

five_taken : (word a b c d : Text) → is_plain (word ∷ a ∷ b ∷ c ∷ d ∷ []) ≡ true → IsTaken (word ∷ a ∷ b ∷ c ∷ d ∷ [])
five_taken word a b c d plain =
    of_plain (λ w. is_plain (w ∷ a ∷ b ∷ c ∷ d ∷ []) ≡ true → IsTaken (w ∷ a ∷ b ∷ c ∷ d ∷ [])) word (a ∷ b ∷ c ∷ d ∷ []) plain
    (record { run = λ p refused. refl; journal = λ p refused. refl; audit = λ p refused. refl; pool = λ p refused. refl; explain = λ p refused. refl; make = λ p refused. refl; scan = scan_is_taken a b c d }) plain

-- plain words that clap refuses ask for nothing
pub taken : (words : List Text) → is_plain words ≡ true → IsTaken words
taken [] plain = absurd (true≢false (sym plain))
taken (word ∷ []) plain = one_taken word plain
taken (word ∷ next ∷ []) plain = λ refused. refl
taken (word ∷ count ∷ seed ∷ []) plain = three_taken word count seed plain
taken (word ∷ count ∷ seed ∷ more ∷ []) plain = λ refused. refl
taken (word ∷ a ∷ b ∷ c ∷ d ∷ []) plain = five_taken word a b c d plain
taken (word ∷ a ∷ b ∷ c ∷ d ∷ more ∷ words) plain = λ refused. other_count (word ∷ a ∷ b ∷ c ∷ d ∷ more ∷ words) (λ e. omega (arith, e)) (λ e. omega (arith, e)) (λ e. omega (arith, e))

-- what a parse of plain words gave is what they ask for
pub read_back : (X : Type 0) (words : List Text) (n : ℕ) (app : App) (found : Option (Text × List Row)) → app ≡ scatter_app → n ≡ length words → is_plain words ≡ true
    → (is_simple app ≡ true → X × (found ≡ subcommand_of app words)) → subcommand_in n found ≡ subcommand_by words
read_back X words n app found app_is counted plain matches =
    ap (λ n. subcommand_in n found) counted
    ∙ ap (subcommand_in (length words)) ((matches (ap is_simple app_is ∙ simple)).1 ∙ ap (λ a. subcommand_of a words) app_is)
    ∙ given_back words plain

-- words at which a parse failed, but not by running out of memory, ask for nothing
pub not_taken : (words : List Text) (app : App) (kind : ErrorKind) → app ≡ scatter_app → is_plain words ≡ true
    → (takes app words ≡ true → kind ≡ OutOfMemory) → (kind ≡ OutOfMemory → ⊥) → subcommand_by words ≡ None
not_taken words app kind app_is plain passes other =
    elim (cases_Bool (takes scatter_app words)) [
      | inl t ↦ absurd (other (passes (ap (λ a. takes a words) app_is ∙ t)))
      | inr f ↦ taken words plain f
    ]
