-- What clap makes of two words, and of four, that begin with no dash.
use Rattle.std.proofs.Common.{◌≡◌, ℕ, ◌&&◌, ◌||◌, Bool, true, false, eqb, List, [], ◌∷◌, Option, Some, None, refl, ap, ap₂, ◌∙◌, codes}
use Rattle.std.specs.Prelude.{option_and_then}
use Rattle.std.specs.Prelude.{slice_index_or}
use Rattle.std.specs.List.{list_all}
use Rattle.std.specs.Str.{bytes_eq}
use Rattle.std.proofs.lemmas.Bool.{cond-false}
use Rattle.clap.specs.Lexer.{long_of, long_of_rest, short_of, short_of_rest, strip_byte}
use Rattle.clap.specs.Walk.{Held, Row, Rule, Step, Text, Walk, after_step, arg_by_index, finished, idle, long_or_other, nothing_held, rows_after, short_or_plain, to_positional, trailing, value, walk, walk_from, walked, word_met}
use Rattle.std.specs.Option.{option_map_or}
use Rattle.clap.specs.Takes.{bundle_passes, default_passes, flag_word_passes, is_valid, level_passes, settle_passes, step_passes, takes, turn_passes, walk_passes, word_passes}
use Rattle.clap.specs.Simple.{Shape, built, new_shape, subcommand_of}
use Rattle.clap.proofs.OnLiterals.{clap_on_literals}
use Rattle.sc_cli.specs.Subcommands.{has_dash}
use Rattle.sc_cli.specs.Commands.{scatter_app}

-- ---- a word without a dash

no_dashes : (word : Text) → has_dash word ≡ false → bytes_eq word (45 ∷ 45 ∷ []) ≡ false
no_dashes [] clear = refl
no_dashes (first ∷ rest) clear = ap (λ b. b && bytes_eq rest (45 ∷ [])) clear

not_stripped : (word : Text) → has_dash word ≡ false → strip_byte 45 word ≡ None
not_stripped [] clear = refl
not_stripped (first ∷ rest) clear = cond-false (eqb first 45) (Some rest) None clear

not_long : (word : Text) → has_dash word ≡ false → long_of word ≡ None
not_long word clear = ap (λ (s : Option Text). option_and_then long_of_rest (option_and_then (strip_byte 45) s)) (not_stripped word clear)

not_short : (word : Text) → has_dash word ≡ false → short_of word ≡ None
not_short word clear = ap (λ (s : Option Text). option_and_then short_of_rest s) (not_stripped word clear)

-- ---- it is a value

abbrev at : Held → ℕ → Walk
at h position = record { held = h; waiting = idle; position = position; is_trailing = false; stopped = None }

value_met : (rules : List Rule) (h : Held) (position : ℕ) (word : Text) → has_dash word ≡ false → word_met rules [] false idle position word h ≡ (h, value)
value_met rules h position word clear =
    cond-false (bytes_eq word (45 ∷ 45 ∷ [])) (h, trailing position) (long_or_other rules idle word (long_of word) h) (no_dashes word clear)
    ∙ ap (λ l. long_or_other rules idle word l h) (not_long word clear)
    ∙ ap (λ s. short_or_plain rules idle word s h) (not_short word clear)

one_step : (rules : List Rule) (h : Held) (position : ℕ) (word : Text) → has_dash word ≡ false
    → walked rules [] (at h position) word ≡ to_positional rules (arg_by_index rules position) word (at h position) h
unfolding walked
one_step rules h position word clear =
    ap (λ (met : Held × Step). after_step rules word (at h position) met.0 met.1) (value_met rules h position word clear)

word_passed : (s : Shape) (h : Held) (word : Text) → has_dash word ≡ false → word_passes s [] false idle word h ≡ true
word_passed s h word clear =
    ap (λ b. b || flag_word_passes s.rules s.args_override_self (long_of word) word h) (no_dashes word clear)
    ∙ ap (λ l. flag_word_passes s.rules s.args_override_self l word h) (not_long word clear)
    ∙ ap (λ (f : Option Text). option_map_or (λ flags. bundle_passes s.rules s.args_override_self flags h) f true) (not_short word clear)

turn_passed : (s : Shape) (h : Held) (position : ℕ) (word : Text) → has_dash word ≡ false → step_passes s position h value ≡ true → turn_passes s [] (at h position) word ≡ true
turn_passed s h position word clear passes =
    ap₂ (λ a b. a && b) (word_passed s h word clear)
    (ap (λ (met : Held × Step). step_passes s position met.0 met.1) (value_met s.rules h position word clear) ∙ passes)

-- ---- two of them behind `make`

abbrev pub make_shape : Shape
make_shape = slice_index_or (built scatter_app).subs 5 (new_shape [])

abbrev first_step : Text → Walk
first_step count = to_positional make_shape.rules (arg_by_index make_shape.rules 1) count (at nothing_held 1) nothing_held

abbrev second_step : Text → Text → Walk
second_step count seed = to_positional make_shape.rules (arg_by_index make_shape.rules 2) seed (at (first_step count).held 2) (first_step count).held

abbrev pub make_rows : Text → Text → List Row
make_rows count seed = finished make_shape.rules (second_step count seed).held

two_steps : (count seed : Text) → has_dash count ≡ false → has_dash seed ≡ false → walk make_shape.rules [] nothing_held (count ∷ seed ∷ []) ≡ second_step count seed
two_steps count seed c s =
    ap (λ w. walked make_shape.rules [] w seed) (one_step make_shape.rules nothing_held 1 count c)
    ∙ one_step make_shape.rules (first_step count).held 2 seed s

two_passed : (count seed : Text) → has_dash count ≡ false → has_dash seed ≡ false → walk_passes make_shape [] (walk_from nothing_held) (count ∷ seed ∷ []) ≡ true
unfolding walk_passes
two_passed count seed c s =
    ap₂ (λ a b. a && b) (turn_passed make_shape nothing_held 1 count c refl)
    (ap (λ w. walk_passes make_shape [] w (seed ∷ [])) (one_step make_shape.rules nothing_held 1 count c)
    ∙ ap (λ b. b && true) (turn_passed make_shape (first_step count).held 2 seed s refl))

abbrev ends_well : Walk → Bool
ends_well w =
    settle_passes make_shape.rules make_shape.args_override_self w.held
    && (list_all default_passes make_shape.rules && is_valid make_shape (finished make_shape.rules w.held) false)

level_passed : (count seed : Text) → has_dash count ≡ false → has_dash seed ≡ false → level_passes make_shape [] nothing_held (count ∷ seed ∷ []) false ≡ true
level_passed count seed c s = ap₂ (λ a b. a && b) (two_passed count seed c s) (ap ends_well (two_steps count seed c s))

rows_found : (count seed : Text) → has_dash count ≡ false → has_dash seed ≡ false → rows_after make_shape.rules [] (count ∷ seed ∷ []) ≡ make_rows count seed
rows_found count seed c s = ap (λ (w : Walk). finished make_shape.rules w.held) (two_steps count seed c s)

-- clap takes them
pub make_taken : (count seed : Text) → has_dash count ≡ false → has_dash seed ≡ false → takes scatter_app (codes "make" ∷ count ∷ seed ∷ []) ≡ true
unfolding clap_on_literals
make_taken count seed c s = ap (λ b. b && true) (level_passed count seed c s)

-- and gives them back
pub make_found : (count seed : Text) → has_dash count ≡ false → has_dash seed ≡ false → subcommand_of scatter_app (codes "make" ∷ count ∷ seed ∷ []) ≡ Some (codes "make", make_rows count seed)
unfolding clap_on_literals
make_found count seed c s = ap (λ rows. Some (codes "make", rows)) (rows_found count seed c s)

-- ---- four of them behind `scan`

abbrev pub scan_shape : Shape
scan_shape = slice_index_or (built scatter_app).subs 6 (new_shape [])

abbrev first_of_four : Text → Walk
first_of_four a = to_positional scan_shape.rules (arg_by_index scan_shape.rules 1) a (at nothing_held 1) nothing_held

abbrev second_of_four : Text → Text → Walk
second_of_four a b = to_positional scan_shape.rules (arg_by_index scan_shape.rules 2) b (at (first_of_four a).held 2) (first_of_four a).held

abbrev third_of_four : Text → Text → Text → Walk
third_of_four a b c = to_positional scan_shape.rules (arg_by_index scan_shape.rules 3) c (at (second_of_four a b).held 3) (second_of_four a b).held

abbrev fourth_of_four : Text → Text → Text → Text → Walk
fourth_of_four a b c d = to_positional scan_shape.rules (arg_by_index scan_shape.rules 4) d (at (third_of_four a b c).held 4) (third_of_four a b c).held

abbrev pub scan_rows : Text → Text → Text → Text → List Row
scan_rows a b c d = finished scan_shape.rules (fourth_of_four a b c d).held

-- four words without a dash
pub record Clear (a b c d : Text) : Type 0 where
  pub first : has_dash a ≡ false
  pub second : has_dash b ≡ false
  pub third : has_dash c ≡ false
  pub fourth : has_dash d ≡ false

four_steps : (a b c d : Text) → Clear a b c d → walk scan_shape.rules [] nothing_held (a ∷ b ∷ c ∷ d ∷ []) ≡ fourth_of_four a b c d
four_steps a b c d clear =
    ap (λ w. walked scan_shape.rules [] (walked scan_shape.rules [] (walked scan_shape.rules [] w b) c) d) (one_step scan_shape.rules nothing_held 1 a clear.first)
    ∙ ap (λ w. walked scan_shape.rules [] (walked scan_shape.rules [] w c) d) (one_step scan_shape.rules (first_of_four a).held 2 b clear.second)
    ∙ ap (λ w. walked scan_shape.rules [] w d) (one_step scan_shape.rules (second_of_four a b).held 3 c clear.third)
    ∙ one_step scan_shape.rules (third_of_four a b c).held 4 d clear.fourth

four_passed : (a b c d : Text) → Clear a b c d → walk_passes scan_shape [] (walk_from nothing_held) (a ∷ b ∷ c ∷ d ∷ []) ≡ true
unfolding walk_passes
four_passed a b c d clear =
    ap₂ (λ s t. s && t) (turn_passed scan_shape nothing_held 1 a clear.first refl)
    (ap (λ w. walk_passes scan_shape [] w (b ∷ c ∷ d ∷ [])) (one_step scan_shape.rules nothing_held 1 a clear.first)
    ∙ ap₂ (λ s t. s && t) (turn_passed scan_shape (first_of_four a).held 2 b clear.second refl)
    (ap (λ w. walk_passes scan_shape [] w (c ∷ d ∷ [])) (one_step scan_shape.rules (first_of_four a).held 2 b clear.second)
    ∙ ap₂ (λ s t. s && t) (turn_passed scan_shape (second_of_four a b).held 3 c clear.third refl)
    (ap (λ w. walk_passes scan_shape [] w (d ∷ [])) (one_step scan_shape.rules (second_of_four a b).held 3 c clear.third)
    ∙ ap (λ t. t && true) (turn_passed scan_shape (third_of_four a b c).held 4 d clear.fourth refl))))

abbrev scan_ends_well : Walk → Bool
scan_ends_well w =
    settle_passes scan_shape.rules scan_shape.args_override_self w.held
    && (list_all default_passes scan_shape.rules && is_valid scan_shape (finished scan_shape.rules w.held) false)

scan_level_passed : (a b c d : Text) → Clear a b c d → level_passes scan_shape [] nothing_held (a ∷ b ∷ c ∷ d ∷ []) false ≡ true
scan_level_passed a b c d clear = ap₂ (λ s t. s && t) (four_passed a b c d clear) (ap scan_ends_well (four_steps a b c d clear))

scan_rows_found : (a b c d : Text) → Clear a b c d → rows_after scan_shape.rules [] (a ∷ b ∷ c ∷ d ∷ []) ≡ scan_rows a b c d
scan_rows_found a b c d clear = ap (λ (w : Walk). finished scan_shape.rules w.held) (four_steps a b c d clear)

-- clap takes them
pub scan_taken : (a b c d : Text) → Clear a b c d → takes scatter_app (codes "scan" ∷ a ∷ b ∷ c ∷ d ∷ []) ≡ true
unfolding clap_on_literals
scan_taken a b c d clear = ap (λ b. b && true) (scan_level_passed a b c d clear)

-- and gives them back
pub scan_found : (a b c d : Text) → Clear a b c d → subcommand_of scatter_app (codes "scan" ∷ a ∷ b ∷ c ∷ d ∷ []) ≡ Some (codes "scan", scan_rows a b c d)
unfolding clap_on_literals
scan_found a b c d clear = ap (λ rows. Some (codes "scan", rows)) (scan_rows_found a b c d clear)

-- ---- the words alone

pub run_taken : takes scatter_app (codes "run" ∷ []) ≡ true
unfolding clap_on_literals
run_taken = refl

pub journal_taken : takes scatter_app (codes "journal" ∷ []) ≡ true
unfolding clap_on_literals
journal_taken = refl

pub audit_taken : takes scatter_app (codes "audit" ∷ []) ≡ true
unfolding clap_on_literals
audit_taken = refl

pub pool_taken : takes scatter_app (codes "pool" ∷ []) ≡ true
unfolding clap_on_literals
pool_taken = refl

pub explain_taken : takes scatter_app (codes "explain" ∷ []) ≡ true
unfolding clap_on_literals
explain_taken = refl
