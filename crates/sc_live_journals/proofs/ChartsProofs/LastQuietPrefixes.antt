-- The last quiet journal before some rows and one more.
use Rattle.std.proofs.Common.{◌≡◌, ℕ, zero, suc, ◌≤◌, false, cond, [], ◌∷◌, ◌++◌, length, take, refl, ◌∙◌, ap, arith}
use Rattle.std.proofs.lemmas.Bool.{cond-false, cond_both}
use Rattle.std.proofs.lemmas.List.{length_push, take-append-le, take_all}
use Rattle.sc_node_table.specs.Values.{OrderLine, Mail, Row}
use Rattle.sc_actor.specs.Definitions.{System, is_quiet}
use Rattle.sc_meaning.specs.sound.SoundDefinitions.{Player}
use Rattle.sc_live_steps.specs.calm.CalmDefinitions.{Rows}
use Rattle.sc_live_journals.specs.charts.ChartDefinitions.{quiet_upto, quiet_prefix}

-- ---- quiet prefixes

pub upto_low : (s : System Player Mail OrderLine) (rows : Rows) (n : ℕ) → quiet_upto s rows n ≤ n
upto_low s rows zero = omega arith
upto_low s rows (suc n) = (let rest = upto_low s rows n in cond_both (is_quiet s (take (suc n) rows)) (suc n) (quiet_upto s rows n) (λ m. m ≤ suc n) (λ _. omega arith) (λ _. omega (arith, rest)))

module _ (s : System Player Mail OrderLine) (rows : Rows) (row : Row Mail OrderLine) where
  upto_same : (n : ℕ) → n ≤ length rows → quiet_upto s (rows ++ row ∷ []) n ≡ quiet_upto s rows n
  upto_same zero low = refl
  upto_same (suc n) low =
      let prefix = take-append-le (suc n) rows (row ∷ []) low in
      let rest = upto_same n (omega (arith, low)) in
      ap (λ (prefix : Rows). cond (is_quiet s prefix) (suc n) (quiet_upto s (rows ++ row ∷ []) n)) prefix ∙ ap (λ m. cond (is_quiet s (take (suc n) rows)) (suc n) m) rest

  -- where it is not quiet after the row, it is as before
  pub prefix_stays : is_quiet s (rows ++ row ∷ []) ≡ false → quiet_prefix s (rows ++ row ∷ []) ≡ quiet_prefix s rows
  prefix_stays loud =
      let long : length (rows ++ row ∷ []) ≡ suc (length rows) = (let push = length_push rows row in omega (arith, push)) in
      let whole : take (suc (length rows)) (rows ++ row ∷ []) ≡ rows ++ row ∷ [] = take_all (suc (length rows)) (rows ++ row ∷ []) (omega (arith, long)) in
      let upto : quiet_upto s (rows ++ row ∷ []) (length (rows ++ row ∷ [])) ≡ quiet_upto s rows (length rows) =
      ap (quiet_upto s (rows ++ row ∷ [])) long
      ∙ (cond-false (is_quiet s (take (suc (length rows)) (rows ++ row ∷ []))) (suc (length rows)) (quiet_upto s (rows ++ row ∷ []) (length rows)) (ap (is_quiet s) whole ∙ loud)
      ∙ upto_same (length rows) (omega arith)) in
      ap (λ n. take n (rows ++ row ∷ [])) upto ∙ take-append-le (quiet_upto s rows (length rows)) rows (row ∷ []) (upto_low s rows (length rows))
