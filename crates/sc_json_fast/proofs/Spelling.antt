-- Names and ballots.
use Rattle.std.proofs.Common.{◌≡◌, ℕ, ◌+◌, ◌^◌, ◌<◌, ◌%◌, ◌==◌, ◌&&◌, not, Bool, true, List, [], ◌∷◌, ◌++◌, codes, decimal, refl, ap, ap₂, ◌∙◌, sym, arith, append_assoc}
use Rattle.std.specs.List.{list_all}
use Rattle.std.proofs.lemmas.Fmt.{decimal_by_steps, decimal_injective}
use Rattle.std.proofs.lemmas.Nat.{mod_below}
use Rattle.std.proofs.lemmas.Bool.{and_parts}
use Rattle.std.proofs.lemmas.Bool.Decides.{nat_tests}
use Rattle.std.proofs.lemmas.List.Folds.{list_all-append}
use Rattle.json.specs.Print.{escape}
use Rattle.sc_base.specs.declared.names.Ballot.{Ballot}
use Rattle.sc_base.specs.declared.names.Draw.{Draw}
use Rattle.sc_json_text.specs.rows.Shapes.{number_json}
use Rattle.sc_json_text.specs.rows.Names.{draw_json, FitsDraw, ballot_json, FitsBallot}
use Rattle.sc_json_text.specs.rows.Held.{FitsU16, FitsU32}
use Rattle.sc_json_fast.specs.Prefixes.{IsOnly, TextBegins, is_bare}
use Rattle.sc_json_fast.proofs.Bare.{bare_escape}

-- a digit is no dot, and a string has it as it is
abbrev is_plain : ℕ → Bool
is_plain byte = is_bare byte && not (byte == 46)

plain_digit : (d : ℕ) → d < 10 → is_plain (48 + d) ≡ true
plain_digit d few = grind (arith, nat_tests)

plain_digits : (n : ℕ) → n < 2 ^ 64 → list_all is_plain (decimal n) ≡ true
plain_digits = decimal_by_steps (λ n ds. list_all is_plain ds ≡ true)
    (λ n few. ap (λ b. b && true) (plain_digit n few))
    (λ n ds many rest. list_all-append is_plain ds ((48 + n % 10) ∷ []) ∙ ap₂ (λ a b. a && b) rest (ap (λ b. b && true) (plain_digit (n % 10) (mod_below n 10 (omega arith)))))

bare_plain : (text : List ℕ) → list_all is_plain text ≡ true → list_all is_bare text ≡ true
bare_plain [] all = refl
bare_plain (b ∷ bs) all =
    let parts = and_parts (is_plain b) (list_all is_plain bs) all in
    ap₂ (λ a c. a && c) (and_parts (is_bare b) (not (b == 46)) parts.0).0 (bare_plain bs parts.1)

bare_digits : (n : ℕ) → n < 2 ^ 64 → list_all is_bare (decimal n) ≡ true
bare_digits n small = bare_plain (decimal n) (plain_digits n small)

no_dot : (b : ℕ) → is_plain b ≡ true → b ≡ 46 → ⊥
no_dot b plain dot = let other = (and_parts (is_bare b) (not (b == 46)) plain).1 in grind (arith, nat_tests)

same_parts : (xs ys us vs : List ℕ) → list_all is_plain xs ≡ true → list_all is_plain us ≡ true → xs ++ 46 ∷ ys ≡ us ++ 46 ∷ vs → (xs ≡ us) × (ys ≡ vs)
same_parts [] ys [] vs first second same = (refl, cc)
same_parts [] ys (u ∷ us) vs first second same = absurd (no_dot u (and_parts (is_plain u) (list_all is_plain us) second).0 (cc))
same_parts (x ∷ xs) ys [] vs first second same = absurd (no_dot x (and_parts (is_plain x) (list_all is_plain xs) first).0 (cc))
same_parts (x ∷ xs) ys (u ∷ us) vs first second same =
    let head : x ≡ u = cc in
    let tail : xs ++ 46 ∷ ys ≡ us ++ 46 ∷ vs = cc in
    let more = same_parts xs ys us vs (and_parts (is_plain x) (list_all is_plain xs) first).1 (and_parts (is_plain u) (list_all is_plain us) second).1 tail in
    (ap₂ (λ a b. a ∷ b) head more.0, more.1)

text_of_draw : (node count : ℕ) → decimal node ++ codes "." ++ decimal count ≡ decimal node ++ 46 ∷ decimal count
text_of_draw node count = append_assoc (decimal node) (codes ".") (decimal count)

draw_only : (draw other : Draw) → FitsDraw draw → FitsDraw other → draw_json other ≡ draw_json draw → other ≡ draw
unfolding draw_json FitsDraw
draw_only draw other fits held same =
    let texts : decimal other.node ++ codes "." ++ decimal other.count ≡ decimal draw.node ++ codes "." ++ decimal draw.count = cc in
    let dotted = sym (text_of_draw other.node other.count) ∙ (texts ∙ text_of_draw draw.node draw.count) in
    let parts = same_parts _ _ _ _ (plain_digits other.node (omega (arith, held.0))) (plain_digits draw.node (omega (arith, fits.0))) dotted in
    let node = decimal_injective other.node draw.node (omega (arith, held.0)) (omega (arith, fits.0)) parts.0 in
    let count = decimal_injective other.count draw.count (omega (arith, held.1)) (omega (arith, fits.1)) parts.1 in
    ap₂ (λ a b. let d : Draw = record { node = a; count = b } in d) node count

-- a name stands between quotes, with a dot between its numbers
pub draw_begins : (bytes rest : List ℕ) (node count : ℕ) → IsOnly number_json FitsU16 node → IsOnly number_json FitsU32 count
    → bytes ≡ (34 ∷ []) ++ (decimal node ++ ((46 ∷ []) ++ (decimal count ++ ((34 ∷ []) ++ rest))))
    → TextBegins draw_json FitsDraw bytes (record { node = node; count = count }) rest
unfolding draw_json FitsDraw
draw_begins bytes rest node count first second text =
    let bare : list_all is_bare (decimal node ++ codes "." ++ decimal count) ≡ true =
    list_all-append is_bare (decimal node ++ codes ".") (decimal count)
    ∙ ap₂ (λ a b. a && b) (list_all-append is_bare (decimal node) (codes ".") ∙ ap (λ a. a && true) (bare_digits node (omega (arith, first.fits)))) (bare_digits count (omega (arith, second.fits))) in
    let written : (escape (decimal node ++ codes "." ++ decimal count) ++ 34 ∷ []) ++ rest ≡ decimal node ++ 46 ∷ (decimal count ++ 34 ∷ rest) =
    ap (λ t. (t ++ 34 ∷ []) ++ rest) (bare_escape _ bare) ∙ simp append_assoc in
    record {
      text = text ∙ ap (λ t. 34 ∷ t) (sym written);
      known = record { fits = (first.fits, second.fits); only = λ other held same. draw_only (record { node = node; count = count }) other (first.fits, second.fits) held same };
    }

ballot_only : (ballot other : Ballot) → FitsBallot other → ballot_json other ≡ ballot_json ballot → other ≡ ballot
unfolding ballot_json
ballot_only ballot other held same =
    let round : other.round ≡ ballot.round = cc in
    let node : other.node ≡ ballot.node = cc in
    ap₂ (λ a b. let d : Ballot = record { round = a; node = b } in d) round node

-- a ballot stands in brackets
pub ballot_begins : (bytes rest : List ℕ) (round node : ℕ) → IsOnly number_json FitsU32 round → IsOnly number_json FitsU16 node
    → bytes ≡ (91 ∷ []) ++ (decimal round ++ ((44 ∷ []) ++ (decimal node ++ ((93 ∷ []) ++ rest))))
    → TextBegins ballot_json FitsBallot bytes (record { round = round; node = node }) rest
unfolding ballot_json FitsBallot
ballot_begins bytes rest round node first second text =
    record {
      text = text ∙ simp append_assoc;
      known = record { fits = (first.fits, second.fits); only = ballot_only (record { round = round; node = node }) };
    }
