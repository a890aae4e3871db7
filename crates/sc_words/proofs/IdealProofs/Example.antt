-- A legal history.
use Rattle.std.proofs.Common.{◌≡◌, ℕ, zero, suc, cond, List, [], ◌∷◌, Option, Some, None, sym, ap, ◌∙◌, arith}
use Rattle.std.specs.Prelude.{AllPairs, is_none}
use Rattle.std.specs.Ordering.{nat_cmp}
use Rattle.std.specs.Cmp.Lexicographic.{slice_cmp, nat_list_cmp_total}
use Rattle.std.specs.FinMap.{empty, get, insert, get-empty, get-insert}
use Rattle.sc_base.specs.declared.ops.Reply.{Reply}
use Rattle.sc_words.specs.ideal.IdealDefinitions.{Contents, was, Legal, HasStoreReplies, example_entries, AreApart}

replied : (old new : Option (List ℕ)) → old ≡ new → ◌≡◌ {A = Reply} (record { old = old }) (record { old = new })
replied old new e = ap (λ o. record { old = o }) e

abbrev key : List ℕ
key = 97 ∷ []

found : (contents : Contents) (value : List ℕ) → get (insert contents key value) key ≡ Some value
found contents value = get-insert nat_list_cmp_total contents key value key

-- what is there stays at an add
added : (contents changed : Contents) (value : List ℕ) → get contents key ≡ Some value → cond (is_none (get contents key)) changed contents ≡ contents
added contents changed value e = ap (λ o. cond (is_none o) changed contents) e

-- what was expected is replaced
swapped : (contents changed : Contents) → get contents key ≡ Some (120 ∷ []) → cond (was (120 ∷ []) (get contents key)) changed contents ≡ changed
swapped contents changed e = ap (λ o. cond (was (120 ∷ []) o) changed contents) e

abbrev first : Contents
first = insert empty key (120 ∷ [])

abbrev second : Contents
second = cond (is_none (get first key)) (insert first key (121 ∷ [])) first

still : get second key ≡ Some (120 ∷ [])
still = ap (λ m. get m key) (added first (insert first key (121 ∷ [])) (120 ∷ []) (found empty (120 ∷ []))) ∙ found empty (120 ∷ [])

abbrev third : Contents
third = cond (was (120 ∷ []) (get second key)) (insert second key (122 ∷ [])) second

last : get third key ≡ Some (122 ∷ [])
last = ap (λ m. get m key) (swapped second (insert second key (122 ∷ [])) still) ∙ found second (122 ∷ [])

replay : HasStoreReplies empty example_entries
replay = (
  replied None (get empty key) (sym (get-empty (slice_cmp nat_cmp) key)),
  (
    replied (Some (120 ∷ [])) (get first key) (sym (found empty (120 ∷ []))),
    (
      replied (Some (120 ∷ [])) (get second key) (sym still),
      (replied (Some (122 ∷ [])) (get third key) (sym last), tt),
    ),
  ),
)

once : AllPairs AreApart example_entries
once zero zero d below inside client seq = absurd (omega arith)
once zero (suc zero) d below inside client seq = absurd (omega arith)
once zero (suc (suc zero)) d below inside client seq = absurd (omega arith)
once zero (suc (suc (suc zero))) d below inside client seq = absurd (omega arith)
once (suc zero) zero d below inside client seq = absurd (omega arith)
once (suc zero) (suc zero) d below inside client seq = absurd (omega arith)
once (suc zero) (suc (suc zero)) d below inside client seq = absurd (omega arith)
once (suc zero) (suc (suc (suc zero))) d below inside client seq = absurd (omega arith)
once (suc (suc zero)) zero d below inside client seq = absurd (omega arith)
once (suc (suc zero)) (suc zero) d below inside client seq = absurd (omega arith)
once (suc (suc zero)) (suc (suc zero)) d below inside client seq = absurd (omega arith)
once (suc (suc zero)) (suc (suc (suc zero))) d below inside client seq = absurd (omega arith)
once i j d below inside client seq = absurd (omega arith)

-- the example is a legal history
pub example_is_legal : Legal example_entries
example_is_legal = record { replay = replay; once = once }
