-- Counts of the copies of each receiver.
use Rattle.std.proofs.Common.{◌≡◌, ◌≢◌, ℕ, zero, suc, ◌+◌, ◌<◌, List, [], ◌∷◌, ◌++◌, length, filter, eqb, cond, replicate, take, get_or, set, refl, sym, ap, ◌∙◌, subst, arith, ne_eqb, eq-eqb, get_or-set_other, get_or-set_same}
use mathlib.Core.Logic.{dite}
use native.Mathlib.Decide.{ℕ_discrete}
use Rattle.std.proofs.lemmas.List.{length-append, length-set}
use Rattle.std.proofs.lemmas.List.Elements.{filter-append}
use Rattle.std.proofs.lemmas.List.Sums.{fold_more}
use Rattle.sc_thread_ledger.specs.declared.spots.Spot.{Spot}
use Rattle.sc_thread_ledger.specs.LedgerDefinitions.{AreCounted, IsNext, spot_after, spots_from}

one_more : (before : List Spot) (spot : Spot) (who : ℕ) → length (filter (λ s. eqb s.who who) (before ++ spot ∷ [])) ≡ length (filter (λ s. eqb s.who who) before) + length (cond (eqb spot.who who) (spot ∷ []) [])
one_more before spot who = ap length (filter-append (λ s. eqb s.who who) before (spot ∷ [])) ∙ length-append (filter (λ s. eqb s.who who) before) (cond (eqb spot.who who) (spot ∷ []) [])

one_other : (before : List Spot) (spot : Spot) (who : ℕ) → spot.who ≢ who → length (filter (λ s. eqb s.who who) before) ≡ length (filter (λ s. eqb s.who who) (before ++ spot ∷ []))
one_other before spot who ne = sym (one_more before spot who ∙ (ap (λ b. length (filter (λ s. eqb s.who who) before) + length (cond b (spot ∷ []) [])) (ne_eqb spot.who who ne) ∙ omega arith))

one_own : (before : List Spot) (spot : Spot) → IsNext before spot → spot.k ≡ length (filter (λ s. eqb s.who spot.who) (before ++ spot ∷ []))
one_own before spot next = next ∙ sym (one_more before spot spot.who ∙ ap (λ b. length (filter (λ s. eqb s.who spot.who) before) + length (cond b (spot ∷ []) [])) (eq-eqb spot.who spot.who refl))

-- a copy whose receiver has no count
pub counted_out : (counts : List ℕ) (before : List Spot) (spot : Spot) → AreCounted counts before → (spot.who < length counts → ⊥) → AreCounted counts (before ++ spot ∷ [])
counted_out counts before spot are out = λ who lt. are who lt ∙ one_other before spot who (λ e. out (subst (λ n. n < length counts) (sym e) lt))

-- a copy whose receiver has one
pub counted_in : (counts : List ℕ) (before : List Spot) (spot : Spot) → AreCounted counts before → IsNext before spot → spot.who < length counts → AreCounted (set counts spot.who spot.k) (before ++ spot ∷ [])
counted_in counts before spot are next inside = λ who lt.
    dite (ℕ_discrete who spot.who)
    (λ e. subst (λ n. get_or (set counts spot.who spot.k) n 0 ≡ length (filter (λ s. eqb s.who n) (before ++ spot ∷ []))) (sym e)
    (get_or-set_same counts spot.who spot.k 0 inside ∙ one_own before spot next))
    (λ ne. get_or-set_other counts spot.who who spot.k 0 ne ∙ (are who (subst (λ n. who < n) (length-set counts spot.who spot.k) lt) ∙ one_other before spot who (λ e. ne (sym e))))

-- where there are no copies, no receiver has any
pub counted_none : (n : ℕ) → AreCounted (replicate n 0) []
counted_none zero who lt = absurd (omega arith)
counted_none (suc n) zero lt = refl
counted_none (suc n) (suc who) lt = counted_none n who (omega arith)

-- one copy more, of the next of these mails
pub next_spots : (rs ns : List ℕ) (spots more : List Spot) (spot : Spot) (i : ℕ) → i < length ns → spots ≡ spots_from rs (take i ns) → spot ≡ spot_after rs spots (get_or ns i 0) → more ≡ spots ++ spot ∷ [] → more ≡ spots_from rs (take (i + 1) ns)
next_spots rs ns spots more spot i lt is next last =
    last
    ∙ (ap (λ s. spots ++ s ∷ []) next
    ∙ (ap (λ l. l ++ spot_after rs l (get_or ns i 0) ∷ []) is
    ∙ sym (fold_more (λ before number. before ++ spot_after rs before number ∷ []) [] ns i 0 lt)))
