-- Where nothing is under way no order is.
use Rattle.std.proofs.Common.{◌≡◌, ℕ, List, [], ◌∷◌, refl, sym, ◌∙◌, ap}
use Rattle.sc_node_table.specs.Values.{Draw}
use Rattle.sc_live_steps.specs.orders.OrderDefinitions.{Turn, Unbound, Asking, Here, Scene, Leg, Mailed, Filed, closing, Stage, Still, Ordered, Asks, SentOn, Weighs, Replied, Recorded, Closes, ClosesBoth, IsAt, IsQuiet, QuietIsStill}

cons_nil : {X : Type 0} {x : X} {xs : List X} → x ∷ xs ≡ [] → ⊥
cons_nil e = absurd cc

-- a party to which an outcome comes is not idle
closing_busy : (tx : Draw) (leg : Leg) (host : ℕ) → (closing tx leg host).errands ≡ [] → (closing tx leg host).work ≡ [] → ⊥
closing_busy tx Mailed host e w = cons_nil e
closing_busy tx Filed host e w = cons_nil w

still_of : (now : Scene) → IsQuiet now → (stage : Stage) → IsAt stage now → IsAt Still now
still_of now q Still a = a
still_of now q (Ordered group chief work) a = absurd (cons_nil (sym (ap (λ (h : Here). h.work) a.parties.0.0) ∙ q.work group))
still_of now q (Asks deal to) a = absurd (cons_nil (sym (ap (λ (h : Here). h.errands) a.parties.0.1.0) ∙ q.errands deal.asked))
still_of now q (SentOn deal) a = absurd (cons_nil (sym (ap (λ (h : Here). h.errands) a.parties.0.0) ∙ q.errands deal.coord))
still_of now q (Weighs deal host) a = absurd (cons_nil (sym (ap (λ (h : Here). h.work) a.parties.0.1.0) ∙ q.work deal.asked))
still_of now q (Replied deal agreed host) a = absurd (cons_nil (sym (ap (λ (h : Here). h.errands) a.parties.0.0) ∙ q.errands deal.coord))
still_of now q (Recorded deal agreed host) a = absurd (cons_nil (sym (ap (λ (h : Here). h.work) a.parties.0.0) ∙ q.work deal.coord))
still_of now q (Closes tx party) a =
    absurd (closing_busy tx party.leg party.host (sym (ap (λ (h : Here). h.errands) a.parties.0.0) ∙ q.errands party.group) (sym (ap (λ (h : Here). h.work) a.parties.0.0) ∙ q.work party.group))
still_of now q (ClosesBoth tx one two) a =
    absurd (closing_busy tx one.leg one.host (sym (ap (λ (h : Here). h.errands) a.parties.0.0) ∙ q.errands one.group) (sym (ap (λ (h : Here). h.work) a.parties.0.0) ∙ q.work one.group))

asking_free : {tx asked : Draw} {turn : Turn} → Asking tx asked turn ≡ Unbound → ⊥
asking_free e = absurd cc

closing_free : (tx : Draw) (leg : Leg) (host : ℕ) → (closing tx leg host).bond ≡ Unbound → ⊥
closing_free tx Mailed host e = absurd cc
closing_free tx Filed host e = absurd cc

-- where no group has any part, no other stage stands
pub still-only : (now : Scene) (stage : Stage) → IsAt stage now → IsAt Still now → stage ≡ Still
still-only now Still a still = refl
still-only now (Ordered group chief work) a still = absurd (cons_nil (sym (ap (λ (h : Here). h.work) a.parties.0.0) ∙ ap (λ (h : Here). h.work) (still.parties.1 group tt)))
still-only now (Asks deal to) a still = absurd (asking_free (sym (ap (λ (h : Here). h.bond) a.parties.0.0) ∙ ap (λ (h : Here). h.bond) (still.parties.1 deal.coord tt)))
still-only now (SentOn deal) a still = absurd (asking_free (sym (ap (λ (h : Here). h.bond) a.parties.0.0) ∙ ap (λ (h : Here). h.bond) (still.parties.1 deal.coord tt)))
still-only now (Weighs deal host) a still = absurd (asking_free (sym (ap (λ (h : Here). h.bond) a.parties.0.0) ∙ ap (λ (h : Here). h.bond) (still.parties.1 deal.coord tt)))
still-only now (Replied deal agreed host) a still = absurd (asking_free (sym (ap (λ (h : Here). h.bond) a.parties.0.0) ∙ ap (λ (h : Here). h.bond) (still.parties.1 deal.coord tt)))
still-only now (Recorded deal agreed host) a still = absurd (asking_free (sym (ap (λ (h : Here). h.bond) a.parties.0.0) ∙ ap (λ (h : Here). h.bond) (still.parties.1 deal.coord tt)))
still-only now (Closes tx party) a still = absurd (closing_free tx party.leg party.host (sym (ap (λ (h : Here). h.bond) a.parties.0.0) ∙ ap (λ (h : Here). h.bond) (still.parties.1 party.group tt)))
still-only now (ClosesBoth tx one two) a still = absurd (closing_free tx one.leg one.host (sym (ap (λ (h : Here). h.bond) a.parties.0.0) ∙ ap (λ (h : Here). h.bond) (still.parties.1 one.group tt)))

-- Where no mail of a transaction is under way and no leader has any work but calls, no group is bound.
pub quiet-still : QuietIsStill
quiet-still now q u = (let s = still_of now q u.0 u.1 in (s, λ group. ap (λ (h : Here). h.bond) (s.parties.1 group tt)))
