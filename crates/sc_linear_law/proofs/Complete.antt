-- Just-in-time search is complete: from an order that fits, the lines can be passed.
use Rattle.std.proofs.Common.{◌≡◌, ℕ, ◌<◌, Bool, true, false, eqb, ltb, List, [], ◌∷◌, Option, Some, refl, sym, ap, ◌∙◌, subst, ◌⊎◌, inl, inr, arith, eq-eqb, eqb-true, lt-ltb}
use Rattle.sc_base.specs.Definitions.{Among, Each}
use Rattle.sc_linear_law.specs.LinearDefinitions.{EachPair, is_before}
use Rattle.sc_linear_law.proofs.Game.{Move, without, joined, AllFit, choose, differ, gone, was_there, stays, same_or_not, Takes, CanPass}
use Rattle.sc_linear_law.proofs.ListFacts.{each_at}

module _ {V : Type 0} (fits : ℕ → V → Bool) (next : ℕ → V → V) where
  module _ (begun : ℕ → ℕ) (ended : ℕ → Option ℕ) where
    -- a request begins on its line, and is answered on its line
    abbrev pub IsTimed : Move → Type 0
    IsTimed (l, false, x) = begun x ≡ l
    IsTimed (l, true, x) = ended x ≡ Some l

    -- what is left of an order, from a set of requests under way that are not taken, and a value
    pub record Plan (ms : List Move) (p : ℕ → Bool) (v : V) (rest : List ℕ) : Type 0 where
      pub timed : Each IsTimed ms
      pub rising : EachPair (λ (a b : Move). a.0 < b.0) ms
      pub fresh : (d : ℕ) → Among (begun d, false, d) ms → p d ≡ false
      pub fit : AllFit fits next v rest
      pub once : EachPair (λ (a b : ℕ). a ≡ b → ⊥) rest
      pub known : (x : ℕ) → Among x rest → (p x ≡ true) ⊎ Among (begun x, false, x) ms
      pub due : (c l : ℕ) → Among (l, true, c) ms → (p c ≡ true) ⊎ Among (begun c, false, c) ms → Among c rest
      pub order : EachPair (λ (a b : ℕ). is_before (ended b) (begun a) ≡ false) rest

    not_end : (l l' c x : ℕ) → ◌≡◌ {A = Move} (l, true, c) (l', false, x) → ⊥
    not_end l l' c x e = let f : true ≡ false = ap (λ (m : Move). m.1) e in cc

    less_false : (x d : ℕ) (p : ℕ → Bool) → p d ≡ false → without x p d ≡ false
    less_false x d p e = elim (choose (without x p d)) [ inl t ↦ absurd (differ (was_there x d p t).0 e) | inr f ↦ f ]

    more_true : (d x : ℕ) (p : ℕ → Bool) → p x ≡ true → joined d p x ≡ true
    more_true d x p e = elim (choose (eqb x d)) [ inl a ↦ rw a refl | inr a ↦ rw a e ]

    itself : (d x : ℕ) (p : ℕ → Bool) → x ≡ d → joined d p x ≡ true
    itself d x p e = rw (eq-eqb x d e) refl

    other_joined : (d x : ℕ) (p : ℕ → Bool) → joined d p x ≡ true → (x ≡ d → ⊥) → p x ≡ true
    other_joined d x p e apart = elim (choose (eqb x d)) [ inl a ↦ absurd (apart (eqb-true x d a)) | inr a ↦ rw a at e ]

    after_taking : (l c : ℕ) (ms : List Move) (p : ℕ → Bool) (v : V) (x : ℕ) (rest : List ℕ) → Plan ((l, true, c) ∷ ms) p v (x ∷ rest) → p x ≡ true → Plan ((l, true, c) ∷ ms) (without x p) (next x v) rest
    after_taking l c ms p v x rest plan px = record {
      timed = plan.timed;
      rising = plan.rising;
      fresh = λ d there. less_false x d p (plan.fresh d there);
      fit = plan.fit.1;
      once = plan.once.1;
      known = λ y there. elim (plan.known y (inr there)) [
        | inl py ↦ inl (stays x y p (λ e. each_at (λ (z : ℕ). x ≡ z → ⊥) rest y plan.once.0 there (sym e)) ∙ py)
        | inr later ↦ inr later
      ];
      due = λ d k there how. elim how [
        | inl pd ↦ elim (plan.due d k there (inl (was_there x d p pd).0)) [ inl e ↦ absurd ((was_there x d p pd).1 (sym e)) | inr found ↦ found ]
        | inr later ↦ elim (plan.due d k there (inr later)) [ inl e ↦ absurd (differ (subst (λ z. p z ≡ true) e px) (plan.fresh d later)) | inr found ↦ found ]
      ];
      order = plan.order.1;
    }

    after_end : (l c : ℕ) (ms : List Move) (p : ℕ → Bool) (v : V) (rest : List ℕ) → Plan ((l, true, c) ∷ ms) p v rest → Plan ms p v rest
    after_end l c ms p v rest plan = record {
      timed = plan.timed.1;
      rising = plan.rising.1;
      fresh = λ d there. plan.fresh d (inr there);
      fit = plan.fit;
      once = plan.once;
      known = λ y there. elim (plan.known y there) [ inl py ↦ inl py | inr later ↦ elim later [ inl e ↦ absurd (not_end l (begun y) c y e) | inr more ↦ inr more ] ];
      due = λ d k there how. plan.due d k (inr there) (elim how [ inl pd ↦ inl pd | inr later ↦ inr (inr later) ]);
      order = plan.order;
    }

    after_begin : (l d : ℕ) (ms : List Move) (p : ℕ → Bool) (v : V) (rest : List ℕ) → Plan ((l, false, d) ∷ ms) p v rest → Plan ms (joined d p) v rest
    after_begin l d ms p v rest plan = record {
      timed = plan.timed.1;
      rising = plan.rising.1;
      fresh = λ x there. elim (choose (joined d p x)) [
        | inr f ↦ f
        | inl t ↦ elim (same_or_not d x) [
          | inr apart ↦ absurd (differ (other_joined d x p t apart) (plan.fresh x (inr there)))
          | inl e ↦ absurd (let above : l < begun x = each_at (λ (m : Move). l < m.0) ms (begun x, false, x) plan.rising.0 there in let here : begun x ≡ l = ap begun e ∙ plan.timed.0 in omega arith)
        ]
      ];
      fit = plan.fit;
      once = plan.once;
      known = λ y there. elim (plan.known y there) [
        | inl py ↦ inl (more_true d y p py)
        | inr later ↦ elim later [ inl e ↦ inl (itself d y p (sym (ap (λ (m : Move). m.2) e))) | inr more ↦ inr more ]
      ];
      due = λ c k there how. elim how [
        | inl t ↦ elim (same_or_not d c) [
          | inr apart ↦ plan.due c k (inr there) (inl (other_joined d c p t apart))
          | inl e ↦ plan.due c k (inr there) (inr (inl (ap (λ z. (l, false, z)) (sym e) ∙ ap (λ z. (z, false, c)) (sym (ap begun e ∙ plan.timed.0)))))
        ]
        | inr later ↦ plan.due c k (inr there) (inr (inr later))
      ];
      order = plan.order;
    }

    under_way : (l c : ℕ) (ms : List Move) (p : ℕ → Bool) (v : V) (x : ℕ) (rest : List ℕ) → Plan ((l, true, c) ∷ ms) p v (x ∷ rest) → p c ≡ true → Among c (x ∷ rest) → p x ≡ true
    under_way l c ms p v x rest plan pc found = elim (plan.known x (inl refl)) [
      | inl px ↦ px
      | inr later ↦ elim later [
        | inl e ↦ absurd (not_end l (begun x) c x e)
        | inr more ↦ elim found [
          | inl e ↦ subst (λ z. p z ≡ true) (sym e) pc
          | inr behind ↦ absurd (
              let above : l < begun x = each_at (λ (m : Move). l < m.0) ms (begun x, false, x) plan.rising.0 more in
              let none : is_before (ended c) (begun x) ≡ false = each_at (λ (b : ℕ). is_before (ended b) (begun x) ≡ false) rest c plan.order.0 behind in
              let before : ltb l (begun x) ≡ false = subst (λ o. is_before o (begun x) ≡ false) plan.timed.0 none in
              differ (lt-ltb l (begun x) above) before)
        ]
      ]
    ]

    until : (l c : ℕ) (ms : List Move) → ((p : ℕ → Bool) (v : V) (rest : List ℕ) → Plan ms p v rest → CanPass fits next ms p v) → (rest : List ℕ) (p : ℕ → Bool) (v : V) → Plan ((l, true, c) ∷ ms) p v rest → p c ≡ true → Among c rest → (xs : List ℕ) × Takes fits next c (CanPass fits next ms) xs p v
    until l c ms passes [] p v plan pc found = absurd found
    until l c ms passes (x ∷ rest) p v plan pc found = go (λ later p'. until l c ms passes rest (without x p) (next x v) later p') (same_or_not x c)
      where
        px : p x ≡ true
        px = under_way l c ms p v x rest plan pc found

        go : (Plan ((l, true, c) ∷ ms) (without x p) (next x v) rest → without x p c ≡ true → Among c rest → (xs : List ℕ) × Takes fits next c (CanPass fits next ms) xs (without x p) (next x v)) → (c ≡ x) ⊎ (c ≡ x → ⊥) → (xs : List ℕ) × Takes fits next c (CanPass fits next ms) xs p v
        go onwards (inl e) = (x ∷ [], (pc, px, plan.fit.0, (subst (λ z. without x p z ≡ false) (sym e) (gone x p), passes (without x p) (next x v) rest (after_end l c ms (without x p) (next x v) rest (after_taking l c ms p v x rest plan px)))))
        go onwards (inr apart) =
            let r : (xs : List ℕ) × Takes fits next c (CanPass fits next ms) xs (without x p) (next x v) = onwards (after_taking l c ms p v x rest plan px) (stays x c p apart ∙ pc) (elim found [ inl e ↦ absurd (apart (sym e)) | inr behind ↦ behind ]) in
            (x ∷ r.0, (pc, px, plan.fit.0, r.1))

    -- from an order that fits, the lines can be passed
    pub passes : (ms : List Move) (p : ℕ → Bool) (v : V) (rest : List ℕ) → Plan ms p v rest → CanPass fits next ms p v
    passes [] p v rest plan = tt
    passes ((l, false, d) ∷ ms) p v rest plan = passes ms (joined d p) v rest (after_begin l d ms p v rest plan)
    passes ((l, true, c) ∷ ms) p v rest plan = go (λ q w r k. passes ms q w r k) (choose (p c))
      where
        go : ((q : ℕ → Bool) (w : V) (r : List ℕ) → Plan ms q w r → CanPass fits next ms q w) → (p c ≡ true) ⊎ (p c ≡ false) → (xs : List ℕ) × Takes fits next c (CanPass fits next ms) xs p v
        go on (inl pc) = until l c ms on rest p v plan pc (plan.due c l (inl refl) (inl pc))
        go on (inr pc) = ([], (pc, on p v rest (after_end l c ms p v rest plan)))
