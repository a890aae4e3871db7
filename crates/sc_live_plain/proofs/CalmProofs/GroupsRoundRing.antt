-- Groups of which each is followed by another, and by which no two are followed, stand round the ring from each of them on.
use Rattle.std.proofs.Common.{◌≡◌, ◌<◌, ◌^◌, Bool, true, false, true≢false, List, [], ◌∷◌, ◌++◌, inl, inr, refl, sym, ◌∙◌, subst, ap}
use Rattle.sc_base.proofs.Lemmas.{draw_is, same_name}
use Rattle.sc_base.specs.Definitions.{Among, Each, IsArc, same_draw}
use Rattle.sc_words.proofs.PaxosProofs.PaxosLemmas.{Each-among}
use Rattle.sc_live_plain.specs.PlainDefinitions.{IsRingOf, FollowedBy, Setting, Frame, AreNamedApart}
use Rattle.sc_live_plain.proofs.CalmProofs.RingCycles.{IsNoneOf, AreDistinct, IsChain, last_from, IsRound, round}

-- ---- chains by their places

chain_next : (R : Frame → Frame → Type 0) (x : Frame) (xs a b : List Frame) (one other : Frame) → IsChain R x xs → x ∷ xs ≡ a ++ one ∷ other ∷ b → R one other
chain_next R x [] [] b one other chain e = cc
chain_next R x (y ∷ ys) [] b one other chain e = (let first : x ≡ one = cc in let second : y ≡ other = cc in subst (λ z. R z other) first (subst (λ z. R x z) second chain.0))
chain_next R x [] (z ∷ a) b one other chain e = absurd (short a (cc))
  where
    short : (a : List Frame) → [] ≡ a ++ one ∷ other ∷ b → ⊥
    short [] e = cc
    short (z ∷ a) e = cc
chain_next R x (y ∷ ys) (z ∷ a) b one other chain e = chain_next R y ys a b one other chain.1 (let tail : y ∷ ys ≡ a ++ one ∷ other ∷ b = cc in tail)

chain_last : (x : Frame) (xs a : List Frame) (one : Frame) → x ∷ xs ≡ a ++ one ∷ [] → last_from x xs ≡ one
chain_last x [] [] one e = cc
chain_last x (y ∷ ys) [] one e = cc
chain_last x [] (z ∷ a) one e = absurd (short a (cc))
  where
    short : (a : List Frame) → [] ≡ a ++ one ∷ [] → ⊥
    short [] e = cc
    short (z ∷ a) e = cc
chain_last x (y ∷ ys) (z ∷ a) one e = chain_last y ys a one (let tail : y ∷ ys ≡ a ++ one ∷ [] = cc in tail)

-- what stands before one thing of a list is another
before_apart : (xs a b : List Frame) (one : Frame) → AreDistinct xs → xs ≡ a ++ one ∷ b → Each (λ other. other ≡ one → ⊥) a
before_apart xs [] b one d e = tt
before_apart [] (z ∷ a) b one d e = cc
before_apart (x ∷ xs) (z ∷ a) b one d e =
    let head : x ≡ z = cc in
    let tail : xs ≡ a ++ one ∷ b = cc in
    (λ same. Each-among (λ (w : Frame). w ≡ x → ⊥) xs one d.0 (subst (λ l. Among one l) (sym tail) (among_mid a)) (sym (head ∙ same)), before_apart xs a b one d.1 tail)
  where
    among_mid : (a : List Frame) → Among one (a ++ one ∷ b)
    among_mid [] = inl refl
    among_mid (w ∷ a) = inr (among_mid a)

-- ---- the groups of a setting

module _ (set : Setting) (apart : AreNamedApart set.frames) (arcs : (frame : Frame) → Among frame set.frames → IsArc frame.core.arc × (frame.core.arc.lo < 2 ^ 32))
    (step : (frame : Frame) → Among frame set.frames → (other : Frame) × Among other set.frames × FollowedBy frame other)
    (back : (one other next : Frame) → Among one set.frames → Among other set.frames → Among next set.frames → FollowedBy one next → FollowedBy other next → one ≡ other) where
  named_apart : AreNamedApart set.frames
  named_apart = apart

  abbrev same : Frame → Frame → Bool
  same one other = same_draw one.core.id other.core.id

  is_same : (one other : Frame) → Among one set.frames → Among other set.frames → same one other ≡ true → one ≡ other
  is_same one other a b e = apart one other a b (draw_is one.core.id other.core.id e)

  is_apart : (one other : Frame) → same one other ≡ false → one ≡ other → ⊥
  is_apart one other f e = true≢false (sym (same_name one.core.id other.core.id (ap (λ (frame : Frame). frame.core.id) e)) ∙ f)

  pub round_from : (frame : Frame) → Among frame set.frames → (rest : List Frame) × IsRingOf set (frame ∷ rest)
  round_from frame a =
      let r = round FollowedBy set.frames same is_same is_apart step back frame a in (
        r.rest,
        record {
          round = record {
            arcs = λ one b. arcs one (within one b);
            next = λ x y one other e. chain_next FollowedBy frame r.rest x y one other r.chain e;
            last = λ x y one other e f. subst (λ z. FollowedBy z other) (chain_last frame r.rest x one e) (subst (λ z. FollowedBy (last_from frame r.rest) z) (first_of other y f) r.closes);
            distinct = λ x y one e. names_apart one x (before_apart (frame ∷ r.rest) x y one (own_apart r.rest r.none, r.distinct) e) (before_among y one x (subst (Each (λ z. Among z set.frames)) e (a, r.among))) (middle_among y one x (subst (Each (λ z. Among z set.frames)) e (a, r.among)));
          };
          within = within;
        },
      )
    where
      r_ : IsRound FollowedBy set.frames same is_same is_apart step back frame a [] frame
      r_ = round FollowedBy set.frames same is_same is_apart step back frame a

      within : (one : Frame) → Among one (frame ∷ r_.rest) → Among one set.frames
      within one b = Each-among (λ z. Among z set.frames) (frame ∷ r_.rest) one (a, r_.among) b

      first_of : (other : Frame) (y : List Frame) → frame ∷ r_.rest ≡ other ∷ y → frame ≡ other
      first_of other y e = cc

      own_apart : (ys : List Frame) → Each (λ y. IsNoneOf y (frame ∷ [])) ys → IsNoneOf frame ys
      own_apart [] none = tt
      own_apart (y ∷ ys) none = (λ e. none.0.0 (sym e), own_apart ys none.1)

      before_among : (b : List Frame) (one : Frame) (x : List Frame) → Each (λ z. Among z set.frames) (x ++ one ∷ b) → Each (λ z. Among z set.frames) x
      before_among b one [] each = tt
      before_among b one (z ∷ x) each = (each.0, before_among b one x each.1)

      middle_among : (b : List Frame) (one : Frame) (x : List Frame) → Each (λ z. Among z set.frames) (x ++ one ∷ b) → Among one set.frames
      middle_among b one [] each = each.0
      middle_among b one (z ∷ x) each = middle_among b one x each.1

      names_apart : (one : Frame) (x : List Frame) → Each (λ other. other ≡ one → ⊥) x → Each (λ z. Among z set.frames) x → Among one set.frames → Each (λ (other : Frame). other.core.id ≡ one.core.id → ⊥) x
      names_apart one [] apart among here = tt
      names_apart one (z ∷ x) apart among here = (λ e. apart.0 (named_apart z one among.0 here e), names_apart one x apart.1 among.1 here)
