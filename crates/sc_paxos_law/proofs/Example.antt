-- A lawful history with a lost message and an election, so that the law is not about nothing.
use Rattle.std.proofs.Common.{ℕ, List, [], ◌∷◌, inl, inr, refl, ap, arith, lit<, lit≤}
use Rattle.sc_words.specs.declared.paxos.reports.Report.{Report}
use Rattle.sc_base.specs.Definitions.{Among}
use Rattle.sc_paxos_law.specs.PaxosLawDefinitions.{Step, Prepared, Promised, Offered, Accepted, IsLog, CountedPromise, MayOffer, IsLawfulHistory, three, first, second, example_steps}

nothing_yet : (h : List (Step ℕ)) → IsLog three h []
nothing_yet h k v e = cc

abbrev rep : Report ℕ
rep = record { slot = 1; ballot = first; value = 7 }

abbrev both : List (CountedPromise ℕ)
both = record { node = 2; from = 1; reports = rep ∷ [] } ∷ (record { node = 3; from = 1; reports = [] } ∷ [])

-- the round of an offer
abbrev round_of : Step ℕ → ℕ
round_of (Offered ballot slot value) = ballot.round
round_of s = 0

-- the slot of an offer
abbrev slot_of : Step ℕ → ℕ
slot_of (Offered ballot slot value) = slot
slot_of s = 0

-- nobody else offers anything in slot 1 in the second ballot, nor in slot 2
abbrev before_first : List (Step ℕ)
before_first = Promised 3 second 1 [] ∷ Promised 2 second 1 (rep ∷ []) ∷ Prepared second 1 ∷ Accepted 2 first 1 7 ∷ Offered first 1 7 ∷ []

abbrev before_second : List (Step ℕ)
before_second = Accepted 3 second 1 7 ∷ Accepted 2 second 1 7 ∷ Offered second 1 7 ∷ before_first

not_before : (slot other : ℕ) → Among (Offered second slot other) before_first → ⊥
not_before slot other (inl e) = cc
not_before slot other (inr (inl e)) = cc
not_before slot other (inr (inr (inl e))) = cc
not_before slot other (inr (inr (inr (inl e)))) = cc
not_before slot other (inr (inr (inr (inr (inl e))))) = (let k = ap round_of e in omega (arith, k))
not_before slot other (inr (inr (inr (inr (inr n))))) = n

not_before_second : (other : ℕ) → Among (Offered second 2 other) before_second → ⊥
not_before_second other (inl e) = cc
not_before_second other (inr (inl e)) = cc
not_before_second other (inr (inr (inl e))) = (let k = ap slot_of e in omega (arith, k))
not_before_second other (inr (inr (inr a))) = not_before 2 other a

offers_first : MayOffer three first first 1 7 []
offers_first = record { log = []; is_log = nothing_yet []; known = lit≤ tt; elected = inl refl; only = λ other a. absurd a }

offers_second : MayOffer three first second 1 7 before_first
offers_second = record {
  log = [];
  is_log = nothing_yet before_first;
  known = lit≤ tt;
  elected = inr (record { votes = both; made = ((inr (inl refl), lit≤ tt), ((inl refl, lit≤ tt), tt)); majority = lit< tt; choice = refl });
  only = λ other a. absurd (not_before 1 other a);
}

-- at slot 2 the reports leave it free
offers_next : MayOffer three first second 2 8 before_second
offers_next = record {
  log = [];
  is_log = nothing_yet before_second;
  known = lit≤ tt;
  elected = inr (record {
    votes = both;
    made = ((inr (inr (inr (inr (inl refl)))), lit≤ tt), ((inr (inr (inr (inl refl))), lit≤ tt), tt));
    majority = lit< tt;
    choice = tt;
  });
  only = λ other a. absurd (not_before_second other a);
}

-- the example's steps are lawful
pub lawful : IsLawfulHistory three first example_steps
lawful = (
  tt,
  (
    (refl, inr (inr (inr (inr (inr (inl refl)))))),
    (
      (refl, inr (inl refl)),
      (
        (refl, inl refl),
        (
          offers_next,
          (
            (refl, inr (inl refl)),
            (
              (refl, inl refl),
              (
                offers_second,
                (
                  (refl, lit< tt, refl),
                  (
                    (refl, lit< tt, refl),
                    (
                      tt,
                      (
                        (refl, inl refl),
                        (
                          offers_first,
                          tt,
                        ),
                      ),
                    ),
                  ),
                ),
              ),
            ),
          ),
        ),
      ),
    ),
  ),
)
