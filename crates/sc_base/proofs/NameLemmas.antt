-- Names and ballots that are the same.
use Rattle.std.proofs.Common.{◌≡◌, ℕ, true, eqb, refl, ◌∙◌, ap}
use Rattle.std.proofs.lemmas.Bool.{eqb-true, eq-eqb, and_from, and_parts}
use Rattle.sc_base.specs.declared.names.Ballot.{Ballot}
use Rattle.sc_base.specs.declared.names.Draw.{Draw}
use Rattle.sc_base.specs.Definitions.{same_draw, same_ballot}

-- ballots with the same parts are the same
pub ballots_equal : (r n s m : ℕ) → r ≡ s → n ≡ m → (let a : Ballot = record { round = r; node = n } in a) ≡ record { round = s; node = m }
ballots_equal r n s m e f = ap (λ x. (let a : Ballot = record { round = x; node = n } in a)) e ∙ ap (λ x. (let a : Ballot = record { round = s; node = x } in a)) f

-- ballots that pass the test are the same
pub ballot_is : (a b : Ballot) → same_ballot a b ≡ true → a ≡ b
ballot_is a b t =
    let parts = and_parts (eqb a.round b.round) (eqb a.node b.node) t in
    ballots_equal a.round a.node b.round b.node (eqb-true a.round b.round parts.0) (eqb-true a.node b.node parts.1)

-- a ballot passes the test with itself
pub ballot_itself : (ballot : Ballot) → same_ballot ballot ballot ≡ true
ballot_itself ballot = and_from (eqb ballot.round ballot.round) (eqb ballot.node ballot.node) (eq-eqb ballot.round ballot.round refl) (eq-eqb ballot.node ballot.node refl)

-- names with the same parts are the same
draws_equal : (n c m d : ℕ) → n ≡ m → c ≡ d → (let a : Draw = record { node = n; count = c } in a) ≡ record { node = m; count = d }
draws_equal n c m d e f = ap (λ x. (let a : Draw = record { node = x; count = c } in a)) e ∙ ap (λ x. (let a : Draw = record { node = m; count = x } in a)) f

-- names that pass the test are the same
pub draw_is : (a b : Draw) → same_draw a b ≡ true → a ≡ b
draw_is a b t =
    let parts = and_parts (eqb a.node b.node) (eqb a.count b.count) t in
    draws_equal a.node a.count b.node b.count (eqb-true a.node b.node parts.0) (eqb-true a.count b.count parts.1)

-- names that are the same pass the test
pub same_name : (a b : Draw) → a ≡ b → same_draw a b ≡ true
same_name a b e =
    and_from (eqb a.node b.node) (eqb a.count b.count)
    (eq-eqb a.node b.node (ap (λ (d : Draw). d.node) e)) (eq-eqb a.count b.count (ap (λ (d : Draw). d.count) e))
