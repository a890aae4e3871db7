-- What a group has noted of decisions, votes and children, when it notes one more.
use Rattle.std.specs.Prelude.{map, ◌||◌, ◌++◌}
use Rattle.std.specs.List.{list_any}
use Rattle.std.proofs.Common.{◌≡◌, Bool, true, false, List, [], ◌∷◌, refl, sym, ◌∙◌, ap}
use Rattle.std.proofs.lemmas.Bool.{or_left, or_right, or_parts, cond_both}
use Rattle.std.proofs.lemmas.List.Folds.{list_any-append}
use Rattle.sc_base.specs.Definitions.{same_draw}
use Rattle.sc_base.specs.declared.names.Draw.{Draw}
use Rattle.sc_words.specs.declared.commands.cores.Core.{Core}
use Rattle.sc_words.specs.declared.commands.votes.Past.{Past}
use Rattle.sc_words.specs.declared.commands.votes.Past.TheVariants.{Ended}
use Rattle.sc_group_table.specs.machine.MachineDefinitions.{closed, voted_after, has_voted}

pub any_keeps : {X : Type 0} (p : X → Bool) (xs ys : List X) → list_any p xs ≡ true → list_any p (xs ++ ys) ≡ true
any_keeps p xs ys e = list_any-append p xs ys ∙ or_left (list_any p xs) (list_any p ys) e

pub any_drops : {X : Type 0} (p : X → Bool) (xs ys : List X) → list_any p (xs ++ ys) ≡ false → list_any p xs ≡ false
any_drops p xs ys e = (or_parts (list_any p xs) (list_any p ys) (sym (list_any-append p xs ys) ∙ e)).0

pub any_new : {X : Type 0} (p : X → Bool) (xs : List X) (y : X) → p y ≡ true → list_any p (xs ++ y ∷ []) ≡ true
any_new p xs y e = list_any-append p xs (y ∷ []) ∙ or_right (list_any p xs) (list_any p (y ∷ [])) (or_left (p y) false e)

-- ---- the votes when a transaction has ended

abbrev pub is_vote_on : Draw → Draw × Past → Bool
is_vote_on t vote = same_draw vote.0 t

closed_name : (tx t : Draw) (vote : Draw × Past) → is_vote_on t (closed tx vote) ≡ is_vote_on t vote
closed_name tx t vote = cond_both (same_draw vote.0 tx) (vote.0, Ended) vote (λ (v : Draw × Past). is_vote_on t v ≡ is_vote_on t vote) (λ e. refl) (λ e. refl)

any_closed : (tx t : Draw) (votes : List (Draw × Past)) → list_any (is_vote_on t) (map (closed tx) votes) ≡ list_any (is_vote_on t) votes
any_closed tx t [] = refl
any_closed tx t (vote ∷ votes) = ap (λ b. b || list_any (is_vote_on t) (map (closed tx) votes)) (closed_name tx t vote) ∙ ap (λ b. is_vote_on t vote || b) (any_closed tx t votes)

-- whoever has voted has still voted
pub ended_keeps : (core : Core) (tx t : Draw) → has_voted core t ≡ true → list_any (is_vote_on t) (voted_after core tx) ≡ true
ended_keeps core tx t e =
    cond_both (has_voted core tx) (map (closed tx) core.voted) (core.voted ++ (tx, Ended) ∷ []) (λ (votes : List (Draw × Past)). list_any (is_vote_on t) votes ≡ true)
    (λ h. any_closed tx t core.voted ∙ e) (λ h. any_keeps (is_vote_on t) core.voted ((tx, Ended) ∷ []) e)
