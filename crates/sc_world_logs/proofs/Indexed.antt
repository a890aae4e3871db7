-- What is found at a slot depends on the acceptances of that slot alone.
use Rattle.std.proofs.Common.{◌≡◌, ℕ, Bool, true, false, cond, List, [], ◌∷◌, ◌++◌, map, reverse, ◌&&◌, ◌==◌, if◌then◌else◌, Option, Some, refl, sym, ap, ◌∙◌}
use Rattle.std.specs.Option.{option_map}
use Rattle.std.proofs.lemmas.List.{map-append, append-nil}
use Rattle.std.proofs.lemmas.List.Elements.{filter-append}
use Rattle.std.proofs.lemmas.Grind.{reverse_onto}
use Rattle.sc_base.specs.declared.names.Ballot.{Ballot}
use Rattle.sc_words.specs.declared.commands.commands.Command.{Command}
use Rattle.sc_base.specs.Majority.{is_majority}
use Rattle.sc_words.specs.declared.paxos.reports.Report.{Report}
use Rattle.sc_base.specs.Same.{same_ballot}
use Rattle.sc_paxos_law.specs.Steps.{Step}
use Rattle.sc_paxos_law.specs.Decided.{voters_of, found_in, chosen_at, lesser_of}
use Rattle.sc_world_logs.specs.Acceptances.{step_of, steps_of, report_of}
use Rattle.sc_world_logs.specs.Indexes.{acceptances_at}
use Rattle.sc_world_logs.specs.declared.accepting.Acceptance.{Acceptance}

-- steps, and those of them that are at a slot
abbrev steps_in : List Acceptance → List (Step Command)
steps_in = map step_of

kept : (slot : ℕ) (a : Acceptance) (found : List Acceptance) → (a.slot == slot) ≡ true → acceptances_at slot (a ∷ found) ≡ a ∷ acceptances_at slot found
kept slot a found e = ap (λ t. cond t (a ∷ acceptances_at slot found) (acceptances_at slot found)) e

left_out : (slot : ℕ) (a : Acceptance) (found : List Acceptance) → (a.slot == slot) ≡ false → acceptances_at slot (a ∷ found) ≡ acceptances_at slot found
left_out slot a found e = ap (λ t. cond t (a ∷ acceptances_at slot found) (acceptances_at slot found)) e

neither : {X : Type 0} (b : Bool) (x y : X) → (if b && false then x else y) ≡ y
neither true x y = refl
neither false x y = refl

voters_here : (ballot : Ballot) (slot : ℕ) (found : List Acceptance) → voters_of (steps_in found) ballot slot ≡ voters_of (steps_in (acceptances_at slot found)) ballot slot
voters_here ballot slot [] = refl
voters_here ballot slot (a ∷ found) = by_choice (a.slot == slot) refl (voters_here ballot slot found)
  where
    first : (t : Bool) (xs : List Acceptance) → (a.slot == slot) ≡ t
        → voters_of (steps_in (a ∷ xs)) ballot slot ≡ (if same_ballot a.ballot ballot && t then a.node ∷ voters_of (steps_in xs) ballot slot else voters_of (steps_in xs) ballot slot)
    first t xs e = ap (λ (b : Bool). if same_ballot a.ballot ballot && b then a.node ∷ voters_of (steps_in xs) ballot slot else voters_of (steps_in xs) ballot slot) e

    by_choice : (b : Bool) → (a.slot == slot) ≡ b → voters_of (steps_in found) ballot slot ≡ voters_of (steps_in (acceptances_at slot found)) ballot slot
        → voters_of (steps_in (a ∷ found)) ballot slot ≡ voters_of (steps_in (acceptances_at slot (a ∷ found))) ballot slot
    by_choice true e rest =
        first true found e
        ∙ ap (λ (voters : List ℕ). if same_ballot a.ballot ballot && true then a.node ∷ voters else voters) rest
        ∙ sym (first true (acceptances_at slot found) e)
        ∙ ap (λ (xs : List Acceptance). voters_of (steps_in xs) ballot slot) (sym (kept slot a found e))
    by_choice false e rest =
        first false found e ∙ neither (same_ballot a.ballot ballot) _ _ ∙ rest ∙ ap (λ (xs : List Acceptance). voters_of (steps_in xs) ballot slot) (sym (left_out slot a found e))

-- one acceptance at the slot, where a majority of these accepted in its ballot, before what was found among older ones
abbrev put : List ℕ → Acceptance → Bool → List ℕ → Option (Report Command) → Option (Report Command)
put members a t voters older = if t && is_majority members voters then Some (lesser_of (report_of a) older) else older

found_here : (members : List ℕ) (all here : List (Step Command)) (slot : ℕ) → ((ballot : Ballot) → voters_of all ballot slot ≡ voters_of here ballot slot)
    → (found : List Acceptance) → found_in members all slot (steps_in found) ≡ found_in members here slot (steps_in (acceptances_at slot found))
found_here members all here slot same [] = refl
found_here members all here slot same (a ∷ found) = by_choice (a.slot == slot) refl (found_here members all here slot same found)
  where
    first : (t : Bool) (h : List (Step Command)) (xs : List Acceptance) → (a.slot == slot) ≡ t
        → found_in members h slot (steps_in (a ∷ xs)) ≡ put members a t (voters_of h a.ballot slot) (found_in members h slot (steps_in xs))
    first t h xs e = ap (λ (b : Bool). put members a b (voters_of h a.ballot slot) (found_in members h slot (steps_in xs))) e

    by_choice : (b : Bool) → (a.slot == slot) ≡ b → found_in members all slot (steps_in found) ≡ found_in members here slot (steps_in (acceptances_at slot found))
        → found_in members all slot (steps_in (a ∷ found)) ≡ found_in members here slot (steps_in (acceptances_at slot (a ∷ found)))
    by_choice true e rest =
        first true all found e
        ∙ ap (λ (voters : List ℕ). put members a true voters (found_in members all slot (steps_in found))) (same a.ballot)
        ∙ ap (put members a true (voters_of here a.ballot slot)) rest
        ∙ sym (first true here (acceptances_at slot found) e)
        ∙ ap (λ (xs : List Acceptance). found_in members here slot (steps_in xs)) (sym (kept slot a found e))
    by_choice false e rest = first false all found e ∙ rest ∙ ap (λ (xs : List Acceptance). found_in members here slot (steps_in xs)) (sym (left_out slot a found e))

-- acceptances, newest first
newest : (found : List Acceptance) → steps_of found ≡ steps_in (reverse found)
newest [] = refl
newest (a ∷ found) =
    reverse_onto (steps_in found) (step_of a) []
    ∙ ap (λ (steps : List (Step Command)). steps ++ step_of a ∷ []) (newest found)
    ∙ sym (map-append step_of (reverse found) (a ∷ []))
    ∙ ap steps_in (sym (reverse_onto found a []))

turned : (slot : ℕ) (found : List Acceptance) → acceptances_at slot (reverse found) ≡ reverse (acceptances_at slot found)
turned slot [] = refl
turned slot (a ∷ found) =
    ap (acceptances_at slot) (reverse_onto found a [])
    ∙ filter-append (λ (x : Acceptance). x.slot == slot) (reverse found) (a ∷ [])
    ∙ by_choice (a.slot == slot) refl (turned slot found)
  where
    by_choice : (b : Bool) → (a.slot == slot) ≡ b → acceptances_at slot (reverse found) ≡ reverse (acceptances_at slot found)
        → acceptances_at slot (reverse found) ++ acceptances_at slot (a ∷ []) ≡ reverse (acceptances_at slot (a ∷ found))
    by_choice true e rest =
        ap (λ (xs : List Acceptance). acceptances_at slot (reverse found) ++ xs) (kept slot a [] e)
        ∙ ap (λ (xs : List Acceptance). xs ++ a ∷ []) rest
        ∙ sym (reverse_onto (acceptances_at slot found) a [])
        ∙ ap reverse (sym (kept slot a found e))
    by_choice false e rest =
        ap (λ (xs : List Acceptance). acceptances_at slot (reverse found) ++ xs) (left_out slot a [] e)
        ∙ append-nil (acceptances_at slot (reverse found))
        ∙ rest
        ∙ ap reverse (sym (left_out slot a found e))

-- what is chosen at a slot depends on the acceptances at it alone
pub chosen_here : (members : List ℕ) (slot : ℕ) (found : List Acceptance) → chosen_at members (steps_of found) slot ≡ chosen_at members (steps_of (acceptances_at slot found)) slot
chosen_here members slot found =
    let here : steps_of (acceptances_at slot found) ≡ steps_in (acceptances_at slot (reverse found)) = newest (acceptances_at slot found) ∙ ap steps_in (sym (turned slot found)) in
    ap (λ (steps : List (Step Command)). chosen_at members steps slot) (newest found)
    ∙ ap (option_map (λ (report : Report Command). report.value))
    (found_here members (steps_in (reverse found)) (steps_in (acceptances_at slot (reverse found))) slot (λ ballot. voters_here ballot slot (reverse found)) (reverse found))
    ∙ ap (λ (steps : List (Step Command)). chosen_at members steps slot) (sym here)
