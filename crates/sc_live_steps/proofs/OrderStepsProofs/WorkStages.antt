-- At which stages a group has a work.
use Rattle.std.proofs.Common.{◌≡◌, ℕ, Bool, List, [], ◌∷◌, ◌++◌, Option, inl, inr, refl, sym, ◌∙◌, ap, subst}
use Rattle.sc_base.specs.Definitions.{Among}
use Rattle.sc_node_table.specs.Values.{Draw}
use Rattle.sc_live_steps.specs.orders.OrderDefinitions.{is_watch, Bond, Errand, Work, Answers, Records, Ends, Here, Scene, Deal, Filed, Party, Stage, Still, Ordered, Asks, SentOn, Weighs, Replied, Recorded, Closes, ClosesBoth, party_of, parties_of, IsAt, IsRow, Executes}
use Rattle.sc_live_steps.proofs.OrderStepsProofs.NamedValues.{AreOne, having, here-is, tokens, found}
use Rattle.sc_live_steps.proofs.OrderStepsProofs.PartyChanges.{work_of, own-idle, no-work, closing-work}

-- what is to be shown of each stage at which a group may have this work
pub record AtEach (work : Work) (now : Scene) (group : Draw) (P : Stage → Type 0) : Type 0 where
  pub ordered : (name : Draw) (chief : ℕ) (order : Work) → IsAt (Ordered name chief order) now → AreOne (name, order) (group, work) → P (Ordered name chief order)
  pub weighs : (deal : Deal) (host : ℕ) → IsAt (Weighs deal host) now → AreOne (deal.asked, Answers deal.tx deal.coord (is_watch deal.turn) deal.chief) (group, work) → P (Weighs deal host)
  pub recorded : (deal : Deal) (agreed : Bool) (host : ℕ) → IsAt (Recorded deal agreed host) now → AreOne (deal.coord, Records deal.tx (is_watch deal.turn) agreed host) (group, work) → P (Recorded deal agreed host)
  pub closes : (tx : Draw) (party : Party) → IsAt (Closes tx party) now → party.leg ≡ Filed → AreOne (party.group, Ends tx) (group, work) → P (Closes tx party)
  pub one : (tx : Draw) (one two : Party) → IsAt (ClosesBoth tx one two) now → one.leg ≡ Filed → AreOne (one.group, Ends tx) (group, work) → P (ClosesBoth tx one two)
  pub two : (tx : Draw) (one two : Party) → IsAt (ClosesBoth tx one two) now → two.leg ≡ Filed → AreOne (two.group, Ends tx) (group, work) → P (ClosesBoth tx one two)

at_each : (work : Work) (now : Scene) (group : Draw) (P : Stage → Type 0) → AtEach work now group P → (s : Stage) → IsAt s now → Among (group, work) (tokens work_of (parties_of s)) → P s
at_each work now group P c Still a t = absurd t
at_each work now group P c (Ordered name chief order) a (inl e) = c.ordered name chief order a e
at_each work now group P c (Ordered name chief order) a (inr t) = absurd t
at_each work now group P c (Asks deal to) a t = absurd (no-work deal.tx deal.turn (group, work) t)
at_each work now group P c (SentOn deal) a t = absurd (no-work deal.tx deal.turn (group, work) t)
at_each work now group P c (Weighs deal host) a (inl e) = c.weighs deal host a e
at_each work now group P c (Weighs deal host) a (inr t) = absurd (no-work deal.tx deal.turn (group, work) t)
at_each work now group P c (Replied deal agreed host) a t = absurd (no-work deal.tx deal.turn (group, work) t)
at_each work now group P c (Recorded deal agreed host) a (inl e) = c.recorded deal agreed host a e
at_each work now group P c (Recorded deal agreed host) a (inr t) = absurd (no-work deal.tx deal.turn (group, work) t)
at_each work now group P c (Closes tx party) a t = elim (closing-work tx party.leg party.host party.group [] (group, work) t) [ inl e ↦ c.closes tx party a e.0 e.1 | inr r ↦ absurd r ]
at_each work now group P c (ClosesBoth tx one two) a t =
    elim (closing-work tx one.leg one.host one.group (tokens work_of (party_of tx two ∷ [])) (group, work) t) [
      | inl e ↦ c.one tx one two a e.0 e.1
      | inr r ↦ elim (closing-work tx two.leg two.host two.group [] (group, work) r) [ inl e ↦ c.two tx one two a e.0 e.1 | inr n ↦ absurd n ]
    ]

-- a group whose work is executed has it at one of these stages
pub by-work : (work : Work) (now after : Scene) (group : Draw) (taken : Option Errand) (P : Stage → Type 0) → Executes work now after group taken → (s : Stage) → IsAt s now → AtEach work now group P → P s
by-work work now after group taken P x s a c =
    at_each work now group P c s a (found work_of now.at group work (subst (Among work) (sym x.had) (inl refl)) (parties_of s) a.parties refl)

-- a group whose one work is executed has none after it, and no errand if it had none and is sent none
pub own-done : (work : Work) (now after : Scene) (group : Draw) (taken : Option Errand) (sent : Draw → List Errand) → IsRow now after group taken sent → Executes work now after group taken
    → (h : Here) (bond : Bond) → now.at group ≡ h → h.errands ≡ [] → sent group ≡ [] → (after.at group).bond ≡ bond → after.at group ≡ having bond [] []
own-done work now after group taken sent row x h bond fact none s b =
    here-is (after.at group) bond [] [] b x.has
    (own-idle now after group taken sent row x.takes ∙ (ap (λ l. (now.at group).errands ++ l) s ∙ (ap (λ (k : Here). k.errands ++ []) fact ∙ ap (λ l. l ++ []) none)))
