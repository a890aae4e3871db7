-- What a row does to parts, and to the parties of a transaction.
use Rattle.std.proofs.Common.{◌≡◌, ℕ, List, [], ◌∷◌, ◌++◌, Option, Some, None, ◌⊎◌, inl, inr, refl, sym, ◌∙◌, ap, subst, append-nil}
use Rattle.sc_base.specs.Definitions.{Among, Each}
use Rattle.sc_node_table.specs.Values.{Draw}
use Rattle.sc_node_table.specs.NodeDefinitions.{listed}
use Rattle.sc_live_steps.specs.orders.OrderDefinitions.{Turn, First, Lone, Next, Asking, Errand, Result, Work, Ends, Here, free, Scene, IsNone, IsOnly, AreApart, Deal, Leg, Mailed, Filed, heard, closing, IsRow, GoesOn}
use Rattle.sc_live_steps.proofs.OrderStepsProofs.NamedValues.{cases-draw, having, among-right, single, tagged, tokens}

abbrev pub errands_of : Here → List Errand
errands_of h = h.errands

abbrev pub work_of : Here → List Work
work_of h = h.work

module _ (now after : Scene) (group : Draw) (taken : Option Errand) (sent : Draw → List Errand) (row : IsRow now after group taken sent) where
  -- another group is sent its mail, and nothing else
  pub other-mailed : (other : Draw) (h : Here) (mail : List Errand) → (other ≡ group → ⊥) → now.at other ≡ h → sent other ≡ mail → after.at other ≡ having h.bond h.work (h.errands ++ mail)
  other-mailed other h mail ne fact e =
      row.others other ne ∙ (ap (λ l. having (now.at other).bond (now.at other).work ((now.at other).errands ++ l)) e ∙ ap (λ (k : Here). having k.bond k.work (k.errands ++ mail)) fact)

  -- another group that is sent nothing stays as it was
  pub other-same : (other : Draw) → (other ≡ group → ⊥) → sent other ≡ [] → after.at other ≡ now.at other
  other-same other ne e = other-mailed other (now.at other) [] ne refl e ∙ ap (λ l. having (now.at other).bond (now.at other).work l) (append-nil (now.at other).errands)

  -- one that takes nothing keeps its errands
  pub own-idle : taken ≡ None → (after.at group).errands ≡ (now.at group).errands ++ sent group
  own-idle e = row.own ∙ ap (λ l. l ++ sent group) (sym (row.takes ∙ ap (λ t. row.before ++ (listed t ++ row.behind)) e))

  has : (errand : Errand) → taken ≡ Some errand → (now.at group).errands ≡ row.before ++ (errand ∷ row.behind)
  has errand e = row.takes ∙ ap (λ t. row.before ++ (listed t ++ row.behind)) e

  -- one that takes its only errand has those that are sent to it then
  pub own-taken : (only errand : Errand) → taken ≡ Some errand → (now.at group).errands ≡ only ∷ [] → (only ≡ errand) × ((after.at group).errands ≡ sent group)
  own-taken only errand e fact = (let s = single only errand row.before row.behind (sym fact ∙ has errand e) in (s.0, row.own ∙ ap (λ l. l ++ sent group) s.1))

  -- what is taken was under way for the group
  pub taken-there : (errand : Errand) → taken ≡ Some errand → Among errand (errands_of (now.at group))
  taken-there errand e = subst (Among errand) (sym (has errand e)) (among-right errand row.before (errand ∷ row.behind) (inl refl))

  -- whoever leads goes on
  pub lead-stays : GoesOn now after group → (other : Draw) (node : ℕ) → now.lead other ≡ Some node → after.lead other ≡ Some node
  lead-stays goes other node e = elim (cases-draw other group) [
    | inl fact ↦ subst (λ g. after.lead g ≡ Some node) (sym fact) (goes node (subst (λ g. now.lead g ≡ Some node) fact e))
    | inr ne ↦ row.leads other node ne e
  ]

  pub leads-stay : GoesOn now after group → (leads : List (Draw × ℕ)) → Each (λ lead. now.lead lead.0 ≡ Some lead.1) leads → Each (λ lead. after.lead lead.0 ≡ Some lead.1) leads
  leads-stay goes [] e = tt
  leads-stay goes (lead ∷ leads) e = (lead-stays goes lead.0 lead.1 e.0, leads-stay goes leads e.1)

-- ---- the parties of a transaction

module _ (value after : Draw → Here) (deal : Deal) (coord asked : Here) (only : IsOnly free ((deal.coord, coord) ∷ (deal.asked, asked) ∷ heard deal.tx deal.turn) value)
    (apart : AreApart ((deal.coord, coord) ∷ (deal.asked, asked) ∷ heard deal.tx deal.turn))
    (same : (other : Draw) → (other ≡ deal.coord → ⊥) → (other ≡ deal.asked → ⊥) → after other ≡ value other) where
  heard_same : (turn : Turn) → IsNone deal.coord (heard deal.tx turn) → IsNone deal.asked (heard deal.tx turn)
      → Each (λ entry. value entry.0 ≡ entry.1) (heard deal.tx turn) → Each (λ entry. after entry.0 ≡ entry.1) (heard deal.tx turn)
  heard_same First c a e = tt
  heard_same Lone c a e = tt
  heard_same (Next part host) c a e = (same part (λ i. c.0 (sym i)) (λ i. a.0 (sym i)) ∙ e.0, tt)

  -- the coordinator and the group that is asked may change
  pub deal-goes : (coord_after asked_after : Here) → after deal.coord ≡ coord_after → after deal.asked ≡ asked_after
      → IsOnly free ((deal.coord, coord_after) ∷ (deal.asked, asked_after) ∷ heard deal.tx deal.turn) after
  deal-goes coord_after asked_after c a = ((c, (a, heard_same deal.turn apart.0.1 apart.1.0 only.0.1.1)), λ other none. same other none.0 none.1.0 ∙ only.1 other none)

-- one that was heard has no errand and no work
pub no-errand : (tx : Draw) (turn : Turn) (t : Draw × Errand) → Among t (tokens errands_of (heard tx turn)) → ⊥
no-errand tx First t a = a
no-errand tx Lone t a = a
no-errand tx (Next part host) t a = a

pub no-work : (tx : Draw) (turn : Turn) (t : Draw × Work) → Among t (tokens work_of (heard tx turn)) → ⊥
no-work tx First t a = a
no-work tx Lone t a = a
no-work tx (Next part host) t a = a

-- a party to which an outcome comes has that errand, or that work
pub closing-errand : (tx : Draw) (leg : Leg) (host : ℕ) (name : Draw) (rest : List (Draw × Errand)) (t : Draw × Errand)
    → Among t (tagged name (closing tx leg host).errands ++ rest) → ((leg ≡ Mailed) × ((name, Result tx host) ≡ t)) ⊎ Among t rest
closing-errand tx Mailed host name rest t (inl e) = inl (refl, e)
closing-errand tx Mailed host name rest t (inr a) = inr a
closing-errand tx Filed host name rest t a = inr a

pub closing-work : (tx : Draw) (leg : Leg) (host : ℕ) (name : Draw) (rest : List (Draw × Work)) (t : Draw × Work)
    → Among t (tagged name (closing tx leg host).work ++ rest) → ((leg ≡ Filed) × ((name, Ends tx) ≡ t)) ⊎ Among t rest
closing-work tx Mailed host name rest t a = inr a
closing-work tx Filed host name rest t (inl e) = inl (refl, e)
closing-work tx Filed host name rest t (inr a) = inr a

-- a coordinator asks for its deal alone
pub same_asking : (deal : Deal) {here there : Here} {tx asked : Draw} {turn : Turn} → here ≡ there → here.bond ≡ Asking tx asked turn → there.bond ≡ Asking deal.tx deal.asked deal.turn → (tx ≡ deal.tx) × (asked ≡ deal.asked) × (turn ≡ deal.turn)
same_asking deal {here} {there} {tx} {asked} {turn} same was fact =
    let f : Asking tx asked turn ≡ Asking deal.tx deal.asked deal.turn = sym was ∙ (ap (λ (h : Here). h.bond) same ∙ fact) in
    ((let g = f in cc), (let g = f in cc), (let g = f in cc))
