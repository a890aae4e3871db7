-- Values by names, where all others have another value; and what stands in lists of them.
use Rattle.std.proofs.Common.{◌≡◌, Bool, true, false, List, [], ◌∷◌, ◌++◌, ◌⊎◌, inl, inr, refl, sym, ◌∙◌, ap, subst}
use Rattle.sc_base.specs.Definitions.{Among, Each, same_draw}
use Rattle.sc_node_table.specs.Values.{Draw}
use Rattle.sc_base.proofs.Lemmas.{draw_is, same_name}
use Rattle.sc_live_steps.specs.orders.OrderDefinitions.{Bond, Errand, Work, Here, free, IsNone, IsOnly}
pub use Rattle.sc_paxos_law.proofs.Lemmas.{Among-left as among-left, Among-right as among-right}

-- two names are the same or not
pub cases-draw : (a b : Draw) → (a ≡ b) ⊎ (a ≡ b → ⊥)
cases-draw a b = by_test (same_draw a b) refl
  where
    by_test : (t : Bool) → same_draw a b ≡ t → (a ≡ b) ⊎ (a ≡ b → ⊥)
    by_test true e = inl (draw_is a b e)
    by_test false e = inr (λ fact. (let f : false ≡ true = sym e ∙ same_name a b fact in absurd cc))

-- a part of its bond, its work and its errands
abbrev pub having : Bond → List Work → List Errand → Here
having bond work errands = record { bond = bond; work = work; errands = errands }

pub here-is : (h : Here) (bond : Bond) (work : List Work) (errands : List Errand) → h.bond ≡ bond → h.work ≡ work → h.errands ≡ errands → h ≡ having bond work errands
here-is h bond work errands b w e = ap (λ x. having x h.work h.errands) b ∙ (ap (λ x. having bond x h.errands) w ∙ ap (λ x. having bond work x) e)

-- ---- elements of lists

middle_not : {X : Type 0} (xs ys : List X) (x : X) → [] ≡ xs ++ (x ∷ ys) → ⊥
middle_not [] ys x e = absurd cc
middle_not (z ∷ xs) ys x e = absurd cc

-- what stands in a list of one is that one, and nothing else is there
pub single : {X : Type 0} (y x : X) (before behind : List X) → y ∷ [] ≡ before ++ (x ∷ behind) → (y ≡ x) × (before ++ behind ≡ [])
single y x [] behind e = (cc, cc)
single y x (z ∷ before) behind e = (let f : [] ≡ before ++ (x ∷ behind) = cc in absurd (middle_not before behind x f))

-- ---- what stands at names

-- one thing at one name
abbrev pub AreOne : {X : Type 0} → Draw × X → Draw × X → Type 0
AreOne a b = a ≡ b

-- a name stands in a list of names
abbrev pub IsIn : {X : Type 0} → Draw → List (Draw × X) → Type 0
IsIn name [] = ⊥
IsIn name (entry ∷ named) = (name ≡ entry.0) ⊎ IsIn name named

pub find-in : {X : Type 0} (name : Draw) (named : List (Draw × X)) → IsNone name named ⊎ IsIn name named
find-in name [] = inl tt
find-in name (entry ∷ named) = elim (cases-draw name entry.0) [
  | inl fact ↦ inr (inl fact)
  | inr ne ↦ elim (find-in name named) [ inl none ↦ inl (ne, none) | inr there ↦ inr (inr there) ]
]

-- each with its name
abbrev pub tagged : {X : Type 0} → Draw → List X → List (Draw × X)
tagged name [] = []
tagged name (x ∷ xs) = (name, x) ∷ tagged name xs

-- all that the named parts have of a kind
abbrev pub tokens : {X : Type 0} → (Here → List X) → List (Draw × Here) → List (Draw × X)
tokens of [] = []
tokens of (entry ∷ named) = tagged entry.0 (of entry.1) ++ tokens of named

among_tagged : {X : Type 0} (name : Draw) (x : X) (xs : List X) → Among x xs → Among (name, x) (tagged name xs)
among_tagged name x (z ∷ xs) (inl e) = inl (ap (λ y. (name, y)) e)
among_tagged name x (z ∷ xs) (inr a) = inr (among_tagged name x xs a)
among_tagged name x [] a = absurd a

module _ {X : Type 0} (of : Here → List X) (value : Draw → Here) (name : Draw) (x : X) (there : Among x (of (value name))) where
  in_named : (named : List (Draw × Here)) → Each (λ entry. value entry.0 ≡ entry.1) named → IsIn name named → Among (name, x) (tokens of named)
  in_named (entry ∷ named) e (inl fact) =
      among-left (name, x) (tagged entry.0 (of entry.1)) (tokens of named)
      (subst (λ n. Among (name, x) (tagged n (of entry.1))) fact (among_tagged name x (of entry.1) (subst (λ h. Among x (of h)) (ap value fact ∙ e.0) there)))
  in_named (entry ∷ named) e (inr i) = among-right (name, x) (tagged entry.0 (of entry.1)) (tokens of named) (in_named named e.1 i)
  in_named [] e i = absurd i

  -- what a part has is in the list of its names
  pub found : (named : List (Draw × Here)) → IsOnly free named value → of free ≡ [] → Among (name, x) (tokens of named)
  found named only none = elim (find-in name named) [
    | inl n ↦ absurd (subst (Among x) (ap of (only.1 name n) ∙ none) there)
    | inr i ↦ in_named named only.0 i
  ]
