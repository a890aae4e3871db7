-- What is said of the link and the route of a group, and of the stories, where they name nodes; and that an outcome leaves it.
use Rattle.std.proofs.Common.{◌≡◌, ℕ, ◌≤◌, ◌⊎◌, Bool, true, ◌||◌, ◌++◌, filter, arith, eqb, nat_lt, length, List, [], ◌∷◌, Some, inl, inr, refl, sym, ◌∙◌, ap, subst}
use Rattle.std.specs.List.{list_any}
use Rattle.std.proofs.lemmas.Bool.{cond_both, eqb-true, eq-eqb, or_right}
use Rattle.sc_base.specs.Definitions.{is_member, with_member, united}
use Rattle.sc_node_table.specs.Values.{Draw, Offer, Core, Link, Route, Frozen, Merged}
use Rattle.sc_base.proofs.Lemmas.{grows}
use Rattle.sc_words.specs.declared.commands.votes.Vote.TheVariants as Ballot
use Rattle.sc_group_table.specs.machine.MachineDefinitions.{Group}
use Rattle.sc_law_entries.specs.ring.RingDefinitions.{Sources, Story, Stories}
use Rattle.sc_meaning.proofs.EntriesProofs.EntryLemmas.{one_of as or_true}
use Rattle.std.proofs.lemmas.List.Folds.{list_any-append}

-- some nodes, of each of which something holds with a group's name
abbrev pub Good : (Draw → ℕ → Type 0) → Draw → List ℕ → Type 0
Good P name nodes = (1 ≤ length nodes) × ((node : ℕ) → is_member nodes node ≡ true → P name node)

-- ---- a call changes no record

-- ---- sets of nodes

any_filter : (p q : ℕ → Bool) (xs : List ℕ) → list_any p (filter q xs) ≡ true → list_any p xs ≡ true
any_filter p q [] = λ e. e
any_filter p q (x ∷ xs) = cond_both (q x) (x ∷ filter q xs) (filter q xs) (λ l. list_any p l ≡ true → (p x || list_any p xs) ≡ true)
    (λ _ e. elim (or_true (p x) (list_any p (filter q xs)) e) [ inl here ↦ ap (λ b. b || list_any p xs) here | inr more ↦ or_right (p x) (list_any p xs) (any_filter p q xs more) ])
    (λ _ e. or_right (p x) (list_any p xs) (any_filter p q xs e))

-- who is among some nodes and one more is one of these or that
with_any_member : (nodes : List ℕ) (node who : ℕ) → is_member (united nodes (node ∷ [])) who ≡ true → (is_member nodes who ≡ true) ⊎ (who ≡ node)
with_any_member nodes node who = cond_both (is_member nodes node) nodes (with_member nodes node) (λ l. is_member l who ≡ true → (is_member nodes who ≡ true) ⊎ (who ≡ node))
    (λ _ e. inl e)
    (λ _ e. (let fact = λ (m : ℕ). eqb m who in
    let parts = sym (list_any-append fact (filter (λ m. nat_lt m node) nodes) (node ∷ filter (λ m. nat_lt node m) nodes)) ∙ e in
    elim (or_true (list_any fact (filter (λ m. nat_lt m node) nodes)) (eqb node who || list_any fact (filter (λ m. nat_lt node m) nodes)) parts) [
      | inl low ↦ inl (any_filter fact (λ m. nat_lt m node) nodes low)
      | inr more ↦ elim (or_true (eqb node who) (list_any fact (filter (λ m. nat_lt node m) nodes)) more) [ inl same ↦ inr (sym (eqb-true node who same)) | inr high ↦ inl (any_filter fact (λ m. nat_lt node m) nodes high) ]
    ]))

any_appended : (p : ℕ → Bool) (xs ys : List ℕ) → list_any p ys ≡ true → list_any p (xs ++ ys) ≡ true
any_appended p xs ys e = list_any-append p xs ys ∙ or_right (list_any p xs) (list_any p ys) e

-- and that is
pub united_has : (nodes : List ℕ) (node : ℕ) → is_member (united nodes (node ∷ [])) node ≡ true
united_has nodes node = cond_both (is_member nodes node) nodes (with_member nodes node) (λ l. is_member l node ≡ true) (λ e. e)
    (λ _. any_appended (λ m. eqb m node) (filter (λ m. nat_lt m node) nodes) (node ∷ filter (λ m. nat_lt node m) nodes) (ap (λ b. b || list_any (λ m. eqb m node) (filter (λ m. nat_lt node m) nodes)) (eq-eqb node node refl)))

-- ---- what is said of nodes

module _ (Were Come : Draw → ℕ → Type 0) (come : (name : Draw) (node : ℕ) → Were name node → Come name node) where
  -- the link of a group, and where it went
  pub record IsLinkedSo (core : Core) : Type 0 where
    pub succ : Good Come core.succ.group core.succ.members
    pub gone : (into : Route) → core.gone ≡ Some into → Good Were into.group into.members

  -- what a participant handed over, and where it was to go
  pub record GivesAllowedOrder (y : Story) : Type 0 where
    pub voted : (f : Frozen) → y.vote ≡ Some (Ballot.Yes f) → Good Come f.succ.group f.succ.members × ((offer : Offer) → y.offer ≡ Some offer → Good Were offer.part f.members)
    pub ended : (into : Route) → y.outcome ≡ Some (Merged into) → Good Were into.group into.members

  pub good_come : (name : Draw) (nodes : List ℕ) → Good Were name nodes → Good Come name nodes
  good_come name nodes g = (g.0, λ node m. come name node (g.1 node m))

  -- one more node
  pub more_good : (name : Draw) (nodes : List ℕ) (node : ℕ) → Good Come name nodes → Come name node → Good Come name (united nodes (node ∷ []))
  more_good name nodes node g c = (
    (let up = grows nodes (node ∷ []) in let low = g.0 in omega (arith, up, low)),
    λ who m. elim (with_any_member nodes node who m) [ inl was ↦ g.1 who was | inr fact ↦ subst (Come name) (sym fact) c ],
  )

  module _ (sources : Sources) (ys : Stories) (g : Draw) (s : Group) (linked : IsLinkedSo s.core) (all_reported : (tx : Draw) (y : Story) → ys tx ≡ Some y → GivesAllowedOrder y) where
    pub kept_links : (c : Core) → c.succ ≡ s.core.succ → c.gone ≡ s.core.gone → IsLinkedSo c
    kept_links c succ gone = record {
      succ = subst (λ (l : Link). Good Come l.group l.members) (sym succ) linked.succ;
      gone = λ into e. linked.gone into (sym gone ∙ e);
    }
