-- Where a walk through a schedule passes tasks, it comes to a place at which the later ones are left.
use Rattle.std.proofs.Common.{◌≡◌, ℕ, ◌+◌, List, [], ◌∷◌, ◌++◌, Bool, false, ◌||◌, refl, sym, ◌∙◌, ap, subst, append_assoc, append-nil, inl, inr}
use Rattle.std.specs.List.{flat_map}
use Rattle.std.proofs.lemmas.Bool.{cases_Bool}
use Rattle.sc_actor.specs.declared.rows.Row.{Row}
use Rattle.sc_actor.specs.declared.schedules.Line.{Line}
use Rattle.sc_actor.specs.Definitions.{System, Task, Allows, IsLawful, IsWhole, is_over, cuts, skips, place_after, rest_of_task}
use Rattle.sc_actor.proofs.Lemmas.{lawful-prefix, lawful-last, Stands, Stands-row, Stands-over, Stands-at, Stands-allows}

pub flat_append : {X Y : Type 0} (f : X → List Y) (xs ys : List X) → flat_map f (xs ++ ys) ≡ flat_map f xs ++ flat_map f ys
flat_append f [] ys = refl
flat_append f (x ∷ xs) ys = ap (λ t. f x ++ t) (flat_append f xs ys) ∙ sym (append_assoc (f x) (flat_map f xs) (flat_map f ys))

module _ {A M O : Type 0} (s : System A M O) (all : List (Line O)) (journal : List (Row M O)) (lawful : IsLawful s all journal) (whole : IsWhole s all journal) where
  -- where the walk stands before a task that is not over, a row follows
  pub more_rows : (rows : List (Row M O)) (task : Task O) (tasks : List (Task O)) (k : ℕ) (c : Bool) → journal ≡ rows ++ [] → Stands s all rows (task ∷ tasks) k c → is_over s rows task ≡ false → ⊥
  more_rows rows task tasks k c e stands open_ =
      let same : rows ≡ journal = sym (append-nil rows) ∙ sym e in
      let here = ap (λ place. place.tasks) (Stands-at s all rows task tasks k c stands open_) in
      let over : (place_after s all rows).tasks ≡ [] = ap (λ xs. (place_after s all xs).tasks) same ∙ whole in
      let bad : task ∷ tasks ≡ [] = sym here ∙ over in cc

  -- the row that follows is allowed by the first task
  pub next_row : (rows : List (Row M O)) (row : Row M O) (more : List (Row M O)) (task : Task O) (tasks : List (Task O)) (k : ℕ) (c : Bool) → journal ≡ rows ++ row ∷ more → Stands s all rows (task ∷ tasks) k c → is_over s rows task ≡ false → Allows s rows task row
  next_row rows row more task tasks k c e stands open_ =
      let whole_is : journal ≡ (rows ++ row ∷ []) ++ more = e ∙ sym (append_assoc rows (row ∷ []) more) in
      let first = lawful-prefix s all (rows ++ row ∷ []) more (subst (λ xs. IsLawful s all xs) whole_is lawful) in
      Stands-allows s all rows task tasks k c row stands open_ (lawful-last s all rows row first)

  -- a place of the walk at which these tasks are left
  pub record Reaches (back : List (Task O)) : Type 0 where
    pub rows : List (Row M O)
    pub more : List (Row M O)
    pub k : ℕ
    pub c : Bool
    pub journal_is : journal ≡ rows ++ more
    pub stands : Stands s all rows back k c

  module _ (back : List (Task O)) where
    abbrev pub Later : List (Row M O) → Type 0
    Later more = (rows : List (Row M O)) (prefix : List (Task O)) (k : ℕ) (c : Bool) → journal ≡ rows ++ more → Stands s all rows (prefix ++ back) k c → Reaches back

    at_end : Later []
    at_end rows [] k c e stands = record { rows = rows; more = []; k = k; c = c; journal_is = e; stands = stands }
    at_end rows (task ∷ prefix) k c e stands = elim (cases_Bool (is_over s rows task)) [
      | inl over ↦ at_end rows prefix (k + skips task) (c || cuts s rows task) e (Stands-over s all rows task (prefix ++ back) k c stands over)
      | inr open_ ↦ absurd (more_rows rows task (prefix ++ back) k c e stands open_)
    ]

    at_row : (row : Row M O) (more : List (Row M O)) → Later more → Later (row ∷ more)
    at_row row more again rows [] k c e stands = record { rows = rows; more = row ∷ more; k = k; c = c; journal_is = e; stands = stands }
    at_row row more again rows (task ∷ prefix) k c e stands = elim (cases_Bool (is_over s rows task)) [
      | inl over ↦ at_row row more again rows prefix (k + skips task) (c || cuts s rows task) e (Stands-over s all rows task (prefix ++ back) k c stands over)
      | inr open_ ↦ (let next = Stands-row s all rows task (prefix ++ back) k c row stands open_ (next_row rows row more task (prefix ++ back) k c e stands open_) in
          again (rows ++ row ∷ []) (rest_of_task task ++ prefix) k c (e ∙ sym (append_assoc rows (row ∷ []) more))
          (subst (λ tasks. Stands s all (rows ++ row ∷ []) tasks k c) (sym (append_assoc (rest_of_task task) prefix back)) next))
    ]

    pub reach : (more : List (Row M O)) → Later more
    reach [] = at_end
    reach (row ∷ more) = at_row row more (reach more)
