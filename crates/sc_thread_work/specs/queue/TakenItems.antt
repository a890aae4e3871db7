-- What threads have made of the items that they took.
use Rattle.std.specs.Prelude.{◌≡◌, ℕ, ◌<◌, List, [], ◌∷◌, length, slice_set, slice_index_or, true, is_some, Option, Some, None, ⊤}
use denote.Param.Members.{Shared}
use Rattle.std.specs.Fn.{FnReturns}
use Rattle.sc_thread_work.specs.declared.queue.rule.Item.{Item}
use Rattle.sc_thread_work.specs.declared.queue.rule.Hand.{Hand}
use Rattle.sc_thread_work.specs.queue.Hands.{hand, with_all}

module _ {F T X : Type 0} (g : Shared F (T × Unit {0}) X) (f : F) where
  -- Each result has the place of the item at its position, and is what a call of `f` returned with that item.
  abbrev pub AllWorked : List (Item T) → List (Item X) → Type 0
  AllWorked [] [] = ⊤
  AllWorked [] (y ∷ ys) = ⊥
  AllWorked (x ∷ xs) [] = ⊥
  AllWorked (x ∷ xs) (y ∷ ys) = (y.place ≡ x.place) × FnReturns g f (x.work, tt) y.work × AllWorked xs ys

module _ {X : Type 0} where
  -- Each of the items has a place below `n`.
  abbrev pub AllInside : ℕ → List (Item X) → Type 0
  AllInside n [] = ⊤
  AllInside n (y ∷ ys) = (y.place < n) × AllInside n ys

  -- The slots with each item written at its place.
  abbrev pub filled : List (Option X) → List (Item X) → List (Option X)
  filled slots [] = slots
  filled slots (y ∷ ys) = filled (slice_set slots y.place (Some y.work)) ys

module _ {F T X : Type 0} (g : Shared F (T × Unit {0}) X) (f : F) where
  -- What one thread has done: from `v` to `w` its pass has taken some items, and `kept` has what calls of `f` returned with them.
  pub record Did (v w : Hand T) (kept : List (Item X)) : Type 0 where
    pub taken : List (Item T)
    pub view_is : w ≡ with_all v taken
    pub worked : AllWorked g f taken kept

  -- What the pass that puts has gathered so far: it has `parts` parts, has put `put`, has taken in `passes` passes, and `kept` has what calls of `f` returned with all that was taken.
  pub record Gathers (parts passes : ℕ) (put : List (Item T)) (v : Hand T) (kept : List (Item X)) : Type 0 where
    pub taken : List (Item T)
    pub view_is : v ≡ hand parts true put taken passes
    pub worked : AllWorked g f taken kept

  -- Each element of `ys` is what a call of `f` returned with the element of `xs` at the same place.
  abbrev pub AllGiven : List T → List X → Type 0
  AllGiven xs ys = (k : ℕ) (d : T) (e : X) → k < length xs → FnReturns g f (slice_index_or xs k d, tt) (slice_index_or ys k e)

  -- The slot at the place `k` is empty, or has what a call of `f` returned with the element of `xs` at this place.
  abbrev pub IsRight : List T → ℕ → Option X → Type 0
  IsRight xs k None = ⊤
  IsRight xs k (Some y) = (d : T) → FnReturns g f (slice_index_or xs k d, tt) y

module _ {X : Type 0} where
  -- No slot is empty.
  abbrev pub AllThere : List (Option X) → Type 0
  AllThere slots = (k : ℕ) (d : Option X) → k < length slots → is_some (slice_index_or slots k d) ≡ true

  -- Every slot is empty.
  abbrev pub AllFree : List (Option X) → Type 0
  AllFree slots = (k : ℕ) (d : Option X) → k < length slots → slice_index_or slots k d ≡ None
