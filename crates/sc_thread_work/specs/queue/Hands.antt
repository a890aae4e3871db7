-- What the holders of passes know of a queue, and the rule of the queue. A pass is the right to put into the queue or to take from it.
use Rattle.std.specs.Prelude.{◌≡◌, ℕ, ◌+◌, ◌-◌, ◌≤◌, Bool, true, false, List, [], ◌∷◌, ◌++◌, length, ⊤}
use mathlib.Core.Option.{some}
use lib.ListN.{get_elem?}
use Rattle.crossbeam_queue.specs.Passes.{Pass, view}
use Rattle.sc_thread_work.specs.declared.queue.rule.Item.{Item}
use Rattle.sc_thread_work.specs.declared.queue.rule.Hand.{Hand}

-- The number of parts into which the right to know the whole queue is divided.
abbrev pub all_parts : ℕ
all_parts = 32

-- The sum of the weights of the elements.
abbrev pub weigh : {X : Type 0} → (X → ℕ) → List X → ℕ
weigh h [] = 0
weigh h (x ∷ xs) = h x + weigh h xs

module _ {T : Type 0} where
  -- The knowledge of a pass, made of its fields.
  abbrev pub hand : ℕ → Bool → List (Item T) → List (Item T) → ℕ → Hand T
  hand parts puts put taken passes = record { parts = parts; puts = puts; put = put; taken = taken; passes = passes }

  -- The knowledge of the first pass: it has all parts, may put, has put and taken nothing, and has taken in no pass.
  abbrev pub opener : Hand T
  opener = hand all_parts true [] [] 0

  -- The knowledge of a new pass that only takes: it has one part.
  abbrev pub taker : Hand T
  taker = hand 1 false [] [] 0

  -- The knowledge of a pass that another has taken in: it has no part.
  abbrev pub idle : Hand T
  idle = hand 0 false [] [] 0

  -- The knowledge of a pass from which another was split off: it has one part less.
  abbrev pub less : Hand T → Hand T
  less v = hand (v.parts - 1) v.puts v.put v.taken v.passes

  -- The knowledge of the pass `v` that has taken in `w`: it has the parts of both, has taken what both have taken, and has taken in one pass more.
  abbrev pub joined : Hand T → Hand T → Hand T
  joined v w = hand (v.parts + w.parts) v.puts v.put (v.taken ++ w.taken) (v.passes + (w.passes + 1))

  -- The knowledge of a pass once it has put the item.
  abbrev pub with_put : Hand T → Item T → Hand T
  with_put v x = hand v.parts v.puts (v.put ++ x ∷ []) v.taken v.passes

  -- The knowledge of a pass once it has taken the item.
  abbrev pub with_taken : Hand T → Item T → Hand T
  with_taken v x = hand v.parts v.puts v.put (v.taken ++ x ∷ []) v.passes

  -- Each of the items is in the list `put` at its own place.
  abbrev pub AllPlaced : List (Item T) → List (Item T) → Type 0
  AllPlaced put [] = ⊤
  AllPlaced put (x ∷ xs) = (get_elem? put x.place ≡ some x) × AllPlaced put xs

  -- What a pass knows is true: the pass that puts knows all that was put; each item that a pass has taken was put at its place; a pass without a part has taken nothing.
  pub record Fits (writer : ℕ) (put : List (Item T)) (pass : ℕ) (v : Hand T) : Type 0 where
    pub writes : v.puts ≡ true → (pass ≡ writer) × (v.put ≡ put)
    pub placed : AllPlaced put v.taken
    pub none : v.parts ≡ 0 → v.taken ≡ []

  -- The rule that every step keeps. For each weight of items, the weight of what was put is that of what all passes have taken and what the queue holds. So each item that was put is in the queue or was taken by one pass, once. There are always all parts in the passes together.
  pub record Kept (items : List (Item T)) (views : List (Hand T)) : Type 0 where
    pub put : List (Item T)
    pub writer : ℕ
    pub parts : weigh (λ v. v.parts) views ≡ all_parts
    pub balance : (h : Item T → ℕ) → weigh h put ≡ weigh (λ v. weigh h v.taken) views + weigh h items
    pub placed : AllPlaced put items
    pub fits : (pass : ℕ) (v : Hand T) → get_elem? views pass ≡ some v → Fits writer put pass v

  -- The queue holds at most as many items as the pass that puts has put.
  abbrev pub HasRoom : Hand T → List (Item T) → Type 0
  HasRoom v items = v.puts ≡ true → length items ≤ length v.put

  -- A pass that puts and has all parts knows of each weight what was taken and what is left, and each item that it has taken was put at its place.
  abbrev pub KnowsWhole : Hand T → List (Item T) → Type 0
  KnowsWhole v items = v.puts ≡ true → v.parts ≡ all_parts → ((h : Item T → ℕ) → weigh h v.put ≡ weigh h v.taken + weigh h items) × AllPlaced v.put v.taken

  -- The knowledge of a pass once it has taken these items.
  abbrev pub with_all : Hand T → List (Item T) → Hand T
  with_all v xs = hand v.parts v.puts v.put (v.taken ++ xs) v.passes

  -- The elements as items with their places, from `n` on.
  abbrev pub numbered : ℕ → List T → List (Item T)
  numbered n [] = []
  numbered n (x ∷ xs) = record { place = n; work = x } ∷ numbered (n + 1) xs

  -- The elements of the items.
  abbrev pub works : List (Item T) → List T
  works [] = []
  works (x ∷ xs) = x.work ∷ works xs

  -- What a pass knows of a queue that is worked off: it has put the elements of `all`, each once and at its place, and for each weight what was taken weighs as much as what was put, so each item was taken once.
  pub record IsWorkedOff (all : List T) (v : Hand T) : Type 0 where
    pub put : v.put ≡ numbered 0 all
    pub taken : (h : Item T → ℕ) → weigh h v.taken ≡ weigh h v.put

  -- What the holder of a pass knows.
  abbrev pub known : Pass (Item T) (Hand T) → Hand T
  known holder = view holder
