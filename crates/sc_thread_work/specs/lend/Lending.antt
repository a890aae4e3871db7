-- What the holders of passes know of a queue of loans, and the rule of the queue. A loan is a piece of work that was lent, with its number.
use Rattle.std.specs.Prelude.{◌≡◌, ℕ, ◌+◌, ◌-◌, ◌≤◌, Bool, true, false, List, [], ◌∷◌, ◌++◌, length, sum_by, ⊤, MatchBool}
use mathlib.Core.Option.{some}
use lib.ListN.{get_elem?}
use Rattle.sc_thread_work.specs.declared.lend.rule.Loan.{Loan}
use Rattle.sc_thread_work.specs.declared.lend.rule.Clerk.{Clerk}

module _ {T : Type 0} where
  -- What the holder of a pass knows: whether it lends, what it has lent, what it has taken, and how many loans it has taken and not given back.
  abbrev pub clerk : Bool → List T → List (Loan T) → ℕ → Clerk T
  clerk lends lent held out = record { lends = lends; lent = lent; held = held; out = out }

  -- The knowledge of the first pass: it lends, and has lent and taken nothing.
  abbrev pub lender : Clerk T
  lender = clerk true [] [] 0

  -- The knowledge of a new pass, which does not lend and has taken nothing.
  abbrev pub helper : Clerk T
  helper = clerk false [] [] 0

  -- The knowledge of a pass once it has lent one more piece of work.
  abbrev pub with_lent : Clerk T → T → Clerk T
  with_lent v x = clerk v.lends (v.lent ++ x ∷ []) v.held v.out

  -- The knowledge of a pass once it has taken one more loan.
  abbrev pub with_held : Clerk T → Loan T → Clerk T
  with_held v x = clerk v.lends v.lent (v.held ++ x ∷ []) (v.out + 1)

  -- The knowledge of a pass once it has given one loan back.
  abbrev pub with_back : Clerk T → Clerk T
  with_back v = clerk v.lends v.lent v.held (v.out - 1)

  -- Where the pass lends, the loans in the queue and those that it has taken and not given back are at most as many as it has lent.
  abbrev pub IsOut : Clerk T → List (Loan T) → Type 0
  IsOut v items = v.lends ≡ true → length items + v.out ≤ length v.lent

  -- The work `x` was lent under this number.
  abbrev pub IsLentUnder : List T → ℕ → T → Type 0
  IsLentUnder lent number x = get_elem? lent number ≡ some x

  -- What was lent under a number in `old` is lent under the same number in `new`.
  abbrev pub IsLonger : List T → List T → Type 0
  IsLonger old new = (number : ℕ) (x : T) → IsLentUnder old number x → IsLentUnder new number x

module _ {T : Type 0} (leaves : T → T → Type 0) where
  -- The loan is what was lent under its number; or, where it is done, what working may leave of that.
  pub record IsLoan (lent : List T) (x : Loan T) : Type 0 where
    pub lent_value : T
    pub at : IsLentUnder lent x.number lent_value
    pub now : MatchBool x.done (leaves lent_value x.work) (x.work ≡ lent_value)

  -- Each of these is a loan of what was lent.
  abbrev pub AllLoans : List T → List (Loan T) → Type 0
  AllLoans lent [] = ⊤
  AllLoans lent (x ∷ xs) = IsLoan lent x × AllLoans lent xs

  -- What a pass knows is true: the pass that lends knows all that was lent, and what a pass has taken are loans.
  pub record Knows (writer : ℕ) (lent : List T) (pass : ℕ) (v : Clerk T) : Type 0 where
    pub lends : v.lends ≡ true → (pass ≡ writer) × (v.lent ≡ lent)
    pub held : AllLoans lent v.held

  -- The rule that every step keeps. What is in the queue are loans. Their number, with the number that was taken and not given back, is the number that was lent.
  pub record Lent (items : List (Loan T)) (views : List (Clerk T)) : Type 0 where
    pub lent : List T
    pub writer : ℕ
    pub loans : AllLoans lent items
    pub count : length items + sum_by (λ v. v.out) views ≡ length lent
    pub knows : (pass : ℕ) (v : Clerk T) → get_elem? views pass ≡ some v → Knows writer lent pass v

  -- From `v` to `w` the pass has taken the loan; the pass that lends knows that it is a loan of what it has lent.
  abbrev pub Taken : Clerk T → Loan T → Clerk T → Type 0
  Taken v x w = (w ≡ with_held v x) × (v.lends ≡ true → IsLoan v.lent x)

  -- The loan may be given back by the holder of a pass that has taken these loans: whatever was lent, if those are loans of it, so is this one.
  abbrev pub MayGiveBack : Clerk T → Loan T → Type 0
  MayGiveBack v x = (lent : List T) → AllLoans lent v.held → IsLoan lent x

  -- The loan `y` is `x` once it is worked, with the same number; one that was done before is unchanged.
  pub record Finished (x y : Loan T) : Type 0 where
    pub number : y.number ≡ x.number
    pub done : y.done ≡ true
    pub work : MatchBool x.done (y.work ≡ x.work) (leaves x.work y.work)

  -- The work `y` is what working may leave of what was lent under this number.
  abbrev pub IsLeft : List T → ℕ → T → Type 0
  IsLeft lent number y = (x : T) → IsLentUnder lent number x → leaves x y
