-- An entry that leaves every list of transactions as it is begins none and decides none.
use Rattle.std.proofs.Common.{◌≡◌, ℕ, true, ◌&&◌, not, List, [], ◌∷◌, length, Option, Some, None, refl, sym, ap, ◌∙◌, arith}
use Rattle.std.proofs.lemmas.Bool.{cond-true, and_from}
use Rattle.std.proofs.lemmas.Option.{none-some}
use Rattle.sc_base.proofs.NameLemmas.{same_name}
use Rattle.sc_base.specs.Same.{same_draw}
use Rattle.sc_base.specs.declared.names.Draw.{Draw}
use Rattle.sc_words.specs.commands.Cores.{is_alone}
use Rattle.sc_words.specs.commands.Effects.{is_changed, decided_in}
use Rattle.sc_words.specs.declared.commands.bodies.Body.{Body}
use Rattle.sc_words.specs.declared.commands.commands.Command.{Command}
use Rattle.sc_words.specs.declared.commands.commands.Command.TheVariants.{Begin, Split, RecordVote}
use Rattle.sc_words.specs.declared.commands.cores.Core.{Core}
use Rattle.sc_words.specs.declared.commands.effects.Effect.{Effect}
use Rattle.sc_words.specs.declared.commands.effects.Effect.TheVariants.{Decided}
use Rattle.sc_words.specs.declared.commands.votes.Outcome.{Outcome}
use Rattle.sc_words.specs.declared.commands.votes.Vote.{Vote}
use Rattle.sc_meaning.specs.declared.entries.Transaction.{Transaction}
use Rattle.sc_meaning.specs.entries.Decisions.{begun_transaction, begun_split, concluded, is_of, transactions_after, with_outcome}

-- the entry leaves every list of transactions as it is
abbrev pub Keeps : Core → Command → Effect → Type 0
Keeps core command effect = (list : List Transaction) → transactions_after core command effect list ≡ list

-- where a transaction begins there is one more
pub begins_some : (core : Core) (tx : Draw) (body : Body) (order : ℕ) (effect : Effect) → is_changed effect ≡ true → Keeps core (Begin tx body order) effect → ⊥
begins_some core tx body order effect so kept =
    omega (arith, ap length (sym (cond-true (is_changed effect) (begun_transaction core tx body ∷ []) [] so) ∙ kept []))

-- and where a split begins as one
pub splits_some : (core : Core) (at : ℕ) (child : Draw) (order : ℕ) (effect : Effect) → (is_changed effect && not (is_alone core)) ≡ true → Keeps core (Split at child order) effect → ⊥
splits_some core at child order effect so kept =
    omega (arith, ap length (sym (cond-true (is_changed effect && not (is_alone core)) (begun_split core at child ∷ []) [] so) ∙ kept []))

first_outcome : List Transaction → Option Outcome
first_outcome [] = None
first_outcome (transaction ∷ transactions) = transaction.outcome

-- an outcome changes the list of one open transaction
concludes_some : (core : Core) (tx : Draw) (outcome : Outcome) → ((list : List Transaction) → concluded (Some outcome) tx core.id list ≡ list) → ⊥
unfolding first_outcome
concludes_some core tx outcome kept =
    let begun : Transaction = begun_split core 0 tx in
    let done : Transaction = with_outcome (Some outcome) begun in
    let found : is_of tx core.id begun ≡ true = and_from (same_draw tx tx) (same_draw core.id core.id) (same_name tx tx refl) (same_name core.id core.id refl) in
    none-some outcome (sym (ap first_outcome (kept (begun ∷ []))) ∙ ap (λ (one : Transaction). one.outcome) (cond-true (is_of tx core.id begun) done begun found))

-- a vote of the watcher, or a coordinator that gives up, decides nothing
pub concludes_none : (core : Core) (tx : Draw) (effect : Effect) → ((list : List Transaction) → concluded (decided_in effect) tx core.id list ≡ list) → decided_in effect ≡ None
concludes_none core tx (Decided outcome) kept = absurd (concludes_some core tx outcome kept)
concludes_none core tx _ kept = refl

-- nor does the vote of a participant
pub votes_none : (core : Core) (tx : Draw) (vote : Vote) (by : ℕ) (effect : Effect) → Keeps core (RecordVote tx vote by) effect → decided_in effect ≡ None
votes_none core tx vote by (Decided outcome) kept = absurd (concludes_some core tx outcome kept)
votes_none core tx vote by _ kept = refl
