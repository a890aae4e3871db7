-- The tasks of lines.
use Rattle.std.proofs.Common.{◌≡◌, ℕ, suc, ◌+◌, ◌-◌, ◌<◌, List, [], ◌∷◌, ◌++◌, length, refl, sym, ap, ◌∙◌, arith, get_or, drop, drop-cons, add-one}
use Rattle.std.specs.List.{flat_map}
use Rattle.sc_actor.specs.declared.schedules.Line.{Line}
use Rattle.sc_actor.specs.declared.schedules.Line.TheVariants.{Go as GoLine, Deliver as DeliverLine, Drop as DropLine, Again as AgainLine, Tick as TickLine, Crash as CrashLine, Told as ToldLine, Settle, Free, Storm}
use Rattle.sc_actor.specs.Definitions.{Task, Once, Storms, tasks_of, storm_steps}

-- the tasks from a line on begin with the line's own
pub split : {O : Type 0} (words : ℕ → ℕ → ℕ × ℕ) (lines : List (Line O)) (i : ℕ) (line : Line O) → i < length lines → line ≡ get_or lines i line → flat_map (tasks_of words) (drop i lines) ≡ tasks_of words line ++ flat_map (tasks_of words) (drop (i + 1) lines)
split words lines i line lt is = rw (add-one, drop-cons lines i line lt, sym is) refl

-- a line that makes one row is its own task
pub one_of : {O : Type 0} (words : ℕ → ℕ → ℕ × ℕ) (line : Line O) → ((most : ℕ) → line ≡ Settle most → ⊥) → ((most workers : ℕ) → line ≡ Free most workers → ⊥) → ((number most : ℕ) → line ≡ Storm number most → ⊥) → tasks_of words line ≡ Once line ∷ []
one_of words (Settle most) not_settle not_free not_storm = absurd (not_settle most refl)
one_of words (Free most workers) not_settle not_free not_storm = absurd (not_free most workers refl)
one_of words (Storm number most) not_settle not_free not_storm = absurd (not_storm number most refl)
one_of words (GoLine who) not_settle not_free not_storm = refl
one_of words (DeliverLine who k) not_settle not_free not_storm = refl
one_of words (DropLine who k) not_settle not_free not_storm = refl
one_of words (AgainLine mail) not_settle not_free not_storm = refl
one_of words (TickLine who) not_settle not_free not_storm = refl
one_of words (CrashLine who) not_settle not_free not_storm = refl
one_of words (ToldLine who order) not_settle not_free not_storm = refl

-- after some steps of a storm the others are left
pub steps_left : {O : Type 0} (words : ℕ → ℕ × ℕ) (most done : ℕ) → done < most → storm_steps {O = O} words done (most - done) ≡ Storms (words done) ∷ storm_steps words (done + 1) (most - (done + 1))
steps_left {O} words most done lt =
    let n : most - done ≡ suc (most - (done + 1)) = omega (arith, lt) in
    let next : suc done ≡ done + 1 = omega arith in
    let first : Task O = Storms (words done) in
    ap (storm_steps words done) n ∙ ap (λ k. first ∷ storm_steps words k (most - (done + 1))) next
