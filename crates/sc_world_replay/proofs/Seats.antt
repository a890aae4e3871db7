-- Actors by number, and what one more row makes of them.
use Rattle.std.proofs.Common.{◌≡◌, ℕ, zero, suc, List, [], ◌∷◌, ◌++◌, Bool, true, false, not, cond, eqb, find, refl, sym, ◌∙◌, ap, subst, set, Option, None, Some}
use Rattle.std.specs.Prelude.{slice_get}
use Rattle.std.specs.List.{list_any}
use Rattle.std.specs.Option.{option_map}
use Rattle.std.proofs.lemmas.Bool.{false≢true, eqb-true, eq-eqb, ne_eqb, eqb-false, and_parts, or_parts, not-true}
use Rattle.std.proofs.lemmas.Option.{same_Some}
use Rattle.sc_actor.specs.declared.rows.Row.{Row}
use Rattle.sc_actor.specs.declared.actors.Seat.{Seat}
use Rattle.sc_actor.specs.Mail.{mails}
use Rattle.sc_actor.specs.Replay.{Table, input_of, acted, value, values}
use Rattle.sc_actor.specs.System.{are_apart, numbers_of}
use Rattle.sc_actor.proofs.ReplayLemmas.{value-snoc}
use Rattle.sc_world_replay.specs.Stages.{place_of}

-- a seat that stands at the place, is the first with its number, and has that number
pub record Found {A : Type 0} (seats : List (Seat A)) (who place : ℕ) (seat : Seat A) : Type 0 where
  pub at : slice_get seats place ≡ Some seat
  pub found : find (λ s. eqb s.who who) seats ≡ Some seat
  pub number : seat.who ≡ who

place_of-cons : {A : Type 0} (s : Seat A) (ss : List (Seat A)) (who : ℕ) → eqb s.who who ≡ false → place_of (s ∷ ss) who ≡ option_map suc (place_of ss who)
place_of-cons s ss who e = rw e refl

find-cons : {A : Type 0} (s : Seat A) (ss : List (Seat A)) (who : ℕ) → eqb s.who who ≡ false → find (λ x. eqb x.who who) (s ∷ ss) ≡ find (λ x. eqb x.who who) ss
find-cons s ss who e = rw e refl

-- what there is to show of a list and one number
abbrev Finds : {A : Type 0} → List (Seat A) → ℕ → Type 0
Finds {A} seats who = (place : ℕ) → place_of seats who ≡ Some place → (seat : Seat A) × Found seats who place seat

finds_later : {A : Type 0} (s : Seat A) (ss : List (Seat A)) (who place : ℕ) → Finds ss who → eqb s.who who ≡ false → (o : Option ℕ) → place_of ss who ≡ o → option_map suc o ≡ Some place → (seat : Seat A) × Found (s ∷ ss) who place seat
finds_later s ss who place more t None e h = cc
finds_later s ss who zero more t (Some k) e h = cc
finds_later s ss who (suc place) more t (Some k) e h =
    let same : k ≡ place = cc in
    let r = more place (e ∙ ap Some same) in
    (r.0, record { at = r.1.at; found = find-cons s ss who t ∙ r.1.found; number = r.1.number })

finds_by : {A : Type 0} (s : Seat A) (ss : List (Seat A)) (who : ℕ) → Finds ss who → (b : Bool) → eqb s.who who ≡ b → Finds (s ∷ ss) who
finds_by s ss who more true t zero e = (s, record { at = refl; found = rw t refl; number = eqb-true s.who who t })
finds_by s ss who more true t (suc place) e = absurd (let h : Some 0 ≡ Some (suc place) = rw t at e in cc)
finds_by s ss who more false t place e = finds_later s ss who place more t (place_of ss who) refl (sym (place_of-cons s ss who t) ∙ e)

-- the place of a number is that of its first seat
pub found_at : {A : Type 0} (seats : List (Seat A)) (who : ℕ) → Finds seats who
found_at [] who place e = cc
found_at (s ∷ ss) who place e = finds_by s ss who (found_at ss who) (eqb s.who who) refl place e

-- an actor has a place
some_by : {A : Type 0} (s : Seat A) (ss : List (Seat A)) (who : ℕ) → (list_any (λ a. eqb a who) (numbers_of ss) ≡ true → (place : ℕ) × (place_of ss who ≡ Some place)) → (b : Bool) → eqb s.who who ≡ b → list_any (λ a. eqb a who) (numbers_of (s ∷ ss)) ≡ true → (place : ℕ) × (place_of (s ∷ ss) who ≡ Some place)
some_by s ss who more true t e = (0, rw t refl)
some_by s ss who more false t e =
    let h : list_any (λ a. eqb a who) (numbers_of ss) ≡ true = rw t at e in
    let r = more h in
    (suc r.0, place_of-cons s ss who t ∙ ap (option_map suc) r.1)

-- an actor that there is has a place
pub has_place : {A : Type 0} (seats : List (Seat A)) (who : ℕ) → list_any (λ a. eqb a who) (numbers_of seats) ≡ true → (place : ℕ) × (place_of seats who ≡ Some place)
has_place [] who e = absurd (false≢true e)
has_place (s ∷ ss) who e = some_by s ss who (has_place ss who) (eqb s.who who) refl e

list_any-at : {X : Type 0} (p : X → Bool) (xs : List X) (i : ℕ) (x : X) → list_any p xs ≡ false → slice_get xs i ≡ Some x → p x ≡ false
list_any-at p [] i x e h = cc
list_any-at p (y ∷ xs) zero x e h =
    let same : y ≡ x = cc in
    subst (λ z. p z ≡ false) same (or_parts (p y) (list_any p xs) e).0
list_any-at p (y ∷ xs) (suc i) x e h = list_any-at p xs i x (or_parts (p y) (list_any p xs) e).1 h

module _ {A M O : Type 0} (table : Table A M O) where
  -- rows move no actor to another place
  pub place_of-values : (seats : List (Seat A)) (rows : List (Row M O)) (who : ℕ) → place_of (values table seats rows) who ≡ place_of seats who
  place_of-values [] rows who = refl
  place_of-values (s ∷ ss) rows who = ap (λ o. cond (eqb s.who who) (Some 0) (option_map suc o)) (place_of-values ss rows who)

  -- rows change no number
  pub numbers_of-values : (seats : List (Seat A)) (rows : List (Row M O)) → numbers_of (values table seats rows) ≡ numbers_of seats
  numbers_of-values [] rows = refl
  numbers_of-values (s ∷ ss) rows = ap (λ xs. s.who ∷ xs) (numbers_of-values ss rows)

  -- the seat at a place, after rows
  pub slice_get-values : (seats : List (Seat A)) (rows : List (Row M O)) (i : ℕ) (seat : Seat A) → slice_get seats i ≡ Some seat → slice_get (values table seats rows) i ≡ Some (record { who = seat.who; actor = value table seat rows })
  slice_get-values [] rows i seat e = cc
  slice_get-values (s ∷ ss) rows zero seat e = let same : s ≡ seat = cc in rw same refl
  slice_get-values (s ∷ ss) rows (suc i) seat e = slice_get-values ss rows i seat e

  -- a row of another actor leaves an actor as it is
  value-other : (seat : Seat A) (rows : List (Row M O)) (row : Row M O) → eqb row.who seat.who ≡ false → value table seat (rows ++ row ∷ []) ≡ value table seat rows
  value-other seat rows row e = value-snoc table seat rows row ∙ rw e refl

  value-own : (seat : Seat A) (rows : List (Row M O)) (row : Row M O) → eqb row.who seat.who ≡ true → value table seat (rows ++ row ∷ []) ≡ (acted table (value table seat rows) (input_of (mails rows) row.event)).0
  value-own seat rows row e = value-snoc table seat rows row ∙ rw e refl

  eqb-flip : (a b : ℕ) → eqb a b ≡ false → eqb b a ≡ false
  eqb-flip a b e = ne_eqb b a (λ h. eqb-false a b e (sym h))

  values-others : (seats : List (Seat A)) (rows : List (Row M O)) (row : Row M O) → list_any (λ other. eqb other.who row.who) seats ≡ false → values table seats (rows ++ row ∷ []) ≡ values table seats rows
  values-others [] rows row e = refl
  values-others (s ∷ ss) rows row e =
      let parts = or_parts (eqb s.who row.who) (list_any (λ other. eqb other.who row.who) ss) e in
      let head = value-other s rows row (eqb-flip s.who row.who parts.0) in
      let rest = values-others ss rows row parts.1 in
      rw (head, rest) refl

  -- one more row changes its actor's seat
  pub values-snoc : (seats : List (Seat A)) (rows : List (Row M O)) (row : Row M O) (i : ℕ) (seat : Seat A) → are_apart seats ≡ true → slice_get seats i ≡ Some seat → row.who ≡ seat.who →
      values table seats (rows ++ row ∷ []) ≡ set (values table seats rows) i (record { who = seat.who; actor = (acted table (value table seat rows) (input_of (mails rows) row.event)).0 })
  values-snoc [] rows row i seat apart at own = cc
  values-snoc (s ∷ ss) rows row zero seat apart at own =
      let same : s ≡ seat = cc in
      let parts = and_parts (not (list_any (λ other. eqb other.who s.who) ss)) (are_apart ss) apart in
      let number : row.who ≡ s.who = own ∙ ap (λ x. x.who) (sym same) in
      let others : list_any (λ other. eqb other.who row.who) ss ≡ false = rw number (not-true (list_any (λ other. eqb other.who s.who) ss) parts.0) in
      let head = value-own s rows row (eq-eqb row.who s.who number) in
      let rest = values-others ss rows row others in
      rw (sym same, head, rest) refl
  values-snoc (s ∷ ss) rows row (suc i) seat apart at own =
      let parts = and_parts (not (list_any (λ other. eqb other.who s.who) ss)) (are_apart ss) apart in
      let differ : eqb seat.who s.who ≡ false = list_any-at (λ other. eqb other.who s.who) ss i seat (not-true (list_any (λ other. eqb other.who s.who) ss) parts.0) at in
      let head = value-other s rows row (rw own differ) in
      let rest = values-snoc ss rows row i seat parts.1 at own in
      rw (head, rest) refl

-- the seat at the place of a number has the number
pub place_number : {A : Type 0} (seats : List (Seat A)) (who place : ℕ) (seat : Seat A) → place_of seats who ≡ Some place → slice_get seats place ≡ Some seat → seat.who ≡ who
place_number seats who place seat placed is =
    let found = found_at seats who place placed in
    let same : found.0 ≡ seat = same_Some found.0 seat (sym found.1.at ∙ is) in
    ap (λ s. s.who) (sym same) ∙ found.1.number

-- a seat of the same number in its place changes no number
pub numbers_of-set : {A : Type 0} (seats : List (Seat A)) (place : ℕ) (old new : Seat A) → slice_get seats place ≡ Some old → new.who ≡ old.who → numbers_of (set seats place new) ≡ numbers_of seats
numbers_of-set [] place old new at same = refl
numbers_of-set (s ∷ ss) zero old new at same = let here : s ≡ old = cc in ap (λ n. n ∷ numbers_of ss) (same ∙ ap (λ x. x.who) (sym here))
numbers_of-set (s ∷ ss) (suc place) old new at same = ap (λ ns. s.who ∷ ns) (numbers_of-set ss place old new at same)
