-- What one more row of deeds makes of mail, actors and starts.
use Rattle.std.proofs.Common.{◌≡◌, ℕ, zero, suc, ◌+◌, ◌-◌, ◌<◌, List, [], ◌∷◌, ◌++◌, length, Bool, true, false, cond, eqb, ◌&&◌, ◌||◌, refl, sym, ◌∙◌, ap, subst, arith, append_assoc, append-nil, Some, get_or}
use Rattle.std.specs.Prelude.{slice_get, slice_set, slice_index}
use Rattle.std.proofs.lemmas.Bool.{ne_eqb}
use Rattle.std.proofs.lemmas.List.Folds.{list_any-append}
use Rattle.std.proofs.lemmas.List.Sums.{fold-append}
use Rattle.sc_actor.specs.declared.actors.Seat.{Seat}
use Rattle.sc_actor.specs.declared.rows.Event.TheVariants.{Again}
use Rattle.sc_actor.specs.declared.rows.Input.{Input}
use Rattle.sc_actor.specs.declared.rows.Input.TheVariants as an
use Rattle.sc_actor.specs.declared.rows.Row.{Row}
use Rattle.sc_actor.specs.Definitions.{Table, mails, copies, counts_after, input_of, acted, value, network, has_crashed, is_crash, has_started, is_go}
use Rattle.sc_actor.proofs.Lemmas.{mails-snoc, value-snoc, copies-snoc, counted}
use Rattle.sc_law_carried.specs.deeds.DeedDefinitions.{Came, Deed, sent_in, input_got, actor_after, is_start, has_begun, event_of, deed_row, with_deed, rows_of}

-- the rows of one deed more
pub rows_of-snoc : {M O : Type 0} (deeds : List (Deed M O)) (deed : Deed M O) → rows_of (deeds ++ deed ∷ []) ≡ with_deed (rows_of deeds) deed
rows_of-snoc deeds deed = fold-append with_deed [] deeds (deed ∷ [])

-- the mail of one deed more
pub sent_in-snoc : {M O : Type 0} (deeds : List (Deed M O)) (deed : Deed M O) → sent_in (deeds ++ deed ∷ []) ≡ sent_in deeds ++ deed.sent
sent_in-snoc [] deed = append-nil deed.sent
sent_in-snoc (d ∷ deeds) deed = ap (λ t. d.sent ++ t) (sent_in-snoc deeds deed) ∙ sym (append_assoc d.sent (sent_in deeds) deed.sent)

-- an actor after one deed more
pub actor_after-snoc : {A M O : Type 0} (table : Table A M O) (seat : Seat A) (deeds : List (Deed M O)) (deed : Deed M O) →
    actor_after table seat (deeds ++ deed ∷ []) ≡ cond (eqb deed.who seat.who) (table (actor_after table seat deeds) (input_got deed.input)).0 (actor_after table seat deeds)
actor_after-snoc table seat deeds deed = fold-append (λ actor d. cond (eqb d.who seat.who) (table actor (input_got d.input)).0 actor) seat.actor deeds (deed ∷ [])

nothing_more : (b : Bool) → (b || (false || false)) ≡ b
nothing_more true = refl
nothing_more false = refl

and_false : (a b : Bool) → (b || ((a && false) || false)) ≡ b
and_false true b = nothing_more b
and_false false b = nothing_more b

-- the parts that a deed's rows are made of: what rows leave is what deeds leave
pub record Follows {A M O : Type 0} (table : Table A M O) (deeds : List (Deed M O)) (rows : List (Row M O)) : Type 0 where
  pub mails_are : mails rows ≡ sent_in deeds
  pub values_are : (seat : Seat A) → value table seat rows ≡ actor_after table seat deeds
  pub alive : (who : ℕ) → has_crashed rows who ≡ false
  pub started : (who : ℕ) → has_started rows who ≡ has_begun deeds who

module _ {A M O : Type 0} (table : Table A M O) where
  pub none_follow : Follows table [] []
  none_follow = record { mails_are = refl; values_are = λ seat. refl; alive = λ who. refl; started = λ who. refl }

  module _ (deeds : List (Deed M O)) (rows : List (Row M O)) (follows : Follows table deeds rows) where
    -- a repeat changes nothing of this
    pub repeat_follows : (number : ℕ) → Follows table deeds (rows ++ network (Again number) ∷ [])
    repeat_follows number = record {
      mails_are = mails-snoc rows (network (Again number)) ∙ (append-nil (mails rows) ∙ follows.mails_are);
      values_are = λ seat. value-snoc table seat rows (network (Again number)) ∙ (same (eqb 0 seat.who) (value table seat rows) ∙ follows.values_are seat);
      alive = λ who. list_any-append (λ (row : Row M O). eqb row.who who && is_crash row.event) rows (network (Again number) ∷ []) ∙ (and_false (eqb 0 who) (has_crashed rows who) ∙ follows.alive who);
      started = λ who. list_any-append (λ (row : Row M O). eqb row.who who && is_go row.event) rows (network (Again number) ∷ []) ∙ (and_false (eqb 0 who) (has_started rows who) ∙ follows.started who);
    }
      where
        same : (b : Bool) (actor : A) → cond b actor actor ≡ actor
        same true actor = refl
        same false actor = refl

    -- one deed more, whose event gives its input
    pub deed_follows : (deed : Deed M O) → input_of (mails rows) (event_of deed.input) ≡ Some (input_got deed.input) → Follows table (deeds ++ deed ∷ []) (rows ++ deed_row deed ∷ [])
    deed_follows deed input = record {
      mails_are = mails-snoc rows (deed_row deed) ∙ (ap (λ t. t ++ deed.sent) follows.mails_are ∙ sym (sent_in-snoc deeds deed));
      values_are = λ seat. value-snoc table seat rows (deed_row deed)
          ∙ (ap (λ i. cond (eqb deed.who seat.who) (acted table (value table seat rows) i).0 (value table seat rows)) input
          ∙ (ap (λ actor. cond (eqb deed.who seat.who) (table actor (input_got deed.input)).0 actor) (follows.values_are seat)
          ∙ sym (actor_after-snoc table seat deeds deed)));
      alive = λ who. list_any-append (λ (row : Row M O). eqb row.who who && is_crash row.event) rows (deed_row deed ∷ [])
          ∙ (ap (λ b. has_crashed rows who || ((eqb deed.who who && b) || false)) (no_crash deed.input) ∙ (and_false (eqb deed.who who) (has_crashed rows who) ∙ follows.alive who));
      started = λ who. list_any-append (λ (row : Row M O). eqb row.who who && is_go row.event) rows (deed_row deed ∷ [])
          ∙ (ap (λ b. has_started rows who || ((eqb deed.who who && b) || false)) (go_is deed.input)
          ∙ (ap (λ b. b || ((eqb deed.who who && is_start deed.input) || false)) (follows.started who)
          ∙ sym (list_any-append (λ (d : Deed M O). eqb d.who who && is_start d.input) deeds (deed ∷ []))));
    }
      where
        no_crash : (input : Input (Came M) O) → is_crash {O = O} (event_of input) ≡ false
        no_crash (an.Got came) = refl
        no_crash an.Tick = refl
        no_crash an.Go = refl
        no_crash (an.Told order) = refl

        go_is : (input : Input (Came M) O) → is_go {O = O} (event_of input) ≡ is_start input
        go_is (an.Got came) = refl
        go_is an.Tick = refl
        go_is an.Go = refl
        go_is (an.Told order) = refl

-- ---- copies

set_there : (counts : List ℕ) (place n : ℕ) → place < length counts → get_or (slice_set counts place n ++ []) place 0 ≡ n
set_there [] place n low = absurd (omega (arith, low))
set_there (c ∷ counts) zero n low = refl
set_there (c ∷ counts) (suc place) n low = set_there counts place n (omega (arith, low))

within : {X : Type 0} (xs : List X) (place : ℕ) (x : X) → slice_get xs place ≡ Some x → place < length xs
within [] place x e = cc
within (y ∷ xs) zero x e = omega arith
within (y ∷ xs) (suc place) x e = let more = within xs place x e in omega (arith, more)

-- a mail that was sent has a copy under way behind the repeat that its delivery needs
pub has_copy : {M O : Type 0} (rows : List (Row M O)) (place : ℕ) (mail : M) → slice_get (mails rows) place ≡ Some mail →
    0 < slice_index (copies (rows ++ cond (eqb (slice_index (copies rows) (suc place - 1)) 0) (network (Again (suc place)) ∷ []) [])) (suc place - 1)
has_copy {M} {O} rows place mail at =
    let minus : suc place - 1 ≡ place = omega arith in
    rw minus (by (get_or (copies rows) place 0) refl)
  where
    by : (count : ℕ) → get_or (copies rows) place 0 ≡ count → 0 < slice_index (copies (rows ++ cond (eqb (slice_index (copies rows) place) 0) (network {M = M} {O = O} (Again (suc place)) ∷ []) [])) place
    by zero e =
        let row : Row M O = network (Again (suc place)) in
        let one : copies (rows ++ row ∷ []) ≡ counts_after (copies rows) row = copies-snoc rows row in
        let low : place < length (copies rows) = let low_mail = within (mails rows) place mail at in let same = counted rows in omega (arith, low_mail, same) in
        let there = set_there (copies rows) place (get_or (copies rows) place 0 + 1) low in
        let taken : cond (eqb (slice_index (copies rows) place) 0) (row ∷ []) [] ≡ row ∷ [] = ap (λ n. cond (eqb n 0) (row ∷ []) []) e in
        let count : get_or (copies (rows ++ row ∷ [])) place 0 ≡ get_or (copies rows) place 0 + 1 = ap (λ cs. get_or cs place 0) one ∙ there in
        subst (λ more. 0 < slice_index (copies (rows ++ more)) place) (sym taken) (omega (arith, count))
    by (suc n) e =
        let row : Row M O = network (Again (suc place)) in
        let taken : cond (eqb (slice_index (copies rows) place) 0) (row ∷ []) [] ≡ [] = ap (λ m. cond (eqb m 0) (row ∷ []) []) e ∙ ap (λ b. cond b (row ∷ []) []) (ne_eqb (suc n) 0 (λ z. absurd (omega (arith, z)))) in
        let same : get_or (copies (rows ++ [])) place 0 ≡ suc n = ap (λ rs. get_or (copies rs) place 0) (append-nil rows) ∙ e in
        subst (λ more. 0 < slice_index (copies (rows ++ more)) place) (sym taken) (omega (arith, same))
