-- What one more row makes of mail, copies and values.
use Rattle.std.proofs.Common.{◌≡◌, ℕ, List, [], ◌∷◌, ◌++◌, cond, refl, sym, ◌∙◌, ap, append_assoc, append-nil, eqb}
use Rattle.std.proofs.lemmas.List.Sums.{fold-append}
use Rattle.sc_actor.specs.declared.rows.Row.{Row}
use Rattle.sc_actor.specs.declared.actors.Seat.{Seat}
use Rattle.sc_actor.specs.Definitions.{mails, copies, counts_after, Table, input_of, acted, replay, value}

module _ {M O : Type 0} where
  -- the mail of more rows comes behind
  pub mails-append : (xs ys : List (Row M O)) → mails (xs ++ ys) ≡ mails xs ++ mails ys
  mails-append [] ys = refl
  mails-append (x ∷ xs) ys = ap (λ t. x.sent ++ t) (mails-append xs ys) ∙ sym (append_assoc x.sent (mails xs) (mails ys))

  -- the mail of one row more
  pub mails-snoc : (rows : List (Row M O)) (row : Row M O) → mails (rows ++ row ∷ []) ≡ mails rows ++ row.sent
  mails-snoc rows row = mails-append rows (row ∷ []) ∙ ap (λ t. mails rows ++ t) (append-nil row.sent)

  -- the copies under way after one more row
  pub copies-snoc : (rows : List (Row M O)) (row : Row M O) → copies (rows ++ row ∷ []) ≡ counts_after (copies rows) row
  copies-snoc rows row = fold-append counts_after [] rows (row ∷ [])

module _ {A M O : Type 0} (table : Table A M O) (who : ℕ) where
  replay-snoc : (actor : A) (sent : List M) (rows : List (Row M O)) (row : Row M O) →
      replay table who actor sent (rows ++ row ∷ []) ≡ cond (eqb row.who who) (acted table (replay table who actor sent rows) (input_of (sent ++ mails rows) row.event)).0 (replay table who actor sent rows)
  replay-snoc actor sent [] row = rw append-nil refl
  replay-snoc actor sent (r ∷ rows) row =
      let next = cond (eqb r.who who) (acted table actor (input_of sent r.event)).0 actor in
      rw append_assoc at (replay-snoc next (sent ++ r.sent) rows row)

-- what an actor is after one more row
pub value-snoc : {A M O : Type 0} (table : Table A M O) (seat : Seat A) (rows : List (Row M O)) (row : Row M O) →
    value table seat (rows ++ row ∷ []) ≡ cond (eqb row.who seat.who) (acted table (value table seat rows) (input_of (mails rows) row.event)).0 (value table seat rows)
value-snoc table seat rows row = replay-snoc table seat.who seat.actor [] rows row
