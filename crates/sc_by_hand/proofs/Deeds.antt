-- Deliveries one after another, and what they make.
use Rattle.std.proofs.Common.{◌≡◌, ℕ, zero, suc, ◌+◌, ◌<◌, ◌≤◌, List, [], ◌∷◌, ◌++◌, length, take, Some, inl, inr, refl, sym, ◌∙◌, ap, subst, append_assoc, arith}
use Rattle.std.specs.Prelude.{◌==◌, fold, slice_get}
use Rattle.std.proofs.Math.Seq.{take-suc}
use Rattle.std.proofs.lemmas.Bool.{cases_Bool, cond-true, cond-false}
use Rattle.std.proofs.lemmas.List.{append-nil, length-take-le, take-append-le}
use Rattle.std.proofs.lemmas.List.Sums.{fold-append}
use Rattle.std.proofs.lemmas.Grind.{flat_map-append}
use Rattle.std.proofs.lemmas.Option.{get_or_from_slice_get}
use Rattle.sc_base.specs.Limits.{client_actor}
use Rattle.sc_actor.specs.Mail.{mails}
use Rattle.sc_actor.specs.Replay.{Table}
use Rattle.sc_actor.specs.declared.rows.Event.TheVariants.{Go}
use Rattle.sc_actor.specs.declared.rows.Row.{Row}
use Rattle.sc_by_hand.specs.declared.hand.Hand.{Hand}
use Rattle.sc_by_hand.specs.Deeds.{Deed, after_client, deeds_of, deliveries, delivery, after_deed, after_first, after_second}

-- ---- lists

-- there is one at each place of a list
some_at : {X : Type 0} (xs : List X) (i : ℕ) → i < length xs → (x : X) × (slice_get xs i ≡ Some x)
some_at [] i lt = absurd (omega (arith, lt))
some_at (x ∷ xs) zero lt = (x, refl)
some_at (x ∷ xs) (suc i) lt = some_at xs i (omega (arith, lt))

-- the first of a list with one more, of a list that may have grown
take_one : {X : Type 0} (xs more : List X) (i : ℕ) (x : X) → i < length xs → slice_get xs i ≡ Some x → take (i + 1) (xs ++ more) ≡ take i xs ++ x ∷ []
take_one xs more i x lt at =
    let up : i + 1 ≡ suc i = omega arith in
    let within : suc i ≤ length xs = lt in
    ap (λ n. take n (xs ++ more)) up
    ∙ take-append-le (suc i) xs more within
    ∙ take-suc xs i x lt
    ∙ ap (λ y. take i xs ++ y ∷ []) (get_or_from_slice_get xs i x x at)

-- a list with more
abbrev HasMore : {X : Type 0} → List X → List X → Type 0
HasMore {X} old new = (more : List X) × (new ≡ old ++ more)

-- ---- deliveries

module _ {M O : Type 0} (receiver : M → ℕ) where
  -- the deliveries of one mail more
  deliveries_push : (before : ℕ) (sent : List M) (mail : M) (number : ℕ) → number ≡ before + length sent + 1
      → deliveries {O = O} receiver before (sent ++ mail ∷ []) ≡ deliveries receiver before sent ++ delivery receiver number mail
  deliveries_push before [] mail number e =
      let s : before + 1 ≡ number = omega (arith, e) in
      append-nil (delivery receiver (before + 1) mail) ∙ ap (λ n. delivery receiver n mail) s
  deliveries_push before (next ∷ sent) mail number e =
      let s : number ≡ before + 1 + length sent + 1 = omega (arith, e) in
      ap (λ list. delivery receiver (before + 1) next ++ list) (deliveries_push (before + 1) sent mail number s)
      ∙ sym (append_assoc (delivery receiver (before + 1) next) (deliveries receiver (before + 1) sent) (delivery receiver number mail))

  -- the deliveries of the first mails with one more, where there may be more mail
  deliveries_one : (sent more : List M) (i : ℕ) (mail : M) → i < length sent → slice_get sent i ≡ Some mail
      → deliveries {O = O} receiver 0 (take (i + 1) (sent ++ more)) ≡ deliveries receiver 0 (take i sent) ++ delivery receiver (i + 1) mail
  deliveries_one sent more i mail lt at =
      let count : length (take i sent) ≡ i = length-take-le i sent (omega (arith, lt)) in
      let number : i + 1 ≡ 0 + length (take i sent) + 1 = omega (arith, count) in
      ap (deliveries receiver 0) (take_one sent more i mail lt at)
      ∙ deliveries_push 0 (take i sent) mail (i + 1) number

-- ---- what deeds make

one_more : {M O : Type 0} (rows : List (Row M O)) (row : Row M O) → HasMore (mails rows) (mails (rows ++ row ∷ []))
one_more rows row = (mails (row ∷ []), flat_map-append (λ r. r.sent) rows (row ∷ []))

-- a hand whose wire is the mail of its rows
abbrev pub Carried : {A M O : Type 0} → Hand A M O → Type 0
Carried hand = hand.log.wire ≡ mails hand.log.rows

module _ {A M O : Type 0} (table : Table A M O) where
  -- what a property of each actor's deed says of any deed
  deed_case : (P : Hand A M O → Type 0) (hand : Hand A M O) (deed : Deed O) → P (after_first table hand deed) → P (after_second table hand deed) → P (after_client table hand deed) → P (after_deed table hand deed)
  deed_case P hand deed first second client = elim (cases_Bool (deed.0 == 1)) [
    | inl t ↦ subst P (sym (cond-true (deed.0 == 1) (after_first table hand deed) _ t)) first
    | inr f ↦ subst P (sym (cond-false (deed.0 == 1) (after_first table hand deed) _ f)) (elim (cases_Bool (deed.0 == 2)) [
      | inl t ↦ subst P (sym (cond-true (deed.0 == 2) (after_second table hand deed) _ t)) second
      | inr u ↦ subst P (sym (cond-false (deed.0 == 2) (after_second table hand deed) _ u)) client
    ])
  ]

  carries : (hand : Hand A M O) (deed : Deed O) → Carried (after_deed table hand deed)
  carries hand deed = deed_case Carried hand deed refl refl refl

  -- after a deed the wire has all mail of the rows, and more
  sends : (hand : Hand A M O) (deed : Deed O) → HasMore (mails hand.log.rows) (after_deed table hand deed).log.wire
  sends hand deed =
      deed_case (λ h. HasMore (mails hand.log.rows) h.log.wire) hand deed (one_more hand.log.rows _) (one_more hand.log.rows _) (one_more hand.log.rows _)

  -- and after deeds
  all_send : (hand : Hand A M O) (deeds : List (Deed O)) → Carried hand → HasMore hand.log.wire (fold (after_deed table) hand deeds).log.wire
  all_send hand [] carried = ([], sym (append-nil hand.log.wire))
  all_send hand (deed ∷ deeds) carried =
      let one = sends hand deed in
      let rest = all_send (after_deed table hand deed) deeds (carries hand deed) in
      (one.0 ++ rest.0, rest.1 ∙ ap (λ wire. wire ++ rest.0) (one.1 ∙ ap (λ wire. wire ++ one.0) (sym carried)) ∙ append_assoc hand.log.wire one.0 rest.0)

  -- ---- the loop

  -- a hand whose client has begun
  abbrev begun : Hand A M O → Hand A M O
  begun old = after_deed table old (client_actor 1, Go)

  -- the deeds so far, with the delivery at one more place
  pub delivered : (receiver : M → ℕ) (old hand next : Hand A M O) (i : ℕ) → Carried hand → i < length hand.log.wire
      → hand ≡ fold (after_deed table) old (deeds_of receiver i hand.log.wire)
      → ((mail : M) → slice_get hand.log.wire i ≡ Some mail → next ≡ fold (after_deed table) hand (delivery receiver (i + 1) mail))
      → next ≡ fold (after_deed table) old (deeds_of receiver (i + 1) next.log.wire)
  delivered receiver old hand next i carried lt so_far served =
      let at = some_at hand.log.wire i lt in
      let done : next ≡ fold (after_deed table) hand (delivery receiver (i + 1) at.0) = served at.0 at.1 in
      let more = all_send hand (delivery receiver (i + 1) at.0) carried in
      let wire : next.log.wire ≡ hand.log.wire ++ more.0 = ap (λ h. h.log.wire) done ∙ more.1 in
      done
      ∙ ap (λ h. fold (after_deed table) h (delivery receiver (i + 1) at.0)) so_far
      ∙ sym (fold-append (after_deed table) (begun old) (deliveries receiver 0 (take i hand.log.wire)) (delivery receiver (i + 1) at.0))
      ∙ ap (fold (after_deed table) (begun old)) (sym (deliveries_one receiver hand.log.wire more.0 i at.0 lt at.1))
      ∙ ap (λ sent. fold (after_deed table) old (deeds_of receiver (i + 1) sent)) (sym wire)
