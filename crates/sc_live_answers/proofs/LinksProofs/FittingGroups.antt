-- Two groups one of which begins where the other ends fit together, where neither holds a key of the other's arc.
use Rattle.std.proofs.Common.{◌≡◌, ℕ, ◌+◌, ◌^◌, ◌<◌, ◌≤◌, Bool, true, false, true≢false, List, [], ◌∷◌, Option, Some, None, inl, inr, refl, sym, ◌∙◌, ap, arith}
use Rattle.std.specs.Prelude.{length, ◌&&◌, ◌||◌, ◌==◌, not, nat_le, nat_lt, cond}
use Rattle.std.specs.FinMap.{empty, entries}
use Rattle.std.proofs.lemmas.Bool.{and_from, cases_Bool, cond-true, cond-false, eq-eqb, le-leb, lt-ltb, ltb-true, ltb-false, or_parts}
use Rattle.sc_base.specs.Definitions.{Arc, before, end_of, holds, offset, pos_of, is_member, united}
use Rattle.sc_words.specs.commands.CommandDefinitions.{is_alone}
use Rattle.sc_node_table.specs.Values.{Body, Offer, Core, Route, No, Apart, TooMany}
use Rattle.sc_words.specs.declared.commands.bodies.Body.TheVariants as At
use Rattle.sc_words.specs.ideal.IdealDefinitions.{holds_key, part_of, with_pairs}
use Rattle.sc_group_table.specs.machine.MachineDefinitions.{Group, limit_refused, locked_in, migrate_refused, repart_refused, can_cut, can_join, can_merge, can_migrate, can_repart, frozen_of, has_key_of, may_merge, taken, body_no, no_of, offer_no, place_no, size_no, vote_of}
use Rattle.sc_law_entries.proofs.RingProofs.RingLemmas.{InsideOf, inside_part, no_shared, outside_next, IsOnRing, part_room as before_room}
use Rattle.sc_live_answers.proofs.VotesProofs.OpenedTransactions.{opening_refused}

-- two groups, where one ends the other begins, and each has what lies on its arc
pub record Meets (one its : Group) : Type 0 where
  pub on : IsOnRing one.core.arc
  pub its_on : IsOnRing its.core.arc
  pub meet : its.core.arc.lo ≡ end_of one.core.arc
  pub room : one.core.arc.len + its.core.arc.len ≤ 2 ^ 32
  pub inside : InsideOf one.core.arc one.pairs
  pub its_inside : InsideOf its.core.arc its.pairs

-- the one may begin this transaction, and the other agrees to what it offers
pub record Agrees (one its : Group) (body : Body) : Type 0 where
  pub may : opening_refused one.core body ≡ None
  pub offer : Offer
  pub yes : vote_of its.core offer ≡ None
  pub arc : offer.arc ≡ one.core.arc
  pub body_is : offer.body ≡ body

-- nothing is refused: not for the first reason, and for no other
pub none_of : {A : Type 0} → (b : Bool) (why : A) (rest : Option A) → cond b (Some why) rest ≡ None → (b ≡ false) × (rest ≡ None)
none_of true why rest e = cc
none_of false why rest e = (refl, e)

-- it is as it should be, and nothing else is refused
some_of : {A : Type 0} → (b : Bool) (rest : Option A) (why : A) → cond b rest (Some why) ≡ None → rest ≡ None
some_of true rest why e = e
some_of false rest why e = cc

no_why : (gone : Option Route) (tx : Option _) (why : Option No) → no_of gone tx why ≡ None → why ≡ None
no_why (Some into) tx why e = cc
no_why None (Some tx) why e = cc
no_why None None why e = e

few_of : (n : ℕ) → size_no n ≡ None → nat_le n 9 ≡ true
few_of n e =
    let least : nat_lt 9 n ≡ false = (none_of (nat_lt 9 n) (TooMany n) None e).0 in
    let most = ltb-false 9 n least in
    le-leb n 9 (omega (arith, most))

two_of : (node : ℕ) (xs : List ℕ) → is_member xs node ≡ true → (length xs == 1) ≡ false → nat_le 2 (length xs) ≡ true
two_of node [] m e = absurd (true≢false (sym m))
two_of node (x ∷ []) m e = absurd (true≢false e)
two_of node (x ∷ (y ∷ zs)) m e = le-leb 2 (length (x ∷ (y ∷ zs))) (let n = length zs in omega arith)

not_false : (b : Bool) → not b ≡ false → b ≡ true
not_false true e = refl
not_false false e = absurd (true≢false e)

place_cut : (core : Core) (offer : Offer) (at : ℕ) → place_no core offer at ≡ None → holds offer.arc at ≡ false → can_cut core.arc at ≡ true
place_cut core offer at e out =
    let rest = cond ((at == core.arc.lo) || not (holds core.arc at)) (Some Apart) None in
    let parts = or_parts (at == core.arc.lo) (not (holds core.arc at)) (none_of ((at == core.arc.lo) || not (holds core.arc at)) Apart None (sym (cond-false (holds offer.arc at) None rest out) ∙ e)).0 in
    and_from (holds core.arc at) (not (at == core.arc.lo)) (not_false (holds core.arc at) parts.1) (ap not parts.0)

cut_near : (arc : Arc) (at : ℕ) → can_cut arc at ≡ true → offset arc at < arc.len
cut_near arc at e = ltb-true (offset arc at) arc.len (and_first (holds arc at) (not (at == arc.lo)) e)
  where
    and_first : (x y : Bool) → (x && y) ≡ true → x ≡ true
    and_first true y e = refl
    and_first false y e = absurd (true≢false (sym e))

less_too : (a b c : ℕ) → a < b → b < c → a < c
less_too a b c e f = omega (arith, e, f)

module _ (one its : Group) (m : Meets one its) where
  outside : (key : List ℕ) → holds_key its.core.arc key ≡ true → holds_key one.core.arc key ≡ false
  outside key held = elim (cases_Bool (holds_key one.core.arc key)) [
    | inl t ↦ absurd (true≢false (sym held ∙ outside_next one.core.arc its.core.arc m.on m.its_on m.meet m.room key t))
    | inr f ↦ f
  ]

  -- they can be merged, where they have at most nine members together
  pub merges : length (united one.core.members its.core.members) ≤ 9 → may_merge one (frozen_of its) ≡ true
  merges few =
      and_from (can_merge one.core (frozen_of its)) (not (has_key_of one.pairs (entries its.pairs)))
      (and_from (can_join one.core.arc its.core.arc) (nat_le (length (united one.core.members its.core.members)) 9)
      (and_from (its.core.arc.lo == end_of one.core.arc) (nat_le (one.core.arc.len + its.core.arc.len) (2 ^ 32)) (eq-eqb its.core.arc.lo (end_of one.core.arc) m.meet) (le-leb (one.core.arc.len + its.core.arc.len) (2 ^ 32) m.room))
      (le-leb (length (united one.core.members its.core.members)) 9 few))
      (ap not (no_shared one.core.arc its.core.arc one.pairs its.pairs m.inside m.its_inside outside))

  -- what the other says
  its_no : (body : Body) (a : Agrees one its body) → body_no body its.core a.offer ≡ None
  its_no body a =
      ap (λ b. body_no b its.core a.offer) (sym a.body_is)
      ∙ some_of (its.core.arc.lo == end_of a.offer.arc) (body_no a.offer.body its.core a.offer) Apart (no_why its.core.gone (locked_in its.core.lock) (offer_no its.core a.offer) a.yes)

  module _ (at : ℕ) (a : Agrees one its (At.Repart at)) where
    -- the one gives a part where the boundary lies in its arc
    pub gives : holds one.core.arc at ≡ true → can_repart one.core at (frozen_of its) ≡ true
    gives held =
        let ends = (none_of ((at == one.core.arc.lo) || (at == end_of one.core.arc)) _ (limit_refused one.core) (none_of (is_alone one.core) _ (repart_refused one.core at) a.may).1).0 in
        cond-true (holds one.core.arc at) (can_cut one.core.arc at) (can_cut its.core.arc at && can_join one.core.arc (before its.core.arc at)) held
        ∙ and_from (holds one.core.arc at) (not (at == one.core.arc.lo)) held (ap not (or_parts (at == one.core.arc.lo) (at == end_of one.core.arc) ends).0)

    module _ (out : holds one.core.arc at ≡ false) where
      cut : can_cut its.core.arc at ≡ true
      cut = place_cut its.core a.offer at (its_no (At.Repart at) a) (ap (λ x. holds x at) a.arc ∙ out)

      near : offset its.core.arc at < its.core.arc.len
      near = cut_near its.core.arc at cut

      fits : can_repart one.core at (frozen_of its) ≡ true
      fits =
          cond-false (holds one.core.arc at) (can_cut one.core.arc at) (can_cut its.core.arc at && can_join one.core.arc (before its.core.arc at)) out
          ∙ and_from (can_cut its.core.arc at) (can_join one.core.arc (before its.core.arc at)) cut
          (and_from (its.core.arc.lo == end_of one.core.arc) (nat_le (one.core.arc.len + offset its.core.arc at) (2 ^ 32)) (eq-eqb its.core.arc.lo (end_of one.core.arc) m.meet)
          (le-leb (one.core.arc.len + offset its.core.arc at) (2 ^ 32) (before_room one.core.arc.len its.core.arc.len (offset its.core.arc at) m.room near)))

      inner : (key : List ℕ) → holds_key (before its.core.arc at) key ≡ true → holds_key its.core.arc key ≡ true
      inner key held = lt-ltb (offset its.core.arc (pos_of key)) its.core.arc.len (less_too (offset its.core.arc (pos_of key)) (offset its.core.arc at) its.core.arc.len (ltb-true (offset its.core.arc (pos_of key)) (offset its.core.arc at) held) near)

      -- else it takes one
      pub takes : (can_repart one.core at (frozen_of its) && not (has_key_of one.pairs (taken at (frozen_of its)).pairs)) ≡ true
      takes =
          and_from (can_repart one.core at (frozen_of its)) (not (has_key_of one.pairs (taken at (frozen_of its)).pairs)) fits
          (ap not (no_shared one.core.arc (before its.core.arc at) one.pairs (part_of (before its.core.arc at) (with_pairs empty (entries its.pairs))) m.inside (inside_part (before its.core.arc at) (with_pairs empty (entries its.pairs)))
          (λ key held. outside key (inner key held))))

  -- a member moves on
  pub migrates : (node : ℕ) → Agrees one its (At.Migrate node) → can_migrate one.core node (frozen_of its) ≡ true
  migrates node a =
      let it = none_of (not (is_member one.core.members node)) _ (cond (length one.core.members == 1) _ (limit_refused one.core)) (none_of (is_alone one.core) _ (migrate_refused one.core node) a.may).1 in
      let mine = not_false (is_member one.core.members node) it.0 in
      and_from (is_member one.core.members node && nat_le 2 (length one.core.members)) (nat_le (length (united its.core.members (node ∷ []))) 9)
      (and_from (is_member one.core.members node) (nat_le 2 (length one.core.members)) mine (two_of node one.core.members mine (none_of (length one.core.members == 1) _ (limit_refused one.core) it.1).0))
      (few_of (length (united its.core.members (node ∷ []))) (its_no (At.Migrate node) a))
