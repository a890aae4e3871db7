-- A request that changes nothing where it fits.
use Rattle.std.proofs.Common.{◌≡◌, ℕ, Bool, true, false, cond, not, ◌&&◌, ◌||◌, is_none, List, Option, Some, None, refl, sym, ◌∙◌, subst, true≢false}
use Rattle.sc_base.specs.declared.ops.Op.{Op}
use Rattle.sc_base.specs.declared.ops.Op.TheVariants.{Get, Put, Del, Add, Cas}
use Rattle.sc_history.specs.declared.events.End.TheVariants.{Absent, Value, Done, No, Fail, Lost}
use Rattle.sc_words.specs.ideal.IdealDefinitions.{was}
use Rattle.sc_linear_law.specs.declared.requests.Request.{Request}
use Rattle.sc_linear_law.specs.LinearDefinitions.{Ending, Place, fits, is_refused, value_after}
use Rattle.sc_linear.specs.PlaceEquality.{value_decides}
use Rattle.sc_linear.specs.Standing.{request_at, may_take, next_at}
use Rattle.sc_linear.specs.Steps.{is_get, tells, CanRead}

no_value : (v : Option (List ℕ)) → is_none v ≡ true → v ≡ None
no_value None h = refl
no_value (Some w) h = absurd (true≢false (sym h))

this_value : (w : List ℕ) (v : Option (List ℕ)) → was w v ≡ true → v ≡ Some w
this_value w v h = sym ((value_decides (Some w) v).0 h)

refused_idle : (op : Op) (v : Option (List ℕ)) → is_refused op v ≡ true → value_after op v ≡ v
refused_idle (Get k) v h = refl
refused_idle (Put k w) v h = absurd (true≢false (sym h))
refused_idle (Del k) v h = absurd (true≢false (sym h))
refused_idle (Add k w) None h = absurd (true≢false (sym h))
refused_idle (Add k w) (Some u) h = refl
refused_idle (Cas k e w) v h = go (was e v) h
  where
    go : (b : Bool) → not b ≡ true → cond b (Some w) v ≡ v
    go true h' = absurd (true≢false (sym h'))
    go false h' = refl

-- where its ending tells what it met
told_idle : (ending : Ending) (op : Op) (first v : Option (List ℕ)) → tells ending ≡ true → fits ending op first ≡ true → value_after op first ≡ first → fits ending op v ≡ true → value_after op v ≡ v
told_idle None op first v t f e g = absurd (true≢false (sym t))
told_idle (Some (l, Absent)) op first v t f e g = subst (λ o. value_after op o ≡ o) (no_value first f ∙ sym (no_value v g)) e
told_idle (Some (l, Value w)) op first v t f e g = subst (λ o. value_after op o ≡ o) (this_value w first f ∙ sym (this_value w v g)) e
told_idle (Some (l, Done)) op first v t f e g = absurd (true≢false (sym t))
told_idle (Some (l, No)) op first v t f e g = refused_idle op v g
told_idle (Some (l, Fail)) op first v t f e g = absurd (true≢false (sym t))
told_idle (Some (l, Lost)) op first v t f e g = absurd (true≢false (sym t))

settled_idle : (ending : Ending) (op : Op) (first v : Option (List ℕ)) → is_get op || tells ending ≡ true → fits ending op first ≡ true → value_after op first ≡ first → fits ending op v ≡ true → value_after op v ≡ v
settled_idle ending (Get k) first v s f e g = refl
settled_idle ending (Put k w) first v s f e g = told_idle ending (Put k w) first v s f e g
settled_idle ending (Del k) first v s f e g = told_idle ending (Del k) first v s f e g
settled_idle ending (Add k w) first v s f e g = told_idle ending (Add k w) first v s f e g
settled_idle ending (Cas k x w) first v s f e g = told_idle ending (Cas k x w) first v s f e g

pub first_of_both : (a b : Bool) → a && b ≡ true → a ≡ true
first_of_both true b h = refl
first_of_both false b h = h

pub second_of_both : (a b : Bool) → a && b ≡ true → b ≡ true
second_of_both true b h = h
second_of_both false b h = absurd (true≢false (sym h))

pub idle_here : (rs : List Request) (x : ℕ) (place : Place) → CanRead (request_at rs x) x place → next_at rs x place.value ≡ place.value
idle_here rs x place h = (value_decides (next_at rs x place.value) place.value).0 h.idle

pub reads : (rs : List Request) (x : ℕ) (place : Place) → CanRead (request_at rs x) x place → (v : Option (List ℕ)) → may_take rs x v ≡ true → next_at rs x v ≡ v
reads rs x place h v may = settled_idle (request_at rs x).ending (request_at rs x).op place.value v h.settled h.fitting (idle_here rs x place h) (first_of_both _ _ may)
