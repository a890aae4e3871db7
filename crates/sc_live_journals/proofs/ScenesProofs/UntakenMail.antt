-- All mail that nobody has taken: one more row takes one out of it, if it delivers, and puts what it sends behind.
use Rattle.std.proofs.Common.{◌≡◌, ℕ, zero, suc, ◌-◌, ◌<◌, List, [], ◌∷◌, ◌++◌, Bool, true, replicate, Some, None, refl, sym, ◌∙◌, ap, subst, arith, append_assoc, get_or}
use Rattle.std.specs.Prelude.{slice_get}
use Rattle.std.specs.List.{filter}
use Rattle.sc_node_table.specs.Values.{Draw, OrderLine, Mail, Seat, Event, Deliver, Row}
use Rattle.sc_actor.specs.Definitions.{mails, copies, counts_at, numbered, IsUnderWay, System}
use Rattle.sc_actor.proofs.Lemmas.{waiting_one}
use Rattle.sc_live_orderly.specs.OrderlyDefinitions.{IsCalmEvent, mail_with}
use Rattle.sc_live_orderly.proofs.OrderlyLemmas.{less_at, after-row}
use Rattle.sc_meaning.specs.sound.SoundDefinitions.{Player}
use Rattle.sc_live_steps.specs.calm.CalmDefinitions.{players, Rows}
use Rattle.sc_live_steps.specs.orders.OrderDefinitions.{errand_by, errand_for, errands_for}
use Rattle.sc_live_journals.specs.scenes.SceneDefinitions.{left_after}

-- ---- lists

all-filter : {X : Type 0} (xs : List X) → filter (λ x. true) xs ≡ xs
all-filter [] = refl
all-filter (x ∷ xs) = ap (λ l. x ∷ l) (all-filter xs)

-- the errands of mail are those of its parts
pub errands-append : (name : Draw) (xs ys : List Mail) → errands_for name (xs ++ ys) ≡ errands_for name xs ++ errands_for name ys
errands-append name [] ys = refl
errands-append name (x ∷ xs) ys =
    ap (λ l. errand_for name (errand_by x.from x.to x.body) ++ l) (errands-append name xs ys)
    ∙ sym (append_assoc (errand_for name (errand_by x.from x.to x.body)) (errands_for name xs) (errands_for name ys))

-- one mail stands in the middle of some, and is not among others
pub record Takes {M : Type 0} (mail : M) (had has : List M) : Type 0 where
  pub before : List M
  pub behind : List M
  pub had_is : had ≡ before ++ mail ∷ behind
  pub has_is : has ≡ before ++ behind

-- a copy less takes one mail out
module _ {M : Type 0} where
  abbrev all : M → Bool
  all mail = true

  past : (mail : M) (prefix had has : List M) → Takes mail had has → Takes mail (prefix ++ had) (prefix ++ has)
  past mail prefix had has t = record {
    before = prefix ++ t.before;
    behind = t.behind;
    had_is = ap (λ l. prefix ++ l) t.had_is ∙ sym (append_assoc prefix t.before (mail ∷ t.behind));
    has_is = ap (λ l. prefix ++ l) t.has_is ∙ sym (append_assoc prefix t.before t.behind);
  }

  one_out : (sent : List M) (counts : List ℕ) (place : ℕ) (mail : M) → slice_get sent place ≡ Some mail → 0 < get_or counts place 0 → Takes mail (mail_with all sent counts) (mail_with all sent (less_at counts place))
  one_out [] counts place mail at some = cc
  one_out (m ∷ sent) [] place mail at some = absurd (omega (arith, some))
  one_out (m ∷ sent) (zero ∷ counts) zero mail at some = absurd (omega (arith, some))
  one_out (m ∷ sent) (suc c ∷ counts) zero mail at some =
      let less : suc c - 1 ≡ c = omega arith in
      let fact : m ≡ mail = cc in
      record {
        before = [];
        behind = replicate c m ++ mail_with all sent counts;
        had_is = ap (λ x. x ∷ (replicate c m ++ mail_with all sent counts)) fact;
        has_is = ap (λ n. replicate n m ++ mail_with all sent counts) less;
      }
  one_out (m ∷ sent) (c ∷ counts) (suc place) mail at some =
      past mail (replicate c m) (mail_with all sent counts) (mail_with all sent (less_at counts place)) (one_out sent counts place mail at some)

-- ---- rows

module _ (words : ℕ → ℕ → ℕ × ℕ) (births : List (Seat Player)) (rows : Rows) where
  abbrev s : System Player Mail OrderLine
  s = players words births

  -- what is left after an event, before what its row sends
  abbrev pub left_by : Event OrderLine → List Mail
  left_by event = mail_with (λ mail. true) (mails rows) (counts_at (copies rows) event)

  pub left_row : (row : Row Mail OrderLine) → left_after (rows ++ row ∷ []) ≡ left_by row.event ++ row.sent
  left_row row = after-row s (λ mail. true) rows row ∙ ap (λ l. left_by row.event ++ l) (all-filter row.sent)

  -- the mail that a delivery takes
  pub record TakesOne (who number : ℕ) : Type 0 where
    pub mail : Mail
    pub sent : numbered (mails rows) number ≡ Some mail
    pub to_is : mail.to ≡ who
    pub takes : Takes mail (left_after rows) (left_by (Deliver number))

  taken_way : (number : ℕ) (mail : Mail) → IsUnderWay s rows number mail → Takes mail (left_after rows) (left_by (Deliver number))
  taken_way zero mail way = (let bad : None ≡ Some mail = way.sent in cc)
  taken_way (suc place) mail way =
      let minus : suc place - 1 ≡ place = omega arith in
      one_out (mails rows) (copies rows) place mail way.sent (subst (λ n. 0 < get_or (copies rows) n 0) minus way.copy)

  pub takes_one : (who number : ℕ) → IsCalmEvent s rows who (Deliver number) → TakesOne who number
  takes_one who number fine =
      let w = waiting_one s rows who 1 number fine in
      record { mail = w.0; sent = w.1.sent; to_is = w.2; takes = taken_way number w.0 w.1 }
