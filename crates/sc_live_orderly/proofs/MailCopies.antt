-- Mail with its copies: what more mail adds, and what one copy less takes away.
use Rattle.std.proofs.Common.{◌≡◌, ℕ, zero, suc, ◌+◌, ◌-◌, ◌<◌, ◌≤◌, List, [], ◌∷◌, ◌++◌, length, Bool, true, false, cond, replicate, refl, sym, ◌∙◌, ap, arith, get_or, set, append_assoc, Some, sum_by}
use Rattle.std.specs.Prelude.{slice_get}
use Rattle.std.specs.List.{filter}
use Rattle.std.proofs.lemmas.List.Sums.{sum_by-append, sum_by-cons}
use Rattle.sc_base.specs.Definitions.{Each}
use Rattle.sc_actor.specs.Definitions.{numbers}
use Rattle.sc_live_orderly.specs.OrderlyDefinitions.{mail_with}

-- one copy less than there are at a place
abbrev pub less_at : List ℕ → ℕ → List ℕ
less_at counts place = set counts place (get_or counts place 0 - 1)

-- The first number of a test is that of the first mail with copies that passes it, and one copy less takes that mail away.
pub record Foremost {M : Type 0} (test : M → Bool) (first : ℕ) (sent : List M) (counts : List ℕ) (number : ℕ) : Type 0 where
  pub place : ℕ
  pub number_is : number ≡ first + place
  pub mail : M
  pub at : slice_get sent place ≡ Some mail
  pub passes : test mail ≡ true
  pub left : mail_with test sent counts ≡ mail ∷ mail_with test sent (less_at counts place)

module _ {M : Type 0} (test : M → Bool) where
  -- more mail with its copies comes behind
  pub mail_with-append : (sent more : List M) (counts others : List ℕ) → length counts ≡ length sent → mail_with test (sent ++ more) (counts ++ others) ≡ mail_with test sent counts ++ mail_with test more others
  mail_with-append [] more [] others e = refl
  mail_with-append [] more (c ∷ counts) others e = absurd (omega (arith, e))
  mail_with-append (m ∷ sent) more [] others e = absurd (omega (arith, e))
  mail_with-append (m ∷ sent) more (c ∷ counts) others e =
      let here = cond (test m) (replicate c m) [] in
      ap (λ t. here ++ t) (mail_with-append sent more counts others (omega (arith, e))) ∙ sym (append_assoc here (mail_with test sent counts) (mail_with test more others))

  ones_by : (b : Bool) (m : M) (xs ys : List M) → xs ≡ ys → cond b (replicate 1 m) [] ++ xs ≡ cond b (m ∷ ys) ys
  ones_by true m xs ys e = ap (λ t. m ∷ t) e
  ones_by false m xs ys e = e

  -- of new mail there is one copy each
  pub mail_with-ones : (sent : List M) → mail_with test sent (replicate (length sent) 1) ≡ filter test sent
  mail_with-ones [] = refl
  mail_with-ones (m ∷ sent) = ones_by (test m) m (mail_with test sent (replicate (length sent) 1)) (filter test sent) (mail_with-ones sent)

  behind : (first : ℕ) (m : M) (sent : List M) (c : ℕ) (counts : List ℕ) (number : ℕ) → cond (test m) (replicate c m) [] ≡ [] → Foremost test (suc first) sent counts number → Foremost test first (m ∷ sent) (c ∷ counts) number
  behind first m sent c counts number none f = record {
    place = suc f.place;
    number_is = omega (arith, f.number_is);
    mail = f.mail;
    at = f.at;
    passes = f.passes;
    left = ap (λ t. t ++ mail_with test sent counts) none ∙ (f.left ∙ ap (λ t. f.mail ∷ (t ++ mail_with test sent (less_at counts f.place))) (sym none));
  }

  none_of : (b : Bool) (m : M) → cond b (replicate 0 m) [] ≡ []
  none_of true m = refl
  none_of false m = refl

  foremost_by : (first : ℕ) (m : M) (sent : List M) (c : ℕ) (counts : List ℕ) (number : ℕ) → (slice_get (numbers test (suc first) sent counts) 0 ≡ Some number → Foremost test (suc first) sent counts number) →
      (b : Bool) → test m ≡ b → slice_get (cond b (replicate c first) [] ++ numbers test (suc first) sent counts) 0 ≡ Some number → Foremost test first (m ∷ sent) (c ∷ counts) number
  foremost_by first m sent zero counts number more true t e = behind first m sent zero counts number (none_of (test m) m) (more e)
  foremost_by first m sent (suc c) counts number more true t e =
      let less : suc c - 1 ≡ c = omega arith in
      record {
        place = 0;
        number_is = (let same : first ≡ number = cc in omega (arith, same));
        mail = m;
        at = refl;
        passes = t;
        left = ap (λ b. cond b (replicate (suc c) m) [] ++ mail_with test sent counts) t
            ∙ ap (λ xs. m ∷ (xs ++ mail_with test sent counts)) (sym (ap (λ b. cond b (replicate (suc c - 1) m) []) t ∙ ap (λ n. replicate n m) less));
      }
  foremost_by first m sent c counts number more false t e = behind first m sent c counts number (ap (λ b. cond b (replicate c m) []) t) (more e)

  -- the mail of the first number
  pub foremost : (first : ℕ) (sent : List M) (counts : List ℕ) (number : ℕ) → slice_get (numbers test first sent counts) 0 ≡ Some number → Foremost test first sent counts number
  foremost first [] counts number e = cc
  foremost first (m ∷ sent) [] number e = cc
  foremost first (m ∷ sent) (c ∷ counts) number e = foremost_by first m sent c counts number (λ e'. foremost (suc first) sent counts number e') (test m) refl e

  -- copies of mail that does not pass the test do not matter
  pub mail_with-other : (sent : List M) (counts : List ℕ) (place count : ℕ) (mail : M) → slice_get sent place ≡ Some mail → test mail ≡ false → mail_with test sent (set counts place count) ≡ mail_with test sent counts
  mail_with-other [] counts place count mail at t = cc
  mail_with-other (m ∷ sent) [] place count mail at t = refl
  mail_with-other (m ∷ sent) (c ∷ counts) zero count mail at t =
      let same : test m ≡ false = (let fact : m ≡ mail = cc in ap test fact ∙ t) in
      ap (λ b. cond b (replicate count m) [] ++ mail_with test sent counts) same ∙ sym (ap (λ b. cond b (replicate c m) [] ++ mail_with test sent counts) same)
  mail_with-other (m ∷ sent) (c ∷ counts) (suc place) count mail at t = ap (λ xs. cond (test m) (replicate c m) [] ++ xs) (mail_with-other sent counts place count mail at t)

  module _ (owes : M → ℕ) where
    copy_sum : (count : ℕ) (m : M) (xs : List M) → sum_by owes (replicate (suc count) m ++ xs) ≡ owes m + sum_by owes (replicate count m ++ xs)
    copy_sum count m xs = sum_by-cons owes m (replicate count m ++ xs)

    -- one copy less takes away what its mail owes
    pub taken_sum : (sent : List M) (counts : List ℕ) (place : ℕ) (mail : M) → slice_get sent place ≡ Some mail → test mail ≡ true → 0 < get_or counts place 0 →
        sum_by owes (mail_with test sent counts) ≡ owes mail + sum_by owes (mail_with test sent (less_at counts place))
    taken_sum [] counts place mail at t some = cc
    taken_sum (m ∷ sent) [] place mail at t some = absurd (omega arith)
    taken_sum (m ∷ sent) (zero ∷ counts) zero mail at t some = absurd (omega arith)
    taken_sum (m ∷ sent) (suc c ∷ counts) zero mail at t some =
        let fact : m ≡ mail = cc in
        let same : test m ≡ true = ap test fact ∙ t in
        let less : suc c - 1 ≡ c = omega arith in
        let xs = mail_with test sent counts in
        ap (λ b. sum_by owes (cond b (replicate (suc c) m) [] ++ xs)) same
        ∙ (copy_sum c m xs ∙ (ap (λ x. owes x + sum_by owes (replicate c m ++ xs)) fact ∙ ap (λ n. owes mail + n) (sym (ap (λ b. sum_by owes (cond b (replicate (suc c - 1) m) [] ++ xs)) same ∙ ap (λ n. sum_by owes (replicate n m ++ xs)) less))))
    taken_sum (m ∷ sent) (c ∷ counts) (suc place) mail at t some =
        let here = cond (test m) (replicate c m) [] in
        let before = mail_with test sent counts in
        let after = mail_with test sent (less_at counts place) in
        let rec = taken_sum sent counts place mail at t some in
        let a = sum_by-append owes here before in
        let b = sum_by-append owes here after in
        omega (arith, rec, a, b)

    -- what passes the test owes no more than all
    pub filter_sum : (sent : List M) → sum_by owes (filter test sent) ≤ sum_by owes sent
    filter_sum [] = omega arith
    filter_sum (m ∷ sent) = by (test m) (filter_sum sent) (sum_by-cons owes m sent) (sum_by-cons owes m (filter test sent))
      where
        by : (b : Bool) → sum_by owes (filter test sent) ≤ sum_by owes sent → sum_by owes (m ∷ sent) ≡ owes m + sum_by owes sent → sum_by owes (m ∷ filter test sent) ≡ owes m + sum_by owes (filter test sent) → sum_by owes (cond b (m ∷ filter test sent) (filter test sent)) ≤ sum_by owes (m ∷ sent)
        by true le whole part = omega (arith, le, whole, part)
        by false le whole part = omega (arith, le, whole)

    copies_count : (count : ℕ) (m : M) (xs : List M) → 1 ≤ owes m → length xs ≤ sum_by owes xs → length (replicate count m ++ xs) ≤ sum_by owes (replicate count m ++ xs)
    copies_count zero m xs one le = le
    copies_count (suc count) m xs one le = let rec = copies_count count m xs one le in let s = copy_sum count m xs in omega (arith, rec, s, one)

    -- where each mail owes something, there is no more mail than is owed
    pub count_owes : (sent : List M) (counts : List ℕ) → Each (λ mail. 1 ≤ owes mail) sent → length (mail_with test sent counts) ≤ sum_by owes (mail_with test sent counts)
    count_owes [] counts all = omega arith
    count_owes (m ∷ sent) [] all = omega arith
    count_owes (m ∷ sent) (c ∷ counts) all = by (test m) (count_owes sent counts all.1)
      where
        by : (b : Bool) → length (mail_with test sent counts) ≤ sum_by owes (mail_with test sent counts) → length (cond b (replicate c m) [] ++ mail_with test sent counts) ≤ sum_by owes (cond b (replicate c m) [] ++ mail_with test sent counts)
        by true le = copies_count c m (mail_with test sent counts) all.0 le
        by false le = le

pub numbers-agree : {M : Type 0} (p q : M → Bool) → ((m : M) → p m ≡ q m) → (first : ℕ) (sent : List M) (counts : List ℕ) → numbers p first sent counts ≡ numbers q first sent counts
numbers-agree p q agree first [] counts = refl
numbers-agree p q agree first (m ∷ sent) [] = refl
numbers-agree p q agree first (m ∷ sent) (c ∷ counts) =
    ap (λ b. cond b (replicate c first) [] ++ numbers p (suc first) sent counts) (agree m) ∙ ap (λ xs. cond (q m) (replicate c first) [] ++ xs) (numbers-agree p q agree (suc first) sent counts)
