-- Each row keeps from which slots on nodes are asked to promise a ballot.
use Rattle.std.proofs.Common.{◌≡◌, ℕ, ◌≤◌, eqb, List, [], ◌∷◌, ◌++◌, Option, Some, None, ◌⊎◌, inl, inr, refl, sym, ◌∙◌, ap, subst, arith}
use Rattle.std.specs.List.{filter}
use Rattle.std.specs.Option.{option_map}
use Rattle.std.proofs.lemmas.Bool.{cases_eq, cases_lt}
use Rattle.sc_base.specs.Definitions.{Each}
use Rattle.sc_node_table.specs.Values.{Draw, Mail}
use Rattle.sc_node_table.specs.NodeDefinitions.{listed}
use Rattle.sc_words.proofs.PaxosProofs.PaxosLemmas.{Each-split}
use Rattle.sc_live_steps.specs.following.FollowingDefinitions.{Dated, from_slot_of, dated_of, marks_in, IsLow, AreLow, IsNoPrepare, IsAskedLow, IsDatedRow, AsksFromNext, SlotsAreKept, PreparesAreKnown, Mark, Votes, Prepares, Promises, mark_of, marks_of, next_by, reached, Progress, Sets, IsFollowing, IsCount, Leads}
use Rattle.sc_live_steps.proofs.FollowingProofs.ElectionRows.{last_next}
use Rattle.sc_live_steps.proofs.FollowingProofs.NodeMarks.{counts_of}

-- ---- lists

pub low-append : (next : ℕ) (xs ys : List Dated) → AreLow next xs → AreLow (reached next (marks_in xs)) ys → AreLow next (xs ++ ys)
low-append next [] ys f g = g
low-append next (d ∷ xs) ys f g = (f.0, low-append (next_by next d.0) xs ys f.1 g)

-- what asks for no promise is in no slot's way
no_prepare : (next from : ℕ) (mark : Mark) → IsNoPrepare mark → IsLow next mark from
no_prepare next from (Prepares ballot) n = absurd n
no_prepare next from _ n = tt

pub none_low : (next : ℕ) (dated : List Dated) → Each (λ d. IsNoPrepare d.0) dated → AreLow next dated
none_low next [] e = tt
none_low next (d ∷ dated) e = (no_prepare next d.1 d.0 e.0, none_low (next_by next d.0) dated e.1)

-- votes and promises are such, and take nobody anywhere
pub count_none : (mark : Mark) → IsCount mark → IsNoPrepare mark
count_none (Prepares ballot) c = absurd c
count_none _ c = tt

count_next : (next : ℕ) (mark : Mark) → IsCount mark → next_by next mark ≡ next
count_next next (Votes node ballot slot) c = refl
count_next next (Promises node ballot) c = refl
count_next next _ c = absurd c

counts_low : (next : ℕ) (dated : List Dated) → Each IsCount (marks_in dated) → AreLow next dated
counts_low next [] e = tt
counts_low next (d ∷ dated) e = (no_prepare next d.1 d.0 (count_none d.0 e.0), counts_low (next_by next d.0) dated e.1)

pub nothing : (dated : List Dated) → marks_in dated ≡ [] → dated ≡ []
nothing [] e = refl
nothing (d ∷ dated) e = cc

-- ---- rows

module _ (at : Sets) (now after : Progress) (node : ℕ) (taken : Option Dated) (sent dated dated_after : ℕ → List Dated) (row : IsDatedRow now after node taken sent dated dated_after) (was : IsAskedLow now dated) where
  -- what holds of the row's node and of each other
  each_node : AreLow (after.next node) (row.left ++ sent node) → ((who : ℕ) → (who ≡ node → ⊥) → AreLow (reached (now.next who) (marks_in (dated who))) (sent who)) → IsAskedLow after dated_after
  each_node own others who = elim (cases_eq who node) [
    | inl fact ↦ subst (λ n. AreLow (after.next n) (dated_after n)) (sym fact) (subst (AreLow (after.next node)) (sym row.own) own)
    | inr ne ↦ subst (λ n. AreLow n (dated_after who)) (sym (row.next who ne)) (subst (AreLow (now.next who)) (sym (row.others who ne)) (low-append (now.next who) (dated who) (sent who) (was who) (others who ne)))
  ]

  own_before : AreLow (now.next node) (listed taken ++ row.left)
  own_before = subst (AreLow (now.next node)) row.takes (was node)

  idle_low : taken ≡ None → after.next node ≡ now.next node → ((who : ℕ) → marks_in (sent who) ≡ []) → IsAskedLow after dated_after
  idle_low none same sends =
      each_node
      (subst (λ n. AreLow n (row.left ++ sent node)) (sym same) (low-append (now.next node) row.left (sent node) (subst (λ t. AreLow (now.next node) (listed t ++ row.left)) none own_before) (silent node _)))
      (λ who ne. silent who _)
    where
      silent : (who next : ℕ) → AreLow next (sent who)
      silent who next = subst (AreLow next) (sym (nothing (sent who) (sends who))) tt

  -- a leader's
  module _ (following : IsFollowing at now (λ who. marks_in (dated who))) (l : Leads at now after node (option_map (λ d. d.0) taken) (λ who. marks_in (sent who))) (asks : AsksFromNext l.executed node dated sent) where
    left_low : (t : Option Dated) → Each IsCount (listed (option_map (λ d. d.0) t)) → AreLow (now.next node) (listed t ++ row.left) → AreLow (now.next node) row.left
    left_low None c f = f
    left_low (Some d) c f = subst (λ n. AreLow n row.left) (count_next (now.next node) d.0 c.0) f.1

    left_none : Each (λ d. IsNoPrepare d.0) (dated node) → Each (λ d. IsNoPrepare d.0) row.left
    left_none e = (Each-split (λ (d : Dated). IsNoPrepare d.0) (listed taken) row.left (subst (Each (λ d. IsNoPrepare d.0)) row.takes e)).1

    own_left : AreLow (after.next node) row.left
    own_left = elim (cases_lt 0 l.executed) [
      | inl some ↦ none_low (after.next node) row.left (left_none (asks.own (omega (arith, some))))
      | inr none ↦ (let same : after.next node ≡ now.next node = (let up = l.newest in let next = l.next in let led = (following.leads l.runs).executed in let fact = ap now.next l.mine in omega (arith, none, up, next, led, fact)) in
          subst (λ n. AreLow n row.left) (sym same) (left_low taken l.takes own_before))
    ]

    leads_low : IsAskedLow after dated_after
    leads_low = each_node (low-append (after.next node) row.left (sent node) own_left (asks.low node _)) (λ who ne. asks.low who _)

-- Each kind of row keeps it that no node is asked to promise a ballot from below its next slot.
pub slots_are_kept : SlotsAreKept
slots_are_kept = record {
  begin = λ now node. tt;
  idle = λ at now after node sent dated dated_after row i was. idle_low at now after node None sent dated dated_after row was refl i.next i.sends;
  takes = λ at now after node taken sent dated dated_after row t was.
      (let counts : (who : ℕ) → Each IsCount (marks_in (sent who)) = λ who. subst (Each IsCount) (sym (t.sends who)) (counts_of node (now.promise node) t.mark who) in
      let same : taken.0 ≡ t.mark = some_is taken.0 t.mark t.takes in
      each_node at now after node (Some taken) sent dated dated_after row was
      (subst (λ n. AreLow n (row.left ++ sent node)) (sym (t.next ∙ ap (next_by (now.next node)) (sym same)))
      (low-append (next_by (now.next node) taken.0) row.left (sent node) (own_before at now after node (Some taken) sent dated dated_after row was).1 (counts_low _ (sent node) (counts node))))
      (λ who ne. counts_low _ (sent who) (counts who)));
  leads = λ at now after node taken sent dated dated_after row following l asks was. leads_low at now after node taken sent dated dated_after row was following l asks;
  self_election = λ at now after node taken sent dated dated_after row following e asks was.
      (let same : taken.0 ≡ e.mark = some_is taken.0 e.mark e.takes in
      let reaches : next_by (now.next node) taken.0 ≡ now.course.newest = ap (next_by (now.next node)) same ∙ last_next now.course.newest (now.next node) e.mark e.last in
      each_node at now after node (Some taken) sent dated dated_after row was
      (low-append (after.next node) row.left (sent node)
      (subst (λ n. AreLow n row.left) (reaches ∙ sym e.next) (own_before at now after node (Some taken) sent dated dated_after row was).1)
      (one_low now.course.newest _ (sent node)
      (let within = following.within node in
      let fact = ap (λ l. reached (now.next node) (marks_in l)) row.takes in
      let there = ap (λ n. reached n (marks_in row.left)) (reaches ∙ sym e.next) in
      omega (arith, within, fact, there)) (asks node) (e.sends node)))
      (λ who ne. one_low now.course.newest _ (sent who) (following.within who) (asks who) (e.sends who)));
}
  where
    some_is : (x y : Mark) → Some x ≡ Some y → x ≡ y
    some_is x y e = cc

    one_low : {A : Type 0} {mark : Mark} (newest next : ℕ) (dated : List Dated) → next ≤ newest → Each (λ d. newest ≤ d.1) dated → (marks_in dated ≡ []) ⊎ (A × (marks_in dated ≡ mark ∷ [])) → AreLow next dated
    one_low newest next [] le e k = tt
    one_low newest next (d ∷ []) le e k = (low_at d.0 d.1 e.0, tt)
      where
        low_at : (mark : Mark) (from : ℕ) → newest ≤ from → IsLow next mark from
        low_at (Prepares ballot) from least = omega (arith, le, least)
        low_at _ from least = tt
    one_low newest next (d ∷ other ∷ dated) le e (inl k) = cc
    one_low newest next (d ∷ other ∷ dated) le e (inr k) = (let bad = k.1 in cc)

-- ---- what follows

-- dated marks, without their slots
pub marks_all : (name : Draw) (mails : List Mail) → marks_in (dated_of name mails) ≡ marks_of name mails
marks_all name [] = refl
marks_all name (mail ∷ mails) = by (mark_of name mail.from mail.body) (marks_all name mails)
  where
    by : (o : Option Mark) → marks_in (dated_of name mails) ≡ marks_of name mails → marks_in (listed (option_map (λ mark. (mark, from_slot_of mail.body)) o) ++ dated_of name mails) ≡ listed o ++ marks_of name mails
    by None rest = rest
    by (Some mark) rest = ap (λ l. mark ∷ l) rest

-- So an acceptor that has forgotten nothing from its next slot on is asked from above what it has forgotten.
pub prepares_are_known : PreparesAreKnown
prepares_are_known = record {
  above = λ now dated node ballot from_slot rest r was fact same low. (let least = (subst (AreLow (now.next node)) fact (was node)).0 in omega (arith, least, same, low));
  same = λ name who mails. marks_all name (filter (λ mail. eqb mail.to who) mails);
}
