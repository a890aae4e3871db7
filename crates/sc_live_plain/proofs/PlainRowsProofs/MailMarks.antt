-- What a row of a plain group's replica does, as marks, by its mail.
use Rattle.std.proofs.Common.{◌≡◌, ℕ, ◌+◌, ◌<◌, cond, List, [], ◌∷◌, inl, inr, refl, sym, ◌∙◌, ap, subst, arith}
use Rattle.std.proofs.lemmas.Bool.{cases_lt, cases_eq, cond-true}
use Rattle.sc_base.specs.Definitions.{Each, client_actor, same_draw}
use Rattle.sc_node_table.specs.Values.{Draw, Mail, MailBody, Request, Answer, Accept, Accepted, Learn}
use Rattle.sc_base.proofs.Lemmas.{same_name}
use Rattle.sc_mail.specs.declared.bodies.AnswerBody.TheVariants as Says
use Rattle.sc_node_table.specs.NodeDefinitions.{ReplicaState, Place, next}
use Rattle.sc_live_plain.specs.PlainDefinitions.{Frame, IsFrame, Mark, Asks, Votes, Teaches, Other, mark_of, mark, marks_for, IsOther, MovesBy, Requests, IsPlainBody, AreTaken}
use Rattle.sc_live_plain.proofs.PlainRowsProofs.LeaderMarks.{each_mark}
use Rattle.sc_live_plain.proofs.PlainRowsProofs.ReplicaRowMarks.{idle_moves, accept_moves, learn_moves, counted_moves, asked_moves}
use Rattle.sc_live_plain.proofs.PlainRowsProofs.SlotCounts.{one_yes, one_no}
use Rattle.sc_live_plain.proofs.LeadersProofs.LeadingReplicas.{in_range, range_yes, range_behind}
use Rattle.sc_live_plain.proofs.PlainRowsProofs.ReplicaRows.{Does}
use Rattle.sc_live_plain.proofs.PlainRowsProofs.RepeatedMail.{mail_of}

-- how many slots are taken is read off the replica
pub taken_once : (r : ReplicaState) (one two : ℕ) → AreTaken r one → AreTaken r two → one ≡ two
taken_once r one two a b = elim (cases_lt one two) [
  | inl below ↦ absurd (differ one two below a b)
  | inr above ↦ elim (cases_lt two one) [ inl below ↦ absurd (differ two one below b a) | inr same ↦ omega (arith, above, same) ]
]
  where
    differ : (low high : ℕ) → low < high → AreTaken r low → AreTaken r high → ⊥
    differ low high lt x y =
        (let first = x.once (next r + low) in
        let second = y.once (next r + low) in
        let none = one_no (in_range (next r) low (next r + low)) (range_behind (next r) low (next r + low) (omega arith)) in
        let some = one_yes (in_range (next r) high (next r + low)) (range_yes (next r) high (next r + low) (omega arith) (omega (arith, lt))) in
        omega (arith, first, second, none, some))

-- a mark of a group's mail is that
pub marked_here : (name group : Draw) (m : Mark) → group ≡ name → cond (same_draw group name) m Other ≡ m
marked_here name group m e = cond-true (same_draw group name) m Other (same_name group name e)

module _ (begun : Requests) (frame : Frame) (fact : IsFrame frame) where
  -- what the replica of a node does in its group
  pub does_moves : (me : ℕ) (r : ReplicaState) (taken : ℕ) (from : ℕ) (body : MailBody) (place : Place) (after : ℕ) → IsPlainBody begun frame from me body → Does begun frame fact me r from body place → (me ≡ frame.lead → AreTaken r taken) → (me ≡ frame.lead → AreTaken place.0 after)
      → MovesBy frame me r taken place.0 after (mark_of frame.core.id from body) place.1
  does_moves me r taken from (Request group client seq op) place after b response slots slots' =
      let lead = response.0 in
      elim (response.1) [
        | inl refused ↦ (
            let same : after ≡ taken = taken_once r after taken (subst (λ (p : Place). AreTaken p.0 after) refused.place_is (slots' lead)) (slots lead) in
            let answer : Mail = mail_of frame.lead (client_actor client) (Answer frame.core.id seq (Says.NotMine frame.core.arc frame.core.succ)) in
            let quiet : (who : ℕ) → Each IsOther (marks_for frame.core.id who (answer ∷ [])) = λ who. each_mark IsOther (λ mail. mark frame.core.id mail ≡ Other) frame.core.id who (λ mail e. e) (answer ∷ []) (refl, tt) in
            subst (λ (p : Place). MovesBy frame me r taken p.0 after Other p.1) (sym refused.place_is) (subst (λ t. MovesBy frame me r taken r t Other (answer ∷ [])) (sym same) (idle_moves frame me r taken Other (answer ∷ []) refl quiet)))
        | inr queued ↦ (
            let first : queued.taken ≡ taken = taken_once r queued.taken taken queued.leader.slots (slots lead) in
            let last : queued.run.taken ≡ after = taken_once place.0 queued.run.taken after queued.run.leads.leader.slots (slots' lead) in
            let moves = asked_moves begun frame r queued.taken queued.leader.slots r.leader.flights _ place queued.run.taken queued.run.leads refl in
            subst (λ m. MovesBy frame m r taken place.0 after Other place.1) (sym lead) (subst (λ t. MovesBy frame frame.lead r t place.0 after Other place.1) first (subst (λ t. MovesBy frame frame.lead r queued.taken place.0 t Other place.1) last moves)))
      ]
  does_moves me r taken from (Accept group ballot slot command) place after b response slots slots' =
      let to : from ≡ frame.lead = b.2.from_is in
      let sends : place.1 ≡ mail_of me frame.lead (Accepted frame.core.id frame.ballot slot) ∷ [] = response.sends ∙ ap (λ n. mail_of me n (Accepted frame.core.id frame.ballot slot) ∷ []) to in
      let moves = accept_moves frame me r taken place.0 slot response.next_is response.flights_are in
      let counted : MovesBy frame me r taken place.0 after (Asks slot) (mail_of me frame.lead (Accepted frame.core.id frame.ballot slot) ∷ []) = elim (cases_eq me frame.lead) [
        | inl lead ↦ (let same : taken ≡ after = taken_once place.0 taken after (response.slots taken (slots lead)) (slots' lead) in
            subst (λ t. MovesBy frame me r taken place.0 t (Asks slot) (mail_of me frame.lead (Accepted frame.core.id frame.ballot slot) ∷ [])) same moves)
        | inr follows ↦ (λ one two v w own. moves one two v (record { bound = λ e. absurd (follows e); voters = λ e. absurd (follows e); next = w.next }) own)
      ] in
      subst (λ m. MovesBy frame me r taken place.0 after m place.1) (sym (marked_here frame.core.id group (Asks slot) b.0)) (subst (λ (l : List Mail). MovesBy frame me r taken place.0 after (Asks slot) l) (sym sends) counted)
  does_moves me r taken from (Accepted group ballot slot) place after b response slots slots' =
      let lead = response.0 in
      let d = response.1 in
      let first : d.taken ≡ taken = taken_once r d.taken taken d.leader.slots (slots lead) in
      let run = d.counted.run in
      let last : run.taken ≡ after = taken_once place.0 run.taken after run.leads.leader.slots (slots' lead) in
      let moves = counted_moves begun frame r d.taken d.leader.slots d.counted.held _ place run.taken run.leads from slot b.3 d.counted.votes in
      subst (λ m. MovesBy frame me r taken place.0 after m place.1) (sym (marked_here frame.core.id group (Votes from slot) b.0))
      (subst (λ m. MovesBy frame m r taken place.0 after (Votes from slot) place.1) (sym lead) (subst (λ t. MovesBy frame frame.lead r t place.0 after (Votes from slot) place.1) first (subst (λ t. MovesBy frame frame.lead r d.taken place.0 t (Votes from slot) place.1) last moves)))
  does_moves me r taken from (Learn group slot command) place after b response slots slots' =
      let moves = learn_moves frame me r taken place.0 slot response.follows b.1.to_in response.next_is in
      let kept : MovesBy frame me r taken place.0 after (Teaches slot) [] = λ one two v w own. moves one two v (record { bound = λ e. absurd (response.follows e); voters = λ e. absurd (response.follows e); next = w.next }) own in
      subst (λ m. MovesBy frame me r taken place.0 after m place.1) (sym (marked_here frame.core.id group (Teaches slot) b.0)) (subst (λ (l : List Mail). MovesBy frame me r taken place.0 after (Teaches slot) l) (sym response.sends) kept)
  does_moves me r taken from (Answer group seq answer) place after b response slots slots' = absurd response
  does_moves me r taken from _ place after b response slots slots' = absurd response
