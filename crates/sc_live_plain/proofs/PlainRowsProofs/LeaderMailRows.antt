-- A row keeps what stands between the leader of a group and its nodes.
use Rattle.std.proofs.Common.{◌≡◌, ℕ, zero, suc, ◌+◌, ◌<◌, ◌≤◌, max, true, List, [], ◌∷◌, ◌++◌, Some, ◌⊎◌, inl, inr, refl, sym, ◌∙◌, ap, subst, arith, append-nil}
use Rattle.std.proofs.lemmas.Bool.{cases_eq}
use Rattle.sc_base.specs.Definitions.{Among, Each, is_member}
use Rattle.sc_node_table.specs.NodeDefinitions.{numbers_from}
use Rattle.sc_paxos_law.proofs.Lemmas.{Among-left, Among-right, Among-either}
use Rattle.sc_live_plain.specs.PlainDefinitions.{Frame, Mark, Asks, Votes, Teaches, Other, AreInOrder, IsBelow, taught_slots, View, IsLearning, IsVoting, IsBetween, IsNew, IsIdle, Accepts, Learns, IsCount, IsElsewhere, IsOffered, IsCounted, Leads, Moves, IsTaken}
use Rattle.sc_live_plain.proofs.PlainRowsProofs.MarkLists.{order-lower, order-tail, order-asks, order-append, order-raise, order-new, below-append, below-among, other-new, other-asks, asks≢other, votes≢other, taught-append, taught-other, numbers-append}

-- ---- what is left after the first is taken

-- what is left was there
left_among : (taken : Mark) (before left : List Mark) (mark : Mark) → IsTaken taken before left → Among mark left → Among mark before
left_among taken before left mark (inl fact) a = subst (Among mark) (sym fact) (inr a)
left_among taken before left mark (inr fact) a = subst (Among mark) (sym fact.1) a

-- what was there is left, but for the first
among_left : (taken : Mark) (before left : List Mark) (mark : Mark) → IsTaken taken before left → Among mark before → (taken ≡ mark) ⊎ Among mark left
among_left taken before left mark (inl fact) a = elim (subst (Among mark) fact a) [ inl same ↦ inl same | inr b ↦ inr b ]
among_left taken before left mark (inr fact) a = inr (subst (Among mark) fact.1 a)

left_order : (low : ℕ) (taken : Mark) (before left : List Mark) → IsTaken taken before left → AreInOrder low before → AreInOrder low left
left_order low taken before left (inl fact) o = order-tail low taken left (subst (AreInOrder low) fact o)
left_order low taken before left (inr fact) o = subst (AreInOrder low) fact.1 o

left_each : (P : Mark → Type 0) (taken : Mark) (before left : List Mark) → IsTaken taken before left → Each P before → Each P left
left_each P taken before left (inl fact) e = (subst (Each P) fact e).1
left_each P taken before left (inr fact) e = subst (Each P) fact.1 e

-- no Tells mark is taken, unless the head of the list is one
left_taught : (taken : Mark) (before left : List Mark) → IsTaken taken before left → ((slot : ℕ) → taken ≡ Teaches slot → ⊥) → taught_slots before ≡ taught_slots left
left_taught (Asks slot) before left (inl fact) never = ap taught_slots fact
left_taught (Votes node slot) before left (inl fact) never = ap taught_slots fact
left_taught (Teaches slot) before left (inl fact) never = absurd (never slot refl)
left_taught Other before left (inl fact) never = ap taught_slots fact
left_taught taken before left (inr fact) never = ap taught_slots fact.1

-- what is asked for behind a vote is above it
above_vote : (low : ℕ) (taken : Mark) (before left : List Mark) (node slot other : ℕ) → IsTaken taken before left → AreInOrder low before → taken ≡ Votes node slot → Among (Asks other) left → slot < other
above_vote low taken before left node slot other (inl fact) o same a =
    let first : AreInOrder low (Votes node slot ∷ left) = subst (λ m. AreInOrder low (m ∷ left)) same (subst (AreInOrder low) fact o) in
    let at = order-asks (max low (suc slot)) left other first a in
    omega (arith, at)
above_vote low taken before left node slot other (inr fact) o same a = absurd (votes≢other node slot (sym same ∙ fact.0))

-- a slot that is asked for behind a vote is not the slot of the vote
elsewhere : (low : ℕ) (taken : Mark) (before left : List Mark) (slot : ℕ) → IsTaken taken before left → AreInOrder low before → Among (Asks slot) left → IsElsewhere taken slot
elsewhere low (Votes node other) before left slot t o a = λ same. (let at = above_vote low (Votes node other) before left node other slot t o refl a in omega (arith, at, same))
elsewhere low (Asks other) before left slot t o a = tt
elsewhere low (Teaches other) before left slot t o a = tt
elsewhere low Other before left slot t o a = tt

never_taught : (frame : Frame) (taken : Mark) → IsCount frame taken → (slot : ℕ) → taken ≡ Teaches slot → ⊥
never_taught frame (Votes node other) c slot e = cc
never_taught frame (Asks other) c slot e = cc
never_taught frame (Teaches other) c slot e = c
never_taught frame Other c slot e = cc

never_asked : (frame : Frame) (taken : Mark) → IsCount frame taken → (slot : ℕ) → taken ≡ Asks slot → ⊥
never_asked frame (Votes node other) c slot e = cc
never_asked frame (Asks other) c slot e = c
never_asked frame (Teaches other) c slot e = cc
never_asked frame Other c slot e = cc

-- a learner of whose mail no Tells mark is taken, and to whom none is sent
learning_same : (from to : ℕ) (before after : List Mark) → taught_slots after ≡ taught_slots before → IsLearning from to before → IsLearning from to after
learning_same from to before after same l = record { left = l.left; reaches = l.reaches; tells = same ∙ l.tells }

learning_at : (from to from' to' : ℕ) (marks : List Mark) → from' ≡ from → to' ≡ to → IsLearning from to marks → IsLearning from' to' marks
learning_at from to from' to' marks e f l = subst (λ n. IsLearning n to' marks) (sym e) (subst (λ n. IsLearning from n marks) (sym f) l)

module _ (frame : Frame) (now after : View) (node : ℕ) (taken : Mark) (sent marks marks' : ℕ → List Mark) (left : List Mark)
    (was : IsBetween frame now marks) (takes : IsTaken taken (marks node) left) (own : marks' node ≡ left ++ sent node) (others : (who : ℕ) → (who ≡ node → ⊥) → marks' who ≡ marks who ++ sent who) where
  -- what is under way to one was so before and is not taken, or is sent
  came : (who : ℕ) (mark : Mark) → Among mark (marks' who) → Among mark (marks who) ⊎ Among mark (sent who)
  came who mark a = elim (cases_eq who node) [
    | inl fact ↦ (let b = Among-either mark left (sent node) (subst (Among mark) (ap marks' fact ∙ own) a) in
        elim b [ inl c ↦ inl (subst (λ n. Among mark (marks n)) (sym fact) (left_among taken (marks node) left mark takes c)) | inr c ↦ inr (subst (λ n. Among mark (sent n)) (sym fact) c) ])
    | inr ne ↦ Among-either mark (marks who) (sent who) (subst (Among mark) (others who ne) a)
  ]

  -- what is sent is under way after it
  goes : (who : ℕ) (mark : Mark) → Among mark (sent who) → Among mark (marks' who)
  goes who mark a = elim (cases_eq who node) [
    | inl fact ↦ subst (Among mark) (sym (ap marks' fact ∙ own)) (Among-right mark left (sent node) (subst (λ n. Among mark (sent n)) fact a))
    | inr ne ↦ subst (Among mark) (sym (others who ne)) (Among-right mark (marks who) (sent who) a)
  ]

  -- what was under way is so still, unless it was taken
  stays : (who : ℕ) (mark : Mark) → Among mark (marks who) → ((who ≡ node) × (taken ≡ mark)) ⊎ Among mark (marks' who)
  stays who mark a = elim (cases_eq who node) [
    | inl fact ↦ elim (among_left taken (marks node) left mark takes (subst (λ n. Among mark (marks n)) fact a)) [
      | inl same ↦ inl (fact, same)
      | inr b ↦ inr (subst (Among mark) (sym (ap marks' fact ∙ own)) (Among-left mark left (sent node) b))
    ]
    | inr ne ↦ inr (subst (Among mark) (sym (others who ne)) (Among-left mark (marks who) (sent who) a))
  ]

  -- the order of the mail of each
  order-row : (low bound to : ℕ) (who : ℕ) → AreInOrder low (marks who) → Each (IsBelow bound) (marks who) → low ≤ bound → Each (IsNew bound to) (sent who) → AreInOrder low (marks' who)
  order-row low bound to who o below le new = elim (cases_eq who node) [
    | inl fact ↦ (let o' = left_order low taken (marks node) left takes (subst (λ n. AreInOrder low (marks n)) fact o) in
        let b' = left_each (IsBelow bound) taken (marks node) left takes (subst (λ n. Each (IsBelow bound) (marks n)) fact below) in
        let n' = subst (λ n. Each (IsNew bound to) (sent n)) fact new in
        subst (AreInOrder low) (sym (ap marks' fact ∙ own)) (order-append low bound left (sent node) o' b' le (order-new bound to (sent node) n')))
    | inr ne ↦ subst (AreInOrder low) (sym (others who ne)) (order-append low bound (marks who) (sent who) o below le (order-new bound to (sent who) new))
  ]

  below-row : (bound to : ℕ) (who : ℕ) → bound ≤ to → Each (IsBelow bound) (marks who) → Each (IsNew bound to) (sent who) → Each (IsBelow to) (marks' who)
  below-row bound to who le below new = elim (cases_eq who node) [
    | inl fact ↦ (let b' = left_each (IsBelow bound) taken (marks node) left takes (subst (λ n. Each (IsBelow bound) (marks n)) fact below) in
        let n' = subst (λ n. Each (IsNew bound to) (sent n)) fact new in
        subst (Each (IsBelow to)) (sym (ap marks' fact ∙ own)) (below-append bound to left (sent node) le b' n'))
    | inr ne ↦ subst (Each (IsBelow to)) (sym (others who ne)) (below-append bound to (marks who) (sent who) le below new)
  ]

  -- the slots of Tells marks after a row that takes none
  taught-row : (who : ℕ) → ((slot : ℕ) → who ≡ node → taken ≡ Teaches slot → ⊥) → taught_slots (marks' who) ≡ taught_slots (marks who) ++ taught_slots (sent who)
  taught-row who never = elim (cases_eq who node) [
    | inl fact ↦ ap (λ n. taught_slots (marks' n)) fact
        ∙ (ap taught_slots own
        ∙ (taught-append left (sent node)
        ∙ (ap (λ t. t ++ taught_slots (sent node)) (sym (left_taught taken (marks node) left takes (λ slot e. never slot fact e))) ∙ ap (λ n. taught_slots (marks n) ++ taught_slots (sent n)) (sym fact))))
    | inr ne ↦ ap taught_slots (others who ne) ∙ taught-append (marks who) (sent who)
  ]

  -- ---- the four kinds

  module _ (stand : (who : ℕ) → (who ≡ node → ⊥) → after.next who ≡ now.next who) where
    next_same : after.next node ≡ now.next node → (who : ℕ) → after.next who ≡ now.next who
    next_same e who = elim (cases_eq who node) [ inl fact ↦ ap after.next fact ∙ (e ∙ ap now.next (sym fact)) | inr ne ↦ stand who ne ]

    idle : IsIdle now after node taken sent → IsBetween frame after marks'
    idle i =
        let next = next_same i.next in
        let new : (who : ℕ) → Each (IsNew now.bound now.bound) (sent who) = λ who. other-new now.bound now.bound (sent who) (i.sends who) in
        let never : (who slot : ℕ) → who ≡ node → taken ≡ Teaches slot → ⊥ = λ who slot fact e. (let bad : Teaches slot ≡ Other = sym e ∙ i.takes in cc) in
        record {
          learners = λ who member follows.
              learning_at (now.next who) (now.next frame.lead) (after.next who) (after.next frame.lead) (marks' who) (next who) (next frame.lead)
              (learning_same (now.next who) (now.next frame.lead) (marks who) (marks' who) (taught-row who (never who) ∙ (ap (λ t. taught_slots (marks who) ++ t) (taught-other (sent who) (i.sends who)) ∙ append-nil (taught_slots (marks who)))) (was.learners who member follows));
          order = λ who. subst (λ n. AreInOrder n (marks' who)) (sym (next who)) (order-row (now.next who) now.bound now.bound who (was.order who) (was.below who) (was.low who) (new who));
          below = λ who. subst (λ n. Each (IsBelow n) (marks' who)) (sym i.bound) (below-row now.bound now.bound who (omega arith) (was.below who) (new who));
          low = λ who. (let le = was.low who in let e = next who in let b = i.bound in omega (arith, le, e, b));
          undone = λ slot a. elim (came frame.lead (Asks slot) a) [ inl b ↦ i.voters slot ∙ was.undone slot b | inr b ↦ absurd (other-asks (sent frame.lead) (Asks slot) (i.sends frame.lead) (asks≢other slot) b) ];
          flying = λ slot voters e. (let le = was.flying slot voters (sym (i.voters slot) ∙ e) in let n = next frame.lead in omega (arith, le, n));
          votes = λ slot voters e member fact. voting slot voters member (was.votes slot voters (sym (i.voters slot) ∙ e) member fact) i;
        }
      where
        voting : (slot : ℕ) (voters : List ℕ) (member : ℕ) → IsVoting member slot voters (marks member) (marks frame.lead) → IsIdle now after node taken sent → IsVoting member slot voters (marks' member) (marks' frame.lead)
        voting slot voters member (inl v) i = inl v
        voting slot voters member (inr (inl a)) i = elim (stays member (Asks slot) a) [ inl both ↦ absurd (asks≢other slot (sym both.1 ∙ i.takes)) | inr b ↦ inr (inl b) ]
        voting slot voters member (inr (inr a)) i = elim (stays frame.lead (Votes member slot) a) [ inl both ↦ absurd (votes≢other member slot (sym both.1 ∙ i.takes)) | inr b ↦ inr (inr b) ]

    accepts : Accepts frame now after node taken sent → IsBetween frame after marks'
    accepts i =
        let next = next_same i.next in
        let bound : i.slot < now.bound = below-among now.bound (marks node) (Asks i.slot) (was.below node) (subst (λ m. Among m (marks node)) i.takes there) in
        let new : (who : ℕ) → Each (IsNew now.bound now.bound) (sent who) = λ who. elim (cases_eq who frame.lead) [
          | inl fact ↦ subst (Each (IsNew now.bound now.bound)) (sym (ap sent fact ∙ i.lead)) (bound, tt)
          | inr ne ↦ other-new now.bound now.bound (sent who) (i.others who ne)
        ] in
        let never : (who slot : ℕ) → who ≡ node → taken ≡ Teaches slot → ⊥ = λ who slot fact e. (let bad : Asks i.slot ≡ Teaches slot = sym i.takes ∙ e in cc) in
        let silent : (who : ℕ) → taught_slots (sent who) ≡ [] = λ who. elim (cases_eq who frame.lead) [ inl fact ↦ ap (λ n. taught_slots (sent n)) fact ∙ ap taught_slots i.lead | inr ne ↦ taught-other (sent who) (i.others who ne) ] in
        record {
          learners = λ who member follows.
              learning_at (now.next who) (now.next frame.lead) (after.next who) (after.next frame.lead) (marks' who) (next who) (next frame.lead)
              (learning_same (now.next who) (now.next frame.lead) (marks who) (marks' who) (taught-row who (never who) ∙ (ap (λ t. taught_slots (marks who) ++ t) (silent who) ∙ append-nil (taught_slots (marks who)))) (was.learners who member follows));
          order = λ who. subst (λ n. AreInOrder n (marks' who)) (sym (next who)) (order-row (now.next who) now.bound now.bound who (was.order who) (was.below who) (was.low who) (new who));
          below = λ who. subst (λ n. Each (IsBelow n) (marks' who)) (sym i.bound) (below-row now.bound now.bound who (omega arith) (was.below who) (new who));
          low = λ who. (let le = was.low who in let e = next who in let b = i.bound in omega (arith, le, e, b));
          undone = λ slot a. elim (came frame.lead (Asks slot) a) [ inl b ↦ i.voters slot ∙ was.undone slot b | inr b ↦ absurd (unasked slot (subst (Among (Asks slot)) i.lead b)) ];
          flying = λ slot voters e. (let le = was.flying slot voters (sym (i.voters slot) ∙ e) in let n = next frame.lead in omega (arith, le, n));
          votes = λ slot voters e member fact. voting slot voters member (was.votes slot voters (sym (i.voters slot) ∙ e) member fact) i;
        }
      where
        there : Among taken (marks node)
        there = elim takes [ inl fact ↦ subst (Among taken) (sym fact) (inl refl) | inr fact ↦ (let bad : Asks i.slot ≡ Other = sym i.takes ∙ fact.0 in cc) ]

        unasked : (slot : ℕ) → Among (Asks slot) (Votes node i.slot ∷ []) → ⊥
        unasked slot (inl e) = cc
        unasked slot (inr b) = b

        voting : (slot : ℕ) (voters : List ℕ) (member : ℕ) → IsVoting member slot voters (marks member) (marks frame.lead) → Accepts frame now after node taken sent → IsVoting member slot voters (marks' member) (marks' frame.lead)
        voting slot voters member (inl v) i = inl v
        voting slot voters member (inr (inl a)) i = elim (stays member (Asks slot) a) [
          | inl both ↦ (let same : Asks i.slot ≡ Asks slot = sym i.takes ∙ both.1 in
              let at : i.slot ≡ slot = cc in
              let vote : Votes node i.slot ≡ Votes member slot = ap (λ n. Votes n i.slot) (sym both.0) ∙ ap (λ t. Votes member t) at in
              inr (inr (goes frame.lead (Votes member slot) (subst (Among (Votes member slot)) (sym i.lead) (inl vote)))))
          | inr b ↦ inr (inl b)
        ]
        voting slot voters member (inr (inr a)) i = elim (stays frame.lead (Votes member slot) a) [ inl both ↦ (let bad : Asks i.slot ≡ Votes member slot = sym i.takes ∙ both.1 in cc) | inr b ↦ inr (inr b) ]

    learns : Learns frame now after node taken sent → IsBetween frame after marks'
    learns i =
        let lead : after.next frame.lead ≡ now.next frame.lead = stand frame.lead (λ e. i.follows (sym e)) in
        let before : marks node ≡ Teaches i.slot ∷ left = there in
        let own_learning = first_recorded (now.next node) (now.next frame.lead) (ap taught_slots before) (was.learners node i.member i.follows) in
        let at : i.slot ≡ now.next node = own_learning.0 in
        let bound : i.slot < now.bound = below-among now.bound (marks node) (Teaches i.slot) (was.below node) (subst (Among (Teaches i.slot)) (sym before) (inl refl)) in
        let new : (who : ℕ) → Each (IsNew now.bound now.bound) (sent who) = λ who. other-new now.bound now.bound (sent who) (i.sends who) in
        let silent : (who : ℕ) → taught_slots (sent who) ≡ [] = λ who. taught-other (sent who) (i.sends who) in
        let own_taught : taught_slots (marks' node) ≡ taught_slots left = ap taught_slots own ∙ (taught-append left (sent node) ∙ (ap (λ t. taught_slots left ++ t) (silent node) ∙ append-nil (taught_slots left))) in
        let o : AreInOrder (max (now.next node) (suc i.slot)) left = subst (AreInOrder (now.next node)) before (was.order node) in
        let own_order : AreInOrder (after.next node) (marks' node) =
        (let n = i.next in
        subst (AreInOrder (after.next node)) (sym own)
        (order-append (after.next node) now.bound left (sent node) (order-lower (after.next node) (max (now.next node) (suc i.slot)) left (omega (arith, n, at)) o)
        (left_each (IsBelow now.bound) taken (marks node) left takes (was.below node)) (omega (arith, n, at, bound)) (order-new now.bound now.bound (sent node) (new node)))) in
        record {
          learners = λ who member follows. elim (cases_eq who node) [
            | inl fact ↦ subst (λ n. IsLearning (after.next n) (after.next frame.lead) (marks' n)) (sym fact)
                (learning_at (suc (now.next node)) (now.next frame.lead) (after.next node) (after.next frame.lead) (marks' node) (i.next ∙ one_more (now.next node)) lead
                (learning_same (suc (now.next node)) (now.next frame.lead) left (marks' node) own_taught own_learning.1))
            | inr ne ↦ learning_at (now.next who) (now.next frame.lead) (after.next who) (after.next frame.lead) (marks' who) (stand who ne) lead
                (learning_same (now.next who) (now.next frame.lead) (marks who) (marks' who) (ap taught_slots (others who ne) ∙ (taught-append (marks who) (sent who) ∙ (ap (λ t. taught_slots (marks who) ++ t) (silent who) ∙ append-nil (taught_slots (marks who))))) (was.learners who member follows))
          ];
          order = λ who. elim (cases_eq who node) [
            | inl fact ↦ subst (λ n. AreInOrder (after.next n) (marks' n)) (sym fact) own_order
            | inr ne ↦ subst (λ n. AreInOrder n (marks' who)) (sym (stand who ne)) (order-row (now.next who) now.bound now.bound who (was.order who) (was.below who) (was.low who) (new who))
          ];
          below = λ who. subst (λ n. Each (IsBelow n) (marks' who)) (sym i.bound) (below-row now.bound now.bound who (omega arith) (was.below who) (new who));
          low = λ who. elim (cases_eq who node) [
            | inl fact ↦ (let e = ap after.next fact in let n = i.next in let b = i.bound in omega (arith, e, n, b, at, bound))
            | inr ne ↦ (let e = stand who ne in let le = was.low who in let b = i.bound in omega (arith, e, le, b))
          ];
          undone = λ slot a. elim (came frame.lead (Asks slot) a) [ inl b ↦ i.voters slot ∙ was.undone slot b | inr b ↦ absurd (other-asks (sent frame.lead) (Asks slot) (i.sends frame.lead) (asks≢other slot) b) ];
          flying = λ slot voters e. (let le = was.flying slot voters (sym (i.voters slot) ∙ e) in omega (arith, le, lead));
          votes = λ slot voters e member fact. voting slot voters member (was.votes slot voters (sym (i.voters slot) ∙ e) member fact) i;
        }
      where
        one_more : (n : ℕ) → n + 1 ≡ suc n
        one_more n = omega arith

        there : marks node ≡ Teaches i.slot ∷ left
        there = elim takes [ inl fact ↦ fact ∙ ap (λ m. m ∷ left) i.takes | inr fact ↦ (let bad : Teaches i.slot ≡ Other = sym i.takes ∙ fact.0 in cc) ]

        first_by : (from to k : ℕ) (slots : List ℕ) (slot : ℕ) → from + k ≡ to → slot ∷ slots ≡ numbers_from from k → (slot ≡ from) × (j : ℕ) × (suc from + j ≡ to) × (slots ≡ numbers_from (suc from) j)
        first_by from to zero slots slot e fact = cc
        first_by from to (suc k) slots slot e fact = (cc, k, omega (arith, e), (let rest : slots ≡ numbers_from (from + 1) k = cc in rest ∙ ap (λ n. numbers_from n k) (one_more from)))

        first_recorded : (from to : ℕ) → taught_slots (marks node) ≡ i.slot ∷ taught_slots left → IsLearning from to (marks node) → (i.slot ≡ from) × IsLearning (suc from) to left
        first_recorded from to e l = (let f = first_by from to l.left (taught_slots left) i.slot l.reaches (sym e ∙ l.tells) in (f.0, record { left = f.1; reaches = f.2; tells = f.3 }))

        voting : (slot : ℕ) (voters : List ℕ) (member : ℕ) → IsVoting member slot voters (marks member) (marks frame.lead) → Learns frame now after node taken sent → IsVoting member slot voters (marks' member) (marks' frame.lead)
        voting slot voters member (inl v) i = inl v
        voting slot voters member (inr (inl a)) i = elim (stays member (Asks slot) a) [ inl both ↦ (let bad : Teaches i.slot ≡ Asks slot = sym i.takes ∙ both.1 in cc) | inr b ↦ inr (inl b) ]
        voting slot voters member (inr (inr a)) i = elim (stays frame.lead (Votes member slot) a) [ inl both ↦ (let bad : Teaches i.slot ≡ Votes member slot = sym i.takes ∙ both.1 in cc) | inr b ↦ inr (inr b) ]

    leads : Leads frame now after node taken sent → IsBetween frame after marks'
    leads i =
        let never : (who slot : ℕ) → who ≡ node → taken ≡ Teaches slot → ⊥ = λ who slot fact e. never_taught frame taken i.takes slot e in
        record {
          learners = λ who member follows.
              (let l = was.learners who member follows in
              let away : who ≡ node → ⊥ = λ e. follows (e ∙ i.leads) in
              let from : after.next who ≡ now.next who = stand who away in
              let reach = l.reaches in
              let next = i.next in
              let at : now.next node ≡ now.next who + l.left = (ap now.next i.leads ∙ sym reach) in
              let lead : after.next frame.lead ≡ after.next node = ap after.next (sym i.leads) in
              record {
                left = l.left + i.executed;
                reaches = omega (arith, from, next, at, lead);
                tells = taught-row who (never who)
                    ∙ (ap (λ t. t ++ taught_slots (sent who)) l.tells
                    ∙ (ap (λ t. numbers_from (now.next who) l.left ++ t) (i.tells who member follows ∙ ap (λ n. numbers_from n i.executed) at)
                    ∙ (sym (numbers-append (now.next who) l.left i.executed) ∙ ap (λ n. numbers_from n (l.left + i.executed)) (sym from))));
              });
          order = λ who. elim (cases_eq who node) [
            | inl fact ↦ subst (λ n. AreInOrder (after.next n) (marks' n)) (sym fact)
                (order-raise (now.next node) (after.next node) (marks' node) (order-row (now.next node) now.bound after.bound node (was.order node) (was.below node) (was.low node) (i.sends node))
                (λ slot a. i.flying slot [] (undone_node i slot a)))
            | inr ne ↦ subst (λ n. AreInOrder n (marks' who)) (sym (stand who ne)) (order-row (now.next who) now.bound after.bound who (was.order who) (was.below who) (was.low who) (i.sends who))
          ];
          below = λ who. below-row now.bound after.bound who i.bound (was.below who) (i.sends who);
          low = λ who. elim (cases_eq who node) [
            | inl fact ↦ (let e = ap after.next fact in let w = i.within in let b = i.bound in omega (arith, e, w, b))
            | inr ne ↦ (let e = stand who ne in let le = was.low who in let b = i.bound in omega (arith, e, le, b))
          ];
          undone = λ slot a. undone_node i slot (subst (λ n. Among (Asks slot) (marks' n)) (sym i.leads) a);
          flying = λ slot voters e. (let le = i.flying slot voters e in let lead = ap after.next i.leads in omega (arith, le, lead));
          votes = λ slot voters e member fact. grown_votes i slot voters member fact (i.grown slot voters e);
        }
      where
        undone_node : Leads frame now after node taken sent → (slot : ℕ) → Among (Asks slot) (marks' node) → after.voters slot ≡ Some []
        undone_node i slot a = elim (Among-either (Asks slot) left (sent node) (subst (Among (Asks slot)) own a)) [
          | inl b ↦ i.kept slot [] (was.undone slot (subst (λ n. Among (Asks slot) (marks n)) i.leads (left_among taken (marks node) left (Asks slot) takes b)))
              (elsewhere (now.next node) taken (marks node) left slot takes (was.order node) b)
          | inr b ↦ i.offered slot b
        ]

        counted_votes : (i : Leads frame now after node taken sent) (slot : ℕ) (voters : List ℕ) (member : ℕ) (c : IsCounted now taken slot voters) → IsVoting member slot c.before (marks member) (marks frame.lead) → IsVoting member slot voters (marks' member) (marks' frame.lead)
        counted_votes i slot voters member c (inl v) = inl (c.keeps member v)
        counted_votes i slot voters member c (inr (inl a)) = elim (stays member (Asks slot) a) [ inl both ↦ absurd (never_asked frame taken i.takes slot both.1) | inr b ↦ inr (inl b) ]
        counted_votes i slot voters member c (inr (inr a)) = elim (stays frame.lead (Votes member slot) a) [ inl both ↦ inl (c.counts member both.1) | inr b ↦ inr (inr b) ]

        grown_votes : (i : Leads frame now after node taken sent) (slot : ℕ) (voters : List ℕ) (member : ℕ) → is_member (frame.at slot) member ≡ true → IsOffered frame now sent slot voters ⊎ IsCounted now taken slot voters → IsVoting member slot voters (marks' member) (marks' frame.lead)
        grown_votes i slot voters member fact (inl o) = inr (inl (goes member (Asks slot) (o.asks member fact)))
        grown_votes i slot voters member fact (inr c) = counted_votes i slot voters member c (was.votes slot c.before c.flew member fact)

  -- what stands between the leader and its nodes is kept by each row
  pub between-row : Moves frame now after node taken sent → IsBetween frame after marks'
  between-row m = elim m.how [ inl i ↦ idle m.others i | inr (inl i) ↦ accepts m.others i | inr (inr (inl i)) ↦ learns m.others i | inr (inr (inr i)) ↦ leads m.others i ]
