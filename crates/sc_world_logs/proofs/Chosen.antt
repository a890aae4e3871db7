-- What is chosen with one more acceptance, and when a log is the decided one.
use Rattle.std.proofs.Common.{◌≡◌, ℕ, ◌+◌, ◌<◌, ◌≤◌, ◌&&◌, zero, suc, Bool, true, false, cond, eqb, List, [], ◌∷◌, ◌++◌, length, Option, Some, None, inl, inr, refl, sym, ◌∙◌, ap, subst, arith, append-nil, append_assoc}
use Rattle.std.specs.Prelude.{slice_get}
use Rattle.std.specs.Option.{option_map}
use Rattle.std.proofs.lemmas.Bool.{cases_Bool, eqb-true, cond-false, and_parts, ne_eqb}
use Rattle.std.proofs.lemmas.List.{take-append-le}
use Rattle.std.proofs.lemmas.Option.{none-some, slice_get_within}
use Rattle.sc_base.specs.declared.names.Ballot.{Ballot}
use Rattle.sc_base.specs.Same.{same_ballot}
use Rattle.sc_base.specs.Majority.{is_majority}
use Rattle.sc_words.specs.declared.paxos.reports.Report.{Report}
use Rattle.sc_paxos_law.specs.Steps.{Step, Prepared, Promised, Offered, Accepted, Cut}
use Rattle.sc_paxos_law.specs.Chosen.{Rule, needed, members_of}
use Rattle.sc_paxos_law.specs.Decided.{voters_of, lesser_of, found_in, chosen_at, top_slot, with_next_entries, log_of}
use Rattle.sc_paxos_law.proofs.Among.{get_pushed}
use Rattle.sc_world_logs.specs.Known.{IsChosenSoFar, NothingFollows}
use Rattle.sc_world_logs.proofs.Longer.{with_next_entries-ends, with_next_entries-grows}

-- ---- the highest slot

-- what is found was accepted at a slot not above the highest
found_within : {V : Type 0} (members : List ℕ) (all : List (Step V)) (slot : ℕ) (h : List (Step V)) (r : Report V) → found_in members all slot h ≡ Some r → slot ≤ top_slot h
found_within members all slot [] r e = absurd (none-some r e)
found_within members all slot (Prepared b from ∷ h) r e = found_within members all slot h r e
found_within members all slot (Promised n b from reports ∷ h) r e = found_within members all slot h r e
found_within members all slot (Offered b s value ∷ h) r e = found_within members all slot h r e
found_within members all slot (Cut n upto ∷ h) r e = found_within members all slot h r e
found_within {V} members all slot (Accepted n b s value ∷ h) r e =
    let here : Option (Report V) = Some (lesser_of (record { slot = s; ballot = b; value = value }) (found_in members all slot h)) in
    elim (cases_Bool (eqb s slot && is_majority members (voters_of all b slot))) [
      | inl t ↦ (let same : s ≡ slot = eqb-true s slot (and_parts (eqb s slot) (is_majority members (voters_of all b slot)) t).0 in omega (arith, same))
      | inr f ↦ (let older : slot ≤ top_slot h = found_within members all slot h r (sym (cond-false (eqb s slot && is_majority members (voters_of all b slot)) here (found_in members all slot h) f) ∙ e) in omega (arith, older))
    ]

some_mapped : {X Y : Type 0} (f : X → Y) (o : Option X) (y : Y) → option_map f o ≡ Some y → (x : X) × (o ≡ Some x)
some_mapped f None y e = absurd (none-some y e)
some_mapped f (Some x) y e = (x, refl)

chosen_within : {V : Type 0} (members : List ℕ) (h : List (Step V)) (slot : ℕ) (value : V) → chosen_at members h slot ≡ Some value → slot ≤ top_slot h
chosen_within {V} members h slot value e =
    let found = some_mapped (λ (r : Report V). r.value) (found_in members h slot h) value e in
    found_within members h slot h found.0 found.1

-- ---- one more acceptance, at another slot

neither : {X : Type 0} (b : Bool) (x y : X) → cond (b && false) x y ≡ y
neither true x y = refl
neither false x y = refl

same_voters : {V : Type 0} (n : ℕ) (b : Ballot) (s : ℕ) (value : V) (h : List (Step V)) (ballot : Ballot) (slot : ℕ) → eqb s slot ≡ false → voters_of (Accepted n b s value ∷ h) ballot slot ≡ voters_of h ballot slot
same_voters n b s value h ballot slot other =
    ap (λ (t : Bool). cond (same_ballot b ballot && t) (n ∷ voters_of h ballot slot) (voters_of h ballot slot)) other
    ∙ neither (same_ballot b ballot) (n ∷ voters_of h ballot slot) (voters_of h ballot slot)

found_by_voters : {V : Type 0} (members : List ℕ) (one two : List (Step V)) (slot : ℕ) → ((ballot : Ballot) → voters_of one ballot slot ≡ voters_of two ballot slot)
    → (h : List (Step V)) → found_in members one slot h ≡ found_in members two slot h
found_by_voters members one two slot same [] = refl
found_by_voters members one two slot same (Prepared b from ∷ h) = found_by_voters members one two slot same h
found_by_voters members one two slot same (Promised n b from reports ∷ h) = found_by_voters members one two slot same h
found_by_voters members one two slot same (Offered b s value ∷ h) = found_by_voters members one two slot same h
found_by_voters members one two slot same (Cut n upto ∷ h) = found_by_voters members one two slot same h
found_by_voters {V} members one two slot same (Accepted n b s value ∷ h) =
    ap (λ (voters : List ℕ). cond (eqb s slot && is_majority members voters) (Some (lesser_of (record { slot = s; ballot = b; value = value }) (found_in members one slot h))) (found_in members one slot h)) (same b)
    ∙ ap (λ (older : Option (Report V)). cond (eqb s slot && is_majority members (voters_of two b slot)) (Some (lesser_of (record { slot = s; ballot = b; value = value }) older)) older) (found_by_voters members one two slot same h)

-- an acceptance at another slot changes nothing
pub chosen_elsewhere : {V : Type 0} (members : List ℕ) (n : ℕ) (b : Ballot) (s : ℕ) (value : V) (h : List (Step V)) (slot : ℕ) → eqb s slot ≡ false → chosen_at members (Accepted n b s value ∷ h) slot ≡ chosen_at members h slot
chosen_elsewhere {V} members n b s value h slot other =
    let all : List (Step V) = Accepted n b s value ∷ h in
    ap (option_map (λ (r : Report V). r.value))
    (ap (λ (t : Bool). cond (t && is_majority members (voters_of all b slot)) (Some (lesser_of (record { slot = s; ballot = b; value = value }) (found_in members all slot h))) (found_in members all slot h)) other
    ∙ found_by_voters members all h slot (λ ballot. same_voters n b s value h ballot slot other) h)

-- ---- a log that grows

pub members_so_far : {V : Type 0} (rule : Rule V) (log more : List V) (k : ℕ) → k ≤ length log → members_of rule (log ++ more) (k + 1) ≡ members_of rule log (k + 1)
members_so_far rule log more k le =
    let some : 1 ≤ rule.ahead = rule.some in
    ap rule.members (take-append-le (needed rule (k + 1)) log more (omega (arith, le, some)))

pub chosen_more : {V : Type 0} (rule : Rule V) (h : List (Step V)) (log : List V) (value : V) → IsChosenSoFar rule h log
    → chosen_at (members_of rule log (length log + 1)) h (length log + 1) ≡ Some value → IsChosenSoFar rule h (log ++ value ∷ [])
chosen_more {V} rule h log value so_far next = λ k v is. elim (get_pushed log value k v is) [
  | inl old ↦ (
      let lt : k < length log = slice_get_within log k v old in
      ap (λ (ms : List ℕ). chosen_at ms h (k + 1)) (members_so_far rule log (value ∷ []) k (omega (arith, lt))) ∙ so_far k v old)
  | inr last ↦ (
      let at : k ≡ length log = last.0 in
      ap (λ (ms : List ℕ). chosen_at ms h (k + 1)) (members_so_far rule log (value ∷ []) k (omega (arith, at)))
      ∙ ap (λ (n : ℕ). chosen_at (members_of rule log (n + 1)) h (n + 1)) at ∙ next ∙ ap Some last.1)
]

-- ---- the decided log

seam : {V : Type 0} (prefix : List V) (x : V) (rest : List V) → slice_get (prefix ++ x ∷ rest) (length prefix) ≡ Some x
seam [] x rest = refl
seam (y ∷ prefix) x rest = seam prefix x rest

walk : {V : Type 0} (rule : Rule V) (h : List (Step V)) (log : List V) → IsChosenSoFar rule h log → NothingFollows rule h log
    → (rest prefix : List V) → log ≡ prefix ++ rest → (more : ℕ) → length rest ≤ more → with_next_entries rule h more prefix ≡ log
walk {V} rule h log so_far ends [] prefix is more le =
    let same : log ≡ prefix = is ∙ append-nil prefix in
    with_next_entries-ends rule h more prefix (subst (NothingFollows rule h) same ends) ∙ sym same
walk rule h log so_far ends (x ∷ rest) prefix is zero le = absurd (omega (arith, le))
walk {V} rule h log so_far ends (x ∷ rest) prefix is (suc more) le =
    let here : slice_get log (length prefix) ≡ Some x = ap (λ (xs : List V). slice_get xs (length prefix)) is ∙ seam prefix x rest in
    let chosen : chosen_at (members_of rule prefix (length prefix + 1)) h (length prefix + 1) ≡ Some x =
    ap (λ (ms : List ℕ). chosen_at ms h (length prefix + 1))
    (sym (members_so_far rule prefix (x ∷ rest) (length prefix) (omega arith)) ∙ ap (λ (xs : List V). members_of rule xs (length prefix + 1)) (sym is))
    ∙ so_far (length prefix) x here in
    with_next_entries-grows rule h more prefix x chosen
    ∙ walk rule h log so_far ends rest (prefix ++ x ∷ []) (is ∙ sym (append_assoc prefix (x ∷ []) rest)) more (omega (arith, le))

last_of : {V : Type 0} (x : V) (xs : List V) → (y : V) × (slice_get (x ∷ xs) (length xs) ≡ Some y)
last_of x [] = (x, refl)
last_of x (y ∷ ys) = last_of y ys

length_within : {V : Type 0} (rule : Rule V) (h : List (Step V)) (log : List V) → IsChosenSoFar rule h log → length log ≤ top_slot h
length_within rule h [] so_far = omega arith
length_within rule h (x ∷ xs) so_far =
    let last = last_of x xs in
    let top : length xs + 1 ≤ top_slot h = chosen_within _ h (length xs + 1) last.0 (so_far (length xs) last.0 last.1) in
    omega (arith, top)

-- a log whose entries are chosen, and after which nothing is, is the decided one
pub log_is : {V : Type 0} (rule : Rule V) (h : List (Step V)) (log : List V) → IsChosenSoFar rule h log → NothingFollows rule h log → log_of rule h ≡ log
log_is rule h log so_far ends = walk rule h log so_far ends log [] refl (top_slot h) (length_within rule h log so_far)

-- ---- the log with one more acceptance

-- at a slot behind the log
pub chosen_still : {V : Type 0} (rule : Rule V) (n : ℕ) (b : Ballot) (s : ℕ) (value : V) (h : List (Step V)) (log : List V)
    → ((k : ℕ) (v : V) → s ≡ k + 1 → slice_get log k ≡ Some v → chosen_at (members_of rule log (k + 1)) (Accepted n b s value ∷ h) (k + 1) ≡ Some v)
    → IsChosenSoFar rule h log → IsChosenSoFar rule (Accepted n b s value ∷ h) log
chosen_still {V} rule n b s value h log here so_far = λ k v is. elim (cases_Bool (eqb s (k + 1))) [
  | inl t ↦ here k v (eqb-true s (k + 1) t) is
  | inr f ↦ chosen_elsewhere (members_of rule log (k + 1)) n b s value h (k + 1) f ∙ so_far k v is
]

pub ends_still : {V : Type 0} (rule : Rule V) (n : ℕ) (b : Ballot) (s : ℕ) (value : V) (h : List (Step V)) (log : List V) → s ≤ length log → NothingFollows rule h log → NothingFollows rule (Accepted n b s value ∷ h) log
ends_still rule n b s value h log le ends =
    let other : eqb s (length log + 1) ≡ false = ne_eqb s (length log + 1) (λ e. absurd (omega (arith, le, e))) in
    chosen_elsewhere (members_of rule log (length log + 1)) n b s value h (length log + 1) other ∙ ends
