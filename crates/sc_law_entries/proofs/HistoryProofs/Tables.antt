-- What a client table notes that was joined with another, and what follows for its notes.
use Rattle.std.specs.Prelude.{nat_lt}
use Rattle.std.proofs.Common.{◌≡◌, ℕ, ◌≤◌, List, Option, Some, None, ◌⊎◌, inl, inr, refl, sym, ◌∙◌, subst, arith}
use Rattle.std.proofs.lemmas.Bool.{cases_Bool, cond-true, cond-false, ltb-true, ltb-false}
use Rattle.std.specs.FinMap.{get, entries}
use Rattle.sc_base.specs.declared.ops.Noted.{Noted}
use Rattle.sc_words.specs.ideal.IdealDefinitions.{ClientTable, joined_with, later}
use Rattle.sc_words.specs.declared.ideal.Entry.{Entry}
use Rattle.sc_words.proofs.IdealProofs.IdealLemmas.{joined_by_number}
use Rattle.sc_law_entries.specs.history.HistoryDefinitions.{IsNotedIn, HasNotes}
use Rattle.std.proofs.lemmas.Option.{none-some, same_Some}

-- of two notes the later one is at no lower number than either
later_left : (least : ℕ) (a b : Option Noted) (n : Noted) → a ≡ Some n → least ≤ n.seq → (m : Noted) × (later a b ≡ Some m) × (least ≤ m.seq)
later_left least None b n e k = absurd (none-some n e)
later_left least (Some a) None n e k = (a, refl, subst (λ (x : Noted). least ≤ x.seq) (sym (same_Some a n e)) k)
later_left least (Some a) (Some b) n e k =
    let ak : least ≤ a.seq = subst (λ (x : Noted). least ≤ x.seq) (sym (same_Some a n e)) k in
    elim (cases_Bool (nat_lt a.seq b.seq)) [
      | inl t ↦ (let l = ltb-true a.seq b.seq t in (b, cond-true (nat_lt a.seq b.seq) (Some b) (Some a) t, omega (arith, ak, l)))
      | inr t ↦ (a, cond-false (nat_lt a.seq b.seq) (Some b) (Some a) t, ak)
    ]

later_right : (least : ℕ) (a b : Option Noted) (n : Noted) → b ≡ Some n → least ≤ n.seq → (m : Noted) × (later a b ≡ Some m) × (least ≤ m.seq)
later_right least a None n e k = absurd (none-some n e)
later_right least None (Some b) n e k = (b, refl, subst (λ (x : Noted). least ≤ x.seq) (sym (same_Some b n e)) k)
later_right least (Some a) (Some b) n e k =
    let bk : least ≤ b.seq = subst (λ (x : Noted). least ≤ x.seq) (sym (same_Some b n e)) k in
    elim (cases_Bool (nat_lt a.seq b.seq)) [
      | inl t ↦ (b, cond-true (nat_lt a.seq b.seq) (Some b) (Some a) t, bk)
      | inr t ↦ (let l = ltb-false a.seq b.seq t in (a, cond-false (nat_lt a.seq b.seq) (Some b) (Some a) t, omega (arith, bk, l)))
    ]

-- it is one of the two
later_is : (a b : Option Noted) (n : Noted) → later a b ≡ Some n → (a ≡ Some n) ⊎ (b ≡ Some n)
later_is a None n e = inl e
later_is None (Some b) n e = inr e
later_is (Some a) (Some b) n e =
    elim (cases_Bool (nat_lt a.seq b.seq)) [
      | inl t ↦ inr (sym (cond-true (nat_lt a.seq b.seq) (Some b) (Some a) t) ∙ e)
      | inr t ↦ inl (sym (cond-false (nat_lt a.seq b.seq) (Some b) (Some a) t) ∙ e)
    ]

-- what either table notes, the joined one notes
pub noted_left : (table other : ClientTable) (entry : Entry) → IsNotedIn table entry → IsNotedIn (joined_with table (entries other)) entry
noted_left table other entry k =
    let r = later_left entry.seq (get table entry.client) (get other entry.client) k.noted k.found k.most in
    record { noted = r.0; found = joined_by_number table other entry.client ∙ r.1; most = r.2 }

pub noted_right : (table other : ClientTable) (entry : Entry) → IsNotedIn other entry → IsNotedIn (joined_with table (entries other)) entry
noted_right table other entry k =
    let r = later_right entry.seq (get table entry.client) (get other entry.client) k.noted k.found k.most in
    record { noted = r.0; found = joined_by_number table other entry.client ∙ r.1; most = r.2 }

-- and it notes nothing else
pub notes_joined : (history : List Entry) (table other : ClientTable) → HasNotes history table → HasNotes history other → HasNotes history (joined_with table (entries other))
notes_joined history table other mine theirs client n e =
    elim (later_is (get table client) (get other client) n (sym (joined_by_number table other client) ∙ e)) [ inl k ↦ mine client n k | inr k ↦ theirs client n k ]
