-- What plain functions find in a journal.
use Rattle.std.proofs.Common.{◌≡◌, ℕ, zero, suc, ◌+◌, ◌-◌, ◌<◌, ◌≤◌, ◌^◌, List, [], ◌∷◌, ◌++◌, length, Bool, cond, take, drop, replicate, All, get_or, sym, ◌∙◌, ap, subst, arith, append_assoc}
use Rattle.std.proofs.lemmas.List.Elements.{All-weaker}
use Rattle.sc_actor.specs.declared.rows.Row.{Row}
use Rattle.sc_actor.specs.Mail.{mails, copies, numbers}
use Rattle.sc_actor.proofs.BoundLemmas.{copies_bounded}
use Rattle.sc_actor.proofs.CountLemmas.{counted}
use Rattle.sc_actor.proofs.Numbers.{numbers-drop, open_first}

-- the numbers of one more mail
pub found_next : {M : Type 0} (test : M → Bool) (found : List ℕ) (i times : ℕ) (sent : List M) (counts : List ℕ) (mail : M) (all : List ℕ) → i < length sent → i < length counts → mail ≡ get_or sent i mail → times ≡ cond (test mail) (get_or counts i 0) 0 →
    found ++ numbers test (i + 1) (drop i sent) (drop i counts) ≡ all → found ++ replicate times (i + 1) ++ numbers test (i + 1 + 1) (drop (i + 1) sent) (drop (i + 1) counts) ≡ all
found_next test found i times sent counts mail all lt lt' is times_is e =
    append_assoc found (replicate times (i + 1)) (numbers test (i + 1 + 1) (drop (i + 1) sent) (drop (i + 1) counts))
    ∙ ap (λ n. found ++ (replicate n (i + 1) ++ numbers test (i + 1 + 1) (drop (i + 1) sent) (drop (i + 1) counts))) times_is
    ∙ ap (λ xs. found ++ (xs ++ numbers test (i + 1 + 1) (drop (i + 1) sent) (drop (i + 1) counts))) (sym (open_first test (test mail) (get_or counts i 0) (i + 1)))
    ∙ ap (λ xs. found ++ xs) (sym (numbers-drop test (i + 1) i sent counts mail lt lt' is))
    ∙ e

short : {X : Type 0} (i : ℕ) (xs : List X) → length (take i xs) ≤ length xs
short zero xs = omega arith
short (suc i) [] = omega arith
short (suc i) (x ∷ xs) = let le = short i xs in omega (arith, le)

-- there are as many counts as mails
pub as_many : {M O : Type 0} (rows : List (Row M O)) (sent : List M) (counts : List ℕ) → sent ≡ mails rows → counts ≡ copies rows → length counts ≡ length sent
as_many rows sent counts s c = ap length c ∙ counted rows ∙ ap length (sym s)

-- counts of copies have room for one more
pub few_copies : {M O : Type 0} (counts : List ℕ) (rows : List (Row M O)) (i : ℕ) → counts ≡ copies (take i rows) → length rows < 2 ^ 31 → All (λ count. count < 2 ^ 32 - 1) counts
few_copies counts rows i is few =
    let le_all = short i rows in
    subst (All (λ count. count < 2 ^ 32 - 1)) (sym is)
    (All-weaker (λ count. count ≤ length (take i rows)) (λ count. count < 2 ^ 32 - 1) (λ x le. omega (arith, le, le_all, few)) (copies (take i rows)) (copies_bounded (take i rows)))

-- within a list the default does not matter
pub read_any : (xs : List ℕ) (i x : ℕ) → i < length xs → x ≡ get_or xs i x → x ≡ get_or xs i 0
read_any [] i x lt is = absurd (omega arith)
read_any (y ∷ xs) zero x lt is = is
read_any (y ∷ xs) (suc i) x lt is = read_any xs i x (omega arith) is
