-- What stands in a JSON string for visible bytes.
use Rattle.std.proofs.Common.{◌≡◌, ℕ, ◌≤◌, ◌==◌, ◌&&◌, ◌⊎◌, inl, inr, true, false, nat_le, List, [], ◌∷◌, ◌++◌, length, take, refl, sym, subst, ◌∙◌, ap, append-nil, append_assoc, arith}
use Rattle.std.proofs.lemmas.Bool.{and_parts, ne_eqb}
use Rattle.std.proofs.lemmas.Bool.Decides.{nat_tests}
use Rattle.std.proofs.lemmas.List.{take_all}
use Rattle.json.specs.Print.{escape_byte, escape, quoted}
use Rattle.sc_base.specs.Text.{is_visible}
use Rattle.sc_json_fast.specs.Prefixes.{is_bare}
use Rattle.sc_json_fast.proofs.Bare.{bare_escape}

-- a quote and a backslash stand behind a backslash
pub marked_byte : (byte : ℕ) → (byte ≡ 34) ⊎ ((byte ≡ 34 → ⊥) × (byte ≡ 92)) → escape_byte byte ≡ 92 ∷ byte ∷ []
unfolding escape_byte
marked_byte byte (inl e) = subst (λ (b : ℕ). escape_byte b ≡ 92 ∷ b ∷ []) (sym e) refl
marked_byte byte (inr e) = subst (λ (b : ℕ). escape_byte b ≡ 92 ∷ b ∷ []) (sym e.1) refl

bare_byte : (byte : ℕ) → is_visible byte ≡ true → (byte ≡ 34 → ⊥) → (byte ≡ 92 → ⊥) → is_bare byte ≡ true
bare_byte byte visible quote slash =
    let above : nat_le 33 byte ≡ true = (and_parts (nat_le 33 byte) (nat_le byte 126) visible).0 in
    let least : nat_le 32 byte ≡ true = grind (arith, nat_tests) in
    let e34 : (byte == 34) ≡ false = ne_eqb byte 34 quote in
    let e92 : (byte == 92) ≡ false = ne_eqb byte 92 slash in
    simp (least, e34, e92)

-- any other visible byte stands there as it is
pub plain_byte : (byte : ℕ) → is_visible byte ≡ true → (byte ≡ 34 → ⊥) → (byte ≡ 92 → ⊥) → escape_byte byte ≡ byte ∷ []
plain_byte byte visible quote slash =
    sym (append-nil (escape_byte byte)) ∙ bare_escape (byte ∷ []) (ap (λ b. b && true) (bare_byte byte visible quote slash))

-- all bytes, between two quotes
pub escape_end : (bytes : List ℕ) (i : ℕ) (old first before after : List ℕ) → length bytes ≤ i → first ≡ old ++ 34 ∷ [] → before ≡ first ++ escape (take i bytes) → after ≡ before ++ 34 ∷ []
    → after ≡ old ++ quoted bytes
escape_end bytes i old first before after le begins so_far ends =
    let all : take i bytes ≡ bytes = take_all i bytes le in
    ends ∙ ap (λ t. t ++ 34 ∷ []) (so_far ∙ ap (λ bs. first ++ escape bs) all ∙ ap (λ t. t ++ escape bytes) begins)
    ∙ append_assoc (old ++ 34 ∷ []) (escape bytes) (34 ∷ []) ∙ append_assoc old (34 ∷ []) (escape bytes ++ 34 ∷ [])
