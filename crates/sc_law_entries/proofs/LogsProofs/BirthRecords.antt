-- Lists: what several elements give, of which one gives something, and birth records that are found by their names.
use Rattle.std.proofs.Common.{◌≡◌, true, false, List, [], ◌∷◌, ◌++◌, fold, find, Some, None, ◌⊎◌, inl, inr, refl, sym, ◌∙◌, ap, subst, append-nil}
use Rattle.std.specs.List.{flat_map, list_any}
use Rattle.std.proofs.lemmas.Bool.{cases_Bool, or_left, or_right, or_cases, cond-true, cond-false}
use Rattle.sc_base.specs.Definitions.{Among, Each}
use Rattle.sc_base.specs.declared.names.Draw.{Draw}
use Rattle.sc_base.proofs.Lemmas.{same_name, draw_is}
use Rattle.sc_words.specs.declared.commands.cores.Base.{Base}
use Rattle.sc_paxos_law.proofs.Lemmas.{Among-left, Among-right, Among-either}
use Rattle.sc_words.proofs.PaxosProofs.PaxosLemmas.{Each-append, Each-among}
use Rattle.sc_meaning.proofs.EntriesProofs.EntryLemmas.{other_name}
use Rattle.sc_law_entries.proofs.RingProofs.RingLemmas.{Pairwise}
use Rattle.sc_meaning.specs.sound.SoundDefinitions.{is_birth_of, with_birth}

-- ---- lists

-- nothing comes of elements of which nothing comes
pub flat_map_none : {X Y : Type 0} (f : X → List Y) (xs : List X) → ((x : X) → Among x xs → f x ≡ []) → flat_map f xs ≡ []
flat_map_none f [] none = refl
flat_map_none f (x ∷ xs) none = ap (λ ys. ys ++ flat_map f xs) (none x (inl refl)) ∙ flat_map_none f xs (λ y a. none y (inr a))

-- two birth records have two names
abbrev pub HaveTwoNames : Base → Base → Type 0
HaveTwoNames one other = one.core.id ≡ other.core.id → ⊥

-- what comes of the one of these that has a name
pub flat_map_one : {Y : Type 0} (f : Base → List Y) (bases : List Base) → Pairwise HaveTwoNames bases → (base : Base) → Among base bases
    → ((other : Base) → Among other bases → (other.core.id ≡ base.core.id → ⊥) → f other ≡ []) → flat_map f bases ≡ f base
flat_map_one f [] apart base a none = absurd a
flat_map_one f (b ∷ bases) apart base (inl fact) none =
    ap (λ ys. f b ++ ys) (flat_map_none f bases (λ other a. none other (inr a) (λ same. Each-among (HaveTwoNames b) bases other apart.0 a (ap (λ (x : Base). x.core.id) fact ∙ sym same))))
    ∙ append-nil (f b) ∙ ap f fact
flat_map_one f (b ∷ bases) apart base (inr a) none =
    ap (λ ys. ys ++ flat_map f bases) (none b (inl refl) (λ same. Each-among (HaveTwoNames b) bases base apart.0 a same))
    ∙ flat_map_one f bases apart.1 base a (λ other there. none other (inr there))

-- ---- names

-- the one of these with a name is found by it
pub find_base : (bases : List Base) (base : Base) → Among base bases → ((other : Base) → Among other bases → other.core.id ≡ base.core.id → other ≡ base) → find (is_birth_of base.core.id) bases ≡ Some base
find_base [] base a only = absurd a
find_base (b ∷ bases) base a only =
    elim (cases_Bool (is_birth_of base.core.id b)) [
      | inl t ↦ cond-true (is_birth_of base.core.id b) (Some b) (find (is_birth_of base.core.id) bases) t ∙ ap (λ (x : Base). Some x) (only b (inl refl) (draw_is b.core.id base.core.id t))
      | inr f ↦ cond-false (is_birth_of base.core.id b) (Some b) (find (is_birth_of base.core.id) bases) f
          ∙ find_base bases base (behind a f) (λ other there. only other (inr there))
    ]
  where
    behind : Among base (b ∷ bases) → is_birth_of base.core.id b ≡ false → Among base bases
    behind (inl fact) f = absurd (let t = same_name b.core.id base.core.id (ap (λ (x : Base). x.core.id) fact) in let no_way : true ≡ false = sym t ∙ f in cc)
    behind (inr there) f = there

-- where none has the name, none is found
pub find_no_base : (bases : List Base) (name : Draw) → ((other : Base) → Among other bases → other.core.id ≡ name → ⊥) → find (is_birth_of name) bases ≡ None
find_no_base [] name none = refl
find_no_base (b ∷ bases) name none =
    cond-false (is_birth_of name b) (Some b) (find (is_birth_of name) bases) (other_name b.core.id name (none b (inl refl))) ∙ find_no_base bases name (λ other a. none other (inr a))

-- ---- one birth more

any_named : (bases : List Base) (name : Draw) → list_any (is_birth_of name) bases ≡ true → (b : Base) × Among b bases × (b.core.id ≡ name)
any_named [] name e = cc
any_named (b ∷ bases) name e = elim (or_cases (is_birth_of name b) (list_any (is_birth_of name) bases) e) [
  | inl t ↦ (b, inl refl, draw_is b.core.id name t)
  | inr t ↦ (let k = any_named bases name t in (k.0, inr k.1, k.2))
]

none_named : (bases : List Base) (name : Draw) → list_any (is_birth_of name) bases ≡ false → Each (λ (b : Base). b.core.id ≡ name → ⊥) bases
none_named [] name e = tt
none_named (b ∷ bases) name e = (
  λ same. (let t = or_left (is_birth_of name b) (list_any (is_birth_of name) bases) (same_name b.core.id name same) in let no_way : true ≡ false = sym t ∙ e in absurd (cc)),
  none_named bases name (elim (cases_Bool (list_any (is_birth_of name) bases)) [
    | inl t ↦ (let k = or_right (is_birth_of name b) (list_any (is_birth_of name) bases) t in let no_way : true ≡ false = sym k ∙ e in absurd (cc))
    | inr f ↦ f
  ]),
)

-- with a birth more, by whether its name is there
birth_cases : (P : List Base → Type 0) (bases : List Base) (c : Base) → (list_any (is_birth_of c.core.id) bases ≡ true → P bases) → (list_any (is_birth_of c.core.id) bases ≡ false → P (bases ++ c ∷ [])) → P (with_birth bases c)
birth_cases P bases c named lone = elim (cases_Bool (list_any (is_birth_of c.core.id) bases)) [
  | inl t ↦ subst P (sym (cond-true (list_any (is_birth_of c.core.id) bases) bases (bases ++ c ∷ []) t)) (named t)
  | inr f ↦ subst P (sym (cond-false (list_any (is_birth_of c.core.id) bases) bases (bases ++ c ∷ []) f)) (lone f)
]

-- one of them with the name of this one
abbrev pub HasNamed : Base → List Base → Type 0
HasNamed c bases = (b : Base) × Among b bases × (b.core.id ≡ c.core.id)

with_from : (bases : List Base) (c b : Base) → Among b (with_birth bases c) → Among b bases ⊎ (c ≡ b)
with_from bases c b = birth_cases (λ bs. Among b bs → Among b bases ⊎ (c ≡ b)) bases c (λ t a. inl a) (λ f a. elim (Among-either b bases (c ∷ []) a) [
  | inl there ↦ inl there
  | inr (inl fact) ↦ inr fact
  | inr (inr n) ↦ absurd n
])

with_still : (bases : List Base) (c b : Base) → Among b bases → Among b (with_birth bases c)
with_still bases c b a = birth_cases (λ bs. Among b bs) bases c (λ t. a) (λ f. Among-left b bases (c ∷ []) a)

with_named : (bases : List Base) (c : Base) → HasNamed c (with_birth bases c)
with_named bases c = birth_cases (HasNamed c) bases c (λ t. any_named bases c.core.id t) (λ f. (c, Among-right c bases (c ∷ []) (inl refl), refl))

pairwise_push : (bases : List Base) (c : Base) → Pairwise HaveTwoNames bases → Each (λ (b : Base). b.core.id ≡ c.core.id → ⊥) bases → Pairwise HaveTwoNames (bases ++ c ∷ [])
pairwise_push [] c apart others = (tt, tt)
pairwise_push (b ∷ bases) c apart others = (Each-append (HaveTwoNames b) bases (c ∷ []) apart.0 (others.0, tt), pairwise_push bases c apart.1 others.1)

with_apart : (bases : List Base) (c : Base) → Pairwise HaveTwoNames bases → Pairwise HaveTwoNames (with_birth bases c)
with_apart bases c apart = birth_cases (Pairwise HaveTwoNames) bases c (λ t. apart) (λ f. pairwise_push bases c apart (none_named bases c.core.id f))

-- ---- more births

pub births_from : (bases more : List Base) (b : Base) → Among b (fold with_birth bases more) → Among b bases ⊎ Among b more
births_from bases [] b a = inl a
births_from bases (c ∷ more) b a = elim (births_from (with_birth bases c) more b a) [
  | inl there ↦ elim (with_from bases c b there) [ inl old ↦ inl old | inr fact ↦ inr (inl fact) ]
  | inr there ↦ inr (inr there)
]

pub births_still : (bases more : List Base) (b : Base) → Among b bases → Among b (fold with_birth bases more)
births_still bases [] b a = a
births_still bases (c ∷ more) b a = births_still (with_birth bases c) more b (with_still bases c b a)

pub births_named : (bases more : List Base) (c : Base) → Among c more → HasNamed c (fold with_birth bases more)
births_named bases [] c a = absurd a
births_named bases (d ∷ more) c (inl fact) =
    let k = with_named bases d in
    (k.0, births_still (with_birth bases d) more k.0 k.1, k.2 ∙ ap (λ (x : Base). x.core.id) fact)
births_named bases (d ∷ more) c (inr a) = births_named (with_birth bases d) more c a

pub births_apart : (bases more : List Base) → Pairwise HaveTwoNames bases → Pairwise HaveTwoNames (fold with_birth bases more)
births_apart bases [] apart = apart
births_apart bases (c ∷ more) apart = births_apart (with_birth bases c) more (with_apart bases c apart)
