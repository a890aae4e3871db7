-- A child is born once: children that are there are not added again.
use Rattle.std.proofs.Common.{◌≡◌, ℕ, true, List, [], ◌∷◌, ◌++◌, drop, fold, inl, inr, length, refl, sym, take, ap, ◌∙◌, take_at}
use Rattle.std.specs.List.{flat_map, list_any}
use Rattle.std.proofs.lemmas.Bool.{cond-true, or_left, or_right}
use Rattle.std.proofs.lemmas.List.{take-append-drop}
use Rattle.std.proofs.lemmas.Grind.{flat_map-append, fold-append}
use Rattle.sc_base.proofs.Lemmas.{same_name}
use Rattle.sc_base.specs.Definitions.{Among}
use Rattle.sc_words.specs.declared.commands.cores.Base.{Base}
use Rattle.sc_words.specs.declared.commands.orders.OrderLine.{OrderLine}
use Rattle.sc_mail.specs.declared.bodies.Mail.{Mail}
use Rattle.sc_actor.specs.declared.rows.Row.{Row}
use Rattle.sc_meaning.specs.sound.SoundDefinitions.{as_nodes, children_by, is_birth_of, with_birth, with_next_children}
use Rattle.sc_law_entries.proofs.LogsProofs.BirthRecords.{HasNamed, births_named}
use Rattle.sc_world_logs.specs.declared.known.Known.{Known}
use Rattle.sc_world_entries.specs.decided.Found.{AreKnown, HaveChildrenOf}
use Rattle.sc_world_entries.proofs.DecidedProofs.Families.{children_are}

-- the name that one of them has is there
name_there : (bases : List Base) (c b : Base) → Among b bases → b.core.id ≡ c.core.id → list_any (is_birth_of c.core.id) bases ≡ true
name_there [] c b a same = absurd a
name_there (d ∷ bases) c b (inl fact) same = or_left (is_birth_of c.core.id d) (list_any (is_birth_of c.core.id) bases) (same_name d.core.id c.core.id (ap (λ (x : Base). x.core.id) fact ∙ same))
name_there (d ∷ bases) c b (inr a) same = or_right (is_birth_of c.core.id d) (list_any (is_birth_of c.core.id) bases) (name_there bases c b a same)

-- births whose names are there add none
none_new : (bases more : List Base) → ((c : Base) → Among c more → HasNamed c bases) → fold with_birth bases more ≡ bases
none_new bases [] named = refl
none_new bases (c ∷ more) named =
    let here = named c (inl refl) in
    ap (λ (bs : List Base). fold with_birth bs more) (cond-true (list_any (is_birth_of c.core.id) bases) bases (bases ++ c ∷ []) (name_there bases c here.0 here.1 here.2))
    ∙ none_new bases more (λ d a. named d (inr a))

-- in a round, the groups whose children are there already add none
pub newest_births : (rows : List (Row Mail OrderLine)) (bases : List Base) (knowns : List Known) (from : ℕ) → AreKnown rows bases knowns → HaveChildrenOf bases (take from knowns)
    → fold with_birth bases (flat_map (λ (k : Known). k.children.items) (drop from knowns)) ≡ with_next_children as_nodes rows bases
newest_births rows bases knowns from known there =
    let of : Known → List Base = λ (k : Known). k.children.items in
    ap (λ (bs : List Base). fold with_birth bs (flat_map of (drop from knowns))) (sym there)
    ∙ sym (fold-append with_birth bases (flat_map of (take from knowns)) (flat_map of (drop from knowns)))
    ∙ ap (fold with_birth bases) (sym (flat_map-append of (take from knowns) (drop from knowns)) ∙ ap (flat_map of) (take-append-drop from knowns) ∙ children_are rows bases knowns known)

-- and after it, the children of all groups from before it are there
pub all_there : (rows : List (Row Mail OrderLine)) (bases : List Base) (knowns born later : List Known) → AreKnown rows bases knowns → later ≡ knowns ++ born
    → HaveChildrenOf (with_next_children as_nodes rows bases) (take (length knowns) later)
all_there rows bases knowns born later known is =
    let more : List Base = flat_map (children_by as_nodes rows) bases in
    let after : List Base = with_next_children as_nodes rows bases in
    ap (λ (ks : List Known). fold with_birth after (flat_map (λ (k : Known). k.children.items) ks)) (ap (take (length knowns)) is ∙ take_at knowns born (length knowns) refl)
    ∙ ap (fold with_birth after) (children_are rows bases knowns known)
    ∙ none_new after more (births_named bases more)
