use Rattle.std.proofs.Common.{◌≡◌, [], ◌∷◌, ◌++◌, false, ap, sym, ◌∙◌, subst}
use Rattle.indexmap.proofs.CallerLemmas.{insert_entry-new}
use Rattle.sc_linear_law.proofs.ListFacts.{pairs_push}
use Rattle.sc_linear.specs.Search.{same_place}
use Rattle.sc_linear.specs.Standing.{AreApart, is_seen}
use Rattle.sc_linear.proofs.SeenLemmas.{none_from, unseen_apart}
use Rattle.sc_linear.proofs.seen.Seen.push.Goals as goal

pub invariant_of-self-2 : goal.invariant_of-self-2
invariant_of-self-2 c =
    let unseen : is_seen c.args.place c.self.inside.places.entries ≡ false = subst (λ es. is_seen c.args.place es ≡ false) (sym c.self.view_is) c.requires in
    subst AreApart (sym (c.in_ok-insert.ensures.entries ∙ insert_entry-new same_place c.self.inside.places c.args.place c.args.path (none_from _ unseen)))
    (pairs_push _ _ _ c.self.invariant (unseen_apart c.args.place c.self.inside.places.entries unseen))

-- src/seen.rt:76:5
pub returns : goal.returns
returns c =
    let unseen : is_seen c.args.place c.self.inside.places.entries ≡ false = subst (λ es. is_seen c.args.place es ≡ false) (sym c.self.view_is) c.requires in
    c.in_ok-insert.ensures.entries ∙ insert_entry-new same_place c.self.inside.places c.args.place c.args.path (none_from _ unseen)
    ∙ ap (λ es. es ++ (c.args.place, c.args.path) ∷ []) c.self.view_is
