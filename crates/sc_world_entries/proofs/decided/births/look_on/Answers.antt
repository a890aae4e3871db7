use Rattle.std.proofs.Common.{◌≡◌, ◌++◌, List, [], true, false, fold, sym, ap, subst, ◌∙◌, append-nil, take}
use Rattle.std.specs.List.{flat_map}
use Rattle.sc_words.specs.declared.commands.cores.Base.{Base}
use Rattle.sc_meaning.specs.sound.Players.{as_nodes}
use Rattle.sc_meaning.specs.sound.GroupsOf.{with_birth, with_next_children}
use Rattle.sc_world_logs.specs.declared.known.Known.{Known}
use Rattle.sc_world_entries.specs.decided.Found.{AreKnown, HaveChildrenOf}
use Rattle.sc_world_entries.proofs.DecidedProofs.BornOnce.{all_there, newest_births}
use Rattle.sc_world_entries.proofs.DecidedProofs.Families.{none_born, none_long}
use Rattle.sc_world_entries.proofs.decided.births.look_on.Goals as goal

pub returns-then-is_empty-clause-known : goal.returns-then-is_empty-clause-known
returns-then-is_empty-clause-known c = λ heard pool bases known there.
    let rows = c.args.rows.now in let kept = c.as_slice-kept.result.now in let born = c.in_ok-born.born.items in
    let before = subst (AreKnown rows bases) (sym c.as_slice-kept.ensures.value) known in
    let earlier = subst (λ (ks : List Known). HaveChildrenOf bases (take c.args.from ks)) (sym c.as_slice-kept.ensures.value) there in
    let found = c.in_ok-born.ensures.known heard pool bases before in
    let next = ap (λ (ks : List Known). fold with_birth bases (flat_map (λ (k : Known). k.children.items) ks)) c.behind-newest.ensures ∙ newest_births rows bases kept c.args.from before earlier in
    let after = subst (λ (bs : List Base). AreKnown rows bs (kept ++ born)) next found.0 in
    let same = none_born rows bases (with_next_children as_nodes rows bases) kept born (sym c.as_slice-found.ensures.value ∙ none_long c.as_slice-found.result.now (sym c.is_empty.ensures ∙ c.if-is_empty.true)) before after in (
      subst (λ (bs : List Base). AreKnown rows bs c.args.knowns.now.items) (sym same) known,
      λ t. same,
      found.1,
      all_there rows bases c.args.knowns.now.items [] c.args.knowns.now.items known (sym (append-nil c.args.knowns.now.items)),
    )

pub returns-clause-known : goal.returns-clause-known
returns-clause-known c = λ heard pool bases known there.
    let rows = c.args.rows.now in let kept = c.as_slice-kept.result.now in let born = c.in_ok-born.born.items in
    let before = subst (AreKnown rows bases) (sym c.as_slice-kept.ensures.value) known in
    let earlier = subst (λ (ks : List Known). HaveChildrenOf bases (take c.args.from ks)) (sym c.as_slice-kept.ensures.value) there in
    let found = c.in_ok-born.ensures.known heard pool bases before in
    let next = ap (λ (ks : List Known). fold with_birth bases (flat_map (λ (k : Known). k.children.items) ks)) c.behind-newest.ensures ∙ newest_births rows bases kept c.args.from before earlier in
    let after = subst (λ (bs : List Base). AreKnown rows bs (kept ++ born)) next found.0 in
    let all = ap (λ (ks : List Known). ks ++ born) c.as_slice-kept.ensures.value ∙ sym c.in_ok-add_all.ensures.knowns in (
      subst (AreKnown rows (with_next_children as_nodes rows bases)) all after,
      λ t. let never : false ≡ true = t in absurd (cc),
      found.1,
      all_there rows bases c.args.knowns.now.items born c.add_all.new.knowns.items known c.in_ok-add_all.ensures.knowns,
    )
