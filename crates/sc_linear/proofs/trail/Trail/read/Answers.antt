use Rattle.std.proofs.Common.{◌≡◌, ℕ, ◌+◌, ◌-◌, ◌<◌, [], ◌∷◌, ◌++◌, length, reverse, get_or, sym, ap, ◌∙◌, subst, subst₂, arith, append_assoc, List}
use Rattle.std.proofs.lemmas.List.{get_or_read, reverse-append}
use Rattle.sc_linear.specs.declared.trail.Link.{Link}
use Rattle.sc_linear.specs.Trails.{path_at, paths_of}
use Rattle.sc_linear.proofs.TrailLemmas.{length-paths_of, before_low, path_more, path_start}
use Rattle.sc_linear.proofs.trail.Trail.read.Goals as goal

pub index-link-requires : goal.index-link-requires
index-link-requires c = omega (arith, ap length c.self.view_is, length-paths_of c.self.inside.links.items, c.self.inside.links.ok.0, c.loop-at.invariant.within)

first : Link
first = record { before = 0; line = 0; request = 0 }

inside : (c : goal.In_ok-push) → c.loop-at.at - 1 < length c.self.inside.links.items
inside c = omega (arith, ap length c.self.view_is, length-paths_of c.self.inside.links.items, c.loop-at.invariant.within, c.loop-at-test.true)

same_link : (c : goal.In_ok-push) → c.index-link.result.now ≡ get_or c.self.inside.links.items (c.loop-at.at - 1) first
same_link c = get_or_read c.self.inside.links.items (c.loop-at.at - 1) c.index-link.result.now (inside c) c.index-link.ensures first

smaller : (c : goal.In_ok-push) → c.index-link.result.now.before < c.loop-at.at
smaller c = omega (arith, ap (λ (l : Link). l.before) (same_link c), before_low c.self.inside.links.items (c.loop-at.at - 1) first c.self.invariant (inside c), c.loop-at-test.true)

-- the order of this number continues the one that its link names
one_back : (c : goal.In_ok-push) → path_at c.args.self.now c.loop-at.at ≡ path_at c.args.self.now c.index-link.result.now.before ++ (c.index-link.result.now.line, c.index-link.result.now.request) ∷ []
one_back c =
    let links = c.self.inside.links.items in
    let number : (c.loop-at.at - 1) + 1 ≡ c.loop-at.at = omega (arith, c.loop-at-test.true) in
    let step : path_at (paths_of links) c.loop-at.at ≡ path_at (paths_of links) (get_or links (c.loop-at.at - 1) first).before ++ ((get_or links (c.loop-at.at - 1) first).line, (get_or links (c.loop-at.at - 1) first).request) ∷ [] = ap (path_at (paths_of links)) (sym number) ∙ path_more links (c.loop-at.at - 1) first c.self.invariant (inside c) in
    subst₂ (λ (k : List (List (ℕ × ℕ))) (l : Link). path_at k c.loop-at.at ≡ path_at k l.before ++ (l.line, l.request) ∷ []) c.self.view_is (sym (same_link c)) step

pub loop-at-smaller : goal.loop-at-smaller
loop-at-smaller c = smaller c

pub loop-at-preserved : goal.loop-at-preserved
loop-at-preserved c =
    let x : ℕ × ℕ = (c.index-link.result.now.line, c.index-link.result.now.request) in
    record {
      within = omega (arith, smaller c, c.loop-at.invariant.within);
      rest = c.loop-at.invariant.rest ∙ ap (λ p. p ++ reverse c.loop-at.path.items) (one_back c)
          ∙ append_assoc (path_at c.args.self.now c.index-link.result.now.before) (x ∷ []) (reverse c.loop-at.path.items)
          ∙ ap (λ r. path_at c.args.self.now c.index-link.result.now.before ++ r) (sym (ap reverse c.in_ok-push.ensures.items ∙ reverse-append c.loop-at.path.items (x ∷ [])));
    }

pub returns : goal.returns
returns c =
    let none : c.loop-at.at ≡ 0 = omega (arith, c.loop-at-test.false) in
    let start : path_at c.args.self.now c.loop-at.at ≡ [] = ap (path_at c.args.self.now) none ∙ subst (λ k. path_at k 0 ≡ []) c.self.view_is (path_start c.self.inside.links.items) in
    c.reverse.ensures.items ∙ sym (c.loop-at.invariant.rest ∙ ap (λ p. p ++ reverse c.loop-at.path.items) start)
