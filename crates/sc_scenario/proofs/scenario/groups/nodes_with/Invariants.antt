use Rattle.std.proofs.Common.{◌≡◌, map, drop}
use Rattle.sc_scenario.specs.scenario.Definitions.{nodes_with}
use Rattle.sc_scenario.proofs.scenario.groups.nodes_with.Given as goal

-- the nodes with the words that are left, after those so far, are those with all
abbrev pub invariant-loop-word : goal.invariant-loop-word
invariant-loop-word l =
    nodes_with l.so_far (map (λ word. word.now) (drop l.word-index l.words)) ≡ nodes_with l.fn.nodes (map (λ word. word.now) l.words)
