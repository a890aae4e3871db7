-- The texts of four worked scenarios.
use Rattle.std.specs.Prelude.{ℕ, List, [], ◌∷◌, ◌++◌, codes}

-- a text of these lines, each with a line feed
abbrev pub text_of_lines : List (List ℕ) → List ℕ
text_of_lines [] = []
text_of_lines (line ∷ lines) = line ++ 10 ∷ text_of_lines lines

-- the text in which two nodes accept a value, and another node is elected
abbrev pub election_text : List ℕ
election_text = text_of_lines (
    codes "scatter 1" ∷ codes "nodes 3" ∷ codes "group 0 1 2 3" ∷ codes "client 1" ∷ codes "put a x" ∷ codes "end" ∷ codes "go 1"
    ∷ codes "deliver n1 1" ∷ codes "deliver n2 1" ∷ codes "deliver n3 1" ∷ codes "tick n2" ∷ codes "deliver n3 1"
    ∷ codes "deliver n2 1" ∷ codes "deliver n2 1" ∷ codes "deliver n2 1" ∷ [])

-- the text in which the one member of a group gets the order that another node joins
abbrev pub join_text : List ℕ
join_text = text_of_lines (
    codes "scatter 1" ∷ codes "nodes 2" ∷ codes "group 0 1" ∷ codes "order 1 join 2 0.1"
    ∷ codes "deliver n1 1" ∷ codes "deliver n1 1" ∷ codes "deliver n2 1" ∷ [])

-- the text in which a client asks the first of two groups for a key of the second
abbrev pub two_text : List ℕ
two_text = text_of_lines (
    codes "scatter 1" ∷ codes "nodes 1" ∷ codes "group 0 1" ∷ codes "group 1610612736 1" ∷ codes "client 1" ∷ codes "put a x" ∷ codes "end"
    ∷ codes "go 1" ∷ codes "settle 3" ∷ codes "tick n1" ∷ codes "settle 100" ∷ [])

-- the text in which a lone group splits, and then a client asks for a key of the child
abbrev pub split_text : List ℕ
split_text = text_of_lines (
    codes "scatter 1" ∷ codes "nodes 2" ∷ codes "group 0 1 2" ∷ codes "client 1" ∷ codes "put z x" ∷ codes "end"
    ∷ codes "order 1 split 0.1 1879048192" ∷ codes "settle 100" ∷ codes "go 1" ∷ codes "settle 100" ∷ [])
