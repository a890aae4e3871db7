-- The head of a queue.
use Rattle.std.specs.Prelude.{Bool, true, List, [], ◌∷◌, Option, Some, None}
use Rattle.sc_node_table.specs.Values.{Lock, Command}
use Rattle.sc_node_table.specs.NodeDefinitions.{waits}

-- the first of a list, if it has one
abbrev pub head_of : {X : Type 0} → List X → Option X
head_of [] = None
head_of (x ∷ xs) = Some x

-- whether the head of the queue of requests and orders has to wait, or there is none
abbrev pub head_waits : Bool → Lock → List Command → Bool
head_waits idle lock [] = true
head_waits idle lock (command ∷ backlog) = waits idle lock command
