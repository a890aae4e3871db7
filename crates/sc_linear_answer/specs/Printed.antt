-- What is printed about a history, line by line.
use Rattle.std.specs.Prelude.{ℕ, Bool, List, [], ◌∷◌, ◌++◌, codes, Option, Some, None, if◌then◌else◌}
use Rattle.std.specs.Fmt.{decimal}
use Rattle.sc_base.specs.declared.ops.Op.{Op}
use Rattle.sc_base.specs.declared.ops.Op.TheVariants.{Get, Put, Del, Add, Cas}

-- a line: its text and a line feed
abbrev pub ended : List ℕ → List ℕ
ended text = text ++ 10 ∷ []

-- the line of a label and a number
abbrev pub counted : List ℕ → ℕ → List ℕ
counted label n = ended (label ++ decimal n)

-- a request, as a history has it behind its process
abbrev pub request_text : Op → List ℕ
request_text (Get key) = codes "get " ++ key
request_text (Put key value) = codes "put " ++ key ++ 32 ∷ value
request_text (Del key) = codes "del " ++ key
request_text (Add key value) = codes "add " ++ key ++ 32 ∷ value
request_text (Cas key expect value) = codes "cas " ++ key ++ 32 ∷ expect ++ 32 ∷ value

-- what a request met, as a history has it behind its process
abbrev pub met_text : Option (List ℕ) → List ℕ
met_text None = codes "none"
met_text (Some value) = codes "value " ++ value

-- the line of a request of a linearization: the line on which it began, its process, the request, and what it met
abbrev pub step_line : ℕ → ℕ → Op → Option (List ℕ) → List ℕ
step_line begun process op old = ended (decimal begun ++ codes " " ++ decimal process ++ codes " " ++ request_text op ++ codes " " ++ met_text old)

-- the lines about a linearizable history with these numbers of requests and keys
abbrev pub linearizable_lines : ℕ → ℕ → List (List ℕ)
linearizable_lines requests keys = ended (codes "linearizable") ∷ counted (codes "requests ") requests ∷ counted (codes "keys ") keys ∷ []

-- the lines about a history that is not linearizable: its shortest prefix that is not ends on this line, or on an earlier one, and the requests on this key are at fault
abbrev pub fault_lines : ℕ → Bool → List ℕ → List (List ℕ)
fault_lines line exact key = ended (codes "not linearizable") ∷ counted (if exact then codes "line " else codes "line at most ") line ∷ ended (codes "key " ++ key) ∷ []

-- the lines about a history of which it is not known: on this line the requests on this key had too many places
abbrev pub undecided_lines : ℕ → List ℕ → List (List ℕ)
undecided_lines line key = ended (codes "undecided") ∷ counted (codes "line ") line ∷ ended (codes "key " ++ key) ∷ []
