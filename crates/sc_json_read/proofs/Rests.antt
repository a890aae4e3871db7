-- What is left of an object's members.
use Rattle.std.proofs.Common.{◌≡◌, ℕ, List}
use Rattle.serde_json.specs.Data.{Data, Members, object, member}

-- an object has one list of members
pub inside : (json : Data) (ms ns : Members) → json ≡ object ms → json ≡ object ns → ms ≡ ns
inside json ms ns one other = cc

-- behind six members there is one rest
pub behind_six : (n0 n1 n2 n3 n4 n5 : List ℕ) (x0 x1 x2 x3 x4 x5 y0 y1 y2 y3 y4 y5 : Data) (all ms ns : Members) → all ≡ member n0 x0 (member n1 x1 (member n2 x2 (member n3 x3 (member n4 x4 (member n5 x5 ms))))) → all ≡ member n0 y0 (member n1 y1 (member n2 y2 (member n3 y3 (member n4 y4 (member n5 y5 ns))))) → ms ≡ ns
behind_six n0 n1 n2 n3 n4 n5 x0 x1 x2 x3 x4 x5 y0 y1 y2 y3 y4 y5 all ms ns one other = cc
