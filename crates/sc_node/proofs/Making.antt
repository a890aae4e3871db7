-- Children appended to those that are there.
use Rattle.std.proofs.Common.{◌≡◌, ◌++◌, List, [], sym, append-nil, append_assoc}
use Rattle.sc_words.specs.declared.commands.cores.Base.{Base}

-- none more
pub none_more : (made : List Base) → made ≡ made ++ []
none_more made = sym (append-nil made)

-- the child of a command, and then those of what follows it
pub one_after_another : (made first rest : List Base) → (made ++ first) ++ rest ≡ made ++ (first ++ rest)
one_after_another made first rest = append_assoc made first rest

-- how children are put behind others
pub ruleset making = (none_more, one_after_another)
