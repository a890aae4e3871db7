use Rattle.sc_texts.proofs.ChanceProofs.Drawn.{words_drawn}
use Rattle.sc_texts.proofs.chance.words.Chance.draw.Goals as goal

pub returns-clause-words : goal.returns-clause-words
returns-clause-words c =
    let drawn =
    words_drawn c.self.inside.number c.self.inside.rng c.next_word-first.new.rng c.next_word-second.new.rng c.next_word-first.result c.next_word-second.result
    c.self.invariant.0 c.self.invariant.1 c.self.invariant.2 c.self.invariant.3 c.next_word-first.ensures c.next_word-second.ensures in
    rw (← c.self.view_is) drawn
