-- The words of a step are the next two of the generator.
use Rattle.std.proofs.Common.{◌≡◌, ℕ, ◌+◌, ◌*◌, ◌/◌, ◌%◌, ◌^◌, ◌<◌, List, ap, ◌∙◌, arith, ap₂}
use Rattle.rand_chacha.specs.ChaCha.{ChaCha, word_at, next_word, key_of}
use Rattle.sc_texts.specs.chance.KeyStream.{seed_of, word_of, two_words}

same_word : (key other : List ℕ) (stream place : ℕ) (at : ℕ) → key ≡ other → stream ≡ 0 → place ≡ at → word_at 4 key stream place ≡ word_at 4 other 0 at
same_word key other stream place at k s p =
    ap (λ k. word_at 4 k stream place) k ∙ ap (λ s. word_at 4 other s place) s ∙ ap (λ p. word_at 4 other 0 p) p

even_more : (place : ℕ) → place ≡ 2 * (place / 2) → place < 2 ^ 68 → (place + 1) % 2 ^ 68 ≡ 2 * (place / 2) + 1
even_more place even below = grind (arith, even, below)

-- two words of a generator of this number at an even place
pub words_drawn : (number : ℕ) (g h k : ChaCha) (a b : ℕ) → g.key ≡ key_of (seed_of number) → g.stream ≡ 0 → g.word_pos ≡ 2 * (g.word_pos / 2) → g.word_pos < 2 ^ 68
    → (a, h) ≡ next_word 4 g → (b, k) ≡ next_word 4 h → (a, b) ≡ two_words number (g.word_pos / 2)
unfolding word_of
words_drawn number g h k a b key stream even below first second =
    let h_is = ap (λ (p : ℕ × ChaCha). p.1) first in
    let a_is = ap (λ (p : ℕ × ChaCha). p.0) first ∙ same_word g.key (key_of (seed_of number)) g.stream g.word_pos (2 * (g.word_pos / 2)) key stream even in
    let b_is = ap (λ (p : ℕ × ChaCha). p.0) second
    ∙ same_word h.key (key_of (seed_of number)) h.stream h.word_pos (2 * (g.word_pos / 2) + 1) (ap (λ (x : ChaCha). x.key) h_is ∙ key) (ap (λ (x : ChaCha). x.stream) h_is ∙ stream)
    (ap (λ (x : ChaCha). x.word_pos) h_is ∙ even_more g.word_pos even below) in
    ap₂ (λ x y. (x, y)) a_is b_is
