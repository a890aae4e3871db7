-- The rows of a journal with a split decide in turn, one after another.
use Rattle.std.proofs.Common.{◌≡◌, List, [], ◌∷◌, ◌++◌, inl, inr, refl, subst, arith}
use Rattle.sc_base.specs.Definitions.{Among}
use Rattle.sc_words.specs.declared.commands.cores.Base.{Base}
use Rattle.sc_words.specs.declared.commands.orders.OrderLine.{OrderLine}
use Rattle.sc_mail.specs.declared.bodies.Mail.{Mail}
use Rattle.sc_actor.specs.declared.rows.Row.{Row}
use Rattle.sc_group_table.specs.machine.MachineDefinitions.{group_of, child_of}
use Rattle.sc_law_entries.specs.history.HistoryDefinitions.{offspring, lone_base}
use Rattle.sc_law_entries.proofs.HistoryProofs.HistoryLemmas.{example_of_entries}
use Rattle.sc_law_entries.specs.ring.RingDefinitions.{BeginInPlace, BeginsInPlace}
use Rattle.sc_meaning.specs.sound.SoundDefinitions.{four, children_by, decided_log}
use Rattle.sc_law_entries.specs.logs.LogDefinitions.{Rows, IsFound, DecidesInTurn, split_sources, lone_bases, journal_split, put_a_call, offers_split, accepts_split, decides_split, asks_child, offers_put, decides_put, ExampleInTurn}
use Rattle.sc_law_entries.proofs.LogsProofs.Turns.{TurnFor, in_turn, rests, found_within}

-- the child
abbrev child : Base
child = child_of (group_of lone_base) 1610612736 offspring

-- ---- the groups of each prefix

abbrev alone : List Base
alone = lone_base ∷ []

abbrev both : List Base
both = lone_base ∷ child ∷ []

-- a fact of the one group, and of each of the two
of_one : (P : Base → Type 0) → P lone_base → (base : Base) → Among base alone → P base
of_one P p base (inl e) = subst P e p
of_one P p base (inr none) = absurd none

of_both : (P : Base → Type 0) → P lone_base → P child → (base : Base) → Among base both → P base
of_both P p q base (inl e) = subst P e p
of_both P p q base (inr (inl e)) = subst P e q
of_both P p q base (inr (inr none)) = absurd none

-- where nothing is decided there is one
one_found : (rows : Rows) → children_by four rows lone_base ≡ [] → (base : Base) → IsFound four lone_bases rows base → Among base alone
one_found rows none base f =
    found_within four lone_bases rows alone (λ b a. a)
    (of_one (λ b. (c : Base) → Among c (children_by four rows b) → Among c alone) (λ c a. absurd (subst (Among c) none a))) base f

-- and after the split there are two
two_found : (rows : Rows) → children_by four rows lone_base ≡ child ∷ [] → children_by four rows child ≡ [] → (base : Base) → IsFound four lone_bases rows base → Among base both
two_found rows one none base f =
    found_within four lone_bases rows both (of_one (λ b. Among b both) (inl refl))
    (of_both (λ b. (c : Base) → Among c (children_by four rows b) → Among c both) (λ c a. inr (subst (Among c) one a)) (λ c a. absurd (subst (Among c) none a))) base f

-- ---- each row

abbrev TurnAt : Rows → Row Mail OrderLine → Type 0
TurnAt before row = DecidesInTurn split_sources four lone_bases before row

abbrev after_one : Rows
after_one = offers_split ∷ []

abbrev after_two : Rows
after_two = offers_split ∷ accepts_split ∷ []

abbrev after_three : Rows
after_three = offers_split ∷ accepts_split ∷ decides_split ∷ []

abbrev after_four : Rows
after_four = offers_split ∷ accepts_split ∷ decides_split ∷ asks_child ∷ []

abbrev after_five : Rows
after_five = offers_split ∷ accepts_split ∷ decides_split ∷ asks_child ∷ offers_put ∷ []

-- a row that decides nothing for one group
rests_for_one : (before : Rows) (row : Row Mail OrderLine) → children_by four before lone_base ≡ [] → decided_log four lone_base (before ++ row ∷ []) ≡ decided_log four lone_base before → TurnAt before row
rests_for_one before row none same =
    in_turn split_sources four lone_bases before row
    (λ base f. of_one (TurnFor split_sources four lone_bases before row) (rests split_sources four lone_bases before row lone_base same) base (one_found before none base f))

-- and for two
rests_for_both : (before : Rows) (row : Row Mail OrderLine) → children_by four before lone_base ≡ child ∷ [] → children_by four before child ≡ []
    → decided_log four lone_base (before ++ row ∷ []) ≡ decided_log four lone_base before → decided_log four child (before ++ row ∷ []) ≡ decided_log four child before → TurnAt before row
rests_for_both before row one none same still =
    in_turn split_sources four lone_bases before row
    (λ base f. of_both (TurnFor split_sources four lone_bases before row) (rests split_sources four lone_bases before row lone_base same) (rests split_sources four lone_bases before row child still)
    base (two_found before one none base f))

splits : TurnFor split_sources four lone_bases after_two decides_split lone_base
splits = record {
  goes_on = (journal_split ∷ [], refl);
  allowed = ((refl, omega arith), tt);
  unheard = λ c a. elim a [ inl e ↦ subst (λ b. decided_log four b after_three ≡ []) e refl | inr none ↦ absurd none ];
}

puts : TurnFor split_sources four lone_bases after_five decides_put child
puts = record {
  goes_on = (put_a_call ∷ [], refl);
  allowed = (refl, tt);
  unheard = λ c a. absurd a;
}

third : TurnAt after_two decides_split
third = in_turn split_sources four lone_bases after_two decides_split (λ base f. of_one (TurnFor split_sources four lone_bases after_two decides_split) splits base (one_found after_two refl base f))

last : TurnAt after_five decides_put
last =
    in_turn split_sources four lone_bases after_five decides_put
    (λ base f. of_both (TurnFor split_sources four lone_bases after_five decides_put) (rests split_sources four lone_bases after_five decides_put lone_base refl) puts base (two_found after_five refl refl base f))

-- ---- all

start : BeginInPlace split_sources lone_bases
start = record {
  covers = example_of_entries.bare.covers;
  first = of_one (BeginsInPlace split_sources lone_bases) (record {
    between = record { succ = (lone_base, inl refl, refl, refl); pred = (lone_base, inl refl, refl, refl) };
    free = refl;
    here = refl;
    empty = refl;
    unowned = refl;
  });
}

pub example_in_turn : ExampleInTurn
example_in_turn = record {
  start = start;
  bare = example_of_entries.bare;
  turn = (
    rests_for_one [] offers_split refl refl,
    (rests_for_one after_one accepts_split refl refl, (third, (rests_for_both after_three asks_child refl refl refl refl, (rests_for_both after_four offers_put refl refl refl refl, (last, tt))))),
  );
  groups = refl;
  first = refl;
  second = refl;
}
