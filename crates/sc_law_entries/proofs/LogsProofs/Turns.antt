-- A row decides in turn where it does for each group that is found before it.
use Rattle.std.proofs.Common.{◌≡◌, zero, suc, List, [], ◌∷◌, ◌++◌, length, drop, sym, ◌∙◌, ap, subst, append-nil}
use Rattle.std.proofs.Math.Seq.{drop-length}
use Rattle.sc_base.specs.Definitions.{Among, Each}
use Rattle.sc_words.specs.declared.commands.cores.Base.{Base}
use Rattle.sc_words.specs.declared.commands.orders.OrderLine.{OrderLine}
use Rattle.sc_mail.specs.declared.bodies.Mail.{Mail}
use Rattle.sc_actor.specs.declared.rows.Row.{Row}
use Rattle.sc_meaning.specs.sound.SoundDefinitions.{Ahead, children_of, children_by, entries_at, decided_log, decided_state, Continues}
use Rattle.sc_law_entries.specs.ring.RingDefinitions.{Sources, IsAllowed, stories_of}
use Rattle.sc_law_entries.specs.logs.LogDefinitions.{Rows, IsFound, added_by, newborn_by, DecidesInTurn}
use Rattle.sc_law_entries.proofs.LogsProofs.Generations.{group_found}

module _ (sources : Sources) (ahead : Ahead) (bases : List Base) (before : Rows) (row : Row Mail OrderLine) where
  -- what a row does of one group
  pub record TurnFor (base : Base) : Type 0 where
    pub goes_on : Continues (decided_log ahead base before) (decided_log ahead base (before ++ row ∷ []))
    pub allowed : Each (IsAllowed sources (stories_of bases (entries_at ahead bases before)) base.core.id) (added_by ahead before row base)
    pub unheard : (child : Base) → Among child (newborn_by ahead before row base) → decided_log ahead child (before ++ row ∷ []) ≡ []

  -- of each group
  pub in_turn : ((base : Base) → IsFound ahead bases before base → TurnFor base) → DecidesInTurn sources ahead bases before row
  in_turn each = record {
    goes_on = λ base a. (each base (group_found ahead bases before base a)).goes_on;
    allowed = λ base a. (each base (group_found ahead bases before base a)).allowed;
    unheard = λ base a. (each base (group_found ahead bases before base a)).unheard;
  }

  -- a group whose log stays
  pub rests : (base : Base) → decided_log ahead base (before ++ row ∷ []) ≡ decided_log ahead base before → TurnFor base
  rests base same =
      let none : added_by ahead before row base ≡ [] = ap (drop (length (decided_log ahead base before))) same ∙ drop-length (decided_log ahead base before) in
      let allows = IsAllowed sources (stories_of bases (entries_at ahead bases before)) base.core.id in
      record {
        goes_on = ([], same ∙ sym (append-nil (decided_log ahead base before)));
        allowed = subst (Each allows) (sym none) tt;
        unheard = λ child a. absurd (subst (λ cs. Among child (children_of (decided_state ahead base before) cs)) none a);
      }

-- the groups that are found are all in a list that has those of the scenario, and with each its children
pub found_within : (ahead : Ahead) (bases : List Base) (rows : Rows) (all : List Base) → ((base : Base) → Among base bases → Among base all)
    → ((base : Base) → Among base all → (child : Base) → Among child (children_by ahead rows base) → Among child all) → (base : Base) → IsFound ahead bases rows base → Among base all
found_within ahead bases rows all first closed base (zero, a) = first base a
found_within ahead bases rows all first closed base (suc depth, (parent, d, child)) = closed parent (found_within ahead bases rows all first closed parent (depth, d)) base child
