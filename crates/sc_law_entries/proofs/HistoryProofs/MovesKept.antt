-- Each move keeps that the history matches what all groups hold, and so do all moves one after another.
use Rattle.std.proofs.Common.{◌≡◌, List, [], ◌∷◌, ◌++◌, Option, refl, sym, ap, ◌∙◌, subst, append-nil, append_assoc, arith}
use Rattle.std.specs.FinMap.{get, get-empty}
use Rattle.std.specs.Ordering.{nat_cmp}
use Rattle.sc_base.specs.declared.names.Draw.{Draw}
use Rattle.sc_words.specs.ideal.IdealDefinitions.{HasEntry}
use Rattle.sc_words.specs.declared.ideal.Entry.{Entry}
use Rattle.sc_law_entries.specs.history.HistoryDefinitions.{Holding, Holdings, RequestOf, Move, Unmoved, ServedBy, DividedAt, JoinedTo, GivenFrom, TakenUpTo, MayMakeAll, MovesKeepHistories, MovesMakeHistories, AreBare, MatchesHoldings, with_holding, holdings_after, holdings_after_all, history_by, entries_by}
use Rattle.sc_law_entries.proofs.HistoryProofs.Disjoint.{IsGood, SharesOut, shared_disjoint, shared_reported}
use Rattle.sc_law_entries.proofs.HistoryProofs.Shares.{divided, joined_up, given, taken}
use Rattle.sc_law_entries.proofs.HistoryProofs.Serving.{served_kept}
use Rattle.sc_law_entries.proofs.HistoryProofs.StoreAdditions.{entry_later}
use Rattle.std.proofs.lemmas.Option.{none-some}
use Rattle.sc_meaning.proofs.EntriesProofs.EntryLemmas.{part_of_nothing as empty_part}

-- ---- one move

no_entry : (request : RequestOf) (history : List Entry) (holdings : Holdings) → MatchesHoldings request history holdings → MatchesHoldings request (history ++ []) holdings
no_entry request history holdings recorded = subst (λ es. MatchesHoldings request es holdings) (sym (append-nil history)) recorded

all_good : (request : RequestOf) (history : List Entry) (holdings : Holdings) → MatchesHoldings request history holdings → (name : Draw) → IsGood history (holdings name)
all_good request history holdings recorded name holding fact = (recorded.disjoint.arcs name holding fact, recorded.recorded name holding fact)

-- two holdings that share out what two had
shared_kept : (request : RequestOf) (history : List Entry) (holdings : Holdings) (group other : Draw) (mine theirs : Option Holding) → MatchesHoldings request history holdings
    → SharesOut history holdings group other mine theirs → MatchesHoldings request (history ++ []) (with_holding other theirs (with_holding group mine holdings))
shared_kept request history holdings group other mine theirs recorded share =
    let good = all_good request history holdings recorded in
    no_entry request history _ (record {
      legal = recorded.legal;
      asked = recorded.asked;
      disjoint = shared_disjoint history holdings group other mine theirs recorded.disjoint good share;
      recorded = shared_reported history holdings group other mine theirs recorded.disjoint good share;
    })

pub move_kept : MovesKeepHistories
move_kept request history holdings Unmoved recorded may = no_entry request history holdings recorded
move_kept request history holdings (ServedBy group client seq op) recorded may = served_kept request history holdings recorded group client seq op may
move_kept request history holdings (DividedAt group at child) recorded may =
    shared_kept request history holdings group child _ _ recorded (divided history holdings recorded.disjoint (all_good request history holdings recorded) group at child may)
move_kept request history holdings (JoinedTo group next) recorded may =
    shared_kept request history holdings group next _ _ recorded (joined_up history holdings recorded.disjoint (all_good request history holdings recorded) group next may)
move_kept request history holdings (GivenFrom group at next) recorded may =
    shared_kept request history holdings group next _ _ recorded (given history holdings recorded.disjoint (all_good request history holdings recorded) group at next may)
move_kept request history holdings (TakenUpTo group at next) recorded may =
    shared_kept request history holdings group next _ _ recorded (taken history holdings recorded.disjoint (all_good request history holdings recorded) group at next may)

-- holdings that are the same at each name match the same history
pub same_reported : (request : RequestOf) (history : List Entry) (holdings others : Holdings) → ((name : Draw) → others name ≡ holdings name) → MatchesHoldings request history holdings → MatchesHoldings request history others
same_reported request history holdings others same recorded = record {
  legal = recorded.legal;
  asked = recorded.asked;
  disjoint = record {
    arcs = λ name holding fact. recorded.disjoint.arcs name holding (sym (same name) ∙ fact);
    only = λ p name other holding another fact its held held_too. recorded.disjoint.only p name other holding another (sym (same name) ∙ fact) (sym (same other) ∙ its) held held_too;
  };
  recorded = λ name holding fact. recorded.recorded name holding (sym (same name) ∙ fact);
}

-- ---- all moves

tells_on : (request : RequestOf) (history : List Entry) (holdings : Holdings) (moves : List Move) → MatchesHoldings request history holdings → MayMakeAll request holdings moves
    → MatchesHoldings request (history ++ history_by holdings moves) (holdings_after_all holdings moves)
tells_on request history holdings [] recorded may = no_entry request history holdings recorded
tells_on request history holdings (move ∷ moves) recorded may =
    let next = holdings_after move holdings in
    subst (λ es. MatchesHoldings request es (holdings_after_all next moves)) (append_assoc history (entries_by move holdings) (history_by next moves))
    (tells_on request (history ++ entries_by move holdings) next moves (move_kept request history holdings move recorded may.0) may.1)

may_prefix : (request : RequestOf) (holdings : Holdings) (prefix more : List Move) → MayMakeAll request holdings (prefix ++ more) → MayMakeAll request holdings prefix
may_prefix request holdings [] more may = tt
may_prefix request holdings (move ∷ prefix) more may = (may.0, may_prefix request (holdings_after move holdings) prefix more may.1)

history_prefix : (holdings : Holdings) (prefix more : List Move) → history_by holdings (prefix ++ more) ≡ history_by holdings prefix ++ history_by (holdings_after_all holdings prefix) more
history_prefix holdings [] more = refl
history_prefix holdings (move ∷ prefix) more =
    ap (λ es. entries_by move holdings ++ es) (history_prefix (holdings_after move holdings) prefix more)
    ∙ sym (append_assoc (entries_by move holdings) (history_by (holdings_after move holdings) prefix) (history_by (holdings_after_all holdings (move ∷ prefix)) more))

-- ---- from a bare start

-- at an empty start nothing is in the history
pub bare_reported : (request : RequestOf) (holdings : Holdings) → AreBare holdings → MatchesHoldings request [] holdings
bare_reported request holdings bare = record {
  legal = record { replay = tt; once = λ i j d below inside. absurd (omega arith) };
  asked = λ e a. absurd a;
  disjoint = bare.disjoint;
  recorded = λ name holding fact. (
      let none = bare.bare name holding fact in
      record {
        pairs = none.pairs ∙ sym (empty_part holding.arc);
        noted = λ e a h. absurd a;
        notes = λ client n e. absurd (none-some n (sym (get-empty nat_cmp client) ∙ ap (λ t. get t client) (sym none.clients) ∙ e));
      });
}

tells_all : (request : RequestOf) (holdings : Holdings) → AreBare holdings → (moves : List Move) → MayMakeAll request holdings moves → MatchesHoldings request (history_by holdings moves) (holdings_after_all holdings moves)
tells_all request holdings bare moves may = tells_on request [] holdings moves (bare_reported request holdings bare) may

pub moves_make_history : MovesMakeHistories
moves_make_history request holdings bare moves may = (
  tells_all request holdings bare moves may,
  λ prefix more fact group holding found client n e. (
      let first = tells_all request holdings bare prefix (may_prefix request holdings prefix more (subst (MayMakeAll request holdings) fact may)) in
      let had = (first.recorded group holding found).notes client n e in
      subst (λ es. HasEntry es client n.seq n.reply) (sym (ap (history_by holdings) fact ∙ history_prefix holdings prefix more))
      (entry_later (history_by holdings prefix) (history_by (holdings_after_all holdings prefix) more) client n.seq n.reply had)),
)
