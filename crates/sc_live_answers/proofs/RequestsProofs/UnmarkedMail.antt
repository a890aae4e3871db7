-- Mail that has no mark for any group is nothing to requests.
use Rattle.std.proofs.Common.{◌≡◌, ℕ, cond, true, false, Bool, List, [], ◌∷◌, ◌++◌, Option, Some, None, refl, sym, ◌∙◌, ap}
use Rattle.sc_base.specs.Definitions.{Each, same_draw}
use Rattle.sc_node_table.specs.Values.{Draw, Mail, MailBody, Accept, Accepted, Learn}
use Rattle.sc_node_table.specs.NodeDefinitions.{listed}
use Rattle.sc_live_steps.specs.following.FollowingDefinitions.{Mark, marks_of, mark_of}
use Rattle.sc_live_plain.specs.PlainDefinitions.{Mark as AskMark, Other, mark, mark_of as ask_mark}

no_some : {X : Type 0} (x : X) (b : Bool) → b ≡ true → cond b (Some x) None ≡ None → ⊥
no_some x b t e = (let bad : Some x ≡ None = sym (ap (λ y. cond y (Some x) None) t) ∙ e in cc)

-- a name that is not the one of a mark
module _ (b : Bool) (m : Mark) (a : AskMark) where
  not_asked : cond b (Some m) None ≡ None → cond b a Other ≡ Other
  not_asked e = by b refl
    where
      by : (c : Bool) → b ≡ c → cond b a Other ≡ Other
      by true t = absurd (no_some m b t e)
      by false f = ap (λ x. cond x a Other) f

other : (name : Draw) (from : ℕ) (body : MailBody) → mark_of name from body ≡ None → ask_mark name from body ≡ Other
other name from (Accept group ballot slot command) e = not_asked (same_draw group name) _ _ e
other name from (Accepted group ballot slot) e = not_asked (same_draw group name) _ _ e
other name from (Learn group slot command) e = not_asked (same_draw group name) _ _ e
other name from _ e = refl

pub none_first : (o : Option Mark) (marks : List Mark) → listed o ++ marks ≡ [] → (o ≡ None) × (marks ≡ [])
none_first None marks e = (refl, e)
none_first (Some m) marks e = cc

pub desk_marks : (mails : List Mail) → ((name : Draw) → marks_of name mails ≡ []) → Each (λ mail. (name : Draw) → mark name mail ≡ Other) mails
desk_marks [] none = tt
desk_marks (mail ∷ mails) none = (
  λ name. other name mail.from mail.body (none_first (mark_of name mail.from mail.body) (marks_of name mails) (none name)).0,
  desk_marks mails (λ name. (none_first (mark_of name mail.from mail.body) (marks_of name mails) (none name)).1),
)
