-- Turns of the shells of two parts are turns of the shells of both.
use Rattle.std.proofs.Common.{◌≡◌, ℕ, zero, suc, List, [], ◌∷◌, ◌++◌, length, length-append, take, drop, take-append-drop, subst, ap, arith}
use Rattle.sc_actor.specs.declared.actors.Actor.{Ghosts}
use Rattle.sc_actor.specs.declared.actors.Parcel.{Ghosts as MailGhosts}
use Rattle.sc_thread_work.specs.declared.shell.shells.Shell.{Shell}
use Rattle.sc_thread_workers.specs.Crews.{AllTook}

module _ {A M O : Type 0} {g : Ghosts A M O} {h : MailGhosts M} where
  -- of two parts
  pub took_both : (ss ts more after : List (Shell A M O g h)) → length ts ≡ length ss → AllTook ss ts → AllTook more after → AllTook (ss ++ more) (ts ++ after)
  took_both [] [] more after len p q k d lt = q k d lt
  took_both [] (t ∷ ts) more after len p q k d lt = absurd (omega (arith, len))
  took_both (s ∷ ss) [] more after len p q k d lt = absurd (omega (arith, len))
  took_both (s ∷ ss) (t ∷ ts) more after len p q zero d lt = p zero d (omega arith)
  took_both (s ∷ ss) (t ∷ ts) more after len p q (suc k) d lt =
      took_both ss ts more after (omega (arith, len)) (λ i e less. p (suc i) e (omega (arith, less))) q k d (omega (arith, lt))

  -- of the first ones up to a number, and of the others
  pub took_parts : (cut : ℕ) (ss prefix back : List (Shell A M O g h)) → length prefix ≡ length (take cut ss) → AllTook (take cut ss) prefix → AllTook (drop cut ss) back → AllTook ss (prefix ++ back)
  took_parts cut ss prefix back len p q = subst (λ l. AllTook l (prefix ++ back)) (take-append-drop cut ss) (took_both (take cut ss) prefix (drop cut ss) back len p q)

  pub parts_length : (cut : ℕ) (ss prefix back : List (Shell A M O g h)) → length prefix ≡ length (take cut ss) → length back ≡ length (drop cut ss) → length (prefix ++ back) ≡ length ss
  parts_length cut ss prefix back first second =
      let whole : length (take cut ss ++ drop cut ss) ≡ length ss = ap length (take-append-drop cut ss) in
      omega (arith, first, second, whole, length-append prefix back, length-append (take cut ss) (drop cut ss))
