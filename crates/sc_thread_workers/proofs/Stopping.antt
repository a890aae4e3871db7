-- Turns one after the other, none of which was refused.
use Rattle.std.proofs.Common.{◌≡◌, ℕ, ◌<◌, Bool, true, false, List, [], ◌∷◌, length, get_or, set, get_or-set_other, get_or-set_same, ◌≢◌, ◌+◌, true≢false, refl, sym, ap, ◌∙◌, subst, arith}
use Rattle.sc_actor.specs.declared.actors.Actor.{Ghosts}
use Rattle.sc_actor.specs.declared.actors.Parcel.{Ghosts as MailGhosts}
use Rattle.sc_thread_work.specs.declared.shell.shells.Shell.{Shell}
use Rattle.sc_thread_workers.specs.Crews.{Took, AllTook, Sound, AllSound, HasStopped, HasRefusal}
use Rattle.sc_thread_work.specs.declared.shell.turns.Turn.{Turn}
use Rattle.sc_thread_workers.proofs.Crews.{refused_unsound}

module _ {A M O : Type 0} {g : Ghosts A M O} {h : MailGhosts M} where
  none_stopped : (ts : List (Shell A M O g h)) (many : ℕ) → many ≡ length ts → HasStopped ts many → AllSound ts → ⊥
  none_stopped ts many l stopped sound = by ts refl
    where
      by : (us : List (Shell A M O g h)) → us ≡ ts → ⊥
      by [] e = absurd (omega (arith, stopped.inside, l, ap length e))
      by (d ∷ us) e = stopped.unsound d (sound stopped.place d (omega (arith, stopped.inside, l)))

  -- where no turn was refused, each shell took one
  pub took_all : (ss ts : List (Shell A M O g h)) (stopped : Bool) (many : ℕ) → many ≡ length ss → length ts ≡ length ss → (stopped ≡ false → (k : ℕ) (d : Shell A M O g h) → k < many → Took (get_or ss k d) (get_or ts k d)) → (stopped ≡ true → HasStopped ts many) → AllSound ts → AllTook ss ts
  took_all ss ts true many l m whole halted sound = absurd (none_stopped ts many (omega (arith, l, m)) (halted refl) sound)
  took_all ss ts false many l m whole halted sound = λ k d lt. whole refl k d (omega (arith, l, lt))

  -- one shell more
  pub stops_more : (ts : List (Shell A M O g h)) (i : ℕ) (new : Shell A M O g h) (was now : Bool) → i < length ts → (was ≡ true → HasStopped ts i) → (was ≡ false → now ≡ true → ¬ Sound new) → now ≡ true → HasStopped (set ts i new) (i + 1)
  stops_more ts i new true now lt before here stops = let b = before refl in record {
    place = b.place;
    inside = omega (arith, b.inside);
    unsound = λ d. let ne : b.place ≢ i = omega (arith, b.inside) in subst (λ s. ¬ Sound s) (sym (get_or-set_other ts i b.place new d ne)) (b.unsound d);
  }
  stops_more ts i new false now lt before here stops = record {
    place = i;
    inside = omega arith;
    unsound = λ d. subst (λ s. ¬ Sound s) (sym (get_or-set_same ts i new d lt)) (here refl stops);
  }

-- what is calm now was calm before
pub was_calm : (was now : Bool) → (was ≡ true → now ≡ true) → now ≡ false → was ≡ false
was_calm true now stays calm = absurd (true≢false (sym (stays refl) ∙ calm))
was_calm false now stays calm = refl

module _ {A M O : Type 0} {g : Ghosts A M O} {h : MailGhosts M} where
  -- a refusal came with deliveries left
  pub short_so : (ts : List (Shell A M O g h)) (stopped : Bool) (many did most : ℕ) → many ≡ length ts → (stopped ≡ true → did < most) → (stopped ≡ false → (k : ℕ) (d : Shell A M O g h) → k < many → Sound (get_or ts k d)) → (r : Turn) → HasRefusal ts r → did < most
  short_so ts true many did most l less calm r refused = less refl
  short_so ts false many did most l less calm r refused = by ts refl
    where
      by : (us : List (Shell A M O g h)) → us ≡ ts → did < most
      by [] e = absurd (omega (arith, refused.inside, ap length e))
      by (d ∷ us) e = absurd (refused_unsound (get_or ts refused.place d) r (refused.reported d) (calm refl refused.place d (omega (arith, refused.inside, l))))

-- fewer than the most were made, one shell more
pub less_more : (was now : Bool) (before after most : ℕ) → (was ≡ true → before < most) → (was ≡ true → after ≡ before) → (was ≡ false → now ≡ true → after < most) → now ≡ true → after < most
less_more true now before after most less same stops is = omega (arith, less refl, same refl)
less_more false now before after most less same stops is = stops refl is
