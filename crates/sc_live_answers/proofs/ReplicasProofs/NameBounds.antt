-- Names of groups are few: those of the scenario, and one more for each order at most.
use Rattle.std.proofs.Common.{◌≡◌, ℕ, ◌+◌, Bool, true, false, cond, List, [], ◌∷◌, ◌++◌, ◌⊎◌, length, map, inl, inr, refl, sym, ◌∙◌, ap, subst, arith, append_assoc, append-nil, length-append}
use Rattle.std.specs.List.{list_any}
use Rattle.std.proofs.lemmas.List.{length-map, take_all}
use Rattle.sc_base.specs.Definitions.{Among, Each, same_draw}
use Rattle.sc_node_table.specs.Values.{Draw, Base, OrderLine, Mail, Seat, Row}
use Rattle.sc_actor.specs.Definitions.{row_of}
use Rattle.sc_live_orderly.specs.OrderlyDefinitions.{orders}
use Rattle.sc_scenario.specs.scenario.Definitions.{ValidScenariosAreBounded}
use Rattle.sc_scenario.specs.declared.scenario.scenarios.Scenario.{Scenario}
use Rattle.sc_node_table.specs.NodeDefinitions.{name_of}
use Rattle.sc_paxos_law.proofs.Lemmas.{Among-left, Among-right}
use Rattle.sc_words.proofs.PaxosProofs.PaxosLemmas.{Each-among, Each-append, Each-passes}
use Rattle.sc_meaning.specs.sound.SoundDefinitions.{Player, player_table, births, as_nodes}
use Rattle.sc_law_groups.proofs.WholeProofs.WholeLemmas.{all_apart}
use Rattle.sc_live_steps.specs.calm.CalmDefinitions.{StandsOnce, Rows, is_led}
use Rattle.sc_live_journals.specs.charts.ChartDefinitions.{all_replicas, led_names, names_at, with_names, LedStandOnce}
use Rattle.sc_live_journals.proofs.ChartsProofs.ChartLemmas.{names_grow}
use Rattle.sc_live_plain.proofs.PlainLemmas.{map_among}
use Rattle.sc_live_journals.specs.scenes.SceneDefinitions.{IsNowhere, IsThere}
use Rattle.sc_live_answers.specs.AnswerDefinitions.{AreCreatedByOrder, IsCalmJournal, IsPrefixOf, IsNamedGroup, PrefixesAreFound, HasFewNames, HasNamesSince, NamesStayFew, RestsAt, Task}
use Rattle.sc_live_answers.proofs.OrdersProofs.OrderDeliveries.{there_or}
use Rattle.sc_live_answers.proofs.AnswersProofs.RestingCharts.{led_is_there, there_is_led}
use Rattle.sc_live_answers.proofs.RestProofs.GoneGroupsInPrefixes.{once_among}
use Rattle.sc_live_answers.proofs.ReplicasProofs.NameLists.{apart_few, once_apart, once_split}
use Rattle.sc_live_answers.proofs.LedGroupsProofs.GuidedGroups.{named_there}

-- ---- lists

-- what holds of names and of one more holds of both
one_more : (P : Draw → Type 0) (names : List Draw) (name : Draw) → Each P names → P name → Each P (cond (list_any (λ other. same_draw other name) names) names (names ++ name ∷ []))
one_more P names name old new = by (list_any (λ other. same_draw other name) names)
  where
    by : (b : Bool) → Each P (cond b names (names ++ name ∷ []))
    by true = old
    by false = Each-append P names (name ∷ []) old (new, tt)

-- what holds of names and of more holds of all
both_names : (P : Draw → Type 0) (names more : List Draw) → Each P names → Each P more → Each P (with_names names more)
both_names P names [] old new = old
both_names P names (name ∷ more) old new = both_names P (cond (list_any (λ other. same_draw other name) names) names (names ++ name ∷ [])) more (one_more P names name old new.0) new.1

module _ (all_bounded : ValidScenariosAreBounded) (led_once : LedStandOnce) (found_law : PrefixesAreFound) (words : ℕ → ℕ → ℕ × ℕ) (scenario : Scenario) (journal : Rows) (calm : IsCalmJournal words scenario journal) where
  abbrev all : List (Seat Player)
  all = births as_nodes scenario

  -- a group that is led is there
  there_led : (rows : Rows) (name : Draw) → is_led all rows name ≡ true → IsThere all rows name
  there_led rows name led = led_is_there all rows name (all_apart scenario (all_bounded scenario calm.valid)) led

  -- the name of a group that is led stands once
  led_stands : (rows : Rows) (name : Draw) → is_led all rows name ≡ true → StandsOnce name (names_at all rows)
  led_stands rows name led = led_once all rows (length rows) name (omega arith) (subst (λ q. is_led all q name ≡ true) (sym (take_all (length rows) rows (omega arith))) led)

  -- ---- at the births

  born_led : Each (λ name. is_led all [] name ≡ true) (names_at all [])
  born_led = both_names (λ name. is_led all [] name ≡ true) [] (led_names all []) tt (Each-passes (λ name. is_led all [] name) (map name_of (all_replicas all [])))

  -- the names of the scenario's groups
  abbrev ids : List Draw
  ids = map (λ (base : Base). base.core.id) scenario.groups

  is_led_born : (group : Draw) → Among group (names_at all []) → is_led all [] group ≡ true
  is_led_born group a = Each-among (λ (name : Draw). is_led all [] name ≡ true) (names_at all []) group born_led a

  of_scenario : (group : Draw) → Among group (names_at all []) → Among group ids
  of_scenario group a =
      let found = found_law words scenario journal [] calm (record { more = journal; fact = refl }) in
      let there = there_led [] group (is_led_born group a) in
      let of = found.replicas group there.0 there.1 (found.views group there.0 ∙ there.2) in
      subst (λ n. Among n ids) of.named (map_among (λ (base : Base). base.core.id) scenario.groups of.base of.among)

  born_few : HasFewNames scenario []
  born_few =
      let low = apart_few (names_at all []) ids (once_apart (names_at all []) (λ group a. led_stands [] group (is_led_born group a))) of_scenario in
      let long = length-map scenario.groups (λ (base : Base). base.core.id) in
      omega (arith, low, long)

  -- ---- since a quiet prefix that rests

  module _ (first : Base) (quiet : Rows) (rests : RestsAt words scenario first journal quiet) where
    -- each group that is there has a name
    quiet_named : (name : Draw) → IsThere all quiet name → Among name (names_at all quiet)
    quiet_named name there = once_among name (names_at all quiet) (led_stands quiet name (there_is_led found_law words scenario first journal quiet calm rests name there))

    module _ (rows : Rows) (row : Row Mail OrderLine) where
      abbrev then : Rows
      then = rows ++ row ∷ []

      -- a name that comes in is of none that was there before
      new_name : (old more : List Draw) → names_at all (rows ++ row ∷ []) ≡ old ++ more → (name : Draw) → is_led all (rows ++ row ∷ []) name ≡ true → Among name more → Among name old → ⊥
      new_name old more same name led new a = once_split name old more (subst (StandsOnce name) same (led_stands then name led)) a new

      -- no name comes in where all groups were there in the quiet
      none_new : ((name : Draw) → IsThere all (rows ++ row ∷ []) name → IsThere all quiet name) → names_at all rows ≡ names_at all quiet → names_at all (rows ++ row ∷ []) ≡ names_at all quiet
      none_new was same = (let grown = names_grow all rows row in by grown.0 (grown.1 ∙ ap (λ l. l ++ grown.0) same) grown.2)
        where
          by : (more : List Draw) → names_at all (rows ++ row ∷ []) ≡ names_at all quiet ++ more → Each (λ name. is_led all (rows ++ row ∷ []) name ≡ true) more → names_at all (rows ++ row ∷ []) ≡ names_at all quiet
          by [] e led = e ∙ append-nil (names_at all quiet)
          by (name ∷ more) e led = absurd (new_name (names_at all quiet) (name ∷ more) e name led.0 (inl refl) (quiet_named name (was name (there_led then name led.0))))

      -- no name but the child's comes in while an order is under way
      module _ (task : Task) (prefix : IsPrefixOf journal (rows ++ row ∷ [])) (created : AreCreatedByOrder scenario journal quiet (rows ++ row ∷ []) task) where
        old_or : (name : Draw) → is_led all (rows ++ row ∷ []) name ≡ true → Among name (names_at all quiet) ⊎ (name ≡ task.name)
        old_or name led = elim (there_or all quiet name) [
          | inl there ↦ inl (quiet_named name there)
          | inr nowhere ↦ (
              let there = there_led then name led in
              let g : IsNamedGroup scenario journal name = named_there found_law words scenario journal then calm prefix name there in
              inr (sym g.2 ∙ (created.only g.0 g.1 (subst (IsNowhere all quiet) (sym g.2) nowhere) (subst (IsThere all then) (sym g.2) there)).1))
        ]

        keeps : HasNamesSince all quiet rows task → HasNamesSince all quiet (rows ++ row ∷ []) task
        keeps (inl same) = (let grown = names_grow all rows row in by grown.0 (grown.1 ∙ ap (λ l. l ++ grown.0) same) grown.2)
          where
            is_new : (name : Draw) (more : List Draw) → names_at all (rows ++ row ∷ []) ≡ names_at all quiet ++ more → is_led all (rows ++ row ∷ []) name ≡ true → Among name more → name ≡ task.name
            is_new name more e led a = elim (old_or name led) [ inl old ↦ absurd (new_name (names_at all quiet) more e name led a old) | inr fact ↦ fact ]

            by : (more : List Draw) → names_at all (rows ++ row ∷ []) ≡ names_at all quiet ++ more → Each (λ name. is_led all (rows ++ row ∷ []) name ≡ true) more → HasNamesSince all quiet (rows ++ row ∷ []) task
            by [] e led = inl (e ∙ append-nil (names_at all quiet))
            by (name ∷ []) e led = inr (e ∙ ap (λ n. names_at all quiet ++ n ∷ []) (is_new name (name ∷ []) e led.0 (inl refl)))
            by (name ∷ other ∷ more) e led =
                let one = is_new name (name ∷ other ∷ more) e led.0 (inl refl) in
                let two = is_new other (name ∷ other ∷ more) e led.1.0 (inr (inl refl)) in
                absurd (new_name (names_at all quiet ++ name ∷ []) (other ∷ more) (e ∙ sym (append_assoc (names_at all quiet) (name ∷ []) (other ∷ more))) other led.1.0 (inl refl) (Among-right other (names_at all quiet) (name ∷ []) (inl (one ∙ sym two))))
        keeps (inr same) = (let grown = names_grow all rows row in by grown.0 (grown.1 ∙ ap (λ l. l ++ grown.0) same) grown.2)
          where
            by : (more : List Draw) → names_at all (rows ++ row ∷ []) ≡ (names_at all quiet ++ task.name ∷ []) ++ more → Each (λ name. is_led all (rows ++ row ∷ []) name ≡ true) more → HasNamesSince all quiet (rows ++ row ∷ []) task
            by [] e led = inr (e ∙ append-nil (names_at all quiet ++ task.name ∷ []))
            by (name ∷ more) e led = absurd (new_name (names_at all quiet ++ task.name ∷ []) (name ∷ more) e name led.0 (inl refl) (elim (old_or name led.0) [
              | inl old ↦ Among-left name (names_at all quiet) (task.name ∷ []) old
              | inr fact ↦ Among-right name (names_at all quiet) (task.name ∷ []) (inl (sym fact))
            ]))

-- one name more for one order more
over_few : (scenario : Scenario) (quiet rows : Rows) (task : Task) → HasNamesSince (births as_nodes scenario) quiet rows task → orders rows ≡ orders quiet + 1 → HasFewNames scenario quiet → HasFewNames scenario rows
over_few scenario quiet rows task (inl same) one few = (let long = ap length same in omega (arith, long, one, few))
over_few scenario quiet rows task (inr same) one few = (let long = ap length same in let push = length-append (names_at (births as_nodes scenario) quiet) (task.name ∷ []) in omega (arith, long, push, one, few))

pub names_stay : ValidScenariosAreBounded → LedStandOnce → PrefixesAreFound → NamesStayFew
names_stay all_bounded led_once found_law = record {
  born = λ words scenario journal calm. born_few all_bounded led_once found_law words scenario journal calm;
  asked = λ words scenario first journal quiet rows row calm rests. none_new all_bounded led_once found_law words scenario journal calm first quiet rests rows row;
  begins = λ births quiet task. inl refl;
  goes_on = λ words scenario first journal quiet rows seat event task calm rests prefix created has. keeps all_bounded led_once found_law words scenario journal calm first quiet rests rows (row_of player_table seat rows event) task prefix created has;
  over = over_few;
}
