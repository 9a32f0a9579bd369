-- Which events fit, as the rows tell.
use Rattle.std.proofs.Common.{◌≡◌, ℕ, ◌<◌, List, [], ◌∷◌, length, refl, ap, sym, ◌∙◌, subst, arith, Bool, true, false, Some, nat_lt, inl, inr}
use Rattle.std.proofs.Math.Bool.{and-true}
use Rattle.std.specs.Prelude.{◌&&◌, ◌||◌, ◌==◌, not, filter}
use Rattle.std.specs.List.{list_any, list_all}
use Rattle.std.proofs.lemmas.Bool.{and_from, and_parts, lt-ltb, le-ltb}
use Rattle.cw_tree.specs.Nodes.{parent_of, is_strand, is_fork}
use Rattle.cw_tree.specs.Walks.{has}
use Rattle.cw_tree.specs.Series.{children, place}
use Rattle.cw_tree.specs.Refusals.{is_victim}
use Rattle.cw_tree.specs.Newest.{newest}
use Rattle.cw_tree.proofs.Lists.{In}
use Rattle.cw_tree.proofs.Members.{in_filter}
use Rattle.cw_open.specs.Machine.{OpenMachine, has_finished, finished_dead, is_running, is_dying, is_free, in_block, leads_back, rolls_back}
use Rattle.cw_open.specs.Runs.{left_died, at_once}
use Rattle.cw_open.proofs.Refused.Falling.{back_dies}
use Rattle.cw_open.proofs.Runs.LawsHold.{any_time}
use Rattle.cw_open.proofs.Runs.States.{by_rules}
use Rattle.cw_open.proofs.Laws.ChainStates.{newest_alone}
use Rattle.cw_open.proofs.Refused.Victims.{dying_roll_back, free_are_safe}
use Rattle.cw_core.specs.declared.row.Row.{Row}
use Rattle.cw_core.specs.declared.event.Event.TheVariants as event
use Rattle.cw_tree.proofs.InOrder.DepthFirst.{child_is, children_rise}
use Rattle.cw_tree.proofs.Names.Forks.{same_truth}
use Rattle.cw_tree.proofs.Rising.{Rises}
use Rattle.cw_core.specs.State.{CoreState, has_columns, is_split, waits_for_left}
use Rattle.cw_core.specs.Events.{fits_now, is_unstarted}
use Rattle.cw_core.specs.Laws.{IsCore}
use Rattle.cw_core.specs.Kept.{IsRow, elder_list}
use Rattle.cw_core.proofs.Fits.LeftStrands.{any_filter}

-- ## Strands

module _ (k : CoreState) (s : ℕ) (r : Row) (row : IsRow k s r) where
  abbrev m : OpenMachine
  m = k.machine

  pub died_tells : is_strand m.tree s ≡ true → left_died m s ≡ (not r.tail.started && list_any (finished_dead m) (elder_list r.made.elder))
  died_tells strand =
      ap (λ b. b && list_any (λ l. nat_lt l s && finished_dead m l) (children m.tree (parent_of m.tree s))) row.tail.started
      ∙ ap (λ b. not r.tail.started && b) (any_filter (λ l. nat_lt l s) (finished_dead m) (children m.tree (parent_of m.tree s)) ∙ ap (list_any (finished_dead m)) (row.made.elder strand))

  -- a left strand is there
  pub elder_low : is_strand m.tree s ≡ true → (l : ℕ) → r.made.elder ≡ Some l → l < length m.tree
  elder_low strand l e =
      let P : List ℕ → Type 0 = λ ns. In l ns in
      let i : In l (filter (λ l. nat_lt l s) (children m.tree (parent_of m.tree s))) = subst P (sym (row.made.elder strand ∙ ap elder_list e)) (inl refl) in
      (child_is m.tree (parent_of m.tree s) l (in_filter (λ l. nat_lt l s) l (children m.tree (parent_of m.tree s)) i).0).there

-- ## Forks

module _ (k : CoreState) (f : ℕ) (r : Row) (row : IsRow k f r) (fork : is_fork k.machine.tree f ≡ true) where
  abbrev n : OpenMachine
  n = k.machine

  abbrev left : ℕ
  left = r.made.left

  abbrev right : ℕ
  right = r.made.right

  halves : children n.tree f ≡ left ∷ right ∷ []
  halves = row.made.halves fork

  pub left_there : left < length n.tree
  left_there = let P : List ℕ → Type 0 = λ ns. In left ns in (child_is n.tree f left (subst P (sym halves) (inl refl))).there

  pub right_there : right < length n.tree
  right_there = let P : List ℕ → Type 0 = λ ns. In right ns in (child_is n.tree f right (subst P (sym halves) (inr (inl refl)))).there

  in_order : left < right
  in_order = let P : List ℕ → Type 0 = λ ns. Rises ns in (subst P halves (children_rise n.tree f)).0 right (inl refl)

  abbrev pub fresh : ℕ → Bool
  fresh x = (length (children n.tree x) == 0) && not (has_finished n x)

  abbrev follows : List ℕ → ℕ → Bool
  follows ns x = not (list_any (λ l. nat_lt l x) ns) || fresh x

  unstarted_is : is_unstarted k f ≡ fresh right
  unstarted_is =
      ap (λ ns. list_all (follows ns) ns) halves
      ∙ ap (λ b. (not (b || (nat_lt right left || false)) || fresh left) && (follows (left ∷ right ∷ []) right && true)) (le-ltb left left (omega arith))
      ∙ ap (λ b. (not (b || false) || fresh left) && (follows (left ∷ right ∷ []) right && true)) (le-ltb right left (let h = in_order in omega arith))
      ∙ ap (λ b. (not (b || (nat_lt right right || false)) || fresh right) && true) (lt-ltb left right in_order)
      ∙ and-true (fresh right)

  pub split_tells : fits_now k (event.Split f) ≡ (r.made.has_columns && not r.now.split && not r.now.joined && fresh right)
  split_tells =
      ap (λ b. b && has_columns k f && not (is_split k f) && not (has n.joined f) && is_unstarted k f) fork
      ∙ ap (λ b. b && not (is_split k f) && not (has n.joined f) && is_unstarted k f) (row.made.columns fork)
      ∙ ap (λ b. r.made.has_columns && not b && not (has n.joined f) && is_unstarted k f) (row.now.split fork)
      ∙ ap (λ b. r.made.has_columns && not r.now.split && not b && is_unstarted k f) row.now.joined
      ∙ ap (λ b. r.made.has_columns && not r.now.split && not r.now.joined && b) unstarted_is

-- ## Blocks

module _ (k : CoreState) (core : IsCore k.machine.first k) (s : ℕ) where
  abbrev j : OpenMachine
  j = k.machine

  -- a strand rolls back exactly where it runs in a block and is dying
  pub rolls_tell : rolls_back j s ≡ (is_running j s && in_block j s && is_dying j s)
  rolls_tell =
      same_truth (rolls_back j s) (is_running j s && in_block j s && is_dying j s)
      (λ e.
      let z = and_parts (is_running j s && in_block j s) (leads_back j s (place j.tree s)) e in
      and_from (is_running j s && in_block j s) (is_dying j s) z.0 (back_dies j s (place j.tree s) z.1))
      (λ e. dying_roll_back (λ t us w. newest us) j.first j (by_rules at_once newest_alone j.first any_time j core.reached) s e)

  -- the block in which a free strand stands is no victim
  pub commit_tells : fits_now k (event.Commit s) ≡ (is_free j s && not (waits_for_left k s) && in_block j s)
  commit_tells = drop (is_free j s) (not (waits_for_left k s)) (in_block j s) (is_victim j.tree j.conflicts (place j.tree s)) (λ free within.
      free_are_safe (λ t us w. newest us) j.first j (by_rules at_once newest_alone j.first any_time j core.reached) s (and_from (is_free j s) (in_block j s) free within)) where
        drop : (a b c d : Bool) → (a ≡ true → c ≡ true → d ≡ false) → (a && b && c && not d) ≡ (a && b && c)
        drop true true true d f = ap not (f refl refl)
        drop true true false d f = refl
        drop true false c d f = refl
        drop false b c d f = refl
