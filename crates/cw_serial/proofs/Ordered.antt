-- The strands that an order names are found in the machine.
use Rattle.std.proofs.Common.{◌≡◌, ℕ, zero, suc, ◌<◌, refl, ap, sym, ◌∙◌, arith, subst, Bool, true, false, cond, ◌⊎◌, inl, inr, Option, Some, None, List, [], ◌∷◌, ◌++◌, set, append_assoc, append-nil}
use Rattle.std.specs.List.{slice_get}
use Rattle.std.proofs.lemmas.Bool.{lt-ltb, cases_eq}
use Rattle.cw_tree.specs.declared.picks.Name.{Name}
use Rattle.cw_tree.specs.declared.picks.Turn.{Turn}
use Rattle.cw_serial.specs.declared.machine.Machine.{Machine as Code}
use Rattle.cw_serial.specs.declared.orders.Known.{Known}
use Rattle.cw_job.specs.declared.standing.Standing.{Standing}
use Rattle.cw_serial.specs.declared.table.Sides.{Sides}
use Rattle.cw_serial.specs.declared.table.Row.{Row}
use Rattle.cw_serial.specs.StrandTree.{at}
use Rattle.cw_serial.specs.Machine.{steps_down, root_turns, is_root}
use Rattle.cw_job.specs.Room.Strands.{StrandState, state_of, strands_of_job}
use Rattle.cw_serial.specs.Spots.{turn_to, Spot, spot}
use Rattle.cw_serial.specs.TableInMemory.{StrandsAreNumbered, number_of, side_of, started_of, started_at}
use Rattle.cw_serial.specs.Orders.{SameStrand, AreKnown, root_number, known_number, parent_number, LeadDown, StandsNowhere}
use Rattle.cw_serial.proofs.Numbers.{turn_of, turns_last, turns_step, turns_down}
use Rattle.cw_serial.proofs.Numbered.{set_here, set_elsewhere, turns_unique, turns_of_left, turns_of_right}
use Rattle.cw_serial.proofs.Replaced.{at_spot, at_is}
use Rattle.cw_serial.proofs.Holding.{listed}

-- ## Up

module _ (order : List Name) where
  -- where a name is a strand's, so is each one on the way down to it
  way_up : (from n : ℕ) (todo : List ℕ) (q : List Turn) → LeadDown order from todo n → steps_down order n ≡ Some q → (z : List Turn) × (steps_down order from ≡ Some z)
  way_up from n [] q e up = (q, ap (steps_down order) e ∙ up)
  way_up from n (a ∷ rest) q (x, here, parent, low, down) up =
      let (z, uz) = way_up a n rest q down up in
      above a z low here uz where
        above : (b : ℕ) (z : List Turn) → from < b → slice_get order b ≡ Some x → steps_down order b ≡ Some z → (y : List Turn) × (steps_down order from ≡ Some y)
        above zero z low here uz = absurd (omega arith)
        above (suc b) z low here uz =
            let l = turns_last order b z uz in
            let same : l.name ≡ x = (let e : Some l.name ≡ Some x = sym l.here ∙ here in cc) in
            (l.above, ap (steps_down order) (sym (ap (λ (v : Name). v.parent) same ∙ parent)) ∙ l.up)

  root_known : (numbers : List (Option ℕ)) (q : List Turn) → steps_down order 0 ≡ Some q → (i : ℕ) × (known_number order numbers 0 ≡ Some i)
  root_known numbers q h = by (slice_get order 0) h where
    by : (o : Option Name) → root_turns o ≡ Some q → (i : ℕ) × (root_number o ≡ Some i)
    by None e = absurd cc
    by (Some x) e = test (is_root x) e where
      test : (b : Bool) → cond b (Some []) None ≡ Some q → (i : ℕ) × (cond b (Some 0) None ≡ Some i)
      test true f = (0, refl)
      test false f = absurd cc

  pub up_none : (numbers : List (Option ℕ)) (from n : ℕ) (todo : List ℕ) → known_number order numbers from ≡ None → parent_number (slice_get order from) from ≡ None → LeadDown order from todo n → (q : List Turn) → steps_down order n ≡ Some q → ⊥
  up_none numbers from n todo unknown no_parent down q up =
      let (z, uz) = way_up from n todo q down up in
      by from z unknown no_parent uz where
        by : (b : ℕ) (z : List Turn) → known_number order numbers b ≡ None → parent_number (slice_get order b) b ≡ None → steps_down order b ≡ Some z → ⊥
        by zero z unknown no_parent uz = let (i, known) = root_known numbers z uz in let e : Some i ≡ None = sym known ∙ unknown in cc
        by (suc b) z unknown no_parent uz =
            let l = turns_last order b z uz in
            let e : Some l.name.parent ≡ None = sym (ap (λ o. parent_number o (suc b)) l.here ∙ ap (λ t. cond t (Some l.name.parent) None) (lt-ltb l.name.parent (suc b) l.low)) ∙ no_parent in
            cc

-- ## Down

module _ {S : Type 0} (names : List Name) (rows : List (Row S)) (ok : StrandsAreNumbered names rows) where
  -- the strand of a fork that was started
  started_turns : (i : ℕ) (n : Name) (j : ℕ) (q : List Turn) → steps_down names i ≡ Some q → started_at rows (record n { parent = i }) ≡ Some j → steps_down names j ≡ Some (q ++ turn_of n ∷ [])
  started_turns i n j q up h = by (slice_get rows i) refl h where
    side : (right : Bool) (f : ℕ) (t : Row S) (x : Sides) → slice_get rows i ≡ Some t → slice_get t.forks.items f ≡ Some x → number_of x right ≡ j → steps_down names j ≡ Some (q ++ turn_to (suc f) right ∷ [])
    side true f t x there here e = ap (steps_down names) (sym e) ∙ turns_of_right names rows ok i f t x q there here up
    side false f t x there here e = ap (steps_down names) (sym e) ∙ turns_of_left names rows ok i f t x q there here up

    fork : (right : Bool) (f : ℕ) (t : Row S) → slice_get rows i ≡ Some t → (o : Option Sides) → slice_get t.forks.items f ≡ o → side_of right o ≡ Some j → steps_down names j ≡ Some (q ++ turn_to (suc f) right ∷ [])
    fork right f t there None here e = absurd cc
    fork right f t there (Some x) here e = side right f t x there here cc

    row : (t : Row S) (g : ℕ) (right : Bool) → slice_get rows i ≡ Some t → started_of (Some t) g right ≡ Some j → steps_down names j ≡ Some (q ++ turn_to g right ∷ [])
    row t zero right there e = absurd cc
    row t (suc f) right there e = fork right f t there (slice_get t.forks.items f) refl e

    by : (o : Option (Row S)) → slice_get rows i ≡ o → started_of o n.fork n.right ≡ Some j → steps_down names j ≡ Some (q ++ turn_of n ∷ [])
    by None there e = absurd cc
    by (Some t) there e = row t n.fork n.right there e

  -- beneath a fork that was not started is no strand
  not_started : (i : ℕ) (n : Name) (j : ℕ) (q r : List Turn) → steps_down names i ≡ Some q → started_at rows (record n { parent = i }) ≡ None → steps_down names j ≡ Some (q ++ turn_of n ∷ r) → ⊥
  not_started i n j q r up h uj =
      let d = turns_down names j q r (turn_of n) uj in
      let (t, f, x, there, fork, here, number) = ok.named d.number d.name d.here in
      let parent : d.name.parent ≡ i = turns_unique names rows ok d.name.parent i q d.up up in
      let forks : suc f ≡ n.fork = sym fork ∙ ap (λ (v : Turn). v.fork) d.turn in
      let found : started_of (slice_get rows i) n.fork n.right ≡ Some (number_of x n.right) =
      ap (λ o. started_of o n.fork n.right) (ap (slice_get rows) (sym parent) ∙ there)
      ∙ (ap (λ g. started_of (Some t) g n.right) (sym forks) ∙ ap (side_of n.right) here) in
      let e : Some (number_of x n.right) ≡ None = sym found ∙ h in
      cc

set_past : (xs : List (Option ℕ)) (b k j : ℕ) → slice_get xs b ≡ None → slice_get (set xs b (Some j)) k ≡ slice_get xs k
set_past [] b k j e = refl
set_past (y ∷ xs) zero k j e = absurd cc
set_past (y ∷ xs) (suc b) zero j e = refl
set_past (y ∷ xs) (suc b) (suc k) j e = set_past xs b k j e

-- ## While strands are found

module _ (code : Code) where
  abbrev names : List Name
  names = code.strands.names.items

  abbrev rows : List (Row Standing)
  rows = code.strands.rows.items

  nowhere_by : (order : List Name) (n i : ℕ) (x : Name) (q r : List Turn) → steps_down names i ≡ Some q → started_at rows (record x { parent = i }) ≡ None → steps_down order n ≡ Some (q ++ turn_of x ∷ r) → StandsNowhere order n code
  nowhere_by order n i x q r up none named job m z is uz =
      at_is (strands_of_job job) m.strands z ∙ by (spot m.strands z) refl where
        same : z ≡ q ++ turn_of x ∷ r
        same = let e : Some z ≡ Some (q ++ turn_of x ∷ r) = sym uz ∙ named in cc

        by : (o : Option (Spot StrandState)) → spot m.strands z ≡ o → at_spot (strands_of_job job) (spot m.strands z) ≡ None
        by None e = ap (at_spot (strands_of_job job)) e
        by (Some v) e =
            let (j, uj) = listed state_of code.strands m.strands is.strands z v e in
            absurd (not_started names rows is.strands.numbered i x j q r up none (uj ∙ ap (λ y. Some y) same))

  -- a name that is led down to, from one beneath which is this one
  down_path : (order : List Name) (from n : ℕ) (todo : List ℕ) (q : List Turn) → LeadDown order from todo n → steps_down order from ≡ Some q → (r : List Turn) × (steps_down order n ≡ Some (q ++ r))
  down_path order from n [] q e up = ([], ap (steps_down order) (sym e) ∙ (up ∙ ap (λ v. Some v) (sym (append-nil q))))
  down_path order from n (a ∷ rest) q (x, here, parent, low, down) up =
      let (r, un) = down_path order a n rest (q ++ turn_of x ∷ []) down (step a low here) in
      (turn_of x ∷ r, un ∙ ap (λ v. Some v) (append_assoc q (turn_of x ∷ []) r)) where
        step : (b : ℕ) → from < b → slice_get order b ≡ Some x → steps_down order b ≡ Some (q ++ turn_of x ∷ [])
        step zero low here = absurd (omega arith)
        step (suc b) low here = turns_step order b x q here (omega arith) (ap (steps_down order) parent ∙ up)

  pub record Descends (old : Known) (number : ℕ) (todo : List ℕ) (now : Known) (above : ℕ) (left : List ℕ) : Type 0 where
    pub order : now.order.now ≡ old.order.now
    pub down : StrandsAreNumbered names rows → (from n : ℕ) → LeadDown old.order.now from todo n → SameStrand old.order.now names from number → AreKnown old.order.now old.numbers.items names
        → (at : ℕ) × LeadDown old.order.now at left n × SameStrand old.order.now names at above × AreKnown old.order.now now.numbers.items names

  -- a name of the order that is led down by
  first_name : (order : List Name) (at a n : ℕ) (rest : List ℕ) → LeadDown order at (a ∷ rest) n → (x : Name) × (slice_get order a ≡ Some x) × (x.parent ≡ at) × (at < a) × LeadDown order a rest n
  first_name order at a n rest h = h

  child_turns : (order : List Name) (at a : ℕ) (x : Name) (q : List Turn) → slice_get order a ≡ Some x → x.parent ≡ at → at < a → steps_down order at ≡ Some q → steps_down order a ≡ Some (q ++ turn_of x ∷ [])
  child_turns order at zero x q here parent low up = absurd (omega arith)
  child_turns order at (suc a) x q here parent low up = turns_step order a x q here (omega arith) (ap (steps_down order) parent ∙ up)

  note_known : (order : List Name) (numbers : List (Option ℕ)) (a j : ℕ) → AreKnown order numbers names → SameStrand order names a j → AreKnown order (set numbers a (Some j)) names
  note_known order numbers a j known same n i h = by (cases_eq a n) where
    by : (a ≡ n) ⊎ (a ≡ n → ⊥) → SameStrand order names n i
    by (inr ne) = known n i (sym (set_elsewhere numbers a n (Some j) ne) ∙ h)
    by (inl e) = inside (slice_get numbers a) refl where
      inside : (o : Option (Option ℕ)) → slice_get numbers a ≡ o → SameStrand order names n i
      inside None none = known n i (sym (set_past numbers a n j none) ∙ h)
      inside (Some z) some =
          let f : Some (Some j) ≡ Some (Some i) = sym (set_here numbers a z (Some j) some) ∙ (ap (slice_get (set numbers a (Some j))) e ∙ h) in
          let ji : j ≡ i = cc in
          subst (λ v. SameStrand order names v i) e (subst (SameStrand order names a) ji same)

  module _ (old mid : Known) (number above : ℕ) (todo left rest : List ℕ) (a : ℕ) (popped : left ≡ a ∷ rest) (d : Descends old number todo mid above left) where
    pub descends_more : (x : Name) (j : ℕ) (new : Known) → slice_get mid.order.now a ≡ Some x → started_at rows (record x { parent = above }) ≡ Some j → new.order ≡ mid.order → new.numbers.items ≡ set mid.numbers.items a (Some j) → Descends old number todo new j rest
    descends_more x j new here started order numbers = record {
      order = ap (λ v. v.now) order ∙ d.order;
      down = λ ok from n lead same known.
          let (at, lead_now, here_now, all) = d.down ok from n lead same known in
          let (y, yonder, parent, low, further) = first_name old.order.now at a n rest (subst (λ l. LeadDown old.order.now at l n) popped lead_now) in
          let xy : y ≡ x = (let e : Some y ≡ Some x = sym yonder ∙ (ap (λ o. slice_get o a) (sym d.order) ∙ here) in cc) in
          let named = child_turns old.order.now at a y here_now.path yonder parent low here_now.here in
          let strand = started_turns names rows ok above x j here_now.path here_now.there started in
          let child : SameStrand old.order.now names a j = record { path = here_now.path ++ turn_of y ∷ []; here = named; there = strand ∙ ap (λ (v : Name). Some (here_now.path ++ turn_of v ∷ [])) (sym xy) } in
          (a, further, child, subst (λ v. AreKnown old.order.now v names) (sym numbers) (note_known old.order.now mid.numbers.items a j all child));
    }

    -- where the next strand was not started, none of those beneath it stands
    pub descends_none : (x : Name) → slice_get mid.order.now a ≡ Some x → started_at rows (record x { parent = above }) ≡ None
        → StrandsAreNumbered names rows → (from n : ℕ) → LeadDown old.order.now from todo n → SameStrand old.order.now names from number → AreKnown old.order.now old.numbers.items names → StandsNowhere old.order.now n code × AreKnown old.order.now mid.numbers.items names
    descends_none x here none ok from n lead same known =
        let (at, lead_now, here_now, all) = d.down ok from n lead same known in
        let (y, yonder, parent, low, further) = first_name old.order.now at a n rest (subst (λ l. LeadDown old.order.now at l n) popped lead_now) in
        let yx : x ≡ y = (let e : Some x ≡ Some y = sym here ∙ (ap (λ o. slice_get o a) d.order ∙ yonder) in cc) in
        let (r, un) = down_path old.order.now a n rest (here_now.path ++ turn_of y ∷ []) further (child_turns old.order.now at a y here_now.path yonder parent low here_now.here) in
        (nowhere_by old.order.now n above y here_now.path r here_now.there (ap (λ (v : Name). started_at rows (record v { parent = above })) (sym yx) ∙ none) (un ∙ ap (λ v. Some v) (append_assoc here_now.path (turn_of y ∷ []) r)), all)

    -- each name that leads down is one of the order
    pub descends_named : slice_get mid.order.now a ≡ None
        → StrandsAreNumbered names rows → (from n : ℕ) → LeadDown old.order.now from todo n → SameStrand old.order.now names from number → AreKnown old.order.now old.numbers.items names → StandsNowhere old.order.now n code × AreKnown old.order.now mid.numbers.items names
    descends_named none ok from n lead same known =
        let (at, lead_now, here_now, all) = d.down ok from n lead same known in
        let (y, yonder, parent, low, further) = first_name old.order.now at a n rest (subst (λ l. LeadDown old.order.now at l n) popped lead_now) in
        absurd (let e : Some y ≡ None = sym yonder ∙ (ap (λ o. slice_get o a) (sym d.order) ∙ none) in cc)
