-- Strands that are numbered.
use Rattle.std.proofs.Common.{◌≡◌, ℕ, zero, suc, ◌<◌, ◌≤◌, refl, ap, sym, ◌∙◌, arith, Bool, true, false, ◌⊎◌, inl, inr, Some, List, [], ◌∷◌, ◌++◌, length, set}
use Rattle.std.specs.List.{slice_get}
use Rattle.std.proofs.lemmas.Bool.{cases_eq}
use Rattle.std.proofs.lemmas.List.{length-set}
use Rattle.std.proofs.lemmas.Option.{slice_get_within}
use Rattle.cw_tree.specs.declared.picks.Name.{Name}
use Rattle.cw_tree.specs.declared.picks.Turn.{Turn}
use Rattle.cw_serial.specs.declared.table.Sides.{Sides}
use Rattle.cw_serial.specs.declared.table.Row.{Row}
use Rattle.cw_serial.specs.Machine.{steps_down}
use Rattle.cw_serial.specs.Spots.{turn_to}
use Rattle.cw_serial.specs.TableInMemory.{root, left_name, right_name, number_of, StrandsAreNumbered}
use Rattle.cw_serial.proofs.Numbers.{get_some, no_snoc, snoc_same, turn_of, turns_first, turns_last, turns_step, turns_down}

-- ## Lists in which one element is another one

pub set_here : {X : Type 0} (xs : List X) (i : ℕ) (x y : X) → slice_get xs i ≡ Some x → slice_get (set xs i y) i ≡ Some y
set_here [] i x y h = absurd cc
set_here (z ∷ xs) zero x y h = refl
set_here (z ∷ xs) (suc i) x y h = set_here xs i x y h

pub set_elsewhere : {X : Type 0} (xs : List X) (i j : ℕ) (y : X) → (i ≡ j → ⊥) → slice_get (set xs i y) j ≡ slice_get xs j
set_elsewhere [] i j y h = refl
set_elsewhere (z ∷ xs) zero zero y h = absurd (h refl)
set_elsewhere (z ∷ xs) zero (suc j) y h = refl
set_elsewhere (z ∷ xs) (suc i) zero y h = refl
set_elsewhere (z ∷ xs) (suc i) (suc j) y h = set_elsewhere xs i j y (λ e. h (ap suc e))

-- the other one, or one that was there
pub set_cases : {X : Type 0} (xs : List X) (i j : ℕ) (x y z : X) → slice_get xs i ≡ Some x → slice_get (set xs i y) j ≡ Some z → ((i ≡ j) × (y ≡ z)) ⊎ ((i ≡ j → ⊥) × (slice_get xs j ≡ Some z))
set_cases xs i j x y z here h = by (cases_eq i j) where
  by : (i ≡ j) ⊎ (i ≡ j → ⊥) → ((i ≡ j) × (y ≡ z)) ⊎ ((i ≡ j → ⊥) × (slice_get xs j ≡ Some z))
  by (inl e) = inl (e, let same : Some y ≡ Some z = sym (set_here xs i x y here) ∙ (ap (slice_get (set xs i y)) e ∙ h) in cc)
  by (inr ne) = inr (ne, sym (set_elsewhere xs i j y ne) ∙ h)

-- an element of a list, or one of two after it
pub pair_cases : {X : Type 0} (xs : List X) (i : ℕ) (a b x : X) → slice_get (xs ++ a ∷ b ∷ []) i ≡ Some x → (slice_get xs i ≡ Some x) ⊎ (((i ≡ length xs) × (a ≡ x)) ⊎ ((i ≡ suc (length xs)) × (b ≡ x)))
pair_cases [] zero a b x h = inr (inl (refl, cc))
pair_cases [] (suc zero) a b x h = inr (inr (refl, cc))
pair_cases [] (suc (suc i)) a b x h = absurd cc
pair_cases (y ∷ xs) zero a b x h = inl h
pair_cases {X = X} (y ∷ xs) (suc i) a b x h = by (pair_cases xs i a b x h) where
  by : (slice_get xs i ≡ Some x) ⊎ (((i ≡ length xs) × (a ≡ x)) ⊎ ((i ≡ suc (length xs)) × (b ≡ x))) → (slice_get xs i ≡ Some x) ⊎ (((suc i ≡ length (y ∷ xs)) × (a ≡ x)) ⊎ ((suc i ≡ suc (length (y ∷ xs))) × (b ≡ x)))
  by (inl e) = inl e
  by (inr (inl (e, f))) = inr (inl (omega arith, f))
  by (inr (inr (e, f))) = inr (inr (omega arith, f))

-- ## Names and numbers

module _ {S : Type 0} (names : List Name) (rows : List (Row S)) (ok : StrandsAreNumbered names rows) where
  sides_low : (i j : ℕ) (x : Sides) (right : Bool) → i < x.left → i < x.right → number_of x right ≡ j → i < j
  sides_low i j x true l r e = omega arith
  sides_low i j x false l r e = omega arith

  -- a strand's number is greater than its parent's
  pub parent_low : (j : ℕ) (n : Name) → slice_get names (suc j) ≡ Some n → n.parent < suc j
  parent_low j n h =
      let (t, f, x, there, fork, here, number) = ok.named j n h in
      let (l, r, hl, hr) = ok.forked n.parent f t x there here in
      sides_low n.parent (suc j) x n.right l r number

  total_below : (n i : ℕ) → i < n → i < length names → (p : List Turn) × (steps_down names i ≡ Some p)
  total_below zero i low h = absurd (omega arith)
  total_below (suc n) zero low h = ([], rw ok.first refl)
  total_below (suc n) (suc j) low h =
      let (x, here) = get_some names (suc j) h in
      let less = parent_low j x here in
      let (p, up) = total_below n x.parent (omega arith) (omega arith) in
      (p ++ turn_of x ∷ [], turns_step names j x p here less up)

  -- each number is that of a name
  pub turns_total : (i : ℕ) → i < length names → (p : List Turn) × (steps_down names i ≡ Some p)
  turns_total i h = total_below (suc i) i (omega arith) h

  same_number : (i j : ℕ) (n m : Name) → slice_get names (suc i) ≡ Some n → slice_get names (suc j) ≡ Some m → n.parent ≡ m.parent → n.fork ≡ m.fork → n.right ≡ m.right → i ≡ j
  same_number i j n m hi hj parent fork right =
      let (t, f, x, there, tf, here, number) = ok.named i n hi in
      let (u, g, y, yonder, ug, at, other) = ok.named j m hj in
      let tu : t ≡ u = (let e : Some t ≡ Some u = sym there ∙ (ap (slice_get rows) parent ∙ yonder) in cc) in
      let fg : f ≡ g = omega arith in
      let xy : x ≡ y = (let e : Some x ≡ Some y = sym here ∙ (ap (slice_get t.forks.items) fg ∙ (ap (λ (v : Row S). slice_get v.forks.items g) tu ∙ at)) in cc) in
      let e : suc i ≡ suc j = sym number ∙ (ap (number_of x) right ∙ (ap (λ v. number_of v m.right) xy ∙ other)) in
      omega arith

  unique_below : (n i j : ℕ) (p : List Turn) → i < n → steps_down names i ≡ Some p → steps_down names j ≡ Some p → i ≡ j
  unique_below zero i j p low hi hj = absurd (omega arith)
  unique_below (suc n) zero zero p low hi hj = refl
  unique_below (suc n) zero (suc j) p low hi hj = let l = turns_last names j p hj in absurd (no_snoc l.above (turn_of l.name) (sym (turns_first names p hi) ∙ l.same))
  unique_below (suc n) (suc i) zero p low hi hj = let l = turns_last names i p hi in absurd (no_snoc l.above (turn_of l.name) (sym (turns_first names p hj) ∙ l.same))
  unique_below (suc n) (suc i) (suc j) p low hi hj =
      let l = turns_last names i p hi in
      let m = turns_last names j p hj in
      let (above, turn) = snoc_same l.above m.above (turn_of l.name) (turn_of m.name) (sym l.same ∙ m.same) in
      let less : l.name.parent < suc i = l.low in
      let parents = unique_below n l.name.parent m.name.parent l.above (omega arith) l.up (m.up ∙ ap (λ v. Some v) (sym above)) in
      ap suc (same_number i j l.name m.name l.here m.here parents (ap (λ (x : Turn). x.fork) turn) (ap (λ (x : Turn). x.right) turn))

  -- a name is that of one number
  pub turns_unique : (i j : ℕ) (p : List Turn) → steps_down names i ≡ Some p → steps_down names j ≡ Some p → i ≡ j
  turns_unique i j p hi hj = unique_below (suc i) i j p (omega arith) hi hj

  pub turns_within : (i : ℕ) (p : List Turn) → steps_down names i ≡ Some p → i < length names
  turns_within zero p h = slice_get_within names 0 root ok.first
  turns_within (suc i) p h = let l = turns_last names i p h in slice_get_within names (suc i) l.name l.here

  -- the strands of a fork
  left_turns : (i f : ℕ) (t : Row S) (x : Sides) (p : List Turn) → slice_get rows i ≡ Some t → slice_get t.forks.items f ≡ Some x → steps_down names i ≡ Some p → (m : ℕ) → x.left ≡ m → steps_down names m ≡ Some (p ++ turn_to (suc f) false ∷ [])
  left_turns i f t x p there here up zero e = let (l, r, hl, hr) = ok.forked i f t x there here in absurd (omega arith)
  left_turns i f t x p there here up (suc m) e = let (l, r, hl, hr) = ok.forked i f t x there here in turns_step names m (left_name i (suc f)) p (ap (slice_get names) (sym e) ∙ hl) (omega arith) up

  right_turns : (i f : ℕ) (t : Row S) (x : Sides) (p : List Turn) → slice_get rows i ≡ Some t → slice_get t.forks.items f ≡ Some x → steps_down names i ≡ Some p → (m : ℕ) → x.right ≡ m → steps_down names m ≡ Some (p ++ turn_to (suc f) true ∷ [])
  right_turns i f t x p there here up zero e = let (l, r, hl, hr) = ok.forked i f t x there here in absurd (omega arith)
  right_turns i f t x p there here up (suc m) e = let (l, r, hl, hr) = ok.forked i f t x there here in turns_step names m (right_name i (suc f)) p (ap (slice_get names) (sym e) ∙ hr) (omega arith) up

  pub turns_of_left : (i f : ℕ) (t : Row S) (x : Sides) (p : List Turn) → slice_get rows i ≡ Some t → slice_get t.forks.items f ≡ Some x → steps_down names i ≡ Some p → steps_down names x.left ≡ Some (p ++ turn_to (suc f) false ∷ [])
  turns_of_left i f t x p there here up = left_turns i f t x p there here up x.left refl

  pub turns_of_right : (i f : ℕ) (t : Row S) (x : Sides) (p : List Turn) → slice_get rows i ≡ Some t → slice_get t.forks.items f ≡ Some x → steps_down names i ≡ Some p → steps_down names x.right ≡ Some (p ++ turn_to (suc f) true ∷ [])
  turns_of_right i f t x p there here up = right_turns i f t x p there here up x.right refl

  -- beneath a name only strands of the forks that its strand made
  pub down_within : (i j : ℕ) (t : Row S) (p r : List Turn) (x : Turn) → slice_get rows i ≡ Some t → steps_down names i ≡ Some p → steps_down names j ≡ Some (p ++ x ∷ r) → x.fork ≤ length t.forks.items
  down_within i j t p r x there hi hj =
      let d = turns_down names j p r x hj in
      let (u, f, y, yonder, fork, at, number) = ok.named d.number d.name d.here in
      let same : d.name.parent ≡ i = turns_unique d.name.parent i p d.up hi in
      let ut : u ≡ t = (let e : Some u ≡ Some t = sym yonder ∙ (ap (slice_get rows) same ∙ there) in cc) in
      let within : f < length t.forks.items = slice_get_within t.forks.items f y (ap (λ (v : Row S). slice_get v.forks.items f) (sym ut) ∙ at) in
      let turn : d.name.fork ≡ x.fork = ap (λ (v : Turn). v.fork) d.turn in
      omega arith

-- ## Other places, and one fork more

module _ {S : Type 0} where
  -- rows with the same forks
  pub record SameForks (old new : List (Row S)) : Type 0 where
    pub same : length new ≡ length old
    pub there : (i : ℕ) (t : Row S) → slice_get old i ≡ Some t → (u : Row S) × (slice_get new i ≡ Some u) × (u.forks ≡ t.forks)
    pub back : (i : ℕ) (u : Row S) → slice_get new i ≡ Some u → (t : Row S) × (slice_get old i ≡ Some t) × (u.forks ≡ t.forks)

  pub numbered_same : (names : List Name) (old new : List (Row S)) → SameForks old new → StrandsAreNumbered names old → StrandsAreNumbered names new
  numbered_same names old new s ok = record {
    same = ok.same ∙ sym s.same;
    first = ok.first;
    forked = λ i f u x there here.
        let (t, at, same) = s.back i u there in
        ok.forked i f t x at (ap (λ v. slice_get v.items f) (sym same) ∙ here);
    named = λ j n h.
        let (t, f, x, there, fork, here, number) = ok.named j n h in
        let (u, at, same) = s.there n.parent t there in
        (u, f, x, at, fork, ap (λ v. slice_get v.items f) same ∙ here, number);
  }

  pub set_forks : (rows : List (Row S)) (i : ℕ) (t u : Row S) → slice_get rows i ≡ Some t → u.forks ≡ t.forks → SameForks rows (set rows i u)
  set_forks rows i t u here same = record {
    same = length-set rows i u;
    there = λ j v h. there_by j v h (cases_eq i j);
    back = λ j v h. back_by j v (set_cases rows i j t u v here h);
  } where
    there_by : (j : ℕ) (v : Row S) → slice_get rows j ≡ Some v → (i ≡ j) ⊎ (i ≡ j → ⊥) → (w : Row S) × (slice_get (set rows i u) j ≡ Some w) × (w.forks ≡ v.forks)
    there_by j v h (inl e) =
        let tv : t ≡ v = (let f : Some t ≡ Some v = sym here ∙ (ap (slice_get rows) e ∙ h) in cc) in
        (u, ap (slice_get (set rows i u)) (sym e) ∙ set_here rows i t u here, same ∙ ap (λ (w : Row S). w.forks) tv)
    there_by j v h (inr ne) = (v, set_elsewhere rows i j u ne ∙ h, refl)

    back_by : (j : ℕ) (v : Row S) → ((i ≡ j) × (u ≡ v)) ⊎ ((i ≡ j → ⊥) × (slice_get rows j ≡ Some v)) → (w : Row S) × (slice_get rows j ≡ Some w) × (v.forks ≡ w.forks)
    back_by j v (inl (e, f)) = (t, ap (slice_get rows) (sym e) ∙ here, ap (λ (w : Row S). w.forks) (sym f) ∙ same)
    back_by j v (inr (ne, h)) = (v, h, refl)
