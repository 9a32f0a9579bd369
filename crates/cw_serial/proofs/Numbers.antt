-- Numbers of strands, and the names that they stand for.
use Rattle.std.proofs.Common.{◌≡◌, ℕ, zero, suc, ◌+◌, ◌<◌, ◌≤◌, refl, ap, sym, ◌∙◌, arith, Bool, true, false, cond, ltb, ◌⊎◌, inl, inr, Option, Some, None, List, [], ◌∷◌, ◌++◌, length, append_assoc}
use Rattle.std.specs.Prelude.{nat_lt}
use Rattle.std.specs.List.{slice_get}
use Rattle.std.proofs.lemmas.Bool.{ltb-true, lt-ltb}
use Rattle.cw_tree.specs.declared.picks.Name.{Name}
use Rattle.cw_tree.specs.declared.picks.Turn.{Turn}
use Rattle.cw_serial.specs.Machine.{steps_down, turns_in, with_turn, parent_in, root_turns, is_root}
use Rattle.cw_serial.specs.Spots.{turn_to}

-- ## Lists

pub front_get : {X : Type 0} (xs ys : List X) (i : ℕ) (x : X) → slice_get xs i ≡ Some x → slice_get (xs ++ ys) i ≡ Some x
front_get [] ys i x h = absurd cc
front_get (y ∷ xs) ys zero x h = h
front_get (y ∷ xs) ys (suc i) x h = front_get xs ys i x h

pub get_beyond : {X : Type 0} (xs ys : List X) (n : ℕ) → slice_get (xs ++ ys) (length xs + n) ≡ slice_get ys n
get_beyond [] ys n = ap (slice_get ys) (omega arith)
get_beyond (x ∷ xs) ys n = let e : length (x ∷ xs) + n ≡ suc (length xs + n) = omega arith in ap (slice_get ((x ∷ xs) ++ ys)) e ∙ get_beyond xs ys n

pub get_some : {X : Type 0} (xs : List X) (i : ℕ) → i < length xs → (x : X) × (slice_get xs i ≡ Some x)
get_some [] i h = absurd (omega arith)
get_some (x ∷ xs) zero h = (x, refl)
get_some (x ∷ xs) (suc i) h = get_some xs i (omega arith)

pub no_snoc : {X : Type 0} (p : List X) (x : X) → [] ≡ p ++ x ∷ [] → ⊥
no_snoc [] x e = cc
no_snoc (y ∷ p) x e = cc

-- lists with one more at their ends
pub snoc_same : {X : Type 0} (p q : List X) (x y : X) → p ++ x ∷ [] ≡ q ++ y ∷ [] → (p ≡ q) × (x ≡ y)
snoc_same [] [] x y e = (refl, cc)
snoc_same [] (z ∷ q) x y e = let rest : [] ≡ q ++ y ∷ [] = cc in absurd (no_snoc q y rest)
snoc_same (z ∷ p) [] x y e = let rest : [] ≡ p ++ x ∷ [] = cc in absurd (no_snoc p x rest)
snoc_same (z ∷ p) (w ∷ q) x y e =
    let head : z ≡ w = cc in
    let rest : p ++ x ∷ [] ≡ q ++ y ∷ [] = cc in
    let (same, last) = snoc_same p q x y rest in
    (ap (λ v. v ∷ p) head ∙ ap (λ v. w ∷ v) same, last)

-- the last of a list, or none
pub snoc_cases : {X : Type 0} (r : List X) → (r ≡ []) ⊎ ((q : List X) × (x : X) × (r ≡ q ++ x ∷ []))
snoc_cases [] = inl refl
snoc_cases {X = X} (y ∷ r) = inr (by (snoc_cases r)) where
  by : (r ≡ []) ⊎ ((q : List X) × (x : X) × (r ≡ q ++ x ∷ [])) → (q : List X) × (x : X) × (y ∷ r ≡ q ++ x ∷ [])
  by (inl e) = ([], y, ap (λ v. y ∷ v) e)
  by (inr (q, x, e)) = (y ∷ q, x, ap (λ v. y ∷ v) e)

-- ## Turns

abbrev pub turn_of : Name → Turn
turn_of n = turn_to n.fork n.right

-- how a number comes by the name that it stands for: its name leads on from that of a smaller number
pub record Last (names : List Name) (n : ℕ) (p : List Turn) : Type 0 where
  pub name : Name
  pub above : List Turn
  pub here : slice_get names n ≡ Some name
  pub low : name.parent < n
  pub up : steps_down names name.parent ≡ Some above
  pub same : p ≡ above ++ turn_of name ∷ []

-- the strand that was started from this name by this step, with a number of at most j
pub record Down (names : List Name) (p : List Turn) (x : Turn) (j : ℕ) : Type 0 where
  pub number : ℕ
  pub name : Name
  pub here : slice_get names (suc number) ≡ Some name
  pub turn : turn_of name ≡ x
  pub low : name.parent < suc number
  pub within : suc number ≤ j
  pub up : steps_down names name.parent ≡ Some p

module _ (names : List Name) where
  with_late : (n : ℕ) (x : Name) (p : Option (List Turn)) → nat_lt x.parent n ≡ false → with_turn n (Some x) p ≡ None
  with_late n x None e = refl
  with_late n x (Some p) e = ap (λ b. cond b (Some (p ++ turn_of x ∷ [])) None) e

  pub with_early : (n : ℕ) (x : Name) (p : List Turn) → x.parent < n → with_turn n (Some x) (Some p) ≡ Some (p ++ turn_of x ∷ [])
  with_early n x p h = ap (λ b. cond b (Some (p ++ turn_of x ∷ [])) None) (lt-ltb x.parent n h)

  -- as many steps as the number says are enough
  same_turns : (j k n : ℕ) → n ≤ j → n ≤ k → turns_in names j n ≡ turns_in names k n
  same_turns j k zero h i = refl
  same_turns zero k (suc n) h i = absurd (omega arith)
  same_turns (suc j) zero (suc n) h i = absurd (omega arith)
  same_turns (suc j) (suc k) (suc n) h i = by (slice_get names (suc n)) (λ m f g. same_turns j k m f g) where
    by : (o : Option Name) → ((m : ℕ) → m ≤ j → m ≤ k → turns_in names j m ≡ turns_in names k m) → with_turn (suc n) o (turns_in names j (parent_in o)) ≡ with_turn (suc n) o (turns_in names k (parent_in o))
    by None more = refl
    by (Some x) more = test (ltb x.parent (suc n)) refl where
      test : (b : Bool) → ltb x.parent (suc n) ≡ b → with_turn (suc n) (Some x) (turns_in names j x.parent) ≡ with_turn (suc n) (Some x) (turns_in names k x.parent)
      test true e = ap (with_turn (suc n) (Some x)) (let low = ltb-true x.parent (suc n) e in more x.parent (omega arith) (omega arith))
      test false e = with_late (suc n) x (turns_in names j x.parent) e ∙ sym (with_late (suc n) x (turns_in names k x.parent) e)

  -- a strand that another one started
  pub turns_step : (n : ℕ) (x : Name) (p : List Turn) → slice_get names (suc n) ≡ Some x → x.parent < suc n → steps_down names x.parent ≡ Some p → steps_down names (suc n) ≡ Some (p ++ turn_of x ∷ [])
  turns_step n x p h low e =
      ap (λ o. with_turn (suc n) o (turns_in names n (parent_in o))) h
      ∙ (ap (with_turn (suc n) (Some x)) (same_turns n x.parent x.parent (omega arith) (omega arith) ∙ e)
      ∙ with_early (suc n) x p low)

  pub turns_first : (p : List Turn) → steps_down names 0 ≡ Some p → p ≡ []
  turns_first p h = by (slice_get names 0) h where
    by : (o : Option Name) → root_turns o ≡ Some p → p ≡ []
    by None e = absurd cc
    by (Some x) e = test (is_root x) e where
      test : (b : Bool) → cond b (Some []) None ≡ Some p → p ≡ []
      test true f = cc
      test false f = absurd cc

  -- what a number stands for that is not the root's
  pub turns_last : (n : ℕ) (p : List Turn) → steps_down names (suc n) ≡ Some p
      → Last names (suc n) p
  turns_last n p h = by (slice_get names (suc n)) refl h where
    by : (o : Option Name) → slice_get names (suc n) ≡ o → with_turn (suc n) o (turns_in names n (parent_in o)) ≡ Some p
        → Last names (suc n) p
    by None here e = absurd cc
    by (Some x) here e = low (ltb x.parent (suc n)) refl where
      found : x.parent < suc n → (o : Option (List Turn)) → turns_in names n x.parent ≡ o → with_turn (suc n) (Some x) o ≡ Some p
          → Last names (suc n) p
      found less None up f = absurd cc
      found less (Some q) up f =
          let same : Some (q ++ turn_of x ∷ []) ≡ Some p = sym (with_early (suc n) x q less) ∙ f in
          record { name = x; above = q; here = here; low = less; up = same_turns x.parent n x.parent (omega arith) (omega arith) ∙ up; same = cc }

      low : (b : Bool) → ltb x.parent (suc n) ≡ b → Last names (suc n) p
      low true f = found (ltb-true x.parent (suc n) f) (turns_in names n x.parent) refl e
      low false f = absurd (let none : None ≡ Some p = sym (with_late (suc n) x (turns_in names n x.parent) f) ∙ e in cc)

  -- ## Ways down

  start_past : (q r : List Turn) (x : Turn) → q ++ x ∷ r ≡ [] → ⊥
  start_past [] r x e = cc
  start_past (y ∷ q) r x e = cc

  -- a name that leads further than another one: the strand beneath was started there
  down_below : (n j : ℕ) (p r : List Turn) (x : Turn) → j < n → steps_down names j ≡ Some (p ++ x ∷ r) → Down names p x j
  down_below zero j p r x low h = absurd (omega arith)
  down_below (suc n) zero p r x low h = absurd (start_past p r x (turns_first (p ++ x ∷ r) h))
  down_below (suc n) (suc j) p r x low h =
      let last = turns_last j (p ++ x ∷ r) h in
      by last (snoc_cases r) (λ r h. down_below n last.name.parent p r x (let less = last.low in omega arith) h) where
        by : (l : Last names (suc j) (p ++ x ∷ r)) → (r ≡ []) ⊎ ((q : List Turn) × (z : Turn) × (r ≡ q ++ z ∷ [])) → ((r : List Turn) → steps_down names l.name.parent ≡ Some (p ++ x ∷ r) → Down names p x l.name.parent) → Down names p x (suc j)
        by l (inl e) more =
            let (same, turn) = snoc_same p l.above x (turn_of l.name) (ap (λ v. p ++ x ∷ v) (sym e) ∙ l.same) in
            record { number = j; name = l.name; here = l.here; turn = sym turn; low = l.low; within = omega arith; up = l.up ∙ ap (λ v. Some v) (sym same) }
        by l (inr (q, z, e)) more =
            let (same, turn) = snoc_same (p ++ x ∷ q) l.above z (turn_of l.name) (append_assoc p (x ∷ q) (z ∷ []) ∙ (ap (λ v. p ++ x ∷ v) (sym e) ∙ l.same)) in
            let d = more q (l.up ∙ ap (λ v. Some v) (sym same)) in
            let less : l.name.parent < suc j = l.low in
            record { number = d.number; name = d.name; here = d.here; turn = d.turn; low = d.low; within = (let most : suc d.number ≤ l.name.parent = d.within in omega arith); up = d.up }

  pub turns_down : (j : ℕ) (p r : List Turn) (x : Turn) → steps_down names j ≡ Some (p ++ x ∷ r) → Down names p x j
  turns_down j p r x h = down_below (suc j) j p r x (omega arith) h

-- ## More names

-- what a number stands for, it stands for among more names too
more_below : (names more : List Name) (n j : ℕ) (p : List Turn) → j < n → steps_down names j ≡ Some p → steps_down (names ++ more) j ≡ Some p
more_below names more zero j p low h = absurd (omega arith)
more_below names more (suc n) zero p low h = by (slice_get names 0) refl h where
  by : (o : Option Name) → slice_get names 0 ≡ o → root_turns o ≡ Some p → root_turns (slice_get (names ++ more) 0) ≡ Some p
  by None e f = absurd cc
  by (Some x) e f = ap root_turns (front_get names more 0 x e) ∙ f
more_below names more (suc n) (suc j) p low h =
    let l = turns_last names j p h in
    let less : l.name.parent < suc j = l.low in
    turns_step (names ++ more) j l.name l.above (front_get names more (suc j) l.name l.here) l.low (more_below names more n l.name.parent l.above (omega arith) l.up) ∙ ap (λ v. Some v) (sym l.same)

pub turns_more : (names more : List Name) (j : ℕ) (p : List Turn) → steps_down names j ≡ Some p → steps_down (names ++ more) j ≡ Some p
turns_more names more j p h = more_below names more (suc j) j p (omega arith) h
