-- The strands in memory are those of a tree.
use Rattle.std.proofs.Common.{◌≡◌, ℕ, suc, ◌-◌, ◌<◌, refl, ap, sym, ◌∙◌, arith, subst, Bool, true, false, ◌⊎◌, inl, inr, Option, Some, None, List, [], ◌∷◌, ◌++◌, length, append-nil, append_assoc}
use Rattle.std.specs.List.{slice_get}
use Rattle.std.proofs.lemmas.Bool.{cases_eq}
use Rattle.cw_tree.specs.declared.picks.Turn.{Turn}
use Rattle.cw_serial.specs.declared.table.Place.{Place}
use Rattle.cw_serial.specs.declared.table.Place.TheVariants.{Stands, Waits, Gone}
use Rattle.cw_serial.specs.declared.table.Sides.{Sides}
use Rattle.cw_serial.specs.declared.table.Row.{Row}
use Rattle.cw_serial.specs.declared.table.Table.{Table}
use Rattle.cw_serial.specs.StrandTree.{StrandTree, stands, waits}
use Rattle.cw_serial.specs.Machine.{steps_down}
use Rattle.cw_serial.specs.Spots.{turn_to, Spot, standing, waiting, spot}
use Rattle.cw_serial.specs.TableInMemory.{IsSpotAt, Holds}
use Rattle.cw_serial.proofs.Sides.{turn_is}
use Rattle.cw_serial.proofs.Numbers.{get_some}
use Rattle.cw_serial.proofs.Numbered.{turns_within, turns_of_left, turns_of_right}
use Rattle.cw_serial.proofs.Replaced.{Beside, spot_side, spot_left, spot_right}

-- ## Names beneath names

beside_other : (x y : Turn) (p q : List Turn) → (x ≡ y → ⊥) → Beside (x ∷ p) (y ∷ q)
beside_other x y p q ne r e = ne cc

beneath_more : (x y : Turn) (p q : List Turn) → x ≡ y → ((r : List Turn) × (q ≡ p ++ r)) ⊎ Beside p q → ((r : List Turn) × (y ∷ q ≡ (x ∷ p) ++ r)) ⊎ Beside (x ∷ p) (y ∷ q)
beneath_more x y p q e (inl (r, same)) = inl (r, ap (λ z. z ∷ q) (sym e) ∙ ap (λ z. x ∷ z) same)
beneath_more x y p q e (inr beside) = inr (λ r f. beside r cc)

same_turns : (x y : Turn) → (x ≡ y) ⊎ (x ≡ y → ⊥)
same_turns x y = by (cases_eq x.fork y.fork) x.right y.right refl refl where
  by : (x.fork ≡ y.fork) ⊎ (x.fork ≡ y.fork → ⊥) → (b c : Bool) → x.right ≡ b → y.right ≡ c → (x ≡ y) ⊎ (x ≡ y → ⊥)
  by (inr ne) b c e f = inr (λ same. ne (ap (λ (z : Turn). z.fork) same))
  by (inl fork) true true e f = inl (turn_is x y.fork true fork e ∙ sym (turn_is y y.fork true refl f))
  by (inl fork) false false e f = inl (turn_is x y.fork false fork e ∙ sym (turn_is y y.fork false refl f))
  by (inl fork) true false e f = inr (λ same. let g : true ≡ false = sym e ∙ (ap (λ (z : Turn). z.right) same ∙ f) in cc)
  by (inl fork) false true e f = inr (λ same. let g : false ≡ true = sym e ∙ (ap (λ (z : Turn). z.right) same ∙ f) in cc)

-- a name leads on from another one, or beside it
pub beneath : (p q : List Turn) → ((r : List Turn) × (q ≡ p ++ r)) ⊎ Beside p q
beneath [] q = inl (q, refl)
beneath (x ∷ p) [] = inr (λ r e. cc)
beneath (x ∷ p) (y ∷ q) = by (same_turns x y) (beneath p q) where
  by : (x ≡ y) ⊎ (x ≡ y → ⊥) → ((r : List Turn) × (q ≡ p ++ r)) ⊎ Beside p q → ((r : List Turn) × (y ∷ q ≡ (x ∷ p) ++ r)) ⊎ Beside (x ∷ p) (y ∷ q)
  by (inl e) more = beneath_more x y p q e more
  by (inr ne) more = inr (beside_other x y p q ne)

-- ## Places

module _ {S A : Type 0} (state : S → A) where
  pub record AtStand (place : Place S) (forks : ℕ) (k : ℕ) (a : A) : Type 0 where
    pub strand : S
    pub stands : place ≡ Stands strand
    pub many : forks ≡ k
    pub is : state strand ≡ a

  pub at_stand : (place : Place S) (forks k : ℕ) (a : A) → IsSpotAt state place forks (Some (standing k a)) → AtStand place forks k a
  at_stand (Stands st) forks k a h = record { strand = st; stands = refl; many = h.0; is = h.1 }
  at_stand Waits forks k a h = absurd h
  at_stand Gone forks k a h = absurd h

  pub at_wait : (place : Place S) (forks k : ℕ) → IsSpotAt state place forks (Some (waiting k)) → (place ≡ Waits) × (forks ≡ k) × (0 < k)
  at_wait Waits forks k h = (refl, h.0, h.1)
  at_wait (Stands st) forks k h = absurd h
  at_wait Gone forks k h = absurd h

  pub from_stand : (st : S) (forks : ℕ) (o : Option (Spot A)) → IsSpotAt state (Stands st) forks o → o ≡ Some (standing forks (state st))
  from_stand st forks None h = absurd h
  from_stand st forks (Some (waiting k)) h = absurd h
  from_stand st forks (Some (standing k a)) h = ap (λ m. Some (standing m a)) (sym h.0) ∙ ap (λ b. Some (standing forks b)) (sym h.1)

  pub from_wait : (forks : ℕ) (o : Option (Spot A)) → IsSpotAt state Waits forks o → (o ≡ Some (waiting forks)) × (0 < forks)
  from_wait forks None h = absurd h
  from_wait forks (Some (standing k a)) h = absurd h
  from_wait forks (Some (waiting k)) h = (ap (λ m. Some (waiting m)) (sym h.0), let many : forks ≡ k = h.0 in let some : 0 < k = h.1 in omega arith)

  module _ (table : Table S) (tree : StrandTree A) (holds : Holds state table tree) where
    pub row_named : (i : ℕ) (p : List Turn) → steps_down table.names.items i ≡ Some p → (row : Row S) × (slice_get table.rows.items i ≡ Some row)
    row_named i p up = get_some table.rows.items i (let same = holds.numbered.same in let within = turns_within table.names.items table.rows.items holds.numbered i p up in omega arith)

    -- a strand that waits, with the strands of its fork
    pub record WaitsFor (i : ℕ) (q : List Turn) (k : ℕ) : Type 0 where
      pub row : Row S
      pub sides : Sides
      pub here : slice_get table.rows.items i ≡ Some row
      pub place : row.place ≡ Waits
      pub newest : slice_get row.forks.items (length row.forks.items - 1) ≡ Some sides
      pub left : steps_down table.names.items sides.left ≡ Some (q ++ turn_to k false ∷ [])
      pub right : steps_down table.names.items sides.right ≡ Some (q ++ turn_to k true ∷ [])

    pub waits_for : (i : ℕ) (q : List Turn) (k : ℕ) → steps_down table.names.items i ≡ Some q → spot tree q ≡ Some (waiting k) → WaitsFor i q k
    waits_for i q k up h =
        let (row, here) = row_named i q up in
        let (place, many, some) = at_wait row.place (length row.forks.items) k (subst (IsSpotAt state row.place (length row.forks.items)) h (holds.places i q row up here)) in
        let (x, newest) = get_some row.forks.items (length row.forks.items - 1) (omega arith) in
        let number : suc (length row.forks.items - 1) ≡ k = omega arith in
        record {
          row = row;
          sides = x;
          here = here;
          place = place;
          newest = newest;
          left = turns_of_left table.names.items table.rows.items holds.numbered i (length row.forks.items - 1) row x q here newest up ∙ ap (λ m. Some (q ++ turn_to m false ∷ [])) number;
          right = turns_of_right table.names.items table.rows.items holds.numbered i (length row.forks.items - 1) row x q here newest up ∙ ap (λ m. Some (q ++ turn_to m true ∷ [])) number;
        }

    step_down : (q r : List Turn) (x y : Turn) → x ≡ y → (q ++ y ∷ []) ++ r ≡ q ++ x ∷ r
    step_down q r x y e = append_assoc q (y ∷ []) r ∙ ap (λ z. q ++ z ∷ r) (sym e)

    -- each strand of the tree has a number
    listed_below : (u : StrandTree A) (q r : List Turn) (i : ℕ) (v : Spot A) → steps_down table.names.items i ≡ Some q → ((z : List Turn) → spot tree (q ++ z) ≡ spot u z) → spot u r ≡ Some v → (j : ℕ) × (steps_down table.names.items j ≡ Some (q ++ r))
    listed_below u q [] i v up same h = (i, up ∙ ap (λ z. Some z) (sym (append-nil q)))
    listed_below (stands k a) q (x ∷ r) i v up same h = absurd cc
    listed_below (waits k l m) q (x ∷ r) i v up same h =
        let here : spot tree q ≡ Some (waiting k) = ap (spot tree) (sym (append-nil q)) ∙ same [] in
        let w = waits_for i q k up here in
        spot_side k l m x r ((j : ℕ) × (steps_down table.names.items j ≡ Some (q ++ x ∷ r))) v h
        (λ e f.
        let y = turn_to k false in
        let (j, found) = listed_below l (q ++ y ∷ []) r w.sides.left v w.left (λ z. ap (spot tree) (append_assoc q (y ∷ []) z) ∙ (same (y ∷ z) ∙ spot_left k l m z)) f in
        (j, found ∙ ap (λ z. Some z) (step_down q r x y e)))
        (λ e f.
        let y = turn_to k true in
        let (j, found) = listed_below m (q ++ y ∷ []) r w.sides.right v w.right (λ z. ap (spot tree) (append_assoc q (y ∷ []) z) ∙ (same (y ∷ z) ∙ spot_right k l m z)) f in
        (j, found ∙ ap (λ z. Some z) (step_down q r x y e)))

    pub listed : (p : List Turn) (v : Spot A) → spot tree p ≡ Some v → (j : ℕ) × (steps_down table.names.items j ≡ Some p)
    listed p v h = listed_below tree [] p 0 v (rw holds.numbered.first refl) (λ z. refl) h
