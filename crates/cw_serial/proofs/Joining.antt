-- A join in memory is a join in the tree.
use Rattle.std.proofs.Common.{◌≡◌, ℕ, suc, ◌-◌, refl, ap, sym, ◌∙◌, arith, subst, true, false, ◌⊎◌, inl, inr, Option, Some, None, List, [], ◌∷◌, ◌++◌, length, append-nil}
use Rattle.std.specs.List.{slice_get}
use Rattle.std.proofs.lemmas.Bool.{cases_eq}
use Rattle.std.proofs.lemmas.Option.{slice_get_within}
use Rattle.cw_strand.specs.Strands.{Strands}
use Rattle.cw_tree.specs.declared.picks.Turn.{Turn}
use Rattle.cw_serial.specs.declared.table.Place.{Place}
use Rattle.cw_serial.specs.declared.table.Place.TheVariants.{Stands, Waits, Gone}
use Rattle.cw_serial.specs.declared.table.Row.{Row}
use Rattle.cw_serial.specs.declared.table.Table.{Table}
use Rattle.cw_serial.specs.StrandTree.{StrandTree, stands, waits}
use Rattle.cw_serial.specs.Machine.{steps_down}
use Rattle.cw_serial.specs.Spots.{turn_to, Spot, standing, waiting, spot, settle}
use Rattle.cw_serial.specs.TableInMemory.{StrandsAreNumbered, IsSpotAt, Holds, Puts, Joins}
use Rattle.cw_serial.proofs.Settled.{settle_join}
use Rattle.cw_serial.proofs.Sides.{Way, to_left, to_right, nowhere, way, side_none}
use Rattle.cw_serial.proofs.Replaced.{Beside, replaced, replaced_waiting, spot_left, spot_right, spot_beneath, spot_beside, settle_replaced}
use Rattle.cw_serial.proofs.Numbered.{SameForks, numbered_same, set_forks, turns_total, turns_unique, turns_of_left, turns_of_right}
use Rattle.cw_serial.proofs.Waiting.{Awaiting, awaited_there, puts_here, puts_elsewhere, waits_still, right_here}
use Rattle.cw_serial.proofs.Holding.{beneath, from_stand, from_wait}

-- the tree that the strands in memory are now, which comes to the same
pub record After {S A : Type 0} (s : Strands A) (state : S → A) (tree : StrandTree A) (new : Table S) : Type 0 where
  pub now : StrandTree A
  pub holds : Holds state new now
  pub same : settle s now ≡ settle s tree

pub place_is : {S A : Type 0} (state : S → A) (pl ql : Place S) (n m : ℕ) (o u : Option (Spot A)) → pl ≡ ql → n ≡ m → o ≡ u → IsSpotAt state ql m u → IsSpotAt state pl n o
place_is state pl ql n m o u e f g h = rw (e, f, g) h

module _ {S : Type 0} (old new : Table S) (i : ℕ) (pl former : Place S) (puts : Puts old i pl former new) where
  pub puts_forks : SameForks old.rows.items new.rows.items
  puts_forks = subst (SameForks old.rows.items) (sym puts.rows) (set_forks old.rows.items i puts.row (record puts.row { place = pl }) puts.here refl)

  pub puts_numbered : StrandsAreNumbered old.names.items old.rows.items → StrandsAreNumbered new.names.items new.rows.items
  puts_numbered ok =
      subst (λ names. StrandsAreNumbered names new.rows.items) (ap (λ v. v.items) (sym puts.names)) (numbered_same old.names.items old.rows.items new.rows.items puts_forks ok)

module _ {S A : Type 0} (s : Strands A) (state : S → A) (old new : Table S) (i : ℕ) (j : Joins s state old i new) (tree : StrandTree A) (holds : Holds state old tree) where
  names_same : new.names ≡ old.names
  names_same = j.goes_on.names ∙ (j.right_gone.names ∙ j.left_gone.names)

  w : Awaiting old.rows.items i j.sides
  w = awaited_there old.rows.items i j.sides j.awaited

  k : ℕ
  k = length w.row.forks.items

  record Met : Type 0 where
    path : List Turn
    named : steps_down old.names.items i ≡ Some path
    here : spot tree path ≡ Some (waiting k)
    left_named : steps_down old.names.items j.sides.left ≡ Some (path ++ turn_to k false ∷ [])
    right_named : steps_down old.names.items j.sides.right ≡ Some (path ++ turn_to k true ∷ [])
    left_forks : ℕ
    right_forks : ℕ
    left_spot : spot tree (path ++ turn_to k false ∷ []) ≡ Some (standing left_forks (state j.left))
    right_spot : spot tree (path ++ turn_to k true ∷ []) ≡ Some (standing right_forks (state j.right))

  right_there : slice_get old.rows.items j.sides.right ≡ Some j.right_gone.row
  right_there = right_here old j.one j.two i j.sides j.left j.right j.awaited j.left_gone j.right_gone

  met : Met
  unfolding k
  met =
      let (path, named) = turns_total old.names.items old.rows.items holds.numbered i (let same = holds.numbered.same in let within = slice_get_within old.rows.items i w.row w.here in omega arith) in
      let (here, some) = from_wait state k (spot tree path) (subst (λ pl. IsSpotAt state pl k (spot tree path)) w.waits (holds.places i path w.row named w.here)) in
      let number : suc (k - 1) ≡ k = omega arith in
      let left_named = turns_of_left old.names.items old.rows.items holds.numbered i (k - 1) w.row j.sides path w.here w.newest named ∙ ap (λ m. Some (path ++ turn_to m false ∷ [])) number in
      let right_named = turns_of_right old.names.items old.rows.items holds.numbered i (k - 1) w.row j.sides path w.here w.newest named ∙ ap (λ m. Some (path ++ turn_to m true ∷ [])) number in
      let left = from_stand state j.left (length j.left_gone.row.forks.items) (spot tree (path ++ turn_to k false ∷ [])) (subst (λ pl. IsSpotAt state pl (length j.left_gone.row.forks.items) (spot tree (path ++ turn_to k false ∷ []))) j.left_gone.was (holds.places j.sides.left (path ++ turn_to k false ∷ []) j.left_gone.row left_named j.left_gone.here)) in
      let right = from_stand state j.right (length j.right_gone.row.forks.items) (spot tree (path ++ turn_to k true ∷ [])) (subst (λ pl. IsSpotAt state pl (length j.right_gone.row.forks.items) (spot tree (path ++ turn_to k true ∷ []))) j.right_gone.was (holds.places j.sides.right (path ++ turn_to k true ∷ []) j.right_gone.row right_named right_there)) in
      record {
        path = path;
        named = named;
        here = here;
        left_named = left_named;
        right_named = right_named;
        left_forks = length j.left_gone.row.forks.items;
        right_forks = length j.right_gone.row.forks.items;
        left_spot = left;
        right_spot = right;
      }

  module _ (m : Met) where
    waiting_tree : StrandTree A
    waiting_tree = waits k (stands m.left_forks (state j.left)) (stands m.right_forks (state j.right))

    tree_was : replaced tree m.path waiting_tree ≡ tree
    unfolding waiting_tree
    tree_was = replaced_waiting tree m.path k m.left_forks m.right_forks (state j.left) (state j.right) m.here m.left_spot m.right_spot

    joined_tree : StrandTree A
    joined_tree = replaced tree m.path (stands k (state j.joined))

    comes_same : settle s joined_tree ≡ settle s tree
    unfolding joined_tree waiting_tree
    comes_same =
        ap (λ a. settle s (replaced tree m.path (stands k a))) j.becomes
        ∙ (sym (settle_replaced s tree m.path waiting_tree (stands k (s.joined (state j.right) (state j.left))) (settle_join s k m.left_forks m.right_forks (state j.left) (state j.right) j.left_over j.right_over))
        ∙ ap (settle s) tree_was)

    -- beneath the strand only its two strands stood
    under_waiting : (x : Turn) (r : List Turn) → (x ≡ turn_to k false → r ≡ [] → ⊥) → (x ≡ turn_to k true → r ≡ [] → ⊥) → spot waiting_tree (x ∷ r) ≡ None
    unfolding waiting_tree
    under_waiting x [] hl hr = by (way x k) where
      by : Way x k → spot (waits k (stands m.left_forks (state j.left)) (stands m.right_forks (state j.right))) (x ∷ []) ≡ None
      by (to_left e) = absurd (hl e refl)
      by (to_right e) = absurd (hr e refl)
      by (nowhere e) = side_none x k (Some (standing m.left_forks (state j.left))) (Some (standing m.right_forks (state j.right))) None e
    under_waiting x (y ∷ r) hl hr = by (way x k) where
      by : Way x k → spot (waits k (stands m.left_forks (state j.left)) (stands m.right_forks (state j.right))) (x ∷ y ∷ r) ≡ None
      by (to_left e) = ap (λ z. spot (waits k (stands m.left_forks (state j.left)) (stands m.right_forks (state j.right))) (z ∷ y ∷ r)) e ∙ spot_left k (stands m.left_forks (state j.left)) (stands m.right_forks (state j.right)) (y ∷ r)
      by (to_right e) = ap (λ z. spot (waits k (stands m.left_forks (state j.left)) (stands m.right_forks (state j.right))) (z ∷ y ∷ r)) e ∙ spot_right k (stands m.left_forks (state j.left)) (stands m.right_forks (state j.right)) (y ∷ r)
      by (nowhere e) = side_none x k None None None e

    nothing_under : (x : Turn) (r : List Turn) → spot joined_tree (m.path ++ x ∷ r) ≡ None
    unfolding joined_tree
    nothing_under x r = spot_beneath tree m.path (x ∷ r) (stands k (state j.joined)) (waiting k) m.here

    here_now : spot joined_tree m.path ≡ Some (standing k (state j.joined))
    unfolding joined_tree
    here_now = ap (spot joined_tree) (sym (append-nil m.path)) ∙ spot_beneath tree m.path [] (stands k (state j.joined)) (waiting k) m.here

    -- the same stands elsewhere
    same_spot : (z : List Turn) → (z ≡ m.path → ⊥) → (z ≡ m.path ++ turn_to k false ∷ [] → ⊥) → (z ≡ m.path ++ turn_to k true ∷ [] → ⊥) → spot joined_tree z ≡ spot tree z
    unfolding joined_tree
    same_spot z here left right = by (beneath m.path z) where
      by : ((r : List Turn) × (z ≡ m.path ++ r)) ⊎ Beside m.path z → spot (replaced tree m.path (stands k (state j.joined))) z ≡ spot tree z
      by (inr beside) = spot_beside tree m.path z (stands k (state j.joined)) beside
      by (inl ([], e)) = absurd (here (e ∙ append-nil m.path))
      by (inl (x ∷ r, e)) =
          ap (spot (replaced tree m.path (stands k (state j.joined)))) e
          ∙ (nothing_under x r
          ∙ (sym (under_waiting x r (λ f g. left (e ∙ (ap (λ v. m.path ++ v ∷ r) f ∙ ap (λ v. m.path ++ turn_to k false ∷ v) g))) (λ f g. right (e ∙ (ap (λ v. m.path ++ v ∷ r) f ∙ ap (λ v. m.path ++ turn_to k true ∷ v) g))))
          ∙ (sym (spot_beneath tree m.path (x ∷ r) waiting_tree (waiting k) m.here)
          ∙ (ap (λ t. spot t (m.path ++ x ∷ r)) tree_was ∙ ap (spot tree) (sym e)))))

    module _ (n : ℕ) (z : List Turn) (row : Row S) (up : steps_down old.names.items n ≡ Some z) where
      at_parent : i ≡ n → slice_get new.rows.items n ≡ Some row → IsSpotAt state row.place (length row.forks.items) (spot joined_tree z)
      unfolding k
      at_parent e here =
          let there : Row S = record j.goes_on.row { place = Stands j.joined } in
          let same : row ≡ there = (let f : Some row ≡ Some there = sym here ∙ (ap (slice_get new.rows.items) (sym e) ∙ puts_here j.two new i (Stands j.joined) Waits j.goes_on) in cc) in
          let was : j.goes_on.row ≡ w.row = (let f : Some j.goes_on.row ≡ Some w.row = sym j.goes_on.here ∙ (waits_still old j.one j.two i j.sides j.left j.right j.awaited j.left_gone j.right_gone ∙ w.here) in cc) in
          let path : z ≡ m.path = (let f : Some z ≡ Some m.path = sym up ∙ (ap (steps_down old.names.items) (sym e) ∙ m.named) in cc) in
          place_is state row.place (Stands j.joined) (length row.forks.items) k (spot joined_tree z) (Some (standing k (state j.joined))) (ap (λ (t : Row S). t.place) same) (ap (λ (t : Row S). length t.forks.items) same ∙ ap (λ (t : Row S). length t.forks.items) was) (ap (spot joined_tree) path ∙ here_now) (refl, refl)

      at_gone : (y : Turn) (place : Place S) → z ≡ m.path ++ y ∷ [] → row.place ≡ Gone → IsSpotAt state row.place (length row.forks.items) (spot joined_tree z)
      at_gone y place e gone = place_is state row.place Gone (length row.forks.items) (length row.forks.items) (spot joined_tree z) None gone refl (ap (spot joined_tree) e ∙ nothing_under y []) tt

      name_of : (a : ℕ) (q : List Turn) → steps_down old.names.items a ≡ Some q → (a ≡ n → ⊥) → z ≡ q → ⊥
      name_of a q named ne e = ne (turns_unique old.names.items old.rows.items holds.numbered a n z (named ∙ ap (λ v. Some v) (sym e)) up)

      at_left : (i ≡ n → ⊥) → (j.sides.right ≡ n → ⊥) → (j.sides.left ≡ n) ⊎ (j.sides.left ≡ n → ⊥) → slice_get j.one.rows.items n ≡ Some row → IsSpotAt state row.place (length row.forks.items) (spot joined_tree z)
      at_left ni nr (inl e) here =
          let there : Row S = record j.left_gone.row { place = Gone } in
          let same : row ≡ there = (let f : Some row ≡ Some there = sym here ∙ (ap (slice_get j.one.rows.items) (sym e) ∙ puts_here old j.one j.sides.left Gone (Stands j.left) j.left_gone) in cc) in
          let path : z ≡ m.path ++ turn_to k false ∷ [] = (let f : Some z ≡ Some (m.path ++ turn_to k false ∷ []) = sym up ∙ (ap (steps_down old.names.items) (sym e) ∙ m.left_named) in cc) in
          at_gone (turn_to k false) Gone path (ap (λ (t : Row S). t.place) same)
      at_left ni nr (inr nl) here =
          let before = sym (puts_elsewhere old j.one j.sides.left n Gone (Stands j.left) j.left_gone nl) ∙ here in
          let same = same_spot z (name_of i m.path m.named ni) (name_of j.sides.left (m.path ++ turn_to k false ∷ []) m.left_named nl) (name_of j.sides.right (m.path ++ turn_to k true ∷ []) m.right_named nr) in
          place_is state row.place row.place (length row.forks.items) (length row.forks.items) (spot joined_tree z) (spot tree z) refl refl same (holds.places n z row up before)

      at_right : (i ≡ n → ⊥) → (j.sides.right ≡ n) ⊎ (j.sides.right ≡ n → ⊥) → slice_get j.two.rows.items n ≡ Some row → IsSpotAt state row.place (length row.forks.items) (spot joined_tree z)
      at_right ni (inl e) here =
          let there : Row S = record j.right_gone.row { place = Gone } in
          let same : row ≡ there = (let f : Some row ≡ Some there = sym here ∙ (ap (slice_get j.two.rows.items) (sym e) ∙ puts_here j.one j.two j.sides.right Gone (Stands j.right) j.right_gone) in cc) in
          let path : z ≡ m.path ++ turn_to k true ∷ [] = (let f : Some z ≡ Some (m.path ++ turn_to k true ∷ []) = sym up ∙ (ap (steps_down old.names.items) (sym e) ∙ m.right_named) in cc) in
          at_gone (turn_to k true) Gone path (ap (λ (t : Row S). t.place) same)
      at_right ni (inr nr) here = at_left ni nr (cases_eq j.sides.left n) (sym (puts_elsewhere j.one j.two j.sides.right n Gone (Stands j.right) j.right_gone nr) ∙ here)

      at_any : (i ≡ n) ⊎ (i ≡ n → ⊥) → slice_get new.rows.items n ≡ Some row → IsSpotAt state row.place (length row.forks.items) (spot joined_tree z)
      at_any (inl e) here = at_parent e here
      at_any (inr ne) here = at_right ne (cases_eq j.sides.right n) (sym (puts_elsewhere j.two new i n (Stands j.joined) Waits j.goes_on ne) ∙ here)

    after_met : After s state tree new
    after_met = record {
      now = joined_tree;
      holds = record {
        numbered = puts_numbered j.two new i (Stands j.joined) Waits j.goes_on (puts_numbered j.one j.two j.sides.right Gone (Stands j.right) j.right_gone (puts_numbered old j.one j.sides.left Gone (Stands j.left) j.left_gone holds.numbered));
        places = λ n z row up here. at_any n z row (ap (λ v. steps_down v.items n) (sym names_same) ∙ up) (cases_eq i n) here;
      };
      same = comes_same;
    }

  pub after_join : After s state tree new
  after_join = after_met met
