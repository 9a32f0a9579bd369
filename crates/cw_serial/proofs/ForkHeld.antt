-- A fork in memory is a fork in the tree: what is at each name.
use Rattle.std.proofs.Common.{◌≡◌, ℕ, zero, suc, ◌<◌, refl, ap, sym, ◌∙◌, arith, subst, Bool, true, false, ◌⊎◌, inl, inr, Some, None, List, [], ◌∷◌, ◌++◌, length, append-nil}
use Rattle.std.specs.List.{slice_get}
use Rattle.std.proofs.lemmas.Bool.{ne_eqb}
use Rattle.std.proofs.lemmas.List.{length_push}
use Rattle.std.proofs.lemmas.Option.{slice_get_within}
use Rattle.cw_strand.specs.Strands.{Strands, IsDeep}
use Rattle.cw_tree.specs.declared.picks.Turn.{Turn}
use Rattle.cw_serial.specs.declared.table.Place.TheVariants.{Stands, Waits}
use Rattle.cw_serial.specs.declared.table.Sides.{Sides}
use Rattle.cw_serial.specs.declared.table.Row.{Row}
use Rattle.cw_serial.specs.declared.table.Table.{Table}
use Rattle.cw_serial.specs.StrandTree.{StrandTree, stands, waits}
use Rattle.cw_serial.specs.Machine.{steps_down}
use Rattle.cw_serial.specs.Spots.{turn_to, standing, waiting, spot, settle}
use Rattle.cw_serial.specs.TableInMemory.{left_name, right_name, IsSpotAt, Holds, Forks}
use Rattle.cw_serial.proofs.Settled.{settle_fork}
use Rattle.cw_serial.proofs.Sides.{side_none}
use Rattle.cw_serial.proofs.Replaced.{Beside, replaced, replaced_itself, spot_left, spot_right, spot_beneath, spot_beside, spot_under, settle_replaced}
use Rattle.cw_serial.proofs.Numbers.{turns_more, turns_step}
use Rattle.cw_serial.proofs.Numbered.{turns_total, turns_unique, down_within}
use Rattle.cw_serial.proofs.ForkMade.{was, was_here, was_stands, now_waits, now_forks, fork_number, names_now, Which, other, itself, on_left, on_right, which, left_here, right_here, fork_numbered}
use Rattle.cw_serial.proofs.Holding.{beneath, from_stand}
use Rattle.cw_serial.proofs.Joining.{After, place_is}

module _ {S A : Type 0} (s : Strands A) (state : S → A) (deep : IsDeep s) (old new : Table S) (i : ℕ) (x : Sides) (f : Forks s state old i new x) (tree : StrandTree A) (holds : Holds state old tree) where
  abbrev it : Row S
  it = was s state old new i x f

  abbrev k : ℕ
  k = length it.forks.items

  record Forked : Type 0 where
    path : List Turn
    named : steps_down old.names.items i ≡ Some path
    here : spot tree path ≡ Some (standing k (state f.strand))

  forked : Forked
  forked =
      let there = was_here s state old new i x f in
      let (path, named) = turns_total old.names.items old.rows.items holds.numbered i (let same = holds.numbered.same in let within = slice_get_within old.rows.items i it there in omega arith) in
      let here = from_stand state f.strand k (spot tree path) (subst (λ pl. IsSpotAt state pl k (spot tree path)) (was_stands s state old new i x f) (holds.places i path it named there)) in
      record { path = path; named = named; here = here }

  module _ (m : Forked) where
    grown : StrandTree A
    grown = waits (suc k) (stands 0 (state f.left)) (stands 0 (state f.right))

    forked_tree : StrandTree A
    forked_tree = replaced tree m.path grown

    comes_same : settle s forked_tree ≡ settle s tree
    unfolding forked_tree grown
    comes_same =
        ap (λ t. settle s (replaced tree m.path t)) (ap (λ a. waits (suc k) (stands 0 a) (stands 0 (state f.right))) f.goes_left ∙ ap (λ a. waits (suc k) (stands 0 (s.left (state f.strand))) (stands 0 a)) f.goes_right)
        ∙ (settle_replaced s tree m.path (waits (suc k) (stands 0 (s.left (state f.strand))) (stands 0 (s.right (state f.strand)))) (stands k (state f.strand)) (settle_fork s deep k (state f.strand) f.wants)
        ∙ ap (settle s) (replaced_itself tree m.path k (state f.strand) m.here))

    under_here : (r : List Turn) → spot forked_tree (m.path ++ r) ≡ spot grown r
    unfolding forked_tree
    under_here r = spot_beneath tree m.path r grown (standing k (state f.strand)) m.here

    here_now : spot forked_tree m.path ≡ Some (waiting (suc k))
    unfolding grown
    here_now = ap (spot forked_tree) (sym (append-nil m.path)) ∙ under_here []

    left_now : spot forked_tree (m.path ++ turn_to (suc k) false ∷ []) ≡ Some (standing 0 (state f.left))
    unfolding grown
    left_now = under_here (turn_to (suc k) false ∷ []) ∙ spot_left (suc k) (stands 0 (state f.left)) (stands 0 (state f.right)) []

    right_now : spot forked_tree (m.path ++ turn_to (suc k) true ∷ []) ≡ Some (standing 0 (state f.right))
    unfolding grown
    right_now = under_here (turn_to (suc k) true ∷ []) ∙ spot_right (suc k) (stands 0 (state f.left)) (stands 0 (state f.right)) []

    -- the strands that were started before are where they were
    same_spot : (j : ℕ) (z : List Turn) → steps_down old.names.items j ≡ Some z → (i ≡ j → ⊥) → spot forked_tree z ≡ spot tree z
    unfolding forked_tree grown
    same_spot j z up ne = by (beneath m.path z) where
      by : ((r : List Turn) × (z ≡ m.path ++ r)) ⊎ Beside m.path z → spot (replaced tree m.path grown) z ≡ spot tree z
      by (inr beside) = spot_beside tree m.path z grown beside
      by (inl ([], e)) = absurd (ne (turns_unique old.names.items old.rows.items holds.numbered i j z (m.named ∙ ap (λ v. Some v) (sym (e ∙ append-nil m.path))) up))
      by (inl (y ∷ r, e)) =
          let within = down_within old.names.items old.rows.items holds.numbered i j it m.path r y (was_here s state old new i x f) m.named (up ∙ ap (λ v. Some v) e) in
          ap (spot (replaced tree m.path grown)) e
          ∙ (under_here (y ∷ r)
          ∙ (side_none y (suc k) (spot (stands 0 (state f.left)) r) (spot (stands 0 (state f.right)) r) None (ne_eqb y.fork (suc k) (λ same. absurd (omega arith)))
          ∙ (sym (spot_under tree m.path k (state f.strand) y r m.here) ∙ ap (spot tree) (sym e))))

    old_name : (j : ℕ) (z : List Turn) (row : Row S) → slice_get old.rows.items j ≡ Some row → steps_down new.names.items j ≡ Some z → steps_down old.names.items j ≡ Some z
    old_name j z row there up =
        let (y, was) = turns_total old.names.items old.rows.items holds.numbered j (let same = holds.numbered.same in let within = slice_get_within old.rows.items j row there in omega arith) in
        let more : steps_down new.names.items j ≡ Some y = ap (λ ns. steps_down ns j) (names_now s state old new i x f) ∙ turns_more old.names.items (left_name i f.fork ∷ right_name i f.fork ∷ []) j y was in
        let same : y ≡ z = (let e : Some y ≡ Some z = sym more ∙ up in cc) in
        was ∙ ap (λ v. Some v) same

    path_now : steps_down new.names.items i ≡ Some m.path
    path_now = ap (λ ns. steps_down ns i) (names_now s state old new i x f) ∙ turns_more old.names.items (left_name i f.fork ∷ right_name i f.fork ∷ []) i m.path m.named

    low : i < length old.names.items
    low = let same = holds.numbered.same in let within = slice_get_within old.rows.items i it (was_here s state old new i x f) in omega arith

    side_name : (n : ℕ) (b : Bool) → i < n → slice_get new.names.items n ≡ Some (record { parent = i; fork = f.fork; right = b }) → steps_down new.names.items n ≡ Some (m.path ++ turn_to (suc k) b ∷ [])
    side_name zero b less here = absurd (omega arith)
    side_name (suc n) b less here = turns_step new.names.items n (record { parent = i; fork = f.fork; right = b }) m.path here less path_now ∙ ap (λ v. Some (m.path ++ turn_to v b ∷ [])) (fork_number s state old new i x f)

    at_place : (j : ℕ) (z : List Turn) (row : Row S) → steps_down new.names.items j ≡ Some z → Which s state old new i x f holds.numbered j row → IsSpotAt state row.place (length row.forks.items) (spot forked_tree z)
    at_place j z row up (other ne there) =
        let before = old_name j z row there up in
        place_is state row.place row.place (length row.forks.items) (length row.forks.items) (spot forked_tree z) (spot tree z) refl refl (same_spot j z before ne) (holds.places j z row before there)
    at_place j z row up (itself e same) =
        let path : z ≡ m.path = (let g : Some z ≡ Some m.path = sym up ∙ (ap (steps_down new.names.items) (sym e) ∙ path_now) in cc) in
        let many : length row.forks.items ≡ suc k = ap (λ (t : Row S). length t.forks.items) (sym same) ∙ (ap length (now_forks s state old new i x f) ∙ (length_push it.forks.items x ∙ omega arith)) in
        place_is state row.place Waits (length row.forks.items) (suc k) (spot forked_tree z) (Some (waiting (suc k))) (ap (λ (t : Row S). t.place) (sym same) ∙ now_waits s state old new i x f) many (ap (spot forked_tree) path ∙ here_now) (refl, omega arith)
    at_place j z row up (on_left e same) =
        let less : i < x.left = (let l = f.left_number in let low = low in omega arith) in
        let path : z ≡ m.path ++ turn_to (suc k) false ∷ [] = (let g : Some z ≡ Some (m.path ++ turn_to (suc k) false ∷ []) = sym up ∙ (ap (steps_down new.names.items) e ∙ side_name x.left false less (left_here s state old new i x f holds.numbered)) in cc) in
        place_is state row.place (Stands f.left) (length row.forks.items) 0 (spot forked_tree z) (Some (standing 0 (state f.left))) (ap (λ (t : Row S). t.place) (sym same) ∙ f.starts_left.place) (ap (λ (t : Row S). length t.forks.items) (sym same) ∙ ap length f.starts_left.forks) (ap (spot forked_tree) path ∙ left_now) (refl, refl)
    at_place j z row up (on_right e same) =
        let less : i < x.right = (let l = f.right_number in let low = low in omega arith) in
        let path : z ≡ m.path ++ turn_to (suc k) true ∷ [] = (let g : Some z ≡ Some (m.path ++ turn_to (suc k) true ∷ []) = sym up ∙ (ap (steps_down new.names.items) e ∙ side_name x.right true less (right_here s state old new i x f holds.numbered)) in cc) in
        place_is state row.place (Stands f.right) (length row.forks.items) 0 (spot forked_tree z) (Some (standing 0 (state f.right))) (ap (λ (t : Row S). t.place) (sym same) ∙ f.starts_right.place) (ap (λ (t : Row S). length t.forks.items) (sym same) ∙ ap length f.starts_right.forks) (ap (spot forked_tree) path ∙ right_now) (refl, refl)

    after_forked : After s state tree new
    after_forked = record {
      now = forked_tree;
      holds = record {
        numbered = fork_numbered s state old new i x f holds.numbered;
        places = λ j z row up here. at_place j z row up (which s state old new i x f holds.numbered j row here);
      };
      same = comes_same;
    }

  pub after_fork : After s state tree new
  after_fork = after_forked forked
