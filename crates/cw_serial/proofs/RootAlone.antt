-- The root strand alone.
use Rattle.std.proofs.Common.{◌≡◌, ℕ, zero, suc, refl, ap, sym, ◌∙◌, arith, Some, None, List, [], ◌∷◌, ◌++◌, length, Contains}
use Rattle.std.specs.List.{slice_get}
use Rattle.cw_strand.specs.declared.want.Want.TheVariants.{Fork}
use Rattle.cw_strand.specs.Strands.{Strands}
use Rattle.cw_tree.specs.declared.picks.Name.{Name}
use Rattle.cw_tree.specs.declared.picks.Turn.{Turn}
use Rattle.cw_serial.specs.declared.table.Place.TheVariants.{Stands, Waits}
use Rattle.cw_serial.specs.declared.table.Sides.{Sides}
use Rattle.cw_serial.specs.declared.table.Row.{Row}
use Rattle.cw_serial.specs.declared.table.Table.{Table}
use Rattle.cw_serial.specs.StrandTree.{stands, goes_on}
use Rattle.cw_serial.specs.Machine.{steps_down}
use Rattle.cw_serial.specs.Spots.{standing, spot}
use Rattle.cw_serial.specs.TableInMemory.{root, IsSpotAt, Starts, SettlesTo, want_at, awaited_at}
use Rattle.cw_serial.proofs.Numbers.{turns_first}
use Rattle.cw_serial.proofs.Waiting.{want_there, awaited_there}
use Rattle.cw_serial.proofs.Joining.{place_is}

alone : {X : Type 0} (x : X) (i : ℕ) (y : X) → slice_get (x ∷ []) i ≡ Some y → (i ≡ 0) × (x ≡ y)
alone x zero y h = (refl, cc)
alone x (suc i) y h = absurd cc

module _ {S A : Type 0} (s : Strands A) (state : S → A) (old new : Table S) (strand : S) (a : A) (no_names : old.names.items ≡ []) (no_rows : old.rows.items ≡ []) (starts : Starts old root strand new) (is : state strand ≡ a) where
  names_are : new.names.items ≡ root ∷ []
  names_are = starts.names ∙ ap (λ ns. ns ++ root ∷ []) no_names

  rows_are : new.rows.items ≡ starts.row ∷ []
  rows_are = starts.rows ∙ ap (λ rs. rs ++ starts.row ∷ []) no_rows

  row_alone : (i : ℕ) (row : Row S) → slice_get new.rows.items i ≡ Some row → (i ≡ 0) × (starts.row ≡ row)
  row_alone i row h = alone starts.row i row (ap (λ rs. slice_get rs i) (sym rows_are) ∙ h)

  no_forks : (i f : ℕ) (row : Row S) (x : Sides) → slice_get new.rows.items i ≡ Some row → slice_get row.forks.items f ≡ Some x → ⊥
  no_forks i f row x there here =
      let (e, same) = row_alone i row there in
      let none : None ≡ Some x = ap (λ ys. slice_get ys f) (sym starts.forks) ∙ (ap (λ (v : Row S). slice_get v.forks.items f) same ∙ here) in
      cc

  no_names_more : (j : ℕ) (n : Name) → slice_get new.names.items (suc j) ≡ Some n → ⊥
  no_names_more j n h = let e : None ≡ Some n = ap (λ ns. slice_get ns (suc j)) (sym names_are) ∙ h in cc

  at_place : (i : ℕ) (z : List Turn) (row : Row S) → steps_down new.names.items i ≡ Some z → slice_get new.rows.items i ≡ Some row → IsSpotAt state row.place (length row.forks.items) (spot (stands 0 a) z)
  at_place i z row up here =
      let (e, same) = row_alone i row here in
      let path : z ≡ [] = turns_first new.names.items z (ap (steps_down new.names.items) (sym e) ∙ up) in
      place_is state row.place (Stands strand) (length row.forks.items) 0 (spot (stands 0 a) z) (Some (standing 0 a)) (ap (λ (v : Row S). v.place) (sym same) ∙ starts.place) (ap (λ (v : Row S). length v.forks.items) (sym same) ∙ ap length starts.forks) (ap (spot (stands 0 a)) path) (refl, is)

  only_root : (i : ℕ) → want_at s state new.rows.items i ≡ Some Fork → Contains (0 ∷ []) i
  only_root i h =
      let st = want_there s state new.rows.items i Fork h in
      let (e, same) = row_alone i st.row st.here in
      (0, omega arith, sym e)

  none_waits : (i : ℕ) (x : Sides) → awaited_at new.rows.items i ≡ Some x → ⊥
  none_waits i x h =
      let w = awaited_there new.rows.items i x h in
      let (e, same) = row_alone i w.row w.here in
      let f : Stands strand ≡ Waits = sym starts.place ∙ (ap (λ (v : Row S). v.place) same ∙ w.waits) in
      cc

  pub root_comes : SettlesTo s state new (0 ∷ []) (goes_on s 0 a)
  root_comes = record {
    tree = stands 0 a;
    holds = record {
      numbered = record {
        same = ap length names_are ∙ sym (ap length rows_are);
        first = ap (λ ns. slice_get ns 0) names_are;
        forked = λ i f row x there here. absurd (no_forks i f row x there here);
        named = λ j n h. absurd (no_names_more j n h);
      };
      places = at_place;
    };
    comes = refl;
    quiet = record { fork = only_root; join = λ i x h left right. absurd (none_waits i x h) };
  }
