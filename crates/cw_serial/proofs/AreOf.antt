-- Strands in memory that are those of one program stay so.
use Rattle.std.proofs.Common.{◌≡◌, ℕ, zero, suc, refl, ap, sym, ◌∙◌, subst, ◌⊎◌, inl, inr, Option, Some, None, List, [], ◌∷◌, ◌++◌}
use Rattle.std.specs.List.{slice_get}
use Rattle.std.proofs.lemmas.Option.{same_Some}
use Rattle.cw_code.specs.declared.program.Program.{Program}
use Rattle.cw_tree.specs.declared.picks.Name.{Name}
use Rattle.cw_serial.specs.declared.table.Place.{Place}
use Rattle.cw_serial.specs.declared.table.Place.TheVariants.{Stands}
use Rattle.cw_serial.specs.declared.table.Sides.{Sides}
use Rattle.cw_serial.specs.declared.table.Row.{Row}
use Rattle.cw_serial.specs.declared.table.Table.{Table}
use Rattle.cw_job.specs.declared.standing.Standing.{Standing}
use Rattle.cw_serial.specs.TableInMemory.{strand_in, strand_in_row, Starts, Puts, Notes}
use Rattle.cw_job.specs.Room.Strands.{IsOf}
use Rattle.cw_serial.specs.AreOf.{AreOf}
use Rattle.cw_serial.proofs.Numbered.{set_cases}

-- an element of a list, or the one behind it
last_cases : {X : Type 0} (xs : List X) (i : ℕ) (a x : X) → slice_get (xs ++ a ∷ []) i ≡ Some x → (slice_get xs i ≡ Some x) ⊎ (a ≡ x)
last_cases [] zero a x h = inr cc
last_cases [] (suc i) a x h = absurd cc
last_cases (y ∷ xs) zero a x h = inl h
last_cases (y ∷ xs) (suc i) a x h = last_cases xs i a x h

-- where a strand stands there is its row
row_there : {S : Type 0} (o : Option (Row S)) (x : S) → strand_in_row o ≡ Some x → (r : Row S) × ((o ≡ Some r) × (strand_in r.place ≡ Some x))
row_there None x h = absurd cc
row_there (Some r) x h = (r, (refl, h))

module _ (program : Program) where
  -- the strand at a place is one of the program
  abbrev pub PlaceIsOf : Place Standing → Type 0
  PlaceIsOf place = (x : Standing) → strand_in place ≡ Some x → IsOf program x

  row_is_of : (rows : List (Row Standing)) (i : ℕ) (r : Row Standing) → AreOf program rows → slice_get rows i ≡ Some r → PlaceIsOf r.place
  row_is_of rows i r all here x h = all i x (ap strand_in_row here ∙ h)

  -- the strand that was there is one of the program
  pub stood_is_of : (old new : Table Standing) (i : ℕ) (place : Place Standing) (x : Standing) → AreOf program old.rows.items → Puts old i place (Stands x) new → IsOf program x
  stood_is_of old new i place x all puts = row_is_of old.rows.items i puts.row all puts.here x (ap strand_in puts.was)

  pub put_are_of : (old new : Table Standing) (i : ℕ) (place former : Place Standing) → AreOf program old.rows.items → Puts old i place former new → PlaceIsOf place → AreOf program new.rows.items
  put_are_of old new i place former all puts is j x h =
      let (r, (there, stands)) = row_there (slice_get new.rows.items j) x h in
      by r stands (set_cases old.rows.items i j puts.row (record puts.row { place = place }) r puts.here (ap (λ rs. slice_get rs j) (sym puts.rows) ∙ there)) where
        by : (r : Row Standing) → strand_in r.place ≡ Some x → ((i ≡ j) × (record puts.row { place = place } ≡ r)) ⊎ ((i ≡ j → ⊥) × (slice_get old.rows.items j ≡ Some r)) → IsOf program x
        by r stands (inl (e, same)) = is x (ap (λ (t : Row Standing). strand_in t.place) same ∙ stands)
        by r stands (inr (ne, there)) = row_is_of old.rows.items j r all there x stands

  pub started_are_of : (old new : Table Standing) (name : Name) (x : Standing) → AreOf program old.rows.items → Starts old name x new → IsOf program x → AreOf program new.rows.items
  started_are_of old new name x all starts is j y h =
      let (r, (there, stands)) = row_there (slice_get new.rows.items j) y h in
      by r stands (last_cases old.rows.items j starts.row r (ap (λ rs. slice_get rs j) (sym starts.rows) ∙ there)) where
        by : (r : Row Standing) → strand_in r.place ≡ Some y → (slice_get old.rows.items j ≡ Some r) ⊎ (starts.row ≡ r) → IsOf program y
        by r stands (inl there) = row_is_of old.rows.items j r all there y stands
        by r stands (inr same) =
            let e : Some x ≡ Some y = sym (ap strand_in starts.place) ∙ (ap (λ (t : Row Standing). strand_in t.place) same ∙ stands) in
            subst (λ z. IsOf program z) (same_Some x y e) is

  pub noted_are_of : (old new : Table Standing) (i fork : ℕ) (sides : Sides) → AreOf program old.rows.items → Notes old i sides fork new → AreOf program new.rows.items
  noted_are_of old new i fork sides all notes j x h =
      let (r, (there, stands)) = row_there (slice_get new.rows.items j) x h in
      by r stands (set_cases old.rows.items i j notes.row notes.more r notes.here (ap (λ rs. slice_get rs j) (sym notes.rows) ∙ there)) where
        by : (r : Row Standing) → strand_in r.place ≡ Some x → ((i ≡ j) × (notes.more ≡ r)) ⊎ ((i ≡ j → ⊥) × (slice_get old.rows.items j ≡ Some r)) → IsOf program x
        by r stands (inl (e, same)) =
            row_is_of old.rows.items i notes.row all notes.here x (ap strand_in (sym notes.place) ∙ (ap (λ (t : Row Standing). strand_in t.place) same ∙ stands))
        by r stands (inr (ne, there)) = row_is_of old.rows.items j r all there x stands

  -- nothing stands there
  pub nobody_is_of : (place : Place Standing) → strand_in place ≡ None → PlaceIsOf place
  nobody_is_of place none x h = absurd (let e : Some x ≡ None = sym h ∙ none in cc)

  pub stands_is_of : (x : Standing) → IsOf program x → PlaceIsOf (Stands x)
  stands_is_of x is y h = subst (λ z. IsOf program z) (same_Some x y h) is
