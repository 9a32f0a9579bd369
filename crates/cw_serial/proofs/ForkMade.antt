-- A fork in memory is a fork in the tree.
use Rattle.std.proofs.Common.{◌≡◌, ℕ, zero, suc, ◌+◌, ◌<◌, refl, ap, sym, ◌∙◌, arith, subst, ◌⊎◌, inl, inr, Some, None, List, [], ◌∷◌, ◌++◌, length, append_assoc}
use Rattle.std.specs.List.{slice_get}
use Rattle.std.proofs.lemmas.Bool.{cases_eq}
use Rattle.std.proofs.lemmas.List.{length-set, length-append}
use Rattle.std.proofs.lemmas.Option.{slice_get_within}
use Rattle.cw_strand.specs.Strands.{Strands}
use Rattle.cw_tree.specs.declared.picks.Name.{Name}
use Rattle.cw_serial.specs.declared.table.Place.TheVariants.{Stands, Waits}
use Rattle.cw_serial.specs.declared.table.Sides.{Sides}
use Rattle.cw_serial.specs.declared.table.Row.{Row}
use Rattle.cw_serial.specs.declared.table.Table.{Table}
use Rattle.cw_serial.specs.TableInMemory.{left_name, right_name, number_of, StrandsAreNumbered, Forks}
use Rattle.cw_serial.proofs.Numbers.{front_get, get_beyond}
use Rattle.cw_serial.proofs.Numbered.{set_here, set_elsewhere, pair_cases}
use Rattle.cw_serial.proofs.Waiting.{puts_here}

module _ {S A : Type 0} (s : Strands A) (state : S → A) (old new : Table S) (i : ℕ) (x : Sides) (f : Forks s state old i new x) where
  n : ℕ
  n = length old.names.items

  -- the strand that forked: as it was, and as it waits
  pub was : Row S
  was = f.waits.row

  pub now : Row S
  now = f.notes.more

  waits_row : Row S
  waits_row = record f.waits.row { place = Waits }

  abbrev pub left_row : Row S
  left_row = f.starts_left.row

  abbrev pub right_row : Row S
  right_row = f.starts_right.row

  notes_row : f.notes.row ≡ waits_row
  unfolding waits_row
  notes_row = let e : Some f.notes.row ≡ Some waits_row = sym f.notes.here ∙ puts_here old f.one i Waits (Stands f.strand) f.waits in cc

  pub was_here : slice_get old.rows.items i ≡ Some was
  unfolding was
  was_here = f.waits.here

  pub was_stands : was.place ≡ Stands f.strand
  unfolding was
  was_stands = f.waits.was

  pub now_waits : now.place ≡ Waits
  unfolding now waits_row
  now_waits = f.notes.place ∙ ap (λ (t : Row S). t.place) notes_row

  pub now_forks : now.forks.items ≡ was.forks.items ++ x ∷ []
  unfolding now was waits_row
  now_forks = f.notes.forks ∙ ap (λ (t : Row S). t.forks.items ++ x ∷ []) notes_row

  pub fork_number : f.fork ≡ suc (length was.forks.items)
  unfolding was waits_row
  fork_number = f.notes.number ∙ ap (λ (t : Row S). suc (length t.forks.items)) notes_row

  pub names_now : new.names.items ≡ old.names.items ++ left_name i f.fork ∷ right_name i f.fork ∷ []
  names_now =
      f.starts_right.names
      ∙ (ap (λ ns. ns ++ right_name i f.fork ∷ []) (f.starts_left.names ∙ ap (λ v. v.items ++ left_name i f.fork ∷ []) (f.notes.names ∙ f.waits.names))
      ∙ append_assoc old.names.items (left_name i f.fork ∷ []) (right_name i f.fork ∷ []))

  -- the rows without the two new ones
  pub middle : List (Row S)
  middle = f.two.rows.items

  pub rows_now : new.rows.items ≡ middle ++ left_row ∷ right_row ∷ []
  unfolding middle
  rows_now = f.starts_right.rows ∙ (ap (λ ts. ts ++ right_row ∷ []) f.starts_left.rows ∙ append_assoc f.two.rows.items (left_row ∷ []) (right_row ∷ []))

  pub middle_here : slice_get middle i ≡ Some now
  unfolding middle now
  middle_here = ap (λ ts. slice_get ts i) f.notes.rows ∙ set_here f.one.rows.items i f.notes.row f.notes.more f.notes.here

  pub middle_elsewhere : (j : ℕ) → (i ≡ j → ⊥) → slice_get middle j ≡ slice_get old.rows.items j
  unfolding middle
  middle_elsewhere j ne =
      ap (λ ts. slice_get ts j) f.notes.rows ∙ (set_elsewhere f.one.rows.items i j f.notes.more ne
      ∙ (ap (λ ts. slice_get ts j) f.waits.rows ∙ set_elsewhere old.rows.items i j (record f.waits.row { place = Waits }) ne))

  middle_length : length middle ≡ length old.rows.items
  unfolding middle
  middle_length = ap length f.notes.rows ∙ (length-set f.one.rows.items i f.notes.more ∙ (ap length f.waits.rows ∙ length-set old.rows.items i (record f.waits.row { place = Waits })))

  -- ## Numbers

  module _ (ok : StrandsAreNumbered old.names.items old.rows.items) where
    lengths : length middle ≡ n
    unfolding n
    lengths = middle_length ∙ sym ok.same

    -- a row: one that was there, the one that forked, or one of the two new ones
    pub data Which (j : ℕ) (t : Row S) : Type 0 where
      other : (i ≡ j → ⊥) → slice_get old.rows.items j ≡ Some t → Which j t
      itself : i ≡ j → now ≡ t → Which j t
      on_left : j ≡ x.left → left_row ≡ t → Which j t
      on_right : j ≡ x.right → right_row ≡ t → Which j t

    pub which : (j : ℕ) (t : Row S) → slice_get new.rows.items j ≡ Some t → Which j t
    unfolding n
    which j t h = by (pair_cases middle j left_row right_row t (ap (λ ts. slice_get ts j) (sym rows_now) ∙ h)) where
      in_middle : slice_get middle j ≡ Some t → (i ≡ j) ⊎ (i ≡ j → ⊥) → Which j t
      in_middle e (inl same) = itself same (let g : Some now ≡ Some t = sym middle_here ∙ (ap (slice_get middle) same ∙ e) in cc)
      in_middle e (inr ne) = other ne (sym (middle_elsewhere j ne) ∙ e)

      by : (slice_get middle j ≡ Some t) ⊎ (((j ≡ length middle) × (left_row ≡ t)) ⊎ ((j ≡ suc (length middle)) × (right_row ≡ t))) → Which j t
      by (inl e) = in_middle e (cases_eq i j)
      by (inr (inl (e, g))) = on_left (e ∙ (lengths ∙ sym f.left_number)) g
      by (inr (inr (e, g))) = on_right (e ∙ (ap suc lengths ∙ sym f.right_number)) g

    pub left_here : slice_get new.names.items x.left ≡ Some (left_name i f.fork)
    unfolding n
    left_here =
        ap (λ ns. slice_get ns x.left) names_now
        ∙ (ap (slice_get (old.names.items ++ left_name i f.fork ∷ right_name i f.fork ∷ [])) (let e = f.left_number in omega arith)
        ∙ get_beyond old.names.items (left_name i f.fork ∷ right_name i f.fork ∷ []) 0)

    pub right_here : slice_get new.names.items x.right ≡ Some (right_name i f.fork)
    unfolding n
    right_here =
        ap (λ ns. slice_get ns x.right) names_now
        ∙ (ap (slice_get (old.names.items ++ left_name i f.fork ∷ right_name i f.fork ∷ [])) (let e = f.right_number in omega arith)
        ∙ get_beyond old.names.items (left_name i f.fork ∷ right_name i f.fork ∷ []) 1)

    pub name_more : (j : ℕ) (m : Name) → slice_get old.names.items j ≡ Some m → slice_get new.names.items j ≡ Some m
    name_more j m h = ap (λ ns. slice_get ns j) names_now ∙ front_get old.names.items (left_name i f.fork ∷ right_name i f.fork ∷ []) j m h

    parent_within : i < n
    unfolding n
    parent_within = let same = ok.same in let within = slice_get_within old.rows.items i was was_here in omega arith

    old_there : (j : ℕ) (t : Row S) → slice_get old.rows.items j ≡ Some t → (u : Row S) × (slice_get new.rows.items j ≡ Some u) × ((g : ℕ) (y : Sides) → slice_get t.forks.items g ≡ Some y → slice_get u.forks.items g ≡ Some y)
    old_there j t h = by (cases_eq i j) where
      forward : (u : Row S) → slice_get middle j ≡ Some u → slice_get new.rows.items j ≡ Some u
      forward u e = ap (λ ts. slice_get ts j) rows_now ∙ front_get middle (left_row ∷ right_row ∷ []) j u e

      by : (i ≡ j) ⊎ (i ≡ j → ⊥) → (u : Row S) × (slice_get new.rows.items j ≡ Some u) × ((g : ℕ) (y : Sides) → slice_get t.forks.items g ≡ Some y → slice_get u.forks.items g ≡ Some y)
      by (inr ne) = (t, forward t (middle_elsewhere j ne ∙ h), λ g y e. e)
      by (inl e) =
          let same : was ≡ t = (let g : Some was ≡ Some t = sym was_here ∙ (ap (slice_get old.rows.items) e ∙ h) in cc) in
          (now, forward now (ap (slice_get middle) (sym e) ∙ middle_here), λ g y here. ap (λ ys. slice_get ys g) now_forks ∙ front_get was.forks.items (x ∷ []) g y (ap (λ (v : Row S). slice_get v.forks.items g) same ∙ here))

    Forked : ℕ → ℕ → Sides → Type 0
    Forked a g y = (a < y.left) × (a < y.right) × (slice_get new.names.items y.left ≡ Some (left_name a (suc g))) × (slice_get new.names.items y.right ≡ Some (right_name a (suc g)))

    forked_old : (a g : ℕ) (t : Row S) (y : Sides) → slice_get old.rows.items a ≡ Some t → slice_get t.forks.items g ≡ Some y → Forked a g y
    unfolding Forked
    forked_old a g t y there here = let (l, r, hl, hr) = ok.forked a g t y there here in (l, r, name_more y.left (left_name a (suc g)) hl, name_more y.right (right_name a (suc g)) hr)

    forked_here : (g : ℕ) (y : Sides) → (slice_get was.forks.items g ≡ Some y) ⊎ ((g ≡ length was.forks.items) × (x ≡ y)) → Forked i g y
    unfolding Forked n
    forked_here g y (inl e) = let (l, r, hl, hr) = ok.forked i g was y was_here e in (l, r, name_more y.left (left_name i (suc g)) hl, name_more y.right (right_name i (suc g)) hr)
    forked_here g y (inr (e, same)) =
        let number : f.fork ≡ suc g = fork_number ∙ ap suc (sym e) in
        let low : i < length old.names.items = parent_within in
        let l = f.left_number in
        let r = f.right_number in
        subst (λ (v : Sides). (i < v.left) × (i < v.right) × (slice_get new.names.items v.left ≡ Some (left_name i (suc g))) × (slice_get new.names.items v.right ≡ Some (right_name i (suc g)))) same
        (omega arith, omega arith, left_here ∙ ap (λ m. Some (left_name i m)) number, right_here ∙ ap (λ m. Some (right_name i m)) number)

    push_cases : (xs : List Sides) (g : ℕ) (y : Sides) → slice_get (xs ++ x ∷ []) g ≡ Some y → (slice_get xs g ≡ Some y) ⊎ ((g ≡ length xs) × (x ≡ y))
    push_cases [] zero y h = inr (refl, cc)
    push_cases [] (suc g) y h = absurd cc
    push_cases (z ∷ xs) zero y h = inl h
    push_cases (z ∷ xs) (suc g) y h = by (push_cases xs g y h) where
      by : (slice_get xs g ≡ Some y) ⊎ ((g ≡ length xs) × (x ≡ y)) → (slice_get xs g ≡ Some y) ⊎ ((suc g ≡ length (z ∷ xs)) × (x ≡ y))
      by (inl e) = inl e
      by (inr (e, same)) = inr (omega arith, same)

    forked_by : (a g : ℕ) (t : Row S) (y : Sides) → Which a t → slice_get t.forks.items g ≡ Some y → Forked a g y
    forked_by a g t y (other ne there) here = forked_old a g t y there here
    forked_by a g t y (itself e same) here =
        subst (λ b. Forked b g y) e (forked_here g y (push_cases was.forks.items g y (ap (λ ys. slice_get ys g) (sym now_forks) ∙ (ap (λ (v : Row S). slice_get v.forks.items g) same ∙ here))))
    forked_by a g t y (on_left e same) here = absurd (let none : None ≡ Some y = ap (λ ys. slice_get ys g) (sym f.starts_left.forks) ∙ (ap (λ (v : Row S). slice_get v.forks.items g) same ∙ here) in cc)
    forked_by a g t y (on_right e same) here = absurd (let none : None ≡ Some y = ap (λ ys. slice_get ys g) (sym f.starts_right.forks) ∙ (ap (λ (v : Row S). slice_get v.forks.items g) same ∙ here) in cc)

    Named : ℕ → Name → Type 0
    Named j m = (t : Row S) × (g : ℕ) × (y : Sides) × (slice_get new.rows.items m.parent ≡ Some t) × (m.fork ≡ suc g) × (slice_get t.forks.items g ≡ Some y) × (number_of y m.right ≡ suc j)

    new_there : slice_get new.rows.items i ≡ Some now
    new_there = ap (λ ts. slice_get ts i) rows_now ∙ front_get middle (left_row ∷ right_row ∷ []) i now middle_here

    newest_there : slice_get now.forks.items (length was.forks.items) ≡ Some x
    newest_there = ap (λ ys. slice_get ys (length was.forks.items)) now_forks ∙ (ap (slice_get (was.forks.items ++ x ∷ [])) (omega arith) ∙ get_beyond was.forks.items (x ∷ []) 0)

    named_by : (j : ℕ) (m : Name) → (slice_get old.names.items (suc j) ≡ Some m) ⊎ (((suc j ≡ length old.names.items) × (left_name i f.fork ≡ m)) ⊎ ((suc j ≡ suc (length old.names.items)) × (right_name i f.fork ≡ m))) → Named j m
    unfolding Named
    named_by j m (inl e) =
        let (t, g, y, there, fork, here, number) = ok.named j m e in
        let (u, at, keeps) = old_there m.parent t there in
        (u, g, y, at, fork, keeps g y here, number)
    named_by j m (inr (inl (e, same))) =
        subst (λ (v : Name). (t : Row S) × (g : ℕ) × (y : Sides) × (slice_get new.rows.items v.parent ≡ Some t) × (v.fork ≡ suc g) × (slice_get t.forks.items g ≡ Some y) × (number_of y v.right ≡ suc j)) same
        (now, length was.forks.items, x, new_there, fork_number, newest_there, f.left_number ∙ sym e)
    named_by j m (inr (inr (e, same))) =
        subst (λ (v : Name). (t : Row S) × (g : ℕ) × (y : Sides) × (slice_get new.rows.items v.parent ≡ Some t) × (v.fork ≡ suc g) × (slice_get t.forks.items g ≡ Some y) × (number_of y v.right ≡ suc j)) same
        (now, length was.forks.items, x, new_there, fork_number, newest_there, f.right_number ∙ sym e)

    pub fork_numbered : StrandsAreNumbered new.names.items new.rows.items
    unfolding Forked Named
    fork_numbered = record {
      same = ap length names_now ∙ (length-append old.names.items (left_name i f.fork ∷ right_name i f.fork ∷ []) ∙ (ap (λ m. m + 2) (ok.same ∙ sym middle_length) ∙ (sym (length-append middle (left_row ∷ right_row ∷ [])) ∙ ap length (sym rows_now))));
      first = name_more 0 _ ok.first;
      forked = λ a g t y there here. forked_by a g t y (which a t there) here;
      named = λ j m h. named_by j m (pair_cases old.names.items (suc j) (left_name i f.fork) (right_name i f.fork) m (ap (λ ns. slice_get ns (suc j)) (sym names_now) ∙ h));
    }
