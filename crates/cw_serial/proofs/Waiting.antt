-- What stands in memory, and waits.
use Rattle.std.proofs.Common.{◌≡◌, ℕ, ◌-◌, ◌<◌, refl, ap, sym, ◌∙◌, arith, true, Option, Some, None, List, length}
use Rattle.std.specs.List.{slice_get}
use Rattle.std.proofs.lemmas.Option.{slice_get_within}
use Rattle.cw_strand.specs.declared.want.Want.{Want}
use Rattle.cw_strand.specs.declared.want.Want.TheVariants.{Fork}
use Rattle.cw_strand.specs.Strands.{Strands, is_over}
use Rattle.cw_serial.specs.declared.table.Place.{Place}
use Rattle.cw_serial.specs.declared.table.Place.TheVariants.{Stands, Waits, Gone}
use Rattle.cw_serial.specs.declared.table.Sides.{Sides}
use Rattle.cw_serial.specs.declared.table.Row.{Row}
use Rattle.cw_serial.specs.declared.table.Table.{Table}
use Rattle.cw_serial.specs.TableInMemory.{strand_in, strand_in_row, want_of, want_at, over_by, over_at, awaited_in, awaited_of, awaited_at, Puts, Joins}
use Rattle.cw_serial.proofs.Numbered.{set_here, set_elsewhere}

-- a strand at its end wants no fork
pub over_wants_none : (w : Want) → is_over w ≡ true → w ≡ Fork → ⊥
over_wants_none w o e = let f : is_over Fork ≡ true = ap is_over (sym e) ∙ o in cc

-- ## The strands for which one waits

sides_apart : (x : Sides) → x.left ≡ x.right → ⊥
sides_apart x e = let next = x.next in absurd (omega arith)

module _ {S : Type 0} where
  pub record Awaiting (rows : List (Row S)) (i : ℕ) (x : Sides) : Type 0 where
    pub row : Row S
    pub here : slice_get rows i ≡ Some row
    pub waits : row.place ≡ Waits
    pub newest : slice_get row.forks.items (length row.forks.items - 1) ≡ Some x

  pub awaited_there : (rows : List (Row S)) (i : ℕ) (x : Sides) → awaited_at rows i ≡ Some x → Awaiting rows i x
  awaited_there rows i x h = by (slice_get rows i) refl h where
    at_place : (row : Row S) (pl : Place S) → slice_get rows i ≡ Some row → row.place ≡ pl → awaited_in pl row.forks.items ≡ Some x → Awaiting rows i x
    at_place row Waits here waits e = record { row = row; here = here; waits = waits; newest = e }
    at_place row (Stands st) here waits e = absurd cc
    at_place row Gone here waits e = absurd cc

    by : (o : Option (Row S)) → slice_get rows i ≡ o → awaited_of o ≡ Some x → Awaiting rows i x
    by None here e = absurd cc
    by (Some row) here e = at_place row row.place here refl e

  pub awaited_here : (rows : List (Row S)) (i : ℕ) (row : Row S) (x : Sides) → slice_get rows i ≡ Some row → row.place ≡ Waits → slice_get row.forks.items (length row.forks.items - 1) ≡ Some x → awaited_at rows i ≡ Some x
  awaited_here rows i row x here waits newest = ap awaited_of here ∙ (ap (λ pl. awaited_in pl row.forks.items) waits ∙ newest)

  -- where a strand was put elsewhere, another one is where it was
  pub puts_elsewhere : (old new : Table S) (i j : ℕ) (pl former : Place S) → Puts old i pl former new → (i ≡ j → ⊥) → slice_get new.rows.items j ≡ slice_get old.rows.items j
  puts_elsewhere old new i j pl former puts ne = ap (λ ts. slice_get ts j) puts.rows ∙ set_elsewhere old.rows.items i j (record puts.row { place = pl }) ne

  pub puts_here : (old new : Table S) (i : ℕ) (pl former : Place S) → (puts : Puts old i pl former new) → slice_get new.rows.items i ≡ Some (record puts.row { place = pl })
  puts_here old new i pl former puts = ap (λ ts. slice_get ts i) puts.rows ∙ set_here old.rows.items i puts.row (record puts.row { place = pl }) puts.here

  -- the two strands of a fork have gone
  module _ (old one two : Table S) (i : ℕ) (sides : Sides) (left right : S) (awaited : awaited_at old.rows.items i ≡ Some sides) (left_gone : Puts old sides.left Gone (Stands left) one) (right_gone : Puts one sides.right Gone (Stands right) two) where
    not_waiting : (j : ℕ) (row : Row S) (st : S) → slice_get old.rows.items j ≡ Some row → row.place ≡ Stands st → j ≡ i → ⊥
    not_waiting j row st here stands e =
        let w = awaited_there old.rows.items i sides awaited in
        let same : row ≡ w.row = (let f : Some row ≡ Some w.row = sym here ∙ (ap (slice_get old.rows.items) e ∙ w.here) in cc) in
        let f : Stands st ≡ Waits = sym stands ∙ (ap (λ (v : Row S). v.place) same ∙ w.waits) in
        cc

    pub right_here : slice_get old.rows.items sides.right ≡ Some right_gone.row
    right_here = sym (puts_elsewhere old one sides.left sides.right Gone (Stands left) left_gone (sides_apart sides)) ∙ right_gone.here

    -- the strand that forked still waits
    pub waits_still : slice_get two.rows.items i ≡ slice_get old.rows.items i
    waits_still =
        puts_elsewhere one two sides.right i Gone (Stands right) right_gone (not_waiting sides.right right_gone.row right right_here right_gone.was)
        ∙ puts_elsewhere old one sides.left i Gone (Stands left) left_gone (not_waiting sides.left left_gone.row left left_gone.here left_gone.was)

-- ## Wants

module _ {S A : Type 0} (s : Strands A) (state : S → A) where
  module _ (rows : List (Row S)) (i : ℕ) where
    -- what is wanted where a strand stands
    pub want_here : (row : Row S) (st : S) → slice_get rows i ≡ Some row → row.place ≡ Stands st → want_at s state rows i ≡ Some (s.want (state st))
    want_here row st here stands = ap (λ o. want_of s state (strand_in_row o)) here ∙ ap (λ pl. want_of s state (strand_in pl)) stands

    pub record Standing (w : Want) : Type 0 where
      pub row : Row S
      pub strand : S
      pub here : slice_get rows i ≡ Some row
      pub stands : row.place ≡ Stands strand
      pub wants : s.want (state strand) ≡ w

    pub want_there : (w : Want) → want_at s state rows i ≡ Some w → Standing w
    want_there w h = by (slice_get rows i) refl h where
      at_place : (row : Row S) (pl : Place S) → slice_get rows i ≡ Some row → row.place ≡ pl → want_of s state (strand_in pl) ≡ Some w → Standing w
      at_place row (Stands st) here stands e = record { row = row; strand = st; here = here; stands = stands; wants = cc }
      at_place row Waits here stands e = absurd cc
      at_place row Gone here stands e = absurd cc

      by : (o : Option (Row S)) → slice_get rows i ≡ o → want_of s state (strand_in_row o) ≡ Some w → Standing w
      by None here e = absurd cc
      by (Some row) here e = at_place row row.place here refl e

    pub over_there : over_at s state rows i ≡ true → (w : Want) × (want_at s state rows i ≡ Some w) × (is_over w ≡ true)
    over_there h = by (want_at s state rows i) refl h where
      by : (o : Option Want) → want_at s state rows i ≡ o → over_by o ≡ true → (w : Want) × (want_at s state rows i ≡ Some w) × (is_over w ≡ true)
      by None e f = absurd cc
      by (Some w) e f = (w, e, f)

    pub over_here : (row : Row S) (st : S) → slice_get rows i ≡ Some row → row.place ≡ Stands st → over_at s state rows i ≡ is_over (s.want (state st))
    over_here row st here stands = ap over_by (want_here row st here stands)

    -- a strand at its end, in its row
    pub over_row : over_at s state rows i ≡ true → (w : Want) × Standing w × (is_over w ≡ true)
    over_row h =
        let (w, wants, is) = over_there h in
        (w, want_there w wants, is)

    pub over_within : over_at s state rows i ≡ true → i < length rows
    over_within h = let (w, st, is) = over_row h in slice_get_within rows i st.row st.here

  -- a strand at its end that is put elsewhere
  module _ (old new : Table S) (i : ℕ) (pl former : Place S) (over : over_at s state old.rows.items i ≡ true) (puts : Puts old i pl former new) where
    pub over_stood : (st : S) × (former ≡ Stands st)
    over_stood =
        let (w, st, is) = over_row old.rows.items i over in
        let same : puts.row ≡ st.row = (let e : Some puts.row ≡ Some st.row = sym puts.here ∙ st.here in cc) in
        (st.strand, sym puts.was ∙ (ap (λ (v : Row S). v.place) same ∙ st.stands))

    pub over_was : (st : S) → former ≡ Stands st → is_over (s.want (state st)) ≡ true
    over_was st e = sym (over_here old.rows.items i puts.row st puts.here (puts.was ∙ e)) ∙ over

  -- the right strand of a fork is at its end, though the left one has gone
  pub over_still : (old new : Table S) (x : Sides) (former : Place S) → over_at s state old.rows.items x.right ≡ true → Puts old x.left Gone former new → over_at s state new.rows.items x.right ≡ true
  over_still old new x former over puts = ap (λ o. over_by (want_of s state (strand_in_row o))) (puts_elsewhere old new x.left x.right Gone former puts (sides_apart x)) ∙ over

  pub join_made : (old one two new : Table S) (i : ℕ) (x : Sides) (left right joined : S) (former : Place S) → awaited_at old.rows.items i ≡ Some x
      → over_at s state old.rows.items x.left ≡ true → over_at s state old.rows.items x.right ≡ true
      → Puts old x.left Gone (Stands left) one → Puts one x.right Gone (Stands right) two → Puts two i (Stands joined) former new
      → state joined ≡ s.joined (state right) (state left) → Joins s state old i new
  join_made old one two new i x left right joined former awaited left_over right_over left_gone right_gone goes becomes =
      let w = awaited_there old.rows.items i x awaited in
      let same : goes.row ≡ w.row = (let f : Some goes.row ≡ Some w.row = sym goes.here ∙ (waits_still old one two i x left right awaited left_gone right_gone ∙ w.here) in cc) in
      let waits : former ≡ Waits = sym goes.was ∙ (ap (λ (v : Row S). v.place) same ∙ w.waits) in
      record {
        sides = x;
        left = left;
        right = right;
        joined = joined;
        one = one;
        two = two;
        awaited = awaited;
        left_over = over_was old one x.left Gone (Stands left) left_over left_gone left refl;
        right_over = over_was one two x.right Gone (Stands right) (over_still old one x (Stands left) right_over left_gone) right_gone right refl;
        left_gone = left_gone;
        right_gone = right_gone;
        goes_on = rw waits at goes;
        becomes = becomes;
      }
