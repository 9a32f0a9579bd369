-- The table of nestings: the parts that its rows stand for, that numbers tell nestings apart, and one row more.
use Rattle.std.proofs.Common.{◌≡◌, ◌≢◌, ℕ, zero, suc, ◌+◌, ◌<◌, ◌⊎◌, inl, inr, ⊎_elim, Bool, true, false, List, [], ◌∷◌, ◌++◌, length, Some, refl, sym, ap, ◌∙◌, subst, arith, length-append}
use Rattle.std.specs.Prelude.{slice_get, slice_set, ◌==◌, Result, Ok, Err, IfOk, OnErr}
use Rattle.std.proofs.lemmas.Option.{slice_get_within}
use Rattle.std.proofs.lemmas.List.{get_or_append_left, length-set}
use Rattle.std.proofs.Math.Seq.{get_or-append_seam}
use Rattle.std.proofs.lemmas.Bool.{cases_order}
use Rattle.std.proofs.lemmas.Bool.Decides.{eqb_tells}
use Rattle.cw_code.specs.declared.situation.Part.{Part}
use Rattle.cw_code.specs.declared.situation.Part.TheVariants.{Block as block, Fork as forked}
use Rattle.cw_code.specs.declared.nestings.Nesting.{Nesting}
use Rattle.cw_code.specs.Rules.{is_part, same_parts}
use Rattle.cw_code.specs.Nested.{Nested, parts_at, IsGrown, with_nestings, lists, child, with_child, IsTable}
use Rattle.cw_code.proofs.Parts.{is_part_same, same_parts_itself, same_parts_is}

-- ## Grown tables

pub grown_not : (ns : Nested) → IsGrown ns ns
grown_not ns = record { longer = omega arith; same = λ n lt. refl }

pub grown_twice : (ns ms ls : Nested) → IsGrown ns ms → IsGrown ms ls → IsGrown ns ls
grown_twice ns ms ls a b = record {
  longer = omega (arith, a.longer, b.longer);
  same = λ n lt. b.same n (omega (arith, a.longer)) ∙ a.same n lt;
}

pub grown_by : (ns : Nested) (ps : List Part) → IsGrown ns (ns ++ ps ∷ [])
grown_by ns ps = record {
  longer = let l : length (ns ++ ps ∷ []) ≡ length ns + length (ps ∷ []) = length-append ns (ps ∷ []) in omega arith;
  same = λ n lt. get_or_append_left ns (ps ∷ []) [] n lt;
}

-- ## What rows stand for

abbrev more : Nested → Nesting → Nested
more ns r = ns ++ (r.part ∷ parts_at ns r.outer) ∷ []

length_more : (ns : Nested) (r : Nesting) → length (more ns r) ≡ length ns + 1
length_more ns r = length-append ns ((r.part ∷ parts_at ns r.outer) ∷ [])

length_with_nestings : (rs : List Nesting) (ns : Nested) → length (with_nestings ns rs) ≡ length ns + length rs
length_with_nestings [] ns = omega arith
length_with_nestings (r ∷ rs) ns = omega (arith, length_with_nestings rs (more ns r), length_more ns r)

-- what is there stays
with_nestings_old : (rs : List Nesting) (ns : Nested) (n : ℕ) → n < length ns → parts_at (with_nestings ns rs) n ≡ parts_at ns n
with_nestings_old [] ns n lt = refl
with_nestings_old (r ∷ rs) ns n lt = with_nestings_old rs (more ns r) n (omega (arith, length_more ns r)) ∙ (grown_by ns (r.part ∷ parts_at ns r.outer)).same n lt

-- a row stands for its part in what is around it
with_nestings_row : (rs : List Nesting) (ns : Nested) (k n : ℕ) (r : Nesting) → slice_get rs k ≡ Some r → n ≡ length ns + k → r.outer < n → parts_at (with_nestings ns rs) n ≡ r.part ∷ parts_at (with_nestings ns rs) r.outer
with_nestings_row [] ns k n r is e lt = cc
with_nestings_row (q ∷ rs) ns zero n r is e lt =
    let same : q ≡ r = cc in
    let at : n ≡ length ns = omega arith in
    let here : parts_at (with_nestings (more ns r) rs) n ≡ parts_at (more ns r) n = with_nestings_old rs (more ns r) n (omega (arith, length_more ns r)) in
    let seam : parts_at (more ns r) n ≡ r.part ∷ parts_at ns r.outer = ap (parts_at (more ns r)) at ∙ get_or-append_seam ns (r.part ∷ parts_at ns r.outer) [] [] in
    let around : parts_at (with_nestings (more ns r) rs) r.outer ≡ parts_at ns r.outer = with_nestings_old (r ∷ rs) ns r.outer (omega arith) in
    subst (λ x. parts_at (with_nestings (more ns x) rs) n ≡ r.part ∷ parts_at (with_nestings (more ns x) rs) r.outer) (sym same) (here ∙ seam ∙ ap (λ ps. r.part ∷ ps) (sym around))
with_nestings_row (q ∷ rs) ns (suc k) n r is e lt = with_nestings_row rs (more ns q) k n r is (omega (arith, length_more ns q)) lt

-- one row more
with_nestings_more : (rs : List Nesting) (ns : Nested) (r : Nesting) → with_nestings ns (rs ++ r ∷ []) ≡ more (with_nestings ns rs) r
with_nestings_more [] ns r = refl
with_nestings_more (q ∷ rs) ns r = with_nestings_more rs (more ns q) r

-- a row with the same part in the same nesting stands for the same
with_nestings_set : (rs : List Nesting) (ns : Nested) (k : ℕ) (r q : Nesting) → slice_get rs k ≡ Some r → q.part ≡ r.part → q.outer ≡ r.outer → with_nestings ns (slice_set rs k q) ≡ with_nestings ns rs
with_nestings_set [] ns k r q is part outer = cc
with_nestings_set (x ∷ rs) ns zero r q is part outer =
    let same : x ≡ r = cc in
    let row : q.part ∷ parts_at ns q.outer ≡ x.part ∷ parts_at ns x.outer = rw (part, outer, same) refl in
    ap (λ ps. with_nestings (ns ++ ps ∷ []) rs) row
with_nestings_set (x ∷ rs) ns (suc k) r q is part outer = with_nestings_set rs (more ns x) k r q is part outer

-- ## A table

pub length_lists : (rows : List Nesting) → length (lists rows) ≡ length rows
length_lists [] = refl
length_lists (r ∷ rs) = let l : length (with_nestings ([] ∷ []) rs) ≡ length {A = List Part} ([] ∷ []) + length rs = length_with_nestings rs ([] ∷ []) in omega arith

pub row_there : (rows : List Nesting) (k : ℕ) → k < length rows → (r : Nesting) × (slice_get rows k ≡ Some r)
row_there [] k lt = absurd (omega arith)
row_there (r ∷ rs) zero lt = (r, refl)
row_there (r ∷ rs) (suc k) lt = row_there rs k (omega arith)

pub no_part : (rows : List Nesting) → parts_at (lists rows) 0 ≡ []
no_part [] = refl
no_part (r ∷ rs) = with_nestings_old rs ([] ∷ []) 0 (omega arith)

pub part_in : (rows : List Nesting) → IsTable rows → (k : ℕ) (r : Nesting) → slice_get rows (suc k) ≡ Some r → parts_at (lists rows) (suc k) ≡ r.part ∷ parts_at (lists rows) r.outer
part_in [] t k r is = cc
part_in (q ∷ rs) t k r is = with_nestings_row rs ([] ∷ []) k (suc k) r is (omega arith) (t.before k r is)

-- a table's first part and what is around it, at a number that is not 0
pub around : (rows : List Nesting) → IsTable rows → (n : ℕ) (r : Nesting) → slice_get rows n ≡ Some r → n ≢ 0 → (parts_at (lists rows) n ≡ r.part ∷ parts_at (lists rows) r.outer) × (r.outer < n)
around rows t zero r is some = absurd (some refl)
around rows t (suc k) r is some = (part_in rows t k r is, t.before k r is)

-- numbers tell nestings apart
module _ (rows : List Nesting) (t : IsTable rows) where
  tells_from : (ps : List Part) (i j : ℕ) → i < length rows → j < length rows → parts_at (lists rows) i ≡ ps → parts_at (lists rows) j ≡ ps → i ≡ j
  tells_from ps zero zero li lj a b = refl
  tells_from [] zero (suc j) li lj a b =
      let q = row_there rows (suc j) lj in
      let no : q.0.part ∷ parts_at (lists rows) q.0.outer ≡ [] = sym (part_in rows t j q.0 q.1) ∙ b in
      cc
  tells_from (p ∷ ps) zero j li lj a b = let no : [] ≡ p ∷ ps = sym (no_part rows) ∙ a in cc
  tells_from [] (suc i) j li lj a b =
      let q = row_there rows (suc i) li in
      let no : q.0.part ∷ parts_at (lists rows) q.0.outer ≡ [] = sym (part_in rows t i q.0 q.1) ∙ a in
      cc
  tells_from (p ∷ ps) (suc i) zero li lj a b = let no : [] ≡ p ∷ ps = sym (no_part rows) ∙ b in cc
  tells_from (p ∷ ps) (suc i) (suc j) li lj a b =
      let q = row_there rows (suc i) li in
      let r = row_there rows (suc j) lj in
      let eq : q.0.part ∷ parts_at (lists rows) q.0.outer ≡ p ∷ ps = sym (part_in rows t i q.0 q.1) ∙ a in
      let er : r.0.part ∷ parts_at (lists rows) r.0.outer ≡ p ∷ ps = sym (part_in rows t j r.0 r.1) ∙ b in
      let q1 : q.0.part ≡ p = cc in
      let q2 : parts_at (lists rows) q.0.outer ≡ ps = cc in
      let r1 : r.0.part ≡ p = cc in
      let r2 : parts_at (lists rows) r.0.outer ≡ ps = cc in
      let lq : q.0.outer < length rows = omega (arith, t.before i q.0 q.1) in
      let lr : r.0.outer < length rows = omega (arith, t.before j r.0 r.1) in
      let outer : q.0.outer ≡ r.0.outer = tells_from ps q.0.outer r.0.outer lq lr q2 r2 in
      let o = row_there rows q.0.outer lq in
      let first : child q.0.part o.0 ≡ suc i = t.led_to i q.0 o.0 q.1 o.1 in
      let second : child r.0.part o.0 ≡ suc j = t.led_to j r.0 o.0 r.1 (ap (slice_get rows) (sym outer) ∙ o.1) in
      sym first ∙ ap (λ x. child x o.0) (q1 ∙ sym r1) ∙ second

  pub tells_apart : (i j : ℕ) → i < length rows → j < length rows → parts_at (lists rows) i ≡ parts_at (lists rows) j → i ≡ j
  tells_apart i j li lj e = tells_from (parts_at (lists rows) j) i j li lj e refl

-- whether two numbers are the same is whether their parts are
pub same_numbers : (rows : List Nesting) → IsTable rows → (i j : ℕ) → i < length (lists rows) → j < length (lists rows) → (i == j) ≡ same_parts (parts_at (lists rows) i) (parts_at (lists rows) j)
same_numbers rows t i j li lj = ⊎_elim (λ y. y.0 ∙ sym (alike y.1)) (λ y. y.0 ∙ sym (unlike y.1 _ refl)) (eqb_tells i j)
  where
    alike : i ≡ j → same_parts (parts_at (lists rows) i) (parts_at (lists rows) j) ≡ true
    alike e = ap (λ k. same_parts (parts_at (lists rows) k) (parts_at (lists rows) j)) e ∙ same_parts_itself (parts_at (lists rows) j)

    unlike : i ≢ j → (b : Bool) → same_parts (parts_at (lists rows) i) (parts_at (lists rows) j) ≡ b → same_parts (parts_at (lists rows) i) (parts_at (lists rows) j) ≡ false
    unlike ne false e = e
    unlike ne true e = absurd (ne (tells_apart rows t i j (omega (arith, length_lists rows)) (omega (arith, length_lists rows)) (same_parts_is _ _ e)))

-- ## One row more

get_set_same : (xs : List Nesting) (i : ℕ) (a : Nesting) → i < length xs → slice_get (slice_set xs i a) i ≡ Some a
get_set_same [] i a lt = absurd (omega arith)
get_set_same (x ∷ xs) zero a lt = refl
get_set_same (x ∷ xs) (suc i) a lt = get_set_same xs i a (omega arith)

get_set_other : (xs : List Nesting) (i j : ℕ) (a : Nesting) → j ≢ i → slice_get (slice_set xs i a) j ≡ slice_get xs j
get_set_other [] i j a ne = refl
get_set_other (x ∷ xs) zero zero a ne = absurd (ne refl)
get_set_other (x ∷ xs) zero (suc j) a ne = refl
get_set_other (x ∷ xs) (suc i) zero a ne = refl
get_set_other (x ∷ xs) (suc i) (suc j) a ne = get_set_other xs i j a (λ e. ne (ap suc e))

get_left : (xs ys : List Nesting) (k : ℕ) → k < length xs → slice_get (xs ++ ys) k ≡ slice_get xs k
get_left [] ys k lt = absurd (omega arith)
get_left (x ∷ xs) ys zero lt = refl
get_left (x ∷ xs) ys (suc k) lt = get_left xs ys k (omega arith)

get_last : (xs : List Nesting) (y : Nesting) → slice_get (xs ++ y ∷ []) (length xs) ≡ Some y
get_last [] y = refl
get_last (x ∷ xs) y = get_last xs y

part_stays : (p : Part) (m : ℕ) (o : Nesting) → ((with_child p m o).part ≡ o.part) × ((with_child p m o).outer ≡ o.outer)
part_stays block m o = (refl, refl)
part_stays forked m o = (refl, refl)

child_set : (p : Part) (m : ℕ) (o : Nesting) → child p (with_child p m o) ≡ m
child_set block m o = refl
child_set forked m o = refl

child_other : (p q : Part) (m : ℕ) (o : Nesting) → is_part p q ≡ false → child q (with_child p m o) ≡ child q o
child_other block forked m o ne = refl
child_other forked block m o ne = refl
child_other block block m o ne = cc
child_other forked forked m o ne = cc

no_child : (p q : Part) (n : ℕ) → child q (record { part = p; outer = n; block = 0; fork = 0 }) ≡ 0
no_child p block n = refl
no_child p forked n = refl

module _ (rows : List Nesting) (t : IsTable rows) (n : ℕ) (o : Nesting) (there : slice_get rows n ≡ Some o) (p : Part) where
  abbrev fresh : Nesting
  fresh = record { part = p; outer = n; block = 0; fork = 0 }

  abbrev changed : Nesting
  changed = with_child p (length rows) o

  abbrev pub added : List Nesting
  added = slice_set (rows ++ fresh ∷ []) n changed

  low : n < length rows
  low = slice_get_within rows n o there

  long : length (rows ++ fresh ∷ []) ≡ length rows + 1
  long = length-append rows (fresh ∷ [])

  pub length_added : length added ≡ length rows + 1
  length_added = length-set (rows ++ fresh ∷ []) n changed ∙ long

  at_changed : (k : ℕ) → k ≡ n → slice_get added k ≡ Some changed
  at_changed k e = ap (slice_get added) e ∙ get_set_same (rows ++ fresh ∷ []) n changed (omega (arith, low, long))

  at_fresh : (k : ℕ) → k ≡ length rows → slice_get added k ≡ Some fresh
  at_fresh k e = ap (slice_get added) e ∙ get_set_other (rows ++ fresh ∷ []) n (length rows) changed (let lt = low in omega arith) ∙ get_last rows fresh

  at_other : (k : ℕ) → k ≢ n → k < length rows → slice_get added k ≡ slice_get rows k
  at_other k ne lt = get_set_other (rows ++ fresh ∷ []) n k changed ne ∙ get_left rows (fresh ∷ []) k lt

  order : (k j : ℕ) → (k ≡ j) ⊎ (k ≢ j)
  order k j = ⊎_elim inl (λ r. inr (⊎_elim (λ lt e. omega arith) (λ gt e. omega arith) r)) (cases_order k j)

  -- a row that was there before, with its part and what is around it
  record Was (k : ℕ) (r : Nesting) : Type 0 where
    old : Nesting
    stood : slice_get rows k ≡ Some old
    part : r.part ≡ old.part
    outer : r.outer ≡ old.outer

  was : (k : ℕ) (r : Nesting) → slice_get added k ≡ Some r → ((k ≡ length rows) × (r ≡ fresh)) ⊎ Was k r
  was k r is = ⊎_elim (λ e. inl (e, let both : Some fresh ≡ Some r = sym (at_fresh k e) ∙ is in cc)) (λ ne. inr (old ne)) (order k (length rows))
    where
      old : k ≢ length rows → Was k r
      old ne = ⊎_elim (λ e. at_n e) (λ other. record { old = r; stood = sym (at_other k other (lt ne)) ∙ is; part = refl; outer = refl }) (order k n)
        where
          lt : k ≢ length rows → k < length rows
          lt ne = let w = slice_get_within added k r is in let l = length_added in omega arith

          at_n : k ≡ n → Was k r
          at_n e =
              let both : Some changed ≡ Some r = sym (at_changed k e) ∙ is in
              let same : changed ≡ r = cc in
              let s = part_stays p (length rows) o in
              record { old = o; stood = ap (slice_get rows) e ∙ there; part = ap (λ x. x.part) (sym same) ∙ s.0; outer = ap (λ x. x.outer) (sym same) ∙ s.1 }

  -- a row that was there is there, with its part and what is around it
  still : (k : ℕ) (q : Nesting) → slice_get rows k ≡ Some q → (r : Nesting) × (slice_get added k ≡ Some r) × (r.part ≡ q.part) × (r.outer ≡ q.outer)
  still k q is = ⊎_elim (λ e. at_n e) (λ ne. (q, at_other k ne (slice_get_within rows k q is) ∙ is, refl, refl)) (order k n)
    where
      at_n : k ≡ n → (r : Nesting) × (slice_get added k ≡ Some r) × (r.part ≡ q.part) × (r.outer ≡ q.outer)
      at_n e =
          let both : Some o ≡ Some q = sym there ∙ ap (slice_get rows) (sym e) ∙ is in
          let same : o ≡ q = cc in
          let s = part_stays p (length rows) o in
          (changed, at_changed k e, s.0 ∙ ap (λ x. x.part) same, s.1 ∙ ap (λ x. x.outer) same)

  module _ (free : child p o ≡ 0) where
    led_at : (k : ℕ) (r q : Nesting) → Was (suc k) r → slice_get added r.outer ≡ Some q → child r.part q ≡ suc k
    led_at k r q w at = ⊎_elim (λ e. here e) (λ ne. elsewhere ne) (order w.old.outer n)
      where
        before : w.old.outer < suc k
        before = t.before k w.old w.stood

        inner : suc k < length rows
        inner = slice_get_within rows (suc k) w.old w.stood

        at_old : slice_get added w.old.outer ≡ Some q
        at_old = ap (slice_get added) (sym w.outer) ∙ at

        elsewhere : w.old.outer ≢ n → child r.part q ≡ suc k
        elsewhere ne =
            let e : slice_get rows w.old.outer ≡ Some q = sym (at_other w.old.outer ne (let b = before in let i = inner in omega arith)) ∙ at_old in
            ap (λ x. child x q) w.part ∙ t.led_to k w.old q w.stood e

        here : w.old.outer ≡ n → child r.part q ≡ suc k
        here e =
            let both : Some changed ≡ Some q = sym (at_changed w.old.outer e) ∙ at_old in
            let same : changed ≡ q = cc in
            let was_led : child w.old.part o ≡ suc k = t.led_to k w.old o w.stood (ap (slice_get rows) e ∙ there) in
            ap (λ x. child x q) w.part ∙ ap (child w.old.part) (sym same) ∙ by (is_part p w.old.part) refl was_led
          where
            by : (b : Bool) → is_part p w.old.part ≡ b → child w.old.part o ≡ suc k → child w.old.part changed ≡ suc k
            by true e led =
                let none : child w.old.part o ≡ 0 = ap (λ x. child x o) (sym (is_part_same p w.old.part e)) ∙ free in
                absurd (omega arith)
            by false e led = child_other p w.old.part (length rows) o e ∙ led

    -- what a row leads to
    abbrev LeadsTo : ℕ → ℕ → Part → Type 0
    LeadsTo k j x = (q : Nesting) × (slice_get added (suc j) ≡ Some q) × (q.part ≡ x) × (q.outer ≡ k)

    as_before : (k j : ℕ) (r : Nesting) (x : Part) → slice_get rows k ≡ Some r → child x r ≡ suc j → LeadsTo k j x
    as_before k j r x is c =
        let w = t.leads k j r x is c in
        let s = still (suc j) w.0 w.1 in
        (s.0, s.1, s.2 ∙ w.2, s.3 ∙ w.3)

    leads_on : (k j : ℕ) (r : Nesting) (x : Part) → slice_get added k ≡ Some r → child x r ≡ suc j → LeadsTo k j x
    leads_on k j r x is c = ⊎_elim (λ y. from_fresh y.0 y.1) (λ w. ⊎_elim (λ e. from_changed e) (λ ne. from_other ne w) (order k n)) (was k r is)
      where
        from_fresh : k ≡ length rows → r ≡ fresh → LeadsTo k j x
        from_fresh e f = absurd (let z : child x r ≡ 0 = ap (child x) f ∙ no_child p x n in omega arith)

        from_other : k ≢ n → Was k r → LeadsTo k j x
        from_other ne w = as_before k j r x (sym (at_other k ne (slice_get_within rows k w.old w.stood)) ∙ is) c

        from_changed : k ≡ n → LeadsTo k j x
        from_changed e = by (is_part p x) refl
          where
            same : changed ≡ r
            same = let both : Some changed ≡ Some r = sym (at_changed k e) ∙ is in cc

            by : (b : Bool) → is_part p x ≡ b → LeadsTo k j x
            by true y =
                let px : p ≡ x = is_part_same p x y in
                let last : length rows ≡ suc j = sym (child_set p (length rows) o) ∙ ap (λ z. child z changed) px ∙ ap (child x) same ∙ c in
                (fresh, at_fresh (suc j) (sym last), px, sym e)
            by false y =
                let old : child x o ≡ suc j = sym (child_other p x (length rows) o y) ∙ ap (child x) same ∙ c in
                as_before k j o x (ap (slice_get rows) e ∙ there) old

    pub table_added : IsTable added
    table_added = record {
      some = let l = length_added in omega arith;
      before = λ k r is. ⊎_elim (λ y. let out : r.outer ≡ n = ap (λ x. x.outer) y.1 in let lt = low in omega (arith, y.0)) (λ w. let b = t.before k w.old w.stood in omega (arith, w.outer)) (was (suc k) r is);
      led_to = λ k r q is at. ⊎_elim (λ y. led_fresh k r q y.0 y.1 at) (λ w. led_at k r q w at) (was (suc k) r is);
      leads = leads_on;
    }
      where
        led_fresh : (k : ℕ) (r q : Nesting) → suc k ≡ length rows → r ≡ fresh → slice_get added r.outer ≡ Some q → child r.part q ≡ suc k
        led_fresh k r q e f at =
            let out : r.outer ≡ n = ap (λ x. x.outer) f in
            let both : Some changed ≡ Some q = sym (at_changed r.outer out) ∙ at in
            let same : changed ≡ q = cc in
            ap (λ x. child x.part q) f ∙ ap (child p) (sym same) ∙ child_set p (length rows) o ∙ sym e

  pub lists_added : lists added ≡ lists rows ++ (p ∷ parts_at (lists rows) n) ∷ []
  lists_added = by rows n there
    where
      by : (rs : List Nesting) (k : ℕ) → slice_get rs k ≡ Some o → lists (slice_set (rs ++ fresh ∷ []) k changed) ≡ lists rs ++ (p ∷ parts_at (lists rs) n) ∷ []
      by [] k is = cc
      by (x ∷ rs) zero is = with_nestings_more rs ([] ∷ []) fresh
      by (x ∷ rs) (suc k) is =
          let s = part_stays p (length rows) o in
          with_nestings_set (rs ++ fresh ∷ []) ([] ∷ []) k o changed (get_left rs (fresh ∷ []) k (slice_get_within rs k o is) ∙ is) s.0 s.1 ∙ with_nestings_more rs ([] ∷ []) fresh

-- ## What a table shows

module _ (rows : List Nesting) (t : IsTable rows) (ns : Nested) (shown : lists rows ≡ ns) where
  pub row_below : (n : ℕ) → n < length ns → n < length rows
  row_below n lt = let l : length ns ≡ length rows = ap length (sym shown) ∙ length_lists rows in omega arith

  pub nothing_at : (n : ℕ) → n ≡ 0 → parts_at ns n ≡ []
  nothing_at n e = ap (parts_at ns) e ∙ ap (λ ms. parts_at ms 0) (sym shown) ∙ no_part rows

  pub innermost_at : (n : ℕ) (r : Nesting) → slice_get rows n ≡ Some r → n ≢ 0 → (parts_at ns n ≡ r.part ∷ parts_at ns r.outer) × (r.outer < n)
  innermost_at n r is some = let P : Nested → Type 0 = λ ms. (parts_at ms n ≡ r.part ∷ parts_at ms r.outer) × (r.outer < n) in subst P shown (around rows t n r is some)

  pub child_at : (n : ℕ) (r : Nesting) (p : Part) (k : ℕ) → slice_get rows n ≡ Some r → k ≡ child p r → k ≢ 0 → (k < length ns) × (parts_at ns k ≡ p ∷ parts_at ns n)
  child_at n r p zero is e some = absurd (some refl)
  child_at n r p (suc k) is e some =
      let w = t.leads n k r p is (sym e) in
      let l : length ns ≡ length rows = ap length (sym shown) ∙ length_lists rows in
      let low : suc k < length rows = slice_get_within rows (suc k) w.0 w.1 in
      let a = innermost_at (suc k) w.0 w.1 some in
      (omega arith, a.0 ∙ ap (λ x. x ∷ parts_at ns w.0.outer) w.2 ∙ ap (λ x. p ∷ parts_at ns x) w.3)

  -- one row more, where there was none in that place
  pub row_added : (n : ℕ) (o : Nesting) (p : Part) (items : List Nesting) → slice_get rows n ≡ Some o → child p o ≡ 0 → items ≡ slice_set (rows ++ record { part = p; outer = n; block = 0; fork = 0 } ∷ []) n (with_child p (length rows) o) → IsTable items × (lists items ≡ ns ++ (p ∷ parts_at ns n) ∷ [])
  row_added n o p items is free e =
      (subst IsTable (sym e) (table_added rows t n o is p free), ap lists e ∙ lists_added rows t n o is p ∙ ap (λ ms. ms ++ (p ∷ parts_at ms n) ∷ []) shown)

  pub row_count : length rows ≡ length ns
  row_count = sym (length_lists rows) ∙ ap length shown

  -- the table after a row more was asked for, where there was none in that place
  pub record Within (n : ℕ) (p : Part) (items : List Nesting) {E : Type 0} (r : Result ℕ E) : Type 0 where
    pub table : IsTable items
    pub grown : IsGrown ns (lists items)
    pub made : IfOk r (λ k. k < length (lists items))
    pub parts : IfOk r (λ k. parts_at (lists items) k ≡ p ∷ parts_at ns n)

  pub asked : (n : ℕ) (o : Nesting) (p : Part) (items : List Nesting) {E : Type 0} (r : Result ℕ E) → slice_get rows n ≡ Some o → child p o ≡ 0 → OnErr r (items ≡ rows) → IfOk r (λ k. k ≡ length rows)
      → IfOk r (λ k. (x : Nesting) → slice_get rows n ≡ Some x → items ≡ slice_set (rows ++ record { part = p; outer = n; block = 0; fork = 0 } ∷ []) n (with_child p k x)) → Within n p items r
  asked n o p items (Err e) is free err number ok = record {
    table = subst IsTable (sym err) t;
    grown = subst (IsGrown ns) (sym (ap lists err ∙ shown)) (grown_not ns);
    made = tt;
    parts = tt;
  }
  asked n o p items (Ok k) is free err number ok =
      let set : items ≡ slice_set (rows ++ record { part = p; outer = n; block = 0; fork = 0 } ∷ []) n (with_child p k o) = ok o is in
      let w = row_added n o p items is free (set ∙ ap (λ m. slice_set (rows ++ record { part = p; outer = n; block = 0; fork = 0 } ∷ []) n (with_child p m o)) number) in
      let at : k ≡ length ns = number ∙ row_count in
      record {
        table = w.0;
        grown = subst (IsGrown ns) (sym w.1) (grown_by ns (p ∷ parts_at ns n));
        made = let l : length (lists items) ≡ length ns + 1 = ap length w.1 ∙ length-append ns ((p ∷ parts_at ns n) ∷ []) in omega arith;
        parts = ap (λ ms. parts_at ms k) w.1 ∙ ap (parts_at (ns ++ (p ∷ parts_at ns n) ∷ [])) at ∙ get_or-append_seam ns (p ∷ parts_at ns n) [] [];
      }
