-- What is put back, cell by cell, and the live accesses by their cells.
use Rattle.std.proofs.Common.{◌≡◌, ℕ, ℤ, pos, zero, suc, ◌+◌, ◌<◌, ◌≤◌, List, [], ◌∷◌, ◌++◌, length, map, take, filter, get_or, set, ap, sym, ◌∙◌, subst, arith, refl, true, false, cond, Bool, Option, Some, None, inl, inr}
use Rattle.std.specs.Prelude.{◌⊎◌, ◌||◌, not, slice_get, slice_index_or}
use Rattle.std.specs.List.{list_any}
use Rattle.std.proofs.lemmas.Bool.{cases_eq, eq-eqb, ne_eqb}
use Rattle.std.proofs.lemmas.List.{length-set, map-append, append-nil, append_assoc, get_or-set_same, get_or-set_other, take_more, take_all, length-take-le}
use Rattle.std.proofs.lemmas.List.Elements.{filter-append}
use Rattle.std.proofs.lemmas.List.Sums.{take_while-cons}
use Rattle.std.proofs.lemmas.Option.{same_Some, slice_get_within, get_or_from_slice_get}
use Rattle.cw_code.specs.declared.Back.{Back}
use Rattle.cw_tree.specs.declared.node.Node.{Node}
use Rattle.cw_tree.specs.declared.node.Kind.{Kind}
use Rattle.cw_tree.specs.declared.node.Kind.TheVariants.{Cancel}
use Rattle.cw_tree.specs.declared.node.Kind.TheVariants as kind
use Rattle.cw_tree.specs.Nodes.{touches, below, is_block, parent_of, stamp_of, number_in}
use Rattle.cw_tree.specs.Walks.{is_above}
use Rattle.cw_tree.specs.Accesses.{live_accesses, written, cell_value}
use Rattle.cw_tree.specs.Cancels.{before_block, put_back, wrote_in}
use Rattle.cw_tree.proofs.Walks.There.{stamp_is}
use Rattle.cw_tree.proofs.Lists.{In, map_below, get_map_below, lt_or}
use Rattle.cw_tree.proofs.ChainLaws.LiveAccesses.{live_there}
use Rattle.cw_serial.proofs.Numbers.{get_beyond}
use Rattle.cw_audit.specs.LiveAccesses.{all_live_accesses, cell_accessed}
use Rattle.cw_audit.specs.Backs.{CancelHolds, list_in, list_at, list_told, value_back}
use Rattle.cw_audit.proofs.Together.{or_false, or_parts}
use Rattle.cw_audit.proofs.Making.{touches_is, touches_none, of_cell, cell_past, cell_here}

abbrev pub entry : ℕ → ℤ → Back
entry c v = record { cell = c; value = v }

-- ## Before a block

-- none of these accesses is beneath block b
abbrev pub NoneBeneath : List Node → ℕ → List ℕ → Type 0
NoneBeneath t b us = list_any (is_above t b) us ≡ false

pub none_more : (p : ℕ → Bool) (us : List ℕ) (u : ℕ) → list_any p us ≡ false → p u ≡ false → list_any p (us ++ u ∷ []) ≡ false
none_more p [] u e f = ap (λ b. b || false) f
none_more p (w ∷ us) u e f = let z = or_parts (p w) (list_any p us) e in or_false (p w) (list_any p (us ++ u ∷ [])) z.0 (none_more p us u z.1 f)

-- all accesses are before the block's, if it has none
pub before_all : (t : List Node) (b : ℕ) (us : List ℕ) → NoneBeneath t b us → before_block t b us ≡ us
before_all t b [] e = refl
before_all t b (u ∷ us) e =
    let z = or_parts (is_above t b u) (list_any (is_above t b) us) e in
    take_while-cons (λ n. not (is_above t b n)) u us ∙ ap (λ x. cond (not x) (u ∷ before_block t b us) []) z.0 ∙ ap (λ xs. u ∷ xs) (before_all t b us z.1)

-- those before its first one
pub before_first : (t : List Node) (b : ℕ) (us : List ℕ) (v : ℕ) (rest : List ℕ) → NoneBeneath t b us → is_above t b v ≡ true → before_block t b (us ++ v ∷ rest) ≡ us
before_first t b [] v rest e f = take_while-cons (λ n. not (is_above t b n)) v rest ∙ ap (λ x. cond (not x) (v ∷ before_block t b rest) []) f
before_first t b (u ∷ us) v rest e f =
    let z = or_parts (is_above t b u) (list_any (is_above t b) us) e in
    take_while-cons (λ n. not (is_above t b n)) u (us ++ v ∷ rest)
    ∙ ap (λ x. cond (not x) (u ∷ before_block t b (us ++ v ∷ rest)) []) z.0
    ∙ ap (λ xs. u ∷ xs) (before_first t b us v rest z.1 f)

-- ## Lists

some_if : (d : Bool) (x y : ℤ) → cond d (Some x) None ≡ Some y → (d ≡ true) × (x ≡ y)
some_if true x y e = (refl, same_Some x y e)
some_if false x y e = absurd (cc e)

none_if : (d : Bool) (x : ℤ) → cond d (Some x) None ≡ None → d ≡ false
none_if true x e = absurd (cc e)
none_if false x e = refl

below_splits : (c k : ℕ) → c < k → (ns : List ℕ) × (below k ≡ below c ++ c ∷ ns)
below_splits c zero h = absurd (omega arith)
below_splits c (suc k) h = elim (lt_or c k h) [
  | inl e ↦ ([], ap (λ x. below x ++ x ∷ []) (sym e))
  | inr l ↦ (let z = below_splits c k l in (z.0 ++ k ∷ [], ap (λ xs. xs ++ k ∷ []) z.1 ∙ append_assoc (below c) (c ∷ z.0) (k ∷ [])))
]

any_default : (xs : List (List ℕ)) (i : ℕ) (d e : List ℕ) → i < length xs → get_or xs i d ≡ get_or xs i e
any_default [] i d e h = absurd (omega arith)
any_default (x ∷ xs) zero d e h = refl
any_default (x ∷ xs) (suc i) d e h = any_default xs i d e (omega arith)

-- ## What is put back

module _ (t : List Node) (first : List ℤ) (b stamp : ℕ) where
  abbrev is_written : ℕ → Bool
  is_written c = wrote_in t b stamp (live_accesses t c)

  abbrev pub back_of : ℕ → Back
  back_of c = record { cell = c; value = cell_value (slice_index_or first c (pos 0)) (map (written t) (before_block t b (live_accesses t c))) }

  -- what is put back into the cells below c
  abbrev back_below : ℕ → List Back
  back_below c = map back_of (filter is_written (below c))

  next_cell : (c : ℕ) (d : Bool) → is_written c ≡ d → back_below (suc c) ≡ back_below c ++ cond d (back_of c ∷ []) []
  next_cell c d e =
      ap (map back_of) (filter-append is_written (below c) (c ∷ []))
      ∙ map-append back_of (filter is_written (below c)) (filter is_written (c ∷ []))
      ∙ ap (λ xs. back_below c ++ xs) (ap (λ x. map back_of (cond x (c ∷ []) [])) e ∙ by d)
    where
      by : (x : Bool) → map back_of (cond x (c ∷ []) []) ≡ cond x (back_of c ∷ []) []
      by true = refl
      by false = refl

  -- the first of a list are what is put back into the cells below c
  pub record Matched (back : List Back) (c place : ℕ) : Type 0 where
    pub low : place ≤ length back
    pub same : take place back ≡ back_below c

  pub matched_none : (back : List Back) → Matched back 0 0
  matched_none back = record { low = omega arith; same = refl }

  more : (c : ℕ) → back_below (c + 1) ≡ back_below (suc c)
  more c = let next : c + 1 ≡ suc c = omega arith in ap back_below next

  -- a cell that was not written
  pub matched_skip : (back : List Back) (c place : ℕ) → Matched back c place → is_written c ≡ false → Matched back (c + 1) place
  matched_skip back c place w e = record { low = w.low; same = w.same ∙ sym (append-nil (back_below c)) ∙ sym (next_cell c false e) ∙ sym (more c) }

  -- a cell that was written, and is the next of the list
  pub matched_more : (back : List Back) (c place : ℕ) → Matched back c place → is_written c ≡ true → slice_get back place ≡ Some (back_of c) → Matched back (c + 1) (place + 1)
  matched_more back c place w e at =
      let low : place < length back = slice_get_within back place (back_of c) at in
      record {
        low = omega arith;
        same =
            take_more back place (back_of c) low
            ∙ ap (λ xs. xs ++ get_or back place (back_of c) ∷ []) w.same
            ∙ ap (λ x. back_below c ++ x ∷ []) (get_or_from_slice_get back place (back_of c) (back_of c) at)
            ∙ sym (next_cell c true e) ∙ sym (more c);
      }

  matched_len : (back : List Back) (c place : ℕ) → Matched back c place → length (back_below c) ≡ place
  matched_len back c place w = ap length (sym w.same) ∙ length-take-le place back w.low

  -- what is put back into cell c stands at its place
  at_place : (c k : ℕ) → c < k → is_written c ≡ true → slice_get (back_below k) (length (back_below c)) ≡ Some (back_of c)
  at_place c k h e =
      let z = below_splits c k h in
      let split : back_below k ≡ back_below c ++ (back_of c ∷ map back_of (filter is_written z.0)) =
      ap (λ ns. map back_of (filter is_written ns)) z.1
      ∙ ap (map back_of) (filter-append is_written (below c) (c ∷ z.0))
      ∙ map-append back_of (filter is_written (below c)) (filter is_written (c ∷ z.0))
      ∙ ap (λ x. back_below c ++ map back_of (cond x (c ∷ filter is_written z.0) (filter is_written z.0))) e
      in
      let here : length (back_below c) ≡ length (back_below c) + 0 = omega arith in
      ap (λ xs. slice_get xs (length (back_below c))) split
      ∙ ap (slice_get (back_below c ++ (back_of c ∷ map back_of (filter is_written z.0)))) here
      ∙ get_beyond (back_below c) (back_of c ∷ map back_of (filter is_written z.0)) 0

  -- a cell that was written, and is not the next of the list
  pub matched_wrong : (back : List Back) (c place : ℕ) → Matched back c place → c < length first → is_written c ≡ true
      → back ≡ put_back t first (live_accesses t) b stamp → slice_get back place ≡ Some (back_of c)
  matched_wrong back c place w h e is =
      ap (λ xs. slice_get xs place) is ∙ ap (slice_get (back_below (length first))) (sym (matched_len back c place w)) ∙ at_place c (length first) h e

  pub matched_all : (back : List Back) (place : ℕ) → Matched back (length first) place → place ≡ length back → back ≡ put_back t first (live_accesses t) b stamp
  matched_all back place w e = sym (take_all place back (omega arith)) ∙ w.same

  pub matched_whole : (back : List Back) (place : ℕ) → Matched back (length first) place → back ≡ put_back t first (live_accesses t) b stamp → place ≡ length back
  matched_whole back place w e = sym (matched_len back (length first) place w) ∙ ap length (sym e)

  -- what was found of a cell
  pub written_some : (c : ℕ) (v x : ℤ) → v ≡ slice_index_or first c (pos 0) → value_back t b stamp v (live_accesses t c) ≡ Some x
      → (is_written c ≡ true) × (back_of c ≡ record { cell = c; value = x })
  written_some c v x e f =
      let z = some_if (is_written c) _ x f in
      (z.0, ap (λ y. record { cell = c; value = y }) (ap (λ y. cell_value y (map (written t) (before_block t b (live_accesses t c)))) (sym e) ∙ z.1))

  pub written_none : (c : ℕ) (v : ℤ) → value_back t b stamp v (live_accesses t c) ≡ None → is_written c ≡ false
  written_none c v f = none_if (is_written c) _ f

-- ## One cell

pub journal_is : (t : List Node) (journals : List (List ℕ)) (k c : ℕ) (js : List ℕ) → journals ≡ map (live_accesses t) (below k) → c < k → slice_get journals c ≡ Some js → js ≡ live_accesses t c
journal_is t journals k c js e h at =
    sym (get_or_from_slice_get journals c js [] at) ∙ ap (λ xs. get_or xs c []) e ∙ get_map_below (live_accesses t) k c [] h

pub journal_there : (t : List Node) (c : ℕ) (js : List ℕ) → js ≡ live_accesses t c → (u : ℕ) → In u js → u < length t
journal_there t c js e u i = let P : List ℕ → Type 0 = λ ns. In u ns in live_there t c u (subst P e i)

pub value_of_written : (t : List Node) (b stamp : ℕ) (v : ℤ) (us : List ℕ) → wrote_in t b stamp us ≡ true → Some (cell_value v (map (written t) (before_block t b us))) ≡ value_back t b stamp v us
value_of_written t b stamp v us e = sym (ap (λ d. cond d (Some (cell_value v (map (written t) (before_block t b us)))) None) e)

pub value_of_none : (t : List Node) (b stamp : ℕ) (v : ℤ) (us : List ℕ) → wrote_in t b stamp us ≡ false → None ≡ value_back t b stamp v us
value_of_none t b stamp v us e = sym (ap (λ d. cond d (Some (cell_value v (map (written t) (before_block t b us)))) None) e)

-- ## One cancel

told_in : (k : Kind) (back : List Back) → list_in k ≡ Some back → k ≡ Cancel back
told_in kind.Strand back e = absurd (cc e)
told_in kind.Fork back e = absurd (cc e)
told_in kind.Block back e = absurd (cc e)
told_in (kind.Read c v) back e = absurd (cc e)
told_in (kind.Write c v) back e = absurd (cc e)
told_in (kind.Out v) back e = absurd (cc e)
told_in (kind.Tried c) back e = absurd (cc e)
told_in (kind.Cancel list) back e = let same : list ≡ back = cc e in ap Cancel same

told_at : (o : Option Node) (back : List Back) → list_at o ≡ Some back → (x : Node) × (o ≡ Some x) × (x.kind ≡ Cancel back)
told_at None back e = absurd (cc e)
told_at (Some x) back e = (x, refl, told_in x.kind back e)

module _ (t : List Node) (first : List ℤ) (n : ℕ) where
  pub cancel_none : list_told t n ≡ None → CancelHolds t first n
  cancel_none none x back at k = let some : list_told t n ≡ Some back = ap list_at at ∙ ap list_in k in absurd (cc (none, some))

  pub cancel_from : (back : List Back) → list_told t n ≡ Some back → is_block t (parent_of t n) ≡ true
      → back ≡ put_back t first (live_accesses t) (parent_of t n) (stamp_of t n) → CancelHolds t first n
  cancel_from back told block same x list at k =
      let some : list_told t n ≡ Some list = ap list_at at ∙ ap list_in k in
      let is : back ≡ list = cc (told, some) in
      let parent : parent_of t n ≡ x.parent = ap (number_in (λ y. y.parent)) at in
      record {
        block = sym (ap (is_block t) parent) ∙ block;
        list =
            sym is ∙ same
            ∙ ap (λ b. put_back t first (live_accesses t) b (stamp_of t n)) parent
            ∙ ap (put_back t first (live_accesses t) x.parent) (stamp_is t n x at);
      }

  pub cancel_to : (back : List Back) → list_told t n ≡ Some back → CancelHolds t first n
      → (is_block t (parent_of t n) ≡ true) × (back ≡ put_back t first (live_accesses t) (parent_of t n) (stamp_of t n))
  cancel_to back told holds =
      let z = told_at (slice_get t n) back told in
      let w = holds z.0 back z.1 z.2 in
      let parent : parent_of t n ≡ z.0.parent = ap (number_in (λ y. y.parent)) z.1 in (
        ap (is_block t) parent ∙ w.block,
        w.list
            ∙ sym (ap (λ b. put_back t first (live_accesses t) b (stamp_of t n)) parent ∙ ap (put_back t first (live_accesses t) z.0.parent) (stamp_is t n z.0 z.1)),
      )

-- ## Live accesses by cells

-- for each cell those of the taken accesses that are of it
pub record AreByCell (t : List Node) (cells : ℕ) (taken : List ℕ) (journals : List (List ℕ)) : Type 0 where
  pub len : length journals ≡ cells
  pub each : (c : ℕ) → c < cells → get_or journals c [] ≡ filter (touches t c) taken

pub empty_more : (journals : List (List ℕ)) → ((c : ℕ) → get_or journals c [] ≡ []) → (c : ℕ) → get_or (journals ++ [] ∷ []) c [] ≡ []
empty_more [] h zero = refl
empty_more [] h (suc c) = refl
empty_more (j ∷ journals) h zero = h 0
empty_more (j ∷ journals) h (suc c) = empty_more journals (λ d. h (suc d)) c

module _ (t : List Node) (cells : ℕ) where
  pub by_cell_none : (journals : List (List ℕ)) → length journals ≡ cells → ((c : ℕ) → get_or journals c [] ≡ []) → AreByCell t cells [] journals
  by_cell_none journals len empty = record { len = len; each = λ c h. empty c }

  pub by_cell_other : (taken : List ℕ) (journals : List (List ℕ)) (n : ℕ) → AreByCell t cells taken journals → cell_accessed t n ≡ None → AreByCell t cells (taken ++ n ∷ []) journals
  by_cell_other taken journals n w e = record { len = w.len; each = λ c h. w.each c h ∙ sym (cell_past t taken n c (touches_none t n c e)) }

  pub by_cell_next : (taken : List ℕ) (journals : List (List ℕ)) (n d : ℕ) → AreByCell t cells taken journals → cell_accessed t n ≡ Some d → d < cells
      → AreByCell t cells (taken ++ n ∷ []) (set journals d (get_or journals d [] ++ n ∷ []))
  by_cell_next taken journals n d w cell low = record { len = length-set journals d new ∙ w.len; each = λ c h. each c h (cases_eq c d) } where
    new : List ℕ
    new = get_or journals d [] ++ n ∷ []

    each : (c : ℕ) → c < cells → (c ≡ d) ⊎ (c ≡ d → ⊥) → get_or (set journals d new) c [] ≡ filter (touches t c) (taken ++ n ∷ [])
    each c h (inl e) =
        let len = w.len in
        ap (λ x. get_or (set journals d new) x []) e
        ∙ get_or-set_same journals d new [] (omega arith)
        ∙ ap (λ xs. xs ++ n ∷ []) (w.each d low)
        ∙ sym (cell_here t taken n d (touches_is t n d d cell ∙ eq-eqb d d refl))
        ∙ ap (λ x. filter (touches t x) (taken ++ n ∷ [])) (sym e)
    each c h (inr ne) =
        get_or-set_other journals d c new [] ne ∙ w.each c h ∙ sym (cell_past t taken n c (touches_is t n c d cell ∙ ne_eqb d c (λ e. ne (sym e))))

  pub by_cell_all : (journals : List (List ℕ)) → AreByCell t cells (all_live_accesses t) journals → journals ≡ map (live_accesses t) (below cells)
  by_cell_all journals w = map_below (live_accesses t) journals cells w.len (λ c d h. let len = w.len in any_default journals c d [] (omega arith) ∙ w.each c h ∙ of_cell t c)
