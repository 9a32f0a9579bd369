-- What a pass over all live accesses keeps of each cell.
use Rattle.std.proofs.Common.{◌≡◌, ℕ, ℤ, ◌<◌, List, [], ◌∷◌, ◌++◌, length, map, get_or, set, ap, sym, ◌∙◌, subst, arith, refl, true, false, cond, Bool, nat_eq, Option, Some, None, inl, inr}
use Rattle.std.specs.Prelude.{◌⊎◌, ◌&&◌, slice_get, unwrap_or}
use Rattle.std.specs.List.{filter}
use Rattle.std.specs.Option.{option_map_or}
use Rattle.std.proofs.lemmas.Bool.{cases_eq, eq-eqb, ne_eqb, ltb-true, and_right}
use Rattle.std.proofs.Math.Bool.{and-true}
use Rattle.std.proofs.lemmas.Option.{same_Some}
use Rattle.std.proofs.lemmas.List.{length-set, map-append, append-nil}
use Rattle.std.proofs.lemmas.List.Elements.{filter-append}
use Rattle.cw_tree.specs.declared.node.Node.{Node}
use Rattle.cw_tree.specs.declared.node.Kind.{Kind}
use Rattle.cw_tree.specs.declared.node.Kind.TheVariants as kind
use Rattle.cw_tree.specs.Nodes.{passes, stamp_of, touches, touches_kind, all_nodes}
use Rattle.cw_tree.specs.Accesses.{is_live, by_key, live_accesses, written, read, cell_value}
use Rattle.cw_tree.specs.Journals.{FitsCells, fits_cells}
use Rattle.cw_tree.proofs.Members.{in_filter, in_below, filter_same, at_in}
use Rattle.cw_tree.proofs.Sorts.{filter_by_key}
use Rattle.cw_tree.proofs.InOrder.Keys.{by_key_in}
use Rattle.cw_tree.proofs.NextNodes.Closing.{get_set_other, get_set_same}
use Rattle.cw_tree.proofs.ChainLaws.Entries.{cell_value_more}
use Rattle.cw_record.specs.Coherent.{IsMemory}
use Rattle.cw_record.proofs.Lists.{filter_filter}
use Rattle.cw_serial.proofs.Numbers.{get_some}
use Rattle.cw_audit.specs.Journals.{ReadWhatWasLeft, ReadsAreRight}
use Rattle.cw_audit.specs.LiveAccesses.{is_access_kind, is_access, is_live_access, all_live_accesses, cell_in, cell_at, cell_accessed}

-- ## Cells of accesses

touched_kind : (c : ℕ) (k : Kind) → touches_kind c k ≡ option_map_or (λ d. nat_eq d c) (cell_in k) false
touched_kind c kind.Strand = refl
touched_kind c kind.Fork = refl
touched_kind c kind.Block = refl
touched_kind c (kind.Read d v) = refl
touched_kind c (kind.Write d v) = refl
touched_kind c (kind.Out v) = refl
touched_kind c (kind.Tried d) = refl
touched_kind c (kind.Cancel back) = refl

access_kind : (c : ℕ) (k : Kind) → touches_kind c k ≡ true → is_access_kind k ≡ true
access_kind c kind.Strand e = absurd (cc e)
access_kind c kind.Fork e = absurd (cc e)
access_kind c kind.Block e = absurd (cc e)
access_kind c (kind.Read d v) e = refl
access_kind c (kind.Write d v) e = refl
access_kind c (kind.Out v) e = absurd (cc e)
access_kind c (kind.Tried d) e = absurd (cc e)
access_kind c (kind.Cancel back) e = absurd (cc e)

fit_kind : (m c : ℕ) (k : Kind) → fits_cells m k ≡ true → cell_in k ≡ Some c → c < m
fit_kind m c kind.Strand f e = absurd (cc e)
fit_kind m c kind.Fork f e = absurd (cc e)
fit_kind m c kind.Block f e = absurd (cc e)
fit_kind m c (kind.Read d v) f e = let P : ℕ → Type 0 = λ x. x < m in subst P (same_Some d c e) (ltb-true d m f)
fit_kind m c (kind.Write d v) f e = let P : ℕ → Type 0 = λ x. x < m in subst P (same_Some d c e) (ltb-true d m f)
fit_kind m c (kind.Out v) f e = absurd (cc e)
fit_kind m c (kind.Tried d) f e = absurd (cc e)
fit_kind m c (kind.Cancel back) f e = absurd (cc e)

touched_at : (c : ℕ) (o : Option Node) → passes (λ x. touches_kind c x.kind) o ≡ option_map_or (λ d. nat_eq d c) (cell_at o) false
touched_at c None = refl
touched_at c (Some x) = touched_kind c x.kind

access_at : (c : ℕ) (o : Option Node) → passes (λ x. touches_kind c x.kind) o ≡ true → passes (λ x. is_access_kind x.kind) o ≡ true
access_at c None e = absurd (cc e)
access_at c (Some x) e = access_kind c x.kind e

fit_at : (m c : ℕ) (o : Option Node) → passes (λ x. fits_cells m x.kind) o ≡ true → cell_at o ≡ Some c → c < m
fit_at m c None f e = absurd (cc e)
fit_at m c (Some x) f e = fit_kind m c x.kind f e

module _ (t : List Node) where
  -- an access touches its cell and no other
  pub touches_is : (n c d : ℕ) → cell_accessed t n ≡ Some d → touches t c n ≡ nat_eq d c
  touches_is n c d e = touched_at c (slice_get t n) ∙ ap (λ o. option_map_or (λ d. nat_eq d c) o false) e

  pub touches_none : (n c : ℕ) → cell_accessed t n ≡ None → touches t c n ≡ false
  touches_none n c e = touched_at c (slice_get t n) ∙ ap (λ o. option_map_or (λ d. nat_eq d c) o false) e

  pub cell_fits : (k n c : ℕ) → FitsCells t k → n < length t → cell_accessed t n ≡ Some c → c < k
  cell_fits k n c fits there e = fit_at k c (slice_get t n) (fits n there) e

  -- ## All live accesses

  pub of_cell : (c : ℕ) → filter (touches t c) (all_live_accesses t) ≡ live_accesses t c
  of_cell c =
      filter_by_key (stamp_of t) (touches t c) (filter (is_live_access t) (all_nodes t))
      ∙ ap (by_key (stamp_of t)) (filter_filter (is_live_access t) (touches t c) (all_nodes t) ∙ filter_same (λ n. is_live_access t n && touches t c n) (λ n. touches t c n && is_live t n) (all_nodes t) (λ n i. same n (touches t c n) refl)) where
        same : (n : ℕ) (b : Bool) → touches t c n ≡ b → (is_live_access t n && touches t c n) ≡ (touches t c n && is_live t n)
        same n true e =
            let a : is_access t n ≡ true = access_at c (slice_get t n) e in
            ap (λ b. (b && is_live t n) && touches t c n) a ∙ ap (λ b. is_live t n && b) e ∙ and-true (is_live t n) ∙ sym (ap (λ b. b && is_live t n) e)
        same n false e = ap (λ b. is_live_access t n && b) e ∙ and_right (is_live_access t n) false refl ∙ sym (ap (λ b. b && is_live t n) e)

  pub access_there : (i : ℕ) → i < length (all_live_accesses t) → get_or (all_live_accesses t) i 0 < length t
  access_there i h =
      let xs = all_live_accesses t in
      let v = get_or xs i 0 in
      in_below v (length t) (in_filter (is_live_access t) v (all_nodes t) (by_key_in (stamp_of t) v (filter (is_live_access t) (all_nodes t)) (at_in xs i h))).0

  -- ## What was read

  -- the next of some accesses read what these left
  abbrev pub ReadsNext : (v : ℤ) (us : List ℕ) (n : ℕ) → Type 0
  ReadsNext v us n = (x : ℤ) → read t n ≡ Some x → x ≡ cell_value v (map (written t) us)

  pub left_more : (v : ℤ) (us : List ℕ) (n : ℕ) → ReadWhatWasLeft t v us → ReadsNext v us n → ReadWhatWasLeft t v (us ++ n ∷ [])
  left_more v [] n h g = (g, tt)
  left_more v (u ∷ us) n h g = (h.0, left_more (unwrap_or (written t u) v) us n h.1 g)

  pub next_left : (v : ℤ) (us : List ℕ) (n : ℕ) (ns : List ℕ) → ReadWhatWasLeft t v (us ++ n ∷ ns) → ReadsNext v us n
  next_left v [] n ns h = h.0
  next_left v (u ∷ us) n ns h = next_left (unwrap_or (written t u) v) us n ns h.1

  -- memory that had the first values has what these accesses left, and what they read was right
  pub record Made (first : List ℤ) (taken : List ℕ) (memory : List ℤ) : Type 0 where
    pub len : length memory ≡ length first
    pub reads : (c : ℕ) (v : ℤ) → slice_get first c ≡ Some v → ReadWhatWasLeft t v (filter (touches t c) taken)
    pub values : (c : ℕ) (v : ℤ) → slice_get first c ≡ Some v → slice_get memory c ≡ Some (cell_value v (map (written t) (filter (touches t c) taken)))

  pub made_none : (first : List ℤ) → Made first [] first
  made_none first = record { len = refl; reads = λ c v e. tt; values = λ c v e. e }

  pub cell_past : (taken : List ℕ) (n c : ℕ) → touches t c n ≡ false → filter (touches t c) (taken ++ n ∷ []) ≡ filter (touches t c) taken
  cell_past taken n c e =
      filter-append (touches t c) taken (n ∷ []) ∙ ap (λ b. filter (touches t c) taken ++ cond b (n ∷ []) []) e ∙ append-nil (filter (touches t c) taken)

  pub cell_here : (taken : List ℕ) (n c : ℕ) → touches t c n ≡ true → filter (touches t c) (taken ++ n ∷ []) ≡ filter (touches t c) taken ++ n ∷ []
  cell_here taken n c e = filter-append (touches t c) taken (n ∷ []) ∙ ap (λ b. filter (touches t c) taken ++ cond b (n ∷ []) []) e

  -- what is no access leaves all as it was
  pub made_other : (first : List ℤ) (taken : List ℕ) (memory : List ℤ) (n : ℕ) → Made first taken memory → cell_accessed t n ≡ None → Made first (taken ++ n ∷ []) memory
  made_other first taken memory n w e = record {
    len = w.len;
    reads = λ c v f. (let P : List ℕ → Type 0 = λ us. ReadWhatWasLeft t v us in subst P (sym (cell_past taken n c (touches_none n c e))) (w.reads c v f));
    values = λ c v f. (let P : List ℕ → Type 0 = λ us. slice_get memory c ≡ Some (cell_value v (map (written t) us)) in subst P (sym (cell_past taken n c (touches_none n c e))) (w.values c v f));
  }

  module _ (first : List ℤ) (taken : List ℕ) (memory : List ℤ) (n d : ℕ) (before : ℤ) (w : Made first taken memory) (cell : cell_accessed t n ≡ Some d) (low : d < length memory) (was : slice_get memory d ≡ Some before) where
    -- the value that was left in the cell
    before_is : (v : ℤ) → slice_get first d ≡ Some v → before ≡ cell_value v (map (written t) (filter (touches t d) taken))
    before_is v f = same_Some before _ (sym was ∙ w.values d v f)

    pub made_here : unwrap_or (read t n) before ≡ before → (after : ℤ) → after ≡ unwrap_or (written t n) before → Made first (taken ++ n ∷ []) (set memory d after)
    made_here right after is = record {
      len = length-set memory d after ∙ w.len;
      reads = λ c v f. reads c v f (cases_eq c d);
      values = λ c v f. values c v f (cases_eq c d);
    } where
      reads_right : (v : ℤ) → slice_get first d ≡ Some v → ReadsNext v (filter (touches t d) taken) n
      reads_right v f x e = sym (ap (λ o. unwrap_or o before) e) ∙ right ∙ before_is v f

      reads : (c : ℕ) (v : ℤ) → slice_get first c ≡ Some v → (c ≡ d) ⊎ (c ≡ d → ⊥) → ReadWhatWasLeft t v (filter (touches t c) (taken ++ n ∷ []))
      reads c v f (inl e) =
          let P : ℕ → Type 0 = λ x. ReadWhatWasLeft t v (filter (touches t x) (taken ++ n ∷ [])) in
          let Q : List ℕ → Type 0 = λ us. ReadWhatWasLeft t v us in
          let g : slice_get first d ≡ Some v = ap (slice_get first) (sym e) ∙ f in
          subst P (sym e) (subst Q (sym (cell_here taken n d (touches_is n d d cell ∙ eq-eqb d d refl))) (left_more v (filter (touches t d) taken) n (w.reads d v g) (reads_right v g)))
      reads c v f (inr ne) =
          let Q : List ℕ → Type 0 = λ us. ReadWhatWasLeft t v us in
          subst Q (sym (cell_past taken n c (touches_is n c d cell ∙ ne_eqb d c (λ e. ne (sym e))))) (w.reads c v f)

      values : (c : ℕ) (v : ℤ) → slice_get first c ≡ Some v → (c ≡ d) ⊎ (c ≡ d → ⊥) → slice_get (set memory d after) c ≡ Some (cell_value v (map (written t) (filter (touches t c) (taken ++ n ∷ []))))
      values c v f (inl e) =
          let P : ℕ → Type 0 = λ x. slice_get (set memory d after) x ≡ Some (cell_value v (map (written t) (filter (touches t x) (taken ++ n ∷ [])))) in
          let Q : List ℕ → Type 0 = λ us. slice_get (set memory d after) d ≡ Some (cell_value v (map (written t) us)) in
          let g : slice_get first d ≡ Some v = ap (slice_get first) (sym e) ∙ f in
          let us = filter (touches t d) taken in
          let more : cell_value v (map (written t) (us ++ n ∷ [])) ≡ unwrap_or (written t n) (cell_value v (map (written t) us)) =
          ap (cell_value v) (map-append (written t) us (n ∷ [])) ∙ cell_value_more v (map (written t) us) (written t n)
          in
          let value : after ≡ cell_value v (map (written t) (us ++ n ∷ [])) = is ∙ ap (unwrap_or (written t n)) (before_is v g) ∙ sym more in
          subst P (sym e) (subst Q (sym (cell_here taken n d (touches_is n d d cell ∙ eq-eqb d d refl))) (get_set_same memory d before after was ∙ ap Some value))
      values c v f (inr ne) =
          let Q : List ℕ → Type 0 = λ us. slice_get (set memory d after) c ≡ Some (cell_value v (map (written t) us)) in
          subst Q (sym (cell_past taken n c (touches_is n c d cell ∙ ne_eqb d c (λ e. ne (sym e))))) (get_set_other memory d c after ne ∙ w.values c v f)

    -- a read of another value refutes the sheet
    pub made_wrong : (rest : List ℕ) → all_live_accesses t ≡ taken ++ n ∷ rest → (unwrap_or (read t n) before ≡ before → ⊥) → ReadsAreRight t first → ⊥
    made_wrong rest all wrong right =
        let there : d < length first = (let len = w.len in omega arith) in
        let (v, f) = get_some first d there in
        let us = filter (touches t d) taken in
        let split : live_accesses t d ≡ us ++ n ∷ filter (touches t d) rest =
        sym (of_cell d) ∙ ap (filter (touches t d)) all ∙ filter-append (touches t d) taken (n ∷ rest) ∙ ap (λ b. us ++ cond b (n ∷ filter (touches t d) rest) (filter (touches t d) rest)) (touches_is n d d cell ∙ eq-eqb d d refl)
        in
        let P : List ℕ → Type 0 = λ ns. ReadWhatWasLeft t v ns in
        let next : ReadsNext v us n = next_left v us n (filter (touches t d) rest) (subst P split (right d v f)) in
        wrong (by (read t n) refl (λ x e. next x e ∙ sym (before_is v f))) where
          by : (o : Option ℤ) → read t n ≡ o → ((x : ℤ) → read t n ≡ Some x → x ≡ before) → unwrap_or (read t n) before ≡ before
          by None e h = ap (λ o. unwrap_or o before) e
          by (Some x) e h = ap (λ o. unwrap_or o before) e ∙ h x e

  -- all live accesses were made
  pub made_reads : (first memory : List ℤ) → Made first (all_live_accesses t) memory → ReadsAreRight t first
  made_reads first memory w c v f = let P : List ℕ → Type 0 = λ us. ReadWhatWasLeft t v us in subst P (of_cell c) (w.reads c v f)

  pub made_memory : (first memory : List ℤ) → Made first (all_live_accesses t) memory → IsMemory t first memory
  made_memory first memory w = record {
    len = w.len;
    each = λ c v f. (let P : List ℕ → Type 0 = λ us. slice_get memory c ≡ Some (cell_value v (map (written t) us)) in subst P (of_cell c) (w.values c v f));
  }
