-- What a journal shows of an entry: a write beneath the block, and the value before the first access that is beneath it.
use Rattle.std.proofs.Common.{◌≡◌, ℕ, ℤ, zero, suc, ◌-◌, ◌<◌, List, [], ◌∷◌, ◌++◌, length, map, take, drop, get_or, ap, sym, ◌∙◌, subst, arith, refl, Bool, true, false, Option, Some, None, inl, inr, nat_lt}
use Rattle.std.specs.Prelude.{◌&&◌, is_some, slice_get, unwrap_or}
use Rattle.std.specs.List.{list_any, list_all}
use Rattle.std.proofs.lemmas.Bool.{and_parts, eq-eqb}
use Rattle.cw_tree.specs.declared.node.Node.{Node}
use Rattle.cw_tree.specs.declared.node.Kind.{Kind}
use Rattle.cw_tree.specs.declared.node.Kind.TheVariants as kind
use Rattle.cw_tree.specs.Nodes.{stamp_of}
use Rattle.cw_tree.specs.Walks.{is_above}
use Rattle.cw_tree.specs.Accesses.{is_live, live_accesses, written, written_kind, read_kind, value_in, cell_value}
use Rattle.cw_tree.specs.Cancels.{before_block, wrote_in}
use Rattle.cw_tree.proofs.Cancels.{is_live_access}
use Rattle.cw_tree.proofs.Lists.{In, any_from}
use Rattle.cw_audit.specs.Journals.{ReadWhatWasLeft}
use Rattle.cw_audit.specs.LiveAccesses.{cell_in, cell_at, cell_accessed}
use Rattle.cw_audit.specs.Naming.{value_in_kind, value_of_node, value_told}
use Rattle.cw_audit.specs.Together.{AreTogether}
use Rattle.cw_audit.proofs.Backs.{before_first}
use Rattle.cw_audit.proofs.Making.{touches_is}
use Rattle.cw_audit.proofs.Taking.{split_at}
use Rattle.cw_audit.proofs.Together.{or_false, or_parts}

-- ## A write

pub shows_write : (t : List Node) (b stamp c n : ℕ) → is_live t n ≡ true → cell_accessed t n ≡ Some c → (is_above t b n && nat_lt (stamp_of t n) stamp && is_some (written t n)) ≡ true
    → wrote_in t b stamp (live_accesses t c) ≡ true
shows_write t b stamp c n live cell e =
    any_from (λ u. is_above t b u && nat_lt (stamp_of t u) stamp && is_some (written t u)) n (live_accesses t c) (is_live_access t c n (touches_is t n c c cell ∙ eq-eqb c c refl) live) e

-- ## Where what is together begins

module _ (p : ℕ → Bool) where
  none_at : (back : List ℕ) (i : ℕ) → list_any p back ≡ false → i < length back → p (get_or back i 0) ≡ false
  none_at [] i none h = absurd (omega arith)
  none_at (u ∷ back) zero none h = (or_parts (p u) (list_any p back) none).0
  none_at (u ∷ back) (suc i) none h = none_at back i (or_parts (p u) (list_any p back) none).1 (omega arith)

  -- behind those that do not pass at the front, what is before one that passes does, too
  no_gap : (middle back : List ℕ) (i : ℕ) → list_all p middle ≡ true → list_any p back ≡ false → suc i < length (middle ++ back) → p (get_or (middle ++ back) (suc i) 0) ≡ true → p (get_or (middle ++ back) i 0) ≡ true
  no_gap [] back i all none h e = absurd (cc (sym (none_at back (suc i) none h) ∙ e))
  no_gap (u ∷ middle) back zero all none h e = (and_parts (p u) (list_all p middle) all).0
  no_gap (u ∷ middle) back (suc i) all none h e = no_gap middle back i (and_parts (p u) (list_all p middle) all).1 none (omega arith) e

  begins : (front middle back : List ℕ) (i : ℕ) → list_any p front ≡ false → list_all p middle ≡ true → list_any p back ≡ false → i < length (front ++ (middle ++ back))
      → p (get_or (front ++ (middle ++ back)) i 0) ≡ true → ((j : ℕ) → i ≡ suc j → p (get_or (front ++ (middle ++ back)) j 0) ≡ false)
      → list_any p (take i (front ++ (middle ++ back))) ≡ false
  begins [] middle back zero before all none h e last = by (middle ++ back) where
    by : (xs : List ℕ) → list_any p (take 0 xs) ≡ false
    by [] = refl
    by (x ∷ xs) = refl
  begins [] middle back (suc i) before all none h e last = absurd (cc (sym (last i refl) ∙ no_gap middle back i all none h e))
  begins (u ∷ front) middle back zero before all none h e last = refl
  begins (u ∷ front) middle back (suc i) before all none h e last =
      let z = or_parts (p u) (list_any p front) before in
      or_false (p u) (list_any p (take i (front ++ (middle ++ back)))) z.0 (begins front middle back i z.1 all none (omega arith) e (λ j q. last (suc j) (ap suc q)))

  pub begins_at : (ns : List ℕ) (i : ℕ) → AreTogether p ns → i < length ns → p (get_or ns i 0) ≡ true → (0 < i → p (get_or ns (i - 1) 0) ≡ false) → list_any p (take i ns) ≡ false
  begins_at ns i w h e last =
      let P : List ℕ → Type 0 = λ xs. i < length xs in
      let Q : List ℕ → Type 0 = λ xs. p (get_or xs i 0) ≡ true in
      let R : List ℕ → Type 0 = λ xs. (j : ℕ) → i ≡ suc j → p (get_or xs j 0) ≡ false in
      let S : List ℕ → Type 0 = λ xs. list_any p (take i xs) ≡ false in
      let less : (j : ℕ) → i ≡ suc j → p (get_or ns j 0) ≡ false = λ j q. (let is : i - 1 ≡ j = omega arith in ap (λ k. p (get_or ns k 0)) (sym is) ∙ last (omega arith)) in
      subst S (sym w.parts) (begins w.front w.middle w.back i w.before w.inside w.behind (subst P w.parts h) (subst Q w.parts e) (subst R w.parts less))

-- the accesses before block b are those before the place where what is beneath it begins
pub before_begin : (t : List Node) (b : ℕ) (us : List ℕ) (i : ℕ) → AreTogether (is_above t b) us → i < length us → is_above t b (get_or us i 0) ≡ true → (0 < i → is_above t b (get_or us (i - 1) 0) ≡ false) → before_block t b us ≡ take i us
before_begin t b us i w h e last =
    ap (before_block t b) (split_at us i 0 h) ∙ before_first t b (take i us) (get_or us i 0) (drop (suc i) us) (begins_at (is_above t b) us i w h e last) e

-- ## What an access left

told_kind : (k : Kind) (v : ℤ) → is_some (cell_in k) ≡ true → ((w : ℤ) → read_kind k ≡ Some w → w ≡ v) → unwrap_or (written_kind k) v ≡ value_in_kind k
told_kind kind.Strand v e h = absurd (cc e)
told_kind kind.Fork v e h = absurd (cc e)
told_kind kind.Block v e h = absurd (cc e)
told_kind (kind.Read c x) v e h = sym (h x refl)
told_kind (kind.Write c x) v e h = refl
told_kind (kind.Out x) v e h = absurd (cc e)
told_kind (kind.Tried c) v e h = absurd (cc e)
told_kind (kind.Cancel back) v e h = absurd (cc e)

told_at : (o : Option Node) (v : ℤ) → is_some (cell_at o) ≡ true → ((w : ℤ) → value_in read_kind o ≡ Some w → w ≡ v) → unwrap_or (value_in written_kind o) v ≡ value_of_node o
told_at None v e h = absurd (cc e)
told_at (Some x) v e h = told_kind x.kind v e h

-- the value after accesses is what the last of them read or wrote
pub last_told : (t : List Node) (v : ℤ) (us : List ℕ) (i : ℕ) → i < length us → ((n : ℕ) → In n us → is_some (cell_accessed t n) ≡ true) → ReadWhatWasLeft t v us
    → cell_value v (map (written t) (take (suc i) us)) ≡ value_told t (get_or us i 0)
last_told t v [] i h all right = absurd (omega arith)
last_told t v (u ∷ us) zero h all right = by us where
  by : (xs : List ℕ) → cell_value v (map (written t) (take 1 (u ∷ xs))) ≡ value_told t u
  by [] = told_at (slice_get t u) v (all u (inl refl)) right.0
  by (x ∷ xs) = told_at (slice_get t u) v (all u (inl refl)) right.0
last_told t v (u ∷ us) (suc i) h all right = last_told t (unwrap_or (written t u) v) us i (omega arith) (λ n m. all n (inr m)) right.1

-- the value before block b is what the access before the place read or wrote
pub value_begun : (t : List Node) (b : ℕ) (v : ℤ) (us : List ℕ) (i : ℕ) → before_block t b us ≡ take i us → 0 < i → i < length us → ((n : ℕ) → In n us → is_some (cell_accessed t n) ≡ true) → ReadWhatWasLeft t v us
    → value_told t (get_or us (i - 1) 0) ≡ cell_value v (map (written t) (before_block t b us))
value_begun t b v us i front some h all right =
    let next : suc (i - 1) ≡ i = omega arith in
    sym (last_told t v us (i - 1) (omega arith) all right) ∙ ap (λ k. cell_value v (map (written t) (take k us))) next ∙ sym (ap (λ ns. cell_value v (map (written t) ns)) front)
