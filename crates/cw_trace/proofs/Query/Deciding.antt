-- The verdict of a tier that stands for the tree is what the tree says.
use Rattle.std.proofs.Common.{◌≡◌, ◌≢◌, ℕ, ◌<◌, ◌≤◌, List, length, refl, ap, sym, ◌∙◌, arith, Bool, true, false, cond, Option, Some, None, inl, inr, subst, nat_lt, nat_eq, eq-eqb, eqb-true}
use Rattle.std.specs.Prelude.{◌⊎◌, ◌&&◌, if◌then◌else◌}
use Rattle.std.specs.List.{find}
use borrow.Author.Tests.{ltb-true}
use Rattle.std.proofs.lemmas.Bool.{lt-ltb, ltb-false, false_from_ne_true, or_parts, and_parts, and_from, or_cases}
use Rattle.cw_tree.specs.declared.node.Node.{Node}
use Rattle.cw_tree.specs.Nodes.{is_block, is_pending, stamp_of}
use Rattle.cw_tree.specs.Walks.{path, is_ancestor, is_above, nua}
use Rattle.cw_tree.specs.Shape.{IsTree, AreStamps}
use Rattle.cw_tree.proofs.Walks.Climbs.{path_split}
use Rattle.cw_tree.proofs.Walks.Ancestors.{ancestor_above, ancestor_trans, ancestor_le}
use Rattle.cw_tree.proofs.Walks.Upward.{Found, find_found, find_none}
use Rattle.cw_tree.proofs.NodeKinds.{pending_block}
use Rattle.cw_trace.specs.declared.verdict.Verdict.{Verdict}
use Rattle.cw_trace.specs.declared.verdict.Verdict.TheVariants.{Free, Within, Against}
use Rattle.cw_trace.specs.Columns.{ColumnTable, used, owner, up, lead, inside}
use Rattle.cw_trace.specs.Query.{verdict, verdict_of, stands_in, verdict_around}
use Rattle.cw_trace.specs.Stands.{Stands, column, fork_column, Descends, names_trace, is_cut_at, stamp_or_0, word_of}
use Rattle.cw_trace.proofs.Stands.WithStamps.{pending_marked}
use Rattle.cw_trace.proofs.Keeps.Owners.{owners_descend, owner_between, beneath_cut, own_named}
use Rattle.cw_trace.proofs.Stands.UpFrom.{FirstBegun, first_begun, first_some, first_none, UpFrom, ups_of}

-- what a verdict says, in the tree's words
abbrev pub Says : List Node → ℕ → ℕ → Verdict → Type 0
Says t u p Free = nua t u ≡ None
Says t u p Within = (b : ℕ) × (nua t u ≡ Some b) × (is_ancestor t b p ≡ true)
Says t u p (Against w) = (b : ℕ) × (a : ℕ) × (nua t u ≡ Some b) × (is_ancestor t b p ≡ false) × (is_pending t a ≡ true) × (is_above t a u ≡ true) × (is_ancestor t a p ≡ false) × (stamp_of t a ≡ w)

module _ (c : ColumnTable) (words : List ℕ) (t : List Node) (cuts merges : List ℕ) (tr : IsTree t) (st : Stands c words t cuts merges) where
  abbrev own : ℕ → ℕ
  own n = owner c (column t (used c) n)

  -- access u, and an asker at place p that goes on beneath each pending block begun in its trace
  module _ (u p : ℕ) (hu : u < length t) (hp : p < length t) (s : AreStamps t) (leaf : is_block t u ≡ false) (some : 0 < stamp_of t u)
      (goes : (b : ℕ) → b < length t → is_pending t b ≡ true → own b ≡ own p → is_ancestor t b p ≡ true) where
    -- a pending block that is an ancestor of the access stands above it
    over : (a : ℕ) → is_pending t a ≡ true → is_ancestor t a u ≡ true → is_above t a u ≡ true
    over a pa e = sym (ancestor_above t a u (λ q. cc (ap (is_block t) q, leaf, pending_block t a pa))) ∙ e

    on_path : find (is_pending t) (path t u) ≡ nua t u
    on_path = ap (find (is_pending t)) (path_split t u) ∙ ap (λ b. cond b (Some u) (nua t u)) (false_from_ne_true (is_pending t u) (λ e. cc (leaf, pending_block t u e)))

    within_means : (y b : ℕ) → b < length t → own b ≡ y → stands_in c (column t (used c) p) y ≡ true → (own p ≡ y) ⊎ Descends c y (own p)
    within_means y b hb e w =
        let n = own_named c words t cuts merges tr st p hp in
        let m = own_named c words t cuts merges tr st b hb in
        elim (or_cases (nat_eq (own p) y) (inside c (own p) y) w) [
          | inl z ↦ inl (eqb-true _ _ z)
          | inr z ↦ inr ((st.brackets y (own p) (omega (arith, m.low, e)) n.low (ap (names_trace cuts merges) (sym e) ∙ m.named) n.named).0 z)
        ]

    within_no : (y b : ℕ) → b < length t → own b ≡ y → stands_in c (column t (used c) p) y ≡ false → (own p ≡ y) ⊎ Descends c y (own p) → ⊥
    within_no y b hb e w (inl z) = cc ((or_parts (nat_eq (own p) y) (inside c (own p) y) w).0, eq-eqb (own p) y z)
    within_no y b hb e w (inr z) =
        let n = own_named c words t cuts merges tr st p hp in
        let m = own_named c words t cuts merges tr st b hb in
        let q = (st.brackets y (own p) (omega (arith, m.low, e)) n.low (ap (names_trace cuts merges) (sym e) ∙ m.named) n.named).1 z in
        cc ((or_parts (nat_eq (own p) y) (inside c (own p) y) w).1, q)

    -- a is the nearest pending block, of trace y like b, which stands above it
    settle : (y a b w : ℕ) → a < length t → b < length t → nua t u ≡ Some a → is_pending t a ≡ true → own a ≡ y → is_pending t b ≡ true → own b ≡ y → is_ancestor t b a ≡ true → is_ancestor t b u ≡ true → stamp_of t b ≡ w
        → (v : Bool) → stands_in c (column t (used c) p) y ≡ v → Says t u p (verdict_of v w)
    settle y a b w ha hb na pa oa pb ob ba bu sb true e =
        (a, na, by_cases (within_means y b hb ob e)) where
          by_cases : (own p ≡ y) ⊎ Descends c y (own p) → is_ancestor t a p ≡ true
          by_cases (inl z) = goes a ha pa (oa ∙ sym z)
          by_cases (inr z) =
              let f = beneath_cut c words t cuts merges tr st y (own p) z p hp refl in
              ancestor_trans t tr.rooted a f.0 p hp (st.contains_cut a f.0 ha pa f.1.fork (ap (λ x. is_cut_at c cuts merges x (fork_column t f.0)) oa ∙ f.1.cut)) f.1.above
    settle y a b w ha hb na pa oa pb ob ba bu sb false e =
        let no : is_ancestor t b p ≡ true → ⊥ = λ f. within_no y b hb ob e (elim (owners_descend c words t cuts merges tr st b p hp f) [ inl z ↦ inl (z ∙ ob) | inr z ↦ inr (let P : ℕ → Type 0 = λ x. Descends c x (own p) in subst P ob z) ]) in
        (a, b, na, false_from_ne_true _ (λ f. no (ancestor_trans t tr.rooted b a p hp ba f)), pb, over b pb bu, false_from_ne_true _ no, sb)

    -- the first pending block of a trace stands above the last access: so there is a nearest one
    nearest : (b : ℕ) → is_pending t b ≡ true → is_ancestor t b u ≡ true → (a : ℕ) × (nua t u ≡ Some a) × Found t tr.rooted (is_pending t) u a
    nearest b pb bu = by_nua (nua t u) refl where
      by_nua : (o : Option ℕ) → nua t u ≡ o → (a : ℕ) × (nua t u ≡ Some a) × Found t tr.rooted (is_pending t) u a
      by_nua None e = absurd (cc (find_none t tr.rooted (is_pending t) u hu (on_path ∙ e) b bu, pb))
      by_nua (Some a) e = (a, e, find_found t tr.rooted (is_pending t) a u hu (on_path ∙ e))

    -- with a trace whose first pending block stands above the last access, where all nearest ones are of it
    by_trace : (y b w : ℕ) → FirstBegun c words t cuts merges tr st y b → is_ancestor t b u ≡ true → stamp_of t b ≡ w → ((a : ℕ) → a < length t → Found t tr.rooted (is_pending t) u a → own a ≡ y) → Says t u p (verdict_of (stands_in c (column t (used c) p) y) w)
    by_trace y b w f bu sb all =
        let z = nearest b f.pending bu in
        let le : z.0 ≤ u = ancestor_le t tr.rooted z.0 u hu z.2.above in
        settle y z.0 b w (omega arith) f.there z.1 z.2.passed (all z.0 (omega arith) z.2) f.pending f.owner (z.2.innermost b bu f.pending) bu sb (stands_in c (column t (used c) p) y) refl

    lead_word : (y b : ℕ) → b < length t → own b ≡ y → word_of words (lead c y) ≡ stamp_or_0 t (first_begun c words t cuts merges tr st y)
    lead_word y b hb e = let m = own_named c words t cuts merges tr st b hb in st.leads y (omega (arith, m.low, e)) (ap (names_trace cuts merges) (sym e) ∙ m.named)

    -- the word of the lead was there when the last access was made
    by_lead_word : (o : Option ℕ) → first_begun c words t cuts merges tr st (own u) ≡ o → (nat_lt 0 (stamp_or_0 t o) && nat_lt (stamp_or_0 t o) (stamp_of t u)) ≡ true → Says t u p (verdict_of (stands_in c (column t (used c) p) (own u)) (stamp_or_0 t o))
    by_lead_word None e z = absurd (cc z)
    by_lead_word (Some b) e z =
        let f = first_some c words t cuts merges tr st (own u) b e in
        let lt : stamp_of t b < stamp_of t u = ltb-true _ _ (and_parts _ _ z).1 in
        let bu : is_ancestor t b u ≡ true = st.contains b u f.there hu f.pending f.owner lt in
        by_trace (own u) b (stamp_of t b) f bu refl (λ a ha w. owner_between c words t cuts merges tr st b a u hu ha f.there (w.innermost b bu f.pending) w.above f.pending f.owner)

    -- else no pending block of the last accessor's trace stands above the access
    none_own : (o : Option ℕ) → first_begun c words t cuts merges tr st (own u) ≡ o → (nat_lt 0 (stamp_or_0 t o) && nat_lt (stamp_or_0 t o) (stamp_of t u)) ≡ false → (a : ℕ) → a < length t → is_ancestor t a u ≡ true → is_pending t a ≡ true → own a ≡ own u → ⊥
    none_own None e z a ha au pa oa = first_none c words t cuts merges tr st (own u) e a ha pa oa
    none_own (Some b) e z a ha au pa oa =
        let f = first_some c words t cuts merges tr st (own u) b e in
        let w = pending_marked t b s f.pending in
        let v = pending_marked t a s pa in
        let ge : stamp_of t u ≤ stamp_of t b = by_test (nat_lt 0 (stamp_of t b)) (nat_lt (stamp_of t b) (stamp_of t u)) (lt-ltb _ _ w.some) refl z in
        let lt : stamp_of t a < stamp_of t u = s.begun a u ha hu (and_from (is_block t a) (is_above t a u) v.kind (over a pa au)) some in
        let ab : is_ancestor t a b ≡ true = st.contains a b ha f.there pa (oa ∙ sym f.owner) (omega arith) in
        let le : a ≤ b = ancestor_le t tr.rooted a b f.there ab in
        let ne : a ≢ b = λ q. (let h : stamp_of t a ≡ stamp_of t b = ap (stamp_of t) q in omega arith) in
        f.first a (omega arith) pa oa where
          by_test : (x y : Bool) → x ≡ true → nat_lt (stamp_of t b) (stamp_of t u) ≡ y → (x && y) ≡ false → stamp_of t u ≤ stamp_of t b
          by_test true true g h k = absurd (cc k)
          by_test true false g h k = ltb-false _ _ h
          by_test false y g h k = absurd (cc g)

    by_up_answer : (o : Option ℕ) → UpFrom c words t cuts merges tr st u o → ((a : ℕ) → a < length t → is_ancestor t a u ≡ true → is_pending t a ≡ true → own a ≡ own u → ⊥) → Says t u p (verdict_around c words (column t (used c) p) o)
    by_up_answer None w none = by_nua (nua t u) refl where
      by_nua : (o : Option ℕ) → nua t u ≡ o → nua t u ≡ None
      by_nua None e = e
      by_nua (Some a) e =
          let f = find_found t tr.rooted (is_pending t) a u hu (on_path ∙ e) in
          let le : a ≤ u = ancestor_le t tr.rooted a u hu f.above in
          absurd (none a (omega arith) f.above f.passed (w a (omega arith) f.above f.passed))
    by_up_answer (Some y) w none =
        let g : ℕ = w.0 in
        let b : ℕ = w.1 in
        let z = w.2 in
        let f = first_some c words t cuts merges tr st y b z.first in
        let bg : is_ancestor t b g ≡ true = st.contains_cut b g f.there f.pending z.fork (ap (λ x. is_cut_at c cuts merges x (fork_column t g)) f.owner ∙ z.cut) in
        let bu : is_ancestor t b u ≡ true = ancestor_trans t tr.rooted b g u hu bg z.above in
        let word : word_of words (lead c y) ≡ stamp_of t b = lead_word y b f.there f.owner ∙ ap (stamp_or_0 t) z.first in
        by_trace y b (word_of words (lead c y)) f bu (sym word) (λ a ha x.
        elim (z.near a ha x.above x.passed) [
          | inl q ↦ absurd (none a ha x.above x.passed q)
          | inr q ↦ owner_between c words t cuts merges tr st b a g z.there ha f.there (x.innermost b bu f.pending) q f.pending (f.owner ∙ sym z.owner) ∙ z.owner
        ])

    -- the word of the trace around tells that the access conflicts now, whatever the last accessor's own trace has begun since
    pub against_around : (y : ℕ) → up c (own u) ≡ Some y → stands_in c (column t (used c) p) y ≡ false → Says t u p (Against (word_of words (lead c y)))
    against_around y e off = by_up (let P : Option ℕ → Type 0 = λ o. UpFrom c words t cuts merges tr st u o in subst P e (ups_of c words t cuts merges tr st u hu)) where
      by_up : UpFrom c words t cuts merges tr st u (Some y) → Says t u p (Against (word_of words (lead c y)))
      by_up w =
          let g : ℕ = w.0 in
          let b : ℕ = w.1 in
          let z = w.2 in
          let f = first_some c words t cuts merges tr st y b z.first in
          let bg : is_ancestor t b g ≡ true = st.contains_cut b g f.there f.pending z.fork (ap (λ x. is_cut_at c cuts merges x (fork_column t g)) f.owner ∙ z.cut) in
          let bu : is_ancestor t b u ≡ true = ancestor_trans t tr.rooted b g u hu bg z.above in
          let word : word_of words (lead c y) ≡ stamp_of t b = lead_word y b f.there f.owner ∙ ap (stamp_or_0 t) z.first in
          let near = nearest b f.pending bu in
          let no : is_ancestor t b p ≡ true → ⊥ = λ h. within_no y b f.there f.owner off (elim (owners_descend c words t cuts merges tr st b p hp h) [ inl q ↦ inl (q ∙ f.owner) | inr q ↦ inr (let P : ℕ → Type 0 = λ x. Descends c x (own p) in subst P f.owner q) ]) in
          (near.0, b, near.1, false_from_ne_true _ (λ h. no (ancestor_trans t tr.rooted b near.0 p hp (near.2.innermost b bu f.pending) h)), f.pending, over b f.pending bu, false_from_ne_true _ no, sym word)

    -- the verdict is the definition: one stamp and at most two gap words decide
    pub query : Says t u p (verdict c words (record { strand = column t (used c) u; stamp = stamp_of t u }) (column t (used c) p))
    query = by_word (word_of words (lead c (own u))) (lead_word (own u) u hu refl) where
      by_word : (w : ℕ) → w ≡ stamp_or_0 t (first_begun c words t cuts merges tr st (own u)) → Says t u p (if nat_lt 0 w && nat_lt w (stamp_of t u) then verdict_of (stands_in c (column t (used c) p) (own u)) w else verdict_around c words (column t (used c) p) (up c (own u)))
      by_word w e = let P : ℕ → Type 0 = λ w. Says t u p (if nat_lt 0 w && nat_lt w (stamp_of t u) then verdict_of (stands_in c (column t (used c) p) (own u)) w else verdict_around c words (column t (used c) p) (up c (own u))) in
          subst P (sym e) (by_test (nat_lt 0 (stamp_or_0 t (first_begun c words t cuts merges tr st (own u))) && nat_lt (stamp_or_0 t (first_begun c words t cuts merges tr st (own u))) (stamp_of t u)) refl) where
            by_test : (b : Bool) → (nat_lt 0 (stamp_or_0 t (first_begun c words t cuts merges tr st (own u))) && nat_lt (stamp_or_0 t (first_begun c words t cuts merges tr st (own u))) (stamp_of t u)) ≡ b
                → Says t u p (if b then verdict_of (stands_in c (column t (used c) p) (own u)) (stamp_or_0 t (first_begun c words t cuts merges tr st (own u))) else verdict_around c words (column t (used c) p) (up c (own u)))
            by_test true z = by_lead_word (first_begun c words t cuts merges tr st (own u)) refl z
            by_test false z = by_up_answer (up c (own u)) (ups_of c words t cuts merges tr st u hu) (none_own (first_begun c words t cuts merges tr st (own u)) refl z)
