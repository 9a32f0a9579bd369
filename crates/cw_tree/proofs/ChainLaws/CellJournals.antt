-- Memory and journals together, as accesses come and nothing is rolled back.
use Rattle.std.proofs.Common.{◌≡◌, ℕ, suc, ◌<◌, ◌≤◌, ℤ, List, [], ◌∷◌, ◌++◌, length, map, refl, ap, sym, ◌∙◌, true, false, cond, Option, Some, None, inl, inr, subst, nat_eq}
use Rattle.std.specs.Prelude.{◌⊎◌, ◌&&◌, slice_get, slice_set, unwrap_or}
use Rattle.std.proofs.lemmas.Bool.{cases_eq, eq-eqb, ne_eqb}
use Rattle.std.proofs.lemmas.List.{map-append, length-set}
use Rattle.std.proofs.lemmas.Option.{same_Some}
use Rattle.cw_tree.specs.declared.node.Node.{Node}
use Rattle.cw_tree.specs.declared.node.Kind.{Kind}
use Rattle.cw_tree.specs.declared.node.Kind.TheVariants.{Strand, Read, Write}
use Rattle.cw_tree.specs.declared.access.Entry.{Entry}
use Rattle.cw_tree.specs.Nodes.{is_strand_kind, passes, touches, touches_kind, stamp_of, number_in}
use Rattle.cw_tree.specs.Accesses.{by_key, live_accesses, cell_value, written}
use Rattle.cw_tree.specs.Journals.{IsEntry, AreEntries, AreJournals}
use Rattle.cw_tree.proofs.Members.{map_same}
use Rattle.cw_tree.proofs.NextNodes.Closing.{get_set_same, get_set_other}
use Rattle.cw_tree.proofs.ChainLaws.Entries.{cell_value_more, entries_more, entries_same, Notes, written_at, entry_read, entry_written}
use Rattle.cw_tree.proofs.ChainLaws.LiveAccesses.{SameAccesses, live_there, live_stays, live_more}

-- what live accesses wrote, oldest first
abbrev pub writes_of : List Node → ℕ → List (Option ℤ)
writes_of t c = map (written t) (live_accesses t c)

-- memory has what the live accesses of each cell left, and the journals list them
pub record HasJournals (t : List Node) (first memory : List ℤ) (kept : List (List Entry)) : Type 0 where
  pub len : length memory ≡ length first
  pub values : (c : ℕ) (v : ℤ) → slice_get first c ≡ Some v → slice_get memory c ≡ Some (cell_value v (writes_of t c))
  pub journals : AreJournals t first kept

strand_touches : (c : ℕ) (k : Kind) → is_strand_kind k ≡ true → touches_kind c k ≡ false
strand_touches c Strand e = refl
strand_touches c _ e = absurd (cc e)

-- a tree of a strand alone
pub journals_begin : (root : Node) (first : List ℤ) (kept : List (List Entry)) → is_strand_kind root.kind ≡ true → length kept ≡ length first → ((c : ℕ) (es : List Entry) → slice_get kept c ≡ Some es → es ≡ []) → HasJournals (root ∷ []) first first kept
journals_begin root first kept strand len empty = record {
  len = refl;
  values = λ c v h. h ∙ ap (λ us. Some (cell_value v (map (written (root ∷ [])) us))) (sym (none c));
  journals = record {
    len = len;
    each = λ c v es h k.
        (let P : List ℕ → Type 0 = λ us. AreEntries (root ∷ []) v us es in
        let Q : List Entry → Type 0 = λ fs. AreEntries (root ∷ []) v [] fs in
        subst P (sym (none c)) (subst Q (sym (empty c es k)) tt));
  };
} where
  none : (c : ℕ) → live_accesses (root ∷ []) c ≡ []
  none c = ap (λ b. by_key (stamp_of (root ∷ [])) (cond (b && true) (0 ∷ []) [])) (strand_touches c root.kind strand)

module _ (t u : List Node) (s : SameAccesses t u) (first memory : List ℤ) (kept : List (List Entry)) (h : HasJournals t first memory kept) where
  old_writes : (c : ℕ) → map (written u) (live_accesses t c) ≡ writes_of t c
  old_writes c = map_same (written u) (written t) (live_accesses t c) (λ n i. (s.each n (live_there t c n i)).wrote)

  old_entries : (c : ℕ) (v : ℤ) (es : List Entry) → slice_get first c ≡ Some v → slice_get kept c ≡ Some es → AreEntries u v (live_accesses t c) es
  old_entries c v es f k = entries_same t u v (live_accesses t c) es (λ n i. s.each n (live_there t c n i)) (h.journals.each c v es f k)

  kept_value : (c : ℕ) (v : ℤ) → live_accesses u c ≡ live_accesses t c → slice_get first c ≡ Some v → slice_get memory c ≡ Some (cell_value v (writes_of u c))
  kept_value c v same f = h.values c v f ∙ ap (λ ws. Some (cell_value v ws)) (sym (ap (map (written u)) same ∙ old_writes c))

  kept_entries : (c : ℕ) (v : ℤ) (es : List Entry) → live_accesses u c ≡ live_accesses t c → slice_get first c ≡ Some v → slice_get kept c ≡ Some es → AreEntries u v (live_accesses u c) es
  kept_entries c v es same f k = let P : List ℕ → Type 0 = λ us. AreEntries u v us es in subst P (sym same) (old_entries c v es f k)

  -- where no access came
  pub journals_stay : ((c : ℕ) → live_accesses u c ≡ live_accesses t c) → HasJournals u first memory kept
  journals_stay same = record {
    len = h.len;
    values = λ c v f. kept_value c v (same c) f;
    journals = record { len = h.journals.len; each = λ c v es f k. kept_entries c v es (same c) f k };
  }

  -- where accesses came of a cell alone that has no first value
  pub journals_outside : (c : ℕ) → slice_get first c ≡ None → ((d : ℕ) → (d ≡ c → ⊥) → live_accesses u d ≡ live_accesses t d) → HasJournals u first memory kept
  journals_outside c none others = record {
    len = h.len;
    values = λ d v f. kept_value d v (others d (other d v f)) f;
    journals = record { len = h.journals.len; each = λ d v es f k. kept_entries d v es (others d (other d v f)) f k };
  } where
    other : (d : ℕ) (v : ℤ) → slice_get first d ≡ Some v → d ≡ c → ⊥
    other d v f q = let found : Some v ≡ None = sym f ∙ (ap (slice_get first) q ∙ none) in cc

  -- where one access of cell c came, which met value w
  module _ (c : ℕ) (w : ℤ) (es : List Entry) (e : Entry) (n : ℕ)
      (came : live_accesses u c ≡ live_accesses t c ++ n ∷ []) (others : (d : ℕ) → (d ≡ c → ⊥) → live_accesses u d ≡ live_accesses t d)
      (met : slice_get memory c ≡ Some w) (journal : slice_get kept c ≡ Some es) (entry : IsEntry u w n e) where
    met_is : (v : ℤ) → slice_get first c ≡ Some v → w ≡ cell_value v (writes_of t c)
    met_is v f = same_Some w (cell_value v (writes_of t c)) (sym met ∙ h.values c v f)

    value_after : (v : ℤ) → slice_get first c ≡ Some v → unwrap_or (written u n) w ≡ cell_value v (writes_of u c)
    value_after v f =
        ap (unwrap_or (written u n)) (met_is v f)
        ∙ sym (cell_value_more v (writes_of t c) (written u n))
        ∙ ap (λ ws. cell_value v (ws ++ written u n ∷ [])) (sym (old_writes c))
        ∙ ap (cell_value v) (sym (ap (map (written u)) came ∙ map-append (written u) (live_accesses t c) (n ∷ [])))

    entries_after : (v : ℤ) → slice_get first c ≡ Some v → AreEntries u v (live_accesses u c) (es ++ e ∷ [])
    entries_after v f =
        let P : List ℕ → Type 0 = λ us. AreEntries u v us (es ++ e ∷ []) in
        let Q : ℤ → Type 0 = λ x. IsEntry u x n e in
        subst P (sym came) (entries_more u v (live_accesses t c) es n e (old_entries c v es f journal) (subst Q (met_is v f ∙ ap (cell_value v) (sym (old_writes c))) entry))

    pub journals_more : (after : List ℤ) → length after ≡ length memory → slice_get after c ≡ Some (unwrap_or (written u n) w) → ((d : ℕ) → (d ≡ c → ⊥) → slice_get after d ≡ slice_get memory d) → HasJournals u first after (slice_set kept c (es ++ e ∷ []))
    journals_more after len here elsewhere = record {
      len = len ∙ h.len;
      values = λ d v f. value_at d v f (cases_eq d c);
      journals = record { len = length-set kept c (es ++ e ∷ []) ∙ h.journals.len; each = λ d v fs f k. entries_at d v fs f k (cases_eq d c) };
    } where
      value_at : (d : ℕ) (v : ℤ) → slice_get first d ≡ Some v → (d ≡ c) ⊎ (d ≡ c → ⊥) → slice_get after d ≡ Some (cell_value v (writes_of u d))
      value_at d v f (inl q) =
          let F : ℕ → Type 0 = λ x. slice_get first x ≡ Some v in
          let P : ℕ → Type 0 = λ x. slice_get after x ≡ Some (cell_value v (writes_of u x)) in
          subst P (sym q) (here ∙ ap Some (value_after v (subst F q f)))
      value_at d v f (inr ne) = elsewhere d ne ∙ kept_value d v (others d ne) f

      entries_at : (d : ℕ) (v : ℤ) (fs : List Entry) → slice_get first d ≡ Some v → slice_get (slice_set kept c (es ++ e ∷ [])) d ≡ Some fs → (d ≡ c) ⊎ (d ≡ c → ⊥) → AreEntries u v (live_accesses u d) fs
      entries_at d v fs f k (inl q) =
          let F : ℕ → Type 0 = λ x. slice_get first x ≡ Some v in
          let K : ℕ → Type 0 = λ x. slice_get (slice_set kept c (es ++ e ∷ [])) x ≡ Some fs in
          let P : ℕ → Type 0 = λ x. AreEntries u v (live_accesses u x) fs in
          let Q : List Entry → Type 0 = λ gs. AreEntries u v (live_accesses u c) gs in
          let same : (es ++ e ∷ []) ≡ fs = same_Some (es ++ e ∷ []) fs (sym (get_set_same kept c es (es ++ e ∷ []) journal) ∙ subst K q k) in
          subst P (sym q) (subst Q same (entries_after v (subst F q f)))
      entries_at d v fs f k (inr ne) = kept_entries d v fs (others d ne) f (sym (get_set_other kept c d (es ++ e ∷ []) ne) ∙ k)

-- one node more
module _ (t u : List Node) (s : SameAccesses t u) (first memory : List ℤ) (kept : List (List Entry)) (h : HasJournals t first memory kept) (len : length u ≡ suc (length t)) (x : Node) (is : slice_get u (length t) ≡ Some x) where
  touched : (c : ℕ) → touches u c (length t) ≡ touches_kind c x.kind
  touched c = ap (passes (λ x. touches_kind c x.kind)) is

  module _ (newest : (n : ℕ) → n < length t → stamp_of t n ≤ x.stamp) (c : ℕ) (w : ℤ) (es : List Entry) (e : Entry) (journal : slice_get kept c ≡ Some es) where
    came : touches_kind c x.kind ≡ true → live_accesses u c ≡ live_accesses t c ++ length t ∷ []
    came q = live_more t u s c len (touched c ∙ q) (λ n l. let P : ℕ → Type 0 = λ k. stamp_of t n ≤ k in subst P (sym (ap (number_in (λ x. x.stamp)) is)) (newest n l))

    others : ((d : ℕ) → touches_kind d x.kind ≡ nat_eq c d) → (d : ℕ) → (d ≡ c → ⊥) → live_accesses u d ≡ live_accesses t d
    others only d ne = live_stays t u s d len (touched d ∙ only d ∙ ne_eqb c d (λ q. ne (sym q)))

    -- a read of the value in memory
    pub journals_read : x.kind ≡ Read c w → slice_get memory c ≡ Some w → Notes e x.stamp false w w → HasJournals u first memory (slice_set kept c (es ++ e ∷ []))
    journals_read q met note =
        journals_more t u s first memory kept h c w es e (length t) (came (ap (touches_kind c) q ∙ eq-eqb c c refl)) (others (λ d. ap (touches_kind d) q)) met journal (entry_read u (length t) x is c w e q note)
        memory refl (met ∙ ap (λ o. Some (unwrap_or o w)) (sym (written_at u (length t) x is (Read c w) q))) (λ d ne. refl)

    -- a write, where memory had value w
    pub journals_write : (v : ℤ) → x.kind ≡ Write c v → slice_get memory c ≡ Some w → Notes e x.stamp true v w → HasJournals u first (slice_set memory c v) (slice_set kept c (es ++ e ∷ []))
    journals_write v q met note =
        journals_more t u s first memory kept h c w es e (length t) (came (ap (touches_kind c) q ∙ eq-eqb c c refl)) (others (λ d. ap (touches_kind d) q)) met journal (entry_written u (length t) x is c w e v q note)
        (slice_set memory c v) (length-set memory c v) (get_set_same memory c w v met ∙ ap (λ o. Some (unwrap_or o w)) (sym (written_at u (length t) x is (Write c v) q))) (λ d ne. get_set_other memory c d v ne)
