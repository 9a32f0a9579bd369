-- What a pass over all live accesses finds of neighbours in journals.
use Rattle.std.proofs.Common.{◌≡◌, ℕ, zero, suc, ◌+◌, ◌<◌, ◌≤◌, List, [], ◌∷◌, ◌++◌, length, get_or, set, replicate, ap, sym, ◌∙◌, subst, arith, refl, cond, Option, Some, None, inl, inr}
use Rattle.std.specs.Prelude.{◌⊎◌}
use Rattle.std.specs.List.{filter}
use Rattle.std.proofs.lemmas.Bool.{cases_eq, eq-eqb, ne_eqb}
use Rattle.std.proofs.lemmas.List.{get_or-set_same, get_or-set_other, get_or-replicate, length-set, length-replicate}
use Rattle.std.proofs.lemmas.List.Elements.{All-head, filter-append}
use Rattle.std.proofs.lemmas.Option.{same_Some}
use Rattle.cw_tree.specs.declared.node.Node.{Node}
use Rattle.cw_tree.specs.Nodes.{stamp_of, touches, all_nodes}
use Rattle.cw_tree.specs.Accesses.{live_accesses}
use Rattle.cw_tree.specs.Journals.{EndedBetween, AllEndedBetween, JournalsEnded}
use Rattle.cw_tree.proofs.Sorts.{Sorted, sorted_by_key}
use Rattle.cw_audit.specs.LiveAccesses.{is_live_access, all_live_accesses, cell_accessed}
use Rattle.cw_audit.specs.Ended.{AreShortcuts}
use Rattle.cw_audit.proofs.Shortcuts.{shortcuts_later}
use Rattle.cw_audit.proofs.Making.{touches_is, touches_none, of_cell, cell_past, cell_here}

abbrev pub final : List ℕ → Option ℕ
final [] = None
final (u ∷ []) = Some u
final (u ∷ v ∷ us) = final (v ∷ us)

final_more : (us : List ℕ) (v : ℕ) → final (us ++ v ∷ []) ≡ Some v
final_more [] v = refl
final_more (u ∷ []) v = refl
final_more (u ∷ w ∷ us) v = final_more (w ∷ us) v

-- each has no greater stamp than the next
sorted_next : (key : ℕ → ℕ) (xs : List ℕ) (i : ℕ) → Sorted key xs → suc i < length xs → key (get_or xs i 0) ≤ key (get_or xs (suc i) 0)
sorted_next key [] i d h = absurd (omega arith)
sorted_next key (x ∷ []) i d h = absurd (omega arith)
sorted_next key (x ∷ y ∷ ys) zero d h = All-head (λ z. key x ≤ key z) y ys d.0
sorted_next key (x ∷ y ∷ ys) (suc i) d h = sorted_next key (y ∷ ys) i d.1 (omega arith)

module _ (t : List Node) where
  pub later_next : (i : ℕ) → i + 1 < length (all_live_accesses t) → stamp_of t (get_or (all_live_accesses t) i 0) ≤ stamp_of t (get_or (all_live_accesses t) (i + 1) 0)
  later_next i h =
      let xs = all_live_accesses t in
      let next : suc i ≡ i + 1 = omega arith in
      let P : ℕ → Type 0 = λ j. stamp_of t (get_or xs i 0) ≤ stamp_of t (get_or xs j 0) in
      subst P next (sorted_next (stamp_of t) xs i (sorted_by_key (stamp_of t) (filter (is_live_access t) (all_nodes t))) (omega arith))

  all_more : (us : List ℕ) (v : ℕ) → AllEndedBetween t us → ((u : ℕ) → final us ≡ Some u → EndedBetween t u v) → AllEndedBetween t (us ++ v ∷ [])
  all_more [] v h g = tt
  all_more (u ∷ []) v h g = (g u refl, tt)
  all_more (u ∷ w ∷ us) v h g = (h.0, all_more (w ∷ us) v h.1 g)

  between_last : (us : List ℕ) (u v : ℕ) (ws : List ℕ) → AllEndedBetween t (us ++ v ∷ ws) → final us ≡ Some u → EndedBetween t u v
  between_last [] u v ws h e = absurd (cc e)
  between_last (x ∷ []) u v ws h e = let same : x ≡ u = cc e in let P : ℕ → Type 0 = λ y. EndedBetween t y v in subst P same h.0
  between_last (x ∷ y ∷ us) u v ws h e = between_last (y ∷ us) u v ws h.1 e

  -- the journals of these accesses have ended, and these are the last ones
  pub record Swept (cells : ℕ) (taken : List ℕ) (last : List (Option ℕ)) : Type 0 where
    pub len : length last ≡ cells
    pub ended : (c : ℕ) → c < cells → AllEndedBetween t (filter (touches t c) taken)
    pub lasts : (c : ℕ) → c < cells → get_or last c None ≡ final (filter (touches t c) taken)
    pub there : (c u : ℕ) → c < cells → get_or last c None ≡ Some u → u < length t

  pub swept_none : (cells : ℕ) (last : List (Option ℕ)) → last ≡ replicate cells None → Swept cells [] last
  swept_none cells last e = record {
    len = ap length e ∙ length-replicate cells None;
    ended = λ c h. tt;
    lasts = λ c h. ap (λ xs. get_or xs c None) e ∙ get_or-replicate cells c None None h;
    there = λ c u h f. absurd (cc (f, ap (λ xs. get_or xs c None) e ∙ get_or-replicate cells c None None h));
  }

  pub swept_other : (cells : ℕ) (taken : List ℕ) (last : List (Option ℕ)) (n : ℕ) → Swept cells taken last → cell_accessed t n ≡ None → Swept cells (taken ++ n ∷ []) last
  swept_other cells taken last n w e = record {
    len = w.len;
    ended = λ c h. (let P : List ℕ → Type 0 = λ us. AllEndedBetween t us in subst P (sym (cell_past t taken n c (touches_none t n c e))) (w.ended c h));
    lasts = λ c h. w.lasts c h ∙ ap final (sym (cell_past t taken n c (touches_none t n c e)));
    there = w.there;
  }

  module _ (cells : ℕ) (taken : List ℕ) (last : List (Option ℕ)) (n d : ℕ) (w : Swept cells taken last) (cell : cell_accessed t n ≡ Some d) (low : d < cells) where
    here : filter (touches t d) (taken ++ n ∷ []) ≡ filter (touches t d) taken ++ n ∷ []
    here = cell_here t taken n d (touches_is t n d d cell ∙ eq-eqb d d refl)

    elsewhere : (c : ℕ) → (c ≡ d → ⊥) → filter (touches t c) (taken ++ n ∷ []) ≡ filter (touches t c) taken
    elsewhere c ne = cell_past t taken n c (touches_is t n c d cell ∙ ne_eqb d c (λ e. ne (sym e)))

    pub swept_next : n < length t → ((u : ℕ) → get_or last d None ≡ Some u → EndedBetween t u n) → Swept cells (taken ++ n ∷ []) (set last d (Some n))
    swept_next in_tree good = record {
      len = length-set last d (Some n) ∙ w.len;
      ended = λ c h. ended c h (cases_eq c d);
      lasts = λ c h. lasts c h (cases_eq c d);
      there = λ c u h f. there c u h f (cases_eq c d);
    } where
      there : (c u : ℕ) → c < cells → get_or (set last d (Some n)) c None ≡ Some u → (c ≡ d) ⊎ (c ≡ d → ⊥) → u < length t
      there c u h f (inl e) =
          let len = w.len in
          let value : get_or (set last d (Some n)) d None ≡ Some n = get_or-set_same last d (Some n) None (omega arith) in
          let same : n ≡ u = same_Some n u (sym value ∙ ap (λ x. get_or (set last d (Some n)) x None) (sym e) ∙ f) in
          omega arith
      there c u h f (inr ne) = w.there c u h (sym (get_or-set_other last d c (Some n) None ne) ∙ f)

      ended : (c : ℕ) → c < cells → (c ≡ d) ⊎ (c ≡ d → ⊥) → AllEndedBetween t (filter (touches t c) (taken ++ n ∷ []))
      ended c h (inl e) =
          let P : ℕ → Type 0 = λ x. AllEndedBetween t (filter (touches t x) (taken ++ n ∷ [])) in
          let Q : List ℕ → Type 0 = λ us. AllEndedBetween t us in
          subst P (sym e) (subst Q (sym here) (all_more (filter (touches t d) taken) n (w.ended d low) (λ u f. good u (w.lasts d low ∙ f))))
      ended c h (inr ne) = let Q : List ℕ → Type 0 = λ us. AllEndedBetween t us in subst Q (sym (elsewhere c ne)) (w.ended c h)

      lasts : (c : ℕ) → c < cells → (c ≡ d) ⊎ (c ≡ d → ⊥) → get_or (set last d (Some n)) c None ≡ final (filter (touches t c) (taken ++ n ∷ []))
      lasts c h (inl e) =
          let len = w.len in
          ap (λ x. get_or (set last d (Some n)) x None) e ∙ get_or-set_same last d (Some n) None (omega arith) ∙ sym (ap (λ x. final (filter (touches t x) (taken ++ n ∷ []))) e ∙ ap final here ∙ final_more (filter (touches t d) taken) n)
      lasts c h (inr ne) = get_or-set_other last d c (Some n) None ne ∙ w.lasts c h ∙ ap final (sym (elsewhere c ne))

    pub swept_right : (rest : List ℕ) → all_live_accesses t ≡ taken ++ n ∷ rest → JournalsEnded t cells → (u : ℕ) → get_or last d None ≡ Some u → EndedBetween t u n
    swept_right rest all right u was =
        let us = filter (touches t d) taken in
        let split : live_accesses t d ≡ us ++ n ∷ filter (touches t d) rest =
        sym (of_cell t d) ∙ ap (filter (touches t d)) all ∙ filter-append (touches t d) taken (n ∷ rest) ∙ ap (λ b. us ++ cond b (n ∷ filter (touches t d) rest) (filter (touches t d) rest)) (touches_is t n d d cell ∙ eq-eqb d d refl)
        in
        let P : List ℕ → Type 0 = λ ns. AllEndedBetween t ns in
        between_last us u n (filter (touches t d) rest) (subst P split (right d low)) (sym (w.lasts d low) ∙ was)

  pub swept_all : (cells : ℕ) (last : List (Option ℕ)) → Swept cells (all_live_accesses t) last → JournalsEnded t cells
  swept_all cells last w c h = let P : List ℕ → Type 0 = λ us. AllEndedBetween t us in subst P (of_cell t c) (w.ended c h)

-- the shortcuts serve for the next access
pub ways_on : (t : List Node) (xs : List ℕ) (ways : List (Option ℕ)) (i : ℕ) → xs ≡ all_live_accesses t → i + 1 < length xs → AreShortcuts t (stamp_of t (get_or xs i 0)) ways → AreShortcuts t (stamp_of t (get_or xs (i + 1) 0)) ways
ways_on t xs ways i e h w =
    let P : List ℕ → Type 0 = λ ys. stamp_of t (get_or ys i 0) ≤ stamp_of t (get_or ys (i + 1) 0) in
    shortcuts_later t (stamp_of t (get_or xs i 0)) (stamp_of t (get_or xs (i + 1) 0)) ways (subst P (sym e) (later_next t i (omega (arith, ap length e)))) w
