-- A list that rises by cells, has only what a block puts back, and names each cell that was written, is all that the block puts back.
use Rattle.std.proofs.Common.{◌≡◌, ℕ, ℤ, pos, zero, suc, ◌+◌, ◌-◌, ◌<◌, ◌≤◌, List, length, ap, sym, ◌∙◌, subst, arith, refl, true, false, Some, inl, inr}
use Rattle.std.specs.Prelude.{◌⊎◌, slice_get, slice_index_or}
use Rattle.std.proofs.lemmas.Bool.{cases_eq}
use Rattle.std.proofs.lemmas.Option.{same_Some, slice_get_within}
use Rattle.cw_code.specs.declared.Back.{Back}
use Rattle.cw_tree.specs.declared.node.Node.{Node}
use Rattle.cw_tree.specs.Accesses.{live_accesses}
use Rattle.cw_tree.specs.Cancels.{put_back, wrote_in}
use Rattle.cw_serial.proofs.Numbers.{get_some}
use Rattle.cw_audit.specs.Naming.{Names, RisesBelow, IsPutBack}
use Rattle.cw_audit.proofs.Backs.{Matched, back_of, written_some, matched_none, matched_skip, matched_more, matched_all}
use Rattle.cw_audit.proofs.TwoBlocks.{either}

before_after : (i place : ℕ) → (i < place) ⊎ ((i ≡ place) ⊎ (place < i))
before_after i place = grind arith

module _ (k : ℕ) (back : List Back) (rises : RisesBelow k back) where
  -- a later entry is of a greater cell
  rising : (i j : ℕ) (e f : Back) → i < j → slice_get back i ≡ Some e → slice_get back j ≡ Some f → e.cell < f.cell
  rising i zero e f h p q = absurd (omega arith)
  rising i (suc j) e f h p q =
      let within : suc j < length back = slice_get_within back (suc j) f q in
      let (d, r) = get_some back j (omega arith) in
      let next : suc j - 1 ≡ j = omega arith in
      let last : d.cell < f.cell = (rises (suc j) f q).rises d (omega arith) (ap (slice_get back) next ∙ r) in
      elim (cases_eq i j) [
        | inl same ↦
            (let is : e ≡ d = same_Some e d (sym p ∙ ap (slice_get back) same ∙ r) in
            let P : Back → Type 0 = λ x. x.cell < f.cell in
            subst P (sym is) last)
        | inr ne ↦ (let less = rising i j e d (omega arith) p r in omega arith)
      ]

module _ (t : List Node) (first : List ℤ) (b stamp : ℕ) (back : List Back) (rises : RisesBelow (length first) back) (right : (i : ℕ) (e : Back) → slice_get back i ≡ Some e → IsPutBack t first b stamp e)
    (named : (c : ℕ) → c < length first → wrote_in t b stamp (live_accesses t c) ≡ true → Names back c)
  where
    -- the entries before a place are those of the cells below c
    record Stands (c place : ℕ) : Type 0 where
      pub matched : Matched t first b stamp back c place
      pub before : (i : ℕ) (e : Back) → i < place → slice_get back i ≡ Some e → e.cell < c
      pub behind : (i : ℕ) (e : Back) → place ≤ i → slice_get back i ≡ Some e → c ≤ e.cell

    matched_next : (c place : ℕ) → Matched t first b stamp back (c + 1) place → Matched t first b stamp back (suc c) place
    matched_next c place w = let next : c + 1 ≡ suc c = omega arith in let P : ℕ → Type 0 = λ x. Matched t first b stamp back x place in subst P next w

    is_entry : (i : ℕ) (e : Back) → slice_get back i ≡ Some e → (wrote_in t b stamp (live_accesses t e.cell) ≡ true) × (back_of t first b stamp e.cell ≡ e)
    is_entry i e at = written_some t first b stamp e.cell (slice_index_or first e.cell (pos 0)) e.value refl (right i e at)

    skip : (c place : ℕ) → Stands c place → wrote_in t b stamp (live_accesses t c) ≡ false → Stands (suc c) place
    skip c place w none = record {
      matched = matched_next c place (matched_skip t first b stamp back c place w.matched none);
      before = λ i e h at. (let less = w.before i e h at in omega arith);
      behind = λ i e h at. (
          let from = w.behind i e h at in
          elim (cases_eq e.cell c) [
            | inl same ↦ absurd (cc (none, ap (λ d. wrote_in t b stamp (live_accesses t d)) same, (is_entry i e at).0))
            | inr ne ↦ omega arith
          ]);
    }

    -- a cell that is named stands at the place
    here : (c place : ℕ) → Stands c place → (w : Names back c) → slice_get back place ≡ Some w.1
    here c place s w =
        let i = w.0 in
        let e = w.1 in
        let cell = w.3 in
        elim (before_after i place) [
          | inl less ↦ (let z = s.before i e less w.2 in absurd (omega arith))
          | inr (inl same) ↦ ap (slice_get back) (sym same) ∙ w.2
          | inr (inr more) ↦
              (let within : i < length back = slice_get_within back i e w.2 in
              let (f, q) = get_some back place (omega arith) in
              let from = s.behind place f (omega arith) q in
              let less = rising (length first) back rises place i f e more q w.2 in
              absurd (omega arith))
        ]

    take : (c place : ℕ) → Stands c place → Names back c → wrote_in t b stamp (live_accesses t c) ≡ true → Stands (suc c) (place + 1)
    take c place s w some =
        let e = w.1 in
        let cell = w.3 in
        let at : slice_get back place ≡ Some e = here c place s w in
        let is : e ≡ back_of t first b stamp c = sym (is_entry place e at).1 ∙ ap (back_of t first b stamp) w.3 in
        record {
          matched = matched_next c (place + 1) (matched_more t first b stamp back c place s.matched some (at ∙ ap Some is));
          before = λ i f h q. elim (cases_eq i place) [
            | inl same ↦
                (let one : f ≡ e = same_Some f e (sym q ∙ ap (slice_get back) same ∙ at) in
                let P : Back → Type 0 = λ x. x.cell < suc c in
                subst P (sym one) (omega arith))
            | inr ne ↦ (let less = s.before i f (omega arith) q in omega arith)
          ];
          behind = λ i f h q. (let less = rising (length first) back rises place i e f (omega arith) at q in omega arith);
        }

    walk : (c : ℕ) → c ≤ length first → (place : ℕ) × Stands c place
    walk zero h = (0, record { matched = matched_none t first b stamp back; before = λ i e l at. absurd (omega arith); behind = λ i e l at. omega arith })
    walk (suc c) h =
        let z = walk c (omega arith) in
        elim (either (wrote_in t b stamp (live_accesses t c))) [
          | inl some ↦ (z.0 + 1, take c z.0 z.1 (named c (omega arith) some) some)
          | inr none ↦ (z.0, skip c z.0 z.1 none)
        ]

    pub by_entries : back ≡ put_back t first (live_accesses t) b stamp
    by_entries =
        let z = walk (length first) (omega arith) in
        let place = z.0 in
        let s = z.1 in
        let low = s.matched.low in
        elim (cases_eq place (length back)) [
          | inl same ↦ matched_all t first b stamp back place s.matched same
          | inr ne ↦
              (let (e, at) = get_some back place (omega arith) in
              let from = s.behind place e (omega arith) at in
              let less = (rises place e at).low in
              absurd (omega arith))
        ]
