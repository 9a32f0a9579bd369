-- What the next cancel around a node names, all further out name too.
use Rattle.std.proofs.Common.{◌≡◌, ℕ, ℤ, zero, suc, ◌<◌, List, [], length, ap, sym, ◌∙◌, subst, arith, refl, true, cond, Option, Some, None, inl, inr}
use Rattle.std.specs.Prelude.{◌⊎◌, IfSome, is_some, unwrap_or}
use Rattle.std.proofs.lemmas.Bool.{cases_eq, and_from, eqb-true}
use Rattle.std.proofs.lemmas.Option.{same_Some}
use Rattle.cw_code.specs.declared.Back.{Back}
use Rattle.cw_tree.specs.declared.node.Node.{Node}
use Rattle.cw_tree.specs.Nodes.{parent_of, stamp_of, touches, is_block_kind}
use Rattle.cw_tree.specs.Walks.{IsRooted, is_ancestor, is_above}
use Rattle.cw_tree.specs.Accesses.{is_live, live_accesses}
use Rattle.cw_tree.specs.Cancels.{AreCancels, put_back, wrote_in}
use Rattle.cw_tree.proofs.Cancels.{wrote_tells, live_is}
use Rattle.cw_tree.proofs.ChainLaws.LiveAccesses.{live_there}
use Rattle.cw_tree.proofs.Walks.There.{node_there}
use Rattle.cw_tree.proofs.Walks.Ancestors.{ancestor_above, above_parent}
use Rattle.cw_tree.proofs.NextNodes.Before.{above_less}
use Rattle.cw_audit.specs.Backs.{list_in, list_at, list_told}
use Rattle.cw_audit.specs.LiveAccesses.{cell_accessed}
use Rattle.cw_audit.specs.Naming.{Names, NamesIn, IsNamedNear, WriteIsNamed, AreLiveCancels, AreAround, BlockFits, ListFits, one_for, is_live_cancel, list_put_back}
use Rattle.cw_audit.proofs.Backs.{cancel_from}
use Rattle.cw_audit.proofs.ByEntries.{by_entries}
use Rattle.cw_audit.proofs.Making.{touches_is, touches_none}

pub cell_of : (t : List Node) (n c : ℕ) → touches t c n ≡ true → cell_accessed t n ≡ Some c
cell_of t n c e = by (cell_accessed t n) refl where
  by : (o : Option ℕ) → cell_accessed t n ≡ o → o ≡ Some c
  by None is = absurd (cc (sym e ∙ touches_none t n c is))
  by (Some d) is = ap Some (eqb-true d c (sym (touches_is t n c d is) ∙ e))

-- the list of the cancel in block b
pub list_fits : (t : List Node) (first : List ℤ) (cancels around : List (Option ℕ)) (b m stamp : ℕ) (back : List Back) → one_for cancels b ≡ Some m → list_told t m ≡ Some back → stamp_of t m ≡ stamp
    → ListFits t first cancels around b stamp back → BlockFits t first cancels around b
list_fits t first cancels around b m stamp back own told time w =
    let P : Option ℕ → Type 0 = λ o. IfSome o (λ x. ListFits t first cancels around b (stamp_of t x) (list_put_back t x)) in
    let Q : ℕ → Type 0 = λ s. ListFits t first cancels around b s (list_put_back t m) in
    let R : List Back → Type 0 = λ xs. ListFits t first cancels around b stamp xs in
    let list : list_put_back t m ≡ back = ap (λ o. unwrap_or o []) told in
    subst P (sym own) (subst Q (sym time) (subst R (sym list) w))

module _ (t : List Node) (first : List ℤ) (rooted : IsRooted t) (cancels around : List (Option ℕ)) (live : AreLiveCancels t cancels) (near : AreAround t cancels around)
    (fits : (b : ℕ) → b < length t → BlockFits t first cancels around b)
  where
    -- m is the live cancel of a block above node n
    record IsOver (m n : ℕ) : Type 0 where
      pub cancel : is_live_cancel t m ≡ true
      pub over : is_above t (parent_of t m) n ≡ true

    -- it is that of the parent of node n, or of a block above that
    up : (m n : ℕ) → n < length t → IsOver m n → (0 < n) × ((parent_of t m ≡ parent_of t n) ⊎ IsOver m (parent_of t n))
    up m n there w =
        let less = above_less t rooted (parent_of t m) n there w.over in
        let some : 0 < n = omega arith in
        let inside : is_ancestor t (parent_of t m) (parent_of t n) ≡ true = sym (above_parent t rooted (parent_of t m) n some there) ∙ w.over in (
          some,
          elim (cases_eq (parent_of t m) (parent_of t n)) [
            | inl e ↦ inl e
            | inr ne ↦ inr (record { cancel = w.cancel; over = sym (ancestor_above t (parent_of t m) (parent_of t n) (λ e. ne (sym e))) ∙ inside })
          ],
        )

    -- of a node whose parent was not given up, what is around is what is around its parent
    past : (n : ℕ) → 0 < n → n < length t → one_for cancels (parent_of t n) ≡ None → one_for around n ≡ one_for around (parent_of t n)
    past n some there e = near.each n some there ∙ ap (λ o. cond (is_some o) (Some (parent_of t n)) (one_for around (parent_of t n))) e

    given_up : (n k : ℕ) → 0 < n → n < length t → one_for cancels (parent_of t n) ≡ Some k → one_for around n ≡ Some (parent_of t n)
    given_up n k some there e = near.each n some there ∙ ap (λ o. cond (is_some o) (Some (parent_of t n)) (one_for around (parent_of t n))) e

    -- the cancel of a block is the one that the list has for it
    only : (m b : ℕ) → is_live_cancel t m ≡ true → parent_of t m ≡ b → one_for cancels b ≡ Some m
    only m b e same = ap (one_for cancels) (sym same) ∙ (live.each m e).1

    named_up : (k n c : ℕ) → n < k → n < length t → NamesIn t cancels (one_for around n) c → (m : ℕ) → IsOver m n → Names (list_put_back t m) c
    named_up zero n c l there h m w = absurd (omega arith)
    named_up (suc k) n c l there h m w = by (one_for cancels q) refl step.1 (λ g v. let less = low in named_up k q c (omega arith) (omega arith) g m v) where
      q : ℕ
      q = parent_of t n

      step : (0 < n) × ((parent_of t m ≡ q) ⊎ IsOver m q)
      step = up m n there w

      low : q < n
      low = rooted n step.0 there

      by : (o : Option ℕ) → one_for cancels q ≡ o → (parent_of t m ≡ q) ⊎ IsOver m q → (NamesIn t cancels (one_for around q) c → IsOver m q → Names (list_put_back t m) c) → Names (list_put_back t m) c
      by None e (inl same) above = absurd (cc (e, only m q w.cancel same))
      by None e (inr v) above = let P : Option ℕ → Type 0 = λ o. NamesIn t cancels o c in above (subst P (past n step.0 there e) h) v
      by (Some j) e z above =
          let P : Option ℕ → Type 0 = λ o. NamesIn t cancels o c in
          let Q : Option ℕ → Type 0 = λ o. IfSome o (λ x. Names (list_put_back t x) c) in
          let R : Option ℕ → Type 0 = λ o. IfSome o (λ x. ListFits t first cancels around q (stamp_of t x) (list_put_back t x)) in
          let N : ℕ → Type 0 = λ x. Names (list_put_back t x) c in
          let S : ℕ → Type 0 = λ x. NamesIn t cancels (one_for around q) x in
          let less = low in
          let own : Names (list_put_back t j) c = subst Q e (subst P (given_up n j step.0 there e) h) in
          let list : ListFits t first cancels around q (stamp_of t j) (list_put_back t j) = subst R e (fits q (omega arith)) in
          elim z [
            | inl same ↦ subst N (same_Some j m (sym e ∙ only m q w.cancel same)) own
            | inr v ↦ above (subst S own.3 (list.named own.0 own.1 own.2)) v
          ]

    -- beyond the nearest block above node n that was given up, there are only those above it
    beyond : (k n b : ℕ) → n < k → n < length t → one_for around n ≡ Some b → (m : ℕ) → IsOver m n → (parent_of t m ≡ b) ⊎ IsOver m b
    beyond zero n b l there h m w = absurd (omega arith)
    beyond (suc k) n b l there h m w = by (one_for cancels q) refl step.1 (λ g v. let less = low in beyond k q b (omega arith) (omega arith) g m v) where
      q : ℕ
      q = parent_of t n

      step : (0 < n) × ((parent_of t m ≡ q) ⊎ IsOver m q)
      step = up m n there w

      low : q < n
      low = rooted n step.0 there

      by : (o : Option ℕ) → one_for cancels q ≡ o → (parent_of t m ≡ q) ⊎ IsOver m q → (one_for around q ≡ Some b → IsOver m q → (parent_of t m ≡ b) ⊎ IsOver m b) → (parent_of t m ≡ b) ⊎ IsOver m b
      by None e (inl same) above = absurd (cc (e, only m q w.cancel same))
      by None e (inr v) above = above (sym (past n step.0 there e) ∙ h) v
      by (Some j) e z above = let P : ℕ → Type 0 = λ x. (parent_of t m ≡ x) ⊎ IsOver m x in subst P (same_Some q b (sym (given_up n j step.0 there e) ∙ h)) z

    -- a write is named by each cancel of a block above it that came later
    write_named : (n c m : ℕ) → n < length t → IsNamedNear t cancels around n c → IsOver m n → stamp_of t n < stamp_of t m → Names (list_put_back t m) c
    write_named n c m there (inl h) w later = named_up (suc n) n c (omega arith) there h m w
    write_named n c m there (inr back) w later =
        elim (beyond (suc n) n back.block (omega arith) there back.is_block m w) [
          | inl same ↦
              (let is : back.cancel ≡ m = same_Some back.cancel m (sym back.is_cancel ∙ only m back.block w.cancel same) in
              let earlier : stamp_of t back.cancel < stamp_of t n = back.later in
              let stamps : stamp_of t back.cancel ≡ stamp_of t m = ap (stamp_of t) is in
              absurd (omega arith))
          | inr v ↦ named_up (suc back.block) back.block c (omega arith) (near.there n back.block back.is_block) back.named m v
        ]

    module _ (writes : (n : ℕ) → n < length t → WriteIsNamed t cancels around n) where
      list_is : (m : ℕ) → is_live_cancel t m ≡ true → list_put_back t m ≡ put_back t first (live_accesses t) (parent_of t m) (stamp_of t m)
      list_is m e = by_entries t first b (stamp_of t m) (list_put_back t m) list.rises list.right named where
        b : ℕ
        b = parent_of t m

        list : ListFits t first cancels around b (stamp_of t m) (list_put_back t m)
        list =
            let R : Option ℕ → Type 0 = λ o. IfSome o (λ x. ListFits t first cancels around b (stamp_of t x) (list_put_back t x)) in
            subst R (live.each m e).1 (fits b (node_there (λ y. is_block_kind y.kind) t b (live.each m e).0))

        named : (c : ℕ) → c < length first → wrote_in t b (stamp_of t m) (live_accesses t c) ≡ true → Names (list_put_back t m) c
        named c l some =
            let z = wrote_tells t b (stamp_of t m) (live_accesses t c) some in
            let n = z.0 in
            let y = live_is t c n z.1.member in
            let there = live_there t c n z.1.member in
            write_named n c m there (writes n there c y.1 z.1.wrote (cell_of t n c y.0)) (record { cancel = e; over = z.1.over }) z.1.earlier

      pub are_cancels : AreCancels t first
      are_cancels n x back e k lives =
          let told : list_told t n ≡ Some back = ap list_at e ∙ ap list_in k in
          let cancel : is_live_cancel t n ≡ true = and_from (is_live t n) (is_some (list_told t n)) lives (ap is_some told) in
          let list : list_put_back t n ≡ back = ap (λ o. unwrap_or o []) told in
          cancel_from t first n back told (live.each n cancel).0 (sym list ∙ list_is n cancel) x back e k
