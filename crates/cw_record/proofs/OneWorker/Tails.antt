-- Where a tree changes at one level, and this is on the way to the place, the items are those that were, and some at the end.
use Rattle.std.proofs.Common.{◌≡◌, ℕ, zero, suc, ◌+◌, ◌<◌, ◌≤◌, List, ◌∷◌, ◌++◌, length, refl, ap, sym, ◌∙◌, arith, true, false, Option, Some, None, subst, append_assoc}
use Rattle.std.specs.List.{flat_map}
use Rattle.std.proofs.lemmas.Bool.{false_from_ne_true}
use Rattle.cw_tree.specs.declared.node.Node.{Node}
use Rattle.cw_tree.specs.Nodes.{is_block, is_pending}
use Rattle.cw_tree.specs.Walks.{is_ancestor, xparent}
use Rattle.cw_tree.proofs.Walks.Ancestors.{ancestor_le, ancestor_trans}
use Rattle.cw_tree.proofs.NodeKinds.{block_some}
use Rattle.cw_record.specs.declared.items.OrderItem.{OrderItem}
use Rattle.cw_record.specs.declared.items.OrderItem.TheVariants.{Begins}
use Rattle.cw_record.specs.Items.{open_member, as_items, last_open, items_in}
use Rattle.cw_record.proofs.Members.{pending_no_member}
use Rattle.cw_record.proofs.Orders.Homes.{number, xparent_is, open_aside, open_here}
use Rattle.cw_record.proofs.OneWorker.Moves.{IsGrowing, root_no_block}
use Rattle.cw_record.proofs.Orders.Alike.{sorted, IsMember, AreAlike, members_alike, items_alike, levels_more}

-- tree u with place q has the members and open members of tree t with place p but at level h
pub record SameBut (t : List Node) (p : ℕ) (u : List Node) (q : ℕ) (h : Option ℕ) : Type 0 where
  pub blocks : (n : ℕ) → n < length t → is_block u n ≡ is_block t n
  pub members : (b : Option ℕ) → (b ≡ h → ⊥) → sorted u b ≡ sorted t b
  pub opens : (b : Option ℕ) → (b ≡ h → ⊥) → open_member u q b ≡ open_member t p b

module _ (t : List Node) (p c : ℕ) (g : IsGrowing t p c) (u : List Node) (q : ℕ) (h : Option ℕ) (s : SameBut t p u q h)
    (way : (m : ℕ) → h ≡ Some m → (is_block t m ≡ true) × (is_ancestor t m p ≡ true)) where
  -- a block that is a member is not on the way
  member_aside : (b : Option ℕ) (n : ℕ) → IsMember t b n → is_block t n ≡ true → is_ancestor t n p ≡ false
  member_aside b n m e =
      false_from_ne_true (is_ancestor t n p) (λ over.
      let none = pending_no_member t n (g.pending n e over) in
      let some = m.kind in
      absurd (cc (none, some)))

  aside : (n : ℕ) → is_ancestor t n p ≡ false → Some n ≡ h → ⊥
  aside n off e = absurd (let on = (way n (sym e)).1 in cc (off, on))

  abbrev shut : Option ℕ → Type 0
  shut b = (b ≡ h → ⊥) × (open_member t p b ≡ None)

  shut_alike : AreAlike t p u q shut
  shut_alike = record {
    members = λ b z. s.members b z.0;
    opens = λ b z. s.opens b z.0;
    blocks = s.blocks;
    inner = λ b z n m e. (let off = member_aside b n m e in (aside n off, open_aside t g.rooted p n g.there off));
    inner_open = λ b z n e. absurd (let none = z.1 in cc);
  }

  -- the items of another level with no open member stay
  pub items_shut : (k : ℕ) (b : Option ℕ) → (b ≡ h → ⊥) → open_member t p b ≡ None → items_in u q k b ≡ items_in t p k b
  items_shut k b ne none = items_alike t p u q shut shut_alike k b (ne, none)

  -- and what members of any level are written as
  pub members_stay : (k : ℕ) (b : Option ℕ)
      → flat_map (λ n. as_items (is_block u n) n (items_in u q k (Some n))) (sorted t b) ≡ flat_map (λ n. as_items (is_block t n) n (items_in t p k (Some n))) (sorted t b)
  members_stay k b =
      members_alike t p u q s.blocks k b (λ n m e.
      let off = member_aside b n m e in
      items_shut k (Some n) (aside n off) (open_aside t g.rooted p n g.there off))

  module _ (tail : List OrderItem) where
    -- at level b the items are those that were, and the tail, where there are levels enough
    abbrev pub Lengthens : Option ℕ → Type 0
    Lengthens b = (k : ℕ) → length t ≤ k + number b → items_in u q k b ≡ items_in t p k b ++ tail

    pub around_less : (m : ℕ) → 0 < m → m < length t → number (xparent t m) < m
    around_less m some low =
        by (xparent t m) refl where
          by : (o : Option ℕ) → xparent t m ≡ o → number (xparent t m) < m
          by None e = omega (arith, ap number e)
          by (Some x) e = let z = (xparent_is t g.rooted x m low e).less in omega (arith, ap number e)

    climb : (m : ℕ) → 0 < m → is_pending t m ≡ true → is_ancestor t m p ≡ true → (xparent t m ≡ h → ⊥) → Lengthens (Some m) → Lengthens (xparent t m)
    climb m some e over ne inner zero enough =
        let there = g.there in
        let le : m ≤ p = ancestor_le t g.rooted m p there over in
        let less = around_less m some (omega arith) in
        absurd (omega arith)
    climb m some e over ne inner (suc k) enough =
        let there = g.there in
        let le : m ≤ p = ancestor_le t g.rooted m p there over in
        let less = around_less m some (omega arith) in
        let b = xparent t m in
        let f : ℕ → List OrderItem = λ n. as_items (is_block u n) n (items_in u q k (Some n)) in
        let before : ℕ → List OrderItem = λ n. as_items (is_block t n) n (items_in t p k (Some n)) in
        let here : open_member t p b ≡ Some m = open_here t g.rooted p m there e over in
        ap (λ ns. flat_map f ns ++ last_open (open_member u q b) (items_in u q k (open_member u q b))) (s.members b ne)
        ∙ ap (λ o. flat_map f (sorted t b) ++ last_open o (items_in u q k o)) (s.opens b ne ∙ here)
        ∙ ap (λ xs. xs ++ Begins m ∷ items_in u q k (Some m)) (members_stay k b)
        ∙ ap (λ xs. flat_map before (sorted t b) ++ Begins m ∷ xs) (inner k (omega arith))
        ∙ sym (append_assoc (flat_map before (sorted t b)) (Begins m ∷ items_in t p k (Some m)) tail)
        ∙ ap (λ o. (flat_map before (sorted t b) ++ last_open o (items_in t p k o)) ++ tail) (sym here)

    to_root : (j m : ℕ) → m ≤ j → 0 < m → is_pending t m ≡ true → is_ancestor t m p ≡ true → (y : ℕ) → h ≡ Some y → m ≤ y → Lengthens (Some m) → Lengthens None
    to_root zero m le some e over y is high inner = absurd (omega arith)
    to_root (suc j) m le some e over y is high inner =
        by (to_root j) (xparent t m) refl where
          there : m < length t
          there = let low : m ≤ p = ancestor_le t g.rooted m p g.there over in let z = g.there in omega arith

          other : xparent t m ≡ h → ⊥
          other f = let z = (xparent_is t g.rooted y m there (f ∙ is)).less in omega arith

          by : ((x : ℕ) → x ≤ j → 0 < x → is_pending t x ≡ true → is_ancestor t x p ≡ true → (y : ℕ) → h ≡ Some y → x ≤ y → Lengthens (Some x) → Lengthens None) → (o : Option ℕ) → xparent t m ≡ o → Lengthens None
          by more None f = let P : Option ℕ → Type 0 = λ b. Lengthens b in subst P f (climb m some e over other inner)
          by more (Some x) f =
              let z = xparent_is t g.rooted x m there f in
              let less = z.less in
              let up : is_ancestor t x p ≡ true = ancestor_trans t g.rooted x m p g.there z.over over in
              let P : Option ℕ → Type 0 = λ b. Lengthens b in
              more x (omega arith) (block_some t g.root x z.block) (g.pending x z.block up) up y is (omega arith) (subst P f (climb m some e over other inner))

    -- so are they at the root
    pub lengthens_root : Lengthens h → Lengthens None
    lengthens_root inner =
        by h refl where
          by : (o : Option ℕ) → h ≡ o → Lengthens None
          by None e = let P : Option ℕ → Type 0 = λ b. Lengthens b in subst P e inner
          by (Some y) e =
              let z = way y e in
              let P : Option ℕ → Type 0 = λ b. Lengthens b in
              to_root y y (omega arith) (block_some t g.root y z.0) (g.pending y z.0 z.1) z.1 y e (omega arith) (subst P e inner)

    -- to as many levels as there are nodes, and to one more
    pub lengthens_all : Lengthens h → items_in u q (length t) None ≡ items_in t p (length t) None ++ tail
    lengthens_all inner = lengthens_root inner (length t) (omega arith)

    pub lengthens_more : Lengthens h → items_in u q (suc (length t)) None ≡ items_in t p (length t) None ++ tail
    lengthens_more inner =
        lengthens_root inner (suc (length t)) (omega arith)
        ∙ ap (λ xs. xs ++ tail) (levels_more t g.rooted (root_no_block t p c g) p g.there (length t) None (let there = g.there in omega arith) (omega arith))
