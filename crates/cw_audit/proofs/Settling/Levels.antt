-- As many levels as there are nodes are enough: a node's kind tells what is behind it, and whether it fits.
use Rattle.std.proofs.Common.{◌≡◌, ℕ, zero, suc, ◌+◌, ◌<◌, ◌≤◌, List, [], ◌∷◌, length, refl, ap, sym, ◌∙◌, arith, subst, inl, inr, Option, Some, None}
use Rattle.std.specs.Prelude.{slice_get, option_map, option_and_then}
use Rattle.std.proofs.lemmas.Option.{slice_get_past}
use Rattle.cw_strand.specs.declared.want.Want.TheVariants.{End}
use Rattle.cw_strand.specs.declared.want.Given.TheVariants.{Nothing}
use Rattle.cw_strand.specs.Strands.{Strands}
use Rattle.cw_tree.specs.declared.node.Node.{Node}
use Rattle.cw_tree.specs.declared.node.Kind.{Kind}
use Rattle.cw_tree.specs.declared.node.Kind.TheVariants.{Strand, Fork, Block, Read, Write, Out, Tried, Cancel}
use Rattle.cw_tree.specs.declared.node.BlockState.{BlockState}
use Rattle.cw_tree.specs.declared.node.BlockState.TheVariants.{Committed, Pending, Aborted}
use Rattle.cw_tree.specs.Walks.{IsRooted}
use Rattle.cw_tree.specs.Series.{children}
use Rattle.cw_tree.proofs.Lists.{In}
use Rattle.cw_tree.proofs.InOrder.DepthFirst.{child_is}
use Rattle.cw_record.specs.declared.record_end.RecordEnd.{RecordEnd}
use Rattle.cw_audit.specs.Settled.{IsSome, MayLeave, joins, behind_all, behind_both, behind_kind, behind_node, state_behind, AllFit, BothFit, FitsInside, FitsNode, CanDo}

module _ {A : Type 0} (s : Strands A) (t : List Node) where
  -- ## Behind nodes that two functions agree on

  abbrev Agree : (f g : ℕ → A → Option A) → List ℕ → Type 0
  Agree f g cs = (c : ℕ) → In c cs → (a : A) → f c a ≡ g c a

  then_same : (f g : A → Option A) → ((a : A) → f a ≡ g a) → (o : Option A) → option_and_then f o ≡ option_and_then g o
  then_same f g h None = refl
  then_same f g h (Some a) = h a

  all_same : (f g : ℕ → A → Option A) (cs : List ℕ) → Agree f g cs → (a : A) → behind_all s t f cs a ≡ behind_all s t g cs a
  all_same f g [] h a = refl
  all_same f g (c ∷ cs) h a = ap (option_and_then (behind_all s t f cs)) (h c (inl refl) a) ∙ then_same (behind_all s t f cs) (behind_all s t g cs) (all_same f g cs (λ d i. h d (inr i))) (g c a)

  both_same : (f g : ℕ → A → Option A) (cs : List ℕ) → Agree f g cs → (a : A) → behind_both s t f cs a ≡ behind_both s t g cs a
  both_same f g [] h a = refl
  both_same f g (l ∷ []) h a = refl
  both_same f g (l ∷ r ∷ []) h a = ap (λ o. joins s t o (f l (s.left a))) (h r (inr (inl refl)) (s.right a)) ∙ ap (joins s t (g r (s.right a))) (h l (inl refl) (s.left a))
  both_same f g (l ∷ r ∷ x ∷ cs) h a = refl

  kind_same : (f g : ℕ → A → Option A) (n : ℕ) → Agree f g (children t n) → (k : Kind) (state : BlockState) (a : A) → behind_kind s t f n k state a ≡ behind_kind s t g n k state a
  kind_same f g n h Strand state a = all_same f g (children t n) h a
  kind_same f g n h Fork state a = both_same f g (children t n) h a
  kind_same f g n h Block Committed a = ap (option_map (λ b. s.answer b Nothing)) (all_same f g (children t n) h (s.answer a Nothing))
  kind_same f g n h Block Pending a = refl
  kind_same f g n h Block Aborted a = refl
  kind_same f g n h (Read c v) state a = refl
  kind_same f g n h (Write c v) state a = refl
  kind_same f g n h (Out v) state a = refl
  kind_same f g n h (Tried c) state a = refl
  kind_same f g n h (Cancel back) state a = refl

  node_same : (f g : ℕ → A → Option A) (n : ℕ) → Agree f g (children t n) → (o : Option Node) (a : A) → behind_node s t f n o a ≡ behind_node s t g n o a
  node_same f g n h None a = refl
  node_same f g n h (Some x) a = kind_same f g n h x.kind x.state a

  module _ (rooted : IsRooted t) where
    after : (n c : ℕ) → In c (children t n) → n < c
    after n c i =
        let x = child_is t n c i in
        let low = rooted c x.some x.there in
        let same = x.parent in
        omega arith

    none_there : (n : ℕ) → length t ≤ n → slice_get t n ≡ None
    none_there n h = slice_get_past t n h

    behind_enough : (k j n : ℕ) → length t ≤ n + k → length t ≤ n + j → (a : A) → state_behind s t k n a ≡ state_behind s t j n a
    behind_enough zero zero n h g a = refl
    behind_enough zero (suc j) n h g a = sym (ap (λ o. behind_node s t (state_behind s t j) n o a) (none_there n (omega arith)))
    behind_enough (suc k) zero n h g a = ap (λ o. behind_node s t (state_behind s t k) n o a) (none_there n (omega arith))
    behind_enough (suc k) (suc j) n h g a =
        node_same (state_behind s t k) (state_behind s t j) n (λ c i b. let low : n < c = after n c i in behind_enough k j c (omega arith) (omega arith) b) (slice_get t n) a

    -- a node's kind tells what is behind it
    pub behind_is : (n : ℕ) (a : A) → state_behind s t (length t) n a ≡ behind_node s t (state_behind s t (length t)) n (slice_get t n) a
    behind_is n a = behind_enough (length t) (suc (length t)) n (omega arith) (omega arith) a

  -- ## What fits

  module _ (e : RecordEnd) where
    abbrev Passes : (F G : ℕ → A → Type 0) → List ℕ → Type 0
    Passes F G cs = (c : ℕ) → In c cs → (a : A) → F c a → G c a

    all_fit : (f g : ℕ → A → Option A) (F G : ℕ → A → Type 0) (cs : List ℕ) → Agree f g cs → Passes F G cs → (o : Option A) → AllFit s t e f F cs o → AllFit s t e g G cs o
    all_fit f g F G [] h p o x = tt
    all_fit f g F G (c ∷ cs) h p None x = x
    all_fit f g F G (c ∷ cs) h p (Some a) x =
        let P : Option A → Type 0 = λ o. AllFit s t e g G cs o in
        (p c (inl refl) a x.0, subst P (h c (inl refl) a) (all_fit f g F G cs (λ d i. h d (inr i)) (λ d i. p d (inr i)) (f c a) x.1))

    both_fit : (F G : ℕ → A → Type 0) (cs : List ℕ) → Passes F G cs → (a : A) → BothFit s t e F cs a → BothFit s t e G cs a
    both_fit F G [] p a x = x
    both_fit F G (l ∷ []) p a x = x
    both_fit F G (l ∷ r ∷ []) p a x = (p l (inl refl) (s.left a) x.0, p r (inr (inl refl)) (s.right a) x.1)
    both_fit F G (l ∷ r ∷ y ∷ cs) p a x = x

    module _ (f g : ℕ → A → Option A) (F G : ℕ → A → Type 0) (n : ℕ) (h : Agree f g (children t n)) (p : Passes F G (children t n)) where
      left_same : (Is : Option A → Type 0) (a : A) → Is (behind_all s t f (children t n) a) → Is (behind_all s t g (children t n) a)
      left_same Is a = subst Is (all_same f g (children t n) h a)

      inside_fit : (k : Kind) (state : BlockState) (a : A) → FitsInside s t e f F n k state a → FitsInside s t e g G n k state a
      inside_fit Strand state a x = (all_fit f g F G (children t n) h p (Some a) x.0, left_same (MayLeave s t e n) a x.1)
      inside_fit Fork state a x = both_fit F G (children t n) p a x
      inside_fit Block Committed a x =
          let b = s.answer a Nothing in (all_fit f g F G (children t n) h p (Some b) x.0, left_same (IsSome (λ c. s.want c ≡ End)) b x.1)
      inside_fit Block Pending a x = let b = s.answer a Nothing in (all_fit f g F G (children t n) h p (Some b) x.0, left_same (MayLeave s t e n) b x.1)
      inside_fit Block Aborted a x = let b = s.answer a Nothing in (all_fit f g F G (children t n) h p (Some b) x.0, left_same (MayLeave s t e n) b x.1)
      inside_fit (Read c v) state a x = tt
      inside_fit (Write c v) state a x = tt
      inside_fit (Out v) state a x = tt
      inside_fit (Tried c) state a x = tt
      inside_fit (Cancel back) state a x = tt

      node_fit : (o : Option Node) (a : A) → FitsNode s t e f F n o a → FitsNode s t e g G n o a
      node_fit None a x = x
      node_fit (Some y) a x = (x.0, inside_fit y.kind y.state a x.1)

    module _ (rooted : IsRooted t) where
      fits_enough : (k j n : ℕ) → length t ≤ n + k → length t ≤ n + j → (a : A) → CanDo s t e k n a → CanDo s t e j n a
      fits_enough zero j n h g a x = absurd x
      fits_enough (suc k) zero n h g a x = (let P : Option Node → Type 0 = λ o. FitsNode s t e (state_behind s t k) (CanDo s t e k) n o a in absurd (subst P (slice_get_past t n (omega arith)) x))
      fits_enough (suc k) (suc j) n h g a x =
          node_fit (state_behind s t k) (state_behind s t j) (CanDo s t e k) (CanDo s t e j) n
          (λ c i b. let low : n < c = after rooted n c i in behind_enough rooted k j c (omega arith) (omega arith) b)
          (λ c i b y. let low : n < c = after rooted n c i in fits_enough k j c (omega arith) (omega arith) b y)
          (slice_get t n) a x

      -- a node's kind tells whether it fits
      pub fits_to : (n : ℕ) (a : A) → CanDo s t e (length t) n a → FitsNode s t e (state_behind s t (length t)) (CanDo s t e (length t)) n (slice_get t n) a
      fits_to n a = fits_enough (length t) (suc (length t)) n (omega arith) (omega arith) a

      pub fits_from : (n : ℕ) (a : A) → FitsNode s t e (state_behind s t (length t)) (CanDo s t e (length t)) n (slice_get t n) a → CanDo s t e (length t) n a
      fits_from n a = fits_enough (suc (length t)) (length t) n (omega arith) (omega arith) a
