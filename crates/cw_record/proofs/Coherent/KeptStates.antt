-- The states of a tree that grows: what stays where a node came behind all that is right in one node, or one state was reached anew.
use Rattle.std.proofs.Common.{◌≡◌, ◌≢◌, ℕ, ◌<◌, ◌≤◌, List, length, refl, ap, sym, ◌∙◌, subst, arith, Bool, true, false, cond, inl, inr, Option, Some, None, nat_lt, nat_eq}
use Rattle.std.specs.Prelude.{◌&&◌, slice_get}
use Rattle.std.proofs.lemmas.Bool.{and_parts, cases_eq, cases_lt, eqb-true, false_from_ne_true}
use Rattle.std.proofs.lemmas.Option.{slice_get_within}
use Rattle.cw_strand.specs.declared.want.Given.TheVariants.{Nothing}
use Rattle.cw_strand.specs.Strands.{Strands}
use Rattle.cw_tree.specs.declared.node.Node.{Node}
use Rattle.cw_tree.specs.declared.node.Kind.{Kind}
use Rattle.cw_tree.specs.declared.node.Kind.TheVariants.{Strand, Fork, Block, Read, Write, Out, Tried, Cancel}
use Rattle.cw_tree.specs.declared.node.BlockState.{BlockState}
use Rattle.cw_tree.specs.declared.node.BlockState.TheVariants.{Pending, Committed, Aborted}
use Rattle.cw_tree.specs.Nodes.{parent_of, passes, last_below, is_fork, is_block, is_block_kind, is_committed, is_committed_state}
use Rattle.cw_tree.specs.Walks.{IsRooted}
use Rattle.cw_tree.specs.Links.{is_child, last_child, child_before}
use Rattle.cw_tree.proofs.Walks.Children.{last_passes}
use Rattle.cw_tree.proofs.LastBelow.{last_same, last_past}
use Rattle.cw_record.proofs.Coherent.States.{States, enters, behind, reached, side, begins_in, begins, DoesAs, Does, AreStates}

-- ## What a node does, of the same states

module _ {A : Type 0} (s : Strands A) where
  -- what was reached in a node is looked at only where it is a committed block
  pub does_any : (a b c d : A) (kind : Kind) (state : BlockState) → (is_block_kind kind && is_committed_state state) ≡ false → DoesAs s a b c kind state → DoesAs s a b d kind state
  does_any a b c d Strand state e h = h
  does_any a b c d Fork state e h = h
  does_any a b c d Block Pending e h = h
  does_any a b c d Block Aborted e h = h
  does_any a b c d Block Committed e h = absurd (cc e)
  does_any a b c d (Read n v) state e h = h
  does_any a b c d (Write n v) state e h = h
  does_any a b c d (Out v) state e h = h
  does_any a b c d (Cancel back) state e h = h
  does_any a b c d (Tried n) state e h = h

  pub does_same : (a b c d e f : A) (kind : Kind) (state : BlockState) → d ≡ a → e ≡ b → f ≡ c → DoesAs s a b c kind state → DoesAs s d e f kind state
  does_same a b c d e f kind state p q r h =
      let P : A → Type 0 = λ x. DoesAs s x b c kind state in
      let Q : A → Type 0 = λ x. DoesAs s d x c kind state in
      let R : A → Type 0 = λ x. DoesAs s d e x kind state in
      subst R (sym r) (subst Q (sym q) (subst P (sym p) h))

-- ## Where node o was reached anew, and what is right in it changed

module _ {A : Type 0} (s : Strands A) (t u : List Node) (x y : States A) (e o : ℕ) where
  -- nothing came right in node n, and its last child is not e
  pub record Untouched (n : ℕ) : Type 0 where
    pub there : n < length t
    pub none : (m : ℕ) → length t ≤ m → m < length u → parent_of u m ≡ n → ⊥
    pub other : last_child t n ≡ Some e → ⊥

  -- Tree u has the nodes of tree t. States y are states x, except the state after node e, which is the last of its place. New nodes and e
  -- are right in node o.
  pub record Keeps : Type 0 where
    pub rooted : IsRooted t
    pub some : 0 < length t
    pub longer : length t ≤ length u
    pub parents : (n : ℕ) → n < length t → parent_of u n ≡ parent_of t n
    pub blocks : (n : ℕ) → n < length t → is_block u n ≡ is_block t n
    pub forks : (n : ℕ) → n < length t → is_fork u n ≡ is_fork t n
    pub before : (n : ℕ) → n < length t → y.before n ≡ x.before n
    pub after : (n : ℕ) → n < length t → n ≢ e → y.after n ≡ x.after n
    pub last : (d : ℕ) → 0 < d → d < length t → child_before t d ≡ Some e → ⊥
    pub touched : (n : ℕ) → n < length t → n ≢ o → Untouched n

  module _ (k : Keeps) where
    child_same : (n m : ℕ) → m < length t → is_child u n m ≡ is_child t n m
    child_same n m h = ap (λ p. nat_lt 0 m && nat_eq p n) (k.parents m h)

    pub below_same : (n j : ℕ) → j ≤ length t → last_below (is_child u n) j ≡ last_below (is_child t n) j
    below_same n j le = last_same (is_child u n) (is_child t n) j (λ m h. child_same n m (omega arith))

    pub before_same : (d : ℕ) → d < length t → child_before u d ≡ child_before t d
    before_same d h = ap (λ n. last_below (is_child u n) d) (k.parents d h) ∙ below_same (parent_of t d) d (omega arith)

    last_child_same : (n : ℕ) → Untouched n → last_child u n ≡ last_child t n
    last_child_same n w =
        last_past (is_child u n) (length t) (length u) k.longer (λ m le h.
        false_from_ne_true (is_child u n m) (λ q. w.none m le h (eqb-true (parent_of u m) n (and_parts (nat_lt 0 m) (nat_eq (parent_of u m) n) q).1)))
        ∙ below_same n (length t) (omega arith)

    enters_same : (n : ℕ) → n < length t → enters s u y n ≡ enters s t x n
    enters_same n h = ap (λ b. cond b (s.answer (y.before n) Nothing) (y.before n)) (k.blocks n h) ∙ ap (λ a. cond (is_block t n) (s.answer a Nothing) a) (k.before n h)

    pub behind_same : (n : ℕ) (c : Option ℕ) → n < length t → ((m : ℕ) → c ≡ Some m → (m < length t) × (m ≢ e)) → behind s u y n c ≡ behind s t x n c
    behind_same n None h low = enters_same n h
    behind_same n (Some c) h low = (let z = low c refl in k.after c z.0 z.1)

    pub reached_same : (n : ℕ) → Untouched n → reached s u y n ≡ reached s t x n
    reached_same n w =
        ap (behind s u y n) (last_child_same n w)
        ∙ behind_same n (last_child t n) w.there (λ m q. ((last_passes (is_child t n) (length t) m q).0, (λ same. w.other (q ∙ ap Some same))))

    side_same : (n : ℕ) (c : Option ℕ) → n < length t → side s u y n c ≡ side s t x n c
    side_same n None h = ap s.left (k.before n h)
    side_same n (Some c) h = ap s.right (k.before n h)

    in_same : (b : Bool) (n : ℕ) (c : Option ℕ) → n < length t → ((m : ℕ) → c ≡ Some m → (m < length t) × (m ≢ e)) → begins_in s u y b n c ≡ begins_in s t x b n c
    in_same true n c h low = side_same n c h
    in_same false n c h low = behind_same n c h low

    begins_same : (d : ℕ) → 0 < d → d < length t → begins s u y d ≡ begins s t x d
    begins_same d some h =
        let up = parent_of t d in
        let low : parent_of t d < d = k.rooted d some h in
        ap (λ n. begins_in s u y (is_fork u n) n (child_before u d)) (k.parents d h)
        ∙ ap (λ b. begins_in s u y b up (child_before u d)) (k.forks up (omega arith))
        ∙ ap (begins_in s u y (is_fork t up) up) (before_same d h)
        ∙ in_same (is_fork t up) up (child_before t d) (omega arith) (λ m q. (
          (let l = (last_passes (is_child t up) d m q).0 in omega arith),
          (λ same. k.last d some h (q ∙ ap Some same)),
        ))

    module _ (h : AreStates s t x) where
      pub states_kept : ((d : ℕ) → length t ≤ d → d < length u → y.before d ≡ begins s u y d) → ((n : ℕ) (z : Node) → slice_get u n ≡ Some z → Does s u y n z.kind z.state) → AreStates s u y
      states_kept new does = record {
        start = k.before 0 k.some ∙ h.start;
        begun = λ d some low. elim (cases_lt d (length t)) [ inl l ↦ k.before d l ∙ (h.begun d some l ∙ sym (begins_same d some l)) | inr le ↦ new d le low ];
        does = does;
      }

      -- a node that was there, and is not e, does what it did
      pub does_kept : is_committed t o ≡ false → (n : ℕ) (z : Node) → slice_get t n ≡ Some z → n ≢ e → Does s u y n z.kind z.state
      does_kept shut n z is ne =
          let l = slice_get_within t n z is in
          elim (cases_eq n o) [
            | inl q ↦ (
                let P : ℕ → Type 0 = λ m. is_committed t m ≡ false in
                let none = subst P (sym q) shut in
                let kind : (is_block_kind z.kind && is_committed_state z.state) ≡ false = sym (ap (passes (λ w. is_block_kind w.kind && is_committed_state w.state)) is) ∙ none in
                does_any s (y.before n) (y.after n) (reached s t x n) (reached s u y n) z.kind z.state kind
                (does_same s (x.before n) (x.after n) (reached s t x n) (y.before n) (y.after n) (reached s t x n) z.kind z.state (k.before n l) (k.after n l ne) refl (h.does n z is)))
            | inr off ↦
                does_same s (x.before n) (x.after n) (reached s t x n) (y.before n) (y.after n) (reached s u y n) z.kind z.state (k.before n l) (k.after n l ne) (reached_same n (k.touched n l off)) (h.does n z is)
          ]
