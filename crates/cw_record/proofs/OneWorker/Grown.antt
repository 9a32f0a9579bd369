-- A tree that one worker builds, before and after a node came or a block was closed: what stands where, and which accesses came.
use Rattle.std.proofs.Common.{◌≡◌, ℕ, ◌<◌, ◌≤◌, List, [], ◌∷◌, length, refl, ap, sym, ◌∙◌, arith, false, Option, Some, None}
use Rattle.std.specs.Prelude.{slice_get, option_map}
use Rattle.cw_tree.specs.declared.node.Node.{Node}
use Rattle.cw_tree.specs.declared.node.Kind.{Kind}
use Rattle.cw_tree.specs.declared.node.BlockState.TheVariants.{Committed}
use Rattle.cw_tree.specs.Nodes.{is_block_kind, is_block, is_aborted, parent_of, fresh_node, closed}
use Rattle.cw_tree.specs.Walks.{IsRooted, is_above}
use Rattle.cw_tree.proofs.ChainLaws.LiveAccesses.{SameAccesses, accesses_grown, accesses_closed}
use Rattle.cw_tree.proofs.NextNodes.Growing.{get_append, length_more, node_grown, number_grown, is_above_grown}
use Rattle.cw_tree.proofs.NextNodes.Closing.{length_closed, node_closed, number_closed, same_closed, is_above_closed}
use Rattle.cw_tree.proofs.NodeKinds.{new_stands}
use Rattle.cw_record.specs.Drawn.{added}

-- node y of a tree is node x of a later one, except for its state and its end
pub record IsNode (y x : Node) : Type 0 where
  pub kind : y.kind ≡ x.kind
  pub parent : y.parent ≡ x.parent
  pub stamp : y.stamp ≡ x.stamp

-- the nodes of tree t stand in tree u where they stood, and nothing was rolled back
pub record IsGrown (t u : List Node) : Type 0 where
  pub same : SameAccesses t u
  pub longer : length t ≤ length u
  pub over : (b n : ℕ) → n < length t → is_above u b n ≡ is_above t b n
  pub parents : (n : ℕ) → n < length t → parent_of u n ≡ parent_of t n
  pub blocks : (n : ℕ) → n < length t → is_block u n ≡ is_block t n
  pub nodes : (n : ℕ) (x : Node) → n < length t → slice_get u n ≡ Some x → (y : Node) × (slice_get t n ≡ Some y) × IsNode y x

pub grown_by : (t : List Node) → IsRooted t → ((n : ℕ) → is_aborted t n ≡ false) → (f : ℕ) (kind : Kind) (st : ℕ) → IsGrown t (added t f kind st)
grown_by t r none f kind st =
    let x = fresh_node f kind st in
    record {
      same = accesses_grown t x none (new_stands kind);
      longer = omega (arith, length_more t x);
      over = λ b n h. is_above_grown t (x ∷ []) r b n h;
      parents = number_grown t (x ∷ []) (λ y. y.parent);
      blocks = node_grown t (x ∷ []) (λ y. is_block_kind y.kind);
      nodes = λ n y h e. (y, sym (get_append t (x ∷ []) n h) ∙ e, record { kind = refl; parent = refl; stamp = refl });
    }

-- a node without its state and its end
abbrev bare : Node → Node
bare x = fresh_node x.parent x.kind x.stamp

pub grown_closed : (t : List Node) → IsRooted t → ((n : ℕ) → is_aborted t n ≡ false) → (p st : ℕ) → IsGrown t (closed t p Committed st)
grown_closed t r none p st =
    let u = closed t p Committed st in
    record {
      same = accesses_closed t p Committed st none refl;
      longer = omega (arith, length_closed t p Committed st);
      over = λ b n h. is_above_closed t p Committed st r b n h;
      parents = λ n h. number_closed t p Committed st (λ y. y.parent) (λ y. refl) n;
      blocks = λ n h. node_closed t p Committed st (λ y. is_block_kind y.kind) (λ y. refl) n;
      nodes = λ n x h e. by n x (slice_get t n) refl (sym (ap (option_map bare) e) ∙ same_closed t p Committed st (option_map bare) (λ y. refl) n);
    } where
      by : (n : ℕ) (x : Node) (o : Option Node) → slice_get t n ≡ o → Some (bare x) ≡ option_map bare o → (y : Node) × (slice_get t n ≡ Some y) × IsNode y x
      by n x None q e = absurd (cc e)
      by n x (Some y) q e = let same : bare x ≡ bare y = cc e in (
        y,
        q,
        record {
          kind = sym (ap (λ z. z.kind) same);
          parent = sym (ap
              (λ z. z.parent) same);
          stamp = sym (ap (λ z. z.stamp) same);
        },
      )

pub grown_twice : (t u v : List Node) → IsGrown t u → IsGrown u v → IsGrown t v
grown_twice t u v g h =
    let longer = g.longer in
    record {
      same = record {
        none = g.same.none;
        none_too = h.same.none_too;
        each = λ n low. (let a = g.same.each n low in let b = h.same.each n (omega arith) in
            record { touched = λ c. b.touched c ∙ a.touched c; stamp = b.stamp ∙ a.stamp; wrote = b.wrote ∙ a.wrote; read = b.read ∙ a.read });
      };
      longer = omega (arith, h.longer);
      over = λ b n low. h.over b n (omega arith) ∙ g.over b n low;
      parents = λ n low. h.parents n (omega arith) ∙ g.parents n low;
      blocks = λ n low. h.blocks n (omega arith) ∙ g.blocks n low;
      nodes = λ n x low e. (
          let (z, at, is) = h.nodes n x (omega arith) e in
          let (y, there, was) = g.nodes n z low at in
          (y, there, record { kind = was.kind ∙ is.kind; parent = was.parent ∙ is.parent; stamp = was.stamp ∙ is.stamp }));
    }
