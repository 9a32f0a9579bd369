-- Where things stand in a log.
use Rattle.std.proofs.Common.{◌≡◌, ℕ, ◌+◌, ◌<◌, List, [], ◌∷◌, ◌++◌, length, refl, ap, sym, ◌∙◌, arith, Option, Some, None, append_assoc, length-append}
use Rattle.std.specs.Prelude.{slice_get}
use Rattle.cw_tree.specs.declared.node.Node.{Node}
use Rattle.cw_tree.specs.declared.node.Kind.TheVariants.{Strand, Fork, Block}
use Rattle.cw_tree.specs.Nodes.{fresh_node}
use Rattle.cw_tree.proofs.NextNodes.Growing.{get_next}
use Rattle.cw_course.specs.Courses.{Course, size}
use Rattle.cw_course.specs.Trails.{Trail, opens, in_block, in_left, in_right, page, place_of, nodes_of, strand_in, strands_with, forked_page}
use Rattle.cw_course.proofs.Trails.Steps.{behind_many}
use Rattle.cw_pool.specs.Blocks.{begin_at}

module _ {A : Type 0} where
  pub many : (t : Trail A) (cs : Course) → length (nodes_of t cs) ≡ length (page t).nodes + size cs
  many t cs = behind_many (page t) cs

  pub many_in_block : (t : Trail A) (cs : Course) (b : A) (stamp : ℕ) → length (page (in_block t cs b stamp)).nodes ≡ length (page t).nodes + size cs + 1
  many_in_block t cs b stamp = omega (arith, length-append (nodes_of t cs) (fresh_node (place_of t) Block stamp ∷ []), many t cs)

  pub many_in_left : (t : Trail A) (cs : Course) (b : A) (column stamp : ℕ) → length (page (in_left t cs b (Some column) stamp)).nodes ≡ length (page t).nodes + size cs + 2
  many_in_left t cs b column stamp = omega (arith, length-append (nodes_of t cs) (fresh_node (place_of t) Fork stamp ∷ strands_with (Some column) (length (nodes_of t cs))), many t cs)

  pub many_inline : (t : Trail A) (cs : Course) (b : A) (stamp : ℕ) → length (page (in_left t cs b None stamp)).nodes ≡ length (page t).nodes + size cs + 3
  many_inline t cs b stamp = omega (arith, length-append (nodes_of t cs) (fresh_node (place_of t) Fork stamp ∷ strands_with None (length (nodes_of t cs))), many t cs)

  -- the strand that runs is in the log
  pub strand_low : (t : Trail A) → strand_in t < length (page t).nodes
  strand_low opens = omega arith
  strand_low (in_block t cs b stamp) = omega (arith, strand_low t, many_in_block t cs b stamp)
  strand_low (in_left t cs b None stamp) = omega (arith, many t cs, many_inline t cs b stamp)
  strand_low (in_left t cs b (Some column) stamp) = omega (arith, many t cs, many_in_left t cs b column stamp)
  strand_low (in_right t cs b stamp ls l) = omega (arith, many t cs, many_inline t cs b stamp, behind_many (forked_page (page t) cs None stamp) ls)

  -- the place of a strand in a block is not the strand
  pub in_some_block : (t : Trail A) (cs : Course) (b : A) (stamp : ℕ) → place_of (in_block t cs b stamp) ≡ strand_in t → ⊥
  in_some_block t cs b stamp e = absurd (omega (arith, e, strand_low t, many t cs))

  -- the begin stamp of the innermost block, where nothing else is open in that
  abbrev pub innermost : Trail A → Option ℕ
  innermost (in_block t cs b stamp) = Some stamp
  innermost t = None

-- an element in the middle
at_next : {A : Type 0} → (xs : List A) (x : A) (ys zs : List A) → slice_get ((xs ++ x ∷ ys) ++ zs) (length xs) ≡ Some x
at_next xs x ys zs = ap (λ us. slice_get us (length xs)) (append_assoc xs (x ∷ ys) zs) ∙ get_next xs x (ys ++ zs)

at_second : {A : Type 0} → (xs : List A) (w x : A) (ys zs : List A) → slice_get ((xs ++ w ∷ x ∷ ys) ++ zs) (length xs + 1) ≡ Some x
at_second xs w x ys zs =
    ap (λ us. slice_get (us ++ zs) (length xs + 1)) (sym (append_assoc xs (w ∷ []) (x ∷ ys)))
    ∙ ap (λ n. slice_get (((xs ++ w ∷ []) ++ x ∷ ys) ++ zs) n) (sym (length-append xs (w ∷ [])))
    ∙ at_next (xs ++ w ∷ []) x ys zs

at_third : {A : Type 0} → (xs : List A) (v w x : A) (ys zs us : List A) → slice_get (((xs ++ v ∷ w ∷ x ∷ ys) ++ zs) ++ us) (length xs + 2) ≡ Some x
at_third xs v w x ys zs us =
    ap (λ ws. slice_get ws (length xs + 2)) (append_assoc (xs ++ v ∷ w ∷ x ∷ ys) zs us)
    ∙ ap (λ ws. slice_get (ws ++ (zs ++ us)) (length xs + 2)) (sym (append_assoc xs (v ∷ w ∷ []) (x ∷ ys)))
    ∙ ap (λ n. slice_get (((xs ++ v ∷ w ∷ []) ++ x ∷ ys) ++ (zs ++ us)) n) (sym (length-append xs (v ∷ w ∷ [])))
    ∙ at_next (xs ++ v ∷ w ∷ []) x ys (zs ++ us)

begin_by : (ns : List Node) (place : ℕ) (x : Node) → slice_get ns place ≡ Some x → begin_at ns place ≡ begin_at (x ∷ []) 0
begin_by ns place x e = rw e refl

-- what stands in the place of a strand tells whether it is in a block of its own
pub begin_found : {A : Type 0} (t : Trail A) (cs : Course) → begin_at (nodes_of t cs) (place_of t) ≡ innermost t
begin_found opens cs = refl
begin_found (in_block t cs b stamp) js =
    begin_by (nodes_of (in_block t cs b stamp) js) (length (nodes_of t cs)) _ (at_next (nodes_of t cs) (fresh_node (place_of t) Block stamp) [] _)
begin_found (in_left t cs b None stamp) js =
    begin_by (nodes_of (in_left t cs b None stamp) js) (length (nodes_of t cs) + 1) _ (at_second (nodes_of t cs) (fresh_node (place_of t) Fork stamp) (fresh_node (length (nodes_of t cs)) Strand 0) _ _)
begin_found (in_left t cs b (Some column) stamp) js =
    begin_by (nodes_of (in_left t cs b (Some column) stamp) js) (length (nodes_of t cs) + 1) _ (at_second (nodes_of t cs) (fresh_node (place_of t) Fork stamp) (fresh_node (length (nodes_of t cs)) Strand 0) _ _)
begin_found (in_right t cs b stamp ls l) js =
    begin_by (nodes_of (in_right t cs b stamp ls l) js) (length (nodes_of t cs) + 2) _
    (at_third (nodes_of t cs) (fresh_node (place_of t) Fork stamp) (fresh_node (length (nodes_of t cs)) Strand 0) (fresh_node (length (nodes_of t cs)) Strand 0) [] _ _)
