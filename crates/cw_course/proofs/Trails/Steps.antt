-- What each call of a board makes of a log is what it makes of the course that is written there. For whoever runs strands.
use Rattle.std.proofs.Common.{◌≡◌, ℕ, ◌+◌, List, [], ◌∷◌, ◌++◌, length, refl, ap, sym, ◌∙◌, arith, Option, Some, None, append_assoc, append-nil, length-append}
use Rattle.std.specs.Prelude.{slice_get, slice_set}
use Rattle.cw_tree.specs.declared.node.Node.{Node}
use Rattle.cw_tree.specs.declared.node.Kind.{Kind}
use Rattle.cw_tree.specs.declared.node.Kind.TheVariants.{Strand, Fork, Block}
use Rattle.cw_tree.specs.declared.node.BlockState.{BlockState}
use Rattle.cw_tree.specs.Nodes.{fresh_node, closed, parent_of, number_in}
use Rattle.cw_tree.proofs.NextNodes.Growing.{get_next}
use Rattle.cw_course.specs.Courses.{Course, nothing, act, block, fork, size, laid}
use Rattle.cw_course.specs.Trails.{Trail, Page, in_block, in_left, in_right, behind, page, place_of, nodes_of, strands_with}
use Rattle.cw_course.proofs.Closings.Laying.{laid_many}
use Rattle.cw_course.proofs.Closings.Together.{same_laid}

set_next : {A : Type 0} → (xs ys : List A) (y z : A) → slice_set (xs ++ y ∷ ys) (length xs) z ≡ xs ++ z ∷ ys
set_next [] ys y z = refl
set_next (x ∷ xs) ys y z = ap (λ us. x ∷ us) (set_next xs ys y z)

pub closed_at : (t : List Node) (b : ℕ) (state : BlockState) (end : ℕ) (x : Node) → slice_get t b ≡ Some x → closed t b state end ≡ slice_set t b (record x { state = state; end = end })
closed_at t b state end x e = rw e refl

-- how many nodes are behind a course
pub behind_many : (p : Page) (cs : Course) → length (behind p cs) ≡ length p.nodes + size cs
behind_many p cs = length-append p.nodes (laid cs (length p.nodes) p.place) ∙ omega (arith, laid_many cs (length p.nodes) p.place)

module _ {A : Type 0} where
  -- ## A node more

  pub acted : (t : Trail A) (cs : Course) (kind : Kind) (stamp : ℕ) → nodes_of t (act cs kind stamp) ≡ nodes_of t cs ++ fresh_node (place_of t) kind stamp ∷ []
  acted t cs kind stamp = sym (append_assoc (page t).nodes (laid cs (length (page t).nodes) (place_of t)) (fresh_node (place_of t) kind stamp ∷ []))

  -- ## Blocks

  pub began : (t : Trail A) (cs : Course) (b : A) (stamp : ℕ) → nodes_of (in_block t cs b stamp) nothing ≡ nodes_of t cs ++ fresh_node (place_of t) Block stamp ∷ []
  began t cs b stamp = append-nil (nodes_of t cs ++ fresh_node (place_of t) Block stamp ∷ [])

  -- what is in a block stands behind it
  in_it : (t : Trail A) (cs js : Course) (b : A) (stamp : ℕ)
      → nodes_of (in_block t cs b stamp) js ≡ nodes_of t cs ++ fresh_node (place_of t) Block stamp ∷ laid js (length (nodes_of t cs) + 1) (length (nodes_of t cs))
  in_it t cs js b stamp =
      let xs = nodes_of t cs in
      let x = fresh_node (place_of t) Block stamp in
      append_assoc xs (x ∷ []) (laid js (length (xs ++ x ∷ [])) (length xs))
      ∙ ap (λ (n : ℕ). xs ++ x ∷ laid js n (length xs)) (length-append xs (x ∷ []))

  -- it is closed in the middle of the log
  pub shut : (t : Trail A) (cs js : Course) (b : A) (stamp : ℕ) (state : BlockState) (end : ℕ)
      → closed (nodes_of (in_block t cs b stamp) js) (place_of (in_block t cs b stamp)) state end ≡ nodes_of t (block cs state stamp end js)
  shut t cs js b stamp state end =
      let xs = nodes_of t cs in
      let ws = (page t).nodes in
      let n = length ws + size cs in
      let x = fresh_node (place_of t) Block stamp in
      let ys = laid js (length xs + 1) (length xs) in
      let y : Node = record x { state = state; end = end } in
      ap (λ (us : List Node). closed us (length xs) state end) (in_it t cs js b stamp)
      ∙ closed_at (xs ++ x ∷ ys) (length xs) state end x (get_next xs x ys)
      ∙ set_next xs ys x y
      ∙ ap (λ (k : ℕ). xs ++ y ∷ laid js (k + 1) k) (behind_many (page t) cs)
      ∙ append_assoc ws (laid cs (length ws) (place_of t)) (y ∷ laid js (n + 1) n)

  -- and behind it its strand goes on where it was
  pub above_it : (t : Trail A) (cs js : Course) (b : A) (stamp : ℕ) → parent_of (nodes_of (in_block t cs b stamp) js) (place_of (in_block t cs b stamp)) ≡ place_of t
  above_it t cs js b stamp =
      let xs = nodes_of t cs in
      let x = fresh_node (place_of t) Block stamp in
      ap (λ (us : List Node). parent_of us (length xs)) (in_it t cs js b stamp)
      ∙ ap (number_in (λ y. y.parent)) (get_next xs x (laid js (length xs + 1) (length xs)))

  -- ## Forks

  -- a fork with its left strand, or with both
  pub forked : (t : Trail A) (cs : Course) (b : A) (column : Option ℕ) (stamp : ℕ)
      → nodes_of (in_left t cs b column stamp) nothing ≡ nodes_of t cs ++ fresh_node (place_of t) Fork stamp ∷ strands_with column (length (nodes_of t cs))
  forked t cs b column stamp = append-nil (nodes_of t cs ++ fresh_node (place_of t) Fork stamp ∷ strands_with column (length (nodes_of t cs)))

  -- as an inline fork turns to its right strand, the log is as it was
  pub turned : (t : Trail A) (cs ls : Course) (b l : A) (stamp : ℕ) → nodes_of (in_right t cs b stamp ls l) nothing ≡ nodes_of (in_left t cs b None stamp) ls
  turned t cs ls b l stamp = append-nil (nodes_of (in_left t cs b None stamp) ls)

  -- as a fork is joined whose right strand has a log of its own
  pub joined : (t : Trail A) (cs ls rs : Course) (b : A) (column stamp : ℕ) → nodes_of (in_left t cs b (Some column) stamp) ls ≡ nodes_of t (fork cs (Some column) stamp ls rs)
  joined t cs ls rs b column stamp =
      let xs = nodes_of t cs in
      let ws = (page t).nodes in
      let k = length xs in
      let n = length ws + size cs in
      let x = fresh_node (place_of t) Fork stamp in
      let ys = x ∷ fresh_node k Strand 0 ∷ [] in
      let same : k ≡ n = behind_many (page t) cs in
      append_assoc xs ys (laid ls (length (xs ++ ys)) (k + 1))
      ∙ ap (λ us. xs ++ x ∷ fresh_node k Strand 0 ∷ us) (same_laid ls _ _ _ _ (length-append xs ys ∙ ap (λ m. m + 2) same) (ap (λ m. m + 1) same))
      ∙ ap (λ m. xs ++ x ∷ fresh_node m Strand 0 ∷ laid ls (n + 2) (n + 1)) same
      ∙ append_assoc ws (laid cs (length ws) (place_of t)) (x ∷ fresh_node n Strand 0 ∷ laid ls (n + 2) (n + 1))

  -- as an inline one comes to the end of its right strand
  pub joined_inline : (t : Trail A) (cs ls rs : Course) (b l : A) (stamp : ℕ) → nodes_of (in_right t cs b stamp ls l) rs ≡ nodes_of t (fork cs None stamp ls rs)
  joined_inline t cs ls rs b l stamp =
      let xs = nodes_of t cs in
      let ws = (page t).nodes in
      let k = length xs in
      let n = length ws + size cs in
      let f = fresh_node (place_of t) Fork stamp in
      let x = fresh_node k Strand 0 in
      let ys = f ∷ x ∷ x ∷ [] in
      let same : k ≡ n = behind_many (page t) cs in
      let long : length (xs ++ ys) ≡ n + 3 = length-append xs ys ∙ ap (λ m. m + 3) same in
      let ll = laid ls (length (xs ++ ys)) (k + 1) in
      let more : length ((xs ++ ys) ++ ll) ≡ n + 3 + size ls = omega (arith, length-append (xs ++ ys) ll, laid_many ls (length (xs ++ ys)) (k + 1), long) in
      let el : ll ≡ laid ls (n + 3) (n + 1) = same_laid ls _ _ _ _ long (ap (λ m. m + 1) same) in
      let er : laid rs (length ((xs ++ ys) ++ ll)) (k + 2) ≡ laid rs (n + 3 + size ls) (n + 2) = same_laid rs _ _ _ _ more (ap (λ m. m + 2) same) in
      ap (λ us. ((xs ++ ys) ++ ll) ++ us) er
      ∙ ap (λ us. ((xs ++ ys) ++ us) ++ laid rs (n + 3 + size ls) (n + 2)) el
      ∙ append_assoc (xs ++ ys) (laid ls (n + 3) (n + 1)) (laid rs (n + 3 + size ls) (n + 2))
      ∙ append_assoc xs ys (laid ls (n + 3) (n + 1) ++ laid rs (n + 3 + size ls) (n + 2))
      ∙ ap (λ m. xs ++ f ∷ fresh_node m Strand 0 ∷ fresh_node m Strand 0 ∷ (laid ls (n + 3) (n + 1) ++ laid rs (n + 3 + size ls) (n + 2))) same
      ∙ append_assoc ws (laid cs (length ws) (place_of t)) (f ∷ fresh_node n Strand 0 ∷ fresh_node n Strand 0 ∷ (laid ls (n + 3) (n + 1) ++ laid rs (n + 3 + size ls) (n + 2)))
