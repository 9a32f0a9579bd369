-- A course in a tree: which nodes it has there, by their numbers.
use Rattle.std.proofs.Common.{◌≡◌, ℕ, ◌+◌, ◌<◌, ◌≤◌, List, [], ◌∷◌, ◌++◌, arith, subst, Option, Some, None, inl, inr}
use Rattle.std.specs.Prelude.{◌⊎◌, slice_get}
use Rattle.std.proofs.lemmas.Bool.{cases_lt}
use Rattle.cw_tree.specs.declared.node.Node.{Node}
use Rattle.cw_tree.specs.declared.node.Kind.{Kind}
use Rattle.cw_tree.specs.declared.node.Kind.TheVariants.{Strand, Fork, Block}
use Rattle.cw_tree.specs.declared.node.BlockState.{BlockState}
use Rattle.cw_tree.specs.Nodes.{fresh_node}
use Rattle.cw_tree.specs.Series.{children}
use Rattle.cw_course.specs.Courses.{Course, nothing, act, block, fork, fault, size}

-- ## Numbers

-- how many nodes the logs of its right strands have
abbrev pub width : Course → ℕ
width nothing = 0
width (act cs kind stamp) = width cs
width (block cs state stamp end js) = width cs + width js
width (fork cs None stamp ls rs) = width cs + width ls + width rs
width (fork cs (Some column) stamp ls rs) = width cs + width ls + 1 + size rs + width rs
width (fault cs kind) = width cs

-- The nodes of its own log have the numbers from `base` on, and those of the right strands' logs the numbers from `to` on.

-- those right in it
abbrev pub members : Course → (base : ℕ) → List ℕ
members nothing base = []
members (act cs kind stamp) base = members cs base ++ (base + size cs) ∷ []
members (block cs state stamp end js) base = members cs base ++ (base + size cs) ∷ []
members (fork cs column stamp ls rs) base = members cs base ++ (base + size cs) ∷ []
members (fault cs kind) base = members cs base

-- n is the number of a node of it
abbrev pub IsPart : Course → (base to n : ℕ) → Type 0
IsPart cs base to n = ((base ≤ n) × (n < base + size cs)) ⊎ ((to ≤ n) × (n < to + width cs))

-- where the strands of a fork stand that has this number
pub record Sides : Type 0 where
  -- where the courses of the left and of the right strand begin, and the logs beside each
  pub left_base : ℕ
  pub left_to : ℕ
  pub right : ℕ
  pub right_base : ℕ
  pub right_to : ℕ

abbrev pub sides : (column : Option ℕ) → (cs ls rs : Course) → (n to : ℕ) → Sides
sides None cs ls rs n to = record {
  left_base = n + 3;
  left_to = to + width cs;
  right = n + 2;
  right_base = n + 3 + size ls;
  right_to = to + width cs + width ls;
}
sides (Some column) cs ls rs n to = record {
  left_base = n + 2;
  left_to = to + width cs;
  right = to + width cs + width ls;
  right_base = to + width cs + width ls + 1;
  right_to = to + width cs + width ls + 1 + size rs;
}

-- ## What is shown

module _ (t : List Node) where
  -- a strand with this course in it
  pub record Strands (x under : ℕ) (cs : Course) (base : ℕ) : Type 0 where
    pub there : slice_get t x ≡ Some (fresh_node under Strand 0)
    pub has : children t x ≡ members cs base

  pub record Leaf (n under : ℕ) (kind : Kind) (stamp : ℕ) : Type 0 where
    pub there : slice_get t n ≡ Some (fresh_node under kind stamp)
    pub none : children t n ≡ []

  pub record Blocks (n under : ℕ) (state : BlockState) (stamp end : ℕ) (js : Course) : Type 0 where
    pub there : slice_get t n ≡ Some (record (fresh_node under Block stamp) { state = state; end = end })
    pub has : children t n ≡ members js (n + 1)

  pub record Forked (n under stamp : ℕ) (ls rs : Course) (x : Sides) : Type 0 where
    pub there : slice_get t n ≡ Some (fresh_node under Fork stamp)
    pub has : children t n ≡ (n + 1) ∷ x.right ∷ []
    pub left : Strands (n + 1) n ls x.left_base
    pub right : Strands x.right n rs x.right_base

  -- the tree has this course with these numbers beneath that node
  abbrev pub Shows : Course → (base under to : ℕ) → Type 0
  Shows nothing base under to = Unit {0}
  Shows (act cs kind stamp) base under to = Shows cs base under to × Leaf (base + size cs) under kind stamp
  Shows (block cs state stamp end js) base under to =
      Shows cs base under to × Blocks (base + size cs) under state stamp end js × Shows js (base + size cs + 1) (base + size cs) (to + width cs)
  Shows (fork cs column stamp ls rs) base under to =
      let n = base + size cs in
      let x = sides column cs ls rs n to in
      Shows cs base under to × Forked n under stamp ls rs x × Shows ls x.left_base (n + 1) x.left_to × Shows rs x.right_base x.right x.right_to
  Shows (fault cs kind) base under to = Shows cs base under to

-- ## What holds of each of its nodes

module _ (P : ℕ → Type 0) where
  abbrev pub Each : Course → (base to : ℕ) → Type 0
  Each nothing base to = Unit {0}
  Each (act cs kind stamp) base to = Each cs base to × P (base + size cs)
  Each (block cs state stamp end js) base to = Each cs base to × P (base + size cs) × Each js (base + size cs + 1) (to + width cs)
  Each (fork cs column stamp ls rs) base to =
      let n = base + size cs in
      let x = sides column cs ls rs n to in
      Each cs base to × (P n × P (n + 1) × P x.right) × Each ls x.left_base x.left_to × Each rs x.right_base x.right_to
  Each (fault cs kind) base to = Each cs base to

  -- n is one of the nodes that two courses have, or the one between them
  only : (k n : ℕ) → k ≤ n → n < k + 1 → P k → P n
  only k n h g p = let same : k ≡ n = omega arith in subst P same p

  pub at_each : (cs : Course) (base to n : ℕ) → Each cs base to → IsPart cs base to n → P n
  at_each nothing base to n e i = absurd (omega arith)
  at_each (act cs kind stamp) base to n e (inr b) = at_each cs base to n e.0 (inr b)
  at_each (act cs kind stamp) base to n e (inl b) =
      elim (cases_lt n (base + size cs)) [
        | inl h ↦ at_each cs base to n e.0 (inl (b.0, h))
        | inr h ↦ only (base + size cs) n h (omega (arith, b.1)) e.1
      ]
  at_each (block cs state stamp end js) base to n e (inl b) =
      let k = base + size cs in
      elim (cases_lt n k) [
        | inl h ↦ at_each cs base to n e.0 (inl (b.0, h))
        | inr h ↦ elim (cases_lt n (k + 1)) [ inl g ↦ only k n h g e.1 | inr g ↦ at_each js (k + 1) (to + width cs) n e.2 (inl (g, omega (arith, b.1))) ]
      ]
  at_each (block cs state stamp end js) base to n e (inr b) =
      elim (cases_lt n (to + width cs)) [
        | inl h ↦ at_each cs base to n e.0 (inr (b.0, h))
        | inr h ↦ at_each js (base + size cs + 1) (to + width cs) n e.2 (inr (h, omega (arith, b.1)))
      ]
  at_each (fork cs None stamp ls rs) base to n e (inl b) =
      let k = base + size cs in
      elim (cases_lt n k) [
        | inl h ↦ at_each cs base to n e.0 (inl (b.0, h))
        | inr h ↦ elim (cases_lt n (k + 1)) [
          | inl g ↦ only k n h g e.1.0
          | inr g ↦ elim (cases_lt n (k + 2)) [
            | inl i ↦ only (k + 1) n g (omega arith) e.1.1
            | inr i ↦ elim (cases_lt n (k + 3)) [
              | inl j ↦ only (k + 2) n i (omega arith) e.1.2
              | inr j ↦ elim (cases_lt n (k + 3 + size ls)) [
                | inl l ↦ at_each ls (k + 3) (to + width cs) n e.2 (inl (j, l))
                | inr l ↦ at_each rs (k + 3 + size ls) (to + width cs + width ls) n e.3 (inl (l, omega (arith, b.1)))
              ]
            ]
          ]
        ]
      ]
  at_each (fork cs None stamp ls rs) base to n e (inr b) =
      elim (cases_lt n (to + width cs)) [
        | inl h ↦ at_each cs base to n e.0 (inr (b.0, h))
        | inr h ↦ elim (cases_lt n (to + width cs + width ls)) [
          | inl g ↦ at_each ls (base + size cs + 3) (to + width cs) n e.2 (inr (h, g))
          | inr g ↦ at_each rs (base + size cs + 3 + size ls) (to + width cs + width ls) n e.3 (inr (g, omega (arith, b.1)))
        ]
      ]
  at_each (fork cs (Some column) stamp ls rs) base to n e (inl b) =
      let k = base + size cs in
      elim (cases_lt n k) [
        | inl h ↦ at_each cs base to n e.0 (inl (b.0, h))
        | inr h ↦ elim (cases_lt n (k + 1)) [
          | inl g ↦ only k n h g e.1.0
          | inr g ↦ elim (cases_lt n (k + 2)) [
            | inl i ↦ only (k + 1) n g (omega arith) e.1.1
            | inr i ↦ at_each ls (k + 2) (to + width cs) n e.2 (inl (i, omega (arith, b.1)))
          ]
        ]
      ]
  at_each (fork cs (Some column) stamp ls rs) base to n e (inr b) =
      let r = to + width cs + width ls in
      elim (cases_lt n (to + width cs)) [
        | inl h ↦ at_each cs base to n e.0 (inr (b.0, h))
        | inr h ↦ elim (cases_lt n r) [
          | inl g ↦ at_each ls (base + size cs + 2) (to + width cs) n e.2 (inr (h, g))
          | inr g ↦ elim (cases_lt n (r + 1)) [
            | inl i ↦ only r n g i e.1.2
            | inr i ↦ elim (cases_lt n (r + 1 + size rs)) [
              | inl j ↦ at_each rs (r + 1) (r + 1 + size rs) n e.3 (inl (i, j))
              | inr j ↦ at_each rs (r + 1) (r + 1 + size rs) n e.3 (inr (j, omega (arith, b.1)))
            ]
          ]
        ]
      ]
  at_each (fault cs kind) base to n e i = at_each cs base to n e i
