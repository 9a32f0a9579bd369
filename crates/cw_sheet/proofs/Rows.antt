-- What is true of all that a reader may take: nodes have lines, and there are as many as were announced.
use Rattle.std.proofs.Common.{◌≡◌, ℕ, zero, suc, ◌<◌, ◌≤◌, Bool, true, false, cond, List, [], ◌∷◌, length, refl, ap, sym, subst, ◌∙◌, arith, codes, ℤ}
use Rattle.std.specs.Prelude.{All, nat_lt, not, ◌&&◌, ◌||◌, ◌==◌, if◌then◌else◌}
use Rattle.std.specs.Str.{bytes_eq}
use Rattle.std.proofs.lemmas.Bool.{and_parts, ltb-true}
use Rattle.std.proofs.lemmas.Bool.Decides.{nat_tests}
use Rattle.std.proofs.lemmas.List.Elements.{All-cons}
use Rattle.std.specs.Fmt.{decimal}
use Rattle.cw_text.specs.Lexemes.{value_of_digits}
use Rattle.cw_tree.specs.declared.node.Node.{Node}
use Rattle.cw_code.specs.declared.Back.{Back}
use Rattle.cw_tree.specs.declared.node.BlockState.{BlockState}
use Rattle.cw_tree.specs.declared.node.Kind.{Kind}
use Rattle.cw_tree.specs.declared.node.Kind.TheVariants.{Strand, Fork, Block, Read, Write, Out, Tried, Cancel}
use Rattle.cw_tree.specs.Nodes.{is_strand_kind, is_tried_kind, is_strand, parent_of}
use Rattle.cw_sheet.specs.declared.sheet.SheetKind.TheVariants.{Unexpected, BadNumber}
use Rattle.cw_sheet.specs.Contents.{HasLine}
use Rattle.cw_sheet.specs.Items.{Place, Taken, took, refused, ◌into◌, refuse, all_behind, count, exactly, first_number, is_numeral, item, judged, line_done, newline, number, number32, number64, space, value, word}
use Rattle.cw_sheet.specs.Numerals.{is_written_below}
use Rattle.cw_sheet.specs.Reading.{access_node, back, block_node, cancel_node, fork_node, node, node_named, nodes, other_node, out_node, state, strand_node, tried_node}

-- what was taken, if anything was, is so
abbrev pub Gives : {A : Type 0} → (A → Type 0) → Taken A → Type 0
Gives P (took x p) = P x
Gives P (refused e) = Unit {0}

gives_into : {A B : Type 0} (P : B → Type 0) (t : Taken A) (f : A → Place → Taken B) → ((x : A) (p : Place) → Gives P (f x p)) → Gives P (t into f)
gives_into P (took x p) f h = h x p
gives_into P (refused e) f h = tt

gives_then : {A B : Type 0} (Q : A → Type 0) (P : B → Type 0) (t : Taken A) (f : A → Place → Taken B) → Gives Q t → ((x : A) (p : Place) → Q x → Gives P (f x p)) → Gives P (t into f)
gives_then Q P (took x p) f g h = h x p g
gives_then Q P (refused e) f g h = tt

gives_either : {A : Type 0} (P : A → Type 0) (b : Bool) (t u : Taken A) → (b ≡ true → Gives P t) → (b ≡ false → Gives P u) → Gives P (cond b t u)
gives_either P true t u h k = h refl
gives_either P false t u h k = k refl

gives_weaker : {A : Type 0} (Q P : A → Type 0) (t : Taken A) → Gives Q t → ((x : A) → Q x → P x) → Gives P t
gives_weaker Q P (took x p) g h = h x g
gives_weaker Q P (refused e) g h = tt

pub gives_taken : {A : Type 0} (P : A → Type 0) (t : Taken A) (x : A) (p : Place) → t ≡ took x p → Gives P t → P x
gives_taken P t x p e h = subst (Gives P) e h

gives_done : {A : Type 0} (P : A → Type 0) (x : A) (p : Place) → P x → Gives P (line_done x p)
gives_done P x p h = gives_into P (newline p) (λ _ q. took x q) (λ _ q. h)

-- ## Nodes

-- Node n of a tree may be x: it has a line, and the root is its own parent.
pub record IsRow (n : ℕ) (x : Node) : Type 0 where
  pub line : HasLine x
  pub root : n ≡ 0 → is_strand_kind x.kind ≡ true → x.parent ≡ 0

plain_row : (n parent : ℕ) (kind : Kind) (stamp : ℕ) → is_strand_kind kind ≡ false → is_tried_kind kind ≡ false → IsRow n (other_node parent kind stamp)
plain_row n parent kind stamp no_strand no_tried = record {
  line = record { stamp = λ h. let e : false ≡ true = sym (ap (λ b. b || is_tried_kind kind) no_strand ∙ no_tried) ∙ h in cc; state = λ _. refl; end = λ _. refl };
  root = λ _ h. let e : false ≡ true = sym no_strand ∙ h in cc;
}

root_parent : (n parent : ℕ) → (n == 0 && not (parent == 0)) ≡ false → n ≡ 0 → parent ≡ 0
root_parent n parent e at = grind (arith, nat_tests)

strand_gives : (n : ℕ) (p : Place) → Gives (IsRow n) (strand_node n p)
strand_gives n p =
    gives_into (IsRow n) (number32 p) (λ parent q. if n == 0 && not (parent == 0) then refuse Unexpected q else line_done (other_node parent Strand 0) q) (λ parent q.
    gives_either (IsRow n) (n == 0 && not (parent == 0)) (refuse Unexpected q) (line_done (other_node parent Strand 0) q) (λ _. tt) (λ e.
    gives_done (IsRow n) (other_node parent Strand 0) q (record {
      line = record { stamp = λ _. refl; state = λ _. refl; end = λ _. refl };
      root = λ at _. root_parent n parent e at;
    })))

fork_gives : (n : ℕ) (p : Place) → Gives (IsRow n) (fork_node p)
fork_gives n p =
    gives_into (IsRow n) (number32 p) (λ parent p. number64 p into λ stamp p. line_done (other_node parent Fork stamp) p) (λ parent p.
    gives_into (IsRow n) (number64 p) (λ stamp p. line_done (other_node parent Fork stamp) p) (λ stamp p.
    gives_done (IsRow n) (other_node parent Fork stamp) p (plain_row n parent Fork stamp refl refl)))

block_row : (n parent stamp : ℕ) (state : BlockState) (end : ℕ) → IsRow n (record { parent = parent; kind = Block; state = state; stamp = stamp; end = end })
block_row n parent stamp state end = record { line = record { stamp = λ h. let e : false ≡ true = h in cc; state = λ h. let e : true ≡ false = h in cc; end = λ h. let e : true ≡ false = h in cc }; root = λ _ h. let e : false ≡ true = h in cc }

block_gives : (n : ℕ) (p : Place) → Gives (IsRow n) (block_node p)
block_gives n p =
    gives_into (IsRow n) (number32 p) (λ parent p. number64 p into λ stamp p. state p into λ state p. number64 p into λ end p. line_done (record { parent = parent; kind = Block; state = state; stamp = stamp; end = end }) p) (λ parent p.
    gives_into (IsRow n) (number64 p) (λ stamp p. state p into λ state p. number64 p into λ end p. line_done (record { parent = parent; kind = Block; state = state; stamp = stamp; end = end }) p) (λ stamp p.
    gives_into (IsRow n) (state p) (λ state p. number64 p into λ end p. line_done (record { parent = parent; kind = Block; state = state; stamp = stamp; end = end }) p) (λ state p.
    gives_into (IsRow n) (number64 p) (λ end p. line_done (record { parent = parent; kind = Block; state = state; stamp = stamp; end = end }) p) (λ end p.
    gives_done (IsRow n) (record { parent = parent; kind = Block; state = state; stamp = stamp; end = end }) p (block_row n parent stamp state end)))))

access_gives : (n : ℕ) (kind : ℕ → ℤ → Kind) → ((c : ℕ) (v : ℤ) → (is_strand_kind (kind c v) ≡ false) × (is_tried_kind (kind c v) ≡ false)) → (p : Place) → Gives (IsRow n) (access_node kind p)
access_gives n kind h p =
    gives_into (IsRow n) (number32 p) (λ parent p. number64 p into λ stamp p. number32 p into λ cell p. value p into λ v p. line_done (other_node parent (kind cell v) stamp) p) (λ parent p.
    gives_into (IsRow n) (number64 p) (λ stamp p. number32 p into λ cell p. value p into λ v p. line_done (other_node parent (kind cell v) stamp) p) (λ stamp p.
    gives_into (IsRow n) (number32 p) (λ cell p. value p into λ v p. line_done (other_node parent (kind cell v) stamp) p) (λ cell p.
    gives_into (IsRow n) (value p) (λ v p. line_done (other_node parent (kind cell v) stamp) p) (λ v p.
    gives_done (IsRow n) (other_node parent (kind cell v) stamp) p (plain_row n parent (kind cell v) stamp (h cell v).0 (h cell v).1)))))

out_gives : (n : ℕ) (p : Place) → Gives (IsRow n) (out_node p)
out_gives n p =
    gives_into (IsRow n) (number32 p) (λ parent p. number64 p into λ stamp p. value p into λ v p. line_done (other_node parent (Out v) stamp) p) (λ parent p.
    gives_into (IsRow n) (number64 p) (λ stamp p. value p into λ v p. line_done (other_node parent (Out v) stamp) p) (λ stamp p.
    gives_into (IsRow n) (value p) (λ v p. line_done (other_node parent (Out v) stamp) p) (λ v p.
    gives_done (IsRow n) (other_node parent (Out v) stamp) p (plain_row n parent (Out v) stamp refl refl))))

tried_row : (n parent cell : ℕ) → IsRow n (other_node parent (Tried cell) 0)
tried_row n parent cell = record { line = record { stamp = λ _. refl; state = λ _. refl; end = λ _. refl }; root = λ _ h. let e : false ≡ true = h in cc }

tried_gives : (n : ℕ) (p : Place) → Gives (IsRow n) (tried_node p)
tried_gives n p =
    gives_into (IsRow n) (number32 p) (λ parent p. number32 p into λ cell p. line_done (other_node parent (Tried cell) 0) p) (λ parent p.
    gives_into (IsRow n) (number32 p) (λ cell p. line_done (other_node parent (Tried cell) 0) p) (λ cell p.
    gives_done (IsRow n) (other_node parent (Tried cell) 0) p (tried_row n parent cell)))

abbrev cancel_if : (parent stamp k : ℕ) → List Back → Place → Taken Node
cancel_if parent stamp k backs p = if length backs == k then line_done (other_node parent (Cancel backs) stamp) p else refuse Unexpected p

cancel_gives : (n : ℕ) (p : Place) → Gives (IsRow n) (cancel_node p)
cancel_gives n p =
    gives_into (IsRow n) (number32 p) (λ parent p. number64 p into λ stamp p. count p into λ k p. all_behind back p into cancel_if parent stamp k) (λ parent p.
    gives_into (IsRow n) (number64 p) (λ stamp p. count p into λ k p. all_behind back p into cancel_if parent stamp k) (λ stamp p.
    gives_into (IsRow n) (count p) (λ k p. all_behind back p into cancel_if parent stamp k) (λ k p.
    gives_into (IsRow n) (all_behind back p) (cancel_if parent stamp k) (λ backs p.
    gives_either (IsRow n) (length backs == k) (line_done (other_node parent (Cancel backs) stamp) p) (refuse Unexpected p)
    (λ _. gives_done (IsRow n) (other_node parent (Cancel backs) stamp) p (plain_row n parent (Cancel backs) stamp refl refl)) (λ _. tt)))))

named : (n : ℕ) (p : Place) (a b c d e f g h : Bool) → Gives (IsRow n) (cond a (strand_node n p) (cond b (fork_node p) (cond c (block_node p) (cond d (access_node (λ c v. Read c v) p) (cond e (access_node (λ c v. Write c v) p)
    (cond f (out_node p) (cond g (tried_node p) (cond h (cancel_node p) (refuse Unexpected p)))))))))
named n p true b c d e f g h = strand_gives n p
named n p false true c d e f g h = fork_gives n p
named n p false false true d e f g h = block_gives n p
named n p false false false true e f g h = access_gives n (λ c v. Read c v) (λ c v. (refl, refl)) p
named n p false false false false true f g h = access_gives n (λ c v. Write c v) (λ c v. (refl, refl)) p
named n p false false false false false true g h = out_gives n p
named n p false false false false false false true h = tried_gives n p
named n p false false false false false false false true = cancel_gives n p
named n p false false false false false false false false = tt

node_gives : (n : ℕ) (p : Place) → Gives (IsRow n) (node n p)
node_gives n p =
    gives_into (IsRow n) (item p) (λ w p. node_named w n p) (λ w p.
    named n p (bytes_eq w (codes "strand")) (bytes_eq w (codes "fork")) (bytes_eq w (codes "block")) (bytes_eq w (codes "read")) (bytes_eq w (codes "write")) (bytes_eq w (codes "out")) (bytes_eq w (codes "tried")) (bytes_eq w (codes "cancel")))

-- ## Trees

-- xs are nodes k and on
abbrev pub AreRows : (k : ℕ) → List Node → Type 0
AreRows k [] = Unit {0}
AreRows k (x ∷ xs) = IsRow k x × AreRows (suc k) xs

pub record AreSoMany (n k : ℕ) (xs : List Node) : Type 0 where
  pub count : length xs ≡ n
  pub rows : AreRows k xs

exactly_gives : (n k : ℕ) (p : Place) → Gives (AreSoMany n k) (exactly n k node p)
exactly_gives zero k p = record { count = refl; rows = tt }
exactly_gives (suc n) k p =
    gives_then (IsRow k) (AreSoMany (suc n) k) (node k p) (λ x q. exactly n (suc k) node q into λ xs r. took (x ∷ xs) r) (node_gives k p) (λ x q row.
    gives_then (AreSoMany n (suc k)) (AreSoMany (suc n) k) (exactly n (suc k) node q) (λ xs r. took (x ∷ xs) r) (exactly_gives n (suc k) q) (λ xs r h.
    record { count = ap suc h.count; rows = (row, h.rows) }))

-- what the nodes of a sheet are
pub record AreNodes (t : List Node) : Type 0 where
  pub few : length t ≤ 100000000
  pub rows : AreRows 0 t

number_gives : (limit : ℕ) (p : Place) → Gives (λ n. n < limit) (number limit p)
number_gives limit p =
    let P : ℕ → Type 0 = λ n. n < limit in
    gives_into P (space p) (λ _ q. first_number limit q) (λ _ q.
    gives_into P (item q) (λ i r. judged i (is_written_below limit i) (value_of_digits i) r) (λ i r.
    gives_either P (is_numeral i) (if is_written_below limit i then took (value_of_digits i) r else refuse BadNumber r) (refuse Unexpected r) (λ _.
    gives_either P (is_written_below limit i) (took (value_of_digits i) r) (refuse BadNumber r)
    (λ h. ltb-true (value_of_digits i) limit (and_parts (nat_lt (value_of_digits i) limit) (bytes_eq i (decimal (value_of_digits i))) h).0) (λ _. tt)) (λ _. tt)))

nodes_gives : (p : Place) → Gives AreNodes (nodes p)
nodes_gives p =
    gives_into AreNodes (word (codes "nodes") p) (λ _ p. count p into λ n p. line_done n p into λ n p. exactly n 0 node p) (λ _ p.
    gives_then (λ n. n < 100000001) AreNodes (count p) (λ n p. line_done n p into λ n p. exactly n 0 node p) (number_gives 100000001 p) (λ n p low.
    gives_then (λ m. m < 100000001) AreNodes (line_done n p) (λ n p. exactly n 0 node p) (gives_done (λ m. m < 100000001) n p low) (λ n p low.
    gives_weaker (AreSoMany n 0) AreNodes (exactly n 0 node p) (exactly_gives n 0 p) (λ xs h. record { few = omega (arith, h.count); rows = h.rows }))))

pub nodes_are : (p q : Place) (t : List Node) → nodes p ≡ took t q → AreNodes t
nodes_are p q t e = gives_taken AreNodes (nodes p) t q e (nodes_gives p)

-- ## All lines

pub all_lines : (k : ℕ) (t : List Node) → AreRows k t → All HasLine t
all_lines k [] h = λ i d l. absurd (omega arith)
all_lines k (x ∷ xs) h = All-cons HasLine x xs h.0.line (all_lines (suc k) xs h.1)

-- the root, if it is a strand, is its own parent
pub root_is : (t : List Node) → AreRows 0 t → is_strand t 0 ≡ true → parent_of t 0 ≡ 0
root_is [] h e = let z : false ≡ true = e in cc
root_is (x ∷ xs) h e = h.0.root refl e
