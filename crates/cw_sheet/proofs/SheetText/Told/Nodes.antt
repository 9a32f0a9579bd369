-- A node that was taken is spelled so, and has nothing that its line does not tell.
use Rattle.std.proofs.Common.{◌≡◌, ℕ, ◌==◌, ◌^◌, ◌<◌, ◌≤◌, arith, ◌&&◌, ◌||◌, true, false, not, List, [], ◌∷◌, codes, length, ℤ, refl, ap, sym, subst, inl, inr, IsTrue}
use Rattle.std.proofs.lemmas.Bool.{and_cases, both_ways, eqb-false, eqb-true, false≢true, not-false, or_parts, true≢false}
use Rattle.std.proofs.lemmas.List.Elements.{All-from_recursion}
use Rattle.std.specs.Cmp.Lexicographic.{bytes_decides}
use Rattle.std.specs.Fmt.{decimal, signed_decimal}
use Rattle.std.specs.Str.{bytes_eq}
use Rattle.cw_code.specs.declared.Back.{Back}
use Rattle.cw_tree.specs.declared.node.Node.{Node}
use Rattle.cw_tree.specs.declared.node.Kind.{Kind}
use Rattle.cw_tree.specs.declared.node.Kind.TheVariants.{Strand, Fork, Block, Read, Write, Out, Tried, Cancel}
use Rattle.cw_tree.specs.declared.node.BlockState.{BlockState}
use Rattle.cw_tree.specs.declared.node.BlockState.TheVariants.{Pending, Committed, Aborted}
use Rattle.cw_tree.specs.Nodes.{is_strand_kind, is_tried_kind}
use Rattle.cw_sheet.specs.declared.sheet.SheetKind.TheVariants.{Unexpected}
use Rattle.cw_sheet.specs.Contents.{HasLine}
use Rattle.cw_sheet.specs.Items.{Place, took, all_behind, behind, count, first_item, line_done, next_item, number32, number64, refuse, value}
use Rattle.cw_sheet.specs.Laws.{BackFits, IsValue, KindFits, NodeFits}
use Rattle.cw_sheet.specs.Reading.{access_node, back, block_node, cancel_node, fork_node, node, node_named, other_node, out_node, state, strand_node, tried_node}
use Rattle.cw_sheet.specs.SheetText.{access_line, back_items, node_line, spaced, state_word}
use Rattle.cw_sheet.proofs.SheetText.Beginning.{BeginsWith, item, line_of, none, same_part, some, spaced_flat, spaces_begin}
use Rattle.cw_sheet.proofs.SheetText.Told.Items.{item_told, line_done_told, next_item_told, number_told, up_to_told, value_told}
use Rattle.cw_sheet.proofs.SheetText.Told.Taking.{IfTook, took_if, took_then}

-- what is true of node k beside its line; node 0 has the parent 0 if it is a strand
pub record IsFit (k : ℕ) (x : Node) : Type 0 where
  pub line : HasLine x
  pub root : k ≡ 0 → IsTrue (is_strand_kind x.kind) → x.parent ≡ 0

-- all that is true of a node that is read as node k
pub record IsReadable (k : ℕ) (x : Node) : Type 0 where
  pub fit : IsFit k x
  pub range : NodeFits x

-- node k is spelled so at the front of the text
abbrev pub IsNode : (k : ℕ) → List ℕ → Node → Place → Type 0
IsNode k text x q = BeginsWith text (node_line x) q.text × IsReadable k x

-- ## What a line does not tell

fit_stamped : (k parent : ℕ) (kind : Kind) (stamp : ℕ) → (is_strand_kind kind || is_tried_kind kind) ≡ false → IsFit k (other_node parent kind stamp)
fit_stamped k parent kind stamp e = record {
  line = record { stamp = λ h. absurd (both_ways (is_strand_kind kind || is_tried_kind kind) e h); state = λ _. refl; end = λ _. refl };
  root = λ _ h. absurd (both_ways (is_strand_kind kind) (or_parts (is_strand_kind kind) (is_tried_kind kind) e).0 h);
}

fit_block : (k parent stamp : ℕ) (s : BlockState) (e : ℕ) → IsFit k (record { parent = parent; kind = Block; state = s; stamp = stamp; end = e })
fit_block k parent stamp s e = record {
  line = record { stamp = λ h. absurd (false≢true h); state = λ h. absurd (true≢false h); end = λ h. absurd (true≢false h) };
  root = λ _ h. absurd (false≢true h);
}

fit_tried : (k parent cell : ℕ) → IsFit k (other_node parent (Tried cell) 0)
fit_tried k parent cell = record {
  line = record { stamp = λ _. refl; state = λ _. refl; end = λ _. refl };
  root = λ _ h. absurd (false≢true h);
}

root_parent : (k parent : ℕ) → (k == 0 && not (parent == 0)) ≡ false → k ≡ 0 → parent ≡ 0
root_parent k parent e first = elim (and_cases (k == 0) (not (parent == 0)) e) [ inl a ↦ absurd (eqb-false k 0 a first) | inr b ↦ eqb-true parent 0 (not-false (parent == 0) b) ]

fit_strand : (k parent : ℕ) → (k == 0 && not (parent == 0)) ≡ false → IsFit k (other_node parent Strand 0)
fit_strand k parent e = record {
  line = record { stamp = λ _. refl; state = λ _. refl; end = λ _. refl };
  root = λ first _. root_parent k parent e first;
}

-- a node that is no block
other_fits : (k parent : ℕ) (kind : Kind) (stamp : ℕ) → IsFit k (other_node parent kind stamp) → parent < 2 ^ 32 → stamp < 2 ^ 64 → KindFits kind → IsReadable k (other_node parent kind stamp)
other_fits k parent kind stamp fit low small fits = record { fit = fit; range = record { parent = low; stamp = small; end = omega arith; kind = fits } }

-- ## One kind after the other, behind its word

module _ (k : ℕ) (text : List ℕ) (p : Place) where
  strand_told : BeginsWith text (codes "strand") p.text → IfTook (IsNode k text) (strand_node k p)
  strand_told h =
      took_then _ _ (number32 p) _ (number_told (2 ^ 32) p)
      (λ parent p1 h1. took_if _ (k == 0 && not (parent == 0)) (refuse Unexpected p1) (line_done (other_node parent Strand 0) p1) (λ _. tt)
      (λ e. line_done_told _ _ p1
      (λ q f. (line_of (codes "strand") (decimal parent ∷ []) h (item h1.0 none) f, other_fits k parent Strand 0 (fit_strand k parent e) h1.1 (omega arith) tt))))

  fork_told : BeginsWith text (codes "fork") p.text → IfTook (IsNode k text) (fork_node p)
  fork_told h =
      took_then _ _ (number32 p) _ (number_told (2 ^ 32) p)
      (λ parent p1 h1. took_then _ _ (number64 p1) _ (number_told (2 ^ 64) p1)
      (λ stamp p2 h2. line_done_told _ _ p2
      (λ q f. (
        line_of (codes "fork") (decimal parent ∷ decimal stamp ∷ []) h (item h1.0 (item h2.0 none)) f,
        other_fits k parent Fork stamp (fit_stamped k parent Fork stamp refl) h1.1 h2.1 tt,
      ))))

  access_told : (w : List ℕ) (kind : ℕ → ℤ → Kind) →
      ((parent stamp cell : ℕ) (v : ℤ) (rest : List ℕ) → BeginsWith text (access_line w parent stamp cell v) rest → BeginsWith text (node_line (other_node parent (kind cell v) stamp)) rest) →
      ((cell : ℕ) (v : ℤ) → (is_strand_kind (kind cell v) || is_tried_kind (kind cell v)) ≡ false) →
      ((cell : ℕ) (v : ℤ) → cell < 2 ^ 32 → IsValue v → KindFits (kind cell v)) →
      BeginsWith text w p.text → IfTook (IsNode k text) (access_node kind p)
  access_told w kind spelled stamped fits h =
      took_then _ _ (number32 p) _ (number_told (2 ^ 32) p)
      (λ parent p1 h1. took_then _ _ (number64 p1) _ (number_told (2 ^ 64) p1)
      (λ stamp p2 h2. took_then _ _ (number32 p2) _ (number_told (2 ^ 32) p2)
      (λ cell p3 h3. took_then _ _ (value p3) _ (value_told p3)
      (λ v p4 h4. line_done_told _ _ p4
      (λ q f.
      let items = decimal parent ∷ decimal stamp ∷ decimal cell ∷ signed_decimal v ∷ [] in (
        spelled parent stamp cell v q.text (line_of w items h (item h1.0 (item h2.0 (item h3.0 (item h4.0 none)))) f),
        other_fits k parent (kind cell v) stamp (fit_stamped k parent (kind cell v) stamp (stamped cell v)) h1.1 h2.1 (fits cell v h3.1 h4.1),
      ))))))

  out_told : BeginsWith text (codes "out") p.text → IfTook (IsNode k text) (out_node p)
  out_told h =
      took_then _ _ (number32 p) _ (number_told (2 ^ 32) p)
      (λ parent p1 h1. took_then _ _ (number64 p1) _ (number_told (2 ^ 64) p1)
      (λ stamp p2 h2. took_then _ _ (value p2) _ (value_told p2)
      (λ v p3 h3. line_done_told _ _ p3
      (λ q f. (
        line_of (codes "out") (decimal parent ∷ decimal stamp ∷ signed_decimal v ∷ []) h (item h1.0 (item h2.0 (item h3.0 none))) f,
        other_fits k parent (Out v) stamp (fit_stamped k parent (Out v) stamp refl) h1.1 h2.1 h3.1,
      )))))

  tried_told : BeginsWith text (codes "tried") p.text → IfTook (IsNode k text) (tried_node p)
  tried_told h =
      took_then _ _ (number32 p) _ (number_told (2 ^ 32) p)
      (λ parent p1 h1. took_then _ _ (number32 p1) _ (number_told (2 ^ 32) p1)
      (λ cell p2 h2. line_done_told _ _ p2
      (λ q f. (
        line_of (codes "tried") (decimal parent ∷ decimal cell ∷ []) h (item h1.0 (item h2.0 none)) f,
        other_fits k parent (Tried cell) 0 (fit_tried k parent cell) h1.1 (omega arith) h2.1,
      ))))

-- the state of a block
state_told : (p : Place) → IfTook (λ s q. BeginsWith p.text (32 ∷ state_word s) q.text) (state p)
state_told p =
    took_then _ _ (next_item p) _ (next_item_told p)
    (λ i q h.
    let is = λ (w : List ℕ) (e : bytes_eq i w ≡ true). same_part (32 ∷ w) (ap (λ j. 32 ∷ j) ((bytes_decides i w).0 e)) h in
    took_if _ (bytes_eq i (state_word Pending)) _ _ (λ e. is (state_word Pending) e)
    (λ _. took_if _ (bytes_eq i (state_word Committed)) _ _ (λ e. is (state_word Committed) e)
    (λ _. took_if _ (bytes_eq i (state_word Aborted)) (took Aborted q) (refuse Unexpected q) (λ e. is (state_word Aborted) e) (λ _. tt))))

-- a cell and its value
back_told : (p : Place) → IfTook (λ b q. BeginsWith p.text (spaced (decimal b.cell ∷ signed_decimal b.value ∷ [])) q.text × BackFits b) (back p)
back_told p =
    took_then _ _ (number32 p) _ (number_told (2 ^ 32) p)
    (λ cell p1 h1. took_then _ _ (value p1) _ (value_told p1)
    (λ v q h2. (spaces_begin (item h1.0 (item h2.0 none)), record { cell = h1.1; value = h2.1 })))

module _ (k : ℕ) (text : List ℕ) (p : Place) where
  block_told : BeginsWith text (codes "block") p.text → IfTook (IsNode k text) (block_node p)
  block_told h =
      took_then _ _ (number32 p) _ (number_told (2 ^ 32) p)
      (λ parent p1 h1. took_then _ _ (number64 p1) _ (number_told (2 ^ 64) p1)
      (λ stamp p2 h2. took_then _ _ (state p2) _ (state_told p2)
      (λ s p3 h3. took_then _ _ (number64 p3) _ (number_told (2 ^ 64) p3)
      (λ e p4 h4. line_done_told _ _ p4
      (λ q f. (
        line_of (codes "block") (decimal parent ∷ decimal stamp ∷ state_word s ∷ decimal e ∷ []) h (item h1.0 (item h2.0 (item h3 (item h4.0 none)))) f,
        record { fit = fit_block k parent stamp s e; range = record { parent = h1.1; stamp = h2.1; end = h4.1; kind = tt } },
      ))))))

  cancel_told : BeginsWith text (codes "cancel") p.text → IfTook (IsNode k text) (cancel_node p)
  cancel_told h =
      took_then _ _ (number32 p) _ (number_told (2 ^ 32) p)
      (λ parent p1 h1. took_then _ _ (number64 p1) _ (number_told (2 ^ 64) p1)
      (λ stamp p2 h2. took_then _ _ (count p2) _ (number_told 100000001 p2)
      (λ n p3 h3. took_then _ _ (all_behind back p3) _ (up_to_told (λ b. spaced (decimal b.cell ∷ signed_decimal b.value ∷ [])) BackFits back back_told (length p3.text) p3)
      (λ backs p4 h4. took_if _ (length backs == n) (line_done (other_node parent (Cancel backs) stamp) p4) (refuse Unexpected p4)
      (λ e. line_done_told _ _ p4
      (λ q f.
      let same : length backs ≡ n = eqb-true (length backs) n e in
      let counted = subst (λ m. BeginsWith p2.text (32 ∷ decimal m) p3.text) (sym same) h3.0 in
      let listed = same_part (spaced (back_items backs)) (spaced_flat (λ (b : Back). decimal b.cell ∷ signed_decimal b.value ∷ []) backs) h4.0 in
      let few : length backs ≤ 100000000 = (let low : n < 100000001 = h3.1 in omega arith) in (
        line_of (codes "cancel") (decimal parent ∷ decimal stamp ∷ decimal (length backs) ∷ back_items backs) h (item h1.0 (item h2.0 (item counted (some listed)))) f,
        other_fits k parent (Cancel backs) stamp (fit_stamped k parent (Cancel backs) stamp refl) h1.1 h2.1 (few, All-from_recursion BackFits backs h4.1),
      )))
      (λ _. tt)))))

  -- what the first word of the line says
  named_told : (w : List ℕ) → BeginsWith text w p.text → IfTook (IsNode k text) (node_named w k p)
  named_told w h =
      let is = λ (v : List ℕ) (e : bytes_eq w v ≡ true). same_part v ((bytes_decides w v).0 e) h in
      took_if _ (bytes_eq w (codes "strand")) _ _ (λ e. strand_told k text p (is (codes "strand") e))
      (λ _. took_if _ (bytes_eq w (codes "fork")) _ _ (λ e. fork_told k text p (is (codes "fork") e))
      (λ _. took_if _ (bytes_eq w (codes "block")) _ _ (λ e. block_told (is (codes "block") e))
      (λ _. took_if _ (bytes_eq w (codes "read")) _ _
      (λ e. access_told k text p (codes "read") (λ c v. Read c v) (λ parent stamp c v rest g. g) (λ _ _. refl) (λ c v low fit. (low, fit)) (is (codes "read") e))
      (λ _. took_if _ (bytes_eq w (codes "write")) _ _
      (λ e. access_told k text p (codes "write") (λ c v. Write c v) (λ parent stamp c v rest g. g) (λ _ _. refl) (λ c v low fit. (low, fit)) (is (codes "write") e))
      (λ _. took_if _ (bytes_eq w (codes "out")) _ _ (λ e. out_told k text p (is (codes "out") e))
      (λ _. took_if _ (bytes_eq w (codes "tried")) _ _ (λ e. tried_told k text p (is (codes "tried") e))
      (λ _. took_if _ (bytes_eq w (codes "cancel")) (cancel_node p) (refuse Unexpected p) (λ e. cancel_told (is (codes "cancel") e)) (λ _. tt))))))))

pub node_told : (k : ℕ) (p : Place) → IfTook (IsNode k p.text) (node k p)
node_told k p = named_told k p.text (behind (length (first_item p.text)) p) (first_item p.text) (item_told p)
