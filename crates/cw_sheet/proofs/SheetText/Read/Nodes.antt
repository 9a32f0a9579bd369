-- A node is taken as what its line spells.
use Rattle.std.proofs.Common.{◌≡◌, ℕ, zero, suc, ◌==◌, ◌^◌, ◌<◌, ◌&&◌, false, not, List, [], ◌∷◌, ◌++◌, codes, length, map, ℤ, refl, ap, sym, subst, subst₂, ◌∙◌, append_assoc, arith, All}
use Rattle.std.proofs.lemmas.Bool.{and_left, eq-eqb, ne_eqb}
use Rattle.std.proofs.lemmas.List.Elements.{recursion_from_All}
use Rattle.std.specs.Fmt.{decimal, signed_decimal}
use Rattle.cw_code.specs.declared.Back.{Back}
use Rattle.cw_tree.specs.declared.node.Node.{Node}
use Rattle.cw_tree.specs.declared.node.Kind.{Kind}
use Rattle.cw_tree.specs.declared.node.Kind.TheVariants.{Strand, Fork, Block, Read, Write, Out, Tried, Cancel}
use Rattle.cw_tree.specs.declared.node.BlockState.{BlockState}
use Rattle.cw_tree.specs.declared.node.BlockState.TheVariants.{Pending, Committed, Aborted}
use Rattle.cw_sheet.specs.Items.{Taken, all_behind, first_item}
use Rattle.cw_sheet.specs.Laws.{BackFits, IsCountable, IsValue, KindFits}
use Rattle.cw_sheet.specs.Reading.{access_node, back, block_node, cancel_node, fork_node, node, other_node, out_node, state, strand_node, tried_node}
use Rattle.cw_sheet.specs.SheetText.{back_items, kind_line, node_line, state_word}
use Rattle.cw_sheet.proofs.SheetText.Told.Nodes.{IsFit, IsReadable}
use Rattle.cw_sheet.proofs.SheetText.Read.Items.{all_behind_takes, number_takes, value_takes}
use Rattle.cw_sheet.proofs.SheetText.Read.Lines.{number32_takes, number64_takes}
use Rattle.cw_sheet.proofs.SheetText.Read.Taking.{Takes, on_line, ends_there, line_takes, spell, takes_if, takes_unless, then_takes}

-- ## Parts of lines

state_takes : (s : BlockState) (l : ℕ) (rest : List ℕ) → Takes (state (on_line l ((32 ∷ state_word s) ++ (32 ∷ rest)))) s (32 ∷ rest)
state_takes Pending l rest = record { line = l; is = refl }
state_takes Committed l rest = record { line = l; is = refl }
state_takes Aborted l rest = record { line = l; is = refl }

-- a cell and its value
abbrev back_pair : Back → List ℕ
back_pair b = decimal b.cell ++ (32 ∷ signed_decimal b.value)

back_takes : (b : Back) (l : ℕ) (rest : List ℕ) → BackFits b → first_item rest ≡ [] → Takes (back (on_line l ((32 ∷ back_pair b) ++ rest))) b rest
back_takes b l rest fit ends =
    let behind = (32 ∷ signed_decimal b.value) ++ rest in
    subst (λ s. Takes (back (on_line l s)) b rest) (sym (append_assoc (32 ∷ decimal b.cell) (32 ∷ signed_decimal b.value) rest))
    (then_takes _ _ (number32_takes b.cell l behind fit.cell refl)
    (λ l1. then_takes _ _ (value_takes b.value l1 rest fit.value ends)
    (λ l2. record { line = l2; is = refl })))

backs_spelled : (bs : List Back) (rest : List ℕ) → spell (back_items bs) rest ≡ spell (map back_pair bs) rest
backs_spelled [] rest = refl
backs_spelled (b ∷ bs) rest =
    ap (λ r. (32 ∷ decimal b.cell) ++ ((32 ∷ signed_decimal b.value) ++ r)) (backs_spelled bs rest)
    ∙ sym (append_assoc (32 ∷ decimal b.cell) (32 ∷ signed_decimal b.value) (spell (map back_pair bs) rest))

backs_take : (bs : List Back) (l : ℕ) (rest : List ℕ) → All BackFits bs → Takes (all_behind back (on_line l (spell (back_items bs) (10 ∷ rest)))) bs (10 ∷ rest)
backs_take bs l rest fit =
    subst (λ s. Takes (all_behind back (on_line l s)) bs (10 ∷ rest)) (sym (backs_spelled bs (10 ∷ rest)))
    (all_behind_takes back_pair BackFits back back_takes bs l rest (recursion_from_All BackFits bs fit))

backs_end : (bs : List Back) (rest : List ℕ) → first_item (spell (back_items bs) (10 ∷ rest)) ≡ []
backs_end bs rest = ends_there (back_items bs) rest

-- ## One kind after the other

-- node 0 has the parent 0
root_free : (k parent : ℕ) → (k ≡ 0 → parent ≡ 0) → (k == 0 && not (parent == 0)) ≡ false
root_free zero parent first = ap (λ n. not (n == 0)) (first refl)
root_free (suc k) parent first = and_left (suc k == 0) (not (parent == 0)) (ne_eqb (suc k) 0 (λ e. omega arith))

strand_takes : (k parent l : ℕ) (rest : List ℕ) → parent < 2 ^ 32 → (k ≡ 0 → parent ≡ 0) →
    Takes (strand_node k (on_line l (spell (decimal parent ∷ []) (10 ∷ rest)))) (other_node parent Strand 0) rest
strand_takes k parent l rest low first =
    then_takes _ _ (number32_takes parent l (10 ∷ rest) low refl)
    (λ l1. takes_unless (k == 0 && not (parent == 0)) _ _ (other_node parent Strand 0) rest (root_free k parent first) (record { line = suc l1; is = refl }))

fork_takes : (parent stamp l : ℕ) (rest : List ℕ) → parent < 2 ^ 32 → stamp < 2 ^ 64 →
    Takes (fork_node (on_line l (spell (decimal parent ∷ decimal stamp ∷ []) (10 ∷ rest)))) (other_node parent Fork stamp) rest
fork_takes parent stamp l rest low small =
    then_takes _ _ (number32_takes parent l (spell (decimal stamp ∷ []) (10 ∷ rest)) low refl)
    (λ l1. then_takes _ _ (number64_takes stamp l1 (10 ∷ rest) small refl)
    (λ l2. record { line = suc l2; is = refl }))

block_takes : (parent stamp : ℕ) (s : BlockState) (e l : ℕ) (rest : List ℕ) → parent < 2 ^ 32 → stamp < 2 ^ 64 → e < 2 ^ 64 →
    Takes (block_node (on_line l (spell (decimal parent ∷ decimal stamp ∷ state_word s ∷ decimal e ∷ []) (10 ∷ rest))))
    (record { parent = parent; kind = Block; state = s; stamp = stamp; end = e }) rest
block_takes parent stamp s e l rest low small later =
    then_takes _ _ (number32_takes parent l (spell (decimal stamp ∷ state_word s ∷ decimal e ∷ []) (10 ∷ rest)) low refl)
    (λ l1. then_takes _ _ (number64_takes stamp l1 (spell (state_word s ∷ decimal e ∷ []) (10 ∷ rest)) small refl)
    (λ l2. then_takes _ _ (state_takes s l2 (decimal e ++ (10 ∷ rest)))
    (λ l3. then_takes _ _ (number64_takes e l3 (10 ∷ rest) later refl)
    (λ l4. record { line = suc l4; is = refl }))))

access_takes : (kind : ℕ → ℤ → Kind) (parent stamp cell : ℕ) (v : ℤ) (l : ℕ) (rest : List ℕ) → parent < 2 ^ 32 → stamp < 2 ^ 64 → cell < 2 ^ 32 → IsValue v →
    Takes (access_node kind (on_line l (spell (decimal parent ∷ decimal stamp ∷ decimal cell ∷ signed_decimal v ∷ []) (10 ∷ rest)))) (other_node parent (kind cell v) stamp) rest
access_takes kind parent stamp cell v l rest low small known fit =
    then_takes _ _ (number32_takes parent l (spell (decimal stamp ∷ decimal cell ∷ signed_decimal v ∷ []) (10 ∷ rest)) low refl)
    (λ l1. then_takes _ _ (number64_takes stamp l1 (spell (decimal cell ∷ signed_decimal v ∷ []) (10 ∷ rest)) small refl)
    (λ l2. then_takes _ _ (number32_takes cell l2 (spell (signed_decimal v ∷ []) (10 ∷ rest)) known refl)
    (λ l3. then_takes _ _ (value_takes v l3 (10 ∷ rest) fit refl)
    (λ l4. record { line = suc l4; is = refl }))))

out_takes : (parent stamp : ℕ) (v : ℤ) (l : ℕ) (rest : List ℕ) → parent < 2 ^ 32 → stamp < 2 ^ 64 → IsValue v →
    Takes (out_node (on_line l (spell (decimal parent ∷ decimal stamp ∷ signed_decimal v ∷ []) (10 ∷ rest)))) (other_node parent (Out v) stamp) rest
out_takes parent stamp v l rest low small fit =
    then_takes _ _ (number32_takes parent l (spell (decimal stamp ∷ signed_decimal v ∷ []) (10 ∷ rest)) low refl)
    (λ l1. then_takes _ _ (number64_takes stamp l1 (spell (signed_decimal v ∷ []) (10 ∷ rest)) small refl)
    (λ l2. then_takes _ _ (value_takes v l2 (10 ∷ rest) fit refl)
    (λ l3. record { line = suc l3; is = refl })))

tried_takes : (parent cell l : ℕ) (rest : List ℕ) → parent < 2 ^ 32 → cell < 2 ^ 32 →
    Takes (tried_node (on_line l (spell (decimal parent ∷ decimal cell ∷ []) (10 ∷ rest)))) (other_node parent (Tried cell) 0) rest
tried_takes parent cell l rest low known =
    then_takes _ _ (number32_takes parent l (spell (decimal cell ∷ []) (10 ∷ rest)) low refl)
    (λ l1. then_takes _ _ (number32_takes cell l1 (10 ∷ rest) known refl)
    (λ l2. record { line = suc l2; is = refl }))

cancel_takes : (parent stamp : ℕ) (bs : List Back) (l : ℕ) (rest : List ℕ) → parent < 2 ^ 32 → stamp < 2 ^ 64 → IsCountable bs → All BackFits bs →
    Takes (cancel_node (on_line l (spell (decimal parent ∷ decimal stamp ∷ decimal (length bs) ∷ back_items bs) (10 ∷ rest)))) (other_node parent (Cancel bs) stamp) rest
cancel_takes parent stamp bs l rest low small few fit =
    let backs = spell (back_items bs) (10 ∷ rest) in
    then_takes _ _ (number32_takes parent l (spell (decimal stamp ∷ decimal (length bs) ∷ back_items bs) (10 ∷ rest)) low refl)
    (λ l1. then_takes _ _ (number64_takes stamp l1 (spell (decimal (length bs) ∷ back_items bs) (10 ∷ rest)) small refl)
    (λ l2. then_takes _ _ (number_takes 100000001 (length bs) l2 backs (omega arith) (omega arith) (backs_end bs rest))
    (λ l3. then_takes _ _ (backs_take bs l3 rest fit)
    (λ l4. takes_if (length bs == length bs) _ _ (other_node parent (Cancel bs) stamp) rest (eq-eqb (length bs) (length bs) refl) (record { line = suc l4; is = refl })))))

-- ## A node of any kind

-- what a line does not tell
as_other : (r : Taken Node) (parent : ℕ) (kind : Kind) (stamp : ℕ) (s : BlockState) (e : ℕ) (rest : List ℕ) → s ≡ Committed → e ≡ 0 →
    Takes r (other_node parent kind stamp) rest → Takes r (record { parent = parent; kind = kind; state = s; stamp = stamp; end = e }) rest
as_other r parent kind stamp s e rest committed none h =
    subst₂ (λ s e. Takes r (record { parent = parent; kind = kind; state = s; stamp = stamp; end = e }) rest) (sym committed) (sym none) h

as_unstamped : (r : Taken Node) (parent : ℕ) (kind : Kind) (stamp : ℕ) (s : BlockState) (e : ℕ) (rest : List ℕ) → stamp ≡ 0 → s ≡ Committed → e ≡ 0 →
    Takes r (other_node parent kind 0) rest → Takes r (record { parent = parent; kind = kind; state = s; stamp = stamp; end = e }) rest
as_unstamped r parent kind stamp s e rest zero_ committed none h = as_other r parent kind stamp s e rest committed none (subst (λ n. Takes r (other_node parent kind n) rest) (sym zero_) h)

kind_takes : (k : ℕ) (kind : Kind) (parent stamp : ℕ) (s : BlockState) (e l : ℕ) (rest : List ℕ) →
    IsFit k (record { parent = parent; kind = kind; state = s; stamp = stamp; end = e }) → parent < 2 ^ 32 → stamp < 2 ^ 64 → e < 2 ^ 64 → KindFits kind →
    Takes (node k (on_line l (kind_line kind parent stamp s e ++ rest))) (record { parent = parent; kind = kind; state = s; stamp = stamp; end = e }) rest
kind_takes k Strand parent stamp s e l rest fit low small later fits =
    as_unstamped _ parent Strand stamp s e rest (fit.line.stamp refl) (fit.line.state refl) (fit.line.end refl)
    (line_takes (node k) (codes "strand") (decimal parent ∷ []) l rest (strand_takes k parent l rest low (λ first. fit.root first refl)))
kind_takes k Fork parent stamp s e l rest fit low small later fits =
    as_other _ parent Fork stamp s e rest (fit.line.state refl) (fit.line.end refl)
    (line_takes (node k) (codes "fork") (decimal parent ∷ decimal stamp ∷ []) l rest (fork_takes parent stamp l rest low small))
kind_takes k Block parent stamp s e l rest fit low small later fits =
    line_takes (node k) (codes "block") (decimal parent ∷ decimal stamp ∷ state_word s ∷ decimal e ∷ []) l rest (block_takes parent stamp s e l rest low small later)
kind_takes k (Read cell v) parent stamp s e l rest fit low small later fits =
    as_other _ parent (Read cell v) stamp s e rest (fit.line.state refl) (fit.line.end refl)
    (line_takes (node k) (codes "read") (decimal parent ∷ decimal stamp ∷ decimal cell ∷ signed_decimal v ∷ []) l rest
    (access_takes (λ c v. Read c v) parent stamp cell v l rest low small fits.0 fits.1))
kind_takes k (Write cell v) parent stamp s e l rest fit low small later fits =
    as_other _ parent (Write cell v) stamp s e rest (fit.line.state refl) (fit.line.end refl)
    (line_takes (node k) (codes "write") (decimal parent ∷ decimal stamp ∷ decimal cell ∷ signed_decimal v ∷ []) l rest
    (access_takes (λ c v. Write c v) parent stamp cell v l rest low small fits.0 fits.1))
kind_takes k (Out v) parent stamp s e l rest fit low small later fits =
    as_other _ parent (Out v) stamp s e rest (fit.line.state refl) (fit.line.end refl)
    (line_takes (node k) (codes "out") (decimal parent ∷ decimal stamp ∷ signed_decimal v ∷ []) l rest (out_takes parent stamp v l rest low small fits))
kind_takes k (Tried cell) parent stamp s e l rest fit low small later fits =
    as_unstamped _ parent (Tried cell) stamp s e rest (fit.line.stamp refl) (fit.line.state refl) (fit.line.end refl)
    (line_takes (node k) (codes "tried") (decimal parent ∷ decimal cell ∷ []) l rest (tried_takes parent cell l rest low fits))
kind_takes k (Cancel bs) parent stamp s e l rest fit low small later fits =
    as_other _ parent (Cancel bs) stamp s e rest (fit.line.state refl) (fit.line.end refl)
    (line_takes (node k) (codes "cancel") (decimal parent ∷ decimal stamp ∷ decimal (length bs) ∷ back_items bs) l rest (cancel_takes parent stamp bs l rest low small fits.0 fits.1))

pub node_takes : (k : ℕ) (x : Node) (l : ℕ) (rest : List ℕ) → IsReadable k x → Takes (node k (on_line l (node_line x ++ rest))) x rest
node_takes k x l rest h = kind_takes k x.kind x.parent x.stamp x.state x.end l rest h.fit h.range.parent h.range.stamp h.range.end h.range.kind
