-- A sheet that has a text is read from it.
use Rattle.std.proofs.Common.{◌≡◌, ℕ, suc, ◌<◌, ◌≤◌, List, [], ◌∷◌, ◌++◌, codes, length, None, Ok, refl, ap, sym, subst, ◌∙◌, append_assoc, arith, le_refl}
use Rattle.std.proofs.lemmas.Bool.{le-ltb}
use Rattle.std.proofs.lemmas.List.Elements.{recursion_from_All}
use Rattle.std.proofs.lemmas.Str.{utf8_valid_len-IsUtf8}
use Rattle.std.specs.List.{AllByRecursion}
use Rattle.std.specs.Str.{IsUtf8}
use Rattle.cw_text.specs.PrintedText.{printed_text}
use Rattle.cw_text.specs.Syntax.{Source}
use Rattle.cw_tree.specs.declared.node.Node.{Node}
use Rattle.cw_tree.specs.Nodes.{parent_of}
use Rattle.cw_sheet.specs.Contents.{Contents, HasLine, HasText}
use Rattle.cw_sheet.specs.Items.{Place, Taken, took, ◌into◌}
use Rattle.cw_sheet.specs.Laws.{IsInRange, IsSheetReadAs, IsValue, NodeFits, TextIsRead}
use Rattle.cw_sheet.specs.Reading.{behind_source, contents_from, judged_sheet, last, misplaced, sheet_reading, with_tree}
use Rattle.cw_sheet.specs.SheetText.{after_source, conflicts_part, decimals, end_part, first_line, last_line, limits_line, line, nodes_part, sheet_text, words_line}
use Rattle.cw_sheet.proofs.SheetText.Told.Items.{AllFrom}
use Rattle.cw_sheet.proofs.SheetText.Told.Nodes.{IsReadable}
use Rattle.cw_sheet.proofs.SheetText.Read.Ends.{conflicts_take, end_takes, nodes_take}
use Rattle.cw_sheet.proofs.SheetText.Read.Lines.{limits_takes, values_takes}
use Rattle.cw_sheet.proofs.SheetText.Read.Plain.{text_is_utf8}
use Rattle.cw_sheet.proofs.SheetText.Read.Sources.{IsSame, source_takes}
use Rattle.cw_sheet.proofs.SheetText.Read.Taking.{Takes, on_line}
use Rattle.cw_sheet.proofs.SheetText.Read.Trees.{tree_placed}

-- the contents were taken, with the line of the nodes, and nothing is left
record Reads (r : Taken (Contents × ℕ)) (c : Contents) : Type 0 where
  nodes_line : ℕ
  line : ℕ
  is : r ≡ took (c, nodes_line) (on_line line [])

then_reads : {A : Type 0} {x : A} {c : Contents} {middle : List ℕ} (r : Taken A) (f : A → Place → Taken (Contents × ℕ)) →
    Takes r x middle → ((l : ℕ) → Reads (f x (on_line l middle)) c) → Reads (r into f) c
then_reads r f h g = let k = g h.line in record { nodes_line = k.nodes_line; line = k.line; is = ap (λ s. s into f) h.is ∙ k.is }

-- ## The nodes

readable_from : (k : ℕ) (xs : List Node) → 0 < k → AllByRecursion HasLine xs → AllByRecursion NodeFits xs → AllFrom IsReadable k xs
readable_from k [] some h g = tt
readable_from k (x ∷ xs) some h g =
    (record { fit = record { line = h.0; root = λ e _. absurd (omega arith) }; range = g.0 }, readable_from (suc k) xs (omega arith) h.1 g.1)

all_readable : (t : List Node) → parent_of t 0 ≡ 0 → AllByRecursion HasLine t → AllByRecursion NodeFits t → AllFrom IsReadable 0 t
all_readable [] first h g = tt
all_readable (x ∷ xs) first h g = (record { fit = record { line = h.0; root = λ _ _. first }; range = g.0 }, readable_from 1 xs (omega arith) h.1 g.1)

-- ## From the line of the words on

last_reads : (c : Contents) (n l : ℕ) → Reads (last (on_line l last_line) into λ _ q. took (c, n) q) c
last_reads c n l = record { nodes_line = n; line = suc l; is = refl }

behind_reads : (c : Contents) (s : Source) (l : ℕ) → IsInRange c → AllFrom IsReadable 0 c.tree →
    Reads (behind_source s (on_line l (words_line c.words ++ (limits_line c.limits ++ (nodes_part c.tree ++ (conflicts_part c.conflicts ++ (end_part c.end ++ last_line))))))) (record c { source = s })
behind_reads c s l range readable =
    let e = end_part c.end ++ last_line in
    let k = conflicts_part c.conflicts ++ e in
    let n = nodes_part c.tree ++ k in
    let m = limits_line c.limits ++ n in
    then_reads _ _ (values_takes (codes "words") c.words l m refl (recursion_from_All IsValue c.words range.words))
    (λ l1. then_reads _ _ (limits_takes c.limits l1 n range.limits)
    (λ l2. then_reads _ _ (nodes_take c.tree l2 k range.nodes.0 readable)
    (λ l3. then_reads _ _ (conflicts_take c.conflicts l3 e range.conflicts.0 range.conflicts.1)
    (λ l4. then_reads _ _ (end_takes c.end l4 last_line range.end)
    (λ l5. last_reads (record c { source = s }) l2 l5)))))

-- the parts of a text, one behind the other
after_spelled : (c : Contents) → after_source c ≡ words_line c.words ++ (limits_line c.limits ++ (nodes_part c.tree ++ (conflicts_part c.conflicts ++ (end_part c.end ++ last_line))))
after_spelled c =
    let w = words_line c.words in
    let m = limits_line c.limits in
    let n = nodes_part c.tree in
    let k = conflicts_part c.conflicts in
    let e = end_part c.end in
    append_assoc (w ++ m ++ n ++ k) e last_line
    ∙ append_assoc (w ++ m ++ n) k (e ++ last_line)
    ∙ append_assoc (w ++ m) n (k ++ (e ++ last_line))
    ∙ append_assoc w m (n ++ (k ++ (e ++ last_line)))

text_spelled : (c : Contents) →
    let sized = line (codes "source") (decimals (length (printed_text c.source) ∷ [])) in
    sheet_text c ≡ first_line ++ (sized ++ (printed_text c.source ++ after_source c))
text_spelled c =
    let sized = line (codes "source") (decimals (length (printed_text c.source) ∷ [])) in
    append_assoc (first_line ++ sized) (printed_text c.source) (after_source c) ∙ append_assoc first_line sized (printed_text c.source ++ after_source c)

-- ## The whole

text_reads : (c : Contents) → HasText c → IsInRange c → (s : Source) × Reads (contents_from (on_line 1 (sheet_text c))) (record c { source = s }) × IsSame c.source s
text_reads c has range =
    let sized = line (codes "source") (decimals (length (printed_text c.source) ∷ [])) in
    let found = source_takes c.source 2 (after_source c) has.source range.source in
    let d : Contents = record c { source = found.read } in
    let readable = all_readable c.tree has.root (recursion_from_All HasLine c.tree has.lines) (recursion_from_All NodeFits c.tree range.nodes.1) in
    let behind : (l : ℕ) → Reads (behind_source found.read (on_line l (after_source c))) d =
    λ l. subst (λ u. Reads (behind_source found.read (on_line l u)) d) (sym (after_spelled c)) (behind_reads c found.read l range readable) in (
      found.read,
      subst (λ u. Reads (contents_from (on_line 1 u)) d) (sym (text_spelled c))
          (then_reads _ _ found.takes behind),
      found.same,
    )

judged_reads : (r : Taken (Contents × ℕ)) (c : Contents) → Reads r c → misplaced c.tree ≡ None → judged_sheet r ≡ Ok c
judged_reads r c h well = ap judged_sheet h.is ∙ ap (λ o. with_tree h.nodes_line o c) well

pub reading_is : (text : List ℕ) (c : Contents) → length text ≤ 67108864 → IsUtf8 text → judged_sheet (contents_from (on_line 1 text)) ≡ Ok c → sheet_reading text ≡ Ok c
reading_is text c short whole h = rw (le-ltb 67108864 (length text) short, utf8_valid_len-IsUtf8 text whole, le-ltb (length text) (length text) (le_refl (length text))) h

own_text_is_read : (c : Contents) → HasText c → IsInRange c → length (sheet_text c) ≤ 67108864 → IsSheetReadAs (sheet_reading (sheet_text c)) c
own_text_is_read c has range short =
    let h = text_reads c has range in
    let d : Contents = record c { source = h.0 } in
    let judged = judged_reads (contents_from (on_line 1 (sheet_text c))) d h.1 (tree_placed c.tree has.tree) in
    (h.0, reading_is (sheet_text c) d short (text_is_utf8 c has.source range) judged, h.2.language, h.2.tree)

pub text_is_read : TextIsRead
text_is_read text c h =
    subst (λ t. IsSheetReadAs (sheet_reading t) c) h.spelled
    (own_text_is_read c h.has_text h.range (subst (λ t. length t ≤ 67108864) (sym h.spelled) h.short))
