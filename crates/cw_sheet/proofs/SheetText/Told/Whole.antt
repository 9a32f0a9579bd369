-- What is read has a text, and was read from it.
use Rattle.std.proofs.Common.{◌≡◌, ℕ, suc, ◌≤◌, nat_lt, List, [], ◌∷◌, ◌++◌, codes, length, Option, Some, None, Ok, refl, ap, sym, subst, ◌∙◌, IsTrue, All}
use Rattle.std.proofs.lemmas.Bool.{cond_both, ltb-false}
use Rattle.std.proofs.lemmas.List.Elements.{All-cons, All-from_recursion, All-nil}
use Rattle.std.specs.Str.Lossy.{utf8_valid_len}
use Rattle.cw_text.specs.PrintedText.{printed_text}
use Rattle.cw_text.specs.Syntax.{Source}
use Rattle.cw_tree.specs.declared.node.Node.{Node}
use Rattle.cw_tree.specs.Nodes.{is_strand, parent_of}
use Rattle.cw_sheet.specs.Contents.{Contents, HasLine}
use Rattle.cw_sheet.specs.Items.{Place, Taken, took, refused}
use Rattle.cw_sheet.specs.Laws.{ConflictFits, HasOwnLines, IsInRange, IsTextOf, IsValue, NodeFits, ReadIsText}
use Rattle.cw_sheet.specs.Reading.{behind_source, conflicts, contents_from, heading, judged_sheet, last, limits, misplaced, nodes, run_end, source, values, with_tree}
use Rattle.cw_sheet.specs.SheetText.{before_source, conflicts_part, decimals, end_part, first_line, last_line, limits_line, line, nodes_part, sheet_text, words_line}
use Rattle.cw_sheet.proofs.SheetText.Beginning.{BeginsWith, one_more}
use Rattle.cw_sheet.proofs.SheetText.Told.Ends.{conflicts_told, last_told, nodes_told, run_end_told}
use Rattle.cw_sheet.proofs.SheetText.Told.Items.{AllFrom}
use Rattle.cw_sheet.proofs.SheetText.Told.Lines.{heading_told, limits_told, values_told}
use Rattle.cw_sheet.proofs.SheetText.Told.Nodes.{IsReadable}
use Rattle.cw_sheet.proofs.SheetText.Told.Sources.{IsReadSource, source_told}
use Rattle.cw_sheet.proofs.SheetText.Told.Taking.{IfTook, took_then}
use Rattle.cw_sheet.proofs.SheetText.Told.Trees.{tree_told}

-- the text is that of the contents, which have one if their tree is a tree
record IsTold (text : List ℕ) (c : Contents) : Type 0 where
  spelled : text ≡ sheet_text c
  source : IsReadSource c.source
  nodes : AllFrom IsReadable 0 c.tree
  range : IsInRange c

all_from : (P : Node → Type 0) (k : ℕ) (xs : List Node) → ((j : ℕ) (x : Node) → IsReadable j x → P x) → AllFrom IsReadable k xs → All P xs
all_from P k [] f h = All-nil P
all_from P k (x ∷ xs) f h = All-cons P x xs (f k x h.0) (all_from P (suc k) xs f h.1)

behind_told : (text : List ℕ) (s : Source) (p : Place) → BeginsWith text (before_source (length (printed_text s)) ++ printed_text s) p.text → IsReadSource s →
    IfTook (λ c q. IsTold text c.0) (behind_source s p)
behind_told text s p begun read =
    took_then _ _ (values (codes "words") p) _ (values_told (codes "words") p)
    (λ words p1 h1. took_then _ _ (limits p1) _ (limits_told p1)
    (λ l p2 h2. took_then _ _ (nodes p2) _ (nodes_told p2)
    (λ tree p3 h3. took_then _ _ (conflicts p3) _ (conflicts_told p3)
    (λ ks p4 h4. took_then _ _ (run_end p4) _ (run_end_told p4)
    (λ e p5 h5. took_then _ _ (last p5) _ (last_told p5)
    (λ _ q h6.
    let w = words_line words in
    let wl = w ++ limits_line l in
    let wln = wl ++ nodes_part tree in
    let wlnk = wln ++ conflicts_part ks in
    let parts = one_more wlnk (end_part e) (one_more wln (conflicts_part ks) (one_more wl (nodes_part tree) (one_more w (limits_line l) h1.0 h2.0) h3.0) h4.0) h5.0 in
    let behind : p.text ≡ wlnk ++ end_part e ++ last_line = parts.is ∙ ap (λ r. wlnk ++ end_part e ++ r) h6 in
    record {
      spelled = begun.is ∙ ap (λ r. before_source (length (printed_text s)) ++ printed_text s ++ r) behind;
      source = read;
      nodes = h3.2;
      range = record {
        source = read.few;
        words = All-from_recursion IsValue words h1.1;
        limits = h2.1;
        nodes = (h3.1, all_from NodeFits 0 tree (λ j x node. node.range) h3.2);
        conflicts = (h4.1, All-from_recursion ConflictFits ks h4.2);
        end = h5.1;
      };
    }))))))

contents_told : (p : Place) → IfTook (λ c q. IsTold p.text c.0) (contents_from p)
contents_told p =
    took_then _ _ (heading p) _ (heading_told p)
    (λ _ p1 h. took_then _ _ (source p1) _ (source_told p1)
    (λ s p2 g.
    let sized = line (codes "source") (decimals (length (printed_text s) ∷ [])) in
    behind_told p.text s p2 (one_more (first_line ++ sized) (printed_text s) (one_more first_line sized h g.sized) g.spelled) g.source))

-- ## The contract of what was read

root_told : (xs : List Node) → AllFrom IsReadable 0 xs → IsTrue (is_strand xs 0) → parent_of xs 0 ≡ 0
root_told [] h strand = refl
root_told (x ∷ xs) h strand = h.0.fit.root refl strand

is_text_of : (text : List ℕ) (c : Contents) → length text ≤ 67108864 → IsTold text c → misplaced c.tree ≡ None → IsTextOf text c
is_text_of text c short h well =
    let tree = tree_told c.tree well in
    record {
      has_text = record { source = h.source.has; tree = tree; root = root_told c.tree h.nodes tree.root; lines = all_from HasLine 0 c.tree (λ j x node. node.fit.line) h.nodes };
      range = h.range;
      spelled = sym h.spelled;
      short = short;
    }

-- what the law says
abbrev IsRead : List ℕ → Contents → Type 0
IsRead text c = IsTextOf text c × HasOwnLines c.source

tree_judged : (text : List ℕ) (l : ℕ) (c d : Contents) (o : Option ℕ) → length text ≤ 67108864 → misplaced c.tree ≡ o → IsTold text c → with_tree l o c ≡ Ok d → IsRead text d
tree_judged text l c d None short well h e = let same : c ≡ d = cc in subst (IsRead text) same (is_text_of text c short h well, h.source.own)
tree_judged text l c d (Some k) short well h e = cc

sheet_judged : (text : List ℕ) (r : Taken (Contents × ℕ)) (d : Contents) → length text ≤ 67108864 → IfTook (λ c q. IsTold text c.0) r → judged_sheet r ≡ Ok d → IsRead text d
sheet_judged text (took c q) d short h e = tree_judged text c.1 c.0 d (misplaced c.0.tree) short refl h e
sheet_judged text (refused f) d short h e = cc

pub read_is_text : ReadIsText
read_is_text text c =
    cond_both (nat_lt 67108864 (length text)) _ _ (λ r. r ≡ Ok c → IsRead text c) (λ _ e. cc)
    (λ short. cond_both (nat_lt (utf8_valid_len text) (length text)) _ _ (λ r. r ≡ Ok c → IsRead text c) (λ _ e. cc)
    (λ _ e. sheet_judged text (contents_from (record { line = 1; text = text })) c (ltb-false 67108864 (length text) short) (contents_told (record { line = 1; text = text })) e))
