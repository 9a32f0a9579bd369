-- Nodes, conflicts and the end that were taken are spelled so.
use Rattle.std.proofs.Common.{◌≡◌, ℕ, suc, ◌==◌, ◌<◌, ◌≤◌, ◌^◌, true, List, [], ◌∷◌, ◌++◌, codes, length, Option, Some, None, refl, ap, sym, subst, ◌∙◌, append-nil, arith}
use Rattle.std.proofs.lemmas.Bool.{cond_both, eqb-true}
use Rattle.std.proofs.lemmas.List.Elements.{All-from_recursion}
use Rattle.std.specs.Cmp.Lexicographic.{bytes_decides}
use Rattle.std.specs.Fmt.{decimal}
use Rattle.std.specs.List.{AllByRecursion, flat_map}
use Rattle.std.specs.Str.{bytes_eq}
use Rattle.cw_code.specs.declared.FaultKind.{FaultKind}
use Rattle.cw_code.specs.FaultNames.{fault_name}
use Rattle.cw_tree.specs.declared.conflict.Conflict.{Conflict}
use Rattle.cw_record.specs.declared.record_end.RecordEnd.TheVariants.{Fault, Budget, Moves}
use Rattle.cw_sheet.specs.declared.sheet.SheetKind.TheVariants.{Unexpected}
use Rattle.cw_sheet.specs.Items.{Place, Taken, took, ◌into◌, all_behind, behind, count, exactly, first_item, first_number32, line_done, newline, next_item, next_word, number32, number64, refuse, word}
use Rattle.cw_sheet.specs.Laws.{ConflictFits, EndFits, Fits32, Fits64, IsCountable, IsValue}
use Rattle.cw_sheet.specs.Reading.{conflict_row, conflicts, end_named, fault_kinds, fault_named, finished, last, named_fault, node, nodes, run_end, values}
use Rattle.cw_sheet.specs.SheetText.{conflict_line, conflicts_part, decimals, end_part, fault_line, last_line, line, node_line, nodes_part, signed_decimals}
use Rattle.cw_sheet.proofs.SheetText.Beginning.{BeginsWith, item, line_of, none, one_more, same_part, some, spaced_map}
use Rattle.cw_sheet.proofs.SheetText.Told.Items.{AllFrom, done_then, exactly_told, first_number_told, item_told, line_done_told, newline_told, next_item_told, next_word_told, number_told, up_to_told, word_told}
use Rattle.cw_sheet.proofs.SheetText.Told.Lines.{values_told}
use Rattle.cw_sheet.proofs.SheetText.Told.Nodes.{IsReadable, node_told}
use Rattle.cw_sheet.proofs.SheetText.Told.Taking.{IfTook, took_if, took_so, took_then}

-- a line `word COUNT`, and as many behind it
module _ {A : Type 0} (t : A → List ℕ) (P : ℕ → A → Type 0) (each : ℕ → Place → Taken A)
    (told : (k : ℕ) (p : Place) → IfTook (λ x q. BeginsWith p.text (t x) q.text × P k x) (each k p)) where
  counted_told : (w text : List ℕ) (p : Place) → BeginsWith text w p.text →
      IfTook (λ xs q. BeginsWith text (line w (decimals (length xs ∷ [])) ++ flat_map t xs) q.text × IsCountable xs × AllFrom P 0 xs) (count p into λ n p. line_done n p into λ n p. exactly n 0 each p)
  counted_told w text p h =
      took_then _ _ (count p) _ (number_told 100000001 p)
      (λ n p1 h1. done_then _ n p1 (λ n p. exactly n 0 each p)
      (λ p2 h2. took_so _ _ (exactly n 0 each p2) (exactly_told t P each told n 0 p2)
      (λ xs q g.
      let counted = subst (λ m. BeginsWith p.text (32 ∷ decimal m) p1.text) (sym g.1) h1.0 in
      let few : length xs ≤ 100000000 = (let low : n < 100000001 = h1.1 in omega (arith, g.1)) in
      (one_more (line w (decimals (length xs ∷ []))) (flat_map t xs) (line_of w (decimals (length xs ∷ [])) h (item counted none) h2) g.0, few, g.2))))

pub nodes_told : (p : Place) → IfTook (λ xs q. BeginsWith p.text (nodes_part xs) q.text × IsCountable xs × AllFrom IsReadable 0 xs) (nodes p)
nodes_told p =
    took_then _ _ (word (codes "nodes") p) _ (word_told (codes "nodes") p)
    (λ _ p1 h. counted_told node_line IsReadable node node_told (codes "nodes") p.text p1 h)

-- ## Conflicts

conflict_told : (p : Place) → IfTook (λ x q. BeginsWith p.text (conflict_line x) q.text × ConflictFits x) (conflict_row p)
conflict_told p =
    took_then _ _ (first_number32 p) _ (first_number_told (2 ^ 32) p)
    (λ cell p0 h0. took_then _ _ (number64 p0) _ (number_told (2 ^ 64) p0)
    (λ last p1 h1. took_then _ _ (number32 p1) _ (number_told (2 ^ 32) p1)
    (λ asker p2 h2. took_then _ _ (number64 p2) _ (number_told (2 ^ 64) p2)
    (λ block p3 h3. took_then _ _ (number64 p3) _ (number_told (2 ^ 64) p3)
    (λ victim p4 h4. took_then _ _ (number32 p4) _ (number_told (2 ^ 32) p4)
    (λ attempt p5 h5. took_then _ _ (all_behind number64 p5) _ (up_to_told (λ n. 32 ∷ decimal n) Fits64 number64 (number_told (2 ^ 64)) (length p5.text) p5)
    (λ chain p6 h6. line_done_told _ _ p6
    (λ q f. (
      line_of (decimal cell) (decimals (last ∷ asker ∷ block ∷ victim ∷ attempt ∷ chain)) h0.0
          (item h1.0 (item h2.0 (item h3.0 (item h4.0 (item h5.0 (some (same_part _ (spaced_map (λ n. decimal n) chain) h6.0))))))) f,
      record { cell = h0.1; last = h1.1; asker = h2.1; block = h3.1; victim = h4.1; attempt = h5.1; chain = All-from_recursion Fits64 chain h6.1 },
    )))))))))

all_fit : (k : ℕ) (xs : List Conflict) → AllFrom (λ _ x. ConflictFits x) k xs → AllByRecursion ConflictFits xs
all_fit k [] h = tt
all_fit k (x ∷ xs) h = (h.0, all_fit (suc k) xs h.1)

pub conflicts_told : (p : Place) → IfTook (λ xs q. BeginsWith p.text (conflicts_part xs) q.text × IsCountable xs × AllByRecursion ConflictFits xs) (conflicts p)
conflicts_told p =
    took_then _ _ (word (codes "conflicts") p) _ (word_told (codes "conflicts") p)
    (λ _ p1 h. took_so _ _ (count p1 into λ n p. line_done n p into λ n p. exactly n 0 (λ k q. conflict_row q) p)
    (counted_told conflict_line (λ _ x. ConflictFits x) (λ k q. conflict_row q) (λ k q. conflict_told q) (codes "conflicts") p.text p1 h)
    (λ xs q g. (g.0, g.1, all_fit 0 xs g.2)))

-- ## The end

finished_told : (text : List ℕ) (p : Place) → BeginsWith text (line (codes "finished") []) p.text → IfTook (λ e q. BeginsWith text (end_part e) q.text × EndFits e) (finished p)
finished_told text p h =
    took_then _ _ (values (codes "memory") p) _ (values_told (codes "memory") p)
    (λ memory p1 h1. took_then _ _ (values (codes "outputs") p1) _ (values_told (codes "outputs") p1)
    (λ outputs q h2. (
      one_more (line (codes "finished") [] ++ line (codes "memory") (signed_decimals memory)) (line (codes "outputs") (signed_decimals outputs))
          (one_more (line (codes "finished") []) (line (codes "memory") (signed_decimals memory)) h h1.0) h2.0,
      (All-from_recursion IsValue memory h1.1, All-from_recursion IsValue outputs h2.1),
    )))

-- the kind that a word names
named_so : (w : List ℕ) (ks : List FaultKind) (k : FaultKind) → fault_named w ks ≡ Some k → w ≡ fault_name k
named_so w [] k e = cc
named_so w (x ∷ xs) k e =
    cond_both (bytes_eq w (fault_name x)) (Some x) (fault_named w xs) (λ o. o ≡ Some k → w ≡ fault_name k)
    (λ same h. let one : x ≡ k = cc in (bytes_decides w (fault_name x)).0 same ∙ ap fault_name one)
    (λ _ h. named_so w xs k h) e

named_fault_told : (text i : List ℕ) (s : ℕ) (p : Place) (o : Option FaultKind) → ((k : FaultKind) → o ≡ Some k → i ≡ fault_name k) →
    ((k : FaultKind) (q : Place) → i ≡ fault_name k → BeginsWith p.text (10 ∷ []) q.text → BeginsWith text (fault_line s k) q.text × Fits32 s) →
    IfTook (λ e q. BeginsWith text (end_part e) q.text × EndFits e) (named_fault o s p)
named_fault_told text i s p None is told = tt
named_fault_told text i s p (Some k) is told = line_done_told _ (Fault s k) p (λ q f. told k q (is k refl) f)

fault_told : (text : List ℕ) (p : Place) → BeginsWith text (codes "fault") p.text →
    IfTook (λ e q. BeginsWith text (end_part e) q.text × EndFits e) (number32 p into λ s p. next_item p into λ i p. named_fault (fault_named i fault_kinds) s p)
fault_told text p h =
    took_then _ _ (number32 p) _ (number_told (2 ^ 32) p)
    (λ s p1 h1. took_then _ _ (next_item p1) _ (next_item_told p1)
    (λ i p2 h2. named_fault_told text i s p2 (fault_named i fault_kinds) (λ k e. named_so i fault_kinds k e)
    (λ k q same f. (line_of (codes "fault") (decimal s ∷ fault_name k ∷ []) h (item h1.0 (item (same_part (32 ∷ fault_name k) (ap (λ j. 32 ∷ j) same) h2) none)) f, h1.1))))

end_told : (text w : List ℕ) (p : Place) → BeginsWith text w p.text → IfTook (λ e q. BeginsWith text (end_part e) q.text × EndFits e) (end_named w p)
end_told text w p h =
    let is = λ (v : List ℕ) (e : bytes_eq w v ≡ true). same_part v ((bytes_decides w v).0 e) h in
    took_if _ (bytes_eq w (codes "finished")) _ _
    (λ e. took_then _ _ (newline p) _ (newline_told p) (λ _ p1 f. finished_told text p1 (line_of (codes "finished") [] (is (codes "finished") e) none f)))
    (λ _. took_if _ (bytes_eq w (codes "fault")) _ _ (λ e. fault_told text p (is (codes "fault") e))
    (λ _. took_if _ (bytes_eq w (codes "budget")) _ _
    (λ e. took_then _ _ (number32 p) _ (number_told (2 ^ 32) p)
    (λ s p1 h1. line_done_told _ (Budget s) p1 (λ q f. (line_of (codes "budget") (decimal s ∷ []) (is (codes "budget") e) (item h1.0 none) f, h1.1))))
    (λ _. took_if _ (bytes_eq w (codes "moves")) (line_done Moves p) (refuse Unexpected p)
    (λ e. line_done_told _ Moves p (λ q f. (line_of (codes "moves") [] (is (codes "moves") e) none f, tt))) (λ _. tt))))

pub run_end_told : (p : Place) → IfTook (λ e q. BeginsWith p.text (end_part e) q.text × EndFits e) (run_end p)
run_end_told p = end_told p.text (first_item p.text) (behind (length (first_item p.text)) p) (item_told p)

-- ## The last line

is_empty : (xs : List ℕ) → (length xs == 0) ≡ true → xs ≡ []
is_empty [] e = refl
is_empty (x ∷ xs) e = let h : suc (length xs) ≡ 0 = eqb-true (suc (length xs)) 0 e in absurd (omega arith)

pub last_told : (p : Place) → IfTook (λ _ q. p.text ≡ last_line) (last p)
last_told p =
    took_then _ _ (word (codes "end") p) _ (word_told (codes "end") p)
    (λ _ p1 h. took_then _ _ (next_word (codes "record") p1) _ (next_word_told (codes "record") p1)
    (λ _ p2 g. took_then _ _ (newline p2) _ (newline_told p2)
    (λ _ p3 f. took_if _ (length p3.text == 0) (took tt p3) (refuse Unexpected p3)
    (λ e. (line_of (codes "end") (codes "record" ∷ []) h (item g none) f).is ∙ ap (λ r. last_line ++ r) (is_empty p3.text e) ∙ append-nil last_line) (λ _. tt))))
