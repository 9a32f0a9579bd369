-- The text of a sheet has whole characters: all behind the source and before it is ASCII.
use Rattle.std.proofs.Common.{◌≡◌, ℕ, zero, suc, ◌^◌, ◌<◌, ◌≤◌, true, nat_lt, List, [], ◌∷◌, ◌++◌, codes, length, take, ℤ, pos, negsuc, Ok, refl, ap, subst, arith}
use Rattle.std.proofs.lemmas.Bool.{and_parts, cond_both, ltb-false, ltb-true}
use Rattle.std.proofs.lemmas.Fmt.{IsAscii-decimal}
use Rattle.std.proofs.lemmas.List.Elements.{recursion_from_All}
use Rattle.std.proofs.lemmas.Str.{IsAscii-append, IsUtf8-append, IsUtf8-from_ascii, IsUtf8-from_is_utf8, IsUtf8-nil, utf8_valid_len_le}
use Rattle.std.proofs.lemmas.Str.Ascii.{IsAscii-cons, IsAscii-nil}
use Rattle.std.specs.Fmt.{decimal, signed_decimal}
use Rattle.std.specs.List.{AllByRecursion, flat_map, list_all}
use Rattle.std.specs.Str.{IsAscii, IsUtf8, is_utf8}
use Rattle.std.specs.Str.Lossy.{utf8_valid_len, valid_len_up_to}
use Rattle.cw_text.specs.PrintedText.{printed_text}
use Rattle.cw_text.specs.Syntax.{Source}
use Rattle.cw_text.specs.Text.{reading}
use Rattle.cw_code.specs.declared.Back.{Back}
use Rattle.cw_code.specs.declared.Limits.{Limits}
use Rattle.cw_code.specs.declared.FaultKind.{FaultKind}
use Rattle.cw_code.specs.declared.FaultKind.TheVariants as fault
use Rattle.cw_code.specs.FaultNames.{fault_name}
use Rattle.cw_tree.specs.declared.conflict.Conflict.{Conflict}
use Rattle.cw_tree.specs.declared.node.Node.{Node}
use Rattle.cw_tree.specs.declared.node.Kind.{Kind}
use Rattle.cw_tree.specs.declared.node.Kind.TheVariants.{Strand, Fork, Block, Read, Write, Out, Tried, Cancel}
use Rattle.cw_tree.specs.declared.node.BlockState.{BlockState}
use Rattle.cw_tree.specs.declared.node.BlockState.TheVariants.{Pending, Committed, Aborted}
use Rattle.cw_record.specs.declared.record_end.RecordEnd.{RecordEnd}
use Rattle.cw_record.specs.declared.record_end.RecordEnd.TheVariants.{Finished, Fault, Budget, Moves}
use Rattle.cw_sheet.specs.Contents.{Contents, HasSourceText}
use Rattle.cw_sheet.specs.Laws.{BackFits, ConflictFits, EndFits, Fits64, IsInRange, IsValue, KindFits, LimitsFit, NodeFits}
use Rattle.cw_sheet.specs.SheetText.{after_source, back_items, before_source, conflict_line, conflicts_part, decimals, end_part, kind_line, last_line, limits_line, line, node_line, nodes_part, sheet_text, signed_decimals, spaced, state_word, words_line}

-- ## Whole characters

front_is_utf8 : (bs : List ℕ) (n : ℕ) → IsUtf8 (take (valid_len_up_to bs n) bs)
front_is_utf8 bs zero = IsUtf8-nil
front_is_utf8 bs (suc n) =
    cond_both (is_utf8 (take (suc n) bs)) (suc n) (valid_len_up_to bs n) (λ k. IsUtf8 (take k bs)) (λ e. IsUtf8-from_is_utf8 (take (suc n) bs) e) (λ _. front_is_utf8 bs n)

whole_is_utf8 : (bs : List ℕ) → utf8_valid_len bs ≡ length bs → IsUtf8 (take (length bs) bs)
unfolding utf8_valid_len
whole_is_utf8 bs e = subst (λ n. IsUtf8 (take n bs)) e (front_is_utf8 bs (length bs))

take_whole : (bs : List ℕ) → take (length bs) bs ≡ bs
take_whole [] = refl
take_whole (b ∷ bs) = ap (λ cs. b ∷ cs) (take_whole bs)

-- a text that was read
read_is_utf8 : (newest most : ℕ) (text : List ℕ) (s : Source) → reading newest most text ≡ Ok s → IsUtf8 text
read_is_utf8 newest most text s =
    cond_both (nat_lt most (length text)) _ _ (λ r. r ≡ Ok s → IsUtf8 text) (λ _ e. cc)
    (λ _. cond_both (nat_lt (utf8_valid_len text) (length text)) _ _ (λ r. r ≡ Ok s → IsUtf8 text) (λ _ e. cc)
    (λ short _.
    let there : length text ≤ utf8_valid_len text = ltb-false (utf8_valid_len text) (length text) short in
    let whole : utf8_valid_len text ≡ length text = omega (arith, utf8_valid_len_le text) in
    subst IsUtf8 (take_whole text) (whole_is_utf8 text whole)))

-- ## ASCII

pub letters : (bs : List ℕ) → list_all (λ b. nat_lt b 128) bs ≡ true → IsAscii bs
letters [] h = IsAscii-nil
letters (b ∷ bs) h = let parts = and_parts (nat_lt b 128) (list_all (λ b. nat_lt b 128) bs) h in IsAscii-cons b bs (ltb-true b 128 parts.0) (letters bs parts.1)

spaced_ascii : (is : List (List ℕ)) → AllByRecursion IsAscii is → IsAscii (spaced is)
spaced_ascii [] h = IsAscii-nil
spaced_ascii (i ∷ is) h = IsAscii-append (32 ∷ i) (spaced is) (IsAscii-cons 32 i (omega arith) h.0) (spaced_ascii is h.1)

line_ascii : (w : List ℕ) (is : List (List ℕ)) → IsAscii w → AllByRecursion IsAscii is → IsAscii (line w is)
line_ascii w is h g =
    IsAscii-append (w ++ spaced is) (10 ∷ []) (IsAscii-append w (spaced is) h (spaced_ascii is g)) (letters (10 ∷ []) refl)

lines_ascii : {A : Type 0} (P : A → Type 0) (t : A → List ℕ) → ((x : A) → P x → IsAscii (t x)) → (xs : List A) → AllByRecursion P xs → IsAscii (flat_map t xs)
lines_ascii P t each [] h = IsAscii-nil
lines_ascii P t each (x ∷ xs) h = IsAscii-append (t x) (flat_map t xs) (each x h.0) (lines_ascii P t each xs h.1)

-- ## Numbers

number32_ascii : (n : ℕ) → n < 2 ^ 32 → IsAscii (decimal n)
number32_ascii n low = IsAscii-decimal n (omega arith)

number64_ascii : (n : ℕ) → n < 2 ^ 64 → IsAscii (decimal n)
number64_ascii n low = IsAscii-decimal n low

count_ascii : (n : ℕ) → n ≤ 100000000 → IsAscii (decimal n)
count_ascii n few = IsAscii-decimal n (omega arith)

value_ascii : (z : ℤ) → IsValue z → IsAscii (signed_decimal z)
value_ascii (pos n) h = let low : n < 2 ^ 63 = ltb-true n (2 ^ 63) h in IsAscii-decimal n (omega arith)
value_ascii (negsuc n) h = let low : n < 2 ^ 63 = ltb-true n (2 ^ 63) h in IsAscii-cons 45 (decimal (suc n)) (omega arith) (IsAscii-decimal (suc n) (omega arith))

values_ascii : (zs : List ℤ) → AllByRecursion IsValue zs → AllByRecursion IsAscii (signed_decimals zs)
values_ascii [] h = tt
values_ascii (z ∷ zs) h = (value_ascii z h.0, values_ascii zs h.1)

numbers_ascii : (ns : List ℕ) → AllByRecursion Fits64 ns → AllByRecursion IsAscii (decimals ns)
numbers_ascii [] h = tt
numbers_ascii (n ∷ ns) h = (number64_ascii n h.0, numbers_ascii ns h.1)

-- ## Nodes

state_ascii : (s : BlockState) → IsAscii (state_word s)
state_ascii Pending = letters (codes "pending") refl
state_ascii Committed = letters (codes "committed") refl
state_ascii Aborted = letters (codes "aborted") refl

backs_ascii : (bs : List Back) → AllByRecursion BackFits bs → AllByRecursion IsAscii (back_items bs)
backs_ascii [] h = tt
backs_ascii (b ∷ bs) h = (number32_ascii b.cell h.0.cell, (value_ascii b.value h.0.value, backs_ascii bs h.1))

kind_ascii : (kind : Kind) (parent stamp : ℕ) (s : BlockState) (e : ℕ) → parent < 2 ^ 32 → stamp < 2 ^ 64 → e < 2 ^ 64 → KindFits kind → IsAscii (kind_line kind parent stamp s e)
kind_ascii Strand p s st e low small later fit = line_ascii (codes "strand") (decimal p ∷ []) (letters (codes "strand") refl) (number32_ascii p low, tt)
kind_ascii Fork p s st e low small later fit = line_ascii (codes "fork") (decimal p ∷ decimal s ∷ []) (letters (codes "fork") refl) (number32_ascii p low, (number64_ascii s small, tt))
kind_ascii Block p s st e low small later fit =
    line_ascii (codes "block") (decimal p ∷ decimal s ∷ state_word st ∷ decimal e ∷ []) (letters (codes "block") refl) (number32_ascii p low, (number64_ascii s small, (state_ascii st, (number64_ascii e later, tt))))
kind_ascii (Read c v) p s st e low small later fit =
    line_ascii (codes "read") (decimal p ∷ decimal s ∷ decimal c ∷ signed_decimal v ∷ []) (letters (codes "read") refl) (number32_ascii p low, (number64_ascii s small, (number32_ascii c fit.0, (value_ascii v fit.1, tt))))
kind_ascii (Write c v) p s st e low small later fit =
    line_ascii (codes "write") (decimal p ∷ decimal s ∷ decimal c ∷ signed_decimal v ∷ []) (letters (codes "write") refl) (number32_ascii p low, (number64_ascii s small, (number32_ascii c fit.0, (value_ascii v fit.1, tt))))
kind_ascii (Out v) p s st e low small later fit = line_ascii (codes "out") (decimal p ∷ decimal s ∷ signed_decimal v ∷ []) (letters (codes "out") refl) (number32_ascii p low, (number64_ascii s small, (value_ascii v fit, tt)))
kind_ascii (Tried c) p s st e low small later fit = line_ascii (codes "tried") (decimal p ∷ decimal c ∷ []) (letters (codes "tried") refl) (number32_ascii p low, (number32_ascii c fit, tt))
kind_ascii (Cancel bs) p s st e low small later fit =
    line_ascii (codes "cancel") (decimal p ∷ decimal s ∷ decimal (length bs) ∷ back_items bs) (letters (codes "cancel") refl)
    (number32_ascii p low, (number64_ascii s small, (count_ascii (length bs) fit.0, backs_ascii bs (recursion_from_All BackFits bs fit.1))))

node_ascii : (x : Node) → NodeFits x → IsAscii (node_line x)
node_ascii x h = kind_ascii x.kind x.parent x.stamp x.state x.end h.parent h.stamp h.end h.kind

-- ## Conflicts and the end

conflict_ascii : (x : Conflict) → ConflictFits x → IsAscii (conflict_line x)
conflict_ascii x h =
    line_ascii (decimal x.cell) (decimals (x.last ∷ x.asker ∷ x.block ∷ x.victim ∷ x.attempt ∷ x.chain)) (number32_ascii x.cell h.cell) (
      number64_ascii x.last h.last,
      (
        number32_ascii x.asker h.asker,
        (
          number64_ascii x.block h.block,
          (
            number64_ascii x.victim h.victim,
            (
              number32_ascii x.attempt h.attempt,
              numbers_ascii x.chain (recursion_from_All Fits64 x.chain h.chain),
            ),
          ),
        ),
      ),
    )

kind_word_ascii : (k : FaultKind) → IsAscii (fault_name k)
kind_word_ascii fault.Zero = letters (codes "Zero") refl
kind_word_ascii fault.Overflow = letters (codes "Overflow") refl
kind_word_ascii fault.Range = letters (codes "Range") refl
kind_word_ascii fault.Depth = letters (codes "Depth") refl
kind_word_ascii fault.Fuel = letters (codes "Fuel") refl
kind_word_ascii fault.Size = letters (codes "Size") refl

end_ascii : (e : RecordEnd) → EndFits e → IsAscii (end_part e)
end_ascii (Finished memory outputs) h =
    let f = line (codes "finished") [] in
    let m = line (codes "memory") (signed_decimals memory) in
    let o = line (codes "outputs") (signed_decimals outputs) in
    IsAscii-append (f ++ m) o
    (IsAscii-append f m (letters f refl)
    (line_ascii (codes "memory") (signed_decimals memory) (letters (codes "memory") refl) (values_ascii memory (recursion_from_All IsValue memory h.0))))
    (line_ascii (codes "outputs") (signed_decimals outputs) (letters (codes "outputs") refl) (values_ascii outputs (recursion_from_All IsValue outputs h.1)))
end_ascii (Fault s k) h = line_ascii (codes "fault") (decimal s ∷ fault_name k ∷ []) (letters (codes "fault") refl) (number32_ascii s h, (kind_word_ascii k, tt))
end_ascii (Budget s) h = line_ascii (codes "budget") (decimal s ∷ []) (letters (codes "budget") refl) (number32_ascii s h, tt)
end_ascii Moves h = letters (line (codes "moves") []) refl

-- ## The whole

before_ascii : (n : ℕ) → n ≤ 100000000 → IsAscii (before_source n)
before_ascii n few =
    IsAscii-append (line (codes "cwstm") (codes "record" ∷ codes "1" ∷ [])) (line (codes "source") (decimals (n ∷ []))) (letters (line (codes "cwstm") (codes "record" ∷ codes "1" ∷ [])) refl)
    (line_ascii (codes "source") (decimals (n ∷ [])) (letters (codes "source") refl) (count_ascii n few, tt))

limits_ascii : (l : Limits) → LimitsFit l → IsAscii (limits_line l)
limits_ascii l h =
    line_ascii (codes "limits") (decimals (l.fuel ∷ l.size ∷ l.aborts ∷ l.strands ∷ l.moves ∷ [])) (letters (codes "limits") refl)
    (number64_ascii l.fuel h.fuel, (number32_ascii l.size h.size, (number32_ascii l.aborts h.aborts, (number32_ascii l.strands h.strands, (number64_ascii l.moves h.moves, tt)))))

counted_ascii : (w lines : List ℕ) (n : ℕ) → n ≤ 100000000 → list_all (λ b. nat_lt b 128) w ≡ true → IsAscii lines → IsAscii (line w (decimals (n ∷ [])) ++ lines)
counted_ascii w lines n few plain h = IsAscii-append (line w (decimals (n ∷ []))) lines (line_ascii w (decimals (n ∷ [])) (letters w plain) (count_ascii n few, tt)) h

after_ascii : (c : Contents) → IsInRange c → IsAscii (after_source c)
after_ascii c h =
    let w = words_line c.words in
    let wl = w ++ limits_line c.limits in
    let wln = wl ++ nodes_part c.tree in
    let wlnk = wln ++ conflicts_part c.conflicts in
    IsAscii-append (wlnk ++ end_part c.end) last_line
    (IsAscii-append wlnk (end_part c.end)
    (IsAscii-append wln (conflicts_part c.conflicts)
    (IsAscii-append wl (nodes_part c.tree)
    (IsAscii-append w (limits_line c.limits)
    (line_ascii (codes "words") (signed_decimals c.words) (letters (codes "words") refl) (values_ascii c.words (recursion_from_All IsValue c.words h.words)))
    (limits_ascii c.limits h.limits))
    (counted_ascii (codes "nodes") (flat_map node_line c.tree) (length c.tree) h.nodes.0 refl
    (lines_ascii NodeFits node_line node_ascii c.tree (recursion_from_All NodeFits c.tree h.nodes.1))))
    (counted_ascii (codes "conflicts") (flat_map conflict_line c.conflicts) (length c.conflicts) h.conflicts.0 refl
    (lines_ascii ConflictFits conflict_line conflict_ascii c.conflicts (recursion_from_All ConflictFits c.conflicts h.conflicts.1))))
    (end_ascii c.end h.end))
    (letters last_line refl)

pub text_is_utf8 : (c : Contents) → HasSourceText c.source → IsInRange c → IsUtf8 (sheet_text c)
text_is_utf8 c has h =
    let n = length (printed_text c.source) in
    let fits = h.source in
    IsUtf8-append (before_source n ++ printed_text c.source) (after_source c)
    (IsUtf8-append (before_source n) (printed_text c.source)
    (IsUtf8-from_ascii (before_source n) (before_ascii n (omega arith)))
    (read_is_utf8 2 n (printed_text c.source) has.read.0 has.read.1))
    (IsUtf8-from_ascii (after_source c) (after_ascii c h))
