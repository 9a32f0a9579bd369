-- Whole texts: what a tree is printed as is read as that tree, except for its lines, and printed as itself again.
use Rattle.std.proofs.Common.{◌≡◌, ℕ, zero, suc, ◌≤◌, nat_le, lit<, subst, arith, Bool, true, false, nat_lt, List, [], ◌∷◌, ◌++◌, length, map, Ok, refl, ap, sym, ◌∙◌}
use Rattle.std.proofs.lemmas.Bool.{le-leb}
use Rattle.std.specs.List.{flat_map}
use Rattle.cw_text.specs.declared.ast.Word.{Word}
use Rattle.cw_text.specs.declared.terminal.Terminal.{Terminal}
use Rattle.cw_text.specs.declared.terminal.Terminal.TheVariants as m
use Rattle.cw_text.specs.Lexemes.{Token, Lexemes, comes, end_on, name as a_name, keywords, keywords_of, lexemes, lexemes_from}
use Rattle.cw_text.specs.Printed.{IsReadable, Placed, bracketed, declaration_tokens, else_tokens, heading_tokens, in_braces, init_tokens, more_terms_tokens, of_left, of_right, printed, sign, size_tokens, statement_tokens, statements_tokens, term_tokens, terminal_of, terms_tokens, tightness, tokens, word_tokens, words_tokens}
use Rattle.cw_text.specs.PrintedText.{AreSpellable, blank_behind, more as spells, none as nothing, printed_text, source_tokens, spelled, text_of}
use Rattle.cw_text.specs.Syntax.{Term, Terms, number, name, at, call, unary, binary, none, more, Statement, Block, empty, first, Declaration, Source, declare, assign, assign_at, run, out, choose, repeat, atomic, spawn, sync, cancel, return, cell, func}
use Rattle.cw_text.specs.Grammar.{program_of}
use Rattle.cw_text.specs.Text.{is_headed, items_of, language_of, reading, source_in, with_language}
use Rattle.cw_text.specs.WithoutLines.{IsSourceReadAs, tokens_without_lines, word_without_line, term_without_lines, terms_without_lines, statement_without_lines, block_without_lines, declaration_without_lines, tree_without_lines}
use Rattle.cw_text.proofs.Forgotten.{same_but_lines}
use Rattle.cw_text.proofs.PrintedIsWritten.{printed_is_written}
use Rattle.cw_text.proofs.Readings.{reading_is}
use Rattle.cw_text.proofs.ReadPrograms.{text_is_readable}
use Rattle.cw_text.proofs.Scanned.{heading_scanned, scanned, scanned_from, text_is_utf8}
use Rattle.cw_text.proofs.Spellable.{joined as both_spellable}
use Rattle.cw_text.proofs.WrittenIsRead.{written_is_read}

-- the items of a text whose tokens are those of the printed items, except for their lines
items_read : (n : ℕ) (xs : Lexemes) (ds : List Declaration) → IsReadable ds → tokens_without_lines xs ≡ tokens_without_lines (printed ds) →
    IsSourceReadAs (with_language n (program_of xs)) (record { language = n; items = ds })
items_read n xs ds readable same =
    let h = same_but_lines (printed ds) xs ds (sym same) (written_is_read (printed ds) ds (printed_is_written ds readable)) in
    (record { language = n; items = h.0 }, ap (with_language n) h.1, refl, h.2)

-- whether a line of the language comes first does not depend on lines
headed_without_lines : (xs : Lexemes) → is_headed (tokens_without_lines xs) ≡ is_headed xs
headed_without_lines (end_on l) = refl
headed_without_lines (comes (a_name n) l xs) = refl
headed_without_lines (comes t l xs) = refl

headed_alike : (xs ys : Lexemes) → tokens_without_lines xs ≡ tokens_without_lines ys → is_headed xs ≡ is_headed ys
headed_alike xs ys same = sym (headed_without_lines xs) ∙ ap is_headed same ∙ headed_without_lines ys

printed_unheaded : (ds : List Declaration) → is_headed (printed ds) ≡ false
printed_unheaded [] = refl
printed_unheaded (cell n l len z ∷ ds) = refl
printed_unheaded (func n l ps b ∷ ds) = refl

-- language 1 is not written
plain_read : (newest : ℕ) (ds : List Declaration) → IsReadable ds → AreSpellable keywords (tokens ds) →
    IsSourceReadAs (source_in (language_of newest (lexemes keywords (text_of (tokens ds)))) (text_of (tokens ds))) (record { language = 1; items = ds })
plain_read newest ds readable spellable =
    let xs = lexemes keywords (text_of (tokens ds)) in
    let same = scanned 1 (tokens ds) spellable in
    let plain : is_headed xs ≡ false = headed_alike xs (printed ds) same ∙ printed_unheaded ds in
    let language : language_of newest xs ≡ Ok 1 = rw plain refl in
    let items : items_of xs ≡ xs = rw plain refl in
    subst (λ r. IsSourceReadAs (source_in r (text_of (tokens ds))) (record { language = 1; items = ds })) (sym language)
    (subst (λ ys. IsSourceReadAs (with_language 1 (program_of ys)) (record { language = 1; items = ds })) (sym items) (items_read 1 xs ds readable same))

headed_read : (newest : ℕ) (ds : List Declaration) → 2 ≤ newest → IsReadable ds → AreSpellable (keywords_of 2) (tokens ds) →
    let text = text_of (heading_tokens 2 ++ tokens ds) in
    IsSourceReadAs (source_in (language_of newest (lexemes keywords text)) text) (record { language = 2; items = ds })
headed_read newest ds new readable spellable =
    let text = text_of (heading_tokens 2 ++ tokens ds) in
    let rest = text_of (tokens ds) in
    let named = heading_scanned 1 (tokens ds) (refl, refl, refl) in
    let again = heading_scanned 2 (tokens ds) (refl, refl, refl) in
    let known : nat_le 2 newest ≡ true = le-leb 2 newest new in
    let language : language_of newest (lexemes keywords text) ≡ Ok 2 = ap (λ xs. language_of newest xs) named.3 ∙ rw known refl in
    let items : items_of (lexemes (keywords_of 2) text) ≡ lexemes_from (keywords_of 2) again.2 0 rest = ap items_of again.3 in
    subst (λ r. IsSourceReadAs (source_in r text) (record { language = 2; items = ds })) (sym language)
    (subst (λ ys. IsSourceReadAs (with_language 2 (program_of ys)) (record { language = 2; items = ds })) (sym items)
    (items_read 2 (lexemes_from (keywords_of 2) again.2 0 rest) ds readable (scanned_from 2 (tokens ds) again.2 spellable)))

source_read : (newest n : ℕ) (ds : List Declaration) → 1 ≤ n → n ≤ newest → newest ≤ 2 → IsReadable ds → AreSpellable (keywords_of n) (tokens ds) →
    let text = text_of (heading_tokens n ++ tokens ds) in
    IsSourceReadAs (source_in (language_of newest (lexemes keywords text)) text) (record { language = n; items = ds })
source_read newest zero ds some new known readable spellable = absurd (omega arith)
source_read newest (suc zero) ds some new known readable spellable = plain_read newest ds readable spellable
source_read newest (suc (suc zero)) ds some new known readable spellable = headed_read newest ds new readable spellable
source_read newest (suc (suc (suc n))) ds some new known readable spellable = absurd (omega arith)

heading_spellable : (n : ℕ) → 1 ≤ n → n ≤ 2 → AreSpellable (keywords_of n) (heading_tokens n)
heading_spellable zero some known = absurd (omega arith)
heading_spellable (suc zero) some known = nothing
heading_spellable (suc (suc zero)) some known = spells (refl, refl, refl) (spells (lit< tt) (spells tt nothing))
heading_spellable (suc (suc (suc n))) some known = absurd (omega arith)

pub source_undone : (newest most : ℕ) (s : Source) → 1 ≤ s.language → s.language ≤ newest → newest ≤ 2 → IsReadable s.items → AreSpellable (keywords_of s.language) (tokens s.items) →
    length (printed_text s) ≤ most → IsSourceReadAs (reading newest most (printed_text s)) s
source_undone newest most s some new known readable spellable short =
    rw (reading_is newest most (printed_text s) short (text_is_utf8 (source_tokens s) (both_spellable (heading_spellable s.language some (omega arith)) spellable)))
    (source_read newest s.language s.items some new known readable spellable)

pub text_undone : (newest most : ℕ) (text : List ℕ) (s : Source) → 1 ≤ newest → newest ≤ 2 → reading newest most text ≡ Ok s → length (printed_text s) ≤ most → IsSourceReadAs (reading newest most (printed_text s)) s
text_undone newest most text s some known is short =
    let h = text_is_readable newest most text s some is in
    source_undone newest most s h.some h.new known h.readable h.spellable short

-- ## Lines are not printed

-- the same tokens, except for their lines
data Same : List Placed → List Placed → Type 0 where
  nil : Same [] []
  next : {t : Token} {i l : ℕ} {ps qs : List Placed} → Same ps qs → Same ((t, i) ∷ ps) ((t, l) ∷ qs)

same_text : {ps qs : List Placed} → Same ps qs → text_of ps ≡ text_of qs
same_text nil = refl
same_text (next {t = t} h) = ap (λ more. spelled t ++ blank_behind t ∷ more) (same_text h)

itself : (ps : List Placed) → Same ps ps
itself [] = nil
itself ((t, l) ∷ ps) = next (itself ps)

joined : {ps qs rs ss : List Placed} → Same ps qs → Same rs ss → Same (ps ++ rs) (qs ++ ss)
joined nil h = h
joined (next g) h = next (joined g h)

closed : {ps qs : List Placed} (a : Terminal) → Same ps qs → Same (ps ++ sign a) (qs ++ sign a)
closed a h = joined h (next nil)

bracketed_same : {ps qs : List Placed} (b : Bool) → Same ps qs → Same (bracketed b ps) (bracketed b qs)
bracketed_same true h = next (closed m.ParenClose h)
bracketed_same false h = h

mutual
  term_same : (n : ℕ) (e : Term) → Same (term_tokens n (term_without_lines e)) (term_tokens n e)
  term_same n (number z) = itself (term_tokens n (number z))
  term_same n (name w) = next nil
  term_same n (at w i) = next (next (closed m.SquareClose (term_same 0 i)))
  term_same n (call w es) = next (next (closed m.ParenClose (terms_same es)))
  term_same n (unary o e) = next (term_same 3 e)
  term_same n (binary o l r) = bracketed_same (nat_lt (tightness o) n) (joined (closed (terminal_of o) (term_same (of_left o) l)) (term_same (of_right o) r))

  terms_same : (es : Terms) → Same (terms_tokens (terms_without_lines es)) (terms_tokens es)
  terms_same none = nil
  terms_same (more e es) = joined (term_same 0 e) (more_terms_same es)

  more_terms_same : (es : Terms) → Same (more_terms_tokens (terms_without_lines es)) (more_terms_tokens es)
  more_terms_same none = nil
  more_terms_same (more e es) = next (joined (term_same 0 e) (more_terms_same es))

ended_same : (e : Term) → Same (term_tokens 0 (term_without_lines e) ++ sign m.Semicolon) (term_tokens 0 e ++ sign m.Semicolon)
ended_same e = closed m.Semicolon (term_same 0 e)

braced : {ps qs : List Placed} → Same ps qs → Same (in_braces ps) (in_braces qs)
braced h = next (closed m.BraceClose h)

mutual
  statement_same : (s : Statement) → Same (statement_tokens (statement_without_lines s)) (statement_tokens s)
  statement_same (declare w e) = next (next (next (ended_same e)))
  statement_same (assign w e) = next (next (ended_same e))
  statement_same (assign_at w i e) = next (next (joined (closed m.SquareClose (term_same 0 i)) (next (ended_same e))))
  statement_same (run w es) = next (next (closed m.Semicolon (closed m.ParenClose (terms_same es))))
  statement_same (out e) = next (ended_same e)
  statement_same (choose e a b) = next (joined (joined (term_same 0 e) (braced (block_same a))) (else_same b))
  statement_same (repeat e b) = next (joined (term_same 0 e) (braced (block_same b)))
  statement_same (atomic b) = next (braced (block_same b))
  statement_same (spawn b) = next (braced (block_same b))
  statement_same sync = next (next nil)
  statement_same (cancel l) = next (next nil)
  statement_same (return l e) = next (ended_same e)

  block_same : (b : Block) → Same (statements_tokens (block_without_lines b)) (statements_tokens b)
  block_same empty = nil
  block_same (first s b) = joined (statement_same s) (block_same b)

  else_same : (b : Block) → Same (else_tokens (block_without_lines b)) (else_tokens b)
  else_same empty = nil
  else_same (first s b) = next (braced (joined (statement_same s) (block_same b)))

more_words_same : (ws : List Word) → Same (flat_map (λ w. sign m.Comma ++ word_tokens w) (map word_without_line ws)) (flat_map (λ w. sign m.Comma ++ word_tokens w) ws)
more_words_same [] = nil
more_words_same (w ∷ ws) = next (next (more_words_same ws))

words_same : (ws : List Word) → Same (words_tokens (map word_without_line ws)) (words_tokens ws)
words_same [] = nil
words_same (w ∷ ws) = next (more_words_same ws)

declaration_same : (d : Declaration) → Same (declaration_tokens (declaration_without_lines d)) (declaration_tokens d)
declaration_same (cell n l len z) = next (next (itself (size_tokens len ++ init_tokens z ++ sign m.Semicolon)))
declaration_same (func n l ps b) = next (next (next (joined (closed m.ParenClose (words_same ps)) (braced (block_same b)))))

tree_same : (ds : List Declaration) → Same (tokens (tree_without_lines ds)) (tokens ds)
tree_same [] = nil
tree_same (d ∷ ds) = joined (declaration_same d) (tree_same ds)

pub printed_again : (s t : Source) → s.language ≡ t.language → tree_without_lines s.items ≡ tree_without_lines t.items → printed_text s ≡ printed_text t
printed_again s t one same =
    let behind = λ (n : ℕ) (ds : List Declaration). text_of (heading_tokens n ++ tokens ds) in
    sym (same_text (joined (itself (heading_tokens s.language)) (tree_same s.items)))
    ∙ ap (λ ds. behind s.language ds) same
    ∙ ap (λ n. behind n (tree_without_lines t.items)) one
    ∙ same_text (joined (itself (heading_tokens t.language)) (tree_same t.items))
