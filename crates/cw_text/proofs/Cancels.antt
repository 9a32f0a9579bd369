-- In language 1 `cancel` is a name: no token of it is spelled, and so none stands among the tokens of a tree that is read.
use Rattle.std.proofs.Common.{◌≡◌, ℕ, ◌≤◌, Bool, false, ◌||◌, List, [], ◌∷◌, ◌++◌, Ok, refl, subst, arith}
use Rattle.cw_text.specs.declared.terminal.Terminal.{Terminal}
use Rattle.cw_text.specs.declared.terminal.Terminal.TheVariants as m
use Rattle.cw_text.specs.Cancels.{statement_has_cancel, block_has_cancel, has_cancel}
use Rattle.cw_text.specs.Lexemes.{keywords, keywords_of}
use Rattle.cw_text.specs.Printed.{Placed, declaration_tokens, else_tokens, in_braces, in_parens, name_on_line, sign, statement_tokens, statements_tokens, term_tokens, tokens, words_tokens}
use Rattle.cw_text.specs.PrintedText.{AreSpellable, more, none}
use Rattle.cw_text.specs.Syntax.{Statement, choose, repeat, atomic, spawn, cancel, Block, empty, first, Declaration, Source, cell, func}
use Rattle.cw_text.specs.Text.{program}
use Rattle.cw_text.proofs.ReadPrograms.{text_is_readable}

-- ## Tokens among others

later : {words : List Terminal} {p : Placed} {ps : List Placed} → AreSpellable words (p ∷ ps) → AreSpellable words ps
later (more is h) = h

before : {words : List Terminal} (ps qs : List Placed) → AreSpellable words (ps ++ qs) → AreSpellable words ps
before [] qs h = none
before ((t, l) ∷ ps) qs (more is h) = more is (before ps qs h)

behind : {words : List Terminal} (ps qs : List Placed) → AreSpellable words (ps ++ qs) → AreSpellable words qs
behind [] qs h = h
behind ((t, l) ∷ ps) qs (more is h) = behind ps qs h

braced : {words : List Terminal} (ps : List Placed) → AreSpellable words (in_braces ps) → AreSpellable words ps
braced ps h = before ps (sign m.BraceClose) (later h)

done_else : {words : List Terminal} (b : Block) → AreSpellable words (else_tokens b) → AreSpellable words (statements_tokens b)
done_else empty h = none
done_else (first s b) h = braced (statements_tokens (first s b)) (later h)

-- ## Statements

neither : (a b : Bool) → a ≡ false → b ≡ false → (a || b) ≡ false
neither a b g h = rw (g, h) refl

mutual
  statement_has_none : (s : Statement) → AreSpellable keywords (statement_tokens s) → statement_has_cancel s ≡ false
  statement_has_none (choose e a b) h =
      let test = term_tokens 0 e in
      let then_done = in_braces (statements_tokens a) in
      neither (block_has_cancel a) (block_has_cancel b)
      (block_has_none a (braced (statements_tokens a) (behind test then_done (before (test ++ then_done) (else_tokens b) (later h)))))
      (block_has_none b (done_else b (behind (test ++ then_done) (else_tokens b) (later h))))
  statement_has_none (repeat e b) h = block_has_none b (braced (statements_tokens b) (behind (term_tokens 0 e) (in_braces (statements_tokens b)) (later h)))
  statement_has_none (atomic b) h = block_has_none b (braced (statements_tokens b) (later h))
  statement_has_none (spawn b) h = block_has_none b (braced (statements_tokens b) (later h))
  statement_has_none (cancel l) (more is h) = cc
  statement_has_none s h = refl

  block_has_none : (b : Block) → AreSpellable keywords (statements_tokens b) → block_has_cancel b ≡ false
  block_has_none empty h = refl
  block_has_none (first s b) h =
      neither (statement_has_cancel s) (block_has_cancel b)
      (statement_has_none s (before (statement_tokens s) (statements_tokens b) h))
      (block_has_none b (behind (statement_tokens s) (statements_tokens b) h))

-- ## Whole texts

tree_has_none : (ds : List Declaration) → AreSpellable keywords (tokens ds) → has_cancel ds ≡ false
tree_has_none [] h = refl
tree_has_none (cell n l len i ∷ ds) h = tree_has_none ds (behind (declaration_tokens (cell n l len i)) (tokens ds) h)
tree_has_none (func n l ps b ∷ ds) h =
    let one = before (declaration_tokens (func n l ps b)) (tokens ds) h in
    neither (block_has_cancel b) (has_cancel ds)
    (block_has_none b (braced (statements_tokens b) (behind (sign m.Fn ++ name_on_line n l ++ in_parens (words_tokens ps)) (in_braces (statements_tokens b)) one)))
    (tree_has_none ds (behind (declaration_tokens (func n l ps b)) (tokens ds) h))

pub language_one_has_none : (newest : ℕ) (text : List ℕ) (s : Source) → 1 ≤ newest → program newest text ≡ Ok s → s.language ≡ 1 → has_cancel s.items ≡ false
language_one_has_none newest text s some is one =
    let h = text_is_readable newest 1048576 text s some is in
    tree_has_none s.items (subst (λ n. AreSpellable (keywords_of n) (tokens s.items)) one h.spellable)

pub newest_one_has_none : (text : List ℕ) (s : Source) → program 1 text ≡ Ok s → has_cancel s.items ≡ false
newest_one_has_none text s is =
    let h = text_is_readable 1 1048576 text s (omega arith) is in
    language_one_has_none 1 text s (omega arith) is (omega (arith, h.some, h.new))
