-- What a text begins with, and what is behind it.
use Rattle.std.proofs.Common.{◌≡◌, ℕ, ◌<◌, ◌==◌, Bool, true, false, List, [], ◌∷◌, length, take, ap, sym, ◌∙◌, arith}
use Rattle.std.proofs.lemmas.Slice.Eq.{bytes_eq-Decides}
use Rattle.std.specs.Str.{bytes_eq}
use Rattle.cw_text.specs.Lexemes.{begins_by}
use Rattle.cw_text.proofs.Prefixes.{take_front}
use Rattle.cw_sheet.specs.declared.sheet.SheetKind.TheVariants.{Unexpected}
use Rattle.cw_sheet.specs.Items.{Place, took, refuse, behind, first_item, is_newline, is_space, item, word}

-- a text that begins somehow is not empty
some_begin : (p : ℕ → Bool) (text : List ℕ) → begins_by p text ≡ true → 0 < length text
some_begin p [] h = cc
some_begin p (c ∷ cs) h = omega arith

pub space_begins : (text : List ℕ) → begins_by is_space text ≡ true → 0 < length text
space_begins = some_begin is_space

pub newline_begins : (text : List ℕ) → begins_by is_newline text ≡ true → 0 < length text
newline_begins = some_begin is_newline

pub sign_begins : (text : List ℕ) → begins_by (λ c. c == 45) text ≡ true → 0 < length text
sign_begins = some_begin (λ c. c == 45)

-- an item that was split off
pub item_front : (text : List ℕ) (n : ℕ) → n ≡ length (first_item text) → take n text ≡ first_item text
item_front text n e = ap (λ k. take k text) e ∙ take_front _ text

-- ## This very item

module _ (w : List ℕ) (p : Place) (i : List ℕ) (q : Place) (taken : item p ≡ took i q) where
  is : first_item p.text ≡ i
  is = cc taken

  at : behind (length (first_item p.text)) p ≡ q
  at = cc taken

  same_line : p.line ≡ q.line
  same_line = ap (λ r. r.line) at

  pub word_taken : bytes_eq i w ≡ true → word w p ≡ took tt q
  word_taken h =
      let e : bytes_eq (first_item p.text) w ≡ true = ap (λ x. bytes_eq x w) is ∙ h in
      let same : first_item p.text ≡ w = (bytes_eq-Decides (first_item p.text) w).0 e in
      rw e (ap (took tt) (ap (λ l. behind (length l) p) (sym same) ∙ at))

  pub word_other : bytes_eq i w ≡ false → word w p ≡ refuse Unexpected q
  word_other h =
      let e : bytes_eq (first_item p.text) w ≡ false = ap (λ x. bytes_eq x w) is ∙ h in
      rw e (ap (λ l. refuse Unexpected (record { line = l; text = q.text })) same_line)
