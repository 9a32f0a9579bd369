-- A source is taken from its text, except for its lines.
use Rattle.std.proofs.Common.{◌≡◌, ℕ, suc, ◌+◌, ◌≤◌, true, nat_lt, List, [], ◌∷◌, ◌++◌, codes, length, drop, is_none, Result, Ok, Err, refl, ap, sym, subst, ◌∙◌, length-append, arith}
use Rattle.std.proofs.lemmas.Bool.{and_from, le-ltb}
use Rattle.std.specs.Cmp.Lexicographic.{bytes_decides}
use Rattle.std.specs.Str.{bytes_eq}
use Rattle.cw_text.specs.declared.fault.TextFault.{TextFault}
use Rattle.cw_text.specs.PrintedText.{printed_text}
use Rattle.cw_text.specs.Syntax.{Source}
use Rattle.cw_text.specs.Text.{reading}
use Rattle.cw_text.specs.WithoutLines.{tree_without_lines}
use Rattle.cw_text.proofs.PrintedTexts.{printed_again}
use Rattle.cw_strand.specs.Names.{naming_fault}
use Rattle.cw_sheet.specs.Contents.{HasSourceText}
use Rattle.cw_sheet.specs.Items.{Place, took}
use Rattle.cw_sheet.specs.Reading.{canonical, is_canonical, longest_source, newlines, source, source_of_length}
use Rattle.cw_sheet.specs.SheetText.{decimals, line}
use Rattle.cw_sheet.proofs.SheetText.Beginning.{drop_front, take_front}
use Rattle.cw_sheet.proofs.SheetText.Naming.{named_alike}
use Rattle.cw_sheet.proofs.SheetText.Told.Sources.{bound_otherwise}
use Rattle.cw_sheet.proofs.SheetText.Read.Items.{number_takes}
use Rattle.cw_sheet.proofs.SheetText.Read.Taking.{Takes, on_line, line_takes, takes_if, takes_unless, then_takes}

-- a source as it was read: the same except for its lines
pub record IsSame (s t : Source) : Type 0 where
  pub language : t.language ≡ s.language
  pub tree : tree_without_lines t.items ≡ tree_without_lines s.items

canonical_again : (s t : Source) → HasSourceText s → IsSame s t → is_canonical (printed_text s) t ≡ true
canonical_again s t has same =
    and_from (is_none (naming_fault t.items)) (bytes_eq (printed_text t) (printed_text s))
    (named_alike t.items s.items same.tree ∙ ap is_none has.named)
    ((bytes_decides (printed_text t) (printed_text s)).1 (printed_again t s same.language same.tree))

canonical_takes : (l : ℕ) (text : List ℕ) (r : Result Source TextFault) (t : Source) (q : Place) → r ≡ Ok t → is_canonical text t ≡ true → Takes (canonical l text r q) t q.text
canonical_takes l text (Err f) t q read fine = cc
canonical_takes l text (Ok s) t q read fine =
    let same : t ≡ s = cc in
    subst (λ u. Takes (canonical l text (Ok s) q) u q.text) (sym same)
    (takes_if (is_canonical text s) (took s q) _ s q.text (sym (ap (is_canonical text) same) ∙ fine) (record { line = q.line; is = refl }))

sized_takes : (s t : Source) (l m : ℕ) (rest : List ℕ) → HasSourceText s → IsSame s t → reading 2 longest_source (printed_text s) ≡ Ok t →
    Takes (source_of_length (length (printed_text s)) l (on_line m (printed_text s ++ rest))) t rest
sized_takes s t l m rest has same read =
    let text = printed_text s ++ rest in
    let n = length (printed_text s) in
    let enough : n ≤ length text = omega (arith, length-append (printed_text s) rest) in
    let place = λ (u : List ℕ) (r : List ℕ). on_line (newlines u + m) r in
    takes_unless (nat_lt (length text) n) _ _ t rest (le-ltb (length text) n enough)
    (subst (λ u. Takes (canonical l u (reading 2 longest_source u) (place u (drop n text))) t rest) (sym (take_front (printed_text s) rest))
    (subst (λ r. Takes (canonical l (printed_text s) (reading 2 longest_source (printed_text s)) (place (printed_text s) r)) t rest) (sym (drop_front (printed_text s) rest))
    (canonical_takes l (printed_text s) (reading 2 longest_source (printed_text s)) t (place (printed_text s) rest) read (canonical_again s t has same))))

-- the source that is taken, with the line before it
pub record TakesSource (s : Source) (l : ℕ) (rest : List ℕ) : Type 0 where
  pub read : Source
  pub same : IsSame s read
  pub takes : Takes (source (on_line l (line (codes "source") (decimals (length (printed_text s) ∷ [])) ++ (printed_text s ++ rest)))) read rest

pub source_takes : (s : Source) (l : ℕ) (rest : List ℕ) → HasSourceText s → length (printed_text s) ≤ longest_source → TakesSource s l rest
source_takes s l rest has fits =
    let n = length (printed_text s) in
    let t = has.read.0 in
    let same : IsSame s t = record { language = has.read.2; tree = has.read.3 } in
    let read = bound_otherwise 2 n longest_source (printed_text s) t fits has.read.1 in
    let left = printed_text s ++ rest in
    record {
      read = t;
      same = same;
      takes =
          line_takes source (codes "source") (decimals (n ∷ [])) l left
          (then_takes _ _
          (number_takes 100000001 n l (10 ∷ left) (omega arith) (omega arith) refl)
          (λ l1. sized_takes s t l (suc l1) rest has same read));
    }
