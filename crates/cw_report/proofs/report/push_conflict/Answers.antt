use Rattle.std.proofs.Common.{◌≡◌, ◌∙◌, ◌++◌, ℕ, List, ap, append_assoc, string_bytes}
use Rattle.std.specs.Prelude.{codes}
use Rattle.cw_report.specs.Report.{accesses_text, blocks_text}
use Rattle.cw_report.proofs.report.push_conflict.Goals as goal

-- four pieces of a line, one behind the other
appended : (text p a b e one two three new : List ℕ) → one ≡ text ++ p → two ≡ one ++ a → three ≡ two ++ b → new ≡ three ++ e → new ≡ text ++ ((p ++ a ++ b) ++ e)
appended text p a b e one two three new e1 e2 e3 e4 = e4 ∙ ap (λ x. x ++ e) (e3 ∙ ap (λ x. x ++ b) (e2 ∙ ap (λ x. x ++ a) e1)) ∙ simp append_assoc

pub returns : goal.returns
returns c = λ cells named.
    appended (string_bytes c.args.text.now) (codes "conflict ") (accesses_text cells c.args.tree.now c.args.conflict.now) (blocks_text c.args.conflict.now) (codes "\n")
    (string_bytes c.push_str.new.self) (string_bytes c.push_accesses.new.text) (string_bytes c.push_blocks.new.text) (string_bytes c.push_str-2.new.self)
    c.in_ok-push_str.ensures.bytes (c.in_ok-push_accesses.ensures cells named) c.in_ok-push_blocks.ensures c.in_ok-push_str-2.ensures.bytes
