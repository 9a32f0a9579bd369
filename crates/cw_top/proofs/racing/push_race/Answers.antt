use Rattle.std.proofs.Common.{◌≡◌, ◌∙◌, ◌++◌, ℕ, List, ap, append_assoc, string_bytes}
use Rattle.std.specs.Prelude.{codes}
use Rattle.cw_report.specs.Report.{cell_text}
use Rattle.cw_top.specs.RacesTold.{access_text}
use Rattle.cw_top.proofs.racing.push_race.Goals as goal

-- seven pieces of a line, one behind the other
appended : (text p a q b r c e t1 t2 t3 t4 t5 t6 new : List ℕ) → t1 ≡ text ++ p → t2 ≡ t1 ++ a → t3 ≡ t2 ++ q → t4 ≡ t3 ++ b → t5 ≡ t4 ++ r → t6 ≡ t5 ++ c → new ≡ t6 ++ e → new ≡ text ++ ((p ++ a ++ q ++ b ++ r ++ c) ++ e)
appended text p a q b r c e t1 t2 t3 t4 t5 t6 new e1 e2 e3 e4 e5 e6 e7 =
    e7 ∙ ap (λ x. x ++ e) (e6 ∙ ap (λ x. x ++ c) (e5 ∙ ap (λ x. x ++ r) (e4 ∙ ap (λ x. x ++ b) (e3 ∙ ap (λ x. x ++ q) (e2 ∙ ap (λ x. x ++ a) e1))))) ∙ simp append_assoc

pub returns : goal.returns
returns c = λ cells named.
    appended (string_bytes c.args.text.now) (codes "race ") (cell_text cells c.args.race.now.cell) (codes " first ") (access_text c.args.tree.now c.args.race.now.first) (codes " second ") (access_text c.args.tree.now c.args.race.now.second) (codes "\n")
    (string_bytes c.push_str.new.self) (string_bytes c.push_element.new.text) (string_bytes c.push_str-2.new.self) (string_bytes c.push_access.new.text) (string_bytes c.push_str-3.new.self) (string_bytes c.push_access-2.new.text) (string_bytes c.push_str-4.new.self)
    c.in_ok-push_str.ensures.bytes (c.in_ok-push_element.ensures cells named) c.in_ok-push_str-2.ensures.bytes c.in_ok-push_access.ensures c.in_ok-push_str-3.ensures.bytes c.in_ok-push_access-2.ensures c.in_ok-push_str-4.ensures.bytes
