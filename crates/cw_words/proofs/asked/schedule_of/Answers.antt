use Rattle.std.proofs.Common.{◌≡◌, ◌∙◌, Bor, List, None, Option, ap, codes, option_map, subst, sym, ℕ}
use Rattle.clap.specs.Words.{found_of}
use Rattle.cw_words.specs.Asked.{value_in}
use Rattle.cw_words.specs.Reading.{Reads}
use Rattle.cw_words.specs.Words.{schedule_in}
use Rattle.cw_words.proofs.asked.schedule_of.Goals as goal

pub returns-in_default : goal.returns-in_default
returns-in_default c =
    let list : None ≡ value_in (found_of c.args.found.now) (codes "schedule") = ap (option_map (λ (v : Bor (List ℕ)). v.now)) (sym c.in_default.is) ∙ c.value_of-list.ensures in
    subst (λ (o : Option (List ℕ)). Reads (schedule_in c.args.workers o (value_in (found_of c.args.found.now) (codes "seed"))) c.unlisted.result) list
    (subst (λ (o : Option (List ℕ)). Reads (schedule_in c.args.workers None o) c.unlisted.result) c.value_of-seed.ensures (c.unlisted.ensures c.args.workers))
