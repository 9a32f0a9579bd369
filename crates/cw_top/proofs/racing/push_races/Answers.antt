use Rattle.std.proofs.Common.{◌≡◌, ◌∙◌, ◌++◌, ◌∷◌, ◌<◌, ◌+◌, ℕ, List, ap, append_assoc, drop, get_or, length, rules, string_bytes, sym}
use Rattle.std.specs.List.{flat_map}
use Rattle.std.proofs.lemmas.List.{drop_more}
use Rattle.cw_race.specs.declared.race.Race.{Race}
use Rattle.cw_top.specs.RacesTold.{race_line}
use Rattle.cw_top.proofs.racing.push_races.Goals as goal

-- one more of those that are left
goes_on : (old new whole : List ℕ) (f : Race → List ℕ) (rs : List Race) (i : ℕ) (r : Race) → new ≡ old ++ f r → i < length rs → r ≡ get_or rs i r → old ++ flat_map f (drop i rs) ≡ whole → new ++ flat_map f (drop (i + 1) rs) ≡ whole
goes_on old new whole f rs i r is low item h =
    ap (λ t. t ++ flat_map f (drop (i + 1) rs)) is ∙ append_assoc old (f r) (flat_map f (drop (i + 1) rs)) ∙ sym (ap (λ ms. old ++ flat_map f ms) (drop_more rs i r low ∙ ap (λ m. m ∷ drop (i + 1) rs) (sym item))) ∙ h

pub loop-race-preserved : goal.loop-race-preserved
loop-race-preserved c =
    goes_on (string_bytes c.loop-race.text) (string_bytes c.push_race.new.text) _ (race_line c.args.cells.now c.args.tree.now) c.args.races.now c.loop-race.race-index _
    (c.in_ok-push_race.ensures c.args.cells.now c.in_ok-names.ensures.elements) c.loop-race-test.true (search rules) c.loop-race.invariant
