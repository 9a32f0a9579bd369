use Rattle.std.proofs.Common.{◌≡◌, ◌<◌, ◌-◌, ℕ, ℤ, pos, List, length, map, get_or, arith, ap, sym, ◌∙◌, subst, rules, w64, SFits, to_z, of_z, Some}
use Rattle.std.specs.Prelude.{IsTrue, is_some}
use Rattle.std.proofs.lemmas.Bool.{eqb-true}
use Rattle.std.proofs.lemmas.Int.{to_z-of_z}
use Rattle.std.proofs.lemmas.Option.{get_or_from_slice_get}
use Rattle.cw_tree.specs.Accesses.{cell_value, live_accesses, written}
use Rattle.cw_tree.specs.Cancels.{before_block}
use Rattle.cw_tree.specs.Nodes.{is_block_kind}
use Rattle.cw_tree.specs.Walks.{is_above}
use Rattle.cw_tree.proofs.Cancels.{live_is}
use Rattle.cw_tree.proofs.Lists.{In, length_map_below}
use Rattle.cw_tree.proofs.Members.{all_of, at_in}
use Rattle.cw_tree.proofs.Walks.There.{node_there}
use Rattle.cw_serial.proofs.Numbers.{get_some}
use Rattle.cw_audit.specs.Journals.{ReadWhatWasLeft}
use Rattle.cw_audit.specs.LiveAccesses.{cell_accessed}
use Rattle.cw_audit.specs.Together.{AreTogether}
use Rattle.cw_audit.proofs.Backs.{journal_is, journal_there, value_of_written}
use Rattle.cw_audit.proofs.FurtherOut.{cell_of}
use Rattle.cw_audit.proofs.Together.{accesses_together}
use Rattle.cw_audit.proofs.entries.is_put_back.Goals as goal

pub journal_of-journal-requires : goal.journal_of-journal-requires
journal_of-journal-requires c =
    omega (arith, ap length (c.as_slice.ensures.value ∙ c.requires.survey.journals), length_map_below (live_accesses c.args.tree.now) (length c.args.first.now), c.requires.cell)

pub count_before-end-requires : goal.count_before-end-requires
count_before-end-requires c =
    let t = c.args.tree.now in
    let js = c.journal_of-journal.result.now in
    let same = journal_is t c.as_slice.result.now (length c.args.first.now) c.args.entry.cell js (c.as_slice.ensures.value ∙ c.requires.survey.journals) c.requires.cell c.journal_of-journal.ensures in
    all_of (λ u. u < length t) js (λ v i. journal_there t c.args.entry.cell js same v i)

pub index-write-requires : goal.index-write-requires
index-write-requires c =
    let t = c.args.tree.now in
    let js = c.journal_of-journal.result.now in
    let same = journal_is t c.as_slice.result.now (length c.args.first.now) c.args.entry.cell js (c.as_slice.ensures.value ∙ c.requires.survey.journals) c.requires.cell c.journal_of-journal.ensures in
    let end = c.count_before-end.result in
    let there : get_or js (end - 1) 0 < length t = journal_there t c.args.entry.cell js same (get_or js (end - 1) 0) (at_in js (end - 1) (omega (arith, c.count_before-end.ensures))) in
    let ok = c.args.survey.now.latest.ok in
    omega (arith, there, c.requires.survey.latest, ok.0)

pub was_written-requires-clause-block : goal.was_written-requires-clause-block
was_written-requires-clause-block c = node_there (λ x. is_block_kind x.kind) c.args.tree.now c.args.block c.requires.there

pub value_before-requires-clause-block : goal.value_before-requires-clause-block
value_before-requires-clause-block c = node_there (λ x. is_block_kind x.kind) c.args.tree.now c.args.block c.requires.there

pub value_before-requires-clause-there : goal.value_before-requires-clause-there
value_before-requires-clause-there c =
    let t = c.args.tree.now in
    let js = c.journal_of-journal.result.now in
    let same = journal_is t c.as_slice.result.now (length c.args.first.now) c.args.entry.cell js (c.as_slice.ensures.value ∙ c.requires.survey.journals) c.requires.cell c.journal_of-journal.ensures in
    all_of (λ u. u < length t) js (λ v i. journal_there t c.args.entry.cell js same v i)

pub value_before-requires-clause-accesses : goal.value_before-requires-clause-accesses
value_before-requires-clause-accesses c =
    let t = c.args.tree.now in
    let d = c.args.entry.cell in
    let js = c.journal_of-journal.result.now in
    let same = journal_is t c.as_slice.result.now (length c.args.first.now) d js (c.as_slice.ensures.value ∙ c.requires.survey.journals) c.requires.cell c.journal_of-journal.ensures in
    all_of (λ u. IsTrue (is_some (cell_accessed t u))) js (λ v i. let P : List ℕ → Type 0 = λ ns. In v ns in ap is_some (cell_of t v d (live_is t d v (subst P same i)).0))

pub value_before-requires-clause-together : goal.value_before-requires-clause-together
value_before-requires-clause-together c =
    let t = c.args.tree.now in
    let d = c.args.entry.cell in
    let js = c.journal_of-journal.result.now in
    let same = journal_is t c.as_slice.result.now (length c.args.first.now) d js (c.as_slice.ensures.value ∙ c.requires.survey.journals) c.requires.cell c.journal_of-journal.ensures in
    let before = c.requires.before in
    let P : List ℕ → Type 0 = λ ns. AreTogether (is_above t c.args.block) ns in
    subst P (sym same) (accesses_together t d c.args.block before.stamps (before.ended d c.requires.cell) c.requires.there)

pub value_before-requires-clause-reads : goal.value_before-requires-clause-reads
value_before-requires-clause-reads c =
    let t = c.args.tree.now in
    let d = c.args.entry.cell in
    let first = c.args.first.now in
    let js = c.journal_of-journal.result.now in
    let same = journal_is t c.as_slice.result.now (length first) d js (c.as_slice.ensures.value ∙ c.requires.survey.journals) c.requires.cell c.journal_of-journal.ensures in
    let (v, at) = get_some first d c.requires.cell in
    let is : get_or first d (pos 0) ≡ v = get_or_from_slice_get first d v (pos 0) at in
    let had : SFits w64 (get_or first d (pos 0)) = search rules in
    let P : List ℕ → Type 0 = λ ns. ReadWhatWasLeft t v ns in
    let Q : ℤ → Type 0 = λ x. ReadWhatWasLeft t x js in
    subst Q (sym (to_z-of_z w64 (get_or first d (pos 0)) had ∙ is)) (subst P (sym same) (c.requires.before.reads d v at))

pub returns-in-Some : goal.returns-in-Some
returns-in-Some c e =
    let t = c.args.tree.now in
    let d = c.args.entry.cell in
    let b = c.args.block in
    let s = c.args.stamp in
    let first = c.args.first.now in
    let js = c.journal_of-journal.result.now in
    let same = journal_is t c.as_slice.result.now (length first) d js (c.as_slice.ensures.value ∙ c.requires.survey.journals) c.requires.cell c.journal_of-journal.ensures in
    let v = get_or first d (pos 0) in
    let fits : SFits w64 v = search rules in
    let found : SFits w64 c.in-Some.before = search rules in
    let told : SFits w64 c.args.entry.value = search rules in
    let is : c.in-Some.before ≡ c.args.entry.value = sym (to_z-of_z w64 c.in-Some.before found) ∙ ap (to_z w64) (eqb-true (of_z w64 c.in-Some.before) (of_z w64 c.args.entry.value) e) ∙ to_z-of_z w64 c.args.entry.value told in
    let left : c.in-Some.before ≡ cell_value (to_z w64 (of_z w64 v)) (map (written t) (before_block t b js)) = c.in-Some.ensures in
    sym (value_of_written t b s v (live_accesses t d) (c.was_written.ensures c.if-not-was_written.false))
    ∙ ap Some (ap (λ us. cell_value v (map (written t) (before_block t b us))) (sym same) ∙ ap (λ x. cell_value x (map (written t) (before_block t b js))) (sym (to_z-of_z w64 v fits)) ∙ sym left ∙ is)
