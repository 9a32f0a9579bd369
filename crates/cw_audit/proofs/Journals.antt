-- The journals that a tree tells are its journals exactly where its live reads are right.
use Rattle.std.proofs.Common.{◌≡◌, ℕ, ℤ, zero, suc, ◌+◌, ◌<◌, List, [], ◌∷◌, length, refl, ap, subst, arith, Some}
use Rattle.std.specs.Prelude.{slice_get, unwrap_or}
use Rattle.std.proofs.lemmas.Option.{same_Some, slice_get_within}
use Rattle.cw_tree.specs.declared.node.Node.{Node}
use Rattle.cw_tree.specs.declared.access.Entry.{Entry}
use Rattle.cw_tree.specs.Accesses.{live_accesses, written}
use Rattle.cw_tree.specs.Journals.{AreEntries, AreJournals}
use Rattle.cw_serial.proofs.Numbers.{get_some}
use Rattle.cw_audit.specs.Journals.{entries_told, journals_from, journals_told, ReadWhatWasLeft, ReadsAreRight}

are_entries : (t : List Node) (v : ℤ) (us : List ℕ) → ReadWhatWasLeft t v us → AreEntries t v us (entries_told t v us)
are_entries t v [] h = tt
are_entries t v (u ∷ us) h = (record { stamp = refl; wrote = refl; value = refl; old = refl; read = h.0 }, are_entries t (unwrap_or (written t u) v) us h.1)

read_left : (t : List Node) (v : ℤ) (us : List ℕ) (es : List Entry) → AreEntries t v us es → ReadWhatWasLeft t v us
read_left t v [] es h = tt
read_left t v (u ∷ us) [] h = absurd h
read_left t v (u ∷ us) (e ∷ es) h = (h.0.read, read_left t (unwrap_or (written t u) v) us es h.1)

as_many : (t : List Node) (k : ℕ) (vs : List ℤ) → length (journals_from t k vs) ≡ length vs
as_many t k [] = refl
as_many t k (v ∷ vs) = ap suc (as_many t (suc k) vs)

-- the journal of cell n
journal_at : (t : List Node) (k : ℕ) (vs : List ℤ) (c n : ℕ) (v : ℤ) (es : List Entry) → n ≡ k + c → slice_get vs c ≡ Some v → slice_get (journals_from t k vs) c ≡ Some es
    → entries_told t v (live_accesses t n) ≡ es
journal_at t k [] c n v es q e f = absurd (cc e)
journal_at t k (w ∷ vs) zero n v es q e f =
    let here : k ≡ n = omega arith in
    let told : entries_told t w (live_accesses t k) ≡ es = same_Some _ es f in
    let value : w ≡ v = same_Some w v e in
    let P : ℕ → Type 0 = λ m. entries_told t v (live_accesses t m) ≡ es in
    let Q : ℤ → Type 0 = λ x. entries_told t x (live_accesses t k) ≡ es in
    subst P here (subst Q value told)
journal_at t k (w ∷ vs) (suc c) n v es q e f = let next : n ≡ suc k + c = omega arith in journal_at t (suc k) vs c n v es next e f

-- where its reads are right, a tree's journals are those that it tells
pub told_journals : (t : List Node) (first : List ℤ) → ReadsAreRight t first → AreJournals t first (journals_told t first)
told_journals t first h = record {
  len = as_many t 0 first;
  each = λ c v es e f. (
      let same : c ≡ 0 + c = omega arith in
      let P : List Entry → Type 0 = λ x. AreEntries t v (live_accesses t c) x in
      subst P (journal_at t 0 first c c v es same e f) (are_entries t v (live_accesses t c) (h c v e)));
}

-- and they are right where it has journals
pub right_reads : (t : List Node) (first : List ℤ) (kept : List (List Entry)) → AreJournals t first kept → ReadsAreRight t first
right_reads t first kept j c v e =
    let there : c < length kept = omega (arith, slice_get_within first c v e, j.len) in
    let (es, at) = get_some kept c there in
    read_left t v (live_accesses t c) es (j.each c v es e at)
