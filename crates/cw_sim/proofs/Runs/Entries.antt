-- The journals of a core are the entries of its cells' lists.
use Rattle.std.proofs.Common.{◌≡◌, ℕ, zero, suc, List, [], ◌∷◌, length, refl, ap, subst, arith, Some}
use Rattle.std.specs.Prelude.{ℤ, slice_get, unwrap_or}
use Rattle.cw_tree.specs.declared.access.Entry.{Entry}
use Rattle.cw_tree.specs.Accesses.{written}
use Rattle.cw_tree.specs.AccessStacks.{access_at}
use Rattle.cw_open.specs.Left.{AreEntriesAt, AreKept}
use Rattle.cw_core.specs.State.{CoreState}
use Rattle.cw_core.specs.Closing.{journal, journals, journals_of}
use Rattle.cw_core.specs.Laws.{IsCore}
use Rattle.cw_core.proofs.Events.Going.{state}

module _ (k : CoreState) where
  entries_at : (v : ℤ) (ss : List ℕ) → AreEntriesAt k.machine.tree v ss (journal k v ss)
  entries_at v [] = tt
  entries_at v (s ∷ ss) = (record { stamp = refl; wrote = refl; value = refl; old = refl }, entries_at (unwrap_or (written k.machine.tree (access_at k.machine.tree s)) v) ss)

  as_many : (vs : List ℤ) (ls : List (List ℕ)) → length ls ≡ length vs → length (journals k vs ls) ≡ length vs
  as_many [] ls e = refl
  as_many (v ∷ vs) [] e = absurd (omega (arith, e))
  as_many (v ∷ vs) (l ∷ ls) e = ap suc (as_many vs ls (omega (arith, e)))

  each_journal : (vs : List ℤ) (ls : List (List ℕ)) (c : ℕ) (v : ℤ) (es : List Entry) → slice_get vs c ≡ Some v → slice_get (journals k vs ls) c ≡ Some es → AreEntriesAt k.machine.tree v (unwrap_or (slice_get ls c) []) es
  each_journal [] ls c v es e q = absurd (cc e)
  each_journal (x ∷ vs) [] c v es e q = absurd (cc q)
  each_journal (x ∷ vs) (l ∷ ls) zero v es e q =
      let value : x ≡ v = cc e in
      let these : journal k x l ≡ es = cc q in
      let P : List Entry → Type 0 = λ es. AreEntriesAt k.machine.tree x l es in
      let Q : ℤ → Type 0 = λ v. AreEntriesAt k.machine.tree v l es in
      subst Q value (subst P these (entries_at x l))
  each_journal (x ∷ vs) (l ∷ ls) (suc c) v es e q = each_journal vs ls c v es e q

pub entries_kept : (first : List ℤ) (k : CoreState) → IsCore first k → AreKept k.machine (journals_of k)
entries_kept first k core = record {
  len = as_many k k.machine.first k.machine.lists (state first k core).listed.len;
  each = λ c v es. each_journal k k.machine.first k.machine.lists c v es;
}
