-- The memory that journals leave: one journal after another, and that it is the memory that the tree leaves.
use Rattle.std.proofs.Common.{◌≡◌, ℕ, ℤ, zero, suc, ◌+◌, ◌<◌, ◌-◌, List, [], ◌∷◌, length, map, get_or, set, take, refl, ap, ◌∙◌, sym, arith, add-one, Some}
use Rattle.std.specs.Prelude.{slice_get, unwrap_or}
use Rattle.std.specs.Option.{option_map_or}
use Rattle.std.proofs.lemmas.Option.{same_Some}
use Rattle.cw_tree.specs.declared.node.Node.{Node}
use Rattle.cw_tree.specs.declared.access.Entry.{Entry}
use Rattle.cw_tree.specs.Accesses.{live_accesses, written, cell_value}
use Rattle.cw_tree.specs.Journals.{AreEntries, AreJournals}
use Rattle.cw_record.specs.Coherent.{IsMemory}
use Rattle.cw_record.specs.Built.{value_left, memory_left}
use Rattle.cw_record.proofs.OneWorker.NotedJournals.{there_too}

-- ## One cell

-- the last of these entries tells, and no first value does
last_tells : (v d : ℤ) (e : Entry) (es : List Entry) → value_left v (e ∷ es) ≡ option_map_or (λ x. x.value) (slice_get (e ∷ es) (length es)) d
last_tells v d e [] = refl
last_tells v d e (x ∷ es) = last_tells e.value d x es

-- what a journal leaves is in its last entry, if it has one
pub last_value : (v : ℤ) (es : List Entry) → value_left v es ≡ option_map_or (λ x. x.value) (slice_get es (length es - 1)) v
last_value v [] = refl
last_value v (e ∷ es) =
    let same : length es ≡ length (e ∷ es) - 1 = omega arith in
    last_tells v v e es ∙ ap (λ k. option_map_or (λ x. x.value) (slice_get (e ∷ es) k) v) same

-- entries of accesses leave what these wrote
entries_leave : (t : List Node) (v : ℤ) (us : List ℕ) (es : List Entry) → AreEntries t v us es → value_left v es ≡ cell_value v (map (written t) us)
entries_leave t v [] [] h = refl
entries_leave t v [] (e ∷ es) h = absurd h
entries_leave t v (u ∷ us) [] h = absurd h
entries_leave t v (u ∷ us) (e ∷ es) h = ap (λ w. value_left w es) h.0.value ∙ entries_leave t (unwrap_or (written t u) v) us es h.1

-- ## All cells

-- one journal more, of a cell that may not be there
one_more : (vs : List ℤ) (kept : List (List Entry)) (c : ℕ) (v : ℤ) (es : List Entry) → c < length kept → set (memory_left vs (take c kept)) c (value_left (get_or (memory_left vs (take c kept)) c v) (get_or kept c es)) ≡ memory_left vs (take (suc c) kept)
one_more vs [] c v es h = absurd (omega arith)
one_more [] (js ∷ kept) zero v es h = refl
one_more [] (js ∷ kept) (suc c) v es h = refl
one_more (w ∷ vs) (js ∷ kept) zero v es h = refl
one_more (w ∷ vs) (js ∷ kept) (suc c) v es h = ap (λ xs. value_left w js ∷ xs) (one_more vs kept c v es (omega arith))

pub one_more_left : (vs : List ℤ) (kept : List (List Entry)) (c : ℕ) (v : ℤ) (es : List Entry) (memory : List ℤ) → c < length kept → memory ≡ memory_left vs (take c kept)
    → set memory c (value_left (get_or memory c v) (get_or kept c es)) ≡ memory_left vs (take (c + 1) kept)
one_more_left vs kept c v es memory h e =
    ap (λ m. set m c (value_left (get_or m c v) (get_or kept c es))) e ∙ one_more vs kept c v es h ∙ ap (λ k. memory_left vs (take k kept)) (sym (add-one c))

as_many_left : (vs : List ℤ) (kept : List (List Entry)) → length (memory_left vs kept) ≡ length vs
as_many_left vs [] = refl
as_many_left [] (js ∷ kept) = refl
as_many_left (v ∷ vs) (js ∷ kept) = ap suc (as_many_left vs kept)

left_at : (vs : List ℤ) (kept : List (List Entry)) (c : ℕ) (v : ℤ) (es : List Entry) → slice_get vs c ≡ Some v → slice_get kept c ≡ Some es → slice_get (memory_left vs kept) c ≡ Some (value_left v es)
left_at vs [] c v es f k = absurd (cc k)
left_at [] (js ∷ kept) c v es f k = absurd (cc f)
left_at (w ∷ vs) (js ∷ kept) zero v es f k = ap Some (ap (λ x. value_left x js) (same_Some w v f) ∙ ap (value_left v) (same_Some js es k))
left_at (w ∷ vs) (js ∷ kept) (suc c) v es f k = left_at vs kept c v es f k

-- journals of a tree leave its memory
pub memory_is_left : (t : List Node) (first : List ℤ) (kept : List (List Entry)) → AreJournals t first kept → IsMemory t first (memory_left first kept)
memory_is_left t first kept j = record {
  len = as_many_left first kept;
  each = λ c v f.
      let (es, k) = there_too first kept c v (sym j.len) f in
      left_at first kept c v es f k ∙ ap Some (entries_leave t v (live_accesses t c) es (j.each c v es f k));
}
