-- Entries of accesses: one more at the end.
use Rattle.std.proofs.Common.{◌≡◌, ℕ, ℤ, List, [], ◌∷◌, ◌++◌, map, refl, ap, sym, ◌∙◌, Bool, true, false, Option, Some, inl, inr, subst}
use Rattle.std.specs.Prelude.{slice_get, is_some, unwrap_or}
use Rattle.std.proofs.lemmas.Option.{same_Some, none-some}
use Rattle.cw_tree.specs.declared.node.Node.{Node}
use Rattle.cw_tree.specs.declared.node.Kind.{Kind}
use Rattle.cw_tree.specs.declared.node.Kind.TheVariants.{Read, Write}
use Rattle.cw_tree.specs.declared.access.Entry.{Entry}
use Rattle.cw_tree.specs.Nodes.{number_in, stamp_of, touches}
use Rattle.cw_tree.specs.Accesses.{cell_value, value_in, written_kind, written, read_kind, read}
use Rattle.cw_tree.specs.Journals.{IsEntry, AreEntries}
use Rattle.cw_tree.proofs.Lists.{In}

pub cell_value_more : (v : ℤ) (ws : List (Option ℤ)) (w : Option ℤ) → cell_value v (ws ++ w ∷ []) ≡ unwrap_or w (cell_value v ws)
cell_value_more v [] w = refl
cell_value_more v (x ∷ ws) w = cell_value_more (unwrap_or x v) ws w

pub entries_more : (t : List Node) (v : ℤ) (us : List ℕ) (es : List Entry) (n : ℕ) (e : Entry) → AreEntries t v us es → IsEntry t (cell_value v (map (written t) us)) n e → AreEntries t v (us ++ n ∷ []) (es ++ e ∷ [])
entries_more t v [] [] n e s h = (h, tt)
entries_more t v [] (f ∷ es) n e s h = absurd s
entries_more t v (u ∷ us) [] n e s h = absurd s
entries_more t v (u ∷ us) (f ∷ es) n e s h = (s.0, entries_more t (unwrap_or (written t u) v) us es n e s.1 h)

-- access n is the same in both trees
pub record SameAccess (t u : List Node) (n : ℕ) : Type 0 where
  pub touched : (c : ℕ) → touches u c n ≡ touches t c n
  pub stamp : stamp_of u n ≡ stamp_of t n
  pub wrote : written u n ≡ written t n
  pub read : read u n ≡ read t n

entry_same : (t u : List Node) (v : ℤ) (n : ℕ) (e : Entry) → SameAccess t u n → IsEntry t v n e → IsEntry u v n e
entry_same t u v n e s h = record {
  stamp = h.stamp ∙ sym s.stamp;
  wrote = h.wrote ∙ ap is_some (sym s.wrote);
  value = h.value ∙ ap (λ o. unwrap_or o v) (sym s.wrote);
  old = h.old;
  read = λ w q. h.read w (sym s.read ∙ q);
}

pub entries_same : (t u : List Node) (v : ℤ) (us : List ℕ) (es : List Entry) → ((n : ℕ) → In n us → SameAccess t u n) → AreEntries t v us es → AreEntries u v us es
entries_same t u v [] [] f s = tt
entries_same t u v [] (e ∷ es) f s = absurd s
entries_same t u v (n ∷ us) [] f s = absurd s
entries_same t u v (n ∷ us) (e ∷ es) f s =
    let P : Option ℤ → Type 0 = λ o. AreEntries u (unwrap_or o v) us es in
    (entry_same t u v n e (f n (inl refl)) s.0, subst P (sym (f n (inl refl)).wrote) (entries_same t u (unwrap_or (written t n) v) us es (λ m h. f m (inr h)) s.1))

-- ## The entry of an access

-- e is the entry of an access with a stamp, that wrote or not, and left a value where it met another
pub record Notes (e : Entry) (time : ℕ) (writes : Bool) (after before : ℤ) : Type 0 where
  pub stamp : e.mark.stamp ≡ time
  pub wrote : e.wrote ≡ writes
  pub value : e.value ≡ after
  pub old : e.old ≡ before

module _ (t : List Node) (n : ℕ) (x : Node) (is : slice_get t n ≡ Some x) where
  pub written_at : (k : Kind) → x.kind ≡ k → written t n ≡ written_kind k
  written_at k q = ap (value_in written_kind) is ∙ ap written_kind q

  read_at : (k : Kind) → x.kind ≡ k → read t n ≡ read_kind k
  read_at k q = ap (value_in read_kind) is ∙ ap read_kind q

  module _ (c : ℕ) (w : ℤ) (e : Entry) where
    -- the entry of a read that met its value
    pub entry_read : x.kind ≡ Read c w → Notes e x.stamp false w w → IsEntry t w n e
    entry_read q note = record {
      stamp = note.stamp ∙ sym (ap (number_in (λ y. y.stamp)) is);
      wrote = note.wrote ∙ ap is_some (sym (written_at (Read c w) q));
      value = note.value ∙ ap (λ o. unwrap_or o w) (sym (written_at (Read c w) q));
      old = note.old;
      read = λ y z. sym (same_Some w y (sym (read_at (Read c w) q) ∙ z));
    }

    -- the entry of a write
    pub entry_written : (v : ℤ) → x.kind ≡ Write c v → Notes e x.stamp true v w → IsEntry t w n e
    entry_written v q note = record {
      stamp = note.stamp ∙ sym (ap (number_in (λ y. y.stamp)) is);
      wrote = note.wrote ∙ ap is_some (sym (written_at (Write c v) q));
      value = note.value ∙ ap (λ o. unwrap_or o w) (sym (written_at (Write c v) q));
      old = note.old;
      read = λ y z. absurd (none-some y (sym (read_at (Write c v) q) ∙ z));
    }
