-- What is kept of a small run, part by part: journals, what ended between their entries, and a refusal, by equations that compute.
use Rattle.std.proofs.Common.{◌≡◌, ℕ, ℤ, zero, suc, List, [], ◌∷◌, length, refl, ap, sym, ◌∙◌, arith, Bool, true, Some, subst, nat_lt}
use Rattle.std.specs.Prelude.{◌&&◌, not, IsTrue, slice_get, All, option_map, is_some, unwrap_or}
use Rattle.std.proofs.lemmas.Bool.{and_parts, ltb-true}
use Rattle.std.proofs.lemmas.Option.{same_Some}
use Rattle.cw_tree.specs.declared.node.Node.{Node}
use Rattle.cw_tree.specs.declared.access.Entry.{Entry}
use Rattle.cw_tree.specs.declared.conflict.Conflict.{Conflict}
use Rattle.cw_tree.specs.Nodes.{stamp_of, end_of, is_block, is_committed, touches, tries}
use Rattle.cw_tree.specs.Walks.{is_above}
use Rattle.cw_tree.specs.Series.{parallel}
use Rattle.cw_tree.specs.Attempts.{attempt_of}
use Rattle.cw_tree.specs.Accesses.{written, read, HasAccess}
use Rattle.cw_tree.specs.Journals.{IsEntry, IsJournal, AreJournals, EndedBetween}
use Rattle.cw_tree.specs.Refusals.{IsRefusal, IsRecorded, victim_of, outermost_apart}
use Rattle.cw_tree.proofs.Worked.Checks.{all_below, all_pairs, each_below, implies, implied, before_test, around_asker_test, after_test, before_after, begun_after, last_after, all_one}

-- ## Journals

-- what holds at each place of two lists of one length
abbrev pub AllBoth : {X Y : Type 0} → (ℕ → X → Y → Type 0) → List X → List Y → Type 0
AllBoth P [] [] = Unit {0}
AllBoth P (x ∷ xs) (y ∷ ys) = P 0 x y × AllBoth (λ n. P (suc n)) xs ys
AllBoth P xs ys = ⊥

pub both_at : {X Y : Type 0} (P : ℕ → X → Y → Type 0) (xs : List X) (ys : List Y) → AllBoth P xs ys → (n : ℕ) (x : X) (y : Y) → slice_get xs n ≡ Some x → slice_get ys n ≡ Some y → P n x y
both_at P [] ys h n x y e f = absurd (cc e)
both_at P (a ∷ xs) [] h n x y e f = absurd h
both_at {X} {Y} P (a ∷ xs) (b ∷ ys) h zero x y e f =
    let Q : X → Type 0 = λ z. P zero z y in
    let R : Y → Type 0 = λ z. P zero a z in
    subst Q (same_Some a x e) (subst R (same_Some b y f) h.0)
both_at P (a ∷ xs) (b ∷ ys) h (suc n) x y e f = both_at (λ m. P (suc m)) xs ys h.1 n x y e f

both_long : {X Y : Type 0} (P : ℕ → X → Y → Type 0) (xs : List X) (ys : List Y) → AllBoth P xs ys → length ys ≡ length xs
both_long P [] [] h = refl
both_long P [] (b ∷ ys) h = absurd h
both_long P (a ∷ xs) [] h = absurd h
both_long P (a ∷ xs) (b ∷ ys) h = ap suc (both_long (λ m. P (suc m)) xs ys h.1)

module _ (t : List Node) where
  pub are_journals : (first : List ℤ) (kept : List (List Entry)) → AllBoth (IsJournal t) first kept → AreJournals t first kept
  are_journals first kept h = record { len = both_long (IsJournal t) first kept h; each = both_at (IsJournal t) first kept h }

  pub is_entry : (v : ℤ) (u : ℕ) (e : Entry) → e.mark.stamp ≡ stamp_of t u → e.wrote ≡ is_some (written t u) → e.value ≡ unwrap_or (written t u) v → e.old ≡ v → unwrap_or (read t u) v ≡ v → IsEntry t v u e
  is_entry v u e stamp wrote value old read = record { stamp = stamp; wrote = wrote; value = value; old = old; read = λ w q. sym (ap (λ o. unwrap_or o v) q) ∙ read }

  -- what ended between two accesses
  abbrev pub between_test : ℕ → ℕ → ℕ → Bool
  between_test u v b = implies (is_block t b && is_above t b u && not (is_above t b v)) (is_committed t b && nat_lt (end_of t b) (stamp_of t v))

  pub ended_between : (u v : ℕ) → all_below (between_test u v) (length t) ≡ true → EndedBetween t u v
  ended_between u v h b low e = let z = and_parts _ _ (implied _ _ (each_below (between_test u v) (length t) h b low) e) in (z.0, ltb-true _ _ z.1)

  -- ## A refusal

  -- what computes of a conflict of access u with block b, whose chain is that access alone
  abbrev pub Refuses : Conflict → (u b : ℕ) → Type 0
  Refuses c u b =
      IsTrue (touches t c.cell u)
      × (stamp_of t u ≡ c.last)
      × IsTrue (tries t c.cell c.asker)
      × IsTrue (parallel t u c.asker)
      × IsTrue (is_block t b && is_above t b u && not (is_above t b c.asker))
      × (stamp_of t b ≡ c.block)
      × (victim_of c ≡ option_map (stamp_of t) (outermost_apart t u c.asker))
      × (c.attempt ≡ attempt_of t c.asker (outermost_apart t u c.asker))
      × (c.chain ≡ c.last ∷ [])

  abbrev pub AtItsTime : Conflict → (b : ℕ) → Type 0
  AtItsTime c b =
      (all_pairs (before_test t c.asker b c.last) (length t) ≡ true)
      × (all_pairs (around_asker_test t c.asker b c.last) (length t) ≡ true)
      × (all_below (after_test t c.asker b c.last) (length t) ≡ true)

  pub recorded : (c : Conflict) (u b : ℕ) → Refuses c u b → AtItsTime c b → All (IsRecorded t) (c ∷ [])
  recorded c u b w m =
      let one = w.8 in
      let P : List ℕ → Type 0 = All (HasAccess t c.cell) in
      let refusal : IsRefusal t c u b = record {
        last = (w.0, w.1);
        asker = w.2;
        parallel = w.3;
        block = (w.4, w.5);
        victim = w.6;
        attempt = w.7;
        chain_len = (omega (arith, ap length one), omega (arith, ap length one));
        chain_rises = λ k h. absurd (omega (arith, ap length one));
        chain_accesses = subst P (sym one) (all_one (HasAccess t c.cell) c.last (u, w.0, w.1));
        chain_last = ([], one);
        before_after_block = before_after t c.asker b c.last m.0;
        begun_after_block = begun_after t c.asker b c.last m.1;
        last_after_asker = last_after t c.asker b c.last m.2;
      } in
      all_one (IsRecorded t) c (u, b, refusal)
