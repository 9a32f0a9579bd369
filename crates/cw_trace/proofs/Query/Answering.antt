-- What a query tells of the tree, law by law.
use Rattle.std.proofs.Common.{◌≡◌, ◌≢◌, ℕ, ◌<◌, List, [], ◌∷◌, length, refl, ap, sym, ◌∙◌, Bool, true, false, cond, Some, None, inl, inr, subst, nat_lt, nat_eq, eqb-true}
use Rattle.std.specs.Prelude.{◌&&◌, not, if◌then◌else◌}
use Rattle.std.specs.Option.{option_or}
use borrow.Author.Tests.{ltb-true}
use Rattle.std.proofs.lemmas.Bool.{lt-ltb, eq-eqb, and_from}
use Rattle.cw_tree.specs.declared.node.Node.{Node}
use Rattle.cw_tree.specs.declared.access.Mark.{Mark}
use Rattle.cw_tree.specs.Nodes.{is_block, is_pending, stamp_of, touches}
use Rattle.cw_tree.specs.Walks.{path, is_ancestor, is_above, nua, conflict, outermost}
use Rattle.cw_tree.specs.Shape.{IsTree, AreStamps}
use Rattle.cw_tree.proofs.Walks.Ancestors.{ancestor_trans, above_ancestor, ancestor_above}
use Rattle.cw_tree.proofs.Names.Forks.{same_truth}
use Rattle.cw_tree.proofs.Walks.There.{pending_there}
use Rattle.cw_trace.specs.declared.verdict.Verdict.{Verdict}
use Rattle.cw_trace.specs.declared.verdict.Verdict.TheVariants.{Free, Within, Against}
use Rattle.cw_trace.specs.Columns.{ColumnTable, used, owner, inside}
use Rattle.cw_trace.specs.Query.{verdict, covers}
use Rattle.cw_trace.specs.Stands.{Stands, column}
use Rattle.cw_trace.specs.Verdicts.{Tells, mark_of, Decides, DecidesByReading, DecidesInRuns, CoversBlocks, FindsVictims}
use Rattle.cw_trace.proofs.Query.Deciding.{Says, query}
use Rattle.cw_trace.proofs.Keeps.GoingOn.{goes_on}
use Rattle.cw_trace.proofs.Stands.WithStamps.{access_marked, pending_marked}
use Rattle.cw_trace.proofs.Keeps.Meaning.{stands_of}
use Rattle.cw_trace.proofs.Keeps.Owners.{owners_descend, beneath_cut, own_named}
use Rattle.cw_trace.proofs.Keeps.WholeRuns.{each_run_stands}

-- ## What is said is all that is

no_conflict : (t : List Node) (u p : ℕ) → nua t u ≡ None → conflict t u p ≡ false
no_conflict t u p e = rw e refl

a_conflict : (t : List Node) (u p b : ℕ) → nua t u ≡ Some b → conflict t u p ≡ not (is_ancestor t b p)
a_conflict t u p b e = rw e refl

pub tells : (t : List Node) (u p : ℕ) (v : Verdict) → Says t u p v → Tells t u p v
tells t u p Free e = record {
  free = (λ f. e, λ f. refl);
  within = (λ f. absurd (cc f), λ w. absurd (cc (e, w.1)));
  against = sym (no_conflict t u p e);
  begun = λ w f. absurd (cc f);
}
tells t u p Within z = record {
  free = (λ f. absurd (cc f), λ e. absurd (cc (e, z.1)));
  within = (λ f. z, λ w. refl);
  against = sym (a_conflict t u p z.0 z.1 ∙ ap not z.2);
  begun = λ w f. absurd (cc f);
}
tells t u p (Against x) z = record {
  free = (λ f. absurd (cc f), λ e. absurd (cc (e, z.2)));
  within = (λ f. absurd (cc f), λ w. absurd (let same : z.0 ≡ w.0 = cc (z.2, w.1) in cc (ap (λ b. is_ancestor t b p) same, z.3, w.2)));
  against = sym (a_conflict t u p z.0 z.2 ∙ ap not z.3);
  begun = λ w f. (
      let same : x ≡ w = cc f in
      (z.1, and_from (is_pending t z.1 && is_above t z.1 u) (not (is_ancestor t z.1 p)) (and_from (is_pending t z.1) (is_above t z.1 u) z.4 z.5) (ap not z.6), z.7 ∙ same));
}

pub decides_by_reading : DecidesByReading
decides_by_reading c words last asker t cuts joins cell u p st tr s hp goes access el ea =
    let m = access_marked t cell u s access in
    let P : Mark → Type 0 = λ l. Tells t u p (verdict c words l asker) in
    let Q : ℕ → Type 0 = λ i. Tells t u p (verdict c words (mark_of c t u) i) in
    subst P (sym el) (subst Q (sym ea) (tells t u p (verdict c words (mark_of c t u) (column t (used c) p)) (query c words t cuts joins tr st u p m.there hp s m.kind m.some goes)))

pub decides : Decides
decides c words last asker t cuts joins is_open cell u p k tr s o m access el ea =
    decides_by_reading c words last asker t cuts joins cell u p (stands_of c words t cuts joins k) tr s m.there (goes_on c words t cuts joins tr k is_open o p m) access el ea

pub decides_in_runs : DecidesInRuns
decides_in_runs c words t cuts joins cell u p r s w access =
    decides c words (mark_of c t u) (column t (used c) p) t cuts joins w.is_open cell u p (each_run_stands c words t cuts joins r) w.tree s w.ordered w.goes access refl refl

-- ## Which pending blocks are above an access

module _ (c : ColumnTable) (words : List ℕ) (t : List Node) (cuts joins : List ℕ) (tr : IsTree t) (st : Stands c words t cuts joins) (s : AreStamps t) (cell u b : ℕ) (access : touches t cell u ≡ true) (pb : is_pending t b ≡ true) where
  abbrev own : ℕ → ℕ
  own n = owner c (column t (used c) n)

  there : u < length t
  there = (access_marked t cell u s access).there

  over : is_ancestor t b u ≡ true → is_above t b u ≡ true
  over e = sym (ancestor_above t b u (λ q. cc (ap (is_block t) q, (access_marked t cell u s access).kind, (pending_marked t b s pb).kind))) ∙ e

  in_trace : own u ≡ own b → nat_lt (stamp_of t b) (stamp_of t u) ≡ is_above t b u
  in_trace same =
      same_truth (nat_lt (stamp_of t b) (stamp_of t u)) (is_above t b u)
      (λ e. over (st.contains b u (pending_there t b pb) there pb (sym same) (ltb-true _ _ e)))
      (λ e. lt-ltb _ _ (s.begun b u (pending_there t b pb) there (and_from (is_block t b) (is_above t b u) (pending_marked t b s pb).kind e) (access_marked t cell u s access).some))

  from_outside : own u ≢ own b → inside c (own u) (own b) ≡ is_above t b u
  from_outside other =
      let n = own_named c words t cuts joins tr st u there in
      let m = own_named c words t cuts joins tr st b (pending_there t b pb) in
      let brackets = st.brackets (own b) (own u) m.low n.low m.named n.named in
      same_truth (inside c (own u) (own b)) (is_above t b u)
      (λ e.
      let f = beneath_cut c words t cuts joins tr st (own b) (own u) (brackets.0 e) u there refl in
      over (ancestor_trans t tr.rooted b f.0 u there (st.contains_cut b f.0 (pending_there t b pb) pb f.1.fork f.1.cut) f.1.above))
      (λ e. elim (owners_descend c words t cuts joins tr st b u there (above_ancestor t b u e)) [ inl z ↦ absurd (other z) | inr d ↦ brackets.1 d ])

  pub covered : covers c (mark_of c t b) (mark_of c t u) ≡ is_above t b u
  covered = by_trace (nat_eq (own u) (own b)) refl where
    by_trace : (v : Bool) → nat_eq (own u) (own b) ≡ v → (if v then nat_lt (stamp_of t b) (stamp_of t u) else inside c (own u) (own b)) ≡ is_above t b u
    by_trace true e = in_trace (eqb-true _ _ e)
    by_trace false e = from_outside (λ q. cc (e, eq-eqb (own u) (own b) q))

pub covers_blocks : CoversBlocks
covers_blocks c words block last t cuts joins cell u b st tr s access el pending eb =
    ap (λ x. covers c x last) eb ∙ ap (covers c (mark_of c t b)) el ∙ covered c words t cuts joins tr st s cell u b access pending

outermost_same : (p q : ℕ → Bool) → ((n : ℕ) → p n ≡ q n) → (ns : List ℕ) → outermost p ns ≡ outermost q ns
outermost_same p q same [] = refl
outermost_same p q same (n ∷ ns) = ap (λ o. option_or o (cond (p n) (Some n) None)) (outermost_same p q same ns) ∙ ap (λ b. option_or (outermost q ns) (cond b (Some n) None)) (same n)

pub finds_victims : FindsVictims
finds_victims c words t cuts joins cell u p st tr s access =
    outermost_same (λ b. is_pending t b && not (covers c (mark_of c t b) (mark_of c t u))) (λ b. is_pending t b && not (is_above t b u)) (λ b. by_pending b (is_pending t b) refl) (path t p) where
      by_pending : (b : ℕ) (x : Bool) → is_pending t b ≡ x → (x && not (covers c (mark_of c t b) (mark_of c t u))) ≡ (x && not (is_above t b u))
      by_pending b true e = ap not (covered c words t cuts joins tr st s cell u b access e)
      by_pending b false e = refl
