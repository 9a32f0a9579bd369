-- The lists of live accesses as nodes come in.
use Rattle.std.proofs.Common.{◌≡◌, ℕ, ◌<◌, ◌≤◌, List, [], ◌++◌, length, sym, ◌∙◌, subst, arith, Bool, true, inl, inr, length-append}
use Rattle.std.specs.Prelude.{◌⊎◌, ◌&&◌, slice_get, unwrap_or}
use Rattle.std.proofs.lemmas.Bool.{cases_lt}
use Rattle.std.proofs.lemmas.List.Elements.{All-append, All-weaker}
use Rattle.cw_tree.specs.declared.node.Node.{Node}
use Rattle.cw_tree.specs.declared.conflict.Conflict.{Conflict}
use Rattle.cw_tree.specs.Nodes.{is_node, is_block_kind, is_pending_state, touches_kind, stamp_of, touches}
use Rattle.cw_tree.specs.Walks.{IsRooted}
use Rattle.cw_tree.specs.Series.{strand_of}
use Rattle.cw_tree.specs.Accesses.{is_live, HasAccess}
use Rattle.cw_tree.specs.Journals.{fits_cells, FitsCells}
use Rattle.cw_tree.proofs.Lists.{In}
use Rattle.cw_tree.proofs.Walks.There.{node_there}
use Rattle.cw_tree.proofs.NextNodes.Growing.{node_grown, number_grown, ancestor_grown, is_above_grown, strand_of_grown}
use Rattle.cw_tree.proofs.ChainLaws.Stamps.{has_grown}
use Rattle.cw_tree.proofs.Rising.{Rises}
use Rattle.cw_open.specs.Machine.{OpenMachine, live, leads_back}
use Rattle.cw_open.proofs.Refused.Falling.{AreAskers, Holds, IsGone, StayShut, back_kept}
use Rattle.cw_open.proofs.Laws.Named.{live_grown}

pub record AreListed (m : OpenMachine) : Type 0 where
  pub len : length m.lists ≡ length m.first
  pub askers : AreAskers m.tree m.conflicts
  -- each list has accesses of its cell, rises, and has live ones alone
  pub accesses : (c s : ℕ) → In s (live m c) → HasAccess m.tree c s
  pub rises : (c : ℕ) → Rises (live m c)
  pub lives : (c n : ℕ) → touches m.tree c n ≡ true → In (stamp_of m.tree n) (live m c) → is_live m.tree n ≡ true
  -- and it has all that are live, except those that were undone
  pub missing : (c n : ℕ) → touches m.tree c n ≡ true → is_live m.tree n ≡ true → In (stamp_of m.tree n) (live m c) ⊎ IsGone m n
  pub cells : FitsCells m.tree (length m.first)

-- the list of cell c, of these lists
abbrev pub listed : List (List ℕ) → ℕ → List ℕ
listed ls c = unwrap_or (slice_get ls c) []

-- a machine with other parts
abbrev pub with_parts : OpenMachine → List Node → List (List ℕ) → ℕ → List Conflict → List (ℕ × Bool) → (joined stopped : List ℕ) → OpenMachine
with_parts m t ls clock cs finished joined stopped = record { first = m.first; tree = t; lists = ls; clock = clock; conflicts = cs; finished = finished; joined = joined; stopped = stopped }

module _ (m : OpenMachine) (r : IsRooted m.tree) (a : AreListed m) (xs : List Node) (ls : List (List ℕ)) (clock : ℕ) (cs more : List Conflict) (finished : List (ℕ × Bool)) (joined stopped : List ℕ) (told : cs ≡ m.conflicts ++ more)
    (new_askers : AreAskers (m.tree ++ xs) more) (still : StayShut m (with_parts m (m.tree ++ xs) ls clock cs finished joined stopped)) where
  abbrev t : List Node
  t = m.tree

  abbrev u : List Node
  u = t ++ xs

  abbrev k : OpenMachine
  k = with_parts m u ls clock cs finished joined stopped

  holds_grown : (s b : ℕ) → b < length t → Holds t u s b
  holds_grown s b h = record {
    longer = omega (arith, length-append t xs);
    above = λ n l. is_above_grown t xs r s n l;
    over = λ v. ancestor_grown t xs r v b h;
    pending = λ v l o e. node_grown t xs (λ y. is_block_kind y.kind && is_pending_state y.state) v l ∙ e;
    blocks = λ v l. node_grown t xs (λ y. is_block_kind y.kind) v l;
    stamps = λ v l. number_grown t xs (λ y. y.stamp) v l;
  }

  gone_grown : (n : ℕ) → n < length t → IsGone m n → IsGone k n
  gone_grown n h g =
      let b = g.block in
      let there : b < length t = node_there (λ y. is_block_kind y.kind && is_pending_state y.state) t b g.pending in
      let P : ℕ → Type 0 = λ s. leads_back k s b ≡ true in
      record {
        block = b;
        pending = node_grown t xs (λ y. is_block_kind y.kind && is_pending_state y.state) b there ∙ g.pending;
        over = is_above_grown t xs r b n h ∙ g.over;
        back = subst P (sym (strand_of_grown t xs r b there)) (back_kept m k more told a.askers (strand_of t b) b (holds_grown (strand_of t b) b there) g.back);
        shut = still n g;
      }

  -- a list gets just the stamps of the accesses that come in, all of them live
  module _ (len : length ls ≡ length m.lists) (rise : (c : ℕ) → Rises (listed ls c)) (kept : (c s : ℕ) → In s (live m c) → In s (listed ls c)) (came : (c s : ℕ) → In s (listed ls c) → In s (live m c) ⊎ HasAccess u c s)
      (old_only : (c n : ℕ) → touches t c n ≡ true → In (stamp_of t n) (listed ls c) → In (stamp_of t n) (live m c)) (new_in : (c n : ℕ) → length t ≤ n → touches u c n ≡ true → In (stamp_of u n) (listed ls c) × (is_live u n ≡ true))
      (fits : (n : ℕ) → length t ≤ n → n < length u → is_node (λ x. fits_cells (length m.first) x.kind) u n ≡ true) where
    was : (c n : ℕ) → n < length t → touches u c n ≡ true → touches t c n ≡ true
    was c n h e = sym (node_grown t xs (λ y. touches_kind c y.kind) n h) ∙ e

    same_stamp : (n : ℕ) → n < length t → stamp_of u n ≡ stamp_of t n
    same_stamp = number_grown t xs (λ y. y.stamp)

    old_or_new : (P : ℕ → Type 0) → ((n : ℕ) → n < length t → P n) → ((n : ℕ) → length t ≤ n → P n) → (n : ℕ) → P n
    old_or_new P f g n = elim (cases_lt n (length t)) [ inl h ↦ f n h | inr le ↦ g n le ]

    pub listed_grown : AreListed k
    listed_grown = record {
      len = len ∙ a.len;
      askers =
          (let P : List Conflict → Type 0 = λ cs. AreAskers u cs in
          subst P (sym told) (All-append (λ c. c.asker < length u) m.conflicts more (All-weaker (λ c. c.asker < length t) (λ c. c.asker < length u) (λ c h. omega (arith, length-append t xs)) m.conflicts a.askers) new_askers));
      accesses = λ c s i. elim (came c s i) [ inl j ↦ has_grown t xs c s (a.accesses c s j) | inr h ↦ h ];
      rises = rise;
      lives = λ c.
          old_or_new (λ n. touches u c n ≡ true → In (stamp_of u n) (listed ls c) → is_live u n ≡ true)
          (λ n h e i. (
          let P : ℕ → Type 0 = λ s. In s (listed ls c) in
          live_grown t xs r n h ∙ a.lives c n (was c n h e) (old_only c n (was c n h e) (subst P (same_stamp n h) i))))
          (λ n le e i. (new_in c n le e).1);
      missing = λ c.
          old_or_new (λ n. touches u c n ≡ true → is_live u n ≡ true → In (stamp_of u n) (listed ls c) ⊎ IsGone k n)
          (λ n h e l. (
          let P : ℕ → Type 0 = λ s. In s (listed ls c) in
          elim (a.missing c n (was c n h e) (sym (live_grown t xs r n h) ∙ l)) [ inl i ↦ inl (subst P (sym (same_stamp n h)) (kept c (stamp_of t n) i)) | inr g ↦ inr (gone_grown n h g) ]))
          (λ n le e l. inl (new_in c n le e).0);
      cells = old_or_new (λ n. n < length u → is_node (λ x. fits_cells (length m.first) x.kind) u n ≡ true) (λ n h l. node_grown t xs (λ x. fits_cells (length m.first) x.kind) n h ∙ a.cells n h) fits;
    }
