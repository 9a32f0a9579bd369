-- The machine does items of a tree, always at picks of the leftmost strand.
use Rattle.std.proofs.Common.{◌≡◌, ℕ, ◌<◌, ◌≤◌, List, [], ◌∷◌, ◌++◌, length, map, refl, ap, sym, ◌∙◌, subst, arith, Option, Some, None}
use Rattle.std.specs.Prelude.{slice_get, option_map}
use Rattle.cw_strand.specs.Strands.{Strands}
use Rattle.cw_tree.specs.declared.node.Node.{Node}
use Rattle.cw_tree.specs.declared.node.Kind.{Kind}
use Rattle.cw_serial.specs.StrandTree.{at}
use Rattle.cw_serial.specs.Machine.{Machine, pick}
use Rattle.cw_serial.specs.DepthFirst.{leftmost, GoesDepthFirst, here, picks}
use Rattle.cw_record.specs.declared.items.OrderItem.{OrderItem}
use Rattle.cw_record.specs.declared.items.OrderItem.TheVariants.{Begins, Does, Ends}
use Rattle.cw_record.specs.Order.{node_of}
use Rattle.cw_record.specs.Replay.{doer, IsAct, IsActOf, IsItemDone, DoesAll}

-- what a node is
abbrev pub kind_at : List Node → ℕ → Option Kind
kind_at t n = option_map (λ x. x.kind) (slice_get t n)

-- The nodes of a tree are as in another one, and are done by strands of the same names.
pub record SameDoers (t u : List Node) : Type 0 where
  pub longer : length t ≤ length u
  pub doers : (i : OrderItem) → node_of i < length t → doer u i ≡ doer t i
  pub kinds : (n : ℕ) → n < length t → kind_at u n ≡ kind_at t n

module _ {A : Type 0} (s : Strands A) where
  -- by these items, one after another, a machine becomes another
  abbrev pub Plays : List Node → Machine A → List OrderItem → Machine A → Type 0
  Plays t m [] n = m ≡ n
  Plays t m (i ∷ is) n =
      (a : A) × (u : Machine A) × (node_of i < length t) × (leftmost s m.strands ≡ Some (doer t i)) × (at s m.strands (doer t i) ≡ Some a)
      × IsItemDone t m (s.want a) i × (pick s m (doer t i) ≡ Some u) × Plays t u is n

  pub plays_more : (t : List Node) (m n u : Machine A) (is : List OrderItem) (i : OrderItem) (a : A) → Plays t m is n → node_of i < length t → leftmost s n.strands ≡ Some (doer t i) → at s n.strands (doer t i) ≡ Some a
      → IsItemDone t n (s.want a) i → pick s n (doer t i) ≡ Some u → Plays t m (is ++ i ∷ []) u
  plays_more t m n u [] i a h there left stands act picked =
      let P : Machine A → Type 0 = λ x. Plays t x (i ∷ []) u in subst P (sym h) (a, u, there, left, stands, act, picked, refl)
  plays_more t m n u (j ∷ is) i a (b, x, low, l, e, c, p, more) there left stands act picked =
      (b, x, low, l, e, c, p, plays_more t x n u is i a more there left stands act picked)

  act_kept : (t u : List Node) (memory : List _) (since : List _) (w : _) (n : ℕ) → kind_at u n ≡ kind_at t n → IsActOf memory since w (slice_get t n) → IsActOf memory since w (slice_get u n)
  act_kept t u memory since w n e h = by (slice_get t n) (slice_get u n) e h where
    by : (o q : Option Node) → option_map (λ x. x.kind) q ≡ option_map (λ x. x.kind) o → IsActOf memory since w o → IsActOf memory since w q
    by None q e h = absurd h
    by (Some x) None e h = absurd (cc e)
    by (Some x) (Some y) e h =
        let same : y.kind ≡ x.kind = cc e in
        let P : Kind → Type 0 = λ k. IsAct memory since w k in subst P (sym same) h

  item_kept : (t u : List Node) (same : SameDoers t u) (m : Machine A) (w : _) (i : OrderItem) → node_of i < length t → IsItemDone t m w i → IsItemDone u m w i
  item_kept t u same m w (Begins n) there h = h
  item_kept t u same m w (Does n) there h = act_kept t u m.memory m.since w n (same.kinds n there) h
  item_kept t u same m w (Ends n) there h = h

  -- the same in a tree that has grown
  pub plays_kept : (t u : List Node) (same : SameDoers t u) (m n : Machine A) (is : List OrderItem) → Plays t m is n → Plays u m is n
  plays_kept t u same m n [] h = h
  plays_kept t u same m n (i ∷ is) (a, x, there, left, stands, act, picked, more) =
      let name = same.doers i there in
      let longer = same.longer in
      (a, x, omega arith, left ∙ ap Some (sym name), ap (at s m.strands) name ∙ stands, item_kept t u same m (s.want a) i there act, ap (pick s m) name ∙ picked, plays_kept t u same x n is more)

  pub does_all : (t : List Node) (m n : Machine A) (is : List OrderItem) → Plays t m is n → DoesAll s t m is n
  does_all t m n [] h = h
  does_all t m n (i ∷ is) (a, x, there, left, stands, act, picked, more) = (a, x, stands, act, picked, does_all t x n is more)

  pub goes_depth_first : (t : List Node) (m n : Machine A) (is : List OrderItem) → Plays t m is n → GoesDepthFirst s m (map (doer t) is) n
  goes_depth_first t m n [] h = let P : Machine A → Type 0 = λ x. GoesDepthFirst s m [] x in subst P h here
  goes_depth_first t m n (i ∷ is) (a, x, there, left, stands, act, picked, more) = picks left picked (goes_depth_first t x n is more)
