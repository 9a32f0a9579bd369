-- The stamps of a tree that one worker builds differ and rise along the tree: each exceeds all that were drawn before.
use Rattle.std.proofs.Common.{◌≡◌, ℕ, zero, suc, ◌<◌, List, [], ◌∷◌, length, refl, ap, sym, ◌∙◌, arith, false, nat_lt}
use Rattle.std.specs.Prelude.{◌||◌, All, not}
use Rattle.std.proofs.lemmas.Bool.{and_parts, lt-ltb}
use Rattle.cw_tree.specs.declared.node.Node.{Node}
use Rattle.cw_tree.specs.declared.node.Kind.{Kind}
use Rattle.cw_tree.specs.declared.node.Kind.TheVariants.{Strand, Fork}
use Rattle.cw_tree.specs.Nodes.{is_strand_kind, is_tried_kind, stamp_of, end_of, is_block, fresh_node}
use Rattle.cw_tree.specs.Walks.{IsRooted, is_ancestor, is_above}
use Rattle.cw_tree.specs.Shape.{AreStamps, has_stamp, is_closed}
use Rattle.cw_tree.specs.NextNodes.{IsNextStamp}
use Rattle.cw_tree.proofs.Walks.Ancestors.{ancestor_self}
use Rattle.cw_tree.proofs.NextNodes.Growing.{length_more, rooted_more}
use Rattle.cw_tree.proofs.NextNodes.Stamps.{IsEnd, stamps_more}
use Rattle.cw_record.specs.Drawn.{added, added_fork}
use Rattle.cw_record.proofs.OneWorker.Building.{IsBuilt}
use Rattle.cw_record.proofs.OneWorker.GrowingItems.{built_root}
use Rattle.cw_record.proofs.OneWorker.InSeries.{none_after}
use Rattle.cw_record.proofs.OneWorker.Unstarted.{with_strands, by_strand}

-- ## The root

root_there : (n : ℕ) → n < 1 → nat_lt 0 (stamp_of (fresh_node 0 Strand 0 ∷ []) n) ≡ has_stamp (fresh_node 0 Strand 0 ∷ []) n
root_there zero h = refl
root_there (suc n) h = absurd (omega arith)

root_open : (n : ℕ) → is_closed (fresh_node 0 Strand 0 ∷ []) n ≡ false
root_open zero = refl
root_open (suc n) = refl

pub stamped_root : AreStamps (fresh_node 0 Strand 0 ∷ [])
stamped_root = record {
  there = root_there;
  distinct = λ n m hn hm some e. absurd (let low = built_root.stamps n in omega arith);
  ends_distinct = λ n m hn hm some e. absurd (let low = built_root.ends n in omega arith);
  apart = λ n m hn hm some e. absurd (let low = built_root.ends n in omega arith);
  series = λ n m hn hm e some. absurd (let low = built_root.stamps m in omega arith);
  begun = λ b m hb hm e some. absurd (let low = built_root.stamps m in omega arith);
  ended = λ b h e. absurd (cc (e, root_open b));
  beneath = λ b m hb hm e. absurd (cc ((and_parts (is_closed (fresh_node 0 Strand 0 ∷ []) b) (is_above (fresh_node 0 Strand 0 ∷ []) b m) e).0, root_open b));
  no_end = λ n h e. let low = built_root.ends n in omega arith;
}

-- ## A new node

-- a place is where a node may hang
pub end_of_built : (t : List Node) (p clock : ℕ) → IsBuilt t p clock → IsEnd t p
end_of_built t p clock b = record {
  there = b.there;
  last = λ n h. none_after t p clock b p n (ancestor_self t p) h;
  around = λ a e. (let z = and_parts (is_block t a) (is_ancestor t a p) e in b.pending a z.0 z.1);
}

-- A node that has a stamp is the next that one worker adds, and its stamp is above the clock.
module _ (t : List Node) (r : IsRooted t) (s : AreStamps t) (p : ℕ) (there : p < length t) (kind : Kind) (stamp : ℕ)
    (fits : nat_lt 0 stamp ≡ not (is_strand_kind kind || is_tried_kind kind)) (later : 0 < stamp → (clock : ℕ) × IsBuilt t p clock × (clock < stamp)) where
  next : 0 < stamp → IsEnd t p × IsNextStamp t p stamp
  next some =
      let (c, b, less) = later some in
      let low : (n : ℕ) → (stamp_of t n < stamp) × (end_of t n < stamp) = λ n. (let a = b.stamps n in let e = b.ends n in (omega arith, omega arith)) in (
        end_of_built t p c b,
        record {
          some = some;
          fresh = λ n h. (let z = low n in (omega (arith, z.0), omega (arith, z.1)));
          series = λ n h e. low n;
          begun = λ a h e. (low a).0;
        },
      )

  stamped_more : AreStamps (added t p kind stamp)
  stamped_more = stamps_more t r s p there kind stamp fits next

-- a strand
pub stamped_strand : (t : List Node) → IsRooted t → AreStamps t → (f : ℕ) → f < length t → AreStamps (added t f Strand 0)
stamped_strand t r s f there = stamped_more t r s f there Strand 0 refl (λ some. absurd (omega arith))

-- strands that never start
pub stamped_behind : (t : List Node) → IsRooted t → AreStamps t → (fs : List ℕ) → All (λ f. f < length t) fs → AreStamps (with_strands t fs)
stamped_behind t r s fs low = by_strand AreStamps (length t) (λ u ru le f l old. stamped_strand u ru old f (omega arith)) fs t r (omega arith) low s

module _ (t : List Node) (p clock : ℕ) (b : IsBuilt t p clock) (s : AreStamps t) (stamp : ℕ) (later : clock < stamp) where
  -- a node that is no strand and no refused access
  pub stamped_next : (kind : Kind) → (is_strand_kind kind || is_tried_kind kind) ≡ false → AreStamps (added t p kind stamp)
  stamped_next kind other = stamped_more t b.rooted s p b.there kind stamp (lt-ltb 0 stamp (omega arith) ∙ sym (ap not other)) (λ some. (clock, b, later))

  -- a fork, with its left strand
  pub stamped_forked : AreStamps (added_fork t p stamp)
  stamped_forked =
      let x = fresh_node p Fork stamp in
      stamped_strand (added t p Fork stamp) (rooted_more t x b.rooted b.there) (stamped_next Fork refl) (length t) (omega (arith, length_more t x))
