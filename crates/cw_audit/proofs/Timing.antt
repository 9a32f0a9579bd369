-- What is asked of the moment of a conflict, by floors and firsts.
use Rattle.std.proofs.Common.{ℕ, ◌-◌, List, arith}
use Rattle.cw_tree.specs.declared.node.Node.{Node}
use Rattle.cw_tree.specs.declared.conflict.Conflict.{Conflict}
use Rattle.cw_tree.specs.Nodes.{stamp_of}
use Rattle.cw_audit.specs.Latest.{IsLeast, TopsBefore}
use Rattle.cw_audit.specs.Moments.{HasMoment, PredatesAfter}

module _ (t : List Node) (c : Conflict) (b floor : ℕ) (w : IsLeast (TopsBefore t c.asker) floor) where
  pub moment_from : PredatesAfter t b floor → PredatesAfter t c.asker c.last → HasMoment t c b
  moment_from after_block after_asker = record {
    before_after_block = λ n m hn hm e f p. (
        let less = after_block m hm f p in
        let tops = (w.upward (stamp_of t m - 1) (omega arith)).series n hn e in
        let x = tops.0 in
        let y = tops.1 in
        (omega arith, omega arith));
    begun_after_block = λ n m hn hm e f p. (
        let less = after_block m hm f p in
        let x = (w.upward (stamp_of t m - 1) (omega arith)).begun n hn e in
        omega arith);
    last_after_asker = after_asker;
  }

  pub moment_to : HasMoment t c b → PredatesAfter t b floor × PredatesAfter t c.asker c.last
  moment_to h = (
    λ m hm f p. (
        let le = w.least (stamp_of t m - 1) (record {
          series = λ n hn e. (
              let z = h.before_after_block n m hn hm e f p in
              let x = z.0 in
              let y = z.1 in
              (omega arith, omega arith));
          begun = λ n hn e. (let x = h.begun_after_block n m hn hm e f p in omega arith);
        }) in
        omega arith),
    h.last_after_asker,
  )
