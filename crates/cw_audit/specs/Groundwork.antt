-- What an audit works out of a sheet before it looks at the parts.
use Rattle.std.specs.Prelude.{◌≡◌, ◌↔◌, IsTrue, map}
use Rattle.cw_strand.specs.Programs.{IsProgramOf}
use Rattle.cw_tree.specs.Accesses.{is_live}
use Rattle.cw_tree.specs.Nodes.{all_nodes}
use Rattle.cw_record.specs.Coherent.{IsMemory}
use Rattle.cw_sheet.specs.Contents.{Contents}
use Rattle.cw_audit.specs.declared.auditing.Groundwork.{Groundwork}
use Rattle.cw_audit.specs.LiveAccesses.{all_live_accesses}
use Rattle.cw_audit.specs.Parts.{first_values, AccessesHold}

pub record IsGroundwork (c : Contents) (g : Groundwork) : Type 0 where
  pub program : IsProgramOf c.source.items g.program
  pub first : g.first.items ≡ first_values c
  pub lives : g.lives.items ≡ map (is_live c.tree) (all_nodes c.tree)
  pub accesses : g.accesses.items ≡ all_live_accesses c.tree
  pub fit : IsTrue g.fit ↔ AccessesHold c.tree (first_values c)
  -- once part 2 holds, this is the memory that the run leaves
  pub left : IsTrue g.fit → IsMemory c.tree (first_values c) g.left.items
