-- How pairs keep a tree.
use Rattle.cw_tree.specs.Shape.{IsTree}
use Rattle.cw_sp.specs.declared.pairs.Pairs.TheInside.{Inside}
use Rattle.cw_sp.specs.Orders.{english, hebrew}
use Rattle.cw_sp.specs.Lines.{IsLine}

-- the lines keep the leaves of the tree in English and in Hebrew order
pub record ArePairs (p : Inside) : Type 0 where
  pub tree : IsTree p.tree.now
  pub english : IsLine p.tree.now (english p.tree.now) p.english
  pub hebrew : IsLine p.tree.now (hebrew p.tree.now) p.hebrew
