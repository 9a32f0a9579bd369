-- Which item is the function main.
use Rattle.std.proofs.Common.{◌≡◌, ℕ, List, [], ◌∷◌, map, refl, add-one}
use Rattle.std.specs.List.{position_from}
use Rattle.cw_text.specs.declared.ast.Item.{Item}
use Rattle.cw_text.specs.declared.ast.Item.TheVariants.{Cell, Func}
use Rattle.cw_text.specs.Syntax.{declaration_of}
use Rattle.cw_strand.specs.Names.{main_from}
use Rattle.cw_compile.specs.NamingRules.Items.{is_main}

-- the first item that is main, counted from n on
pub position-is_main : (n : ℕ) (items : List Item) → position_from (λ item. is_main (declaration_of item)) n items ≡ main_from n (map declaration_of items)
position-is_main n [] = refl
position-is_main n (Cell x l len i ∷ items) = rw add-one (position-is_main _ items)
position-is_main n (Func x l ps b ∷ items) = rw (add-one, position-is_main _ items) refl
