-- What a conflict tells of a strand.
use Rattle.std.proofs.Common.{◌≡◌, ℕ, List, ap, sym, ◌∙◌, false, refl, cond, nat_eq, Option, Some, None}
use Rattle.std.specs.Prelude.{◌&&◌}
use Rattle.std.specs.Option.{option_map_or}
use Rattle.std.proofs.lemmas.Bool.{eq-eqb, ne_eqb}
use Rattle.cw_tree.specs.declared.node.Node.{Node}
use Rattle.cw_tree.specs.declared.conflict.Conflict.{Conflict}
use Rattle.cw_tree.specs.Nodes.{block_with_stamp}
use Rattle.cw_tree.specs.Series.{strand_of}
use Rattle.cw_tree.specs.Refusals.{victim_of, is_refused_in, tells}

pub victim_some : (c : Conflict) → (c.victim ≡ 0 → ⊥) → victim_of c ≡ Some c.victim
victim_some c h = ap (λ b. cond b None (Some c.victim)) (ne_eqb c.victim 0 h)

-- a conflict of the right attempt tells by what it refused
tells_by : (t : List Node) (s : ℕ) (c : Conflict) (o : Option ℕ) → victim_of c ≡ o → tells t c.attempt s c ≡ is_refused_in t s c.asker o
tells_by t s c o e = ap (λ x. x && is_refused_in t s c.asker (victim_of c)) (eq-eqb c.attempt c.attempt refl) ∙ ap (is_refused_in t s c.asker) e

pub tells_block : (t : List Node) (s : ℕ) (c : Conflict) (o : Option ℕ) → (c.victim ≡ 0 → ⊥) → o ≡ block_with_stamp t c.victim → tells t c.attempt s c ≡ option_map_or (λ n. nat_eq (strand_of t n) s) o false
tells_block t s c o h e = tells_by t s c (Some c.victim) (victim_some c h) ∙ ap (λ b. option_map_or (λ n. nat_eq (strand_of t n) s) b false) (sym e)
