-- What a map of names has.
use Rattle.std.proofs.Common.{◌≡◌, ℕ, List, Option, cond, ap, ◌∙◌}
use Rattle.std.specs.Borrow.{Bor}
use Rattle.std.specs.BTreeMap.{BTreeMap, UpdatesBy, is_at}
use Rattle.std.specs.Map.{lookup}
use Rattle.std.specs.Cmp.Lexicographic.{slice_cmp, nat_list_eq_equiv}
use Rattle.std.specs.Ordering.{nat_cmp}
use Rattle.std.specs.Str.{bytes_eq}
use Rattle.std.proofs.lemmas.Map.Text.{btree_map_updates_str}
use Rattle.cw_compile.specs.Named.{value_named}

-- a name that was set stands for its new value, and every other one for what it stood for
pub value_named-set : {V : Type 0} (name : List ℕ) (old new : BTreeMap (Bor (List ℕ)) V) (o : Option V) → UpdatesBy (λ x y. slice_cmp nat_cmp x.now y.now) (λ k. slice_cmp nat_cmp name k.now) old new o → (n : List ℕ) → value_named (record { map = new }) n ≡ cond (bytes_eq n name) o (value_named (record { map = old }) n)
value_named-set name old new o h n = btree_map_updates_str name old new o h n ∙ rw (nat_list_eq_equiv.symm n name)

-- maps with the same entries have the same
pub value_named-same : {V : Type 0} (old new : BTreeMap (Bor (List ℕ)) V) → new.entries ≡ old.entries → (n : List ℕ) → value_named (record { map = new }) n ≡ value_named (record { map = old }) n
value_named-same old new same n = ap (λ es. lookup (is_at (λ k. slice_cmp nat_cmp n k.now)) es) same
