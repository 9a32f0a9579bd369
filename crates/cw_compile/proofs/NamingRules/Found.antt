-- What a map of names finds, as the naming rules find it in a scope.
use Rattle.std.proofs.Common.{◌≡◌, ℕ, List, [], ◌∷◌, cond, Bool, true, false, Option, Some, String, refl, sym}
use Rattle.std.specs.Option.{option_map}
use Rattle.std.specs.BTreeMap.{BTreeMap, get_by_text, is_at}
use Rattle.std.specs.Map.{lookup, update}
use Rattle.std.specs.Str.{bytes_eq}
use Rattle.std.specs.String.{string_bytes}
use Rattle.std.specs.Cmp.Lexicographic.{nat_list_eq_equiv}
use Rattle.std.proofs.lemmas.Map.Text.{is_eq-slice_cmp, text_cmp}
use Rattle.cw_strand.specs.Names.{find}
use Rattle.cw_compile.specs.declared.naming.scope.Thing.{Thing}
use Rattle.cw_compile.specs.NamingRules.Scopes.{thing_of, scope_of, IsSame}

-- one entry, with what is found behind it
entry_finds : (b : Bool) (t : Thing) (o : Option Thing) → cond b (Some (thing_of t)) (option_map thing_of o) ≡ option_map thing_of (cond b (Some t) o)
entry_finds true t o = refl
entry_finds false t o = refl

module _ {Y : Type 0} where
  -- the same over the entries
  find-scope_of : (n : List ℕ) (es : List (String Y × Thing)) → find n (scope_of es) ≡ option_map thing_of (lookup (is_at (text_cmp n)) es)
  find-scope_of n [] = refl
  find-scope_of n (e ∷ es) = rw (is_eq-slice_cmp n (string_bytes e.0), find-scope_of n es) (entry_finds (bytes_eq n (string_bytes e.0)) e.1 _)

  -- what the map has at a name is what the name stands for
  pub find-map : (n : List ℕ) (m : BTreeMap (String Y) Thing) → find n (scope_of m.entries) ≡ option_map thing_of (get_by_text m n)
  find-map n m = find-scope_of n m.entries

  -- a name that was put into the map hides what it stood for
  pub same_from_update : (x : List ℕ) (t : Thing) (old new : BTreeMap (String Y) Thing) → ((n : List ℕ) → get_by_text new n ≡ update bytes_eq (get_by_text old) x (Some t) n) → IsSame (scope_of new.entries) ((x, thing_of t) ∷ scope_of old.entries)
  same_from_update x t old new sets = record { finds = λ n. rw (find-map n new, sets n, find-map n old, nat_list_eq_equiv.symm n x) (sym (entry_finds (bytes_eq x n) t _)) }
