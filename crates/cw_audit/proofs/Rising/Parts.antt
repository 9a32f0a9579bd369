-- Part 1 holds exactly where what is decided of it holds.
use Rattle.std.proofs.Common.{◌≡◌, ◌↔◌, ℕ, ◌-◌, ◌<◌, nat_lt, length, List, arith, nat_eq, Bool, true}
use Rattle.std.specs.Prelude.{IsTrue}
use Rattle.std.specs.List.{IsDistinct, flat_map}
use Rattle.std.proofs.lemmas.Bool.{and_parts, and_from, ltb-true, lt-ltb}
use Rattle.cw_tree.specs.declared.node.Node.{Node}
use Rattle.cw_tree.specs.Nodes.{all_nodes, end_of}
use Rattle.cw_tree.specs.Walks.{is_above}
use Rattle.cw_tree.specs.Shape.{AreStamps, is_closed}
use Rattle.cw_audit.specs.Latest.{IsLeast, TopsBeneath, ComesLate, EndsLast}
use Rattle.cw_audit.specs.Stamps.{HasItsStamps, times_of}
use Rattle.cw_audit.proofs.Rising.Times.{differ_from, from_differ}

module _ (t : List Node) where
  pub stamps_from : ((n : ℕ) → n < length t → HasItsStamps t n) → IsDistinct nat_eq (flat_map (times_of t) (all_nodes t)) → ((b : ℕ) → b < length t → EndsLast t b) → ((m : ℕ) → m < length t → ComesLate t m) → AreStamps t
  stamps_from own distinct last late =
      let d = differ_from t distinct in
      record {
        there = λ n a. (own n a).there;
        distinct = d.stamps;
        ends_distinct = d.ends;
        apart = d.both;
        series = λ n m a b e p. (let z = (late m b p).series n a e in let x = z.0 in let y = z.1 in (omega arith, omega arith));
        begun = λ b m a c e p. (let z = (late m c p).begun b a e in omega arith);
        ended = λ b a e. (own b a).ended e;
        beneath = λ b m a c e. (
            let parts = and_parts (is_closed t b) (is_above t b m) e in
            let end = last b a parts.0 in
            let p = end.0 in
            let z = end.1 m c parts.1 in
            let x = z.0 in
            let y = z.1 in
            (omega arith, omega arith));
        no_end = λ n a e. (own n a).no_end e;
      }

  pub own_to : AreStamps t → (n : ℕ) → n < length t → HasItsStamps t n
  own_to s n a = record { there = s.there n a; ended = λ e. s.ended n a e; no_end = λ e. s.no_end n a e }

  pub distinct_to : AreStamps t → IsDistinct nat_eq (flat_map (times_of t) (all_nodes t))
  distinct_to s = from_differ t (record { stamps = s.distinct; ends = s.ends_distinct; both = s.apart })

  pub last_to : AreStamps t → (b : ℕ) → b < length t → EndsLast t b
  last_to s b a e =
      let more = s.ended b a e in (
        omega arith,
        λ m c over. (
            let z = s.beneath b m a c (and_from (is_closed t b) (is_above t b m) e over) in
            let x = z.0 in
            let y = z.1 in
            (omega arith, omega arith)),
      )

  pub late_to : AreStamps t → (m : ℕ) → m < length t → ComesLate t m
  late_to s m b p = record {
    series = λ n a e. (let z = s.series n m a b e p in let x = z.0 in let y = z.1 in (omega arith, omega arith));
    begun = λ c a e. (let z = s.begun c m a b e p in omega arith);
  }

-- what the greatest number beneath a closed block tells of its end
pub ends_is : (t : List Node) (b latest end : ℕ) → is_closed t b ≡ true → IsLeast (TopsBeneath t b) latest → end_of t b ≡ end → (IsTrue (nat_lt latest end) → EndsLast t b) × (EndsLast t b → IsTrue (nat_lt latest end))
ends_is t b latest end closed w is = (
  λ e _. (let less = ltb-true latest end e in (omega arith, w.upward (end_of t b - 1) (omega arith))),
  λ h. (let z = h closed in let p = z.0 in let le = w.least (end_of t b - 1) z.1 in lt-ltb latest end (omega arith)),
)

-- what is decided of part 1 last
pub stamps_last : (t : List Node) (b : Bool) → (AreStamps t → (m : ℕ) → m < length t → ComesLate t m) → (((m : ℕ) → m < length t → ComesLate t m) → AreStamps t) → IsTrue b ↔ ((m : ℕ) → m < length t → ComesLate t m) → IsTrue b ↔ AreStamps t
stamps_last t b to from w = (λ e. from (w.0 e), λ s. w.1 (to s))
