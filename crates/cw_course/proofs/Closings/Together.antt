-- The tree of a course's logs: its own nodes, and behind them the logs of its right strands, each beneath its fork.
use Rattle.std.proofs.Common.{◌≡◌, ℕ, ◌+◌, List, [], ◌∷◌, ◌++◌, map, length, append_assoc, cond, refl, ap, sym, ◌∙◌, subst, arith, Some, None, inl, inr}
use Rattle.std.proofs.lemmas.Bool.{eq-eqb, ne_eqb}
use Rattle.std.proofs.lemmas.List.{map-append}
use Rattle.cw_code.specs.declared.FaultKind.{FaultKind}
use Rattle.cw_tree.specs.declared.node.Node.{Node}
use Rattle.cw_tree.specs.declared.node.Kind.TheVariants.{Strand, Fork, Block}
use Rattle.cw_tree.specs.declared.node.BlockState.TheVariants.{Pending, Committed, Aborted}
use Rattle.cw_tree.specs.Nodes.{fresh_node}
use Rattle.cw_log.specs.declared.log.Log.{Log}
use Rattle.cw_course.specs.Courses.{Course, nothing, act, block, fork, fault, size, laid, own_log, rights, logs_of}
use Rattle.cw_course.specs.Closings.{hung, base_of, put_together, tree_of, HasNone, AreApart, FaultsIn}
use Rattle.cw_course.proofs.Closings.Shown.{width}
use Rattle.cw_course.proofs.Closings.Laying.{beside, laid_many}
use Rattle.cw_course.proofs.Closings.Faulting.{Faults}

-- ## Numbers that are shifted

pub same_laid : (cs : Course) (a b c d : ℕ) → a ≡ b → c ≡ d → laid cs a c ≡ laid cs b d
same_laid cs a b c d e f = ap (λ k. laid cs k c) e ∙ ap (laid cs b) f

abbrev shifted : ℕ → Node → Node
shifted k x = record x { parent = k + x.parent }

laid_shifted : (k : ℕ) (cs : Course) (base under : ℕ) → map (shifted k) (laid cs base under) ≡ laid cs (k + base) (k + under)
laid_shifted k nothing base under = refl
laid_shifted k (act cs kind stamp) base under =
    map-append (shifted k) (laid cs base under) (fresh_node under kind stamp ∷ []) ∙ ap (λ xs. xs ++ fresh_node (k + under) kind stamp ∷ []) (laid_shifted k cs base under)
laid_shifted k (block cs state stamp end js) base under =
    let n = base + size cs in
    let e : k + n ≡ k + base + size cs = omega arith in
    let f : k + (n + 1) ≡ k + base + size cs + 1 = omega arith in
    let x = record (fresh_node under Block stamp) { state = state; end = end } in
    map-append (shifted k) (laid cs base under) (x ∷ laid js (n + 1) n)
    ∙ ap (λ xs. xs ++ shifted k x ∷ map (shifted k) (laid js (n + 1) n)) (laid_shifted k cs base under)
    ∙ ap (λ xs. laid cs (k + base) (k + under) ++ shifted k x ∷ xs) (laid_shifted k js (n + 1) n ∙ same_laid js _ _ _ _ f e)
laid_shifted k (fork cs None stamp ls rs) base under =
    let n = base + size cs in
    let m = k + base + size cs in
    let e : k + n ≡ m = omega arith in
    let l = laid ls (n + 3) (n + 1) in
    let r = laid rs (n + 3 + size ls) (n + 2) in
    let el : map (shifted k) l ≡ laid ls (m + 3) (m + 1) = laid_shifted k ls (n + 3) (n + 1) ∙ same_laid ls _ _ _ _ (omega arith) (omega arith) in
    let er : map (shifted k) r ≡ laid rs (m + 3 + size ls) (m + 2) = laid_shifted k rs (n + 3 + size ls) (n + 2) ∙ same_laid rs _ _ _ _ (omega arith) (omega arith) in
    let x = fresh_node n Strand 0 in
    map-append (shifted k) (laid cs base under) (fresh_node under Fork stamp ∷ x ∷ x ∷ (l ++ r))
    ∙ ap (λ xs. xs ++ fresh_node (k + under) Fork stamp ∷ shifted k x ∷ shifted k x ∷ map (shifted k) (l ++ r)) (laid_shifted k cs base under)
    ∙ ap (λ q. laid cs (k + base) (k + under) ++ fresh_node (k + under) Fork stamp ∷ fresh_node q Strand 0 ∷ fresh_node q Strand 0 ∷ map (shifted k) (l ++ r)) e
    ∙ ap (λ xs. laid cs (k + base) (k + under) ++ fresh_node (k + under) Fork stamp ∷ fresh_node m Strand 0 ∷ fresh_node m Strand 0 ∷ xs)
    (map-append (shifted k) l r ∙ ap (λ xs. xs ++ map (shifted k) r) el ∙ ap (λ xs. laid ls (m + 3) (m + 1) ++ xs) er)
laid_shifted k (fork cs (Some column) stamp ls rs) base under =
    let n = base + size cs in
    let m = k + base + size cs in
    let e : k + n ≡ m = omega arith in
    let l = laid ls (n + 2) (n + 1) in
    let el : map (shifted k) l ≡ laid ls (m + 2) (m + 1) = laid_shifted k ls (n + 2) (n + 1) ∙ same_laid ls _ _ _ _ (omega arith) (omega arith) in
    let x = fresh_node n Strand 0 in
    map-append (shifted k) (laid cs base under) (fresh_node under Fork stamp ∷ x ∷ l)
    ∙ ap (λ xs. xs ++ fresh_node (k + under) Fork stamp ∷ shifted k x ∷ map (shifted k) l) (laid_shifted k cs base under)
    ∙ ap (λ q. laid cs (k + base) (k + under) ++ fresh_node (k + under) Fork stamp ∷ fresh_node q Strand 0 ∷ map (shifted k) l) e
    ∙ ap (λ xs. laid cs (k + base) (k + under) ++ fresh_node (k + under) Fork stamp ∷ fresh_node m Strand 0 ∷ xs) el
laid_shifted k (fault cs kind) base under = laid_shifted k cs base under

same_beside : (cs : Course) (a b c d : ℕ) → a ≡ b → c ≡ d → beside cs a c ≡ beside cs b d
same_beside cs a b c d e f = ap (λ k. beside cs k c) e ∙ ap (beside cs b) f

-- ## Logs one after another

abbrev pub total : List Log → ℕ
total [] = 0
total (l ∷ ls) = length l.nodes + total ls

total_append : (xs ys : List Log) → total (xs ++ ys) ≡ total xs + total ys
total_append [] ys = omega arith
total_append (l ∷ xs) ys = omega (arith, total_append xs ys)

rights_many : (cs : Course) (column base : ℕ) → total (rights cs column base) ≡ width cs
rights_many nothing column base = refl
rights_many (act cs kind stamp) column base = rights_many cs column base
rights_many (block cs state stamp end js) column base =
    total_append (rights cs column base) (rights js column (base + size cs + 1)) ∙ omega (arith, rights_many cs column base, rights_many js column (base + size cs + 1))
rights_many (fork cs None stamp ls rs) column base =
    let n = base + size cs in
    let l = rights ls column (n + 3) in
    let r = rights rs column (n + 3 + size ls) in
    total_append (rights cs column base) (l ++ r) ∙ omega (arith, total_append l r, rights_many cs column base, rights_many ls column (n + 3), rights_many rs column (n + 3 + size ls))
rights_many (fork cs (Some right) stamp ls rs) column base =
    let n = base + size cs in
    let l = rights ls column (n + 2) in
    let r = own_log rs right column n ∷ rights rs right 1 in
    total_append (rights cs column base) (l ++ r) ∙ omega (arith, total_append l r, rights_many cs column base, rights_many ls column (n + 2), rights_many rs right 1, laid_many rs 1 0)
rights_many (fault cs kind) column base = rights_many cs column base

module _ (all : List Log) where
  together_append : (xs ys : List Log) (base to : ℕ) → base + total xs ≡ to → put_together all base (xs ++ ys) ≡ put_together all base xs ++ put_together all to ys
  together_append [] ys base to e = let same : base ≡ to = omega arith in ap (λ k. put_together all k ys) same
  together_append (l ∷ xs) ys base to e =
      let h = hung base (base_of all l.from + l.fork) l.nodes in
      ap (λ zs. h ++ zs) (together_append xs ys (base + length l.nodes) to (omega arith)) ∙ sym (append_assoc h (put_together all (base + length l.nodes) xs) (put_together all to ys))

  -- each log is found where it stands, the first one at this number
  abbrev pub Found : ℕ → List Log → Type 0
  Found base [] = Unit {0}
  Found base (l ∷ ls) = (base_of all l.column ≡ base) × Found (base + length l.nodes) ls

  found_split : (xs ys : List Log) (base to : ℕ) → base + total xs ≡ to → Found base (xs ++ ys) → Found base xs × Found to ys
  found_split [] ys base to e f = let same : base ≡ to = omega arith in let P : ℕ → Type 0 = λ k. Found k ys in (tt, subst P same f)
  found_split (l ∷ xs) ys base to e f = let z = found_split xs ys (base + length l.nodes) to (omega arith) f.1 in ((f.0, z.0), z.1)

  found_at : (ys : List Log) (from to : ℕ) → from ≡ to → Found from ys → Found to ys
  found_at ys from to e f = let P : ℕ → Type 0 = λ k. Found k ys in subst P e f

  -- what is right beneath the strand with a log of its own
  hung_is : (rs : Course) (base under : ℕ) → hung base under (fresh_node 0 Strand 0 ∷ laid rs 1 0) ≡ fresh_node under Strand 0 ∷ laid rs (base + 1) base
  hung_is rs base under = ap (λ xs. fresh_node under Strand 0 ∷ xs) (laid_shifted base rs 1 0 ∙ same_laid rs _ _ _ _ refl (omega arith))

  -- the log of a right strand, and those beside it
  right_is : (rs : Course) (right column n m v : ℕ) (more : List Log) (ns : List Node) → base_of all column + n ≡ m → put_together all (v + 1 + size rs) more ≡ ns
      → put_together all v (own_log rs right column n ∷ more) ≡ fresh_node m Strand 0 ∷ (laid rs (v + 1) v ++ ns)
  right_is rs right column n m v more ns at rest =
      let own = fresh_node 0 Strand 0 ∷ laid rs 1 0 in
      let long : v + length own ≡ v + 1 + size rs = omega (arith, laid_many rs 1 0) in
      ap (λ xs. xs ++ put_together all (v + length own) more) (hung_is rs v (base_of all column + n))
      ∙ ap (λ q. fresh_node q Strand 0 ∷ (laid rs (v + 1) v ++ put_together all (v + length own) more)) at
      ∙ ap (λ xs. fresh_node m Strand 0 ∷ (laid rs (v + 1) v ++ xs)) (ap (λ q. put_together all q more) long ∙ rest)

  -- two lists of logs, one after the other
  both_are : (xs ys : List Log) (cs bs : List Node) (to u : ℕ) → to + total xs ≡ u → put_together all to xs ≡ cs → put_together all u ys ≡ bs → put_together all to (xs ++ ys) ≡ cs ++ bs
  both_are xs ys cs bs to u e f g = together_append xs ys to u e ∙ ap (λ zs. zs ++ put_together all u ys) f ∙ ap (λ zs. cs ++ zs) g

  -- the logs of a course's right strands stand beside it
  beside_is : (cs : Course) (column base own to : ℕ) → base_of all column ≡ own → Found to (rights cs column base) → put_together all to (rights cs column base) ≡ beside cs (own + base) to
  beside_is nothing column base own to e f = refl
  beside_is (act cs kind stamp) column base own to e f = beside_is cs column base own to e f
  beside_is (block cs state stamp end js) column base own to e f =
      let n = base + size cs in
      let more : to + total (rights cs column base) ≡ to + width cs = omega (arith, rights_many cs column base) in
      let z = found_split (rights cs column base) (rights js column (n + 1)) to (to + width cs) more f in
      both_are (rights cs column base) (rights js column (n + 1)) _ _ to (to + width cs) more (beside_is cs column base own to e z.0)
      (beside_is js column (n + 1) own (to + width cs) e z.1 ∙ same_beside js _ _ _ _ (omega arith) refl)
  beside_is (fork cs None stamp ls rs) column base own to e f =
      let n = base + size cs in
      let l = rights ls column (n + 3) in
      let r = rights rs column (n + 3 + size ls) in
      let u = to + width cs in
      let more : to + total (rights cs column base) ≡ u = omega (arith, rights_many cs column base) in
      let next : u + total l ≡ u + width ls = omega (arith, rights_many ls column (n + 3)) in
      let z = found_split (rights cs column base) (l ++ r) to u more f in
      let y = found_split l r u (u + width ls) next z.1 in
      both_are (rights cs column base) (l ++ r) _ _ to u more (beside_is cs column base own to e z.0)
      (both_are l r _ _ u (u + width ls) next (beside_is ls column (n + 3) own u e y.0 ∙ same_beside ls _ _ _ _ (omega arith) refl)
      (beside_is rs column (n + 3 + size ls) own (u + width ls) e y.1 ∙ same_beside rs _ _ _ _ (omega arith) refl))
  beside_is (fork cs (Some right) stamp ls rs) column base own to e f =
      let n = base + size cs in
      let l = rights ls column (n + 2) in
      let r = own_log rs right column n ∷ rights rs right 1 in
      let u = to + width cs in
      let v = u + width ls in
      let more : to + total (rights cs column base) ≡ u = omega (arith, rights_many cs column base) in
      let next : u + total l ≡ v = omega (arith, rights_many ls column (n + 2)) in
      let z = found_split (rights cs column base) (l ++ r) to u more f in
      let y = found_split l r u v next z.1 in
      let long : v + length (fresh_node 0 Strand 0 ∷ laid rs 1 0) ≡ v + 1 + size rs = omega (arith, laid_many rs 1 0) in
      both_are (rights cs column base) (l ++ r) _ _ to u more (beside_is cs column base own to e z.0)
      (both_are l r _ _ u v next (beside_is ls column (n + 2) own u e y.0 ∙ same_beside ls _ _ _ _ (omega arith) refl)
      (right_is rs right column n (own + base + size cs) v (rights rs right 1) _ (omega arith)
      (beside_is rs right 1 v (v + 1 + size rs) y.1.0 (found_at (rights rs right 1) _ _ long y.1.1))))
  beside_is (fault cs kind) column base own to e f = beside_is cs column base own to e f

  -- ## Faults

  module _ (kind : FaultKind) (c x : ℕ) where
    faults_at : (cs : Course) (a b d e to : ℕ) → a ≡ b → d ≡ e → Faults kind (base_of all c + x) cs a d to → Faults kind (base_of all c + x) cs b e to
    faults_at cs a b d e to p q f =
        let P : ℕ → Type 0 = λ k. Faults kind (base_of all c + x) cs k d to in
        let Q : ℕ → Type 0 = λ k. Faults kind (base_of all c + x) cs b k to in
        subst Q q (subst P p f)

    faults_are : (cs : Course) (column strand base own to : ℕ) → base_of all column ≡ own → Found to (rights cs column base) → FaultsIn kind c x cs column strand base
        → Faults kind (base_of all c + x) cs (own + strand) (own + base) to
    faults_are nothing column strand base own to e f i = i
    faults_are (act cs did stamp) column strand base own to e f i = i
    faults_are (block cs Pending stamp end js) column strand base own to e f i =
        let n = base + size cs in
        let more : to + total (rights cs column base) ≡ to + width cs = omega (arith, rights_many cs column base) in
        let z = found_split (rights cs column base) (rights js column (n + 1)) to (to + width cs) more f in
        faults_at js _ _ _ _ (to + width cs) refl (omega arith) (faults_are js column strand (n + 1) own (to + width cs) e z.1 i)
    faults_are (block cs Committed stamp end js) column strand base own to e f i = i
    faults_are (block cs Aborted stamp end js) column strand base own to e f i = i
    faults_are (fork cs None stamp ls rs) column strand base own to e f i =
        let n = base + size cs in
        let l = rights ls column (n + 3) in
        let r = rights rs column (n + 3 + size ls) in
        let u = to + width cs in
        let more : to + total (rights cs column base) ≡ u = omega (arith, rights_many cs column base) in
        let next : u + total l ≡ u + width ls = omega (arith, rights_many ls column (n + 3)) in
        let z = found_split (rights cs column base) (l ++ r) to u more f in
        let y = found_split l r u (u + width ls) next z.1 in
        elim i [
          | inl j ↦ inl (faults_at ls _ _ _ _ u (omega arith) (omega arith) (faults_are ls column (n + 1) (n + 3) own u e y.0 j))
          | inr j ↦ inr (faults_at rs _ _ _ _ (u + width ls) (omega arith) (omega arith) (faults_are rs column (n + 2) (n + 3 + size ls) own (u + width ls) e y.1 j))
        ]
    faults_are (fork cs (Some right) stamp ls rs) column strand base own to e f i =
        let n = base + size cs in
        let l = rights ls column (n + 2) in
        let r = own_log rs right column n ∷ rights rs right 1 in
        let u = to + width cs in
        let v = u + width ls in
        let more : to + total (rights cs column base) ≡ u = omega (arith, rights_many cs column base) in
        let next : u + total l ≡ v = omega (arith, rights_many ls column (n + 2)) in
        let z = found_split (rights cs column base) (l ++ r) to u more f in
        let y = found_split l r u v next z.1 in
        let long : v + length (fresh_node 0 Strand 0 ∷ laid rs 1 0) ≡ v + 1 + size rs = omega (arith, laid_many rs 1 0) in
        let P : ℕ → Type 0 = λ k. Found k (rights rs right 1) in
        elim i [
          | inl j ↦ inl (faults_at ls _ _ _ _ u (omega arith) (omega arith) (faults_are ls column (n + 1) (n + 2) own u e y.0 j))
          | inr j ↦ inr (faults_at rs _ _ _ _ (v + 1 + size rs) (omega arith) refl (faults_are rs right 0 1 v (v + 1 + size rs) y.1.0 (subst P long y.1.1) j))
        ]
    faults_are (fault cs met) column strand base own to e f i = (i.0, ap (λ k. k + strand) (sym e) ∙ ap (λ k. base_of all k + strand) i.1 ∙ ap (λ k. base_of all c + k) i.2)

-- ## Columns that differ

found_more : (x : Log) (ls ks : List Log) (base to : ℕ) → length x.nodes + base ≡ to → HasNone x.column ks → Found ls base ks → Found (x ∷ ls) to ks
found_more x ls [] base to e none f = tt
found_more x ls (k ∷ ks) base to e none f = (
  ap (λ b. cond b 0 (length x.nodes + base_of ls k.column)) (ne_eqb x.column k.column (λ same. none.0 (sym same))) ∙ ap (λ n. length x.nodes + n) f.0 ∙ e,
  found_more x ls ks (base + length k.nodes) (to + length k.nodes) (omega arith) none.1 f.1,
)

all_found : (ls : List Log) → AreApart ls → Found ls 0 ls
all_found [] w = tt
all_found (l ∷ ls) w = (
  ap (λ b. cond b 0 (length l.nodes + base_of ls l.column)) (eq-eqb l.column l.column refl),
  found_more l ls ls 0 (0 + length l.nodes) (omega arith) w.0 (all_found ls w.1),
)

module _ (cs : Course) (w : AreApart (logs_of cs 0 0 0)) where
  abbrev all : List Log
  all = logs_of cs 0 0 0

  abbrev own : List Node
  own = fresh_node 0 Strand 0 ∷ laid cs 1 0

  long : length own ≡ 1 + size cs
  long = omega (arith, laid_many cs 1 0)

  found_rights : Found all (1 + size cs) (rights cs 0 1)
  found_rights = found_at all (rights cs 0 1) (0 + length own) (1 + size cs) (omega (arith, long)) (all_found all w).1

  pub tree_is : tree_of all ≡ fresh_node 0 Strand 0 ∷ (laid cs 1 0 ++ beside cs 1 (1 + size cs))
  tree_is =
      ap (λ xs. xs ++ put_together all (0 + length own) (rights cs 0 1)) (hung_is all cs 0 0)
      ∙ ap (λ k. fresh_node 0 Strand 0 ∷ (laid cs 1 0 ++ put_together all k (rights cs 0 1))) (let e : 0 + length own ≡ 1 + size cs = omega (arith, long) in e)
      ∙ ap (λ xs. fresh_node 0 Strand 0 ∷ (laid cs 1 0 ++ xs)) (beside_is all cs 0 1 0 (1 + size cs) refl found_rights)

  pub faults_in_tree : (kind : FaultKind) (c x : ℕ) → FaultsIn kind c x cs 0 0 1 → Faults kind (base_of all c + x) cs 0 1 (1 + size cs)
  faults_in_tree kind c x i = faults_are all kind c x cs 0 0 1 0 (1 + size cs) refl found_rights i
