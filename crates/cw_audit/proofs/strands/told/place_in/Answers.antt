use Rattle.std.proofs.Common.{◌≡◌, ℕ, suc, ◌+◌, ap, sym, ◌∙◌, arith, Bool, true, false, Some}
use Rattle.std.specs.Prelude.{◌&&◌, ◌==◌, unwrap_or, if◌then◌else◌}
use Rattle.cw_tree.specs.Nodes.{is_pending, last_below}
use Rattle.cw_tree.specs.Series.{strand_of}
use Rattle.cw_audit.proofs.strands.told.place_in.Goals as goal
use Rattle.cw_audit.proofs.strands.told.place_in.Goals.{then-is_begun_in, else-is_begun_in}

put : (p : ℕ → Bool) (x n m v : ℕ) → m ≡ suc n → p n ≡ true → v ≡ n → v ≡ unwrap_or (last_below p m) x
put p x n m v more h e = e ∙ sym (ap (λ b. unwrap_or (if b then Some n else last_below p n) x) h) ∙ sym (ap (λ k. unwrap_or (last_below p k) x) more)

stays : (p : ℕ → Bool) (x n m v : ℕ) → m ≡ suc n → p n ≡ false → v ≡ unwrap_or (last_below p n) x → v ≡ unwrap_or (last_below p m) x
stays p x n m v more h e = e ∙ sym (ap (λ b. unwrap_or (if b then Some n else last_below p n) x) h) ∙ sym (ap (λ k. unwrap_or (last_below p k) x) more)

pub loop-n-preserved : goal.loop-n-preserved
loop-n-preserved c =
    let t = c.args.tree.now in
    let x = c.args.strand in
    let n = c.loop-n.n in
    let p : ℕ → Bool = λ m. is_pending t m && (strand_of t m == x) in
    elim c.if-is_begun_in.branch [
      | then-is_begun_in w ↦ put p x n (n + 1) c.if-is_begun_in.place (omega arith) (sym c.is_begun_in.ensures ∙ w.if-is_begun_in.true) w.place-is
      | else-is_begun_in w ↦ stays p x n (n + 1) c.if-is_begun_in.place (omega arith) (sym c.is_begun_in.ensures ∙ w.if-is_begun_in.false) (w.place-is ∙ c.loop-n.invariant)
    ]
