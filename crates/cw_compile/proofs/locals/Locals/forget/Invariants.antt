use Rattle.std.proofs.Common.{◌≡◌, ℕ, ◌-◌, length, drop}
use Rattle.cw_compile.proofs.locals.Locals.forget.Given as goal

abbrev pub invariant-loop-self : goal.invariant-loop-self
invariant-loop-self g l = record {
  left : drop (length l.self - l.count) l.self ≡ drop (length l.initial.self - l.count) l.initial.self;
  fewer : (gone : ℕ) × (l.self ≡ drop gone l.initial.self);
}

abbrev pub decreases-loop-self : goal.decreases-loop-self
decreases-loop-self g l = length l.self
