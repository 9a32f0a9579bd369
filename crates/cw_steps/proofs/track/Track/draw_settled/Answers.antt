use Rattle.std.proofs.Common.{◌≡◌, ℕ, ◌+◌, arith, ap, sym, subst}
use Rattle.cw_steps.specs.Tracks.{added, IsReady}
use Rattle.cw_steps.proofs.track.Track.draw_settled.Goals as goal

pub returns-in-Access-clause-ready : goal.returns-in-Access-clause-ready
returns-in-Access-clause-ready c = subst (λ (m : ℕ). (n : ℕ) → IsReady c.args.self.now (m + n) → IsReady c.add.new.self n) (sym (ap added c.in-Access.is)) c.add.ensures.ready

pub returns-in-Out-clause-ready : goal.returns-in-Out-clause-ready
returns-in-Out-clause-ready c = subst (λ (m : ℕ). (n : ℕ) → IsReady c.args.self.now (m + n) → IsReady c.add-in-Out.new.self n) (sym (ap added c.in-Out.is)) c.add-in-Out.ensures.ready

pub returns-in-Cancel-clause-ready : goal.returns-in-Cancel-clause-ready
returns-in-Cancel-clause-ready c = subst (λ (m : ℕ). (n : ℕ) → IsReady c.args.self.now (m + n) → IsReady c.add-in-Cancel.new.self n) (sym (ap added c.in-Cancel.is)) c.add-in-Cancel.ensures.ready

pub returns-in-Begin-clause-ready : goal.returns-in-Begin-clause-ready
returns-in-Begin-clause-ready c = subst (λ (m : ℕ). (n : ℕ) → IsReady c.args.self.now (m + n) → IsReady c.begin.new.self n) (sym (ap added c.in-Begin.is)) c.begin.ensures.ready

pub returns-in-End-true-clause-ready : goal.returns-in-End-true-clause-ready
returns-in-End-true-clause-ready c = λ n h. c.close.ensures.ready n (subst (IsReady c.args.self.now) (let e : added c.args.what ≡ 0 = ap added c.in-End-true.is in omega arith) h)

pub returns-in-End-false-clause-ready : goal.returns-in-End-false-clause-ready
returns-in-End-false-clause-ready c = λ n h. c.close-in-End-false.ensures.ready n (subst (IsReady c.args.self.now) (let e : added c.args.what ≡ 0 = ap added c.in-End-false.is in omega arith) h)

pub returns-in-Fork-clause-ready : goal.returns-in-Fork-clause-ready
returns-in-Fork-clause-ready c = subst (λ (m : ℕ). (n : ℕ) → IsReady c.args.self.now (m + n) → IsReady c.fork.new.self n) (sym (ap added c.in-Fork.is)) c.fork.ensures.ready
