use Rattle.std.proofs.Common.{◌≡◌, ◌∙◌, IfOk, Option, Result, inl, inr, map, string_bytes, subst, sym}
use Rattle.cw_base.specs.declared.memory.OutOfMemory.{OutOfMemory}
use Rattle.cw_words.specs.declared.command.Command.{Command}
use Rattle.cw_words.specs.Words.{command_of}
use Rattle.cw_words.proofs.Looks.{dash_refused}
use Rattle.cw_words.proofs.Matches.{check_entered, keep_entered, load_entered, none_entered, of_refused, races_entered, run_entered, sim_entered}
use Rattle.cw_words.proofs.command.command_of.Goals.{in-OutOfMemory, in_default}
use Rattle.cw_words.proofs.command.command_of.Goals as goal

pub returns-then-has_hyphen_alone : goal.returns-then-has_hyphen_alone
returns-then-has_hyphen_alone c = record { exact = sym (dash_refused (map string_bytes c.args.words.now) (sym c.has_hyphen_alone.ensures.dash ∙ c.if-has_hyphen_alone.true)) }

pub returns-in-Err : goal.returns-in-Err
returns-in-Err c = record {
  exact = elim c.match-kind.branch [
    | in-OutOfMemory w ↦ subst (λ (r : Result (Option Command) OutOfMemory). IfOk r (λ d. d ≡ command_of (map string_bytes c.args.words.now))) (sym w.result-is) tt
    | in_default w ↦ subst (λ (r : Result (Option Command) OutOfMemory). IfOk r (λ d. d ≡ command_of (map string_bytes c.args.words.now))) (sym w.result-is) (elim c.in-Err.ensures.err [
      | inl a ↦ absurd (w.in_default.not-OutOfMemory (c.kind.ensures ∙ a))
      | inr f ↦ sym (of_refused (map string_bytes c.args.words.now) (c.has_hyphen_alone.ensures.even c.if-has_hyphen_alone.false) f)
    ])
  ];
}

pub returns-in_default-subcommand : goal.returns-in_default-subcommand
returns-in_default-subcommand c = record {
  exact = sym (none_entered (map string_bytes c.args.words.now) c.in-Ok.matches c.subcommand.result (c.has_hyphen_alone.ensures.even c.if-has_hyphen_alone.false) c.in-Ok.ensures.ok c.subcommand.ensures.name c.subcommand.ensures.rows c.in_default-subcommand.is);
}

pub returns-then-eq : goal.returns-then-eq
returns-then-eq c = record {
  exact = subst (λ (e : Option Command). IfOk c.run_with.result (λ d. d ≡ e)) (sym (run_entered (map string_bytes c.args.words.now) c.in-Ok.matches c.subcommand.result (c.has_hyphen_alone.ensures.even c.if-has_hyphen_alone.false) c.in-Ok.ensures.ok c.subcommand.ensures.name c.subcommand.ensures.rows
      c.in-Some.name c.in-Some.found c.in-Some.is (sym c.eq.ensures ∙ c.if-eq.true))) c.run_with.ensures;
}

pub returns-then-eq-2 : goal.returns-then-eq-2
returns-then-eq-2 c = record {
  exact = subst (λ (e : Option Command). IfOk c.sim_with.result (λ d. d ≡ e)) (sym (sim_entered (map string_bytes c.args.words.now) c.in-Ok.matches c.subcommand.result (c.has_hyphen_alone.ensures.even c.if-has_hyphen_alone.false) c.in-Ok.ensures.ok c.subcommand.ensures.name c.subcommand.ensures.rows
      c.in-Some.name c.in-Some.found c.in-Some.is (sym c.eq.ensures ∙ c.if-eq.false) (sym c.eq-else-eq.ensures ∙ c.if-eq-2.true))) c.sim_with.ensures;
}

pub returns-then-eq-3 : goal.returns-then-eq-3
returns-then-eq-3 c = record {
  exact = c.load_with.ensures ∙ sym (load_entered (map string_bytes c.args.words.now) c.in-Ok.matches c.subcommand.result (c.has_hyphen_alone.ensures.even c.if-has_hyphen_alone.false) c.in-Ok.ensures.ok c.subcommand.ensures.name c.subcommand.ensures.rows
      c.in-Some.name c.in-Some.found c.in-Some.is (sym c.eq.ensures ∙ c.if-eq.false) (sym c.eq-else-eq.ensures ∙ c.if-eq-2.false) (sym c.eq-else-eq-2.ensures ∙ c.if-eq-3.true));
}

pub returns-then-eq-4 : goal.returns-then-eq-4
returns-then-eq-4 c = record {
  exact = subst (λ (e : Option Command). IfOk c.keep_with.result (λ d. d ≡ e)) (sym (keep_entered (map string_bytes c.args.words.now) c.in-Ok.matches c.subcommand.result (c.has_hyphen_alone.ensures.even c.if-has_hyphen_alone.false) c.in-Ok.ensures.ok c.subcommand.ensures.name c.subcommand.ensures.rows
      c.in-Some.name c.in-Some.found c.in-Some.is (sym c.eq.ensures ∙ c.if-eq.false) (sym c.eq-else-eq.ensures ∙ c.if-eq-2.false) (sym c.eq-else-eq-2.ensures ∙ c.if-eq-3.false) (sym c.eq-else-eq-3.ensures ∙ c.if-eq-4.true))) c.keep_with.ensures;
}

pub returns-then-eq-5 : goal.returns-then-eq-5
returns-then-eq-5 c = record {
  exact = subst (λ (e : Option Command). IfOk c.races_with.result (λ d. d ≡ e)) (sym (races_entered (map string_bytes c.args.words.now) c.in-Ok.matches c.subcommand.result (c.has_hyphen_alone.ensures.even c.if-has_hyphen_alone.false) c.in-Ok.ensures.ok c.subcommand.ensures.name c.subcommand.ensures.rows
      c.in-Some.name c.in-Some.found c.in-Some.is (sym c.eq.ensures ∙ c.if-eq.false) (sym c.eq-else-eq.ensures ∙ c.if-eq-2.false) (sym c.eq-else-eq-2.ensures ∙ c.if-eq-3.false) (sym c.eq-else-eq-3.ensures ∙ c.if-eq-4.false) (sym c.eq-else-eq-4.ensures ∙ c.if-eq-5.true))) c.races_with.ensures;
}

pub returns-then-eq-6 : goal.returns-then-eq-6
returns-then-eq-6 c = record {
  exact = c.check_with.ensures ∙ sym (check_entered (map string_bytes c.args.words.now) c.in-Ok.matches c.subcommand.result (c.has_hyphen_alone.ensures.even c.if-has_hyphen_alone.false) c.in-Ok.ensures.ok c.subcommand.ensures.name c.subcommand.ensures.rows
      c.in-Some.name c.in-Some.found c.in-Some.is (sym c.eq.ensures ∙ c.if-eq.false) (sym c.eq-else-eq.ensures ∙ c.if-eq-2.false) (sym c.eq-else-eq-2.ensures ∙ c.if-eq-3.false) (sym c.eq-else-eq-3.ensures ∙ c.if-eq-4.false) (sym c.eq-else-eq-4.ensures ∙ c.if-eq-5.false) (sym c.eq-else-eq-5.ensures ∙ c.if-eq-6.true));
}
