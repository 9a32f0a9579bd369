use Rattle.cw_compile.proofs.naming.checking.in_function.Goals as goal

pub returns : goal.returns
returns c =
    let params = c.in_ok-in_params.ensures in
    rw (← c.new-visible.ensures, params.exact, ← params.visible) c.in_block.ensures.exact
