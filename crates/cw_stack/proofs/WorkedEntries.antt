-- The journals of the small run, entry by entry.
use Rattle.std.proofs.Common.{refl}
use Rattle.cw_stack.specs.WorkedRun.{AllAgree}

pub all_agree : AllAgree
all_agree = record {
  start = record { live = refl; chain = tt; journal = tt; tree_value = refl; value = refl };
  write = record { live = refl; chain = tt; journal = (record { stamp = refl; wrote = refl; value = refl; old = refl; read = λ w q. absurd (cc q) }, tt); tree_value = refl; value = refl };
  commit = record { live = refl; chain = tt; journal = (record { stamp = refl; wrote = refl; value = refl; old = refl; read = λ w q. absurd (cc q) }, tt); tree_value = refl; value = refl };
  read = record {
    live = refl;
    chain = (refl, tt);
    journal = (record { stamp = refl; wrote = refl; value = refl; old = refl; read = λ w q. absurd (cc q) }, (record { stamp = refl; wrote = refl; value = refl; old = refl; read = λ w q. cc q }, tt));
    tree_value = refl;
    value = refl;
  };
  write_again = record {
    live = refl;
    chain = (refl, (refl, tt));
    journal = (
      record { stamp = refl; wrote = refl; value = refl; old = refl; read = λ w q. absurd (cc q) },
      (
        record { stamp = refl; wrote = refl; value = refl; old = refl; read = λ w q. cc q },
        (record { stamp = refl; wrote = refl; value = refl; old = refl; read = λ w q. absurd (cc q) }, tt),
      ),
    );
    tree_value = refl;
    value = refl;
  };
  roll = record { live = refl; chain = tt; journal = (record { stamp = refl; wrote = refl; value = refl; old = refl; read = λ w q. absurd (cc q) }, tt); tree_value = refl; value = refl };
}
