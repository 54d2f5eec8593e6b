-- What holds of a result because something else does.
use Rattle.std.proofs.Common.{Result, Ok, Err}
use Rattle.std.specs.Prelude.{IfErr, IfOk}

pub ok_also : {X E : Type 0} (P Q : X → Type 0) (r : Result X E) → ((x : X) → P x → Q x) → IfOk r P → IfOk r Q
ok_also P Q (Ok x) also holds = also x holds
ok_also P Q (Err e) also holds = tt

pub err_also : {X E : Type 0} (P Q : E → Type 0) (r : Result X E) → ((e : E) → P e → Q e) → IfErr r P → IfErr r Q
err_also P Q (Ok x) also holds = tt
err_also P Q (Err e) also holds = also e holds
