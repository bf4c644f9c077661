use Rattle.std.proofs.Common.{◌≡◌, length}
use Rattle.c_pre.specs.Forms.{same_forms}
use Rattle.c_pre.proofs.form.same_forms.Given as goal

abbrev pub invariant-loop-rest : goal.invariant-loop-rest
invariant-loop-rest l = same_forms l.fn.a l.fn.b ≡ same_forms l.rest l.other

abbrev pub decreases-loop-rest : goal.decreases-loop-rest
decreases-loop-rest l = length l.rest
