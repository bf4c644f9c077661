use Rattle.std.proofs.Common.{inl, inr, refl}
use Rattle.machine_save.specs.FirstFault.{no_image}
use Rattle.machine_save.proofs.opening.image_fault.Goals as goal

pub returns-in-Memory : goal.returns-in-Memory
returns-in-Memory c = λ part h. inl refl

pub returns-in_default : goal.returns-in_default
returns-in_default c = λ part h. elim h [
  | inl m ↦ absurd (c.in_default.not-Memory m)
  | inr f ↦ inr (λ next. no_image c.args.fault f)
]
