-- Beside what is believed of Refusals.antt: which stage refuses a text that is no program, with which fault.
use Rattle.c_tree.specs.declared.tree.Program.{Program}
use Rattle.c_front.specs.declared.refusal.Refusal.{Refusal}
use Rattle.c_front.specs.declared.refusal.Refusal.TheVariants.{Typing, Memory}
use Rattle.c_front.specs.Refusals.{HasNoTypes}

-- the tree is refused by its typing, but for want of memory
abbrev pub MayHaveNoTypes : Program → Refusal → Type 0
MayHaveNoTypes tree (Typing e) = HasNoTypes tree e
MayHaveNoTypes tree Memory = Unit {0}
MayHaveNoTypes tree r = ⊥
