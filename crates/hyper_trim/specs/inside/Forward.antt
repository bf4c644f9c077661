-- Items whose operands are forwarded: in the place of a register that has a copy of another register's word, or a
-- constant, its source is read.
use Rattle.std.specs.Prelude.{ℕ, Bool, true, false, cond, nat_eq}
use Rattle.trips_isa.specs.declared.op.Op.{Op}
use Rattle.trips_isa.specs.declared.op.Op.TheVariants.{Mov}
use Rattle.ir_forms.specs.declared.hyper.Source.{Source}
use Rattle.ir_forms.specs.declared.hyper.Source.TheVariants.{Const, Reg}
use Rattle.ir_forms.specs.inside.HyperCode.{Items, Done, Set, Load, Save, If, Tail, Leave, Test, Block}

-- for each register a source that has its word now; at first the register itself
abbrev pub Copies : Type 0
Copies = ℕ → Source

-- nothing is known but of each register itself
abbrev pub none : Copies
none r = Reg r

-- a source that has an operand's word
abbrev pub source_in : Copies → Source → Source
source_in c (Const w) = Const w
source_in c (Reg r) = c r

-- whether a source is a register
abbrev pub reads : ℕ → Source → Bool
reads to (Const w) = false
reads to (Reg r) = nat_eq r to

-- where a register was set to another word, nothing has its old one
abbrev pub unless_read : ℕ → ℕ → Source → Source
unless_read to r s = cond (reads to s) (Reg r) s

-- what is known where a register was set
abbrev pub forget : ℕ → Copies → Copies
forget to c r = cond (nat_eq r to) (Reg r) (unless_read to r (c r))

-- where a register was set to what a source has
abbrev pub copied : ℕ → Source → Copies → Copies
copied to s c r = cond (nat_eq r to) (unless_read to r s) (forget to c r)

-- whether an operation gives its left operand
abbrev pub is_mov : Op → Bool
is_mov Mov = true
is_mov _ = false

-- behind an item that sets a register: of a `mov` it has what its operand had
abbrev pub behind_set : Op → ℕ → Source → Copies → Copies
behind_set op to s c = cond (is_mov op) (copied to s c) (forget to c)

-- what is known behind items, whose operands are forwarded
abbrev pub forget_all : Items → Copies → Copies
forget_all Done c = c
forget_all (Set to op a b rest) c = forget_all rest (forget to c)
forget_all (Load to op a rest) c = forget_all rest (forget to c)
forget_all (Save op a v rest) c = forget_all rest c
forget_all (If x one other rest) c = forget_all rest (forget_all other (forget_all one c))

-- behind items
abbrev pub behind : Items → Copies → Copies
behind Done c = c
behind (Set to op a b rest) c = behind rest (behind_set op to (source_in c a) c)
behind (Load to op a rest) c = behind rest (forget to c)
behind (Save op a v rest) c = behind rest c
behind (If x one other rest) c = behind rest (forget_all other (forget_all one c))

-- the items
abbrev pub forward : Items → Copies → Items
forward Done c = Done
forward (Set to op a b rest) c =
    Set to op (source_in c a) (source_in c b) (forward rest (behind_set op to (source_in c a) c))
forward (Load to op a rest) c = Load to op (source_in c a) (forward rest (forget to c))
forward (Save op a v rest) c = Save op (source_in c a) (source_in c v) (forward rest c)
forward (If x one other rest) c =
    If (source_in c x) (forward one c) (forward other c) (forward rest (forget_all other (forget_all one c)))

-- the tests of a tail
abbrev pub forward_tail : Tail → Copies → Tail
forward_tail (Leave e) c = Leave e
forward_tail (Test x one other) c = Test (source_in c x) (forward_tail one c) (forward_tail other c)

-- a block whose operands are forwarded
abbrev pub forward_block : Block → Block
forward_block b = record { items = forward b.items none; tail = forward_tail b.tail (behind b.items none) }
