-- The form of each operation's word, and how the operation takes its operands. Source: the formats G,
-- I, L, S, B and C of the TRIPS Processor Reference Manual, UT Austin TR-05-19. Own: the roles.
use Rattle.std.specs.Prelude.{ℕ, Bool, true, false}
use Rattle.trips_isa.specs.declared.op.Op.{Op}
use Rattle.trips_isa.specs.declared.op.Op.TheVariants.{Extsb, Extsh, Extsw, Extub, Extuh, Extuw, Mov}
use Rattle.trips_isa.specs.declared.op.Op.TheVariants.{Null, Lb, Lbs, Lh, Lhs, Lw, Lws, Ld, Sb, Sh, Sw}
use Rattle.trips_isa.specs.declared.op.Op.TheVariants.{Sd, Br, Ret, App}
use Rattle.trips_isa.specs.declared.form.Form.{Form}
use Rattle.trips_isa.specs.declared.form.Form.TheVariants.{General, Immediate, Load, Store, Branch}
use Rattle.trips_isa.specs.declared.form.Form.TheVariants.{Constant}
use Rattle.trips_isa.specs.declared.form.Role.{Role}
use Rattle.trips_isa.specs.declared.form.Role.TheVariants.{Free, Nothing, Copy, One, Both}
use Rattle.trips_isa.specs.OperationTable.{row_of}

-- the form of an operation's word
abbrev pub form_of : Op → Form
form_of o = (row_of o).form

-- the role of an operation of form G: most take both operands
abbrev pub general_role : Op → Role
general_role Extsb = One
general_role Extsh = One
general_role Extsw = One
general_role Extub = One
general_role Extuh = One
general_role Extuw = One
general_role Mov = Copy
general_role Null = Nothing
general_role _ = Both

-- the role of a branch: those that go to an address take it
abbrev pub branch_role : Op → Role
branch_role Br = One
branch_role Ret = One
branch_role _ = Free

-- the role of an operation with a constant: `app` puts it behind its operand
abbrev pub constant_role : Op → Role
constant_role App = One
constant_role _ = Free

-- the role of an operation of a form
abbrev pub role_in : Form → Op → Role
role_in General op = general_role op
role_in Immediate op = One
role_in Load op = One
role_in Store op = Both
role_in Branch op = branch_role op
role_in Constant op = constant_role op

-- how an operation takes its operands
abbrev pub role_of : Op → Role
role_of op = role_in (form_of op) op

-- the bytes that a load or a store moves, and 0 for any other operation
abbrev pub size_of : Op → ℕ
size_of Sb = 1
size_of Sh = 2
size_of Sw = 4
size_of Sd = 8
size_of Lb = 1
size_of Lbs = 1
size_of Lh = 2
size_of Lhs = 2
size_of Lw = 4
size_of Lws = 4
size_of Ld = 8
size_of _ = 0

-- whether a role takes a left operand
abbrev pub takes_left : Role → Bool
takes_left Copy = true
takes_left One = true
takes_left Both = true
takes_left _ = false

-- whether a role takes a right operand
abbrev pub takes_right : Role → Bool
takes_right Both = true
takes_right _ = false

-- whether a form is that of loads
abbrev pub is_load : Form → Bool
is_load Load = true
is_load _ = false

-- whether a form is that of stores
abbrev pub is_store : Form → Bool
is_store Store = true
is_store _ = false
