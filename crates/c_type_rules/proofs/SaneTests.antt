-- No test of a node fails for want of memory.
use Rattle.std.proofs.Common.{ℕ, Bool, true, false, List, [], length, Option, Some, None, nat_eq}
use Rattle.std.specs.Prelude.{not, is_some, ◌||◌, ◌&&◌}
use Rattle.c_tree.specs.declared.token.Kind.{Kind}
use Rattle.c_tree.specs.declared.tree.ArraySize.{ArraySize}
use Rattle.c_tree.specs.declared.tree.ArraySize.TheVariants as size
use Rattle.c_tree.specs.declared.tree.Expr.{Expr}
use Rattle.c_tree.specs.declared.tree.Param.{Param}
use Rattle.c_tree.specs.declared.typed.Callee.{Callee}
use Rattle.c_tree.specs.declared.typed.Slot.{Slot}
use Rattle.c_constant.specs.Need.{need_fits}
use Rattle.c_type_expr.specs.declared.meaning.Meaning.{Meaning}
use Rattle.c_type_expr.specs.declared.meaning.Meaning.TheVariants as meaning
use Rattle.c_type_expr.specs.Scope.{Scope, look_up}
use Rattle.c_type_expr.specs.declared.fault.TypeFault.{TypeFault}
use Rattle.c_type_expr.specs.declared.fault.TypeFault.TheVariants.{Twice, Mismatch, Arity}
use Rattle.c_type_expr.specs.declared.fault.TypeFault.TheVariants.{TooManyScalars, Need, TooLarge}
use Rattle.c_type_expr.specs.declared.role.Role.{Role}
use Rattle.c_type_expr.specs.Roles.{takes_value, takes_element, takes_result}
use Rattle.c_type_expr.specs.Blames.{Blame, first, unless}
use Rattle.c_type_expr.specs.Faults.{unwanted_value, takes_name, name_fault}
use Rattle.c_type_expr.specs.Faults.{fits_sizes, element_fault, callee_fault, call_fault}
use Rattle.c_type_expr.specs.Constants as constants
use Rattle.c_type.specs.declared.file_scope.FileScope.{FileScope}
use Rattle.c_type.specs.declared.state.State.{State}
use Rattle.c_type.specs.Declarations.{twice_fault, scalar_fault, array_fault, no_init}
use Rattle.c_type.specs.States.{is_taken, is_end, named_among}
use Rattle.c_type.specs.Statements.{return_fault}
use Rattle.c_type.specs.Units.{defined_fault, type_fault, function_fault, same_result, same_slots}
use Rattle.c_type.specs.Units.{include_clash, include_fault, place_fault}
use Rattle.c_type.specs.FileScopes.{int_slots, long_slots, eof_name, getchar_name, putchar_name, exit_name}
use Rattle.c_type.specs.Functions as functions
use Rattle.c_type_rules.proofs.FirstFaults.{Sane}
use Rattle.std.specs.Prelude.{cond}
use Rattle.c_tree.specs.declared.token.Kind.TheVariants.{Int}

pub sane_first : (a b : Blame) → Sane a → Sane b → Sane (first a b)
sane_first None b s t = t
sane_first (Some f) b s t = s

-- a test whose fault is none of memory does not fail for want of memory
pub sane_unless : (b : Bool) (f : TypeFault) → Sane (Some f) → Sane (unless b f)
sane_unless true f s = tt
sane_unless false f s = s

-- EXPRESSIONS

-- the test of an unwanted value does not fail for want of memory
pub sane_value : (r : Role) (l : ℕ) → Sane (unwanted_value r l)
sane_value r l = sane_unless (takes_value r) (Mismatch l) tt

-- nor does the test of a name
pub sane_name : (m : Option Meaning) (r : Role) (l : ℕ) → Sane (name_fault m r l)
sane_name None r l = tt
sane_name (Some m) r l = sane_unless (takes_name m r) (Mismatch l) tt

-- nor does the test of an element
pub sane_element : (m : Option Meaning) (two : Bool) (r : Role) (l : ℕ) → Sane (element_fault m two r l)
sane_element None two r l = tt
sane_element (Some (meaning.Array k q p)) two r l =
    sane_unless (fits_sizes q two && takes_element r) (Mismatch l) tt
sane_element (Some (meaning.Scalar k p)) two r l = tt
sane_element (Some (meaning.Function g ps c d)) two r l = tt
sane_element (Some meaning.EndOfFile) two r l = tt

sane_callee : (c : Option Callee) (g : Option Kind) (ps : List Slot) (n : ℕ) (r : Role) (l : ℕ)
    → Sane (callee_fault c g ps n r l)
sane_callee None g ps n r l = tt
sane_callee (Some c) g ps n r l =
    sane_first _ _ (sane_unless (takes_result g r) (Mismatch l) tt) (sane_unless (nat_eq n (length ps)) (Arity l) tt)

-- nor does the test of a call
pub sane_call : (m : Option Meaning) (n : ℕ) (r : Role) (l : ℕ) → Sane (call_fault m n r l)
sane_call None n r l = tt
sane_call (Some (meaning.Function g ps c d)) n r l = sane_callee c g ps n r l
sane_call (Some (meaning.Scalar k p)) n r l = tt
sane_call (Some (meaning.Array k q p)) n r l = tt
sane_call (Some meaning.EndOfFile) n r l = tt

-- nor does the test of a node that is no constant
pub sane_constant : (b : Bool) (l : ℕ) → Sane (constants.no_constant b l)
sane_constant true l = tt
sane_constant false l = tt

-- nor does the test of a name in a constant expression
pub sane_named : (m : Option Meaning) (l : ℕ) → Sane (constants.name_fixed m l)
sane_named None l = tt
sane_named (Some meaning.EndOfFile) l = tt
sane_named (Some (meaning.Scalar k p)) l = tt
sane_named (Some (meaning.Array k q p)) l = tt
sane_named (Some (meaning.Function g ps c d)) l = tt

-- nor does the test of a constant's value
pub sane_word : (o : Option ℕ) (l : ℕ) → Sane (constants.value_fault o l)
sane_word o l = sane_unless (is_some o) (Mismatch l) tt

-- nor does the test of what a constant expression needs
pub sane_need : (e : Expr) → Sane (constants.need_fault e)
sane_need e = sane_unless (need_fits e) (Need e.offset) tt

-- STATEMENTS

sane_twice : (G : Scope) (w : List ℕ) (l : ℕ) → Sane (twice_fault G w l)
sane_twice G w l = sane_unless (not (is_taken G w)) (Twice l) tt

-- nor does the test of a scalar that is declared
pub sane_scalar : (w : List ℕ) (l : ℕ) (v : State) → Sane (scalar_fault w l v)
sane_scalar w l v =
    sane_first _ _ (sane_twice v.names w l) (sane_unless _ (TooManyScalars l) tt)

-- nor does the test of an array that is declared
pub sane_array : (n : ℕ) (k : Kind) (w : List ℕ) (l : ℕ) (G : Scope) → Sane (array_fault n k w l G)
sane_array n k w l G = sane_first _ _ (sane_twice G w l) (sane_unless _ (TooLarge l) tt)

-- nor does the test of a first value that is missing
pub sane_init : (init : Option Expr) (l : ℕ) → Sane (no_init init l)
sane_init None l = tt
sane_init (Some e) l = tt

-- nor does the test of a `return`
pub sane_return : (r : Option Kind) (e : Option Expr) (l : ℕ) → Sane (return_fault r e l)
sane_return None None l = tt
sane_return None (Some e) l = tt
sane_return (Some k) None l = tt
sane_return (Some k) (Some e) l = tt

-- UNITS

-- nor does the test of a parameter's name
pub sane_param : (d : Bool) (G : Scope) (seen : List Param) (o : Option (List ℕ)) (l : ℕ)
    → Sane (functions.name_fault d G seen o l)
sane_param d G seen None l = sane_unless (not d) (Mismatch l) tt
sane_param d G seen (Some w) l =
    sane_unless (not (named_among seen w || is_end (look_up G w))) (Twice l) tt

-- nor does the test of a row's bytes
pub sane_row_bytes : (s : ArraySize) (k : Kind) (l : ℕ) → Sane (functions.row_bytes_fault s k l)
sane_row_bytes size.Scalar k l = tt
sane_row_bytes size.Open k l = tt
sane_row_bytes (size.Sized e) k l = tt
sane_row_bytes (size.Rows o e) k l = sane_unless _ (TooLarge l) tt

sane_defined : (d : Bool) (m : Option Meaning) (l : ℕ) → Sane (defined_fault d m l)
sane_defined d None l = tt
sane_defined d (Some (meaning.Function g ps c s)) l = sane_unless (not (d && s)) (Twice l) tt
sane_defined d (Some (meaning.Scalar k p)) l = tt
sane_defined d (Some (meaning.Array k q p)) l = tt
sane_defined d (Some meaning.EndOfFile) l = tt

sane_type : (g : Option Kind) (ps : List Slot) (m : Option Meaning) (l : ℕ) → Sane (type_fault g ps m l)
sane_type g ps None l = tt
sane_type g ps (Some (meaning.Function h qs c s)) l =
    sane_unless (same_result h g && same_slots qs ps) (Mismatch l) tt
sane_type g ps (Some (meaning.Scalar k p)) l = tt
sane_type g ps (Some (meaning.Array k q p)) l = tt
sane_type g ps (Some meaning.EndOfFile) l = tt

-- nor does the test of a function that is declared
pub sane_function : (d : Bool) (g : Option Kind) (ps : List Slot) (m : Option Meaning) (l : ℕ)
    → Sane (function_fault d g ps m l)
sane_function d g ps m l = sane_first _ _ (sane_defined d m l) (sane_type g ps m l)

sane_clash : (G : Scope) (l : ℕ) → Sane (include_clash G l)
sane_clash G l =
    sane_first _ _ (sane_defined true (look_up G getchar_name) l)
    (sane_first _ _ (sane_defined true (look_up G putchar_name) l)
    (sane_first _ _ (sane_defined true (look_up G exit_name) l)
    (sane_first _ _ (sane_twice G eof_name l)
    (sane_first _ _ (sane_type (Some Int) [] (look_up G getchar_name) l)
    (sane_first _ _ (sane_type (Some Int) int_slots (look_up G putchar_name) l)
    (sane_type None long_slots (look_up G exit_name) l))))))

sane_by : (b : Bool) (f : Blame) → Sane f → Sane (cond b None f)
sane_by true f s = tt
sane_by false f s = s

-- nor does the test of an include line
pub sane_include : (G : Scope) (l : ℕ) → Sane (include_fault G l)
sane_include G l = sane_by (is_end (look_up G eof_name)) _ (sane_clash G l)

-- nor does the test of a global's place
pub sane_place : (n : ℕ) (k : Kind) (w : List ℕ) (l : ℕ) (U : FileScope) → Sane (place_fault n k w l U)
sane_place n k w l U = sane_first _ _ (sane_twice U.names w l) (sane_unless _ (TooLarge l) tt)
