-- The definitions, pinned to worked rows.
use Rattle.std.proofs.Common.{◌≡◌, ◌+◌, [], ◌∷◌, refl}
use Rattle.std.specs.Prelude.{None, true, false}
use Rattle.trips_isa.specs.declared.op.Op.TheVariants as op
use Rattle.ir_forms.specs.declared.hyper.Source.TheVariants.{Const, Reg}
use Rattle.ir_forms.specs.declared.hyper.Exit.TheVariants as exit
use Rattle.ir_forms.specs.declared.flow.FlowSource.TheVariants.{Read, Node}
use Rattle.ir_forms.specs.inside.HyperCode.{Done, Set, Save, If, Leave, Test, Block}
use Rattle.hyper_narrow.specs.declared.narrowed.Lasting.TheVariants.{Those}
use Rattle.hyper_narrow.specs.inside.NarrowedCode.{Narrowed, whole}
use Rattle.predication.specs.inside.Environments.{under}
use Rattle.predication.specs.inside.Operands.{node_of, constant_of, mov_of, test_of}
use Rattle.predication.specs.inside.Tails.{branch_of, address_nodes}
use Rattle.predication.specs.inside.Converted.{all_nodes, predicated}

-- a test's word is the guard itself, and the constant has no guard
abbrev small : Block
small = record {
  items = Set 5 op.Tlt (Reg 3) (Reg 4) (If (Reg 5) (Set 6 op.Add (Reg 3) (Const 1) Done) Done Done);
  tail = Leave (exit.Jump 7);
}

pub small_nodes : all_nodes small ≡
    node_of op.Tlt 0 None (Read 3 ∷ []) (Read 4 ∷ []) ∷ constant_of op.Genu 1 []
    ∷ node_of op.Add 0 (under 0 true) (Read 3 ∷ []) (Node 1 ∷ []) ∷ branch_of op.Bro 7 0 None [] ∷ []
small_nodes = refl

pub small_writes : (predicated (whole small)).writes ≡
    record { register = 6; sources = Node 2 ∷ [] } ∷ record { register = 5; sources = Node 0 ∷ [] } ∷ []
small_writes = refl

pub small_reads : (predicated (whole small)).reads ≡ 4 ∷ 3 ∷ []
small_reads = refl

-- only register 6 outlasts the block: the test's word is read in the block, and not written
abbrev narrow : Narrowed
narrow = record { block = small; lasting = Those 64 }

pub narrow_writes : (predicated narrow).writes ≡ record { register = 6; sources = Node 2 ∷ [] } ∷ []
narrow_writes = refl

-- a store under a fresh test, and two exits, one of them a call
abbrev calling : Block
calling = record {
  items = If (Reg 3) (Save op.Sd (Reg 4) (Const 65536) Done) Done Done;
  tail = Test (Reg 3) (Leave (exit.Call 8 9)) (Leave exit.Return);
}

pub calling_nodes : all_nodes calling ≡
    test_of None (Read 3 ∷ []) ∷ constant_of op.Genu 1 [] ∷ constant_of op.App 0 (Node 1 ∷ [])
    ∷ node_of op.Sd 0 (under 0 true) (Read 4 ∷ []) (Node 2 ∷ [])
    ∷ test_of None (Read 3 ∷ []) ∷ constant_of op.Genu 0 [] ∷ constant_of op.App 9 (Node 5 ∷ [])
    ∷ mov_of (under 4 true) (Node 6 ∷ []) ∷ branch_of op.Callo 8 0 (under 4 true) []
    ∷ branch_of op.Ret 0 1 (under 4 false) (Read 2 ∷ []) ∷ []
calling_nodes = refl

pub calling_mask : (predicated (whole calling)).mask ≡ 1
calling_mask = refl

-- a block to come back to that has no address yet: both halves hold its label
pub label_nodes : address_nodes 0 (4294967296 + 9) ≡
    constant_of op.Genu 65545 [] ∷ constant_of op.App 65545 (Node 0 ∷ []) ∷ []
label_nodes = refl
