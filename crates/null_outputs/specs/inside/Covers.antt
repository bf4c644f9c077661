-- What gives a null token where a source, or each of a list of sources, is absent.
use Rattle.std.specs.Prelude.{ℕ, suc, pos, Bool, true, false, not, cond, ◌&&◌}
use Rattle.std.specs.Prelude.{List, [], ◌∷◌, ◌++◌, length, Option, Some, None, slice_get}
use Rattle.trips_isa.specs.declared.op.Op.{Op}
use Rattle.trips_isa.specs.declared.op.Op.TheVariants as op
use Rattle.trips_isa.specs.declared.block.Sense.{Sense}
use Rattle.trips_isa.specs.declared.block.Sense.TheVariants.{Always, OnTrue, OnFalse}
use Rattle.trips_isa.specs.Forms.{role_of, takes_left, takes_right}
use Rattle.ir_forms.specs.declared.flow.FlowSource.{FlowSource}
use Rattle.ir_forms.specs.declared.flow.FlowSource.TheVariants.{Read, Node}
use Rattle.ir_forms.specs.declared.flow.Guard.{Guard}
use Rattle.ir_forms.specs.declared.flow.FlowNode.{FlowNode}

-- PIECES

-- a node without an immediate and a number
abbrev pub piece : Op → Option Guard → List FlowSource → List FlowSource → FlowNode
piece o g l r = record { op = o; imm = pos 0; number = 0; guard = g; left = l; right = r }

-- a null token where the guard is met
abbrev pub null_under : Option Guard → FlowNode
null_under g = piece op.Null g [] []

-- the token of the sources where the guard is met
abbrev pub copy_under : Option Guard → List FlowSource → FlowNode
copy_under g l = piece op.Mov g l []

-- a null where the guard is met, the left operand there, and the right one a null
abbrev pub both_under : Option Guard → List FlowSource → List FlowSource → FlowNode
both_under g l r = piece op.And g l r

-- a null store of number k where the sources give a null
abbrev pub null_store_of : ℕ → List FlowSource → FlowNode
null_store_of k ms = record {
  op = op.Sb;
  imm = pos 0;
  number = k;
  guard = None;
  left = ms;
  right = ms;
}

-- the sense that is met by a bit
abbrev pub sense_on : Bool → Sense
sense_on true = OnTrue
sense_on false = OnFalse

-- the guard that is met where node x has this bit
abbrev pub guard_on : Bool → ℕ → Guard
guard_on s x = record { node = x; sense = sense_on s }

-- WHAT COVERS WHAT

-- whether some source of a list surely gives a token where the guard is met
abbrev pub Sure : Type 0
Sure = Option Guard → List FlowSource → Bool

-- of which nodes the cover is wanted
abbrev pub Want : Type 0
Want = ℕ → Bool

-- where the cover of each guard, and of each operand of a node, stands
pub record Places : Type 0 where
  -- by the node that is the guard
  pub on_true : ℕ → ℕ
  pub on_false : ℕ → ℕ
  -- by the node whose operand it is
  pub left : ℕ → ℕ
  pub right : ℕ → ℕ

-- the cover of a guard of this sense, at its place
abbrev pub sense_cover : Places → Sense → ℕ → List FlowSource
sense_cover at Always x = []
sense_cover at OnTrue x = Node (at.on_true x) ∷ []
sense_cover at OnFalse x = Node (at.on_false x) ∷ []

-- a null where the guard is not met
abbrev pub guard_cover : Places → Option Guard → List FlowSource
guard_cover at None = []
guard_cover at (Some g) = sense_cover at g.sense g.node

-- whether an operand may be absent where the guard is met
abbrev pub left_open : Sure → FlowNode → Bool
left_open sure n = takes_left (role_of n.op) && not (sure n.guard n.left)

-- whether the right one may be
abbrev pub right_open : Sure → FlowNode → Bool
right_open sure n = takes_right (role_of n.op) && not (sure n.guard n.right)

-- the node at p, where it is wanted
abbrev pub one_if : Bool → ℕ → List FlowSource
one_if b p = cond b (Node p ∷ []) []

-- a null where the node is absent: its guard is not met, or its left operand is absent, or its
-- right one is
abbrev pub node_cover : Sure → Places → ℕ → FlowNode → List FlowSource
node_cover sure at y n =
    guard_cover at n.guard
    ++ (one_if (left_open sure n) (at.left y) ++ one_if (right_open sure n) (at.right y))

-- a node that does not exist has no cover
abbrev pub cover_at : Sure → Places → ℕ → Option FlowNode → List FlowSource
cover_at sure at y None = []
cover_at sure at y (Some n) = node_cover sure at y n

-- a read is never absent
abbrev pub cover_of : List FlowNode → Sure → Places → FlowSource → List FlowSource
cover_of nodes sure at (Read r) = []
cover_of nodes sure at (Node y) = cover_at sure at y (slice_get nodes y)

-- LISTS OF SOURCES

-- what gives a null where a source is absent
abbrev pub Cover : Type 0
Cover = FlowSource → List FlowSource

-- what gives a null where all of a list are absent, whose nodes stand from p on
abbrev pub top_of : Cover → ℕ → FlowSource → List FlowSource → List FlowSource
top_of c p s [] = c s
top_of c p s (t ∷ rest) = Node p ∷ []

-- the same of any list: where it is empty, a null is always there
abbrev pub list_top : Cover → ℕ → List FlowSource → List FlowSource
list_top c p [] = Node p ∷ []
list_top c p (s ∷ rest) = top_of c p s rest

-- a null where all of a list are absent: of the first, and of the others, pair by pair
abbrev pub pairs : Cover → ℕ → FlowSource → List FlowSource → List FlowNode
pairs c p s [] = []
pairs c p s (t ∷ rest) =
    both_under None (c s) (top_of c (suc p) t rest) ∷ pairs c (suc p) t rest

-- the nodes that join the covers of a list
abbrev pub list_nodes : Cover → ℕ → List FlowSource → List FlowNode
list_nodes c p [] = null_under None ∷ []
list_nodes c p (s ∷ rest) = pairs c p s rest

-- how many these are
abbrev pub list_size : List FlowSource → ℕ
list_size [] = 1
list_size (s ∷ rest) = length rest
