-- The completed block, for any knowledge of what is surely there and any choice of covers.
use Rattle.std.specs.Prelude.{ℕ, zero, suc, ◌+◌, true, false, cond}
use Rattle.std.specs.Prelude.{List, [], ◌∷◌, ◌++◌, length, None}
use Rattle.ir_forms.specs.declared.flow.FlowNode.{FlowNode}
use Rattle.ir_forms.specs.declared.flow.FlowWrite.{FlowWrite}
use Rattle.ir_forms.specs.declared.flow.FlowBlock.{FlowBlock}
use Rattle.null_outputs.specs.inside.Covers.{null_store_of, Sure, Want, Places, cover_of, Cover, list_top}
use Rattle.null_outputs.specs.inside.Covers.{list_nodes, list_size}
use Rattle.null_outputs.specs.inside.Groups.{guard_part, left_part, right_part, left_size, right_size}
use Rattle.null_outputs.specs.inside.Groups.{guard_part_size, region, start_of, end_of, stores_of, number_open}

-- THE BLOCK

module _ (sure : Sure) (want : Want) (b : FlowBlock) where
  -- where the nulls of guards on true begin: behind the block's own nodes
  abbrev pub trues : ℕ
  trues = length b.nodes

  -- where those of guards on false begin
  abbrev pub falses : ℕ
  falses = end_of (guard_part_size want b.nodes sure true) trues 0 b.nodes

  -- where the covers of left operands begin
  abbrev pub lefts : ℕ
  lefts = end_of (guard_part_size want b.nodes sure false) falses 0 b.nodes

  -- where the covers of right operands begin
  abbrev pub rights : ℕ
  rights = end_of (left_size sure want) lefts 0 b.nodes

  -- where the nodes that join the sources of writes begin
  abbrev pub writes_at : ℕ
  writes_at = end_of (right_size sure want) rights 0 b.nodes

  -- where each cover stands, by its region
  abbrev pub places : Places
  places = record {
    on_true = start_of (guard_part_size want b.nodes sure true) trues 0 b.nodes;
    on_false = start_of (guard_part_size want b.nodes sure false) falses 0 b.nodes;
    left = start_of (left_size sure want) lefts 0 b.nodes;
    right = start_of (right_size sure want) rights 0 b.nodes;
  }

  -- what gives a null where a source is absent, at these places
  abbrev pub cover : Cover
  cover = cover_of b.nodes sure places

  -- writes

  -- the nodes that give a null where all sources of a write are absent
  abbrev pub write_part : ℕ → ℕ → FlowWrite → List FlowNode
  write_part p j w = cond (sure None w.sources) [] (list_nodes cover p w.sources)

  -- how many these are
  abbrev pub write_size : ℕ → FlowWrite → ℕ
  write_size j w = cond (sure None w.sources) 0 (list_size w.sources)

  -- a write whose sources give exactly one token on every path
  abbrev pub filled : ℕ → FlowWrite → FlowWrite
  filled p w = record {
    register = w.register;
    sources = w.sources ++ cond (sure None w.sources) [] (list_top cover p w.sources);
  }

  -- the writes, whose nodes stand from p on
  abbrev pub filled_all : ℕ → ℕ → List FlowWrite → List FlowWrite
  filled_all p j [] = []
  filled_all p j (w ∷ rest) = filled p w ∷ filled_all (p + write_size j w) (suc j) rest

  -- where the null stores begin
  abbrev pub numbers_at : ℕ
  numbers_at = end_of write_size writes_at 0 b.writes

  -- store numbers

  -- a null store of number k where all its stores are absent, and the nodes that it takes its nulls from
  abbrev pub number_part : ℕ → ℕ → List FlowNode
  number_part p k =
      cond (number_open sure b k)
      (null_store_of k (list_top cover (suc p) (stores_of 0 b.nodes k))
      ∷ list_nodes cover (suc p) (stores_of 0 b.nodes k)) []

  -- how many these are
  abbrev pub number_size : ℕ → ℕ
  number_size k = cond (number_open sure b k) (suc (list_size (stores_of 0 b.nodes k))) 0

  -- the groups of m numbers from k on
  abbrev pub numbers_part : ℕ → ℕ → ℕ → List FlowNode
  numbers_part p k zero = []
  numbers_part p k (suc m) = number_part p k ++ numbers_part (p + number_size k) (suc k) m

  -- not an `abbrev`, since the numeral unrolls the recursion in each goal
  unfoldable pub all_numbers : List FlowNode
  all_numbers = numbers_part numbers_at 0 32

  -- the nodes of all writes
  abbrev pub writes_region : List FlowNode
  writes_region = region write_part write_size writes_at 0 b.writes

  -- the nulls of guards on true
  abbrev pub trues_region : List FlowNode
  trues_region =
      region (guard_part want b.nodes cover true) (guard_part_size want b.nodes sure true) trues 0 b.nodes

  -- the nulls of guards on false
  abbrev pub falses_region : List FlowNode
  falses_region =
      region (guard_part want b.nodes cover false) (guard_part_size want b.nodes sure false) falses 0 b.nodes

  -- the covers of left operands
  abbrev pub lefts_region : List FlowNode
  lefts_region = region (left_part sure want cover) (left_size sure want) lefts 0 b.nodes

  -- the covers of right operands
  abbrev pub rights_region : List FlowNode
  rights_region = region (right_part sure want cover) (right_size sure want) rights 0 b.nodes

  -- all that is added, region after region
  abbrev pub added : List FlowNode
  added =
      trues_region
      ++ (falses_region ++ (lefts_region ++ (rights_region ++ (writes_region ++ all_numbers))))

  -- the block with what is added behind its nodes
  abbrev pub completed : FlowBlock
  completed = record {
    nodes = b.nodes ++ added;
    reads = b.reads;
    writes = filled_all writes_at 0 b.writes;
    mask = b.mask;
  }
