-- The guesses and the places as the code keeps them: lists in place of functions.
use Rattle.std.specs.Prelude.{◌≡◌, ℕ, zero, suc, ◌+◌, true, false, cond, List, [], ◌∷◌, ◌++◌, length}
use Rattle.std.specs.Prelude.{None, get_or}
use Rattle.ir_forms.specs.declared.flow.FlowNode.{FlowNode}
use Rattle.ir_forms.specs.declared.flow.FlowWrite.{FlowWrite}
use Rattle.ir_forms.specs.declared.flow.FlowBlock.{FlowBlock}
use Rattle.null_outputs.specs.declared.places.Guess.{Guess}
use Rattle.null_outputs.specs.declared.places.Region.{Region}
use Rattle.null_outputs.specs.declared.places.Starts.{Starts}
use Rattle.null_outputs.specs.inside.Covers.{Sure, Want, Places, Cover, cover_of, null_store_of, list_top, list_nodes}
use Rattle.null_outputs.specs.inside.Covers.{list_size}
use Rattle.null_outputs.specs.inside.Groups.{guard_part_size, left_size, right_size, end_of, stores_of}
use Rattle.null_outputs.specs.inside.Groups.{number_open}
use Rattle.null_outputs.specs.inside.Sizes.{starts}
use Rattle.null_outputs.specs.inside.Surely.{sure_of, firm_of, firms}
use Rattle.null_outputs.specs.inside.Wants.{or_all, wants_of, is_closed}

-- where a group begins: what lies past the list is where the region ends
abbrev pub start_in : Region → ℕ → ℕ
start_in r y = get_or r.starts y r.end

-- a region without groups
abbrev pub no_region : Region
no_region = record { starts = []; end = 0 }

-- where each cover stands
abbrev pub places_in : Starts → Places
places_in s = record {
  on_true = start_in s.on_true;
  on_false = start_in s.on_false;
  left = start_in s.left;
  right = start_in s.right;
}

-- what is found to be there, by the firm nodes
abbrev pub sure_in_guess : List FlowNode → Guess → Sure
sure_in_guess nodes g = sure_of nodes (firm_of g.firm)

-- the covers that are made
abbrev pub want_in_guess : Guess → Want
want_in_guess g = or_all g.closed (firm_of g.wants)

-- what gives a null where a source is absent
abbrev pub cover_in : List FlowNode → Guess → Starts → Cover
cover_in nodes g s = cover_of nodes (sure_in_guess nodes g) (places_in s)

-- a region whose groups have these sizes, from p on
pub record IsRegion {A : Type 0} (size : ℕ → A → ℕ) (p : ℕ) (items : List A) (r : Region) : Type 0
  where
    -- where the group of each item begins
    pub starts : r.starts ≡ starts size p 0 items
    -- behind the last group
    pub end : r.end ≡ end_of size p 0 items

-- the nodes that join a write's sources, for any cover
abbrev pub write_part_by : Sure → Cover → ℕ → ℕ → FlowWrite → List FlowNode
write_part_by sure c p j w = cond (sure None w.sources) [] (list_nodes c p w.sources)

-- how many these are
abbrev pub write_size_by : Sure → ℕ → FlowWrite → ℕ
write_size_by sure j w = cond (sure None w.sources) 0 (list_size w.sources)

-- a write whose sources give exactly one token
abbrev pub filled_by : Sure → Cover → ℕ → FlowWrite → FlowWrite
filled_by sure c p w = record {
  register = w.register;
  sources = w.sources ++ cond (sure None w.sources) [] (list_top c p w.sources);
}

-- the writes, whose nodes stand from p on
abbrev pub all_filled_by : Sure → Cover → ℕ → List FlowWrite → List FlowWrite
all_filled_by sure c p [] = []
all_filled_by sure c p (w ∷ rest) =
    filled_by sure c p w ∷ all_filled_by sure c (p + write_size_by sure 0 w) rest

-- the null store of number k, and the nodes that it takes its nulls from
abbrev pub number_part_by : Sure → Cover → FlowBlock → ℕ → ℕ → List FlowNode
number_part_by sure c b p k =
    cond (number_open sure b k)
    (null_store_of k (list_top c (suc p) (stores_of 0 b.nodes k))
    ∷ list_nodes c (suc p) (stores_of 0 b.nodes k)) []

-- how many nodes these are
abbrev pub number_size_by : Sure → FlowBlock → ℕ → ℕ
number_size_by sure b k =
    cond (number_open sure b k) (suc (list_size (stores_of 0 b.nodes k))) 0

-- the groups of m numbers from k on
abbrev pub numbers_by : Sure → Cover → FlowBlock → ℕ → ℕ → ℕ → List FlowNode
numbers_by sure c b p k zero = []
numbers_by sure c b p k (suc m) =
    number_part_by sure c b p k ++ numbers_by sure c b (p + number_size_by sure b k) (suc k) m

-- those of all numbers; not an `abbrev`, since the numeral unrolls
unfoldable pub all_numbers_by : Sure → Cover → FlowBlock → ℕ → List FlowNode
all_numbers_by sure c b p = numbers_by sure c b p 0 32

-- what is guessed of a block: its firm nodes, and which covers are wanted
pub record IsGuess (b : FlowBlock) (g : Guess) : Type 0 where
  pub firm : g.firm ≡ firms b.nodes
  -- the covers that are found to be wanted, from writes and store numbers on
  pub wants : g.wants ≡ wants_of (sure_in_guess b.nodes g) b
  -- whether the covers that are wanted want no others
  pub closed : g.closed ≡ is_closed (sure_in_guess b.nodes g) (firm_of g.wants) b

-- the four regions of covers, one behind another
pub record AreStarts (nodes : List FlowNode) (g : Guess) (s : Starts) : Type 0 where
  -- behind the block's own nodes
  pub on_true : IsRegion (guard_part_size (want_in_guess g) nodes (sure_in_guess nodes g) true)
      (length nodes) nodes s.on_true
  pub on_false : IsRegion (guard_part_size (want_in_guess g) nodes (sure_in_guess nodes g) false)
      s.on_true.end nodes s.on_false
  pub left : IsRegion (left_size (sure_in_guess nodes g) (want_in_guess g)) s.on_false.end nodes
      s.left
  pub right : IsRegion (right_size (sure_in_guess nodes g) (want_in_guess g)) s.left.end nodes
      s.right

-- the block with what is added, and with these writes
abbrev pub with_added : FlowBlock → List FlowNode → List FlowWrite → FlowBlock
with_added b added writes = record {
  nodes = b.nodes ++ added;
  reads = b.reads;
  writes = writes;
  mask = b.mask;
}
