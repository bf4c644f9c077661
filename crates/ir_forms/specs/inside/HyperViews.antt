-- The declared hyper programs, seen as plain data.
use Rattle.std.specs.Prelude.{List, [], ◌∷◌, map}
use Rattle.ir_forms.specs.declared.hyper.HyperItem.{HyperItem, fold-HyperItem}
use Rattle.ir_forms.specs.declared.hyper.HyperItem.TheOpen.{HyperItem-F}
use Rattle.ir_forms.specs.declared.hyper.HyperItem.TheOpen as item
use Rattle.ir_forms.specs.declared.hyper.Tail.TheOpen.{Tail-F}
use Rattle.ir_forms.specs.declared.hyper.Tail.TheOpen as tail
use Rattle.ir_forms.specs.declared.hyper.Tail.{fold-Tail}
use Rattle.ir_forms.specs.declared.hyper.Tail as declared
use Rattle.ir_forms.specs.declared.hyper.HyperBlock.{HyperBlock}
use Rattle.ir_forms.specs.declared.hyper.HyperProgram.{HyperProgram}
use Rattle.ir_forms.specs.inside.HyperCode.{Items, Done, Set, Load, Save, If, Tail, Leave, Test, Block}

-- an item is what it puts before others
abbrev pub Before : Type 0
Before = Items → Items

-- items in a list, one before the other
abbrev pub all_before : List Before → Items
all_before [] = Done
all_before (f ∷ fs) = f (all_before fs)

-- one level of an item, where its parts are seen so already
abbrev pub before_by : HyperItem-F Before → Before
before_by (item.Set to op a b) rest = Set to op a b rest
before_by (item.Load to op a) rest = Load to op a rest
before_by (item.Save op a v) rest = Save op a v rest
before_by (item.If t one other) rest = If t (all_before one) (all_before other) rest

-- an item, and then others
unfoldable pub then_items : HyperItem → Before
then_items i = fold-HyperItem Before before_by i

-- declared items, in order
abbrev pub items_of : List HyperItem → Items
items_of all = all_before (map then_items all)

-- one level of a tail, where its parts are seen so already
abbrev pub tail_by : Tail-F Tail → Tail
tail_by (tail.Leave e) = Leave e
tail_by (tail.Test t one other) = Test t one other

-- a declared tail
unfoldable pub tail_of : declared.Tail → Tail
tail_of t = fold-Tail Tail tail_by t

-- a declared block
abbrev pub block_of : HyperBlock → Block
block_of b = record { items = items_of b.items; tail = tail_of b.tail }

-- the blocks of a declared program
abbrev pub blocks_of : HyperProgram → List Block
blocks_of p = map block_of p.blocks
