-- What a node of a frame gives of the tokens that have come, its mark, and how both are put on their way.
use Rattle.std.specs.Prelude.{ℕ, suc, Bool, true, false, List}
use Rattle.std.specs.Prelude.{Option, Some, None, slice_get, slice_set}
use Rattle.trips_isa.specs.declared.block.Token.{Token}
use Rattle.trips_isa.specs.declared.node.Node.{Node}
use Rattle.trips_isa.specs.Rule.{Answer}
use Rattle.trips_isa.specs.Places.{nodes_of}
use Rattle.trips_isa.specs.Tables.{node_gives}
use Rattle.trips_isa.specs.Blocks.{computes}
use Rattle.trips_isa.specs.Faults.{node_fault}
use Rattle.trips_isa.specs.Marks.{node_mark}
use Rattle.commit_flush_spec.specs.Marks.{mark_on, mark_sent}
use Rattle.commit_flush_spec.specs.Frames.{Frame, at, is_target}

-- a token put in a place, where it is to be put there
abbrev pub put_if : Bool → List Answer → ℕ → Token → List Answer
put_if true places p t = slice_set places p (Some t)
put_if false places p t = places

-- a node's token, put on its way to each target that the node names
abbrev pub sent : Option Node → List Answer → ℕ → Token → List Answer
sent None places p t = places
sent (Some n) places p t =
    put_if (is_target n.second) (put_if (is_target n.first) places p t) (suc p) t

-- what node x gives of the tokens that have come, where w is the word that its read or load is answered
abbrev pub token_with : Frame → ℕ → ℕ → Answer
token_with f x w =
    node_gives (slice_get (nodes_of f.code) x) (computes f.code (λ y a. w) x) (at f.spots)

-- the mark of what node x gives of the tokens that have come
abbrev pub mark_with : Frame → ℕ → ℕ
mark_with f x = node_mark (slice_get (nodes_of f.code) x) (node_fault f.code x) (at f.spots)
    (mark_on f.marks.spots) (token_with f x 0)

-- the token of node x, where it gives one, on its way from place p on
abbrev pub send : ℕ → ℕ → Answer → Frame → Frame
send x p None f = f
send x p (Some t) f = record f {
  places = sent (slice_get (nodes_of f.code) x) f.places p t;
  marks = mark_sent p (mark_with f x) f.marks;
}
